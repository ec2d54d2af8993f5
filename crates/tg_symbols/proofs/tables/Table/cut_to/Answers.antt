use Rattle.std.proofs.Common.{arith}
use Rattle.tg_symbols.proofs.TableLemmas.{cut_none, cut_one, cut_is}
use Rattle.tg_symbols.proofs.tables.Table.cut_to.Goals as goal

pub loop-self-init : goal.loop-self-init
loop-self-init g c = cut_none _ _ c.requires

pub loop-self-preserved : goal.loop-self-preserved
loop-self-preserved g c =
    cut_one c.args.len c.args.self.now c.loop-self.self c.pop.new.self c.loop-self.invariant
    (omega (arith, c.loop-self-test.true, c.len.ensures)) c.pop.ensures

pub returns : goal.returns
returns g c =
    λ front back e d. cut_is c.args.len c.args.self.now c.loop-self.self front back c.loop-self.invariant
    (omega (arith, c.loop-self-test.false, c.len.ensures)) e d
