use Rattle.std.proofs.Common.{ap, ◌∙◌}
use Rattle.tg_isa.specs.Names.{register_name}
use Rattle.tg_asm.proofs.Named.{named_here, named_later}
use Rattle.tg_asm.proofs.registers.named.Goals as goal

pub returns-then-eq-clause-value : goal.returns-then-eq-clause-value
returns-then-eq-clause-value c = named_here _ _ _ c.loop-r.invariant c.loop-r-test.true (c.as_bytes.ensures.value
    ∙ c.name.ensures ∙ ap register_name c.new.ensures) c.if-eq.ensures

pub loop-r-preserved : goal.loop-r-preserved
loop-r-preserved c = named_later _ _ _ c.loop-r.invariant c.loop-r-test.true (c.as_bytes.ensures.value ∙ c.name.ensures
    ∙ ap register_name c.new.ensures) c.if-eq.ensures
