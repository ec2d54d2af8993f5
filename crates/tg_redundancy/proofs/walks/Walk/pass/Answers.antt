use Rattle.std.proofs.Common.{sym, ap, ◌∙◌, subst}
use Rattle.std.proofs.lemmas.Result.{on_ok_weaker}
use Rattle.tg_instr.specs.Shapes.{shape}
use Rattle.tg_redundancy.specs.mirror.Known.{by_shape, most_facts}
use Rattle.tg_redundancy.specs.glue.Walks.{state_of, HasStepped}
use Rattle.tg_redundancy.proofs.Walking.{stays_by}
use Rattle.tg_redundancy.proofs.walks.Walk.pass.Goals as goal

pub returns-in-Branch : goal.returns-in-Branch
returns-in-Branch c =
    let one = c.args.one.now in
    on_ok_weaker c.test.result
    (subst (HasStepped c.test.new.self c.args.list.now.items c.test.new.list.items)
    (ap (λ i. by_shape most_facts (shape i) c.args.from_behind one (state_of c.args.self.now)) (sym c.in-Branch.is)))
    c.test.ensures

pub returns : goal.returns
returns c =
    on_ok_weaker c.push_same.result
    (λ list. subst (HasStepped c.learn.new.self c.args.list.now.items c.push_same.new.list.items)
    (sym (stays_by c.args.one.now c.in_default.not-Branch c.args.from_behind (state_of c.args.self.now)))
    (record { state = c.in_ok-learn.ensures; list = list }))
    c.push_same.ensures
