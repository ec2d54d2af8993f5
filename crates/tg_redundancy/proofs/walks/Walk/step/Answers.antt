use Rattle.std.proofs.Common.{ap, subst}
use Rattle.std.proofs.lemmas.Result.{on_ok_weaker}
use Rattle.tg_redundancy.specs.mirror.Known.{by_reading, most_facts}
use Rattle.tg_redundancy.specs.glue.Walks.{state_of, HasStepped}
use Rattle.tg_redundancy.proofs.walks.Walk.step.Goals as goal

pub returns-in-Some : goal.returns-in-Some
returns-in-Some c =
    on_ok_weaker c.give.result
    (subst (HasStepped c.give.new.self c.args.list.now.items c.give.new.list.items)
    (ap (λ o. by_reading most_facts o c.args.from_behind c.args.one.now (state_of c.args.self.now)) c.in-Some.ensures))
    c.give.ensures

pub returns-in-None : goal.returns-in-None
returns-in-None c =
    on_ok_weaker c.pass.result
    (subst (HasStepped c.pass.new.self c.args.list.now.items c.pass.new.list.items)
    (ap (λ o. by_reading most_facts o c.args.from_behind c.args.one.now (state_of c.args.self.now)) c.in-None.ensures))
    c.pass.ensures
