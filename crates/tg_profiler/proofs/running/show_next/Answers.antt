use Rattle.std.proofs.Common.{◌≡◌, Some, None, refl, sym, ◌∙◌}
use Rattle.tg_machine.specs.Fetches.{seen_next}
use Rattle.tg_profiler.proofs.running.show_next.Goals as goal

pub see_all-requires : goal.see_all-requires
see_all-requires g c =
    let is : seen_next c.args.machine.now ≡ Some c.in-Some.seen = sym c.fetch.ensures ∙ c.in-Some.is in
    rw is at c.requires

pub returns-in-Some : goal.returns-in-Some
returns-in-Some g c =
    let is : seen_next c.args.machine.now ≡ Some c.in-Some.seen = sym c.fetch.ensures ∙ c.in-Some.is in
    rw is c.see_all.ensures

pub returns-in_default : goal.returns-in_default
returns-in_default g c =
    let is : seen_next c.args.machine.now ≡ None = sym c.fetch.ensures ∙ c.in_default.is in
    rw is refl
