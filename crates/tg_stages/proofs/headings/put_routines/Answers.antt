use Rattle.std.proofs.Common.{[], ◌∷◌, ◌++◌, ◌+◌, drop, sym, ap, ◌∙◌}
use Rattle.std.specs.Prelude.{map}
use Rattle.tg_stages.specs.Headings.{undeclared, routine_names}
use Rattle.tg_stages.proofs.Routines.{routines_more}
use Rattle.tg_stages.proofs.headings.put_routines.Goals as goal

pub loop-at-preserved : goal.loop-at-preserved
loop-at-preserved c =
    let before = c.loop-at.all.items in
    let rest = map undeclared (drop (c.loop-at.at + 1) routine_names) in
    c.loop-at.invariant ∙ routines_more before c.loop-at.at c.loop-at-test.true
    ∙ ap (λ xs. xs ++ rest) (ap (λ n. before ++ undeclared n ∷ []) (sym c.routine_name.ensures) ∙ sym c.in_ok-put_undeclared.ensures)
