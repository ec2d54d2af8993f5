use Rattle.std.proofs.Common.{◌≡◌, ◌<◌, ℕ, Option, false, not, IfSome, get_or, sym, ap, subst, arith}
use Rattle.std.proofs.lemmas.List.Elements.{All-set}
use Rattle.tg_graph.specs.Interference.{colours}
use Rattle.tg_coalescing_round.specs.declared.selection.Selection.TheInside.{Inside}
use Rattle.tg_coalescing_round.specs.mirror.Selecting.{AreColours}
use Rattle.tg_coalescing_round.proofs.Selecting.{found_below}
use Rattle.tg_coalescing_round.proofs.selection.Selection.pop.Goals as goal
use Rattle.tg_coalescing_round.proofs.selection.Selection.pop.Goals.{then-is_none+in_ok-push, else-is_none}

pub invariant_of-self-2 : goal.invariant_of-self-2
invariant_of-self-2 c =
    let P = λ (o : Option ℕ). IfSome o (λ colour. colour < colours) in
    let same : c.if-is_none.self-inside.colours.items ≡ c.self.inside.colours.items =
    elim c.if-is_none.branch [
      | then-is_none+in_ok-push w ↦ ap (λ (s : Inside). s.colours.items) w.self-inside-is
      | else-is_none w ↦ ap (λ (s : Inside). s.colours.items) w.self-inside-is
    ] in
    let free : P c.first_free-free.result =
    subst P (sym c.first_free-free.ensures)
    (found_below (λ colour. not (get_or c.taken_around.result colour false)) 0 25 25 (omega arith)) in
    All-set P c.if-is_none.self-inside.colours.items c.args.node c.first_free-free.result free
    (subst AreColours (sym same) c.self.invariant)
