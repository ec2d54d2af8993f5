-- Which nodes are left, after nodes change their lists.
use Rattle.std.proofs.Common.{◌≡◌, ℕ, Bool, true, false, not, ◌||◌, refl, sym, ap, ◌∙◌, ⊎_elim}
use Rattle.std.specs.Prelude.{◌==◌, if◌then◌else◌}
use Rattle.std.proofs.lemmas.Bool.{and_parts, cases_eq, cond-false, cond-true, eq-eqb, ne_eqb}
use Rattle.tg_graph.specs.declared.worklists.Worklist.{Worklist}
use Rattle.tg_graph.specs.declared.worklists.Worklist.TheVariants.{Simplify, Freeze, Spill, Stacked, Merged}
use Rattle.tg_graph.specs.Interference.{is_among}
use Rattle.tg_graph.specs.Lists.{Lists, moved, number}
use Rattle.tg_graph.proofs.Partitions.{moved_tells}
use Rattle.tg_coalescing_round.specs.glue.Works.{Work, holds_remaining, is_left, is_open, list_of, relisted}
use Rattle.tg_coalescing_round.proofs.Places.{remaining_by}

left_moved : (l : Lists) (x z : ℕ) (list : Worklist) →
    is_left (moved l x list) z ≡ (if z == x then holds_remaining list else is_left l z)
left_moved l x z list =
    ap (λ b. not (b || is_among z (moved l x list).merged)) (moved_tells l x list Stacked z)
    ∙ (ap (λ b. not ((if z == x then 4 == number list else is_among z l.stacked) || b))
    (moved_tells l x list Merged z)
    ∙ by (z == x))
  where
    by : (b : Bool) →
        not ((if b then 4 == number list else is_among z l.stacked) ||
        (if b then 5 == number list else is_among z l.merged)) ≡
        (if b then holds_remaining list else is_left l z)
    by true = remaining_by list
    by false = refl

-- what is left after a node was taken out or merged was left before
pub left_then : (l : Lists) (x z : ℕ) (list : Worklist) → holds_remaining list ≡ false →
    is_left (moved l x list) z ≡ true →
    is_left l z ≡ true
left_then l x z list g e = by (z == x) (sym (left_moved l x z list) ∙ e)
  where
    by : (b : Bool) → (if b then holds_remaining list else is_left l z) ≡ true → is_left l z ≡ true
    by true h = cc
    by false h = h

remaining_list : (low related : Bool) →
    holds_remaining (if low then (if related then Freeze else Simplify) else Spill) ≡ true
remaining_list true true = refl
remaining_list true false = refl
remaining_list false related = refl

listed_left : (w : Work) (x z : ℕ) (list : Worklist) (b : Bool) → (b ≡ true → is_left w.lists x ≡ true) →
    holds_remaining list ≡ true →
    is_left (if b then record w { lists = moved w.lists x list } else w).lists z ≡ is_left w.lists z
listed_left w x z list true h r =
    left_moved w.lists x z list
    ∙ ⊎_elim
    (λ (e : z ≡ x).
    cond-true (z == x) (holds_remaining list) (is_left w.lists z) (eq-eqb z x e)
    ∙ (r ∙ (sym (h refl) ∙ ap (is_left w.lists) (sym e))))
    (λ (d : z ≡ x → ⊥). cond-false (z == x) (holds_remaining list) (is_left w.lists z) (ne_eqb z x d))
    (cases_eq z x)
listed_left w x z list false h r = refl

pub relisted_left : (x : ℕ) (w : Work) (z : ℕ) → is_left (relisted x w).lists z ≡ is_left w.lists z
unfolding relisted
relisted_left x w z =
    listed_left w x z (list_of w x) (is_open w x) (λ e. (and_parts _ (is_left w.lists x) e).1) (remaining_list _ _)
