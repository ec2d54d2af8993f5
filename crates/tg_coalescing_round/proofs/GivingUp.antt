-- How the moves of a class are given up, by those so far.
use Rattle.std.proofs.Common.{◌≡◌, ℕ, ◌<◌, List, length, take, sym, ap, ◌∙◌, subst, arith}
use Rattle.std.specs.Prelude.{fold}
use Rattle.std.proofs.lemmas.List.Elements.{All-take}
use Rattle.tg_coalescing_round.specs.glue.Lists.{list_at}
use Rattle.tg_coalescing_round.specs.glue.Works.{Work}
use Rattle.tg_coalescing_round.specs.mirror.Steps.{freeze_one}
use Rattle.tg_coalescing_round.specs.glue.Standing.{IsOrderly}
use Rattle.tg_coalescing_round.proofs.Ends.{CanSettle, can_freeze_all, can_settle, frozen_touching}

module _ (x : ℕ) (w : Work) where
  abbrev pub listed : List ℕ
  listed = list_at w.moves.touching x

  -- after so many are
  abbrev pub frozen_to : ℕ → Work
  frozen_to k = fold freeze_one w (take k listed)

  -- of any work that is as it is then
  module _ (k : ℕ) (v : Work) (so_far : v ≡ frozen_to k) where
    pub same_list : list_at v.moves.touching x ≡ listed
    same_list =
        ap (λ (u : Work). list_at u.moves.touching x) so_far
        ∙ ap (λ ts. list_at ts x) (frozen_touching w (take k listed))

    -- the moves gone through are those listed at first
    pub moves_there : (u : Work) (is : List ℕ) → u ≡ v → is ≡ list_at u.moves.touching x → is ≡ listed
    moves_there u is e f = f ∙ (ap (λ (t : Work). list_at t.moves.touching x) e ∙ same_list)

    pub place_there : (u t : Work) (is js : List ℕ) → u ≡ v → is ≡ list_at u.moves.touching x → t ≡ w →
        js ≡ list_at t.moves.touching x → k < length js →
        k < length is
    place_there u t is js e f g h l =
        let all : js ≡ listed = h ∙ ap (λ (s : Work). list_at s.moves.touching x) g in
        omega (arith, ap length all, ap length (moves_there u is e f), l)

    pub same_size : length v.moves.touching ≡ length w.moves.touching
    same_size = ap (λ (u : Work). length u.moves.touching) so_far ∙ ap length (frozen_touching w (take k listed))

    pub settles_there : IsOrderly w → CanSettle v
    settles_there o =
        subst CanSettle (sym so_far)
        (can_freeze_all w (take k listed) (can_settle w o.sized o.grouping o.table o.ends)
        (All-take (λ i. i < length w.moves.moves) k listed (o.table.touching_below x)))
