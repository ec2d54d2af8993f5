-- One class has the moves of another.
use Rattle.std.proofs.Common.{◌≡◌, ◌≢◌, ℕ, ◌+◌, ◌*◌, ◌<◌, ◌≤◌, Bool, true, false, ◌||◌, ◌⊎◌, inl, inr}
use Rattle.std.proofs.Common.{[], ◌++◌, length, get_or, All, cond, refl, sym, ap, subst, ◌∙◌, arith, ⊎_elim}
use Rattle.std.specs.Prelude.{◌==◌, nat_eq, nat_lt, count_by}
use Rattle.std.proofs.lemmas.Bool.{cases_eq, ltb-true}
use Rattle.std.proofs.lemmas.List.Elements.{All-append, All-nil}
use Rattle.std.proofs.lemmas.List.Sums.{sum_by-append}
use Rattle.tg_irc_definition.specs.Graphs.{bit}
use Rattle.tg_irc_definition.proofs.Deciding.{clash, same_node}
use Rattle.tg_coalescing_round.specs.glue.Lists.{list_at}
use Rattle.tg_coalescing_round.specs.glue.Tables.{Table, IsTable, move_at, is_unsettled, is_related}
use Rattle.tg_coalescing_round.specs.glue.Tables as tables
use Rattle.tg_coalescing_round.specs.glue.Works.{Work, to, from}
use Rattle.tg_coalescing_round.specs.glue.Standing.{IsOrderly}
use Rattle.tg_coalescing_round.proofs.AdvancingMembers.{no_bit}
use Rattle.tg_coalescing_round.proofs.AdvancingOrder.{inside_both}
use Rattle.tg_coalescing_round.proofs.AdvancingPossible.{moves_of}
use Rattle.tg_coalescing_round.proofs.AdvancingJoining.{by_place, poured_kept, poured_gone, poured_other, length_poured, sum_kept}
use Rattle.tg_coalescing_round.proofs.AdvancingJoining.{sum_gone, sum_other, sum_same, length_moved}
use Rattle.tg_coalescing_round.proofs.AdvancingClasses.{classes_after, alias_after, renamed, named_kept, named_gone, named_other}

module _ (w : Work) (h : IsOrderly w) (kept gone : ℕ) (l : kept < w.graph.nodes) (m : gone < w.graph.nodes)
    (d : kept ≢ gone) where
  abbrev pub moves_after : Table
  moves_after = tables.joined kept gone w.moves

  abbrev n : ℕ
  n = w.graph.nodes

  kept_inside : kept < length w.moves.touching
  kept_inside = subst (λ k. kept < k) (sym h.sized.touching) l

  gone_inside : gone < length w.moves.touching
  gone_inside = subst (λ k. gone < k) (sym h.sized.touching) m

  kept_counted : kept < length w.moves.unsettled
  kept_counted = subst (λ k. kept < k) (sym h.table.unsettled_sized) kept_inside

  gone_counted : gone < length w.moves.unsettled
  gone_counted = subst (λ k. gone < k) (sym h.table.unsettled_sized) gone_inside

  pub touching_kept : list_at moves_after.touching kept ≡
      list_at w.moves.touching kept ++ list_at w.moves.touching gone
  touching_kept = poured_kept w.moves.touching kept gone kept_inside gone_inside d

  touching_gone : list_at moves_after.touching gone ≡ []
  touching_gone = poured_gone w.moves.touching kept gone kept_inside gone_inside d

  touching_other : (z : ℕ) → z ≢ kept → z ≢ gone → list_at moves_after.touching z ≡ list_at w.moves.touching z
  touching_other = poured_other w.moves.touching kept gone kept_inside gone_inside d

  pub touching_length : length moves_after.touching ≡ n
  touching_length = length_poured w.moves.touching kept gone ∙ h.sized.touching

  pub table_after : IsTable moves_after
  table_after = record {
    few = h.table.few;
    states_sized = h.table.states_sized;
    unsettled_sized = length_moved w.moves.unsettled kept gone
        ∙ (h.table.unsettled_sized ∙ sym (length_poured w.moves.touching kept gone));
    ends_below = subst (λ k. All (λ e. (e.to < k) × (e.from < k)) w.moves.moves)
        (sym (length_poured w.moves.touching kept gone)) h.table.ends_below;
    ready_below = h.table.ready_below;
    touching_below = by_place kept gone (λ z. All (λ i. i < length w.moves.moves) (list_at moves_after.touching z))
        (subst (λ xs. All (λ i. i < length w.moves.moves) xs) (sym touching_kept)
        (All-append (λ i. i < length w.moves.moves) (list_at w.moves.touching kept) (list_at w.moves.touching gone)
        (h.table.touching_below kept) (h.table.touching_below gone)))
        (subst (λ xs. All (λ i. i < length w.moves.moves) xs) (sym touching_gone)
        (All-nil (λ i. i < length w.moves.moves)))
        (λ z e f. subst (λ xs. All (λ i. i < length w.moves.moves) xs) (sym (touching_other z e f))
        (h.table.touching_below z));
    few_unsettled = subst (λ k. k ≤ 2 * length w.moves.moves)
        (sym (sum_same w.moves.unsettled kept gone kept_counted gone_counted d)) h.table.few_unsettled;
  }

  -- the ends by their new names
  pub to_after : (i : ℕ) → i < length w.moves.moves →
      get_or (classes_after w h kept gone l m d).aliases (move_at w.moves.moves i).to 0 ≡ renamed kept gone (to w i)
  to_after i k =
      alias_after w h kept gone l m d (move_at w.moves.moves i).to 0
      (subst (λ j. (move_at w.moves.moves i).to < j) h.sized.classes (inside_both w (moves_of w h) i k).0)

  pub from_after : (i : ℕ) → i < length w.moves.moves →
      get_or (classes_after w h kept gone l m d).aliases (move_at w.moves.moves i).from 0 ≡
      renamed kept gone (from w i)
  from_after i k =
      alias_after w h kept gone l m d (move_at w.moves.moves i).from 0
      (subst (λ j. (move_at w.moves.moves i).from < j) h.sized.classes (inside_both w (moves_of w h) i k).1)

  -- counts of what is listed
  count_kept : (p : ℕ → Bool) → count_by p (list_at moves_after.touching kept) ≡
      count_by p (list_at w.moves.touching kept) + count_by p (list_at w.moves.touching gone)
  count_kept p =
      ap (count_by p) touching_kept
      ∙ sum_by-append (λ x. cond (p x) 1 0) (list_at w.moves.touching kept) (list_at w.moves.touching gone)

  end_kept : (c : ℕ) → bit (c == kept) + bit (c == gone) ≡ bit (renamed kept gone c == kept)
  end_kept c = by (c == kept) (c == gone) (λ p q. d (sym (same_node c kept p) ∙ same_node c gone q))
      ∙ ap bit (named_kept w h kept gone l m d c)
    where
      by : (a b : Bool) → (a ≡ true → b ≡ true → ⊥) → bit a + bit b ≡ bit (a || b)
      by true true f = absurd (f refl refl)
      by true false f = refl
      by false true f = refl
      by false false f = refl

  pub listed_after : (x i : ℕ) → x < n → i < length w.moves.moves →
      count_by (nat_eq i) (list_at moves_after.touching x) ≡
      bit (renamed kept gone (to w i) == x) + bit (renamed kept gone (from w i) == x)
  listed_after x i o k =
      by_place kept gone
      (λ z. z < n → count_by (nat_eq i) (list_at moves_after.touching z) ≡
      bit (renamed kept gone (to w i) == z) + bit (renamed kept gone (from w i) == z))
      (λ b. let both = count_kept (nat_eq i) in
      omega (arith, both, h.ends.listed kept i l k, h.ends.listed gone i m k, end_kept (to w i), end_kept (from w i)))
      (λ b. let none = ap (count_by (nat_eq i)) touching_gone in
      let p = no_bit (named_gone w h kept gone l m d (to w i)) in
      let q = no_bit (named_gone w h kept gone l m d (from w i)) in
      omega (arith, none, p, q))
      (λ z e f b.
      ap (count_by (nat_eq i)) (touching_other z e f)
      ∙ (h.ends.listed z i b k
      ∙ (ap (λ c. bit c + bit (from w i == z)) (named_other w h kept gone l m d (to w i) z e f)
      ∙ ap (λ c. bit (renamed kept gone (to w i) == z) + bit c) (named_other w h kept gone l m d (from w i) z e f))))
      x o

  pub counted_after : (x : ℕ) → x < n →
      get_or moves_after.unsettled x 0 ≡ count_by (is_unsettled w.moves) (list_at moves_after.touching x)
  counted_after x o =
      by_place kept gone
      (λ z. z < n → get_or moves_after.unsettled z 0 ≡
      count_by (is_unsettled w.moves) (list_at moves_after.touching z))
      (λ b. let both = count_kept (is_unsettled w.moves) in
      let all = sum_kept w.moves.unsettled kept gone kept_counted gone_counted d in
      omega (arith, both, all, h.ends.counted kept l, h.ends.counted gone m))
      (λ b. sum_gone w.moves.unsettled kept gone kept_counted gone_counted d
      ∙ sym (ap (count_by (is_unsettled w.moves)) touching_gone))
      (λ z e f b. sum_other w.moves.unsettled kept gone kept_counted gone_counted d z e f
      ∙ (h.ends.counted z b ∙ sym (ap (count_by (is_unsettled w.moves)) (touching_other z e f))))
      x o

  pub related_other : (z : ℕ) → z ≢ kept → z ≢ gone → is_related moves_after z ≡ is_related w.moves z
  related_other z e f =
      ap (λ k. nat_lt 0 k) (sum_other w.moves.unsettled kept gone kept_counted gone_counted d z e f)

  -- what has moves is the kept node or remained
  pub related_after : (z : ℕ) → z < n → is_related moves_after z ≡ true →
      (z ≢ gone) × ((z ≡ kept) ⊎ (is_related w.moves z ≡ true))
  related_after z b r = (
    λ p. let zero = sum_gone w.moves.unsettled kept gone kept_counted gone_counted d in
        let more = ltb-true 0 (get_or moves_after.unsettled z 0) r in
        let at = ap (λ y. get_or moves_after.unsettled y 0) p in
        omega (arith, zero, more, at),
    by (cases_eq z kept) (cases_eq z gone),
  )
    where
      zero : is_related moves_after gone ≡ false
      zero = ap (λ k. nat_lt 0 k) (sum_gone w.moves.unsettled kept gone kept_counted gone_counted d)

      by : (z ≡ kept) ⊎ (z ≢ kept) → (z ≡ gone) ⊎ (z ≢ gone) → (z ≡ kept) ⊎ (is_related w.moves z ≡ true)
      by c g =
          ⊎_elim (λ (p : z ≡ kept). inl p)
          (λ (e : z ≢ kept).
          ⊎_elim (λ (p : z ≡ gone). absurd (clash (subst (λ y. is_related moves_after y ≡ true) p r) zero))
          (λ (f : z ≢ gone). inr (sym (related_other z e f) ∙ r)) g) c
