-- What is counted of the ends of unsettled moves stays so as moves are settled, and is enough to settle one.
use Rattle.std.proofs.Common.{◌≡◌, ◌≢◌, ℕ, ◌+◌, ◌-◌, ◌<◌, ◌≤◌, Bool, true, false, List, [], ◌∷◌, length, get_or, refl, sym, ap, ◌∙◌, subst, ⊎_elim, arith}
use Rattle.std.specs.Prelude.{◌==◌, nat_eq, All, count_by, fold}
use Rattle.std.proofs.lemmas.Bool.{cases_eq, cond_both, eq-eqb, lt-ltb, ltb-true, ne_eqb}
use Rattle.std.proofs.lemmas.List.{get_or-set_other, get_or-set_same, length-set}
use Rattle.std.proofs.lemmas.List.Elements.{All-get_or, All-head, All-tail}
use Rattle.tg_irc_definition.specs.declared.moves.Move.{Move}
use Rattle.tg_irc_definition.specs.declared.moves.MoveState.{MoveState}
use Rattle.tg_irc_definition.specs.declared.moves.MoveState.TheVariants.{Frozen, Ready}
use Rattle.tg_irc_definition.specs.Graphs.{bit}
use Rattle.tg_irc_definition.specs.States.{is_ready_or_waiting}
use Rattle.tg_coalescing_round.specs.glue.Lists.{list_at, lowered}
use Rattle.tg_coalescing_round.specs.glue.Groupings.{IsGrouping}
use Rattle.tg_coalescing_round.specs.glue.Tables as tables
use Rattle.tg_coalescing_round.specs.glue.Tables.{IsTable, Table, is_related, is_unsettled, move_at, state_at}
use Rattle.tg_coalescing_round.specs.glue.Works.{Work, alias_of, from, is_left, settled, to}
use Rattle.tg_coalescing_round.specs.glue.Standing.{HasEnds, IsSized}
use Rattle.tg_coalescing_round.specs.mirror.Steps.{freeze_one}
use Rattle.tg_coalescing_round.proofs.AdvancingMembers.{count_cons}
use Rattle.tg_coalescing_round.proofs.Folds.{fold_keeps}
use Rattle.tg_coalescing_round.proofs.Keeping.{either}
use Rattle.tg_coalescing_round.proofs.Stepping.{settled_classes, settled_graph, settled_left, settled_moves}

-- Counts.

-- where a test no longer takes one number, it takes those of a list but for that number
count_without : (i : ℕ) (p q : ℕ → Bool) → p i ≡ true → q i ≡ false → ((j : ℕ) → j ≢ i → q j ≡ p j) → (xs : List ℕ) →
    count_by p xs ≡ count_by q xs + count_by (nat_eq i) xs
count_without i p q t f h [] = refl
count_without i p q t f h (x ∷ xs) =
    let one : bit (p x) ≡ bit (q x) + bit (nat_eq i x) = ⊎_elim
    (λ (e : x ≡ i).
    let a : bit (p x) ≡ 1 = ap bit (ap p e ∙ t) in
    let b : bit (q x) ≡ 0 = ap bit (ap q e ∙ f) in
    let c : bit (nat_eq i x) ≡ 1 = ap bit (eq-eqb i x (sym e)) in
    omega arith)
    (λ (d : x ≢ i).
    let a : bit (q x) ≡ bit (p x) = ap bit (h x d) in
    let c : bit (nat_eq i x) ≡ 0 = ap bit (ne_eqb i x (λ e. d (sym e))) in
    omega arith)
    (cases_eq x i) in
    omega (
      arith,
      one,
      count_cons p x xs,
      count_cons q x xs,
      count_cons (nat_eq i) x xs,
      count_without i p q t f h xs,
    )

-- a number that a test takes stands in a list no more often than such numbers do
count_within : (i : ℕ) (p : ℕ → Bool) → p i ≡ true → (xs : List ℕ) → count_by (nat_eq i) xs ≤ count_by p xs
count_within i p t [] = omega arith
count_within i p t (x ∷ xs) =
    let one : bit (nat_eq i x) ≤ bit (p x) = ⊎_elim
    (λ (e : x ≡ i). let a : bit (p x) ≡ 1 = ap bit (ap p e ∙ t) in
    let c : bit (nat_eq i x) ≡ 1 = ap bit (eq-eqb i x (sym e)) in omega arith)
    (λ (d : x ≢ i). let c : bit (nat_eq i x) ≡ 0 = ap bit (ne_eqb i x (λ e. d (sym e))) in omega arith)
    (cases_eq x i) in
    omega (arith, one, count_cons (nat_eq i) x xs, count_cons p x xs, count_within i p t xs)

pub lowered_at : (a x : ℕ) (ns : List ℕ) → a < length ns → get_or (lowered a ns) x 0 ≡ get_or ns x 0 - bit (a == x)
lowered_at a x ns l =
    ⊎_elim
    (λ (e : x ≡ a).
    let b : bit (a == x) ≡ 1 = ap bit (eq-eqb a x (sym e)) in
    let s : get_or (lowered a ns) a 0 ≡ get_or ns a 0 - 1 = get_or-set_same ns a (get_or ns a 0 - 1) 0 l in
    let at : get_or (lowered a ns) x 0 ≡ get_or (lowered a ns) a 0 = ap (λ y. get_or (lowered a ns) y 0) e in
    let was : get_or ns x 0 ≡ get_or ns a 0 = ap (λ y. get_or ns y 0) e in
    omega arith)
    (λ (d : x ≢ a).
    let b : bit (a == x) ≡ 0 = ap bit (ne_eqb a x (λ e. d (sym e))) in
    let o : get_or (lowered a ns) x 0 ≡ get_or ns x 0 = get_or-set_other ns a x (get_or ns a 0 - 1) 0 d in
    omega arith)
    (cases_eq x a)

-- What it takes to settle moves one after another.

pub record CanSettle (w : Work) : Type 0 where
  pub ends : HasEnds w
  pub states : length w.moves.states ≡ length w.moves.moves
  pub unsettled : length w.moves.unsettled ≡ w.graph.nodes
  pub within : (i : ℕ) → i < length w.moves.moves → (to w i < w.graph.nodes) × (from w i < w.graph.nodes)

pub can_settle : (w : Work) → IsSized w → IsGrouping w.classes → IsTable w.moves → HasEnds w → CanSettle w
can_settle w s g t e = record {
  ends = e;
  states = t.states_sized;
  unsettled = t.unsettled_sized ∙ s.touching;
  within = λ i l.
      let m = All-get_or (λ m. (m.to < length w.moves.touching) × (m.from < length w.moves.touching)) w.moves.moves i
      (record { to = 0; from = 0 }) l t.ends_below in
      (below (move_at w.moves.moves i).to m.0, below (move_at w.moves.moves i).from m.1);
}
  where
    below : (x : ℕ) → x < length w.moves.touching → alias_of w x < w.graph.nodes
    below x l =
        let node : x < length w.classes.aliases = omega (arith, s.touching, s.classes) in
        let alias = All-get_or (λ y. y < length w.classes.aliases) w.classes.aliases x 0 node g.aliases_below in
        omega (arith, s.classes, alias)

module _ (w : Work) (i : ℕ) (c : CanSettle w) (l : i < length w.moves.moves) (u : is_unsettled w.moves i ≡ true) where
  abbrev toward : ℕ
  toward = to w i

  abbrev away : ℕ
  away = from w i

  enough : (x : ℕ) → x < w.graph.nodes → bit (toward == x) + bit (away == x) ≤ get_or w.moves.unsettled x 0
  enough x h =
      omega (
        arith,
        c.ends.listed x i h l,
        c.ends.counted x h,
        count_within i (is_unsettled w.moves) u (list_at w.moves.touching x),
      )

  pub to_counted : 0 < get_or w.moves.unsettled toward 0
  to_counted =
      let b : bit (toward == toward) ≡ 1 = ap bit (eq-eqb toward toward refl) in
      omega (arith, b, enough toward (c.within i l).0)

  pub from_counted : 0 < get_or (lowered toward w.moves.unsettled) away 0
  from_counted =
      let b : bit (away == away) ≡ 1 = ap bit (eq-eqb away away refl) in
      let h = c.within i l in
      omega (
        arith,
        b,
        enough away h.1,
        lowered_at toward away w.moves.unsettled (omega (arith, h.0, c.unsettled)),
      )

  left_by : (x : ℕ) → x < w.graph.nodes → 1 ≤ bit (toward == x) + bit (away == x) → is_left w.lists x ≡ true
  left_by x h b =
      c.ends.left x h (lt-ltb 0 (get_or w.moves.unsettled x 0) (omega (arith, b, enough x h)))

  pub toward_left : is_left w.lists toward ≡ true
  toward_left =
      let b : bit (toward == toward) ≡ 1 = ap bit (eq-eqb toward toward refl) in
      left_by toward (c.within i l).0 (omega (arith, b))

  pub away_left : is_left w.lists away ≡ true
  away_left =
      let b : bit (away == away) ≡ 1 = ap bit (eq-eqb away away refl) in
      left_by away (c.within i l).1 (omega (arith, b))

  module _ (state : MoveState) (f : is_ready_or_waiting state ≡ false) where
    abbrev after : Table
    after = tables.settled i state toward away w.moves

    settled_now : is_unsettled after i ≡ false
    settled_now =
        ap is_ready_or_waiting (get_or-set_same w.moves.states i state Ready (omega (arith, c.states, l))) ∙ f

    others_as_before : (j : ℕ) → j ≢ i → is_unsettled after j ≡ is_unsettled w.moves j
    others_as_before j d = ap is_ready_or_waiting (get_or-set_other w.moves.states i j state Ready d)

    lowered_twice : (x : ℕ) → get_or after.unsettled x 0 ≡ get_or w.moves.unsettled x 0 - bit (toward == x) - bit (away == x)
    lowered_twice x =
        let h = c.within i l in
        lowered_at away x (lowered toward w.moves.unsettled)
        (omega (arith, h.1, c.unsettled, length-set w.moves.unsettled toward (get_or w.moves.unsettled toward 0 - 1)))
        ∙ ap (λ n. n - bit (away == x)) (lowered_at toward x w.moves.unsettled (omega (arith, h.0, c.unsettled)))

    counted_after : (x : ℕ) → x < w.graph.nodes →
        get_or after.unsettled x 0 ≡ count_by (is_unsettled after) (list_at w.moves.touching x)
    counted_after x h =
        omega (
          arith,
          lowered_twice x,
          c.ends.counted x h,
          c.ends.listed x i h l,
          count_without i (is_unsettled w.moves) (is_unsettled after) u settled_now others_as_before
              (list_at w.moves.touching x),
        )

    related_before : (x : ℕ) → is_related after x ≡ true → is_related w.moves x ≡ true
    related_before x r =
        let more : 0 < get_or after.unsettled x 0 = ltb-true 0 (get_or after.unsettled x 0) r in
        lt-ltb 0 (get_or w.moves.unsettled x 0) (omega (arith, more, lowered_twice x))

    -- of any work with these moves, and all else as it was
    settled_as : (v : Work) → v.graph ≡ w.graph → v.classes ≡ w.classes → v.moves ≡ after →
        ((z : ℕ) → is_left v.lists z ≡ is_left w.lists z) →
        CanSettle v
    settled_as v g k m o = record {
      ends = record {
        listed = λ x j h b.
            ap (λ t. count_by (nat_eq j) (list_at t.touching x)) m
            ∙ (c.ends.listed x j (node x h) (place j b)
            ∙ (ap (λ y. bit (y == x) + bit (from w j == x)) (sym (same_to j))
            ∙ ap (λ y. bit (to v j == x) + bit (y == x)) (sym (same_from j))));
        counted = λ x h.
            ap (λ t. get_or t.unsettled x 0) m
            ∙ (counted_after x (node x h)
            ∙ sym (ap (λ t. count_by (is_unsettled t) (list_at t.touching x)) m));
        left = λ x h r.
            o x ∙ c.ends.left x (node x h) (related_before x (sym (ap (λ t. is_related t x) m) ∙ r));
      };
      states =
          ap (λ t. length t.states) m
          ∙ (length-set w.moves.states i state ∙ (c.states ∙ sym (ap (λ t. length t.moves) m)));
      unsettled =
          ap (λ t. length t.unsettled) m
          ∙ (length-set (lowered toward w.moves.unsettled) away (get_or (lowered toward w.moves.unsettled) away 0 - 1)
          ∙ (length-set w.moves.unsettled toward (get_or w.moves.unsettled toward 0 - 1)
          ∙ (c.unsettled ∙ sym (ap (λ h. h.nodes) g))));
      within = λ j b.
          let h = c.within j (place j b) in (
            subst (λ y. y < v.graph.nodes) (sym (same_to j)) (back (to w j) h.0),
            subst (λ y. y < v.graph.nodes) (sym (same_from j)) (back (from w j) h.1),
          );
    }
      where
        node : (x : ℕ) → x < v.graph.nodes → x < w.graph.nodes
        node x h = subst (λ (n : ℕ). x < n) (ap (λ h. h.nodes) g) h

        back : (x : ℕ) → x < w.graph.nodes → x < v.graph.nodes
        back x h = subst (λ (n : ℕ). x < n) (sym (ap (λ h. h.nodes) g)) h

        place : (j : ℕ) → j < length v.moves.moves → j < length w.moves.moves
        place j b = subst (λ (n : ℕ). j < n) (ap (λ t. length t.moves) m) b

        same_to : (j : ℕ) → to v j ≡ to w j
        same_to j =
            ap (λ t. alias_of v (move_at t.moves j).to) m
            ∙ ap (λ h. get_or h.aliases (move_at w.moves.moves j).to 0) k

        same_from : (j : ℕ) → from v j ≡ from w j
        same_from j =
            ap (λ t. alias_of v (move_at t.moves j).from) m
            ∙ ap (λ h. get_or h.aliases (move_at w.moves.moves j).from 0) k

    can_settle_more : CanSettle (settled i state w)
    can_settle_more =
        settled_as (settled i state w) (settled_graph i state w) (settled_classes i state w) (settled_moves i state w)
        (settled_left i state w)

-- The moves of a class are given up one after another.

can_freeze_more : (w : Work) (i : ℕ) → CanSettle w → i < length w.moves.moves → CanSettle (freeze_one w i)
can_freeze_more w i c l =
    cond_both (is_unsettled w.moves i) (settled i Frozen w) w CanSettle (λ u. can_settle_more w i c l u Frozen refl)
    (λ e. c)

same_moves : (w : Work) (i : ℕ) → (freeze_one w i).moves.moves ≡ w.moves.moves
same_moves w i =
    either (λ (v : Work). v.moves.moves) (is_unsettled w.moves i) (settled i Frozen w) w w.moves.moves
    (ap (λ (t : Table). t.moves) (settled_moves i Frozen w)) refl

pub can_freeze_all : (w : Work) (is : List ℕ) → CanSettle w → All (λ i. i < length w.moves.moves) is →
    CanSettle (fold freeze_one w is)
can_freeze_all w [] c h = c
can_freeze_all w (i ∷ is) c h =
    can_freeze_all (freeze_one w i) is (can_freeze_more w i c (All-head (λ j. j < length w.moves.moves) i is h))
    (subst (λ (ms : List Move). All (λ j. j < length ms) is) (sym (same_moves w i))
    (All-tail (λ j. j < length w.moves.moves) i is h))

pub frozen_touching : (w : Work) (is : List ℕ) → (fold freeze_one w is).moves.touching ≡ w.moves.touching
frozen_touching w is =
    fold_keeps freeze_one (λ v. v.moves.touching)
    (λ v i. either (λ (u : Work). u.moves.touching) (is_unsettled v.moves i) (settled i Frozen v) v v.moves.touching
    (ap (λ (t : Table). t.touching) (settled_moves i Frozen v)) refl)
    w is
