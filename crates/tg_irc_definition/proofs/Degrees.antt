-- How steps change degrees.
use Rattle.std.proofs.Common.{◌≡◌, ◌≢◌, ℕ, zero, suc, ◌+◌, Bool, true, false, not, ◌&&◌, ◌||◌, ◌⊎◌, inl, inr, refl}
use Rattle.std.proofs.Common.{sym}
use Rattle.std.proofs.Common.{ap, subst, arith, ⊎_elim}
use Rattle.std.specs.Prelude.{◌==◌}
use Rattle.tg_irc_definition.specs.Graphs.{Set, bit, count, without, merged}
use Rattle.tg_irc_definition.specs.States.{Problem, RoundState}
use Rattle.tg_irc_definition.specs.laws.Degrees.{TakenOutIsLess, MergedIsLess, MergedIsMore}
use Rattle.tg_irc_definition.proofs.Deciding.{clash, both, and_true, either, or_left, or_right, tells, never}
use Rattle.tg_irc_definition.proofs.Deciding.{same_node, same_test}
use Rattle.tg_irc_definition.proofs.Counting.{count_le, count_out, stays_in, was_in}
use Rattle.tg_irc_definition.proofs.Invariants.{Merges, merges}

-- sets with the same members have as many
count_same : (S T : Set) (n : ℕ) → ((x : ℕ) → S x ≡ true → T x ≡ true) → ((x : ℕ) → T x ≡ true → S x ≡ true) →
    count S n ≡ count T n
count_same S T n f h =
    let a = count_le S T n (λ x l t. f x t) in
    let b = count_le T S n (λ x l t. h x t) in
    omega arith

-- a set in two parts
count_parts : (S A B : Set) (n : ℕ) → ((x : ℕ) → bit (S x) ≡ bit (A x) + bit (B x)) → count S n ≡ count A n + count B n
count_parts S A B zero h = omega arith
count_parts S A B (suc n) h =
    let a = count_parts S A B n h in
    let b = h n in
    omega arith

no_bit : {b : Bool} → b ≡ false → bit b ≡ 0
no_bit e = ap bit e

one_bit : {b : Bool} → b ≡ true → bit b ≡ 1
one_bit e = ap bit e

pub taken_out_is_less : TakenOutIsLess
taken_out_is_less g s x y l r = by (tells (s.pairs y x))
  where
    old : Set
    old z = s.remaining z && s.pairs y z

    new : Set
    new z = without x s.remaining z && s.pairs y z

    by : (s.pairs y x ≡ true) ⊎ (s.pairs y x ≡ false) →
        count (λ z. s.remaining z && s.pairs y z) g.graph.nodes ≡
        count (λ z. without x s.remaining z && s.pairs y z) g.graph.nodes + bit (s.pairs y x)
    by (inl e) =
        let out = count_out (λ z. s.remaining z && s.pairs y z) x g.graph.nodes l (and_true r e) in
        let same = count_same
        (without x (λ z. s.remaining z && s.pairs y z)) (λ z. without x s.remaining z && s.pairs y z) g.graph.nodes
        (λ z t. let o = was_in x z (λ z. s.remaining z && s.pairs y z) t in
        let p = both (s.remaining z) (s.pairs y z) o.1 in and_true (stays_in x z s.remaining o.0 p.0) p.1)
        (λ z t. let p = both (without x s.remaining z) (s.pairs y z) t in let o = was_in x z s.remaining p.0 in
        stays_in x z (λ z. s.remaining z && s.pairs y z) o.0 (and_true o.1 p.1)) in
        let b : bit (s.pairs y x) ≡ 1 = one_bit e in
        omega arith
    by (inr e) =
        let same = count_same
        (λ z. s.remaining z && s.pairs y z) (λ z. without x s.remaining z && s.pairs y z) g.graph.nodes
        (λ z t. let p = both (s.remaining z) (s.pairs y z) t in
        and_true (stays_in x z s.remaining (λ d. clash (subst (λ w. s.pairs y w ≡ true) d p.1) e) p.0) p.1)
        (λ z t. let p = both (without x s.remaining z) (s.pairs y z) t in
        and_true (was_in x z s.remaining p.0).1 p.1) in
        let b : bit (s.pairs y x) ≡ 0 = no_bit e in
        omega arith

module _ (g : Problem) (s : RoundState) (kept gone : ℕ) (m : Merges g s kept gone) where
  abbrev old : ℕ → Set
  old y z = s.remaining z && s.pairs y z

  abbrev new : ℕ → Set
  new y z = without gone s.remaining z && merged kept gone s.pairs y z

  of_new : (y z : ℕ) → y ≢ kept → new y z ≡ true →
      (z ≢ gone) × (s.remaining z ≡ true) × ((s.pairs y z ≡ true) ⊎ ((z ≡ kept) × (s.pairs y gone ≡ true)))
  of_new y z d t =
      let p = both (without gone s.remaining z) (merged kept gone s.pairs y z) t in
      let o = was_in gone z s.remaining p.0 in (
        o.0,
        o.1,
        ⊎_elim
            (λ q. ⊎_elim (λ h. inl h) (λ h. absurd (d (same_node y kept (both (y == kept) (s.pairs gone z) h).0)))
            (either (s.pairs y z) (y == kept && s.pairs gone z) q))
            (λ q. let h = both (z == kept) (s.pairs y gone) q in inr (same_node z kept h.0, h.1))
            (either (s.pairs y z || (y == kept && s.pairs gone z)) (z == kept && s.pairs y gone) p.1),
      )

  stays_new : (y z : ℕ) → z ≢ gone → old y z ≡ true → new y z ≡ true
  stays_new y z d t =
      let p = both (s.remaining z) (s.pairs y z) t in
      and_true (stays_in gone z s.remaining d p.0) (or_left _ _ (or_left _ _ p.1))

  less : (y : ℕ) → y ≢ kept → count (old y) g.graph.nodes ≡ count (new y) g.graph.nodes + bit
      (s.pairs y kept && s.pairs y gone)
  less y d = by (tells (s.pairs y gone)) (tells (s.pairs y kept))
    where
      joined : s.pairs y gone ≡ true → new y kept ≡ true
      joined e =
          and_true (stays_in gone kept s.remaining m.differ m.kept_in)
          (or_right _ _ (and_true (same_test kept kept refl) e))

      by : (s.pairs y gone ≡ true) ⊎ (s.pairs y gone ≡ false) → (s.pairs y kept ≡ true) ⊎ (s.pairs y kept ≡ false) →
          count (old y) g.graph.nodes ≡ count (new y) g.graph.nodes + bit (s.pairs y kept && s.pairs y gone)
      by (inr e) k =
          let same = count_same (old y) (new y) g.graph.nodes
          (λ z t. stays_new y z
          (λ q. clash (subst (λ w. s.pairs y w ≡ true) q (both (s.remaining z) (s.pairs y z) t).1) e) t)
          (λ z t. let o = of_new y z d t in and_true o.1 (⊎_elim (λ h. h) (λ h. absurd (clash h.1 e)) o.2)) in
          let b : bit (s.pairs y kept && s.pairs y gone) ≡ 0 =
          no_bit (never (λ h. clash (both (s.pairs y kept) (s.pairs y gone) h).1 e)) in
          omega arith
      by (inl e) (inl k) =
          let out = count_out (old y) gone g.graph.nodes m.gone_node (and_true m.gone_in e) in
          let same = count_same (without gone (old y)) (new y) g.graph.nodes
          (λ z t. let o = was_in gone z (old y) t in stays_new y z o.0 o.1)
          (λ z t. let o = of_new y z d t in
          stays_in gone z (old y) o.0
          (and_true o.1 (⊎_elim (λ h. h) (λ h. subst (λ w. s.pairs y w ≡ true) (sym h.0) k) o.2))) in
          let b : bit (s.pairs y kept && s.pairs y gone) ≡ 1 = one_bit (and_true k e) in
          omega arith
      by (inl e) (inr k) =
          let out = count_out (old y) gone g.graph.nodes m.gone_node (and_true m.gone_in e) in
          let in_new = count_out (new y) kept g.graph.nodes m.kept_node (joined e) in
          let same = count_same (without gone (old y)) (without kept (new y)) g.graph.nodes
          (λ z t. let o = was_in gone z (old y) t in
          stays_in kept z (new y)
          (λ q. clash (subst (λ w. s.pairs y w ≡ true) q (both (s.remaining z) (s.pairs y z) o.1).1) k)
          (stays_new y z o.0 o.1))
          (λ z t. let q = was_in kept z (new y) t in let o = of_new y z d q.1 in
          stays_in gone z (old y) o.0 (and_true o.1 (⊎_elim (λ h. h) (λ h. absurd (q.0 h.0)) o.2))) in
          let b : bit (s.pairs y kept && s.pairs y gone) ≡ 0 =
          no_bit (never (λ h. clash (both (s.pairs y kept) (s.pairs y gone) h).0 k)) in
          omega arith

  abbrev brought : Set
  brought z = s.remaining z && s.pairs gone z && not (s.pairs kept z)

  module _ (irreflexive : s.pairs gone gone ≡ false) where
    more : count (new kept) g.graph.nodes ≡ count (old kept) g.graph.nodes + count brought g.graph.nodes
    more =
        let parts = count_parts either_end (old kept) brought g.graph.nodes each in
        let same = count_same (new kept) either_end g.graph.nodes to_either of_either in
        omega arith
      where
        either_end : Set
        either_end z = s.remaining z && (s.pairs kept z || s.pairs gone z)

        each : (z : ℕ) → bit (either_end z) ≡ bit (old kept z) + bit (brought z)
        each z = by (s.remaining z) (s.pairs kept z) (s.pairs gone z)
          where
            by : (r a b : Bool) → bit (r && (a || b)) ≡ bit (r && a) + bit (r && b && not a)
            by true true true = refl
            by true true false = refl
            by true false true = refl
            by true false false = refl
            by false true true = refl
            by false true false = refl
            by false false true = refl
            by false false false = refl

        to_either : (z : ℕ) → new kept z ≡ true → either_end z ≡ true
        to_either z t =
            let p = both (without gone s.remaining z) (merged kept gone s.pairs kept z) t in
            let o = was_in gone z s.remaining p.0 in
            and_true o.1 (⊎_elim
            (λ q. ⊎_elim (λ h. or_left _ _ h) (λ h. or_right _ _ (both (kept == kept) (s.pairs gone z) h).1)
            (either (s.pairs kept z) (kept == kept && s.pairs gone z) q))
            (λ q. absurd (clash (both (z == kept) (s.pairs kept gone) q).1 m.no_pair))
            (either (s.pairs kept z || (kept == kept && s.pairs gone z)) (z == kept && s.pairs kept gone) p.1))

        of_either : (z : ℕ) → either_end z ≡ true → new kept z ≡ true
        of_either z t =
            let p = both (s.remaining z) (s.pairs kept z || s.pairs gone z) t in
            and_true (stays_in gone z s.remaining (λ q. ⊎_elim
            (λ h. clash (subst (λ w. s.pairs kept w ≡ true) q h) m.no_pair)
            (λ h. clash (subst (λ w. s.pairs gone w ≡ true) q h) irreflexive)
            (either (s.pairs kept z) (s.pairs gone z) p.1)) p.0)
            (or_left (s.pairs kept z || (kept == kept && s.pairs gone z)) (z == kept && s.pairs kept gone)
            (⊎_elim (λ h. or_left (s.pairs kept z) (kept == kept && s.pairs gone z) h)
            (λ h. or_right (s.pairs kept z) (kept == kept && s.pairs gone z) (and_true (same_test kept kept refl) h))
            (either (s.pairs kept z) (s.pairs gone z) p.1)))

pub merged_is_less : MergedIsLess
merged_is_less g s i kept gone b y sound c d = less g s kept gone (merges g s i kept gone b sound c) y d

pub merged_is_more : MergedIsMore
merged_is_more g s i kept gone b sound c =
    more g s kept gone (merges g s i kept gone b sound c) (sound.irreflexive gone)
