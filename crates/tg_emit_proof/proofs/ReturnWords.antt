-- The words after the calls of an image are within the code, and differ.
use Rattle.std.proofs.Common.{ℕ, ◌≡◌, ◌<◌, ◌≤◌, ◌+◌, ◌==◌, List, [], ◌∷◌, refl, arith, Bool, true, false}
use Rattle.std.proofs.Common.{eqb-true}
use Rattle.std.proofs.lemmas.Bool.Decides.{nat_tests}
use Rattle.std.specs.Prelude.{if◌then◌else◌}
use Rattle.tg_isa.specs.declared.mips.Mips.TheVariants as row
use Rattle.tg_emit.specs.declared.assembly.Line.{Line}
use Rattle.tg_emit.specs.declared.assembly.Line.TheVariants.{Label, One, La, Statics}
use Rattle.tg_emit.specs.mirror.Lines.{words}
use Rattle.tg_emit_proof.specs.LinesRun.{calls}
use Rattle.tg_emit_proof.specs.laws.Laws.{word_behind, PlacesAreReturns}

pub behind_first : (at : ℕ) (ls : List Line) (k : ℕ) → k < calls ls → (at < word_behind at ls k)
    × (word_behind at ls k ≤ at + words ls)
behind_first at [] k h = absurd (omega (arith, h))
behind_first at (Label name ∷ ls) k h = let r = behind_first (at + 0) ls k h in let a = r.0 in let b = r.1 in
    (omega (arith, a), omega (arith, b))
behind_first at (La r name ∷ ls) k h = let r = behind_first (at + 2) ls k h in let a = r.0 in let b = r.1 in
    (omega (arith, a), omega (arith, b))
behind_first at (Statics bytes ∷ ls) k h = let r = behind_first (at + 0) ls k h in let a = r.0 in let b = r.1 in
    (omega (arith, a), omega (arith, b))
behind_first at (One (row.Jal n) target ∷ ls) k h = by (calls ls == k) refl (behind_first (at + 1) ls k)
  where
    by : (b : Bool) → (calls ls == k) ≡ b →
        (k < calls ls → (at + 1 < word_behind (at + 1) ls k) × (word_behind (at + 1) ls k ≤ at + 1 + words ls)) →
        (at < (if b then at + 1 else word_behind (at + 1) ls k))
        × ((if b then at + 1 else word_behind (at + 1) ls k) ≤ at + (1 + words ls))
    by true e later = (omega arith, omega arith)
    by false e later =
        let l : k < calls ls = grind (arith, nat_tests, e, h) in
        let r = later l in let a = r.0 in let b = r.1 in (omega (arith, a), omega (arith, b))
behind_first at (One one target ∷ ls) k h = let r = behind_first (at + 1) ls k h in let a = r.0 in let b = r.1 in
    (omega (arith, a), omega (arith, b))

pub behind_differ : (at : ℕ) (ls : List Line) (j k : ℕ) → j < k → k < calls ls → word_behind at ls k < word_behind at ls j
behind_differ at [] j k l h = absurd (omega (arith, h))
behind_differ at (Label name ∷ ls) j k l h = behind_differ (at + 0) ls j k l h
behind_differ at (La r name ∷ ls) j k l h = behind_differ (at + 2) ls j k l h
behind_differ at (Statics bytes ∷ ls) j k l h = behind_differ (at + 0) ls j k l h
behind_differ at (One (row.Jal n) target ∷ ls) j k l h =
    by (calls ls == j) refl (calls ls == k) refl (behind_first (at + 1) ls j) (behind_differ (at + 1) ls j k l)
  where
    by :
        (b : Bool) → (calls ls == j) ≡ b → (c : Bool) → (calls ls == k) ≡ c →
        (j < calls ls → (at + 1 < word_behind (at + 1) ls j) × (word_behind (at + 1) ls j ≤ at + 1 + words ls)) →
        (k < calls ls → word_behind (at + 1) ls k < word_behind (at + 1) ls j) →
        (if c then at + 1 else word_behind (at + 1) ls k) < (if b then at + 1 else word_behind (at + 1) ls j)
    by true d c e first later = let x : calls ls ≡ j = eqb-true (calls ls) j d in absurd (omega (arith, x, l, h))
    by false d true e first later =
        let x : calls ls ≡ k = eqb-true (calls ls) k e in
        let r = first (omega (arith, x, l)) in r.0
    by false d false e first later = later (grind (arith, nat_tests, e, h))
behind_differ at (One one target ∷ ls) j k l h = behind_differ (at + 1) ls j k l h

pub below_or : (j k : ℕ) → (lt : j < k → ⊥) → (gt : k < j → ⊥) → j ≡ k
below_or j k lt gt = grind (arith, lt, gt)

pub places_are_returns : PlacesAreReturns
places_are_returns lines short = record {
  words = λ k h. let r = behind_first 0 lines k h in let b = r.1 in omega (arith, b, short);
  elsewhere = λ k h e. omega (arith, e);
  differ = λ j k h l e.
      below_or j k (λ m. let d = behind_differ 0 lines j k m l in omega (arith, d, e)) (λ m. let d =
      behind_differ 0 lines k j m h in omega (arith, d, e));
}
