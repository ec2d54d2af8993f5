-- The word that a call puts into $ra leads back to what comes after it.
use Rattle.std.proofs.Common.{ℕ, ◌≡◌, ◌≢◌, ◌<◌, ◌≤◌, ◌==◌, List, [], ◌∷◌, ◌++◌, refl, ap, sym, ◌∙◌, arith, eqb-true}
use Rattle.std.proofs.Common.{Bool, true, false, Some}
use Rattle.std.specs.Prelude.{if◌then◌else◌}
use Rattle.tg_isa.specs.declared.mips.Mips.TheVariants as row
use Rattle.tg_emit.specs.declared.assembly.Line.{Line}
use Rattle.tg_emit.specs.declared.assembly.Line.TheVariants.{Label, One, La, Statics}
use Rattle.tg_emit_proof.specs.LinesRun.{Returns, behind_call, calls, left, at_zero}
use Rattle.tg_emit_proof.specs.laws.Laws.{AreReturns}
use Rattle.tg_emit_proof.specs.Setting.{Setting}
use Rattle.tg_emit_proof.specs.glue.Standing.{CallsComeBack}
use Rattle.tg_emit_proof.proofs.Basics.{same_number}

module _ (n : ℕ) (returns : Returns) (are : AreReturns n returns) where
  -- a call has more calls after it than one that stands after it
  calls_front : (front rest : List Line) (target : List ℕ) →
      calls rest < calls (front ++ One (row.Jal 0) target ∷ rest)
  calls_front [] rest target = omega arith
  calls_front (Label name ∷ front) rest target = calls_front front rest target
  calls_front (La r name ∷ front) rest target = calls_front front rest target
  calls_front (Statics bytes ∷ front) rest target = calls_front front rest target
  calls_front (One (row.Jal k) there ∷ front) rest target = let h = calls_front front rest target in omega (arith, h)
  calls_front (One one there ∷ front) rest target = calls_front front rest target

  others : (j k : ℕ) → j < n → k < n → j ≢ k → (returns j == returns k) ≡ false
  others j k h l d = by (returns j == returns k) refl
    where
      by : (b : Bool) → (returns j == returns k) ≡ b → b ≡ false
      by true e = absurd (d (are.differ j k h l (eqb-true (returns j) (returns k) e)))
      by false e = refl

  goes_behind : (front rest : List Line) (target : List ℕ) → calls (front ++ One (row.Jal 0) target ∷ rest) ≤ n →
      behind_call returns (returns (calls rest)) (front ++ One (row.Jal 0) target ∷ rest) ≡ Some (left rest)
  goes_behind [] rest target h = rw (same_number (returns (calls rest))) refl
  goes_behind (Label name ∷ front) rest target h = goes_behind front rest target h
  goes_behind (La r name ∷ front) rest target h = goes_behind front rest target h
  goes_behind (Statics bytes ∷ front) rest target h = goes_behind front rest target h
  goes_behind (One (row.Jal k) there ∷ front) rest target h =
      let more = calls_front front rest target in
      let other = others (calls (front ++ One (row.Jal 0) target ∷ rest)) (calls rest) (omega (arith, h))
      (omega (arith, h, more)) (λ e. omega (arith, e, more)) in
      ap (λ b. if b then Some (left (front ++ One (row.Jal 0) target ∷ rest)) else
      behind_call returns (returns (calls rest)) (front ++ One (row.Jal 0) target ∷ rest)) other
      ∙ goes_behind front rest target (omega (arith, h))
  goes_behind (One one there ∷ front) rest target h = goes_behind front rest target h

  not_set : (v : ℕ) → v ≢ 0 → (v == 0) ≡ false
  not_set v h = by (v == 0) refl
    where
      by : (b : Bool) → (v == 0) ≡ b → b ≡ false
      by true e = absurd (h (eqb-true v 0 e))
      by false e = refl

pub calls_come_back : (g : Setting) → AreReturns (calls g.lines) g.returns → CallsComeBack g
calls_come_back g are front rest target e =
    let more = calls_front (calls g.lines) g.returns are front rest target in
    let whole : calls (front ++ One (row.Jal 0) target ∷ rest) ≡ calls g.lines = ap calls (sym e) in
    let k : calls rest < calls g.lines = omega (arith, whole, more) in
    let set = not_set (calls g.lines) g.returns are (g.returns (calls rest)) (are.elsewhere (calls rest) k) in (
      are.words (calls rest) k,
      ap (λ b. if b then Some at_zero else behind_call g.returns (g.returns (calls rest)) g.lines) set
          ∙ (ap (behind_call g.returns (g.returns (calls rest))) e
          ∙ goes_behind (calls g.lines) g.returns are front rest target (omega (arith, whole))),
    )
