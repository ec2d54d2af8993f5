-- What is known between two elements: temporaries that are set and registers that are kept, after what writes no
-- temporary of the body, or one.
use Rattle.std.proofs.Common.{◌≡◌, ◌≤◌, ◌<◌, ℕ, ◌+◌, List, [], ◌∷◌, length, Bool, refl, sym, ap, ◌∙◌, subst, arith}
use Rattle.std.proofs.lemmas.Bool.Decides.{nat_tests}
use Rattle.std.proofs.lemmas.Bool.{eqb-true}
use Rattle.std.specs.Prelude.{◌==◌, false, true, Some, None, if◌then◌else◌}
use Rattle.tg_tree.specs.Actions.{Temps, set_temp}
use Rattle.tg_instr.specs.declared.operands.Opnd.TheVariants.{Reg}
use Rattle.tg_instr.specs.Shapes.{Operand}
use Rattle.tg_instr.specs.Contents.{Word, Contents}
use Rattle.tg_munch.specs.mirror.Choosing.{NumbersDrawn}
use Rattle.tg_munch.specs.mirror.Munching.{temp}
use Rattle.tg_munch_proof.specs.laws.Values.{Known, Stay}
use Rattle.tg_munch_proof.specs.Words.{IsWord}
use Rattle.tg_munch_proof.specs.glue.Relating.{TempsAlike, AreKept}

-- temporaries below a number that are what they were, all of them or all but one
abbrev pub SameTemps : ℕ → Contents → Contents → Type 0
SameTemps n s s1 = (i : ℕ) → i < n → s1 (Operand (temp i)) ≡ s (Operand (temp i))

abbrev pub SameTempsBut : (but n : ℕ) → Contents → Contents → Type 0
SameTempsBut but n s s1 =
    (i : ℕ) → i < n → (i == but) ≡ false → s1 (Operand (temp i)) ≡ s (Operand (temp i))

pub stay_same : (n : ℕ) (s s1 : Contents) → Stay n None s s1 → SameTemps n s s1
stay_same n s s1 stay i lt = stay (temp i) lt tt

pub register_same : (n r : ℕ) (s s1 : Contents) → Stay n (Some (Reg r)) s s1 → SameTemps n s s1
register_same n r s s1 stay i lt = stay (temp i) lt refl

pub temp_same : (n but : ℕ) (s s1 : Contents) → Stay n (Some (temp but)) s s1 → SameTempsBut but n s s1
temp_same n but s s1 stay i lt other = stay (temp i) lt other

pub same_on : (m n : ℕ) (s s1 s2 : Contents) → m ≤ n → SameTemps m s s1 → SameTemps n s1 s2 → SameTemps m s s2
same_on m n s s1 s2 le h k i lt = k i (omega (arith, le, lt)) ∙ h i lt

pub knows : (temps : ℕ) (t : Temps) (d : NumbersDrawn) (s : Contents) → temps ≤ d.temp → TempsAlike temps t s → Known t d s
knows temps t d s le h i v e =
    let q = h i v e in
    let lt = q.0 in
    (omega (arith, le, lt), q.2)

pub temps_same : (temps n : ℕ) (t : Temps) (s s1 : Contents) → temps ≤ n → SameTemps n s s1 → TempsAlike temps t s →
    TempsAlike temps t s1
temps_same temps n t s s1 le same h i v e =
    let q = h i v e in
    let lt = q.0 in
    (q.0, q.1, same i (omega (arith, le, lt)) ∙ q.2)

pub temps_moved : (temps n i v : ℕ) (t : Temps) (s s1 : Contents) → temps ≤ n → i < temps → IsWord v →
    SameTempsBut i n s s1 → s1 (Operand (temp i)) ≡ Word v → TempsAlike temps t s →
    TempsAlike temps (set_temp i v t) s1
temps_moved temps n i v t s s1 le below small stay holds h j u e = by (j == i) refl e
  where
    same : (a b : ℕ) → Some a ≡ Some b → a ≡ b
    same a b q = cc

    by : (b : Bool) → (j == i) ≡ b → (if b then Some v else t j) ≡ Some u →
        (j < temps) × IsWord u × (s1 (Operand (temp j)) ≡ Word u)
    by true z q =
        let is : j ≡ i = eqb-true j i z in
        let value : v ≡ u = same v u q in (
          subst (λ k. k < temps) (sym is) below,
          subst (λ k. IsWord k) value small,
          ap (λ k. s1 (Operand (temp k))) is ∙ (holds ∙ ap (λ k. Word k) value),
        )
    by false z q =
        let r = h j u q in
        let lt = r.0 in
        (r.0, r.1, stay j (omega (arith, le, lt)) z ∙ r.2)

above_differs : (k i : ℕ) → i < k → (k == i) ≡ false
above_differs k i h = grind (arith, nat_tests)

pub kept_same : (k n : ℕ) (rs : List ℕ) (s s1 : Contents) → k + length rs ≤ n → SameTemps n s s1 → AreKept k rs s →
    AreKept k rs s1
kept_same k n [] s s1 le same h = tt
kept_same k n (r ∷ rs) s s1 le same h =
    (same k (omega (arith, le)) ∙ h.0, kept_same (k + 1) n rs s s1 (omega (arith, le)) same h.1)

pub kept_moved : (k n i : ℕ) (rs : List ℕ) (s s1 : Contents) → i < k → k + length rs ≤ n →
    SameTempsBut i n s s1 → AreKept k rs s → AreKept k rs s1
kept_moved k n i [] s s1 lt le stay h = tt
kept_moved k n i (r ∷ rs) s s1 lt le stay h = (
  stay k (omega (arith, le)) (above_differs k i lt) ∙ h.0,
  kept_moved (k + 1) n i rs s s1 (omega (arith, lt)) (omega (arith, le)) stay h.1,
)
