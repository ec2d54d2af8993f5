-- Registers that a function gives back: kept at its entry, and given back before its return.
use Rattle.std.proofs.Common.{◌≡◌, length, ◌<◌, ℕ, suc, ◌+◌, List, [], ◌∷◌, ◌++◌, Bool, true, false, refl, sym, ap}
use Rattle.std.proofs.Common.{◌∙◌, arith}
use Rattle.std.proofs.lemmas.Bool.Decides.{nat_tests}
use Rattle.std.specs.Prelude.{◌==◌, if◌then◌else◌}
use Rattle.tg_simulation.specs.Ran.{works}
use Rattle.tg_tree.specs.Actions.{World, wrong}
use Rattle.tg_tree.proofs.FlatValues.{works_add, works_none}
use Rattle.tg_instr.specs.declared.operands.Opnd.{Opnd}
use Rattle.tg_instr.specs.declared.operands.Opnd.TheVariants.{Reg}
use Rattle.tg_instr.specs.declared.instr.Instr.{Instr}
use Rattle.tg_instr.specs.declared.instr.Instr.TheVariants.{Move, Return}
use Rattle.tg_instr.specs.Shapes.{Operand}
use Rattle.tg_instr.specs.Contents.{Content, Found, Contents, set, held, handed}
use Rattle.tg_instr.specs.Meaning.{with_content, put_in}
use Rattle.tg_munch.specs.mirror.Choosing.{NumbersDrawn, ◌>>=◌}
use Rattle.tg_munch.specs.mirror.Bodies.{kept}
use Rattle.tg_munch.specs.mirror.Munching.{temp, given_back, kept_registers}
use Rattle.tg_munch_proof.specs.glue.Places.{Place, goes}
use Rattle.tg_munch_proof.proofs.Behaving.{here}
use Rattle.tg_munch_proof.specs.glue.Relating.{AreKept}

module _ (p : Place) where
  -- what is found is moved to a temporary
  copies : (i : ℕ) (x : Opnd) (r : ℕ) (rest : List Instr) (w : World) (s : Contents) (n : ℕ) →
      held p.activation s (Operand x) ≡ Found r →
      goes p w (Move (temp i) x ∷ rest) s n ≡ works 1 (goes p w rest (set (Operand (temp i)) (Found r) s) n)
  copies i x r rest w s n e =
      ap (λ c. works 1 (with_content c w (λ d. goes p w rest (set (Operand (temp i)) d s)) n)) e

  -- What is found at the entry goes into temporaries, one after another.
  abbrev pub AreHeld : List ℕ → Contents → Type 0
  AreHeld [] s = Unit {0}
  AreHeld (r ∷ rs) s = (held p.activation s (Operand (Reg r)) ≡ Found r) × AreHeld rs s

  abbrev pub kept_in : ℕ → List ℕ → Contents → Contents
  kept_in t [] s = s
  kept_in t (r ∷ rs) s = kept_in (t + 1) rs (set (Operand (temp t)) (Found r) s)

  still_held : (i : ℕ) (c : Content) (rs : List ℕ) (s : Contents) → AreHeld rs s → AreHeld rs (set (Operand (temp i))
      c s)
  still_held i c [] s h = tt
  still_held i c (r ∷ rs) s h = (h.0, still_held i c rs s h.1)

  pub kept_runs : (rs : List ℕ) (d : NumbersDrawn) (rest : List Instr) (w : World) (s : Contents) (n : ℕ) → AreHeld rs s →
      goes p w ((kept rs d).code ++ rest) s n ≡ works (length rs) (goes p w rest (kept_in d.temp rs s) n)
  unfolding ◌>>=◌
  kept_runs [] d rest w s n h = sym (works_none (goes p w rest s n))
  kept_runs (r ∷ rs) d rest w s n h =
      copies d.temp (Reg r) r ((kept rs (record d { temp = d.temp + 1 })).code ++ rest) w s n h.0 ∙
      (ap (works 1) (kept_runs rs (record d { temp = d.temp + 1 }) rest w (set (Operand (temp d.temp)) (Found r) s) n
      (still_held d.temp (Found r) rs s h.1)) ∙
      (works_add 1 (length rs) _ ∙ ap (λ k. works k (goes p w rest (kept_in d.temp (r ∷ rs) s) n)) (one_more (length
      rs))))
    where
      one_more : (k : ℕ) → 1 + k ≡ suc k
      one_more k = omega arith

  -- they stand there
  pub differs : (i j : ℕ) → i < j → (i == j) ≡ false
  differs i j h = grind (arith, nat_tests)

  pub itself : (i : ℕ) → (i == i) ≡ true
  itself i = grind (arith, nat_tests)

  stays_below : (rs : List ℕ) (i t : ℕ) (s : Contents) → i < t → kept_in t rs s (Operand (temp i)) ≡ s (Operand (temp
      i))
  stays_below [] i t s h = refl
  stays_below (r ∷ rs) i t s h =
      stays_below rs i (t + 1) (set (Operand (temp t)) (Found r) s) (omega arith) ∙
      ap (λ (b : Bool). if b then Found r else s (Operand (temp i))) (differs i t h)

  pub are_kept : (rs : List ℕ) (t : ℕ) (s : Contents) → AreKept t rs (kept_in t rs s)
  are_kept [] t s = tt
  are_kept (r ∷ rs) t s = (
    stays_below rs t (t + 1) (set (Operand (temp t)) (Found r) s) (omega arith) ∙
        ap (λ (b : Bool). if b then Found r else s (Operand (temp t))) (itself t),
    are_kept rs (t + 1) (set (Operand (temp t)) (Found r) s),
  )

  -- and are given back.
  gives : (r i : ℕ) (rest : List Instr) (w : World) (s : Contents) (n : ℕ) → (r == 29) ≡ false → s (Operand (temp i))
      ≡ Found r →
      goes p w (Move (Reg r) (temp i) ∷ rest) s n ≡ works 1 (goes p w rest (set (Operand (Reg r)) (Found r) s) n)
  gives r i rest w s n other e =
      ap (λ c. works 1 (with_content c w (λ d. put_in (Reg r) d (here p) (λ w1 s1. goes p w1 rest s1) w s) n)) e ∙
      ap (λ (b : Bool). works 1 ((if b then wrong w else goes p w rest (set (Operand (Reg r)) (Found r) s)) n)) other

  abbrev given_in : List ℕ → Contents → Contents
  given_in [] s = s
  given_in (r ∷ rs) s = given_in rs (set (Operand (Reg r)) (Found r) s)

  abbrev NoneIsStack : List ℕ → Type 0
  NoneIsStack [] = Unit {0}
  NoneIsStack (r ∷ rs) = ((r == 29) ≡ false) × NoneIsStack rs

  still_kept : (r t : ℕ) (c : Content) (rs : List ℕ) (s : Contents) → AreKept t rs s → AreKept t rs (set (Operand
      (Reg r)) c s)
  still_kept r t c [] s h = tt
  still_kept r t c (q ∷ rs) s h = (h.0, still_kept r (t + 1) c rs s h.1)

  given_runs : (rs : List ℕ) (t : ℕ) (d : NumbersDrawn) (rest : List Instr) (w : World) (s : Contents) (n : ℕ) → NoneIsStack
      rs → AreKept t rs s →
      goes p w ((given_back t rs d).code ++ rest) s n ≡ works (length rs) (goes p w rest (given_in rs s) n)
  unfolding ◌>>=◌
  given_runs [] t d rest w s n o h = sym (works_none (goes p w rest s n))
  given_runs (r ∷ rs) t d rest w s n o h =
      gives r t ((given_back (t + 1) rs d).code ++ rest) w s n o.0 h.0 ∙
      (ap (works 1) (given_runs rs (t + 1) d rest w (set (Operand (Reg r)) (Found r) s) n o.1 (still_kept r (t + 1)
      (Found r) rs s h.1)) ∙
      (works_add 1 (length rs) _ ∙ ap (λ k. works k (goes p w rest (given_in (r ∷ rs) s) n)) (one_more (length rs))))
    where
      one_more : (k : ℕ) → 1 + k ≡ suc k
      one_more k = omega arith

  -- A return after them is one: what is found is what was, by computing.
  pub returns : (t : ℕ) (d : NumbersDrawn) (rest : List Instr) (w : World) (s : Contents) (n : ℕ) → AreKept t kept_registers s →
      goes p w ((given_back t kept_registers d).code ++ Return ∷ rest) s n ≡ works 10 (p.back (handed (s (Operand (Reg
      2)))) w n)
  returns t d rest w s n h =
      given_runs kept_registers t d (Return ∷ rest) w s n (
        refl,
        (
          refl,
          (
            refl,
            (
              refl,
              (
                refl,
                (
                  refl,
                  (
                    refl,
                    (
                      refl,
                      (refl, tt),
                    ),
                  ),
                ),
              ),
            ),
          ),
        ),
      ) h ∙
      works_add 9 1 (p.back (handed (s (Operand (Reg 2)))) w n)
