-- Contents of operands: what registers that are equal hand on and give back, and what a definition leaves as it was.
use Rattle.std.proofs.Common.{ℕ, ◌≡◌, ◌-◌, ◌==◌, ◌&&◌, ◌||◌, Bool, true, false, List, [], ◌∷◌, refl, sym, ap, ◌∙◌, true≢false}
use Rattle.std.specs.Prelude.{if◌then◌else◌}
use Rattle.std.proofs.lemmas.Bool.{eqb-true}
use Rattle.tg_tree.specs.Actions.{Activation}
use Rattle.tg_instr.specs.declared.operands.Opnd.{Opnd}
use Rattle.tg_instr.specs.declared.operands.Opnd.TheVariants.{Temp, Reg}
use Rattle.tg_instr.specs.Operands.{is_same}
use Rattle.tg_instr.specs.Shapes.{Holder, Operand, Hi, Lo, InstructionShape, Goes, Tests}
use Rattle.tg_instr.specs.Uses.{arguments}
use Rattle.tg_instr.specs.Contents.{Content, Word, Contents, set, held, handed, is_in, at_entry, is_found, gives_back}
use Rattle.tg_instr.proofs.Same.{same_itself}
use Rattle.tg_regalloc_proof.specs.Places.{IsPlain}

pub plain_not_sp : (z : Opnd) → IsPlain z → is_same z (Reg 29) ≡ false
plain_not_sp (Temp t) h = refl
plain_not_sp (Reg r) h = h.1

-- a jump or a branch to a mark
abbrev pub leads : InstructionShape → ℕ → Type 0
leads (Goes m) k = k ≡ m
leads (Tests rel left right m) k = k ≡ m
leads _ k = ⊥

-- the registers of both, where these are equal
abbrev pub Equal : List ℕ → Contents → Contents → Type 0
Equal [] s t = Unit {0}
Equal (r ∷ rs) s t = (t (Operand (Reg r)) ≡ s (Operand (Reg r))) × Equal rs s t

pub gives_same : (rs : List ℕ) (s t : Contents) → Equal rs s t → gives_back rs t ≡ gives_back rs s
gives_same [] s t h = refl
gives_same (r ∷ rs) s t h = λ i. is_found r (h.0 i) && gives_same rs s t h.1 i

handed_at : (b : Bool) (r n : ℕ) (rs : List ℕ) (s t : Contents) (d : Content) → (r == n) ≡ b →
    t (Operand (Reg n)) ≡ s (Operand (Reg n)) →
    (if is_in r rs then handed (t (Operand (Reg r))) else d) ≡ (if is_in r rs then handed (s (Operand
    (Reg r))) else d) →
    (if r == n || is_in r rs then handed (t (Operand (Reg r))) else d) ≡ (if r == n || is_in r rs then handed (s
    (Operand (Reg r))) else d)
handed_at true r n rs s t d is h rest =
    let same : r ≡ n = eqb-true r n is in
    rw (is, same) (ap (λ c. handed c) h)
handed_at false r n rs s t d is h rest = rw (is) rest

handed_same : (rs : List ℕ) (s t : Contents) (r : ℕ) (d : Content) → Equal rs s t →
    (if is_in r rs then handed (t (Operand (Reg r))) else d) ≡ (if is_in r rs then handed (s (Operand
    (Reg r))) else d)
handed_same [] s t r d h = refl
handed_same (n ∷ rs) s t r d h = handed_at (r == n) r n rs s t d refl h.0 (handed_same rs s t r d h.1)

pub entry_same : (s t : Contents) → Equal arguments s t → at_entry t ≡ at_entry s
entry_same s t h = λ i y. at y i
  where
    at : (y : Holder) → at_entry t y ≡ at_entry s y
    at (Operand (Reg r)) = handed_same arguments s t r _ h
    at (Operand (Temp j)) = refl
    at Hi = refl
    at Lo = refl

pub or_false : (b : Bool) → b ≡ false → (b || false) ≡ false
or_false true e = e
or_false false e = refl

pub and_false : (b : Bool) → (b && false) ≡ false
and_false true = refl
and_false false = refl

pub false_if : (b : Bool) → b ≡ true → b ≡ false → ⊥
false_if b t f = true≢false (sym t ∙ f)

module _ (a : Activation) where
  abbrev in_register : (r : ℕ) → Content → Content
  in_register r d = if r == 0 then Word 0 else if r == 29 then Word (a.base - a.size) else d

  pub set_other : (z y : Opnd) (c : Content) (s : Contents) → is_same y z ≡ false → held a (set (Operand z) c s)
      (Operand y) ≡ held a s (Operand y)
  set_other z (Temp t) c s e = ap (λ b. if b then c else s (Operand (Temp t))) e
  set_other z (Reg r) c s e = ap (in_register r) (ap (λ b. if b then c else s (Operand (Reg r))) e)

  pub set_plain : (z : Opnd) (c : Content) (s : Contents) → IsPlain z → held a (set (Operand z) c s) (Operand z) ≡ c
  set_plain (Temp t) c s h = ap (λ b. if b then c else s (Operand (Temp t))) (same_itself (Temp t))
  set_plain (Reg r) c s h =
      ap (λ b. if b then Word 0 else if r == 29 then Word (a.base - a.size) else set (Operand (Reg r)) c s
      (Operand (Reg r))) h.0
      ∙ (ap (λ b. if b then Word (a.base - a.size) else set (Operand (Reg r)) c s (Operand (Reg r))) h.1
      ∙ ap (λ b. if b then c else s (Operand (Reg r))) (same_itself (Reg r)))

  pub held_beside_halves : (h l : Content) (s : Contents) (x : Opnd) → held a (set Lo l (set Hi h s)) (Operand x)
      ≡ held a s (Operand x)
  held_beside_halves h l s (Temp i) = refl
  held_beside_halves h l s (Reg r) = refl
