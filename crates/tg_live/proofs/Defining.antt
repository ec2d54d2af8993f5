-- What the instructions of a code define.
use Rattle.std.proofs.Common.{◌≡◌, ℕ, nat_eq, ◌||◌, List, [], ◌∷◌, Some, slice_get, refl, sym, ap, ◌∙◌, ⊎_elim}
use Rattle.std.specs.List.{list_any}
use Rattle.std.proofs.lemmas.Bool.{cases_eq, eq-eqb, ne_eqb}
use Rattle.tg_base.specs.declared.ids.Label.{Label}
use Rattle.tg_instr.specs.declared.instr.Instr.{Instr}
use Rattle.tg_instr.specs.declared.instr.Instr.TheVariants.{Call}
use Rattle.tg_instr.specs.declared.operands.Opnd.{Opnd}
use Rattle.tg_instr.specs.declared.operands.Opnd.TheVariants.{Reg}
use Rattle.tg_instr.specs.Operands.{registers}
use Rattle.tg_instr.specs.Uses.{defs_of}
use Rattle.tg_live.specs.Live.{is_among}
use Rattle.tg_live.specs.glue.Definitions.{first_in, operands_in}

-- each instruction but a call defines one operand at most
pub first_alone : (one : Instr) → ((label : Label) → one ≡ Call label → ⊥) →
    operands_in (first_in (defs_of one)) ≡ defs_of one
first_alone (Call label) n = absurd (n label refl)
first_alone _ n = refl

pub first_of : (list : List Opnd) (x : Opnd) → Some x ≡ slice_get list 0 → first_in (x ∷ []) ≡ first_in list
first_of [] x e = absurd (cc)
first_of (y ∷ rest) x e = let same : y ≡ x = cc in ap (λ z. first_in (z ∷ [])) (sym same)

equal_turned : (n m : ℕ) → nat_eq n m ≡ nat_eq m n
equal_turned n m =
    ⊎_elim (λ e. eq-eqb n m e ∙ sym (eq-eqb m n (sym e))) (λ ne. ne_eqb n m ne ∙ sym (ne_eqb m n (λ e. ne (sym e))))
    (cases_eq n m)

pub register_among : (r : ℕ) (numbers : List ℕ) →
    list_any (λ n. nat_eq n r) numbers ≡ is_among (Reg r) (registers numbers)
register_among r [] = refl
register_among r (n ∷ numbers) =
    ap (λ b. b || list_any (λ m. nat_eq m r) numbers) (equal_turned n r)
    ∙ ap (λ b. nat_eq r n || b) (register_among r numbers)
