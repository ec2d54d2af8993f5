-- Operands are filled in one by one.
use Rattle.std.proofs.Common.{◌≡◌, ◌<◌, ◌+◌, ℕ, suc, List, [], ◌∷◌, length, map, drop, get_or, Option, Some, None, refl, sym, ap, ◌∙◌, drop-cons, add-one}
use Rattle.std.proofs.lemmas.List.{length-map}
use Rattle.tg_asm_text.specs.declared.keywords.Slot.{Slot}
use Rattle.tg_asm_text.specs.Lines as lines
use Rattle.tg_asm_text.specs.Operands.{Fields, fill, fill_all, unfilled}
use Rattle.tg_asm.specs.declared.cuts.Operand.{Operand}
use Rattle.tg_asm.specs.glue.Cuts.{operand_of}

pub record Filled (slots : List Slot) (os : List Operand) (f : Fields) (at : ℕ) : Type 0 where
  pub same : fill_all slots (map operand_of os) unfilled ≡ fill_all (drop at slots) (map operand_of (drop at os)) f
  pub even : length slots ≡ length os

uneven : (slots : List Slot) (os : List lines.Operand) (f : Fields) → (length slots ≡ length os → ⊥) → fill_all slots os f ≡ None
uneven [] [] f h = absurd (h refl)
uneven [] (o ∷ os) f h = refl
uneven (s ∷ slots) [] f h = refl
uneven (s ∷ slots) (o ∷ os) f h = by (fill s o f) refl (λ g. uneven slots os g (λ e. h (ap suc e)))
  where
    by : (r : Option Fields) → fill s o f ≡ r → ((g : Fields) → fill_all slots os g ≡ None) → fill_all (s ∷ slots) (o ∷ os) f ≡ None
    by None e k = rw (e, fill_all) refl
    by (Some g) e k = rw (e, fill_all) (k g)

pub filled_uneven : (slots : List Slot) (os : List Operand) → (length slots ≡ length os → ⊥) → None ≡ fill_all slots (map operand_of os) unfilled
filled_uneven slots os h = sym (uneven slots (map operand_of os) unfilled (λ e. h (e ∙ length-map os operand_of)))

next : (slots : List Slot) (os : List Operand) (f : Fields) (at : ℕ) (d : Slot) (e : Operand) → Filled slots os f at →
    at < length slots → fill_all slots (map operand_of os) unfilled ≡ fill_all (get_or slots at d ∷ drop (suc at) slots)
    (operand_of (get_or os at e) ∷ map operand_of (drop (suc at) os)) f
next slots os f at d e i h =
    let k : at < length os = rw i.even at h in
    i.same ∙ ap (λ s. fill_all s (map operand_of (drop at os)) f) (drop-cons slots at d h)
    ∙ ap (λ o. fill_all (get_or slots at d ∷ drop (suc at) slots) (map operand_of o) f) (drop-cons os at e k)

pub filled_none : (slots : List Slot) (os : List Operand) (f : Fields) (at : ℕ) (d : Slot) (e : Operand) → Filled slots os f at →
    at < length slots → None ≡ fill (get_or slots at d) (operand_of (get_or os at e)) f → None ≡ fill_all slots (map operand_of os) unfilled
filled_none slots os f at d e i h n = sym (next slots os f at d e i h ∙ rw (← n, fill_all) refl)

pub filled_more : (slots : List Slot) (os : List Operand) (f g : Fields) (at : ℕ) (d : Slot) (e : Operand) →
    Filled slots os f at → at < length slots → Some g ≡ fill (get_or slots at d) (operand_of (get_or os at e)) f → Filled slots os g (at + 1)
filled_more slots os f g at d e i h n = record { same = rw add-one (next slots os f at d e i h ∙ rw (← n, fill_all) refl); even = i.even }
