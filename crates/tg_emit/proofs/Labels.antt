-- Labels are ASCII texts, and a row whose form takes no label is written without one.
use Rattle.std.proofs.Common.{ℕ, zero, suc, ◌≡◌, ◌<◌, List, [], ◌∷◌, length, Bool, true, false, refl, sym, ap, ◌∙◌, arith, lit<}
use Rattle.std.specs.Prelude.{IsTrue, ◌==◌, IsAscii, IsUtf8}
use Rattle.std.proofs.lemmas.Bool.Decides.{nat_tests}
use Rattle.std.proofs.lemmas.Str.{IsUtf8-from_ascii}
use Rattle.tg_asm_text.specs.Lines.{back, begins_label, is_in_label, is_past_label}
use Rattle.tg_asm_text.specs.Operands.{is_label}
use Rattle.tg_instr.proofs.Tests.{left_holds, right_holds}
use Rattle.tg_isa.specs.declared.mips.Mips.{Mips}
use Rattle.tg_isa.specs.declared.mips.Mips.TheVariants as row
use Rattle.tg_asm_text.specs.Writing.{takes_label, line_of}

pub written_alone : (one : Mips) (s t : List ℕ) → takes_label one ≡ false → line_of one s ≡ line_of one t
written_alone (row.J n) s t h = cc
written_alone _ s t h = cc

begins_below : (c : ℕ) → begins_label c ≡ true → c < 128
begins_below c h = grind (arith, nat_tests)

in_label_below : (c : ℕ) → is_in_label c ≡ true → c < 128
in_label_below c h = grind (arith, nat_tests)

-- a text without a byte that is in no label
ascii_front : (text : List ℕ) → length (back is_past_label text) ≡ 0 → IsAscii text
ascii_front [] h = λ i. lit< tt
ascii_front (c ∷ text) h = by_class (is_in_label c) refl (λ k. ascii_front text k)
  where
    by_class : (b : Bool) → is_in_label c ≡ b → (length (back is_past_label text) ≡ 0 → IsAscii text) → IsAscii (c ∷ text)
    by_class true e rest zero = in_label_below c e
    by_class true e rest (suc i) = rest (let same : length (back is_past_label (c ∷ text)) ≡ length (back is_past_label text) = rw e refl in sym same ∙ h) i
    by_class false e rest i = let long : length (back is_past_label (c ∷ text)) ≡ length (c ∷ text) = rw e refl in absurd (omega arith)

pub label_ascii : (text : List ℕ) → IsTrue (is_label text) → IsAscii text
label_ascii [] h i = lit< tt
label_ascii (c ∷ text) h zero = begins_below c (left_holds _ _ h)
label_ascii (c ∷ text) h (suc i) = ascii_front text (let e : IsTrue (length (back is_past_label text) == 0) = right_holds (begins_label c) _ h in grind
    (arith, nat_tests)) i

pub label_utf8 : (text : List ℕ) → IsTrue (is_label text) → IsUtf8 text
label_utf8 text h = IsUtf8-from_ascii text (label_ascii text h)

-- what is written of a row is written with a text that is its label, where it takes one
pub written_with : (one : Mips) (s t : List ℕ) → (IsTrue (takes_label one) → s ≡ t) → line_of one s ≡ line_of one t
written_with one s t h = by_label (takes_label one) refl
  where
    by_label : (b : Bool) → takes_label one ≡ b → line_of one s ≡ line_of one t
    by_label true e = ap (line_of one) (h e)
    by_label false e = written_alone one s t e
