-- The words that name items.
use Rattle.std.proofs.Common.{◌≡◌, ◌≢◌, ℕ, Bool, true, false, List, [], ◌∷◌, Option, Some, None, refl, sym, ap, ◌∙◌}
use Rattle.std.specs.Str.{bytes_eq}
use Rattle.std.proofs.lemmas.Slice.Eq.{bytes_eq-Decides}
use Rattle.tg_asm_text.specs.declared.keywords.Keyword.{Keyword}
use Rattle.tg_asm_text.specs.declared.keywords.Keyword.TheVariants.{Sll, Srl, Sra, Jr, Jalr, Syscall, Break, Mfhi, Mflo, Mult, Div, Add, Sub, Addu, Subu}
use Rattle.tg_asm_text.specs.declared.keywords.Keyword.TheVariants.{And, Or, Xor, Nor, Slt, Sltu, J, Jal, Beq, Bne, Blez, Bgtz, Bltz, Bgez, Addi, Addiu}
use Rattle.tg_asm_text.specs.declared.keywords.Keyword.TheVariants.{Slti, Sltiu, Andi, Ori, Xori, Lui, Lb, Lbu, Lw, Sb, Sw, Nop, Move, Li, La, Text, Data}
use Rattle.tg_asm_text.specs.declared.keywords.Keyword.TheVariants.{Globl, Word, Byte, Ascii, Asciiz, Space, Align}
use Rattle.tg_asm_text.specs.Items.{keyword_text, keywords, among, keyword}

spelled_first : (k : Keyword) → keyword (keyword_text k) ≡ Some k
spelled_first Sll = refl
spelled_first Srl = refl
spelled_first Sra = refl
spelled_first Jr = refl
spelled_first Jalr = refl
spelled_first Syscall = refl
spelled_first Break = refl
spelled_first Mfhi = refl
spelled_first Mflo = refl
spelled_first Mult = refl
spelled_first Div = refl
spelled_first Add = refl
spelled_first Sub = refl
spelled_first Addu = refl
spelled_first Subu = refl
spelled_first And = refl
spelled_first Or = refl
spelled_first Xor = refl
spelled_first Nor = refl
spelled_first Slt = refl
spelled_first Sltu = refl
spelled_first J = refl
spelled_first Jal = refl
spelled_first Beq = refl
spelled_first Bne = refl
spelled_first Blez = refl
spelled_first Bgtz = refl
spelled_first Bltz = refl
spelled_first Bgez = refl
spelled_first Addi = refl
spelled_first Addiu = refl
spelled_first Slti = refl
spelled_first Sltiu = refl
spelled_first Andi = refl
spelled_first Ori = refl
spelled_first Xori = refl
spelled_first Lui = refl
spelled_first Lb = refl
spelled_first Lbu = refl
spelled_first Lw = refl
spelled_first Sb = refl
spelled_first Sw = refl
spelled_first Nop = refl
spelled_first Move = refl
spelled_first Li = refl
spelled_first La = refl
spelled_first Text = refl
spelled_first Data = refl
spelled_first Globl = refl
spelled_first Word = refl
spelled_first Byte = refl
spelled_first Ascii = refl
spelled_first Asciiz = refl
spelled_first Space = refl
spelled_first Align = refl

pub keyword_spelled : (text : List ℕ) (k : Keyword) → text ≡ keyword_text k → Some k ≡ keyword text
keyword_spelled text k e = sym (ap keyword e ∙ spelled_first k)

among_found : (ks : List Keyword) (text : List ℕ) (k : Keyword) → among ks text ≡ Some k → text ≡ keyword_text k
among_found [] text k e = cc
among_found (j ∷ ks) text k e = by (bytes_eq (keyword_text j) text) refl (among_found ks text k)
  where
    by : (b : Bool) → bytes_eq (keyword_text j) text ≡ b → (among ks text ≡ Some k → text ≡ keyword_text k) → text ≡ keyword_text k
    by true h ih =
        let s : Some j ≡ Some k = rw h at e in
        let i : j ≡ k = cc in
        sym ((bytes_eq-Decides (keyword_text j) text).0 h) ∙ ap keyword_text i
    by false h ih = ih (rw h at e)

none_found : (text : List ℕ) (r : Option Keyword) → keyword text ≡ r → ((k : Keyword) → text ≢ keyword_text k) → None ≡ r
none_found text None e h = refl
none_found text (Some k) e h = absurd (h k (among_found keywords text k e))

pub keyword_none : (text : List ℕ) → ((k : Keyword) → text ≢ keyword_text k) → None ≡ keyword text
keyword_none text h = none_found text (keyword text) refl h
