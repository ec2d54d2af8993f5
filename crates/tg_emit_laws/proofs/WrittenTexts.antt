-- The text that is written is the text of lines in the assembler's words.
use Rattle.std.proofs.Common.{ℕ, ◌≡◌, List, [], ◌∷◌, ◌++◌, map, Bool, true, false, refl, sym, ap, ◌∙◌, arith, append_assoc, append-nil}
use Rattle.std.specs.Prelude.{codes}
use Rattle.std.specs.Fmt.{decimal}
use Rattle.std.proofs.lemmas.Fmt.{decimal_digit}
use Rattle.tg_machine_state.specs.State.{padded}
use Rattle.tg_isa.specs.Names.{register_name}
use Rattle.tg_asm_text.specs.Writing.{further}
use Rattle.tg_asm_text.specs.Texts as texts
use Rattle.tg_tree.specs.declared.fragments.Literal.{Literal}
use Rattle.tg_instr.specs.declared.codes.Allocated.{Allocated}
use Rattle.tg_emit.specs.declared.assembly.Line.{Line}
use Rattle.tg_emit.specs.declared.assembly.Line.TheVariants.{Label, One, La, Statics}
use Rattle.tg_emit.specs.mirror.Names.{literal_name}
use Rattle.tg_emit.specs.mirror.Lines.{literals_lines, functions_lines, assembly_of, is_long}
use Rattle.tg_emit.specs.mirror.Text.{further_numbers, bytes_text, line_text, is_in_statics, switched, lines_text, text_of}
use Rattle.tg_emit_laws.specs.Images.{bytes_line, written_line, literals_written, statics_written, program_written, IsCode, AreCode}

further_same : (bytes : List ℕ) → further_numbers bytes ≡ further (map decimal bytes)
further_same [] = refl
further_same (b ∷ bytes) = ap (λ t. 44 ∷ 32 ∷ decimal b ++ t) (further_same bytes)

bytes_same : (bytes : List ℕ) → bytes_text bytes ≡ texts.written_line (bytes_line bytes)
bytes_same [] = ap (λ t. codes "\t.space " ++ t) (sym (append-nil (decimal 0) ∙ decimal_digit 0 (omega arith)))
bytes_same (b ∷ bytes) = ap (λ t. codes "\t.byte " ++ decimal b ++ t) (further_same bytes)

line_same : (line : Line) → line_text line ≡ texts.written_line (written_line line)
line_same (Label name) = refl
line_same (One one target) = refl
line_same (La register target) =
    let name = register_name register in
    ap (λ t. 9 ∷ 108 ∷ 97 ∷ 32 ∷ t) (append_assoc name (44 ∷ 32 ∷ []) target ∙ ap (λ t. name ++ (44 ∷ 32 ∷ t)) (sym (append-nil target)))
line_same (Statics bytes) = bytes_same bytes

-- a line of the code stands in the code
followed : (name : List ℕ) (ls : List Literal) → is_in_statics (Label name) (literals_lines ls) ≡ false
followed name [] = refl
followed name (l ∷ ls) = refl

stands_in_code : (x : Line) (xs : List Line) (ls : List Literal) → IsCode x → AreCode xs → is_in_statics x (xs ++ literals_lines ls) ≡ false
stands_in_code (Label name) [] ls h k = followed name ls
stands_in_code (Label name) (Label other ∷ xs) ls h k = refl
stands_in_code (Label name) (One one target ∷ xs) ls h k = refl
stands_in_code (Label name) (La register target ∷ xs) ls h k = refl
stands_in_code (Label name) (Statics bytes ∷ xs) ls h k = absurd k.0
stands_in_code (One one target) xs ls h k = refl
stands_in_code (La register target) xs ls h k = refl
stands_in_code (Statics bytes) xs ls h k = absurd h

-- a line and what follows it
put : (before after : Bool) (line : Line) (rest : List Line) (more : List texts.Line) → is_in_statics line rest ≡ after →
    lines_text after rest ≡ texts.text_of more →
    lines_text before (line ∷ rest) ≡ switched before after ++ (texts.written_line (written_line line) ++ (10 ∷ texts.text_of more))
put before after line rest more e h =
    ap (λ s. (switched before s ++ line_text line) ++ (10 ∷ lines_text s rest)) e
    ∙ ap (λ t. (switched before after ++ line_text line) ++ (10 ∷ t)) h
    ∙ ap (λ t. (switched before after ++ t) ++ (10 ∷ texts.text_of more)) (line_same line)
    ∙ append_assoc (switched before after) (texts.written_line (written_line line)) (10 ∷ texts.text_of more)

literals_same : (ls : List Literal) → lines_text true (literals_lines ls) ≡ texts.text_of (literals_written ls)
literals_same [] = refl
literals_same (l ∷ ls) =
    put true true (Label (literal_name l.label.0)) (Statics (padded l.text) ∷ literals_lines ls) (bytes_line (padded l.text) ∷ literals_written ls) refl
    (put true true (Statics (padded l.text)) (literals_lines ls) (literals_written ls) refl (literals_same ls))

statics_same : (ls : List Literal) → lines_text false (literals_lines ls) ≡ texts.text_of (statics_written ls)
statics_same [] = refl
statics_same (l ∷ ls) =
    put false true (Label (literal_name l.label.0)) (Statics (padded l.text) ∷ literals_lines ls) (bytes_line (padded l.text) ∷ literals_written ls) refl
    (put true true (Statics (padded l.text)) (literals_lines ls) (literals_written ls) refl (literals_same ls))

code_same : (xs : List Line) (ls : List Literal) → AreCode xs →
    lines_text false (xs ++ literals_lines ls) ≡ texts.text_of (map written_line xs ++ statics_written ls)
code_same [] ls h = statics_same ls
code_same (x ∷ xs) ls h = put false false x (xs ++ literals_lines ls) (map written_line xs ++ statics_written ls) (stands_in_code x xs ls h.0 h.1)
    (code_same xs ls h.1)

pub text_same : (fs : List Allocated) (ls : List Literal) → AreCode (functions_lines (is_long fs) fs) →
    text_of (assembly_of fs ls) ≡ texts.text_of (program_written fs ls)
text_same fs ls h = ap (λ t. codes "\t.text\n\t.globl main\n" ++ t) (code_same (functions_lines (is_long fs) fs) ls h)
