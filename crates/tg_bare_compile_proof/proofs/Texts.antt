-- The text of lines with slots is the text of lines in the assembler's words, and so it has their image.
use Rattle.std.proofs.Common.{ℕ, ◌≡◌, List, [], ◌∷◌, ◌++◌, map, false, refl, sym, ap, ◌∙◌, append_assoc, append-nil}
use Rattle.std.proofs.lemmas.List.{append_cancel_left}
use Rattle.std.proofs.lemmas.List.Elements.{recursion_from_All}
use Rattle.std.specs.Prelude.{codes}
use Rattle.tg_isa.specs.Names.{register_name}
use Rattle.tg_asm_text.specs.declared.keywords.Segment.TheVariants.{Code}
use Rattle.tg_asm_text.specs.Assembly.{assembled}
use Rattle.tg_asm_text.specs.Texts as texts
use Rattle.tg_asm_text.proofs.TextLines.{lines_have_image}
use Rattle.tg_tree.specs.declared.fragments.Literal.{Literal}
use Rattle.tg_emit.specs.declared.assembly.Line.{Line}
use Rattle.tg_emit.specs.declared.assembly.Line.TheVariants.{Label, One, La, Statics}
use Rattle.tg_emit.specs.mirror.Lines.{literals_lines}
use Rattle.tg_emit.specs.mirror.Text.{line_text, is_in_statics, switched, lines_text, text_of}
use Rattle.tg_emit.specs.Ranges.{LiteralFits}
use Rattle.tg_emit_laws.specs.Images.{written_line, statics_written, IsCode, AreCode}
use Rattle.tg_emit_laws.proofs.WrittenTexts.{text_same}
use Rattle.tg_emit_laws.proofs.CodeLines.{code_stands}
use Rattle.tg_emit_laws.proofs.StaticsLines.{statics_stand}
use Rattle.tg_emit_proof.specs.laws.Laws.{written, HasImage}
use Rattle.tg_emit_proof.specs.laws.Emission.{lines_of}
use Rattle.tg_delay.specs.Filling.{delayed}
use Rattle.tg_bare_proof.specs.laws.Laws.{CodeIsDelayed}
use Rattle.tg_bare_compile_proof.specs.laws.Laws.{DelayedTextHasImage}

-- a line of the code is written so, and stands in the code
line_same : (line : Line) → IsCode line → line_text line ≡ texts.written_line (written_line line)
line_same (Label name) h = refl
line_same (One one target) h = refl
line_same (La register target) h =
    let name = register_name register in
    ap (λ t. 9 ∷ 108 ∷ 97 ∷ 32 ∷ t) (append_assoc name (44 ∷ 32 ∷ []) target ∙ ap (λ t. name ++ (44 ∷ 32 ∷ t)) (sym (append-nil target)))
line_same (Statics bytes) h = absurd h

followed : (name : List ℕ) (ls : List Literal) → is_in_statics (Label name) (literals_lines ls) ≡ false
followed name [] = refl
followed name (l ∷ ls) = refl

stands_in_code : (x : Line) (xs : List Line) (ls : List Literal) → IsCode x → AreCode xs → is_in_statics x (xs ++ literals_lines ls) ≡ false
stands_in_code (Label name) [] ls h k = followed name ls
stands_in_code (Label name) (Label other ∷ xs) ls h k = refl
stands_in_code (Label name) (One one target ∷ xs) ls h k = refl
stands_in_code (Label name) (La register target ∷ xs) ls h k = refl
stands_in_code (Label name) (Statics bytes ∷ xs) ls h k = absurd k.0
stands_in_code (One one target) xs ls h k = refl
stands_in_code (La register target) xs ls h k = refl
stands_in_code (Statics bytes) xs ls h k = absurd h

-- behind no code, as behind a program's
statics_same : (ls : List Literal) → lines_text false (literals_lines ls) ≡ texts.text_of (statics_written ls)
statics_same ls = append_cancel_left (codes "\t.text\n\t.globl main\n") _ _ (text_same [] ls tt)

put : (line : Line) (rest : List Line) (more : List texts.Line) → IsCode line → is_in_statics line rest ≡ false →
    lines_text false rest ≡ texts.text_of more →
    lines_text false (line ∷ rest) ≡ texts.written_line (written_line line) ++ (10 ∷ texts.text_of more)
put line rest more c e h =
    ap (λ s. (switched false s ++ line_text line) ++ (10 ∷ lines_text s rest)) e
    ∙ ap (λ t. line_text line ++ (10 ∷ t)) h
    ∙ ap (λ t. t ++ (10 ∷ texts.text_of more)) (line_same line c)

code_same : (xs : List Line) (ls : List Literal) → AreCode xs →
    lines_text false (xs ++ literals_lines ls) ≡ texts.text_of (map written_line xs ++ statics_written ls)
code_same [] ls h = statics_same ls
code_same (x ∷ xs) ls h =
    put x (xs ++ literals_lines ls) (map written_line xs ++ statics_written ls) h.0 (stands_in_code x xs ls h.0 h.1) (code_same xs ls h.1)

written_stands : (lines : List Line) (ls : List Literal) → HasImage lines ls → texts.AreLines Code (written lines ls)
written_stands lines ls has = (tt, (refl, code_stands lines (statics_written ls) has.code (statics_stand ls (recursion_from_All LiteralFits ls has.literals))))

pub delayed_text_has_image : CodeIsDelayed → DelayedTextHasImage
delayed_text_has_image delays fs ls has =
    let lines = delayed (lines_of fs) in
    ap (λ all. assembled (text_of all)) (delays fs ls)
    ∙ ap (λ t. assembled (codes "\t.text\n\t.globl main\n" ++ t)) (code_same lines ls has.code)
    ∙ lines_have_image (written lines ls) (written_stands lines ls has) has.sound
