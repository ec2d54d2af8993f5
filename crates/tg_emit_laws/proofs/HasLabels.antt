-- The labels of what is emitted are labels of the assembler's syntax.
use Rattle.std.proofs.Common.{List, [], ◌∷◌, Bool, true, false, refl, arith}
use Rattle.std.specs.Prelude.{IsTrue}
use Rattle.std.specs.List.{AllByRecursion, list_all}
use Rattle.std.proofs.lemmas.List.Elements.{recursion_from_All}
use Rattle.tg_asm_text.specs.Operands.{is_label}
use Rattle.tg_asm_text.specs.Writing.{takes_label}
use Rattle.tg_tree.specs.declared.fragments.Literal.{Literal}
use Rattle.tg_instr.proofs.Tests.{both_hold, all_append}
use Rattle.tg_emit.specs.declared.assembly.Line.{Line}
use Rattle.tg_emit.specs.declared.assembly.Line.TheVariants.{Label, One, La, Statics}
use Rattle.tg_emit.specs.Conditions.{has_labels, only_if}
use Rattle.tg_emit.specs.Ranges.{FunctionFits, LiteralFits}
use Rattle.tg_emit.specs.mirror.Lines.{functions_lines, literals_lines, is_long}
use Rattle.tg_emit_laws.specs.Images.{EmittedHasLabels, IsCode, AreCode}
use Rattle.tg_emit_laws.proofs.NameTexts.{literal_label}
use Rattle.tg_emit_laws.proofs.ProgramLines.{all_emitted, code_of_functions}

where_taken : (b c : Bool) → (IsTrue b → IsTrue c) → IsTrue (only_if b c)
where_taken true c h = h refl
where_taken false c h = refl

line_labels : (line : Line) → IsCode line → IsTrue (has_labels line)
line_labels (Label name) h = h
line_labels (One one target) h = where_taken (takes_label one) (is_label target) h.1
line_labels (La register target) h = h.1
line_labels (Statics bytes) h = refl

code_labels : (ls : List Line) → AreCode ls → IsTrue (list_all has_labels ls)
code_labels [] h = refl
code_labels (line ∷ ls) h = both_hold (has_labels line) (list_all has_labels ls) (line_labels line h.0) (code_labels ls h.1)

literals_labels : (ls : List Literal) → AllByRecursion LiteralFits ls → IsTrue (list_all has_labels (literals_lines ls))
literals_labels [] f = refl
literals_labels (l ∷ ls) f =
    let b = f.0.label in
    both_hold _ (list_all has_labels (literals_lines ls)) (literal_label l.label.0 (omega arith)) (literals_labels ls f.1)

pub emitted_has_labels : EmittedHasLabels
emitted_has_labels fs ls h t =
    all_append has_labels (functions_lines (is_long fs) fs) (literals_lines ls)
    (code_labels (functions_lines (is_long fs) fs) (code_of_functions (is_long fs) fs (all_emitted fs h (recursion_from_All FunctionFits fs t.functions))))
    (literals_labels ls (recursion_from_All LiteralFits ls t.literals))
