-- The labels of the lines of a function are labels of the assembler's syntax.
use Rattle.std.proofs.Common.{List, [], ◌∷◌, Bool, true, false, refl}
use Rattle.std.specs.Prelude.{IsTrue}
use Rattle.std.specs.List.{list_all}
use Rattle.tg_asm_text.specs.Operands.{is_label}
use Rattle.tg_asm_text.specs.Writing.{takes_label}
use Rattle.tg_instr.specs.declared.codes.Allocated.{Allocated}
use Rattle.tg_instr.proofs.Tests.{both_hold}
use Rattle.tg_emit.specs.declared.assembly.Line.{Line}
use Rattle.tg_emit.specs.declared.assembly.Line.TheVariants.{Label, One, La, Statics}
use Rattle.tg_emit.specs.Conditions.{has_labels, is_emittable, only_if}
use Rattle.tg_emit.specs.Ranges.{FunctionFits}
use Rattle.tg_emit.specs.mirror.Lines.{function_lines}
use Rattle.tg_emit_laws.specs.Images.{IsCode, AreCode}
use Rattle.tg_emit_laws.proofs.FunctionLines.{emitted, code_of_function}

where_taken : (b c : Bool) → (IsTrue b → IsTrue c) → IsTrue (only_if b c)
where_taken true c h = h refl
where_taken false c h = refl

line_labels : (line : Line) → IsCode line → IsTrue (has_labels line)
line_labels (Label name) h = h
line_labels (One one target) h = where_taken (takes_label one) (is_label target) h.1
line_labels (La register target) h = h.1
line_labels (Statics bytes) h = refl

code_labels : (ls : List Line) → AreCode ls → IsTrue (list_all has_labels ls)
code_labels [] h = refl
code_labels (line ∷ ls) h = both_hold (has_labels line) (list_all has_labels ls) (line_labels line h.0) (code_labels ls h.1)

pub function_labels : (turned : Bool) (f : Allocated) → IsTrue (is_emittable f) → FunctionFits f → IsTrue (list_all has_labels (function_lines turned f))
function_labels turned f h fits = code_labels (function_lines turned f) (code_of_function turned f (emitted f h fits))
