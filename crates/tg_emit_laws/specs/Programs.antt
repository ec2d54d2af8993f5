-- When functions over registers and literals are a program.
use Rattle.std.specs.Prelude.{ℕ, ◌+◌, ◌==◌, ◌<◌, ◌≤◌, ◌&&◌, List, [], ◌∷◌, length, Bool, true, not}
use Rattle.std.specs.Prelude.{IsTrue, All}
use Rattle.std.specs.List.{list_any, list_all}
use Rattle.tg_machine_state.specs.State.{most_words, most_bytes, padded}
use Rattle.tg_tree.specs.declared.fragments.Literal.{Literal}
use Rattle.tg_instr.specs.declared.instr.Instr.{Instr}
use Rattle.tg_instr.specs.declared.instr.Instr.TheVariants.{Address, Call}
use Rattle.tg_instr.specs.declared.codes.Allocated.{Allocated}
use Rattle.tg_emit.specs.Conditions.{is_emittable}
use Rattle.tg_emit.specs.Ranges.{FunctionFits, LiteralFits}
use Rattle.tg_emit.specs.mirror.Lines.{words, functions_lines, is_long}

abbrev pub function_labels : List Allocated → List ℕ
function_labels [] = []
function_labels (f ∷ fs) = f.frame.label.0 ∷ function_labels fs

abbrev pub literal_labels : List Literal → List ℕ
literal_labels [] = []
literal_labels (l ∷ ls) = l.label.0 ∷ literal_labels ls

abbrev pub is_among : List ℕ → ℕ → Bool
is_among labels label = list_any (λ n. label == n) labels

abbrev pub labels_differ : List ℕ → Bool
labels_differ [] = true
labels_differ (label ∷ labels) = not (is_among labels label) && labels_differ labels

-- a call names a function, and an address a literal
abbrev pub names_those : (functions literals : List ℕ) → Instr → Bool
names_those functions literals (Call callee) = is_among functions callee.0
names_those functions literals (Address to literal) = is_among literals literal.0
names_those functions literals one = true

abbrev pub calls_those : (functions literals : List ℕ) → Allocated → Bool
calls_those functions literals f = list_all (names_those functions literals) f.code.list

-- the bytes of the statics
abbrev pub bytes_of : List Literal → ℕ
bytes_of [] = 0
bytes_of (l ∷ ls) = length (padded l.text) + bytes_of ls

-- What is emitted of them is a whole text: 32 is the program's body.
pub record IsWholeProgram (fs : List Allocated) (ls : List Literal) : Type 0 where
  pub emittable : IsTrue (list_all is_emittable fs)
  pub functions_differ : IsTrue (labels_differ (function_labels fs))
  pub literals_differ : IsTrue (labels_differ (literal_labels ls))
  pub has_body : IsTrue (is_among (function_labels fs) 32)
  pub names : IsTrue (list_all (calls_those (function_labels fs) (literal_labels ls)) fs)
  pub code_fits : words (functions_lines (is_long fs) fs) < most_words
  pub statics_fit : bytes_of ls ≤ most_bytes

-- What the types of functions and literals say of their numbers.
pub record AreTyped (fs : List Allocated) (ls : List Literal) : Type 0 where
  pub functions : All FunctionFits fs
  pub literals : All LiteralFits ls
