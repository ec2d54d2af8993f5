-- Laws of the trees that programs are translated to.
use Rattle.std.specs.Prelude.{◌≡◌, ◌≤◌, ◌<◌, ◌+◌, ◌*◌, ◌-◌, ◌^◌, ℕ, suc, List, [], ◌++◌}
use Rattle.std.specs.Prelude.{length, map, false}
use Rattle.std.specs.List.{AllZip, Contains, sum_by}
use Rattle.std.specs.Ordering.{nat_cmp}
use Rattle.std.specs.FinSet.{FinSet, from_list}
use Rattle.tg_syntax.specs.Tree.{Exp}
use Rattle.tg_syntax.specs.Functions.{Measures, program_functions}
use Rattle.tg_syntax.specs.Measures.{size}
use Rattle.tg_syntax.specs.InnerMeasures.{inner}
use Rattle.tg_syntax.specs.OfWords.{OfWords}
use Rattle.tg_escape.specs.Escaping.{escapes_of}
use Rattle.tg_typecheck.specs.Programs.{CheckedProgram, IsAccepted}
use Rattle.tg_tree.specs.Tree.{Ts, Function}
use Rattle.tg_tree.specs.Shapes.{IsClosed}
use Rattle.tg_tree.specs.Sizes.{tree_length, tree_needs}
use Rattle.tg_tree.specs.Named.{
  Named,
  named_ts,
  function_labels,
  literal_labels,
  HasItsTemps,
  HasWords,
  IsLinked,
}
use Rattle.tg_tree.specs.Memory.{string_text}
use Rattle.tg_translate.specs.mirror.Scopes.{Findings, found, field_number}
use Rattle.tg_translate.specs.mirror.Translate.{translated}
use Rattle.tg_translate_laws.specs.Standing.{BreaksStand, Reaches}
use Rattle.tg_translate_laws.specs.Strings.{strings}
use Rattle.tg_translate_laws.specs.Accesses.{AccessesWithin}
use Rattle.tg_translate_laws.specs.Depths.{ts_depth}
use Rattle.tg_translate_laws.specs.Escaped.{program_escaping}
use Rattle.tg_translate_laws.specs.Programs.{with_runtime}

-- what a body names
abbrev pub names : Ts → List Named
names body = named_ts body []

-- Labels, for any program and whatever was found of it.
abbrev pub ProgramsAreLinked : Type 0
ProgramsAreLinked =
    (findings : Findings) (e : Exp) → IsLinked names (with_runtime (translated findings e))

abbrev pub LabelsAreAbove : Type 0
LabelsAreAbove =
    (findings : Findings) (e : Exp) (label : ℕ) →
    Contains
    (function_labels names (translated findings e) ++ literal_labels names (translated findings e))
    label →
    32 ≤ label

-- a body is closed where each break of the text stands in a loop, which is so in a checked program
abbrev pub BodiesAreClosed : Type 0
BodiesAreClosed =
    (findings : Findings) (e : Exp) (f : Function Ts) →
    BreaksStand false e → Contains (translated findings e).functions f → IsClosed f.body

abbrev pub CheckedBodiesAreClosed : Type 0
CheckedBodiesAreClosed =
    (p : CheckedProgram) (escapes links : FinSet nat_cmp) (f : Function Ts) →
    IsAccepted p →
    Contains (translated (found p.notes escapes links) p.body).functions f →
    IsClosed f.body

-- a body's temporaries are its frame's where each variable that a text uses is in its reach
abbrev pub TemporariesAreDrawn : Type 0
TemporariesAreDrawn =
    (findings : Findings) (e : Exp) (f : Function Ts) →
    Reaches findings [] [] e → Contains (translated findings e).functions f → HasItsTemps names f

-- which is so in a checked program, with the variables that escape
abbrev pub findings_in : CheckedProgram → (links : FinSet nat_cmp) → Findings
findings_in p links = found p.notes (from_list (escapes_of p.body)) links

abbrev pub CheckedReaches : Type 0
CheckedReaches =
    (p : CheckedProgram) (links : FinSet nat_cmp) →
    IsAccepted p → Reaches (findings_in p links) [] [] p.body

abbrev pub CheckedTemporariesAreDrawn : Type 0
CheckedTemporariesAreDrawn =
    (p : CheckedProgram) (links : FinSet nat_cmp) (f : Function Ts) →
    IsAccepted p →
    Contains (translated (findings_in p links) p.body).functions f →
    HasItsTemps names f

-- One literal for each string of the text, in its order: its length as a word, and its bytes.
abbrev pub LiteralsAreStrings : Type 0
LiteralsAreStrings =
    (findings : Findings) (e : Exp) →
    map (λ l. l.text) (translated findings e).literals ≡ map string_text (strings e)

abbrev pub LiteralsAreShort : Type 0
LiteralsAreShort =
    (findings : Findings) (e : Exp) →
    sum_by (λ l. length l.text) (translated findings e).literals ≡
    sum_by (λ bytes. 4 + length bytes) (strings e)

-- Function by function, the program's body first and then those that it declares, in the order of
-- the text. The slots of a function's frame are at most its variables that escape, and one more,
-- for the static link.
abbrev pub SlotsAreFew : Type 0
SlotsAreFew =
    (findings : Findings) (e : Exp) →
    AllZip (λ n f. f.slots ≤ n + 1) (program_escaping findings.escapes e)
    (translated findings e).functions

-- The length, the needs and the depth that a node of a function's text pays for at most, where
-- functions are nested 32 deep at most, what a parameter of its own pays for, and what each
-- function has besides. The dearest node is a call without arguments over 32 levels.
abbrev pub node_length : ℕ
node_length = 145

abbrev pub node_needs : ℕ
node_needs = 208

abbrev pub node_depth : ℕ
node_depth = 8

abbrev pub parameter_length : ℕ
parameter_length = 6

abbrev pub parameter_needs : ℕ
parameter_needs = 9

abbrev pub function_length : ℕ
function_length = 18

abbrev pub function_needs : ℕ
function_needs = 4

abbrev pub function_depth : ℕ
function_depth = 62

-- a function's own parameters are nodes, but none of its body
abbrev pub paid : (node parameter function : ℕ) → Measures → ℕ
paid node parameter function m = node * m.size + parameter * (m.nodes - m.size) + function

-- What the frame of a function has, and how far its body goes, by the nodes and the level of the
-- text: at most six temporaries a node, and one more; and for a variable or a callee of a function
-- further out at most one static link a level, so at most as many accesses of memory stand one
-- within another, and one more, for the variable itself. So its length, its needs and its depth are
-- at most what its nodes and its parameters pay for.
pub record FunctionIsWithin (m : Measures) (f : Function Ts) : Type 0 where
  pub slots : f.slots ≤ m.nodes + 1
  pub temps : f.temps ≤ 6 * m.nodes + 1
  pub accesses : AccessesWithin (suc m.level) f.body
  pub short :
      m.level ≤ 32 → tree_length f ≤ paid node_length parameter_length function_length m
  pub small : m.level ≤ 32 → tree_needs f ≤ paid node_needs parameter_needs function_needs m
  pub shallow : m.level ≤ 32 → ts_depth f.body ≤ node_depth * m.size + function_depth

abbrev pub FunctionsAreWithin : Type 0
FunctionsAreWithin =
    (findings : Findings) (e : Exp) →
    AllZip FunctionIsWithin (program_functions e) (translated findings e).functions

-- An accepted program has 32,768 nodes and 32 levels at most, and the body of each of its functions
-- 4,096 nodes.
pub record FunctionIsSmall (f : Function Ts) : Type 0 where
  pub slots : f.slots ≤ 32769
  pub temps : f.temps ≤ 196609
  pub accesses : AccessesWithin 33 f.body
  pub short : tree_length f ≤ 800000
  pub small : tree_needs f ≤ 1200000
  pub shallow : ts_depth f.body ≤ 33000

abbrev pub CheckedFramesAreSmall : Type 0
CheckedFramesAreSmall =
    (p : CheckedProgram) (escapes links : FinSet nat_cmp) (f : Function Ts) →
    IsAccepted p →
    Contains (translated (found p.notes escapes links) p.body).functions f →
    FunctionIsSmall f

-- Each constant of the trees is a word: where the ints of the text are, each number of a field is
-- less than a fourth of all words, and so are the nodes.
abbrev pub FieldsAreFew : Findings → Type 0
FieldsAreFew findings = (at : ℕ) → 4 * field_number (findings.meaning at) < 2 ^ 32

abbrev pub ConstantsAreWords : Type 0
ConstantsAreWords =
    (findings : Findings) (e : Exp) →
    FieldsAreFew findings → OfWords e → size e + inner e < 1073741823 →
    HasWords names (translated findings e)

-- A program that is accepted has few nodes.
abbrev pub CheckedConstantsAreWords : Type 0
CheckedConstantsAreWords =
    (p : CheckedProgram) (escapes links : FinSet nat_cmp) →
    IsAccepted p → OfWords p.body → FieldsAreFew (found p.notes escapes links) →
    HasWords names (translated (found p.notes escapes links) p.body)
