-- Values, records and arrays (Appel, appendix A.2 and A.3), the entries of environments (chapter
-- 5), endings, and what a run has at a moment.
use Rattle.std.specs.Prelude.{ℕ, ◌+◌, ◌-◌, List, [], ◌∷◌, ◌++◌, drop, slice_set}
use Rattle.tg_syntax.specs.Tree.{FunDecs}
use Rattle.tg_semantics.specs.declared.standards.Standard.{Standard}

-- a value (appendix A.3): an int, by its word; a string, by its bytes; nil; a record or an array,
-- by its place among the objects, so that two names may stand for one; or no value
pub data Value : Type 0 where
  int : ℕ → Value
  string : List ℕ → Value
  nil : Value
  reference : ℕ → Value
  nothing : Value

-- a record has values by the names of its fields, an array by their places (appendix A.2)
pub data Object : Type 0 where
  fields : List (ℕ × Value) → Object
  elements : List Value → Object

-- an entry of an environment (chapter 5): a variable with its place among the variables, or a group
-- of functions, each with the level of the function that declares it (chapter 6); or a standard
-- function
pub data Entry : Type 0 where
  variable : (name level place : ℕ) → Entry
  group : (level : ℕ) → FunDecs → Entry
  standard : (name : ℕ) → Standard → Entry

-- what a place of the text sees, innermost first, and the level of the function that it is a text
-- of
pub record Env : Type 0 where
  pub level : ℕ
  pub entries : List Entry

-- how a program ends: at its end; where something isn't there, as nil's fields and an index outside
-- its array, which the book leaves open; where the heap is full; where an int has no word; by
-- `exit` (appendix A.4)
pub data Ending : Type 0 where
  normal by_nil by_index by_division by_chr by_substring by_size by_heap by_overflow : Ending
  by_exit : ℕ → Ending

-- What a run has at a moment: variables and objects, of which none goes (records and arrays have
-- infinite extent, appendix A.3), the input that is left, the bytes of heap that are taken, the
-- weight of what is open, and the number of open activations of declared functions.
pub record SourceWorld : Type 0 where
  pub variables : List Value
  pub objects : List Object
  pub input : List ℕ
  pub heap : ℕ
  pub weight : ℕ
  pub depth : ℕ

abbrev pub initial_world : List ℕ → SourceWorld
initial_world input = record {
  variables = [];
  objects = [];
  input = input;
  heap = 0;
  weight = 0;
  depth = 0;
}

-- How each of these changes.

abbrev pub add_variable : Value → SourceWorld → SourceWorld
add_variable v w = record w { variables = w.variables ++ v ∷ [] }

abbrev pub put_variable : ℕ → Value → SourceWorld → SourceWorld
put_variable place v w = record w { variables = slice_set w.variables place v }

abbrev pub add_object : Object → SourceWorld → SourceWorld
add_object o w = record w { objects = w.objects ++ o ∷ [] }

abbrev pub put_object : ℕ → Object → SourceWorld → SourceWorld
put_object place o w = record w { objects = slice_set w.objects place o }

abbrev pub add_heap : ℕ → SourceWorld → SourceWorld
add_heap bytes w = record w { heap = w.heap + bytes }

abbrev pub drop_byte : SourceWorld → SourceWorld
drop_byte w = record w { input = drop 1 w.input }

abbrev pub add_weight : ℕ → SourceWorld → SourceWorld
add_weight k w = record w { weight = w.weight + k }

abbrev pub drop_weight : ℕ → SourceWorld → SourceWorld
drop_weight k w = record w { weight = w.weight - k }

abbrev pub go_deeper : SourceWorld → SourceWorld
go_deeper w = record w { depth = w.depth + 1 }

abbrev pub go_back : SourceWorld → SourceWorld
go_back w = record w { depth = w.depth - 1 }
