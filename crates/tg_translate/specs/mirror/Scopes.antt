-- What the passes before found of a program, and what names are to a translation: homes of
-- variables and labels of functions, with the level of the function that declares them.
use Rattle.std.specs.Prelude.{ℕ, ◌-◌, List, Option, Some, None, Bool, true, false}
use Rattle.tg_frame.specs.declared.accesses.Access.{Access}
use Rattle.tg_runtime.specs.declared.routines.Routine.{Routine}
use Rattle.tg_runtime.specs.declared.routines.Routine.TheVariants as routine
use Rattle.tg_semantics.specs.declared.standards.Standard.{Standard}
use Rattle.tg_semantics.specs.declared.standards.Standard.TheVariants as standard
use Rattle.tg_typecheck.specs.declared.notes.Means.{Means}
use Rattle.tg_typecheck.specs.declared.notes.Means.TheVariants as means
use Rattle.tg_tree.specs.Tree.{Tx, Const, Address, Call, Txs, tx, no_stms}
use Rattle.std.specs.Ordering.{nat_cmp}
use Rattle.std.specs.FinSet.{FinSet, contains}
use Rattle.tg_typecheck.specs.declared.notes.Note.{Note}
use Rattle.tg_typecheck.specs.Answered.{meaning_at}
use Rattle.tg_tree.specs.Memory.{string_text}
use Rattle.tg_translate.specs.declared.findings.Findings.{Findings as CodeFindings}
use Rattle.tg_translate.specs.declared.homes.Home.{Home}
use Rattle.tg_translate.specs.declared.homes.Callee.{Callee}
use Rattle.tg_translate.specs.declared.homes.Within.{Within}
use Rattle.tg_translate.specs.mirror.States.{
  Translates,
  ◌>>=◌,
  ◌>>◌,
  give,
  draw_label,
  add_literal,
  home_at,
  callee_at,
  declare_home,
  local,
}
use Rattle.tg_translate.specs.mirror.Wants.{Made, value}
use Rattle.tg_translate.specs.mirror.Constructs.{
  Storage,
  at_address,
  place_in,
  frame_out,
  call_routine,
}

-- what is noted at a byte, whether the variable of a byte escapes, and whether the function of a
-- byte keeps its static link in a slot, since a function nested in it goes through that
pub record Findings : Type 0 where
  pub meaning : (at : ℕ) → Option Means
  pub escapes : (at : ℕ) → Bool
  pub keeps_link : (at : ℕ) → Bool

abbrev pub found : List Note → (escapes links : FinSet nat_cmp) → Findings
found notes escapes links = record {
  meaning = λ at. meaning_at at notes;
  escapes = λ at. contains escapes at;
  keeps_link = λ at. contains links at;
}

abbrev pub findings_of : CodeFindings → Findings
findings_of f = found f.notes.now f.escapes.now f.links.now

-- a part of a function's text: a level outwards is a static link
abbrev pub frame_at : Within → (level : ℕ) → Tx
frame_at within level = frame_out within.link_in_slot (within.level - level)

-- what isn't declared, of which an accepted program has nothing, is 0
abbrev pub no_value : Tx
no_value = Const 0

abbrev pub nowhere : Storage
nowhere = at_address no_stms no_value

abbrev pub home_place : Within → Option Home → Storage
home_place within (Some home) = place_in (frame_at within home.level) home.access
home_place within None = nowhere

abbrev pub variable_place : Within → Option Means → Translates Storage
variable_place within (Some (means.Variable at)) = do
  home ← home_at at
  give (home_place within home)
variable_place within _ = give nowhere

abbrev pub field_number : Option Means → ℕ
field_number (Some (means.Field k)) = k
field_number _ = 0

abbrev pub compares_strings : Option Means → Bool
compares_strings (Some means.Content) = true
compares_strings _ = false

abbrev pub routine_of : Standard → Routine
routine_of standard.Print = routine.Print
routine_of standard.Flush = routine.Flush
routine_of standard.Getchar = routine.Getchar
routine_of standard.Ord = routine.Ord
routine_of standard.Chr = routine.Chr
routine_of standard.Size = routine.Size
routine_of standard.Substring = routine.Substring
routine_of standard.Concat = routine.Concat
routine_of standard.Not = routine.Not
routine_of standard.Exit = routine.Exit

-- the first argument is the frame address of the function that declares the callee
abbrev pub call_declared : Within → Txs → Option Callee → Tx
call_declared within xs (Some callee) =
    Call callee.label.0 (tx (frame_at within callee.level) xs)
call_declared within xs None = no_value

abbrev pub call : Within → Option Means → Txs → Translates Tx
call within (Some (means.Standard f)) xs = give (call_routine (routine_of f) xs)
call within (Some (means.Function at)) xs = do
  callee ← callee_at at
  give (call_declared within xs callee)
call within _ xs = give no_value

abbrev pub literal : List ℕ → Translates Made
literal bytes = do
  label ← draw_label
  add_literal (record { label = label; text = string_text bytes })
  give (value (Address label))

-- a variable of the function at work
abbrev pub declare_variable : (escapes : Bool) → (level at : ℕ) → Translates Access
declare_variable escapes level at = do
  access ← local escapes
  declare_home at (record { level = level; access = access })
  give access
