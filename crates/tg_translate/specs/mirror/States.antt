-- What a translation draws: labels, literals, the functions that are done, the homes of variables
-- and the labels of functions; and, of the function at work, its slots and temporaries. Actions
-- draw one after another.
use Rattle.std.specs.Prelude.{ℕ, ◌+◌, List, [], ◌∷◌, ◌++◌, map, Bool, Option, if◌then◌else◌}
use Rattle.tg_frame.specs.declared.accesses.Access.{Access}
use Rattle.tg_frame.specs.Homes.{next_home}
use Rattle.tg_symbols.specs.Tables.{looked_up}
use Rattle.tg_tree.specs.Tree.{Ts, Function, Literal}
use Rattle.tg_tree.specs.glue.Plain.{plain_function, plain_fragment, plain_literal}
use Rattle.tg_translate.specs.declared.states.TranslationState.{TranslationState as CodeState}
use Rattle.tg_translate.specs.declared.homes.Home.{Home}
use Rattle.tg_translate.specs.declared.homes.Callee.{Callee}

-- a function without its body
abbrev pub Frame : Type 0
Frame = Function (Unit {0})

-- `label` is the next one; homes and callees stand by the byte of their declaring identifier, the
-- newest first, and none is taken back, since no two are declared at one byte
pub record TranslationState : Type 0 where
  pub label : ℕ
  pub literals : List Literal
  pub functions : List (Function Ts)
  pub homes : List (ℕ × Home)
  pub callees : List (ℕ × Callee)
  pub frame : Frame

abbrev pub state_of : CodeState → TranslationState
state_of s = record {
  label = s.label;
  literals = map plain_literal s.literals.items;
  functions = map plain_fragment s.functions.items;
  homes = s.homes;
  callees = s.callees;
  frame = plain_function s.frame tt;
}

pub data Translated (A : Type 0) : Type 0 where
  drawn : A → TranslationState → Translated A

abbrev pub state_after : {A : Type 0} → Translated A → TranslationState
state_after (drawn _ s) = s

abbrev pub Translates : Type 0 → Type 0
Translates A = TranslationState → Translated A

abbrev pub after : {A B : Type 0} → Translated A → (A → Translates B) → Translated B
after (drawn a s) next = next a s

infixl 10 ◌>>=◌
infixl 10 ◌>>◌
abbrev pub ◌>>=◌ : {A B : Type 0} → Translates A → (A → Translates B) → Translates B
◌>>=◌ m next = λ s. after (m s) next

abbrev pub ◌>>◌ : {A B : Type 0} → Translates A → Translates B → Translates B
◌>>◌ m next = m >>= λ _. next

abbrev pub give : {A : Type 0} → A → Translates A
give a = λ s. drawn a s

abbrev pub with_frame : Frame → TranslationState → TranslationState
with_frame f s = record s { frame = f }

abbrev pub one_temp : Frame → Frame
one_temp f = record f { temps = f.temps + 1 }

abbrev pub one_slot : Frame → Frame
one_slot f = record f { slots = f.slots + 1 }

-- a fresh temporary
abbrev pub fresh : Translates ℕ
fresh = λ s. drawn s.frame.temps (with_frame (one_temp s.frame) s)

-- a home for a local variable, in the frame where it escapes
abbrev pub local : (escapes : Bool) → Translates Access
local escapes =
    λ s. drawn (next_home escapes s.frame.slots s.frame.temps)
    (with_frame (if escapes then one_slot s.frame else one_temp s.frame) s)

abbrev pub next_label : Translates ℕ
next_label = λ s. drawn s.label s

abbrev pub draw_label : Translates ℕ
draw_label = λ s. drawn s.label (record s { label = s.label + 1 })

abbrev pub add_literal : Literal → Translates (Unit {0})
add_literal l = λ s. drawn tt (record s { literals = s.literals ++ l ∷ [] })

-- what is declared at a byte
abbrev pub declare_home : (at : ℕ) → Home → Translates (Unit {0})
declare_home at home = λ s. drawn tt (record s { homes = (at, home) ∷ s.homes })

abbrev pub declare_callee : (at : ℕ) → Callee → Translates (Unit {0})
declare_callee at callee = λ s. drawn tt (record s { callees = (at, callee) ∷ s.callees })

abbrev pub home_at : (at : ℕ) → Translates (Option Home)
home_at at = λ s. drawn (looked_up at s.homes) s

abbrev pub callee_at : (at : ℕ) → Translates (Option Callee)
callee_at at = λ s. drawn (looked_up at s.callees) s
