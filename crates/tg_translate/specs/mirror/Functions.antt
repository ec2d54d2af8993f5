-- Functions: their labels, their parameters, and their fragments in the order of the source.
use Rattle.std.specs.Prelude.{ℕ, ◌+◌, List, [], ◌∷◌, ◌++◌, map, Bool, true, false}
use Rattle.tg_frame.specs.declared.accesses.Access.{Access}
use Rattle.tg_frame.specs.Homes.{homes_of, slots_of, temps_of}
use Rattle.tg_syntax.specs.declared.tokens.Ident.{Ident}
use Rattle.tg_syntax.specs.declared.trees.Param.{Param}
use Rattle.tg_syntax.specs.Tree.{FunDecs, no_functions, function}
use Rattle.tg_tree.specs.Tree.{Const, Ts, Seq, Return, no_stms, stm, Function, Code}
use Rattle.tg_translate.specs.declared.homes.Home.{Home}
use Rattle.tg_translate.specs.declared.homes.Within.{Within}
use Rattle.tg_translate.specs.declared.wants.Want.{Want}
use Rattle.tg_translate.specs.declared.wants.Want.TheVariants as want
use Rattle.tg_translate.specs.mirror.States.{
  TranslationState,
  Frame,
  Translates,
  Translated,
  drawn,
  ◌>>=◌,
  ◌>>◌,
  give,
  draw_label,
  declare_callee,
}
use Rattle.tg_translate.specs.mirror.Wants.{Made, value_of, dropped}
use Rattle.tg_translate.specs.mirror.Returning.{given_back}

abbrev pub at_of : Ident → ℕ
at_of x = x.span.from

-- which parameters go into the frame: the static link, which is the first, and a function's own
abbrev pub asked : (escapes : ℕ → Bool) → (keeps_link : Bool) → List Param → List Bool
asked escapes kept params = kept ∷ map (λ p. escapes (at_of p.name)) params

-- parameters are variables, each with its home
abbrev pub parameters :
    (level : ℕ) → List Param → List Access → List (ℕ × Home) → List (ℕ × Home)
parameters level (p ∷ params) (home ∷ homes) seen =
    parameters level params homes
    ((at_of p.name, record { level = level; access = home }) ∷ seen)
parameters level _ _ seen = seen

abbrev pub declare_params : (level : ℕ) → List Param → List Access → Translates (Unit {0})
declare_params level params homes =
    λ s. drawn tt (record s { homes = parameters level params homes s.homes })

-- the homes after the static link's
abbrev pub own_homes : List Access → List Access
own_homes [] = []
own_homes (link ∷ homes) = homes

-- the functions of a group may call each other; each draws a label
abbrev pub declare_functions : (level : ℕ) → FunDecs → Translates (Unit {0})
declare_functions level no_functions = give tt
declare_functions level (function f _ _ _ rest) = do
  label ← draw_label
  declare_callee (at_of f) (record { level = level; label = record { 0 = label } })
  declare_functions level rest

abbrev pub with_body : Frame → Ts → Function Ts
with_body f body = record {
  label = f.label;
  params = f.params;
  slots = f.slots;
  temps = f.temps;
  out = f.out;
  body = body;
}

-- a function stands after those that were done before it, and before those that are found in it
abbrev pub finished : List (Function Ts) → (outer : Frame) → (inner : TranslationState) → Ts →
    TranslationState
finished before outer inner body = record inner {
  functions = before ++ with_body inner.frame body ∷ inner.functions;
  frame = outer;
}

abbrev pub finish : TranslationState → Translated Ts → Translated (Unit {0})
finish outer (drawn body inner) =
    drawn tt (finished outer.functions outer.frame inner body)

abbrev pub frame_for : (label : ℕ) → List Bool → Frame
frame_for label params = record {
  label = label;
  params = homes_of params;
  slots = slots_of params;
  temps = temps_of params;
  out = 0;
  body = tt;
}

abbrev pub opened : TranslationState → Frame → TranslationState
opened s f = record s { functions = []; frame = f }

-- a function's text is translated with a frame of its own
abbrev pub in_frame : Frame → Translates Ts → Translates (Unit {0})
in_frame f body = λ s. finish s (body (opened s f))

-- a function's text begins: with a frame of its own, and with its parameters declared
abbrev pub begun :
    (escapes : ℕ → Bool) → (label : ℕ) → (kept : Bool) → (level : ℕ) → List Param →
    TranslationState → TranslationState
begun escapes label kept level params s =
    let f = frame_for label (asked escapes kept params) in
    record (opened s f) { homes = parameters level params (own_homes f.params) s.homes }

abbrev pub result_want : (has_result : Bool) → Want
result_want true = want.Value
result_want false = want.Dropped

abbrev pub inside : Within → (link_in_slot : Bool) → Within
inside within kept = record { level = within.level + 1; link_in_slot = kept; leave = 0 }

-- what has a result gives it back, and anything else gives 0 back
abbrev pub gives_nothing : Made → Ts
gives_nothing m = Seq (stm (dropped m) (stm (Return (Const 0)) no_stms))

abbrev pub closing : (has_result : Bool) → Made → Translates Ts
closing true m = do
  x ← value_of m
  give (given_back x)
closing false m = give (gives_nothing m)

abbrev pub body_in :
    Frame → List Param → (link_in_slot has_result : Bool) →
    (text : Want → Within → Translates Made) → Within → Translates Ts
body_in f params kept has_result text within = do
  declare_params (within.level + 1) params (own_homes f.params)
  m ← text (result_want has_result) (inside within kept)
  closing has_result m

abbrev pub body :
    (label : ℕ) → (escapes keeps_link : ℕ → Bool) → (at : ℕ) → (has_result : Bool) →
    List Param → (text : Want → Within → Translates Made) → Within → Translates (Unit {0})
body label escapes keeps_link at has_result params text within =
    let f = frame_for label (asked escapes (keeps_link at) params) in
    in_frame f (body_in f params (keeps_link at) has_result text within)

-- The program's body has the label 32, and the labels of declared functions and literals follow.

abbrev pub beginning : (label : ℕ) → Frame → TranslationState
beginning label f = record {
  label = label;
  literals = [];
  functions = [];
  homes = [];
  callees = [];
  frame = f;
}

abbrev pub outermost : Within
outermost = record { level = 0; link_in_slot = false; leave = 0 }

-- the program's body stands before its functions
abbrev pub program_of : TranslationState → Ts → Code Ts
program_of s body = record {
  functions = with_body s.frame body ∷ s.functions;
  literals = s.literals;
}

abbrev pub program : Translated Ts → Code Ts
program (drawn body s) = program_of s body
