-- The translation of a checked program to trees (Appel, chapter 7). Each expression is translated
-- for what its place wants of it. Fragments stand in the order of the source, the program's body
-- first.
use Rattle.std.specs.Prelude.{ℕ, zero, ◌+◌, [], is_some, Option, Bool, true, false}
use Rattle.tg_syntax.specs.declared.trees.Op.{Op}
use Rattle.tg_syntax.specs.declared.trees.Op.TheVariants.{And, Or}
use Rattle.tg_syntax.specs.Tree as source
use Rattle.tg_syntax.specs.Tree.{
  Exp,
  Nil,
  Break,
  Int,
  Text,
  Read,
  Call,
  Neg,
  Binary,
  Make,
  Fill,
  Assign,
  If,
  When,
  While,
  For,
  Let,
  Seq,
  Simple,
  Field,
  Index,
  Exps,
  no_exps,
  exp,
  Inits,
  no_inits,
  init,
  Decs,
  no_decs,
  types,
  variable,
  functions,
  FunDecs,
  no_functions,
  function,
}
use Rattle.tg_tree.specs.Tree as tree
use Rattle.tg_tree.specs.Tree.{Tx, Const, Txs, no_txs, tx, Ts, Stms, no_stms, Code}
use Rattle.tg_tree.specs.Forms.{nothing}
use Rattle.tg_tree.specs.glue.Lists.{join_txs}
use Rattle.tg_typecheck.specs.declared.notes.Means.{Means}
use Rattle.tg_translate.specs.declared.wants.Want.{Want}
use Rattle.tg_translate.specs.declared.wants.Want.TheVariants as want
use Rattle.tg_translate.specs.declared.homes.Within.{Within}
use Rattle.tg_translate.specs.mirror.States.{
  TranslationState,
  Translates,
  ◌>>=◌,
  ◌>>◌,
  give,
  next_label,
  state_after,
}
use Rattle.tg_translate.specs.mirror.Wants.{
  Made,
  value,
  done,
  test_of,
  value_of,
  value_from,
  condition_from,
  arm_from,
  statement_from,
  arms,
  deliver,
  followed,
  behind,
}
use Rattle.tg_translate.specs.mirror.Constructs.{
  Storage,
  HeldAll,
  none_held,
  hold_next,
  own_place,
  read,
  want_for,
  assign,
  hold_place,
  read_held,
  place_held,
  field_place,
  element_place,
  make_record,
  make_array,
  operation,
  negation,
  repeat_while,
  in_body,
  in_test,
  count,
}
use Rattle.tg_translate.specs.mirror.Scopes.{
  Findings,
  variable_place,
  field_number,
  compares_strings,
  call,
  literal,
  declare_variable,
}
use Rattle.tg_translate.specs.mirror.Choices.{left_want, tested, chosen}
use Rattle.tg_translate.specs.mirror.Purity.{assigns_nothing, inits_assign_nothing}
use Rattle.tg_translate.specs.mirror.Updates.{begins_with}
use Rattle.tg_translate.specs.mirror.Functions.{
  at_of,
  declare_functions,
  body,
  closing,
  outermost,
  beginning,
  frame_for,
  program,
}

abbrev pub connective : Op → Want → tree.Cond → (right : Want → Translates Made) → Translates Made
connective op want.Test c right = do
  m ← right want.Test
  give (tested op c m)
connective op w c right = do
  a ← arms w
  m ← right a
  give (deliver w a (chosen op a c m))

-- an operator whose left side is translated
abbrev pub with_left :
    Op → Option Means → (direct : Bool) → Want → Made → (right : Want → Translates Made) →
    Translates Made
with_left And meaning direct w left right = connective And w (test_of left) right
with_left Or meaning direct w left right = connective Or w (test_of left) right
with_left op meaning direct w left right = do
  x ← value_of left
  y ← value_from (right want.Value)
  operation op (compares_strings meaning) direct x y

-- A choice between two arms. Where a condition is wanted and the second arm is 0, it is one of two
-- conditions, as `&` is.
abbrev pub chosen_arm :
    Want → tree.Cond → (this other : Want → Translates Made) → Translates Made
chosen_arm w c this other = do
  v ← arms w
  s ← arm_from v (this v)
  t ← arm_from v (other v)
  give (deliver w v (tree.If c s t))

abbrev pub is_zero : Exp → Bool
is_zero (Int _ zero) = true
is_zero _ = false

abbrev pub is_conjunction : Want → (other : Exp) → Bool
is_conjunction want.Test b = is_zero b
is_conjunction _ b = false

abbrev pub choice :
    (conjunction : Bool) → Want → tree.Cond → (this other : Want → Translates Made) →
    Translates Made
choice true w c this other = connective And w c this
choice false w c this other = chosen_arm w c this other

-- A value is assigned to a place. Where it begins with a read of that place, as in `v := v + 1`,
-- the place is found and checked once.
abbrev pub assigned : Storage → (value : Want → Translates Made) → Translates Ts
assigned place e = do
  m ← e (want_for place)
  assign place m

abbrev pub updated : Storage → (value : (read : Tx) → Want → Translates Made) → Translates Ts
updated place e = do
  held ← hold_place place
  m ← e (read_held held) (want_for (place_held held))
  assign (place_held held) m

abbrev pub assignment :
    (reads_first : Bool) → Storage → (value : Want → Translates Made) →
    (value_behind : (read : Tx) → Want → Translates Made) → Translates Ts
assignment true place e behind = updated place behind
assignment false place e behind = assigned place e

pub record Begun : Type 0 where
  pub before : Stms
  pub last : Made

-- a variable is declared, and becomes a value that doesn't see it
abbrev pub declaration_of : (escapes : ℕ → Bool) → (level at : ℕ) → (Want → Translates Made) →
    Translates Ts
declaration_of escapes level at e = do
  home ← declare_variable (escapes at) level at
  m ← e (want_for (own_place home))
  assign (own_place home) m

module _ (findings : Findings) where
  abbrev mutual
    pub expression : Exp → Want → Within → Translates Made
    expression (Nil _) w within = give (value (Const 0))
    expression (Int _ n) w within = give (value (Const n))
    expression (Break _) w within = give (done (tree.Break within.leave))
    expression (Text _ bytes) w within = literal bytes
    expression (Read _ v) w within = do
      place ← locate v within
      give (value (read place))
    expression (Call _ f args) w within = do
      xs ← values args no_txs within
      x ← call within (findings.meaning (at_of f)) xs
      give (value x)
    expression (Neg _ a) w within = do
      x ← value_from (expression a want.Value within)
      give (value (negation x))
    expression (Binary _ op at a b) w within = do
      left ← expression a (left_want op) within
      with_left op (findings.meaning at) (assigns_nothing b) w left (λ v. expression b v within)
    expression (Make _ _ inits) w within = do
      all ← fields inits (inits_assign_nothing inits) none_held within
      make_record all
    expression (Fill _ _ size item) w within = do
      x ← value_from (expression size want.Value within)
      y ← value_from (expression item want.Value within)
      give (value (make_array x y))
    expression (Assign _ v e) w within = do
      place ← locate v within
      s ← assignment (begins_with findings.meaning e v) place (λ v. expression e v within)
          (λ x v. behind_read e x v within)
      give (done s)
    expression (If _ c a b) w within = do
      c ← condition_from (expression c want.Test within)
      choice (is_conjunction w b) w c (λ v. expression a v within) (λ v. expression b v within)
    expression (When _ c a) w within = do
      c ← condition_from (expression c want.Test within)
      s ← statement_from (expression a want.Dropped within)
      give (done (tree.If c s nothing))
    expression (While _ c a) w within = do
      c ← condition_from (expression c want.Test (in_test within))
      s ← statement_from (expression a want.Dropped (in_body within))
      give (done (repeat_while c s))
    expression (For _ i low high a) w within = do
      x ← value_from (expression low want.Value within)
      y ← value_from (expression high want.Value within)
      home ← declare_variable (findings.escapes (at_of i)) within.level (at_of i)
      turn ← statement_from (expression a want.Dropped (in_body within))
      s ← count home x y turn
      give (done s)
    expression (Let _ ds es) w within = do
      before ← declarations ds no_stms within
      begun ← sequence es w before within
      behind w begun.before begun.last
    expression (Seq _ es) w within = do
      begun ← sequence es w no_stms within
      behind w begun.before begun.last

    -- an expression that begins with a read, whose value is known
    pub behind_read : Exp → (read : Tx) → Want → Within → Translates Made
    behind_read (Binary _ op at a b) x w within = do
      left ← behind_read a x (left_want op) within
      with_left op (findings.meaning at) (assigns_nothing b) w left (λ v. expression b v within)
    behind_read _ x w within = give (value x)

    pub locate : source.LValue → Within → Translates Storage
    locate (Simple x) within = variable_place within (findings.meaning (at_of x))
    locate (Field v f) within = do
      place ← locate v within
      field_place (field_number (findings.meaning (at_of f))) (read place)
    locate (Index v e) within = do
      place ← locate v within
      y ← value_from (expression e want.Value within)
      element_place (assigns_nothing e) (read place) y

    -- arguments, from the left, after those before them
    pub values : Exps → Txs → Within → Translates Txs
    values no_exps before within = give before
    values (exp e rest) before within = do
      x ← value_from (expression e want.Value within)
      values rest (join_txs before (tx x no_txs)) within

    -- fields of a creation, from the left, which are kept after those before them
    pub fields : Inits → (direct : Bool) → HeldAll → Within → Translates HeldAll
    fields no_inits direct before within = give before
    fields (init _ e rest) direct before within = do
      x ← value_from (expression e want.Value within)
      more ← hold_next direct before x
      fields rest direct more within

    -- all but the last are dropped; the last is what its place wants
    pub sequence : Exps → Want → Stms → Within → Translates Begun
    sequence no_exps w before within =
        give (record { before = before; last = value (Const 0) })
    sequence (exp e no_exps) w before within = do
      m ← expression e w within
      give (record { before = before; last = m })
    sequence (exp e (exp f rest)) w before within = do
      s ← statement_from (expression e want.Dropped within)
      sequence (exp f rest) w (followed before s) within

    pub declarations : Decs → Stms → Within → Translates Stms
    declarations no_decs before within = give before
    declarations (types _ rest) before within = declarations rest before within
    declarations (variable x _ e rest) before within = do
      s ← declaration_of findings.escapes within.level (at_of x) (λ v. expression e v within)
      declarations rest (followed before s) within
    declarations (functions fs rest) before within = do
      first ← next_label
      declare_functions within.level fs
      bodies fs first within
      declarations rest before within

    -- the functions of a group, whose labels go up from this one
    pub bodies : FunDecs → (label : ℕ) → Within → Translates (Unit {0})
    bodies no_functions label within = give tt
    bodies (function f params result e rest) label within = do
      body label findings.escapes findings.keeps_link (at_of f) (is_some result) params
          (λ w v. expression e w v) within
      bodies rest (label + 1) within

abbrev pub program_body : Findings → Exp → Translates Ts
program_body findings e = do
  m ← expression findings e want.Dropped outermost
  closing false m

abbrev pub translated : Findings → Exp → Code Ts
translated findings e =
    program (program_body findings e (beginning 33 (frame_for 32 [])))

-- what the translation of a program ends with: the homes of all its variables and parameters, and
-- the labels of all its functions
abbrev pub last_state : Findings → Exp → TranslationState
last_state findings e = state_after (program_body findings e (beginning 33 (frame_for 32 [])))
