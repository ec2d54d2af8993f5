-- The parts of a translation that the code makes in functions of their own.
use Rattle.std.specs.Prelude.{ℕ, is_some, Option}
use Rattle.tg_syntax.specs.declared.tokens.Ident.{Ident}
use Rattle.tg_syntax.specs.declared.trees.Op.{Op}
use Rattle.tg_syntax.specs.declared.trees.FunDec.{FunDec}
use Rattle.tg_syntax.specs.glue.Plain.{plain}
use Rattle.tg_syntax.specs.Tree.{Exp, LValue, Exps, Inits}
use Rattle.tg_tree.specs.Tree.{Tx, tx, Cond, Ts, If, Stms, Txs, no_txs}
use Rattle.tg_tree.specs.Forms.{nothing}
use Rattle.tg_tree.specs.glue.Lists.{join_txs}
use Rattle.tg_typecheck.specs.declared.notes.Means.{Means}
use Rattle.tg_translate.specs.declared.wants.Want.{Want}
use Rattle.tg_translate.specs.declared.wants.Want.TheVariants as want
use Rattle.tg_translate.specs.declared.homes.Within.{Within}
use Rattle.tg_translate.specs.mirror.States.{Translates, ◌>>=◌, give}
use Rattle.tg_translate.specs.mirror.Wants.{
  Made,
  value,
  done,
  value_of,
  value_from,
  arm_from,
  statement_from,
  deliver,
  followed,
  behind,
}
use Rattle.tg_translate.specs.mirror.Constructs.{
  Storage,
  read,
  none_held,
  element_place,
  make_record,
  make_array,
  operation,
  negation,
  repeat_while,
  in_body,
  count,
}
use Rattle.tg_translate.specs.mirror.Scopes.{
  Findings,
  compares_strings,
  call,
  declare_variable,
}
use Rattle.tg_translate.specs.mirror.Purity.{assigns_nothing, inits_assign_nothing}
use Rattle.tg_translate.specs.mirror.Functions.{at_of, body}
use Rattle.tg_translate.specs.mirror.Translate.{
  connective,
  with_left,
  assigned,
  updated,
  declaration_of,
  expression,
  behind_read,
  locate,
  values,
  fields,
  sequence,
}

abbrev pub done_of : Translates Ts → Translates Made
done_of m = do
  s ← m
  give (done s)

-- what is done with the value of what was made
abbrev pub on_value_of : {A : Type 0} → Made → (Tx → Translates A) → Translates A
on_value_of m next = value_of m >>= next

abbrev pub stand_behind : Stms → Translates Ts → Translates Stms
stand_behind before m = do
  s ← m
  give (followed before s)

abbrev pub after_values : Txs → Tx → Translates Txs
after_values before x = give (join_txs before (tx x no_txs))

abbrev pub negated : Tx → Translates Made
negated x = give (value (negation x))

abbrev pub filled_with : (size : Tx) → (item : Tx) → Translates Made
filled_with size item = give (value (make_array size item))

-- the first value of a loop's variable, and what its last one became
pub record Bounds : Type 0 where
  pub low : Tx
  pub high : Made

abbrev pub called_with : Within → Option Means → Txs → Translates Made
called_with within meaning xs = do
  x ← call within meaning xs
  give (value x)

module _ (findings : Findings) where
  abbrev pub value_in : Exp → Within → Translates Tx
  value_in e within = value_from (expression findings e want.Value within)

  abbrev pub statement_in : Exp → Within → Translates Ts
  statement_in e within = statement_from (expression findings e want.Dropped within)

  abbrev pub called : Ident → Exps → Within → Translates Made
  called f args within = do
    xs ← values findings args no_txs within
    x ← call within (findings.meaning (at_of f)) xs
    give (value x)

  abbrev pub read_in : LValue → Within → Translates Made
  read_in v within = do
    place ← locate findings v within
    give (value (read place))

  abbrev pub negation_in : Exp → Within → Translates Made
  negation_in a within = do
    x ← value_in a within
    negated x

  abbrev pub connective_in : Op → Cond → Exp → Want → Within → Translates Made
  connective_in op left b w within = connective op w left (λ v. expression findings b v within)

  abbrev pub with_left_in : Op → (at : ℕ) → Made → Exp → Want → Within → Translates Made
  with_left_in op at left b w within =
      with_left op (findings.meaning at) (assigns_nothing b) w left
      (λ v. expression findings b v within)

  abbrev pub operation_in : Op → (at : ℕ) → Made → Exp → Within → Translates Made
  operation_in op at left b within = do
    x ← value_of left
    y ← value_in b within
    operation op (compares_strings (findings.meaning at)) (assigns_nothing b) x y

  abbrev pub made_record : Inits → Within → Translates Made
  made_record inits within = do
    all ← fields findings inits (inits_assign_nothing inits) none_held within
    make_record all

  abbrev pub filled : (size : Made) → Exp → Within → Translates Made
  filled size item within = do
    x ← value_of size
    y ← value_in item within
    filled_with x y

  abbrev pub assigned_in : Storage → Exp → Within → Translates Ts
  assigned_in place e within = assigned place (λ v. expression findings e v within)

  abbrev pub updated_in : Storage → Exp → Within → Translates Ts
  updated_in place e within = updated place (λ x v. behind_read findings e x v within)

  abbrev pub arm_in : Exp → Want → Within → Translates Ts
  arm_in e arms within = arm_from arms (expression findings e arms within)

  -- a choice whose second arm is left
  abbrev pub chosen_with : Cond → Ts → (other : Exp) → (want arms : Want) → Within → Translates Made
  chosen_with c s other w v within = do
    t ← arm_in other v within
    give (deliver w v (If c s t))

  abbrev pub when_true : Cond → Exp → Within → Translates Made
  when_true c a within = do
    s ← statement_in a within
    give (done (If c s nothing))

  abbrev pub turned : Cond → Exp → Within → Translates Made
  turned c a within = do
    s ← statement_in a (in_body within)
    give (done (repeat_while c s))

  abbrev pub indexed : (array : Tx) → Exp → Within → Translates Storage
  indexed array e within = do
    y ← value_in e within
    element_place (assigns_nothing e) array y

  abbrev pub low_then : (low : Made) → Exp → Within → Translates Bounds
  low_then low e within = do
    x ← value_of low
    m ← expression findings e want.Value within
    give (record { low = x; high = m })

  abbrev pub counted : Ident → (low high : Tx) → Exp → Within → Translates Made
  counted i x y a within = do
    home ← declare_variable (findings.escapes (at_of i)) within.level (at_of i)
    turn ← statement_in a (in_body within)
    done_of (count home x y turn)

  abbrev pub counted_to : Ident → (low : Tx) → (high : Made) → Exp → Within → Translates Made
  counted_to i x high a within = do
    y ← value_of high
    counted i x y a within

  abbrev pub sequence_in : Exps → Want → Stms → Within → Translates Made
  sequence_in es w before within = do
    begun ← sequence findings es w before within
    behind w begun.before begun.last

  abbrev pub variable_in : Ident → Exp → Within → Translates Ts
  variable_in x e within =
      declaration_of findings.escapes within.level (at_of x)
      (λ v. expression findings e v within)

  abbrev pub body_in : FunDec → (label : ℕ) → Within → Translates (Unit {0})
  body_in f label within =
      body label findings.escapes findings.keeps_link (at_of f.name) (is_some f.result) f.params
      (λ w v. expression findings (plain f.body) w v) within
