-- What an expression becomes: a value, a statement, or a condition (Appel, chapter 7: Ex, Nx, Cx),
-- and how each is made what its place wants.
use Rattle.std.specs.Prelude.{ℕ, Bool, true, false, if◌then◌else◌}
use Rattle.tg_tree.specs.declared.operators.Rel.TheVariants.{NotEqual}
use Rattle.tg_tree.specs.Tree.{
  Tx,
  Const,
  Temp,
  After,
  Cond,
  Compare,
  Ts,
  Move,
  Do,
  If,
  Seq,
  Stms,
  no_stms,
  stm,
}
use Rattle.tg_tree.specs.Forms.{nothing}
use Rattle.tg_tree.specs.glue.Lists.{join_stms}
use Rattle.tg_tree.specs.glue.Plain.{plain_tx, plain_cond, plain_ts}
use Rattle.tg_translate.specs.declared.wants.Want.{Want}
use Rattle.tg_translate.specs.declared.wants.Want.TheVariants.{Into, Dropped}
use Rattle.tg_translate.specs.declared.wants.Made.{Made as CodeMade}
use Rattle.tg_translate.specs.declared.wants.Made.TheVariants as code
use Rattle.tg_translate.specs.mirror.States.{Translates, ◌>>=◌, give, fresh}

-- a statement has no value, or it has put it where it was wanted
pub data Made : Type 0 where
  value : Tx → Made
  done : Ts → Made
  test : Cond → Made

abbrev pub plain_made : CodeMade → Made
plain_made (code.Value x) = value (plain_tx x)
plain_made (code.Done s) = done (plain_ts s)
plain_made (code.Test c) = test (plain_cond c)

-- 1 where a condition holds, and else 0
abbrev pub truth_into : (temp : ℕ) → Cond → Ts
truth_into t c = If c (Move t (Const 1)) (Move t (Const 0))

abbrev pub value_of : Made → Translates Tx
value_of (value x) = give x
value_of (done s) = give (After s (Const 0))
value_of (test c) = do
  t ← fresh
  give (After (truth_into t c) (Temp t))

abbrev pub put_in : (temp : ℕ) → Made → Ts
put_in t (value x) = Move t x
put_in t (done s) = s
put_in t (test c) = truth_into t c

abbrev pub dropped : Made → Ts
dropped (value x) = Do x
dropped (done s) = s
dropped (test c) = If c nothing nothing

-- each int but 0 is true
abbrev pub is_true : Tx → Cond
is_true x = Compare NotEqual x (Const 0)

abbrev pub test_of : Made → Cond
test_of (value x) = is_true x
test_of (done s) = is_true (After s (Const 0))
test_of (test c) = c

-- What stands in one of several ways, as the arms of an `if`, goes into a temporary or is dropped.
abbrev pub arms : Want → Translates Want
arms (Into t) = give (Into t)
arms Dropped = give Dropped
arms _ = do
  t ← fresh
  give (Into (record { 0 = t }))

abbrev pub as_statement : Want → Made → Ts
as_statement (Into t) m = put_in t.0 m
as_statement _ m = dropped m

-- the statement of the arms, where their value is wanted
abbrev pub taken_from : (arms : Want) → Ts → Made
taken_from (Into t) s = value (After s (Temp t.0))
taken_from _ s = done s

abbrev pub deliver : (want arms : Want) → Ts → Made
deliver (Into _) arms s = done s
deliver Dropped arms s = done s
deliver _ arms s = taken_from arms s

abbrev pub is_none : Stms → Bool
is_none no_stms = true
is_none (stm s ss) = false

-- a statement after others
abbrev pub followed : Stms → Ts → Stms
followed ss s = join_stms ss (stm s no_stms)

abbrev pub value_behind : Stms → Tx → Made
value_behind ss x = value (After (Seq ss) x)

abbrev pub done_behind : Want → Stms → Made → Made
done_behind want ss m = done (Seq (followed ss (as_statement want m)))

-- what was made, after statements
abbrev pub behind_some : Want → Stms → Made → Translates Made
behind_some (Into t) ss m = give (done_behind (Into t) ss m)
behind_some Dropped ss m = give (done_behind Dropped ss m)
behind_some _ ss m = do
  x ← value_of m
  give (value_behind ss x)

abbrev pub behind : Want → Stms → Made → Translates Made
behind want ss m = if is_none ss then give m else behind_some want ss m

-- what an expression's place makes of it

abbrev pub value_from : Translates Made → Translates Tx
value_from m = m >>= value_of

abbrev pub condition_from : Translates Made → Translates Cond
condition_from m = m >>= λ c. give (test_of c)

abbrev pub arm_from : (arms : Want) → Translates Made → Translates Ts
arm_from arms m = m >>= λ s. give (as_statement arms s)

abbrev pub statement_from : Translates Made → Translates Ts
statement_from m = m >>= λ s. give (dropped s)
