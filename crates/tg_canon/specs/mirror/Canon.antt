-- Canonical trees (Appel, chapter 8). What a statement's expressions can't hold in canonical form,
-- statements, calls and services, is hoisted in front of it. An expression on the left of what is
-- hoisted is held in a fresh temporary, unless it gives the same word after it. All is looked at
-- from the right, so that what comes between is known when an expression is.
use Rattle.std.specs.Prelude.{ℕ, zero, suc, ◌+◌, min, max}
use Rattle.std.specs.Prelude.{Bool, true, false, not, ◌&&◌, ◌||◌, nat_le, if◌then◌else◌}
use Rattle.tg_tree.specs.declared.operators.Bin.{Bin}
use Rattle.tg_tree.specs.declared.operators.Bin.TheVariants.{Add, Sub, AddTrap, SubTrap}
use Rattle.tg_tree.specs.Tree.{Tx, Const, Address, Temp, FrameAddress, Binary, Load, LoadByte, Call}
use Rattle.tg_tree.specs.Tree.{Service, After, Txs, no_txs, tx, Cond, Compare, Not, Both, Either}
use Rattle.tg_tree.specs.Tree.{Ts, Move, Store, StoreByte, Do, If, Loop, Break, Fault, Seq, Return}
use Rattle.tg_tree.specs.Tree.{Stms, no_stms, stm}
use Rattle.tg_tree.specs.Shapes.{is_flat_condition}
use Rattle.tg_canon.specs.mirror.Drawing.{Draws, give, fresh, ◌>>=◌}

-- A statement, and the range of the body's own temporaries that it assigns, from the least to the
-- greatest. Those that are drawn don't count: nothing on the left of a part uses one that is drawn
-- for it.
pub record Part : Type 0 where
  pub statement : Ts
  pub least : ℕ
  pub greatest : ℕ

-- one that assigns none
abbrev pub still : Ts → Part
still s = record { statement = s; least = 4294967295; greatest = 0 }

abbrev pub assigning : (temp : ℕ) → Ts → Part
assigning i s = record { statement = s; least = i; greatest = i }

abbrev pub may_assign : Part → (temp : ℕ) → Bool
may_assign p i = nat_le p.least i && nat_le i p.greatest

abbrev pub nothing : Ts
nothing = Seq no_stms

abbrev pub is_nothing : Ts → Bool
is_nothing (Seq no_stms) = true
is_nothing _ = false

abbrev pub pair : Ts → Ts → Ts
pair s t = Seq (stm s (stm t no_stms))

abbrev pub first_then : Ts → Ts → Ts
first_then s t = if is_nothing s then t else if is_nothing t then s else pair s t

-- a statement that assigns what two parts do
abbrev pub as_part : Part → Part → Ts → Part
as_part p q s = record {
  statement = s;
  least = min p.least q.least;
  greatest = max p.greatest q.greatest;
}

infixl 20 ◌before◌
abbrev pub ◌before◌ : Part → Part → Part
p before q = as_part p q (first_then p.statement q.statement)

abbrev pub loop_of : Part → Part
loop_of p = record { statement = Loop p.statement; least = p.least; greatest = p.greatest }

-- a loop that is left at its end: a break leads to what comes after it
abbrev pub block : Part → Part
block p = record {
  statement = Loop (pair p.statement (Break 0));
  least = p.least;
  greatest = p.greatest;
}

-- statements in turn
pub record Parts : Type 0 where
  pub list : Stms
  pub least : ℕ
  pub greatest : ℕ

abbrev pub no_parts : Parts
no_parts = record { list = no_stms; least = 4294967295; greatest = 0 }

abbrev pub in_front : Part → Parts → Parts
in_front p all = record {
  list = if is_nothing p.statement then all.list else stm p.statement all.list;
  least = min all.least p.least;
  greatest = max all.greatest p.greatest;
}

abbrev pub in_turn : Parts → Part
in_turn all = record { statement = Seq all.list; least = all.least; greatest = all.greatest }

-- Expressions.

-- what is left of an expression, a flat one or a call or service of flat ones, after what is
-- hoisted out of it
pub record Hoisted : Type 0 where
  pub front : Part
  pub rest : Tx

-- the same of two, and of a call's arguments
pub record Two : Type 0 where
  pub front : Part
  pub left : Tx
  pub right : Tx

pub record Arguments : Type 0 where
  pub front : Part
  pub rest : Txs

abbrev pub whole : Tx → Hoisted
whole x = record { front = still nothing; rest = x }

abbrev pub no_arguments : Arguments
no_arguments = record { front = still nothing; rest = no_txs }

abbrev pub behind : Part → Hoisted → Hoisted
behind p a = record { front = p before a.front; rest = a.rest }

abbrev pub hold : Tx → Draws Hoisted
hold x = do
  t ← fresh
  give (record { front = still (Move t x); rest = Temp t })

abbrev pub is_effect : Tx → Bool
is_effect (Call _ _) = true
is_effect (Service _ _) = true
is_effect _ = false

-- the word of a call or service is held
abbrev pub hold_effect : Bool → Hoisted → Draws Hoisted
hold_effect true a = do
  h ← hold a.rest
  give (behind a.front h)
hold_effect false a = give a

abbrev pub word : Draws Hoisted → Draws Hoisted
word m = do
  a ← m
  hold_effect (is_effect a.rest) a

-- whether an expression gives the same word after a part: it reads no memory, and no temporary
-- that the part assigns
abbrev pub commutes : Part → Tx → Bool
commutes p (Const _) = true
commutes p (Address _) = true
commutes p (Temp i) = not (may_assign p i)
commutes p FrameAddress = true
commutes p _ = false

abbrev pub hold_unless : Bool → Tx → Draws Hoisted
hold_unless true x = give (whole x)
hold_unless false x = hold x

-- a constant offset is no instruction of its own in a load or store: what it is added to is held
abbrev pub is_constant : Tx → Bool
is_constant (Const _) = true
is_constant _ = false

abbrev pub is_sum : Bin → Bool
is_sum Add = true
is_sum Sub = true
is_sum _ = false

abbrev pub hold_but_offset : Bool → Part → Bin → (left right : Tx) → Draws Hoisted
hold_but_offset true p op x y = do
  a ← hold_unless (commutes p x) x
  give (record { front = a.front; rest = Binary op a.rest y })
hold_but_offset false p op x y = hold (Binary op x y)

abbrev pub hold_for : Part → Tx → Draws Hoisted
hold_for p (Binary op x y) = hold_but_offset (is_sum op && is_constant y) p op x y
hold_for p x = hold_unless (commutes p x) x

-- an expression in front of a part
abbrev pub hold_before : Bool → Part → Hoisted → Draws Hoisted
hold_before true p a = give a
hold_before false p a = do
  h ← hold_for p a.rest
  give (behind a.front h)

abbrev pub in_front_of : Part → Hoisted → Draws Hoisted
in_front_of p a = hold_before (is_nothing p.statement) p a

abbrev pub side_by_side : (left right : Hoisted) → Draws Two
side_by_side a b = do
  h ← in_front_of b.front a
  give (record { front = h.front before b.front; left = h.rest; right = b.rest })

-- two words, of which the right one is drawn first
abbrev pub two_words : (left right : Draws Hoisted) → Draws Two
two_words m n = do
  b ← word n
  a ← word m
  side_by_side a b

abbrev pub argument : Hoisted → Arguments → Draws Arguments
argument a all = do
  h ← in_front_of all.front a
  give (record { front = h.front before all.front; rest = tx h.rest all.rest })

abbrev pub over : (Tx → Tx) → Hoisted → Hoisted
over f a = record { front = a.front; rest = f a.rest }

abbrev pub over_two : (Tx → Tx → Tx) → Two → Hoisted
over_two f a = record { front = a.front; rest = f a.left a.right }

abbrev pub over_all : (Txs → Tx) → Arguments → Hoisted
over_all f a = record { front = a.front; rest = f a.rest }

-- Statements of hoisted expressions.

abbrev pub with_one : (Tx → Part) → Hoisted → Part
with_one f a = a.front before f a.rest

abbrev pub with_two : (Tx → Tx → Ts) → Two → Part
with_two f a = a.front before still (f a.left a.right)

abbrev pub is_trapping : Bin → Bool
is_trapping AddTrap = true
is_trapping SubTrap = true
is_trapping _ = false

-- whether an expression does anything but give a word
abbrev pub acts : Tx → Bool
acts (Binary op x y) = is_trapping op || (acts x || acts y)
acts (Load x) = acts x
acts (LoadByte x) = acts x
acts (Call _ _) = true
acts (Service _ _) = true
acts _ = false

abbrev pub dropped : Tx → Part
dropped x = still (if acts x then Do x else nothing)

-- Conditions.

-- whether nothing has to be hoisted out of a condition but what can be in front of all of it
abbrev pub is_whole : Cond → Bool
is_whole (Compare _ _ _) = true
is_whole (Not c) = is_whole c
is_whole (Both c d) = is_whole c && is_flat_condition d
is_whole (Either c d) = is_whole c && is_flat_condition d

-- a flat condition after what is hoisted out of it
pub record Tested : Type 0 where
  pub front : Part
  pub condition : Cond

abbrev pub compared : (Tx → Tx → Cond) → Two → Tested
compared f a = record { front = a.front; condition = f a.left a.right }

abbrev pub opposite : Tested → Tested
opposite t = record { front = t.front; condition = Not t.condition }

abbrev pub joined : (Cond → Cond → Cond) → Tested → Tested → Tested
joined f t u = record { front = t.front before u.front; condition = f t.condition u.condition }

-- one of two statements by a condition
abbrev pub choice : Tested → (this other : Part) → Part
choice t p q = t.front before as_part p q (If t.condition p.statement q.statement)

-- leaves so many loops and one more where a condition comes out so, and goes on where it doesn't
abbrev pub exit_where : (when : Bool) → (loops : ℕ) → Tested → Part
exit_where true k t = choice t (still (Break k)) (still nothing)
exit_where false k t = choice t (still nothing) (still (Break k))

-- Where a condition is tested part by part: the first statement stands in two loops after the
-- test, which leaves the inner one where it fails, and the second in the outer one after that.
abbrev pub wide_choice : Part → (this other : Part) → Part
wide_choice test p q = block (loop_of (test before p before still (Break 1)) before q)

-- Where a break leads, by the number of loops that it leaves: inside so many more loops, and inside
-- one of the body's own.
abbrev pub deeper : (loops : ℕ) → (ℕ → ℕ) → ℕ → ℕ
deeper n out k = out k + n

abbrev pub inside : (ℕ → ℕ) → ℕ → ℕ
inside out zero = 0
inside out (suc k) = out k + 1

abbrev pub choose : Bool → (this other : Draws Part) → Draws Part
choose true m n = m
choose false m n = n

-- The pass. A break of the body that leaves k loops and one more is one out of `out k` and one more
-- here.
abbrev mutual
  pub hoist : (out : ℕ → ℕ) → Tx → Draws Hoisted
  hoist out (Const n) = give (whole (Const n))
  hoist out (Address label) = give (whole (Address label))
  hoist out (Temp i) = give (whole (Temp i))
  hoist out FrameAddress = give (whole FrameAddress)
  hoist out (Binary op x y) = do
    ab ← two_words (hoist out x) (hoist out y)
    give (over_two (Binary op) ab)
  hoist out (Load x) = do
    a ← word (hoist out x)
    give (over Load a)
  hoist out (LoadByte x) = do
    a ← word (hoist out x)
    give (over LoadByte a)
  hoist out (Call f xs) = do
    all ← hoist_all out xs
    give (over_all (Call f) all)
  hoist out (Service n x) = do
    a ← word (hoist out x)
    give (over (Service n) a)
  hoist out (After s x) = do
    a ← hoist out x
    p ← linear out s
    give (behind p a)

  pub hoist_all : (out : ℕ → ℕ) → Txs → Draws Arguments
  hoist_all out no_txs = give no_arguments
  hoist_all out (tx x xs) = do
    all ← hoist_all out xs
    a ← word (hoist out x)
    argument a all

  -- a whole condition
  pub condition : (out : ℕ → ℕ) → Cond → Draws Tested
  condition out (Compare rel x y) = do
    ab ← two_words (hoist out x) (hoist out y)
    give (compared (Compare rel) ab)
  condition out (Not c) = do
    t ← condition out c
    give (opposite t)
  condition out (Both c d) = do
    u ← condition out d
    t ← condition out c
    give (joined Both t u)
  condition out (Either c d) = do
    u ← condition out d
    t ← condition out c
    give (joined Either t u)

  -- any condition, part by part
  pub leave : (out : ℕ → ℕ) → (when : Bool) → (loops : ℕ) → Cond → Draws Part
  leave out w k (Compare rel x y) = do
    ab ← two_words (hoist out x) (hoist out y)
    give (exit_where w k (compared (Compare rel) ab))
  leave out w k (Not c) = leave out (not w) k c
  leave out false k (Both c d) = do
    q ← leave out false k d
    p ← leave out false k c
    give (p before q)
  leave out true k (Both c d) = do
    q ← leave (deeper 1 out) true (k + 1) d
    p ← leave (deeper 1 out) false 0 c
    give (block (p before q))
  leave out true k (Either c d) = do
    q ← leave out true k d
    p ← leave out true k c
    give (p before q)
  leave out false k (Either c d) = do
    q ← leave (deeper 1 out) false (k + 1) d
    p ← leave (deeper 1 out) true 0 c
    give (block (p before q))

  pub linear : (out : ℕ → ℕ) → Ts → Draws Part
  linear out (Move i x) = do
    a ← hoist out x
    give (with_one (λ v. assigning i (Move i v)) a)
  linear out (Store x y) = do
    ab ← two_words (hoist out x) (hoist out y)
    give (with_two Store ab)
  linear out (StoreByte x y) = do
    ab ← two_words (hoist out x) (hoist out y)
    give (with_two StoreByte ab)
  linear out (Do x) = do
    a ← hoist out x
    give (with_one dropped a)
  linear out (If c s t) = choose (is_whole c)
      (do
        q ← linear out t
        p ← linear out s
        tested ← condition out c
        give (choice tested p q))
      (do
        q ← linear (deeper 1 out) t
        p ← linear (deeper 2 out) s
        test ← leave (deeper 2 out) false 0 c
        give (wide_choice test p q))
  linear out (Loop s) = do
    p ← linear (inside out) s
    give (loop_of p)
  linear out (Break k) = give (still (Break (out k)))
  linear out (Fault n) = give (still (Fault n))
  linear out (Seq ss) = do
    all ← linear_all out ss
    give (in_turn all)
  linear out (Return x) = do
    a ← word (hoist out x)
    give (with_one (λ v. still (Return v)) a)

  pub linear_all : (out : ℕ → ℕ) → Stms → Draws Parts
  linear_all out no_stms = give no_parts
  linear_all out (stm s ss) = do
    all ← linear_all out ss
    p ← linear out s
    give (in_front p all)

-- two operands as words
abbrev pub operands : (out : ℕ → ℕ) → (left right : Tx) → Draws Two
operands out x y = two_words (hoist out x) (hoist out y)

-- the statements of a body in canonical form, drawing temporaries from a number on
abbrev pub statements_of : Ts → Stms
statements_of (Seq ss) = ss
statements_of s = stm s no_stms

abbrev pub linearized : Ts → Draws Stms
linearized body = do
  p ← linear (λ k. k) body
  give (statements_of p.statement)
