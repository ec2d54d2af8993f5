-- How a function gives a value back. Where nothing is repeated in what makes the value, a choice
-- of two values gives each back from its own arm, and no temporary holds it on the way.
use Rattle.std.specs.Prelude.{ℕ, ◌==◌, ◌||◌, Bool, true, false, if◌then◌else◌}
use Rattle.tg_tree.specs.Tree.{
  Tx,
  Const,
  Address,
  Temp,
  FrameAddress,
  Binary,
  Load,
  LoadByte,
  Call,
  Service,
  After,
  Txs,
  no_txs,
  tx,
  Cond,
  Compare,
  Not,
  Both,
  Either,
  Ts,
  Move,
  Store,
  StoreByte,
  Do,
  If,
  Loop,
  Break,
  Fault,
  Seq,
  Return,
  Stms,
  no_stms,
  stm,
}
use Rattle.tg_tree.specs.Forms.{when}

-- whether a loop stands anywhere in a tree
abbrev mutual
  pub has_loop : Ts → Bool
  has_loop (Move _ x) = value_has_loop x
  has_loop (Store x y) = value_has_loop x || value_has_loop y
  has_loop (StoreByte x y) = value_has_loop x || value_has_loop y
  has_loop (Do x) = value_has_loop x
  has_loop (If c s t) = test_has_loop c || (has_loop s || has_loop t)
  has_loop (Loop _) = true
  has_loop (Break _) = false
  has_loop (Fault _) = false
  has_loop (Seq ss) = any_has_loop ss
  has_loop (Return x) = value_has_loop x

  pub any_has_loop : Stms → Bool
  any_has_loop no_stms = false
  any_has_loop (stm s ss) = has_loop s || any_has_loop ss

  pub value_has_loop : Tx → Bool
  value_has_loop (Const _) = false
  value_has_loop (Address _) = false
  value_has_loop (Temp _) = false
  value_has_loop FrameAddress = false
  value_has_loop (Binary _ x y) = value_has_loop x || value_has_loop y
  value_has_loop (Load x) = value_has_loop x
  value_has_loop (LoadByte x) = value_has_loop x
  value_has_loop (Call _ xs) = any_value_has_loop xs
  value_has_loop (Service _ x) = value_has_loop x
  value_has_loop (After s x) = has_loop s || value_has_loop x

  pub any_value_has_loop : Txs → Bool
  any_value_has_loop no_txs = false
  any_value_has_loop (tx x xs) = value_has_loop x || any_value_has_loop xs

  pub test_has_loop : Cond → Bool
  test_has_loop (Compare _ x y) = value_has_loop x || value_has_loop y
  test_has_loop (Not c) = test_has_loop c
  test_has_loop (Both c d) = test_has_loop c || test_has_loop d
  test_has_loop (Either c d) = test_has_loop c || test_has_loop d

-- one statement after another
abbrev pub in_turn : (first second : Ts) → Ts
in_turn s t = Seq (stm s (stm t no_stms))

-- an arm that returns, and what is done otherwise
abbrev pub returning : Cond → (this other : Ts) → Ts
returning c s t = in_turn (when c s) t

-- of a value after a statement: what gives back a temporary that it is, and else the value itself
abbrev pub returned_behind : (first : Ts) → Tx → (from : ℕ → Ts) → (last : Ts) → Ts
returned_behind s (Temp i) from last = from i
returned_behind s _ from last = in_turn s last

-- of statements from one on: what gives back at its end, and else at the end of the rest
abbrev pub returned_last : (first : Ts) → Stms → (last : Ts) → (rest : Stms) → Stms
returned_last s no_stms last rest = stm last no_stms
returned_last s (stm _ _) last rest = stm s rest

abbrev mutual
  -- a value is given back
  pub returned : Tx → Ts
  returned (After s x) = returned_behind s x (λ i. returned_from i s) (returned x)
  returned x = Return x

  -- what a temporary holds after a statement: a statement that puts a value there last gives that
  -- value back
  pub returned_from : (temp : ℕ) → Ts → Ts
  returned_from i (Move j x) =
      if i == j then returned x else in_turn (Move j x) (Return (Temp i))
  returned_from i (If c s t) = returning c (returned_from i s) (returned_from i t)
  returned_from i (Seq ss) = Seq (all_returned_from i ss)
  returned_from i s = in_turn s (Return (Temp i))

  pub all_returned_from : (temp : ℕ) → Stms → Stms
  all_returned_from i no_stms = stm (Return (Temp i)) no_stms
  all_returned_from i (stm s ss) =
      returned_last s ss (returned_from i s) (all_returned_from i ss)

-- Loops use the registers that a return gives back, so after one a function returns at its end
-- alone.
abbrev pub given_back : Tx → Ts
given_back x = if value_has_loop x then Return x else returned x
