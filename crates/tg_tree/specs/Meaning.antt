-- The meaning of expressions, conditions and statements (Appel, chapter 7).
use Rattle.std.specs.Prelude.{ℕ, ◌-◌, List, [], ◌∷◌, Bool, true, false, not, if◌then◌else◌}
use Rattle.tg_machine_state.specs.declared.ends.RunEnd.TheVariants.{Break}
use Rattle.tg_simulation.specs.Runs.{Run}
use Rattle.tg_simulation.specs.Ran.{Ran, Ended}
use Rattle.tg_tree.specs.Tree as tree
use Rattle.tg_tree.specs.Tree.{Tx, Txs, Cond, Ts, Stms, Literal}
use Rattle.tg_tree.specs.Operators.{operate, holds}
use Rattle.tg_tree.specs.Memory.{load, load_byte, store, store_byte, literal_address}
use Rattle.tg_tree.specs.Units.{Stage, expression_units, argument_units, condition_units}
use Rattle.tg_tree.specs.Units.{statement_units}
use Rattle.tg_tree.specs.Actions.{World, Temps, Go, Next, Back, Around, Acts, ◌>>=◌, ◌>>◌, give}
use Rattle.tg_tree.specs.Actions.{skip, pay, stop, known, read_temp, write_temp, read_memory}
use Rattle.tg_tree.specs.Actions.{write_memory, given, frame_address, leave, leaving, go_back, ask}

-- a statement that is to be run, with all that comes next
pub record Point : Type 0 where
  pub statement : Ts
  pub around : Around
  pub next : Next
  pub world : World
  pub temps : Temps

-- what a call does, of its label, its arguments, the caller's low end, and what comes after its
-- return
abbrev pub Enter : Type 0
Enter = ℕ → List ℕ → ℕ → Back → World → Run Ran

-- For the stage whose units are charged, a heap's room, literals, what a call does, and what comes
-- of going on with a loop from its head.
module _
    (stage : Stage) (room : ℕ) (literals : List Literal)
    (enter : Enter) (later : Point → Run Ran) where
  abbrev pub enter_function : (label : ℕ) → List ℕ → Acts (Go ℕ)
  enter_function label vs e go w t =
      enter label vs (e.activation.base - e.activation.size) (λ v w1. go v w1 t) w

  -- a turn of a loop, after which it goes on from its head
  abbrev pub repeat : (loop : Ts) → (turn : Acts Next) → Acts Next
  repeat loop turn e next w t =
      turn (record e { out = leaving next e.out })
      (λ w1 t1.
      later (record { statement = loop; around = e; next = next; world = w1; temps = t1 })) w t

  abbrev mutual
    pub value : Tx → Acts (Go ℕ)
    value (tree.Const n) = do
      pay (expression_units stage (tree.Const n))
      give n
    value (tree.Address label) = do
      pay (expression_units stage (tree.Address label))
      known (literal_address literals label)
    value (tree.Temp i) = do
      pay (expression_units stage (tree.Temp i))
      read_temp i
    value tree.FrameAddress = do
      pay (expression_units stage tree.FrameAddress)
      frame_address
    value (tree.Binary op x y) = do
      pay (expression_units stage (tree.Binary op x y))
      u ← value x
      v ← value y
      given (operate op u v)
    value (tree.Load x) = do
      pay (expression_units stage (tree.Load x))
      u ← value x
      read_memory (λ m. load m u)
    value (tree.LoadByte x) = do
      pay (expression_units stage (tree.LoadByte x))
      u ← value x
      read_memory (λ m. load_byte m u)
    value (tree.Call label xs) = do
      pay (expression_units stage (tree.Call label xs))
      vs ← values xs
      enter_function label vs
    value (tree.Service n x) = do
      pay (expression_units stage (tree.Service n x))
      u ← value x
      ask room n u
    value (tree.After s x) = do
      pay (expression_units stage (tree.After s x))
      run s
      value x

    pub values : Txs → Acts (Go (List ℕ))
    values tree.no_txs = give []
    values (tree.tx x xs) = do
      pay (argument_units stage xs)
      v ← value x
      vs ← values xs
      give (v ∷ vs)

    -- the right side of a condition is looked at only where it matters
    pub test : Cond → Acts (Go Bool)
    test (tree.Compare rel x y) = do
      pay (condition_units stage (tree.Compare rel x y))
      u ← value x
      v ← value y
      give (holds rel u v)
    test (tree.Not c) = do
      pay (condition_units stage (tree.Not c))
      b ← test c
      give (not b)
    test (tree.Both c d) = do
      pay (condition_units stage (tree.Both c d))
      b ← test c
      if b then test d else give false
    test (tree.Either c d) = do
      pay (condition_units stage (tree.Either c d))
      b ← test c
      if b then give true else test d

    pub run : Ts → Acts Next
    run (tree.Move i x) = do
      pay (statement_units stage (tree.Move i x))
      v ← value x
      write_temp i v
    run (tree.Store x y) = do
      pay (statement_units stage (tree.Store x y))
      u ← value x
      v ← value y
      write_memory (λ m. store m u v)
    run (tree.StoreByte x y) = do
      pay (statement_units stage (tree.StoreByte x y))
      u ← value x
      v ← value y
      write_memory (λ m. store_byte m u v)
    run (tree.Do x) = do
      pay (statement_units stage (tree.Do x))
      v ← value x
      skip
    run (tree.If c s t) = do
      pay (statement_units stage (tree.If c s t))
      b ← test c
      if b then run s else run t
    run (tree.Loop s) = do
      pay (statement_units stage (tree.Loop s))
      repeat (tree.Loop s) (run s)
    run (tree.Break k) = do
      pay (statement_units stage (tree.Break k))
      leave k
    run (tree.Fault n) = do
      pay (statement_units stage (tree.Fault n))
      stop (Ended (Break n))
    run (tree.Seq ss) = do
      pay (statement_units stage (tree.Seq ss))
      run_all ss
    run (tree.Return x) = do
      pay (statement_units stage (tree.Return x))
      v ← value x
      go_back v

    pub run_all : Stms → Acts Next
    run_all tree.no_stms = skip
    run_all (tree.stm s ss) = do
      run s
      run_all ss
