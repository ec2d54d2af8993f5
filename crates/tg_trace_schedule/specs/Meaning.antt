-- Runs of blocks. A call takes a unit of fuel, and so does an end that goes on at a place that
-- isn't above its own block's.
use Rattle.std.specs.Prelude.{ℕ, zero, suc, ◌+◌, ◌-◌, List, [], ◌∷◌, nat_lt, if◌then◌else◌}
use Rattle.tg_machine_state.specs.declared.ends.RunEnd.TheVariants.{Break}
use Rattle.tg_simulation.specs.Runs.{Run, again}
use Rattle.tg_simulation.specs.Ran.{Ran, Ended, WantsFuel, Wrong, stops}
use Rattle.tg_tree.specs.Tree as tree
use Rattle.tg_tree.specs.Tree.{Tx, Stms, Mark, Code}
use Rattle.tg_tree.specs.Operators.{holds}
use Rattle.tg_tree.specs.Units.{Canonical, element_units, entry_units}
use Rattle.tg_tree.specs.Actions.{World, Temps, Around, Go, Next, Acts, ◌>>=◌, ◌>>◌, pay, stop}
use Rattle.tg_tree.specs.Actions.{go_back, wrong}
use Rattle.tg_tree.specs.Meaning.{Enter, value, run_all}
use Rattle.tg_tree.specs.Running.{Runner, with_fuel, call_in, program}
use Rattle.tg_tree.specs.Flat.{Last}
use Rattle.tg_trace_schedule.specs.Block.{BlockEnd, Jump, Branch, Fault, Return, Block}

-- An end counts what the flat code that is made of it counts at most: a branch is followed by a
-- jump to its false side.
abbrev pub end_units : BlockEnd → ℕ
end_units (Jump p) = element_units (tree.Jump p)
end_units (Branch rel x y p q) =
    element_units (tree.Branch rel x y p) + element_units (tree.Jump q)
end_units (Fault n) = element_units (tree.Fault' n)
end_units (Return x) = element_units (tree.Return' x)

-- a place in a function's blocks
pub record BlockPoint : Type 0 where
  pub whole : List Block
  pub place : ℕ
  pub around : Around
  pub world : World
  pub temps : Temps

module _ (code : Code (List Block)) (size : ℕ → ℕ) (floor room : ℕ) where
  abbrev pub run_block_body : (BlockPoint → Run Ran) → Runner (List Block)
  run_block_body later all e w temps =
      later (record { whole = all; place = 0; around = e; world = w; temps = temps })

  abbrev pub enter_blocks : (BlockPoint → Run Ran) → Enter
  enter_blocks later = call_in entry_units size floor (run_block_body later) code.functions

  module _ (later : BlockPoint → Run Ran) where
    -- no loop stands in a block
    abbrev pub word_of : Tx → Acts (Go ℕ)
    word_of x = value Canonical room code.literals (enter_blocks later) (λ p. wrong p.world) x

    abbrev pub run_within : Stms → Acts Next
    run_within ss =
        run_all Canonical room code.literals (enter_blocks later) (λ p. wrong p.world) ss

    -- an end, by what it is to go on at a place
    abbrev pub finish : (at : ℕ → Acts Last) → BlockEnd → Acts Last
    finish at (Jump p) = do
      pay (end_units (Jump p))
      at p
    finish at (Branch rel x y p q) = do
      pay (end_units (Branch rel x y p q))
      u ← word_of x
      v ← word_of y
      if holds rel u v then at p else at q
    finish at (Fault n) = do
      pay (end_units (Fault n))
      stop (Ended (Break n))
    finish at (Return x) = do
      pay (end_units (Return x))
      v ← word_of x
      go_back v

    module _ (whole : List Block) where
      abbrev pub return_to : (place : ℕ) → Acts Last
      return_to p e last w temps =
          with_fuel w
          (later (record { whole = whole; place = p; around = e; world = w; temps = temps }))

      -- the blocks that stand from a place on, after so many of them that are passed by
      abbrev pub run_from : List Block → (place passed : ℕ) → Acts Last
      run_from [] p k = stop Wrong
      run_from (b ∷ bs) p (suc k) = run_from bs (p + 1) k
      run_from (b ∷ bs) p zero = do
        pay (element_units (Mark p))
        run_within b.body
        finish
            (λ q. if nat_lt p q then run_from bs (p + 1) (q - (p + 1)) else return_to q)
            b.end

  abbrev pub block_step : (BlockPoint → Run Ran) → BlockPoint → Run Ran
  block_step later p = run_from later p.whole p.whole 0 p.place p.around tt p.world p.temps

  abbrev pub block_going : BlockPoint → Run Ran
  block_going = again (stops [] WantsFuel) block_step

  abbrev pub block_run : (body : ℕ) → (input : List ℕ) → Run Ran
  block_run body input = program size floor (run_block_body block_going) code body input
