-- Instructions that are counted otherwise: where each counts at most so many, the same run does at most so many times the
-- work.
use Rattle.std.proofs.Common.{◌≤◌, ◌<◌, ℕ, ◌*◌, List, [], ◌∷◌, length, Option, Some, None, subst, arith, ◌≡◌, ◌+◌}
use Rattle.std.specs.Prelude.{pos}
use Rattle.std.proofs.Math.Nat.{mul-add}
use Rattle.tg_machine_state.specs.declared.ends.RunEnd.TheVariants.{Exit}
use Rattle.tg_machine_state.specs.State.{stack_top}
use Rattle.tg_simulation.specs.Runs.{Run}
use Rattle.tg_simulation.specs.Ran.{Ran, Ended, Wrong}
use Rattle.tg_simulation.specs.Preserving.{Preserves}
use Rattle.tg_simulation.specs.laws.Simulating.{Simulates}
use Rattle.tg_simulation.proofs.Agreeing.{passes_compose}
use Rattle.tg_simulation.proofs.Fixpoint.{runs_relate}
use Rattle.tg_simulation.proofs.Simulations.{simulation_preserves, simulates_stopping, simulates_writing, simulates_turn}
use Rattle.tg_simulation.proofs.Simulations.{simulates_less, simulates_trading}
use Rattle.tg_tree.specs.Tree.{Function, Code}
use Rattle.tg_tree.specs.Memory.{begin}
use Rattle.tg_tree.specs.Flat.{flat_run}
use Rattle.tg_tree.specs.Actions.{World, Activation}
use Rattle.tg_tree.specs.Running.{function_of, with_fuel}
use Rattle.tg_tree.proofs.Relating.{Related, Keeps}
use Rattle.tg_tree.proofs.Going.{OneWorld, OneTemps, KeepsRuns, keeps_one}
use Rattle.tg_instr.specs.declared.instr.Instr.{Instr}
use Rattle.tg_instr.specs.declared.instr.Instr.TheVariants as instr
use Rattle.tg_instr.specs.Lengths.{most_words}
use Rattle.tg_instr.specs.Shapes.{shape}
use Rattle.tg_instr.specs.Contents.{Contents, no_contents, at_entry}
use Rattle.tg_instr.specs.Meaning.{Back}
use Rattle.tg_instr.specs.Running.{Units, everywhere, CodePoint, behind, run_code, code_step, code_going, code_run, enter_code, jump_to}
use Rattle.tg_instr.proofs.CodeRuns.{AlikeReturns, AlikeCode, alike_code, code_down, keep_act, keep_begin, code_steps}
use Rattle.tg_munch_proof.specs.glue.Places.{each_one}
use Rattle.tg_munch_proof.specs.laws.Chosen.{MunchIsCorrect, CountsAtMost, MunchKeepsCounts, MunchKeepsWords}
use Rattle.tg_munch_proof.specs.laws.Chosen.{CodeKeepsCounts, CodeKeepsWords}
use Rattle.tg_munch_proof.specs.laws.Chosen.{added_work, chosen_code}

module _ (most : ℕ) (some : 1 ≤ most) where
  abbrev Within : Related
  Within n w c d = Simulates most 0 n c d

  enough : (k m : ℕ) → 1 ≤ m → k ≤ m * k
  enough k m le = grind (arith, mul-add)

  within_keeps : KeepsRuns Within
  within_keeps = record {
    stop = λ n s w. simulates_stopping most 0 n w.input s;
    write = λ n bytes w c d h. simulates_writing most 0 n bytes c d h;
    work = λ n k w c d h. let le = enough k most some in simulates_trading most 0 0 n k k c d (omega (arith, le)) h;
    fuel = λ n w c d h. simulates_turn most 0 n w.input c d h;
    down = λ m n w c d le h. simulates_less most 0 m n c d le h;
    later = λ n w v c d l h. h;
  }

  abbrev keeps : Keeps Within OneWorld OneTemps
  keeps = keeps_one Within within_keeps

  module _ (count : Units) (fits : CountsAtMost most count) (code : Code (List Instr)) (size : ℕ → ℕ) (floor room : ℕ) where
    module _ (n : ℕ) (c d : CodePoint → Run Ran)
        (later : (m : ℕ) → m < n → (x y : CodePoint) → AlikeCode Within keeps m x y → Within m x.world (c x) (d y)) where
      -- after a unit of fuel
      fuelled : (x y : CodePoint) → AlikeCode Within keeps n x y →
          Within n x.world (with_fuel x.world (c x)) (with_fuel y.world (d y))
      fuelled x y (alike_code f rest a back back' w s h) =
          within_keeps.fuel n w _ _
          (λ m lt. later m lt _ _ (code_down Within keeps m n _ _ (omega (arith, lt)) (alike_code f rest a back back' w s h)))

      module _ (f : Function (List Instr)) (a : Activation) (back back' : Back) (h : AlikeReturns Within keeps n back back') where
        jumps : (o : Option (List Instr)) (w : World) (s : Contents) →
            Within n w (jump_to each_one code size floor room c f o a back w s) (jump_to count code size floor room d f o a back' w s)
        jumps None w s = simulates_stopping most 0 n w.input Wrong
        jumps (Some rest) w s = fuelled _ _ (alike_code f rest a back back' w s h)

        goes : (rest : List Instr) (w : World) (s : Contents) →
            Within n w (run_code each_one code size floor room c f rest a back w s)
            (run_code count code size floor room d f rest a back' w s)
        goes [] w s = simulates_stopping most 0 n w.input Wrong
        goes (it ∷ rest) w s =
            let le = fits f.label (length rest) it in
            simulates_trading most 0 0 n 1 (count f.label (length rest) it) _ _ (omega (arith, le))
            (keep_act Within keeps n room code.literals (enter_code each_one code size floor room c)
            (enter_code count code size floor room d)
            (λ label s1 top b b' w1 hb.
            keep_begin Within keeps each_one code size floor room n _ _ fuelled (function_of label code.functions) s1 top b b' w1 hb)
            a f.slots _ _ back back' (λ m w1 s1. jumps (behind m f.body) w1 s1) h _ _ (λ w1 s1. goes rest w1 s1) (shape it) w s)

      steps : (x y : CodePoint) → AlikeCode Within keeps n x y →
          Within n x.world (code_step each_one code size floor room c x) (code_step count code size floor room d y)
      steps x y (alike_code f rest a back back' w s h) = goes f a back back' h rest w s

    points : (n : ℕ) (x y : CodePoint) → AlikeCode Within keeps n x y →
        Within n x.world (code_going each_one code size floor room x) (code_going count code size floor room y)
    points n x y r =
        runs_relate (AlikeCode Within keeps) (λ m v z c d. Within m v.world c d) (code_step each_one code size floor room)
        (code_step count code size floor room) (λ k c d h v z q. steps k c d h v z q) (code_going each_one code size floor room)
        (code_going count code size floor room) (code_steps each_one code size floor room) (code_steps count code size floor room)
        n x y r

    counted : (body : ℕ) (input : List ℕ) →
        Preserves most 0 (code_run each_one code size floor room body input) (code_run count code size floor room body input)
    counted body input =
        simulation_preserves most 0 _ _
        (λ n. keep_begin Within keeps each_one code size floor room n (code_going each_one code size floor room)
        (code_going count code size floor room) (λ x y r. points n x y r) (function_of body code.functions) (at_entry no_contents)
        stack_top _ _ (record { memory = begin code.literals; input = input })
        (λ c w. simulates_stopping most 0 n w.input (Ended (Exit (pos 0)))))

pub code_counted : CodeKeepsCounts
code_counted most count some fits code size floor room body input = counted most some count fits code size floor room body input

pub counts_keep : MunchIsCorrect → MunchKeepsCounts
counts_keep keep most count some fits code size floor room body input may literals bytes has_room =
    subst (λ k. Preserves k (most * added_work) (flat_run code size floor room body input)
    (code_run count (chosen_code code) size floor room body input)) (one_time most)
    (subst (λ k. Preserves (most * 1) k (flat_run code size floor room body input)
    (code_run count (chosen_code code) size floor room body input)) (none_more (most * added_work))
    (passes_compose 1 added_work most 0 _ _ _ (keep code size floor room body input may literals bytes has_room)
    (counted most some count fits _ size floor room body input)))
  where
    one_time : (m : ℕ) → m * 1 ≡ m
    one_time m = omega arith

    none_more : (m : ℕ) → m + 0 ≡ m
    none_more m = omega arith

-- no instruction counts more words than a move
most_is : (one : Instr) → most_words one ≤ 13
most_is (instr.Move to from) = omega arith
most_is (instr.Mark m) = omega arith
most_is _ = omega arith

pub code_in_words : CodeKeepsWords
code_in_words = code_counted 13 (everywhere most_words) (omega arith) (λ label left one. most_is one)

pub words_keep : MunchKeepsCounts → MunchKeepsWords
words_keep keep code size floor room body input may literals bytes has_room =
    keep 13 (everywhere most_words) (omega arith) (λ label left one. most_is one) code size floor room body input may literals
    bytes has_room
