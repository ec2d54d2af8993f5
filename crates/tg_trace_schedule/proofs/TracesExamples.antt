-- Runs of blocks and of the code in which they are laid, computed: where a loop is entered at its head alone, and where it isn't.
use Rattle.std.proofs.Common.{◌≡◌, ℕ, ◌-◌, List, [], ◌∷◌, refl}
use Rattle.std.specs.Prelude.{pos}
use Rattle.tg_machine_state.specs.declared.ends.RunEnd.TheVariants.{Exit}
use Rattle.tg_machine_state.specs.State.{stack_top}
use Rattle.tg_simulation.specs.Ran.{Ran, Stop, Ended, WantsFuel}
use Rattle.tg_tree.specs.declared.operators.Bin.TheVariants.{Add}
use Rattle.tg_tree.specs.declared.operators.Rel.TheVariants.{Less}
use Rattle.tg_tree.specs.Forms.{stms}
use Rattle.tg_tree.specs.Tree.{Tx, Const, Temp, Binary, Service, Ts, Move, Do, Code}
use Rattle.tg_tree.specs.Flat.{flat_run}
use Rattle.tg_trace_schedule.specs.Block.{BlockEnd, Jump, Branch, Return, Block}
use Rattle.tg_trace_schedule.specs.Meaning.{block_run}
use Rattle.tg_trace_schedule.specs.laws.Traced.{laid_all}

abbrev block : BlockEnd → List Ts → Block
block e ss = record { body = stms ss; end = e }

abbrev write : Tx → Ts
write x = Do (Service 11 x)

abbrev seen : Ran → List ℕ × Stop
seen p = (p.output, p.stop)

abbrev code_of : List Block → Code (List Block)
code_of bs = record { functions = record { label = 32; params = []; slots = 0; temps = 1; out = 0; body = bs } ∷ []; literals = [] }

abbrev before : List Block → (fuel : ℕ) → List ℕ × Stop
before bs fuel = seen (block_run (code_of bs) (λ label. 8) (stack_top - 256) 8 32 [] fuel)

abbrev behind : List Block → (fuel : ℕ) → List ℕ × Stop
behind bs fuel = seen (flat_run (laid_all (code_of bs)) (λ label. 8) (stack_top - 256) 8 32 [] fuel)

-- a loop that counts, whose test is at its head: the branch out of it is the one jump more
abbrev counts : List Block
counts =
    block (Jump 1) (Move 0 (Const 0) ∷ []) ∷
    block (Branch Less (Temp 0) (Const 2) 2 3) [] ∷
    block (Jump 1) (write (Temp 0) ∷ Move 0 (Binary Add (Temp 0) (Const 1)) ∷ []) ∷
    block (Return (Const 0)) [] ∷ []

counted : before counts 2 ≡ (0 ∷ 1 ∷ [], Ended (Exit (pos 0)))
counted = refl

wants_one_more : behind counts 2 ≡ (0 ∷ 1 ∷ [], WantsFuel)
wants_one_more = refl

has_one_more : behind counts 3 ≡ (0 ∷ 1 ∷ [], Ended (Exit (pos 0)))
has_one_more = refl

-- A way back to a block that is come to by no other way becomes a way on, which takes no fuel: with none the code doesn't stop where the
-- blocks do. No loop is entered so where statements are cut.
abbrev beside_its_head : List Block
beside_its_head = block (Jump 2) [] ∷ block (Return (Const 0)) (write (Const 1) ∷ []) ∷ block (Jump 1) (write (Const 2) ∷ []) ∷ []

stops_before : before beside_its_head 0 ≡ (2 ∷ [], WantsFuel)
stops_before = refl

goes_on_behind : behind beside_its_head 0 ≡ (2 ∷ 1 ∷ [], Ended (Exit (pos 0)))
goes_on_behind = refl
