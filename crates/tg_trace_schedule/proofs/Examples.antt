-- Blocks and flat code, each computed by the definition itself.
use Rattle.std.proofs.Common.{◌≡◌, ℕ, List, [], ◌∷◌, refl}
use Rattle.tg_tree.specs.declared.operators.Rel.TheVariants.{Less, GreaterEqual, Equal, NotEqual}
use Rattle.tg_tree.specs.Forms.{stms, sequence, nothing, when}
use Rattle.tg_tree.specs.Tree as tree
use Rattle.tg_tree.specs.Tree.{Const, Temp, Cond, Compare, Not, Both, Either, Ts, Move, If, Loop, Break, Linear, Mark, Do'}
use Rattle.tg_trace_schedule.specs.Block.{BlockEnd, Jump, Branch, Fault, Return, Block}
use Rattle.tg_trace_schedule.specs.mirror.Cutting.{blocks_of}
use Rattle.tg_trace_schedule.specs.mirror.Laying.{traced}

abbrev set : Ts
set = Move 0 (Const 7)

abbrev less : Cond
less = Compare Less (Temp 0) (Const 3)

abbrev equal : Cond
equal = Compare Equal (Temp 0) (Const 4)

abbrev done : Ts
done = tree.Return (Const 0)

-- a block by its end
abbrev block : BlockEnd → List Ts → Block
block e ss = record { body = stms ss; end = e }

abbrev on_less : (yes' no' : ℕ) → BlockEnd
on_less = Branch Less (Temp 0) (Const 3)

abbrev on_equal : (yes' no' : ℕ) → BlockEnd
on_equal = Branch Equal (Temp 0) (Const 4)

-- a loop with its test at its head
abbrev a_loop : List Block
a_loop = blocks_of (stms (set ∷ Loop (If less set (Break 0)) ∷ done ∷ []))

loop_blocks : a_loop ≡ block (Jump 1) (set ∷ []) ∷ block (on_less 2 3) [] ∷ block (Jump 1) (set ∷ []) ∷ block (Return (Const 0)) [] ∷ []
loop_blocks = refl

loop_code : traced a_loop ≡ Mark 0 ∷ Do' set ∷ Mark 1 ∷ tree.Branch GreaterEqual (Temp 0) (Const 3) 3 ∷ Mark 2 ∷ Do' set ∷
    tree.Jump 1 ∷ Mark 3 ∷ tree.Return' (Const 0) ∷ []
loop_code = refl

-- a choice in a loop, whose empty side goes back to the head
choice_in_loop : blocks_of (stms (Loop (If less (when equal set) (Break 0)) ∷ done ∷ [])) ≡ block (on_less 1 3) [] ∷
    block (on_equal 2 0) [] ∷ block (Jump 0) (set ∷ []) ∷ block (Return (Const 0)) [] ∷ []
choice_in_loop = refl

-- a break out of two loops: the outer one's head only jumps
abbrev two_loops : List Block
two_loops = blocks_of (stms (set ∷ Loop (Loop (sequence (when less (Break 1) ∷ set ∷ when equal (Break 0) ∷ []))) ∷ done ∷ []))

two_loops_blocks : two_loops ≡ block (Jump 1) (set ∷ []) ∷ block (Jump 2) [] ∷ block (on_less 4 3) [] ∷
    block (on_equal 1 2) (set ∷ []) ∷ block (Return (Const 0)) [] ∷ []
two_loops_blocks = refl

two_loops_code :
    traced two_loops ≡ Mark 0 ∷ Do' set ∷ Mark 1 ∷ Mark 2 ∷ tree.Branch GreaterEqual (Temp 0) (Const 3) 3 ∷ Mark 4 ∷
    tree.Return' (Const 0) ∷ Mark 3 ∷ Do' set ∷ tree.Branch Equal (Temp 0) (Const 4) 1 ∷ tree.Jump 2 ∷ []
two_loops_code = refl

-- a choice with two empty sides is a branch whose sides are one
one_side : blocks_of (stms (If less nothing nothing ∷ set ∷ done ∷ [])) ≡ block (on_less 1 1) [] ∷ block (Return (Const 0)) (set ∷ []) ∷ []
one_side = refl

-- a condition leads on as soon as it is known
parts : blocks_of (stms (If (Both less (Not (Either less equal))) (tree.Fault 2) nothing ∷ done ∷ [])) ≡ block (on_less 1 4) [] ∷
    block (on_less 4 2) [] ∷ block (on_equal 4 3) [] ∷ block (Fault 2) [] ∷ block (Return (Const 0)) [] ∷ []
parts = refl

-- a loop of nothing goes round
empty_loop : blocks_of (stms (set ∷ Loop nothing ∷ done ∷ [])) ≡ block (Jump 1) (set ∷ []) ∷ block (Jump 1) [] ∷ block (Return (Const 0)) [] ∷ []
empty_loop = refl

left_at_once : blocks_of (stms (Loop (Break 0) ∷ done ∷ [])) ≡ block (Jump 1) [] ∷ block (Return (Const 0)) [] ∷ []
left_at_once = refl

-- what follows a break is dropped
dropped : blocks_of (stms (Loop (sequence (set ∷ Break 0 ∷ Loop set ∷ [])) ∷ done ∷ [])) ≡ block (Jump 1) (set ∷ []) ∷ block (Return (Const 0)) [] ∷ []
dropped = refl

-- a check, which fails where a temporary isn't 0
abbrev check : ℕ → Ts
check kind = when (Compare NotEqual (Temp 0) (Const 0)) (tree.Fault kind)

-- a block that only fails stands behind the trace of its check, which falls through where it is passed
fault_code : traced (blocks_of (stms (check 3 ∷ set ∷ done ∷ []))) ≡
    Mark 0 ∷ tree.Branch NotEqual (Temp 0) (Const 0) 1 ∷ Mark 2 ∷ Do' set ∷ tree.Return' (Const 0) ∷ Mark 1 ∷ tree.Fault' 3 ∷ []
fault_code = refl

-- two checks: all that they pass stands in front of where they fail
two_checks : traced (blocks_of (stms (check 3 ∷ check 4 ∷ done ∷ []))) ≡
    Mark 0 ∷ tree.Branch NotEqual (Temp 0) (Const 0) 1 ∷ Mark 2 ∷ tree.Branch NotEqual (Temp 0) (Const 0) 3 ∷ Mark 4 ∷
    tree.Return' (Const 0) ∷ Mark 1 ∷ tree.Fault' 3 ∷ Mark 3 ∷ tree.Fault' 4 ∷ []
two_checks = refl

-- a check in a loop: where it fails stands behind the loop
check_in_loop : traced (blocks_of (stms (Loop (If less (sequence (check 3 ∷ set ∷ [])) (Break 0)) ∷ done ∷ []))) ≡
    Mark 0 ∷ tree.Branch GreaterEqual (Temp 0) (Const 3) 4 ∷ Mark 1 ∷ tree.Branch NotEqual (Temp 0) (Const 0) 2 ∷ Mark 3 ∷ Do' set ∷
    tree.Jump 0 ∷ Mark 2 ∷ tree.Fault' 3 ∷ Mark 4 ∷ tree.Return' (Const 0) ∷ []
check_in_loop = refl

-- a block that does something before it fails stands where it is tested for, and the branch is turned round
fault_behind_a_statement : traced (blocks_of (stms (when equal (sequence (set ∷ tree.Fault 3 ∷ [])) ∷ set ∷ done ∷ []))) ≡
    Mark 0 ∷ tree.Branch NotEqual (Temp 0) (Const 4) 2 ∷ Mark 1 ∷ Do' set ∷ tree.Fault' 3 ∷ Mark 2 ∷ Do' set ∷ tree.Return' (Const 0) ∷ []
fault_behind_a_statement = refl

-- so does one that only returns
return_at_once : traced (blocks_of (stms (when equal done ∷ set ∷ done ∷ []))) ≡
    Mark 0 ∷ tree.Branch NotEqual (Temp 0) (Const 4) 2 ∷ Mark 1 ∷ tree.Return' (Const 0) ∷ Mark 2 ∷ Do' set ∷ tree.Return' (Const 0) ∷ []
return_at_once = refl

-- of two that only fail the false side comes first
two_faults : traced (blocks_of (stms (If equal (tree.Fault 3) (tree.Fault 4) ∷ done ∷ []))) ≡
    Mark 0 ∷ tree.Branch Equal (Temp 0) (Const 4) 1 ∷ Mark 2 ∷ tree.Fault' 4 ∷ Mark 1 ∷ tree.Fault' 3 ∷ Mark 3 ∷ tree.Return' (Const 0) ∷ []
two_faults = refl
