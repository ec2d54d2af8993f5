-- In which order the arguments of a call are computed: those past the fourth first, so that $a0 to
-- $a3 are free meanwhile. But where one of the first four may end the run, all stand in their
-- order, since a later one may go wrong where the run would have ended.
use Rattle.std.specs.Prelude.{ℕ, ◌+◌, ◌||◌, ◌&&◌, nat_lt, Bool, true, false, not, if◌then◌else◌}
use Rattle.tg_tree.specs.declared.operators.Bin.{Bin}
use Rattle.tg_tree.specs.declared.operators.Bin.TheVariants.{AddTrap, SubTrap}
use Rattle.tg_tree.specs.Tree as tree
use Rattle.tg_tree.specs.Tree.{Tx, Txs, no_txs, tx}
use Rattle.tg_munch.specs.mirror.Choosing.{Choice, ◌>>◌}

-- an operator that ends the run where its result is no int
abbrev pub is_trapping : Bin → Bool
is_trapping AddTrap = true
is_trapping SubTrap = true
is_trapping _ = false

-- Whether an expression may end the run: one of flat code that may not has a word or goes wrong.
abbrev pub may_end : Tx → Bool
may_end (tree.Binary op x y) = is_trapping op || (may_end x || may_end y)
may_end (tree.Load x) = may_end x
may_end (tree.LoadByte x) = may_end x
-- (expressions of flat code have none of these)
may_end (tree.Call _ _) = true
may_end (tree.Service _ _) = true
may_end (tree.After _ _) = true
may_end _ = false

-- the first four arguments go to $a0 to $a3, further ones to the low words of the frame
abbrev pub is_in_register : (place : ℕ) → Bool
is_in_register i = nat_lt i 4

abbrev pub is_in_frame : (place : ℕ) → Bool
is_in_frame i = not (nat_lt i 4)

abbrev pub is_anywhere : (place : ℕ) → Bool
is_anywhere i = true

-- whether one of the first four may end the run
abbrev pub one_may_end : (place : ℕ) → Txs → Bool
one_may_end i no_txs = false
one_may_end i (tx x xs) = (is_in_register i && may_end x) || one_may_end (i + 1) xs

-- arguments in that order, where those are given that a test of their places picks
abbrev pub ordered :
    (ends : Bool) → (picked : (ℕ → Bool) → Choice (Unit {0})) → Choice (Unit {0})
ordered ends picked =
    if ends then picked is_anywhere else (picked is_in_frame >> picked is_in_register)
