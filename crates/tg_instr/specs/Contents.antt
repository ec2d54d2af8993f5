-- What operands hold in a run of instructions. What a function finds in $s0 to $s7 and $ra at its
-- entry it must give back: it may move it and keep it in a slot, and has no other use of it.
use Rattle.std.specs.Prelude.{ℕ, ◌-◌, ◌==◌, ◌&&◌, ◌||◌, Bool, true, false, List, [], ◌∷◌, ◌++◌, map}
use Rattle.std.specs.Prelude.{if◌then◌else◌}
use Rattle.tg_instr.specs.declared.operands.Opnd.TheVariants.{Reg}
use Rattle.tg_instr.specs.Operands.{is_same, registers}
use Rattle.tg_instr.specs.Shapes.{Holder, Operand, Hi, Lo}
use Rattle.tg_instr.specs.Uses.{arguments, clobbered, given_back}
use Rattle.tg_tree.specs.Actions.{Activation}
use Rattle.tg_tree.specs.Memory.{Cell, Unset, Has, Kept}

-- nothing yet, a word, or what the activation found in this register at its entry
pub data Content : Type 0 where
  Nothing : Content
  Word : ℕ → Content
  Found : (register : ℕ) → Content

abbrev pub Contents : Type 0
Contents = Holder → Content

abbrev pub no_contents : Contents
no_contents x = Nothing

abbrev pub is_holder : Holder → Holder → Bool
is_holder (Operand x) (Operand y) = is_same x y
is_holder Hi Hi = true
is_holder Lo Lo = true
is_holder _ _ = false

abbrev pub set : Holder → Content → Contents → Contents
set x c contents y = if is_holder y x then c else contents y

-- what a holder has: $zero and $sp have their words
abbrev pub held : Activation → Contents → Holder → Content
held a contents (Operand (Reg r)) =
    if r == 0 then Word 0 else if r == 29 then Word (a.base - a.size) else
    contents (Operand (Reg r))
held a contents x = contents x

abbrev pub is_in : (register : ℕ) → List ℕ → Bool
is_in r [] = false
is_in r (n ∷ ns) = r == n || is_in r ns

abbrev pub is_among : Holder → List Holder → Bool
is_among x [] = false
is_among x (y ∷ ys) = is_holder x y || is_among x ys

-- what is handed on to another activation: what is to be given back is nothing to it
abbrev pub handed : Content → Content
handed (Word v) = Word v
handed _ = Nothing

-- at the entry of a function: $a0 to $a3 are handed on, and what is to be given back is found
abbrev pub at_entry : Contents → Contents
at_entry contents (Operand (Reg r)) =
    if is_in r arguments then handed (contents (Operand (Reg r))) else
    if is_in r given_back then Found r else Nothing
at_entry contents x = Nothing

-- what a call leaves unset, but for the result in $v0
abbrev pub left_unset : List Holder
left_unset = map (λ x. Operand x) (registers clobbered) ++ (Hi ∷ Lo ∷ [])

abbrev pub after_call : (result : Content) → Contents → Contents
after_call c contents x =
    if is_holder x (Operand (Reg 2)) then c else
    if is_among x left_unset then Nothing else contents x

-- at a return each of these registers has what was found in it
abbrev pub is_found : (register : ℕ) → Content → Bool
is_found r (Found q) = q == r
is_found r _ = false

abbrev pub gives_back : (registers : List ℕ) → Contents → Bool
gives_back [] contents = true
gives_back (r ∷ rs) contents =
    is_found r (contents (Operand (Reg r))) && gives_back rs contents

-- in a slot of the frame
abbrev pub cell_of : Content → Cell
cell_of Nothing = Unset
cell_of (Word v) = Has v
cell_of (Found r) = Kept r

abbrev pub content_of : Cell → Content
content_of (Has v) = Word v
content_of (Kept r) = Found r
content_of _ = Nothing
