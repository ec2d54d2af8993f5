-- An instruction over registers alone whose text names $zero, $sp and colours is of these: what calls, services and returns use and define
-- besides is among them.
use Rattle.std.proofs.Common.{true, List, [], ◌∷◌, Some, refl}
use Rattle.std.specs.Prelude.{IsTrue, ◌&&◌}
use Rattle.std.specs.List.{list_all}
use Rattle.tg_instr.specs.declared.operands.Opnd.{Opnd}
use Rattle.tg_instr.specs.declared.operands.Opnd.TheVariants.{Temp, Reg}
use Rattle.tg_instr.specs.declared.instr.Instr.{Instr}
use Rattle.tg_instr.specs.declared.instr.Instr.TheVariants as instr
use Rattle.tg_instr.specs.Codes.{is_register, has_registers_alone, is_allocated, has_register, names_registers, is_register_of, is_of_colours}
use Rattle.tg_instr.proofs.Tests.{left_holds, right_holds, both_hold}

abbrev Alone : List Opnd → Type 0
Alone xs = IsTrue (list_all is_register xs)

abbrev Passes : List Opnd → Type 0
Passes xs = IsTrue (list_all (is_register_of is_allocated) xs)

abbrev Passing : Opnd → Type 0
Passing x = IsTrue (has_register is_allocated (Some x))

one_passes : (x : Opnd) → Passing x → IsTrue (is_register x) → IsTrue (is_register_of is_allocated x)
one_passes (Reg r) h k = h
one_passes (Temp t) h k = cc

one : (x : Opnd) → Passing x → Alone (x ∷ []) → Passes (x ∷ [])
one x h k = both_hold _ _ (one_passes x h (left_holds _ _ k)) refl

front : (x : Opnd) (xs : List Opnd) → Passing x → Alone (x ∷ xs) → Passes xs → Passes (x ∷ xs)
front x xs h k rest = both_hold _ _ (one_passes x h (left_holds _ _ k)) rest

-- by what is named and in which order: a target; what is read, and a target; two that are read, and a target
target : (to : Opnd) → IsTrue (has_register is_allocated (Some to) && true) → IsTrue (list_all is_register (to ∷ [])) → Passes (to ∷ [])
target to h k = one to (left_holds _ _ h) k

from_one : (to x : Opnd) → IsTrue (has_register is_allocated (Some to) && (has_register is_allocated (Some x) && true)) →
    IsTrue (list_all is_register (x ∷ []) && list_all is_register (to ∷ [])) → Passes (x ∷ to ∷ [])
from_one to x h k =
    both_hold _ _ (one_passes x (left_holds _ _ (right_holds (has_register is_allocated (Some to)) _ h)) (left_holds _ _ (left_holds _ _ k)))
    (one to (left_holds _ _ h) (right_holds (list_all is_register (x ∷ [])) _ k))

from_two : (to x y : Opnd) → IsTrue (has_register is_allocated (Some to) && (has_register is_allocated (Some x) && has_register is_allocated (Some y))) →
    IsTrue (list_all is_register (x ∷ y ∷ []) && list_all is_register (to ∷ [])) → Passes (x ∷ y ∷ to ∷ [])
from_two to x y h k =
    let reads = right_holds (has_register is_allocated (Some to)) _ h in
    let alone = left_holds _ _ k in
    both_hold _ _ (one_passes x (left_holds _ _ reads) (left_holds _ _ alone))
    (both_hold _ _ (one_passes y (right_holds (has_register is_allocated (Some x)) _ reads) (left_holds _ _ (right_holds (is_register x) _ alone)))
    (one to (left_holds _ _ h) (right_holds (list_all is_register (x ∷ y ∷ [])) _ k)))

of_two : (x y : Opnd) → IsTrue (has_register is_allocated (Some x) && has_register is_allocated (Some y)) →
    IsTrue (list_all is_register (x ∷ y ∷ []) && true) → Passes (x ∷ y ∷ [])
of_two x y h k =
    let alone = left_holds _ _ k in
    both_hold _ _ (one_passes x (left_holds _ _ h) (left_holds _ _ alone))
    (one y (right_holds (has_register is_allocated (Some x)) _ h) (right_holds (is_register x) _ alone))

of_one : (x : Opnd) → IsTrue (has_register is_allocated (Some x) && true) → IsTrue (list_all is_register (x ∷ []) && true) → Passes (x ∷ [])
of_one x h k = one x (left_holds _ _ h) (left_holds _ _ k)

pub of_colours : (i : Instr) → IsTrue (names_registers is_allocated i) → IsTrue (has_registers_alone i) → IsTrue (is_of_colours i)
of_colours (instr.Sll rd rt n) h k = from_one rd rt h k
of_colours (instr.Srl rd rt n) h k = from_one rd rt h k
of_colours (instr.Sra rd rt n) h k = from_one rd rt h k
of_colours (instr.Mfhi rd) h k = target rd h k
of_colours (instr.Mflo rd) h k = target rd h k
of_colours (instr.Mult rs rt) h k = of_two rs rt h k
of_colours (instr.Div rs rt) h k = of_two rs rt h k
of_colours (instr.Add rd rs rt) h k = from_two rd rs rt h k
of_colours (instr.Sub rd rs rt) h k = from_two rd rs rt h k
of_colours (instr.Addu rd rs rt) h k = from_two rd rs rt h k
of_colours (instr.Subu rd rs rt) h k = from_two rd rs rt h k
of_colours (instr.And rd rs rt) h k = from_two rd rs rt h k
of_colours (instr.Or rd rs rt) h k = from_two rd rs rt h k
of_colours (instr.Xor rd rs rt) h k = from_two rd rs rt h k
of_colours (instr.Nor rd rs rt) h k = from_two rd rs rt h k
of_colours (instr.Slt rd rs rt) h k = from_two rd rs rt h k
of_colours (instr.Sltu rd rs rt) h k = from_two rd rs rt h k
of_colours (instr.Addi rt rs n) h k = from_one rt rs h k
of_colours (instr.Addiu rt rs n) h k = from_one rt rs h k
of_colours (instr.Slti rt rs n) h k = from_one rt rs h k
of_colours (instr.Sltiu rt rs n) h k = from_one rt rs h k
of_colours (instr.Andi rt rs n) h k = from_one rt rs h k
of_colours (instr.Ori rt rs n) h k = from_one rt rs h k
of_colours (instr.Xori rt rs n) h k = from_one rt rs h k
of_colours (instr.Lui rt n) h k = target rt h k
of_colours (instr.Lb rt n rs) h k = from_one rt rs h k
of_colours (instr.Lbu rt n rs) h k = from_one rt rs h k
of_colours (instr.Lw rt n rs) h k = from_one rt rs h k
of_colours (instr.Sb rt n rs) h k = of_two rt rs h k
of_colours (instr.Sw rt n rs) h k = of_two rt rs h k
of_colours (instr.Move to from) h k = from_one to from h k
of_colours (instr.FrameLoad to n) h k = target to h k
of_colours (instr.FrameStore from n) h k = of_one from h k
of_colours (instr.FrameAddress to) h k = target to h k
of_colours (instr.Address to n) h k = target to h k
of_colours (instr.Mark m) h k = refl
of_colours (instr.Jump m) h k = refl
of_colours (instr.Branch test m) h k = of_two test.left test.right h k
of_colours (instr.Call n) h k = refl
of_colours instr.Service h k = refl
of_colours (instr.Fault n) h k = refl
of_colours instr.Return h k = refl
