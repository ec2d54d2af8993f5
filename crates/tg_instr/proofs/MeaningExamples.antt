-- Runs of instructions, computed: a call, a value that is given back moved and kept in a slot, each
-- way to go wrong once, and one run for each rule.
use Rattle.std.proofs.Common.{ℕ, ◌≡◌, ◌-◌, List, [], ◌∷◌, refl, pos}
use Rattle.tg_machine_state.specs.declared.ends.RunEnd.TheVariants.{Exit, Break, StackFull}
use Rattle.tg_machine_state.specs.State.{stack_top}
use Rattle.tg_simulation.specs.Ran.{Ran, Ended, WantsFuel, Wrong}
use Rattle.std.specs.Prelude.{◌==◌, if◌then◌else◌}
use Rattle.tg_tree.specs.declared.operators.Rel.TheVariants.{Equal}
use Rattle.tg_tree.specs.Tree.{Function}
use Rattle.tg_instr.specs.declared.operands.Opnd.{Opnd}
use Rattle.tg_instr.specs.declared.operands.Opnd.TheVariants.{Temp, Reg}
use Rattle.tg_instr.specs.declared.instr.Instr.{Instr}
use Rattle.tg_instr.specs.declared.instr.Instr.TheVariants.{Addiu, Div, Mult, Mfhi, Mflo, Lw, Sw, Move, FrameLoad, FrameStore, FrameAddress, Address}
use Rattle.tg_instr.specs.declared.instr.Instr.TheVariants.{Mark, Jump, Branch, Call, Service, Fault, Return}
use Rattle.tg_instr.specs.Running.{everywhere, code_run}

abbrev temp : ℕ → Opnd
temp i = Temp (record { 0 = i })

abbrev made : (label slots out : ℕ) → List Instr → Function (List Instr)
made label slots out body =
    record { label = label; params = []; slots = slots; temps = 10; out = out; body = body }

abbrev ran_with : List (Function (List Instr)) → ℕ → Ran
ran_with functions n =
    code_run (everywhere (λ one. 1)) (record { functions = functions; literals = [] }) (λ l. 16)
    (stack_top - 32) 8 32 [] n

-- a body alone, with two slots
abbrev ran : List Instr → Ran
ran body = ran_with (made 32 2 0 body ∷ []) 2

-- A function that gives $a0 + 1, with $ra kept in a slot meanwhile and another word in it; the body
-- keeps its own $ra in a temporary and prints the result as a byte.

abbrev one_more : List Instr
one_more =
    FrameStore (Reg 31) 0 ∷ Addiu (Reg 2) (Reg 4) 1 ∷ Addiu (Reg 31) (Reg 0) 7 ∷
    FrameLoad (Reg 31) 0 ∷ Return ∷ []

abbrev main : List Instr
main =
    Move (temp 9) (Reg 31) ∷ Addiu (Reg 4) (Reg 0) 65 ∷ Call (record { 0 = 33 }) ∷
    Move (Reg 4) (Reg 2) ∷ Addiu (Reg 2) (Reg 0) 11 ∷ Service ∷ Move (Reg 31) (temp 9) ∷ Return ∷ []

abbrev calls : ℕ → Ran
calls n = ran_with (made 32 0 0 main ∷ made 33 1 0 one_more ∷ []) n

prints_one_more : (calls 2).output ≡ 66 ∷ []
prints_one_more = refl

ends : (calls 2).stop ≡ Ended (Exit (pos 0))
ends = refl

thirteen_instructions : (calls 2).work ≡ 13
thirteen_instructions = refl

-- an argument in the low word of the caller's frame is loaded by the callee, above its own frame
abbrev gives_fifth : List Instr
gives_fifth = FrameAddress (Reg 3) ∷ Lw (Reg 2) 0 (Reg 3) ∷ Return ∷ []

abbrev hands_fifth : List Instr
hands_fifth =
    Move (temp 9) (Reg 31) ∷ Addiu (temp 0) (Reg 0) 42 ∷ Sw (temp 0) 0 (Reg 29) ∷
    Call (record { 0 = 33 }) ∷ Move (Reg 4) (Reg 2) ∷ Addiu (Reg 2) (Reg 0) 17 ∷ Service ∷ []

fifth_argument :
    (ran_with (made 32 0 1 hands_fifth ∷ made 33 0 0 gives_fifth ∷ []) 2).stop
    ≡ Ended (Exit (pos 42))
fifth_argument = refl

-- Each way to go wrong.

-- it reads a register, or hi, that isn't set
reads_unset : (ran (Move (Reg 2) (Reg 8) ∷ Return ∷ [])).stop ≡ Wrong
reads_unset = refl

reads_unset_hi : (ran (Mfhi (Reg 2) ∷ Return ∷ [])).stop ≡ Wrong
reads_unset_hi = refl

-- a temporary or a register is not set after a call
reads_behind_call :
    (ran_with (made 32 0 0 (Addiu (Reg 8) (Reg 0) 1 ∷ Move (temp 9) (Reg 31) ∷ Addiu (Reg 4) (Reg 0) 1 ∷
    Call (record { 0 = 33 }) ∷ Move (Reg 4) (Reg 8) ∷ Fault 1 ∷ []) ∷ made 33 1 0 one_more ∷ []) 2).stop
    ≡ Wrong
reads_behind_call = refl

-- it writes $sp
writes_stack_pointer : (ran (Addiu (Reg 29) (Reg 29) 8 ∷ Return ∷ [])).stop ≡ Wrong
writes_stack_pointer = refl

-- it returns without what it must give back, or with another's
gives_nothing_back : (ran (Addiu (Reg 16) (Reg 0) 1 ∷ Return ∷ [])).stop ≡ Wrong
gives_nothing_back = refl

gives_last_not_back : (ran (Addiu (Reg 23) (Reg 0) 1 ∷ Return ∷ [])).stop ≡ Wrong
gives_last_not_back = refl

gives_another_back : (ran (Move (Reg 16) (Reg 17) ∷ Return ∷ [])).stop ≡ Wrong
gives_another_back = refl

-- it reckons with what it must give back, or loads it as a word
reckons_with_found : (ran (Addiu (temp 0) (Reg 16) 0 ∷ Return ∷ [])).stop ≡ Wrong
reckons_with_found = refl

loads_found :
    (ran (FrameStore (Reg 16) 0 ∷ FrameAddress (temp 0) ∷ Lw (temp 1) 65532 (temp 0) ∷ Return ∷ [])).stop
    ≡ Wrong
loads_found = refl

-- (a word is loaded so)
loads_slot :
    (ran (FrameStore (Reg 0) 0 ∷ FrameAddress (temp 0) ∷ Lw (temp 1) 65532 (temp 0) ∷ Fault 3 ∷ [])).stop
    ≡ Ended (Break 3)
loads_slot = refl

-- a slot that wasn't stored to, or that the frame doesn't have
loads_unset_slot : (ran (FrameLoad (temp 0) 1 ∷ Fault 1 ∷ [])).stop ≡ Wrong
loads_unset_slot = refl

stores_past_slots : (ran (FrameStore (Reg 0) 2 ∷ Fault 1 ∷ [])).stop ≡ Wrong
stores_past_slots = refl

-- what is no address, a divisor of 0, a mark, function or literal that isn't there, a code's end
loads_nowhere : (ran (Lw (temp 0) 0 (Reg 0) ∷ Fault 1 ∷ [])).stop ≡ Wrong
loads_nowhere = refl

divides_by_zero : (ran (Div (Reg 0) (Reg 0) ∷ Fault 1 ∷ [])).stop ≡ Wrong
divides_by_zero = refl

jumps_nowhere : (ran (Jump 1 ∷ Mark 2 ∷ Fault 1 ∷ [])).stop ≡ Wrong
jumps_nowhere = refl

calls_nothing : (ran (Call (record { 0 = 40 }) ∷ Fault 1 ∷ [])).stop ≡ Wrong
calls_nothing = refl

no_literal : (ran (Address (temp 0) (record { 0 = 40 }) ∷ Fault 1 ∷ [])).stop ≡ Wrong
no_literal = refl

falls_off : (ran (Mark 0 ∷ [])).stop ≡ Wrong
falls_off = refl

-- a frame below the floor is a full stack, and nothing wrong
deep :
    (ran_with (made 32 0 0 (Move (temp 9) (Reg 31) ∷ Call (record { 0 = 32 }) ∷ Return ∷ []) ∷ []) 9).stop
    ≡ Ended StackFull
deep = refl

-- Rules that a change of one turn, register or word would break.

-- a body with a word for arguments, and one that calls another
abbrev ran_for : List Instr → (fuel : ℕ) → Ran
ran_for body n = ran_with (made 32 2 1 body ∷ []) n

abbrev calls_to : (caller callee : List Instr) → Ran
calls_to caller callee = ran_with (made 32 1 1 caller ∷ made 33 2 1 callee ∷ []) 2

abbrev exits : Opnd → List Instr
exits x = Move (Reg 4) x ∷ Addiu (Reg 2) (Reg 0) 17 ∷ Service ∷ []

abbrev call : Instr
call = Call (record { 0 = 33 })

abbrev to_next_mark : Opnd → Opnd → List Instr
to_next_mark x y =
    Branch (record { rel = Equal; left = x; right = y; is_one_row = refl }) 1 ∷ Mark 1 ∷ Fault 3 ∷ []

-- a jump and a branch that is taken take a turn each, and one that isn't taken takes none
turn_of_jump :
    ((ran_for (Jump 1 ∷ Mark 1 ∷ Fault 3 ∷ []) 0).stop ≡ WantsFuel)
    × ((ran_for (Jump 1 ∷ Mark 1 ∷ Fault 3 ∷ []) 1).stop ≡ Ended (Break 3))
turn_of_jump = (refl, refl)

turn_of_branch :
    ((ran_for (to_next_mark (Reg 0) (Reg 0)) 0).stop ≡ WantsFuel)
    × ((ran_for (to_next_mark (Reg 0) (Reg 0)) 1).stop ≡ Ended (Break 3))
turn_of_branch = (refl, refl)

no_turn : (ran_for (Addiu (temp 0) (Reg 0) 1 ∷ to_next_mark (temp 0) (Reg 0)) 0).stop ≡ Ended (Break 3)
no_turn = refl

-- $s0 stays over a call, whose callee moves it away and back
abbrev uses_saved : List Instr
uses_saved = Move (temp 0) (Reg 16) ∷ Addiu (Reg 16) (Reg 0) 9 ∷ Move (Reg 16) (temp 0) ∷ Return ∷ []

saved_stays :
    (calls_to (Addiu (Reg 16) (Reg 0) 5 ∷ call ∷ exits (Reg 16)) uses_saved).stop ≡ Ended (Exit (pos 5))
saved_stays = refl

-- what is found isn't handed on: neither to who is called nor back
found_in_argument :
    (calls_to (Move (Reg 4) (Reg 16) ∷ call ∷ []) (Move (temp 0) (Reg 4) ∷ Fault 3 ∷ [])).stop ≡ Wrong
found_in_argument = refl

found_in_result :
    (calls_to (call ∷ Move (temp 0) (Reg 2) ∷ Fault 3 ∷ []) (Move (Reg 2) (Reg 16) ∷ Return ∷ [])).stop ≡ Wrong
found_in_result = refl

-- unset at an entry, and after a call: a temporary register, hi, $ra
unset_at_entry :
    (calls_to (Addiu (Reg 8) (Reg 0) 1 ∷ call ∷ []) (Move (temp 0) (Reg 8) ∷ Fault 3 ∷ [])).stop ≡ Wrong
unset_at_entry = refl

hi_at_entry : (calls_to (Mult (Reg 0) (Reg 0) ∷ call ∷ []) (Mfhi (temp 0) ∷ Fault 3 ∷ [])).stop ≡ Wrong
hi_at_entry = refl

hi_behind_call :
    (calls_to (Mult (Reg 0) (Reg 0) ∷ call ∷ Mfhi (temp 0) ∷ Fault 3 ∷ []) (Return ∷ [])).stop ≡ Wrong
hi_behind_call = refl

return_place_behind_call :
    (calls_to (call ∷ Move (temp 0) (Reg 31) ∷ Fault 3 ∷ []) (Return ∷ [])).stop ≡ Wrong
return_place_behind_call = refl

-- stores, branches and services take words alone
stores_found : (ran_for (Sw (Reg 16) 0 (Reg 29) ∷ Fault 3 ∷ []) 1).stop ≡ Wrong
stores_found = refl

branches_on_found : (ran_for (to_next_mark (Reg 16) (Reg 16)) 1).stop ≡ Wrong
branches_on_found = refl

asks_with_found :
    (ran_for (Move (Reg 4) (Reg 16) ∷ Addiu (Reg 2) (Reg 0) 11 ∷ Service ∷ Fault 3 ∷ []) 1).stop ≡ Wrong
asks_with_found = refl

-- a word for arguments is one that is stored to first
loads_unset_argument : (ran_for (Lw (temp 0) 0 (Reg 29) ∷ Fault 3 ∷ []) 1).stop ≡ Wrong
loads_unset_argument = refl

-- a frame is closed at the return: its slot and its low word are nobody's
abbrev leaves_frame : List Instr
leaves_frame = FrameStore (Reg 0) 0 ∷ Sw (Reg 0) 0 (Reg 29) ∷ FrameAddress (Reg 2) ∷ Return ∷ []

slot_behind_return :
    (calls_to (call ∷ Lw (temp 0) 65532 (Reg 2) ∷ Fault 3 ∷ []) leaves_frame).stop ≡ Wrong
slot_behind_return = refl

low_word_behind_return :
    (calls_to (call ∷ Lw (temp 0) 65520 (Reg 2) ∷ Fault 3 ∷ []) leaves_frame).stop ≡ Wrong
low_word_behind_return = refl

-- a quotient is in lo and the rest in hi; a service's answer is in $v0; what $zero gets is lost
abbrev divides : Instr → Ran
divides taken =
    ran_for (Addiu (temp 0) (Reg 0) 17 ∷ Addiu (temp 1) (Reg 0) 5 ∷ Div (temp 0) (temp 1) ∷ taken ∷ exits (temp 2)) 1

quotient : (divides (Mflo (temp 2))).stop ≡ Ended (Exit (pos 3))
quotient = refl

rest : (divides (Mfhi (temp 2))).stop ≡ Ended (Exit (pos 2))
rest = refl

answer :
    (ran_for (Addiu (Reg 4) (Reg 0) 0 ∷ Addiu (Reg 2) (Reg 0) 12 ∷ Service ∷ Addiu (temp 0) (Reg 2) 4 ∷ exits (temp 0)) 1).stop
    ≡ Ended (Exit (pos 3))
answer = refl

zero_stays : (ran_for (Addiu (Reg 0) (Reg 0) 7 ∷ exits (Reg 0)) 1).stop ≡ Ended (Exit (pos 0))
zero_stays = refl

-- instructions are charged by their place: the last of the code two units, and any other one
charged_by_place :
    (code_run (λ label left one. if left == 0 then 2 else 1)
    (record { functions = made 32 0 0 (Addiu (temp 0) (Reg 0) 1 ∷ Fault 3 ∷ []) ∷ []; literals = [] }) (λ l. 16)
    (stack_top - 32) 8 32 [] 0).work
    ≡ 3
charged_by_place = refl
