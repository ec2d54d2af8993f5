-- What an instruction does, by its shape, given what comes next: at the next instruction, at a
-- mark, and after the function's return (Appel, chapter 9; MIPS I and SPIM manuals).
use Rattle.std.specs.Prelude.{ℕ, ◌-◌, List, Option, nat_lt, if◌then◌else◌}
use Rattle.tg_machine_state.specs.declared.ends.RunEnd.TheVariants.{Break}
use Rattle.tg_base.specs.Words.{add}
use Rattle.tg_simulation.specs.Runs.{Run}
use Rattle.tg_simulation.specs.Ran.{Ran, Stop, Ended}
use Rattle.tg_tree.specs.Actions.{World, Activation, over, wrong, with_word, with_given}
use Rattle.tg_tree.specs.Actions.{with_memory, service}
use Rattle.tg_tree.specs.Memory.{Memory, put, slot, literal_address}
use Rattle.tg_tree.specs.Operators.{Given, holds}
use Rattle.tg_tree.specs.Tree.{Literal}
use Rattle.tg_instr.specs.declared.operands.Opnd.{Opnd}
use Rattle.tg_instr.specs.declared.operands.Opnd.TheVariants.{Reg}
use Rattle.tg_instr.specs.Operands.{is_same}
use Rattle.tg_instr.specs.Shapes.{Holder, Operand, Hi, Lo, InstructionShape, From0, From1, From2}
use Rattle.tg_instr.specs.Shapes.{Halves, Copy}
use Rattle.tg_instr.specs.Shapes.{Loads, Stores, FromSlot, ToSlot, Base, AddressOf, Here, Goes}
use Rattle.tg_instr.specs.Shapes.{Tests, Calls, Asks, Fails, Returns}
use Rattle.tg_instr.specs.Uses.{given_back}
use Rattle.tg_instr.specs.Contents.{Content, Nothing, Word, Contents, set, held, handed, at_entry}
use Rattle.tg_instr.specs.Contents.{after_call, gives_back, cell_of, content_of}

-- what comes after an instruction, after a value, at a mark, after a return
abbrev pub Next : Type 0
Next = World → Contents → Run Ran

abbrev pub Go : Type 0 → Type 0
Go A = A → World → Contents → Run Ran

abbrev pub Jumps : Type 0
Jumps = (mark : ℕ) → World → Contents → Run Ran

abbrev pub Back : Type 0
Back = Content → World → Run Ran

-- a function is entered by its label, with what its registers have, its frame address and what
-- comes after its return
abbrev pub Enter : Type 0
Enter = (label : ℕ) → Contents → (top : ℕ) → Back → World → Run Ran

-- what is around an instruction
pub record Around : Type 0 where
  pub activation : Activation
  pub slots : ℕ
  pub jumps : Jumps
  pub back : Back

-- Actions, each of which is passed what comes next.

abbrev pub Executes : Type 0 → Type 0
Executes K = Around → K → World → Contents → Run Ran

infixl 10 ◌>>=◌
infixl 10 ◌>>◌
abbrev pub ◌>>=◌ : {A K : Type 0} → Executes (Go A) → (A → Executes K) → Executes K
◌>>=◌ first onward e k w s = first e (λ a w1 s1. onward a e k w1 s1) w s

abbrev pub ◌>>◌ : {K : Type 0} → Executes Next → Executes K → Executes K
◌>>◌ first onward e k w s = first e (λ w1 s1. onward e k w1 s1) w s

abbrev pub skip : Executes Next
skip e next w s = next w s

abbrev pub stop : Stop → Executes Next
stop end e next w s = over end w

-- a word that has to be there: in itself, as what an operator gives, in memory
abbrev pub known : Option ℕ → Executes (Go ℕ)
known o e go w s = with_word o w (λ v. go v w s)

abbrev pub given : Given → Executes (Go ℕ)
given g e go w s = with_given g w (λ v. go v w s)

abbrev pub read_memory : (Memory → Option ℕ) → Executes (Go ℕ)
read_memory f e go w s = with_word (f w.memory) w (λ v. go v w s)

abbrev pub write_memory : (Memory → Option Memory) → Executes Next
write_memory f e next w s = with_memory (f w.memory) w (λ w1. next w1 s)

abbrev pub frame_address : Executes (Go ℕ)
frame_address e go w s = go e.activation.base w s

-- what a holder has: a word, or also what is only moved
abbrev pub with_content_word : Content → World → (ℕ → Run Ran) → Run Ran
with_content_word (Word v) w go = go v
with_content_word _ w go = wrong w

abbrev pub with_content : Content → World → (Content → Run Ran) → Run Ran
with_content Nothing w go = wrong w
with_content c w go = go c

abbrev pub read : Holder → Executes (Go ℕ)
read x e go w s = with_content_word (held e.activation s x) w (λ v. go v w s)

abbrev pub pick : Opnd → Executes (Go Content)
pick x e go w s = with_content (held e.activation s (Operand x)) w (λ c. go c w s)

abbrev pub write : Holder → Content → Executes Next
write x c e next w s = next w (set x c s)

-- an operand but $sp, which no instruction writes
abbrev pub put_in : Opnd → Content → Executes Next
put_in x c e next w s =
    if is_same x (Reg 29) then wrong w else next w (set (Operand x) c s)

-- a slot of the frame
abbrev pub pick_slot : (slot : ℕ) → Executes (Go Content)
pick_slot k e go w s =
    if nat_lt k e.slots then
    with_content (content_of (w.memory.stack (slot e.activation.base k))) w (λ c. go c w s)
    else wrong w

abbrev pub put_slot : (slot : ℕ) → Content → Executes Next
put_slot k c e next w s =
    if nat_lt k e.slots then
    next (record w { memory = put (slot e.activation.base k) (cell_of c) w.memory }) s
    else wrong w

abbrev pub jump : (mark : ℕ) → Executes Next
jump m e next w s = e.jumps m w s

abbrev pub go_back : Executes Next
go_back e next w s =
    if gives_back given_back s then e.back (handed (s (Operand (Reg 2)))) w else wrong w

module _ (room : ℕ) (literals : List Literal) (enter : Enter) where
  abbrev pub call : (label : ℕ) → Executes Next
  call label e next w s =
      enter label (at_entry s) (e.activation.base - e.activation.size)
      (λ c w1. next w1 (after_call c s)) w

  abbrev pub ask : (asked argument : ℕ) → Executes (Go ℕ)
  ask n u e go w s = service room n u w (λ v w1. go v w1 s)

  abbrev pub act : InstructionShape → Executes Next
  act (From0 to n) = put_in to (Word n)
  act (From1 to from f) = do
    u ← read from
    r ← given (f u)
    put_in to (Word r)
  act (From2 to left right f) = do
    u ← read (Operand left)
    v ← read (Operand right)
    r ← given (f u v)
    put_in to (Word r)
  act (Halves left right low high) = do
    u ← read (Operand left)
    v ← read (Operand right)
    l ← given (low u v)
    h ← given (high u v)
    write Hi (Word h)
    write Lo (Word l)
  act (Copy to from) = do
    c ← pick from
    put_in to c
  act (Loads to base n f) = do
    a ← read (Operand base)
    v ← read_memory (λ m. f m (add a n))
    put_in to (Word v)
  act (Stores from base n f) = do
    a ← read (Operand base)
    v ← read (Operand from)
    write_memory (λ m. f m (add a n) v)
  act (FromSlot to k) = do
    c ← pick_slot k
    put_in to c
  act (ToSlot from k) = do
    c ← pick from
    put_slot k c
  act (Base to) = do
    a ← frame_address
    put_in to (Word a)
  act (AddressOf to label) = do
    a ← known (literal_address literals label)
    put_in to (Word a)
  act (Here m) = skip
  act (Goes m) = jump m
  act (Tests rel left right m) = do
    u ← read (Operand left)
    v ← read (Operand right)
    if holds rel u v then jump m else skip
  act (Calls label) = call label
  act Asks = do
    n ← read (Operand (Reg 2))
    u ← read (Operand (Reg 4))
    v ← ask n u
    write (Operand (Reg 2)) (Word v)
  act (Fails n) = stop (Ended (Break n))
  act Returns = go_back
