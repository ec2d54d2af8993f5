-- When a run of lines stands where a run of instructions over registers stands: its registers, its
-- memory, what is left of the lines, and what comes after a return.
use Rattle.std.specs.Prelude.{ℕ, ◌+◌, ◌-◌, ◌*◌, ◌%◌, ◌^◌, ◌≡◌, ◌<◌, ◌≤◌, List, ◌∷◌, ◌++◌}
use Rattle.std.specs.Prelude.{length, All, Some, IsTrue}
use Rattle.std.specs.List.{Contains, AllByRecursion}
use Rattle.tg_machine_state.specs.State.{MachineState, register, floor, stack_top, most_bytes}
use Rattle.tg_machine_state.specs.State.{word_at}
use Rattle.tg_simulation.specs.Bytes.{AreBytes}
use Rattle.tg_simulation.specs.laws.Simulating.{Simulates}
use Rattle.tg_isa.specs.declared.mips.Mips.TheVariants.{Lw, Jal}
use Rattle.tg_tree.specs.Memory.{Memory, Cell, Closed, Unset, Has, Kept, slot}
use Rattle.tg_tree.specs.Actions.{World, Activation}
use Rattle.tg_tree.specs.Tree.{Function}
use Rattle.tg_instr.specs.declared.operands.Opnd.TheVariants.{Reg}
use Rattle.tg_instr.specs.declared.instr.Instr.{Instr}
use Rattle.tg_instr.specs.Shapes.{Operand, Hi, Lo}
use Rattle.tg_instr.specs.Codes.{is_allocated}
use Rattle.tg_instr.specs.Uses.{given_back}
use Rattle.tg_instr.specs.Contents.{Content, Nothing, Word, Found, Contents, held}
use Rattle.tg_instr.specs.Meaning.{Back}
use Rattle.tg_instr.specs.Running as code
use Rattle.tg_instr.specs.Running.{CodePoint}
use Rattle.tg_emit.specs.declared.assembly.Line.{Line}
use Rattle.tg_emit.specs.declared.assembly.Line.TheVariants.{One}
use Rattle.tg_emit.specs.mirror.Names.{function_name, mark_name}
use Rattle.tg_emit.specs.mirror.Lines.{alone, lowered, code_lines}
use Rattle.tg_emit_proof.specs.LinesRun.{left, calls, behind}
use Rattle.tg_emit_proof.specs.Setting.{Setting, later, from, back_to, going_to}

-- what an activation found in each register at its entry; and by the addresses of slots
abbrev pub Finds : Type 0
Finds = (address register : ℕ) → ℕ

-- a register or slot has a content: a word, or what was found in a register
abbrev pub IsHeld : (found : ℕ → ℕ) → Content → (word : ℕ) → Type 0
IsHeld found Nothing v = Unit {0}
IsHeld found (Word u) v = v ≡ u
IsHeld found (Found r) v = v ≡ found r

-- a content that was handed on
abbrev pub IsHanded : Content → (word : ℕ) → Type 0
IsHanded Nothing v = Unit {0}
IsHanded (Word u) v = v ≡ u
IsHanded (Found r) v = ⊥

-- $at is the lines' own, and code over registers names $zero, $sp and the colours alone
pub record HasRegisters (found : ℕ → ℕ) (a : Activation) (contents : Contents)
    (s : MachineState) : Type 0 where
  pub count : length s.registers ≡ 32
  pub words : All (λ v. v < 2 ^ 32) s.registers
  pub each :
      (r : ℕ) → IsTrue (is_allocated r) →
      IsHeld found (held a contents (Operand (Reg r))) (register s r)
  pub high : IsHeld found (contents Hi) s.hi
  pub low : IsHeld found (contents Lo) s.lo
  pub high_word : s.hi < 2 ^ 32
  pub low_word : s.lo < 2 ^ 32

-- a word of the stack
abbrev pub IsStackWord : MachineState → (address : ℕ) → Type 0
IsStackWord s a = (a % 4 ≡ 0) × (floor s ≤ a) × (a + 4 ≤ stack_top)

abbrev pub is_at : MachineState → (address : ℕ) → ℕ
is_at s a = word_at s.stack (a - floor s)

abbrev pub IsCell : (found : ℕ → ℕ) → MachineState → (address : ℕ) → Cell → Type 0
IsCell found s a Closed = Unit {0}
IsCell found s a Unset = IsStackWord s a
IsCell found s a (Has v) = IsStackWord s a × (v < 2 ^ 32) × (is_at s a ≡ v)
IsCell found s a (Kept r) = IsStackWord s a × (is_at s a ≡ found r)

-- bytes, in whole words
abbrev pub AreWhole : List ℕ → Type 0
AreWhole bytes = AreBytes bytes × (length bytes % 4 ≡ 0)

pub record HasMemory (found : Finds) (m : Memory) (s : MachineState) : Type 0 where
  pub statics : s.statics ≡ m.statics
  pub heap : s.heap ≡ m.heap
  pub stack : AreBytes s.stack
  pub cells : (a : ℕ) → IsCell (found a) s a (m.stack a)
  pub whole_statics : AreWhole m.statics
  pub whole_heap : AreWhole m.heap

-- in its own slots an activation keeps what it found itself
abbrev pub Owns : Finds → (found : ℕ → ℕ) → (base slots : ℕ) → Type 0
Owns finds found base slots = (k : ℕ) → k < slots → finds (slot base k) ≡ found

-- A frame lies within the stack: $sp is its low end.
pub record HasFrame (a : Activation) (f : Function (List Instr)) (s : MachineState) : Type 0 where
  pub words : a.base % 4 ≡ 0
  pub size_words : a.size % 4 ≡ 0
  pub holds : 4 * (f.slots + f.out) ≤ a.size
  pub above : floor s + a.size ≤ a.base
  pub below : a.base ≤ stack_top

-- at a return: $sp, and what had to be given back, by what they were at the entry
pub record IsBack (found : ℕ → ℕ) (top : ℕ) (t : MachineState) : Type 0 where
  pub count : length t.registers ≡ 32
  pub words : All (λ v. v < 2 ^ 32) t.registers
  pub zero : register t 0 ≡ 0
  pub stack : register t 29 ≡ top
  pub given : AllByRecursion (λ r. register t r ≡ found r) given_back
  pub high_word : t.hi < 2 ^ 32
  pub low_word : t.lo < 2 ^ 32

module _ (g : Setting) where
  -- at most so many bytes of heap, and so many of stack; the statics fit their region
  pub record HasSizes (s : MachineState) : Type 0 where
    pub heap : s.room ≡ g.room
    pub taken : length s.heap ≤ g.room
    pub whole : length s.stack ≡ g.stack
    pub statics : length s.statics ≤ most_bytes

  -- A function stands in the lines: its label leads to its entry, and each mark to what is after
  -- it.
  pub record FunctionStands (f : Function (List Instr)) : Type 0 where
    pub before : List Line
    pub after : List Line
    pub whole :
        g.lines ≡ before ++ (code_lines g.turned f.label (g.size f.label) 0 f.body ++ after)
    pub entered :
        behind (function_name f.label) g.lines
        ≡ Some (left (lowered (g.size f.label) ++ alone (Lw 0 0 29)
        ∷ (code_lines g.turned f.label (g.size f.label) 0 f.body ++ after)))
    pub marks :
        (m : ℕ) (rest : List Instr) → code.behind m f.body ≡ Some rest →
        (place : ℕ) × (behind (mark_name f.label m) g.lines
        ≡ Some (left (code_lines g.turned f.label (g.size f.label) place rest ++ after)))

  -- the words that calls put into $ra lead back to them
  abbrev pub CallsComeBack : Type 0
  CallsComeBack =
      (front rest : List Line) (target : List ℕ) →
      g.lines ≡ front ++ One (Jal 0) target ∷ rest →
      (g.returns (calls rest) < 2 ^ 32)
      × (back_to g (g.returns (calls rest)) ≡ Some (left rest))

  -- What comes after a return goes on in the lines, whatever stands below the frame that was
  -- closed.
  abbrev pub BackGoesOn :
      (credit n : ℕ) → Finds → (found : ℕ → ℕ) → (top : ℕ) → Back → Type 0
  BackGoesOn credit n finds found top back =
      (c : Content) (w : World) (t : MachineState) →
      HasSizes t →
      HasMemory finds w.memory t →
      IsBack found top t →
      IsHanded c (register t 2) →
      AreBytes w.input →
      Simulates 1 credit n (back c w) (going_to g (back_to g (found 31)) t w.input)

  -- the run stands at a place of a function's code
  pub record Stands (finds : Finds) (found : ℕ → ℕ) (p : CodePoint) (rest : List Line)
      (s : MachineState) : Type 0 where
    -- its function, and which part of the code is left
    pub function : Contains g.program.functions p.function
    pub placed : FunctionStands p.function
    pub front : List Instr
    pub code : p.function.body ≡ front ++ p.rest
    pub place : ℕ
    -- the lines that are left stand for it
    pub here :
        rest
        ≡ code_lines g.turned p.function.label (g.size p.function.label) place p.rest
        ++ placed.after
    pub before : List Line
    pub whole : g.lines ≡ before ++ rest
    -- registers, memory and frame are what the code says
    pub sizes : HasSizes s
    pub sized : p.activation.size ≡ g.size p.function.label
    pub frame : HasFrame p.activation p.function s
    pub registers : HasRegisters found p.activation p.contents s
    pub memory : HasMemory finds p.world.memory s
    pub owns : Owns finds found p.activation.base p.function.slots
    pub input : AreBytes p.world.input

  -- The lines do what the code does from a place on, with no more rows than it counts and a
  -- credit, if what comes after the function's return goes on.
  abbrev pub CodeGoesOn : (credit n : ℕ) → Type 0
  CodeGoesOn credit n =
      (finds : Finds) (found : ℕ → ℕ) (p : CodePoint) (rest : List Line) (s : MachineState) →
      Stands finds found p rest s →
      BackGoesOn credit n finds found p.activation.base p.back →
      Simulates 1 credit n (later g p) (from g rest s p.world.input)

  -- for each amount of fuel, if so for less
  abbrev pub CodeGoesOnByFuel : Type 0
  CodeGoesOnByFuel =
      (credit n : ℕ) → ((m : ℕ) → m < n → CodeGoesOn credit m) → CodeGoesOn credit n
