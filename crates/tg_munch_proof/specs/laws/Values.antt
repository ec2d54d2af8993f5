-- What the instructions of flat expressions and of comparisons come to.
use Rattle.std.specs.Prelude.{ℕ, ◌+◌, ◌*◌, ◌==◌, ◌≡◌, ◌≤◌, ◌<◌, List, ◌++◌, Bool, false}
use Rattle.std.specs.Prelude.{Option, Some, None, if◌then◌else◌}
use Rattle.tg_base.specs.Words.{sub, flag}
use Rattle.tg_simulation.specs.Runs.{Run}
use Rattle.tg_simulation.specs.Ran.{Ran}
use Rattle.tg_tree.specs.Tree.{Tx}
use Rattle.tg_tree.specs.Shapes.{IsFlat}
use Rattle.tg_tree.specs.Units.{Canonical}
use Rattle.tg_tree.specs.Memory.{Memory, load, load_byte, slot, Has}
use Rattle.tg_tree.specs.Operators.{Given, word, holds}
use Rattle.tg_tree.specs.declared.operators.Rel.{Rel}
use Rattle.tg_tree.specs.FlatValue.{onward, after_word, flat_value, flat_spent}
use Rattle.tg_tree.specs.Actions.{World, Temps, Activation}
use Rattle.tg_instr.specs.declared.operands.Opnd.{Opnd}
use Rattle.tg_instr.specs.declared.operands.Opnd.TheVariants.{Temp, Reg}
use Rattle.tg_instr.specs.declared.instr.Instr.{Instr}
use Rattle.tg_instr.specs.Operands.{is_same}
use Rattle.tg_instr.specs.Shapes.{Operand}
use Rattle.tg_instr.specs.Contents.{Word, Contents, held}
use Rattle.tg_instr.specs.Meaning.{jump, skip}
use Rattle.tg_instr.specs.Running.{code_going, around}
use Rattle.tg_munch.specs.mirror.Choosing.{Choice, NumbersDrawn}
use Rattle.tg_munch.specs.mirror.Munching.{temp, expression, branch}
use Rattle.tg_munch_proof.specs.Words.{IsWord, HasWords}
use Rattle.tg_munch_proof.specs.glue.Places.{each_one, Place, goes, IsPart, Walks, Does, Behaves}

-- an operand that instructions may write
abbrev pub IsSettable : Opnd → Type 0
IsSettable (Temp i) = Unit {0}
IsSettable (Reg r) = ((r == 0) ≡ false) × ((r == 29) ≡ false)

-- what may be asked for: such an operand, or none
abbrev pub IsAskable : Option Opnd → Type 0
IsAskable None = Unit {0}
IsAskable (Some to) = IsSettable to

-- operands that stand before a temporary is drawn
abbrev pub IsOld : ℕ → Opnd → Type 0
IsOld n (Temp i) = i.0 < n
IsOld n (Reg r) = Unit {0}

-- others than one that is asked for
abbrev pub IsOther : Option Opnd → Opnd → Type 0
IsOther None y = Unit {0}
IsOther (Some to) y = is_same y to ≡ false

-- these are what they were
abbrev pub Stay : ℕ → Option Opnd → Contents → Contents → Type 0
Stay n dest s s1 =
    (y : Opnd) → IsOld n y → IsOther dest y → s1 (Operand y) ≡ s (Operand y)

-- the operand that is given is the one that was asked for, or one that stands then
abbrev pub IsThereAs : Option Opnd → ℕ → Opnd → Type 0
IsThereAs None n y = IsOld n y
IsThereAs (Some to) n y = y ≡ to

-- an operand with a word, after what may be drawn and written for it
pub record Result
    (act : Activation) (d : NumbersDrawn) (dest : Option Opnd) (s : Contents)
    (y : Opnd) (d1 : NumbersDrawn) (v : ℕ) (s1 : Contents) : Type 0 where
  pub holds : held act s1 (Operand y) ≡ Word v
  pub stay : Stay d.temp dest s s1
  pub there : IsThereAs dest d1.temp y
  pub drawn : d.temp ≤ d1.temp

-- a move more where an operand is asked for
abbrev pub extra : Option Opnd → ℕ
extra None = 0
extra (Some to) = 1

-- What an expression reads is seen by its instructions too: in memory and temporaries before the
-- pass, with so many slots.
pub record Sees (p : Place) (x : World) (m : Memory) (t : Temps) (slots : ℕ) : Type 0 where
  pub slots_are : p.function.slots ≡ slots
  pub loads : (a v : ℕ) → load m a ≡ Some v → load x.memory a ≡ Some v
  pub loads_byte : (a v : ℕ) → load_byte m a ≡ Some v → load_byte x.memory a ≡ Some v
  pub slot_loads :
      (k v : ℕ) → k < slots →
      load m (sub p.activation.base (4 * (k + 1))) ≡ Some v →
      x.memory.stack (slot p.activation.base k) ≡ Has v
  pub words :
      (e : Tx) (v : ℕ) → IsFlat e → HasWords e →
      flat_value p.code.literals p.activation.base m t e ≡ word v → IsWord v

-- where an expression is evaluated
pub record Scene : Type 0 where
  pub place : Place
  -- the world of the instructions
  pub world : World
  -- memory and temporaries of the flat code, and the slots of the function's frame
  pub memory : Memory
  pub temps : Temps
  pub slots : ℕ
  pub walks : Walks place
  pub sees : Sees place world memory temps slots

-- temporaries that are set stand in those of the same number
abbrev pub Known : Temps → NumbersDrawn → Contents → Type 0
Known t d s = (i v : ℕ) → t i ≡ Some v → (i < d.temp) × (s (Operand (temp i)) ≡ Word v)

-- a mark is gone to, or what is left goes on
abbrev pub fork : Place → World → Bool → ℕ → List Instr → Contents → Run Ran
fork p x b m rest s =
    (if b then jump m else skip)
    (around each_one p.code p.size p.floor p.room
    (code_going each_one p.code p.size p.floor p.room) p.function p.activation p.back)
    (λ w1 s1. goes p w1 rest s1) x s

-- where a comparison comes to: its mark where the word is 1, and what is left where it is 0
pub record Forked
    (p : Place) (x : World) (b : Bool) (m : ℕ) (rest : List Instr) (d : NumbersDrawn)
    (s : Contents) (e : Run Ran) : Type 0 where
  pub contents : Contents
  pub stay : Stay d.temp None s contents
  pub is : e ≡ fork p x b m rest contents

abbrev pub Compares :
    Place → World → Choice (Unit {0}) → NumbersDrawn → Contents → (k : ℕ) → Given →
    (mark : ℕ) → Type 0
Compares p x c d s k g m =
    (rest : List Instr) → IsPart p ((c d).code ++ rest) →
    Does x (λ w e. Forked p x (w == 1) m rest d s e) k (goes p x ((c d).code ++ rest) s) g

-- the value of a flat expression
abbrev pub value_in : Scene → Tx → Given
value_in a e = flat_value a.place.code.literals a.place.activation.base a.memory a.temps e

-- the units that it spends
abbrev pub spent_in : Scene → Tx → ℕ
spent_in a e =
    flat_spent Canonical a.place.code.literals a.place.activation.base a.memory a.temps e

-- The instructions of a flat expression come to its value, in at most the units that it spends, and
-- one more where an operand is asked for.
abbrev pub ExpressionsGiveValues : Type 0
ExpressionsGiveValues =
    (a : Scene) (e : Tx) (dest : Option Opnd) (d : NumbersDrawn) (s : Contents) →
    IsFlat e → HasWords e → IsAskable dest → Known a.temps d s →
    Behaves a.place a.world (expression a.slots e dest) d s
    (spent_in a e + extra dest) (value_in a e) (Result a.place.activation d dest s)

-- Those of a comparison come to its mark where the relation holds, and else go on, in at most two
-- units besides.
abbrev pub BranchesCompare : Type 0
BranchesCompare =
    (a : Scene) (r : Rel) (x y : Tx) (mark : ℕ) (d : NumbersDrawn) (s : Contents) →
    IsFlat x → IsFlat y → HasWords x → HasWords y → Known a.temps d s →
    Compares a.place a.world (branch a.slots r x y mark) d s
    (spent_in a x + after_word (value_in a x) (spent_in a y + after_word (value_in a y) 2))
    (onward (value_in a x) (λ u. onward (value_in a y) (λ v. word (flag (holds r u v))))) mark
