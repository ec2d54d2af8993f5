-- Choosing instructions: what it gives, the instructions that are written, and the temporaries and
-- marks that are drawn.
use Rattle.std.specs.Prelude.{ℕ, ◌+◌, List, [], ◌∷◌, ◌++◌, Option, Some, None}
use Rattle.tg_instr.specs.declared.operands.Opnd.{Opnd}
use Rattle.tg_instr.specs.declared.operands.Opnd.TheVariants.{Temp}
use Rattle.tg_instr.specs.declared.instr.Instr.{Instr}

-- the next temporary and the next mark
pub record NumbersDrawn : Type 0 where
  pub temp : ℕ
  pub mark : ℕ

pub record Chosen (A : Type 0) : Type 0 where
  pub value : A
  pub code : List Instr
  pub drawn : NumbersDrawn

abbrev pub Choice : Type 0 → Type 0
Choice A = NumbersDrawn → Chosen A

infixl 10 ◌>>=◌
infixl 10 ◌>>◌
unfoldable pub ◌>>=◌ : {A B : Type 0} → Choice A → (A → Choice B) → Choice B
◌>>=◌ first onward d =
    let one = first d in
    let two = onward one.value one.drawn in
    record { value = two.value; code = one.code ++ two.code; drawn = two.drawn }

abbrev pub ◌>>◌ : {A B : Type 0} → Choice A → Choice B → Choice B
◌>>◌ first onward = first >>= (λ _. onward)

abbrev pub give : {A : Type 0} → A → Choice A
give a d = record { value = a; code = []; drawn = d }

-- writes an instruction
abbrev pub put : Instr → Choice (Unit {0})
put one d = record { value = tt; code = one ∷ []; drawn = d }

abbrev pub fresh : Choice Opnd
fresh d =
    record {
      value = Temp (record { 0 = d.temp });
      code = [];
      drawn = record d { temp = d.temp + 1 };
    }

abbrev pub fresh_mark : Choice ℕ
fresh_mark d = record { value = d.mark; code = []; drawn = record d { mark = d.mark + 1 } }

-- the operand that is asked for, or a temporary of its own
abbrev pub choose : Option Opnd → Choice Opnd
choose (Some x) = give x
choose None = fresh

-- an instruction that defines an operand, which it gives
abbrev pub defining : Instr → Opnd → Choice Opnd
defining one to d = record { value = to; code = one ∷ []; drawn = d }

-- such an instruction after another
abbrev pub defining_behind : (first one : Instr) → Opnd → Choice Opnd
defining_behind first one to = put first >> defining one to
