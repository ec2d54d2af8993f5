-- When what instructions do is what flat code does: at a call, at a return, and at the entry of a
-- body.
use Rattle.std.specs.Prelude.{ℕ, ◌+◌, ◌-◌, ◌*◌, ◌%◌, ◌==◌, ◌&&◌, ◌||◌, not, ◌≡◌, ◌≤◌, ◌<◌, List, []}
use Rattle.std.specs.Prelude.{◌∷◌, length, Bool, true, Option, Some, nat_lt, nat_le}
use Rattle.tg_machine_state.specs.State.{stack_top}
use Rattle.tg_base.specs.declared.ids.Temp.{Temp}
use Rattle.tg_frame.specs.declared.accesses.Access.{Access}
use Rattle.tg_frame.specs.declared.accesses.Access.TheVariants.{InTemp, InFrame}
use Rattle.tg_simulation.specs.Runs.{Run}
use Rattle.tg_simulation.specs.Ran.{Ran}
use Rattle.tg_simulation.specs.laws.Simulating.{Simulates}
use Rattle.tg_tree.specs.Tree as tree
use Rattle.tg_tree.specs.Tree.{Linear, Function, Literal, Code}
use Rattle.tg_tree.specs.declared.operators.Bin.TheVariants.{MulHigh}
use Rattle.tg_tree.specs.Memory.{Closed, Unset, Has, Memory, put, slot, statics_of}
use Rattle.tg_tree.specs.Units.{parameter_units}
use Rattle.tg_tree.specs.Operators.{word}
use Rattle.tg_tree.specs.FlatValue.{flat_value}
use Rattle.tg_tree.specs.Actions.{World, Temps, set_temp, Activation, Back as TreeBack}
use Rattle.tg_tree.specs.Meaning.{Enter as TreeEnter}
use Rattle.tg_tree.specs.Flat.{FlatPoint, flat_going, enter_flat}
use Rattle.tg_tree.specs.Running.{outermost, with_slots, without_slots, no_temps}
use Rattle.tg_instr.specs.declared.operands.Opnd.TheVariants.{Reg}
use Rattle.tg_instr.specs.declared.instr.Instr.{Instr}
use Rattle.tg_instr.specs.Shapes.{Operand, Hi}
use Rattle.tg_instr.specs.Contents.{Word, Found, Contents, at_entry}
use Rattle.tg_instr.specs.Meaning.{Back, Enter}
use Rattle.tg_instr.specs.Running.{CodePoint, code_going, enter_code, with_frame}
use Rattle.tg_munch.specs.mirror.Munching.{temp}
use Rattle.tg_munch.specs.mirror.Bodies.{munched, outs}
use Rattle.tg_munch.specs.laws.Lengths.{kept_count}
use Rattle.tg_munch.specs.mirror.Products.{leaves_product}
use Rattle.tg_munch_proof.specs.glue.Places.{each_one}
use Rattle.tg_munch_proof.specs.Words.{IsWord}
use Rattle.tg_munch_proof.specs.laws.Chosen.{chosen, chosen_code}
use Rattle.tg_munch_proof.specs.glue.Outlines.{Outline, Alike, IsTop, IsAbove}

-- an argument: in one of $a0 to $a3, or above the frame address of who is called
pub record IsPassed (top : ℕ) (s : Contents) (m : Memory) (i v : ℕ) : Type 0 where
  pub low : i < 4 → s (Operand (Reg (4 + i))) ≡ Word v
  pub high : 4 ≤ i → m.stack (top + 4 * (i - 4)) ≡ Has v
  pub word : IsWord v

-- arguments from one on
abbrev pub ArePassed : (top : ℕ) → Contents → Memory → (i : ℕ) → List ℕ → Type 0
ArePassed top s m i [] = Unit {0}
ArePassed top s m i (v ∷ vs) =
    IsPassed top s m i v × ArePassed top s m (i + 1) vs

-- temporaries that are set are below so many, and stand in those of the same number
abbrev pub TempsAlike : (temps : ℕ) → Temps → Contents → Type 0
TempsAlike temps t s =
    (i v : ℕ) → t i ≡ Some v → (i < temps) × IsWord v × (s (Operand (temp i)) ≡ Word v)

-- the registers that are given back stand in temporaries from one on
abbrev pub AreKept : (keeps : ℕ) → List ℕ → Contents → Type 0
AreKept keeps [] s = Unit {0}
AreKept keeps (r ∷ rs) s =
    (s (Operand (temp keeps)) ≡ Found r) × AreKept (keeps + 1) rs s

-- after a product of two sides its upper word is there, in hi
abbrev pub HiIsThere :
    (before : Option Linear) → List Literal → (base : ℕ) → Memory → Temps → Contents → Type 0
HiIsThere before ls base m t s =
    (u v : tree.Tx) →
    leaves_product before u v ≡ true →
    (p : ℕ) × ((flat_value ls base m t (tree.Binary MulHigh u v) ≡ word p) × (s Hi ≡ Word p))

-- the words at the low end of a frame
abbrev pub is_low : (low words a : ℕ) → Bool
is_low low n a = nat_le low a && (nat_lt a (low + 4 * n) && (a - low) % 4 == 0)

-- the slots below a frame address
abbrev pub is_slot : (base slots a : ℕ) → Bool
is_slot base n a = nat_le (base - 4 * n) a && (nat_lt a base && (base - a) % 4 == 0)

-- within an activation
abbrev pub outline_in : Function (List Linear) → Activation → Outline → Outline
outline_in f act o = record {
  low = act.base - act.size;
  shut = λ a.
      (nat_le (act.base - act.size) a && (nat_lt a act.base && not (is_slot act.base f.slots a)))
      || o.shut a;
  for_arguments = λ a. is_low (act.base - act.size) (outs f.body) a || o.for_arguments a;
}

-- where the parameters' homes are given the arguments, one after another, this is what they make of
-- a world and of temporaries
pub data IsPlaced (base : ℕ) : List Access → List ℕ → World → Temps → World → Temps → Type 0 where
  placed_all : (w : World) (t : Temps) → IsPlaced base [] [] w t w t
  placed_in_temp :
      (i : Temp) (v : ℕ) (homes : List Access) (vs : List ℕ) (w w1 : World) (t t1 : Temps) →
      IsPlaced base homes vs w (set_temp i.0 v t) w1 t1 →
      IsPlaced base (InTemp i ∷ homes) (v ∷ vs) w t w1 t1
  placed_in_frame :
      (k v : ℕ) (homes : List Access) (vs : List ℕ) (w w1 : World) (t t1 : Temps) →
      IsPlaced base homes vs (record w { memory = put (slot base k) (Has v) w.memory }) t w1 t1 →
      IsPlaced base (InFrame k ∷ homes) (v ∷ vs) w t w1 t1

-- a program of flat code, with the sizes of its frames, the stack's floor and the heap's room
pub record Program : Type 0 where
  pub code : Code (List Linear)
  pub size : ℕ → ℕ
  pub floor : ℕ
  pub room : ℕ

module _ (program : Program) where
  -- its instructions
  abbrev pub code_behind : Code (List Instr)
  code_behind = chosen_code program.code

  -- bytes in statics
  abbrev pub most_statics : ℕ
  most_statics = length (statics_of program.code.literals)

  -- worlds that are alike, as large as its own
  abbrev pub AreAlike : Outline → World → World → Type 0
  AreAlike = Alike most_statics program.room

  -- its runs from a point on
  abbrev pub going : FlatPoint → Run Ran
  going = flat_going program.code program.size program.floor program.room

  -- and those of its instructions
  abbrev pub going_behind : CodePoint → Run Ran
  going_behind = code_going each_one code_behind program.size program.floor program.room

  -- its calls
  abbrev pub enters : TreeEnter
  enters = enter_flat program.code program.size program.floor program.room going

  -- and those of its instructions
  abbrev pub enters_behind : Enter
  enters_behind =
      enter_code each_one code_behind program.size program.floor program.room going_behind

  -- after a return
  abbrev pub BacksMatch : (r n : ℕ) → Outline → TreeBack → Back → Type 0
  BacksMatch r n o back back' =
      (v : ℕ) (w x : World) →
      IsWord v → AreAlike o w x →
      Simulates 1 r n (back v w) (back' (Word v) x)

  -- calls: what is open lies above the frame that is laid
  abbrev pub EntersMatch : (n : ℕ) → Type 0
  EntersMatch n =
      (label : ℕ) (vs : List ℕ) (s : Contents) (o : Outline)
      (back : TreeBack) (back' : Back) (w x : World) (r : ℕ) →
      IsTop program.floor o.low (length vs) →
      IsAbove o.low o →
      ArePassed o.low s x.memory 0 vs →
      AreAlike o w x →
      BacksMatch r n o back back' →
      Simulates 1 r n
      (enters label vs o.low back w) (enters_behind label (at_entry s) o.low back' x)

  -- an activation of a function, above whose frame address so much is open
  pub record IsActivation (f : Function (List Linear)) (act : Activation) (o : Outline) :
      Type 0 where
    pub frame : act.size ≡ program.size f.label
    pub fits : program.floor + act.size ≤ act.base
    pub words : act.base % 4 ≡ 0
    pub below : act.base ≤ stack_top
    pub low : o.low ≡ act.base
    pub apart : IsAbove act.base o

  -- A body from its entry on, where its parameters were placed: what is kept and each parameter are
  -- paid by the call, or added.
  abbrev pub BodyMatches : Function (List Linear) → Type 0
  BodyMatches f =
      (n r : ℕ) (vs : List ℕ) (s : Contents) (act : Activation) (o : Outline)
      (back : TreeBack) (back' : Back) (w x w1 : World) (t1 : Temps) →
      ((m : ℕ) → m ≤ n → EntersMatch m) →
      IsActivation f act o →
      IsTop program.floor act.base (length vs) →
      ArePassed act.base s x.memory 0 vs →
      AreAlike o w x →
      BacksMatch r n o back back' →
      IsPlaced act.base f.params vs (with_slots f act.base w) no_temps w1 t1 →
      Simulates 1 (r + (kept_count + parameter_units * length vs)) n
      (going (record {
        whole = f.body;
        rest = f.body;
        around = outermost act (λ v w2. back v (without_slots f act.base w2));
        world = w1;
        temps = t1;
      }))
      (going_behind (record {
        function = chosen f;
        rest = (munched f).code;
        activation = act;
        back = λ c x2. back' c (with_frame (chosen f) act Closed x2);
        world = with_frame (chosen f) act Unset x;
        contents = at_entry s;
      }))
