-- What each function of the runtime does, by the meaning of programs: a call of it comes to this,
-- with at most so many units of work.
use Rattle.std.specs.Prelude.{ℕ, ◌+◌, ◌*◌, ◌^◌, ◌≡◌, ◌≤◌, ◌<◌, ◌==◌, List, [], ◌∷◌, ◌++◌, length}
use Rattle.std.specs.Prelude.{take, drop, replicate, Bool, true, false, if◌then◌else◌}
use Rattle.std.specs.Prelude.{nat_lt, ◌||◌}
use Rattle.std.specs.Str.{bytes_eq}
use Rattle.tg_machine_state.specs.declared.ends.RunEnd.TheVariants.{Exit, Break, HeapFull}
use Rattle.tg_base.specs.Words.{is_negative, signed}
use Rattle.tg_machine_state.specs.State.{heap_base}
use Rattle.tg_simulation.specs.Runs.{Run}
use Rattle.tg_simulation.specs.Ran.{Ran, Ended}
use Rattle.tg_simulation.specs.Bytes.{AreBytes}
use Rattle.tg_simulation.specs.laws.Simulating.{Comes}
use Rattle.tg_semantics.specs.Operators.{is_below, string_less, record_bytes}
use Rattle.tg_tree.specs.Tree.{Ts, Code}
use Rattle.tg_tree.specs.Units.{Trees, marked_entry_units}
use Rattle.tg_tree.specs.Actions.{World, Back, over, written}
use Rattle.tg_tree.specs.Running.{call_in, run_body, going}
use Rattle.tg_tree.specs.Links.{linked_going, run_linked_body}
use Rattle.tg_runtime.specs.declared.routines.Routine.{Routine}
use Rattle.tg_runtime.specs.declared.routines.Routine.TheVariants as routine
use Rattle.tg_runtime.specs.mirror.Labels.{label_of}
use Rattle.tg_runtime.specs.mirror.Routines.{minus_one}
use Rattle.tg_tree.specs.Memory.{string_block}
use Rattle.tg_runtime_proof.specs.Memories.{IsMemory, IsStringAt, array_block}
use Rattle.tg_runtime_proof.specs.Settings.{Host, HasRuntime, RunsBySteps}

-- a world with a block after the taken heap
abbrev pub with_block : List ℕ → World → World
with_block block w = record w { memory = record w.memory { heap = w.memory.heap ++ block } }

abbrev pub with_input : List ℕ → World → World
with_input input w = record w { input = input }

-- the order of strings as the runtime tells it
abbrev pub order_of : List ℕ → List ℕ → ℕ
order_of a b = if bytes_eq a b then 0 else if string_less a b then minus_one else 1

-- the byte that `ord` gives
abbrev pub first_of : List ℕ → ℕ
first_of [] = minus_one
first_of (b ∷ bytes) = b

-- whether `substring` has no such part
abbrev pub is_outside : List ℕ → (first count : ℕ) → Bool
is_outside bytes first count =
    is_negative first || is_negative count || nat_lt (length bytes) (first + count)

-- units of work that a call does besides its turns, at most, and those of a turn
abbrev pub call_units : ℕ
call_units = 160

abbrev pub turn_units : ℕ
turn_units = 36

module _ (host : Host) where
  abbrev pub calls : Routine → List ℕ → (top : ℕ) → Back → World → Run Ran
  calls one vs top back w =
      call_in marked_entry_units host.size host.floor host.runner host.functions (label_of one)
      vs top back w

  -- where its frame is within the stack, a call comes to this
  abbrev pub Serves : (turns : ℕ) → Routine → List ℕ → World → (Back → Run Ran) → Type 0
  Serves turns one vs w what =
      (top : ℕ) (back : Back) →
      host.floor + host.size (label_of one) ≤ top →
      Comes (call_units + turn_units * turns) (calls one vs top back w) (what back)

  -- a call makes a block in the heap, where there is room for it
  pub record Makes (turns : ℕ) (one : Routine) (vs : List ℕ) (w after : World) (block : List ℕ)
      : Type 0 where
    pub full :
        host.room < length w.memory.heap + length block →
        Serves 0 one vs w (λ back. over (Ended HeapFull) after)
    pub made :
        length w.memory.heap + length block ≤ host.room →
        Serves turns one vs w
        (λ back. back (heap_base + length w.memory.heap) (with_block block after))

  -- each function, in this world
  pub record ServesWell (w : World) : Type 0 where
    pub makes_record :
        (fields : ℕ) →
        Makes 0 routine.MakeRecord (record_bytes fields ∷ []) w w
        (replicate (record_bytes fields) 0)
    pub makes_array :
        (n v : ℕ) →
        is_negative n ≡ false → n < 2 ^ 32 → v < 2 ^ 32 →
        Makes n routine.MakeArray (n ∷ v ∷ []) w w (array_block n v)
    pub refuses_size :
        (n v : ℕ) →
        is_negative n ≡ true → n < 2 ^ 32 →
        Serves 0 routine.MakeArray (n ∷ v ∷ []) w (λ back. over (Ended (Break 6)) w)
    pub compares :
        (a b : ℕ) (x y : List ℕ) →
        IsStringAt w.memory a x → IsStringAt w.memory b y →
        Serves (length x + length y) routine.Compare (a ∷ b ∷ []) w
        (λ back. back (order_of x y) w)
    pub prints :
        (a : ℕ) (x : List ℕ) →
        IsStringAt w.memory a x →
        Serves (length x) routine.Print (a ∷ []) w (λ back. written x (back 0 w))
    pub flushes : Serves 0 routine.Flush [] w (λ back. back 0 w)
    pub reads :
        Makes 0 routine.Getchar [] w (with_input (drop 1 w.input) w) (string_block (take 1 w.input))
    pub gives_byte :
        (a : ℕ) (x : List ℕ) →
        IsStringAt w.memory a x →
        Serves 0 routine.Ord (a ∷ []) w (λ back. back (first_of x) w)
    pub makes_byte :
        (i : ℕ) →
        is_below i 256 ≡ true →
        Makes 0 routine.Chr (i ∷ []) w w (string_block (i ∷ []))
    pub refuses_byte :
        (i : ℕ) →
        is_below i 256 ≡ false → i < 2 ^ 32 →
        Serves 0 routine.Chr (i ∷ []) w (λ back. over (Ended (Break 4)) w)
    pub gives_size :
        (a : ℕ) (x : List ℕ) →
        IsStringAt w.memory a x →
        Serves 0 routine.Size (a ∷ []) w (λ back. back (length x) w)
    pub makes_part :
        (a first n : ℕ) (x : List ℕ) →
        IsStringAt w.memory a x → is_outside x first n ≡ false →
        Makes n routine.Substring (a ∷ first ∷ n ∷ []) w w (string_block (take n (drop first x)))
    pub refuses_part :
        (a first n : ℕ) (x : List ℕ) →
        IsStringAt w.memory a x → is_outside x first n ≡ true → first < 2 ^ 32 → n < 2 ^ 32 →
        Serves 0 routine.Substring (a ∷ first ∷ n ∷ []) w (λ back. over (Ended (Break 5)) w)
    pub makes_sum :
        (a b : ℕ) (x y : List ℕ) →
        IsStringAt w.memory a x → IsStringAt w.memory b y →
        Makes (length x + length y) routine.Concat (a ∷ b ∷ []) w w (string_block (x ++ y))
    pub negates :
        (i : ℕ) → Serves 0 routine.Not (i ∷ []) w (λ back. back (if i == 0 then 1 else 0) w)
    pub exits :
        (i : ℕ) → Serves 0 routine.Exit (i ∷ []) w (λ back. over (Ended (Exit (signed i))) w)

-- what is so at a call
pub record MayCall (host : Host) (w : World) : Type 0 where
  pub has : HasRuntime host.functions
  pub memory : IsMemory host.room w.memory
  pub input : AreBytes w.input

-- The runtime serves, in any code that has it, whatever runs its bodies by steps, and for frames of
-- any size.
abbrev pub RuntimeIsCorrect : Type 0
RuntimeIsCorrect = (host : Host) (w : World) → RunsBySteps host → MayCall host w → ServesWell host w

-- A code as it runs, with frames of these sizes, a floor of the stack and the heap's room: without
-- static links, and with them, where each function has this level.

abbrev pub trees_host : Code Ts → (size : ℕ → ℕ) → (floor room : ℕ) → Host
trees_host code size floor room = record {
  literals = code.literals;
  functions = code.functions;
  size = size;
  floor = floor;
  room = room;
  runner = run_body Trees code size floor room (going Trees code size floor room);
}

abbrev pub linked_host : Code Ts → (size : ℕ → ℕ) → (floor room : ℕ) → (level : ℕ → ℕ) → Host
linked_host code size floor room level = record {
  literals = code.literals;
  functions = code.functions;
  size = size;
  floor = floor;
  room = room;
  runner =
      run_linked_body Trees code size floor room level
      (linked_going Trees code size floor room level) [];
}

-- so it serves each call in a run of trees, and in one with static links
abbrev pub TreesAreServed : Type 0
TreesAreServed =
    (code : Code Ts) (size : ℕ → ℕ) (floor room : ℕ) (w : World) →
    MayCall (trees_host code size floor room) w →
    ServesWell (trees_host code size floor room) w

abbrev pub LinkedAreServed : Type 0
LinkedAreServed =
    (code : Code Ts) (size : ℕ → ℕ) (floor room : ℕ) (level : ℕ → ℕ) (w : World) →
    MayCall (linked_host code size floor room level) w →
    ServesWell (linked_host code size floor room level) w
