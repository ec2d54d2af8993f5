-- What memory and temporaries hold while a program runs: values as words, variables and parts of
-- objects by keys, so that no two stand in one place.
use Rattle.std.specs.Prelude.{ℕ, zero, suc, ◌+◌, ◌-◌, ◌*◌, ◌%◌, ◌^◌, ◌≡◌, ◌≢◌, ◌≤◌, ◌<◌, List, [], ◌∷◌}
use Rattle.std.specs.Prelude.{length, Option, Some, None, Bool, true, false, All, slice_get}
use Rattle.tg_machine_state.specs.State.{word_at, heap_base, most_room, stack_top}
use Rattle.tg_semantics.specs.Values.{Value, int, string, nil, reference, nothing, SourceWorld}
use Rattle.tg_semantics.specs.Values.{Object, fields, elements}
use Rattle.tg_symbols.specs.Tables.{looked_up}
use Rattle.tg_typecheck.specs.Types.{Ty, int_type, string_type, nil_type, none_type, record_type}
use Rattle.tg_typecheck.specs.Types.{array_type, Shape, record_shape, array_shape}
use Rattle.tg_tree.specs.Memory.{Memory, Cell, Closed, Unset, Has, load, slot}
use Rattle.tg_tree.specs.Actions.{World, Temps, Activation}
use Rattle.tg_tree.specs.Memory.{string_block}
use Rattle.tg_runtime_proof.specs.Memories.{IsMemory}
use Rattle.tg_translate_proof.specs.glue.Covered.{Keeping}

-- The heap and the statics, by addresses of words. Nothing is ever taken back here: it only grows.
pub data Stored : Type 0 where
  unknown : Stored
  word : ℕ → Stored  -- of a string, or an array's length
  part : (object index : ℕ) → Stored  -- a field or an element

-- what an object was made as, with its address
pub data Made : Type 0 where
  record_of : (type : ℕ) → Made
  array_of : (type count : ℕ) → Made

pub record Holdings : Type 0 where
  pub at : (address : ℕ) → Stored
  pub objects : List (ℕ × Made)

pub record GrowsTo (h g : Holdings) : Type 0 where
  pub at : (a : ℕ) → h.at a ≢ unknown → g.at a ≡ h.at a
  pub objects : (r : ℕ) (o : ℕ × Made) → slice_get h.objects r ≡ Some o → slice_get g.objects r ≡ Some o

-- a string is known at an address, by its words
pub record IsText (h : Holdings) (a : ℕ) (bytes : List ℕ) : Type 0 where
  pub aligned : a % 4 ≡ 0
  pub each : All (λ b. b < 256) bytes
  pub words :
      (k : ℕ) →
      4 * k < length (string_block bytes) →
      h.at (a + 4 * k) ≡ word (word_at (string_block bytes) (4 * k))

-- A value of a type, and the word that stands for it. Of no value nothing is said. Each kind is
-- told by the type, so a typed value is never of the wrong kind.
pub data Stands (h : Holdings) : Value → Ty → ℕ → Type 0 where
  an_int : (n : ℕ) → n < 2 ^ 32 → Stands h (int n) int_type n
  a_string : (bytes : List ℕ) (a : ℕ) → IsText h a bytes → Stands h (string bytes) string_type a
  a_nil : Stands h nil nil_type 0
  a_nil_record : (at : ℕ) → Stands h nil (record_type at) 0
  a_record :
      (r at a : ℕ) → slice_get h.objects r ≡ Some (a, record_of at) →
      Stands h (reference r) (record_type at) a
  an_array :
      (r at count a : ℕ) → slice_get h.objects r ≡ Some (a, array_of at count) →
      Stands h (reference r) (array_type at) a
  no_value : (v : ℕ) → Stands h nothing none_type v

-- the value of a part of an object
abbrev pub second : Option (ℕ × Value) → Option Value
second (Some p) = Some p.1
second None = None

abbrev pub part_in : Object → (index : ℕ) → Option Value
part_in (fields parts) i = second (slice_get parts i)
part_in (elements values) i = slice_get values i

-- Where the parts of an object stand, and what they are: those of a record have the names and types
-- of its shape, in their order, so that field k by the notes is the field of that name.
pub data IsLaid (h : Holdings) (shapes : List (ℕ × Shape)) (m : Memory) (r a : ℕ) :
    Made → Object → Type 0 where
  laid_record :
      (at : ℕ) (fs : List (ℕ × Ty)) (parts : List (ℕ × Value)) →
      looked_up at shapes ≡ Some (record_shape fs) →
      length parts ≡ length fs →
      ((k name : ℕ) (t : Ty) → slice_get fs k ≡ Some (name, t) →
      (v : Value) × (u : ℕ) × (slice_get parts k ≡ Some (name, v)) ×
      (h.at (a + 4 * k) ≡ part r k) × (load m (a + 4 * k) ≡ Some u) × Stands h v t u) →
      IsLaid h shapes m r a (record_of at) (fields parts)
  laid_array :
      (at : ℕ) (t : Ty) (values : List Value) →
      looked_up at shapes ≡ Some (array_shape t) →
      length values < 2 ^ 26 →
      h.at a ≡ word (length values) →
      ((k : ℕ) (v : Value) → slice_get values k ≡ Some v →
      (u : ℕ) × (h.at (a + 4 + 4 * k) ≡ part r k) × (load m (a + 4 + 4 * k) ≡ Some u) ×
      Stands h v t u) →
      IsLaid h shapes m r a (array_of at (length values)) (elements values)

-- The stack and the temporaries of open activations, by keys. These go back where a block ends.
pub data Key : Type 0 where
  cell : (address : ℕ) → Key
  temporary : (depth index : ℕ) → Key

pub data Content : Type 0 where
  nowhere : Content  -- not in use
  free : Content  -- a slot of an open frame
  variable : (place : ℕ) → Content
  kept : (place word : ℕ) → Content  -- a variable that nothing assigns meanwhile
  fixed : (word : ℕ) → Content  -- a static link, or an operand that is kept

abbrev pub Places : Type 0
Places = Key → Content

-- The invariant.
abbrev pub Word : Type 0
Word = Option ℕ

-- the temporaries of the open activations, by their depth, the program's body first
abbrev pub AllTemps : Type 0
AllTemps = (depth : ℕ) → Temps

-- what a key has: a word of memory, or a temporary
abbrev pub word_of : Memory → AllTemps → Key → Word
word_of m ts (cell a) = load m a
word_of m ts (temporary d i) = ts d i

abbrev pub HoldsVariable :
    Holdings → List Ty → SourceWorld → (place : ℕ) → (word : ℕ) → Type 0
HoldsVariable h types s l w =
    (v : Value) × (t : Ty) × (slice_get s.variables l ≡ Some v) × (slice_get types l ≡ Some t) ×
    Stands h v t w

abbrev pub HoldsAt : Holdings → List Ty → SourceWorld → Memory → AllTemps → Key → Content → Type 0
HoldsAt h types s m ts k nowhere = Unit {0}
HoldsAt h types s m ts (cell a) free = m.stack a ≢ Closed
HoldsAt h types s m ts (temporary d i) free = ⊥
HoldsAt h types s m ts k (variable l) =
    (w : ℕ) × (word_of m ts k ≡ Some w) × HoldsVariable h types s l w
HoldsAt h types s m ts (cell a) (kept l w) = ⊥
HoldsAt h types s m ts (temporary d i) (kept l w) = (ts d i ≡ Some w) × HoldsVariable h types s l w
HoldsAt h types s m ts k (fixed w) = word_of m ts k ≡ Some w

-- the place that a content is of
abbrev pub IsOf : (place : ℕ) → Content → Type 0
IsOf l (variable k) = k ≡ l
IsOf l (kept k w) = k ≡ l
IsOf l _ = ⊥

pub record Invariant (shapes : List (ℕ × Shape)) (room floor : ℕ) (places : Places) (h : Holdings)
    (types : List Ty) (s : SourceWorld) (w : World) (ts : AllTemps) : Type 0 where
  pub holds : (k : Key) → HoldsAt h types s w.memory ts k (places k)
  -- a variable stands in one place alone, and in the stack above the heap
  pub once : (k j : Key) (l : ℕ) → IsOf l (places k) → IsOf l (places j) → k ≡ j
  pub above : (a : ℕ) → places (cell a) ≢ nowhere → (floor ≤ a) × (a < stack_top) × (a % 4 ≡ 0)
  -- the heap and the statics
  pub words : (a v : ℕ) → h.at a ≡ word v → load w.memory a ≡ Some v
  pub once_laid : (a b r i : ℕ) → h.at a ≡ part r i → h.at b ≡ part r i → a ≡ b
  pub owned : (a r i : ℕ) → h.at a ≡ part r i → r < length h.objects
  pub laid :
      (r : ℕ) (o : ℕ × Made) → slice_get h.objects r ≡ Some o →
      (x : Object) × (slice_get s.objects r ≡ Some x) × IsLaid h shapes w.memory r o.0 o.1 x
  pub objects : length h.objects ≡ length s.objects
  pub variables : length types ≡ length s.variables
  pub known : (a : ℕ) → h.at a ≢ unknown → (a % 4 ≡ 0) × (a < heap_base + length w.memory.heap)
  pub addresses :
      (q r : ℕ) (o p : ℕ × Made) → q < r →
      slice_get h.objects q ≡ Some o → slice_get h.objects r ≡ Some p → o.0 < p.0
  pub in_heap :
      (r : ℕ) (o : ℕ × Made) → slice_get h.objects r ≡ Some o →
      (heap_base ≤ o.0) × (o.0 < heap_base + length w.memory.heap)
  -- memory is within its regions, and the same heap and input are left
  pub memory : IsMemory room w.memory
  pub heap : length w.memory.heap ≡ s.heap
  pub input : w.input ≡ s.input
  pub input_bytes : All (λ b. b < 256) w.input

-- An activation: where it stands, where the frames around it begin, by levels, which of these keep
-- their links in slots, and what all that is open weighs.
pub record Scene : Type 0 where
  pub activation : Activation
  pub level : ℕ
  pub depth : ℕ
  pub chain : (level : ℕ) → ℕ
  pub keeps : Keeping
  pub weight : ℕ
  pub slots : ℕ

pub record IsScene (floor limit : ℕ) (places : Places) (c : Scene) : Type 0 where
  pub here : c.chain c.level ≡ c.activation.base
  pub high : (l : ℕ) → l ≤ c.level → c.chain l ≤ stack_top
  pub room : (l : ℕ) → 0 < l → l ≤ c.level → 4 ≤ c.chain l
  pub aligned : (l : ℕ) → l ≤ c.level → c.chain l % 4 ≡ 0
  pub even : c.activation.size % 4 ≡ 0
  -- its own static link, and those of the functions around that keep theirs
  pub in_slot :
      0 < c.level → c.keeps c.level ≡ true →
      places (cell (slot c.activation.base 0)) ≡ fixed (c.chain (c.level - 1))
  pub in_temp :
      0 < c.level → c.keeps c.level ≡ false →
      places (temporary c.depth 0) ≡ fixed (c.chain (c.level - 1))
  pub links :
      (l : ℕ) → suc l < c.level → c.keeps (suc l) ≡ true →
      places (cell (slot (c.chain (suc l)) 0)) ≡ fixed (c.chain l)
  -- what is free yet
  pub deeper : (d i : ℕ) → c.depth < d → places (temporary d i) ≡ nowhere
  pub under :
      (a : ℕ) → a < c.activation.base - c.activation.size → places (cell a) ≡ nowhere
  -- the stack: the frame is within it, and what is open weighs at least what is taken of it; each
  -- open activation of a declared function takes 8 bytes at least
  pub fits : 4 * c.slots ≤ c.activation.size
  pub least : 8 ≤ c.activation.size
  pub within : floor + c.activation.size ≤ c.activation.base
  pub weighs : stack_top ≤ c.activation.base - c.activation.size + c.weight
  pub top : floor + limit ≡ stack_top
  pub deep : c.activation.base + 8 * c.depth ≤ stack_top
