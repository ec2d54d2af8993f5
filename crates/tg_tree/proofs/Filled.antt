-- A run that doesn't go wrong is the same where more is set.
use Rattle.std.proofs.Common.{◌≡◌, ℕ, zero, suc, ◌+◌, ◌%◌, ◌^◌, ◌<◌, ◌≤◌, List, [], ◌∷◌, length, Bool, true, false, Option, Some, None, refl, sym, ap, arith}
use Rattle.std.specs.Prelude.{◌≢◌, ◌==◌, nat_lt, if◌then◌else◌}
use Rattle.tg_machine_state.specs.State.{heap_base}
use Rattle.tg_simulation.specs.Runs.{Run}
use Rattle.tg_simulation.specs.Ran.{Ran, Stop, WantsFuel, Wrong, writes, works}
use Rattle.tg_tree.specs.Memory.{Memory, Cell, Closed, Unset, Has, Kept, Spot, in_statics, in_heap, elsewhere, spot, cell_word, cell_byte, word_in}
use Rattle.tg_tree.specs.Memory.{byte_in, load, load_byte, put_open, put_byte, with_byte, store_in, store_byte_in, store, store_byte}
use Rattle.tg_tree.specs.Actions.{World, Back, over, with_word, with_memory, with_text, before, text_from, take_heap, read_byte}
use Rattle.tg_tree.specs.Running.{with_fuel}
use Rattle.tg_tree.specs.Holding as holding
use Rattle.tg_tree.specs.Holding.{HoldsAtLeast, unset, set, CellHoldsAtLeast, not_stored, stored_to, stored, kept, TempsHoldAtLeast}
use Rattle.tg_tree.specs.Holding.{WorldHoldsAtLeast, in_stack}
use Rattle.tg_tree.proofs.Relating.{Related, Keeps, AlikeBack, AlikeWorld, with_put}

-- as far as so much fuel
abbrev pub Filled : Related
Filled n w c d = (i : ℕ) → i ≤ n → (c i).stop ≢ Wrong → d i ≡ c i

-- a memory and an input, with these cells
abbrev world : (statics heap input : List ℕ) → (ℕ → Cell) → World
world statics heap input cells = record { memory = record { statics = statics; heap = heap; stack = cells }; input = input }

goes_wrong : (n : ℕ) (w : World) (d : Run Ran) → Filled n w (over Wrong w) d
goes_wrong n w d i le ne = absurd (ne refl)

filled_word : (n : ℕ) (o o' : Option ℕ) (w x : World) (p q : ℕ → Run Ran) → HoldsAtLeast o o' → ((v : ℕ) → Filled n w (p v) (q v)) →
    Filled n w (with_word o w p) (with_word o' x q)
filled_word n o o' w x p q (unset u) h = goes_wrong n w (with_word u x q)
filled_word n o o' w x p q (set v) h = h v

filled_either : (n : ℕ) (b : Bool) (w : World) (p q p' q' : Run Ran) → Filled n w p p' → Filled n w q q' →
    Filled n w (if b then p else q) (if b then p' else q')
filled_either n true w p q p' q' h k = h
filled_either n false w p q p' q' h k = k

-- words and bytes of cells
cell_words : (c c' : Cell) → CellHoldsAtLeast c c' → HoldsAtLeast (cell_word c) (cell_word c')
cell_words c c' (holding.elsewhere d) = unset (cell_word d)
cell_words c c' not_stored = unset None
cell_words c c' (stored_to v) = unset (Some v)
cell_words c c' (stored v) = set v
cell_words c c' (kept r) = unset None

cell_bytes : (k : ℕ) (c c' : Cell) → CellHoldsAtLeast c c' → HoldsAtLeast (cell_byte c k) (cell_byte c' k)
cell_bytes k c c' (holding.elsewhere d) = unset (cell_byte d k)
cell_bytes k c c' not_stored = unset None
cell_bytes k c c' (stored_to v) = unset (cell_byte (Has v) k)
cell_bytes k c c' (stored v) = set _
cell_bytes k c c' (kept r) = unset None

same_cell : (c : Cell) → CellHoldsAtLeast c c
same_cell Closed = holding.elsewhere Closed
same_cell Unset = not_stored
same_cell (Has v) = stored v
same_cell (Kept r) = kept r

put_cell : (b : Bool) (c d p q : Cell) → CellHoldsAtLeast c d → CellHoldsAtLeast p q → CellHoldsAtLeast (if b then c else p) (if b then d else q)
put_cell true c d p q h k = h
put_cell false c d p q h k = k

if_holds : (b : Bool) (o o' : Option ℕ) → HoldsAtLeast o o' → HoldsAtLeast (if b then o else None) (if b then o' else None)
if_holds true o o' h = h
if_holds false o o' h = unset None

module _ (statics heap input : List ℕ) (cells cells' : ℕ → Cell) (more : (a : ℕ) → CellHoldsAtLeast (cells a) (cells' a)) where
  abbrev first : World
  first = world statics heap input cells

  abbrev second : World
  second = world statics heap input cells'

  word_spot : (a : ℕ) (s : Spot) → HoldsAtLeast (word_in first.memory a s) (word_in second.memory a s)
  word_spot a (in_statics i) = set _
  word_spot a (in_heap i) = set _
  word_spot a elsewhere = cell_words (cells a) (cells' a) (more a)

  byte_spot : (a : ℕ) (s : Spot) → HoldsAtLeast (byte_in first.memory a s) (byte_in second.memory a s)
  byte_spot a (in_statics i) = set _
  byte_spot a (in_heap i) = set _
  byte_spot a elsewhere = cell_bytes (a % 4) _ _ (more _)

  loaded : (a : ℕ) → HoldsAtLeast (load first.memory a) (load second.memory a)
  loaded a = if_holds (a % 4 == 0) _ _ (word_spot a (spot first.memory a))

  byte_loaded : (a : ℕ) → HoldsAtLeast (load_byte first.memory a) (load_byte second.memory a)
  byte_loaded a = byte_spot a (spot first.memory a)

  is_put : (a : ℕ) (c d : Cell) → CellHoldsAtLeast c d → WorldHoldsAtLeast (with_put a c first) (with_put a d second)
  is_put a c d h = in_stack statics heap input _ _ (λ b. put_cell (b == a) c d (cells b) (cells' b) h (more b))

  module _ (n : ℕ) (p q : World → Run Ran) (h : AlikeWorld Filled WorldHoldsAtLeast TempsHoldAtLeast n p q) where
    opened : (a v : ℕ) (c c' : Cell) → CellHoldsAtLeast c c' → Filled n first (with_memory (put_open c a v first.memory) first p)
        (with_memory (put_open c' a v second.memory) second q)
    opened a v c c' (holding.elsewhere d) = goes_wrong n first _
    opened a v c c' not_stored = h _ _ (is_put a (Has v) (Has v) (stored v))
    opened a v c c' (stored_to u) = h _ _ (is_put a (Has v) (Has v) (stored v))
    opened a v c c' (stored u) = h _ _ (is_put a (Has v) (Has v) (stored v))
    opened a v c c' (kept r) = h _ _ (is_put a (Has v) (Has v) (stored v))

    store_spot : (a v : ℕ) (s : Spot) → Filled n first (with_memory (store_in first.memory a s v) first p) (with_memory (store_in second.memory a s v) second q)
    store_spot a v (in_statics i) = h _ _ (in_stack _ heap input cells cells' more)
    store_spot a v (in_heap i) = h _ _ (in_stack statics _ input cells cells' more)
    store_spot a v elsewhere = opened a v (cells a) (cells' a) (more a)

    store_if : (b : Bool) (o o' : Option Memory) → Filled n first (with_memory o first p) (with_memory o' second q) →
        Filled n first (with_memory (if b then o else None) first p) (with_memory (if b then o' else None) second q)
    store_if true o o' k = k
    store_if false o o' k = goes_wrong n first _

    filled_store : (a v : ℕ) → Filled n first (with_memory (store first.memory a v) first p) (with_memory (store second.memory a v) second q)
    filled_store a v = store_if (a % 4 == 0) _ _ (store_spot a v (spot first.memory a))

    byte_opened : (a k v : ℕ) (c c' : Cell) → CellHoldsAtLeast c c' →
        Filled n first (with_memory (put_byte c a k v first.memory) first p) (with_memory (put_byte c' a k v second.memory) second q)
    byte_opened a k v c c' (holding.elsewhere d) = goes_wrong n first _
    byte_opened a k v c c' not_stored = goes_wrong n first _
    byte_opened a k v c c' (stored_to u) = goes_wrong n first _
    byte_opened a k v c c' (stored u) = h _ _ (is_put a (Has (with_byte u k v)) (Has (with_byte u k v)) (stored (with_byte u k v)))
    byte_opened a k v c c' (kept r) = goes_wrong n first _

    byte_store_spot : (a v : ℕ) (s : Spot) → Filled n first (with_memory (store_byte_in first.memory a s v) first p)
        (with_memory (store_byte_in second.memory a s v) second q)
    byte_store_spot a v (in_statics i) = h _ _ (in_stack _ heap input cells cells' more)
    byte_store_spot a v (in_heap i) = h _ _ (in_stack statics _ input cells cells' more)
    byte_store_spot a v elsewhere = byte_opened _ (a % 4) v _ _ (more _)

    filled_store_byte : (a v : ℕ) → Filled n first (with_memory (store_byte first.memory a v) first p) (with_memory (store_byte second.memory a v) second q)
    filled_store_byte a v = byte_store_spot a v (spot first.memory a)

  -- texts
  pub data TextToo : Option (List ℕ) → Option (List ℕ) → Type 0 where
    no_text : (o : Option (List ℕ)) → TextToo None o
    text : (bytes : List ℕ) → TextToo (Some bytes) (Some bytes)

  abbrev text_step : Option ℕ → Option (List ℕ) → Option (List ℕ)
  text_step o rest =
      elim o as (λ _. Option (List ℕ)) [
        | Some b ↦ elim (b == 0) as (λ _. Option (List ℕ)) [ true ↦ Some [] | false ↦ before b rest ]
        | None ↦ None
      ]

  before_too : (b : ℕ) (o o' : Option (List ℕ)) → TextToo o o' → TextToo (before b o) (before b o')
  before_too b o o' (no_text p) = no_text (before b p)
  before_too b o o' (text bytes) = text (b ∷ bytes)

  ended_too : (z : Bool) (b : ℕ) (o o' : Option (List ℕ)) → TextToo o o' →
      TextToo (elim z as (λ _. Option (List ℕ)) [ true ↦ Some [] | false ↦ before b o ])
      (elim z as (λ _. Option (List ℕ)) [ true ↦ Some [] | false ↦ before b o' ])
  ended_too true b o o' h = text []
  ended_too false b o o' h = before_too b o o' h

  step_too : (o o' : Option ℕ) (r r' : Option (List ℕ)) → HoldsAtLeast o o' → TextToo r r' → TextToo (text_step o r) (text_step o' r')
  step_too o o' r r' (unset u) h = no_text (text_step u r')
  step_too o o' r r' (set b) h = ended_too (b == 0) b r r' h

  text_too : (k a : ℕ) → TextToo (text_from k first.memory a) (text_from k second.memory a)
  text_too zero a = no_text None
  text_too (suc k) a = step_too (load_byte first.memory a) (load_byte second.memory a) (text_from k first.memory (a + 1))
      (text_from k second.memory (a + 1)) (byte_loaded a) (text_too k (a + 1))

  write_too : (n : ℕ) (o o' : Option (List ℕ)) (c d : Run Ran) → TextToo o o' → Filled n first c d →
      Filled n first (with_text o first c) (with_text o' second d)
  write_too n o o' c d (no_text p) h = goes_wrong n first _
  write_too n o o' c d (text bytes) h = λ i le ne. ap (writes bytes) (h i le ne)

filled_stop : (n : ℕ) (s : Stop) (w x : World) → WorldHoldsAtLeast w x → Filled n w (over s w) (over s x)
filled_stop n s w x (in_stack statics heap input c c' m) i le ne = refl

turns : (n : ℕ) (w x : World) (c d : Run Ran) → w.input ≡ x.input → ((m : ℕ) → m < n → Filled m w c d) → Filled n w (with_fuel w c) (with_fuel x d)
turns n w x c d e h zero le ne = ap (λ input. record { output = []; input = input; stop = WantsFuel; work = 0 }) (sym e)
turns n w x c d e h (suc i) le ne = h i (omega arith) i (omega arith) ne

filled_fuel : (n : ℕ) (w x : World) (c d : Run Ran) → WorldHoldsAtLeast w x → ((m : ℕ) → m < n → Filled m w c d) → Filled n w (with_fuel w c) (with_fuel x d)
filled_fuel n w x c d (in_stack statics heap input p q m) h = turns n (world statics heap input p) (world statics heap input q) c d refl h

filled_load : (n a : ℕ) (w x : World) (p q : ℕ → Run Ran) → WorldHoldsAtLeast w x → ((v : ℕ) → Filled n w (p v) (q v)) →
    Filled n w (with_word (load w.memory a) w p) (with_word (load x.memory a) x q)
filled_load n a w x p q (in_stack statics heap input c c' m) h = filled_word n _ _ _ _ p q (loaded statics heap input c c' m a) h

filled_load_byte : (n a : ℕ) (w x : World) (p q : ℕ → Run Ran) → WorldHoldsAtLeast w x → ((v : ℕ) → Filled n w (p v) (q v)) →
    Filled n w (with_word (load_byte w.memory a) w p) (with_word (load_byte x.memory a) x q)
filled_load_byte n a w x p q (in_stack statics heap input c c' m) h = filled_word n _ _ _ _ p q (byte_loaded statics heap input c c' m a) h

filled_stores : (n a v : ℕ) (w x : World) (p q : World → Run Ran) → WorldHoldsAtLeast w x →
    AlikeWorld Filled WorldHoldsAtLeast TempsHoldAtLeast n p q → Filled n w (with_memory (store w.memory a v) w p) (with_memory (store x.memory a v) x q)
filled_stores n a v w x p q (in_stack statics heap input c c' m) h = filled_store statics heap input c c' m n p q h a v

filled_store_bytes : (n a v : ℕ) (w x : World) (p q : World → Run Ran) → WorldHoldsAtLeast w x →
    AlikeWorld Filled WorldHoldsAtLeast TempsHoldAtLeast n p q → Filled n w (with_memory (store_byte w.memory a v) w p)
    (with_memory (store_byte x.memory a v) x q)
filled_store_bytes n a v w x p q (in_stack statics heap input c c' m) h = filled_store_byte statics heap input c c' m n p q h a v

filled_text : (n k a : ℕ) (w x : World) (c d : Run Ran) → WorldHoldsAtLeast w x → Filled n w c d →
    Filled n w (with_text (text_from k w.memory a) w c) (with_text (text_from k x.memory a) x d)
filled_text n k a w x c d (in_stack statics heap input p q m) h =
    write_too statics heap input p q m n (text_from k (first statics heap input p q m).memory a)
    (text_from k (second statics heap input p q m).memory a) c d (text_too statics heap input p q m k a) h

filled_heap : (n room k : ℕ) (w x : World) (p q : Back) → WorldHoldsAtLeast w x → AlikeBack Filled WorldHoldsAtLeast TempsHoldAtLeast n p q →
    Filled n w (take_heap room k w p) (take_heap room k x q)
filled_heap n room k w x p q (in_stack statics heap input c c' m) h =
    filled_either n (nat_lt room (length heap + k)) (world statics heap input c) _ _ _ _ (λ i le ne. refl)
    (h (heap_base + length heap) _ _ (in_stack statics _ input c c' m))

filled_input : (n : ℕ) (statics heap input : List ℕ) (c c' : ℕ → Cell) → ((a : ℕ) → CellHoldsAtLeast (c a) (c' a)) →
    (p q : Back) → AlikeBack Filled WorldHoldsAtLeast TempsHoldAtLeast n p q → Filled n (world statics heap input c)
    (read_byte input (world statics heap input c) p) (read_byte input (world statics heap input c') q)
filled_input n statics heap [] c c' m p q h = h 4294967295 _ _ (in_stack statics heap [] c c' m)
filled_input n statics heap (b ∷ rest) c c' m p q h = h b _ _ (in_stack statics heap rest c c' m)

filled_reads : (n : ℕ) (w x : World) (p q : Back) → WorldHoldsAtLeast w x → AlikeBack Filled WorldHoldsAtLeast TempsHoldAtLeast n p q →
    Filled n w (read_byte w.input w p) (read_byte x.input x q)
filled_reads n w x p q (in_stack statics heap input c c' m) h = filled_input n statics heap input c c' m p q h

filled_puts : (a : ℕ) (c : Cell) (w x : World) → WorldHoldsAtLeast w x → WorldHoldsAtLeast (with_put a c w) (with_put a c x)
filled_puts a c w x (in_stack statics heap input p q m) = is_put statics heap input p q m a c c (same_cell c)

set_word : (b : Bool) (v : ℕ) (o o' : Option ℕ) → HoldsAtLeast o o' → HoldsAtLeast (if b then Some v else o) (if b then Some v else o')
set_word true v o o' h = set v
set_word false v o o' h = h

pub filled_keeps : Keeps Filled WorldHoldsAtLeast TempsHoldAtLeast
filled_keeps =
    record {
      stop = filled_stop;
      write = λ n bytes w c d h i le ne. ap (writes bytes) (h i le ne);
      work = λ n k w c d h i le ne. ap (works k) (h i le ne);
      fuel = filled_fuel;
      down = λ m n w c d le h i li ne. h i (omega arith) ne;
      later = λ n w v c d l h. h;
      temp = λ n i w x t u p q r s h. filled_word n (t i) (u i) w x p q (s i) h;
      loads = filled_load;
      load_bytes = filled_load_byte;
      stores = filled_stores;
      store_bytes = filled_store_bytes;
      text = λ n a w x c d r h. filled_text n (2 ^ 32) a w x c d r h;
      heap = filled_heap;
      reads = filled_reads;
      puts = filled_puts;
      sets = λ i v t u s j. set_word (j == i) v (t j) (u j) (s j);
      none = λ i. unset None;
    }
