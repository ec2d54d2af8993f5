-- Stores into worlds that are alike: what flat code may store its instructions may, and the worlds stay so.
use Rattle.std.proofs.Common.{◌≡◌, ◌≢◌, ◌<◌, ℕ, zero, suc, ◌-◌, ◌%◌, List, length, Bool, true, false, refl}
use Rattle.std.proofs.Common.{sym, ap, ◌∙◌, subst, arith}
use Rattle.std.proofs.lemmas.Bool.{eqb-true}
use Rattle.std.proofs.lemmas.List.Elements.{All-set}
use Rattle.std.proofs.lemmas.List.{length-set}
use Rattle.std.specs.Prelude.{◌==◌, Option, Some, None, slice_set, if◌then◌else◌}
use Rattle.tg_machine_state.specs.State.{set_word}
use Rattle.tg_tree.specs.Memory.{Memory, Cell, Closed, Unset, Has, Kept, Spot, in_statics, in_heap, elsewhere, spot}
use Rattle.tg_tree.specs.Memory.{put, store, store_in, put_open, store_byte, store_byte_in, put_byte, with_byte}
use Rattle.tg_tree.specs.Actions.{World}
use Rattle.tg_tree.specs.Holding as holding
use Rattle.tg_tree.specs.Holding.{CellHoldsAtLeast, WorldHoldsAtLeast, in_stack}
use Rattle.tg_tree.proofs.Filled.{filled_keeps}
use Rattle.tg_simulation.specs.Bytes.{AreBytes}
use Rattle.tg_munch_proof.specs.Words.{IsWord, AreWords}
use Rattle.tg_munch_proof.specs.glue.Outlines.{Outline, Alike}
use Rattle.tg_munch_proof.proofs.Reading.{word_set}

none_is : {A : Type 0} (a : A) → None ≡ Some a → ⊥
none_is a e = cc

some_is : {A : Type 0} (a b : A) → Some a ≡ Some b → a ≡ b
some_is a b e = cc

-- what a store makes of two worlds
pub record Stored (w x : World) (m n : Memory) : Type 0 where
  pub holds : WorldHoldsAtLeast (record w { memory = m }) (record x { memory = n })
  pub closed : (a : ℕ) → w.memory.stack a ≡ Closed → m.stack a ≡ Closed
  pub opened : (a : ℕ) → x.memory.stack a ≢ Closed → n.stack a ≢ Closed
  pub words : AreWords w.memory → AreWords m
  pub statics : length m.statics ≡ length w.memory.statics
  pub heap : length m.heap ≡ length w.memory.heap

pub alike_stored : (statics room : ℕ) (o : Outline) (w x : World) (m n : Memory) → Alike statics room o w x →
    Stored w x m n → Alike statics room o (record w { memory = m }) (record x { memory = n })
alike_stored statics room o w x m n h s = record {
  holds = s.holds;
  closed = λ a lt. s.closed a (h.closed a lt);
  shut = λ a e. s.closed a (h.shut a e);
  for_arguments = λ a e. s.opened a (h.for_arguments a e);
  words = s.words h.words;
  input = h.input;
  statics = let e = s.statics in let le = h.statics in omega (arith, e, le);
  heap = let e = s.heap in let le = h.heap in omega (arith, e, le);
}

-- a cell of the stack, which is not_closed, gets a word
has_is_open : (v : ℕ) → Has v ≡ Closed → ⊥
has_is_open v e = cc

put_closed : (a b v : ℕ) (c : ℕ → Cell) (z : Bool) → (b == a) ≡ z → c a ≢ Closed → c b ≡ Closed →
    (if z then Has v else c b) ≡ Closed
put_closed a b v c true e not_closed closed = absurd (not_closed (ap c (sym (eqb-true b a e)) ∙ closed))
put_closed a b v c false e not_closed closed = closed

put_opened : (v : ℕ) (c : Cell) (z : Bool) → c ≢ Closed → (if z then Has v else c) ≢ Closed
put_opened v c true not_closed e = has_is_open v e
put_opened v c false not_closed e = not_closed e

put_word : (v u : ℕ) (c : Cell) (z : Bool) → IsWord v → (c ≡ Has u → IsWord u) → (if z then Has v else c) ≡ Has u →
    IsWord u
put_word v u c true small h e = subst IsWord (same v u e) small
  where
    same : (i j : ℕ) → Has i ≡ Has j → i ≡ j
    same i j q = cc
put_word v u c false small h e = h e

pub stored_in_cell : (w x : World) (a v : ℕ) → WorldHoldsAtLeast w x → IsWord v → w.memory.stack a ≢ Closed →
    Stored w x (put a (Has v) w.memory) (put a (Has v) x.memory)
stored_in_cell w x a v holds small not_closed = record {
  holds = filled_keeps.puts a (Has v) w x holds;
  closed = λ b closed. put_closed a b v w.memory.stack (b == a) refl not_closed closed;
  opened = λ b still. put_opened v (x.memory.stack b) (b == a) still;
  words = λ h. record {
    statics = h.statics;
    heap = h.heap;
    stack = λ b u e. put_word v u (w.memory.stack b) (b == a) small (h.stack b u) e;
  };
  statics = refl;
  heap = refl;
}

-- where a word goes, and where a byte goes
abbrev world : (statics heap input : List ℕ) → (ℕ → Cell) → World
world statics heap input cells =
    record { memory = record { statics = statics; heap = heap; stack = cells }; input = input }

module _ (statics heap input : List ℕ) (cells cells' : ℕ → Cell) (more : (a : ℕ) → CellHoldsAtLeast (cells a) (cells' a)) where
  abbrev first : World
  first = world statics heap input cells

  abbrev second : World
  second = world statics heap input cells'

  abbrev Stores : Option Memory → Memory → Type 0
  Stores o m = (n : Memory) × (o ≡ Some n) × Stored first second m n

  in_first_region : (bytes : List ℕ) → (AreBytes statics → AreBytes bytes) → length bytes ≡ length statics →
      Stored first second (record first.memory { statics = bytes }) (record second.memory { statics = bytes })
  in_first_region bytes small long = record {
    holds = in_stack bytes heap input cells cells' more;
    closed = λ a e. e;
    opened = λ a e. e;
    words = λ h. record { statics = small h.statics; heap = h.heap; stack = h.stack };
    statics = long;
    heap = refl;
  }

  in_second_region : (bytes : List ℕ) → (AreBytes heap → AreBytes bytes) → length bytes ≡ length heap →
      Stored first second (record first.memory { heap = bytes }) (record second.memory { heap = bytes })
  in_second_region bytes small long = record {
    holds = in_stack statics bytes input cells cells' more;
    closed = λ a e. e;
    opened = λ a e. e;
    words = λ h. record { statics = h.statics; heap = small h.heap; stack = h.stack };
    statics = refl;
    heap = long;
  }

  in_cell : (a v : ℕ) → IsWord v → cells a ≢ Closed →
      Stored first second (put a (Has v) first.memory) (put a (Has v) second.memory)
  in_cell a v small not_closed = stored_in_cell first second a v (in_stack statics heap input cells cells' more) small not_closed

  as_is : (o : Option Memory) (m n q : Memory) → Some m ≡ Some q → o ≡ Some n → Stored first second m n → Stores o q
  as_is o m n q e same h = (n, same, subst (λ i. Stored first second i n) (some_is m q e) h)

  long_word : (bytes : List ℕ) (i v : ℕ) → length (set_word bytes i v) ≡ length bytes
  long_word bytes i v = omega (arith, length-set {A = ℕ})

  unset_open : Unset ≢ Closed
  unset_open e = cc

  in_open_cell : (c c' : Cell) (a v : ℕ) (m : Memory) → CellHoldsAtLeast c c' → cells a ≡ c → IsWord v →
      put_open c a v first.memory ≡ Some m → Stores (put_open c' a v second.memory) m
  in_open_cell c c' a v m (holding.elsewhere d) is small e = absurd (none_is m e)
  in_open_cell c c' a v m holding.not_stored is small e =
      as_is _ _ _ m e refl (in_cell a v small (λ q. unset_open (sym is ∙ q)))
  in_open_cell c c' a v m (holding.stored_to u) is small e =
      as_is _ _ _ m e refl (in_cell a v small (λ q. unset_open (sym is ∙ q)))
  in_open_cell c c' a v m (holding.stored u) is small e =
      as_is _ _ _ m e refl (in_cell a v small (λ q. has_is_open u (sym is ∙ q)))
  in_open_cell c c' a v m (holding.kept r) is small e =
      as_is _ _ _ m e refl (in_cell a v small (λ q. kept_is_open (sym is ∙ q)))
    where
      kept_is_open : Kept r ≡ Closed → ⊥
      kept_is_open e = cc

  word_stored : (a v : ℕ) (m : Memory) → IsWord v → store first.memory a v ≡ Some m → Stores (store second.memory a v) m
  word_stored a v m small e = by (a % 4 == 0) (spot first.memory a) e
    where
      by : (b : Bool) (z : Spot) → (if b then store_in first.memory a z v else None) ≡ Some m →
          Stores (if b then store_in second.memory a z v else None) m
      by true (in_statics i) q =
          as_is _ _ _ m q refl (in_first_region (set_word statics i v) (word_set statics i v small) (long_word statics i v))
      by true (in_heap i) q =
          as_is _ _ _ m q refl (in_second_region (set_word heap i v) (word_set heap i v small) (long_word heap i v))
      by true elsewhere q = in_open_cell (cells a) (cells' a) a v m (more a) refl small q
      by false z q = absurd (none_is m q)

  byte_set : (bytes : List ℕ) (i v : ℕ) → AreBytes bytes → AreBytes (slice_set bytes i (v % 256))
  byte_set bytes i v h = All-set (λ b. b < 256) bytes i (v % 256) (omega arith) h

  long_byte : (bytes : List ℕ) (i v : ℕ) → length (slice_set bytes i v) ≡ length bytes
  long_byte bytes i v = length-set bytes i v

  in_byte_of_cell : (c c' : Cell) (a k v : ℕ) (m : Memory) → k < 4 → CellHoldsAtLeast c c' → cells a ≡ c →
      ((u : ℕ) → c ≡ Has u → IsWord u) → put_byte c a k v first.memory ≡ Some m → Stores (put_byte c' a k v second.memory) m
  in_byte_of_cell c c' a k v m lt (holding.elsewhere d) is small e = absurd (none_is m e)
  in_byte_of_cell c c' a k v m lt holding.not_stored is small e = absurd (none_is m e)
  in_byte_of_cell c c' a k v m lt (holding.stored_to u) is small e = absurd (none_is m e)
  in_byte_of_cell c c' a k v m lt (holding.stored u) is small e =
      as_is _ _ _ m e refl (in_cell a (with_byte u k v) (by k lt) (λ q. has_is_open u (sym is ∙ q)))
    where
      word : IsWord u
      word = small u refl

      first_byte : IsWord (with_byte u 0 v)
      first_byte = omega (arith, word)

      second_byte : IsWord (with_byte u 1 v)
      second_byte = omega (arith, word)

      third_byte : IsWord (with_byte u 2 v)
      third_byte = omega (arith, word)

      fourth_byte : IsWord (with_byte u 3 v)
      fourth_byte = omega (arith, word)

      by : (j : ℕ) → j < 4 → IsWord (with_byte u j v)
      by zero below = first_byte
      by (suc zero) below = second_byte
      by (suc (suc zero)) below = third_byte
      by (suc (suc (suc zero))) below = fourth_byte
      by (suc (suc (suc (suc j)))) below = absurd (omega (arith, below))
  in_byte_of_cell c c' a k v m lt (holding.kept r) is small e = absurd (none_is m e)

  byte_stored : (a v : ℕ) (m : Memory) → AreWords first.memory → store_byte first.memory a v ≡ Some m →
      Stores (store_byte second.memory a v) m
  byte_stored a v m words e = by (spot first.memory a) e
    where
      by : (z : Spot) → store_byte_in first.memory a z v ≡ Some m → Stores (store_byte_in second.memory a z v) m
      by (in_statics i) q =
          as_is _ _ _ m q refl
          (in_first_region (slice_set statics i (v % 256)) (byte_set statics i v) (long_byte statics i (v % 256)))
      by (in_heap i) q =
          as_is _ _ _ m q refl
          (in_second_region (slice_set heap i (v % 256)) (byte_set heap i v) (long_byte heap i (v % 256)))
      by elsewhere q =
          in_byte_of_cell (cells (a - a % 4)) (cells' (a - a % 4)) (a - a % 4) (a % 4) v m (omega arith)
          (more (a - a % 4)) refl (words.stack (a - a % 4)) q

pub word_is_stored : (w x : World) (a v : ℕ) (m : Memory) → WorldHoldsAtLeast w x → IsWord v →
    store w.memory a v ≡ Some m → (n : Memory) × (store x.memory a v ≡ Some n) × Stored w x m n
word_is_stored w x a v m (in_stack statics heap input cells cells' more) small e =
    word_stored statics heap input cells cells' more a v m small e

pub byte_is_stored : (w x : World) (a v : ℕ) (m : Memory) → WorldHoldsAtLeast w x → AreWords w.memory →
    store_byte w.memory a v ≡ Some m → (n : Memory) × (store_byte x.memory a v ≡ Some n) × Stored w x m n
byte_is_stored w x a v m (in_stack statics heap input cells cells' more) words e =
    byte_stored statics heap input cells cells' more a v m words e
