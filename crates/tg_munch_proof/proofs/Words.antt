-- Flat expressions have words, and what flat code reads is there for instructions too.
use Rattle.std.proofs.Common.{◌≡◌, ℕ, ◌-◌, ◌%◌, List, Bool, refl, ap, subst}
use Rattle.std.specs.Prelude.{◌==◌, false, true, Option, Some, None, if◌then◌else◌}
use Rattle.tg_tree.specs.Tree as tree
use Rattle.tg_tree.specs.Tree.{Tx, Literal}
use Rattle.tg_tree.specs.Shapes.{IsFlat}
use Rattle.tg_tree.specs.Memory.{Memory, Cell, Spot, in_statics, in_heap, elsewhere, spot, load, load_byte, word_in}
use Rattle.tg_tree.specs.Memory.{byte_in, cell_word, cell_byte, literal_address}
use Rattle.tg_tree.specs.Operators.{Given, word, stops_by}
use Rattle.tg_tree.specs.FlatValue.{onward, or_wrong, flat_value}
use Rattle.tg_tree.specs.Actions.{World, Temps}
use Rattle.tg_tree.specs.Holding as holding
use Rattle.tg_tree.specs.Holding.{CellHoldsAtLeast, WorldHoldsAtLeast, in_stack}
use Rattle.tg_tree.proofs.OperatorWords.{operate_word}
use Rattle.tg_munch_proof.specs.Words.{IsWord, HasWords}

-- what is loaded before the pass is loaded after it
cell_seen : (c d : Cell) (v : ℕ) → CellHoldsAtLeast c d → cell_word c ≡ Some v → cell_word d ≡ Some v
cell_seen c d v (holding.elsewhere e) h = absurd (none h)
  where
    none : None ≡ Some v → ⊥
    none e = cc
cell_seen c d v holding.not_stored h = h
cell_seen c d v (holding.stored_to u) h = absurd (none h)
  where
    none : None ≡ Some v → ⊥
    none e = cc
cell_seen c d v (holding.stored u) h = h
cell_seen c d v (holding.kept r) h = h

byte_seen : (c d : Cell) (k v : ℕ) → CellHoldsAtLeast c d → cell_byte c k ≡ Some v → cell_byte d k ≡ Some v
byte_seen c d k v (holding.elsewhere e) h = absurd (none h)
  where
    none : None ≡ Some v → ⊥
    none e = cc
byte_seen c d k v holding.not_stored h = h
byte_seen c d k v (holding.stored_to u) h = absurd (none h)
  where
    none : None ≡ Some v → ⊥
    none e = cc
byte_seen c d k v (holding.stored u) h = h
byte_seen c d k v (holding.kept r) h = h

where_so : (b : Bool) (o q : Option ℕ) (v : ℕ) → (o ≡ Some v → q ≡ Some v) → (if b then o else None) ≡ Some v → (if b
    then q else None) ≡ Some v
where_so true o q v f h = f h
where_so false o q v f h = h

pub loads_seen : (w x : World) → WorldHoldsAtLeast w x → (a v : ℕ) → load w.memory a ≡ Some v → load x.memory a ≡ Some v
loads_seen w x (in_stack statics heap input cells cells' more) a v h =
    where_so (a % 4 == 0) _ _ v (by (spot (record { statics = statics; heap = heap; stack = cells }) a)) h
  where
    by : (z : Spot) → word_in (record { statics = statics; heap = heap; stack = cells }) a z ≡ Some v →
        word_in (record { statics = statics; heap = heap; stack = cells' }) a z ≡ Some v
    by (in_statics i) e = e
    by (in_heap i) e = e
    by elsewhere e = cell_seen (cells a) (cells' a) v (more a) e

pub bytes_seen : (w x : World) → WorldHoldsAtLeast w x → (a v : ℕ) → load_byte w.memory a ≡ Some v → load_byte
    x.memory a ≡ Some v
bytes_seen w x (in_stack statics heap input cells cells' more) a v h = by (spot (record {
  statics = statics;
  heap =
      heap;
  stack = cells;
}) a) h
  where
    by : (z : Spot) → byte_in (record { statics = statics; heap = heap; stack = cells }) a z ≡ Some v →
        byte_in (record { statics = statics; heap = heap; stack = cells' }) a z ≡ Some v
    by (in_statics i) e = e
    by (in_heap i) e = e
    by elsewhere e = byte_seen (cells (a - a % 4)) (cells' (a - a % 4)) (a % 4) v (more (a - a % 4)) e

-- given words
same_word : (a b : ℕ) → word a ≡ word b → a ≡ b
same_word a b e = cc

of_word : (n r : ℕ) → IsWord n → word n ≡ word r → IsWord r
of_word n r h e = subst (λ i. IsWord i) (same_word n r e) h

-- What flat code reads is words: a hypothesis of its own for each of what it may read.
pub record ReadsWords (ls : List Literal) (base : ℕ) (m : Memory) (t : Temps) : Type 0 where
  pub addresses : (label v : ℕ) → literal_address ls label ≡ Some v → IsWord v
  pub frame : IsWord base
  pub loads : (a v : ℕ) → load m a ≡ Some v → IsWord v
  pub loads_byte : (a v : ℕ) → load_byte m a ≡ Some v → IsWord v
  pub temps : (i v : ℕ) → t i ≡ Some v → IsWord v

was_there : (o : Option ℕ) (v : ℕ) → or_wrong o ≡ word v → o ≡ Some v
was_there (Some u) v e = ap (λ i. Some i) (same_word u v e)
was_there None v e = absurd (stopped e)
  where
    stopped : or_wrong None ≡ word v → ⊥
    stopped e = cc

-- a word after another
behind_word : (g : Given) (f : ℕ → Given) (v : ℕ) → onward g f ≡ word v → (u : ℕ) × (g ≡ word u) × (f u ≡ word v)
behind_word (word u) f v e = (u, refl, e)
behind_word (stops_by z) f v e = absurd (stopped e)
  where
    stopped : stops_by z ≡ word v → ⊥
    stopped e = cc

module _ (ls : List Literal) (base : ℕ) (m : Memory) (t : Temps) (reads : ReadsWords ls base m t) where
  pub flat_words : (e : Tx) (v : ℕ) → IsFlat e → HasWords e → flat_value ls base m t e ≡ word v → IsWord v
  flat_words (tree.Const n) v f h e = of_word n v h e
  flat_words (tree.Address l) v f h e = reads.addresses l v (was_there (literal_address ls l) v e)
  flat_words (tree.Temp i) v f h e = reads.temps i v (was_there (t i) v e)
  flat_words tree.FrameAddress v f h e = of_word base v reads.frame e
  flat_words (tree.Binary op a b) v f h e =
      let q = behind_word (flat_value ls base m t a) _ v e in
      let r = behind_word (flat_value ls base m t b) _ v q.2 in
      operate_word op q.0 r.0 v (flat_words a q.0 f.0 h.0 q.1) (flat_words b r.0 f.1 h.1 r.1) r.2
  flat_words (tree.Load a) v f h e =
      let q = behind_word (flat_value ls base m t a) _ v e in reads.loads q.0 v (was_there (load m q.0) v q.2)
  flat_words (tree.LoadByte a) v f h e =
      let q = behind_word (flat_value ls base m t a) _ v e in reads.loads_byte q.0 v (was_there (load_byte m q.0) v q.2)
  flat_words (tree.Call l xs) v f h e = absurd f
  flat_words (tree.Service k a) v f h e = absurd f
  flat_words (tree.After z a) v f h e = absurd f
