-- A new array after the taken heap: what its block holds, and that it stands there while all that held stays.
use Rattle.std.proofs.Common.{◌≡◌, ◌≢◌, ℕ, zero, suc, ◌+◌, ◌-◌, ◌*◌, ◌%◌, ◌/◌, ◌^◌, ◌<◌, ◌≤◌, List, [], ◌∷◌, ◌++◌, length, Some, Bool, true, false, refl, sym, ap, ◌∙◌, arith, subst, eqb-true, eq-eqb, ne_eqb, ltb-true}
use Rattle.std.specs.Prelude.{if◌then◌else◌, nat_lt, ◌==◌, All, replicate, slice_get}
use Rattle.std.specs.Int.{to_le_bytes, w32}
use Rattle.std.proofs.lemmas.Bool.{lt-ltb}
use Rattle.std.proofs.lemmas.List.{length-replicate}
use Rattle.std.proofs.lemmas.List.Elements.{All-append}
use Rattle.tg_machine_state.specs.State.{word_at, heap_base, stack_top, most_room}
use Rattle.tg_simulation.specs.Bytes.{AreBytes}
use Rattle.tg_symbols.specs.Tables.{looked_up}
use Rattle.tg_semantics.specs.Values.{Value, Object, elements, SourceWorld, add_object, add_heap}
use Rattle.tg_typecheck.specs.Types.{Ty, array_shape, none_type}
use Rattle.tg_tree.specs.Memory.{Memory, load, string_block}
use Rattle.tg_tree.specs.Actions.{World, Temps}
use Rattle.tg_runtime_proof.specs.Memories.{array_block, elements_block}
use Rattle.tg_runtime_proof.specs.laws.Serving.{with_block}
use Rattle.tg_runtime_proof.proofs.Arrays.{array_length}
use Rattle.tg_runtime_proof.proofs.Bytes.{word_bytes_are}
use Rattle.tg_runtime_proof.proofs.Made.{array_made, first_word}
use Rattle.tg_runtime_proof.proofs.Strings.{word_bytes_small, block_length}
use Rattle.tg_runtime_proof.proofs.Memories.{blocked, block_there}
use Rattle.tg_translate_proof.specs.glue.Worlds as worlds
use Rattle.tg_translate_proof.specs.glue.Worlds.{Holdings, Stored, unknown, word, part, Made, array_of, GrowsTo, IsLaid, laid_array, Stands, an_int, a_string}
use Rattle.tg_translate_proof.specs.glue.Worlds.{a_nil, a_nil_record, a_record, an_array, no_value, Invariant, AllTemps}
use Rattle.tg_translate_proof.specs.glue.Situations.{Program, Part, Setting, Holds, floor, with_temps}
use Rattle.tg_translate_proof.proofs.state.HeapBlocks.{AreOwned, Fills, with_objects, with_object, object_grows, objects_more, load_new, in_block, get_last}
use Rattle.tg_translate_proof.proofs.state.ValueWords.{stands_grows, text_grows}

-- Words of parts, by offsets: the word of number k is part k, after a first word in an array.

abbrev spot : (inside aligned first : Bool) → (count object index : ℕ) → Stored
spot inside aligned first n r k =
    if inside then (if aligned then (if first then word n else part r k) else unknown) else unknown

spot_word : (b c d : Bool) (n r k v : ℕ) → spot b c d n r k ≡ word v → (n ≡ v) × (d ≡ true)
spot_word true true true n r k v e = ((let f : word n ≡ word v = e in word_is n v f), refl)
  where
    word_is : (n v : ℕ) → word n ≡ word v → n ≡ v
    word_is n v e = cc
spot_word true true false n r k v e = cc
spot_word true false d n r k v e = cc
spot_word false c d n r k v e = cc

spot_known : (b c d : Bool) (n r k : ℕ) → spot b c d n r k ≢ unknown → (b ≡ true) × (c ≡ true)
spot_known true true d n r k ne = (refl, refl)
spot_known true false d n r k ne = absurd (ne refl)
spot_known false c d n r k ne = absurd (ne refl)

spot_part : (b c d : Bool) (n r k q i : ℕ) → spot b c d n r k ≡ part q i → (q ≡ r) × (i ≡ k) × (c ≡ true) × (d ≡ false)
spot_part true true true n r k q i e = cc
spot_part true true false n r k q i e = (part_is r k q i e, part_at r k q i e, refl, refl)
  where
    part_is : (r k q i : ℕ) → part r k ≡ part q i → q ≡ r
    part_is r k q i e = cc

    part_at : (r k q i : ℕ) → part r k ≡ part q i → i ≡ k
    part_at r k q i e = cc
spot_part true false d n r k q i e = cc
spot_part false c d n r k q i e = cc

abbrev pub array_at : (count object : ℕ) → (offset : ℕ) → Stored
array_at n r o = spot (nat_lt o (4 + 4 * n)) (o % 4 == 0) (o == 0) n r (o / 4 - 1)

not_zero : (o : ℕ) → (o == 0) ≡ false → 0 < o
not_zero zero e = cc
not_zero (suc o) e = omega arith

array_first : (n r : ℕ) → array_at n r 0 ≡ word n
array_first n r = ap (λ b. spot b true true n r (0 / 4 - 1)) (lt-ltb 0 (4 + 4 * n) (omega arith))

array_part : (n r k : ℕ) → k < n → array_at n r (4 + 4 * k) ≡ part r k
array_part n r k lt =
    let o : ℕ = 4 + 4 * k in
    let even : o % 4 ≡ 0 = omega arith in
    let at : o / 4 - 1 ≡ k = omega arith in
    ap (λ b. spot b (o % 4 == 0) (o == 0) n r (o / 4 - 1)) (lt-ltb o (4 + 4 * n) (omega (arith, lt))) ∙
    (ap (λ b. spot true b (o == 0) n r (o / 4 - 1)) (eq-eqb (o % 4) 0 even) ∙
    (ap (λ b. spot true true b n r (o / 4 - 1)) (ne_eqb o 0 (λ e. omega (arith, e))) ∙ ap (part r) at))

array_fills : (h : Holdings) (n u : ℕ) → n < 2 ^ 32 → word_at (array_block n u) 0 ≡ n →
    Fills h (array_block n u) (array_at n (length h.objects))
array_fills h n u small first =
    let r = length h.objects in
    let long = array_length n u in
    let inside : ℕ → Bool = λ o. nat_lt o (4 + 4 * n) in
    record {
      words = λ o v e.
          let k = spot_word (inside o) (o % 4 == 0) (o == 0) n r (o / 4 - 1) v e in
          let z = eqb-true o 0 k.1 in
          ap (word_at (array_block n u)) z ∙ first ∙ k.0;
      known = λ o ne.
          let k = spot_known (inside o) (o % 4 == 0) (o == 0) n r (o / 4 - 1) ne in
          let lt = ltb-true o (4 + 4 * n) k.0 in
          (eqb-true (o % 4) 0 k.1, omega (arith, lt, long));
      parts = λ o q i e. (spot_part (inside o) (o % 4 == 0) (o == 0) n r (o / 4 - 1) q i e).0;
      once = λ o p q i e f.
          let x = spot_part (inside o) (o % 4 == 0) (o == 0) n r (o / 4 - 1) q i e in
          let y = spot_part (inside p) (p % 4 == 0) (p == 0) n r (p / 4 - 1) q i f in
          let xe = eqb-true (o % 4) 0 x.2 in
          let ye = eqb-true (p % 4) 0 y.2 in
          let xn = not_zero o x.3 in
          let yn = not_zero p y.3 in
          let xi = x.1 in
          let yi = y.1 in
          omega (arith, xe, ye, xn, yn, xi, yi);
    }

word_are_bytes : (v : ℕ) → v < 2 ^ 32 → AreBytes (to_le_bytes w32 v)
word_are_bytes v small = subst (λ l. AreBytes l) (sym (word_bytes_are v small)) (word_bytes_small v small)

all_elements : (n u : ℕ) → u < 2 ^ 32 → AreBytes (elements_block n u)
all_elements zero u small = λ j d below. absurd (omega (arith, below))
all_elements (suc n) u small =
    All-append (λ b. b < 256) (to_le_bytes w32 u) (elements_block n u) (word_are_bytes u small) (all_elements n u small)

-- a list of one value
pub get_replicate : {A : Type 0} (n : ℕ) (v : A) (k : ℕ) (x : A) → slice_get (replicate n v) k ≡ Some x → (x ≡ v) × (k < n)
get_replicate zero v k x e = cc
get_replicate (suc n) v zero x e = (some_is v x e, omega arith)
  where
    some_is : {B : Type 0} (u v : B) → Some u ≡ Some v → v ≡ u
    some_is u v e = cc
get_replicate (suc n) v (suc k) x e =
    let i = get_replicate n v k x e in
    let lt = i.1 in
    (i.0, omega (arith, lt))

-- A word that stands for a value is a word.
pub stands_small : (P : Program) → Setting P → (p : Part) (h : Holdings) (types : List Ty) (s : SourceWorld) (w : World) (t : Temps) →
    Holds P p h types s w t → AreOwned h (length w.memory.heap) →
    (v : Value) (ty : Ty) (u : ℕ) → ty ≢ none_type → Stands h v ty u → u < 2 ^ 32
stands_small P set p h types s w t x own _ _ _ ne (an_int n lt) = lt
stands_small P set p h types s w t x own _ _ _ ne (a_string bytes a text) =
    let long = block_length bytes in
    let is : h.at (a + 4 * 0) ≡ word (word_at (string_block bytes) (4 * 0)) = text.words 0 (omega (arith, long)) in
    let k = (x.invariant.known (a + 4 * 0) (λ f. let z = sym is ∙ f in cc)).1 in
    let taken = x.invariant.memory.taken in
    let most = x.invariant.memory.most in
    omega (arith, k, taken, most)
stands_small P set p h types s w t x own _ _ _ ne a_nil = omega arith
stands_small P set p h types s w t x own _ _ _ ne (a_nil_record at) = omega arith
stands_small P set p h types s w t x own _ _ _ ne (a_record r at a e) =
    let k = own.below r (a, worlds.record_of at) e in
    let taken = x.invariant.memory.taken in
    let most = x.invariant.memory.most in
    omega (arith, k, taken, most)
stands_small P set p h types s w t x own _ _ _ ne (an_array r at count a e) =
    let k = own.below r (a, array_of at count) e in
    let taken = x.invariant.memory.taken in
    let most = x.invariant.memory.most in
    omega (arith, k, taken, most)
stands_small P set p h types s w t x own _ _ _ ne (no_value v) = absurd (ne refl)

-- A new object, after the taken heap: it stands there, and all that held does.
pub record HasObject (P : Program) (p : Part) (h : Holdings) (types : List Ty) (s : SourceWorld) (w : World) (t : Temps)
    (block : List ℕ) (made : Made) (object : Object) : Type 0 where
  pub g : Holdings
  pub grown : GrowsTo h g
  pub there : slice_get g.objects (length s.objects) ≡ Some (heap_base + length w.memory.heap, made)
  pub holds : Holds P p g types (add_object object (add_heap (length block) s)) (with_block block w) t

module _ (P : Program) (set : Setting P) (p : Part) (h : Holdings) (types : List Ty) (s : SourceWorld) (w : World) (t : Temps)
    (x : Holds P p h types s w t) (own : AreOwned h (length w.memory.heap)) where
  abbrev ts_ : AllTemps
  ts_ = with_temps p.scene.depth t p.others

  high : heap_base + P.heap ≤ floor P
  high =
      let room = set.heap_small in
      let stack = set.stack_small in
      omega (arith, room, stack)

  -- an array of so many such values
  pub array_added : (at : ℕ) (ty : Ty) → looked_up at P.shapes ≡ Some (array_shape ty) → (n : ℕ) (v : Value) (u : ℕ) → Stands h v ty u →
      u < 2 ^ 32 → n < 2 ^ 32 → length w.memory.heap + length (array_block n u) ≤ P.heap →
      HasObject P p h types s w t (array_block n u) (array_of at n) (elements (replicate n v))
  array_added at ty shape n v u st u_small n_small fits =
      let block = array_block n u in
      let long = array_length n u in
      let even : length block % 4 ≡ 0 = omega (arith, long) in
      let bs : AreBytes block =
      All-append (λ b. b < 256) (to_le_bytes w32 n) (elements_block n u) (word_are_bytes n n_small) (all_elements n u u_small) in
      let whole = x.invariant.memory.whole in
      let room = set.heap_small in
      let made = array_made w.memory n u whole n_small u_small in
      let first : word_at block 0 ≡ n = first_word n (elements_block n u) n_small in
      let fills = array_fills h n u n_small first in
      let new = array_at n (length h.objects) in
      let a = heap_base + length w.memory.heap in
      let R = length h.objects in
      let count = length-replicate n v in
      let objects : List (ℕ × Made) = h.objects ++ (a, array_of at n) ∷ [] in
      let g : Holdings =
      with_objects P.shapes P.heap (floor P) p.places h types s w ts_ x.invariant own high block even bs fits new fills objects in
      let grown : GrowsTo h g =
      object_grows P.shapes P.heap (floor P) p.places h types s w ts_ x.invariant own high block even bs fits new fills
      (array_of at n) (elements (replicate n v)) in
      let inside : (o : ℕ) → g.at (a + o) ≡ new o =
      λ o. in_block P.shapes P.heap (floor P) p.places h types s w ts_ x.invariant own high block even bs fits new fills o in
      let zero_at : a + 0 ≡ a = omega arith in
      let laid : IsLaid g P.shapes (blocked block w.memory) R a (array_of at (length (replicate n v))) (elements (replicate n v)) =
      laid_array at ty (replicate n v) shape (omega (arith, count, long, fits, room))
      (ap g.at (sym zero_at) ∙ inside 0 ∙ array_first n R ∙ ap word (sym count))
      (λ k y e.
      let is = get_replicate n v k y e in
      let next : a + 4 + 4 * k ≡ a + (4 + 4 * k) = omega arith in (
        u,
        ap g.at next ∙ inside (4 + 4 * k) ∙ array_part n R k is.1,
        made.1 k is.1,
        subst (λ z. Stands g z ty u) (sym is.0) (stands_grows h g v ty u grown st),
      )) in
      record {
        g = g;
        grown = grown;
        there = ap (slice_get objects) (sym x.invariant.objects) ∙ get_last h.objects (a, array_of at n);
        holds = record {
          invariant =
              with_object P.shapes P.heap (floor P) p.places h types s w ts_ x.invariant own high block even bs fits new fills
              (array_of at n) (elements (replicate n v))
              (subst (λ c. IsLaid g P.shapes (blocked block w.memory) R a (array_of at c) (elements (replicate n v))) count laid)
              (omega (arith, long));
          weight = x.weight;
          depth = x.depth;
          statics = x.statics;
          literals = λ b label bytes there at. text_grows h g b bytes grown (x.literals b label bytes there at);
        };
      }
