-- A new record after the taken heap: its block has the words of its fields, and it stands there while all that held stays.
use Rattle.std.proofs.Common.{◌≡◌, ◌≢◌, ℕ, zero, suc, ◌+◌, ◌-◌, ◌*◌, ◌%◌, ◌/◌, ◌^◌, ◌<◌, ◌≤◌, List, [], ◌∷◌, ◌++◌, length, Some, Bool, true, false, refl, sym, ap, ◌∙◌, arith, subst, eqb-true, eq-eqb, ltb-true}
use Rattle.std.specs.Prelude.{if◌then◌else◌, nat_lt, ◌==◌, All, replicate, slice_get}
use Rattle.std.proofs.lemmas.Bool.{lt-ltb}
use Rattle.std.proofs.lemmas.List.{length-append, length-replicate}
use Rattle.std.proofs.lemmas.List.Elements.{All-append, All-replicate}
use Rattle.tg_machine_state.specs.State.{word_at, heap_base, stack_top, most_room}
use Rattle.tg_simulation.specs.Bytes.{AreBytes}
use Rattle.tg_symbols.specs.Tables.{looked_up}
use Rattle.tg_semantics.specs.Values.{Value, Object, fields, SourceWorld, add_object, add_heap}
use Rattle.tg_typecheck.specs.Types.{Ty, record_shape}
use Rattle.tg_tree.specs.Memory.{Memory, load}
use Rattle.tg_tree.specs.Actions.{World, Temps}
use Rattle.tg_runtime_proof.specs.laws.Serving.{with_block}
use Rattle.tg_runtime_proof.proofs.Bytes.{word_bytes, joined_is, word_past}
use Rattle.tg_runtime_proof.proofs.Strings.{word_bytes_small}
use Rattle.tg_runtime_proof.proofs.Memories.{blocked}
use Rattle.tg_translate_proof.specs.glue.Worlds as worlds
use Rattle.tg_translate_proof.specs.glue.Worlds.{Holdings, Stored, unknown, word, part, record_of, GrowsTo, IsLaid, laid_record, Stands, AllTemps}
use Rattle.tg_translate_proof.specs.glue.Situations.{Program, Part, Setting, Holds, floor, with_temps}
use Rattle.tg_translate_proof.proofs.state.HeapBlocks.{AreOwned, Fills, with_objects, with_object, object_grows, load_new, in_block, get_last}
use Rattle.tg_translate_proof.proofs.state.NewArrays.{HasObject}
use Rattle.tg_translate_proof.proofs.state.ValueWords.{stands_grows, text_grows}

-- The block of a record: its words, and so many zeros.

abbrev pub words_block : List ℕ → List ℕ
words_block [] = []
words_block (u ∷ us) = word_bytes u ++ words_block us

abbrev pub record_block : List ℕ → (zeros : ℕ) → List ℕ
record_block us z = words_block us ++ replicate z 0

words_length : (us : List ℕ) → length (words_block us) ≡ 4 * length us
words_length [] = refl
words_length (u ∷ us) =
    let e = words_length us in
    let l = length-append (word_bytes u) (words_block us) in
    omega (arith, e, l)

pub record_length : (us : List ℕ) (z : ℕ) → length (record_block us z) ≡ 4 * length us + z
record_length us z =
    let e = words_length us in
    let l = length-append (words_block us) (replicate {A = ℕ} z 0) in
    let r = length-replicate {A = ℕ} z 0 in
    omega (arith, e, l, r)

record_word : (us : List ℕ) (rest : List ℕ) (k u : ℕ) → slice_get us k ≡ Some u → word_at (words_block us ++ rest) (4 * k) ≡ u
record_word [] rest k u e = cc
record_word (v ∷ us) rest zero u e = joined_is v ∙ some_is v u e
  where
    some_is : (u v : ℕ) → Some u ≡ Some v → u ≡ v
    some_is u v e = cc
record_word (v ∷ us) rest (suc k) u e =
    let next : 4 * suc k ≡ 4 + 4 * k = omega arith in
    ap (word_at (words_block (v ∷ us) ++ rest)) next ∙
    (word_past (word_bytes v) (words_block us ++ rest) 4 (4 * k) refl ∙ record_word us rest k u e)

-- Fields: their names, values and words.

abbrev pub FieldsStand : Holdings → List (ℕ × Value) → List (ℕ × Ty) → List ℕ → Type 0
FieldsStand h [] [] [] = Unit {0}
FieldsStand h (a ∷ parts) (b ∷ fs) (u ∷ us) = (a.0 ≡ b.0) × Stands h a.1 b.1 u × (u < 2 ^ 32) × FieldsStand h parts fs us
FieldsStand h _ _ _ = ⊥

pub fields_many : (h : Holdings) (parts : List (ℕ × Value)) (fs : List (ℕ × Ty)) (us : List ℕ) → FieldsStand h parts fs us →
    (length parts ≡ length fs) × (length us ≡ length fs)
fields_many h [] [] [] x = (refl, refl)
fields_many h (a ∷ parts) (b ∷ fs) (u ∷ us) x = let y = fields_many h parts fs us x.3 in (ap suc y.0, ap suc y.1)
fields_many h [] [] (u ∷ us) x = absurd x
fields_many h [] (b ∷ fs) us x = absurd x
fields_many h (a ∷ parts) [] us x = absurd x
fields_many h (a ∷ parts) (b ∷ fs) [] x = absurd x

all_words : (h : Holdings) (parts : List (ℕ × Value)) (fs : List (ℕ × Ty)) (us : List ℕ) → FieldsStand h parts fs us →
    AreBytes (words_block us)
all_words h parts fs [] x = λ j d below. absurd (omega (arith, below))
all_words h (a ∷ parts) (b ∷ fs) (u ∷ us) x =
    All-append (λ b. b < 256) (word_bytes u) (words_block us) (word_bytes_small u x.2) (all_words h parts fs us x.3)
all_words h [] [] (u ∷ us) x = absurd x
all_words h [] (b ∷ fs) (u ∷ us) x = absurd x
all_words h (a ∷ parts) [] (u ∷ us) x = absurd x

pub record FieldIs (h : Holdings) (parts : List (ℕ × Value)) (us : List ℕ) (k name : ℕ) (t : Ty) : Type 0 where
  pub v : Value
  pub u : ℕ
  pub part : slice_get parts k ≡ Some (name, v)
  pub word : slice_get us k ≡ Some u
  pub stands : Stands h v t u
  pub low : k < length us

field_is : (h : Holdings) (parts : List (ℕ × Value)) (fs : List (ℕ × Ty)) (us : List ℕ) → FieldsStand h parts fs us →
    (k name : ℕ) (t : Ty) → slice_get fs k ≡ Some (name, t) → FieldIs h parts us k name t
field_is h parts [] us x k name t e = cc
field_is h ((a, v) ∷ parts) ((b, ty) ∷ fs) (u ∷ us) x zero name t e = record {
  v = v;
  u = u;
  part = ap (λ o. Some (o, v)) (x.0 ∙ name_is (b, ty) (name, t) e);
  word = refl;
  stands = subst (λ o. Stands h v o u) (type_is (b, ty) (name, t) e) x.1;
  low = omega arith;
}
  where
    pair_is : (p q : ℕ × Ty) → Some p ≡ Some q → p ≡ q
    pair_is p q e = cc

    name_is : (p q : ℕ × Ty) → Some p ≡ Some q → p.0 ≡ q.0
    name_is p q e = ap (λ (o : ℕ × Ty). o.0) (pair_is p q e)

    type_is : (p q : ℕ × Ty) → Some p ≡ Some q → p.1 ≡ q.1
    type_is p q e = ap (λ (o : ℕ × Ty). o.1) (pair_is p q e)
field_is h (a ∷ parts) (b ∷ fs) (u ∷ us) x (suc k) name t e =
    let y = field_is h parts fs us x.3 k name t e in
    let lt = y.low in
    record { v = y.v; u = y.u; part = y.part; word = y.word; stands = y.stands; low = omega (arith, lt) }
field_is h [] (b ∷ fs) us x k name t e = absurd x
field_is h (a ∷ parts) (b ∷ fs) [] x k name t e = absurd x

-- What the block holds: part k is the word of number k.

abbrev spot : (inside aligned : Bool) → (object index : ℕ) → Stored
spot inside aligned r k = if inside then (if aligned then part r k else unknown) else unknown

spot_word : (b c : Bool) (r k v : ℕ) → spot b c r k ≡ word v → ⊥
spot_word true true r k v e = cc
spot_word true false r k v e = cc
spot_word false c r k v e = cc

spot_known : (b c : Bool) (r k : ℕ) → spot b c r k ≢ unknown → (b ≡ true) × (c ≡ true)
spot_known true true r k ne = (refl, refl)
spot_known true false r k ne = absurd (ne refl)
spot_known false c r k ne = absurd (ne refl)

spot_part : (b c : Bool) (r k q i : ℕ) → spot b c r k ≡ part q i → (q ≡ r) × (i ≡ k) × (c ≡ true)
spot_part true true r k q i e = (part_is r k q i e, part_at r k q i e, refl)
  where
    part_is : (r k q i : ℕ) → part r k ≡ part q i → q ≡ r
    part_is r k q i e = cc

    part_at : (r k q i : ℕ) → part r k ≡ part q i → i ≡ k
    part_at r k q i e = cc
spot_part true false r k q i e = cc
spot_part false c r k q i e = cc

abbrev record_at : (count object : ℕ) → (offset : ℕ) → Stored
record_at n r o = spot (nat_lt o (4 * n)) (o % 4 == 0) r (o / 4)

record_part : (n r k : ℕ) → k < n → record_at n r (4 * k) ≡ part r k
record_part n r k lt =
    let even : 4 * k % 4 ≡ 0 = omega arith in
    let at : 4 * k / 4 ≡ k = omega arith in
    ap (λ b. spot b (4 * k % 4 == 0) r (4 * k / 4)) (lt-ltb (4 * k) (4 * n) (omega (arith, lt))) ∙
    (ap (λ b. spot true b r (4 * k / 4)) (eq-eqb (4 * k % 4) 0 even) ∙ ap (part r) at)

record_fills : (h : Holdings) (us : List ℕ) (z : ℕ) → Fills h (record_block us z) (record_at (length us) (length h.objects))
record_fills h us z =
    let r = length h.objects in
    let n = length us in
    let long = record_length us z in
    let inside : ℕ → Bool = λ o. nat_lt o (4 * n) in
    record {
      words = λ o v e. absurd (spot_word (inside o) (o % 4 == 0) r (o / 4) v e);
      known = λ o ne.
          let k = spot_known (inside o) (o % 4 == 0) r (o / 4) ne in
          let lt = ltb-true o (4 * n) k.0 in
          (eqb-true (o % 4) 0 k.1, omega (arith, lt, long));
      parts = λ o q i e. (spot_part (inside o) (o % 4 == 0) r (o / 4) q i e).0;
      once = λ o p q i e f.
          let x = spot_part (inside o) (o % 4 == 0) r (o / 4) q i e in
          let y = spot_part (inside p) (p % 4 == 0) r (p / 4) q i f in
          let xe = eqb-true (o % 4) 0 x.2 in
          let ye = eqb-true (p % 4) 0 y.2 in
          let xi = x.1 in
          let yi = y.1 in
          omega (arith, xe, ye, xi, yi);
    }

module _ (P : Program) (set : Setting P) (p : Part) (h : Holdings) (types : List Ty) (s : SourceWorld) (w : World) (t : Temps)
    (x : Holds P p h types s w t) (own : AreOwned h (length w.memory.heap)) where
  abbrev ts_ : AllTemps
  ts_ = with_temps p.scene.depth t p.others

  high : heap_base + P.heap ≤ floor P
  high =
      let room = set.heap_small in
      let stack = set.stack_small in
      omega (arith, room, stack)

  -- the words of a record's fields, and so many zeros after them
  pub record_added : (at : ℕ) (fs : List (ℕ × Ty)) → looked_up at P.shapes ≡ Some (record_shape fs) → (parts : List (ℕ × Value)) (us : List ℕ)
      (z : ℕ) → FieldsStand h parts fs us → z % 4 ≡ 0 → 0 < length us + z →
      length w.memory.heap + length (record_block us z) ≤ P.heap →
      HasObject P p h types s w t (record_block us z) (record_of at) (fields parts)
  record_added at fs shape parts us z stand words some fits =
      let block = record_block us z in
      let long = record_length us z in
      let even : length block % 4 ≡ 0 = omega (arith, long, words) in
      let bs : AreBytes block =
      All-append (λ b. b < 256) (words_block us) (replicate z 0) (all_words h parts fs us stand)
      (All-replicate (λ b. b < 256) z 0 (omega arith)) in
      let fills = record_fills h us z in
      let new = record_at (length us) (length h.objects) in
      let a = heap_base + length w.memory.heap in
      let R = length h.objects in
      let objects : List (ℕ × worlds.Made) = h.objects ++ (a, record_of at) ∷ [] in
      let g : Holdings =
      with_objects P.shapes P.heap (floor P) p.places h types s w ts_ x.invariant own high block even bs fits new fills objects in
      let grown : GrowsTo h g =
      object_grows P.shapes P.heap (floor P) p.places h types s w ts_ x.invariant own high block even bs fits new fills
      (record_of at) (fields parts) in
      let laid : IsLaid g P.shapes (blocked block w.memory) R a (record_of at) (fields parts) =
      laid_record at fs parts shape (fields_many h parts fs us stand).0
      (λ k name ty e.
      let is = field_is h parts fs us stand k name ty e in
      let lt = is.low in (
        is.v,
        is.u,
        is.part,
        in_block P.shapes P.heap (floor P) p.places h types s w ts_ x.invariant own high block even bs fits new fills (4 * k) ∙
            record_part (length us) R k is.low,
        load_new P.shapes P.heap (floor P) p.places h types s w ts_ x.invariant own high block even bs fits new fills (4 * k)
            (omega arith) (omega (arith, lt, long)) ∙ ap Some (record_word us (replicate z 0) k is.u is.word),
        stands_grows h g is.v ty is.u grown is.stands,
      )) in
      record {
        g = g;
        grown = grown;
        there = ap (slice_get objects) (sym x.invariant.objects) ∙ get_last h.objects (a, record_of at);
        holds = record {
          invariant =
              with_object P.shapes P.heap (floor P) p.places h types s w ts_ x.invariant own high block even bs fits new fills
              (record_of at) (fields parts) laid (omega (arith, long, some));
          weight = x.weight;
          depth = x.depth;
          statics = x.statics;
          literals = λ b label bytes there at. text_grows h g b bytes grown (x.literals b label bytes there at);
        };
      }
