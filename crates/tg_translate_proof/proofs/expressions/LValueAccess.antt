-- What stands at the address of a location is read and assigned: the value there by its word, and
-- the invariant after a store.
use Rattle.std.proofs.Common.{◌≡◌, ◌≢◌, ℕ, zero, suc, ◌+◌, ◌-◌, ◌*◌, ◌%◌, ◌^◌, ◌<◌, ◌≤◌, ◌==◌, List, [], ◌∷◌, Option, Some, None, Bool, true, false, refl, sym, ap, ◌∙◌}
use Rattle.std.proofs.Common.{arith, subst, inl, inr}
use Rattle.std.specs.Prelude.{slice_get, slice_set, length, if◌then◌else◌}
use Rattle.tg_machine_state.specs.State.{stack_top, heap_base}
use Rattle.tg_symbols.specs.Tables.{looked_up}
use Rattle.tg_simulation.specs.Runs.{Run}
use Rattle.tg_simulation.specs.Agreement.{Source}
use Rattle.tg_semantics.specs.Values.{Value, int, string, nil, reference, nothing, SourceWorld, Object, fields, elements, put_variable, put_object}
use Rattle.tg_semantics.specs.Operators.{field_in, element_in, with_field, with_element, set_field}
use Rattle.tg_semantics.specs.Evaluation.{Location, in_variable, in_field, in_element}
use Rattle.tg_semantics.specs.Passing.{Rest, with_found}
use Rattle.tg_semantics.specs.MachineRuns.{rest_run}
use Rattle.tg_typecheck.specs.Types.{Ty, Shape, record_shape, array_shape, none_type}
use Rattle.tg_typecheck.specs.Typing.{placed}
use Rattle.tg_typecheck.specs.Has.{HasValues}
use Rattle.tg_tree.specs.Memory.{Memory, Closed, Has, put, load, store, slot}
use Rattle.tg_tree.specs.Actions.{World, Temps}
use Rattle.tg_runtime_proof.proofs.Stores.{IsStored}
use Rattle.tg_translate_proof.specs.glue.Worlds.{Holdings, unknown, part, Made, record_of, array_of, Stands, an_int, a_string, a_nil, a_nil_record, a_record}
use Rattle.tg_translate_proof.specs.glue.Worlds.{an_array, no_value, IsLaid, Key, cell, temporary, Content, nowhere, free, variable, kept, fixed, IsOf, HoldsAt}
use Rattle.tg_translate_proof.specs.glue.Worlds.{HoldsVariable, word_of}
use Rattle.tg_translate_proof.specs.glue.Situations.{Program, Part, Setting, Holds, with_temps, floor}
use Rattle.tg_translate_proof.proofs.state.Keys.{index_of, held_word, of_is_used, some_same, set_length}
use Rattle.tg_translate_proof.proofs.state.HomeWrites.{Written, slot_written, assigned, holds_open}
use Rattle.tg_translate_proof.proofs.state.ObjectStores.{FirstAt, first_of, first_is, FirstPart, first_part, first_get, get_first, set_first, FieldHas, ElementHas, field_by, element_by}
use Rattle.tg_translate_proof.proofs.state.ObjectStores.{LaidRecord, LaidArray, laid_as_record, laid_as_array, part_stored, part_keeps}
use Rattle.tg_translate_proof.proofs.expressions.LValueAddress.{IsAt, a_slot, a_field, an_element, Premises, reads, writes_to}
use Rattle.tg_translate_proof.specs.glue.Worlds.{laid_record, laid_array}
use Rattle.tg_translate_proof.specs.glue.Worlds as worlds

get_below : {A : Type 0} (xs : List A) (i : ℕ) → i < length xs → (a : A) × (slice_get xs i ≡ Some a)
get_below [] i lt = absurd (omega (arith, lt))
get_below (x ∷ xs) zero lt = (x, refl)
get_below (x ∷ xs) (suc i) lt = get_below xs i (omega (arith, lt))

-- what isn't kept is a variable
pub plainly : (c : Content) (place : ℕ) → ((l u : ℕ) → c ≢ kept l u) → IsOf place c → c ≡ variable place
plainly nowhere place not_kept e = absurd e
plainly free place not_kept e = absurd e
plainly (fixed u) place not_kept e = absurd e
plainly (variable l) place not_kept e = ap variable e
plainly (kept l u) place not_kept e = absurd (not_kept l u refl)

part_is_known : (r i : ℕ) → part r i ≢ unknown
part_is_known r i e = cc

word_is_known : (n : ℕ) → worlds.word n ≢ unknown
word_is_known n e = cc

module _ (P : Program) (set : Setting P) (premises : Premises P) (p : Part) (h : Holdings) (types : List Ty) (s : SourceWorld) (w : World) (t : Temps) (hh : Holds P p h types s w t) where
  -- the heap is below the stack
  pub heap_below : heap_base + length w.memory.heap ≤ floor P
  heap_below = let a = hh.invariant.memory.taken in let b = set.heap_small in let c = set.stack_small in omega (arith, a, b, c)

  -- what is known of the heap is no cell in use
  pub known_apart : (b a : ℕ) → h.at b ≢ unknown → floor P ≤ a → cell b ≢ cell a
  known_apart b a known up e =
      let low = hh.invariant.known b known in
      let same : b ≡ a = let f = ap index_of e in f in
      let under = heap_below in
      omega (arith, low.1, same, up, under)

  -- a value is a word
  pub stands_small : (v : Value) (ty : Ty) (u : ℕ) → HasValues ty → Stands h v ty u → u < 2 ^ 32
  stands_small v ty u has st = by v ty u has st
    where
      heap_words : (a : ℕ) → a < heap_base + length w.memory.heap → a < 2 ^ 32
      heap_words a lt = let under = heap_below in omega (arith, lt, under)

      by : (v : Value) (ty : Ty) (u : ℕ) → HasValues ty → Stands h v ty u → u < 2 ^ 32
      by _ _ _ has (an_int n lt) = lt
      by _ _ _ has (a_string bytes a text) =
          let first = text.words 0 (omega arith) in
          let here : a + 4 * 0 ≡ a = omega arith in
          let known : h.at a ≢ unknown = λ f. word_is_known _ (sym first ∙ (ap h.at here ∙ f)) in
          heap_words a (hh.invariant.known a known).1
      by _ _ _ has a_nil = omega arith
      by _ _ _ has (a_nil_record at) = omega arith
      by _ _ _ has (a_record r at a e) = heap_words a (premises.objects_are_below p h types s w t hh r (a, record_of at) e)
      by _ _ _ has (an_array r at count a e) = heap_words a (premises.objects_are_below p h types s w t hh r (a, array_of at count) e)
      by _ _ _ has (no_value v) = absurd (has refl)

  -- what is there, and what reading gives
  pub record ReadAt (l : Location) (ty : Ty) (u : ℕ) : Type 0 where
    pub v : Value
    pub word : ℕ
    pub there : load w.memory u ≡ Some word
    pub stands : Stands h v ty word
    pub gives : (go : Value → Rest) (out : Rest) (i : ℕ) → rest_run (reads P l go out) s i ≡ rest_run (go v) s i

  -- a field, in the object that has it
  pub record FieldAt (r name a k : ℕ) (ty : Ty) : Type 0 where
    pub at : ℕ
    pub has : slice_get h.objects r ≡ Some (a, record_of at)
    pub fs : List (ℕ × Ty)
    pub parts : List (ℕ × Value)
    pub object : slice_get s.objects r ≡ Some (fields parts)
    pub laid : IsLaid h P.shapes w.memory r a (record_of at) (fields parts)
    pub shape : looked_up at P.shapes ≡ Some (record_shape fs)
    pub many : length parts ≡ length fs
    pub each : (i f : ℕ) (t : Ty) → slice_get fs i ≡ Some (f, t) → FieldHas h w.memory r a parts i f t
    pub first : FirstAt name fs k ty
    pub v : Value
    pub is_first : FirstPart name parts k v
    pub here : FieldHas h w.memory r a parts k name ty
    pub same : here.0 ≡ v

  pub field_at : (r name at a k : ℕ) (t : Ty) (fs : List (ℕ × Ty)) → slice_get h.objects r ≡ Some (a, record_of at) →
      looked_up at P.shapes ≡ Some (record_shape fs) →
      placed name 0 fs ≡ Some (k, t) → FieldAt r name a k t
  field_at r name at a k t fs has shape field =
      let l = hh.invariant.laid r (a, record_of at) has in
      let x = laid_as_record h P.shapes w.memory r a at l.0 l.2 in
      let same_fs : fs ≡ x.fs = let e : Some (record_shape fs) ≡ Some (record_shape x.fs) = sym shape ∙ x.shape in cc in
      let f0 = first_of name 0 fs k t field in
      let is_k : f0.0 ≡ k = let e = f0.1 in omega (arith, e) in
      let first : FirstAt name x.fs k t = subst (λ o. FirstAt name o k t) same_fs (subst (λ o. FirstAt name fs o t) is_k f0.2) in
      let fp = first_part name x.fs x.parts k t first (λ i f ty e. let y = x.each i f ty e in (y.0, y.2)) in
      let here : FieldHas h w.memory r a x.parts k name t = x.each k name t (first_is name x.fs k t first) in
      let pair : (name, here.0) ≡ (name, fp.0) = some_same (name, here.0) (name, fp.0) (sym here.2 ∙ first_get name x.parts k fp.0 fp.1) in
      record {
        at = at;
        has = has;
        fs = x.fs;
        parts = x.parts;
        object = l.1 ∙ ap Some x.is;
        laid = subst (λ o. IsLaid h P.shapes w.memory r a (record_of at) o) x.is l.2;
        shape = x.shape;
        many = x.many;
        each = x.each;
        first = first;
        v = fp.0;
        is_first = fp.1;
        here = here;
        same = ap (λ (o : ℕ × Value). o.1) pair;
      }

  -- an element
  pub record ElementAt (r i a : ℕ) (ty : Ty) : Type 0 where
    pub at : ℕ
    pub count : ℕ
    pub has : slice_get h.objects r ≡ Some (a, array_of at count)
    pub values : List Value
    pub object : slice_get s.objects r ≡ Some (elements values)
    pub counted : count ≡ length values
    pub few : length values < 2 ^ 26
    pub length_is : h.at a ≡ worlds.word (length values)
    pub shape : looked_up at P.shapes ≡ Some (array_shape ty)
    pub each : (k : ℕ) (v : Value) → slice_get values k ≡ Some v → ElementHas h w.memory r a k ty v
    pub v : Value
    pub got : slice_get values i ≡ Some v
    pub here : ElementHas h w.memory r a i ty v

  pub element_at : (r i at a count : ℕ) (t : Ty) → slice_get h.objects r ≡ Some (a, array_of at count) → looked_up at P.shapes ≡ Some (array_shape t) →
      i < count → ElementAt r i a t
  element_at r i at a count t has shape lt =
      let l = hh.invariant.laid r (a, array_of at count) has in
      let x = laid_as_array h P.shapes w.memory r a at count l.0 l.2 in
      let same_t : x.t ≡ t = let e : Some (array_shape x.t) ≡ Some (array_shape t) = sym x.shape ∙ shape in cc in
      let g = get_below x.values i (subst (λ o. i < o) x.counted lt) in
      record {
        at = at;
        count = count;
        has = has;
        values = x.values;
        object = l.1 ∙ ap Some x.is;
        counted = x.counted;
        few = x.few;
        length_is = x.length_is;
        shape = shape;
        each = λ k v e. subst (λ o. ElementHas h w.memory r a k o v) same_t (x.each k v e);
        v = g.0;
        got = g.1;
        here = subst (λ o. ElementHas h w.memory r a i o g.0) same_t (x.each i g.0 g.1);
      }

  pub read_at : (l : Location) (ty : Ty) (u : ℕ) → IsAt P p.places h types l ty u → ReadAt l ty u
  read_at _ _ _ (a_slot place u ty is_of type_is) =
      let ts = with_temps p.scene.depth t p.others in
      let y = held_word h types s w.memory ts (cell u) place (p.places (cell u)) is_of (hh.invariant.holds (cell u)) in
      record {
        v = y.2.0;
        word = y.0;
        there = y.1;
        stands = subst (λ o. Stands h y.2.0 o y.0) (some_same y.2.1 ty (sym y.2.3 ∙ type_is)) y.2.4;
        gives = λ go out i. ap (λ o. rest_run (with_found o go) s i) y.2.2;
      }
  read_at _ _ _ (a_field r name at a k ty fs has shape field) =
      let x = field_at r name at a k ty fs has shape field in
      record {
        v = x.v;
        word = x.here.1;
        there = x.here.4;
        stands = subst (λ o. Stands h o ty x.here.1) x.same x.here.5;
        gives = λ go out i.
            ap (λ o. rest_run (with_found o (λ object w2. with_found (field_in name object) go w2)) s i) x.object ∙
            ap (λ o. rest_run (with_found o go) s i) (get_first name x.parts k x.v x.is_first);
      }
  read_at _ _ _ (an_element r i at a count ty has shape lt) =
      let x = element_at r i at a count ty has shape lt in
      record {
        v = x.v;
        word = x.here.0;
        there = x.here.2;
        stands = x.here.3;
        gives = λ go out j.
            ap (λ o. rest_run (with_found o (λ object w2. with_found (element_in i object) go w2)) s j) x.object ∙
            ap (λ o. rest_run (with_found o go) s j) x.got;
      }

  -- What an assignment does there.
  pub record WroteAt (l : Location) (v : Value) (u word : ℕ) : Type 0 where
    pub s1 : SourceWorld
    pub m1 : Memory
    pub stored : store w.memory u word ≡ Some m1
    pub after : Holds P p h types s1 (record w { memory = m1 }) t
    pub does : (go : Unit {0} → Rest) (out : Rest) (i : ℕ) → rest_run (writes_to P l v go out) s i ≡ rest_run (go tt) s1 i

  -- a part of an object is a word that can be replaced
  abbrev PartStored : (u word : ℕ) → Type 0
  PartStored u word = (m1 : Memory) × (store w.memory u word ≡ Some m1) × IsStored w.memory m1 u word × (m1.statics ≡ w.memory.statics)

  stored_part : (r k a u old word : ℕ) (made : Made) → slice_get h.objects r ≡ Some (a, made) → h.at u ≡ part r k → a ≤ u → load w.memory u ≡ Some old → word < 2 ^ 32 → PartStored u word
  stored_part r k a u old word made has is_part le there small =
      let known = hh.invariant.known u (λ f. part_is_known r k (sym is_part ∙ f)) in
      let low : heap_base ≤ a = (hh.invariant.in_heap r (a, made) has).0 in
      part_stored w.memory u old word hh.invariant.memory.whole small there (omega (arith, low, le)) known.1 known.0

  holds_part : (r k a u word : ℕ) (made : Made) (y : Object) → h.at u ≡ part r k → slice_get h.objects r ≡ Some (a, made) → (z : PartStored u word) →
      IsLaid h P.shapes z.0 r a made y → Holds P p h types (put_object r y s) (record w { memory = z.0 }) t
  holds_part r k a u word made y is_part has z laid = record {
    invariant = part_keeps P.shapes P.heap (floor P) p.places h types s w (record w { memory = z.0 }) (with_temps p.scene.depth t p.others) hh.invariant r a u word made y k is_part
        heap_below has z.2 refl laid;
    weight = hh.weight;
    depth = hh.depth;
    statics = z.3 ∙ hh.statics;
    literals = hh.literals;
  }

  -- a variable in a slot has another value
  pub slot_assigned : (place u : ℕ) (ty : Ty) (v : Value) (word : ℕ) → IsOf place (p.places (cell u)) → slice_get types place ≡ Some ty → Stands h v ty word →
      (store w.memory u word ≡ Some (put u (Has word) w.memory)) × (load (put u (Has word) w.memory) u ≡ Some word) ×
      Holds P p h types (put_variable place v s) (record w { memory = put u (Has word) w.memory }) t
  slot_assigned place u ty v word is_of type_is st =
      let ts = with_temps p.scene.depth t p.others in
      let here : p.places (cell u) ≡ variable place = plainly (p.places (cell u)) place (premises.cells_are_plain p h types s w t hh u) is_of in
      let used : p.places (cell u) ≢ nowhere = of_is_used place (p.places (cell u)) is_of in
      let up = hh.invariant.above u used in
      let under = heap_below in
      let even = up.2 in
      let high : heap_base + length w.memory.heap ≤ u = omega (arith, under, up.0) in
      let is_open : w.memory.stack u ≢ Closed = holds_open h types s w.memory ts u (p.places (cell u)) hh.invariant.memory.whole even high used (hh.invariant.holds (cell u)) in
      let x = slot_written w.memory u word ts hh.invariant.memory.whole even high is_open in
      let w1 : World = record w { memory = put u (Has word) w.memory } in (
        x.0,
        x.1.there,
        record {
          invariant = assigned P.shapes P.heap (floor P) p.places h types s w w1 ts ts hh.invariant (cell u) word x.1 refl
              (λ b known. known_apart b u known up.0) (λ a e. subst (λ o. (floor P ≤ o) × (o < stack_top) × (o % 4 ≡ 0)) (ap index_of e) up) place v ty here type_is st;
          weight = hh.weight;
          depth = hh.depth;
          statics = hh.statics;
          literals = hh.literals;
        },
      )

  pub write_at : (l : Location) (ty : Ty) (u : ℕ) (v : Value) (word : ℕ) → IsAt P p.places h types l ty u → HasValues ty → Stands h v ty word → WroteAt l v u word
  write_at _ _ _ v word (a_slot place u ty is_of type_is) values st =
      let x = slot_assigned place u ty v word is_of type_is st in
      record {
        s1 = put_variable place v s;
        m1 = put u (Has word) w.memory;
        stored = x.0;
        after = x.2;
        does = λ go out i. (read_at (in_variable place) ty u (a_slot place u ty is_of type_is)).gives (λ _ w2. go tt (put_variable place v w2)) out i;
      }
  write_at _ _ _ v word (a_field r name at a k ty fs has shape field) values st =
      let x = field_at r name at a k ty fs has shape field in
      let z = stored_part r k a (a + 4 * k) x.here.1 word (record_of x.at) x.has x.here.3 (omega arith) x.here.4 (stands_small v ty word values st) in
      let set_is = set_first name x.parts k x.v v x.is_first in
      let laid : IsLaid h P.shapes z.0 r a (record_of x.at) (fields (set_field name v x.parts)) =
      subst (λ o. IsLaid h P.shapes z.0 r a (record_of x.at) (fields o)) (sym set_is)
      (laid_record x.at x.fs (slice_set x.parts k (name, v)) x.shape (set_length x.parts k (name, v) ∙ x.many)
      (λ i f t e. field_by h w.memory z.0 r a k word v ty st x.parts x.v name (first_get name x.parts k x.v x.is_first) x.here.3 z.2 i f t
      (λ is. let pair : (f, t) ≡ (name, ty) = some_same (f, t) (name, ty) (sym e ∙ (ap (λ o. slice_get x.fs o) is ∙ first_is name x.fs k ty x.first)) in
      (ap (λ (o : ℕ × Ty). o.0) pair, ap (λ (o : ℕ × Ty). o.1) pair))
      (i == k) refl (x.each i f t e))) in
      record {
        s1 = put_object r (fields (set_field name v x.parts)) s;
        m1 = z.0;
        stored = z.1;
        after = holds_part r k a (a + 4 * k) word (record_of x.at) (fields (set_field name v x.parts)) x.here.3 x.has z laid;
        does = λ go out i.
            (read_at (in_field r name) ty (a + 4 * k) (a_field r name at a k ty fs has shape field)).gives
            (λ _ w2. with_found (slice_get w2.objects r) (λ object w3. go tt (put_object r (with_field name v object) w3)) w2) out i ∙
            ap (λ o. rest_run (with_found o (λ object w3. go tt (put_object r (with_field name v object) w3))) s i) x.object;
      }
  write_at _ _ _ v word (an_element r i at a count ty has shape lt) values st =
      let x = element_at r i at a count ty has shape lt in
      let u : ℕ = a + 4 + 4 * i in
      let z = stored_part r i a u x.here.0 word (array_of x.at x.count) x.has x.here.1 (omega arith) x.here.2 (stands_small v ty word values st) in
      let many : length (slice_set x.values i v) ≡ length x.values = set_length x.values i v in
      let laid : IsLaid h P.shapes z.0 r a (array_of x.at x.count) (elements (slice_set x.values i v)) =
      subst (λ o. IsLaid h P.shapes z.0 r a (array_of x.at o) (elements (slice_set x.values i v))) (many ∙ sym x.counted)
      (laid_array x.at ty (slice_set x.values i v) x.shape (subst (λ o. o < 2 ^ 26) (sym many) x.few) (x.length_is ∙ ap (λ o. worlds.word o) (sym many))
      (λ k y e. element_by h w.memory z.0 r a i word v ty st x.values x.v x.got x.here.1 z.2 k (k == i) refl (λ y2 e2. x.each k y2 e2) y e)) in
      record {
        s1 = put_object r (elements (slice_set x.values i v)) s;
        m1 = z.0;
        stored = z.1;
        after = holds_part r i a u word (array_of x.at x.count) (elements (slice_set x.values i v)) x.here.1 x.has z laid;
        does = λ go out j.
            (read_at (in_element r i) ty u (an_element r i at a count ty has shape lt)).gives
            (λ _ w2. with_found (slice_get w2.objects r) (λ object w3. go tt (put_object r (with_element i v object) w3)) w2) out j ∙
            ap (λ o. rest_run (with_found o (λ object w3. go tt (put_object r (with_element i v object) w3))) s j) x.object;
      }
