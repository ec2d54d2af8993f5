-- A field or an element is stored to: the object has another part, and the heap another word.
use Rattle.std.proofs.Common.{◌≡◌, ◌≢◌, ℕ, zero, suc, ◌+◌, ◌-◌, ◌*◌, ◌%◌, ◌^◌, ◌<◌, ◌≤◌, ◌==◌, List, [], ◌∷◌, Option, Some, None, Bool, true, false, refl, sym, ap, ◌∙◌}
use Rattle.std.proofs.Common.{arith, subst, inl, inr, eqb-true, eq-eqb}
use Rattle.std.specs.Prelude.{if◌then◌else◌, slice_get, slice_set, length, All, ◌⊎◌}
use Rattle.tg_machine_state.specs.State.{heap_base}
use Rattle.tg_symbols.specs.Tables.{looked_up}
use Rattle.tg_semantics.specs.Values.{Value, SourceWorld, Object, fields, elements, put_object}
use Rattle.tg_semantics.specs.Operators.{get_field, set_field, with_field, with_element}
use Rattle.tg_typecheck.specs.Types.{Ty, Shape, record_shape, array_shape}
use Rattle.tg_typecheck.specs.Typing.{placed}
use Rattle.tg_tree.specs.Memory.{Memory, load, store}
use Rattle.tg_tree.specs.Actions.{World}
use Rattle.tg_runtime_proof.specs.Memories.{IsWhole}
use Rattle.tg_runtime_proof.proofs.Memories.{store_heap, heap_set}
use Rattle.tg_runtime_proof.proofs.Stores.{IsStored, can_store}
use Rattle.tg_translate_proof.specs.glue.Worlds.{Holdings, unknown, word, part, Made, record_of, array_of, Stands, IsLaid, laid_record, laid_array, Key, cell}
use Rattle.tg_translate_proof.specs.glue.Worlds.{temporary, Content, nowhere, Places, AllTemps, word_of, HoldsAt, Invariant}
use Rattle.tg_translate_proof.proofs.state.Keys.{at_other, laid_on, get_set, get_other, set_length, some_same}
use Rattle.std.proofs.lemmas.Bool.{cases_eq}

-- The fields of a record: the first of a name, and its place.

pub data FirstAt (f : ℕ) : List (ℕ × Ty) → ℕ → Ty → Type 0 where
  here : (t : Ty) (fs : List (ℕ × Ty)) → FirstAt f ((f, t) ∷ fs) 0 t
  next : (one : ℕ × Ty) (fs : List (ℕ × Ty)) (i : ℕ) (t : Ty) → (one.0 == f) ≡ false → FirstAt f fs i t → FirstAt f (one ∷ fs) (suc i) t

pub first_of : (f from : ℕ) (fs : List (ℕ × Ty)) (k : ℕ) (t : Ty) → placed f from fs ≡ Some (k, t) → (i : ℕ) × (k ≡ from + i) × FirstAt f fs i t
first_of f from [] k t e = cc
first_of f from (one ∷ rest) k t e = by (one.0 == f) refl (λ g. first_of f (suc from) rest k t g) e
  where
    by : (b : Bool) → (one.0 == f) ≡ b → (placed f (suc from) rest ≡ Some (k, t) → (i : ℕ) × (k ≡ suc from + i) × FirstAt f rest i t) →
        (if b then Some (from, one.1) else placed f (suc from) rest) ≡ Some (k, t) → (i : ℕ) × (k ≡ from + i) × FirstAt f (one ∷ rest) i t
    by true g h e =
        let pair : (from, one.1) ≡ (k, t) = some_same (from, one.1) (k, t) e in
        let same : from ≡ k = ap (λ (o : ℕ × Ty). o.0) pair in (
          0,
          omega (arith, same),
          subst (λ o. FirstAt f (one ∷ rest) 0 o) (ap (λ (o : ℕ × Ty). o.1) pair)
              (subst (λ o. FirstAt f ((o, one.1) ∷ rest) 0 one.1) (sym (eqb-true one.0 f g)) (here one.1 rest)),
        )
    by false g h e = let x = h e in let is = x.1 in (suc x.0, omega (arith, is), next one rest x.0 t g x.2)

-- the first field of a name in a record
pub data FirstPart (f : ℕ) : List (ℕ × Value) → ℕ → Value → Type 0 where
  this : (name : ℕ) (v : Value) (parts : List (ℕ × Value)) → (name == f) ≡ true → FirstPart f ((name, v) ∷ parts) 0 v
  later : (name : ℕ) (u : Value) (parts : List (ℕ × Value)) (i : ℕ) (v : Value) → (name == f) ≡ false → FirstPart f parts i v → FirstPart f ((name, u) ∷ parts) (suc i) v

-- parts have the names of fields
abbrev pub HaveNames : List (ℕ × Ty) → List (ℕ × Value) → Type 0
HaveNames fs parts = (k name : ℕ) (t : Ty) → slice_get fs k ≡ Some (name, t) → (v : Value) × (slice_get parts k ≡ Some (name, v))

pub first_part : (f : ℕ) (fs : List (ℕ × Ty)) (parts : List (ℕ × Value)) (i : ℕ) (t : Ty) → FirstAt f fs i t → HaveNames fs parts → (v : Value) × FirstPart f parts i v
first_part f _ [] _ _ (here t fs) names = let x = names 0 f t refl in cc
first_part f _ ((name, v) ∷ parts) _ _ (here t fs) names =
    let x = names 0 f t refl in
    let e : (name, v) ≡ (f, x.0) = some_same (name, v) (f, x.0) x.1 in
    (v, this name v parts (eq-eqb name f (ap (λ (o : ℕ × Value). o.0) e)))
first_part f _ [] _ _ (next one fs i t ne rest) names = let x = names 0 one.0 one.1 refl in cc
first_part f _ ((name, u) ∷ parts) _ _ (next one fs i t ne rest) names =
    let x = names 0 one.0 one.1 refl in
    let e : (name, u) ≡ (one.0, x.0) = some_same (name, u) (one.0, x.0) x.1 in
    let y = first_part f fs parts i t rest (λ k n z g. names (suc k) n z g) in
    (y.0, later name u parts i y.0 (ap (λ (o : ℕ × Value). o.0 == f) e ∙ ne) y.1)

pub get_first : (f : ℕ) (parts : List (ℕ × Value)) (i : ℕ) (v : Value) → FirstPart f parts i v → get_field f parts ≡ Some v
get_first f _ _ _ (this name v parts e) = ap (λ b. if b then Some v else get_field f parts) e
get_first f _ _ _ (later name u parts i v e rest) = ap (λ b. if b then Some u else get_field f parts) e ∙ get_first f parts i v rest

pub first_get : (f : ℕ) (parts : List (ℕ × Value)) (i : ℕ) (v : Value) → FirstPart f parts i v → slice_get parts i ≡ Some (f, v)
first_get f _ _ _ (this name v parts e) = ap (λ o. Some (o, v)) (eqb-true name f e)
first_get f _ _ _ (later name u parts i v e rest) = first_get f parts i v rest

-- it is set there
pub set_first : (f : ℕ) (parts : List (ℕ × Value)) (i : ℕ) (v u : Value) → FirstPart f parts i v → set_field f u parts ≡ slice_set parts i (f, u)
set_first f _ _ _ u (this name v parts e) = ap (λ b. if b then (f, u) ∷ parts else (name, v) ∷ set_field f u parts) e
set_first f _ _ _ u (later name x parts i v e rest) =
    ap (λ b. if b then (f, u) ∷ parts else (name, x) ∷ set_field f u parts) e ∙ ap (λ o. (name, x) ∷ o) (set_first f parts i v u rest)

pub first_is : (f : ℕ) (fs : List (ℕ × Ty)) (i : ℕ) (t : Ty) → FirstAt f fs i t → slice_get fs i ≡ Some (f, t)
first_is f _ _ _ (here t fs) = refl
first_is f _ _ _ (next one fs i t ne rest) = first_is f fs i t rest

-- A word of the heap that is known to be a part can be replaced.
pub part_stored : (m : Memory) (a u v : ℕ) → IsWhole m → v < 2 ^ 32 → load m a ≡ Some u → heap_base ≤ a → a < heap_base + length m.heap → a % 4 ≡ 0 →
    (m1 : Memory) × (store m a v ≡ Some m1) × IsStored m m1 a v × (m1.statics ≡ m.statics)
part_stored m a u v w small has low high even =
    let x = can_store m a u v w small has in
    let i : ℕ = a - heap_base in
    let is : a ≡ heap_base + i = omega (arith, low) in
    let e : store m a v ≡ Some (heap_set m i v) = store_heap m i v a w is (omega (arith, low, high)) (omega (arith, low, even)) in
    let same : x.0 ≡ heap_set m i v = some_same x.0 (heap_set m i v) (sym x.1 ∙ e) in
    (x.0, x.1, x.2, ap (λ o. o.statics) same)

part_same : (r i q j : ℕ) → part r i ≡ part q j → (r ≡ q) × (i ≡ j)
part_same r i q j e = (cc, cc)

not_word : (r i v : ℕ) → part r i ≢ word v
not_word r i v e = cc

-- The object with its new part is laid.

-- what a field has
abbrev pub FieldHas : Holdings → Memory → (r a : ℕ) → List (ℕ × Value) → (i name : ℕ) → Ty → Type 0
FieldHas h m r a parts i name ty =
    (v : Value) × (z : ℕ) × (slice_get parts i ≡ Some (name, v)) × (h.at (a + 4 * i) ≡ part r i) × (load m (a + 4 * i) ≡ Some z) × Stands h v ty z

-- and an element
abbrev pub ElementHas : Holdings → Memory → (r a : ℕ) → (i : ℕ) → Ty → Value → Type 0
ElementHas h m r a i ty v = (z : ℕ) × (h.at (a + 4 + 4 * i) ≡ part r i) × (load m (a + 4 + 4 * i) ≡ Some z) × Stands h v ty z

module _ (h : Holdings) (m m1 : Memory) (r a k u : ℕ) (v : Value) (t : Ty) (st : Stands h v t u) where
  pub field_by : (parts : List (ℕ × Value)) (old : Value) (f : ℕ) → slice_get parts k ≡ Some (f, old) → h.at (a + 4 * k) ≡ part r k → IsStored m m1 (a + 4 * k) u →
      (i name : ℕ) (ty : Ty) → (i ≡ k → (name ≡ f) × (ty ≡ t)) → (b : Bool) → (i == k) ≡ b → FieldHas h m r a parts i name ty → FieldHas h m1 r a (slice_set parts k (f, v)) i name ty
  field_by parts old f there at stored i name ty same true e x =
      let is : i ≡ k = eqb-true i k e in
      let n = same is in (
        v,
        u,
        ap (λ o. slice_get (slice_set parts k (f, v)) o) is ∙ (get_set parts k (f, v) (f, old) there ∙ ap (λ o. Some (o, v)) (sym n.0)),
        x.3,
        ap (λ o. load m1 (a + 4 * o)) is ∙ stored.there,
        subst (λ o. Stands h v o u) (sym n.1) st,
      )
  field_by parts old f there at stored i name ty same false e x =
      let ne : k ≢ i = λ g. let o : (i == k) ≡ true = eq-eqb i k (sym g) in cc in
      let far : a + 4 * i ≢ a + 4 * k = λ g. ne (omega (arith, g)) in
      (x.0, x.1, get_other parts k i (f, v) ne ∙ x.2, x.3, stored.apart (a + 4 * i) far ∙ x.4, x.5)

  pub element_by : (values : List Value) (old : Value) → slice_get values k ≡ Some old → h.at (a + 4 + 4 * k) ≡ part r k → IsStored m m1 (a + 4 + 4 * k) u →
      (i : ℕ) (b : Bool) → (i == k) ≡ b → ((x : Value) → slice_get values i ≡ Some x → ElementHas h m r a i t x) →
      (x : Value) → slice_get (slice_set values k v) i ≡ Some x → ElementHas h m1 r a i t x
  element_by values old there at stored i true e each x has =
      let is : i ≡ k = eqb-true i k e in
      let same : x ≡ v = some_same x v (sym has ∙ (ap (λ o. slice_get (slice_set values k v) o) is ∙ get_set values k v old there)) in
      (u, ap (λ o. h.at (a + 4 + 4 * o)) is ∙ (at ∙ ap (λ o. part r o) (sym is)), ap (λ o. load m1 (a + 4 + 4 * o)) is ∙ stored.there, subst (λ o. Stands h o t u) (sym same) st)
  element_by values old there at stored i false e each x has =
      let ne : k ≢ i = λ g. let o : (i == k) ≡ true = eq-eqb i k (sym g) in cc in
      let far : a + 4 + 4 * i ≢ a + 4 + 4 * k = λ g. ne (omega (arith, g)) in
      let y = each x (sym (get_other values k i v ne) ∙ has) in
      (y.0, y.1, stored.apart (a + 4 + 4 * i) far ∙ y.2, y.3)

-- what an object that was made as a record is laid as
pub record LaidRecord (h : Holdings) (shapes : List (ℕ × Shape)) (m : Memory) (r a at : ℕ) (x : Object) : Type 0 where
  pub fs : List (ℕ × Ty)
  pub parts : List (ℕ × Value)
  pub is : x ≡ fields parts
  pub shape : looked_up at shapes ≡ Some (record_shape fs)
  pub many : length parts ≡ length fs
  pub each : (k name : ℕ) (t : Ty) → slice_get fs k ≡ Some (name, t) → FieldHas h m r a parts k name t

pub record LaidArray (h : Holdings) (shapes : List (ℕ × Shape)) (m : Memory) (r a at count : ℕ) (x : Object) : Type 0 where
  pub t : Ty
  pub values : List Value
  pub is : x ≡ elements values
  pub counted : count ≡ length values
  pub shape : looked_up at shapes ≡ Some (array_shape t)
  pub few : length values < 2 ^ 26
  pub length_is : h.at a ≡ word (length values)
  pub each : (k : ℕ) (v : Value) → slice_get values k ≡ Some v → ElementHas h m r a k t v

pub laid_as_record : (h : Holdings) (shapes : List (ℕ × Shape)) (m : Memory) (r a at : ℕ) (x : Object) → IsLaid h shapes m r a (record_of at) x → LaidRecord h shapes m r a at x
laid_as_record h shapes m r a _ _ (laid_record at fs parts shape many each) = record { fs = fs; parts = parts; is = refl; shape = shape; many = many; each = each }

pub laid_as_array : (h : Holdings) (shapes : List (ℕ × Shape)) (m : Memory) (r a at count : ℕ) (x : Object) → IsLaid h shapes m r a (array_of at count) x → LaidArray h shapes m r a at count x
laid_as_array h shapes m r a _ _ _ (laid_array at t values shape few length_is each) =
    record { t = t; values = values; is = refl; counted = refl; shape = shape; few = few; length_is = length_is; each = each }

-- The invariant after a store to a part.
module _ (shapes : List (ℕ × Shape)) (room floor : ℕ) (p : Places) (h : Holdings) (types : List Ty) (s : SourceWorld) (w w' : World) (ts : AllTemps)
    (inv : Invariant shapes room floor p h types s w ts) (r a u v : ℕ) (made : Made) (y : Object) (k : ℕ) (is_part : h.at u ≡ part r k) (below : heap_base + length w.memory.heap ≤ floor)
    (has : slice_get h.objects r ≡ Some (a, made)) (stored : IsStored w.memory w'.memory u v) (input : w'.input ≡ w.input) (laid : IsLaid h shapes w'.memory r a made y) where
  apart : (b : ℕ) → b ≢ u → load w'.memory b ≡ load w.memory b
  apart = stored.apart

  key_apart : (b : ℕ) → p (cell b) ≢ nowhere → b ≢ u
  key_apart b ne e =
      let up = inv.above b ne in
      let low = inv.known u (λ f. let g = sym is_part ∙ f in cc) in
      omega (arith, e, up.0, low.1, below)

  word_on : (key : Key) (c : Content) → p key ≡ c → c ≢ nowhere → word_of w'.memory ts key ≡ word_of w.memory ts key
  word_on (cell b) c e ne = apart b (key_apart b (λ f. ne (sym e ∙ f)))
  word_on (temporary d i) c e ne = refl

  open_on : (key : Key) (c : Content) → p key ≡ c → HoldsAt h types s w.memory ts key c → HoldsAt h types (put_object r y s) w'.memory ts key c
  open_on key c e x =
      at_other h types types s (put_object r y s) w.memory w'.memory ts ts key c (word_on key c e)
      (λ b is ne o f. o (sym (stored.cells b (key_apart b (λ g. ne (sym e ∙ (ap p is ∙ g))))) ∙ f))
      (λ l z of o. o) x

  pub part_keeps : Invariant shapes room floor p h types (put_object r y s) w' ts
  part_keeps = record {
    holds = λ key. open_on key (p key) refl (inv.holds key);
    once = inv.once;
    above = inv.above;
    words = λ b x e. apart b (λ f. not_word r k x (sym is_part ∙ ap h.at (sym f) ∙ e)) ∙ inv.words b x e;
    once_laid = inv.once_laid;
    owned = inv.owned;
    laid = λ q o e. laid_at q o e (r == q) refl;
    objects = inv.objects ∙ sym (set_length s.objects r y);
    variables = inv.variables;
    known = λ b ne. let z = inv.known b ne in (z.0, subst (λ o. b < heap_base + o) (sym stored.heap) z.1);
    addresses = inv.addresses;
    in_heap = λ q o e. let z = inv.in_heap q o e in (z.0, subst (λ n. o.0 < heap_base + n) (sym stored.heap) z.1);
    memory = record { whole = stored.whole; taken = subst (λ z. z ≤ room) (sym stored.heap) inv.memory.taken; most = inv.memory.most };
    heap = stored.heap ∙ inv.heap;
    input = input ∙ inv.input;
    input_bytes = subst (λ z. All (λ b. b < 256) z) (sym input) inv.input_bytes;
  }
    where
      laid_at : (q : ℕ) (o : ℕ × Made) → slice_get h.objects q ≡ Some o → (b : Bool) → (r == q) ≡ b →
          (x : Object) × (slice_get (slice_set s.objects r y) q ≡ Some x) × IsLaid h shapes w'.memory q o.0 o.1 x
      laid_at q o e true f =
          let same : r ≡ q = eqb-true r q f in
          let old = inv.laid r (a, made) has in
          let pair : (a, made) ≡ o = some_same (a, made) o (sym has ∙ (ap (λ z. slice_get h.objects z) same ∙ e)) in (
            y,
            ap (λ z. slice_get (slice_set s.objects r y) z) (sym same) ∙ get_set s.objects r y old.0 old.1,
            subst (λ (z : ℕ × Made). IsLaid h shapes w'.memory q z.0 z.1 y) pair (subst (λ z. IsLaid h shapes w'.memory z a made y) same laid),
          )
      laid_at q o e false f =
          let ne : r ≢ q = λ g. let z : (r == q) ≡ true = eq-eqb r q g in cc in
          let old = inv.laid q o e in (
            old.0,
            get_other s.objects r q y ne ∙ old.1,
            laid_on h shapes w.memory w'.memory q o.0 o.1 old.0 (λ b i g. apart b (λ z. ne (part_same r k q i (sym is_part ∙ ap h.at (sym z) ∙ g)).0)) old.2,
          )
