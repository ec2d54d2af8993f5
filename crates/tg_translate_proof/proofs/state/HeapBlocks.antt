-- A block after the taken heap: holdings grow by what it holds, a string, an array or a record; all that was held stays.
use Rattle.std.proofs.Common.{◌≡◌, ◌≢◌, ℕ, zero, suc, ◌+◌, ◌-◌, ◌*◌, ◌%◌, ◌^◌, ◌<◌, ◌≤◌, List, [], ◌∷◌, ◌++◌, length, Option, Some, None, Bool, true, false, refl, sym, ap, ◌∙◌, arith, subst, inl, inr}
use Rattle.std.specs.Prelude.{if◌then◌else◌, nat_lt, slice_get, ◌⊎◌}
use Rattle.std.proofs.lemmas.Bool.{cases_lt, lt-ltb, le-ltb}
use Rattle.std.proofs.lemmas.List.{length-append}
use Rattle.tg_machine_state.specs.State.{word_at, heap_base, stack_top, most_room}
use Rattle.tg_simulation.specs.Bytes.{AreBytes}
use Rattle.tg_symbols.specs.Tables.{looked_up}
use Rattle.tg_semantics.specs.Values.{Value, Object, SourceWorld, fields, elements, add_object, add_heap}
use Rattle.tg_typecheck.specs.Types.{Ty, Shape}
use Rattle.tg_tree.specs.Memory.{Memory, Closed, load}
use Rattle.tg_tree.specs.Actions.{World, Temps}
use Rattle.tg_runtime_proof.specs.Memories.{IsMemory}
use Rattle.tg_runtime_proof.specs.laws.Serving.{with_block}
use Rattle.tg_runtime_proof.proofs.Memories.{blocked, block_apart, block_there, blocked_whole}
use Rattle.tg_translate_proof.specs.glue.Worlds as worlds
use Rattle.tg_translate_proof.specs.glue.Worlds.{Holdings, Stored, unknown, word, part, Made, GrowsTo, IsLaid, laid_record, laid_array, Stands, Invariant}
use Rattle.tg_translate_proof.specs.glue.Worlds.{Places, AllTemps, Key, cell, temporary, Content, nowhere, free, variable, kept, fixed, HoldsAt, HoldsVariable}
use Rattle.tg_translate_proof.specs.glue.Worlds.{word_of}
use Rattle.tg_translate_proof.proofs.state.ValueWords.{stands_grows}

-- What a block that is made relies on: a part is one of an object that there is, and an object begins in the heap that is
-- taken.
pub record AreOwned (h : Holdings) (taken : ℕ) : Type 0 where
  pub owned : (a r i : ℕ) → h.at a ≡ part r i → r < length h.objects
  pub below : (r : ℕ) (o : ℕ × Made) → slice_get h.objects r ≡ Some o → o.0 < heap_base + taken

-- Lists with one more at their end.

pub get_front : {A : Type 0} (xs ys : List A) (i : ℕ) (a : A) → slice_get xs i ≡ Some a → slice_get (xs ++ ys) i ≡ Some a
get_front [] ys i a e = cc
get_front (x ∷ xs) ys zero a e = e
get_front (x ∷ xs) ys (suc i) a e = get_front xs ys i a e

pub get_last : {A : Type 0} (xs : List A) (a : A) → slice_get (xs ++ a ∷ []) (length xs) ≡ Some a
get_last [] a = refl
get_last (x ∷ xs) a = get_last xs a

pub get_split : {A : Type 0} (xs : List A) (y : A) (i : ℕ) (a : A) → slice_get (xs ++ y ∷ []) i ≡ Some a →
    (slice_get xs i ≡ Some a) ⊎ ((i ≡ length xs) × (y ≡ a))
get_split [] y zero a e = inr (refl, some_is y a e)
  where
    some_is : {B : Type 0} (u v : B) → Some u ≡ Some v → u ≡ v
    some_is u v e = cc
get_split [] y (suc i) a e = cc
get_split (x ∷ xs) y zero a e = inl e
get_split (x ∷ xs) y (suc i) a e =
    elim (get_split xs y i a e) [
      | inl f ↦ inl f
      | inr f ↦ inr (ap suc f.0, f.1)
    ]

pub get_below : {A : Type 0} (xs : List A) (i : ℕ) (a : A) → slice_get xs i ≡ Some a → i < length xs
get_below [] i a e = cc
get_below (x ∷ xs) zero a e = omega arith
get_below (x ∷ xs) (suc i) a e = let lt = get_below xs i a e in omega (arith, lt)

-- What a block is said to hold, by offsets: it is there, and its parts are those of the next object.
pub record Fills (h : Holdings) (block : List ℕ) (new : (offset : ℕ) → Stored) : Type 0 where
  pub words : (o v : ℕ) → new o ≡ word v → word_at block o ≡ v
  pub known : (o : ℕ) → new o ≢ unknown → (o % 4 ≡ 0) × (o < length block)
  pub parts : (o r i : ℕ) → new o ≡ part r i → r ≡ length h.objects
  pub once : (o q r i : ℕ) → new o ≡ part r i → new q ≡ part r i → o ≡ q

module _ (shapes : List (ℕ × Shape)) (room floor : ℕ) (p : Places) (h : Holdings) (types : List Ty) (s : SourceWorld)
    (w : World) (ts : AllTemps) (inv : Invariant shapes room floor p h types s w ts)
    (own : AreOwned h (length w.memory.heap)) (high : heap_base + room ≤ floor) (block : List ℕ)
    (even : length block % 4 ≡ 0) (small : AreBytes block) (fits : length w.memory.heap + length block ≤ room)
    (new : ℕ → Stored) (fills : Fills h block new) where
  abbrev pub start : ℕ
  start = heap_base + length w.memory.heap

  abbrev pub at_block : ℕ → Stored
  at_block a = if nat_lt a start then h.at a else new (a - start)

  abbrev pub with_objects : List (ℕ × Made) → Holdings
  with_objects objects = record { at = at_block; objects = objects }

  abbrev memory : Memory
  memory = blocked block w.memory

  below_is : (a : ℕ) → a < start → at_block a ≡ h.at a
  below_is a lt = ap (λ b. if b then h.at a else new (a - start)) (lt-ltb a start lt)

  pub above_is : (a : ℕ) → start ≤ a → at_block a ≡ new (a - start)
  above_is a le = ap (λ b. if b then h.at a else new (a - start)) (le-ltb a start le)

  pub in_block : (o : ℕ) → at_block (start + o) ≡ new o
  in_block o = let e : start + o - start ≡ o = omega arith in above_is (start + o) (omega arith) ∙ ap new e

  old_at : (a : ℕ) → h.at a ≢ unknown → at_block a ≡ h.at a
  old_at a k = below_is a (inv.known a k).1

  pub grows : (objects : List (ℕ × Made)) →
      ((r : ℕ) (o : ℕ × Made) → slice_get h.objects r ≡ Some o → slice_get objects r ≡ Some o) →
      GrowsTo h (with_objects objects)
  grows objects keeps = record { at = old_at; objects = keeps }

  -- what is loaded as before
  load_old : (a : ℕ) → a < start → load memory a ≡ load w.memory a
  load_old a lt = block_apart w.memory block a inv.memory.whole (λ le. omega (arith, le, lt))

  load_high : (a : ℕ) → floor ≤ a → load memory a ≡ load w.memory a
  load_high a le = block_apart w.memory block a inv.memory.whole (λ _. omega (arith, le, high, fits))

  load_known : (a : ℕ) → h.at a ≢ unknown → load memory a ≡ load w.memory a
  load_known a k = load_old a (inv.known a k).1

  pub load_new : (o : ℕ) → o % 4 ≡ 0 → o < length block → load memory (start + o) ≡ Some (word_at block o)
  load_new o e lt = block_there w.memory block o inv.memory.whole lt e

  module _ (objects : List (ℕ × Made))
      (keeps : (r : ℕ) (o : ℕ × Made) → slice_get h.objects r ≡ Some o → slice_get objects r ≡ Some o) where
    abbrev g : Holdings
    g = with_objects objects

    stands_on : (v : Value) (t : Ty) (u : ℕ) → Stands h v t u → Stands g v t u
    stands_on v t u st = stands_grows h g v t u (grows objects keeps) st

    variable_on : (s1 : SourceWorld) → s1.variables ≡ s.variables → (l u : ℕ) → HoldsVariable h types s l u →
        HoldsVariable g types s1 l u
    variable_on s1 same l u x =
        (x.0, x.1, ap (λ o. slice_get o l) same ∙ x.2, x.3, stands_on x.0 x.1 u x.4)

    -- the words of keys are as they were: those of the stack are above the heap's room
    pub word_on : (k : Key) → p k ≢ nowhere → word_of memory ts k ≡ word_of w.memory ts k
    word_on (cell a) ne = load_high a (inv.above a ne).0
    word_on (temporary d i) ne = refl

    holds_on : (s1 : SourceWorld) → s1.variables ≡ s.variables → (k : Key) (c : Content) → p k ≡ c →
        HoldsAt h types s w.memory ts k c → HoldsAt g types s1 memory ts k c
    holds_on s1 same k nowhere e x = tt
    holds_on s1 same (cell a) free e x = x
    holds_on s1 same (temporary d i) free e x = x
    holds_on s1 same k (variable l) e x =
        (x.0, word_on k (λ f. let z = sym e ∙ f in cc) ∙ x.1, variable_on s1 same l x.0 x.2)
    holds_on s1 same (cell a) (kept l u) e x = absurd x
    holds_on s1 same (temporary d i) (kept l u) e x = (x.0, variable_on s1 same l u x.1)
    holds_on s1 same k (fixed u) e x = word_on k (λ f. let z = sym e ∙ f in cc) ∙ x

    -- a part of an object stays where it is
    laid_on : (r a : ℕ) (made : Made) (o : Object) → IsLaid h shapes w.memory r a made o → IsLaid g shapes memory r a made o
    laid_on r a _ _ (laid_record at fs parts shape many each) =
        laid_record at fs parts shape many (λ k name t e.
        let x = each k name t e in
        let k_ : h.at (a + 4 * k) ≢ unknown = λ f. let z = sym x.3 ∙ f in cc in
        (x.0, x.1, x.2, old_at (a + 4 * k) k_ ∙ x.3, load_known (a + 4 * k) k_ ∙ x.4, stands_on x.0 t x.1 x.5))
    laid_on r a _ _ (laid_array at t values shape few count each) =
        laid_array at t values shape few (old_at a (λ f. let z = sym count ∙ f in cc) ∙ count) (λ k v e.
        let x = each k v e in
        let k_ : h.at (a + 4 + 4 * k) ≢ unknown = λ f. let z = sym x.1 ∙ f in cc in
        (x.0, old_at (a + 4 + 4 * k) k_ ∙ x.1, load_known (a + 4 + 4 * k) k_ ∙ x.2, stands_on v t x.0 x.3))

    words_on : (a v : ℕ) → at_block a ≡ word v → load memory a ≡ Some v
    words_on a v e =
        elim (cases_lt a start) [
          | inl lt ↦ load_old a lt ∙ inv.words a v (sym (below_is a lt) ∙ e)
          | inr le ↦
              let o = a - start in
              let f : new o ≡ word v = sym (above_is a le) ∙ e in
              let k = fills.known o (λ z. let y = sym f ∙ z in cc) in
              let there : start + o ≡ a = omega (arith, le) in
              ap (load memory) (sym there) ∙ (load_new o k.0 k.1 ∙ ap Some (fills.words o v f))
        ]

    once_on : (a b r i : ℕ) → at_block a ≡ part r i → at_block b ≡ part r i → a ≡ b
    once_on a b r i ea eb =
        elim (cases_lt a start) [
          | inl la ↦
              elim (cases_lt b start) [
                | inl lb ↦ inv.once_laid a b r i (sym (below_is a la) ∙ ea) (sym (below_is b lb) ∙ eb)
                | inr mb ↦
                    let old = own.owned a r i (sym (below_is a la) ∙ ea) in
                    let next = fills.parts (b - start) r i (sym (above_is b mb) ∙ eb) in
                    absurd (omega (arith, old, next))
              ]
          | inr ma ↦
              elim (cases_lt b start) [
                | inl lb ↦
                    let old = own.owned b r i (sym (below_is b lb) ∙ eb) in
                    let next = fills.parts (a - start) r i (sym (above_is a ma) ∙ ea) in
                    absurd (omega (arith, old, next))
                | inr mb ↦
                    let same = fills.once (a - start) (b - start) r i (sym (above_is a ma) ∙ ea) (sym (above_is b mb) ∙ eb) in
                    omega (arith, same, ma, mb)
              ]
        ]

    known_on : (a : ℕ) → at_block a ≢ unknown → (a % 4 ≡ 0) × (a < heap_base + length (w.memory.heap ++ block))
    known_on a k =
        let long = length-append w.memory.heap block in
        elim (cases_lt a start) [
          | inl lt ↦ let x = inv.known a (λ e. k (below_is a lt ∙ e)) in (x.0, omega (arith, lt, long))
          | inr le ↦
              let x = fills.known (a - start) (λ e. k (above_is a le ∙ e)) in
              let x0 = x.0 in
              let x1 = x.1 in
              let words = inv.memory.whole.heap_words in
              (omega (arith, le, x0, words), omega (arith, le, x1, long))
        ]

    memory_on : IsMemory room memory
    memory_on =
        let long = length-append w.memory.heap block in
        let most = inv.memory.most in
        record {
          whole = blocked_whole w.memory block inv.memory.whole even (omega (arith, fits, most)) small;
          taken = omega (arith, long, fits);
          most = inv.memory.most;
        }

  heap_on : length (w.memory.heap ++ block) ≡ s.heap + length block
  heap_on =
      let long = length-append w.memory.heap block in
      let same = inv.heap in
      omega (arith, long, same)

  same_objects : (r : ℕ) (o : ℕ × Made) → slice_get h.objects r ≡ Some o → slice_get h.objects r ≡ Some o
  same_objects r o e = e

  -- a block of words, which a string has: no object more
  pub with_words : ((o r i : ℕ) → new o ≡ part r i → ⊥) →
      Invariant shapes room floor p (with_objects h.objects) types (add_heap (length block) s) (with_block block w) ts
  with_words none = record {
    holds = λ k. holds_on h.objects same_objects (add_heap (length block) s) refl k (p k) refl (inv.holds k);
    once = inv.once;
    above = inv.above;
    words = words_on h.objects same_objects;
    once_laid = once_on h.objects same_objects;
    owned = λ a r i e.
        elim (cases_lt a start) [
          | inl lt ↦ own.owned a r i (sym (below_is a lt) ∙ e)
          | inr le ↦ absurd (none (a - start) r i (sym (above_is a le) ∙ e))
        ];
    laid = λ r o e.
        let x = inv.laid r o e in
        (x.0, x.1, laid_on h.objects same_objects r o.0 o.1 x.0 x.2);
    objects = inv.objects;
    variables = inv.variables;
    known = known_on h.objects same_objects;
    addresses = inv.addresses;
    in_heap = λ r o e. let y = inv.in_heap r o e in let long = length-append w.memory.heap block in let above = y.1 in (y.0, omega (arith, above, long));
    memory = memory_on h.objects same_objects;
    heap = heap_on;
    input = inv.input;
    input_bytes = inv.input_bytes;
  }

  -- a block of a new object's parts
  module _ (made : Made) (object : Object) where
    abbrev pub objects_more : List (ℕ × Made)
    objects_more = h.objects ++ (start, made) ∷ []

    kept_front : (r : ℕ) (o : ℕ × Made) → slice_get h.objects r ≡ Some o → slice_get objects_more r ≡ Some o
    kept_front r o e = get_front h.objects ((start, made) ∷ []) r o e

    pub object_grows : GrowsTo h (with_objects objects_more)
    object_grows = grows objects_more kept_front

    module _ (laid : IsLaid (with_objects objects_more) shapes memory (length h.objects) start made object) where
      laid_more : (r : ℕ) (o : ℕ × Made) → slice_get objects_more r ≡ Some o →
          (x : Object) × (slice_get (s.objects ++ object ∷ []) r ≡ Some x) ×
          IsLaid (with_objects objects_more) shapes memory r o.0 o.1 x
      laid_more r o e =
          elim (get_split h.objects (start, made) r o e) [
            | inl f ↦
                let x = inv.laid r o f in
                (x.0, get_front s.objects (object ∷ []) r x.0 x.1, laid_on objects_more kept_front r o.0 o.1 x.0 x.2)
            | inr f ↦ (
              object,
              ap (λ i. slice_get (s.objects ++ object ∷ []) i) (f.0 ∙ inv.objects) ∙ get_last s.objects object,
              subst (λ q. IsLaid (with_objects objects_more) shapes memory r q.0 q.1 object) f.1
                  (subst (λ i. IsLaid (with_objects objects_more) shapes memory i start made object) (sym f.0) laid),
            )
          ]

      addresses_more : (q r : ℕ) (o z : ℕ × Made) → q < r → slice_get objects_more q ≡ Some o →
          slice_get objects_more r ≡ Some z → o.0 < z.0
      addresses_more q r o z lt eo ez =
          elim (get_split h.objects (start, made) r z ez) [
            | inl f ↦
                elim (get_split h.objects (start, made) q o eo) [
                  | inl e ↦ inv.addresses q r o z lt e f
                  | inr e ↦ let b = get_below h.objects r z f in let e0 = e.0 in absurd (omega (arith, lt, b, e0))
                ]
            | inr f ↦
                elim (get_split h.objects (start, made) q o eo) [
                  | inl e ↦ subst (λ j. o.0 < j) (ap (λ (j : ℕ × Made). j.0) f.1) (own.below q o e)
                  | inr e ↦ let e0 = e.0 in let f0 = f.0 in absurd (omega (arith, lt, e0, f0))
                ]
          ]

      in_heap_more : 0 < length block → (r : ℕ) (o : ℕ × Made) → slice_get objects_more r ≡ Some o → (heap_base ≤ o.0) × (o.0 < heap_base + length (w.memory.heap ++ block))
      in_heap_more some r o e =
          elim (get_split h.objects (start, made) r o e) [
            | inl f ↦ let y = inv.in_heap r o f in let long = length-append w.memory.heap block in let above = y.1 in (y.0, omega (arith, above, long))
            | inr f ↦ let long = length-append w.memory.heap block in subst (λ j. (heap_base ≤ j) × (j < heap_base + length (w.memory.heap ++ block))) (ap (λ (j : ℕ × Made). j.0) f.1) (omega arith, omega (arith, some, long))
          ]

      pub with_object : 0 < length block → Invariant shapes room floor p (with_objects objects_more) types
          (add_object object (add_heap (length block) s)) (with_block block w) ts
      with_object some = record {
        holds = λ k.
            holds_on objects_more kept_front (add_object object (add_heap (length block) s)) refl k (p k) refl (inv.holds k);
        once = inv.once;
        above = inv.above;
        words = words_on objects_more kept_front;
        once_laid = once_on objects_more kept_front;
        owned = λ a r i e.
            let more = length-append h.objects ((start, made) ∷ []) in
            elim (cases_lt a start) [
              | inl lt ↦ let o = own.owned a r i (sym (below_is a lt) ∙ e) in omega (arith, o, more)
              | inr le ↦ let o = fills.parts (a - start) r i (sym (above_is a le) ∙ e) in omega (arith, o, more)
            ];
        laid = laid_more;
        objects =
            let a = length-append h.objects ((start, made) ∷ []) in
            let b = length-append s.objects (object ∷ []) in
            let c = inv.objects in
            omega (arith, a, b, c);
        variables = inv.variables;
        known = known_on objects_more kept_front;
        addresses = addresses_more;
        in_heap = in_heap_more some;
        memory = memory_on objects_more kept_front;
        heap = heap_on;
        input = inv.input;
        input_bytes = inv.input_bytes;
      }
