-- Keys with other contents, and what the invariant keeps where one key changes: its word, its
-- content, or both.
use Rattle.std.proofs.Common.{◌≡◌, ◌≢◌, ℕ, zero, suc, ◌+◌, ◌-◌, ◌*◌, ◌%◌, ◌<◌, ◌≤◌, ◌==◌, List, [], ◌∷◌, ◌++◌, Option, Some, None, Bool, true, false, refl, sym, ap, ◌∙◌}
use Rattle.std.proofs.Common.{arith, subst, inl, inr, eq-eqb, eqb-true, ne_eqb, length-append}
use Rattle.std.specs.Prelude.{if◌then◌else◌, slice_get, slice_set, length, ◌&&◌, ◌⊎◌, All, ◌^◌}
use Rattle.std.proofs.lemmas.Option.{slice_get_within}
use Rattle.tg_machine_state.specs.State.{stack_top, heap_base}
use Rattle.tg_symbols.specs.Tables.{looked_up}
use Rattle.tg_semantics.specs.Values.{Value, SourceWorld, add_variable, put_variable, Object}
use Rattle.tg_typecheck.specs.Types.{Ty, Shape}
use Rattle.tg_tree.specs.Memory.{Memory, Closed, load}
use Rattle.tg_tree.specs.Actions.{World, Temps, set_temp}
use Rattle.tg_runtime_proof.specs.Memories.{IsWhole, IsMemory}
use Rattle.tg_translate_proof.specs.glue.Worlds.{Holdings, unknown, word, part, Made, Stands, IsLaid, laid_record, laid_array, Key, cell, temporary, Content}
use Rattle.tg_translate_proof.specs.glue.Worlds.{nowhere, free, variable, kept, fixed, Places, AllTemps, word_of, HoldsVariable, HoldsAt, IsOf, Invariant}
use Rattle.tg_translate_proof.specs.glue.Worlds.{Scene, IsScene}
use Rattle.tg_translate_proof.specs.glue.Situations.{with_temps}
use Rattle.tg_translate_proof.proofs.invariant.Cases.{set_here, two}
use Rattle.tg_translate_proof.proofs.expressions.BinarySides.{both_true}

-- Keys, and contents by keys.

abbrev pub key_is : Key → Key → Bool
key_is (cell a) (cell b) = a == b
key_is (temporary d i) (temporary e j) = (d == e) && (i == j)
key_is _ _ = false

-- a key has another content
abbrev pub put_place : Key → Content → Places → Places
put_place k c p j = if key_is j k then c else p j

pub key_same : (j k : Key) → key_is j k ≡ true → j ≡ k
key_same (cell a) (cell b) e = ap cell (eqb-true a b e)
key_same (cell a) (temporary d i) e = cc
key_same (temporary d i) (cell b) e = cc
key_same (temporary d i) (temporary f j) e =
    let b = both_true (d == f) (i == j) e in ap (λ o. temporary o i) (eqb-true d f b.0) ∙ ap (λ o. temporary f o) (eqb-true i j b.1)

pub key_itself : (k : Key) → key_is k k ≡ true
key_itself (cell a) = eq-eqb a a refl
key_itself (temporary d i) = ap (λ b. b && (i == i)) (eq-eqb d d refl) ∙ eq-eqb i i refl

pub key_other : (j k : Key) → key_is j k ≡ false → j ≢ k
key_other j k e f = let g : key_is j k ≡ true = ap (λ o. key_is o k) f ∙ key_itself k in cc

pub put_here : (k : Key) (c : Content) (p : Places) → put_place k c p k ≡ c
put_here k c p = ap (λ b. if b then c else p k) (key_itself k)

-- what a key has where one was put
abbrev pub IsPut : Places → Places → Key → Content → Type 0
IsPut p q k0 c = (k : Key) → ((k ≡ k0) × (q k ≡ c)) ⊎ ((k ≢ k0) × (q k ≡ p k))

pub put_is : (k0 : Key) (c : Content) (p : Places) → IsPut p (put_place k0 c p) k0 c
put_is k0 c p k = by (key_is k k0) refl
  where
    by : (b : Bool) → key_is k k0 ≡ b → ((k ≡ k0) × ((if b then c else p k) ≡ c)) ⊎ ((k ≢ k0) × ((if b then c else p k) ≡ p k))
    by true e = inl (key_same k k0 e, refl)
    by false e = inr (key_other k k0 e, refl)

-- a key that is put as it was
pub same_is : (k0 : Key) (c : Content) (p : Places) → p k0 ≡ c → IsPut p p k0 c
same_is k0 c p here k = by (key_is k k0) refl
  where
    by : (b : Bool) → key_is k k0 ≡ b → ((k ≡ k0) × (p k ≡ c)) ⊎ ((k ≢ k0) × (p k ≡ p k))
    by true e = let same = key_same k k0 e in inl (same, ap p same ∙ here)
    by false e = inr (key_other k k0 e, refl)

-- and put back
pub back_is : (k0 : Key) (c : Content) (p : Places) (b : Content) → p k0 ≡ b → IsPut (put_place k0 c p) p k0 b
back_is k0 c p b here k = by (put_is k0 c p k)
  where
    by : ((k ≡ k0) × (put_place k0 c p k ≡ c)) ⊎ ((k ≢ k0) × (put_place k0 c p k ≡ p k)) → ((k ≡ k0) × (p k ≡ b)) ⊎ ((k ≢ k0) × (p k ≡ put_place k0 c p k))
    by (inl x) = inl (x.0, ap p x.0 ∙ here)
    by (inr x) = inr (x.0, sym x.1)

-- by whether a key is this one
pub by_key : (j k : Key) (P : Content → Type 0) (c : Content) (p : Places) → (j ≡ k → P c) → P (p j) → P (put_place k c p j)
by_key j k P c p here other = by (key_is j k) refl
  where
    by : (b : Bool) → key_is j k ≡ b → P (if b then c else p j)
    by true e = here (key_same j k e)
    by false e = other

abbrev pub depth_of : Key → ℕ
depth_of (temporary d i) = d
depth_of (cell a) = 0

abbrev pub index_of : Key → ℕ
index_of (temporary d i) = i
index_of (cell a) = a

-- Lists that grow at their end, or in which one is replaced.

pub get_front : {A : Type 0} (xs ys : List A) (i : ℕ) (a : A) → slice_get xs i ≡ Some a → slice_get (xs ++ ys) i ≡ Some a
get_front [] ys i a e = cc
get_front (x ∷ xs) ys zero a e = e
get_front (x ∷ xs) ys (suc i) a e = get_front xs ys i a e

pub get_last : {A : Type 0} (xs : List A) (a : A) → slice_get (xs ++ a ∷ []) (length xs) ≡ Some a
get_last [] a = refl
get_last (x ∷ xs) a = get_last xs a

pub get_set : {A : Type 0} (xs : List A) (i : ℕ) (a b : A) → slice_get xs i ≡ Some b → slice_get (slice_set xs i a) i ≡ Some a
get_set [] i a b e = cc
get_set (x ∷ xs) zero a b e = refl
get_set (x ∷ xs) (suc i) a b e = get_set xs i a b e

pub get_other : {A : Type 0} (xs : List A) (i j : ℕ) (a : A) → i ≢ j → slice_get (slice_set xs i a) j ≡ slice_get xs j
get_other [] i j a ne = refl
get_other (x ∷ xs) zero zero a ne = absurd (ne refl)
get_other (x ∷ xs) zero (suc j) a ne = refl
get_other (x ∷ xs) (suc i) zero a ne = refl
get_other (x ∷ xs) (suc i) (suc j) a ne = get_other xs i j a (λ e. ne (ap suc e))

pub set_length : {A : Type 0} (xs : List A) (i : ℕ) (a : A) → length (slice_set xs i a) ≡ length xs
set_length [] i a = refl
set_length (x ∷ xs) zero a = refl
set_length (x ∷ xs) (suc i) a = ap suc (set_length xs i a)

pub lengths_grow : {A B : Type 0} (xs : List A) (ys : List B) (a : A) (b : B) → length xs ≡ length ys → length (xs ++ a ∷ []) ≡ length (ys ++ b ∷ [])
lengths_grow xs ys a b e = length-append xs (a ∷ []) ∙ (ap (λ o. o + 1) e ∙ sym (length-append ys (b ∷ [])))

pub some_same : {A : Type 0} (a b : A) → Some a ≡ Some b → a ≡ b
some_same a b e = cc

-- What a key holds.

pub own_temps : (d : ℕ) (t : Temps) (ts : AllTemps) → with_temps d t ts d ≡ t
own_temps d t ts = ap (λ b. if b then t else ts d) (eq-eqb d d refl)

-- the word of a variable
pub held_word : (h : Holdings) (types : List Ty) (s : SourceWorld) (m : Memory) (ts : AllTemps) (k : Key) (place : ℕ) (c : Content) → IsOf place c → HoldsAt h types s m ts k c →
    (u : ℕ) × (word_of m ts k ≡ Some u) × HoldsVariable h types s place u
held_word h types s m ts k place nowhere e x = absurd e
held_word h types s m ts k place free e x = absurd e
held_word h types s m ts k place (fixed u) e x = absurd e
held_word h types s m ts k place (variable l) e x = (x.0, x.1, subst (λ o. HoldsVariable h types s o x.0) e x.2)
held_word h types s m ts (cell a) place (kept l u) e x = absurd x
held_word h types s m ts (temporary d i) place (kept l u) e x = (u, x.0, subst (λ o. HoldsVariable h types s o u) e x.1)

pub of_is_used : (l : ℕ) (c : Content) → IsOf l c → c ≢ nowhere
of_is_used l c h e = subst (λ o. IsOf l o) e h

-- a key whose content stays holds it where its word and the variables are as they were
pub at_other : (h : Holdings) (types types' : List Ty) (s s' : SourceWorld) (m m' : Memory) (ts ts' : AllTemps) (k : Key) (c : Content) →
    (c ≢ nowhere → word_of m' ts' k ≡ word_of m ts k) → ((a : ℕ) → k ≡ cell a → c ≢ nowhere → m.stack a ≢ Closed → m'.stack a ≢ Closed) →
    ((l u : ℕ) → IsOf l c → HoldsVariable h types s l u → HoldsVariable h types' s' l u) →
    HoldsAt h types s m ts k c → HoldsAt h types' s' m' ts' k c
at_other h types types' s s' m m' ts ts' k nowhere same is_open vars x = tt
at_other h types types' s s' m m' ts ts' (cell a) free same is_open vars x = is_open a refl (λ e. cc) x
at_other h types types' s s' m m' ts ts' (temporary d i) free same is_open vars x = x
at_other h types types' s s' m m' ts ts' k (variable l) same is_open vars x = (x.0, same (λ e. cc) ∙ x.1, vars l x.0 refl x.2)
at_other h types types' s s' m m' ts ts' (cell a) (kept l u) same is_open vars x = absurd x
at_other h types types' s s' m m' ts ts' (temporary d i) (kept l u) same is_open vars x = (same (λ e. cc) ∙ x.0, vars l u refl x.1)
at_other h types types' s s' m m' ts ts' k (fixed u) same is_open vars x = same (λ e. cc) ∙ x

-- objects are laid where the words of their parts are as they were
pub laid_on : (h : Holdings) (shapes : List (ℕ × Shape)) (m m' : Memory) (r a : ℕ) (made : Made) (o : Object) →
    ((b i : ℕ) → h.at b ≡ part r i → load m' b ≡ load m b) → IsLaid h shapes m r a made o → IsLaid h shapes m' r a made o
laid_on h shapes m m' r a _ _ alike (laid_record at fs parts named_ len each) =
    laid_record at fs parts named_ len
    (λ i name t e. let x = each i name t e in (x.0, x.1, x.2, x.3, alike (a + 4 * i) i x.3 ∙ x.4, x.5))
laid_on h shapes m m' r a _ _ alike (laid_array at t values named_ few count each) =
    laid_array at t values named_ few count (λ i v e. let x = each i v e in (x.0, x.1, alike (a + 4 + 4 * i) i x.1 ∙ x.2, x.3))

part_known : (r i : ℕ) → part r i ≢ unknown
part_known r i e = cc

word_known : (v : ℕ) → word v ≢ unknown
word_known v e = cc

-- One key changes.
module _ (shapes : List (ℕ × Shape)) (room floor : ℕ) (p : Places) (h : Holdings) (types : List Ty) (s : SourceWorld) (w : World) (ts : AllTemps) (inv : Invariant shapes room floor p h types s w ts) where
  pub record Changed (q : Places) (k0 : Key) (c : Content) (more : List Ty) (s' : SourceWorld) (w' : World) (ts' : AllTemps) : Type 0 where
    pub put : IsPut p q k0 c
    pub here : HoldsAt h more s' w'.memory ts' k0 c  -- what it holds then
    pub elsewhere : (k : Key) → k ≢ k0 → word_of w'.memory ts' k ≡ word_of w.memory ts k
    pub is_open : (a : ℕ) → cell a ≢ k0 → w.memory.stack a ≢ Closed → w'.memory.stack a ≢ Closed
    pub vars : (k : Key) (l u : ℕ) → k ≢ k0 → IsOf l (p k) → HoldsVariable h types s l u → HoldsVariable h more s' l u
    pub alone : (k : Key) (l : ℕ) → k ≢ k0 → IsOf l c → IsOf l (p k) → ⊥  -- its variable stands nowhere else
    pub above : (a : ℕ) → k0 ≡ cell a → c ≢ nowhere → (floor ≤ a) × (a < stack_top) × (a % 4 ≡ 0)
    pub apart : (b : ℕ) → h.at b ≢ unknown → cell b ≢ k0  -- it is no part of the heap
    pub heap : length w'.memory.heap ≡ length w.memory.heap
    pub whole : IsWhole w'.memory
    pub input : w'.input ≡ w.input
    pub objects : s'.objects ≡ s.objects
    pub taken : s'.heap ≡ s.heap
    pub left : s'.input ≡ s.input
    pub many : length more ≡ length s'.variables

  pub changed_keeps : (q : Places) (k0 : Key) (c : Content) (more : List Ty) (s' : SourceWorld) (w' : World) (ts' : AllTemps) → Changed q k0 c more s' w' ts' →
      Invariant shapes room floor q h more s' w' ts'
  changed_keeps q k0 c more s' w' ts' x = record {
    holds = λ k. holds_at k (x.put k);
    once = λ k j l e f. one k j l (x.put k) (x.put j) e f;
    above = λ a ne. above_at a ne (x.put (cell a));
    words = λ b v e. x.elsewhere (cell b) (x.apart b (λ f. word_known v (sym e ∙ f))) ∙ inv.words b v e;
    once_laid = inv.once_laid;
    owned = inv.owned;
    laid = λ r o e.
        let y = inv.laid r o e in (
          y.0,
          ap (λ z. slice_get z r) x.objects ∙ y.1,
          laid_on h shapes w.memory w'.memory r o.0 o.1 y.0 (λ b i f. x.elsewhere (cell b) (x.apart b (λ g. part_known r i (sym f ∙ g)))) y.2,
        );
    objects = inv.objects ∙ sym (ap (λ z. length z) x.objects);
    variables = x.many;
    known = λ a ne. let y = inv.known a ne in (y.0, subst (λ z. a < heap_base + z) (sym x.heap) y.1);
    addresses = inv.addresses;
    in_heap = λ r o e. let y = inv.in_heap r o e in (y.0, subst (λ z. o.0 < heap_base + z) (sym x.heap) y.1);
    memory = record { whole = x.whole; taken = subst (λ z. z ≤ room) (sym x.heap) inv.memory.taken; most = inv.memory.most };
    heap = x.heap ∙ inv.heap ∙ sym x.taken;
    input = x.input ∙ inv.input ∙ sym x.left;
    input_bytes = subst (λ z. All (λ b. b < 256) z) (sym x.input) inv.input_bytes;
  }
    where
      holds_at : (k : Key) → ((k ≡ k0) × (q k ≡ c)) ⊎ ((k ≢ k0) × (q k ≡ p k)) → HoldsAt h more s' w'.memory ts' k (q k)
      holds_at k (inl e) =
          subst (λ o. HoldsAt h more s' w'.memory ts' k o) (sym e.1) (subst (λ o. HoldsAt h more s' w'.memory ts' o c) (sym e.0) x.here)
      holds_at k (inr e) =
          subst (λ o. HoldsAt h more s' w'.memory ts' k o) (sym e.1)
          (at_other h types more s s' w.memory w'.memory ts ts' k (p k) (λ ne. x.elsewhere k e.0)
          (λ a is ne o. x.is_open a (λ f. e.0 (is ∙ f)) o) (λ l u is o. x.vars k l u e.0 is o) (inv.holds k))

      one : (k j : Key) (l : ℕ) → ((k ≡ k0) × (q k ≡ c)) ⊎ ((k ≢ k0) × (q k ≡ p k)) → ((j ≡ k0) × (q j ≡ c)) ⊎ ((j ≢ k0) × (q j ≡ p j)) →
          IsOf l (q k) → IsOf l (q j) → k ≡ j
      one k j l (inl a) (inl b) e f = a.0 ∙ sym b.0
      one k j l (inl a) (inr b) e f = absurd (x.alone j l b.0 (subst (λ o. IsOf l o) a.1 e) (subst (λ o. IsOf l o) b.1 f))
      one k j l (inr a) (inl b) e f = absurd (x.alone k l a.0 (subst (λ o. IsOf l o) b.1 f) (subst (λ o. IsOf l o) a.1 e))
      one k j l (inr a) (inr b) e f = inv.once k j l (subst (λ o. IsOf l o) a.1 e) (subst (λ o. IsOf l o) b.1 f)

      above_at : (a : ℕ) → q (cell a) ≢ nowhere → ((cell a ≡ k0) × (q (cell a) ≡ c)) ⊎ ((cell a ≢ k0) × (q (cell a) ≡ p (cell a))) →
          (floor ≤ a) × (a < stack_top) × (a % 4 ≡ 0)
      above_at a ne (inl e) = x.above a (sym e.0) (λ f. ne (e.1 ∙ f))
      above_at a ne (inr e) = inv.above a (λ f. ne (e.1 ∙ f))

  -- a variable that stands somewhere is one of those that there are
  pub is_old : (k : Key) (l : ℕ) → IsOf l (p k) → l < length s.variables
  is_old k l e = let x = held_word h types s w.memory ts k l (p k) e (inv.holds k) in slice_get_within s.variables l x.2.0 x.2.2

-- A scene, where what is fixed stays and what is free yet stays free.
pub scene_on : (floor limit : ℕ) (p q : Places) (c : Scene) → ((k : Key) (u : ℕ) → p k ≡ fixed u → q k ≡ fixed u) →
    ((d i : ℕ) → c.depth < d → q (temporary d i) ≡ p (temporary d i)) → ((a : ℕ) → a < c.activation.base - c.activation.size → q (cell a) ≡ p (cell a)) →
    IsScene floor limit p c → IsScene floor limit q c
scene_on floor limit p q c stays deep low x = record {
  here = x.here;
  high = x.high;
  room = x.room;
  aligned = x.aligned;
  even = x.even;
  in_slot = λ a b. stays (cell _) (c.chain (c.level - 1)) (x.in_slot a b);
  in_temp = λ a b. stays (temporary c.depth 0) (c.chain (c.level - 1)) (x.in_temp a b);
  links = λ l a b. stays (cell _) (c.chain l) (x.links l a b);
  deeper = λ d i lt. deep d i lt ∙ x.deeper d i lt;
  under = λ a lt. low a lt ∙ x.under a lt;
  fits = x.fits;
  within = x.within;
  least = x.least;
  weighs = x.weighs;
  top = x.top;
  deep = x.deep;
}

-- a key of an open frame has another content, where it has no link
pub scene_put : (floor limit : ℕ) (p : Places) (c : Scene) (k0 : Key) (o : Content) → ((u : ℕ) → p k0 ≢ fixed u) → depth_of k0 ≤ c.depth →
    ((a : ℕ) → k0 ≡ cell a → c.activation.base - c.activation.size ≤ a) → IsScene floor limit p c → IsScene floor limit (put_place k0 o p) c
scene_put floor limit p c k0 o no_link shallow high x =
    scene_on floor limit p (put_place k0 o p) c
    (λ k u e. by_key k k0 (λ z. z ≡ fixed u) o p (λ f. absurd (no_link u (sym (ap p f) ∙ e))) e)
    (λ d i lt. by_key (temporary d i) k0 (λ z. z ≡ p (temporary d i)) o p (λ f. absurd (let g = ap depth_of f in omega (arith, lt, g, shallow))) refl)
    (λ a lt. by_key (cell a) k0 (λ z. z ≡ p (cell a)) o p (λ f. absurd (let le = high a (sym f) in omega (arith, le, lt))) refl) x
