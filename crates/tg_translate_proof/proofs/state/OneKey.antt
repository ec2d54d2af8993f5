-- The invariant where something is laid at one key, into the stack or into a temporary, and where other places are looked at.
use Rattle.std.proofs.Common.{[], ◌≡◌, ◌≢◌, ℕ, zero, suc, ◌+◌, ◌*◌, ◌<◌, ◌≤◌, ◌==◌, List, ◌∷◌, ◌++◌, Some, Bool, true, false}
use Rattle.std.proofs.Common.{refl, sym, ap, ◌∙◌, arith, subst}
use Rattle.std.proofs.Common.{eq-eqb, eqb-true, length-append}
use Rattle.std.specs.Prelude.{if◌then◌else◌, slice_get, ◌&&◌, ◌%◌, ◌-◌, length, All}
use Rattle.std.proofs.lemmas.Option.{slice_get_within}
use Rattle.tg_machine_state.specs.State.{heap_base, stack_top, most_bytes, most_room}
use Rattle.tg_semantics.specs.Values.{Value, SourceWorld, Object, add_variable}
use Rattle.tg_typecheck.specs.Types.{Ty, Shape}
use Rattle.tg_tree.specs.Memory.{Memory, Cell, load, put}
use Rattle.tg_tree.specs.Actions.{World}
use Rattle.tg_runtime_proof.specs.Memories.{IsMemory}
use Rattle.tg_runtime_proof.proofs.Memories.{put_apart}
use Rattle.tg_translate_proof.specs.glue.Worlds as w
use Rattle.tg_translate_proof.specs.glue.Worlds.{Holdings, Stands, Places, Key, cell, temporary, Content, nowhere, free, variable, kept, fixed}
use Rattle.tg_translate_proof.specs.glue.Worlds.{HoldsAt, HoldsVariable, word_of, AllTemps, IsOf}
use Rattle.tg_translate_proof.specs.glue.Worlds.{Invariant, IsLaid, laid_record, laid_array, unknown}

-- Keys.

abbrev pub key_is : Key → Key → Bool
key_is (cell a) (cell b) = a == b
key_is (temporary d i) (temporary e j) = (d == e) && (i == j)
key_is _ _ = false

-- a key has another content
abbrev pub put_place : Key → Content → Places → Places
put_place k c p j = if key_is j k then c else p j

both_true : (a b : Bool) → (a && b) ≡ true → (a ≡ true) × (b ≡ true)
both_true true true e = (refl, refl)
both_true true false e = cc
both_true false b e = cc

pub key_same : (j k : Key) → key_is j k ≡ true → j ≡ k
key_same (cell a) (cell b) e = ap cell (eqb-true a b e)
key_same (cell a) (temporary d i) e = cc
key_same (temporary d i) (cell b) e = cc
key_same (temporary d i) (temporary f j) e =
    let b = both_true (d == f) (i == j) e in ap (λ o. temporary o i) (eqb-true d f b.0) ∙ ap (λ o. temporary f o) (eqb-true i j b.1)

pub key_itself : (k : Key) → key_is k k ≡ true
key_itself (cell a) = eq-eqb a a refl
key_itself (temporary d i) = ap (λ b. b && (i == i)) (eq-eqb d d refl) ∙ eq-eqb i i refl

pub key_differs : (j k : Key) → key_is j k ≡ false → j ≢ k
key_differs j k e f = let g : key_is j k ≡ true = ap (λ o. key_is o k) f ∙ key_itself k in cc

pub put_here : (k : Key) (c : Content) (p : Places) → put_place k c p k ≡ c
put_here k c p = ap (λ b. if b then c else p k) (key_itself k)

-- by whether a key is this one
pub by_key : (j k : Key) (Q : Content → Type 0) (c : Content) (p : Places) → (j ≡ k → Q c) → (j ≢ k → Q (p j)) → Q (put_place k c p j)
by_key j k Q c p here other = by (key_is j k) refl
  where
    by : (b : Bool) → key_is j k ≡ b → Q (if b then c else p j)
    by true e = here (key_same j k e)
    by false e = other (key_differs j k e)

pub put_other : (j k : Key) (c : Content) (p : Places) → j ≢ k → put_place k c p j ≡ p j
put_other j k c p ne = by_key j k (λ o. o ≡ p j) c p (λ e. absurd (ne e)) (λ n. refl)

cell_apart : (a b : ℕ) → cell a ≡ cell b → a ≡ b
cell_apart a b e = cc

depth_apart : (d e i j : ℕ) → temporary d i ≡ temporary e j → d ≡ e
depth_apart d e i j q = cc

index_apart : (d e i j : ℕ) → temporary d i ≡ temporary e j → i ≡ j
index_apart d e i j q = cc

pub cell_key_apart : (a b : ℕ) → a ≢ b → cell a ≢ cell b
cell_key_apart a b ne e = ne (cell_apart a b e)

pub depth_key_apart : (d e i j : ℕ) → d ≢ e → temporary d i ≢ temporary e j
depth_key_apart d e i j ne q = ne (depth_apart d e i j q)

pub index_key_apart : (d e i j : ℕ) → i ≢ j → temporary d i ≢ temporary e j
index_key_apart d e i j ne q = ne (index_apart d e i j q)

pub kind_apart : (a d i : ℕ) → cell a ≢ temporary d i
kind_apart a d i e = cc

-- Contents.

-- whether a content is in use
pub by_use : (Q : Type 0) (c : Content) → (c ≡ nowhere → Q) → (c ≢ nowhere → Q) → Q
by_use Q nowhere h k = h refl
by_use Q free h k = k (λ e. cc)
by_use Q (variable l) h k = k (λ e. cc)
by_use Q (kept l u) h k = k (λ e. cc)
by_use Q (fixed u) h k = k (λ e. cc)

pub used_is : (l : ℕ) (c : Content) → IsOf l c → c ≢ nowhere
used_is l c h e = subst (λ o. IsOf l o) e h

-- What is held at a key, where its word and its cell are as they were.
pub held_same : (h : Holdings) (types : List Ty) (s : SourceWorld) (m m1 : Memory) (ts ts1 : AllTemps) (k : Key) (c : Content) →
    word_of m1 ts1 k ≡ word_of m ts k → ((a : ℕ) → k ≡ cell a → m1.stack a ≡ m.stack a) → HoldsAt h types s m ts k c → HoldsAt h types s m1 ts1 k c
held_same h types s m m1 ts ts1 k nowhere e f x = tt
held_same h types s m m1 ts ts1 (cell a) free e f x = λ g. x (sym (f a refl) ∙ g)
held_same h types s m m1 ts ts1 (temporary d i) free e f x = x
held_same h types s m m1 ts ts1 k (variable l) e f x = (x.0, e ∙ x.1, x.2)
held_same h types s m m1 ts ts1 (cell a) (kept l u) e f x = absurd x
held_same h types s m m1 ts ts1 (temporary d i) (kept l u) e f x = (e ∙ x.0, x.1)
held_same h types s m m1 ts ts1 k (fixed u) e f x = e ∙ x

pub get_front : {A : Type 0} (xs ys : List A) (i : ℕ) (a : A) → slice_get xs i ≡ Some a → slice_get (xs ++ ys) i ≡ Some a
get_front [] ys i a e = cc
get_front (x ∷ xs) ys zero a e = e
get_front (x ∷ xs) ys (suc i) a e = get_front xs ys i a e

pub get_last : {A : Type 0} (xs : List A) (a : A) → slice_get (xs ++ a ∷ []) (length xs) ≡ Some a
get_last [] a = refl
get_last (x ∷ xs) a = get_last xs a

variable_more : (h : Holdings) (types : List Ty) (s : SourceWorld) (l u : ℕ) (ty : Ty) (v : Value) → HoldsVariable h types s l u →
    HoldsVariable h (types ++ ty ∷ []) (add_variable v s) l u
variable_more h types s l u ty v x = (x.0, x.1, get_front s.variables (v ∷ []) l x.0 x.2, get_front types (ty ∷ []) l x.1 x.3, x.4)

-- and where there is one more variable
held_more : (h : Holdings) (types : List Ty) (s : SourceWorld) (m : Memory) (ts : AllTemps) (k : Key) (c : Content) (ty : Ty) (v : Value) →
    HoldsAt h types s m ts k c →
    HoldsAt h (types ++ ty ∷ []) (add_variable v s) m ts k c
held_more h types s m ts k nowhere ty v x = tt
held_more h types s m ts (cell a) free ty v x = x
held_more h types s m ts (temporary d i) free ty v x = x
held_more h types s m ts k (variable l) ty v x = (x.0, x.1, variable_more h types s l x.0 ty v x.2)
held_more h types s m ts (cell a) (kept l u) ty v x = absurd x
held_more h types s m ts (temporary d i) (kept l u) ty v x = (x.0, variable_more h types s l u ty v x.1)
held_more h types s m ts k (fixed u) ty v x = x

-- a variable that stands somewhere is one of those that there are
is_there : (h : Holdings) (types : List Ty) (s : SourceWorld) (m : Memory) (ts : AllTemps) (k : Key) (l : ℕ) (c : Content) → IsOf l c →
    HoldsAt h types s m ts k c → l < length s.variables
is_there h types s m ts k l nowhere e x = absurd e
is_there h types s m ts k l free e x = absurd e
is_there h types s m ts k l (fixed u) e x = absurd e
is_there h types s m ts k l (variable j) e x = let n = slice_get_within s.variables j x.2.0 x.2.2 in omega (arith, e, n)
is_there h types s m ts (cell a) l (kept j u) e x = absurd x
is_there h types s m ts (temporary d i) l (kept j u) e x = let n = slice_get_within s.variables j x.1.0 x.1.2 in omega (arith, e, n)

-- objects are laid where their words are as they were
pub laid_same : (h : Holdings) (shapes : List (ℕ × Shape)) (m k : Memory) (r a : ℕ) (made : w.Made) (o : Object) →
    ((b : ℕ) → h.at b ≢ unknown → load k b ≡ load m b) →
    IsLaid h shapes m r a made o → IsLaid h shapes k r a made o
laid_same h shapes m k r a _ _ alike (laid_record at fs parts named_ len each) =
    laid_record at fs parts named_ len
    (λ i name t e. let x = each i name t e in (x.0, x.1, x.2, x.3, alike (a + 4 * i) (λ u. let f = sym x.3 ∙ u in cc) ∙ x.4, x.5))
laid_same h shapes m k r a _ _ alike (laid_array at t values named_ few count each) =
    laid_array at t values named_ few count (λ i v e. let x =
    each i v e in (x.0, x.1, alike (a + 4 + 4 * i) (λ u. let f = sym x.1 ∙ u in cc) ∙ x.2, x.3))

-- Memory with other cells of the stack, from its floor on.
pub record IsRelaid (floor : ℕ) (m m1 : Memory) : Type 0 where
  pub statics : m1.statics ≡ m.statics
  pub heap : m1.heap ≡ m.heap
  pub loads : (b : ℕ) → b < floor → load m1 b ≡ load m b

pub relaid_none : (floor : ℕ) (m : Memory) → IsRelaid floor m m
relaid_none floor m = record { statics = refl; heap = refl; loads = λ b lt. refl }

pub relaid_on : (floor : ℕ) (m k l : Memory) → IsRelaid floor m k → IsRelaid floor k l → IsRelaid floor m l
relaid_on floor m k l a b = record {
  statics = b.statics ∙ a.statics;
  heap = b.heap ∙ a.heap;
  loads = λ c lt. b.loads c lt ∙ a.loads c lt;
}

pub relaid_put : (floor : ℕ) (m : Memory) (a : ℕ) (c : Cell) → floor ≤ a → IsRelaid floor m (put a c m)
relaid_put floor m a c le = record { statics = refl; heap = refl; loads = λ b lt. put_apart m a c b (λ e. omega (arith, le, lt, e)) }

is_memory : (room : ℕ) (m m1 : Memory) → m1.statics ≡ m.statics → m1.heap ≡ m.heap → IsMemory room m → IsMemory room m1
is_memory room m m1 e f x = record {
  whole = record {
    statics = subst (λ l. length l ≤ most_bytes) (sym e) x.whole.statics;
    static_words = subst (λ l. length l % 4 ≡ 0) (sym e) x.whole.static_words;
    static_bytes = subst (λ l. All (λ b. b < 256) l) (sym e) x.whole.static_bytes;
    heap = subst (λ l. length l ≤ most_room) (sym f) x.whole.heap;
    heap_words = subst (λ l. length l % 4 ≡ 0) (sym f) x.whole.heap_words;
    heap_bytes = subst (λ l. All (λ b. b < 256) l) (sym f) x.whole.heap_bytes;
  };
  taken = subst (λ l. length l ≤ room) (sym f) x.taken;
  most = x.most;
}

module _ (shapes : List (ℕ × Shape)) (room floor : ℕ) (over_heap : heap_base + room ≤ floor) (h : Holdings) where
  -- what is known is below the stack
  known_low : (p : Places) (types : List Ty) (s : SourceWorld) (w : World) (ts : AllTemps) → Invariant shapes room floor p h types s w ts →
      (b : ℕ) → h.at b ≢ unknown → b < floor
  known_low p types s w ts inv b k = let x = inv.known b k in let y = inv.memory.taken in omega (arith, x.1, y, over_heap)

  -- the invariant with other places, variables, cells and temporaries
  pub moved : (p q : Places) (types types1 : List Ty) (s s1 : SourceWorld) (w w1 : World) (ts ts1 : AllTemps) →
      Invariant shapes room floor p h types s w ts →
      IsRelaid floor w.memory w1.memory → w1.input ≡ w.input → s1.objects ≡ s.objects → s1.heap ≡ s.heap → s1.input ≡ s.input →
      length types1 ≡ length s1.variables →
      ((k : Key) → HoldsAt h types1 s1 w1.memory ts1 k (q k)) →
      ((k j : Key) (l : ℕ) → IsOf l (q k) → IsOf l (q j) → k ≡ j) →
      ((a : ℕ) → q (cell a) ≢ nowhere → (floor ≤ a) × (a < stack_top) × (a % 4 ≡ 0)) →
      Invariant shapes room floor q h types1 s1 w1 ts1
  moved p q types types1 s s1 w w1 ts ts1 inv lays input objects heap in_ many holds once above =
      let alike : (b : ℕ) → h.at b ≢ unknown → load w1.memory b ≡ load w.memory b = λ b k. lays.loads b (known_low p types s w ts inv b k) in
      record {
        holds = holds;
        once = once;
        above = above;
        words = λ a v e. alike a (λ f. let g = sym e ∙ f in cc) ∙ inv.words a v e;
        once_laid = inv.once_laid;
        owned = inv.owned;
        laid = λ r o e. let x = inv.laid r o e in
            (x.0, ap (λ l. slice_get l r) objects ∙ x.1, laid_same h shapes w.memory w1.memory r o.0 o.1 x.0 alike x.2);
        objects = inv.objects ∙ sym (ap (λ l. length l) objects);
        variables = many;
        known = λ a k. let x = inv.known a k in (x.0, subst (λ l. a < heap_base + length l) (sym lays.heap) x.1);
        addresses = inv.addresses;
        in_heap = λ r o e. let x = inv.in_heap r o e in (x.0, subst (λ l. o.0 < heap_base + length l) (sym lays.heap) x.1);
        memory = is_memory room w.memory w1.memory lays.statics lays.heap inv.memory;
        heap = ap (λ l. length l) lays.heap ∙ inv.heap ∙ sym heap;
        input = input ∙ inv.input ∙ sym in_;
        input_bytes = subst (λ l. All (λ b. b < 256) l) (sym input) inv.input_bytes;
      }

  -- Beside one key words and cells are as they were.
  pub record IsBeside (k : Key) (m m1 : Memory) (ts ts1 : AllTemps) : Type 0 where
    pub words : (j : Key) → j ≢ k → word_of m1 ts1 j ≡ word_of m ts j
    pub cells : (a : ℕ) → cell a ≢ k → m1.stack a ≡ m.stack a

  module _ (k : Key) (p : Places) (types : List Ty) (s : SourceWorld) (w w1 : World) (ts ts1 : AllTemps)
      (inv : Invariant shapes room floor p h types s w ts)
      (lays : IsRelaid floor w.memory w1.memory) (input : w1.input ≡ w.input) (beside : IsBeside k w.memory w1.memory ts ts1)
      (high : (a : ℕ) → k ≡ cell a → (floor ≤ a) × (a < stack_top) × (a % 4 ≡ 0)) where
    held_beside : (j : Key) → j ≢ k → HoldsAt h types s w1.memory ts1 j (p j)
    held_beside j ne =
        held_same h types s w.memory w1.memory ts ts1 j (p j) (beside.words j ne) (λ a e. beside.cells a (subst (λ o. o ≢ k) e ne)) (inv.holds j)

    above_at : (c : Content) (a : ℕ) → put_place k c p (cell a) ≢ nowhere → (floor ≤ a) × (a < stack_top) × (a % 4 ≡ 0)
    above_at c a ne =
        by_key (cell a) k (λ o. o ≢ nowhere → (floor ≤ a) × (a < stack_top) × (a % 4 ≡ 0)) c p (λ e n. high a (sym e)) (λ d n. inv.above a n) ne

    -- what is no variable is laid there
    pub laid_at : (c : Content) → ((l : ℕ) → IsOf l c → ⊥) → HoldsAt h types s w1.memory ts1 k c →
        Invariant shapes room floor (put_place k c p) h types s w1 ts1
    laid_at c none here =
        moved p (put_place k c p) types types s s w w1 ts ts1 inv lays input refl refl refl inv.variables
        (λ j. by_key j k (λ o. HoldsAt h types s w1.memory ts1 j o) c p (λ e. subst (λ o. HoldsAt h types s w1.memory ts1 o c) (sym e) here)
        (held_beside j))
        (λ i j l. by_key i k (λ o. IsOf l o → IsOf l (put_place k c p j) → i ≡ j) c p (λ e x. absurd (none l x))
        (λ n x. by_key j k (λ o. IsOf l o → i ≡ j) c p (λ e y. absurd (none l y)) (λ d y. inv.once i j l x y)))
        (above_at c)

    -- a new variable is laid there
    pub variable_laid : (u : ℕ) (v : Value) (ty : Ty) → word_of w1.memory ts1 k ≡ Some u → Stands h v ty u →
        Invariant shapes room floor (put_place k (variable (length s.variables)) p) h (types ++ ty ∷ []) (add_variable v s) w1 ts1
    variable_laid u v ty word st =
        let l0 : ℕ = length s.variables in
        let many : length types ≡ l0 = inv.variables in
        let old : (j : Key) (l : ℕ) → IsOf l (p j) → l < l0 = λ j l x. is_there h types s w.memory ts j l (p j) x (inv.holds j) in
        moved p (put_place k (variable l0) p) types (types ++ ty ∷ []) s (add_variable v s) w w1 ts ts1 inv lays input refl refl refl
        (length-append types (ty ∷ []) ∙ (ap (λ o. o + 1) many ∙ sym (length-append s.variables (v ∷ []))))
        (λ j. by_key j k (λ o. HoldsAt h (types ++ ty ∷ []) (add_variable v s) w1.memory ts1 j o) (variable l0) p
        (λ e. subst (λ o. HoldsAt h (types ++ ty ∷ []) (add_variable v s) w1.memory ts1 o (variable l0)) (sym e)
        (u, word, (v, ty, get_last s.variables v, subst (λ o. slice_get (types ++ ty ∷ []) o ≡ Some ty) many (get_last types ty), st)))
        (λ n. held_more h types s w1.memory ts1 j (p j) ty v (held_beside j n)))
        (λ i j l. by_key i k (λ o. IsOf l o → IsOf l (put_place k (variable l0) p j) → i ≡ j) (variable l0) p
        (λ e x. by_key j k (λ o. IsOf l o → i ≡ j) (variable l0) p (λ f y. e ∙ sym f) (λ d y. let n = old j l y in absurd (omega (arith, x, n))))
        (λ n x. by_key j k (λ o. IsOf l o → i ≡ j) (variable l0) p (λ f y. let m =
        old i l x in absurd (omega (arith, y, m))) (λ d y. inv.once i j l x y)))
        (above_at (variable l0))
