-- The first activation of a program: what both sides have where its body begins.
use Rattle.std.proofs.Common.{◌≡◌, ◌≢◌, ◌<◌, ◌≤◌, ℕ, zero, suc, ◌+◌, ◌-◌, ◌*◌, ◌%◌, ◌==◌, List, [], ◌∷◌, ◌++◌, length, Option, Some, None, Bool, true, false}
use Rattle.std.proofs.Common.{refl, sym, ap, ◌∙◌, arith, inl, inr, eqb-true, eq-eqb}
use Rattle.std.specs.Prelude.{if◌then◌else◌, ◌⊎◌, All}
use Rattle.std.proofs.lemmas.Bool.{cases_lt}
use Rattle.std.specs.Str.{bytes_eq}
use Rattle.tg_machine_state.specs.State.{stack_top, most_bytes, statics_base, heap_base, offset, word_at}
use Rattle.tg_semantics.specs.declared.standards.Standard.{Standard}
use Rattle.tg_semantics.specs.Values.{SourceWorld, initial_world, add_weight, Entry, standard}
use Rattle.tg_semantics.specs.Environments.{outermost_entries, outermost_from, standards, standards_of, standard_text}
use Rattle.tg_semantics.specs.Levels.{levels_of}
use Rattle.tg_typecheck.specs.Scopes.{Binding, standard_one, standard_of, standard_bindings, entry}
use Rattle.tg_tree.specs.Tree.{Literal}
use Rattle.tg_tree.specs.Memory.{Memory, Closed, Unset, lay, slot, begin, statics_of, literal_address, string_text, string_block, cell_word, or_heap, word_in}
use Rattle.tg_tree.specs.Actions.{World}
use Rattle.tg_runtime_proof.specs.Memories.{IsWhole, IsStringAt}
use Rattle.tg_runtime_proof.proofs.Memories.{offset_below, offset_above}
use Rattle.tg_runtime_proof.proofs.Literals.{begin_is_whole, literal_is_string, text_of}
use Rattle.tg_translate.specs.mirror.States.{TranslationState}
use Rattle.tg_translate_proof.specs.glue.Tables.{Table, HasFound}
use Rattle.tg_translate_proof.specs.glue.Worlds.{Holdings, Stored, unknown, word, part, Key, cell}
use Rattle.tg_translate_proof.specs.glue.Worlds.{temporary, Content, nowhere, free, Places, AllTemps, IsOf, HoldsAt}
use Rattle.tg_translate_proof.specs.glue.Worlds.{Invariant, IsText, Scene, IsScene}
use Rattle.tg_translate_proof.specs.glue.Situations.{Program, Setting, floor}

-- The slots of the first frame.

abbrev pub in_frame : (slots a : ℕ) → Bool
in_frame zero a = false
in_frame (suc n) a = if a == slot stack_top n then true else in_frame n a

both_ways : (t : Bool) → (if t then true else true) ≡ true
both_ways true = refl
both_ways false = refl

slots_in : (n a : ℕ) → in_frame n a ≡ true → (k : ℕ) × (k < n) × (a ≡ slot stack_top k)
slots_in zero a e = cc
slots_in (suc n) a e = by (λ h. slots_in n a h) (a == slot stack_top n) refl e
  where
    by : (in_frame n a ≡ true → (k : ℕ) × (k < n) × (a ≡ slot stack_top k)) → (t : Bool) → (a == slot stack_top n) ≡ t →
        (if t then true else in_frame n a) ≡ true →
        (k : ℕ) × (k < suc n) × (a ≡ slot stack_top k)
    by rest true is h = (n, omega arith, eqb-true a (slot stack_top n) is)
    by rest false is h = let k = rest h in let i = k.1 in (k.0, omega (arith, i), k.2)

last_or_less : (k n : ℕ) → k < suc n → (k < n) ⊎ (k ≡ n)
last_or_less k n lt = elim (cases_lt k n) [
  | inl l ↦ inl l
  | inr l ↦ inr (omega (arith, lt, l))
]

pub in_slots : (n k : ℕ) → k < n → in_frame n (slot stack_top k) ≡ true
in_slots zero k lt = absurd (omega (arith, lt))
in_slots (suc n) k lt = elim (last_or_less k n lt) [
  | inl l ↦ ap (λ o. if slot stack_top k == slot stack_top n then true else o) (in_slots n k l) ∙ both_ways (slot stack_top k == slot stack_top n)
  | inr e ↦ ap (λ t. if t then true else in_frame n (slot stack_top k)) (eq-eqb (slot stack_top k) (slot stack_top n) (ap (λ j. slot stack_top j) e))
]

unset_open : Unset ≢ Closed
unset_open e = cc

laid_open : (m : Memory) (n a : ℕ) → in_frame n a ≡ true → (lay stack_top n Unset m).stack a ≢ Closed
laid_open m zero a e = cc
laid_open m (suc n) a e = by (λ h. laid_open m n a h) (a == slot stack_top n) e
  where
    by : (in_frame n a ≡ true → (lay stack_top n Unset m).stack a ≢ Closed) → (t : Bool) → (if t then true else in_frame n a) ≡ true →
        (if t then Unset else (lay stack_top n Unset m).stack a) ≢ Closed
    by rest true h = unset_open
    by rest false h = rest h

laid_statics : (m : Memory) (n : ℕ) → (lay stack_top n Unset m).statics ≡ m.statics
laid_statics m zero = refl
laid_statics m (suc n) = laid_statics m n

laid_heap : (m : Memory) (n : ℕ) → (lay stack_top n Unset m).heap ≡ m.heap
laid_heap m zero = refl
laid_heap m (suc n) = laid_heap m n

laid_whole : (m : Memory) (n : ℕ) → IsWhole m → IsWhole (lay stack_top n Unset m)
laid_whole m zero h = h
laid_whole m (suc n) h = let k = laid_whole m n h in record {
  statics = k.statics;
  static_words = k.static_words;
  static_bytes = k.static_bytes;
  heap = k.heap;
  heap_words = k.heap_words;
  heap_bytes = k.heap_bytes;
}

no_word : (ls : List Literal) (n a : ℕ) → cell_word ((lay stack_top n Unset (begin ls)).stack a) ≡ None
no_word ls zero a = refl
no_word ls (suc n) a = by (no_word ls n a) (a == slot stack_top n)
  where
    by : cell_word ((lay stack_top n Unset (begin ls)).stack a) ≡ None → (t : Bool) →
        cell_word (if t then Unset else (lay stack_top n Unset (begin ls)).stack a) ≡ None
    by rest true = refl
    by rest false = rest

-- What the heap and the statics have: the words of the literals.

abbrev pub stored_at : (statics : List ℕ) → Bool → Option ℕ → Stored
stored_at xs true (Some i) = word (word_at xs i)
stored_at xs _ _ = unknown

abbrev pub first_holdings : List ℕ → Holdings
first_holdings xs = record {
  at = λ a. stored_at xs (a % 4 == 0) (offset a statics_base (length xs));
  objects = [];
}

no_heap : (a base : ℕ) → offset a base 0 ≡ None
no_heap a base = elim (cases_lt a base) [
  | inl lt ↦ offset_below base 0 a lt
  | inr le ↦ offset_above base 0 a (omega (arith, le))
]

-- memory where the body begins
abbrev pub first_memory : List Literal → (slots : ℕ) → Memory
first_memory ls n = lay stack_top n Unset (begin ls)

-- what keys have
abbrev pub content_of : Bool → Content
content_of true = free
content_of false = nowhere

abbrev pub first_places : (slots : ℕ) → Places
first_places n (cell a) = content_of (in_frame n a)
first_places n (temporary d i) = nowhere

abbrev pub first_world : List Literal → (slots : ℕ) → (input : List ℕ) → World
first_world ls n input = record { memory = first_memory ls n; input = input }

abbrev pub first_source : (weight : ℕ) → (input : List ℕ) → SourceWorld
first_source weight input = add_weight weight (initial_world input)

-- the first activation
abbrev pub first_scene : (slots size weight : ℕ) → Scene
first_scene n size weight = record {
  activation = record { base = stack_top; size = size };
  level = 0;
  depth = 0;
  chain = λ l. stack_top;
  keeps = λ k. false;
  weight = weight;
  slots = n;
}

some_is : {A : Type 0} {a b : A} → Some a ≡ Some b → a ≡ b
some_is e = cc

word_is : {a b : ℕ} → Stored.word a ≡ Stored.word b → a ≡ b
word_is e = cc

module _ (ls : List Literal) (n : ℕ) where
  abbrev pub m0 : Memory
  m0 = first_memory ls n

  pub statics_are : m0.statics ≡ statics_of ls
  statics_are = laid_statics (begin ls) n

  abbrev pub h0 : Holdings
  h0 = first_holdings m0.statics

  -- loads there, by where an address falls
  abbrev loaded : (a : ℕ) → (even : Bool) → (o p : Option ℕ) → Option ℕ
  loaded a even o p = if even then word_in m0 a (or_heap o p) else None

  word_stored : (a v : ℕ) (even : Bool) (o p : Option ℕ) → stored_at m0.statics even o ≡ word v → loaded a even o p ≡ Some v
  word_stored a v true (Some i) p h = ap Some (word_is h)
  word_stored a v true None p h = cc
  word_stored a v false o p h = cc

  stored_word : (a v : ℕ) (even : Bool) (o p : Option ℕ) → p ≡ None → loaded a even o p ≡ Some v → stored_at m0.statics even o ≡ word v
  stored_word a v true (Some i) p q h = ap (λ k. word k) (some_is h)
  stored_word a v true None (Some j) q h = cc
  stored_word a v true None None q h = let no : None ≡ Some v = sym (no_word ls n a) ∙ h in absurd (cc)
  stored_word a v false o p q h = cc

  known_there : (a : ℕ) (xs : List ℕ) (even : Bool) (o : Option ℕ) → (a % 4 == 0) ≡ even → offset a statics_base (length xs) ≡ o → length xs ≤ most_bytes →
      stored_at xs even o ≢ unknown → (a % 4 ≡ 0) × (a < heap_base + 0)
  known_there a xs true (Some i) is at few ne = (
    eqb-true (a % 4) 0 is,
    elim (cases_lt a (statics_base + length xs)) [
      | inl lt ↦ omega (arith, lt, few)
      | inr le ↦ (let no : None ≡ Some i = sym (offset_above statics_base (length xs) a le) ∙ at in absurd (cc))
    ],
  )
  known_there a xs true None is at few ne = absurd (ne refl)
  known_there a xs false o is at few ne = absurd (ne refl)

  never_part : (xs : List ℕ) (even : Bool) (o : Option ℕ) (r i : ℕ) → stored_at xs even o ≡ part r i → ⊥
  never_part xs true (Some j) r i e = cc
  never_part xs true None r i e = cc
  never_part xs false o r i e = cc

  used_in : (t : Bool) → content_of t ≢ nowhere → t ≡ true
  used_in true ne = refl
  used_in false ne = absurd (ne refl)

  no_variable : (l : ℕ) (k : Key) → IsOf l (first_places n k) → ⊥
  no_variable l (cell a) h = by (in_frame n a) h
    where
      by : (t : Bool) → IsOf l (content_of t) → ⊥
      by true e = e
      by false e = e
  no_variable l (temporary d i) h = h

  -- the slots are whole words below the frame address
  slot_there : (size a : ℕ) → 4 * n ≤ size → size ≤ stack_top → in_frame n a ≡ true → (stack_top - size ≤ a) × (a < stack_top) × (a % 4 ≡ 0)
  slot_there size a fits le e =
      let k = slots_in n a e in
      let i = k.1 in
      let j = k.2 in
      (omega (arith, fits, le, i, j), omega (arith, fits, le, i, j), omega (arith, fits, le, i, j))

-- What both sides have there.
module _ (P : Program) (set : Setting P) (n size weight : ℕ) (input : List ℕ) (fits : 4 * n ≤ size) (within : size ≤ P.stack)
    (static_bytes : All (λ b. b < 256) (statics_of P.code.literals)) (bytes : All (λ b. b < 256) input) where
  abbrev ls : List Literal
  ls = P.code.literals

  few : length (statics_of ls) ≤ most_bytes
  few = set.statics_small

  below_top : size ≤ stack_top
  below_top = let a = within in let b = set.stack_small in omega (arith, a, b)

  whole : IsWhole (m0 ls n)
  whole = laid_whole (begin ls) n (begin_is_whole ls few static_bytes)

  heap_is : length (m0 ls n).heap ≡ 0
  heap_is = ap length (laid_heap (begin ls) n)

  holds_first : (ts : AllTemps) (k : Key) → HoldsAt (h0 ls n) [] (first_source weight input) (m0 ls n) ts k (first_places n k)
  holds_first ts (cell a) = by (in_frame n a) refl
    where
      by : (t : Bool) → in_frame n a ≡ t → HoldsAt (h0 ls n) [] (first_source weight input) (m0 ls n) ts (cell a) (content_of t)
      by true is = laid_open (begin ls) n a is
      by false is = tt
  holds_first ts (temporary d i) = tt

  pub first_invariant : (ts : AllTemps) →
      Invariant P.shapes P.heap (floor P) (first_places n) (h0 ls n) [] (first_source weight input) (first_world ls n input) ts
  first_invariant ts = record {
    holds = λ k. holds_first ts k;
    once = λ k j l a b. absurd (no_variable ls n l k a);
    above = λ a ne.
        let s = slot_there ls n size a fits below_top (used_in ls n (in_frame n a) ne) in
        let i = s.0 in
        let w = within in
        (omega (arith, i, w), s.1, s.2);
    words = λ a v e.
        word_stored ls n a v (a % 4 == 0) (offset a statics_base (length (m0 ls n).statics)) (offset a heap_base (length (m0 ls n).heap)) e;
    once_laid = λ a b r i e f. absurd (never_part ls n (m0 ls n).statics (a % 4 == 0) (offset a statics_base (length (m0 ls n).statics)) r i e);
    owned = λ a r i e. absurd (never_part ls n (m0 ls n).statics (a % 4 == 0) (offset a statics_base (length (m0 ls n).statics)) r i e);
    laid = λ r o e. cc;
    objects = refl;
    variables = refl;
    known = λ a ne.
        let long : length (m0 ls n).statics ≡ length (statics_of ls) = ap length (statics_are ls n) in
        let k = known_there ls n a (m0 ls n).statics (a % 4 == 0) (offset a statics_base (length (m0 ls n).statics)) refl refl (omega (arith, few, long)) ne in
        let i = k.1 in
        let j = heap_is in
        (k.0, omega (arith, i, j));
    addresses = λ q r o p lt e f. cc;
    in_heap = λ r o e. cc;
    memory = record { whole = whole; taken = let j = heap_is in omega (arith, j); most = set.heap_small };
    heap = heap_is;
    input = refl;
    input_bytes = bytes;
  }

  -- a literal's words are known where it stands
  pub first_literal : (a label : ℕ) (text : List ℕ) → All (λ b. b < 256) text → literal_address ls label ≡ Some a → text_of label ls ≡ Some (string_text text) →
      IsText (h0 ls n) a text
  first_literal a label text small at is =
      let long : length (m0 ls n).statics ≡ length (statics_of ls) = ap length (statics_are ls n) in
      let string : IsStringAt (m0 ls n) a text = literal_is_string ls (m0 ls n) label a text (statics_are ls n) (omega (arith, few, long)) small at is in
      record {
        aligned = string.aligned;
        each = small;
        words = λ k lt.
            stored_word ls n (a + 4 * k) (word_at (string_block text) (4 * k)) ((a + 4 * k) % 4 == 0)
            (offset (a + 4 * k) statics_base (length (m0 ls n).statics))
            (offset (a + 4 * k) heap_base (length (m0 ls n).heap)) (ap (λ l. offset (a + 4 * k) heap_base l) heap_is ∙ no_heap (a + 4 * k) heap_base)
            (string.words k lt);
      }

  free_below : (a : ℕ) (t : Bool) → in_frame n a ≡ t → a < stack_top - size → content_of t ≡ nowhere
  free_below a true is lt = let s = slot_there ls n size a fits below_top is in let le = s.0 in absurd (omega (arith, le, lt))
  free_below a false is lt = refl

  pub first_is_scene : size % 4 ≡ 0 → 8 ≤ size → size ≤ weight → IsScene (floor P) P.stack (first_places n) (first_scene n size weight)
  first_is_scene even least light = record {
    here = refl;
    high = λ l le. omega arith;
    room = λ l lt le. omega arith;
    aligned = λ l le. omega arith;
    even = even;
    in_slot = λ lt e. absurd (omega (arith, lt));
    in_temp = λ lt e. absurd (omega (arith, lt));
    links = λ l lt e. absurd (omega (arith, lt));
    deeper = λ d i lt. refl;
    under = λ a lt. free_below a (in_frame n a) refl lt;
    fits = fits;
    least = least;
    within = let a = below_top in let w = within in let b = set.stack_small in omega (arith, a, w, b);
    weighs = let a = below_top in omega (arith, a, light);
    top = let b = set.stack_small in omega (arith, b);
    deep = omega arith;
  }

-- The outermost scope and environment.

one_level : (k : ℕ) (text : List ℕ) (fs : List Standard) (es : List Entry) → levels_of es ≡ [] → levels_of (standards_of text k fs ++ es) ≡ []
one_level k text [] es h = h
one_level k text (f ∷ fs) es h = by (one_level k text fs es h) (bytes_eq text (standard_text f))
  where
    by : levels_of (standards_of text k fs ++ es) ≡ [] → (t : Bool) → levels_of ((if t then standard k f ∷ [] else standards_of text k fs) ++ es) ≡ []
    by rest true = h
    by rest false = rest

pub no_levels : (k : ℕ) (names : List (List ℕ)) → levels_of (outermost_from k names) ≡ []
no_levels k [] = refl
no_levels k (text ∷ names) = one_level k text standards (outermost_from (suc k) names) (no_levels (suc k) names)

found_entry : (table : Table) (s : TranslationState) (k : ℕ) (o : Option Standard) (bs : List (ℕ × Binding)) → HasFound table s bs →
    HasFound table s (entry standard_one k o ++ bs)
found_entry table s k None bs h = h
found_entry table s k (Some f) bs h = h

pub outermost_found : (table : Table) (s : TranslationState) (k : ℕ) (names : List (List ℕ)) → HasFound table s (standard_bindings k names)
outermost_found table s k [] = tt
outermost_found table s k (text ∷ names) =
    found_entry table s k (standard_of text standards) (standard_bindings (suc k) names) (outermost_found table s (suc k) names)
