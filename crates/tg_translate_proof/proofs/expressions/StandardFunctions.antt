-- Standard functions: each call of the runtime does what the standard function does, on both sides. A call leaves 64 of the
-- 252 units that it has.
use Rattle.std.proofs.Common.{◌≡◌, ◌≢◌, ℕ, zero, suc, ◌+◌, ◌-◌, ◌*◌, ◌%◌, ◌/◌, ◌^◌, ◌<◌, ◌≤◌, List, [], ◌∷◌, ◌++◌, length, Option, Some, Bool, true, false, refl, sym, ap, ◌∙◌, arith, subst, inl, inr, eqb-true, eq-eqb, ltb-true, ltb-false}
use Rattle.std.specs.Prelude.{if◌then◌else◌, nat_lt, take, drop, ◌==◌, ◌||◌, All}
use Rattle.std.proofs.lemmas.Bool.{cases_lt, lt-ltb, le-ltb}
use Rattle.std.proofs.lemmas.List.{length-append, length-take, length-drop}
use Rattle.std.proofs.lemmas.List.Elements.{All-append, All-take, All-drop}
use Rattle.tg_machine_state.specs.declared.ends.RunEnd.TheVariants.{HeapFull, Break, Exit}
use Rattle.tg_machine_state.specs.State.{word_at, heap_base, stack_top, most_room}
use Rattle.tg_base.specs.Words.{is_negative, signed}
use Rattle.tg_simulation.specs.Bytes.{AreBytes}
use Rattle.tg_simulation.specs.Runs.{Run}
use Rattle.tg_simulation.specs.Ran.{Ran, Ended}
use Rattle.tg_simulation.specs.Outcomes.{ended}
use Rattle.tg_simulation.specs.Changes.{costs, writes_first}
use Rattle.tg_simulation.specs.Agreement.{Source}
use Rattle.tg_simulation.proofs.Following.{follows_paying, follows_writing}
use Rattle.tg_semantics.specs.Values.{Value, int, string, nothing, SourceWorld, Ending, add_weight, drop_weight, add_heap, drop_byte}
use Rattle.tg_semantics.specs.Values.{by_heap, by_chr, by_substring, by_exit}
use Rattle.tg_semantics.specs.Evaluation as E
use Rattle.tg_semantics.specs.Levels.{runtime_weight}
use Rattle.tg_semantics.specs.Operators.{truth, is_below, string_bytes}
use Rattle.tg_semantics.specs.MachineEnds.{machine_end}
use Rattle.tg_semantics.specs.MachineRuns.{rest_run}
use Rattle.tg_semantics.specs.Passing.{Rest, Passing, passing, ends}
use Rattle.tg_semantics.specs.declared.standards.Standard.TheVariants.{Print, Flush, Getchar, Ord, Chr, Size, Substring, Concat, Not}
use Rattle.tg_semantics.specs.declared.standards.Standard.TheVariants as standard
use Rattle.tg_typecheck.specs.Types.{Ty, int_type, string_type, none_type}
use Rattle.tg_tree.specs.Units.{marked_entry_units}
use Rattle.tg_tree.specs.Memory.{string_block, statics_of}
use Rattle.tg_tree.specs.Actions.{World, Temps, Go, Back, over, written}
use Rattle.tg_runtime.specs.declared.routines.Routine.{Routine}
use Rattle.tg_runtime.specs.declared.routines.Routine.TheVariants as routine
use Rattle.tg_runtime.specs.mirror.Labels.{label_of}
use Rattle.tg_runtime_proof.specs.laws.Serving.{Serves, Makes, ServesWell, with_block, with_input, call_units, turn_units, first_of, order_of, is_outside}
use Rattle.tg_runtime_proof.specs.Memories.{IsStringAt}
use Rattle.tg_runtime_proof.proofs.Strings.{block_length, block_small, string_ends}
use Rattle.tg_runtime_proof.proofs.Signs.{below_lt, neither_of}
use Rattle.tg_correctness.specs.laws.Laws.{tree_work}
use Rattle.tg_translate_proof.specs.glue.Worlds.{Holdings, Stored, unknown, word, part, Stands, an_int, a_string, no_value, GrowsTo, IsText, IsScene, Invariant}
use Rattle.tg_translate_proof.specs.glue.Situations.{Program, Part, Setting, Holds, floor, calling, frames_at, with_temps}
use Rattle.tg_translate_proof.specs.glue.Shown.{FollowsHere}
use Rattle.tg_translate_proof.proofs.state.HeapBlocks.{AreOwned, Fills, with_words, with_objects, grows, in_block}
use Rattle.tg_translate_proof.proofs.invariant.Cases.{grows_none}
use Rattle.tg_translate_proof.proofs.invariant.Parts.{more, stop_follows}
use Rattle.tg_translate_proof.proofs.state.ValueWords.{text_grows}
use Rattle.tg_translate_proof.proofs.expressions.RuntimeCalls.{host, served, top_of, weighed, routine_follows, follows_coming, string_stands, weight_is}

-- Wherever something holds, parts are those of objects that there are, and objects begin in the heap that is taken.
abbrev pub Owns : Program → Type 0
Owns P =
    (p : Part) (h : Holdings) (types : List Ty) (s : SourceWorld) (w : World) (t : Temps) → Holds P p h types s w t →
    AreOwned h (length w.memory.heap)

pub objects_are_owned : (P : Program) → Owns P
objects_are_owned P p h types s w t x = record { owned = x.invariant.owned; below = λ r o e. (x.invariant.in_heap r o e).1 }

-- only the weight is another
pub holds_weight : (P : Program) (p : Part) (h : Holdings) (types : List Ty) (s : SourceWorld) (w : World) (t : Temps) (k : ℕ) →
    k ≡ p.scene.weight → Holds P p h types s w t → Holds P p h types (record s { weight = k }) w t
holds_weight P p h types s w t k is x = record {
  invariant =
      weight_is P.shapes P.heap (floor P) p.places h types s w (with_temps p.scene.depth t p.others) k x.invariant;
  weight = is;
  depth = x.depth;
  statics = x.statics;
  literals = x.literals;
}

-- The words of a string's block.

abbrev word_where : (inside aligned : Bool) → ℕ → Stored
word_where inside aligned v = if inside then (if aligned then word v else unknown) else unknown

where_word : (b c : Bool) (u v : ℕ) → word_where b c u ≡ word v → u ≡ v
where_word true true u v e = cc
where_word true false u v e = cc
where_word false c u v e = cc

where_known : (b c : Bool) (u : ℕ) → word_where b c u ≢ unknown → (b ≡ true) × (c ≡ true)
where_known true true u ne = (refl, refl)
where_known true false u ne = absurd (ne refl)
where_known false c u ne = absurd (ne refl)

where_no_part : (b c : Bool) (u r i : ℕ) → word_where b c u ≡ part r i → ⊥
where_no_part true true u r i e = cc
where_no_part true false u r i e = cc
where_no_part false c u r i e = cc

abbrev pub string_at : List ℕ → (offset : ℕ) → Stored
string_at bytes o =
    word_where (nat_lt o (length (string_block bytes))) (o % 4 == 0) (word_at (string_block bytes) o)

pub string_fills : (h : Holdings) (bytes : List ℕ) → Fills h (string_block bytes) (string_at bytes)
string_fills h bytes =
    let inside : ℕ → Bool = λ o. nat_lt o (length (string_block bytes)) in
    record {
      words = λ o v e. where_word (inside o) (o % 4 == 0) (word_at (string_block bytes) o) v e;
      known = λ o ne.
          let k = where_known (inside o) (o % 4 == 0) (word_at (string_block bytes) o) ne in
          (eqb-true (o % 4) 0 k.1, ltb-true o (length (string_block bytes)) k.0);
      parts = λ o r i e. absurd (where_no_part (inside o) (o % 4 == 0) (word_at (string_block bytes) o) r i e);
      once = λ o q r i e f. absurd (where_no_part (inside o) (o % 4 == 0) (word_at (string_block bytes) o) r i e);
    }

string_here : (bytes : List ℕ) (k : ℕ) → 4 * k < length (string_block bytes) →
    string_at bytes (4 * k) ≡ word (word_at (string_block bytes) (4 * k))
string_here bytes k lt =
    let even : 4 * k % 4 ≡ 0 = omega arith in
    ap (λ b. word_where b (4 * k % 4 == 0) (word_at (string_block bytes) (4 * k))) (lt-ltb (4 * k) (length (string_block bytes)) lt) ∙
    ap (λ b. word_where true b (word_at (string_block bytes) (4 * k))) (eq-eqb (4 * k % 4) 0 even)

string_has_no_part : (bytes : List ℕ) (o r i : ℕ) → string_at bytes o ≡ part r i → ⊥
string_has_no_part bytes o r i e =
    where_no_part (nat_lt o (length (string_block bytes))) (o % 4 == 0) (word_at (string_block bytes) o) r i e

-- A new string, after the taken heap: it stands there, and all that held does.
pub record HasString (P : Program) (p : Part) (h : Holdings) (types : List Ty) (s : SourceWorld) (w : World) (t : Temps)
    (bytes : List ℕ) : Type 0 where
  pub g : Holdings
  pub grown : GrowsTo h g
  pub text : IsText g (heap_base + length w.memory.heap) bytes
  pub holds : Holds P p g types (add_heap (length (string_block bytes)) s) (with_block (string_block bytes) w) t

pub string_added : (P : Program) → Setting P → (p : Part) (h : Holdings) (types : List Ty) (s : SourceWorld) (w : World) (t : Temps) →
    Holds P p h types s w t → AreOwned h (length w.memory.heap) → (bytes : List ℕ) → AreBytes bytes → length bytes < 2 ^ 32 →
    length w.memory.heap + length (string_block bytes) ≤ P.heap → HasString P p h types s w t bytes
string_added P set p h types s w t x own bytes small few fits =
    let block = string_block bytes in
    let long = block_length bytes in
    let room = set.heap_small in
    let stack = set.stack_small in
    let even : length block % 4 ≡ 0 = omega (arith, long) in
    let high : heap_base + P.heap ≤ floor P = omega (arith, room, stack) in
    let ts = with_temps p.scene.depth t p.others in
    let fills = string_fills h bytes in
    let bs : AreBytes block = block_small bytes few small in
    let new = string_at bytes in
    let g : Holdings =
    with_objects P.shapes P.heap (floor P) p.places h types s w ts x.invariant own high block even bs fits new fills h.objects in
    let grown : GrowsTo h g =
    grows P.shapes P.heap (floor P) p.places h types s w ts x.invariant own high block even bs fits new fills h.objects
    (λ r o e. e) in
    let words = x.invariant.memory.whole.heap_words in
    record {
      g = g;
      grown = grown;
      text = record {
        aligned = omega (arith, words);
        each = small;
        words = λ k lt.
            in_block P.shapes P.heap (floor P) p.places h types s w ts x.invariant own high block even bs fits new fills (4 * k) ∙
            string_here bytes k lt;
      };
      holds = record {
        invariant =
            with_words P.shapes P.heap (floor P) p.places h types s w ts x.invariant own high block even bs fits new fills
            (λ o r i e. string_has_no_part bytes o r i e);
        weight = x.weight;
        depth = x.depth;
        statics = x.statics;
        literals = λ a label b there at. text_grows h g a b grown (x.literals a label b there at);
      };
    }

byte_alone : (i : ℕ) → i < 256 → AreBytes (i ∷ [])
byte_alone i lt zero d below = lt
byte_alone i lt (suc j) d below = absurd (omega (arith, below))

truth_small : (b : Bool) → (if b then 1 else 0) < 2 ^ 32
truth_small true = omega arith
truth_small false = omega arith

inside_within : (y : List ℕ) (first k : ℕ) → is_outside y first k ≡ false → first + k ≤ length y
inside_within y first k e =
    ltb-false (length y) (first + k)
    (neither_of (is_negative first || is_negative k) (nat_lt (length y) (first + k)) e).1

module _ (P : Program) (set : Setting P) (p : Part) (scene : IsScene (floor P) P.stack p.places p.scene)
    (same : p.around.activation ≡ p.scene.activation) (r n : ℕ) (go : Value → Rest) (out : Rest) (go' : Go ℕ)
    (h : Holdings) (types : List Ty) (s : SourceWorld) (w : World) (t : Temps) (x : Holds P p h types s w t)
    (own : AreOwned h (length w.memory.heap)) where
  abbrev pub back : Back
  back v w1 = go' v w1 t

  -- what comes after the call, which weighs no more
  abbrev pub go_on : Value → Rest
  go_on v s1 = go v (drop_weight runtime_weight s1)

  abbrev pub opened : SourceWorld
  opened = add_weight runtime_weight s

  -- what comes next follows, whatever is given and wherever the heap has grown
  abbrev pub Onwards : Ty → Type 0
  Onwards result =
      (g : Holdings) (s1 : SourceWorld) (w1 : World) → GrowsTo h g → Holds P p g types s1 w1 t →
      (v : Value) (u : ℕ) → Stands g v result u → FollowsHere P (r + 64) n (rest_run (go v) s1) (go' u w1 t)

  -- the call, on both sides
  abbrev pub CallFollows : (one : Routine) → List ℕ → Rest → Type 0
  CallFollows one us m =
      FollowsHere P (r + 252) n (rest_run (weighed P set m) s) (calling P (frames_at P p) (label_of one) us (top_of P set p) back w)

  -- the world after a call that changes nothing
  pub closed : Holds P p h types (drop_weight runtime_weight opened) w t
  closed =
      let is = x.weight in
      holds_weight P p h types s w t (s.weight + runtime_weight - runtime_weight) (omega (arith, is)) x

  -- by what the function comes to, where so much of the source's cost pays for its turns
  pub acts : (one : Routine) (us : List ℕ) (turns paid : ℕ) (what : Back → Run Ran) (m : Rest) (c : Run Source) →
      marked_entry_units (length us) ≤ 252 → 224 + 36 * turns ≤ 252 + paid →
      Serves (host P set) turns one us w what →
      ((d : Run Ran) → FollowsHere P (r + 252 + paid) n c d → FollowsHere P (r + 252) n (rest_run m opened) d) →
      FollowsHere P (r + 64) n c (what back) → CallFollows one us m
  acts one us turns paid what m c units le serves pays f =
      routine_follows P set p h types s w t scene same x one us (r + 252) n back m (omega (arith, units)) turns what serves
      (λ d comes. pays d (follows_coming P (r + 64) (r + 252 + paid) (call_units + turn_units * turns) n c d (what back)
      (omega (arith, le)) comes f))

  -- the cost of so many bytes
  pub spends : (k : ℕ) (rest : Rest) (d : Run Ran) → FollowsHere P (r + 252 + 256 * k) n (rest_run rest opened) d →
      FollowsHere P (r + 252) n (rest_run (λ s1 i. costs k (rest s1 i)) opened) d
  spends k rest d f = follows_paying P.stack tree_work (r + 252) n k (rest_run rest opened) d f

  free : (rest : Rest) (d : Run Ran) → FollowsHere P (r + 252 + 0) n (rest_run rest opened) d →
      FollowsHere P (r + 252) n (rest_run rest opened) d
  free rest d f = more P (r + 252 + 0) (r + 252) n (rest_run rest opened) d (omega arith) f

  -- a string that is handed to a function
  stands_there : (a : ℕ) (bytes : List ℕ) → IsText h a bytes → IsStringAt w.memory a bytes
  stands_there a bytes text =
      string_stands P.shapes P.heap (floor P) p.places h types s w (with_temps p.scene.depth t p.others) a bytes x.invariant text

  abbrev pub well : ServesWell (host P set) w
  well = served P set p h types s w t x

  -- Functions that make no string.

  pub print_acts : (a : ℕ) (bytes : List ℕ) → IsText h a bytes → Onwards none_type →
      CallFollows routine.Print (a ∷ []) (E.call_standard Passing (passing P.heap P.stack) Print (string bytes ∷ []) go_on out)
  print_acts a bytes text onward =
      let k = length bytes in
      acts routine.Print (a ∷ []) k (256 * k) (λ b. written bytes (b 0 w))
      (E.call_standard Passing (passing P.heap P.stack) Print (string bytes ∷ []) go_on out)
      (rest_run (λ s1 i. writes_first bytes (go_on nothing s1 i)) opened) (omega arith) (omega arith)
      (well.prints a bytes (stands_there a bytes text))
      (λ d f. spends k (λ s1 i. writes_first bytes (go_on nothing s1 i)) d f)
      (follows_writing P.stack tree_work (r + 64) n bytes (rest_run (go nothing) (drop_weight runtime_weight opened)) (go' 0 w t)
      (onward h (drop_weight runtime_weight opened) w (grows_none h) closed nothing 0 (no_value 0)))

  pub flush_acts : Onwards none_type →
      CallFollows routine.Flush [] (E.call_standard Passing (passing P.heap P.stack) Flush [] go_on out)
  flush_acts onward =
      acts routine.Flush [] 0 0 (λ b. b 0 w) (go_on nothing) (rest_run (go_on nothing) opened) (omega arith) (omega arith)
      well.flushes (λ d f. free (go_on nothing) d f)
      (onward h (drop_weight runtime_weight opened) w (grows_none h) closed nothing 0 (no_value 0))

  first_byte_is : (bytes : List ℕ) → AreBytes bytes → (E.first_byte Passing (passing P.heap P.stack) bytes ≡ first_of bytes) × (first_of bytes < 2 ^ 32)
  first_byte_is [] all = (refl, omega arith)
  first_byte_is (b ∷ rest) all = let lt = all 0 0 (omega arith) in (refl, omega (arith, lt))

  pub ord_acts : (a : ℕ) (bytes : List ℕ) → IsText h a bytes → Onwards int_type →
      CallFollows routine.Ord (a ∷ []) (E.call_standard Passing (passing P.heap P.stack) Ord (string bytes ∷ []) go_on out)
  ord_acts a bytes text onward =
      let k = length bytes in
      let first = E.first_byte Passing (passing P.heap P.stack) bytes in
      let is = first_byte_is bytes text.each in
      acts routine.Ord (a ∷ []) 0 (256 * k) (λ b. b (first_of bytes) w)
      (E.call_standard Passing (passing P.heap P.stack) Ord (string bytes ∷ []) go_on out)
      (rest_run (go_on (int first)) opened) (omega arith) (omega arith)
      (well.gives_byte a bytes (stands_there a bytes text))
      (λ d f. spends k (go_on (int first)) d f)
      (subst (λ v. FollowsHere P (r + 64) n (rest_run (go (int v)) (drop_weight runtime_weight opened)) (go' (first_of bytes) w t))
      (sym is.0)
      (onward h (drop_weight runtime_weight opened) w (grows_none h) closed (int (first_of bytes)) (first_of bytes)
      (an_int (first_of bytes) is.1)))

  pub size_acts : (a : ℕ) (bytes : List ℕ) → IsText h a bytes → Onwards int_type →
      CallFollows routine.Size (a ∷ []) (E.call_standard Passing (passing P.heap P.stack) Size (string bytes ∷ []) go_on out)
  size_acts a bytes text onward =
      let k = length bytes in
      let at = stands_there a bytes text in
      let ends = string_ends w.memory a bytes x.invariant.memory.whole at in
      acts routine.Size (a ∷ []) 0 (256 * k) (λ b. b k w)
      (E.call_standard Passing (passing P.heap P.stack) Size (string bytes ∷ []) go_on out)
      (rest_run (go_on (int k)) opened) (omega arith) (omega arith) (well.gives_size a bytes at)
      (λ d f. spends k (go_on (int k)) d f)
      (onward h (drop_weight runtime_weight opened) w (grows_none h) closed (int k) k (an_int k (omega (arith, ends))))

  pub not_acts : (i : ℕ) → Onwards int_type →
      CallFollows routine.Not (i ∷ []) (E.call_standard Passing (passing P.heap P.stack) Not (int i ∷ []) go_on out)
  not_acts i onward =
      acts routine.Not (i ∷ []) 0 0 (λ b. b (if i == 0 then 1 else 0) w) (go_on (truth (i == 0)))
      (rest_run (go_on (truth (i == 0))) opened) (omega arith) (omega arith) (well.negates i)
      (λ d f. free (go_on (truth (i == 0))) d f)
      (onward h (drop_weight runtime_weight opened) w (grows_none h) closed (truth (i == 0)) (if i == 0 then 1 else 0)
      (an_int (if i == 0 then 1 else 0) (truth_small (i == 0))))

  -- both runs end
  pub exit_acts : (i : ℕ) →
      CallFollows routine.Exit (i ∷ []) (E.call_standard Passing (passing P.heap P.stack) standard.Exit (int i ∷ []) go_on out)
  exit_acts i =
      acts routine.Exit (i ∷ []) 0 0 (λ b. over (Ended (Exit (signed i))) w) (ends (ended (by_exit i)))
      (rest_run (ends (ended (by_exit i))) opened) (omega arith) (omega arith) (well.exits i)
      (λ d f. free (ends (ended (by_exit i))) d f)
      (stop_follows P (r + 64) n (by_exit i) opened w x.invariant.input)

  -- a comparison of strings, whose order the runtime tells
  pub compare_acts : (a b : ℕ) (y z : List ℕ) → IsText h a y → IsText h b z → (told : Option Bool) (truth_is : Bool) →
      told ≡ Some truth_is →
      FollowsHere P (r + 64) n (rest_run (go (truth truth_is)) (drop_weight runtime_weight opened)) (go' (order_of y z) w t) →
      CallFollows routine.Compare (a ∷ b ∷ [])
      (λ s1 i. costs (length y + length z) (E.held Passing (passing P.heap P.stack) told go_on out s1 i))
  compare_acts a b y z ty tz told truth_is is f =
      let k = length y + length z in
      acts routine.Compare (a ∷ b ∷ []) k (256 * k) (λ c. c (order_of y z) w)
      (λ s1 i. costs k (E.held Passing (passing P.heap P.stack) told go_on out s1 i))
      (rest_run (go_on (truth truth_is)) opened) (omega arith) (omega arith)
      (well.compares a b y z (stands_there a y ty) (stands_there b z tz))
      (λ d g. spends k (E.held Passing (passing P.heap P.stack) told go_on out) d
      (subst (λ o. FollowsHere P (r + 252 + 256 * k) n (rest_run (E.held Passing (passing P.heap P.stack) o go_on out) opened) d) (sym is) g))
      f

  -- Functions that make a string.

  -- the string is made on both sides, or there is no room
  module _ (one : Routine) (us : List ℕ) (turns paid : ℕ) (bytes : List ℕ) (s0 : SourceWorld) (input : List ℕ)
      (x0 : Holds P p h types s0 (with_input input w) t) (m : Rest) (units : marked_entry_units (length us) ≤ 252)
      (le : 224 + 36 * turns ≤ 252 + paid + 256 * length bytes) (small : AreBytes bytes) (few : length bytes < 2 ^ 32)
      (makes : Makes (host P set) turns one us w (with_input input w) (string_block bytes))
      (pays : (d : Run Ran) →
      FollowsHere P (r + 252 + paid) n
      (rest_run (E.make_string Passing (passing P.heap P.stack) bytes go_on out) (add_weight runtime_weight s0)) d →
      FollowsHere P (r + 252) n (rest_run m opened) d) where
    abbrev s1 : SourceWorld
    s1 = add_weight runtime_weight s0

    abbrev block : List ℕ
    block = string_block bytes

    abbrev making : Rest
    making = E.make_string Passing (passing P.heap P.stack) bytes go_on out

    bytes_are : string_bytes (length bytes) ≡ length block
    bytes_are = let l = block_length bytes in omega (arith, l)

    -- what is made of the test of the room
    abbrev tested : (b : Bool) → Rest
    tested b s2 =
        if b then ends (ended by_heap) s2 else (λ i. costs (length bytes) (go_on (string bytes) (add_heap (string_bytes (length bytes)) s2) i))

    string_full : P.heap < length w.memory.heap + length block → CallFollows one us m
    string_full much =
        let heap = x0.invariant.heap in
        let over_room : nat_lt P.heap (s1.heap + string_bytes (length bytes)) ≡ true =
        lt-ltb P.heap (s1.heap + string_bytes (length bytes)) (let e = bytes_are in omega (arith, much, heap, e)) in
        routine_follows P set p h types s w t scene same x one us (r + 252) n back m (omega (arith, units)) 0
        (λ b. over (Ended HeapFull) (with_input input w)) (makes.full much)
        (λ d comes. pays d
        (follows_coming P 0 (r + 252 + paid) (call_units + turn_units * 0) n (rest_run making s1) d (over (Ended HeapFull) (with_input input w))
        (omega arith) comes
        (subst (λ c. FollowsHere P 0 n (rest_run (λ s2. tested c s2) s1) (over (Ended HeapFull) (with_input input w))) (sym over_room)
        (stop_follows P 0 n by_heap s1 (with_input input w) x0.invariant.input))))

    string_made : length w.memory.heap + length block ≤ P.heap → Onwards string_type → CallFollows one us m
    string_made fits onward =
        let heap = x0.invariant.heap in
        let is = x0.weight in
        let k = length bytes in
        let at = heap_base + length w.memory.heap in
        let added = string_added P set p h types s0 (with_input input w) t x0 own bytes small few fits in
        let enough : nat_lt P.heap (s1.heap + string_bytes k) ≡ false =
        le-ltb P.heap (s1.heap + string_bytes k) (let e = bytes_are in omega (arith, fits, heap, e)) in
        let weight : ℕ = s0.weight + runtime_weight - runtime_weight in
        let w3 : World = with_block block (with_input input w) in
        let s3 : SourceWorld = drop_weight runtime_weight (add_heap (string_bytes k) s1) in
        let holds3 : Holds P p added.g types s3 w3 t =
        subst (λ j. Holds P p added.g types (record s0 { heap = s0.heap + j; weight = weight }) w3 t) (sym bytes_are)
        (holds_weight P p added.g types (add_heap (length block) s0) w3 t weight (omega (arith, is)) added.holds) in
        let c : Run Source = rest_run (go (string bytes)) s3 in
        routine_follows P set p h types s w t scene same x one us (r + 252) n back m (omega (arith, units)) turns
        (λ b. b at w3) (makes.made fits)
        (λ d comes. pays d
        (subst (λ b. FollowsHere P (r + 252 + paid) n (rest_run (λ s2. tested b s2) s1) d) (sym enough)
        (follows_paying P.stack tree_work (r + 252 + paid) n k c d
        (follows_coming P (r + 64) (r + 252 + paid + 256 * k) (call_units + turn_units * turns) n c d (go' at w3 t)
        (omega (arith, le)) comes
        (onward added.g s3 w3 added.grown holds3 (string bytes) at (a_string bytes at added.text))))))

    pub string_acts : Onwards string_type → CallFollows one us m
    string_acts onward =
        elim (cases_lt P.heap (length w.memory.heap + length block)) [
          | inl much ↦ string_full much
          | inr fits ↦ string_made fits onward
        ]

  -- a world that has read a byte
  read_on : Holds P p h types (drop_byte s) (with_input (drop 1 s.input) w) t
  read_on = record {
    invariant = record {
      holds = x.invariant.holds;
      once = x.invariant.once;
      above = x.invariant.above;
      words = x.invariant.words;
      once_laid = x.invariant.once_laid;
      owned = x.invariant.owned;
      laid = x.invariant.laid;
      objects = x.invariant.objects;
      variables = x.invariant.variables;
      known = x.invariant.known;
      addresses = x.invariant.addresses;
      in_heap = x.invariant.in_heap;
      memory = x.invariant.memory;
      heap = x.invariant.heap;
      input = refl;
      input_bytes =
          subst (λ l. AreBytes (drop 1 l)) x.invariant.input (All-drop (λ b. b < 256) 1 w.input x.invariant.input_bytes);
    };
    weight = x.weight;
    depth = x.depth;
    statics = x.statics;
    literals = x.literals;
  }

  pub getchar_acts : Onwards string_type →
      CallFollows routine.Getchar [] (E.call_standard Passing (passing P.heap P.stack) Getchar [] go_on out)
  getchar_acts onward =
      let bytes = take 1 s.input in
      let short = length-take 1 s.input in
      let all : AreBytes bytes =
      subst (λ l. AreBytes (take 1 l)) x.invariant.input (All-take (λ b. b < 256) 1 w.input x.invariant.input_bytes) in
      string_acts routine.Getchar [] 0 0 bytes (drop_byte s) (drop 1 s.input) read_on
      (E.call_standard Passing (passing P.heap P.stack) Getchar [] go_on out) (omega arith) (omega arith) all (omega (arith, short))
      (subst (λ l. Makes (host P set) 0 routine.Getchar [] w (with_input (drop 1 l) w) (string_block (take 1 l))) x.invariant.input
      well.reads)
      (λ d f. more P (r + 252 + 0) (r + 252) n
      (rest_run (E.make_string Passing (passing P.heap P.stack) bytes go_on out) (add_weight runtime_weight (drop_byte s))) d
      (omega arith) f)
      onward

  -- of a byte
  pub chr_acts : (i : ℕ) → is_below i 256 ≡ true → Onwards string_type →
      CallFollows routine.Chr (i ∷ []) (E.call_standard Passing (passing P.heap P.stack) Chr (int i ∷ []) go_on out)
  chr_acts i low onward =
      let lt = below_lt i 256 low in
      let M = passing P.heap P.stack in
      string_acts routine.Chr (i ∷ []) 0 0 (i ∷ []) s w.input x (E.call_standard Passing M Chr (int i ∷ []) go_on out)
      (omega arith) (omega arith) (byte_alone i lt) (omega arith) (well.makes_byte i low)
      (λ d f. subst (λ b. FollowsHere P (r + 252) n
      (rest_run ((if b then E.make_string Passing M (i ∷ []) else E.end_program Passing M by_chr) go_on out) opened) d) (sym low)
      (more P (r + 252 + 0) (r + 252) n (rest_run (E.make_string Passing M (i ∷ []) go_on out) opened) d (omega arith) f))
      onward

  pub chr_refuses : (i : ℕ) → is_below i 256 ≡ false → i < 2 ^ 32 →
      CallFollows routine.Chr (i ∷ []) (E.call_standard Passing (passing P.heap P.stack) Chr (int i ∷ []) go_on out)
  chr_refuses i high small =
      let M = passing P.heap P.stack in
      acts routine.Chr (i ∷ []) 0 0 (λ b. over (Ended (Break 4)) w) (E.call_standard Passing M Chr (int i ∷ []) go_on out)
      (rest_run (ends (ended by_chr)) opened) (omega arith) (omega arith) (well.refuses_byte i high small)
      (λ d f. subst (λ b. FollowsHere P (r + 252) n
      (rest_run ((if b then E.make_string Passing M (i ∷ []) else E.end_program Passing M by_chr) go_on out) opened) d) (sym high)
      (more P (r + 252 + 0) (r + 252) n (rest_run (ends (ended by_chr)) opened) d (omega arith) f))
      (stop_follows P (r + 64) n by_chr opened w x.invariant.input)

  pub concat_acts : (a b : ℕ) (y z : List ℕ) → IsText h a y → IsText h b z → Onwards string_type →
      CallFollows routine.Concat (a ∷ b ∷ [])
      (E.call_standard Passing (passing P.heap P.stack) Concat (string y ∷ string z ∷ []) go_on out)
  concat_acts a b y z ty tz onward =
      let M = passing P.heap P.stack in
      let one = stands_there a y ty in
      let two = stands_there b z tz in
      let ends_y = string_ends w.memory a y x.invariant.memory.whole one in
      let ends_z = string_ends w.memory b z x.invariant.memory.whole two in
      let long = length-append y z in
      let k = length y + length z in
      string_acts routine.Concat (a ∷ b ∷ []) k (256 * k) (y ++ z) s w.input x
      (E.call_standard Passing M Concat (string y ∷ string z ∷ []) go_on out) (omega arith) (omega arith)
      (All-append (λ c. c < 256) y z ty.each tz.each) (omega (arith, long, ends_y, ends_z)) (well.makes_sum a b y z one two)
      (λ d f. spends k (E.make_string Passing M (y ++ z) go_on out) d f) onward

  -- A part of a string.

  abbrev parted : List ℕ → (first k : ℕ) → (outside : Bool) → Rest
  parted y first k outside =
      (if outside then E.end_program Passing (passing P.heap P.stack) by_substring else
      E.make_string Passing (passing P.heap P.stack) (take k (drop first y))) go_on out

  pub substring_acts : (a first k : ℕ) (y : List ℕ) → IsText h a y → is_outside y first k ≡ false → Onwards string_type →
      CallFollows routine.Substring (a ∷ first ∷ k ∷ [])
      (E.call_standard Passing (passing P.heap P.stack) Substring (string y ∷ int first ∷ int k ∷ []) go_on out)
  substring_acts a first k y ty inside onward =
      let M = passing P.heap P.stack in
      let one = stands_there a y ty in
      let ends_y = string_ends w.memory a y x.invariant.memory.whole one in
      let within = inside_within y first k inside in
      let short = length-take k (drop first y) in
      let cut = length-drop first y in
      string_acts routine.Substring (a ∷ first ∷ k ∷ []) k (256 * length y) (take k (drop first y)) s w.input x
      (E.call_standard Passing M Substring (string y ∷ int first ∷ int k ∷ []) go_on out) (omega arith) (omega (arith, within))
      (All-take (λ c. c < 256) k (drop first y) (All-drop (λ c. c < 256) first y ty.each)) (omega (arith, short, cut, ends_y))
      (well.makes_part a first k y one inside)
      (λ d f. spends (length y) (parted y first k (is_outside y first k)) d
      (subst (λ b. FollowsHere P (r + 252 + 256 * length y) n (rest_run (parted y first k b) opened) d) (sym inside) f))
      onward

  pub substring_refuses : (a first k : ℕ) (y : List ℕ) → IsText h a y → is_outside y first k ≡ true → first < 2 ^ 32 → k < 2 ^ 32 →
      CallFollows routine.Substring (a ∷ first ∷ k ∷ [])
      (E.call_standard Passing (passing P.heap P.stack) Substring (string y ∷ int first ∷ int k ∷ []) go_on out)
  substring_refuses a first k y ty outside first_small k_small =
      let one = stands_there a y ty in
      acts routine.Substring (a ∷ first ∷ k ∷ []) 0 (256 * length y) (λ b. over (Ended (Break 5)) w)
      (E.call_standard Passing (passing P.heap P.stack) Substring (string y ∷ int first ∷ int k ∷ []) go_on out)
      (rest_run (ends (ended by_substring)) opened) (omega arith) (omega arith)
      (well.refuses_part a first k y one outside first_small k_small)
      (λ d f. spends (length y) (parted y first k (is_outside y first k)) d
      (subst (λ b. FollowsHere P (r + 252 + 256 * length y) n (rest_run (parted y first k b) opened) d) (sym outside) f))
      (stop_follows P (r + 64) n by_substring opened w x.invariant.input)
