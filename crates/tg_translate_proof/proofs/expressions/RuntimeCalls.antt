-- A call of the runtime in the simulated run: what it comes to is what the standard function does, or the stack is full.
use Rattle.std.proofs.Common.{◌≡◌, ℕ, suc, ◌+◌, ◌-◌, ◌*◌, ◌%◌, ◌/◌, ◌<◌, ◌≤◌, List, [], ◌++◌, length, Some, Bool, true, false, refl, sym, ap, ◌∙◌, arith, subst, inl, inr}
use Rattle.std.specs.Prelude.{if◌then◌else◌, nat_lt}
use Rattle.std.proofs.lemmas.Bool.{cases_lt, lt-ltb}
use Rattle.tg_machine_state.specs.declared.ends.RunEnd.TheVariants.{StackFull}
use Rattle.tg_machine_state.specs.State.{word_at, heap_base, stack_top}
use Rattle.tg_simulation.specs.Runs.{Run}
use Rattle.tg_simulation.specs.Ran.{Ran, Ended, works}
use Rattle.tg_simulation.specs.Outcomes.{Outcome}
use Rattle.tg_simulation.specs.Changes.{passes_limit}
use Rattle.tg_simulation.specs.Agreement.{Source, Matches}
use Rattle.tg_simulation.specs.laws.Simulating.{Comes}
use Rattle.tg_simulation.proofs.Following.{match_works, match_credit, follows_working, follows_passing, follows_full, follows_along}
use Rattle.tg_semantics.specs.Values.{Ending, SourceWorld, add_weight}
use Rattle.tg_semantics.specs.Levels.{runtime_weight}
use Rattle.tg_semantics.specs.MachineRuns.{rest_run, as_source}
use Rattle.tg_semantics.specs.Passing.{Rest}
use Rattle.tg_typecheck.specs.Types.{Ty, Shape}
use Rattle.tg_tree.specs.Tree.{Ts, Function}
use Rattle.tg_tree.specs.Units.{Trees, marked_entry_units}
use Rattle.tg_tree.specs.Memory.{string_block}
use Rattle.tg_tree.specs.Actions.{World, Temps, Back, over, charged, wrong}
use Rattle.tg_tree.specs.Running.{Runner, function_of, entered, fuelled, placed, with_slots, no_temps}
use Rattle.tg_tree.specs.Links.{run_linked_body, call_within, frames_around, first_is}
use Rattle.tg_runtime.specs.declared.routines.Routine.{Routine}
use Rattle.tg_runtime.specs.mirror.Labels.{label_of}
use Rattle.tg_runtime.specs.declared.routines.Routine.TheVariants as routine
use Rattle.tg_runtime.specs.mirror.Routines.{runtime, function, make_record, make_array, compare, print, flush, getchar, ord, chr}
use Rattle.tg_runtime.specs.mirror.Routines.{size, substring, concat, negation, exit}
use Rattle.tg_runtime_proof.specs.Memories.{IsStringAt}
use Rattle.tg_runtime_proof.specs.Settings.{Host}
use Rattle.tg_runtime_proof.specs.laws.Serving.{Serves, ServesWell, linked_host, calls, call_units, turn_units}
use Rattle.tg_runtime_proof.proofs.Calling.{around_body}
use Rattle.tg_runtime_proof.proofs.Running.{linked_are_served}
use Rattle.tg_runtime_proof.proofs.Strings.{block_length}
use Rattle.tg_correctness.specs.laws.Laws.{tree_work}
use Rattle.tg_translate_proof.specs.glue.Worlds.{Holdings, IsText, Invariant, IsScene, Places, AllTemps, unknown}
use Rattle.tg_translate_proof.specs.glue.Situations.{Program, Part, Setting, Holds, floor, going, calling, frames_at}
use Rattle.tg_translate_proof.specs.glue.Shown.{FollowsHere}
use Rattle.tg_translate_proof.proofs.invariant.Parts.{more}

-- what is followed is followed through units of work that come before it
pub follows_coming : (P : Program) (r q k n : ℕ) (c : Run Source) (d e : Run Ran) → r + k ≤ q → Comes k d e →
    FollowsHere P r n c e → FollowsHere P q n c d
follows_coming P r q k n c d e le comes f i li =
    let x = f i li in
    let y = comes x.0 in
    let small = y.3 in
    let first = x.1 in
    let then_ = y.1 in (
      y.0,
      omega (arith, first, then_),
      subst (λ o. Matches P.stack tree_work q (c i) o) (sym y.4)
          (match_credit P.stack tree_work (r + y.2) q (c i) (works y.2 (e x.0)) (omega (arith, small, le))
          (match_works P.stack tree_work r y.2 (c i) (e x.0) x.2)),
    )

-- only its weight is another
pub weight_is : (shapes : List (ℕ × Shape)) (room floor : ℕ) (p : Places) (h : Holdings) (types : List Ty) (s : SourceWorld)
    (w : World) (ts : AllTemps) (k : ℕ) → Invariant shapes room floor p h types s w ts →
    Invariant shapes room floor p h types (record s { weight = k }) w ts
weight_is shapes room floor p h types s w ts k inv = record {
  holds = inv.holds;
  once = inv.once;
  above = inv.above;
  words = inv.words;
  once_laid = inv.once_laid;
  owned = inv.owned;
  laid = inv.laid;
  objects = inv.objects;
  variables = inv.variables;
  known = inv.known;
  addresses = inv.addresses;
  in_heap = inv.in_heap;
  memory = inv.memory;
  heap = inv.heap;
  input = inv.input;
  input_bytes = inv.input_bytes;
}

-- a string that is known stands in memory
pub string_stands : (shapes : List (ℕ × Shape)) (room floor : ℕ) (p : Places) (h : Holdings) (types : List Ty) (s : SourceWorld)
    (w : World) (ts : AllTemps) (a : ℕ) (bytes : List ℕ) → Invariant shapes room floor p h types s w ts → IsText h a bytes →
    IsStringAt w.memory a bytes
string_stands shapes room floor p h types s w ts a bytes inv x =
    let long = block_length bytes in
    let k = (length bytes + 3) / 4 in
    let last = inv.known (a + 4 * k) (λ e. let f = sym (x.words k (omega (arith, long))) ∙ e in cc) in
    let even = inv.memory.whole.heap_words in
    let l0 = last.0 in
    let l1 = last.1 in
    record {
      aligned = x.aligned;
      below = omega (arith, long, even, l0, l1);
      each = x.each;
      words = λ k lt. inv.words (a + 4 * k) (word_at (string_block bytes) (4 * k)) (x.words k lt);
    }

-- Functions of the runtime by their labels.

pub record Found (one : Routine) : Type 0 where
  pub f : Function Ts
  pub is : function_of (label_of one) runtime.functions ≡ Some f
  pub label : f.label ≡ label_of one

pub found_of : (one : Routine) → Found one
found_of routine.MakeRecord = record { f = function routine.MakeRecord 1 1 (make_record 0); is = refl; label = refl }
found_of routine.MakeArray = record { f = function routine.MakeArray 2 5 (make_array 0 1 2 3 4); is = refl; label = refl }
found_of routine.Compare = record { f = function routine.Compare 2 7 (compare 0 1 2 3 4 5 6); is = refl; label = refl }
found_of routine.Print = record { f = function routine.Print 1 3 (print 0 1 2); is = refl; label = refl }
found_of routine.Flush = record { f = function routine.Flush 0 0 flush; is = refl; label = refl }
found_of routine.Getchar = record { f = function routine.Getchar 0 2 (getchar 0 1); is = refl; label = refl }
found_of routine.Ord = record { f = function routine.Ord 1 1 (ord 0); is = refl; label = refl }
found_of routine.Chr = record { f = function routine.Chr 1 2 (chr 0 1); is = refl; label = refl }
found_of routine.Size = record { f = function routine.Size 1 1 (size 0); is = refl; label = refl }
found_of routine.Substring = record { f = function routine.Substring 3 7 (substring 0 1 2 3 4 5 6); is = refl; label = refl }
found_of routine.Concat = record { f = function routine.Concat 2 6 (concat 0 1 2 3 4 5); is = refl; label = refl }
found_of routine.Not = record { f = function routine.Not 1 1 (negation 0); is = refl; label = refl }
found_of routine.Exit = record { f = function routine.Exit 1 1 (exit 0); is = refl; label = refl }

is_low : (one : Routine) → nat_lt (label_of one) 32 ≡ true
is_low routine.MakeRecord = refl
is_low routine.MakeArray = refl
is_low routine.Compare = refl
is_low routine.Print = refl
is_low routine.Flush = refl
is_low routine.Getchar = refl
is_low routine.Ord = refl
is_low routine.Chr = refl
is_low routine.Size = refl
is_low routine.Substring = refl
is_low routine.Concat = refl
is_low routine.Not = refl
is_low routine.Exit = refl

module _ (P : Program) (set : Setting P) where
  -- the code as the simulated run has it
  abbrev pub host : Host
  host = linked_host P.code P.size (floor P) P.heap P.level

  -- so each function of the runtime serves wherever something holds
  pub served : (p : Part) (h : Holdings) (types : List Ty) (s : SourceWorld) (w : World) (t : Temps) → Holds P p h types s w t →
      ServesWell host w
  served p h types s w t x =
      linked_are_served P.code P.size (floor P) P.heap P.level w
      (record { has = set.runtime; memory = x.invariant.memory; input = x.invariant.input_bytes })

  -- the end of the caller's frame, where the next one begins
  abbrev pub top_of : Part → ℕ
  top_of p = p.around.activation.base - p.around.activation.size

  -- while it is open a call of the runtime weighs
  abbrev pub weighed : Rest → Rest
  weighed m w i = passes_limit (nat_lt P.stack (w.weight + runtime_weight)) (m (add_weight runtime_weight w) i)

  abbrev runner : Runner Ts
  runner = run_linked_body Trees P.code P.size (floor P) P.heap P.level (going P) []

  as_passes : (b : Bool) (o : Outcome Ending) → as_source (passes_limit b o) ≡ passes_limit b (as_source o)
  as_passes true o = refl
  as_passes false o = refl

  pub weighed_is : (m : Rest) (s : SourceWorld) (i : ℕ) →
      rest_run (weighed m) s i ≡
      passes_limit (nat_lt P.stack (s.weight + runtime_weight)) (rest_run m (add_weight runtime_weight s) i)
  weighed_is m s i =
      as_passes (nat_lt P.stack (s.weight + runtime_weight)) (m (add_weight runtime_weight s) i)

  -- in the simulated run a function of the runtime is called as in its host
  in_runtime : (p : Part) (one : Routine) (vs : List ℕ) (back : Back) (w : World) (i : ℕ) →
      calling P (frames_at P p) (label_of one) vs (top_of p) back w i ≡ calls host one vs (top_of p) back w i
  in_runtime p one vs back w i =
      let within : List ℕ → Run Ran = λ frames.
      call_within Trees P.code P.size (floor P) P.heap P.level (going P) frames (label_of one) vs (top_of p) back w in
      let around = frames_around Trees P.code P.size (floor P) P.heap P.level (label_of one) (frames_at P p) in
      ap (λ b. (if b then within [] else if first_is vs around then within around else wrong w) i) (is_low one)

  module _ (p : Part) (h : Holdings) (types : List Ty) (s : SourceWorld) (w : World) (t : Temps)
      (scene : IsScene (floor P) P.stack p.places p.scene) (same : p.around.activation ≡ p.scene.activation)
      (x : Holds P p h types s w t) (one : Routine) (vs : List ℕ) (q n : ℕ) (back : Back) (m : Rest)
      (units : marked_entry_units (length vs) ≤ q) where
    abbrev top : ℕ
    top = top_of p

    abbrev above : Bool
    above = nat_lt P.stack (s.weight + runtime_weight)

    -- where its frame isn't within the stack, the weight is above the limit
    full_follows : top < floor P + P.size (label_of one) →
        FollowsHere P q n (rest_run (weighed m) s) (calls host one vs top back w)
    full_follows lt =
        let found = found_of one in
        let f = found.f in
        let light = set.light_runtime one in
        let weighs = scene.weighs in
        let limit = scene.top in
        let weight = x.weight in
        let top_is : top ≡ p.scene.activation.base - p.scene.activation.size = ap (λ a. a.base - a.size) same in
        let over_limit : above ≡ true =
        lt-ltb P.stack (s.weight + runtime_weight) (omega (arith, lt, light, weighs, limit, weight, top_is)) in
        let there : function_of (label_of one) P.code.functions ≡ Some f =
        subst (λ l. function_of l P.code.functions ≡ Some f) found.label
        (set.runtime f (subst (λ l. function_of l runtime.functions ≡ Some f) (sym found.label) found.is)) in
        let no_room : nat_lt top (floor P + P.size f.label) ≡ true =
        ap (λ l. nat_lt top (floor P + P.size l)) found.label ∙ lt-ltb top (floor P + P.size (label_of one)) lt in
        let laid : Run Ran =
        placed top f.params vs (with_slots f top w) no_temps (fuelled runner f.body (around_body P.size f top back)) in
        let k : ℕ = marked_entry_units (length vs) in
        let c : Run Source = λ i. passes_limit true (rest_run m (add_weight runtime_weight s) i) in
        let d : Run Ran = charged k (over (Ended StackFull) w) in
        follows_along P.stack tree_work q n c (rest_run (weighed m) s) d (calls host one vs top back w)
        (λ i. weighed_is m s i ∙ ap (λ b. passes_limit b (rest_run m (add_weight runtime_weight s) i)) over_limit)
        (λ i. ap (λ o. works k (entered P.size (floor P) (fuelled runner) o vs top back w i)) there ∙
        ap (λ b. works k ((if b then over (Ended StackFull) w else laid) i)) no_room)
        (more P (0 + k) q n c d (omega (arith, units))
        (follows_working P.stack tree_work 0 n k c (over (Ended StackFull) w)
        (follows_full P.stack tree_work 0 n w.input (rest_run m (add_weight runtime_weight s)))))

    -- A call of the runtime is followed by whatever follows what the function comes to.
    pub routine_follows : (turns : ℕ) (what : Back → Run Ran) → Serves host turns one vs w what →
        ((d : Run Ran) → Comes (call_units + turn_units * turns) d (what back) →
        FollowsHere P q n (rest_run m (add_weight runtime_weight s)) d) →
        FollowsHere P q n (rest_run (weighed m) s) (calling P (frames_at P p) (label_of one) vs top back w)
    routine_follows turns what serves goes =
        follows_along P.stack tree_work q n (rest_run (weighed m) s) (rest_run (weighed m) s) (calls host one vs top back w)
        (calling P (frames_at P p) (label_of one) vs top back w) (λ i. refl) (λ i. in_runtime p one vs back w i)
        (elim (cases_lt top (floor P + P.size (label_of one))) [
          | inl lt ↦ full_follows lt
          | inr le ↦
              follows_along P.stack tree_work q n (λ i. passes_limit above (rest_run m (add_weight runtime_weight s) i))
              (rest_run (weighed m) s) (calls host one vs top back w) (calls host one vs top back w)
              (λ i. weighed_is m s i) (λ i. refl)
              (follows_passing P.stack tree_work q n above (rest_run m (add_weight runtime_weight s)) (calls host one vs top back w)
              (goes (calls host one vs top back w) (serves top back le)))
        ])
