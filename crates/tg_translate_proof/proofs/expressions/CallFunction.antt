-- A call of a declared function after its arguments: its link is right, its frame is within the stack or its weight above the limit,
-- and its body is followed after a unit of fuel.
use Rattle.std.proofs.Common.{[], ◌≡◌, ℕ, suc, ◌+◌, ◌<◌, ◌≤◌, List, ◌∷◌, Some, Bool, true, false}
use Rattle.std.proofs.Common.{refl, sym, ap, ◌∙◌, arith, subst}
use Rattle.std.proofs.Common.{inl, inr, ltb-true, lt-ltb}
use Rattle.std.specs.Prelude.{if◌then◌else◌, ◌-◌, ◌⊎◌, length, nat_lt, drop}
use Rattle.std.proofs.lemmas.Bool.{cases_lt}
use Rattle.tg_machine_state.specs.declared.ends.RunEnd.TheVariants.{StackFull}
use Rattle.tg_frame.specs.declared.accesses.Access.{Access}
use Rattle.tg_frame.specs.Homes.{homes_of, homes_from}
use Rattle.tg_simulation.specs.Runs.{Run, turn}
use Rattle.tg_simulation.specs.Ran.{Ran, Ended}
use Rattle.tg_simulation.specs.Outcomes.{out_of_fuel}
use Rattle.tg_simulation.specs.Changes.{passes_limit, reaches}
use Rattle.tg_simulation.specs.Agreement.{Source}
use Rattle.tg_simulation.proofs.Following.{follows_working, follows_passing, follows_reaching, follows_full, follows_turn, follows_less, follows_along}
use Rattle.tg_semantics.specs.Values.{Value, SourceWorld, add_weight, go_deeper}
use Rattle.tg_semantics.specs.Environments.{to_function, SourceFunction}
use Rattle.tg_semantics.specs.Evaluation as evaluation
use Rattle.tg_semantics.specs.Evaluation.{Job, run_function}
use Rattle.tg_semantics.specs.Passing.{Rest, Passing, passing, with_turn, over_in}
use Rattle.tg_semantics.specs.MachineRuns.{rest_run, as_source}
use Rattle.tg_semantics.specs.laws.Laws.{behind}
use Rattle.tg_semantics.proofs.AsSource.{turns_as_source}
use Rattle.tg_typecheck.specs.Types.{Ty}
use Rattle.tg_typecheck.specs.Scopes.{Signature, at_of}
use Rattle.tg_tree.specs.Tree.{Ts, Function}
use Rattle.tg_tree.specs.Units.{Trees, marked_entry_units}
use Rattle.tg_tree.specs.Actions.{World, Temps, Around, Back, Next, over, wrong, charged}
use Rattle.tg_tree.specs.Running.{with_fuel, entered, fuelled, outermost, with_slots}
use Rattle.tg_tree.specs.Running.{without_slots, no_temps, placed}
use Rattle.tg_tree.specs.Links.{LinkedPoint, first_is, frames_around, run_linked_body, call_within}
use Rattle.tg_runtime_proof.proofs.Calling.{placed_world, placed_temps, placed_is}
use Rattle.tg_translate.specs.mirror.Wants.{done}
use Rattle.tg_typecheck.specs.Has.{HaveValues}
use Rattle.tg_correctness.specs.laws.Laws.{tree_work}
use Rattle.tg_translate_proof.specs.glue.Worlds.{Holdings}
use Rattle.tg_translate_proof.specs.glue.Worlds.{Scene, IsScene}
use Rattle.tg_translate_proof.specs.glue.Situations.{Program, Setting, Part, floor, Holds}
use Rattle.tg_translate_proof.specs.glue.Situations.{frames_of, frames_at, calling, going}
use Rattle.tg_translate_proof.specs.glue.Shown.{FollowsHere, Shown}
use Rattle.tg_translate_proof.proofs.invariant.Parts.{StatesGrow, more}
use Rattle.tg_translate_proof.proofs.expressions.CallArguments.{StandAll}
use Rattle.tg_translate_proof.proofs.state.NamesInSight.{IsSeenFunction}
use Rattle.tg_translate_proof.proofs.program.FunctionEntry.{IsGiven, given}
use Rattle.tg_translate_proof.proofs.state.Frames.{around_is, first_frame, link_slots, link_temps}
use Rattle.tg_translate_proof.proofs.state.Frames.{homes_many, given_many, placed_input}
use Rattle.tg_translate_proof.proofs.program.FunctionBody.{Called}
use Rattle.tg_translate_proof.proofs.program.FunctionBody as bodies

not_below : (a b : ℕ) → b ≤ a → nat_lt a b ≡ false
not_below a b le = by (nat_lt a b) refl
  where
    by : (o : Bool) → nat_lt a b ≡ o → o ≡ false
    by false e = refl
    by true e = let lt = ltb-true a b e in absurd (omega (arith, le, lt))

module _ (P : Program) (set : Setting P) (grow : StatesGrow P) (x : Called P) where
  abbrev p : Part
  p = x.p

  abbrev sig : Signature
  sig = x.sig

  abbrev types : List Ty
  types = x.types

  abbrev h : Holdings
  h = x.h

  abbrev s : SourceWorld
  s = x.s

  abbrev w : World
  w = x.w

  abbrev t : Temps
  t = x.t

  abbrev scene : IsScene (floor P) P.stack x.p.places x.p.scene
  scene = x.scene

  abbrev holds : Holds P x.p x.h x.types x.s x.w x.t
  holds = x.holds

  abbrev K : IsSeenFunction P x.p.places x.types x.p.scene x.p.scene.level x.p.env.entries x.name x.at x.sig
  K = x.function

  abbrev c : Scene
  c = bodies.c P set grow x

  abbrev label : ℕ
  label = bodies.label P set grow x

  abbrev f : Function Ts
  f = bodies.f P set grow x

  abbrev top : ℕ
  top = bodies.top P set grow x

  abbrev size : ℕ
  size = bodies.size P set grow x

  abbrev kept_link : Bool
  kept_link = bodies.kept_link P set grow x

  abbrev bools : List Bool
  bools = bodies.bools P set grow x

  abbrev source_function : SourceFunction
  source_function = bodies.source_function P set grow x

  abbrev weight : ℕ
  weight = bodies.weight P set grow x

  module _ (us : List ℕ) (vs : List Value) (back : Back) where
    abbrev words : List ℕ
    words = c.chain K.l ∷ us

    -- what a call comes to, where its link is right and its function found
    call_is : calling P (frames_at P p) label words top back w ≡
        charged (marked_entry_units (length words))
        (entered P.size (floor P) (fuelled (run_linked_body Trees P.code P.size (floor P) P.heap P.level (going P) (frames_of c.chain K.l)))
        (Some f) words top back w)
    call_is =
        let frames : List ℕ = frames_at P p in
        let inner : List ℕ = frames_around Trees P.code P.size (floor P) P.heap P.level label frames in
        let level : P.level label ≡ suc K.l = set.levels (at_of K.f) K.done.callee K.done.tabled ∙ ap suc K.done.level_is in
        let around : inner ≡ frames_of c.chain K.l =
        ap (λ o. drop (length frames - o) frames) level ∙ around_is c.chain c.level K.l (length frames - suc K.l) K.within refl in
        let high : nat_lt label 32 ≡ false = not_below label 32 (set.labels (at_of K.f) K.done.callee K.done.tabled) in
        ap (λ b. if b then call_within Trees P.code P.size (floor P) P.heap P.level (going P) [] label words top back w else
        if first_is words inner then call_within Trees P.code P.size (floor P) P.heap P.level (going P) inner label words top back w else wrong w)
        high ∙
        (ap (λ o. if first_is words o then call_within Trees P.code P.size (floor P) P.heap P.level (going P) o label words top back w else wrong w)
        around ∙
        (ap (λ b. if b then call_within Trees P.code P.size (floor P) P.heap P.level (going P) (frames_of c.chain K.l) label words top back w else
        wrong w)
        (first_frame c.chain K.l us) ∙
        ap (λ o. charged (marked_entry_units (length words))
        (entered P.size (floor P) (fuelled (run_linked_body Trees P.code P.size (floor P) P.heap P.level (going P) (frames_of c.chain K.l))) o words
        top back w)) K.done.there))

    abbrev entered_run : Run Ran
    entered_run = entered P.size (floor P) (fuelled
        (run_linked_body Trees P.code P.size (floor P) P.heap P.level (going P) (frames_of c.chain K.l))) (Some f) words top back w

    -- what the source does after the weight and the depth
    abbrev turn_run : (Value → Rest) → Rest → Run Source
    turn_run go out = rest_run (with_turn (behind P.heap P.stack (run_function K.l source_function K.seen vs) go out))
        (go_deeper (add_weight weight s))

    enters : (fits : floor P + size ≤ top) (n r : ℕ) (go : Value → Rest) (out : Rest) → ((m : ℕ) → m < n → Shown P m K.e) →
        IsGiven h K.ps bools sig.params vs us → bodies.CallerOnward P set grow x n r go back → FollowsHere P (r + 20) n (turn_run go out) entered_run
    enters fits n r go out shown args onward =
        let own_frames : List ℕ = frames_of c.chain K.l in
        let runner = run_linked_body Trees P.code P.size (floor P) P.heap P.level (going P) own_frames in
        let around_ : Around = outermost (record { base = top; size = size }) (λ v w2. back v (without_slots f top w2)) in
        let in_it : Next = fuelled runner f.body around_ in
        let w2 : World = bodies.world_in P set grow x fits us in
        let t2 : Temps = bodies.temps_in P set grow x fits us in
        let point : LinkedPoint = bodies.point_in P set grow x fits us back in
        let params_are : f.params ≡ homes_of (kept_link ∷ bools) = bodies.params_are P set grow x in
        let in_link = bodies.link_world P set grow x fits kept_link in
        let many : length f.params ≡ length words =
        ap (λ l. length l) params_are ∙ (homes_length kept_link bools ∙ ap suc (given_many h K.ps bools sig.params vs us args)) in
        let s2 : SourceWorld = go_deeper (add_weight weight s) in
        let job : Job = run_function K.l source_function K.seen vs in
        let not_full : nat_lt top (floor P + size) ≡ false = not_below top (floor P + size) fits in
        let target_is : entered_run ≡ with_fuel w2 (going P point) =
        ap (λ b. if b then over (Ended StackFull) w else placed top f.params words (with_slots f top w) no_temps in_it) not_full ∙
        (placed_is top f.params words (with_slots f top w) no_temps in_it many ∙
        (ap (λ o. in_it (placed_world top o words (with_slots f top w)) (placed_temps o words no_temps)) params_are ∙
        (ap (λ o. in_it o (placed_temps (homes_of (kept_link ∷ bools)) words no_temps))
        (bodies.link_placed_world P set grow x fits kept_link bools us) ∙
        ap (λ o. in_it w2 o) (bodies.link_placed_temps P set grow x fits kept_link bools us)))) in
        let input : s2.input ≡ w2.input =
        sym (placed_input top (own_homes_are) us in_link ∙ bodies.link_input P set grow x fits kept_link ∙ holds.invariant.input) in
        subst (λ o. FollowsHere P (r + 20) n (turn_run go out) o) (sym target_is)
        (follows_along P.stack tree_work (r + 20) n (turn (as_source (over_in s2 out_of_fuel)) (rest_run (behind P.heap P.stack job go out) s2))
        (turn_run go out)
        (with_fuel w2 (going P point)) (with_fuel w2 (going P point)) (λ i. turns_as_source (behind P.heap P.stack job go out) s2 i) (λ i. refl)
        (follows_turn P.stack tree_work (r + 20) n (as_source (over_in s2 out_of_fuel)) w2.input (rest_run (behind P.heap P.stack job go out) s2)
        (going P point) refl refl input refl
        (λ m lt. bodies.function_follows P set grow x fits us back m r go out vs (shown m lt) args
        (λ g types1 v u s3 w3 gg ee hh st. follows_less P.stack tree_work (r + 38) m n (rest_run (go v) s3) (back u w3) (omega (arith, lt))
        (onward g types1 v u s3 w3 gg ee hh st)))))
      where
        own_homes_are : List Access
        own_homes_are = homes_from (link_slots kept_link) (link_temps kept_link) bools

        homes_length : (b : Bool) (bs : List Bool) → length (homes_of (b ∷ bs)) ≡ suc (length bs)
        homes_length true bs = ap suc (homes_many 1 0 bs)
        homes_length false bs = ap suc (homes_many 0 1 bs)

    -- The stack is full, or the function is followed: the call of a declared function, after its arguments.
    pub call_follows : (n r q : ℕ) (go : Value → Rest) (out : Rest) → ((m : ℕ) → m < n → Shown P m K.e) → HaveValues sig.params →
        StandAll h vs sig.params us →
        r + 20 + marked_entry_units (length words) ≤ q → bodies.CallerOnward P set grow x n r go back →
        FollowsHere P q n (rest_run (evaluation.call Passing (passing P.heap P.stack) (behind P.heap P.stack)
        (to_function K.l source_function K.seen) vs go out) s)
        (calling P (frames_at P p) label words top back w)
    call_follows n r q go out shown values_ stand enough onward =
        let units : ℕ = marked_entry_units (length words) in
        let args : IsGiven h K.ps bools sig.params vs us =
        given h (λ o. P.findings.escapes (at_of o.name)) K.ps sig.params vs us K.done.many values_ stand in
        let source : Run Source = rest_run (evaluation.call Passing (passing P.heap P.stack) (behind P.heap P.stack)
        (to_function K.l source_function K.seen) vs go out) s in
        subst (λ o. FollowsHere P q n source o) (sym call_is)
        (more P (r + 20 + units) q n source (charged units entered_run) enough
        (follows_working P.stack tree_work (r + 20) n units source entered_run (by_stack (cases_lt top (floor P + size)) args)))
      where
        by_stack : (top < floor P + size) ⊎ (floor P + size ≤ top) → IsGiven h K.ps bools sig.params vs us →
            FollowsHere P (r + 20) n (rest_run (evaluation.call Passing (passing P.heap P.stack) (behind P.heap P.stack)
            (to_function K.l source_function K.seen) vs go out) s) entered_run
        by_stack (inl lt) args =
            let weighs = scene.weighs in
            let here = scene.top in
            let l = (bodies.light P set grow x) in
            let e = holds.weight in
            let past : nat_lt P.stack (s.weight + weight) ≡ true = lt-ltb P.stack (s.weight + weight) (omega (arith, lt, weighs, here, l, e)) in
            let full : nat_lt top (floor P + size) ≡ true = lt-ltb top (floor P + size) lt in
            let target : entered_run ≡ over (Ended StackFull) w =
            ap (λ b. if b then over (Ended StackFull) w else
            placed top f.params words (with_slots f top w) no_temps
            (fuelled (run_linked_body Trees P.code P.size (floor P) P.heap P.level (going P) (frames_of c.chain K.l)) f.body
            (outermost (record { base = top; size = size }) (λ v w2. back v (without_slots f top w2))))) full in
            let rest : Run Source = λ i. reaches (s.depth + 1) (turn_run go out i) in
            subst (λ o. FollowsHere P (r + 20) n (λ i. passes_limit (nat_lt P.stack (s.weight + weight)) (rest i)) o) (sym target)
            (subst (λ b. FollowsHere P (r + 20) n (λ i. passes_limit b (rest i)) (over (Ended StackFull) w)) (sym past)
            (follows_full P.stack tree_work (r + 20) n w.input rest))
        by_stack (inr fits) args =
            let deep = scene.deep in
            let least = (bodies.sized P set grow x).least in
            let here = scene.top in
            let inner = scene.within in
            let depth = holds.depth in
            let rest : Run Source = λ i. reaches (s.depth + 1) (turn_run go out i) in
            follows_passing P.stack tree_work (r + 20) n (nat_lt P.stack (s.weight + weight)) rest entered_run
            (follows_reaching P.stack tree_work (r + 20) n (s.depth + 1) (turn_run go out) entered_run
            (omega (arith, deep, least, here, inner, depth, fits))
            (enters fits n r go out shown args onward))
