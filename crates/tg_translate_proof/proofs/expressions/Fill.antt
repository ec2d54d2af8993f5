-- The creation of arrays: the runtime makes the array on both sides, or refuses its size, or there is no room.
use Rattle.std.proofs.Common.{◌≡◌, ℕ, suc, ◌+◌, ◌-◌, ◌*◌, ◌^◌, ◌<◌, ◌≤◌, List, [], ◌∷◌, length, Some, Bool, true, false, refl, sym, ap, ◌∙◌, arith, subst, inl, inr}
use Rattle.std.specs.Prelude.{if◌then◌else◌, nat_lt, replicate}
use Rattle.std.proofs.lemmas.Bool.{cases_lt, lt-ltb, le-ltb}
use Rattle.tg_base.specs.declared.ids.Span.{Span}
use Rattle.tg_machine_state.specs.declared.ends.RunEnd.TheVariants.{HeapFull, Break}
use Rattle.tg_machine_state.specs.State.{heap_base}
use Rattle.tg_base.specs.Words.{is_negative}
use Rattle.tg_syntax.specs.declared.tokens.Ident.{Ident}
use Rattle.tg_syntax.specs.Tree.{Exp, Exps, no_exps, exp, Fill}
use Rattle.tg_symbols.specs.Tables.{looked_up}
use Rattle.tg_simulation.specs.Runs.{Run}
use Rattle.tg_simulation.specs.Ran.{Ran, Ended}
use Rattle.tg_simulation.specs.Outcomes.{ended}
use Rattle.tg_simulation.specs.Changes.{costs}
use Rattle.tg_simulation.specs.Agreement.{Source}
use Rattle.tg_simulation.proofs.Following.{follows_working, follows_paying, follows_along}
use Rattle.tg_semantics.specs.Values.{Value, int, reference, SourceWorld, elements, add_weight, drop_weight, add_heap, add_object}
use Rattle.tg_semantics.specs.Values.{by_heap, by_size}
use Rattle.tg_semantics.specs.Evaluation as E
use Rattle.tg_semantics.specs.laws.Laws.{behind}
use Rattle.tg_semantics.specs.Levels.{runtime_weight}
use Rattle.tg_semantics.specs.Operators.{array_bytes}
use Rattle.tg_semantics.specs.MachineRuns.{rest_run}
use Rattle.tg_semantics.specs.Passing.{Rest, Passing, passing, ends}
use Rattle.tg_typecheck.specs.Types.{Ty, int_type, array_type, array_shape}
use Rattle.tg_typecheck.specs.Has.{Fits, HasValues, the_same}
use Rattle.tg_tree.specs.Tree.{Tx, Txs, tx, no_txs}
use Rattle.tg_tree.specs.Units.{Trees, marked_entry_units}
use Rattle.tg_tree.specs.Actions.{World, Temps, Go, Back, over}
use Rattle.tg_runtime.specs.declared.routines.Routine.TheVariants as routine
use Rattle.tg_runtime.specs.mirror.Labels.{label_of}
use Rattle.tg_runtime_proof.specs.Memories.{array_block}
use Rattle.tg_runtime_proof.specs.laws.Serving.{Makes, with_block, call_units, turn_units}
use Rattle.tg_runtime_proof.proofs.Arrays.{array_length}
use Rattle.tg_translate.specs.declared.wants.Want.TheVariants as want
use Rattle.tg_translate.specs.mirror.Constructs.{make_array, two_txs}
use Rattle.tg_translate.specs.mirror.States.{TranslationState, drawn, after, give}
use Rattle.tg_translate.specs.mirror.Translate.{expression}
use Rattle.tg_translate.specs.mirror.Wants.{value, value_from}
use Rattle.tg_correctness.specs.laws.Laws.{tree_work}
use Rattle.tg_translate_proof.specs.glue.Tables.{Later}
use Rattle.tg_translate_proof.specs.glue.Worlds.{Holdings, Stands, an_array, array_of, IsScene}
use Rattle.tg_translate_proof.specs.glue.Situations.{Program, Part, Setting, Holds, floor, value_runs, values_run, calling, frames_at}
use Rattle.tg_translate_proof.specs.glue.Shown.{Situation, IsShown, FollowsHere, evaluates}
use Rattle.tg_translate_proof.proofs.state.TranslationStates.{after_inv, state_in, later_none}
use Rattle.tg_translate_proof.proofs.invariant.Cases.{by_made, wanted_of, grows_on}
use Rattle.tg_translate_proof.proofs.invariant.Parts.{StatesGrow, Piece, Moment, Behind, at_begin, more, paid, stop_follows}
use Rattle.tg_translate_proof.proofs.state.ValueWords.{stands_int, int_has_values}
use Rattle.tg_translate_proof.proofs.expressions.CallArguments as arguments
use Rattle.tg_translate_proof.proofs.expressions.CallArguments.{AreMade, made_none, made_more, arguments_follow, StandAll, evaluates_all}
use Rattle.tg_translate_proof.proofs.state.HeapBlocks.{AreOwned}
use Rattle.tg_translate_proof.proofs.state.NewArrays.{array_added, stands_small}
use Rattle.tg_translate_proof.proofs.expressions.RuntimeCalls.{host, top_of, routine_follows, follows_coming}
use Rattle.tg_translate_proof.proofs.expressions.CallStandard.{first_of, none_of, by_test}
use Rattle.tg_translate_proof.proofs.expressions.StandardFunctions as standards
use Rattle.tg_translate_proof.proofs.expressions.StandardFunctions.{Owns, Onwards, CallFollows, go_on, holds_weight}

module _ (P : Program) (set : Setting P) (p : Part) (scene : IsScene (floor P) P.stack p.places p.scene)
    (same : p.around.activation ≡ p.scene.activation) (r n : ℕ) (go : Value → Rest) (out : Rest) (go' : Go ℕ)
    (h : Holdings) (types : List Ty) (s : SourceWorld) (w : World) (t : Temps) (x : Holds P p h types s w t)
    (own : AreOwned h (length w.memory.heap)) where
  abbrev next_on : Value → Rest
  next_on = go_on P set p scene same r n go out go' h types s w t x own

  abbrev Goes : Ty → Type 0
  Goes result = Onwards P set p scene same r n go out go' h types s w t x own result

  abbrev Calls : List ℕ → Rest → Type 0
  Calls us m = CallFollows P set p scene same r n go out go' h types s w t x own routine.MakeArray us m

  abbrev s1 : SourceWorld
  s1 = add_weight runtime_weight s

  -- what is made of the test of the room, and of the size's sign
  abbrev room_tested : (k : ℕ) → Value → (Value → Rest) → Bool → Rest
  room_tested k v go1 b s2 =
      if b then ends (ended by_heap) s2 else
      (λ i. costs k (go1 (reference (length s2.objects)) (add_object (elements (replicate k v)) (add_heap (array_bytes k) s2)) i))

  abbrev taking : (k : ℕ) → Value → Passing Value
  taking k v go1 out1 s2 = room_tested k v go1 (nat_lt P.heap (s2.heap + array_bytes k)) s2

  abbrev making : (k : ℕ) → Value → Bool → Rest
  making k v b = (if b then E.end_program Passing (passing P.heap P.stack) by_size else taking k v) next_on out

  array_refused : (k u : ℕ) (v : Value) → k < 2 ^ 32 → is_negative k ≡ true →
      Calls (k ∷ u ∷ []) (making k v (is_negative k))
  array_refused k u v small sign =
      standards.acts P set p scene same r n go out go' h types s w t x own routine.MakeArray (k ∷ u ∷ []) 0 0
      (λ b. over (Ended (Break 6)) w) (making k v (is_negative k)) (rest_run (ends (ended by_size)) s1) (omega arith) (omega arith)
      ((standards.well P set p scene same r n go out go' h types s w t x own).refuses_size k u sign small)
      (λ d f. subst (λ b. FollowsHere P (r + 252) n (rest_run (making k v b) s1) d) (sym sign)
      (more P (r + 252 + 0) (r + 252) n (rest_run (ends (ended by_size)) s1) d (omega arith) f))
      (stop_follows P (r + 64) n by_size s1 w x.invariant.input)

  module _ (at : ℕ) (ty : Ty) (shape : looked_up at P.shapes ≡ Some (array_shape ty)) (k u : ℕ) (v : Value) (st : Stands h v ty u)
      (u_small : u < 2 ^ 32) (k_small : k < 2 ^ 32) (sign : is_negative k ≡ false) where
    abbrev block : List ℕ
    block = array_block k u

    abbrev makes : Makes (host P set) k routine.MakeArray (k ∷ u ∷ []) w w block
    makes = (standards.well P set p scene same r n go out go' h types s w t x own).makes_array k u sign k_small u_small

    abbrev back_ : Back
    back_ = standards.back P set p scene same r n go out go' h types s w t x own

    array_full : P.heap < length w.memory.heap + length block → Calls (k ∷ u ∷ []) (making k v (is_negative k))
    array_full much =
        let heap = x.invariant.heap in
        let long = array_length k u in
        let over_room : nat_lt P.heap (s1.heap + array_bytes k) ≡ true =
        lt-ltb P.heap (s1.heap + array_bytes k) (omega (arith, much, heap, long)) in
        routine_follows P set p h types s w t scene same x routine.MakeArray (k ∷ u ∷ []) (r + 252) n back_
        (making k v (is_negative k)) (omega arith) 0 (λ b. over (Ended HeapFull) w) (makes.full much)
        (λ d comes.
        subst (λ b. FollowsHere P (r + 252) n (rest_run (making k v b) s1) d) (sym sign)
        (subst (λ b. FollowsHere P (r + 252) n (rest_run (room_tested k v next_on b) s1) d) (sym over_room)
        (follows_coming P 0 (r + 252) (call_units + turn_units * 0) n (rest_run (ends (ended by_heap)) s1) d (over (Ended HeapFull) w)
        (omega arith) comes (stop_follows P 0 n by_heap s1 w x.invariant.input))))

    array_made : length w.memory.heap + length block ≤ P.heap → Goes (array_type at) → Calls (k ∷ u ∷ []) (making k v (is_negative k))
    array_made fits onward =
        let heap = x.invariant.heap in
        let is = x.weight in
        let long = array_length k u in
        let a = heap_base + length w.memory.heap in
        let added = array_added P set p h types s w t x own at ty shape k v u st u_small k_small fits in
        let enough : nat_lt P.heap (s1.heap + array_bytes k) ≡ false =
        le-ltb P.heap (s1.heap + array_bytes k) (omega (arith, fits, heap, long)) in
        let weight : ℕ = s.weight + runtime_weight - runtime_weight in
        let w3 : World = with_block block w in
        let object = elements (replicate k v) in
        let s3 : SourceWorld = drop_weight runtime_weight (add_object object (add_heap (array_bytes k) s1)) in
        let holds3 : Holds P p added.g types s3 w3 t =
        subst (λ j. Holds P p added.g types (record (add_object object s) { heap = s.heap + j; weight = weight }) w3 t) long
        (holds_weight P p added.g types (add_object object (add_heap (length block) s)) w3 t weight (omega (arith, is)) added.holds) in
        let value_is : Value = reference (length s.objects) in
        let c : Run Source = rest_run (go value_is) s3 in
        routine_follows P set p h types s w t scene same x routine.MakeArray (k ∷ u ∷ []) (r + 252) n back_
        (making k v (is_negative k)) (omega arith) k (λ b. b a w3) (makes.made fits)
        (λ d comes.
        subst (λ b. FollowsHere P (r + 252) n (rest_run (making k v b) s1) d) (sym sign)
        (subst (λ b. FollowsHere P (r + 252) n (rest_run (room_tested k v next_on b) s1) d) (sym enough)
        (follows_paying P.stack tree_work (r + 252) n k c d
        (follows_coming P (r + 64) (r + 252 + 256 * k) (call_units + turn_units * k) n c d (go' a w3 t) (omega arith) comes
        (onward added.g s3 w3 added.grown holds3 value_is a (an_array (length s.objects) at k a added.there))))))

  pub array_acts : (at : ℕ) (ty : Ty) → looked_up at P.shapes ≡ Some (array_shape ty) → (k u : ℕ) (v : Value) → Stands h v ty u →
      HasValues ty → k < 2 ^ 32 → Goes (array_type at) →
      CallFollows P set p scene same r n go out go' h types s w t x own routine.MakeArray (k ∷ u ∷ [])
      (making k v (is_negative k))
  array_acts at ty shape k u v st ne k_small onward =
      let u_small = stands_small P set p h types s w t x own v ty u ne st in
      by_test (Calls (k ∷ u ∷ []) (making k v (is_negative k))) (is_negative k)
      (λ sign. array_refused k u v k_small sign)
      (λ sign. elim (cases_lt P.heap (length w.memory.heap + length (array_block k u))) [
        | inl much ↦ array_full at ty shape k u v st u_small k_small sign much
        | inr fits ↦ array_made at ty shape k u v st u_small k_small sign fits onward
      ])

-- The creation of an array where it stands.
module _ (P : Program) (set : Setting P) (grow : StatesGrow P) (owns : Owns P) (n : ℕ) (sp : Span) (name : Ident) (size item : Exp)
    (x : Situation P n (Fill sp name size item)) (at : ℕ) (t u : Ty) (shape : looked_up at P.shapes ≡ Some (array_shape t))
    (result : x.ty ≡ array_type at) (fits : Fits u t) (has_values : HasValues t)
    (piece_size : Piece P set grow n (Fill sp name size item) x size int_type)
    (piece_item : Piece P set grow n (Fill sp name size item) x item u) where
  abbrev E_ : Exp
  E_ = Fill sp name size item

  abbrev both : Exps
  both = exp size (exp item no_exps)

  abbrev types_ : List Ty
  types_ = int_type ∷ t ∷ []

  -- what it is made
  record FillMade : Type 0 where
    pub left : Tx
    pub right : Tx
    pub s : TranslationState
    pub made : AreMade P.findings x.p.within both x.σ (two_txs left right) s
    pub whole : drawn (value (make_array left right)) s ≡ drawn x.m x.τ

  fill_made : FillMade
  fill_made =
      let i = after_inv (value_from (λ σ. expression P.findings size want.Value x.p.within σ) x.σ)
      (λ l s. after (value_from (λ σ. expression P.findings item want.Value x.p.within σ) s) (λ y. give (value (make_array l y)))) x.m x.τ x.is_made in
      let j = after_inv (value_from (λ σ. expression P.findings item want.Value x.p.within σ) i.1)
      (λ y. give (value (make_array i.0 y))) x.m x.τ i.3 in
      record {
        left = i.0;
        right = j.0;
        s = j.1;
        made =
            made_more size (exp item no_exps) x.σ i.1 j.1 i.0 (tx j.0 no_txs) i.2
            (made_more item no_exps i.1 j.1 j.1 j.0 no_txs j.2 (made_none j.1));
        whole = j.3;
      }

  -- what the source does after both
  abbrev made_of : List Value → Rest
  made_of (v ∷ y ∷ []) = E.int_of Passing (passing P.heap P.stack) v (λ k. E.make_array Passing (passing P.heap P.stack) k y x.go x.out) x.out
  made_of _ = x.out

  abbrev start : Moment P set grow n E_ x
  start = at_begin P set grow n E_ x (x.r + 242) (omega arith)

  abbrev enters : Go ℕ → Go (List ℕ)
  enters go' us w1 t1 =
      calling P (frames_at P x.p) (label_of routine.MakeArray) us (top_of P set x.p) (λ v w2. go' v w2 t1) w1

  array_so : (go' : Go ℕ) (e : Behind P set grow n E_ x start) (vs : List Value) (us : List ℕ) → StandAll e.h vs types_ us →
      ((k : ℕ) (y : Value) (z : ℕ) →
      Onwards P set x.p x.ready.scene x.ready.activation x.r n x.go x.out go' e.h e.types e.s e.w e.t e.holds
      (owns x.p e.h e.types e.s e.w e.t e.holds) (array_type at)) →
      FollowsHere P (x.r + 252) n (rest_run (made_of vs) e.s) (enters go' us e.w e.t)
  array_so go' e vs us all onward =
      let f = first_of e.h vs int_type (t ∷ []) us all in
      let g = first_of e.h f.later_values t [] f.later_words f.rest in
      let none = none_of e.h g.later_values g.later_words g.rest in
      let st = stands_int e.h f.v f.u f.stands in
      let own = owns x.p e.h e.types e.s e.w e.t e.holds in
      subst (λ l. FollowsHere P (x.r + 252) n (rest_run (made_of l) e.s) (enters go' us e.w e.t))
      (sym (f.values_are ∙ ap (λ l. f.v ∷ l) (g.values_are ∙ ap (λ l. g.v ∷ l) none.0) ∙ ap (λ v. v ∷ g.v ∷ []) st.0))
      (subst (λ l. FollowsHere P (x.r + 252) n (rest_run (made_of (int f.u ∷ g.v ∷ [])) e.s) (enters go' l e.w e.t))
      (sym (f.words_are ∙ ap (λ l. f.u ∷ l) (g.words_are ∙ ap (λ l. g.u ∷ l) none.1)))
      (array_acts P set x.p x.ready.scene x.ready.activation x.r n x.go x.out go' e.h e.types e.s e.w e.t e.holds own
      at t shape f.u g.u g.v g.stands has_values st.1 (onward f.u g.v g.u)))

  pub fill_shown : IsShown P n E_ x
  fill_shown =
      let q = fill_made in
      let last : Later q.s x.τ = subst (λ o. Later q.s o) (ap state_in q.whole) (later_none q.s) in
      let known : arguments.Arguments P set grow n E_ x both types_ = (
        record { ty = int_type; piece = piece_size; fits = the_same; value = int_has_values },
        (record { ty = u; piece = piece_item; fits = fits; value = has_values }, tt),
      ) in
      by_made P n E_ x (value (make_array q.left q.right)) q.s q.whole tt
      (λ go' onward.
      let c : Run Source = rest_run (evaluates_all P set grow n E_ x both made_of) x.s in
      let xs : Txs = two_txs q.left q.right in
      let d : Run Ran = values_run P x.p xs x.p.around (enters go') x.w x.t in
      let whole : Run Ran = value_runs P x.p (make_array q.left q.right) x.p.around go' x.w x.t in
      follows_along P.stack tree_work x.r n (λ i. costs 1 (c i)) (rest_run (evaluates P E_ x.p.env x.go x.out) x.s) whole whole
      (λ i. refl) (λ i. refl)
      (paid P x.r n c whole
      (more P (x.r + 252 + 4) (x.r + 256) n c whole (omega arith)
      (follows_working P.stack tree_work (x.r + 252) n 4 c d
      (more P (x.r + 242 + 10) (x.r + 252) n c d (omega arith)
      (arguments_follow P set grow n E_ x start both types_ known xs q.s q.made last made_of (enters go')
      (λ b vs us later all.
      more P (x.r + 252) (x.r + 242 + 10 + 46 * 2) n (rest_run (made_of vs) b.s) (enters go' us b.w b.t) (omega arith)
      (array_so go' b vs us all
      (λ k y z g s1 w1 grown holds v o st.
      onward g b.types v o s1 w1 b.t (grows_on x.h b.h g b.grows grown) b.extends holds
      (wanted_of g x.wanted v x.ty o (subst (λ e. Stands g v e o) (sym result) st)))))))))))
