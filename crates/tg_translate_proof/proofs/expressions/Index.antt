-- Elements of arrays as l-values: the array is held over its index, which is checked.
use Rattle.std.proofs.Common.{◌≡◌, ◌≢◌, ℕ, zero, suc, ◌+◌, ◌*◌, ◌^◌, ◌<◌, ◌≤◌, ◌%◌, List, Option, Some, None, Bool, true, false, refl, sym, ap, ◌∙◌, arith, subst, inl, inr, ltb-true}
use Rattle.std.specs.Prelude.{slice_get, length, nat_lt, not, ◌&&◌, if◌then◌else◌, ◌⊎◌}
use Rattle.tg_machine_state.specs.State.{heap_base}
use Rattle.tg_base.specs.Words.{add, shift_left, is_negative}
use Rattle.tg_syntax.specs.Tree.{Exp, LValue, Index}
use Rattle.tg_symbols.specs.Tables.{looked_up}
use Rattle.tg_simulation.specs.Runs.{Run}
use Rattle.tg_simulation.specs.Ran.{Ran, works}
use Rattle.tg_simulation.specs.Agreement.{Source}
use Rattle.tg_simulation.proofs.Following.{follows_along}
use Rattle.tg_semantics.specs.Values.{Value, int, reference, SourceWorld, Object, elements, by_index}
use Rattle.tg_semantics.specs.Operators.{is_below}
use Rattle.tg_semantics.specs.Evaluation as evaluation
use Rattle.tg_semantics.specs.Evaluation.{Location, in_element}
use Rattle.tg_semantics.specs.Passing.{Rest, Passing, passing, with_found}
use Rattle.tg_semantics.specs.MachineRuns.{rest_run}
use Rattle.tg_typecheck.specs.Types.{Ty, int_type, array_type, array_shape}
use Rattle.tg_typecheck.specs.Has as has
use Rattle.tg_typecheck.specs.Has.{Has, HasPlace}
use Rattle.tg_tree.specs.Tree.{Tx, Temp, Const, Load, Binary, Ts, Fault, Stms, no_stms, stm}
use Rattle.tg_tree.specs.Forms.{nothing as nothing_done}
use Rattle.tg_tree.specs.glue.Lists.{join_stms}
use Rattle.tg_tree.proofs.ListLaws.{join_stms-none}
use Rattle.tg_tree.specs.Units.{Trees, hoisted_units}
use Rattle.tg_tree.specs.Shapes.{is_flat}
use Rattle.tg_tree.specs.Memory.{load}
use Rattle.tg_tree.specs.Actions.{World, Temps, Go, Next, charged, with_word}
use Rattle.tg_runtime_proof.proofs.Signs.{not_negative}
use Rattle.tg_translate.specs.declared.operands.Operand.{Operand}
use Rattle.tg_translate.specs.declared.wants.Want.TheVariants as want
use Rattle.tg_translate.specs.mirror.States.{TranslationState, Translates, drawn, after}
use Rattle.tg_translate.specs.mirror.Wants.{Made, value_of, value_from}
use Rattle.tg_translate.specs.mirror.Constructs.{Storage, in_temp, at_address, read, operand, index_check, element, element_place, element_of, hold, keep}
use Rattle.tg_translate.specs.mirror.Constructs.{after_all, Held}
use Rattle.tg_translate.specs.mirror.Purity.{assigns_nothing, place_assigns_nothing}
use Rattle.tg_translate.specs.mirror.Translate.{expression, locate}
use Rattle.tg_correctness.specs.laws.Laws.{tree_work}
use Rattle.tg_translate_proof.specs.glue.Tables.{Later}
use Rattle.tg_translate_proof.specs.glue.Worlds.{Holdings, unknown, part, GrowsTo, Stands, an_int, an_array, array_of, temporary, IsOf, kept}
use Rattle.tg_translate_proof.specs.glue.Situations.{Program, Part, Setting, Holds, MayAssign, Extends, value_runs, statement_runs, statements_run}
use Rattle.tg_translate_proof.specs.glue.Shown.{Shown, FollowsHere, left_over, evaluates}
use Rattle.tg_translate_proof.proofs.state.TranslationStates.{made_in, state_in, after_inv, later_none, later_on, later_value}
use Rattle.tg_translate_proof.proofs.invariant.Cases.{worked}
use Rattle.tg_translate_proof.proofs.invariant.Parts.{StatesGrow, more, paid, extends_none, ready_part, stop_follows}
use Rattle.tg_translate_proof.proofs.expressions.BinarySides.{hoisted_small, both_true}
use Rattle.tg_translate_proof.proofs.state.ValueWords.{int_has_values}
use Rattle.tg_translate_proof.proofs.expressions.LValueAddress.{IsAt, an_element, Premises, PlaceSituation, PlaceShown, PlaceMayAssign, PlaceOnward}
use Rattle.tg_translate_proof.proofs.expressions.LValueAddress.{StorageFollows, IsOwn, reads, locates, place_source, by_storage}
use Rattle.tg_translate_proof.proofs.expressions.LValueAccess.{element_at, heap_below}
use Rattle.tg_translate_proof.proofs.state.ObjectStores.{LaidArray, laid_as_array}
use Rattle.tg_translate_proof.proofs.expressions.Read.{read_follows}
use Rattle.tg_translate_proof.proofs.expressions.Field.{hold_loaded}
use Rattle.tg_translate_proof.proofs.invariant.Asked.{Standing}
use Rattle.tg_translate_proof.proofs.invariant.HeldOperands.{OperandIs, Holding, holding, holding_plain, always, IsAnother, a_number, a_temp, another, held_as, operand_follows, kept_later}
use Rattle.tg_translate_proof.proofs.invariant.HeldLeft.{LeftHeld, as_number, as_variable, as_kept, left_extra, left_operand, left_state, both_follow, right_extra, right_operand}
use Rattle.tg_translate_proof.proofs.expressions.Let.{joined_runs}

and_false : (b : Bool) → (b && false) ≡ false
and_false true = refl
and_false false = refl

-- an index is within an array, whose length is small, by its word
below_word : (z n : ℕ) → n < 2 ^ 26 → is_below z n ≡ nat_lt z n
below_word z n few = by (nat_lt z n) refl
  where
    by : (b : Bool) → nat_lt z n ≡ b → is_below z n ≡ nat_lt z n
    by true e = let lt = ltb-true z n e in ap (λ o. not o && nat_lt z n) (not_negative z (omega (arith, lt, few)))
    by false e = ap (λ o. not (is_negative z) && o) e ∙ (and_false (not (is_negative z)) ∙ sym e)

part_is_known : (r i : ℕ) → part r i ≢ unknown
part_is_known r i e = cc

-- how what is read of a storage is held
pub left_held : (direct : Bool) (storage : Storage) → LeftHeld direct (read storage)
left_held true (in_temp i) = as_variable i refl
left_held false (in_temp i) = as_kept (Temp i) (λ b s. refl)
left_held direct (at_address b a) = as_kept (after_all b (Load a)) (λ before s. hold_loaded direct before b a s)

-- what it makes of a held operand
pub left_is : (direct : Bool) (x : Tx) (s : TranslationState) (lh : LeftHeld direct x) →
    hold direct no_stms x s ≡ drawn (record { before = left_extra direct x s lh; operand = left_operand direct x s lh }) (left_state direct x s lh)
left_is direct _ s (as_number n) = refl
left_is direct _ s (as_variable i e) = ap (λ o. hold o no_stms (Temp i) s) e
left_is direct x s (as_kept _ e) = e no_stms s

pub left_later : (direct : Bool) (x : Tx) (s : TranslationState) (lh : LeftHeld direct x) → Later s (left_state direct x s lh)
left_later direct _ s (as_number n) = later_none s
left_later direct _ s (as_variable i e) = later_none s
left_later direct x s (as_kept _ e) = kept_later s

another_later : (y : Tx) (s : TranslationState) (hd : Holding y) → IsAnother y hd → s.frame.temps < (held_as y s hd).after.frame.temps
another_later _ s (a_number n) an = absurd an
another_later _ s (a_temp i) an = absurd an
another_later y s (always _) an = omega arith
another_later y s (another _ e) an = omega arith

read_temp_is : (storage : Storage) (i : ℕ) → read storage ≡ Temp i → storage ≡ in_temp i
read_temp_is (in_temp j) i e = let same : j ≡ i = cc in ap in_temp same
read_temp_is (at_address no_stms a) i e = cc
read_temp_is (at_address (stm y ys) a) i e = cc

module _ (P : Program) (set : Setting P) (premises : Premises P) (grow : StatesGrow P) where
  abbrev element_located : Value → Value → (Location → Rest) → (out : Rest) → Rest
  element_located v b go out = evaluation.locate_element Passing (passing P.heap P.stack) v b go out

  -- the check of an index
  checked : (p : Part) (l o : Operand) (u z len q n : ℕ) (c : Run Source) (next : Next) (w : World) (t : Temps) → OperandIs l u t → OperandIs o z t →
      load w.memory u ≡ Some len →
      FollowsHere P q n c ((if not (nat_lt z len) then statement_runs P p (Fault 3) else statement_runs P p nothing_done) p.around next w t) →
      FollowsHere P (q + 16) n c (statement_runs P p (index_check (operand l) (operand o)) p.around next w t)
  checked p l o u z len q n c next w t is_l is_o has f =
      let small = hoisted_small (is_flat (Load (operand l))) in
      worked P (q + 12) (q + 16) 4 n c _ (omega arith)
      (worked P (q + 5) (q + 12) (4 + hoisted_units Trees (is_flat (Load (operand l)))) n c _ (omega (arith, small))
      (more P (q + 3 + 2) (q + 5) n c _ (omega arith)
      (operand_follows P set grow p o z (q + 3) n c
      (λ z1 w1 t1. value_runs P p (Load (operand l)) p.around (λ v w2 t2. (if not (nat_lt z1 v) then statement_runs P p
      (Fault 3) else statement_runs P p nothing_done) p.around next w2 t2) w1 t1) w t is_o
      (worked P (q + 2) (q + 3) 1 n c _ (omega arith)
      (operand_follows P set grow p l u q n c (λ u1 w1 t1. with_word (load w1.memory u1) w1 (λ v. (if not (nat_lt z v) then statement_runs P p
      (Fault 3) else statement_runs P p nothing_done) p.around next w1 t1)) w t is_l
      (subst (λ e. FollowsHere P q n c (with_word e w (λ v. (if not (nat_lt z v) then statement_runs P p
      (Fault 3) else statement_runs P p nothing_done) p.around next w t))) (sym has) f))))))

  -- the address of an element
  addressed : (p : Part) (l o : Operand) (u z q n : ℕ) (c : Run Source) (go' : Go ℕ) (w : World) (t : Temps) → OperandIs l u t → OperandIs o z t →
      z < 2 ^ 26 → u + 4 + 4 * z < 2 ^ 32 →
      FollowsHere P q n c (go' (u + 4 + 4 * z) w t) → FollowsHere P (q + 14) n c (value_runs P p (element (operand l) (operand o)) p.around go' w t)
  addressed p l o u z q n c go' w t is_l is_o few fits f =
      let small = hoisted_small (is_flat (operand l)) in
      let sum : add (add (shift_left z (2 % 32)) u) 4 ≡ u + 4 + 4 * z = omega (arith, few, fits) in
      let last : ℕ → Go ℕ = λ z1 u1 w2 t2 i. works 2 (go' (add (add (shift_left z1 (2 % 32)) u1) 4) w2 t2 i) in
      let array : ℕ → World → Temps → Run Ran = λ z1 w1 t1. value_runs P p (operand l) p.around (last z1) w1 t1 in
      let shifted : Go ℕ = λ z1 w1 t1 i. works 2 (array z1 w1 t1 i) in
      worked P (q + 13) (q + 14) 1 n c _ (omega arith)
      (worked P (q + 10) (q + 13) (1 + hoisted_units Trees (is_flat (operand l))) n c _ (omega (arith, small))
      (worked P (q + 9) (q + 10) 1 n c (value_runs P p (operand o) p.around shifted w t) (omega arith)
      (more P (q + 6 + 2) (q + 9) n c _ (omega arith)
      (operand_follows P set grow p o z (q + 6) n c shifted w t is_o
      (worked P (q + 2 + 2) (q + 6) 2 n c (array z w t) (omega arith)
      (operand_follows P set grow p l u (q + 2) n c (last z) w t is_l
      (worked P q (q + 2) 2 n c (go' (add (add (shift_left z (2 % 32)) u) 4) w t) (omega arith) (subst (λ e. FollowsHere P q n c (go' e w t))
      (sym sum) f))))))))

  -- an element of an array that is held, at an index that is held
  record ArrayAt (s : SourceWorld) (w : World) (r a count : ℕ) : Type 0 where
    values : List Value
    object : slice_get s.objects r ≡ Some (elements values)
    counted : count ≡ length values
    few : length values < 2 ^ 26
    len : load w.memory a ≡ Some (length values)

  array_at : (p : Part) (h : Holdings) (types : List Ty) (s : SourceWorld) (w : World) (t : Temps) (r at a count : ℕ) → Holds P p h types s w t →
      slice_get h.objects r ≡ Some (a, array_of at count) → ArrayAt s w r a count
  array_at p h types s w t r at a count hh has =
      let laid = hh.invariant.laid r (a, array_of at count) has in
      let x = laid_as_array h P.shapes w.memory r a at count laid.0 laid.2 in
      record {
        values = x.values;
        object = laid.1 ∙ ap Some x.is;
        counted = x.counted;
        few = x.few;
        len = hh.invariant.words a
            (length x.values) x.length_is;
      }

  -- what the source does with an index
  abbrev within_or : Bool → (r z : ℕ) → (Location → Rest) → Rest → Rest
  within_or b r z go out = (if b then (λ (g : Location → Rest) (o2 : Rest). g (in_element r z)) else evaluation.end_program Passing
      (passing P.heap P.stack) by_index) go out

  element_found : (n q : ℕ) (p : Part) (h : Holdings) (types : List Ty) (s : SourceWorld) (w : World) (t : Temps) (v b : Value) (at u z : ℕ)
      (ty : Ty) (l o : Operand) (go : Location → Rest) (out : Rest) (next : Next) →
      Holds P p h types s w t → Stands h v (array_type at) u → Stands h b int_type z → OperandIs l u t → OperandIs o z t →
      looked_up at P.shapes ≡ Some (array_shape ty) → 3 ≤ q →
      ((k : Location) → IsAt P p.places h types k ty (u + 4 + 4 * z) → z < 2 ^ 26 → u + 4 + 4 * z < 2 ^ 32 → FollowsHere P q n (rest_run (go k) s) (next w t)) →
      FollowsHere P (q + 16) n (rest_run (element_located v b go out) s)
      (statements_run P p (stm (index_check (operand l) (operand o)) no_stms) p.around next w t)
  element_found n q p h types s w t _ _ _ _ _ ty l o go out next hh (an_array r at count a has) (an_int z zs) is_l is_o shape enough onward =
      let x = array_at p h types s w t r at a count hh has in
      by x (nat_lt z (length x.values)) refl
    where
      located : (x : ArrayAt s w r a count) (b : Bool) → nat_lt z (length x.values) ≡ b → (i : ℕ) →
          rest_run (element_located (reference r) (int z) go out) s i ≡ rest_run (within_or b r z go out) s i
      located x b e i =
          ap (λ o2. rest_run (with_found o2 (λ ob w2. evaluation.locate_within Passing (passing P.heap P.stack) r z ob go out w2)) s i) x.object ∙
          ap (λ b2. rest_run (within_or b2 r z go out) s i) (below_word z (length x.values) x.few ∙ e)

      by : (x : ArrayAt s w r a count) (b : Bool) → nat_lt z (length x.values) ≡ b →
          FollowsHere P (q + 16) n (rest_run (element_located (reference r) (int z) go out) s) (statements_run P p (stm (index_check (operand l)
          (operand o)) no_stms) p.around next w t)
      by x true e =
          let lt : z < length x.values = ltb-true z (length x.values) e in
          let few = x.few in
          let counted = x.counted in
          let el = element_at P set premises p h types s w t hh r z at a count ty has shape (omega (arith, lt, counted)) in
          let known = hh.invariant.known (a + 4 + 4 * z) (λ f. part_is_known r z (sym el.here.1 ∙ f)) in
          let under = heap_below P set premises p h types s w t hh in
          let source : Run Source = rest_run (go (in_element r z)) s in
          let target : Run Ran = statements_run P p (stm (index_check (operand l) (operand o)) no_stms) p.around next w t in
          follows_along P.stack tree_work (q + 16) n source (rest_run (element_located (reference r) (int z) go out) s) target target
          (λ i. located x true e i) (λ i. refl)
          (checked p l o a z (length x.values) q n source next w t is_l is_o x.len
          (subst (λ b2. FollowsHere P q n source ((if not b2 then statement_runs P p
          (Fault 3) else statement_runs P p nothing_done) p.around next w t)) (sym e)
          (worked P q q 0 n source (next w t) (omega arith)
          (onward (in_element r z) (an_element r z at a count ty has shape (omega (arith, lt, counted))) (omega (arith, lt, few)) (omega (arith, known.1, under))))))
      by x false e =
          let source : Run Source = rest_run (within_or false r z go out) s in
          let target : Run Ran = statements_run P p (stm (index_check (operand l) (operand o)) no_stms) p.around next w t in
          follows_along P.stack tree_work (q + 16) n source (rest_run (element_located (reference r) (int z) go out) s) target target
          (λ i. located x false e i) (λ i. refl)
          (more P (3 + 16) (q + 16) n source target (omega (arith, enough))
          (checked p l o a z (length x.values) 3 n source next w t is_l is_o x.len
          (subst (λ b2. FollowsHere P 3 n source ((if not b2 then statement_runs P p
          (Fault 3) else statement_runs P p nothing_done) p.around next w t)) (sym e)
          (worked P 0 3 3 n source _ (omega arith) (stop_follows P 0 n by_index s w hh.invariant.input)))))

  pub record ElementTyped (v : LValue) (e : Exp) (p : Part) (t : Ty) : Type 0 where
    pub at : ℕ
    pub array_typed : HasPlace P.shapes P.notes v p.scope (array_type at)
    pub shape : looked_up at P.shapes ≡ Some (array_shape t)
    pub index_typed : Has P.shapes P.notes e p.scope int_type

  element_typed : (v : LValue) (e : Exp) (p : Part) (t : Ty) → HasPlace P.shapes P.notes (Index v e) p.scope t → ElementTyped v e p t
  element_typed v e p t (has.index at hv shape he) = record { at = at; array_typed = hv; shape = shape; index_typed = he }

  module _ (n : ℕ) (v : LValue) (e : Exp) (show_v : PlaceShown P n v) (show_e : Shown P n e) (x : PlaceSituation P n (Index v e)) where
    abbrev typed_ : ElementTyped v e x.p x.ty
    typed_ = element_typed v e x.p x.ty x.typed

    may_v : PlaceMayAssign x.p v
    may_v = by x.may_assign
      where
        by : PlaceMayAssign x.p (Index v e) → PlaceMayAssign x.p v
        by (inl f) = inl (both_true (place_assigns_nothing v) (assigns_nothing e) f).0
        by (inr f) = inr f

    may_e : MayAssign P x.p e
    may_e = by x.may_assign
      where
        by : PlaceMayAssign x.p (Index v e) → MayAssign P x.p e
        by (inl f) = inl (both_true (place_assigns_nothing v) (assigns_nothing e) f).1
        by (inr f) = inr f

    -- what the source does with the array, and with its index
    abbrev with_both : Value → Value → Rest
    with_both a b = element_located a b x.go x.out

    abbrev with_array : Value → Rest
    with_array a = evaluates P e x.p.env (with_both a) x.out

    abbrev inner : Run Source
    inner = rest_run (locates P v x.p.env (λ l. reads P l with_array x.out) x.out) x.s

    abbrev inner_at : (j : ℕ) (storage : Storage) (s : TranslationState) → locate P.findings v x.p.within x.σ ≡ drawn storage s → Later s x.τ →
        PlaceSituation P n v
    inner_at j storage s made last = record {
      ty = array_type typed_.at;
      p = x.p;
      σ = x.σ;
      τ = s;
      storage = storage;
      h = x.h;
      types = x.types;
      r = x.r + j + 180;
      go = λ l. reads P l with_array x.out;
      out = x.out;
      s = x.s;
      w = x.w;
      t = x.t;
      typed = typed_.array_typed;
      words = x.words.0;
      covers = x.covers.0;
      may_assign = may_v;
      ready = ready_part P set x.p x.types x.types x.σ x.τ x.σ s (extends_none x.types) (later_none x.σ)
          (premises.place_grows v x.p.within storage x.σ s made) last x.ready;
      is_made = made;
      outward = λ g ms s2 w2 t2 l g2 e2 h2.
          more P (x.r + left_over) (x.r + j + 180 + left_over) n (rest_run x.out s2) (x.p.around.out x.p.within.leave w2 t2) (omega arith)
          (x.outward g ms s2 w2 t2 l g2 e2 h2);
      holds = x.holds;
    }

    abbrev stands : Standing P set grow n
    stands = record {
      p = x.p;
      σ = x.σ;
      τ = x.τ;
      h = x.h;
      types = x.types;
      r = x.r;
      out = x.out;
      s = x.s;
      w = x.w;
      t = x.t;
      ready = x.ready;
      outward = x.outward;
      holds = x.holds;
    }

    -- what is made of its parts
    abbrev pub lh_of : (storage : Storage) → LeftHeld (assigns_nothing e) (read storage)
    lh_of storage = left_held (assigns_nothing e) storage

    abbrev pub sh_of : Storage → TranslationState → TranslationState
    sh_of storage s3 = left_state (assigns_nothing e) (read storage) s3 (lh_of storage)

    abbrev pub le_of : Storage → TranslationState → Stms
    le_of storage s3 = left_extra (assigns_nothing e) (read storage) s3 (lh_of storage)

    abbrev pub lo_of : Storage → TranslationState → Operand
    lo_of storage s3 = left_operand (assigns_nothing e) (read storage) s3 (lh_of storage)

    abbrev pub ro_of : Storage → TranslationState → Tx → Operand
    ro_of storage s3 y = (held_as y (sh_of storage s3) (holding y)).operand

    abbrev pub checks_of : Storage → TranslationState → Tx → Stms
    checks_of storage s3 y =
        join_stms (join_stms (le_of storage s3) (held_as y (sh_of storage s3) (holding y)).extra) (stm (index_check (operand (lo_of storage s3)) (operand (ro_of storage s3 y))) no_stms)

    abbrev pub made_of : (storage : Storage) (s3 : TranslationState) (y : Tx) → Storage
    made_of storage s3 y =
        element_of (join_stms (le_of storage s3) (held_as y (sh_of storage s3) (holding y)).extra) (operand (lo_of storage s3)) (operand (held_as y
        (sh_of storage s3) (holding y)).operand)

    -- what comes next after the check of the index, by both operands
    abbrev pub TailOnward : (j : ℕ) → (Operand → Operand → Next) → Type 0
    TailOnward j tail =
        (g : Holdings) (ms : List Ty) (s4 : SourceWorld) (w4 : World) (t4 : Temps) (l o : Operand) (u z : ℕ) (k : Location) → GrowsTo x.h g → Extends x.types ms →
        Holds P x.p g ms s4 w4 t4 → IsAt P x.p.places g ms k x.ty (u + 4 + 4 * z) → OperandIs l u t4 → OperandIs o z t4 → z < 2 ^ 26 → u + 4 + 4 * z < 2 ^ 32 →
        FollowsHere P (x.r + left_over + j + 40) n (rest_run (x.go k) s4) (tail l o w4 t4)

    pub tail_follows : (storage : Storage) (s1 s2 s3 : TranslationState) (m : Made) (y : Tx) → locate P.findings v x.p.within x.σ ≡ drawn storage s1 →
        expression P.findings e want.Value x.p.within s1 ≡ drawn m s2 →
        value_of m s2 ≡ drawn y s3 → Later (held_as y (sh_of storage s3) (holding y)).after x.τ → Later s1 x.τ →
        (j : ℕ) (tail : Operand → Operand → Next) → TailOnward j tail →
        FollowsHere P (x.r + j) n (place_source P n (Index v e) x)
        (statements_run P x.p (checks_of storage s3 y) x.p.around (tail (lo_of storage s3) (ro_of storage s3 y)) x.w x.t)
    tail_follows storage s1 s2 s3 m y made made_e made_y last last1 j tail onward =
        let sh : TranslationState = sh_of storage s3 in
        let hd : Holding y = holding y in
        let le : Stms = le_of storage s3 in
        let re : Stms = (held_as y sh hd).extra in
        let lo : Operand = lo_of storage s3 in
        let ro : Operand = (held_as y sh hd).operand in
        let check_ : Operand → Operand → Ts = λ l o. index_check (operand l) (operand o) in
        let next : Operand → Operand → Next = λ l o w1 t1. statements_run P x.p (stm (check_ l o) no_stms) x.p.around (tail l o) w1 t1 in
        let last_sh : Later sh x.τ = later_on sh (held_as y sh hd).after x.τ (held_as y sh hd).later last in
        let fresh : IsAnother y hd → sh.frame.temps < x.τ.frame.temps = λ an. let a = another_later y sh hd an in let b = last.temps in omega
        (arith, a, b) in
        let target : Run Ran = statements_run P x.p (join_stms (join_stms le re) (stm (check_ lo ro) no_stms)) x.p.around (tail lo ro) x.w x.t in
        let runs : target ≡ statements_run P x.p le x.p.around (λ w1 t1. statements_run P x.p re x.p.around (next lo ro) w1 t1) x.w x.t =
        joined_runs P x.p (join_stms le re) (stm (check_ lo ro) no_stms) (tail lo ro) x.w x.t ∙ joined_runs P x.p le re (next lo ro) x.w x.t in
        paid P (x.r + j) n inner target
        (more P (x.r + j + 180 + 1 + 2) (x.r + j + 256) n inner target (omega arith)
        (subst (λ o. FollowsHere P (x.r + j + 180 + 1 + 2) n inner o) (sym runs)
        (both_follow P set grow n stands e (array_type typed_.at) int_type int_has_values show_e typed_.index_typed x.words.1 x.covers.1 may_e s1 s2
        s3 sh m y made_e made_y
        (premises.place_grows v x.p.within storage x.σ s1 made) (left_later (assigns_nothing e) (read storage) s3 (lh_of storage)) last_sh hd fresh
        (x.r + j + 150) (omega arith) with_both next
        (assigns_nothing e) (read storage) (lh_of storage) s3 (x.r + j + 180 + 1) inner (later_none s3) refl
        (λ go2 on.
        read_follows P set premises n (x.r + j + 180) x.p x.h x.types (array_type typed_.at) with_array x.out inner x.s x.w x.t storage x.holds (show_v
        (inner_at j storage s1 made last1)) go2
        (λ g ms a u s4 w4 t4 gg ee hh st. more P (x.r + j + 150 + 6) (x.r + j + 180 + left_over) n (rest_run (with_array a) s4) (go2 u w4 t4)
        (omega arith) (on g ms a u s4 w4 t4 gg ee hh st)))
        (λ d i e2.
        let own : IsOwn P n (x.r + j + 180) x.p x.types (array_type typed_.at) (λ l. reads P l with_array x.out) inner x.s i =
        subst (λ o. StorageFollows P n (x.r + j + 180) x.p x.h x.types (array_type typed_.at) (λ l. reads P l with_array x.out) inner x.s x.w x.t o)
        (read_temp_is storage i e2) (show_v (inner_at j storage s1 made last1)) in
        (own.place, own.is_of))
        (λ f. f)
        (λ g ms a b u z s4 w4 t4 l o gg ee hh sta stb is_l is_o right.
        more P (x.r + left_over + j + 40 + 16) (x.r + j + 150) n (rest_run (with_both a b) s4) (next l o w4 t4) (omega arith)
        (element_found n (x.r + left_over + j + 40) x.p g ms s4 w4 t4 a b typed_.at u z x.ty l o x.go x.out (tail l o) hh sta stb is_l is_o typed_.shape (omega arith)
        (λ k2 at few fits. onward g ms s4 w4 t4 l o u z k2 gg ee hh at is_l is_o few fits))))))

    made_follows : (storage : Storage) (s1 s2 s3 : TranslationState) (m : Made) (y : Tx) → locate P.findings v x.p.within x.σ ≡ drawn storage s1 →
        expression P.findings e want.Value x.p.within s1 ≡ drawn m s2 →
        value_of m s2 ≡ drawn y s3 → Later (held_as y (sh_of storage s3) (holding y)).after x.τ → Later s1 x.τ →
        StorageFollows P n x.r x.p x.h x.types x.ty x.go (place_source P n (Index v e) x) x.s x.w x.t (made_of storage s3 y)
    made_follows storage s1 s2 s3 m y made made_e made_y last last1 j go' onward =
        tail_follows storage s1 s2 s3 m y made made_e made_y last last1 j
        (λ l o w1 t1. charged j (value_runs P x.p (element (operand l) (operand o)) x.p.around go' w1 t1))
        (λ g ms s4 w4 t4 l o u z k gg ee hh at is_l is_o few fits.
        worked P (x.r + left_over + 14) (x.r + left_over + j + 40) j n (rest_run (x.go k) s4) (value_runs P x.p (element (operand l) (operand o)) x.p.around go' w4 t4) (omega arith)
        (addressed x.p l o u z (x.r + left_over) n (rest_run (x.go k) s4) go' w4 t4 is_l is_o few fits (onward g ms k (u + 4 + 4 * z) s4 w4 t4 gg ee hh at)))

    -- the index is held after the array
    abbrev after_hold : Stms → Operand → Tx → Translates Storage
    after_hold before a y s = after (hold true before y s) (λ (h : Held) s2. drawn (element_of h.before (operand a) (operand h.operand)) s2)

    -- what its translation is
    pub record ElementMade : Type 0 where
      pub storage : Storage
      pub s1 : TranslationState
      pub s2 : TranslationState
      pub s3 : TranslationState
      pub m : Made
      pub y : Tx
      pub made : locate P.findings v x.p.within x.σ ≡ drawn storage s1
      pub made_e : expression P.findings e want.Value x.p.within s1 ≡ drawn m s2
      pub made_y : value_of m s2 ≡ drawn y s3
      pub all : drawn (made_of storage s3 y) (held_as y (sh_of storage s3) (holding y)).after ≡ drawn x.storage x.τ
      pub last : Later (held_as y (sh_of storage s3) (holding y)).after x.τ
      pub from_array : Later s1 x.τ

    pub element_made : ElementMade
    element_made =
        let i = after_inv (locate P.findings v x.p.within x.σ) _ x.storage x.τ x.is_made in
        let storage : Storage = i.0 in
        let s1 : TranslationState = i.1 in
        let j = after_inv (value_from (λ s. expression P.findings e want.Value x.p.within s) s1) _ x.storage x.τ i.3 in
        let y : Tx = j.0 in
        let s3 : TranslationState = j.1 in
        let k = after_inv (expression P.findings e want.Value x.p.within s1) value_of y s3 j.2 in
        let sh : TranslationState = sh_of storage s3 in
        let r2 = held_as y sh (holding y) in
        let all : drawn (made_of storage s3 y) r2.after ≡ drawn x.storage x.τ =
        sym (ap (λ o. after o (λ (a : Held) s. after_hold a.before a.operand y s)) (left_is (assigns_nothing e) (read storage) s3 (lh_of storage)) ∙
        ap (λ o. after o (λ (h : Held) s. drawn (element_of h.before (operand (lo_of storage s3)) (operand h.operand)) s)) (r2.is (holding_plain y)
        (le_of storage s3))) ∙ j.3 in
        let last : Later r2.after x.τ = subst (λ o. Later r2.after o) (ap state_in all) (later_none r2.after) in
        let l1 : Later s1 s3 = later_on s1 k.1 s3 (grow e want.Value x.p.within k.0 s1 k.1 k.2) (later_value k.0 k.1 s3 y k.3) in
        let l2 : Later s1 x.τ = later_on s1 s3 x.τ l1 (later_on s3 sh x.τ (left_later (assigns_nothing e) (read storage) s3 (lh_of storage))
        (later_on sh r2.after x.τ r2.later last)) in
        record {
          storage = storage;
          s1 = s1;
          s2 = k.1;
          s3 = s3;
          m = k.0;
          y = y;
          made = i.2;
          made_e = k.2;
          made_y = k.3;
          all = all;
          last = last;
          from_array = l2;
        }

    pub element_shown : StorageFollows P n x.r x.p x.h x.types x.ty x.go (place_source P n (Index v e) x) x.s x.w x.t x.storage
    element_shown =
        let q = element_made in
        by_storage P n (Index v e) x (made_of q.storage q.s3 q.y) (held_as q.y (sh_of q.storage q.s3) (holding q.y)).after q.all
        (made_follows q.storage q.s1 q.s2 q.s3 q.m q.y q.made q.made_e q.made_y q.last q.from_array)
