-- Fields of records as l-values: the record is held, checked for nil, and its field's address is found.
use Rattle.std.proofs.Common.{◌≡◌, ◌≢◌, ℕ, zero, suc, ◌+◌, ◌-◌, ◌*◌, ◌^◌, ◌<◌, ◌≤◌, ◌==◌, List, Option, Some, None, Bool, true, false, refl, sym, ap, ◌∙◌, arith, subst, inl, inr, ne_eqb}
use Rattle.std.specs.Prelude.{slice_get, if◌then◌else◌}
use Rattle.tg_machine_state.specs.State.{heap_base}
use Rattle.tg_base.specs.Words.{add}
use Rattle.tg_syntax.specs.declared.tokens.Ident.{Ident}
use Rattle.tg_syntax.specs.Tree.{LValue, Field}
use Rattle.tg_symbols.specs.Tables.{looked_up}
use Rattle.tg_simulation.specs.Runs.{Run}
use Rattle.tg_simulation.specs.Ran.{Ran, works}
use Rattle.tg_simulation.specs.Agreement.{Source}
use Rattle.tg_simulation.proofs.Following.{follows_along}
use Rattle.tg_semantics.specs.Values.{Value, nil, reference, SourceWorld, by_nil}
use Rattle.tg_semantics.specs.Evaluation as evaluation
use Rattle.tg_semantics.specs.Evaluation.{Location, in_variable, in_field}
use Rattle.tg_semantics.specs.Passing.{Rest, Passing, passing, with_found}
use Rattle.tg_semantics.specs.MachineRuns.{rest_run}
use Rattle.tg_typecheck.specs.declared.notes.Means.TheVariants as means
use Rattle.tg_typecheck.specs.Types.{Ty, record_type, record_shape}
use Rattle.tg_typecheck.specs.Typing.{placed}
use Rattle.tg_semantics.specs.Environments.{name_of}
use Rattle.tg_typecheck.specs.Scopes.{at_of}
use Rattle.tg_typecheck.specs.Has as has
use Rattle.tg_typecheck.specs.Has.{HasPlace, Says}
use Rattle.tg_tree.specs.Tree.{Tx, Temp, Const, Load, After, Move, Ts, Fault, Stms, no_stms, stm}
use Rattle.tg_tree.specs.declared.operators.Bin.TheVariants.{Add}
use Rattle.tg_tree.specs.Operators.{word, operate}
use Rattle.tg_tree.specs.FlatValue.{or_wrong, onward}
use Rattle.tg_tree.specs.Forms.{nothing as nothing_done}
use Rattle.tg_tree.specs.Actions.{World, Temps, set_temp, Go, Next, charged, with_word}
use Rattle.tg_translate.specs.mirror.States.{TranslationState, Translated, drawn, after, with_frame, one_temp}
use Rattle.tg_translate.specs.mirror.Constructs.{Storage, in_temp, at_address, read, plus, nil_check, field_place, field_of, hold, keep, after_all, Held}
use Rattle.tg_translate.specs.mirror.Constructs.{operand}
use Rattle.tg_translate.specs.mirror.Scopes.{field_number}
use Rattle.tg_translate.specs.mirror.Translate.{locate}
use Rattle.tg_correctness.specs.laws.Laws.{tree_work}
use Rattle.tg_translate_proof.specs.glue.Tables.{Later}
use Rattle.tg_translate_proof.specs.glue.Worlds.{Holdings, unknown, Stands, a_nil_record, a_record, record_of, temporary, nowhere, part}
use Rattle.tg_translate_proof.specs.glue.Situations.{Program, Part, Setting, Holds, Extends, value_runs, statement_runs, statements_run}
use Rattle.tg_translate_proof.specs.glue.Shown.{FollowsHere, left_over}
use Rattle.tg_translate_proof.proofs.state.TranslationStates.{made_in, state_in, after_inv, later_none, later_on, behind_none, front_none}
use Rattle.tg_translate_proof.proofs.invariant.Cases.{worked, set_here, holds_with_temp, grows_none, grows_on}
use Rattle.tg_translate_proof.proofs.invariant.Parts.{more, paid, extends_none, extends_on, ready_part, stop_follows}
use Rattle.tg_translate_proof.proofs.expressions.LValueAddress.{IsAt, a_field, AddressIs, ToldFollows, untold, Premises, PlaceSituation, PlaceShown}
use Rattle.tg_translate_proof.proofs.expressions.LValueAddress.{PlaceOnward, StorageFollows, IsOwn, reads, locates, place_source, by_storage}
use Rattle.tg_translate_proof.proofs.expressions.LValueAccess.{field_at, heap_below}
use Rattle.tg_translate_proof.proofs.expressions.Read.{own_value, read_follows}

known_part : (r k : ℕ) → part r k ≢ unknown
known_part r k e = cc

-- what is loaded isn't a number, nor a temporary
pub hold_loaded : (direct : Bool) (before b : Stms) (a : Tx) (s : TranslationState) → hold direct before (after_all b (Load a)) s ≡ keep before (after_all b (Load a)) s
hold_loaded direct before no_stms a s = refl
hold_loaded direct before (stm y ys) a s = refl

module _ (P : Program) where
  -- so many bytes after the address in a temporary
  pub plus_follows : (p : Part) (i a m q n : ℕ) (c : Run Source) (go' : Go ℕ) (w : World) (t : Temps) → t i ≡ Some a → a + m < 2 ^ 32 →
      FollowsHere P q n c (go' (a + m) w t) → FollowsHere P (q + 3) n c (value_runs P p (plus (Temp i) m) p.around go' w t)
  plus_follows p i a zero q n c go' w t has small f =
      worked P q (q + 3) 0 n c (with_word (t i) w (λ u. go' u w t)) (omega arith)
      (subst (λ o. FollowsHere P q n c (with_word o w (λ u. go' u w t))) (sym has) (let e : a + 0 ≡ a = omega arith in subst (λ o. FollowsHere P q n c (go' o w t)) e f))
  plus_follows p i a (suc m) q n c go' w t has small f =
      let go2 : ℕ → Run Ran = λ u j. works 2 (go' (add u (suc m)) w t j) in
      let sum : add a (suc m) ≡ a + suc m = omega (arith, small) in
      worked P (q + 2) (q + 3) 1 n c (λ j. works 0 (with_word (t i) w go2 j)) (omega arith)
      (worked P (q + 2) (q + 2) 0 n c (with_word (t i) w go2) (omega arith)
      (subst (λ o. FollowsHere P (q + 2) n c (with_word o w go2)) (sym has)
      (worked P q (q + 2) 2 n c (go' (add a (suc m)) w t) (omega arith)
      (subst (λ o. FollowsHere P q n c (go' o w t)) (sym sum) f))))

  pub plus_is : (p : Part) (i a m : ℕ) (w : World) (t : Temps) → t i ≡ Some a → a + m < 2 ^ 32 → AddressIs P p w t (plus (Temp i) m) (a + m)
  plus_is p i a zero w t has small = let e : a ≡ a + 0 = omega arith in ap or_wrong has ∙ ap word e
  plus_is p i a (suc m) w t has small =
      let sum : add a (suc m) ≡ a + suc m = omega (arith, small) in
      ap (λ o. onward (or_wrong o) (λ u. onward (word (suc m)) (λ v. operate Add u v))) has ∙ ap word sum

  -- the check for nil, by whether the word is 0
  pub nil_checked : (p : Part) (i u q n : ℕ) (c : Run Source) (next : Next) (w : World) (t : Temps) → t i ≡ Some u →
      FollowsHere P q n c ((if u == 0 then statement_runs P p (Fault 2) else statement_runs P p nothing_done) p.around next w t) →
      FollowsHere P (q + 10) n c (statement_runs P p (nil_check (Temp i)) p.around next w t)
  nil_checked p i u q n c next w t has f =
      let arms : ℕ → Run Ran = λ z. (if z == 0 then statement_runs P p (Fault 2) else statement_runs P p nothing_done) p.around next w t in
      let go2 : ℕ → Run Ran = λ z j. works 2 (arms z j) in
      worked P (q + 6) (q + 10) 4 n c _ (omega arith)
      (worked P (q + 2) (q + 6) 4 n c _ (omega arith)
      (worked P (q + 2) (q + 2) 0 n c (with_word (t i) w go2) (omega arith)
      (subst (λ o. FollowsHere P (q + 2) n c (with_word o w go2)) (sym has)
      (worked P q (q + 2) 2 n c (arms u) (omega arith) f))))

module _ (P : Program) (set : Setting P) (premises : Premises P) where
  abbrev located : Value → (name : ℕ) → (Location → Rest) → (out : Rest) → Rest
  located v name go out = evaluation.locate_field Passing (passing P.heap P.stack) v name go out

  -- a field of what stands in a temporary
  pub field_found : (n q j : ℕ) (p : Part) (h : Holdings) (types : List Ty) (s : SourceWorld) (w : World) (t : Temps) (v : Value) (at name k i u : ℕ) (ty : Ty) (fs : List (ℕ × Ty))
      (go : Location → Rest) (out : Rest) (go' : Go ℕ) → Holds P p h types s w t → Stands h v (record_type at) u → t i ≡ Some u →
      looked_up at P.shapes ≡ Some (record_shape fs) → placed name 0 fs ≡ Some (k, ty) →
      ((l : Location) (z : ℕ) → IsAt P p.places h types l ty z → AddressIs P p w t (plus (Temp i) (4 * k)) z → FollowsHere P q n (rest_run (go l) s) (go' z w t)) →
      FollowsHere P (q + j + 20) n (rest_run (located v name go out) s)
      (statements_run P p (stm (nil_check (Temp i)) no_stms) p.around (λ w1 t1. charged j (value_runs P p (plus (Temp i) (4 * k)) p.around go' w1 t1)) w t)
  field_found n q j p h types s w t _ _ name k i _ ty fs go out go' hh (a_nil_record at) has shape field onward =
      let next : Next = λ w1 t1. charged j (value_runs P p (plus (Temp i) (4 * k)) p.around go' w1 t1) in
      more P (q + 5 + 10) (q + j + 20) n (rest_run (located nil name go out) s) _ (omega arith)
      (nil_checked P p i 0 (q + 5) n (rest_run (located nil name go out) s) next w t has
      (more P 3 (q + 5) n _ _ (omega arith) (worked P 0 3 3 n _ _ (omega arith) (stop_follows P 0 n by_nil s w hh.invariant.input))))
  field_found n q j p h types s w t _ _ name k i _ ty fs go out go' hh (a_record r at a object) has shape field onward_ =
      let next : Next = λ w1 t1. charged j (value_runs P p (plus (Temp i) (4 * k)) p.around go' w1 t1) in
      let x = field_at P set premises p h types s w t hh r name at a k ty fs object shape field in
      let low = (hh.invariant.in_heap r (a, record_of at) object).0 in
      let known = hh.invariant.known (a + 4 * k) (λ e. known_part r k (sym x.here.3 ∙ e)) in
      let under = heap_below P set premises p h types s w t hh in
      let source : Run Source = rest_run (go (in_field r name)) s in
      let is_zero : (a == 0) ≡ false = ne_eqb a 0 (λ e. omega (arith, low, e)) in
      more P (q + 3 + j + 10) (q + j + 20) n source _ (omega arith)
      (nil_checked P p i a (q + 3 + j) n source next w t has
      (subst (λ b. FollowsHere P (q + 3 + j) n source ((if b then statement_runs P p (Fault 2) else statement_runs P p nothing_done) p.around next w t)) (sym is_zero)
      (worked P (q + 3 + j) (q + 3 + j) 0 n source (next w t) (omega arith)
      (worked P (q + 3) (q + 3 + j) j n source (value_runs P p (plus (Temp i) (4 * k)) p.around go' w t) (omega arith)
      (plus_follows P p i a (4 * k) q n source go' w t has (omega (arith, known.1, under))
      (onward_ (in_field r name) (a + 4 * k) (a_field r name at a k ty fs object shape field)
      (plus_is P p i a (4 * k) w t has (omega (arith, known.1, under)))))))))

  pub record FieldTyped (v : LValue) (f : Ident) (p : Part) (t : Ty) : Type 0 where
    pub at : ℕ
    pub fs : List (ℕ × Ty)
    pub k : ℕ
    pub record_typed : HasPlace P.shapes P.notes v p.scope (record_type at)
    pub shape : looked_up at P.shapes ≡ Some (record_shape fs)
    pub field : placed (name_of f) 0 fs ≡ Some (k, t)
    pub says : Says P.notes (at_of f) (means.Field k)

  pub field_typed : (v : LValue) (f : Ident) (p : Part) (t : Ty) → HasPlace P.shapes P.notes (Field v f) p.scope t → FieldTyped v f p t
  field_typed v f p t (has.field at fs k hv shape is field says) = record { at = at; fs = fs; k = k; record_typed = hv; shape = shape; field = field; says = says }

  module _ (n : ℕ) (v : LValue) (f : Ident) (show_v : PlaceShown P n v) (x : PlaceSituation P n (Field v f)) where
    abbrev pub typed_ : FieldTyped v f x.p x.ty
    typed_ = field_typed v f x.p x.ty x.typed

    abbrev name : ℕ
    name = name_of f

    -- what the source does with the record
    abbrev with_record : Value → Rest
    with_record val = located val name x.go x.out

    abbrev inner : Run Source
    inner = rest_run (locates P v x.p.env (λ l. reads P l with_record x.out) x.out) x.s

    abbrev inner_at : (j : ℕ) (storage : Storage) (s : TranslationState) → locate P.findings v x.p.within x.σ ≡ drawn storage s → Later s x.τ → PlaceSituation P n v
    inner_at j storage s made last = record {
      ty = record_type typed_.at;
      p = x.p;
      σ = x.σ;
      τ = s;
      storage = storage;
      h = x.h;
      types = x.types;
      r = x.r + j + 150;
      go = λ l. reads P l with_record x.out;
      out = x.out;
      s = x.s;
      w = x.w;
      t = x.t;
      typed = typed_.record_typed;
      words = x.words;
      covers = x.covers;
      may_assign = x.may_assign;
      ready = ready_part P set x.p x.types x.types x.σ x.τ x.σ s (extends_none x.types) (later_none x.σ) (premises.place_grows v x.p.within storage x.σ s made) last x.ready;
      is_made = made;
      outward = λ g ms s2 w2 t2 l g2 e2 h2.
          more P (x.r + left_over) (x.r + j + 150 + left_over) n (rest_run x.out s2) (x.p.around.out x.p.within.leave w2 t2) (omega arith) (x.outward g ms s2 w2 t2 l g2 e2 h2);
      holds = x.holds;
    }

    -- where the record stands in a temporary of its own
    pub loaded : (t1 : ℕ) (storage : Storage) (s1 : TranslationState) → x.p.places (temporary x.p.scene.depth t1) ≡ nowhere → locate P.findings v x.p.within x.σ ≡ drawn storage s1 → Later s1 x.τ →
        ToldFollows P n x.r x.p x.h x.types x.ty x.go (place_source P n (Field v f) x) x.w x.t
        (stm (Move t1 (read storage)) (stm (nil_check (Temp t1)) no_stms)) (plus (Temp t1) (4 * typed_.k))
    loaded t1 storage s1 idle made last j go' onward =
        let next : Next = λ w1 t1_. charged j (value_runs P x.p (plus (Temp t1) (4 * typed_.k)) x.p.around go' w1 t1_) in
        let go2 : Go ℕ = λ u w1 t2. statements_run P x.p (stm (nil_check (Temp t1)) no_stms) x.p.around next w1 (set_temp t1 u t2) in
        paid P (x.r + j) n inner _
        (worked P (x.r + j + 150 + 1) (x.r + j + 256) 2 n inner (value_runs P x.p (read storage) x.p.around go2 x.w x.t) (omega arith)
        (read_follows P set premises n (x.r + j + 150) x.p x.h x.types (record_type typed_.at) with_record x.out inner x.s x.w x.t storage x.holds (show_v (inner_at j storage s1 made last)) go2
        (λ g ms val u s2 w2 t2 gg ee hh st.
        let hh2 : Holds P x.p g ms s2 w2 (set_temp t1 u t2) = holds_with_temp P x.p g ms s2 w2 t2 t1 u idle hh in
        more P (x.r + left_over + j + 20) (x.r + j + 150 + left_over) n (rest_run (with_record val) s2) (go2 u w2 t2) (omega arith)
        (field_found n (x.r + left_over) j x.p g ms s2 w2 (set_temp t1 u t2) val typed_.at name typed_.k t1 u x.ty typed_.fs x.go x.out go' hh2 st (set_here t1 u t2) typed_.shape typed_.field
        (λ l z at is. onward g ms l z s2 w2 (set_temp t1 u t2) gg ee hh2 at is)))))

    -- where it stands in its variable's
    pub direct : (i : ℕ) (s1 : TranslationState) → locate P.findings v x.p.within x.σ ≡ drawn (in_temp i) s1 → Later s1 x.τ →
        ToldFollows P n x.r x.p x.h x.types x.ty x.go (place_source P n (Field v f) x) x.w x.t
        (stm (nil_check (Temp i)) no_stms) (plus (Temp i) (4 * typed_.k))
    direct i s1 made last j go' onward =
        let own : IsOwn P n (x.r + j + 150) x.p x.types (record_type typed_.at) (λ l. reads P l with_record x.out) inner x.s i = show_v (inner_at j (in_temp i) s1 made last) in
        let y = own_value P set premises x.p x.h x.types x.s x.w x.t (record_type typed_.at) own.place i x.holds own.is_of own.type_is in
        let next : Next = λ w1 t1. charged j (value_runs P x.p (plus (Temp i) (4 * typed_.k)) x.p.around go' w1 t1) in
        let target : Run Ran = statements_run P x.p (stm (nil_check (Temp i)) no_stms) x.p.around next x.w x.t in
        paid P (x.r + j) n inner target
        (more P (x.r + j + 150) (x.r + j + 256) n inner target (omega arith)
        (own.pays target
        (follows_along P.stack tree_work (x.r + j + 150 + 256) n (rest_run (with_record y.v) x.s) (rest_run (reads P (in_variable own.place) with_record x.out) x.s) target target
        (λ c. ap (λ o. rest_run (with_found o with_record) x.s c) y.has) (λ c. refl)
        (more P (x.r + left_over + j + 20) (x.r + j + 150 + 256) n (rest_run (with_record y.v) x.s) target (omega arith)
        (field_found n (x.r + left_over) j x.p x.h x.types x.s x.w x.t y.v typed_.at name typed_.k i y.word x.ty typed_.fs x.go x.out go' x.holds y.stands y.there typed_.shape typed_.field
        (λ l z at is. onward x.h x.types l z x.s x.w x.t (grows_none x.h) (extends_none x.types) x.holds at is))))))

    abbrev kept_state : TranslationState → TranslationState
    kept_state s = with_frame (one_temp s.frame) s

    by_place : (storage : Storage) (s1 : TranslationState) → locate P.findings v x.p.within x.σ ≡ drawn storage s1 → field_place typed_.k (read storage) s1 ≡ drawn x.storage x.τ →
        StorageFollows P n x.r x.p x.h x.types x.ty x.go (place_source P n (Field v f) x) x.s x.w x.t x.storage
    by_place (in_temp i) s1 made rest =
        let last : Later s1 x.τ = subst (λ o. Later s1 o) (ap state_in rest) (later_none s1) in
        by_storage P n (Field v f) x (at_address (stm (nil_check (Temp i)) no_stms) (plus (Temp i) (4 * typed_.k))) s1 rest
        (untold P n x.r x.p x.h x.types x.ty x.go (place_source P n (Field v f) x) x.s x.w x.t (stm (nil_check (Temp i)) no_stms) (plus (Temp i) (4 * typed_.k)) (direct i s1 made last))
    by_place (at_address b a) s1 made rest =
        let t1 : ℕ = s1.frame.temps in
        let before = premises.place_grows v x.p.within (at_address b a) x.σ s1 made in
        let all : drawn (at_address (stm (Move t1 (after_all b (Load a))) (stm (nil_check (Temp t1)) no_stms)) (plus (Temp t1) (4 * typed_.k))) (kept_state s1) ≡ drawn x.storage x.τ =
        sym (ap (λ o. after o (λ (r : Held) s. drawn (field_of typed_.k r.before (operand r.operand)) s)) (hold_loaded true no_stms b a s1)) ∙ rest in
        let to_kept : Later s1 (kept_state s1) = record {
          temps = omega arith;
          slots = omega arith;
          homes = behind_none;
          callees = behind_none;
          literals = front_none;
          functions = front_none;
        } in
        let last : Later s1 x.τ = subst (λ o. Later s1 o) (ap state_in all) to_kept in
        let drawn_one : t1 < x.τ.frame.temps = subst (λ (o : TranslationState). t1 < o.frame.temps) (ap state_in all) (omega arith) in
        by_storage P n (Field v f) x (at_address (stm (Move t1 (after_all b (Load a))) (stm (nil_check (Temp t1)) no_stms)) (plus (Temp t1) (4 * typed_.k))) (kept_state s1) all
        (untold P n x.r x.p x.h x.types x.ty x.go (place_source P n (Field v f) x) x.s x.w x.t (stm (Move t1 (after_all b (Load a))) (stm (nil_check (Temp t1)) no_stms)) (plus (Temp t1) (4 * typed_.k))
        (loaded t1 (at_address b a) s1 (x.ready.temps_free t1 before.temps drawn_one) made last))

    pub field_shown : StorageFollows P n x.r x.p x.h x.types x.ty x.go (place_source P n (Field v f) x) x.s x.w x.t x.storage
    field_shown =
        let i = after_inv (locate P.findings v x.p.within x.σ) _ x.storage x.τ x.is_made in
        by_place i.0 i.1 i.2 (sym (ap (λ o. field_place (field_number o) (read i.0) i.1) (set.found (at_of f) (means.Field typed_.k) typed_.says)) ∙ i.3)
