-- Assignments in all cases. Where the value begins with a read of the place, this is held, and the value
-- begins at the very address that was found.
use Rattle.std.proofs.Common.{◌≡◌, ◌≢◌, ℕ, ◌+◌, ◌<◌, ◌≤◌, List, Bool, true, false, refl, sym, ap, ◌∙◌, arith, subst, inr}
use Rattle.tg_base.specs.declared.ids.Span.{Span}
use Rattle.tg_syntax.specs.Tree.{Exp, Read, Assign, LValue, Simple, Field, Index}
use Rattle.tg_simulation.specs.Runs.{Run}
use Rattle.tg_simulation.specs.Ran.{Ran}
use Rattle.tg_simulation.specs.Agreement.{Source}
use Rattle.tg_simulation.proofs.Following.{follows_along}
use Rattle.tg_semantics.specs.Values.{Value, nothing, SourceWorld}
use Rattle.tg_semantics.specs.Evaluation.{Location}
use Rattle.tg_semantics.specs.Passing.{Rest}
use Rattle.tg_semantics.specs.MachineRuns.{rest_run, as_source}
use Rattle.tg_typecheck.specs.Types.{Ty, int_type, none_type}
use Rattle.tg_typecheck.specs.Scopes.{at_of}
use Rattle.tg_typecheck.specs.Has as has
use Rattle.tg_typecheck.specs.Has.{Has, HasPlace, Fits}
use Rattle.tg_tree.specs.Tree.{Tx, Ts, Load, Stms, no_stms}
use Rattle.tg_tree.specs.Units.{Trees, hoisted_units}
use Rattle.tg_tree.specs.Sizes.{expression_length}
use Rattle.tg_tree.specs.Shapes.{IsFlat, is_flat}
use Rattle.tg_tree.specs.Memory.{store}
use Rattle.tg_tree.specs.declared.operators.Bin.{Bin}
use Rattle.tg_tree.specs.declared.operators.Bin.TheVariants as bin
use Rattle.tg_tree.specs.Actions.{World, Temps, Go, Next, charged, with_memory}
use Rattle.tg_translate.specs.declared.held.HeldAddress.{HeldAddress}
use Rattle.tg_translate.specs.declared.held.HeldAddress.TheVariants.{InOwnFrame, Beside, At}
use Rattle.tg_translate.specs.declared.operands.Operand.TheVariants.{Number, Kept}
use Rattle.tg_translate.specs.declared.wants.Want.{Want}
use Rattle.tg_translate.specs.declared.wants.Want.TheVariants as want
use Rattle.tg_translate.specs.mirror.States.{TranslationState, Translated, drawn, Translates, after}
use Rattle.tg_translate.specs.mirror.Wants.{Made, done, value_of, value_from}
use Rattle.tg_translate.specs.mirror.Constructs.{Storage, in_temp, at_address, read, field_place, element_place, HeldAt, hold_address, held_address, store_at}
use Rattle.tg_translate.specs.mirror.Constructs.{hold}
use Rattle.tg_translate.specs.mirror.Constructs as constructs
use Rattle.tg_translate.specs.mirror.Purity.{assigns_nothing}
use Rattle.tg_translate.specs.mirror.Scopes.{field_number}
use Rattle.tg_translate.specs.mirror.Updates.{begins_with, is_same_place}
use Rattle.tg_translate.specs.mirror.Translate.{expression, locate, assignment, updated, behind_read}
use Rattle.tg_correctness.specs.laws.Laws.{tree_work}
use Rattle.tg_translate_proof.specs.glue.Tables.{Later}
use Rattle.tg_translate_proof.specs.glue.Worlds.{Holdings, Stands, temporary, nowhere, GrowsTo}
use Rattle.tg_translate_proof.specs.glue.Situations.{Program, Setting, IsCovered, Holds, Extends, value_runs, statement_runs, statements_run}
use Rattle.tg_translate_proof.specs.glue.Shown.{Shown, IsShown, Situation, SituationBy, FollowsHere, Onward, MadeFollows, IsWantable, IsLeft, left_over}
use Rattle.tg_translate_proof.specs.glue.Shown.{evaluates}
use Rattle.tg_translate_proof.proofs.state.TranslationStates.{made_in, state_in, after_inv, later_none, later_on, later_value}
use Rattle.tg_translate_proof.proofs.invariant.Cases.{by_made, source_of, grows_on, value_follows}
use Rattle.tg_translate_proof.proofs.invariant.Parts.{StatesGrow, more, paid, extends_on, ready_part}
use Rattle.tg_translate_proof.proofs.expressions.BinarySides.{hoisted_small}
use Rattle.tg_translate_proof.proofs.state.ValueWords.{stands_fit, fits_has_values}
use Rattle.tg_translate_proof.proofs.expressions.LValueAddress.{IsAt, is_at_grows, AddressIs, Premises, PlaceSituation, PlaceShown, place_source, locates}
use Rattle.tg_translate_proof.proofs.expressions.LValueAccess.{write_at}
use Rattle.tg_translate_proof.proofs.expressions.LValue.{IndicesShown, place_shown}
use Rattle.tg_translate_proof.proofs.expressions.AssignHeld.{hold_of, HasAddress, HeldShown, held_shown}
use Rattle.tg_translate_proof.proofs.state.StatesGrow.{hold_address_grows, behind_grows_read, grows_by}
use Rattle.tg_translate_proof.proofs.expressions.AssignFoundAgain.{same_place, location_of}
use Rattle.tg_translate_proof.proofs.expressions.AssignUpdate.{IsFound, where_found, where_follows, located_same, read_again, StaysHeld, a_temporary}
use Rattle.tg_translate_proof.proofs.expressions.AssignUpdate.{variable_update_shown}
use Rattle.tg_translate_proof.proofs.expressions.AssignPlain as assigning
use Rattle.tg_translate_proof.proofs.expressions.AssignPlain.{dropped_only, store_runs, may_all, has_values, place_at}
use Rattle.tg_translate_proof.proofs.expressions.BinaryRights.{RightsShown}
use Rattle.tg_translate_proof.proofs.expressions.BinarySpine.{leaf, is_binary, Spine, spine_of, leaf_of, leaf_covered, leaf_typed, binary_int, ReadHere}
use Rattle.tg_translate_proof.proofs.expressions.BinarySpine.{spine_shown}
use Rattle.tg_translate_proof.proofs.expressions.BinarySpine as spines

-- a held address is flat and short

operator_small : (op : Bin) (n : ℕ) → expression_length Trees (constructs.held_address (InOwnFrame op n)) ≤ 6
operator_small bin.Add n = omega arith
operator_small bin.Sub n = omega arith
operator_small bin.Mul n = omega arith
operator_small bin.Div n = omega arith
operator_small bin.And n = omega arith
operator_small bin.Or n = omega arith
operator_small bin.Xor n = omega arith
operator_small bin.ShiftLeft n = omega arith
operator_small bin.ShiftRight n = omega arith
operator_small bin.ShiftSigned n = omega arith
operator_small bin.AddTrap n = omega arith
operator_small bin.SubTrap n = omega arith
operator_small bin.MulHigh n = omega arith

held_flat : (a : HeldAddress) → IsFlat (held_address a)
held_flat (InOwnFrame op n) = (tt, tt)
held_flat (Beside (Number k) op n) = (tt, tt)
held_flat (Beside (Kept i) op n) = (tt, tt)
held_flat (At (Number k)) = tt
held_flat (At (Kept i)) = tt

held_short : (a : HeldAddress) → expression_length Trees (held_address a) ≤ 8
held_short (InOwnFrame op n) = let x = operator_small op n in omega (arith, x)
held_short (Beside (Number k) op n) = let x = operator_small op n in omega (arith, x)
held_short (Beside (Kept i) op n) = let x = operator_small op n in omega (arith, x)
held_short (At (Number k)) = omega arith
held_short (At (Kept i)) = omega arith

-- what is drawn first of two steps
after_twice : {A B C : Type 0} (d : Translated A) (f : A → Translates B) (g : B → Translates C) (c : C) (u : TranslationState) → after (after d f) g ≡ drawn c u →
    (a : A) × (s : TranslationState) × (d ≡ drawn a s) × (after (f a s) g ≡ drawn c u)
after_twice (drawn a s) f g c u e = (a, s, refl, e)

-- fields and elements are at addresses
field_in_memory : (k : ℕ) (x : Tx) (s t : TranslationState) (i : ℕ) → field_place k x s ≡ drawn (in_temp i) t → ⊥
field_in_memory k x s t i e = let j = after_inv (hold true no_stms x s) _ (in_temp i) t e in let f = ap made_in j.3 in cc

element_in_memory : (direct : Bool) (x y : Tx) (s t : TranslationState) (i : ℕ) → element_place direct x y s ≡ drawn (in_temp i) t → ⊥
element_in_memory direct x y s t i e =
    let j = after_inv (hold direct no_stms x s) _ (in_temp i) t e in
    let k = after_inv (hold true j.0.before y j.1) _ (in_temp i) t j.3 in
    let f = ap made_in k.3 in
    cc

-- an int's place is of ints
fits_int : (u t : Ty) → Fits u t → u ≡ int_type → t ≡ int_type
fits_int u _ has.the_same e = e
fits_int _ _ has.nil_for e = cc

module _ (P : Program) (n : ℕ) (v w : LValue) (same : is_same_place P.findings.meaning v w ≡ true) where
  -- An l-value that is held and found again.
  held_again : HeldShown P n v → (x : PlaceSituation P n v) → HasAddress x.storage → (hd : HeldAt) (τ2 : TranslationState) → hold_of x.storage x.τ ≡ drawn hd τ2 →
      (x.τ.frame.temps < τ2.frame.temps → x.p.places (temporary x.p.scene.depth x.τ.frame.temps) ≡ nowhere) → (j : ℕ) (go' : Go ℕ) →
      ((g : Holdings) (ms : List Ty) (l : Location) (u : ℕ) (s : SourceWorld) (w1 : World) (t : Temps) → GrowsTo x.h g → Extends x.types ms → Holds P x.p g ms s w1 t →
      IsAt P x.p.places g ms l x.ty u → AddressIs P x.p w1 t (held_address hd.address) u → IsFound P n v w same x.p.env s l →
      FollowsHere P (x.r + left_over) n (rest_run (x.go l) s) (go' u w1 t)) →
      FollowsHere P (x.r + j) n (place_source P n v x)
      (statements_run P x.p hd.before x.p.around (λ w1 t1. charged j (value_runs P x.p (held_address hd.address) x.p.around go' w1 t1)) x.w x.t)
  held_again shown x has hd τ2 held idle j go' onward =
      let before_it : Run Source = rest_run (locates P v x.p.env (where_found P n v w same x.p.env x.go) x.out) x.s in
      let target : Run Ran = statements_run P x.p hd.before x.p.around (λ w1 t1. charged j (value_runs P x.p (held_address hd.address) x.p.around go' w1 t1)) x.w x.t in
      follows_along P.stack tree_work (x.r + j) n before_it (place_source P n v x) target target
      (λ i. ap (λ z. as_source z) (located_same P n v w same x.p.env x.go x.out x.s i)) (λ i. refl)
      (shown (record x { go = where_found P n v w same x.p.env x.go }) has hd τ2 held idle j go'
      (λ g ms l u s1 w1 t1 gg ee hh at is.
      where_follows P n v w same x.p.env x.go (x.r + left_over) l s1 (go' u w1 t1) (λ found. onward g ms l u s1 w1 t1 gg ee hh at is found)))

-- a place in a temporary is a variable's
temp_updated : (P : Program) (set : Setting P) (premises : Premises P) (grow : StatesGrow P) (n : ℕ) (sp : Span) (v : LValue) (e : Exp) → IndicesShown P n v →
    Shown P n e →
    (x : Situation P n (Assign sp v e)) → begins_with P.findings.meaning e v ≡ true → (i : ℕ) (s1 : TranslationState) →
    locate P.findings v x.p.within x.σ ≡ drawn (in_temp i) s1 → IsShown P n (Assign sp v e) x
temp_updated P set premises grow n sp (Simple name) e indices show_e x begins i s1 made =
    variable_update_shown P n sp name e x
    (λ storage s made2 rest. assigning.by_place P set premises grow n sp (Simple name) e (place_shown P set premises grow n (Simple name) indices) show_e x storage s made2 rest) begins
    (λ storage s made2. subst (λ o. StaysHeld o) (ap made_in (sym made ∙ made2)) (a_temporary i))
temp_updated P set premises grow n sp (Field v f) e indices show_e x begins i s1 made =
    let j = after_inv (locate P.findings v x.p.within x.σ) _ (in_temp i) s1 made in
    absurd (field_in_memory (field_number (P.findings.meaning (at_of f))) (read j.0) j.1 s1 i j.3)
temp_updated P set premises grow n sp (Index v e2) e indices show_e x begins i s1 made =
    let j = after_inv (locate P.findings v x.p.within x.σ) _ (in_temp i) s1 made in
    let k = after_inv (value_from (λ s. expression P.findings e2 want.Value x.p.within s) j.1) _ (in_temp i) s1 j.3 in
    absurd (element_in_memory (assigns_nothing e2) (read j.0) k.0 k.1 s1 i k.3)

module _ (P : Program) (set : Setting P) (premises : Premises P) (grow : StatesGrow P) (n : ℕ) (sp : Span) (v : LValue) (e : Exp) (indices : IndicesShown P n v)
    (show_e : Shown P n e) (rights : RightsShown P n e) (x : Situation P n (Assign sp v e)) where
  abbrev E : Exp
  E = Assign sp v e

  abbrev show_v : PlaceShown P n v
  show_v = place_shown P set premises grow n v indices

  abbrev typed_ : assigning.AssignTyped P set premises grow v e x.p x.ty
  typed_ = assigning.typed_ P set premises grow n sp v e show_v show_e x

  abbrev writes : Location → Value → Rest
  writes = assigning.writes_value P set premises grow n sp v e show_v show_e x

  abbrev evaluated : Location → Rest
  evaluated = assigning.with_location P set premises grow n sp v e show_v show_e x

  abbrev B_of : Tx → Want → Translates Made
  B_of r w = λ s. behind_read P.findings e r w x.p.within s

  -- where the value begins with a read of the place
  module _ (q : Spine P v e) where
    abbrev leaf_ : spines.Leaf P v e
    leaf_ = leaf_of P v e q

    leaf_place : (t : Ty) → Has P.shapes P.notes (leaf e) x.p.scope t → HasPlace P.shapes P.notes leaf_.w x.p.scope t
    leaf_place t h = by (subst (λ o. Has P.shapes P.notes o x.p.scope t) leaf_.is h)
      where
        by : {u : Ty} → Has P.shapes P.notes (Read leaf_.sp leaf_.w) x.p.scope u → HasPlace P.shapes P.notes leaf_.w x.p.scope u
        by (has.read h2) = h2

    -- the read is of the same place, and has its type
    abbrev Alike : Ty → Type 0
    Alike t = (typed_.t ≡ t) × (location_of P.heap P.stack v x.p.env ≡ location_of P.heap P.stack leaf_.w x.p.env)

    alike : (t : Ty) → Has P.shapes P.notes (leaf e) x.p.scope t → Alike t
    alike t h =
        same_place P set premises x.p x.types x.σ x.τ x.ready v leaf_.w typed_.t t leaf_.same typed_.place (leaf_place t h) x.covers.0
        (subst (λ o. IsCovered P x.p o) leaf_.is (leaf_covered P v x.p e q x.covers.1))

    is_int : is_binary e ≡ true → typed_.t ≡ int_type
    is_int binary = fits_int typed_.u typed_.t typed_.fits (binary_int P v x.p.scope e typed_.u q binary typed_.value_typed)

    abbrev OnwardHere : Next → Type 0
    OnwardHere next = Onward P {A = ℕ} n (x.r + left_over) x.p x.h x.types (λ g v u. IsLeft g want.Dropped v x.ty u) x.go (λ u w1 t1. next w1 t1)

    module _ (b : Stms) (a : Tx) (s1 s2 s3 s4 : TranslationState) (hd : HeldAt) (m : Made) (y : Tx) (made : locate P.findings v x.p.within x.σ ≡ drawn (at_address b a) s1)
        (held : hold_address b a s1 ≡ drawn hd s2) (made_m : behind_read P.findings e (Load (held_address hd.address)) want.Value x.p.within s2 ≡ drawn m s3)
        (made_y : value_of m s3 ≡ drawn y s4) (last : Later s4 x.τ) where
      l1 : Later x.σ s1
      l1 = premises.place_grows v x.p.within (at_address b a) x.σ s1 made

      l2 : Later s1 s2
      l2 = grows_by (hold_address_grows b a s1) held

      l3 : Later s2 s3
      l3 = grows_by (behind_grows_read P.findings e (Load (held_address hd.address)) want.Value x.p.within s2) made_m

      l4 : Later s3 s4
      l4 = later_value m s3 s4 y made_y

      l02 : Later x.σ s2
      l02 = later_on x.σ s1 s2 l1 l2

      l34 : Later s3 x.τ
      l34 = later_on s3 s4 x.τ l4 last

      able : typed_.u ≢ none_type
      able = fits_has_values typed_.u typed_.t typed_.fits (has_values P set premises grow n sp v e show_v show_e x)

      -- the value, after the place
      value_at : (g : Holdings) (ms : List Ty) (l : Location) (u : ℕ) (s : SourceWorld) (w : World) (t : Temps) → GrowsTo x.h g → Extends x.types ms → Holds P x.p g ms s w t →
          IsAt P x.p.places g ms l typed_.t u → AddressIs P x.p w t (held_address hd.address) u → IsFound P n v leaf_.w leaf_.same x.p.env s l → (go' : Go ℕ) →
          Onward P {A = ℕ} n (x.r + 150 + 56) x.p g ms (λ h2 val z. Stands h2 val typed_.u z) (writes l) go' →
          FollowsHere P (x.r + 150 + 4) n (rest_run (evaluated l) s) (value_runs P x.p y x.p.around go' w t)
      value_at g ms l u s w t gg ee hh at is found go' onward =
          let begins : SituationBy P n e (λ w1 within. behind_read P.findings e (Load (held_address hd.address)) w1 within) = record {
            ty = typed_.u;
            wanted = want.Value;
            p = x.p;
            σ = s2;
            τ = s3;
            m = m;
            h = g;
            types = ms;
            r = x.r + 150;
            go = writes l;
            out = x.out;
            s = s;
            w = w;
            t = t;
            typed = typed_.value_typed;
            words = x.words.1;
            covers = x.covers.1;
            wantable = able;
            may_assign = inr (may_all P set premises grow n sp v e show_v show_e x);
            ready = ready_part P set x.p x.types ms x.σ x.τ s2 s3 ee l02 l3 l34 x.ready;
            is_made = made_m;
            outward = λ g2 ms2 sx w2 t2 lo gg2 ee2 hh2.
                more P (x.r + left_over) (x.r + 150 + left_over) n (rest_run x.out sx) (x.p.around.out x.p.within.leave w2 t2) (omega arith)
                (x.outward g2 ms2 sx w2 t2 lo (grows_on x.h g g2 gg gg2) (extends_on x.types ms ms2 ee ee2) hh2);
            holds = hh;
          } in
          let one = leaf_typed P v x.p.scope e typed_.u q typed_.value_typed in
          let here : ReadHere P set premises grow n v typed_.t (held_address hd.address) (held_flat hd.address) (held_short hd.address) (leaf e) x.p g ms s w t = record {
            location = l;
            u = u;
            at = at;
            is = is;
            typed = λ t2 h. (alike t2 h).0;
            gives = λ r go out d f.
                subst (λ o. FollowsHere P r n (rest_run (evaluates P o x.p.env go out) s) d) (sym leaf_.is)
                (read_again P n v leaf_.w leaf_.same leaf_.sp x.p.env (alike one.0 one.1).1 r go out l s d found f);
          } in
          let shown = spine_shown P set premises grow n v typed_.t (held_address hd.address) (held_flat hd.address) (held_short hd.address) e q rights is_int begins here in
          value_follows P n (x.r + 150) x.p g ms want.Value typed_.u (writes l) (rest_run (evaluated l) s) w t m s3 s4 y go' tt made_y
          (λ i lo hi. x.ready.temps_free i (omega (arith, l02.temps, l3.temps, lo)) (omega (arith, hi, last.temps))) shown.1 onward

      update_follows : (next : Next) → OnwardHere next →
          FollowsHere P (x.r + 256) n (rest_run (locates P v x.p.env evaluated x.out) x.s) (statement_runs P x.p (store_at hd.before (held_address hd.address) y) x.p.around next x.w x.t)
      update_follows next onward =
          let j : ℕ = 1 + hoisted_units Trees (is_flat y) in
          let source : Run Source = rest_run (locates P v x.p.env evaluated x.out) x.s in
          let stores : ℕ → Go ℕ = λ u z w2 t2. with_memory (store w2.memory u z) w2 (λ w3. next w3 t2) in
          let go' : Go ℕ = λ u w1 t1. value_runs P x.p y x.p.around (stores u) w1 t1 in
          let small = hoisted_small (is_flat y) in
          let to_end : Later s1 x.τ = later_on s1 s2 x.τ l2 (later_on s2 s3 x.τ l3 l34) in
          let place = place_at P set premises grow n sp v e show_v show_e x (at_address b a) s1 made to_end in
          store_runs P x.p (x.r + 256) n source hd.before (held_address hd.address) y next x.w x.t
          (more P (x.r + 150 + j) (x.r + 256) n source
          (statements_run P x.p hd.before x.p.around (λ w1 t1. charged j (value_runs P x.p (held_address hd.address) x.p.around go' w1 t1)) x.w x.t) (omega (arith, small))
          (held_again P n v leaf_.w leaf_.same (held_shown P set premises grow n v indices) place tt hd s2 held
          (λ drew. x.ready.temps_free s1.frame.temps l1.temps (omega (arith, drew, l3.temps, l34.temps)))
          j go'
          (λ g ms l u sx w1 t1 gg ee hh at is found.
          more P (x.r + 150 + 4) (x.r + 150 + left_over) n (rest_run (evaluated l) sx) (go' u w1 t1) (omega arith)
          (value_at g ms l u sx w1 t1 gg ee hh at is found (stores u)
          (λ g2 ms2 val z s5 w5 t5 gg2 ee2 hh2 st.
          let at2 = is_at_grows P x.p.places g g2 ms ms2 l typed_.t u gg2 ee2 at in
          let o = write_at P set premises x.p g2 ms2 s5 w5 t5 hh2 l typed_.t u val z at2 (has_values P set premises grow n sp v e show_v show_e x)
          (stands_fit g2 val typed_.u typed_.t z typed_.fits st) in
          follows_along P.stack tree_work (x.r + 150 + 56) n (rest_run (x.go nothing) o.s1) (rest_run (writes l val) s5) (stores u z w5 t5) (stores u z w5 t5)
          (λ i. o.does (λ k. x.go nothing) x.out i) (λ i. refl)
          (subst (λ k. FollowsHere P (x.r + 150 + 56) n (rest_run (x.go nothing) o.s1) (with_memory k w5 (λ w3. next w3 t5))) (sym o.stored)
          (more P (x.r + left_over) (x.r + 150 + 56) n (rest_run (x.go nothing) o.s1) (next (record w5 { memory = o.m1 }) t5) (omega arith)
          (onward g2 ms2 nothing 0 o.s1 (record w5 { memory = o.m1 }) t5 (grows_on x.h g g2 gg gg2) (extends_on x.types ms ms2 ee ee2) o.after tt))))))))

      update_made : drawn (done (store_at hd.before (held_address hd.address) y)) s4 ≡ drawn x.m x.τ → IsShown P n E x
      update_made all =
          let store_ : Ts = store_at hd.before (held_address hd.address) y in
          let dropped_ : x.wanted ≡ want.Dropped = dropped_only x.wanted (subst (λ o. IsWantable x.wanted o) typed_.none x.wantable) in
          by_made P n E x (done store_) s4 all tt
          (subst (λ o. MadeFollows P n x.r x.p x.h x.types o x.ty x.go (source_of P n E x) x.w x.t (done store_)) (sym dropped_)
          (λ next onward.
          paid P x.r n (rest_run (locates P v x.p.env evaluated x.out) x.s) (statement_runs P x.p store_ x.p.around next x.w x.t) (update_follows next onward)))

    -- where the place is at an address
    address_updated : (b : Stms) (a : Tx) (s1 : TranslationState) → locate P.findings v x.p.within x.σ ≡ drawn (at_address b a) s1 →
        after (updated (at_address b a) B_of s1) (λ st u. drawn (done st) u) ≡ drawn x.m x.τ → IsShown P n E x
    address_updated b a s1 made rest =
        let i = after_inv (updated (at_address b a) B_of s1) _ x.m x.τ rest in
        let j = after_twice (hold_address b a s1) _ _ i.0 i.1 i.2 in
        let k = after_inv (behind_read P.findings e (Load (held_address j.0.address)) want.Value x.p.within j.1) _ i.0 i.1 j.3 in
        let l = after_inv (value_of k.0 k.1) _ i.0 i.1 k.3 in
        let all : drawn (done (store_at j.0.before (held_address j.0.address) l.0)) l.1 ≡ drawn x.m x.τ = ap (λ o. after o (λ st u. drawn (done st) u)) l.3 ∙ i.3 in
        update_made b a s1 j.1 k.1 l.1 j.0 k.0 l.0 made j.2 k.2 l.2 (subst (λ o. Later l.1 o) (ap state_in all) (later_none l.1)) all

  abbrev E_of : Want → Translates Made
  E_of w = λ s. expression P.findings e w x.p.within s

  pub assign_shown : IsShown P n E x
  assign_shown = by (begins_with P.findings.meaning e v) refl
    where
      by_storage : begins_with P.findings.meaning e v ≡ true → (storage : Storage) (s1 : TranslationState) → locate P.findings v x.p.within x.σ ≡ drawn storage s1 →
          after (updated storage B_of s1) (λ st u. drawn (done st) u) ≡ drawn x.m x.τ → IsShown P n E x
      by_storage begins (in_temp i) s1 made rest = temp_updated P set premises grow n sp v e indices show_e x begins i s1 made
      by_storage begins (at_address b a) s1 made rest = address_updated (spine_of P v e begins) b a s1 made rest

      by : (begins : Bool) → begins_with P.findings.meaning e v ≡ begins → IsShown P n E x
      by false plain = assigning.assign_shown P set premises grow n sp v e show_v show_e x plain
      by true begins =
          let i = after_inv (locate P.findings v x.p.within x.σ) _ x.m x.τ x.is_made in
          by_storage begins i.0 i.1 i.2 (sym (ap (λ o. after (assignment o i.0 E_of B_of i.1) (λ st u. drawn (done st) u)) begins) ∙ i.3)
