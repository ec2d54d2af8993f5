-- Choices: `if` with two arms and with one.
use Rattle.std.proofs.Common.{◌≡◌, ◌≢◌, ℕ, zero, suc, ◌+◌, ◌*◌, ◌^◌, ◌<◌, ◌≤◌, ◌==◌, List, Bool, true, false, refl, sym, ap, ◌∙◌, arith, subst, inl, inr}
use Rattle.std.specs.Prelude.{if◌then◌else◌, ◌&&◌}
use Rattle.tg_base.specs.declared.ids.Span.{Span}
use Rattle.tg_syntax.specs.Tree.{Exp, If, When}
use Rattle.tg_simulation.specs.Runs.{Run}
use Rattle.tg_simulation.specs.Ran.{Ran}
use Rattle.tg_simulation.specs.Agreement.{Source}
use Rattle.tg_semantics.specs.Values.{Value, int, nothing, SourceWorld}
use Rattle.tg_semantics.specs.Passing.{Rest, Passing, passing}
use Rattle.tg_semantics.specs.Evaluation as evaluation
use Rattle.tg_semantics.specs.MachineRuns.{rest_run}
use Rattle.tg_typecheck.specs.Types.{Ty, int_type, none_type}
use Rattle.tg_typecheck.specs.Scopes.{Scope}
use Rattle.tg_typecheck.specs.Has as has
use Rattle.tg_typecheck.specs.Has.{Has, Fits, HasValues}
use Rattle.tg_tree.specs.Forms.{nothing as nothing_done}
use Rattle.tg_tree.specs.Tree as tree
use Rattle.tg_tree.specs.Tree.{Tx, Temp, Cond, Ts}
use Rattle.tg_tree.specs.Actions.{World, Temps, set_temp, Go, Next, with_word}
use Rattle.tg_translate.specs.declared.homes.Within.{Within}
use Rattle.tg_translate.specs.declared.wants.Want.{Want}
use Rattle.tg_translate.specs.declared.wants.Want.TheVariants as want
use Rattle.tg_translate.specs.mirror.States.{TranslationState, drawn, Translates, after, with_frame, one_temp}
use Rattle.tg_translate.specs.mirror.Wants.{Made, value, done, test, arms, arm_from, deliver, condition_from, statement_from}
use Rattle.tg_translate.specs.mirror.Purity.{assigns_nothing}
use Rattle.tg_translate.specs.mirror.Translate.{expression, chosen_arm, choice, is_conjunction}
use Rattle.tg_translate_proof.specs.glue.Tables.{Later}
use Rattle.tg_translate_proof.specs.glue.Worlds.{Holdings, Stands, an_int, no_value, temporary, nowhere, GrowsTo}
use Rattle.tg_translate_proof.specs.glue.Situations.{Program, Setting, Part, MayAssign, value_runs, test_runs, statement_runs}
use Rattle.tg_translate_proof.specs.glue.Shown.{Shown, IsShown, Situation, SituationBy, FollowsHere, left_over, evaluates, Onward, IsWanted, IsWantable, IsLeft}
use Rattle.tg_translate_proof.specs.glue.Shown.{MadeFollows, is_set, put_where}
use Rattle.tg_translate_proof.proofs.state.TranslationStates.{made_in, state_in, after_inv, later_none, later_on, behind_none, front_none}
use Rattle.tg_translate_proof.proofs.invariant.Cases.{by_made, worked, wanted_of, holds_with_temp, set_here, IsLoose, grows_on}
use Rattle.tg_translate_proof.proofs.expressions.BinaryLeft.{LeftSide, plain_left}
use Rattle.tg_translate_proof.proofs.invariant.Parts.{StatesGrow, Piece, LeftPiece, first_condition, Moment, Behind, at_begin, at_then, from, sub_arm, sub_dropped, more, paid, extends_on}
use Rattle.tg_translate_proof.proofs.state.ValueWords.{test_int, set_suc, stands_fit, fits_has_values, int_has_values}
use Rattle.tg_translate_proof.proofs.expressions.BinarySides.{both_true}

-- a choice that an int's truth makes, in the source
abbrev pub chooses : (P : Program) → Value → (this other : (Value → Rest) → Rest → Rest) → (Value → Rest) → Rest → Rest
chooses P v this other go out = evaluation.choose Passing (passing P.heap P.stack) v this other go out

-- a fresh temporary is drawn
pub later_fresh : (s : TranslationState) → Later s (with_frame (one_temp s.frame) s)
later_fresh s = record { temps = omega arith; slots = omega arith; homes = behind_none; callees = behind_none; literals = front_none; functions = front_none }

module _ (P : Program) (set : Setting P) (grow : StatesGrow P) (n : ℕ) where
  -- A test and what it leads to: one of two statements, from 200 units on.
  module _ (E c : Exp) (side : LeftSide P n c) {made_by : Want → Within → Translates Made} (x : SituationBy P n E made_by)
      (piece_c : LeftPiece P set grow n E x c side int_type) where
    pub low : x.r ≤ x.r + 200
    low = omega arith

    abbrev pub k0 : Moment P set grow n E x
    k0 = at_begin P set grow n E x (x.r + 200) low

    pub test_follows : (cond : Cond) (τ : TranslationState) → condition_from (λ s. side.by want.Test x.p.within s) x.σ ≡ drawn cond τ → Later τ x.τ →
        (this other : (Value → Rest) → Rest → Rest) (s t : Ts) (next : Next) →
        ((b : Behind P set grow n E x k0) → Later x.σ τ → FollowsHere P (x.r + 256) n (rest_run (this x.go x.out) b.s) (statement_runs P x.p s x.p.around next b.w b.t)) →
        ((b : Behind P set grow n E x k0) → Later x.σ τ → FollowsHere P (x.r + 256) n (rest_run (other x.go x.out) b.s) (statement_runs P x.p t x.p.around next b.w b.t)) →
        FollowsHere P (x.r + 208) n (rest_run (evaluates P c x.p.env (λ v. chooses P v this other x.go x.out) x.out) x.s)
        (statement_runs P x.p (tree.If cond s t) x.p.around next x.w x.t)
    test_follows cond τ made last this other s t next on_this on_other =
        let go : Value → Rest = λ v. chooses P v this other x.go x.out in
        let branches : Go Bool = λ b w1 t1. (if b then statement_runs P x.p s else statement_runs P x.p t) x.p.around next w1 t1 in
        worked P (x.r + 204) (x.r + 208) 4 n (rest_run (evaluates P c x.p.env go x.out) x.s) (test_runs P x.p cond x.p.around branches x.w x.t) (omega arith)
        (first_condition P set grow n E x (x.r + 200) low c side int_type piece_c (x.r + 204) (omega arith) refl cond τ made last go branches
        (λ b v u l wanted.
        let i = test_int b.h v u wanted in
        subst (λ z. FollowsHere P (x.r + 200 + 56) n (rest_run (go z) b.s) (branches (is_set u) b.w b.t)) (sym i.1)
        (subst (λ z. FollowsHere P (x.r + 200 + 56) n (rest_run (go (int i.0)) b.s) (branches z b.w b.t)) (sym i.2)
        (by i.0 b l))))
      where
        by : (k : ℕ) (b : Behind P set grow n E x k0) → Later x.σ τ →
            FollowsHere P (x.r + 200 + 56) n (rest_run (chooses P (int k) this other x.go x.out) b.s)
            ((if is_set k then statement_runs P x.p s else statement_runs P x.p t) x.p.around next b.w b.t)
        by zero b l = more P (x.r + 256) (x.r + 200 + 56) n (rest_run (other x.go x.out) b.s) (statement_runs P x.p t x.p.around next b.w b.t) (omega arith) (on_other b l)
        by (suc k) b l =
            subst (λ z. FollowsHere P (x.r + 200 + 56) n (rest_run (this x.go x.out) b.s) ((if z then statement_runs P x.p s else statement_runs P x.p t) x.p.around next b.w b.t)) (sym (set_suc k))
            (more P (x.r + 256) (x.r + 200 + 56) n (rest_run (this x.go x.out) b.s) (statement_runs P x.p s x.p.around next b.w b.t) (omega arith) (on_this b l))

    -- An arm that is an expression, where its value goes into a temporary; and dropped.

    pub expression_into : (e : Exp) (ty : Ty) → Piece P set grow n E x e ty → Fits ty x.ty → HasValues x.ty → (into : ℕ) (s : Ts) (σe τe : TranslationState) → Later x.σ σe →
        arm_from (want.Into (record { 0 = into })) (λ o. expression P.findings e (want.Into (record { 0 = into })) x.p.within o) σe ≡ drawn s τe → Later τe x.τ → (next : Next) →
        Onward P {A = ℕ} n (x.r + left_over) x.p x.h x.types (λ g v u. Stands g v x.ty u) x.go (λ u w1 t1. next w1 (set_temp into u t1)) →
        (b : Behind P set grow n E x k0) → FollowsHere P (x.r + 256) n (rest_run (evaluates P e x.p.env x.go x.out) b.s) (statement_runs P x.p s x.p.around next b.w b.t)
    expression_into e ty piece fits able into s σe τe l0 made last next onward b =
        let k1 = at_then P set grow n E x k0 b σe l0 (x.r + 252) (omega arith) in
        sub_arm P set grow n E x k1 e ty piece (x.r + 256) (omega arith) (fits_has_values ty x.ty fits able) into s τe made last x.go next
        (λ c v u l st.
        more P (x.r + left_over) (x.r + 252 + 56) n (rest_run (x.go v) c.s) (next c.w (set_temp into u c.t)) (omega arith)
        (onward c.h c.types v u c.s c.w c.t (grows_on x.h b.h c.h b.grows c.grows) (extends_on x.types b.types c.types b.extends c.extends) c.holds
        (stands_fit c.h v ty x.ty u fits st)))

    pub expression_dropped : (e : Exp) (ty : Ty) → Piece P set grow n E x e ty → (s : Ts) (σe τe : TranslationState) → Later x.σ σe →
        statement_from (λ o. expression P.findings e want.Dropped x.p.within o) σe ≡ drawn s τe → Later τe x.τ → (next : Next) →
        Onward P {A = ℕ} n (x.r + left_over) x.p x.h x.types (λ g v u. Unit {0}) x.go (λ u w1 t1. next w1 t1) →
        (b : Behind P set grow n E x k0) → FollowsHere P (x.r + 256) n (rest_run (evaluates P e x.p.env x.go x.out) b.s) (statement_runs P x.p s x.p.around next b.w b.t)
    expression_dropped e ty piece s σe τe l0 made last next onward b =
        let k1 = at_then P set grow n E x k0 b σe l0 (x.r + 252) (omega arith) in
        sub_dropped P set grow n E x k1 e ty piece (x.r + 256) (omega arith) s τe made last x.go next
        (λ c v l.
        more P (x.r + left_over) (x.r + 252 + 56) n (rest_run (x.go v) c.s) (next c.w c.t) (omega arith)
        (onward c.h c.types v 0 c.s c.w c.t (grows_on x.h b.h c.h b.grows c.grows) (extends_on x.types b.types c.types b.extends c.extends) c.holds tt))

    -- An arm that is a truth, where it goes into a temporary; and dropped.

    pub constant_into : (k : ℕ) → k < 2 ^ 32 → x.ty ≡ int_type → (into : ℕ) (next : Next) →
        Onward P {A = ℕ} n (x.r + left_over) x.p x.h x.types (λ g v u. Stands g v x.ty u) x.go (λ u w1 t1. next w1 (set_temp into u t1)) →
        (b : Behind P set grow n E x k0) → FollowsHere P (x.r + 256) n (rest_run (x.go (int k)) b.s) (statement_runs P x.p (tree.Move into (tree.Const k)) x.p.around next b.w b.t)
    constant_into k small is_int into next onward b =
        worked P (x.r + 254) (x.r + 256) 2 n (rest_run (x.go (int k)) b.s) _ (omega arith)
        (worked P (x.r + left_over) (x.r + 254) 2 n (rest_run (x.go (int k)) b.s) (next b.w (set_temp into k b.t)) (omega arith)
        (onward b.h b.types (int k) k b.s b.w b.t b.grows b.extends b.holds (subst (λ t. Stands b.h (int k) t k) (sym is_int) (an_int k small))))

    pub constant_dropped : (k : ℕ) (next : Next) →
        Onward P {A = ℕ} n (x.r + left_over) x.p x.h x.types (λ g v u. Unit {0}) x.go (λ u w1 t1. next w1 t1) →
        (b : Behind P set grow n E x k0) → FollowsHere P (x.r + 256) n (rest_run (x.go (int k)) b.s) (statement_runs P x.p (tree.Do (tree.Const k)) x.p.around next b.w b.t)
    constant_dropped k next onward b =
        worked P (x.r + 254) (x.r + 256) 0 n (rest_run (x.go (int k)) b.s) _ (omega arith)
        (worked P (x.r + left_over) (x.r + 254) 2 n (rest_run (x.go (int k)) b.s) (next b.w b.t) (omega arith)
        (onward b.h b.types (int k) 0 b.s b.w b.t b.grows b.extends b.holds tt))

  -- What both arms lead to, as what is wanted of the choice.
  module _ (E : Exp) {made_by : Want → Within → Translates Made} (x : SituationBy P n E made_by) where
    -- the statement of the choice, whose value goes into a temporary; or is dropped
    abbrev pub FollowsInto : Run Source → (into : ℕ) → Ts → Type 0
    FollowsInto source into s =
        (next : Next) → Onward P {A = ℕ} n (x.r + left_over) x.p x.h x.types (λ g v u. Stands g v x.ty u) x.go (λ u w1 t1. next w1 (set_temp into u t1)) →
        FollowsHere P (x.r + 208) n source (statement_runs P x.p s x.p.around next x.w x.t)

    abbrev pub FollowsDropped : Run Source → Ts → Type 0
    FollowsDropped source s =
        (next : Next) → Onward P {A = ℕ} n (x.r + left_over) x.p x.h x.types (λ g v u. Unit {0}) x.go (λ u w1 t1. next w1 t1) →
        FollowsHere P (x.r + 208) n source (statement_runs P x.p s x.p.around next x.w x.t)

    abbrev pub whole_run : Run Source
    whole_run = rest_run (evaluates P E x.p.env x.go x.out) x.s

    -- from the units that a choice's own cost leaves
    abbrev pub Starts : Run Source → Type 0
    Starts source = (d : Run Ran) → FollowsHere P (x.r + 208) n source d → FollowsHere P x.r n whole_run d

    pub into_shown : (source : Run Source) → Starts source → (j : _) → x.wanted ≡ want.Into j → (s : Ts) (τ : TranslationState) → drawn (done s) τ ≡ drawn x.m x.τ → FollowsInto source j.0 s → IsShown P n E x
    into_shown source starts j ew s τ whole follow =
        by_made P n E x (done s) τ whole tt
        (subst (λ o. MadeFollows P n x.r x.p x.h x.types o x.ty x.go whole_run x.w x.t (done s)) (sym ew)
        (λ next onward. starts _ (follow next onward)))

    pub dropped_shown : (source : Run Source) → Starts source → x.wanted ≡ want.Dropped → (s : Ts) (τ : TranslationState) → drawn (done s) τ ≡ drawn x.m x.τ → FollowsDropped source s → IsShown P n E x
    dropped_shown source starts ew s τ whole follow =
        by_made P n E x (done s) τ whole tt
        (subst (λ o. MadeFollows P n x.r x.p x.h x.types o x.ty x.go whole_run x.w x.t (done s)) (sym ew)
        (λ next onward. starts _ (follow next onward)))

    -- where a value or a condition is wanted, it stands in a temporary of its own
    pub loose_shown : (source : Run Source) → Starts source → (i : ℕ) → x.p.places (temporary x.p.scene.depth i) ≡ nowhere → (s : Ts) (τ : TranslationState) →
        drawn (value (tree.After s (Temp i))) τ ≡ drawn x.m x.τ → FollowsInto source i s → IsShown P n E x
    loose_shown source starts i idle s τ whole follow =
        by_made P n E x (value (tree.After s (Temp i))) τ whole tt
        (λ go' onward.
        let next : Next = λ w1 t1. value_runs P x.p (Temp i) x.p.around go' w1 t1 in
        starts _
        (worked P (x.r + 208) (x.r + 208) 0 n source (statement_runs P x.p s x.p.around next x.w x.t) (omega arith)
        (follow next
        (λ g ms v u sx w1 t1 gg ee hh st.
        worked P (x.r + left_over) (x.r + left_over) 0 n (rest_run (x.go v) sx) _ (omega arith)
        (subst (λ o. FollowsHere P (x.r + left_over) n (rest_run (x.go v) sx) (with_word o w1 (λ u2. go' u2 w1 (set_temp i u t1)))) (sym (set_here i u t1))
        (onward g ms v u sx w1 (set_temp i u t1) gg ee (holds_with_temp P x.p g ms sx w1 t1 i u idle hh) (wanted_of g x.wanted v x.ty u st)))))))

  -- `if` with two arms.

  pub if_typed : (sp : Span) (c a b : Exp) (scope : Scope) (r : Ty) → Has P.shapes P.notes (If sp c a b) scope r →
      (t : Ty) × (u : Ty) × Has P.shapes P.notes c scope int_type × Has P.shapes P.notes a scope t × Has P.shapes P.notes b scope u × Fits t r × Fits u r
  if_typed sp c a b scope r (has.if_else {t = t} {u = u} hc ha hb ft fu) = (t, u, hc, ha, hb, ft, fu)

  module _ (sp : Span) (c a b : Exp) (show_c : Shown P n c) (show_a : Shown P n a) (show_b : Shown P n b) (x : Situation P n (If sp c a b)) where
    abbrev pub E_ : Exp
    E_ = If sp c a b

    abbrev pub types_ : (t : Ty) × (u : Ty) × Has P.shapes P.notes c x.p.scope int_type × Has P.shapes P.notes a x.p.scope t × Has P.shapes P.notes b x.p.scope u × Fits t x.ty × Fits u x.ty
    types_ = if_typed sp c a b x.p.scope x.ty x.typed

    pub may_parts : MayAssign P x.p E_ → MayAssign P x.p c × MayAssign P x.p a × MayAssign P x.p b
    may_parts (inl e) =
        let i = both_true (assigns_nothing c) (assigns_nothing a && assigns_nothing b) e in
        let j = both_true (assigns_nothing a) (assigns_nothing b) i.1 in
        (inl i.0, inl j.0, inl j.1)
    may_parts (inr f) = (inr f, inr f, inr f)

    abbrev pub side_c : LeftSide P n c
    side_c = plain_left P n c (grow c) show_c

    abbrev pub piece_c : LeftPiece P set grow n E_ x c side_c int_type
    piece_c = record { begun = tt; typed = types_.2; words = x.words.0; covers = x.covers.0; may_assign = (may_parts x.may_assign).0 }

    abbrev pub piece_a : Piece P set grow n E_ x a types_.0
    piece_a = record { shown = show_a; typed = types_.3; words = x.words.1; covers = x.covers.1; may_assign = (may_parts x.may_assign).1 }

    abbrev pub piece_b : Piece P set grow n E_ x b types_.1
    piece_b = record { shown = show_b; typed = types_.4; words = x.words.2; covers = x.covers.2; may_assign = (may_parts x.may_assign).2 }

    -- the run after the node's own cost
    abbrev pub source_ : Run Source
    source_ = rest_run (evaluates P c x.p.env (λ v. chooses P v (λ g o. evaluates P a x.p.env g o) (λ g o. evaluates P b x.p.env g o) x.go x.out) x.out) x.s

    pub starts_ : Starts E_ x source_
    starts_ d f = paid P x.r n source_ d (more P (x.r + 208) (x.r + 256) n source_ d (omega arith) f)

    -- both arms, into a temporary, from a state on
    record ArmsInto (into : ℕ) (σ1 : TranslationState) (F : Ts → Ts → Made) : Type 0 where
      sa : Ts
      τa : TranslationState
      made_a : arm_from (want.Into (record { 0 = into })) (λ o. expression P.findings a (want.Into (record { 0 = into })) x.p.within o) σ1 ≡ drawn sa τa
      sb : Ts
      τb : TranslationState
      made_b : arm_from (want.Into (record { 0 = into })) (λ o. expression P.findings b (want.Into (record { 0 = into })) x.p.within o) τa ≡ drawn sb τb
      whole : drawn (F sa sb) τb ≡ drawn x.m x.τ

    arms_into : (into : ℕ) (σ1 : TranslationState) (F : Ts → Ts → Made) →
        after (arm_from (want.Into (record { 0 = into })) (λ o. expression P.findings a (want.Into (record { 0 = into })) x.p.within o) σ1)
        (λ s u. after (arm_from (want.Into (record { 0 = into })) (λ o. expression P.findings b (want.Into (record { 0 = into })) x.p.within o) u) (λ t v. drawn (F s t) v)) ≡ drawn x.m x.τ →
        ArmsInto into σ1 F
    arms_into into σ1 F e =
        let i1 = after_inv (arm_from (want.Into (record { 0 = into })) (λ o. expression P.findings a (want.Into (record { 0 = into })) x.p.within o) σ1) _ x.m x.τ e in
        let i2 = after_inv (arm_from (want.Into (record { 0 = into })) (λ o. expression P.findings b (want.Into (record { 0 = into })) x.p.within o) i1.1) _ x.m x.τ i1.3 in
        record { sa = i1.0; τa = i1.1; made_a = i1.2; sb = i2.0; τb = i2.1; made_b = i2.2; whole = i2.3 }

    -- the whole choice, where both arms go into a temporary
    follows_into : (into : ℕ) (cond : Cond) (τc σ1 : TranslationState) → condition_from (λ s. expression P.findings c want.Test x.p.within s) x.σ ≡ drawn cond τc → Later τc σ1 →
        (F : Ts → Ts → Made) (q : ArmsInto into σ1 F) → HasValues x.ty → FollowsInto E_ x source_ into (tree.If cond q.sa q.sb)
    follows_into into cond τc σ1 made_c drew F q able next onward =
        let ia = after_inv (expression P.findings a (want.Into (record { 0 = into })) x.p.within σ1) _ q.sa q.τa q.made_a in
        let ib = after_inv (expression P.findings b (want.Into (record { 0 = into })) x.p.within q.τa) _ q.sb q.τb q.made_b in
        let la : Later σ1 q.τa = subst (λ o. Later σ1 o) (ap state_in ia.3) (grow a (want.Into (record { 0 = into })) x.p.within ia.0 σ1 ia.1 ia.2) in
        let lb : Later q.τa q.τb = subst (λ o. Later q.τa o) (ap state_in ib.3) (grow b (want.Into (record { 0 = into })) x.p.within ib.0 q.τa ib.1 ib.2) in
        let lx : Later q.τb x.τ = subst (λ o. Later q.τb o) (ap state_in q.whole) (later_none q.τb) in
        let l1 : Later σ1 x.τ = later_on σ1 q.τa x.τ la (later_on q.τa q.τb x.τ lb lx) in
        test_follows E_ c side_c x piece_c cond τc made_c (later_on τc σ1 x.τ drew l1) (λ g o. evaluates P a x.p.env g o) (λ g o. evaluates P b x.p.env g o) q.sa q.sb next
        (λ d l. expression_into E_ c side_c x piece_c a types_.0 piece_a types_.5 able into q.sa σ1 q.τa (later_on x.σ τc σ1 l drew) q.made_a (later_on q.τa q.τb x.τ lb lx) next onward d)
        (λ d l. expression_into E_ c side_c x piece_c b types_.1 piece_b types_.6 able into q.sb q.τa q.τb (later_on x.σ τc q.τa l (later_on τc σ1 q.τa drew la)) q.made_b lx next onward d)

    -- both arms, dropped
    record ArmsDropped (σ1 : TranslationState) (F : Ts → Ts → Made) : Type 0 where
      sa : Ts
      τa : TranslationState
      made_a : statement_from (λ o. expression P.findings a want.Dropped x.p.within o) σ1 ≡ drawn sa τa
      sb : Ts
      τb : TranslationState
      made_b : statement_from (λ o. expression P.findings b want.Dropped x.p.within o) τa ≡ drawn sb τb
      whole : drawn (F sa sb) τb ≡ drawn x.m x.τ

    arms_dropped : (σ1 : TranslationState) (F : Ts → Ts → Made) →
        after (statement_from (λ o. expression P.findings a want.Dropped x.p.within o) σ1)
        (λ s u. after (statement_from (λ o. expression P.findings b want.Dropped x.p.within o) u) (λ t v. drawn (F s t) v)) ≡ drawn x.m x.τ → ArmsDropped σ1 F
    arms_dropped σ1 F e =
        let i1 = after_inv (statement_from (λ o. expression P.findings a want.Dropped x.p.within o) σ1) _ x.m x.τ e in
        let i2 = after_inv (statement_from (λ o. expression P.findings b want.Dropped x.p.within o) i1.1) _ x.m x.τ i1.3 in
        record { sa = i1.0; τa = i1.1; made_a = i1.2; sb = i2.0; τb = i2.1; made_b = i2.2; whole = i2.3 }

    follows_dropped : (cond : Cond) (σ1 : TranslationState) → condition_from (λ s. expression P.findings c want.Test x.p.within s) x.σ ≡ drawn cond σ1 →
        (F : Ts → Ts → Made) (q : ArmsDropped σ1 F) → FollowsDropped E_ x source_ (tree.If cond q.sa q.sb)
    follows_dropped cond σ1 made_c F q next onward =
        let ia = after_inv (expression P.findings a want.Dropped x.p.within σ1) _ q.sa q.τa q.made_a in
        let ib = after_inv (expression P.findings b want.Dropped x.p.within q.τa) _ q.sb q.τb q.made_b in
        let la : Later σ1 q.τa = subst (λ o. Later σ1 o) (ap state_in ia.3) (grow a want.Dropped x.p.within ia.0 σ1 ia.1 ia.2) in
        let lb : Later q.τa q.τb = subst (λ o. Later q.τa o) (ap state_in ib.3) (grow b want.Dropped x.p.within ib.0 q.τa ib.1 ib.2) in
        let lx : Later q.τb x.τ = subst (λ o. Later q.τb o) (ap state_in q.whole) (later_none q.τb) in
        test_follows E_ c side_c x piece_c cond σ1 made_c (later_on σ1 q.τa x.τ la (later_on q.τa q.τb x.τ lb lx)) (λ g o. evaluates P a x.p.env g o) (λ g o. evaluates P b x.p.env g o) q.sa q.sb next
        (λ d l. expression_dropped E_ c side_c x piece_c a types_.0 piece_a q.sa σ1 q.τa l q.made_a (later_on q.τa q.τb x.τ lb lx) next onward d)
        (λ d l. expression_dropped E_ c side_c x piece_c b types_.1 piece_b q.sb q.τa q.τb (later_on x.σ σ1 q.τa l la) q.made_b lx next onward d)

    -- the temporary that is drawn after the test is in no use
    fresh_idle : (cond : Cond) (σ1 : TranslationState) → condition_from (λ s. expression P.findings c want.Test x.p.within s) x.σ ≡ drawn cond σ1 →
        (q : ArmsInto σ1.frame.temps (with_frame (one_temp σ1.frame) σ1) (λ s t. value (tree.After (tree.If cond s t) (Temp σ1.frame.temps)))) →
        x.p.places (temporary x.p.scene.depth σ1.frame.temps) ≡ nowhere
    fresh_idle cond σ1 made_c q =
        let i = σ1.frame.temps in
        let σ2 = with_frame (one_temp σ1.frame) σ1 in
        let ic = after_inv (expression P.findings c want.Test x.p.within x.σ) _ cond σ1 made_c in
        let lc : Later x.σ σ1 = subst (λ o. Later x.σ o) (ap state_in ic.3) (grow c want.Test x.p.within ic.0 x.σ ic.1 ic.2) in
        let ia = after_inv (expression P.findings a (want.Into (record { 0 = i })) x.p.within σ2) _ q.sa q.τa q.made_a in
        let ib = after_inv (expression P.findings b (want.Into (record { 0 = i })) x.p.within q.τa) _ q.sb q.τb q.made_b in
        let la : Later σ2 q.τa = subst (λ o. Later σ2 o) (ap state_in ia.3) (grow a (want.Into (record { 0 = i })) x.p.within ia.0 σ2 ia.1 ia.2) in
        let lb : Later q.τa q.τb = subst (λ o. Later q.τa o) (ap state_in ib.3) (grow b (want.Into (record { 0 = i })) x.p.within ib.0 q.τa ib.1 ib.2) in
        let end : q.τb.frame.temps ≡ x.τ.frame.temps = ap (λ d. (state_in d).frame.temps) q.whole in
        x.ready.temps_free i lc.temps (omega (arith, la.temps, lb.temps, end))

    -- a choice that isn't a conjunction
    pub chosen_shown : (w : Want) (cond : Cond) (σ1 : TranslationState) → x.wanted ≡ w → condition_from (λ s. expression P.findings c want.Test x.p.within s) x.σ ≡ drawn cond σ1 →
        chosen_arm w cond (λ v. expression P.findings a v x.p.within) (λ v. expression P.findings b v x.p.within) σ1 ≡ drawn x.m x.τ → IsShown P n E_ x
    chosen_shown (want.Into j) cond σ1 ew made_c e =
        let q = arms_into j.0 σ1 (λ s t. done (tree.If cond s t)) e in
        into_shown E_ x source_ starts_ j ew (tree.If cond q.sa q.sb) q.τb q.whole
        (follows_into j.0 cond σ1 σ1 made_c (later_none σ1) (λ s t. done (tree.If cond s t)) q (subst (λ o. IsWantable o x.ty) ew x.wantable))
    chosen_shown want.Dropped cond σ1 ew made_c e =
        let q = arms_dropped σ1 (λ s t. done (tree.If cond s t)) e in
        dropped_shown E_ x source_ starts_ ew (tree.If cond q.sa q.sb) q.τb q.whole (follows_dropped cond σ1 made_c (λ s t. done (tree.If cond s t)) q)
    chosen_shown want.Value cond σ1 ew made_c e =
        let i = σ1.frame.temps in
        let σ2 = with_frame (one_temp σ1.frame) σ1 in
        let q = arms_into i σ2 (λ s t. value (tree.After (tree.If cond s t) (Temp i))) e in
        loose_shown E_ x source_ starts_ i (fresh_idle cond σ1 made_c q) (tree.If cond q.sa q.sb) q.τb q.whole
        (follows_into i cond σ1 σ2 made_c (later_fresh σ1) (λ s t. value (tree.After (tree.If cond s t) (Temp i))) q (subst (λ o. IsWantable o x.ty) ew x.wantable))
    chosen_shown want.Test cond σ1 ew made_c e =
        let i = σ1.frame.temps in
        let σ2 = with_frame (one_temp σ1.frame) σ1 in
        let q = arms_into i σ2 (λ s t. value (tree.After (tree.If cond s t) (Temp i))) e in
        let is_int : x.ty ≡ int_type = subst (λ o. IsWantable o x.ty) ew x.wantable in
        loose_shown E_ x source_ starts_ i (fresh_idle cond σ1 made_c q) (tree.If cond q.sa q.sb) q.τb q.whole
        (follows_into i cond σ1 σ2 made_c (later_fresh σ1) (λ s t. value (tree.After (tree.If cond s t) (Temp i))) q (subst (λ o. HasValues o) (sym is_int) int_has_values))
