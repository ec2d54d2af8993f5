-- Conditions that are joined: `&`, `|`, and `if` as a condition whose second arm is 0; and `if` with one arm.
use Rattle.std.proofs.Common.{◌≡◌, ◌≢◌, ℕ, zero, suc, ◌+◌, ◌*◌, ◌^◌, ◌<◌, ◌≤◌, ◌==◌, List, Bool, true, false, refl, sym, ap, ◌∙◌, arith, subst, inl, inr}
use Rattle.std.specs.Prelude.{if◌then◌else◌, ◌&&◌}
use Rattle.tg_base.specs.declared.ids.Span.{Span}
use Rattle.tg_syntax.specs.declared.trees.Op.{Op}
use Rattle.tg_syntax.specs.declared.trees.Op.TheVariants as op
use Rattle.tg_syntax.specs.Tree.{Exp, Int, If, When, Binary}
use Rattle.tg_simulation.specs.Runs.{Run}
use Rattle.tg_simulation.specs.Ran.{Ran}
use Rattle.tg_simulation.specs.Agreement.{Source}
use Rattle.tg_semantics.specs.Values.{Value, int, nothing, SourceWorld}
use Rattle.tg_semantics.specs.Passing.{Rest}
use Rattle.tg_semantics.specs.MachineRuns.{rest_run}
use Rattle.tg_typecheck.specs.Types.{Ty, int_type, none_type}
use Rattle.tg_typecheck.specs.Scopes.{Scope}
use Rattle.tg_typecheck.specs.Has as has
use Rattle.tg_typecheck.specs.Has.{Has, Fits, HasValues}
use Rattle.tg_tree.specs.Forms.{nothing as nothing_done}
use Rattle.tg_tree.specs.Tree as tree
use Rattle.tg_tree.specs.Tree.{Tx, Temp, Const, Cond, Ts}
use Rattle.tg_tree.specs.Shapes.{is_flat_condition}
use Rattle.tg_tree.specs.Units.{Trees, joined_units}
use Rattle.tg_tree.specs.Actions.{World, Temps, set_temp, Go, Next}
use Rattle.tg_translate.specs.declared.homes.Within.{Within}
use Rattle.tg_translate.specs.declared.wants.Want.{Want}
use Rattle.tg_translate.specs.declared.wants.Want.TheVariants as want
use Rattle.tg_translate.specs.mirror.States.{TranslationState, drawn, Translates, after, with_frame, one_temp}
use Rattle.tg_translate.specs.mirror.Wants.{Made, value, done, test, test_of, put_in, dropped, arm_from, condition_from, statement_from}
use Rattle.tg_translate.specs.mirror.Purity.{assigns_nothing}
use Rattle.tg_translate.specs.mirror.Translate.{expression, choice, is_conjunction, is_zero, connective}
use Rattle.tg_translate_proof.specs.glue.Tables.{Later}
use Rattle.tg_translate_proof.specs.glue.Worlds.{Stands, temporary, nowhere}
use Rattle.tg_translate_proof.specs.glue.Situations.{Program, Setting, Part, MayAssign, test_runs, statement_runs}
use Rattle.tg_translate_proof.specs.glue.Shown.{Shown, IsShown, Situation, SituationBy, FollowsHere, left_over, evaluates, Onward, IsTold, IsWantable}
use Rattle.tg_translate_proof.specs.glue.Shown.{MadeFollows, is_set}
use Rattle.tg_translate_proof.proofs.state.TranslationStates.{made_in, state_in, after_inv, later_none, later_on}
use Rattle.tg_translate_proof.proofs.invariant.Cases.{by_made, worked, grows_on}
use Rattle.tg_translate_proof.proofs.expressions.BinaryLeft.{LeftSide, plain_left}
use Rattle.tg_translate_proof.proofs.invariant.Parts.{StatesGrow, Piece, LeftPiece, first_condition, Moment, Behind, at_begin, at_then, sub_condition, more, paid, extends_on}
use Rattle.tg_translate_proof.proofs.state.ValueWords.{test_int, set_suc, int_has_values}
use Rattle.tg_translate_proof.proofs.expressions.BinarySides.{both_true, may_left, may_right}
use Rattle.tg_translate_proof.proofs.expressions.IfBranches.{chooses, later_fresh, k0, low, test_follows, expression_into, expression_dropped, constant_into, constant_dropped}
use Rattle.tg_translate_proof.proofs.expressions.IfBranches.{FollowsInto, FollowsDropped, Starts, into_shown, dropped_shown, loose_shown}
use Rattle.tg_translate_proof.proofs.expressions.IfBranches as choosing

-- what joined conditions take besides their sides
pub joined_small : (b : Bool) → joined_units Trees b ≤ 31
joined_small true = omega arith
joined_small false = omega arith

-- where nothing may be wanted, nothing is
pub none_is_dropped : (w : Want) → IsWantable w none_type → w ≡ want.Dropped
none_is_dropped want.Dropped able = refl
none_is_dropped want.Test able = cc
none_is_dropped want.Value able = absurd (able refl)
none_is_dropped (want.Into j) able = absurd (able refl)

module _ (P : Program) (set : Setting P) (grow : StatesGrow P) (n : ℕ) where
  pub later_condition : (p : Part) (e : Exp) (s : TranslationState) (c : Cond) (τ : TranslationState) → condition_from (λ o. expression P.findings e want.Test p.within o) s ≡ drawn c τ → Later s τ
  later_condition p e s c τ made =
      let i = after_inv (expression P.findings e want.Test p.within s) _ c τ made in
      subst (λ o. Later s o) (ap state_in i.3) (grow e want.Test p.within i.0 s i.1 i.2)

  -- the same for a left side
  pub later_side : (a : Exp) (side : LeftSide P n a) (p : Part) (s : TranslationState) (c : Cond) (τ : TranslationState) →
      condition_from (λ o. side.by want.Test p.within o) s ≡ drawn c τ → Later s τ
  later_side a side p s c τ made =
      let i = after_inv (side.by want.Test p.within s) _ c τ made in
      subst (λ o. Later s o) (ap state_in i.3) (side.grows want.Test p.within i.0 s i.1 i.2)

  module _ (E a b : Exp) (side : LeftSide P n a) {made_by : Want → Within → Translates Made} (x : SituationBy P n E made_by)
      (piece_a : LeftPiece P set grow n E x a side int_type) (piece_b : Piece P set grow n E x b int_type) where
    abbrev pub right_ : (Value → Rest) → Rest → Rest
    right_ g o = evaluates P b x.p.env g o

    -- the right side as a condition, from 256 units on
    right_follows : (d : Cond) (τa τb : TranslationState) → condition_from (λ s. expression P.findings b want.Test x.p.within s) τa ≡ drawn d τb → Later τb x.τ → x.wanted ≡ want.Test → (go' : Go Bool) →
        Onward P {A = Bool} n (x.r + left_over) x.p x.h x.types (λ g v t. IsTold x.wanted v x.ty t) x.go go' →
        (c : Behind P set grow n E x (k0 P set grow n E a side x piece_a)) → Later x.σ τa →
        FollowsHere P (x.r + 256) n (rest_run (right_ x.go x.out) c.s) (test_runs P x.p d x.p.around go' c.w c.t)
    right_follows d τa τb made last ew go' onward c l =
        let k1 = at_then P set grow n E x (k0 P set grow n E a side x piece_a) c τa l (x.r + 252) (omega arith) in
        sub_condition P set grow n E x k1 b piece_b (x.r + 256) (omega arith) d τb made last x.go go'
        (λ e v u l2 wanted.
        let i = test_int e.h v u wanted in
        more P (x.r + left_over) (x.r + 252 + 56) n (rest_run (x.go v) e.s) (go' (is_set u) e.w e.t) (omega arith)
        (onward e.h e.types v (is_set u) e.s e.w e.t (grows_on x.h c.h e.h c.grows e.grows) (extends_on x.types c.types e.types c.extends e.extends) e.holds
        (subst (λ z. IsTold x.wanted z x.ty (is_set u)) (sym i.1) (subst (λ w. IsTold w (int i.0) x.ty (is_set u)) (sym ew) i.2))))

    -- a truth that is given at once
    pub truth_goes : (k : ℕ) → x.wanted ≡ want.Test → (go' : Go Bool) →
        Onward P {A = Bool} n (x.r + left_over) x.p x.h x.types (λ g v t. IsTold x.wanted v x.ty t) x.go go' →
        (c : Behind P set grow n E x (k0 P set grow n E a side x piece_a)) → FollowsHere P (x.r + 256) n (rest_run (x.go (int k)) c.s) (go' (is_set k) c.w c.t)
    truth_goes k ew go' onward c =
        more P (x.r + left_over) (x.r + 256) n (rest_run (x.go (int k)) c.s) (go' (is_set k) c.w c.t) (omega arith)
        (onward c.h c.types (int k) (is_set k) c.s c.w c.t c.grows c.extends c.holds (subst (λ w. IsTold w (int k) x.ty (is_set k)) (sym ew) refl))

    -- both conditions
    pub both_follow : (other : (Value → Rest) → Rest → Rest) (cond d : Cond) (τa τb : TranslationState) → condition_from (λ s. side.by want.Test x.p.within s) x.σ ≡ drawn cond τa →
        condition_from (λ s. expression P.findings b want.Test x.p.within s) τa ≡ drawn d τb → Later τb x.τ → x.wanted ≡ want.Test → (go' : Go Bool) →
        Onward P {A = Bool} n (x.r + left_over) x.p x.h x.types (λ g v t. IsTold x.wanted v x.ty t) x.go go' →
        ((c : Behind P set grow n E x (k0 P set grow n E a side x piece_a)) → FollowsHere P (x.r + 256) n (rest_run (other x.go x.out) c.s) (go' false c.w c.t)) →
        FollowsHere P (x.r + 256) n (rest_run (evaluates P a x.p.env (λ v. chooses P v right_ other x.go x.out) x.out) x.s)
        (test_runs P x.p (tree.Both cond d) x.p.around go' x.w x.t)
    both_follow other cond d τa τb made_a made_b last ew go' onward on_other =
        let go : Value → Rest = λ v. chooses P v right_ other x.go x.out in
        let after_left : Go Bool = λ t w1 t1. (if t then test_runs P x.p d else (λ e g w2 t2. g false w2 t2)) x.p.around go' w1 t1 in
        worked P (x.r + 204) (x.r + 256) (joined_units Trees (is_flat_condition d)) n _ (test_runs P x.p cond x.p.around after_left x.w x.t)
        (let small = joined_small (is_flat_condition d) in omega (arith, small))
        (first_condition P set grow n E x (x.r + 200) (low P set grow n E a side x piece_a) a side int_type piece_a (x.r + 204) (omega arith) refl cond τa made_a (later_on τa τb x.τ (later_condition x.p b τa d τb made_b) last) go after_left
        (λ c v u l wanted.
        let i = test_int c.h v u wanted in
        subst (λ z. FollowsHere P (x.r + 200 + 56) n (rest_run (go z) c.s) (after_left (is_set u) c.w c.t)) (sym i.1)
        (subst (λ z. FollowsHere P (x.r + 200 + 56) n (rest_run (go (int i.0)) c.s) (after_left z c.w c.t)) (sym i.2)
        (by i.0 c l))))
      where
        by : (k : ℕ) (c : Behind P set grow n E x (k0 P set grow n E a side x piece_a)) → Later x.σ τa →
            FollowsHere P (x.r + 200 + 56) n (rest_run (chooses P (int k) right_ other x.go x.out) c.s)
            ((if is_set k then test_runs P x.p d else (λ e g w2 t2. g false w2 t2)) x.p.around go' c.w c.t)
        by zero c l = more P (x.r + 256) (x.r + 200 + 56) n (rest_run (other x.go x.out) c.s) (go' false c.w c.t) (omega arith) (on_other c)
        by (suc k) c l =
            subst (λ z. FollowsHere P (x.r + 200 + 56) n (rest_run (right_ x.go x.out) c.s) ((if z then test_runs P x.p d else (λ e g w2 t2. g false w2 t2)) x.p.around go' c.w c.t)) (sym (set_suc k))
            (more P (x.r + 256) (x.r + 200 + 56) n (rest_run (right_ x.go x.out) c.s) (test_runs P x.p d x.p.around go' c.w c.t) (omega arith)
            (right_follows d τa τb made_b last ew go' onward c l))

    -- either condition
    pub either_follow : (cond d : Cond) (τa τb : TranslationState) → condition_from (λ s. side.by want.Test x.p.within s) x.σ ≡ drawn cond τa →
        condition_from (λ s. expression P.findings b want.Test x.p.within s) τa ≡ drawn d τb → Later τb x.τ → x.wanted ≡ want.Test → (go' : Go Bool) →
        Onward P {A = Bool} n (x.r + left_over) x.p x.h x.types (λ g v t. IsTold x.wanted v x.ty t) x.go go' →
        FollowsHere P (x.r + 256) n (rest_run (evaluates P a x.p.env (λ v. chooses P v (λ g o. g (int 1)) right_ x.go x.out) x.out) x.s)
        (test_runs P x.p (tree.Either cond d) x.p.around go' x.w x.t)
    either_follow cond d τa τb made_a made_b last ew go' onward =
        let go : Value → Rest = λ v. chooses P v (λ g o. g (int 1)) right_ x.go x.out in
        let after_left : Go Bool = λ t w1 t1. (if t then (λ e g w2 t2. g true w2 t2) else test_runs P x.p d) x.p.around go' w1 t1 in
        worked P (x.r + 204) (x.r + 256) (joined_units Trees (is_flat_condition d)) n _ (test_runs P x.p cond x.p.around after_left x.w x.t)
        (let small = joined_small (is_flat_condition d) in omega (arith, small))
        (first_condition P set grow n E x (x.r + 200) (low P set grow n E a side x piece_a) a side int_type piece_a (x.r + 204) (omega arith) refl cond τa made_a (later_on τa τb x.τ (later_condition x.p b τa d τb made_b) last) go after_left
        (λ c v u l wanted.
        let i = test_int c.h v u wanted in
        subst (λ z. FollowsHere P (x.r + 200 + 56) n (rest_run (go z) c.s) (after_left (is_set u) c.w c.t)) (sym i.1)
        (subst (λ z. FollowsHere P (x.r + 200 + 56) n (rest_run (go (int i.0)) c.s) (after_left z c.w c.t)) (sym i.2)
        (by i.0 c l))))
      where
        by : (k : ℕ) (c : Behind P set grow n E x (k0 P set grow n E a side x piece_a)) → Later x.σ τa →
            FollowsHere P (x.r + 200 + 56) n (rest_run (chooses P (int k) (λ g o. g (int 1)) right_ x.go x.out) c.s)
            ((if is_set k then (λ e g w2 t2. g true w2 t2) else test_runs P x.p d) x.p.around go' c.w c.t)
        by zero c l =
            more P (x.r + 256) (x.r + 200 + 56) n (rest_run (right_ x.go x.out) c.s) (test_runs P x.p d x.p.around go' c.w c.t) (omega arith)
            (right_follows d τa τb made_b last ew go' onward c l)
        by (suc k) c l =
            subst (λ z. FollowsHere P (x.r + 200 + 56) n (rest_run (x.go (int 1)) c.s) ((if z then (λ e g w2 t2. g true w2 t2) else test_runs P x.p d) x.p.around go' c.w c.t)) (sym (set_suc k))
            (more P (x.r + 256) (x.r + 200 + 56) n (rest_run (x.go (int 1)) c.s) (go' true c.w c.t) (omega arith) (truth_goes 1 ew go' onward c))

  -- `if` with one arm.

  when_typed : (sp : Span) (c a : Exp) (scope : Scope) (t : Ty) → Has P.shapes P.notes (When sp c a) scope t →
      (t ≡ none_type) × Has P.shapes P.notes c scope int_type × Has P.shapes P.notes a scope none_type
  when_typed sp c a scope _ (has.when hc ha) = (refl, hc, ha)

  -- an expression that may assign is no part of what assigns nothing
  may_any : (p : Part) (e : Exp) → assigns_nothing e ≡ false → (f : Exp) → MayAssign P p e → MayAssign P p f
  may_any p e never f (inl always) = absurd (let k : true ≡ false = sym always ∙ never in cc)
  may_any p e never f (inr all) = inr all

  pub when_shown : (sp : Span) (c a : Exp) → Shown P n c → Shown P n a → Shown P n (When sp c a)
  when_shown sp c a show_c show_a x =
      let E_ : Exp = When sp c a in
      let ty = when_typed sp c a x.p.scope x.ty x.typed in
      let piece_c : LeftPiece P set grow n E_ x c (plain_left P n c (grow c) show_c) int_type =
      record { begun = tt; typed = ty.1; words = x.words.0; covers = x.covers.0; may_assign = may_any x.p E_ refl c x.may_assign } in
      let piece_a : Piece P set grow n E_ x a none_type =
      record { shown = show_a; typed = ty.2; words = x.words.1; covers = x.covers.1; may_assign = may_any x.p E_ refl a x.may_assign } in
      let ew : x.wanted ≡ want.Dropped = none_is_dropped x.wanted (subst (λ t. IsWantable x.wanted t) ty.0 x.wantable) in
      let i1 = after_inv (condition_from (λ s. expression P.findings c want.Test x.p.within s) x.σ) _ x.m x.τ x.is_made in
      let i2 = after_inv (statement_from (λ s. expression P.findings a want.Dropped x.p.within s) i1.1) _ x.m x.τ i1.3 in
      let ia = after_inv (expression P.findings a want.Dropped x.p.within i1.1) _ i2.0 i2.1 i2.2 in
      let la : Later i1.1 i2.1 = subst (λ o. Later i1.1 o) (ap state_in ia.3) (grow a want.Dropped x.p.within ia.0 i1.1 ia.1 ia.2) in
      let lx : Later i2.1 x.τ = subst (λ o. Later i2.1 o) (ap state_in i2.3) (later_none i2.1) in
      let source = rest_run (evaluates P c x.p.env (λ v. chooses P v (λ g o. evaluates P a x.p.env g o) (λ g o. g nothing) x.go x.out) x.out) x.s in
      dropped_shown P set grow n E_ x source (λ d f. paid P x.r n source d (more P (x.r + 208) (x.r + 256) n source d (omega arith) f)) ew (tree.If i1.0 i2.0 nothing_done) i2.1 i2.3
      (λ next onward.
      test_follows P set grow n E_ c (plain_left P n c (grow c) show_c) x piece_c i1.0 i1.1 i1.2 (later_on i1.1 i2.1 x.τ la lx) (λ g o. evaluates P a x.p.env g o) (λ g o. g nothing) i2.0 nothing_done next
      (λ d l. expression_dropped P set grow n E_ c (plain_left P n c (grow c) show_c) x piece_c a none_type piece_a i2.0 i1.1 i2.1 l i2.2 lx next onward d)
      (λ d l.
      worked P (x.r + left_over) (x.r + 256) 0 n (rest_run (x.go nothing) d.s) (next d.w d.t) (omega arith)
      (onward d.h d.types nothing 0 d.s d.w d.t d.grows d.extends d.holds tt)))

  -- `if`, also as a condition whose second arm is 0.
  zero_is : (b : Exp) → is_zero b ≡ true → (sp : Span) × (b ≡ Int sp zero)
  zero_is (Int sp zero) e = (sp, refl)
  zero_is (Int sp (suc k)) e = cc
  zero_is _ e = cc

  -- a part of a choice of this type has it too, where it is int
  int_fits : (t r : Ty) → Fits t r → r ≡ int_type → t ≡ int_type
  int_fits t _ has.the_same e = e
  int_fits _ _ has.nil_for e = cc

  module _ (sp : Span) (c a b : Exp) (show_c : Shown P n c) (show_a : Shown P n a) (show_b : Shown P n b) (x : Situation P n (If sp c a b)) where
    by_wanted : (w : Want) (z : Bool) → x.wanted ≡ w → is_zero b ≡ z → (cond : Cond) (σ1 : TranslationState) →
        condition_from (λ s. expression P.findings c want.Test x.p.within s) x.σ ≡ drawn cond σ1 →
        choice (is_conjunction w b) w cond (λ v. expression P.findings a v x.p.within) (λ v. expression P.findings b v x.p.within) σ1 ≡ drawn x.m x.τ → IsShown P n (If sp c a b) x
    by_wanted want.Value z ew ez cond σ1 made_c e = choosing.chosen_shown P set grow n sp c a b show_c show_a show_b x want.Value cond σ1 ew made_c e
    by_wanted (want.Into j) z ew ez cond σ1 made_c e = choosing.chosen_shown P set grow n sp c a b show_c show_a show_b x (want.Into j) cond σ1 ew made_c e
    by_wanted want.Dropped z ew ez cond σ1 made_c e = choosing.chosen_shown P set grow n sp c a b show_c show_a show_b x want.Dropped cond σ1 ew made_c e
    by_wanted want.Test false ew ez cond σ1 made_c e =
        choosing.chosen_shown P set grow n sp c a b show_c show_a show_b x want.Test cond σ1 ew made_c
        (ap (λ o. choice o want.Test cond (λ v. expression P.findings a v x.p.within) (λ v. expression P.findings b v x.p.within) σ1) (sym ez) ∙ e)
    by_wanted want.Test true ew ez cond σ1 made_c e =
        let E_ : Exp = If sp c a b in
        let ty = choosing.if_typed P set grow n sp c a b x.p.scope x.ty x.typed in
        let may = choosing.may_parts P set grow n sp c a b show_c show_a show_b x x.may_assign in
        let is_int : x.ty ≡ int_type = subst (λ o. IsWantable o x.ty) ew x.wantable in
        let a_int : ty.0 ≡ int_type = int_fits ty.0 x.ty ty.5 is_int in
        let piece_c : LeftPiece P set grow n E_ x c (plain_left P n c (grow c) show_c) int_type = record { begun = tt; typed = ty.2; words = x.words.0; covers = x.covers.0; may_assign = may.0 } in
        let piece_a : Piece P set grow n E_ x a int_type =
        record { shown = show_a; typed = subst (λ t. Has P.shapes P.notes a x.p.scope t) a_int ty.3; words = x.words.1; covers = x.covers.1; may_assign = may.1 } in
        let zero_b = zero_is b ez in
        let e2 : connective op.And want.Test cond (λ v. expression P.findings a v x.p.within) σ1 ≡ drawn x.m x.τ =
        ap (λ o. choice o want.Test cond (λ v. expression P.findings a v x.p.within) (λ v. expression P.findings b v x.p.within) σ1) (sym ez) ∙ e in
        let i = after_inv (expression P.findings a want.Test x.p.within σ1) _ x.m x.τ e2 in
        let made_a : condition_from (λ s. expression P.findings a want.Test x.p.within s) σ1 ≡ drawn (test_of i.0) i.1 = ap (λ o. after o (λ m s. drawn (test_of m) s)) i.2 in
        by_made P n E_ x (test (tree.Both cond (test_of i.0))) i.1 i.3 tt
        (λ go' onward.
        paid P x.r n _ _
        (both_follow E_ c a (plain_left P n c (grow c) show_c) x piece_c piece_a (λ g o. evaluates P b x.p.env g o) cond (test_of i.0) σ1 i.1 made_c made_a (subst (λ o. Later i.1 o) (ap state_in i.3) (later_none i.1)) ew go' onward
        (λ d.
        subst (λ o. FollowsHere P (x.r + 256) n (rest_run (evaluates P o x.p.env x.go x.out) d.s) (go' false d.w d.t)) (sym zero_b.1)
        (paid P (x.r + 256) n _ _
        (more P (x.r + 256) (x.r + 256 + 256) n (rest_run (x.go (int 0)) d.s) (go' false d.w d.t) (omega arith)
        (truth_goes E_ c a (plain_left P n c (grow c) show_c) x piece_c piece_a 0 ew go' onward d))))))

  pub if_shown : (sp : Span) (c a b : Exp) → Shown P n c → Shown P n a → Shown P n b → Shown P n (If sp c a b)
  if_shown sp c a b show_c show_a show_b x =
      let i = after_inv (condition_from (λ s. expression P.findings c want.Test x.p.within s) x.σ) _ x.m x.τ x.is_made in
      by_wanted sp c a b show_c show_a show_b x x.wanted (is_zero b) refl refl i.0 i.1 i.2 i.3
