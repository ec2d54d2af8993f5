-- The connectives `&` and `|`.
use Rattle.std.proofs.Common.{◌≡◌, ◌≢◌, ℕ, zero, suc, ◌+◌, ◌*◌, ◌^◌, ◌<◌, ◌≤◌, List, Bool, true, false, refl, sym, ap, ◌∙◌, arith, subst}
use Rattle.tg_base.specs.declared.ids.Span.{Span}
use Rattle.tg_syntax.specs.declared.trees.Op.{Op}
use Rattle.tg_syntax.specs.declared.trees.Op.TheVariants as op
use Rattle.tg_syntax.specs.Tree.{Exp, Binary}
use Rattle.tg_simulation.specs.Runs.{Run}
use Rattle.tg_simulation.specs.Agreement.{Source}
use Rattle.tg_semantics.specs.Values.{Value, int}
use Rattle.tg_semantics.specs.Passing.{Rest}
use Rattle.tg_semantics.specs.MachineRuns.{rest_run}
use Rattle.tg_typecheck.specs.Types.{Ty, int_type}
use Rattle.tg_typecheck.specs.Has.{Has, HasValues, Fits, the_same}
use Rattle.tg_tree.specs.Tree as tree
use Rattle.tg_tree.specs.Tree.{Temp, Const, Cond, Ts}
use Rattle.tg_translate.specs.declared.wants.Want.{Want}
use Rattle.tg_translate.specs.declared.wants.Want.TheVariants as want
use Rattle.tg_translate.specs.mirror.States.{TranslationState, drawn, Translates, after, with_frame, one_temp}
use Rattle.tg_translate.specs.mirror.Wants.{Made, value, done, test, test_of, put_in, dropped, condition_from}
use Rattle.tg_translate.specs.mirror.Translate.{expression, connective}
use Rattle.tg_translate_proof.specs.glue.Tables.{Later}
use Rattle.tg_translate_proof.specs.glue.Worlds.{temporary, nowhere}
use Rattle.tg_translate_proof.specs.glue.Situations.{Program, Setting}
use Rattle.tg_translate_proof.specs.glue.Shown.{Shown, IsShown, Situation, SituationBy, FollowsHere, evaluates, IsWantable}
use Rattle.tg_translate_proof.proofs.state.TranslationStates.{made_in, state_in, after_inv, later_none, later_on}
use Rattle.tg_translate_proof.proofs.invariant.Cases.{by_made}
use Rattle.tg_translate_proof.proofs.expressions.BinaryLeft.{LeftSide, plain_left, binary_by}
use Rattle.tg_translate_proof.proofs.invariant.Parts.{StatesGrow, Piece, LeftPiece, Behind, more, paid}
use Rattle.tg_translate_proof.proofs.state.ValueWords.{int_has_values}
use Rattle.tg_translate_proof.proofs.expressions.BinarySides.{may_left, may_right}
use Rattle.tg_translate_proof.proofs.expressions.IfBranches.{chooses, later_fresh, k0, test_follows, expression_into, expression_dropped, constant_into}
use Rattle.tg_translate_proof.proofs.expressions.IfBranches.{constant_dropped, FollowsInto, FollowsDropped, Starts, into_shown, dropped_shown, loose_shown}
use Rattle.tg_translate_proof.proofs.expressions.If.{both_follow, either_follow, truth_goes, later_side}

fits_int : (t : Ty) → t ≡ int_type → Fits int_type t
fits_int t e = subst (λ o. Fits int_type o) (sym e) the_same

module _ (P : Program) (set : Setting P) (grow : StatesGrow P) (n : ℕ) (sp : Span) (at : ℕ) (a b : Exp) (show_a : LeftSide P n a) (show_b : Shown P n b) where
  -- `a & b` is `if a then b else 0`
  module _ (x : SituationBy P n (Binary sp op.And at a b) (binary_by P op.And at b show_a.by)) (starts : show_a.here x.p x.h x.types x.s x.w x.t) (is_int : x.ty ≡ int_type) (type_a : Has P.shapes P.notes a x.p.scope int_type)
      (type_b : Has P.shapes P.notes b x.p.scope int_type) where
    abbrev and_E : Exp
    and_E = Binary sp op.And at a b

    abbrev and_left : LeftPiece P set grow n and_E x a show_a int_type
    and_left = record { begun = starts; typed = type_a; words = x.words.0; covers = x.covers.0; may_assign = may_left P x.p sp op.And at a b x.may_assign }

    abbrev and_right : Piece P set grow n and_E x b int_type
    and_right = record { shown = show_b; typed = type_b; words = x.words.1; covers = x.covers.1; may_assign = may_right P x.p sp op.And at a b x.may_assign }

    -- the run after the node's own cost
    abbrev and_run : Run Source
    and_run = rest_run (evaluates P a x.p.env (λ v. chooses P v (λ g o. evaluates P b x.p.env g o) (λ g o. g (int 0)) x.go x.out) x.out) x.s

    and_starts : Starts P set grow n and_E x and_run
    and_starts d f = paid P x.r n and_run d (more P (x.r + 208) (x.r + 256) n and_run d (omega arith) f)

    module _ (cond : Cond) (τa : TranslationState) (made_a : condition_from (λ s. show_a.by want.Test x.p.within s) x.σ ≡ drawn cond τa) where
      and_into : (into : ℕ) (σ1 : TranslationState) → Later τa σ1 → (m : Made) (τb : TranslationState) →
          expression P.findings b (want.Into (record { 0 = into })) x.p.within σ1 ≡ drawn m τb → Later τb x.τ → FollowsInto P set grow n and_E x and_run into (tree.If cond (put_in into m) (tree.Move into (Const 0)))
      and_into into σ1 drew m τb made last next onward =
          let lb : Later σ1 τb = grow b (want.Into (record { 0 = into })) x.p.within m σ1 τb made in
          test_follows P set grow n and_E a show_a x and_left cond τa made_a (later_on τa σ1 x.τ drew (later_on σ1 τb x.τ lb last)) (λ g o. evaluates P b x.p.env g o) (λ g o. g (int 0)) (put_in into m) (tree.Move into (Const 0)) next
          (λ d l. expression_into P set grow n and_E a show_a x and_left b int_type and_right (fits_int x.ty is_int) (subst (λ t. HasValues t) (sym is_int) int_has_values) into (put_in into m) σ1 τb (later_on x.σ τa σ1 l drew) (ap (λ o. after o (λ z s. drawn (put_in into z) s)) made) last next onward d)
          (λ d l. constant_into P set grow n and_E a show_a x and_left 0 (omega arith) is_int into next onward d)

      and_dropped : (m : Made) (τb : TranslationState) → expression P.findings b want.Dropped x.p.within τa ≡ drawn m τb → Later τb x.τ →
          FollowsDropped P set grow n and_E x and_run (tree.If cond (dropped m) (tree.Do (Const 0)))
      and_dropped m τb made last next onward =
          let lb : Later τa τb = grow b want.Dropped x.p.within m τa τb made in
          test_follows P set grow n and_E a show_a x and_left cond τa made_a (later_on τa τb x.τ lb last) (λ g o. evaluates P b x.p.env g o) (λ g o. g (int 0)) (dropped m) (tree.Do (Const 0)) next
          (λ d l. expression_dropped P set grow n and_E a show_a x and_left b int_type and_right (dropped m) τa τb l (ap (λ o. after o (λ z s. drawn (dropped z) s)) made) last next onward d)
          (λ d l. constant_dropped P set grow n and_E a show_a x and_left 0 next onward d)

      -- where a value is wanted, it stands in a temporary of its own
      and_fresh : (m : Made) (τb : TranslationState) → expression P.findings b (want.Into (record { 0 = τa.frame.temps })) x.p.within (with_frame (one_temp τa.frame) τa) ≡ drawn m τb →
          drawn (value (tree.After (tree.If cond (put_in τa.frame.temps m) (tree.Move τa.frame.temps (Const 0))) (Temp τa.frame.temps))) τb ≡ drawn x.m x.τ → IsShown P n and_E x
      and_fresh m τb made whole =
          let i = τa.frame.temps in
          let σ2 = with_frame (one_temp τa.frame) τa in
          let la : Later x.σ τa = later_side P set grow n a show_a x.p x.σ cond τa made_a in
          let lb : Later σ2 τb = grow b (want.Into (record { 0 = i })) x.p.within m σ2 τb made in
          let lx : Later τb x.τ = subst (λ s. Later τb s) (ap state_in whole) (later_none τb) in
          let idle : x.p.places (temporary x.p.scene.depth i) ≡ nowhere = x.ready.temps_free i la.temps (omega (arith, lb.temps, lx.temps)) in
          loose_shown P set grow n and_E x and_run and_starts i idle _ τb whole (and_into i σ2 (later_fresh τa) m τb made lx)

      and_by : (w : Want) → x.wanted ≡ w → connective op.And w cond (λ v. expression P.findings b v x.p.within) τa ≡ drawn x.m x.τ → IsShown P n and_E x
      and_by (want.Into j) ew e =
          let i = after_inv (expression P.findings b (want.Into j) x.p.within τa) _ x.m x.τ e in
          into_shown P set grow n and_E x and_run and_starts j ew _ i.1 i.3 (and_into j.0 τa (later_none τa) i.0 i.1 i.2 (subst (λ s. Later i.1 s) (ap state_in i.3) (later_none i.1)))
      and_by want.Dropped ew e =
          let i = after_inv (expression P.findings b want.Dropped x.p.within τa) _ x.m x.τ e in
          dropped_shown P set grow n and_E x and_run and_starts ew _ i.1 i.3 (and_dropped i.0 i.1 i.2 (subst (λ s. Later i.1 s) (ap state_in i.3) (later_none i.1)))
      and_by want.Value ew e =
          let i = after_inv (expression P.findings b (want.Into (record { 0 = τa.frame.temps })) x.p.within (with_frame (one_temp τa.frame) τa)) _ x.m x.τ e in
          and_fresh i.0 i.1 i.2 i.3
      and_by want.Test ew e =
          let i = after_inv (expression P.findings b want.Test x.p.within τa) _ x.m x.τ e in
          let made_b : condition_from (λ s. expression P.findings b want.Test x.p.within s) τa ≡ drawn (test_of i.0) i.1 = ap (λ o. after o (λ m s. drawn (test_of m) s)) i.2 in
          by_made P n and_E x (test (tree.Both cond (test_of i.0))) i.1 i.3 tt
          (λ go' onward.
          paid P x.r n _ _
          (both_follow P set grow n and_E a b show_a x and_left and_right (λ g o. g (int 0)) cond (test_of i.0) τa i.1 made_a made_b (subst (λ s. Later i.1 s) (ap state_in i.3) (later_none i.1)) ew go' onward (λ d. truth_goes P set grow n and_E a b show_a x and_left and_right 0 ew go' onward d)))

    pub and_from : IsShown P n and_E x
    and_from =
        let i = after_inv (show_a.by want.Test x.p.within x.σ) _ x.m x.τ x.is_made in
        and_by (test_of i.0) i.1 (ap (λ o. after o (λ m s. drawn (test_of m) s)) i.2) x.wanted refl i.3

  -- `a | b` is `if a then 1 else b`
  module _ (x : SituationBy P n (Binary sp op.Or at a b) (binary_by P op.Or at b show_a.by)) (starts : show_a.here x.p x.h x.types x.s x.w x.t) (is_int : x.ty ≡ int_type) (type_a : Has P.shapes P.notes a x.p.scope int_type)
      (type_b : Has P.shapes P.notes b x.p.scope int_type) where
    abbrev or_E : Exp
    or_E = Binary sp op.Or at a b

    abbrev or_left : LeftPiece P set grow n or_E x a show_a int_type
    or_left = record { begun = starts; typed = type_a; words = x.words.0; covers = x.covers.0; may_assign = may_left P x.p sp op.Or at a b x.may_assign }

    abbrev or_right : Piece P set grow n or_E x b int_type
    or_right = record { shown = show_b; typed = type_b; words = x.words.1; covers = x.covers.1; may_assign = may_right P x.p sp op.Or at a b x.may_assign }

    -- the run after the node's own cost
    abbrev or_run : Run Source
    or_run = rest_run (evaluates P a x.p.env (λ v. chooses P v (λ g o. g (int 1)) (λ g o. evaluates P b x.p.env g o) x.go x.out) x.out) x.s

    or_starts : Starts P set grow n or_E x or_run
    or_starts d f = paid P x.r n or_run d (more P (x.r + 208) (x.r + 256) n or_run d (omega arith) f)

    module _ (cond : Cond) (τa : TranslationState) (made_a : condition_from (λ s. show_a.by want.Test x.p.within s) x.σ ≡ drawn cond τa) where
      or_into : (into : ℕ) (σ1 : TranslationState) → Later τa σ1 → (m : Made) (τb : TranslationState) →
          expression P.findings b (want.Into (record { 0 = into })) x.p.within σ1 ≡ drawn m τb → Later τb x.τ → FollowsInto P set grow n or_E x or_run into (tree.If cond (tree.Move into (Const 1)) (put_in into m))
      or_into into σ1 drew m τb made last next onward =
          let lb : Later σ1 τb = grow b (want.Into (record { 0 = into })) x.p.within m σ1 τb made in
          test_follows P set grow n or_E a show_a x or_left cond τa made_a (later_on τa σ1 x.τ drew (later_on σ1 τb x.τ lb last)) (λ g o. g (int 1)) (λ g o. evaluates P b x.p.env g o) (tree.Move into (Const 1)) (put_in into m) next
          (λ d l. constant_into P set grow n or_E a show_a x or_left 1 (omega arith) is_int into next onward d)
          (λ d l. expression_into P set grow n or_E a show_a x or_left b int_type or_right (fits_int x.ty is_int) (subst (λ t. HasValues t) (sym is_int) int_has_values) into (put_in into m) σ1 τb (later_on x.σ τa σ1 l drew) (ap (λ o. after o (λ z s. drawn (put_in into z) s)) made) last next onward d)

      or_dropped : (m : Made) (τb : TranslationState) → expression P.findings b want.Dropped x.p.within τa ≡ drawn m τb → Later τb x.τ →
          FollowsDropped P set grow n or_E x or_run (tree.If cond (tree.Do (Const 1)) (dropped m))
      or_dropped m τb made last next onward =
          let lb : Later τa τb = grow b want.Dropped x.p.within m τa τb made in
          test_follows P set grow n or_E a show_a x or_left cond τa made_a (later_on τa τb x.τ lb last) (λ g o. g (int 1)) (λ g o. evaluates P b x.p.env g o) (tree.Do (Const 1)) (dropped m) next
          (λ d l. constant_dropped P set grow n or_E a show_a x or_left 1 next onward d)
          (λ d l. expression_dropped P set grow n or_E a show_a x or_left b int_type or_right (dropped m) τa τb l (ap (λ o. after o (λ z s. drawn (dropped z) s)) made) last next onward d)

      -- where a value is wanted, it stands in a temporary of its own
      or_fresh : (m : Made) (τb : TranslationState) → expression P.findings b (want.Into (record { 0 = τa.frame.temps })) x.p.within (with_frame (one_temp τa.frame) τa) ≡ drawn m τb →
          drawn (value (tree.After (tree.If cond (tree.Move τa.frame.temps (Const 1)) (put_in τa.frame.temps m)) (Temp τa.frame.temps))) τb ≡ drawn x.m x.τ → IsShown P n or_E x
      or_fresh m τb made whole =
          let i = τa.frame.temps in
          let σ2 = with_frame (one_temp τa.frame) τa in
          let la : Later x.σ τa = later_side P set grow n a show_a x.p x.σ cond τa made_a in
          let lb : Later σ2 τb = grow b (want.Into (record { 0 = i })) x.p.within m σ2 τb made in
          let lx : Later τb x.τ = subst (λ s. Later τb s) (ap state_in whole) (later_none τb) in
          let idle : x.p.places (temporary x.p.scene.depth i) ≡ nowhere = x.ready.temps_free i la.temps (omega (arith, lb.temps, lx.temps)) in
          loose_shown P set grow n or_E x or_run or_starts i idle _ τb whole (or_into i σ2 (later_fresh τa) m τb made lx)

      or_by : (w : Want) → x.wanted ≡ w → connective op.Or w cond (λ v. expression P.findings b v x.p.within) τa ≡ drawn x.m x.τ → IsShown P n or_E x
      or_by (want.Into j) ew e =
          let i = after_inv (expression P.findings b (want.Into j) x.p.within τa) _ x.m x.τ e in
          into_shown P set grow n or_E x or_run or_starts j ew _ i.1 i.3 (or_into j.0 τa (later_none τa) i.0 i.1 i.2 (subst (λ s. Later i.1 s) (ap state_in i.3) (later_none i.1)))
      or_by want.Dropped ew e =
          let i = after_inv (expression P.findings b want.Dropped x.p.within τa) _ x.m x.τ e in
          dropped_shown P set grow n or_E x or_run or_starts ew _ i.1 i.3 (or_dropped i.0 i.1 i.2 (subst (λ s. Later i.1 s) (ap state_in i.3) (later_none i.1)))
      or_by want.Value ew e =
          let i = after_inv (expression P.findings b (want.Into (record { 0 = τa.frame.temps })) x.p.within (with_frame (one_temp τa.frame) τa)) _ x.m x.τ e in
          or_fresh i.0 i.1 i.2 i.3
      or_by want.Test ew e =
          let i = after_inv (expression P.findings b want.Test x.p.within τa) _ x.m x.τ e in
          let made_b : condition_from (λ s. expression P.findings b want.Test x.p.within s) τa ≡ drawn (test_of i.0) i.1 = ap (λ o. after o (λ m s. drawn (test_of m) s)) i.2 in
          by_made P n or_E x (test (tree.Either cond (test_of i.0))) i.1 i.3 tt
          (λ go' onward.
          paid P x.r n _ _
          (either_follow P set grow n or_E a b show_a x or_left or_right cond (test_of i.0) τa i.1 made_a made_b (subst (λ s. Later i.1 s) (ap state_in i.3) (later_none i.1)) ew go' onward))

    pub or_from : IsShown P n or_E x
    or_from =
        let i = after_inv (show_a.by want.Test x.p.within x.σ) _ x.m x.τ x.is_made in
        or_by (test_of i.0) i.1 (ap (λ o. after o (λ m s. drawn (test_of m) s)) i.2) x.wanted refl i.3

-- Where the left side is translated as it is.
module _ (P : Program) (set : Setting P) (grow : StatesGrow P) (n : ℕ) (sp : Span) (at : ℕ) (a b : Exp) (show_a : Shown P n a) (show_b : Shown P n b) where
  pub and_shown : (x : Situation P n (Binary sp op.And at a b)) → x.ty ≡ int_type → Has P.shapes P.notes a x.p.scope int_type →
      Has P.shapes P.notes b x.p.scope int_type → IsShown P n (Binary sp op.And at a b) x
  and_shown x is_int type_a type_b = and_from P set grow n sp at a b (plain_left P n a (grow a) show_a) show_b x tt is_int type_a type_b

  pub or_shown : (x : Situation P n (Binary sp op.Or at a b)) → x.ty ≡ int_type → Has P.shapes P.notes a x.p.scope int_type →
      Has P.shapes P.notes b x.p.scope int_type → IsShown P n (Binary sp op.Or at a b) x
  or_shown x is_int type_a type_b = or_from P set grow n sp at a b (plain_left P n a (grow a) show_a) show_b x tt is_int type_a type_b
