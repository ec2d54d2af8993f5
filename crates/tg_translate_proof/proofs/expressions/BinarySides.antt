-- The two sides of an operator that evaluates both, the left one first.
use Rattle.std.proofs.Common.{◌≡◌, ◌≢◌, ℕ, ◌+◌, ◌<◌, ◌≤◌, List, Bool, true, false, refl, sym, ap, ◌∙◌, arith, subst, inl, inr}
use Rattle.std.specs.Prelude.{◌&&◌}
use Rattle.tg_base.specs.declared.ids.Span.{Span}
use Rattle.tg_syntax.specs.declared.trees.Op.{Op}
use Rattle.tg_syntax.specs.Tree.{Exp, Binary}
use Rattle.tg_simulation.specs.Runs.{Run}
use Rattle.tg_simulation.specs.Ran.{Ran, works}
use Rattle.tg_simulation.specs.Agreement.{Source}
use Rattle.tg_semantics.specs.Values.{Value}
use Rattle.tg_semantics.specs.Passing.{Rest}
use Rattle.tg_semantics.specs.MachineRuns.{rest_run}
use Rattle.tg_typecheck.specs.Types.{Ty, none_type}
use Rattle.tg_tree.specs.Tree.{Tx}
use Rattle.tg_tree.specs.Units.{Trees, hoisted_units}
use Rattle.tg_tree.specs.Actions.{World, Temps, Go}
use Rattle.tg_translate.specs.declared.homes.Within.{Within}
use Rattle.tg_translate.specs.declared.wants.Want.{Want}
use Rattle.tg_translate.specs.declared.wants.Want.TheVariants as want
use Rattle.tg_translate.specs.mirror.States.{TranslationState, drawn, Translates, after}
use Rattle.tg_translate.specs.mirror.Wants.{Made, value_of, value_from}
use Rattle.tg_translate.specs.mirror.Purity.{assigns_nothing}
use Rattle.tg_translate.specs.mirror.Translate.{expression}
use Rattle.tg_translate_proof.specs.glue.Tables.{Later}
use Rattle.tg_translate_proof.specs.glue.Worlds.{Stands, GrowsTo}
use Rattle.tg_translate_proof.specs.glue.Situations.{Program, Part, Setting, MayAssign, value_runs}
use Rattle.tg_translate_proof.specs.glue.Shown.{SituationBy, FollowsHere, evaluates}
use Rattle.tg_translate_proof.proofs.state.TranslationStates.{after_inv, later_on, later_value}
use Rattle.tg_translate_proof.proofs.invariant.Cases.{worked}
use Rattle.tg_translate_proof.proofs.expressions.BinaryLeft.{LeftSide}
use Rattle.tg_translate_proof.proofs.invariant.Parts.{StatesGrow, Piece, LeftPiece, Moment, Behind, at_begin, at_then, from, sub_value, first_value, more}
use Rattle.tg_translate_proof.proofs.invariant.Parts.{extends_on}
use Rattle.tg_translate_proof.proofs.invariant.Cases.{grows_on}
use Rattle.tg_translate_proof.proofs.state.ValueWords.{stands_grows}

pub hoisted_small : (b : Bool) → hoisted_units Trees b ≤ 2
hoisted_small true = omega arith
hoisted_small false = omega arith

pub both_true : (a b : Bool) → (a && b) ≡ true → (a ≡ true) × (b ≡ true)
both_true true b e = (refl, e)
both_true false b e = cc

pub may_left : (P : Program) (p : Part) (sp : Span) (o : Op) (at : ℕ) (a b : Exp) → MayAssign P p (Binary sp o at a b) → MayAssign P p a
may_left P p sp o at a b (inl e) = inl (both_true (assigns_nothing a) (assigns_nothing b) e).0
may_left P p sp o at a b (inr f) = inr f

pub may_right : (P : Program) (p : Part) (sp : Span) (o : Op) (at : ℕ) (a b : Exp) → MayAssign P p (Binary sp o at a b) → MayAssign P p b
may_right P p sp o at a b (inl e) = inl (both_true (assigns_nothing a) (assigns_nothing b) e).1
may_right P p sp o at a b (inr f) = inr f

module _ (P : Program) (set : Setting P) (grow : StatesGrow P) (n : ℕ) (E a b : Exp) (side : LeftSide P n a)
    {made_by : Want → Within → Translates Made} (x : SituationBy P n E made_by) where
  -- what the sides are made, one after the other, and what is made of them
  pub record Sides (F : Tx → Tx → Translates Made) : Type 0 where
    pub left : Tx
    pub τa : TranslationState
    pub made_left : value_from (λ s. side.by want.Value x.p.within s) x.σ ≡ drawn left τa
    pub right : Tx
    pub τb : TranslationState
    pub made_right : value_from (λ s. expression P.findings b want.Value x.p.within s) τa ≡ drawn right τb
    pub whole : F left right τb ≡ drawn x.m x.τ

  pub sides_of : (F : Tx → Tx → Translates Made) →
      after (side.by want.Value x.p.within x.σ)
      (λ m s. after (value_of m s) (λ l s1. after (value_from (λ s2. expression P.findings b want.Value x.p.within s2) s1) (λ r s3. F l r s3))) ≡ drawn x.m x.τ → Sides F
  sides_of F e =
      let i1 = after_inv (side.by want.Value x.p.within x.σ) _ x.m x.τ e in
      let i2 = after_inv (value_of i1.0 i1.1) _ x.m x.τ i1.3 in
      let i3 = after_inv (value_from (λ s. expression P.findings b want.Value x.p.within s) i2.1) _ x.m x.τ i2.3 in
      record {
        left = i2.0;
        τa = i2.1;
        made_left = ap (λ o. after o value_of) i1.2 ∙ i2.2;
        right = i3.0;
        τb = i3.1;
        made_right = i3.2;
        whole = i3.3;
      }

  value_later : (F : Tx → Tx → Translates Made) (q : Sides F) → Later q.τa q.τb
  value_later F q =
      let i = after_inv (expression P.findings b want.Value x.p.within q.τa) value_of q.right q.τb q.made_right in
      later_on q.τa i.1 q.τb (grow b want.Value x.p.within i.0 q.τa i.1 i.2) (later_value i.0 i.1 q.τb q.right i.3)

  -- Both are evaluated from so many units and four more on; what comes next has 108 more.
  pub sides_follow : (F : Tx → Tx → Translates Made) (q : Sides F) (ta tb : Ty) → LeftPiece P set grow n E x a side ta → Piece P set grow n E x b tb → ta ≢ none_type → tb ≢ none_type →
      Later q.τb x.τ → (r0 : ℕ) (le : x.r ≤ r0) (go : Value → Value → Rest) (next : ℕ → ℕ → World → Temps → Run Ran) →
      ((c : Behind P set grow n E x (at_begin P set grow n E x r0 le)) (v y : Value) (u k : ℕ) → Later x.σ q.τb →
      Stands c.h v ta u → Stands c.h y tb k → FollowsHere P (r0 + 108) n (rest_run (go v y) c.s) (next u k c.w c.t)) →
      FollowsHere P (r0 + 4) n (rest_run (evaluates P a x.p.env (λ v. evaluates P b x.p.env (λ y. go v y) x.out) x.out) x.s)
      (value_runs P x.p q.left x.p.around (λ u w1 t1. value_runs P x.p q.right x.p.around (λ k w2 t2. next u k w2 t2) w1 t1) x.w x.t)
  sides_follow F q ta tb piece_a piece_b able_a able_b last r0 le go next onward =
      let k0 = at_begin P set grow n E x r0 le in
      first_value P set grow n E x r0 le a side ta piece_a (r0 + 4) (omega arith) able_a q.left q.τa q.made_left (later_on q.τa q.τb x.τ (value_later F q) last)
      (λ v. evaluates P b x.p.env (λ y. go v y) x.out) (λ u w1 t1. value_runs P x.p q.right x.p.around (λ k w2 t2. next u k w2 t2) w1 t1)
      (λ c v u l st.
      let k1 = at_then P set grow n E x k0 c q.τa l (r0 + 52) (omega (arith, le)) in
      sub_value P set grow n E x k1 b tb piece_b (r0 + 56) (omega arith) able_b q.right q.τb q.made_right last
      (λ y. go v y) (λ k w2 t2. next u k w2 t2)
      (λ d y k l2 st2.
      more P (r0 + 108) (r0 + 52 + 56) n (rest_run (go v y) d.s) (next u k d.w d.t) (omega arith)
      (onward (record { h = d.h; types = d.types; s = d.s; w = d.w; t = d.t; grows = grows_on x.h c.h d.h c.grows d.grows; extends = extends_on x.types c.types d.types c.extends d.extends; holds = d.holds })
      v y u k (later_on x.σ q.τa q.τb l l2) (stands_grows c.h d.h v ta u d.grows st) st2)))
