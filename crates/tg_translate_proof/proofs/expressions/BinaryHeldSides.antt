-- The sides of an operator that are held both before it is applied.
use Rattle.std.proofs.Common.{◌≡◌, ℕ, ◌+◌, ◌<◌, ◌≤◌, List, Bool, true, false, refl, sym, ap, ◌∙◌, arith, subst}
use Rattle.tg_base.specs.declared.ids.Span.{Span}
use Rattle.tg_syntax.specs.declared.trees.Op.{Op}
use Rattle.tg_syntax.specs.Tree.{Exp, Binary}
use Rattle.tg_simulation.specs.Runs.{Run}
use Rattle.tg_simulation.specs.Agreement.{Source}
use Rattle.tg_semantics.specs.Values.{Value, SourceWorld}
use Rattle.tg_semantics.specs.Passing.{Rest}
use Rattle.tg_semantics.specs.MachineRuns.{rest_run}
use Rattle.tg_typecheck.specs.Types.{Ty, int_type}
use Rattle.tg_typecheck.specs.Has.{Has}
use Rattle.tg_tree.specs.Tree as tree
use Rattle.tg_tree.specs.Tree.{Tx, Const, Address, Temp, FrameAddress, Load, LoadByte, Call, Service, After, Stms, no_stms}
use Rattle.tg_tree.specs.glue.Lists.{join_stms}
use Rattle.tg_tree.specs.Actions.{World, Temps, Next}
use Rattle.tg_translate.specs.declared.operands.Operand.{Operand}
use Rattle.tg_translate.specs.declared.wants.Want.TheVariants as want
use Rattle.tg_translate.specs.mirror.States.{TranslationState, Translates, drawn, after}
use Rattle.tg_translate.specs.mirror.Wants.{Made, value, done, test, value_of}
use Rattle.tg_translate.specs.mirror.Constructs.{operand, hold, Held}
use Rattle.tg_translate.specs.mirror.Purity.{assigns_nothing}
use Rattle.tg_translate.specs.mirror.Translate.{expression}
use Rattle.tg_translate_proof.specs.glue.Tables.{Later}
use Rattle.tg_translate_proof.specs.glue.Worlds.{Holdings, GrowsTo, Stands, temporary, IsOf}
use Rattle.tg_translate_proof.specs.glue.Situations.{Program, Part, Setting, Holds, Extends, statements_run}
use Rattle.tg_translate_proof.specs.glue.Shown.{Shown, SituationBy, FollowsHere, IsNamed, left_over, evaluates}
use Rattle.tg_translate_proof.proofs.state.TranslationStates.{made_in, after_inv, later_none, later_on, later_value}
use Rattle.tg_translate_proof.proofs.expressions.BinaryLeft.{LeftSide, binary_by}
use Rattle.tg_translate_proof.proofs.invariant.Parts.{StatesGrow, LeftPiece, first_value, first_named, from, more, extends_none, ready_part}
use Rattle.tg_translate_proof.proofs.state.ValueWords.{int_has_values}
use Rattle.tg_translate_proof.proofs.expressions.BinarySides.{Sides, may_left, may_right}
use Rattle.tg_translate_proof.proofs.invariant.Asked.{Standing, Asked, asked_named, asked_source}
use Rattle.tg_translate_proof.proofs.invariant.HeldOperands.{Holding, HeldAs, holding, holding_plain, OperandIs, IsAnother, a_number, a_temp, always, another, held_as, kept_later}
use Rattle.tg_translate_proof.proofs.invariant.HeldLeft.{LeftHeld, as_number, as_variable, as_kept, left_extra, left_operand, left_state, both_follow}

-- how a left side is held
pub side_held : (direct : Bool) (x : Tx) → LeftHeld direct x
side_held direct (Const n) = as_number n
side_held true (Temp i) = as_variable i refl
side_held false (Temp i) = as_kept (Temp i) (λ b s. refl)
side_held direct (Address l) = as_kept (Address l) (λ b s. refl)
side_held direct FrameAddress = as_kept FrameAddress (λ b s. refl)
side_held direct (tree.Binary o x y) = as_kept (tree.Binary o x y) (λ b s. refl)
side_held direct (Load x) = as_kept (Load x) (λ b s. refl)
side_held direct (LoadByte x) = as_kept (LoadByte x) (λ b s. refl)
side_held direct (Call l xs) = as_kept (Call l xs) (λ b s. refl)
side_held direct (Service n x) = as_kept (Service n x) (λ b s. refl)
side_held direct (After y x) = as_kept (After y x) (λ b s. refl)

side_is : (direct : Bool) (x : Tx) (s : TranslationState) (lh : LeftHeld direct x) →
    hold direct no_stms x s ≡ drawn (record { before = left_extra direct x s lh; operand = left_operand direct x s lh }) (left_state direct x s lh)
side_is direct _ s (as_number n) = refl
side_is direct _ s (as_variable i e) = ap (λ o. hold o no_stms (Temp i) s) e
side_is direct x s (as_kept _ e) = e no_stms s

pub side_later : (direct : Bool) (x : Tx) (s : TranslationState) (lh : LeftHeld direct x) → Later s (left_state direct x s lh)
side_later direct _ s (as_number n) = later_none s
side_later direct _ s (as_variable i e) = later_none s
side_later direct x s (as_kept _ e) = kept_later s

another_later : (y : Tx) (s : TranslationState) (hd : Holding y) → IsAnother y hd → s.frame.temps < (held_as y s hd).after.frame.temps
another_later _ s (a_number n) an = absurd an
another_later _ s (a_temp i) an = absurd an
another_later y s (always _) an = omega arith
another_later y s (another _ e) an = omega arith

-- a temporary that an expression is made is a variable's
named_temp : (P : Program) (n r : ℕ) (p : Part) (s : SourceWorld) (go : Value → Rest) (source : Run Source) (m : Made) (s1 s2 : TranslationState) (y : Tx) (i : ℕ) →
    value_of m s1 ≡ drawn y s2 → y ≡ Temp i → IsNamed P n r p s go source m → (place : ℕ) × IsOf place (p.places (temporary p.scene.depth i))
named_temp P n r p s go source (value z) s1 s2 y i e is named =
    let x = subst (λ o. IsNamed P n r p s go source (value o)) (ap made_in e ∙ is) named in
    (x.place, x.is_of)
named_temp P n r p s go source (done z) s1 s2 y i e is named = let f = ap made_in e ∙ is in cc
named_temp P n r p s go source (test c) s1 s2 y i e is named = let f = ap made_in e ∙ is in cc

module _ (P : Program) (set : Setting P) (grow : StatesGrow P) (n : ℕ) (sp : Span) (o : Op) (at : ℕ) (a b : Exp) (show_a : LeftSide P n a) (show_b : Shown P n b)
    (x : SituationBy P n (Binary sp o at a b) (binary_by P o at b show_a.by)) (starts : show_a.here x.p x.h x.types x.s x.w x.t) (type_a : Has P.shapes P.notes a x.p.scope int_type) (type_b : Has P.shapes P.notes b x.p.scope int_type) where
  abbrev pub operator : Exp
  operator = Binary sp o at a b

  abbrev pub direct : Bool
  direct = assigns_nothing b

  abbrev left_piece : LeftPiece P set grow n operator x a show_a int_type
  left_piece = record { begun = starts; typed = type_a; words = x.words.0; covers = x.covers.0; may_assign = may_left P x.p sp o at a b x.may_assign }

  -- what is made of both sides, where they are held
  abbrev pub held_first : (Stms → Tx → Tx → Translates Made) → Tx → Tx → Translates Made
  held_first last l r s =
      after (hold direct no_stms l s) (λ (h : Held) s1. after (hold true h.before r s1) (λ (g : Held) s2. last g.before (operand h.operand) (operand g.operand) s2))

  abbrev pub BothSides : (Stms → Tx → Tx → Translates Made) → Type 0
  BothSides last = Sides P set grow n operator a b show_a x (held_first last)

  -- where a side stands
  abbrev side_stands : (σ : TranslationState) → Later x.σ σ → Later σ x.τ → (r : ℕ) → x.r ≤ r → Standing P set grow n
  side_stands σ first last r le = record {
    p = x.p;
    σ = σ;
    τ = x.τ;
    h = x.h;
    types = x.types;
    r = r;
    out = x.out;
    s = x.s;
    w = x.w;
    t = x.t;
    ready = ready_part P set x.p x.types x.types x.σ x.τ σ x.τ (extends_none x.types) first last (later_none x.τ) x.ready;
    outward = λ g ms s2 w2 t2 l g2 e2 h2.
        more P (x.r + left_over) (r + left_over) n (rest_run x.out s2) (x.p.around.out x.p.within.leave w2 t2) (omega (arith, le)) (x.outward g ms s2 w2 t2 l g2 e2 h2);
    holds = x.holds;
  }

  module _ (last : Stms → Tx → Tx → Translates Made) (q : BothSides last) where
    abbrev pub left_as : LeftHeld direct q.left
    left_as = side_held direct q.left

    abbrev pub between : TranslationState
    between = left_state direct q.left q.τb left_as

    abbrev pub left_before : Stms
    left_before = left_extra direct q.left q.τb left_as

    abbrev pub left_is : Operand
    left_is = left_operand direct q.left q.τb left_as

    abbrev pub right_as : HeldAs q.right between (holding q.right)
    right_as = held_as q.right between (holding q.right)

    pub whole_held : last (join_stms left_before right_as.extra) (operand left_is) (operand right_as.operand) right_as.after ≡ drawn x.m x.τ
    whole_held =
        sym (ap (λ z. after z (λ (h : Held) s1. after (hold true h.before q.right s1) (λ (g : Held) s2. last g.before (operand h.operand) (operand g.operand) s2))) (side_is direct q.left q.τb left_as) ∙
        ap (λ z. after z (λ (g : Held) s2. last g.before (operand left_is) (operand g.operand) s2)) (right_as.is (holding_plain q.right) left_before)) ∙ q.whole

    pub left_later : Later x.σ q.τa
    left_later =
        let i = after_inv (show_a.by want.Value x.p.within x.σ) value_of q.left q.τa q.made_left in
        later_on x.σ i.1 q.τa (show_a.grows want.Value x.p.within i.0 x.σ i.1 i.2) (later_value i.0 i.1 q.τa q.left i.3)

    pub right_later : Later q.τa q.τb
    right_later =
        let i = after_inv (expression P.findings b want.Value x.p.within q.τa) value_of q.right q.τb q.made_right in
        later_on q.τa i.1 q.τb (grow b want.Value x.p.within i.0 q.τa i.1 i.2) (later_value i.0 i.1 q.τb q.right i.3)

    pub both_later : Later q.τb right_as.after
    both_later = later_on q.τb between right_as.after (side_later direct q.left q.τb left_as) right_as.later

    module _ (rest : Later right_as.after x.τ) where
      pub left_named : (i : ℕ) → q.left ≡ Temp i → (place : ℕ) × IsOf place (x.p.places (temporary x.p.scene.depth i))
      left_named i is =
          let k = after_inv (show_a.by want.Value x.p.within x.σ) value_of q.left q.τa q.made_left in
          named_temp P n x.r x.p x.s (λ v. x.out) (from P set grow n operator x a (λ v. x.out) x.s) k.0 k.1 q.τa q.left i k.3 is
          (first_named P set grow n operator x x.r (omega arith) a show_a int_type left_piece want.Value k.0 k.1 (λ v. x.out) int_has_values
          (later_on k.1 q.τa x.τ (later_value k.0 k.1 q.τa q.left k.3) (later_on q.τa q.τb x.τ right_later (later_on q.τb right_as.after x.τ both_later rest))) k.2)

      pub right_named : (i : ℕ) → q.right ≡ Temp i → (place : ℕ) × IsOf place (x.p.places (temporary x.p.scene.depth i))
      right_named i is =
          let k = after_inv (expression P.findings b want.Value x.p.within q.τa) value_of q.right q.τb q.made_right in
          let st = side_stands q.τa left_later (later_on q.τa q.τb x.τ right_later (later_on q.τb right_as.after x.τ both_later rest)) x.r (omega arith) in
          let asked : Asked P set grow n st b int_type = record { shown = show_b; typed = type_b; words = x.words.1; covers = x.covers.1; may_assign = may_right P x.p sp o at a b x.may_assign } in
          named_temp P n x.r x.p x.s (λ v. x.out) (asked_source P set grow n st b int_type asked (λ v. x.out)) k.0 k.1 q.τb q.right i k.3 is
          (asked_named P set grow n st b int_type asked (λ v. x.out) want.Value k.0 k.1 int_has_values
          (later_on k.1 q.τb x.τ (later_value k.0 k.1 q.τb q.right k.3) (later_on q.τb right_as.after x.τ both_later rest)) k.2)

      -- both operands, each with its word
      abbrev begun : Standing P set grow n
      begun = side_stands x.σ (later_none x.σ) (later_on x.σ q.τa x.τ left_later (later_on q.τa q.τb x.τ right_later (later_on q.τb right_as.after x.τ both_later rest))) x.r (omega arith)

      abbrev pub OperandsOnward : (Value → Value → Rest) → (Operand → Operand → Next) → Type 0
      OperandsOnward go next =
          (g : Holdings) (ms : List Ty) (v y : Value) (u z : ℕ) (s : SourceWorld) (w : World) (t : Temps) (l r : Operand) → GrowsTo x.h g → Extends x.types ms → Holds P x.p g ms s w t →
          Stands g v int_type u → Stands g y int_type z → OperandIs l u t → OperandIs r z t → FollowsHere P (x.r + 290) n (rest_run (go v y) s) (next l r w t)

      pub sides_held : (go : Value → Value → Rest) (next : Operand → Operand → Next) → OperandsOnward go next →
          FollowsHere P (x.r + 255) n (rest_run (evaluates P a x.p.env (λ v. evaluates P b x.p.env (λ y. go v y) x.out) x.out) x.s)
          (statements_run P x.p left_before x.p.around (λ w1 t1. statements_run P x.p right_as.extra x.p.around (next left_is right_as.operand) w1 t1) x.w x.t)
      sides_held go next onward =
          let j = after_inv (expression P.findings b want.Value x.p.within q.τa) value_of q.right q.τb q.made_right in
          let whole_later : Later q.τa x.τ = later_on q.τa q.τb x.τ right_later (later_on q.τb right_as.after x.τ both_later rest) in
          let source : Run Source = rest_run (evaluates P a x.p.env (λ v. evaluates P b x.p.env (λ y. go v y) x.out) x.out) x.s in
          let new : IsAnother q.right (holding q.right) → between.frame.temps < x.τ.frame.temps = λ an. let f = another_later q.right between (holding q.right) an in let g = rest.temps in omega (arith, f, g) in
          more P (x.r + 249 + 4 + 2) (x.r + 255) n source _ (omega arith)
          (both_follow P set grow n begun b int_type int_type int_has_values show_b type_b x.words.1 x.covers.1 (may_right P x.p sp o at a b x.may_assign)
          q.τa j.1 q.τb between j.0 q.right j.2 j.3 left_later (side_later direct q.left q.τb left_as) (later_on between right_as.after x.τ right_as.later rest) (holding q.right) new
          (x.r + 290) (omega arith) go next direct q.left left_as q.τb (x.r + 249 + 4) source (later_none q.τb) refl
          (λ go2 on.
          first_value P set grow n operator x (x.r + 249) (omega arith) a show_a int_type left_piece (x.r + 249 + 4) (omega arith) int_has_values
          q.left q.τa q.made_left whole_later (λ v. evaluates P b x.p.env (λ y. go v y) x.out) go2
          (λ c v u l is. more P (x.r + 290 + 6) (x.r + 249 + 56) n _ _ (omega arith) (on c.h c.types v u c.s c.w c.t c.grows c.extends c.holds is)))
          (λ _. left_named) (λ f. f)
          (λ g ms v y u z s w t l r gg ee hh sv sy il ir right. onward g ms v y u z s w t l r gg ee hh sv sy il ir))
