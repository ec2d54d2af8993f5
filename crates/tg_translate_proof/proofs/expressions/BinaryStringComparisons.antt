-- Comparisons of strings: the runtime tells their order, and the tree compares it with 0.
use Rattle.std.proofs.Common.{◌≡◌, ◌≢◌, ℕ, suc, ◌+◌, ◌*◌, ◌<◌, ◌≤◌, ◌==◌, List, [], ◌∷◌, length, Option, Some, None, Bool, true, false, refl, sym, ap, ◌∙◌, arith, subst, inl, inr, eq-eqb, ne_eqb}
use Rattle.std.specs.Prelude.{if◌then◌else◌, nat_lt, ◌&&◌, ◌||◌}
use Rattle.std.specs.Str.{bytes_eq}
use Rattle.std.proofs.lemmas.Bool.{cases_order, lt-ltb, le-ltb}
use Rattle.tg_base.specs.declared.ids.Span.{Span}
use Rattle.tg_syntax.specs.declared.trees.Op.{Op}
use Rattle.tg_syntax.specs.declared.trees.Op.TheVariants as op
use Rattle.tg_syntax.specs.Tree.{Exp, Exps, no_exps, exp, Binary}
use Rattle.tg_simulation.specs.Runs.{Run}
use Rattle.tg_simulation.specs.Ran.{Ran}
use Rattle.tg_simulation.specs.Changes.{costs}
use Rattle.tg_simulation.specs.Agreement.{Source}
use Rattle.tg_simulation.proofs.Following.{follows_working, follows_along}
use Rattle.tg_semantics.specs.Values.{Value, string, Env, SourceWorld, add_weight, drop_weight}
use Rattle.tg_semantics.specs.Evaluation as E
use Rattle.tg_semantics.specs.laws.Laws.{behind}
use Rattle.tg_semantics.specs.Levels.{runtime_weight}
use Rattle.tg_semantics.specs.Operators.{comparison as compared, string_less, truth}
use Rattle.tg_semantics.specs.MachineRuns.{rest_run}
use Rattle.tg_semantics.specs.Passing.{Rest, Passing, passing}
use Rattle.tg_typecheck.specs.declared.notes.Means.{Means}
use Rattle.tg_typecheck.specs.declared.notes.Means.TheVariants as means
use Rattle.tg_typecheck.specs.Types.{Ty, int_type, string_type}
use Rattle.tg_typecheck.specs.Has.{Says, Compares, the_same}
use Rattle.tg_tree.specs.Tree as tree
use Rattle.tg_tree.specs.Tree.{Tx, Txs, tx, no_txs, Const}
use Rattle.tg_tree.specs.Units.{Trees}
use Rattle.tg_tree.specs.Operators.{holds}
use Rattle.tg_tree.specs.Actions.{World, Temps, Go}
use Rattle.tg_runtime.specs.declared.routines.Routine.TheVariants as routine
use Rattle.tg_runtime.specs.mirror.Labels.{label_of}
use Rattle.tg_runtime.specs.mirror.Routines.{minus_one}
use Rattle.tg_runtime_proof.specs.laws.Serving.{order_of}
use Rattle.tg_translate.specs.declared.wants.Want.{Want}
use Rattle.tg_translate.specs.declared.wants.Want.TheVariants as want
use Rattle.tg_translate.specs.mirror.Choices.{left_want}
use Rattle.tg_translate.specs.mirror.Constructs.{comparison, relation, call_routine, two_txs}
use Rattle.tg_translate.specs.mirror.Purity.{assigns_nothing}
use Rattle.tg_translate.specs.mirror.Scopes.{compares_strings}
use Rattle.tg_translate.specs.mirror.States.{TranslationState, drawn, Translates, after, give}
use Rattle.tg_translate.specs.mirror.Translate.{expression, with_left}
use Rattle.tg_translate.specs.mirror.Wants.{Made, test, value_of, value_from}
use Rattle.tg_correctness.specs.laws.Laws.{tree_work}
use Rattle.tg_translate_proof.specs.glue.Tables.{Later}
use Rattle.tg_translate_proof.specs.glue.Worlds.{Holdings, Stands}
use Rattle.tg_translate_proof.specs.glue.Situations.{Program, Setting, Holds, test_runs, value_runs, values_run, calling, frames_at}
use Rattle.tg_translate_proof.specs.glue.Shown.{Situation, IsShown, FollowsHere, left_over, evaluates, Onward, IsTold}
use Rattle.tg_translate_proof.proofs.state.TranslationStates.{after_inv, state_in, later_none}
use Rattle.tg_translate_proof.proofs.invariant.Cases.{by_made, truth_is_set}
use Rattle.tg_translate_proof.proofs.expressions.BinaryLeft.{LeftSide, plain_left}
use Rattle.tg_translate_proof.proofs.invariant.Parts.{StatesGrow, Piece, Moment, Behind, at_begin, more, paid}
use Rattle.tg_translate_proof.proofs.state.ValueWords.{stands_string, told_truth, string_has_values}
use Rattle.tg_translate_proof.proofs.expressions.BinarySides.{Sides, sides_of}
use Rattle.tg_translate_proof.proofs.expressions.CallArguments as arguments
use Rattle.tg_translate_proof.proofs.expressions.CallArguments.{AreMade, made_none, made_more, arguments_follow, StandAll, evaluates_all}
use Rattle.tg_translate_proof.proofs.expressions.RuntimeCalls.{top_of}
use Rattle.tg_translate_proof.proofs.expressions.CallStandard.{first_of, none_of}
use Rattle.tg_translate_proof.proofs.expressions.StandardFunctions.{Owns, CallFollows, compare_acts, closed}

-- Of two strings they are the same, or one of them is less.

four : (M : Bool → Bool → Bool → Bool → Type 0) (a b c d p q i j : Bool) → a ≡ p → b ≡ q → c ≡ i → d ≡ j → M p q i j → M a b c d
four M a b c d p q i j ea eb ec ed m =
    subst (λ o. M o b c d) (sym ea) (subst (λ o. M p o c d) (sym eb) (subst (λ o. M p q o d) (sym ec)
    (subst (λ o. M p q i o) (sym ed) m)))

pub order_cases : (y z : List ℕ) (Q : (same less greater : Bool) → Type 0) → Q true false false → Q false true false →
    Q false false true → Q (bytes_eq y z) (string_less y z) (string_less z y)
order_cases [] [] Q same less greater = same
order_cases [] (v ∷ z) Q same less greater = less
order_cases (u ∷ y) [] Q same less greater = greater
order_cases (u ∷ y) (v ∷ z) Q same less greater =
    let M : Bool → Bool → Bool → Bool → Type 0 = λ p q i j.
    Q (p && bytes_eq y z) (i || (p && string_less y z)) (j || (q && string_less z y)) in
    let rest = order_cases y z Q same less greater in
    elim (cases_order u v) [
      | inl e ↦
          four M (u == v) (v == u) (nat_lt u v) (nat_lt v u) true true false false (eq-eqb u v e) (eq-eqb v u (sym e))
          (le-ltb u v (omega (arith, e))) (le-ltb v u (omega (arith, e))) rest
      | inr (inl lt) ↦
          four M (u == v) (v == u) (nat_lt u v) (nat_lt v u) false false true false (ne_eqb u v (λ e. omega (arith, e, lt)))
          (ne_eqb v u (λ e. omega (arith, e, lt))) (lt-ltb u v lt) (le-ltb v u (omega (arith, lt))) less
      | inr (inr gt) ↦
          four M (u == v) (v == u) (nat_lt u v) (nat_lt v u) false false false true (ne_eqb u v (λ e. omega (arith, e, gt)))
          (ne_eqb v u (λ e. omega (arith, e, gt))) (le-ltb u v (omega (arith, gt))) (lt-ltb v u gt) greater
    ]

-- A comparison holds as the order compares with 0.

abbrev AsOrder : Op → (same less greater : Bool) → Type 0
AsOrder o same less greater =
    compared o same less greater ≡ Some (holds (relation o) (if same then 0 else if less then minus_one else 1) 0)

as_order : (o : Op) → Compares o → AsOrder o true false false × AsOrder o false true false × AsOrder o false false true
as_order op.Equal c = (refl, refl, refl)
as_order op.NotEqual c = (refl, refl, refl)
as_order op.Less c = (refl, refl, refl)
as_order op.LessEqual c = (refl, refl, refl)
as_order op.Greater c = (refl, refl, refl)
as_order op.GreaterEqual c = (refl, refl, refl)
as_order op.Plus c = let e = (c true true true).1 in cc
as_order op.Minus c = let e = (c true true true).1 in cc
as_order op.Times c = let e = (c true true true).1 in cc
as_order op.Divide c = let e = (c true true true).1 in cc
as_order op.And c = let e = (c true true true).1 in cc
as_order op.Or c = let e = (c true true true).1 in cc

pub told_order : (o : Op) → Compares o → (y z : List ℕ) →
    compared o (bytes_eq y z) (string_less y z) (string_less z y) ≡ Some (holds (relation o) (order_of y z) 0)
told_order o c y z =
    let all = as_order o c in
    order_cases y z (λ same less greater. AsOrder o same less greater) all.0 all.1 all.2

-- An operator that compares takes both of its sides, there and here.

abbrev pub both_made : Op → Option Means → Made → (right : Want → Translates Made) → Translates Made
both_made o meaning left right s =
    after (value_of left s) (λ l s1. after (value_from (right want.Value) s1)
    (λ r. give (test (comparison o (compares_strings meaning) l r))))

pub made_both : (o : Op) → Compares o → (meaning : Option Means) (direct : Bool) (w : Want) (left : Made) (right : Want → Translates Made)
    (s : TranslationState) → with_left o meaning direct w left right s ≡ both_made o meaning left right s
made_both op.Equal c meaning direct w left right s = refl
made_both op.NotEqual c meaning direct w left right s = refl
made_both op.Less c meaning direct w left right s = refl
made_both op.LessEqual c meaning direct w left right s = refl
made_both op.Greater c meaning direct w left right s = refl
made_both op.GreaterEqual c meaning direct w left right s = refl
made_both op.Plus c meaning direct w left right s = let e = (c true true true).1 in cc
made_both op.Minus c meaning direct w left right s = let e = (c true true true).1 in cc
made_both op.Times c meaning direct w left right s = let e = (c true true true).1 in cc
made_both op.Divide c meaning direct w left right s = let e = (c true true true).1 in cc
made_both op.And c meaning direct w left right s = let e = (c true true true).1 in cc
made_both op.Or c meaning direct w left right s = let e = (c true true true).1 in cc

pub wants_value : (o : Op) → Compares o → left_want o ≡ want.Value
wants_value op.And c = let e = (c true true true).1 in cc
wants_value op.Or c = let e = (c true true true).1 in cc
wants_value _ c = refl

module _ (P : Program) where
  abbrev pub operates : Op → Value → Value → (Value → Rest) → Rest → Rest
  operates o v y go out = E.operate Passing (passing P.heap P.stack) o v y go out

  pub source_both : (o : Op) → Compares o → (b : Exp) (env : Env) (v : Value) (go : Value → Rest) (out : Rest) →
      E.with_left Passing (passing P.heap P.stack) o v (λ g o1. evaluates P b env g o1) go out ≡
      evaluates P b env (λ y. operates o v y go out) out
  source_both op.And c b env v go out = let e = (c true true true).1 in cc
  source_both op.Or c b env v go out = let e = (c true true true).1 in cc
  source_both _ c b env v go out = refl

  pub functions_are : (f g : Value → Rest) → ((v : Value) → f v ≡ g v) → f ≡ g
  functions_are f g h = λ i v. h v i

module _ (P : Program) (set : Setting P) (grow : StatesGrow P) (owns : Owns P) (n : ℕ) (sp : Span) (o : Op) (comp : Compares o)
    (at : ℕ) (a b : Exp) (says : Says P.notes at means.Content) (x : Situation P n (Binary sp o at a b))
    (is_int : x.ty ≡ int_type)
    (piece_a : Piece P set grow n (Binary sp o at a b) x a string_type)
    (piece_b : Piece P set grow n (Binary sp o at a b) x b string_type) where
  abbrev E_ : Exp
  E_ = Binary sp o at a b

  abbrev makes : Tx → Tx → Translates Made
  makes l r = give (test (comparison o (compares_strings (P.findings.meaning at)) l r))

  abbrev left_side : LeftSide P n a
  left_side = plain_left P n a (grow a) piece_a.shown

  sides : Sides P set grow n E_ a b left_side x makes
  sides =
      let right : Want → Translates Made = λ v. expression P.findings b v x.p.within in
      let meaning = P.findings.meaning at in
      let i = after_inv (expression P.findings a (left_want o) x.p.within x.σ)
      (λ left. with_left o meaning (assigns_nothing b) x.wanted left right) x.m x.τ x.is_made in
      sides_of P set grow n E_ a b left_side x makes
      (ap (λ v. after (expression P.findings a v x.p.within x.σ) (λ m s. both_made o meaning m right s))
      (sym (wants_value o comp)) ∙
      (ap (λ d. after d (λ m s. both_made o meaning m right s)) i.2 ∙
      (sym (made_both o comp meaning (assigns_nothing b) x.wanted i.0 right i.1) ∙ i.3)))

  -- both sides, as arguments of the runtime's function
  abbrev both : Exps
  both = exp a (exp b no_exps)

  abbrev operated : List Value → Rest
  operated (v ∷ y ∷ []) = operates P o v y x.go x.out
  operated _ = x.out

  source_is : (i : ℕ) → rest_run (evaluates P E_ x.p.env x.go x.out) x.s i ≡
      costs 1 (rest_run (evaluates_all P set grow n E_ x both operated) x.s i)
  source_is i =
      ap (λ (g : Value → Rest). costs 1 (rest_run (evaluates P a x.p.env g x.out) x.s i))
      (functions_are P (λ v. E.with_left Passing (passing P.heap P.stack) o v (λ g o1. evaluates P b x.p.env g o1) x.go x.out)
      (λ v. evaluates P b x.p.env (λ y. operates P o v y x.go x.out) x.out)
      (λ v. source_both P o comp b x.p.env v x.go x.out))

  abbrev start : Moment P set grow n E_ x
  start = at_begin P set grow n E_ x (x.r + 238) (omega arith)

  -- the tree compares what the runtime gives with 0
  abbrev tests : Go Bool → Go ℕ
  tests go' u w1 t1 = value_runs P x.p (Const 0) x.p.around (λ v w2 t2. go' (holds (relation o) u v) w2 t2) w1 t1

  abbrev enters : Go Bool → Go (List ℕ)
  enters go' us w1 t1 =
      calling P (frames_at P x.p) (label_of routine.Compare) us (top_of P set x.p) (λ v w2. tests go' v w2 t1) w1

  abbrev Goes : Go Bool → Type 0
  Goes go' =
      Onward P {A = Bool} n (x.r + left_over) x.p x.h x.types (λ g v b. IsTold x.wanted v x.ty b) x.go go'

  -- what both sides do with the two strings
  compared_so : (go' : Go Bool) → Goes go' → (e : Behind P set grow n E_ x start) (vs : List Value) (us : List ℕ) →
      StandAll e.h vs (string_type ∷ string_type ∷ []) us →
      FollowsHere P (x.r + 340) n (rest_run (operated vs) e.s) (enters go' us e.w e.t)
  compared_so go' onward e vs us all =
      let f = first_of e.h vs string_type (string_type ∷ []) us all in
      let g = first_of e.h f.later_values string_type [] f.later_words f.rest in
      let none = none_of e.h g.later_values g.later_words g.rest in
      let st = stands_string e.h f.v f.u f.stands in
      let st2 = stands_string e.h g.v g.u g.stands in
      let y : List ℕ = st.0 in
      let z : List ℕ = st2.0 in
      let b : Bool = holds (relation o) (order_of y z) 0 in
      let own = owns x.p e.h e.types e.s e.w e.t e.holds in
      let c : Run Source = rest_run (operated (string y ∷ string z ∷ [])) e.s in
      let d : Run Ran = enters go' (f.u ∷ g.u ∷ []) e.w e.t in
      subst (λ l. FollowsHere P (x.r + 340) n (rest_run (operated l) e.s) (enters go' us e.w e.t))
      (sym (f.values_are ∙ ap (λ l. f.v ∷ l) (g.values_are ∙ ap (λ l. g.v ∷ l) none.0) ∙
      (ap (λ v. v ∷ g.v ∷ []) st.1 ∙ ap (λ v. string y ∷ v ∷ []) st2.1)))
      (subst (λ l. FollowsHere P (x.r + 340) n c (enters go' l e.w e.t))
      (sym (f.words_are ∙ ap (λ l. f.u ∷ l) (g.words_are ∙ ap (λ l. g.u ∷ l) none.1)))
      (more P (x.r + 8 + 252) (x.r + 340) n c d (omega arith)
      (compare_acts P set x.p x.ready.scene x.ready.activation (x.r + 8) n x.go x.out
      (tests go') e.h e.types e.s e.w e.t e.holds own
      f.u g.u y z st.2 st2.2 (compared o (bytes_eq y z) (string_less y z) (string_less z y)) b (told_order o comp y z)
      (let s1 : SourceWorld = drop_weight runtime_weight (add_weight runtime_weight e.s) in
      let c1 : Run Source = rest_run (x.go (truth b)) s1 in
      more P (x.r + 64 + 2) (x.r + 8 + 64) n c1 (tests go' (order_of y z) e.w e.t) (omega arith)
      (follows_working P.stack tree_work (x.r + 64) n 2 c1 (go' b e.w e.t)
      (onward e.h e.types (truth b) b s1 e.w e.t e.grows e.extends
      (closed P set x.p x.ready.scene x.ready.activation (x.r + 8) n x.go x.out (tests go') e.h e.types e.s e.w e.t e.holds own)
      (told_truth x.wanted x.ty b is_int (truth_is_set b))))))))

  pub strings_shown : IsShown P n E_ x
  strings_shown =
      let q = sides in
      let call : Tx = call_routine routine.Compare (two_txs q.left q.right) in
      let m : Made = test (tree.Compare (relation o) call (Const 0)) in
      let made : AreMade P.findings x.p.within both x.σ (two_txs q.left q.right) q.τb =
      made_more a (exp b no_exps) x.σ q.τa q.τb q.left (tx q.right no_txs) q.made_left
      (made_more b no_exps q.τa q.τb q.τb q.right no_txs q.made_right (made_none q.τb)) in
      let last : Later q.τb x.τ = subst (λ o1. Later q.τb o1) (ap state_in q.whole) (later_none q.τb) in
      let known : arguments.Arguments P set grow n E_ x both (string_type ∷ string_type ∷ []) = (
        record { ty = string_type; piece = piece_a; fits = the_same; value = string_has_values },
        (record { ty = string_type; piece = piece_b; fits = the_same; value = string_has_values }, tt),
      ) in
      by_made P n E_ x m q.τb
      (sym (ap (λ k. drawn (test (comparison o (compares_strings k) q.left q.right)) q.τb) (set.found at means.Content says)) ∙
      q.whole)
      tt
      (λ go' onward.
      let c : Run Source = rest_run (evaluates_all P set grow n E_ x both operated) x.s in
      let d : Run Ran = values_run P x.p (two_txs q.left q.right) x.p.around (enters go') x.w x.t in
      let whole : Run Ran = test_runs P x.p (tree.Compare (relation o) call (Const 0)) x.p.around go' x.w x.t in
      follows_along P.stack tree_work x.r n (λ i. costs 1 (c i)) (rest_run (evaluates P E_ x.p.env x.go x.out) x.s) whole whole
      source_is (λ i. refl)
      (paid P x.r n c whole
      (more P (x.r + 252 + 4) (x.r + 256) n c whole (omega arith)
      (follows_working P.stack tree_work (x.r + 252) n 4 c (value_runs P x.p call x.p.around (tests go') x.w x.t)
      (more P (x.r + 248 + 4) (x.r + 252) n c (value_runs P x.p call x.p.around (tests go') x.w x.t) (omega arith)
      (follows_working P.stack tree_work (x.r + 248) n 4 c d
      (more P (x.r + 238 + 10) (x.r + 248) n c d (omega arith)
      (arguments_follow P set grow n E_ x start both (string_type ∷ string_type ∷ []) known
      (two_txs q.left q.right) q.τb made last
      operated (enters go') (λ e vs us later all.
      more P (x.r + 340) (x.r + 238 + 10 + 46 * 2) n (rest_run (operated vs) e.s) (enters go' us e.w e.t) (omega arith)
      (compared_so go' onward e vs us all))))))))))
