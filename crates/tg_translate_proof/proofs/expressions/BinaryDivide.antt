-- Quotients of ints: the checks of a divisor find whether there is an exact one.
use Rattle.std.proofs.Common.{◌≡◌, ℕ, zero, suc, ◌+◌, ◌^◌, ◌<◌, ◌≤◌, ◌==◌, List, Option, Some, None, Bool, true, false, refl, sym, ap, ◌∙◌, arith, subst, pos, negsuc, int_div, ◌-◌, ◌/◌, inl, inr, eqb-true, eq-eqb}
use Rattle.std.proofs.Math.Dec.{eqb-suc-zero}
use Rattle.std.proofs.Math.Nat.{div-le_self, div-lt_self}
use Rattle.std.proofs.lemmas.Bool.{cases_lt}
use Rattle.std.specs.Prelude.{if◌then◌else◌, ◌||◌, ◌&&◌, neg_ℤ}
use Rattle.std.proofs.lemmas.Int.{ints}
use Rattle.std.proofs.lemmas.Grind.{common_steps}
use Rattle.tg_base.specs.declared.ids.Span.{Span}
use Rattle.tg_base.specs.Words.{signed, exact_sum, is_word, quot}
use Rattle.tg_syntax.specs.declared.trees.Op.TheVariants as op
use Rattle.tg_syntax.specs.Tree.{Exp, Binary}
use Rattle.tg_simulation.specs.Runs.{Run}
use Rattle.tg_simulation.specs.Ran.{Ran, works, Wrong}
use Rattle.tg_simulation.specs.Outcomes.{ended}
use Rattle.tg_simulation.specs.Agreement.{Source}
use Rattle.tg_semantics.specs.Values.{Value, int, SourceWorld, by_overflow, by_division}
use Rattle.tg_semantics.specs.Operators.{exact_quotient}
use Rattle.tg_semantics.specs.Passing.{Rest, Passing, passing, ends}
use Rattle.tg_semantics.specs.Evaluation as evaluation
use Rattle.tg_semantics.specs.MachineRuns.{rest_run}
use Rattle.tg_typecheck.specs.Types.{Ty, int_type}
use Rattle.tg_typecheck.specs.Has.{Has}
use Rattle.tg_tree.specs.declared.operators.Bin.TheVariants as bin
use Rattle.tg_tree.specs.declared.operators.Rel.TheVariants as rel
use Rattle.tg_tree.specs.Tree as tree
use Rattle.tg_tree.specs.Tree.{Tx, Const, Address, Temp, FrameAddress, Load, LoadByte, Call, Service, After, Compare, Fault, Seq, Stms, no_stms, stm}
use Rattle.tg_tree.specs.Forms.{nothing as nothing_done}
use Rattle.tg_tree.specs.glue.Lists.{join_stms}
use Rattle.tg_tree.specs.Shapes.{is_flat, is_flat_condition}
use Rattle.tg_tree.specs.Units.{Trees, hoisted_units, joined_units}
use Rattle.tg_tree.specs.Operators.{word, exactly, operate, stops_by}
use Rattle.tg_tree.specs.Actions.{World, Temps, Go, Next, with_given}
use Rattle.tg_translate.specs.declared.operands.Operand.{Operand}
use Rattle.tg_translate.specs.declared.operands.Operand.TheVariants.{Number}
use Rattle.tg_translate.specs.mirror.States.{TranslationState, Translated, drawn, Translates, give}
use Rattle.tg_translate.specs.mirror.Wants.{Made, value}
use Rattle.tg_translate.specs.mirror.Constructs.{operand, zero_check, quotient_check, overflow, minus_one, least_int, quotient, checked_quotient, quotient_of}
use Rattle.tg_translate.specs.mirror.Purity.{assigns_nothing}
use Rattle.tg_translate_proof.specs.glue.Tables.{Later}
use Rattle.tg_translate_proof.specs.glue.Worlds.{Holdings, GrowsTo, Stands, an_int}
use Rattle.tg_translate_proof.specs.glue.Situations.{Program, Part, Setting, Holds, Extends, value_runs, test_runs, statement_runs, statements_run}
use Rattle.tg_translate_proof.specs.glue.Shown.{Shown, IsShown, Situation, SituationBy, FollowsHere, Onward, IsWanted, left_over, evaluates}
use Rattle.tg_translate_proof.proofs.state.TranslationStates.{state_in, later_none}
use Rattle.tg_translate_proof.proofs.invariant.Cases.{by_made, wanted_of, worked}
use Rattle.tg_translate_proof.proofs.expressions.BinaryLeft.{LeftSide, plain_left, binary_by}
use Rattle.tg_translate_proof.proofs.invariant.Parts.{StatesGrow, more, paid, stop_follows}
use Rattle.tg_translate_proof.proofs.state.ValueWords.{stands_int, int_has_values}
use Rattle.tg_translate_proof.proofs.expressions.BinarySides.{Sides, sides_of, sides_follow, hoisted_small}
use Rattle.tg_translate_proof.proofs.expressions.BinaryPlusMinus.{within_small, piece_a, piece_b}
use Rattle.tg_translate_proof.proofs.invariant.HeldOperands.{OperandIs, operand_follows}
use Rattle.tg_translate_proof.proofs.expressions.Let.{joined_runs}
use Rattle.tg_translate_proof.proofs.expressions.BinaryHeldSides.{held_first, left_before, left_is, right_as, whole_held, sides_held}

joined_small : (b : Bool) → joined_units Trees b ≤ 31
joined_small true = omega arith
joined_small false = omega arith

-- twice the least int has no word
least_twice : exact_sum least_int least_int ≡ None
least_twice = refl

-- When a quotient has a word.

signed_low : (u : ℕ) → u < 2 ^ 31 → signed u ≡ pos u
signed_low u h = grind (arith, common_steps, ints)

signed_high : (u : ℕ) → 2 ^ 31 ≤ u → u < 2 ^ 32 → signed u ≡ negsuc (4294967295 - u)
signed_high u h k = grind (arith, common_steps, ints)

word_above : (n : ℕ) → n < 2 ^ 31 → is_word (pos n) ≡ true
word_above n h = grind (arith, common_steps, ints)

word_below : (n : ℕ) → n ≤ 2 ^ 31 → is_word (neg_ℤ (pos n)) ≡ true
word_below zero h = refl
word_below (suc n) h = let le : suc n ≤ 2 ^ 31 = h in grind (arith, common_steps, ints)

word_divided : (a b : ℕ) → suc a ≤ 2 ^ 31 → (b ≡ 0 → suc a < 2 ^ 31) → is_word (int_div (negsuc a) (negsuc b)) ≡ true
word_divided a zero h k = let lt = k refl in word_above (suc a / 1) (omega (arith, lt))
word_divided a (suc b) h k =
    let less : suc a / suc (suc b) < suc a = div-lt_self (omega arith) (omega arith) in
    word_above (suc a / suc (suc b)) (omega (arith, less, h))

below_divided : (a b : ℕ) → a < 2 ^ 31 → is_word (int_div (pos a) (negsuc b)) ≡ true
below_divided a b h = let le = div-le_self a (suc b) in word_below (a / suc b) (omega (arith, le, h))

above_divided : (a b : ℕ) → a < 2 ^ 31 → is_word (int_div (pos a) (pos b)) ≡ true
above_divided a b h = let le = div-le_self a b in word_above (a / b) (omega (arith, le, h))

negated_divided : (a b : ℕ) → suc a ≤ 2 ^ 31 → is_word (int_div (negsuc a) (pos b)) ≡ true
negated_divided a b h = let le = div-le_self (suc a) b in word_below (suc a / b) (omega (arith, le, h))

quotient_word : (u z : ℕ) → u < 2 ^ 32 → z < 2 ^ 32 → (z ≡ minus_one → u ≡ least_int → ⊥) → is_word (int_div (signed u) (signed z)) ≡ true
quotient_word u z hu hz apart =
    elim (cases_lt u (2 ^ 31)) [
      | inl l ↦
          elim (cases_lt z (2 ^ 31)) [
            | inl m ↦ ap (λ o. is_word (int_div o (signed z))) (signed_low u l) ∙ (ap (λ o. is_word (int_div (pos u) o)) (signed_low z m) ∙ above_divided u z l)
            | inr m ↦ ap (λ o. is_word (int_div o (signed z))) (signed_low u l) ∙ (ap (λ o. is_word (int_div (pos u) o)) (signed_high z m hz) ∙ below_divided u (4294967295 - z) l)
          ]
      | inr l ↦
          elim (cases_lt z (2 ^ 31)) [
            | inl m ↦ ap (λ o. is_word (int_div o (signed z))) (signed_high u l hu) ∙ (ap (λ o. is_word (int_div (negsuc (4294967295 - u)) o)) (signed_low z m) ∙
                negated_divided (4294967295 - u) z (omega (arith, l, hu)))
            | inr m ↦ ap (λ o. is_word (int_div o (signed z))) (signed_high u l hu) ∙ (ap (λ o. is_word (int_div (negsuc (4294967295 - u)) o)) (signed_high z m hz) ∙
                word_divided (4294967295 - u) (4294967295 - z) (omega (arith, l, hu)) (λ e. not_least l (omega (arith, e, hz))))
          ]
    ]
  where
    not_least : 2 ^ 31 ≤ u → z ≡ 4294967295 → suc (4294967295 - u) < 2 ^ 31
    not_least l e = elim (cases_lt (suc (4294967295 - u)) (2 ^ 31)) [
      | inl k ↦ k
      | inr k ↦ absurd (apart e (omega (arith, k, l, hu)))
    ]

pub quotient_exact : (u z : ℕ) → u < 2 ^ 32 → z < 2 ^ 32 → (z ≡ minus_one → u ≡ least_int → ⊥) → exact_quotient u z ≡ Some (quot u z)
quotient_exact u z hu hz apart = ap (λ b. if b then Some (quot u z) else None) (quotient_word u z hu hz apart)

pub quotient_inexact : exact_quotient least_int minus_one ≡ None
quotient_inexact = refl

module _ (P : Program) (set : Setting P) (grow : StatesGrow P) where
  -- overflow ends both runs
  pub overflow_follows : (p : Part) (q n : ℕ) (s : SourceWorld) (next : Next) (w : World) (t : Temps) → w.input ≡ s.input →
      FollowsHere P (q + 7) n (rest_run (ends (ended by_overflow)) s) (statement_runs P p overflow p.around next w t)
  overflow_follows p q n s next w t input =
      let c : Run Source = rest_run (ends (ended by_overflow)) s in
      let small = hoisted_small (is_flat (Const least_int)) in
      let added : Go ℕ = λ z w2 t2. with_given (exactly (exact_sum least_int z)) w2 (λ r. next w2 t2) in
      worked P (q + 7) (q + 7) 0 n c _ (omega arith)
      (worked P (q + 4) (q + 7) (1 + hoisted_units Trees (is_flat (Const least_int))) n c _ (omega (arith, small))
      (worked P (q + 2) (q + 4) 2 n c _ (omega arith)
      (worked P q (q + 2) 2 n c _ (omega arith)
      (subst (λ o. FollowsHere P q n c (with_given (exactly o) w (λ r. next w t))) (sym least_twice) (stop_follows P q n by_overflow s w input)))))

  -- what a check does where it finds this
  abbrev pub check_ends : (p : Part) → tree.Ts → Next → Bool → World → Temps → Run Ran
  check_ends p stops next b w t = (if b then statement_runs P p stops else statement_runs P p nothing_done) p.around next w t

  -- the check of a divisor
  zero_checked : (p : Part) (r : Operand) (z q n : ℕ) (c : Run Source) (next : Next) (w : World) (t : Temps) → OperandIs r z t → FollowsHere P q n c (check_ends p (Fault 7) next (z == 0) w t) →
      FollowsHere P (q + 14) n c (statement_runs P p (zero_check (operand r)) p.around next w t)
  zero_checked p r z q n c next w t is f =
      let small = hoisted_small (is_flat (Const 0)) in
      worked P (q + 10) (q + 14) 4 n c _ (omega arith)
      (worked P (q + 2 + 2) (q + 10) (4 + hoisted_units Trees (is_flat (Const 0))) n c _ (omega (arith, small))
      (operand_follows P set grow p r z (q + 2) n c (λ k w1 t1. value_runs P p (Const 0) p.around (λ j w2 t2. check_ends p (Fault 7) next (k == j) w2 t2) w1 t1) w t is
      (worked P q (q + 2) 2 n c _ (omega arith) f)))

  -- the check of the least int by -1
  least_checked : (p : Part) (l r : Operand) (u z q n : ℕ) (c : Run Source) (next : Next) (w : World) (t : Temps) → OperandIs l u t → OperandIs r z t →
      FollowsHere P q n c (check_ends p overflow next (z == minus_one && u == least_int) w t) →
      FollowsHere P (q + 55) n c (statement_runs P p (quotient_check (operand l) (operand r)) p.around next w t)
  least_checked p l r u z q n c next w t is_l is_r f =
      let small = hoisted_small (is_flat (Const minus_one)) in
      let joined = joined_small (is_flat_condition (Compare rel.Equal (operand l) (Const least_int))) in
      worked P (q + 51) (q + 55) 4 n c _ (omega arith)
      (worked P (q + 20) (q + 51) (joined_units Trees (is_flat_condition (Compare rel.Equal (operand l) (Const least_int)))) n c _ (omega (arith, joined))
      (worked P (q + 12 + 2) (q + 20) (4 + hoisted_units Trees (is_flat (Const minus_one))) n c _ (omega (arith, small))
      (operand_follows P set grow p r z (q + 12) n c
      (λ k w1 t1. value_runs P p (Const minus_one) p.around (λ j w2 t2. second (k == j) w2 t2) w1 t1) w t is_r
      (worked P (q + 10) (q + 12) 2 n c _ (omega arith) (by (z == minus_one) f)))))
    where
      second : Bool → World → Temps → Run Ran
      second b w2 t2 = (if b then test_runs P p (Compare rel.Equal (operand l) (Const least_int)) else (λ around (go : Go Bool). go false)) p.around (λ d w1 t1. check_ends p overflow next d w1 t1) w2 t2

      by : (b : Bool) → FollowsHere P q n c (check_ends p overflow next (b && u == least_int) w t) → FollowsHere P (q + 10) n c (second b w t)
      by true g =
          let small = hoisted_small (is_flat (Const least_int)) in
          worked P (q + 2 + 2) (q + 10) (4 + hoisted_units Trees (is_flat (Const least_int))) n c _ (omega (arith, small))
          (operand_follows P set grow p l u (q + 2) n c (λ k w1 t1. value_runs P p (Const least_int) p.around (λ j w2 t2. check_ends p overflow next (k == j) w2 t2) w1 t1) w t is_l
          (worked P q (q + 2) 2 n c _ (omega arith) g))
      by false g = more P q (q + 10) n c _ (omega arith) g

  -- a quotient of operands
  divided : (p : Part) (l r : Operand) (u k q n : ℕ) (c : Run Source) (go' : Go ℕ) (w : World) (t : Temps) → OperandIs l u t → OperandIs r (suc k) t →
      FollowsHere P q n c (go' (quot u (suc k)) w t) → FollowsHere P (q + 8) n c (value_runs P p (tree.Binary bin.Div (operand l) (operand r)) p.around go' w t)
  divided p l r u k q n c go' w t is_l is_r f =
      let small = hoisted_small (is_flat (operand r)) in
      worked P (q + 2 + 2) (q + 8) (2 + hoisted_units Trees (is_flat (operand r))) n c _ (omega (arith, small))
      (operand_follows P set grow p l u (q + 2) n c (λ i w1 t1. value_runs P p (operand r) p.around (λ j w2 t2. with_given (operate bin.Div i j) w2 (λ v. go' v w2 t2)) w1 t1) w t is_l
      (operand_follows P set grow p r (suc k) q n c (λ j w2 t2. with_given (operate bin.Div u j) w2 (λ v. go' v w2 t2)) w t is_r
      (subst (λ b. FollowsHere P q n c (with_given (if b then stops_by Wrong else word (quot u (suc k))) w (λ v. go' v w t))) (sym (eqb-suc-zero k)) f)))

  module _ (n : ℕ) (sp : Span) (at : ℕ) (a b : Exp) (show_a : LeftSide P n a) (show_b : Shown P n b)
      (x : SituationBy P n (Binary sp op.Divide at a b) (binary_by P op.Divide at b show_a.by)) (starts : show_a.here x.p x.h x.types x.s x.w x.t)
      (is_int : x.ty ≡ int_type) (type_a : Has P.shapes P.notes a x.p.scope int_type) (type_b : Has P.shapes P.notes b x.p.scope int_type) where
    abbrev Quotient_ : Exp
    Quotient_ = Binary sp op.Divide at a b

    abbrev divides : Value → Value → Rest
    divides v y = evaluation.operate Passing (passing P.heap P.stack) op.Divide v y x.go x.out

    abbrev exact_value : Option ℕ → Rest
    exact_value o = evaluation.exactly Passing (passing P.heap P.stack) o x.go x.out

    abbrev ToValue : Go ℕ → Type 0
    ToValue go' = Onward P {A = ℕ} n (x.r + left_over) x.p x.h x.types (λ g v u. IsWanted g x.wanted v x.ty u) x.go go'

    -- an int that is exact
    given_follows : (g : Holdings) (ms : List Ty) (v q : ℕ) (s : SourceWorld) (w : World) (t : Temps) (go' : Go ℕ) → GrowsTo x.h g → Extends x.types ms → Holds P x.p g ms s w t → (o : Option ℕ) → o ≡ Some v → v < 2 ^ 32 →
        x.r + left_over ≤ q → ToValue go' → FollowsHere P q n (rest_run (exact_value o) s) (go' v w t)
    given_follows g ms v q s w t go' gg ee hh o e small le onward =
        subst (λ z. FollowsHere P q n (rest_run (exact_value z) s) (go' v w t)) (sym e)
        (more P (x.r + left_over) q n (rest_run (x.go (int v)) s) (go' v w t) le
        (onward g ms (int v) v s w t gg ee hh (wanted_of g x.wanted (int v) x.ty v (subst (λ z. Stands g (int v) z v) (sym is_int) (an_int v small)))))

    quotient_small : (u z : ℕ) → exact_quotient u z ≡ Some (quot u z) → quot u z < 2 ^ 32
    quotient_small u z e = within_small (int_div (signed u) (signed z)) (quot u z) e

    -- after both operands
    abbrev quotient_next : Go ℕ → Operand → Operand → Next
    quotient_next go' l r w t =
        statements_run P x.p (stm (zero_check (operand r)) no_stms) x.p.around
        (λ w1 t1. statements_run P x.p (stm (quotient_check (operand l) (operand r)) no_stms) x.p.around
        (λ w2 t2. value_runs P x.p (tree.Binary bin.Div (operand l) (operand r)) x.p.around go' w2 t2) w1 t1) w t

    words_divided : (g : Holdings) (ms : List Ty) (u z : ℕ) (s : SourceWorld) (w : World) (t : Temps) (l r : Operand) (go' : Go ℕ) → GrowsTo x.h g → Extends x.types ms → Holds P x.p g ms s w t →
        u < 2 ^ 32 → z < 2 ^ 32 → OperandIs l u t → OperandIs r z t → ToValue go' → FollowsHere P (x.r + 290) n (rest_run (divides (int u) (int z)) s) (quotient_next go' l r w t)
    words_divided g ms u zero s w t l r go' gg ee hh hu hz is_l is_r onward =
        let c : Run Source = rest_run (divides (int u) (int zero)) s in
        more P 17 (x.r + 290) n c _ (omega arith)
        (zero_checked x.p r zero 3 n c _ w t is_r
        (worked P 0 3 3 n c _ (omega arith) (stop_follows P 0 n by_division s w hh.invariant.input)))
    words_divided g ms u (suc k) s w t l r go' gg ee hh hu hz is_l is_r onward =
        let c : Run Source = rest_run (exact_value (exact_quotient u (suc k))) s in
        more P (x.r + 200 + 14) (x.r + 290) n c _ (omega arith)
        (zero_checked x.p r (suc k) (x.r + 200) n c _ w t is_r
        (subst (λ b2. FollowsHere P (x.r + 200) n c (check_ends x.p (Fault 7) (λ w1 t1. statements_run P x.p (stm (quotient_check (operand l) (operand r)) no_stms) x.p.around
        (λ w2 t2. value_runs P x.p (tree.Binary bin.Div (operand l) (operand r)) x.p.around go' w2 t2) w1 t1) b2 w t)) (sym (eqb-suc-zero k))
        (worked P (x.r + 200) (x.r + 200) 0 n c _ (omega arith)
        (more P (x.r + 100 + 55) (x.r + 200) n c _ (omega arith)
        (least_checked x.p l r u (suc k) (x.r + 100) n c (λ w2 t2. value_runs P x.p (tree.Binary bin.Div (operand l) (operand r)) x.p.around go' w2 t2) w t is_l is_r
        (by (suc k == minus_one) (u == least_int) refl refl))))))
      where
        apart : (d e : Bool) → (suc k == minus_one) ≡ d → (u == least_int) ≡ e → (d && e) ≡ false → suc k ≡ minus_one → u ≡ least_int → ⊥
        apart d e hd he f i j =
            let one : (suc k == minus_one) ≡ true = eq-eqb (suc k) minus_one i in
            let two : (u == least_int) ≡ true = eq-eqb u least_int j in
            let dt : d ≡ true = sym hd ∙ one in
            let et : e ≡ true = sym he ∙ two in
            let bt : (d && e) ≡ true = ap (λ o. o && e) dt ∙ et in
            let no : true ≡ false = sym bt ∙ f in
            cc

        on : (d e : Bool) → (suc k == minus_one) ≡ d → (u == least_int) ≡ e → (d && e) ≡ false →
            FollowsHere P (x.r + 100) n (rest_run (exact_value (exact_quotient u (suc k))) s)
            (check_ends x.p overflow (λ w2 t2. value_runs P x.p (tree.Binary bin.Div (operand l) (operand r)) x.p.around go' w2 t2) false w t)
        on d e hd he f =
            let exact = quotient_exact u (suc k) hu hz (apart d e hd he f) in
            let c : Run Source = rest_run (exact_value (exact_quotient u (suc k))) s in
            worked P (x.r + 100) (x.r + 100) 0 n c _ (omega arith)
            (more P (x.r + 92 + 8) (x.r + 100) n c _ (omega arith)
            (divided x.p l r u k (x.r + 92) n c go' w t is_l is_r
            (given_follows g ms (quot u (suc k)) (x.r + 92) s w t go' gg ee hh (exact_quotient u (suc k)) exact (quotient_small u (suc k) exact) (omega arith) onward)))

        turn : (suc k == minus_one && u == least_int) ≡ false →
            FollowsHere P (x.r + 100) n (rest_run (exact_value (exact_quotient u (suc k))) s)
            (check_ends x.p overflow (λ w2 t2. value_runs P x.p (tree.Binary bin.Div (operand l) (operand r)) x.p.around go' w2 t2) false w t) →
            FollowsHere P (x.r + 100) n (rest_run (exact_value (exact_quotient u (suc k))) s)
            (check_ends x.p overflow (λ w2 t2. value_runs P x.p (tree.Binary bin.Div (operand l) (operand r)) x.p.around go' w2 t2) (suc k == minus_one && u == least_int) w t)
        turn e f = subst (λ o. FollowsHere P (x.r + 100) n (rest_run (exact_value (exact_quotient u (suc k))) s)
            (check_ends x.p overflow (λ w2 t2. value_runs P x.p (tree.Binary bin.Div (operand l) (operand r)) x.p.around go' w2 t2) o w t)) (sym e) f

        by : (d e : Bool) → (suc k == minus_one) ≡ d → (u == least_int) ≡ e →
            FollowsHere P (x.r + 100) n (rest_run (exact_value (exact_quotient u (suc k))) s)
            (check_ends x.p overflow (λ w2 t2. value_runs P x.p (tree.Binary bin.Div (operand l) (operand r)) x.p.around go' w2 t2) (suc k == minus_one && u == least_int) w t)
        by true true hd he =
            let i : suc k ≡ minus_one = eqb-true (suc k) minus_one hd in
            let j : u ≡ least_int = eqb-true u least_int he in
            let none : exact_quotient u (suc k) ≡ None = ap (λ o. exact_quotient o (suc k)) j ∙ (ap (λ o. exact_quotient least_int o) i ∙ quotient_inexact) in
            let both : (suc k == minus_one && u == least_int) ≡ true = ap (λ o. o && u == least_int) hd ∙ he in
            subst (λ o. FollowsHere P (x.r + 100) n (rest_run (exact_value (exact_quotient u (suc k))) s)
            (check_ends x.p overflow (λ w2 t2. value_runs P x.p (tree.Binary bin.Div (operand l) (operand r)) x.p.around go' w2 t2) o w t)) (sym both)
            (subst (λ o. FollowsHere P (x.r + 100) n (rest_run (exact_value o) s)
            (statement_runs P x.p overflow x.p.around (λ w2 t2. value_runs P x.p (tree.Binary bin.Div (operand l) (operand r)) x.p.around go' w2 t2) w t)) (sym none)
            (more P (0 + 7) (x.r + 100) n (rest_run (exact_value None) s) (statement_runs P x.p overflow x.p.around (λ w2 t2. value_runs P x.p (tree.Binary bin.Div (operand l) (operand r)) x.p.around go' w2 t2) w t) (omega arith)
            (overflow_follows x.p 0 n s (λ w2 t2. value_runs P x.p (tree.Binary bin.Div (operand l) (operand r)) x.p.around go' w2 t2) w t hh.invariant.input)))
        by true false hd he = turn (ap (λ o. o && u == least_int) hd ∙ he) (on true false hd he refl)
        by false e hd he = turn (ap (λ o. o && u == least_int) hd) (on false e hd he refl)

    abbrev checked_last : Stms → Tx → Tx → Translates Made
    checked_last before l r = give (quotient_of before l r)

    -- a quotient whose divisor is checked
    checked_shown : (q : Sides P set grow n Quotient_ a b show_a x (held_first P set grow n sp op.Divide at a b show_a show_b x starts type_a type_b checked_last)) → IsShown P n Quotient_ x
    checked_shown q =
        let le : Stms = left_before P set grow n sp op.Divide at a b show_a show_b x starts type_a type_b checked_last q in
        let lo : Operand = left_is P set grow n sp op.Divide at a b show_a show_b x starts type_a type_b checked_last q in
        let held = right_as P set grow n sp op.Divide at a b show_a show_b x starts type_a type_b checked_last q in
        let whole = whole_held P set grow n sp op.Divide at a b show_a show_b x starts type_a type_b checked_last q in
        let rest : Later held.after x.τ = subst (λ s. Later held.after s) (ap state_in whole) (later_none held.after) in
        let z : Stms = stm (zero_check (operand held.operand)) no_stms in
        let k : Stms = stm (quotient_check (operand lo) (operand held.operand)) no_stms in
        by_made P n Quotient_ x (quotient_of (join_stms le held.extra) (operand lo) (operand held.operand)) held.after whole tt
        (λ go' onward.
        let ended_ : Next = λ w2 t2. value_runs P x.p (tree.Binary bin.Div (operand lo) (operand held.operand)) x.p.around go' w2 t2 in
        let behind_zero : Next = λ w1 t1. statements_run P x.p k x.p.around ended_ w1 t1 in
        let source : Run Source = rest_run (evaluates P a x.p.env (λ v. evaluates P b x.p.env (λ y. divides v y) x.out) x.out) x.s in
        let runs = joined_runs P x.p (join_stms (join_stms le held.extra) z) k ended_ x.w x.t ∙ (joined_runs P x.p (join_stms le held.extra) z behind_zero x.w x.t ∙
        joined_runs P x.p le held.extra (quotient_next go' lo held.operand) x.w x.t) in
        paid P x.r n source _
        (worked P (x.r + 255) (x.r + 256) 0 n source _ (omega arith)
        (worked P (x.r + 255) (x.r + 255) 0 n source _ (omega arith)
        (subst (λ o. FollowsHere P (x.r + 255) n source o) (sym runs)
        (sides_held P set grow n sp op.Divide at a b show_a show_b x starts type_a type_b checked_last q rest divides (quotient_next go')
        (λ g ms v y u z s w t l r gg ee hh sv sy il ir.
        let i = stands_int g v u sv in
        let j = stands_int g y z sy in
        subst (λ o. FollowsHere P (x.r + 290) n (rest_run o s) (quotient_next go' l r w t)) (sym (ap (λ o. divides o y) i.0 ∙ ap (λ o. divides (int u) o) j.0))
        (words_divided g ms u z s w t l r go' gg ee hh i.1 j.1 il ir onward)))))))

    -- by a number that needs no check
    module _ (k : ℕ) (few : (suc k == minus_one) ≡ false) (go' : Go ℕ) where
      -- what comes next, whatever number the right side is
      abbrev by_number : Bool → (u j : ℕ) → Next
      by_number b u j = if b then (λ w t. go' (quot u (suc k)) w t) else quotient_next go' (Number u) (Number j)

      number_divides : (g : Holdings) (ms : List Ty) (v y : Value) (u j : ℕ) (s : SourceWorld) (w : World) (t : Temps) → GrowsTo x.h g → Extends x.types ms → Holds P x.p g ms s w t →
          Stands g v int_type u → Stands g y int_type j → ToValue go' → (b : Bool) → (j == suc k) ≡ b → FollowsHere P (x.r + 290) n (rest_run (divides v y) s) (by_number b u j w t)
      number_divides g ms v y u j s w t gg ee hh sv sy onward false e =
          let f = stands_int g v u sv in
          let h = stands_int g y j sy in
          subst (λ o. FollowsHere P (x.r + 290) n (rest_run o s) (quotient_next go' (Number u) (Number j) w t)) (sym (ap (λ o. divides o y) f.0 ∙ ap (λ o. divides (int u) o) h.0))
          (words_divided g ms u j s w t (Number u) (Number j) go' gg ee hh f.1 h.1 refl refl onward)
      number_divides g ms v y u j s w t gg ee hh sv sy onward true e =
          let f = stands_int g v u sv in
          let h = stands_int g y j sy in
          let same : j ≡ suc k = eqb-true j (suc k) e in
          let small : suc k < 2 ^ 32 = subst (λ o. o < 2 ^ 32) same h.1 in
          let exact = quotient_exact u (suc k) f.1 small (λ i _. let one : (suc k == minus_one) ≡ true = eq-eqb (suc k) minus_one i in let no : true ≡ false = sym one ∙ few in cc) in
          subst (λ o. FollowsHere P (x.r + 290) n (rest_run o s) (go' (quot u (suc k)) w t))
          (sym (ap (λ o. divides o y) f.0 ∙ (ap (λ o. divides (int u) o) h.0 ∙ ap (λ o. divides (int u) (int o)) same)))
          (given_follows g ms (quot u (suc k)) (x.r + 290) s w t go' gg ee hh (exact_quotient u (suc k)) exact (quotient_small u (suc k) exact) (omega arith) onward)

      abbrev number_run : Tx → Bool → Run Ran
      number_run y b = value_runs P x.p y x.p.around (λ u w1 t1 i. works 2 (with_given (if b then stops_by Wrong else word (quot u (suc k))) w1 (λ v. go' v w1 t1) i)) x.w x.t

      abbrev chosen_run : Tx → Bool → Run Ran
      chosen_run y b = value_runs P x.p y x.p.around (λ u w1 t1 i. works 2 (by_number b u (suc k) w1 t1 i)) x.w x.t

      number_follows : (q : Sides P set grow n Quotient_ a b show_a x (λ l r. quotient (assigns_nothing b) l r)) → q.right ≡ Const (suc k) → Later q.τb x.τ → ToValue go' →
          FollowsHere P (x.r + 256) n (rest_run (evaluates P a x.p.env (λ v. evaluates P b x.p.env (λ y. divides v y) x.out) x.out) x.s)
          (value_runs P x.p (tree.Binary bin.Div q.left (Const (suc k))) x.p.around go' x.w x.t)
      number_follows q is last onward =
          let source : Run Source = rest_run (evaluates P a x.p.env (λ v. evaluates P b x.p.env (λ y. divides v y) x.out) x.out) x.s in
          let small = hoisted_small (is_flat (Const (suc k))) in
          worked P (x.r + 240 + 4) (x.r + 256) (2 + hoisted_units Trees (is_flat (Const (suc k)))) n source (number_run q.left (suc k == 0)) (omega (arith, small))
          (subst (λ o. FollowsHere P (x.r + 240 + 4) n source (number_run q.left o)) (sym (eqb-suc-zero k))
          (subst (λ o. FollowsHere P (x.r + 240 + 4) n source (chosen_run q.left o)) (eq-eqb (suc k) (suc k) refl)
          (subst (λ o. FollowsHere P (x.r + 240 + 4) n source (value_runs P x.p q.left x.p.around (λ u w1 t1. value_runs P x.p o x.p.around (λ j w2 t2. by_number (j == suc k) u j w2 t2) w1 t1) x.w x.t)) is
          (sides_follow P set grow n Quotient_ a b show_a x (λ l r. quotient (assigns_nothing b) l r) q int_type int_type
          (piece_a P set grow n sp op.Divide at a b show_a show_b x starts is_int type_a type_b) (piece_b P set grow n sp op.Divide at a b show_a show_b x starts is_int type_a type_b)
          int_has_values int_has_values last (x.r + 240) (omega arith) divides (λ u j w2 t2. by_number (j == suc k) u j w2 t2)
          (λ c v y u j l st st2.
          more P (x.r + 290) (x.r + 240 + 108) n (rest_run (divides v y) c.s) (by_number (j == suc k) u j c.w c.t) (omega arith)
          (number_divides c.h c.types v y u j c.s c.w c.t c.grows c.extends c.holds st st2 onward (j == suc k) refl))))))

    -- a quotient, whatever its divisor is
    module _ (q : Sides P set grow n Quotient_ a b show_a x (λ l r. quotient (assigns_nothing b) l r)) where
      as_checked : checked_quotient (assigns_nothing b) q.left q.right q.τb ≡ quotient (assigns_nothing b) q.left q.right q.τb → IsShown P n Quotient_ x
      as_checked e = checked_shown (record {
        left = q.left;
        τa = q.τa;
        made_left = q.made_left;
        right = q.right;
        τb = q.τb;
        made_right = q.made_right;
        whole = e ∙ q.whole;
      })

      checked_as : (y : Tx) → q.right ≡ y → checked_quotient (assigns_nothing b) q.left y q.τb ≡ quotient (assigns_nothing b) q.left y q.τb →
          checked_quotient (assigns_nothing b) q.left q.right q.τb ≡ quotient (assigns_nothing b) q.left q.right q.τb
      checked_as y is e = ap (λ o. checked_quotient (assigns_nothing b) q.left o q.τb) is ∙ (e ∙ sym (ap (λ o. quotient (assigns_nothing b) q.left o q.τb) is))

      abbrev number_made : Bool → (k : ℕ) → TranslationState → Translated Made
      number_made c k s = (if c then checked_quotient (assigns_nothing b) q.left (Const k) else give (value (tree.Binary bin.Div q.left (Const k)))) s

      by_check : (k : ℕ) → q.right ≡ Const (suc k) → (c : Bool) → (suc k == minus_one) ≡ c → IsShown P n Quotient_ x
      by_check k is true e =
          as_checked (checked_as (Const (suc k)) is (sym (ap (λ o. number_made o (suc k) q.τb) (ap (λ o. o || (suc k == minus_one)) (eqb-suc-zero k) ∙ e))))
      by_check k is false e =
          let made : drawn (value (tree.Binary bin.Div q.left (Const (suc k)))) q.τb ≡ drawn x.m x.τ =
          sym (ap (λ o. quotient (assigns_nothing b) q.left o q.τb) is ∙ ap (λ o. number_made o (suc k) q.τb) (ap (λ o. o || (suc k == minus_one)) (eqb-suc-zero k) ∙ e)) ∙ q.whole in
          by_made P n Quotient_ x (value (tree.Binary bin.Div q.left (Const (suc k)))) q.τb made tt
          (λ go' onward. paid P x.r n _ _ (number_follows k e go' q is (subst (λ s. Later q.τb s) (ap state_in made) (later_none q.τb)) onward))

      by_right : (y : Tx) → q.right ≡ y → IsShown P n Quotient_ x
      by_right (Const zero) is = as_checked (checked_as (Const zero) is refl)
      by_right (Const (suc k)) is = by_check k is (suc k == minus_one) refl
      by_right (Temp i) is = as_checked (checked_as (Temp i) is refl)
      by_right (Address l) is = as_checked (checked_as (Address l) is refl)
      by_right FrameAddress is = as_checked (checked_as FrameAddress is refl)
      by_right (tree.Binary o y z) is = as_checked (checked_as (tree.Binary o y z) is refl)
      by_right (Load y) is = as_checked (checked_as (Load y) is refl)
      by_right (LoadByte y) is = as_checked (checked_as (LoadByte y) is refl)
      by_right (Call l ys) is = as_checked (checked_as (Call l ys) is refl)
      by_right (Service j y) is = as_checked (checked_as (Service j y) is refl)
      by_right (After z y) is = as_checked (checked_as (After z y) is refl)

    pub divide_follows : IsShown P n Quotient_ x
    divide_follows =
        let q = sides_of P set grow n Quotient_ a b show_a x (λ l r. quotient (assigns_nothing b) l r) x.is_made in
        by_right q q.right refl

  pub divide_by : (n : ℕ) (sp : Span) (at : ℕ) (a b : Exp) (left : LeftSide P n a) → Shown P n b →
      (x : SituationBy P n (Binary sp op.Divide at a b) (binary_by P op.Divide at b left.by)) → left.here x.p x.h x.types x.s x.w x.t →
      x.ty ≡ int_type → Has P.shapes P.notes a x.p.scope int_type → Has P.shapes P.notes b x.p.scope int_type → IsShown P n (Binary sp op.Divide at a b) x
  divide_by n sp at a b show_a show_b x starts is_int type_a type_b = divide_follows n sp at a b show_a show_b x starts is_int type_a type_b

  pub divide_shown : (n : ℕ) (sp : Span) (at : ℕ) (a b : Exp) → Shown P n a → Shown P n b → (x : Situation P n (Binary sp op.Divide at a b)) →
      x.ty ≡ int_type → Has P.shapes P.notes a x.p.scope int_type → Has P.shapes P.notes b x.p.scope int_type → IsShown P n (Binary sp op.Divide at a b) x
  divide_shown n sp at a b show_a show_b x is_int type_a type_b =
      divide_by n sp at a b (plain_left P n a (grow a) show_a) show_b x tt is_int type_a type_b
