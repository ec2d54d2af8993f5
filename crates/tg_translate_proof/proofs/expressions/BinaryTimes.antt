-- Products of ints: their upper word tells whether there is an exact one.
use Rattle.std.proofs.Common.{◌≡◌, ◌≢◌, ℕ, ◌+◌, ◌*◌, ◌%◌, ◌^◌, ◌<◌, ◌≤◌, ◌==◌, List, Option, Some, None, Bool, true, false, refl, sym, ap, ◌∙◌, arith, subst, ℤ}
use Rattle.std.proofs.Common.{pos, negsuc, ◌*ℤ◌, unsigned_abs, eqb-true, w32, w64}
use Rattle.std.specs.Prelude.{if◌then◌else◌, ◌||◌, not}
use Rattle.std.specs.Int.{cast_unsigned, int_wrap}
use Rattle.std.proofs.lemmas.Int.{ints, wrapping_mul-bits, of_z-to_z}
use Rattle.std.proofs.lemmas.Grind.{common_steps}
use Rattle.std.proofs.lemmas.Bool.{eqb-false, ne_eqb}
use Rattle.tg_base.specs.declared.ids.Span.{Span}
use Rattle.tg_base.specs.Words.{signed, exact_product, mul, product_low, product_high, shift_signed}
use Rattle.tg_base.proofs.ProductLaws.{abs_product, product_of as exact_by_sign}
use Rattle.tg_syntax.specs.declared.trees.Op.TheVariants as op
use Rattle.tg_syntax.specs.Tree.{Exp, Binary}
use Rattle.tg_simulation.specs.Runs.{Run}
use Rattle.tg_simulation.specs.Agreement.{Source}
use Rattle.tg_semantics.specs.Values.{Value, int, SourceWorld}
use Rattle.tg_semantics.specs.Passing.{Rest, Passing, passing}
use Rattle.tg_semantics.specs.Evaluation as evaluation
use Rattle.tg_semantics.specs.MachineRuns.{rest_run}
use Rattle.tg_typecheck.specs.Types.{Ty, int_type}
use Rattle.tg_typecheck.specs.Has.{Has}
use Rattle.tg_tree.specs.declared.operators.Bin.TheVariants as bin
use Rattle.tg_tree.specs.Tree as tree
use Rattle.tg_tree.specs.Tree.{Tx, Const, Temp, Move, Stms, no_stms, stm}
use Rattle.tg_tree.specs.glue.Lists.{join_stms}
use Rattle.tg_tree.specs.Shapes.{is_flat}
use Rattle.tg_tree.specs.Units.{Trees, hoisted_units}
use Rattle.tg_tree.specs.Operators.{operate}
use Rattle.tg_tree.specs.Actions.{World, Temps, set_temp, Go, Next, with_given, with_word}
use Rattle.tg_translate.specs.declared.operands.Operand.{Operand}
use Rattle.tg_translate.specs.declared.operands.Operand.TheVariants.{Number, Kept}
use Rattle.tg_translate.specs.mirror.States.{TranslationState, Translates, give, fresh, ◌>>=◌, with_frame, one_temp}
use Rattle.tg_translate.specs.mirror.Wants.{Made}
use Rattle.tg_translate.specs.mirror.Constructs.{operand, product_check, overflow, product_of}
use Rattle.tg_translate.specs.mirror.Purity.{assigns_nothing}
use Rattle.tg_translate_proof.specs.glue.Tables.{Later}
use Rattle.tg_translate_proof.specs.glue.Worlds.{Holdings, GrowsTo, Stands, an_int, temporary, nowhere, IsOf}
use Rattle.tg_translate_proof.specs.glue.Situations.{Program, Setting, Holds, Extends, value_runs, statement_runs, statements_run}
use Rattle.tg_translate_proof.specs.glue.Shown.{Shown, IsShown, Situation, SituationBy, FollowsHere, Onward, IsWanted, left_over, evaluates}
use Rattle.tg_translate_proof.proofs.state.TranslationStates.{state_in, later_none, later_on}
use Rattle.tg_translate_proof.proofs.invariant.Cases.{by_made, wanted_of, worked, set_here, holds_with_temp}
use Rattle.tg_translate_proof.proofs.expressions.BinaryLeft.{LeftSide, plain_left, binary_by}
use Rattle.tg_translate_proof.proofs.invariant.Parts.{StatesGrow, more, paid}
use Rattle.tg_translate_proof.proofs.state.Keys.{of_is_used}
use Rattle.tg_translate_proof.proofs.state.ValueWords.{stands_int}
use Rattle.tg_translate_proof.proofs.expressions.BinarySides.{sides_of, hoisted_small}
use Rattle.tg_translate_proof.proofs.invariant.HeldOperands.{OperandIs, operand_follows, Holding, holding, held_as, a_number, a_temp, always, another}
use Rattle.tg_translate_proof.proofs.invariant.HeldOperands.{kept_later}
use Rattle.tg_translate_proof.proofs.invariant.HeldLeft.{LeftHeld, as_number, as_variable, as_kept, left_operand, left_state}
use Rattle.tg_translate_proof.proofs.expressions.Let.{joined_runs}
use Rattle.tg_translate_proof.proofs.expressions.BinaryHeldSides.{held_first, left_before, left_is, left_as, between, right_as, whole_held, sides_held, left_named, right_named, left_later, right_later, both_later}
use Rattle.tg_translate_proof.proofs.expressions.BinaryDivide.{overflow_follows, check_ends}

-- the lower word of a product
low_word : (z : ℤ) → unsigned_abs z < 2 ^ 63 → cast_unsigned w32 (int_wrap w32 z) ≡ cast_unsigned w64 z % 2 ^ 32
unfolding int_wrap
low_word (pos n) h = grind (arith, common_steps, ints)
low_word (negsuc n) h = let small : n < 2 ^ 63 = omega (arith, h) in grind (arith, common_steps, ints)

low_product : (a b : ℕ) → a < 2 ^ 32 → b < 2 ^ 32 → mul a b ≡ product_low a b
low_product a b h k =
    sym (of_z-to_z w32 ((a * b) % 2 ^ 32) (omega arith)) ∙
    (ap (cast_unsigned w32) (wrapping_mul-bits w32 a b h k) ∙ low_word (signed a *ℤ signed b) (abs_product a b h k))

-- Operands beside a temporary that is set.

abbrev touches : (p : ℕ) → Operand → Bool
touches p (Number n) = false
touches p (Kept i) = i.0 == p

untouched : (p v u : ℕ) (t : Temps) (l : Operand) → touches p l ≡ false → OperandIs l u t → OperandIs l u (set_temp p v t)
untouched p v u t (Number n) e is = is
untouched p v u t (Kept i) e is = ap (λ b. if b then Some v else t i.0) e ∙ is

abbrev as_known : Option ℕ → Operand
as_known None = Number 0
as_known (Some u) = Number u

-- an operand's word
abbrev known : Operand → Temps → Operand
known (Number n) t = Number n
known (Kept i) t = as_known (t i.0)

known_is : (u : ℕ) (t t2 : Temps) (l : Operand) → OperandIs l u t → OperandIs (known l t) u t2
known_is u t t2 (Number n) is = is
known_is u t t2 (Kept i) is = subst (λ o. OperandIs (as_known o) u t2) (sym is) refl

left_free : (direct : Bool) (y : Tx) (s : TranslationState) (lh : LeftHeld direct y) (p : ℕ) → (left_state direct y s lh).frame.temps ≤ p → ((i : ℕ) → y ≡ Temp i → i ≢ p) → touches p (left_operand direct y s lh) ≡ false
left_free direct _ s (as_number n) p le apart = refl
left_free direct _ s (as_variable i e) p le apart = ne_eqb i p (apart i refl)
left_free direct y s (as_kept _ e) p le apart = ne_eqb s.frame.temps p (λ f. omega (arith, le, f))

right_free : (y : Tx) (s : TranslationState) (hd : Holding y) (p : ℕ) → (held_as y s hd).after.frame.temps ≤ p → ((i : ℕ) → y ≡ Temp i → i ≢ p) → touches p (held_as y s hd).operand ≡ false
right_free _ s (a_number n) p le apart = refl
right_free _ s (a_temp i) p le apart = ne_eqb i p (apart i refl)
right_free y s (always _) p le apart = ne_eqb s.frame.temps p (λ f. omega (arith, le, f))
right_free y s (another _ e) p le apart = ne_eqb s.frame.temps p (λ f. omega (arith, le, f))

module _ (P : Program) (set : Setting P) (grow : StatesGrow P) (n : ℕ) (sp : Span) (at : ℕ) (a b : Exp) (show_a : LeftSide P n a) (show_b : Shown P n b)
    (x : SituationBy P n (Binary sp op.Times at a b) (binary_by P op.Times at b show_a.by)) (starts : show_a.here x.p x.h x.types x.s x.w x.t)
    (is_int : x.ty ≡ int_type) (type_a : Has P.shapes P.notes a x.p.scope int_type) (type_b : Has P.shapes P.notes b x.p.scope int_type) where
  abbrev Product_ : Exp
  Product_ = Binary sp op.Times at a b

  abbrev multiplies : Value → Value → Rest
  multiplies v y = evaluation.operate Passing (passing P.heap P.stack) op.Times v y x.go x.out

  abbrev exact_value : Option ℕ → Rest
  exact_value o = evaluation.exactly Passing (passing P.heap P.stack) o x.go x.out

  abbrev ToValue : Go ℕ → Type 0
  ToValue go' = Onward P {A = ℕ} n (x.r + left_over) x.p x.h x.types (λ g v u. IsWanted g x.wanted v x.ty u) x.go go'

  module _ (p : ℕ) (idle : x.p.places (temporary x.p.scene.depth p) ≡ nowhere) (go' : Go ℕ) (onward : ToValue go') where
    abbrev done_next : Next
    done_next w t = value_runs P x.p (Temp p) x.p.around go' w t

    abbrev check_next : (l r : Operand) → Next
    check_next l r w t = statements_run P x.p (stm (product_check (operand l) (operand r) (Temp p)) no_stms) x.p.around done_next w t

    abbrev product_next : (l r : Operand) → Next
    product_next l r w t = statements_run P x.p (stm (Move p (tree.Binary bin.Mul (operand l) (operand r))) no_stms) x.p.around (check_next l r) w t

    -- whether the product is exact
    decided : (g : Holdings) (ms : List Ty) (u z : ℕ) (s : SourceWorld) (w : World) (t : Temps) → GrowsTo x.h g → Extends x.types ms → Holds P x.p g ms s w t → u < 2 ^ 32 → z < 2 ^ 32 →
        (d : Bool) → (product_high u z == shift_signed (mul u z) 31) ≡ d →
        FollowsHere P (x.r + 200) n (rest_run (exact_value (exact_product u z)) s) (check_ends P set grow x.p overflow done_next (not d) w (set_temp p (mul u z) t))
    decided g ms u z s w t gg ee hh hu hz true e =
        let low = low_product u z hu hz in
        let same : product_high u z ≡ shift_signed (product_low u z) 31 = eqb-true (product_high u z) (shift_signed (mul u z) 31) e ∙ ap (λ o. shift_signed o 31) low in
        let exact : exact_product u z ≡ Some (mul u z) = (exact_by_sign u z hu hz).exact same ∙ ap Some (sym low) in
        let t2 : Temps = set_temp p (mul u z) t in
        let small : mul u z < 2 ^ 32 = omega arith in
        let c : Run Source = rest_run (exact_value (Some (mul u z))) s in
        subst (λ o. FollowsHere P (x.r + 200) n (rest_run (exact_value o) s) (check_ends P set grow x.p overflow done_next false w t2)) (sym exact)
        (worked P (x.r + 200) (x.r + 200) 0 n c (done_next w t2) (omega arith)
        (worked P (x.r + 200) (x.r + 200) 0 n c (with_word (t2 p) w (λ k. go' k w t2)) (omega arith)
        (subst (λ o. FollowsHere P (x.r + 200) n c (with_word o w (λ k. go' k w t2))) (sym (set_here p (mul u z) t))
        (more P (x.r + left_over) (x.r + 200) n c (go' (mul u z) w t2) (omega arith)
        (onward g ms (int (mul u z)) (mul u z) s w t2 gg ee (holds_with_temp P x.p g ms s w t p (mul u z) idle hh)
        (wanted_of g x.wanted (int (mul u z)) x.ty (mul u z) (subst (λ o. Stands g (int (mul u z)) o (mul u z)) (sym is_int) (an_int (mul u z) small))))))))
    decided g ms u z s w t gg ee hh hu hz false e =
        let low = low_product u z hu hz in
        let none : exact_product u z ≡ None = (exact_by_sign u z hu hz).inexact (λ f. eqb-false (product_high u z) (shift_signed (mul u z) 31) e (f ∙ sym (ap (λ o. shift_signed o 31) low))) in
        subst (λ o. FollowsHere P (x.r + 200) n (rest_run (exact_value o) s) (check_ends P set grow x.p overflow done_next true w (set_temp p (mul u z) t))) (sym none)
        (more P (0 + 7) (x.r + 200) n (rest_run (exact_value None) s) (statement_runs P x.p overflow x.p.around done_next w (set_temp p (mul u z) t)) (omega arith)
        (overflow_follows P set grow x.p 0 n s done_next w (set_temp p (mul u z) t) hh.invariant.input))

    words_multiplied : (g : Holdings) (ms : List Ty) (u z : ℕ) (s : SourceWorld) (w : World) (t : Temps) (l r : Operand) → GrowsTo x.h g → Extends x.types ms → Holds P x.p g ms s w t → u < 2 ^ 32 → z < 2 ^ 32 →
        OperandIs l u t → OperandIs r z t → OperandIs l u (set_temp p (mul u z) t) → OperandIs r z (set_temp p (mul u z) t) → FollowsHere P (x.r + 290) n (rest_run (multiplies (int u) (int z)) s) (product_next l r w t)
    words_multiplied g ms u z s w t l r gg ee hh hu hz il ir kl kr =
        let c : Run Source = rest_run (exact_value (exact_product u z)) s in
        let t2 : Temps = set_temp p (mul u z) t in
        let small = hoisted_small (is_flat (operand r)) in
        let shifted : Tx = tree.Binary bin.ShiftSigned (Temp p) (Const 31) in
        let small2 = hoisted_small (is_flat shifted) in
        let small3 = hoisted_small (is_flat (Const 31)) in
        let ends_ : Bool → World → Temps → Run _ = λ d w3 t3. check_ends P set grow x.p overflow done_next d w3 t3 in
        let moved : ℕ → World → Temps → Run _ = λ v w3 t3. check_next l r w3 (set_temp p v t3) in
        let compared : Go ℕ = λ h w3 t3. value_runs P x.p shifted x.p.around (λ k w4 t4. ends_ (not (h == k)) w4 t4) w3 t3 in
        worked P (x.r + 280) (x.r + 290) 2 n c _ (omega arith)
        (worked P (x.r + 268 + 2 + 2) (x.r + 280) (2 + hoisted_units Trees (is_flat (operand r))) n c _ (omega (arith, small))
        (operand_follows P set grow x.p l u (x.r + 268 + 2) n c (λ i w1 t1. value_runs P x.p (operand r) x.p.around (λ j w3 t3. with_given (operate bin.Mul i j) w3 (λ v. moved v w3 t3)) w1 t1) w t il
        (operand_follows P set grow x.p r z (x.r + 268) n c (λ j w3 t3. with_given (operate bin.Mul u j) w3 (λ v. moved v w3 t3)) w t ir
        (worked P (x.r + 260) (x.r + 268) 4 n c _ (omega arith)
        (worked P (x.r + 250) (x.r + 260) (4 + hoisted_units Trees (is_flat shifted)) n c _ (omega (arith, small2))
        (worked P (x.r + 238 + 2 + 2) (x.r + 250) (2 + hoisted_units Trees (is_flat (operand r))) n c _ (omega (arith, small))
        (operand_follows P set grow x.p l u (x.r + 238 + 2) n c (λ i w1 t1. value_runs P x.p (operand r) x.p.around (λ j w3 t3. with_given (operate bin.MulHigh i j) w3 (λ v. compared v w3 t3)) w1 t1) w t2 kl
        (operand_follows P set grow x.p r z (x.r + 238) n c (λ j w3 t3. with_given (operate bin.MulHigh u j) w3 (λ v. compared v w3 t3)) w t2 kr
        (worked P (x.r + 220) (x.r + 238) (1 + hoisted_units Trees (is_flat (Const 31))) n c _ (omega (arith, small3))
        (worked P (x.r + 220) (x.r + 220) 0 n c (with_word (t2 p) w (λ k. value_runs P x.p (Const 31) x.p.around (λ j w3 t3. with_given (operate bin.ShiftSigned k j) w3 (λ v. ends_ (not (product_high u z == v)) w3 t3)) w t2)) (omega arith)
        (subst (λ o. FollowsHere P (x.r + 220) n c (with_word o w (λ k. value_runs P x.p (Const 31) x.p.around (λ j w3 t3. with_given (operate bin.ShiftSigned k j) w3 (λ v. ends_ (not (product_high u z == v)) w3 t3)) w t2)))
        (sym (set_here p (mul u z) t))
        (worked P (x.r + 200) (x.r + 220) 2 n c _ (omega arith)
        (decided g ms u z s w t gg ee hh hu hz (product_high u z == shift_signed (mul u z) 31) refl)))))))))))))

    -- whatever the operands are
    abbrev beside : Bool → (l r : Operand) → Next
    beside d l r = if d then (λ w t. product_next (known l t) (known r t) w t) else product_next l r

    or_false : (c d : Bool) → (c || d) ≡ false → (c ≡ false) × (d ≡ false)
    or_false true d e = cc
    or_false false d e = (refl, e)

    beside_follows : (g : Holdings) (ms : List Ty) (u z : ℕ) (s : SourceWorld) (w : World) (t : Temps) (l r : Operand) → GrowsTo x.h g → Extends x.types ms → Holds P x.p g ms s w t → u < 2 ^ 32 → z < 2 ^ 32 →
        OperandIs l u t → OperandIs r z t → (d : Bool) → (touches p l || touches p r) ≡ d → FollowsHere P (x.r + 290) n (rest_run (multiplies (int u) (int z)) s) (beside d l r w t)
    beside_follows g ms u z s w t l r gg ee hh hu hz il ir true e =
        words_multiplied g ms u z s w t (known l t) (known r t) gg ee hh hu hz (known_is u t t l il) (known_is z t t r ir) (known_is u t (set_temp p (mul u z) t) l il) (known_is z t (set_temp p (mul u z) t) r ir)
    beside_follows g ms u z s w t l r gg ee hh hu hz il ir false e =
        let f = or_false (touches p l) (touches p r) e in
        words_multiplied g ms u z s w t l r gg ee hh hu hz il ir (untouched p (mul u z) u t l f.0 il) (untouched p (mul u z) z t r f.1 ir)

  abbrev times_last : Stms → Tx → Tx → Translates Made
  times_last before l r = fresh >>= (λ p. give (product_of p before l r))

  pub times_follows : IsShown P n Product_ x
  times_follows =
      let q = sides_of P set grow n Product_ a b show_a x (held_first P set grow n sp op.Times at a b show_a show_b x starts type_a type_b times_last) x.is_made in
      let le : Stms = left_before P set grow n sp op.Times at a b show_a show_b x starts type_a type_b times_last q in
      let lo : Operand = left_is P set grow n sp op.Times at a b show_a show_b x starts type_a type_b times_last q in
      let held = right_as P set grow n sp op.Times at a b show_a show_b x starts type_a type_b times_last q in
      let whole = whole_held P set grow n sp op.Times at a b show_a show_b x starts type_a type_b times_last q in
      let p : ℕ = held.after.frame.temps in
      let final : TranslationState = with_frame (one_temp held.after.frame) held.after in
      let last : Later final x.τ = subst (λ s. Later final s) (ap state_in whole) (later_none final) in
      let rest : Later held.after x.τ = later_on held.after final x.τ (kept_later held.after) last in
      let l1 = left_later P set grow n sp op.Times at a b show_a show_b x starts type_a type_b times_last q in
      let l2 = right_later P set grow n sp op.Times at a b show_a show_b x starts type_a type_b times_last q in
      let l3 = both_later P set grow n sp op.Times at a b show_a show_b x starts type_a type_b times_last q in
      let idle : x.p.places (temporary x.p.scene.depth p) ≡ nowhere = x.ready.temps_free p (let f = l1.temps in let g = l2.temps in let h = l3.temps in omega (arith, f, g, h)) (let f = last.temps in omega (arith, f)) in
      let apart : (i : ℕ) → (place : ℕ) × IsOf place (x.p.places (temporary x.p.scene.depth i)) → i ≢ p =
      λ i named f. of_is_used named.0 (x.p.places (temporary x.p.scene.depth i)) named.1 (ap (λ o. x.p.places (temporary x.p.scene.depth o)) f ∙ idle) in
      let free_l : touches p lo ≡ false = left_free (assigns_nothing b) q.left q.τb (left_as P set grow n sp op.Times at a b show_a show_b x starts type_a type_b times_last q) p (held.later.temps)
      (λ i e. apart i (left_named P set grow n sp op.Times at a b show_a show_b x starts type_a type_b times_last q rest i e)) in
      let free_r : touches p held.operand ≡ false = right_free q.right (between P set grow n sp op.Times at a b show_a show_b x starts type_a type_b times_last q) (holding q.right) p (omega arith)
      (λ i e. apart i (right_named P set grow n sp op.Times at a b show_a show_b x starts type_a type_b times_last q rest i e)) in
      let both : (touches p lo || touches p held.operand) ≡ false = ap (λ o. o || touches p held.operand) free_l ∙ free_r in
      let source : Run Source = rest_run (evaluates P a x.p.env (λ v. evaluates P b x.p.env (λ y. multiplies v y) x.out) x.out) x.s in
      let moves : Stms = stm (Move p (tree.Binary bin.Mul (operand lo) (operand held.operand))) no_stms in
      let checks : Stms = stm (product_check (operand lo) (operand held.operand) (Temp p)) no_stms in
      by_made P n Product_ x (product_of p (join_stms le held.extra) (operand lo) (operand held.operand)) final whole tt
      (λ go' onward.
      let runs = joined_runs P x.p (join_stms (join_stms le held.extra) moves) checks (done_next p idle go' onward) x.w x.t ∙
      (joined_runs P x.p (join_stms le held.extra) moves (check_next p idle go' onward lo held.operand) x.w x.t ∙ joined_runs P x.p le held.extra (product_next p idle go' onward lo held.operand) x.w x.t) in
      paid P x.r n source _
      (worked P (x.r + 255) (x.r + 256) 0 n source _ (omega arith)
      (worked P (x.r + 255) (x.r + 255) 0 n source _ (omega arith)
      (subst (λ o. FollowsHere P (x.r + 255) n source o) (sym runs)
      (subst (λ o. FollowsHere P (x.r + 255) n source (statements_run P x.p le x.p.around (λ w1 t1. statements_run P x.p held.extra x.p.around (beside p idle go' onward o lo held.operand) w1 t1) x.w x.t)) both
      (sides_held P set grow n sp op.Times at a b show_a show_b x starts type_a type_b times_last q rest multiplies (λ l r. beside p idle go' onward (touches p l || touches p r) l r)
      (λ g ms v y u z s w t l r gg ee hh sv sy il ir.
      let i = stands_int g v u sv in
      let j = stands_int g y z sy in
      subst (λ o. FollowsHere P (x.r + 290) n (rest_run o s) (beside p idle go' onward (touches p l || touches p r) l r w t)) (sym (ap (λ o. multiplies o y) i.0 ∙ ap (λ o. multiplies (int u) o) j.0))
      (beside_follows p idle go' onward g ms u z s w t l r gg ee hh i.1 j.1 il ir (touches p l || touches p r) refl))))))))

pub times_by : (P : Program) (set : Setting P) (grow : StatesGrow P) (n : ℕ) (sp : Span) (at : ℕ) (a b : Exp) (left : LeftSide P n a) → Shown P n b →
    (x : SituationBy P n (Binary sp op.Times at a b) (binary_by P op.Times at b left.by)) → left.here x.p x.h x.types x.s x.w x.t →
    x.ty ≡ int_type → Has P.shapes P.notes a x.p.scope int_type → Has P.shapes P.notes b x.p.scope int_type → IsShown P n (Binary sp op.Times at a b) x
times_by P set grow n sp at a b show_a show_b x starts is_int type_a type_b = times_follows P set grow n sp at a b show_a show_b x starts is_int type_a type_b

pub times_shown : (P : Program) (set : Setting P) (grow : StatesGrow P) (n : ℕ) (sp : Span) (at : ℕ) (a b : Exp) → Shown P n a → Shown P n b → (x : Situation P n (Binary sp op.Times at a b)) →
    x.ty ≡ int_type → Has P.shapes P.notes a x.p.scope int_type → Has P.shapes P.notes b x.p.scope int_type → IsShown P n (Binary sp op.Times at a b) x
times_shown P set grow n sp at a b show_a show_b x is_int type_a type_b =
    times_by P set grow n sp at a b (plain_left P n a (grow a) show_a) show_b x tt is_int type_a type_b
