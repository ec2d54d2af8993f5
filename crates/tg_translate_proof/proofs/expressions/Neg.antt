-- The negation of an int.
use Rattle.std.proofs.Common.{◌≡◌, ◌≢◌, ℕ, ◌+◌, ◌-◌, ◌%◌, ◌^◌, ◌<◌, ◌≤◌, ◌==◌, List, Option, Some, None, Bool, true, false, refl, sym, ap, ◌∙◌, arith, subst, ℤ, pos, negsuc, ◌-ℤ◌, inl, inr, eqb-true, eq-eqb}
use Rattle.std.specs.Prelude.{if◌then◌else◌, ◌⊎◌}
use Rattle.std.proofs.lemmas.Int.{ints}
use Rattle.std.proofs.lemmas.Bool.{cases_lt}
use Rattle.std.proofs.lemmas.Grind.{common_steps}
use Rattle.tg_base.specs.declared.ids.Span.{Span}
use Rattle.tg_base.specs.Words.{signed, exact_difference, sub}
use Rattle.tg_syntax.specs.declared.trees.Op.TheVariants as op
use Rattle.tg_syntax.specs.Tree.{Exp, Neg}
use Rattle.tg_simulation.specs.Runs.{Run}
use Rattle.tg_semantics.specs.Values.{Value, int}
use Rattle.tg_semantics.specs.Passing.{Rest, Passing, passing}
use Rattle.tg_semantics.specs.Evaluation as evaluation
use Rattle.tg_semantics.specs.MachineRuns.{rest_run}
use Rattle.tg_typecheck.specs.Types.{Ty, int_type}
use Rattle.tg_typecheck.specs.Scopes.{Scope}
use Rattle.tg_typecheck.specs.Has as has
use Rattle.tg_typecheck.specs.Has.{Has}
use Rattle.tg_tree.specs.declared.operators.Bin.TheVariants.{SubTrap}
use Rattle.tg_tree.specs.Tree as tree
use Rattle.tg_tree.specs.Tree.{Tx, Const}
use Rattle.tg_tree.specs.Shapes.{is_flat}
use Rattle.tg_tree.specs.Units.{Trees, hoisted_units}
use Rattle.tg_tree.specs.Operators.{exactly}
use Rattle.tg_tree.specs.Actions.{World, Temps, Go, with_given}
use Rattle.tg_translate.specs.declared.wants.Want.TheVariants as want
use Rattle.tg_translate.specs.mirror.States.{TranslationState, drawn}
use Rattle.tg_translate.specs.mirror.Wants.{Made, value, value_from}
use Rattle.tg_translate.specs.mirror.Constructs.{negation, least_int}
use Rattle.tg_translate.specs.mirror.Translate.{expression}
use Rattle.tg_translate_proof.specs.glue.Tables.{Later}
use Rattle.tg_translate_proof.specs.glue.Situations.{Program, Setting, value_runs}
use Rattle.tg_translate_proof.specs.glue.Shown.{Shown, IsShown, Situation, FollowsHere, Onward, IsWanted, left_over, evaluates}
use Rattle.tg_translate_proof.proofs.state.TranslationStates.{after_inv, state_in, later_none}
use Rattle.tg_translate_proof.proofs.invariant.Cases.{by_made, worked}
use Rattle.tg_translate_proof.proofs.invariant.Parts.{StatesGrow, Piece, Behind, at_begin, sub_value, more, paid}
use Rattle.tg_translate_proof.proofs.state.ValueWords.{stands_int, int_has_values}
use Rattle.tg_translate_proof.proofs.expressions.BinarySides.{hoisted_small}
use Rattle.tg_translate_proof.proofs.expressions.BinaryPlusMinus.{within_small, exactly_follows}

-- but for the least int, an int has a negation
negated_low : (n : ℕ) → n < 2147483648 → exact_difference 0 n ≡ Some (sub 0 n)
negated_low n small = grind (arith, common_steps, ints)

negated_high : (n : ℕ) → 2147483648 < n → n < 2 ^ 32 → exact_difference 0 n ≡ Some (sub 0 n)
negated_high n large small = grind (arith, common_steps, ints)

exact_negation : (n : ℕ) → n < 2 ^ 32 → n ≢ least_int → exact_difference 0 n ≡ Some (sub 0 n)
exact_negation n small ne = by (cases_lt n 2147483648)
  where
    by : (n < 2147483648) ⊎ (2147483648 ≤ n) → exact_difference 0 n ≡ Some (sub 0 n)
    by (inl lt) = negated_low n lt
    by (inr le) = negated_high n (omega (arith, le, ne)) small

-- what a negation is made: a number's is a number, unless it overflows
pub data Negated (y : Tx) : Type 0 where
  a_number : (n : ℕ) → y ≡ Const n → n ≢ least_int → negation y ≡ Const (sub 0 n) → Negated y
  an_operator : negation y ≡ tree.Binary SubTrap (Const 0) y → Negated y

pub negated : (y : Tx) → Negated y
negated (Const n) = by (n == least_int) refl
  where
    by : (b : Bool) → (n == least_int) ≡ b → Negated (Const n)
    by true e = an_operator (ap (λ o. if o then tree.Binary SubTrap (Const 0) (Const n) else Const (sub 0 n)) e)
    by false e =
        a_number n refl (λ f. let t : (n == least_int) ≡ true = eq-eqb n least_int f in let g = sym e ∙ t in cc)
        (ap (λ o. if o then tree.Binary SubTrap (Const 0) (Const n) else Const (sub 0 n)) e)
negated _ = an_operator refl

module _ (P : Program) (set : Setting P) (grow : StatesGrow P) (n : ℕ) (sp : Span) (a : Exp) (show_a : Shown P n a) where
  neg_typed : (scope : Scope) (t : Ty) → Has P.shapes P.notes (Neg sp a) scope t → (t ≡ int_type) × Has P.shapes P.notes a scope int_type
  neg_typed scope _ (has.neg h) = (refl, h)

  module _ (x : Situation P n (Neg sp a)) where
    abbrev E_ : Exp
    E_ = Neg sp a

    is_int : x.ty ≡ int_type
    is_int = (neg_typed x.p.scope x.ty x.typed).0

    abbrev piece : Piece P set grow n E_ x a int_type
    piece = record { shown = show_a; typed = (neg_typed x.p.scope x.ty x.typed).1; words = x.words; covers = x.covers; may_assign = x.may_assign }

    -- what the source does with the value
    abbrev negates : Value → Rest
    negates v = evaluation.operate Passing (passing P.heap P.stack) op.Minus (int 0) v x.go x.out

    -- the value, and then a word that is exact, or overflow
    operand_follows : (y : Tx) (τ : TranslationState) → value_from (λ s. expression P.findings a want.Value x.p.within s) x.σ ≡ drawn y τ → Later τ x.τ → (go' go2 : Go ℕ) →
        Onward P {A = ℕ} n (x.r + left_over) x.p x.h x.types (λ g v u. IsWanted g x.wanted v x.ty u) x.go go' →
        ((u : ℕ) (w : World) (t : Temps) → u < 2 ^ 32 → go2 u w t ≡ with_given (exactly (exact_difference 0 u)) w (λ r. go' r w t)) →
        FollowsHere P (x.r + 244) n (rest_run (evaluates P a x.p.env negates x.out) x.s) (value_runs P x.p y x.p.around go2 x.w x.t)
    operand_follows y τ made last go' go2 onward same =
        sub_value P set grow n E_ x (at_begin P set grow n E_ x (x.r + 240) (omega arith)) a int_type piece (x.r + 244) (omega arith) int_has_values y τ made last negates go2
        (λ c v u l st.
        let i = stands_int c.h v u st in
        subst (λ z. FollowsHere P (x.r + 240 + 56) n (rest_run (negates z) c.s) (go2 u c.w c.t)) (sym i.0)
        (subst (λ d. FollowsHere P (x.r + 240 + 56) n (rest_run (negates (int u)) c.s) d) (sym (same u c.w c.t i.1))
        (exactly_follows P set grow n E_ x (x.r + 240) (x.r + 240 + 56) (omega arith) c go' (exact_difference 0 u) (omega arith) is_int
        (λ w e. within_small (signed 0 -ℤ signed u) w e) onward)))

    pub neg_shown : IsShown P n E_ x
    neg_shown =
        let i = after_inv (value_from (λ s. expression P.findings a want.Value x.p.within s) x.σ) _ x.m x.τ x.is_made in
        let last : Later i.1 x.τ = subst (λ s. Later i.1 s) (ap state_in i.3) (later_none i.1) in
        by i.0 i.1 i.2 i.3 last (negated i.0)
      where
        by : (y : Tx) (τ : TranslationState) → value_from (λ s. expression P.findings a want.Value x.p.within s) x.σ ≡ drawn y τ → drawn (value (negation y)) τ ≡ drawn x.m x.τ → Later τ x.τ →
            Negated y → IsShown P n E_ x
        by y τ made whole last (an_operator is) =
            by_made P n E_ x (value (tree.Binary SubTrap (Const 0) y)) τ (sym (ap (λ z. drawn (value z) τ) is) ∙ whole) tt
            (λ go' onward.
            paid P x.r n _ _
            (worked P (x.r + 253) (x.r + 256) (1 + hoisted_units Trees (is_flat y)) n _ _ (let small = hoisted_small (is_flat y) in omega (arith, small))
            (worked P (x.r + 244) (x.r + 253) 2 n _ _ (omega arith)
            (operand_follows y τ made last go' (λ u w t. with_given (exactly (exact_difference 0 u)) w (λ r. go' r w t)) onward (λ u w t small. refl)))))
        by y τ made whole last (a_number k y_is not_least is) =
            by_made P n E_ x (value (Const (sub 0 k))) τ (sym (ap (λ z. drawn (value z) τ) is) ∙ whole) tt
            (λ go' onward.
            paid P x.r n _ _
            (more P (x.r + 244) (x.r + 256) n _ _ (omega arith)
            (subst (λ b. FollowsHere P (x.r + 244) n (rest_run (evaluates P a x.p.env negates x.out) x.s)
            (value_runs P x.p (Const k) x.p.around (λ u w t. (if b then go' (sub 0 k) else (λ w2 t2. with_given (exactly (exact_difference 0 u)) w2 (λ r. go' r w2 t2))) w t) x.w x.t)) (eq-eqb k k refl)
            (subst (λ z. FollowsHere P (x.r + 244) n (rest_run (evaluates P a x.p.env negates x.out) x.s) (value_runs P x.p z x.p.around (chosen go' k) x.w x.t)) y_is
            (operand_follows y τ made last go' (chosen go' k) onward (chosen_is go' k not_least))))))
          where
            chosen : Go ℕ → ℕ → Go ℕ
            chosen go' k u w t = (if u == k then go' (sub 0 k) else (λ w2 t2. with_given (exactly (exact_difference 0 u)) w2 (λ r. go' r w2 t2))) w t

            chosen_is : (go' : Go ℕ) (k : ℕ) → k ≢ least_int → (u : ℕ) (w : World) (t : Temps) → u < 2 ^ 32 → chosen go' k u w t ≡ with_given (exactly (exact_difference 0 u)) w (λ r. go' r w t)
            chosen_is go' k ne u w t small = by_test (u == k) refl
              where
                by_test : (b : Bool) → (u == k) ≡ b → chosen go' k u w t ≡ with_given (exactly (exact_difference 0 u)) w (λ r. go' r w t)
                by_test true e =
                    let same : u ≡ k = eqb-true u k e in
                    ap (λ b. (if b then go' (sub 0 k) else (λ w2 t2. with_given (exactly (exact_difference 0 u)) w2 (λ r. go' r w2 t2))) w t) e ∙
                    (ap (λ o. go' (sub 0 o) w t) (sym same) ∙ sym (ap (λ o. with_given (exactly o) w (λ r. go' r w t)) (exact_negation u small (λ f. ne (sym same ∙ f)))))
                by_test false e = ap (λ b. (if b then go' (sub 0 k) else (λ w2 t2. with_given (exactly (exact_difference 0 u)) w2 (λ r. go' r w2 t2))) w t) e
