-- Sums, differences and comparisons of ints.
use Rattle.std.proofs.Common.{◌≡◌, ◌≢◌, ℕ, ◌+◌, ◌^◌, ◌<◌, ◌≤◌, ◌==◌, List, Option, Some, None, Bool, true, false, refl, sym, ap, ◌∙◌, arith, subst, ℤ, pos, negsuc, ◌+ℤ◌, ◌-ℤ◌}
use Rattle.std.specs.Prelude.{not, if◌then◌else◌}
use Rattle.std.proofs.lemmas.Int.{ints}
use Rattle.std.proofs.lemmas.Grind.{common_steps}
use Rattle.tg_base.specs.declared.ids.Span.{Span}
use Rattle.tg_base.specs.Words.{signed, exact_sum, exact_difference, within, is_word, unsigned, less}
use Rattle.tg_syntax.specs.declared.trees.Op.{Op}
use Rattle.tg_syntax.specs.declared.trees.Op.TheVariants as op
use Rattle.tg_syntax.specs.Tree.{Exp, Binary}
use Rattle.tg_simulation.specs.Runs.{Run}
use Rattle.tg_simulation.specs.Ran.{Ran}
use Rattle.tg_semantics.specs.Values.{Value, int, by_overflow}
use Rattle.tg_semantics.specs.Passing.{Rest, Passing, passing}
use Rattle.tg_semantics.specs.Evaluation as evaluation
use Rattle.tg_semantics.specs.MachineRuns.{rest_run}
use Rattle.tg_semantics.specs.Operators.{truth}
use Rattle.tg_typecheck.specs.Types.{Ty, int_type}
use Rattle.tg_typecheck.specs.Scopes.{Scope}
use Rattle.tg_typecheck.specs.declared.notes.Means.TheVariants as means
use Rattle.tg_typecheck.specs.Has as has
use Rattle.tg_typecheck.specs.Has.{Has, Says}
use Rattle.tg_tree.specs.declared.operators.Bin.{Bin}
use Rattle.tg_tree.specs.declared.operators.Bin.TheVariants as bin
use Rattle.tg_tree.specs.declared.operators.Rel.{Rel}
use Rattle.tg_tree.specs.declared.operators.Rel.TheVariants as rel
use Rattle.tg_tree.specs.Tree as tree
use Rattle.tg_tree.specs.Tree.{Tx}
use Rattle.tg_tree.specs.Shapes.{is_flat}
use Rattle.tg_tree.specs.Units.{Trees, hoisted_units}
use Rattle.tg_tree.specs.Operators.{exactly, holds}
use Rattle.tg_tree.specs.Actions.{World, Temps, Go, with_given}
use Rattle.tg_translate.specs.declared.homes.Within.{Within}
use Rattle.tg_translate.specs.declared.wants.Want.{Want}
use Rattle.tg_translate.specs.mirror.States.{TranslationState, drawn, Translates, give}
use Rattle.tg_translate.specs.mirror.Wants.{Made, value, test}
use Rattle.tg_translate.specs.mirror.Constructs.{comparison, operation}
use Rattle.tg_translate.specs.mirror.Scopes.{compares_strings}
use Rattle.tg_translate.specs.mirror.Purity.{assigns_nothing}
use Rattle.tg_translate_proof.specs.glue.Tables.{Later}
use Rattle.tg_translate_proof.specs.glue.Worlds.{Holdings, Stands, an_int}
use Rattle.tg_translate_proof.specs.glue.Situations.{Program, Setting, value_runs, test_runs}
use Rattle.tg_translate_proof.specs.glue.Shown.{Shown, IsShown, Situation, SituationBy, FollowsHere, Onward, IsWanted, IsTold, left_over, evaluates}
use Rattle.tg_translate_proof.proofs.state.TranslationStates.{state_in, later_none}
use Rattle.tg_translate_proof.proofs.invariant.Cases.{by_made, wanted_of, worked, truth_is_set}
use Rattle.tg_translate_proof.proofs.expressions.BinaryLeft.{LeftSide, plain_left, binary_by}
use Rattle.tg_translate_proof.proofs.invariant.Parts.{StatesGrow, Piece, LeftPiece, Behind, at_begin, more, paid, stop_follows}
use Rattle.tg_translate_proof.proofs.state.ValueWords.{stands_int, int_has_values, told_truth}
use Rattle.tg_translate_proof.proofs.expressions.BinarySides.{Sides, sides_of, sides_follow, hoisted_small, may_left, may_right}

word_small : (z : ℤ) → is_word z ≡ true → unsigned z < 2 ^ 32
word_small (pos n) h = grind (arith, common_steps, ints)
word_small (negsuc n) h = grind (arith, common_steps, ints)

-- what is exact is a word
pub within_small : (z : ℤ) (v : ℕ) → within z ≡ Some v → v < 2 ^ 32
within_small z v e = by (is_word z) refl e
  where
    by : (b : Bool) → is_word z ≡ b → (if b then Some (unsigned z) else None) ≡ Some v → v < 2 ^ 32
    by true f g = let same : unsigned z ≡ v = cc in subst (λ o. o < 2 ^ 32) same (word_small z f)
    by false f g = cc

module _ (P : Program) (set : Setting P) (grow : StatesGrow P) where
  -- a word that is exact, or overflow
  pub exactly_follows : {made_by : Want → Within → Translates Made} → (n : ℕ) (E : Exp) (x : SituationBy P n E made_by) (r0 k : ℕ) (le0 : x.r ≤ r0) (c : Behind P set grow n E x (at_begin P set grow n E x r0 le0)) (go' : Go ℕ) (o : Option ℕ) →
      x.r + left_over ≤ k → x.ty ≡ int_type → ((v : ℕ) → o ≡ Some v → v < 2 ^ 32) →
      Onward P {A = ℕ} n (x.r + left_over) x.p x.h x.types (λ g v u. IsWanted g x.wanted v x.ty u) x.go go' →
      FollowsHere P k n (rest_run (evaluation.exactly Passing (passing P.heap P.stack) o x.go x.out) c.s) (with_given (exactly o) c.w (λ v. go' v c.w c.t))
  exactly_follows n E x r0 k le0 c go' (Some v) le is_int small onward =
      more P (x.r + left_over) k n (rest_run (x.go (int v)) c.s) (go' v c.w c.t) le
      (onward c.h c.types (int v) v c.s c.w c.t c.grows c.extends c.holds (wanted_of c.h x.wanted (int v) x.ty v (subst (λ o. Stands c.h (int v) o v) (sym is_int) (an_int v (small v refl)))))
  exactly_follows n E x r0 k le0 c go' None le is_int small onward = stop_follows P k n by_overflow c.s c.w c.holds.invariant.input

  -- A sum or a difference: the operator on both sides, whose exact result is the value.
  module _ (n : ℕ) (sp : Span) (o : Op) (at : ℕ) (a b : Exp) (show_a : LeftSide P n a) (show_b : Shown P n b)
      (x : SituationBy P n (Binary sp o at a b) (binary_by P o at b show_a.by)) (begun : show_a.here x.p x.h x.types x.s x.w x.t)
      (is_int : x.ty ≡ int_type) (type_a : Has P.shapes P.notes a x.p.scope int_type) (type_b : Has P.shapes P.notes b x.p.scope int_type) where
    abbrev pub piece_a : LeftPiece P set grow n (Binary sp o at a b) x a show_a int_type
    piece_a = record { begun = begun; typed = type_a; words = x.words.0; covers = x.covers.0; may_assign = may_left P x.p sp o at a b x.may_assign }

    abbrev pub piece_b : Piece P set grow n (Binary sp o at a b) x b int_type
    piece_b = record { shown = show_b; typed = type_b; words = x.words.1; covers = x.covers.1; may_assign = may_right P x.p sp o at a b x.may_assign }

    -- what the source does with both values
    abbrev pub operates : Value → Value → Rest
    operates v y = evaluation.operate Passing (passing P.heap P.stack) o v y x.go x.out

    pub sum_follows : (one : Bin) (exact : ℕ → ℕ → Option ℕ) →
        ((u v : ℕ) → operates (int u) (int v) ≡ evaluation.exactly Passing (passing P.heap P.stack) (exact u v) x.go x.out) →
        ((u v w : ℕ) → exact u v ≡ Some w → w < 2 ^ 32) →
        (q : Sides P set grow n (Binary sp o at a b) a b show_a x (λ l r. give (value (tree.Binary one l r)))) (go' : Go ℕ) →
        Onward P {A = ℕ} n (x.r + left_over) x.p x.h x.types (λ g v u. IsWanted g x.wanted v x.ty u) x.go go' →
        FollowsHere P (x.r + 249 + 4) n (rest_run (evaluates P a x.p.env (λ v. evaluates P b x.p.env (λ y. operates v y) x.out) x.out) x.s)
        (value_runs P x.p q.left x.p.around (λ u w1 t1. value_runs P x.p q.right x.p.around (λ k w2 t2. with_given (exactly (exact u k)) w2 (λ r. go' r w2 t2)) w1 t1) x.w x.t)
    sum_follows one exact same small q go' onward =
        sides_follow P set grow n (Binary sp o at a b) a b show_a x (λ l r. give (value (tree.Binary one l r))) q int_type int_type piece_a piece_b int_has_values int_has_values
        (subst (λ s. Later q.τb s) (ap state_in q.whole) (later_none q.τb)) (x.r + 249) (omega arith) operates (λ u k w2 t2. with_given (exactly (exact u k)) w2 (λ r. go' r w2 t2))
        (λ c v y u k l st st2.
        let i = stands_int c.h v u st in
        let j = stands_int c.h y k st2 in
        subst (λ z. FollowsHere P (x.r + 249 + 108) n (rest_run z c.s) (with_given (exactly (exact u k)) c.w (λ r. go' r c.w c.t))) (sym (ap (λ z. operates z y) i.0 ∙ (ap (λ z. operates (int u) z) j.0 ∙ same u k)))
        (exactly_follows n (Binary sp o at a b) x (x.r + 249) (x.r + 249 + 108) (omega arith) c go' (exact u k) (omega arith) is_int (small u k) onward))

  pub plus_by : (n : ℕ) (sp : Span) (at : ℕ) (a b : Exp) (left : LeftSide P n a) → Shown P n b →
      (x : SituationBy P n (Binary sp op.Plus at a b) (binary_by P op.Plus at b left.by)) → left.here x.p x.h x.types x.s x.w x.t →
      x.ty ≡ int_type → Has P.shapes P.notes a x.p.scope int_type → Has P.shapes P.notes b x.p.scope int_type → IsShown P n (Binary sp op.Plus at a b) x
  plus_by n sp at a b show_a show_b x begun is_int type_a type_b =
      let E : Exp = Binary sp op.Plus at a b in
      let q = sides_of P set grow n E a b show_a x (λ l r. give (value (tree.Binary bin.AddTrap l r))) x.is_made in
      by_made P n E x (value (tree.Binary bin.AddTrap q.left q.right)) q.τb q.whole tt
      (λ go' onward.
      paid P x.r n _ _
      (worked P (x.r + 249 + 4) (x.r + 256) (1 + hoisted_units Trees (is_flat q.right)) n _ _ (let small = hoisted_small (is_flat q.right) in omega (arith, small))
      (sum_follows n sp op.Plus at a b show_a show_b x begun is_int type_a type_b bin.AddTrap exact_sum (λ u v. refl) (λ u v w e. within_small (signed u +ℤ signed v) w e) q go' onward)))

  pub minus_by : (n : ℕ) (sp : Span) (at : ℕ) (a b : Exp) (left : LeftSide P n a) → Shown P n b →
      (x : SituationBy P n (Binary sp op.Minus at a b) (binary_by P op.Minus at b left.by)) → left.here x.p x.h x.types x.s x.w x.t →
      x.ty ≡ int_type → Has P.shapes P.notes a x.p.scope int_type → Has P.shapes P.notes b x.p.scope int_type → IsShown P n (Binary sp op.Minus at a b) x
  minus_by n sp at a b show_a show_b x begun is_int type_a type_b =
      let E : Exp = Binary sp op.Minus at a b in
      let q = sides_of P set grow n E a b show_a x (λ l r. give (value (tree.Binary bin.SubTrap l r))) x.is_made in
      by_made P n E x (value (tree.Binary bin.SubTrap q.left q.right)) q.τb q.whole tt
      (λ go' onward.
      paid P x.r n _ _
      (worked P (x.r + 249 + 4) (x.r + 256) (1 + hoisted_units Trees (is_flat q.right)) n _ _ (let small = hoisted_small (is_flat q.right) in omega (arith, small))
      (sum_follows n sp op.Minus at a b show_a show_b x begun is_int type_a type_b bin.SubTrap exact_difference (λ u v. refl) (λ u v w e. within_small (signed u -ℤ signed v) w e) q go' onward)))

  pub plus_shown : (n : ℕ) (sp : Span) (at : ℕ) (a b : Exp) → Shown P n a → Shown P n b → (x : Situation P n (Binary sp op.Plus at a b)) →
      x.ty ≡ int_type → Has P.shapes P.notes a x.p.scope int_type → Has P.shapes P.notes b x.p.scope int_type → IsShown P n (Binary sp op.Plus at a b) x
  plus_shown n sp at a b show_a show_b x is_int type_a type_b = plus_by n sp at a b (plain_left P n a (grow a) show_a) show_b x tt is_int type_a type_b

  pub minus_shown : (n : ℕ) (sp : Span) (at : ℕ) (a b : Exp) → Shown P n a → Shown P n b → (x : Situation P n (Binary sp op.Minus at a b)) →
      x.ty ≡ int_type → Has P.shapes P.notes a x.p.scope int_type → Has P.shapes P.notes b x.p.scope int_type → IsShown P n (Binary sp op.Minus at a b) x
  minus_shown n sp at a b show_a show_b x is_int type_a type_b = minus_by n sp at a b (plain_left P n a (grow a) show_a) show_b x tt is_int type_a type_b
