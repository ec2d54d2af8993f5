-- Comparisons of records and of arrays, which are by identity: the tree compares their addresses, and of two objects the
-- later one has the higher address.
use Rattle.std.proofs.Common.{◌≡◌, ◌≢◌, ℕ, suc, ◌+◌, ◌*◌, ◌<◌, ◌≤◌, ◌==◌, List, [], ◌∷◌, Option, Some, None, Bool, true, false, refl, sym, ap, ◌∙◌, arith, subst, inl, inr, eq-eqb, ne_eqb}
use Rattle.std.specs.Prelude.{not, slice_get}
use Rattle.std.proofs.lemmas.Bool.{cases_order}
use Rattle.tg_machine_state.specs.State.{heap_base}
use Rattle.tg_base.specs.declared.ids.Span.{Span}
use Rattle.tg_syntax.specs.declared.trees.Op.{Op}
use Rattle.tg_syntax.specs.declared.trees.Op.TheVariants as op
use Rattle.tg_syntax.specs.Tree.{Exp, Binary}
use Rattle.tg_symbols.specs.Tables.{looked_up}
use Rattle.tg_simulation.specs.Runs.{Run}
use Rattle.tg_simulation.specs.Ran.{Ran}
use Rattle.tg_simulation.specs.Changes.{costs}
use Rattle.tg_simulation.specs.Agreement.{Source}
use Rattle.tg_simulation.proofs.Following.{follows_along}
use Rattle.tg_semantics.specs.Values.{Value, nil, reference, SourceWorld}
use Rattle.tg_semantics.specs.Evaluation as E
use Rattle.tg_semantics.specs.Operators.{identity, truth}
use Rattle.tg_semantics.specs.MachineRuns.{rest_run}
use Rattle.tg_semantics.specs.Passing.{Rest, Passing, passing}
use Rattle.tg_typecheck.specs.declared.notes.Means.TheVariants as means
use Rattle.tg_typecheck.specs.Types.{Ty, int_type, nil_type, none_type, record_type, array_type}
use Rattle.tg_typecheck.specs.Has.{Says, Compares, Identifies, Alike, records, arrays, nil_and, and_nil}
use Rattle.tg_tree.specs.Tree as tree
use Rattle.tg_tree.specs.Tree.{Tx}
use Rattle.tg_tree.specs.Shapes.{is_flat}
use Rattle.tg_tree.specs.Units.{Trees, hoisted_units}
use Rattle.tg_tree.specs.Operators.{holds}
use Rattle.tg_tree.specs.Actions.{World, Temps, Go}
use Rattle.tg_translate.specs.declared.wants.Want.{Want}
use Rattle.tg_translate.specs.mirror.Choices.{left_want}
use Rattle.tg_translate.specs.mirror.Constructs.{comparison, relation}
use Rattle.tg_translate.specs.mirror.Purity.{assigns_nothing}
use Rattle.tg_translate.specs.mirror.Scopes.{compares_strings}
use Rattle.tg_translate.specs.mirror.States.{drawn, Translates, after, give}
use Rattle.tg_translate.specs.mirror.Translate.{expression, with_left}
use Rattle.tg_translate.specs.mirror.Wants.{Made, test}
use Rattle.tg_correctness.specs.laws.Laws.{tree_work}
use Rattle.tg_translate_proof.specs.glue.Tables.{Later}
use Rattle.tg_translate_proof.specs.glue.Worlds as worlds
use Rattle.tg_translate_proof.specs.glue.Worlds.{Holdings, Stands, a_nil, a_nil_record, a_record, an_array}
use Rattle.tg_translate_proof.specs.glue.Situations.{Program, Setting, Holds, test_runs}
use Rattle.tg_translate_proof.specs.glue.Shown.{Situation, IsShown, FollowsHere, left_over, evaluates, Onward, IsTold}
use Rattle.tg_translate_proof.proofs.state.TranslationStates.{after_inv, state_in, later_none}
use Rattle.tg_translate_proof.proofs.invariant.Cases.{by_made, worked, truth_is_set}
use Rattle.tg_translate_proof.proofs.expressions.BinaryLeft.{LeftSide, plain_left}
use Rattle.tg_translate_proof.proofs.invariant.Parts.{StatesGrow, Piece, Behind, at_begin, more, paid}
use Rattle.tg_translate_proof.proofs.expressions.BinarySides.{Sides, sides_of, sides_follow, hoisted_small}
use Rattle.tg_translate_proof.proofs.state.ValueWords.{told_truth}
use Rattle.tg_translate_proof.proofs.expressions.BinaryStringComparisons.{both_made, made_both, wants_value, operates, source_both, functions_are}

-- What is compared by identity: an object, or nil.
pub data Identity (h : Holdings) : Value → ℕ → Type 0 where
  no_object : Identity h nil 0
  an_object : (r a : ℕ) (made : worlds.Made) → slice_get h.objects r ≡ Some (a, made) → Identity h (reference r) a

of_record : (h : Holdings) (v : Value) (at u : ℕ) → Stands h v (record_type at) u → Identity h v u
of_record h _ _ _ (a_nil_record at) = no_object
of_record h _ _ _ (a_record r at a e) = an_object r a (worlds.record_of at) e

of_array : (h : Holdings) (v : Value) (at u : ℕ) → Stands h v (array_type at) u → Identity h v u
of_array h _ _ _ (an_array r at count a e) = an_object r a (worlds.array_of at count) e

of_nil : (h : Holdings) (v : Value) (u : ℕ) → Stands h v nil_type u → Identity h v u
of_nil h _ _ a_nil = no_object

of_alike : (h : Holdings) (t w : Ty) (v y : Value) (u k : ℕ) → Alike t w → Stands h v t u → Stands h y w k →
    Identity h v u × Identity h y k
of_alike h _ _ v y u k (records {at = at}) a b = (of_record h v at u a, of_record h y at k b)
of_alike h _ _ v y u k (arrays {at = at}) a b = (of_array h v at u a, of_array h y at k b)
of_alike h _ _ v y u k (nil_and {at = at}) a b = (of_nil h v u a, of_record h y at k b)
of_alike h _ _ v y u k (and_nil {at = at}) a b = (of_record h v at u a, of_nil h y k b)

alike_left : (t w : Ty) → Alike t w → t ≢ none_type
alike_left _ _ (records {at = at}) e = cc
alike_left _ _ (arrays {at = at}) e = cc
alike_left _ _ (nil_and {at = at}) e = cc
alike_left _ _ (and_nil {at = at}) e = cc

alike_right : (t w : Ty) → Alike t w → w ≢ none_type
alike_right _ _ (records {at = at}) e = cc
alike_right _ _ (arrays {at = at}) e = cc
alike_right _ _ (nil_and {at = at}) e = cc
alike_right _ _ (and_nil {at = at}) e = cc

identifies_compares : (o : Op) → Identifies o → Compares o
identifies_compares op.Equal i = λ same less greater. (same, refl)
identifies_compares op.NotEqual i = λ same less greater. (not same, refl)
identifies_compares op.Less i = let e = (i true).1 in cc
identifies_compares op.LessEqual i = let e = (i true).1 in cc
identifies_compares op.Greater i = let e = (i true).1 in cc
identifies_compares op.GreaterEqual i = let e = (i true).1 in cc
identifies_compares op.Plus i = let e = (i true).1 in cc
identifies_compares op.Minus i = let e = (i true).1 in cc
identifies_compares op.Times i = let e = (i true).1 in cc
identifies_compares op.Divide i = let e = (i true).1 in cc
identifies_compares op.And i = let e = (i true).1 in cc
identifies_compares op.Or i = let e = (i true).1 in cc

told_identity : (o : Op) → Identifies o → (u k : ℕ) → identity o (u == k) ≡ Some (holds (relation o) u k)
told_identity op.Equal i u k = refl
told_identity op.NotEqual i u k = refl
told_identity op.Less i u k = let e = (i true).1 in cc
told_identity op.LessEqual i u k = let e = (i true).1 in cc
told_identity op.Greater i u k = let e = (i true).1 in cc
told_identity op.GreaterEqual i u k = let e = (i true).1 in cc
told_identity op.Plus i u k = let e = (i true).1 in cc
told_identity op.Minus i u k = let e = (i true).1 in cc
told_identity op.Times i u k = let e = (i true).1 in cc
told_identity op.Divide i u k = let e = (i true).1 in cc
told_identity op.And i u k = let e = (i true).1 in cc
told_identity op.Or i u k = let e = (i true).1 in cc

module _ (P : Program) where
  -- Addresses tell objects apart.
  module _ (h : Holdings) (in_heap : (r : ℕ) (o : ℕ × worlds.Made) → slice_get h.objects r ≡ Some o → heap_base ≤ o.0)
      (addresses : (q r : ℕ) (o p : ℕ × worlds.Made) → q < r → slice_get h.objects q ≡ Some o → slice_get h.objects r ≡ Some p → o.0 < p.0) where
    same_address : (r q a b : ℕ) (m l : worlds.Made) → slice_get h.objects r ≡ Some (a, m) → slice_get h.objects q ≡ Some (b, l) →
        (r == q) ≡ (a == b)
    same_address r q a b m l er eq =
        elim (cases_order r q) [
          | inl e ↦
              let one : Option (ℕ × worlds.Made) = Some (a, m) in
              let two : Option (ℕ × worlds.Made) = Some (b, l) in
              let f : one ≡ two = sym er ∙ ap (slice_get h.objects) e ∙ eq in
              eq-eqb r q e ∙ sym (eq-eqb a b (first_is (a, m) (b, l) f))
          | inr (inl lt) ↦
              let less = addresses r q (a, m) (b, l) lt er eq in
              ne_eqb r q (λ e. omega (arith, e, lt)) ∙ sym (ne_eqb a b (λ e. omega (arith, e, less)))
          | inr (inr gt) ↦
              let less = addresses q r (b, l) (a, m) gt eq er in
              ne_eqb r q (λ e. omega (arith, e, gt)) ∙ sym (ne_eqb a b (λ e. omega (arith, e, less)))
        ]
      where
        some_is : (u v : ℕ × worlds.Made) → Some u ≡ Some v → u ≡ v
        some_is u v e = cc

        first_is : (u v : ℕ × worlds.Made) → Some u ≡ Some v → u.0 ≡ v.0
        first_is u v e = ap (λ (j : ℕ × worlds.Made). j.0) (some_is u v e)

    pub identical : (o : Op) (v y : Value) (u k : ℕ) (go : Value → Rest) (out : Rest) → Identity h v u → Identity h y k →
        operates P o v y go out ≡ E.held Passing (passing P.heap P.stack) (identity o (u == k)) go out
    identical o _ _ _ _ go out no_object no_object = refl
    identical o _ _ _ _ go out no_object (an_object q b l eq) =
        let high = in_heap q (b, l) eq in
        ap (λ z. E.held Passing (passing P.heap P.stack) (identity o z) go out) (sym (ne_eqb 0 b (λ e. omega (arith, e, high))))
    identical o _ _ _ _ go out (an_object r a m er) no_object =
        let high = in_heap r (a, m) er in
        ap (λ z. E.held Passing (passing P.heap P.stack) (identity o z) go out) (sym (ne_eqb a 0 (λ e. omega (arith, e, high))))
    identical o _ _ _ _ go out (an_object r a m er) (an_object q b l eq) =
        ap (λ z. E.held Passing (passing P.heap P.stack) (identity o z) go out) (same_address r q a b m l er eq)

module _ (P : Program) (set : Setting P) (grow : StatesGrow P) (n : ℕ) (sp : Span) (o : Op) (identifies : Identifies o)
    (at : ℕ) (a b : Exp) (says : Says P.notes at means.Number) (x : Situation P n (Binary sp o at a b)) (is_int : x.ty ≡ int_type)
    (ta tb : Ty) (alike : Alike ta tb)
    (piece_a : Piece P set grow n (Binary sp o at a b) x a ta)
    (piece_b : Piece P set grow n (Binary sp o at a b) x b tb) where
  abbrev E_ : Exp
  E_ = Binary sp o at a b

  comp : Compares o
  comp = identifies_compares o identifies

  abbrev makes : Tx → Tx → Translates Made
  makes l r = give (test (comparison o (compares_strings (P.findings.meaning at)) l r))

  abbrev left_side : LeftSide P n a
  left_side = plain_left P n a (grow a) piece_a.shown

  sides : Sides P set grow n E_ a b left_side x makes
  sides =
      let right : Want → Translates Made = λ v. expression P.findings b v x.p.within in
      let meaning = P.findings.meaning at in
      let i = after_inv (expression P.findings a (left_want o) x.p.within x.σ)
      (λ left. with_left o meaning (assigns_nothing b) x.wanted left right) x.m x.τ x.is_made in
      sides_of P set grow n E_ a b left_side x makes
      (ap (λ v. after (expression P.findings a v x.p.within x.σ) (λ m s. both_made o meaning m right s)) (sym (wants_value o comp)) ∙
      (ap (λ d. after d (λ m s. both_made o meaning m right s)) i.2 ∙
      (sym (made_both o comp meaning (assigns_nothing b) x.wanted i.0 right i.1) ∙ i.3)))

  abbrev goes_on : Value → Value → Rest
  goes_on v y = operates P o v y x.go x.out

  abbrev sides_run : Run Source
  sides_run = rest_run (evaluates P a x.p.env (λ v. evaluates P b x.p.env (λ y. goes_on v y) x.out) x.out) x.s

  source_is : (i : ℕ) → rest_run (evaluates P E_ x.p.env x.go x.out) x.s i ≡ costs 1 (sides_run i)
  source_is i =
      ap (λ (g : Value → Rest). costs 1 (rest_run (evaluates P a x.p.env g x.out) x.s i))
      (functions_are P (λ v. E.with_left Passing (passing P.heap P.stack) o v (λ g o1. evaluates P b x.p.env g o1) x.go x.out)
      (λ v. evaluates P b x.p.env (λ y. goes_on v y) x.out)
      (λ v. source_both P o comp b x.p.env v x.go x.out))

  pub same_shown : IsShown P n E_ x
  same_shown =
      let q = sides in
      let one = relation o in
      by_made P n E_ x (test (tree.Compare one q.left q.right)) q.τb
      (sym (ap (λ k. drawn (test (comparison o (compares_strings k) q.left q.right)) q.τb) (set.found at means.Number says)) ∙ q.whole)
      tt
      (λ go' onward.
      let whole : Run Ran = test_runs P x.p (tree.Compare one q.left q.right) x.p.around go' x.w x.t in
      follows_along P.stack tree_work x.r n (λ i. costs 1 (sides_run i)) (rest_run (evaluates P E_ x.p.env x.go x.out) x.s) whole whole
      source_is (λ i. refl)
      (paid P x.r n sides_run whole
      (worked P (x.r + 246 + 4) (x.r + 256) (4 + hoisted_units Trees (is_flat q.right)) n sides_run _
      (let small = hoisted_small (is_flat q.right) in omega (arith, small))
      (sides_follow P set grow n E_ a b left_side x makes q ta tb
      (record { begun = tt; typed = piece_a.typed; words = piece_a.words; covers = piece_a.covers; may_assign = piece_a.may_assign }) piece_b (alike_left ta tb alike) (alike_right ta tb alike)
      (subst (λ s. Later q.τb s) (ap state_in q.whole) (later_none q.τb)) (x.r + 246) (omega arith) goes_on
      (λ u k w2 t2. go' (holds one u k) w2 t2)
      (λ c v y u k l st st2.
      let i = of_alike c.h ta tb v y u k alike st st2 in
      let tells = holds one u k in
      subst (λ (z : Rest). FollowsHere P (x.r + 246 + 108) n (rest_run z c.s) (go' tells c.w c.t))
      (sym (identical P c.h (λ r o e. (c.holds.invariant.in_heap r o e).0) c.holds.invariant.addresses o v y u k x.go x.out i.0 i.1 ∙
      ap (λ z. E.held Passing (passing P.heap P.stack) z x.go x.out) (told_identity o identifies u k)))
      (more P (x.r + left_over) (x.r + 246 + 108) n (rest_run (x.go (truth tells)) c.s) (go' tells c.w c.t) (omega arith)
      (onward c.h c.types (truth tells) tells c.s c.w c.t c.grows c.extends c.holds
      (told_truth x.wanted x.ty tells is_int (truth_is_set tells)))))))))
