-- Comparisons of ints.
use Rattle.std.proofs.Common.{◌≡◌, ◌≢◌, ℕ, ◌+◌, ◌<◌, ◌≤◌, ◌==◌, List, Bool, true, false, refl, sym, ap, ◌∙◌, arith, subst}
use Rattle.tg_base.specs.declared.ids.Span.{Span}
use Rattle.tg_syntax.specs.declared.trees.Op.{Op}
use Rattle.tg_syntax.specs.declared.trees.Op.TheVariants as op
use Rattle.tg_syntax.specs.Tree.{Exp, Binary}
use Rattle.tg_simulation.specs.Runs.{Run}
use Rattle.tg_simulation.specs.Agreement.{Source}
use Rattle.tg_semantics.specs.Values.{Value, int}
use Rattle.tg_semantics.specs.Passing.{Rest}
use Rattle.tg_semantics.specs.MachineRuns.{rest_run}
use Rattle.tg_semantics.specs.Operators.{truth}
use Rattle.tg_typecheck.specs.Types.{Ty, int_type}
use Rattle.tg_typecheck.specs.declared.notes.Means.TheVariants as means
use Rattle.tg_typecheck.specs.Has.{Has, Says}
use Rattle.tg_tree.specs.declared.operators.Rel.{Rel}
use Rattle.tg_tree.specs.declared.operators.Rel.TheVariants as rel
use Rattle.tg_tree.specs.Tree as tree
use Rattle.tg_tree.specs.Tree.{Tx}
use Rattle.tg_tree.specs.Shapes.{is_flat}
use Rattle.tg_tree.specs.Units.{Trees, hoisted_units}
use Rattle.tg_tree.specs.Operators.{holds}
use Rattle.tg_tree.specs.Actions.{Go}
use Rattle.tg_translate.specs.mirror.States.{drawn, Translates, give}
use Rattle.tg_translate.specs.mirror.Wants.{Made, test}
use Rattle.tg_translate.specs.mirror.Constructs.{comparison}
use Rattle.tg_translate.specs.mirror.Scopes.{compares_strings}
use Rattle.tg_translate_proof.specs.glue.Tables.{Later}
use Rattle.tg_translate_proof.specs.glue.Situations.{Program, Setting, test_runs}
use Rattle.tg_translate_proof.specs.glue.Shown.{Shown, IsShown, Situation, SituationBy, FollowsHere, left_over, evaluates, Onward, IsTold}
use Rattle.tg_translate_proof.proofs.state.TranslationStates.{state_in, later_none}
use Rattle.tg_translate_proof.proofs.invariant.Cases.{by_made, worked, truth_is_set}
use Rattle.tg_translate_proof.proofs.expressions.BinaryLeft.{LeftSide, plain_left, binary_by}
use Rattle.tg_translate_proof.proofs.invariant.Parts.{StatesGrow, more, paid}
use Rattle.tg_translate_proof.proofs.state.ValueWords.{stands_int, int_has_values, told_truth}
use Rattle.tg_translate_proof.proofs.expressions.BinarySides.{Sides, sides_of, sides_follow, hoisted_small}
use Rattle.tg_translate_proof.proofs.expressions.BinaryPlusMinus.{piece_a, piece_b, operates}

module _ (P : Program) (set : Setting P) (grow : StatesGrow P) (n : ℕ) (sp : Span) (at : ℕ) (a b : Exp) (show_a : LeftSide P n a) (show_b : Shown P n b)
    (says : Says P.notes at means.Number) where
  -- where a number is noted, words are compared
  pub words_compared : (o : Op) (l r : Tx) → comparison o (compares_strings (P.findings.meaning at)) l r ≡ comparison o false l r
  words_compared o l r = ap (λ m. comparison o (compares_strings m) l r) (set.found at means.Number says)

  module _ (o : Op) (x : SituationBy P n (Binary sp o at a b) (binary_by P o at b show_a.by)) (begun : show_a.here x.p x.h x.types x.s x.w x.t) (is_int : x.ty ≡ int_type) (type_a : Has P.shapes P.notes a x.p.scope int_type)
      (type_b : Has P.shapes P.notes b x.p.scope int_type) where
    abbrev pub E_ : Exp
    E_ = Binary sp o at a b

    abbrev pub F_ : Tx → Tx → Translates Made
    F_ l r = give (test (comparison o (compares_strings (P.findings.meaning at)) l r))

    abbrev pub goes_on : Value → Value → Rest
    goes_on = operates P set grow n sp o at a b show_a show_b x begun is_int type_a type_b

    abbrev pub sides_run : Run Source
    sides_run = rest_run (evaluates P a x.p.env (λ v. evaluates P b x.p.env (λ y. goes_on v y) x.out) x.out) x.s

    -- An operator that compares two words in the source as this relation does.
    pub compared : (one : Rel) → ((u v : ℕ) → goes_on (int u) (int v) ≡ x.go (truth (holds one u v))) → (q : Sides P set grow n E_ a b show_a x F_) (go' : Go Bool) →
        Onward P {A = Bool} n (x.r + left_over) x.p x.h x.types (λ g v t. IsTold x.wanted v x.ty t) x.go go' →
        FollowsHere P (x.r + 256) n sides_run (test_runs P x.p (tree.Compare one q.left q.right) x.p.around go' x.w x.t)
    compared one same q go' onward =
        worked P (x.r + 246 + 4) (x.r + 256) (4 + hoisted_units Trees (is_flat q.right)) n sides_run _ (let small = hoisted_small (is_flat q.right) in omega (arith, small))
        (sides_follow P set grow n E_ a b show_a x F_ q int_type int_type
        (piece_a P set grow n sp o at a b show_a show_b x begun is_int type_a type_b) (piece_b P set grow n sp o at a b show_a show_b x begun is_int type_a type_b) int_has_values int_has_values
        (subst (λ s. Later q.τb s) (ap state_in q.whole) (later_none q.τb)) (x.r + 246) (omega arith) goes_on (λ u k w2 t2. go' (holds one u k) w2 t2)
        (λ c v y u k l st st2.
        let i = stands_int c.h v u st in
        let j = stands_int c.h y k st2 in
        subst (λ z. FollowsHere P (x.r + 246 + 108) n (rest_run z c.s) (go' (holds one u k) c.w c.t))
        (sym (ap (λ z. goes_on z y) i.0 ∙ (ap (λ z. goes_on (int u) z) j.0 ∙ same u k)))
        (more P (x.r + left_over) (x.r + 246 + 108) n (rest_run (x.go (truth (holds one u k))) c.s) (go' (holds one u k) c.w c.t) (omega arith)
        (onward c.h c.types (truth (holds one u k)) (holds one u k) c.s c.w c.t c.grows c.extends c.holds
        (told_truth x.wanted x.ty (holds one u k) is_int (truth_is_set (holds one u k)))))))

  pub equal_by : (x : SituationBy P n (Binary sp op.Equal at a b) (binary_by P op.Equal at b show_a.by)) → show_a.here x.p x.h x.types x.s x.w x.t → x.ty ≡ int_type → Has P.shapes P.notes a x.p.scope int_type → Has P.shapes P.notes b x.p.scope int_type →
      IsShown P n (Binary sp op.Equal at a b) x
  equal_by x begun is_int type_a type_b =
      let q = sides_of P set grow n (E_ op.Equal x begun is_int type_a type_b) a b show_a x (F_ op.Equal x begun is_int type_a type_b) x.is_made in
      by_made P n (Binary sp op.Equal at a b) x (test (tree.Compare rel.Equal q.left q.right)) q.τb
      (sym (ap (λ c. drawn (test c) q.τb) (words_compared op.Equal q.left q.right)) ∙ q.whole) tt
      (λ go' onward. paid P x.r n _ _ (compared op.Equal x begun is_int type_a type_b rel.Equal (λ u v. refl) q go' onward))

  pub not_equal_by : (x : SituationBy P n (Binary sp op.NotEqual at a b) (binary_by P op.NotEqual at b show_a.by)) → show_a.here x.p x.h x.types x.s x.w x.t → x.ty ≡ int_type → Has P.shapes P.notes a x.p.scope int_type → Has P.shapes P.notes b x.p.scope int_type →
      IsShown P n (Binary sp op.NotEqual at a b) x
  not_equal_by x begun is_int type_a type_b =
      let q = sides_of P set grow n (E_ op.NotEqual x begun is_int type_a type_b) a b show_a x (F_ op.NotEqual x begun is_int type_a type_b) x.is_made in
      by_made P n (Binary sp op.NotEqual at a b) x (test (tree.Compare rel.NotEqual q.left q.right)) q.τb
      (sym (ap (λ c. drawn (test c) q.τb) (words_compared op.NotEqual q.left q.right)) ∙ q.whole) tt
      (λ go' onward. paid P x.r n _ _ (compared op.NotEqual x begun is_int type_a type_b rel.NotEqual (λ u v. refl) q go' onward))

  pub less_by : (x : SituationBy P n (Binary sp op.Less at a b) (binary_by P op.Less at b show_a.by)) → show_a.here x.p x.h x.types x.s x.w x.t → x.ty ≡ int_type → Has P.shapes P.notes a x.p.scope int_type → Has P.shapes P.notes b x.p.scope int_type →
      IsShown P n (Binary sp op.Less at a b) x
  less_by x begun is_int type_a type_b =
      let q = sides_of P set grow n (E_ op.Less x begun is_int type_a type_b) a b show_a x (F_ op.Less x begun is_int type_a type_b) x.is_made in
      by_made P n (Binary sp op.Less at a b) x (test (tree.Compare rel.Less q.left q.right)) q.τb
      (sym (ap (λ c. drawn (test c) q.τb) (words_compared op.Less q.left q.right)) ∙ q.whole) tt
      (λ go' onward. paid P x.r n _ _ (compared op.Less x begun is_int type_a type_b rel.Less (λ u v. refl) q go' onward))

  pub less_equal_by : (x : SituationBy P n (Binary sp op.LessEqual at a b) (binary_by P op.LessEqual at b show_a.by)) → show_a.here x.p x.h x.types x.s x.w x.t → x.ty ≡ int_type → Has P.shapes P.notes a x.p.scope int_type → Has P.shapes P.notes b x.p.scope int_type →
      IsShown P n (Binary sp op.LessEqual at a b) x
  less_equal_by x begun is_int type_a type_b =
      let q = sides_of P set grow n (E_ op.LessEqual x begun is_int type_a type_b) a b show_a x (F_ op.LessEqual x begun is_int type_a type_b) x.is_made in
      by_made P n (Binary sp op.LessEqual at a b) x (test (tree.Compare rel.LessEqual q.left q.right)) q.τb
      (sym (ap (λ c. drawn (test c) q.τb) (words_compared op.LessEqual q.left q.right)) ∙ q.whole) tt
      (λ go' onward. paid P x.r n _ _ (compared op.LessEqual x begun is_int type_a type_b rel.LessEqual (λ u v. refl) q go' onward))

  pub greater_by : (x : SituationBy P n (Binary sp op.Greater at a b) (binary_by P op.Greater at b show_a.by)) → show_a.here x.p x.h x.types x.s x.w x.t → x.ty ≡ int_type → Has P.shapes P.notes a x.p.scope int_type → Has P.shapes P.notes b x.p.scope int_type →
      IsShown P n (Binary sp op.Greater at a b) x
  greater_by x begun is_int type_a type_b =
      let q = sides_of P set grow n (E_ op.Greater x begun is_int type_a type_b) a b show_a x (F_ op.Greater x begun is_int type_a type_b) x.is_made in
      by_made P n (Binary sp op.Greater at a b) x (test (tree.Compare rel.Greater q.left q.right)) q.τb
      (sym (ap (λ c. drawn (test c) q.τb) (words_compared op.Greater q.left q.right)) ∙ q.whole) tt
      (λ go' onward. paid P x.r n _ _ (compared op.Greater x begun is_int type_a type_b rel.Greater (λ u v. refl) q go' onward))

  pub greater_equal_by : (x : SituationBy P n (Binary sp op.GreaterEqual at a b) (binary_by P op.GreaterEqual at b show_a.by)) → show_a.here x.p x.h x.types x.s x.w x.t → x.ty ≡ int_type → Has P.shapes P.notes a x.p.scope int_type → Has P.shapes P.notes b x.p.scope int_type →
      IsShown P n (Binary sp op.GreaterEqual at a b) x
  greater_equal_by x begun is_int type_a type_b =
      let q = sides_of P set grow n (E_ op.GreaterEqual x begun is_int type_a type_b) a b show_a x (F_ op.GreaterEqual x begun is_int type_a type_b) x.is_made in
      by_made P n (Binary sp op.GreaterEqual at a b) x (test (tree.Compare rel.GreaterEqual q.left q.right)) q.τb
      (sym (ap (λ c. drawn (test c) q.τb) (words_compared op.GreaterEqual q.left q.right)) ∙ q.whole) tt
      (λ go' onward. paid P x.r n _ _ (compared op.GreaterEqual x begun is_int type_a type_b rel.GreaterEqual (λ u v. refl) q go' onward))

-- Where the left side is translated as it is.
module _ (P : Program) (set : Setting P) (grow : StatesGrow P) (n : ℕ) (sp : Span) (at : ℕ) (a b : Exp) (show_a : Shown P n a) (show_b : Shown P n b)
    (says : Says P.notes at means.Number) where
  pub equal_shown : (x : Situation P n (Binary sp op.Equal at a b)) → x.ty ≡ int_type → Has P.shapes P.notes a x.p.scope int_type → Has P.shapes P.notes b x.p.scope int_type →
      IsShown P n (Binary sp op.Equal at a b) x
  equal_shown x is_int type_a type_b = equal_by P set grow n sp at a b (plain_left P n a (grow a) show_a) show_b says x tt is_int type_a type_b

  pub not_equal_shown : (x : Situation P n (Binary sp op.NotEqual at a b)) → x.ty ≡ int_type → Has P.shapes P.notes a x.p.scope int_type → Has P.shapes P.notes b x.p.scope int_type →
      IsShown P n (Binary sp op.NotEqual at a b) x
  not_equal_shown x is_int type_a type_b = not_equal_by P set grow n sp at a b (plain_left P n a (grow a) show_a) show_b says x tt is_int type_a type_b

  pub less_shown : (x : Situation P n (Binary sp op.Less at a b)) → x.ty ≡ int_type → Has P.shapes P.notes a x.p.scope int_type → Has P.shapes P.notes b x.p.scope int_type →
      IsShown P n (Binary sp op.Less at a b) x
  less_shown x is_int type_a type_b = less_by P set grow n sp at a b (plain_left P n a (grow a) show_a) show_b says x tt is_int type_a type_b

  pub less_equal_shown : (x : Situation P n (Binary sp op.LessEqual at a b)) → x.ty ≡ int_type → Has P.shapes P.notes a x.p.scope int_type → Has P.shapes P.notes b x.p.scope int_type →
      IsShown P n (Binary sp op.LessEqual at a b) x
  less_equal_shown x is_int type_a type_b = less_equal_by P set grow n sp at a b (plain_left P n a (grow a) show_a) show_b says x tt is_int type_a type_b

  pub greater_shown : (x : Situation P n (Binary sp op.Greater at a b)) → x.ty ≡ int_type → Has P.shapes P.notes a x.p.scope int_type → Has P.shapes P.notes b x.p.scope int_type →
      IsShown P n (Binary sp op.Greater at a b) x
  greater_shown x is_int type_a type_b = greater_by P set grow n sp at a b (plain_left P n a (grow a) show_a) show_b says x tt is_int type_a type_b

  pub greater_equal_shown : (x : Situation P n (Binary sp op.GreaterEqual at a b)) → x.ty ≡ int_type → Has P.shapes P.notes a x.p.scope int_type → Has P.shapes P.notes b x.p.scope int_type →
      IsShown P n (Binary sp op.GreaterEqual at a b) x
  greater_equal_shown x is_int type_a type_b = greater_equal_by P set grow n sp at a b (plain_left P n a (grow a) show_a) show_b says x tt is_int type_a type_b
