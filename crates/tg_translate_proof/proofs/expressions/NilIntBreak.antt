-- Expressions without parts.
use Rattle.std.proofs.Common.{◌≡◌, ℕ, ◌+◌, ◌*◌, ◌^◌, ◌<◌, ◌≤◌, List, true, refl, sym, ap, ◌∙◌, arith, subst}
use Rattle.tg_base.specs.declared.ids.Span.{Span}
use Rattle.tg_syntax.specs.Tree.{Exp, Nil, Int, Break}
use Rattle.tg_semantics.specs.Values.{Value, int, nil}
use Rattle.tg_semantics.specs.MachineRuns.{rest_run}
use Rattle.tg_typecheck.specs.Types.{Ty, int_type, nil_type, none_type}
use Rattle.tg_typecheck.specs.Scopes.{Scope}
use Rattle.tg_typecheck.specs.Has as has
use Rattle.tg_typecheck.specs.Has.{Has}
use Rattle.tg_tree.specs.Tree as tree
use Rattle.tg_tree.specs.Tree.{Tx, Const}
use Rattle.tg_tree.specs.Actions.{Go, Next}
use Rattle.tg_translate.specs.mirror.Wants.{value, done}
use Rattle.tg_translate_proof.specs.glue.Worlds.{Stands, an_int, a_nil}
use Rattle.tg_translate_proof.specs.glue.Situations.{Program, Setting, value_runs, statement_runs}
use Rattle.tg_translate_proof.specs.glue.Shown.{Shown, Situation, FollowsHere, left_over, evaluates, Onward, IsWanted}
use Rattle.tg_translate_proof.proofs.invariant.Cases.{by_made, worked, wanted_of, grows_none}
use Rattle.tg_translate_proof.proofs.invariant.Parts.{more, paid, extends_none}

module _ (P : Program) (n : ℕ) where
  -- a constant that stands for the value
  pub constant_follows : (e : Exp) (x : Situation P n e) (v : Value) (k : ℕ) → Stands x.h v x.ty k → (go' : Go ℕ) →
      Onward P {A = ℕ} n (x.r + left_over) x.p x.h x.types (λ g v u. IsWanted g x.wanted v x.ty u) x.go go' →
      FollowsHere P (x.r + 256) n (rest_run (x.go v) x.s) (value_runs P x.p (Const k) x.p.around go' x.w x.t)
  constant_follows e x v k stands go' onward =
      worked P (x.r + left_over) (x.r + 256) 2 n (rest_run (x.go v) x.s) (go' k x.w x.t) (omega arith)
      (onward x.h x.types v k x.s x.w x.t (grows_none x.h) (extends_none x.types) x.holds (wanted_of x.h x.wanted v x.ty k stands))

  int_typed : (sp : Span) (k : ℕ) (scope : Scope) (t : Ty) → Has P.shapes P.notes (Int sp k) scope t → t ≡ int_type
  int_typed sp k scope t has.int = refl

  pub int_shown : (sp : Span) (k : ℕ) → Shown P n (Int sp k)
  int_shown sp k x =
      by_made P n (Int sp k) x (value (Const k)) x.σ x.is_made tt
      (λ go' onward.
      paid P x.r n _ _
      (constant_follows (Int sp k) x (int k) k
      (subst (λ t. Stands x.h (int k) t k) (sym (int_typed sp k x.p.scope x.ty x.typed)) (an_int k (omega (arith, x.words)))) go' onward))

  nil_typed : (sp : Span) (scope : Scope) (t : Ty) → Has P.shapes P.notes (Nil sp) scope t → t ≡ nil_type
  nil_typed sp scope t has.nil = refl

  pub nil_shown : (sp : Span) → Shown P n (Nil sp)
  nil_shown sp x =
      by_made P n (Nil sp) x (value (Const 0)) x.σ x.is_made tt
      (λ go' onward.
      paid P x.r n _ _
      (constant_follows (Nil sp) x nil 0
      (subst (λ t. Stands x.h nil t 0) (sym (nil_typed sp x.p.scope x.ty x.typed)) a_nil) go' onward))

  break_typed : (sp : Span) (scope : Scope) (t : Ty) → Has P.shapes P.notes (Break sp) scope t → scope.in_loop ≡ true
  break_typed sp scope t (has.break e) = e

  -- what comes after a break comes
  pub break_shown : (sp : Span) → Shown P n (Break sp)
  break_shown sp x =
      by_made P n (Break sp) x (done (tree.Break x.p.within.leave)) x.σ x.is_made tt
      (λ next onward.
      paid P x.r n _ _
      (worked P (x.r + left_over) (x.r + 256) 3 n (rest_run x.out x.s) (x.p.around.out x.p.within.leave x.w x.t) (omega arith)
      (x.outward x.h x.types x.s x.w x.t (break_typed sp x.p.scope x.ty x.typed) (grows_none x.h) (extends_none x.types) x.holds)))
