-- What follows of a function's body where it gives back what it is made.
use Rattle.std.proofs.Common.{◌≡◌, ◌≢◌, ℕ, ◌+◌, ◌≤◌, List, Bool, true, false, ap, arith, subst}
use Rattle.tg_simulation.specs.Runs.{Run}
use Rattle.tg_simulation.specs.Agreement.{Source}
use Rattle.tg_semantics.specs.Values.{Value, SourceWorld}
use Rattle.tg_semantics.specs.Passing.{Rest}
use Rattle.tg_semantics.specs.MachineRuns.{rest_run}
use Rattle.tg_typecheck.specs.Types.{Ty, none_type}
use Rattle.tg_typecheck.specs.Has.{Fits, GivesBack, the_same, nil_for}
use Rattle.tg_tree.specs.Tree.{Tx, Ts}
use Rattle.tg_tree.specs.Actions.{World, Temps, Go, Next, charged}
use Rattle.tg_translate.specs.declared.wants.Want.TheVariants as want
use Rattle.tg_translate.specs.mirror.States.{TranslationState, drawn}
use Rattle.tg_translate.specs.mirror.Wants.{Made, value_of, dropped}
use Rattle.tg_translate.specs.mirror.Functions.{closing, result_want}
use Rattle.tg_translate.specs.mirror.Returning.{given_back}
use Rattle.tg_correctness.specs.laws.Laws.{tree_work}
use Rattle.tg_translate_proof.specs.glue.Tables.{Later}
use Rattle.tg_translate_proof.specs.glue.Worlds.{Holdings, Stands, a_nil, a_nil_record, GrowsTo, temporary, nowhere}
use Rattle.tg_translate_proof.specs.glue.Situations.{Program, Part, Holds, Extends, statement_runs}
use Rattle.tg_translate_proof.specs.glue.Shown.{FollowsHere, MadeFollows, IsWantable}
use Rattle.tg_translate_proof.proofs.state.TranslationStates.{made_in, state_in, after_inv, later_none, later_value}
use Rattle.tg_translate_proof.proofs.invariant.Cases.{value_follows, dropped_follows, worked}
use Rattle.tg_translate_proof.proofs.program.ReturnedArms.{given_back_follows}
use Rattle.tg_translate_proof.proofs.invariant.Parts.{more}

-- a value of a type that fits stands for one of the other
pub fitting_stands : (h : Holdings) (v : Value) (ty result : Ty) (u : ℕ) → Fits ty result → Stands h v ty u → Stands h v result u
fitting_stands h v _ _ u the_same st = st
fitting_stands h _ _ _ _ nil_for a_nil = a_nil_record _

fitting_values : (ty result : Ty) → Fits ty result → result ≢ none_type → ty ≢ none_type
fitting_values _ _ the_same ne e = ne e
fitting_values _ _ nil_for ne e = cc

-- the body of a function that has a result is wanted as one
pub body_wantable : (b : Bool) (ty result : Ty) → Fits ty result → GivesBack b result → IsWantable (result_want b) ty
body_wantable true ty result fits gives = fitting_values ty result fits gives
body_wantable false ty result fits gives = tt

-- states only grow after a body
pub closing_later : (b : Bool) (m : Made) (s t : TranslationState) (text : Ts) → closing b m s ≡ drawn text t → Later s t
closing_later true m s t text e =
    let i = after_inv (value_of m s) _ text t e in
    subst (λ o. Later s o) (ap state_in i.3) (later_value m s i.1 i.0 i.2)
closing_later false m s t text e = subst (λ o. Later s o) (ap state_in e) (later_none s)

module _ (P : Program) (n r : ℕ) (p : Part) (h : Holdings) (types : List Ty) (ty result : Ty)
    (go : Value → Rest) (source : Run Source) (w : World) (t : Temps) where
  -- what comes after its return, on both sides: nothing is said of a value that isn't one
  abbrev pub Returned : Type 0
  Returned =
      (g : Holdings) (types1 : List Ty) (v : Value) (u : ℕ) (s1 : SourceWorld) (w1 : World) (t1 : Temps) → GrowsTo h g → Extends types types1 →
      Holds P p g types1 s1 w1 t1 →
      (result ≢ none_type → Stands g v result u) → FollowsHere P (r + 38) n (rest_run (go v) s1) (p.around.back u w1)

  pub closing_follows : (b : Bool) → GivesBack b result → Fits ty result → (m : Made) (σ τ : TranslationState) (text : Ts) →
      closing b m σ ≡ drawn text τ →
      ((i : ℕ) → σ.frame.temps ≤ i → p.places (temporary p.scene.depth i) ≡ nowhere) →
      MadeFollows P n r p h types (result_want b) ty go source w t m → (next : Next) → Returned →
      FollowsHere P (r + 20) n source (statement_runs P p text p.around next w t)
  closing_follows true gives fits m σ τ text made idle follows next onward =
      let i = after_inv (value_of m σ) _ text τ made in
      let y : Tx = i.0 in
      let back : Go ℕ = λ v w1 t1. p.around.back v w1 in
      subst (λ o. FollowsHere P (r + 20) n source (statement_runs P p o p.around next w t)) (ap made_in i.3)
      (more P (r + 4 + 16) (r + 20) n source (statement_runs P p (given_back y) p.around next w t) (omega arith)
      (given_back_follows P p P.stack tree_work (r + 4) n source y p.around next w t
      (value_follows P n r p h types want.Value ty go source w t m σ i.1 y back tt i.2 (λ j le lt. idle j le) follows
      (λ g types1 v u s1 w1 t1 gg ee hh st. more P (r + 38) (r + 56) n (rest_run (go v) s1) (p.around.back u w1) (omega arith)
      (onward g types1 v u s1 w1 t1 gg ee hh (λ ne. fitting_stands g v ty result u fits st))))))
  closing_follows false gives fits m σ τ text made idle follows next onward =
      let last : Next = λ w1 t1. charged 16 (charged 2 (p.around.back 0 w1)) in
      subst (λ o. FollowsHere P (r + 20) n source (statement_runs P p o p.around next w t)) (ap made_in made)
      (worked P (r + 4) (r + 20) 0 n source (statement_runs P p (dropped m) p.around last w t) (omega arith)
      (dropped_follows P n r p h types ty go source w t m last follows
      (λ g types1 v u s1 w1 t1 gg ee hh st. worked P (r + 40) (r + 56) 16 n (rest_run (go v) s1) (charged 2 (p.around.back 0 w1)) (omega arith)
      (worked P (r + 38) (r + 40) 2 n (rest_run (go v) s1) (p.around.back 0 w1) (omega arith)
      (onward g types1 v 0 s1 w1 t1 gg ee hh (λ ne. absurd (ne gives)))))))
