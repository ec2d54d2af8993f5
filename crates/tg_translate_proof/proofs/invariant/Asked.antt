-- An expression that is evaluated somewhere, in whatever part and at whatever moment, for what is
-- wanted of it: in at most 4 units besides its own, and leaving 56.
use Rattle.std.proofs.Common.{◌≡◌, ◌≢◌, ℕ, ◌+◌, ◌<◌, ◌≤◌, List, Option, Some, Bool, refl, sym, ap, ◌∙◌, arith, subst}
use Rattle.tg_syntax.specs.OfWords.{OfWords}
use Rattle.tg_syntax.specs.Tree.{Exp}
use Rattle.tg_simulation.specs.Runs.{Run}
use Rattle.tg_simulation.specs.Agreement.{Source}
use Rattle.tg_semantics.specs.Values.{Value, SourceWorld}
use Rattle.tg_semantics.specs.Passing.{Rest}
use Rattle.tg_semantics.specs.MachineRuns.{rest_run}
use Rattle.tg_typecheck.specs.Types.{Ty, int_type, none_type}
use Rattle.tg_typecheck.specs.Has.{Has}
use Rattle.tg_tree.specs.Tree.{Tx, Cond, Ts}
use Rattle.tg_tree.specs.Actions.{World, Temps, set_temp, Go, Next}
use Rattle.tg_translate.specs.declared.wants.Want.{Want}
use Rattle.tg_translate.specs.declared.wants.Want.TheVariants as want
use Rattle.tg_translate.specs.mirror.States.{TranslationState, drawn}
use Rattle.tg_translate.specs.mirror.Wants.{Made, value_of, test_of, put_in, dropped}
use Rattle.tg_translate.specs.mirror.Translate.{expression}
use Rattle.tg_translate_proof.specs.glue.Tables.{Later}
use Rattle.tg_translate_proof.specs.glue.Worlds.{Holdings, Stands, temporary, nowhere}
use Rattle.tg_translate_proof.specs.glue.Situations.{Program, Part, Setting, Holds, IsReady, IsCovered, MayAssign, value_runs, test_runs, statement_runs}
use Rattle.tg_translate_proof.specs.glue.Shown.{Shown, IsShown, Situation, IsWantable, IsWanted, IsNamed, FollowsHere, Onward, Outward, MadeFollows, left_over}
use Rattle.tg_translate_proof.specs.glue.Shown.{is_set, evaluates}
use Rattle.tg_translate_proof.proofs.state.TranslationStates.{later_none, later_on, later_value}
use Rattle.tg_translate_proof.proofs.invariant.Cases.{value_follows, condition_follows, arm_follows, dropped_follows, IsLoose}
use Rattle.tg_translate_proof.proofs.invariant.Parts.{StatesGrow, more, extends_none, ready_part}

module _ (P : Program) (set : Setting P) (grow : StatesGrow P) where
  -- a moment in a part, up to a state of the translation
  pub record Standing (n : ℕ) : Type 0 where
    pub p : Part
    pub σ : TranslationState  -- where the translation is
    pub τ : TranslationState  -- the state up to which nothing that is drawn is in use
    pub h : Holdings
    pub types : List Ty
    pub r : ℕ  -- the units that are left
    pub out : Rest
    pub s : SourceWorld
    pub w : World
    pub t : Temps
    pub ready : IsReady P p types σ τ
    pub outward : Outward P n (r + left_over) p h types out
    pub holds : Holds P p h types s w t

  -- what is known of an expression that is evaluated there
  pub record Asked (n : ℕ) (k : Standing n) (e : Exp) (ty : Ty) : Type 0 where
    pub shown : Shown P n e
    pub typed : Has P.shapes P.notes e k.p.scope ty
    pub words : OfWords e
    pub covers : IsCovered P k.p e
    pub may_assign : MayAssign P k.p e

  module _ (n : ℕ) (k : Standing n) (e : Exp) (ty : Ty) (q : Asked n k e ty) (go : Value → Rest) where
    abbrev pub asked_source : Run Source
    asked_source = rest_run (evaluates P e k.p.env go k.out) k.s

    abbrev pub asked_at : (wanted : Want) (m : Made) (t : TranslationState) → IsWantable wanted ty → Later t k.τ → expression P.findings e wanted k.p.within k.σ ≡ drawn m t → Situation P n e
    asked_at wanted m t able last made = record {
      ty = ty;
      wanted = wanted;
      p = k.p;
      σ = k.σ;
      τ = t;
      m = m;
      h = k.h;
      types = k.types;
      r = k.r;
      go = go;
      out = k.out;
      s = k.s;
      w = k.w;
      t = k.t;
      typed = q.typed;
      words = q.words;
      covers = q.covers;
      wantable = able;
      may_assign = q.may_assign;
      ready = ready_part P set k.p k.types k.types k.σ k.τ k.σ t (extends_none k.types) (later_none k.σ) (grow e wanted k.p.within m k.σ t made) last k.ready;
      is_made = made;
      outward = k.outward;
      holds = k.holds;
    }

    pub asked_made : (wanted : Want) (m : Made) (t : TranslationState) → IsWantable wanted ty → Later t k.τ → expression P.findings e wanted k.p.within k.σ ≡ drawn m t →
        MadeFollows P n k.r k.p k.h k.types wanted ty go asked_source k.w k.t m
    asked_made wanted m t able last made = (q.shown (asked_at wanted m t able last made)).1

    pub asked_named : (wanted : Want) (m : Made) (t : TranslationState) → IsWantable wanted ty → Later t k.τ → expression P.findings e wanted k.p.within k.σ ≡ drawn m t →
        IsNamed P n k.r k.p k.s go asked_source m
    asked_named wanted m t able last made = (q.shown (asked_at wanted m t able last made)).0

    -- as a value, where a value or its truth is wanted
    pub asked_value : (wanted : Want) (m : Made) (t : TranslationState) (y : Tx) (u : TranslationState) → IsLoose wanted → IsWantable wanted ty →
        expression P.findings e wanted k.p.within k.σ ≡ drawn m t → value_of m t ≡ drawn y u → Later u k.τ → (go' : Go ℕ) →
        Onward P {A = ℕ} n (k.r + 56) k.p k.h k.types (λ g v z. IsWanted g wanted v ty z) go go' → FollowsHere P (k.r + 4) n asked_source (value_runs P k.p y k.p.around go' k.w k.t)
    asked_value wanted m t y u loose able made made_y last go' onward =
        let l1 : Later k.σ t = grow e wanted k.p.within m k.σ t made in
        let l2 : Later t u = later_value m t u y made_y in
        value_follows P n k.r k.p k.h k.types wanted ty go asked_source k.w k.t m t u y go' loose made_y
        (λ i a b. k.ready.temps_free i (omega (arith, l1.temps, a)) (omega (arith, b, last.temps)))
        (asked_made wanted m t able (later_on t u k.τ l2 last) made) onward

    -- as a condition
    pub asked_condition : (m : Made) (t : TranslationState) → ty ≡ int_type → expression P.findings e want.Test k.p.within k.σ ≡ drawn m t → Later t k.τ → (go' : Go Bool) →
        Onward P n (k.r + 56) k.p k.h k.types (λ g v b. (u : ℕ) × IsWanted g want.Test v ty u × (b ≡ is_set u)) go go' →
        FollowsHere P (k.r + 4) n asked_source (test_runs P k.p (test_of m) k.p.around go' k.w k.t)
    asked_condition m t able made last go' onward =
        condition_follows P n k.r k.p k.h k.types want.Test ty go asked_source k.w k.t m go' tt (asked_made want.Test m t able last made) onward

    -- put into a temporary
    pub asked_arm : (m : Made) (t : TranslationState) (i : ℕ) → ty ≢ none_type → expression P.findings e (want.Into (record { 0 = i })) k.p.within k.σ ≡ drawn m t → Later t k.τ →
        (next : Next) → Onward P {A = ℕ} n (k.r + 56) k.p k.h k.types (λ g v u. Stands g v ty u) go (λ u w1 t1. next w1 (set_temp i u t1)) →
        FollowsHere P (k.r + 4) n asked_source (statement_runs P k.p (put_in i m) k.p.around next k.w k.t)
    asked_arm m t i able made last next onward =
        arm_follows P n k.r k.p k.h k.types ty go asked_source k.w k.t m i next (asked_made (want.Into (record { 0 = i })) m t able last made) onward

    -- dropped
    pub asked_dropped : (m : Made) (t : TranslationState) → expression P.findings e want.Dropped k.p.within k.σ ≡ drawn m t → Later t k.τ → (next : Next) →
        Onward P {A = ℕ} n (k.r + 56) k.p k.h k.types (λ g v u. Unit {0}) go (λ u w1 t1. next w1 t1) →
        FollowsHere P (k.r + 4) n asked_source (statement_runs P k.p (dropped m) k.p.around next k.w k.t)
    asked_dropped m t made last next onward =
        dropped_follows P n k.r k.p k.h k.types ty go asked_source k.w k.t m next (asked_made want.Dropped m t tt last made) onward
