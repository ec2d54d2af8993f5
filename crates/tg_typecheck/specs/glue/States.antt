-- What the checker's state stands for, and what a call of it answers.
use Rattle.std.specs.Prelude.{◌≡◌, ℕ, List, ◌++◌, Result, Ok, Err, Bool}
use Rattle.tg_base.specs.declared.faulty.Faulty.{Faulty}
use Rattle.tg_base.specs.declared.faulty.Faulty.TheVariants.{Bad, Memory}
use Rattle.tg_typecheck.specs.declared.faults.TypeRule.{TypeRule}
use Rattle.tg_typecheck.specs.declared.states.CheckingState.{CheckingState}
use Rattle.tg_typecheck.specs.Types.{Ty}
use Rattle.tg_typecheck.specs.Checks.{Noted, Check, CheckResult, fine, fault}
use Rattle.tg_typecheck.specs.Scopes.{Scope, Binding, standard_bindings, standard_types}
use Rattle.tg_typecheck.specs.Typing.{declare}
use Rattle.tg_syntax.specs.Tree.{Decs}

-- the scope of a state: what it holds, before what the names mean outside
abbrev pub scope_of : (names : List (List ℕ)) → CheckingState → (in_loop : Bool) → Scope
scope_of names s in_loop = record {
  bindings = s.bindings ++ standard_bindings 0 names;
  types = s.types ++ standard_types 0 names;
  in_loop = in_loop;
}

abbrev pub noted_of : CheckingState → Noted
noted_of s = record { shapes = s.shapes; notes = s.notes.items }

-- a fault that is answered is a check's; out of memory says nothing
pub data Fails {A : Type 0} : Faulty TypeRule ℕ → CheckResult A → Type 0 where
  bad : {rule : TypeRule} {at : ℕ} {c : CheckResult A} → c ≡ fault rule at → Fails (Bad rule at) c
  no_memory : {c : CheckResult A} → Fails Memory c

-- an answer is what a check gives, with what is noted after it
abbrev pub AnswersCheck : {X A : Type 0} → Result X (Faulty TypeRule ℕ) → (X → A) →
    (after : Noted) → CheckResult A → Type 0
AnswersCheck (Ok x) value after c = c ≡ fine (value x) after
AnswersCheck (Err e) value after c = Fails e c

-- an answer is that a check goes on after a scope, or its fault
abbrev pub Leads : {X A : Type 0} → Result X (Faulty TypeRule ℕ) → Scope → (after : Noted) →
    (Scope → Noted → CheckResult A) → CheckResult A → Type 0
Leads (Ok x) scope after onward c = c ≡ onward scope after
Leads (Err e) scope after onward c = Fails e c

-- a call that moves the state on answers what a check gives, in the scope of the state before
abbrev pub MovesOn : {X A : Type 0} → (names : List (List ℕ)) → (old new : CheckingState) →
    (in_loop : Bool) → Result X (Faulty TypeRule ℕ) → (X → A) → (Scope → Check A) → Type 0
MovesOn names old new in_loop result value check =
    (scope : Scope) → scope ≡ scope_of names old in_loop →
    AnswersCheck result value (noted_of new) (check scope (noted_of old))

-- the same of a call that only looks at the state, whatever is noted
abbrev pub Judges : {X A : Type 0} → (names : List (List ℕ)) → CheckingState →
    Result X (Faulty TypeRule ℕ) → (X → A) → (Scope → Check A) → Type 0
Judges names state result value check =
    (scope : Scope) (in_loop : Bool) → scope ≡ scope_of names state in_loop →
    (n : Noted) → AnswersCheck result value n (check scope n)

-- a call declares what stands before the rest of a list of declarations, which goes on after it
abbrev pub Declares : {X : Type 0} → (names : List (List ℕ)) → (old new : CheckingState) →
    (in_loop : Bool) → Result X (Faulty TypeRule ℕ) → (Decs → Decs) → Type 0
Declares names old new in_loop result declared =
    (rest : Decs) (scope : Scope) → scope ≡ scope_of names old in_loop →
    Leads result (scope_of names new in_loop) (noted_of new) (declare rest)
    (declare (declared rest) scope (noted_of old))

-- the same names are open
pub record Keeps (old new : CheckingState) : Type 0 where
  pub bindings : new.bindings ≡ old.bindings
  pub types : new.types ≡ old.types

-- more names are open, and those of before after them
pub record Opens (old new : CheckingState) : Type 0 where
  pub more_bindings : List (ℕ × Binding)
  pub bindings : new.bindings ≡ more_bindings ++ old.bindings
  pub more_types : List (ℕ × Ty)
  pub types : new.types ≡ more_types ++ old.types
