-- Chains of checks: what one leaves the next with, and how faults come through.
use Rattle.std.specs.Prelude.{Result, Ok, Err, IsErr, IsTrue}
use Rattle.std.specs.Result.{IsErrAnd}
use Rattle.std.proofs.Common.{◌≡◌, ℕ, List, [], ◌∷◌, ◌++◌, Bool, true, false, refl, sym, ap, ◌∙◌, subst, append_assoc, length}
use Rattle.tg_base.specs.declared.faulty.Faulty.{Faulty}
use Rattle.tg_syntax.specs.declared.tokens.Ident.{Ident}
use Rattle.tg_typecheck.specs.declared.faults.TypeRule.{TypeRule}
use Rattle.tg_typecheck.specs.declared.states.CheckingState.{CheckingState}
use Rattle.tg_typecheck.specs.declared.notes.Note.{Note}
use Rattle.tg_typecheck.specs.declared.notes.Means.{Means}
use Rattle.tg_typecheck.specs.Types.{Ty, Shape}
use Rattle.tg_typecheck.specs.Checks.{Check, Noted, CheckResult, fine, fault, on_fine, keep, give, refuse, note, ◌>>=◌}
use Rattle.tg_typecheck.specs.Scopes.{Scope, Binding, binding, standard_bindings, standard_types, in_no_loop}
use Rattle.tg_typecheck.specs.glue.States.{Fails, bad, no_memory, AnswersCheck, Leads, Keeps, Opens, scope_of}

no_truth : IsTrue false → ⊥
no_truth h = cc

-- one check gave this, and the next goes on
pub step : {A : Type 0} {B : Type 0} (m : Check A) (next : A → Check B) {n : Noted} {n' : Noted} {a : A} {c : CheckResult B} → m n ≡ fine a n' → next a n' ≡ c →
    (m >>= next) n ≡ c
unfolding ◌>>=◌
step _ next e d = ap (λ x. on_fine x next) e ∙ d

pub grouped : {A B C : Type 0} (x : CheckResult A) (f : A → Check B) (g : B → Check C) → on_fine x (λ a. f a >>= g) ≡ on_fine (on_fine x f) g
unfolding ◌>>=◌
grouped (fine a n) f g = refl
grouped (fault rule at) f g = refl

-- the same where the check is the first part of a longer one
pub two_steps : {A : Type 0} {B : Type 0} {C : Type 0} (m : Check A) (f : A → Check B) (g : B → Check C) (n : Noted) {n' : Noted} {b : B} {c : CheckResult C} →
    (m >>= f) n ≡ fine b n' → g b n' ≡ c → (m >>= λ a. f a >>= g) n ≡ c
unfolding ◌>>=◌
two_steps m f g n e d = grouped (m n) f g ∙ (ap (λ x. on_fine x g) e ∙ d)

-- the end of a chain
pub given : {A : Type 0} {a : A} {n : Noted} → give a n ≡ fine a n
unfolding give
given = refl

-- a fault here, or after what went well
pub fails_first : {A : Type 0} {B : Type 0} (m : Check A) (next : A → Check B) {n : Noted} {e : Faulty TypeRule ℕ} → Fails e (m n) → Fails e ((m >>= next) n)
unfolding ◌>>=◌
fails_first _ next (bad d) = bad (ap (λ x. on_fine x next) d)
fails_first _ _ no_memory = no_memory

pub fails_then : {A : Type 0} {B : Type 0} (m : Check A) (next : A → Check B) {n : Noted} {n' : Noted} {a : A} {e : Faulty TypeRule ℕ} → m n ≡ fine a n' →
    Fails e (next a n') → Fails e ((m >>= next) n)
unfolding ◌>>=◌
fails_then _ next {e = e} d f = subst (λ x. Fails e (on_fine x next)) (sym d) f

pub two_fail_first : {A : Type 0} {B : Type 0} {C : Type 0} (m : Check A) (f : A → Check B) (g : B → Check C) (n : Noted) {e : Faulty TypeRule ℕ} →
    Fails e ((m >>= f) n) → Fails e ((m >>= λ a. f a >>= g) n)
unfolding ◌>>=◌
two_fail_first m f g n (bad d) = bad (grouped (m n) f g ∙ ap (λ x. on_fine x g) d)
two_fail_first _ _ _ _ no_memory = no_memory

pub two_fail_then : {A : Type 0} {B : Type 0} {C : Type 0} (m : Check A) (f : A → Check B) (g : B → Check C)
    (n : Noted) {n' : Noted} {b : B} {e : Faulty TypeRule ℕ} → (m >>= f) n ≡ fine b n' → Fails e (g b n') → Fails e ((m >>= λ a. f a >>= g) n)
unfolding ◌>>=◌
two_fail_then m f g n {e = e} d h = subst (λ x. Fails e x) (sym (grouped (m n) f g)) (subst (λ x. Fails e (on_fine x g)) (sym d) h)

-- what a `?` returns
pub ended : {X A : Type 0} (r : Result X (Faulty TypeRule ℕ)) (value : X → A) (after : Noted) {c : CheckResult A} {e : Faulty TypeRule ℕ} →
    IsErr r × IsErrAnd r (λ x. x ≡ e) →
    Fails e c → AnswersCheck r value after c
ended (Ok x) value after h f = absurd (no_truth h.0)
ended (Err x) value after {c = c} h f = subst (λ y. Fails y c) (sym h.1) f

pub leads_ended : {X A : Type 0} (r : Result X (Faulty TypeRule ℕ)) (scope : Scope) (after : Noted)
    (onward : Scope → Noted → CheckResult A) {c : CheckResult A} {e : Faulty TypeRule ℕ} → IsErr r × IsErrAnd r (λ x. x ≡ e) → Fails e c →
    Leads r scope after onward c
leads_ended (Ok x) scope after onward h f = absurd (no_truth h.0)
leads_ended (Err x) scope after onward {c = c} h f = subst (λ y. Fails y c) (sym h.1) f

-- an answer that is handed on
pub carry : {X A : Type 0} (r : Result X (Faulty TypeRule ℕ)) (value : X → A) (after : Noted) {c c' : CheckResult A} → c ≡ c' → AnswersCheck r value after c' →
    AnswersCheck r value after c
carry r value after d g = subst (λ c. AnswersCheck r value after c) (sym d) g

pub last_fails : {A : Type 0} {c c' : CheckResult A} {e : Faulty TypeRule ℕ} → c ≡ c' → Fails e c' → Fails e c
last_fails {e = e} d f = subst (λ c. Fails e c) (sym d) f

-- the scope of a state whose open names are the same
pub same_scope : {old : CheckingState} {new : CheckingState} (names : List (List ℕ)) {in_loop : Bool} {scope : Scope} → Keeps old new →
    scope ≡ scope_of names old in_loop →
    scope ≡ scope_of names new in_loop
same_scope {old = old} {new = new} names {in_loop = in_loop} k h =
    h ∙ (ap (λ b. record { bindings = b ++ standard_bindings 0 names; types = old.types ++ standard_types 0 names; in_loop = in_loop }) (sym k.bindings) ∙ ap
    (λ t. record { bindings = new.bindings ++ standard_bindings 0 names; types = t ++ standard_types 0 names; in_loop = in_loop }) (sym k.types))

pub keeps_both : {a b c : CheckingState} → Keeps a b → Keeps b c → Keeps a c
keeps_both k l = record { bindings = l.bindings ∙ k.bindings; types = l.types ∙ k.types }

pub keeps_same : {a : CheckingState} → Keeps a a
keeps_same = record { bindings = refl; types = refl }

pub opens_keep : {a b : CheckingState} → Keeps a b → Opens a b
opens_keep k = record { more_bindings = []; bindings = k.bindings; more_types = []; types = k.types }

pub opens_both : {a b c : CheckingState} → Opens a b → Opens b c → Opens a c
opens_both k l = record {
  more_bindings = l.more_bindings ++ k.more_bindings;
  bindings = l.bindings ∙ (ap (λ x. l.more_bindings ++ x) k.bindings ∙ sym (append_assoc l.more_bindings k.more_bindings _));
  more_types = l.more_types ++ k.more_types;
  types = l.types ∙ (ap (λ x. l.more_types ++ x) k.types ∙ sym (append_assoc l.more_types k.more_types _));
}

-- a rule that is kept, and one that isn't
pub kept_true : (rule : TypeRule) (at : ℕ) {b : Bool} {n : Noted} → b ≡ true → keep rule at b n ≡ fine tt n
unfolding give
kept_true rule at {n = n} e = ap (λ b. keep rule at b n) e

pub kept_false : {rule : TypeRule} {at : ℕ} {b : Bool} (n : Noted) → b ≡ false → keep rule at b n ≡ fault rule at
unfolding refuse
kept_false {rule = rule} {at = at} n e = ap (λ b. keep rule at b n) e

pub noted : (at : ℕ) (means : Means) {shapes : List (ℕ × Shape)} (old : List Note) {new : List Note} → new ≡ old ++ record { at = at; means = means } ∷ [] →
    note at means (record { shapes = shapes; notes = old }) ≡ fine tt (record { shapes = shapes; notes = new })
unfolding note
noted _ _ {shapes = shapes} _ e = ap (λ ns. fine tt (record { shapes = shapes; notes = ns })) (sym e)

pub no_loop_scope : (s : CheckingState) (names : List (List ℕ)) {in_loop : Bool} {scope : Scope} → scope ≡ scope_of names s in_loop →
    in_no_loop scope ≡ scope_of names s false
no_loop_scope _ _ h = ap in_no_loop h

pub keep_is : (rule : TypeRule) {at : ℕ} {at' : ℕ} {b : Bool} {b' : Bool} (n : Noted) → at ≡ at' → b ≡ b' → keep rule at b n ≡ keep rule at' b' n
keep_is rule {at' = at'} {b = b} n e d = ap (λ a. keep rule a b n) e ∙ ap (λ x. keep rule at' x n) d

holds : (rule : TypeRule) (at : ℕ) (b : Bool) (n : Noted) → keep rule at b n ≡ fine tt n → b ≡ true
unfolding give refuse
holds rule at true n e = refl
holds rule at false n e = cc

-- a rule that let go on is kept
pub keep_true : (rule : TypeRule) (at : ℕ) {b : Bool} {n : Noted} → keep rule at b n ≡ fine tt n → b ≡ true
keep_true rule at {b = b} {n = n} e = holds rule at b n e

pub given_is : {A : Type 0} {a b : A} {n : Noted} → b ≡ a → give a n ≡ fine b n
unfolding give
given_is {n = n} e = ap (λ x. fine x n) (sym e)

-- a check whose value is kept by a rule, and then given
kept_inner : {A B : Type 0} (y : CheckResult (Unit {0})) (a : A) (g : A → Check B) → on_fine y (λ _. g a) ≡ on_fine (on_fine y (λ _. give a)) g
unfolding give
kept_inner (fine u n) a g = refl
kept_inner (fault rule at) a g = refl

kept_grouped : {A B : Type 0} (x : CheckResult A) (k : A → Check (Unit {0})) (g : A → Check B) →
    on_fine x (λ a. k a >>= λ _. g a) ≡ on_fine (on_fine x (λ a. k a >>= λ _. give a)) g
unfolding ◌>>=◌
kept_grouped (fault rule at) k g = refl
kept_grouped (fine a n) k g = kept_inner (k a n) a g

pub kept_steps : {A : Type 0} {B : Type 0} (m : Check A) (k : A → Check (Unit {0})) (g : A → Check B) (n : Noted) {n' : Noted} {a : A} {c : CheckResult B} →
    (m >>= λ a. k a >>= λ _. give a) n ≡ fine a n' → g a n' ≡ c → (m >>= λ a. k a >>= λ _. g a) n ≡ c
unfolding ◌>>=◌
kept_steps m k g n e d = kept_grouped (m n) k g ∙ (ap (λ x. on_fine x g) e ∙ d)

pub kept_fail : {A : Type 0} {B : Type 0} (m : Check A) (k : A → Check (Unit {0})) (g : A → Check B) (n : Noted) {e : Faulty TypeRule ℕ} →
    Fails e ((m >>= λ a. k a >>= λ _. give a) n) → Fails e ((m >>= λ a. k a >>= λ _. g a) n)
unfolding ◌>>=◌
kept_fail m k g n (bad d) = bad (kept_grouped (m n) k g ∙ ap (λ x. on_fine x g) d)
kept_fail _ _ _ _ no_memory = no_memory

pub kept_then : {A : Type 0} {B : Type 0} (m : Check A) (k : A → Check (Unit {0})) (g : A → Check B) (n : Noted) {n' : Noted} {a : A} {e : Faulty TypeRule ℕ} →
    (m >>= λ a. k a >>= λ _. give a) n ≡ fine a n' → Fails e (g a n') → Fails e ((m >>= λ a. k a >>= λ _. g a) n)
unfolding ◌>>=◌
kept_then m k g n {e = e} d h = subst (λ x. Fails e x) (sym (kept_grouped (m n) k g)) (subst (λ x. Fails e (on_fine x g)) (sym d) h)

-- the end of a scope
pub cut_back : {A : Type 0} {before : List A} {now : List A} {after : List A} (more : List A) {len : ℕ} →
    ((front back : List A) → now ≡ front ++ back → length back ≡ len → after ≡ back) → now ≡ more ++ before → len ≡ length before → after ≡ before
cut_back _ f e l = f _ _ e (sym l)

-- one more name
pub opened : (x : Ident) {b : Binding} {old : List (ℕ × Binding)} {new : List (ℕ × Binding)} (types : List (ℕ × Ty)) (outer : List (ℕ × Ty))
    (rest : List (ℕ × Binding)) {in_loop : Bool} {scope : Scope} → new ≡ (x.name.0, b) ∷ old →
    scope ≡ record { bindings = old ++ rest; types = types ++ outer; in_loop = in_loop } →
    binding x b scope ≡ record { bindings = new ++ rest; types = types ++ outer; in_loop = in_loop }
opened x {b = b} types outer rest {in_loop = in_loop} e h =
    ap (λ s. binding x b s) h ∙ ap (λ bs. record { bindings = bs ++ rest; types = types ++ outer; in_loop = in_loop }) (sym e)

pub opened_state : (x : Ident) (b : Binding) (names : List (List ℕ)) (in_loop : Bool) (old new : CheckingState) {scope : Scope} →
    new.bindings ≡ (x.name.0, b) ∷ old.bindings → new.types ≡ old.types → scope ≡ scope_of names old in_loop → binding x b scope ≡ scope_of names new in_loop
opened_state x b names in_loop old new e t h =
    ap (λ s. binding x b s) h ∙ (ap
    (λ bs. record { bindings = bs ++ standard_bindings 0 names; types = old.types ++ standard_types 0 names; in_loop = in_loop }) (sym e) ∙ ap
    (λ ts. record { bindings = new.bindings ++ standard_bindings 0 names; types = ts ++ standard_types 0 names; in_loop = in_loop }) (sym t))
