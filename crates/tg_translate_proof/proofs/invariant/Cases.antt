-- What the cases of the main lemma share: what follows of a part, and how what is made of it becomes a value, a condition or a statement.
use Rattle.std.proofs.Common.{◌≡◌, ◌≢◌, ℕ, zero, suc, ◌+◌, ◌*◌, ◌<◌, ◌≤◌, ◌^◌, ◌==◌, List, [], ◌∷◌, ◌++◌, Option, Some, None, Bool, true, false, refl, sym, ap, ◌∙◌, arith, subst, eqb-true, eq-eqb}
use Rattle.std.specs.Prelude.{if◌then◌else◌, slice_get, not, ◌-◌}
use Rattle.tg_base.specs.declared.ids.Span.{Span}
use Rattle.tg_machine_state.specs.State.{stack_top}
use Rattle.tg_syntax.specs.Tree.{Exp, Int}
use Rattle.tg_simulation.specs.Runs.{Run}
use Rattle.tg_simulation.specs.Ran.{Ran, works}
use Rattle.tg_simulation.specs.Agreement.{Source, Follows}
use Rattle.tg_simulation.proofs.Following.{follows_working, follows_paying, follows_with_credit, follows_along}
use Rattle.tg_tree.specs.Memory.{Memory}
use Rattle.tg_tree.specs.Running.{with_fuel}
use Rattle.tg_tree.specs.Forms.{nothing as nothing_done}
use Rattle.tg_translate.specs.mirror.Wants.{test_of, is_true, truth_into, as_statement, put_in, dropped}
use Rattle.tg_semantics.specs.Values.{Value, int, string, nil, reference, nothing, SourceWorld, Env}
use Rattle.tg_semantics.specs.Operators.{truth}
use Rattle.tg_semantics.specs.Passing.{Rest, Passing, passing}
use Rattle.tg_semantics.specs.Evaluation.{eval}
use Rattle.tg_semantics.specs.MachineRuns.{rest_run}
use Rattle.tg_semantics.specs.laws.Laws.{behind}
use Rattle.tg_typecheck.specs.declared.notes.Note.{Note}
use Rattle.tg_typecheck.specs.Types.{Ty, Shape, int_type, none_type}
use Rattle.tg_typecheck.specs.Scopes.{Scope}
use Rattle.tg_typecheck.specs.Has as has
use Rattle.tg_typecheck.specs.Has.{Has}
use Rattle.tg_tree.specs.Tree.{Tx, Const, Temp, After, Cond, Ts, Move, Literal, Function}
use Rattle.tg_tree.specs.Units.{Trees}
use Rattle.tg_tree.specs.Actions.{World, Temps, set_temp, Around, Go, Next, with_word}
use Rattle.tg_tree.specs.Meaning.{Enter, Point, value as value_runs, test as test_runs, run as runs}
use Rattle.tg_translate.specs.declared.homes.Within.{Within}
use Rattle.tg_translate.specs.declared.wants.Want.{Want}
use Rattle.tg_translate.specs.declared.wants.Want.TheVariants as want
use Rattle.tg_translate.specs.mirror.States.{TranslationState, Translated, drawn, Translates, after}
use Rattle.tg_translate.specs.mirror.Wants.{Made, value, done, test, value_of}
use Rattle.tg_translate.specs.mirror.Scopes.{Findings}
use Rattle.tg_correctness.specs.laws.Laws.{tree_work}
use Rattle.tg_translate_proof.specs.glue.Worlds.{Holdings, Stands, an_int, GrowsTo, unknown, Invariant, Key, cell, temporary, nowhere, free, HoldsAt, word_of}
use Rattle.tg_translate_proof.specs.glue.Worlds.{variable, kept, fixed, Content, Places, AllTemps}
use Rattle.tg_translate_proof.specs.glue.Situations as situations
use Rattle.tg_translate_proof.proofs.state.TranslationStates.{made_in, state_in}
use Rattle.tg_translate_proof.specs.glue.Situations.{Program, Part, floor}
use Rattle.tg_translate_proof.specs.glue.Shown as shown
use Rattle.tg_translate_proof.specs.glue.Tables.{Table}
use Rattle.tg_translate_proof.specs.glue.Situations.{with_temps, Extends}
use Rattle.tg_translate_proof.specs.glue.Shown.{IsWanted, IsTold, IsLeft, IsWantable, is_set, left_over, put_where}

-- Holdings and types grow.

pub grows_none : (h : Holdings) → GrowsTo h h
grows_none h = record { at = λ a k. refl; objects = λ r o e. e }

pub grows_on : (f g h : Holdings) → GrowsTo f g → GrowsTo g h → GrowsTo f h
grows_on f g h x y = record {
  at = λ a k. y.at a (λ e. k (sym (x.at a k) ∙ e)) ∙ x.at a k;
  objects = λ r o e. y.objects r o (x.objects r o e);
}

-- What stands, as it is wanted.

pub wanted_of : (h : Holdings) (w : Want) (v : Value) (ty : Ty) (u : ℕ) → Stands h v ty u → IsWanted h w v ty u
wanted_of h want.Value v ty u st = st
wanted_of h (want.Into i) v ty u st = st
wanted_of h want.Dropped v ty u st = tt
wanted_of h want.Test (int n) ty u (an_int _ lt) = refl
wanted_of h want.Test (string bytes) ty u st = st
wanted_of h want.Test nil ty u st = st
wanted_of h want.Test (reference r) ty u st = st
wanted_of h want.Test nothing ty u st = st

pub word_small : (b : Bool) → (if b then 1 else 0) < 2 ^ 32
word_small true = omega arith
word_small false = omega arith

pub truth_is_set : (b : Bool) → is_set (if b then 1 else 0) ≡ b
truth_is_set true = refl
truth_is_set false = refl

truth_stands : (g : Holdings) (v : Value) (ty : Ty) (b : Bool) → v ≡ truth b → ty ≡ int_type → Stands g v ty (if b then 1 else 0)
truth_stands g v ty b e f =
    subst (λ o. Stands g o ty (if b then 1 else 0)) (sym e) (subst (λ o. Stands g (truth b) o (if b then 1 else 0)) (sym f) (an_int (if b then 1 else 0) (word_small b)))

-- a condition's truth, as the value that is wanted
pub told_wanted : (g : Holdings) (wanted : Want) (v : Value) (ty : Ty) (b : Bool) → IsTold wanted v ty b → IsWanted g wanted v ty (if b then 1 else 0)
told_wanted g want.Value v ty b told = truth_stands g v ty b told.0 told.1
told_wanted g (want.Into i) v ty b told = truth_stands g v ty b told.0 told.1
told_wanted g want.Dropped v ty b told = tt
told_wanted g want.Test (int k) ty b told = truth_is_set b ∙ told
told_wanted g want.Test (string bytes) ty b told = truth_stands g (string bytes) ty b told.0 told.1
told_wanted g want.Test nil ty b told = truth_stands g nil ty b told.0 told.1
told_wanted g want.Test (reference k) ty b told = truth_stands g (reference k) ty b told.0 told.1
told_wanted g want.Test nothing ty b told = truth_stands g nothing ty b told.0 told.1

-- a value that is wanted where nothing is put
abbrev pub IsLoose : Want → Type 0
IsLoose want.Value = Unit {0}
IsLoose want.Test = Unit {0}
IsLoose _ = ⊥

pub left_wanted : (g : Holdings) (wanted : Want) (v : Value) (ty : Ty) (u : ℕ) → IsLoose wanted → IsLeft g wanted v ty u → IsWanted g wanted v ty 0
left_wanted g want.Value v ty u l x = subst (λ o. Stands g v ty o) x.1 x.0
left_wanted g want.Test v ty u l x = subst (λ o. IsWanted g want.Test v ty o) x.1 x.0
left_wanted g want.Dropped v ty u l x = absurd l
left_wanted g (want.Into i) v ty u l x = absurd l

pub put_loose : (wanted : Want) (u : ℕ) (t : Temps) → IsLoose wanted → put_where wanted u t ≡ t
put_loose want.Value u t l = refl
put_loose want.Test u t l = refl
put_loose want.Dropped u t l = refl
put_loose (want.Into i) u t l = absurd l

-- a temporary that is in no use is set
pub two : (b c : Bool) (i u j : ℕ) (t o : Temps) → (j == i) ≡ c → (b ≡ true → c ≡ true → ⊥) → (if b then set_temp i u t else o) j ≡ (if b then t else o) j
two false c i u j t o e n = refl
two true false i u j t o e n = ap (λ x. if x then Some u else t j) e
two true true i u j t o e n = absurd (n refl refl)

pub set_here : (i u : ℕ) (t : Temps) → set_temp i u t i ≡ Some u
set_here i u t = ap (λ b. if b then Some u else t i) (eq-eqb i i refl)

pub at_same : (h : Holdings) (types : List Ty) (s : SourceWorld) (m : Memory) (ts us : AllTemps) (k : Key) (c : Content) → word_of m us k ≡ word_of m ts k →
    HoldsAt h types s m ts k c → HoldsAt h types s m us k c
at_same h types s m ts us (cell a) nowhere e x = tt
at_same h types s m ts us (cell a) free e x = x
at_same h types s m ts us (cell a) (variable l) e x = x
at_same h types s m ts us (cell a) (kept l w) e x = absurd x
at_same h types s m ts us (cell a) (fixed w) e x = x
at_same h types s m ts us (temporary d i) nowhere e x = tt
at_same h types s m ts us (temporary d i) free e x = x
at_same h types s m ts us (temporary d i) (variable l) e x = (x.0, e ∙ x.1, x.2)
at_same h types s m ts us (temporary d i) (kept l w) e x = (e ∙ x.0, x.1)
at_same h types s m ts us (temporary d i) (fixed w) e x = e ∙ x

module _ (h : Holdings) (types : List Ty) (s : SourceWorld) (m : Memory) (places : Places) (d i u : ℕ) (t : Temps) (others : AllTemps) (idle : places (temporary d i) ≡ nowhere) where
  keep_temp : (e j : ℕ) (b c : Bool) → (e == d) ≡ b → (j == i) ≡ c → HoldsAt h types s m (with_temps d t others) (temporary e j) (places (temporary e j)) →
      HoldsAt h types s m (with_temps d (set_temp i u t) others) (temporary e j) (places (temporary e j))
  keep_temp e j true true he hj x =
      subst (λ o. HoldsAt h types s m (with_temps d (set_temp i u t) others) (temporary e j) o)
      (sym (ap (λ o. places (temporary o j)) (eqb-true e d he) ∙ ap (λ o. places (temporary d o)) (eqb-true j i hj) ∙ idle)) tt
  keep_temp e j false c he hj x =
      at_same h types s m (with_temps d t others) (with_temps d (set_temp i u t) others) (temporary e j) (places (temporary e j))
      (two (e == d) c i u j t (others e) hj (λ a b. cc)) x
  keep_temp e j true false he hj x =
      at_same h types s m (with_temps d t others) (with_temps d (set_temp i u t) others) (temporary e j) (places (temporary e j))
      (two (e == d) false i u j t (others e) hj (λ a b. cc)) x

  pub keep_key : (k : Key) → HoldsAt h types s m (with_temps d t others) k (places k) → HoldsAt h types s m (with_temps d (set_temp i u t) others) k (places k)
  keep_key (cell a) x = at_same h types s m (with_temps d t others) (with_temps d (set_temp i u t) others) (cell a) (places (cell a)) refl x
  keep_key (temporary e j) x = keep_temp e j (e == d) (j == i) refl refl x

  pub temp_is_set : (shapes : List (ℕ × Shape)) (room floor : ℕ) (w : World) → w.memory ≡ m → Invariant shapes room floor places h types s w (with_temps d t others) →
      Invariant shapes room floor places h types s w (with_temps d (set_temp i u t) others)
  temp_is_set shapes room floor w e v =
      record {
        holds = λ k. subst (λ o. HoldsAt h types s o (with_temps d (set_temp i u t) others) k (places k)) (sym e)
            (keep_key k (subst (λ o. HoldsAt h types s o (with_temps d t others) k (places k)) e (v.holds k)));
        once = v.once;
        above = v.above;
        words = v.words;
        once_laid = v.once_laid;
        owned = v.owned;
        laid = v.laid;
        objects = v.objects;
        variables = v.variables;
        known = v.known;
        addresses = v.addresses;
        in_heap = v.in_heap;
        memory = v.memory;
        heap = v.heap;
        input = v.input;
        input_bytes = v.input_bytes;
      }

module _ (P : Program) where
  abbrev pub Shown : ℕ → Exp → Type 0
  Shown = shown.Shown P

  abbrev pub Situation : ℕ → Exp → Type 0
  Situation = shown.Situation P

  abbrev pub source_of : {made_by : Want → Within → Translates Made} → (n : ℕ) (e : Exp) → shown.SituationBy P n e made_by → Run Source
  source_of n e x = rest_run (eval Passing (passing P.heap P.stack) (behind P.heap P.stack) e x.p.env x.go x.out) x.s

  abbrev pub Made_follows : {made_by : Want → Within → Translates Made} → (n : ℕ) (e : Exp) → shown.SituationBy P n e made_by → Made → Type 0
  Made_follows n e x m = shown.MadeFollows P n x.r x.p x.h x.types x.wanted x.ty x.go (source_of n e x) x.w x.t m

  -- a case that is made this
  pub by_made : {made_by : Want → Within → Translates Made} → (n : ℕ) (e : Exp) (x : shown.SituationBy P n e made_by) (m : Made) (s : TranslationState) → drawn m s ≡ drawn x.m x.τ → shown.IsNamed P n x.r x.p x.s x.go (source_of n e x) m → Made_follows n e x m → shown.IsShown P n e x
  by_made n e x m s eq named f = (subst (λ o. shown.IsNamed P n x.r x.p x.s x.go (source_of n e x) o) (ap made_in eq) named, subst (λ o. Made_follows n e x o) (ap made_in eq) f)

  abbrev pub vals : Part → Tx → Around → Go ℕ → World → Temps → Run Ran
  vals = situations.value_runs P

  abbrev pub tests : Part → Cond → Around → Go Bool → World → Temps → Run Ran
  tests = situations.test_runs P

  abbrev pub does : Part → Ts → Around → Next → World → Temps → Run Ran
  does = situations.statement_runs P

  abbrev pub Fol : (r n : ℕ) → Run Source → Run Ran → Type 0
  Fol r n c d = Follows P.stack tree_work r n c d

  abbrev pub Holds : Part → Holdings → List Ty → SourceWorld → World → Temps → Type 0
  Holds = situations.Holds P

  abbrev pub Onward : {A : Type 0} → (n r : ℕ) → Part → Holdings → List Ty → (Holdings → Value → A → Type 0) → (Value → Rest) → Go A → Type 0
  Onward n r p h types stands go go' = shown.Onward P n r p h types stands go go'

  abbrev pub MadeF : (n r : ℕ) → Part → Holdings → List Ty → Want → Ty → (Value → Rest) → Run Source → World → Temps → Made → Type 0
  MadeF = shown.MadeFollows P

  -- with more credit, or after work
  pub more : (r q n : ℕ) (c : Run Source) (d : Run Ran) → r ≤ q → Fol r n c d → Fol q n c d
  more r q n c d le f = follows_with_credit P.stack tree_work r q n c d le f

  pub worked : (r q k n : ℕ) (c : Run Source) (d : Run Ran) → r + k ≤ q → Fol r n c d → Fol q n c (λ j. works k (d j))
  worked r q k n c d le f = more (r + k) q n c (λ j. works k (d j)) le (follows_working P.stack tree_work r n k c d f)

  pub holds_with_temp : (p : Part) (h : Holdings) (types : List Ty) (s : SourceWorld) (w : World) (t : Temps) (i u : ℕ) → p.places (temporary p.scene.depth i) ≡ nowhere →
      Holds p h types s w t → Holds p h types s w (set_temp i u t)
  holds_with_temp p h types s w t i u idle x =
      record { invariant = temp_is_set h types s w.memory p.places p.scene.depth i u t p.others idle P.shapes P.heap (floor P) w refl x.invariant; weight = x.weight; depth = x.depth; statics = x.statics; literals = x.literals }

  -- What was made, as what its place wants.
  module _ (n r : ℕ) (p : Part) (h : Holdings) (types : List Ty) (wanted : Want) (ty : Ty) (go : Value → Rest) (source : Run Source) (w : World) (t : Temps) where
    abbrev MF : Made → Type 0
    MF m = MadeF n r p h types wanted ty go source w t m

    -- a condition chooses between 1 and 0 for a temporary
    pub truth_follows : (c : Cond) (i : ℕ) (next : Next) → MF (test c) →
        Onward n (r + 60) p h types (λ g v b. IsTold wanted v ty b) go (λ b w1 t1. next w1 (set_temp i (if b then 1 else 0) t1)) →
        Fol (r + 4) n source (does p (truth_into i c) p.around next w t)
    truth_follows c i next made onward =
        let arms : Go Bool = λ b w1 t1. (if b then does p (Move i (Const 1)) else does p (Move i (Const 0))) p.around next w1 t1 in
        worked r (r + 4) 4 n source (tests p c p.around arms w t) (omega arith)
        (made arms (λ g more_types v b s1 w1 t1 gg ee hh told. behind_arm b (rest_run (go v) s1) w1 t1 next i (onward g more_types v b s1 w1 t1 gg ee hh told)))
      where
        behind_arm : (b : Bool) (c : Run Source) (w1 : World) (t1 : Temps) (next : Next) (i : ℕ) → Fol (r + 60) n c (next w1 (set_temp i (if b then 1 else 0) t1)) →
            Fol (r + left_over) n c ((if b then does p (Move i (Const 1)) else does p (Move i (Const 0))) p.around next w1 t1)
        behind_arm true c w1 t1 next i f = worked (r + 62) (r + left_over) 2 n c _ (omega arith) (worked (r + 60) (r + 62) 2 n c _ (omega arith) f)
        behind_arm false c w1 t1 next i f = worked (r + 62) (r + left_over) 2 n c _ (omega arith) (worked (r + 60) (r + 62) 2 n c _ (omega arith) f)

    -- the same with other credit
    pub onward_more : {A : Type 0} (q k : ℕ) (stands : Holdings → Value → A → Type 0) (go' : Go A) → q ≤ k → Onward n q p h types stands go go' → Onward n k p h types stands go go'
    onward_more q k stands go' le onward g ms v u s1 w1 t1 gg ee hh st = more q k n (rest_run (go v) s1) (go' u w1 t1) le (onward g ms v u s1 w1 t1 gg ee hh st)

    -- as a value: after at most 4 units, and leaving 56
    pub value_follows : (m : Made) (σ τ : TranslationState) (y : Tx) (go' : Go ℕ) → IsLoose wanted → value_of m σ ≡ drawn y τ →
        ((i : ℕ) → σ.frame.temps ≤ i → i < τ.frame.temps → p.places (temporary p.scene.depth i) ≡ nowhere) →
        MF m → Onward n (r + 56) p h types (λ g v u. IsWanted g wanted v ty u) go go' → Fol (r + 4) n source (vals p y p.around go' w t)
    value_follows (value x) σ τ y go' loose e idle made onward =
        subst (λ z. Fol (r + 4) n source (vals p z p.around go' w t)) (ap made_in e)
        (more r (r + 4) n source _ (omega arith) (made go' (onward_more (r + 56) (r + left_over) (λ g v u. IsWanted g wanted v ty u) go' (omega arith) onward)))
    value_follows (done x) σ τ y go' loose e idle made onward =
        let next : Next = λ w1 t1. vals p (Const 0) p.around go' w1 t1 in
        subst (λ z. Fol (r + 4) n source (vals p z p.around go' w t)) (ap made_in e)
        (worked r (r + 4) 0 n source (does p x p.around next w t) (omega arith)
        (made next (λ g ms v u s1 w1 t1 gg ee hh st. subst (λ o. Fol (r + left_over) n (rest_run (go v) s1) (next w1 o)) (sym (put_loose wanted u t1 loose))
        (worked (r + 56) (r + left_over) 2 n (rest_run (go v) s1) _ (omega arith)
        (onward g ms v 0 s1 w1 t1 gg ee hh (left_wanted g wanted v ty u loose st))))))
    value_follows (test c) σ τ y go' loose e idle made onward =
        let i : ℕ = σ.frame.temps in
        let i_idle : p.places (temporary p.scene.depth i) ≡ nowhere = idle i (omega arith) (omega (arith, ap (λ d. (state_in d).frame.temps) e)) in
        let next : Next = λ w1 t1. vals p (Temp i) p.around go' w1 t1 in
        subst (λ z. Fol (r + 4) n source (vals p z p.around go' w t)) (ap made_in e)
        (worked (r + 4) (r + 4) 0 n source (does p (truth_into i c) p.around next w t) (omega arith)
        (truth_follows c i next made
        (λ g ms v b s1 w1 t1 gg ee hh told.
        worked (r + 56) (r + 60) 0 n (rest_run (go v) s1) _ (omega arith)
        (subst (λ o. Fol (r + 56) n (rest_run (go v) s1) (with_word o w1 (λ u. go' u w1 (set_temp i (if b then 1 else 0) t1)))) (sym (set_here i (if b then 1 else 0) t1))
        (onward g ms v (if b then 1 else 0) s1 w1 (set_temp i (if b then 1 else 0) t1) gg ee (holds_with_temp p g ms s1 w1 t1 i (if b then 1 else 0) i_idle hh)
        (told_wanted g wanted v ty b told))))))

    -- as a condition
    pub condition_follows : (m : Made) (go' : Go Bool) → IsLoose wanted → MF m → Onward n (r + 56) p h types (λ g v b. (u : ℕ) × IsWanted g wanted v ty u × (b ≡ is_set u)) go go' →
        Fol (r + 4) n source (tests p (test_of m) p.around go' w t)
    condition_follows (value x) go' loose made onward =
        let go2 : Go ℕ = λ u w1 t1. vals p (Const 0) p.around (λ v w2 t2. go' (not (u == v)) w2 t2) w1 t1 in
        worked r (r + 4) 4 n source (vals p x p.around go2 w t) (omega arith)
        (made go2 (λ g ms v u s1 w1 t1 gg ee hh st. worked (r + 56) (r + left_over) 2 n (rest_run (go v) s1) _ (omega arith)
        (onward g ms v (is_set u) s1 w1 t1 gg ee hh (u, st, refl))))
    condition_follows (done x) go' loose made onward =
        let next : Next = λ w1 t1. vals p (Const 0) p.around (λ u w3 t3. vals p (Const 0) p.around (λ v w2 t2. go' (not (u == v)) w2 t2) w3 t3) w1 t1 in
        worked r (r + 4) 4 n source (vals p (After x (Const 0)) p.around (λ u w3 t3. vals p (Const 0) p.around (λ v w2 t2. go' (not (u == v)) w2 t2) w3 t3) w t) (omega arith)
        (worked r r 0 n source (does p x p.around next w t) (omega arith)
        (made next (λ g ms v u s1 w1 t1 gg ee hh st. subst (λ o. Fol (r + left_over) n (rest_run (go v) s1) (next w1 o)) (sym (put_loose wanted u t1 loose))
        (worked (r + 60) (r + left_over) 2 n (rest_run (go v) s1) _ (omega arith) (worked (r + 56) (r + 60) 2 n (rest_run (go v) s1) _ (omega arith)
        (onward g ms v false s1 w1 t1 gg ee hh (0, left_wanted g wanted v ty u loose st, refl)))))))
    condition_follows (test c) go' loose made onward =
        more r (r + 4) n source _ (omega arith)
        (made go' (λ g ms v b s1 w1 t1 gg ee hh told. more (r + 56) (r + left_over) n (rest_run (go v) s1) (go' b w1 t1) (omega arith)
        (onward g ms v b s1 w1 t1 gg ee hh (if b then 1 else 0, told_wanted g wanted v ty b told, sym (truth_is_set b)))))

  module _ (n r : ℕ) (p : Part) (h : Holdings) (types : List Ty) (ty : Ty) (go : Value → Rest) (source : Run Source) (w : World) (t : Temps) where
    -- as an arm, in a temporary
    pub arm_follows : (m : Made) (i : ℕ) (next : Next) → MadeF n r p h types (want.Into (record { 0 = i })) ty go source w t m →
        Onward {A = ℕ} n (r + 56) p h types (λ g v u. Stands g v ty u) go (λ u w1 t1. next w1 (set_temp i u t1)) →
        Fol (r + 4) n source (does p (put_in i m) p.around next w t)
    arm_follows (value x) i next made onward =
        let go2 : Go ℕ = λ u w1 t1. next w1 (set_temp i u t1) in
        worked r (r + 4) 2 n source (vals p x p.around go2 w t) (omega arith)
        (made go2 (λ g ms v u s1 w1 t1 gg ee hh st. more (r + 56) (r + left_over) n (rest_run (go v) s1) (go2 u w1 t1) (omega arith) (onward g ms v u s1 w1 t1 gg ee hh st)))
    arm_follows (done x) i next made onward =
        more r (r + 4) n source _ (omega arith)
        (made next (λ g ms v u s1 w1 t1 gg ee hh st. more (r + 56) (r + left_over) n (rest_run (go v) s1) (next w1 (set_temp i u t1)) (omega arith)
        (onward g ms v u s1 w1 t1 gg ee hh st)))
    arm_follows (test c) i next made onward =
        truth_follows n r p h types (want.Into (record { 0 = i })) ty go source w t c i next made
        (λ g ms v b s1 w1 t1 gg ee hh told. more (r + 56) (r + 60) n (rest_run (go v) s1) (next w1 (set_temp i (if b then 1 else 0) t1)) (omega arith)
        (onward g ms v (if b then 1 else 0) s1 w1 t1 gg ee hh (truth_stands g v ty b told.0 told.1)))

    -- dropped
    pub dropped_follows : (m : Made) (next : Next) → MadeF n r p h types want.Dropped ty go source w t m →
        Onward {A = ℕ} n (r + 56) p h types (λ g v u. Unit {0}) go (λ u w1 t1. next w1 t1) →
        Fol (r + 4) n source (does p (dropped m) p.around next w t)
    dropped_follows (value x) next made onward =
        let go2 : Go ℕ = λ u w1 t1. next w1 t1 in
        worked r (r + 4) 0 n source (vals p x p.around go2 w t) (omega arith)
        (made go2 (λ g ms v u s1 w1 t1 gg ee hh st. more (r + 56) (r + left_over) n (rest_run (go v) s1) (next w1 t1) (omega arith) (onward g ms v u s1 w1 t1 gg ee hh tt)))
    dropped_follows (done x) next made onward =
        more r (r + 4) n source _ (omega arith)
        (made next (λ g ms v u s1 w1 t1 gg ee hh st. more (r + 56) (r + left_over) n (rest_run (go v) s1) (next w1 t1) (omega arith) (onward g ms v u s1 w1 t1 gg ee hh tt)))
    dropped_follows (test c) next made onward =
        let go2 : Go Bool = λ b w1 t1. (if b then does p nothing_done else does p nothing_done) p.around next w1 t1 in
        worked r (r + 4) 4 n source (tests p c p.around go2 w t) (omega arith)
        (made go2 (λ g ms v b s1 w1 t1 gg ee hh told. either b (rest_run (go v) s1) w1 t1 next (onward g ms v 0 s1 w1 t1 gg ee hh tt)))
      where
        either : (b : Bool) (c : Run Source) (w1 : World) (t1 : Temps) (next : Next) → Fol (r + 56) n c (next w1 t1) →
            Fol (r + left_over) n c ((if b then does p nothing_done else does p nothing_done) p.around next w1 t1)
        either true c w1 t1 next f = worked (r + 56) (r + left_over) 0 n c (next w1 t1) (omega arith) f
        either false c w1 t1 next f = worked (r + 56) (r + left_over) 0 n c (next w1 t1) (omega arith) f

  int_typed : (sp : Span) (k : ℕ) (scope : Scope) (t : Ty) → Has P.shapes P.notes (Int sp k) scope t → t ≡ int_type
  int_typed sp k scope t has.int = refl

  -- (1) an int literal
  pub int_shown : (n : ℕ) (sp : Span) (k : ℕ) → Shown n (Int sp k)
  int_shown n sp k x =
      by_made n (Int sp k) x (value (Const k)) x.σ x.is_made tt
      (λ go' onward.
      let st : Stands x.h (int k) x.ty k = subst (λ t. Stands x.h (int k) t k) (sym (int_typed sp k x.p.scope x.ty x.typed)) (an_int k (omega (arith, x.words))) in
      follows_paying P.stack tree_work x.r n 1 (rest_run (x.go (int k)) x.s) (vals x.p (Const k) x.p.around go' x.w x.t)
      (follows_with_credit P.stack tree_work (x.r + left_over + 2) (x.r + tree_work * 1) n (rest_run (x.go (int k)) x.s) _ (omega arith)
      (follows_working P.stack tree_work (x.r + left_over) n 2 (rest_run (x.go (int k)) x.s) (go' k x.w x.t)
      (onward x.h x.types (int k) k x.s x.w x.t (grows_none x.h) (λ i a e. e) x.holds (wanted_of x.h x.wanted (int k) x.ty k st)))))
