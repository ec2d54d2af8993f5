-- The setting of an accepted program: its labels, levels and weights, its homes and its runtime.
use Rattle.std.proofs.Common.{◌≡◌, ◌≢◌, ◌<◌, ◌≤◌, ◌+◌, ◌-◌, ℕ, zero, suc, true, false, Some, List}
use Rattle.std.proofs.Common.{[], ◌∷◌, ◌++◌, length, get_or, refl, sym, ap, ◌∙◌, arith, subst, inl, inr}
use Rattle.std.specs.Prelude.{if◌then◌else◌, IsTrue}
use Rattle.std.specs.List.{AllZip, Contains}
use Rattle.std.specs.FinSet.{from_list}
use Rattle.std.proofs.lemmas.Bool.{cases_eq, cases_lt, eq-eqb, ne_eqb}
use Rattle.std.proofs.lemmas.List.Elements.{Contains-append_left, Contains-append_right}
use Rattle.tg_frame.specs.declared.accesses.Access.{Access}
use Rattle.tg_frame.specs.declared.accesses.Access.TheVariants.{InTemp, InFrame}
use Rattle.tg_frame.specs.Homes.{is_slot}
use Rattle.tg_syntax.specs.Functions.{Measures, measures, program_functions}
use Rattle.tg_syntax.specs.Spans.{span_of}
use Rattle.tg_symbols.specs.Tables.{looked_up}
use Rattle.tg_escape.specs.Links.{links_of}
use Rattle.tg_typecheck.specs.Derivations.{Derivation}
use Rattle.tg_typecheck.specs.Programs.{CheckedProgram, IsAccepted}
use Rattle.tg_typecheck.proofs.Derivations.{checked_has_type}
use Rattle.tg_typecheck.proofs.NotesFound.{notes_are_found}
use Rattle.tg_tree.specs.Tree.{Ts, Function}
use Rattle.tg_tree.specs.FrameSizes.{innermost}
use Rattle.tg_tree.specs.Running.{function_of}
use Rattle.tg_runtime.specs.declared.routines.Routine.{Routine}
use Rattle.tg_runtime.specs.declared.routines.Routine.TheVariants as routine
use Rattle.tg_runtime.specs.mirror.Labels.{label_of}
use Rattle.tg_runtime.specs.mirror.Routines.{runtime}
use Rattle.tg_runtime_proof.specs.Settings.{HasRuntime}
use Rattle.tg_runtime_proof.proofs.Running.{with_runtime_behind}
use Rattle.tg_translate.specs.declared.homes.Home.{Home}
use Rattle.tg_translate.specs.declared.homes.Callee.{Callee}
use Rattle.tg_translate.specs.declared.wants.Want.TheVariants as want
use Rattle.tg_translate.specs.mirror.States.{TranslationState, Translated, drawn, after}
use Rattle.tg_translate.specs.mirror.Wants.{Made}
use Rattle.tg_translate.specs.mirror.Functions as functions
use Rattle.tg_translate.specs.mirror.Functions.{with_body, gives_nothing, closing, program, program_of}
use Rattle.tg_translate_laws.proofs.Counts.{same, times, same_self, below, below_yes}
use Rattle.tg_translate_laws.proofs.Keeping.{about, Asks, Where, Ready, Yields, GoodMade}
use Rattle.tg_translate_laws.proofs.Shaped.{has_shape, all_once}
use Rattle.tg_translate_laws.proofs.Shaping.{checked_reaches}
use Rattle.tg_translate_laws.proofs.Walking.{walked}
use Rattle.tg_translate_proof.specs.glue.Tables.{Table}
use Rattle.tg_translate_proof.specs.Bounds.{measures_of, bound_by, level_by, declared_at}
use Rattle.tg_translate_proof.specs.glue.Situations.{Program, Setting}
use Rattle.tg_translate_proof.specs.laws.Laws.{findings_of, own_trees, trees_of, measures_in, bound_in, level_in, MayRun}
use Rattle.tg_translate_proof.proofs.state.TranslationStates.{state_in, made_in}
use Rattle.tg_translate_proof.proofs.program.Program.{first_state}
use Rattle.tg_translate_proof.proofs.state.Tables.{IsTied, AreTied}
use Rattle.tg_translate_proof.proofs.program.Accepted.{body_drawn, last, last_table, all_measures, weights}
use Rattle.tg_translate_proof.proofs.program.Accepted.{homes_once, callees_once, by_byte, functions_tied, callee_owned}

some_is : {A : Type 0} {a b : A} → Some a ≡ Some b → a ≡ b
some_is e = cc

-- Functions by their labels.

abbrev labelled : ℕ → List (Function Ts) → ℕ
labelled n fs = times (λ f. f.label) n fs

labelled_there : (fs : List (Function Ts)) (f : Function Ts) → Contains fs f → 0 < labelled f.label fs
labelled_there [] f c = absurd (omega (arith, c.1))
labelled_there (g ∷ fs) f (zero, l, e) = let one : same g.label f.label ≡ 1 = subst (λ h. same g.label h.label ≡ 1) e (same_self g.label) in omega (arith, one)
labelled_there (g ∷ fs) f (suc i, l, e) = let h = labelled_there fs f (i, omega arith, e) in omega (arith, h)

-- a function whose label stands once is found by it, also where more come after it
pub function_there : (fs gs : List (Function Ts)) (f : Function Ts) → Contains fs f → labelled f.label fs ≤ 1 → function_of f.label (fs ++ gs) ≡ Some f
function_there [] gs f c few = absurd (omega (arith, c.1))
function_there (g ∷ fs) gs f (zero, l, e) few =
    ap (λ t. if t then Some g else function_of f.label (fs ++ gs)) (eq-eqb g.label f.label (ap (λ h. h.label) e)) ∙ ap (λ h. Some h) e
function_there (g ∷ fs) gs f (suc i, l, e) few = elim (cases_eq g.label f.label) [
  | inl q ↦ (let one : same g.label f.label ≡ 1 = subst (λ b. same g.label b ≡ 1) q (same_self g.label) in
      let there = labelled_there fs f (i, omega arith, e) in absurd (omega (arith, few, one, there)))
  | inr ne ↦
      ap (λ t. if t then Some g else function_of f.label (fs ++ gs)) (ne_eqb g.label f.label ne) ∙ function_there fs gs f (i, omega arith, e)
      (omega (arith, few))
]

function_in : (l : ℕ) (fs : List (Function Ts)) (f : Function Ts) → function_of l fs ≡ Some f → Contains fs f
function_in l [] f e = cc
function_in l (g ∷ fs) f e = elim (cases_eq g.label l) [
  | inl q ↦ (0, omega arith, some_is (sym (ap (λ t. if t then Some g else function_of l fs) (eq-eqb g.label l q)) ∙ e))
  | inr ne ↦ (let c = function_in l fs f (sym (ap (λ t. if t then Some g else function_of l fs) (ne_eqb g.label l ne)) ∙ e) in
      let n = c.1 in (suc c.0, omega (arith, n), c.2))
]

-- measures with their function, place by place
module _ (table : Table) (weight : (at : ℕ) → ℕ) where
  pub record HasMade (ms : List Measures) (fs : List (Function Ts)) (m : Measures) : Type 0 where
    pub f : Function Ts
    pub there : Contains fs f
    pub tied : IsTied table weight m f
    pub measured : labelled f.label fs ≤ 1 → measures_of f.label ms fs ≡ Some m

  made_there : (ms : List Measures) (fs : List (Function Ts)) (m : Measures) → AllZip (IsTied table weight) ms fs → Contains ms m → HasMade ms fs m
  made_there [] fs m z c = absurd (omega (arith, c.1))
  made_there (o ∷ ms) [] m z c = absurd z
  made_there (o ∷ ms) (f ∷ fs) m z (zero, l, e) = record {
    f = f;
    there = (0, omega arith, refl);
    tied = subst (λ q. IsTied table weight q f) e z.0;
    measured = λ few. ap (λ t. if t then Some o else measures_of f.label ms fs) (eq-eqb f.label f.label refl) ∙ ap (λ q. Some q) e;
  }
  made_there (o ∷ ms) (g ∷ fs) m z (suc i, l, e) =
      let h = made_there ms fs m z.1 (i, omega arith, e) in
      let n = h.there.1 in
      record {
        f = h.f;
        there = (suc h.there.0, omega (arith, n), h.there.2);
        tied = h.tied;
        measured = λ few. elim (cases_eq g.label h.f.label) [
          | inl q ↦ (let one : same g.label h.f.label ≡ 1 = subst (λ b. same g.label b ≡ 1) q (same_self g.label) in
              let there = labelled_there fs h.f h.there in absurd (omega (arith, few, one, there)))
          | inr ne ↦
              ap (λ t. if t then Some o else measures_of h.f.label ms fs) (ne_eqb g.label h.f.label ne) ∙ h.measured (omega (arith, few))
        ];
      }

-- a routine has its function in the runtime
routine_there : (one : Routine) → (f : Function Ts) × (function_of (label_of one) runtime.functions ≡ Some f)
routine_there routine.MakeRecord = (_, refl)
routine_there routine.MakeArray = (_, refl)
routine_there routine.Compare = (_, refl)
routine_there routine.Print = (_, refl)
routine_there routine.Flush = (_, refl)
routine_there routine.Getchar = (_, refl)
routine_there routine.Ord = (_, refl)
routine_there routine.Chr = (_, refl)
routine_there routine.Size = (_, refl)
routine_there routine.Substring = (_, refl)
routine_there routine.Concat = (_, refl)
routine_there routine.Not = (_, refl)
routine_there routine.Exit = (_, refl)

label_found : (l : ℕ) (fs : List (Function Ts)) (f : Function Ts) → function_of l fs ≡ Some f → f.label ≡ l
label_found l [] f e = cc
label_found l (g ∷ fs) f e = elim (cases_eq g.label l) [
  | inl q ↦ (let same_one : g ≡ f = some_is (sym (ap (λ t. if t then Some g else function_of l fs) (eq-eqb g.label l q)) ∙ e) in
      sym (ap (λ h. h.label) same_one) ∙ q)
  | inr ne ↦ label_found l fs f (sym (ap (λ t. if t then Some g else function_of l fs) (ne_eqb g.label l ne)) ∙ e)
]

label_small : (one : Routine) → label_of one < 32
label_small routine.MakeRecord = omega arith
label_small routine.MakeArray = omega arith
label_small routine.Compare = omega arith
label_small routine.Print = omega arith
label_small routine.Flush = omega arith
label_small routine.Getchar = omega arith
label_small routine.Ord = omega arith
label_small routine.Chr = omega arith
label_small routine.Size = omega arith
label_small routine.Substring = omega arith
label_small routine.Concat = omega arith
label_small routine.Not = omega arith
label_small routine.Exit = omega arith

any_default : {A : Type 0} (xs : List A) (i : ℕ) (a b : A) → i < length xs → get_or xs i a ≡ get_or xs i b
any_default [] i a b lt = absurd (omega (arith, lt))
any_default (x ∷ xs) zero a b lt = refl
any_default (x ∷ xs) (suc i) a b lt = any_default xs i a b (omega (arith, lt))

slot_is : (access : Access) → IsTrue (is_slot access) → (k : ℕ) × (access ≡ InFrame k)
slot_is (InTemp t) h = cc
slot_is (InFrame k) h = (k, refl)

-- what a translated body leaves
whole_program : (d : Translated Made) → program (after d (λ m. closing false m)) ≡ program_of (state_in d) (gives_nothing (made_in d))
whole_program (drawn m t) = refl

pub drawn_is : (d : Translated Made) → d ≡ drawn (made_in d) (state_in d)
drawn_is (drawn m t) = refl

ready_left : (asks : Asks) (c : Where) (s : TranslationState) (V : TranslationState → Made → Type 0) (d : Translated Made) → Yields asks c s V d →
    Ready asks c (state_in d)
ready_left asks c s V (drawn m t) h = h.ready

module _ (p : CheckedProgram) (size : ℕ → ℕ) (heap stack : ℕ) (input : List ℕ) (may : MayRun p size heap stack input) where
  abbrev accepted : IsAccepted p
  accepted = may.accepted

  abbrev typed : Derivation p.names p.body p.notes
  typed = checked_has_type p accepted

  -- the program that is simulated
  abbrev pub simulated : Program
  simulated = record {
    shapes = typed.shapes;
    notes = p.notes;
    findings = findings_of p;
    table = last_table p accepted;
    weight = weights p accepted;
    code = trees_of p;
    size = size;
    level = level_in p;
    heap = heap;
    stack = stack;
  }

  abbrev pub made : Made
  made = made_in (body_drawn p accepted)

  abbrev pub first_function : Function Ts
  first_function = with_body (last p accepted).frame (gives_nothing made)

  own_is : own_trees p ≡ program_of (last p accepted) (gives_nothing made)
  own_is = whole_program (body_drawn p accepted)

  pub functions_are : (own_trees p).functions ≡ first_function ∷ (last p accepted).functions
  functions_are = ap (λ c. c.functions) own_is

  pub literals_are : (own_trees p).literals ≡ (last p accepted).literals
  literals_are = ap (λ c. c.literals) own_is

  pub labels_once : (n : ℕ) → times (λ f. f.label) n (own_trees p).functions + times (λ l. l.label) n (own_trees p).literals + below n 32 ≤ 1
  labels_once =
      all_once (about ⊥ ⊥ (findings_of p)) p.body (own_trees p) (has_shape (about ⊥ ⊥ (findings_of p)) p.body (λ b. absurd b) (λ t. absurd t))

  pub functions_few : (n : ℕ) → labelled n (own_trees p).functions ≤ 1
  functions_few n = let h = labels_once n in omega (arith, h)

  pub label_high : (f : Function Ts) → Contains (own_trees p).functions f → 32 ≤ f.label
  label_high f c = elim (cases_lt f.label 32) [
    | inl lt ↦ (let h = labels_once f.label in let i = below_yes f.label 32 lt in let j = labelled_there (own_trees p).functions f c in absurd
        (omega (arith, h, i, j)))
    | inr le ↦ le
  ]

  -- a callee has its function and its measures
  record IsCallee (at : ℕ) (callee : Callee) : Type 0 where
    m : Measures
    there : Contains (all_measures p accepted) m
    at_is : m.at ≡ at
    f : Function Ts
    within : Contains (own_trees p).functions f
    label_is : callee.label.0 ≡ f.label
    level_is : m.level ≡ suc callee.level
    measured : measures_in p f.label ≡ Some m

  is_callee : (at : ℕ) (callee : Callee) → looked_up at (last p accepted).callees ≡ Some callee → IsCallee at callee
  is_callee at callee e =
      let owned = callee_owned p accepted at callee e in
      let tied : AreTied (last_table p accepted) (weights p accepted) (all_measures p accepted) [] (last p accepted).functions = functions_tied p accepted in
      let h : HasMade (last_table p accepted) (weights p accepted) (all_measures p accepted) tied.added owned.0 =
      made_there (last_table p accepted) (weights p accepted) (all_measures p accepted) tied.added owned.0 tied.tied owned.1 in
      let all : (own_trees p).functions ≡ first_function ∷ tied.added = functions_are ∙ ap (λ l. first_function ∷ l) tied.whole in
      let few : labelled h.f.label (first_function ∷ tied.added) ≤ 1 = subst (λ l. labelled h.f.label l ≤ 1) all (functions_few h.f.label) in
      let there = labelled_there tied.added h.f h.there in
      let other : first_function.label ≢ h.f.label = λ q. let one : same first_function.label h.f.label ≡ 1 = subst
      (λ b. same first_function.label b ≡ 1) q (same_self first_function.label) in
      omega (arith, few, one, there) in
      let same_callee : h.tied.callee ≡ callee = some_is (sym h.tied.tabled ∙ ap (λ k. looked_up k (last p accepted).callees) owned.2 ∙ e) in
      let n = h.there.1 in
      record {
        m = owned.0;
        there = owned.1;
        at_is = owned.2;
        f = h.f;
        within = subst (λ l. Contains l h.f) (sym all) (suc h.there.0, omega (arith, n), h.there.2);
        label_is = sym (ap (λ c. c.label.0) same_callee) ∙ h.tied.label;
        level_is = h.tied.level ∙ ap (λ c. suc c.level) same_callee;
        measured =
            ap (λ l. measures_of h.f.label (program_functions p.body) l) all ∙
            ap (λ t. if t then Some (measures (span_of p.body).from 0 [] [] p.body) else measures_of h.f.label (all_measures p accepted) tied.added)
            (ne_eqb first_function.label h.f.label other) ∙
            h.measured (omega (arith, few));
      }

  whole_contains : (f : Function Ts) → Contains (own_trees p).functions f → Contains (trees_of p).functions f
  whole_contains f c = Contains-append_left (own_trees p).functions runtime.functions f c

  callee_light : (at : ℕ) (callee : Callee) → looked_up at (last p accepted).callees ≡ Some callee → size callee.label.0 ≤ weights p accepted at
  callee_light at callee e =
      let c = is_callee at callee e in
      let bound : size c.f.label ≤ bound_in p c.f.label = may.sizes.source c.f (whole_contains c.f c.within) (label_high c.f c.within) in
      let here : bound_in p c.f.label ≡ weights p accepted at =
      ap bound_by c.measured ∙ sym (ap bound_by (sym (ap (λ k. declared_at k (all_measures p accepted)) c.at_is) ∙ by_byte p accepted c.m c.there)) in
      subst (λ k. size k ≤ weights p accepted at) (sym c.label_is) (subst (λ w. size c.f.label ≤ w) here bound)

  callee_level : (at : ℕ) (callee : Callee) → looked_up at (last p accepted).callees ≡ Some callee → level_in p callee.label.0 ≡ suc callee.level
  callee_level at callee e =
      let c = is_callee at callee e in
      ap (λ k. level_in p k) c.label_is ∙ ap level_by c.measured ∙ c.level_is

  callee_label : (at : ℕ) (callee : Callee) → looked_up at (last p accepted).callees ≡ Some callee → 32 ≤ callee.label.0
  callee_label at callee e =
      let c = is_callee at callee e in
      subst (λ k. 32 ≤ k) (sym c.label_is) (label_high c.f c.within)

  -- variables that escape are in their frames
  home_in_frame : (at : ℕ) (home : Home) → looked_up at (last p accepted).homes ≡ Some home → (findings_of p).escapes at ≡ true →
      (k : ℕ) × (home.access ≡ InFrame k)
  home_in_frame at home e escapes =
      let asks : Asks = about ⊥ (Unit {0}) (findings_of p) in
      let top : Where = record { within = functions.outermost; loops = 0; in_loop = false; own = []; kept = [] } in
      let first_ready : Ready asks top first_state = record {
        from = omega arith;
        callees = λ l h. absurd (omega (arith, h.1));
        unused = λ l h. refl;
        functions = tt;
        owned = λ t at home h k. absurd (omega (arith, h.1));
        slots = λ t at home h k. cc;
        link = λ t h k. absurd (omega (arith, h));
        loops = λ b h. cc;
      } in
      let left_ready : Ready asks top (last p accepted) =
      ready_left asks top first_state (GoodMade asks 0) (body_drawn p accepted)
      (walked asks p.body top first_state want.Dropped (λ b. absurd b)
      (λ t. checked_reaches checked_has_type notes_are_found p (from_list (links_of p.body)) accepted) first_ready tt) in
      slot_is home.access (left_ready.slots tt at home escapes e)

  routine_light : (one : Routine) → size (label_of one) ≤ 4096
  routine_light one =
      let r = routine_there one in
      let label_is = label_found (label_of one) runtime.functions r.0 r.1 in
      let there : Contains (trees_of p).functions r.0 = Contains-append_right (own_trees p).functions runtime.functions r.0
      (function_in (label_of one) runtime.functions r.0 r.1) in
      let low = label_small one in
      let h = may.sizes.runtime (r.0 ∷ []) (innermost r.0 there (omega (arith, label_is, low))) in
      subst (λ k. size k ≤ 4096) label_is (omega (arith, h))

  has_runtime : HasRuntime (trees_of p).functions
  has_runtime = with_runtime_behind (own_trees p).functions (λ k d lt. label_high (get_or (own_trees p).functions k d)
      (k, lt, any_default (own_trees p).functions k _ d lt))

  -- the setting
  pub simulated_setting : Setting simulated
  simulated_setting = record {
    found = λ at m s. (notes_are_found p accepted at m).0 s;
    homes_once = λ at home more rest is e. homes_once p accepted at home more rest is e;
    callees_once = λ at callee more rest is e. callees_once p accepted at callee more rest is e;
    escaped = λ at home e escapes. home_in_frame at home e escapes;
    labels = λ at callee e. callee_label at callee e;
    levels = λ at callee e. callee_level at callee e;
    sizes = λ f e. may.sizes.each f (function_in f.label (trees_of p).functions f e);
    light = λ at callee e. callee_light at callee e;
    light_runtime = λ one. routine_light one;
    runtime = has_runtime;
    heap_small = may.heap_small;
    stack_small = may.stack_small;
    statics_small = may.statics;
    shapes_have_values = typed.formed;
  }
