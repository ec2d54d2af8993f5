-- What the instructions of a program name is there: the passes name no more than its trees do.
use Rattle.std.proofs.Common.{◌≡◌, ◌≢◌, ◌<◌, ℕ, zero, suc, Bool, true, false, List, [], ◌∷◌, ◌++◌, refl, sym, ap, subst, ◌∙◌, arith, eq-eqb, get_or}
use Rattle.std.proofs.Common.{length, inl, inr, ◌≤◌}
use Rattle.std.specs.Prelude.{◌||◌, ◌==◌, ◌+◌, map, not, IsTrue}
use Rattle.std.specs.List.{Contains, AllPairs, list_all, sum_by}
use Rattle.std.proofs.lemmas.Bool.{lt-ltb, and_from, and_parts, or_left, or_right}
use Rattle.std.proofs.lemmas.Bool.Decides.{eqb_tells}
use Rattle.std.proofs.lemmas.List.Sums.{sum_by-cons}
use Rattle.tg_base.specs.declared.ids.Label.{Label}
use Rattle.tg_machine_state.specs.State.{most_bytes, padded}
use Rattle.tg_tree.specs.declared.fragments.Literal.{Literal}
use Rattle.tg_tree.specs.Tree as tree
use Rattle.tg_tree.specs.Tree.{Ts, Function, Code}
use Rattle.tg_tree.specs.glue.Plain.{plain_literal}
use Rattle.tg_tree.specs.Named.{Named, function, literal, fault, temporary, constant, IsLinked}
use Rattle.tg_instr.specs.declared.operands.Opnd.{Opnd}
use Rattle.tg_instr.specs.declared.instr.Instr.{Instr}
use Rattle.tg_instr.specs.declared.instr.Instr.TheVariants.{Sll, Address, Call, Fault}
use Rattle.tg_instr.specs.declared.codes.Allocated.{Allocated}
use Rattle.tg_instr.specs.Renaming.{renamed}
use Rattle.tg_translate_laws.specs.laws.Laws.{names}
use Rattle.tg_canon.specs.laws.Laws as canon
use Rattle.tg_canon.specs.mirror.Canon.{linearized}
use Rattle.tg_trace_schedule.specs.laws.Laws as trace
use Rattle.tg_munch.specs.Naming.{names_allowed}
use Rattle.tg_munch.specs.mirror.Bodies.{munched}
use Rattle.tg_munch.specs.laws.Laws as munch
use Rattle.tg_redundancy.specs.laws.Laws.{KnownPassesTests}
use Rattle.tg_irc_definition.specs.Policies.{Rule}
use Rattle.tg_regalloc.specs.declared.allocations.Allocation.{Allocation}
use Rattle.tg_regalloc.specs.laws.Explained.{IgnoresOperands, AllocationsKeepTests}
use Rattle.tg_emit.specs.Conditions.{has_code, is_emittable}
use Rattle.tg_emit_laws.specs.Programs.{IsWholeProgram, bytes_of, function_labels, literal_labels, is_among, labels_differ, names_those, calls_those}
use Rattle.tg_code_bounds.specs.Allocating.{has_small_frame}
use Rattle.tg_compile.specs.declared.programs.Placement.{Placement}
use Rattle.tg_canon_trace_proof.specs.Flattened.{flattened}
use Rattle.tg_code_bounds.specs.Allocating.{IsAllocationOf}
use Rattle.tg_compile.specs.glue.Passes.{CompileApart, allocation_of, is_there, have_codes, CodeNamesNoMore, AreLinked, AreSmall}

-- other operands change no name
renamed_keeps : (p : Named → Bool) (one : Instr) (x y z : Opnd) →
    names_allowed p (renamed one x y z) ≡ names_allowed p one
renamed_keeps p (Sll a b c) x y z = refl
renamed_keeps p one x y z = refl

-- and loads and stores name nothing
names_ignore_operands : (p : Named → Bool) → IgnoresOperands (names_allowed p)
names_ignore_operands p =
    record { renaming = renamed_keeps p; load = λ to slot. refl; store = λ from slot. refl }

-- the law of all passes
pub names_no_more : canon.NamesStay → trace.NamesStay → munch.NamesStay → KnownPassesTests → AllocationsKeepTests → CodeNamesNoMore
names_no_more hoists lays picks known keeps p temps zeros f h rule a c =
    let hoisted = linearized f.body f.temps in
    let canonical = hoists p f.body f.temps h (λ i low high. temps i) in
    let flat = lays p hoisted.it zeros canonical in
    let P : List Instr → Type 0 = λ code. IsTrue (list_all (names_allowed p) code) in
    keeps rule c.code c.frame a c.allocation (names_allowed p) (names_ignore_operands p)
    (subst P (sym c.chooses.list)
    (known (names_allowed p) (λ to from. refl) (λ mark. refl) (munched (flattened f)).code (picks p (flattened f) flat)))

-- what is there, as the test of a program tells it, and has a code
those_told : (fs ls : List ℕ) (one : Instr) → names_allowed (is_there fs ls) one ≡ true → names_those fs ls one ≡ true
those_told fs ls (Address a b) e = e
those_told fs ls (Call a) e = e
those_told fs ls one e = refl

code_told : (fs ls : List ℕ) (one : Instr) → names_allowed (is_there fs ls) one ≡ true → has_code one ≡ true
code_told fs ls (Fault a) e = e
code_told fs ls one e = refl

each_told : {X : Type 0} (p q : X → Bool) → ((one : X) → p one ≡ true → q one ≡ true) → (code : List X) →
    list_all p code ≡ true → list_all q code ≡ true
each_told p q told [] e = refl
each_told p q told (one ∷ rest) e =
    and_from (q one) (list_all q rest) (told one (and_parts (p one) (list_all p rest) e).0) (each_told p q told rest (and_parts (p one) (list_all p rest) e).1)

among : (labels : List ℕ) (label : ℕ) → Contains labels label → is_among labels label ≡ true
among [] label c = absurd (omega (arith, c.1))
among (x ∷ xs) label (zero, l, e) = or_left (label == x) (is_among xs label) (eq-eqb label x (sym e))
among (x ∷ xs) label (suc k, l, e) = or_right (label == x) (is_among xs label) (among xs label (k, omega arith, e))

-- labels of which no two are one differ, and so do those of a part
differ_from : (x y : ℕ) → (x ≢ y) → (x == y) ≡ false
differ_from x y d = elim (eqb_tells x y) [ inl t ↦ absurd (d t.1) | inr f ↦ f.0 ]

neither : (a b : Bool) → a ≡ false → not b ≡ true → not (a || b) ≡ true
neither true b e n = cc
neither false b e n = n

not_among : (label : ℕ) (labels : List ℕ) → ((k d : ℕ) → k < length labels → label ≢ get_or labels k d) →
    not (is_among labels label) ≡ true
not_among label [] h = refl
not_among label (x ∷ xs) h =
    neither (label == x) (is_among xs label) (differ_from label x (h zero 0 (omega arith)))
    (not_among label xs (λ k d l. h (suc k) d (omega (arith, l))))

differ : (labels : List ℕ) → AllPairs (λ a b. a ≢ b) labels → labels_differ labels ≡ true
differ [] h = refl
differ (x ∷ xs) h =
    and_from (not (is_among xs x)) (labels_differ xs)
    (not_among x xs (λ k d l. h zero (suc k) d (omega arith) (omega (arith, l))))
    (differ xs (λ i j d below inside. h (suc i) (suc j) d (omega (arith, below)) (omega (arith, inside))))

fewer_tests : (a b c : Bool) → (not b ≡ true → not c ≡ true) → not (a || b) ≡ true → not (a || c) ≡ true
fewer_tests true b c h e = e
fewer_tests false b c h e = h e

fewer : (label : ℕ) (xs ys : List ℕ) → not (is_among (xs ++ ys) label) ≡ true → not (is_among xs label) ≡ true
fewer label [] ys e = refl
fewer label (x ∷ xs) ys e = fewer_tests (label == x) (is_among (xs ++ ys) label) (is_among xs label) (fewer label xs ys) e

first_differ : (xs ys : List ℕ) → labels_differ (xs ++ ys) ≡ true → labels_differ xs ≡ true
first_differ [] ys e = refl
first_differ (x ∷ xs) ys e =
    and_from (not (is_among xs x)) (labels_differ xs)
    (fewer x xs ys (and_parts (not (is_among (xs ++ ys) x)) (labels_differ (xs ++ ys)) e).0)
    (first_differ xs ys (and_parts (not (is_among (xs ++ ys) x)) (labels_differ (xs ++ ys)) e).1)

last_differ : (xs ys : List ℕ) → labels_differ (xs ++ ys) ≡ true → labels_differ ys ≡ true
last_differ [] ys e = e
last_differ (x ∷ xs) ys e = last_differ xs ys (and_parts (not (is_among (xs ++ ys) x)) (labels_differ (xs ++ ys)) e).1

-- codes of functions, one for each
labels_are : (rule : Rule) (fs : List (Function Ts)) (codes : List Allocated) (ps : List Placement) → CompileApart rule fs codes ps →
    function_labels codes ≡ map (λ (f : Function Ts). f.label) fs
labels_are rule [] [] [] h = refl
labels_are rule [] [] (p ∷ ps) h = absurd h
labels_are rule [] (c ∷ codes) ps h = absurd h
labels_are rule (f ∷ fs) [] ps h = absurd h
labels_are rule (f ∷ fs) (c ∷ codes) [] h = absurd h
labels_are rule (f ∷ fs) (c ∷ codes) (p ∷ ps) h =
    let one : c.frame.label.0 ≡ f.label = ap (λ (l : Label). l.0) h.0.allocation.has_frame.label ∙ h.0.chooses.label in
    ap (λ (n : ℕ). n ∷ function_labels codes) one ∙ ap (λ (ns : List ℕ). f.label ∷ ns) (labels_are rule fs codes ps h.1)

literals_are : (ls : List Literal) → literal_labels ls ≡ map (λ (l : tree.Literal). l.label) (map plain_literal ls)
literals_are [] = refl
literals_are (l ∷ ls) = ap (λ (xs : List ℕ). l.label.0 ∷ xs) (literals_are ls)

-- the names of each code pass a test
abbrev names_pass : (Named → Bool) → Allocated → Bool
names_pass allowed a = list_all (names_allowed allowed) a.code.list

codes_pass : (rule : Rule) (allowed : Named → Bool) (fs : List (Function Ts)) (codes : List Allocated) (ps : List Placement) →
    CompileApart rule fs codes ps →
    ((f : Function Ts) → Contains fs f → (a : Allocation) → IsAllocationOf rule f a → names_pass allowed a.done ≡ true) →
    list_all (names_pass allowed) codes ≡ true
codes_pass rule allowed [] [] [] h each = refl
codes_pass rule allowed [] [] (p ∷ ps) h each = absurd h
codes_pass rule allowed [] (c ∷ codes) ps h each = absurd h
codes_pass rule allowed (f ∷ fs) [] ps h each = absurd h
codes_pass rule allowed (f ∷ fs) (c ∷ codes) [] h each = absurd h
codes_pass rule allowed (f ∷ fs) (c ∷ codes) (p ∷ ps) h each =
    and_from (names_pass allowed c) (list_all (names_pass allowed) codes)
    (each f (zero, omega arith, refl) (allocation_of (c, p)) h.0)
    (codes_pass rule allowed fs codes ps h.1 (λ g m. each g (suc m.0, omega (arith, m.1), m.2)))

-- what a function of a linked program names is there
allowed_there : (program : Code Ts) → IsLinked names program → (f : Function Ts) → Contains program.functions f →
    (x : Named) → Contains (names f.body) x →
    is_there (map (λ (g : Function Ts). g.label) program.functions) (map (λ (l : tree.Literal). l.label) program.literals) x ≡ true
allowed_there program linked f c (function label) k = among (map (λ (g : Function Ts). g.label) program.functions) label (linked.calls f label c k)
allowed_there program linked f c (literal label) k = among (map (λ (l : tree.Literal). l.label) program.literals) label (linked.addresses f label c k)
allowed_there program linked f c (fault n) k = lt-ltb n 1048576 (linked.faults f n c k)
allowed_there program linked f c (temporary i) k = refl
allowed_there program linked f c (constant n) k = refl

-- so the code of a linked program is linked
pub links : CodeNamesNoMore →
    (rule : Rule) (program : Code Ts) (codes : List Allocated) (ps : List Placement) (literals : List Literal) →
    IsLinked names program →
    map plain_literal literals ≡ program.literals → CompileApart rule program.functions codes ps → AreLinked codes literals
links law rule program codes ps literals linked same apart =
    let fs = map (λ (g : Function Ts). g.label) program.functions in
    let ls = map (λ (l : tree.Literal). l.label) program.literals in
    let functions : function_labels codes ≡ fs = labels_are rule program.functions codes ps apart in
    let theirs : literal_labels literals ≡ ls = literals_are literals ∙ ap (λ (xs : List tree.Literal). map (λ (l : tree.Literal). l.label) xs) same in
    let all : labels_differ (fs ++ ls) ≡ true = differ (fs ++ ls) linked.apart in
    let passed : list_all (names_pass (is_there fs ls)) codes ≡ true =
    codes_pass rule (is_there fs ls) program.functions codes ps apart
    (λ f c. law (is_there fs ls) (λ i. refl) refl f (allowed_there program linked f c) rule) in
    let D : List ℕ → Type 0 = λ xs. IsTrue (labels_differ xs) in
    let M : List ℕ → Type 0 = λ xs. IsTrue (is_among xs 32) in
    let C : List ℕ → Type 0 = λ xs. IsTrue (list_all (calls_those xs ls) codes) in
    let L : List ℕ → Type 0 = λ ys. IsTrue (list_all (calls_those (function_labels codes) ys) codes) in
    record {
      functions_differ = subst D (sym functions) (first_differ fs ls all);
      literals_differ = subst D (sym theirs) (last_differ fs ls all);
      has_body = subst M (sym functions) (among fs 32 linked.body);
      names = subst L (sym theirs) (subst C (sym functions)
          (each_told (names_pass (is_there fs ls)) (calls_those fs ls)
          (λ a e. each_told (names_allowed (is_there fs ls)) (names_those fs ls) (those_told fs ls) a.code.list e) codes passed));
      faults = each_told (names_pass (is_there fs ls)) have_codes
          (λ a e. each_told (names_allowed (is_there fs ls)) has_code (code_told fs ls) a.code.list e) codes passed;
    }

-- frames that are small, and faults that have codes
pub emittable : (codes : List Allocated) → list_all has_small_frame codes ≡ true → list_all have_codes codes ≡ true →
    list_all is_emittable codes ≡ true
emittable [] e d = refl
emittable (c ∷ codes) e d =
    and_from (is_emittable c) (list_all is_emittable codes)
    (and_from (has_small_frame c) (have_codes c) (and_parts (has_small_frame c) (list_all has_small_frame codes) e).0
    (and_parts (have_codes c) (list_all have_codes codes) d).0)
    (emittable codes (and_parts (has_small_frame c) (list_all has_small_frame codes) e).1 (and_parts (have_codes c) (list_all have_codes codes) d).1)

-- small ones, with statics that fit their segment, make a program of them
pub whole_program : (codes : List Allocated) (literals : List Literal) → AreLinked codes literals → AreSmall codes →
    bytes_of literals ≤ most_bytes → IsWholeProgram codes literals
whole_program codes literals linked small fit =
    record {
      emittable = emittable codes small.frames linked.faults;
      functions_differ = linked.functions_differ;
      literals_differ = linked.literals_differ;
      has_body = linked.has_body;
      names = linked.names;
      code_fits = small.functions;
      statics_fit = fit;
    }

-- the statics of literals are as long as those of their plain forms
pub bytes_are : (literals : List Literal) → sum_by (λ l. length (padded l.text)) (map plain_literal literals) ≡ bytes_of literals
bytes_are [] = refl
bytes_are (l ∷ ls) =
    sum_by-cons (λ (m : tree.Literal). length (padded m.text)) (plain_literal l) (map plain_literal ls)
    ∙ ap (λ n. length (padded l.text) + n) (bytes_are ls)
