-- The code of a program, with the runtime's, fits its segment, and each frame is small.
use Rattle.std.proofs.Common.{ℕ, ◌+◌, ◌*◌, ◌≡◌, ◌≤◌, ◌<◌, ◌^◌, List, [], ◌∷◌, ◌++◌, length, sum_by, Bool, None, refl, subst, arith}
use Rattle.std.specs.Prelude.{IsTrue}
use Rattle.std.specs.List.{AllZip, AllByRecursion, Contains, list_all}
use Rattle.std.specs.Ordering.{nat_cmp}
use Rattle.std.specs.FinSet.{FinSet, from_list}
use Rattle.std.proofs.lemmas.Bool.{lt-ltb, ltb-true}
use Rattle.std.proofs.lemmas.List.Elements.{All-weaker, All-contains_itself, recursion_from_All}
use Rattle.std.proofs.lemmas.List.Sums.{sum_by-cons}
use Rattle.tg_syntax.specs.Spans.{span_of}
use Rattle.tg_syntax.specs.Functions.{Measures, program_functions, program_size}
use Rattle.tg_typecheck.specs.declared.faults.TypeRule.TheVariants.{T20, T21, T22}
use Rattle.tg_typecheck.specs.laws.Laws.{CheckedHasType}
use Rattle.tg_typecheck.specs.Limits.{above, first_above}
use Rattle.tg_typecheck.specs.Programs.{CheckedProgram, IsAccepted}
use Rattle.tg_escape.specs.Escaping.{escapes_of}
use Rattle.tg_tree.specs.Tree.{Ts, Function}
use Rattle.tg_tree.specs.Named.{temporary}
use Rattle.tg_tree.specs.Sizes.{tree_length, tree_needs}
use Rattle.tg_tree.specs.declared.fragments.Literal.{Literal}
use Rattle.tg_runtime.specs.mirror.Routines.{runtime}
use Rattle.tg_runtime.specs.laws.Laws.{AreRoutines, AllAreRoutines, is_own, most_length}
use Rattle.tg_translate.specs.mirror.Translate.{translated}
use Rattle.tg_translate_laws.specs.laws.Laws.{names, findings_in, FunctionIsWithin, FunctionsAreWithin, CheckedBodiesAreClosed, CheckedTemporariesAreDrawn}
use Rattle.tg_translate_laws.specs.laws.Laws.{CheckedFramesAreSmall}
use Rattle.tg_translate_laws.proofs.Bounding.{within_limit}
use Rattle.tg_canon_trace_proof.specs.Flattened.{MayBeFlattened}
use Rattle.tg_instr.specs.declared.codes.Allocated.{Allocated}
use Rattle.tg_instr.proofs.Tests.{all_at, both_hold}
use Rattle.tg_irc_definition.specs.Policies.{Rule}
use Rattle.tg_regalloc.specs.declared.allocations.Allocation.{Allocation}
use Rattle.tg_regalloc.specs.Allocations.{codes_of}
use Rattle.tg_emit.specs.mirror.Lines.{size_of, is_long, function_lines, functions_lines, literals_lines, words}
use Rattle.tg_emit_laws.proofs.CodeLines.{words_append}
use Rattle.tg_code_bounds.specs.Allocating.{IsAllocationOf, has_small_frame}
use Rattle.tg_code_bounds.specs.Reduced.{ReducesTo}
use Rattle.tg_code_bounds.specs.laws.Laws.{length_words, besides_words, node_words, function_words, most_node_words, most_runtime_words, CodeIsShort}
use Rattle.tg_code_bounds.specs.laws.Laws.{FramesAreSmall, FunctionsArePaid, FitsSegment, AreAllocationsOf, ProgramCodeFits, ProgramFramesAreSmall}
use Rattle.tg_code_bounds.proofs.Functions.{all_counted, counted, counted_within}

-- What the functions of an accepted program, and of the runtime, are.

record IsBounded (f : Function Ts) : Type 0 where
  may : MayBeFlattened f
  short : tree_length f ≤ 800000
  small : tree_needs f ≤ 1200000

routines_bounded : (fs : List (Function Ts)) → AreRoutines fs → AllByRecursion IsBounded fs
routines_bounded [] h = tt
routines_bounded (f ∷ fs) h =
    let s = h.0.short in
    let r = h.0.small in
    let below : (i : ℕ) → Contains (names f.body) (temporary i) → i < f.temps =
    λ i c. ltb-true i f.temps (subst (λ x. IsTrue (is_own f.temps x)) c.2 (all_at (is_own f.temps) (names f.body) c.0 (temporary i) c.1 h.0.own)) in
    (record { may = record { closed = h.0.closed; temps = below }; short = omega (arith, s); small = omega (arith, r) }, routines_bounded fs h.1)

program_bounded : CheckedBodiesAreClosed → CheckedTemporariesAreDrawn → CheckedFramesAreSmall → (p : CheckedProgram) (links : FinSet nat_cmp) → IsAccepted p →
    (f : Function Ts) → Contains (translated (findings_in p links) p.body).functions f → IsBounded f
program_bounded closed drawn small p links accepted f c =
    let escapes = from_list (escapes_of p.body) in
    let h = small p escapes links f accepted c in
    record {
      may = record { closed = closed p escapes links f accepted c; temps = drawn p links f accepted c };
      short = h.short;
      small = h.small;
    }

each_bounded : (fs : List (Function Ts)) → ((f : Function Ts) → Contains fs f → IsBounded f) → AllByRecursion IsBounded fs
each_bounded fs h = recursion_from_All IsBounded fs (All-weaker (Contains fs) IsBounded h fs (All-contains_itself fs))

both_bounded : (fs rs : List (Function Ts)) → AllByRecursion IsBounded fs → AllByRecursion IsBounded rs → AllByRecursion IsBounded (fs ++ rs)
both_bounded [] rs h k = k
both_bounded (f ∷ fs) rs h k = (h.0, both_bounded fs rs h.1 k)

-- and those in their places
reduced_bounded : (fs gs : List (Function Ts)) → AllZip ReducesTo fs gs → AllByRecursion IsBounded fs → AllByRecursion IsBounded gs
reduced_bounded [] [] r h = tt
reduced_bounded [] (g ∷ gs) r h = absurd r
reduced_bounded (f ∷ fs) [] r h = absurd r
reduced_bounded (f ∷ fs) (g ∷ gs) r h =
    let no_longer = r.0.short in
    let no_larger = r.0.small in
    let s = h.0.short in
    let n = h.0.small in (
      record { may = r.0.may h.0.may; short = omega (arith, no_longer, s); small = omega (arith, no_larger, n) },
      reduced_bounded fs gs r.1 h.1,
    )

module _ (rule : Rule) where
  -- Frames.

  frames_small : FramesAreSmall → (fs : List (Function Ts)) (allocations : List Allocation) → AllByRecursion IsBounded fs →
      AllZip (IsAllocationOf rule) fs allocations → IsTrue (list_all has_small_frame (codes_of allocations))
  frames_small law [] [] h k = refl
  frames_small law [] (a ∷ rest) h k = absurd k
  frames_small law (f ∷ fs) [] h k = absurd k
  frames_small law (f ∷ fs) (a ∷ rest) h k =
      let s = h.0.short in
      let r = h.0.small in
      let b = law rule f a h.0.may k.0 in
      let low : size_of a.done.frame < 2 ^ 29 = omega (arith, s, r, b) in
      both_hold _ _ (lt-ltb (size_of a.done.frame) (2 ^ 29) low) (frames_small law fs rest h.1 k.1)

  -- Code, of the runtime and of the functions before it. What such a function has besides its nodes is at most half of function_words
  -- for each that is counted of it: its two, and its parameters.

  abbrev routine_words : ℕ
  routine_words = length_words * most_length + besides_words

  routines_short : CodeIsShort → (turned : Bool) (rs gs : List (Function Ts)) (allocations : List Allocation) → AreRoutines rs → AllZip ReducesTo rs gs →
      AllByRecursion IsBounded gs →
      AllZip (IsAllocationOf rule) gs allocations → words (functions_lines turned (codes_of allocations)) ≤ routine_words * length rs
  routines_short law turned [] [] [] h r may k = omega arith
  routines_short law turned [] [] (a ∷ rest) h r may k = absurd k
  routines_short law turned [] (g ∷ gs) allocations h r may k = absurd r
  routines_short law turned (f ∷ fs) [] allocations h r may k = absurd r
  routines_short law turned (f ∷ fs) (g ∷ gs) [] h r may k = absurd k
  routines_short law turned (f ∷ fs) (g ∷ gs) (a ∷ rest) h r may k =
      let s = h.0.short in
      let no_longer = r.0.short in
      let one = law rule g a may.0.may k.0 turned in
      let others = routines_short law turned fs gs rest h.1 r.1 may.1 k.1 in
      omega (arith, s, no_longer, one, others, words_append (function_lines turned a.done) (functions_lines turned (codes_of rest)))

  functions_short : CodeIsShort → FunctionsArePaid → (turned : Bool) (ms : List Measures) (fs rs gs : List (Function Ts)) (allocations : List Allocation) →
      first_above ms ≡ None → AllZip FunctionIsWithin ms fs → AreRoutines rs → AllZip ReducesTo (fs ++ rs) gs → AllByRecursion IsBounded gs →
      AllZip (IsAllocationOf rule) gs allocations →
      2 * words (functions_lines turned (codes_of allocations)) ≤
      2 * node_words * sum_by (λ m. m.size) ms + function_words * all_counted ms + 2 * routine_words * length rs
  functions_short law paid turned [] [] rs gs allocations limits within routines r may k =
      let h = routines_short law turned rs gs allocations routines r may k in omega (arith, h)
  functions_short law paid turned [] (f ∷ fs) rs gs allocations limits within routines r may k = absurd within
  functions_short law paid turned (m ∷ ms) [] rs gs allocations limits within routines r may k = absurd within
  functions_short law paid turned (m ∷ ms) (f ∷ fs) rs [] allocations limits within routines r may k = absurd r
  functions_short law paid turned (m ∷ ms) (f ∷ fs) rs (g ∷ gs) [] limits within routines r may k = absurd k
  functions_short law paid turned (m ∷ ms) (f ∷ fs) rs (g ∷ gs) (a ∷ rest) limits within routines r may k =
      let level = within_limit T20 m.at m.level 32 (above T21 m.at m.size 4096 (first_above ms)) limits in
      let size = within_limit T21 m.at m.size 4096 (first_above ms) level.1 in
      let one = (paid rule m f g a level.0 within.0 r.0 may.0.may k.0).short turned in
      let others = functions_short law paid turned ms fs rs gs rest size.1 within.1 routines r.1 may.1 k.1 in
      omega (
        arith,
        one,
        others,
        words_append (function_lines turned a.done) (functions_lines turned (codes_of rest)),
        sum_by-cons (λ (n : Measures). n.size) m ms,
        sum_by-cons counted m ms,
      )

-- literals have no words of code
literals_empty : (literals : List Literal) → words (literals_lines literals) ≡ 0
literals_empty [] = refl
literals_empty (l ∷ ls) = let h = literals_empty ls in omega (arith, h)

routine_count : length runtime.functions ≡ 13
routine_count = refl

within_segment : (nodes : ℕ) (codes : List Allocated) → nodes ≤ 32768 →
    ((turned : Bool) → words (functions_lines turned codes) ≤ most_node_words * nodes + most_runtime_words) → FitsSegment nodes codes
within_segment nodes codes few short =
    let h = short (is_long codes) in
    record {
      short = short;
      functions = omega (arith, few, h);
      assembly = λ literals. omega (arith, few, h, words_append (functions_lines (is_long codes) codes) (literals_lines literals), literals_empty literals);
    }

-- what is allocated for an accepted program
are_bounded : CheckedBodiesAreClosed → CheckedTemporariesAreDrawn → CheckedFramesAreSmall → AllAreRoutines →
    (rule : Rule) (p : CheckedProgram) (links : FinSet nat_cmp)
    (allocations : List Allocation) → IsAccepted p → (are : AreAllocationsOf rule p links allocations) → AllByRecursion IsBounded are.functions
are_bounded closed drawn small routines rule p links allocations accepted are =
    let functions = (translated (findings_in p links) p.body).functions in
    let bounded = each_bounded functions (program_bounded closed drawn small p links accepted) in
    let last = routines_bounded runtime.functions routines in
    reduced_bounded (functions ++ runtime.functions) are.functions are.reduced (both_bounded functions runtime.functions bounded last)

pub program_code_fits : CodeIsShort → FunctionsArePaid → CheckedHasType → CheckedBodiesAreClosed → CheckedTemporariesAreDrawn →
    CheckedFramesAreSmall → FunctionsAreWithin → AllAreRoutines → ProgramCodeFits
program_code_fits law paid typed closed drawn small within routines rule p links allocations accepted are =
    let body = p.body in
    let functions = (translated (findings_in p links) body).functions in
    let limit = within_limit T22 (span_of body).from (program_size body) 32768 (first_above (program_functions body)) (typed p accepted).limits in
    let few = limit.0 in
    let counts = counted_within body in
    let bounded = are_bounded closed drawn small routines rule p links allocations accepted are in
    within_segment (program_size body) (codes_of allocations) few (λ turned.
    let h = functions_short rule law paid turned (program_functions body) functions runtime.functions are.functions allocations limit.1
    (within (findings_in p links) body) routines are.reduced bounded are.allocated in
    omega (arith, few, counts, h, routine_count))

pub program_frames_are_small : FramesAreSmall → CheckedBodiesAreClosed → CheckedTemporariesAreDrawn → CheckedFramesAreSmall → AllAreRoutines →
    ProgramFramesAreSmall
program_frames_are_small law closed drawn small routines rule p links allocations accepted are =
    frames_small rule law are.functions allocations (are_bounded closed drawn small routines rule p links allocations accepted are) are.allocated
