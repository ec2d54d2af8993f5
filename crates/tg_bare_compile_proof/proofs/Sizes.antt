-- What an accepted program that isn't too large is compiled to has room for its slots.
use Rattle.std.proofs.Common.{ℕ, ◌+◌, ◌-◌, ◌*◌, ◌≡◌, ◌≤◌, ◌<◌, List, [], ◌∷◌, ◌++◌, length, sum_by, Bool, true, false, None, refl, arith}
use Rattle.std.specs.Prelude.{if◌then◌else◌, nat_le, nat_lt, ◌||◌}
use Rattle.std.specs.List.{AllZip, AllByRecursion, Contains}
use Rattle.std.proofs.lemmas.Bool.Decides.{nat_tests}
use Rattle.std.proofs.lemmas.List.Elements.{All-weaker, All-contains_itself, recursion_from_All}
use Rattle.std.proofs.lemmas.List.Sums.{sum_by-cons}
use Rattle.tg_machine_state.specs.State.{most_words}
use Rattle.tg_syntax.specs.Spans.{span_of}
use Rattle.tg_syntax.specs.Functions.{Measures, program_functions, program_size}
use Rattle.tg_typecheck.specs.declared.faults.TypeRule.TheVariants.{T20, T21, T22}
use Rattle.tg_typecheck.specs.laws.Laws.{CheckedHasType}
use Rattle.tg_typecheck.specs.Limits.{above, first_above}
use Rattle.tg_tree.specs.Tree.{Ts, Function}
use Rattle.tg_runtime.specs.mirror.Routines.{runtime}
use Rattle.tg_runtime.specs.laws.Laws.{AreRoutines, AllAreRoutines}
use Rattle.tg_translate.specs.mirror.Translate.{translated}
use Rattle.tg_translate_laws.specs.laws.Laws.{FunctionIsWithin, FunctionsAreWithin}
use Rattle.tg_translate_laws.proofs.Bounding.{within_limit}
use Rattle.tg_canon_trace_proof.specs.Flattened.{MayBeFlattened}
use Rattle.tg_irc_definition.specs.Policies.{Rule}
use Rattle.tg_regalloc.specs.declared.allocations.Allocation.{Allocation}
use Rattle.tg_regalloc.specs.Allocations.{codes_of}
use Rattle.tg_isa.specs.declared.mips.Mips.TheVariants as row
use Rattle.tg_emit.specs.declared.assembly.Line.{Line}
use Rattle.tg_emit.specs.declared.assembly.Line.TheVariants.{Label, One, La, Statics}
use Rattle.tg_emit.specs.mirror.Lines.{is_long, function_lines, functions_lines, words}
use Rattle.tg_emit_laws.proofs.CodeLines.{words_append}
use Rattle.tg_emit_proof.specs.laws.Emission.{lines_of}
use Rattle.tg_code_bounds.specs.Allocating.{IsAllocationOf}
use Rattle.tg_code_bounds.specs.Reduced.{ReducesTo}
use Rattle.tg_code_bounds.specs.laws.Laws.{param_count, CodeIsShort, FunctionsArePaid, FunctionsAreFew}
use Rattle.tg_delay.specs.Filling.{filled, near, delayed, opposite, branches, branches_in, around_name, turned_round}
use Rattle.tg_bare_proof.proofs.Images.{filled_words}
use Rattle.tg_compile.specs.Compiling.{findings_of, fragments_of}
use Rattle.tg_compile.specs.laws.Prepared.{PreparedIsReduced}
use Rattle.tg_bare_compile_proof.specs.laws.Laws.{DelayedIsShort}

-- Words of code, of the runtime and of the functions before it.

module _ (rule : Rule) (law : CodeIsShort) (paid : FunctionsArePaid) (turned : Bool) where
  routines_short : (rs gs : List (Function Ts)) (allocations : List Allocation) → AreRoutines rs → AllZip ReducesTo rs gs →
      AllByRecursion MayBeFlattened gs → AllZip (IsAllocationOf rule) gs allocations →
      words (functions_lines turned (codes_of allocations)) ≤ 3895 * length rs
  routines_short [] [] [] h r may k = omega arith
  routines_short [] [] (a ∷ rest) h r may k = absurd k
  routines_short [] (g ∷ gs) allocations h r may k = absurd r
  routines_short (f ∷ fs) [] allocations h r may k = absurd r
  routines_short (f ∷ fs) (g ∷ gs) [] h r may k = absurd k
  routines_short (f ∷ fs) (g ∷ gs) (a ∷ rest) h r may k =
      let s = h.0.short in
      let no_longer = r.0.short in
      let one = law rule g a may.0 k.0 turned in
      let others = routines_short fs gs rest h.1 r.1 may.1 k.1 in
      omega (arith, s, no_longer, one, others, words_append (function_lines turned a.done) (functions_lines turned (codes_of rest)))

  functions_short : (ms : List Measures) (fs rs gs : List (Function Ts)) (allocations : List Allocation) → first_above ms ≡ None →
      AllZip FunctionIsWithin ms fs → AreRoutines rs → AllZip ReducesTo (fs ++ rs) gs → AllByRecursion MayBeFlattened gs →
      AllZip (IsAllocationOf rule) gs allocations →
      2 * words (functions_lines turned (codes_of allocations)) ≤
      3480 * sum_by (λ m. m.size) ms + 511 * (2 * length ms + sum_by param_count ms) + 7790 * length rs
  functions_short [] [] rs gs allocations limits within routines r may k =
      let h = routines_short rs gs allocations routines r may k in omega (arith, h)
  functions_short [] (f ∷ fs) rs gs allocations limits within routines r may k = absurd within
  functions_short (m ∷ ms) [] rs gs allocations limits within routines r may k = absurd within
  functions_short (m ∷ ms) (f ∷ fs) rs [] allocations limits within routines r may k = absurd r
  functions_short (m ∷ ms) (f ∷ fs) rs (g ∷ gs) [] limits within routines r may k = absurd k
  functions_short (m ∷ ms) (f ∷ fs) rs (g ∷ gs) (a ∷ rest) limits within routines r may k =
      let level = within_limit T20 m.at m.level 32 (above T21 m.at m.size 4096 (first_above ms)) limits in
      let size = within_limit T21 m.at m.size 4096 (first_above ms) level.1 in
      let one = (paid rule m f g a level.0 within.0 r.0 may.0 k.0).short turned in
      let others = functions_short ms fs rs gs rest size.1 within.1 routines r.1 may.1 k.1 in
      omega (
        arith,
        one,
        others,
        words_append (function_lines turned a.done) (functions_lines turned (codes_of rest)),
        sum_by-cons (λ (n : Measures). n.size) m ms,
        sum_by-cons param_count m ms,
      )

routine_count : length runtime.functions ≡ 13
routine_count = refl

-- Slots are at most as many words as there were, and so is what turned branches add in code that isn't near.

not_near : (n : ℕ) → (nat_le n 16000 || nat_lt 32000 n) ≡ false → n ≤ 32000
not_near n h = grind (arith, nat_tests)

turned_words : (lines : List Line) → words (turned_round lines) ≤ 2 * words lines
turned_words [] = omega arith
turned_words (Label name ∷ rest) = let h = turned_words rest in omega (arith, h)
turned_words (La r name ∷ rest) = let h = turned_words rest in omega (arith, h)
turned_words (Statics bytes ∷ rest) = let h = turned_words rest in omega (arith, h)
turned_words (One one target ∷ rest) = by (branches one) (turned_words rest)
  where
    by : (b : Bool) → words (turned_round rest) ≤ 2 * words rest →
        words (if b then One (opposite one) (around_name (branches_in rest)) ∷ One (row.J 0) target
        ∷ Label (around_name (branches_in rest)) ∷ turned_round rest else One one target ∷ turned_round rest)
        ≤ 2 * words (One one target ∷ rest)
    by true h = omega (arith, h)
    by false h = omega (arith, h)

delayed_words : (lines : List Line) → 2 * words lines < most_words → words (delayed lines) < most_words
delayed_words lines few = by (near lines) refl
  where
    by : (b : Bool) → near lines ≡ b → words (filled (if b then lines else turned_round lines)) < most_words
    by true e = let f = (filled_words lines).0 in omega (arith, f, few)
    by false e =
        let short = not_near (words lines) e in
        let t = turned_words lines in
        let f = (filled_words (turned_round lines)).0 in
        omega (arith, short, t, f)

each_may : (gs : List (Function Ts)) → ((f : Function Ts) → Contains gs f → MayBeFlattened f) → AllByRecursion MayBeFlattened gs
each_may gs h = recursion_from_All MayBeFlattened gs (All-weaker (Contains gs) MayBeFlattened h gs (All-contains_itself gs))

pub delayed_is_short : CodeIsShort → FunctionsArePaid → FunctionsAreFew → CheckedHasType → FunctionsAreWithin → AllAreRoutines → PreparedIsReduced →
    DelayedIsShort
delayed_is_short law paid are_few typed within routines reduced passes rule program allocations literals accepted few c =
    let body = program.body in
    let findings = findings_of program.notes body in
    let functions = (translated findings body).functions in
    let limit = within_limit T22 (span_of body).from (program_size body) 32768 (first_above (program_functions body)) (typed program accepted).limits in
    let codes = codes_of allocations in
    let counts = are_few body in
    let h = functions_short rule law paid (is_long codes) (program_functions body) functions runtime.functions _ allocations limit.1
    (within findings body) routines (reduced passes (fragments_of program.notes body)) (each_may _ c.may_be_flat) c.functions in
    delayed_words (lines_of codes) (omega (arith, few, counts, h, routine_count))
