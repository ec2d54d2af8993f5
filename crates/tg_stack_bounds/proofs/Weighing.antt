-- The frames of a program's functions, by its measures, and of the runtime's.
use Rattle.std.proofs.Common.{ℕ, ◌≡◌, ◌≤◌, ◌<◌, List, [], ◌∷◌, ◌++◌, length, refl, ap, subst, arith}
use Rattle.std.specs.Prelude.{IsTrue}
use Rattle.std.specs.List.{AllZip, AllByRecursion, Contains}
use Rattle.std.specs.FinSet.{from_list}
use Rattle.std.proofs.lemmas.Bool.{ltb-true}
use Rattle.std.proofs.lemmas.List.Elements.{All-weaker, All-contains_itself, recursion_from_All}
use Rattle.tg_syntax.specs.Functions.{Measures, program_functions}
use Rattle.tg_escape.specs.Escaping.{escapes_of}
use Rattle.tg_tree.specs.Tree.{Ts, Function}
use Rattle.tg_tree.specs.Named.{temporary}
use Rattle.tg_runtime.specs.mirror.Routines.{runtime}
use Rattle.tg_runtime.specs.laws.Laws.{AreRoutines, AllAreRoutines, is_own}
use Rattle.tg_translate.specs.mirror.Translate.{translated}
use Rattle.tg_translate_laws.specs.laws.Laws.{names, findings_in, CheckedBodiesAreClosed, CheckedTemporariesAreDrawn}
use Rattle.tg_canon_trace_proof.specs.Flattened.{flattened, MayBeFlattened}
use Rattle.tg_canon_trace_proof.specs.laws.Laws as carried
use Rattle.tg_instr.proofs.Tests.{all_at}
use Rattle.tg_irc_definition.specs.Policies.{Rule}
use Rattle.tg_regalloc.specs.declared.allocations.Allocation.{Allocation}
use Rattle.tg_regalloc.specs.laws.Growth.{AllocationsAreShort}
use Rattle.tg_emit.specs.mirror.Lines.{size_of}
use Rattle.tg_code_bounds.specs.Allocating.{IsAllocationOf}
use Rattle.tg_code_bounds.specs.Reduced.{ReducesTo}
use Rattle.tg_code_bounds.specs.laws.Laws.{FramesAreSmall}
use Rattle.tg_munch.specs.laws.Lengths.{TemporariesAreFew, ShiftsAreLong}
use Rattle.tg_stack_bounds.specs.laws.Weights.{IsLight, FramesAreLight, FitsRuntime, AreWithinWeight, AcceptedTreesAreLight, ProgramFramesAreLight}

pub frames_are_light : carried.LengthStays → carried.NeedsStay → TemporariesAreFew → ShiftsAreLong →
    AllocationsAreShort → FramesAreLight
frames_are_light length_stays needs_stay few long short rule m f a may h light =
    let g = flattened f in
    let grown = length_stays f may in
    let room = needs_stay f may in
    let drawn = few g in
    let shifts = long g in
    let spilled = (short rule h.code h.frame a h.allocation).slots in
    let slots = h.allocation.has_frame.slots in
    let out = h.allocation.has_frame.out in
    let same : g.slots ≡ f.slots = refl in
    let params : length g.params ≡ length f.params = refl in
    let own = h.chooses.slots in
    let args = h.chooses.out in
    let drawn_by = h.chooses.temps in
    let w = light.light in
    omega (arith, grown, room, drawn, shifts, spilled, slots, out, same, params, own, args, drawn_by, w)

-- what is no larger than a light tree is light
reduced_light : (m : Measures) (f g : Function Ts) → ReducesTo f g → IsLight m f → IsLight m g
reduced_light m f g r light =
    let no_longer = r.short in
    let no_larger = r.small in
    let params : length g.params ≡ length f.params = ap length r.params in
    let w = light.light in
    record { light = omega (arith, no_longer, no_larger, params, w) }

module _ (rule : Rule) where
  runtime_fits : FramesAreSmall → (fs gs : List (Function Ts)) (allocations : List Allocation) → AreRoutines fs →
      AllZip ReducesTo fs gs → AllZip (IsAllocationOf rule) gs allocations →
      AllByRecursion FitsRuntime allocations
  runtime_fits law [] [] [] h reduced k = tt
  runtime_fits law [] [] (a ∷ rest) h reduced k = absurd k
  runtime_fits law [] (g ∷ gs) allocations h reduced k = absurd reduced
  runtime_fits law (f ∷ fs) [] allocations h reduced k = absurd reduced
  runtime_fits law (f ∷ fs) (g ∷ gs) [] h reduced k = absurd k
  runtime_fits law (f ∷ fs) (g ∷ gs) (a ∷ rest) h reduced k =
      let s = h.0.short in
      let r = h.0.small in
      let no_longer = reduced.0.short in
      let no_larger = reduced.0.small in
      let below : (i : ℕ) → Contains (names f.body) (temporary i) → i < f.temps =
      λ i c. ltb-true i f.temps (subst (λ x. IsTrue (is_own f.temps x)) c.2
      (all_at (is_own f.temps) (names f.body) c.0 (temporary i) c.1 h.0.own)) in
      let b = law rule g a (reduced.0.may (record { closed = h.0.closed; temps = below })) k.0 in
      let low : size_of a.done.frame ≤ 4096 = omega (arith, s, r, no_longer, no_larger, b) in
      (low, runtime_fits law fs gs rest h.1 reduced.1 k.1)

  split : FramesAreLight → FramesAreSmall →
      (ms : List Measures) (fs rs gs : List (Function Ts)) (allocations : List Allocation) →
      AllZip IsLight ms fs → AllByRecursion MayBeFlattened fs → AreRoutines rs →
      AllZip ReducesTo (fs ++ rs) gs → AllZip (IsAllocationOf rule) gs allocations →
      AreWithinWeight ms allocations
  split light small [] [] rs gs allocations within may routines reduced k =
      record {
        own = [];
        rest = allocations;
        all = refl;
        within = tt;
        fit =
            runtime_fits small rs gs allocations routines reduced k;
      }
  split light small [] (f ∷ fs) rs gs allocations within may routines reduced k = absurd within
  split light small (m ∷ ms) [] rs gs allocations within may routines reduced k = absurd within
  split light small (m ∷ ms) (f ∷ fs) rs [] allocations within may routines reduced k = absurd reduced
  split light small (m ∷ ms) (f ∷ fs) rs (g ∷ gs) [] within may routines reduced k = absurd k
  split light small (m ∷ ms) (f ∷ fs) rs (g ∷ gs) (a ∷ allocations) within may routines reduced k =
      let others = split light small ms fs rs gs allocations within.1 may.1 routines reduced.1 k.1 in
      record {
        own = a ∷ others.own;
        rest = others.rest;
        all = ap (λ others. a ∷ others) others.all;
        within = (light rule m g a (reduced.0.may may.0) k.0 (reduced_light m f g reduced.0 within.0), others.within);
        fit = others.fit;
      }

pub programs_are_light : FramesAreLight → FramesAreSmall → CheckedBodiesAreClosed → CheckedTemporariesAreDrawn →
    AllAreRoutines → AcceptedTreesAreLight → ProgramFramesAreLight
programs_are_light light small closed drawn routines trees rule p links allocations accepted are =
    let fs = (translated (findings_in p links) p.body).functions in
    let escapes = from_list (escapes_of p.body) in
    let may : AllByRecursion MayBeFlattened fs =
    recursion_from_All MayBeFlattened fs
    (All-weaker (Contains fs) MayBeFlattened
    (λ f c. record { closed = closed p escapes links f accepted c; temps = drawn p links f accepted c }) fs
    (All-contains_itself fs)) in
    split rule light small (program_functions p.body) fs runtime.functions are.functions allocations (trees p links accepted) may routines
    are.reduced are.allocated
