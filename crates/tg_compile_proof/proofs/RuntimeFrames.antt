-- The frames of the runtime's functions: none calls another, and each is within 4,096 bytes.
use Rattle.std.proofs.Common.{ℕ, zero, suc, ◌≡◌, ◌<◌, ◌≤◌, List, [], ◌∷◌, ◌++◌, ◌⊎◌, inl, inr}
use Rattle.std.proofs.Common.{map, false, true, sym, ap, ◌∙◌, subst, arith}
use Rattle.std.specs.List.{Contains, sum}
use Rattle.tg_typecheck.specs.Programs.{CheckedProgram}
use Rattle.tg_tree.specs.Tree.{Ts, Function, Code}
use Rattle.tg_tree.specs.Named as name
use Rattle.tg_tree.specs.Named.{Named, named_ts, function_labels}
use Rattle.tg_tree.specs.Sizes.{tree_length, tree_needs}
use Rattle.tg_tree.specs.FrameSizes.{IsNested, innermost, calling}
use Rattle.tg_canon_trace_proof.specs.Flattened.{MayBeFlattened}
use Rattle.tg_instr.proofs.Tests.{all_at}
use Rattle.tg_runtime.specs.laws.Laws.{IsRoutine, AreRoutines, AllAreRoutines, is_own}
use Rattle.tg_runtime.specs.mirror.Routines.{runtime}
use Rattle.tg_irc_definition.specs.Policies.{Rule}
use Rattle.tg_regalloc.specs.declared.allocations.Allocation.{Allocation}
use Rattle.tg_tree.specs.declared.fragments.Literal.{Literal}
use Rattle.tg_translate.specs.mirror.Translate.{translated}
use Rattle.tg_translate_laws.specs.laws.Laws.{LabelsAreAbove}
use Rattle.tg_code_bounds.specs.laws.Laws.{FramesAreSmall}
use Rattle.tg_compile.specs.declared.passes.Passes.{Passes}
use Rattle.tg_compile.specs.Compiling.{findings_of, fragments_of}
use Rattle.tg_compile.specs.laws.Prepared.{PreparedIsReduced}
use Rattle.tg_compile_proof.specs.Forms.{Compilation, IsCompiled, frames}
use Rattle.tg_compile_proof.specs.laws.Laws.{compilation_of, RuntimeFramesFit}
use Rattle.tg_compile_proof.proofs.Compiled.{pair, size_is, same_there}
use Rattle.tg_compile_proof.proofs.Constants.{either}
use Rattle.tg_compile_proof.proofs.Reduced.{in_place}

routine_in : (fs : List (Function Ts)) → AreRoutines fs → (f : Function Ts) → Contains fs f → IsRoutine f
routine_in [] h f c = let l = c.1 in absurd (omega (arith, l))
routine_in (g ∷ fs) h f (zero, l, e) = subst IsRoutine e h.0
routine_in (g ∷ fs) h f (suc k, l, e) = routine_in fs h.1 f (k, omega (arith, l), e)

-- the label of a function is among the labels
pub label_in : (fs : List (Function Ts)) (more : List ℕ) (f : Function Ts) → Contains fs f →
    Contains (map (λ (g : Function Ts). g.label) fs ++ more) f.label
label_in [] more f c = let l = c.1 in absurd (omega (arith, l))
label_in (g ∷ fs) more f (zero, l, e) = (0, omega arith, ap (λ (x : Function Ts). x.label) e)
label_in (g ∷ fs) more f (suc k, l, e) =
    let t = label_in fs more f (k, omega (arith, l), e) in
    let m = t.1 in
    (suc t.0, omega (arith, m), t.2)

no_true : false ≡ true → ⊥
no_true h = cc

module _ (reduced : PreparedIsReduced) (above : LabelsAreAbove) (routines : AllAreRoutines) (small : FramesAreSmall)
    (passes : Passes) (rule : Rule) (program : CheckedProgram) (allocations : List Allocation) (literals : List Literal)
    (c : IsCompiled (compilation_of passes rule program allocations literals)) where
  abbrev p : Compilation
  p = compilation_of passes rule program allocations literals

  -- the functions, before the passes over trees
  abbrev source : Code Ts
  source = fragments_of program.notes program.body

  is_routine : (f : Function Ts) → Contains source.functions f → f.label < 32 → IsRoutine f
  is_routine f there low =
      by (either (translated (findings_of program.notes program.body) program.body).functions runtime.functions f there)
    where
      by : Contains (translated (findings_of program.notes program.body) program.body).functions f
          ⊎ Contains runtime.functions f → IsRoutine f
      by (inl at) =
          let l = above (findings_of program.notes program.body) program.body f.label (label_in _ _ f at) in
          absurd (omega (arith, l, low))
      by (inr at) = routine_in runtime.functions routines f at

  -- the frame of what stands in its place
  fits : (f : Function Ts) → Contains source.functions f → f.label < 32 → frames p f.label ≤ 4096
  fits f at below =
      let r = is_routine f at below in
      let place = in_place source.functions p.trees.functions (reduced passes source) f at in
      let there = place.there in
      let t = pair p c there.0 there.1 in
      let is : t.function ≡ place.function =
      sym t.there ∙ (same_there p.trees.functions there.0 t.function place.function there.1 ∙ there.2) in
      let size = size_is p c there.0 there.1 in
      let bound = small rule t.function t.allocation (subst MayBeFlattened (sym is) (c.may_be_flat place.function there)) t.is in
      let no_longer = subst (λ (g : Function Ts). tree_length g ≤ tree_length f) (sym is) place.reduced.short in
      let no_larger = subst (λ (g : Function Ts). tree_needs g ≤ tree_needs f) (sym is) place.reduced.small in
      let short = r.short in
      let room = r.small in
      let low : frames p t.function.label ≤ 4096 = omega (arith, size, bound, no_longer, no_larger, short, room) in
      subst (λ label. frames p label ≤ 4096) (ap (λ (g : Function Ts). g.label) is ∙ place.reduced.label) low

pub runtime_frames_fit : PreparedIsReduced → LabelsAreAbove → AllAreRoutines → FramesAreSmall → RuntimeFramesFit
runtime_frames_fit reduced above routines small passes rule program allocations literals c fs nested = by fs nested
  where
    by : (fs : List (Function Ts)) → IsNested (λ body. named_ts body [])
        (fragments_of program.notes program.body).functions fs →
        sum (map (λ (f : Function Ts). frames (compilation_of passes rule program allocations literals) f.label) fs) ≤ 4096
    by _ (innermost f there low) =
        let l = fits reduced above routines small passes rule program allocations literals c f there low in omega (arith, l)
    by _ (calling f g inner there low called nested) =
        let r = is_routine reduced above routines small passes rule program allocations literals c f there low in
        absurd (no_true (subst (λ x. is_own f.temps x ≡ true) called.2
        (all_at (is_own f.temps) (named_ts f.body []) called.0 (name.function g.label) called.1 r.own)))
