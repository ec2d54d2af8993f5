-- The frames of a compiled program have sizes that a run of its trees allows: each function of the text is within its weight, the
-- runtime's are within 4,096 bytes, and no tree has words for arguments.
use Rattle.std.proofs.Common.{◌≡◌, ◌≢◌, ◌≤◌, ◌+◌, ℕ, zero, suc, List, [], ◌∷◌, ◌++◌, ◌⊎◌, inl, inr, length, map, Some}
use Rattle.std.proofs.Common.{refl, sym, ap, ◌∙◌, subst, arith, eq-eqb, ne_eqb}
use Rattle.std.specs.Prelude.{if◌then◌else◌}
use Rattle.std.specs.List.{AllZip, AllPairs, Contains}
use Rattle.std.specs.FinSet.{from_list}
use Rattle.std.proofs.lemmas.List.{get_or-map, length-map, length-append}
use Rattle.std.proofs.lemmas.List.Elements.{Contains-append_left, Contains-append_cases}
use Rattle.tg_machine_state.specs.State.{padded}
use Rattle.tg_syntax.specs.Functions.{Measures, program_functions}
use Rattle.tg_semantics.specs.Levels.{activation}
use Rattle.tg_escape.specs.Links.{links_of}
use Rattle.tg_typecheck.specs.Programs.{CheckedProgram, IsAccepted}
use Rattle.tg_tree.specs.declared.fragments.Literal.{Literal}
use Rattle.tg_tree.specs.Tree.{Ts, Function}
use Rattle.tg_tree.specs.glue.Plain.{plain_literal}
use Rattle.tg_tree.specs.Memory.{statics_of}
use Rattle.tg_tree.specs.FrameSizes.{AreAllowed, IsSizeOf}
use Rattle.tg_runtime.specs.mirror.Routines.{runtime}
use Rattle.tg_translate.specs.mirror.Translate.{translated}
use Rattle.tg_translate_laws.specs.laws.Laws.{names, ProgramsAreLinked}
use Rattle.tg_translate_laws.proofs.Fine.{Each, each_append, each_contained}
use Rattle.tg_translate_laws.proofs.Taking.{PassesNothing}
use Rattle.tg_translate_laws.proofs.Measured.{nothing_is_passed}
use Rattle.tg_runtime_proof.proofs.Running.{IsLow, runtime_low}
use Rattle.tg_translate_proof.specs.Bounds.{measures_of, bound_by}
use Rattle.tg_translate_proof.specs.laws.Laws.{findings_of, trees_of, bound_in}
use Rattle.tg_irc_definition.specs.Policies.{Rule}
use Rattle.tg_regalloc.specs.declared.allocations.Allocation.{Allocation}
use Rattle.tg_emit.specs.mirror.Lines.{size_of}
use Rattle.tg_emit_laws.specs.Programs.{bytes_of}
use Rattle.tg_code_bounds.specs.Allocating.{IsAllocationOf}
use Rattle.tg_emit_proof.proofs.Known.{sizes_there}
use Rattle.tg_stack_bounds.specs.laws.Weights.{IsLight, IsWithinWeight, TreesAreLight, AreWithinWeight, ProgramFramesAreLight}
use Rattle.tg_code_bounds.specs.Reduced.{ReducesTo}
use Rattle.tg_compile.specs.declared.passes.Passes.{Passes}
use Rattle.tg_compile.specs.laws.Prepared.{PreparedIsReduced}
use Rattle.tg_compile_proof.specs.Forms.{Compilation, IsCompiled, registers, frames}
use Rattle.tg_compile_proof.specs.laws.Laws.{compilation_of, FramesAreSizesOfTrees, RuntimeFramesFit}
use Rattle.tg_compile_proof.proofs.Reduced.{in_place, size_before}
use Rattle.tg_compile_proof.proofs.RuntimeFrames.{label_in}

-- a function's frame has as many bytes as that of its allocation
abbrev HasSizeOf : (size : ℕ → ℕ) → Function Ts → Allocation → Type 0
HasSizeOf size f a = size f.label ≡ size_of a.done.frame

sized : (rule : Rule) (size : ℕ → ℕ) (fs gs : List (Function Ts)) (made : List Allocation) → AllZip ReducesTo fs gs →
    AllZip (IsAllocationOf rule) gs made →
    ((a : Allocation) → Contains made a → size a.done.frame.label.0 ≡ size_of a.done.frame) → AllZip (HasSizeOf size) fs made
sized rule size [] [] [] r h there = tt
sized rule size [] [] (a ∷ made) r h there = absurd h
sized rule size [] (g ∷ gs) made r h there = absurd r
sized rule size (f ∷ fs) [] made r h there = absurd r
sized rule size (f ∷ fs) (g ∷ gs) [] r h there = absurd h
sized rule size (f ∷ fs) (g ∷ gs) (a ∷ made) r h there =
    let label : a.done.frame.label.0 ≡ f.label = ap (λ x. x.0) h.0.allocation.has_frame.label ∙ h.0.chooses.label ∙ r.0.label in (
      ap size (sym label) ∙ there a (0, omega arith, refl),
      sized rule size fs gs made r.1 h.1 (λ b c. let l = c.1 in there b (suc c.0, omega (arith, l), c.2)),
    )

abbrev AreApart : List ℕ → Type 0
AreApart labels = AllPairs (λ a b. a ≢ b) labels

-- A function of the text is within the weight of its measures, which its label finds.
bounded : (size : ℕ → ℕ) (ms : List Measures) (fs rs : List (Function Ts)) (own rest : List Allocation) (more : List ℕ) →
    AllZip IsLight ms fs → AllZip IsWithinWeight ms own → AllZip (HasSizeOf size) (fs ++ rs) (own ++ rest) →
    AreApart (map (λ (g : Function Ts). g.label) (fs ++ rs) ++ more) → (f : Function Ts) → Contains fs f →
    size f.label ≤ bound_by (measures_of f.label ms fs)
bounded size ms [] rs own rest more light within sizes apart f c = let l = c.1 in absurd (omega (arith, l))
bounded size [] (g ∷ fs) rs own rest more light within sizes apart f c = absurd light
bounded size (m ∷ ms) (g ∷ fs) rs [] rest more light within sizes apart f c = absurd within
bounded size (m ∷ ms) (g ∷ fs) rs (a ∷ own) rest more light within sizes apart f (zero, l, e) =
    let found : measures_of g.label (m ∷ ms) (g ∷ fs) ≡ Some m =
    ap (λ t. if t then Some m else measures_of g.label ms fs) (eq-eqb g.label g.label refl) in
    let same = sizes.0 in
    let weight = within.0 in
    let low : size g.label ≤ activation m.nodes m.hops = omega (arith, same, weight) in
    subst (λ (h : Function Ts). size h.label ≤ bound_by (measures_of h.label (m ∷ ms) (g ∷ fs))) e
    (subst (λ o. size g.label ≤ bound_by o) (sym found) low)
bounded size (m ∷ ms) (g ∷ fs) rs (a ∷ own) rest more light within sizes apart f (suc k, l, e) =
    let c : Contains fs f = (k, omega (arith, l), e) in
    let t = label_in (fs ++ rs) more f (Contains-append_left fs rs f c) in
    let short = t.1 in
    let other : g.label ≢ f.label =
    λ q. apart zero (suc t.0) f.label (omega arith) (omega (arith, short)) (q ∙ sym t.2) in
    let found : measures_of f.label (m ∷ ms) (g ∷ fs) ≡ measures_of f.label ms fs =
    ap (λ t. if t then Some m else measures_of f.label ms fs) (ne_eqb g.label f.label other) in
    subst (λ o. size f.label ≤ bound_by o) (sym found)
    (bounded size ms fs rs own rest more light.1 within.1 sizes.1
    (λ i j d below inside. apart (suc i) (suc j) d (omega (arith, below)) (omega (arith, inside))) f c)

-- The runtime's functions pass nothing.
runtime_passes : Each PassesNothing runtime.functions
runtime_passes =
    (refl, (refl, (refl, (refl, (refl, (refl, (refl, (refl, (refl, (refl, (refl, (refl, (refl, tt)))))))))))))

-- the bytes of the statics
pub statics_are : (ls : List Literal) → length (statics_of (map plain_literal ls)) ≡ bytes_of ls
statics_are [] = refl
statics_are (l ∷ ls) =
    length-append (padded l.text) (statics_of (map plain_literal ls)) ∙ ap (λ n. length (padded l.text) + n) (statics_are ls)

module _ (sizes_of_trees : FramesAreSizesOfTrees) (fits : RuntimeFramesFit) (weigh : ProgramFramesAreLight) (linked : ProgramsAreLinked)
    (reduced : PreparedIsReduced) (passes : Passes) (rule : Rule) (program : CheckedProgram) (allocations : List Allocation) (literals : List Literal)
    (accepted : IsAccepted program) (light : TreesAreLight program (from_list (links_of program.body)))
    (c : IsCompiled (compilation_of passes rule program allocations literals)) where
  abbrev p : Compilation
  p = compilation_of passes rule program allocations literals

  abbrev own_functions : List (Function Ts)
  own_functions = (translated (findings_of program) program.body).functions

  -- no function before the passes over trees hands anything on
  hands_nothing : (f : Function Ts) → Contains (own_functions ++ runtime.functions) f → f.out ≡ 0
  hands_nothing f there =
      each_contained PassesNothing (own_functions ++ runtime.functions)
      (each_append PassesNothing own_functions runtime.functions (nothing_is_passed (findings_of program) program.body) runtime_passes) f there

  -- each function that is compiled stands in the place of one of these
  in_places : AllZip ReducesTo (own_functions ++ runtime.functions) p.trees.functions
  in_places = reduced passes (trees_of program)

  weighed : AreWithinWeight (program_functions program.body) allocations
  weighed =
      weigh rule program (from_list (links_of program.body)) allocations accepted
      (record { functions = p.trees.functions; reduced = in_places; allocated = c.functions })

  -- an allocation's frame
  frame_there : (a : Allocation) → Contains allocations a → frames p a.done.frame.label.0 ≡ size_of a.done.frame
  frame_there a (k, l, e) =
      let n = length-map allocations (λ (x : Allocation). x.done) in
      sizes_there (registers p) c.program.functions_differ a.done k (omega (arith, l, n))
      (get_or-map (λ (x : Allocation). x.done) allocations k a a.done l ∙ ap (λ (x : Allocation). x.done) e)

  all_sized : AllZip (HasSizeOf (frames p)) (own_functions ++ runtime.functions) allocations
  all_sized = sized rule (frames p) (own_functions ++ runtime.functions) p.trees.functions allocations in_places c.functions frame_there

  sized_before : (f : Function Ts) → Contains (own_functions ++ runtime.functions) f → IsSizeOf f (frames p f.label)
  sized_before f there =
      let place = in_place (own_functions ++ runtime.functions) p.trees.functions in_places f there in
      size_before (frames p) f place.function place.reduced
      (sizes_of_trees p c place.function place.there (place.reduced.out ∙ hands_nothing f there))

  weight_bounds : (f : Function Ts) → Contains own_functions f → frames p f.label ≤ bound_in program f.label
  weight_bounds f there =
      bounded (frames p) (program_functions program.body) own_functions runtime.functions weighed.own weighed.rest
      (map (λ l. l.label) (trees_of program).literals) light weighed.within
      (subst (λ made. AllZip (HasSizeOf (frames p)) (own_functions ++ runtime.functions) made) weighed.all all_sized)
      (linked (findings_of program) program.body).apart f there

  by_own : (f : Function Ts) → 32 ≤ f.label → Contains own_functions f ⊎ Contains runtime.functions f →
      frames p f.label ≤ bound_in program f.label
  by_own f high (inl there) = weight_bounds f there
  by_own f high (inr there) =
      let low = each_contained IsLow runtime.functions runtime_low f there in absurd (omega (arith, high, low))

  pub sizes_are_allowed : AreAllowed names (trees_of program).functions (bound_in program) (frames p)
  sizes_are_allowed = record {
    each = sized_before;
    source = λ f there high. by_own f high (Contains-append_cases own_functions runtime.functions f there);
    runtime = fits passes rule program allocations literals c;
  }
