-- What is known of a compiled program: its code names registers that may be run, and its frames have
-- sizes that the forms before the allocation may have.
use Rattle.std.proofs.Common.{ℕ, zero, suc, ◌≡◌, ◌<◌, ◌≤◌, ◌+◌, ◌*◌, ◌%◌, List, [], ◌∷◌, map, length}
use Rattle.std.proofs.Common.{get_or, refl, sym, ap, ◌∙◌, subst, arith}
use Rattle.std.specs.Prelude.{IsTrue}
use Rattle.std.specs.List.{AllZip, list_all}
use Rattle.std.proofs.lemmas.List.{get_or-map, length-map}
use Rattle.tg_tree.specs.Tree.{Ts, Function}
use Rattle.tg_tree.specs.FrameSizes.{IsSizeOf}
use Rattle.tg_canon.specs.laws.Meaning.{canonical}
use Rattle.tg_trace_schedule.specs.laws.Carried.{in_blocks}
use Rattle.tg_trace_schedule.specs.laws.Traced.{laid}
use Rattle.tg_canon_trace_proof.specs.Flattened.{flattened}
use Rattle.tg_instr.specs.declared.instr.Instr.{Instr}
use Rattle.tg_instr.specs.declared.codes.Allocated.{Allocated}
use Rattle.tg_instr.specs.Codes.{is_allocated, names_registers, has_registers_alone, is_of_colours}
use Rattle.tg_instr.proofs.Tests.{left_holds, right_holds, both_hold}
use Rattle.tg_instr.proofs.Colours.{of_colours}
use Rattle.tg_munch.specs.mirror.Bodies.{outs}
use Rattle.tg_munch_proof.specs.laws.Chosen.{chosen}
use Rattle.tg_redundancy_proof.specs.laws.Laws.{with_known}
use Rattle.tg_irc_definition.specs.Policies.{Rule}
use Rattle.tg_regalloc.specs.declared.allocations.Allocation.{Allocation}
use Rattle.tg_regalloc.specs.Allocations.{codes_of}
use Rattle.tg_emit.specs.mirror.Lines.{size_of}
use Rattle.tg_code_bounds.specs.Allocating.{IsAllocationOf}
use Rattle.tg_emit_proof.proofs.Known.{sizes_there}
use Rattle.tg_compile_proof.specs.Forms.{Compilation, IsCompiled, instructions, registers, frames}
use Rattle.tg_compile_proof.specs.laws.Laws.{CompiledMayRun, FramesAreSizes, FramesAreSizesOfTrees}

-- code over registers alone that names those of the allocation
colours : (list : List Instr) → IsTrue (list_all (names_registers is_allocated) list) →
    IsTrue (list_all has_registers_alone list) → IsTrue (list_all is_of_colours list)
colours [] h k = refl
colours (one ∷ list) h k =
    both_hold (is_of_colours one) (list_all is_of_colours list)
    (of_colours one (left_holds (names_registers is_allocated one) _ h) (left_holds (has_registers_alone one) _ k))
    (colours list (right_holds (names_registers is_allocated one) _ h) (right_holds (has_registers_alone one) _ k))

all_colours : (rule : Rule) (fs : List (Function Ts)) (made : List Allocation) →
    AllZip (IsAllocationOf rule) fs made →
    IsTrue (list_all (λ (f : Allocated). list_all is_of_colours f.code.list) (codes_of made))
all_colours rule [] [] h = refl
all_colours rule [] (a ∷ made) h = absurd h
all_colours rule (f ∷ fs) [] h = absurd h
all_colours rule (f ∷ fs) (a ∷ made) h =
    both_hold (list_all is_of_colours a.done.code.list) _
    (colours a.done.code.list h.0.registers a.done.registers_alone) (all_colours rule fs made h.1)

pub compiled_may_run : CompiledMayRun
compiled_may_run p c = record {
  program = c.program;
  typed = c.typed;
  registers = all_colours p.rule p.trees.functions p.allocations c.functions;
}

-- a function of the trees, with its allocation
pub record PairAt (rule : Rule) (fs : List (Function Ts)) (made : List Allocation) (k : ℕ) : Type 0 where
  pub function : Function Ts
  pub allocation : Allocation
  pub is : IsAllocationOf rule function allocation
  pub there : get_or fs k function ≡ function
  pub short : k < length made
  pub allocated : get_or made k allocation ≡ allocation

pair_at : (rule : Rule) (fs : List (Function Ts)) (made : List Allocation) → AllZip (IsAllocationOf rule) fs made →
    (k : ℕ) → k < length fs → PairAt rule fs made k
pair_at rule [] made h k l = absurd (omega (arith, l))
pair_at rule (f ∷ fs) [] h k l = absurd h
pair_at rule (f ∷ fs) (a ∷ made) h zero l =
    record { function = f; allocation = a; is = h.0; there = refl; short = omega arith; allocated = refl }
pair_at rule (f ∷ fs) (a ∷ made) h (suc k) l =
    let t = pair_at rule fs made h.1 k (omega (arith, l)) in
    let s = t.short in
    record {
      function = t.function;
      allocation = t.allocation;
      is = t.is;
      there = t.there;
      short = omega (arith, s);
      allocated = t.allocated;
    }

-- the instructions that are chosen for it, with known words and tests
abbrev known_of : Function Ts → Function (List Instr)
known_of f = with_known (chosen (flattened f))

-- stand at its place
known_at : (fs : List (Function Ts)) (k : ℕ) (f : Function Ts) → k < length fs → get_or fs k f ≡ f →
    get_or (map with_known (map chosen (map laid (map in_blocks (map canonical fs))))) k (known_of f) ≡ known_of f
known_at [] k f l e = absurd (omega (arith, l))
known_at (g ∷ fs) zero f l e = ap known_of e
known_at (g ∷ fs) (suc k) f l e = known_at fs k f (omega (arith, l)) e

no_more : (fs : List (Function Ts)) →
    length (map with_known (map chosen (map laid (map in_blocks (map canonical fs))))) ≡ length fs
no_more [] = refl
no_more (f ∷ fs) = ap suc (no_more fs)

-- what stands at a place, whatever is asked for beyond the end
pub same_there : {A : Type 0} (xs : List A) (k : ℕ) (d e : A) → k < length xs → get_or xs k d ≡ get_or xs k e
same_there [] k d e l = absurd (omega (arith, l))
same_there (x ∷ xs) zero d e l = refl
same_there (x ∷ xs) (suc k) d e l = same_there xs k d e (omega (arith, l))

module _ (p : Compilation) (c : IsCompiled p) (k : ℕ) (l : k < length p.trees.functions) where
  pub pair : PairAt p.rule p.trees.functions p.allocations k
  pair = pair_at p.rule p.trees.functions p.allocations c.functions k l

  abbrev done : Allocated
  done = pair.allocation.done

  -- the bytes of its frame
  pub size_is : frames p pair.function.label ≡ size_of done.frame
  size_is =
      let a = pair.is in
      let label : done.frame.label.0 ≡ pair.function.label =
      ap (λ x. x.0) a.allocation.has_frame.label ∙ a.chooses.label in
      let at : get_or (codes_of p.allocations) k done ≡ done =
      get_or-map (λ (x : Allocation). x.done) p.allocations k pair.allocation done pair.short
      ∙ ap (λ (x : Allocation). x.done) pair.allocated in
      let s = pair.short in
      let n = length-map p.allocations (λ (x : Allocation). x.done) in
      ap (frames p) (sym label)
      ∙ sizes_there (registers p) c.program.functions_differ done k (omega (arith, s, n)) at

  -- with the slots of the tree, and the words for arguments of its instructions
  holds : 4 * (pair.function.slots + outs (flattened pair.function).body) ≤ frames p pair.function.label
  holds =
      let a = pair.is in
      let e = size_is in
      let slots = a.allocation.has_frame.slots in let own = a.chooses.slots in
      let out = a.allocation.has_frame.out in let args = a.chooses.out in
      omega (arith, e, slots, own, out, args)

  whole : frames p pair.function.label % 4 ≡ 0
  whole = let e = size_is in omega (arith, e)

  least : 8 ≤ frames p pair.function.label
  least = let e = size_is in omega (arith, e)

  pub sized : IsSizeOf (chosen (flattened pair.function)) (frames p pair.function.label)
  sized = record { words = whole; least = least; holds = holds }

  sized_known : IsSizeOf (known_of pair.function) (frames p pair.function.label)
  sized_known = record { words = whole; least = least; holds = holds }

  sized_tree : pair.function.out ≡ 0 → IsSizeOf pair.function (frames p pair.function.label)
  sized_tree none =
      let h = holds in
      record { words = whole; least = least; holds = omega (arith, none, h) }

pub frames_are_sizes : FramesAreSizes
frames_are_sizes p c f there =
    let k = there.0 in
    let n = no_more p.trees.functions in
    let short = there.1 in
    let l : k < length p.trees.functions = omega (arith, short, n) in
    let t = pair p c k l in
    let is : known_of t.function ≡ f =
    sym (known_at p.trees.functions k t.function l t.there)
    ∙ (same_there (instructions p).functions k (known_of t.function) f there.1 ∙ there.2) in
    subst (λ g. IsSizeOf g (frames p g.label)) is (sized_known p c k l)

pub frames_are_sizes_of_trees : FramesAreSizesOfTrees
frames_are_sizes_of_trees p c f there none =
    let k = there.0 in
    let t = pair p c k there.1 in
    let is : t.function ≡ f =
    sym t.there ∙ (same_there p.trees.functions k t.function f there.1 ∙ there.2) in
    subst (λ g. g.out ≡ 0 → IsSizeOf g (frames p g.label)) is (sized_tree p c k there.1) none
