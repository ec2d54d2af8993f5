-- Functions and their allocations, place by place.
use Rattle.std.proofs.Common.{ℕ, ◌+◌, ◌<◌, ◌≡◌, Bool, true, false, List, ◌++◌, length, get_or, drop, refl, sym, ap, subst, ◌∙◌, arith}
use Rattle.std.specs.Prelude.{IsTrue, if◌then◌else◌}
use Rattle.std.specs.List.{list_all}
use Rattle.std.proofs.lemmas.List.{get_or-map, get_or_default, length-map, at_drop_more}
use Rattle.std.proofs.lemmas.Slice.Zip.{AllZip-long}
use Rattle.tg_instr.proofs.Tests.{all_at}
use Rattle.tg_instr.specs.declared.codes.Allocated.{Allocated}
use Rattle.tg_tree.specs.Tree.{Ts, Code}
use Rattle.tg_fold.specs.laws.Laws.{folded_function}
use Rattle.tg_fold.specs.laws.Meaning.{folded_code}
use Rattle.tg_irc_definition.specs.Policies.{Rule}
use Rattle.tg_regalloc.specs.declared.allocations.Allocation.{Allocation}
use Rattle.tg_regalloc.specs.Allocations.{codes_of}
use Rattle.tg_code_bounds.specs.Allocating.{IsAllocationOf}
use Rattle.tg_emit.specs.Conditions.{is_emittable}
use Rattle.tg_emit.specs.mirror.Lines.{function_lines, functions_lines}
use Rattle.tg_compile.specs.declared.passes.Passes.{Passes}
use Rattle.tg_compile.specs.Prepared.{prepared}
use Rattle.tg_compile.specs.Compiling.{CompileFunctions}
use Rattle.tg_compile.proofs.Chain.{tree_of}
use Rattle.tg_tree.specs.declared.fragments.Fragment.{Fragment}
use Rattle.tg_tree.specs.declared.fragments.Literal.{Literal}
use Rattle.tg_tree.specs.glue.Plain.{plain_fragment}

pub emittable_at : (all : List Allocation) (at : ℕ) (one : Allocation) → at < length all → one ≡ get_or all at one →
    IsTrue (list_all is_emittable (codes_of all)) → IsTrue (is_emittable one.done)
emittable_at all at one h is holds =
    let done = λ (a : Allocation). a.done in
    let inside : at < length (codes_of all) = omega (arith, h, length-map all done) in
    let there : get_or (codes_of all) at one.done ≡ one.done = get_or-map done all at one one.done h ∙ ap done (sym is) in
    subst (λ (d : Allocated). IsTrue (is_emittable d)) there (all_at is_emittable (codes_of all) at one.done inside holds)

-- folding leaves the number of functions
as_many : (passes : Passes) (code : Code Ts) → length (prepared passes code).functions ≡ length code.functions
as_many passes code = by passes.fold
  where
    by : (b : Bool) → length (if b then folded_code code else code).functions ≡ length code.functions
    by true = length-map code.functions folded_function
    by false = refl

-- so there are as many allocations as functions
pub each_allocated : (passes : Passes) (rule : Rule) (code : Code Ts) (all : List Allocation) →
    CompileFunctions rule (prepared passes code).functions all → length all ≡ length code.functions
each_allocated passes rule code all h = AllZip-long (IsAllocationOf rule) (prepared passes code).functions all h ∙ as_many passes code

pub within : (fs : List Fragment) (ls : List Literal) (whole : Code Ts) (all : List Allocation) (at : ℕ) →
    tree_of fs ls ≡ whole → length all ≡ length whole.functions → at < length fs → at < length all
within fs ls whole all at is each h =
    let same : length whole.functions ≡ length fs = sym (ap (λ (c : Code Ts). length c.functions) is) ∙ length-map fs plain_fragment in
    omega arith

-- the same, as the code reads it
pub emittable_there : (all : List Allocation) (at : ℕ) (d : Allocation) → at < length all → IsTrue (list_all is_emittable (codes_of all)) →
    IsTrue (is_emittable (get_or all at d).done)
emittable_there all at d h holds = emittable_at all at (get_or all at d) h (get_or_default all at d (get_or all at d) h) holds

-- the lines of functions from a place on
pub lines_more : (all : List Allocation) (at : ℕ) (d : Allocation) → at < length all →
    functions_lines false (codes_of (drop at all)) ≡ function_lines false (get_or all at d).done ++ functions_lines false (codes_of (drop (at + 1) all))
lines_more all at d h = at_drop_more (λ xs. functions_lines false (codes_of xs)) all at d h
