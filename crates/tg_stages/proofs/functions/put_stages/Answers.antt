use Rattle.std.proofs.Common.{List, sym, subst, ◌∙◌}
use Rattle.std.specs.List.{slice_get}
use Rattle.tg_tree.specs.Tree.{Function, Linear}
use Rattle.tg_tree.specs.glue.Lists.{code_of}
use Rattle.tg_tree.specs.glue.Plain.{plain_fragment, plain_function}
use Rattle.tg_tree.specs.Named.{named_flat, HasItsTemps}
use Rattle.tg_tree.specs.Shapes.{IsWellMarked}
use Rattle.std.proofs.Common.{[]}
use Rattle.std.specs.Prelude.{IsTrue}
use Rattle.std.specs.List.{list_all}
use Rattle.tg_tree.specs.Tree.{Ts}
use Rattle.tg_instr.specs.Codes.{has_slots_below, names_registers}
use Rattle.tg_regalloc.specs.Conditions.{is_fixed}
use Rattle.tg_stages.specs.Shown.{first_code}
use Rattle.tg_stages.specs.glue.Allocating.{HasRounds, HasAllocation}
use Rattle.tg_stages.proofs.Allocating.{has_rounds}
use Rattle.tg_compile.specs.glue.Passes.{IsWellFormed}
use Rattle.tg_stages.proofs.Told.{function_told}
use Rattle.tg_stages.proofs.functions.put_stages.Goals as goal

pub put_instructions-requires : goal.put_instructions-requires
put_instructions-requires c =
    let one = c.in_ok-prepared.prepared in
    let well : IsWellFormed (plain_fragment one) =
    subst IsWellFormed (sym c.in_ok-prepared.ensures.prepared)
    (c.prepared_is_well_formed.ensures c.args.passes (plain_fragment c.args.one) c.requires.formed) in
    let marked = c.flat_code_is_well_marked.ensures (plain_fragment one) well in
    let own = c.instructions_name_their_own.ensures (plain_fragment one) one.frame.slots_below in
    let a = c.args.allocation.now in
    let A : Function Ts → Type 0 = λ f. HasAllocation f a in
    let allocated : HasAllocation (plain_fragment one) a = subst A (sym c.in_ok-prepared.ensures.prepared) c.requires.allocated in
    let P : Function (List Linear) → Type 0 = λ f. IsWellMarked f.body in
    let Q : Function (List Linear) → Type 0 = λ f. HasItsTemps (λ e. named_flat e []) f in
    let R : Function (List Linear) → Type 0 = λ f. IsTrue (list_all (names_registers is_fixed) (first_code f).list) in
    let S : Function (List Linear) → Type 0 = λ f. IsTrue (list_all (has_slots_below f.slots) (first_code f).list) in
    let T : Function (List Linear) → Type 0 = λ f. HasRounds (first_code f).temps (first_code f) a.rounds in
    let flat = sym c.in_ok-flat.ensures.flat in
    record {
      marked = rw c.deref.ensures.value (subst P flat marked.marked);
      drawn = rw c.deref.ensures.value (subst Q flat marked.drawn);
      registers = rw c.deref.ensures.value (subst R flat own.registers);
      slots_below = rw c.deref.ensures.value (subst S flat own.slots);
      rounds = rw (c.deref.ensures.value, c.as_slice-rounds.ensures) (subst T flat (has_rounds (plain_fragment one) a allocated));
    }

pub returns : goal.returns
returns c =
    function_told c.args.passes c.args.long c.args.heading.now (slice_get c.args.own.now c.args.at) c.as_slice-names.result.now
    (plain_fragment c.args.one) (plain_fragment c.in_ok-prepared.prepared)
    (plain_function c.put_flat.new.frame (code_of c.in_ok-flat.flat.items)) c.args.allocation.now c.as_slice-rounds.result.now _ _ _ _ _ _ _
    (c.as_slice-names.ensures.value ∙ c.in_ok-names.ensures.names) c.in_ok-prepared.ensures.prepared c.in_ok-flat.ensures.flat c.as_slice-rounds.ensures
    c.in_ok-put_heading.ensures c.in_ok-names.ensures.text c.in_ok-prepared.ensures.text
    c.in_ok-flat.ensures.text (rw c.deref.ensures.value at c.in_ok-put_instructions.ensures) c.in_ok-put_allocated.ensures
