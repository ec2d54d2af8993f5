use Rattle.std.proofs.Common.{ℕ, List, sym, subst, arith}
use Rattle.std.specs.Prelude.{IsTrue}
use Rattle.std.specs.List.{list_all}
use Rattle.tg_tree.specs.glue.Plain.{plain_fragment}
use Rattle.tg_instr.specs.Codes.{has_slots_below, names_registers}
use Rattle.tg_instr.specs.declared.instr.Instr.{Instr}
use Rattle.tg_regalloc.specs.Conditions.{is_fixed}
use Rattle.tg_tree.specs.Tree.{Ts, Function}
use Rattle.tg_code_bounds.specs.Allocating.{Chooses}
use Rattle.tg_compile.specs.glue.Passes.{IsWellFormed}
use Rattle.tg_compile.proofs.bodies.compile_function.Goals as goal

pub returns-clause-compiles : goal.returns-clause-compiles
returns-clause-compiles g c =
    let e = c.in_ok-allocate.ensures in
    let P : Function Ts → Type 0 = λ f. Chooses f c.choose.new.frame c.in_ok-code.code in
    record {
      frame = c.choose.new.frame;
      code = c.in_ok-code.code;
      chooses = subst P c.in_ok-prepared.ensures c.in_ok-code.ensures;
      allocation = e.allocation;
      registers = e.registers;
    }

pub choose-requires : goal.choose-requires
choose-requires g c =
    subst IsWellFormed (sym c.in_ok-prepared.ensures)
    (c.prepared_is_well_formed.ensures c.args.passes (plain_fragment c.args.one) c.requires)

pub allocate-requires : goal.allocate-requires
allocate-requires g c =
    let chosen = c.in_ok-code.ensures in
    let one = c.in_ok-prepared.prepared in
    let well : IsWellFormed (plain_fragment one) =
    subst IsWellFormed (sym c.in_ok-prepared.ensures)
    (c.prepared_is_well_formed.ensures c.args.passes (plain_fragment c.args.one) c.requires) in
    let own = c.instructions_name_their_own.ensures (plain_fragment one) one.frame.slots_below in
    let P : List Instr → Type 0 = λ code. IsTrue (list_all (names_registers is_fixed) code) in
    let Q : List Instr → Type 0 = λ code. IsTrue (list_all (has_slots_below one.frame.slots) code) in
    let R : ℕ → Type 0 = λ n. IsTrue (list_all (has_slots_below n) c.in_ok-code.code.list) in
    record {
      slots = omega (arith, chosen.slots, well.few);
      temps = chosen.few;
      registers = subst P (sym chosen.list) own.registers;
      slots_below = subst R (sym chosen.slots) (subst Q (sym chosen.list) own.slots);
    }
