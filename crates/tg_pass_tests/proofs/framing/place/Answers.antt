use Rattle.std.proofs.Common.{ℕ, List, sym, subst, arith}
use Rattle.std.specs.Prelude.{IsTrue}
use Rattle.std.specs.List.{list_all}
use Rattle.tg_tree.specs.glue.Plain.{plain_fragment}
use Rattle.tg_instr.specs.Codes.{has_slots_below, names_registers}
use Rattle.tg_instr.specs.declared.instr.Instr.{Instr}
use Rattle.tg_regalloc.specs.Conditions.{is_fixed}
use Rattle.tg_pass_tests.proofs.framing.place.Goals as goal

pub in_frame-requires : goal.in_frame-requires
in_frame-requires c =
    let chosen = c.in_ok-code.ensures in
    let own = c.instructions_name_their_own.ensures (plain_fragment c.args.one) c.args.one.frame.slots_below in
    let P : List Instr → Type 0 = λ code. IsTrue (list_all (names_registers is_fixed) code) in
    let Q : List Instr → Type 0 = λ code. IsTrue (list_all (has_slots_below c.args.one.frame.slots) code) in
    let R : ℕ → Type 0 = λ n. IsTrue (list_all (has_slots_below n) c.in_ok-code.code.list) in
    record {
      slots = omega (arith, chosen.slots, c.requires.few);
      temps = chosen.few;
      registers = subst P (sym chosen.list) own.registers;
      slots_below = subst R (sym chosen.slots) (subst Q (sym chosen.list) own.slots);
    }
