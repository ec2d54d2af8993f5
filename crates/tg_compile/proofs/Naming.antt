-- The instructions of a function name registers and slots that they may name before allocation.
use Rattle.std.proofs.Common.{◌≡◌, true, List, [], ◌∷◌, Option, Some, None, refl}
use Rattle.std.specs.Prelude.{◌&&◌, ◌||◌, ◌==◌}
use Rattle.std.specs.List.{list_all}
use Rattle.std.proofs.lemmas.Bool.{and_from, and_parts, or_right}
use Rattle.tg_instr.specs.declared.instr.Instr.{Instr}
use Rattle.tg_instr.specs.declared.operands.Opnd.{Opnd}
use Rattle.tg_instr.specs.declared.operands.Opnd.TheVariants.{Temp, Reg}
use Rattle.tg_instr.specs.Renaming.{named}
use Rattle.tg_munch.specs.Naming as munch
use Rattle.tg_munch.specs.laws.Laws.{RegistersAreFixed, SlotsAreBelow}
use Rattle.tg_instr.specs.Codes.{has_register, has_slots_below, names_registers}
use Rattle.tg_redundancy.specs.laws.Laws.{KnownPassesTests}
use Rattle.tg_regalloc.specs.Conditions.{is_fixed}
use Rattle.tg_canon_trace_proof.specs.Flattened.{flattened}
use Rattle.tg_code_bounds.specs.Allocating.{chosen}
use Rattle.tg_compile.specs.glue.Passes.{CodeNamesItsOwn}

-- a register that is read, or written, is one that code names before allocation
read_is : (one : Option Opnd) → has_register munch.is_read one ≡ true →
    has_register is_fixed one ≡ true
read_is (Some (Reg r)) e = e
read_is (Some (Temp t)) e = refl
read_is None e = refl

written_is : (one : Option Opnd) → has_register munch.is_written one ≡ true →
    has_register is_fixed one ≡ true
written_is (Some (Reg r)) e =
    or_right (r == 0) (r == 29 || munch.is_written r) (or_right (r == 29) (munch.is_written r) e)
written_is (Some (Temp t)) e = refl
written_is None e = refl

one_is : (one : Instr) → munch.names_registers one ≡ true → names_registers is_fixed one ≡ true
one_is one e =
    let n = named one in
    let to = has_register munch.is_written n.to in
    let first = has_register munch.is_read n.first in
    let second = has_register munch.is_read n.second in
    let reads = (and_parts to (first && second) e).1 in
    and_from (has_register is_fixed n.to) (has_register is_fixed n.first && has_register is_fixed n.second)
    (written_is n.to (and_parts to (first && second) e).0)
    (and_from (has_register is_fixed n.first) (has_register is_fixed n.second)
    (read_is n.first (and_parts first second reads).0) (read_is n.second (and_parts first second reads).1))

all_are : (code : List Instr) → list_all munch.names_registers code ≡ true →
    list_all (names_registers is_fixed) code ≡ true
all_are [] e = refl
all_are (one ∷ rest) e =
    and_from (names_registers is_fixed one) (list_all (names_registers is_fixed) rest)
    (one_is one (and_parts (munch.names_registers one) (list_all munch.names_registers rest) e).0)
    (all_are rest (and_parts (munch.names_registers one) (list_all munch.names_registers rest) e).1)

-- and known words and tests name no others
pub own_names : RegistersAreFixed → SlotsAreBelow → KnownPassesTests → CodeNamesItsOwn
own_names fixed below known f h =
    record {
      registers =
          known (names_registers is_fixed) (λ to from. refl) (λ mark. refl) (chosen f).code
          (all_are (chosen f).code (fixed (flattened f)));
      slots = known (has_slots_below f.slots) (λ to from. refl) (λ mark. refl) (chosen f).code (below (flattened f) h);
    }
