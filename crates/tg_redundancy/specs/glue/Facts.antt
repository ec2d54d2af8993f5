-- The walks over facts, a fact at a time.
use Rattle.std.specs.Prelude.{ℕ, ◌==◌, ◌&&◌, Bool, false, Option, Some, None, if◌then◌else◌}
use Rattle.tg_tree.specs.declared.operators.Rel.{Rel}
use Rattle.tg_instr.specs.declared.operands.Opnd.{Opnd}
use Rattle.tg_instr.specs.Operands.{is_same}
use Rattle.tg_redundancy.specs.declared.readings.Reading.{Reading}
use Rattle.tg_redundancy.specs.declared.readings.Reading.TheVariants.{Moved}
use Rattle.tg_redundancy.specs.declared.facts.Fact.{Fact}
use Rattle.tg_redundancy.specs.declared.facts.Fact.TheVariants.{Has, Untrue}
use Rattle.tg_redundancy.specs.mirror.Readings.{temp, same_reading}
use Rattle.tg_redundancy.specs.mirror.Facts.{same_rel}

-- what an operand has, if it is this holder of a copy
abbrev pub moved_from : (holder : ℕ) → Reading → Opnd → Option Opnd
moved_from holder (Moved from) operand =
    if is_same (temp holder) operand then Some from else None
moved_from holder _ operand = None

-- what an operand is known to have, by one fact
abbrev pub moved_by : Fact → Opnd → Option Opnd
moved_by (Has holder reading) operand = moved_from holder reading operand
moved_by (Untrue rel left right) operand = None

-- the temporary that has a word, by one fact, other than one
abbrev pub held_by : (to : ℕ) → Reading → Fact → Option ℕ
held_by to reading (Has holder had) =
    if holder == to then None else (if same_reading had reading then Some holder else None)
held_by to reading (Untrue rel left right) = None

-- a fact says that a comparison doesn't hold
abbrev pub denies : Rel → (left right : Opnd) → Fact → Bool
denies rel left right (Has holder had) = false
denies rel left right (Untrue other x y) =
    same_rel rel other && (is_same left x && is_same right y)
