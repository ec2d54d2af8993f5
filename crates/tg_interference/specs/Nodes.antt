-- The nodes of an interference graph (Appel, chapter 11): the registers that are colours by their
-- places in the list of colours, and temporary t as 25 + t. No other register has a node.
use Rattle.std.specs.Prelude.{ℕ, ◌+◌, ◌-◌, nat_eq, Option, Some, slice_index, if◌then◌else◌}
use Rattle.std.specs.List.{position}
use Rattle.tg_instr.specs.declared.operands.Opnd.{Opnd}
use Rattle.tg_instr.specs.declared.operands.Opnd.TheVariants.{Temp as TempOf, Reg}
use Rattle.tg_graph.specs.Interference.{is_register}
use Rattle.tg_live.specs.Interference.{colours}

-- a node for each of so many temporaries
abbrev pub most_temps : ℕ
most_temps = 16777216

abbrev pub temp_at : (node : ℕ) → Opnd
temp_at n = TempOf (record { 0 = n - 25 })

-- the operand at a node
unfoldable pub operand_at : (node : ℕ) → Opnd
operand_at n = if is_register n then Reg (slice_index colours n) else temp_at n

unfoldable pub node_of : Opnd → Option ℕ
node_of (Reg r) = position (nat_eq r) colours
node_of (TempOf t) = Some (25 + t.0)
