-- What is known of each node of a code before a round (George and Appel 1996): how often it occurs,
-- and whether spilling has made it.
use Rattle.std.specs.Prelude.{◌≡◌, ◌<◌, ℕ, ◌+◌, ◌-◌, false, nat_le, List, length, map, count_by}
use Rattle.std.specs.Prelude.{sum_by, slice_index, if◌then◌else◌}
use Rattle.std.specs.List.{range_with_len}
use Rattle.tg_instr.specs.declared.instr.Instr.{Instr}
use Rattle.tg_instr.specs.declared.operands.Opnd.{Opnd}
use Rattle.tg_instr.specs.declared.operands.Opnd.TheVariants.{Temp as TempOf}
use Rattle.tg_instr.specs.Operands.{is_same}
use Rattle.tg_instr.specs.Uses.{uses_of, defs_of}
use Rattle.tg_graph.specs.Interference.{is_register}
use Rattle.tg_irc_definition.specs.declared.candidates.NodeFacts.{NodeFacts}

abbrev pub temp : ℕ → Opnd
temp t = TempOf (record { 0 = t })

abbrev pub occurrences_in : Opnd → Instr → ℕ
occurrences_in x one = count_by (is_same x) (uses_of one) + count_by (is_same x) (defs_of one)

-- the uses and definitions of an operand in a code
abbrev pub occurrences : Opnd → List Instr → ℕ
occurrences x all = sum_by (occurrences_in x) all

-- the facts of a node, by how often temporaries occur: those of these numbers or greater are made
abbrev pub facts_by : (occurs : ℕ → ℕ) → (originals node : ℕ) → NodeFacts
facts_by occurs originals n =
    if is_register n then record { uses = 0; made = false }
    else record { uses = occurs (n - 25); made = nat_le originals (n - 25) }

abbrev pub facts_of : List Instr → (originals node : ℕ) → NodeFacts
facts_of all originals = facts_by (λ t. occurrences (temp t) all) originals

-- one for each node
abbrev pub facts_of_nodes : List Instr → (temps originals : ℕ) → List NodeFacts
facts_of_nodes all temps originals = map (facts_of all originals) (range_with_len 0 (25 + temps))

-- how often each temporary occurs
pub record AreCounts (all : List Instr) (temps : ℕ) (counts : List ℕ) : Type 0 where
  pub size : length counts ≡ temps
  pub each : (t : ℕ) → t < temps → slice_index counts t ≡ occurrences (temp t) all
