-- The text of `tiger alloc`: for each function its rounds with their steps, and where its
-- temporaries came to stand.
use Rattle.std.specs.Prelude.{ℕ, ◌-◌, suc, Bool, true, false, List, [], ◌∷◌, ◌++◌, codes}
use Rattle.std.specs.Prelude.{if◌then◌else◌, slice_index_or}
use Rattle.std.specs.Fmt.{decimal}
use Rattle.tg_isa.specs.Names.{register_name}
use Rattle.tg_graph.specs.Interference.{is_register}
use Rattle.tg_irc_definition.specs.declared.moves.Move.{Move}
use Rattle.tg_irc_definition.specs.declared.steps.Step.{Step}
use Rattle.tg_irc_definition.specs.declared.steps.Step.TheVariants.{Simplify, Same, Constrain}
use Rattle.tg_irc_definition.specs.declared.steps.Step.TheVariants.{Coalesce}
use Rattle.tg_irc_definition.specs.declared.steps.Step.TheVariants.{Freeze, Spill}
use Rattle.tg_irc_definition.specs.declared.rounds.Round.{Round}
use Rattle.tg_regalloc.specs.declared.allocations.Location.{Location}
use Rattle.tg_regalloc.specs.declared.allocations.Location.TheVariants.{Colour, Slot}
use Rattle.tg_regalloc.specs.declared.allocations.Allocation.{Allocation}
use Rattle.tg_regalloc.specs.Painting.{register_of}

-- a temporary by its number, a register by its name
abbrev pub temp_text : (temp : ℕ) → List ℕ
temp_text t = 116 ∷ decimal t

abbrev pub node_text : (node : ℕ) → List ℕ
node_text x = if is_register x then register_name (register_of x) else temp_text (x - 25)

-- Steps.

abbrev pub node_line : List ℕ → (node : ℕ) → List ℕ
node_line word x = word ++ (node_text x ++ 10 ∷ [])

abbrev pub move_line : List ℕ → Move → List ℕ
move_line word m = word ++ (node_text m.to ++ (32 ∷ [] ++ (node_text m.from ++ 10 ∷ [])))

abbrev pub test_text : (briggs : Bool) → List ℕ
test_text true = codes " briggs\n"
test_text false = codes " george\n"

abbrev pub move_at : List Move → ℕ → Move
move_at moves i = slice_index_or moves i (record { to = 0; from = 0 })

abbrev pub merge_line : (kept gone : ℕ) → (briggs : Bool) → List ℕ
merge_line kept gone briggs =
    codes "coalesce " ++ (node_text kept ++ (32 ∷ [] ++ (node_text gone ++ test_text briggs)))

abbrev pub step_line : List Move → Step → List ℕ
step_line moves (Simplify x) = node_line (codes "simplify ") x
step_line moves (Same i) = move_line (codes "same ") (move_at moves i)
step_line moves (Constrain i) = move_line (codes "constrain ") (move_at moves i)
step_line moves (Coalesce i kept gone briggs) = merge_line kept gone briggs
step_line moves (Freeze x) = node_line (codes "freeze ") x
step_line moves (Spill x) = node_line (codes "spill ") x

abbrev pub step_lines : List Move → List Step → List ℕ
step_lines moves [] = []
step_lines moves (step ∷ steps) = step_line moves step ++ step_lines moves steps

abbrev pub spilled_lines : List ℕ → List ℕ
spilled_lines [] = []
spilled_lines (x ∷ xs) = node_line (codes "spilled ") x ++ spilled_lines xs

-- Rounds, of which the first has the number 1.

abbrev pub number_line : List ℕ → ℕ → List ℕ
number_line word n = word ++ (decimal n ++ 10 ∷ [])

abbrev pub round_lines : (number : ℕ) → Round → List ℕ
round_lines k round =
    number_line (codes "round ") k ++
    (step_lines round.moves round.steps ++ spilled_lines round.spilled)

abbrev pub rounds_lines : (number : ℕ) → List Round → List ℕ
rounds_lines k [] = []
rounds_lines k (round ∷ rounds) = round_lines k round ++ rounds_lines (suc k) rounds

-- Locations.

abbrev pub location_line : (temp : ℕ) → Location → List ℕ
location_line t (Colour c) =
    codes "colour " ++ (temp_text t ++ (32 ∷ [] ++ (register_name (register_of c) ++ 10 ∷ [])))
location_line t (Slot k) = codes "slot " ++ (temp_text t ++ (32 ∷ [] ++ (decimal k ++ 10 ∷ [])))

abbrev pub location_lines : (temp : ℕ) → List Location → List ℕ
location_lines t [] = []
location_lines t (location ∷ locations) =
    location_line t location ++ location_lines (suc t) locations

abbrev pub placed_lines : (all_in_frame : Bool) → List Location → List ℕ
placed_lines true locations = codes "all in frame\n"
placed_lines false locations = location_lines 0 locations

abbrev pub allocation_lines : Allocation → List ℕ
allocation_lines a =
    number_line (codes "function ") a.done.frame.label.0 ++
    (rounds_lines 1 a.rounds ++
    (placed_lines a.all_in_frame a.registers ++ number_line (codes "slots ") a.slots))

abbrev pub listed : List Allocation → List ℕ
listed [] = []
listed (a ∷ rest) = allocation_lines a ++ listed rest
