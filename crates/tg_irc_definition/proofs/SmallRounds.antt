-- Small rounds, computed, and steps that no run takes.
use Rattle.std.proofs.Common.{◌≡◌, ℕ, false, true, List, [], ◌∷◌, ◌++◌, Some, None, refl, arith}
use Rattle.std.specs.Prelude.{nat_lt, filter, not, ◌==◌}
use Rattle.std.specs.List.{range_with_len}
use Rattle.tg_irc_definition.specs.declared.candidates.Candidate.{Candidate}
use Rattle.tg_irc_definition.specs.declared.steps.Step.{Step}
use Rattle.tg_irc_definition.specs.declared.steps.Step.TheVariants.{Simplify, Same, Constrain, Coalesce, Freeze, Spill}
use Rattle.tg_irc_definition.specs.declared.moves.Move.{Move}
use Rattle.tg_irc_definition.specs.declared.moves.MoveState.TheVariants.{Coalesced, Constrained, Frozen}
use Rattle.tg_irc_definition.specs.declared.rounds.Round.{Round}
use Rattle.tg_irc_definition.specs.States.{Problem, start}
use Rattle.tg_irc_definition.specs.Steps.{candidates, after_all, is_over}
use Rattle.tg_irc_definition.specs.Rounds.{IsRound}
use Rattle.tg_irc_definition.proofs.Examples.{graph, move, node_facts, facts_then, original, registers, with_each, round, is_round}
use Rattle.tg_irc_definition.proofs.Examples.{NeverTakes, impossible, too_early, wrong_colour}

-- the registers but one
abbrev all_but : ℕ → List ℕ
all_but k = filter (λ r. not (r == k)) registers

-- Two temporaries that don't interfere, with a move: it is coalesced by Briggs's test, whichever of
-- the two is kept.

abbrev free_move : Problem
free_move = original 27 [] (move 25 26 ∷ [])

abbrev free_move_round : (kept gone : ℕ) → Round
free_move_round kept gone =
    round free_move (Coalesce 0 kept gone true ∷ Simplify kept ∷ []) (Coalesced ∷ []) (kept ∷ kept ∷ [])
    (Some 0 ∷ Some 0 ∷ []) []

free_move_is : IsRound free_move (free_move_round 25 26)
free_move_is = is_round free_move (free_move_round 25 26) refl refl refl

free_move_is_too : IsRound free_move (free_move_round 26 25)
free_move_is_too = is_round free_move (free_move_round 26 25) refl refl refl

-- freezing it, simplifying an end, spilling one and settling it by George's test are all wrong
free_move_isn't_frozen : NeverTakes free_move [] (Freeze 25)
free_move_isn't_frozen = too_early free_move [] (Freeze 25) (Coalesce 0 25 26 true) (omega arith) refl

free_move_isn't_simplified : NeverTakes free_move [] (Simplify 25)
free_move_isn't_simplified = impossible free_move [] (Simplify 25) refl

free_move_isn't_spilled : NeverTakes free_move [] (Spill 26)
free_move_isn't_spilled = too_early free_move [] (Spill 26) (Coalesce 0 25 26 true) (omega arith) refl

free_move_isn't_george's : NeverTakes free_move [] (Coalesce 0 25 26 false)
free_move_isn't_george's = impossible free_move [] (Coalesce 0 25 26 false) refl

-- the round isn't over before the kept node is taken out, nor before its move is settled
free_move_goes_on : is_over free_move (after_all free_move (start free_move) (Coalesce 0 25 26 true ∷ [])) ≡ false
free_move_goes_on = refl

-- Two temporaries that interfere, with a move: it is constrained.

abbrev held_move : Problem
held_move = original 27 ((25, 26) ∷ []) (move 25 26 ∷ [])

held_move_is : IsRound held_move
    (round held_move (Constrain 0 ∷ Simplify 25 ∷ Simplify 26 ∷ []) (Constrained ∷ []) (25 ∷ 26 ∷ [])
    (Some 1 ∷ Some 0 ∷ []) [])
held_move_is = is_round held_move _ refl refl refl

held_move_is_too : IsRound held_move
    (round held_move (Constrain 0 ∷ Simplify 26 ∷ Simplify 25 ∷ []) (Constrained ∷ []) (25 ∷ 26 ∷ [])
    (Some 0 ∷ Some 1 ∷ []) [])
held_move_is_too = is_round held_move _ refl refl refl

held_move_isn't_merged : NeverTakes held_move [] (Coalesce 0 25 26 true)
held_move_isn't_merged = impossible held_move [] (Coalesce 0 25 26 true) refl

held_move_isn't_frozen : NeverTakes held_move [] (Freeze 26)
held_move_isn't_frozen = too_early held_move [] (Freeze 26) (Constrain 0) (omega arith) refl

-- both may not have one colour
held_move_differs : IsRound held_move
    (round held_move (Constrain 0 ∷ Simplify 25 ∷ Simplify 26 ∷ []) (Constrained ∷ []) (25 ∷ 26 ∷ [])
    (Some 0 ∷ Some 0 ∷ []) []) → ⊥
held_move_differs = wrong_colour held_move _ 25 0 1 refl refl refl

-- A temporary and a register, with a move: it is coalesced by George's test, and the register is kept.

abbrev fixed_move : Problem
fixed_move = original 26 [] (move 25 2 ∷ [])

fixed_move_is : IsRound fixed_move
    (round fixed_move (Coalesce 0 2 25 false ∷ []) (Coalesced ∷ []) (2 ∷ []) (Some 2 ∷ []) [])
fixed_move_is = is_round fixed_move _ refl refl refl

fixed_move_isn't_briggs's : NeverTakes fixed_move [] (Coalesce 0 2 25 true)
fixed_move_isn't_briggs's = impossible fixed_move [] (Coalesce 0 2 25 true) refl

fixed_move_keeps_register : NeverTakes fixed_move [] (Coalesce 0 25 2 false)
fixed_move_keeps_register = impossible fixed_move [] (Coalesce 0 25 2 false) refl

-- A temporary that interferes with every register: it is spilled, and the policy sees it alone.

abbrev crowded : Problem
crowded = original 26 (with_each 25 registers) []

crowded_is : IsRound crowded (round crowded (Spill 25 ∷ []) [] (25 ∷ []) (None ∷ []) (25 ∷ []))
crowded_is = is_round crowded _ refl refl refl

crowded_candidates : candidates crowded (start crowded) ≡
    record { temp = 0; degree = 25; uses = 2; made = false } ∷ []
crowded_candidates = refl

crowded_isn't_simplified : NeverTakes crowded [] (Simplify 25)
crowded_isn't_simplified = impossible crowded [] (Simplify 25) refl

crowded_register_isn't_spilled : NeverTakes crowded [] (Spill 3)
crowded_register_isn't_spilled = impossible crowded [] (Spill 3) refl

-- A move to a register whose test fails at a high neighbour: it is frozen.

abbrev blocked_move : Problem
blocked_move = original 27 ((25, 26) ∷ with_each 26 (all_but 2)) (move 25 2 ∷ [])

blocked_move_is : IsRound blocked_move
    (round blocked_move (Freeze 25 ∷ Simplify 25 ∷ Simplify 26 ∷ []) (Frozen ∷ []) (25 ∷ 26 ∷ [])
    (Some 0 ∷ Some 2 ∷ []) [])
blocked_move_is = is_round blocked_move _ refl refl refl

blocked_move_isn't_merged : NeverTakes blocked_move [] (Coalesce 0 2 25 false)
blocked_move_isn't_merged = impossible blocked_move [] (Coalesce 0 2 25 false) refl

blocked_move_isn't_spilled : NeverTakes blocked_move [] (Spill 26)
blocked_move_isn't_spilled = too_early blocked_move [] (Spill 26) (Freeze 25) (omega arith) refl

-- the first free colour, and no later one
blocked_move_takes_first : IsRound blocked_move
    (round blocked_move (Freeze 25 ∷ Simplify 25 ∷ Simplify 26 ∷ []) (Frozen ∷ []) (25 ∷ 26 ∷ [])
    (Some 1 ∷ Some 2 ∷ []) []) → ⊥
blocked_move_takes_first = wrong_colour blocked_move _ 25 1 0 refl refl refl

-- A freeze leaves what is settled.

abbrev half_settled : Problem
half_settled = record blocked_move { moves = move 25 2 ∷ move 25 26 ∷ [] }

half_settled_is : IsRound half_settled
    (round half_settled (Constrain 1 ∷ Freeze 25 ∷ Simplify 25 ∷ Simplify 26 ∷ []) (Frozen ∷ Constrained ∷ [])
    (25 ∷ 26 ∷ [])
    (Some 0 ∷ Some 2 ∷ []) [])
half_settled_is = is_round half_settled _ refl refl refl

-- A made temporary and an original: the original is kept.

abbrev half_made : Problem
half_made = record free_move { facts = facts_then (node_facts 2 true ∷ node_facts 2 false ∷ []) }

half_made_is : IsRound half_made (free_move_round 26 25)
half_made_is = is_round half_made (free_move_round 26 25) refl refl refl

half_made_keeps_original : NeverTakes half_made [] (Coalesce 0 25 26 true)
half_made_keeps_original = impossible half_made [] (Coalesce 0 25 26 true) refl

-- Two made temporaries: either is kept.

abbrev both_made : Problem
both_made = record free_move { facts = facts_then (node_facts 2 true ∷ node_facts 2 true ∷ []) }

both_made_is : IsRound both_made (free_move_round 25 26)
both_made_is = is_round both_made (free_move_round 25 26) refl refl refl

both_made_is_too : IsRound both_made (free_move_round 26 25)
both_made_is_too = is_round both_made (free_move_round 26 25) refl refl refl

-- Two temporaries that interfere with each other and with every register: the one that is used less
-- is spilled first.

abbrev crowded_pair : Problem
crowded_pair = record crowded {
  graph = graph 27 ((25, 26) ∷ (with_each 25 registers ++ with_each 26 registers));
  facts = facts_then (node_facts 3 false ∷ node_facts 2 false ∷ []);
}

crowded_pair_is : IsRound crowded_pair
    (round crowded_pair (Spill 26 ∷ Spill 25 ∷ []) [] (25 ∷ 26 ∷ []) (None ∷ None ∷ []) (25 ∷ 26 ∷ []))
crowded_pair_is = is_round crowded_pair _ refl refl refl

crowded_pair_heeds_policy : NeverTakes crowded_pair [] (Spill 25)
crowded_pair_heeds_policy = impossible crowded_pair [] (Spill 25) refl

-- and one that spilling has made goes last, and the lower of two alike first
abbrev crowded_made : Problem
crowded_made = record crowded_pair { facts = facts_then (node_facts 3 false ∷ node_facts 2 true ∷ []) }

crowded_made_is : IsRound crowded_made
    (round crowded_made (Spill 25 ∷ Spill 26 ∷ []) [] (25 ∷ 26 ∷ []) (None ∷ None ∷ []) (26 ∷ 25 ∷ []))
crowded_made_is = is_round crowded_made _ refl refl refl

abbrev crowded_alike : Problem
crowded_alike = record crowded_pair { facts = facts_then (node_facts 2 false ∷ node_facts 2 false ∷ []) }

crowded_alike_is : IsRound crowded_alike
    (round crowded_alike (Spill 25 ∷ Spill 26 ∷ []) [] (25 ∷ 26 ∷ []) (None ∷ None ∷ []) (26 ∷ 25 ∷ []))
crowded_alike_is = is_round crowded_alike _ refl refl refl

crowded_alike_heeds_policy : NeverTakes crowded_alike [] (Spill 26)
crowded_alike_heeds_policy = impossible crowded_alike [] (Spill 26) refl

-- The other end of a coalesced move interferes with the first register: neither end has its colour.

abbrev shared_colour : Problem
shared_colour = original 27 ((26, 0) ∷ []) (move 25 26 ∷ [])

shared_colour_is : IsRound shared_colour
    (round shared_colour (Coalesce 0 25 26 true ∷ Simplify 25 ∷ []) (Coalesced ∷ []) (25 ∷ 25 ∷ [])
    (Some 1 ∷ Some 1 ∷ []) [])
shared_colour_is = is_round shared_colour _ refl refl refl

-- Two high temporaries and a move that fails its test at the second: spilling the first freezes the
-- move, and spilling the second lets it pass.

abbrev failing_move : (uses other_uses : ℕ) → Problem
failing_move uses other_uses =
    let few = all_but 24 in
    record crowded {
      graph = graph 27 ((25, 26) ∷ (with_each 25 few ++ with_each 26 few));
      moves = move 25 24 ∷ [];
      facts = facts_then (node_facts uses false ∷ node_facts other_uses false ∷ []);
    }

failing_move_is : IsRound (failing_move 1 2)
    (round (failing_move 1 2) (Spill 25 ∷ Simplify 26 ∷ []) (Frozen ∷ []) (25 ∷ 26 ∷ []) (None ∷ Some 24 ∷ [])
    (25 ∷ []))
failing_move_is = is_round (failing_move 1 2) _ refl refl refl

woken_move_is : IsRound (failing_move 2 1)
    (round (failing_move 2 1) (Spill 26 ∷ Coalesce 0 24 25 false ∷ []) (Coalesced ∷ []) (24 ∷ 26 ∷ [])
    (Some 24 ∷ None ∷ []) (26 ∷ []))
woken_move_is = is_round (failing_move 2 1) _ refl refl refl

-- it has to be tried again
woken_move_isn't_frozen : NeverTakes (failing_move 2 1) (Spill 26 ∷ []) (Freeze 25)
woken_move_isn't_frozen =
    too_early (failing_move 2 1) (Spill 26 ∷ []) (Freeze 25) (Coalesce 0 24 25 false) (omega arith) refl

-- George's test lets a low neighbour pass, though it doesn't interfere with the register.

abbrev low_beside : Problem
low_beside = original 27 ((25, 26) ∷ []) (move 25 2 ∷ move 26 3 ∷ [])

low_beside_is : IsRound low_beside
    (round low_beside (Coalesce 0 2 25 false ∷ Coalesce 1 3 26 false ∷ []) (Coalesced ∷ Coalesced ∷ []) (2 ∷ 3 ∷ [])
    (Some 2 ∷ Some 3 ∷ []) [])
low_beside_is = is_round low_beside _ refl refl refl

-- A node without moves is taken out before any move is tried.

abbrev idle_node : Problem
idle_node = original 28 [] (move 25 26 ∷ [])

idle_node_is : IsRound idle_node
    (round idle_node (Simplify 27 ∷ Coalesce 0 25 26 true ∷ Simplify 25 ∷ []) (Coalesced ∷ []) (25 ∷ 25 ∷ 27 ∷ [])
    (Some 0 ∷ Some 0 ∷ Some 0 ∷ []) [])
idle_node_is = is_round idle_node _ refl refl refl

idle_node_goes_first : NeverTakes idle_node [] (Coalesce 0 25 26 true)
idle_node_goes_first = too_early idle_node [] (Coalesce 0 25 26 true) (Simplify 27) (omega arith) refl

-- Briggs's test counts the high neighbours of both ends: 24 let the move pass, and 25 don't.

abbrev wide_move : (second : ℕ) → Problem
wide_move second =
    original 27 (with_each 25 (range_with_len 0 12) ++ with_each 26 (range_with_len 12 second)) (move 25 26 ∷ [])

wide_move_is : IsRound (wide_move 12)
    (round (wide_move 12) (Coalesce 0 25 26 true ∷ Simplify 25 ∷ []) (Coalesced ∷ []) (25 ∷ 25 ∷ [])
    (Some 24 ∷ Some 24 ∷ []) [])
wide_move_is = is_round (wide_move 12) _ refl refl refl

too_wide_move_is : IsRound (wide_move 13)
    (round (wide_move 13) (Freeze 25 ∷ Simplify 25 ∷ Simplify 26 ∷ []) (Frozen ∷ []) (25 ∷ 26 ∷ [])
    (Some 12 ∷ Some 0 ∷ []) [])
too_wide_move_is = is_round (wide_move 13) _ refl refl refl

too_wide_move_isn't_merged : NeverTakes (wide_move 13) [] (Coalesce 0 25 26 true)
too_wide_move_isn't_merged = impossible (wide_move 13) [] (Coalesce 0 25 26 true) refl

-- A low neighbour doesn't count, though it can't be taken out yet.

abbrev low_neighbour : Problem
low_neighbour =
    original 29 ((27, 28) ∷ (26, 27) ∷ (with_each 25 (range_with_len 0 12) ++ with_each 26 (range_with_len 12 12)))
    (move 25 26 ∷ move 27 28 ∷ [])

low_neighbour_is : IsRound low_neighbour
    (round low_neighbour (Coalesce 0 25 26 true ∷ Constrain 1 ∷ Simplify 27 ∷ Simplify 25 ∷ Simplify 28 ∷ [])
    (Coalesced ∷ Constrained ∷ []) (25 ∷ 25 ∷ 27 ∷ 28 ∷ []) (Some 24 ∷ Some 24 ∷ Some 1 ∷ Some 0 ∷ []) [])
low_neighbour_is = is_round low_neighbour _ refl refl refl

-- A neighbour of both ends counts as high where it is so before the merge.

abbrev meeting_move : Problem
meeting_move =
    let ends = with_each 25 (27 ∷ range_with_len 0 12) ++ with_each 26 (27 ∷ range_with_len 12 12) in
    original 28 (ends ++ with_each 27 (range_with_len 0 23)) (move 25 26 ∷ [])

meeting_move_is : IsRound meeting_move
    (round meeting_move (Freeze 26 ∷ Simplify 26 ∷ Simplify 25 ∷ Simplify 27 ∷ []) (Frozen ∷ []) (25 ∷ 26 ∷ 27 ∷ [])
    (Some 12 ∷ Some 0 ∷ Some 23 ∷ []) [])
meeting_move_is = is_round meeting_move _ refl refl refl

meeting_move_isn't_merged : NeverTakes meeting_move [] (Coalesce 0 25 26 true)
meeting_move_isn't_merged = impossible meeting_move [] (Coalesce 0 25 26 true) refl

-- A neighbour that was spilled counts no longer.

abbrev spilled_neighbour : Problem
spilled_neighbour =
    let ends = with_each 25 (27 ∷ range_with_len 0 24) ++ with_each 26 (27 ∷ range_with_len 0 24) in
    record (original 28 (ends ++ with_each 27 registers) (move 25 26 ∷ [])) {
      facts = facts_then (node_facts 2 false ∷ node_facts 2 false ∷ node_facts 1 false ∷ []);
    }

spilled_neighbour_is : IsRound spilled_neighbour
    (round spilled_neighbour (Spill 27 ∷ Coalesce 0 26 25 true ∷ Simplify 26 ∷ []) (Coalesced ∷ []) (26 ∷ 26 ∷ 27 ∷ [])
    (Some 24 ∷ Some 24 ∷ None ∷ []) (27 ∷ []))
spilled_neighbour_is = is_round spilled_neighbour _ refl refl refl

spilled_neighbour_isn't_frozen : NeverTakes spilled_neighbour (Spill 27 ∷ []) (Freeze 25)
spilled_neighbour_isn't_frozen =
    too_early spilled_neighbour (Spill 27 ∷ []) (Freeze 25) (Coalesce 0 25 26 true) (omega arith) refl

-- Two registers are never one class, and a move between two ends of one class is the same.

abbrev further_moves : Problem
further_moves = original 27 [] (move 3 4 ∷ move 25 26 ∷ move 26 25 ∷ [])

further_moves_is : IsRound further_moves
    (round further_moves (Constrain 0 ∷ Coalesce 1 25 26 true ∷ Same 2 ∷ Simplify 25 ∷ [])
    (Constrained ∷ Coalesced ∷ Coalesced ∷ [])
    (25 ∷ 25 ∷ []) (Some 0 ∷ Some 0 ∷ []) [])
further_moves_is = is_round further_moves _ refl refl refl

registers_aren't_merged : NeverTakes further_moves [] (Coalesce 0 3 4 false)
registers_aren't_merged = impossible further_moves [] (Coalesce 0 3 4 false) refl

-- a move is settled once
further_moves_aren't_same_again : NeverTakes further_moves (Constrain 0 ∷ Coalesce 1 25 26 true ∷ []) (Same 1)
further_moves_aren't_same_again = impossible further_moves (Constrain 0 ∷ Coalesce 1 25 26 true ∷ []) (Same 1) refl

further_moves_aren't_same : NeverTakes further_moves [] (Same 2)
further_moves_aren't_same = impossible further_moves [] (Same 2) refl

-- the whole class is tried before any of it is taken out
further_moves_aren't_over : NeverTakes further_moves (Constrain 0 ∷ Coalesce 1 25 26 true ∷ []) (Simplify 25)
further_moves_aren't_over = impossible further_moves (Constrain 0 ∷ Coalesce 1 25 26 true ∷ []) (Simplify 25) refl

-- A round isn't over while a move is unsettled, though no temporary remains.

abbrev registers_alone : Problem
registers_alone = original 25 [] (move 3 4 ∷ [])

registers_alone_is : IsRound registers_alone (round registers_alone (Constrain 0 ∷ []) (Constrained ∷ []) [] [] [])
registers_alone_is = is_round registers_alone _ refl refl refl

registers_alone_go_on : is_over registers_alone (start registers_alone) ≡ false
registers_alone_go_on = refl

-- A class that is merged into another takes its members along.

abbrev chained_moves : Problem
chained_moves = original 28 ((26, 1) ∷ (27, 0) ∷ []) (move 25 26 ∷ move 27 25 ∷ [])

chained_moves_is : IsRound chained_moves
    (round chained_moves (Coalesce 0 25 26 true ∷ Coalesce 1 27 25 true ∷ Simplify 27 ∷ []) (Coalesced ∷ Coalesced ∷ [])
    (27 ∷ 27 ∷ 27 ∷ []) (Some 2 ∷ Some 2 ∷ Some 2 ∷ []) [])
chained_moves_is = is_round chained_moves _ refl refl refl

-- A neighbour of one end is a neighbour of the class: here one of 24 registers and the class.

abbrev heavy_neighbour : (end : ℕ) → Problem
heavy_neighbour end = original 28 ((27, end) ∷ with_each 27 (all_but 24)) (move 25 26 ∷ [])

abbrev heavy_neighbour_round : (kept gone : ℕ) → Round
heavy_neighbour_round kept gone =
    round (heavy_neighbour gone) (Coalesce 0 kept gone true ∷ Simplify kept ∷ Simplify 27 ∷ []) (Coalesced ∷ [])
    (kept ∷ kept ∷ 27 ∷ []) (Some 0 ∷ Some 0 ∷ Some 24 ∷ []) []

heavy_neighbour_is : IsRound (heavy_neighbour 26) (heavy_neighbour_round 25 26)
heavy_neighbour_is = is_round (heavy_neighbour 26) (heavy_neighbour_round 25 26) refl refl refl

heavy_neighbour_is_too : IsRound (heavy_neighbour 25) (heavy_neighbour_round 26 25)
heavy_neighbour_is_too = is_round (heavy_neighbour 25) (heavy_neighbour_round 26 25) refl refl refl

heavy_neighbour_stays_high : NeverTakes (heavy_neighbour 26) (Coalesce 0 25 26 true ∷ []) (Simplify 27)
heavy_neighbour_stays_high = impossible (heavy_neighbour 26) (Coalesce 0 25 26 true ∷ []) (Simplify 27) refl

-- What a policy is told of a class: the uses of all its members, and that an original is among them;
-- only neighbours that remain are counted.

abbrev some_made : Problem
some_made = record (original 29 ((25, 0) ∷ (25, 27) ∷ (26, 27) ∷ (28, 27) ∷ []) (move 25 26 ∷ [])) {
  facts = facts_then (node_facts 3 false ∷ node_facts 2 true ∷ node_facts 5 true ∷ node_facts 7 false ∷ []);
}

abbrev told : List Step → List Candidate
told steps = candidates some_made (after_all some_made (start some_made) steps)

told_at_start : told [] ≡
    record { temp = 0; degree = 2; uses = 3; made = false } ∷
    record { temp = 1; degree = 1; uses = 2; made = true } ∷
    record { temp = 2; degree = 3; uses = 5; made = true } ∷
    record { temp = 3; degree = 1; uses = 7; made = false } ∷ []
told_at_start = refl

told_of_class : told (Simplify 28 ∷ Coalesce 0 25 26 true ∷ []) ≡
    record { temp = 0; degree = 2; uses = 5; made = false } ∷
    record { temp = 2; degree = 1; uses = 5; made = true } ∷ []
told_of_class = refl

-- Coalescing frees a colour that spilling would else take. The first temporary may have the colours
-- 22 to 24, each of the next two 22 alone, and each of the last two 23 alone; all interfere with the
-- first. Coalesced with the last register, it leaves 22 and 23 to them. Else the last two are taken
-- out first, since they are used less, and the first temporary takes 23, which is the first that it
-- finds free: then both are spilled.

abbrev tight : List Move → Problem
tight moves =
    let first = with_each 25 (filter (λ r. nat_lt r 22) registers) ++ with_each 25 (26 ∷ 27 ∷ 28 ∷ 29 ∷ []) in
    let next = with_each 26 (all_but 22) ++ with_each 27 (all_but 22) in
    let last = with_each 28 (all_but 23) ++ with_each 29 (all_but 23) in
    record crowded {
      graph = graph 30 (first ++ next ++ last);
      moves = moves;
      facts = facts_then (node_facts 2 false ∷ node_facts 2 false ∷ node_facts 2 false ∷ node_facts 1 false ∷ node_facts 1 false ∷ []);
    }

tight_with_move_is : let g = tight (move 25 24 ∷ []) in IsRound g
    (round g (Coalesce 0 24 25 false ∷ Simplify 26 ∷ Simplify 27 ∷ Simplify 28 ∷ Simplify 29 ∷ []) (Coalesced ∷ [])
    (24 ∷ 26 ∷ 27 ∷ 28 ∷ 29 ∷ []) (Some 24 ∷ Some 22 ∷ Some 22 ∷ Some 23 ∷ Some 23 ∷ []) [])
tight_with_move_is = is_round (tight (move 25 24 ∷ [])) _ refl refl refl

tight_without_is : let g = tight [] in IsRound g
    (round g (Spill 28 ∷ Spill 29 ∷ Simplify 25 ∷ Simplify 26 ∷ Simplify 27 ∷ []) []
    (25 ∷ 26 ∷ 27 ∷ 28 ∷ 29 ∷ []) (Some 23 ∷ Some 22 ∷ Some 22 ∷ None ∷ None ∷ []) (29 ∷ 28 ∷ []))
tight_without_is = is_round (tight []) _ refl refl refl
