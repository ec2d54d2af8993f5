-- Five larger rounds, of graphs that were drawn at random; an independent program made the steps.
use Rattle.std.proofs.Common.{true, false, List, [], ◌∷◌, ◌++◌, Some, None, refl}
use Rattle.tg_irc_definition.specs.declared.steps.Step.{Step}
use Rattle.tg_irc_definition.specs.declared.steps.Step.TheVariants.{Simplify, Same, Constrain, Coalesce, Freeze, Spill}
use Rattle.tg_irc_definition.specs.declared.moves.MoveState.TheVariants.{Coalesced, Constrained, Frozen}
use Rattle.tg_irc_definition.specs.Policies.{least_use}
use Rattle.tg_irc_definition.specs.States.{Problem}
use Rattle.tg_irc_definition.specs.Rounds.{IsRound}
use Rattle.tg_irc_definition.proofs.Examples.{graph, move, node_facts, facts_then, with_each, round, is_round}

abbrev first : Problem
first = record {
  graph = graph 30
      (
      with_each 25 (2 ∷ 5 ∷ 7 ∷ 8 ∷ 10 ∷ 11 ∷ 13 ∷ 14 ∷ 16 ∷ 17 ∷ 23 ∷ []) ++
      with_each 26
      (0 ∷ 1 ∷ 2 ∷ 3 ∷ 4 ∷ 5 ∷ 6 ∷ 7 ∷ 8 ∷ 9 ∷ 10 ∷ 11 ∷ 12 ∷ 13 ∷ 14 ∷ 15 ∷ 16 ∷ 17 ∷ 18 ∷ 19 ∷ 20 ∷ 21 ∷ 22 ∷ 23 ∷
      24 ∷ 25 ∷ []) ++
      with_each 27
      (0 ∷ 1 ∷ 2 ∷ 3 ∷ 4 ∷ 5 ∷ 6 ∷ 7 ∷ 8 ∷ 9 ∷ 10 ∷ 11 ∷ 12 ∷ 13 ∷ 14 ∷ 15 ∷ 16 ∷ 17 ∷ 18 ∷ 19 ∷ 20 ∷ 21 ∷ 23 ∷ 24 ∷
      25 ∷ 26 ∷ []) ++
      with_each 28 (4 ∷ 9 ∷ 10 ∷ 13 ∷ 14 ∷ 15 ∷ 16 ∷ 18 ∷ 20 ∷ 21 ∷ 23 ∷ 26 ∷ 27 ∷ []) ++
      with_each 29 (0 ∷ 4 ∷ 5 ∷ 6 ∷ 10 ∷ 11 ∷ 13 ∷ 15 ∷ 17 ∷ 18 ∷ 27 ∷ 28 ∷ [])
      );
  moves = move 26 29 ∷ move 29 13 ∷ move 25 28 ∷ move 28 4 ∷ move 25 3 ∷ [];
  facts = facts_then (node_facts 3 false ∷ node_facts 5 false ∷ node_facts 5 false ∷ node_facts 2 true ∷ node_facts 2 true ∷ []);
  rule = least_use;
}

abbrev first_steps : List Step
first_steps =
    Constrain 1 ∷ Coalesce 2 25 28 true ∷ Constrain 3 ∷ Coalesce 4 3 25 false ∷ Freeze 29 ∷ Simplify 29 ∷ Spill 26 ∷
    Simplify 27 ∷ []

first_is : IsRound first
    (round first first_steps (Frozen ∷ Constrained ∷ Coalesced ∷ Constrained ∷ Coalesced ∷ [])
    (3 ∷ 26 ∷ 27 ∷ 3 ∷ 29 ∷ []) (Some 3 ∷ None ∷ Some 22 ∷ Some 3 ∷ Some 1 ∷ []) (26 ∷ []))
first_is = is_round first _ refl refl refl

abbrev second : Problem
second = record {
  graph = graph 30
      (
      with_each 25 (2 ∷ 5 ∷ 7 ∷ 12 ∷ 19 ∷ 23 ∷ []) ++
      with_each 26 (5 ∷ 6 ∷ 8 ∷ 12 ∷ 13 ∷ 14 ∷ 21 ∷ 25 ∷ []) ++
      with_each 27
      (0 ∷ 1 ∷ 2 ∷ 3 ∷ 4 ∷ 5 ∷ 6 ∷ 7 ∷ 8 ∷ 9 ∷ 10 ∷ 11 ∷ 12 ∷ 13 ∷ 14 ∷ 15 ∷ 16 ∷ 17 ∷ 18 ∷ 19 ∷ 20 ∷ 21 ∷ 22 ∷ 23 ∷
      24 ∷ 25 ∷ 26 ∷ []) ++
      with_each 28 (9 ∷ 25 ∷ 26 ∷ 27 ∷ []) ++
      with_each 29 (2 ∷ 3 ∷ 5 ∷ 7 ∷ 9 ∷ 19 ∷ 24 ∷ 26 ∷ 27 ∷ 28 ∷ [])
      );
  moves = move 29 22 ∷ move 28 7 ∷ move 26 3 ∷ move 28 18 ∷ move 25 23 ∷ move 27 29 ∷ move 28 7 ∷ [];
  facts = facts_then (node_facts 2 false ∷ node_facts 3 false ∷ node_facts 2 false ∷ node_facts 5 true ∷ node_facts 4 true ∷ []);
  rule = least_use;
}

abbrev second_steps : List Step
second_steps =
    Coalesce 0 22 29 false ∷ Coalesce 1 7 28 false ∷ Coalesce 2 3 26 false ∷ Constrain 3 ∷ Constrain 4 ∷
    Simplify 25 ∷ Constrain 5 ∷ Same 6 ∷ Spill 27 ∷ []

second_is : IsRound second
    (round second second_steps
    (Coalesced ∷ Coalesced ∷ Coalesced ∷ Constrained ∷ Constrained ∷ Constrained ∷ Coalesced ∷ [])
    (25 ∷ 3 ∷ 27 ∷ 7 ∷ 22 ∷ []) (Some 0 ∷ Some 3 ∷ None ∷ Some 7 ∷ Some 22 ∷ []) (27 ∷ []))
second_is = is_round second _ refl refl refl

abbrev third : Problem
third = record {
  graph = graph 31
      (
      with_each 25 (0 ∷ 1 ∷ 2 ∷ 4 ∷ 5 ∷ 6 ∷ 7 ∷ 9 ∷ 11 ∷ 13 ∷ 14 ∷ 15 ∷ 18 ∷ 23 ∷ []) ++
      with_each 26 (2 ∷ 4 ∷ 5 ∷ 7 ∷ 9 ∷ 10 ∷ 12 ∷ 20 ∷ 21 ∷ []) ++
      with_each 27 (0 ∷ 2 ∷ 8 ∷ 9 ∷ 11 ∷ 16 ∷ 18 ∷ 20 ∷ 26 ∷ []) ++
      with_each 28 (0 ∷ 2 ∷ 3 ∷ 4 ∷ 6 ∷ 8 ∷ 11 ∷ 13 ∷ 14 ∷ 15 ∷ 17 ∷ 18 ∷ 19 ∷ 21 ∷ 22 ∷ 23 ∷ 24 ∷ 27 ∷ []) ++
      with_each 29 (0 ∷ 2 ∷ 3 ∷ 5 ∷ 6 ∷ 7 ∷ 9 ∷ 10 ∷ 13 ∷ 16 ∷ 18 ∷ 19 ∷ 22 ∷ 23 ∷ 25 ∷ 27 ∷ []) ++
      with_each 30 (2 ∷ 10 ∷ 14 ∷ 15 ∷ 19 ∷ 20 ∷ 25 ∷ 26 ∷ 27 ∷ 29 ∷ [])
      );
  moves = move 28 26 ∷ move 29 5 ∷ move 25 21 ∷ move 29 26 ∷ move 29 21 ∷ move 28 26 ∷ move 29 22 ∷ move 27 1 ∷ [];
  facts = facts_then (node_facts 4 false ∷ node_facts 4 false ∷ node_facts 1 false ∷ node_facts 5 true ∷ node_facts 4 false ∷ node_facts 3 true ∷ []);
  rule = least_use;
}

abbrev third_steps : List Step
third_steps =
    Simplify 30 ∷ Coalesce 0 26 28 true ∷ Constrain 1 ∷ Coalesce 2 21 25 false ∷ Coalesce 3 29 26 true ∷
    Constrain 4 ∷ Same 5 ∷ Constrain 6 ∷ Freeze 27 ∷ Simplify 27 ∷ Simplify 29 ∷ []

third_is : IsRound third
    (round third third_steps
    (Coalesced ∷ Constrained ∷ Coalesced ∷ Coalesced ∷ Constrained ∷ Coalesced ∷ Constrained ∷ Frozen ∷ [])
    (21 ∷ 29 ∷ 27 ∷ 29 ∷ 29 ∷ 30 ∷ []) (Some 21 ∷ Some 1 ∷ Some 3 ∷ Some 1 ∷ Some 1 ∷ Some 0 ∷ []) [])
third_is = is_round third _ refl refl refl

abbrev fourth : Problem
fourth = record {
  graph = graph 30
      (
      with_each 25 (0 ∷ 4 ∷ 6 ∷ 7 ∷ 10 ∷ 13 ∷ 15 ∷ 21 ∷ 22 ∷ 24 ∷ []) ++
      with_each 26
      (0 ∷ 1 ∷ 2 ∷ 3 ∷ 5 ∷ 6 ∷ 7 ∷ 8 ∷ 9 ∷ 10 ∷ 11 ∷ 12 ∷ 13 ∷ 15 ∷ 16 ∷ 17 ∷ 19 ∷ 20 ∷ 21 ∷ 22 ∷ 24 ∷ 25 ∷ []) ++
      with_each 27
      (0 ∷ 1 ∷ 2 ∷ 3 ∷ 4 ∷ 5 ∷ 6 ∷ 7 ∷ 8 ∷ 9 ∷ 10 ∷ 11 ∷ 12 ∷ 13 ∷ 14 ∷ 15 ∷ 16 ∷ 17 ∷ 18 ∷ 19 ∷ 20 ∷ 21 ∷ 22 ∷ 23 ∷
      24 ∷ 25 ∷ []) ++
      with_each 28 (1 ∷ 2 ∷ 4 ∷ 8 ∷ 14 ∷ 19 ∷ 22 ∷ 27 ∷ []) ++
      with_each 29 (1 ∷ 2 ∷ 3 ∷ 4 ∷ 8 ∷ 11 ∷ 12 ∷ 14 ∷ 15 ∷ 16 ∷ 18 ∷ 20 ∷ 23 ∷ 25 ∷ 26 ∷ 28 ∷ [])
      );
  moves = move 27 29 ∷ move 26 15 ∷ move 26 19 ∷ move 25 14 ∷ [];
  facts = facts_then (node_facts 5 true ∷ node_facts 3 false ∷ node_facts 3 false ∷ node_facts 1 false ∷ node_facts 5 false ∷ []);
  rule = least_use;
}

abbrev fourth_steps : List Step
fourth_steps =
    Simplify 28 ∷ Constrain 1 ∷ Constrain 2 ∷ Simplify 26 ∷ Coalesce 3 14 25 false ∷ Freeze 29 ∷ Simplify 29 ∷
    Spill 27 ∷ []

fourth_is : IsRound fourth
    (round fourth fourth_steps (Frozen ∷ Constrained ∷ Constrained ∷ Coalesced ∷ [])
    (14 ∷ 26 ∷ 27 ∷ 28 ∷ 29 ∷ []) (Some 14 ∷ Some 4 ∷ None ∷ Some 3 ∷ Some 0 ∷ []) (27 ∷ []))
fourth_is = is_round fourth _ refl refl refl

abbrev fifth : Problem
fifth = record {
  graph = graph 31
      (
      with_each 25
      (0 ∷ 1 ∷ 2 ∷ 3 ∷ 4 ∷ 5 ∷ 6 ∷ 7 ∷ 8 ∷ 9 ∷ 11 ∷ 12 ∷ 13 ∷ 14 ∷ 15 ∷ 16 ∷ 17 ∷ 18 ∷ 19 ∷ 20 ∷ 21 ∷ 23 ∷ 24 ∷ []) ++
      with_each 26
      (0 ∷ 1 ∷ 2 ∷ 3 ∷ 4 ∷ 5 ∷ 6 ∷ 7 ∷ 8 ∷ 9 ∷ 10 ∷ 11 ∷ 12 ∷ 13 ∷ 14 ∷ 15 ∷ 16 ∷ 17 ∷ 18 ∷ 19 ∷ 20 ∷ 21 ∷ 22 ∷ 23 ∷
      24 ∷ 25 ∷ []) ++
      with_each 27 (0 ∷ 1 ∷ 3 ∷ 9 ∷ 10 ∷ 11 ∷ 13 ∷ 14 ∷ 15 ∷ 20 ∷ 23 ∷ 25 ∷ 26 ∷ []) ++
      with_each 28 (11 ∷ 23 ∷ 25 ∷ 26 ∷ 27 ∷ []) ++
      with_each 29 (4 ∷ 6 ∷ 8 ∷ 10 ∷ 11 ∷ 14 ∷ 16 ∷ 17 ∷ 19 ∷ 25 ∷ 26 ∷ 27 ∷ []) ++
      with_each 30 (0 ∷ 2 ∷ 10 ∷ 19 ∷ 25 ∷ 26 ∷ 28 ∷ 29 ∷ [])
      );
  moves = move 30 15 ∷ move 28 29 ∷ move 29 20 ∷ move 26 17 ∷ move 29 13 ∷ move 27 22 ∷ [];
  facts = facts_then (node_facts 3 false ∷ node_facts 3 true ∷ node_facts 1 false ∷ node_facts 2 false ∷ node_facts 3 false ∷ node_facts 2 false ∷ []);
  rule = least_use;
}

abbrev fifth_steps : List Step
fifth_steps =
    Coalesce 0 15 30 false ∷ Coalesce 1 28 29 true ∷ Coalesce 2 20 28 false ∷ Constrain 3 ∷ Constrain 4 ∷ Freeze 27 ∷
    Simplify 27 ∷ Simplify 25 ∷ Spill 26 ∷ []

fifth_is : IsRound fifth
    (round fifth fifth_steps (Coalesced ∷ Coalesced ∷ Coalesced ∷ Constrained ∷ Constrained ∷ Frozen ∷ [])
    (25 ∷ 26 ∷ 27 ∷ 20 ∷ 20 ∷ 15 ∷ []) (Some 10 ∷ None ∷ Some 2 ∷ Some 20 ∷ Some 20 ∷ Some 15 ∷ []) (26 ∷ []))
fifth_is = is_round fifth _ refl refl refl
