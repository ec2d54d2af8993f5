-- The rounds of an allocation as the laws of rounds see them: its graphs, the ends of its moves, and
-- where the first round is the last.
use Rattle.std.proofs.Common.{ℕ, ◌≡◌, ◌+◌, ◌<◌, List, [], ◌∷◌, Bool, true, false, refl, sym, ap, subst, ◌∙◌, arith}
use Rattle.std.specs.Prelude.{IsTrue, IsFalse, All, nat_lt, filter}
use Rattle.std.specs.List.{list_all}
use Rattle.tg_instr.specs.declared.instr.Instr.{Instr}
use Rattle.tg_instr.specs.Codes.{has_temps_below}
use Rattle.tg_graph.specs.Interference.{Interference}
use Rattle.tg_graph.proofs.Joining.{either_way, not_itself}
use Rattle.tg_irc_definition.specs.declared.rounds.Round.{Round}
use Rattle.tg_irc_definition.specs.Graphs.{IsGraph, IsGreedilyColourable}
use Rattle.tg_irc_definition.specs.Policies.{Rule}
use Rattle.tg_irc_definition.specs.laws.Laws.{AreNodes, SpillsNothing}
use Rattle.tg_irc_definition.proofs.GreedyColouring.{part}
use Rattle.tg_irc_definition.proofs.Selecting.{colourable_never_spills}
use Rattle.tg_interference.specs.Pairs.{IsInterference}
use Rattle.tg_coalescing_round.specs.glue.Standing.{graph_of}
use Rattle.tg_regalloc.specs.Rounds.{BetweenRounds, stage_of, IsRoundOf, AreRounds, last_round}
use Rattle.tg_regalloc.specs.Rounds.AreRounds.{last, more}
use Rattle.tg_regalloc.specs.laws.Explained.{problem_of, IsColourable, ColourableNeedsOneRound}
use Rattle.tg_regalloc.proofs.Sizes.{moves_below}

pub is_graph : (graph : Interference) → IsGraph (graph_of graph)
is_graph graph = record { symmetric = either_way graph; irreflexive = λ x. not_itself graph x x refl }

-- a stage whose code has temporaries below its number
abbrev pub HasTempsBelow : BetweenRounds → Type 0
HasTempsBelow s = IsTrue (list_all (has_temps_below s.temps) s.list)

pub are_nodes : (rule : Rule) (originals : ℕ) (s : BetweenRounds) (graph : Interference) → IsInterference s.list s.temps graph →
    HasTempsBelow s → AreNodes (problem_of rule originals s graph)
are_nodes rule originals s graph exact h =
    subst (λ n. All (λ m. (m.to < n) × (m.from < n)) (problem_of rule originals s graph).moves) (sym exact.nodes)
    (moves_below s.temps s.list h)

-- One round.

-- two graphs of a code have the same nodes and pairs, so one is colourable where the other is
colourable_alike : (list : List Instr) (temps : ℕ) (graph other : Interference) → IsInterference list temps graph →
    IsInterference list temps other → IsColourable graph → IsColourable other
colourable_alike list temps graph other exact exact' h =
    subst (λ n. IsGreedilyColourable n (graph_of other).pairs (λ x. nat_lt x n)) (exact.nodes ∙ sym exact'.nodes)
    (part graph.nodes (graph_of graph).pairs (graph_of other).pairs (λ x. nat_lt x graph.nodes) (λ x. nat_lt x graph.nodes) h
    (λ x l t. t) (λ x y lx ly tx ty p. (exact.pairs x y).1 ((exact'.pairs x y).0 p)))

-- some rounds are one, after which the code is as before
record IsOne (s t : BetweenRounds) (all : List Round) : Type 0 where
  pub round : Round
  pub rounds : all ≡ round ∷ []
  pub nothing_spilled : SpillsNothing round
  pub end : t ≡ s

module _ (rule : Rule) (originals : ℕ) where
  one_round : {s t : BetweenRounds} {rounds : List Round} → AreRounds rule originals s rounds t →
      ((round : Round) → IsRoundOf rule originals s round → SpillsNothing round) → IsOne s t rounds
  one_round (last s round r e) f = record { round = round; rounds = refl; nothing_spilled = f round r; end = refl }
  one_round (more s t round rounds r ne rest) f =
      absurd (ne (ap (slotted_of originals) (f round r).spilled))
    where
      slotted_of : ℕ → List ℕ → List ℕ
      slotted_of n spilled = filter (λ x. nat_lt x (25 + n)) spilled

pub colourable_needs_one_round : ColourableNeedsOneRound
colourable_needs_one_round rule code frame a graph exact colourable h =
    record {
      round = one.round;
      rounds = one.rounds;
      nothing_spilled = one.nothing_spilled;
      coloured = coloured;
      slots = let e = (h.coloured coloured).slots in let k = ap (λ (s : BetweenRounds). s.slots) one.end in omega arith;
    }
  where
    spills_nothing : (round : Round) → IsRoundOf rule code.temps (stage_of code frame.slots) round → SpillsNothing round
    spills_nothing round r =
        colourable_never_spills (problem_of rule code.temps (stage_of code frame.slots) r.graph) round (is_graph r.graph)
        (are_nodes rule code.temps (stage_of code frame.slots) r.graph r.exact code.temps_below)
        (colourable_alike code.list code.temps graph r.graph exact r.exact colourable) r.run

    one : IsOne (stage_of code frame.slots) h.end a.rounds
    one = one_round rule code.temps h.rounds spills_nothing

    none_spilled : (last_round a.rounds).spilled ≡ []
    none_spilled = ap (λ rounds. (last_round rounds).spilled) one.rounds ∙ one.nothing_spilled.spilled

    coloured : IsFalse a.all_in_frame
    coloured = by a.all_in_frame refl
      where
        by : (all : Bool) → a.all_in_frame ≡ all → IsFalse all
        by false e = refl
        by true e = absurd ((h.in_frame e).something_spilled none_spilled)
