use Rattle.std.proofs.Common.{◌≡◌, ◌<◌, ◌≤◌, ℕ, refl, sym, subst}
use Rattle.std.proofs.lemmas.Result.{IfOk-weaker}
use Rattle.std.proofs.lemmas.List.Elements.{All-weaker}
use Rattle.tg_graph.specs.Interference.{colours}
use Rattle.tg_irc_definition.specs.declared.rounds.Round.{Round}
use Rattle.tg_irc_definition.specs.Rounds.{IsRound}
use Rattle.tg_coalescing_round.specs.glue.Advancing.{IsGiven}
use Rattle.tg_coalescing_round.specs.glue.Standing.{IsOrderly, IsRunOf, answer_of, graph_of}
use Rattle.tg_irc_definition.specs.States.{problem}
use Rattle.tg_coalescing_round.proofs.AdvancingDone.{done_is_round}
use Rattle.tg_coalescing_round.proofs.Starting.{start_orderly}
use Rattle.tg_coalescing_round.proofs.StartingRun.{start_run}
use Rattle.tg_coalescing_round.proofs.coloring.color.Given as given
use Rattle.tg_coalescing_round.proofs.coloring.color.Goals as goal
use Rattle.tg_coalescing_round.proofs.coloring.color.Goals.{In_ok-work}

-- what the round is given
is_given : (g : given.Over) (c : In_ok-work g) → IsGiven c.args.graph c.args.moves.now c.args.facts.now
is_given g c = record {
  some = c.in_ok-work.ensures.low;
  few = c.in_ok-work.ensures.few;
  graph = c.in_ok-work.ensures.graph;
  sized = c.requires.facts;
  ends = c.requires.ends;
  few_moves = c.requires.few_moves;
  few_uses = c.requires.few_uses;
}

pub take_steps-requires : goal.take_steps-requires
take_steps-requires g c =
    subst IsOrderly (sym c.in_ok-work.ensures.value)
    (start_orderly c.args.graph c.args.moves.now c.args.facts.now (is_given g (goal.at.take_steps-requires g c).In_ok-work))

pub answer-requires-clause-below : goal.answer-requires-clause-below
answer-requires-clause-below g c =
    let w = c.take_steps.new.self in
    All-weaker (λ (x : ℕ). (colours ≤ x) × (x < w.graph.nodes)) (λ (x : ℕ). x < w.graph.nodes) (λ x p. p.1) w.stack
    c.in_ok-take_steps.ensures.orderly.placed.stack_below

pub answer-requires-clause-temporaries : goal.answer-requires-clause-temporaries
answer-requires-clause-temporaries g c =
    let w = c.take_steps.new.self in
    All-weaker (λ (x : ℕ). (colours ≤ x) × (x < w.graph.nodes)) (λ (x : ℕ). colours ≤ x) (λ x p. p.0) w.stack
    c.in_ok-take_steps.ensures.orderly.placed.stack_below

pub returns-clause-round : goal.returns-clause-round
returns-clause-round g c =
    let rule = (goal.SpillPolicy-dyn g c.args.policy.now).rule c.args.policy.now.1 in
    let p = problem (graph_of c.args.graph) c.args.moves.now c.args.facts.now rule in
    let w = c.take_steps.new.self in
    let begins : IsRunOf p c.in_ok-work.work =
    subst (IsRunOf p) (sym c.in_ok-work.ensures.value)
    (start_run c.args.graph c.args.moves.now c.args.facts.now rule (is_given g (goal.at.returns-clause-round g c).In_ok-work)) in
    let ends : IsRunOf p w = c.in_ok-take_steps.ensures.run p refl begins in
    IfOk-weaker c.answer.result (λ (round : Round). round ≡ answer_of w) (IsRound p)
    (λ round e. subst (IsRound p) (sym e)
    (done_is_round p w c.in_ok-take_steps.ensures.orderly ends c.in_ok-take_steps.ensures.done))
    c.answer.ensures
