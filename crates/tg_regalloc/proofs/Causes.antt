-- Why the moves of the last code of an allocation stay.
use Rattle.std.proofs.Common.{ℕ, ◌≡◌, List, [], ◌∷◌, refl, sym, subst}
use Rattle.tg_irc_definition.specs.declared.rounds.Round.{Round}
use Rattle.tg_irc_definition.specs.Policies.{Rule}
use Rattle.tg_irc_definition.proofs.Explaining.{moves_are_explained}
use Rattle.tg_regalloc.specs.Rewriting.{slotted}
use Rattle.tg_regalloc.specs.Rounds.{BetweenRounds, IsRoundOf, AreRounds, slots_by, last_round}
use Rattle.tg_regalloc.specs.Rounds.AreRounds.{last, more}
use Rattle.tg_regalloc.specs.laws.Explained.{problem_of, MovesOfAllocationsStayForACause}
use Rattle.tg_regalloc.proofs.RewrittenBelow.{temps_below}
use Rattle.tg_regalloc.proofs.OneRound.{HasTempsBelow, are_nodes}

module _ (rule : Rule) (originals : ℕ) where
  pub same_last : {s t : BetweenRounds} {rounds : List Round} → AreRounds rule originals s rounds t → (round : Round) →
      last_round (round ∷ rounds) ≡ last_round rounds
  same_last (last s round r e) first = refl
  same_last (more s t round rounds r ne rest) first = refl

  -- the last round is on the last code
  pub record Ends (t : BetweenRounds) (round : Round) : Type 0 where
    pub below : HasTempsBelow t
    pub is_round : IsRoundOf rule originals t round
    pub nothing_slotted : slotted originals round ≡ []

  pub ends : {s t : BetweenRounds} {rounds : List Round} → AreRounds rule originals s rounds t → HasTempsBelow s →
      Ends t (last_round rounds)
  ends (last s round r e) h = record { below = h; is_round = r; nothing_slotted = e }
  ends (more s t round rounds r ne rest) h =
      subst (Ends t) (sym (same_last rest round))
      (ends rest (temps_below (slots_by originals s round) s.list s.temps h))

pub moves_stay_for_a_cause : MovesOfAllocationsStayForACause
moves_stay_for_a_cause rule code frame a h =
    let e = ends rule code.temps h.rounds code.temps_below in
    let r = e.is_round in
    record {
      graph = r.graph;
      exact = r.exact;
      cause = moves_are_explained (problem_of rule code.temps h.end r.graph) (last_round a.rounds)
          (are_nodes rule code.temps h.end r.graph r.exact e.below) r.run;
    }
