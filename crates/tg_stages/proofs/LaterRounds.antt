-- The rounds of an allocation behind the first are told one after another.
use Rattle.std.proofs.Common.{ℕ, ◌+◌, ◌<◌, ◌≤◌, ◌≡◌, List, [], ◌∷◌, ◌++◌, length, length-drop, get_or, drop, sym, ap, subst, ◌∙◌, append_assoc, arith}
use Rattle.std.specs.Prelude.{All}
use Rattle.std.proofs.lemmas.List.{append-nil, drop_more}
use Rattle.std.proofs.lemmas.List.Elements.{All-weaker}
use Rattle.tg_instr.specs.declared.codes.Code.{Code}
use Rattle.tg_irc_definition.specs.declared.rounds.Round.{Round}
use Rattle.tg_irc_definition.specs.Policies.{Rule}
use Rattle.tg_irc_definition.specs.States.{problem}
use Rattle.tg_irc_definition.specs.laws.Laws.{IsTemporary, RoundsAreOfNodes}
use Rattle.tg_interference.specs.Moves.{moves_of}
use Rattle.tg_interference.specs.Facts.{facts_of_nodes}
use Rattle.tg_coalescing_round.specs.glue.Standing.{graph_of}
use Rattle.tg_regalloc.specs.Rounds.{BetweenRounds, stage_of, next_stage, IsOfTemps, IsRoundOf, AreRounds}
use Rattle.tg_regalloc.specs.Rounds.AreRounds.{last, more}
use Rattle.tg_regalloc.proofs.Sizes.{AreEnds, moves_below}
use Rattle.tg_stages.specs.LaterRounds.{TellsRound, TellLater, none_later, one_later}
use Rattle.tg_stages.specs.glue.Allocating.{HasRounds}
use Rattle.tg_stages.specs.glue.Putting.{Puts}

-- what a round on a code answers of its nodes
pub of_temps : (rule : Rule) (originals slots : ℕ) (code : Code) (round : Round) → RoundsAreOfNodes →
    IsRoundOf rule originals (stage_of code slots) round → IsOfTemps code.temps round
of_temps rule originals slots code round law h =
    let p = problem (graph_of h.graph) (moves_of code.list) (facts_of_nodes code.list code.temps originals) rule in
    let e : h.graph.nodes ≡ 25 + code.temps = h.exact.nodes in
    let ends = moves_below code.temps code.list code.temps_below in
    let o = law p round (subst (λ (n : ℕ). All (AreEnds n) (moves_of code.list)) (sym e) ends) h.run in
    record {
      each_alias = o.each_alias ∙ e;
      each_colour = o.each_colour ∙ e;
      aliases = subst (λ (n : ℕ). All (λ x. x < n) round.aliases) e o.aliases;
      spilled = subst (λ (n : ℕ). All (λ x. x < n) round.spilled) e (All-weaker (IsTemporary p) (λ x. x < h.graph.nodes) (λ x t. t.1) round.spilled o.spilled);
    }

module _ (originals : ℕ) where
  -- where two rounds or more are left, the first leads to the code of the next
  abbrev GoesOn : Rule → BetweenRounds → List Round → BetweenRounds → Type 0
  GoesOn rule s [] end = Unit {0}
  GoesOn rule s (round ∷ []) end = Unit {0}
  GoesOn rule s (round ∷ next ∷ rounds) end = IsRoundOf rule originals s round × AreRounds rule originals (next_stage originals s round) (next ∷ rounds) end

  goes_on : {rule : Rule} {s t : BetweenRounds} {rounds : List Round} → AreRounds rule originals s rounds t → GoesOn rule s rounds t
  goes_on (last s round r e) = tt
  goes_on (more s t round [] r ne rest) = tt
  goes_on (more s t round (next ∷ rounds) r ne rest) = (r, rest)

  -- the rounds from a place on, of which two are left or more
  module _ (all : List Round) (at : ℕ) (round : Round) (inside : at + 1 < length all) (is : round ≡ get_or all at round) where
    abbrev behind : List Round
    behind = drop (at + 1 + 1) all

    next_left : drop (at + 1) all ≡ get_or all (at + 1) round ∷ behind
    next_left = drop_more all (at + 1) round inside

    both_left : drop at all ≡ round ∷ get_or all (at + 1) round ∷ behind
    both_left =
        drop_more all at round (omega (arith, inside)) ∙ ap (λ r. r ∷ drop (at + 1) all) (sym is) ∙ ap (λ xs. round ∷ xs) next_left

    pub round_here : (rule : Rule) (s end : BetweenRounds) → AreRounds rule originals s (drop at all) end → IsRoundOf rule originals s round
    round_here rule s end h = (goes_on (subst (λ rs. AreRounds rule originals s rs end) both_left h)).0

    pub rounds_then : (s next : BetweenRounds) → next ≡ next_stage originals s round → HasRounds originals s (drop at all) →
        HasRounds originals next (drop (at + 1) all)
    rounds_then s next e h =
        let two = goes_on (subst (λ rs. AreRounds h.rule originals s rs h.end) both_left h.are_rounds) in
        record {
          rule = h.rule;
          end = h.end;
          are_rounds =
              subst (λ rs. AreRounds h.rule originals next rs h.end) (sym next_left)
              (subst (λ t. AreRounds h.rule originals t (get_or all (at + 1) round ∷ behind) h.end) (sym e) two.1);
        }

    -- what is told so far goes on with the text of the next round
    told_then : (names : List (List ℕ)) (s next : BetweenRounds) (text rest : List ℕ) → next ≡ next_stage originals s round →
        TellsRound names (at + 2) next text → TellLater names originals (at + 1 + 1) next (drop (at + 1) all) rest →
        TellLater names originals (at + 1) s (drop at all) (text ++ rest)
    told_then names s next text rest e here later =
        let number : at + 2 ≡ at + 1 + 1 = omega arith in
        let there = subst (λ n. TellsRound names n next text) number here in
        subst (λ rs. TellLater names originals (at + 1) s rs (text ++ rest)) (sym both_left)
        (one_later (at + 1) s round (get_or all (at + 1) round) behind text rest (subst (λ t. TellsRound names (at + 1 + 1) t text) e there)
        (subst (λ t. TellLater names originals (at + 1 + 1) t (get_or all (at + 1) round ∷ behind) rest) e
        (subst (λ rs. TellLater names originals (at + 1 + 1) next rs rest) next_left later)))

  none_behind : (names : List (List ℕ)) (n : ℕ) {rule : Rule} {s t : BetweenRounds} {rounds : List Round} → AreRounds rule originals s rounds t →
      length rounds ≤ 1 → TellLater names originals n s rounds []
  none_behind names n (last s round r e) h = none_later n s round
  none_behind names n (more s t round [] r ne rest) h = none_later n s round
  none_behind names n (more s t round (next ∷ rounds) r ne rest) h = absurd (omega arith)

  -- What is told of the rounds before a place goes on to the text of all, by that of those from the place on.
  module _ (names : List (List ℕ)) (first : BetweenRounds) (all : List Round) (before : List ℕ) where
    pub record ToldTo (at : ℕ) (s : BetweenRounds) (text : List ℕ) : Type 0 where
      pub told : List ℕ
      pub is_behind : text ≡ before ++ told
      pub whole : (rest : List ℕ) → TellLater names originals (at + 1) s (drop at all) rest → TellLater names originals 1 first all (told ++ rest)

    pub begins : (s : BetweenRounds) (text : List ℕ) → text ≡ before → s ≡ first → ToldTo 0 s text
    begins s text e same = record {
      told = [];
      is_behind = e ∙ sym (append-nil before);
      whole = λ rest h. subst (λ t. TellLater names originals 1 t all rest) same h;
    }

    pub goes_to_next : (at : ℕ) (round : Round) → at + 1 < length all → round ≡ get_or all at round → (s next : BetweenRounds) (text then : List ℕ) →
        next ≡ next_stage originals s round → ToldTo at s text → Puts text then (TellsRound names (at + 2) next) → ToldTo (at + 1) next then
    goes_to_next at round inside is s next text then e so_far puts = record {
      told = so_far.told ++ puts.told;
      is_behind = puts.is_behind ∙ ap (λ t. t ++ puts.told) so_far.is_behind ∙ append_assoc before so_far.told puts.told;
      whole = λ rest h.
          subst (λ t. TellLater names originals 1 first all t) (sym (append_assoc so_far.told puts.told rest))
          (so_far.whole (puts.told ++ rest) (told_then all at round inside is names s next puts.told rest e puts.holds h));
    }

    pub ends : (at : ℕ) (s : BetweenRounds) (text : List ℕ) → length all ≤ at + 1 → ToldTo at s text → HasRounds originals s (drop at all) →
        Puts before text (TellLater names originals 1 first all)
    ends at s text few so_far h =
        let left : length (drop at all) ≤ 1 = omega (arith, few, length-drop at all) in
        record {
          told = so_far.told;
          is_behind = so_far.is_behind;
          holds =
              subst (λ t. TellLater names originals 1 first all t) (append-nil so_far.told) (so_far.whole [] (none_behind names (at + 1) h.are_rounds left));
        }
