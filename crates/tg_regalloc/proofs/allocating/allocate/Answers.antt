use Rattle.std.proofs.Common.{◌≡◌, ◌≢◌, ◌+◌, [], ℕ, List, length, ap, sym, subst, ◌∙◌, arith}
use Rattle.std.proofs.lemmas.Grind.{common_steps}
use Rattle.std.proofs.lemmas.List.{nil_from_length}
use Rattle.tg_irc_definition.specs.declared.rounds.Round.{Round}
use Rattle.tg_irc_definition.specs.Policies.{Rule}
use Rattle.tg_regalloc.specs.Rewriting.{slotted}
use Rattle.tg_regalloc.specs.Rounds.{BetweenRounds, stage_of, IsRoundOf}
use Rattle.tg_regalloc.proofs.UnderWay.{Follows, IsUnderWay, again, goes_on, coloured_if, in_frame_if}
use Rattle.tg_regalloc.proofs.allocating.allocate.Goals as goal

pub returns-then-is_empty-2-clause-allocation : goal.returns-then-is_empty-2-clause-allocation
returns-then-is_empty-2-clause-allocation g c =
    let code = c.args.code.now in
    let rule : Rule = (goal.SpillPolicy-dyn g c.args.policy.now).rule c.args.policy.now.1 in
    let round = c.in_ok-round.round in
    let by = c.rounds.progress in
    let is_round : IsRoundOf rule code.temps (stage_of by.code by.slots) round =
    again _ rule code.temps by.slots by.code round c.rounds.invariant.same c.in_ok-round.ensures.round in
    let empty : length c.in_ok-classes.classes.items ≡ 0 = grind (arith, common_steps, c.is_empty.ensures, c.if-is_empty.true) in
    let none : slotted code.temps round ≡ [] = sym c.in_ok-classes.ensures ∙ nil_from_length c.in_ok-classes.classes.items empty in
    let nothing : length c.as_slice.result.now ≡ 0 = grind (arith, common_steps, c.is_empty-then-is_empty.ensures, c.if-is_empty-2.true) in
    coloured_if rule code c.args.frame
    (stage_of by.code by.slots) by.locations.items c.rounds.rounds.items round c.rounds.invariant.under_way is_round none c.finish.result
    (sym c.as_slice.ensures ∙ nil_from_length c.as_slice.result.now nothing)
    c.finish.ensures.frame c.finish.ensures.rounds c.finish.ensures.list c.finish.ensures.locations c.finish.ensures.slots c.finish.ensures.coloured

pub returns-else-is_empty-2-clause-allocation : goal.returns-else-is_empty-2-clause-allocation
returns-else-is_empty-2-clause-allocation g c =
    let code = c.args.code.now in
    let rule : Rule = (goal.SpillPolicy-dyn g c.args.policy.now).rule c.args.policy.now.1 in
    let round = c.in_ok-round.round in
    let by = c.rounds.progress in
    let is_round : IsRoundOf rule code.temps (stage_of by.code by.slots) round =
    again _ rule code.temps by.slots by.code round c.rounds.invariant.same c.in_ok-round.ensures.round in
    let empty : length c.in_ok-classes.classes.items ≡ 0 = grind (arith, common_steps, c.is_empty.ensures, c.if-is_empty.true) in
    let none : slotted code.temps round ≡ [] = sym c.in_ok-classes.ensures ∙ nil_from_length c.in_ok-classes.classes.items empty in
    let something : length c.as_slice.result.now ≢ 0 = grind (arith, common_steps, c.is_empty-then-is_empty.ensures, c.if-is_empty-2.false) in
    in_frame_if rule code c.args.frame
    (stage_of by.code by.slots) by.locations.items c.rounds.rounds.items round c.rounds.invariant.under_way is_round none c.all_in_frame.result
    (λ e. something (ap length (c.as_slice.ensures ∙ e)))
    c.all_in_frame.ensures.frame c.all_in_frame.ensures.rounds c.all_in_frame.ensures.code c.all_in_frame.ensures.locations
    c.all_in_frame.ensures.slots c.all_in_frame.ensures.all

pub rounds-preserved : goal.rounds-preserved
rounds-preserved g c =
    let code = c.args.code.now in
    let rule : Rule = (goal.SpillPolicy-dyn g c.args.policy.now).rule c.args.policy.now.1 in
    let round = c.in_ok-round.round in
    let by = c.rounds.progress in
    let next = c.in_ok-progress-2.progress in
    let now : BetweenRounds = stage_of by.code by.slots in
    let then : BetweenRounds = stage_of next.code next.slots in
    let so_far : IsUnderWay rule code c.args.frame now by.locations.items c.rounds.rounds.items = c.rounds.invariant.under_way in
    let is_round : IsRoundOf rule code.temps now round = again _ rule code.temps by.slots by.code round c.rounds.invariant.same c.in_ok-round.ensures.round in
    let some : length c.in_ok-classes.classes.items ≢ 0 = grind (arith, common_steps, c.is_empty.ensures, c.if-is_empty.false) in
    let classes : c.deref.result.now ≡ slotted code.temps round = c.deref.ensures.value ∙ c.in_ok-classes.ensures in
    let follows : Follows (length by.locations.items) round now then by.locations.items next.locations.items = record {
      list = c.in_ok-progress-2.ensures.list;
      temps = c.in_ok-progress-2.ensures.temps;
      slots = c.in_ok-progress-2.ensures.slots ∙ ap (λ (cs : List ℕ). by.slots + length cs) (classes ∙ ap (λ n. slotted n round) (sym so_far.size));
      size = c.in_ok-progress-2.ensures.size;
      stand = c.in_ok-progress-2.ensures.locations;
    } in
    record {
      under_way =
          subst (λ (rs : List Round). IsUnderWay rule code c.args.frame then next.locations.items rs) (sym c.in_ok-push.ensures.items)
          (goes_on rule code c.args.frame now by.locations.items c.rounds.rounds.items round so_far is_round then next.locations.items
          (λ e. some (ap length (c.in_ok-classes.ensures ∙ e)))
          (subst (λ n. Follows n round now then by.locations.items next.locations.items) so_far.size follows));
      same = c.in_ok-round.ensures.same ∙ c.rounds.invariant.same;
    }
