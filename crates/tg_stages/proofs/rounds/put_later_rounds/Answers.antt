use Rattle.std.proofs.Common.{ℕ, ◌≡◌, ◌+◌, ◌<◌, ◌≤◌, Option, None, length, sym, ◌∙◌, ap, subst, refl, arith, rules}
use Rattle.std.proofs.lemmas.Grind.{common_steps}
use Rattle.std.proofs.lemmas.List.{length-replicate}
use Rattle.tg_regalloc.specs.Rounds.{BetweenRounds, stage_of}
use Rattle.tg_stages.specs.glue.Allocating.{HasRounds}
use Rattle.tg_stages.proofs.LaterRounds.{of_temps, round_here, rounds_then, begins, goes_to_next, ends}
use Rattle.tg_stages.proofs.rounds.put_later_rounds.Goals as goal

pub loop-at-init : goal.loop-at-init
loop-at-init c =
    let code = c.args.code.now in
    let next = c.in_ok-progress.progress in
    let e = c.in_ok-progress.ensures in
    let list = e.list in
    let temps = e.temps in
    let slots = e.slots in
    let same : stage_of next.code next.slots ≡ stage_of code c.args.slots = λ i. record { list = list i; temps = temps i; slots = slots i } in
    let P : BetweenRounds → Type 0 = λ s. HasRounds code.temps s c.args.rounds.now in
    record {
      left = subst P (sym same) c.requires.rounds;
      size = ap length e.locations ∙ length-replicate {A = Option ℕ} code.temps None;
      originals = omega (arith, e.temps);
      told = begins code.temps c.args.names.now (stage_of code c.args.slots) c.args.rounds.now c.args.text.now.items (stage_of next.code next.slots)
          c.args.text.now.items refl same;
    }

pub spill-requires : goal.spill-requires
spill-requires c =
    let so_far = c.loop-at.invariant in
    let by = c.loop-at.progress in
    let originals = c.args.code.now.temps in
    let round = c.index-rounds-at.result in
    let inside : c.loop-at.at + 1 < length c.args.rounds.now = grind (arith, common_steps, c.loop-at-test.true, c.saturating_sub-at-end.ensures) in
    record {
      originals = so_far.originals;
      size = so_far.size;
      nodes = of_temps so_far.left.rule originals by.slots by.code round c.rounds_are_of_nodes.ensures
          (round_here originals c.args.rounds.now c.loop-at.at round inside c.index-rounds-at.is so_far.left.rule (stage_of by.code by.slots)
          so_far.left.end so_far.left.are_rounds);
    }

pub loop-at-preserved : goal.loop-at-preserved
loop-at-preserved c =
    let so_far = c.loop-at.invariant in
    let by = c.loop-at.progress in
    let code = c.args.code.now in
    let all = c.args.rounds.now in
    let at = c.loop-at.at in
    let round = c.index-rounds-at.result in
    let next = c.in_ok-progress-2.progress in
    let e = c.in_ok-progress-2.ensures in
    let now : BetweenRounds = stage_of by.code by.slots in
    let then : BetweenRounds = stage_of next.code next.slots in
    let inside : at + 1 < length all = grind (arith, common_steps, c.loop-at-test.true, c.saturating_sub-at-end.ensures) in
    let told = c.in_ok-put_code_of_round.ensures in
    record {
      left = rounds_then code.temps all at round inside c.index-rounds-at.is now then e.stage so_far.left;
      size = e.size;
      originals = e.originals;
      told = goes_to_next code.temps c.args.names.now (stage_of code c.args.slots) all c.args.text.now.items at round inside c.index-rounds-at.is now then
          c.loop-at.text.items c.put_code_of_round.new.text.items e.stage so_far.told (record {
            told = told.told;
            is_behind = told.is_behind;
            holds = record { graph = told.holds.graph; interferes = told.holds.interferes; text_is = told.holds.text_is };
          });
    }

pub returns : goal.returns
returns c =
    let so_far = c.loop-at.invariant in
    let by = c.loop-at.progress in
    let code = c.args.code.now in
    let few : length c.args.rounds.now ≤ c.loop-at.at + 1 = grind (arith, common_steps, c.loop-at-test.false, c.saturating_sub-at-end.ensures) in
    ends code.temps c.args.names.now (stage_of code c.args.slots) c.args.rounds.now c.args.text.now.items c.loop-at.at (stage_of by.code by.slots)
    c.loop-at.text.items few so_far.told so_far.left
