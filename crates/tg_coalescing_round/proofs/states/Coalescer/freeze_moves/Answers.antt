use Rattle.std.proofs.Common.{◌≡◌, ◌<◌, length, get_or, sym, ap, ◌∙◌, arith}
use Rattle.std.proofs.lemmas.Bool.{cond-false, cond-true}
use Rattle.tg_irc_definition.specs.declared.moves.MoveState.TheVariants.{Frozen}
use Rattle.tg_coalescing_round.specs.glue.Lists.{list_at}
use Rattle.tg_coalescing_round.specs.glue.Tables.{is_unsettled}
use Rattle.tg_coalescing_round.specs.glue.Works.{Work, settled}
use Rattle.tg_coalescing_round.specs.mirror.Steps.{freeze_one, given_up}
use Rattle.tg_coalescing_round.proofs.Ends.{CanSettle, from_counted, to_counted}
use Rattle.tg_coalescing_round.proofs.Folds.{fold_end, fold_next}
use Rattle.tg_coalescing_round.proofs.GivingUp.{listed, moves_there, place_there, same_size, settles_there}
use Rattle.tg_coalescing_round.proofs.states.Coalescer.freeze_moves.Goals as goal
use Rattle.tg_coalescing_round.proofs.states.Coalescer.freeze_moves.Goals.{After-is_unsettled, After-touching, else-is_unsettled, then-is_unsettled}

pub touching-requires : goal.touching-requires
touching-requires c =
    let w = c.args.self.now in
    let same : length c.self-in-loop-place.inside.moves.touching ≡ length w.moves.touching =
    ap (λ (u : Work). length u.moves.touching) c.self-in-loop-place.view_is
    ∙ same_size c.args.class w c.loop-place.place c.loop-place.self c.loop-place.invariant in
    omega (arith, same, c.requires.orderly.sized.touching, c.requires.class)

read_within : (c : After-touching) → c.loop-place.place < length c.touching.result.now
read_within c =
    place_there c.args.class c.args.self.now c.loop-place.place c.loop-place.self c.loop-place.invariant _ _ _ _
    c.self-in-loop-place.view_is c.touching.ensures.value c.self.view_is c.touching-place-end.ensures.value
    c.loop-place-test.true

told : (c : After-is_unsettled) →
    c.is_unsettled.result ≡ is_unsettled c.loop-place.self.moves (get_or c.touching.result.now c.loop-place.place 0)
told c =
    c.is_unsettled.ensures
    ∙ ap (λ (u : Work). is_unsettled u.moves (get_or c.touching.result.now c.loop-place.place 0)) c.self-in-loop-place.view_is

settles : (c : After-is_unsettled) → CanSettle c.loop-place.self
settles c =
    settles_there c.args.class c.args.self.now c.loop-place.place c.loop-place.self c.loop-place.invariant c.requires.orderly

pub bounds-touching-place : goal.bounds-touching-place
bounds-touching-place c = read_within (goal.at.bounds-touching-place c).After-touching

pub is_unsettled-requires : goal.is_unsettled-requires
is_unsettled-requires c =
    c.touching.ensures.within c.loop-place.place 0 (read_within (goal.at.is_unsettled-requires c).After-touching)

pub settle-requires-clause-index : goal.settle-requires-clause-index
settle-requires-clause-index c =
    let below = c.touching.ensures.within c.loop-place.place 0
    (read_within (goal.at.settle-requires-clause-index c).After-touching) in
    omega (arith, below, ap (λ (u : Work). length u.moves.moves) c.self-in-loop-place.view_is)

pub settle-requires-clause-to_counted : goal.settle-requires-clause-to_counted
settle-requires-clause-to_counted c =
    let then = (goal.at.settle-requires-clause-to_counted c).After-is_unsettled in
    to_counted c.loop-place.self _ (settles then) (settle-requires-clause-index c) (sym (told then) ∙ c.if-is_unsettled.true)

pub settle-requires-clause-from_counted : goal.settle-requires-clause-from_counted
settle-requires-clause-from_counted c =
    let then = (goal.at.settle-requires-clause-from_counted c).After-is_unsettled in
    from_counted c.loop-place.self _ (settles then) (settle-requires-clause-index c) (sym (told then) ∙ c.if-is_unsettled.true)

pub loop-place-preserved : goal.loop-place-preserved
loop-place-preserved c =
    let x = c.args.class in
    let w = c.args.self.now in
    let v = c.loop-place.self in
    let k = c.loop-place.place in
    let i = get_or c.touching.result.now k 0 in
    let all : c.touching-place-end.result.now ≡ listed x w =
    c.touching-place-end.ensures.value ∙ ap (λ (u : Work). list_at u.moves.touching x) c.self.view_is in
    let here : c.touching.result.now ≡ listed x w =
    moves_there x w k v c.loop-place.invariant _ _ c.self-in-loop-place.view_is c.touching.ensures.value in
    let said = told (goal.at.loop-place-preserved c).After-is_unsettled in
    let step : c.if-is_unsettled.self ≡ freeze_one v i = elim c.if-is_unsettled.branch [
      | then-is_unsettled b ↦
          b.self-is ∙ (b.settle.ensures ∙ sym (cond-true (is_unsettled v.moves i) (settled i Frozen v) v (sym said
          ∙ b.if-is_unsettled.true)))
      | else-is_unsettled b ↦
          b.self-is ∙ sym (cond-false (is_unsettled v.moves i) (settled i Frozen v) v (sym said ∙ b.if-is_unsettled.false))
    ] in
    fold_next freeze_one w (listed x w) k 0 v c.if-is_unsettled.self i
    (omega (arith, ap length all, c.loop-place-test.true)) (ap (λ is. get_or is k 0) here) c.loop-place.invariant step

pub returns : goal.returns
unfolding given_up
returns c =
    let x = c.args.class in
    let w = c.args.self.now in
    let all : c.touching-place-end.result.now ≡ listed x w =
    c.touching-place-end.ensures.value ∙ ap (λ (u : Work). list_at u.moves.touching x) c.self.view_is in
    fold_end freeze_one w (listed x w) c.loop-place.place c.loop-place.self
    (omega (arith, ap length all, c.loop-place-test.false)) c.loop-place.invariant
