use Rattle.std.proofs.Common.{refl}
use Rattle.tg_driver.specs.declared.faults.Rule.TheVariants.{Bare}
use Rattle.tg_driver.proofs.BareAnswers.{large_within, large_small}
use Rattle.tg_driver.proofs.delaying.too_large.Goals as goal

pub place-requires-clause-within : goal.place-requires-clause-within
place-requires-clause-within c = large_within c.args.text.now c.args.at c.requires

pub place-requires-clause-small : goal.place-requires-clause-small
place-requires-clause-small c = large_small c.args.text.now c.args.at c.requires

pub returns : goal.returns
returns c =
    (record { rule = Bare; place = c.place.result }, refl, record { at = c.args.at; large = c.requires; rule = refl; place = c.place.ensures })
