use Rattle.tg_driver.proofs.FaultPlaces.{within_text}
use Rattle.tg_driver.proofs.checking.refused.Goals as goal

pub place-requires-clause-within : goal.place-requires-clause-within
place-requires-clause-within c = (within_text c.args.text.now c.in-Bad.rule c.in-Bad.at (rw c.in-Bad.is at c.requires)).within

pub place-requires-clause-small : goal.place-requires-clause-small
place-requires-clause-small c = (within_text c.args.text.now c.in-Bad.rule c.in-Bad.at (rw c.in-Bad.is at c.requires)).small

pub returns-in-Bad : goal.returns-in-Bad
returns-in-Bad c = record { at = c.in-Bad.at; has = rw c.in-Bad.is at c.requires; place = c.place.ensures }
