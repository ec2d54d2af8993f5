use Rattle.tg_driver.proofs.CanonicalTexts.{refused_untyped}
use Rattle.tg_driver.proofs.formatting.refused_untyped.Goals as goal

pub returns-in_default : goal.returns-in_default
returns-in_default c = refused_untyped _ _ _ c.requires c.in_default.not-Memory c.refused.ensures
