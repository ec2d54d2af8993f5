use Rattle.std.proofs.Common.{sym, ap}
use Rattle.tg_canon.specs.glue.Views.{plain_part}
use Rattle.tg_canon.proofs.Cases.{goes_as}
use Rattle.tg_canon.proofs.Steps.{same}
use Rattle.tg_canon.proofs.pass.linear_body.Goals as goal

pub returns : goal.returns
returns c = same (goes_as (λ k. k) (sym c.in_ok-body.ensures.ok) c.in_ok-p.ensures) (ap plain_part c.into_inner.ensures)
