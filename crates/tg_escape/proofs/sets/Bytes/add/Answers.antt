use Rattle.std.proofs.Common.{ap, ◌∙◌}
use Rattle.std.specs.FinSet.{insert}
use Rattle.tg_escape.proofs.SetSteps.{put_in}
use Rattle.tg_escape.proofs.sets.Bytes.add.Goals as goal

pub returns : goal.returns
returns c = put_in c.self.inside.bytes.keys c.insert.new.self.keys c.args.at c.in_ok-insert.ensures.updates.0 ∙ ap (λ s. insert s c.args.at) c.self.view_is
