use Rattle.tg_canon.specs.glue.Views.{plain_part}
use Rattle.tg_canon.proofs.Others.{other_gives}
use Rattle.tg_canon.proofs.hoisted.hold_for.Goals as goal

pub returns-in_ok-hold_unless_it_commutes-in_default : goal.returns-in_ok-hold_unless_it_commutes-in_default
returns-in_ok-hold_unless_it_commutes-in_default c = other_gives (plain_part c.args.part.now) c.args.x c.in_default.not-Binary
    c.in_ok-hold_unless_it_commutes-in_default.ensures
