use Rattle.std.proofs.Common.{◌≡◌, ℕ, [], drop}
use Rattle.tg_variables.specs.Users.{users_from}
use Rattle.tg_variables.specs.glue.Known.{users_at}
use Rattle.tg_variables.proofs.users.user_table.Given as goal

abbrev pub invariant-loop-one : goal.invariant-loop-one
invariant-loop-one l =
    (at : ℕ) → users_from l.notes l.homes at l.texts [] ≡ users_from l.notes l.homes at (drop l.one-index l.texts) (users_at l.users at)
