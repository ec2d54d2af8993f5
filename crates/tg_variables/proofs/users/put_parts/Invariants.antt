use Rattle.std.proofs.Common.{◌≡◌, ℕ, drop}
use Rattle.tg_variables.specs.Users.{users_in}
use Rattle.tg_variables.specs.glue.Known.{users_at}
use Rattle.tg_variables.proofs.users.put_parts.Given as goal

abbrev pub invariant-loop-part : goal.invariant-loop-part
invariant-loop-part l =
    (at : ℕ) → users_in l.notes l.homes at l.level l.f l.parts (users_at l.initial.users at)
    ≡ users_in l.notes l.homes at l.level l.f (drop l.part-index l.parts) (users_at l.users at)
