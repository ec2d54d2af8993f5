-- A law of uses.
use Rattle.std.specs.Prelude.{◌≡◌, ℕ, List, [], ◌++◌}
use Rattle.tg_syntax.specs.Tree.{Exp}
use Rattle.tg_escape.specs.Uses.{Seen, Use, uses}

-- the uses of a text don't depend on those that come after it, and stand before them: so what a
-- part of a program shows, the whole shows
abbrev pub UsesJoin : Type 0
UsesJoin =
    (e : Exp) (within : List ℕ) (seen : Seen) (after : List Use) →
    uses e within seen after ≡ uses e within seen [] ++ after
