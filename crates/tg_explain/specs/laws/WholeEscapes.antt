-- A bad escape is told whole: all that was read of it, and the byte with which it can't go on.
use Rattle.std.specs.Prelude.{ℕ, ◌≡◌, List, [], ◌∷◌, ◌++◌}
use Rattle.tg_syntax.specs.LexicalFaults.{Misfits}
use Rattle.tg_explain.specs.Lexical.{bad_escape}

abbrev pub TellsWholeEscapes : Type 0
TellsWholeEscapes =
    (begun : List ℕ) (b : ℕ) (rest : List ℕ) → Misfits begun b →
    bad_escape (92 ∷ begun ++ b ∷ rest) ≡ 92 ∷ begun ++ b ∷ []
