-- Where the code's list of functions begins.
use Rattle.std.specs.Prelude.{ℕ, List, [], ◌∷◌}
use Rattle.tg_syntax.specs.declared.trees.FunDec.{FunDec}

abbrev pub first_start : List FunDec → ℕ
first_start [] = 0
first_start (f ∷ fs) = f.name.span.from
