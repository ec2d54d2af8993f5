-- What is known of a tree that was read from a text.
use Rattle.std.specs.Prelude.{ℕ, List, length}
use Rattle.tg_syntax.specs.Tree.{Exp}
use Rattle.tg_syntax.specs.NamesWithin.{NamesWithin}
use Rattle.tg_syntax.specs.Beginnings.{BeginsApart}

-- what the checker asks of a tree
pub record IsCheckable (names : List (List ℕ)) (body : Exp) : Type 0 where
  pub named : NamesWithin (length names) body
  pub apart : BeginsApart body
