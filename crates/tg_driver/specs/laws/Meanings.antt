-- That no source is stuck.
use Rattle.std.specs.Prelude.{ℕ, ◌≢◌, List}
use Rattle.tg_syntax.specs.declared.tokens.Spanned.{Spanned}
use Rattle.tg_syntax.specs.Tree.{Exp}
use Rattle.tg_simulation.specs.Outcomes.{stuck}
use Rattle.tg_semantics.specs.Direct.{evaluate}
use Rattle.tg_correctness.specs.Sources.{IsSourceOf}

-- whatever its input, its sizes and its fuel, a text that is a program meets no value of the wrong
-- kind and no name without meaning
abbrev pub SourcesAreNeverStuck : Type 0
SourcesAreNeverStuck =
    (text : List ℕ) (names : List (List ℕ)) (tokens : List Spanned) (program : Exp) →
    IsSourceOf text names tokens program →
    (input : List ℕ) (heap stack fuel : ℕ) →
    (evaluate names program input heap stack fuel).end ≢ stuck
