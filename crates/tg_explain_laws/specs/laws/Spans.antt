-- The spans of a text's tree nest, and each expression's span covers the names in it.
use Rattle.std.specs.Prelude.{ℕ, ◌≡◌, List, true}
use Rattle.tg_base.specs.declared.ids.Span.{Span}
use Rattle.tg_syntax.specs.declared.tokens.Spanned.{Spanned}
use Rattle.tg_syntax.specs.declared.tokens.Ident.{Ident}
use Rattle.tg_syntax.specs.Tree.{Exp}
use Rattle.tg_syntax.specs.Spans.{span_of}
use Rattle.tg_syntax.specs.Lexing.{Lexes}
use Rattle.tg_syntax.specs.Grammar.{IsProgram}
use Rattle.tg_syntax.specs.Throughout.{Throughout}
use Rattle.tg_syntax.specs.NamesWithin.{AnyByte}
use Rattle.tg_explain_typing.specs.Lookups.{covers}
use Rattle.tg_explain_laws.specs.Nested.{Nests}

abbrev pub SpansNest : Type 0
SpansNest =
    (names : List (List ℕ)) (text : List ℕ) (tokens : List Spanned) (program : Exp) →
    Lexes names 0 text tokens → IsProgram tokens program → Nests program

-- what is declared for a span is seen by a name that stands there
abbrev pub IsCovered : Span → Ident → Type 0
IsCovered s x = covers s x.span.from ≡ true

-- whatever is declared for an expression is seen by all names in it, however deep they stand
abbrev pub NamesAreCovered : Type 0
NamesAreCovered = (e : Exp) → Nests e → Throughout (IsCovered (span_of e)) AnyByte e
