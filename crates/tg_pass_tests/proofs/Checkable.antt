-- A tree that was read from a text is one that the checker may be called on.
use Rattle.std.proofs.Common.{ℕ, List, []}
use Rattle.tg_syntax.specs.declared.tokens.Spanned.{Spanned}
use Rattle.tg_syntax.specs.Tree.{Exp}
use Rattle.tg_syntax.specs.Lexing.{Lexes}
use Rattle.tg_syntax.specs.Grammar.{IsProgram}
use Rattle.tg_syntax.specs.Beginnings.{beginnings}
use Rattle.tg_syntax_laws.proofs.NamesKnown.{all_named}
use Rattle.tg_syntax_laws.proofs.Standing.{tokens_stand}
use Rattle.tg_syntax_laws.proofs.Orders.{apart}
use Rattle.tg_syntax_laws.proofs.Begun.{in_order}
use Rattle.tg_pass_tests.specs.glue.Texts.{IsCheckable}

pub checkable : {names : List (List ℕ)} {text : List ℕ} {tokens : List Spanned} (body : Exp) → Lexes names 0 text tokens →
    IsProgram tokens body → IsCheckable names body
checkable {names = names} {text = text} {tokens = tokens} body lexed parsed = record {
  named = all_named names text tokens body lexed parsed;
  apart = apart (beginnings body []) (in_order tokens body (tokens_stand lexed) parsed);
}
