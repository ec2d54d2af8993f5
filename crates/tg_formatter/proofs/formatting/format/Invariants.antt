use Rattle.std.proofs.Common.{◌≡◌, ◌≤◌, ◌++◌, drop}
use Rattle.tg_formatter.specs.declared.gaps.Behind.{Behind}
use Rattle.tg_formatter.specs.Canonical.{canonical, text_behind, tokens_of}
use Rattle.tg_formatter.specs.glue.Reached.{behind_of, AreNamed}
use Rattle.tg_formatter.proofs.formatting.format.Given as goal

-- what is left is the text of the tokens that are left
abbrev pub invariant-loop-spanned : goal.invariant-loop-spanned
invariant-loop-spanned l =
    let behind : Behind = record { before = l.behind.0; is_unary = l.behind.1.0; depth = l.behind.1.1.0 } in
    record {
      text : canonical l.names (tokens_of l.tokens)
          ≡ l.text.items ++ text_behind l.names (behind_of behind) (tokens_of (drop l.spanned-index l.tokens));
      named : AreNamed l.names (tokens_of (drop l.spanned-index l.tokens));
      depth : behind.depth ≤ l.spanned-index;
    }
