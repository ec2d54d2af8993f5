-- Lines of explanations.
use Rattle.std.proofs.Common.{◌≡◌, [], ◌∷◌, ◌++◌, None, refl}
use Rattle.std.specs.Prelude.{codes, replicate}
use Rattle.tg_syntax.specs.declared.faults.LexRule.TheVariants.{L1, L4, L5}
use Rattle.tg_syntax.specs.declared.tokens.Word.TheVariants.{WThen}
use Rattle.tg_syntax.specs.declared.tokens.Sign.TheVariants.{Plus, Semicolon}
use Rattle.tg_parser.specs.declared.faults.SyntaxRule.TheVariants.{S1}
use Rattle.tg_explain.specs.declared.kinds.TokenKind.TheVariants.{Word, Sign}
use Rattle.tg_explain.specs.Lines.{cut, syntax_lines}
use Rattle.tg_explain.specs.Lexical.{lexical_lines}

-- a line is cut behind a whole word
cut_behind_a_word : cut (replicate 399 97 ++ codes " bb") ≡ replicate 399 97 ++ codes " .."
cut_behind_a_word = refl

stays_whole : cut (replicate 397 97 ++ codes " bb") ≡ replicate 397 97 ++ codes " bb"
stays_whole = refl

unexpected : syntax_lines (codes "if a ;") S1 (record { found = Sign Semicolon; expected = Word WThen ∷ Sign Plus ∷ []; opening = None })
    ≡ codes "tiger:   found ';'\ntiger:   expected one of 'then' '+'\n"
unexpected = refl

illegal_byte : lexical_lines (codes "a @ b") L1 2 ≡ codes "tiger:   found '@'\n"
illegal_byte = refl

unknown_escape : lexical_lines (codes "\"\\q\"") L4 1 ≡ codes "tiger:   found '\\q'\n"
unknown_escape = refl

large_number : lexical_lines (codes "\"\\2567\"") L4 1 ≡ codes "tiger:   found '\\256'\n"
large_number = refl

large_int : lexical_lines (codes "2147483648+1") L5 0 ≡ codes "tiger:   found 2147483648\ntiger:   expected at most 2147483647\n"
large_int = refl
