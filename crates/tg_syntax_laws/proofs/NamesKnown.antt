-- The names of a tree are those of its tokens.
use Rattle.std.proofs.Common.{ℕ, ◌+◌, ◌<◌, List, length, subst}
use Rattle.tg_syntax.specs.declared.tokens.Token.{Token}
use Rattle.tg_syntax.specs.declared.tokens.Token.TheVariants as token
use Rattle.tg_syntax.specs.declared.tokens.Spanned.{Spanned}
use Rattle.tg_syntax.specs.Tree.{Exp}
use Rattle.tg_syntax.specs.Spellings.{Spells}
use Rattle.tg_syntax.specs.Lexing.{Lexes, ends, blank, comment, token as one_token, spanned}
use Rattle.tg_syntax.specs.Grammar.{IsProgram}
use Rattle.tg_syntax.specs.NamesWithin.{NameIsWithin, AnyByte, NamesWithin}
use Rattle.tg_syntax_laws.proofs.ThroughProgram.{Gives, AllGive, through_program}
use Rattle.std.proofs.lemmas.Option.{slice_get_within}

abbrev Names : (n : ℕ) → Token → Type 0
Names n (token.Ident x) = x.0 < n
Names n _ = Unit {0}

names_give : (n : ℕ) (t : Spanned) → Names n t.token → Gives (NameIsWithin n) AnyByte t
names_give n t h = ((λ x i. subst (Names n) i.name h), tt)

-- a list of names has what an identifier names
spelled : (names : List (List ℕ)) (bytes : List ℕ) (one : Token) → Spells names bytes one → Names (length names) one
spelled names bytes (token.Word w) h = tt
spelled names bytes (token.Sign s) h = tt
spelled names bytes (token.Ident n) h = slice_get_within names n.0 bytes h.2
spelled names bytes (token.Int n) h = tt
spelled names bytes (token.Text t) h = tt
spelled names bytes token.End h = tt

known : {names : List (List ℕ)} {at : ℕ} {text : List ℕ} {tokens : List Spanned} → Lexes names at text tokens → AllGive (NameIsWithin (length names)) AnyByte tokens
known {names} (ends at) = (names_give (length names) (spanned token.End at at) tt, tt)
known (blank b h r) = known r
known (comment inside c r) = known r
known {names} {at} (one_token bytes one s long not_comment r) =
    (names_give (length names) (spanned one at (at + length bytes)) (spelled names bytes one s), known r)

pub all_named : (names : List (List ℕ)) (text : List ℕ) (tokens : List Spanned) (body : Exp) → Lexes names 0 text tokens →
    IsProgram tokens body → NamesWithin (length names) body
all_named names text tokens body l p = through_program (NameIsWithin (length names)) AnyByte p (known l)
