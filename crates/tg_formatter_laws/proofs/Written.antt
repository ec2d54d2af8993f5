-- What is written is read again.
use Rattle.std.proofs.Common.{ℕ, zero, suc, ◌+◌, ◌≡◌, List, [], ◌∷◌, ◌++◌, length, Bool, true, false, Some, None, refl, sym, ap, subst, ◌∙◌, inl, inr, arith}
use Rattle.std.specs.Prelude.{Option, ◌||◌, ◌&&◌, not, if◌then◌else◌}
use Rattle.tg_syntax.specs.declared.tokens.Token.{Token}
use Rattle.tg_syntax.specs.declared.tokens.Token.TheVariants.{Word, Sign, Ident, Int, Text, End}
use Rattle.tg_syntax.specs.declared.tokens.Spanned.{Spanned}
use Rattle.tg_syntax.specs.Spellings.{AllAre, is_white_space}
use Rattle.tg_syntax.specs.Lexing.{Lexes, ends, blank, token, spanned}
use Rattle.tg_lexer.proofs.Onces.{lexes_once}
use Rattle.tg_formatter.specs.Canonical.{canonical, tokens_of, text_behind, at_start, behind_one, space_before, gap_behind, line, indentation, spelling, Behind}
use Rattle.tg_formatter.specs.Canonical.{is_minus, is_unary_minus, ends_operand, begins_line, ends_line, are_close, depth_after}
use Rattle.tg_formatter.specs.Writable.{HasSpelling, AreWritable}
use Rattle.tg_formatter_laws.specs.laws.Laws.{ReadsAgain, SameTokens, FormattingAgain}
use Rattle.tg_formatter_laws.proofs.Following.{and_left, MayFollow, behind_stands, spelled, longest, no_comment}

-- blanks mean nothing
blanks_then : {names : List (List ℕ)} (at : ℕ) (bytes : List ℕ) {rest : List ℕ} {tokens : List Spanned} → AllAre is_white_space bytes →
    Lexes names (at + length bytes) rest tokens → Lexes names at (bytes ++ rest) tokens
blanks_then {names} at [] {rest} {tokens} h l = let e : at + 0 ≡ at = omega arith in subst (λ n. Lexes names n rest tokens) e l
blanks_then {names} at (b ∷ bytes) {rest} {tokens} h l =
    let e : at + length (b ∷ bytes) ≡ at + 1 + length bytes = omega arith in
    blank b h.0 (blanks_then (at + 1) bytes h.1 (subst (λ n. Lexes names n rest tokens) e l))

indentation_blank : (depth : ℕ) → AllAre is_white_space (indentation depth)
indentation_blank zero = tt
indentation_blank (suc depth) = (refl, (refl, indentation_blank depth))

between_blank : (depth : ℕ) (p q : Bool) → AllAre is_white_space (if p then 10 ∷ indentation depth else if q then [] else 32 ∷ [])
between_blank depth true q = (refl, indentation_blank depth)
between_blank depth false true = tt
between_blank depth false false = (refl, tt)

gap_blank : (before : Option Token) (is_unary : Bool) (depth : ℕ) (one : Token) → AllAre is_white_space (gap_behind before is_unary depth one)
gap_blank None u d one = tt
gap_blank (Some a) u d (Word w) = between_blank _ (begins_line (Word w) || ends_line a) (are_close a u (Word w))
gap_blank (Some a) u d (Sign s) = between_blank _ (begins_line (Sign s) || ends_line a) (are_close a u (Sign s))
gap_blank (Some a) u d (Ident n) = between_blank _ (begins_line (Ident n) || ends_line a) (are_close a u (Ident n))
gap_blank (Some a) u d (Int n) = between_blank _ (begins_line (Int n) || ends_line a) (are_close a u (Int n))
gap_blank (Some a) u d (Text bytes) = between_blank _ (begins_line (Text bytes) || ends_line a) (are_close a u (Text bytes))
gap_blank (Some a) u d End = (refl, tt)

unary_is_minus : (before : Option Token) (one : Token) → is_unary_minus before one ≡ true → is_minus one ≡ true
unary_is_minus None one h = h
unary_is_minus (Some a) one h = and_left (is_minus one) (not (ends_operand a)) h

next_stands : (names : List (List ℕ)) (b : Behind) (one : Token) (more : List Token) → AreWritable names more →
    MayFollow one (text_behind names (behind_one b one) more)
next_stands names b one [] h = absurd h
next_stands names b one (t ∷ more) h =
    behind_stands names one (is_unary_minus b.before one) (depth_after b.depth one) (unary_is_minus b.before one) t
    (text_behind names (behind_one (behind_one b one) t) more)

one_again : (names : List (List ℕ)) (b : Behind) (one : Token) (more : List Token) → HasSpelling names one → AreWritable names more →
    ((at : ℕ) → ReadsAgain names at (text_behind names (behind_one b one) more) more) → (at : ℕ) → ReadsAgain names at (text_behind names b (one ∷ more)) (one ∷ more)
one_again names b one more h hs again at =
    let from = at + length (space_before b one) in
    let bytes = spelling names one in
    let rest = text_behind names (behind_one b one) more in
    let next = again (from + length bytes) in
    let stands = next_stands names b one more hs in
    record {
      read = spanned one from (from + length bytes) ∷ next.read;
      lexed = blanks_then at (space_before b one) (gap_blank b.before b.is_unary b.depth one)
          (token bytes one {rest = rest} (spelled names one h) (longest names one rest h stands) (no_comment names one rest h stands) next.lexed);
      same = ap (λ ts. one ∷ ts) next.same;
    }

text_again : (names : List (List ℕ)) (b : Behind) (tokens : List Token) → AreWritable names tokens → (at : ℕ) →
    ReadsAgain names at (text_behind names b tokens) tokens
text_again names b [] h at = absurd h
text_again names b (End ∷ []) h at =
    let from = at + length (space_before b End) in
    record {
      read = spanned End from from ∷ [];
      lexed = blanks_then at (space_before b End) (gap_blank b.before b.is_unary b.depth End) (ends from);
      same = refl;
    }
text_again names b (End ∷ one ∷ tokens) h at = absurd h.0
text_again names b (Word w ∷ tokens) h at = one_again names b (Word w) tokens h.0 h.1 (text_again names (behind_one b (Word w)) tokens h.1) at
text_again names b (Sign s ∷ tokens) h at = one_again names b (Sign s) tokens h.0 h.1 (text_again names (behind_one b (Sign s)) tokens h.1) at
text_again names b (Ident n ∷ tokens) h at = one_again names b (Ident n) tokens h.0 h.1 (text_again names (behind_one b (Ident n)) tokens h.1) at
text_again names b (Int n ∷ tokens) h at = one_again names b (Int n) tokens h.0 h.1 (text_again names (behind_one b (Int n)) tokens h.1) at
text_again names b (Text bytes ∷ tokens) h at = one_again names b (Text bytes) tokens h.0 h.1 (text_again names (behind_one b (Text bytes)) tokens h.1) at

pub same_tokens : SameTokens
same_tokens names tokens h = text_again names at_start tokens h 0

pub formatting_again : FormattingAgain
formatting_again names tokens h distinct read lexed =
    let r = text_again names at_start tokens h 0 in
    ap (canonical names) (ap tokens_of (lexes_once names distinct lexed r.read r.lexed) ∙ r.same)
