-- What a text begins with, read by its first byte.
use Rattle.std.proofs.Common.{ℕ, zero, suc, ◌+◌, ◌≡◌, ◌≢◌, ◌≤◌, ◌<◌, List, [], ◌∷◌, ◌++◌, length, Bool, true, false, take, drop, get_or, refl, sym}
use Rattle.std.proofs.Common.{ap, subst, ◌∙◌, arith, append_assoc}
use Rattle.std.specs.Prelude.{◌==◌, ◌||◌, not}
use Rattle.std.proofs.lemmas.Bool.Decides.{nat_tests}
use Rattle.std.proofs.lemmas.Bool.{eqb-true}
use Rattle.std.proofs.lemmas.List.{take-append-drop, length-take-le, length-append, append_cancel_left}
use Rattle.tg_syntax.specs.declared.tokens.Token.TheVariants as token
use Rattle.tg_syntax.specs.declared.tokens.Sign.{Sign}
use Rattle.tg_syntax.specs.declared.tokens.Word.{Word}
use Rattle.tg_syntax.specs.declared.faults.LexRule.{LexRule}
use Rattle.tg_syntax.specs.declared.faults.LexRule.TheVariants.{L1, L2, L5}
use Rattle.std.specs.Str.Parse.{IsNumeral, digits_value}
use Rattle.tg_syntax.proofs.Numerals.{is_digit_from, digits_of_bytes, none_is_numeral}
use Rattle.tg_syntax.specs.Spellings.{sign_text, word_text, is_white_space, is_letter, is_digit, is_name_byte, IsName, IsQuoted, HasTokenForm, name}
use Rattle.tg_syntax.specs.Spellings.{sign, digits, quoted}
use Rattle.tg_syntax.specs.Lexing.{OpensComment, Closes, IsLongest}
use Rattle.tg_syntax.specs.LexicalFaults.{FaultAt, illegal_byte, comment_not_closed, large_int}
use Rattle.tg_syntax.proofs.Longest.{begins, is_mark, form_of_mark, name_longest, digits_longest}
use Rattle.tg_lexer.specs.glue.Lexemes.{IsStretch, NeverCloses, IsSignPrefix, IsString, IsGap, blank, comment, IsToken, BeginsWith, BeginsQuote, BeginsOther}
use Rattle.tg_lexer.specs.glue.Lexemes.{is_other}
use Rattle.tg_lexer.proofs.Basics.{head_is, tail_is, apart, clash}
use Rattle.tg_lexer.proofs.Closings.{two_bytes}
use Rattle.tg_lexer.proofs.Quotings.{quoted_once}
use Rattle.tg_lexer.proofs.SignSteps.{sign_mark}

-- comments
pub comment_gap : (text : List ℕ) (size : ℕ) → OpensComment text → (size ≤ length (drop 2 text)) × Closes 1 (take size (drop 2 text)) → IsGap text (size + 2)
comment_gap text size o h =
    let inside = take size (drop 2 text) in
    let w : 47 ∷ 42 ∷ inside ++ drop size (drop 2 text) ≡ text = ap (λ l. 47 ∷ 42 ∷ l) (take-append-drop size (drop 2 text)) ∙ sym (two_bytes 47 42 text o) in
    let n : 2 + length inside ≡ size + 2 = let m = length-take-le size (drop 2 text) h.0 in omega arith in
    subst (λ l. IsGap l (size + 2)) w (subst (λ n. IsGap (47 ∷ 42 ∷ inside ++ drop size (drop 2 text)) n) n (comment inside (drop size (drop 2 text)) h.1))

pub comment_open : (at : ℕ) (text : List ℕ) → OpensComment text → NeverCloses (drop 2 text) → FaultAt at text L2 at
comment_open at text o h = subst (λ l. FaultAt at l L2 at) (sym (two_bytes 47 42 text o)) (comment_not_closed (drop 2 text) h)

-- a text that doesn't begin with a slash opens no comment
pub no_slash : (class : ℕ → Bool) (text : List ℕ) → class 47 ≡ false → BeginsWith class text → OpensComment text → ⊥
no_slash class [] c h o = h
no_slash class (b ∷ []) c h o = o
no_slash class (b ∷ x ∷ text) c h o = apart class 47 b c h (sym o.0)

-- runs of a class with which a text begins
run_begins : (class : ℕ → Bool) (text : List ℕ) (size : ℕ) → BeginsWith class text → IsStretch class text size → (b : ℕ) ×
    (more : List ℕ) × (take size text ≡ b ∷ more)
run_begins class [] size h r = absurd h
run_begins class (b ∷ text) zero h r = absurd (clash (r.stops b text refl) h)
run_begins class (b ∷ text) (suc size) h r = (b, take size text, refl)

pub stopped : (class : ℕ → Bool) (text : List ℕ) → ((b : ℕ) (after : List ℕ) → text ≡ b ∷ after → class b ≡ false) → begins class text ≡ false
stopped class [] h = refl
stopped class (b ∷ text) h = h b text refl

digits_run : (text : List ℕ) (size : ℕ) → BeginsWith is_digit text → IsStretch is_digit text size → IsNumeral 10 (take size text)
digits_run text size h r =
    let m = run_begins is_digit text size h r in
    (subst (λ bytes. 0 < length bytes) (sym m.2) (omega arith), digits_of_bytes (take size text) r.all)

pub int_token : (n : List (List ℕ)) (text : List ℕ) (size value : ℕ) → BeginsWith is_digit text → IsStretch is_digit text size →
    value ≡ digits_value 10 (take size text) → value ≤ 2147483647 → IsToken n text (token.Int value) size
int_token n text size value h r e le =
    let d = digits_run text size h r in
    record {
      bytes = take size text;
      rest = drop size text;
      whole = sym (take-append-drop size text);
      size_is = sym (length-take-le size text r.within);
      spells = (d, e, le);
      longest = digits_longest (take size text) (drop size text) d (stopped is_digit (drop size text) r.stops);
      no_comment = no_slash is_digit text refl h;
    }

pub int_large : (at : ℕ) (text : List ℕ) (size : ℕ) → BeginsWith is_digit text → IsStretch is_digit text size →
    2147483647 < digits_value 10 (take size text) → FaultAt at text L5 at
int_large at text size h r lt =
    let d = digits_run text size h r in
    subst (λ l. FaultAt at l L5 at) (take-append-drop size text) (large_int (take size text) (drop size text) d
    (digits_longest (take size text) (drop size text) d (stopped is_digit (drop size text) r.stops)) lt)

-- names
letter_name : (b : ℕ) → is_letter b ≡ true → is_name_byte b ≡ true
letter_name b h = ap (λ x. x || (is_digit b || b == 95)) h

begins_name : (text : List ℕ) → BeginsWith is_letter text → BeginsWith is_name_byte text
begins_name [] h = h
begins_name (b ∷ text) h = letter_name b h

pub name_of : (text : List ℕ) (size : ℕ) → BeginsWith is_letter text → IsStretch is_name_byte text size → IsName (take size text)
name_of [] size h r = absurd h
name_of (b ∷ text) zero h r = absurd (clash (r.stops b text refl) (letter_name b h))
name_of (b ∷ text) (suc size) h r = (h, r.all.1)

pub word_token : (n : List (List ℕ)) (text : List ℕ) (size : ℕ) (w : Word) → BeginsWith is_letter text →
    IsStretch is_name_byte text size → take size text ≡ word_text w → IsToken n text (token.Word w) size
word_token n text size w h r e =
    record {
      bytes = take size text;
      rest = drop size text;
      whole = sym (take-append-drop size text);
      size_is = sym (length-take-le size text r.within);
      spells = e;
      longest = name_longest (take size text) (drop size text) (name_of text size h r) (stopped is_name_byte (drop size text) r.stops);
      no_comment = no_slash is_letter text refl h;
    }

-- strings
quote_first : (text : List ℕ) → BeginsQuote text → text ≡ 34 ∷ drop 1 text
quote_first [] h = absurd h
quote_first (b ∷ text) h = ap (λ x. x ∷ text) (eqb-true b 34 h)

pub form_quoted : {xs : List ℕ} → HasTokenForm xs → (bytes : List ℕ) → xs ≡ 34 ∷ bytes → (inside : List ℕ) × (meant : List ℕ) ×
    IsQuoted inside meant × (bytes ≡ inside ++ 34 ∷ [])
form_quoted (name [] h) bytes e = absurd h
form_quoted (name (b ∷ more) h) bytes e = absurd (apart is_letter 34 b refl h.0 (sym (head_is e)))
form_quoted (sign s) bytes e = absurd (clash refl (sym (ap (begins is_mark) e) ∙ sign_mark s))
form_quoted (digits [] h) bytes e = none_is_numeral h
form_quoted (digits (b ∷ more) h) bytes e = absurd (apart is_digit 34 b refl (is_digit_from b h.1.0) (sym (head_is e)))
form_quoted (quoted {inside = inside} {meant = meant} q) bytes e = (inside, meant, q, sym (tail_is e))

pub string_longest : (inside meant rest : List ℕ) → IsQuoted inside meant → IsLongest (34 ∷ inside ++ 34 ∷ []) rest
string_longest inside meant rest q more after w ne form =
    let f = form_quoted form ((inside ++ 34 ∷ []) ++ more) refl in
    let e : inside ++ 34 ∷ more ≡ f.0 ++ 34 ∷ [] = sym (append_assoc inside (34 ∷ []) more) ∙ f.3 in
    let same = (quoted_once q f.2 more [] e).string_is in
    ne (tail_is (append_cancel_left inside (34 ∷ more) (34 ∷ []) (e ∙ ap (λ l. l ++ 34 ∷ []) (sym same))))

pub string_token : (n : List (List ℕ)) (text meant : List ℕ) (size : ℕ) → BeginsQuote text → IsString (drop 1 text) meant size →
    IsToken n text (token.Text meant) (size + 1)
string_token n text meant size h s =
    record {
      bytes = 34 ∷ s.inside ++ 34 ∷ [];
      rest = s.rest;
      whole = quote_first text h ∙ ap (λ l. 34 ∷ l) (s.whole ∙ sym (append_assoc s.inside (34 ∷ []) s.rest));
      size_is = let a = s.size_is in omega (arith, length-append s.inside (34 ∷ []));
      spells = (s.inside, refl, s.quoted);
      longest = string_longest s.inside meant s.rest s.quoted;
      no_comment = no_slash (λ b. b == 34) text refl h;
    }

-- signs
pub sign_token : (n : List (List ℕ)) (text : List ℕ) (s : Sign) (size : ℕ) → BeginsOther text → IsSignPrefix text s size → IsToken n text (token.Sign s) size
sign_token n text s size h f =
    record {
      bytes = sign_text s;
      rest = drop size text;
      whole = f.whole;
      size_is = f.size_is;
      spells = refl;
      longest = f.longest;
      no_comment = h.1;
    }

other_blank : (b : ℕ) → is_other b ≡ true → not (is_white_space b) ≡ true
other_blank b h = grind (arith, nat_tests)

other_mark : (b : ℕ) → is_other b ≡ true → is_mark b ≡ true
other_mark b h = grind (arith, nat_tests)

pub no_front : (at : ℕ) (text : List ℕ) → BeginsOther text → ((b : ℕ) (rest : List ℕ) → text ≡ b ∷ rest → (s : Sign) (more : List ℕ) → sign_text s ≢ b ∷ more) →
    FaultAt at text L1 at
no_front at [] h k = absurd h.0
no_front at (b ∷ text) h k =
    illegal_byte b text (other_blank b h.0) (λ more f. let s = form_of_mark f b more refl (other_mark b h.0) in k b text refl s.0 more s.1)

pub string_fault : (at : ℕ) (text : List ℕ) (rule : LexRule) (place : ℕ) → BeginsQuote text → FaultAt at (34 ∷ drop 1 text) rule place →
    FaultAt at text rule place
string_fault at text rule place h f = subst (λ l. FaultAt at l rule place) (sym (quote_first text h)) f

-- the first byte
pub blank_gap : (text : List ℕ) → 0 < length text → is_white_space (get_or text 0 0) ≡ true → IsGap text 1
blank_gap [] lt h = absurd (omega arith)
blank_gap (b ∷ text) lt h = blank b text h

pub begins_with : (class : ℕ → Bool) (text : List ℕ) → 0 < length text → class (get_or text 0 0) ≡ true → BeginsWith class text
begins_with class [] lt h = absurd (omega arith)
begins_with class (b ∷ text) lt h = h
