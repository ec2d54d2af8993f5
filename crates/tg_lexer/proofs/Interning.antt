-- Names that are added one by one.
use Rattle.std.proofs.Common.{ℕ, zero, suc, ◌≡◌, ◌≢◌, ◌≤◌, List, [], ◌∷◌, ◌++◌, length, Bool, true, false, cond, take, drop, Some, refl, sym, ap, ◌∙◌}
use Rattle.std.proofs.Common.{arith, append_assoc, append-nil}
use Rattle.std.specs.Prelude.{MatchBool, slice_get}
use Rattle.std.proofs.lemmas.List.{take-append-drop, length-take-le}
use Rattle.std.proofs.lemmas.List.Sums.{fold-append}
use Rattle.tg_base.specs.Interned.{IsInterned, is_among}
use Rattle.tg_base.specs.declared.ids.Name.{Name}
use Rattle.tg_syntax.specs.declared.tokens.Token.TheVariants as token
use Rattle.tg_syntax.specs.declared.tokens.Word.{Word}
use Rattle.tg_syntax.specs.declared.tokens.Spanned.{Spanned}
use Rattle.tg_syntax.specs.Spellings.{word_text, is_letter, is_name_byte}
use Rattle.tg_syntax.proofs.Longest.{name_longest}
use Rattle.tg_lexer.specs.Numbering.{with_name, all_named, idents, ident_text}
use Rattle.tg_lexer.specs.glue.Lexemes.{IsStretch, IsToken, BeginsWith}
use Rattle.tg_lexer.proofs.Readings.{name_of, no_slash, stopped}

-- the place of a text that was interned
slice_get-last : (xs : List (List ℕ)) (t : List ℕ) → slice_get (xs ++ t ∷ []) (length xs) ≡ Some t
slice_get-last [] t = refl
slice_get-last (x ∷ xs) t = slice_get-last xs t

pub slice_get-more : (xs more : List (List ℕ)) (n : ℕ) (t : List ℕ) → slice_get xs n ≡ Some t → slice_get (xs ++ more) n ≡ Some t
slice_get-more [] more n t e = cc
slice_get-more (x ∷ xs) more zero t e = e
slice_get-more (x ∷ xs) more (suc n) t e = slice_get-more xs more n t e

pub interned_get : (old new : List (List ℕ)) (t : List ℕ) (n : ℕ) → IsInterned old t new n → slice_get new n ≡ Some t
interned_get old new t n h = by (is_among t old) h
  where
    by : (b : Bool) → MatchBool b ((new ≡ old) × (slice_get old n ≡ Some t)) ((new ≡ old ++ t ∷ []) × (n ≡ length old)) → slice_get new n ≡ Some t
    by true h = ap (λ l. slice_get l n) h.0 ∙ h.1
    by false h = ap (λ l. slice_get l n) h.0 ∙ ap (λ k. slice_get (old ++ t ∷ []) k) h.1 ∙ slice_get-last old t

pub interned_named : (old new : List (List ℕ)) (t : List ℕ) (n : ℕ) → IsInterned old t new n → new ≡ with_name old t
interned_named old new t n h = by (is_among t old) h
  where
    by : (b : Bool) → MatchBool b ((new ≡ old) × (slice_get old n ≡ Some t)) ((new ≡ old ++ t ∷ []) × (n ≡ length old)) → new ≡ cond b old (old ++ t ∷ [])
    by true h = h.0
    by false h = h.0

pub ident_token : (old new : List (List ℕ)) (text : List ℕ) (size : ℕ) (n : Name) → BeginsWith is_letter text →
    IsStretch is_name_byte text size → ((w : Word) → take size text ≢ word_text w) → IsInterned old (take size text) new n.0 → IsToken new text (token.Ident n) size
ident_token old new text size n h r no_word i =
    record {
      bytes = take size text;
      rest = drop size text;
      whole = sym (take-append-drop size text);
      size_is = sym (length-take-le size text r.within);
      spells = (name_of text size h r, no_word, interned_get old new (take size text) n.0 i);
      longest = name_longest (take size text) (drop size text) (name_of text size h r) (stopped is_name_byte (drop size text) r.stops);
      no_comment = no_slash is_letter text refl h;
    }

-- what naming adds
pub record Added (names new : List (List ℕ)) (most : ℕ) : Type 0 where
  pub more : List (List ℕ)
  pub whole : new ≡ names ++ more
  pub few : length more ≤ most

pub named_adds : (names : List (List ℕ)) (t : List ℕ) → Added names (with_name names t) 1
named_adds names t = by (is_among t names)
  where
    by : (b : Bool) → Added names (cond b names (names ++ t ∷ [])) 1
    by true = record { more = []; whole = sym (append-nil names); few = omega arith }
    by false = record { more = t ∷ []; whole = refl; few = omega arith }

pub all_named_keeps : (names texts : List (List ℕ)) → (more : List (List ℕ)) × (all_named names texts ≡ names ++ more)
all_named_keeps names [] = ([], sym (append-nil names))
all_named_keeps names (t ∷ texts) =
    let a = named_adds names t in
    let k = all_named_keeps (with_name names t) texts in
    (a.more ++ k.0, k.1 ∙ ap (λ l. l ++ k.0) a.whole ∙ append_assoc names a.more k.0)

pub all_named-append : (names xs ys : List (List ℕ)) → all_named names (xs ++ ys) ≡ all_named (all_named names xs) ys
all_named-append names xs ys = fold-append with_name names xs ys

pub idents-append : (text : List ℕ) (xs ys : List Spanned) → idents text (xs ++ ys) ≡ idents text xs ++ idents text ys
idents-append text [] ys = refl
idents-append text (x ∷ xs) ys = ap (λ l. ident_text text x.token x.span ++ l) (idents-append text xs ys)
    ∙ sym (append_assoc (ident_text text x.token x.span) (idents text xs) (idents text ys))
