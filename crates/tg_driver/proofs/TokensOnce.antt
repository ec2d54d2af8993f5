-- A text has at most one list of tokens, and one of names.
use Rattle.std.proofs.Common.{ℕ, zero, suc, ◌+◌, ◌≡◌, ◌≢◌, ◌<◌, List, [], ◌∷◌, ◌++◌, length, Bool, true, false, cond, Some, refl, sym, ap, subst, ◌∙◌}
use Rattle.std.proofs.Common.{arith, get_or}
use Rattle.std.specs.Prelude.{slice_get}
use Rattle.std.specs.Str.{bytes_eq}
use Rattle.std.proofs.lemmas.List.Folds.{Any-from_list_any, list_any_at}
use Rattle.std.proofs.lemmas.List.Quantifiers.{all_pairs_push}
use Rattle.std.proofs.lemmas.Option.{slice_get-get_or}
use Rattle.std.proofs.lemmas.Slice.Eq.{bytes_eq-Decides}
use Rattle.tg_base.specs.Interned.{AreDistinct, is_among}
use Rattle.tg_base.specs.declared.ids.Span.{Span}
use Rattle.tg_syntax.specs.declared.tokens.Token.{Token}
use Rattle.tg_syntax.specs.declared.tokens.Token.TheVariants as kind
use Rattle.tg_syntax.specs.declared.tokens.Spanned.{Spanned}
use Rattle.tg_syntax.specs.Spellings.{Spells}
use Rattle.tg_syntax.specs.Lexing.{Lexes, ends, blank, comment, token, spanned}
use Rattle.tg_lexer.specs.Numbering.{with_name, all_named, idents, ident_text}
use Rattle.tg_lexer.proofs.Interning.{slice_get-more}
use Rattle.tg_lexer.proofs.Onces.{lexes_once}
use Rattle.tg_correctness.specs.Sources.{HasTokens}

-- a text stands in a list
pub record IsIn (t : List ℕ) (names : List (List ℕ)) : Type 0 where
  pub at : ℕ
  pub is : slice_get names at ≡ Some t

get-last : (names : List (List ℕ)) (t : List ℕ) → slice_get (names ++ t ∷ []) (length names) ≡ Some t
get-last [] t = refl
get-last (x ∷ names) t = get-last names t

get-shift : (names more : List (List ℕ)) (n : ℕ) → slice_get (names ++ more) (length names + n) ≡ slice_get more n
get-shift [] more n = ap (λ k. slice_get more k) (omega arith)
get-shift (x ∷ names) more n =
    let e : length (x ∷ names) + n ≡ suc (length names + n) = omega arith in
    ap (λ k. slice_get (x ∷ (names ++ more)) k) e ∙ get-shift names more n

in_more : (t : List ℕ) (names more : List (List ℕ)) → IsIn t names → IsIn t (names ++ more)
in_more t names more h = record { at = h.at; is = slice_get-more names more h.at t h.is }

in_named : (t s : List ℕ) (names : List (List ℕ)) → IsIn t names → IsIn t (with_name names s)
in_named t s names h = by (is_among s names)
  where
    by : (b : Bool) → IsIn t (cond b names (names ++ s ∷ []))
    by true = h
    by false = in_more t names (s ∷ []) h

among_in : (t : List ℕ) (names : List (List ℕ)) → is_among t names ≡ true → IsIn t names
among_in t names e =
    let a = Any-from_list_any (bytes_eq t) names e in
    let same : t ≡ a.1 = (bytes_eq-Decides t a.1).0 a.4 in
    record { at = a.0; is = slice_get-get_or names a.0 a.1 a.2 ∙ ap Some (a.3 ∙ sym same) }

is_named : (t : List ℕ) (names : List (List ℕ)) → IsIn t (with_name names t)
is_named t names = by (is_among t names) refl
  where
    by : (b : Bool) → is_among t names ≡ b → IsIn t (cond b names (names ++ t ∷ []))
    by true e = among_in t names e
    by false e = record { at = length names; is = get-last names t }

in_all : (texts : List (List ℕ)) (t : List ℕ) (names : List (List ℕ)) → IsIn t names → IsIn t (all_named names texts)
in_all [] t names h = h
in_all (s ∷ texts) t names h = in_all texts t (with_name names s) (in_named t s names h)

all_in : (texts : List (List ℕ)) (t : List ℕ) (names : List (List ℕ)) (n : ℕ) → slice_get texts n ≡ Some t → IsIn t (all_named names texts)
all_in [] t names n e = absurd (cc)
all_in (s ∷ texts) t names zero e =
    let same : s ≡ t = cc in
    in_all texts t (with_name names s) (subst (λ x. IsIn x (with_name names s)) same (is_named s names))
all_in (s ∷ texts) t names (suc n) e = all_in texts t (with_name names s) n e

-- no text is named twice
none_distinct : AreDistinct []
none_distinct = record { apart = λ i j d low high. absurd (omega arith) }

named_distinct : (t : List ℕ) (names : List (List ℕ)) → AreDistinct names → AreDistinct (with_name names t)
named_distinct t names h = by (is_among t names) refl
  where
    other : is_among t names ≡ false → (k : ℕ) (d : List ℕ) → k < length names → get_or names k d ≢ t
    other e k d lt same = let h = list_any_at (bytes_eq t) names k d lt ((bytes_eq-Decides t (get_or names k d)).1 (sym same)) in absurd (cc)

    by : (b : Bool) → is_among t names ≡ b → AreDistinct (cond b names (names ++ t ∷ []))
    by true e = h
    by false e = record { apart = all_pairs_push (λ a b. a ≢ b) names t h.apart (other e) }

all_distinct : (texts names : List (List ℕ)) → AreDistinct names → AreDistinct (all_named names texts)
all_distinct [] names h = h
all_distinct (t ∷ texts) names h = all_distinct texts (with_name names t) (named_distinct t names h)

-- the same token with the numbers of another list of names
pub record Respelled (more : List (List ℕ)) (bytes : List ℕ) (one : Token) : Type 0 where
  pub other : Token
  pub spells : Spells more bytes other
  pub same : (text : List ℕ) (span : Span) → ident_text text other span ≡ ident_text text one span

abbrev Holds : List (List ℕ) → List (List ℕ) → Type 0
Holds names more = (n : ℕ) (t : List ℕ) → slice_get names n ≡ Some t → IsIn t more

respelled : (names more : List (List ℕ)) → Holds names more → (bytes : List ℕ) (one : Token) → Spells names bytes one → Respelled more bytes one
respelled names more holds bytes (kind.Ident n) s =
    let i = holds n.0 bytes s.2 in
    record { other = kind.Ident (record { 0 = i.at }); spells = (s.0, s.1, i.is); same = λ text span. refl }
respelled names more holds bytes (kind.Word w) s = record { other = kind.Word w; spells = s; same = λ text span. refl }
respelled names more holds bytes (kind.Sign g) s = record { other = kind.Sign g; spells = s; same = λ text span. refl }
respelled names more holds bytes (kind.Int n) s = record { other = kind.Int n; spells = s; same = λ text span. refl }
respelled names more holds bytes (kind.Text t) s = record { other = kind.Text t; spells = s; same = λ text span. refl }
respelled names more holds bytes kind.End s = absurd s

pub record Renumbered (more : List (List ℕ)) (at : ℕ) (text : List ℕ) (tokens : List Spanned) : Type 0 where
  pub others : List Spanned
  pub lexed : Lexes more at text others
  pub same : (whole : List ℕ) → idents whole others ≡ idents whole tokens

renumbered : (names more : List (List ℕ)) → Holds names more → {at : ℕ} {text : List ℕ} {tokens : List Spanned} →
    Lexes names at text tokens → Renumbered more at text tokens
renumbered names more holds (ends at) = record { others = spanned kind.End at at ∷ []; lexed = ends at; same = λ whole. refl }
renumbered names more holds (blank b is l) =
    let r = renumbered names more holds l in
    record { others = r.others; lexed = blank b is r.lexed; same = r.same }
renumbered names more holds (comment inside c l) =
    let r = renumbered names more holds l in
    record { others = r.others; lexed = comment inside c r.lexed; same = r.same }
renumbered names more holds {at = at} (token bytes one {rest = rest} {tokens = tokens} s longest o l) =
    let r = renumbered names more holds l in
    let t = respelled names more holds bytes one s in
    let span : Span = record { from = at; to = at + length bytes } in
    record {
      others = spanned t.other at (at + length bytes) ∷ r.others;
      lexed = token bytes t.other t.spells longest o r.lexed;
      same = λ whole. ap (λ x. x ++ idents whole r.others) (t.same whole span) ∙ ap (λ x. ident_text whole one span ++ x) (r.same whole);
    }

-- one list of tokens, and one of names
pub record AreOne {A : Type 0} (n m : List (List ℕ)) (a b : A) : Type 0 where
  pub names : n ≡ m
  pub same : a ≡ b

pub tokens_once : (text : List ℕ) (n m : List (List ℕ)) (a b : List Spanned) → HasTokens text n a → HasTokens text m b → AreOne n m a b
tokens_once text n m a b h k =
    let all = all_named [] (n ++ m) in
    let r = renumbered n all (λ i t e. all_in (n ++ m) t [] i (slice_get-more n m i t e)) h.lexed in
    let q = renumbered m all (λ i t e. all_in (n ++ m) t [] (length n + i) (get-shift n m i ∙ e)) k.lexed in
    let one = lexes_once all (all_distinct (n ++ m) [] none_distinct) r.lexed q.others q.lexed in
    let texts : idents text a ≡ idents text b = sym (r.same text) ∙ ap (λ x. idents text x) one ∙ q.same text in
    let names : n ≡ m = h.names_are ∙ ap (λ x. all_named [] x) texts ∙ sym k.names_are in
    let D : List (List ℕ) → Type 0 = λ x. AreDistinct x in
    let L : List (List ℕ) → Type 0 = λ x. Lexes x 0 text b in
    record {
      names = names;
      same = lexes_once n (subst D (sym h.names_are) (all_distinct (idents text a) [] none_distinct)) h.lexed b (subst L (sym names) k.lexed);
    }
