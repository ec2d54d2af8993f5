-- A pass over a text, step by step.
use Rattle.std.proofs.Common.{ℕ, ◌+◌, ◌-◌, ◌≡◌, ◌≤◌, ◌<◌, List, [], ◌∷◌, ◌++◌, length, take, drop, Ok, Err, true, refl, sym, ap, subst, ◌∙◌, arith}
use Rattle.std.proofs.Common.{append_assoc, append-nil, length-append, length-drop}
use Rattle.std.proofs.lemmas.List.{drop-drop, drop_at, drop_all}
use Rattle.tg_syntax.specs.declared.faults.LexRule.{LexRule}
use Rattle.tg_syntax.specs.declared.tokens.Token.{Token}
use Rattle.tg_syntax.specs.declared.tokens.Token.TheVariants as token
use Rattle.tg_syntax.specs.declared.tokens.Spanned.{Spanned}
use Rattle.tg_syntax.specs.declared.tokens.Word.{Word}
use Rattle.tg_syntax.specs.declared.tokens.Word.TheVariants.{WArray}
use Rattle.tg_syntax.proofs.Numerals.{none_is_numeral}
use Rattle.tg_syntax.specs.Spellings.{Spells, word_text}
use Rattle.tg_syntax.specs.Lexing.{Lexes, spanned, OpensComment}
use Rattle.tg_syntax.specs.LexicalFaults.{LeadsTo, FaultAt, HasLexicalFault, met}
use Rattle.tg_syntax.proofs.Longest.{begins, is_mark}
use Rattle.tg_lexer.specs.declared.lexemes.Lexeme.TheVariants.{One}
use Rattle.tg_lexer.specs.glue.Lexemes.{IsGap, blank, comment, IsToken, IsRead}
use Rattle.tg_base.specs.declared.faulty.Faulty.{Faulty}
use Rattle.tg_base.specs.declared.faulty.Faulty.TheVariants.{Bad, Memory}
use Rattle.tg_base.specs.FirstFaults.{OnBad}
use Rattle.tg_lexer.specs.Numbering.{with_name, all_named, idents, ident_text, names_after}
use Rattle.tg_lexer.proofs.Basics.{clash, not_cons}
use Rattle.tg_lexer.proofs.SignSteps.{sign_mark}
use Rattle.tg_lexer.proofs.Interning.{slice_get-more, Added, named_adds, all_named_keeps, all_named-append, idents-append}

-- nothing is spelled by no bytes
word_some : (w : Word) → begins (λ b. true) (word_text w) ≡ true
word_some WArray = refl
word_some _ = refl

pub spells_some : (names : List (List ℕ)) (one : Token) → Spells names [] one → ⊥
spells_some names (token.Word w) h = clash refl (ap (begins (λ b. true)) h ∙ word_some w)
spells_some names (token.Sign s) h = clash refl (ap (begins is_mark) h ∙ sign_mark s)
spells_some names (token.Ident n) h = h.0
spells_some names (token.Int n) h = none_is_numeral h.0
spells_some names (token.Text t) h = not_cons h.1
spells_some names token.End h = h

-- what is spelled with names is spelled with more of them
pub spells_more : (names more : List (List ℕ)) (bytes : List ℕ) (one : Token) → Spells names bytes one → Spells (names ++ more) bytes one
spells_more names more bytes (token.Word w) h = h
spells_more names more bytes (token.Sign s) h = h
spells_more names more bytes (token.Ident n) h = (h.0, h.1, slice_get-more names more n.0 bytes h.2)
spells_more names more bytes (token.Int n) h = h
spells_more names more bytes (token.Text t) h = h
spells_more names more bytes token.End h = h

-- so far a text is these tokens
pub record Scanned (text : List ℕ) (initial names : List (List ℕ)) (at : ℕ) (tokens : List Spanned) : Type 0 where
  pub within : at ≤ length text
  pub few : length names ≤ length initial + at
  pub lexed : (more : List (List ℕ)) (rest : List Spanned) → Lexes (names ++ more) at (drop at text) rest → Lexes (names ++ more) 0 text (tokens ++ rest)
  pub leads : (to : ℕ) (rest : List ℕ) → LeadsTo at (drop at text) to rest → LeadsTo 0 text to rest
  pub named : names ≡ all_named initial (idents text tokens)

pub scanned_none : (text : List ℕ) (names : List (List ℕ)) → Scanned text names names 0 []
scanned_none text names =
    record {
      within = omega arith;
      few = omega arith;
      lexed = λ more rest l. l;
      leads = λ to rest l. l;
      named = refl;
    }

-- a blank or a comment
gap_within : (text : List ℕ) (size : ℕ) → IsGap text size → (0 < size) × (size ≤ length text)
gap_within _ _ (blank b rest h) = (omega arith, omega arith)
gap_within _ _ (comment inside rest c) = (omega arith, let n = length-append inside rest in omega arith)

gap_lexes : (names : List (List ℕ)) (at : ℕ) (text : List ℕ) (size : ℕ) (tokens : List Spanned) → IsGap text size →
    Lexes names (at + size) (drop size text) tokens → Lexes names at text tokens
gap_lexes names at _ _ tokens (blank b rest h) l = Lexes.blank b h l
gap_lexes names at _ _ tokens (comment inside rest c) l =
    let n : at + (2 + length inside) ≡ at + 2 + length inside = omega arith in
    let e : drop (length inside) (inside ++ rest) ≡ rest = drop_at inside rest (length inside) refl in
    Lexes.comment inside c (subst (λ k. Lexes names k rest tokens) n (subst (λ l. Lexes names (at + (2 + length inside)) l tokens) (drop_two inside rest) l))
  where
    drop_two : (inside rest : List ℕ) → drop (2 + length inside) (47 ∷ 42 ∷ inside ++ rest) ≡ rest
    drop_two inside rest = drop_at (47 ∷ 42 ∷ inside) rest (2 + length inside) (omega arith)

gap_leads : (at : ℕ) (text : List ℕ) (size to : ℕ) (last : List ℕ) → IsGap text size → LeadsTo (at + size) (drop size text) to last → LeadsTo at text to last
gap_leads at _ _ to last (blank b rest h) l = LeadsTo.blank b h l
gap_leads at _ _ to last (comment inside rest c) l =
    let n : at + (2 + length inside) ≡ at + 2 + length inside = omega arith in
    LeadsTo.comment inside c (subst (λ k. LeadsTo k rest to last) n (subst (λ l. LeadsTo (at + (2 + length inside)) l to last) (drop_two inside rest) l))
  where
    drop_two : (inside rest : List ℕ) → drop (2 + length inside) (47 ∷ 42 ∷ inside ++ rest) ≡ rest
    drop_two inside rest = drop_at (47 ∷ 42 ∷ inside) rest (2 + length inside) (omega arith)

pub gap_size : (text : List ℕ) (at size : ℕ) → at ≤ length text → IsGap (drop at text) size → (0 < size) × (at + size ≤ length text)
gap_size text at size le g = let w = gap_within (drop at text) size g in (w.0, let n = length-drop at text in let k = w.1 in omega arith)

pub scanned_gap : (text : List ℕ) (initial names new : List (List ℕ)) (at : ℕ) (tokens : List Spanned) (size : ℕ) →
    Scanned text initial names at tokens → IsGap (drop at text) size → new ≡ names → Scanned text initial new (at + size) tokens
scanned_gap text initial names new at tokens size h g e = subst (λ n. Scanned text initial n (at + size) tokens) (sym e) stays
  where
    stays : Scanned text initial names (at + size) tokens
    stays =
        record {
          within = (gap_size text at size h.within g).1;
          few = let k = h.few in omega arith;
          lexed = λ more rest l. h.lexed more rest (gap_lexes (names ++ more) at (drop at text) size rest g (rw (drop-drop size at text) l));
          leads = λ to rest l. h.leads to rest (gap_leads at (drop at text) size to rest g (rw (drop-drop size at text) l));
          named = h.named;
        }

-- a token
token_within : (names : List (List ℕ)) (text : List ℕ) (one : Token) (size : ℕ) → IsToken names text one size → (0 < size) × (size ≤ length text)
token_within names text one size h = (
  some h.bytes h.size_is h.spells,
  let e = length-append h.bytes h.rest in
      let f : length text ≡ length (h.bytes ++ h.rest) = ap length h.whole in let g = h.size_is in omega arith,
)
  where
    some : (bytes : List ℕ) → size ≡ length bytes → Spells names bytes one → 0 < size
    some [] e s = absurd (spells_some names one s)
    some (b ∷ bytes) e s = omega arith

pub token_size : (names : List (List ℕ)) (text : List ℕ) (at : ℕ) (one : Token) (size : ℕ) → at ≤ length text →
    IsToken names (drop at text) one size → (0 < size) × (at + size ≤ length text)
token_size names text at one size le g = let w = token_within names (drop at text) one size g in
    (w.0, let n = length-drop at text in let k = w.1 in omega arith)

token_lexes : (names more : List (List ℕ)) (at : ℕ) (text : List ℕ) (one : Token) (size : ℕ) (tokens : List Spanned) →
    IsToken names text one size → Lexes (names ++ more) (at + size) (drop size text) tokens → Lexes (names ++ more) at text (spanned one at (at + size) ∷ tokens)
token_lexes names more at text one size tokens h l = by text size h.whole h.size_is h.no_comment l
  where
    by : (text : List ℕ) (size : ℕ) → text ≡ h.bytes ++ h.rest → size ≡ length h.bytes → (OpensComment text → ⊥) →
        Lexes (names ++ more) (at + size) (drop size text) tokens → Lexes (names ++ more) at text (spanned one at (at + size) ∷ tokens)
    by text size w e o l =
        let here : drop size text ≡ h.rest = ap (drop size) w ∙ drop_at h.bytes h.rest size (sym e) in
        let after = subst (λ n. Lexes (names ++ more) (at + n) h.rest tokens) e (subst (λ x. Lexes (names ++ more) (at + size) x tokens) here l) in
        let whole = Lexes.token h.bytes one (spells_more names more h.bytes one h.spells) h.longest (subst (λ x. OpensComment x → ⊥) w o) after in
        rw (w, e) whole

token_leads : (names : List (List ℕ)) (at : ℕ) (text : List ℕ) (one : Token) (size to : ℕ) (last : List ℕ) →
    IsToken names text one size → LeadsTo (at + size) (drop size text) to last → LeadsTo at text to last
token_leads names at text one size to last h l = by text size h.whole h.size_is h.no_comment l
  where
    by : (text : List ℕ) (size : ℕ) → text ≡ h.bytes ++ h.rest → size ≡ length h.bytes → (OpensComment text → ⊥) →
        LeadsTo (at + size) (drop size text) to last → LeadsTo at text to last
    by text size w e o l =
        let here : drop size text ≡ h.rest = ap (drop size) w ∙ drop_at h.bytes h.rest size (sym e) in
        let after = subst (λ n. LeadsTo (at + n) h.rest to last) e (subst (λ x. LeadsTo (at + size) x to last) here l) in
        let whole = LeadsTo.token names h.bytes one h.spells h.longest (subst (λ x. OpensComment x → ⊥) w o) after in
        rw w whole

-- the names after a token
after_adds : (names : List (List ℕ)) (text : List ℕ) (one : Token) (size : ℕ) → Added names (names_after names text (Ok (One one size))) 1
after_adds names text (token.Ident n) size = named_adds names (take size text)
after_adds names text (token.Word w) size = record { more = []; whole = sym (append-nil names); few = omega arith }
after_adds names text (token.Sign s) size = record { more = []; whole = sym (append-nil names); few = omega arith }
after_adds names text (token.Int n) size = record { more = []; whole = sym (append-nil names); few = omega arith }
after_adds names text (token.Text t) size = record { more = []; whole = sym (append-nil names); few = omega arith }
after_adds names text token.End size = record { more = []; whole = sym (append-nil names); few = omega arith }

after_is : (names : List (List ℕ)) (text : List ℕ) (one : Token) (at size : ℕ) → names_after names (drop at text) (Ok (One one size)) ≡
    all_named names (ident_text text one (record { from = at; to = at + size }))
after_is names text (token.Ident n) at size = let e : (at + size) - at ≡ size = omega arith in ap (λ k. with_name names (take k (drop at text))) (sym e)
after_is names text (token.Word w) at size = refl
after_is names text (token.Sign s) at size = refl
after_is names text (token.Int n) at size = refl
after_is names text (token.Text t) at size = refl
after_is names text token.End at size = refl

idents-one : (text : List ℕ) (one : Token) (from to : ℕ) → idents text (spanned one from to ∷ []) ≡ ident_text text one (record { from = from; to = to })
idents-one text one from to = append-nil (ident_text text one (record { from = from; to = to }))

pub scanned_token : (text : List ℕ) (initial names new : List (List ℕ)) (at : ℕ) (tokens : List Spanned) (one : Token) (size : ℕ) →
    Scanned text initial names at tokens → IsToken new (drop at text) one size → new ≡ names_after names (drop at text) (Ok (One one size)) →
    Scanned text initial new (at + size) (tokens ++ spanned one at (at + size) ∷ [])
scanned_token text initial names new at tokens one size h k e =
    let t = spanned one at (at + size) in
    let a = after_adds names (drop at text) one size in
    let w : new ≡ names ++ a.more = e ∙ a.whole in
    let s = token_size new text at one size h.within k in
    record {
      within = s.1;
      few = let n = h.few in let m = a.few in let p = s.0 in let q : length new ≡ length (names ++ a.more) = ap length w in
          omega (arith, length-append names a.more);
      lexed = λ more rest l.
          let whole : new ++ more ≡ names ++ (a.more ++ more) = ap (λ x. x ++ more) w ∙ append_assoc names a.more more in
          let here : Lexes (new ++ more) at (drop at text) (t ∷ rest) = token_lexes new more at (drop at text) one size rest k (rw (drop-drop size at text) l) in
          let all : Lexes (names ++ (a.more ++ more)) 0 text (tokens ++ (t ∷ rest)) = h.lexed (a.more ++ more) (t ∷ rest) (subst (λ x. Lexes x at (drop at text) (t ∷ rest)) whole here) in
          subst (λ x. Lexes x 0 text ((tokens ++ t ∷ []) ++ rest)) (sym whole)
          (subst (λ x. Lexes (names ++ (a.more ++ more)) 0 text x) (sym (append_assoc tokens (t ∷ []) rest)) all);
      leads = λ to rest l. h.leads to rest (token_leads new at (drop at text) one size to rest k (rw (drop-drop size at text) l));
      named =
          e ∙ after_is names text one at size ∙ ap (λ x. all_named x (ident_text text one t.span)) h.named
          ∙ sym (all_named-append initial (idents text tokens) (ident_text text one t.span))
          ∙ ap (all_named initial) (ap (λ x. idents text tokens ++ x) (sym (idents-one text one at (at + size))) ∙ sym (idents-append text tokens (t ∷ [])));
    }

-- the end
pub scanned_end : (text : List ℕ) (initial names : List (List ℕ)) (at : ℕ) (tokens : List Spanned) →
    Scanned text initial names at tokens → length text ≤ at → Lexes names 0 text (tokens ++ spanned token.End at at ∷ [])
scanned_end text initial names at tokens h le =
    let last : Lexes (names ++ []) at (drop at text) (spanned token.End at at ∷ []) = subst (λ l. Lexes (names ++ []) at l (spanned token.End at at ∷ [])) (sym (drop_all at text le)) (Lexes.ends at) in
    subst (λ n. Lexes n 0 text (tokens ++ spanned token.End at at ∷ [])) (append-nil names) (h.lexed [] (spanned token.End at at ∷ []) last)

pub scanned_named : (text : List ℕ) (initial names : List (List ℕ)) (at : ℕ) (tokens : List Spanned) →
    Scanned text initial names at tokens → names ≡ all_named initial (idents text (tokens ++ spanned token.End at at ∷ []))
scanned_named text initial names at tokens h = h.named ∙ ap (all_named initial) (sym (append-nil (idents text tokens))
    ∙ sym (idents-append text tokens (spanned token.End at at ∷ [])))

pub scanned_kept : (text : List ℕ) (initial names new : List (List ℕ)) (at : ℕ) (tokens : List Spanned) →
    Scanned text initial names at tokens → new ≡ names → (more : List (List ℕ)) × (new ≡ initial ++ more)
scanned_kept text initial names new at tokens h e = let k = all_named_keeps initial (idents text tokens) in (k.0, e ∙ h.named ∙ k.1)

pub scanned_after : (text : List ℕ) (initial names new : List (List ℕ)) (at : ℕ) (tokens : List Spanned) (one : Token) (size : ℕ) →
    Scanned text initial names at tokens → new ≡ names_after names (drop at text) (Ok (One one size)) → (more : List (List ℕ)) × (new ≡ initial ++ more)
scanned_after text initial names new at tokens one size h e =
    let k = scanned_kept text initial names names at tokens h refl in
    let a = after_adds names (drop at text) one size in
    (k.0 ++ a.more, e ∙ a.whole ∙ ap (λ x. x ++ a.more) k.1 ∙ append_assoc initial k.0 a.more)

-- a fault
pub scanned_fault : (text : List ℕ) (initial names : List (List ℕ)) (at : ℕ) (tokens : List Spanned) (rule : LexRule) (place : ℕ) →
    Scanned text initial names at tokens → length text ≤ 262144 → FaultAt at (drop at text) rule place → HasLexicalFault text rule place
scanned_fault text initial names at tokens rule place h le f = met le (h.leads at (drop at text) LeadsTo.here) f

pub read_bad : (T : Type 0) (text : List ℕ) (initial names new : List (List ℕ)) (at : ℕ) (tokens : List Spanned) (fault : Faulty LexRule ℕ) →
    Scanned text initial names at tokens → length text ≤ 262144 → IsRead new at (drop at text) (Err fault) →
    OnBad {T = T} (Err fault) (λ rule place. HasLexicalFault text rule place)
read_bad T text initial names new at tokens (Bad rule place) h le f = scanned_fault text initial names at tokens rule place h le f
read_bad T text initial names new at tokens Memory h le f = tt
