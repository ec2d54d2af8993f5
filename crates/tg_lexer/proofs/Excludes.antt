-- A text with a fault has no tokens, and no other fault.
use Rattle.std.proofs.Common.{ℕ, ◌+◌, ◌≡◌, ◌≤◌, List, [], ◌∷◌, ◌++◌, length, Bool, true, false, refl, sym, ap, subst, ◌∙◌, arith, append_assoc}
use Rattle.std.specs.Prelude.{not}
use Rattle.std.proofs.lemmas.List.{append_cancel_left}
use Rattle.std.specs.Str.Parse.{IsNumeral, digits_value}
use Rattle.tg_syntax.specs.declared.faults.LexRule.{LexRule}
use Rattle.tg_syntax.specs.declared.faults.LexRule.TheVariants.{L1}
use Rattle.tg_syntax.specs.declared.tokens.Token.{Token}
use Rattle.tg_syntax.specs.declared.tokens.Token.TheVariants as token
use Rattle.tg_syntax.specs.declared.tokens.Spanned.{Spanned}
use Rattle.tg_syntax.specs.declared.tokens.Sign.TheVariants.{Divide}
use Rattle.tg_syntax.specs.Spellings.{Spells, HasTokenForm, sign, IsQuoted, nothing, quoted, digits, is_white_space, is_digit}
use Rattle.tg_syntax.specs.Lexing.{Lexes, ends, blank, comment, token, IsLongest, OpensComment, Closes}
use Rattle.tg_syntax.specs.LexicalFaults.{LeadsTo, here, FaultAt, illegal_byte, comment_not_closed, in_string, large_int, HasLexicalFault, too_long}
use Rattle.tg_syntax.specs.LexicalFaults.{met, FaultInString}
use Rattle.tg_syntax.proofs.Numerals.{is_digit_from, none_is_numeral}
use Rattle.tg_lexer.proofs.Basics.{head_is, tail_is, not_cons, differ, apart, clash}
use Rattle.tg_lexer.proofs.Closings.{closes_once}
use Rattle.tg_lexer.proofs.Quotings.{quoted_goes_on, fault_no_string}
use Rattle.tg_lexer.proofs.Readings.{form_quoted}
use Rattle.tg_lexer.proofs.Onces.{spells_form, form_some, no_blank_front, one_front, kind, digits_kind, spells_kind, lexes_blank, lexes_comment, lexes_token}
use Rattle.tg_lexer.proofs.StringFaults.{Same, the_same, quoted_fault_once}

not_both : (x : Bool) → not x ≡ true → x ≡ true → ⊥
not_both true e f = cc
not_both false e f = cc

-- an int that is too large
digits_first : (names : List (List ℕ)) (bytes : List ℕ) (one : Token) → IsNumeral 10 bytes → Spells names bytes one → 1 ≡ kind one
digits_first names bytes one d s = sym (digits_kind bytes d) ∙ spells_kind names bytes one s

int_small : (names : List (List ℕ)) (bytes : List ℕ) (one : Token) → IsNumeral 10 bytes → Spells names bytes one → digits_value 10 bytes ≤ 2147483647
int_small names bytes (token.Int n) d s = subst (λ m. m ≤ 2147483647) s.1 s.2
int_small names bytes (token.Word w) d s = absurd (differ 1 0 refl (digits_first names bytes (token.Word w) d s))
int_small names bytes (token.Ident n) d s = absurd (differ 1 0 refl (digits_first names bytes (token.Ident n) d s))
int_small names bytes (token.Text t) d s = absurd (differ 1 2 refl (digits_first names bytes (token.Text t) d s))
int_small names bytes (token.Sign g) d s = absurd (differ 1 3 refl (digits_first names bytes (token.Sign g) d s))
int_small names bytes token.End d s = absurd s

digits_begin : (bytes rest : List ℕ) (b : ℕ) (after : List ℕ) → IsNumeral 10 bytes → bytes ++ rest ≡ b ∷ after → is_digit b ≡ true
digits_begin [] rest b after d e = none_is_numeral d
digits_begin (x ∷ bytes) rest b after d e = subst (λ y. is_digit y ≡ true) (head_is e) (is_digit_from x d.1.0)

-- no step can be made where a fault stands
fault_some : {at : ℕ} {text : List ℕ} {rule : LexRule} {place : ℕ} → FaultAt at text rule place → text ≡ [] → ⊥
fault_some (illegal_byte b rest n no_form) e = not_cons (sym e)
fault_some (comment_not_closed behind never) e = not_cons (sym e)
fault_some (in_string inside meant rest q f) e = not_cons (sym e)
fault_some (large_int [] rest d longest lt) e = none_is_numeral d
fault_some (large_int (b ∷ bytes) rest d longest lt) e = not_cons (sym e)

no_blank : {at : ℕ} {text : List ℕ} {rule : LexRule} {place : ℕ} → FaultAt at text rule place → (b : ℕ) (after : List ℕ) →
    text ≡ b ∷ after → is_white_space b ≡ true → ⊥
no_blank (illegal_byte x rest n no_form) b after e h = not_both (is_white_space x) n (ap is_white_space (head_is e) ∙ h)
no_blank (comment_not_closed behind never) b after e h = apart is_white_space 47 b refl h (head_is e)
no_blank (in_string inside meant rest q f) b after e h = apart is_white_space 34 b refl h (head_is e)
no_blank (large_int bytes rest d longest lt) b after e h = no_blank_front bytes rest b after (digits bytes d) (sym e) h

no_comment : {at : ℕ} {text : List ℕ} {rule : LexRule} {place : ℕ} → FaultAt at text rule place → (inside after : List ℕ) →
    text ≡ 47 ∷ 42 ∷ inside ++ after → Closes 1 inside → ⊥
no_comment (illegal_byte b rest n no_form) inside after e c = no_form [] (subst (λ x. HasTokenForm (x ∷ [])) (sym (head_is e)) (sign Divide))
no_comment (comment_not_closed behind never) inside after e c = never inside after (tail_is (tail_is e)) c
no_comment (in_string text meant rest q f) inside after e c = differ 34 47 refl (head_is e)
no_comment (large_int bytes rest d longest lt) inside after e c = clash refl (digits_begin bytes rest 47 (42 ∷ inside ++ after) d e)

illegal_token : (b : ℕ) (rest : List ℕ) → ((more : List ℕ) → HasTokenForm (b ∷ more) → ⊥) → (bytes after : List ℕ) →
    b ∷ rest ≡ bytes ++ after → HasTokenForm bytes → ⊥
illegal_token b rest no_form [] after e g = form_some g refl
illegal_token b rest no_form (x ∷ bytes) after e g = no_form bytes (subst (λ y. HasTokenForm (y ∷ bytes)) (sym (head_is e)) g)

string_token : (inside meant rest : List ℕ) {rule : LexRule} {from in_at place : ℕ} → IsQuoted inside meant →
    FaultInString from in_at rest rule place → (bytes after : List ℕ) → 34 ∷ inside ++ rest ≡ bytes ++ after → HasTokenForm bytes → ⊥
string_token inside meant rest q f [] after e g = form_some g refl
string_token inside meant rest q f (x ∷ bytes) after e g =
    let k = form_quoted g bytes (ap (λ y. y ∷ bytes) (sym (head_is e))) in
    let w : inside ++ rest ≡ k.0 ++ 34 ∷ after = tail_is e ∙ ap (λ l. l ++ after) k.3 ∙ append_assoc k.0 (34 ∷ []) after in
    let h = quoted_goes_on q k.2 rest after w in
    fault_no_string f h.quoted after h.rest_is

no_token : {at : ℕ} {text : List ℕ} {rule : LexRule} {place : ℕ} → FaultAt at text rule place →
    (names : List (List ℕ)) (bytes after : List ℕ) (one : Token) → text ≡ bytes ++ after → Spells names bytes one →
    IsLongest bytes after → (OpensComment (bytes ++ after) → ⊥) → ⊥
no_token (illegal_byte b rest n no_form) names bytes after one e s longest o = illegal_token b rest no_form bytes after e (spells_form names bytes one s)
no_token (comment_not_closed behind never) names bytes after one e s longest o = o (subst OpensComment e (refl, refl))
no_token (in_string inside meant rest q f) names bytes after one e s longest o = string_token inside meant rest q f bytes
    after e (spells_form names bytes one s)
no_token (large_int digit rest d longest' lt) names bytes after one e s longest o =
    let is : bytes ≡ digit = one_front digit rest bytes after e (digits digit d) longest' (spells_form names bytes one s) longest in
    let k : digits_value 10 digit ≤ 2147483647 = int_small names digit one d (subst (λ l. Spells names l one) is s) in
    omega arith

-- no tokens stand where a fault does
fault_lexes : {at : ℕ} {text : List ℕ} {rule : LexRule} {place : ℕ} → FaultAt at text rule place →
    {names : List (List ℕ)} {tokens : List Spanned} → Lexes names at text tokens → ⊥
fault_lexes f (ends at) = fault_some f refl
fault_lexes f (blank b {rest = rest} h l) = no_blank f b rest refl h
fault_lexes f (comment inside {rest = rest} c l) = no_comment f inside rest refl c
fault_lexes f {names = names} (token bytes one {rest = rest} s longest o l) = no_token f names bytes rest one refl s longest o

-- What leads to a fault goes by the one step that the text allows.
steps_blank : {at to : ℕ} {text rest : List ℕ} {rule : LexRule} {place : ℕ} → LeadsTo at text to rest →
    FaultAt to rest rule place → (b : ℕ) (after : List ℕ) → text ≡ b ∷ after → is_white_space b ≡ true → LeadsTo (at + 1) after to rest
steps_blank here f b after e h = absurd (no_blank f b after e h)
steps_blank {at = at} {to = to} {rest = rest} (LeadsTo.blank x k l) f b after e h = subst (λ r. LeadsTo (at + 1) r to rest) (tail_is e) l
steps_blank (LeadsTo.comment inside c l) f b after e h = absurd (apart is_white_space 47 b refl h (head_is e))
steps_blank (LeadsTo.token names bytes one {text = text} s longest o l) f b after e h =
    absurd (no_blank_front bytes text b after (spells_form names bytes one s) (sym e) h)

steps_comment : {at to : ℕ} {text rest : List ℕ} {rule : LexRule} {place : ℕ} → LeadsTo at text to rest →
    FaultAt to rest rule place → (inside after : List ℕ) → text ≡ 47 ∷ 42 ∷ inside ++ after → Closes 1 inside → LeadsTo (at + 2 + length inside) after to rest
steps_comment here f inside after e c = absurd (no_comment f inside after e c)
steps_comment (LeadsTo.blank x k l) f inside after e c = absurd (apart is_white_space 47 x refl k (sym (head_is e)))
steps_comment {at = at} {to = to} {rest = rest} (LeadsTo.comment other {text = text} c' l) f inside after e c =
    let g : other ++ text ≡ inside ++ after = tail_is (tail_is e) in
    let is : other ≡ inside = closes_once c' c text after g in
    let r : text ≡ after = append_cancel_left inside text after (ap (λ l. l ++ text) (sym is) ∙ g) in
    subst (λ l. LeadsTo (at + 2 + length l) after to rest) is (subst (λ l. LeadsTo (at + 2 + length other) l to rest) r l)
steps_comment (LeadsTo.token names bytes one s longest o l) f inside after e c = absurd (o (subst OpensComment (sym e) (refl, refl)))

steps_token : {at to : ℕ} {text rest : List ℕ} {rule : LexRule} {place : ℕ} → LeadsTo at text to rest →
    FaultAt to rest rule place → (names : List (List ℕ)) (bytes after : List ℕ) (one : Token) → text ≡ bytes ++ after →
    Spells names bytes one → IsLongest bytes after → (OpensComment (bytes ++ after) → ⊥) → LeadsTo (at + length bytes) after to rest
steps_token here f names bytes after one e s longest o = absurd (no_token f names bytes after one e s longest o)
steps_token (LeadsTo.blank x {text = text} k l) f names bytes after one e s longest o =
    absurd (no_blank_front bytes after x text (spells_form names bytes one s) e k)
steps_token (LeadsTo.comment inside c l) f names bytes after one e s longest o = absurd (o (subst OpensComment e (refl, refl)))
steps_token {at = at} {to = to} {rest = rest} (LeadsTo.token others other another {text = text} s' longest' o' l) f names bytes after one e s longest o =
    let is : other ≡ bytes = one_front bytes after other text (sym e) (spells_form names bytes one s) longest (spells_form others other another s') longest' in
    let r : text ≡ after = append_cancel_left bytes text after (ap (λ l. l ++ text) (sym is) ∙ e) in
    subst (λ l. LeadsTo (at + length l) after to rest) is (subst (λ x. LeadsTo (at + length other) x to rest) r l)

leads_lexes : {at to : ℕ} {text rest : List ℕ} → LeadsTo at text to rest → {rule : LexRule} {place : ℕ} →
    FaultAt to rest rule place → (names : List (List ℕ)) (tokens : List Spanned) → Lexes names at text tokens → ⊥
leads_lexes here f names tokens l = fault_lexes f l
leads_lexes (LeadsTo.blank b {text = text} h k) f names tokens l = leads_lexes k f names tokens (lexes_blank l b text refl h)
leads_lexes (LeadsTo.comment inside {text = text} c k) f names tokens l = leads_lexes k f names tokens (lexes_comment l inside text refl c)
leads_lexes (LeadsTo.token others bytes one {text = text} s longest o k) f names tokens l =
    let h = lexes_token l bytes text refl (spells_form others bytes one s) longest o in
    leads_lexes k f names h.more h.lexed

-- a text that isn't too long has no fault and tokens both
pub fault_excludes : {text : List ℕ} {rule : LexRule} {place : ℕ} → HasLexicalFault text rule place → length text ≤ 262144 →
    (names : List (List ℕ)) (tokens : List Spanned) → Lexes names 0 text tokens → ⊥
fault_excludes (too_long lt) le names tokens l = omega arith
fault_excludes (met le' k f) le names tokens l = leads_lexes k f names tokens l

-- at one byte stands one fault
turned : {rule other : LexRule} {place there : ℕ} → Same rule other place there → Same other rule there place
turned s = record { rule_is = sym s.rule_is; place_is = sym s.place_is }

illegal_once : {at : ℕ} {text : List ℕ} {rule : LexRule} {place : ℕ} → FaultAt at text rule place → (b : ℕ) (after : List ℕ) →
    ((more : List ℕ) → HasTokenForm (b ∷ more) → ⊥) → text ≡ b ∷ after → Same rule L1 place at
illegal_once (illegal_byte x rest n no_form) b after never e = the_same
illegal_once (comment_not_closed behind closes) b after never e = absurd (never [] (subst (λ x. HasTokenForm (x ∷ [])) (head_is e) (sign Divide)))
illegal_once (in_string inside meant rest q f) b after never e = absurd (never (34 ∷ []) (subst (λ x. HasTokenForm (x ∷ 34 ∷ [])) (head_is e) (quoted nothing)))
illegal_once (large_int bytes rest d longest lt) b after never e = absurd (illegal_token b after never bytes rest (sym e) (digits bytes d))

faults_once : {at : ℕ} {text others : List ℕ} {rule other : LexRule} {place there : ℕ} → FaultAt at text rule place →
    FaultAt at others other there → text ≡ others → Same rule other place there
faults_once (illegal_byte b rest n no_form) g e = turned (illegal_once g b rest no_form (sym e))
faults_once f (illegal_byte b rest n no_form) e = illegal_once f b rest no_form e
faults_once (comment_not_closed behind never) (comment_not_closed others k) e = the_same
faults_once (comment_not_closed behind never) (in_string inside meant rest q f) e = absurd (differ 47 34 refl (head_is e))
faults_once (comment_not_closed behind never) (large_int bytes rest d longest lt) e = absurd (clash refl (digits_begin bytes rest 47 (42 ∷ behind) d (sym e)))
faults_once (in_string inside meant rest q f) (comment_not_closed others k) e = absurd (differ 34 47 refl (head_is e))
faults_once {at = at} (in_string inside meant rest q f) (in_string other means after r g) e = quoted_fault_once q r (at + 1) refl refl f g (tail_is e)
faults_once (in_string inside meant rest q f) (large_int bytes after d longest lt) e =
    absurd (clash refl (digits_begin bytes after 34 (inside ++ rest) d (sym e)))
faults_once (large_int bytes rest d longest lt) (comment_not_closed others k) e = absurd (clash refl (digits_begin bytes rest 47 (42 ∷ others) d e))
faults_once (large_int bytes rest d longest lt) (in_string inside meant after q f) e = absurd (clash refl (digits_begin bytes rest 34 (inside ++ after) d e))
faults_once (large_int bytes rest d longest lt) (large_int others after k long' gt) e = the_same

here_once : {at to : ℕ} {text rest : List ℕ} {rule other : LexRule} {place there : ℕ} → FaultAt at text rule place →
    LeadsTo at text to rest → FaultAt to rest other there → Same rule other place there
here_once f here g = faults_once f g refl
here_once f (LeadsTo.blank b {text = text} h k) g = absurd (no_blank f b text refl h)
here_once f (LeadsTo.comment inside {text = text} c k) g = absurd (no_comment f inside text refl c)
here_once f (LeadsTo.token names bytes one {text = text} s longest o k) g = absurd (no_token f names bytes text one refl s longest o)

leads_once : {at to upto : ℕ} {text rest after : List ℕ} {rule other : LexRule} {place there : ℕ} → LeadsTo at text to rest →
    FaultAt to rest rule place → LeadsTo at text upto after → FaultAt upto after other there → Same rule other place there
leads_once here f l g = here_once f l g
leads_once (LeadsTo.blank b {text = text} h k) f l g = leads_once k f (steps_blank l g b text refl h) g
leads_once (LeadsTo.comment inside {text = text} c k) f l g = leads_once k f (steps_comment l g inside text refl c) g
leads_once (LeadsTo.token names bytes one {text = text} s longest o k) f l g = leads_once k f (steps_token l g names bytes text one refl s longest o) g

-- a text has one first fault
pub fault_once : {text : List ℕ} {rule other : LexRule} {place there : ℕ} → HasLexicalFault text rule place →
    HasLexicalFault text other there → Same rule other place there
fault_once (too_long lt) (too_long gt) = the_same
fault_once (too_long lt) (met le k f) = absurd (omega arith)
fault_once (met le k f) (too_long lt) = absurd (omega arith)
fault_once (met le k f) (met le' l g) = leads_once k f l g
