-- A string has at most one fault.
use Rattle.std.proofs.Common.{ℕ, ◌+◌, ◌≡◌, ◌⊎◌, inl, inr, List, [], ◌∷◌, ◌++◌, length, true, refl, sym, ap, subst, ◌∙◌, arith, append_assoc}
use Rattle.std.specs.Prelude.{IsTrue}
use Rattle.std.proofs.lemmas.List.{length-append}
use Rattle.tg_syntax.specs.declared.faults.LexRule.{LexRule}
use Rattle.tg_syntax.specs.Spellings.{IsQuoted, nothing, plain, escaped, Escape, is_plain, is_white_space, AllAre}
use Rattle.tg_syntax.specs.LexicalFaults.{FaultInString, end_in_string, line_in_string, control_byte, end_in_escape, line_in_escape, bad_escape}
use Rattle.tg_syntax.specs.LexicalFaults.{is_control, IsBegun, Misfits}
use Rattle.tg_syntax.specs.LexicalFaults as faults
use Rattle.tg_lexer.proofs.Basics.{head_is, tail_is, not_cons, differ, apart, GoesOn, two_fronts}
use Rattle.tg_lexer.proofs.Escapings.{escape_once, begun_no_escape, misfit_no_escape}
use Rattle.tg_lexer.proofs.Quotings.{control_plain, control_backslash}

-- two faults are one
pub record Same (rule other : LexRule) (place there : ℕ) : Type 0 where
  pub rule_is : rule ≡ other
  pub place_is : place ≡ there

pub the_same : {rule : LexRule} {place : ℕ} → Same rule rule place place
the_same = record { rule_is = refl; place_is = refl }

-- a prefix of what was begun was begun
none_left : (p : List ℕ) (d : ℕ) (q : List ℕ) → [] ≡ p ++ d ∷ q → ⊥
none_left [] d q e = not_cons e
none_left (x ∷ p) d q e = not_cons e

blanks_left : (b : ℕ) (more p : List ℕ) (d : ℕ) (q : List ℕ) → AllAre is_white_space more → more ≡ p ++ d ∷ q → AllAre is_white_space (p ++ d ∷ [])
blanks_left b [] p d q a e = absurd (none_left p d q e)
blanks_left b (x ∷ more) [] d q a e = (subst (λ z. IsTrue (is_white_space z)) (head_is e) a.0, tt)
blanks_left b (x ∷ more) (y ∷ p) d q a e = (subst (λ z. IsTrue (is_white_space z)) (head_is e) a.0, blanks_left b more p d q a.1 (tail_is e))

begun_left : {begun : List ℕ} → IsBegun begun → (p : List ℕ) (d : ℕ) (q : List ℕ) → begun ≡ p ++ d ∷ q → IsBegun (p ++ d ∷ [])
begun_left faults.backslash p d q e = absurd (none_left p d q e)
begun_left faults.caret [] d q e = subst (λ z. IsBegun (z ∷ [])) (head_is e) faults.caret
begun_left faults.caret (x ∷ p) d q e = absurd (none_left p d q (tail_is e))
begun_left (faults.digit a h) [] d q e = subst (λ z. IsBegun (z ∷ [])) (head_is e) (faults.digit a h)
begun_left (faults.digit a h) (x ∷ p) d q e = absurd (none_left p d q (tail_is e))
begun_left (faults.digits a b h k) [] d q e = subst (λ z. IsBegun (z ∷ [])) (head_is e) (faults.digit a h)
begun_left (faults.digits a b h k) (x ∷ []) d q e = two (head_is e) (head_is (tail_is e))
  where
    two : a ≡ x → b ≡ d → IsBegun (x ∷ d ∷ [])
    two e f = subst (λ z. IsBegun (z ∷ d ∷ [])) e (subst (λ z. IsBegun (a ∷ z ∷ [])) f (faults.digits a b h k))
begun_left (faults.digits a b h k) (x ∷ y ∷ p) d q e = absurd (none_left p d q (tail_is (tail_is e)))
begun_left (faults.blanks b more h) [] d q e = subst (λ z. IsBegun (z ∷ [])) (head_is e) (faults.blanks b [] (h.0, tt))
begun_left (faults.blanks b more h) (x ∷ p) d q e =
    subst (λ z. IsBegun (z ∷ (p ++ d ∷ []))) (head_is e) (faults.blanks b (p ++ d ∷ []) (h.0, blanks_left b more p d q h.1 (tail_is e)))

-- a byte that doesn't fit stands in nothing that was begun
begun_fits : {begun : List ℕ} → IsBegun begun → (before : List ℕ) (b : ℕ) (rest : List ℕ) → Misfits before b → begun ≡ before ++ b ∷ rest → ⊥
begun_fits h before b rest m e = m.goes_on (begun_left h before b rest e)

misfits_once : (begun other : List ℕ) (a b : ℕ) (rest after : List ℕ) → Misfits begun a → Misfits other b → begun ++ a ∷ rest ≡ other ++ b ∷ after → a ≡ b
misfits_once begun other a b rest after m n e = by (two_fronts begun (a ∷ rest) other (b ∷ after) e)
  where
    inside : (x y : ℕ) (one two more xs ys : List ℕ) → Misfits one x → Misfits two y → two ≡ one ++ more → x ∷ xs ≡ more ++ y ∷ ys → x ≡ y
    inside x y one two [] xs ys k l f g = head_is g
    inside x y one two (c ∷ more) xs ys k l f g = absurd (begun_fits l.is_begun one x more k (f ∙ ap (λ z. one ++ z ∷ more) (sym (head_is g))))

    by : GoesOn begun other (a ∷ rest) (b ∷ after) ⊎ GoesOn other begun (b ∷ after) (a ∷ rest) → a ≡ b
    by (inl g) = inside a b begun other g.more rest after m n g.long_is g.rest_is
    by (inr g) = sym (inside b a other begun g.more after rest n m g.long_is g.rest_is)

-- what stands after a backslash
escape_of : {b : ℕ} {xs ys : List ℕ} → 92 ∷ xs ≡ b ∷ ys → is_control b ≡ true → ⊥
escape_of {b = b} e h = control_backslash b h (sym (head_is e))

-- a fault of a string stands in one place
pub in_string_once : {quote at : ℕ} {xs ys : List ℕ} {rule other : LexRule} {place there : ℕ} → FaultInString quote at xs rule place →
    FaultInString quote at ys other there → xs ≡ ys → Same rule other place there
in_string_once end_in_string end_in_string e = the_same
in_string_once end_in_string (line_in_string rest) e = the_same
in_string_once end_in_string (control_byte b rest h n) e = absurd (not_cons e)
in_string_once end_in_string (end_in_escape begun h) e = the_same
in_string_once end_in_string (line_in_escape begun rest m) e = the_same
in_string_once end_in_string (bad_escape begun b rest m n) e = absurd (not_cons e)
in_string_once (line_in_string rest) end_in_string e = the_same
in_string_once (line_in_string rest) (line_in_string after) e = the_same
in_string_once (line_in_string rest) (control_byte b after h n) e = absurd (n (sym (head_is e)))
in_string_once (line_in_string rest) (end_in_escape begun h) e = the_same
in_string_once (line_in_string rest) (line_in_escape begun after m) e = the_same
in_string_once (line_in_string rest) (bad_escape begun b after m n) e = absurd (differ 10 92 refl (head_is e))
in_string_once (control_byte b rest h n) end_in_string e = absurd (not_cons (sym e))
in_string_once (control_byte b rest h n) (line_in_string after) e = absurd (n (head_is e))
in_string_once (control_byte b rest h n) (control_byte c after k l) e = the_same
in_string_once (control_byte b rest h n) (end_in_escape begun k) e = absurd (escape_of (sym e) h)
in_string_once (control_byte b rest h n) (line_in_escape begun after m) e = absurd (escape_of (sym e) h)
in_string_once (control_byte b rest h n) (bad_escape begun c after m l) e = absurd (escape_of (sym e) h)
in_string_once (end_in_escape begun h) end_in_string e = the_same
in_string_once (end_in_escape begun h) (line_in_string after) e = the_same
in_string_once (end_in_escape begun h) (control_byte c after k l) e = absurd (escape_of e k)
in_string_once (end_in_escape begun h) (end_in_escape other k) e = the_same
in_string_once (end_in_escape begun h) (line_in_escape other after m) e = the_same
in_string_once (end_in_escape begun h) (bad_escape other c after m l) e = absurd (begun_fits h other c after m (tail_is e))
in_string_once (line_in_escape begun rest m) end_in_string e = the_same
in_string_once (line_in_escape begun rest m) (line_in_string after) e = the_same
in_string_once (line_in_escape begun rest m) (control_byte c after k l) e = absurd (escape_of e k)
in_string_once (line_in_escape begun rest m) (end_in_escape other k) e = the_same
in_string_once (line_in_escape begun rest m) (line_in_escape other after k) e = the_same
in_string_once (line_in_escape begun rest m) (bad_escape other c after k l) e = absurd (l (sym (misfits_once begun other 10 c rest after m k (tail_is e))))
in_string_once (bad_escape begun b rest m n) end_in_string e = absurd (not_cons (sym e))
in_string_once (bad_escape begun b rest m n) (line_in_string after) e = absurd (differ 92 10 refl (head_is e))
in_string_once (bad_escape begun b rest m n) (control_byte c after k l) e = absurd (escape_of e k)
in_string_once (bad_escape begun b rest m n) (end_in_escape other k) e = absurd (begun_fits k begun b rest m (sym (tail_is e)))
in_string_once (bad_escape begun b rest m n) (line_in_escape other after k) e = absurd (n (misfits_once begun other b 10 rest after m k (tail_is e)))
in_string_once (bad_escape begun b rest m n) (bad_escape other c after k l) e = the_same

-- no fault stands where a string goes on
fault_plain : {quote at : ℕ} {xs : List ℕ} {rule : LexRule} {place : ℕ} → FaultInString quote at xs rule place →
    (b : ℕ) (rest : List ℕ) → xs ≡ b ∷ rest → is_plain b ≡ true → ⊥
fault_plain end_in_string b rest e h = not_cons e
fault_plain (line_in_string after) b rest e h = apart is_plain 10 b refl h (head_is e)
fault_plain (control_byte c after k n) b rest e h = apart is_plain c b (control_plain c k) h (head_is e)
fault_plain (end_in_escape begun k) b rest e h = apart is_plain 92 b refl h (head_is e)
fault_plain (line_in_escape begun after m) b rest e h = apart is_plain 92 b refl h (head_is e)
fault_plain (bad_escape begun c after m n) b rest e h = apart is_plain 92 b refl h (head_is e)

fault_escape : {quote at : ℕ} {xs : List ℕ} {rule : LexRule} {place : ℕ} → FaultInString quote at xs rule place →
    {escape meant : List ℕ} → Escape escape meant → (rest : List ℕ) → xs ≡ 92 ∷ escape ++ rest → ⊥
fault_escape end_in_string h rest e = not_cons e
fault_escape (line_in_string after) h rest e = differ 10 92 refl (head_is e)
fault_escape (control_byte c after k n) h rest e = control_backslash c k (head_is e)
fault_escape (end_in_escape begun k) h rest e = begun_no_escape k h rest (tail_is e)
fault_escape (line_in_escape begun after m) h rest e = misfit_no_escape 10 m h after rest (tail_is e)
fault_escape (bad_escape begun c after m n) h rest e = misfit_no_escape c m h after rest (tail_is e)

-- after two prefixes of one string stands one fault
pub quoted_fault_once : {quote at to : ℕ} {short meant long meaning rest after : List ℕ} {rule other : LexRule} {place there : ℕ} →
    IsQuoted short meant → IsQuoted long meaning → (from : ℕ) → at ≡ from + length short → to ≡ from + length long →
    FaultInString quote at rest rule place → FaultInString quote to after other there → short ++ rest ≡ long ++ after → Same rule other place there
quoted_fault_once {quote = quote} {after = after} {other = other} {there = there} nothing nothing from a b f g e =
    in_string_once f (subst (λ n. FaultInString quote n after other there) (b ∙ sym a) g) e
quoted_fault_once {after = after} nothing (plain c {bytes = bytes} h q) from a b f g e = absurd (fault_plain f c (bytes ++ after) e h)
quoted_fault_once {after = after} nothing (escaped {escape = escape} {bytes = bytes} h q) from a b f g e =
    absurd (fault_escape f h (bytes ++ after) (e ∙ ap (λ l. 92 ∷ l) (append_assoc escape bytes after)))
quoted_fault_once {rest = rest} (plain c {bytes = bytes} h q) nothing from a b f g e = absurd (fault_plain g c (bytes ++ rest) (sym e) h)
quoted_fault_once (plain c {bytes = bytes} h q) (plain d {bytes = others} k r) from a b f g e =
    quoted_fault_once q r (from + 1) (a ∙ omega arith) (b ∙ omega arith) f g (tail_is e)
quoted_fault_once (plain c h q) (escaped k r) from a b f g e = absurd (apart is_plain 92 c refl h (sym (head_is e)))
quoted_fault_once {rest = rest} (escaped {escape = escape} {bytes = bytes} h q) nothing from a b f g e =
    absurd (fault_escape g h (bytes ++ rest) (sym e ∙ ap (λ l. 92 ∷ l) (append_assoc escape bytes rest)))
quoted_fault_once (escaped h q) (plain d k r) from a b f g e = absurd (apart is_plain 92 d refl k (head_is e))
quoted_fault_once {rest = rest} {after = after} (escaped {escape = escape} {bytes = bytes} h q)
    (escaped {escape = escape'} {bytes = others} k r) from a b f g e =
    let w : (escape ++ bytes) ++ rest ≡ (escape' ++ others) ++ after = tail_is e in
    let s = escape_once h k (bytes ++ rest) (others ++ after) (sym (append_assoc escape bytes rest) ∙ w ∙ append_assoc escape' others after) in
    quoted_fault_once q r (from + 1 + length escape) (a ∙ behind from escape bytes) (b ∙ behind from escape' others
    ∙ ap (λ l. from + 1 + length l + length others) (sym s.escape_is)) f g s.rest_is
  where
    behind : (from : ℕ) (xs ys : List ℕ) → from + length (92 ∷ xs ++ ys) ≡ from + 1 + length xs + length ys
    behind from xs ys = let l : length (xs ++ ys) ≡ length xs + length ys = length-append xs ys in omega arith
