-- Strings: one prefix of a text alone is one, and a fault in it leaves none.
use Rattle.std.proofs.Common.{ℕ, ◌≡◌, List, [], ◌∷◌, ◌++◌, true, false, refl, sym, ap, ◌∙◌, arith, append_assoc, append-nil}
use Rattle.std.proofs.lemmas.Bool.Decides.{nat_tests}
use Rattle.tg_syntax.specs.declared.faults.LexRule.{LexRule}
use Rattle.tg_syntax.specs.Spellings.{IsQuoted, nothing, plain, escaped, is_plain}
use Rattle.tg_syntax.specs.LexicalFaults.{FaultInString, end_in_string, line_in_string, control_byte, end_in_escape, line_in_escape, bad_escape}
use Rattle.tg_syntax.specs.LexicalFaults.{is_control, Misfits}
use Rattle.tg_lexer.proofs.Basics.{head_is, tail_is, not_cons, differ, apart}
use Rattle.tg_lexer.proofs.Escapings.{escape_once, begun_no_escape, misfit_no_escape}

pub IsQuoted-append : {xs meant ys more : List ℕ} → IsQuoted xs meant → IsQuoted ys more → IsQuoted (xs ++ ys) (meant ++ more)
IsQuoted-append nothing k = k
IsQuoted-append (plain b h q) k = plain b h (IsQuoted-append q k)
IsQuoted-append {ys = ys} {more = last} (escaped {escape = escape} {more = more} {bytes = bytes} {meant = meant} h q) k =
    rw (append_assoc escape bytes ys, append_assoc more meant last) (escaped h (IsQuoted-append q k))

-- the rest of a longer string
pub record Goes (short long meant meaning rest after : List ℕ) : Type 0 where
  pub more : List ℕ
  pub means : List ℕ
  pub long_is : long ≡ short ++ more
  pub meaning_is : meaning ≡ meant ++ means
  pub quoted : IsQuoted more means
  pub rest_is : rest ≡ more ++ 34 ∷ after

cons_same : {a b : ℕ} {xs ys : List ℕ} → a ≡ b → xs ≡ ys → a ∷ xs ≡ b ∷ ys
cons_same e f = cc

pub quoted_goes_on : {short meant long meaning : List ℕ} → IsQuoted short meant → IsQuoted long meaning → (rest after : List ℕ) →
    short ++ rest ≡ long ++ 34 ∷ after → Goes short long meant meaning rest after
quoted_goes_on {long = long} {meaning = meaning} nothing k rest after e =
    record { more = long; means = meaning; long_is = refl; meaning_is = refl; quoted = k; rest_is = e }
quoted_goes_on (plain b {bytes = bytes} {meant = meant} h q) nothing rest after e = absurd (apart is_plain 34 b refl h (sym (head_is e)))
quoted_goes_on (plain b {bytes = bytes} {meant = meant} h q) (plain c {bytes = others} {meant = meaning} h' q') rest after e =
    let g = quoted_goes_on q q' rest after (tail_is e) in
    record {
      more = g.more;
      means = g.means;
      long_is = cons_same (sym (head_is e)) g.long_is;
      meaning_is =
          cons_same (sym (head_is e)) g.meaning_is;
      quoted = g.quoted;
      rest_is = g.rest_is;
    }
quoted_goes_on (plain b {bytes = bytes} {meant = meant} h q) (escaped {escape = escape} {more = more} {bytes = others} {meant = meaning} h' q') rest after e =
    absurd (apart is_plain 92 b refl h (sym (head_is e)))
quoted_goes_on (escaped {escape = escape} {more = more} {bytes = bytes} {meant = meant} h q) nothing rest after e = absurd (differ 92 34 refl (head_is e))
quoted_goes_on (escaped {escape = escape} {more = more} {bytes = bytes} {meant = meant} h q)
    (plain c {bytes = others} {meant = meaning} h' q') rest after e = absurd (apart is_plain 92 c refl h' (head_is e))
quoted_goes_on (escaped {escape = escape} {more = more} {bytes = bytes} {meant = meant} h q)
    (escaped {escape = escape'} {more = more'} {bytes = others} {meant = meaning} h' q') rest after e =
    let f : (escape ++ bytes) ++ rest ≡ (escape' ++ others) ++ 34 ∷ after = tail_is e in
    let s = escape_once h h' (bytes ++ rest) (others ++ 34 ∷ after) (sym (append_assoc escape bytes rest) ∙ f ∙ append_assoc escape' others (34 ∷ after)) in
    let g = quoted_goes_on q q' rest after s.rest_is in
    record {
      more = g.more;
      means = g.means;
      long_is = ap (λ l. 92 ∷ l) (ap (λ l. l ++ others) (sym s.escape_is) ∙ ap (λ l. escape ++ l) g.long_is ∙ sym (append_assoc escape bytes g.more));
      meaning_is = ap (λ l. l ++ meaning) (sym s.meant_is) ∙ ap (λ l. more ++ l) g.meaning_is ∙ sym (append_assoc more meant g.means);
      quoted = g.quoted;
      rest_is = g.rest_is;
    }

-- a string ends at its first quote
no_quote : {more means : List ℕ} → IsQuoted more means → (rest after : List ℕ) → 34 ∷ rest ≡ more ++ 34 ∷ after → (more ≡ []) × (means ≡ [])
no_quote nothing rest after e = (refl, refl)
no_quote (plain b h q) rest after e = absurd (apart is_plain 34 b refl h (head_is e))
no_quote (escaped h q) rest after e = absurd (differ 34 92 refl (head_is e))

pub record SameString (short long meant meaning : List ℕ) : Type 0 where
  pub string_is : short ≡ long
  pub meant_is : meant ≡ meaning

pub quoted_once : {short meant long meaning : List ℕ} → IsQuoted short meant → IsQuoted long meaning → (rest after : List ℕ) →
    short ++ 34 ∷ rest ≡ long ++ 34 ∷ after → SameString short long meant meaning
quoted_once {short = short} {meant = meant} {long = long} {meaning = meaning} q q' rest after e =
    let g = quoted_goes_on q q' (34 ∷ rest) after e in
    let n = no_quote g.quoted rest after g.rest_is in
    record {
      string_is = sym (g.long_is ∙ ap (λ l. short ++ l) n.0 ∙ append-nil short);
      meant_is = sym (g.meaning_is ∙ ap (λ l. meant ++ l) n.1 ∙ append-nil meant);
    }

-- no string goes on where a fault stands
pub control_plain : (b : ℕ) → is_control b ≡ true → is_plain b ≡ false
control_plain b h = grind (arith, nat_tests)

control_quote : (b : ℕ) → is_control b ≡ true → b ≡ 34 → ⊥
control_quote b h e = apart is_control 34 b refl h (sym e)

pub control_backslash : (b : ℕ) → is_control b ≡ true → b ≡ 92 → ⊥
control_backslash b h e = apart is_control 92 b refl h (sym e)

-- a string that begins with a control byte
no_control : (b : ℕ) → is_control b ≡ true → {more means : List ℕ} → IsQuoted more means → (rest after : List ℕ) → b ∷ rest ≡ more ++ 34 ∷ after → ⊥
no_control b h nothing rest after e = control_quote b h (head_is e)
no_control b h (plain c k q) rest after e = apart is_plain b c (control_plain b h) k (head_is e)
no_control b h (escaped k q) rest after e = control_backslash b h (head_is e)

no_misfit : (begun : List ℕ) (b : ℕ) (rest : List ℕ) → Misfits begun b → {more means : List ℕ} → IsQuoted more means →
    (after : List ℕ) → 92 ∷ begun ++ b ∷ rest ≡ more ++ 34 ∷ after → ⊥
no_misfit begun b rest m nothing after e = differ 92 34 refl (head_is e)
no_misfit begun b rest m (plain c k q) after e = apart is_plain 92 c refl k (head_is e)
no_misfit begun b rest m (escaped {escape = escape} {more = more} {bytes = bytes} k q) after e =
    let f : begun ++ b ∷ rest ≡ (escape ++ bytes) ++ 34 ∷ after = tail_is e in
    misfit_no_escape b m k rest (bytes ++ 34 ∷ after) (f ∙ append_assoc escape bytes (34 ∷ after))

pub fault_no_string : {from at : ℕ} {rest : List ℕ} {rule : LexRule} {place : ℕ} → FaultInString from at rest rule place →
    {more means : List ℕ} → IsQuoted more means → (after : List ℕ) → rest ≡ more ++ 34 ∷ after → ⊥
fault_no_string end_in_string nothing after e = not_cons e
fault_no_string end_in_string (plain b h q) after e = not_cons e
fault_no_string end_in_string (escaped h q) after e = not_cons e
fault_no_string (line_in_string rest) q after e = no_control 10 refl q rest after e
fault_no_string (control_byte b rest h ne) q after e = no_control b h q rest after e
fault_no_string (end_in_escape begun h) nothing after e = differ 92 34 refl (head_is e)
fault_no_string (end_in_escape begun h) (plain c k q) after e = apart is_plain 92 c refl k (head_is e)
fault_no_string (end_in_escape begun h) (escaped {escape = escape} {more = more} {bytes = bytes} k q) after e =
    let f : begun ≡ (escape ++ bytes) ++ 34 ∷ after = tail_is e in
    begun_no_escape h k (bytes ++ 34 ∷ after) (f ∙ append_assoc escape bytes (34 ∷ after))
fault_no_string (line_in_escape begun rest m) q after e = no_misfit begun 10 rest m q after e
fault_no_string (bad_escape begun b rest m ne) q after e = no_misfit begun b rest m q after e
