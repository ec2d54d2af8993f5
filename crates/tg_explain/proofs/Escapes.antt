-- A bad escape is told whole.
use Rattle.std.proofs.Common.{ℕ, ◌+◌, ◌≡◌, ◌≤◌, List, [], ◌∷◌, ◌++◌, Bool, true, false, length, take, min, refl, sym, ap, subst, ◌∙◌, append_assoc, arith}
use Rattle.std.proofs.Common.{length-append}
use Rattle.std.specs.Prelude.{◌==◌, if◌then◌else◌}
use Rattle.std.specs.List.{prefix_len}
use Rattle.std.proofs.Math.Seq.{take-append_seam}
use Rattle.std.proofs.lemmas.Bool.Decides.{nat_tests}
use Rattle.tg_syntax.specs.Spellings.{AllAre, is_digit, is_white_space}
use Rattle.tg_syntax.specs.LexicalFaults.{IsBegun, backslash, caret, digit, digits, blanks, Misfits}
use Rattle.tg_explain.specs.Lexical.{begun_length, bad_escape}
use Rattle.tg_explain.specs.laws.WholeEscapes.{TellsWholeEscapes}

is_caret : (b : ℕ) → (b == 94) ≡ true → b ≡ 94
is_caret b e = grind (arith, nat_tests, e)

digit_above : (b : ℕ) → is_digit b ≡ true → 48 ≤ b
digit_above b e = grind (arith, nat_tests, e)

blank_below : (b : ℕ) → is_white_space b ≡ true → b ≤ 32
blank_below b e = grind (arith, nat_tests, e)

by_tests : (b : ℕ) (rest : List ℕ) (x y : Bool) → (b == 94) ≡ x → is_digit b ≡ y → begun_length (b ∷ rest)
    ≡ (if x then 1 else (if y then min 2 (prefix_len is_digit (b ∷ rest)) else prefix_len is_white_space (b ∷ rest)))
by_tests b rest x y p q =
    ap (λ w. if w then 1 else (if is_digit b then min 2 (prefix_len is_digit (b ∷ rest)) else prefix_len is_white_space (b ∷ rest))) p
    ∙ ap (λ w. if x then 1 else (if w then min 2 (prefix_len is_digit (b ∷ rest)) else prefix_len is_white_space (b ∷ rest))) q

stops : (test : ℕ → Bool) (b : ℕ) (rest : List ℕ) → test b ≡ false → prefix_len test (b ∷ rest) ≡ 0
stops test b rest e = ap (λ w. if w then 1 + prefix_len test rest else 0) e

goes : (test : ℕ → Bool) (b : ℕ) (rest : List ℕ) → test b ≡ true → prefix_len test (b ∷ rest) ≡ 1 + prefix_len test rest
goes test b rest e = ap (λ w. if w then 1 + prefix_len test rest else 0) e

-- nothing was read
after_none : (b : ℕ) (rest : List ℕ) (x y z : Bool) → (b == 94) ≡ x → is_digit b ≡ y → is_white_space b ≡ z → (IsBegun (b ∷ []) → ⊥) →
    begun_length (b ∷ rest) ≡ 0
after_none b rest true y z p q r n = absurd (n (subst (λ w. IsBegun (w ∷ [])) (sym (is_caret b p)) caret))
after_none b rest false true z p q r n = absurd (n (digit b q))
after_none b rest false false true p q r n = absurd (n (blanks b [] (r, tt)))
after_none b rest false false false p q r n = by_tests b rest false false p q ∙ stops is_white_space b rest r

digit_no_caret : (a : ℕ) (x : Bool) → (a == 94) ≡ x → is_digit a ≡ true → (a == 94) ≡ false
digit_no_caret a true p h = let e : false ≡ true = sym (ap is_digit (is_caret a p)) ∙ h in cc
digit_no_caret a false p h = p

blank_no_caret : (a : ℕ) (x : Bool) → (a == 94) ≡ x → is_white_space a ≡ true → (a == 94) ≡ false
blank_no_caret a true p h = let e : false ≡ true = sym (ap is_white_space (is_caret a p)) ∙ h in cc
blank_no_caret a false p h = p

blank_no_digit : (a : ℕ) (x : Bool) → is_digit a ≡ x → is_white_space a ≡ true → is_digit a ≡ false
blank_no_digit a true p h = absurd (omega (arith, digit_above a p, blank_below a h))
blank_no_digit a false p h = p

-- one digit
after_digit : (a b : ℕ) (rest : List ℕ) (y : Bool) → is_digit a ≡ true → is_digit b ≡ y → (IsBegun (a ∷ b ∷ []) → ⊥) → begun_length (a ∷ b ∷ rest) ≡ 1
after_digit a b rest true h q n = absurd (n (digits a b h q))
after_digit a b rest false h q n =
    by_tests a (b ∷ rest) false true (digit_no_caret a (a == 94) refl h) h
    ∙ ap (min 2) (goes is_digit a (b ∷ rest) h ∙ ap (λ k. 1 + k) (stops is_digit b rest q))

-- two
after_digits : (a b c : ℕ) (rest : List ℕ) → is_digit a ≡ true → is_digit b ≡ true → begun_length (a ∷ b ∷ c ∷ rest) ≡ 2
after_digits a b c rest h k =
    by_tests a (b ∷ c ∷ rest) false true (digit_no_caret a (a == 94) refl h) h
    ∙ ap (min 2) (goes is_digit a (b ∷ c ∷ rest) h ∙ ap (λ n. 1 + n) (goes is_digit b (c ∷ rest) k)) ∙ omega arith

-- blanks
all_blanks : (xs : List ℕ) (b : ℕ) (rest : List ℕ) → AllAre is_white_space xs → is_white_space b ≡ false →
    prefix_len is_white_space (xs ++ b ∷ rest) ≡ length xs
all_blanks [] b rest h q = stops is_white_space b rest q
all_blanks (x ∷ xs) b rest h q = goes is_white_space x (xs ++ b ∷ rest) h.0 ∙ omega (arith, all_blanks xs b rest h.1 q)

one_more_blank : (xs : List ℕ) (b : ℕ) → AllAre is_white_space xs → is_white_space b ≡ true → AllAre is_white_space (xs ++ b ∷ [])
one_more_blank [] b h q = (q, tt)
one_more_blank (x ∷ xs) b h q = (h.0, one_more_blank xs b h.1 q)

after_blanks : (a : ℕ) (more : List ℕ) (b : ℕ) (rest : List ℕ) (z : Bool) → AllAre is_white_space (a ∷ more) → is_white_space b ≡ z →
    (IsBegun (a ∷ more ++ b ∷ []) → ⊥) → begun_length (a ∷ more ++ b ∷ rest) ≡ length (a ∷ more)
after_blanks a more b rest true h q n = absurd (n (blanks a (more ++ b ∷ []) (one_more_blank (a ∷ more) b h q)))
after_blanks a more b rest false h q n =
    by_tests a (more ++ b ∷ rest) false false (blank_no_caret a (a == 94) refl h.0) (blank_no_digit a (is_digit a) refl h.0)
    ∙ all_blanks (a ∷ more) b rest h q

begun_is : (begun : List ℕ) (b : ℕ) (rest : List ℕ) → IsBegun begun → (IsBegun (begun ++ b ∷ []) → ⊥) → begun_length (begun ++ b ∷ rest) ≡ length begun
begun_is _ b rest backslash n = after_none b rest (b == 94) (is_digit b) (is_white_space b) refl refl refl n
begun_is _ b rest caret n = refl
begun_is _ b rest (digit a h) n = after_digit a b rest (is_digit b) h refl n
begun_is _ b rest (digits a c h k) n = after_digits a c b rest h k
begun_is _ b rest (blanks a more h) n = after_blanks a more b rest (is_white_space b) h refl n

front_is : (begun : List ℕ) (b : ℕ) (rest : List ℕ) (n : ℕ) → n ≡ length begun → take (n + 2) (92 ∷ begun ++ b ∷ rest) ≡ 92 ∷ begun ++ b ∷ []
front_is begun b rest n e =
    let long : n + 2 ≡ length (92 ∷ begun ++ b ∷ []) = omega (arith, length-append begun (b ∷ [])) in
    ap (λ k. take k (92 ∷ begun ++ b ∷ rest)) long ∙ ap (λ w. take (length (92 ∷ begun ++ b ∷ [])) (92 ∷ w)) (sym (append_assoc begun (b ∷ []) rest))
    ∙ take-append_seam (92 ∷ begun ++ b ∷ []) rest

pub whole_escapes : TellsWholeEscapes
whole_escapes begun b rest h = front_is begun b rest (begun_length (begun ++ b ∷ rest)) (begun_is begun b rest h.is_begun h.goes_on)
