-- Loops over bytes that pass a test, over blanks, and over kinds.
use Rattle.std.proofs.Common.{ℕ, ◌+◌, ◌-◌, ◌≡◌, ◌<◌, ◌≤◌, List, [], ◌∷◌, ◌++◌, Bool, true, false, length, take, drop, get_or, refl, sym, ap, ◌∙◌}
use Rattle.std.proofs.Common.{append_assoc, append-nil, arith}
use Rattle.std.specs.Prelude.{◌==◌, not, codes}
use Rattle.std.specs.List.{prefix_len, suffix_len}
use Rattle.std.proofs.lemmas.Bool.Decides.{nat_tests}
use Rattle.std.proofs.lemmas.List.{at_drop_more, at_drop_all}
use Rattle.std.proofs.lemmas.List.Sums.{prefix_len-drop_yes, prefix_len-drop_no, prefix_len-drop_all, suffix_len-take_no, suffix_len-take_yes}
use Rattle.std.proofs.Math.Seq.{take-length}
use Rattle.tg_explain.specs.declared.kinds.TokenKind.{TokenKind}
use Rattle.tg_explain.specs.Words.{kind_text}
use Rattle.tg_explain.specs.Lines.{kind_texts}

pub run_more : (test : ℕ → Bool) (xs : List ℕ) (i : ℕ) → i < length xs → i + prefix_len test (drop i xs) ≡ prefix_len test xs → test (get_or xs i 0) ≡ true →
    i + 1 + prefix_len test (drop (i + 1) xs) ≡ prefix_len test xs
run_more test xs i l inv e = let goes = prefix_len-drop_yes test xs i 0 l e in omega (arith, goes, inv)

pub run_stops : (test : ℕ → Bool) (xs : List ℕ) (i : ℕ) → i < length xs → i + prefix_len test (drop i xs) ≡ prefix_len test xs → test (get_or xs i 0) ≡ false →
    i ≡ prefix_len test xs
run_stops test xs i l inv e = let stops = prefix_len-drop_no test xs i 0 l e in omega (arith, stops, inv)

pub run_ends : (test : ℕ → Bool) (xs : List ℕ) (i : ℕ) → length xs ≤ i → i ≤ length xs → i + prefix_len test (drop i xs) ≡ prefix_len test xs →
    length xs ≡ prefix_len test xs
run_ends test xs i l le inv = let none = prefix_len-drop_all test xs i l in omega (arith, none, inv)

abbrev pub inked : ℕ → Bool
inked b = not (b == 32)

is_blank : (b : ℕ) → b ≡ 32 → (b == 32) ≡ true
is_blank b e = grind (arith, nat_tests)

is_ink : (b : ℕ) → (b ≡ 32 → ⊥) → (b == 32) ≡ false
is_ink b e = grind (arith, nat_tests)

one_back : (i : ℕ) → i + 1 - 1 ≡ i
one_back i = omega arith

-- the last blank so far
pub blank_here : (xs : List ℕ) (i end : ℕ) → i < length xs → get_or xs i 0 ≡ 32 → end ≡ i → end ≡ i + 1 - suffix_len inked (take (i + 1) xs) - 1
blank_here xs i end l e q =
    let none = suffix_len-take_no inked xs (i + 1) 0 (omega arith) (omega arith) (ap (λ k. inked (get_or xs k 0)) (one_back i) ∙ ap not (is_blank _ e)) in
    omega (arith, none, q)

pub no_blank_here : (xs : List ℕ) (i before end : ℕ) → i < length xs → (get_or xs i 0 ≡ 32 → ⊥) → before ≡ i - suffix_len inked (take i xs) - 1 → end ≡ before →
    end ≡ i + 1 - suffix_len inked (take (i + 1) xs) - 1
no_blank_here xs i before end l e inv q =
    let more = suffix_len-take_yes inked xs (i + 1) 0 (omega arith) (omega arith) (ap (λ k. inked (get_or xs k 0)) (one_back i) ∙ ap not (is_ink _ e)) in
    let same = ap (λ k. suffix_len inked (take k xs)) (one_back i) in
    omega (arith, more, same, inv, q)

pub blanks_end : (xs : List ℕ) (i end : ℕ) → length xs ≤ i → i ≤ length xs → end ≡ i - suffix_len inked (take i xs) - 1 →
    end ≡ length xs - suffix_len inked xs - 1
blanks_end xs i end l le inv =
    let n : i ≡ length xs = omega arith in
    let all = ap (λ k. suffix_len inked (take k xs)) n ∙ ap (suffix_len inked) (take-length xs) in
    omega (arith, all, inv, n)

-- kinds, each behind a blank
pub kinds_more : (xs : List TokenKind) (i : ℕ) (d : TokenKind) (a b e whole : List ℕ) → i < length xs → a ++ kind_texts (drop i xs) ≡ whole →
    b ≡ a ++ codes " " → e ≡ b ++ kind_text (get_or xs i d) → e ++ kind_texts (drop (i + 1) xs) ≡ whole
kinds_more xs i d a b e whole l inv p q =
    ap (λ w. w ++ kind_texts (drop (i + 1) xs)) (q ∙ ap (λ w. w ++ kind_text (get_or xs i d)) p)
    ∙ ap (λ w. w ++ kind_texts (drop (i + 1) xs)) (append_assoc a (codes " ") (kind_text (get_or xs i d)))
    ∙ append_assoc a (codes " " ++ kind_text (get_or xs i d)) (kind_texts (drop (i + 1) xs))
    ∙ ap (λ w. a ++ w) (sym (at_drop_more kind_texts xs i d l)) ∙ inv

pub kinds_end : (xs : List TokenKind) (i : ℕ) (a whole : List ℕ) → length xs ≤ i → a ++ kind_texts (drop i xs) ≡ whole → a ≡ whole
kinds_end xs i a whole l inv = sym (append-nil a) ∙ ap (λ w. a ++ w) (sym (at_drop_all kind_texts xs i l)) ∙ inv
