-- An escape, by its bytes.
use Rattle.std.proofs.Common.{ℕ, zero, suc, ◌+◌, ◌≡◌, ◌≢◌, ◌≤◌, ◌<◌, ◌%◌, List, [], ◌∷◌, ◌++◌, length, inl, inr, Bool, true, false, take, drop, refl}
use Rattle.std.proofs.Common.{sym, ap, subst, ◌∙◌, arith, append_assoc, length-append}
use Rattle.std.specs.Prelude.{◌==◌, ◌||◌, ◌⊎◌, MatchBool, IsTrue, Some, None, slice_get}
use Rattle.std.proofs.lemmas.Bool.{eqb-true}
use Rattle.std.proofs.lemmas.Bool.Decides.{nat_tests}
use Rattle.std.proofs.lemmas.List.{take_at, length-take-le}
use Rattle.std.specs.Str.Parse.{digits_value}
use Rattle.tg_syntax.proofs.Numerals.{is_digit_from, bytes_of_digits, digits_of_bytes}
use Rattle.tg_syntax.specs.Spellings.{Escape, newline, tab, quote, backslash, control, decimal, blanks, AllAre, is_digit, is_white_space, is_between}
use Rattle.tg_syntax.specs.LexicalFaults.{IsBegun, Misfits}
use Rattle.tg_lexer.specs.declared.escapes.Escaped.{Escaped}
use Rattle.tg_lexer.specs.declared.escapes.Escaped.TheVariants.{Cut, Bad}
use Rattle.tg_lexer.specs.glue.Lexemes.{IsCut, ended, line, IsBad, bad, IsEscape, IsMisfit, IsStretch}
use Rattle.tg_lexer.proofs.Basics.{head_is, tail_is, not_cons, differ, apart, clash, AllAre_right}

-- the bytes of a text, by its places
pub no_byte : (text : List ℕ) → None ≡ slice_get text 0 → text ≡ []
no_byte [] e = refl
no_byte (b ∷ text) e = cc

pub first_byte : (text : List ℕ) (a : ℕ) → slice_get text 0 ≡ Some a → text ≡ a ∷ drop 1 text
first_byte [] a e = cc
first_byte (b ∷ text) a e = cc

pub alone : (text : List ℕ) (a : ℕ) → slice_get text 0 ≡ Some a → None ≡ slice_get text 1 → text ≡ a ∷ []
alone [] a e f = cc
alone (b ∷ []) a e f = cc
alone (b ∷ c ∷ text) a e f = cc

pub two_first : (text : List ℕ) (a b : ℕ) → slice_get text 0 ≡ Some a → Some b ≡ slice_get text 1 → text ≡ a ∷ b ∷ drop 2 text
two_first [] a b e f = cc
two_first (x ∷ []) a b e f = cc
two_first (x ∷ y ∷ text) a b e f = cc

pub two_alone : (text : List ℕ) (a b : ℕ) → slice_get text 0 ≡ Some a → Some b ≡ slice_get text 1 → None ≡ slice_get text 2 → text ≡ a ∷ b ∷ []
two_alone [] a b e f g = cc
two_alone (x ∷ []) a b e f g = cc
two_alone (x ∷ y ∷ []) a b e f g = cc
two_alone (x ∷ y ∷ z ∷ text) a b e f g = cc

pub three_first : (text : List ℕ) (a b c : ℕ) → slice_get text 0 ≡ Some a → Some b ≡ slice_get text 1 → Some c ≡ slice_get text 2 →
    text ≡ a ∷ b ∷ c ∷ drop 3 text
three_first [] a b c e f g = cc
three_first (x ∷ []) a b c e f g = cc
three_first (x ∷ y ∷ []) a b c e f g = cc
three_first (x ∷ y ∷ z ∷ text) a b c e f g = cc

-- the prefix of a text, of so many bytes
pub escape_whole : (text front rest meant : List ℕ) → text ≡ front ++ rest → Escape front meant → (length front ≤ length text) ×
    Escape (take (length front) text) meant
escape_whole text front rest meant e h = rw e (by front rest h)
  where
    within : (front rest : List ℕ) → length front ≤ length (front ++ rest)
    within [] rest = omega arith
    within (b ∷ front) rest = omega (arith, within front rest)

    by : (front rest : List ℕ) → Escape front meant → (length front ≤ length (front ++ rest)) × Escape (take (length front) (front ++ rest)) meant
    by front rest h = (within front rest, rw (take_at front rest (length front) refl) h)

-- which escapes were begun or end, by their first bytes
begun_shape : {xs : List ℕ} → IsBegun xs → (a b : ℕ) (more : List ℕ) → xs ≡ a ∷ b ∷ more → is_white_space a ≡ false →
    (IsTrue (is_digit a)) × (IsTrue (is_digit b)) × (more ≡ [])
begun_shape IsBegun.backslash a b more e n = absurd (not_cons e)
begun_shape IsBegun.caret a b more e n = absurd (not_cons (tail_is e))
begun_shape (IsBegun.digit x h) a b more e n = absurd (not_cons (tail_is e))
begun_shape (IsBegun.digits x y h k) a b more e n =
    (subst (λ z. IsTrue (is_digit z)) (head_is e) h, subst (λ z. IsTrue (is_digit z)) (head_is (tail_is e)) k, sym (tail_is (tail_is e)))
begun_shape (IsBegun.blanks x more' h) a b more e n = absurd (apart is_white_space a x n h.0 (sym (head_is e)))

begun_first : {xs : List ℕ} → IsBegun xs → (a : ℕ) → xs ≡ a ∷ [] → (a == 94) ≡ false → is_digit a ≡ false → is_white_space a ≡ false → ⊥
begun_first IsBegun.backslash a e c d n = not_cons e
begun_first IsBegun.caret a e c d n = apart (λ z. z == 94) a 94 c refl (sym (head_is e))
begun_first (IsBegun.digit x h) a e c d n = apart is_digit a x d h (sym (head_is e))
begun_first (IsBegun.digits x y h k) a e c d n = not_cons (sym (tail_is e))
begun_first (IsBegun.blanks x more h) a e c d n = apart is_white_space a x n h.0 (sym (head_is e))

-- an escape of one byte
escape_one : {xs meant : List ℕ} → Escape xs meant → (a : ℕ) → xs ≡ a ∷ [] → (a == 110) ≡ false → (a == 116) ≡ false → (a == 34) ≡ false → (a == 92) ≡ false → ⊥
escape_one newline a e n t q s = apart (λ z. z == 110) a 110 n refl (sym (head_is e))
escape_one tab a e n t q s = apart (λ z. z == 116) a 116 t refl (sym (head_is e))
escape_one quote a e n t q s = apart (λ z. z == 34) a 34 q refl (sym (head_is e))
escape_one backslash a e n t q s = apart (λ z. z == 92) a 92 s refl (sym (head_is e))
escape_one (control b h) a e n t q s = not_cons (sym (tail_is e))
escape_one (decimal x y z h le) a e n t q s = not_cons (sym (tail_is e))
escape_one (blanks b more h) a e n t q s = no_end more (tail_is e)
  where
    no_end : (more : List ℕ) → more ++ 92 ∷ [] ≡ [] → ⊥
    no_end [] e = not_cons (sym e)
    no_end (x ∷ more) e = not_cons (sym e)

-- a longer one that begins with a caret, a digit or a blank
escape_more : {xs meant : List ℕ} → Escape xs meant → (a b : ℕ) (more : List ℕ) → xs ≡ a ∷ b ∷ more → is_white_space a ≡ false →
    ((a ≡ 94) × IsTrue (is_between 64 95 b || is_between 97 122 b)) ⊎ (IsTrue (is_digit a) × IsTrue (is_digit b) × (c : ℕ) ×
    (more ≡ c ∷ []) × IsTrue (is_digit c) × (digits_value 10 (a ∷ b ∷ c ∷ []) ≤ 255))
escape_more newline a b more e n = absurd (not_cons (tail_is e))
escape_more tab a b more e n = absurd (not_cons (tail_is e))
escape_more quote a b more e n = absurd (not_cons (tail_is e))
escape_more backslash a b more e n = absurd (not_cons (tail_is e))
escape_more (control x h) a b more e n = inl (sym (head_is e), subst (λ z. IsTrue (is_between 64 95 z || is_between 97 122 z)) (head_is (tail_is e)) h)
escape_more (decimal x y z h le) a b more e n =
    let ea : x ≡ a = head_is e in
    let eb : y ≡ b = head_is (tail_is e) in
    let d = bytes_of_digits (x ∷ y ∷ z ∷ []) h in
    inr (
      subst (λ z. IsTrue (is_digit z)) ea d.0,
      subst (λ z. IsTrue (is_digit z)) eb d.1.0,
      z,
      sym (tail_is (tail_is e)),
      d.1.1.0,
      subst (λ v. digits_value 10 (a ∷ v ∷ z ∷ []) ≤ 255) eb (subst (λ v. digits_value 10 (v ∷ y ∷ z ∷ []) ≤ 255) ea le),
    )
escape_more (blanks x more' h) a b more e n = absurd (apart is_white_space a x n h.0 (sym (head_is e)))

digit_blank : (b : ℕ) → is_digit b ≡ true → is_white_space b ≡ false
digit_blank b h = grind (arith, nat_tests)

digit_caret : (b : ℕ) → is_digit b ≡ true → (b == 94) ≡ false
digit_caret b h = grind (arith, nat_tests)

-- a byte with which nothing goes on, by what was begun
pub misfits_none : (b : ℕ) → (b == 110) ≡ false → (b == 116) ≡ false → (b == 34) ≡ false → (b == 92) ≡ false →
    (b == 94) ≡ false → is_digit b ≡ false → is_white_space b ≡ false → Misfits [] b
misfits_none b n t q s c d w =
    record {
      is_begun = IsBegun.backslash;
      goes_on = λ h. begun_first h b refl c d w;
      ends = λ meant h. escape_one h b refl n t q s;
    }

pub misfits_caret : (b : ℕ) → (is_between 64 95 b || is_between 97 122 b) ≡ false → Misfits (94 ∷ []) b
misfits_caret b h =
    record {
      is_begun = IsBegun.caret;
      goes_on = λ k. clash refl (begun_shape k 94 b [] refl refl).0;
      ends = λ meant k. by (escape_more k 94 b [] refl refl);
    }
  where
    by : ((◌≡◌ {A = ℕ} 94 94) × IsTrue (is_between 64 95 b || is_between 97 122 b)) ⊎
        (IsTrue (is_digit 94) × IsTrue (is_digit b) × (c : ℕ) × ([] ≡ c ∷ []) × IsTrue (is_digit c) × (digits_value 10 (94 ∷ b ∷ c ∷ []) ≤ 255)) → ⊥
    by (inl x) = clash h x.1
    by (inr x) = clash refl x.0

pub misfits_digit : (a b : ℕ) → is_digit a ≡ true → is_digit b ≡ false → Misfits (a ∷ []) b
misfits_digit a b h k =
    record {
      is_begun = IsBegun.digit a h;
      goes_on = λ g. clash k (begun_shape g a b [] refl (digit_blank a h)).1;
      ends = λ meant g. by (escape_more g a b [] refl (digit_blank a h));
    }
  where
    by : ((a ≡ 94) × IsTrue (is_between 64 95 b || is_between 97 122 b)) ⊎
        (IsTrue (is_digit a) × IsTrue (is_digit b) × (c : ℕ) × ([] ≡ c ∷ []) × IsTrue (is_digit c) × (digits_value 10 (a ∷ b ∷ c ∷ []) ≤ 255)) → ⊥
    by (inl x) = apart (λ z. z == 94) a 94 (digit_caret a h) refl x.0
    by (inr x) = clash k x.1

pub misfits_digits : (a b c : ℕ) → is_digit a ≡ true → is_digit b ≡ true → (is_digit c ≡ true → 255 < digits_value 10 (a ∷ b ∷ c ∷ [])) → Misfits (a ∷ b ∷ []) c
misfits_digits a b c h k g =
    record {
      is_begun = IsBegun.digits a b h k;
      goes_on = λ x. not_cons (sym (begun_shape x a b (c ∷ []) refl (digit_blank a h)).2);
      ends = λ meant x. by (escape_more x a b (c ∷ []) refl (digit_blank a h));
    }
  where
    by : ((a ≡ 94) × IsTrue (is_between 64 95 b || is_between 97 122 b)) ⊎
        (IsTrue (is_digit a) × IsTrue (is_digit b) × (d : ℕ) × (c ∷ [] ≡ d ∷ []) × IsTrue (is_digit d) × (digits_value 10 (a ∷ b ∷ d ∷ []) ≤ 255)) → ⊥
    by (inl x) = apart (λ z. z == 94) a 94 (digit_caret a h) refl x.0
    by (inr x) =
        let e : x.2 ≡ c = sym (head_is x.3) in
        let d : is_digit c ≡ true = subst (λ z. is_digit z ≡ true) e x.4 in
        let l : digits_value 10 (a ∷ b ∷ c ∷ []) ≤ 255 = subst (λ z. digits_value 10 (a ∷ b ∷ z ∷ []) ≤ 255) e x.5 in
        let m : 255 < digits_value 10 (a ∷ b ∷ c ∷ []) = g d in
        omega arith

-- a misfit is a newline or another byte
pub misfit_is : (text begun : List ℕ) (b : ℕ) (rest : List ℕ) (e : Escaped) → text ≡ begun ++ b ∷ rest → Misfits begun b → IsMisfit b e → IsEscape text e
misfit_is text begun b rest e w m h = by (b == 10) refl h
  where
    cut : (b ≡ 10) → IsCut text
    cut f = rw w (rw f (line begun rest (rw f at m)))

    other : ((b == 10) ≡ false) → IsBad text
    other f = rw w (bad begun b rest m (λ g. differ b 10 f g))

    by : (t : Bool) → (b == 10) ≡ t → MatchBool t (e ≡ Cut) (e ≡ Bad) → IsEscape text e
    by true f k = subst (λ x. IsEscape text x) (sym k) (cut (eqb-true b 10 f))
    by false f k = subst (λ x. IsEscape text x) (sym k) (other f)

-- what begins with a caret
pub caret_ended : (text : List ℕ) → slice_get text 0 ≡ Some 94 → None ≡ slice_get text 1 → IsCut text
caret_ended text e f = subst IsCut (sym (alone text 94 e f)) (ended (94 ∷ []) IsBegun.caret)

pub caret_control : (text : List ℕ) (b : ℕ) → slice_get text 0 ≡ Some 94 → Some b ≡ slice_get text 1 →
    (is_between 64 95 b || is_between 97 122 b) ≡ true → (2 ≤ length text) × Escape (take 2 text) (b % 32 ∷ [])
caret_control text b e f h = escape_whole text (94 ∷ b ∷ []) (drop 2 text) (b % 32 ∷ []) (two_first text 94 b e f) (control b h)

pub caret_misfit : (text : List ℕ) (b : ℕ) (x : Escaped) → slice_get text 0 ≡ Some 94 → Some b ≡ slice_get text 1 →
    (is_between 64 95 b || is_between 97 122 b) ≡ false → IsMisfit b x → IsEscape text x
caret_misfit text b x e f h m = misfit_is text (94 ∷ []) b (drop 2 text) x (two_first text 94 b e f) (misfits_caret b h) m

-- what begins with a digit
pub digit_ended : (text : List ℕ) (a : ℕ) → slice_get text 0 ≡ Some a → is_digit a ≡ true → None ≡ slice_get text 1 → IsCut text
digit_ended text a e h f = subst IsCut (sym (alone text a e f)) (ended (a ∷ []) (IsBegun.digit a h))

pub digit_misfit : (text : List ℕ) (a b : ℕ) (x : Escaped) → slice_get text 0 ≡ Some a → is_digit a ≡ true →
    Some b ≡ slice_get text 1 → is_digit b ≡ false → IsMisfit b x → IsEscape text x
digit_misfit text a b x e h f k m = misfit_is text (a ∷ []) b (drop 2 text) x (two_first text a b e f) (misfits_digit a b h k) m

pub digits_ended : (text : List ℕ) (a b : ℕ) → slice_get text 0 ≡ Some a → is_digit a ≡ true → Some b ≡ slice_get text 1 →
    is_digit b ≡ true → None ≡ slice_get text 2 → IsCut text
digits_ended text a b e h f k g = subst IsCut (sym (two_alone text a b e f g)) (ended (a ∷ b ∷ []) (IsBegun.digits a b h k))

pub digits_misfit : (text : List ℕ) (a b c : ℕ) (x : Escaped) → slice_get text 0 ≡ Some a → is_digit a ≡ true →
    Some b ≡ slice_get text 1 → is_digit b ≡ true → Some c ≡ slice_get text 2 → is_digit c ≡ false → IsMisfit c x → IsEscape text x
digits_misfit text a b c x e h f k g l m = misfit_is text (a ∷ b ∷ []) c (drop 3 text) x (three_first text a b c e f g)
    (misfits_digits a b c h k (λ d. absurd (clash l d))) m

digit_line : (b : ℕ) → is_digit b ≡ true → b ≡ 10 → ⊥
digit_line b h e = apart is_digit 10 b refl h (sym e)

pub digits_great : (text : List ℕ) (a b c n : ℕ) → slice_get text 0 ≡ Some a → is_digit a ≡ true → Some b ≡ slice_get text 1 →
    is_digit b ≡ true → Some c ≡ slice_get text 2 → is_digit c ≡ true → n ≡ digits_value 10 (a ∷ b ∷ c ∷ []) → 255 < n → IsBad text
digits_great text a b c n e h f k g l w m =
    subst IsBad (sym (three_first text a b c e f g))
    (bad (a ∷ b ∷ []) c (drop 3 text) (misfits_digits a b c h k (λ d. subst (λ v. 255 < v) w m)) (digit_line c l))

pub digits_whole : (text : List ℕ) (a b c n : ℕ) → slice_get text 0 ≡ Some a → is_digit a ≡ true → Some b ≡ slice_get text 1 →
    is_digit b ≡ true → Some c ≡ slice_get text 2 → is_digit c ≡ true → n ≡ digits_value 10 (a ∷ b ∷ c ∷ []) → n ≤ 255 →
    (3 ≤ length text) × Escape (take 3 text) (n ∷ [])
digits_whole text a b c n e h f k g l w m =
    rw w (escape_whole text (a ∷ b ∷ c ∷ []) (drop 3 text) (digits_value 10 (a ∷ b ∷ c ∷ []) ∷ []) (three_first text a b c e f g)
    (decimal a b c (digits_of_bytes (a ∷ b ∷ c ∷ []) (h, (k, (l, tt)))) (subst (λ v. v ≤ 255) w m)))

-- blanks
run_some : (text : List ℕ) (size a : ℕ) → IsStretch is_white_space text size → slice_get text 0 ≡ Some a → is_white_space a ≡ true →
    (more : List ℕ) × (take size text ≡ a ∷ more)
run_some [] size a r e h = cc
run_some (b ∷ text) zero a r e h = let same : b ≡ a = cc in absurd (clash (r.stops b text refl) (ap is_white_space same ∙ h))
run_some (b ∷ text) (suc size) a r e h = let same : b ≡ a = cc in (take size text, ap (λ x. x ∷ take size text) same)

past_end : (text : List ℕ) (size : ℕ) → None ≡ slice_get text size → take size text ≡ text
past_end [] zero e = refl
past_end [] (suc size) e = refl
past_end (b ∷ text) zero e = cc
past_end (b ∷ text) (suc size) e = ap (λ l. b ∷ l) (past_end text size e)

at_byte : (text : List ℕ) (size b : ℕ) → Some b ≡ slice_get text size → text ≡ take size text ++ b ∷ drop (suc size) text
at_byte [] zero b e = cc
at_byte [] (suc size) b e = cc
at_byte (x ∷ text) zero b e = cc
at_byte (x ∷ text) (suc size) b e = ap (λ l. x ∷ l) (at_byte text size b e)

stop_byte : (text : List ℕ) (size b : ℕ) → Some b ≡ slice_get text size → drop size text ≡ b ∷ drop (suc size) text
stop_byte [] zero b e = cc
stop_byte [] (suc size) b e = cc
stop_byte (x ∷ text) zero b e = cc
stop_byte (x ∷ text) (suc size) b e = stop_byte text size b e

begun_blanks : (text : List ℕ) (size a : ℕ) → IsStretch is_white_space text size → slice_get text 0 ≡ Some a → is_white_space a ≡ true →
    IsBegun (take size text)
begun_blanks text size a r e h =
    let m = run_some text size a r e h in
    subst IsBegun (sym m.1) (IsBegun.blanks a m.0 (subst (AllAre is_white_space) m.1 r.all))

pub blanks_ended : (text : List ℕ) (size a : ℕ) → IsStretch is_white_space text size → slice_get text 0 ≡ Some a → is_white_space a ≡ true →
    None ≡ slice_get text size → IsCut text
blanks_ended text size a r e h f = subst IsCut (past_end text size f) (ended (take size text) (begun_blanks text size a r e h))

escape_blanks : (front : List ℕ) (a : ℕ) (more : List ℕ) → front ≡ a ∷ more → AllAre is_white_space front → Escape (front ++ 92 ∷ []) []
escape_blanks front a more e h = subst (λ l. Escape (l ++ 92 ∷ []) []) (sym e) (blanks a more (subst (AllAre is_white_space) e h))

pub blanks_whole : (text : List ℕ) (size a : ℕ) → IsStretch is_white_space text size → slice_get text 0 ≡ Some a → is_white_space a ≡ true →
    Some 92 ≡ slice_get text size → (size + 1 ≤ length text) × Escape (take (size + 1) text) []
blanks_whole text size a r e h f =
    let m = run_some text size a r e h in
    let w : text ≡ (take size text ++ 92 ∷ []) ++ drop (suc size) text = at_byte text size 92 f ∙ sym (append_assoc (take size text) (92 ∷ []) (drop (suc size) text)) in
    let k = escape_whole text (take size text ++ 92 ∷ []) (drop (suc size) text) [] w (escape_blanks (take size text) a m.0 m.1 r.all) in
    let n : length (take size text ++ 92 ∷ []) ≡ size + 1 = length-append (take size text) (92 ∷ []) ∙ ap (λ x. x + 1) (length-take-le size text r.within) in
    subst (λ n. (n ≤ length text) × Escape (take n text) []) n k

-- blanks and another byte
blank_begun : {xs : List ℕ} → IsBegun xs → (a : ℕ) (more : List ℕ) (b : ℕ) → xs ≡ a ∷ more ++ b ∷ [] → is_white_space a ≡ true → is_white_space b ≡ true
blank_begun IsBegun.backslash a more b e h = absurd (not_cons e)
blank_begun IsBegun.caret a more b e h = absurd (apart is_white_space 94 a refl h (head_is e))
blank_begun (IsBegun.digit x k) a more b e h = absurd (clash (digit_blank x k) (ap is_white_space (head_is e) ∙ h))
blank_begun (IsBegun.digits x y k l) a more b e h = absurd (clash (digit_blank x k) (ap is_white_space (head_is e) ∙ h))
blank_begun (IsBegun.blanks x more' k) a more b e h = (AllAre_right is_white_space more (b ∷ []) (subst (AllAre is_white_space) (tail_is e) k.1)).0

last_same : (xs ys : List ℕ) (a b : ℕ) → xs ++ a ∷ [] ≡ ys ++ b ∷ [] → a ≡ b
last_same [] [] a b e = head_is e
last_same [] (y ∷ []) a b e = absurd (not_cons (tail_is e))
last_same [] (y ∷ z ∷ ys) a b e = absurd (not_cons (tail_is e))
last_same (x ∷ []) [] a b e = absurd (not_cons (sym (tail_is e)))
last_same (x ∷ y ∷ xs) [] a b e = absurd (not_cons (sym (tail_is e)))
last_same (x ∷ xs) (y ∷ ys) a b e = last_same xs ys a b (tail_is e)

blank_letter : (b : ℕ) → is_white_space b ≡ true → (b == 110 || (b == 116 || (b == 34 || (b == 92 || b == 94)))) ≡ false
blank_letter b h = grind (arith, nat_tests)

blank_escape : {xs meant : List ℕ} → Escape xs meant → (a : ℕ) (more : List ℕ) (b : ℕ) → xs ≡ a ∷ more ++ b ∷ [] → is_white_space a ≡ true → b ≡ 92
blank_escape newline a more b e h = absurd (apart is_white_space 110 a refl h (head_is e))
blank_escape tab a more b e h = absurd (apart is_white_space 116 a refl h (head_is e))
blank_escape quote a more b e h = absurd (apart is_white_space 34 a refl h (head_is e))
blank_escape backslash a more b e h = absurd (apart is_white_space 92 a refl h (head_is e))
blank_escape (control x k) a more b e h = absurd (apart is_white_space 94 a refl h (head_is e))
blank_escape (decimal x y z k le) a more b e h = absurd (clash (digit_blank x (is_digit_from x k.0)) (ap is_white_space (head_is e) ∙ h))
blank_escape (blanks x more' k) a more b e h = sym (last_same more' more 92 b (tail_is e))

misfits_blanks : (a : ℕ) (more : List ℕ) (b : ℕ) → AllAre is_white_space (a ∷ more) → is_white_space b ≡ false → (b == 92) ≡ false → Misfits (a ∷ more) b
misfits_blanks a more b h n s =
    record {
      is_begun = IsBegun.blanks a more h;
      goes_on = λ g. clash n (blank_begun g a more b refl h.0);
      ends = λ meant g. differ b 92 s (blank_escape g a more b refl h.0);
    }

pub blanks_bad : (text : List ℕ) (size a b : ℕ) → IsStretch is_white_space text size → slice_get text 0 ≡ Some a → is_white_space a ≡ true →
    Some b ≡ slice_get text size → (b == 92) ≡ false → IsBad text
blanks_bad text size a b r e h f s =
    let m = run_some text size a r e h in
    let n = r.stops b (drop (suc size) text) (stop_byte text size b f) in
    let w : text ≡ (a ∷ m.0) ++ b ∷ drop (suc size) text = at_byte text size b f ∙ ap (λ l. l ++ b ∷ drop (suc size) text) m.1 in
    subst IsBad (sym w) (bad (a ∷ m.0) b (drop (suc size) text) (misfits_blanks a m.0 b (subst (AllAre is_white_space) m.1 r.all) n s)
    (λ g. apart is_white_space b 10 n refl g))

-- one byte alone
pub byte_whole : (text : List ℕ) (a b : ℕ) → Some a ≡ slice_get text 0 → Escape (a ∷ []) (b ∷ []) → (1 ≤ length text) × Escape (take 1 text) (b ∷ [])
byte_whole text a b e h = escape_whole text (a ∷ []) (drop 1 text) (b ∷ []) (first_byte text a (sym e)) h

pub byte_bad : (text : List ℕ) (b : ℕ) → Some b ≡ slice_get text 0 → (b == 110) ≡ false → (b == 116) ≡ false →
    (b == 34) ≡ false → (b == 92) ≡ false → (b == 94) ≡ false → is_digit b ≡ false → is_white_space b ≡ false → IsBad text
byte_bad text b e n t q s c d w = subst IsBad (sym (first_byte text b (sym e)))
    (bad [] b (drop 1 text) (misfits_none b n t q s c d w) (λ g. apart is_white_space b 10 w refl g))

pub nothing_cut : (text : List ℕ) → None ≡ slice_get text 0 → IsCut text
nothing_cut text e = subst IsCut (sym (no_byte text e)) (ended [] IsBegun.backslash)

pub not_equal : (a b : ℕ) → a ≢ b → (a == b) ≡ false
not_equal a b h = by (a == b) refl
  where
    by : (t : Bool) → (a == b) ≡ t → (a == b) ≡ false
    by true e = absurd (h (eqb-true a b e))
    by false e = e
