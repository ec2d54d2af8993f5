-- The names of functions, marks, places and literals are labels of the assembler's syntax, and differ where these do.
use Rattle.std.proofs.Common.{ℕ, ◌≡◌, ◌<◌, ◌+◌, ◌%◌, ◌^◌, List, [], ◌∷◌, ◌++◌, Bool, true, false, not, refl, sym, ap, ◌∙◌, arith, append-nil, subst}
use Rattle.std.specs.Prelude.{IsTrue, ◌==◌, ◌||◌, ◌≢◌, codes, if◌then◌else◌}
use Rattle.std.specs.Fmt.{decimal}
use Rattle.std.proofs.lemmas.Fmt.{decimal_by_steps, decimal_injective}
use Rattle.std.proofs.lemmas.Bool.Decides.{nat_tests}
use Rattle.tg_asm_text.specs.Lines.{front, back, is_in_range, begins_label, is_past_label}
use Rattle.tg_asm_text.specs.Operands.{is_label}
use Rattle.tg_asm_text.proofs.WordCuts.{none_of, begins, none_append, none_cons, first_not, rest_not, front_until, back_until}
use Rattle.tg_emit.specs.mirror.Names.{function_name, mark_name, behind_name, literal_name}

-- decimal digits
abbrev is_past_digits : ℕ → Bool
is_past_digits c = not (is_in_range 48 57 c)

digit_within : (d : ℕ) → d < 10 → is_past_digits (48 + d) ≡ false
digit_within d h = grind (arith, nat_tests)

digits_of : (n : ℕ) → n < 2 ^ 64 → none_of is_past_digits (decimal n) ≡ true
digits_of n h =
    decimal_by_steps (λ m ds. none_of is_past_digits ds ≡ true)
    (λ m k. none_cons is_past_digits (48 + m) [] (digit_within m k) refl)
    (λ m ds k t. none_append is_past_digits ds ((48 + m % 10) ∷ []) t (none_cons is_past_digits (48 + m % 10) [] (digit_within (m % 10) (omega arith)) refl))
    n h

-- a class within another
none_within : (a b : ℕ → Bool) → ((c : ℕ) → b c ≡ false → a c ≡ false) → (o : List ℕ) → none_of b o ≡ true → none_of a o ≡ true
none_within a b k [] h = refl
none_within a b k (c ∷ o) h = none_cons a c o (k c (first_not b c o h)) (none_within a b k o (rest_not b c o h))

digit_in_label : (c : ℕ) → is_past_digits c ≡ false → is_past_label c ≡ false
digit_in_label c h = grind (arith, nat_tests)

decimal_in_label : (n : ℕ) → n < 2 ^ 64 → none_of is_past_label (decimal n) ≡ true
decimal_in_label n h = none_within is_past_label is_past_digits digit_in_label (decimal n) (digits_of n h)

-- what parts the name of a function from what follows it
abbrev pub is_separator : ℕ → Bool
is_separator c = c == 46 || c == 95

digit_not_separator : (c : ℕ) → is_past_digits c ≡ false → is_separator c ≡ false
digit_not_separator c h = grind (arith, nat_tests)

decimal_unparted : (n : ℕ) → n < 2 ^ 64 → none_of is_separator (decimal n) ≡ true
decimal_unparted n h = none_within is_separator is_past_digits digit_not_separator (decimal n) (digits_of n h)

function_unparted : (n : ℕ) → n < 2 ^ 64 → none_of is_separator (function_name n) ≡ true
function_unparted n h = by (n == 32)
  where
    by : (b : Bool) → none_of is_separator (if b then codes "main" else codes "f" ++ decimal n) ≡ true
    by true = refl
    by false = none_cons is_separator 102 (decimal n) refl (decimal_unparted n h)

-- a text of letters, digits, points and underlines, of which the first is no digit and no point
no_back : (text : List ℕ) → none_of is_past_label text ≡ true → back is_past_label text ≡ []
no_back text h = ap (back is_past_label) (sym (append-nil text)) ∙ back_until is_past_label text [] h refl

label_of : (c : ℕ) (rest : List ℕ) → begins_label c ≡ true → none_of is_past_label rest ≡ true → IsTrue (is_label (c ∷ rest))
label_of c rest h k = rw (h, no_back rest k) refl

tail_label : (n : ℕ) (tail : List ℕ) → n < 2 ^ 64 → none_of is_past_label tail ≡ true → IsTrue (is_label (function_name n ++ tail))
tail_label n tail h k = by (n == 32)
  where
    by : (b : Bool) → IsTrue (is_label ((if b then codes "main" else codes "f" ++ decimal n) ++ tail))
    by true = label_of 109 (codes "ain" ++ tail) refl (none_append is_past_label (codes "ain") tail refl k)
    by false = label_of 102 (decimal n ++ tail) refl (none_append is_past_label (decimal n) tail (decimal_in_label n h) k)

pub function_label : (n : ℕ) → n < 2 ^ 64 → IsTrue (is_label (function_name n))
function_label n h = subst (λ t. IsTrue (is_label t)) (append-nil (function_name n)) (tail_label n [] h refl)

pub mark_label : (n m : ℕ) → n < 2 ^ 64 → m < 2 ^ 64 → IsTrue (is_label (mark_name n m))
mark_label n m h k = tail_label n (46 ∷ decimal m) h (none_cons is_past_label 46 (decimal m) refl (decimal_in_label m k))

pub behind_label : (n p : ℕ) → n < 2 ^ 64 → p < 2 ^ 64 → IsTrue (is_label (behind_name n p))
behind_label n p h k = tail_label n (95 ∷ decimal p) h (none_cons is_past_label 95 (decimal p) refl (decimal_in_label p k))

pub literal_label : (n : ℕ) → n < 2 ^ 64 → IsTrue (is_label (literal_name n))
literal_label n h = label_of 115 (decimal n) refl (decimal_in_label n h)

pub not_same : (m k : ℕ) → (m == k) ≡ false → m ≢ k
not_same m k h e = grind (arith, nat_tests)

abbrev pub first_byte : List ℕ → ℕ
first_byte [] = 0
first_byte (c ∷ text) = c

-- names that are alike are of one function, and alike after its name
pub function_differ : (a b : ℕ) → a < 2 ^ 64 → b < 2 ^ 64 → function_name a ≡ function_name b → a ≡ b
function_differ a b h k e = by (a == 32) (b == 32) refl refl e
  where
    by : (x y : Bool) → (a == 32) ≡ x → (b == 32) ≡ y →
        (if x then codes "main" else codes "f" ++ decimal a) ≡ (if y then codes "main" else codes "f" ++ decimal b) → a ≡ b
    by true true p q e = grind (arith, nat_tests)
    by true false p q e = absurd (not_same 109 102 refl (ap first_byte e))
    by false true p q e = absurd (not_same 102 109 refl (ap first_byte e))
    by false false p q e = let d : decimal a ≡ decimal b = cc in decimal_injective a b h k d

pub record SameParts (a b : ℕ) (s t : List ℕ) : Type 0 where
  pub function : a ≡ b
  pub tail : s ≡ t

pub same_parts : (a b : ℕ) (s t : List ℕ) → a < 2 ^ 64 → b < 2 ^ 64 → begins is_separator s ≡ true → begins is_separator t ≡ true →
    function_name a ++ s ≡ function_name b ++ t → SameParts a b s t
same_parts a b s t h k p q e =
    let u = function_unparted a h in
    let v = function_unparted b k in
    record {
      function = function_differ a b h k (sym (front_until is_separator (function_name a) s u p) ∙ ap (front is_separator) e ∙ front_until is_separator
          (function_name b) t v q);
      tail = sym (back_until is_separator (function_name a) s u p) ∙ ap (back is_separator) e ∙ back_until is_separator (function_name b) t v q;
    }

pub literal_differ : (a b : ℕ) → a < 2 ^ 64 → b < 2 ^ 64 → literal_name a ≡ literal_name b → a ≡ b
literal_differ a b h k e = let d : decimal a ≡ decimal b = cc in decimal_injective a b h k d

-- the name of a literal is none of a function's code
pub literal_apart : (a b : ℕ) (t : List ℕ) → function_name a ++ t ≢ literal_name b
literal_apart a b t e = by (a == 32) e
  where
    by : (x : Bool) → (if x then codes "main" else codes "f" ++ decimal a) ++ t ≡ literal_name b → ⊥
    by true e = not_same 109 115 refl (ap first_byte e)
    by false e = not_same 102 115 refl (ap first_byte e)

pub mark_tails : (m n : ℕ) → m < 2 ^ 64 → n < 2 ^ 64 → 46 ∷ decimal m ≡ 46 ∷ decimal n → m ≡ n
mark_tails m n h k e = let d : decimal m ≡ decimal n = cc in decimal_injective m n h k d

pub behind_tails : (m n : ℕ) → m < 2 ^ 64 → n < 2 ^ 64 → 95 ∷ decimal m ≡ 95 ∷ decimal n → m ≡ n
behind_tails m n h k e = let d : decimal m ≡ decimal n = cc in decimal_injective m n h k d
