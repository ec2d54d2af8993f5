-- Numbers, registers and labels are read as they are written.
use Rattle.std.proofs.Common.{◌≡◌, ◌≢◌, ◌⊎◌, inl, inr, ◌<◌, ◌≤◌, ◌+◌, ◌-◌, ◌*◌, ◌/◌, ◌%◌, ◌^◌, ℕ, zero, suc, Bool, true, false, not, cond, List, []}
use Rattle.std.proofs.Common.{◌∷◌, ◌++◌, length, Option, Some, None, refl, sym, ap, subst, ◌∙◌, arith, append_assoc}
use Rattle.std.specs.Prelude.{◌&&◌, ◌||◌, ◌==◌, nat_lt, if◌then◌else◌}
use Rattle.std.specs.Fmt.{decimal}
use Rattle.std.proofs.lemmas.Fmt.{decimal_by_steps}
use Rattle.std.proofs.lemmas.Bool.{eqb-true, le-leb, ltb-true, ltb-false}
use Rattle.std.proofs.lemmas.Bool.Decides.{eqb_tells}
use Rattle.std.proofs.Math.Nat.{mod-eq_of_lt}
use Rattle.tg_isa.specs.Names.{register_name}
use Rattle.tg_asm_text.specs.Lines.{front, back, is_end, begins_label, is_past_label}
use Rattle.tg_asm_text.specs.Operands.{Signed, capped, digit, digits, some_digits, hexadecimal, magnitude, with_sign, number, is_within, field}
use Rattle.tg_asm_text.specs.Operands.{register_operand, is_label, or_nothing, address_operand, closed_address, in_parens, based}
use Rattle.tg_asm_text.specs.Writing.{signed_text, based_text}
use Rattle.tg_asm_text.proofs.WordCuts.{and_true, or_false, not_true, none_of, is_some, is_newline, first_not, rest_not, none_cons, none_append}
use Rattle.tg_asm_text.proofs.WordCuts.{front_until, back_until, IsWord}

-- what holds of all small numbers
abbrev all_below : ℕ → (ℕ → Bool) → Bool
all_below zero test = true
all_below (suc n) test = test n && all_below n test

below_less : (k n : ℕ) → (k == n) ≡ false → k < suc n → k < n
below_less k n e l = by (eqb_tells k n)
  where
    by : ((((k == n) ≡ true) × (k ≡ n)) ⊎ (((k == n) ≡ false) × (k ≢ n))) → k < n
    by (inl h) = let two : true ≡ false = sym h.0 ∙ e in cc
    by (inr h) = let m = h.1 in omega (arith, l, m)

below_holds : (n : ℕ) (test : ℕ → Bool) (k : ℕ) → all_below n test ≡ true → k < n → test k ≡ true
below_holds zero test k h l = absurd (omega (arith, l))
below_holds (suc n) test k h l = by (k == n) refl (λ m. below_holds n test k (and_true (test n) (all_below n test) h).1 m)
  where
    by : (b : Bool) → (k == n) ≡ b → (k < n → test k ≡ true) → test k ≡ true
    by true e ih = subst (λ j. test j ≡ true) (sym (eqb-true k n e)) (and_true (test n) (all_below n test) h).0
    by false e ih = ih (below_less k n e l)

abbrev is_value : Option ℕ → ℕ → Bool
is_value (Some m) n = m == n
is_value None n = false

value_is : (o : Option ℕ) (n : ℕ) → is_value o n ≡ true → o ≡ Some n
value_is (Some m) n h = ap Some (eqb-true m n h)
value_is None n h = cc

-- registers
pub register_named : (r : ℕ) → r < 32 → register_operand (register_name r) ≡ Some r
register_named r h = value_is (register_operand (register_name r)) r (below_holds 32 (λ k. is_value (register_operand (register_name k)) k) r refl h)

pub name_word : (r : ℕ) → r < 32 → IsWord (register_name r)
name_word r h = record {
  ends = below_holds 32 (λ k. none_of is_end (register_name k)) r refl h;
  newlines = below_holds 32 (λ k. none_of is_newline (register_name k)) r refl h;
  some = below_holds 32 (λ k. is_some (register_name k)) r refl h;
}

abbrev is_close : ℕ → Bool
is_close c = c == 41

abbrev is_open : ℕ → Bool
is_open c = c == 40

name_closes : (r : ℕ) → r < 32 → none_of is_close (register_name r) ≡ true
name_closes r h = below_holds 32 (λ k. none_of is_close (register_name k)) r refl h

-- digits: bytes that end nothing and are neither `(`, `-` nor `x`
abbrev is_other : ℕ → Bool
is_other c = is_end c || (c == 10 || (c == 40 || (c == 45 || c == 120)))

record Digits (n : ℕ) (ds : List ℕ) : Type 0 where
  read : digits 10 0 ds ≡ Some (capped n)
  others : none_of is_other ds ≡ true
  some : is_some ds ≡ true

digit_read : (d : ℕ) → d < 10 → digit 10 (48 + d) ≡ Some d
digit_read d h = value_is (digit 10 (48 + d)) d (below_holds 10 (λ k. is_value (digit 10 (48 + k)) k) d refl h)

digit_other : (d : ℕ) → d < 10 → is_other (48 + d) ≡ false
digit_other d h = not_true (is_other (48 + d)) (below_holds 10 (λ k. not (is_other (48 + k))) d refl h)

last_digit : (v w c d : ℕ) (ds : List ℕ) → digits 10 v ds ≡ Some w → digit 10 c ≡ Some d → digits 10 v (ds ++ c ∷ []) ≡ Some (capped (10 * w + d))
last_digit v w c d [] h e =
    let s : v ≡ w = cc in
    rw (e, digits) (ap (λ j. Some (capped (10 * j + d))) s)
last_digit v w c d (x ∷ ds) h e = by (digit 10 x) refl (λ j. last_digit j w c d ds)
  where
    by : (o : Option ℕ) → digit 10 x ≡ o → ((j : ℕ) → digits 10 j ds ≡ Some w → digit 10 c ≡ Some d → digits 10 j (ds ++ c ∷ []) ≡ Some (capped (10 * w + d))) →
        digits 10 v (x ∷ ds ++ c ∷ []) ≡ Some (capped (10 * w + d))
    by (Some y) k ih = rw (k, digits) (ih (capped (10 * v + y)) (rw (k, digits) at h) e)
    by None k ih = let o = rw (k, digits) at h in cc

some_more : (ds : List ℕ) (c : ℕ) → is_some (ds ++ c ∷ []) ≡ true
some_more [] c = refl
some_more (d ∷ ds) c = refl

one_digit : (n : ℕ) → n < 10 → Digits n ((48 + n) ∷ [])
one_digit n h = let e : capped (10 * 0 + n) ≡ capped n = omega (arith, h) in record {
  read = last_digit 0 0 (48 + n) n [] refl (digit_read n h) ∙ ap Some e;
  others = none_cons is_other (48 + n) [] (digit_other n h) refl;
  some = refl;
}

capped_more : (n : ℕ) → capped (10 * capped (n / 10) + n % 10) ≡ capped n
capped_more n = omega arith

more_digits : (n : ℕ) (ds : List ℕ) → 10 ≤ n → Digits (n / 10) ds → Digits n (ds ++ ((48 + n % 10) ∷ []))
more_digits n ds h d =
    let l : n % 10 < 10 = omega arith in
    record {
      read = last_digit 0 (capped (n / 10)) (48 + n % 10) (n % 10) ds d.read (digit_read (n % 10) l) ∙ ap Some (capped_more n);
      others = none_append is_other ds ((48 + n % 10) ∷ []) d.others (none_cons is_other (48 + n % 10) [] (digit_other (n % 10) l) refl);
      some = some_more ds (48 + n % 10);
    }

decimal_digits : (n : ℕ) → n < 2 ^ 64 → Digits n (decimal n)
decimal_digits n h = decimal_by_steps Digits one_digit more_digits n h

-- a class within another
none_within : (a b : ℕ → Bool) → ((c : ℕ) → b c ≡ false → a c ≡ false) → (o : List ℕ) → none_of b o ≡ true → none_of a o ≡ true
none_within a b k [] h = refl
none_within a b k (c ∷ o) h = none_cons a c o (k c (first_not b c o h)) (none_within a b k o (rest_not b c o h))

record Others (c : ℕ) : Type 0 where
  ends : is_end c ≡ false
  newline : (c == 10) ≡ false
  opens : (c == 40) ≡ false
  minus : (c == 45) ≡ false
  x : (c == 120) ≡ false

others : (c : ℕ) → is_other c ≡ false → Others c
others c h =
    let a = or_false (is_end c) (c == 10 || (c == 40 || (c == 45 || c == 120))) h in
    let b = or_false (c == 10) (c == 40 || (c == 45 || c == 120)) a.1 in
    let d = or_false (c == 40) (c == 45 || c == 120) b.1 in
    let e = or_false (c == 45) (c == 120) d.1 in
    record { ends = a.0; newline = b.0; opens = d.0; minus = e.0; x = e.1 }

magnitude_read : (w : ℕ) (ds : List ℕ) → digits 10 0 ds ≡ Some w → none_of is_other ds ≡ true → is_some ds ≡ true → magnitude ds ≡ Some w
magnitude_read w [] r h s = cc
magnitude_read w (c ∷ []) r h s = by (c == 48)
  where
    by : (b : Bool) → cond b (hexadecimal (c ∷ []) []) (some_digits 10 (c ∷ [])) ≡ Some w
    by true = r
    by false = r
magnitude_read w (c ∷ d ∷ ds) r h s = by (c == 48)
  where
    no_x : (d == 120) ≡ false
    no_x = (others d (first_not is_other d ds (rest_not is_other c (d ∷ ds) h))).x

    by : (b : Bool) → cond b (hexadecimal (c ∷ d ∷ ds) (d ∷ ds)) (some_digits 10 (c ∷ d ∷ ds)) ≡ Some w
    by true = rw no_x r
    by false = r

-- a text that is a number, with what it needs to stand in a line
pub record NumberText (t : List ℕ) (s : Signed) : Type 0 where
  pub word : IsWord t
  pub opens : none_of is_open t ≡ true
  pub read : number t ≡ Some s

digits_word : (n : ℕ) (ds : List ℕ) → Digits n ds → IsWord ds
digits_word n ds d = record {
  ends = none_within is_end is_other (λ c h. (others c h).ends) ds d.others;
  newlines = none_within is_newline is_other (λ c h. (others c h).newline) ds d.others;
  some = d.some;
}

digits_open : (n : ℕ) (ds : List ℕ) → Digits n ds → none_of is_open ds ≡ true
digits_open n ds d = none_within is_open is_other (λ c h. (others c h).opens) ds d.others

capped_small : (n : ℕ) → n < 2 ^ 32 → capped n ≡ n
capped_small n h = omega (arith, h)

number_of : (n : ℕ) (ds : List ℕ) → Digits n ds → number ds ≡ with_sign false (magnitude ds)
number_of n [] d = let s = d.some in cc
number_of n (c ∷ ds) d = rw (others c (first_not is_other c ds d.others)).minus refl

pub decimal_text : (n : ℕ) → n < 2 ^ 32 → NumberText (decimal n) (record { negative = false; size = n })
decimal_text n h =
    let d = decimal_digits n (omega (arith, h)) in
    record {
      word = digits_word n (decimal n) d;
      opens = digits_open n (decimal n) d;
      read = number_of n (decimal n) d ∙ ap (with_sign false) (magnitude_read (capped n) (decimal n) d.read d.others d.some ∙ ap Some (capped_small n h));
    }

minus_text : (n : ℕ) → n < 2 ^ 32 → NumberText (45 ∷ decimal n) (record { negative = true; size = n })
minus_text n h =
    let d = decimal_digits n (omega (arith, h)) in
    let w = digits_word n (decimal n) d in
    record {
      word = record { ends = w.ends; newlines = w.newlines; some = refl };
      opens = digits_open n (decimal n) d;
      read = ap (with_sign true) (magnitude_read (capped n) (decimal n) d.read d.others d.some ∙ ap Some (capped_small n h));
    }

abbrev pub signed_of : ℕ → Signed
signed_of n = if nat_lt n 32768 then record { negative = false; size = n } else record { negative = true; size = 65536 - n }

pub signed_number : (n : ℕ) → n < 2 ^ 16 → NumberText (signed_text n) (signed_of n)
signed_number n h = by (nat_lt n 32768)
  where
    by : (b : Bool) → NumberText (if b then decimal n else 45 ∷ decimal (65536 - n))
        (if b then record { negative = false; size = n } else record { negative = true; size = 65536 - n })
    by true = decimal_text n (omega (arith, h))
    by false = minus_text (65536 - n) (omega (arith, h))

pub signed_within : (n : ℕ) → n < 2 ^ 16 → is_within 32768 32767 (signed_of n) ≡ true
signed_within n h = by (nat_lt n 32768) refl
  where
    by : (b : Bool) → nat_lt n 32768 ≡ b →
        is_within 32768 32767 (if b then record { negative = false; size = n } else record { negative = true; size = 65536 - n }) ≡ true
    by true e = let l = ltb-true n 32768 e in le-leb n 32767 (omega (arith, l))
    by false e = let l = ltb-false n 32768 e in le-leb (65536 - n) 32768 (omega (arith, l))

pub signed_field : (n : ℕ) → n < 2 ^ 16 → field 16 (signed_of n) ≡ n
signed_field n h = by (nat_lt n 32768) refl
  where
    by : (b : Bool) → nat_lt n 32768 ≡ b → field 16 (if b then record { negative = false; size = n } else record { negative = true; size = 65536 - n }) ≡ n
    by true e = omega (arith, h)
    by false e = let l = ltb-false n 32768 e in omega (arith, h, l)

pub plain_within : (n limit : ℕ) → n ≤ limit → is_within 0 limit (record { negative = false; size = n }) ≡ true
plain_within n limit h = le-leb n limit h

pub plain_field : (width n : ℕ) → n < 2 ^ width → n % 2 ^ width ≡ n
plain_field width n h = mod-eq_of_lt h

-- number(register)
pub based_word : (n r : ℕ) → n < 2 ^ 16 → r < 32 → IsWord (based_text n r)
based_word n r h k =
    let s = (signed_number n h).word in
    let w = name_word r k in
    record {
      ends = none_append is_end (signed_text n ++ 40 ∷ register_name r) (41 ∷ []) (none_append is_end (signed_text n) (40 ∷ register_name r) s.ends w.ends) refl;
      newlines = none_append is_newline (signed_text n ++ 40 ∷ register_name r) (41 ∷ [])
          (none_append is_newline (signed_text n) (40 ∷ register_name r) s.newlines w.newlines) refl;
      some = some_more (signed_text n ++ 40 ∷ register_name r) 41;
    }

or_number : (t : List ℕ) → is_some t ≡ true → or_nothing t ≡ number t
or_number [] h = cc
or_number (c ∷ t) h = refl

closed_read : (s : Signed) (r : ℕ) (name : List ℕ) → none_of is_close name ≡ true → register_operand name ≡ Some r →
    closed_address (Some s) (name ++ 41 ∷ []) ≡ Some (record { number = s; base = r })
closed_read s r name c e =
    let b : back is_close (name ++ 41 ∷ []) ≡ 41 ∷ [] = back_until is_close name (41 ∷ []) c refl in
    let f : front is_close (name ++ 41 ∷ []) ≡ name = front_until is_close name (41 ∷ []) c refl in
    ap (λ l. cond (length l == 1) (address_operand (Some s) (register_operand (front is_close (name ++ 41 ∷ [])))) None) b
    ∙ ap (λ l. address_operand (Some s) (register_operand l)) f
    ∙ ap (address_operand (Some s)) e

based_at : (t name : List ℕ) (s : Signed) (r : ℕ) → NumberText t s → none_of is_close name ≡ true → register_operand name ≡ Some r →
    based (t ++ 40 ∷ (name ++ 41 ∷ [])) ≡ Some (record { number = s; base = r })
based_at t name s r n c e =
    let rest = 40 ∷ (name ++ 41 ∷ []) in
    let f : front is_open (t ++ rest) ≡ t = front_until is_open t rest n.opens refl in
    let b : back is_open (t ++ rest) ≡ rest = back_until is_open t rest n.opens refl in
    ap (λ l. in_parens (or_nothing l) (back is_open (t ++ rest))) f
    ∙ ap (λ l. in_parens (or_nothing t) l) b
    ∙ ap (λ o. closed_address o (name ++ 41 ∷ [])) (or_number t n.word.some ∙ n.read)
    ∙ closed_read s r name c e

pub based_read : (n r : ℕ) → n < 2 ^ 16 → r < 32 → based (based_text n r) ≡ Some (record { number = signed_of n; base = r })
based_read n r h k = ap based (append_assoc (signed_text n) (40 ∷ register_name r) (41 ∷ []))
    ∙ based_at (signed_text n) (register_name r) (signed_of n) r (signed_number n h) (name_closes r k) (register_named r k)

-- labels
pub none_past : (class : ℕ → Bool) (t : List ℕ) → (length (back class t) == 0) ≡ true → none_of class t ≡ true
none_past class [] h = refl
none_past class (c ∷ t) h = by (class c) refl (none_past class t)
  where
    by : (b : Bool) → class c ≡ b → ((length (back class t) == 0) ≡ true → none_of class t ≡ true) → none_of class (c ∷ t) ≡ true
    by true e ih =
        let o = rw e at h in
        let z : suc (length t) ≡ 0 = eqb-true (suc (length t)) 0 o in
        absurd (omega (arith, z))
    by false e ih = rw e (ih (rw e at h))

not_byte : (k c : ℕ) → is_past_label k ≡ true → is_past_label c ≡ false → (c == k) ≡ false
not_byte k c h e = by (c == k) refl
  where
    by : (b : Bool) → (c == k) ≡ b → b ≡ false
    by true s =
        let same : c ≡ k = eqb-true c k s in
        let two : true ≡ false = sym h ∙ ap is_past_label (sym same) ∙ e in
        cc
    by false s = refl

pub label_end : (c : ℕ) → is_past_label c ≡ false → is_end c ≡ false
label_end c h = rw (not_byte 32 c refl h, not_byte 9 c refl h, not_byte 13 c refl h, not_byte 44 c refl h, not_byte 34 c refl h, not_byte 35 c refl h) refl

pub letter_in : (c : ℕ) → begins_label c ≡ true → is_past_label c ≡ false
letter_in c h = rw h refl

pub label_word : (t : List ℕ) → is_label t ≡ true → IsWord t
label_word [] h = cc
label_word (c ∷ t) h =
    let b = and_true (begins_label c) (length (back is_past_label t) == 0) h in
    let n : none_of is_past_label (c ∷ t) ≡ true = none_cons is_past_label c t (letter_in c b.0) (none_past is_past_label t b.1) in
    record {
      ends = none_within is_end is_past_label label_end (c ∷ t) n;
      newlines = none_within is_newline is_past_label (λ d e. not_byte 10 d refl e) (c ∷ t) n;
      some = refl;
    }
