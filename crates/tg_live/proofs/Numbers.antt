-- Operands and their numbers.
use Rattle.std.proofs.Common.{◌≡◌, ◌<◌, ◌≤◌, ◌+◌, ◌-◌, ℕ, suc, Bool, true, false, nat_eq, nat_lt, ◌||◌, cond, List, [], ◌∷◌, ◌++◌, Some, length}
use Rattle.std.proofs.Common.{get_or, drop, slice_get, refl, sym, ap, ◌∙◌, arith, ⊎_elim}
use Rattle.std.specs.List.{list_any, list_all}
use Rattle.std.proofs.lemmas.Bool.{eq-eqb, ne_eqb, cases_eq, cases_lt, lt-ltb, le-ltb, ltb-true, and_parts, and_from, or_cases, or_left, or_right}
use Rattle.std.proofs.lemmas.Bool.{false_from_ne_true, false≢true}
use Rattle.std.proofs.lemmas.List.{drop_more}
use Rattle.tg_instr.specs.declared.operands.Opnd.{Opnd}
use Rattle.tg_instr.specs.declared.operands.Opnd.TheVariants.{Temp as TempOf, Reg}
use Rattle.tg_instr.specs.Operands.{is_same}
use Rattle.tg_instr.specs.Codes.{is_below}
use Rattle.tg_instr.proofs.Same.{same_itself, same_is}
use Rattle.tg_live.specs.Live.{is_among, number_of, operand_of, is_proper, is_rising}
use Rattle.tg_live.specs.glue.Tables.{numbers_of}
use Rattle.tg_live.specs.glue.LiveChanges.{ends_in}

pub number_operand : (n : ℕ) → number_of (operand_of n) ≡ n
number_operand n = ⊎_elim low high (cases_lt n 32)
  where
    low : n < 32 → number_of (operand_of n) ≡ n
    low l = ap (λ b. number_of (cond b (Reg n) (TempOf (record { 0 = n - 32 })))) (lt-ltb n 32 l)

    high : 32 ≤ n → number_of (operand_of n) ≡ n
    high l =
        let e : 32 + (n - 32) ≡ n = omega arith in
        ap (λ b. number_of (cond b (Reg n) (TempOf (record { 0 = n - 32 })))) (le-ltb n 32 l) ∙ e

pub operand_number : (x : Opnd) → is_proper x ≡ true → operand_of (number_of x) ≡ x
operand_number (Reg r) p = ap (λ b. cond b (Reg r) (TempOf (record { 0 = r - 32 }))) p
operand_number (TempOf t) p =
    let e : (32 + t.0) - 32 ≡ t.0 = omega arith in
    ap (λ b. cond b (Reg (32 + t.0)) (TempOf (record { 0 = (32 + t.0) - 32 }))) (le-ltb (32 + t.0) 32 (omega arith))
    ∙ ap (λ n. TempOf (record { 0 = n })) e

pub number_below : (n : ℕ) (x : Opnd) → is_proper x ≡ true → is_below n x ≡ true → number_of x < 32 + n
number_below n (Reg r) p b = let l : r < 32 = ltb-true r 32 p in omega arith
number_below n (TempOf t) p b = let l : t.0 < n = ltb-true t.0 n b in omega arith

number_same : (i : ℕ) (y : Opnd) → is_proper y ≡ true → nat_eq i (number_of y) ≡ is_same (operand_of i) y
number_same i y p = ⊎_elim same other (cases_eq i (number_of y))
  where
    same : i ≡ number_of y → nat_eq i (number_of y) ≡ is_same (operand_of i) y
    same e =
        eq-eqb i (number_of y) e
        ∙ sym (ap (λ n. is_same (operand_of n) y) e ∙ (ap (λ z. is_same z y) (operand_number y p) ∙ same_itself y))

    other : (i ≡ number_of y → ⊥) → nat_eq i (number_of y) ≡ is_same (operand_of i) y
    other ne =
        ne_eqb i (number_of y) ne
        ∙ sym (false_from_ne_true _ (λ s. ne (sym (number_operand i) ∙ ap number_of (same_is (operand_of i) y s))))

-- a number is among those of a list where its operand is among the list
pub number_among : (i : ℕ) (list : List Opnd) → list_all is_proper list ≡ true →
    list_any (nat_eq i) (numbers_of list) ≡ is_among (operand_of i) list
number_among i [] p = refl
number_among i (y ∷ list) p =
    let h = and_parts (is_proper y) (list_all is_proper list) p in
    ap (λ b. b || list_any (nat_eq i) (numbers_of list)) (number_same i y h.0)
    ∙ ap (λ b. is_same (operand_of i) y || b) (number_among i list h.1)

pub among_proper : (x : Opnd) (list : List Opnd) → list_all is_proper list ≡ true → is_among x list ≡ true →
    is_proper x ≡ true
among_proper x [] p a = absurd (false≢true a)
among_proper x (y ∷ list) p a =
    let h = and_parts (is_proper y) (list_all is_proper list) p in
    ⊎_elim (λ s. ap is_proper (same_is x y s)
    ∙ h.0) (λ r. among_proper x list h.1 r) (or_cases (is_same x y) (is_among x list) a)

pub among_all : (p : Opnd → Bool) (x : Opnd) (list : List Opnd) → list_all p list ≡ true → is_among x list ≡ true →
    p x ≡ true
among_all p x [] h a = absurd (false≢true a)
among_all p x (y ∷ list) h a =
    let k = and_parts (p y) (list_all p list) h in
    ⊎_elim (λ s. ap p (same_is x y s)
    ∙ k.0) (λ r. among_all p x list k.1 r) (or_cases (is_same x y) (is_among x list) a)

pub numbers_below : (n : ℕ) (list : List Opnd) → list_all is_proper list ≡ true → list_all (is_below n) list ≡ true →
    list_all (λ k. nat_lt k (32 + n)) (numbers_of list) ≡ true
numbers_below n [] p b = refl
numbers_below n (y ∷ list) p b =
    let h = and_parts (is_proper y) (list_all is_proper list) p in
    let k = and_parts (is_below n y) (list_all (is_below n) list) b in
    and_from _ _ (lt-ltb (number_of y) (32 + n) (number_below n y h.0 k.0)) (numbers_below n list h.1 k.1)

pub ends_last : (x : Opnd) (list : List Opnd) (y : Opnd) → Some y ≡ slice_get list (length list - 1) →
    ends_in x list ≡ is_same x y
ends_last x [] y e = absurd (cc)
ends_last x (z ∷ []) y e = let same : z ≡ y = cc in ap (is_same x) same
ends_last x (z ∷ u ∷ rest) y e =
    let n : suc (suc (length rest)) - 1 ≡ suc (suc (length rest) - 1) = omega arith in
    ends_last x (u ∷ rest) y (e ∙ ap (slice_get (z ∷ u ∷ rest)) n)

pub among_more : (x : Opnd) (list : List Opnd) (i : ℕ) (y : Opnd) → i < length list → y ≡ get_or list i y →
    is_among x (drop i list) ≡ (is_same x y || is_among x (drop (i + 1) list))
among_more x list i y l e =
    ap (is_among x) (drop_more list i y l) ∙ ap (λ z. is_same x z || is_among x (drop (i + 1) list)) (sym e)

-- Lists with one more at the end.

pub ends_push : (x : Opnd) (list : List Opnd) → ends_in x (list ++ x ∷ []) ≡ true
ends_push x [] = same_itself x
ends_push x (y ∷ []) = same_itself x
ends_push x (y ∷ z ∷ rest) = ends_push x (z ∷ rest)

pub ends_among : (x : Opnd) (list : List Opnd) → ends_in x list ≡ true → is_among x list ≡ true
ends_among x [] e = absurd (false≢true e)
ends_among x (y ∷ []) e = or_left (is_same x y) false e
ends_among x (y ∷ z ∷ rest) e = or_right (is_same x y) (is_among x (z ∷ rest)) (ends_among x (z ∷ rest) e)

pub among_push_left : (x : Opnd) (list : List Opnd) (y : Opnd) → is_among x list ≡ true →
    is_among x (list ++ y ∷ []) ≡ true
among_push_left x [] y a = absurd (false≢true a)
among_push_left x (z ∷ list) y a =
    ⊎_elim (λ s. or_left (is_same x z) (is_among x (list ++ y ∷ [])) s) (λ r. or_right (is_same x z) _
    (among_push_left x list y r))
    (or_cases (is_same x z) (is_among x list) a)

pub among_push_itself : (x : Opnd) (list : List Opnd) → is_among x (list ++ x ∷ []) ≡ true
among_push_itself x [] = or_left (is_same x x) false (same_itself x)
among_push_itself x (z ∷ list) = or_right (is_same x z) _ (among_push_itself x list)

pub among_push : (x : Opnd) (list : List Opnd) (y : Opnd) → is_among x (list ++ y ∷ []) ≡ true → (x ≡ y → ⊥) →
    is_among x list ≡ true
among_push x [] y a ne =
    ⊎_elim (λ s. absurd (ne (same_is x y s))) (λ r. absurd (false≢true r)) (or_cases (is_same x y) false a)
among_push x (z ∷ list) y a ne =
    ⊎_elim (λ s. or_left (is_same x z) (is_among x list) s) (λ r. or_right (is_same x z) _ (among_push x list y r ne))
    (or_cases (is_same x z) (is_among x (list ++ y ∷ [])) a)

pub rising_push : (list : List Opnd) (x : Opnd) → is_rising list ≡ true →
    ((y : Opnd) → is_among y list ≡ true → number_of y < number_of x) →
    is_rising (list ++ x ∷ []) ≡ true
rising_push [] x r l = refl
rising_push (y ∷ []) x r l = and_from _ true (lt-ltb (number_of y) (number_of x)
    (l y (or_left (is_same y y) false (same_itself y)))) refl
rising_push (y ∷ z ∷ rest) x r l =
    let h = and_parts (nat_lt (number_of y) (number_of z)) (is_rising (z ∷ rest)) r in
    and_from _ _ h.0 (rising_push (z ∷ rest) x h.1 (λ u a. l u (or_right (is_same u y) _ a)))
