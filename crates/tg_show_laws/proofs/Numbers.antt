-- A number, and a temporary with its name, end where no digit follows.
use Rattle.std.proofs.Common.{ℕ, suc, ◌≡◌, List, [], ◌∷◌}
use Rattle.std.proofs.Common.{◌++◌, length, drop, Bool, true, false, refl, sym, ap, ◌∙◌, arith, w32, ℤ, pos, negsuc}
use Rattle.std.specs.Prelude.{◌==◌, ◌&&◌, nat_le, not, if◌then◌else◌}
use Rattle.std.specs.Fmt.{decimal, signed_decimal}
use Rattle.std.specs.Str.Parse.{AllDigits}
use Rattle.std.specs.Int.RustNames.{FitsSigned}
use Rattle.std.proofs.lemmas.Str.Parse.{digit_from_value}
use Rattle.std.proofs.lemmas.Fmt.{decimal_is_IsNumeral, decimal_injective, decimal_nonempty}
use Rattle.std.proofs.lemmas.List.{append_cancel_left}
use Rattle.std.proofs.lemmas.Bool.{le-leb}
use Rattle.std.proofs.Math.Facts.{to_z_inj, sfits_to_z}
use Rattle.tg_base.specs.Words.{signed}
use Rattle.tg_show.specs.Words.{int_text, name_text}
use Rattle.tg_show_laws.specs.Fitting.{IsWord}
use Rattle.tg_show_laws.proofs.Solid.{both_true}

abbrev pub is_digit : ℕ → Bool
is_digit c = nat_le 48 c && nat_le c 57

-- whether a number is at its end in front of a text
abbrev pub ends : List ℕ → Bool
ends [] = true
ends (c ∷ rest) = not (is_digit c)

abbrev digits_front : List ℕ → List ℕ
digits_front [] = []
digits_front (c ∷ rest) = if is_digit c then c ∷ digits_front rest else []

digit_is : (c : ℕ) (ds : List ℕ) → AllDigits 10 (c ∷ ds) → is_digit c ≡ true
digit_is c ds d = let r = digit_from_value c d.0 in both_true (nat_le 48 c) (nat_le c 57) (le-leb 48 c (omega (arith, r))) (le-leb c 57 (omega (arith, r)))

not_false : (q : Bool) → not q ≡ true → q ≡ false
not_false true h = let two : false ≡ true = h in cc
not_false false h = refl

front_of : (ds u : List ℕ) → AllDigits 10 ds → ends u ≡ true → digits_front (ds ++ u) ≡ ds
front_of [] [] d e = refl
front_of [] (c ∷ u) d e = rw (not_false (is_digit c) e) refl
front_of (c ∷ ds) u d e = rw (digit_is c ds d) (ap (λ x. c ∷ x) (front_of ds u d.1 e))

pub number_told : (m n : ℕ) (u v : List ℕ) → IsWord m → IsWord n → ends u ≡ true → ends v ≡ true →
    decimal m ++ u ≡ decimal n ++ v → (m ≡ n) × (u ≡ v)
number_told m n u v p q e f h =
    let a = (decimal_is_IsNumeral m (omega (arith, p))).0.1 in
    let b = (decimal_is_IsNumeral n (omega (arith, q))).0.1 in
    let same : decimal m ≡ decimal n = sym (front_of (decimal m) u a e) ∙ ap digits_front h ∙ front_of (decimal n) v b f in (
      decimal_injective m n (omega (arith, p)) (omega (arith, q)) same,
      append_cancel_left (decimal n) u v (ap (λ x. x ++ u) (sym same) ∙ h),
    )

pub no_sign : (m : ℕ) (u rest : List ℕ) → IsWord m → ends u ≡ true → decimal m ++ u ≡ 45 ∷ rest → ⊥
no_sign m u rest p e h =
    let a = (decimal_is_IsNumeral m (omega (arith, p))).0.1 in
    let none : decimal m ≡ [] = sym (front_of (decimal m) u a e) ∙ ap digits_front h in
    let long = decimal_nonempty m (omega (arith, p)) in
    let l : length (decimal m) ≡ 0 = ap length none in
    omega (arith, long, l)

signed_told : (y z : ℤ) (u v : List ℕ) → FitsSigned w32 y → FitsSigned w32 z → ends u ≡ true → ends v ≡ true →
    signed_decimal y ++ u ≡ signed_decimal z ++ v → (y ≡ z) × (u ≡ v)
signed_told (pos m) (pos n) u v p q e f h =
    let t = number_told m n u v (omega (arith, p.sfits)) (omega (arith, q.sfits)) e f h in
    (ap pos t.0, t.1)
signed_told (pos m) (negsuc n) u v p q e f h = absurd (no_sign m u (decimal (suc n) ++ v) (omega (arith, p.sfits)) e h)
signed_told (negsuc m) (pos n) u v p q e f h = absurd (no_sign n v (decimal (suc m) ++ u) (omega (arith, q.sfits)) f (sym h))
signed_told (negsuc m) (negsuc n) u v p q e f h =
    let t = number_told (suc m) (suc n) u v (omega (arith, p.sfits)) (omega (arith, q.sfits)) e f (ap (drop 1) h) in
    let same : m ≡ n = omega (arith, t.0) in
    (ap negsuc same, t.1)

pub int_told : (m n : ℕ) (u v : List ℕ) → IsWord m → IsWord n → ends u ≡ true → ends v ≡ true →
    int_text m ++ u ≡ int_text n ++ v → (m ≡ n) × (u ≡ v)
int_told m n u v p q e f h =
    let t = signed_told (signed m) (signed n) u v (sfits_to_z (record { fits = p })) (sfits_to_z (record { fits = q })) e f h in
    (to_z_inj {w = w32} (record { fits = p }) (record { fits = q }) t.0, t.1)

-- What stands behind a temporary's number depends on that number alone.
pub temp_told : (behind : ℕ → List ℕ) → ((t : ℕ) (u : List ℕ) → ends u ≡ true → ends (behind t ++ u) ≡ true) →
    (s t : ℕ) (u v : List ℕ) → IsWord s → IsWord t → ends u ≡ true → ends v ≡ true →
    decimal s ++ (behind s ++ u) ≡ decimal t ++ (behind t ++ v) → (s ≡ t) × (u ≡ v)
temp_told behind stops s t u v p q e f h =
    let n = number_told s t (behind s ++ u) (behind t ++ v) p q (stops s u e) (stops t v f) h in
    (n.0, append_cancel_left (behind t) u v (ap (λ k. behind k ++ u) (sym n.0) ∙ n.1))

pub name_ends : (name u : List ℕ) → ends u ≡ true → ends (name_text name ++ u) ≡ true
name_ends name u e = by (length name == 0)
  where
    by : (q : Bool) → ends ((if q then [] else 58 ∷ name) ++ u) ≡ true
    by true = e
    by false = refl
