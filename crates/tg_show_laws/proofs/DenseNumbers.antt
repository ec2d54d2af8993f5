-- Numbers and temporaries without blanks end where no digit follows.
use Rattle.std.proofs.Common.{ℕ, ◌≡◌, List, [], ◌∷◌, ◌++◌, length, Bool, true, false, refl, sym, ap, ◌∙◌, arith, ℤ, pos, negsuc, suc, w32}
use Rattle.std.specs.Prelude.{◌==◌, if◌then◌else◌, slice_index_or}
use Rattle.std.specs.Fmt.{decimal, signed_decimal}
use Rattle.std.specs.Int.RustNames.{FitsSigned}
use Rattle.std.specs.Str.Parse.{AllDigits}
use Rattle.std.proofs.lemmas.Str.Parse.{digit_from_value}
use Rattle.std.proofs.lemmas.Fmt.{decimal_is_IsNumeral}
use Rattle.std.proofs.lemmas.Bool.{ne_eqb}
use Rattle.std.proofs.Math.Facts.{sfits_to_z}
use Rattle.tg_base.specs.Words.{signed}
use Rattle.tg_show.specs.Words.{int_text}
use Rattle.tg_show_laws.specs.Fitting.{IsWord}
use Rattle.tg_show_laws.proofs.Solid.{solid}
use Rattle.tg_show_laws.proofs.Numbers.{ends, number_told, int_told, temp_told}
use Rattle.tg_show_laws.proofs.Dense.{name_behind}

solid_digits : (ds : List ℕ) → AllDigits 10 ds → solid ds ≡ ds
solid_digits [] d = refl
solid_digits (c ∷ ds) d =
    let r = digit_from_value c d.0 in
    rw (ne_eqb c 32 (λ e. omega (arith, r, e)), ne_eqb c 10 (λ e. omega (arith, r, e))) (ap (λ x. c ∷ x) (solid_digits ds d.1))

solid_decimal : (n : ℕ) → IsWord n → solid (decimal n) ≡ decimal n
solid_decimal n h = solid_digits (decimal n) (decimal_is_IsNumeral n (omega (arith, h))).0.1

solid_signed : (z : ℤ) → FitsSigned w32 z → solid (signed_decimal z) ≡ signed_decimal z
solid_signed (pos n) f = solid_decimal n (omega (arith, f.sfits))
solid_signed (negsuc n) f = ap (λ x. 45 ∷ x) (solid_decimal (suc n) (omega (arith, f.sfits)))

solid_int : (n : ℕ) → IsWord n → solid (int_text n) ≡ int_text n
solid_int n h = solid_signed (signed n) (sfits_to_z (record { fits = h }))

pub dense_number : (m n : ℕ) (u v : List ℕ) → IsWord m → IsWord n → ends u ≡ true → ends v ≡ true →
    solid (decimal m) ++ u ≡ solid (decimal n) ++ v → (m ≡ n) × (u ≡ v)
dense_number m n u v p q e f h =
    number_told m n u v p q e f (ap (λ x. x ++ u) (sym (solid_decimal m p)) ∙ h ∙ ap (λ x. x ++ v) (solid_decimal n q))

pub dense_int : (m n : ℕ) (u v : List ℕ) → IsWord m → IsWord n → ends u ≡ true → ends v ≡ true →
    solid (int_text m) ++ u ≡ solid (int_text n) ++ v → (m ≡ n) × (u ≡ v)
dense_int m n u v p q e f h =
    int_told m n u v p q e f (ap (λ x. x ++ u) (sym (solid_int m p)) ∙ h ∙ ap (λ x. x ++ v) (solid_int n q))

behind_ends : (names : List (List ℕ)) (t : ℕ) (u : List ℕ) → ends u ≡ true → ends (name_behind names t ++ u) ≡ true
behind_ends names t u e = by (length (slice_index_or names t []) == 0)
  where
    by : (q : Bool) → ends (solid (if q then [] else 58 ∷ slice_index_or names t []) ++ u) ≡ true
    by true = e
    by false = refl

pub dense_temp : (names : List (List ℕ)) (s t : ℕ) (u v : List ℕ) → IsWord s → IsWord t → ends u ≡ true → ends v ≡ true →
    solid (decimal s) ++ (name_behind names s ++ u) ≡ solid (decimal t) ++ (name_behind names t ++ v) → (s ≡ t) × (u ≡ v)
dense_temp names s t u v p q e f h =
    temp_told (name_behind names) (behind_ends names) s t u v p q e f
    (ap (λ x. x ++ (name_behind names s ++ u)) (sym (solid_decimal s p)) ∙ h ∙ ap (λ x. x ++ (name_behind names t ++ v)) (solid_decimal t q))
