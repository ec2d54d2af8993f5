-- The bits of a product of two words with their signs.
use Rattle.std.proofs.Common.{◌≡◌, ◌≤◌, w32, w64, ℤ, pos, negsuc, ◌*ℤ◌, to_z, of_z, arith, lit<, refl}
use Rattle.std.specs.Int.RustNames.{unsigned_abs}
use Rattle.std.proofs.lemmas.Int.{fits_signed_mul}
use Rattle.std.proofs.Math.Facts.{to_z-of_z}
use mir.Val.{SFits}

mag_below : (z : ℤ) → SFits w32 z → unsigned_abs z ≤ 2147483648
mag_below (pos n) f = omega (arith, f.sfits)
mag_below (negsuc n) f = omega (arith, f.sfits)

wider : (z : ℤ) → SFits w32 z → SFits w64 z
wider z f = record { sfits = omega (arith, f.sfits) }

pub product_bits : (a b : ℤ) → SFits w32 a → SFits w32 b →
    of_z w64 (to_z w64 (of_z w64 (to_z w64 (of_z w64 (to_z w32 (of_z w32 a))) *ℤ to_z w64 (of_z w64 (to_z w32 (of_z w32 b)))))) ≡ of_z w64 (a *ℤ b)
product_bits a b f g =
    let fw : SFits w64 a = wider a f in
    let gw : SFits w64 b = wider b g in
    let p : SFits w64 (a *ℤ b) = fits_signed_mul w64 a b 2147483648 2147483648 (mag_below a f) (mag_below b g) (lit< tt) in
    rw (
      to_z-of_z {w = w32} {z = a} f,
      to_z-of_z {w = w32} {z = b} g,
      to_z-of_z {w = w64} {z = a} fw,
      to_z-of_z {w = w64}
          {z = b} gw,
      to_z-of_z {w = w64} {z = a *ℤ b} p,
    ) refl
