-- Functions in the places of others that are no larger: the one of a function, and what of it holds of all.
use Rattle.std.proofs.Common.{ℕ, zero, suc, ◌≡◌, ◌%◌, List, [], ◌∷◌, refl, ap, subst, arith}
use Rattle.std.specs.List.{AllZip, Contains}
use Rattle.tg_tree.specs.Tree.{Ts, Function}
use Rattle.tg_tree.specs.FrameSizes.{IsSizeOf}
use Rattle.tg_canon_trace_proof.specs.Flattened.{MayBeFlattened}
use Rattle.tg_code_bounds.specs.Reduced.{ReducesTo}

-- what stands in the place of a function
pub record InPlace (gs : List (Function Ts)) (f : Function Ts) : Type 0 where
  pub function : Function Ts
  pub there : Contains gs function
  pub reduced : ReducesTo f function

pub in_place : (fs gs : List (Function Ts)) → AllZip ReducesTo fs gs → (f : Function Ts) → Contains fs f → InPlace gs f
in_place [] gs r f c = let l = c.1 in absurd (omega (arith, l))
in_place (x ∷ fs) [] r f c = absurd r
in_place (x ∷ fs) (g ∷ gs) r f (zero, l, e) =
    record { function = g; there = (zero, omega arith, refl); reduced = subst (λ h. ReducesTo h g) e r.0 }
in_place (x ∷ fs) (g ∷ gs) r f (suc k, l, e) =
    let t = in_place fs gs r.1 f (k, omega (arith, l), e) in
    let m = t.there.1 in
    record { function = t.function; there = (suc t.there.0, omega (arith, m), t.there.2); reduced = t.reduced }

-- functions in the places of such as chapter 8 takes are such
pub reduced_may : (fs gs : List (Function Ts)) → AllZip ReducesTo fs gs → ((f : Function Ts) → Contains fs f → MayBeFlattened f) →
    (g : Function Ts) → Contains gs g → MayBeFlattened g
reduced_may [] [] r may g c = let l = c.1 in absurd (omega (arith, l))
reduced_may [] (x ∷ gs) r may g c = absurd r
reduced_may (f ∷ fs) [] r may g c = absurd r
reduced_may (f ∷ fs) (x ∷ gs) r may g (zero, l, e) = subst MayBeFlattened e (r.0.may (may f (zero, omega arith, refl)))
reduced_may (f ∷ fs) (x ∷ gs) r may g (suc k, l, e) =
    reduced_may fs gs r.1 (λ h c. let m = c.1 in may h (suc c.0, omega (arith, m), c.2)) g (k, omega (arith, l), e)

-- frames for what stands in the place of a function are frames for it
pub size_before : (size : ℕ → ℕ) (f g : Function Ts) → ReducesTo f g → IsSizeOf g (size g.label) → IsSizeOf f (size f.label)
size_before size f g r s =
    let n : size g.label ≡ size f.label = ap size r.label in
    let slots = r.slots in
    let out = r.out in
    let least = s.least in
    let holds = s.holds in
    record {
      words = subst (λ m. m % 4 ≡ 0) n s.words;
      least = omega (arith, n, least);
      holds = omega (arith, n, slots, out, holds);
    }
