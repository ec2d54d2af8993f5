-- A chain of aliases that ends at a form of its group has no more links than the group has declarations before that form.
use Rattle.std.proofs.Common.{◌≡◌, ℕ, zero, suc, ◌≤◌, List, [], ◌∷◌, length, Option, Some, None, Bool, true, false, refl, sym, ap, ◌∙◌, arith}
use Rattle.std.specs.Prelude.{◌==◌, if◌then◌else◌}
use Rattle.std.proofs.lemmas.Bool.{eqb-true}
use Rattle.tg_syntax.specs.declared.tokens.Ident.{Ident}
use Rattle.tg_syntax.specs.Tree.{Form, Alias, Fields, Array, TypeDec}
use Rattle.tg_semantics.specs.Environments.{name_of}
use Rattle.tg_typecheck.specs.Groups.{declared_as, ends_at, link, chain, has_end}

-- ---- how many names of a group a test holds for

abbrev count : (ℕ → Bool) → List TypeDec → ℕ
count p [] = 0
count p (d ∷ ds) = if p (name_of d.name) then suc (count p ds) else count p ds

count_below : (p : ℕ → Bool) (ds : List TypeDec) → count p ds ≤ length ds
count_below p [] = omega arith
count_below p (d ∷ ds) = by (p (name_of d.name)) (count_below p ds)
  where
    by : (c : Bool) → count p ds ≤ length ds → (if c then suc (count p ds) else count p ds) ≤ suc (length ds)
    by true i = omega (arith, i)
    by false i = omega (arith, i)

as_many : (a b : Bool) (k l : ℕ) → (a ≡ true → b ≡ true) → k ≤ l → (if a then suc k else k) ≤ (if b then suc l else l)
as_many true true k l h i = omega (arith, i)
as_many true false k l h i = let e : false ≡ true = h refl in cc
as_many false true k l h i = omega (arith, i)
as_many false false k l h i = i

count_more : (p q : ℕ → Bool) → ((x : ℕ) → p x ≡ true → q x ≡ true) → (ds : List TypeDec) → count p ds ≤ count q ds
count_more p q h [] = omega arith
count_more p q h (d ∷ ds) = as_many (p (name_of d.name)) (q (name_of d.name)) (count p ds) (count q ds) (h (name_of d.name)) (count_more p q h ds)

-- and for one more
this_more : (a b : Bool) (k l : ℕ) → a ≡ false → b ≡ true → k ≤ l → suc (if a then suc k else k) ≤ (if b then suc l else l)
this_more true b k l e f i = cc
this_more false true k l e f i = omega (arith, i)
this_more false false k l e f i = cc

later_more : (a b : Bool) (k l : ℕ) → (a ≡ true → b ≡ true) → suc k ≤ l → suc (if a then suc k else k) ≤ (if b then suc l else l)
later_more true true k l h i = omega (arith, i)
later_more true false k l h i = let e : false ≡ true = h refl in cc
later_more false true k l h i = omega (arith, i)
later_more false false k l h i = i

one_more : (p q : ℕ → Bool) → ((x : ℕ) → p x ≡ true → q x ≡ true) → (ds : List TypeDec) (x : ℕ) (d : TypeDec) → declared_as x ds ≡ Some d →
    p x ≡ false → q x ≡ true → suc (count p ds) ≤ count q ds
one_more p q h [] x d e f g = cc
one_more p q h (one ∷ ds) x d e f g = by (name_of one.name == x) refl e (λ k. one_more p q h ds x d k f g)
  where
    by : (c : Bool) → (name_of one.name == x) ≡ c → (if c then Some one else declared_as x ds) ≡ Some d →
        (declared_as x ds ≡ Some d → suc (count p ds) ≤ count q ds) → suc (count p (one ∷ ds)) ≤ count q (one ∷ ds)
    by true i k r =
        let same : name_of one.name ≡ x = eqb-true (name_of one.name) x i in
        this_more (p (name_of one.name)) (q (name_of one.name)) (count p ds) (count q ds) (ap p same ∙ f) (ap q same ∙ g) (count_more p q h ds)
    by false i k r = later_more (p (name_of one.name)) (q (name_of one.name)) (count p ds) (count q ds) (h (name_of one.name)) (r k)

-- ---- chains

module _ (ds : List TypeDec) where
  same_link : (n : ℕ) → ((y : ℕ) → has_end (chain n ds y) ≡ true → chain (suc n) ds y ≡ chain n ds y) → (x : ℕ) (o : Option TypeDec) →
      has_end (link (λ y. chain n ds y) x o) ≡ true → link (λ y. chain (suc n) ds y) x o ≡ link (λ y. chain n ds y) x o
  same_link n on x None e = refl
  same_link n on x (Some d) e = by d.name d.form e
    where
      by : (z : Ident) (form : Form) → has_end (link (λ y. chain n ds y) x (Some (record { name = z; form = form }))) ≡ true →
          link (λ y. chain (suc n) ds y) x (Some (record { name = z; form = form })) ≡ link (λ y. chain n ds y) x (Some (record { name = z; form = form }))
      by z (Alias w) e = on (name_of w) e
      by z (Fields ps) e = refl
      by z (Array w) e = refl

  -- with more links an end stays
  pub chain_same : (n x : ℕ) → has_end (chain n ds x) ≡ true → chain (suc n) ds x ≡ chain n ds x
  chain_same zero x e = cc
  chain_same (suc n) x e = same_link n (λ y h. chain_same n y h) x (declared_as x ds) e

  abbrev Does : (n x : ℕ) → Bool
  Does n x = has_end (chain n ds x)

  does_more : (n x : ℕ) → Does n x ≡ true → Does (suc n) x ≡ true
  does_more n x e = ap (λ c. has_end c) (chain_same n x e) ∙ e

  -- a chain that needs so many links to end at a form
  record Exactly (n x : ℕ) : Type 0 where
    not_sooner : has_end (chain n ds x) ≡ false
    end : TypeDec
    there : chain (suc n) ds x ≡ ends_at end

  is_declared : (n x : ℕ) (end : TypeDec) → chain (suc n) ds x ≡ ends_at end → (d : TypeDec) × (declared_as x ds ≡ Some d)
  is_declared n x end e = by (declared_as x ds) refl e
    where
      by : (o : Option TypeDec) → declared_as x ds ≡ o → link (λ y. chain n ds y) x o ≡ ends_at end → (d : TypeDec) × (declared_as x ds ≡ Some d)
      by None i t = cc
      by (Some d) i t = (d, i)

  next_link : (n x : ℕ) → Exactly (suc n) x → (y : ℕ) × Exactly n y
  next_link n x e = by (declared_as x ds) e.not_sooner e.there
    where
      of_form : (z : Ident) (form : Form) → has_end (link (λ y. chain n ds y) x (Some (record { name = z; form = form }))) ≡ false →
          link (λ y. chain (suc n) ds y) x (Some (record { name = z; form = form })) ≡ ends_at e.end → (y : ℕ) × Exactly n y
      of_form z (Alias w) h t = (name_of w, record { not_sooner = h; end = e.end; there = t })
      of_form z (Fields ps) h t = cc
      of_form z (Array w) h t = cc

      by : (o : Option TypeDec) → has_end (link (λ y. chain n ds y) x o) ≡ false → link (λ y. chain (suc n) ds y) x o ≡ ends_at e.end →
          (y : ℕ) × Exactly n y
      by None h t = cc
      by (Some d) h t = of_form d.name d.form h t

  -- each link is one more name whose chain ends within so many
  climbs : (n x : ℕ) → Exactly n x → suc n ≤ count (Does (suc n)) ds
  climbs zero x e =
      let d = is_declared zero x e.end e.there in
      let one = one_more (Does zero) (Does (suc zero)) (does_more zero) ds x d.0 d.1 e.not_sooner (ap (λ c. has_end c) e.there) in
      omega (arith, one)
  climbs (suc n) x e =
      let d = is_declared (suc n) x e.end e.there in
      let y = next_link n x e in
      let below = climbs n y.0 y.1 in
      let one = one_more (Does (suc n)) (Does (suc (suc n))) (does_more (suc n)) ds x d.0 d.1 e.not_sooner (ap (λ c. has_end c) e.there) in
      omega (arith, below, one)

  pub ends_sooner : (x : ℕ) (d : TypeDec) → chain (suc (length ds)) ds x ≡ ends_at d → chain (length ds) ds x ≡ ends_at d
  ends_sooner x d e = by (has_end (chain (length ds) ds x)) refl
    where
      by : (c : Bool) → has_end (chain (length ds) ds x) ≡ c → chain (length ds) ds x ≡ ends_at d
      by true i = sym (chain_same (length ds) x i) ∙ e
      by false i =
          let many = climbs (length ds) x (record { not_sooner = i; end = d; there = e }) in
          absurd (omega (arith, many, count_below (Does (suc (length ds))) ds))
