-- Which colours are taken by the neighbours so far, and the first that is free.
use Rattle.std.proofs.Common.{◌≡◌, ◌≢◌, ℕ, zero, suc, ◌+◌, ◌<◌, ◌≤◌, Bool, true, false, ◌||◌, List, length, get_or, set, take, Option, Some, None}
use Rattle.std.proofs.Common.{IfSome, cond, refl, sym, ap, ◌∙◌, subst, ⊎_elim, arith}
use Rattle.std.specs.Prelude.{find, if◌then◌else◌}
use Rattle.std.specs.List.{list_any, range_with_len}
use Rattle.std.proofs.lemmas.Bool.{cases_eq, cases_lt, eq-eqb, ne_eqb, lt-ltb, le-ltb, cond-true, cond-false}
use Rattle.std.proofs.lemmas.List.{get_or-set_same, get_or-set_other}
use Rattle.std.proofs.lemmas.List.Elements.{All-map}
use Rattle.std.proofs.lemmas.List.Folds.{list_any_more}
use Rattle.tg_graph.specs.Interference.{colours}
use Rattle.tg_irc_definition.specs.Selection.{has_colour}
use Rattle.tg_coalescing_round.specs.mirror.Selecting.{AreColours, colour_at, own_colour, precoloured}

-- the first number of a range that passes
pub found_in : (p : ℕ → Bool) (a n x : ℕ) → a ≤ x → x < a + n → ((c : ℕ) → a ≤ c → c < x → p c ≡ false) → p x ≡ true →
    find p (range_with_len a n) ≡ Some x
found_in p a zero x h l none passes = absurd (omega (arith, h, l))
found_in p a (suc n) x h l none passes =
    ⊎_elim (λ (e : a ≡ x). cond-true (p a) _ _ (ap p e ∙ passes) ∙ ap Some e)
    (λ (d : a ≢ x).
    cond-false (p a) _ _ (none a (omega arith) (omega (arith, h, d)))
    ∙ found_in p (a + 1) n x (omega (arith, h, d)) (omega (arith, l)) (λ c k m. none c (omega (arith, k)) m) passes)
    (cases_eq a x)

-- where none passes
pub none_in : (p : ℕ → Bool) (a n : ℕ) → ((c : ℕ) → a ≤ c → c < a + n → p c ≡ false) → find p (range_with_len a n) ≡ None
none_in p a zero none = refl
none_in p a (suc n) none =
    cond-false (p a) _ _ (none a (omega arith) (omega arith))
    ∙ none_in p (a + 1) n (λ c k m. none c (omega (arith, k)) (omega (arith, m)))

or_none : (b : Bool) → (b || false) ≡ b
or_none true = refl
or_none false = refl

or_one : (b : Bool) → (b || true) ≡ true
or_one true = refl
or_one false = refl

abbrev pub Tells : List (Option ℕ) → List Bool → List ℕ → Type 0
Tells list taken nodes =
    (c : ℕ) → c < 25 → get_or taken c false ≡ list_any (λ z. has_colour (colour_at list z) c) nodes

module _ (list : List (Option ℕ)) (taken : List Bool) (xs : List ℕ) (i : ℕ) (l : i < length xs)
    (told : Tells list taken (take i xs)) where
  one_more : (c : ℕ) (o : Option ℕ) → colour_at list (get_or xs i 0) ≡ o →
      list_any (λ z. has_colour (colour_at list z) c) (take (i + 1) xs) ≡
      (list_any (λ z. has_colour (colour_at list z) c) (take i xs) || has_colour o c)
  one_more c o e =
      list_any_more (λ z. has_colour (colour_at list z) c) xs i 0 l
      ∙ ap (λ (p : Option ℕ). list_any (λ z. has_colour (colour_at list z) c) (take i xs) || has_colour p c) e

  pub told_none : colour_at list (get_or xs i 0) ≡ None → Tells list taken (take (i + 1) xs)
  told_none e c k = told c k ∙ sym (one_more c None e ∙ or_none _)

  pub told_some : (colour : ℕ) → colour_at list (get_or xs i 0) ≡ Some colour → colour < length taken →
      Tells list (set taken colour true) (take (i + 1) xs)
  told_some colour e m c k =
      ⊎_elim
      (λ (s : c ≡ colour).
      ap (λ (n : ℕ). get_or (set taken colour true) n false) s
      ∙ (get_or-set_same taken colour true false m
      ∙ sym (one_more c (Some colour) e
      ∙ (ap (λ b. list_any (λ z. has_colour (colour_at list z) c) (take i xs) || b) (eq-eqb colour c (sym s))
      ∙ or_one _))))
      (λ (d : c ≢ colour).
      get_or-set_other taken colour c true false d
      ∙ (told c k
      ∙ sym (one_more c (Some colour) e
      ∙ (ap (λ b. list_any (λ z. has_colour (colour_at list z) c) (take i xs) || b) (ne_eqb colour c (λ s. d (sym s)))
      ∙ or_none _))))
      (cases_eq c colour)

-- the first of a range that passes is below its end
pub found_below : (p : ℕ → Bool) (a n top : ℕ) → a + n ≤ top → IfSome (find p (range_with_len a n)) (λ x. x < top)
found_below p a zero top h = tt
found_below p a (suc n) top h = by (p a) (found_below p (a + 1) n top (omega (arith, h)))
  where
    by : (b : Bool) → IfSome (find p (range_with_len (a + 1) n)) (λ x. x < top) →
        IfSome (cond b (Some a) (find p (range_with_len (a + 1) n))) (λ x. x < top)
    by true r = omega (arith, h)
    by false r = r

-- registers have the colours of registers
pub precoloured_colours : (n : ℕ) → AreColours (precoloured n)
precoloured_colours n = All-map (λ c. IfSome c (λ colour. colour < colours)) own_colour (range_with_len 0 n)
    (λ k d l. own (get_or (range_with_len 0 n) k d))
  where
    own : (x : ℕ) → IfSome (own_colour x) (λ colour. colour < colours)
    own x =
        ⊎_elim
        (λ (l : x < 25). subst (λ (b : Bool). IfSome (if b then Some x else None) (λ colour. colour < 25)) (sym (lt-ltb x 25 l)) l)
        (λ (l : 25 ≤ x). subst (λ (b : Bool). IfSome (if b then Some x else None) (λ colour. colour < 25)) (sym (le-ltb x 25 l)) tt)
        (cases_lt x 25)
