-- What is kept of each grouping of nodes is so at the start, and a merge keeps it.
use Rattle.std.proofs.Common.{◌≡◌, ℕ, ◌+◌, ◌<◌, ◌≤◌, ◌^◌, Bool, List, [], ◌∷◌, length, set, map, sym, ap, ◌∙◌, subst, ⊎_elim, arith}
use Rattle.std.specs.Prelude.{sum}
use Rattle.std.specs.List.{All, range_with_len}
use Rattle.std.proofs.lemmas.Bool.{cases_lt}
use Rattle.std.proofs.lemmas.List.{length-set, length-map, get_or-map, get_or_past}
use Rattle.std.proofs.lemmas.List.FromFn.{length-range_with_len, get_or-range_with_len}
use Rattle.std.proofs.lemmas.List.Elements.{All-nil, All-cons, All-set}
use Rattle.tg_irc_definition.specs.declared.candidates.NodeFacts.{NodeFacts}
use Rattle.tg_coalescing_round.specs.glue.Lists.{list_at, singletons, set_at_all}
use Rattle.tg_coalescing_round.specs.glue.Groupings.{Grouping, IsGrouping, apart, joined}
use Rattle.tg_coalescing_round.proofs.Listing.{each_poured, length_poured, length_moved_sum, length_set_at_all, sum_moved, range_below}

-- the members of a class of one node
pub singleton_at : (n x : ℕ) → x < n → list_at (singletons n) x ≡ x ∷ []
singleton_at n x l =
    get_or-map (λ (y : ℕ). y ∷ []) (range_with_len 0 n) x 0 [] (omega (arith, length-range_with_len 0 n, l))
    ∙ ap (λ (y : ℕ). y ∷ []) (get_or-range_with_len 0 n x 0 l ∙ zero)
  where
    zero : 0 + x ≡ x
    zero = omega arith

pub no_singleton : (n x : ℕ) → n ≤ x → list_at (singletons n) x ≡ []
no_singleton n x h =
    get_or_past (singletons n) x []
    (omega (arith, h, length-map (range_with_len 0 n) (λ (y : ℕ). y ∷ []), length-range_with_len 0 n))

pub singletons_below : (n x : ℕ) → All (λ y. y < n) (list_at (singletons n) x)
singletons_below n x =
    let P = λ (y : ℕ). y < n in
    ⊎_elim (λ (l : x < n). subst (All P) (sym (singleton_at n x l)) (All-cons P x [] l (All-nil P)))
    (λ (h : n ≤ x). subst (All P) (sym (no_singleton n x h)) (All-nil P))
    (cases_lt x n)

pub apart_grouping : (facts : List NodeFacts) → sum (map (λ m. m.uses) facts) < 2 ^ 32 → IsGrouping (apart facts)
apart_grouping facts few =
    let n = length facts in
    let size : length (range_with_len 0 n) ≡ n = length-range_with_len 0 n in
    let members : length (singletons n) ≡ length (range_with_len 0 n) = length-map (range_with_len 0 n) (λ (y : ℕ). y ∷ []) in
    let below = λ (xs : List ℕ). subst (λ (k : ℕ). All (λ x. x < k) xs) (sym size) in
    record {
      members_sized = members;
      uses_sized = length-map facts (λ (m : NodeFacts). m.uses) ∙ sym size;
      made_sized = length-map facts (λ (m : NodeFacts). m.made) ∙ sym size;
      aliases_below = below (range_with_len 0 n) (range_below 0 n n (omega arith));
      members_below = λ x. below (list_at (singletons n) x) (singletons_below n x);
      few = few;
    }

pub all_set_at_all : (P : ℕ → Type 0) (number : ℕ) (places list : List ℕ) → P number → All P list →
    All P (set_at_all number places list)
all_set_at_all P number [] list h k = k
all_set_at_all P number (at ∷ places) list h k =
    all_set_at_all P number places (set list at number) h (All-set P list at number h k)

module _ (c : Grouping) (k : IsGrouping c) (kept gone : ℕ) where
  -- with other aliases
  pub relabelled_grouping : (places : List ℕ) → kept < length c.aliases →
      IsGrouping (record c { aliases = set_at_all kept places c.aliases })
  relabelled_grouping places l =
      let size : length (set_at_all kept places c.aliases) ≡ length c.aliases = length_set_at_all kept places c.aliases in
      let below = λ (xs : List ℕ). subst (λ (n : ℕ). All (λ x. x < n) xs) (sym size) in
      record {
        members_sized = k.members_sized ∙ sym size;
        uses_sized = k.uses_sized ∙ sym size;
        made_sized = k.made_sized ∙ sym size;
        aliases_below = below (set_at_all kept places c.aliases)
            (all_set_at_all (λ x. x < length c.aliases) kept places c.aliases l k.aliases_below);
        members_below = λ x. below (list_at c.members x) (k.members_below x);
        few = k.few;
      }

  pub joined_grouping : kept < length c.aliases → gone < length c.aliases → IsGrouping (joined kept gone c)
  joined_grouping l m =
      let places = list_at c.members gone in
      let r = relabelled_grouping places l in
      let size : length (set_at_all kept places c.aliases) ≡ length c.aliases = length_set_at_all kept places c.aliases in
      record {
        members_sized = length_poured kept gone c.members ∙ r.members_sized;
        uses_sized = length_moved_sum kept gone c.uses ∙ r.uses_sized;
        made_sized = length-set c.made kept _ ∙ r.made_sized;
        aliases_below = r.aliases_below;
        members_below = each_poured (λ y. y < length (set_at_all kept places c.aliases)) kept gone c.members r.members_below;
        few =
            let same = sum_moved kept gone c.uses (omega (arith, l, k.uses_sized)) (omega (arith, m, k.uses_sized)) in
            omega (arith, same, k.few);
      }

-- the parts of a grouping, where they are these
pub same_grouping : (c : Grouping) → IsGrouping c → (aliases : List ℕ) (members : List (List ℕ)) (uses : List ℕ)
    (made : List Bool) → aliases ≡ c.aliases → members ≡ c.members → uses ≡ c.uses → made ≡ c.made →
    IsGrouping (record { aliases = aliases; members = members; uses = uses; made = made })
same_grouping c k aliases members uses made p q r s = subst IsGrouping (sym same) k
  where
    same : record { aliases = aliases; members = members; uses = uses; made = made } ≡ c
    same = λ i. record { aliases = p i; members = q i; uses = r i; made = s i }
