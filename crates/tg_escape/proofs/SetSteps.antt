-- Sets of bytes, of the keys of a hash set and of lists.
use Rattle.std.specs.Prelude.{cond, ◌||◌}
use Rattle.std.specs.List.{list_any, flat_map}
use Rattle.std.specs.Ordering.{nat_cmp, eq_by_cmp}
use Rattle.std.specs.Cmp.{nat_cmp_total, nat_eq_equiv, unsigned_tied}
use Rattle.std.specs.FinSet.{FinSet, empty, contains, insert, from_list, contains-empty, contains-insert, contains-from_list, same_set, nat_cmp-IsAntisymmetric}
use Rattle.std.proofs.Common.{◌≡◌, ℕ, nat_eq, List, [], ◌∷◌, ◌++◌, Bool, true, false, refl, sym, ap, ◌∙◌}
use Rattle.tg_escape.specs.declared.found.Found.{Found}
use Rattle.tg_escape.specs.Uses.{Use}
use Rattle.tg_escape.specs.Escaping.{escapes_by}
use Rattle.tg_escape.specs.Links.{links_by}
use Rattle.tg_escape.specs.glue.Searches.{with_all, with_use, with_uses}

same_test : (ks : List ℕ) (q : ℕ) → list_any (eq_by_cmp nat_cmp q) ks ≡ list_any (nat_eq q) ks
same_test [] q = refl
same_test (k ∷ ks) q = ap (λ b. b || list_any (eq_by_cmp nat_cmp q) ks) (unsigned_tied q k) ∙ ap (λ b. nat_eq q k || b) (same_test ks q)

-- the set of a list's numbers has what the list has
pub has_key : (ks : List ℕ) (q : ℕ) → contains (from_list {R = nat_cmp} ks) q ≡ list_any (nat_eq q) ks
has_key ks q = contains-from_list nat_cmp_total ks q ∙ same_test ks q

or_is : (b x : Bool) → cond b true x ≡ (b || x)
or_is true x = refl
or_is false x = refl

-- one more
pub put_in : (old new : List ℕ) (at : ℕ) → ((q : ℕ) → list_any (nat_eq q) new ≡ cond (nat_eq at q) true (list_any (nat_eq q) old)) →
    from_list {R = nat_cmp} new ≡ insert (from_list old) at
put_in old new at updates =
    let same = λ (q : ℕ). unsigned_tied q at ∙ nat_eq_equiv.symm q at in
    same_set nat_cmp_total nat_cmp-IsAntisymmetric _ _ (λ q.
    has_key new q ∙ (updates q ∙ (or_is (nat_eq at q) (list_any (nat_eq q) old)
    ∙ (ap (λ b. b || list_any (nat_eq q) old) (sym (same q))
    ∙ (ap (λ b. eq_by_cmp nat_cmp q at || b) (sym (has_key old q)) ∙ sym (contains-insert nat_cmp_total (from_list old) at q))))))

swapped : (a b c : Bool) → (b || (a || c)) ≡ ((a || b) || c)
swapped true true c = refl
swapped true false c = refl
swapped false b c = refl

none_more : (b : Bool) → (b || false) ≡ b
none_more true = refl
none_more false = refl

has_all : (ks : List ℕ) (s : FinSet nat_cmp) (q : ℕ) → contains (with_all ks s) q ≡ (list_any (eq_by_cmp nat_cmp q) ks || contains s q)
has_all [] s q = refl
has_all (k ∷ ks) s q =
    has_all ks (insert s k) q ∙ (ap (λ b. list_any (eq_by_cmp nat_cmp q) ks || b) (contains-insert nat_cmp_total s k q) ∙ swapped (eq_by_cmp nat_cmp q k)
    (list_any (eq_by_cmp nat_cmp q) ks) (contains s q))

-- a list's bytes put into no others
pub all_of : (ks : List ℕ) → with_all ks empty ≡ from_list ks
all_of ks = same_set nat_cmp_total nat_cmp-IsAntisymmetric _ _ (λ q.
    has_all ks empty q ∙ (ap (λ b. list_any (eq_by_cmp nat_cmp q) ks || b) (contains-empty nat_cmp q)
    ∙ (none_more _ ∙ sym (contains-from_list nat_cmp_total ks q))))

-- the bytes of two lists, one after another
with_both : (xs ys : List ℕ) (s : FinSet nat_cmp) → with_all (xs ++ ys) s ≡ with_all ys (with_all xs s)
with_both [] ys s = refl
with_both (x ∷ xs) ys s = with_both xs ys (insert s x)

-- what uses show to escape, and whose links they go through
pub escapes_shown : (us : List Use) (f : Found) → (with_uses us f).escapes ≡ with_all (flat_map escapes_by us) f.escapes
escapes_shown [] f = refl
escapes_shown (u ∷ us) f = escapes_shown us (with_use u f) ∙ sym (with_both (escapes_by u) (flat_map escapes_by us) f.escapes)

pub links_shown : (us : List Use) (f : Found) → (with_uses us f).links ≡ with_all (flat_map links_by us) f.links
links_shown [] f = refl
links_shown (u ∷ us) f = links_shown us (with_use u f) ∙ sym (with_both (links_by u) (flat_map links_by us) f.links)

pub escapes_from_nothing : (us : List Use) (f g : Found) → g ≡ with_uses us f → f.escapes ≡ empty → g.escapes ≡ from_list (flat_map escapes_by us)
escapes_from_nothing us f g e n = ap (λ x. x.escapes) e ∙ (escapes_shown us f ∙ (ap (λ s. with_all (flat_map escapes_by us) s) n ∙ all_of _))

pub links_from_nothing : (us : List Use) (f g : Found) → g ≡ with_uses us f → f.links ≡ empty → g.links ≡ from_list (flat_map links_by us)
links_from_nothing us f g e n = ap (λ x. x.links) e ∙ (links_shown us f ∙ (ap (λ s. with_all (flat_map links_by us) s) n ∙ all_of _))
