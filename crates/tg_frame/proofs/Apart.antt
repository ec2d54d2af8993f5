-- Homes that are drawn, and homes that differ, one by one.
use Rattle.std.proofs.Common.{ℕ, zero, suc, ◌≡◌, ◌<◌, ◌≤◌, List, [], ◌∷◌, length, Bool, true, false, Some, refl, sym, ap, ◌∙◌, arith, subst, get_or, inl, inr}
use Rattle.std.specs.Prelude.{◌≢◌, ◌⊎◌, IsTrue, All}
use Rattle.std.specs.List.{slice_get, list_any}
use Rattle.std.proofs.lemmas.Bool.{cases_lt}
use Rattle.std.proofs.lemmas.Bool.Decides.{nat_tests}
use Rattle.std.proofs.lemmas.List.Elements.{All-cons}
use Rattle.std.proofs.lemmas.List.Folds.{list_any_at}
use Rattle.std.proofs.lemmas.Option.{slice_get_within, get_or_from_slice_get}
use Rattle.tg_frame.specs.declared.accesses.Access.{Access}
use Rattle.tg_frame.specs.declared.accesses.Access.TheVariants.{InTemp, InFrame}
use Rattle.tg_frame.proofs.Making.{both}
use Rattle.tg_frame.specs.Homes.{IsDrawn, slot_bound, temp_bound, is_same_home, differ}

pub drawn_stays : (slots temps slots' temps' : ℕ) (home : Access) → slots ≤ slots' → temps ≤ temps' → IsDrawn slots temps home → IsDrawn slots' temps' home
drawn_stays slots temps slots' temps' (InTemp t) ls lt d = omega arith
drawn_stays slots temps slots' temps' (InFrame s) ls lt d = omega arith

pub all_drawn : (homes : List Access) (slots temps : ℕ) → slot_bound homes ≤ slots → temp_bound homes ≤ temps → All (IsDrawn slots temps) homes
all_drawn [] slots temps ls lt = λ k d l. absurd (omega arith)
all_drawn (InTemp t ∷ homes) slots temps ls lt =
    All-cons (IsDrawn slots temps) (InTemp t) homes (omega arith) (all_drawn homes slots temps ls (omega arith))
all_drawn (InFrame s ∷ homes) slots temps ls lt =
    All-cons (IsDrawn slots temps) (InFrame s) homes (omega arith) (all_drawn homes slots temps (omega arith) lt)

-- a home that stands at a place
pub drawn_at : (homes : List Access) (slots temps i : ℕ) (home : Access) → slot_bound homes ≤ slots → temp_bound homes ≤ temps →
    slice_get homes i ≡ Some home → IsDrawn slots temps home
drawn_at homes slots temps i home ls lt e =
    subst (IsDrawn slots temps) (get_or_from_slice_get homes i home home e) (all_drawn homes slots temps ls lt i home (slice_get_within homes i home e))

-- a home is the same as itself, and so is one that is equal
same_itself : (a : Access) → is_same_home a a ≡ true
same_itself (InTemp t) = grind (arith, nat_tests)
same_itself (InFrame s) = grind (arith, nat_tests)

not_true : (b : Bool) → (b ≡ true → ⊥) → b ≡ false
not_true true h = absurd (h refl)
not_true false h = refl

-- the home of the head is none of the others
head_apart : (a : Access) (homes : List Access) (j : ℕ) (d : Access) → list_any (is_same_home a) homes ≡ false →
    j < length homes → is_same_home a (get_or homes j d) ≡ false
head_apart a homes j d e lt =
    not_true (is_same_home a (get_or homes j d)) (λ t. true_is_false (sym (list_any_at (is_same_home a) homes j d lt t) ∙ e))
  where
    true_is_false : true ≡ false → ⊥
    true_is_false h = cc

two_apart : (homes : List Access) (i j : ℕ) (d : Access) → IsTrue (differ homes) → i < j → j < length homes →
    is_same_home (get_or homes i d) (get_or homes j d) ≡ false
two_apart [] i j d h lt l = absurd (omega arith)
two_apart (a ∷ homes) i zero d h lt l = absurd (omega arith)
two_apart (a ∷ homes) zero (suc j) d h lt l = head_apart a homes j d (both (list_any (is_same_home a) homes) (differ homes) h).0 (omega arith)
two_apart (a ∷ homes) (suc i) (suc j) d h lt l = two_apart homes i j d (both (list_any (is_same_home a) homes) (differ homes) h).1 (omega arith) (omega arith)

differ_in_order : (homes : List Access) (i j : ℕ) (a b : Access) → IsTrue (differ homes) → i < j → slice_get homes i ≡ Some a →
    slice_get homes j ≡ Some b → a ≢ b
differ_in_order homes i j a b d lt e f g =
    clash (sym (ap (λ x. is_same_home a x) (sym (get_or_from_slice_get homes j b a f))
    ∙ ap (λ x. is_same_home x (get_or homes j a)) (sym (get_or_from_slice_get homes i a a e)) ∙ two_apart homes i j a d lt (slice_get_within homes j b f))
    ∙ (ap (is_same_home a) (sym g) ∙ same_itself a))
  where
    clash : false ≡ true → ⊥
    clash h = cc

pub differ_at : (homes : List Access) (i j : ℕ) (a b : Access) → IsTrue (differ homes) → i ≢ j → slice_get homes i ≡ Some a → slice_get homes j ≡ Some b → a ≢ b
differ_at homes i j a b d ne e f = by (cases_lt i j)
  where
    by : ((i < j) ⊎ (j ≤ i)) → a ≢ b
    by (inl lt) = differ_in_order homes i j a b d lt e f
    by (inr le) = λ g. differ_in_order homes j i b a d (omega (arith, le, ne)) f e (sym g)

-- a home that is drawn is none that isn't
pub drawn_differs : (slots temps : ℕ) (home later : Access) → IsDrawn slots temps home → (IsDrawn slots temps later → ⊥) → home ≢ later
drawn_differs slots temps home later d h e = h (subst (IsDrawn slots temps) e d)
