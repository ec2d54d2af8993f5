-- Each node stays in exactly one list.
use Rattle.std.specs.Prelude.{◌==◌, nat_eq, if◌then◌else◌}
use Rattle.std.proofs.Common.{◌≡◌, ◌≢◌, ℕ, zero, suc, ◌+◌, ◌-◌, ◌<◌, ◌≤◌, Bool, true, false, List, [], ◌∷◌, ◌++◌, refl, sym, ap, ◌∙◌, subst, ⊎_elim, arith}
use Rattle.std.specs.List.{IsDistinct, AllByRecursion, range_with_len}
use Rattle.std.proofs.lemmas.Bool.{cases_eq, cases_lt, eq-eqb, ne_eqb, cond-true, cond-false}
use Rattle.std.proofs.lemmas.List.{append-nil}
use Rattle.tg_graph.specs.declared.worklists.Worklist.{Worklist}
use Rattle.tg_graph.specs.declared.worklists.Worklist.TheVariants.{Fixed, Simplify, Freeze, Spill, Stacked, Merged}
use Rattle.tg_graph.specs.Interference.{colours, is_among}
use Rattle.tg_graph.specs.Lists.{Lists, nodes_in, number, without, started, started_in, moved}
use Rattle.tg_graph.specs.laws.Laws.{ArePartition}
use Rattle.tg_graph.proofs.Runs.{without_same, without_other}
use Rattle.tg_graph.proofs.Changes.{distinct_push}
use Rattle.tg_graph.proofs.Members.{among_without_same, among_without_other, among_added_same, among_added_other, among_above}
use Rattle.tg_graph.proofs.Moves.{nodes_by, told_fixed, told_spill}

-- the members of a list after a move, by a number for the list
abbrev moved_list : Lists → ℕ → Worklist → Worklist → List ℕ
moved_list lists node list l = without node (nodes_in lists l) ++ (if number l == number list then node ∷ [] else [])

moved_is : (lists : Lists) (node : ℕ) (list l : Worklist) →
    nodes_in (moved lists node list) l ≡ moved_list lists node list l
moved_is lists node list l = nodes_by lists.nodes (moved_list lists node list) l

pub moved_tells : (lists : Lists) (node : ℕ) (list l : Worklist) (y : ℕ) →
    is_among y (nodes_in (moved lists node list) l)
    ≡ (if y == node then number l == number list else is_among y (nodes_in lists l))
moved_tells lists node list l y =
    ap (is_among y) (moved_is lists node list l)
    ∙ ⊎_elim
    (λ (p : y ≡ node).
    ap (λ i. is_among i (moved_list lists node list l)) p
    ∙ (among_added_same node (without node (nodes_in lists l)) (number l == number list)
    (among_without_same node (nodes_in lists l))
    ∙ sym (cond-true _ _ _ (eq-eqb y node p))))
    (λ (p : y ≢ node).
    among_added_other node y (without node (nodes_in lists l)) (number l == number list) p
    ∙ (among_without_other node y (nodes_in lists l) p ∙ sym (cond-false _ _ _ (ne_eqb y node p))))
    (cases_eq y node)

at_same : (lists : Lists) (node : ℕ) (list l : Worklist) (y : ℕ) → y ≡ node →
    is_among y (nodes_in (moved lists node list) l) ≡ (number l == number list)
at_same lists node list l y p = moved_tells lists node list l y ∙ cond-true _ _ _ (eq-eqb y node p)

at_other : (lists : Lists) (node : ℕ) (list l : Worklist) (y : ℕ) → y ≢ node →
    is_among y (nodes_in (moved lists node list) l) ≡ is_among y (nodes_in lists l)
at_other lists node list l y p = moved_tells lists node list l y ∙ cond-false _ _ _ (ne_eqb y node p)

-- No node twice.

all_without : (P : ℕ → Type 0) (x : ℕ) (xs : List ℕ) → AllByRecursion P xs → AllByRecursion P (without x xs)
all_without P x [] h = tt
all_without P x (u ∷ us) h =
    ⊎_elim (λ (p : x ≡ u). subst (λ (ys : List ℕ). AllByRecursion P ys) (sym (without_same x u us p))
    (all_without P x us h.1))
    (λ (p : x ≢ u). subst (λ (ys : List ℕ). AllByRecursion P ys) (sym (without_other x u us p))
    (h.0, all_without P x us h.1))
    (cases_eq x u)

distinct_without : (x : ℕ) (xs : List ℕ) → IsDistinct nat_eq xs → IsDistinct nat_eq (without x xs)
unfolding IsDistinct
distinct_without x [] h = tt
distinct_without x (u ∷ us) h =
    ⊎_elim (λ (p : x ≡ u). subst (λ (ys : List ℕ). IsDistinct nat_eq ys) (sym (without_same x u us p))
    (distinct_without x us h.1))
    (λ (p : x ≢ u).
    subst (λ (ys : List ℕ). IsDistinct nat_eq ys) (sym (without_other x u us p))
    (all_without (λ z. nat_eq u z ≡ false) x us h.0, distinct_without x us h.1))
    (cases_eq x u)

distinct_added : (x : ℕ) (xs : List ℕ) (b : Bool) → IsDistinct nat_eq xs → is_among x xs ≡ false →
    IsDistinct nat_eq (xs ++ (if b then x ∷ [] else []))
distinct_added x xs true h p = distinct_push xs x h p
distinct_added x xs false h p = subst (λ (ys : List ℕ). IsDistinct nat_eq ys) (sym (append-nil xs)) h

all_above : (a b k : ℕ) → a < b → AllByRecursion (λ z. nat_eq a z ≡ false) (range_with_len b k)
all_above a b zero h = tt
all_above a b (suc k) h = (ne_eqb a b (λ e. omega (arith, h, e)), all_above a (b + 1) k (omega (arith, h)))

distinct_range : (a k : ℕ) → IsDistinct nat_eq (range_with_len a k)
unfolding IsDistinct
distinct_range a zero = tt
distinct_range a (suc k) = (all_above a (a + 1) k (omega arith), distinct_range (a + 1) k)

distinct_none : IsDistinct nat_eq []
unfolding IsDistinct
distinct_none = tt

distinct_started : (n : ℕ) (l : Worklist) → IsDistinct nat_eq (started_in n l)
distinct_started n Fixed = distinct_range 0 25
distinct_started n Simplify = distinct_none
distinct_started n Freeze = distinct_none
distinct_started n Spill = distinct_range 25 (n - 25)
distinct_started n Stacked = distinct_none
distinct_started n Merged = distinct_none

-- What is in a list at the start is a node.
not_both : (b : Bool) → b ≡ true → b ≡ false → ⊥
not_both b p q = cc

started_nodes : (n : ℕ) → colours ≤ n → (l : Worklist) (x : ℕ) → is_among x (started_in n l) ≡ true → x < n
started_nodes n h Fixed x t =
    ⊎_elim (λ (k : x < n). k) (λ (k : n ≤ x).
    absurd (not_both (is_among x (range_with_len 0 25)) t (among_above x 0 25 (omega (arith, h, k)))))
    (cases_lt x n)
started_nodes n h Simplify x t = absurd (not_both false t refl)
started_nodes n h Freeze x t = absurd (not_both false t refl)
started_nodes n h Spill x t =
    ⊎_elim (λ (k : x < n). k) (λ (k : n ≤ x).
    absurd (not_both (is_among x (range_with_len 25 (n - 25))) t (among_above x 25 (n - 25) (omega (arith, h, k)))))
    (cases_lt x n)
started_nodes n h Stacked x t = absurd (not_both false t refl)
started_nodes n h Merged x t = absurd (not_both false t refl)

pub start_parts : (n : ℕ) → colours ≤ n → ArePartition (started n)
start_parts n h = record {
  one = λ x k.
      ⊎_elim (λ (l : x < 25). place Fixed x (λ w. told_fixed n w x l))
      (λ (l : 25 ≤ x). place Spill x (λ w. told_spill n w x l k))
      (cases_lt x 25);
  nodes = λ l x t. started_nodes n h l x (ap (is_among x) (sym (nodes_by n (started_in n) l)) ∙ t);
  once = λ l. subst (λ (xs : List ℕ). IsDistinct nat_eq xs) (sym (nodes_by n (started_in n) l)) (distinct_started n l);
}
  where
    place : (list : Worklist) (x : ℕ) → ((w : Worklist) → is_among x (started_in n w) ≡ (number w == number list)) →
        (m : Worklist) × ((l : Worklist) → is_among x (nodes_in (started n) l) ≡ (number l == number m))
    place list x t = (list, λ l. ap (is_among x) (nodes_by n (started_in n) l) ∙ t l)

pub moved_parts : (lists : Lists) (node : ℕ) (list : Worklist) → ArePartition lists → node < lists.nodes →
    ArePartition (moved lists node list)
moved_parts lists node list s h = record {
  one = λ x k.
      ⊎_elim (λ (p : x ≡ node). here list x (λ l. at_same lists node list l x p))
      (λ (p : x ≢ node). let was = s.one x k in here was.0 x (λ l. at_other lists node list l x p ∙ was.1 l))
      (cases_eq x node);
  nodes = λ l x t.
      ⊎_elim (λ (p : x ≡ node). subst (λ (i : ℕ). i < lists.nodes) (sym p) h)
      (λ (p : x ≢ node). s.nodes l x (sym (at_other lists node list l x p) ∙ t))
      (cases_eq x node);
  once = λ l.
      subst (λ (xs : List ℕ). IsDistinct nat_eq xs) (sym (moved_is lists node list l))
      (distinct_added node (without node (nodes_in lists l)) (number l == number list)
      (distinct_without node (nodes_in lists l) (s.once l))
      (among_without_same node (nodes_in lists l)));
}
  where
    here : (m : Worklist) (x : ℕ) →
        ((l : Worklist) → is_among x (nodes_in (moved lists node list) l) ≡ (number l == number m)) →
        (m' : Worklist) × ((l : Worklist) → is_among x (nodes_in (moved lists node list) l) ≡ (number l == number m'))
    here m x t = (m, t)
