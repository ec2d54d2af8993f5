-- What it makes of the worklists that a temporary is put where it belongs.
use Rattle.std.proofs.Common.{◌≡◌, ◌≢◌, ℕ, ◌<◌, Bool, true, false, not, ◌&&◌, ◌||◌}
use Rattle.std.proofs.Common.{refl, sym, ap, subst, ◌∙◌, ⊎_elim}
use Rattle.std.specs.Prelude.{◌==◌, if◌then◌else◌}
use Rattle.std.proofs.lemmas.Bool.{cases_eq, cond-true, cond-false}
use Rattle.tg_irc_definition.proofs.Deciding.{both, tells, never, not_true, neither, same_node, same_test}
use Rattle.tg_graph.specs.declared.worklists.Worklist.{Worklist}
use Rattle.tg_graph.specs.declared.worklists.Worklist.TheVariants.{Fixed, Simplify, Freeze, Spill, Stacked, Merged}
use Rattle.tg_graph.specs.Interference.{is_among, is_register}
use Rattle.tg_graph.specs.Lists.{Lists, nodes_in, number, moved}
use Rattle.tg_graph.specs.laws.Laws.{ArePartition}
use Rattle.tg_graph.proofs.Partitions.{moved_tells, moved_parts}
use Rattle.tg_coalescing_round.specs.glue.Works.{Work, is_left, is_open, list_of, relisted}

-- temporaries that remain were moved among the lists of these
pub record IsShifted (l m : Lists) : Type 0 where
  pub nodes : m.nodes ≡ l.nodes
  pub fixed : (z : ℕ) → is_among z m.fixed ≡ is_among z l.fixed
  pub stacked : (z : ℕ) → is_among z m.stacked ≡ is_among z l.stacked
  pub merged : (z : ℕ) → is_among z m.merged ≡ is_among z l.merged
  pub kept : ArePartition l → ArePartition m

pub shifted_none : (l : Lists) → IsShifted l l
shifted_none l = record { nodes = refl; fixed = λ z. refl; stacked = λ z. refl; merged = λ z. refl; kept = λ p. p }

pub shifted_then : (k l m : Lists) → IsShifted k l → IsShifted l m → IsShifted k m
shifted_then k l m a b = record {
  nodes = b.nodes ∙ a.nodes;
  fixed = λ z. b.fixed z ∙ a.fixed z;
  stacked = λ z. b.stacked z ∙ a.stacked z;
  merged = λ z. b.merged z ∙ a.merged z;
  kept = λ p. b.kept (a.kept p);
}

pub shifted_left : (l m : Lists) → IsShifted l m → (z : ℕ) → is_left m z ≡ is_left l z
shifted_left l m s z =
    ap (λ b. not (b || is_among z m.merged)) (s.stacked z)
    ∙ ap (λ b. not (is_among z l.stacked || b)) (s.merged z)

-- the lists for temporaries that remain
abbrev pub by_tests : (is_low is_related : Bool) → Worklist
by_tests low related = if low then (if related then Freeze else Simplify) else Spill

not_fixed : (b c : Bool) → (0 == number (by_tests b c)) ≡ false
not_fixed true true = refl
not_fixed true false = refl
not_fixed false c = refl

not_stacked : (b c : Bool) → (4 == number (by_tests b c)) ≡ false
not_stacked true true = refl
not_stacked true false = refl
not_stacked false c = refl

not_merged : (b c : Bool) → (5 == number (by_tests b c)) ≡ false
not_merged true true = refl
not_merged true false = refl
not_merged false c = refl

-- a node moved, by the list that it is in afterwards
pub moved_it : (l : Lists) (x : ℕ) (list k : Worklist) →
    is_among x (nodes_in (moved l x list) k) ≡ (number k == number list)
moved_it l x list k = moved_tells l x list k x ∙ cond-true _ _ _ (same_test x x refl)

pub moved_other : (l : Lists) (x z : ℕ) (list k : Worklist) → z ≢ x →
    is_among z (nodes_in (moved l x list) k) ≡ is_among z (nodes_in l k)
moved_other l x z list k d = moved_tells l x list k z ∙ cond-false _ _ _ (never (λ e. d (same_node z x e)))

module _ (x : ℕ) (w : Work) where
  abbrev pub moved_again : Work
  moved_again = record w { lists = moved w.lists x (list_of w x) }

  pub relisted_open : is_open w x ≡ true → relisted x w ≡ moved_again
  unfolding relisted
  relisted_open e = ap (λ b. if b then moved_again else w) e

  pub relisted_not : is_open w x ≡ false → relisted x w ≡ w
  unfolding relisted
  relisted_not e = ap (λ b. if b then moved_again else w) e

  -- where a node stays out of a list, also where it is moved
  stays_out : (list : Worklist) → is_among x (nodes_in w.lists list) ≡ false →
      (number list == number (list_of w x)) ≡ false → (z : ℕ) →
      is_among z (nodes_in moved_again.lists list) ≡ is_among z (nodes_in w.lists list)
  stays_out list out not_its z =
      ⊎_elim
      (λ (p : z ≡ x). subst (λ y. is_among y (nodes_in moved_again.lists list) ≡ is_among y (nodes_in w.lists list))
      (sym p) (moved_it w.lists x (list_of w x) list ∙ (not_its ∙ sym out)))
      (λ (d : z ≢ x). moved_other w.lists x z (list_of w x) list d)
      (cases_eq z x)

  shifted_again : x < w.lists.nodes → is_among x w.lists.fixed ≡ is_register x → is_open w x ≡ true →
      IsShifted w.lists moved_again.lists
  shifted_again l fixed o =
      let parts = both (not (is_register x)) (is_left w.lists x) o in
      let gone = neither (is_among x w.lists.stacked) (is_among x w.lists.merged) (not_true parts.1) in
      record {
        nodes = refl;
        fixed = stays_out Fixed (fixed ∙ not_true parts.0) (not_fixed _ _);
        stacked = stays_out Stacked gone.0 (not_stacked _ _);
        merged = stays_out Merged gone.1 (not_merged _ _);
        kept = λ p. moved_parts w.lists x (list_of w x) p l;
      }

  pub relisted_same : relisted x w ≡ record w { lists = (relisted x w).lists }
  unfolding relisted
  relisted_same = by (is_open w x)
    where
      by : (b : Bool) → (if b then moved_again else w) ≡ record w { lists = (if b then moved_again else w).lists }
      by true = refl
      by false = refl

  pub relisted_shifts : x < w.lists.nodes → is_among x w.lists.fixed ≡ is_register x →
      IsShifted w.lists (relisted x w).lists
  relisted_shifts l fixed =
      ⊎_elim
      (λ (e : is_open w x ≡ true). subst (λ (v : Work). IsShifted w.lists v.lists) (sym (relisted_open e))
      (shifted_again l fixed e))
      (λ (e : is_open w x ≡ false). subst (λ (v : Work). IsShifted w.lists v.lists) (sym (relisted_not e))
      (shifted_none w.lists))
      (tells (is_open w x))

  pub relisted_other : (z : ℕ) (list : Worklist) → z ≢ x →
      is_among z (nodes_in (relisted x w).lists list) ≡ is_among z (nodes_in w.lists list)
  relisted_other z list d =
      ⊎_elim
      (λ (e : is_open w x ≡ true). ap (λ (v : Work). is_among z (nodes_in v.lists list)) (relisted_open e)
      ∙ moved_other w.lists x z (list_of w x) list d)
      (λ (e : is_open w x ≡ false). ap (λ (v : Work). is_among z (nodes_in v.lists list)) (relisted_not e))
      (tells (is_open w x))

  pub relisted_it : (list : Worklist) → is_open w x ≡ true →
      is_among x (nodes_in (relisted x w).lists list) ≡ (number list == number (list_of w x))
  relisted_it list e =
      ap (λ (v : Work). is_among x (nodes_in v.lists list)) (relisted_open e) ∙ moved_it w.lists x (list_of w x) list

-- a temporary is where it belongs, if it remains
abbrev pub IsListed : Work → ℕ → Type 0
IsListed w x =
    is_open w x ≡ true → (list : Worklist) →
    is_among x (nodes_in w.lists list) ≡ (number list == number (list_of w x))

-- one that is put there is, and the others stay where they are
module _ (x : ℕ) (w : Work) (shifts : IsShifted w.lists (relisted x w).lists) where
  same_open : (z : ℕ) → is_open (relisted x w) z ≡ is_open w z
  same_open z = ap (λ b. not (is_register z) && b) (shifted_left w.lists (relisted x w).lists shifts z)

  same_list : (z : ℕ) (list : Worklist) →
      (number list == number (list_of (relisted x w) z)) ≡ (number list == number (list_of w z))
  same_list z list = ap (λ (v : Work). number list == number (list_of v z)) (relisted_same x w)

  pub lists_it : IsListed (relisted x w) x
  lists_it o list = relisted_it x w list (sym (same_open x) ∙ o) ∙ sym (same_list x list)

  pub lists_other : (z : ℕ) → z ≢ x → IsListed w z → IsListed (relisted x w) z
  lists_other z d h o list =
      relisted_other x w z list d ∙ (h (sym (same_open z) ∙ o) list ∙ sym (same_list z list))
