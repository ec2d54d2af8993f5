-- What it makes of the work that nodes have a neighbour less.
use Rattle.std.proofs.Common.{◌≡◌, ◌≢◌, ℕ, ◌-◌, ◌<◌, ◌≤◌, Bool, true, false, not, ◌&&◌, ◌||◌}
use Rattle.std.proofs.Common.{List, [], ◌∷◌, length, get_or, set, refl, sym, ap, subst, ◌∙◌, arith, ⊎_elim}
use Rattle.std.specs.Prelude.{◌==◌, nat_eq, nat_lt, fold, if◌then◌else◌}
use Rattle.std.specs.List.{IsDistinct}
use Rattle.std.proofs.lemmas.Bool.{cases_eq, cases_lt, lt-ltb, le-ltb}
use Rattle.std.proofs.lemmas.List.{get_or_past, get_or-set_same, get_or-set_other, length-set}
use Rattle.tg_irc_definition.specs.Graphs.{Set, bit}
use Rattle.tg_irc_definition.proofs.Deciding.{clash, either, or_left, or_right, never, same_node, same_test}
use Rattle.tg_graph.specs.Interference.{Interference, is_among, is_register, neighbours}
use Rattle.tg_graph.specs.Lists.{Lists, number}
use Rattle.tg_coalescing_round.specs.glue.Lists.{list_at, lowered}
use Rattle.tg_coalescing_round.specs.glue.Tables.{Table, state_at, is_waiting, is_related}
use Rattle.tg_coalescing_round.specs.glue.Works.{Work, degree_at, is_open, relisted, awake_around}
use Rattle.tg_coalescing_round.specs.mirror.Steps.{bereft}
use Rattle.tg_coalescing_round.proofs.AdvancingMembers.{not_again, distinct_rest}
use Rattle.tg_coalescing_round.proofs.AdvancingWaking.{IsWoken, woken_none, woken_then, stays_awake, woken_classes, wakes_classes}
use Rattle.tg_coalescing_round.proofs.AdvancingListing.{IsShifted, shifted_none, shifted_then, shifted_left, IsListed}
use Rattle.tg_coalescing_round.proofs.AdvancingListing.{by_tests, relisted_same, relisted_shifts, lists_it, lists_other}

abbrev pub changed : Work → Lists → List ℕ → Table → Work
changed w lists degrees moves = record w { lists = lists; degrees = degrees; moves = moves }

-- no move listed at a neighbour of the node waits
abbrev pub IsRoused : Interference → List (List ℕ) → Table → ℕ → Type 0
IsRoused g touching t z =
    (y i : ℕ) → is_among y (neighbours g z) ≡ true → is_among i (list_at touching y) ≡ true →
    is_waiting (state_at t i) ≡ false

-- these nodes have a neighbour less
pub record IsBereft (w v : Work) (nodes : Set) : Type 0 where
  pub same : v ≡ changed w v.lists v.degrees v.moves
  pub lists : IsShifted w.lists v.lists
  pub moves : IsWoken w.moves v.moves
  pub sized : length v.degrees ≡ length w.degrees
  pub degrees : (z : ℕ) → degree_at v z ≡ degree_at w z - bit (is_open w z && nodes z)
  pub listed : (z : ℕ) → IsListed w z → IsListed v z
  pub roused : (z : ℕ) → is_open w z ≡ true → nodes z ≡ true → degree_at v z ≡ 24 →
      IsRoused w.graph w.moves.touching v.moves z

same_open : (w v : Work) → IsShifted w.lists v.lists → (z : ℕ) → is_open v z ≡ is_open w z
same_open w v s z = ap (λ b. not (is_register z) && b) (shifted_left w.lists v.lists s z)

less_none : (d : ℕ) (o a : Bool) → (o && a) ≡ false → d ≡ d - bit (o && a)
less_none d o a e = let b : bit (o && a) ≡ 0 = ap bit e in omega (arith, b)

-- no node has
pub bereft_none : (w : Work) → IsBereft w w (λ z. false)
bereft_none w = record {
  same = refl;
  lists = shifted_none w.lists;
  moves = woken_none w.moves;
  sized = refl;
  degrees = λ z. less_none (degree_at w z) (is_open w z) false (none (is_open w z));
  listed = λ z h. h;
  roused = λ z o n e. cc;
}
  where
    none : (o : Bool) → (o && false) ≡ false
    none true = refl
    none false = refl

-- one has, and then others
module _ (w u v : Work) (y : ℕ) (others : Set) (first : IsBereft w u (λ z. z == y)) (rest : IsBereft u v others)
    (apart : others y ≡ false) where
  less_both : (d : ℕ) (o a b : Bool) → (a ≡ true → b ≡ false) → (d - bit (o && a)) - bit (o && b) ≡ d - bit (o && (a || b))
  less_both d true true true h = absurd (clash refl (h refl))
  less_both d true true false h = omega arith
  less_both d true false true h = omega arith
  less_both d true false false h = omega arith
  less_both d false a b h = omega arith

  apart_at : (z : ℕ) → (z == y) ≡ true → others z ≡ false
  apart_at z e = subst (λ x. others x ≡ false) (sym (same_node z y e)) apart

  then_degrees : (z : ℕ) → degree_at v z ≡ degree_at w z - bit (is_open w z && ((z == y) || others z))
  then_degrees z =
      rest.degrees z
      ∙ (ap (λ o. degree_at u z - bit (o && others z)) (same_open w u first.lists z)
      ∙ (ap (λ d. d - bit (is_open w z && others z)) (first.degrees z)
      ∙ less_both (degree_at w z) (is_open w z) (z == y) (others z) (apart_at z)))

  same_graph : u.graph ≡ w.graph
  same_graph = ap (λ (x : Work). x.graph) first.same

  same_touching : u.moves.touching ≡ w.moves.touching
  same_touching = ap (λ (t : Table). t.touching) first.moves.same

  of_first : (z : ℕ) → IsRoused w.graph w.moves.touching u.moves z → IsRoused w.graph w.moves.touching v.moves z
  of_first z h a i e l = stays_awake u.moves v.moves i rest.moves (h a i e l)

  of_rest : (z : ℕ) → IsRoused u.graph u.moves.touching v.moves z → IsRoused w.graph w.moves.touching v.moves z
  of_rest z h a i e l =
      h a i (ap (λ g. is_among a (neighbours g z)) same_graph ∙ e)
      (ap (λ t. is_among i (list_at t a)) same_touching ∙ l)

  unchanged : (z : ℕ) → others z ≡ false → degree_at v z ≡ degree_at u z
  unchanged z e = rest.degrees z ∙ sym (less_none (degree_at u z) (is_open u z) (others z) (none (is_open u z)))
    where
      none : (o : Bool) → (o && others z) ≡ false
      none true = e
      none false = refl

  pub bereft_then : IsBereft w v (λ z. (z == y) || others z)
  bereft_then = record {
    same = rest.same ∙ ap (λ (x : Work). changed x v.lists v.degrees v.moves) first.same;
    lists = shifted_then w.lists u.lists v.lists first.lists rest.lists;
    moves = woken_then w.moves u.moves v.moves first.moves rest.moves;
    sized = rest.sized ∙ first.sized;
    degrees = then_degrees;
    listed = λ z h. rest.listed z (first.listed z h);
    roused = λ z o n e.
        ⊎_elim
        (λ (p : (z == y) ≡ true). of_first z (first.roused z o p (sym (unchanged z (apart_at z p)) ∙ e)))
        (λ (p : others z ≡ true). of_rest z (rest.roused z (same_open w u first.lists z ∙ o) p e))
        (either (z == y) (others z) n);
  }

-- A temporary that remains.

module _ (w : Work) (y : ℕ) where
  abbrev less : Work
  less = record w { degrees = lowered y w.degrees }

  less_it : degree_at less y ≡ degree_at w y - 1
  less_it =
      ⊎_elim
      (λ (l : y < length w.degrees). get_or-set_same w.degrees y (get_or w.degrees y 0 - 1) 0 l)
      (λ (l : length w.degrees ≤ y).
      let past : get_or w.degrees y 0 ≡ 0 = get_or_past w.degrees y 0 l in
      let set_past : get_or (set w.degrees y (get_or w.degrees y 0 - 1)) y 0 ≡ 0 =
      get_or_past (set w.degrees y (get_or w.degrees y 0 - 1)) y 0
      (omega (arith, l, length-set w.degrees y (get_or w.degrees y 0 - 1))) in
      omega (arith, past, set_past))
      (cases_lt y (length w.degrees))

  less_other : (z : ℕ) → z ≢ y → degree_at less z ≡ degree_at w z
  less_other z d = get_or-set_other w.degrees y z (get_or w.degrees y 0 - 1) 0 d

  less_all : is_open w y ≡ true → (z : ℕ) → degree_at less z ≡ degree_at w z - bit (is_open w z && (z == y))
  less_all o z =
      ⊎_elim
      (λ (p : z ≡ y).
      subst (λ x. degree_at less x ≡ degree_at w x - bit (is_open w x && (x == y))) (sym p)
      (less_it ∙ ap (λ b. degree_at w y - bit b) (sym (here o (same_test y y refl)))))
      (λ (d : z ≢ y).
      less_other z d ∙ less_none (degree_at w z) (is_open w z) (z == y)
      (there (is_open w z) (never (λ e. d (same_node z y e)))))
      (cases_eq z y)
    where
      here : {a b : Bool} → a ≡ true → b ≡ true → (a && b) ≡ true
      here {a = true} p q = q
      here {a = false} p q = cc

      there : (a : Bool) {b : Bool} → b ≡ false → (a && b) ≡ false
      there true q = q
      there false q = refl

  still_listed : (z : ℕ) → nat_lt (degree_at less z) 25 ≡ nat_lt (degree_at w z) 25 → IsListed w z → IsListed less z
  still_listed z e h o list =
      h o list ∙ sym (ap (λ b. number list == number (by_tests b (is_related w.moves z))) e)

  still_low : degree_at less y ≢ 24 → nat_lt (degree_at less y) 25 ≡ nat_lt (degree_at w y) 25
  still_low d =
      let it = less_it in
      ⊎_elim
      (λ (l : degree_at w y < 25). lt-ltb (degree_at less y) 25 (omega (arith, l, it)) ∙ sym (lt-ltb (degree_at w y) 25 l))
      (λ (l : 25 ≤ degree_at w y). le-ltb (degree_at less y) 25 (omega (arith, l, it, d)) ∙ sym (le-ltb (degree_at w y) 25 l))
      (cases_lt (degree_at w y) 25)

  bereft_lower : is_open w y ≡ true → (degree_at less y == 24) ≡ false → IsBereft w less (λ z. z == y)
  bereft_lower o low = record {
    same = refl;
    lists = shifted_none w.lists;
    moves = woken_none w.moves;
    sized = length-set w.degrees y (get_or w.degrees y 0 - 1);
    degrees = less_all o;
    listed = λ z h. still_listed z (⊎_elim
        (λ (p : z ≡ y). subst (λ x. nat_lt (degree_at less x) 25 ≡ nat_lt (degree_at w x) 25) (sym p) (still_low turned))
        (λ (d : z ≢ y). ap (λ n. nat_lt n 25) (less_other z d))
        (cases_eq z y)) h;
    roused = λ z p n e. absurd (turned (subst (λ x. degree_at less x ≡ 24) (same_node z y n) e));
  }
    where
      turned : degree_at less y ≢ 24
      turned e = clash (same_test (degree_at less y) 24 e) low

  abbrev there_again : Work
  there_again = relisted y less

  abbrev roused_too : Work
  roused_too = awake_around y there_again

  bereft_turned : y < w.lists.nodes → is_among y w.lists.fixed ≡ is_register y → is_open w y ≡ true →
      IsBereft w roused_too (λ z. z == y)
  bereft_turned l fixed o = record {
    same = ap (λ (x : Work). changed x there_again.lists there_again.degrees roused_too.moves) again;
    lists = shifts;
    moves = subst (λ (t : Table). IsWoken t roused_too.moves) (ap (λ (x : Work). x.moves) again)
        (woken_classes there_again.moves (neighbours there_again.graph y));
    sized = ap (λ (x : Work). length x.degrees) again ∙ length-set w.degrees y (get_or w.degrees y 0 - 1);
    degrees = λ z. ap (λ (x : Work). degree_at x z) again ∙ less_all o z;
    listed = listed;
    roused = λ z p n e a i f g.
        wakes_classes there_again.moves (neighbours there_again.graph y) a i
        (ap (λ (x : Work). is_among a (neighbours x.graph y)) again
        ∙ (ap (λ x. is_among a (neighbours w.graph x)) (sym (same_node z y n)) ∙ f))
        (ap (λ (x : Work). is_among i (list_at x.moves.touching a)) again ∙ g);
  }
    where
      again : there_again ≡ record less { lists = there_again.lists }
      again = relisted_same y less

      shifts : IsShifted w.lists there_again.lists
      shifts = relisted_shifts y less l fixed

      moves_same : roused_too.moves.unsettled ≡ there_again.moves.unsettled
      moves_same = ap (λ (t : Table). t.unsettled)
          (woken_classes there_again.moves (neighbours there_again.graph y)).same

      roused_list : (z : ℕ) → IsListed there_again z → IsListed roused_too z
      roused_list z h q list =
          h q list ∙ sym (ap (λ (us : List ℕ). number list == number (by_tests (nat_lt (degree_at there_again z) 25)
          (nat_lt 0 (get_or us z 0)))) moves_same)

      listed : (z : ℕ) → IsListed w z → IsListed roused_too z
      listed z h =
          roused_list z (⊎_elim
          (λ (p : z ≡ y). subst (λ x. IsListed there_again x) (sym p) (lists_it y less shifts))
          (λ (d : z ≢ y). lists_other y less shifts z d
          (still_listed z (ap (λ n. nat_lt n 25) (less_other z d)) h))
          (cases_eq z y))

  pub bereft_one : y < w.lists.nodes → is_among y w.lists.fixed ≡ is_register y → IsBereft w (bereft w y) (λ z. z == y)
  unfolding bereft
  bereft_one l fixed = by (is_open w y) refl (degree_at less y == 24) refl
    where
      none : (o a : Bool) → (a ≡ true → o ≡ false) → (o && a) ≡ false
      none true true h = h refl
      none true false h = refl
      none false a h = refl

      by : (b : Bool) → is_open w y ≡ b → (c : Bool) → (degree_at less y == 24) ≡ c →
          IsBereft w (if not b then w else if c then roused_too else less) (λ z. z == y)
      by false o c e = record {
        same = refl;
        lists = shifted_none w.lists;
        moves = woken_none w.moves;
        sized = refl;
        degrees = λ z. less_none (degree_at w z) (is_open w z) (z == y)
            (none (is_open w z) (z == y) (λ p. subst (λ x. is_open w x ≡ false) (sym (same_node z y p)) o));
        listed = λ z h. h;
        roused = λ z p n f. absurd (clash (subst (λ x. is_open w x ≡ true) (same_node z y n) p) o);
      }
      by true o true e = bereft_turned l fixed o
      by true o false e = bereft_lower o e

-- all of a list without repeats
pub bereft_all : (w : Work) (ys : List ℕ) → IsDistinct nat_eq ys →
    ((y : ℕ) → is_among y ys ≡ true → (y < w.lists.nodes) × (is_among y w.lists.fixed ≡ is_register y)) →
    IsBereft w (fold bereft w ys) (λ z. is_among z ys)
bereft_all w [] h k = bereft_none w
bereft_all w (y ∷ ys) h k =
    let here = k y (or_left (y == y) (is_among y ys) (same_test y y refl)) in
    let one = bereft_one w y here.0 here.1 in
    bereft_then w (bereft w y) (fold bereft (bereft w y) ys) y (λ z. is_among z ys) one
    (bereft_all (bereft w y) ys (distinct_rest y ys h)
    (λ z e. let there = k z (or_right (z == y) (is_among z ys) e) in
    (subst (λ n. z < n) (sym one.lists.nodes) there.0, one.lists.fixed z ∙ there.1)))
    (not_again y ys h)
