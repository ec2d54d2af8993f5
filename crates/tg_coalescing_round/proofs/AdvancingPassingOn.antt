-- The kept node gets the neighbours of the one that goes, and their waiting moves are to be tried again.
use Rattle.std.proofs.Common.{◌≡◌, ◌≢◌, ℕ, ◌+◌, ◌-◌, ◌≤◌, Bool, true, false, not, ◌&&◌, ◌||◌, List}
use Rattle.std.proofs.Common.{length, refl, sym, ap, subst, ◌∙◌, arith, ⊎_elim}
use Rattle.std.specs.Prelude.{◌==◌}
use Rattle.tg_irc_definition.specs.Graphs.{Set, bit}
use Rattle.tg_irc_definition.proofs.Deciding.{both, or_left, tells, never, not_true, same_node}
use Rattle.std.proofs.lemmas.Bool.{ltb-false}
use Rattle.tg_graph.specs.Interference.{Interference, IsGraph, is_among, is_register, interferes}
use Rattle.tg_graph.specs.Lists.{Lists}
use Rattle.tg_coalescing_round.specs.glue.Lists.{list_at}
use Rattle.tg_coalescing_round.specs.glue.Tables.{Table, state_at, is_waiting}
use Rattle.tg_coalescing_round.specs.glue.Works.{Work, degree_at, is_left, is_open}
use Rattle.tg_coalescing_round.proofs.AdvancingWaking.{IsWoken, woken_none, woken_then, stays_awake}
use Rattle.tg_coalescing_round.proofs.AdvancingListing.{IsShifted, shifted_none, shifted_then, shifted_left, IsListed}
use Rattle.tg_coalescing_round.proofs.AdvancingLosing.{IsRoused}

abbrev pub remade : Work → Interference → Lists → List ℕ → Table → Work
remade w g lists degrees moves = record w { graph = g; lists = lists; degrees = degrees; moves = moves }

module _ (kept : ℕ) where
  -- the kept node was joined to these nodes
  pub record IsPassed (w v : Work) (nodes : Set) (more : ℕ) : Type 0 where
    pub same : v ≡ remade w v.graph v.lists v.degrees v.moves
    pub size : v.graph.nodes ≡ w.graph.nodes
    pub graph : IsGraph v.graph
    pub pairs : (a b : ℕ) → interferes v.graph a b ≡
        (interferes w.graph a b || ((a == kept) && nodes b) || ((b == kept) && nodes a))
    pub lists : IsShifted w.lists v.lists
    pub moves : IsWoken w.moves v.moves
    pub sized : length v.degrees ≡ length w.degrees
    pub others : (z : ℕ) → z ≢ kept →
        degree_at v z ≡ degree_at w z - bit (is_open w z && (nodes z && interferes w.graph kept z))
    pub grows : is_register kept ≡ false → degree_at v kept ≡ degree_at w kept + more
    pub stays : is_register kept ≡ true → degree_at v kept ≡ degree_at w kept
    pub listed : (z : ℕ) → z ≢ kept → IsListed w z → IsListed v z
    pub roused : (z : ℕ) → z ≢ kept → is_open w z ≡ true → nodes z ≡ true → interferes w.graph kept z ≡ true →
        degree_at v z ≡ 24 → IsRoused w.graph w.moves.touching v.moves z
    pub awake_at : (z i : ℕ) → nodes z ≡ true → is_among i (list_at w.moves.touching z) ≡ true →
        is_waiting (state_at v.moves i) ≡ false

  less_nothing : (d : ℕ) (o a b : Bool) → a ≡ false → d ≡ d - bit (o && (a && b))
  less_nothing d o a b e = let z : bit (o && (a && b)) ≡ 0 = by o a b e in omega (arith, z)
    where
      by : (o a b : Bool) → a ≡ false → bit (o && (a && b)) ≡ 0
      by o true b e = cc
      by true false b e = refl
      by false false b e = refl

  same_open : (w v : Work) → IsShifted w.lists v.lists → (z : ℕ) → is_open v z ≡ is_open w z
  same_open w v s z = ap (λ b. not (is_register z) && b) (shifted_left w.lists v.lists s z)

  -- no node
  pub passed_none : (w : Work) → IsGraph w.graph → IsPassed w w (λ z. false) 0
  passed_none w g = record {
    same = refl;
    size = refl;
    graph = g;
    pairs = λ a b. by (interferes w.graph a b) (a == kept) (b == kept);
    lists = shifted_none w.lists;
    moves = woken_none w.moves;
    sized = refl;
    others = λ z d. less_nothing (degree_at w z) (is_open w z) false (interferes w.graph kept z) refl;
    grows = λ r. omega arith;
    stays = λ r. refl;
    listed = λ z d h. h;
    roused = λ z d o n p e. cc;
    awake_at = λ z i n e. cc;
  }
    where
      by : (p k m : Bool) → p ≡ (p || (k && false) || (m && false))
      by true k m = refl
      by false true true = refl
      by false true false = refl
      by false false true = refl
      by false false false = refl

  -- beside other nodes the kept one has the pairs that it had
  pub pairs_kept : (w u : Work) (y m : ℕ) → IsPassed w u (λ z. z == y) m → (z : ℕ) → z ≢ kept → (z == y) ≡ false →
      interferes u.graph kept z ≡ interferes w.graph kept z
  pairs_kept w u y m first z d e =
      first.pairs kept z
      ∙ by (interferes w.graph kept z) (kept == kept) (kept == y) e (never (λ q. d (same_node z kept q)))
    where
      by : (p k : Bool) {c m : Bool} (a : Bool) → c ≡ false → m ≡ false → (p || (k && c) || (m && a)) ≡ p
      by true k a f g = refl
      by false k {c = true} a f g = cc
      by false k {c = false} {m = true} a f g = cc
      by false true {c = false} {m = false} a f g = refl
      by false false {c = false} {m = false} a f g = refl

  -- one, and then others
  module _ (w u v : Work) (y : ℕ) (rest : Set) (m n : ℕ) (first : IsPassed w u (λ z. z == y) m)
      (second : IsPassed u v rest n) (apart : rest y ≡ false) (y_apart : y ≢ kept) (graph : IsGraph w.graph) where
    pairs_both : (p k c C b e E : Bool) →
        ((p || (k && c) || (b && e)) || (k && C) || (b && E)) ≡ (p || (k && (c || C)) || (b && (e || E)))
    pairs_both true k c C b e E = refl
    pairs_both false false c C false e E = refl
    pairs_both false false c C true true E = refl
    pairs_both false false c C true false E = refl
    pairs_both false true true C b e E = refl
    pairs_both false true false C false e E = by C
      where
        by : (C : Bool) → (false || C || false) ≡ ((false || C) || false)
        by true = refl
        by false = refl
    pairs_both false true false true true true E = refl
    pairs_both false true false false true true E = refl
    pairs_both false true false true true false E = refl
    pairs_both false true false false true false E = refl

    rest_not : (z : ℕ) → (z == y) ≡ true → rest z ≡ false
    rest_not z e = subst (λ a. rest a ≡ false) (sym (same_node z y e)) apart

    unchanged : (z : ℕ) → z ≢ kept → rest z ≡ false → degree_at v z ≡ degree_at u z
    unchanged z d e =
        second.others z d
        ∙ sym (less_nothing (degree_at u z) (is_open u z) (rest z) (interferes u.graph kept z) e)

    then_others : (z : ℕ) → z ≢ kept → degree_at v z ≡
        degree_at w z - bit (is_open w z && (((z == y) || rest z) && interferes w.graph kept z))
    then_others z d =
        ⊎_elim
        (λ (e : (z == y) ≡ true).
        unchanged z d (rest_not z e)
        ∙ (first.others z d
        ∙ ap (λ b. degree_at w z - bit (is_open w z && (b && interferes w.graph kept z)))
        (e ∙ sym (or_left (z == y) (rest z) e))))
        (λ (e : (z == y) ≡ false).
        second.others z d
        ∙ (ap (λ b. degree_at u z - bit (b && (rest z && interferes u.graph kept z))) (same_open w u first.lists z)
        ∙ (ap (λ b. degree_at u z - bit (is_open w z && (rest z && b))) (pairs_kept w u y m first z d e)
        ∙ (ap (λ k. k - bit (is_open w z && (rest z && interferes w.graph kept z)))
        (first.others z d ∙ sym (less_nothing (degree_at w z) (is_open w z) (z == y) (interferes w.graph kept z) e))
        ∙ ap (λ b. degree_at w z - bit (is_open w z && ((b || rest z) && interferes w.graph kept z))) (sym e)))))
        (tells (z == y))

    same_touching : u.moves.touching ≡ w.moves.touching
    same_touching = ap (λ (t : Table). t.touching) first.moves.same

    of_first : (z : ℕ) → IsRoused w.graph w.moves.touching u.moves z → IsRoused w.graph w.moves.touching v.moves z
    of_first z h a i e l = stays_awake u.moves v.moves i second.moves (h a i e l)

    of_rest : (z : ℕ) → 25 ≤ z → IsRoused u.graph u.moves.touching v.moves z →
        IsRoused w.graph w.moves.touching v.moves z
    of_rest z t h a i e l =
        h a i
        (first.graph.exact z a t ∙ (first.pairs z a
        ∙ or_left _ _ (or_left _ _ (sym (graph.exact z a t) ∙ e))))
        (ap (λ ts. is_among i (list_at ts a)) same_touching ∙ l)

    pub passed_then : IsPassed w v (λ z. (z == y) || rest z) (m + n)
    passed_then = record {
      same = second.same ∙ ap (λ (x : Work). remade x v.graph v.lists v.degrees v.moves) first.same;
      size = second.size ∙ first.size;
      graph = second.graph;
      pairs = λ a b.
          second.pairs a b
          ∙ (ap (λ p. p || ((a == kept) && rest b) || ((b == kept) && rest a)) (first.pairs a b)
          ∙ pairs_both (interferes w.graph a b) (a == kept) (b == y) (rest b) (b == kept) (a == y) (rest a));
      lists = shifted_then w.lists u.lists v.lists first.lists second.lists;
      moves = woken_then w.moves u.moves v.moves first.moves second.moves;
      sized = second.sized ∙ first.sized;
      others = then_others;
      grows = λ r. let a = first.grows r in let b = second.grows r in omega (arith, a, b);
      stays = λ r. second.stays r ∙ first.stays r;
      listed = λ z d h. second.listed z d (first.listed z d h);
      roused = λ z d o k p e. ⊎_elim
          (λ (q : (z == y) ≡ true). of_first z (first.roused z d o q p (sym (unchanged z d (rest_not z q)) ∙ e)))
          (λ (q : (z == y) ≡ false).
          of_rest z (ltb-false z 25 (not_true (both (not (is_register z)) (is_left w.lists z) o).0))
          (second.roused z d (same_open w u first.lists z ∙ o) (sym (ap (λ b. b || rest z) q) ∙ k)
          (pairs_kept w u y m first z d q ∙ p) e))
          (tells (z == y));
      awake_at = λ z i k e. ⊎_elim
          (λ (q : (z == y) ≡ true). stays_awake u.moves v.moves i second.moves (first.awake_at z i q e))
          (λ (q : (z == y) ≡ false). second.awake_at z i (sym (ap (λ b. b || rest z) q) ∙ k)
          (ap (λ ts. is_among i (list_at ts z)) same_touching ∙ e))
          (tells (z == y));
    }
