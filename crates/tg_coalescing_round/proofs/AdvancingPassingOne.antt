-- The kept node gets one neighbour of the one that goes.
use Rattle.std.proofs.Common.{◌≡◌, ◌≢◌, ℕ, ◌+◌, ◌-◌, ◌<◌, ◌≤◌, Bool, true, false, not, ◌&&◌, ◌||◌, List, [], ◌∷◌}
use Rattle.std.proofs.Common.{length, get_or, refl, sym, ap, subst, ◌∙◌, arith}
use Rattle.std.specs.Prelude.{◌==◌, nat_eq, nat_lt, count_by, fold, if◌then◌else◌}
use Rattle.std.specs.List.{IsDistinct}
use Rattle.std.proofs.lemmas.List.{get_or-set_same, get_or-set_other, length-set}
use Rattle.tg_irc_definition.specs.Graphs.{bit}
use Rattle.tg_irc_definition.proofs.Deciding.{clash, both, or_left, or_right, never, same_node, same_test}
use Rattle.tg_graph.specs.Interference.{IsGraph, is_among, is_register, interferes}
use Rattle.tg_graph.specs.Lists.{number}
use Rattle.tg_graph.proofs.Joining.{CanJoin, either_way, joined, interferes_joined, graph_joined}
use Rattle.tg_coalescing_round.specs.glue.Lists.{list_at, raised}
use Rattle.tg_coalescing_round.specs.glue.Tables.{Table, woken}
use Rattle.tg_coalescing_round.specs.glue.Works.{Work, degree_at, is_left, is_open, awake}
use Rattle.tg_coalescing_round.specs.mirror.Steps.{bereft, passed_edge, passed_on}
use Rattle.tg_coalescing_round.proofs.AdvancingMembers.{count_cons, not_again, distinct_rest}
use Rattle.tg_coalescing_round.proofs.AdvancingWaking.{woken_then, woken_class, wakes_class, stays_awake}
use Rattle.tg_coalescing_round.proofs.AdvancingListing.{shifted_none, shifted_left, by_tests}
use Rattle.tg_coalescing_round.proofs.AdvancingLosing.{IsBereft, bereft_one}
use Rattle.tg_coalescing_round.proofs.AdvancingPassingOn.{IsPassed, remade, passed_none, passed_then, pairs_kept}

module _ (kept : ℕ) where
  module _ (w : Work) (y : ℕ) (d : y ≢ kept) (l : y < w.lists.nodes) (fixed : is_among y w.lists.fixed ≡ is_register y)
      (graph : IsGraph w.graph) where
    abbrev more : ℕ
    more = bit (is_left w.lists y && not (interferes w.graph kept y))

    not_kept : (kept == y) ≡ false
    not_kept = never (λ e. d (sym (same_node kept y e)))

    none : (o : Bool) {a : Bool} → a ≡ false → (o && a) ≡ false
    none true e = e
    none false e = refl

    -- it has it already, which makes it one less to the neighbour
    module _ (p : interferes w.graph kept y ≡ true) (p' : interferes w.graph y kept ≡ true) where
      b : IsBereft w (bereft w y) (λ z. z == y)
      b = bereft_one w y l fixed

      abbrev e : Work
      e = bereft w y

      absorbs : (a c : ℕ) → interferes w.graph a c ≡
          (interferes w.graph a c || ((a == kept) && (c == y)) || ((c == kept) && (a == y)))
      absorbs a c =
          by (interferes w.graph a c) ((a == kept) && (c == y)) ((c == kept) && (a == y))
          (λ t. let q = both (a == kept) (c == y) t in
          subst (λ x. interferes w.graph x c ≡ true) (sym (same_node a kept q.0))
          (subst (λ x. interferes w.graph kept x ≡ true) (sym (same_node c y q.1)) p))
          (λ t. let q = both (c == kept) (a == y) t in
          subst (λ x. interferes w.graph a x ≡ true) (sym (same_node c kept q.0))
          (subst (λ x. interferes w.graph x kept ≡ true) (sym (same_node a y q.1)) p'))
        where
          by : (q r s : Bool) → (r ≡ true → q ≡ true) → (s ≡ true → q ≡ true) → q ≡ (q || r || s)
          by true r s f g = refl
          by false true s f g = f refl
          by false false true f g = g refl
          by false false false f g = refl

      more_none : more ≡ 0
      more_none = ap (λ c. bit (is_left w.lists y && not c)) p ∙ ap bit (none (is_left w.lists y) refl)

      lost_others : (z : ℕ) → degree_at e z ≡
          degree_at w z - bit (is_open w z && ((z == y) && interferes w.graph kept z))
      lost_others z =
          b.degrees z
          ∙ ap (λ c. degree_at w z - bit (is_open w z && c))
          (by (z == y) (interferes w.graph kept z)
          (λ t. subst (λ x. interferes w.graph kept x ≡ true) (sym (same_node z y t)) p))
        where
          by : (q r : Bool) → (q ≡ true → r ≡ true) → q ≡ (q && r)
          by true r f = sym (f refl)
          by false r f = refl

      lost : IsPassed kept w (awake y e) (λ z. z == y) more
      lost = record {
        same = ap (λ (x : Work). remade x e.graph e.lists e.degrees (woken y e.moves)) b.same;
        size = ap (λ (x : Work). x.graph.nodes) b.same;
        graph = subst IsGraph (ap (λ (x : Work). x.graph) (sym b.same)) graph;
        pairs = λ a c. ap (λ (x : Work). interferes x.graph a c) b.same ∙ absorbs a c;
        lists = b.lists;
        moves = woken_then w.moves e.moves (woken y e.moves) b.moves (woken_class y e.moves);
        sized = b.sized;
        others = λ z q. lost_others z;
        grows = λ r.
            let at = b.degrees kept in
            let zero : bit (is_open w kept && (kept == y)) ≡ 0 = ap bit (none (is_open w kept) not_kept) in
            let m = more_none in
            omega (arith, at, zero, m);
        stays = λ r.
            let at = b.degrees kept in
            let zero : bit (is_open w kept && (kept == y)) ≡ 0 = ap bit (none (is_open w kept) not_kept) in
            omega (arith, at, zero);
        listed = λ z q h o list.
            b.listed z h o list
            ∙ sym (ap (λ (us : List ℕ). number list == number (by_tests (nat_lt (degree_at e z) 25)
            (nat_lt 0 (get_or us z 0)))) (ap (λ (t : Table). t.unsettled) (woken_class y e.moves).same));
        roused = λ z q o k r t a i f g. stays_awake e.moves (woken y e.moves) i (woken_class y e.moves)
            (b.roused z o k t a i f g);
        awake_at = λ z i k f.
            wakes_class y i e.moves
            (ap (λ (t : Table). is_among i (list_at t.touching y)) b.moves.same
            ∙ (ap (λ x. is_among i (list_at w.moves.touching x)) (sym (same_node z y k)) ∙ f));
      }

    -- it has not
    module _ (p : interferes w.graph kept y ≡ false) (can : CanJoin w.graph kept y) (k : kept < length w.degrees) where
      abbrev degrees : List ℕ
      degrees = if is_left w.lists y && not (is_register kept) then raised kept w.degrees else w.degrees

      abbrev joined_work : Work
      joined_work = record w {
        graph = joined w.graph kept y;
        degrees = if is_left w.lists y && not (is_register kept) then raised kept w.degrees else w.degrees;
      }

      sized : length degrees ≡ length w.degrees
      sized = by (is_left w.lists y && not (is_register kept))
        where
          by : (c : Bool) → length (if c then raised kept w.degrees else w.degrees) ≡ length w.degrees
          by true = length-set w.degrees kept (get_or w.degrees kept 0 + 1)
          by false = refl

      degree_other : (z : ℕ) → z ≢ kept → get_or degrees z 0 ≡ degree_at w z
      degree_other z q = by (is_left w.lists y && not (is_register kept))
        where
          by : (c : Bool) → get_or (if c then raised kept w.degrees else w.degrees) z 0 ≡ get_or w.degrees z 0
          by true = get_or-set_other w.degrees kept z (get_or w.degrees kept 0 + 1) 0 q
          by false = refl

      degree_kept : is_register kept ≡ false → get_or degrees kept 0 ≡ degree_at w kept + more
      degree_kept r =
          by (is_left w.lists y) (is_register kept) (interferes w.graph kept y) r p
        where
          by : (c r q : Bool) → r ≡ false → q ≡ false →
              get_or (if c && not r then raised kept w.degrees else w.degrees) kept 0 ≡
              get_or w.degrees kept 0 + bit (c && not q)
          by c true q e f = cc
          by c false true e f = cc
          by true false false e f = get_or-set_same w.degrees kept (get_or w.degrees kept 0 + 1) 0 k
          by false false false e f = omega arith

      none_lost : (z : ℕ) → ((z == y) && interferes w.graph kept z) ≡ false
      none_lost z =
          by (z == y) (interferes w.graph kept z)
          (λ t. subst (λ x. interferes w.graph kept x ≡ false) (sym (same_node z y t)) p)
        where
          by : (q r : Bool) → (q ≡ true → r ≡ false) → (q && r) ≡ false
          by true r f = f refl
          by false r f = refl

      gained : IsPassed kept w (awake y joined_work) (λ z. z == y) more
      gained = record {
        same = refl;
        size = refl;
        graph = graph_joined w.graph kept y can;
        pairs = λ a c. interferes_joined w.graph kept y a c can
            ∙ turned (a == kept) (c == y) (a == y) (c == kept) (interferes w.graph a c);
        lists = shifted_none w.lists;
        moves = woken_class y w.moves;
        sized = sized;
        others = λ z q.
            let zero : bit (is_open w z && ((z == y) && interferes w.graph kept z)) ≡ 0 =
            ap bit (none (is_open w z) (none_lost z)) in
            let at = degree_other z q in
            omega (arith, zero, at);
        grows = degree_kept;
        stays = λ r. ap (λ c. get_or (if c then raised kept w.degrees else w.degrees) kept 0)
            (none (is_left w.lists y) (ap not r));
        listed = λ z q h o list.
            h o list
            ∙ sym (ap (λ n. number list == number (by_tests (nat_lt n 25) (nat_lt 0 (get_or w.moves.unsettled z 0))))
            (degree_other z q)
            ) ∙ sym (ap (λ (us : List ℕ). number list == number (by_tests (nat_lt (get_or degrees z 0) 25)
            (nat_lt 0 (get_or us z 0)))) (ap (λ (t : Table). t.unsettled) (woken_class y w.moves).same));
        roused = λ z q o n r t. absurd (clash r (subst (λ x. interferes w.graph kept x ≡ false) (sym (same_node z y n)) p));
        awake_at = λ z i n f.
            wakes_class y i w.moves (ap (λ x. is_among i (list_at w.moves.touching x)) (sym (same_node z y n)) ∙ f);
      }
        where
          turned : (a c e g q : Bool) → (((a && c) || (e && g)) || q) ≡ (q || (a && c) || (g && e))
          turned true true e g true = refl
          turned true true e g false = refl
          turned true false true true true = refl
          turned true false true true false = refl
          turned true false true false true = refl
          turned true false true false false = refl
          turned true false false true true = refl
          turned true false false true false = refl
          turned true false false false true = refl
          turned true false false false false = refl
          turned false c true true true = refl
          turned false c true true false = refl
          turned false c true false true = refl
          turned false c true false false = refl
          turned false c false true true = refl
          turned false c false true false = refl
          turned false c false false true = refl
          turned false c false false false = refl

    -- so in each case
    pub passed_one : 25 ≤ w.graph.nodes → kept < w.graph.nodes → y < w.graph.nodes → kept < length w.degrees →
        IsPassed kept w (passed_on kept w y) (λ z. z == y) more
    unfolding passed_edge
    passed_one some k m sized = by (interferes w.graph kept y) refl
      where
        by : (c : Bool) → interferes w.graph kept y ≡ c →
            IsPassed kept w (awake y (if c then bereft w y else record w {
              graph = if c then w.graph else joined w.graph kept y;
              degrees = if is_left w.lists y && not (is_register kept) then raised kept w.degrees else w.degrees;
            })) (λ z. z == y) more
        by true p = lost p (either_way w.graph y kept ∙ p)
        by false p = gained p
            (record { graph = graph; some = some; first = k; second = m; differ = λ e. d (sym e); apart = p }) sized

  count_same : (p q : ℕ → Bool) (xs : List ℕ) → ((z : ℕ) → is_among z xs ≡ true → p z ≡ q z) →
      count_by p xs ≡ count_by q xs
  count_same p q [] h = refl
  count_same p q (x ∷ xs) h =
      let here = ap bit (h x (or_left (x == x) (is_among x xs) (same_test x x refl))) in
      let rest = count_same p q xs (λ z e. h z (or_right (z == x) (is_among z xs) e)) in
      omega (arith, here, rest, count_cons p x xs, count_cons q x xs)

  -- what is known of each neighbour
  pub record IsBeside (w : Work) (y : ℕ) : Type 0 where
    pub node : y < w.graph.nodes
    pub place : y < w.lists.nodes
    pub fixed : is_among y w.lists.fixed ≡ is_register y
    pub apart : y ≢ kept

  abbrev pub brought : Work → ℕ → Bool
  brought w z = is_left w.lists z && not (interferes w.graph kept z)

  pub passed_all : (w : Work) (ys : List ℕ) → IsDistinct nat_eq ys → IsGraph w.graph → 25 ≤ w.graph.nodes →
      kept < w.graph.nodes → kept < length w.degrees → ((y : ℕ) → is_among y ys ≡ true → IsBeside w y) →
      IsPassed kept w (fold (passed_on kept) w ys) (λ z. is_among z ys) (count_by (brought w) ys)
  passed_all w [] h g some k sized b = passed_none kept w g
  passed_all w (y ∷ ys) h g some k sized b =
      let at = b y (or_left (y == y) (is_among y ys) (same_test y y refl)) in
      let one = passed_one w y at.apart at.place at.fixed g some k at.node sized in
      let all = passed_all (passed_on kept w y) ys (distinct_rest y ys h) one.graph
      (subst (λ n. 25 ≤ n) (sym one.size) some) (subst (λ n. kept < n) (sym one.size) k)
      (subst (λ n. kept < n) (sym one.sized) sized) (λ z e. beside y z one (b z (or_right (z == y) (is_among z ys) e))) in
      subst (λ n. IsPassed kept w (fold (passed_on kept) w (y ∷ ys)) (λ z. is_among z (y ∷ ys)) n)
      (counted y ys (count_by (brought (passed_on kept w y)) ys)
      (count_same (brought (passed_on kept w y)) (brought w) ys
      (λ z e. same_brought y z one (b z (or_right (z == y) (is_among z ys) e))
      (λ q. clash (subst (λ x. is_among x ys ≡ true) q e) (not_again y ys h)))))
      (passed_then kept w (passed_on kept w y) (fold (passed_on kept) (passed_on kept w y) ys) y (λ z. is_among z ys)
      (bit (brought w y)) (count_by (brought (passed_on kept w y)) ys) one all (not_again y ys h) at.apart g)
    where
      beside : (y z : ℕ) → IsPassed kept w (passed_on kept w y) (λ a. a == y) (bit (brought w y)) → IsBeside w z →
          IsBeside (passed_on kept w y) z
      beside y z one b = record {
        node = subst (λ n. z < n) (sym one.size) b.node;
        place = subst (λ n. z < n) (sym one.lists.nodes) b.place;
        fixed = one.lists.fixed z ∙ b.fixed;
        apart = b.apart;
      }

      same_brought : (y z : ℕ) → IsPassed kept w (passed_on kept w y) (λ a. a == y) (bit (brought w y)) →
          IsBeside w z → z ≢ y → brought (passed_on kept w y) z ≡ brought w z
      same_brought y z one b d =
          ap (λ c. c && not (interferes (passed_on kept w y).graph kept z))
          (shifted_left w.lists (passed_on kept w y).lists one.lists z)
          ∙ ap (λ c. is_left w.lists z && not c)
          (pairs_kept kept w (passed_on kept w y) y (bit (brought w y)) one z b.apart (never (λ q. d (same_node z y q))))

      counted : (y : ℕ) (ys : List ℕ) (n : ℕ) → n ≡ count_by (brought w) ys →
          bit (brought w y) + n ≡ count_by (brought w) (y ∷ ys)
      counted y ys n e = omega (arith, e, count_cons (brought w) y ys)
