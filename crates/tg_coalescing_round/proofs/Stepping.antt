-- What the parts of a step leave as it was: the graph, the nodes that are left, and degrees.
use Rattle.std.proofs.Common.{◌≡◌, ◌≢◌, ℕ, ◌+◌, ◌-◌, ◌<◌, true, false, not, List, length, get_or, set, refl, sym, ap, ◌∙◌, subst, arith}
use Rattle.std.specs.Prelude.{◌==◌, fold}
use Rattle.std.proofs.lemmas.Bool.{cond-false, cond-true, eq-eqb, ne_eqb}
use Rattle.std.proofs.lemmas.List.{get_or-set_other, get_or_read, length-set}
use Rattle.tg_graph.specs.Interference.{Interference, is_among}
use Rattle.tg_irc_definition.specs.declared.moves.MoveState.{MoveState}
use Rattle.tg_irc_definition.specs.declared.moves.MoveState.TheVariants.{Frozen}
use Rattle.tg_coalescing_round.specs.glue.Lists.{list_at, lowered, raised}
use Rattle.tg_coalescing_round.specs.glue.Tables as tables
use Rattle.tg_coalescing_round.specs.glue.Works.{Work, awake_around, degree_at, from, is_left, is_open, relisted, settled, to}
use Rattle.tg_coalescing_round.specs.mirror.Steps.{bereft, freeze_one, given_up}
use Rattle.tg_coalescing_round.proofs.Folds.{fold_keeps, fold_keeps_off}
use Rattle.tg_coalescing_round.proofs.Keeping.{either, relisted_classes, relisted_degrees, relisted_graph, relisted_moves}
use Rattle.tg_coalescing_round.proofs.Left.{relisted_left}

-- A move is settled.

module _ (i : ℕ) (state : MoveState) (w : Work) where
  abbrev told : Work
  told = record w { moves = tables.settled i state (to w i) (from w i) w.moves }

  -- what is seen alike where a node is put into its list
  settled_sees : {V : Type 0} (see : Work → V) → ((x : ℕ) (v : Work) → see (relisted x v) ≡ see v) →
      see (settled i state w) ≡ see told
  unfolding settled
  settled_sees see k = k (from w i) (relisted (to w i) told) ∙ k (to w i) told

  pub settled_graph : (settled i state w).graph ≡ w.graph
  settled_graph = settled_sees (λ v. v.graph) relisted_graph

  pub settled_degrees : (settled i state w).degrees ≡ w.degrees
  settled_degrees = settled_sees (λ v. v.degrees) relisted_degrees

  pub settled_classes : (settled i state w).classes ≡ w.classes
  settled_classes = settled_sees (λ v. v.classes) relisted_classes

  pub settled_moves : (settled i state w).moves ≡ tables.settled i state (to w i) (from w i) w.moves
  settled_moves = settled_sees (λ v. v.moves) relisted_moves

  pub settled_left : (z : ℕ) → is_left (settled i state w).lists z ≡ is_left w.lists z
  settled_left z = settled_sees (λ v. is_left v.lists z) (λ x v. relisted_left x v z)

-- The moves of a class are given up.

module _ (x : ℕ) (w : Work) where
  -- what is seen alike where a move is settled
  given_up_sees : {V : Type 0} (see : Work → V) → ((i : ℕ) (v : Work) → see (settled i Frozen v) ≡ see v) →
      see (given_up x w) ≡ see w
  unfolding given_up
  given_up_sees see k =
      fold_keeps freeze_one see (λ v i. either see (tables.is_unsettled v.moves i) _ v (see v) (k i v) refl) w
      (list_at w.moves.touching x)

  pub given_up_graph : (given_up x w).graph ≡ w.graph
  given_up_graph = given_up_sees (λ v. v.graph) (λ i v. settled_graph i Frozen v)

  pub given_up_degrees : (given_up x w).degrees ≡ w.degrees
  given_up_degrees = given_up_sees (λ v. v.degrees) (λ i v. settled_degrees i Frozen v)

  pub given_up_left : (z : ℕ) → is_left (given_up x w).lists z ≡ is_left w.lists z
  given_up_left z = given_up_sees (λ v. is_left v.lists z) (λ i v. settled_left i Frozen v z)

-- A node has a neighbour less.

lowered_other : (x z : ℕ) (ds : List ℕ) → z ≢ x → get_or (lowered x ds) z 0 ≡ get_or ds z 0
lowered_other x z ds d = get_or-set_other ds x z (get_or ds x 0 - 1) 0 d

pub raised_other : (x z : ℕ) (ds : List ℕ) → z ≢ x → get_or (raised x ds) z 0 ≡ get_or ds z 0
raised_other x z ds d = get_or-set_other ds x z (get_or ds x 0 + 1) 0 d

module _ (w : Work) (x : ℕ) where
  abbrev pub less : Work
  less = record w { degrees = lowered x w.degrees }

  -- what is seen alike of the node's list and moves is seen alike of all
  bereft_sees : {V : Type 0} (see : Work → V) → see (awake_around x (relisted x less)) ≡ see w → see less ≡ see w →
      see (bereft w x) ≡ see w
  unfolding bereft
  bereft_sees see p q =
      either see (not (is_open w x)) w _ (see w) refl
      (either see (degree_at less x == 24) (awake_around x (relisted x less)) less (see w) p q)

  pub bereft_not : is_open w x ≡ false → bereft w x ≡ w
  unfolding bereft
  bereft_not o = cond-true (not (is_open w x)) w _ (ap not o)

  module _ (o : is_open w x ≡ true) where
    pub bereft_turned : degree_at less x ≡ 24 → bereft w x ≡ awake_around x (relisted x less)
    unfolding bereft
    bereft_turned e =
        cond-false (not (is_open w x)) w _ (ap not o) ∙ cond-true (degree_at less x == 24) _ less (eq-eqb (degree_at less x) 24 e)

    pub bereft_lower : degree_at less x ≢ 24 → bereft w x ≡ less
    unfolding bereft
    bereft_lower d =
        cond-false (not (is_open w x)) w _ (ap not o) ∙ cond-false (degree_at less x == 24) _ less (ne_eqb (degree_at less x) 24 d)

  pub bereft_graph : (bereft w x).graph ≡ w.graph
  bereft_graph = bereft_sees (λ v. v.graph) (relisted_graph x less) refl

  pub bereft_left : (z : ℕ) → is_left (bereft w x).lists z ≡ is_left w.lists z
  bereft_left z = bereft_sees (λ v. is_left v.lists z) (relisted_left x less z) refl

  pub bereft_degree : (z : ℕ) → z ≢ x → degree_at (bereft w x) z ≡ degree_at w z
  bereft_degree z d =
      bereft_sees (λ v. degree_at v z)
      (ap (λ ds. get_or ds z 0) (relisted_degrees x less) ∙ lowered_other x z w.degrees d)
      (lowered_other x z w.degrees d)

-- Of work whose counter is lowered in place.
module _ (v w : Work) (x d : ℕ) (same : v ≡ w) (l : x < length v.degrees) (read : d ≡ get_or v.degrees x d) where
  abbrev lower : Work
  lower = record v { degrees = set v.degrees x (d - 1) }

  lower_is : lower ≡ less w x
  lower_is =
      ap (λ n. record v { degrees = set v.degrees x (n - 1) }) (get_or_read v.degrees x d l read 0)
      ∙ ap (λ (u : Work). record u { degrees = lowered x u.degrees }) same

  module _ (o : is_open w x ≡ true) (e : ℕ) (there : e ≡ get_or (set v.degrees x (d - 1)) x e) where
    degree_there : degree_at (less w x) x ≡ e
    degree_there =
        sym (ap (λ (u : Work). degree_at u x) lower_is)
        ∙ sym (get_or_read (set v.degrees x (d - 1)) x e (omega (arith, l, length-set v.degrees x (d - 1))) there 0)

    pub turned_done : e ≡ 24 → (r a : Work) → r ≡ relisted x lower → a ≡ awake_around x r → a ≡ bereft w x
    turned_done t r a f g =
        g
        ∙ (ap (awake_around x) (f ∙ ap (relisted x) lower_is) ∙ sym (bereft_turned w x o (degree_there ∙ t)))

    pub lower_done : e ≢ 24 → lower ≡ bereft w x
    lower_done t = lower_is ∙ sym (bereft_lower w x o (λ p. t (sym degree_there ∙ p)))

-- a node stays one where a temporary is put into its list
pub relisted_below : (x : ℕ) (u v w : Work) → v ≡ relisted x u → u.graph ≡ w.graph → x < w.graph.nodes →
    x < v.graph.nodes
relisted_below x u v w e f l =
    subst (λ (g : Interference). x < g.nodes) (sym (ap (λ (t : Work). t.graph) e ∙ (relisted_graph x u ∙ f))) l

pub all_bereft_graph : (w : Work) (xs : List ℕ) → (fold bereft w xs).graph ≡ w.graph
all_bereft_graph w xs = fold_keeps bereft (λ v. v.graph) bereft_graph w xs

pub all_bereft_left : (w : Work) (xs : List ℕ) (z : ℕ) → is_left (fold bereft w xs).lists z ≡ is_left w.lists z
all_bereft_left w xs z = fold_keeps bereft (λ v. is_left v.lists z) (λ v x. bereft_left v x z) w xs

pub all_bereft_degree : (w : Work) (xs : List ℕ) (z : ℕ) → is_among z xs ≡ false →
    degree_at (fold bereft w xs) z ≡ degree_at w z
all_bereft_degree w xs z p =
    fold_keeps_off bereft (λ v. degree_at v z) z (λ v x d. bereft_degree v x z d) w xs p
