-- A move that is tried: what holds of its ends, and what becomes of it.
use Rattle.std.proofs.Common.{◌≡◌, ◌≢◌, ℕ, ◌<◌, ◌≤◌, true, false, not, ◌||◌, ◌⊎◌, inl}
use Rattle.std.proofs.Common.{inr, List, [], ◌∷◌, ◌++◌, length, get_or, sym, ap, ◌∙◌, subst, ⊎_elim, arith}
use Rattle.std.specs.Prelude.{◌==◌, if◌then◌else◌, Some, slice_get}
use Rattle.std.proofs.lemmas.Bool.{and_parts, cases_lt, cond-false, cond-true, eq-eqb, le-ltb, lt-ltb, ne_eqb, or_left, or_right}
use Rattle.tg_graph.specs.Interference.{Interference, colours, interferes, is_register}
use Rattle.tg_irc_definition.specs.declared.moves.MoveState.TheVariants.{Coalesced, Constrained}
use Rattle.tg_irc_definition.specs.declared.steps.Step.{Step}
use Rattle.tg_irc_definition.specs.declared.steps.Step.TheVariants.{Same, Constrain}
use Rattle.tg_coalescing_round.specs.glue.Lists.{lowered}
use Rattle.tg_coalescing_round.specs.glue.Tables as tables
use Rattle.tg_coalescing_round.specs.glue.Tables.{Table, is_unsettled, is_waiting, state_at}
use Rattle.tg_coalescing_round.specs.glue.Works.{Work, degree_at, from, is_left, settled, stepped, to}
use Rattle.tg_coalescing_round.specs.mirror.Passing.{passes, stands_under}
use Rattle.tg_coalescing_round.specs.mirror.Steps.{CanLose, coalesced, tried, tried_out}
use Rattle.tg_coalescing_round.specs.glue.Standing.{IsOrderly}
use Rattle.tg_irc_definition.proofs.Deciding.{clash}
use Rattle.tg_coalescing_round.proofs.AdvancingMembers.{among_first}
use Rattle.tg_coalescing_round.proofs.Counters.{has_neighbour, loses_alike}
use Rattle.tg_coalescing_round.proofs.Edges.{registers_apart}
use Rattle.tg_coalescing_round.proofs.Ends.{CanSettle, can_settle, from_counted, to_counted, toward_left, away_left}
use Rattle.tg_coalescing_round.proofs.Stepping.{settled_degrees, settled_graph, settled_left}

-- the work as the first move to be tried is taken
abbrev pub taken : Work → Work
taken w = record w { moves = tables.first_taken w.moves }

-- What becomes of it.

module _ (i : ℕ) (w : Work) where
  abbrev toward : ℕ
  toward = to w i

  abbrev away : ℕ
  away = from w i

  tries_same : (toward == away) ≡ true → tried_out i w ≡ stepped (Same i) (settled i Coalesced w)
  tries_same e = cond-true (toward == away) _ _ e

  module _ (d : (toward == away) ≡ false) where
    tries_constrained : interferes w.graph toward away ≡ true →
        tried_out i w ≡ stepped (Constrain i) (settled i Constrained w)
    tries_constrained e = cond-false (toward == away) _ _ d ∙ cond-true (interferes w.graph toward away) _ _ e

    module _ (a : interferes w.graph toward away ≡ false) where
      tries_unsafe : passes w toward away ≡ false → tried_out i w ≡ record w { moves = tables.parked i w.moves }
      tries_unsafe e =
          cond-false (toward == away) _ _ d
          ∙ (cond-false (interferes w.graph toward away) _ _ a
          ∙ cond-true (not (passes w toward away)) _ _ (ap not e))

      module _ (p : passes w toward away ≡ true) where
        last_two : tried_out i w ≡
            (if stands_under w toward away then coalesced i toward away w else coalesced i away toward w)
        last_two =
            cond-false (toward == away) _ _ d
            ∙ (cond-false (interferes w.graph toward away) _ _ a
            ∙ cond-false (not (passes w toward away)) _ _ (ap not p))

        tries_under : stands_under w toward away ≡ true → tried_out i w ≡ coalesced i toward away w
        tries_under e = last_two ∙ cond-true (stands_under w toward away) _ _ e

        tries_over : stands_under w toward away ≡ false → tried_out i w ≡ coalesced i away toward w
        tries_over e = last_two ∙ cond-false (stands_under w toward away) _ _ e

-- Registers among its ends.

module _ (g : Interference) (x y : ℕ) (d : x ≢ y) (a : interferes g x y ≡ false) where
  one_temporary : (colours ≤ x) ⊎ (colours ≤ y)
  one_temporary =
      ⊎_elim
      (λ (h : x < 25).
      ⊎_elim (λ (k : y < 25). absurd (clash (registers_apart g x y h k d) a)) (λ (k : 25 ≤ y). inr k)
      (cases_lt y 25))
      (λ (h : 25 ≤ x). inl h)
      (cases_lt x 25)

-- the end that goes is a temporary
under_temporary : (w : Work) (x y : ℕ) → x ≢ y → interferes w.graph x y ≡ false →
    stands_under w x y ≡ true →
    colours ≤ y
under_temporary w x y d a s =
    ⊎_elim
    (λ (k : y < 25).
    let stands : is_register x ≡ true =
    sym (cond-true (is_register x || is_register y) (is_register x) _ (or_right (is_register x) (is_register y)
    (lt-ltb y 25 k))) ∙ s in
    absurd (clash stands (⊎_elim (λ (h : 25 ≤ x). le-ltb x 25 h) (λ (h : 25 ≤ y). absurd (omega (arith, h, k)))
    (one_temporary w.graph x y d a))))
    (λ (k : 25 ≤ y). k)
    (cases_lt y 25)

over_temporary : (w : Work) (x y : ℕ) → stands_under w x y ≡ false → colours ≤ x
over_temporary w x y s =
    ⊎_elim
    (λ (h : x < 25).
    let register : is_register x ≡ true = lt-ltb x 25 h in
    let stands = cond-true (is_register x || is_register y) (is_register x) _ (or_left (is_register x) (is_register y)
    register) in
    absurd (clash register (sym stands ∙ s)))
    (λ (h : 25 ≤ x). h)
    (cases_lt x 25)

-- The move is one that can be settled.

module _ (i : ℕ) (w : Work) (o : IsOrderly w) (l : i < length w.moves.moves) (first : slice_get w.moves.ready 0 ≡ Some i) where
  unsettled : is_unsettled w.moves i ≡ true
  unsettled =
      (and_parts (is_unsettled w.moves i) (not (is_waiting (state_at w.moves i)))
      (sym (o.ready.exact i l) ∙ among_first w.moves.ready i first)).0

  settles : CanSettle w
  settles = can_settle w o.sized o.grouping o.table o.ends

  first_to_counted : 0 < get_or w.moves.unsettled (to w i) 0
  first_to_counted = to_counted w i settles l unsettled

  first_from_counted : 0 < get_or (lowered (to w i) w.moves.unsettled) (from w i) 0
  first_from_counted = from_counted w i settles l unsettled

  -- so its ends are left, and their neighbours have one to lose
  loses : (x : ℕ) → colours ≤ x → x < w.graph.nodes → is_left w.lists x ≡ true → CanLose w x
  loses x t h left = λ z. has_neighbour w x z o.graph o.degrees t h left

  to_loses : colours ≤ to w i → CanLose w (to w i)
  to_loses t = loses (to w i) t (settles.within i l).0 (toward_left w i settles l unsettled)

  from_loses : colours ≤ from w i → CanLose w (from w i)
  from_loses t = loses (from w i) t (settles.within i l).1 (away_left w i settles l unsettled)

-- where a move is settled neighbours have as many to lose
pub settled_loses : (i x : ℕ) (w : Work) → CanLose w x → CanLose (settled i Coalesced w) x
settled_loses i x w c =
    loses_alike x w (settled i Coalesced w) (settled_graph i Coalesced w) (settled_degrees i Coalesced w)
    (settled_left i Coalesced w) c

-- one step more of any work that is alike
stepped_as : (v s : Work) (steps : List Step) (step : Step) → v ≡ s → steps ≡ v.steps ++ step ∷ [] →
    record v { steps = steps } ≡ stepped step s
stepped_as v s steps step e f =
    ap (λ l. record v { steps = l }) f ∙ ap (stepped step) e

pub is_taken : (v w : Work) (t : Table) → v ≡ w → t ≡ tables.first_taken v.moves → record v { moves = t } ≡ taken w
is_taken v w t e f =
    ap (λ (u : Work). record u { moves = t }) e
    ∙ ap (λ s. record w { moves = s }) (f ∙ ap (λ (u : Work). tables.first_taken u.moves) e)

-- work in which the first move is taken, and the two ends of the move
pub record IsTried (i : ℕ) (w u : Work) (x y : ℕ) : Type 0 where
  pub work : u ≡ taken w
  pub one : x ≡ to u i
  pub other : y ≡ from u i

module _ (i : ℕ) (w u : Work) (x y : ℕ) (t : IsTried i w u x y) where
  at_ends : {V : Type 0} (f : ℕ → ℕ → V) → f (to u i) (from u i) ≡ f x y
  at_ends f = ap (λ a. f a (from u i)) (sym t.one) ∙ ap (λ b. f x b) (sym t.other)

  as_tried : tried_out i u ≡ tried i w
  unfolding tried
  as_tried = ap (λ (v : Work). tried_out i v) t.work

  pub same_done : x ≡ y → (s v : Work) (steps : List Step) → s ≡ settled i Coalesced u → v ≡ s →
      steps ≡ v.steps ++ Same i ∷ [] →
      record v { steps = steps } ≡ tried i w
  same_done d s v steps f g h =
      stepped_as v s steps (Same i) g h
      ∙ (ap (stepped (Same i)) f ∙ (sym (tries_same i u (at_ends (λ a b. a == b) ∙ eq-eqb x y d)) ∙ as_tried))

  module _ (d : x ≢ y) where
    differ : (to u i == from u i) ≡ false
    differ = at_ends (λ a b. a == b) ∙ ne_eqb x y d

    pub constrained_done : interferes u.graph x y ≡ true → (s v : Work) (steps : List Step) →
        s ≡ settled i Constrained u → v ≡ s → steps ≡ v.steps ++ Constrain i ∷ [] →
        record v { steps = steps } ≡ tried i w
    constrained_done a s v steps f g h =
        stepped_as v s steps (Constrain i) g h
        ∙ (ap (stepped (Constrain i)) f ∙ (sym (tries_constrained i u differ (at_ends (interferes u.graph) ∙ a)) ∙ as_tried))

    module _ (a : interferes u.graph x y ≡ false) where
      apart : interferes u.graph (to u i) (from u i) ≡ false
      apart = at_ends (interferes u.graph) ∙ a

      pub parked_done : passes u x y ≡ false → (moves : Table) → moves ≡ tables.parked i u.moves →
          record u { moves = moves } ≡ tried i w
      parked_done b moves f =
          ap (λ s. record u { moves = s }) f
          ∙ (sym (tries_unsafe i u differ apart (at_ends (passes u) ∙ b)) ∙ as_tried)

      pub under_done : passes u x y ≡ true → stands_under u x y ≡ true → (v : Work) → v ≡ coalesced i x y u →
          v ≡ tried i w
      under_done b s v f =
          f
          ∙ (sym (at_ends (λ m n. coalesced i m n u))
          ∙ (sym (tries_under i u differ apart (at_ends (passes u) ∙ b) (at_ends (stands_under u) ∙ s)) ∙ as_tried))

      pub over_done : passes u x y ≡ true → stands_under u x y ≡ false → (v : Work) → v ≡ coalesced i y x u →
          v ≡ tried i w
      over_done b s v f =
          f
          ∙ (sym (at_ends (λ m n. coalesced i n m u))
          ∙ (sym (tries_over i u differ apart (at_ends (passes u) ∙ b) (at_ends (stands_under u) ∙ s)) ∙ as_tried))

      module _ (o : IsOrderly w) (l : i < length w.moves.moves) (first : slice_get w.moves.ready 0 ≡ Some i) where
        pub under_loses : stands_under u x y ≡ true → CanLose u y
        under_loses s =
            let temporary : colours ≤ from u i = subst (λ z. 25 ≤ z) t.other (under_temporary u x y d a s) in
            subst (λ z. CanLose u z) (sym t.other)
            (subst (λ (v : Work). 25 ≤ from v i → CanLose v (from v i)) (sym t.work) (from_loses i w o l first) temporary)

        pub over_loses : stands_under u x y ≡ false → CanLose u x
        over_loses s =
            let temporary : colours ≤ to u i = subst (λ z. 25 ≤ z) t.one (over_temporary u x y s) in
            subst (λ z. CanLose u z) (sym t.one)
            (subst (λ (v : Work). 25 ≤ to v i → CanLose v (to v i)) (sym t.work) (to_loses i w o l first) temporary)

-- what it takes to settle it, and the room of its ends
module _ (i : ℕ) (w : Work) (o : IsOrderly w) (l : i < length w.moves.moves) (first : slice_get w.moves.ready 0 ≡ Some i)
    (u : Work) (e : u ≡ taken w) where
  pub to_counted_there : 0 < get_or u.moves.unsettled (to u i) 0
  to_counted_there =
      subst (λ (v : Work). 0 < get_or v.moves.unsettled (to v i) 0) (sym e) (first_to_counted i w o l first)

  pub from_counted_there : 0 < get_or (lowered (to u i) u.moves.unsettled) (from u i) 0
  from_counted_there =
      subst (λ (v : Work). 0 < get_or (lowered (to v i) v.moves.unsettled) (from v i) 0) (sym e)
      (first_from_counted i w o l first)

  pub room_there : (x : ℕ) → x < u.graph.nodes → degree_at u x ≤ u.graph.nodes
  room_there x =
      subst (λ (v : Work). x < v.graph.nodes → degree_at v x ≤ v.graph.nodes) (sym e) (o.degrees.bound x)
