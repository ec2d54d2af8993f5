-- The classes of a round stay within sets of nodes that no move leads out of.
use Rattle.std.proofs.Common.{◌≡◌, ◌≢◌, ℕ, ◌<◌, Bool, true, false, ◌&&◌, ◌||◌, ◌⊎◌, inl, inr, refl, sym, ap, subst, ◌∙◌}
use Rattle.std.proofs.Common.{⊎_elim, List, [], ◌∷◌, length}
use Rattle.std.specs.Prelude.{nat_lt, nat_eq, ◌==◌, if◌then◌else◌, slice_index_or}
use Rattle.std.proofs.lemmas.Bool.{ltb-true}
use Rattle.std.proofs.lemmas.Bool.Decides.{eqb_tells}
use Rattle.std.proofs.lemmas.Option.{get_or_from_slice_get}
use Rattle.tg_irc_definition.specs.declared.steps.Step.{Step}
use Rattle.tg_irc_definition.specs.declared.steps.Step.TheVariants.{Simplify, Same, Constrain, Coalesce, Freeze, Spill}
use Rattle.tg_irc_definition.specs.declared.rounds.Round.{Round}
use Rattle.tg_irc_definition.specs.Graphs.{Set}
use Rattle.tg_irc_definition.specs.States.{Problem, RoundState, start, move_at, to, from, is_unsettled}
use Rattle.tg_irc_definition.specs.Steps.{is_safe, stands_under, can, after, after_all, AreTaken}
use Rattle.tg_irc_definition.specs.Rounds.{end, IsRound}
use Rattle.tg_irc_definition.specs.laws.Classes.{class_of, HasWholeMoves, ClassesStayWithin, IsUntouched, UntouchedStandAlone}
use Rattle.tg_irc_definition.specs.laws.Classes.{IsTouchedFrom, OneNeighbourIsJoined}
use Rattle.tg_irc_definition.proofs.Deciding.{clash, both, either, tells, never, not_true, same_node, same_test}
use Rattle.tg_irc_definition.proofs.Answering.{listed_at}
use Rattle.tg_irc_definition.proofs.Explaining.{same_to_end}

pub class_is : (g : Problem) (round : Round) → IsRound g round → (x : ℕ) → x < g.graph.nodes →
    class_of round x ≡ (end g round).alias x
class_is g round r x l =
    ap (λ xs. slice_index_or xs x 0) r.aliases ∙
    get_or_from_slice_get _ x ((end g round).alias x) 0 (listed_at g.graph.nodes (end g round).alias x l)

-- the ends of a merge come to one class
merged_ends : (kept gone a b : ℕ) → ((a ≡ kept) × (b ≡ gone)) ⊎ ((a ≡ gone) × (b ≡ kept)) →
    (if a == gone then kept else a) ≡ (if b == gone then kept else b)
merged_ends kept gone a b h =
    ⊎_elim (λ e. ap into e.0 ∙ (at_kept (kept == gone) ∙ sym (ap into e.1 ∙ at_gone)))
    (λ e. ap into e.0 ∙ (at_gone ∙ sym (ap into e.1 ∙ at_kept (kept == gone)))) h
  where
    into : ℕ → ℕ
    into c = if c == gone then kept else c

    at_gone : into gone ≡ kept
    at_gone = ap (λ t. if t then kept else gone) (same_test gone gone refl)

    at_kept : (t : Bool) → (if t then kept else kept) ≡ kept
    at_kept true = refl
    at_kept false = refl

module _ (g : Problem) where
  -- what a Coalesce step merges: the classes of the ends of a move
  pub record Merged (s : RoundState) (i kept gone : ℕ) : Type 0 where
    pub inside : i < length g.moves
    pub ends : ((to g s i ≡ kept) × (from g s i ≡ gone)) ⊎ ((to g s i ≡ gone) × (from g s i ≡ kept))
    pub differ : to g s i ≢ from g s i

  pub merged_of : (s : RoundState) (i kept gone : ℕ) (b : Bool) → can g s (Coalesce i kept gone b) ≡ true → Merged s i kept gone
  merged_of s i kept gone b c =
      record {
        inside = ltb-true i (length g.moves) (both (nat_lt i (length g.moves)) _ c3.0).0;
        ends = ⊎_elim (λ p. let q = both (x == kept) (y == gone) p in inl (same_node x kept q.0, same_node y gone q.1))
            (λ p. let q = both (x == gone) (y == kept) p in inr (same_node x gone q.0, same_node y kept q.1))
            (either (x == kept && y == gone) (x == gone && y == kept) c2.1);
        differ = λ e. clash (same_test x y e) (not_true (both _ _ (both _ _ c3.1).0).0);
      }
    where
      x : ℕ
      x = to g s i

      y : ℕ
      y = from g s i

      c2 : ((is_unsettled g s i && is_safe g s i) ≡ true) × (((x == kept && y == gone) || (x == gone && y == kept)) ≡ true)
      c2 = both (is_unsettled g s i && is_safe g s i) _ (both _ (stands_under g s kept gone) (both _ _ c).0).0

      c3 : (is_unsettled g s i ≡ true) × (is_safe g s i ≡ true)
      c3 = both (is_unsettled g s i) (is_safe g s i) c2.0

  -- A set that no move leads out of.

  module _ (S : Set) (whole : HasWholeMoves g S) where
    abbrev Within : RoundState → Type 0
    Within s = (y : ℕ) → S (s.alias y) ≡ S y

    within_after : (s : RoundState) (step : Step) → can g s step ≡ true → Within s → Within (after g s step)
    within_after s (Coalesce i kept gone b) c h y = by (tells (s.alias y == gone))
      where
        m : Merged s i kept gone
        m = merged_of s i kept gone b c

        alike : S (to g s i) ≡ S (from g s i)
        alike = h (move_at g s i).to ∙ (whole i (record { to = 0; from = 0 }) m.inside ∙ sym (h (move_at g s i).from))

        kept_is : S kept ≡ S gone
        kept_is =
            ⊎_elim (λ e. sym (ap S e.0) ∙ (alike ∙ ap S e.1)) (λ e. sym (ap S e.1) ∙ (sym alike ∙ ap S e.0)) m.ends

        by : ((s.alias y == gone) ≡ true) ⊎ ((s.alias y == gone) ≡ false) → S (if s.alias y == gone then kept else s.alias y) ≡ S y
        by (inl e) =
            ap (λ t. S (if t then kept else s.alias y)) e ∙ (kept_is ∙ (sym (ap S (same_node (s.alias y) gone e)) ∙ h y))
        by (inr e) = ap (λ t. S (if t then kept else s.alias y)) e ∙ h y
    within_after s (Simplify x) c h y = h y
    within_after s (Same i) c h y = h y
    within_after s (Constrain i) c h y = h y
    within_after s (Freeze x) c h y = h y
    within_after s (Spill x) c h y = h y

    pub within_all : (s : RoundState) (steps : List Step) → AreTaken g s steps → Within s → Within (after_all g s steps)
    within_all s [] t h = h
    within_all s (step ∷ steps) t h = within_all (after g s step) steps t.1 (within_after s step t.0.possible h)

  -- A node of which each move leads to one other.

  module _ (x other : ℕ) (touched : IsTouchedFrom g x other) where
    -- it is a class of its own
    pub record Alone (s : RoundState) : Type 0 where
      pub own : s.alias x ≡ x
      pub no_other : (y : ℕ) → s.alias y ≡ x → y ≡ x

    alone_merged : (s : RoundState) (i kept gone : ℕ) (b : Bool) → Alone s → kept ≢ x → gone ≢ x →
        Alone (after g s (Coalesce i kept gone b))
    alone_merged s i kept gone b h k n =
        record {
          own = ap (λ t. if t then kept else s.alias x) (never (λ e. n (sym (same_node _ gone e) ∙ h.own))) ∙ h.own;
          no_other = λ y e. by y (tells (s.alias y == gone)) e;
        }
      where
        by : (y : ℕ) → ((s.alias y == gone) ≡ true) ⊎ ((s.alias y == gone) ≡ false) →
            (if s.alias y == gone then kept else s.alias y) ≡ x → y ≡ x
        by y (inl t) e = absurd (k (subst (λ t. (if t then kept else s.alias y) ≡ x) t e))
        by y (inr t) e = h.no_other y (subst (λ t. (if t then kept else s.alias y) ≡ x) t e)

    -- a merge of its class is with the other's
    joined : (s : RoundState) (i kept gone : ℕ) (b : Bool) → Alone s → Merged s i kept gone → (to g s i ≡ x) ⊎ (from g s i ≡ x) →
        (after g s (Coalesce i kept gone b)).alias x ≡ (after g s (Coalesce i kept gone b)).alias other
    joined s i kept gone b h m (inl e) =
        ap (λ c. if c == gone then kept else c) (h.own ∙ sym e) ∙
        (merged_ends kept gone (to g s i) (from g s i) m.ends ∙ ap (λ c. if c == gone then kept else c) (ap s.alias other_is))
      where
        other_is : (move_at g s i).from ≡ other
        other_is = (touched i (record { to = 0; from = 0 }) m.inside).0 (h.no_other _ e)
    joined s i kept gone b h m (inr e) =
        ap (λ c. if c == gone then kept else c) (h.own ∙ sym e) ∙
        (sym (merged_ends kept gone (to g s i) (from g s i) m.ends) ∙ ap (λ c. if c == gone then kept else c) (ap s.alias other_is))
      where
        other_is : (move_at g s i).to ≡ other
        other_is = (touched i (record { to = 0; from = 0 }) m.inside).1 (h.no_other _ e)

    neither_is : (s : RoundState) (i kept gone : ℕ) → Merged s i kept gone → to g s i ≢ x → from g s i ≢ x → (kept ≢ x) × (gone ≢ x)
    neither_is s i kept gone m p q =
        ⊎_elim (λ e. (λ k. p (e.0 ∙ k), λ k. q (e.1 ∙ k))) (λ e. (λ k. q (e.1 ∙ k), λ k. p (e.0 ∙ k))) m.ends

    alone_after : (s : RoundState) (step : Step) → can g s step ≡ true → Alone s →
        Alone (after g s step) ⊎ ((after g s step).alias x ≡ (after g s step).alias other)
    alone_after s (Coalesce i kept gone b) c h = by (eqb_tells (to g s i) x) (eqb_tells (from g s i) x)
      where
        m : Merged s i kept gone
        m = merged_of s i kept gone b c

        by : ((nat_eq (to g s i) x ≡ true) × (to g s i ≡ x)) ⊎ ((nat_eq (to g s i) x ≡ false) × (to g s i ≢ x)) →
            ((nat_eq (from g s i) x ≡ true) × (from g s i ≡ x)) ⊎ ((nat_eq (from g s i) x ≡ false) × (from g s i ≢ x)) →
            Alone (after g s (Coalesce i kept gone b)) ⊎
            ((after g s (Coalesce i kept gone b)).alias x ≡ (after g s (Coalesce i kept gone b)).alias other)
        by (inl e) f = inr (joined s i kept gone b h m (inl e.1))
        by (inr e) (inl f) = inr (joined s i kept gone b h m (inr f.1))
        by (inr e) (inr f) =
            let n = neither_is s i kept gone m e.1 f.1 in
            inl (alone_merged s i kept gone b h n.0 n.1)
    alone_after s (Simplify z) c h = inl (record { own = h.own; no_other = h.no_other })
    alone_after s (Same i) c h = inl (record { own = h.own; no_other = h.no_other })
    alone_after s (Constrain i) c h = inl (record { own = h.own; no_other = h.no_other })
    alone_after s (Freeze z) c h = inl (record { own = h.own; no_other = h.no_other })
    alone_after s (Spill z) c h = inl (record { own = h.own; no_other = h.no_other })

    pub alone_all : (s : RoundState) (steps : List Step) → AreTaken g s steps → Alone s →
        Alone (after_all g s steps) ⊎ ((after_all g s steps).alias x ≡ (after_all g s steps).alias other)
    alone_all s [] t h = inl h
    alone_all s (step ∷ steps) t h =
        ⊎_elim (λ k. alone_all (after g s step) steps t.1 k)
        (λ e. inr (same_to_end g (after g s step) steps x other e)) (alone_after s step t.0.possible h)

pub classes_stay_within : ClassesStayWithin
classes_stay_within g round r S whole x l =
    ap S (class_is g round r x l) ∙ within_all g S whole (start g) round.steps r.steps (λ y. refl) x

-- a set of one node
single : (g : Problem) (x : ℕ) → IsUntouched g x → HasWholeMoves g (λ y. y == x)
single g x untouched i d l =
    let n = untouched i d l in
    never (λ e. n.0 (same_node _ x e)) ∙ sym (never (λ e. n.1 (same_node _ x e)))

pub untouched_stand_alone : UntouchedStandAlone
untouched_stand_alone g round r x l untouched =
    record {
      own = same_node _ x (classes_stay_within g round r (λ y. y == x) (single g x untouched) x l ∙ same_test x x refl);
      no_other = λ y k e. same_node y x
          (sym (classes_stay_within g round r (λ y. y == x) (single g x untouched) y k) ∙ same_test _ x e);
    }

pub one_neighbour_is_joined : OneNeighbourIsJoined
one_neighbour_is_joined g round r x other l lo touched =
    ⊎_elim (λ h. inl (record {
      own = class_is g round r x l ∙ h.own;
      no_other = λ y k e. h.no_other y (sym (class_is g round r y k) ∙ e);
    })) (λ e. inr (class_is g round r x l ∙ (e ∙ sym (class_is g round r other lo))))
    (alone_all g x other touched (start g) round.steps r.steps (record { own = refl; no_other = λ y e. e }))
