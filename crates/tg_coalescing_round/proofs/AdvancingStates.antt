-- Counters that are lowered, last states of moves, and what other states leave as it is.
use Rattle.std.proofs.Common.{◌≡◌, ◌≢◌, ℕ, ◌+◌, ◌-◌, ◌<◌, ◌≤◌, Bool, true, false, ◌&&◌}
use Rattle.std.proofs.Common.{List, [], ◌∷◌, length, get_or, set, sum, refl, sym, ap, subst, arith, ⊎_elim}
use Rattle.std.specs.Prelude.{◌==◌, count_by}
use Rattle.std.proofs.lemmas.Bool.{cases_eq, cases_lt}
use Rattle.std.proofs.lemmas.List.{get_or_past, get_or-set_same, get_or-set_other, length-set, set_past}
use Rattle.std.proofs.lemmas.List.Sums.{sum_by-set}
use Rattle.tg_irc_definition.specs.declared.moves.MoveState.{MoveState}
use Rattle.tg_irc_definition.specs.declared.moves.MoveState.TheVariants.{Ready, Waiting, Coalesced, Constrained, Frozen}
use Rattle.tg_irc_definition.specs.Graphs.{bit}
use Rattle.tg_irc_definition.specs.States.{Problem, RoundState, is_ready_or_waiting}
use Rattle.tg_irc_definition.specs.States as states
use Rattle.tg_irc_definition.specs.Steps.{can_move}
use Rattle.tg_irc_definition.proofs.Deciding.{and_false, never, same_node, same_test}
use Rattle.tg_coalescing_round.specs.glue.Lists.{lowered}
use Rattle.tg_coalescing_round.specs.glue.Tables.{is_waiting}
use Rattle.tg_coalescing_round.specs.glue.Standing.{as_told}
use Rattle.tg_coalescing_round.proofs.AdvancingMembers.{count_cons, one_bit, no_bit}

-- Counters that are lowered.

pub lowered_at : (p z : ℕ) (us : List ℕ) → get_or (lowered p us) z 0 ≡ get_or us z 0 - bit (p == z)
lowered_at p z us =
    ⊎_elim
    (λ (q : p ≡ z). let b : bit (p == z) ≡ 1 = one_bit (same_test p z q) in
    ⊎_elim
    (λ (l : z < length us).
    let it : get_or (lowered p us) z 0 ≡ get_or us z 0 - 1 =
    subst (λ y. get_or (set us y (get_or us y 0 - 1)) z 0 ≡ get_or us z 0 - 1) (sym q)
    (get_or-set_same us z (get_or us z 0 - 1) 0 l) in
    omega (arith, b, it))
    (λ (l : length us ≤ z).
    let past : get_or us z 0 ≡ 0 = get_or_past us z 0 l in
    let it : get_or (lowered p us) z 0 ≡ 0 =
    get_or_past (lowered p us) z 0 (omega (arith, l, length-set us p (get_or us p 0 - 1))) in
    omega (arith, b, past, it))
    (cases_lt z (length us)))
    (λ (d : p ≢ z).
    let b : bit (p == z) ≡ 0 = no_bit (never (λ e. d (same_node p z e))) in
    let it : get_or (lowered p us) z 0 ≡ get_or us z 0 =
    get_or-set_other us p z (get_or us p 0 - 1) 0 (λ e. d (sym e)) in
    omega (arith, b, it))
    (cases_eq p z)

pub sum_lowered : (p : ℕ) (us : List ℕ) → sum (lowered p us) ≤ sum us
sum_lowered p us =
    ⊎_elim
    (λ (l : p < length us).
    let s : sum (lowered p us) + get_or us p 0 ≡ sum us + (get_or us p 0 - 1) =
    sum_by-set (λ x. x) us p (get_or us p 0 - 1) 0 l in
    omega (arith, s))
    (λ (l : length us ≤ p). let s : sum (lowered p us) ≡ sum us = ap sum (set_past us p (get_or us p 0 - 1) l) in
    omega (arith, s))
    (cases_lt p (length us))

pub count_split : (p q r : ℕ → Bool) → ((x : ℕ) → bit (p x) ≡ bit (q x) + bit (r x)) → (xs : List ℕ) →
    count_by p xs ≡ count_by q xs + count_by r xs
count_split p q r h [] = refl
count_split p q r h (x ∷ xs) =
    let here = h x in
    let rest = count_split p q r h xs in
    omega (arith, here, rest, count_cons p x xs, count_cons q x xs, count_cons r x xs)

-- Last states.

pub told_last : (s : MoveState) → is_ready_or_waiting s ≡ false → as_told s ≡ s
told_last Ready e = cc
told_last Waiting e = cc
told_last Coalesced e = refl
told_last Constrained e = refl
told_last Frozen e = refl

pub last_rests : (s : MoveState) → is_ready_or_waiting s ≡ false → is_waiting s ≡ false
last_rests Ready e = cc
last_rests Waiting e = cc
last_rests Coalesced e = refl
last_rests Constrained e = refl
last_rests Frozen e = refl

-- a move that can't be settled can't where some states are others
pub unmoved : (g : Problem) (s : RoundState) (f : ℕ → MoveState) (i : ℕ) → states.is_unsettled g s i ≡ true →
    can_move g s i ≡ false → can_move g (record s { states = f }) i ≡ false
unmoved g s f i u e = and_so (states.is_unsettled g (record s { states = f }) i) (and_false _ _ e u)
  where
    and_so : (a : Bool) {b : Bool} → b ≡ false → (a && b) ≡ false
    and_so true p = p
    and_so false p = refl
