-- What it makes of a table that waiting moves are to be tried again.
use Rattle.std.proofs.Common.{◌≡◌, ◌≢◌, ℕ, ◌<◌, ◌≤◌, Bool, true, false, not, ◌&&◌, ◌||◌}
use Rattle.std.proofs.Common.{List, [], ◌∷◌, ◌++◌, length, set, refl, sym, ap, subst, ◌∙◌, arith, ⊎_elim}
use Rattle.std.specs.Prelude.{nat_eq, ◌==◌, fold, if◌then◌else◌}
use Rattle.std.specs.List.{IsDistinct}
use Rattle.std.proofs.lemmas.Bool.{cases_eq, cases_lt}
use Rattle.std.proofs.lemmas.List.{get_or_past, get_or-set_same, get_or-set_other, length-set}
use Rattle.std.proofs.lemmas.List.Elements.{All-push}
use Rattle.tg_irc_definition.specs.declared.moves.MoveState.{MoveState}
use Rattle.tg_irc_definition.specs.declared.moves.MoveState.TheVariants.{Ready, Waiting, Coalesced, Constrained, Frozen}
use Rattle.tg_irc_definition.specs.States.{is_ready_or_waiting}
use Rattle.tg_irc_definition.proofs.Deciding.{clash, either, or_left, never, same_node, same_test}
use Rattle.tg_graph.specs.Interference.{is_among}
use Rattle.tg_graph.proofs.Changes.{among_push, distinct_push}
use Rattle.tg_coalescing_round.specs.glue.Lists.{list_at}
use Rattle.tg_coalescing_round.specs.glue.Tables.{Table, IsTable, state_at, is_waiting, is_unsettled, tried_again, woken}
use Rattle.tg_coalescing_round.specs.glue.Standing.{as_told}

-- the moves to be tried are the ready ones, each once
pub record IsQueue (t : Table) : Type 0 where
  pub table : IsTable t
  pub exact : (i : ℕ) → i < length t.moves →
      is_among i t.ready ≡ (is_unsettled t i && not (is_waiting (state_at t i)))
  pub distinct : IsDistinct nat_eq t.ready

abbrev pub requeued : List MoveState → List ℕ → Table → Table
requeued states ready t = record t { states = states; ready = ready }

-- some waiting moves were made ready
pub record IsWoken (t u : Table) : Type 0 where
  pub same : u ≡ requeued u.states u.ready t
  pub told : (i : ℕ) → as_told (state_at u i) ≡ as_told (state_at t i)
  pub waiting : (i : ℕ) → is_waiting (state_at u i) ≡ true → is_waiting (state_at t i) ≡ true
  pub kept : IsQueue t → IsQueue u

pub woken_none : (t : Table) → IsWoken t t
woken_none t = record { same = refl; told = λ i. refl; waiting = λ i e. e; kept = λ q. q }

pub woken_then : (t u v : Table) → IsWoken t u → IsWoken u v → IsWoken t v
woken_then t u v a b = record {
  same = b.same ∙ ap (requeued v.states v.ready) a.same;
  told = λ i. b.told i ∙ a.told i;
  waiting = λ i e. a.waiting i (b.waiting i e);
  kept = λ q. b.kept (a.kept q);
}

pub waiting_is : (s : MoveState) → is_waiting s ≡ true → s ≡ Waiting
waiting_is Waiting e = refl
waiting_is Ready e = cc
waiting_is Coalesced e = cc
waiting_is Constrained e = cc
waiting_is Frozen e = cc

pub told_open : (s : MoveState) → is_ready_or_waiting (as_told s) ≡ is_ready_or_waiting s
told_open Ready = refl
told_open Waiting = refl
told_open Coalesced = refl
told_open Constrained = refl
told_open Frozen = refl

pub woken_unsettled : (t u : Table) → IsWoken t u → (i : ℕ) → is_unsettled u i ≡ is_unsettled t i
woken_unsettled t u k i =
    sym (told_open (state_at u i)) ∙ (ap is_ready_or_waiting (k.told i) ∙ told_open (state_at t i))

-- one move is tried again
module _ (t : Table) (i : ℕ) where
  abbrev again : Table
  again = requeued (set t.states i Ready) (t.ready ++ i ∷ []) t

  module _ (waits : is_waiting (state_at t i) ≡ true) where
    below : i < length t.states
    below =
        ⊎_elim (λ (l : i < length t.states). l)
        (λ (l : length t.states ≤ i). absurd (clash waits (ap is_waiting (get_or_past t.states i Ready l))))
        (cases_lt i (length t.states))

    here : state_at again i ≡ Ready
    here = get_or-set_same t.states i Ready Ready below

    there : (j : ℕ) → j ≢ i → state_at again j ≡ state_at t j
    there j d = get_or-set_other t.states i j Ready Ready d

    again_told : (j : ℕ) → as_told (state_at again j) ≡ as_told (state_at t j)
    again_told j =
        ⊎_elim
        (λ (p : j ≡ i). subst (λ k. as_told (state_at again k) ≡ as_told (state_at t k)) (sym p)
        (ap as_told here ∙ sym (ap as_told (waiting_is (state_at t i) waits))))
        (λ (d : j ≢ i). ap as_told (there j d))
        (cases_eq j i)

    again_waiting : (j : ℕ) → is_waiting (state_at again j) ≡ true → is_waiting (state_at t j) ≡ true
    again_waiting j e =
        ⊎_elim
        (λ (p : j ≡ i). absurd (clash (subst (λ k. is_waiting (state_at again k) ≡ true) p e) (ap is_waiting here)))
        (λ (d : j ≢ i). sym (ap is_waiting (there j d)) ∙ e)
        (cases_eq j i)

    again_table : IsTable t → IsTable again
    again_table k = record {
      few = k.few;
      states_sized = length-set t.states i Ready ∙ k.states_sized;
      unsettled_sized = k.unsettled_sized;
      ends_below = k.ends_below;
      ready_below = All-push (λ j. j < length t.moves) t.ready i k.ready_below (omega (arith, below, k.states_sized));
      touching_below = k.touching_below;
      few_unsettled = k.few_unsettled;
    }

    again_exact : IsQueue t → (j : ℕ) → j < length t.moves →
        is_among j again.ready ≡ (is_unsettled again j && not (is_waiting (state_at again j)))
    again_exact q j l =
        among_push j i t.ready
        ∙ ⊎_elim
        (λ (p : j ≡ i). or_left (j == i) _ (same_test j i p)
        ∙ sym (ap (λ s. is_ready_or_waiting s && not (is_waiting s)) (ap (state_at again) p ∙ here)))
        (λ (d : j ≢ i). ap (λ b. b || is_among j t.ready) (never (λ e. d (same_node j i e)))
        ∙ (q.exact j l ∙ sym (ap (λ s. is_ready_or_waiting s && not (is_waiting s)) (there j d))))
        (cases_eq j i)

    not_ready : IsQueue t → is_among i t.ready ≡ false
    not_ready q =
        q.exact i (omega (arith, below, q.table.states_sized))
        ∙ ap (λ s. is_ready_or_waiting s && not (is_waiting s)) (waiting_is (state_at t i) waits)

    woken_again : IsWoken t again
    woken_again = record {
      same = refl;
      told = again_told;
      waiting = again_waiting;
      kept = λ q. record {
        table = again_table q.table;
        exact = again_exact q;
        distinct = distinct_push t.ready i q.distinct (not_ready q);
      };
    }

  pub woken_one : IsWoken t (tried_again t i)
  woken_one = by (is_waiting (state_at t i)) refl
    where
      by : (b : Bool) → is_waiting (state_at t i) ≡ b → IsWoken t (if b then again else t)
      by true e = woken_again e
      by false e = woken_none t

  pub wakes_one : is_waiting (state_at (tried_again t i) i) ≡ false
  wakes_one = by (is_waiting (state_at t i)) refl
    where
      by : (b : Bool) → is_waiting (state_at t i) ≡ b → is_waiting (state_at (if b then again else t) i) ≡ false
      by true e = ap is_waiting (here e)
      by false e = e

-- what is not waiting stays so
pub stays_awake : (t u : Table) (i : ℕ) → IsWoken t u → is_waiting (state_at t i) ≡ false →
    is_waiting (state_at u i) ≡ false
stays_awake t u i k e = never (λ h. clash (k.waiting i h) e)

-- one change after another
pub woken_all : (f : Table → ℕ → Table) → ((t : Table) (y : ℕ) → IsWoken t (f t y)) → (t : Table) (ys : List ℕ) →
    IsWoken t (fold f t ys)
woken_all f each t [] = woken_none t
woken_all f each t (y ∷ ys) = woken_then t (f t y) (fold f (f t y) ys) (each t y) (woken_all f each (f t y) ys)

-- each of which makes some moves ready
pub wakes_all : (f : Table → ℕ → Table) → ((t : Table) (y : ℕ) → IsWoken t (f t y)) → (i y : ℕ) →
    ((u : Table) → is_waiting (state_at (f u y) i) ≡ false) → (t : Table) (ys : List ℕ) → is_among y ys ≡ true →
    is_waiting (state_at (fold f t ys) i) ≡ false
wakes_all f each i y at t [] e = cc
wakes_all f each i y at t (z ∷ ys) e =
    ⊎_elim
    (λ s. stays_awake (f t z) (fold f (f t z) ys) i (woken_all f each (f t z) ys)
    (subst (λ x. is_waiting (state_at (f t x) i) ≡ false) (same_node y z s) (at t)))
    (λ s. wakes_all f each i y at (f t z) ys s)
    (either (y == z) (is_among y ys) e)

-- the moves of a class
pub woken_class : (x : ℕ) (t : Table) → IsWoken t (woken x t)
woken_class x t = woken_all tried_again woken_one t (list_at t.touching x)

pub wakes_class : (x i : ℕ) (t : Table) → is_among i (list_at t.touching x) ≡ true →
    is_waiting (state_at (woken x t) i) ≡ false
wakes_class x i t e = wakes_all tried_again woken_one i i (λ u. wakes_one u i) t (list_at t.touching x) e

-- and of several
abbrev pub woken_each : Table → List ℕ → Table
woken_each t ys = fold (λ u y. woken y u) t ys

pub woken_classes : (t : Table) (ys : List ℕ) → IsWoken t (woken_each t ys)
woken_classes t ys = woken_all (λ u y. woken y u) (λ u y. woken_class y u) t ys

pub wakes_classes : (t : Table) (ys : List ℕ) (y i : ℕ) → is_among y ys ≡ true →
    is_among i (list_at t.touching y) ≡ true → is_waiting (state_at (woken_each t ys) i) ≡ false
wakes_classes t [] y i e s = cc
wakes_classes t (z ∷ ys) y i e s =
    ⊎_elim
    (λ p. stays_awake (woken z t) (woken_each (woken z t) ys) i (woken_classes (woken z t) ys)
    (wakes_class z i t (subst (λ x. is_among i (list_at t.touching x) ≡ true) (same_node y z p) s)))
    (λ p. wakes_classes (woken z t) ys y i p
    (ap (λ u. is_among i (list_at (Table.touching u) y)) (woken_class z t).same ∙ s))
    (either (y == z) (is_among y ys) e)
