-- How many moves wait, and that nothing is tried again where none does.
use Rattle.std.proofs.Common.{◌≡◌, ℕ, zero, suc, ◌+◌, ◌<◌, ◌≤◌, Bool, true, false, List, [], ◌∷◌, length, get_or, set, cond, refl, sym, ap, ◌∙◌, ⊎_elim, arith}
use Rattle.std.specs.Prelude.{count_by, fold, nat_lt}
use Rattle.std.proofs.lemmas.Bool.{cases_lt, cond-false, lt-ltb}
use Rattle.std.proofs.lemmas.List.{length-set}
use Rattle.std.proofs.lemmas.List.Sums.{sum_by-set, sum_by-cons, count_by-le-length}
use Rattle.tg_irc_definition.specs.declared.moves.MoveState.{MoveState}
use Rattle.tg_irc_definition.specs.declared.moves.MoveState.TheVariants.{Ready}
use Rattle.tg_irc_definition.proofs.Deciding.{clash}
use Rattle.tg_coalescing_round.specs.glue.Lists.{list_at}
use Rattle.tg_coalescing_round.specs.glue.Tables.{Table, state_at, is_waiting, some_waits, tried_again, woken}

-- one state changed
pub one_changed : (states : List MoveState) (i : ℕ) (old new : MoveState) → i < length states → old ≡ get_or states i old →
    count_by is_waiting (set states i new) + cond (is_waiting old) 1 0 ≡ count_by is_waiting states + cond (is_waiting new) 1 0
one_changed states i old new l e =
    ap (λ (s : MoveState). count_by is_waiting (set states i new) + cond (is_waiting s) 1 0) e
    ∙ sum_by-set (λ (s : MoveState). cond (is_waiting s) 1 0) states i new old l

-- one that waits is counted
pub counts_one : (states : List MoveState) (i : ℕ) (old : MoveState) → i < length states → old ≡ get_or states i old →
    cond (is_waiting old) 1 0 ≤ count_by is_waiting states
counts_one states i old l e = let changed = one_changed states i old Ready l e in omega (arith, changed)

pub few_wait : (states : List MoveState) (i : ℕ) (new : MoveState) → count_by is_waiting (set states i new) ≤ length states
few_wait states i new =
    omega (arith, count_by-le-length is_waiting (set states i new), length-set states i new)

none_first : (b : Bool) (n : ℕ) → cond b 1 0 + n ≡ 0 → b ≡ false
none_first true n e = absurd (omega (arith, e))
none_first false n e = refl

none_at : (states : List MoveState) (i : ℕ) → count_by is_waiting states ≡ 0 → is_waiting (get_or states i Ready) ≡ false
none_at [] i e = refl
none_at (s ∷ states) zero e =
    none_first (is_waiting s) (count_by is_waiting states)
    (sym (sum_by-cons (λ (x : MoveState). cond (is_waiting x) 1 0) s states) ∙ e)
none_at (s ∷ states) (suc i) e =
    let more = sum_by-cons (λ (x : MoveState). cond (is_waiting x) 1 0) s states in
    none_at states i (omega (arith, more, e))

none_counted : (n : ℕ) → nat_lt 0 n ≡ false → n ≡ 0
none_counted n e =
    ⊎_elim (λ (l : 0 < n). absurd (clash (lt-ltb 0 n l) e)) (λ (h : n ≤ 0). omega (arith, h)) (cases_lt 0 n)

pub none_waits : (t : Table) → some_waits t ≡ false → (i : ℕ) → is_waiting (state_at t i) ≡ false
none_waits t e i = none_at t.states i (none_counted (count_by is_waiting t.states) e)

pub none_again : (xs : List ℕ) (t : Table) → some_waits t ≡ false → fold tried_again t xs ≡ t
none_again [] t e = refl
none_again (i ∷ xs) t e =
    ap (λ (u : Table). fold tried_again u xs) (cond-false (is_waiting (state_at t i)) _ t (none_waits t e i))
    ∙ none_again xs t e

pub none_woken : (ys : List ℕ) (t : Table) → some_waits t ≡ false → fold (λ u y. woken y u) t ys ≡ t
none_woken [] t e = refl
none_woken (y ∷ ys) t e =
    ap (λ (u : Table). fold (λ v z. woken z v) u ys) (none_again (list_at t.touching y) t e) ∙ none_woken ys t e
