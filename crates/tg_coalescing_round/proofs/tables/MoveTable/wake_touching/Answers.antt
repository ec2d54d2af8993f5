use Rattle.std.proofs.Common.{◌≡◌, ℕ, List, length, get_or, take, sym, ap, ◌∙◌, arith}
use Rattle.std.specs.Prelude.{fold}
use Rattle.std.proofs.lemmas.List.Sums.{fold_more}
use Rattle.tg_coalescing_round.specs.glue.Lists.{list_at}
use Rattle.tg_coalescing_round.specs.glue.Tables.{Table, tried_again}
use Rattle.tg_coalescing_round.proofs.Tabling.{all_again_touching}
use Rattle.tg_coalescing_round.proofs.tables.MoveTable.wake_touching.Goals as goal

same_touching : (t u : Table) (n : ℕ) (xs : List ℕ) → t ≡ fold tried_again u (take n xs) → t.touching ≡ u.touching
same_touching t u n xs e = ap (λ (v : Table). v.touching) e ∙ all_again_touching (take n xs) u

pub touching-requires : goal.touching-requires
touching-requires c =
    let same = ap length (same_touching c.loop-place.self c.args.self.now c.loop-place.place (list_at c.args.self.now.touching c.args.class)
    c.loop-place.invariant) in
    omega (arith, same, c.requires)

pub bounds-touching-place : goal.bounds-touching-place
bounds-touching-place c =
    let same = same_touching c.loop-place.self c.args.self.now c.loop-place.place (list_at c.args.self.now.touching c.args.class)
    c.loop-place.invariant in
    let places = ap length (c.touching.ensures.value
    ∙ (ap (λ (ts : List (List ℕ)). list_at ts c.args.class) same ∙ sym c.touching-place-end.ensures.value)) in
    omega (arith, places, c.loop-place-test.true)

pub try_again-requires : goal.try_again-requires
try_again-requires c =
    let same = same_touching c.loop-place.self c.args.self.now c.loop-place.place (list_at c.args.self.now.touching c.args.class)
    c.loop-place.invariant in
    let places = ap length (c.touching.ensures.value
    ∙ (ap (λ (ts : List (List ℕ)). list_at ts c.args.class) same ∙ sym c.touching-place-end.ensures.value)) in
    c.touching.ensures.within c.loop-place.place 0 (omega (arith, places, c.loop-place-test.true))

pub returns-in_err-try_again-clause-sized : goal.returns-in_err-try_again-clause-sized
returns-in_err-try_again-clause-sized c =
    ap (λ (t : Table). length t.touching) c.in_err-try_again.ensures.err
    ∙ ap length (same_touching c.loop-place.self c.args.self.now c.loop-place.place (list_at c.args.self.now.touching c.args.class)
    c.loop-place.invariant)

pub loop-place-preserved : goal.loop-place-preserved
loop-place-preserved c =
    let t = c.args.self.now in
    let places = list_at t.touching c.args.class in
    let n = c.loop-place.place in
    let same = same_touching c.loop-place.self t n places c.loop-place.invariant in
    let read = c.touching.ensures.value ∙ ap (λ (ts : List (List ℕ)). list_at ts c.args.class) same in
    let long = ap length c.touching-place-end.ensures.value in
    c.in_ok-try_again.ensures.ok
    ∙ (ap (λ (xs : List ℕ). tried_again c.loop-place.self (get_or xs n 0)) read
    ∙ (ap (λ (u : Table). tried_again u (get_or places n 0)) c.loop-place.invariant
    ∙ sym (fold_more tried_again t places n 0 (omega (arith, long, c.loop-place-test.true)))))

pub returns-clause-sized : goal.returns-clause-sized
returns-clause-sized c = ap length (same_touching c.loop-place.self c.args.self.now c.loop-place.place (list_at c.args.self.now.touching c.args.class)
    c.loop-place.invariant)
