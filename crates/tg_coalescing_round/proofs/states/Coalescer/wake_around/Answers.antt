use Rattle.std.proofs.Common.{◌≡◌, ℕ, false, List, length, take, sym, ap, subst, ◌∙◌, arith}
use Rattle.std.specs.Prelude.{fold}
use Rattle.tg_graph.specs.Interference.{Interference, neighbours}
use Rattle.tg_coalescing_round.specs.declared.states.Coalescer.TheInside.{Inside}
use Rattle.tg_coalescing_round.specs.glue.Standing.{IsSized}
use Rattle.tg_coalescing_round.specs.glue.Tables.{Table, some_waits, woken}
use Rattle.tg_coalescing_round.specs.glue.ShownWork.{work_of}
use Rattle.tg_coalescing_round.specs.glue.Works.{awake_around}
use Rattle.tg_coalescing_round.proofs.Tabling.{all_woken_touching}
use Rattle.tg_coalescing_round.proofs.Waiting.{none_woken}
use Rattle.tg_coalescing_round.proofs.states.Coalescer.wake_around.Goals as goal

-- what woken moves leave as it was
woken_from : (i j : Inside) (n : ℕ) (xs : List ℕ) →
    j ≡ record i { moves = fold (λ t y. woken y t) i.moves (take n xs) } →
    j.moves.touching ≡ i.moves.touching
woken_from i j n xs e = ap (λ (s : Inside). s.moves.touching) e ∙ all_woken_touching (take n xs) i.moves

-- other moves of as many classes
sized_at : (i j : Inside) (t u : Table) → j ≡ record i { moves = u } → IsSized (work_of i) →
    length t.touching ≡ length i.moves.touching →
    IsSized (record (work_of j) { moves = t })
sized_at i j t u e k h = subst (λ (s : Inside). IsSized (record (work_of s) { moves = t })) (sym e) (record {
  lists = k.lists;
  degrees = k.degrees;
  classes = k.classes;
  touching = h ∙ k.touching;
})

pub invariant_of-self : goal.invariant_of-self
invariant_of-self c =
    let i = c.self.inside in
    let e = c.loop-place.invariant in
    let same = woken_from i c.loop-place.self-inside c.loop-place.place (neighbours i.graph c.args.node) e in
    sized_at i c.loop-place.self-inside c.loop-place.self-inside.moves _ e c.self.invariant (ap length same)

pub wake-requires : goal.wake-requires
wake-requires c =
    let i = c.self.inside in
    let e = c.loop-place.invariant in
    let same = ap length (woken_from i c.loop-place.self-inside c.loop-place.place (neighbours i.graph c.args.node) e) in
    let graph = ap (λ (s : Inside). s.graph) e in
    let nodes = ap (λ (g : Interference). g.nodes) graph in
    let long = ap length (c.neighbours.ensures.value ∙ ap (λ (g : Interference). neighbours g c.args.node) graph) in
    let below = c.neighbours.ensures.within c.loop-place.place 0
    (omega (arith, long, c.loop-place-test.true, c.degree-place-end.ensures.value)) in
    omega (arith, below, same, nodes, c.self.invariant.touching)

pub invariant_of-self-in_err-wake : goal.invariant_of-self-in_err-wake
invariant_of-self-in_err-wake c =
    let i = c.self.inside in
    let e = c.loop-place.invariant in
    let same = woken_from i c.loop-place.self-inside c.loop-place.place (neighbours i.graph c.args.node) e in
    sized_at i c.loop-place.self-inside c.wake.new.self _ e c.self.invariant (c.in_err-wake.ensures.sized ∙ ap length same)

pub returns-then-not-some_waits : goal.returns-then-not-some_waits
returns-then-not-some_waits c =
    let i = c.self.inside in
    let none : some_waits i.moves ≡ false = sym c.some_waits.ensures ∙ c.if-not-some_waits.true in
    let woken_none = none_woken (neighbours i.graph c.args.node) i.moves none in
    let same : work_of i ≡ awake_around c.args.node (work_of i) =
    ap (λ (t : Table). record (work_of i) { moves = t }) (sym woken_none) in
    sym c.self.view_is ∙ (same ∙ ap (awake_around c.args.node) c.self.view_is)
