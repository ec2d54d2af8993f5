use Rattle.std.proofs.Common.{◌-◌, ◌||◌, ℕ, List, refl, ap, ◌∙◌, sym}
use Rattle.std.specs.List.{list_all}
use Rattle.tg_instr.specs.declared.operands.Opnd.{Opnd}
use Rattle.tg_instr.specs.Codes.{is_below}
use Rattle.tg_instr.specs.Shapes.{shape}
use Rattle.tg_graph.specs.Interference.{interferes}
use Rattle.tg_interference.specs.Pairs.{has}
use Rattle.tg_interference.proofs.Joining.{on_ok}
use Rattle.tg_interference.proofs.Marking.{calls_join, call_joins, first_joins, now_crossed, still_crossed}
use Rattle.tg_interference.proofs.edges.join_behind.Goals as goal

pub join_definitions-requires-clause-live : goal.join_definitions-requires-clause-live
join_definitions-requires-clause-live c =
    ap (list_all (is_below (c.args.graph.now.nodes - 25))) c.as_slice.ensures.value
    ∙ (ap (λ n. list_all (is_below (n - 25)) c.in_ok-first-in-Call.first.items) (sym c.requires.sized)
    ∙ c.in_ok-first-in-Call.ensures.below)

-- what the call joins to what is live, in place of the first crossings
pub returns-in_ok-first-in-Call-clause-pairs : goal.returns-in_ok-first-in-Call-clause-pairs
returns-in_ok-first-in-Call-clause-pairs c =
    let old = c.args.graph.now in
    let first = c.in_ok-first-in-Call.first.items in
    let call = ap shape c.in-Call.is in
    let calls : (list : List Opnd) (x y : ℕ) → _ = λ list. call_joins c.args.one.now _ call (has list) in
    on_ok c.join_definitions.result (λ h. λ x y. h x y
    ∙ (ap (λ b. b || interferes old x y)
    (calls c.as_slice.result.now x y ∙ ap (λ list. calls_join (has list) x y) c.as_slice.ensures.value)
    ∙ (first_joins c.args.crossed.now c.mark_crossing.new.crossed c.args.live.now first old c.requires.crossed
    c.in_ok-first-in-Call.ensures.marked c.in_ok-first-in-Call.ensures.first x y
    ∙ sym (ap (λ b. b || interferes old x y) (calls c.args.live.now x y))))) c.join_definitions.ensures.pairs

pub returns-in_ok-first-in-Call-clause-crossed : goal.returns-in_ok-first-in-Call-clause-crossed
returns-in_ok-first-in-Call-clause-crossed c =
    let old = c.args.graph.now in
    let first = c.in_ok-first-in-Call.first.items in
    let call = ap shape c.in-Call.is in
    on_ok c.join_definitions.result
    (λ h. now_crossed c.args.crossed.now c.mark_crossing.new.crossed c.args.live.now first old c.requires.crossed
    c.in_ok-first-in-Call.ensures.marked c.join_definitions.new.graph
    (λ x y. h x y ∙ ap (λ b. b || interferes old x y)
    (call_joins c.args.one.now _ call (has c.args.live.now) x y))) (returns-in_ok-first-in-Call-clause-pairs c)

pub returns-in_default : goal.returns-in_default
returns-in_default c = record {
  nodes = c.join_definitions-in_default.ensures.nodes;
  pairs = c.join_definitions-in_default.ensures.pairs;
  sized = refl;
  crossed = on_ok c.join_definitions-in_default.result
      (λ h. still_crossed c.args.crossed.now c.args.graph.now c.join_definitions-in_default.new.graph _
      c.requires.crossed h) c.join_definitions-in_default.ensures.pairs;
}
