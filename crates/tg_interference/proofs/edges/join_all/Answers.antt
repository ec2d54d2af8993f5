use Rattle.std.proofs.Common.{rules, ◌≡◌, suc, ◌-◌, ◌+◌, ◌||◌, Bool, false, replicate, List, length, sym, ap, ◌∙◌, subst, arith}
use Rattle.std.specs.List.{list_all}
use Rattle.std.proofs.lemmas.List.{length-replicate}
use Rattle.tg_instr.specs.declared.instr.Instr.{Instr}
use Rattle.tg_instr.specs.Codes.{has_temps_below, is_below}
use Rattle.tg_interference.proofs.Operands.{all_read}
use Rattle.tg_interference.proofs.Alive.{live_below}
use Rattle.tg_interference.proofs.Joining.{joined_more}
use Rattle.tg_live.specs.glue.LiveChanges.{set_before}
use Rattle.tg_interference.specs.glue.Crossing.{HaveCrossed}
use Rattle.tg_interference.proofs.Marking.{none_crossed}
use Rattle.tg_graph.specs.Interference.{Interference, interferes}
use Rattle.tg_interference.proofs.Interfering.{are_registers, joined_below, joined_step, interference_of}
use Rattle.tg_interference.proofs.edges.join_all.Goals as goal

pub advance-requires-clause-at : goal.advance-requires-clause-at
advance-requires-clause-at c =
    let size : length c.args.live.now ≡ length c.as_slice-list.result.now =
    c.requires.live.size ∙ ap (λ (l : List Instr). length l) (sym c.as_slice-list.ensures) in
    omega (arith, size, c.loop-at-test.true)

pub advance-requires-clause-before : goal.advance-requires-clause-before
advance-requires-clause-before c = c.loop-at.invariant.behind

pub join_behind-requires-clause-temps : goal.join_behind-requires-clause-temps
join_behind-requires-clause-temps c =
    let code = c.args.code.now in
    let temps : c.loop-at.graph.nodes - 25 ≡ code.temps = omega (arith, c.loop-at.invariant.nodes) in
    ap (λ n. has_temps_below n c.index-list-at.result) temps
    ∙ all_read (has_temps_below code.temps) c.as_slice-list.result.now c.loop-at.at c.index-list-at.result
    c.loop-at-test.true c.index-list-at.is
    (ap (list_all (has_temps_below code.temps)) c.as_slice-list.ensures ∙ code.temps_below)

pub join_behind-requires-clause-live : goal.join_behind-requires-clause-live
join_behind-requires-clause-live c =
    let code = c.args.code.now in
    let temps : c.loop-at.graph.nodes - 25 ≡ code.temps = omega (arith, c.loop-at.invariant.nodes) in
    ap (λ n. list_all (is_below n) c.as_slice-lives.result.now) temps
    ∙ (ap (list_all (is_below code.temps)) (c.as_slice-lives.ensures.value ∙ c.in_ok-advance.ensures)
    ∙ live_below code.temps code.list c.args.live.now c.requires.live code.temps_below c.loop-at.at)

pub loop-at-init : goal.loop-at-init
loop-at-init c =
    let n = 25 + c.args.code.now.temps in
    let none : c.in_ok-marks.marks.items ≡ replicate n false =
    c.in_ok-marks.ensures.items_if_clones_equal (λ y h. search rules) in
    let all = c.as_mut_slice-crossed.ensures.value ∙ none in
    record {
      nodes = ap (λ (g : Interference). g.nodes) c.requires.bare;
      pairs = λ x y. ap (λ (g : Interference). interferes g x y) c.requires.bare
          ∙ c.registers_interfere.ensures n x y;
      behind = c.new-behind.ensures.items;
      sized = ap (λ (marks : List Bool). length marks) all ∙ length-replicate n false;
      crossed = subst (λ (marks : List Bool). HaveCrossed marks c.args.graph.now) (sym all)
          (none_crossed n c.args.graph.now);
    }

pub loop-at-preserved : goal.loop-at-preserved
loop-at-preserved c = record {
  nodes = c.in_ok-join_behind.ensures.nodes ∙ c.loop-at.invariant.nodes;
  pairs = λ x y. joined_more _ _ _ _ _ _ (c.in_ok-join_behind.ensures.pairs x y) (c.loop-at.invariant.pairs x y)
      (joined_step c.as_slice-list.result.now c.args.live.now c.loop-at.at c.index-list-at.result
      c.as_slice-lives.result.now x y c.loop-at-test.true c.index-list-at.is (c.as_slice-lives.ensures.value ∙ c.in_ok-advance.ensures));
  sized = c.join_behind.ensures.sized ∙ c.loop-at.invariant.sized;
  crossed = c.in_ok-join_behind.ensures.crossed;
  behind = let next : c.loop-at.at + 1 ≡ suc c.loop-at.at = omega arith in
      c.in_ok-advance.ensures ∙ sym (ap (set_before c.args.live.now) next);
}

pub returns : goal.returns
returns c =
    let code = c.args.code.now in
    let list = c.as_slice-list.result.now in
    let live = c.args.live.now in
    let at : c.loop-at.at ≡ length list = omega arith in
    interference_of code.list live c.requires.live code.temps c.loop-at.graph c.loop-at.invariant.nodes
    (λ x y. c.loop-at.invariant.pairs x y
    ∙ (ap (λ n. joined_below list live n x y || are_registers x y) at
    ∙ ap (λ (l : List Instr). joined_below l live (length l) x y || are_registers x y) c.as_slice-list.ensures))
