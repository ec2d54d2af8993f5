use Rattle.std.proofs.Common.{◌≡◌, ℕ, suc, ◌+◌, ◌-◌, List, [], ◌∷◌, slice_index, sym, ap, ◌∙◌, subst, arith}
use Rattle.std.specs.List.{range_with_len}
use Rattle.tg_graph.specs.glue.Chains.{LeadsAlong, joined_to}
use Rattle.tg_graph.proofs.Runs.{joined_more, joined_none}
use Rattle.tg_graph.proofs.chains.link_range.Goals as goal

at_lists : (new : List ℕ) (n end y : ℕ) (xs ys : List ℕ) → xs ≡ ys → LeadsAlong (slice_index new) n y xs end →
    LeadsAlong (slice_index new) n y ys end
at_lists new n end y xs ys p r = subst (λ (vs : List ℕ). LeadsAlong (slice_index new) n y vs end) p r

pub loop-node-init : goal.loop-node-init
loop-node-init c = record {
  inverse = c.requires.inverse;
  alone = c.requires.alone;
  others = λ y h k e. e;
  lists = λ n h k e xs o m r.
      let z : c.args.from - c.args.from ≡ 0 = omega arith in
      at_lists c.args.next.now n e _ _ _
      (sym (ap (λ j. joined_to c.args.end (range_with_len c.args.from j) xs e) z ∙ joined_none c.args.end xs e)) r;
}

pub link_last-requires-clause-inverse : goal.link_last-requires-clause-inverse
link_last-requires-clause-inverse c = c.loop-node.invariant.inverse

pub link_last-requires-clause-alone : goal.link_last-requires-clause-alone
link_last-requires-clause-alone c = c.loop-node.invariant.alone c.loop-node.node (omega arith) (omega arith)

pub loop-node-preserved : goal.loop-node-preserved
loop-node-preserved c = record {
  inverse = c.link_last.ensures.inverse;
  alone = λ y h k.
      c.link_last.ensures.others y (omega (arith, k)) (λ p. omega (arith, p, h))
      (c.loop-node.invariant.alone y (omega (arith, h)) k);
  others = λ y h k e.
      c.link_last.ensures.others y k (λ p. omega (arith, p, h)) (c.loop-node.invariant.others y h k e);
  lists = λ n h k e xs o m r.
      let a = c.args.from in
      let j = c.loop-node.node - c.args.from in
      let there : a + j ≡ c.loop-node.node = omega arith in
      let more : suc j ≡ c.loop-node.node + 1 - a = omega arith in
      let so_far = c.loop-node.invariant.lists n h k e xs o m r in
      at_lists c.link_last.new.next n e _ _ _
      (ap (λ v. joined_to c.args.end (v ∷ []) (joined_to c.args.end (range_with_len a j) xs e) e) (sym there)
      ∙ (joined_more c.args.end a j xs e ∙ ap (λ i. joined_to c.args.end (range_with_len a i) xs e) more))
      (c.link_last.ensures.lists n (omega (arith, h)) k e (joined_to c.args.end (range_with_len a j) xs e) o
      (omega (arith, m, c.loop-node.auto.next)) so_far);
}

pub returns-clause-inverse : goal.returns-clause-inverse
returns-clause-inverse c = c.loop-node.invariant.inverse

pub returns-clause-others : goal.returns-clause-others
returns-clause-others c = c.loop-node.invariant.others

pub returns-clause-lists : goal.returns-clause-lists
returns-clause-lists c = λ n h k e xs o m r.
    let all : c.loop-node.node ≡ c.args.to = omega arith in
    at_lists c.loop-node.next n e _ _ _
    (ap (λ i. joined_to c.args.end (range_with_len c.args.from (i - c.args.from)) xs e) all)
    (c.loop-node.invariant.lists n h k e xs o m r)
