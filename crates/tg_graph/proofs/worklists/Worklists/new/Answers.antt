use Rattle.std.proofs.Common.{◌≡◌, ℕ, ◌+◌, ◌-◌, ◌≤◌, List, ◌++◌, length, get_or, replicate, take, sym, ap, ◌∙◌, subst, rules, arith}
use Rattle.std.specs.List.{range_with_len}
use Rattle.std.specs.Vec.{with_items}
use Rattle.std.proofs.lemmas.List.{with_items_is, take_all, length-replicate}
use Rattle.std.proofs.lemmas.List.FromFn.{length-range_with_len}
use Rattle.tg_graph.specs.declared.worklists.Worklist.{Worklist}
use Rattle.tg_graph.specs.declared.worklists.Worklist.TheVariants.{Fixed, Spill}
use Rattle.tg_graph.specs.Lists.{lists_by, started_in}
use Rattle.tg_graph.specs.glue.Chains.{AreInverse, Relinks, joined_to}
use Rattle.tg_graph.specs.glue.Linking.{AreLinked, list_from}
use Rattle.tg_graph.proofs.Moves.{identity_inverse, itself, linked_at, settled, settled_linked, start_linked, start_places}
use Rattle.tg_graph.proofs.worklists.Worklists.new.Goals as goal
use Rattle.tg_graph.proofs.worklists.Worklists.new.Goals.{After-link_range-2}

inverse_at : (xs ys zs : List ℕ) → xs ≡ zs → ys ≡ zs → AreInverse zs zs → AreInverse xs ys
inverse_at xs ys zs p q i =
    subst (λ (us : List ℕ). AreInverse us ys) (sym p) (subst (λ (us : List ℕ). AreInverse zs us) (sym q) i)

places_at : (n m : ℕ) (places new : List Worklist) → 25 ≤ n → m ≡ 25 → places ≡ replicate {A = Worklist} 25 Fixed →
    new ≡ take n places ++ replicate {A = Worklist} (n - m) Spill → new ≡ start_places n
places_at n m places new h e p q =
    q
    ∙ (ap (λ (ps : List Worklist). take n ps ++ replicate {A = Worklist} (n - m) Spill) p
    ∙ (ap (λ (k : ℕ). take n (replicate {A = Worklist} 25 Fixed) ++ replicate {A = Worklist} (n - k) Spill) e
    ∙ ap (λ (ps : List Worklist). ps ++ replicate {A = Worklist} (n - 25) Spill)
    (take_all n (replicate {A = Worklist} 25 Fixed) (omega (arith, h, length-replicate {A = Worklist} 25 Fixed)))))

pub link_range-requires-clause-inverse : goal.link_range-requires-clause-inverse
link_range-requires-clause-inverse c =
    inverse_at _ _ _ (c.deref_mut.ensures.value ∙ c.in_ok-next.ensures) (c.deref_mut-2.ensures.value
    ∙ c.in_ok-prev.ensures)
    (identity_inverse (c.args.nodes + 6))

pub link_range-requires-clause-within : goal.link_range-requires-clause-within
link_range-requires-clause-within c =
    let size = ap length (c.deref_mut.ensures.value ∙ c.in_ok-next.ensures)
    ∙ length-range_with_len 0 (c.args.nodes + 6) in
    omega (arith, size, c.number.ensures.fits)

pub link_range-requires-clause-alone : goal.link_range-requires-clause-alone
link_range-requires-clause-alone c = λ y h k.
    ap (λ (xs : List ℕ). get_or xs y 0) (c.deref_mut.ensures.value ∙ c.in_ok-next.ensures)
    ∙ itself (c.args.nodes + 6) y (omega (arith, k, c.requires.low))

pub link_range-requires-2-clause-within : goal.link_range-requires-2-clause-within
link_range-requires-2-clause-within c =
    let size = ap length (c.deref_mut.ensures.value ∙ c.in_ok-next.ensures)
    ∙ length-range_with_len 0 (c.args.nodes + 6) in
    let same : length c.link_range.new.next ≡ c.in_ok-next.next.len =
    c.link_range.auto.next ∙ (ap length c.deref_mut.ensures.value ∙ sym c.in_ok-next.next.ok.0) in
    let back = ap length (c.deref_mut-3.ensures.value ∙ with_items_is c.in_ok-next.next c.link_range.new.next same) in
    omega (arith, size, back, c.link_range.auto.next, c.number-2.ensures.fits)

pub link_range-requires-2-clause-alone : goal.link_range-requires-2-clause-alone
link_range-requires-2-clause-alone c = λ y h k.
    let same : length c.link_range.new.next ≡ c.in_ok-next.next.len =
    c.link_range.auto.next ∙ (ap length c.deref_mut.ensures.value ∙ sym c.in_ok-next.next.ok.0) in
    let before : get_or c.deref_mut.result.now y 0 ≡ y =
    ap (λ (xs : List ℕ). get_or xs y 0) (c.deref_mut.ensures.value ∙ c.in_ok-next.ensures)
    ∙ itself (c.args.nodes + 6) y (omega (arith, k)) in
    ap (λ (xs : List ℕ). get_or xs y 0) (c.deref_mut-3.ensures.value
    ∙ with_items_is c.in_ok-next.next c.link_range.new.next same)
    ∙ c.link_range.ensures.others y h (omega (arith, k)) before

module _ (c : After-link_range-2) where
  start : c.deref_mut.result.now ≡ range_with_len 0 (c.args.nodes + 6)
  start = c.deref_mut.ensures.value ∙ c.in_ok-next.ensures

  long : c.in_ok-next.next.len ≡ c.args.nodes + 6
  long =
      c.in_ok-next.next.ok.0 ∙ (ap length c.in_ok-next.ensures ∙ length-range_with_len 0 (c.args.nodes + 6))

  -- what is chained after each place, when the registers are put into their list and when all nodes are
  second_size : length c.link_range.new.next ≡ c.in_ok-next.next.len
  second_size = c.link_range.auto.next ∙ (ap length c.deref_mut.ensures.value ∙ sym c.in_ok-next.next.ok.0)

  second : c.deref_mut-3.result.now ≡ c.link_range.new.next
  second = c.deref_mut-3.ensures.value ∙ with_items_is c.in_ok-next.next c.link_range.new.next second_size

  third_size : length c.link_range-2.new.next ≡ c.in_ok-next.next.len
  third_size = c.link_range-2.auto.next ∙ (ap length second ∙ second_size)

  next_is : (with_items (with_items c.in_ok-next.next c.link_range.new.next) c.link_range-2.new.next).items
      ≡ c.link_range-2.new.next
  next_is = with_items_is (with_items c.in_ok-next.next c.link_range.new.next) c.link_range-2.new.next third_size

  linked : AreLinked c.args.nodes c.link_range-2.new.next c.link_range-2.new.prev (start_places c.args.nodes)
      (started_in c.args.nodes)
  linked =
      let n = c.args.nodes in
      let middle = c.link_range.new.next in
      let last = c.link_range-2.new.next in
      let registers : Relinks (range_with_len 0 (n + 6)) middle n (joined_to (n + 0) (range_with_len 0 25)) =
      subst (λ (i : ℕ). Relinks (range_with_len 0 (n + 6)) middle n
      (joined_to (n + i) (range_with_len 0 25))) c.number.ensures.value
      (subst (λ (xs : List ℕ). Relinks xs middle n (joined_to (n + c.number.result) (range_with_len 0 25))) start
      (c.link_range.ensures.lists n c.requires.low (omega arith))) in
      let temporaries : Relinks middle last n (joined_to (n + 3) (range_with_len 25 (n - 25))) =
      subst (λ (i : ℕ). Relinks middle last n (joined_to (n + i) (range_with_len 25 (n - 25)))) c.number-2.ensures.value
      (subst (λ (xs : List ℕ). Relinks xs last n (joined_to (n + c.number-2.result) (range_with_len 25 (n - 25)))) second
      (c.link_range-2.ensures.lists n (omega arith) (omega arith))) in
      start_linked n middle last c.link_range-2.new.prev c.requires.low c.requires.high (second_size ∙ long)
      (third_size ∙ long) registers temporaries c.link_range-2.ensures.inverse

pub invariant_of-result : goal.invariant_of-result
invariant_of-result c =
    let then = (goal.at.invariant_of-result c).After-link_range-2 in
    let n = c.args.nodes in
    let prev = c.in_ok-prev.prev in
    let before : length c.link_range.new.prev ≡ prev.len = c.link_range.auto.prev
    ∙ (ap length c.deref_mut-2.ensures.value ∙ sym prev.ok.0) in
    let back : c.deref_mut-4.result.now ≡ c.link_range.new.prev = c.deref_mut-4.ensures.value
    ∙ with_items_is prev c.link_range.new.prev before in
    let after : length c.link_range-2.new.prev ≡ prev.len = c.link_range-2.auto.prev ∙ (ap length back ∙ before) in
    let places : c.resize.new.self.items ≡ start_places n =
    places_at n c.in_ok-places.places.len c.in_ok-places.places.items c.resize.new.self.items
    c.requires.low c.in_ok-places.ensures.len
    (c.in_ok-places.ensures.items_if_clones_equal (λ y h. search rules)) c.in_ok-resize.ensures.items in
    linked_at n _ _ _ _ _ _ (sym (next_is then))
    (sym (with_items_is (with_items prev c.link_range.new.prev) c.link_range-2.new.prev after))
    (sym places)
    (settled_linked n c.link_range-2.new.next c.link_range-2.new.prev (start_places n) (started_in n) (linked then))

pub returns : goal.returns
returns c =
    let then = (goal.at.returns c).After-link_range-2 in
    let n = c.args.nodes in
    ap (λ (zs : List ℕ). lists_by n (list_from n zs)) (next_is then)
    ∙ ap (λ (g : Worklist → List ℕ). lists_by n g)
    (settled n c.link_range-2.new.next c.link_range-2.new.prev (start_places n) (started_in n) (linked then))
