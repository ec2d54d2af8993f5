use Rattle.std.proofs.Common.{◌≡◌, ℕ, ◌+◌, ◌<◌, List, [], ◌∷◌, length, set, refl, sym, ap, ◌∙◌, subst, arith}
use Rattle.std.specs.Vec.{with_items}
use Rattle.std.proofs.lemmas.List.{with_items_is}
use Rattle.tg_graph.specs.declared.worklists.Worklist.{Worklist}
use Rattle.tg_graph.specs.Lists.{Lists, lists_by, moved, number, without}
use Rattle.tg_graph.specs.glue.Chains.{Relinks, joined_to}
use Rattle.tg_graph.specs.glue.Linking.{AreLinked, list_from}
use Rattle.tg_graph.proofs.Moves.{after_move, linked_at, moved_by, settled, settled_linked}
use Rattle.tg_graph.proofs.worklists.Worklists.move_to.Goals as goal
use Rattle.tg_graph.proofs.worklists.Worklists.move_to.Goals.{After-link_last}

module _ (c : After-link_last) where
  nodes : c.args.node < c.self.inside.nodes
  nodes = omega (arith, ap (λ (v : Lists). v.nodes) c.self.view_is, c.requires)

  -- what is chained after each place, when the node is taken out and when it is put last
  unlinked_size : length c.unlink.new.next ≡ length c.self.inside.next.items
  unlinked_size = c.unlink.auto.next ∙ ap length c.deref_mut.ensures.value

  unlinked : c.deref_mut-3.result.now ≡ c.unlink.new.next
  unlinked =
      c.deref_mut-3.ensures.value
      ∙ with_items_is c.self.inside.next c.unlink.new.next (unlinked_size ∙ sym c.self.inside.next.ok.0)

  linked_size : length c.link_last.new.next ≡ length c.self.inside.next.items
  linked_size = c.link_last.auto.next ∙ (ap length unlinked ∙ unlinked_size)

  next_is : (with_items (with_items c.self.inside.next c.unlink.new.next) c.link_last.new.next).items ≡ c.link_last.new.next
  next_is =
      with_items_is (with_items c.self.inside.next c.unlink.new.next) c.link_last.new.next
      (linked_size ∙ sym c.self.inside.next.ok.0)

  linked : AreLinked c.self.inside.nodes c.link_last.new.next c.link_last.new.prev
      (set c.self.inside.places.items c.args.node c.args.list)
      (moved_by (list_from c.self.inside.nodes c.self.inside.next.items) c.args.node c.args.list)
  linked =
      let n = c.self.inside.nodes in
      let x = c.args.node in
      let next = c.self.inside.next.items in
      let middle = c.unlink.new.next in
      let last = c.link_last.new.next in
      let first : Relinks next middle n (λ xs _. without x xs) =
      subst (λ (zs : List ℕ). Relinks zs middle n (λ xs _. without x xs)) c.deref_mut.ensures.value
      (c.unlink.ensures.lists n nodes) in
      let second : Relinks middle last n (joined_to (n + number c.args.list) (x ∷ [])) =
      subst (λ (i : ℕ). Relinks middle last n (joined_to (n + i) (x ∷ []))) c.number.ensures.value
      (subst (λ (zs : List ℕ). Relinks zs last n (joined_to (n + c.number.result) (x ∷ []))) unlinked
      (c.link_last.ensures.lists n nodes (omega arith))) in
      after_move n x next middle last c.self.inside.prev.items c.link_last.new.prev c.self.inside.places.items
      (list_from n next) c.args.list c.self.invariant nodes unlinked_size linked_size first second
      c.link_last.ensures.inverse

pub invariant_of-self : goal.invariant_of-self
invariant_of-self c =
    let then = (goal.at.invariant_of-self c).After-link_last in
    let n = c.self.inside.nodes in
    let prev = c.self.inside.prev in
    let before : length c.unlink.new.prev ≡ prev.len = c.unlink.auto.prev
    ∙ (ap length c.deref_mut-2.ensures.value ∙ sym prev.ok.0) in
    let back : c.deref_mut-4.result.now ≡ c.unlink.new.prev = c.deref_mut-4.ensures.value
    ∙ with_items_is prev c.unlink.new.prev before in
    let after : length c.link_last.new.prev ≡ prev.len = c.link_last.auto.prev ∙ (ap length back ∙ before) in
    linked_at n _ _ _ _ _ _ (sym (next_is then))
    (sym (with_items_is (with_items prev c.unlink.new.prev) c.link_last.new.prev after)) refl
    (settled_linked n c.link_last.new.next c.link_last.new.prev (set c.self.inside.places.items c.args.node c.args.list)
    (moved_by (list_from n c.self.inside.next.items) c.args.node c.args.list) (linked then))

pub returns : goal.returns
returns c =
    let then = (goal.at.returns c).After-link_last in
    let n = c.self.inside.nodes in
    let f = list_from n c.self.inside.next.items in
    let found : list_from n c.link_last.new.next ≡ moved_by f c.args.node c.args.list =
    settled n c.link_last.new.next c.link_last.new.prev (set c.self.inside.places.items c.args.node c.args.list)
    (moved_by f c.args.node c.args.list) (linked then) in
    ap (λ (zs : List ℕ). lists_by n (list_from n zs)) (next_is then)
    ∙ (ap (λ (g : Worklist → List ℕ). lists_by n g) found
    ∙ ap (λ (v : Lists). moved v c.args.node c.args.list) c.self.view_is)
