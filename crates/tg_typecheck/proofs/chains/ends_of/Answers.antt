use Rattle.std.proofs.Common.{◌≡◌, ◌+◌, ◌/◌, length, map, sym, ap, subst, ◌∙◌, arith}
use Rattle.std.specs.List.{All}
use Rattle.std.proofs.lemmas.List.{length-map}
use Rattle.tg_syntax.specs.glue.Plain.{plain_type}
use Rattle.tg_typecheck.specs.glue.Declaring.{ChainWithin}
use Rattle.tg_typecheck.proofs.ChainSteps.{Squares, squares_begin, squares_odd, squares_even, squares_final, after_none, links_many, leads_all}
use Rattle.tg_typecheck.proofs.ChainSteps.{may_multiply, may_square, composed_is, chains_are, ends_within}
use Rattle.tg_typecheck.proofs.chains.ends_of.Goals.{then-count-eq1+in_ok-ends-2, else-count-eq1}
use Rattle.tg_typecheck.proofs.chains.ends_of.Goals as goal

pub loop-count-init : goal.loop-count-init
loop-count-init c =
    let whole = map plain_type c.args.group.now in
    let many : length c.in_ok-links.links.items ≡ length c.args.group.now = ap length c.in_ok-links.ensures.links
    ∙ (links_many whole 0 whole ∙ length-map c.args.group.now plain_type) in
    squares_begin _ _ _ (sym many) (after_none _ _ (c.in_ok-ends.ensures.as_many ∙ sym many)
    (λ k d h. c.in_ok-ends.ensures.each k d (omega (arith, h, many))))

pub composed-requires : goal.composed-requires
composed-requires c =
    may_multiply _ _ _ _ _ _ c.loop-count.invariant (leads_all (map plain_type c.args.group.now) _ c.in_ok-links.ensures.links) c.deref.ensures.value
    c.deref-then-count-eq1.ensures.value

pub composed-requires-in-loop-count : goal.composed-requires-in-loop-count
composed-requires-in-loop-count c =
    may_square _ _ _ _ _ _ c.loop-count.invariant (leads_all (map plain_type c.args.group.now) _ c.in_ok-links.ensures.links)
    c.deref-in-loop-count.ensures.value c.deref-in-loop-count-2.ensures.value

pub loop-count-preserved : goal.loop-count-preserved
loop-count-preserved c =
    let half = c.loop-count.count / 2 in
    let leads = leads_all (map plain_type c.args.group.now) c.in_ok-links.links.items c.in_ok-links.ensures.links in
    let squared = composed_is _ _ _ _ _ c.deref-in-loop-count.ensures.value c.deref-in-loop-count-2.ensures.value c.in_ok-links-2.ensures in
    elim c.if-count-eq1.branch as (λ _. Squares c.in_ok-links.links.items c.if-count-eq1.ends.items c.in_ok-links-2.links.items half) [
      | then-count-eq1+in_ok-ends-2 w ↦
          let e : c.loop-count.count ≡ half + half + 1 = omega (arith, w.if-count-eq1.true) in
          squares_odd _ _ _ _ _ _ _ c.loop-count.invariant e leads
          (ap (λ v. v.items) w.ends-is ∙ composed_is _ _ _ _ _ w.deref.ensures.value w.deref-then-count-eq1.ensures.value w.in_ok-ends-2.ensures) squared
      | else-count-eq1 w ↦
          let e : c.loop-count.count ≡ half + half = omega (arith, w.if-count-eq1.false) in
          subst (λ v. Squares c.in_ok-links.links.items v.items c.in_ok-links-2.links.items half) (sym w.ends-is)
          (squares_even _ _ _ _ _ _ c.loop-count.invariant e leads squared)
    ]

pub returns-clause-chains : goal.returns-clause-chains
returns-clause-chains c =
    let whole = map plain_type c.args.group.now in
    chains_are whole _ c.requires.different (squares_final whole _ _ _ _ c.in_ok-links.ensures.links c.loop-count.invariant c.loop-count-test.false)

pub returns-clause-within : goal.returns-clause-within
returns-clause-within c = λ n t.
    let whole = map plain_type c.args.group.now in
    ends_within whole n _ (squares_final whole _ _ _ _ c.in_ok-links.ensures.links c.loop-count.invariant c.loop-count-test.false)
    (subst (λ l. All (ChainWithin n whole) l) c.in_ok-links.ensures.links (c.in_ok-links.ensures.within n t))

pub returns-clause-as_many : goal.returns-clause-as_many
returns-clause-as_many c =
    let whole = map plain_type c.args.group.now in
    (squares_final whole _ _ _ _ c.in_ok-links.ensures.links c.loop-count.invariant c.loop-count-test.false).as_many
    ∙ (links_many whole 0 whole ∙ length-map c.args.group.now plain_type)
