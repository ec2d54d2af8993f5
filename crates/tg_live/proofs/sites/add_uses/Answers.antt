use Rattle.std.proofs.Common.{◌≡◌, ℕ, ◌+◌, true, List, length, get_or, drop, refl, sym, ap, ◌∙◌, arith}
use Rattle.std.proofs.lemmas.List.{drop_all, take_all}
use Rattle.std.specs.List.{list_all}
use Rattle.tg_instr.specs.declared.instr.Instr.{Instr}
use Rattle.tg_instr.specs.declared.operands.Opnd.{Opnd}
use Rattle.tg_instr.specs.Codes.{is_below}
use Rattle.tg_instr.specs.Uses.{uses_of}
use Rattle.tg_live.specs.Live.{is_proper}
use Rattle.tg_live.specs.glue.Tables.{add_to, numbers_of, push_at}
use Rattle.tg_live.proofs.Numbers.{number_below}
use Rattle.tg_live.proofs.Places.{add_uses_more, all_at, numbers_at, proper_more, uses_at_is, uses_below}
use Rattle.tg_live.proofs.Turned.{length-push_at}
use Rattle.tg_live.proofs.sites.add_uses.Goals as goal

pub loop-one-init : goal.loop-one-init
loop-one-init c = record { added = refl; size = c.requires.size; proper = refl }

pub push-requires : goal.push-requires
push-requires c =
    let list = c.as_slice-one-items.result.now in
    let all_below : list_all (is_below c.args.temps) list ≡ true =
    ap (list_all (is_below c.args.temps)) (c.as_slice-one-items.ensures ∙ (c.uses-uses.ensures ∙ ap uses_of c.index-list-at.is))
    ∙ uses_below c.args.temps c.args.list.now c.args.at c.index-list-at.result c.requires.at c.requires.below in
    let below : is_below c.args.temps c.one-item.result ≡ true =
    ap (is_below c.args.temps) c.one-item.is ∙ all_at (is_below c.args.temps) list c.loop-one.one-index c.one-item.result c.loop-one-test.true all_below in
    let number = number_below c.args.temps c.one-item.result c.number_of.ensures.proper below in
    omega (arith, number, c.number_of.ensures.number, c.loop-one.invariant.size)

pub loop-one-preserved : goal.loop-one-preserved
loop-one-preserved c =
    let list : List Opnd = c.as_slice-one-items.result.now in
    let i : ℕ = c.loop-one.one-index in
    let before = c.loop-one.sites in
    record {
      added =
          ap (add_to c.args.at (numbers_of (drop (i + 1) list))) (c.in_ok-push.ensures
          ∙ ap (λ k. push_at before k c.args.at) c.number_of.ensures.number)
          ∙ (sym (add_uses_more c.args.at list i c.one-item.result before c.loop-one-test.true c.one-item.is)
          ∙ c.loop-one.invariant.added);
      size = ap length c.in_ok-push.ensures ∙ (length-push_at before c.number_of.result c.args.at
          ∙ c.loop-one.invariant.size);
      proper = proper_more list i c.one-item.result c.loop-one-test.true c.one-item.is c.loop-one.invariant.proper
          c.number_of.ensures.proper;
    }

-- what was read is what the instruction uses
listed : (list : List Opnd) (one : Instr) (all : List Instr) (at : ℕ) → list ≡ uses_of one → one ≡ get_or all at one →
    list ≡ uses_of (get_or all at one)
listed list one all at e f = e ∙ ap uses_of f

pub returns-clause-added : goal.returns-clause-added
returns-clause-added c =
    let list = c.as_slice-one-items.result.now in
    let all = c.args.list.now in
    let at = c.args.at in
    sym (ap (λ rest. add_to at (numbers_of rest) c.loop-one.sites) (drop_all c.loop-one.one-index list c.loop-one-test.false))
    ∙ (c.loop-one.invariant.added
    ∙ ap (λ rows. add_to at rows c.args.sites.now)
    (ap numbers_of (listed list c.index-list-at.result all at (c.as_slice-one-items.ensures ∙ c.uses-uses.ensures) c.index-list-at.is)
    ∙ sym (numbers_at all at c.index-list-at.result c.requires.at)))

pub returns-clause-proper : goal.returns-clause-proper
returns-clause-proper c =
    let list = c.as_slice-one-items.result.now in
    let all = c.args.list.now in
    let at = c.args.at in
    ap (list_all is_proper) (uses_at_is all at c.index-list-at.result c.requires.at
    ∙ sym (listed list c.index-list-at.result all at (c.as_slice-one-items.ensures ∙ c.uses-uses.ensures) c.index-list-at.is)
    ∙ sym (take_all c.loop-one.one-index list c.loop-one-test.false))
    ∙ c.loop-one.invariant.proper
