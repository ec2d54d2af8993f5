use Rattle.std.proofs.Common.{ℕ, ◌≡◌, ◌+◌, List, length, ap, sym, ◌∙◌, arith}
use Rattle.tg_regalloc.specs.Rewriting.{slotted, slot_after, code_rewritten, temps_after}
use Rattle.tg_regalloc.proofs.RewrittenBelow.{temps_grow}
use Rattle.tg_stages.proofs.rounds.spill.Goals as goal

pub spill-requires : goal.spill-requires
spill-requires c =
    let size = c.requires.size in
    let enough = c.requires.originals in
    record {
      small = c.in_ok-check_size.ensures;
      locations = omega (arith, size, enough);
      nodes = c.requires.nodes;
      classes = c.deref.ensures.value ∙ c.in_ok-classes.ensures ∙ ap (λ n. slotted n c.args.round.now) (sym size);
    }

pub returns-clause-stage : goal.returns-clause-stage
returns-clause-stage c =
    let by = c.args.progress in
    let round = c.args.round.now in
    let size = c.requires.size in
    let e = c.in_ok-spill.ensures in
    let list = e.list ∙ ap (λ n. code_rewritten (slot_after n by.slots round) by.code.list by.code.temps) size in
    let temps = e.temps ∙ ap (λ n. temps_after (slot_after n by.slots round) by.code.list by.code.temps) size in
    let slots = e.slots ∙ ap (λ (cs : List ℕ). by.slots + length cs) (c.deref.ensures.value ∙ c.in_ok-classes.ensures) in
    λ i. record { list = list i; temps = temps i; slots = slots i }

pub returns-clause-size : goal.returns-clause-size
returns-clause-size c = c.in_ok-spill.ensures.size ∙ c.requires.size

pub returns-clause-originals : goal.returns-clause-originals
returns-clause-originals c =
    let by = c.args.progress in
    let grown = temps_grow (slot_after (length by.locations.items) by.slots c.args.round.now) by.code.list by.code.temps in
    let enough = c.requires.originals in
    let temps = c.in_ok-spill.ensures.temps in
    omega (arith, grown, enough, temps)
