use Rattle.std.proofs.Common.{Some, ◌∙◌, sym, ap}
use Rattle.std.specs.Ordering.{is_eq}
use Rattle.tg_asm_text.specs.Assembly.{spot_among}
use Rattle.tg_asm.specs.glue.Entries.{by_key}
use Rattle.tg_asm.specs.glue.Spots.{spot_of}
use Rattle.tg_asm.proofs.Searches.{found_between}
use Rattle.tg_asm.proofs.labels.Labels.find_behind.Goals as goal

pub returns-then-is_eq : goal.returns-then-is_eq
returns-then-is_eq c =
    let inside = rw c.deref.ensures.value at c.loop-entry-test.true in
    let is = rw c.deref.ensures.value at c.entry-item.is in
    let tie = ap (λ e. is_eq (by_key e.key c.args.key)) (sym is) ∙ ap is_eq (sym c.compare.ensures) ∙ sym c.is_eq.ensures ∙ c.if-is_eq.true in
    ap (λ v. spot_among v c.args.key.1.now) (sym c.self.view_is)
    ∙ found_between c.self.inside.entries.items c.args.key _ _ c.loop-entry.entry-index _ c.self.invariant c.requires inside tie
    ∙ ap (λ e. Some (spot_of e.spot)) (sym is)
