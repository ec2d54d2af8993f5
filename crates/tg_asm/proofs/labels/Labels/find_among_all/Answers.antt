use Rattle.std.proofs.Common.{Some, ◌∙◌, sym, ap, rules}
use Rattle.std.proofs.lemmas.Fn.{always_returns_same}
use Rattle.tg_asm_text.specs.Assembly.{spot_among}
use Rattle.tg_asm.specs.glue.Entries.{Key, by_key}
use Rattle.tg_asm.specs.glue.Spots.{spot_of}
use Rattle.tg_asm.proofs.Searches.{found_at, none_found, nowhere, searchable}
use Rattle.tg_asm.proofs.labels.Labels.find_among_all.Goals as goal

pub returns-in-Ok : goal.returns-in-Ok
returns-in-Ok c =
    let facts = c.in-Ok.ensures.position (λ e. by_key e.key c.args.key) (always_returns_same _ _ _ (λ a r f' k. search rules)) in
    let there = rw c.deref.ensures.value at facts in
    let inside = rw c.deref.ensures.value at c.in-Ok.ensures.bound in
    ap (λ e. Some (spot_of e.spot)) c.index.ensures
    ∙ sym (found_at c.self.inside.entries.items c.args.key c.in-Ok.at c.index.result.now c.self.invariant c.requires inside (there c.index.result.now))
    ∙ ap (λ v. spot_among v c.args.key.1.now) c.self.view_is

pub returns-in-Err : goal.returns-in-Err
returns-in-Err c =
    let facts = c.in-Err.ensures.position (λ e. by_key e.key c.args.key) (always_returns_same _ _ _ (λ a r f' k. search rules)) in
    let apart = rw c.deref.ensures.value at facts in
    let s = c.self.inside.entries.items in
    let k : Key = c.args.key in
    sym (none_found s k c.requires (nowhere s k c.in-Err.field-0 (apart (searchable s k c.self.invariant))))
    ∙ ap (λ v. spot_among v c.args.key.1.now) c.self.view_is
