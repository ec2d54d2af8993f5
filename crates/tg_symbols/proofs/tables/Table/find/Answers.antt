use Rattle.std.proofs.Common.{length, sym, ◌∙◌, ap, arith, ◌-◌, Some}
use Rattle.tg_symbols.specs.Links.{placed_at}
use Rattle.tg_symbols.proofs.TableLemmas.{below_length, placed_by_place, placed_none}
use Rattle.tg_symbols.proofs.tables.Table.find.Goals as goal

pub overflow_sub-result-in-Some : goal.overflow_sub-result-in-Some
overflow_sub-result-in-Some g c =
    let b = below_length {V = g.row.V.Denot} c.args.name c.self.inside.entries.items c.in-Some.at.now
    (sym (c.self.invariant.tops c.args.name) ∙ sym c.in-Some.ensures.value) in
    omega (arith, b, c.len.ensures, c.as_slice.ensures.len, ap length c.as_slice.ensures.value)

pub returns-in-Some : goal.returns-in-Some
returns-in-Some g c =
    let b = placed_by_place {V = g.row.V.Denot} c.args.name c.self.inside.entries.items c.in-Some.at.now
    (sym (c.self.invariant.tops c.args.name) ∙ sym c.in-Some.ensures.value) in
    ap (λ n. Some (n - 1 - c.in-Some.at.now)) (c.len.ensures ∙ (sym c.as_slice.ensures.len ∙ ap length c.as_slice.ensures.value))
    ∙ (sym b ∙ ap (λ t. placed_at c.args.name 0 t) c.self.view_is)

pub returns-in-None : goal.returns-in-None
returns-in-None g c =
    sym (placed_none {V = g.row.V.Denot} c.args.name 0 _ (sym (c.self.invariant.tops c.args.name) ∙ sym c.in-None.ensures.value)) ∙ ap
    (λ t. placed_at c.args.name 0 t) c.self.view_is
