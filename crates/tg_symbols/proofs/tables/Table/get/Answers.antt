use Rattle.std.proofs.Common.{length, sym, ◌∙◌, ap, arith}
use Rattle.tg_symbols.specs.Tables.{looked_up}
use Rattle.tg_symbols.proofs.TableLemmas.{below_length, named_by_place, named_none}
use Rattle.tg_symbols.proofs.tables.Table.get.Goals as goal

pub index-requires : goal.index-requires
index-requires g c =
    let b = below_length {V = g.row.V.Denot} c.args.name c.self.inside.entries.items c.in-Some.at.now
    (sym (c.self.invariant.tops c.args.name) ∙ sym c.in-Some.ensures.value) in
    omega (arith, b, c.as_slice.ensures.len, ap length c.as_slice.ensures.value)

pub returns-in-Some : goal.returns-in-Some
returns-in-Some g c =
    sym (named_by_place {V = g.row.V.Denot} c.args.name c.self.inside.entries.items c.in-Some.at.now c.index.result.now
    (sym (c.self.invariant.tops c.args.name) ∙ sym c.in-Some.ensures.value) c.index.ensures) ∙ ap (λ t. looked_up c.args.name t) c.self.view_is

pub returns-in-None : goal.returns-in-None
returns-in-None g c =
    sym (named_none {V = g.row.V.Denot} c.args.name _ (sym (c.self.invariant.tops c.args.name) ∙ sym c.in-None.ensures.value)) ∙ ap
    (λ t. looked_up c.args.name t) c.self.view_is
