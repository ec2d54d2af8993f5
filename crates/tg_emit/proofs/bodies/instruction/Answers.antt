use Rattle.std.proofs.Common.{◌≡◌, ◌++◌, sym, ◌∙◌, subst}
use Rattle.std.specs.Prelude.{OnOk}
use Rattle.tg_emit.specs.Ranges.{RowFits, NumbersFit}
use Rattle.tg_emit.proofs.Fitting.{numbers_of_row, lines_of_row, on_ok}
use Rattle.tg_emit.proofs.bodies.instruction.Goals as goal

pub returns-in-Some : goal.returns-in-Some
returns-in-Some c =
    let one = c.args.one.now in
    let is = sym c.row.ensures.row ∙ c.in-Some.is in
    record {
      lines = subst (λ l. OnOk c.alone-in-Some.result (c.alone-in-Some.new.list.items ≡ c.args.list.now.items ++ l))
          (sym (lines_of_row c.args.turned c.args.site.label.0 c.args.site.size c.args.site.place one c.in-Some.one is)) c.alone-in-Some.ensures;
      row = on_ok c.alone-in-Some.result (RowFits one) c.row.ensures.fits;
      numbers = on_ok c.alone-in-Some.result (NumbersFit one) (numbers_of_row one c.in-Some.one is);
    }
