use Rattle.std.proofs.Common.{refl, sym}
use Rattle.tg_asm.specs.glue.Layouts.{laid_of, lined_labels}
use Rattle.tg_asm.proofs.LinePass.{laid_out}
use Rattle.tg_asm.proofs.Orders.{unlined_of}
use Rattle.tg_asm.proofs.layouts.lay_out.Goals as goal

pub returns-clause-laid_out : goal.returns-clause-laid_out
returns-clause-laid_out c =
    let told_is = rw c.in-None.is at c.in_ok-rule.ensures.told in
    laid_out _ (lined_labels c.add_lines-ended.new.self) (laid_of c.add_lines-ended.new.self) _ told_is c.in-Ok.ensures
    (sym (unlined_of c.add_lines-ended.new.self.entries.items)) refl refl refl
