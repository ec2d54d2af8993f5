use Rattle.std.proofs.Common.{sym, ap, ◌∙◌}
use Rattle.tg_instr.specs.Shapes.{shape}
use Rattle.tg_redundancy.specs.mirror.Known.{comes_back}
use Rattle.tg_redundancy.proofs.WaysBehind.{not_led_to}
use Rattle.tg_redundancy.proofs.ways.is_led_to.Goals as goal

pub returns-in-Mark : goal.returns-in-Mark
returns-in-Mark c = λ rest h. c.contains.ensures ∙ (h c.in-Mark.mark ∙ ap (λ one. comes_back rest (shape one)) (sym c.in-Mark.is))

pub returns-in_default : goal.returns-in_default
returns-in_default c = λ rest h. not_led_to c.args.one.now c.in_default.not-Mark rest
