use Rattle.std.proofs.Common.{sym, ◌∙◌}
use Rattle.tg_typecheck.proofs.Namings.{named_front, named_behind, type_outside}
use Rattle.tg_typecheck.proofs.lookups.type_of.Goals as goal

pub returns-in-Some : goal.returns-in-Some
returns-in-Some c = sym (named_front c.args.x.name.0 _ _ _ (sym c.in-Some.ensures))

pub returns-in-None : goal.returns-in-None
returns-in-None c =
    c.standard_type.ensures ∙ sym (named_behind c.args.x.name.0 _ _ (sym c.in-None.ensures) ∙ type_outside c.args.x.name.0 _ _ c.text.ensures.value)
