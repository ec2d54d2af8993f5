use Rattle.std.proofs.Common.{◌∷◌, [], ◌++◌, ◌∙◌, ap}
use Rattle.tg_parser.proofs.GroupSteps.{types_grown, put_behind, behind_no_types}
use Rattle.tg_parser.proofs.groups.push_type.Goals as goal

pub returns-in_ok-push-in-Types-2 : goal.returns-in_ok-push-in-Types-2
returns-in_ok-push-in-Types-2 c =
    types_grown _ _ _ _ c.in-Types.types _ c.args.dec c.in-Some.ensures.items c.in-Types.is
    (c.from_vec.ensures ∙ c.in_ok-push-in-Types.ensures.items ∙ ap (λ ts. ts ++ c.args.dec ∷ []) c.into_vec-group.ensures)
    c.in_ok-push-in-Types-2.ensures.items

pub returns-in_ok-push-in_default-last-2 : goal.returns-in_ok-push-in_default-last-2
returns-in_ok-push-in_default-last-2 c =
    put_behind _ _ _ _ _ _ _ c.in-Some.ensures.items c.in_ok-push-in_default-last.ensures.items c.in_ok-push-in_default-last-2.ensures.items
    (behind_no_types c.in-Some.last _ c.args.dec c.in_default-last.not-Types c.in_ok-type_alone-in_default-last.ensures)
