use Rattle.std.proofs.Common.{◌≡◌, refl, sym, ap, ◌∙◌}
use Rattle.std.specs.Prelude.{◌||◌}
use Rattle.tg_symbols.specs.Tables.{looked_up}
use Rattle.tg_typecheck.specs.Groups as groups
use Rattle.tg_typecheck.proofs.Steps.{carry, keep_is}
use Rattle.tg_typecheck.specs.declared.faults.TypeRule.TheVariants.{T3}
use Rattle.tg_typecheck.proofs.GroupSteps.{known_inside, known_outside}
use Rattle.tg_typecheck.proofs.groups.known.Goals.{then-contains_key, else-contains_key}
use Rattle.tg_typecheck.proofs.groups.known.Goals as goal

pub returns : goal.returns
returns c = λ group scope in_loop h e n.
    let x = c.args.x.name.0 in
    let is = elim c.if-contains_key.branch as (λ _. c.if-contains_key.is_known ≡ groups.stands_in x (groups.names_of group) || groups.is_some
    (looked_up x scope.types)) [
      | then-contains_key w ↦ w.is_known-is ∙ (w.if-contains_key.true ∙ known_inside c.args.places.now group x
          (groups.is_some (looked_up x scope.types)) c.contains_key.result h c.contains_key.ensures w.if-contains_key.true)
      | else-contains_key w ↦ w.is_known-is ∙ known_outside c.args.places.now group x w.type_of.result
          (looked_up x scope.types) c.contains_key.result _ h c.contains_key.ensures w.if-contains_key.false w.is_some-is_known.ensures
          (w.type_of.ensures ∙ ap (λ s. looked_up x s.types) (sym e))
    ] in
    carry c.kept.result _ _ (keep_is T3 n refl (sym is)) (c.kept.ensures n)
