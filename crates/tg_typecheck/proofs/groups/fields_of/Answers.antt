use Rattle.std.proofs.Common.{◌≡◌, ◌<◌, ◌-◌, ◌∷◌, ap, ◌∙◌, map, drop, length, arith}
use Rattle.tg_syntax.specs.declared.trees.Param.{Param}
use Rattle.tg_typecheck.specs.Groups as groups
use Rattle.tg_typecheck.proofs.GroupSteps.{field_at, field_within, fields_back}
use Rattle.tg_typecheck.proofs.groups.fields_of.Goals as goal

pub known_type-requires : goal.known_type-requires
known_type-requires c =
    let l : c.loop-at.at - 1 < length c.args.fields.now = omega (arith, c.loop-at.invariant.low, c.loop-at-test.true) in
    field_within (length c.args.names.now) c.args.fields.now (c.loop-at.at - 1) c.requires l

pub loop-at-preserved : goal.loop-at-preserved
loop-at-preserved c = record {
  low = omega (arith, c.loop-at.invariant.low);
  made = λ scope in_loop h.
      c.in_ok-push.ensures.ok ∙ (ap (λ t. ((field_at c.args.fields.now (c.loop-at.at - 1)).name.name.0, t) ∷ c.loop-at.table)
      (c.known_type.ensures scope in_loop h) ∙ fields_back
      (λ (p : Param). (p.name.name.0, groups.known_type scope p.kind)) c.args.fields.now c.loop-at.at c.loop-at.table
      (omega (arith, c.loop-at-test.true)) c.loop-at.invariant.low (c.loop-at.invariant.made scope in_loop h));
}

pub returns : goal.returns
returns c = λ scope in_loop h.
    let z : c.loop-at.at ≡ 0 = omega (arith, c.loop-at-test.false) in
    c.loop-at.invariant.made scope in_loop h ∙ ap (λ k. map (λ (p : Param). (p.name.name.0, groups.known_type scope p.kind)) (drop k c.args.fields.now)) z
