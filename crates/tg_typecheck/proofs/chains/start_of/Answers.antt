use Rattle.std.proofs.Common.{◌<◌, length, map, sym, ap, ◌∙◌, arith, rules}
use Rattle.std.proofs.lemmas.List.{length-map}
use Rattle.tg_syntax.specs.declared.trees.TypeDec.{TypeDec}
use Rattle.tg_syntax.specs.glue.Plain.{plain_type, plain_form}
use Rattle.tg_typecheck.proofs.ChainSteps.{place_below, started_here, stand, stand_ends}
use Rattle.tg_typecheck.proofs.chains.start_of.Goals as goal

pub offset_bounds-group-at : goal.offset_bounds-group-at
offset_bounds-group-at c =
    let b : c.in-Some.at.now < length c.args.group.now = omega (
      arith,
      place_below c.args.x.name.0 (map plain_type c.args.group.now) c.in-Some.at.now
          (sym (c.requires.places c.args.x.name.0) ∙ sym c.in-Some.ensures.value),
      length-map c.args.group.now plain_type,
    ) in
    search rules

pub bounds-group-at : goal.bounds-group-at
bounds-group-at c =
    omega (
      arith,
      place_below c.args.x.name.0 (map plain_type c.args.group.now) c.in-Some.at.now
          (sym (c.requires.places c.args.x.name.0) ∙ sym c.in-Some.ensures.value),
      length-map c.args.group.now plain_type,
    )

pub returns-in-Alias-clause-within : goal.returns-in-Alias-clause-within
returns-in-Alias-clause-within c =
    λ n t w. place_below c.args.x.name.0 (map plain_type c.args.group.now) c.in-Some.at.now
    (sym (c.requires.places c.args.x.name.0) ∙ sym c.in-Some.ensures.value)

pub returns-in-Alias-clause-chain : goal.returns-in-Alias-clause-chain
returns-in-Alias-clause-chain c =
    sym (started_here c.args.group.now c.args.x c.in-Some.at.now c.index-group-at.result
    (sym (c.requires.places c.args.x.name.0) ∙ sym c.in-Some.ensures.value) c.index-group-at.is
    ∙ (ap (λ (t : TypeDec). stand c.in-Some.at.now (plain_form t.form)) c.index-group-at.is ∙ ap
    (λ f. stand c.in-Some.at.now (plain_form f)) c.in-Alias.is))

pub returns-in_default : goal.returns-in_default
returns-in_default c = record {
  within =
      λ n t w. place_below c.args.x.name.0 (map plain_type c.args.group.now) c.in-Some.at.now
      (sym (c.requires.places c.args.x.name.0) ∙ sym c.in-Some.ensures.value);
  chain =
      sym (started_here c.args.group.now c.args.x c.in-Some.at.now c.index-group-at.result
      (sym (c.requires.places c.args.x.name.0) ∙ sym c.in-Some.ensures.value) c.index-group-at.is
      ∙ (ap (λ (t : TypeDec). stand c.in-Some.at.now (plain_form t.form)) c.index-group-at.is ∙ stand_ends c.in-Some.at.now _ c.in_default.not-Alias));
}
