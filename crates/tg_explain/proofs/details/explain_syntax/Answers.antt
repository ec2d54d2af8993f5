use Rattle.std.proofs.Common.{subst, ◌∙◌}
use Rattle.std.specs.Prelude.{MatchOption}
use Rattle.tg_explain.specs.Openers.{HasNoOpen, IsLastOpen}
use Rattle.tg_explain.specs.glue.Fronts.{IsFirstFrom}
use Rattle.tg_explain.proofs.Fronts.{faultless, explained}
use Rattle.tg_explain.proofs.details.explain_syntax.Goals as goal

pub expected-requires : goal.expected-requires
expected-requires c =
    let count = c.first_from-first.result.0 in
    let found = c.first_from-first.result.1 in
    let first = subst (λ w. IsFirstFrom c.args.at w count found) c.deref.ensures.value c.first_from-first.ensures in
    faultless c.args.tokens.items c.truncate.new.self.items c.args.rule c.args.at count found c.requires.stand c.requires.ends c.requires.fault first
    c.truncate.ensures.items

pub returns : goal.returns
returns c =
    let count = c.first_from-first.result.0 in
    let found = c.first_from-first.result.1 in
    let first = subst (λ w. IsFirstFrom c.args.at w count found) c.deref.ensures.value c.first_from-first.ensures in
    let last =
    subst (λ w. MatchOption c.in_ok-opening.opening (HasNoOpen w) (λ o. IsLastOpen w o)) (c.deref-2.ensures.value ∙ c.in_ok-expected.ensures.same)
    c.in_ok-opening.ensures in
    explained c.args.tokens.items c.truncate.new.self.items c.args.rule c.args.at count found c.in_ok-expected.expected c.in_ok-opening.opening
    c.requires.stand c.requires.ends c.requires.fault first c.truncate.ensures.items c.in_ok-expected.ensures.kinds last
