use Rattle.std.proofs.Common.{◌≡◌, rules}
use Rattle.std.proofs.lemmas.List.Sorted.{IsNonDecreasingBy-from_sort_by_key}
use Rattle.tg_syntax.specs.glue.Plain.{plain}
use Rattle.tg_typecheck.specs.declared.notes.Note.{Note}
use Rattle.tg_typecheck.specs.Checks.{fine}
use Rattle.tg_typecheck.specs.Scopes.{outermost_scope}
use Rattle.tg_typecheck.specs.glue.States.{Fails, noted_of}
use Rattle.tg_typecheck.proofs.Rising.{rises}
use Rattle.tg_typecheck.proofs.NamedValues.{standard_values}
use Rattle.tg_typecheck.proofs.CheckSteps.{at_first, passed, accepts}
use Rattle.tg_typecheck.proofs.checking.check.Goals as goal

pub returns-in_err-typed-clause-err : goal.returns-in_err-typed-clause-err
returns-in_err-typed-clause-err c =
    let names = c.args.names.now in
    let body = plain c.args.program.now.body in
    let n = c.new-state.ensures in
    passed names body c.from_residual.result c.in_err-typed.field-0.0 c.from_residual.ensures
    (at_first names body c.new-state.result (λ x. Fails c.in_err-typed.field-0.0 x) n.bindings n.types n.noted c.in_err-typed.ensures.given)

pub from_vec-requires : goal.from_vec-requires
from_vec-requires c =
    let names = c.args.names.now in
    let body = plain c.args.program.now.body in
    let n = c.new-state.ensures in
    let noted = noted_of c.typed.new.state in
    let is = at_first names body c.new-state.result (λ x. x ≡ fine c.in_ok-typed.field-0 noted) n.bindings n.types n.noted c.in_ok-typed.ensures.given in
    rises body (outermost_scope names) (standard_values 0 names) c.in_ok-typed.field-0 noted c.sort_by_key.new.self.items c.requires.apart is
    c.in_ok-sort_by_key.ensures.permutation
    (IsNonDecreasingBy-from_sort_by_key (λ (n : Note). n.at) _ c.in_ok-sort_by_key.ensures.sorted (λ a r q k. search rules))

pub invariant_of-result : goal.invariant_of-result
invariant_of-result c =
    let names = c.args.names.now in
    let body = plain c.args.program.now.body in
    let n = c.new-state.ensures in
    let noted = noted_of c.typed.new.state in
    let is = at_first names body c.new-state.result (λ x. x ≡ fine c.in_ok-typed.field-0 noted) n.bindings n.types n.noted c.in_ok-typed.ensures.given in
    record {
      within = c.requires.names;
      apart = c.requires.apart;
      accepted =
          accepts names body c.in_ok-typed.field-0 noted c.first_limit.result c.sort_by_key.new.self.items c.from_vec.result is c.in_default.is
          c.first_limit.ensures c.requires.apart c.in_ok-sort_by_key.ensures.permutation
          (IsNonDecreasingBy-from_sort_by_key (λ (n : Note). n.at) _ c.in_ok-sort_by_key.ensures.sorted (λ a r q k. search rules)) c.from_vec.ensures;
    }

pub returns-clause-ok : goal.returns-clause-ok
returns-clause-ok c =
    let names = c.args.names.now in
    let body = plain c.args.program.now.body in
    let n = c.new-state.ensures in
    let noted = noted_of c.typed.new.state in
    let is = at_first names body c.new-state.result (λ x. x ≡ fine c.in_ok-typed.field-0 noted) n.bindings n.types n.noted c.in_ok-typed.ensures.given in
    accepts names body c.in_ok-typed.field-0 noted c.first_limit.result c.sort_by_key.new.self.items c.from_vec.result is c.in_default.is
    c.first_limit.ensures c.requires.apart c.in_ok-sort_by_key.ensures.permutation
    (IsNonDecreasingBy-from_sort_by_key (λ (n : Note). n.at) _ c.in_ok-sort_by_key.ensures.sorted (λ a r q k. search rules)) c.from_vec.ensures
