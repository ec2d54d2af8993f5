use Rattle.std.proofs.Common.{true, length, map, refl, sym, ap, subst, ◌∙◌}
use Rattle.std.specs.List.{All}
use Rattle.tg_syntax.specs.glue.Plain.{plain_type}
use Rattle.tg_typecheck.specs.Groups as groups
use Rattle.tg_typecheck.specs.glue.Declaring.{ChainWithin, chain_from}
use Rattle.tg_typecheck.specs.glue.States.{AnswersCheck, no_memory, noted_of}
use Rattle.tg_typecheck.proofs.Steps.{ended, step, fails_first, fails_then, carry}
use Rattle.std.proofs.lemmas.List.{length-map}
use Rattle.tg_typecheck.proofs.GroupSteps.{types_are, group_scope, scope_after, opens_types, opens_after}
use Rattle.tg_typecheck.proofs.groups.declare_types.Goals as goal

pub returns-in_err-places-clause-given : goal.returns-in_err-places-clause-given
returns-in_err-places-clause-given c = λ in_loop scope h.
    ended _ _ _ c.from_residual.ensures (fails_first _ _ (c.in_err-places.ensures.given (noted_of c.args.state.now)))

pub returns-in_err-known_forms-clause-given : goal.returns-in_err-known_forms-clause-given
returns-in_err-known_forms-clause-given c = λ in_loop scope h.
    let n = noted_of c.args.state.now in
    let ds = map plain_type c.args.group.now in
    ended _ _ _ c.from_residual-in_err-known_forms.ensures
    (fails_then _ _ (c.in_ok-places.ensures.given n) (fails_first _ _ (c.in_err-known_forms.ensures ds scope in_loop c.in_ok-places.ensures.places h n)))

pub returns-in_err-ends-clause-given : goal.returns-in_err-ends-clause-given
returns-in_err-ends-clause-given c = λ in_loop scope h. ended _ _ _ c.from_residual-in_err-ends.ensures no_memory

pub chains_end-requires-clause-within : goal.chains_end-requires-clause-within
chains_end-requires-clause-within c =
    let ds = map plain_type c.args.group.now in
    let count = length c.args.names.now in
    (count, subst (λ l. All (ChainWithin count ds) l) (sym c.deref.ensures.value) (c.in_ok-ends.ensures.within count c.requires))

pub returns-in_err-chains_end-clause-given : goal.returns-in_err-chains_end-clause-given
returns-in_err-chains_end-clause-given c = λ in_loop scope h.
    let n = noted_of c.args.state.now in
    let ds = map plain_type c.args.group.now in
    let chains = ap (λ l. map (λ e. chain_from ds e) l) c.deref.ensures.value ∙ c.in_ok-ends.ensures.chains in
    ended _ _ _ c.from_residual-in_err-chains_end.ensures
    (fails_then _ _ (c.in_ok-places.ensures.given n)
    (fails_then _ _ (c.in_ok-known_forms.ensures ds scope in_loop c.in_ok-places.ensures.places h n)
    (fails_first _ _ (c.in_err-chains_end.ensures chains n))))

pub types_of-requires : goal.types_of-requires
types_of-requires c =
    let ds = map plain_type c.args.group.now in
    let count = length c.args.names.now in
    subst (λ l. All (ChainWithin count ds) l) (sym c.deref-2.ensures.value) (c.in_ok-ends.ensures.within count c.requires)

pub returns-in_err-types-clause-given : goal.returns-in_err-types-clause-given
returns-in_err-types-clause-given c = λ in_loop scope h. ended _ _ _ c.from_residual-in_err-types.ensures no_memory

pub open_types-requires : goal.open_types-requires
open_types-requires c =
    ap length c.deref-3.ensures.value ∙ (ap length (c.in_ok-types.ensures _ true refl)
    ∙ (length-map c.deref-2.result.now _ ∙ (ap length c.deref-2.ensures.value ∙ c.in_ok-ends.ensures.as_many)))

pub returns-in_err-open_types-clause-given : goal.returns-in_err-open_types-clause-given
returns-in_err-open_types-clause-given c = λ in_loop scope h. ended _ _ _ c.from_residual-in_err-open_types.ensures no_memory

pub returns-clause-given : goal.returns-clause-given
returns-clause-given c = λ in_loop scope h.
    let names = c.args.names.now in
    let old = c.args.state.now in
    let mid = c.open_types.new.state in
    let new = c.add_forms.new.state in
    let n = noted_of old in
    let ds = map plain_type c.args.group.now in
    let inner = groups.with_group ds ds scope scope in
    let chains = ap (λ l. map (λ e. chain_from ds e) l) c.deref.ensures.value ∙ c.in_ok-ends.ensures.chains in
    let chains_too = ap (λ l. map (λ e. chain_from ds e) l) c.deref-2.ensures.value ∙ c.in_ok-ends.ensures.chains in
    let types = types_are ds c.deref-2.result.now c.deref-3.result.now scope chains_too (c.deref-3.ensures.value ∙ c.in_ok-types.ensures scope in_loop h) in
    let opened = group_scope names in_loop old mid c.args.group.now c.deref-3.result.now scope h types c.in_ok-open_types.ensures.types
    c.in_ok-open_types.ensures.bindings in
    let last = subst (λ m. AnswersCheck c.add_forms.result (λ _. tt) (noted_of new) (groups.add_forms inner ds m)) c.in_ok-open_types.ensures.noted
    (c.add_forms.ensures.given in_loop inner opened) in
    carry c.add_forms.result _ _ (step _ _ (c.in_ok-places.ensures.given n)
    (step _ _ (c.in_ok-known_forms.ensures ds scope in_loop c.in_ok-places.ensures.places h n) (step _ _ (c.in_ok-chains_end.ensures chains n) refl)))
    (scope_after c.add_forms.result names in_loop mid new inner (groups.add_forms inner ds) n opened c.add_forms.ensures.kept last)

pub returns-clause-opens : goal.returns-clause-opens
returns-clause-opens c =
    opens_after c.add_forms.result c.args.state.now c.open_types.new.state c.add_forms.new.state
    (opens_types c.args.state.now c.open_types.new.state c.args.group.now c.deref-3.result.now c.in_ok-open_types.ensures.types
    c.in_ok-open_types.ensures.bindings) c.add_forms.ensures.kept
