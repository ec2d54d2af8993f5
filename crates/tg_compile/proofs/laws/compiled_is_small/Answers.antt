use Rattle.std.proofs.Common.{subst}
use Rattle.tg_typecheck.specs.Programs.{plain_checked, IsAccepted}
use Rattle.tg_compile.proofs.Small.{code_is_small}
use Rattle.tg_compile.proofs.laws.compiled_is_small.Goals as goal

pub returns : goal.returns
returns c =
    code_is_small c.programs_are_bounded.ensures.code c.programs_are_bounded.ensures.frames c.prepared_is_reduced.ensures.reduced
    c.args.passes (plain_checked c.args.checked.now) (subst (λ v. IsAccepted (plain_checked v)) c.checked.view_is c.checked.invariant)
