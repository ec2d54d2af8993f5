use Rattle.std.proofs.Common.{refl, sym, ap, ◌∙◌}
use Rattle.tg_typecheck.proofs.Steps.{keep_is, carry}
use Rattle.std.specs.Prelude.{not}
use Rattle.tg_syntax.specs.glue.Plain.{plain_lvalue}
use Rattle.tg_typecheck.specs.Typing as typing
use Rattle.tg_typecheck.specs.Checks.{give}
use Rattle.tg_typecheck.proofs.trees.assignable.Goals as goal

pub returns-in-Simple : goal.returns-in-Simple
returns-in-Simple c =
    λ scope l h n. carry c.kept.result _ _ (ap (λ v. typing.assignable (plain_lvalue v) scope n) c.in-Simple.is ∙ keep_is _ _ refl
    (ap not (sym (c.is_loop_variable.ensures scope l h)))) (c.kept.ensures n)

pub returns-in-Field : goal.returns-in-Field
unfolding give
returns-in-Field c = λ scope l h n. ap (λ v. typing.assignable (plain_lvalue v) scope n) c.in-Field.is

pub returns-in-Index : goal.returns-in-Index
unfolding give
returns-in-Index c = λ scope l h n. ap (λ v. typing.assignable (plain_lvalue v) scope n) c.in-Index.is
