use Rattle.std.proofs.Common.{ap, ◌∙◌, map, [], ◌∷◌, false}
use Rattle.tg_runtime.specs.declared.routines.Routine.TheVariants as routine
use Rattle.tg_tree.specs.glue.Plain.{plain_fragment}
use Rattle.tg_runtime.specs.mirror.Routines.{function_of}
use Rattle.tg_runtime.proofs.Functions.{pushed}
use Rattle.tg_runtime.proofs.fragments.parts_and_sums.Goals as goal

pub returns : goal.returns
returns c =
    pushed _ _ _ c.in_ok-push-2.ensures.items (
    pushed _ _ _ c.in_ok-push.ensures.items (ap (map plain_fragment) c.new-functions.ensures.items)
    (c.in_ok-function.ensures ∙ ap (function_of routine.Substring (false ∷ false ∷ false ∷ []) 7) c.in_ok-body.ensures))
    (c.in_ok-function-2.ensures ∙ ap (function_of routine.Concat (false ∷ false ∷ []) 6) c.in_ok-body-2.ensures)
