use Rattle.tg_compile_proof.proofs.Translating.{programs_are_translated}
use Rattle.tg_compile_proof.proofs.laws.programs_are_translated.Goals as goal

pub returns : goal.returns
returns c =
    programs_are_translated c.translate_is_correct.ensures c.trees_are_light.ensures c.frames_are_light.ensures.programs
    c.programs_are_linked.ensures.linked c.compiled_may_run.ensures.trees c.runtime_frames_fit.ensures
    c.fragments_have_words.ensures c.prepared_is_reduced.ensures.reduced c.prepared_is_reduced.ensures.literals
    c.prepared_is_reduced.ensures.words c.prepare_is_correct.ensures.programs
