use Rattle.tg_compile_proof.proofs.Compiled.{compiled_may_run, frames_are_sizes, frames_are_sizes_of_trees}
use Rattle.tg_compile_proof.proofs.laws.compiled_may_run.Goals as goal

pub returns : goal.returns
returns c = record { run = compiled_may_run; frames = frames_are_sizes; trees = frames_are_sizes_of_trees }
