use Rattle.tg_munch_proof.proofs.Counting.{code_counted, code_in_words}
use Rattle.tg_munch_proof.proofs.laws.code_keeps_counts.Goals as goal

pub returns : goal.returns
returns c = record { counts = code_counted; words = code_in_words }
