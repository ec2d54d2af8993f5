use Rattle.std.proofs.Common.{◌≡◌, ℕ, ◌<◌, get_or}
use Rattle.tg_machine_state.specs.State.{load_word}
use Rattle.tg_page.specs.Looks.{word_told}
use Rattle.tg_page.proofs.viewing.tell_words.Given as goal

abbrev pub invariant-loop-at : goal.invariant-loop-at
invariant-loop-at l = (k : ℕ) → k < l.at → get_or l.words k 0 ≡ word_told (load_word l.machine.state (get_or l.addresses k 0))
