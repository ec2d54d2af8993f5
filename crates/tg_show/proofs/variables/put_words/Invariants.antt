use Rattle.std.proofs.Common.{◌≡◌, ◌++◌, drop}
use Rattle.tg_show.specs.Variables.{words_text}
use Rattle.tg_show.proofs.variables.put_words.Given as goal

abbrev pub invariant-loop-word : goal.invariant-loop-word
invariant-loop-word l =
    l.initial.text.items ++ words_text l.words ≡ l.text.items ++ words_text (drop l.word-index l.words)
