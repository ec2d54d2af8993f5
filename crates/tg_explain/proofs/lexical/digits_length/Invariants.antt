use Rattle.std.proofs.Common.{◌≡◌, ◌+◌, drop}
use Rattle.std.specs.List.{prefix_len}
use Rattle.tg_syntax.specs.Spellings.{is_digit}
use Rattle.tg_explain.proofs.lexical.digits_length.Given as goal

abbrev pub invariant-loop-length : goal.invariant-loop-length
invariant-loop-length l = l.length + prefix_len is_digit (drop l.length l.text) ≡ prefix_len is_digit l.text
