use Rattle.std.proofs.Common.{◌≡◌, ◌+◌, drop}
use Rattle.std.specs.List.{prefix_len}
use Rattle.tg_syntax.specs.Spellings.{is_name_byte}
use Rattle.tg_explain_types.proofs.names.name_length.Given as goal

abbrev pub invariant-loop-length : goal.invariant-loop-length
invariant-loop-length l = l.length + prefix_len is_name_byte (drop l.length l.text) ≡ prefix_len is_name_byte l.text
