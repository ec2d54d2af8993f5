use Rattle.std.proofs.Common.{◌≡◌, ◌++◌}
use Rattle.std.specs.Slice.Iter.{chunks_rest, chunks_size}
use Rattle.tg_formatter.specs.Canonical.{quoted_text}
use Rattle.tg_formatter.proofs.strings.put_quoted.Given as goal

-- what is left is the text of the bytes that are left
abbrev pub invariant-loop-stretch : goal.invariant-loop-stretch
invariant-loop-stretch l = record {
  goes_on : goal.iterator-loop-stretch.can_next l.stretch-iterator;
  ends : goal.iterator-loop-stretch.is_finite l.stretch-iterator;
  size : chunks_size l.stretch-iterator ≡ 64;
  text : l.initial.text.items ++ quoted_text l.fn.bytes ≡ l.text.items ++ quoted_text (chunks_rest l.stretch-iterator);
}
