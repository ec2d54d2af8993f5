-- The ends of the machine that stand for a program's endings.
use Rattle.std.specs.Prelude.{pos}
use Rattle.tg_machine_state.specs.declared.ends.RunEnd.{RunEnd}
use Rattle.tg_machine_state.specs.declared.ends.RunEnd.TheVariants.{Exit, Break, Overflow, HeapFull}
use Rattle.tg_base.specs.Words.{signed}
use Rattle.tg_semantics.specs.Values.{Ending, normal, by_nil, by_index, by_division, by_chr}
use Rattle.tg_semantics.specs.Values.{by_substring, by_size, by_heap, by_overflow, by_exit}

-- the end of the machine that stands for an ending: a fault that the book leaves open stops it by a
-- `break` with the number of its status
abbrev pub machine_end : Ending → RunEnd
machine_end normal = Exit (pos 0)
machine_end (by_exit i) = Exit (signed i)
machine_end by_nil = Break 2
machine_end by_index = Break 3
machine_end by_chr = Break 4
machine_end by_substring = Break 5
machine_end by_size = Break 6
machine_end by_division = Break 7
machine_end by_heap = HeapFull
machine_end by_overflow = Overflow
