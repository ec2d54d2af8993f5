-- The status and the line of each end of a run.
use Rattle.std.specs.Prelude.{ℕ, ◌%◌, ◌==◌, List, [], ◌∷◌, ◌++◌, codes, if◌then◌else◌}
use Rattle.std.specs.Fmt.{decimal}
use Rattle.tg_machine_state.specs.declared.ends.RunEnd.{RunEnd}
use Rattle.tg_machine_state.specs.declared.ends.RunEnd.TheVariants.{Exit, Break, Overflow, HeapFull}
use Rattle.tg_machine_state.specs.declared.ends.RunEnd.TheVariants.{StackFull, StepLimit}
use Rattle.tg_machine_state.specs.declared.ends.RunEnd.TheVariants.{BadAddress}
use Rattle.tg_machine_state.specs.declared.ends.RunEnd.TheVariants.{Unaligned, BadWord, BadService}
use Rattle.tg_machine_state.specs.declared.ends.RunEnd.TheVariants.{ReadFault, WriteFault}
use Rattle.tg_base.specs.Words.{unsigned}
use Rattle.tg_profiler.specs.Words.{word_in_hex}

-- by the code of `break`: what a compiled program tests for, and any other
abbrev pub break_status : (code : ℕ) → ℕ
break_status n =
    if n == 2 then 101 else if n == 3 then 102 else if n == 7 then 103
    else if n == 4 then 104 else if n == 5 then 105 else if n == 6 then 106 else 111

-- an exit's status is its code modulo 256
abbrev pub end_status : RunEnd → ℕ
end_status (Exit code) = unsigned code % 256
end_status (Break code) = break_status code
end_status HeapFull = 107
end_status StackFull = 108
end_status StepLimit = 109
end_status Overflow = 110
end_status (BadAddress a) = 111
end_status (Unaligned a) = 111
end_status (BadWord w) = 111
end_status (BadService n) = 111
end_status ReadFault = 74
end_status WriteFault = 74

abbrev pub ended : List ℕ → List ℕ
ended text = codes "tiger: " ++ (text ++ 10 ∷ [])

abbrev pub break_text : (code : ℕ) → List ℕ
break_text n =
    if n == 2 then codes "nil"
    else if n == 3 then codes "index out of range"
    else if n == 7 then codes "division by zero"
    else if n == 4 then codes "chr out of range"
    else if n == 5 then codes "substring out of range"
    else if n == 6 then codes "negative size"
    else codes "break " ++ decimal n

-- an exit has no line
abbrev pub end_line : RunEnd → List ℕ
end_line (Exit code) = []
end_line (Break code) = ended (break_text code)
end_line HeapFull = ended (codes "heap full")
end_line StackFull = ended (codes "stack full")
end_line StepLimit = ended (codes "step limit")
end_line Overflow = ended (codes "overflow")
end_line (BadAddress a) = ended (codes "bad address " ++ word_in_hex a)
end_line (Unaligned a) = ended (codes "unaligned " ++ word_in_hex a)
end_line (BadWord w) = ended (codes "bad word " ++ word_in_hex w)
end_line (BadService n) = ended (codes "bad service " ++ word_in_hex n)
end_line ReadFault = ended (codes "read or write failed")
end_line WriteFault = ended (codes "read or write failed")
