-- The status and the line of each answer.
use Rattle.std.specs.Prelude.{ℕ, List, [], ◌++◌, codes}
use Rattle.std.specs.Fmt.{decimal}
use Rattle.tg_asm_text.specs.declared.keywords.AsmRule.{AsmRule}
use Rattle.tg_asm_text.specs.declared.keywords.AsmRule.TheVariants.{A1, A2, A3, A4, A5, A6, A7, A8}
use Rattle.tg_asm_text.specs.declared.keywords.AsmRule.TheVariants.{A9}
use Rattle.tg_syntax.specs.declared.faults.LexRule.TheVariants.{L1, L2, L3, L4, L5, L6, L7}
use Rattle.tg_parser.specs.declared.faults.SyntaxRule.TheVariants.{S1, S2}
use Rattle.tg_typecheck.specs.declared.faults.TypeRule.{TypeRule}
use Rattle.tg_typecheck.specs.declared.faults.TypeRule.TheVariants.{T1, T2, T3, T4, T5, T6, T7, T8}
use Rattle.tg_typecheck.specs.declared.faults.TypeRule.TheVariants.{T9}
use Rattle.tg_typecheck.specs.declared.faults.TypeRule.TheVariants.{T10, T11, T12, T13, T14, T15}
use Rattle.tg_typecheck.specs.declared.faults.TypeRule.TheVariants.{T16}
use Rattle.tg_typecheck.specs.declared.faults.TypeRule.TheVariants.{T17, T18, T19, T20, T21, T22}
use Rattle.tg_driver.specs.declared.faults.Rule.{Rule}
use Rattle.tg_driver.specs.declared.faults.Rule.TheVariants.{Lexical, Syntactic, Typed, Bare}
use Rattle.tg_driver.specs.declared.faults.Fault.{Fault}
use Rattle.tg_driver.specs.declared.answers.Answer.{Answer}
use Rattle.tg_driver.specs.declared.answers.Answer.TheVariants.{Usage, Unreadable, Faulty, BadLine}
use Rattle.tg_driver.specs.declared.answers.Answer.TheVariants.{TooLong, Accepted, Written}
use Rattle.tg_driver.specs.declared.answers.Answer.TheVariants.{Unwritten}
use Rattle.tg_driver.specs.declared.answers.Answer.TheVariants.{OutOfMemory, Finished}
use Rattle.tg_driver.specs.Endings.{ended, end_status, end_line}

abbrev pub status_of : Answer → ℕ
status_of Usage = 64
status_of (Faulty fault) = 65
status_of (BadLine rule line) = 65
status_of TooLong = 65
status_of Unreadable = 66
status_of OutOfMemory = 70
status_of Accepted = 0
status_of Written = 0
status_of Unwritten = 74
status_of (Finished end) = end_status end

-- a rule of types, and what it says of a program that breaks it
abbrev pub type_text : TypeRule → List ℕ
type_text T1 = codes "T1 unknown variable"
type_text T2 = codes "T2 unknown function"
type_text T3 = codes "T3 unknown type"
type_text T4 = codes "T4 function used as variable"
type_text T5 = codes "T5 variable called"
type_text T6 = codes "T6 type mismatch"
type_text T7 = codes "T7 not a record"
type_text T8 = codes "T8 no such field"
type_text T9 = codes "T9 not an array"
type_text T10 = codes "T10 wrong number of arguments"
type_text T11 = codes "T11 wrong fields"
type_text T12 = codes "T12 value needed"
type_text T13 = codes "T13 nil without a record type"
type_text T14 = codes "T14 break outside a loop"
type_text T15 = codes "T15 loop variable assigned"
type_text T16 = codes "T16 type declared twice"
type_text T17 = codes "T17 function declared twice"
type_text T18 = codes "T18 name declared twice"
type_text T19 = codes "T19 type cycle"
type_text T20 = codes "T20 functions nested too deep"
type_text T21 = codes "T21 function too large"
type_text T22 = codes "T22 program too large"

-- a rule, and what it says of a text that breaks it
abbrev pub rule_text : Rule → List ℕ
rule_text (Lexical L1) = codes "L1 illegal character"
rule_text (Lexical L2) = codes "L2 comment not closed"
rule_text (Lexical L3) = codes "L3 string not closed"
rule_text (Lexical L4) = codes "L4 bad escape"
rule_text (Lexical L5) = codes "L5 integer too large"
rule_text (Lexical L6) = codes "L6 control byte in string"
rule_text (Lexical L7) = codes "L7 source too long"
rule_text (Syntactic S1) = codes "S1 unexpected token"
rule_text (Syntactic S2) = codes "S2 nesting too deep"
rule_text (Typed rule) = type_text rule
rule_text Bare = codes "T23 program too large for the bare machine"

-- a rule of assembly text, likewise
abbrev pub asm_text : AsmRule → List ℕ
asm_text A1 = codes "A1 bad line"
asm_text A2 = codes "A2 unknown instruction"
asm_text A3 = codes "A3 bad operand"
asm_text A4 = codes "A4 label twice"
asm_text A5 = codes "A5 unknown label"
asm_text A6 = codes "A6 out of reach"
asm_text A7 = codes "A7 number out of range"
asm_text A8 = codes "A8 segment too large"
asm_text A9 = codes "A9 no main"

-- `LINE:COLUMN: RULE WORDS`
abbrev pub fault_text : Fault → List ℕ
fault_text fault =
    decimal fault.place.line ++ (codes ":"
    ++ (decimal fault.place.column ++ (codes ": " ++ rule_text fault.rule)))

-- `line LINE: RULE WORDS`
abbrev pub bad_line_text : AsmRule → (line : ℕ) → List ℕ
bad_line_text rule line = codes "line " ++ (decimal line ++ (codes ": " ++ asm_text rule))

-- each line is ended by byte 10; an exit, an accepted source and a text that was written have none
abbrev pub line_of : Answer → List ℕ
line_of Usage =
    ended (codes "usage: tiger MODE FILE [--heap BYTES] [--stack BYTES] [--steps COUNT]"
    ++ codes " [--watch] [--fold] [--bare]")
line_of (Faulty fault) = ended (fault_text fault)
line_of (BadLine rule line) = ended (bad_line_text rule line)
line_of TooLong = ended (codes "line 1: A10 file too long")
line_of Unreadable = ended (codes "cannot read file")
line_of OutOfMemory = ended (codes "out of memory")
line_of Accepted = []
line_of Written = []
line_of Unwritten = ended (codes "read or write failed")
line_of (Finished end) = end_line end
