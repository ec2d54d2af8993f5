-- The lines of a program in the words of the assembler, and the image that they are.
use Rattle.std.specs.Prelude.{ℕ, ◌+◌, ◌*◌, ◌≡◌, ◌==◌, ◌<◌, Bool, List, [], ◌∷◌, ◌++◌, map, codes}
use Rattle.std.specs.Prelude.{Ok, IsTrue, if◌then◌else◌}
use Rattle.std.specs.List.{list_all, AllByRecursion}
use Rattle.tg_machine_state.specs.State.{padded, code_base}
use Rattle.tg_asm_text.specs.declared.keywords.Segment.TheVariants.{Code, Statics as InStatics}
use Rattle.tg_isa.specs.Rows.{IsRow}
use Rattle.tg_asm_text.specs.Operands.{is_label}
use Rattle.tg_asm_text.specs.Writing.{takes_label}
use Rattle.tg_asm_text.specs.Assembly.{assembled}
use Rattle.tg_asm_text.specs.Placement.{IsSound, image_of}
use Rattle.tg_asm_text.specs.Texts as texts
use Rattle.tg_tree.specs.declared.fragments.Literal.{Literal}
use Rattle.tg_instr.specs.declared.codes.Allocated.{Allocated}
use Rattle.tg_emit.specs.declared.assembly.Line.{Line}
use Rattle.tg_emit.specs.declared.assembly.Line.TheVariants.{Label, One, La, Statics}
use Rattle.tg_emit.specs.mirror.Names.{literal_name}
use Rattle.tg_emit.specs.mirror.Lines.{words, function_lines, functions_lines, is_long, assembly_of}
use Rattle.tg_emit.specs.mirror.Text.{text_of}
use Rattle.tg_emit.specs.Conditions.{has_labels, is_emittable}
use Rattle.tg_emit_laws.specs.Programs.{IsWholeProgram, AreTyped}

-- bytes of the statics; none at all are still an item
abbrev pub bytes_line : List ℕ → texts.Line
bytes_line [] = texts.Space 0
bytes_line (b ∷ bytes) = texts.Bytes (b ∷ bytes)

abbrev pub written_line : Line → texts.Line
written_line (Label name) = texts.Label name
written_line (One one target) = texts.One one target
written_line (La register target) = texts.La register target
written_line (Statics bytes) = bytes_line bytes

abbrev pub literals_written : List Literal → List texts.Line
literals_written [] = []
literals_written (l ∷ ls) =
    texts.Label (literal_name l.label.0) ∷ bytes_line (padded l.text) ∷ literals_written ls

abbrev pub statics_written : List Literal → List texts.Line
statics_written [] = []
statics_written (l ∷ ls) = texts.Enter InStatics ∷ literals_written (l ∷ ls)

-- the code, with the name of the program's body for a loader, and the statics after it
abbrev pub program_written : List Allocated → List Literal → List texts.Line
program_written fs ls =
    texts.Enter Code ∷ texts.Globl (codes "main")
    ∷ map written_line (functions_lines (is_long fs) fs) ++ statics_written ls

-- a line that may stand in the code, and whose fields fit
abbrev pub IsCode : Line → Type 0
IsCode (Label name) = IsTrue (is_label name)
IsCode (One one target) = IsRow one × (IsTrue (takes_label one) → IsTrue (is_label target))
IsCode (La register target) = (register < 32) × IsTrue (is_label target)
IsCode (Statics bytes) = ⊥

abbrev pub AreCode : List Line → Type 0
AreCode lines = AllByRecursion IsCode lines

-- the words of code before a function
abbrev pub words_before : (turned : Bool) → (label : ℕ) → List Allocated → ℕ
words_before turned label [] = 0
words_before turned label (f ∷ fs) =
    if label == f.frame.label.0 then 0 else
    words (function_lines turned f) + words_before turned label fs

-- what is emitted has labels of the assembler's syntax
abbrev pub EmittedHasLabels : Type 0
EmittedHasLabels =
    (fs : List Allocated) (ls : List Literal) →
    IsTrue (list_all is_emittable fs) → AreTyped fs ls →
    IsTrue (list_all has_labels (assembly_of fs ls))

-- the lines of a program's functions are code
abbrev pub ProgramIsCode : Type 0
ProgramIsCode =
    (fs : List Allocated) (ls : List Literal) → IsWholeProgram fs ls → AreTyped fs ls →
    AreCode (functions_lines (is_long fs) fs)

-- nothing of what is read of a program is wrong
abbrev pub ProgramIsSound : Type 0
ProgramIsSound =
    (fs : List Allocated) (ls : List Literal) → IsWholeProgram fs ls → AreTyped fs ls →
    IsSound (texts.readings_of (program_written fs ls))

-- the text of a program is assembled without a fault
abbrev pub ProgramHasImage : Type 0
ProgramHasImage =
    (fs : List Allocated) (ls : List Literal) → IsWholeProgram fs ls → AreTyped fs ls →
    assembled (text_of (assembly_of fs ls))
    ≡ Ok (image_of (texts.readings_of (program_written fs ls)))

-- and runs from the first word of its body on
abbrev pub ProgramEntersBody : Type 0
ProgramEntersBody =
    (fs : List Allocated) (ls : List Literal) → IsWholeProgram fs ls → AreTyped fs ls →
    (image_of (texts.readings_of (program_written fs ls))).entry
    ≡ code_base + 4 * words_before (is_long fs) 32 fs
