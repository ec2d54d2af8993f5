-- A small program and its image, computed.
use Rattle.std.proofs.Common.{◌≡◌, List, [], ◌∷◌, ◌++◌, map, Bool, true, false, refl}
use Rattle.std.specs.Prelude.{codes}
use Rattle.std.specs.Fmt.{digits}
use Rattle.tg_asm_text.specs.Assembly.{Assembled}
use Rattle.tg_asm_text.specs.Placement.{image_of}
use Rattle.tg_asm_text.specs.Texts as texts
use Rattle.tg_asm_text.specs.declared.keywords.Segment.TheVariants.{Code}
use Rattle.tg_tree.specs.declared.operators.Rel.TheVariants.{LessEqual}
use Rattle.tg_instr.specs.declared.operands.Opnd.TheVariants.{Reg}
use Rattle.tg_instr.specs.declared.instr.Instr.{Instr}
use Rattle.tg_instr.specs.declared.instr.Instr.TheVariants.{Addiu, Address, Mark, Jump, Branch, Call, Return}
use Rattle.tg_tree.specs.declared.fragments.Literal.{Literal}
use Rattle.tg_emit.specs.mirror.Lines.{entry, code_lines}
use Rattle.tg_emit_laws.specs.Programs.{labels_differ, is_among, names_those, bytes_of}
use Rattle.tg_emit_laws.specs.Images.{written_line, statics_written}

-- counts $t0 down to 0, and calls itself with the address of a literal
abbrev down : List Instr
down =
    Address (Reg 4) (record { 0 = 40 }) ∷ Mark 5 ∷ Addiu (Reg 8) (Reg 8) 65535
    ∷ Branch (record { rel = LessEqual; left = Reg 8; right = Reg 0; is_one_row = refl }) 7
    ∷ Jump 5 ∷ Mark 7 ∷ Call (record { 0 = 32 }) ∷ Return ∷ []

abbrev literal : Literal
literal = record { label = record { 0 = 40 }; text = 1 ∷ 255 ∷ 7 ∷ 8 ∷ 9 ∷ [] }

abbrev program : Bool → List texts.Line
program turned =
    texts.Enter Code ∷ texts.Globl (codes "main")
    ∷ map written_line (entry 32 8 ++ code_lines turned 32 8 0 down) ++ statics_written (literal ∷ [])

-- the branch goes 1 word ahead of the next, the jump and the call to their words
near : Assembled
near = record {
  code = 0x27BDFFF8 ∷ 0x8FA00000 ∷ 0x3C041001 ∷ 0x34840000 ∷ 0x2508FFFF ∷ 0x19000001 ∷ 0x08100004 ∷ 0x0C100000 ∷ 0x27BD0008 ∷ 0x03E00008 ∷ [];
  statics = 1 ∷ 255 ∷ 7 ∷ 8 ∷ 9 ∷ 0 ∷ 0 ∷ 0 ∷ [];
  entry = 0x00400000;
}

near_image : image_of (texts.readings_of (program false)) ≡ near
unfolding digits near
near_image = refl

-- turned round, the branch goes over a jump
far : Assembled
far = record {
  code = 0x27BDFFF8 ∷ 0x8FA00000 ∷ 0x3C041001 ∷ 0x34840000 ∷ 0x2508FFFF ∷ 0x1D000001 ∷ 0x08100008 ∷ 0x08100004 ∷ 0x0C100000 ∷ 0x27BD0008 ∷ 0x03E00008 ∷ [];
  statics = 1 ∷ 255 ∷ 7 ∷ 8 ∷ 9 ∷ 0 ∷ 0 ∷ 0 ∷ [];
  entry = 0x00400000;
}

far_image : image_of (texts.readings_of (program true)) ≡ far
unfolding digits far
far_image = refl

labels : (labels_differ (32 ∷ 33 ∷ 40 ∷ []) ≡ true) × (labels_differ (32 ∷ 33 ∷ 32 ∷ []) ≡ false) × (is_among (33 ∷ 32 ∷ []) 32 ≡ true) ×
    (is_among [] 32 ≡ false)
labels = (refl, refl, refl, refl)

named : (names_those (32 ∷ []) (40 ∷ []) (Call (record { 0 = 32 })) ≡ true) × (names_those (32 ∷ []) (40 ∷ []) (Call (record { 0 = 40 })) ≡ false) ×
    (names_those (32 ∷ []) (40 ∷ []) (Address (Reg 4) (record { 0 = 32 })) ≡ false)
named = (refl, refl, refl)

bytes : bytes_of (literal ∷ literal ∷ []) ≡ 16
bytes = refl
