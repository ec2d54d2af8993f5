-- What the functions of an assembly have to be, so that each number fits its field.
use Rattle.std.specs.Prelude.{ℕ, ◌+◌, ◌*◌, ◌^◌, ◌&&◌, Bool, true, false, nat_lt, nat_le}
use Rattle.std.specs.List.{list_all}
use Rattle.tg_asm_text.specs.Operands.{is_label}
use Rattle.tg_asm_text.specs.Writing.{takes_label}
use Rattle.tg_instr.specs.declared.instr.Instr.{Instr}
use Rattle.tg_instr.specs.declared.instr.Instr.TheVariants.{Fault, FrameLoad, FrameStore}
use Rattle.tg_instr.specs.declared.codes.Allocated.{Allocated}
use Rattle.tg_emit.specs.declared.assembly.Line.{Line}
use Rattle.tg_emit.specs.declared.assembly.Line.TheVariants.{Label, One, La, Statics}
use Rattle.tg_emit.specs.mirror.Lines.{size_of}

-- the code of a `break` has 20 bits
abbrev pub has_code : Instr → Bool
has_code (Fault n) = nat_lt n (2 ^ 20)
has_code _ = true

-- a slot stands within a frame of so many bytes
abbrev pub fits_frame : (size : ℕ) → Instr → Bool
fits_frame size (FrameLoad _ k) = nat_le (4 * (k + 1)) size
fits_frame size (FrameStore _ k) = nat_le (4 * (k + 1)) size
fits_frame size _ = true

-- a frame is below 2 ^ 29 bytes
abbrev pub is_emittable : Allocated → Bool
is_emittable f = nat_lt (size_of f.frame) (2 ^ 29) && list_all has_code f.code.list

abbrev pub only_if : Bool → Bool → Bool
only_if true b = b
only_if false b = true

-- each label is one of the assembly's syntax
abbrev pub has_labels : Line → Bool
has_labels (Label name) = is_label name
has_labels (One one target) = only_if (takes_label one) (is_label target)
has_labels (La register target) = is_label target
has_labels (Statics bytes) = true
