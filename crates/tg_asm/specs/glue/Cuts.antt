-- What the code cuts from a line, as the definition has it.
use Rattle.std.specs.Prelude.{ℕ, List, length, map, Option, Some, None}
use Rattle.std.specs.Borrow.{Bor}
use Rattle.tg_asm_text.specs.Lines as lines
use Rattle.tg_asm.specs.declared.cuts.Operand.{Operand}
use Rattle.tg_asm.specs.declared.cuts.Operand.TheVariants.{Plain, Quoted}
use Rattle.tg_asm.specs.declared.cuts.Gap.{Gap}
use Rattle.tg_asm.specs.declared.cuts.Gap.TheVariants.{Over, Next, Misshapen}
use Rattle.tg_asm.specs.declared.cuts.Cut.{Cut}

-- the labels in front of a line
abbrev pub labels_of : List ℕ → List (List ℕ)
labels_of line = (lines.labelled (length line) (lines.skip line)).labels

abbrev pub pair_of : Option (Bor (List ℕ) × Bor (List ℕ)) → Option (List ℕ × List ℕ)
pair_of (Some p) = Some (p.0.now, p.1.now)
pair_of None = None

abbrev pub operand_of : Operand → lines.Operand
operand_of (Plain text) = lines.Plain text.now
operand_of (Quoted text) = lines.Quoted text.now

abbrev pub found_operand : Option (Operand × Bor (List ℕ)) → Option (lines.Operand × List ℕ)
found_operand (Some p) = Some (operand_of p.0, p.1.now)
found_operand None = None

abbrev pub gap_of : Gap → lines.Gap
gap_of Over = lines.Over
gap_of (Next text) = lines.Next text.now
gap_of Misshapen = lines.Misshapen

abbrev pub cut_of : Cut → lines.Cut
cut_of c =
    record {
      labels = labels_of c.line.now;
      word = c.word.now;
      operands = map operand_of c.operands.items;
    }

abbrev pub found_cut : Option Cut → Option lines.Cut
found_cut (Some c) = Some (cut_of c)
found_cut None = None
