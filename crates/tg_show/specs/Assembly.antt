-- The lines of a function's assembly, as `build` writes them, behind a margin (Appel, chapter 12).
use Rattle.std.specs.Prelude.{ℕ, List, [], ◌∷◌, ◌++◌, codes}
use Rattle.tg_emit.specs.declared.assembly.Line.{Line}
use Rattle.tg_emit.specs.mirror.Text.{line_text}

abbrev pub assembly_line : Line → List ℕ
assembly_line line = codes "  " ++ (line_text line ++ 10 ∷ [])

abbrev pub assembly_lines : List Line → List ℕ
assembly_lines [] = []
assembly_lines (line ∷ rest) = assembly_line line ++ assembly_lines rest
