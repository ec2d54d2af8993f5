-- The laws of assembly text.
use Rattle.std.specs.Prelude.{ℕ, ◌≡◌, List, Ok}
use Rattle.tg_asm_text.specs.declared.keywords.Segment.TheVariants.{Code}
use Rattle.tg_asm_text.specs.Lines.{lines}
use Rattle.tg_asm_text.specs.Assembly.{Reading, assembled}
use Rattle.tg_asm_text.specs.Placement.{Reads, IsSound, image_of}
use Rattle.tg_asm_text.specs.Texts.{Line, text_of, readings_of, AreLines}

-- the readings of a text without a fault: each line is read so, and nothing of them is wrong
pub record HasReadings (text : List ℕ) (rs : List Reading) : Type 0 where
  pub reads : Reads Code (lines text) rs
  pub sound : IsSound rs

-- a text whose lines are read without a fault has the image of its readings: the statics are the
-- items' padded bytes in order, and a label is where the next item of its segment begins
abbrev pub ReadingsHaveImage : Type 0
ReadingsHaveImage =
    (text : List ℕ) (rs : List Reading) → HasReadings text rs → assembled text ≡ Ok (image_of rs)

-- a text that is put together from lines has their image, and no fault
abbrev pub LinesHaveImage : Type 0
LinesHaveImage =
    (ls : List Line) → AreLines Code ls → IsSound (readings_of ls) →
    assembled (text_of ls) ≡ Ok (image_of (readings_of ls))
