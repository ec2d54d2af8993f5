-- Runs of an assembly text that a source may have: one that does what the source means.
use Rattle.std.specs.Prelude.{ℕ, ◌≡◌, List, Ok}
use Rattle.tg_machine_state.specs.declared.ends.RunEnd.{RunEnd}
use Rattle.tg_isa.specs.declared.images.Image.{Image}
use Rattle.tg_asm_text.specs.Assembly.{assembled}
use Rattle.tg_asm.specs.Images.{image_of}
use Rattle.tg_driver.specs.Runs.{RunRelation}
use Rattle.tg_driver.specs.Writing.{TextRelation}

-- the image of an assembly text runs so with these sizes and steps
pub record RunsAssembled (runs : RunRelation)
    (assembly : List ℕ) (heap stack steps : ℕ) (end : RunEnd) : Type 0 where
  pub image : Image
  pub assembles : assembled assembly ≡ Ok (image_of image)
  pub run : runs image heap stack steps end

-- and so does that of an assembly text that the source may have
pub record EndsBy (texts : TextRelation) (runs : RunRelation)
    (text : List ℕ) (heap stack steps : ℕ) (end : RunEnd) : Type 0 where
  pub assembly : List ℕ
  pub meant : texts text assembly
  pub ran : RunsAssembled runs assembly heap stack steps end
