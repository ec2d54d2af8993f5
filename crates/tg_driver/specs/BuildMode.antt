-- The mode `build`: reads a source, and writes to the output an assembly text that the source may
-- have: one that does what the source means.
use Rattle.tg_command.specs.Commands.{Asked}
use Rattle.tg_driver.specs.declared.answers.Answer.{Answer}
use Rattle.tg_driver.specs.Calls.{Shelved, Streams}
use Rattle.tg_driver.specs.Writing.{TextRelation, ByWriting}

abbrev pub ByBuild :
    {H I O : Type 0} → (assembly : TextRelation) → Shelved H → Streams I O → Asked → Answer → Type 0
ByBuild assembly shelf s asked answer = ByWriting shelf s assembly asked answer
