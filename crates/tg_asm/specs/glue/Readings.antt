-- Readings of the code, as the definition has them.
use Rattle.tg_asm_text.specs.Assembly as assembly
use Rattle.tg_asm.specs.declared.readings.Reading.{Reading}
use Rattle.tg_asm.specs.glue.Cuts.{labels_of}
use Rattle.tg_asm.specs.glue.Means.{item_of}

abbrev pub reading_of : Reading → assembly.Reading
reading_of r = record { labels = labels_of r.line.now; item = item_of r.item }
