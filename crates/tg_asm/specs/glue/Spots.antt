-- What labels stand for, as the definition has it.
use Rattle.std.specs.Prelude.{Option, Some, None}
use Rattle.tg_asm_text.specs.Assembly as assembly
use Rattle.tg_asm.specs.declared.spots.LabelTarget.{LabelTarget}
use Rattle.tg_asm.specs.declared.spots.LabelTarget.TheVariants.{InCode, InStatics}

abbrev pub spot_of : LabelTarget → assembly.LabelTarget
spot_of (InCode i) = assembly.InCode i
spot_of (InStatics k) = assembly.InStatics k

abbrev pub found_spot : Option LabelTarget → Option assembly.LabelTarget
found_spot (Some s) = Some (spot_of s)
found_spot None = None
