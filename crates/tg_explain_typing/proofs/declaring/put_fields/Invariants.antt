use Rattle.std.proofs.Common.{◌≡◌, ◌++◌, take}
use Rattle.tg_explain_typing.specs.glue.Bodies.{fields_of}
use Rattle.tg_explain_typing.proofs.declaring.put_fields.Given as goal

abbrev pub invariant-loop-field : goal.invariant-loop-field
invariant-loop-field l = l.all.items ≡ l.initial.all.items ++ fields_of l.owner (take l.field-index l.fields)
