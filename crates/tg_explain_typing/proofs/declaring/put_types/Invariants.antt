use Rattle.std.proofs.Common.{◌≡◌, drop, map}
use Rattle.tg_syntax.specs.glue.Plain.{plain_type}
use Rattle.tg_explain_typing.specs.Facts.{between, types_facts}
use Rattle.tg_explain_typing.proofs.declaring.put_types.Given as goal

abbrev pub invariant-loop-dec : goal.invariant-loop-dec
invariant-loop-dec l =
    types_facts (map plain_type (drop l.dec-index l.dec-items)) (between l.from l.end) l.all.items
    ≡ types_facts (map plain_type l.dec-items) (between l.from l.end) l.initial.all.items
