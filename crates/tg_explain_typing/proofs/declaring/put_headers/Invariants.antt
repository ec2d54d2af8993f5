use Rattle.std.proofs.Common.{◌≡◌, take}
use Rattle.std.specs.Prelude.{fold}
use Rattle.tg_explain_typing.specs.Facts.{between}
use Rattle.tg_explain_typing.specs.glue.Bodies.{header_of}
use Rattle.tg_explain_typing.proofs.declaring.put_headers.Given as goal

abbrev pub invariant-loop-function : goal.invariant-loop-function
invariant-loop-function l = l.all.items ≡ fold (λ w f. header_of l.text f (between l.from l.end) w) l.initial.all.items (take l.function-index l.function-items)
