use Rattle.std.proofs.Common.{◌≡◌, take}
use Rattle.std.specs.Prelude.{fold}
use Rattle.tg_explain_types.proofs.Lists.{with_exp, with_init, with_dec, with_body}
use Rattle.tg_explain_types.proofs.parts.+parts.Given as goal

abbrev pub invariant-put_list-loop-e : goal.invariant-put_list-loop-e
invariant-put_list-loop-e l = l.all.items ≡ fold with_exp l.initial.all.items (take l.e-index l.e-items)

abbrev pub invariant-put_inits-loop-init : goal.invariant-put_inits-loop-init
invariant-put_inits-loop-init l = l.all.items ≡ fold with_init l.initial.all.items (take l.init-index l.init-items)

abbrev pub invariant-put_decs-loop-dec : goal.invariant-put_decs-loop-dec
invariant-put_decs-loop-dec l = l.all.items ≡ fold (with_dec l.end) l.initial.all.items (take l.dec-index l.dec-items)

abbrev pub invariant-put_bodies-loop-function : goal.invariant-put_bodies-loop-function
invariant-put_bodies-loop-function l = l.all.items ≡ fold with_body l.initial.all.items (take l.function-index l.function-items)
