use Rattle.std.proofs.Common.{◌≡◌, take, drop}
use Rattle.std.specs.Prelude.{fold}
use Rattle.tg_syntax.specs.glue.Lists.{exps_of}
use Rattle.tg_explain_typing.specs.Facts.{args_facts}
use Rattle.tg_explain_typing.specs.glue.Bodies.{body_facts}
use Rattle.tg_explain_typing.proofs.Lists.{with_exp, with_init, with_dec}
use Rattle.tg_explain_typing.proofs.walk.+walk.Given as goal

abbrev pub invariant-put_list-loop-e : goal.invariant-put_list-loop-e
invariant-put_list-loop-e l = l.all.items ≡ fold (with_exp l.text l.at) l.initial.all.items (take l.e-index l.e-items)

abbrev pub invariant-put_arguments-loop-e : goal.invariant-put_arguments-loop-e
invariant-put_arguments-loop-e l = record {
  index : l.place ≡ l.e-index;
  onward : args_facts l.text l.at l.f l.e-index (exps_of (drop l.e-index l.e-items)) l.all.items ≡ args_facts l.text l.at l.f 0 (exps_of l.e-items) l.initial.all.items;
}

abbrev pub invariant-put_inits-loop-init : goal.invariant-put_inits-loop-init
invariant-put_inits-loop-init l = l.all.items ≡ fold (with_init l.text l.at l.x) l.initial.all.items (take l.init-index l.init-items)

abbrev pub invariant-put_decs-loop-dec : goal.invariant-put_decs-loop-dec
invariant-put_decs-loop-dec l = l.all.items ≡ fold (with_dec l.text l.at l.end) l.initial.all.items (take l.dec-index l.dec-items)

abbrev pub invariant-put_bodies-loop-function : goal.invariant-put_bodies-loop-function
invariant-put_bodies-loop-function l = l.all.items ≡ fold (λ w f. body_facts l.text l.at f w) l.initial.all.items (take l.function-index l.function-items)
