use Rattle.std.proofs.Common.{◌≡◌, drop}
use Rattle.tg_explain_typing.specs.Facts.{params_facts}
use Rattle.tg_explain_typing.proofs.declaring.put_params.Given as goal

abbrev pub invariant-loop-param : goal.invariant-loop-param
invariant-loop-param l = record {
  index : l.place ≡ l.param-index;
  onward : params_facts l.text l.f l.param-index (drop l.param-index l.params) l.seen l.all.items ≡ params_facts l.text l.f 0 l.params l.seen l.initial.all.items;
}
