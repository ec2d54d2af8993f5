use Rattle.std.proofs.Common.{◌≡◌, ◌+◌, drop}
use Rattle.tg_translate.specs.mirror.Functions.{parameters, own_homes}
use Rattle.tg_translate.proofs.functions.declare_params.Given as goal

abbrev pub invariant-loop-param : goal.invariant-loop-param
invariant-loop-param l = record {
  place : l.at ≡ l.param-index + 1;
  so_far :
      parameters l.level l.params (own_homes l.homes) l.fn.table
      ≡ parameters l.level (drop l.param-index l.params) (drop (l.param-index + 1) l.homes) l.table;
}
