use Rattle.std.proofs.Common.{◌≤◌, length, [], ◌∷◌}
use Rattle.tg_parser.proofs.Params.{Onward}
use Rattle.tg_parser.proofs.forms.more_params.Given as goal

abbrev pub invariant-params : goal.invariant-params
invariant-params l = record {
  onward : Onward (l.fn.first ∷ []) l.fn.tokens l.params.items l.rest;
  shorter : length l.rest ≤ length l.fn.tokens;
}

abbrev pub decreases-params : goal.decreases-params
decreases-params l = length l.rest
