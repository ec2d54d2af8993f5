use Rattle.std.proofs.Common.{◌++◌, refl}
use Rattle.tg_stages.proofs.Joined.{two_told}
use Rattle.tg_stages.proofs.functions.put_code_with_graphs.Goals as goal

pub returns : goal.returns
returns c =
    let first = c.in_ok-put_first_round.ensures in
    let later = c.in_ok-put_later_rounds.ensures in
    record {
      told = first.told ++ later.told;
      is_behind = two_told c.args.text.now.items _ _ first.told later.told first.is_behind later.is_behind;
      holds = record {
        first = first.told;
        later = later.told;
        tells_first = first.holds;
        tells_later = later.holds;
        text_is = refl;
      };
    }
