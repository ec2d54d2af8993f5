use Rattle.std.proofs.Common.{refl}
use Rattle.tg_driver.specs.Calls.{stream_of}
use Rattle.tg_driver.proofs.CanonicalTexts.{formatted_of_refused, untyped_stays}
use Rattle.tg_driver.proofs.formatting.format_source.Goals as goal

pub returns-in-Err : goal.returns-in-Err
returns-in-Err g c =
    let out = stream_of g.O.Sink.taken g.O.Sink.faults c.args.out.now c.args.out.now in
    record {
      due = formatted_of_refused out c.args.text.now c.refused_untyped.result c.refused_untyped.ensures;
      before_start = untyped_stays out c.args.text.now c.refused_untyped.result c.refused_untyped.ensures refl;
    }
