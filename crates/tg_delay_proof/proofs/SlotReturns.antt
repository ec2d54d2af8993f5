-- The places after the slots of calls.
use Rattle.std.proofs.Common.{arith}
use Rattle.tg_emit_proof.proofs.ReturnWords.{behind_first, behind_differ, below_or}
use Rattle.tg_delay_proof.specs.laws.Laws.{SlotsAreReturns}

pub slots_are_returns : SlotsAreReturns
slots_are_returns lines short = record {
  words = λ k h. let r = behind_first 0 lines k h in let b = r.1 in omega (arith, b, short);
  elsewhere = λ k h e. omega (arith, e);
  differ = λ j k h l e.
      below_or j k (λ m. let d = behind_differ 0 lines j k m l in omega (arith, d, e)) (λ m. let d =
      behind_differ 0 lines k j m h in omega (arith, d, e));
}
