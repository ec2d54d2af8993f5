use Rattle.tg_canon.proofs.Tests.{joins_are_paid}
use Rattle.tg_canon.proofs.Programs.{bodies_carried, calls_are_carried, programs_are_preserved}
use Rattle.tg_canon.proofs.laws.canon_is_correct.Goals as goal

pub returns : goal.returns
returns c = record {
  bodies = λ functions functions' literals size floor room body temps own. bodies_carried functions functions' literals
      size floor room joins_are_paid body temps own;
  calls = λ code size floor room n own. calls_are_carried joins_are_paid code size floor room n own;
  programs = λ code size floor room body input own. programs_are_preserved joins_are_paid code size floor room body input own;
}
