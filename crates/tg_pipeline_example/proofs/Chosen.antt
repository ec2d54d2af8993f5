-- What the instructions of the program do, and its image, computed.
use Rattle.std.proofs.Common.{◌≤◌, refl, arith}
use Rattle.std.specs.Fmt.{digits}
use Rattle.tg_munch.specs.mirror.Choosing.{◌>>=◌}
use Rattle.tg_pipeline_example.specs.laws.Laws.{
  InstructionsEnd,
  KnownEnds,
  FramesEnd,
  ImageEnds,
  WordsAreCounted,
}

pub instructions_end : InstructionsEnd
unfolding ◌>>=◌
instructions_end = (refl, refl)

pub known_ends : KnownEnds
unfolding ◌>>=◌
known_ends = (refl, refl)

pub words_are_counted : WordsAreCounted
unfolding ◌>>=◌
words_are_counted = record {
  unit = λ to from. refl;
  kept = refl;
  flat = refl;
  words = refl;
  within = omega arith;
}

pub frames_end : FramesEnd
unfolding ◌>>=◌
frames_end = (refl, refl)

pub image_ends : ImageEnds
unfolding ◌>>=◌ digits
image_ends = (refl, refl)
