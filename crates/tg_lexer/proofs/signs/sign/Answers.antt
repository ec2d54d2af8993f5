use Rattle.tg_lexer.proofs.SignSteps.{no_sign, ends_alone, ends_pair, one_sign}
use Rattle.tg_lexer.proofs.signs.sign.Goals as goal
use Rattle.tg_lexer.proofs.signs.sign.Goals.{in-Some-byte_at+in_default-pair, in_default-byte_at}

pub returns-in-Some-single : goal.returns-in-Some-single
returns-in-Some-single c =
    one_sign _ _ _ c.in-Some.ensures c.in-Some-single.ensures
    (elim c.match-byte_at-2.branch [
      | in-Some-byte_at+in_default-pair w ↦ ends_pair _ _ _ c.in-Some.ensures
          w.in-Some-byte_at.ensures w.in_default-pair.ensures
      | in_default-byte_at w ↦ ends_alone _ _ c.in-Some.ensures w.in_default-byte_at.ensures
    ])

pub returns-in-None : goal.returns-in-None
returns-in-None c = no_sign _ _ c.in-Some.ensures c.in-None.ensures
