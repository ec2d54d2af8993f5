use Rattle.std.proofs.Common.{◌≡◌, ap, ◌∙◌}
use Rattle.tg_machine_state.specs.declared.ends.RunEnd.TheVariants.{BadWord}
use Rattle.tg_isa.specs.Table.{word_of}
use Rattle.tg_bare.proofs.advancing.bad_word.Goals as goal

pub returns-in-Some : goal.returns-in-Some
returns-in-Some c = λ i h.
    let same : c.in-Some.one ≡ i = cc (c.in-Some.ensures.row, h) in
    ap BadWord (c.encode.ensures.word ∙ ap word_of same)

pub returns-in-None : goal.returns-in-None
returns-in-None c = λ i h. absurd (cc (c.in-None.ensures.row, h))
