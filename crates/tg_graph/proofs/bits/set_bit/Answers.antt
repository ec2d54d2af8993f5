use Rattle.std.proofs.Common.{◌*◌, ◌/◌, ◌%◌, ◌^◌, set, bit_or, ap, ◌∙◌}
use Rattle.std.proofs.lemmas.List.{get_or_read}
use Rattle.tg_graph.specs.glue.Bits.{bit}
use Rattle.tg_graph.proofs.Places.{bit_written}
use Rattle.tg_graph.proofs.bits.set_bit.Goals as goal

pub returns : goal.returns
returns c = λ k.
    let words = c.args.words.now.items in
    let at = c.args.at in
    ap (λ w. bit (set words (at / 32) (bit_or w (1 * 2 ^ (at % 32) % 4294967296))) k)
    (get_or_read words (at / 32) c.index_mut.result.now c.requires c.index_mut.ensures.value 0)
    ∙ bit_written words at k c.requires
