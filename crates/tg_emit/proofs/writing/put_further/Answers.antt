use Rattle.std.proofs.Common.{◌++◌, [], ◌∷◌, get_or, ap, ◌∙◌, append_assoc}
use Rattle.std.specs.Fmt.{decimal}
use Rattle.tg_emit.specs.mirror.Text.{further_numbers}
use Rattle.tg_emit.proofs.Appending.{one_more, further_more}
use Rattle.tg_emit.proofs.writing.put_further.Goals as goal

pub loop-byte-preserved : goal.loop-byte-preserved
loop-byte-preserved c =
    let b = get_or c.args.bytes.now c.loop-byte.byte-index 0 in
    one_more further_numbers (λ b. 44 ∷ 32 ∷ decimal b) further_more c.args.bytes.now c.loop-byte.byte-index 0 c.loop-byte-test.true c.args.text.now.items
    c.loop-byte.text.items _ c.loop-byte.invariant (c.in_ok-push_decimal.ensures ∙
    (ap (λ l. l ++ decimal b) c.in_ok-extend_from_slice.ensures.items ∙ append_assoc c.loop-byte.text.items (44 ∷ 32 ∷ []) (decimal b)))
