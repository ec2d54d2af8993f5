use Rattle.tg_redundancy.proofs.Copied.{row_of, same_of}
use Rattle.tg_redundancy.proofs.copies.same.Goals as goal

pub renamed-requires : goal.renamed-requires
renamed-requires c =
    row_of c.args.one.now c.named-named.result c.or_zero-2.result c.or_zero-3.result c.named-named.ensures c.or_zero-2.ensures c.or_zero-3.ensures

pub returns : goal.returns
returns c =
    same_of c.args.one.now c.renamed.result c.named-named.result c.or_zero.result c.or_zero-2.result c.or_zero-3.result
    c.named-named.ensures c.or_zero.ensures c.or_zero-2.ensures c.or_zero-3.ensures c.renamed.ensures
