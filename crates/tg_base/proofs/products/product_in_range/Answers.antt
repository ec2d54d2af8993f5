use Rattle.tg_base.proofs.ProductLaws.{product_of}
use Rattle.tg_base.proofs.products.product_in_range.Goals as goal

pub returns : goal.returns
returns c = product_of
