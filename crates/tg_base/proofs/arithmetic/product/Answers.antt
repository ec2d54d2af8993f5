use Rattle.std.proofs.Common.{w32, to_z}
use Rattle.std.proofs.Math.Facts.{sfits_to_z}
use Rattle.tg_base.proofs.ProductBits.{product_bits}
use Rattle.tg_base.proofs.arithmetic.product.Goals as goal
use mir.Val.{SFits}

pub returns : goal.returns
returns c =
    let f : SFits w32 (to_z w32 c.args.a) = sfits_to_z c.ranges.a in
    let g : SFits w32 (to_z w32 c.args.b) = sfits_to_z c.ranges.b in
    let h = product_bits (to_z w32 c.args.a) (to_z w32 c.args.b) f g in
    cc
