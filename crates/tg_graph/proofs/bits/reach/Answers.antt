use Rattle.std.proofs.Common.{◌≤◌, length, arith}
use Rattle.tg_graph.proofs.Places.{bit_filled}
use Rattle.tg_graph.proofs.bits.reach.Goals as goal

pub returns-in_ok-resize-clause-bits : goal.returns-in_ok-resize-clause-bits
returns-in_ok-resize-clause-bits c =
    let few : length c.args.words.now.items ≤ 512 = omega (arith, c.args.words.now.ok.0) in
    bit_filled c.args.words.now.items c.resize.new.self.items 512 _ few c.in_ok-resize.ensures.items
