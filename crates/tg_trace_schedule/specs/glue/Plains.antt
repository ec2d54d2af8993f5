-- The plain blocks of the code's, and what its steps do to them.
use Rattle.std.specs.Prelude.{◌≡◌, ℕ, suc, List, [], ◌∷◌, map, reverse, if◌then◌else◌}
use Rattle.tg_tree.specs.declared.trees.Ts.{Ts}
use Rattle.tg_tree.specs.glue.Plain.{plain_tx, plain_ts}
use Rattle.tg_tree.specs.glue.Lists.{stms_of}
use Rattle.tg_trace_schedule.specs.declared.flows.End.{End as CodeEnd}
use Rattle.tg_trace_schedule.specs.declared.flows.End.TheVariants as code
use Rattle.tg_trace_schedule.specs.declared.flows.Block.{Block as CodeBlock}
use Rattle.tg_trace_schedule.specs.declared.cuts.Cut.{Cut as CodeCut}
use Rattle.tg_trace_schedule.specs.declared.orders.Order.{Order as CodeOrder}
use Rattle.tg_trace_schedule.specs.Block.{BlockEnd, Jump, Branch, Fault, Return, Block}
use Rattle.tg_trace_schedule.specs.mirror.Cutting.{CutBlocks, leaves}
use Rattle.tg_trace_schedule.specs.mirror.Laying.{Order}

abbrev pub plain_end : CodeEnd → BlockEnd
plain_end (code.Jump p) = Jump p
plain_end (code.Branch rel a b p q) = Branch rel (plain_tx a) (plain_tx b) p q
plain_end (code.Fault n) = Fault n
plain_end (code.Return a) = Return (plain_tx a)

abbrev pub plain_block : CodeBlock → Block
plain_block b = record { body = stms_of b.body.items.items; end = plain_end b.end }

abbrev pub plain_blocks : List CodeBlock → List Block
plain_blocks bs = map plain_block bs

-- the code has what is laid, and the statements of the open block, from the last on
abbrev pub plain_cut : CodeCut → CutBlocks
plain_cut c = record {
  laid = plain_blocks c.laid.items;
  places = c.places.items;
  body = stms_of (reverse c.body.items);
  end = plain_end c.end;
}

abbrev pub plain_order : CodeOrder → Order
plain_order o = record { places = o.places.items; laid = o.laid.items }

-- a step, which leaves the marks after loops as they are
pub record Cuts (old new : CodeCut) (step : CutBlocks → CutBlocks) : Type 0 where
  pub exits : new.exits.items ≡ old.exits.items
  pub cut : plain_cut new ≡ step (plain_cut old)

-- how many statements are come to
abbrev pub come_to : List Ts → ℕ
come_to [] = 0
come_to (s ∷ ss) = if leaves (plain_ts s) then 1 else suc (come_to ss)
