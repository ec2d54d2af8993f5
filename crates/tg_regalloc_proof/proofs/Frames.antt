-- A function with slots added to another's.
use Rattle.std.proofs.Common.{ℕ, ◌≡◌, ◌+◌, List}
use Rattle.tg_tree.specs.Tree.{Function}
use Rattle.tg_instr.specs.declared.instr.Instr.{Instr}

pub record HasItsFrame (f g : Function (List Instr)) (more : ℕ) : Type 0 where
  pub label : g.label ≡ f.label
  pub out : g.out ≡ f.out
  pub slots : g.slots ≡ f.slots + more
