-- Words and bytes, memory that has nothing else, and expressions whose constants are words.
use Rattle.std.specs.Prelude.{ℕ, ◌≡◌, ◌<◌, ◌^◌}
use Rattle.tg_simulation.specs.Bytes.{AreBytes}
use Rattle.tg_tree.specs.Tree as tree
use Rattle.tg_tree.specs.Tree.{Tx, Txs, no_txs, tx}
use Rattle.tg_tree.specs.Memory.{Has, Memory}

-- a word of 32 bits
abbrev pub IsWord : ℕ → Type 0
IsWord n = n < 2 ^ 32

-- bytes in statics and heap, and words in the stack
pub record AreWords (m : Memory) : Type 0 where
  pub statics : AreBytes m.statics
  pub heap : AreBytes m.heap
  pub stack : (a v : ℕ) → m.stack a ≡ Has v → IsWord v

-- constants and the numbers of services are words
abbrev mutual
  pub HasWords : Tx → Type 0
  HasWords (tree.Const n) = IsWord n
  HasWords (tree.Binary _ x y) = HasWords x × HasWords y
  HasWords (tree.Load x) = HasWords x
  HasWords (tree.LoadByte x) = HasWords x
  HasWords (tree.Call _ xs) = HaveWords xs
  HasWords (tree.Service n x) = IsWord n × HasWords x
  HasWords _ = Unit {0}

  pub HaveWords : Txs → Type 0
  HaveWords no_txs = Unit {0}
  HaveWords (tx x xs) = HasWords x × HaveWords xs
