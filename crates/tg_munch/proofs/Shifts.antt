-- A shift by a word is long.
use Rattle.std.proofs.Common.{◌≤◌, ◌*◌, List, [], ◌∷◌, arith}
use Rattle.tg_tree.specs.declared.operators.Bin.{Bin}
use Rattle.tg_tree.specs.declared.operators.Bin.TheVariants as bin
use Rattle.tg_tree.specs.Tree as tree
use Rattle.tg_tree.specs.Tree.{Tx, Txs, Ts, Linear, Function, no_txs, tx}
use Rattle.tg_tree.specs.Units.{Canonical, operator_units}
use Rattle.tg_tree.specs.Sizes.{expression_length, arguments_length, statement_length, element_length, code_length}
use Rattle.tg_munch.specs.laws.Lengths.{by_word, word_shifts, arguments_shifts, statement_shifts, element_shifts, code_shifts, ShiftsAreLong}

operator_long : (op : Bin) (y : Tx) → 21 * by_word op y ≤ operator_units op y
operator_long bin.ShiftLeft (tree.Const n) = omega arith
operator_long bin.ShiftLeft y = omega arith
operator_long bin.ShiftRight (tree.Const n) = omega arith
operator_long bin.ShiftRight y = omega arith
operator_long bin.ShiftSigned (tree.Const n) = omega arith
operator_long bin.ShiftSigned y = omega arith
operator_long op y = omega arith

mutual
  expression_long : (x : Tx) → 21 * word_shifts x ≤ expression_length Canonical x
  expression_long (tree.Binary op x y) =
      let h = operator_long op y in let i = expression_long x in let j = expression_long y in omega (arith, h, i, j)
  expression_long (tree.Load x) = let h = expression_long x in omega (arith, h)
  expression_long (tree.LoadByte x) = let h = expression_long x in omega (arith, h)
  expression_long (tree.Call label xs) = let h = arguments_long xs in omega (arith, h)
  expression_long (tree.Service n x) = let h = expression_long x in omega (arith, h)
  expression_long (tree.After s x) = let h = expression_long x in omega (arith, h)
  expression_long _ = omega arith

  arguments_long : (xs : Txs) → 21 * arguments_shifts xs ≤ arguments_length Canonical xs
  arguments_long no_txs = omega arith
  arguments_long (tx x xs) = let h = expression_long x in let i = arguments_long xs in omega (arith, h, i)

statement_long : (s : Ts) → 21 * statement_shifts s ≤ statement_length Canonical s
statement_long (tree.Move i x) = let h = expression_long x in omega (arith, h)
statement_long (tree.Store x y) = let h = expression_long x in let i = expression_long y in omega (arith, h, i)
statement_long (tree.StoreByte x y) = let h = expression_long x in let i = expression_long y in omega (arith, h, i)
statement_long (tree.Do x) = let h = expression_long x in omega (arith, h)
statement_long _ = omega arith

element_long : (e : Linear) → 21 * element_shifts e ≤ element_length e
element_long (tree.Do' s) = let h = statement_long s in omega (arith, h)
element_long (tree.Branch rel x y m) = let h = expression_long x in let i = expression_long y in omega (arith, h, i)
element_long (tree.Return' x) = let h = expression_long x in omega (arith, h)
element_long _ = omega arith

code_long : (code : List Linear) → 21 * code_shifts code ≤ code_length code
code_long [] = omega arith
code_long (e ∷ rest) = let h = element_long e in let i = code_long rest in omega (arith, h, i)

pub shifts_long : ShiftsAreLong
shifts_long f = let h = code_long f.body in omega (arith, h)
