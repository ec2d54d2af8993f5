-- Lengths and needs of canonical statements and of the code of their blocks.
use Rattle.std.proofs.Common.{◌≡◌, ◌≤◌, ℕ, ◌+◌, List, [], ◌∷◌, refl, arith}
use Rattle.tg_tree.specs.Tree as tree
use Rattle.tg_tree.specs.Tree.{Tx, Cond, Compare, Not, Both, Either, Ts, Move, Store, StoreByte, Do, If, Loop, Break, Seq, Stms, no_stms, stm, Linear}
use Rattle.tg_tree.specs.Tree.{Mark, Do'}
use Rattle.tg_tree.specs.Units.{Canonical}
use Rattle.tg_tree.specs.Sizes.{in_canonical, expression_length, condition_length, statement_length, statements_length, code_length, expression_needs}
use Rattle.tg_tree.specs.Sizes.{condition_needs, statement_needs, statements_needs, code_needs}
use Rattle.tg_trace_schedule.specs.mirror.Cutting.{blocks_of}
use Rattle.tg_trace_schedule.specs.mirror.Laying.{traced}
use Rattle.tg_trace_schedule.proofs.Costs.{condition_cost, statement_cost, statements_cost, code_cost, traced_cost_no_more}

-- Lengths.
abbrev len : Tx → ℕ
len x = expression_length Canonical x

abbrev branch_len : Tx → Tx → ℕ
branch_len x y = 2 + (len x + len y)

abbrev return_len : Tx → ℕ
return_len x = 14 + len x

abbrev condition_len : Cond → ℕ
condition_len d = condition_cost 1 1 (statement_length Canonical) branch_len return_len (λ n. 1) d

abbrev statement_len : Ts → ℕ
statement_len s = statement_cost 1 1 (statement_length Canonical) branch_len return_len (λ n. 1) s

abbrev statements_len : Stms → ℕ
statements_len ss = statements_cost 1 1 (statement_length Canonical) branch_len return_len (λ n. 1) ss

abbrev code_len : List Linear → ℕ
code_len code = code_cost 1 1 (statement_length Canonical) branch_len return_len (λ n. 1) code

condition_pays : (d : Cond) → condition_len d + 2 ≤ condition_length Canonical d
condition_pays (Compare rel x y) = omega arith
condition_pays (Not d) = let h = condition_pays d in omega (arith, h)
condition_pays (Both d e) = let h = condition_pays d in let k = condition_pays e in omega (arith, h, k)
condition_pays (Either d e) = let h = condition_pays d in let k = condition_pays e in omega (arith, h, k)

mutual
  statement_pays : (s : Ts) → statement_len s ≤ statement_length Canonical s
  statement_pays (Move i x) = omega arith
  statement_pays (Store x y) = omega arith
  statement_pays (StoreByte x y) = omega arith
  statement_pays (Do x) = omega arith
  statement_pays (If d s t) = let h = condition_pays d in let k = statement_pays s in let l = statement_pays t in omega (arith, h, k, l)
  statement_pays (Loop s) = let h = statement_pays s in omega (arith, h)
  statement_pays (Break k) = omega arith
  statement_pays (tree.Fault n) = omega arith
  statement_pays (Seq ss) = let h = statements_pay ss in omega (arith, h)
  statement_pays (tree.Return x) = omega arith

  statements_pay : (ss : Stms) → statements_len ss ≤ statements_length Canonical ss
  statements_pay no_stms = omega arith
  statements_pay (stm s ss) = let h = statement_pays s in let k = statements_pay ss in omega (arith, h, k)

code_len_is : (code : List Linear) → code_length code ≡ code_len code
code_len_is [] = refl
code_len_is (Mark m ∷ rest) = let h = code_len_is rest in omega (arith, h)
code_len_is (Do' s ∷ rest) = let h = code_len_is rest in omega (arith, h)
code_len_is (tree.Jump m ∷ rest) = let h = code_len_is rest in omega (arith, h)
code_len_is (tree.Branch rel x y m ∷ rest) = let h = code_len_is rest in omega (arith, h)
code_len_is (tree.Fault' n ∷ rest) = let h = code_len_is rest in omega (arith, h)
code_len_is (tree.Return' x ∷ rest) = let h = code_len_is rest in omega (arith, h)

pub length_stays : (ss : Stms) → code_length (traced (blocks_of ss)) ≤ statements_length Canonical ss + 2
length_stays ss =
    let h : code_len (traced (blocks_of ss)) ≤ statements_len ss + (1 + 1) = traced_cost_no_more 1 1 (statement_length Canonical) branch_len return_len (λ n. 1) ss in
    let k = statements_pay ss in
    let e = code_len_is (traced (blocks_of ss)) in
    omega (arith, h, k, e)

-- Needs.
abbrev room : Tx → ℕ
room x = expression_needs in_canonical x

abbrev branch_needs : Tx → Tx → ℕ
branch_needs x y = 1 + (room x + room y)

abbrev condition_takes : Cond → ℕ
condition_takes d = condition_cost 0 0 (statement_needs in_canonical) branch_needs room (λ n. 0) d

abbrev statement_takes : Ts → ℕ
statement_takes s = statement_cost 0 0 (statement_needs in_canonical) branch_needs room (λ n. 0) s

abbrev statements_take : Stms → ℕ
statements_take ss = statements_cost 0 0 (statement_needs in_canonical) branch_needs room (λ n. 0) ss

abbrev code_takes : List Linear → ℕ
code_takes code = code_cost 0 0 (statement_needs in_canonical) branch_needs room (λ n. 0) code

condition_has_needs : (d : Cond) → condition_takes d ≤ condition_needs in_canonical d
condition_has_needs (Compare rel x y) = omega arith
condition_has_needs (Not d) = let h = condition_has_needs d in omega (arith, h)
condition_has_needs (Both d e) = let h = condition_has_needs d in let k = condition_has_needs e in omega (arith, h, k)
condition_has_needs (Either d e) = let h = condition_has_needs d in let k = condition_has_needs e in omega (arith, h, k)

mutual
  statement_has_needs : (s : Ts) → statement_takes s ≤ statement_needs in_canonical s
  statement_has_needs (Move i x) = omega arith
  statement_has_needs (Store x y) = omega arith
  statement_has_needs (StoreByte x y) = omega arith
  statement_has_needs (Do x) = omega arith
  statement_has_needs (If d s t) = let h = condition_has_needs d in let k = statement_has_needs s in let l = statement_has_needs t in omega (arith, h, k, l)
  statement_has_needs (Loop s) = let h = statement_has_needs s in omega (arith, h)
  statement_has_needs (Break k) = omega arith
  statement_has_needs (tree.Fault n) = omega arith
  statement_has_needs (Seq ss) = let h = statements_have_needs ss in omega (arith, h)
  statement_has_needs (tree.Return x) = omega arith

  statements_have_needs : (ss : Stms) → statements_take ss ≤ statements_needs in_canonical ss
  statements_have_needs no_stms = omega arith
  statements_have_needs (stm s ss) = let h = statement_has_needs s in let k = statements_have_needs ss in omega (arith, h, k)

code_takes_is : (code : List Linear) → code_needs in_canonical code ≡ code_takes code
code_takes_is [] = refl
code_takes_is (Mark m ∷ rest) = let h = code_takes_is rest in omega (arith, h)
code_takes_is (Do' s ∷ rest) = let h = code_takes_is rest in omega (arith, h)
code_takes_is (tree.Jump m ∷ rest) = let h = code_takes_is rest in omega (arith, h)
code_takes_is (tree.Branch rel x y m ∷ rest) = let h = code_takes_is rest in omega (arith, h)
code_takes_is (tree.Fault' n ∷ rest) = let h = code_takes_is rest in omega (arith, h)
code_takes_is (tree.Return' x ∷ rest) = let h = code_takes_is rest in omega (arith, h)

pub needs_stay : (ss : Stms) → code_needs in_canonical (traced (blocks_of ss)) ≤ statements_needs in_canonical ss
needs_stay ss =
    let h : code_takes (traced (blocks_of ss)) ≤ statements_take ss + (0 + 0) =
    traced_cost_no_more 0 0 (statement_needs in_canonical) branch_needs room (λ n. 0) ss in
    let k = statements_have_needs ss in
    let e = code_takes_is (traced (blocks_of ss)) in
    omega (arith, h, k, e)
