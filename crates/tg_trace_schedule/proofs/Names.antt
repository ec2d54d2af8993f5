-- The code of blocks names nothing that their statements don't name, but for a fault 0.
use Rattle.std.proofs.Common.{◌≡◌, ◌≤◌, ℕ, zero, suc, ◌+◌, Bool, true, false, List, [], ◌∷◌, refl, subst, arith}
use Rattle.std.specs.Prelude.{IsTrue}
use Rattle.std.specs.List.{Contains}
use Rattle.tg_tree.specs.Tree as tree
use Rattle.tg_tree.specs.Tree.{Tx, Const, Address, Temp, FrameAddress, Binary, Load, LoadByte, Call, Service, After, Txs, no_txs, tx, Cond, Compare}
use Rattle.tg_tree.specs.Tree.{Not, Both, Either, Ts, Move, Store, StoreByte, Do, If, Loop, Break, Seq, Stms, no_stms, stm, Linear, Mark, Do'}
use Rattle.tg_tree.specs.Named.{NamesAreAllowed, Named, fault, named_tx, named_txs, named_cond, named_ts, named_stms, named_flat}
use Rattle.tg_trace_schedule.specs.mirror.Cutting.{blocks_of}
use Rattle.tg_trace_schedule.specs.mirror.Laying.{traced}
use Rattle.tg_trace_schedule.proofs.Costs.{condition_cost, statement_cost, statements_cost, code_cost, traced_cost_no_more}

module _ (allowed : Named → Bool) where
  abbrev counted : Bool → ℕ
  counted true = 0
  counted false = 1

  abbrev forbidden : Named → ℕ
  forbidden x = counted (allowed x)

  -- how many aren't allowed
  abbrev strange : List Named → ℕ
  strange [] = 0
  strange (x ∷ xs) = forbidden x + strange xs

  mutual
    split_tx : (x : Tx) (after : List Named) → strange (named_tx x after) ≡ strange (named_tx x []) + strange after
    split_tx (Const n) after = omega arith
    split_tx (Address label) after = omega arith
    split_tx (Temp i) after = omega arith
    split_tx FrameAddress after = omega arith
    split_tx (Binary op x y) after =
        let h = split_tx x (named_tx y after) in let k = split_tx y after in let l = split_tx x (named_tx y []) in omega (arith, h, k, l)
    split_tx (Load x) after = split_tx x after
    split_tx (LoadByte x) after = split_tx x after
    split_tx (Call label xs) after = let h = split_txs xs after in omega (arith, h)
    split_tx (Service n x) after = let h = split_tx x after in omega (arith, h)
    split_tx (After s x) after =
        let h = split_ts s (named_tx x after) in let k = split_tx x after in let l = split_ts s (named_tx x []) in omega (arith, h, k, l)

    split_txs : (xs : Txs) (after : List Named) → strange (named_txs xs after) ≡ strange (named_txs xs []) + strange after
    split_txs no_txs after = omega arith
    split_txs (tx x xs) after =
        let h = split_tx x (named_txs xs after) in let k = split_txs xs after in let l = split_tx x (named_txs xs []) in omega (arith, h, k, l)

    split_cond : (c : Cond) (after : List Named) → strange (named_cond c after) ≡ strange (named_cond c []) + strange after
    split_cond (Compare rel x y) after =
        let h = split_tx x (named_tx y after) in let k = split_tx y after in let l = split_tx x (named_tx y []) in omega (arith, h, k, l)
    split_cond (Not c) after = split_cond c after
    split_cond (Both c d) after =
        let h = split_cond c (named_cond d after) in let k = split_cond d after in let l = split_cond c (named_cond d []) in omega (arith, h, k, l)
    split_cond (Either c d) after =
        let h = split_cond c (named_cond d after) in let k = split_cond d after in let l = split_cond c (named_cond d []) in omega (arith, h, k, l)

    split_ts : (s : Ts) (after : List Named) → strange (named_ts s after) ≡ strange (named_ts s []) + strange after
    split_ts (Move i x) after = let h = split_tx x after in omega (arith, h)
    split_ts (Store x y) after =
        let h = split_tx x (named_tx y after) in let k = split_tx y after in let l = split_tx x (named_tx y []) in omega (arith, h, k, l)
    split_ts (StoreByte x y) after =
        let h = split_tx x (named_tx y after) in let k = split_tx y after in let l = split_tx x (named_tx y []) in omega (arith, h, k, l)
    split_ts (Do x) after = split_tx x after
    split_ts (If c s t) after =
        let h = split_cond c (named_ts s (named_ts t after)) in
        let k = split_ts s (named_ts t after) in
        let l = split_ts t after in
        let h' = split_cond c (named_ts s (named_ts t [])) in
        let k' = split_ts s (named_ts t []) in
        omega (arith, h, k, l, h', k')
    split_ts (Loop s) after = split_ts s after
    split_ts (Break k) after = omega arith
    split_ts (tree.Fault n) after = omega arith
    split_ts (Seq ss) after = split_stms ss after
    split_ts (tree.Return x) after = split_tx x after

    split_stms : (ss : Stms) (after : List Named) → strange (named_stms ss after) ≡ strange (named_stms ss []) + strange after
    split_stms no_stms after = omega arith
    split_stms (stm s ss) after =
        let h = split_ts s (named_stms ss after) in let k = split_stms ss after in let l = split_ts s (named_stms ss []) in omega (arith, h, k, l)

  abbrev in_statement : Ts → ℕ
  in_statement s = strange (named_ts s [])

  abbrev in_branch : Tx → Tx → ℕ
  in_branch x y = strange (named_tx x (named_tx y []))

  abbrev in_value : Tx → ℕ
  in_value x = strange (named_tx x [])

  abbrev in_fault : ℕ → ℕ
  in_fault n = forbidden (fault n)

  condition_names : (d : Cond) → condition_cost 0 0 in_statement in_branch in_value in_fault d ≡ strange (named_cond d [])
  condition_names (Compare rel x y) = refl
  condition_names (Not d) = condition_names d
  condition_names (Both d e) = let h = condition_names d in let k = condition_names e in let l = split_cond d (named_cond e []) in omega (arith, h, k, l)
  condition_names (Either d e) = let h = condition_names d in let k = condition_names e in let l = split_cond d (named_cond e []) in omega (arith, h, k, l)

  mutual
    statement_names : (s : Ts) → statement_cost 0 0 in_statement in_branch in_value in_fault s ≡ strange (named_ts s [])
    statement_names (Move i x) = refl
    statement_names (Store x y) = refl
    statement_names (StoreByte x y) = refl
    statement_names (Do x) = refl
    statement_names (If d s t) =
        let h = condition_names d in
        let k = statement_names s in
        let l = statement_names t in
        let h' = split_cond d (named_ts s (named_ts t [])) in
        let k' = split_ts s (named_ts t []) in
        omega (arith, h, k, l, h', k')
    statement_names (Loop s) = let h = statement_names s in omega (arith, h)
    statement_names (Break k) = refl
    statement_names (tree.Fault n) = omega arith
    statement_names (Seq ss) = statements_names ss
    statement_names (tree.Return x) = refl

    statements_names : (ss : Stms) → statements_cost 0 0 in_statement in_branch in_value in_fault ss ≡ strange (named_stms ss [])
    statements_names no_stms = refl
    statements_names (stm s ss) = let h = statement_names s in let k = statements_names ss in let l = split_ts s (named_stms ss []) in omega (arith, h, k, l)

  code_names : (code : List Linear) → code_cost 0 0 in_statement in_branch in_value in_fault code ≡ strange (named_flat code [])
  code_names [] = refl
  code_names (Mark m ∷ rest) = let h = code_names rest in omega (arith, h)
  code_names (Do' s ∷ rest) = let h = code_names rest in let k = split_ts s (named_flat rest []) in omega (arith, h, k)
  code_names (tree.Jump m ∷ rest) = let h = code_names rest in omega (arith, h)
  code_names (tree.Branch rel x y m ∷ rest) =
      let h = code_names rest in let k = split_tx x (named_tx y (named_flat rest [])) in let l = split_tx y (named_flat rest []) in
      let n = split_tx x (named_tx y []) in omega (arith, h, k, l, n)
  code_names (tree.Fault' n ∷ rest) = let h = code_names rest in omega (arith, h)
  code_names (tree.Return' x ∷ rest) = let h = code_names rest in let k = split_tx x (named_flat rest []) in omega (arith, h, k)

  no_more_names : (ss : Stms) → strange (named_flat (traced (blocks_of ss)) []) ≤ strange (named_stms ss []) + in_fault 0
  no_more_names ss =
      let h : code_cost 0 0 in_statement in_branch in_value in_fault (traced (blocks_of ss)) ≤ statements_cost 0 0 in_statement in_branch in_value in_fault ss + (0 + in_fault 0) =
      traced_cost_no_more 0 0 in_statement in_branch in_value in_fault ss in
      let k = code_names (traced (blocks_of ss)) in
      let l = statements_names ss in
      omega (arith, h, k, l)

  -- none is strange exactly where each is allowed
  allowed_is : (b : Bool) → b ≡ true → counted b ≡ 0
  allowed_is true e = refl
  allowed_is false e = cc

  none_strange : (xs : List Named) → NamesAreAllowed allowed xs → strange xs ≡ 0
  none_strange [] h = refl
  none_strange (x ∷ xs) h =
      let k : strange xs ≡ 0 = none_strange xs (λ y c. h y (in_rest x xs y c)) in
      let l : forbidden x ≡ 0 = allowed_is (allowed x) (h x (0, omega arith, refl)) in
      omega (arith, k, l)
    where
      in_rest : (x : Named) (xs : List Named) (y : Named) → Contains xs y → Contains (x ∷ xs) y
      in_rest x xs y (k, l, e) = (suc k, omega arith, e)

  is_allowed : (b : Bool) → counted b ≡ 0 → b ≡ true
  is_allowed true e = refl
  is_allowed false e = absurd (omega arith)

  all_allowed : (xs : List Named) → strange xs ≡ 0 → NamesAreAllowed allowed xs
  all_allowed [] h y (k, l, e) = absurd (omega arith)
  all_allowed (x ∷ xs) h y (zero, l, e) = subst (λ v. allowed v ≡ true) e (is_allowed (allowed x) (omega arith))
  all_allowed (x ∷ xs) h y (suc k, l, e) = all_allowed xs (omega arith) y (k, omega arith, e)

  pub names_stay : (ss : Stms) → IsTrue (allowed (fault 0)) → NamesAreAllowed allowed (named_stms ss []) → NamesAreAllowed allowed (named_flat (traced (blocks_of ss)) [])
  names_stay ss z h =
      let k = no_more_names ss in
      let l : strange (named_stms ss []) ≡ 0 = none_strange (named_stms ss []) h in
      let n : in_fault 0 ≡ 0 = allowed_is (allowed (fault 0)) z in
      all_allowed (named_flat (traced (blocks_of ss)) []) (omega (arith, k, l, n))
