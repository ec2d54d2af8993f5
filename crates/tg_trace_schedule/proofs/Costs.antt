-- What blocks and their code count, for any weights of their parts. A mark and a jump count m and j, a flat statement s, a branch b, a return r and a fault f.
use Rattle.std.proofs.Common.{◌≡◌, ◌≢◌, ◌≤◌, ◌<◌, ℕ, zero, suc, ◌+◌, ◌-◌, Bool, true, false, List, [], ◌∷◌, ◌++◌, length, take, map, get_or, refl, ap}
use Rattle.std.proofs.Common.{sym, subst, arith}
use Rattle.std.specs.Prelude.{Option, Some, None, reverse, slice_get, slice_set, slice_index, if◌then◌else◌}
use Rattle.std.specs.List.{Contains, AllPairs}
use Rattle.std.proofs.lemmas.List.{reverse-append}
use Rattle.tg_tree.specs.Tree as tree
use Rattle.tg_tree.specs.Tree.{Tx, Cond, Compare, Not, Both, Either, Ts, Move, Store, StoreByte, Do, If, Loop, Break, Seq, Stms, no_stms, stm, Linear}
use Rattle.tg_tree.specs.Tree.{Mark, Do'}
use Rattle.tg_trace_schedule.specs.Block.{BlockEnd, Jump, Branch, Fault, Return, Block}
use Rattle.tg_trace_schedule.specs.mirror.Cutting.{CutBlocks, open_at, draw, stand, lay, leads, seal_by, next_mark, seal, branch, head, leaves, cut, cut_all}
use Rattle.tg_trace_schedule.specs.mirror.Cutting.{start}
use Rattle.tg_trace_schedule.specs.mirror.Cutting.{entered_by, entered, placed_end, placed, blocks_of}
use Rattle.tg_trace_schedule.specs.mirror.Laying.{no_block, block_at, is_next, jump_unless, branch_by, end_code, body_code, block_code, code_in, traces, traced}
use Rattle.tg_trace_schedule.proofs.Places.{traces_keep}
use Rattle.tg_trace_schedule.proofs.TracesCode.{other_block, in_rest, first_apart, rest_apart}

module _ (m j : ℕ) (s : Ts → ℕ) (b : Tx → Tx → ℕ) (r : Tx → ℕ) (f : ℕ → ℕ) where
  abbrev pub body_cost : Stms → ℕ
  body_cost no_stms = 0
  body_cost (stm t ts) = s t + body_cost ts

  abbrev pub end_cost : BlockEnd → ℕ
  end_cost (Jump _) = j
  end_cost (Branch _ x y _ _) = b x y + j
  end_cost (Fault n) = f n
  end_cost (Return x) = r x

  abbrev pub block_cost : Block → ℕ
  block_cost a = m + (body_cost a.body + end_cost a.end)

  abbrev pub blocks_cost : List Block → ℕ
  blocks_cost [] = 0
  blocks_cost (a ∷ as') = block_cost a + blocks_cost as'

  abbrev open_cost : CutBlocks → ℕ
  open_cost c = body_cost c.body + end_cost c.end

  abbrev cut_cost : CutBlocks → ℕ
  cut_cost c = blocks_cost c.laid + open_cost c

  -- what statements count
  abbrev pub condition_cost : Cond → ℕ
  condition_cost (Compare _ x y) = b x y
  condition_cost (Not d) = condition_cost d
  condition_cost (Both d e) = (m + j) + (condition_cost d + condition_cost e)
  condition_cost (Either d e) = (m + j) + (condition_cost d + condition_cost e)

  abbrev mutual
    pub statement_cost : Ts → ℕ
    statement_cost (Move i x) = s (Move i x)
    statement_cost (Store x y) = s (Store x y)
    statement_cost (StoreByte x y) = s (StoreByte x y)
    statement_cost (Do x) = s (Do x)
    statement_cost (If d t u) = (m + m + m + j + j + j) + (condition_cost d + (statement_cost t + statement_cost u))
    statement_cost (Loop t) = (m + m + j + j) + statement_cost t
    statement_cost (Break _) = j
    statement_cost (tree.Fault n) = f n
    statement_cost (Seq ts) = statements_cost ts
    statement_cost (tree.Return x) = r x

    pub statements_cost : Stms → ℕ
    statements_cost no_stms = 0
    statements_cost (stm t ts) = statement_cost t + statements_cost ts

  blocks_cost_joined : (xs ys : List Block) → blocks_cost (xs ++ ys) ≡ blocks_cost xs + blocks_cost ys
  blocks_cost_joined [] ys = omega arith
  blocks_cost_joined (x ∷ xs) ys = let h = blocks_cost_joined xs ys in omega (arith, h)

  lay_cost : (mark : ℕ) (c : CutBlocks) → blocks_cost (lay mark c).laid ≡ cut_cost c + m
  lay_cost mark c = let h = blocks_cost_joined c.laid (record { body = c.body; end = c.end } ∷ []) in omega (arith, h)

  seal_by_cost : (o : Option ℕ) (c : CutBlocks) → blocks_cost (seal_by o c).laid ≤ cut_cost c + m
  seal_by_cost (Some mark) c = omega arith
  seal_by_cost None c = let h = lay_cost (length c.places) (draw (length c.laid) c) in omega (arith, h)

  seal_cost : (c : CutBlocks) → blocks_cost (seal c).laid ≤ cut_cost c + m
  seal_cost c = seal_by_cost (leads c.body c.end) c

  branch_cost : (d : Cond) (yes' no' : ℕ) (c : CutBlocks) → cut_cost (branch d yes' no' c) ≤ blocks_cost c.laid + (condition_cost d + j)
  branch_cost (Compare rel x y) yes' no' c = omega arith
  branch_cost (Not d) yes' no' c = branch_cost d no' yes' c
  branch_cost (Both d e) yes' no' c =
      let second = branch e yes' no' c in
      let h = branch_cost e yes' no' c in
      let k = seal_cost second in
      let l = branch_cost d (next_mark second) no' (seal second) in
      omega (arith, h, k, l)
  branch_cost (Either d e) yes' no' c =
      let second = branch e yes' no' c in
      let h = branch_cost e yes' no' c in
      let k = seal_cost second in
      let l = branch_cost d yes' (next_mark second) (seal second) in
      omega (arith, h, k, l)

  head_cost : (mark : ℕ) (c : CutBlocks) → cut_cost (head mark c) ≤ cut_cost c + (m + j)
  head_cost mark c = let h = lay_cost mark (stand mark (length c.laid) c) in omega (arith, h)

  sides_cost :
      (exits : List ℕ) (d : Cond) (t u : Ts) (c : CutBlocks) →
      ((a : CutBlocks) → cut_cost (cut exits u a) ≤ cut_cost a + statement_cost u) → ((a : CutBlocks) → cut_cost (cut exits t a) ≤ cut_cost a + statement_cost t) →
      cut_cost (cut exits (If d t u) c) ≤ cut_cost c + statement_cost (If d t u)
  sides_cost exits d t u c cost_u cost_t =
      let join = next_mark c in
      let c1 = open_at (Jump join) (seal c) in
      let c2 = cut exits u c1 in
      let c3 = open_at (Jump join) (seal c2) in
      let c4 = cut exits t c3 in
      let h1 = seal_cost c in
      let h2 = cost_u c1 in
      let h3 = seal_cost c2 in
      let h4 = cost_t c3 in
      let h5 = seal_cost c4 in
      let h6 = branch_cost d (next_mark c4) (next_mark c2) (seal c4) in
      omega (arith, h1, h2, h3, h4, h5, h6)

  turn_cost :
      (exits : List ℕ) (t : Ts) (c : CutBlocks) →
      ((a : CutBlocks) → cut_cost (cut (exits ++ next_mark c ∷ []) t a) ≤ cut_cost a + statement_cost t) →
      cut_cost (cut exits (Loop t) c) ≤ cut_cost c + statement_cost (Loop t)
  turn_cost exits t c cost_t =
      let c1 = seal c in
      let mark = length c1.places in
      let c2 = open_at (Jump mark) (draw 0 c1) in
      let c3 = cut (exits ++ next_mark c ∷ []) t c2 in
      let h1 = seal_cost c in
      let h2 = cost_t c2 in
      let h3 = head_cost mark c3 in
      omega (arith, h1, h2, h3)

  either_cost : (v : Bool) (c d : CutBlocks) (n : ℕ) → cut_cost d ≤ cut_cost c + n → cut_cost (if v then c else d) ≤ cut_cost c + n
  either_cost true c d n h = omega arith
  either_cost false c d n h = h

  mutual
    cut_costs : (exits : List ℕ) (t : Ts) (c : CutBlocks) → cut_cost (cut exits t c) ≤ cut_cost c + statement_cost t
    cut_costs exits (Move i x) c = omega arith
    cut_costs exits (Store x y) c = omega arith
    cut_costs exits (StoreByte x y) c = omega arith
    cut_costs exits (Do x) c = omega arith
    cut_costs exits (If d t u) c = sides_cost exits d t u c (cut_costs exits u) (cut_costs exits t)
    cut_costs exits (Loop t) c = turn_cost exits t c (cut_costs (exits ++ next_mark c ∷ []) t)
    cut_costs exits (Break k) c = omega arith
    cut_costs exits (tree.Fault n) c = omega arith
    cut_costs exits (Seq ts) c = all_cost exits ts c
    cut_costs exits (tree.Return x) c = omega arith

    all_cost : (exits : List ℕ) (ts : Stms) (c : CutBlocks) → cut_cost (cut_all exits ts c) ≤ cut_cost c + statements_cost ts
    all_cost exits no_stms c = omega arith
    all_cost exits (stm t ts) c =
        let behind = cut_all exits ts c in
        let h = either_cost (leaves t) c behind (statements_cost ts) (all_cost exits ts c) in
        let k = cut_costs exits t (if leaves t then c else behind) in
        omega (arith, h, k)

  taken_cost : (n : ℕ) (bs : List Block) → blocks_cost (take n bs) ≤ blocks_cost bs
  taken_cost zero [] = omega arith
  taken_cost (suc n) [] = omega arith
  taken_cost zero (x ∷ xs) = omega arith
  taken_cost (suc n) (x ∷ xs) = let h = taken_cost n xs in omega (arith, h)

  entered_cost : (o : Option ℕ) (c : CutBlocks) → blocks_cost (entered_by o c) ≤ cut_cost c + m
  entered_cost (Some mark) c = let h = taken_cost (slice_index c.places mark + 1) c.laid in omega (arith, h)
  entered_cost None c = let h = blocks_cost_joined c.laid (record { body = c.body; end = c.end } ∷ []) in omega (arith, h)

  reversed_cost : (bs : List Block) → blocks_cost (reverse bs) ≡ blocks_cost bs
  reversed_cost [] = refl
  reversed_cost (x ∷ xs) =
      let e = ap blocks_cost (reverse-append (x ∷ []) xs) in
      let h = blocks_cost_joined (reverse xs) (x ∷ []) in
      let k = reversed_cost xs in
      omega (arith, e, h, k)

  end_placed_cost : (places : List ℕ) (last : ℕ) (e : BlockEnd) → end_cost (placed_end places last e) ≡ end_cost e
  end_placed_cost places last (Jump p) = refl
  end_placed_cost places last (Branch rel x y p q) = refl
  end_placed_cost places last (Fault n) = refl
  end_placed_cost places last (Return x) = refl

  placed_cost : (places : List ℕ) (last : ℕ) (bs : List Block) → blocks_cost (map (placed places last) bs) ≡ blocks_cost bs
  placed_cost places last [] = refl
  placed_cost places last (x ∷ xs) =
      let h = end_placed_cost places last x.end in
      let k = placed_cost places last xs in
      omega (arith, h, k)

  pub blocks_cost_no_more : (ts : Stms) → blocks_cost (blocks_of ts) ≤ statements_cost ts + (m + f 0)
  blocks_cost_no_more ts =
      let c = cut_all [] ts start in
      let all = entered c in
      let h1 = all_cost [] ts start in
      let h2 = entered_cost (leads c.body c.end) c in
      let h3 = reversed_cost all in
      let h4 = placed_cost c.places (length all - 1) (reverse all) in
      omega (arith, h1, h2, h3, h4)

  -- Flat code.
  abbrev pub element_cost : Linear → ℕ
  element_cost (Mark _) = m
  element_cost (Do' t) = s t
  element_cost (tree.Jump _) = j
  element_cost (tree.Branch _ x y _) = b x y
  element_cost (tree.Fault' n) = f n
  element_cost (tree.Return' x) = r x

  abbrev pub code_cost : List Linear → ℕ
  code_cost [] = 0
  code_cost (e ∷ es) = element_cost e + code_cost es

  code_cost_joined : (xs ys : List Linear) → code_cost (xs ++ ys) ≡ code_cost xs + code_cost ys
  code_cost_joined [] ys = omega arith
  code_cost_joined (x ∷ xs) ys = let h = code_cost_joined xs ys in omega (arith, h)

  body_code_cost : (ts : Stms) → code_cost (body_code ts) ≡ body_cost ts
  body_code_cost no_stms = refl
  body_code_cost (stm t ts) = let h = body_code_cost ts in omega (arith, h)

  jump_code_cost : (v : Bool) (p : ℕ) → code_cost (jump_unless v p) ≤ j
  jump_code_cost true p = omega arith
  jump_code_cost false p = omega arith

  branch_code_cost : (v : Bool) (next : Option ℕ) (rel : _) (x y : Tx) (p q : ℕ) → code_cost (branch_by v next rel x y p q) ≤ b x y + j
  branch_code_cost true next rel x y p q = omega arith
  branch_code_cost false next rel x y p q = let h = jump_code_cost (is_next next q) q in omega (arith, h)

  end_code_cost : (next : Option ℕ) (e : BlockEnd) → code_cost (end_code next e) ≤ end_cost e
  end_code_cost next (Jump p) = jump_code_cost (is_next next p) p
  end_code_cost next (Branch rel x y p q) = branch_code_cost (is_next next p) next rel x y p q
  end_code_cost next (Fault n) = omega arith
  end_code_cost next (Return x) = omega arith

  block_code_cost : (p : ℕ) (next : Option ℕ) (a : Block) → code_cost (block_code p next a) ≤ block_cost a
  block_code_cost p next a =
      let h = body_code_cost a.body in
      let k = end_code_cost next a.end in
      let e = code_cost_joined (body_code a.body) (end_code next a.end) in
      omega (arith, h, k, e)

  -- a block that is taken out doesn't count any more
  abbrev total : List ℕ → ℕ
  total [] = 0
  total (w ∷ ws) = w + total ws

  abbrev costs : List Block → List ℕ
  costs bs = map block_cost bs

  total_costs : (bs : List Block) → total (costs bs) ≡ blocks_cost bs
  total_costs [] = refl
  total_costs (x ∷ xs) = let h = total_costs xs in omega (arith, h)

  taken_out : (ws : List ℕ) (p : ℕ) → total (slice_set ws p 0) + get_or ws p 0 ≡ total ws
  taken_out [] p = refl
  taken_out (w ∷ ws) zero = omega arith
  taken_out (w ∷ ws) (suc p) = let h = taken_out ws p in omega (arith, h)

  other_cost : (ws : List ℕ) (p q : ℕ) → p ≢ q → get_or (slice_set ws p 0) q 0 ≡ get_or ws q 0
  other_cost [] p q n = refl
  other_cost (x ∷ xs) zero zero n = absurd (n refl)
  other_cost (x ∷ xs) zero (suc q) n = refl
  other_cost (x ∷ xs) (suc p) zero n = refl
  other_cost (x ∷ xs) (suc p) (suc q) n = other_cost xs p q (λ e. n (ap suc e))

  code_in_cost :
      (order : List ℕ) (bs : List Block) (ws : List ℕ) → AllPairs (λ x y. x ≢ y) order →
      ((q : ℕ) → Contains order q → block_cost (block_at bs q) ≤ get_or ws q 0) → code_cost (code_in order bs) ≤ total ws
  code_in_cost [] bs ws apart h = omega arith
  code_in_cost (p ∷ ps) bs ws apart h =
      let bs' = slice_set bs p no_block in
      let ws' = slice_set ws p 0 in
      let keep = λ (q : ℕ) (c : Contains ps q).
      let n = first_apart p ps apart q c in
      subst (λ x. block_cost x ≤ get_or ws' q 0) (sym (other_block bs p q n))
      (subst (λ x. block_cost (block_at bs q) ≤ x) (sym (other_cost ws p q n)) (h q (in_rest p ps q c))) in
      let rest = code_in_cost ps bs' ws' (rest_apart p ps apart) keep in
      let one = block_code_cost p (slice_get ps 0) (block_at bs p) in
      let own = h p (0, omega arith, refl) in
      let sum = taken_out ws p in
      let e = code_cost_joined (block_code p (slice_get ps 0) (block_at bs p)) (code_in ps bs') in
      omega (arith, rest, one, own, sum, e)

  cost_at : (bs : List Block) (q : ℕ) → q < length bs → block_cost (block_at bs q) ≤ get_or (costs bs) q 0
  cost_at [] q h = absurd (omega arith)
  cost_at (x ∷ xs) zero h = omega arith
  cost_at (x ∷ xs) (suc q) h = cost_at xs q (omega arith)

  pub code_cost_no_more : (bs : List Block) → code_cost (traced bs) ≤ blocks_cost bs
  code_cost_no_more bs =
      let n = length bs in
      let o = traces_keep n bs in
      let h = code_in_cost (traces n bs).places bs (costs bs) o.apart (λ q c. cost_at bs q (o.within q c)) in
      let k = total_costs bs in
      omega (arith, h, k)

  pub traced_cost_no_more : (ts : Stms) → code_cost (traced (blocks_of ts)) ≤ statements_cost ts + (m + f 0)
  traced_cost_no_more ts =
      let h = blocks_cost_no_more ts in
      let k = code_cost_no_more (blocks_of ts) in
      omega (arith, h, k)
