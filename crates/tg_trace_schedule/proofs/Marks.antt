-- Marks, targets, flatness and the end of the code in which blocks are laid.
use Rattle.std.proofs.Common.{◌≡◌, ◌≢◌, ◌<◌, ℕ, zero, suc, Bool, true, false, List, [], ◌∷◌, ◌++◌, length, refl, ap, sym, ◌∙◌, subst, arith}
use Rattle.std.proofs.Common.{append_assoc, append-nil}
use Rattle.std.specs.Prelude.{Option, Some, None, slice_get, slice_set}
use Rattle.std.specs.List.{Contains, AllPairs, AllByRecursion}
use Rattle.tg_tree.specs.Tree as tree
use Rattle.tg_tree.specs.Tree.{Stms, no_stms, stm, Linear, Mark, Do'}
use Rattle.tg_tree.specs.Shapes.{IsFlatCode, IsWellMarked, EndsCode, marks, targets}
use Rattle.tg_trace_schedule.specs.Block.{BlockEnd, Jump, Branch, Fault, Return, Block}
use Rattle.tg_trace_schedule.specs.Shapes.{AreFlatStatements, IsFlatEnd, IsFlatBlock, AreFlatBlocks, EndsBelow, LeadsBelow, AreWhole}
use Rattle.tg_trace_schedule.specs.mirror.Laying.{no_block, block_at, traces, is_next, jump_unless, branch_by, end_code, body_code, block_code, code_in, traced}
use Rattle.tg_trace_schedule.proofs.Places.{traces_keep, all_there}

-- What holds of each block, and of what stands where there is none, holds once one is taken out.
module _ (P : Block → Type 0) (none : P no_block) where
  pub taken : (bs : List Block) (p : ℕ) → ((q : ℕ) → P (block_at bs q)) → (q : ℕ) → P (block_at (slice_set bs p no_block) q)
  taken [] p h q = h q
  taken (b ∷ bs) zero h zero = none
  taken (b ∷ bs) zero h (suc q) = h (suc q)
  taken (b ∷ bs) (suc p) h zero = h zero
  taken (b ∷ bs) (suc p) h (suc q) = taken bs p (λ r. h (suc r)) q

  pub each : (bs : List Block) → AllByRecursion P bs → (q : ℕ) → P (block_at bs q)
  each [] h q = none
  each (b ∷ bs) h zero = h.0
  each (b ∷ bs) h (suc q) = each bs h.1 q

-- flat code
flat_joined : (xs ys : List Linear) → IsFlatCode xs → IsFlatCode ys → IsFlatCode (xs ++ ys)
flat_joined [] ys h k = k
flat_joined (Mark _ ∷ xs) ys h k = flat_joined xs ys h k
flat_joined (Do' _ ∷ xs) ys h k = (h.0, flat_joined xs ys h.1 k)
flat_joined (tree.Jump _ ∷ xs) ys h k = flat_joined xs ys h k
flat_joined (tree.Branch _ _ _ _ ∷ xs) ys h k = (h.0, h.1, flat_joined xs ys h.2 k)
flat_joined (tree.Fault' _ ∷ xs) ys h k = flat_joined xs ys h k
flat_joined (tree.Return' _ ∷ xs) ys h k = (h.0, flat_joined xs ys h.1 k)

flat_body : (ss : Stms) → AreFlatStatements ss → IsFlatCode (body_code ss)
flat_body no_stms h = tt
flat_body (stm s ss) h = (h.0, flat_body ss h.1)

flat_jump : (b : Bool) (p : ℕ) → IsFlatCode (jump_unless b p)
flat_jump true p = tt
flat_jump false p = tt

flat_branch : (b : Bool) (next : Option ℕ) (rel : _) (x y : tree.Tx) (p q : ℕ) → IsFlatEnd (Branch rel x y p q) → IsFlatCode (branch_by b next rel x y p q)
flat_branch true next rel x y p q h = (h.0, h.1, tt)
flat_branch false next rel x y p q h = (h.0, h.1, flat_jump (is_next next q) q)

flat_end : (next : Option ℕ) (e : BlockEnd) → IsFlatEnd e → IsFlatCode (end_code next e)
flat_end next (Jump p) h = flat_jump (is_next next p) p
flat_end next (Branch rel x y p q) h = flat_branch (is_next next p) next rel x y p q h
flat_end next (Fault n) h = tt
flat_end next (Return x) h = (h, tt)

flat_code : (order : List ℕ) (bs : List Block) → ((q : ℕ) → IsFlatBlock (block_at bs q)) → IsFlatCode (code_in order bs)
flat_code [] bs h = tt
flat_code (p ∷ ps) bs h =
    let b = block_at bs p in
    flat_joined (block_code p (slice_get ps 0) b) (code_in ps (slice_set bs p no_block))
    (flat_joined (body_code b.body) (end_code (slice_get ps 0) b.end) (flat_body b.body (h p).0) (flat_end (slice_get ps 0) b.end (h p).1))
    (flat_code ps (slice_set bs p no_block) (taken IsFlatBlock (tt, tt) bs p h))

pub code_is_flat : (bs : List Block) → AreFlatBlocks bs → IsFlatCode (traced bs)
code_is_flat bs h = flat_code (traces (length bs) bs).places bs (each IsFlatBlock (tt, tt) bs h)

-- Its marks are the order.
pub marks_behind_body : (ss : Stms) (rest : List Linear) → marks (body_code ss ++ rest) ≡ marks rest
marks_behind_body no_stms rest = refl
marks_behind_body (stm s ss) rest = marks_behind_body ss rest

marks_behind_jump : (b : Bool) (p : ℕ) (rest : List Linear) → marks (jump_unless b p ++ rest) ≡ marks rest
marks_behind_jump true p rest = refl
marks_behind_jump false p rest = refl

marks_behind_branch : (b : Bool) (next : Option ℕ) (rel : _) (x y : tree.Tx) (p q : ℕ) (rest : List Linear) →
    marks (branch_by b next rel x y p q ++ rest) ≡ marks rest
marks_behind_branch true next rel x y p q rest = refl
marks_behind_branch false next rel x y p q rest = marks_behind_jump (is_next next q) q rest

pub marks_behind_end : (next : Option ℕ) (e : BlockEnd) (rest : List Linear) → marks (end_code next e ++ rest) ≡ marks rest
marks_behind_end next (Jump p) rest = marks_behind_jump (is_next next p) p rest
marks_behind_end next (Branch rel x y p q) rest = marks_behind_branch (is_next next p) next rel x y p q rest
marks_behind_end next (Fault n) rest = refl
marks_behind_end next (Return x) rest = refl

pub marks_are : (order : List ℕ) (bs : List Block) → marks (code_in order bs) ≡ order
marks_are [] bs = refl
marks_are (p ∷ ps) bs =
    let b = block_at bs p in
    let rest = code_in ps (slice_set bs p no_block) in
    let body = body_code b.body in
    let end = end_code (slice_get ps 0) b.end in
    ap (λ m. p ∷ m)
    (ap marks (append_assoc body end rest)
    ∙ (marks_behind_body b.body (end ++ rest) ∙ (marks_behind_end (slice_get ps 0) b.end rest ∙ marks_are ps (slice_set bs p no_block))))

-- It goes to places of the blocks alone.
module _ (n : ℕ) where
  abbrev AllBelow : List ℕ → Type 0
  AllBelow ms = AllByRecursion (λ m. m < n) ms

  below_behind_body : (ss : Stms) (rest : List Linear) → AllBelow (targets rest) → AllBelow (targets (body_code ss ++ rest))
  below_behind_body no_stms rest h = h
  below_behind_body (stm s ss) rest h = below_behind_body ss rest h

  below_behind_jump : (b : Bool) (p : ℕ) (rest : List Linear) → p < n → AllBelow (targets rest) → AllBelow (targets (jump_unless b p ++ rest))
  below_behind_jump true p rest h k = k
  below_behind_jump false p rest h k = (h, k)

  below_behind_branch : (b : Bool) (next : Option ℕ) (rel : _) (x y : tree.Tx) (p q : ℕ) (rest : List Linear) → p < n →
      q < n → AllBelow (targets rest) → AllBelow (targets (branch_by b next rel x y p q ++ rest))
  below_behind_branch true next rel x y p q rest h i k = (i, k)
  below_behind_branch false next rel x y p q rest h i k = (h, below_behind_jump (is_next next q) q rest i k)

  below_behind_end : (next : Option ℕ) (e : BlockEnd) (rest : List Linear) → EndsBelow n e → AllBelow (targets rest) → AllBelow (targets (end_code next e ++ rest))
  below_behind_end next (Jump p) rest h k = below_behind_jump (is_next next p) p rest h k
  below_behind_end next (Branch rel x y p q) rest h k = below_behind_branch (is_next next p) next rel x y p q rest h.0 h.1 k
  below_behind_end next (Fault _) rest h k = k
  below_behind_end next (Return _) rest h k = k

  targets_below : (order : List ℕ) (bs : List Block) → ((q : ℕ) → LeadsBelow n (block_at bs q)) → AllBelow (targets (code_in order bs))
  targets_below [] bs h = tt
  targets_below (p ∷ ps) bs h =
      let b = block_at bs p in
      let rest = code_in ps (slice_set bs p no_block) in
      let body = body_code b.body in
      let end = end_code (slice_get ps 0) b.end in
      let k = targets_below ps (slice_set bs p no_block) (taken (LeadsBelow n) tt bs p h) in
      subst (λ code. AllBelow (targets code)) (sym (append_assoc body end rest))
      (below_behind_body b.body (end ++ rest) (below_behind_end (slice_get ps 0) b.end rest (h p) k))

  among : (ms : List ℕ) (m : ℕ) → AllBelow ms → Contains ms m → m < n
  among [] m h (k, l, e) = absurd (omega arith)
  among (x ∷ ms) m h (zero, l, e) = subst (λ v. v < n) e h.0
  among (x ∷ ms) m h (suc k, l, e) = let j : k < length ms = omega arith in among ms m h.1 (k, j, e)

-- Its last element doesn't go on.
skipped : (x y : Linear) (ys : List Linear) → EndsCode (y ∷ ys) → EndsCode (x ∷ y ∷ ys)
skipped (Mark _) y ys h = h
skipped (Do' _) y ys h = h
skipped (tree.Jump _) y ys h = h
skipped (tree.Branch _ _ _ _) y ys h = h
skipped (tree.Fault' _) y ys h = h
skipped (tree.Return' _) y ys h = h

-- elements before one that ends well
ends_cons : (x : Linear) (ys : List Linear) → EndsCode ys → EndsCode (x ∷ ys)
ends_cons x [] h = absurd h
ends_cons x (y ∷ ys) h = skipped x y ys h

ends_behind : (xs ys : List Linear) → EndsCode ys → EndsCode (xs ++ ys)
ends_behind [] ys h = h
ends_behind (x ∷ xs) ys h = ends_cons x (xs ++ ys) (ends_behind xs ys h)

last_ends : (e : BlockEnd) → EndsCode (end_code None e)
last_ends (Jump p) = tt
last_ends (Branch rel x y p q) = tt
last_ends (Fault n) = tt
last_ends (Return x) = tt

code_ends : (order : List ℕ) (bs : List Block) → 0 < length order → EndsCode (code_in order bs)
code_ends [] bs h = absurd (omega arith)
code_ends (p ∷ []) bs h =
    let b = block_at bs p in
    subst EndsCode (sym (append-nil (block_code p None b))) (ends_cons (Mark p) (body_code b.body ++ end_code None b.end)
    (ends_behind (body_code b.body) (end_code None b.end) (last_ends b.end)))
code_ends (p ∷ q ∷ ps) bs h =
    ends_behind (block_code p (Some q) (block_at bs p)) (code_in (q ∷ ps) (slice_set bs p no_block))
    (code_ends (q ∷ ps) (slice_set bs p no_block) (omega arith))

not_empty : (ms : List ℕ) (m : ℕ) → Contains ms m → 0 < length ms
not_empty ms m (k, l, e) = omega arith

pub code_is_well_marked : (bs : List Block) → AreWhole bs → IsWellMarked (traced bs)
code_is_well_marked bs w =
    let n = length bs in
    let order = (traces n bs).places in
    let code_marks = marks_are order bs in
    record {
      apart = subst (AllPairs (λ a b. a ≢ b)) (sym code_marks) (traces_keep n bs).apart;
      there = λ m h. subst (λ ms. Contains ms m) (sym code_marks)
          (all_there bs m (among n (targets (traced bs)) m (targets_below n order bs (each (LeadsBelow n) tt bs w.within)) h));
      last = code_ends order bs (not_empty order 0 (all_there bs 0 w.entry));
    }
