-- No block is laid twice, so the code of an order is that of the blocks in it.
use Rattle.std.proofs.Common.{◌≡◌, ◌≢◌, ℕ, zero, suc, List, [], ◌∷◌, ◌++◌, length, refl, ap, sym, ◌∙◌, arith}
use Rattle.std.specs.Prelude.{slice_get, slice_set}
use Rattle.std.specs.List.{Contains, AllPairs}
use Rattle.tg_tree.specs.Tree.{Linear}
use Rattle.tg_trace_schedule.specs.Block.{Block}
use Rattle.tg_trace_schedule.specs.mirror.Laying.{no_block, block_at, block_code, code_in, traces, traced}
use Rattle.tg_trace_schedule.proofs.Places.{traces_keep}

pub other_block : (bs : List Block) (p q : ℕ) → p ≢ q → block_at (slice_set bs p no_block) q ≡ block_at bs q
other_block [] p q n = refl
other_block (x ∷ xs) zero zero n = absurd (n refl)
other_block (x ∷ xs) zero (suc q) n = refl
other_block (x ∷ xs) (suc p) zero n = refl
other_block (x ∷ xs) (suc p) (suc q) n = other_block xs p q (λ e. n (ap suc e))

pub in_rest : (p : ℕ) (ps : List ℕ) (q : ℕ) → Contains ps q → Contains (p ∷ ps) q
in_rest p ps q (k, l, e) = (suc k, omega arith, e)

pub first_apart : (p : ℕ) (ps : List ℕ) → AllPairs (λ x y. x ≢ y) (p ∷ ps) → (q : ℕ) → Contains ps q → p ≢ q
first_apart p ps h q (k, l, e) = λ same. h 0 (suc k) q (omega arith) (omega arith) (same ∙ sym e)

pub rest_apart : (p : ℕ) (ps : List ℕ) → AllPairs (λ x y. x ≢ y) (p ∷ ps) → AllPairs (λ x y. x ≢ y) ps
rest_apart p ps h = λ i k d l n. h (suc i) (suc k) d (omega arith) (omega arith)

module _ (bs : List Block) where
  -- the code of the blocks in an order
  abbrev pub laid_code : (order : List ℕ) → List Linear
  laid_code [] = []
  laid_code (p ∷ ps) = block_code p (slice_get ps 0) (block_at bs p) ++ laid_code ps

  code_in_is :
      (order : List ℕ) (left : List Block) → AllPairs (λ x y. x ≢ y) order →
      ((q : ℕ) → Contains order q → block_at left q ≡ block_at bs q) → code_in order left ≡ laid_code order
  code_in_is [] left apart same = refl
  code_in_is (p ∷ ps) left apart same =
      let next = slice_get ps 0 in
      let left' = slice_set left p no_block in
      let rest : code_in ps left' ≡ laid_code ps =
      code_in_is ps left' (rest_apart p ps apart) (λ q c. other_block left p q (first_apart p ps apart q c) ∙ same q (in_rest p ps q c)) in
      ap (λ b. block_code p next b ++ code_in ps left') (same p (0, omega arith, refl)) ∙ ap (λ xs. block_code p next (block_at bs p) ++ xs) rest

  pub traced_is : traced bs ≡ laid_code (traces (length bs) bs).places
  traced_is = code_in_is (traces (length bs) bs).places bs (traces_keep (length bs) bs).apart (λ q c. refl)
