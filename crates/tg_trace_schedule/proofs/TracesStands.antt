-- Where the code of a block stands in the code of an order: after its mark, and before the mark of the next.
use Rattle.std.proofs.Common.{◌≡◌, ◌≢◌, ◌<◌, ℕ, zero, suc, inl, inr, Bool, List, [], ◌∷◌, ◌++◌, length, refl, ap, sym, ◌∙◌, subst, arith}
use Rattle.std.proofs.Common.{append_assoc, append-nil, length-append}
use Rattle.std.specs.Prelude.{Option, Some, slice_get, if◌then◌else◌}
use Rattle.std.specs.List.{Contains, AllPairs}
use Rattle.std.proofs.lemmas.Bool.{cases_lt, ne_eqb, eq-eqb}
use Rattle.std.proofs.lemmas.List.Elements.{Contains-append_right}
use Rattle.std.proofs.Math.Seq.{get_or-append_seam}
use Rattle.std.proofs.Math.ListN.{get_or-append}
use Rattle.tg_tree.specs.Tree as tree
use Rattle.tg_tree.specs.Tree.{Linear, Mark, Do'}
use Rattle.tg_tree.specs.Shapes.{marks}
use Rattle.tg_tree.specs.Flat.{behind}
use Rattle.tg_trace_schedule.specs.Block.{Block}
use Rattle.tg_trace_schedule.specs.mirror.Laying.{block_at, end_code, body_code, block_code, traces, traced}
use Rattle.tg_trace_schedule.specs.laws.Heads.{LeadsTo, AreEnteredAtHeads}
use Rattle.tg_trace_schedule.proofs.Places.{traces_keep, all_there}
use Rattle.tg_trace_schedule.proofs.Marks.{marks_behind_body, marks_behind_end}
use Rattle.tg_trace_schedule.proofs.TracesCode.{laid_code, traced_is}
use Rattle.tg_trace_schedule.proofs.TracesOrders.{Each, HeadsStand, traces_heads}

-- after a mark that stands for the first time
behind_mark : (p : ℕ) (xs rest : List Linear) → (Contains (marks xs) p → ⊥) → behind p (xs ++ Mark p ∷ rest) ≡ Some rest
behind_mark p [] rest n = ap (λ (b : Bool). if b then Some rest else behind p rest) (eq-eqb p p refl)
behind_mark p (Mark k ∷ xs) rest n =
    ap (λ (b : Bool). if b then Some (xs ++ Mark p ∷ rest) else behind p (xs ++ Mark p ∷ rest)) (ne_eqb k p (λ e. n (0, omega arith, e))) ∙
    behind_mark p xs rest (λ c. n (Contains-append_right (k ∷ []) (marks xs) p c))
behind_mark p (Do' s ∷ xs) rest n = behind_mark p xs rest n
behind_mark p (tree.Jump m ∷ xs) rest n = behind_mark p xs rest n
behind_mark p (tree.Branch rel x y m ∷ xs) rest n = behind_mark p xs rest n
behind_mark p (tree.Fault' m ∷ xs) rest n = behind_mark p xs rest n
behind_mark p (tree.Return' x ∷ xs) rest n = behind_mark p xs rest n

-- of elements that differ, none stands before itself
abbrev NotBefore : (before : List ℕ) → ℕ → Type 0
NotBefore before p = Contains before p → ⊥

not_before : (before : List ℕ) (p : ℕ) (ps : List ℕ) → AllPairs (λ x y. x ≢ y) (before ++ p ∷ ps) → NotBefore before p
not_before before p ps apart (k, l, e) =
    apart k (length before) p l (omega (arith, length-append before (p ∷ ps)))
    (get_or-append before (p ∷ ps) p k l ∙ e ∙ sym (get_or-append_seam before p ps p))

all_apart : (before order : List ℕ) → AllPairs (λ x y. x ≢ y) (before ++ order) → Each NotBefore before order
all_apart before [] apart = tt
all_apart before (p ∷ ps) apart = (
  not_before before p ps apart,
  all_apart (before ++ p ∷ []) ps (subst (AllPairs (λ x y. x ≢ y)) (sym (append_assoc before (p ∷ []) ps)) apart),
)

-- the marks of code and of a block's after it
block_marks : (xs : List Linear) (p : ℕ) (next : Option ℕ) (b : Block) → marks (xs ++ block_code p next b) ≡ marks xs ++ p ∷ []
block_marks [] p next b =
    ap (λ ms. p ∷ ms)
    (marks_behind_body b.body (end_code next b.end) ∙ (ap marks (sym (append-nil (end_code next b.end))) ∙ marks_behind_end next b.end []))
block_marks (Mark m ∷ xs) p next b = ap (λ ms. m ∷ ms) (block_marks xs p next b)
block_marks (Do' s ∷ xs) p next b = block_marks xs p next b
block_marks (tree.Jump m ∷ xs) p next b = block_marks xs p next b
block_marks (tree.Branch rel x y m ∷ xs) p next b = block_marks xs p next b
block_marks (tree.Fault' m ∷ xs) p next b = block_marks xs p next b
block_marks (tree.Return' x ∷ xs) p next b = block_marks xs p next b

some_same : (r q : ℕ) → Some r ≡ Some q → r ≡ q
some_same r q e = cc

-- what stands after a block's code is the next block, to which it leads only if that stands above
pub record Falls (bs : List Block) (whole : List Linear) (p : ℕ) (more : List Linear) (q : ℕ) : Type 0 where
  pub rest : List Linear
  pub is : more ≡ Mark q ∷ rest
  pub stands : behind q whole ≡ Some rest
  pub ahead : LeadsTo (block_at bs p).end q → p < q

pub record Stands (bs : List Block) (whole : List Linear) (p : ℕ) : Type 0 where
  pub next : Option ℕ
  pub more : List Linear
  pub stands : behind p whole ≡ Some (body_code (block_at bs p).body ++ (end_code next (block_at bs p).end ++ more))
  pub falls : (q : ℕ) → next ≡ Some q → Falls bs whole p more q

module _ (bs : List Block) (whole : List Linear) where
  ahead_of : (before : List ℕ) (p q : ℕ) → HeadsStand bs before p → NotBefore (before ++ p ∷ []) q → LeadsTo (block_at bs p).end q → p < q
  ahead_of before p q heads n leads = elim (cases_lt p q) [ inl h ↦ h | inr h ↦ absurd (n (heads q leads h)) ]

  falls_on :
      (front : List Linear) (before : List ℕ) (p : ℕ) (ps : List ℕ) → whole ≡ front ++ laid_code bs ps → marks front ≡ before ++ p ∷ [] →
      HeadsStand bs before p → Each NotBefore (before ++ p ∷ []) ps → (q : ℕ) → slice_get ps 0 ≡ Some q → Falls bs whole p (laid_code bs ps) q
  falls_on front before p [] is ms heads apart q e = cc
  falls_on front before p (r ∷ ps) is ms heads apart q e =
      let same : r ≡ q = some_same r q e in
      subst (λ x. Falls bs whole p (laid_code bs (r ∷ ps)) x) same (record {
        rest = _;
        is = refl;
        stands = ap (behind r) is ∙ behind_mark r front _ (λ c. apart.0 (subst (λ xs. Contains xs r) ms c));
        ahead = ahead_of before p r heads apart.0;
      })

  stands_first :
      (front : List Linear) (before : List ℕ) (p : ℕ) (ps : List ℕ) → whole ≡ front ++ laid_code bs (p ∷ ps) → marks front ≡ before →
      HeadsStand bs before p → Each NotBefore before (p ∷ ps) → Stands bs whole p
  stands_first front before p ps is ms heads apart =
      let b = block_at bs p in
      let next = slice_get ps 0 in
      record {
        next = next;
        more = laid_code bs ps;
        stands =
            ap (behind p) is ∙ behind_mark p front _ (λ c. apart.0 (subst (λ xs. Contains xs p) ms c)) ∙
            ap Some (append_assoc (body_code b.body) (end_code next b.end) (laid_code bs ps));
        falls =
            falls_on (front ++ block_code p next b) before p ps (is ∙ sym (append_assoc front (block_code p next b) (laid_code bs ps)))
            (block_marks front p next b ∙ ap (λ xs. xs ++ p ∷ []) ms) heads apart.1;
      }

  stands_in :
      (front : List Linear) (before order : List ℕ) → whole ≡ front ++ laid_code bs order → marks front ≡ before →
      Each (HeadsStand bs) before order → Each NotBefore before order → (q : ℕ) → Contains order q → Stands bs whole q
  stands_in front before [] is ms heads apart q c = absurd (omega (arith, c.1))
  stands_in front before (p ∷ ps) is ms heads apart q (zero, l, e) =
      subst (Stands bs whole) e (stands_first front before p ps is ms heads.0 apart)
  stands_in front before (p ∷ ps) is ms heads apart q (suc k, l, e) =
      let b = block_at bs p in
      let code = block_code p (slice_get ps 0) b in
      stands_in (front ++ code) (before ++ p ∷ []) ps (is ∙ sym (append_assoc front code (laid_code bs ps)))
      (block_marks front p (slice_get ps 0) b ∙ ap (λ xs. xs ++ p ∷ []) ms) heads.1 apart.1 q (k, omega arith, e)

pub all_stand : (bs : List Block) → AreEnteredAtHeads bs → (p : ℕ) → p < length bs → Stands bs (traced bs) p
all_stand bs entered p h =
    let order = (traces (length bs) bs).places in
    stands_in bs (traced bs) [] [] order (traced_is bs) refl
    (traces_heads bs entered (length bs) (omega arith))
    (all_apart [] order (traces_keep (length bs) bs).apart) p (all_there bs p h)
