-- What follows a branch is its false side or a jump to it.
use Rattle.std.proofs.Common.{ℕ, Bool, true, false, List, [], ◌∷◌, ◌++◌, length, sym, subst, append_assoc}
use Rattle.std.specs.Prelude.{◌==◌, Some, slice_get}
use Rattle.tg_tree.specs.Tree as tree
use Rattle.tg_tree.specs.Tree.{Stms, no_stms, stm, Linear, Mark}
use Rattle.tg_tree.specs.declared.operators.Rel.{Rel}
use Rattle.tg_trace_schedule.specs.Block.{BlockEnd, Jump, Branch, Fault, Return, Block}
use Rattle.tg_trace_schedule.specs.mirror.Laying.{block_at, traces, is_next, jump_unless, branch_by, end_code, body_code, traced}
use Rattle.tg_trace_schedule.specs.laws.Heads.{LeadOn, BranchesLeadOn}
use Rattle.tg_trace_schedule.proofs.TracesCode.{laid_code, traced_is}

leads_on : (b : Bool) (q m : ℕ) (rest : List Linear) → LeadOn (jump_unless b q ++ Mark m ∷ rest)
leads_on true q m rest = tt
leads_on false q m rest = tt

behind_jump : (b : Bool) (p : ℕ) (rest : List Linear) → BranchesLeadOn rest → BranchesLeadOn (jump_unless b p ++ rest)
behind_jump true p rest h = h
behind_jump false p rest h = h

behind_body : (ss : Stms) (rest : List Linear) → BranchesLeadOn rest → BranchesLeadOn (body_code ss ++ rest)
behind_body no_stms rest h = h
behind_body (stm s ss) rest h = behind_body ss rest h

-- a branch before the mark of the next block
branch_marked :
    (b : Bool) (m : ℕ) (rel : Rel) (x y : tree.Tx) (p q : ℕ) (rest : List Linear) →
    BranchesLeadOn (Mark m ∷ rest) → BranchesLeadOn (branch_by b (Some m) rel x y p q ++ Mark m ∷ rest)
branch_marked true m rel x y p q rest h = (tt, h)
branch_marked false m rel x y p q rest h = (leads_on (m == q) q m rest, behind_jump (m == q) q (Mark m ∷ rest) h)

module _ (bs : List Block) where
  branch_leads :
      (ps : List ℕ) (rel : Rel) (x y : tree.Tx) (p q : ℕ) → BranchesLeadOn (laid_code bs ps) →
      BranchesLeadOn (branch_by (is_next (slice_get ps 0) p) (slice_get ps 0) rel x y p q ++ laid_code bs ps)
  branch_leads [] rel x y p q h = (tt, tt)
  branch_leads (m ∷ ps) rel x y p q h = branch_marked (m == p) m rel x y p q _ h

  end_leads : (ps : List ℕ) (e : BlockEnd) → BranchesLeadOn (laid_code bs ps) → BranchesLeadOn (end_code (slice_get ps 0) e ++ laid_code bs ps)
  end_leads ps (Jump p) h = behind_jump (is_next (slice_get ps 0) p) p (laid_code bs ps) h
  end_leads ps (Branch rel x y p q) h = branch_leads ps rel x y p q h
  end_leads ps (Fault n) h = h
  end_leads ps (Return x) h = h

  branches_lead : (order : List ℕ) → BranchesLeadOn (laid_code bs order)
  branches_lead [] = tt
  branches_lead (p ∷ ps) =
      let b = block_at bs p in
      let end = end_code (slice_get ps 0) b.end in
      subst BranchesLeadOn (sym (append_assoc (body_code b.body) end (laid_code bs ps)))
      (behind_body b.body (end ++ laid_code bs ps) (end_leads ps b.end (branches_lead ps)))

  pub false_side_follows : BranchesLeadOn (traced bs)
  false_side_follows = subst BranchesLeadOn (sym (traced_is bs)) (branches_lead (traces (length bs) bs).places)
