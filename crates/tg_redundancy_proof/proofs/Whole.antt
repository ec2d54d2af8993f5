-- All functions of a program with known code.
use Rattle.std.proofs.Common.{ℕ, ◌≡◌, ◌==◌, ◌≤◌, ◌+◌, ◌*◌, Bool, true, false, List, [], ◌∷◌, map, length, Some}
use Rattle.std.proofs.Common.{refl, sym, ap, ◌∙◌, subst, arith}
use Rattle.std.specs.Prelude.{if◌then◌else◌}
use Rattle.tg_simulation.specs.Runs.{Run}
use Rattle.tg_simulation.specs.Ran.{Ran}
use Rattle.tg_tree.specs.Tree.{Function}
use Rattle.tg_tree.specs.Running.{function_of}
use Rattle.tg_instr.specs.declared.instr.Instr.{Instr}
use Rattle.tg_regalloc_proof.specs.Blocks.{code_of, Charge, spent, Covers}
use Rattle.tg_regalloc_proof.specs.Keeping.{charged_by, AreHeld, DoesNoMore, AreKept, run_of}
use Rattle.tg_regalloc_proof.specs.Keeping.AreKept.{none, also}
use Rattle.tg_regalloc_proof.proofs.Composing.{programs_are_kept}
use Rattle.tg_regalloc_proof.proofs.Cheaper.{functions_charged, to_charged, from_charged}
use Rattle.tg_regalloc_proof.proofs.Simulating.{does_on}
use Rattle.tg_redundancy.specs.mirror.Known.{State, known_step, known_blocks, blocks_known, at_start, most_facts, most_moves}
use Rattle.tg_redundancy_proof.specs.laws.Laws.{with_known, KnownIsCorrect}
use Rattle.tg_redundancy.proofs.Blocks.{IsBlock, itself, gone, a_move, a_jump}
use Rattle.tg_redundancy.proofs.Shaped.{block_is}
use Rattle.tg_redundancy_proof.proofs.Kept.{known_code_keeps}

-- a unit for each instruction
abbrev one_each : Charge
one_each left one = 1

block_paid : (one : Instr) (b : List Instr) (left : ℕ) → IsBlock one b → spent one_each left b ≤ 1
block_paid one _ left itself = omega arith
block_paid one _ left (gone rel x y m e) = omega arith
block_paid one _ left (a_move t u q e) = omega arith
block_paid one _ left (a_jump rel x y m e) = omega arith

walk_paid : (code : List Instr) (s : State) → Covers one_each code one_each (known_blocks most_facts code s)
walk_paid [] s = tt
walk_paid (one ∷ rest) s = (
  block_paid one (known_step most_facts rest one s).block
      (length (code_of (known_blocks most_facts rest (known_step most_facts rest one s).state))) (block_is most_facts rest one s),
  walk_paid rest (known_step most_facts rest one s).state,
)

all_kept : (fs : List (Function (List Instr))) → AreKept (map (charged_by one_each) fs) (map (charged_by one_each) (map with_known fs))
all_kept [] = none
all_kept (f ∷ fs) =
    also (charged_by one_each f) (charged_by one_each (with_known f)) (map (charged_by one_each) fs)
    (map (charged_by one_each) (map with_known fs)) (blocks_known f.body) (known_code_keeps f) (walk_paid f.body (at_start most_moves)) (all_kept fs)

-- frames are as large as before
held : (size : ℕ → ℕ) (fs : List (Function (List Instr))) → AreHeld size fs → AreHeld size (map with_known fs)
held size fs h label g e = let z = before fs e in subst (λ n. 4 * (n + g.out) ≤ size g.label) z.2.0
    (subst (λ n. 4 * (z.0.slots + n) ≤ size g.label) z.2.1 (subst (λ l. 4 * (z.0.slots + z.0.out) ≤ size l) z.2.2 (h label z.0 z.1)))
  where
    some_is : (f g : Function (List Instr)) → Some (with_known f) ≡ Some g → with_known f ≡ g
    some_is f g i = cc

    before : (fs : List (Function (List Instr))) → function_of label (map with_known fs) ≡ Some g →
        (f : Function (List Instr)) × (function_of label fs ≡ Some f) × ((f.slots ≡ g.slots) × (f.out ≡ g.out) × (f.label ≡ g.label))
    before [] i = cc
    before (f ∷ fs) i = by (f.label == label) i (before fs)
      where
        by : (b : Bool) → (if b then Some (with_known f) else function_of label (map with_known fs)) ≡ Some g →
            (function_of label (map with_known fs) ≡ Some g → (f : Function (List Instr)) × (function_of label fs ≡ Some f) × ((f.slots ≡ g.slots) × (f.out ≡ g.out) × (f.label ≡ g.label))) →
            (q : Function (List Instr)) × ((if b then Some f else function_of label fs) ≡ Some q) × ((q.slots ≡ g.slots) × (q.out ≡ g.out) × (q.label ≡ g.label))
        by true j later =
            let s = some_is f g j in
            (f, refl, (ap (λ (x : Function (List Instr)). x.slots) s, ap (λ (x : Function (List Instr)). x.out) s, ap (λ (x : Function (List Instr)). x.label) s))
        by false j later = later j

does_no_more_on : (c d d1 : Run Ran) → DoesNoMore c d → DoesNoMore d d1 → DoesNoMore c d1
does_no_more_on c d d1 h i n k = let p = h n k in does_on 0 0 (c n) (d n) (d1 n) p (i n (λ z. k (sym p.stop ∙ z)))

pub known_is_correct : KnownIsCorrect
known_is_correct fs e h =
    does_no_more_on _ (run_of (map (charged_by one_each) fs) e) _ (to_charged one_each fs e h)
    (does_no_more_on _ (run_of (map (charged_by one_each) (map with_known fs)) e) _
    (programs_are_kept (map (charged_by one_each) fs) (map (charged_by one_each) (map with_known fs)) e (all_kept fs)
    (subst (λ gs. AreHeld e.size gs) (sym (functions_charged one_each (map with_known fs))) (held e.size fs h)))
    (from_charged one_each (map with_known fs) e (held e.size fs h)))
