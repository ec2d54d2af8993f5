-- Each body of blocks is carried to its code, and so is each program.
use Rattle.std.proofs.Common.{◌≡◌, ◌≤◌, ◌<◌, ℕ, zero, suc, ◌+◌, List, [], ◌∷◌, ◌++◌, length, map, true, refl, ap, ◌∙◌, arith}
use Rattle.std.specs.Prelude.{Option, Some, None, slice_set, pos}
use Rattle.std.specs.List.{AllByRecursion}
use Rattle.tg_machine_state.specs.declared.ends.RunEnd.TheVariants.{Exit}
use Rattle.tg_machine_state.specs.State.{stack_top}
use Rattle.tg_simulation.specs.Ran.{Ended}
use Rattle.tg_simulation.specs.Preserving.{Preserves}
use Rattle.tg_simulation.specs.laws.Simulating.{Simulates}
use Rattle.tg_simulation.proofs.Simulations.{simulation_preserves, simulates_stopping, simulates_with_credit, simulates_along}
use Rattle.tg_tree.specs.Tree.{Linear, Mark, Function, Literal, Code}
use Rattle.tg_tree.specs.Memory.{begin}
use Rattle.tg_tree.specs.Units.{entry_units}
use Rattle.tg_tree.specs.Actions.{World, Activation, Around, Back}
use Rattle.tg_tree.specs.Running.{outermost}
use Rattle.tg_tree.specs.Carrying.{BacksSimulate, CallsSimulate, BodyCarried, AllCarried, none, one}
use Rattle.tg_tree.specs.Flat.{behind, run_flat, flat_going, flat_run}
use Rattle.tg_tree.proofs.Linking.{programs_carried}
use Rattle.tg_tree.proofs.Relating.{AlikeAround, around, around_down}
use Rattle.tg_tree.proofs.Going.{one as one_of, OneWorld, OneTemps}
use Rattle.tg_tree.proofs.FlatRuns.{flat_code_steps}
use Rattle.tg_trace_schedule.specs.Block.{Block}
use Rattle.tg_trace_schedule.specs.mirror.Laying.{Order, put, block_at, onward, follow, traces, traced}
use Rattle.tg_trace_schedule.specs.Shapes.{LeadsBelow}
use Rattle.tg_trace_schedule.specs.Meaning.{block_run}
use Rattle.tg_trace_schedule.specs.laws.Traced.{MayBeLaid, laid, laid_all, block_runner, flat_runner}
use Rattle.tg_trace_schedule.proofs.Marks.{each}
use Rattle.tg_trace_schedule.proofs.BlocksRuns.{blocks_step}
use Rattle.tg_trace_schedule.proofs.BlocksFlat.{keeps_simulating}
use Rattle.tg_trace_schedule.proofs.TracesCode.{laid_code, traced_is}
use Rattle.tg_trace_schedule.proofs.TracesStands.{all_stand}
use Rattle.tg_trace_schedule.proofs.TracesRuns.{SameWork, Does, places_do}

-- The first block is laid first.
abbrev BeginsAtZero : Order → Type 0
BeginsAtZero o = (ps : List ℕ) × (o.places ≡ 0 ∷ ps)

put_begins : (p : ℕ) (o : Order) → BeginsAtZero o → BeginsAtZero (put p o)
put_begins p o (ps, e) = (ps ++ p ∷ [], ap (λ xs. xs ++ p ∷ []) e)

follow_begins : (k : ℕ) (bs : List Block) (next : Option ℕ) (o : Order) → BeginsAtZero o → BeginsAtZero (follow k bs next o)
follow_begins zero bs next o b = b
follow_begins (suc k) bs None o b = b
follow_begins (suc k) bs (Some p) o b = follow_begins k bs (onward bs (slice_set o.laid p true) (block_at bs p).end) (put p o) (put_begins p o b)

order_begins : (k : ℕ) (b : Block) (bs : List Block) → BeginsAtZero (traces (suc k) (b ∷ bs))
order_begins zero b bs = follow_begins (length bs) (b ∷ bs) _ _ ([], refl)
order_begins (suc k) b bs = follow_begins (suc (length bs)) (b ∷ bs) _ (traces (suc k) (b ∷ bs)) (order_begins k b bs)

begins_so : (bs : List Block) (order ps : List ℕ) → order ≡ 0 ∷ ps → (rest : List Linear) × (laid_code bs order ≡ Mark 0 ∷ rest)
begins_so bs order ps e = (_, ap (laid_code bs) e)

code_begins : (bs : List Block) → 0 < length bs → (rest : List Linear) × (traced bs ≡ Mark 0 ∷ rest)
code_begins [] h = absurd (omega arith)
code_begins (b ∷ bs) h =
    let o = order_begins (length bs) b bs in
    let x = begins_so (b ∷ bs) (traces (suc (length bs)) (b ∷ bs)).places o.0 o.1 in
    (x.0, traced_is (b ∷ bs) ∙ x.1)

module _
    (size : ℕ → ℕ) (floor room : ℕ) (literals : List Literal)
    (functions : List (Function (List Block))) (flat : List (Function (List Linear))) where
  abbrev before : Code (List Block)
  before = record { functions = functions; literals = literals }

  abbrev after : Code (List Linear)
  after = record { functions = flat; literals = literals }

  abbrev Calls : ℕ → Type 0
  Calls n =
      (m : ℕ) → m ≤ n →
      CallsSimulate 1 0 size floor entry_units entry_units (block_runner size floor room before) (flat_runner size floor room after) functions flat m

  module _ (bs : List Block) (may : MayBeLaid bs) where
    abbrev Carries : (e e' : Around) (r n p : ℕ) → Type 0
    Carries e e' r n p = Does functions flat literals size floor room bs (traced bs) e e' r n p

    all_do : (k n : ℕ) → n < k → Calls n → (r : ℕ) (e e' : Around) → AlikeAround (SameWork r) OneWorld OneTemps n e e' → (p : ℕ) → p < length bs →
        Carries e e' r n p
    all_do zero n lt calls r e e' he p h = absurd (omega arith)
    all_do (suc k) n lt calls r e e' he p h =
        places_do functions flat literals size floor room bs (traced bs) n (calls n (omega arith)) r e e' he (all_stand bs may.entered)
        (each (LeadsBelow (length bs)) tt bs may.whole.within)
        (λ m mn q hq. all_do k m (omega arith) (λ i li. calls i (omega (arith, li, mn))) r e e'
        (around_down (SameWork r) OneWorld OneTemps (keeps_simulating r) m n e e' (omega arith) he) q hq)
        (length bs) p (omega arith) h

    outermost_alike : (r n : ℕ) (a : Activation) (back back' : Back) → BacksSimulate 1 r n back back' → AlikeAround (SameWork r) OneWorld OneTemps n
        (outermost a back) (outermost a back')
    outermost_alike r n a back back' h = around a _ _ back back' (λ v w x t u o q. (keeps_simulating r).stop n _ w x o) (λ v w x o. by v w x o)
      where
        by : (v : ℕ) (w x : World) → OneWorld w x → Simulates 1 r n (back v w) (back' v x)
        by v w x (one_of y) = h v y

    pub blocks_carried : BodyCarried 1 0 size floor entry_units entry_units (block_runner size floor room before)
        (flat_runner size floor room after) functions flat bs (traced bs)
    blocks_carried n r a back back' w t calls backs =
        let e = outermost a back in
        let e' = outermost a back' in
        let code = code_begins bs may.whole.entry in
        let stands : behind 0 (traced bs) ≡ Some code.0 = ap (behind 0) code.1 in
        simulates_with_credit 1 r (r + 0) n _ _ (omega arith)
        (simulates_along 1 r n _ _ _ _
        (blocks_step before size floor room (record { whole = bs; place = 0; around = e; world = w; temps = t }))
        (λ i. flat_code_steps after size floor room (record { whole = traced bs; rest = traced bs; around = e'; world = w; temps = t }) i ∙
        ap (λ xs. run_flat after size floor room (flat_going after size floor room) (traced bs) xs e' tt w t i) code.1)
        (all_do (suc n) n (omega arith) calls r e e' (outermost_alike r n a back back' backs) 0 may.whole.entry code.0 stands w t))

module _ (code : Code (List Block)) (size : ℕ → ℕ) (floor room : ℕ) where
  abbrev Carried : List (Function (List Block)) → List (Function (List Linear)) → Type 0
  Carried fs gs =
      AllCarried 1 0 size floor entry_units entry_units (block_runner size floor room code) (flat_runner size floor room (laid_all code)) code.functions
      (map laid code.functions) fs gs

  all_carried : (fs : List (Function (List Block))) → AllByRecursion (λ f. MayBeLaid f.body) fs → Carried fs (map laid fs)
  all_carried [] h = none
  all_carried (f ∷ fs) h =
      one f.label f.params f.slots f.temps f.temps f.out f.out f.body (traced f.body) fs (map laid fs)
      (blocks_carried size floor room code.literals code.functions (map laid code.functions) f.body h.0) (all_carried fs h.1)

  pub programs_are_preserved : (body : ℕ) (input : List ℕ) → AllByRecursion (λ f. MayBeLaid f.body) code.functions → Preserves 1 0
      (block_run code size floor room body input) (flat_run (laid_all code) size floor room body input)
  programs_are_preserved body input h =
      simulation_preserves 1 0 _ _ (λ n.
      programs_carried 1 0 size floor entry_units entry_units (block_runner size floor room code)
      (flat_runner size floor room (laid_all code)) code.functions (map laid code.functions)
      (λ k. omega arith) (all_carried code.functions h) n body [] stack_top _ _ (record { memory = begin code.literals; input = input }) 0
      (λ v w. simulates_stopping 1 0 n w.input (Ended (Exit (pos 0)))))
