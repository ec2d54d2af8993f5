-- Bodies of canonical statements are carried to their blocks, and so are whole programs.
use Rattle.std.proofs.Common.{◌≡◌, ℕ, ◌+◌, ◌*◌, ◌≤◌, List, [], ◌∷◌, ◌++◌, length, map, Bool, true, false, refl, sym, ap, ◌∙◌, subst, arith, length-append}
use Rattle.std.specs.Prelude.{Option, Some, None, slice_set, slice_index, pos, if◌then◌else◌}
use Rattle.std.specs.List.{AllByRecursion}
use Rattle.std.proofs.lemmas.Option.{get_or_from_slice_get}
use Rattle.tg_machine_state.specs.declared.ends.RunEnd.TheVariants.{Exit}
use Rattle.tg_machine_state.specs.State.{stack_top}
use Rattle.tg_simulation.specs.Ran.{Ended}
use Rattle.tg_simulation.specs.Preserving.{Preserves}
use Rattle.tg_simulation.specs.laws.Simulating.{Simulates}
use Rattle.tg_simulation.proofs.Simulations.{simulates_wrong, simulates_stopping, simulates_along, simulates_with_credit, simulation_preserves}
use Rattle.tg_tree.specs.Tree as tree
use Rattle.tg_tree.specs.Tree.{Cond, Compare, Not, Both, Either, Ts, Move, Store, StoreByte, Do, If, Loop, Break, Seq, Stms, no_stms, stm, Function}
use Rattle.tg_tree.specs.Tree.{Literal, Code}
use Rattle.tg_tree.specs.Shapes.{BreaksWithin, BreaksWithinStms, AreCanonical, AreClosed}
use Rattle.tg_tree.specs.Units.{Canonical, marked_entry_units, entry_units}
use Rattle.tg_tree.specs.Memory.{begin}
use Rattle.tg_tree.specs.Actions.{World, Temps, Activation, Next, Out, Back, wrong}
use Rattle.tg_tree.specs.Meaning.{run_all}
use Rattle.tg_tree.specs.Running.{Runner, with_fuel, enter, outermost, run_body, body_point, going, in_sequence, canonical_run}
use Rattle.tg_tree.specs.Carrying.{BacksSimulate, CallsSimulate, AllCarried, none, one, ProgramsCarried}
use Rattle.tg_tree.proofs.TreeRuns.{trees_step}
use Rattle.tg_tree.proofs.Linking.{programs_carried}
use Rattle.tg_trace_schedule.specs.Block.{Block}
use Rattle.tg_trace_schedule.specs.mirror.Cutting.{CutBlocks, draw, leads, next_mark, seal, branch, leaves, cut, cut_all, start, entered_by, placed_all}
use Rattle.tg_trace_schedule.specs.mirror.Cutting.{blocks_of}
use Rattle.tg_trace_schedule.specs.Meaning.{run_block_body, block_going, block_run}
use Rattle.tg_trace_schedule.specs.laws.Carried.{added_work, in_blocks, code_in_blocks, IsCanonicalFunction, BlocksCarryBodies, BlocksAreCorrect}
use Rattle.tg_trace_schedule.proofs.Rests.{take_all}
use Rattle.tg_trace_schedule.proofs.BlocksPlaces.{opens, first, first_is, ahead, leads_to, from_place}
use Rattle.tg_trace_schedule.proofs.BlocksKept.{Keeps, turn, turn_keeps, cut_keeps, get_front, get_seam, set_own, Fits}
use Rattle.tg_trace_schedule.proofs.BlocksCarried.{lighter, paying, working, leads_only, Scene, all_carry}

-- What only jumps, outside of every loop, leads to the block that was laid last.
abbrev IsLast : CutBlocks → Type 0
IsLast c = (m : ℕ) → leads c.body c.end ≡ Some m → slice_index c.places m + 1 ≡ length c.laid

none_some : {A : Type 0} {m : ℕ} → None ≡ Some m → A
none_some e = cc

some_is : {k m : ℕ} → Some k ≡ Some m → k ≡ m
some_is e = cc

branch_last : (d : Cond) (yes' no' : ℕ) (c : CutBlocks) → IsLast (branch d yes' no' c)
branch_last (Compare rel x y) yes' no' c = λ m e. none_some e
branch_last (Not d) yes' no' c = branch_last d no' yes' c
branch_last (Both d e) yes' no' c = branch_last d (next_mark (branch e yes' no' c)) no' (seal (branch e yes' no' c))
branch_last (Either d e) yes' no' c = branch_last d yes' (next_mark (branch e yes' no' c)) (seal (branch e yes' no' c))

loop_last : (exits : List ℕ) (s : Ts) (c : CutBlocks) → IsLast (cut exits (Loop s) c)
loop_last exits s c m e =
    let c1 = seal c in
    let c3 = turn exits s c in
    let b : Block = record { body = c3.body; end = c3.end } in
    let k : Keeps (draw 0 c1) c3 = turn_keeps exits s c (λ es x. cut_keeps s es x) in
    let here : slice_index (slice_set c3.places (length c1.places) (length c3.laid)) (length c1.places) ≡ length c3.laid =
    get_or_from_slice_get (slice_set c3.places (length c1.places) (length c3.laid)) (length c1.places) (length c3.laid) 0
    (set_own c3.places (length c1.places) (length c3.laid) (omega (arith, k.drawn, length-append c1.places (0 ∷ [])))) in
    let same : slice_index (slice_set c3.places (length c1.places) (length c3.laid)) m ≡ length c3.laid =
    ap (λ x. slice_index (slice_set c3.places (length c1.places) (length c3.laid)) x) (sym (some_is e)) ∙ here in
    omega (arith, same, length-append c3.laid (b ∷ []))

either_last : (v : Bool) (c d : CutBlocks) → IsLast c → IsLast d → IsLast (if v then c else d)
either_last true c d g h = g
either_last false c d g h = h

mutual
  cut_last : (s : Ts) (c : CutBlocks) → BreaksWithin 0 s → IsLast c → IsLast (cut [] s c)
  cut_last (Move i x) c b h = λ m e. none_some e
  cut_last (Store x y) c b h = λ m e. none_some e
  cut_last (StoreByte x y) c b h = λ m e. none_some e
  cut_last (Do x) c b h = λ m e. none_some e
  cut_last (If d s t) c b h = branch_last d _ _ _
  cut_last (Loop s) c b h = loop_last [] s c
  cut_last (Break k) c b h = absurd (omega arith)
  cut_last (tree.Fault n) c b h = λ m e. none_some e
  cut_last (Seq ss) c b h = all_last ss c b h
  cut_last (tree.Return x) c b h = λ m e. none_some e

  all_last : (ss : Stms) (c : CutBlocks) → BreaksWithinStms 0 ss → IsLast c → IsLast (cut_all [] ss c)
  all_last no_stms c b h = h
  all_last (stm s ss) c b h = cut_last s (if leaves s then c else cut_all [] ss c) b.0 (either_last (leaves s) c (cut_all [] ss c) h (all_last ss c b.1 h))

module _ (functions : List (Function Ts)) (functions' : List (Function (List Block))) (ls : List Literal) (size : ℕ → ℕ) (floor room : ℕ) where
  abbrev code : Code Ts
  code = record { functions = functions; literals = ls }

  abbrev code' : Code (List Block)
  code' = record { functions = functions'; literals = ls }

  abbrev Calls : ℕ → Type 0
  Calls n =
      (m : ℕ) → m ≤ n →
      CallsSimulate 1 added_work size floor marked_entry_units entry_units (run_body Canonical code size floor room (going Canonical code size floor room))
      (run_block_body code' size floor room (block_going code' size floor room)) functions functions' m

  module _
      (ss : Stms) (can : AreCanonical ss) (closed : AreClosed ss) (n r : ℕ) (activation : Activation) (back back' : Back) (calls : Calls n)
      (returns : BacksSimulate 1 r n back back') where
    abbrev c : CutBlocks
    c = cut_all [] ss start

    abbrev no_out : Out
    no_out k w t = wrong w

    abbrev last : Next
    last w t = wrong w

    abbrev runs : Next
    runs w t =
        run_all Canonical room ls (enter Canonical code size floor room (going Canonical code size floor room))
        (λ q. with_fuel q.world (going Canonical code size floor room q)) ss (outermost activation back) last w t

    -- what is open in the end does what the statements do, whatever final blocks have what was laid
    done :
        (laid : List Block) → Fits c.places laid start c → (j : ℕ) → length c.laid ≤ j → j ≤ length laid → (w : World) (t : Temps) →
        Simulates 1 r n (runs w t) (opens code' size floor room c.places laid (outermost activation back') j c.body c.end w t)
    done laid f =
        let scene : Scene functions functions' ls size floor room c.places laid activation back back' n r
        calls returns n r 0 (length laid) [] no_out =
        record { fuel = omega arith; owed = omega arith; within = omega arith; ways = λ k lt. absurd (omega arith) } in
        all_carry functions functions' ls size floor room c.places laid activation back back' n r
        calls returns ss can n r (length laid) [] no_out last start closed.breaks scene
        (λ j a b w t. simulates_wrong 1 r n _ _ (λ i. refl)) f

    -- the first block does, with its mark
    entry :
        (laid : List Block) (i : ℕ) → i + 1 ≡ length laid → (w : World) (t : Temps) →
        Simulates 1 (r + 1) n (runs w t) (first code' size floor room c.places laid (outermost activation back') i w t) →
        Simulates 1 (r + 1) n (run_body Canonical code size floor room (going Canonical code size floor room) (Seq ss) (outermost activation back) w t)
        (run_block_body code' size floor room (block_going code' size floor room) (placed_all c.places laid) (outermost activation back') w t)
    entry laid i h w t k =
        simulates_along 1 (r + 1) n _ _ _ _ (λ m. trees_step Canonical code size floor room (body_point (Seq ss) (outermost activation back) w t) m)
        (λ m. from_place code' size floor room c.places laid (outermost activation back') i 0 (omega (arith, h)) w t m)
        (paying 0 (r + 1) (r + 1) n _ _ (omega arith) k)

    abbrev BodyDoes : List Block → Type 0
    BodyDoes laid =
        (w : World) (t : Temps) →
        Simulates 1 (r + 1) n (run_body Canonical code size floor room (going Canonical code size floor room) (Seq ss) (outermost activation back) w t)
        (run_block_body code' size floor room (block_going code' size floor room) (placed_all c.places laid) (outermost activation back') w t)

    -- where what is open is laid as the first block
    laid_does : BodyDoes (c.laid ++ record { body = c.body; end = c.end } ∷ [])
    laid_does w t =
        let b : Block = record { body = c.body; end = c.end } in
        let laid = c.laid ++ b ∷ [] in
        let more = length-append c.laid (b ∷ []) in
        let f : Fits c.places laid start c = record { blocks = λ i h l. get_front c.laid (b ∷ []) i l; marks = λ m h l. refl } in
        let here = length c.laid in
        entry laid here (omega (arith, more)) w t
        (subst (λ d. Simulates 1 (r + 1) n (runs w t) d)
        (sym (first_is code' size floor room c.places laid (outermost activation back') here b (omega (arith, more)) (get_seam c.laid b) w t))
        (working 1 r (r + 1) n _ _ (omega arith) (done laid f here (omega arith) (omega (arith, more)) w t)))

    -- where it only jumps to the block that was laid last
    jumps_does : (m : ℕ) → leads c.body c.end ≡ Some m → slice_index c.places m + 1 ≡ length c.laid → BodyDoes c.laid
    jumps_does m e is_last w t =
        let f : Fits c.places c.laid start c = record { blocks = λ i h l. refl; marks = λ k h l. refl } in
        let i = slice_index c.places m in
        let only = leads_only c.body c.end m e in
        let open_does = done c.laid f (length c.laid) (omega arith) (omega arith) w t in
        let jump_does = subst (λ x. Simulates 1 r n (runs w t)
        (opens code' size floor room c.places c.laid (outermost activation back') (length c.laid) no_stms x w t)) only.1
        (subst (λ x. Simulates 1 r n (runs w t) (opens code' size floor room c.places c.laid (outermost activation back')
        (length c.laid) x c.end w t)) only.0 open_does) in
        entry c.laid i is_last w t
        (subst (λ g. Simulates 1 (r + 1) n (runs w t) (g w t))
        (ahead code' size floor room c.places c.laid (outermost activation back') (length c.laid) i m refl (omega (arith, is_last)) (omega arith))
        (simulates_with_credit 1 r (r + 1) n _ _ (omega arith)
        (lighter 1 r n 1 (runs w t) (leads_to code' size floor room c.places c.laid (outermost activation back') (length c.laid) m w t) jump_does)))

    entered_does : (o : Option ℕ) → leads c.body c.end ≡ o → BodyDoes (entered_by o c)
    entered_does None e = laid_does
    entered_does (Some m) e =
        let is_last = all_last ss start closed.breaks (λ k none. none_some none) m e in
        subst BodyDoes (sym (take_all (slice_index c.places m + 1) c.laid (omega (arith, is_last)))) (jumps_does m e is_last)

    body_does : (w : World) (t : Temps) →
        Simulates 1 (r + 1) n (run_body Canonical code size floor room (going Canonical code size floor room) (Seq ss) (outermost activation back) w t)
        (run_block_body code' size floor room (block_going code' size floor room) (blocks_of ss) (outermost activation back') w t)
    body_does = entered_does (leads c.body c.end) refl

pub bodies_carried : BlocksCarryBodies
bodies_carried functions functions' ls size floor room ss can closed n r activation back back' w t calls returns =
    body_does functions functions' ls size floor room ss can closed n r activation back back' calls returns w t

-- Whole programs.
entries_pay : (k : ℕ) → entry_units k + added_work ≤ 1 * marked_entry_units k
entries_pay k = omega arith

module _ (code : Code Stms) (size : ℕ → ℕ) (floor room : ℕ) where
  abbrev trees : Code Ts
  trees = record { functions = map in_sequence code.functions; literals = code.literals }

  abbrev blocks : Code (List Block)
  blocks = code_in_blocks code

  abbrev runner : Runner Ts
  runner = run_body Canonical trees size floor room (going Canonical trees size floor room)

  abbrev runner' : Runner (List Block)
  runner' = run_block_body blocks size floor room (block_going blocks size floor room)

  all_carried :
      (fs : List (Function Stms)) → AllByRecursion IsCanonicalFunction fs →
      AllCarried 1 added_work size floor marked_entry_units entry_units runner runner' trees.functions blocks.functions (map in_sequence fs)
      (map in_blocks fs)
  all_carried [] h = none
  all_carried (f ∷ fs) h =
      one f.label f.params f.slots f.temps f.temps f.out f.out (Seq f.body) (blocks_of f.body) (map in_sequence fs) (map in_blocks fs)
      (bodies_carried trees.functions blocks.functions code.literals size floor room f.body h.0.0 h.0.1) (all_carried fs h.1)

  begins_carried :
      AllByRecursion IsCanonicalFunction code.functions →
      ProgramsCarried 1 added_work size floor marked_entry_units entry_units runner runner' trees.functions blocks.functions
  begins_carried h = programs_carried 1 added_work size floor marked_entry_units entry_units runner runner' trees.functions blocks.functions

  pub programs_kept :
      AllByRecursion IsCanonicalFunction code.functions → (body : ℕ) (input : List ℕ) →
      Preserves 1 added_work (canonical_run code size floor room body input) (block_run blocks size floor room body input)
  programs_kept h body input =
      simulation_preserves 1 added_work _ _ (λ n.
      begins_carried h entries_pay (all_carried code.functions h) n body [] stack_top _ _ (record { memory = begin code.literals; input = input }) 0
      (λ v w. simulates_stopping 1 0 n w.input (Ended (Exit (pos 0)))))

pub blocks_keep_programs : BlocksAreCorrect
blocks_keep_programs code size floor room body input h = programs_kept code size floor room h body input
