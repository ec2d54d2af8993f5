-- Programs whose functions have a block in the place of each instruction and added slots: they run alike.
use Rattle.std.proofs.Common.{ℕ, zero, suc, ◌≡◌, ◌≢◌, ◌+◌, ◌*◌, ◌-◌, ◌<◌, ◌≤◌, Bool, true, false, List, [], ◌∷◌, ◌++◌}
use Rattle.std.proofs.Common.{nat_lt, refl, sym, ap, ◌∙◌}
use Rattle.std.proofs.Common.{subst, Option, Some, None, pos, ◌⊎◌, inl, inr, arith}
use Rattle.std.proofs.Common.{length, length-append}
use Rattle.std.specs.Prelude.{if◌then◌else◌}
use Rattle.std.proofs.lemmas.Bool.{ltb-true, ltb-false, lt-ltb}
use Rattle.tg_machine_state.specs.declared.ends.RunEnd.TheVariants.{Exit, StackFull}
use Rattle.tg_machine_state.specs.State.{stack_top}
use Rattle.tg_simulation.specs.Runs.{Run, nested}
use Rattle.tg_simulation.specs.Ran.{Ran, Ended, WantsFuel, stops}
use Rattle.tg_tree.specs.Tree.{Function, Code, Literal}
use Rattle.tg_tree.specs.Memory.{Cell, Closed, Unset, Memory, slot, set_cell, lay, begin}
use Rattle.tg_tree.specs.Actions.{World, Activation, over, charged}
use Rattle.tg_tree.specs.Running.{function_of, with_fuel}
use Rattle.tg_instr.specs.declared.operands.Opnd.{Opnd}
use Rattle.tg_instr.specs.declared.operands.Opnd.TheVariants.{Temp, Reg}
use Rattle.tg_instr.specs.declared.instr.Instr.{Instr}
use Rattle.tg_instr.specs.Shapes.{Operand, shape}
use Rattle.tg_instr.specs.Contents.{Content, Nothing, Contents, held, no_contents, at_entry}
use Rattle.tg_instr.specs.Meaning.{Back, Next, act}
use Rattle.tg_instr.specs.Running.{Units, behind, lay_out, with_frame, CodePoint, begin_code, enter_code, jump_to, run_code}
use Rattle.tg_instr.specs.Running.{code_step, code_run}
use Rattle.tg_regalloc_proof.specs.Blocks.{Blocks, code_of, Covers}
use Rattle.tg_regalloc_proof.specs.Keeping.{Holds as HoldsFrame, program, Surroundings, MemoriesAgree, IsWatcher, seen_from, seen}
use Rattle.tg_regalloc_proof.specs.Places.{IsTemp, At, Places, Stands, nothing, a_block}
use Rattle.tg_regalloc_proof.specs.laws.Replaced.{living, Replaced}
use Rattle.tg_regalloc_proof.proofs.Simulating.{Simulates, does_itself, same_run, between, by_fuel, paid}
use Rattle.tg_regalloc_proof.proofs.Worlds.{Beside}
use Rattle.tg_regalloc_proof.proofs.Serving.{Worlds, by_end}
use Rattle.tg_regalloc_proof.proofs.Apart.{Sides, second_side}
use Rattle.tg_regalloc_proof.proofs.Respecting.{respects}
use Rattle.tg_regalloc_proof.proofs.Entering.{first_frame, second_frame}
use Rattle.tg_regalloc_proof.proofs.AddedSlots.{Ready, Holds, added, entered, entered_holds, left, ready_below, set_holds}
use Rattle.tg_regalloc_proof.proofs.AddedSlots.{slot_added, slot_not_added}
use Rattle.tg_regalloc_proof.proofs.Scenes.{content, Scene}
use Rattle.tg_regalloc_proof.proofs.Dearer.{runs_charged, block_is_dearer}
use Rattle.tg_regalloc_proof.proofs.BlocksDo.{IsOwned, block_does, calls_are_last}
use Rattle.tg_regalloc_proof.proofs.Marking.{stands_behind}
use Rattle.tg_regalloc_proof.proofs.Living.{flows_of}
use Rattle.tg_regalloc_proof.proofs.Suffixes.{IsRest, whole, next}

abbrev F : Type 0
F = Function (List Instr)

-- An activation of both: the frame fits; what are added words to its caller, and their cells.
pub record Standing (f g : F) (C : Replaced f g) (a : Activation) : Type 0 where
  pub fits : a.base - a.size + 4 * f.out + 4 * (f.slots + C.more) ≤ a.base
  pub outer : ℕ → Bool
  pub cells : ℕ → Cell
  pub ready : Ready outer a.base cells

module _ (f g : F) (C : Replaced f g) (a : Activation) (S : Standing f g C a) where
  abbrev pub Added : ℕ → Bool
  Added x = added a.base (a.base - a.size) f.slots C.more f.out S.fits S.outer x

  abbrev pub Kept : (ℕ → Cell) → Type 0
  Kept cells = Holds a.base (a.base - a.size) f.slots C.more f.out S.fits S.outer S.cells cells

  first_is : (c : Cell) (w : World) → (with_frame f a c w).memory ≡ first_frame a.base
      (a.base - a.size) f.slots C.more f.out S.fits c w.memory
  first_is c w = refl

  second_is : (c : Cell) (v : World) → (with_frame g a c v).memory ≡ second_frame a.base
      (a.base - a.size) f.slots C.more f.out S.fits c v.memory
  second_is c v = λ i. lay_out (a.base - a.size) (C.out i) c (lay a.base (C.slots i) c v.memory)

  opened : (c : Cell) (w v : World) → Worlds S.outer S.cells w v →
      Worlds Added (second_frame a.base (a.base - a.size) f.slots C.more f.out S.fits c v.memory).stack
      (with_frame f a c w) (with_frame g a c v)
  opened c w v r =
      record {
        input = r.input;
        memory = subst (λ z. Beside Added (second_frame a.base
            (a.base - a.size) f.slots C.more f.out S.fits c v.memory).stack (with_frame f a c w).memory z)
            (sym (second_is c v)) (entered a.base
            (a.base - a.size) f.slots C.more f.out S.fits S.outer S.cells S.ready c w.memory v.memory r.memory);
      }

  closed : (cells : ℕ → Cell) → Kept cells → (w v : World) → Worlds Added cells w v →
      Worlds S.outer S.cells (with_frame f a Closed w) (with_frame g a Closed v)
  closed cells h w v r =
      record {
        input = r.input;
        memory = subst (λ z. Beside S.outer S.cells (with_frame f a Closed w).memory z) (sym (second_is Closed v))
            (left a.base (a.base - a.size) f.slots C.more f.out S.fits S.outer S.cells S.ready cells w.memory
            v.memory r.memory h);
      }

  owned : (x : Opnd) (k : ℕ) → C.places.place x ≡ At k → IsOwned a g.slots Added k
  owned x k e =
      let z = C.added_slots x k e in let z0 = z.0 in let z1 = z.1 in let fits = S.fits in
      record {
        below = ap (λ n. nat_lt k n) C.slots ∙ lt-ltb k (f.slots + C.more) z1;
        fits = omega arith;
        is_added = slot_added a.base (a.base - a.size) f.slots C.more f.out S.fits S.outer k z0 z1;
      }

  keeps : (x : Opnd) (k : ℕ) (c : Cell) (cells : ℕ → Cell) → C.places.place x ≡ At k → Kept cells → Kept (set_cell
      (slot a.base k) c cells)
  keeps x k c cells e h =
      let z = C.added_slots x k e in let z0 = z.0 in let z1 = z.1 in
      set_holds a.base (a.base - a.size) f.slots C.more f.out S.fits S.outer S.cells S.ready cells k c z0 z1 h

  grow : (k : ℕ) → nat_lt k f.slots ≡ true → nat_lt k g.slots ≡ true
  grow k h = let l : k < f.slots = ltb-true k f.slots h in ap (λ n. nat_lt k n) C.slots ∙ lt-ltb k
      (f.slots + C.more) (omega arith)

  mine : (k : ℕ) → nat_lt k f.slots ≡ true → Added (slot a.base k) ≡ false
  mine k h = slot_not_added a.base (a.base - a.size) f.slots C.more f.out S.fits S.outer k (ltb-true k f.slots h)

-- Two programs: each function of the first has one in its place in the second, whose frame its size holds, and each of its
-- instructions is charged at least what its block is.
module _ (fs gs : List (Function (List Instr))) (units units' : Units) (e : Surroundings)
    (cert : (l : ℕ) (f : Function (List Instr)) → function_of l fs ≡ Some f →
    (g : Function (List Instr)) × (function_of l gs ≡ Some g) × HoldsFrame e.size g × (C : Replaced f g) ×
    Covers (units f.label) f.body (units' g.label) C.blocks) where
  abbrev P : Code (List Instr)
  P = program fs e.literals

  abbrev P' : Code (List Instr)
  P' = program gs e.literals

  abbrev size : ℕ → ℕ
  size = e.size

  abbrev floor : ℕ
  floor = e.floor

  abbrev room : ℕ
  room = e.room

  abbrev literals : List Literal
  literals = e.literals

  abbrev Backs : (ℕ → Bool) → (ℕ → Cell) → Back → Back → Type 0
  Backs outer cells b b' = (c : Content) (w v : World) → Worlds outer cells w v → Simulates (b c w) (b' c v)

  abbrev point : (f : F) → List Instr → Activation → Back → World → Contents → CodePoint
  point f rest a back w s = record { function = f; rest = rest; activation = a; back = back; world = w; contents = s }

  abbrev Paid : (f g : F) → List Instr → Blocks → Type 0
  Paid f g rest blocks = Covers (units f.label) rest (units' g.label) blocks

  -- An activation of both: the functions, of which the second stands in the place of the first and is charged no more, the
  -- frame, and what comes after the return.
  record Both : Type 0 where
    f : F
    g : F
    it : Replaced f g
    all_paid : Paid f g f.body it.blocks
    activation : Activation
    standing : Standing f g it activation
    back : Back
    back' : Back
    backs : (cells : ℕ → Cell) → Kept f g it activation standing cells → Backs (Added f g it activation standing) cells back back'

  -- Where both are in it, with these operands live: the cells of the added words, which the second has; the worlds, which
  -- differ in these; and the contents, which agree by places.
  record Now (A : Both) (L : Opnd → Type 0) : Type 0 where
    cells : ℕ → Cell
    kept : Kept A.f A.g A.it A.activation A.standing cells
    first_world : World
    second_world : World
    worlds : Worlds (Added A.f A.g A.it A.activation A.standing) cells first_world second_world
    first_contents : Contents
    second_contents : Contents
    scene : Scene A.activation A.it.places L cells first_contents second_contents

  abbrev first_point : (A : Both) (L : Opnd → Type 0) → Now A L → List Instr → CodePoint
  first_point A L now rest = point A.f rest A.activation A.back now.first_world now.first_contents

  abbrev second_point : (A : Both) (L : Opnd → Type 0) → Now A L → List Instr → CodePoint
  second_point A L now rest = point A.g rest A.activation A.back' now.second_world now.second_contents

  -- from each place of each activation on
  abbrev Follows : (CodePoint → Run Ran) → (CodePoint → Run Ran) → Type 0
  Follows c d =
      (A : Both) (rest : List Instr) (blocks : Blocks) → IsRest A.f.body rest →
      Stands A.it.places.place (living A.f.body) rest blocks → Paid A.f A.g rest blocks → (now : Now A (living A.f.body rest)) →
      Simulates (c (first_point A (living A.f.body rest) now rest)) (d (second_point A (living A.f.body rest) now (code_of blocks)))

  entry_agrees : (Q : Places) (a : Activation) (cells : ℕ → Cell) (u : Contents) (x : Opnd) →
      (content a Q cells (at_entry u) (Q.place x) ≡ held a (at_entry u) (Operand x)) ⊎ (IsTemp x × (at_entry u (Operand x) ≡ Nothing))
  entry_agrees Q a cells u (Temp j) = inr (tt, refl)
  entry_agrees Q a cells u (Reg q) = inl (ap (λ z. content a Q cells (at_entry u) z) (Q.fixed q))

  abbrev frame_at : (top label : ℕ) → Activation
  frame_at top l = record { base = top; size = size l }

  -- what a function comes to where it is begun, with room for its frame
  abbrev begun_at : (CodePoint → Run Ran) → F → List Instr → (top label : ℕ) → Contents → Back → World → Run Ran
  begun_at c f body top l s back w =
      c (point f body (frame_at top l) (λ q w1. back q (with_frame f (frame_at top l) Closed w1)) (with_frame f (frame_at top l) Unset w) s)

  -- a function is begun, whatever it goes on by
  begins : (c d : CodePoint → Run Ran) → Follows c d → (label top : ℕ) (u : Contents) (outer : ℕ → Bool)
      (cells : ℕ → Cell) → Ready outer top cells →
      (back back' : Back) → Backs outer cells back back' → (w v : World) → Worlds outer cells w v →
      Simulates (begin_code units P size floor room c (function_of label fs) (at_entry u) top back w)
      (begin_code units' P' size floor room d (function_of label gs) (at_entry u) top back' v)
  begins c d h label top u outer cells ready back back' hb w v r = by (function_of label fs) refl
    where
      some : (f g : F) → HoldsFrame size g → (C : Replaced f g) → Paid f g f.body C.blocks →
          Simulates (begin_code units P size floor room c (Some f) (at_entry u) top back w)
          (begin_code units' P' size floor room d (Some g) (at_entry u) top back' v)
      some f g holds C all_paid =
          subst (λ l. Simulates (begin_code units P size floor room c (Some f) (at_entry u) top back w)
          (if nat_lt top (floor + size l) then over (Ended StackFull) v else begun_at d g g.body top l (at_entry u) back' v))
          (sym C.label) (guarded (nat_lt top (floor + size f.label)) refl)
        where
          guarded : (b : Bool) → nat_lt top (floor + size f.label) ≡ b →
              Simulates (if b then over (Ended StackFull) w else begun_at c f f.body top f.label (at_entry u) back w)
              (if b then over (Ended StackFull) v else begun_at d g g.body top f.label (at_entry u) back' v)
          guarded true e = by_end outer cells (Ended StackFull) w v r
          guarded false e =
              subst (λ b. Simulates (begun_at c f f.body top f.label (at_entry u) back w)
              (begun_at d g b top f.label (at_entry u) back' v)) C.whole
              (h A f.body C.blocks whole C.stands all_paid (record {
                cells = (second_frame top (top - size f.label) f.slots C.more f.out S.fits Unset v.memory).stack;
                kept = entered_holds top (top - size f.label) f.slots C.more f.out S.fits outer cells ready Unset w.memory
                    v.memory r.memory;
                first_world = with_frame f (frame_at top f.label) Unset w;
                second_world = with_frame g (frame_at top f.label) Unset v;
                worlds = opened f g C (frame_at top f.label) S Unset w v r;
                first_contents = at_entry u;
                second_contents = at_entry u;
                scene = record {
                  live = λ x l. entry_agrees C.places (frame_at top f.label)
                      ((second_frame top (top - size f.label) f.slots C.more f.out S.fits Unset v.memory).stack) u x;
                  hi = refl;
                  lo = refl;
                };
              }))
            where
              small : 4 * (f.slots + C.more + f.out) ≤ size f.label
              small =
                  subst (λ l. 4 * (f.slots + C.more + f.out) ≤ size l) C.label
                  (subst (λ n. 4 * (f.slots + C.more + n) ≤ size g.label) C.out (subst (λ n. 4 * (n + g.out) ≤ size g.label) C.slots holds))

              S : Standing f g C (frame_at top f.label)
              S =
                  let le : floor + size f.label ≤ top = ltb-false top (floor + size f.label) e in
                  let le2 = small in
                  record { fits = omega arith; outer = outer; cells = cells; ready = ready }

              A : Both
              A = record {
                f = f;
                g = g;
                it = C;
                all_paid = all_paid;
                activation = frame_at top f.label;
                standing = S;
                back = λ q w1. back q (with_frame f (frame_at top f.label) Closed w1);
                back' = λ q w1. back' q (with_frame g (frame_at top f.label) Closed w1);
                backs = λ cells1 k q w1 v1 r1.
                    hb q (with_frame f (frame_at top f.label) Closed w1) (with_frame g (frame_at top f.label) Closed v1)
                    (closed f g C (frame_at top f.label) S cells1 k w1 v1 r1);
              }

      by : (o : Option F) → function_of label fs ≡ o →
          Simulates (begin_code units P size floor room c o (at_entry u) top back w)
          (begin_code units' P' size floor room d (function_of label gs) (at_entry u) top back' v)
      by None e = λ n k. absurd (k refl)
      by (Some f) e =
          let z = cert label f e in
          subst (λ o. Simulates (begin_code units P size floor room c (Some f) (at_entry u) top back w)
          (begin_code units' P' size floor room d o (at_entry u) top back' v))
          (sym z.1) (some f z.0 z.2 z.3 z.4)

  fuelled : (c d : CodePoint → Run Ran) → Follows c d → Follows (λ q. with_fuel q.world (c q)) (λ q. with_fuel q.world (d q))
  fuelled c d h A rest blocks i st pays now = by_fuel now.first_world now.second_world _ _ now.worlds.input (h A rest blocks i st pays now)

  -- One activation, where what comes after a unit of fuel follows.
  module _ (c d : CodePoint → Run Ran) (h : Follows c d) (A : Both) where
    -- what is live after a mark
    abbrev behind_mark : ℕ → Opnd → Type 0
    behind_mark m o = (r : List Instr) × (behind m A.f.body ≡ Some r) × living A.f.body r o

    abbrev jump_first : ℕ → World → Contents → Run Ran
    jump_first m w s = jump_to units P size floor room c A.f (behind m A.f.body) A.activation A.back w s

    abbrev jump_second : ℕ → World → Contents → Run Ran
    jump_second m v t = jump_to units' P' size floor room d A.g (behind m A.g.body) A.activation A.back' v t

    jumped : (m : ℕ) (now : Now A (behind_mark m)) →
        Simulates (jump_first m now.first_world now.first_contents) (jump_second m now.second_world now.second_contents)
    jumped m now = by (behind m A.f.body) refl
      where
        by : (o : Option (List Instr)) → behind m A.f.body ≡ o →
            Simulates (jump_to units P size floor room c A.f o A.activation A.back now.first_world now.first_contents)
            (jump_second m now.second_world now.second_contents)
        by None e = λ n k. absurd (k refl)
        by (Some rest) e =
            let z = stands_behind A.it.places.place (living A.f.body) (units A.f.label) (units' A.g.label) m A.f.body A.f.body A.it.blocks
            A.it.stands whole rest e in
            subst (λ o. Simulates (with_fuel now.first_world (c (first_point A (behind_mark m) now rest)))
            (jump_to units' P' size floor room d A.g o A.activation A.back' now.second_world now.second_contents))
            (sym (ap (behind m) (sym A.it.whole) ∙ z.1))
            (by_fuel now.first_world now.second_world _ _ now.worlds.input
            (h A rest z.0 z.3 z.2 (z.4 A.all_paid) (record {
              cells = now.cells;
              kept = now.kept;
              first_world = now.first_world;
              second_world = now.second_world;
              worlds = now.worlds;
              first_contents = now.first_contents;
              second_contents = now.second_contents;
              scene = record { live = λ x l. now.scene.live x (rest, e, l); hi = now.scene.hi; lo = now.scene.lo };
            })))

    abbrev run_first : List Instr → World → Contents → Run Ran
    run_first rest w s = run_code units P size floor room c A.f rest A.activation A.back w s

    abbrev run_second : List Instr → World → Contents → Run Ran
    run_second rest v t = run_code units' P' size floor room d A.g rest A.activation A.back' v t

    abbrev sides : Sides
    sides = record {
      room = room;
      literals = literals;
      enter = enter_code units P size floor room c;
      enter' = enter_code units' P' size floor room d;
      slots = A.f.slots;
      slots' = A.g.slots;
      jumps = jump_first;
      jumps' = jump_second;
      back = A.back;
      back' = A.back';
    }

    abbrev charged_second : (left : ℕ) → List Instr → Next → Next
    charged_second =
        runs_charged (units' A.g.label) room literals (enter_code units' P' size floor room d) (second_side A.activation sides)

    by_blocks : (block rest : List Instr) (v : World) (t : Contents) →
        run_second (block ++ rest) v t ≡ charged_second (length rest) block (λ v1 t1. run_second rest v1 t1) v t
    by_blocks [] rest v t = refl
    by_blocks (x ∷ xs) rest v t =
        λ i. charged (units' A.g.label (length-append xs rest i) x) (act room literals (enter_code units' P' size floor room d) (shape x)
        (second_side A.activation sides) (λ v1 t1. by_blocks xs rest v1 t1 i) v t)

    abbrev now_at : {L : Opnd → Type 0} (cells : ℕ → Cell) → Kept A.f A.g A.it A.activation A.standing cells → (w v : World) (s t : Contents) →
        Worlds (Added A.f A.g A.it A.activation A.standing) cells w v → Scene A.activation A.it.places L cells s t → Now A L
    now_at cells k w v s t r S = record {
      cells = cells;
      kept = k;
      first_world = w;
      second_world = v;
      worlds = r;
      first_contents = s;
      second_contents = t;
      scene = S;
    }

    walks : (rest : List Instr) (blocks : Blocks) → IsRest A.f.body rest → Stands A.it.places.place (living A.f.body) rest blocks →
        Paid A.f A.g rest blocks → (now : Now A (living A.f.body rest)) →
        Simulates (run_first rest now.first_world now.first_contents) (run_second (code_of blocks) now.second_world now.second_contents)
    walks _ _ i nothing pays now = λ n k. absurd (k refl)
    walks _ _ i (a_block x block rest blocks b st) pays now =
        subst (λ z. Simulates (run_first (x ∷ rest) now.first_world now.first_contents) z)
        (sym (by_blocks block (code_of blocks) now.second_world now.second_contents))
        (paid _ (units A.f.label (length rest) x) _ _ _ pays.0
        (block_does A.activation A.it.places (Added A.f A.g A.it A.activation A.standing) (Kept A.f A.g A.it A.activation A.standing) sides
        (owned A.f A.g A.it A.activation A.standing) (keeps A.f A.g A.it A.activation A.standing) (record {
          one = x;
          before = living A.f.body (x ∷ rest);
          behind = living A.f.body rest;
          at_mark = behind_mark;
          flows = flows_of A.f.body A.it.places A.it.apart A.activation x rest i;
          next = λ w1 s1. run_first rest w1 s1;
          next' = λ v1 t1. run_second (code_of blocks) v1 t1;
          onward = λ cells1 k1 w1 v1 s1 t1 r1 S1. walks rest blocks (next x rest i) st pays.1 (now_at cells1 k1 w1 v1 s1 t1 r1 S1);
          led = λ m l cells1 k1 w1 v1 s1 t1 r1 S1. jumped m (now_at cells1 k1 w1 v1 s1 t1 r1 S1);
          cells = now.cells;
          still = now.kept;
          first_world = now.first_world;
          second_world = now.second_world;
          first_contents = now.first_contents;
          second_contents = now.second_contents;
          worlds = now.worlds;
        }) block b
        (respects A.activation (Added A.f A.g A.it A.activation A.standing) now.cells sides (grow A.f A.g A.it A.activation A.standing)
        (mine A.f A.g A.it A.activation A.standing)
        (λ label w1 v1 o after after' r1 ha.
        begins (λ q. with_fuel q.world (c q)) (λ q. with_fuel q.world (d q)) (fuelled c d h) label
        (A.activation.base - A.activation.size) o (Added A.f A.g A.it A.activation A.standing) now.cells
        (ready_below A.activation.base (A.activation.base - A.activation.size) A.f.slots A.it.more A.f.out A.standing.fits A.standing.outer
        A.standing.cells A.standing.ready now.cells now.kept) after after' ha w1 v1 r1)
        (λ q w1 v1 r1. A.backs now.cells now.kept q w1 v1 r1) x)
        now.scene)
        (block_is_dearer (units' A.g.label) room literals (enter_code units' P' size floor room d) (second_side A.activation sides)
        (length (code_of blocks)) block (calls_are_last A.it.places.place (living A.f.body (x ∷ rest)) x block b)
        (λ v1 t1. run_second (code_of blocks) v1 t1) now.second_world now.second_contents))

  follows : (n : ℕ) →
      Follows (nested (stops [] WantsFuel) (code_step units P size floor room) n)
      (nested (stops [] WantsFuel) (code_step units' P' size floor room) n)
  follows zero A rest blocks i st pays now = λ n k. does_itself 0 (stops [] WantsFuel)
  follows (suc n) A rest blocks i st pays now =
      walks (nested (stops [] WantsFuel) (code_step units P size floor room) n)
      (nested (stops [] WantsFuel) (code_step units' P' size floor room) n) (follows n) A rest blocks i st pays now

  -- the first activation, at so much fuel
  abbrev begun : F → Contents → ℕ → Back → World → CodePoint
  begun f u top back w =
      point f f.body (record { base = top; size = size f.label }) (λ c w1. back c (with_frame f (record {
        base =
            top;
        size = size f.label;
      }) Closed w1))
      (with_frame f (record { base = top; size = size f.label }) Unset w) u

  at_fuel : (u : Units) (Q : Code (List Instr)) (o : Option F) (s : Contents) (top : ℕ) (back : Back) (w : World) (n : ℕ) →
      begin_code u Q size floor room (λ q m. nested (stops [] WantsFuel) (code_step u Q size floor room) (suc m) q m) o s top back w n
      ≡ begin_code u Q size floor room (nested (stops [] WantsFuel) (code_step u Q size floor room) (suc n)) o s top back w n
  at_fuel u Q None s top back w n = refl
  at_fuel u Q (Some f) s top back w n = by (nat_lt top (floor + size f.label))
    where
      by : (b : Bool) →
          (if b then over (Ended StackFull) w else
          (λ m. nested (stops [] WantsFuel) (code_step u Q size floor room) (suc m) (begun f s top back w) m)) n
          ≡ (if b then over (Ended StackFull) w else
          nested (stops [] WantsFuel) (code_step u Q size floor room) (suc n) (begun f s top back w)) n
      by true = refl
      by false = refl

  abbrev end_of_program : Back
  end_of_program c w = over (Ended (Exit (pos 0))) w

  -- before the start all of the stack is closed
  abbrev everywhere : ℕ → Bool
  everywhere x = true

  abbrev all_closed : ℕ → Cell
  all_closed x = Closed

  abbrev start : World
  start = record { memory = begin literals; input = e.input }

  started : Worlds everywhere all_closed start start
  started = record {
    input = refl;
    memory = record { statics = refl; heap = refl; other = λ x e. refl; closed = λ x e. refl; kept = λ x e. refl };
  }

  pub replaced_programs : Simulates (code_run units P size floor room e.body e.input) (code_run units' P' size floor room e.body e.input)
  replaced_programs n k =
      let e1 = at_fuel units P (function_of e.body fs) (at_entry no_contents) stack_top end_of_program start n in
      let e2 = at_fuel units' P' (function_of e.body gs) (at_entry no_contents) stack_top end_of_program start n in
      between 0 _ _ _ _ e1 e2
      (begins (nested (stops [] WantsFuel) (code_step units P size floor room) (suc n))
      (nested (stops [] WantsFuel) (code_step units' P' size floor room) (suc n)) (follows (suc n)) e.body stack_top no_contents
      everywhere all_closed (λ x h. (refl, refl)) end_of_program end_of_program
      (λ c w v r. by_end everywhere all_closed (Ended (Exit (pos 0))) w v r) start start started n
      (λ z. k (ap (λ q. q.stop) e1 ∙ z)))

  -- worlds in which added words alone differ are one to who looks at open words
  agree : (outer : ℕ → Bool) (cells : ℕ → Cell) (m k : Memory) → Beside outer cells m k → MemoriesAgree m k
  agree outer cells m k b =
      record { statics = b.statics; heap = b.heap; stack = λ x n. by x n (outer x) refl }
    where
      by : (x : ℕ) → m.stack x ≢ Closed → (q : Bool) → outer x ≡ q → k.stack x ≡ m.stack x
      by x n true e = absurd (n (b.closed x e))
      by x n false e = b.other x e

  module _ (see : Memory → Ran) (watches : IsWatcher see) where
    sees : (outer : ℕ → Bool) (cells : ℕ → Cell) (w v : World) → Worlds outer cells w v →
        Simulates (λ n. see w.memory) (λ n. see v.memory)
    sees outer cells w v r =
        λ n k. same_run _ _ (watches.sees w.memory v.memory (agree outer cells w.memory v.memory r.memory) k)

    follows_seen : (turns : ℕ) → Follows (seen_from units P e see turns) (seen_from units' P' e see turns)
    follows_seen zero A rest blocks i st pays now =
        sees (Added A.f A.g A.it A.activation A.standing) now.cells now.first_world now.second_world now.worlds
    follows_seen (suc n) A rest blocks i st pays now =
        walks (seen_from units P e see n) (seen_from units' P' e see n) (follows_seen n) A rest blocks i st pays now

    pub replaced_seen : (turns : ℕ) → Simulates (seen units P e see turns) (seen units' P' e see turns)
    replaced_seen turns =
        begins (seen_from units P e see turns) (seen_from units' P' e see turns)
        (follows_seen turns) e.body stack_top no_contents
        everywhere all_closed (λ x h. (refl, refl)) (λ c w n. see w.memory) (λ c w n. see w.memory)
        (λ c w v r. sees everywhere all_closed w v r) start start started
