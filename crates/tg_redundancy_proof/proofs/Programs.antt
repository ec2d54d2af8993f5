-- Programs whose functions have known code in the place of theirs: they run alike.
use Rattle.std.proofs.Common.{ℕ, zero, suc, ◌≡◌, ◌+◌, ◌-◌, ◌≤◌, Bool, true, false, List, [], ◌∷◌, ◌++◌, length}
use Rattle.std.proofs.Common.{nat_lt, refl, sym, ap, ◌∙◌, subst, Option, Some, None, pos, arith}
use Rattle.std.specs.Prelude.{if◌then◌else◌}
use Rattle.tg_machine_state.specs.declared.ends.RunEnd.TheVariants.{Exit, StackFull}
use Rattle.tg_machine_state.specs.State.{stack_top}
use Rattle.tg_simulation.specs.Runs.{Run, nested}
use Rattle.tg_simulation.specs.Ran.{Ran, Ended, WantsFuel, stops}
use Rattle.tg_tree.specs.Tree.{Function, Code, Literal}
use Rattle.tg_tree.specs.Memory.{Cell, Closed, Unset, Memory, lay, begin}
use Rattle.tg_tree.specs.Actions.{World, Activation, over, charged}
use Rattle.tg_tree.specs.Running.{function_of, with_fuel}
use Rattle.tg_instr.specs.declared.instr.Instr.{Instr}
use Rattle.tg_instr.specs.declared.instr.Instr.TheVariants.{Move, Jump}
use Rattle.tg_instr.specs.Shapes.{shape}
use Rattle.tg_instr.specs.Contents.{Content, Contents, no_contents, at_entry}
use Rattle.tg_instr.specs.Meaning.{Back, act}
use Rattle.tg_instr.specs.Running.{Units, behind, lay_out, with_frame, CodePoint, begin_code, enter_code, jump_to, run_code}
use Rattle.tg_instr.specs.Running.{code_step, code_run}
use Rattle.tg_regalloc_proof.specs.Blocks.{Blocks, code_of, spent, Covers}
use Rattle.tg_regalloc_proof.specs.Keeping.{program, Surroundings, seen_from, seen}
use Rattle.tg_regalloc_proof.proofs.Simulating.{Simulates, does_itself, same_run, between, by_fuel, works_too}
use Rattle.tg_redundancy.specs.mirror.Readings.{temp}
use Rattle.tg_redundancy.specs.mirror.Facts.{Facts}
use Rattle.tg_redundancy.specs.mirror.Known.{State, at_start, is_way, claimed, known_step, known_blocks}
use Rattle.tg_redundancy_proof.proofs.Holding.{Arrives}
use Rattle.tg_redundancy_proof.proofs.Doing.{Sides}
use Rattle.tg_redundancy_proof.proofs.Stepping.{StepDoes, steps_do, alone}
use Rattle.tg_redundancy.proofs.Blocks.{IsBlock, itself, gone, a_move, a_jump, each_step}
use Rattle.tg_redundancy_proof.proofs.Landing.{From, here, one_more, covers_from, lands}

abbrev F : Type 0
F = Function (List Instr)

-- the second has the known code of the first, with so many facts and moves at most
pub record IsKnown (f g : F) : Type 0 where
  pub most : ℕ
  pub moves : ℕ
  pub label : g.label ≡ f.label
  pub out : g.out ≡ f.out
  pub slots : g.slots ≡ f.slots
  pub whole : code_of (known_blocks most f.body (at_start moves)) ≡ g.body

abbrev pub blocks_in : {f g : F} → IsKnown f g → Blocks
blocks_in {f = f} it = known_blocks it.most f.body (at_start it.moves)

module _ (fs gs : List (Function (List Instr))) (units units' : Units) (e : Surroundings)
    (cert : (l : ℕ) (f : Function (List Instr)) → function_of l fs ≡ Some f →
    (g : Function (List Instr)) × (function_of l gs ≡ Some g) × (C : IsKnown f g) ×
    Covers (units f.label) f.body (units' g.label) (known_blocks C.most f.body (at_start C.moves))) where
  abbrev P : Code (List Instr)
  P = program fs e.literals

  abbrev P' : Code (List Instr)
  P' = program gs e.literals

  abbrev size : ℕ → ℕ
  size = e.size

  abbrev floor : ℕ
  floor = e.floor

  abbrev room : ℕ
  room = e.room

  abbrev literals : List Literal
  literals = e.literals

  abbrev point : (f : F) → List Instr → Activation → Back → World → Contents → CodePoint
  point f rest a back w s = record { function = f; rest = rest; activation = a; back = back; world = w; contents = s }

  -- an activation of both
  record Both : Type 0 where
    f : F
    g : F
    it : IsKnown f g
    all_paid : Covers (units f.label) f.body (units' g.label) (known_blocks it.most f.body (at_start it.moves))
    activation : Activation
    back : Back
    back' : Back
    backs : (c : Content) (w : World) → Simulates (back c w) (back' c w)

  -- from each place of each activation on
  abbrev Follows : (CodePoint → Run Ran) → (CodePoint → Run Ran) → Type 0
  Follows c d =
      (A : Both) (rest : List Instr) (s : State) → From A.it.most rest s A.f.body (at_start A.it.moves) →
      (w : World) (t : Contents) → Arrives A.activation A.f.slots s.comes w t →
      Simulates (c (point A.f rest A.activation A.back w t))
      (d (point A.g (code_of (known_blocks A.it.most rest s)) A.activation A.back' w t))

  abbrev frame_at : (top label : ℕ) → Activation
  frame_at top l = record { base = top; size = size l }

  abbrev begun_at : (CodePoint → Run Ran) → F → List Instr → (top label : ℕ) → Contents → Back → World → Run Ran
  begun_at c f body top l s back w =
      c (point f body (frame_at top l) (λ q w1. back q (with_frame f (frame_at top l) Closed w1)) (with_frame f (frame_at top l) Unset w) s)

  -- both have the same frame
  framed : (f g : F) → IsKnown f g → (a : Activation) (c : Cell) (w : World) → with_frame g a c w ≡ with_frame f a c w
  framed f g it a c w = λ i. record w { memory = lay_out (a.base - a.size) (it.out i) c (lay a.base (it.slots i) c w.memory) }

  begins : (c d : CodePoint → Run Ran) → Follows c d → (label top : ℕ) (u : Contents) (back back' : Back) →
      ((q : Content) (w : World) → Simulates (back q w) (back' q w)) → (w : World) →
      Simulates (begin_code units P size floor room c (function_of label fs) (at_entry u) top back w)
      (begin_code units' P' size floor room d (function_of label gs) (at_entry u) top back' w)
  begins c d h label top u back back' hb w = by (function_of label fs) refl
    where
      some : (f g : F) (C : IsKnown f g) → Covers (units f.label) f.body (units' g.label) (known_blocks C.most f.body (at_start C.moves)) →
          Simulates (begin_code units P size floor room c (Some f) (at_entry u) top back w)
          (begin_code units' P' size floor room d (Some g) (at_entry u) top back' w)
      some f g C all_paid =
          subst (λ l. Simulates (begin_code units P size floor room c (Some f) (at_entry u) top back w)
          (if nat_lt top (floor + size l) then over (Ended StackFull) w else begun_at d g g.body top l (at_entry u) back' w))
          (sym C.label) (guarded (nat_lt top (floor + size f.label)))
        where
          A : Both
          A = record {
            f = f;
            g = g;
            it = C;
            all_paid = all_paid;
            activation = frame_at top f.label;
            back = λ q w1. back q (with_frame f (frame_at top f.label) Closed w1);
            back' = λ q w1. back' q (with_frame g (frame_at top f.label) Closed w1);
            backs = λ q w1.
                subst (λ z. Simulates (back q (with_frame f (frame_at top f.label) Closed w1)) (back' q z))
                (sym (framed f g C (frame_at top f.label) Closed w1)) (hb q (with_frame f (frame_at top f.label) Closed w1));
          }

          guarded : (b : Bool) →
              Simulates (if b then over (Ended StackFull) w else begun_at c f f.body top f.label (at_entry u) back w)
              (if b then over (Ended StackFull) w else begun_at d g g.body top f.label (at_entry u) back' w)
          guarded true = λ n k. same_run _ _ refl
          guarded false =
              subst (λ b. Simulates (begun_at c f f.body top f.label (at_entry u) back w)
              (begun_at d g b top f.label (at_entry u) back' w)) C.whole
              (subst (λ z. Simulates (begun_at c f f.body top f.label (at_entry u) back w)
              (d (point g (code_of (known_blocks C.most f.body (at_start C.moves))) (frame_at top f.label)
              (λ q w1. back' q (with_frame g (frame_at top f.label) Closed w1)) z (at_entry u))))
              (sym (framed f g C (frame_at top f.label) Unset w))
              (h A f.body (at_start C.moves) here (with_frame f (frame_at top f.label) Unset w) (at_entry u) tt))

      by : (o : Option F) → function_of label fs ≡ o →
          Simulates (begin_code units P size floor room c o (at_entry u) top back w)
          (begin_code units' P' size floor room d (function_of label gs) (at_entry u) top back' w)
      by None i = λ n k. absurd (k refl)
      by (Some f) i =
          let z = cert label f i in
          subst (λ o. Simulates (begin_code units P size floor room c (Some f) (at_entry u) top back w)
          (begin_code units' P' size floor room d o (at_entry u) top back' w))
          (sym z.1) (some f z.0 z.2 z.3)

  fuelled : (c d : CodePoint → Run Ran) → Follows c d → Follows (λ q. with_fuel q.world (c q)) (λ q. with_fuel q.world (d q))
  fuelled c d h A rest s i w t g = by_fuel w w _ _ refl (h A rest s i w t g)

  module _ (c d : CodePoint → Run Ran) (h : Follows c d) (A : Both) where
    abbrev jump_first : ℕ → World → Contents → Run Ran
    jump_first m w s = jump_to units P size floor room c A.f (behind m A.f.body) A.activation A.back w s

    abbrev jump_second : ℕ → World → Contents → Run Ran
    jump_second m v t = jump_to units' P' size floor room d A.g (behind m A.g.body) A.activation A.back' v t

    abbrev run_first : List Instr → World → Contents → Run Ran
    run_first rest w s = run_code units P size floor room c A.f rest A.activation A.back w s

    abbrev run_second : List Instr → World → Contents → Run Ran
    run_second rest v t = run_code units' P' size floor room d A.g rest A.activation A.back' v t

    abbrev step_of : List Instr → Instr → State → State
    step_of rest one s = (known_step A.it.most rest one s).state

    jumped : (one : Instr) (rest : List Instr) (s : State) → From A.it.most (one ∷ rest) s A.f.body (at_start A.it.moves) →
        (m : ℕ) (w : World) (t : Contents) → is_way m (shape one) ≡ true →
        Arrives A.activation A.f.slots (claimed m (step_of rest one s).claims) w t → Simulates (jump_first m w t) (jump_second m w t)
    jumped one rest s i m w t way g = by (behind m A.f.body) refl
      where
        by : (o : Option (List Instr)) → behind m A.f.body ≡ o →
            Simulates (jump_to units P size floor room c A.f o A.activation A.back w t) (jump_second m w t)
        by None j = λ n k. absurd (k refl)
        by (Some r) j =
            let z = lands A.activation A.f.slots A.it.most m one rest s way A.f.body (at_start A.it.moves) i r j in
            subst (λ o. Simulates (with_fuel w (c (point A.f r A.activation A.back w t)))
            (jump_to units' P' size floor room d A.g o A.activation A.back' w t))
            (sym (ap (behind m) (sym A.it.whole) ∙ z.2))
            (by_fuel w w _ _ refl (h A r z.0 z.1 w t (z.3 w t g)))

    abbrev sides : Sides room literals A.activation A.f.slots
    sides = record {
      enter = enter_code units P size floor room c;
      enter' = enter_code units' P' size floor room d;
      jumps = jump_first;
      jumps' = jump_second;
      back = A.back;
      back' = A.back';
      enters = λ label top s b b' w hb.
          begins (λ q. with_fuel q.world (c q)) (λ q. with_fuel q.world (d q)) (fuelled c d h) label top s b b' hb w;
      backs = A.backs;
    }

    -- a block with its charge
    single : (y : Instr) (l : List Instr) (u : ℕ) (x : Run Ran) (w : World) (t : Contents) →
        spent (units' A.g.label) (length l) (y ∷ []) ≤ u →
        Simulates x (alone room literals A.activation A.f.slots sides A.it.most (y ∷ []) (run_second l) w t) →
        Simulates (charged u x) (run_second (y ∷ l) w t)
    single y l u x w t le hs =
        subst (λ k. Simulates (charged u x) (charged (units' A.g.label (length l) y)
        (act room literals (enter_code units' P' size floor room d) (shape y)
        (record { activation = A.activation; slots = k; jumps = jump_second; back = A.back' }) (run_second l) w t)))
        (sym A.it.slots)
        (λ n k. works_too u (units' A.g.label (length l) y) 0 0 (x n) _ enough (hs n (λ z. k z)))
      where
        none : (n : ℕ) → 0 + n ≡ n
        none n = omega arith

        enough : units' A.g.label (length l) y + 0 ≤ u + 0
        enough =
            let z : units' A.g.label (length l) y + 0 ≤ u =
            subst (λ n. units' A.g.label n y + 0 ≤ u) (none (length l)) le in omega (arith, z)

    block_charged : (one : Instr) (l : List Instr) (u : ℕ) (x : Run Ran) (w : World) (t : Contents) (b : List Instr) → IsBlock one b →
        spent (units' A.g.label) (length l) b ≤ u →
        Simulates x (alone room literals A.activation A.f.slots sides A.it.most b (run_second l) w t) →
        Simulates (charged u x) (run_second (b ++ l) w t)
    block_charged one l u x w t _ (gone rel y z m e1) le hs =
        λ n k. let it = hs n (λ i. k i) in let a = it.work in
        record { output = it.output; input = it.input; stop = it.stop; work = omega arith }
    block_charged one l u x w t _ itself le hs = single one l u x w t le hs
    block_charged one l u x w t _ (a_move i j q e1) le hs = single (Move (temp i) (temp j)) l u x w t le hs
    block_charged one l u x w t _ (a_jump rel y z m e1) le hs = single (Jump m) l u x w t le hs

    stepped : (rest : List Instr) (one : Instr) (s : State) (w : World) (t : Contents) (o : Option Facts) →
        Arrives A.activation A.f.slots o w t →
        StepDoes room literals A.activation A.f.slots sides A.it.most (shape one)
        (known_step A.it.most rest one (record { comes = o; claims = s.claims; room = s.room })) w t
    stepped rest one s w t None g = absurd g
    stepped rest one s w t (Some f) g =
        steps_do room literals A.activation A.f.slots sides A.it.most rest one f s.claims s.room w t g

    walks : (rest : List Instr) (s : State) → From A.it.most rest s A.f.body (at_start A.it.moves) → (w : World) (t : Contents) →
        Arrives A.activation A.f.slots s.comes w t →
        Simulates (run_first rest w t) (run_second (code_of (known_blocks A.it.most rest s)) w t)
    walks [] s i w t g = λ n k. absurd (k refl)
    walks (one ∷ rest) s i w t g =
        block_charged one (code_of (known_blocks A.it.most rest (step_of rest one s))) (units A.f.label (length rest) one) _ w t
        (known_step A.it.most rest one s).block
        (each_step A.it.most rest one s (λ b cl. IsBlock one b) (λ b j. j) (λ b j m f. j) (λ b j m e1. j))
        (covers_from A.it.most (units A.f.label) (units' A.g.label) (one ∷ rest) s A.f.body (at_start A.it.moves) i A.all_paid).0
        (stepped rest one s w t s.comes g (λ w1 t1. run_first rest w1 t1)
        (run_second (code_of (known_blocks A.it.most rest (step_of rest one s))))
        (λ w1 t1 g1. walks rest (step_of rest one s) (one_more A.it.most one rest s A.f.body (at_start A.it.moves) i) w1 t1 g1)
        (λ m w1 t1 way g1. jumped one rest s i m w1 t1 way g1))

  follows : (n : ℕ) →
      Follows (nested (stops [] WantsFuel) (code_step units P size floor room) n)
      (nested (stops [] WantsFuel) (code_step units' P' size floor room) n)
  follows zero A rest s i w t g = λ n k. does_itself 0 (stops [] WantsFuel)
  follows (suc n) A rest s i w t g =
      walks (nested (stops [] WantsFuel) (code_step units P size floor room) n)
      (nested (stops [] WantsFuel) (code_step units' P' size floor room) n) (follows n) A rest s i w t g

  -- the first activation, at so much fuel
  abbrev begun : F → Contents → ℕ → Back → World → CodePoint
  begun f u top back w =
      point f f.body (record { base = top; size = size f.label }) (λ c w1. back c (with_frame f (record {
        base =
            top;
        size = size f.label;
      }) Closed w1))
      (with_frame f (record { base = top; size = size f.label }) Unset w) u

  at_fuel : (u : Units) (Q : Code (List Instr)) (o : Option F) (s : Contents) (top : ℕ) (back : Back) (w : World) (n : ℕ) →
      begin_code u Q size floor room (λ q m. nested (stops [] WantsFuel) (code_step u Q size floor room) (suc m) q m) o s top back w n
      ≡ begin_code u Q size floor room (nested (stops [] WantsFuel) (code_step u Q size floor room) (suc n)) o s top back w n
  at_fuel u Q None s top back w n = refl
  at_fuel u Q (Some f) s top back w n = by (nat_lt top (floor + size f.label))
    where
      by : (b : Bool) →
          (if b then over (Ended StackFull) w else
          (λ m. nested (stops [] WantsFuel) (code_step u Q size floor room) (suc m) (begun f s top back w) m)) n
          ≡ (if b then over (Ended StackFull) w else
          nested (stops [] WantsFuel) (code_step u Q size floor room) (suc n) (begun f s top back w)) n
      by true = refl
      by false = refl

  abbrev end_of_program : Back
  end_of_program c w = over (Ended (Exit (pos 0))) w

  abbrev start : World
  start = record { memory = begin literals; input = e.input }

  pub known_programs : Simulates (code_run units P size floor room e.body e.input) (code_run units' P' size floor room e.body e.input)
  known_programs n k =
      let e1 = at_fuel units P (function_of e.body fs) (at_entry no_contents) stack_top end_of_program start n in
      let e2 = at_fuel units' P' (function_of e.body gs) (at_entry no_contents) stack_top end_of_program start n in
      between 0 _ _ _ _ e1 e2
      (begins (nested (stops [] WantsFuel) (code_step units P size floor room) (suc n))
      (nested (stops [] WantsFuel) (code_step units' P' size floor room) (suc n)) (follows (suc n)) e.body stack_top no_contents
      end_of_program end_of_program (λ c w j z. same_run _ _ refl) start n
      (λ z. k (ap (λ q. q.stop) e1 ∙ z)))

  -- what looks at a memory sees the same
  module _ (see : Memory → Ran) where
    follows_seen : (turns : ℕ) → Follows (seen_from units P e see turns) (seen_from units' P' e see turns)
    follows_seen zero A rest s i w t g = λ n k. same_run _ _ refl
    follows_seen (suc n) A rest s i w t g = walks (seen_from units P e see n) (seen_from units' P' e see n) (follows_seen n) A rest s i w t g

    pub known_seen : (turns : ℕ) → Simulates (seen units P e see turns) (seen units' P' e see turns)
    known_seen turns =
        begins (seen_from units P e see turns) (seen_from units' P' e see turns) (follows_seen turns) e.body stack_top no_contents
        (λ c w n. see w.memory) (λ c w n. see w.memory) (λ c w n k. same_run _ _ refl) start
