-- What a step of the walk puts in the place of an instruction does the same.
use Rattle.std.proofs.Common.{ℕ, zero, suc, ◌≡◌, Bool, true, false, List, [], ◌∷◌, Option, Some, None, refl, sym, ap, ◌∙◌, subst}
use Rattle.std.proofs.Common.{eq-eqb}
use Rattle.tg_simulation.specs.Runs.{Run}
use Rattle.tg_simulation.specs.Ran.{Ran}
use Rattle.tg_tree.specs.declared.operators.Rel.{Rel}
use Rattle.tg_tree.specs.Tree.{Literal}
use Rattle.tg_tree.specs.Actions.{World, Activation}
use Rattle.tg_tree.specs.Operators.{opposite}
use Rattle.tg_instr.specs.declared.operands.Opnd.{Opnd}
use Rattle.tg_instr.specs.declared.instr.Instr.{Instr}
use Rattle.tg_instr.specs.Shapes.{Operand, InstructionShape, From0, From1, From2, Halves, Copy, Loads, Stores}
use Rattle.tg_instr.specs.Shapes.{FromSlot, ToSlot, Base, AddressOf, Here, Goes, Tests, Calls, Asks, Fails, Returns, shape}
use Rattle.tg_instr.specs.Contents.{Content, Nothing, Word, Found, Contents, set}
use Rattle.tg_instr.specs.Meaning.{Next, with_content, act}
use Rattle.tg_regalloc_proof.proofs.Simulating.{Simulates, same_run}
use Rattle.tg_redundancy.specs.declared.readings.Reading.{Reading}
use Rattle.tg_redundancy.specs.mirror.Readings.{temp, reading_of, reread}
use Rattle.tg_redundancy.proofs.ReadShapes.{reading_is, shape_of}
use Rattle.tg_redundancy.specs.mirror.Facts.{Facts, stands, found, is_untrue}
use Rattle.tg_redundancy.specs.mirror.Known.{Claims, claimed, is_way, comes_back, arrival, State, Step, gives, tested, by_shape, by_reading, known_step, gotten}
use Rattle.tg_redundancy_proof.proofs.Getting.{Got, Put, Over, gets, done, act_gets, puts_something}
use Rattle.tg_redundancy_proof.proofs.Holding.{Hold, Arrives, claim_holds, stands_held, reread_gets, found_holds, untrue_holds, gotten_hold, copied_hold}
use Rattle.tg_redundancy_proof.proofs.Holding.{content_puts}
use Rattle.tg_redundancy_proof.proofs.Doing.{Sides, first_side, second_side, defines, copies, stores, keeps_slot, tests, falls, jumps_on, calls, asks, fails}
use Rattle.tg_redundancy_proof.proofs.Doing.{returns}

module _ (room : ℕ) (literals : List Literal) (a : Activation) (k : ℕ) (sides : Sides room literals a k) (most : ℕ) where
  -- a block, uncharged
  abbrev pub alone : List Instr → Next → Next
  alone [] next' w s = next' w s
  alone (y ∷ ys) next' w s = act room literals sides.enter' (shape y) (second_side room literals a k sides) (alone ys next') w s

  abbrev pub first : InstructionShape → Next → Next
  first q next w s = act room literals sides.enter q (first_side room literals a k sides) next w s

  abbrev pub second : InstructionShape → Next → Next
  second q next w s = act room literals sides.enter' q (second_side room literals a k sides) next w s

  -- a step does what the shape does
  abbrev pub StepDoes : InstructionShape → Step → World → Contents → Type 0
  StepDoes q step w s =
      (next next' : Next) →
      ((w1 : World) (s1 : Contents) → Arrives a k step.state.comes w1 s1 → Simulates (next w1 s1) (next' w1 s1)) →
      ((m : ℕ) (w1 : World) (s1 : Contents) → is_way m q ≡ true → Arrives a k (claimed m step.state.claims) w1 s1 →
      Simulates (sides.jumps m w1 s1) (sides.jumps' m w1 s1)) →
      Simulates (first q next w s) (alone step.block next' w s)

  module _ (rest : List Instr) (one : Instr) (f : Facts) (cl : Claims) (n : ℕ) (w : World) (s : Contents) (h : Hold a k w s f) where
    abbrev st : State
    st = record { comes = Some f; claims = cl; room = n }

    stayed : (q : InstructionShape) → shape one ≡ q → (next next' : Next) → Simulates (first q next w s) (second q next' w s) →
        Simulates (first q next w s) (second (shape one) next' w s)
    stayed q e next next' h = subst (λ z. Simulates (first q next w s) (second z next' w s)) (sym e) h

    arrived : (b : Bool) (met : Option Facts) → Hold a k w s (arrival b (Some f) met)
    arrived true met = tt
    arrived false None = h
    arrived false (Some g) = tt

    by_tests : (rel : Rel) (left right : Opnd) (m : ℕ) → shape one ≡ Tests rel left right m → (b b' : Bool) →
        is_untrue rel (stands f left) (stands f right) f ≡ b → is_untrue (opposite rel) (stands f left) (stands f right) f ≡ b' →
        StepDoes (Tests rel left right m) (tested most b b' rel (stands f left) (stands f right) m one st) w s
    by_tests rel left right m e true b' i j next next' onward led =
        let u = untrue_holds a k w s rel (stands f left) (stands f right) f i h in
        falls room literals a k sides f w s next next' h rel left right m
        (u.0, u.1, sym (stands_held a k w s f left h) ∙ u.2, sym (stands_held a k w s f right h) ∙ u.3, u.4) (onward w s h)
    by_tests rel left right m e false true i j next next' onward led =
        let u = untrue_holds a k w s (opposite rel) (stands f left) (stands f right) f j h in
        jumps_on room literals a k sides f w s next next' h rel left right m
        (u.0, u.1, sym (stands_held a k w s f left h) ∙ u.2, sym (stands_held a k w s f right h) ∙ u.3, u.4)
        (led m w s (eq-eqb m m refl) (claim_holds a k m f cl w s h))
    by_tests rel left right m e false false i j next next' onward led =
        stayed (Tests rel left right m) e next next'
        (tests room literals a k sides f w s next next' h most rel left right m onward
        (λ w1 s1 g. led m w1 s1 (eq-eqb m m refl) (claim_holds a k m _ cl w1 s1 g)) h)

    by_shapes : (q : InstructionShape) → shape one ≡ q → StepDoes q (by_shape most q (comes_back rest (shape one)) one st) w s
    by_shapes (From0 to j) e next next' onward led = stayed _ e next next' (defines room literals a k sides f w s next next' h (From0 to j) refl onward h)
    by_shapes (From1 to from g) e next next' onward led = stayed _ e next next' (defines room literals a k sides f w s next next' h (From1 to from g) refl onward h)
    by_shapes (From2 to x y g) e next next' onward led = stayed _ e next next' (defines room literals a k sides f w s next next' h (From2 to x y g) refl onward h)
    by_shapes (Halves x y l g) e next next' onward led = stayed _ e next next' (defines room literals a k sides f w s next next' h (Halves x y l g) refl onward h)
    by_shapes (Loads to x j g) e next next' onward led = stayed _ e next next' (defines room literals a k sides f w s next next' h (Loads to x j g) refl onward h)
    by_shapes (FromSlot to j) e next next' onward led = stayed _ e next next' (defines room literals a k sides f w s next next' h (FromSlot to j) refl onward h)
    by_shapes (Base to) e next next' onward led = stayed _ e next next' (defines room literals a k sides f w s next next' h (Base to) refl onward h)
    by_shapes (AddressOf to l) e next next' onward led = stayed _ e next next' (defines room literals a k sides f w s next next' h (AddressOf to l) refl onward h)
    by_shapes (Copy to from) e next next' onward led = stayed _ e next next' (copies room literals a k sides f w s next next' h most to from onward h)
    by_shapes (Stores from x j g) e next next' onward led = stayed _ e next next' (stores room literals a k sides f w s next next' h most from x j g onward h)
    by_shapes (ToSlot from j) e next next' onward led = stayed _ e next next' (keeps_slot room literals a k sides f w s next next' h most from j onward h)
    by_shapes (Here m) e next next' onward led = stayed (Here m) e next next' (onward w s (arrived (comes_back rest (shape one)) (claimed m cl)))
    by_shapes (Goes m) e next next' onward led = stayed (Goes m) e next next' (led m w s (eq-eqb m m refl) (claim_holds a k m f cl w s h))
    by_shapes (Tests rel x y m) e next next' onward led = by_tests rel x y m e _ _ refl refl next next' onward led
    by_shapes (Calls l) e next next' onward led = stayed _ e next next' (calls room literals a k sides f w s next next' h l onward h)
    by_shapes Asks e next next' onward led = stayed _ e next next' (asks room literals a k sides f w s next next' h onward h)
    by_shapes (Fails j) e next next' onward led = stayed _ e next next' (fails room literals a k sides f w s next next' h j h)
    by_shapes Returns e next next' onward led = stayed _ e next next' (returns room literals a k sides f w s next next' h h)

    module _ (t : ℕ) (r : Reading) (e : shape one ≡ shape_of t r) where
      abbrev stood : Reading
      stood = reread (stands f) r

      -- an instruction that stays
      gets_done : (next next' : Next) → ((w1 : World) (s1 : Contents) → Hold a k w1 s1 (gotten most t stood f) → Simulates (next w1 s1) (next' w1 s1)) →
          (g : Got) → gets r a k w s ≡ g →
          Simulates (done g w (λ c. next w (set (Operand (temp t)) c s))) (done g w (λ c. next' w (set (Operand (temp t)) c s)))
      gets_done next next' onward (Put c) i =
          onward w (set (Operand (temp t)) c s) (gotten_hold a k most t stood c w s f (reread_gets a k w s f r h ∙ i) h)
      gets_done next next' onward (Over stop) i = λ j z. same_run _ _ refl

      gives_itself : (next next' : Next) → ((w1 : World) (s1 : Contents) → Hold a k w1 s1 (gotten most t stood f) → Simulates (next w1 s1) (next' w1 s1)) →
          Simulates (first (shape_of t r) next w s) (second (shape one) next' w s)
      gives_itself next next' onward =
          stayed (shape_of t r) e next next'
          (subst (λ z. Simulates z (second (shape_of t r) next' w s))
          (sym (act_gets room literals sides.enter r t (first_side room literals a k sides) next w s))
          (subst (λ z. Simulates (done (gets r a k w s) w (λ c. next w (set (Operand (temp t)) c s))) z)
          (sym (act_gets room literals sides.enter' r t (second_side room literals a k sides) next' w s))
          (gets_done next next' onward (gets r a k w s) refl)))

      picks : (c : Content) (go : Content → Run Ran) → (c ≡ Nothing → ⊥) → with_content c w go ≡ go c
      picks Nothing go i = absurd (i refl)
      picks (Word v) go i = refl
      picks (Found q) go i = refl

      by_readings : (o : Option ℕ) → found t stood f ≡ o → (j : ℕ) → StepDoes (shape_of t r) (gives most t stood o j one st) w s
      by_readings (Some u) i (suc j) next next' onward led =
          let got : gets r a k w s ≡ Put (s (Operand (temp u))) =
          sym (reread_gets a k w s f r h) ∙ found_holds a k w s t stood f u i h in
          let some : s (Operand (temp u)) ≡ Nothing → ⊥ = λ z. puts_something r a k w s (got ∙ ap Put z) in
          subst (λ z. Simulates z (second (Copy (temp t) (temp u)) next' w s))
          (sym (act_gets room literals sides.enter r t (first_side room literals a k sides) next w s))
          (subst (λ z. Simulates (done z w (λ c. next w (set (Operand (temp t)) c s))) (second (Copy (temp t) (temp u)) next' w s)) (sym got)
          (subst (λ z. Simulates (next w (set (Operand (temp t)) (s (Operand (temp u))) s)) z)
          (sym (picks (s (Operand (temp u))) (λ c. next' w (set (Operand (temp t)) c s)) some))
          (onward w (set (Operand (temp t)) (s (Operand (temp u))) s)
          (copied_hold a k most t (temp u) (s (Operand (temp u))) w s f (content_puts (s (Operand (temp u))) some) h))))
      by_readings (Some u) i zero next next' onward led = gives_itself next next' onward
      by_readings None i zero next next' onward led = gives_itself next next' onward
      by_readings None i (suc j) next next' onward led = gives_itself next next' onward

    pub steps_do : StepDoes (shape one) (known_step most rest one st) w s
    steps_do = by (reading_of one) refl
      where
        by : (o : Option (ℕ × Reading)) → reading_of one ≡ o → StepDoes (shape one) (by_reading most o (comes_back rest (shape one)) one st) w s
        by None e = by_shapes (shape one) refl
        by (Some (t, r)) e =
            let i = reading_is one t r e in
            subst (λ q. StepDoes q (by_reading most (Some (t, r)) (comes_back rest (shape one)) one st) w s) (sym i)
            (by_readings t r i (found t (reread (stands f) r) f) refl n)
