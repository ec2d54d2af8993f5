-- The code of blocks does what they do: at each place, by induction on the fuel, and on how many blocks stand from there on.
use Rattle.std.proofs.Common.{◌≡◌, ◌≤◌, ◌<◌, ℕ, zero, suc, ◌+◌, ◌-◌, ◌*◌, inl, inr, Bool, true, false, List, [], ◌∷◌, ◌++◌, length, drop, refl, ap}
use Rattle.std.proofs.Common.{sym, ◌∙◌, arith, drop-cons}
use Rattle.std.specs.Prelude.{not, nat_lt, Option, Some, None, if◌then◌else◌}
use Rattle.std.proofs.lemmas.Bool.{cases_lt, lt-ltb, le-ltb, eqb-true}
use Rattle.tg_machine_state.specs.declared.ends.RunEnd.TheVariants.{Break}
use Rattle.tg_simulation.specs.Runs.{Run}
use Rattle.tg_simulation.specs.Ran.{Ran, Ended, WantsFuel, Wrong, stops}
use Rattle.tg_simulation.specs.laws.Simulating.{Simulates}
use Rattle.tg_simulation.proofs.Simulations.{simulates_turn, simulates_turn_behind, simulates_paying, simulates_working, simulates_with_credit, simulates_along}
use Rattle.tg_simulation.proofs.Simulations.{simulates_trading, simulates_unpaid, simulates_working_less}
use Rattle.tg_tree.specs.declared.operators.Rel.{Rel}
use Rattle.tg_tree.specs.Tree.{Tx, Stms, no_stms, stm, Linear, Mark, Function, Literal, Code}
use Rattle.tg_tree.specs.Operators.{holds, opposite}
use Rattle.tg_tree.specs.Units.{Canonical, entry_units}
use Rattle.tg_tree.specs.Actions.{World, Temps, Around, Back, Next, Acts, Go, charged, wrong}
use Rattle.tg_tree.specs.Meaning.{Point, value}
use Rattle.tg_tree.specs.Carrying.{CallsSimulate}
use Rattle.tg_tree.specs.Flat.{Last, behind, FlatPoint, enter_flat, jump_to, run_flat, flat_going}
use Rattle.tg_tree.proofs.Relating.{Related, AlikeAround, around, Alike, alike, keep_choice, keep_back, keep_value, keep_run}
use Rattle.tg_tree.proofs.Going.{one, OneWorld, OneTemps}
use Rattle.tg_tree.proofs.Opposites.{opposite_holds}
use Rattle.tg_tree.proofs.FlatRuns.{flat_code_steps}
use Rattle.tg_trace_schedule.specs.Block.{BlockEnd, Jump, Branch, Fault, Return, Block}
use Rattle.tg_trace_schedule.specs.mirror.Laying.{no_block, block_at, is_next, jump_unless, branch_by, end_code, body_code}
use Rattle.tg_trace_schedule.specs.Shapes.{EndsBelow, LeadsBelow}
use Rattle.tg_trace_schedule.specs.laws.Heads.{LeadsTo}
use Rattle.tg_trace_schedule.specs.Meaning.{end_units, BlockPoint, enter_blocks, word_of, run_within, finish, return_to, run_from, block_going}
use Rattle.tg_trace_schedule.specs.laws.Traced.{block_runner, flat_runner}
use Rattle.tg_trace_schedule.proofs.BlocksRuns.{blocks_step}
use Rattle.tg_trace_schedule.proofs.BlocksFlat.{pays_less, keeps_simulating}
use Rattle.tg_trace_schedule.proofs.TracesStands.{Falls, Stands}

-- Both do the same, and the code after the pass no more work.
abbrev pub SameWork : (r : ℕ) → Related
SameWork r n w c d = Simulates 1 r n c d

both_pay : (r n j k : ℕ) (c d : Run Ran) → k ≤ j → Simulates 1 (r + (j - k)) n c d → Simulates 1 r n (charged j c) (charged k d)
both_pay r n j k c d le h = simulates_trading 1 r (r + (j - k)) n j k c d (omega arith) h

pays_alone : (r n j : ℕ) (c d : Run Ran) → Simulates 1 r n c d → Simulates 1 r n (charged j c) d
pays_alone r n j c d h = simulates_paying 1 r n j c d (simulates_with_credit 1 r (r + 1 * j) n c d (omega arith) h)

unpaid : (r n k : ℕ) (c d : Run Ran) → Simulates 1 r n (charged k c) d → Simulates 1 (r + k) n c d
unpaid r n k c d h = simulates_unpaid 1 r (r + k) n k c d (omega arith) h

more_credit : (r k n : ℕ) (c d : Run Ran) → Simulates 1 r n c d → Simulates 1 (r + k) n c d
more_credit r k n c d h = simulates_with_credit 1 r (r + k) n c d (omega arith) h

-- a branch that is turned round goes the other way
turned_round :
    {K : Type 0} (b c : Bool) (p q : Acts K) (e : Around) (k : K) (w : World) (t : Temps) → b ≡ not c → (if b then p else q) e k w t ≡
    (if c then q else p) e k w t
turned_round b true p q e k w t h = ap (λ (z : Bool). (if z then p else q) e k w t) h
turned_round b false p q e k w t h = ap (λ (z : Bool). (if z then p else q) e k w t) h

-- the next block is the one that it is tested for
next_is : (next : Option ℕ) (q : ℕ) → is_next next q ≡ true → next ≡ Some q
next_is None q e = cc
next_is (Some p) q e = ap Some (eqb-true p q e)

some_code : (xs ys : List Linear) → Some xs ≡ Some ys → xs ≡ ys
some_code xs ys e = cc

-- For functions before and after the pass, and a function's blocks and code.
module _
    (functions : List (Function (List Block))) (flat : List (Function (List Linear))) (literals : List Literal) (size : ℕ → ℕ) (floor room : ℕ)
    (bs : List Block) (whole : List Linear) where
  abbrev before : Code (List Block)
  before = record { functions = functions; literals = literals }

  abbrev after : Code (List Linear)
  after = record { functions = flat; literals = literals }

  abbrev blocks_go : BlockPoint → Run Ran
  blocks_go = block_going before size floor room

  abbrev flat_goes : FlatPoint → Run Ran
  flat_goes = flat_going after size floor room

  -- the blocks from a place on, some of them passed by
  abbrev from : (left : List Block) (place passed : ℕ) → Acts Last
  from left p k = run_from before size floor room blocks_go bs left p k

  abbrev code : List Linear → Acts Last
  code rest = run_flat after size floor room flat_goes whole rest

  -- where an end of the block at a place goes on
  abbrev choice : (place : ℕ) → (q : ℕ) → Acts Last
  choice p q = if nat_lt p q then from (drop (suc p) bs) (p + 1) (q - (p + 1)) else return_to before size floor room blocks_go bs q

  passing : (p : ℕ) (left : List Block) (s k : ℕ) → from (drop p left) (s + p) k ≡ from left s (p + k)
  passing zero left s k =
      let e : 0 + k ≡ k = omega arith in
      let f : s + 0 ≡ s = omega arith in
      ap (λ j. from left j k) f ∙ sym (ap (from left s) e)
  passing (suc p) [] s k = refl
  passing (suc p) (x ∷ xs) s k =
      let e : s + suc p ≡ (s + 1) + p = omega arith in
      let f : suc p + k ≡ suc (p + k) = omega arith in
      ap (λ j. from (drop p xs) j k) e ∙ (passing p xs (s + 1) k ∙ sym (ap (from (x ∷ xs) s) f))

  -- a place ahead is among the blocks that are left
  goes_ahead : (p q : ℕ) → p < q → choice p q ≡ from bs 0 q
  goes_ahead p q h =
      let e : p + 1 ≡ 0 + suc p = omega arith in
      let f : suc p + (q - (p + 1)) ≡ q = omega arith in
      ap (λ (b : Bool). if b then from (drop (suc p) bs) (p + 1) (q - (p + 1)) else return_to before size floor room blocks_go bs q) (lt-ltb p q h) ∙
      (ap (λ j. from (drop (suc p) bs) j (q - (p + 1))) e ∙ (passing (suc p) bs 0 (q - (p + 1)) ∙ ap (from bs 0) f))

  goes_back : (p q : ℕ) → q ≤ p → choice p q ≡ return_to before size floor room blocks_go bs q
  goes_back p q h =
      ap (λ (b : Bool). if b then from (drop (suc p) bs) (p + 1) (q - (p + 1)) else return_to before size floor room blocks_go bs q) (le-ltb p q h)

  -- a block, and the choice of its end
  stands_at : (p : ℕ) → p < length bs → from bs 0 p ≡ from (block_at bs p ∷ drop (suc p) bs) p 0
  stands_at p h =
      let e : p ≡ p + 0 = omega arith in
      let f : 0 + p ≡ p = omega arith in
      ap (from bs 0) e ∙ (sym (passing p bs 0 0) ∙ (ap (λ j. from (drop p bs) j 0) f ∙ ap (λ xs. from xs p 0) (drop-cons bs p no_block h)))

  module _ (e e' : Around) where
    -- from a place on the code does what the blocks do
    abbrev pub Does : (r n q : ℕ) → Type 0
    Does r n q = (rest : List Linear) → behind q whole ≡ Some rest → (w : World) (t : Temps) → Simulates 1 r n (from bs 0 q e tt w t)
        (code (Mark q ∷ rest) e' tt w t)

    module _ (r n : ℕ) (below : (m : ℕ) → m < n → (q : ℕ) → q < length bs → Does r m q) where
      jumps_ahead : (q : ℕ) (rest : List Linear) → behind q whole ≡ Some rest → Does r n q → (w : World) (t : Temps) → Simulates 1 r n (from bs 0 q e tt w t)
          (jump_to after size floor room flat_goes whole (behind q whole) e' tt w t)
      jumps_ahead q rest stands does w t =
          simulates_along 1 r n _ _ _ _ (λ i. refl) (λ i. ap (λ o. jump_to after size floor room flat_goes whole o e' tt w t i) stands)
          (simulates_turn_behind 1 r n (stops w.input WantsFuel) _ _
          (simulates_along 1 r n _ _ _ _ (λ i. refl) (flat_code_steps after size floor room
          (record { whole = whole; rest = rest; around = e'; world = w; temps = t }))
          (simulates_working_less 1 r n 1 _ _ (does rest stands w t))))

      jumps_back : (q : ℕ) (rest : List Linear) → behind q whole ≡ Some rest → q < length bs → (w : World) (t : Temps) → Simulates 1 r n
          (return_to before size floor room blocks_go bs q e tt w t) (jump_to after size floor room flat_goes whole (behind q whole) e' tt w t)
      jumps_back q rest stands h w t =
          simulates_along 1 r n _ _ _ _ (λ i. refl) (λ i. ap (λ o. jump_to after size floor room flat_goes whole o e' tt w t i) stands)
          (simulates_turn 1 r n w.input _ _
          (λ m lt. simulates_along 1 r m _ _ _ _
          (blocks_step before size floor room (record { whole = bs; place = q; around = e; world = w; temps = t }))
          (flat_code_steps after size floor room (record { whole = whole; rest = rest; around = e'; world = w; temps = t }))
          (simulates_working_less 1 r m 1 _ _ (below m lt q h rest stands w t))))

  module _ (n : ℕ) (calls : CallsSimulate 1 0 size floor entry_units entry_units (block_runner size floor room before)
      (flat_runner size floor room after) functions flat n) where
    enters :
        (r label : ℕ) (vs : List ℕ) (top : ℕ) (back back' : Back) (w x : World) → OneWorld w x →
        ((v : ℕ) (y z : World) → OneWorld y z → Simulates 1 r n (back v y) (back' v z)) →
        Simulates 1 r n (enter_blocks before size floor room blocks_go label vs top back w) (enter_flat after size floor room flat_goes label vs top back' x)
    enters r label vs top back back' w x (one v) h = simulates_with_credit 1 (r + 0) r n _ _ (omega arith)
        (calls label vs top back back' v r (λ u y. h u y y (one y)))

    no_loop : (r : ℕ) (x y : Point) → Alike (SameWork r) OneWorld OneTemps n x y → Simulates 1 r n (wrong x.world) (wrong y.world)
    no_loop r x y (alike s e e' g g' w v t u h l o q) = (keeps_simulating r).stop n Wrong w v o

    more_around : (r : ℕ) (e e' : Around) → AlikeAround (SameWork r) OneWorld OneTemps n e e' → AlikeAround (SameWork (r + 1)) OneWorld OneTemps n e e'
    more_around r e e' (around a out out' back back' h k) =
        around a out out' back back' (λ v w x t u o q. more_credit r 1 n _ _ (h v w x t u o q)) (λ v w x o. more_credit r 1 n _ _ (k v w x o))

    module _ (r : ℕ) (e e' : Around) (he : AlikeAround (SameWork r) OneWorld OneTemps n e e') where
      from_one : (p q : Next) → ((w : World) (t : Temps) → Simulates 1 r n (p w t) (q w t)) → (w x : World) (t u : Temps) → OneWorld w x → OneTemps t u →
          Simulates 1 r n (p w t) (q x u)
      from_one p q h w x t u (one v) (one s) = h v s

      -- an expression, and the statements of a body, before what does the same
      words_do :
          (x : Tx) (go go' : Go ℕ) → ((u : ℕ) (w : World) (t : Temps) → Simulates 1 r n (go u w t) (go' u w t)) → (w : World) (t : Temps) →
          Simulates 1 r n (word_of before size floor room blocks_go x e go w t)
          (value Canonical room literals (enter_flat after size floor room flat_goes) (λ q. wrong q.world) x e' go' w t)
      words_do x go go' h w t =
          keep_value (SameWork r) OneWorld OneTemps (keeps_simulating r) n Canonical room literals _ _ _ _ (enters r) (no_loop r) x e e' go go' he
          (λ v y z s u. from_one (go v) (go' v) (h v) y z s u) w w t t (one w) (one t)

      bodies_do :
          (ss : Stms) (tail : List Linear) (next : Next) → ((w : World) (t : Temps) → Simulates 1 r n (next w t) (code tail e' tt w t)) → (w : World)
          (t : Temps) →
          Simulates 1 r n (run_within before size floor room blocks_go ss e next w t) (code (body_code ss ++ tail) e' tt w t)
      bodies_do no_stms tail next h w t = h w t
      bodies_do (stm s ss) tail next h w t =
          simulates_with_credit 1 (r + 0) r n _ _ (omega arith)
          (simulates_working 1 r n 0 _ _
          (keep_run (SameWork r) OneWorld OneTemps (keeps_simulating r) n Canonical room literals _ _ _ _ (enters r) (no_loop r) s e e' _ _ he
          (λ y z t1 u1. from_one _ _ (λ w1 t2. bodies_do ss tail next h w1 t2) y z t1 u1) w w t t (one w) (one t)))

    -- The end of the block at a place, before what stands after it.
    module _ (r : ℕ) (e e' : Around) (he : AlikeAround (SameWork r) OneWorld OneTemps n e e') where
      module _
          (p : ℕ) (next : Option ℕ) (more : List Linear) (falls : (q : ℕ) → next ≡ Some q → Falls bs whole p more q)
          (ahead : (q : ℕ) → p < q → q < length bs → Does e e' r n q)
          (jumps : (q : ℕ) → q < length bs → (w : World) (t : Temps) → Simulates 1 r n (choice p q e tt w t)
          (jump_to after size floor room flat_goes whole (behind q whole) e' tt w t)) where
        fall : (q : ℕ) → next ≡ Some q → LeadsTo (block_at bs p).end q → q < length bs → (w : World) (t : Temps) → Simulates 1 r n (choice p q e tt w t)
            (code more e' tt w t)
        fall q is leads h w t =
            let f = falls q is in
            let lt = f.ahead leads in
            simulates_along 1 r n _ _ _ _ (λ i. ap (λ (a : Acts Last). a e tt w t i) (goes_ahead p q lt)) (λ i. ap (λ xs. code xs e' tt w t i) f.is)
            (ahead q lt h f.rest f.stands w t)

        jump_or_fall :
            (b : Bool) (q : ℕ) → is_next next q ≡ b → LeadsTo (block_at bs p).end q → q < length bs → (w : World) (t : Temps) →
            Simulates 1 r n (charged 1 (choice p q e tt w t)) (code (jump_unless b q ++ more) e' tt w t)
        jump_or_fall true q is leads h w t = pays_alone r n 1 _ _ (fall q (next_is next q is) leads h w t)
        jump_or_fall false q is leads h w t = pays_less r n 1 1 _ _ (omega arith) (jumps q h w t)

        leads_branch :
            (b : Bool) (rel : Rel) (x y : Tx) (i j : ℕ) → is_next next i ≡ b → LeadsTo (block_at bs p).end i → LeadsTo (block_at bs p).end j →
            i < length bs → j < length bs →
            (w : World) (t : Temps) →
            Simulates 1 r n (finish before size floor room blocks_go (choice p) (Branch rel x y i j) e tt w t)
            (code (branch_by b next rel x y i j ++ more) e' tt w t)
        leads_branch true rel x y i j is li lj hi hj w t =
            let more_he = more_around r e e' he in
            both_pay r n 3 2 _ _ (omega arith)
            (words_do (r + 1) e e' more_he x _ _ (λ u w1 t1. words_do (r + 1) e e' more_he y _ _ (λ v w2 t2.
            simulates_along 1 (r + 1) n _ _ _ _ (λ k. refl)
            (λ k. ap (λ (c : Run Ran). c k) (turned_round (holds (opposite rel) u v) (holds rel u v)
            (jump_to after size floor room flat_goes whole (behind j whole)) (code more) e' tt w2 t2 (opposite_holds rel u v)))
            (keep_choice (SameWork (r + 1)) OneWorld OneTemps (keeps_simulating (r + 1)) n (holds rel u v) _ _ _ _ e e' tt tt w2 w2 t2 t2
            (more_credit r 1 n _ _ (fall i (next_is next i is) li hi w2 t2)) (more_credit r 1 n _ _ (jumps j hj w2 t2)))) w1 t1) w t)
        leads_branch false rel x y i j is li lj hi hj w t =
            let more_he = more_around r e e' he in
            both_pay r n 3 2 _ _ (omega arith)
            (words_do (r + 1) e e' more_he x _ _ (λ u w1 t1. words_do (r + 1) e e' more_he y _ _ (λ v w2 t2.
            keep_choice (SameWork (r + 1)) OneWorld OneTemps (keeps_simulating (r + 1)) n (holds rel u v) _ _ _ _ e e' tt tt w2 w2 t2 t2
            (more_credit r 1 n _ _ (jumps i hi w2 t2)) (unpaid r n 1 _ _ (jump_or_fall (is_next next j) j refl lj hj w2 t2))) w1 t1) w t)

        ends_do :
            (end : BlockEnd) → ((q : ℕ) → LeadsTo end q → LeadsTo (block_at bs p).end q) → EndsBelow (length bs) end → (w : World) (t : Temps) →
            Simulates 1 r n (finish before size floor room blocks_go (choice p) end e tt w t) (code (end_code next end ++ more) e' tt w t)
        ends_do (Jump q) leads h w t = jump_or_fall (is_next next q) q refl (leads q refl) h w t
        ends_do (Branch rel x y i j) leads h w t = leads_branch (is_next next i) rel x y i j refl (leads i (inl refl)) (leads j (inr refl)) h.0 h.1 w t
        ends_do (Fault k) leads h w t = (keeps_simulating r).work n 1 w _ _ ((keeps_simulating r).stop n (Ended (Break k)) w w (one w))
        ends_do (Return x) leads h w t =
            (keeps_simulating r).work n (end_units (Return x)) w _ _
            (words_do r e e' he x _ _ (λ v w1 t1. keep_back (SameWork r) OneWorld OneTemps (keeps_simulating r) n v e e' he w1 w1 (one w1)) w t)

    module _
        (r : ℕ) (e e' : Around) (he : AlikeAround (SameWork r) OneWorld OneTemps n e e') (stand : (q : ℕ) → q < length bs → Stands bs whole q)
        (within : (q : ℕ) → LeadsBelow (length bs) (block_at bs q)) (below : (m : ℕ) → m < n → (q : ℕ) → q < length bs → Does e e' r m q) where
      jumps_do :
          (p q : ℕ) → q < length bs → (p < q → Does e e' r n q) → (w : World) (t : Temps) →
          Simulates 1 r n (choice p q e tt w t) (jump_to after size floor room flat_goes whole (behind q whole) e' tt w t)
      jumps_do p q h does w t =
          let s = stand q h in
          elim (cases_lt p q) [
            | inl lt ↦
                simulates_along 1 r n _ _ _ _ (λ i. ap (λ (a : Acts Last). a e tt w t i) (goes_ahead p q lt)) (λ i. refl)
                (jumps_ahead e e' r n below q _ s.stands (does lt) w t)
            | inr ge ↦
                simulates_along 1 r n _ _ _ _ (λ i. ap (λ (a : Acts Last). a e tt w t i) (goes_back p q ge)) (λ i. refl)
                (jumps_back e e' r n below q _ s.stands h w t)
          ]

      -- by how many places there are from one on
      pub places_do : (d p : ℕ) → length bs ≤ p + d → p < length bs → Does e e' r n p
      places_do zero p le h rest stands w t = absurd (omega arith)
      places_do (suc d) p le h rest stands w t =
          let s = stand p h in
          let b = block_at bs p in
          let further = λ (q : ℕ) (lt : p < q) (hq : q < length bs). places_do d q (omega arith) hq in
          let same : rest ≡ body_code b.body ++ (end_code s.next b.end ++ s.more) = some_code _ _ (sym stands ∙ s.stands) in
          simulates_along 1 r n _ _ _ _ (λ i. ap (λ (a : Acts Last). a e tt w t i) (stands_at p h)) (λ i. ap (λ xs. code (Mark p ∷ xs) e' tt w t i) same)
          (pays_less r n 1 1 _ _ (omega arith)
          (bodies_do r e e' he b.body (end_code s.next b.end ++ s.more) _
          (λ w1 t1. ends_do r e e' he p s.next s.more s.falls further (λ q hq. jumps_do p q hq (λ lt. further q lt hq)) b.end (λ q l. l) (within p) w1 t1) w t))
