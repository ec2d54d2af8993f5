-- Runs of blocks: each is its own step, and goes on with more fuel alone.
use Rattle.std.proofs.Common.{◌≡◌, ℕ, zero, suc, ◌+◌, ◌-◌, ◌<◌, ◌≤◌, List, [], ◌∷◌, Bool, true, false, arith}
use Rattle.std.specs.Prelude.{nat_lt, if◌then◌else◌}
use Rattle.tg_machine_state.specs.declared.ends.RunEnd.TheVariants.{Break}
use Rattle.tg_simulation.specs.Runs.{Run}
use Rattle.tg_simulation.specs.Ran.{Ran, Ended, WantsFuel, Wrong, stops, IsOver, GoesOn}
use Rattle.tg_simulation.proofs.Fixpoint.{again_is, runs_relate}
use Rattle.tg_tree.specs.Tree.{Mark, Code}
use Rattle.tg_tree.specs.Operators.{holds}
use Rattle.tg_tree.specs.Units.{Canonical, element_units, entry_units}
use Rattle.tg_tree.specs.Actions.{World, Temps, Around, Acts, Back, wrong}
use Rattle.tg_tree.specs.Meaning.{Point}
use Rattle.tg_tree.specs.Flat.{Last}
use Rattle.tg_tree.proofs.Relating.{Related, RelatedWorlds, RelatedTemps, Keeps, AlikeBack, AlikeAround, around_down, Alike, alike, keep_choice}
use Rattle.tg_tree.proofs.Relating.{keep_back, keep_value, keep_all}
use Rattle.tg_tree.proofs.Going.{one, OneWorld, OneTemps, Same, same_keeps, Onward, onward_keeps}
use Rattle.tg_tree.proofs.Entering.{BodiesKeep, keep_call_in, stays_over, only_goes_on}
use Rattle.tg_tree.proofs.TreeRuns.{same_around}
use Rattle.tg_trace_schedule.specs.Block.{BlockEnd, Jump, Branch, Fault, Return, Block}
use Rattle.tg_trace_schedule.specs.Meaning.{BlockPoint, end_units, run_block_body, enter_blocks, finish, return_to, run_from, block_step, block_going}
use Rattle.tg_trace_schedule.specs.Meaning.{block_run}

module _ (R : Related) (W : RelatedWorlds) (T : RelatedTemps) where
  -- two places that differ in what comes next, in worlds and temporaries alone
  pub data AlikeBlocks (n : ℕ) : BlockPoint → BlockPoint → Type 0 where
    alike_blocks :
        (whole : List Block) (place : ℕ) (e e' : Around) (w x : World) (t u : Temps) → AlikeAround R W T n e e' → W w x → T t u →
        AlikeBlocks n (record { whole = whole; place = place; around = e; world = w; temps = t })
        (record { whole = whole; place = place; around = e'; world = x; temps = u })

  module _ (keeps : Keeps R W T) where
    pub blocks_down : (m n : ℕ) (x y : BlockPoint) → m ≤ n → AlikeBlocks n x y → AlikeBlocks m x y
    blocks_down m n x y le (alike_blocks whole p e e' w z t u h r s) = alike_blocks whole p e e' w z t u (around_down R W T keeps m n e e' le h) r s

    module _
        (code : Code (List Block)) (size : ℕ → ℕ) (floor room n : ℕ) (c d : BlockPoint → Run Ran)
        (later : (m : ℕ) → m < n → (x y : BlockPoint) → AlikeBlocks m x y → R m x.world (c x) (d y)) where
      pub keep_enter :
          (label : ℕ) (vs : List ℕ) (top : ℕ) (back back' : Back) (w x : World) → W w x → AlikeBack R W T n back back' →
          R n w (enter_blocks code size floor room c label vs top back w) (enter_blocks code size floor room d label vs top back' x)
      keep_enter =
          keep_call_in R W T keeps size floor n entry_units (run_block_body code size floor room c) (run_block_body code size floor room d) code.functions
          (λ m lt all e e' w x t u he r s. later m lt _ _ (alike_blocks all 0 e e' w x t u he r s))

      no_loop : (x y : Point) → Alike R W T n x y → R n x.world (wrong x.world) (wrong y.world)
      no_loop x y (alike s e e' g g' w v t u h l r q) = keeps.stop n Wrong w v r

      module _ (e e' : Around) (he : AlikeAround R W T n e e') where
        abbrev KeepsLast : Acts Last → Acts Last → Type 0
        KeepsLast f g = (w x : World) (t u : Temps) → W w x → T t u → R n w (f e tt w t) (g e' tt x u)

        keep_return : (whole : List Block) (p : ℕ) → KeepsLast (return_to code size floor room c whole p) (return_to code size floor room d whole p)
        keep_return whole p w x t u r s =
            keeps.fuel n w x _ _ r (λ m lt. later m lt _ _ (alike_blocks whole p e e' w x t u (around_down R W T keeps m n e e' (omega arith) he) r s))

        keep_finish :
            (at at' : ℕ → Acts Last) → ((p : ℕ) → KeepsLast (at p) (at' p)) → (z : BlockEnd) →
            KeepsLast (finish code size floor room c at z) (finish code size floor room d at' z)
        keep_finish at at' h (Jump p) w x t u r s = keeps.work n (end_units (Jump p)) w _ _ (h p w x t u r s)
        keep_finish at at' h (Branch rel a b p q) w x t u r s =
            keeps.work n (end_units (Branch rel a b p q)) w _ _
            (keep_value R W T keeps n Canonical room code.literals _ _ _ _ keep_enter no_loop a e e' _ _ he (λ i w1 x1 t1 u1 r1 s1.
            keep_value R W T keeps n Canonical room code.literals _ _ _ _ keep_enter no_loop b e e' _ _ he (λ j w2 x2 t2 u2 r2 s2.
            keep_choice R W T keeps n (holds rel i j) _ _ _ _ e e' tt tt w2 x2 t2 u2 (h p w2 x2 t2 u2 r2 s2)
            (h q w2 x2 t2 u2 r2 s2)) w1 x1 t1 u1 r1 s1) w x t u r s)
        keep_finish at at' h (Fault k) w x t u r s = keeps.work n (end_units (Fault k)) w _ _ (keeps.stop n (Ended (Break k)) w x r)
        keep_finish at at' h (Return a) w x t u r s =
            keeps.work n (end_units (Return a)) w _ _
            (keep_value R W T keeps n Canonical room code.literals _ _ _ _ keep_enter no_loop a e e' _ _ he
            (λ v w1 x1 t1 u1 r1 s1. keep_back R W T keeps n v e e' he w1 x1 r1) w x t u r s)

        keep_either : (b : Bool) (f f' g g' : Acts Last) → KeepsLast f f' → KeepsLast g g' → KeepsLast (if b then f else g) (if b then f' else g')
        keep_either true f f' g g' h k = h
        keep_either false f f' g g' h k = k

        keep_from : (whole bs : List Block) (p k : ℕ) → KeepsLast (run_from code size floor room c whole bs p k) (run_from code size floor room d whole bs p k)
        keep_from whole [] p k w x t u r s = keeps.stop n Wrong w x r
        keep_from whole (b ∷ bs) p (suc k) w x t u r s = keep_from whole bs (p + 1) k w x t u r s
        keep_from whole (b ∷ bs) p zero w x t u r s =
            keeps.work n (element_units (Mark p)) w _ _ (keep_all R W T keeps n Canonical room code.literals _ _ _ _ keep_enter no_loop b.body e e' _ _ he
            (λ w1 x1 t1 u1 r1 s1. keep_finish _ _ (λ q. keep_either (nat_lt p q) _ _ _ _ (keep_from whole bs (p + 1) (q - (p + 1)))
            (keep_return whole q)) b.end w1 x1 t1 u1 r1 s1) w x t u r s)

      pub keep_block_step : (x y : BlockPoint) → AlikeBlocks n x y → R n x.world (block_step code size floor room c x) (block_step code size floor room d y)
      keep_block_step x y (alike_blocks whole p e e' w z t u h r s) = keep_from e e' h whole whole 0 p w z t u r s

module _ (code : Code (List Block)) (size : ℕ → ℕ) (floor room : ℕ) where
  abbrev goes : BlockPoint → Run Ran
  goes = block_going code size floor room

  pub blocks_step : (p : BlockPoint) (n : ℕ) → goes p n ≡ block_step code size floor room goes p n
  blocks_step =
      again_is (stops [] WantsFuel) (block_step code size floor room) (AlikeBlocks Same OneWorld OneTemps)
      (record {
        alike = λ n x. alike_blocks x.whole x.place x.around x.around x.world x.world x.temps x.temps (same_around n x.around) (one x.world) (one x.temps);
        down = λ m k x y le h. blocks_down Same OneWorld OneTemps same_keeps m k x y le h;
      })
      (λ k c d h x y r. keep_block_step Same OneWorld OneTemps same_keeps code size floor room k c d h x y r)

  -- what the steps keep holds of the runs from points that are alike
  pub blocks_relate :
      (R : Related) (W : RelatedWorlds) (T : RelatedTemps) → Keeps R W T → (n : ℕ) (x y : BlockPoint) → AlikeBlocks R W T n x y →
      R n x.world (goes x) (goes y)
  blocks_relate R W T keeps n x y r =
      runs_relate (AlikeBlocks R W T) (λ m v z c d. R m v.world c d) (block_step code size floor room) (block_step code size floor room)
      (λ k c d h v z q. keep_block_step R W T keeps code size floor room k c d h v z q) goes goes blocks_step blocks_step n x y r

  blocks_go_on : (n : ℕ) → BodiesKeep Onward OneWorld OneTemps n (run_block_body code size floor room goes) (run_block_body code size floor room goes)
  blocks_go_on n all e e' w x t u he r q = blocks_relate Onward OneWorld OneTemps onward_keeps n _ _ (alike_blocks all 0 e e' w x t u he r q)

  pub blocks_stay_over :
      (body : ℕ) (input : List ℕ) (i j : ℕ) → i ≤ j → IsOver (block_run code size floor room body input i).stop →
      block_run code size floor room body input j ≡ block_run code size floor room body input i
  blocks_stay_over = stays_over size floor (run_block_body code size floor room goes) code blocks_go_on

  pub blocks_only_go_on :
      (body : ℕ) (input : List ℕ) (i j : ℕ) → i ≤ j → GoesOn (block_run code size floor room body input i) (block_run code size floor room body input j)
  blocks_only_go_on = only_goes_on size floor (run_block_body code size floor room goes) code blocks_go_on
