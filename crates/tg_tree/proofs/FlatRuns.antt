-- Runs of flat code: each is its own step, goes on with more fuel alone, and reads nothing but what is set.
use Rattle.std.proofs.Common.{◌≡◌, ℕ, ◌<◌, ◌≤◌, List, [], ◌∷◌, Option, Some, None, arith}
use Rattle.tg_machine_state.specs.declared.ends.RunEnd.TheVariants.{Break}
use Rattle.tg_simulation.specs.Runs.{Run}
use Rattle.tg_simulation.specs.Ran.{Ran, Ended, WantsFuel, Wrong, stops, IsOver, GoesOn}
use Rattle.tg_simulation.proofs.Fixpoint.{again_is, runs_relate}
use Rattle.tg_tree.specs.Tree.{Linear, Mark, Do', Jump, Branch, Fault', Return', Code}
use Rattle.tg_tree.specs.Operators.{holds}
use Rattle.tg_tree.specs.Units.{Canonical, element_units, entry_units}
use Rattle.tg_tree.specs.Actions.{World, Temps, Around, Back, wrong}
use Rattle.tg_tree.specs.Meaning.{Point}
use Rattle.tg_tree.specs.Flat.{behind, FlatPoint, run_flat_body, enter_flat, jump_to, run_flat, flat_step, flat_going, flat_run}
use Rattle.tg_tree.specs.Holding.{TempsHoldAtLeast, WorldHoldsAtLeast, UnlessWrong, AroundReadsNoMore}
use Rattle.tg_tree.proofs.Relating.{Related, RelatedWorlds, RelatedTemps, Keeps, AlikeBack, AlikeAround, around, around_down, Alike, alike}
use Rattle.tg_tree.proofs.Relating.{keep_choice, keep_back, keep_value, keep_run}
use Rattle.tg_tree.proofs.Going.{one, OneWorld, OneTemps, Same, same_keeps, Onward, onward_keeps}
use Rattle.tg_tree.proofs.Filled.{Filled, filled_keeps}
use Rattle.tg_tree.proofs.Entering.{BodiesKeep, keep_call_in, stays_over, only_goes_on}
use Rattle.tg_tree.proofs.TreeRuns.{same_around}

module _ (R : Related) (W : RelatedWorlds) (T : RelatedTemps) where
  -- two places that differ in what comes next, in worlds and temporaries alone
  pub data AlikeFlat (n : ℕ) : FlatPoint → FlatPoint → Type 0 where
    alike_flat :
        (whole rest : List Linear) (e e' : Around) (w x : World) (t u : Temps) → AlikeAround R W T n e e' → W w x → T t u →
        AlikeFlat n (record { whole = whole; rest = rest; around = e; world = w; temps = t })
        (record { whole = whole; rest = rest; around = e'; world = x; temps = u })

  module _ (keeps : Keeps R W T) where
    pub flat_down : (m n : ℕ) (x y : FlatPoint) → m ≤ n → AlikeFlat n x y → AlikeFlat m x y
    flat_down m n x y le (alike_flat whole rest e e' w z t u h r s) = alike_flat whole rest e e' w z t u (around_down R W T keeps m n e e' le h) r s

    module _ (code : Code (List Linear)) (size : ℕ → ℕ) (floor room n : ℕ) (c d : FlatPoint → Run Ran) (later : (m : ℕ) →
        m < n → (x y : FlatPoint) → AlikeFlat m x y → R m x.world (c x) (d y)) where
      pub keep_enter_flat : (label : ℕ) (vs : List ℕ) (top : ℕ) (back back' : Back) (w x : World) → W w x →
          AlikeBack R W T n back back' → R n w (enter_flat code size floor room c label vs top back w) (enter_flat code size floor room d label vs top back' x)
      keep_enter_flat =
          keep_call_in R W T keeps size floor n entry_units (run_flat_body code size floor room c) (run_flat_body code size floor room d) code.functions
          (λ m lt all e e' w x t u he r s. later m lt _ _ (alike_flat all all e e' w x t u he r s))

      no_loop : (x y : Point) → Alike R W T n x y → R n x.world (wrong x.world) (wrong y.world)
      no_loop x y (alike s e e' g g' w v t u h l r q) = keeps.stop n Wrong w v r

      module _ (whole : List Linear) (e e' : Around) (he : AlikeAround R W T n e e') where
        keep_jump : (to : Option (List Linear)) (w x : World) (t u : Temps) → W w x → T t u →
            R n w (jump_to code size floor room c whole to e tt w t) (jump_to code size floor room d whole to e' tt x u)
        keep_jump None w x t u r s = keeps.stop n Wrong w x r
        keep_jump (Some rest) w x t u r s =
            keeps.fuel n w x _ _ r (λ m lt. later m lt _ _ (alike_flat whole rest e e' w x t u (around_down R W T keeps m n e e' (omega arith) he) r s))

        keep_flat : (rest : List Linear) (w x : World) (t u : Temps) → W w x → T t u →
            R n w (run_flat code size floor room c whole rest e tt w t) (run_flat code size floor room d whole rest e' tt x u)
        keep_flat [] w x t u r s = keeps.stop n Wrong w x r
        keep_flat (Mark m ∷ rest) w x t u r s = keeps.work n (element_units (Mark m)) w _ _ (keep_flat rest w x t u r s)
        keep_flat (Do' c' ∷ rest) w x t u r s =
            keeps.work n (element_units (Do' c')) w _ _ (keep_run R W T keeps n Canonical room code.literals _ _ _ _
            keep_enter_flat no_loop c' e e' _ _ he (λ w1 x1 t1 u1 r1 s1. keep_flat rest w1 x1 t1 u1 r1 s1) w x t u r s)
        keep_flat (Jump m ∷ rest) w x t u r s = keeps.work n (element_units (Jump m)) w _ _ (keep_jump (behind m whole) w x t u r s)
        keep_flat (Branch rel p q m ∷ rest) w x t u r s =
            keeps.work n (element_units (Branch rel p q m)) w _ _ (keep_value R W T keeps n Canonical room code.literals
            _ _ _ _ keep_enter_flat no_loop p e e' _ _ he (λ a w1 x1 t1 u1 r1 s1.
            keep_value R W T keeps n Canonical room code.literals _ _ _ _ keep_enter_flat no_loop q e e' _ _ he (λ b w2 x2 t2 u2 r2 s2.
            keep_choice R W T keeps n (holds rel a b) _ _ _ _ e e' tt tt w2 x2 t2 u2 (keep_jump (behind m whole) w2 x2 t2 u2 r2 s2)
            (keep_flat rest w2 x2 t2 u2 r2 s2)) w1 x1 t1 u1 r1 s1) w x t u r s)
        keep_flat (Fault' k ∷ rest) w x t u r s = keeps.work n (element_units (Fault' k)) w _ _ (keeps.stop n (Ended (Break k)) w x r)
        keep_flat (Return' p ∷ rest) w x t u r s =
            keeps.work n (element_units (Return' p)) w _ _ (keep_value R W T keeps n Canonical room code.literals _ _ _
            _ keep_enter_flat no_loop p e e' _ _ he (λ v w1 x1 t1 u1 r1 s1. keep_back R W T keeps n v e e' he w1 x1 r1) w x t u r s)

      pub keep_flat_step : (x y : FlatPoint) → AlikeFlat n x y → R n x.world (flat_step code size floor room c x) (flat_step code size floor room d y)
      keep_flat_step x y (alike_flat whole rest e e' w z t u h r s) = keep_flat whole e e' h rest w z t u r s

module _ (code : Code (List Linear)) (size : ℕ → ℕ) (floor room : ℕ) where
  abbrev goes : FlatPoint → Run Ran
  goes = flat_going code size floor room

  pub flat_code_steps : (p : FlatPoint) (n : ℕ) → goes p n ≡ flat_step code size floor room goes p n
  flat_code_steps =
      again_is (stops [] WantsFuel) (flat_step code size floor room) (AlikeFlat Same OneWorld OneTemps)
      (record {
        alike = λ n x. alike_flat x.whole x.rest x.around x.around x.world x.world x.temps x.temps (same_around n x.around) (one x.world) (one x.temps);
        down = λ m k x y le h. flat_down Same OneWorld OneTemps same_keeps m k x y le h;
      })
      (λ k c d h x y r. keep_flat_step Same OneWorld OneTemps same_keeps code size floor room k c d h x y r)

  -- what the steps keep holds of the runs from points that are alike
  pub flat_relate : (R : Related) (W : RelatedWorlds) (T : RelatedTemps) → Keeps R W T → (n : ℕ) (x y : FlatPoint) →
      AlikeFlat R W T n x y → R n x.world (goes x) (goes y)
  flat_relate R W T keeps n x y r =
      runs_relate (AlikeFlat R W T) (λ m v z c d. R m v.world c d) (flat_step code size floor room) (flat_step code size floor room)
      (λ k c d h v z q. keep_flat_step R W T keeps code size floor room k c d h v z q) goes goes flat_code_steps flat_code_steps n x y r

  flat_goes_on : (n : ℕ) → BodiesKeep Onward OneWorld OneTemps n (run_flat_body code size floor room goes) (run_flat_body code size floor room goes)
  flat_goes_on n all e e' w x t u he r q = flat_relate Onward OneWorld OneTemps onward_keeps n _ _ (alike_flat all all e e' w x t u he r q)

  pub flat_code_stays_over : (body : ℕ) (input : List ℕ) (i j : ℕ) → i ≤ j → IsOver (flat_run code size floor room body input i).stop →
      flat_run code size floor room body input j ≡ flat_run code size floor room body input i
  flat_code_stays_over = stays_over size floor (run_flat_body code size floor room goes) code flat_goes_on

  pub flat_code_only_goes_on : (body : ℕ) (input : List ℕ) (i j : ℕ) → i ≤ j →
      GoesOn (flat_run code size floor room body input i) (flat_run code size floor room body input j)
  flat_code_only_goes_on = only_goes_on size floor (run_flat_body code size floor room goes) code flat_goes_on

  pub flat_code_reads_no_more : (p : FlatPoint) (x : World) (u : Temps) → AroundReadsNoMore p.around → WorldHoldsAtLeast p.world x →
      TempsHoldAtLeast p.temps u → UnlessWrong (goes p) (goes (record p { world = x; temps = u }))
  flat_code_reads_no_more p x u h hw ht n ne =
      flat_relate Filled WorldHoldsAtLeast TempsHoldAtLeast filled_keeps n p (record p { world = x; temps = u })
      (alike_flat p.whole p.rest p.around p.around p.world x p.temps u
      (around p.around.activation p.around.out p.around.out p.around.back p.around.back (λ k w y t s r q i le. h.out k w y t s r q i)
      (λ v w y r i le. h.back v w y r i)) hw ht)
      n (omega arith) ne
