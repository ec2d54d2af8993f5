-- Runs of trees: each is its own step, goes on with more fuel alone, and reads nothing but what is set.
use Rattle.std.proofs.Common.{◌≡◌, ℕ, ◌+◌, ◌<◌, ◌≤◌, List, [], Option, Some, Bool, true, refl, ap, ◌∙◌, arith}
use Rattle.std.proofs.lemmas.Bool.{lt-ltb}
use Rattle.std.specs.Prelude.{nat_lt, if◌then◌else◌}
use Rattle.tg_machine_state.specs.declared.ends.RunEnd.TheVariants.{StackFull}
use Rattle.tg_simulation.specs.Runs.{Run, IsSameTo}
use Rattle.tg_simulation.specs.Ran.{Ran, Ended, WantsFuel, Wrong, stops, IsOver, GoesOn}
use Rattle.tg_simulation.proofs.Fixpoint.{again_is, runs_relate}
use Rattle.tg_tree.specs.Tree.{Ts, Function, Code}
use Rattle.tg_tree.specs.Units.{Stage, marked_entry_units}
use Rattle.tg_tree.specs.Actions.{World, Temps, Around, Next, Back}
use Rattle.tg_tree.specs.Meaning.{Point}
use Rattle.tg_tree.specs.Running.{Runner, with_fuel, entered, run_body, body_point, enter, step, going, tree_run}
use Rattle.tg_tree.specs.Holding.{TempsHoldAtLeast, WorldHoldsAtLeast, UnlessWrong, NextReadsNoMore, AroundReadsNoMore}
use Rattle.tg_tree.proofs.Relating.{Related, RelatedWorlds, RelatedTemps, Keeps, AlikeBack, AlikeAround, around, Alike, alike, alike_down, keep_run}
use Rattle.tg_tree.proofs.Going.{one, OneWorld, OneTemps, Same, same_keeps, Onward, onward_keeps}
use Rattle.tg_tree.proofs.Filled.{Filled, filled_keeps}
use Rattle.tg_tree.proofs.Entering.{BodiesKeep, keep_call_in, stays_over, only_goes_on}

module _ (R : Related) (W : RelatedWorlds) (T : RelatedTemps) (keeps : Keeps R W T) (stage : Stage) (code : Code Ts) (size : ℕ → ℕ) (floor room : ℕ) where
  -- a body from its begin, where what comes of points is related
  pub keep_body : (n : ℕ) (c d : Point → Run Ran) → ((x y : Point) → Alike R W T n x y → R n x.world (c x) (d y)) →
      (s : Ts) (e e' : Around) (w x : World) (t u : Temps) → AlikeAround R W T n e e' → W w x → T t u →
      R n w (run_body stage code size floor room c s e w t) (run_body stage code size floor room d s e' x u)
  keep_body n c d goes s e e' w x t u he r q =
      goes (body_point s e w t) (body_point s e' x u) (alike s e e' _ _ w x t u he (λ w2 x2 t2 u2 r2 s2. keeps.stop n Wrong w2 x2 r2) r q)

  module _ (n : ℕ) (c d : Point → Run Ran) (later : (m : ℕ) → m < n → (x y : Point) → Alike R W T m x y → R m x.world (c x) (d y)) where
    pub keep_enter : (label : ℕ) (vs : List ℕ) (top : ℕ) (back back' : Back) (w x : World) → W w x → AlikeBack R W T n back back' →
        R n w (enter stage code size floor room c label vs top back w) (enter stage code size floor room d label vs top back' x)
    keep_enter =
        keep_call_in R W T keeps size floor n marked_entry_units (run_body stage code size floor room c) (run_body stage code size floor room d)
        code.functions (λ m lt. keep_body m c d (later m lt))

    pub keep_head : (x y : Point) → Alike R W T n x y → R n x.world (with_fuel x.world (c x)) (with_fuel y.world (d y))
    keep_head x y (alike s e e' g g' w v t u h l r q) =
        keeps.fuel n w v _ _ r (λ m lt. later m lt _ _ (alike_down R W T keeps m n _ _ (omega arith) (alike s e e' g g' w v t u h l r q)))

    pub keep_step : (x y : Point) → Alike R W T n x y → R n x.world (step stage code size floor room c x) (step stage code size floor room d y)
    keep_step x y (alike s e e' g g' w v t u h l r q) =
        keep_run R W T keeps n stage room code.literals (enter stage code size floor room c) (enter stage code size floor room d)
        _ _ keep_enter keep_head s e e' g g' h l w v t u r q

pub same_around : (n : ℕ) (e : Around) → AlikeAround Same OneWorld OneTemps n e e
same_around n e = around e.activation e.out e.out e.back e.back (same_next n e.out) (same_back n e.back)
  where
    same_next : (n : ℕ) (out : ℕ → Next) (v : ℕ) (w y : World) (t u : Temps) → OneWorld w y → OneTemps t u → IsSameTo n (out v w t) (out v y u)
    same_next n out v w y t u (one p) (one q) = λ i le. refl

    same_back : (n : ℕ) (back : Back) (v : ℕ) (w y : World) → OneWorld w y → IsSameTo n (back v w) (back v y)
    same_back n back v w y (one p) = λ i le. refl

pub same_alike : (n : ℕ) (x : Point) → Alike Same OneWorld OneTemps n x x
same_alike n x =
    alike x.statement x.around x.around x.next x.next x.world x.world x.temps x.temps (same_around n x.around) (same_next n x.next) (one x.world) (one x.temps)
  where
    same_next : (n : ℕ) (next : Next) (w y : World) (t u : Temps) → OneWorld w y → OneTemps t u → IsSameTo n (next w t) (next y u)
    same_next n next w y t u (one p) (one q) = λ i le. refl

module _ (stage : Stage) (code : Code Ts) (size : ℕ → ℕ) (floor room : ℕ) where
  abbrev goes : Point → Run Ran
  goes = going stage code size floor room

  pub trees_step : (p : Point) (n : ℕ) → goes p n ≡ step stage code size floor room goes p n
  trees_step =
      again_is (stops [] WantsFuel) (step stage code size floor room) (Alike Same OneWorld OneTemps)
      (record { alike = same_alike; down = λ m k x y le h. alike_down Same OneWorld OneTemps same_keeps m k x y le h })
      (λ k c d h x y r. keep_step Same OneWorld OneTemps same_keeps stage code size floor room k c d h x y r)

  -- what the steps keep holds of the runs from points that are alike
  pub trees_relate : (R : Related) (W : RelatedWorlds) (T : RelatedTemps) → Keeps R W T → (n : ℕ) (x y : Point) →
      Alike R W T n x y → R n x.world (goes x) (goes y)
  trees_relate R W T keeps n x y r =
      runs_relate (Alike R W T) (λ m v z c d. R m v.world c d) (step stage code size floor room) (step stage code size floor room)
      (λ k c d h v z q. keep_step R W T keeps stage code size floor room k c d h v z q) goes goes trees_step trees_step n x y r

  trees_go_on : (n : ℕ) → BodiesKeep Onward OneWorld OneTemps n (run_body stage code size floor room goes) (run_body stage code size floor room goes)
  trees_go_on n =
      keep_body Onward OneWorld OneTemps onward_keeps stage code size floor room n goes goes
      (λ x y h. trees_relate Onward OneWorld OneTemps onward_keeps n x y h)

  pub trees_stay_over : (body : ℕ) (input : List ℕ) (i j : ℕ) → i ≤ j → IsOver (tree_run stage code size floor room body input i).stop →
      tree_run stage code size floor room body input j ≡ tree_run stage code size floor room body input i
  trees_stay_over = stays_over size floor (run_body stage code size floor room goes) code trees_go_on

  pub trees_only_go_on : (body : ℕ) (input : List ℕ) (i j : ℕ) → i ≤ j →
      GoesOn (tree_run stage code size floor room body input i) (tree_run stage code size floor room body input j)
  trees_only_go_on = only_goes_on size floor (run_body stage code size floor room goes) code trees_go_on

  pub trees_read_no_more : (p : Point) (x : World) (u : Temps) → AroundReadsNoMore p.around → NextReadsNoMore p.next →
      WorldHoldsAtLeast p.world x → TempsHoldAtLeast p.temps u → UnlessWrong (goes p) (goes (record p { world = x; temps = u }))
  trees_read_no_more p x u h l hw ht n ne =
      trees_relate Filled WorldHoldsAtLeast TempsHoldAtLeast filled_keeps n p (record p { world = x; temps = u })
      (alike p.statement p.around p.around p.next p.next p.world x p.temps u (filled_around n p.around h) (λ w y t s r q i le. l w y t s r q i) hw ht)
      n (omega arith) ne
    where
      filled_around : (n : ℕ) (e : Around) → AroundReadsNoMore e → AlikeAround Filled WorldHoldsAtLeast TempsHoldAtLeast n e e
      filled_around n e h = around e.activation e.out e.out e.back e.back (λ k w y t s r q i le. h.out k w y t s r q i) (λ v w y r i le. h.back v w y r i)

-- a function whose frame reaches below the floor
full_if : (b : Bool) (p q : Run Ran) (n : ℕ) → b ≡ true → (if b then p else q) n ≡ p n
full_if b p q n e = ap (λ z. (if z then p else q) n) e

pub fills_stack : {Body : Type 0} (size : ℕ → ℕ) (floor : ℕ) (body : Runner Body) (found : Option (Function Body))
    (f : Function Body) (vs : List ℕ) (top : ℕ) (back : Back) (w : World) (n : ℕ) → found ≡ Some f → top < floor + size f.label →
    entered size floor body found vs top back w n ≡ stops w.input (Ended StackFull)
fills_stack size floor body found f vs top back w n e lt =
    ap (λ o. entered size floor body o vs top back w n) e ∙ full_if (nat_lt top (floor + size f.label)) _ _ n (lt-ltb top (floor + size f.label) lt)
