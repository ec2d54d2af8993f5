-- Flat statements and expressions do what they did where what comes next does: they look at no loop and no way out of one.
use Rattle.std.proofs.Common.{◌≡◌, ℕ, ◌+◌, ◌*◌, ◌≤◌, List, ◌∷◌, refl, sym, ◌∙◌, subst, arith}
use Rattle.tg_simulation.specs.Runs.{Run}
use Rattle.tg_simulation.specs.Ran.{Ran, Wrong}
use Rattle.tg_simulation.specs.laws.Simulating.{Simulates}
use Rattle.tg_simulation.proofs.Simulations.{simulates_stopping, simulates_writing, simulates_paying, simulates_working, simulates_with_credit}
use Rattle.tg_simulation.proofs.Simulations.{simulates_turn, simulates_less}
use Rattle.tg_tree.specs.Tree.{Tx, Const, Address, Temp, FrameAddress, Binary, Load, LoadByte, Call, Service, After, Txs, no_txs, tx, Ts, Move, Store}
use Rattle.tg_tree.specs.Tree.{StoreByte, Do, If, Loop, Break, Fault, Seq, Return, Literal}
use Rattle.tg_tree.specs.Shapes.{IsFlat, AreFlat, IsFlatOrEffect, IsFlatStatement}
use Rattle.tg_tree.specs.Memory.{store, store_byte}
use Rattle.tg_tree.specs.Units.{Canonical, expression_units, argument_units, statement_units}
use Rattle.tg_tree.specs.Actions.{World, Temps, Activation, Around, Go, Next, Out, Back, wrong, charged, set_temp, with_memory, service}
use Rattle.tg_tree.specs.Meaning.{Enter, Point, value, values, run, enter_function}
use Rattle.tg_tree.specs.Running.{outermost}
use Rattle.tg_tree.specs.Carrying.{BacksSimulate, EntersSimulate}
use Rattle.tg_tree.proofs.FlatValues.{flat_runs}
use Rattle.tg_tree.proofs.Relating.{Keeps, AlikeBack, AlikeAround, around, Alike, alike, keep_value, keep_run}
use Rattle.tg_tree.proofs.Going.{one, OneWorld, OneTemps, KeepsRuns, keeps_one}

-- both pay as much, or the second less
pub pays_less : (r n k l : ℕ) (c d : Run Ran) → l ≤ k → Simulates 1 r n c d → Simulates 1 r n (charged k c) (charged l d)
pays_less r n k l c d le h =
    simulates_paying 1 r n k c (charged l d)
    (simulates_with_credit 1 (r + l) (r + 1 * k) n c (charged l d) (omega (arith, le)) (simulates_working 1 r n l c d h))

simulating : (r : ℕ) → KeepsRuns (λ n w c d. Simulates 1 r n c d)
simulating r = record {
  stop = λ n s w. simulates_stopping 1 r n w.input s;
  write = λ n bytes w c d h. simulates_writing 1 r n bytes c d h;
  work = λ n k w c d h. pays_less r n k k c d (omega arith) h;
  fuel = λ n w c d h. simulates_turn 1 r n w.input c d h;
  down = λ m n w c d le h. simulates_less 1 r m n c d le h;
  later = λ n w v c d l h. h;
}

pub keeps_simulating : (r : ℕ) → Keeps (λ n w c d. Simulates 1 r n c d) OneWorld OneTemps
keeps_simulating r = keeps_one (λ n w c d. Simulates 1 r n c d) (simulating r)

module _ (room : ℕ) (ls : List Literal) (enter : Enter) (later later' : Point → Run Ran) (activation : Activation) (out out' : Out) (back : Back) where
  abbrev around_one : Around
  around_one = record { activation = activation; out = out; back = back }

  abbrev around_other : Around
  around_other = record { activation = activation; out = out'; back = back }

  -- what is flat is the same whatever loops and ways out there are
  same_value : (x : Tx) → IsFlat x → value Canonical room ls enter later x around_one ≡ value Canonical room ls enter later' x around_other
  same_value x f =
      λ i go w t n. (flat_runs Canonical room ls enter later x around_one go w t n f ∙ sym
      (flat_runs Canonical room ls enter later' x around_other go w t n f)) i

  same_values : (xs : Txs) → AreFlat xs → values Canonical room ls enter later xs around_one ≡ values Canonical room ls enter later' xs around_other
  same_values no_txs f = refl
  same_values (tx x xs) f =
      λ i go w t. charged (argument_units Canonical xs) (same_value x f.0 i (λ v w1 t1. same_values xs f.1 i (λ vs w2 t2. go (v ∷ vs) w2 t2) w1 t1) w t)

  same_side : (x : Tx) → IsFlatOrEffect x → value Canonical room ls enter later x around_one ≡ value Canonical room ls enter later' x around_other
  same_side (Call label xs) f =
      λ i go w t. charged (expression_units Canonical (Call label xs))
      (same_values xs f i (λ vs w1 t1. enter_function Canonical room ls enter later label vs around_one go w1 t1) w t)
  same_side (Service k x) f =
      λ i go w t. charged (expression_units Canonical (Service k x)) (same_value x f i (λ u w1 t1. service room k u w1 (λ v w2. go v w2 t1)) w t)
  same_side (Const v) f = same_value (Const v) f
  same_side (Address label) f = same_value (Address label) f
  same_side (Temp k) f = same_value (Temp k) f
  same_side FrameAddress f = same_value FrameAddress f
  same_side (Binary op x y) f = same_value (Binary op x y) f
  same_side (Load x) f = same_value (Load x) f
  same_side (LoadByte x) f = same_value (LoadByte x) f
  same_side (After s x) f = absurd f

  pub same_statement : (s : Ts) → IsFlatStatement s → run Canonical room ls enter later s around_one ≡ run Canonical room ls enter later' s around_other
  same_statement (Move k x) f = λ i next w t. charged (statement_units Canonical (Move k x)) (same_side x f i (λ v w1 t1. next w1 (set_temp k v t1)) w t)
  same_statement (Store x y) f =
      λ i next w t. charged (statement_units Canonical (Store x y))
      (same_value x f.0 i (λ u w1 t1. same_value y f.1 i (λ v w2 t2. with_memory (store w2.memory u v) w2 (λ w3. next w3 t2)) w1 t1) w t)
  same_statement (StoreByte x y) f =
      λ i next w t. charged (statement_units Canonical (StoreByte x y))
      (same_value x f.0 i (λ u w1 t1. same_value y f.1 i (λ v w2 t2. with_memory (store_byte w2.memory u v) w2 (λ w3. next w3 t2)) w1 t1) w t)
  same_statement (Do x) f = λ i next w t. charged (statement_units Canonical (Do x)) (same_side x f i (λ v w1 t1. next w1 t1) w t)
  same_statement (If c s t) f = absurd f
  same_statement (Loop s) f = absurd f
  same_statement (Break k) f = absurd f
  same_statement (Fault k) f = absurd f
  same_statement (Seq ss) f = absurd f
  same_statement (Return x) f = absurd f

  pub same_flat : (x : Tx) → IsFlat x → value Canonical room ls enter later x around_one ≡ value Canonical room ls enter later' x around_other
  same_flat x f = same_value x f

abbrev pub no_later : Point → Run Ran
no_later p = wrong p.world

abbrev pub no_out : Out
no_out k w t = wrong w

-- For functions that are entered, and what comes after returns, before and after a pass.
module _
    (room : ℕ) (ls : List Literal) (enter enter' : Enter) (n r : ℕ) (enters : EntersSimulate 1 0 n enter enter') (activation : Activation)
    (back back' : Back) (backs : BacksSimulate 1 r n back back') where
  abbrev Does : ℕ → World → Run Ran → Run Ran → Type 0
  Does m w c d = Simulates 1 r m c d

  none_owed : r + 0 ≡ r
  none_owed = omega arith

  keep_enters :
      (label : ℕ) (vs : List ℕ) (top : ℕ) (b b' : Back) (w w' : World) → OneWorld w w' → AlikeBack Does OneWorld OneTemps n b b' →
      Simulates 1 r n (enter label vs top b w) (enter' label vs top b' w')
  keep_enters label vs top b b' w w' (one v) h =
      subst (λ k. Simulates 1 k n (enter label vs top b v) (enter' label vs top b' v)) none_owed (enters label vs top b b' v r (λ a y. h a y y (one y)))

  no_loops : (x y : Point) → Alike Does OneWorld OneTemps n x y → Simulates 1 r n (no_later x) (no_later y)
  no_loops x y (alike s e e' g g' w v t u h l (one z) q) = simulates_stopping 1 r n z.input Wrong

  keep_wrong : (k : ℕ) (w w' : World) (t t' : Temps) → OneWorld w w' → OneTemps t t' → Simulates 1 r n (no_out k w t) (no_out k w' t')
  keep_wrong k w w' t t' (one z) q = simulates_stopping 1 r n z.input Wrong

  keep_backs : AlikeBack Does OneWorld OneTemps n back back'
  keep_backs v w w' (one z) = backs v z

  both : AlikeAround Does OneWorld OneTemps n (outermost activation back) (outermost activation back')
  both = around activation no_out no_out back back' keep_wrong keep_backs

  module _ (later : Point → Run Ran) (out : Out) where
    abbrev before : Around
    before = record { activation = activation; out = out; back = back }

    abbrev behind : Around
    behind = outermost activation back'

    abbrev pub GoesSimulate : Go ℕ → Go ℕ → Type 0
    GoesSimulate go go' = (v : ℕ) (w : World) (t : Temps) → Simulates 1 r n (go v w t) (go' v w t)

    keep_goes :
        (go go' : Go ℕ) → GoesSimulate go go' → (v : ℕ) (w w' : World) (t t' : Temps) → OneWorld w w' → OneTemps t t' →
        Simulates 1 r n (go v w t) (go' v w' t')
    keep_goes go go' h v w w' t t' (one y) (one z) = h v y z

    keep_next :
        (next next' : Next) → ((w : World) (t : Temps) → Simulates 1 r n (next w t) (next' w t)) → (w w' : World) (t t' : Temps) → OneWorld w w' →
        OneTemps t t' → Simulates 1 r n (next w t) (next' w' t')
    keep_next next next' h w w' t t' (one y) (one z) = h y z

    pub word_simulates :
        (x : Tx) → IsFlat x → (go go' : Go ℕ) → GoesSimulate go go' → (w : World) (t : Temps) →
        Simulates 1 r n (value Canonical room ls enter later x before go w t) (value Canonical room ls enter' no_later x behind go' w t)
    word_simulates x f go go' h w t =
        subst (λ v. Simulates 1 r n (v go w t) (value Canonical room ls enter' no_later x behind go' w t))
        (sym (same_flat room ls enter later no_later activation out no_out back x f))
        (keep_value Does OneWorld OneTemps (keeps_simulating r) n Canonical room ls enter enter' no_later no_later keep_enters no_loops x _ _ go go' both
        (keep_goes go go' h) w w t t (one w) (one t))

    pub statement_simulates :
        (s : Ts) → IsFlatStatement s → (next next' : Next) → ((w : World) (t : Temps) → Simulates 1 r n (next w t) (next' w t)) → (w : World) (t : Temps) →
        Simulates 1 r n (run Canonical room ls enter later s before next w t) (run Canonical room ls enter' no_later s behind next' w t)
    statement_simulates s f next next' h w t =
        subst (λ c. Simulates 1 r n (c next w t) (run Canonical room ls enter' no_later s behind next' w t))
        (sym (same_statement room ls enter later no_later activation out no_out back s f))
        (keep_run Does OneWorld OneTemps (keeps_simulating r) n Canonical room ls enter enter' no_later no_later keep_enters no_loops s _ _ next next' both
        (keep_next next next' h) w w t t (one w) (one t))
