-- What comes next matters by what it is at each world and each amount of fuel: runs are equal where what comes next is.
use Rattle.std.proofs.Common.{◌≡◌, ℕ, refl, ap}
use Rattle.tg_simulation.specs.Runs.{Run}
use Rattle.tg_simulation.specs.Ran.{Ran}
use Rattle.tg_tree.specs.Tree.{Stms, no_stms, stm, Literal}
use Rattle.tg_tree.specs.Units.{Stage}
use Rattle.tg_tree.specs.Actions.{World, Temps, Around, Go, Next, Out, Back, ◌>>◌}
use Rattle.tg_tree.specs.Meaning.{Enter, Point, run, run_all}
use Rattle.tg_tree.specs.glue.Lists.{join_stms}
use Rattle.std.specs.Prelude.{List}

pub next_is : (c d : Next) → ((w : World) (t : Temps) (n : ℕ) → c w t n ≡ d w t n) → c ≡ d
next_is c d h = λ i w t n. h w t n i

pub go_is : {A : Type 0} (c d : Go A) → ((a : A) (w : World) (t : Temps) (n : ℕ) → c a w t n ≡ d a w t n) → c ≡ d
go_is c d h = λ i a w t n. h a w t n i

pub back_is : (c d : Back) → ((v : ℕ) (w : World) (n : ℕ) → c v w n ≡ d v w n) → c ≡ d
back_is c d h = λ i v w n. h v w n i

-- what is around a part, with other ways out that are equal
pub around_is : (e : Around) (out : Out) (back : Back) → ((k : ℕ) (w : World) (t : Temps) (n : ℕ) → e.out k w t n ≡ out k w t n) →
    ((v : ℕ) (w : World) (n : ℕ) → e.back v w n ≡ back v w n) → e ≡ record e { out = out; back = back }
around_is e out back h k = λ i. record { activation = e.activation; out = λ j w t n. h j w t n i; back = λ v w n. k v w n i }

-- statements that are put together run one after the other
module _ (stage : Stage) (room : ℕ) (literals : List Literal) (enter : Enter) (later : Point → Run Ran) where
  pub runs_in_turn : (ss ts : Stms) → run_all stage room literals enter later (join_stms ss ts) ≡
      (run_all stage room literals enter later ss >> run_all stage room literals enter later ts)
  runs_in_turn no_stms ts = refl
  runs_in_turn (stm s ss) ts = ap (λ m. run stage room literals enter later s >> m) (runs_in_turn ss ts)
