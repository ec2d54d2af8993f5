-- Runs of lines by fuel.
use Rattle.std.proofs.Common.{ℕ, zero, suc, ◌≡◌, ◌≤◌, List, [], refl, ap, arith, Option, Some, None}
use Rattle.std.specs.Prelude.{codes}
use Rattle.tg_machine_state.specs.State.{MachineState, initial_machine}
use Rattle.tg_machine_state.specs.Services.{answered}
use Rattle.tg_simulation.specs.Ran.{Ran, Ended, Wrong, IsOver, stops, works, writes}
use Rattle.tg_isa.specs.ImageRuns.{first_byte, later_bytes}
use Rattle.tg_tree.specs.declared.fragments.Literal.{Literal}
use Rattle.tg_emit.specs.declared.assembly.Line.{Line}
use Rattle.tg_emit_proof.specs.LinesRun.{Place, Returns, Did, Goes, Ends, Reads, Writes, Strays, behind, statics_of, step_of}
use Rattle.tg_emit_proof.specs.LinesRun.{lines_going, going_from}
use Rattle.tg_delay_proof.specs.laws.Laws.{LinesStayOver}

module _ (returns : Returns) (lines : List Line) (literals : List Literal) where
  abbrev going : Place → MachineState → List ℕ → ℕ → Ran
  going p s input n = lines_going returns lines literals p s input n

  abbrev done : (input : List ℕ) → ℕ → Did → Ran
  done input n (Goes q t) = going q t input n
  done input n (Ends e) = stops input (Ended e)
  done input n (Reads q t) = going q (answered t (first_byte input)) (later_bytes input) n
  done input n (Writes bytes q t) = writes bytes (going q t input n)
  done input n Strays = stops input Wrong

  over : (i j : ℕ) (p : Place) (s : MachineState) (input : List ℕ) → i ≤ j → IsOver (going p s input i).stop →
      going p s input j ≡ going p s input i
  over zero j p s input l h = absurd h
  over (suc i) zero p s input l h = absurd (omega (arith, l))
  over (suc i) (suc j) p s input l h =
      let k : i ≤ j = omega (arith, l) in
      ap (works 1) (by (step_of returns lines literals p s) h (λ q t x. over i j q t x k))
    where
      by : (d : Did) → IsOver (done input i d).stop →
          ((q : Place) (t : MachineState) (x : List ℕ) → IsOver (going q t x i).stop → going q t x j ≡ going q t x i) →
          done input j d ≡ done input i d
      by (Goes q t) o later = later q t input o
      by (Ends e) o later = refl
      by (Reads q t) o later = later q (answered t (first_byte input)) (later_bytes input) o
      by (Writes bytes q t) o later = ap (writes bytes) (later q t input o)
      by Strays o later = refl

pub lines_stay_over : LinesStayOver
lines_stay_over returns lines ls input heap stack i j l h = by (behind (codes "main") lines) h
  where
    by : (o : Option Place) → IsOver (going_from returns lines ls o (initial_machine [] (statics_of ls) 0 heap stack) input i).stop →
        going_from returns lines ls o (initial_machine [] (statics_of ls) 0 heap stack) input j
        ≡ going_from returns lines ls o (initial_machine [] (statics_of ls) 0 heap stack) input i
    by None k = refl
    by (Some p) k = over returns lines ls i j p (initial_machine [] (statics_of ls) 0 heap stack) input l k
