-- Rows of lines: what comes after one that goes straight on, ends the run, or is a call; and runs
-- that come to others by rows.
use Rattle.std.proofs.Common.{ℕ, zero, suc, ◌≡◌, ◌<◌, ◌≤◌, ◌+◌, ◌*◌, List, ◌∷◌, Some, ap, ◌∙◌, arith}
use Rattle.tg_machine_state.specs.declared.ends.RunEnd.{RunEnd}
use Rattle.tg_machine_state.specs.State.{MachineState, set_register}
use Rattle.tg_machine_state.specs.Services as machine
use Rattle.tg_machine_state.specs.Services.{answered}
use Rattle.tg_simulation.specs.Runs.{Run}
use Rattle.tg_simulation.specs.Ran as ran
use Rattle.tg_simulation.specs.Ran.{Ran, Wrong, stops, works, writes}
use Rattle.tg_simulation.specs.laws.Simulating.{Simulates, Comes}
use Rattle.tg_simulation.proofs.Simulations.{simulates_stopping, simulates_paying, simulates_coming, simulates_with_credit}
use Rattle.tg_tree.specs.Actions.{World, charged}
use Rattle.tg_tree.specs.Running.{with_fuel}
use Rattle.tg_isa.specs.declared.mips.Mips.{Mips}
use Rattle.tg_isa.specs.declared.mips.Mips.TheVariants as row
use Rattle.tg_isa.specs.Effects.{effect}
use Rattle.tg_isa.specs.ImageRuns.{first_byte, later_bytes}
use Rattle.tg_emit.specs.declared.assembly.Line.{Line}
use Rattle.tg_emit.specs.declared.assembly.Line.TheVariants.{One}
use Rattle.tg_emit_proof.specs.LinesRun.{behind, calls, goes_to, onward, row_does, way, left, Straight, Did, Goes, Ends}
use Rattle.tg_emit_proof.specs.LinesRun.{Reads, Writes, Strays}
use Rattle.tg_emit_proof.specs.Setting.{Setting, going, from}

-- some rows and more of them
pub comes_more : (k l : ℕ) (c d : Run Ran) → k ≤ l → Comes k c d → Comes l c d
comes_more k l c d le h i = let x = h i in let m = x.3 in (x.0, x.1, x.2, omega (arith, m, le), x.4)

-- A run that comes to another by rows of which one is a jump or a call: with more fuel.
abbrev pub Turns : (rows : ℕ) → Run Ran → Run Ran → Type 0
Turns rows d e = (i : ℕ) → (j : ℕ) × (i < j) × (m : ℕ) × (m ≤ rows) × (d j ≡ works m (e i))

pub turn_goes_on : (credit n units : ℕ) (w : World) (c d e : Run Ran) → d 0 ≡ stops w.input ran.WantsFuel →
    Turns units d e → ((m : ℕ) → m < n → Simulates 1 credit m c e) →
    Simulates 1 credit n (charged units (with_fuel w c)) d
turn_goes_on credit n units w c d e first comes goes zero h right = (
  0,
  omega arith,
  record {
    output = ap (λ (r : Ran). r.output) first;
    input = ap (λ (r : Ran). r.input) first;
    stop = ap (λ (r : Ran). r.stop) first;
    work = (let z : (d 0).work ≡ 0 = ap (λ (r : Ran). r.work) first in omega (arith, z));
  },
)
turn_goes_on credit n units w c d e first comes goes (suc i) h right =
    let q = goes i (omega (arith, h)) i (omega arith) right in
    let x = comes q.0 in
    let l = q.1 in let more = x.1 in let rows = x.3 in let work = q.2.work in
    let all : (d x.0).work ≡ x.2 + (e q.0).work = ap (λ (r : Ran). r.work) x.4 in (
      x.0,
      omega (arith, l, more),
      record {
        output = ap (λ (r : Ran). r.output) x.4 ∙ q.2.output;
        input = ap (λ (r : Ran). r.input) x.4 ∙ q.2.input;
        stop = ap (λ (r : Ran). r.stop) x.4 ∙ q.2.stop;
        work = omega (arith, rows, work, all);
      },
    )

-- a first row that takes fuel, and rows after it
pub turns_by : (rows : ℕ) (c d e : Run Ran) → ((i : ℕ) → c (suc i) ≡ works 1 (d i)) → Comes rows d e →
    Turns (1 + rows) c e
turns_by rows c d e first comes i =
    let x = comes i in
    let l = x.1 in let m = x.3 in
    let sum : 1 + (x.2 + (e i).work) ≡ 1 + x.2 + (e i).work = omega arith in (
      suc x.0,
      omega (arith, l),
      1 + x.2,
      omega (arith, m),
      first x.0 ∙ (ap (works 1) x.4 ∙ ap (λ n. record (e i) { work = n }) sum),
    )

pub turns_once : (c d : Run Ran) → ((i : ℕ) → c (suc i) ≡ works 1 (d i)) → Turns 1 c d
turns_once c d first i = (suc i, omega arith, 1, omega arith, first i)

pub turns_more : (k l : ℕ) (c d : Run Ran) → k ≤ l → Turns k c d → Turns l c d
turns_more k l c d le h i = let x = h i in let m = x.3 in (x.0, x.1, x.2, omega (arith, m, le), x.4)

pub comes_by : (c d : Run Ran) → ((i : ℕ) → c (suc i) ≡ works 1 (d i)) → Comes 1 c d
comes_by c d first i = (suc i, omega arith, 1, omega arith, first i)

-- A run that ends after some rows, for which it is charged.
pub ends_so : (credit n units rows : ℕ) (input : List ℕ) (stop : ran.Stop) (d : Run Ran) → rows ≤ units →
    Comes rows d (λ i. stops input stop) → Simulates 1 credit n (charged units (λ i. stops input stop)) d
ends_so credit n units rows input stop d le comes =
    simulates_paying 1 credit n units _ _
    (simulates_with_credit 1 (credit + rows) (credit + 1 * units) n _ _ (omega (arith, le))
    (simulates_coming 1 credit n rows _ _ _ comes (simulates_stopping 1 credit n input stop)))

module _ (g : Setting) where
  -- what comes of what a row does
  abbrev pub done : (input : List ℕ) → ℕ → Did → Ran
  done input n (Goes q t) = going g q t input n
  done input n (Ends e) = stops input (ran.Ended e)
  done input n (Reads q t) = going g q (answered t (first_byte input)) (later_bytes input) n
  done input n (Writes bytes q t) = writes bytes (going g q t input n)
  done input n Strays = stops input Wrong

  does : (one : Mips) (target : List ℕ) (rest : List Line) (s : MachineState) (m : machine.Step) →
      way g.returns g.lines one target rest s ≡ Straight → effect one s ≡ m →
      row_does (way g.returns g.lines one target rest s) one rest s ≡ onward m (left rest)
  does one target rest s m straight e =
      ap (λ y. row_does y one rest s) straight ∙ ap (λ d. onward d (left rest)) e

  -- a row that goes straight on
  pub row_comes : (one : Mips) (target : List ℕ) (rest : List Line) (s t : MachineState) (input : List ℕ) →
      way g.returns g.lines one target rest s ≡ Straight → effect one s ≡ machine.Goes t →
      Comes 1 (from g (One one target ∷ rest) s input) (from g rest t input)
  row_comes one target rest s t input straight e i =
      let d = does one target rest s (machine.Goes t) straight e in
      (suc i, omega arith, 1, omega arith, ap (λ x. works 1 (done input i x)) d)

  -- a row that ends the run
  pub row_ends : (one : Mips) (target : List ℕ) (rest : List Line) (s : MachineState) (e : RunEnd) (input : List ℕ) →
      way g.returns g.lines one target rest s ≡ Straight → effect one s ≡ machine.Ends e →
      Comes 1 (from g (One one target ∷ rest) s input) (λ i. stops input (ran.Ended e))
  row_ends one target rest s f input straight e i =
      let d = does one target rest s (machine.Ends f) straight e in
      (suc i, omega arith, 1, omega arith, ap (λ x. works 1 (done input i x)) d)

  -- a call goes to its callee's entry, with the word of its place in $ra
  pub call_is : (target : List ℕ) (inside rest : List Line) (s : MachineState) (input : List ℕ) →
      behind target g.lines ≡ Some (left inside) → (i : ℕ) →
      from g (One (row.Jal 0) target ∷ rest) s input (suc i)
      ≡ works 1 (from g inside (set_register s 31 (g.returns (calls rest))) input i)
  call_is target inside rest s input h i =
      ap (λ o. works 1 (done input i (goes_to o (set_register s 31 (g.returns (calls rest)))))) h
