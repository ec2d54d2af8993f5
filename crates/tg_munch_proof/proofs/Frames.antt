-- Frames that are laid: a function's slots on both sides, and after the pass words for arguments too.
use Rattle.std.proofs.Common.{◌≡◌, ◌≢◌, ◌≤◌, ◌<◌, ℕ, zero, suc, ◌+◌, ◌-◌, ◌*◌, Bool, true, false, refl, sym, ap, ◌∙◌}
use Rattle.std.proofs.Common.{subst, arith}
use Rattle.std.proofs.lemmas.Bool.Decides.{nat_tests}
use Rattle.std.proofs.lemmas.Bool.{eqb-true}
use Rattle.std.specs.Prelude.{◌==◌, if◌then◌else◌}
use Rattle.tg_tree.specs.Memory.{Memory, Cell, Closed, slot, lay}
use Rattle.tg_tree.specs.Actions.{World}
use Rattle.tg_tree.specs.Holding as holding
use Rattle.tg_tree.specs.Holding.{CellHoldsAtLeast, WorldHoldsAtLeast, in_stack}
use Rattle.tg_tree.proofs.Relating.{with_put}
use Rattle.tg_tree.proofs.Filled.{filled_keeps}
use Rattle.tg_instr.specs.Running.{lay_out}

-- a cell that is put elsewhere, or there
pub put_other : (b : Bool) (c d : Cell) → b ≡ false → (if b then c else d) ≡ d
put_other b c d e = ap (λ (x : Bool). if x then c else d) e

pub not_equal : (a b : ℕ) → a ≢ b → (a == b) ≡ false
not_equal a b h = grind (arith, nat_tests)

pub lay_other : (base n : ℕ) (c : Cell) (m : Memory) (a : ℕ) → ((k : ℕ) → k < n → a ≢ slot base k) → (lay base n c
    m).stack a ≡ m.stack a
lay_other base zero c m a h = refl
lay_other base (suc n) c m a h =
    put_other (a == slot base n) c ((lay base n c m).stack a) (not_equal a (slot base n) (h n (omega arith))) ∙
    lay_other base n c m a (λ k lt. h k (omega arith))

-- what is closed in flat code may be anything after the pass
closed_by : (b : Bool) (a i : ℕ) (c : Cell) (cells cells' : ℕ → Cell) → (i == a) ≡ b → cells a ≡ Closed →
    CellHoldsAtLeast (cells i) (cells' i) →
    CellHoldsAtLeast (cells i) (if b then c else cells' i)
closed_by true a i c cells cells' e closed h =
    let same : i ≡ a = eqb-true i a e in
    subst (λ d. CellHoldsAtLeast d c) (sym (ap cells same ∙ closed)) (holding.elsewhere c)
closed_by false a i c cells cells' e closed h = h

pub puts_behind : (a : ℕ) (c : Cell) (w x : World) → w.memory.stack a ≡ Closed → WorldHoldsAtLeast w x →
    WorldHoldsAtLeast w (with_put a c x)
puts_behind a c w x closed (in_stack statics heap input cells cells' more) =
    in_stack statics heap input cells _ (λ i. closed_by (i == a) a i c cells cells' refl closed (more i))

-- slots of both
abbrev slots_laid : ℕ → ℕ → Cell → World → World
slots_laid base n c w = record w { memory = lay base n c w.memory }

abbrev low_laid : ℕ → ℕ → Cell → World → World
low_laid low n c w = record w { memory = lay_out low n c w.memory }

pub slots_hold : (base n : ℕ) (c : Cell) (w x : World) → WorldHoldsAtLeast w x → WorldHoldsAtLeast (slots_laid base n
    c w) (slots_laid base n c x)
slots_hold base zero c w x h = h
slots_hold base (suc n) c w x h =
    filled_keeps.puts (slot base n) c (slots_laid base n c w) (slots_laid base n c x) (slots_hold base n c w x h)

pub low_holds : (low n : ℕ) (c : Cell) (w x : World) → ((k : ℕ) → k < n → w.memory.stack (low + 4 * k) ≡ Closed) →
    WorldHoldsAtLeast w x →
    WorldHoldsAtLeast w (low_laid low n c x)
low_holds low zero c w x closed h = h
low_holds low (suc n) c w x closed h =
    puts_behind (low + 4 * n) c w (low_laid low n c x) (closed n (omega arith)) (low_holds low n c w x (λ k lt.
    closed k (omega arith)) h)

-- a frame is laid, with its words for arguments after the pass: they are no slots
apart : (base size slots n k j : ℕ) → 4 * (slots + n) ≤ size → size ≤ base → k < n → j < slots → base - size + 4 * k
    ≢ slot base j
apart base size slots n k j fits le lk lj e = omega (arith, e)

pub frame_holds : (base size slots n : ℕ) (c : Cell) (w x : World) → 4 * (slots + n) ≤ size → size ≤ base →
    ((k : ℕ) → k < n → w.memory.stack (base - size + 4 * k) ≡ Closed) → WorldHoldsAtLeast w x →
    WorldHoldsAtLeast (slots_laid base slots c w) (low_laid (base - size) n c (slots_laid base slots c x))
frame_holds base size slots n c w x fits le closed h =
    low_holds (base - size) n c (slots_laid base slots c w) (slots_laid base slots c x)
    (λ k lt. lay_other base slots c w.memory (base - size + 4 * k) (λ j lj. apart base size slots n k j fits le lt
    lj) ∙ closed k lt)
    (slots_hold base slots c w x h)
