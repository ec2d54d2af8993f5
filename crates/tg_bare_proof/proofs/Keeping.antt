-- What keeps the lines' runs keeps the machine's run of the delayed lines' image.
use Rattle.std.proofs.Common.{ℕ, ◌≡◌, ◌≢◌, ◌+◌, ◌*◌, List, [], ◌∷◌, refl, sym, ap, ◌∙◌, subst, Bool, true, false}
use Rattle.std.specs.Prelude.{if◌then◌else◌}
use Rattle.tg_simulation.specs.Runs.{Run}
use Rattle.tg_simulation.specs.Ran.{Ran, Wrong}
use Rattle.tg_simulation.specs.Preserving.{DoesTheSame, Preserves}
use Rattle.tg_simulation.specs.laws.Laws.{PassesCompose}
use Rattle.tg_isa.specs.declared.mips.Mips.{Mips}
use Rattle.tg_isa.specs.declared.mips.Mips.TheVariants as row
use Rattle.tg_asm_text.specs.Assembly.{Assembled}
use Rattle.tg_asm_text.specs.Placement.{image_of}
use Rattle.tg_asm_text.specs.Texts as texts
use Rattle.tg_emit.specs.declared.assembly.Line.{Line}
use Rattle.tg_emit.specs.declared.assembly.Line.TheVariants.{Label, One, La, Statics}
use Rattle.tg_emit_proof.specs.LinesRun.{Returns, calls, lines_run}
use Rattle.tg_emit_proof.specs.laws.Laws.{AreReturns, written, HasImage}
use Rattle.tg_bare.specs.Delayed.{initial_bare}
use Rattle.tg_bare.specs.BareRuns.{bare_run}
use Rattle.tg_delay.specs.Filling.{opposite, branches, branches_in, around_name, movable, nop, filled, turned_round, near, delayed}
use Rattle.tg_delay_proof.specs.DelayedRun.{delayed_run}
use Rattle.tg_delay_proof.specs.laws.Laws.{DelayingKeepsRuns, DelayingKeepsCalls, SlotsAreReturns}
use Rattle.tg_bare_proof.specs.laws.Laws.{DelayedRunOnTheMachine}
use Rattle.tg_delay_proof.specs.laws.Laws.{GivesNone, returns_behind_slots}
use Rattle.tg_bare_proof.specs.laws.Laws.{HasNoJalr, LinesAreDelayed}
use Rattle.tg_delay_proof.proofs.Filled.{by_filling}

-- a row that is no `jalr`, and what is behind it
abbrev IsNoJalr : Mips → Type 0
IsNoJalr (row.Jalr rd rs) = ⊥
IsNoJalr one = Unit {0}

both : (one : Mips) (target : List ℕ) (rest : List Line) → IsNoJalr one → HasNoJalr rest → HasNoJalr (One one target ∷ rest)
both (row.Jalr rd rs) target rest h k = absurd h
both one target rest h k = k

parts : (one : Mips) (target : List ℕ) (rest : List Line) → HasNoJalr (One one target ∷ rest) → IsNoJalr one × HasNoJalr rest
parts (row.Jalr rd rs) target rest h = absurd h
parts one target rest h = (tt, h)

pub filled_without : (lines : List Line) → HasNoJalr lines → HasNoJalr (filled lines)
filled_without lines =
    by_filling (λ ls ms. HasNoJalr ls → HasNoJalr ms) (λ h. h) (λ name rest h. h) (λ r n rest h. h) (λ bytes rest h. h)
    (λ one target rest e h k. let p = parts one target rest k in both one target (filled rest) p.0 (h p.1))
    (λ one target rest e h k. let p = parts one target rest k in both one target (nop ∷ filled rest) p.0 (h p.1))
    (λ one target other there rest e h k.
    let p = parts one target (One other there ∷ rest) k in
    let q = parts other there rest p.1 in
    both other there (One one target ∷ filled rest) q.0 (both one target (filled rest) p.0 (h q.1))) lines

opposite_without : (one : Mips) → IsNoJalr one → IsNoJalr (opposite one)
opposite_without (row.Beq rs rt n) h = tt
opposite_without (row.Bne rs rt n) h = tt
opposite_without (row.Blez rs n) h = tt
opposite_without (row.Bgtz rs n) h = tt
opposite_without (row.Bltz rs n) h = tt
opposite_without (row.Bgez rs n) h = tt
opposite_without one h = h

pub turned_without : (lines : List Line) → HasNoJalr lines → HasNoJalr (turned_round lines)
turned_without [] h = tt
turned_without (Label name ∷ rest) h = turned_without rest h
turned_without (La r name ∷ rest) h = turned_without rest h
turned_without (Statics bytes ∷ rest) h = turned_without rest h
turned_without (One one target ∷ rest) h =
    let p = parts one target rest h in by (branches one) p.0 (turned_without rest p.1)
  where
    by : (b : Bool) → IsNoJalr one → HasNoJalr (turned_round rest) →
        HasNoJalr (if b then One (opposite one) (around_name (branches_in rest)) ∷ One (row.J 0) target
        ∷ Label (around_name (branches_in rest)) ∷ turned_round rest else One one target ∷ turned_round rest)
    by true k l = both (opposite one) (around_name (branches_in rest))
        (One (row.J 0) target ∷ Label (around_name (branches_in rest)) ∷ turned_round rest) (opposite_without one k) l
    by false k l = both one target (turned_round rest) k l

pub delayed_without : (lines : List Line) → HasNoJalr lines → HasNoJalr (delayed lines)
delayed_without lines h = by (near lines)
  where
    by : (b : Bool) → HasNoJalr (filled (if b then lines else turned_round lines))
    by true = filled_without lines h
    by false = filled_without (turned_round lines) (turned_without lines h)

pub lines_are_delayed : PassesCompose → DelayingKeepsRuns → DelayingKeepsCalls → SlotsAreReturns → DelayedRunOnTheMachine →
    LinesAreDelayed
lines_are_delayed compose keeps same are there a b c lines ls input heap stack first gives without has =
    record {
      there = λ n right.
          let x = all.there n right in
          let right' : (delayed_run words (delayed lines) ls input heap stack x.0).stop ≢ Wrong =
          λ e. right (sym x.2.stop ∙ e) in
          let e = there (delayed lines) ls input heap stack x.0 has (delayed_without lines without) right' in
          (x.0, x.1, subst (DoesTheSame (4 * a) (4 * b + 0) (c n)) (sym e) x.2);
    }
  where
    words : Returns
    words = returns_behind_slots (delayed lines)

    are_words : AreReturns (calls lines) (returns_behind_slots (delayed lines))
    are_words = subst (λ n. AreReturns n (returns_behind_slots (delayed lines))) (same lines) (are (delayed lines) has.short)

    all : Preserves (4 * a) (4 * b + 0) c (delayed_run (returns_behind_slots (delayed lines)) (delayed lines) ls input heap stack)
    all = compose a b 4 0 c (lines_run (returns_behind_slots (delayed lines)) lines ls input heap stack) _
        (first (returns_behind_slots (delayed lines)) are_words)
        (keeps (returns_behind_slots (delayed lines)) lines ls input heap stack gives)
