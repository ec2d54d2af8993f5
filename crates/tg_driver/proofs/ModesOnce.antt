-- A text has at most one answer in each mode.
use Rattle.std.specs.Prelude.{Result, Ok, Err}
use Rattle.std.proofs.Common.{ℕ, ◌≡◌, ◌<◌, ◌≤◌, ◌⊎◌, inl, inr, Bool, List, length, refl, sym, ap, subst, arith, ◌∙◌}
use Rattle.tg_machine_state.specs.declared.ends.RunEnd.{RunEnd}
use Rattle.tg_isa.specs.declared.images.Image.{Image}
use Rattle.tg_asm_text.specs.Assembly.{Assembled, Fault as AsmFault, assembled}
use Rattle.tg_asm.specs.Images.{image_of}
use Rattle.tg_profiler.specs.Watching.{Report}
use Rattle.tg_command.specs.declared.modes.Mode.{Mode}
use Rattle.tg_command.specs.declared.modes.Mode.TheVariants.{Check, Build, Run, Exec, Alloc, Show, Gen, Format, Bare}
use Rattle.tg_command.specs.Commands.{Asked}
use Rattle.tg_driver.specs.declared.answers.Answer.{Answer}
use Rattle.tg_driver.specs.declared.answers.Answer.TheVariants.{Faulty, BadLine, TooLong, Accepted, Written, Unwritten, Finished}
use Rattle.tg_driver.specs.glue.PrivateCalls.{HasStarted}
use Rattle.tg_driver.specs.Calls.{Streams}
use Rattle.tg_driver.specs.Runs.{RunRelation}
use Rattle.tg_driver.specs.Watching.{HasToldRunBy}
use Rattle.tg_driver.specs.laws.Laws.{IsFaultless}
use Rattle.tg_driver.specs.CheckMode.{IsChecked}
use Rattle.tg_driver.specs.laws.OfTexts.{IsWritable}
use Rattle.tg_driver.specs.laws.AsMeant.{IsRun}
use Rattle.tg_driver.specs.laws.OfTexts.{IsGenerable}
use Rattle.tg_driver.specs.ExecMode.{EndsImage, IsExecuted}
use Rattle.tg_driver.specs.laws.OfTexts.{IsDueOfText}
use Rattle.tg_driver.proofs.ExactRuns.{FaultlessRun, run_of}
use Rattle.tg_driver.proofs.FaultsOnce.{fault_once_told}
use Rattle.tg_driver.proofs.SourcesOnce.{no_fault, no_fault_of_meant}
use Rattle.tg_driver.proofs.CanonicalTexts.{formattable_alike}
use Rattle.tg_driver.proofs.LargeSources.{bare_alike}

checked_once : (text : List ℕ) (a b : Answer) → IsChecked text a → IsChecked text b → a ≡ b
checked_once text (Faulty f) (Faulty g) p q = ap Faulty (fault_once_told text f g p q)
checked_once text (Faulty f) Accepted p q = absurd (no_fault text f p q)
checked_once text (Faulty f) _ p q = absurd q
checked_once text Accepted (Faulty f) p q = absurd (no_fault text f q p)
checked_once text Accepted Accepted p q = refl
checked_once text Accepted _ p q = absurd q
checked_once text _ b p q = absurd p

-- two answers are one, or the streams were touched
written_alike : (text : List ℕ) (a b : Answer) → IsWritable text a → IsWritable text b → (a ≡ b) ⊎ (HasStarted a × HasStarted b)
written_alike text (Faulty f) (Faulty g) p q = inl (ap Faulty (fault_once_told text f g p q))
written_alike text (Faulty f) Written p q = absurd (no_fault text f p q)
written_alike text (Faulty f) Unwritten p q = absurd (no_fault text f p q)
written_alike text (Faulty f) _ p q = absurd q
written_alike text Written (Faulty f) p q = absurd (no_fault text f q p)
written_alike text Written Written p q = inr (tt, tt)
written_alike text Written Unwritten p q = inr (tt, tt)
written_alike text Written _ p q = absurd q
written_alike text Unwritten (Faulty f) p q = absurd (no_fault text f q p)
written_alike text Unwritten Written p q = inr (tt, tt)
written_alike text Unwritten Unwritten p q = inr (tt, tt)
written_alike text Unwritten _ p q = absurd q
written_alike text _ b p q = absurd p

run_alike : (runs others : RunRelation) (one other : Asked) (text : List ℕ) (a b : Answer) →
    IsRun runs one text a → IsRun others other text b → (a ≡ b) ⊎ (HasStarted a × HasStarted b)
run_alike runs others one other text (Faulty f) (Faulty g) p q = inl (ap Faulty (fault_once_told text f g p q))
run_alike runs others one other text (Faulty f) (Finished e) p q = absurd (no_fault_of_meant others text other.heap other.stack other.steps f e p q)
run_alike runs others one other text (Faulty f) _ p q = absurd q
run_alike runs others one other text (Finished d) (Faulty f) p q = absurd (no_fault_of_meant runs text one.heap one.stack one.steps f d q p)
run_alike runs others one other text (Finished d) (Finished e) p q = inr (tt, tt)
run_alike runs others one other text (Finished d) _ p q = absurd q
run_alike runs others one other text _ b p q = absurd p

generated_alike : (a b : Answer) → IsGenerable a → IsGenerable b → (a ≡ b) ⊎ (HasStarted a × HasStarted b)
generated_alike (Finished d) (Finished e) p q = inr (tt, tt)
generated_alike (Finished d) Unwritten p q = inr (tt, tt)
generated_alike (Finished d) _ p q = absurd q
generated_alike Unwritten (Finished e) p q = inr (tt, tt)
generated_alike Unwritten Unwritten p q = inr (tt, tt)
generated_alike Unwritten _ p q = absurd q
generated_alike _ b p q = absurd p

-- the fault and the image of a text that has one
fault_in : Result Assembled AsmFault → AsmFault → AsmFault
fault_in (Ok image) otherwise = otherwise
fault_in (Err e) otherwise = e

same_fault : (text : List ℕ) (e f : AsmFault) → assembled text ≡ Err e → assembled text ≡ Err f → e ≡ f
unfolding fault_in
same_fault text e f p q = ap (λ (r : Result Assembled AsmFault). fault_in r e) (sym p ∙ q)

image_in : Result Assembled AsmFault → Assembled → Assembled
image_in (Ok image) otherwise = image
image_in (Err e) otherwise = otherwise

same_image : (text : List ℕ) (i j : Image) → assembled text ≡ Ok (image_of i) → assembled text ≡ Ok (image_of j) → i ≡ j
unfolding image_in
same_image text i j p q =
    let one : image_of i ≡ image_of j = ap (λ (r : Result Assembled AsmFault). image_in r (image_of i)) (sym p ∙ q) in
    λ k. record { code = (one k).code; statics = (one k).statics; entry = (one k).entry }

no_image : (text : List ℕ) (i : Assembled) (e : AsmFault) → assembled text ≡ Ok i → assembled text ≡ Err e → ⊥
no_image text i e p q = let h : Ok i ≡ Err e = sym p ∙ q in cc

bad_as : AsmFault → Answer
bad_as e = BadLine e.rule e.line

too_long : (text : List ℕ) → length text ≤ 67108864 → 67108864 < length text → ⊥
too_long text s l = absurd (omega (arith, s, l))

-- what is said of the runs of one image leaves one end
AreAlike : (runs others : RunRelation) → Asked → Type 0
AreAlike runs others asked = (image : Image) (d e : RunEnd) → runs image asked.heap asked.stack asked.steps d →
    others image asked.heap asked.stack asked.steps e → d ≡ e

ended_once : (runs others : RunRelation) (asked : Asked) (text : List ℕ) (d e : RunEnd) → AreAlike runs others asked →
    EndsImage runs asked text d → EndsImage others asked text e → d ≡ e
unfolding AreAlike
ended_once runs others asked text d e alike p q =
    let P : Image → Type 0 = λ i. runs i asked.heap asked.stack asked.steps d in
    alike q.image d e (subst P (same_image text p.image q.image p.assembles q.assembles) p.run) q.run

-- in `exec` two answers are one, or two ends
pub executed_alike : (runs others : RunRelation) (one other : Asked) (text : List ℕ) (a b : Answer) → IsExecuted runs one text a →
    IsExecuted others other text b → (a ≡ b) ⊎ (HasStarted a × HasStarted b)
unfolding bad_as
executed_alike runs others one other text TooLong TooLong p q = inl refl
executed_alike runs others one other text TooLong (BadLine r n) p q = absurd (too_long text q.short p)
executed_alike runs others one other text TooLong (Finished e) p q = absurd (too_long text q.short p)
executed_alike runs others one other text TooLong _ p q = absurd q
executed_alike runs others one other text (BadLine r n) TooLong p q = absurd (too_long text p.short q)
executed_alike runs others one other text (BadLine r n) (BadLine s k) p q = inl (ap bad_as (same_fault text _ _ p.fault q.fault))
executed_alike runs others one other text (BadLine r n) (Finished e) p q = absurd (no_image text _ _ q.assembles p.fault)
executed_alike runs others one other text (BadLine r n) _ p q = absurd q
executed_alike runs others one other text (Finished d) TooLong p q = absurd (too_long text p.short q)
executed_alike runs others one other text (Finished d) (BadLine s k) p q = absurd (no_image text _ _ p.assembles q.fault)
executed_alike runs others one other text (Finished d) (Finished e) p q = inr (tt, tt)
executed_alike runs others one other text (Finished d) _ p q = absurd q
executed_alike runs others one other text _ b p q = absurd p

executed_once : (runs others : RunRelation) (asked : Asked) (text : List ℕ) (a b : Answer) → AreAlike runs others asked →
    IsExecuted runs asked text a → IsExecuted others asked text b → a ≡ b
executed_once runs others asked text a b alike p q = by a b p q (executed_alike runs others asked asked text a b p q)
  where
    by : (a b : Answer) → IsExecuted runs asked text a → IsExecuted others asked text b → (a ≡ b) ⊎ (HasStarted a × HasStarted b) → a ≡ b
    by a b p q (inl e) = e
    by (Finished d) (Finished e) p q (inr both) = ap Finished (ended_once runs others asked text d e alike p q)
    by (Finished d) Written p q (inr both) = absurd q
    by (Finished d) Unwritten p q (inr both) = absurd q
    by (Finished d) b p q (inr both) = absurd (both.1)
    by Written b p q (inr both) = absurd p
    by Unwritten b p q (inr both) = absurd p
    by a b p q (inr both) = absurd (both.0)

-- an answer that no read and no write ended is that of such a run
pub executed_faultless : {I O : Type 0} (s : Streams I O) (bare : Bool) (reporters : List Report) (reports : List ℕ) (asked : Asked) (text : List ℕ)
    (a : Answer) → IsFaultless a → IsExecuted (HasToldRunBy s bare reporters reports) asked text a → IsExecuted (FaultlessRun s bare) asked text a
executed_faultless s bare reporters reports asked text TooLong f h = h
executed_faultless s bare reporters reports asked text (BadLine r n) f h = h
executed_faultless s bare reporters reports asked text (Finished e) f h = record {
  short = h.short;
  image = h.image;
  assembles = h.assembles;
  run = (run_of s bare reporters reports h.image asked.heap asked.stack asked.steps e h.run, f);
}
executed_faultless s bare reporters reports asked text _ f h = absurd h

-- whatever the mode
pub due_alike : (runs others : RunRelation) (mode : Mode) (one other : Asked) (text : List ℕ) (a b : Answer) →
    IsDueOfText runs mode one text a → IsDueOfText others mode other text b → (a ≡ b) ⊎ (HasStarted a × HasStarted b)
due_alike runs others Check one other text a b p q = inl (checked_once text a b p q)
due_alike runs others Build one other text a b p q = written_alike text a b p q
due_alike runs others Run one other text a b p q = run_alike runs others one other text a b p q
due_alike runs others Exec one other text a b p q = executed_alike runs others one other text a b p q
due_alike runs others Alloc one other text a b p q = written_alike text a b p q
due_alike runs others Show one other text a b p q = written_alike text a b p q
due_alike runs others Gen one other text a b p q = generated_alike a b p q
due_alike runs others Format one other text a b p q = formattable_alike text a b p q
due_alike runs others Bare one other text a b p q = bare_alike text a b p q

pub exec_once : (runs others : RunRelation) (asked : Asked) (text : List ℕ) (a b : Answer) →
    ((image : Image) (d e : RunEnd) → runs image asked.heap asked.stack asked.steps d → others image asked.heap asked.stack asked.steps e → d ≡ e) →
    IsExecuted runs asked text a → IsExecuted others asked text b → a ≡ b
unfolding AreAlike
exec_once runs others asked text a b alike p q = executed_once runs others asked text a b alike p q
