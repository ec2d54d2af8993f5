-- From what a source is compiled to with delay slots to the answers of `bare`.
use Rattle.std.proofs.Common.{ℕ, ◌≡◌, ◌≤◌, ◌<◌, ◌^◌, inl, inr, List, length, sym, subst, arith}
use Rattle.tg_base.specs.Files.{IsFilePrefix}
use Rattle.tg_command.specs.Commands.{Asked}
use Rattle.tg_driver.specs.declared.answers.Answer.{Answer}
use Rattle.tg_driver.specs.declared.answers.Answer.TheVariants.{Faulty, Written, Unwritten, OutOfMemory}
use Rattle.tg_driver.specs.declared.faults.Fault.{Fault}
use Rattle.tg_driver.specs.Calls.{Stream, Streams, Stays, HasFailed, Untouched, Shelved, Takes, nothing, all, part}
use Rattle.tg_driver.specs.OfFiles.{OfFile}
use Rattle.tg_driver.specs.BareMode.{IsBareWritten, ByBare}
use Rattle.tg_driver.specs.LargePrograms.{IsTooLargeAt, IsTooLarge, IsSmallSource}
use Rattle.tg_driver.specs.Writing.{TakesText, TextRelation, IsWritten}
use Rattle.tg_driver.specs.glue.Found.{IsRefused}
use Rattle.tg_driver.specs.glue.PrivateCalls.{OrMemory, StaysBeforeStart, GivesText}
use Rattle.tg_driver.specs.laws.Laws.{IsFaultyOrDelayed}
use Rattle.tg_driver.proofs.AnswerLemmas.{before_start, writes_text}
use Rattle.tg_driver.proofs.ProgramsWithin.{program_within}

-- the byte of a program that is too large
pub large_within : (text : List ℕ) (at : ℕ) → IsTooLargeAt text at → at ≤ length text
large_within text at l =
    let P : ℕ → Type 0 = λ n. n ≤ length text in
    subst P (sym l.at_is) (program_within text l.names l.tokens l.program l.source.tree.has_tokens l.source.tree.parsed)

pub large_small : (text : List ℕ) (at : ℕ) → IsTooLargeAt text at → at < 2 ^ 31
large_small text at l =
    let w = large_within text at l in
    let short = l.source.tree.has_tokens.short in
    omega (arith, w, short)

-- a source that is refused, or whose program is too large
pub bare_of_refused : {O : Type 0} (out : Stream O) (writes : TextRelation) (text : List ℕ) (answer : Answer) →
    IsRefused text answer → OrMemory (Unit {0}) (IsBareWritten out writes text) answer
bare_of_refused out writes text (Faulty f) r = inl r
bare_of_refused out writes text OutOfMemory r = tt
bare_of_refused out writes text _ r = absurd r

pub bare_of_large : {O : Type 0} (out : Stream O) (writes : TextRelation) (text : List ℕ) (answer : Answer) (f : Fault) → answer ≡ Faulty f →
    IsTooLarge text f → OrMemory (Unit {0}) (IsBareWritten out writes text) answer
bare_of_large out writes text answer f is l =
    let P : Answer → Type 0 = λ x. OrMemory (Unit {0}) (IsBareWritten out writes text) x in
    subst P (sym is) (inr l)

pub large_stays : {O : Type 0} (out : Stream O) (answer : Answer) (f : Fault) → answer ≡ Faulty f → Stays out → StaysBeforeStart out answer
large_stays out answer f is h =
    let P : Answer → Type 0 = λ x. StaysBeforeStart out x in
    subst P (sym is) h

-- a text that was written, or not
of_text : {O : Type 0} (out : Stream O) (writes : TextRelation) (source : List ℕ) (answer : Answer) →
    OrMemory (Unit {0}) (IsWritten out writes source) answer → OrMemory (Unit {0}) (IsBareWritten out writes source) answer
of_text out writes source (Faulty f) h = inl h
of_text out writes source Written h = h
of_text out writes source Unwritten h = h
of_text out writes source OutOfMemory h = tt
of_text out writes source _ h = absurd h

pub writes_bare : {O : Type 0} (out : Stream O) (writes : TextRelation) (source text : List ℕ) (answer : Answer) →
    writes source text → OrMemory (Unit {0}) (TakesText out text) answer → OrMemory (Unit {0}) (IsBareWritten out writes source) answer
writes_bare out writes source text answer b t = of_text out writes source answer (writes_text out writes source text answer b t)

pub by_bare : {H I O : Type 0} (shelf : Shelved H) (s : Streams I O) (writes : TextRelation) (a : Asked) (answer : Answer) →
    Stays s.input → StaysBeforeStart s.out answer → OrMemory (Unit {0}) (OfFile shelf a.file 262145 (IsBareWritten s.out writes)) answer →
    OrMemory (Untouched s) (ByBare writes shelf s a) answer
by_bare shelf s writes a OutOfMemory i o h = (i, o)
by_bare shelf s writes a answer i o h = (i, before_start s answer i o, h)

-- the text is the one that has the fault that is answered
pub gives_bare : {H O : Type 0} (shelf : Shelved H) (name : List ℕ) (out : Stream O) (writes : TextRelation) (text : List ℕ) (answer : Answer) →
    IsFilePrefix (shelf.files shelf.before) name 262145 text → OrMemory (Unit {0}) (IsBareWritten out writes text) answer → GivesText shelf name answer text
gives_bare shelf name out writes text (Faulty f) front h = (front, h)
gives_bare shelf name out writes text _ front h = tt

-- where no write failed
pub of_bare : {O : Type 0} (out : Stream O) (writes : TextRelation) (source : List ℕ) (answer : Answer) → (HasFailed out → ⊥) →
    ((text : List ℕ) → writes source text → IsSmallSource source) → IsBareWritten out writes source answer → IsFaultyOrDelayed source answer
of_bare out writes source (Faulty f) kept is h = h
of_bare out writes source Written kept is h = is h.written h.is_of
of_bare out writes source Unwritten kept is h = failed h.takes
  where
    failed : {text : List ℕ} → Takes out text Written Unwritten Unwritten → ⊥
    failed (nothing none same stays) = absurd (cc)
    failed (all some same a) = absurd (cc)
    failed (part same some f front) = kept f
of_bare out writes source _ kept is h = absurd h

-- what is said of texts, more weakly
pub bare_texts : {O : Type 0} (out : Stream O) (writes wider : TextRelation) →
    ((source written : List ℕ) → writes source written → wider source written) → (source : List ℕ) (answer : Answer) →
    IsBareWritten out writes source answer → IsBareWritten out wider source answer
bare_texts out writes wider more source (Faulty f) h = h
bare_texts out writes wider more source Written h = record { written = h.written; is_of = more source h.written h.is_of; takes = h.takes }
bare_texts out writes wider more source Unwritten h = record { written = h.written; is_of = more source h.written h.is_of; takes = h.takes }
bare_texts out writes wider more source _ h = absurd h
