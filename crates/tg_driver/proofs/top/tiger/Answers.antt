use Rattle.std.proofs.Common.{ap}
use Rattle.tg_driver.specs.Compiled.{texts_compiled}
use Rattle.tg_driver.specs.Modes.{texts_meant}
use Rattle.tg_driver.proofs.Watched.{answers_by, due_as_meant, told_due}
use Rattle.tg_driver.proofs.top.tiger.Goals as goal

pub report-requires : goal.report-requires
report-requires g c =
    let t = told_due (λ b. (goal.Watcher-dyn g (b.vtable, b.value)).stands b.value) (λ b. (goal.Watcher-dyn g (b.vtable, b.value)).report b.value) c.answer_words-answer.new.watchers.items _ _
    c.args.tools.watchers.items _ _ c.answer_words-answer.result c.answer_words-answer.ensures.unwatched c.answer_words-answer.ensures.due in
    (t.reports, rw c.deref.ensures.value t.tell)

pub returns-clause-answers : goal.returns-clause-answers
returns-clause-answers g c =
    let t = told_due (λ b. (goal.Watcher-dyn g (b.vtable, b.value)).stands b.value) (λ b. (goal.Watcher-dyn g (b.vtable, b.value)).report b.value) c.answer_words-answer.new.watchers.items _ _
    c.args.tools.watchers.items _ _ c.answer_words-answer.result c.answer_words-answer.ensures.unwatched c.answer_words-answer.ensures.due in
    answers_by texts_meant _ _ _ t.reports _ _ (ap (λ p. (goal.SpillPolicy-dyn g p).rule p.1) c.deref_box_mut-1.ensures.value.1)
    (due_as_meant c.build_is_correct.ensures c.bare_is_as_meant.ensures _ _ _ _ _ _ t.due) t.before_end t.unasked c.answer_words-answer.ensures.explained (rw c.told.ensures at c.report.ensures.reports t.reports (rw c.deref.ensures.value t.tell))

pub returns-clause-compiled : goal.returns-clause-compiled
returns-clause-compiled g c =
    let t = told_due (λ b. (goal.Watcher-dyn g (b.vtable, b.value)).stands b.value) (λ b. (goal.Watcher-dyn g (b.vtable, b.value)).report b.value) c.answer_words-answer.new.watchers.items _ _
    c.args.tools.watchers.items _ _ c.answer_words-answer.result c.answer_words-answer.ensures.unwatched c.answer_words-answer.ensures.due in
    answers_by texts_compiled _ _ _ t.reports _ _ (ap (λ p. (goal.SpillPolicy-dyn g p).rule p.1) c.deref_box_mut-1.ensures.value.1)
    t.due t.before_end t.unasked c.answer_words-answer.ensures.explained (rw c.told.ensures at c.report.ensures.reports t.reports (rw c.deref.ensures.value t.tell))
