use Rattle.std.proofs.Common.{rules, ◌≡◌, ◌≤◌, ◌∙◌, ap, sym, length, arith, Some, slice_index}
use Rattle.tg_profiler.specs.Reports.{count_line}
use Rattle.tg_profiler.proofs.RowCounts.{few_lines_of_report, first_line, later_line, no_line}
use Rattle.tg_profiler.proofs.profiling.ProfileWatcher.line.Goals as goal

pub returns-then-at-eq0-clause-line : goal.returns-then-at-eq0-clause-line
returns-then-at-eq0-clause-line c = λ s code stood.
    let within : c.put_count.result ≤ length c.put_count.new.into = omega (arith, c.put_count.ensures.size, c.put_count.array_long) in
    (first_line _ _ s code c.args.at stood c.if-at-eq0.true ∙ ap Some (sym c.put_count.ensures.line), within)

pub returns-then-at-eq0-clause-few : goal.returns-then-at-eq0-clause-few
returns-then-at-eq0-clause-few c = λ s code stood. few_lines_of_report s code

pub returns-in-Some-clause-line : goal.returns-in-Some-clause-line
returns-in-Some-clause-line c = λ s code stood.
    let size : length c.args.self.now.counts ≡ 43 = search rules in
    let within : c.put_count-in-Some.result ≤ length c.put_count-in-Some.new.into = omega (arith, c.put_count-in-Some.ensures.size, c.put_count-in-Some.array_long) in (
      later_line _ _ s code c.args.at c.in-Some.number stood size c.if-at-eq0.false c.in-Some.ensures
          ∙ ap (λ l. Some (count_line l (slice_index c.args.self.now.counts c.in-Some.number))) (sym c.row_name.ensures.name)
          ∙ ap Some (sym c.put_count-in-Some.ensures.line),
      within,
    )

pub returns-in-Some-clause-few : goal.returns-in-Some-clause-few
returns-in-Some-clause-few c = λ s code stood. few_lines_of_report s code

pub returns-in-None-clause-line : goal.returns-in-None-clause-line
returns-in-None-clause-line c = λ s code stood.
    let size : length c.args.self.now.counts ≡ 43 = search rules in
    no_line _ _ s code c.args.at stood size c.if-at-eq0.false c.in-None.ensures

pub returns-in-None-clause-few : goal.returns-in-None-clause-few
returns-in-None-clause-few c = λ s code stood. few_lines_of_report s code
