use Rattle.std.proofs.Common.{◌≡◌, ◌≤◌, ◌<◌, ◌+◌, ◌-◌, ◌%◌, ◌∙◌, sym, arith, length, Some, ap}
use Rattle.tg_profiler.proofs.LastFetches.{line_at}
use Rattle.tg_profiler.proofs.tracing.TraceWatcher.line.Goals as goal

pub returns-clause-line : goal.returns-clause-line
returns-clause-line c = λ s code stood.
    let below : c.args.at < c.args.self.now.count = omega (arith, c.if-from-min.false, c.min.ensures, c.from.ensures) in
    let few : c.args.at < 16 = omega (arith, c.if-from-min.false, c.min.ensures, c.from.ensures) in
    let number : (c.saturating_sub.result + c.from-2.result) % 16 ≡ (c.args.self.now.count - 16 + c.args.at) % 16 =
    ap (λ n. n % 16) (omega (arith, c.saturating_sub.ensures, c.from-2.ensures)) in
    let within : c.put_seen.result ≤ length c.put_seen.new.into = omega (arith, c.put_seen.ensures.size, c.put_seen.array_long) in
    (line_at _ _ s code c.args.at _ _ stood below few number ∙ ap Some (sym c.put_seen.ensures.line), within)
