use Rattle.std.proofs.Common.{◌≡◌, ◌+◌, ◌-◌, ◌<◌, nat_eq, length, length-set, drop, sym, ap, ◌∙◌, arith}
use Rattle.std.specs.List.{list_any}
use Rattle.std.proofs.lemmas.List.{drop_all}
use Rattle.tg_redundancy.specs.mirror.Known.{has_way}
use Rattle.tg_redundancy.specs.glue.Walks.{flags}
use Rattle.tg_redundancy.proofs.WaysBehind.{ways_more, flags_more}
use Rattle.tg_redundancy.proofs.ways.marks_from_behind.Goals as goal

pub loop-at-init : goal.loop-at-init
loop-at-init c =
    let code = c.args.code.now in
    let none = drop_all (length code) code (omega arith) in
    let size : length c.in_ok-all.all.items ≡ length code = omega (arith, c.in_ok-all.ensures.len, c.in_ok-all.all.ok.0) in
    record {
      ways = λ m. ap (list_any (nat_eq m)) c.new-ways.ensures.empty ∙ sym (ap (has_way m) none);
      size = size;
      flags = drop_all (length code) c.in_ok-all.all.items (omega arith) ∙ sym (ap flags none);
    }

pub loop-at-preserved : goal.loop-at-preserved
loop-at-preserved c =
    let code = c.args.code.now in
    let at = c.loop-at.at - 1 in
    let next : at + 1 ≡ c.loop-at.at = omega (arith, c.loop-at-test.true) in
    let below : at < length code = omega (arith, c.loop-at-test.true, c.loop-at.auto.at) in
    let before = c.loop-at.invariant in
    record {
      ways = ways_more c.note_way.new.ways code at c.loop-at.at c.index-code-at-in-loop-at.result next below c.index-code-at-in-loop-at.is
          (c.in_ok-note_way.ensures (drop c.loop-at.at code) before.ways);
      size = length-set c.loop-at.all.items at c.is_led_to.result ∙ before.size;
      flags = flags_more code at c.loop-at.at c.index-code-at.result c.loop-at.all.items c.is_led_to.result next below before.size
          c.index-code-at.is before.flags (c.is_led_to.ensures (drop c.loop-at.at code) before.ways);
    }

pub returns : goal.returns
returns c =
    let done : c.loop-at.at ≡ 0 = omega (arith, c.loop-at-test.false) in
    ap (λ k. drop k c.loop-at.all.items) (sym done) ∙ (c.loop-at.invariant.flags ∙ ap (λ k. flags (drop k c.args.code.now)) done)
