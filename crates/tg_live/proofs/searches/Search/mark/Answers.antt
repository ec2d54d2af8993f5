use Rattle.std.proofs.Common.{length, ap, arith}
use Rattle.tg_live.specs.mirror.Search.{Found, stamp_at}
use Rattle.tg_live.proofs.searches.Search.mark.Goals as goal

pub loop-at-init : goal.loop-at-init
loop-at-init c = record {
  size = ap (λ (h : Found). length h.marks) c.self.view_is;
  inner = λ q a b. absurd (omega (arith, a, b));
  outer = λ q o. ap (λ (h : Found). stamp_at h.marks q) c.self.view_is;
  firsts = ap (λ (h : Found). h.firsts) c.self.view_is;
  lasts = ap (λ (h : Found). h.lasts) c.self.view_is;
}
