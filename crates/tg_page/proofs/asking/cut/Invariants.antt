use Rattle.std.proofs.Common.{◌≡◌, List, ℕ, take, map, string_bytes, Bor}
use Rattle.tg_page.proofs.asking.cut.Given as goal

abbrev pub invariant-loop-part : goal.invariant-loop-part
invariant-loop-part l = map string_bytes l.words.items ≡ map (λ (x : Bor (List ℕ)). x.now) (take l.part-index l.part-items)
