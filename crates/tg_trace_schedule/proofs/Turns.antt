-- A loop that is cut step by step.
use Rattle.std.proofs.Common.{◌≡◌, ℕ, ◌-◌, List, [], ◌∷◌, ◌++◌, length, take, ap, ◌∙◌, arith, length-append}
use Rattle.std.proofs.lemmas.List.{take-append-le}
use Rattle.tg_tree.specs.Tree.{Ts, Loop}
use Rattle.tg_trace_schedule.specs.Block.{Jump}
use Rattle.tg_trace_schedule.specs.mirror.Cutting.{CutBlocks, open_at, draw, next_mark, seal, head, cut}
use Rattle.tg_trace_schedule.proofs.Rests.{take_all}

pub turned_is :
    (exits : List ℕ) (s : Ts) (c c1 c2 c3 c4 c5 : CutBlocks) (exit mark : ℕ) →
    exit ≡ next_mark c → c1 ≡ seal c → mark ≡ length c1.places → c2 ≡ draw 0 c1 → c3 ≡ open_at (Jump mark) c2 → c4 ≡ cut
    (exits ++ exit ∷ []) s c3 → c5 ≡ head mark c4 →
    c5 ≡ cut exits (Loop s) c
turned_is exits s c c1 c2 c3 c4 c5 exit mark exit_is sealed mark_is drawn opened turned headed =
    let d = draw 0 (seal c) in
    let m = length (seal c).places in
    headed ∙
    (ap (head mark) (turned ∙ ap (cut (exits ++ exit ∷ []) s) (opened ∙ ap (open_at (Jump mark)) (drawn ∙ ap (draw 0) sealed))) ∙
    (ap (λ k. head k (cut (exits ++ exit ∷ []) s (open_at (Jump k) d))) (mark_is ∙ ap (λ x. length x.places) sealed) ∙
    ap (λ k. head m (cut (exits ++ k ∷ []) s (open_at (Jump m) d))) exit_is))

-- a list without its last
pub popped : (n : ℕ) (new old xs : List ℕ) (x : ℕ) → new ≡ take (n - 1) old → n ≡ length old → old ≡ xs ++ x ∷ [] → new ≡ xs
popped n new old xs x taken count whole =
    let e : n - 1 ≡ length xs = omega (arith, ap length whole, length-append xs (x ∷ [])) in
    taken ∙ (ap (take (n - 1)) whole ∙ (take-append-le (n - 1) xs (x ∷ []) (omega arith) ∙ take_all (n - 1) xs (omega arith)))
