-- Lines of the elements of a list from one on.
use Rattle.std.proofs.Common.{ℕ, suc, ◌+◌, ◌<◌, ◌≡◌, List, ◌∷◌, ◌++◌, length, get_or, drop, drop-cons, add-one, sym, ap, ◌∙◌, append_assoc}
use Rattle.tg_trace_schedule.specs.declared.flows.Block.{Block}
use Rattle.tg_trace_schedule.specs.glue.Plains.{plain_block, plain_blocks}
use Rattle.tg_instr.specs.declared.operands.Opnd.{Opnd}
use Rattle.tg_instr.specs.declared.instr.Instr.{Instr}
use Rattle.tg_live.specs.Live.{Sets, set_at}
use Rattle.tg_live.specs.glue.LiveChanges.{set_before}
use Rattle.tg_show.specs.Blocks.{block_lines, blocks_lines}
use Rattle.tg_show.specs.Live.{live_line, live_lines}

first_and_rest : {A : Type 0} (list : List A) (at : ℕ) (one : A) → at < length list → one ≡ get_or list at one → drop at list ≡ one ∷ drop (suc at) list
first_and_rest {A} list at one h is = drop-cons list at one h ∙ ap (λ (x : A). x ∷ drop (suc at) list) (sym is)

pub blocks_step : (names : List (List ℕ)) (at : ℕ) (list : List Block) (one : Block) (t u v : List ℕ) →
    at < length list → one ≡ get_or list at one → t ≡ u ++ blocks_lines names at (plain_blocks (drop at list)) →
    v ≡ u ++ block_lines names at (plain_block one) → t ≡ v ++ blocks_lines names (at + 1) (plain_blocks (drop (at + 1) list))
blocks_step names at list one t u v h is before now =
    let rest = blocks_lines names (suc at) (plain_blocks (drop (suc at) list)) in
    rw add-one
    (before ∙ ap (λ xs. u ++ blocks_lines names at (plain_blocks xs)) (first_and_rest list at one h is)
    ∙ sym (append_assoc u (block_lines names at (plain_block one)) rest) ∙ ap (λ x. x ++ rest) (sym now))

pub live_step : (names : List (List ℕ)) (sets : Sets) (at : ℕ) (list : List Instr) (one : Instr) (before now : List Opnd) (t u v : List ℕ) →
    at < length list → one ≡ get_or list at one → now ≡ set_at sets at →
    t ≡ u ++ live_lines names sets before at (drop at list) → v ≡ u ++ live_line names before now one →
    t ≡ v ++ live_lines names sets now (at + 1) (drop (at + 1) list)
live_step names sets at list one before now t u v h is here so_far told =
    let rest = λ (set : List Opnd). live_lines names sets set (suc at) (drop (suc at) list) in
    rw add-one
    (so_far ∙ ap (λ xs. u ++ live_lines names sets before at xs) (first_and_rest list at one h is)
    ∙ ap (λ set. u ++ (live_line names before set one ++ rest set)) (sym here)
    ∙ sym (append_assoc u (live_line names before now one) (rest now)) ∙ ap (λ x. x ++ rest now) (sym told))

pub set_next : (sets : Sets) (at : ℕ) (now : List Opnd) → now ≡ set_at sets at → now ≡ set_before sets (at + 1)
set_next sets at now here = rw add-one here
