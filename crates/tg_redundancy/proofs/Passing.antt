-- The whole walk, an instruction at a time.
use Rattle.std.proofs.Common.{ℕ, ◌≡◌, ◌+◌, ◌<◌, List, [], ◌∷◌, ◌++◌, length, get_or, drop, Bool, refl, sym, ap, ◌∙◌, append_assoc, append-nil}
use Rattle.std.proofs.lemmas.List.{at_drop_more}
use Rattle.tg_instr.specs.declared.instr.Instr.{Instr}
use Rattle.tg_instr.specs.Shapes.{shape}
use Rattle.tg_redundancy.specs.declared.walks.Walk.{Walk}
use Rattle.tg_redundancy.specs.mirror.Known.{State, Step, comes_back, known_blocks, joined, most_facts}
use Rattle.tg_redundancy.specs.glue.Walks.{state_of, HasStepped, stepped}

pub blocks_more : (code : List Instr) (at : ℕ) (one : Instr) (flag : Bool) (before after : List Instr) (state : State) (walk : Walk) → at < length code →
    one ≡ get_or code at one → flag ≡ comes_back (drop (at + 1) code) (shape one) → HasStepped walk before after (stepped flag one state) →
    after ++ joined (known_blocks most_facts (drop (at + 1) code) (state_of walk)) ≡ before ++ joined (known_blocks most_facts (drop at code) state)
blocks_more code at one flag before after state walk below is is_flag step =
    let rest : List Instr = drop (at + 1) code in
    let next : Step = stepped flag one state in
    ap (λ s. after ++ joined (known_blocks most_facts rest s)) step.state
    ∙ (ap (λ list. list ++ joined (known_blocks most_facts rest next.state)) step.list
    ∙ (append_assoc before next.block (joined (known_blocks most_facts rest next.state))
    ∙ (ap (λ b. before ++ ((stepped b one state).block ++ joined (known_blocks most_facts rest (stepped b one state).state))) is_flag
    ∙ (ap (λ i. before ++ joined (known_blocks most_facts (i ∷ rest) state)) is
    ∙ sym (at_drop_more (λ list. before ++ joined (known_blocks most_facts list state)) code at one below)))))
