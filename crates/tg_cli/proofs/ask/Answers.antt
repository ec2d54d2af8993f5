use denote.Param.Object.{read_made}
use Rattle.std.proofs.Common.{ℕ, List, None, ◌≡◌, inl, refl, subst}
use Rattle.tg_irc_definition.specs.Policies.{Rule, least_use}
use Rattle.tg_profiler.specs.Watching.{Report}
use Rattle.tg_driver.specs.Calls.{shelf_of, call_of}
use Rattle.tg_driver.specs.Answered.{Answers}
use Rattle.tg_cli.specs.Ends.{untold, AnswersWords, IsAnswered}
use Rattle.tg_cli.proofs.ask.Goals as goal
use Rattle.tg_cli.proofs.ask.OwnLists.{own-2}

called : (reporters : List Report) (words : List (List ℕ)) (files reads writes errors files' reads' writes' errors' status : ℕ) → files ≡ 0 →
    reads ≡ 0 → writes ≡ 0 → AnswersWords reporters words files reads writes errors files' reads' writes' errors' status →
    IsAnswered errors errors' status
called reporters words files reads writes errors files' reads' writes' errors' status f r w h =
    let P : ℕ → ℕ → ℕ → Type 0 = λ a b c. AnswersWords reporters words a b c errors files' reads' writes' errors' status in
    let from_files = subst (λ a. P a reads writes) f h in
    let from_reads = subst (λ a. P 0 a writes) r from_files in
    record {
      reporters = reporters;
      words = words;
      files = files';
      reads = reads';
      writes = writes';
      answers = subst (λ a. P 0 0 a) w from_reads;
    }

-- what the top call answers by the rule of `LeastUse`
by_rule : (rule : Rule) (reporters : List Report) (words : List (List ℕ)) (files reads writes errors files' reads' writes' errors' status : ℕ) → rule ≡ least_use
    → Answers (call_of rule reporters words (shelf_of (λ s. None) (λ s name. s) files files') (untold reads reads') (untold writes writes') (untold errors errors'))
    status
    → AnswersWords reporters words files reads writes errors files' reads' writes' errors' status
by_rule rule reporters words files reads writes errors files' reads' writes' errors' status is h =
    let P : Rule → Type 0 = λ r. Answers (call_of r reporters words (shelf_of (λ s. None) (λ s name. s) files files') (untold reads reads') (untold writes writes') (untold errors errors')) status in
    subst P is h

-- the box is one of the table of the policies that are boxed here, made of a `LeastUse`
pub returns : goal.returns
returns g c =
    let is = read_made own-2 (own-2.entry (inl tt)) _ refl _ (λ entry policy. entry.1.rule policy) _ _ _ c.into_dyn_box-2.ensures.1 in
    called _ _ _ _ _ _ _ _ _ _ _ c.new-shelf.ensures c.new-input.ensures c.new-out.ensures
    (by_rule _ _ _ _ _ _ _ _ _ _ _ _ is c.tiger.ensures.answers)
