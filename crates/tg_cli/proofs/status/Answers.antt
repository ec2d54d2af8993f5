use Rattle.std.proofs.Common.{ℕ, ◌≡◌, ◌⊎◌, inl, inr, subst}
use Rattle.tg_cli.specs.Ends.{EndsWith, IsAnswered, IsStatus, answered, no_memory, not_text}
use Rattle.tg_cli.proofs.status.Goals as goal

either : (before after status : ℕ) → before ≡ 0 → EndsWith 70 before after status ⊎ EndsWith 64 before after status → IsStatus status
either before after status e (inl h) = let P : ℕ → Type 0 = λ n. EndsWith 70 n after status in no_memory after (subst P e h)
either before after status e (inr h) = let P : ℕ → Type 0 = λ n. EndsWith 64 n after status in not_text after (subst P e h)

then : (after before : ℕ) → after ≡ before → before ≡ 0 → after ≡ 0
then after before h e = subst (λ n. after ≡ n) e h

asked : (before after status : ℕ) → before ≡ 0 → IsAnswered before after status → IsStatus status
asked before after status e h = answered after (subst (λ n. IsAnswered n after status) e h)

pub returns-in-Err : goal.returns-in-Err
returns-in-Err c = either _ _ _ c.new-err.ensures c.without_words.ensures.either

pub returns-in_default : goal.returns-in_default
returns-in_default c = either _ _ _ c.new-err.ensures (inl c.refusal.ensures.status)

pub returns-in_default-ask : goal.returns-in_default-ask
returns-in_default-ask c = either _ _ _ (then _ _ c.in_default-ask.ensures c.new-err.ensures) (inl c.refusal-in_default-ask.ensures.status)

pub returns : goal.returns
returns c = asked _ _ _ c.new-err.ensures c.in-Ok-ask.ensures
