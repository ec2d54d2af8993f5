use denote.Param.Object.{read_made}
use Rattle.std.proofs.Common.{ℕ, List, [], ◌∷◌, ◌++◌, ◌≡◌, ◌∙◌, ap, inl, inr, refl, subst, map}
use Rattle.tg_irc_definition.specs.Policies.{Rule, least_use}
use Rattle.tg_profiler.specs.Watching.{Report}
use Rattle.tg_driver.specs.Answered.{Answers}
use Rattle.tg_driver.specs.Compiled.{AnswersCompiled}
use Rattle.tg_asked.specs.Asked.{IsAsked, Objects, call_by, reports}
use Rattle.tg_asked.proofs.ask.Goals as goal
use Rattle.tg_asked.proofs.ask.OwnLists.{own-1, own-2}

-- what the top call answers by the rule of `LeastUse` and with these reports
by_rule : (rule : Rule) (reporters : List Report) (words : List (List ℕ)) (before after : Objects) (status : ℕ) → rule ≡ least_use → reporters ≡ reports →
    Answers (call_by rule reporters words before after) status → AnswersCompiled (call_by rule reporters words before after) status →
    IsAsked words before after status
by_rule rule reporters words before after status is are a b =
    let P : Rule → Type 0 = λ r. Answers (call_by r reporters words before after) status in
    let Q : List Report → Type 0 = λ rs. Answers (call_by least_use rs words before after) status in
    let R : Rule → Type 0 = λ r. AnswersCompiled (call_by r reporters words before after) status in
    let S : List Report → Type 0 = λ rs. AnswersCompiled (call_by least_use rs words before after) status in
    record { answers = subst Q are (subst P is a); compiled = subst S are (subst R is b) }

-- three that were pushed in turn, and what each is read as
pushed : {A B : Type 0} (f : A → B) (a b c : A) (w x y z : List A) (p q r : B) → w ≡ [] → x ≡ w ++ a ∷ [] → y ≡ x ++ b ∷ [] → z ≡ y ++ c ∷ [] →
    f a ≡ p → f b ≡ q → f c ≡ r → map f z ≡ p ∷ q ∷ r ∷ []
pushed f a b c w x y z p q r none first second third fa fb fc =
    ap (map f) (third ∙ ap (λ l. l ++ c ∷ []) (second ∙ ap (λ l. l ++ b ∷ []) (first ∙ ap (λ l. l ++ a ∷ []) none)))
    ∙ (λ i. fa i ∷ fb i ∷ fc i ∷ [])

-- each box is one of the table of what is boxed here for its trait, made of what was put into it
pub returns : goal.returns
returns c =
    let is = read_made own-2 (own-2.entry (inl tt)) _ refl _ (λ entry policy. entry.1.rule policy) _ _ _ c.into_dyn_box-2.ensures.1 in
    let profile = read_made own-1 (own-1.entry (inl tt)) _ refl _ (λ entry watcher. entry.1.report watcher) _ _ _ c.into_dyn_box.ensures.1 in
    let coverage = read_made own-1 (own-1.entry (inr (inl tt))) _ refl _ (λ entry watcher. entry.1.report watcher) _ _ _ c.into_dyn_box-in_ok-new-2.ensures.1 in
    let trace = read_made own-1 (own-1.entry (inr (inr (inl tt)))) _ refl _ (λ entry watcher. entry.1.report watcher) _ _ _
    c.into_dyn_box-in_ok-new-3.ensures.1 in
    let are = pushed _ _ _ _ _ _ _ _ _ _ _ c.new-watchers.ensures.items c.in_ok-push.ensures.items
    c.in_ok-push-2.ensures.items c.in_ok-push-3.ensures.items profile coverage trace in
    by_rule _ _ _ _ _ _ is are c.tiger.ensures.answers c.tiger.ensures.compiled
