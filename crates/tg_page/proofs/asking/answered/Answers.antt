use Rattle.std.proofs.Common.{rules, ℕ, List, ◌≡◌, ◌∙◌, ap, length, map, string_bytes, subst, sym}
use Rattle.tg_base.specs.InMemory.{empty_room}
use Rattle.tg_asked.specs.Asked.{IsAsked, Objects}
use Rattle.tg_page.specs.Answers.{AreWords, IsAnswered, begun}
use Rattle.tg_page.specs.Buffers.{IsPut}
use Rattle.tg_page.proofs.asking.answered.Goals as goal

made : (line text input out out' err err' : List ℕ) (words words' : List (List ℕ)) (before after : Objects) (status status' written told : ℕ) →
    AreWords line words → words' ≡ words → before ≡ begun text input out err → IsAsked words' before after status →
    status' ≡ status → IsPut after.out.taken out out' written →
    IsPut after.err.taken err err' told → IsAnswered line text input out out' err err' (record { status = status'; out = written; err = told })
made line text input out out' err err' words words' before after status status' written told are same is asked equal put put' =
    let P : List (List ℕ) → Type 0 = λ ws. IsAsked ws before after status in
    let Q : Objects → Type 0 = λ b. IsAsked words b after status in
    let R : ℕ → Type 0 = λ s. IsAsked words (begun text input out err) after s in
    record {
      words = words;
      after = after;
      are_words = are;
      asked = subst R (sym equal) (subst Q is (subst P same asked));
      out_put = put;
      err_put = put';
    }

pub returns-clause-answered : goal.returns-clause-answered
returns-clause-answered c =
    let same : c.in_ok-to_vec.field-0.items ≡ c.args.input.now = c.in_ok-to_vec.ensures.items_if_clones_equal (λ y h. search rules) in
    let source = c.new-source.ensures ∙ (λ i. record { left = same i; calls = 0 }) in
    let out = c.in_ok-out.ensures ∙ ap (empty_room (length c.args.into_out.now)) c.new.ensures.items in
    let err = c.in_ok-err.ensures ∙ ap (empty_room (length c.args.into_err.now)) c.new-3.ensures.items in
    let P : List ℕ → Type 0 = λ b. IsPut b c.args.into_out.now c.put.new.into c.put.result in
    let Q : List ℕ → Type 0 = λ b. IsPut b c.args.into_err.now c.put-2.new.into c.put-2.result in
    made _ _ _ _ _ _ _ _ _ _ _ _ _ _ _ c.in_ok-words.ensures (ap (map string_bytes) c.deref.ensures.value)
    (λ i. record { files = c.in_ok-shelf.ensures i; input = source i; out = out i; err = err i }) c.in_ok-status.ensures c.from.ensures
    (subst P c.taken.ensures c.put.ensures) (subst Q c.taken-2.ensures c.put-2.ensures)
