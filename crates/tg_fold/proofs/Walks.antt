-- Lists of trees that change in place, from the first on: what has come of the earlier ones, and what is to come of the others.
use Rattle.std.proofs.Common.{◌≡◌, ℕ, ◌+◌, ◌<◌, ◌≤◌, List, [], ◌∷◌, ◌++◌, length, take, drop, set, get_or, sym, ap, ◌∙◌, arith, take_all, drop-set-lt}
use Rattle.std.specs.Prelude.{Option}
use Rattle.std.proofs.lemmas.List.{take_more_set, drop_more, drop_all}
use Rattle.tg_base.specs.declared.ids.Label.{Label}
use Rattle.tg_tree.specs.declared.trees.Txs.{Txs as Values}
use Rattle.tg_tree.specs.declared.trees.Tx.{Tx as CodeTx, Call}
use Rattle.tg_tree.specs.Tree as tree
use Rattle.tg_tree.specs.declared.trees.Ts.{Ts as CodeTs}
use Rattle.tg_tree.specs.Tree.{Ts, Txs, no_txs, tx, Stms, no_stms, stm}
use Rattle.tg_tree.specs.glue.Plain.{plain_tx, plain_ts}
use Rattle.tg_tree.specs.glue.Lists.{txs_of, stms_of, join_txs, join_stms}
use Rattle.tg_tree.proofs.ListLaws.{plain_tx-Call, txs_of-push, stms_of-push, join_txs-assoc, join_stms-assoc, join_txs-none, join_stms-none}
use Rattle.tg_fold.specs.Copies.{copy}
use Rattle.tg_fold.specs.mirror.Folding.{folded, each_folded, passed, passed_on}

-- a list is its first items, one, and the others
rest_is : {Item : Type 0} (now : List Item) (i : ℕ) (x : Item) → i < length now → x ≡ get_or now i x → drop i now ≡ x ∷ drop (i + 1) now
rest_is now i x within e = drop_more now i x within ∙ ap (λ z. z ∷ drop (i + 1) now) (sym e)

others_stay : {Item : Type 0} (now : List Item) (i : ℕ) (y : Item) → drop (i + 1) (set now i y) ≡ drop (i + 1) now
others_stay now i y = drop-set-lt (i + 1) now i y (omega arith)

-- of so many values it has come, by f
pub record Valued (f : Txs → Txs) (whole : Txs) (now : List CodeTx) (i : ℕ) : Type 0 where
  pub is : join_txs (txs_of (take i now)) (f (txs_of (drop i now))) ≡ f whole

pub value_done :
    (f : Txs → Txs) {whole : Txs} (now : List CodeTx) (i : ℕ) (x y : CodeTx) →
    Valued f whole now i → i < length now → x ≡ get_or now i x →
    ((rest : Txs) → f (tx (plain_tx x) rest) ≡ tx (plain_tx y) (f rest)) →
    Valued f whole (set now i y) (i + 1)
value_done f now i x y v within e h =
    let others = txs_of (drop (i + 1) now) in
    let done = txs_of (take i now) in
    record {
      is =
          ap (λ xs. join_txs (txs_of xs) (f (txs_of (drop (i + 1) (set now i y))))) (take_more_set now i y within) ∙
          (ap (λ xs. join_txs (txs_of (take i now ++ y ∷ [])) (f (txs_of xs))) (others_stay now i y) ∙
          (ap (λ xs. join_txs xs (f others)) (txs_of-push (take i now) y) ∙
          (join_txs-assoc done (tx (plain_tx y) no_txs) (f others) ∙
          (sym (ap (join_txs done) (h others)) ∙
          (sym (ap (λ xs. join_txs done (f (txs_of xs))) (rest_is now i x within e)) ∙ v.is)))));
    }

pub all_values : (f : Txs → Txs) {whole : Txs} (now : List CodeTx) (i : ℕ) → f no_txs ≡ no_txs → Valued f whole now i → length now ≤ i → txs_of now ≡ f whole
all_values f now i none v past =
    ap txs_of (sym (take_all i now past)) ∙
    (sym (join_txs-none (txs_of (take i now))) ∙
    (ap (join_txs (txs_of (take i now))) (sym (ap (λ xs. f (txs_of xs)) (drop_all i now past) ∙ none)) ∙ v.is))

-- of so many statements it has come, by f, which goes on from a state
pub record Stated {State : Type 0} (f : State → Stms → Stms) (all : Stms) (state : State) (now : List CodeTs) (i : ℕ) : Type 0 where
  pub is : join_stms (stms_of (take i now)) (f state (stms_of (drop i now))) ≡ all

pub statement_done :
    {State : Type 0} (f : State → Stms → Stms) {all : Stms} (before after : State) (now : List CodeTs) (i : ℕ) (x y : CodeTs) →
    Stated f all before now i → i < length now → x ≡ get_or now i x →
    ((rest : Stms) → f before (stm (plain_ts x) rest) ≡ stm (plain_ts y) (f after rest)) →
    Stated f all after (set now i y) (i + 1)
statement_done f before after now i x y v within e h =
    let others = stms_of (drop (i + 1) now) in
    let done = stms_of (take i now) in
    record {
      is =
          ap (λ xs. join_stms (stms_of xs) (f after (stms_of (drop (i + 1) (set now i y))))) (take_more_set now i y within) ∙
          (ap (λ xs. join_stms (stms_of (take i now ++ y ∷ [])) (f after (stms_of xs))) (others_stay now i y) ∙
          (ap (λ xs. join_stms xs (f after others)) (stms_of-push (take i now) y) ∙
          (join_stms-assoc done (stm (plain_ts y) no_stms) (f after others) ∙
          (sym (ap (join_stms done) (h others)) ∙
          (sym (ap (λ xs. join_stms done (f before (stms_of xs))) (rest_is now i x within e)) ∙ v.is)))));
    }

pub all_statements :
    {State : Type 0} (f : State → Stms → Stms) {all : Stms} (state : State) (now : List CodeTs) (i : ℕ) →
    f state no_stms ≡ no_stms → Stated f all state now i → length now ≤ i → stms_of now ≡ all
all_statements f state now i none v past =
    ap stms_of (sym (take_all i now past)) ∙
    (sym (join_stms-none (stms_of (take i now))) ∙
    (ap (join_stms (stms_of (take i now))) (sym (ap (λ xs. f state (stms_of xs)) (drop_all i now past) ∙ none)) ∙ v.is))

-- a call of the same function, with what has come of its arguments
pub call_is :
    (label before : Label) (values : Values) {args : Txs} →
    label ≡ before → txs_of values.items.items ≡ args →
    plain_tx (Call label values) ≡ tree.Call before.0 args
call_is label before values same is =
    plain_tx-Call label values ∙ (ap (λ (l : Label). tree.Call l.0 (txs_of values.items.items)) same ∙ ap (tree.Call before.0) is)

-- a statement that is folded and takes the copy before it, and what it copies then
pub passed_one :
    (before after : Option (ℕ × ℕ)) (s mid t : Ts) →
    mid ≡ folded s → t ≡ passed before mid → after ≡ copy t → (rest : Stms) →
    passed_on before (each_folded (stm s rest)) ≡ stm t (passed_on after (each_folded rest))
passed_one before after s mid t e1 e2 e3 rest =
    sym (ap (λ z. stm z (passed_on (copy z) (each_folded rest))) (e2 ∙ ap (passed before) e1)) ∙ ap (λ o. stm t (passed_on o (each_folded rest))) (sym e3)
