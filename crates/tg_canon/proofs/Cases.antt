-- What a tree of the code draws, by what it is.
use Rattle.std.proofs.Common.{◌≡◌, ℕ, Bool, Result, Ok, Err, IfOk, sym, ap, subst, ◌∙◌}
use Rattle.tg_tree.specs.declared.trees.Tx.{Tx as CodeTx, Call}
use Rattle.tg_tree.specs.declared.trees.Ts.{Ts as CodeTs}
use Rattle.tg_tree.specs.declared.trees.Cond.{Cond as CodeCond}
use Rattle.tg_tree.specs.declared.trees.Txs.{Txs as CodeTxs}
use Rattle.tg_base.specs.declared.ids.Label.{Label}
use Rattle.tg_tree.specs.Tree.{Ts}
use Rattle.tg_tree.specs.Tree as tree
use Rattle.tg_tree.specs.glue.Lists.{txs_of}
use Rattle.tg_tree.proofs.ListLaws.{plain_tx-Call}
use Rattle.tg_tree.specs.glue.Plain.{plain_tx, plain_cond, plain_ts}
use Rattle.tg_canon.specs.mirror.Drawing.{Draws, DrawsFrom}
use Rattle.tg_canon.specs.mirror.Canon.{Part, Hoisted, Tested, word, hoist, condition, leave, linear}

-- what equal trees draw
alike : {A Tree : Type 0} (draw : Tree → Draws A) {s t : Tree} {k l : ℕ} {a : A} → s ≡ t → DrawsFrom (draw t) k a l → DrawsFrom (draw s) k a l
alike draw {k = k} e g = record { is = ap (λ t. draw t k) e ∙ g.is }

pub hoists_as : (out : ℕ → ℕ) {x y : CodeTx} {k l : ℕ} {a : Hoisted} → x ≡ y → DrawsFrom (hoist out (plain_tx y)) k a l →
    DrawsFrom (hoist out (plain_tx x)) k a l
hoists_as out e g = alike (λ x. hoist out (plain_tx x)) e g

pub word_as : (out : ℕ → ℕ) {x y : CodeTx} {k l : ℕ} {a : Hoisted} → x ≡ y → DrawsFrom (word (hoist out (plain_tx y))) k a l →
    DrawsFrom (word (hoist out (plain_tx x))) k a l
word_as out e g = alike (λ x. word (hoist out (plain_tx x))) e g

pub tests_as : (out : ℕ → ℕ) {c d : CodeCond} {k l : ℕ} {t : Tested} → c ≡ d → DrawsFrom (condition out (plain_cond d)) k t l →
    DrawsFrom (condition out (plain_cond c)) k t l
tests_as out e g = alike (λ c. condition out (plain_cond c)) e g

pub leaves_as : (out : ℕ → ℕ) (w : Bool) (n : ℕ) {c d : CodeCond} {k l : ℕ} {p : Part} → c ≡ d →
    DrawsFrom (leave out w n (plain_cond d)) k p l → DrawsFrom (leave out w n (plain_cond c)) k p l
leaves_as out w n e g = alike (λ c. leave out w n (plain_cond c)) e g

pub goes_as : (out : ℕ → ℕ) {s t : CodeTs} {k l : ℕ} {p : Part} → s ≡ t → DrawsFrom (linear out (plain_ts t)) k p l → DrawsFrom (linear out (plain_ts s)) k p l
goes_as out e g = alike (λ s. linear out (plain_ts s)) e g

-- by what its parts are
pub opened_as : (out : ℕ → ℕ) {s t : Ts} {k l : ℕ} {p : Part} → t ≡ s → DrawsFrom (linear out t) k p l → DrawsFrom (linear out s) k p l
opened_as out {k = k} e g = record { is = ap (λ s. linear out s k) (sym e) ∙ g.is }

-- a call
pub call_as : (out : ℕ → ℕ) {x : CodeTx} (label : Label) (xs : CodeTxs) {k l : ℕ} {a : Hoisted} → x ≡ Call label xs →
    DrawsFrom (hoist out (tree.Call label.0 (txs_of xs.items.items))) k a l → DrawsFrom (hoist out (plain_tx x)) k a l
call_as out label xs {k = k} e g = record { is = ap (λ x. hoist out x k) (ap plain_tx e ∙ plain_tx-Call label xs) ∙ g.is }

-- what is said of a call's answer, where there is one: of what is made of it, and of the answer
pub if_ok : {A E : Type 0} {P Q : A → Type 0} (r : Result A E) → IfOk r P → ((a : A) → P a → Q a) → IfOk r Q
if_ok (Ok a) p f = f a p
if_ok (Err e) p f = p

pub at_ok : {A E : Type 0} (P : A → Type 0) {r : Result A E} {a : A} → r ≡ Ok a → IfOk r P → P a
at_ok P e p = subst (λ r. IfOk r P) e p
