-- Lists of trees, walked from the right: what has come of the later ones.
use Rattle.std.proofs.Common.{◌≡◌, ℕ, List, [], ◌∷◌, ◌++◌, refl, sym, ap, ◌∙◌, append_assoc, length, subst, arith}
use Rattle.std.proofs.lemmas.List.{append-nil}
use Rattle.tg_tree.specs.declared.trees.Tx.{Tx as CodeTx}
use Rattle.tg_tree.specs.declared.trees.Ts.{Ts as CodeTs}
use Rattle.tg_tree.specs.glue.Plain.{plain_tx, plain_ts}
use Rattle.tg_tree.specs.glue.Lists.{txs_of, stms_of}
use Rattle.tg_canon.specs.mirror.Drawing.{Draws, give, ◌>>=◌, DrawsFrom}
use Rattle.tg_canon.specs.mirror.Canon.{Part, Parts, no_parts, in_front, Hoisted, Arguments, no_arguments, word, argument, hoist, hoist_all, linear, linear_all}
use Rattle.tg_canon.proofs.Steps.{given, on, ends, same}

-- all are those that are left and then these, of which this was drawn
pub record Walked {Item Tree All : Type 0} (of : List Item → Tree) (draw : Tree → Draws All) (whole : List Item) (before : ℕ)
    (left : List Item) (all : All) (after : ℕ) : Type 0 where
  pub done : List Item
  pub parts : whole ≡ left ++ done
  pub gives : DrawsFrom (draw (of done)) before all after

-- none yet
pub begins : {Item Tree All : Type 0} {of : List Item → Tree} {draw : Tree → Draws All} (items : List Item) {k : ℕ} {all : All} →
    DrawsFrom (draw (of [])) k all k → Walked of draw items k items all k
begins items g = record { done = []; parts = sym (append-nil items); gives = g }

-- one more, the last one of those that were left
pub goes_on : {Item Tree All : Type 0} {of : List Item → Tree} {draw : Tree → Draws All} {whole old left : List Item} (x : Item) {k l n : ℕ} {all more : All} →
    (w : Walked of draw whole k old all l) → old ≡ left ++ x ∷ [] → DrawsFrom (draw (of (x ∷ w.done))) k more n → Walked of draw whole k left more n
goes_on {left = left} x w e g = record {
  done = x ∷ w.done;
  parts = w.parts ∙ (ap (λ xs. xs ++ w.done) e ∙ append_assoc left (x ∷ []) w.done);
  gives = g;
}

pub none_left : {Item : Type 0} (items : List Item) → length items ≡ 0 → items ≡ []
none_left [] e = refl
none_left (x ∷ xs) e = absurd (omega arith)

-- all
pub ends_with : {Item Tree All : Type 0} {of : List Item → Tree} {draw : Tree → Draws All} {whole left : List Item} {k l : ℕ} {all : All} →
    Walked of draw whole k left all l → left ≡ [] → DrawsFrom (draw (of whole)) k all l
ends_with {of = of} {draw = draw} {k = k} {l = l} {all = all} w e = subst (λ xs. DrawsFrom (draw (of xs)) k all l)
    (sym (w.parts ∙ ap (λ xs. xs ++ w.done) e)) w.gives

abbrev pub StatementsWalked : (out : ℕ → ℕ) → (whole : List CodeTs) → (before : ℕ) → (left : List CodeTs) → Parts → (after : ℕ) → Type 0
StatementsWalked out whole k left all l = Walked stms_of (linear_all out) whole k left all l

abbrev pub ArgumentsWalked : (out : ℕ → ℕ) → (whole : List CodeTx) → (before : ℕ) → (left : List CodeTx) → Arguments → (after : ℕ) → Type 0
ArgumentsWalked out whole k left all l = Walked txs_of (hoist_all out) whole k left all l

pub statements_begin : (out : ℕ → ℕ) (ss : List CodeTs) {k : ℕ} {all : Parts} → all ≡ no_parts → StatementsWalked out ss k ss all k
statements_begin out ss e = begins ss (same (given _ _) e)

pub statement_more : (out : ℕ → ℕ) {whole old left : List CodeTs} (s : CodeTs) {k l n : ℕ} {all more : Parts} {p : Part} →
    StatementsWalked out whole k old all l → old ≡ left ++ s ∷ [] → DrawsFrom (linear out (plain_ts s)) l p n →
    more ≡ in_front p all → StatementsWalked out whole k left more n
statement_more out s {all = all} w e g f = goes_on s w e (on (λ rest. linear out (plain_ts s) >>= λ p. give (in_front p rest))
    w.gives (ends (λ p. in_front p all) g f))

pub arguments_begin : (out : ℕ → ℕ) (xs : List CodeTx) {k : ℕ} {all : Arguments} → all ≡ no_arguments → ArgumentsWalked out xs k xs all k
arguments_begin out xs e = begins xs (same (given _ _) e)

pub argument_more : (out : ℕ → ℕ) {whole old left : List CodeTx} (x : CodeTx) {k l m n : ℕ} {all more : Arguments} {a : Hoisted} →
    ArgumentsWalked out whole k old all l → old ≡ left ++ x ∷ [] → DrawsFrom (word (hoist out (plain_tx x))) l a m →
    DrawsFrom (argument a all) m more n → ArgumentsWalked out whole k left more n
argument_more out x {all = all} w e g h =
    goes_on x w e (on (λ rest. word (hoist out (plain_tx x)) >>= λ a. argument a rest) w.gives (on (λ a. argument a all) g h))
