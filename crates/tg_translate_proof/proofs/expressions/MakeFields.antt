-- The stores of a record's fields, one after another: zeros after the taken heap become the words of the fields.
use Rattle.std.proofs.Common.{◌≡◌, ℕ, zero, suc, ◌+◌, ◌*◌, ◌%◌, ◌^◌, ◌<◌, ◌≤◌, List, [], ◌∷◌, ◌++◌, length, Option, Some, Bool, true, false, refl, sym, ap, ◌∙◌, arith, subst}
use Rattle.std.specs.Prelude.{replicate}
use Rattle.std.proofs.lemmas.List.{length-append, append_assoc}
use Rattle.tg_machine_state.specs.State.{heap_base, most_bytes}
use Rattle.tg_simulation.specs.Runs.{Run}
use Rattle.tg_simulation.specs.Ran.{Ran}
use Rattle.tg_simulation.specs.Agreement.{Source}
use Rattle.tg_tree.specs.Tree.{Tx, Stms, no_stms, stm, Temp, Store}
use Rattle.tg_tree.specs.glue.Lists.{join_stms}
use Rattle.tg_tree.specs.Memory.{Memory, store}
use Rattle.tg_tree.specs.Shapes.{is_flat}
use Rattle.tg_tree.specs.Units.{Trees, hoisted_units}
use Rattle.tg_tree.specs.Actions.{World, Temps, Go, Next, with_word, with_memory}
use Rattle.tg_tree.proofs.ListLaws.{join_stms-none, join_stms-assoc}
use Rattle.tg_translate.specs.declared.operands.Operand.{Operand}
use Rattle.tg_translate.specs.declared.operands.Operand.TheVariants.{Number, Kept}
use Rattle.tg_translate.specs.mirror.Constructs.{operand, plus, store_field, store_fields}
use Rattle.tg_translate.specs.mirror.Wants.{followed}
use Rattle.tg_runtime_proof.proofs.Bytes.{word_bytes}
use Rattle.tg_runtime_proof.proofs.Memories.{blocked, store_in_block}
use Rattle.tg_translate_proof.specs.glue.Situations.{Program, Part, value_runs, statements_run}
use Rattle.tg_translate_proof.specs.glue.Shown.{FollowsHere}
use Rattle.tg_translate_proof.proofs.state.NewRecords.{words_block, record_block}
use Rattle.tg_translate_proof.proofs.expressions.Field.{plus_follows}
use Rattle.tg_translate_proof.proofs.invariant.Cases.{worked}
use Rattle.tg_translate_proof.proofs.invariant.Parts.{more}
use Rattle.tg_translate_proof.proofs.expressions.BinarySides.{hoisted_small}

-- the statements that store them
abbrev pub own_stores : (record_ field : ℕ) → List Operand → Stms
own_stores r k [] = no_stms
own_stores r k (x ∷ xs) = stm (store_field r k x) (own_stores r (suc k) xs)

pub stores_are : (before : Stms) (r k : ℕ) (xs : List Operand) → store_fields before r k xs ≡ join_stms before (own_stores r k xs)
stores_are before r k [] = sym (join_stms-none before)
stores_are before r k (x ∷ xs) =
    stores_are (followed before (store_field r k x)) r (suc k) xs ∙
    join_stms-assoc before (stm (store_field r k x) no_stms) (own_stores r (suc k) xs)

-- operands are these words
abbrev pub OperandHas : Operand → ℕ → Temps → Type 0
OperandHas (Number n) z t = n ≡ z
OperandHas (Kept i) z t = t i.0 ≡ Some z

abbrev pub OperandsHave : List Operand → List ℕ → Temps → Type 0
OperandsHave [] [] t = Unit {0}
OperandsHave (x ∷ xs) (u ∷ us) t = OperandHas x u t × OperandsHave xs us t
OperandsHave _ _ t = ⊥

abbrev pub with_heap : Memory → List ℕ → World → World
with_heap m block w = record w { memory = blocked block m }

module _ (P : Program) (p : Part) (n : ℕ) (c : Run Source) where
  operand_has : (o : Operand) (z q : ℕ) (go : Go ℕ) (w : World) (t : Temps) → OperandHas o z t → FollowsHere P q n c (go z w t) →
      FollowsHere P (q + 2) n c (value_runs P p (operand o) p.around go w t)
  operand_has (Number k) z q go w t is f =
      worked P q (q + 2) 2 n c (go k w t) (omega arith) (subst (λ o. FollowsHere P q n c (go o w t)) (sym is) f)
  operand_has (Kept i) z q go w t is f =
      worked P q (q + 2) 0 n c (with_word (t i.0) w (λ u. go u w t)) (omega arith)
      (subst (λ o. FollowsHere P q n c (with_word o w (λ u. go u w t))) (sym is) f)

  module _ (m : Memory) (few : length m.statics ≤ most_bytes) (even : length m.heap % 4 ≡ 0) (r : ℕ) (w : World) (t : Temps)
      (there : t r ≡ Some (heap_base + length m.heap)) (next : Next) (q z : ℕ) where
    pub stores_follow : (xs : List Operand) (us : List ℕ) (before : List ℕ) (k : ℕ) → length before ≡ 4 * k → OperandsHave xs us t →
        heap_base + length m.heap + 4 * (k + length us) < 2 ^ 32 →
        FollowsHere P q n c (next (with_heap m (before ++ record_block us z) w) t) →
        FollowsHere P (q + 12 * length us) n c
        (statements_run P p (own_stores r k xs) p.around next (with_heap m (before ++ replicate (4 * length us + z) 0) w) t)
    stores_follow [] [] before k long have room f =
        let none : 4 * 0 + z ≡ z = omega arith in
        let w1 : World = with_heap m (before ++ replicate (4 * 0 + z) 0) w in
        more P q (q + 12 * 0) n c (next w1 t) (omega arith)
        (subst (λ (j : ℕ). FollowsHere P q n c (next (with_heap m (before ++ replicate j 0) w) t)) (sym none) f)
    stores_follow [] (u ∷ us) before k long have room f = absurd have
    stores_follow (x ∷ xs) [] before k long have room f = absurd have
    stores_follow (x ∷ xs) (u ∷ us) before k long have room f =
        let a = heap_base + length m.heap in
        let left : ℕ = 4 * length us + z in
        let zeros : 4 * suc (length us) + z ≡ suc (suc (suc (suc left))) = omega arith in
        let small = hoisted_small (is_flat (operand x)) in
        let hoisted = hoisted_units Trees (is_flat (operand x)) in
        let grown_ = length-append before (word_bytes u) in
        let w1 : World = with_heap m (before ++ 0 ∷ 0 ∷ 0 ∷ 0 ∷ replicate left 0) w in
        let w2 : World = with_heap m (before ++ (word_bytes u ++ replicate left 0)) w in
        let rest : Next = λ w3 t3. statements_run P p (own_stores r (suc k) xs) p.around next w3 t3 in
        let stored : store w1.memory (a + 4 * k) u ≡ Some w2.memory =
        store_in_block m before (replicate left 0) 0 0 0 0 u (4 * k) (a + 4 * k) few even long (omega arith) refl in
        let Q : ℕ = q + 12 * length us in
        let go_on : Go ℕ = λ v w3 t3. with_memory (store w3.memory (a + 4 * k) v) w3 (λ w4. rest w4 t3) in
        let go_at : Go ℕ = λ b w3 t3. value_runs P p (operand x) p.around (λ v w4 t4. with_memory (store w4.memory b v) w4 (λ w5. rest w5 t4)) w3 t3 in
        let behind : FollowsHere P Q n c (rest w2 t) =
        subst (λ (l : List ℕ). FollowsHere P Q n c (rest (with_heap m l w) t)) (append_assoc before (word_bytes u) (replicate left 0))
        (stores_follow xs us (before ++ word_bytes u) (suc k) (omega (arith, grown_, long)) have.1 (omega (arith, room))
        (subst (λ (l : List ℕ). FollowsHere P q n c (next (with_heap m l w) t))
        (ap (λ l. before ++ l) (append_assoc (word_bytes u) (words_block us) (replicate z 0)) ∙
        sym (append_assoc before (word_bytes u) (record_block us z))) f)) in
        subst (λ (j : ℕ). FollowsHere P (q + 12 * suc (length us)) n c
        (statements_run P p (own_stores r k (x ∷ xs)) p.around next (with_heap m (before ++ replicate j 0) w) t)) (sym zeros)
        (worked P (Q + 2 + 3) (q + 12 * suc (length us)) (1 + hoisted) n c (value_runs P p (plus (Temp r) (4 * k)) p.around go_at w1 t)
        (omega (arith, small))
        (plus_follows P p r a (4 * k) (Q + 2) n c go_at w1 t there (omega (arith, room))
        (operand_has x u Q go_on w1 t have.0
        (subst (λ o. FollowsHere P Q n c (with_memory o w1 (λ w4. rest w4 t))) (sym stored) behind))))
