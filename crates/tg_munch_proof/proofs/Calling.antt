-- Calls and services whose answers are moved or let go.
use Rattle.std.proofs.Common.{◌≡◌, ◌≤◌, ◌<◌, ℕ, ◌+◌, ◌-◌, List, [], ◌∷◌, ◌++◌, Bool, false, refl, ap, ◌∙◌, arith}
use Rattle.std.specs.Prelude.{◌==◌, Option, Some, if◌then◌else◌}
use Rattle.tg_simulation.specs.Runs.{Run}
use Rattle.tg_simulation.specs.Ran.{Ran, works}
use Rattle.tg_simulation.proofs.Simulations.{simulates_along}
use Rattle.tg_tree.specs.Tree as tree
use Rattle.tg_tree.specs.Tree.{Tx, Txs, Linear}
use Rattle.tg_tree.specs.Shapes.{IsFlat, AreFlat}
use Rattle.tg_tree.specs.Actions.{World, Temps, Go, set_temp}
use Rattle.tg_tree.specs.Meaning.{values}
use Rattle.tg_tree.specs.Units.{Canonical}
use Rattle.tg_instr.specs.declared.operands.Opnd.TheVariants.{Reg}
use Rattle.tg_instr.specs.declared.instr.Instr.{Instr}
use Rattle.tg_instr.specs.declared.instr.Instr.TheVariants as instr
use Rattle.tg_instr.specs.Shapes.{Operand}
use Rattle.tg_instr.specs.Contents.{Word, Contents, set, after_call}
use Rattle.tg_instr.specs.Meaning.{with_content}
use Rattle.tg_munch.specs.mirror.Choosing.{NumbersDrawn, ◌>>◌, give, put, defining}
use Rattle.tg_munch.specs.mirror.Arguments.{one_may_end, ordered}
use Rattle.tg_munch.specs.mirror.Munching.{temp, expression, arguments, asked, answer_in}
use Rattle.tg_munch.specs.mirror.Bodies.{outs, out_of}
use Rattle.tg_munch.specs.laws.Lengths.{kept_count}
use Rattle.tg_munch_proof.specs.Words.{IsWord, HasWords, HaveWords}
use Rattle.tg_munch_proof.specs.glue.Places.{goes}
use Rattle.tg_munch_proof.proofs.Behaving.{later_part}
use Rattle.tg_munch_proof.proofs.Results.{itself}
use Rattle.tg_munch_proof.specs.glue.Relating.{TempsAlike}
use Rattle.tg_munch_proof.proofs.Between.{Activated, place, flat_goes, Matches, Fuelled, in_turn, let_go, pays}
use Rattle.tg_munch_proof.proofs.Between.{works_behind, no_product, passes, literals, enter, no_loop, around_it}
use Rattle.tg_munch_proof.proofs.Between.{AlikeIn}
use Rattle.tg_munch_proof.proofs.Calls.{call_matches}
use Rattle.tg_munch_proof.proofs.Listed.{with_list, listed, all_spend, arguments_run, listed_long}
use Rattle.tg_munch_proof.proofs.Moves.{SameTemps, SameTempsBut}
use Rattle.tg_munch_proof.proofs.Passing.{arguments_match}
use Rattle.tg_munch_proof.proofs.Statements.{Runs, moved, service_matches}

-- an answer that is moved
set_differs : (i j v : ℕ) (s : Contents) → (j == i) ≡ false → set (Operand (temp i)) (Word v) s (Operand (temp j)) ≡ s (Operand (temp j))
set_differs i j v s e = ap (λ (b : Bool). if b then Word v else s (Operand (temp j))) e

pub answered : (d i v : ℕ) (s s1 : Contents) → SameTemps d s s1 → SameTempsBut i d s (set (Operand (temp i)) (Word v) s1)
answered d i v s s1 same j lt other = set_differs i j v s1 other ∙ same j lt

pub answer_there : (i v : ℕ) (s : Contents) → set (Operand (temp i)) (Word v) s (Operand (temp i)) ≡ Word v
answer_there i v s = ap (λ (b : Bool). if b then Word v else s (Operand (temp i))) (itself i)

module _ (a : Activated) (r n : ℕ) where
  pub answer_matches : (i v : ℕ) (d : NumbersDrawn) (tail : List Instr) (c : Run Ran) (x : World) (s : Contents) →
      s (Operand (Reg 2)) ≡ Word v →
      Matches a r n c x tail (set (Operand (temp i)) (Word v) s) →
      Matches a (r + 1) n c x ((answer_in (Some (temp i)) d).code ++ tail) s
  answer_matches i v d tail c x s two next =
      in_turn a (give (temp i)) (λ to. defining (instr.Move to (Reg 2)) to) d tail (r + 1) n c x s
      (λ part. simulates_along 1 (r + 1) n c c (λ k. works 1 (goes (place a) x tail (set (Operand (temp i)) (Word v) s) k))
      (goes (place a) x (instr.Move (temp i) (Reg 2) ∷ tail) s) (λ k. refl)
      (λ k. ap (λ o. works 1 (with_content o x (λ z. goes (place a) x tail (set (Operand (temp i)) z s)) k)) two)
      (works_behind (r + 1) n 1 r c _ (omega arith) (next (later_part (place a) (instr.Move (temp i) (Reg 2) ∷ []) tail part))))

  pub asking_runs : (before : Option Linear) (k : ℕ) (y : Tx) → IsFlat y → IsWord k → HasWords y →
      Runs a r n before (tree.Do' (tree.Do (tree.Service k y)))
  asking_runs before k y flat word_k small rest d tail w x t s h le next part =
      pays r n 0 r _ _ (omega arith) (pays r n 0 r _ _ (omega arith) (pays r n 5 (r + 5) _ _ (omega arith)
      (service_matches a n y k flat small word_k d tail (r + 5) r (omega arith) w x t s h.alike h.temps le
      (λ v w1 t1. flat_goes a rest w1 t1)
      (λ v w1 x1 s1 word_v alike same two.
      next w1 x1 t s1 (passes a before (tree.Do' (tree.Do (tree.Service k y))) d w x w1 x1 t s s1 (λ i j. refl) le h alike same))
      part)))

  pub asking_moves : (before : Option Linear) (i k : ℕ) (y : Tx) → IsFlat y → IsWord k → HasWords y → i < a.function.temps →
      Runs a r n before (tree.Do' (tree.Move i (tree.Service k y)))
  asking_moves before i k y flat word_k small lt rest d tail w x t s h le next part =
      let e = tree.Service k y in
      pays r n 0 r _ _ (omega arith) (pays r n 2 (r + 2) _ _ (omega arith) (pays (r + 2) n 5 (r + 7) _ _ (omega arith)
      (let_go a (expression a.function.slots e (Some (temp i))) d tail (r + 7) n _ x s
      (in_turn a (asked k (expression a.function.slots y (Some (Reg 4)))) (λ z. answer_in (Some (temp i))) d tail (r + 7) n _ x s
      (service_matches a n y k flat small word_k d _ (r + 7) (r + 1) (omega arith) w x t s h.alike h.temps le
      (λ v w1 t1. flat_goes a rest w1 (set_temp i v t1))
      (λ v w1 x1 s1 word_v alike same two.
      answer_matches i v (asked k (expression a.function.slots y (Some (Reg 4))) d).drawn tail
      (flat_goes a rest w1 (set_temp i v t)) x1 s1 two
      (next w1 x1 (set_temp i v t) (set (Operand (temp i)) (Word v) s1)
      (moved a r n i v e before d w x w1 x1 t s (set (Operand (temp i)) (Word v) s1) lt le word_v
      (answered d.temp i v s s1 same) (answer_there i v s1) alike
      (no_product a (Some (tree.Do' (tree.Move i e))) w1.memory (set_temp i v t) (set (Operand (temp i)) (Word v) s1)
      (λ j l. refl)) h)))))
      part)))

  -- A call, after its arguments.
  module _ (fuelled : Fuelled a r n) (l : ℕ) (xs : Txs) (flat : AreFlat xs) (small : HaveWords xs)
      (few : out_of (tree.Call l xs) ≤ outs a.function.body) (d : NumbersDrawn) (tail : List Instr) (credit : ℕ)
      (w x : World) (t : Temps) (s : Contents) (alike : AlikeIn a w x) (temps : TempsAlike a.function.temps t s)
      (le : a.function.temps + kept_count ≤ d.temp) (go : Go ℕ)
      (next : (v : ℕ) (w1 x1 : World) (s1 : Contents) → IsWord v → AlikeIn a w1 x1 → SameTemps d.temp s s1 →
      s1 (Operand (Reg 2)) ≡ Word v → Matches a credit n (go v w1 t) x1 tail s1) where
    abbrev called : List ℕ → World → Temps → Run Ran
    called vs w1 t1 = enter a l vs (a.activation.base - a.activation.size) (λ v w2. go v w2 t1) w1

    abbrev flat_call : Run Ran
    flat_call =
        values Canonical a.program.room (literals a) (enter a) (no_loop a) xs (around_it a) (λ vs w1 t1. called vs w1 t1) w t

    pub call_runs : Matches a credit n (λ i. works 2 (flat_call i)) x
        (((ordered (one_may_end 0 xs) (λ picks. arguments a.function.slots picks 0 xs) >>
        put (instr.Call (record { 0 = l }))) d).code ++ tail) s
    call_runs part =
        let spends = all_spend (literals a) a.activation.base w.memory t xs in
        pays credit n 2 (credit + 2) flat_call _ (omega arith)
        (in_turn a (ordered (one_may_end 0 xs) (λ picks. arguments a.function.slots picks 0 xs))
        (λ z. put (instr.Call (record { 0 = l }))) d tail (credit + 2) n flat_call x s
        (λ here. simulates_along 1 (credit + 2) n
        (λ i. works spends (with_list (listed (literals a) a.activation.base w.memory t xs) w (λ vs. called vs w t) i)) flat_call
        _ _ (λ i. arguments_run a.program.room (literals a) (enter a) (no_loop a) (around_it a) xs (λ vs w1 t1. called vs w1 t1) w t i flat)
        (λ i. refl)
        (pays (credit + 2) n spends (credit + 1 + spends) _ _ (omega arith)
        (arguments_match a n xs flat small few w t d (instr.Call (record { 0 = l }) ∷ tail) (credit + 1 + spends) (credit + 1)
        (λ vs. called vs w t) x s (omega arith) le alike temps
        (λ vs x1 s1 so alike1 passed there.
        let long = listed_long (literals a) a.activation.base w.memory t xs vs so in
        call_matches a.program a.function a.activation a.outline a.active a.sized n credit (fuelled.calls n (omega arith))
        l vs (λ v w2. go v w2 t) a.back_behind tail w x1 s1 (omega (arith, few, long)) passed.arguments alike1
        (λ v w2 x2 word_v alike2.
        next v w2 x2 (after_call (Word v) s1) word_v alike2 passed.temps refl
        (later_part (place a) (instr.Call (record { 0 = l }) ∷ []) tail there)))
        here)))
        part)

  pub calling_runs : Fuelled a r n → (before : Option Linear) (l : ℕ) (xs : Txs) → AreFlat xs → HaveWords xs →
      out_of (tree.Call l xs) ≤ outs a.function.body → Runs a r n before (tree.Do' (tree.Do (tree.Call l xs)))
  calling_runs fuelled before l xs flat small fits rest d tail w x t s h le next part =
      pays r n 0 r _ _ (omega arith) (pays r n 0 r _ _ (omega arith)
      (call_runs fuelled l xs flat small fits d tail r w x t s h.alike h.temps le (λ v w1 t1. flat_goes a rest w1 t1)
      (λ v w1 x1 s1 word_v alike same two.
      next w1 x1 t s1 (passes a before (tree.Do' (tree.Do (tree.Call l xs))) d w x w1 x1 t s s1 (λ i j. refl) le h alike same))
      part))

  pub calling_moves : Fuelled a r n → (before : Option Linear) (i l : ℕ) (xs : Txs) → AreFlat xs → HaveWords xs →
      i < a.function.temps → out_of (tree.Call l xs) ≤ outs a.function.body →
      Runs a r n before (tree.Do' (tree.Move i (tree.Call l xs)))
  calling_moves fuelled before i l xs flat small lt fits rest d tail w x t s h le next part =
      let e = tree.Call l xs in
      let call = (λ (z : NumbersDrawn). (ordered (one_may_end 0 xs) (λ picks. arguments a.function.slots picks 0 xs) >>
      put (instr.Call (record { 0 = l }))) z) in
      pays r n 0 r _ _ (omega arith) (pays r n 2 (r + 1) _ _ (omega arith)
      (let_go a (expression a.function.slots e (Some (temp i))) d tail (r + 1) n _ x s
      (in_turn a (ordered (one_may_end 0 xs) (λ picks. arguments a.function.slots picks 0 xs) >>
      put (instr.Call (record { 0 = l }))) (λ z. answer_in (Some (temp i))) d tail (r + 1) n _ x s
      (call_runs fuelled l xs flat small fits d ((answer_in (Some (temp i)) (call d).drawn).code ++ tail) (r + 1) w x t s
      h.alike h.temps le (λ v w1 t1. flat_goes a rest w1 (set_temp i v t1))
      (λ v w1 x1 s1 word_v alike same two.
      answer_matches i v (call d).drawn tail (flat_goes a rest w1 (set_temp i v t)) x1 s1 two
      (next w1 x1 (set_temp i v t) (set (Operand (temp i)) (Word v) s1)
      (moved a r n i v e before d w x w1 x1 t s (set (Operand (temp i)) (Word v) s1) lt le word_v
      (answered d.temp i v s s1 same) (answer_there i v s1) alike
      (no_product a (Some (tree.Do' (tree.Move i e))) w1.memory (set_temp i v t) (set (Operand (temp i)) (Word v) s1)
      (λ j k. refl)) h)))))
      part))
