-- Each element of flat code and its instructions, and so all that is left of a body.
use Rattle.std.proofs.Common.{◌≡◌, ◌≤◌, ◌<◌, ℕ, zero, suc, ◌+◌, List, [], ◌∷◌, ◌++◌, append_assoc, max, Bool}
use Rattle.std.proofs.Common.{true, false, refl, sym, ap, ◌∙◌, subst, arith}
use Rattle.std.specs.Prelude.{◌==◌, Option, Some, None, if◌then◌else◌}
use Rattle.std.specs.List.{AllByRecursion}
use Rattle.tg_machine_state.specs.declared.ends.RunEnd.TheVariants.{Break}
use Rattle.tg_base.specs.Words.{flag}
use Rattle.tg_simulation.specs.Runs.{Run, turn}
use Rattle.tg_simulation.specs.Ran.{Ran, WantsFuel, Wrong, stops, works}
use Rattle.tg_simulation.specs.laws.Simulating.{Simulates}
use Rattle.tg_simulation.proofs.Simulations.{simulates_along, simulates_turn, simulates_wrong}
use Rattle.tg_tree.specs.Tree as tree
use Rattle.tg_tree.specs.Tree.{Tx, Linear}
use Rattle.tg_tree.specs.Shapes.{IsFlat, IsFlatOrEffect, IsFlatCode}
use Rattle.tg_tree.specs.Units.{Canonical}
use Rattle.tg_tree.specs.declared.operators.Bin.TheVariants as bin
use Rattle.tg_tree.specs.declared.operators.Rel.{Rel}
use Rattle.tg_tree.specs.Operators.{Given, word, stops_by, holds}
use Rattle.tg_tree.specs.FlatValue.{onward, after_word}
use Rattle.tg_tree.specs.Actions.{World, Temps, over, with_given}
use Rattle.tg_tree.specs.Flat as flat
use Rattle.tg_tree.specs.Flat.{FlatPoint}
use Rattle.tg_tree.specs.Running.{with_fuel}
use Rattle.tg_tree.proofs.FlatValues.{flat_runs, works_add}
use Rattle.tg_tree.proofs.FlatRuns.{flat_code_steps}
use Rattle.tg_instr.specs.declared.operands.Opnd.TheVariants.{Reg}
use Rattle.tg_instr.specs.declared.instr.Instr.{Instr}
use Rattle.tg_instr.specs.declared.instr.Instr.TheVariants as instr
use Rattle.tg_instr.specs.Shapes.{Operand}
use Rattle.tg_instr.specs.Contents.{Word, Contents, held, handed}
use Rattle.tg_instr.specs.Running.{CodePoint, jump_to}
use Rattle.tg_munch.specs.mirror.Choosing.{Choice, NumbersDrawn, ◌>>=◌, ◌>>◌, put}
use Rattle.tg_munch.specs.mirror.Munching.{kept_registers, expression, branch, compared_in_hi, given_back, element, elements}
use Rattle.tg_munch.specs.mirror.Bodies.{outs, out_of, out_of_element}
use Rattle.tg_munch.specs.laws.Lengths.{kept_count}
use Rattle.tg_munch.specs.mirror.Products.{is_in_hi, leaves_product}
use Rattle.tg_munch_proof.specs.Words.{HasWords}
use Rattle.tg_munch_proof.specs.glue.Places.{each_one, IsPart, goes}
use Rattle.tg_munch_proof.specs.laws.Values.{Stay, fork, Compares}
use Rattle.tg_munch_proof.proofs.Behaving.{later_part}
use Rattle.tg_munch_proof.proofs.Compared.{branch_does, in_hi_does}
use Rattle.tg_munch_proof.proofs.Does.{does_simulate}
use Rattle.tg_munch_proof.proofs.Expressions.{after_within}
use Rattle.tg_munch_proof.proofs.Growing.{element_grows}
use Rattle.tg_munch_proof.proofs.Marked.{found}
use Rattle.tg_munch_proof.specs.glue.Relating.{going, going_behind, code_behind}
use Rattle.tg_munch_proof.proofs.Asking.{same_input, ends_alike}
use Rattle.tg_munch_proof.proofs.Between.{ElementHasWords, Activated, MovesBelow, place, literals, enter, no_loop, around_it}
use Rattle.tg_munch_proof.proofs.Between.{flat_goes, flat_worth, worth, spends, InBody, Left, Matches, GoesOn}
use Rattle.tg_munch_proof.proofs.Between.{Fuelled, in_turn, walks, scene_in, expression_matches, forgets, pays}
use Rattle.tg_munch_proof.proofs.Between.{works_behind, passes}
use Rattle.tg_munch_proof.proofs.Calling.{asking_runs, asking_moves, calling_runs, calling_moves}
use Rattle.tg_munch_proof.proofs.Moves.{stay_same, register_same, knows, kept_same}
use Rattle.tg_munch_proof.proofs.Statements.{Runs, move_runs, product_runs, worth_runs, store_runs, byte_runs}
use Rattle.tg_munch_proof.proofs.Steps.{returns}

-- what is left after a mark is as the body is
module _ (temps : ℕ) where
  behind_flat : (m : ℕ) (es rest : List Linear) → flat.behind m es ≡ Some rest → IsFlatCode es → IsFlatCode rest
  behind_flat m [] rest e h = absurd (none rest e)
    where
      none : (i : List Linear) → None ≡ Some i → ⊥
      none i q = cc
  behind_flat m (tree.Mark k ∷ es) rest e h = by (k == m) e (λ q. behind_flat m es rest q h)
    where
      same : (i j : List Linear) → Some i ≡ Some j → i ≡ j
      same i j q = cc

      by : (b : Bool) → (if b then Some es else flat.behind m es) ≡ Some rest → (flat.behind m es ≡ Some rest → IsFlatCode rest) →
          IsFlatCode rest
      by true q k = subst IsFlatCode (same es rest q) h
      by false q k = k q
  behind_flat m (tree.Do' s ∷ es) rest e h = behind_flat m es rest e h.1
  behind_flat m (tree.Jump k ∷ es) rest e h = behind_flat m es rest e h
  behind_flat m (tree.Branch r x y k ∷ es) rest e h = behind_flat m es rest e h.2
  behind_flat m (tree.Fault' k ∷ es) rest e h = behind_flat m es rest e h
  behind_flat m (tree.Return' x ∷ es) rest e h = behind_flat m es rest e h.1

  behind_all : (P : Linear → Type 0) (m : ℕ) (es rest : List Linear) → flat.behind m es ≡ Some rest → AllByRecursion P es →
      AllByRecursion P rest
  behind_all P m [] rest e h = absurd (none rest e)
    where
      none : (i : List Linear) → None ≡ Some i → ⊥
      none i q = cc
  behind_all P m (tree.Mark k ∷ es) rest e h = by (k == m) e (λ q. behind_all P m es rest q h.1)
    where
      same : (i j : List Linear) → Some i ≡ Some j → i ≡ j
      same i j q = cc

      by : (b : Bool) → (if b then Some es else flat.behind m es) ≡ Some rest →
          (flat.behind m es ≡ Some rest → AllByRecursion P rest) → AllByRecursion P rest
      by true q k = subst (λ i. AllByRecursion P i) (same es rest q) h.1
      by false q k = k q
  behind_all P m (_ ∷ es) rest e h = behind_all P m es rest e h.1

  behind_outs : (m : ℕ) (es rest : List Linear) → flat.behind m es ≡ Some rest → outs rest ≤ outs es
  behind_outs m [] rest e = absurd (none rest e)
    where
      none : (i : List Linear) → None ≡ Some i → ⊥
      none i q = cc
  behind_outs m (tree.Mark k ∷ es) rest e = by (k == m) e (λ q. behind_outs m es rest q)
    where
      same : (i j : List Linear) → Some i ≡ Some j → i ≡ j
      same i j q = cc

      by : (b : Bool) → (if b then Some es else flat.behind m es) ≡ Some rest →
          (flat.behind m es ≡ Some rest → outs rest ≤ outs es) → outs rest ≤ max 0 (outs es)
      by true q k = subst (λ i. outs i ≤ max 0 (outs es)) (same es rest q) (omega arith)
      by false q k = let le = k q in omega (arith, le)
  behind_outs m (e ∷ es) rest q = let le = behind_outs m es rest q in omega (arith, le)

-- what comes after a value
onward_runs : (g : Given) (f : ℕ → Given) (w : World) (next go : ℕ → Run Ran) (k l n : ℕ) →
    ((v : ℕ) → next v n ≡ works l (with_given (f v) w go n)) →
    works k (with_given g w next n) ≡ works (k + after_word g l) (with_given (onward g f) w go n)
onward_runs (word v) f w next go k l n h = ap (works k) (h v) ∙ works_add k l (with_given (f v) w go n)
onward_runs (stops_by s) f w next go k l n h = let e : k ≡ k + 0 = omega arith in ap (λ j. works j (stops w.input s)) e

-- a side in hi is the upper word of a product
sides_are : (before : Option Linear) (y : Tx) → is_in_hi before y ≡ true →
    (u : Tx) × ((v : Tx) × ((y ≡ tree.Binary bin.MulHigh u v) × (leaves_product before u v ≡ true)))
sides_are before (tree.Binary bin.MulHigh u v) e = (u, (v, (refl, e)))
sides_are before _ e = absurd (no e)
  where
    no : false ≡ true → ⊥
    no q = cc

module _ (a : Activated) (r n : ℕ) (fuelled : Fuelled a r n) where
  -- a jump: a turn on both sides, to what stands after the mark on either
  abbrev flat_jump : ℕ → World → Temps → Run Ran
  flat_jump mark w t =
      flat.jump_to a.program.code a.program.size a.program.floor a.program.room (going a.program) a.function.body
      (flat.behind mark a.function.body) (around_it a) tt w t

  abbrev point : List Linear → World → Temps → FlatPoint
  point rest w t =
      record { whole = a.function.body; rest = rest; around = around_it a; world = w; temps = t }

  abbrev point_behind : List Instr → World → Contents → CodePoint
  point_behind rest x s = record {
    function = (place a).function;
    rest = rest;
    activation = a.activation;
    back = a.back_behind;
    world = x;
    contents = s;
  }

  turns_match : (w x : World) (c d : Run Ran) → w.input ≡ x.input → ((k : ℕ) → k < n → Simulates 1 r k c d) →
      Simulates 1 r n (with_fuel w c) (with_fuel x d)
  turns_match w x c d same next =
      subst (λ input. Simulates 1 r n (turn (stops w.input WantsFuel) c) (turn (stops input WantsFuel) d)) same
      (simulates_turn 1 r n w.input c d next)

  jump_matches : (before : Option Linear) (mark : ℕ) (w x : World) (t : Temps) (s : Contents) (tail : List Instr) →
      InBody a before w x t s →
      Simulates 1 r n (flat_jump mark w t) (fork (place a) x true mark tail s)
  jump_matches before mark w x t s tail h = by (flat.behind mark a.function.body) refl
    where
      by_fuel : (c d : Run Ran) → ((i : ℕ) → c i ≡ d i) → (i : ℕ) → with_fuel x c i ≡ with_fuel x d i
      by_fuel c d e zero = refl
      by_fuel c d e (suc i) = e i

      by : (o : Option (List Linear)) → flat.behind mark a.function.body ≡ o →
          Simulates 1 r n
          (flat.jump_to a.program.code a.program.size a.program.floor a.program.room (going a.program) a.function.body
          o (around_it a) tt w t)
          (fork (place a) x true mark tail s)
      by None e = simulates_wrong 1 r n (over Wrong w) _ (λ i. refl)
      by (Some rest) e =
          let f = found a.function.slots a.function.temps mark None a.function.body rest a.start e in
          let code = (elements a.function.slots a.function.temps (Some (tree.Mark mark)) rest f.drawn).code in
          let there : IsPart (place a) (instr.Mark mark ∷ code) = (
            a.begins.0 ++ f.front,
            a.begins.1 ∙ ap (λ xs. a.begins.0 ++ xs) f.is ∙
                sym (append_assoc a.begins.0 f.front (instr.Mark mark ∷ code)),
          ) in
          let more = f.grows in
          let drawn = a.drawn in
          let left : Left a (Some (tree.Mark mark)) rest f.drawn = record {
            remains = record {
              flat = behind_flat a.function.temps mark a.function.body rest e a.may.flat;
              words = behind_all a.function.temps ElementHasWords mark a.function.body rest e a.words;
              moves = behind_all a.function.temps (MovesBelow a.function.temps) mark a.function.body rest e a.moves;
              outs = behind_outs a.function.temps mark a.function.body rest e;
            };
            part = later_part (place a) (instr.Mark mark ∷ []) code there;
            drawn = omega (arith, more, drawn);
          } in
          simulates_along 1 r n (with_fuel w (going a.program (point rest w t)))
          (with_fuel w (going a.program (point rest w t)))
          (with_fuel x (goes (place a) x code s)) (fork (place a) x true mark tail s) (λ i. refl)
          (λ i. ap (λ (o : Option (List Instr)).
          jump_to each_one (code_behind a.program) a.program.size a.program.floor a.program.room (going_behind a.program)
          (place a).function o a.activation a.back_behind x s i) ((walks a).marked mark code there) ∙
          by_fuel (going_behind a.program (point_behind code x s)) (goes (place a) x code s)
          ((walks a).steps (point_behind code x s)) i)
          (turns_match w x (going a.program (point rest w t)) (goes (place a) x code s) (same_input w x h.alike.holds)
          (λ k lt. simulates_along 1 r k (flat_goes a rest w t) (going a.program (point rest w t))
          (goes (place a) x code s) (goes (place a) x code s)
          (λ i. flat_code_steps a.program.code a.program.size a.program.floor a.program.room (point rest w t) i) (λ i. refl)
          (fuelled.jumps k lt (Some (tree.Mark mark)) rest f.drawn left w x t s
          (forgets a before (tree.Mark mark) w x t s (λ u v. refl) h) left.part)))

  jump_runs : (before : Option Linear) (m : ℕ) → Runs a r n before (tree.Jump m)
  jump_runs before m rest d tail w x t s h le next part =
      pays r n 1 (r + 1) _ _ (omega arith)
      (works_behind (r + 1) n 1 r (flat_jump m w t) (fork (place a) x true m tail s) (omega arith)
      (jump_matches before m w x t s tail h))

  mark_runs : (before : Option Linear) (m : ℕ) → Runs a r n before (tree.Mark m)
  mark_runs before m rest d tail w x t s h le next part =
      pays r n 1 (r + 1) _ _ (omega arith)
      (works_behind (r + 1) n 1 r (flat_goes a rest w t) (goes (place a) x tail s) (omega arith)
      (next w x t s (forgets a before (tree.Mark m) w x t s (λ u v. refl) h) (later_part (place a) (instr.Mark m ∷ []) tail part)))

  fault_runs : (before : Option Linear) (k : ℕ) → Runs a r n before (tree.Fault' k)
  fault_runs before k rest d tail w x t s h le next part =
      pays r n 1 (r + 1) _ _ (omega arith)
      (works_behind (r + 1) n 1 r _ _ (omega arith) (ends_alike 1 r n w x (Break k) h.alike.holds))

  -- a comparison of two expressions, and where it goes
  abbrev both : Rel → Tx → Tx → ℕ → List Linear → World → Temps → Run Ran
  both rel y z m rest w t =
      flat_worth a y (λ u w1 t1. flat_worth a z (λ v w2 t2.
      (if holds rel u v then flat.jump_to a.program.code a.program.size a.program.floor a.program.room (going a.program)
      a.function.body (flat.behind m a.function.body) else
      flat.run_flat a.program.code a.program.size a.program.floor a.program.room (going a.program) a.function.body rest)
      (around_it a) tt w2 t2) w1 t1) w t

  abbrev flags : Rel → Tx → Tx → World → Temps → Given
  flags rel y z w t = onward (worth a w t y) (λ u. onward (worth a w t z) (λ v. word (flag (holds rel u v))))

  abbrev where_to : ℕ → List Linear → World → Temps → ℕ → Run Ran
  where_to m rest w t f = if f == 1 then flat_jump m w t else flat_goes a rest w t

  both_runs : (rel : Rel) (y z : Tx) (m : ℕ) (rest : List Linear) (w : World) (t : Temps) (i : ℕ) → IsFlat y → IsFlat z →
      both rel y z m rest w t i ≡
      works (spends a w t y + after_word (worth a w t y) (spends a w t z))
      (with_given (flags rel y z w t) w (where_to m rest w t) i)
  both_runs rel y z m rest w t i fy fz =
      flat_runs Canonical a.program.room (literals a) (enter a) (no_loop a) y (around_it a) _ w t i fy ∙
      onward_runs (worth a w t y) (λ u. onward (worth a w t z) (λ v. word (flag (holds rel u v)))) w _
      (where_to m rest w t) (spends a w t y) (spends a w t z) i
      (λ u. flat_runs Canonical a.program.room (literals a) (enter a) (no_loop a) z (around_it a) _ w t i fz ∙
      ap (works (spends a w t z)) (as_flag u (worth a w t z)))
    where
      one_flag : (b : Bool) →
          (if b then flat.jump_to a.program.code a.program.size a.program.floor a.program.room (going a.program)
          a.function.body (flat.behind m a.function.body) else
          flat.run_flat a.program.code a.program.size a.program.floor a.program.room (going a.program) a.function.body rest)
          (around_it a) tt w t i ≡
          (if flag b == 1 then flat_jump m w t else flat_goes a rest w t) i
      one_flag true = refl
      one_flag false = refl

      as_flag : (u : ℕ) (g : Given) →
          with_given g w (λ v. (if holds rel u v then
          flat.jump_to a.program.code a.program.size a.program.floor a.program.room (going a.program)
          a.function.body (flat.behind m a.function.body) else
          flat.run_flat a.program.code a.program.size a.program.floor a.program.room (going a.program) a.function.body rest)
          (around_it a) tt w t) i ≡
          with_given (onward g (λ v. word (flag (holds rel u v)))) w (where_to m rest w t) i
      as_flag u (word v) = one_flag (holds rel u v)
      as_flag u (stops_by z) = refl

  after_two : (g h : Given) (k l : ℕ) → k + after_word g (l + after_word h 2) ≤ k + after_word g l + 2
  after_two (word u) (word v) k l = omega arith
  after_two (word u) (stops_by z) k l = omega arith
  after_two (stops_by z) h k l = omega arith

  -- by whatever instructions compare
  module _ (before : Option Linear) (rel : Rel) (y z : Tx) (m : ℕ) (fy : IsFlat y) (fz : IsFlat z) (rest : List Linear)
      (d : NumbersDrawn) (tail : List Instr) (w x : World) (t : Temps) (s : Contents) (h : InBody a before w x t s)
      (le : a.function.temps + kept_count ≤ d.temp)
      (next : (w1 x1 : World) (t1 : Temps) (s1 : Contents) → InBody a (Some (tree.Branch rel y z m)) w1 x1 t1 s1 →
      Matches a r n (flat_goes a rest w1 t1) x1 tail s1) where
    forks : (s1 : Contents) → Stay d.temp None s s1 → IsPart (place a) tail → (b : Bool) →
        Simulates 1 r n (if b then flat_jump m w t else flat_goes a rest w t) (fork (place a) x b m tail s1)
    forks s1 stay part true =
        jump_matches (Some (tree.Branch rel y z m)) m w x t s1 tail
        (passes a before (tree.Branch rel y z m) d w x w x t s s1 (λ u v. refl) le h h.alike (stay_same d.temp s s1 stay))
    forks s1 stay part false =
        next w x t s1
        (passes a before (tree.Branch rel y z m) d w x w x t s s1 (λ u v. refl) le h h.alike (stay_same d.temp s s1 stay)) part

    compared_matches : (c : Choice (Unit {0})) (k : ℕ) (g : Given) →
        g ≡ flags rel y z w t → k ≤ spends a w t y + after_word (worth a w t y) (spends a w t z) + 2 →
        Compares (place a) x c d s k g m →
        Matches a r n (λ i. works 2 (both rel y z m rest w t i)) x ((c d).code ++ tail) s
    compared_matches c k g same fits does part =
        let code = goes (place a) x ((c d).code ++ tail) s in
        let spent = spends a w t y + after_word (worth a w t y) (spends a w t z) in
        pays r n 2 (r + 2) (both rel y z m rest w t) code (omega arith)
        (simulates_along 1 (r + 2) n
        (λ i. works spent (with_given (flags rel y z w t) w (where_to m rest w t) i)) (both rel y z m rest w t) code code
        (λ i. both_runs rel y z m rest w t i fy fz) (λ i. refl)
        (pays (r + 2) n spent (r + k) (with_given (flags rel y z w t) w (where_to m rest w t)) code (omega (arith, fits))
        (subst (λ i. Simulates 1 (r + k) n (with_given i w (where_to m rest w t)) code) same
        (does_simulate w x _ r n k code g (where_to m rest w t) (same_input w x h.alike.holds) (does tail part)
        (λ f e q. subst (λ j. Simulates 1 r n (where_to m rest w t f) j) (sym q.is)
        (forks q.contents q.stay (later_part (place a) (c d).code tail part) (f == 1)))))))

  branch_runs : (before : Option Linear) (rel : Rel) (y z : Tx) (m : ℕ) → IsFlat y → IsFlat z → HasWords y → HasWords z →
      Runs a r n before (tree.Branch rel y z m)
  branch_runs before rel y z m fy fz hy hz rest d tail w x t s h le next part = by (is_in_hi before y) refl part
    where
      plain : Matches a r n (λ i. works 2 (both rel y z m rest w t i)) x ((branch a.function.slots rel y z m d).code ++ tail) s
      plain =
          compared_matches before rel y z m fy fz rest d tail w x t s h le next (branch a.function.slots rel y z m)
          (spends a w t y + after_word (worth a w t y) (spends a w t z + after_word (worth a w t z) 2))
          (flags rel y z w t) refl
          (after_two (worth a w t y) (worth a w t z) (spends a w t y) (spends a w t z))
          (branch_does (scene_in a w x t s h.alike h.temps) rel y z m d s
          fy fz hy hz (knows a.function.temps t d s (omega (arith, le)) h.temps))

      in_hi : (u v : Tx) → y ≡ tree.Binary bin.MulHigh u v → leaves_product before u v ≡ true →
          Matches a r n (λ i. works 2 (both rel y z m rest w t i)) x
          ((compared_in_hi a.function.slots rel z m d).code ++ tail) s
      in_hi u v is e =
          let q = h.hi u v e in
          let value : worth a w t y ≡ word q.0 = ap (worth a w t) is ∙ q.1.0 in
          let scene = scene_in a w x t s h.alike h.temps in
          let long : 2 ≤ spends a w t y = subst (λ i. 2 ≤ spends a w t i) (sym is) (omega arith) in
          let most = after_within (worth a w t z) 2 2 (omega arith) in
          let all : after_word (worth a w t y) (spends a w t z) ≡ spends a w t z =
          ap (λ g. after_word g (spends a w t z)) value in
          compared_matches before rel y z m fy fz rest d tail w x t s h le next (compared_in_hi a.function.slots rel z m)
          (1 + (spends a w t z + after_word (worth a w t z) 2))
          (onward (worth a w t z) (λ v. word (flag (holds rel q.0 v))))
          (sym (ap (λ g. onward g (λ u. onward (worth a w t z) (λ v. word (flag (holds rel u v))))) value))
          (omega (arith, long, most, all))
          (in_hi_does scene rel z m q.0 d s fz hz
          (scene.sees.words y q.0 fy hy value) (knows a.function.temps t d s (omega (arith, le)) h.temps) q.1.1)

      by : (b : Bool) → is_in_hi before y ≡ b →
          Matches a r n (λ i. works 2 (both rel y z m rest w t i)) x
          (((if b then compared_in_hi a.function.slots rel z m else branch a.function.slots rel y z m) d).code ++ tail) s
      by true e = let q = sides_are before y e in in_hi q.0 q.1.0 q.1.1.0 q.1.1.1
      by false e = plain

  -- a return: what was kept is given back
  return_runs : (before : Option Linear) (y : Tx) → IsFlat y → HasWords y → Runs a r n before (tree.Return' y)
  return_runs before y flat small rest d tail w x t s h le next part =
      pays r n 14 (r + 14) _ _ (omega arith)
      (in_turn a (expression a.function.slots y (Some (Reg 2))) (λ z. given_back a.function.temps kept_registers >> put instr.Return)
      d tail (r + 14) n _ x s
      (expression_matches a y (Some (Reg 2)) d _ _ (r + 14) n (r + 10) w x t s h.alike h.temps (omega (arith, le)) flat small
      (refl, refl) (omega arith)
      (λ v s1 word_v iv q.
      in_turn a (given_back a.function.temps kept_registers) (λ z. put instr.Return)
      (expression a.function.slots y (Some (Reg 2)) d).drawn tail (r + 10) n _ x s1
      (λ here. simulates_along 1 (r + 10) n (a.back v w) (a.back v w)
      (λ i. works 10 (a.back_behind (Word v) x i)) _ (λ i. refl)
      (λ i. returns (place a) a.function.temps (expression a.function.slots y (Some (Reg 2)) d).drawn tail x s1 i
      (kept_same a.function.temps d.temp kept_registers s s1 le (register_same d.temp 2 s s1 q.stay) h.kept) ∙
      ap (λ c. works 10 (a.back_behind (handed c) x i))
      (subst (λ o. held a.activation s1 (Operand o) ≡ Word v) q.there q.holds))
      (works_behind (r + 10) n 10 r (a.back v w) (a.back_behind (Word v) x) (omega arith)
      (fuelled.backs v w x word_v h.alike)))))
      part)

  -- statements
  moves : (before : Option Linear) (i : ℕ) (y : Tx) → IsFlatOrEffect y → HasWords y → i < a.function.temps →
      out_of y ≤ outs a.function.body → Runs a r n before (tree.Do' (tree.Move i y))
  moves before i (tree.Const k) f h lt le = move_runs a r n before i (tree.Const k) f h lt (λ u v. refl)
  moves before i (tree.Address l) f h lt le = move_runs a r n before i (tree.Address l) f h lt (λ u v. refl)
  moves before i (tree.Temp k) f h lt le = move_runs a r n before i (tree.Temp k) f h lt (λ u v. refl)
  moves before i tree.FrameAddress f h lt le = move_runs a r n before i tree.FrameAddress f h lt (λ u v. refl)
  moves before i (tree.Binary bin.Mul y z) f h lt le = product_runs a r n before i y z f.0 f.1 h.0 h.1 lt
  moves before i (tree.Binary op y z) f h lt le = move_runs a r n before i (tree.Binary op y z) f h lt (λ u v. refl)
  moves before i (tree.Load y) f h lt le = move_runs a r n before i (tree.Load y) f h lt (λ u v. refl)
  moves before i (tree.LoadByte y) f h lt le = move_runs a r n before i (tree.LoadByte y) f h lt (λ u v. refl)
  moves before i (tree.Call l xs) f h lt le = calling_moves a r n fuelled before i l xs f h lt le
  moves before i (tree.Service k y) f h lt le = asking_moves a r n before i k y f h.0 h.1 lt
  moves before i (tree.After z y) f h lt le = absurd f

  lets_go : (before : Option Linear) (y : Tx) → IsFlatOrEffect y → HasWords y → out_of y ≤ outs a.function.body →
      Runs a r n before (tree.Do' (tree.Do y))
  lets_go before (tree.Const k) f h le rest d tail = worth_runs a r n before (tree.Const k) f h d tail rest
  lets_go before (tree.Address l) f h le rest d tail = worth_runs a r n before (tree.Address l) f h d tail rest
  lets_go before (tree.Temp k) f h le rest d tail = worth_runs a r n before (tree.Temp k) f h d tail rest
  lets_go before tree.FrameAddress f h le rest d tail = worth_runs a r n before tree.FrameAddress f h d tail rest
  lets_go before (tree.Binary op y z) f h le rest d tail = worth_runs a r n before (tree.Binary op y z) f h d tail rest
  lets_go before (tree.Load y) f h le rest d tail = worth_runs a r n before (tree.Load y) f h d tail rest
  lets_go before (tree.LoadByte y) f h le rest d tail = worth_runs a r n before (tree.LoadByte y) f h d tail rest
  lets_go before (tree.Call l xs) f h le rest d tail = calling_runs a r n fuelled before l xs f h le rest d tail
  lets_go before (tree.Service k y) f h le rest d tail = asking_runs a r n before k y f h.0 h.1 rest d tail
  lets_go before (tree.After z y) f h le rest d tail = absurd f

  -- an element, and what is left after it
  step : (before : Option Linear) (e : Linear) (rest : List Linear) (d : NumbersDrawn) → Left a before (e ∷ rest) d →
      IsFlatCode rest → Runs a r n before e →
      (Left a (Some e) rest (element a.function.slots a.function.temps before e d).drawn →
      GoesOn a r n (Some e) rest (element a.function.slots a.function.temps before e d).drawn) →
      GoesOn a r n before (e ∷ rest) d
  unfolding ◌>>=◌
  step before e rest d left flat runs next w x t s h part =
      let one = element a.function.slots a.function.temps before e d in
      let code = (elements a.function.slots a.function.temps (Some e) rest one.drawn).code in
      let grows = (element_grows a.function.slots a.function.temps before e).temps d in
      let drawn = left.drawn in
      let most = left.remains.outs in
      let behind_it : Left a (Some e) rest one.drawn = record {
        remains = record {
          flat = flat;
          words = left.remains.words.1;
          moves = left.remains.moves.1;
          outs = omega (arith, most);
        };
        part = later_part (place a) one.code code part;
        drawn = omega (arith, grows, drawn);
      } in
      runs rest d code w x t s h left.drawn (λ w1 x1 t1 s1 h1. next behind_it w1 x1 t1 s1 h1) part

  out_fits : (before : Option Linear) (e : Linear) (rest : List Linear) (d : NumbersDrawn) → Left a before (e ∷ rest) d →
      out_of_element e ≤ outs a.function.body
  out_fits before e rest d left = let most = left.remains.outs in omega (arith, most)

  pub left_goes_on : (before : Option Linear) (rest : List Linear) (d : NumbersDrawn) → Left a before rest d →
      GoesOn a r n before rest d
  left_goes_on before [] d left = λ w x t s h part. simulates_wrong 1 r n (over Wrong w) _ (λ i. refl)
  left_goes_on before (tree.Mark m ∷ rest) d left =
      step before (tree.Mark m) rest d left left.remains.flat (mark_runs before m)
      (λ l. left_goes_on (Some (tree.Mark m)) rest _ l)
  left_goes_on before (tree.Do' (tree.Move i y) ∷ rest) d left =
      step before (tree.Do' (tree.Move i y)) rest d left left.remains.flat.1
      (moves before i y left.remains.flat.0 left.remains.words.0 left.remains.moves.0
      (out_fits before (tree.Do' (tree.Move i y)) rest d left))
      (λ l. left_goes_on (Some (tree.Do' (tree.Move i y))) rest _ l)
  left_goes_on before (tree.Do' (tree.Store y z) ∷ rest) d left =
      step before (tree.Do' (tree.Store y z)) rest d left left.remains.flat.1
      (store_runs a r n before y z left.remains.flat.0.0 left.remains.flat.0.1 left.remains.words.0.0 left.remains.words.0.1)
      (λ l. left_goes_on (Some (tree.Do' (tree.Store y z))) rest _ l)
  left_goes_on before (tree.Do' (tree.StoreByte y z) ∷ rest) d left =
      step before (tree.Do' (tree.StoreByte y z)) rest d left left.remains.flat.1
      (byte_runs a r n before y z left.remains.flat.0.0 left.remains.flat.0.1 left.remains.words.0.0 left.remains.words.0.1)
      (λ l. left_goes_on (Some (tree.Do' (tree.StoreByte y z))) rest _ l)
  left_goes_on before (tree.Do' (tree.Do y) ∷ rest) d left =
      step before (tree.Do' (tree.Do y)) rest d left left.remains.flat.1
      (lets_go before y left.remains.flat.0 left.remains.words.0 (out_fits before (tree.Do' (tree.Do y)) rest d left))
      (λ l. left_goes_on (Some (tree.Do' (tree.Do y))) rest _ l)
  left_goes_on before (tree.Do' _ ∷ rest) d left = absurd left.remains.flat.0
  left_goes_on before (tree.Jump m ∷ rest) d left =
      step before (tree.Jump m) rest d left left.remains.flat (jump_runs before m)
      (λ l. left_goes_on (Some (tree.Jump m)) rest _ l)
  left_goes_on before (tree.Branch rel y z m ∷ rest) d left =
      step before (tree.Branch rel y z m) rest d left left.remains.flat.2
      (branch_runs before rel y z m left.remains.flat.0 left.remains.flat.1 left.remains.words.0.0 left.remains.words.0.1)
      (λ l. left_goes_on (Some (tree.Branch rel y z m)) rest _ l)
  left_goes_on before (tree.Fault' k ∷ rest) d left =
      step before (tree.Fault' k) rest d left left.remains.flat (fault_runs before k)
      (λ l. left_goes_on (Some (tree.Fault' k)) rest _ l)
  left_goes_on before (tree.Return' y ∷ rest) d left =
      step before (tree.Return' y) rest d left left.remains.flat.1
      (return_runs before y left.remains.flat.0 left.remains.words.0)
      (λ l. left_goes_on (Some (tree.Return' y)) rest _ l)
