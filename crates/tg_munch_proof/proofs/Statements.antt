-- Moves, stores and services of flat code and their instructions, given what comes next.
use Rattle.std.proofs.Common.{◌≡◌, ◌≤◌, ◌<◌, ℕ, ◌+◌, ◌*◌, ◌%◌, List, [], ◌∷◌, ◌++◌, length, Bool, true, false, refl}
use Rattle.std.proofs.Common.{sym, ap, ◌∙◌, subst, arith}
use Rattle.std.proofs.lemmas.Bool.Decides.{nat_tests}
use Rattle.std.proofs.lemmas.Bool.{eqb-true}
use Rattle.std.specs.Prelude.{◌==◌, ◌&&◌, not, nat_lt, Option, Some, None, if◌then◌else◌}
use Rattle.tg_machine_state.specs.State.{statics_base, heap_base}
use Rattle.tg_base.specs.Words.{add, sub, extended, product_high}
use Rattle.tg_simulation.specs.Runs.{Run}
use Rattle.tg_simulation.specs.Ran.{Ran, Wrong, works}
use Rattle.tg_simulation.specs.laws.Simulating.{Simulates}
use Rattle.tg_simulation.proofs.Simulations.{simulates_along, simulates_wrong, simulates_with_credit}
use Rattle.tg_tree.specs.Tree as tree
use Rattle.tg_tree.specs.Tree.{Tx, Ts, Literal, Linear}
use Rattle.tg_tree.specs.Shapes.{IsFlat}
use Rattle.tg_tree.specs.declared.operators.Bin.TheVariants as bin
use Rattle.tg_tree.specs.Memory.{Memory, Cell, Closed, Unset, Has, Kept, Spot, put, slot, store}
use Rattle.tg_tree.specs.Memory.{store_in, put_open, store_byte}
use Rattle.tg_tree.specs.Operators.{word}
use Rattle.tg_tree.specs.FlatValue.{onward, or_wrong, flat_value}
use Rattle.tg_tree.specs.Actions.{World, Temps, Go, set_temp, over, with_memory, service, wrong}
use Rattle.tg_tree.specs.Holding.{WorldHoldsAtLeast}
use Rattle.tg_instr.specs.declared.operands.Opnd.{Opnd}
use Rattle.tg_instr.specs.declared.operands.Opnd.TheVariants.{Reg}
use Rattle.tg_instr.specs.declared.instr.Instr.{Instr}
use Rattle.tg_instr.specs.declared.instr.Instr.TheVariants.{Sw, Sb, FrameStore, Service}
use Rattle.tg_instr.specs.Shapes.{Operand, Stores, shape}
use Rattle.tg_instr.specs.Contents.{Word, Contents, set, held, cell_of}
use Rattle.tg_instr.specs.Meaning.{with_content_word, with_content}
use Rattle.tg_munch.specs.mirror.Choosing.{Choice, NumbersDrawn, ◌>>=◌, ◌>>◌, put as puts}
use Rattle.tg_munch.specs.mirror.Tiles as tiles
use Rattle.tg_munch.specs.mirror.Tiles.{constant}
use Rattle.tg_munch.specs.mirror.Munching.{temp, kept_registers, expression, based_at, stored, asked, element}
use Rattle.tg_munch.specs.laws.Lengths.{kept_count}
use Rattle.tg_munch.specs.mirror.Products.{is_same, leaves_product}
use Rattle.tg_munch_proof.specs.Words.{IsWord, AreWords, HasWords}
use Rattle.tg_munch_proof.specs.glue.Places.{Behaves, goes}
use Rattle.tg_munch_proof.specs.laws.Values.{Result, Scene}
use Rattle.tg_munch_proof.proofs.Behaving.{acts, known, later_part}
use Rattle.tg_munch_proof.proofs.Does.{does_simulate}
use Rattle.tg_munch_proof.proofs.Loading.{Located, LeftDoes, located, as_side, expression_does, slot_is}
use Rattle.tg_munch_proof.proofs.Products.{Upper, product_does}
use Rattle.tg_munch_proof.proofs.Results.{survives, set_holds}
use Rattle.tg_munch_proof.proofs.Tiled.{Sets, constant_does}
use Rattle.tg_munch_proof.proofs.Words.{bytes_seen}
use Rattle.tg_munch_proof.specs.glue.Relating.{TempsAlike, HiIsThere, most_statics}
use Rattle.tg_munch_proof.proofs.Asking.{same_input, service_simulates}
use Rattle.tg_munch_proof.proofs.Between.{Activated, place, literals, flat_goes, flat_worth, worth, spends, within}
use Rattle.tg_munch_proof.proofs.Between.{AlikeIn, InBody, Matches, in_turn, let_go, scene_in, frame}
use Rattle.tg_munch_proof.proofs.Between.{heap_fits, worth_matches, known_worth, expression_matches, no_product}
use Rattle.tg_munch_proof.proofs.Between.{passes, done, pays, works_behind}
use Rattle.tg_munch_proof.proofs.Moves.{SameTemps, SameTempsBut, stay_same, register_same, temp_same, same_on}
use Rattle.tg_munch_proof.proofs.Moves.{knows, temps_same, temps_moved, kept_moved}
use Rattle.tg_munch_proof.proofs.Seeing.{above_regions, below_base}
use Rattle.tg_munch_proof.proofs.Storing.{Stored, alike_stored, word_is_stored, byte_is_stored}

no : false ≡ true → ⊥
no e = cc

none_is_some : {I : Type 0} (i : I) → None ≡ Some i → ⊥
none_is_some i e = cc

some_is : {I : Type 0} (i j : I) → Some i ≡ Some j → i ≡ j
some_is i j e = cc

same_word : (i j : ℕ) → word i ≡ word j → i ≡ j
same_word i j e = cc

-- sides that are the same after a move give the same word
same_value : (i v : ℕ) (ls : List Literal) (base : ℕ) (m : Memory) (t : Temps) (x u : Tx) → is_same i x u ≡ true →
    flat_value ls base m (set_temp i v t) u ≡ flat_value ls base m t x
same_value i v ls base m t (tree.Const n) (tree.Const k) e = ap word (sym (eqb-true n k e))
same_value i v ls base m t (tree.Temp j) (tree.Temp k) e = by (j == k) (j == i) refl refl e
  where
    by : (b c : Bool) → (j == k) ≡ b → (j == i) ≡ c → (b && not c) ≡ true →
        or_wrong (if k == i then Some v else t k) ≡ or_wrong (t j)
    by true true h l q = absurd (no q)
    by true false h l q =
        let is : j ≡ k = eqb-true j k h in
        ap (λ z. or_wrong (if z == i then Some v else t z)) (sym is) ∙
        ap (λ (z : Bool). or_wrong (if z then Some v else t j)) l
    by false c h l q = absurd (no q)
same_value i v ls base m t _ _ e = absurd (no e)

both_hold : (b c : Bool) → (b && c) ≡ true → (b ≡ true) × (c ≡ true)
both_hold true true e = (refl, refl)
both_hold true false e = absurd (no e)
both_hold false c e = absurd (no e)

module _ (a : Activated) (r n : ℕ) where
  -- what an element does, given what the next ones do
  abbrev pub Runs : Option Linear → Linear → Type 0
  Runs before e =
      (rest : List Linear) (d : NumbersDrawn) (tail : List Instr) (w x : World) (t : Temps) (s : Contents) →
      InBody a before w x t s → a.function.temps + kept_count ≤ d.temp →
      ((w1 x1 : World) (t1 : Temps) (s1 : Contents) → InBody a (Some e) w1 x1 t1 s1 →
      Matches a r n (flat_goes a rest w1 t1) x1 tail s1) →
      Matches a r n (flat_goes a (e ∷ rest) w t) x
      ((element a.function.slots a.function.temps before e d).code ++ tail) s

  -- what is known after a move
  pub moved : (i v : ℕ) (e : Tx) (before : Option Linear) (d : NumbersDrawn) (w x w1 x1 : World) (t : Temps) (s s1 : Contents) →
      i < a.function.temps → a.function.temps + kept_count ≤ d.temp → IsWord v → SameTempsBut i d.temp s s1 →
      s1 (Operand (temp i)) ≡ Word v → AlikeIn a w1 x1 →
      HiIsThere (Some (tree.Do' (tree.Move i e))) (literals a) a.activation.base w1.memory (set_temp i v t) s1 →
      InBody a before w x t s → InBody a (Some (tree.Do' (tree.Move i e))) w1 x1 (set_temp i v t) s1
  moved i v e before d w x w1 x1 t s s1 lt le small stay holds alike hi h = record {
    alike = alike;
    temps = temps_moved a.function.temps d.temp i v t s s1 (omega (arith, le)) lt small stay holds h.temps;
    kept = kept_moved a.function.temps d.temp i kept_registers s s1 lt le stay h.kept;
    hi = hi;
  }

  -- a move of an expression that is no product
  pub move_runs : (before : Option Linear) (i : ℕ) (e : Tx) → IsFlat e → HasWords e → i < a.function.temps →
      ((u v : Tx) → leaves_product (Some (tree.Do' (tree.Move i e))) u v ≡ false) → Runs before (tree.Do' (tree.Move i e))
  move_runs before i e flat small lt none rest d tail w x t s h le next part =
      pays r n 0 r _ _ (omega arith) (pays r n 2 (r + 2) _ _ (omega arith)
      (let_go a (expression a.function.slots e (Some (temp i))) d tail (r + 2) n _ x s
      (expression_matches a e (Some (temp i)) d tail (λ v w1 t1. flat_goes a rest w1 (set_temp i v t1)) (r + 2) n r w x t s
      h.alike h.temps (omega (arith, le)) flat small tt (omega arith)
      (λ v s1 word_v is q.
      next w x (set_temp i v t) s1
      (moved i v e before d w x w x t s s1 lt le word_v (temp_same d.temp i s s1 q.stay)
      (subst (λ y. held a.activation s1 (Operand y) ≡ Word v) q.there q.holds) h.alike
      (no_product a (Some (tree.Do' (tree.Move i e))) w.memory (set_temp i v t) s1 none) h)))
      part))

  -- a product's upper word is that of the same sides after the move
  upper_is : (i v : ℕ) (y z : Tx) (w : World) (t : Temps) (s1 : Contents) → Upper (worth a w t y) (worth a w t z) s1 →
      HiIsThere (Some (tree.Do' (tree.Move i (tree.Binary bin.Mul y z)))) (literals a) a.activation.base w.memory
      (set_temp i v t) s1
  upper_is i v y z w t s1 q u1 v1 e =
      let b = both_hold (is_same i y u1) (is_same i z v1) e in
      let first = same_value i v (literals a) a.activation.base w.memory t y u1 b.0 ∙ q.1.1.0 in
      let second = same_value i v (literals a) a.activation.base w.memory t z v1 b.1 ∙ q.1.1.1 in (
        product_high q.0 q.1.0,
        (
          ap (λ g. onward g (λ k. onward (flat_value (literals a) a.activation.base w.memory (set_temp i v t) v1)
              (λ j. word (product_high k j)))) first ∙ ap (λ g. onward g (λ j. word (product_high q.0 j))) second,
          q.1.1.2,
        ),
      )

  pub product_runs : (before : Option Linear) (i : ℕ) (y z : Tx) → IsFlat y → IsFlat z → HasWords y → HasWords z →
      i < a.function.temps → Runs before (tree.Do' (tree.Move i (tree.Binary bin.Mul y z)))
  product_runs before i y z fy fz hy hz lt rest d tail w x t s h le next part =
      let e = tree.Binary bin.Mul y z in
      let scene = scene_in a w x t s h.alike h.temps in
      let known = knows a.function.temps t d s (omega (arith, le)) h.temps in
      pays r n 0 r _ _ (omega arith) (pays r n 2 (r + 2) _ _ (omega arith)
      (let_go a (expression a.function.slots e (Some (temp i))) d tail (r + 2) n _ x s
      (worth_matches a (expression a.function.slots e (Some (temp i))) d e tail
      (λ v w1 t1. flat_goes a rest w1 (set_temp i v t1)) (r + 2) n (spends a w t e + 1) r w x t s
      (λ q d1 v s1. Result a.activation d (Some (temp i)) s q d1 v s1 × Upper (worth a w t y) (worth a w t z) s1)
      (fy, fz) (same_input w x h.alike.holds) (omega arith)
      (product_does scene y z (Some (temp i)) d s fy fz hy hz tt known)
      (λ v s1 is q.
      next w x (set_temp i v t) s1
      (moved i v e before d w x w x t s s1 lt le (scene.sees.words e v (fy, fz) (hy, hz) is)
      (temp_same d.temp i s s1 q.0.stay)
      (subst (λ o. held a.activation s1 (Operand o) ≡ Word v) q.0.there q.0.holds) h.alike
      (upper_is i v y z w t s1 q.1) h)))
      part))

  -- an expression whose word is let go
  pub worth_runs : (before : Option Linear) (e : Tx) → IsFlat e → HasWords e →
      (d : NumbersDrawn) (tail : List Instr) (rest : List Linear) (w x : World) (t : Temps) (s : Contents) →
      InBody a before w x t s → a.function.temps + kept_count ≤ d.temp →
      ((w1 x1 : World) (t1 : Temps) (s1 : Contents) → InBody a (Some (tree.Do' (tree.Do e))) w1 x1 t1 s1 →
      Matches a r n (flat_goes a rest w1 t1) x1 tail s1) →
      Matches a r n (λ i. works 0 (works 0 (flat_worth a e (λ v w1 t1. flat_goes a rest w1 t1) w t i))) x
      (((expression a.function.slots e None >> done a) d).code ++ tail) s
  worth_runs before e flat small d tail rest w x t s h le next part =
      pays r n 0 r _ _ (omega arith) (pays r n 0 r _ _ (omega arith)
      (let_go a (expression a.function.slots e None) d tail r n _ x s
      (expression_matches a e None d tail (λ v w1 t1. flat_goes a rest w1 t1) r n r w x t s
      h.alike h.temps (omega (arith, le)) flat small tt (omega arith)
      (λ v s1 word_v is q.
      next w x t s1
      (passes a before (tree.Do' (tree.Do e)) d w x w x t s s1 (λ u z. refl) le h h.alike (stay_same d.temp s s1 q.stay))))
      part))

  -- a store's address
  pub left_does : (e : Tx) (d : NumbersDrawn) (w x : World) (t : Temps) (s : Contents) (alike : AlikeIn a w x)
      (temps : TempsAlike a.function.temps t s) → a.function.temps ≤ d.temp → IsFlat e → HasWords e →
      LeftDoes (scene_in a w x t s alike temps) e d s
  left_does (tree.Binary op y z) d w x t s alike temps le flat small =
      as_side (scene_in a w x t s alike temps) y d s
      (knows a.function.temps t d s le temps)
      (expression_does (scene_in a w x t s alike temps) y flat.0 small.0)
  left_does _ d w x t s alike temps le flat small = tt

  -- memory, as it is stored to by an instruction
  abbrev Keeps : (Memory → ℕ → ℕ → Option Memory) → Type 0
  Keeps f =
      (w x : World) (u v : ℕ) (m : Memory) → WorldHoldsAtLeast w x → IsWord v → AreWords w.memory → f w.memory u v ≡ Some m →
      (q : Memory) × (f x.memory u v ≡ Some q) × Stored w x m q

  -- the last instruction of a store
  store_last : (f : Memory → ℕ → ℕ → Option Memory) → Keeps f → (one : Instr) (from base : Opnd) (bytes address u v : ℕ) →
      shape one ≡ Stores from base (extended bytes) f → add address (extended bytes) ≡ u →
      (c : World → Run Ran) (w x : World) (s : Contents) (tail : List Instr) →
      AlikeIn a w x → IsWord v →
      held a.activation s (Operand base) ≡ Word address → held a.activation s (Operand from) ≡ Word v →
      ((w1 x1 : World) → AlikeIn a w1 x1 → Matches a r n (c w1) x1 tail s) →
      Matches a (r + 1) n (with_memory (f w.memory u v) w c) x (one ∷ tail) s
  store_last f keeps one from base bytes address u v is at c w x s tail alike small hb hf next part =
      by (f w.memory u v) refl
    where
      by : (o : Option Memory) → f w.memory u v ≡ o →
          Simulates 1 (r + 1) n (with_memory o w c) (goes (place a) x (one ∷ tail) s)
      by None e = simulates_wrong 1 (r + 1) n (over Wrong w) _ (λ i. refl)
      by (Some m) e =
          let q = keeps w x u v m alike.holds small alike.words e in
          let x1 = record x { memory = q.0 } in
          simulates_along 1 (r + 1) n (c (record w { memory = m })) (c (record w { memory = m }))
          (λ i. works 1 (goes (place a) x1 tail s i)) (goes (place a) x (one ∷ tail) s) (λ i. refl)
          (λ i. ap (λ h. works 1 (acts (place a) h x tail s i)) is ∙
          (ap (λ z. works 1 (with_content_word z x (λ b. with_content_word (held a.activation s (Operand from)) x
          (λ y. with_memory (f x.memory (add b (extended bytes)) y) x (λ x2. goes (place a) x2 tail s))) i)) hb ∙
          (ap (λ z. works 1 (with_content_word z x
          (λ y. with_memory (f x.memory (add address (extended bytes)) y) x (λ x2. goes (place a) x2 tail s)) i)) hf ∙
          ap (λ o. works 1 (with_memory o x (λ x2. goes (place a) x2 tail s) i))
          (ap (λ k. f x.memory k v) at ∙ q.1))))
          (works_behind (r + 1) n 1 r (c (record w { memory = m })) (goes (place a) x1 tail s) (omega arith)
          (next (record w { memory = m }) x1
          (alike_stored (most_statics a.program) a.program.room (within a) w x m q.0 alike q.2)
          (later_part (place a) (one ∷ []) tail part)))

  -- a word or a byte is stored at an address
  module _ (f : Memory → ℕ → ℕ → Option Memory) (keeps : Keeps f) (one : (from : Opnd) (bytes : ℕ) (base : Opnd) → Instr)
      (is : (from base : Opnd) (bytes : ℕ) → shape (one from bytes base) ≡ Stores from base (extended bytes) f)
      (before : Option Linear) (element : Linear) (y z : Tx)
      (none : (u v : Tx) → leaves_product (Some element) u v ≡ false) (fy : IsFlat y) (fz : IsFlat z) (hy : HasWords y)
      (hz : HasWords z) (rest : List Linear) (d : NumbersDrawn) (tail : List Instr) (w x : World) (t : Temps) (s : Contents)
      (h : InBody a before w x t s) (le : a.function.temps + kept_count ≤ d.temp)
      (next : (w1 x1 : World) (t1 : Temps) (s1 : Contents) → InBody a (Some element) w1 x1 t1 s1 →
      Matches a r n (flat_goes a rest w1 t1) x1 tail s1) where
    abbrev scene : Scene
    scene = scene_in a w x t s h.alike h.temps

    abbrev IsPlace : ℕ → Opnd → NumbersDrawn → ℕ → Contents → Type 0
    IsPlace bytes base d1 u s1 = Located scene d s bytes base d1 u s1

    value_stored : (from : Opnd) (bytes : ℕ) (base : Opnd) (d1 d2 : NumbersDrawn) (u v : ℕ) (s1 s2 : Contents) →
        IsPlace bytes base d1 u s1 → IsWord v → Result a.activation d1 None s1 from d2 v s2 →
        Matches a (r + 1) n (with_memory (f w.memory u v) w (λ w3. flat_goes a rest w3 t)) x
        (one from bytes base ∷ tail) s2
    value_stored from bytes base d1 d2 u v s1 s2 q small p =
        let first = q.drawn in
        store_last f keeps (one from bytes base) from base bytes q.address u v (is from base bytes) q.is
        (λ w3. flat_goes a rest w3 t) w x s2 tail h.alike small
        (survives a.activation d1.temp base (Word q.address) s1 s2 q.there p.stay q.holds) p.holds
        (λ w1 x1 alike. next w1 x1 t s2
        (passes a before element d w x w1 x1 t s s2 none le h alike
        (same_on d.temp d1.temp s s1 s2 first (stay_same d.temp s s1 q.stay) (stay_same d1.temp s1 s2 p.stay))))

    value_next : (bytes : ℕ) (base : Opnd) (d1 : NumbersDrawn) (u : ℕ) (s1 : Contents) → IsPlace bytes base d1 u s1 →
        Matches a (r + 1) n
        (flat_worth a z (λ v w2 t2. with_memory (f w2.memory u v) w2 (λ w3. flat_goes a rest w3 t2)) w t) x
        (((expression a.function.slots z None >>= (λ v. puts (one v bytes base))) d1).code ++ tail) s1
    value_next bytes base d1 u s1 q =
        let first = q.drawn in
        in_turn a (expression a.function.slots z None) (λ v. puts (one v bytes base)) d1 tail (r + 1) n _ x s1
        (expression_matches a z None d1 _ _ (r + 1) n (r + 1) w x t s1 h.alike
        (temps_same a.function.temps d.temp t s s1 (omega (arith, le)) (stay_same d.temp s s1 q.stay) h.temps) (omega (arith, le, first)) fz hz tt
        (omega arith)
        (λ v s2 word_v iv p.
        value_stored (expression a.function.slots z None d1).value bytes base d1 (expression a.function.slots z None d1).drawn
        u v s1 s2 q word_v p))

    store_at : Matches a (r + 1) n
        (flat_worth a y (λ u w1 t1. flat_worth a z (λ v w2 t2. with_memory (f w2.memory u v) w2
        (λ w3. flat_goes a rest w3 t2)) w1 t1) w t) x
        (((based_at a.function.slots y >>= (λ b. expression a.function.slots z None >>=
        (λ v. puts (one v b.bytes b.operand)))) d).code ++ tail) s
    store_at =
        let slots = a.function.slots in
        let known = knows a.function.temps t d s (omega (arith, le)) h.temps in
        in_turn a (based_at slots y) (λ b. expression slots z None >>= (λ v. puts (one v b.bytes b.operand))) d tail
        (r + 1) n _ x s
        (worth_matches a (based_at slots y) d y _ _ (r + 1) n (spends a w t y) (r + 1) w x t s
        (λ b d1 u s1. IsPlace b.bytes b.operand d1 u s1) fy (same_input w x h.alike.holds) (omega arith)
        (located scene y d s fy hy
        (as_side scene y d s known
        (expression_does scene y fy hy))
        (left_does y d w x t s h.alike h.temps (omega (arith, le)) fy hy))
        (λ u s1 iu q.
        value_next (based_at slots y d).value.bytes (based_at slots y d).value.operand (based_at slots y d).drawn u s1 q))

  -- a store to a slot
  put_there : (m q : Memory) (b v : ℕ) (c : Cell) → put_open c b v m ≡ Some q → put b (Has v) m ≡ q
  put_there m q b v Closed e = absurd (none_is_some q e)
  put_there m q b v Unset e = some_is (put b (Has v) m) q e
  put_there m q b v (Has u) e = some_is (put b (Has v) m) q e
  put_there m q b v (Kept k) e = some_is (put b (Has v) m) q e

  slot_stored : (m q : Memory) (b v : ℕ) → statics_base + length m.statics ≤ b → heap_base + length m.heap ≤ b →
      store m b v ≡ Some q → put b (Has v) m ≡ q
  slot_stored m q b v hs hh e =
      by (b % 4 == 0) (ap (λ (z : Spot). if b % 4 == 0 then store_in m b z v else None) (sym (above_regions m b hs hh)) ∙ e)
    where
      by : (i : Bool) → (if i then put_open (m.stack b) b v m else None) ≡ Some q → put b (Has v) m ≡ q
      by true h = put_there m q b v (m.stack b) h
      by false h = absurd (none_is_some q h)

  is_below : (k m : ℕ) → k < m → nat_lt k m ≡ true
  is_below k m lt = grind (arith, nat_tests)

  module _ (before : Option Linear) (y z : Tx) (fy : IsFlat y) (fz : IsFlat z) (hz : HasWords z) (k : ℕ)
      (rest : List Linear) (d : NumbersDrawn) (tail : List Instr) (w x : World) (t : Temps) (s : Contents)
      (h : InBody a before w x t s) (le : a.function.temps + kept_count ≤ d.temp)
      (next : (w1 x1 : World) (t1 : Temps) (s1 : Contents) → InBody a (Some (tree.Do' (tree.Store y z))) w1 x1 t1 s1 →
      Matches a r n (flat_goes a rest w1 t1) x1 tail s1) where
    slot_last : (from : Opnd) (d1 : NumbersDrawn) (v : ℕ) (s1 : Contents) → k < a.function.slots → IsWord v →
        Result a.activation d None s from d1 v s1 →
        Matches a (r + 1) n
        (with_memory (store w.memory (sub a.activation.base (4 * (k + 1))) v) w (λ w3. flat_goes a rest w3 t)) x
        (FrameStore from k ∷ tail) s1
    slot_last from d1 v s1 lt small p part = by (store w.memory (sub a.activation.base (4 * (k + 1))) v) refl
      where
        by : (o : Option Memory) → store w.memory (sub a.activation.base (4 * (k + 1))) v ≡ o →
            Simulates 1 (r + 1) n (with_memory o w (λ w3. flat_goes a rest w3 t))
            (goes (place a) x (FrameStore from k ∷ tail) s1)
        by None e = simulates_wrong 1 (r + 1) n (over Wrong w) _ (λ i. refl)
        by (Some m) e =
            let q = word_is_stored w x (sub a.activation.base (4 * (k + 1))) v m h.alike.holds small e in
            let framed = frame a w x h.alike in
            let hs = framed.statics in
            let hh = framed.heap in
            let at = below_base a.activation.base k framed.word (omega (arith, hs, lt)) in
            let same : put (slot a.activation.base k) (Has v) x.memory ≡ q.0 =
            slot_stored x.memory q.0 (slot a.activation.base k) v (omega (arith, hs, lt)) (omega (arith, hh, lt))
            (ap (λ i. store x.memory i v) (sym at) ∙ q.1) in
            let x1 = record x { memory = q.0 } in
            simulates_along 1 (r + 1) n (flat_goes a rest (record w { memory = m }) t)
            (flat_goes a rest (record w { memory = m }) t)
            (λ i. works 1 (goes (place a) x1 tail s1 i)) (goes (place a) x (FrameStore from k ∷ tail) s1) (λ i. refl)
            (λ i. ap (λ c. works 1 (with_content c x (λ o. if nat_lt k a.function.slots then
            goes (place a) (record x { memory = put (slot a.activation.base k) (cell_of o) x.memory }) tail s1
            else wrong x) i)) p.holds ∙
            (ap (λ (b : Bool). works 1 ((if b then
            goes (place a) (record x { memory = put (slot a.activation.base k) (Has v) x.memory }) tail s1
            else wrong x) i)) (is_below k a.function.slots lt) ∙
            ap (λ (j : Memory). works 1 (goes (place a) (record x { memory = j }) tail s1 i)) same))
            (works_behind (r + 1) n 1 r (flat_goes a rest (record w { memory = m }) t) (goes (place a) x1 tail s1)
            (omega arith)
            (next (record w { memory = m }) x1 t s1
            (passes a before (tree.Do' (tree.Store y z)) d w x (record w { memory = m }) x1 t s s1 (λ u i. refl) le h
            (alike_stored (most_statics a.program) a.program.room (within a) w x m q.0 h.alike q.2)
            (stay_same d.temp s s1 p.stay))
            (later_part (place a) (FrameStore from k ∷ []) tail part)))

    slot_at : tiles.slot a.function.slots y ≡ Some k →
        Matches a (r + 1) n
        (flat_worth a y (λ u w1 t1. flat_worth a z (λ v w2 t2. with_memory (store w2.memory u v) w2
        (λ w3. flat_goes a rest w3 t2)) w1 t1) w t) x
        (((expression a.function.slots z None >>= (λ v. puts (FrameStore v k))) d).code ++ tail) s
    slot_at at part =
        let scene = scene_in a w x t s h.alike h.temps in
        let q = slot_is scene y k at in
        known_worth a y (sub a.activation.base (4 * (k + 1)))
        (λ u w1 t1. flat_worth a z (λ v w2 t2. with_memory (store w2.memory u v) w2 (λ w3. flat_goes a rest w3 t2)) w1 t1)
        (r + 1) n (r + 1) w t _ fy q.0 (omega arith)
        (in_turn a (expression a.function.slots z None) (λ v. puts (FrameStore v k)) d tail (r + 1) n _ x s
        (expression_matches a z None d _ _ (r + 1) n (r + 1) w x t s h.alike h.temps (omega (arith, le)) fz hz tt
        (omega arith)
        (λ v s1 word_v iv p.
        slot_last (expression a.function.slots z None d).value (expression a.function.slots z None d).drawn v s1 q.1 word_v p))
        part)

  word_keeps : Keeps store
  word_keeps w x u v m holds small words e = word_is_stored w x u v m holds small e

  byte_keeps : Keeps store_byte
  byte_keeps w x u v m holds small words e = byte_is_stored w x u v m holds words e

  pub store_runs : (before : Option Linear) (y z : Tx) → IsFlat y → IsFlat z → HasWords y → HasWords z →
      Runs before (tree.Do' (tree.Store y z))
  store_runs before y z fy fz hy hz rest d tail w x t s h le next part =
      pays r n 0 r _ _ (omega arith) (pays r n 1 (r + 1) _ _ (omega arith) (by (tiles.slot a.function.slots y) refl part))
    where
      by : (o : Option ℕ) → tiles.slot a.function.slots y ≡ o →
          Matches a (r + 1) n
          (flat_worth a y (λ u w1 t1. flat_worth a z (λ v w2 t2. with_memory (store w2.memory u v) w2
          (λ w3. flat_goes a rest w3 t2)) w1 t1) w t) x
          ((stored a.function.slots o y z d).code ++ tail) s
      by (Some k) e = slot_at before y z fy fz hz k rest d tail w x t s h le next e
      by None e =
          store_at store word_keeps (λ from bytes base. Sw from bytes base) (λ from base bytes. refl) before
          (tree.Do' (tree.Store y z)) y z (λ u v. refl) fy fz hy hz rest d tail w x t s h le next

  pub byte_runs : (before : Option Linear) (y z : Tx) → IsFlat y → IsFlat z → HasWords y → HasWords z →
      Runs before (tree.Do' (tree.StoreByte y z))
  byte_runs before y z fy fz hy hz rest d tail w x t s h le next part =
      pays r n 0 r _ _ (omega arith) (pays r n 1 (r + 1) _ _ (omega arith)
      (store_at store_byte byte_keeps (λ from bytes base. Sb from bytes base) (λ from base bytes. refl) before
      (tree.Do' (tree.StoreByte y z)) y z (λ u v. refl) fy fz hy hz rest d tail w x t s h le next part))

-- Services.
module _ (a : Activated) (n : ℕ) where
  -- a choice that gives a word whatever happens, before what flat code does next
  pub choice_matches : {A : Type 0} (c : Choice A) (d : NumbersDrawn) (tail : List Instr) (r k credit u : ℕ) (flat : Run Ran)
      (x : World) (s : Contents) (Q : A → NumbersDrawn → ℕ → Contents → Type 0) → credit + k ≤ r →
      Behaves (place a) x c d s k (word u) Q →
      ((s1 : Contents) → Q (c d).value (c d).drawn u s1 → Matches a credit n flat x tail s1) →
      Matches a r n flat x ((c d).code ++ tail) s
  choice_matches c d tail r k credit u flat x s Q le does next part =
      simulates_with_credit 1 (credit + k) r n flat (goes (place a) x ((c d).code ++ tail) s) le
      (does_simulate x x _ credit n k (goes (place a) x ((c d).code ++ tail) s) (word u) (λ v. flat) refl
      (known (place a) x c d s k (word u) Q does tail part)
      (λ v z q. subst (λ y. Simulates 1 credit n flat y) (sym q.is)
      (next q.contents (subst (λ i. Q (c d).value (c d).drawn i q.contents) (sym (same_word u v q.holds.0)) q.holds.1)
      (later_part (place a) (c d).code tail part))))

  module _ (e : Tx) (asks : ℕ) (flat : IsFlat e) (small : HasWords e) (word_asks : IsWord asks) (d : NumbersDrawn)
      (tail : List Instr) (r credit : ℕ) (fits : credit + 4 ≤ r) (w x : World) (t : Temps) (s : Contents)
      (alike : AlikeIn a w x) (temps : TempsAlike a.function.temps t s) (le : a.function.temps + kept_count ≤ d.temp)
      (go : Go ℕ)
      (next : (v : ℕ) (w1 x1 : World) (s1 : Contents) → IsWord v → AlikeIn a w1 x1 → SameTemps d.temp s s1 →
      s1 (Operand (Reg 2)) ≡ Word v → Matches a credit n (go v w1 t) x1 tail s1) where
    abbrev goes_next : ℕ → World → Run Ran
    goes_next v w1 = go v w1 t

    service_last : (u : ℕ) (s2 : Contents) → SameTemps d.temp s s2 → held a.activation s2 (Operand (Reg 2)) ≡ Word asks →
        s2 (Operand (Reg 4)) ≡ Word u →
        Matches a (credit + 1) n (service a.program.room asks u w goes_next) x (Service ∷ tail) s2
    service_last u s2 same two four part =
        simulates_along 1 (credit + 1) n (service a.program.room asks u w goes_next) (service a.program.room asks u w goes_next)
        (λ i. works 1 (service a.program.room asks u x
        (λ v x1. goes (place a) x1 tail (set (Operand (Reg 2)) (Word v) s2)) i))
        (goes (place a) x (Service ∷ tail) s2) (λ i. refl)
        (λ i. ap (λ c. works 1 (with_content_word c x (λ k. with_content_word (s2 (Operand (Reg 4))) x
        (λ v. service a.program.room k v x (λ z x1. goes (place a) x1 tail (set (Operand (Reg 2)) (Word z) s2)))) i)) two ∙
        ap (λ c. works 1 (with_content_word c x
        (λ v. service a.program.room asks v x (λ z x1. goes (place a) x1 tail (set (Operand (Reg 2)) (Word z) s2))) i)) four)
        (works_behind (credit + 1) n 1 credit _ _ (omega arith)
        (service_simulates (most_statics a.program) a.program.room (within a) (heap_fits a) 1 credit n goes_next
        (λ v x1. goes (place a) x1 tail (set (Operand (Reg 2)) (Word v) s2))
        (λ v w1 x1 word_v alike1.
        next v w1 x1 (set (Operand (Reg 2)) (Word v) s2) word_v alike1 (λ i lt. same i lt) refl
        (later_part (place a) (Service ∷ []) tail part))
        asks u w x word_asks alike (bytes_seen w x alike.holds)))

    number_next : (u : ℕ) (d1 : NumbersDrawn) (s1 : Contents) → SameTemps d.temp s s1 → s1 (Operand (Reg 4)) ≡ Word u →
        Matches a (credit + 3) n (service a.program.room asks u w goes_next) x
        (((constant (Reg 2) asks >> puts Service) d1).code ++ tail) s1
    number_next u d1 s1 same four =
        in_turn a (constant (Reg 2) asks) (λ y. puts Service) d1 tail (credit + 3) n _ x s1
        (choice_matches (constant (Reg 2) asks) d1 (Service ∷ tail) (credit + 3) 2 (credit + 1) asks
        (service a.program.room asks u w goes_next) x s1 (Sets (Reg 2) d1 s1) (omega arith)
        (constant_does (place a) x (Reg 2) asks d1 s1 (refl, refl) word_asks)
        (λ s2 q.
        service_last u s2 (λ i lt. q.1 (temp i) ∙ same i lt) (set_holds a.activation (Reg 2) asks s1 s2 (refl, refl) q.1)
        (q.1 (Reg 4) ∙ four)))

    pub service_matches : Matches a r n
        (flat_worth a e (λ u w1 t1. service a.program.room asks u w1 (λ v w2. go v w2 t1)) w t) x
        ((asked asks (expression a.function.slots e (Some (Reg 4))) d).code ++ tail) s
    service_matches =
        in_turn a (expression a.function.slots e (Some (Reg 4))) (λ y. constant (Reg 2) asks >> puts Service) d tail r n _ x s
        (expression_matches a e (Some (Reg 4)) d _ _ r n (credit + 3) w x t s alike temps (omega (arith, le)) flat small
        (refl, refl) (omega (arith, fits))
        (λ u s1 word_u iu q.
        number_next u (expression a.function.slots e (Some (Reg 4)) d).drawn s1 (register_same d.temp 4 s s1 q.stay)
        (subst (λ y. held a.activation s1 (Operand y) ≡ Word u) q.there q.holds)))
