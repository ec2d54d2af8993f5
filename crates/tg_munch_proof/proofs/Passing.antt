-- The arguments of a call, given one after another to $a0 to $a3 and to the low words of the frame.
use Rattle.std.proofs.Common.{◌≡◌, ◌≢◌, ◌≤◌, ◌<◌, ℕ, suc, ◌+◌, ◌-◌, ◌*◌, List, [], ◌∷◌, ◌++◌, Bool}
use Rattle.std.proofs.Common.{true, false, refl, sym, ap, ◌∙◌, subst, arith}
use Rattle.std.proofs.lemmas.Bool.Decides.{nat_tests}
use Rattle.std.specs.Prelude.{◌==◌, nat_lt, Some, None, if◌then◌else◌}
use Rattle.tg_simulation.specs.Runs.{Run}
use Rattle.tg_simulation.specs.Ran.{Ran, Ended, WantsFuel, Wrong}
use Rattle.tg_simulation.specs.laws.Simulating.{Simulates}
use Rattle.tg_simulation.proofs.Simulations.{simulates_along, simulates_wrong, simulates_with_credit}
use Rattle.tg_tree.specs.Tree.{Tx, Txs, no_txs, tx}
use Rattle.tg_tree.specs.Shapes.{IsFlat, AreFlat}
use Rattle.tg_tree.specs.Memory.{Memory, Has}
use Rattle.tg_tree.specs.Operators.{Given, word, stops_by}
use Rattle.tg_tree.specs.FlatValue.{after_word}
use Rattle.tg_tree.specs.Actions.{World, Temps, over, with_given}
use Rattle.tg_tree.proofs.Relating.{with_put}
use Rattle.tg_instr.specs.declared.operands.Opnd.{Opnd}
use Rattle.tg_instr.specs.declared.operands.Opnd.TheVariants.{Reg}
use Rattle.tg_instr.specs.declared.instr.Instr.{Instr}
use Rattle.tg_instr.specs.Shapes.{Operand}
use Rattle.tg_instr.specs.Contents.{Word, Contents, held}
use Rattle.tg_munch.specs.mirror.Choosing.{Choice, NumbersDrawn, ◌>>=◌, ◌>>◌, give}
use Rattle.tg_munch.specs.mirror.Arguments.{is_in_register, is_in_frame, is_anywhere, one_may_end, ordered}
use Rattle.tg_munch.specs.mirror.Munching.{argument, expression, store_low, passed, arguments}
use Rattle.tg_munch.specs.mirror.Bodies.{outs, count}
use Rattle.tg_munch.specs.laws.Lengths.{kept_count}
use Rattle.tg_munch_proof.specs.Words.{IsWord, HasWords, HaveWords}
use Rattle.tg_munch_proof.specs.glue.Places.{Behaves, goes}
use Rattle.tg_munch_proof.specs.laws.Values.{Result}
use Rattle.tg_munch_proof.proofs.Behaving.{known, so, later_part}
use Rattle.tg_munch_proof.proofs.Does.{does_simulate}
use Rattle.tg_munch_proof.proofs.Growing.{behind_it, gives, store_grows, expression_grows, arguments_grow}
use Rattle.tg_munch_proof.proofs.Loading.{expression_does}
use Rattle.tg_munch_proof.proofs.Results.{itself}
use Rattle.tg_munch_proof.specs.glue.Relating.{TempsAlike, ArePassed}
use Rattle.tg_munch_proof.proofs.Asking.{same_input}
use Rattle.tg_munch_proof.proofs.Between.{Activated, place, worth, spends, AlikeIn, Matches, in_turn, let_go, done}
use Rattle.tg_munch_proof.proofs.Between.{scene_in, literals}
use Rattle.tg_munch_proof.proofs.Frames.{not_equal}
use Rattle.tg_munch_proof.proofs.Listed.{Listed, all_words, put_first, after_given, with_list, OnlyWrong}
use Rattle.tg_munch_proof.proofs.Listed.{given_listed, listed, picked_spend, all_spend, NeverEnd, all_picked}
use Rattle.tg_munch_proof.proofs.Listed.{words_never_end, frame_first, any_spend, apart_spend}
use Rattle.tg_munch_proof.proofs.LowWords.{low, out_word, out_alike, low_stored}
use Rattle.tg_munch_proof.proofs.Moves.{SameTemps, stay_same, register_same, same_on, knows, temps_same}

not_so : true ≡ false → ⊥
not_so e = cc

-- a register other than one that is written
registers_differ : (i k : ℕ) → i ≢ k → (4 + i == 4 + k) ≡ false
registers_differ i k h = grind (arith, nat_tests)

picked_differ : (picks : ℕ → Bool) (i k : ℕ) → picks i ≡ true → picks k ≡ false → k ≢ i
picked_differ picks i k h e same = not_so (sym h ∙ (ap picks (sym same) ∙ e))

module _ (a : Activated) where
  -- arguments from one on, of those that a test picks
  pub record IsGiven (picks : ℕ → Bool) (s : Contents) (m : Memory) (i v : ℕ) : Type 0 where
    pub in_register : picks i ≡ true → i < 4 → s (Operand (Reg (4 + i))) ≡ Word v
    pub in_frame : picks i ≡ true → 4 ≤ i → m.stack (out_word a i) ≡ Has v
    pub word : IsWord v

  abbrev pub AreGiven : (ℕ → Bool) → Contents → Memory → ℕ → List ℕ → Type 0
  AreGiven picks s m i [] = Unit {0}
  AreGiven picks s m i (v ∷ vs) = IsGiven picks s m i v × AreGiven picks s m (i + 1) vs

  -- what stays meanwhile
  pub record Spares (picks : ℕ → Bool) (i n : ℕ) (s s1 : Contents) (m m1 : Memory) : Type 0 where
    pub temps : SameTemps n s s1
    pub earlier : (k : ℕ) → k < i → s1 (Operand (Reg (4 + k))) ≡ s (Operand (Reg (4 + k)))
    pub others : (k : ℕ) → picks k ≡ false → s1 (Operand (Reg (4 + k))) ≡ s (Operand (Reg (4 + k)))
    pub earlier_words : (k : ℕ) → 4 ≤ k → k < i → m1.stack (out_word a k) ≡ m.stack (out_word a k)
    pub other_words : (k : ℕ) → 4 ≤ k → picks k ≡ false → m1.stack (out_word a k) ≡ m.stack (out_word a k)

  -- where the arguments come to stand, before flat code that hasn't moved
  module _ (n : ℕ) where
    -- what comes of a given word, before flat code that hasn't moved
    given_matches : {A : Type 0} (c : Choice A) (d : NumbersDrawn) (e : Tx) (tail : List Instr) (r k credit : ℕ)
        (go : ℕ → Run Ran) (w x : World) (t : Temps) (s : Contents) (Q : A → NumbersDrawn → ℕ → Contents → Type 0) →
        w.input ≡ x.input → credit + k ≤ r → Behaves (place a) x c d s k (worth a w t e) Q →
        ((v : ℕ) (s1 : Contents) → worth a w t e ≡ word v → Q (c d).value (c d).drawn v s1 → Matches a credit n (go v) x tail s1) →
        Matches a r n (with_given (worth a w t e) w go) x ((c d).code ++ tail) s
    given_matches c d e tail r k credit go w x t s Q same le does next part =
        simulates_with_credit 1 (credit + k) r n (with_given (worth a w t e) w go) (goes (place a) x ((c d).code ++ tail) s) le
        (does_simulate w x _ credit n k (goes (place a) x ((c d).code ++ tail) s) (worth a w t e) go same
        (known (place a) x c d s k (worth a w t e) Q does tail part)
        (λ v z q. subst (λ y. Simulates 1 credit n (go v) y) (sym q.is)
        (next v q.contents q.holds.0 q.holds.1 (later_part (place a) (c d).code tail part))))

    module _ (picks : ℕ → Bool) (w : World) (t : Temps) where
      abbrev list_of : Txs → Listed
      list_of xs = listed (literals a) a.activation.base w.memory t xs

      abbrev cost_of : ℕ → Txs → ℕ
      cost_of i xs = picked_spend (literals a) a.activation.base w.memory t picks i xs

      -- what all arguments from one on come to
      abbrev Given_next : ℕ → Txs → ℕ → (credit : ℕ) → (List ℕ → Run Ran) → World → Contents → List Instr → Type 0
      Given_next i xs m credit go x s tail =
          (vs : List ℕ) (x1 : World) (s1 : Contents) → list_of xs ≡ all_words vs → AlikeIn a w x1 →
          AreGiven picks s1 x1.memory i vs → Spares picks i m s s1 x.memory x1.memory →
          Matches a credit n (go vs) x1 tail s1

      spares_none : (i m : ℕ) (s : Contents) (x : World) → Spares picks i m s s x.memory x.memory
      spares_none i m s x = record {
        temps = λ k lt. refl;
        earlier = λ k lt. refl;
        others = λ k e. refl;
        earlier_words = λ k le lt. refl;
        other_words = λ k le e. refl;
      }

      -- an argument, after the ones before it
      abbrev Step : ℕ → ℕ → ℕ → Contents → Contents → World → World → Type 0
      Step i m v s s1 x x1 =
          (SameTemps m s s1) ×
          ((k : ℕ) → (k ≢ i) → s1 (Operand (Reg (4 + k))) ≡ s (Operand (Reg (4 + k)))) ×
          ((k : ℕ) → (4 ≤ k) → (k ≢ i) → x1.memory.stack (out_word a k) ≡ x.memory.stack (out_word a k))

      below_other : (k i : ℕ) → k < i → k ≢ i
      below_other k i lt e = omega (arith, lt, e)

      spares_on : (i m m1 v : ℕ) (s s1 s2 : Contents) (x x1 x2 : World) → m ≤ m1 →
          (picks i ≡ true) → Step i m v s s1 x x1 → Spares picks (i + 1) m1 s1 s2 x1.memory x2.memory →
          Spares picks i m s s2 x.memory x2.memory
      spares_on i m m1 v s s1 s2 x x1 x2 le picked step h = record {
        temps = same_on m m1 s s1 s2 le step.0 h.temps;
        earlier = λ k lt. h.earlier k (omega (arith, lt)) ∙ step.1 k (below_other k i lt);
        others = λ k e. h.others k e ∙ step.1 k (picked_differ picks i k picked e);
        earlier_words = λ k le lt. h.earlier_words k le (omega (arith, lt)) ∙ step.2 k le (below_other k i lt);
        other_words = λ k le e. h.other_words k le e ∙ step.2 k le (picked_differ picks i k picked e);
      }

      put_elsewhere : (k i v : ℕ) (x : World) → 4 ≤ k → 4 ≤ i → k ≢ i →
          (with_put (low a + 4 * (i - 4)) (Has v) x).memory.stack (out_word a k) ≡ x.memory.stack (out_word a k)
      put_elsewhere k i v x le lo other =
          ap (λ (b : Bool). if b then Has v else x.memory.stack (out_word a k))
          (not_equal (low a + 4 * (k - 4)) (low a + 4 * (i - 4)) (λ e. let z : ⊥ = differ e in z))
        where
          differ : low a + 4 * (k - 4) ≡ low a + 4 * (i - 4) → ⊥
          differ e = other (omega (arith, le, lo, e))

      put_here : (i v : ℕ) (x : World) → (with_put (low a + 4 * (i - 4)) (Has v) x).memory.stack (out_word a i) ≡ Has v
      put_here i v x = ap (λ (b : Bool). if b then Has v else x.memory.stack (out_word a i)) (itself (low a + 4 * (i - 4)))

      spares_less : (i m : ℕ) (s s1 : Contents) (q q1 : Memory) → Spares picks (i + 1) m s s1 q q1 → Spares picks i m s s1 q q1
      spares_less i m s s1 q q1 h = record {
        temps = h.temps;
        earlier = λ k lt. h.earlier k (omega (arith, lt));
        others = h.others;
        earlier_words = λ k le lt. h.earlier_words k le (omega (arith, lt));
        other_words = h.other_words;
      }

      list_turn : (g : Given) (l : Listed) (r : ℕ) (go : List ℕ → Run Ran) (x : World) (code : List Instr) (s : Contents) →
          Matches a r n (with_given g w (λ v. with_list l w (λ vs. go (v ∷ vs)))) x code s →
          Matches a r n (with_list (after_given g l) w go) x code s
      list_turn g l r go x code s h part =
          simulates_along 1 r n (with_given g w (λ v. with_list l w (λ vs. go (v ∷ vs)))) (with_list (after_given g l) w go)
          (goes (place a) x code s) (goes (place a) x code s) (λ k. given_listed g l w go k) (λ k. refl) (h part)

      -- the arguments that are left
      abbrev Rest : ℕ → Txs → List Instr → ℕ → Type 0
      Rest i ys tail credit =
          (d : NumbersDrawn) (r : ℕ) (go : List ℕ → Run Ran) (x : World) (s : Contents) →
          credit + cost_of i ys ≤ r → a.function.temps + kept_count ≤ d.temp → AlikeIn a w x →
          TempsAlike a.function.temps t s → Given_next i ys d.temp credit go x s tail →
          Matches a r n (with_list (list_of ys) w go) x ((arguments a.function.slots picks i ys d).code ++ tail) s

      settable : (i : ℕ) → i < 4 → ((4 + i == 0) ≡ false) × ((4 + i == 29) ≡ false)
      settable i lt = (grind (arith, nat_tests), grind (arith, nat_tests))

      register_held : (k : ℕ) (s : Contents) → (k == 0) ≡ false → (k == 29) ≡ false →
          held a.activation s (Operand (Reg k)) ≡ s (Operand (Reg k))
      register_held k s e h =
          ap (λ (b : Bool). if b then Word 0 else if k == 29 then Word (low a) else s (Operand (Reg k))) e ∙
          ap (λ (b : Bool). if b then Word (low a) else s (Operand (Reg k))) h

      is_below : (i : ℕ) → nat_lt i 4 ≡ true → i < 4
      is_below i e = grind (arith, nat_tests)

      is_past : (i : ℕ) → nat_lt i 4 ≡ false → 4 ≤ i
      is_past i e = grind (arith, nat_tests)

      module _ (i : ℕ) (y : Tx) (ys : Txs) (fy : IsFlat y) (hy : HasWords y) (few : (i + suc (count ys)) - 4 ≤ outs a.function.body)
          (only : picks i ≡ false → OnlyWrong (worth a w t y)) (d : NumbersDrawn) (tail : List Instr) (r credit : ℕ)
          (go : List ℕ → Run Ran) (x : World) (s : Contents)
          (le : credit + cost_of i (tx y ys) ≤ r) (drawn : a.function.temps + kept_count ≤ d.temp) (alike : AlikeIn a w x)
          (temps : TempsAlike a.function.temps t s) (next : Given_next i (tx y ys) d.temp credit go x s tail)
          (rest : Rest (i + 1) ys tail credit) where
        abbrev slots : ℕ
        slots = a.function.slots

        abbrev left : ℕ
        left = cost_of (i + 1) ys

        abbrev later : ℕ → List ℕ → Run Ran
        later v vs = go (v ∷ vs)

        word_of : (v : ℕ) → worth a w t y ≡ word v → IsWord v
        word_of v e = (scene_in a w x t s alike temps).sees.words y v fy hy e

        -- one that isn't picked
        unpicked : picks i ≡ false → (g : Given) → worth a w t y ≡ g →
            Matches a r n (with_given g w (λ v. with_list (list_of ys) w (later v))) x
            ((arguments slots picks (i + 1) ys d).code ++ tail) s
        unpicked e (word v) is =
            let cost : cost_of i (tx y ys) ≡ 0 + left =
            ap (λ (b : Bool). (if b then spends a w t y + 4 else 0) + after_word (worth a w t y) left) e ∙
            ap (λ g. 0 + after_word g left) is in
            rest d r (later v) x s (omega (arith, le, cost)) drawn alike temps
            (λ vs x1 s1 so alike1 given spares.
            next (v ∷ vs) x1 s1 (ap (λ g. after_given g (list_of ys)) is ∙ ap (put_first v) so) alike1 (
              record {
                in_register = λ p lt. absurd (not_so (sym p ∙ e));
                in_frame = λ p lo. absurd (not_so (sym p ∙ e));
                word = word_of v is;
              },
              given,
            )
            (spares_less i d.temp s s1 x.memory x1.memory spares))
        unpicked e (stops_by Wrong) is = λ part. simulates_wrong 1 r n (over Wrong w) _ (λ k. refl)
        unpicked e (stops_by (Ended z)) is = absurd (subst OnlyWrong is (only e))
        unpicked e (stops_by WantsFuel) is = absurd (subst OnlyWrong is (only e))

        -- one in a register
        in_register_next : picks i ≡ true → (lt : i < 4) → (o : Opnd) (d1 d2 : NumbersDrawn) (v : ℕ) (s1 : Contents) →
            worth a w t y ≡ word v → d.temp ≤ d2.temp →
            Result a.activation d (Some (argument i)) s o d1 v s1 →
            Matches a (credit + after_word (worth a w t y) left) n (with_list (list_of ys) w (later v)) x
            ((arguments slots picks (i + 1) ys d2).code ++ tail) s1
        in_register_next e lt o d1 d2 v s1 is more q =
            let all : after_word (worth a w t y) left ≡ left = ap (λ g. after_word g left) is in
            let there : s1 (Operand (Reg (4 + i))) ≡ Word v =
            sym (register_held (4 + i) s1 (settable i lt).0 (settable i lt).1) ∙
            subst (λ z. held a.activation s1 (Operand z) ≡ Word v) q.there q.holds in
            let same = register_same d.temp (4 + i) s s1 q.stay in
            rest d2 (credit + after_word (worth a w t y) left) (later v) x s1 (omega (arith, all)) (omega (arith, drawn, more)) alike
            (temps_same a.function.temps d.temp t s s1 (omega (arith, drawn)) same temps)
            (λ vs x1 s2 so alike1 given spares.
            next (v ∷ vs) x1 s2 (ap (λ g. after_given g (list_of ys)) is ∙ ap (put_first v) so) alike1 (
              record {
                in_register = λ p below. spares.earlier i (omega arith) ∙ there;
                in_frame = λ p lo. let z : ⊥ = omega (arith, lo, lt) in absurd z;
                word = word_of v is;
              },
              given,
            )
            (spares_on i d.temp d2.temp v s s1 s2 x x x1 more e
            (same, (λ k other. q.stay (Reg (4 + k)) tt (registers_differ k i other)), (λ k lo other. refl)) spares))

        -- one in the frame
        in_frame_next : picks i ≡ true → (lo : 4 ≤ i) → (o : Opnd) (d1 d2 d3 : NumbersDrawn) (v : ℕ) (s1 : Contents) →
            worth a w t y ≡ word v → d.temp ≤ d3.temp →
            Result a.activation d None s o d1 v s1 →
            Matches a (credit + after_word (worth a w t y) left + 4) n (with_list (list_of ys) w (later v)) x
            ((store_low (4 * (i - 4)) o d1).code ++ ((arguments slots picks (i + 1) ys d3).code ++ tail)) s1
        in_frame_next e lo o d1 d2 d3 v s1 is more q =
            let all : after_word (worth a w t y) left ≡ left = ap (λ g. after_word g left) is in
            let fits : i - 4 < outs a.function.body = omega (arith, few, lo) in
            let first = q.drawn in
            low_stored a n (i - 4) v o d1 ((arguments slots picks (i + 1) ys d3).code ++ tail)
            (credit + after_word (worth a w t y) left + 4) (credit + left) (with_list (list_of ys) w (later v)) w x s1 fits q.there
            q.holds (omega (arith, all)) alike
            (λ s2 stay.
            let same = same_on d.temp d1.temp s s1 s2 first (stay_same d.temp s s1 q.stay) (stay_same d1.temp s1 s2 stay) in
            rest d3 (credit + left) (later v) (with_put (low a + 4 * (i - 4)) (Has v) x) s2 (omega arith) (omega (arith, drawn, more))
            (out_alike a (i - 4) v w x fits alike)
            (temps_same a.function.temps d.temp t s s2 (omega (arith, drawn)) same temps)
            (λ vs x1 s3 so alike1 given spares.
            next (v ∷ vs) x1 s3 (ap (λ g. after_given g (list_of ys)) is ∙ ap (put_first v) so) alike1 (
              record {
                in_register = λ p below. let z : ⊥ = omega (arith, lo, below) in absurd z;
                in_frame = λ p high. spares.earlier_words i lo (omega arith) ∙ put_here i v x;
                word = word_of v is;
              },
              given,
            )
            (spares_on i d.temp d3.temp v s s2 s3 x (with_put (low a + 4 * (i - 4)) (Has v) x) x1 more e (
              same,
              (λ k other. stay (Reg (4 + k)) tt tt ∙ q.stay (Reg (4 + k)) tt tt),
              (λ k high other. put_elsewhere k i v x high lo other),
            ) spares)))

        picked : picks i ≡ true → (c : Bool) → nat_lt i 4 ≡ c →
            Matches a r n (with_list (after_given (worth a w t y) (list_of ys)) w go) x
            ((((if c then (expression slots y (Some (argument i)) >> give tt) else
            (expression slots y None >>= (λ v. store_low (4 * (i - 4)) v))) >>
            arguments slots picks (i + 1) ys) d).code ++ tail) s
        picked e true c =
            let lt = is_below i c in
            let cost : cost_of i (tx y ys) ≡ (spends a w t y + 4) + after_word (worth a w t y) left =
            ap (λ (b : Bool). (if b then spends a w t y + 4 else 0) + after_word (worth a w t y) left) e in
            in_turn a (expression slots y (Some (argument i)) >> done a) (λ z. arguments slots picks (i + 1) ys) d tail r n _ x s
            (let_go a (expression slots y (Some (argument i))) d _ r n _ x s
            (list_turn (worth a w t y) (list_of ys) r go x _ s
            (given_matches (expression slots y (Some (argument i))) d y _ r (spends a w t y + 1)
            (credit + after_word (worth a w t y) left) (λ v. with_list (list_of ys) w (later v)) w x t s
            (Result a.activation d (Some (argument i)) s) (same_input w x alike.holds) (omega (arith, le, cost))
            (expression_does (scene_in a w x t s alike temps) y fy hy (Some (argument i)) d s
            (settable i lt) (knows a.function.temps t d s (omega (arith, drawn)) temps))
            (λ v s1 is q.
            in_register_next e lt (expression slots y (Some (argument i)) d).value (expression slots y (Some (argument i)) d).drawn
            ((expression slots y (Some (argument i)) >> done a) d).drawn v s1 is
            ((behind_it {first = expression slots y (Some (argument i))} {onward = λ z. done a}
            (expression_grows slots y (Some (argument i))) (λ z. gives tt)).temps d) q))))
        picked e false c =
            let lo = is_past i c in
            let cost : cost_of i (tx y ys) ≡ (spends a w t y + 4) + after_word (worth a w t y) left =
            ap (λ (b : Bool). (if b then spends a w t y + 4 else 0) + after_word (worth a w t y) left) e in
            in_turn a (expression slots y None >>= (λ v. store_low (4 * (i - 4)) v)) (λ z. arguments slots picks (i + 1) ys)
            d tail r n _ x s
            (in_turn a (expression slots y None) (λ v. store_low (4 * (i - 4)) v) d _ r n _ x s
            (list_turn (worth a w t y) (list_of ys) r go x _ s
            (given_matches (expression slots y None) d y _ r (spends a w t y + 0)
            (credit + after_word (worth a w t y) left + 4) (λ v. with_list (list_of ys) w (later v)) w x t s
            (Result a.activation d None s) (same_input w x alike.holds) (omega (arith, le, cost))
            (expression_does (scene_in a w x t s alike temps) y fy hy None d s
            tt (knows a.function.temps t d s (omega (arith, drawn)) temps))
            (λ v s1 is q.
            in_frame_next e lo (expression slots y None d).value (expression slots y None d).drawn
            (expression slots y None d).drawn
            ((expression slots y None >>= (λ z. store_low (4 * (i - 4)) z)) d).drawn v s1 is
            ((behind_it {first = expression slots y None} {onward = λ z. store_low (4 * (i - 4)) z}
            (expression_grows slots y None) (λ z. store_grows (4 * (i - 4)) z)).temps d) q))))

        one_more : (b : Bool) → picks i ≡ b →
            Matches a r n (with_list (after_given (worth a w t y) (list_of ys)) w go) x
            ((((if b then passed i (expression slots y) else give tt) >>
            arguments slots picks (i + 1) ys) d).code ++ tail) s
        one_more true e = picked e (nat_lt i 4) refl
        one_more false e =
            in_turn a (done a) (λ z. arguments slots picks (i + 1) ys) d tail r n _ x s
            (list_turn (worth a w t y) (list_of ys) r go x _ s (unpicked e (worth a w t y) refl))

      pub give_matches : (i : ℕ) (xs : Txs) → AreFlat xs → HaveWords xs → (i + count xs) - 4 ≤ outs a.function.body →
          NeverEnd (literals a) a.activation.base w.memory t picks i xs →
          (tail : List Instr) (credit : ℕ) → Rest i xs tail credit
      give_matches i no_txs flat small few never tail credit d r go x s le drawn alike temps next = λ part.
          simulates_with_credit 1 credit r n (go []) (goes (place a) x tail s) (omega (arith, le))
          (next [] x s refl alike tt (spares_none i d.temp s x) part)
      give_matches i (tx y ys) flat small few never tail credit d r go x s le drawn alike temps next =
          one_more i y ys flat.0 small.0 few never.0 d tail r credit go x s le drawn alike temps next
          (give_matches (i + 1) ys flat.1 small.1 (omega (arith, few)) never.1 tail credit) (picks i) refl

    -- All arguments of a call, in the order that is chosen.
    module _ (xs : Txs) (flat : AreFlat xs) (small : HaveWords xs) (few : count xs - 4 ≤ outs a.function.body) (w : World)
        (t : Temps) where
      abbrev all_of : Listed
      all_of = listed (literals a) a.activation.base w.memory t xs

      abbrev spends_all : ℕ
      spends_all = all_spend (literals a) a.activation.base w.memory t xs

      -- what stands where the call does
      pub record Passed (vs : List ℕ) (m : ℕ) (s s1 : Contents) (x1 : World) : Type 0 where
        pub arguments : ArePassed (low a) s1 x1.memory 0 vs
        pub temps : SameTemps m s s1

      passed_from : (i : ℕ) (vs : List ℕ) (s : Contents) (q : Memory) → AreGiven is_anywhere s q i vs → ArePassed (low a) s q i vs
      passed_from i [] s q h = tt
      passed_from i (v ∷ vs) s q h = (
        record { low = λ lt. h.0.in_register refl lt; high = λ le. h.0.in_frame refl le; word = h.0.word },
        passed_from (i + 1) vs s q h.1,
      )

      in_reg : (i : ℕ) → i < 4 → is_in_register i ≡ true
      in_reg i lt = grind (arith, nat_tests)

      not_reg : (i : ℕ) → 4 ≤ i → is_in_register i ≡ false
      not_reg i le = grind (arith, nat_tests)

      in_fr : (i : ℕ) → 4 ≤ i → is_in_frame i ≡ true
      in_fr i le = grind (arith, nat_tests)

      -- those in the frame first, and then those in registers
      passed_apart : (i : ℕ) (vs : List ℕ) (s1 s2 : Contents) (q1 q2 : Memory) →
          AreGiven is_in_frame s1 q1 i vs → AreGiven is_in_register s2 q2 i vs →
          ((k : ℕ) → 4 ≤ k → is_in_register k ≡ false → q2.stack (out_word a k) ≡ q1.stack (out_word a k)) →
          ArePassed (low a) s2 q2 i vs
      passed_apart i [] s1 s2 q1 q2 h k stay = tt
      passed_apart i (v ∷ vs) s1 s2 q1 q2 h k stay = (
        record {
          low = λ lt. k.0.in_register (in_reg i lt) lt;
          high = λ le. stay i le (not_reg i le) ∙ h.0.in_frame (in_fr i le) le;
          word = k.0.word;
        },
        passed_apart (i + 1) vs s1 s2 q1 q2 h.1 k.1 stay,
      )

      same_list : (vs us : List ℕ) (l : Listed) → l ≡ all_words vs → l ≡ all_words us → vs ≡ us
      same_list vs us l e h = same (sym e ∙ h)
        where
          same : all_words vs ≡ all_words us → vs ≡ us
          same q = cc

      pub arguments_match : (d : NumbersDrawn) (tail : List Instr) (r credit : ℕ) (go : List ℕ → Run Ran) (x : World) (s : Contents) →
          credit + spends_all ≤ r → a.function.temps + kept_count ≤ d.temp → AlikeIn a w x → TempsAlike a.function.temps t s →
          ((vs : List ℕ) (x1 : World) (s1 : Contents) → all_of ≡ all_words vs → AlikeIn a w x1 → Passed vs d.temp s s1 x1 →
          Matches a credit n (go vs) x1 tail s1) →
          Matches a r n (with_list all_of w go) x
          ((ordered (one_may_end 0 xs) (λ picks. arguments a.function.slots picks 0 xs) d).code ++ tail) s
      arguments_match d tail r credit go x s le drawn alike temps next = by (one_may_end 0 xs) refl
        where
          in_place : Matches a r n (with_list all_of w go) x ((arguments a.function.slots is_anywhere 0 xs d).code ++ tail) s
          in_place =
              let most = any_spend (literals a) a.activation.base w.memory t 0 xs in
              give_matches is_anywhere w t 0 xs flat small (omega (arith, few)) (all_picked (literals a) a.activation.base w.memory t 0 xs)
              tail credit d r go x s (omega (arith, le, most)) drawn alike temps
              (λ vs x1 s1 so alike1 given spares.
              next vs x1 s1 so alike1 (record { arguments = passed_from 0 vs s1 x1.memory given; temps = spares.temps }))

          registers_next : (d1 : NumbersDrawn) (x1 : World) (s1 : Contents) (vs : List ℕ) → d.temp ≤ d1.temp → all_of ≡ all_words vs →
              AlikeIn a w x1 → AreGiven is_in_frame s1 x1.memory 0 vs → SameTemps d.temp s s1 →
              Matches a (credit + picked_spend (literals a) a.activation.base w.memory t is_in_register 0 xs) n (go vs) x1
              ((arguments a.function.slots is_in_register 0 xs d1).code ++ tail) s1
          registers_next d1 x1 s1 vs more so alike1 given same =
              subst (λ l. Matches a (credit + picked_spend (literals a) a.activation.base w.memory t is_in_register 0 xs) n
              (with_list l w go) x1 ((arguments a.function.slots is_in_register 0 xs d1).code ++ tail) s1) so
              (give_matches is_in_register w t 0 xs flat small (omega (arith, few))
              (words_never_end (literals a) a.activation.base w.memory t is_in_register 0 xs vs so) tail credit d1
              (credit + picked_spend (literals a) a.activation.base w.memory t is_in_register 0 xs) go x1 s1 (omega arith)
              (omega (arith, drawn, more)) alike1 (temps_same a.function.temps d.temp t s s1 (omega (arith, drawn)) same temps)
              (λ us x2 s2 also alike2 last spares.
              next us x2 s2 also alike2
              (record {
                arguments = passed_apart 0 us s1 s2 x1.memory x2.memory
                    (subst (λ l. AreGiven is_in_frame s1 x1.memory 0 l) (same_list vs us all_of so also) given) last
                    spares.other_words;
                temps = same_on d.temp d1.temp s s1 s2 more same spares.temps;
              })))

          apart : one_may_end 0 xs ≡ false →
              Matches a r n (with_list all_of w go) x
              (((arguments a.function.slots is_in_frame 0 xs >> arguments a.function.slots is_in_register 0 xs) d).code ++ tail) s
          apart e =
              let most = apart_spend (literals a) a.activation.base w.memory t 0 xs in
              in_turn a (arguments a.function.slots is_in_frame 0 xs) (λ z. arguments a.function.slots is_in_register 0 xs) d tail
              r n _ x s
              (give_matches is_in_frame w t 0 xs flat small (omega (arith, few))
              (frame_first (literals a) a.activation.base w.memory t 0 xs flat e)
              ((arguments a.function.slots is_in_register 0 xs (arguments a.function.slots is_in_frame 0 xs d).drawn).code ++ tail)
              (credit + picked_spend (literals a) a.activation.base w.memory t is_in_register 0 xs) d r go x s
              (omega (arith, le, most)) drawn alike temps
              (λ vs x1 s1 so alike1 given spares.
              registers_next (arguments a.function.slots is_in_frame 0 xs d).drawn x1 s1 vs
              ((arguments_grow a.function.slots is_in_frame 0 xs).temps d) so alike1 given spares.temps))

          by : (b : Bool) → one_may_end 0 xs ≡ b →
              Matches a r n (with_list all_of w go) x
              (((if b then arguments a.function.slots is_anywhere 0 xs else
              (arguments a.function.slots is_in_frame 0 xs >> arguments a.function.slots is_in_register 0 xs)) d).code ++ tail) s
          by true e = in_place
          by false e = apart e
