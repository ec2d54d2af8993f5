-- Marks, ends and tests of known code.
use Rattle.std.proofs.Common.{ℕ, ◌≡◌, ◌&&◌, ◌||◌, ◌≤◌, ◌+◌, not, Bool, true, false, List, [], ◌∷◌, ◌++◌, Some}
use Rattle.std.proofs.Common.{refl, sym, ap, ◌∙◌, subst, arith, length, ◌⊎◌, inl, inr}
use Rattle.std.proofs.lemmas.Bool.{false≢true, and_parts, and_from}
use Rattle.std.specs.List.{list_any, list_all}
use Rattle.tg_tree.specs.declared.operators.Rel.{Rel}
use Rattle.tg_instr.specs.declared.operands.Opnd.{Opnd}
use Rattle.tg_instr.specs.declared.instr.Instr.{Instr}
use Rattle.tg_instr.specs.declared.instr.Instr.TheVariants.{Mark, Move, Jump, Branch, Fault, Return}
use Rattle.tg_instr.specs.Shapes.{Tests, shape}
use Rattle.tg_instr.specs.Codes.{is_mark, marks_differ, leads_to_marks, is_end, ends_well}
use Rattle.tg_redundancy.specs.mirror.Known.{joined}
use Rattle.tg_redundancy.specs.declared.readings.Reading.{Reading}
use Rattle.tg_redundancy.specs.mirror.Readings.{reading_of, temp}
use Rattle.tg_redundancy.specs.mirror.Known.{State, known_step, known_blocks, at_start, most_facts, most_moves}
use Rattle.tg_redundancy.specs.laws.Laws.{KnownPassesTests}
use Rattle.tg_redundancy.proofs.Blocks.{pair, IsBlock, itself, gone, a_move, a_jump, each_step}

module _ (most : ℕ) where
  abbrev pub Walked : List Instr → State → List Instr
  Walked code s = joined (known_blocks most code s)

  pub block_is : (rest : List Instr) (one : Instr) (s : State) → IsBlock one (known_step most rest one s).block
  block_is rest one s = each_step most rest one s (λ b cl. IsBlock one b) (λ b i. i) (λ b i m g. i) (λ b i m e. i)

  -- Tests that all pass.
  module _ (test : Instr → Bool) (moves : (t u : ℕ) → test (Move (temp t) (temp u)) ≡ true)
      (jumps : (one : Instr) (rel : Rel) (x y : Opnd) (m : ℕ) → shape one ≡ Tests rel x y m → test one ≡ true → test (Jump m) ≡ true) where
    block_passes : (one : Instr) (b l : List Instr) → IsBlock one b → test one ≡ true → list_all test l ≡ true → list_all test (b ++ l) ≡ true
    block_passes one _ l itself h hs = and_from (test one) _ h hs
    block_passes one _ l (gone rel x y m e) h hs = hs
    block_passes one _ l (a_move t u q e) h hs = and_from (test (Move (temp t) (temp u))) _ (moves t u) hs
    block_passes one _ l (a_jump rel x y m e) h hs = and_from (test (Jump m)) _ (jumps one rel x y m e h) hs

    pub walk_passes : (code : List Instr) (s : State) → list_all test code ≡ true → list_all test (Walked code s) ≡ true
    walk_passes [] s h = refl
    walk_passes (one ∷ rest) s h =
        let p = and_parts (test one) _ h in
        block_passes one (known_step most rest one s).block (Walked rest (known_step most rest one s).state) (block_is rest one s) p.0
        (walk_passes rest (known_step most rest one s).state p.1)

  -- Marks.
  test_no_mark : (one : Instr) (rel : Rel) (x y : Opnd) (m k : ℕ) → shape one ≡ Tests rel x y m → is_mark k one ≡ false
  test_no_mark (Mark j) rel x y m k e = cc
  test_no_mark _ rel x y m k e = refl

  reading_no_mark : (one : Instr) (t : ℕ) (r : Reading) (k : ℕ) → reading_of one ≡ Some (pair t r) → is_mark k one ≡ false
  reading_no_mark (Mark j) t r k e = cc
  reading_no_mark _ t r k e = refl

  block_marks : (k : ℕ) (one : Instr) (b l : List Instr) → IsBlock one b →
      list_any (is_mark k) (b ++ l) ≡ (is_mark k one || list_any (is_mark k) l)
  block_marks k one _ l itself = refl
  block_marks k one _ l (gone rel x y m e) = sym (ap (λ b. b || list_any (is_mark k) l) (test_no_mark one rel x y m k e))
  block_marks k one _ l (a_move t u q e) = sym (ap (λ b. b || list_any (is_mark k) l) (reading_no_mark one t q k e))
  block_marks k one _ l (a_jump rel x y m e) = sym (ap (λ b. b || list_any (is_mark k) l) (test_no_mark one rel x y m k e))

  pub marks_stay : (k : ℕ) (code : List Instr) (s : State) → list_any (is_mark k) (Walked code s) ≡ list_any (is_mark k) code
  marks_stay k [] s = refl
  marks_stay k (one ∷ rest) s =
      block_marks k one (known_step most rest one s).block (Walked rest (known_step most rest one s).state) (block_is rest one s)
      ∙ ap (λ b. is_mark k one || b) (marks_stay k rest (known_step most rest one s).state)

  unmarked : (one : Instr) → ((k : ℕ) × (one ≡ Mark k)) ⊎ ((l : List Instr) → marks_differ (one ∷ l) ≡ marks_differ l)
  unmarked (Mark k) = inl (k, refl)
  unmarked _ = inr (λ l. refl)

  block_differs : (one : Instr) (b l : List Instr) → IsBlock one b → ((l : List Instr) → marks_differ (one ∷ l) ≡ marks_differ l) →
      marks_differ (b ++ l) ≡ marks_differ l
  block_differs one _ l itself h = h l
  block_differs one _ l (gone rel x y m e) h = refl
  block_differs one _ l (a_move t u q e) h = refl
  block_differs one _ l (a_jump rel x y m e) h = refl

  pub marks_differ_still : (code : List Instr) (s : State) → marks_differ (Walked code s) ≡ marks_differ code
  marks_differ_still [] s = refl
  marks_differ_still (one ∷ rest) s = by (unmarked one) (marks_differ_still rest (known_step most rest one s).state)
    where
      by : ((k : ℕ) × (one ≡ Mark k)) ⊎ ((l : List Instr) → marks_differ (one ∷ l) ≡ marks_differ l) →
          marks_differ (Walked rest (known_step most rest one s).state) ≡ marks_differ rest →
          marks_differ (Walked (one ∷ rest) s) ≡ marks_differ (one ∷ rest)
      by (inl (k, is)) later =
          subst (λ x. marks_differ (Walked rest (known_step most rest x s).state) ≡ marks_differ rest →
          marks_differ (Walked (x ∷ rest) s) ≡ marks_differ (x ∷ rest)) (sym is)
          (λ d. ap (λ b. not b && marks_differ (Walked rest (known_step most rest (Mark k) s).state))
          (marks_stay k rest (known_step most rest (Mark k) s).state)
          ∙ ap (λ b. not (list_any (is_mark k) rest) && b) d) later
      by (inr none) later =
          block_differs one (known_step most rest one s).block (Walked rest (known_step most rest one s).state) (block_is rest one s) none
          ∙ (later ∙ sym (none rest))

  -- where jumps lead
  leads_alike : (all : List Instr) (s : State) (one : Instr) → leads_to_marks (Walked all s) one ≡ leads_to_marks all one
  leads_alike all s (Jump m) = marks_stay m all s
  leads_alike all s (Branch test m) = marks_stay m all s
  leads_alike all s _ = refl

  test_leads : (all : List Instr) (one : Instr) (rel : Rel) (x y : Opnd) (m : ℕ) → shape one ≡ Tests rel x y m →
      leads_to_marks all one ≡ true → leads_to_marks all (Jump m) ≡ true
  test_leads all (Branch test k) rel x y m e h = let same : k ≡ m = mark_is e in subst (λ j. list_any (is_mark j) all ≡ true) same h
    where
      mark_is : Tests test.rel test.left test.right k ≡ Tests rel x y m → k ≡ m
      mark_is e = cc
  test_leads all _ rel x y m e h = cc

  all_alike : (p q : Instr → Bool) → ((one : Instr) → p one ≡ q one) → (l : List Instr) → list_all p l ≡ list_all q l
  all_alike p q h [] = refl
  all_alike p q h (one ∷ l) = λ i. h one i && all_alike p q h l i

  pub leads_still : (all : List Instr) (s : State) → list_all (leads_to_marks all) all ≡ true →
      list_all (leads_to_marks (Walked all s)) (Walked all s) ≡ true
  leads_still all s h =
      all_alike (leads_to_marks (Walked all s)) (leads_to_marks all) (leads_alike all s) (Walked all s)
      ∙ walk_passes (leads_to_marks all) (λ t u. refl) (test_leads all) all s h

  -- Ends.
  test_no_end : (one : Instr) (rel : Rel) (x y : Opnd) (m : ℕ) → shape one ≡ Tests rel x y m → is_end one ≡ true → ⊥
  test_no_end (Jump j) rel x y m e h = cc
  test_no_end (Fault j) rel x y m e h = cc
  test_no_end Return rel x y m e h = cc
  test_no_end _ rel x y m e h = false≢true h

  reading_no_end : (one : Instr) (t : ℕ) (r : Reading) → reading_of one ≡ Some (pair t r) → is_end one ≡ true → ⊥
  reading_no_end (Jump j) t r e h = cc
  reading_no_end (Fault j) t r e h = cc
  reading_no_end Return t r e h = cc
  reading_no_end _ t r e h = false≢true h

  last_block : (one : Instr) (b : List Instr) → IsBlock one b → is_end one ≡ true → ends_well (b ++ []) ≡ true
  last_block one _ itself h = h
  last_block one _ (gone rel x y m e) h = absurd (test_no_end one rel x y m e h)
  last_block one _ (a_move t u q e) h = absurd (reading_no_end one t q e h)
  last_block one _ (a_jump rel x y m e) h = refl

  ends_behind : (x : Instr) (l : List Instr) → ends_well l ≡ true → ends_well (x ∷ l) ≡ true
  ends_behind x [] h = absurd (false≢true h)
  ends_behind x (y ∷ l) h = h

  more_blocks : (one : Instr) (b l : List Instr) → IsBlock one b → ends_well l ≡ true → ends_well (b ++ l) ≡ true
  more_blocks one _ l itself h = ends_behind one l h
  more_blocks one _ l (gone rel x y m e) h = h
  more_blocks one _ l (a_move t u q e) h = ends_behind (Move (temp t) (temp u)) l h
  more_blocks one _ l (a_jump rel x y m e) h = ends_behind (Jump m) l h

  pub ends_still : (code : List Instr) (s : State) → ends_well code ≡ true → ends_well (Walked code s) ≡ true
  ends_still [] s h = h
  ends_still (one ∷ []) s h = last_block one (known_step most [] one s).block (block_is [] one s) h
  ends_still (one ∷ two ∷ rest) s h =
      more_blocks one (known_step most (two ∷ rest) one s).block (Walked (two ∷ rest) (known_step most (two ∷ rest) one s).state)
      (block_is (two ∷ rest) one s) (ends_still (two ∷ rest) (known_step most (two ∷ rest) one s).state h)

  -- Length.
  block_length : (one : Instr) (b l : List Instr) → IsBlock one b → length (b ++ l) ≤ 1 + length l
  block_length one _ l itself = omega arith
  block_length one _ l (gone rel x y m e) = omega arith
  block_length one _ l (a_move t u q e) = omega arith
  block_length one _ l (a_jump rel x y m e) = omega arith

  pub no_longer : (code : List Instr) (s : State) → length (Walked code s) ≤ length code
  no_longer [] s = omega arith
  no_longer (one ∷ rest) s =
      let b = block_length one (known_step most rest one s).block (Walked rest (known_step most rest one s).state) (block_is rest one s) in
      let r = no_longer rest (known_step most rest one s).state in omega (arith, b, r)

pub passes_tests : KnownPassesTests
passes_tests test moves jumps list h =
    walk_passes most_facts test moves (λ one rel x y m e g. jumps m) list (at_start most_moves) h
