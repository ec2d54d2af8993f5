-- Where blocks go on, by how many blocks are laid after their own: the one at a mark is ahead, or is come to after a unit of fuel.
use Rattle.std.proofs.Common.{◌≡◌, ℕ, zero, suc, ◌+◌, ◌-◌, ◌<◌, ◌≤◌, List, [], ◌∷◌, ◌++◌, length, take, get_or, map, Bool, true, false, refl, sym, ap}
use Rattle.std.proofs.Common.{◌∙◌, arith}
use Rattle.std.specs.Prelude.{Some, None, reverse, slice_get, slice_index, nat_lt, if◌then◌else◌}
use Rattle.std.proofs.lemmas.Bool.{ltb-true, ltb-false, lt-ltb, le-ltb}
use Rattle.std.proofs.lemmas.Option.{slice_get-get_or}
use Rattle.tg_simulation.specs.Runs.{Run}
use Rattle.tg_simulation.specs.Ran.{Ran}
use Rattle.tg_tree.specs.Tree.{Stms, Code}
use Rattle.tg_tree.specs.Actions.{World, Temps, Around, Acts, Next, ◌>>◌, charged}
use Rattle.tg_tree.specs.Running.{with_fuel}
use Rattle.tg_tree.specs.Flat.{Last}
use Rattle.tg_trace_schedule.specs.Block.{BlockEnd, Block}
use Rattle.tg_trace_schedule.specs.Meaning.{BlockPoint, run_within, finish, return_to, run_from, block_going}
use Rattle.tg_trace_schedule.specs.mirror.Cutting.{place_of, placed_end, placed, placed_all}
use Rattle.tg_trace_schedule.specs.mirror.Laying.{no_block}
use Rattle.tg_trace_schedule.proofs.Rests.{reverse_last, take_all}
use Rattle.tg_trace_schedule.proofs.BlocksRuns.{blocks_step}

-- one element more from the front
pub take_one : {A : Type 0} (xs : List A) (i : ℕ) (x : A) → slice_get xs i ≡ Some x → take (i + 1) xs ≡ take i xs ++ x ∷ []
take_one [] i x e = absurd (none_some e)
  where
    none_some : {A : Type 0} {x : A} → None ≡ Some x → ⊥
    none_some e = cc
take_one (y ∷ xs) zero x e = ap (λ z. z ∷ []) (some_is e)
  where
    some_is : {A : Type 0} {x y : A} → Some y ≡ Some x → y ≡ x
    some_is e = cc
take_one (y ∷ xs) (suc i) x e = let k : suc i + 1 ≡ suc (i + 1) = omega arith in ap (λ n. take n (y ∷ xs)) k ∙ ap (λ ys. y ∷ ys) (take_one xs i x e)

-- The final blocks, by what was laid, the last of the body first, and the place of each mark among these.
module _ (code : Code (List Block)) (size : ℕ → ℕ) (floor room : ℕ) (places : List ℕ) (laid : List Block) (e : Around) where
  abbrev pub goes : BlockPoint → Run Ran
  goes = block_going code size floor room

  abbrev pub whole : List Block
  whole = placed_all places laid

  -- the blocks after so many
  abbrev pub behind : ℕ → List Block
  behind i = map (placed places (length laid - 1)) (reverse (take i laid))

  abbrev from : ℕ → (place passed : ℕ) → Acts Last
  from i = run_from code size floor room goes whole (behind i)

  -- a place, from a block in front of so many
  abbrev pub at : ℕ → (place : ℕ) → Acts Last
  at i q = if nat_lt q (length laid - i) then return_to code size floor room goes whole q else from i (length laid - i) (q - (length laid - i))

  -- a mark, from there
  abbrev pub leads_to : ℕ → (mark : ℕ) → Next
  leads_to i m w t = at i (place_of places (length laid - 1) m) e tt w t

  -- a block in front of so many, after its mark
  abbrev pub opens : ℕ → Stms → BlockEnd → Next
  opens i body z w t = (run_within code size floor room goes body >> finish code size floor room goes (at i) (placed_end places (length laid - 1) z)) e tt w t

  -- the block that was laid after so many
  abbrev pub first : ℕ → Next
  first i w t = from (i + 1) (length laid - (i + 1)) 0 e tt w t

  behind_one : (i : ℕ) (b : Block) → slice_get laid i ≡ Some b → behind (i + 1) ≡ placed places (length laid - 1) b ∷ behind i
  behind_one i b h = ap (λ bs. map (placed places (length laid - 1)) bs) (ap reverse (take_one laid i b h) ∙ reverse_last (take i laid) b)

  -- what a block's own place tells it is what tells the blocks after it
  abbrev from_own : ℕ → ℕ → Acts Last
  from_own i q =
      if nat_lt (length laid - (i + 1)) q then from i (length laid - (i + 1) + 1)
      (q - (length laid - (i + 1) + 1)) else return_to code size floor room goes whole q

  one_of : {A : Type 0} (b c : Bool) (x y z : A) → b ≡ false → c ≡ true → (if b then x else y) ≡ (if c then y else z)
  one_of b c x y z e f = ap (λ v. if v then x else y) e ∙ sym (ap (λ v. if v then y else z) f)

  other_of : {A : Type 0} (b c : Bool) (x y z : A) → b ≡ true → c ≡ false → x ≡ z → (if b then x else y) ≡ (if c then y else z)
  other_of b c x y z e f h = ap (λ v. if v then x else y) e ∙ (h ∙ sym (ap (λ v. if v then y else z) f))

  same_test : (b : Bool) (i q : ℕ) → i < length laid → nat_lt q (length laid - i) ≡ b → from_own i q ≡ at i q
  same_test true i q h e =
      let lt = ltb-true q (length laid - i) e in
      one_of (nat_lt (length laid - (i + 1)) q) (nat_lt q (length laid - i)) _ _ _ (le-ltb (length laid - (i + 1)) q (omega (arith, lt))) e
  same_test false i q h e =
      let le = ltb-false q (length laid - i) e in
      let k : length laid - (i + 1) + 1 ≡ length laid - i = omega arith in
      other_of (nat_lt (length laid - (i + 1)) q) (nat_lt q (length laid - i)) _ _ _ (lt-ltb (length laid - (i + 1)) q (omega (arith, le))) e
      (ap (λ p. from i p (q - p)) k)

  pub first_is :
      (i : ℕ) (b : Block) → i < length laid → slice_get laid i ≡ Some b → (w : World) (t : Temps) → first i w t ≡ charged 1 (opens i b.body b.end w t)
  first_is i b h s w t =
      let z = placed_end places (length laid - 1) b.end in
      ap (λ bs. run_from code size floor room goes whole bs (length laid - (i + 1)) 0 e tt w t) (behind_one i b s) ∙
      (λ j. charged 1 ((run_within code size floor room goes b.body >> finish code size floor room goes
      (λ q. same_test (nat_lt q (length laid - i)) i q h refl j) z) e tt w t))

  -- as many blocks are passed by as stand in between
  passed : (k i : ℕ) → i + 1 + k ≤ length laid → from (i + 1 + k) (length laid - (i + 1 + k)) k ≡ from (i + 1) (length laid - (i + 1)) 0
  passed zero i h = let same : i + 1 + 0 ≡ i + 1 = omega arith in ap (λ j. from j (length laid - j) 0) same
  passed (suc k) i h =
      let j : ℕ = i + 1 + k in
      let more : i + 1 + suc k ≡ j + 1 = omega arith in
      let b = get_or laid j no_block in
      let less : length laid - (j + 1) + 1 ≡ length laid - j = omega arith in
      ap (λ n. from n (length laid - n) (suc k)) more ∙
      (ap (λ bs. run_from code size floor room goes whole bs (length laid - (j + 1)) (suc k))
      (behind_one j b (slice_get-get_or laid j no_block (omega arith))) ∙
      (ap (λ p. from j p k) less ∙ passed k i (omega arith)))

  passed_to : (i j k : ℕ) → j ≡ i + 1 + k → j ≤ length laid → from j (length laid - j) k ≡ from (i + 1) (length laid - (i + 1)) 0
  passed_to i j k e h = ap (λ x. from x (length laid - x) k) e ∙ passed k i (omega (arith, e, h))

  at_ahead : (i j k q : ℕ) → length laid - j ≤ q → q - (length laid - j) ≡ k → j ≡ i + 1 + k → j ≤ length laid → at j q ≡ from (i + 1) (length laid - (i + 1)) 0
  at_ahead i j k q past apart there le =
      ap (λ v. if v then return_to code size floor room goes whole q else from j (length laid - j) (q - (length laid - j))) (le-ltb q (length laid - j) past) ∙
      (ap (λ x. from j (length laid - j) x) apart ∙ passed_to i j k there le)

  -- a mark in front of which a block was laid is ahead
  pub ahead : (j i m : ℕ) → slice_index places m ≡ i → i < j → j ≤ length laid → leads_to j m ≡ first i
  ahead j i m is lt le =
      ap (λ x. λ w t. at j (length laid - 1 - x) e tt w t) is ∙
      ap (λ f. λ w t. f e tt w t) (at_ahead i j (j - (i + 1)) (length laid - 1 - i) (omega arith) (omega arith) (omega arith) le)

  -- a run from a place of the whole
  pub from_place :
      (i q : ℕ) → i + 1 + q ≡ length laid → (w : World) (t : Temps) (n : ℕ) →
      goes (record { whole = whole; place = q; around = e; world = w; temps = t }) n ≡ first i w t n
  from_place i q h w t n =
      let all : whole ≡ behind (length laid) = ap (λ bs. map (placed places (length laid - 1)) (reverse bs))
      (sym (take_all (length laid) laid (omega arith))) in
      let none : 0 ≡ length laid - length laid = omega arith in
      let f : from (length laid) (length laid - length laid) q ≡ from (i + 1) (length laid - (i + 1)) 0 = passed_to i (length laid) q (sym h) (omega arith) in
      blocks_step code size floor room (record { whole = whole; place = q; around = e; world = w; temps = t }) n ∙
      (ap (λ bs. run_from code size floor room goes whole bs 0 q e tt w t n) all ∙
      (ap (λ p. from (length laid) p q e tt w t n) none ∙ ap (λ g. g e tt w t n) f))

  -- any other is come to after a unit of fuel
  pub back : (j i m : ℕ) → slice_index places m ≡ i → j ≤ i → i < length laid → (w : World) (t : Temps) → leads_to j m w t ≡ with_fuel w (first i w t)
  back j i m is le lt w t =
      let n = length laid in
      let q : ℕ = n - 1 - i in
      let there : i + 1 + q ≡ n = omega arith in
      ap (λ x. at j (n - 1 - x) e tt w t) is ∙
      (ap (λ v. (if v then return_to code size floor room goes whole q else from j (n - j) (q - (n - j))) e tt w t) (lt-ltb q (n - j) (omega arith)) ∙
      (λ z. with_fuel w (λ k. from_place i q there w t k z)))
