-- Branches on a comparison: at most two instructions come to the mark where it holds, and else go on.
use Rattle.tg_munch_proof.specs.laws.Values.{fork}
use Rattle.std.proofs.Common.{◌≡◌, ◌≢◌, ℕ, ◌+◌, ◌%◌, List, ◌∷◌, ◌++◌, Bool, refl, sym, ap, ◌∙◌, subst, arith}
use Rattle.std.proofs.lemmas.Bool.Decides.{nat_tests}
use Rattle.std.specs.Prelude.{◌==◌, ◌&&◌, not, nat_lt, false, true, Some, None, if◌then◌else◌}
use Rattle.tg_base.specs.Words.{less, flag, extended}
use Rattle.tg_simulation.specs.Ran.{works}
use Rattle.tg_simulation.specs.laws.Simulating.{Comes}
use Rattle.tg_tree.proofs.FlatValues.{works_add, works_none}
use Rattle.tg_tree.specs.declared.operators.Rel.{Rel}
use Rattle.tg_tree.specs.declared.operators.Rel.TheVariants as rel
use Rattle.tg_tree.specs.Operators.{holds}
use Rattle.tg_tree.specs.Actions.{World}
use Rattle.tg_instr.specs.declared.operands.Opnd.{Opnd}
use Rattle.tg_instr.specs.declared.operands.Opnd.TheVariants.{Temp, Reg}
use Rattle.tg_instr.specs.declared.instr.Instr.{Instr}
use Rattle.tg_instr.specs.declared.instr.Instr.TheVariants as instr
use Rattle.tg_instr.specs.Shapes.{Operand, Tests, shape}
use Rattle.tg_instr.specs.Contents.{Content, Word, Contents, set, held}
use Rattle.tg_instr.specs.Meaning.{with_content_word}
use Rattle.tg_munch.specs.mirror.Choosing.{Choice, NumbersDrawn, ◌>>=◌, give, put}
use Rattle.tg_munch.specs.mirror.Tiles.{nothing, is_small, field, if_equal, unless_equal}
use Rattle.tg_munch.specs.mirror.Comparing as comparing
use Rattle.tg_munch.specs.mirror.Comparing.{on_flag, field_flag, on_less, on_less_field, order, branch_on, against_zero}
use Rattle.tg_munch.specs.mirror.Comparing.{short_field, short, branch_short, turned, can_turn}
use Rattle.tg_munch.specs.mirror.Munching.{temp}
use Rattle.tg_munch_proof.specs.Words.{IsWord}
use Rattle.tg_munch_proof.specs.glue.Places.{Place, goes}
use Rattle.tg_munch_proof.specs.laws.Values.{Stay}
use Rattle.tg_munch_proof.proofs.Arithmetic.{field_stands, at_most_is_less}
use Rattle.tg_munch_proof.proofs.Behaving.{acts}
use Rattle.tg_munch_proof.proofs.Fields.{taken}
use Rattle.tg_munch_proof.proofs.Results.{itself, below_differs}

twice_not : (b : Bool) → not (not b) ≡ b
twice_not true = refl
twice_not false = refl

none_is_some : {I : Type 0} (a : I) → None ≡ Some a → ⊥
none_is_some a e = cc

-- instructions that come to that, and write no operand that stood before
abbrev pub Forks : Place → World → Choice (Unit {0}) → NumbersDrawn → Contents → ℕ → Bool → ℕ → Type 0
Forks p x c d s k b m =
    (rest : List Instr) → (s1 : Contents) × (Stay d.temp None s s1) × Comes k (goes p x ((c d).code ++ rest) s) (fork
    p x b m rest s1)

module _ (p : Place) (x : World) where
  tests : (one : Instr) (r : Rel) (a b : Opnd) (m u v : ℕ) (rest : List Instr) (s : Contents) (n : ℕ) → shape one ≡
      Tests r a b m →
      held p.activation s (Operand a) ≡ Word u → held p.activation s (Operand b) ≡ Word v → goes p x (one ∷ rest) s n
      ≡ works 1 (fork p x (holds r u v) m rest s n)
  tests one r a b m u v rest s n is ha hb =
      ap (λ h. works 1 (acts p h x rest s n)) is ∙
      (ap (λ c. works 1 (with_content_word c x (λ i. with_content_word (held p.activation s (Operand b)) x (λ j. fork
      p x (holds r i j) m rest s)) n)) ha ∙
      ap (λ c. works 1 (with_content_word c x (λ j. fork p x (holds r u j) m rest s) n)) hb)

  -- one branch
  one_forks : (one : Instr) (r : Rel) (a b : Opnd) (m u v : ℕ) (k : Bool) (d : NumbersDrawn) (s : Contents) → shape one ≡
      Tests r a b m →
      held p.activation s (Operand a) ≡ Word u → held p.activation s (Operand b) ≡ Word v → holds r u v ≡ k → Forks p
      x (put one) d s 2 k m
  one_forks one r a b m u v k d s is ha hb e rest = (
    s,
    λ y i j. refl,
    λ n. (
      n,
      omega arith,
      1,
      omega arith,
      tests one r a b m u v rest s n is ha hb ∙ ap (λ i.
          works 1 (fork p x i m rest s n)) e,
    ),
  )

  -- a word that is 1 or 0, and a branch on it
  flag_holds : (h l : Bool) → (if h then holds rel.NotEqual (flag l) 0 else holds rel.Equal (flag l) 0) ≡ (if h then
      l else not l)
  flag_holds true true = refl
  flag_holds true false = refl
  flag_holds false true = refl
  flag_holds false false = refl

  set_stays : (i : ℕ) (c : Content) (s : Contents) → Stay i None s (set (Operand (temp i)) c s)
  set_stays i c s (Temp k) old other = ap (λ (b : Bool). if b then c else s (Operand (Temp k))) (below_differs k.0 i
      old)
  set_stays i c s (Reg r) old other = refl

  on_flag_runs : (h l : Bool) (i m : ℕ) (rest : List Instr) (s : Contents) (n : ℕ) → s (Operand (temp i)) ≡ Word
      (flag l) →
      goes p x (on_flag h (temp i) m ∷ rest) s n ≡ works 1 (fork p x (if h then l else not l) m rest s n)
  on_flag_runs true l i m rest s n e =
      tests (unless_equal (temp i) nothing m) rel.NotEqual (temp i) nothing m (flag l) 0 rest s n refl e refl ∙
      ap (λ b. works 1 (fork p x b m rest s n)) (flag_holds true l)
  on_flag_runs false l i m rest s n e =
      tests (if_equal (temp i) nothing m) rel.Equal (temp i) nothing m (flag l) 0 rest s n refl e refl ∙
      ap (λ b. works 1 (fork p x b m rest s n)) (flag_holds false l)

  flag_forks : (one : Instr) (h l : Bool) (m : ℕ) (d : NumbersDrawn) (s : Contents) →
      ((rest : List Instr) (n : ℕ) → goes p x (one ∷ rest) s n ≡ works 1 (goes p x rest (set (Operand (temp d.temp))
      (Word (flag l)) s) n)) →
      (rest : List Instr) → (s1 : Contents) × (Stay d.temp None s s1) ×
      Comes 2 (goes p x (one ∷ on_flag h (temp d.temp) m ∷ rest) s) (fork p x (if h then l else not l) m rest s1)
  flag_forks one h l m d s runs rest =
      let s1 = set (Operand (temp d.temp)) (Word (flag l)) s in (
        s1,
        set_stays d.temp (Word (flag l)) s,
        λ n. (
          n,
          omega arith,
          2,
          omega arith,
          runs (on_flag h (temp d.temp) m ∷ rest) n ∙
              (ap (works 1) (on_flag_runs h l d.temp m rest s1 n (ap (λ (b : Bool). if b then Word (flag l) else s
              (Operand (temp d.temp))) (itself d.temp))) ∙
              works_add 1 1 (fork p x (if h then l else not l) m rest s1 n)),
        ),
      )

  abbrev below_tests : (signed : Bool) → ℕ → ℕ → Bool
  below_tests signed u v = if signed then less u v else nat_lt u v

  -- the test for less of two operands, and of one and a field
  two_below : (signed : Bool) (i u v : ℕ) (a b : Opnd) (rest : List Instr) (s : Contents) (n : ℕ) → held p.activation
      s (Operand a) ≡ Word u →
      held p.activation s (Operand b) ≡ Word v →
      goes p x (comparing.flag signed (temp i) a b ∷ rest) s n ≡ works 1 (goes p x rest (set (Operand (temp i)) (Word
      (flag (below_tests signed u v))) s) n)
  two_below true i u v a b rest s n ha hb =
      ap (λ c. works 1 (with_content_word c x (λ y. with_content_word (held p.activation s (Operand b)) x (λ z.
      goes p x rest (set (Operand (temp i)) (Word (flag (less y z))) s))) n)) ha ∙
      ap (λ c. works 1 (with_content_word c x (λ z. goes p x rest (set (Operand (temp i)) (Word (flag (less u z)))
      s)) n)) hb
  two_below false i u v a b rest s n ha hb =
      ap (λ c. works 1 (with_content_word c x (λ y. with_content_word (held p.activation s (Operand b)) x (λ z.
      goes p x rest (set (Operand (temp i)) (Word (flag (nat_lt y z))) s))) n)) ha ∙
      ap (λ c. works 1 (with_content_word c x (λ z. goes p x rest (set (Operand (temp i)) (Word (flag (nat_lt u z)))
      s)) n)) hb

  field_below : (signed : Bool) (i u f : ℕ) (a : Opnd) (rest : List Instr) (s : Contents) (n : ℕ) → held p.activation
      s (Operand a) ≡ Word u →
      goes p x (field_flag signed (temp i) a f ∷ rest) s n ≡ works 1 (goes p x rest (set (Operand (temp i)) (Word
      (flag (below_tests signed u (extended f)))) s) n)
  field_below true i u f a rest s n ha =
      ap (λ c. works 1 (with_content_word c x (λ y. goes p x rest (set (Operand (temp i)) (Word (flag (less y
      (extended f)))) s)) n)) ha
  field_below false i u f a rest s n ha =
      ap (λ c. works 1 (with_content_word c x (λ y. goes p x rest (set (Operand (temp i)) (Word (flag (nat_lt y
      (extended f)))) s)) n)) ha

  forks_as : (c : Choice (Unit {0})) (d : NumbersDrawn) (s : Contents) (k : ℕ) (b e : Bool) (m : ℕ) → b ≡ e → Forks p x c d
      s k b m → Forks p x c d s k e m
  forks_as c d s k b e m same h = subst (λ z. Forks p x c d s k z m) same h

  less_forks : (signed h : Bool) (a b : Opnd) (m u v : ℕ) (d : NumbersDrawn) (s : Contents) → held p.activation s (Operand
      a) ≡ Word u → held p.activation s (Operand b) ≡ Word v →
      Forks p x (on_less (order signed h) a b m) d s 2 (if h then below_tests signed u v else not (below_tests signed
      u v)) m
  unfolding ◌>>=◌
  less_forks signed h a b m u v d s ha hb rest =
      flag_forks (comparing.flag signed (temp d.temp) a b) h (below_tests signed u v) m d s (λ more n. two_below
      signed d.temp u v a b more s n ha hb) rest

  field_forks : (signed h : Bool) (a : Opnd) (f m u : ℕ) (d : NumbersDrawn) (s : Contents) → held p.activation s (Operand a)
      ≡ Word u →
      Forks p x (on_less_field (order signed h) f a m) d s 2 (if h then below_tests signed u (extended f) else not
      (below_tests signed u (extended f))) m
  unfolding ◌>>=◌
  field_forks signed h a f m u d s ha rest =
      flag_forks (field_flag signed (temp d.temp) a f) h (below_tests signed u (extended f)) m d s (λ more n.
      field_below signed d.temp u f a more s n ha) rest

  -- two operands, by every relation
  pub branch_on_forks : (r : Rel) (a b : Opnd) (m u v : ℕ) (d : NumbersDrawn) (s : Contents) → held p.activation s (Operand
      a) ≡ Word u → held p.activation s (Operand b) ≡ Word v →
      Forks p x (branch_on r a b m) d s 2 (holds r u v) m
  branch_on_forks rel.Equal a b m u v d s ha hb = one_forks (if_equal a b m) rel.Equal a b m u v (holds rel.Equal u
      v) d s refl ha hb refl
  branch_on_forks rel.NotEqual a b m u v d s ha hb = one_forks (unless_equal a b m) rel.NotEqual a b m u v (holds
      rel.NotEqual u v) d s refl ha hb refl
  branch_on_forks rel.Less a b m u v d s ha hb = less_forks true true a b m u v d s ha hb
  branch_on_forks rel.GreaterEqual a b m u v d s ha hb = less_forks true false a b m u v d s ha hb
  branch_on_forks rel.Greater a b m u v d s ha hb = less_forks true true b a m v u d s hb ha
  branch_on_forks rel.LessEqual a b m u v d s ha hb = less_forks true false b a m v u d s hb ha
  branch_on_forks rel.Below a b m u v d s ha hb = less_forks false true a b m u v d s ha hb
  branch_on_forks rel.NotBelow a b m u v d s ha hb = less_forks false false a b m u v d s ha hb

  -- an operand and 0
  none_below : (u : ℕ) → nat_lt u 0 ≡ false
  none_below u = grind (arith, nat_tests)

  pub zero_forks : (r : Rel) (a : Opnd) (m u : ℕ) (d : NumbersDrawn) (s : Contents) → held p.activation s (Operand a) ≡ Word
      u → Forks p x (against_zero r a m) d s 2 (holds r u 0) m
  zero_forks rel.Equal a m u d s ha = one_forks (if_equal a nothing m) rel.Equal a nothing m u 0 (holds rel.Equal u
      0) d s refl ha refl refl
  zero_forks rel.NotEqual a m u d s ha = one_forks (unless_equal a nothing m) rel.NotEqual a nothing m u 0 (holds
      rel.NotEqual u 0) d s refl ha refl refl
  zero_forks rel.Less a m u d s ha = one_forks (comparing.if_less a m) rel.Less a nothing m u 0 (holds rel.Less u 0)
      d s refl ha refl refl
  zero_forks rel.LessEqual a m u d s ha = one_forks (comparing.if_at_most a m) rel.LessEqual a nothing m u 0 (holds
      rel.LessEqual u 0) d s refl ha refl refl
  zero_forks rel.Greater a m u d s ha = one_forks (comparing.if_greater a m) rel.Greater a nothing m u 0 (holds
      rel.Greater u 0) d s refl ha refl refl
  zero_forks rel.GreaterEqual a m u d s ha = one_forks (comparing.if_at_least a m) rel.GreaterEqual a nothing m u 0
      (holds rel.GreaterEqual u 0) d s refl ha refl refl
  zero_forks rel.Below a m u d s ha =
      forks_as (give tt) d s 2 false (nat_lt u 0) m (sym (none_below u))
      (λ rest. (s, λ y i j. refl, λ n. (n, omega arith, 0, omega arith, sym (works_none (goes p x rest s n)))))
  zero_forks rel.NotBelow a m u d s ha =
      forks_as (put (instr.Jump m)) d s 2 true (not (nat_lt u 0)) m (sym (ap not (none_below u)))
      (λ rest. (s, λ y i j. refl, λ n. (n, omega arith, 1, omega arith, refl)))

  -- a constant that a field holds; at most n is less than the next word
  next_small : (n : ℕ) → (is_small n && not (n == 32767)) ≡ true → IsWord n → (is_small ((n + 1) % 4294967296) ≡
      true) × (n ≢ 2147483647)
  next_small n e h = grind (arith, nat_tests)

  pub short_forks : (r : Rel) (n : ℕ) (one : _) (a : Opnd) (m u : ℕ) (d : NumbersDrawn) (s : Contents) → IsWord n → IsWord u
      → short_field r n ≡ Some one →
      held p.activation s (Operand a) ≡ Word u → Forks p x (branch_short r one a m) d s 2 (holds r u n) m
  short_forks rel.Less n one a m u d s hn hu e ha =
      let q = taken (is_small n) _ one e in
      subst (λ o. Forks p x (branch_short rel.Less o a m) d s 2 (less u n) m) q.1
      (forks_as (on_less_field (order true true) (field n) a m) d s 2 _ (less u n) m (ap (less u) (field_stands n
      q.0)) (field_forks true true a (field n) m u d s ha))
  short_forks rel.GreaterEqual n one a m u d s hn hu e ha =
      let q = taken (is_small n) _ one e in
      subst (λ o. Forks p x (branch_short rel.GreaterEqual o a m) d s 2 (not (less u n)) m) q.1
      (forks_as (on_less_field (order true false) (field n) a m) d s 2 _ (not (less u n)) m (ap (λ i. not (less u i))
      (field_stands n q.0)) (field_forks true false a (field n) m u d s ha))
  short_forks rel.Below n one a m u d s hn hu e ha =
      let q = taken (is_small n) _ one e in
      subst (λ o. Forks p x (branch_short rel.Below o a m) d s 2 (nat_lt u n) m) q.1
      (forks_as (on_less_field (order false true) (field n) a m) d s 2 _ (nat_lt u n) m (ap (λ i. nat_lt u i)
      (field_stands n q.0)) (field_forks false true a (field n) m u d s ha))
  short_forks rel.NotBelow n one a m u d s hn hu e ha =
      let q = taken (is_small n) _ one e in
      subst (λ o. Forks p x (branch_short rel.NotBelow o a m) d s 2 (not (nat_lt u n)) m) q.1
      (forks_as (on_less_field (order false false) (field n) a m) d s 2 _ (not (nat_lt u n)) m (ap (λ i. not (nat_lt
      u i)) (field_stands n q.0)) (field_forks false false a (field n) m u d s ha))
  short_forks rel.LessEqual n one a m u d s hn hu e ha =
      let q = taken (is_small n && not (n == 32767)) _ one e in
      let more = next_small n q.0 hn in
      subst (λ o. Forks p x (branch_short rel.LessEqual o a m) d s 2 (not (less n u)) m) q.1
      (forks_as (on_less_field (order true true) (field ((n + 1) % 4294967296)) a m) d s 2 _ (not (less n u)) m (ap
      (λ i. less u i) (field_stands ((n + 1) % 4294967296) more.0) ∙ (sym (at_most_is_less u n hu hn more.1)))
      (field_forks true true a (field ((n + 1) % 4294967296)) m u d s ha))
  short_forks rel.Greater n one a m u d s hn hu e ha =
      let q = taken (is_small n && not (n == 32767)) _ one e in
      let more = next_small n q.0 hn in
      subst (λ o. Forks p x (branch_short rel.Greater o a m) d s 2 (less n u) m) q.1
      (forks_as (on_less_field (order true false) (field ((n + 1) % 4294967296)) a m) d s 2 _ (less n u) m (ap (λ i.
      not (less u i)) (field_stands ((n + 1) % 4294967296) more.0) ∙ ap not (sym (at_most_is_less u n hu hn
      more.1)) ∙ twice_not (less n u))
      (field_forks true false a (field ((n + 1) % 4294967296)) m u d s ha))
  short_forks rel.Equal n one a m u d s hn hu e ha = absurd (none_is_some one e)
  short_forks rel.NotEqual n one a m u d s hn hu e ha = absurd (none_is_some one e)
