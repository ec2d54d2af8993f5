-- Select gives two colours to nodes that interfere.
use Rattle.std.proofs.Common.{◌≡◌, ◌≢◌, ℕ, zero, suc, ◌+◌, ◌<◌, ◌≤◌, true, false, ◌&&◌, ◌⊎◌, inl, inr}
use Rattle.std.proofs.Common.{refl, sym, ap, subst, ◌∙◌, arith, ⊎_elim, List, [], ◌∷◌, Option, Some, None}
use Rattle.std.specs.Prelude.{nat_eq, ◌==◌, if◌then◌else◌, filter, find, fold}
use Rattle.std.specs.List.{list_any, range_with_len}
use Rattle.std.proofs.lemmas.Bool.{lt-ltb}
use Rattle.std.proofs.lemmas.Bool.Decides.{eqb_tells}
use Rattle.tg_irc_definition.specs.Graphs.{colour_count, is_register, Set}
use Rattle.tg_irc_definition.specs.States.{Problem, RoundState}
use Rattle.tg_irc_definition.specs.Selection.{Colouring, has_colour, precoloured, sees, is_free, pop, select}
use Rattle.tg_irc_definition.specs.Rounds.{end}
use Rattle.tg_irc_definition.specs.laws.Laws.{ColoursDiffer, RegistersAreColoured, ColoursAreRegisters}
use Rattle.tg_irc_definition.proofs.Deciding.{clash, and_true, or_left, or_right, neither, tells, never, not_true}
use Rattle.tg_irc_definition.proofs.Deciding.{same_node, same_test, some_is}
use Rattle.tg_irc_definition.proofs.Classes.{Holds, holds_from_start}
use Rattle.tg_irc_definition.proofs.Answering.{answered, is_coloured}

-- What a search among the numbers from one on finds.

finds_such : (p : Set) (a n k : ℕ) → find p (range_with_len a n) ≡ Some k → (p k ≡ true) × (k < a + n)
finds_such p a zero k e = cc
finds_such p a (suc n) k e = by (tells (p a)) (finds_such p (a + 1) n k)
  where
    by : (p a ≡ true) ⊎ (p a ≡ false) →
        (find p (range_with_len (a + 1) n) ≡ Some k → (p k ≡ true) × (k < (a + 1) + n)) →
        (p k ≡ true) × (k < a + suc n)
    by (inl t) r =
        let same : a ≡ k = number (subst (λ b. (if b then Some a else find p (range_with_len (a + 1) n)) ≡ Some k) t e)
        in
        (subst (λ w. p w ≡ true) same t, omega arith)
      where
        number : Some a ≡ Some k → a ≡ k
        number e = cc
    by (inr f) r =
        let found = r (subst (λ b. (if b then Some a else find p (range_with_len (a + 1) n)) ≡ Some k) f e) in
        let l = found.1 in
        (found.0, omega arith)

any_of : (p q : Set) (a n y : ℕ) → a ≤ y → y < a + n → q y ≡ true → p y ≡ true →
    list_any p (filter q (range_with_len a n)) ≡ true
any_of p q a zero y l m h k = absurd (omega arith)
any_of p q a (suc n) y l m h k = by (tells (q a)) (eqb_tells a y) (any_of p q (a + 1) n y)
  where
    more : List ℕ
    more = filter q (range_with_len (a + 1) n)

    by : (q a ≡ true) ⊎ (q a ≡ false) →
        ((nat_eq a y ≡ true) × (a ≡ y)) ⊎ ((nat_eq a y ≡ false) × (a ≢ y)) →
        (a + 1 ≤ y → y < (a + 1) + n → q y ≡ true → p y ≡ true →
        list_any p (filter q (range_with_len (a + 1) n)) ≡ true) →
        list_any p (filter q (range_with_len a (suc n))) ≡ true
    by (inl t) (inl s) r =
        subst (λ b. list_any p
        (if b then a ∷ filter q (range_with_len (a + 1) n) else filter q (range_with_len (a + 1) n)) ≡ true)
        (sym t) (or_left (p a) _ (subst (λ w. p w ≡ true) (sym s.1) k))
    by (inl t) (inr s) r =
        let d = s.1 in
        subst (λ b. list_any p
        (if b then a ∷ filter q (range_with_len (a + 1) n) else filter q (range_with_len (a + 1) n)) ≡ true)
        (sym t) (or_right (p a) _ (r (omega arith) (omega arith) h k))
    by (inr f) (inl s) r = absurd (clash h (subst (λ w. q w ≡ false) s.1 f))
    by (inr f) (inr s) r =
        let d = s.1 in
        subst (λ b. list_any p
        (if b then a ∷ filter q (range_with_len (a + 1) n) else filter q (range_with_len (a + 1) n)) ≡ true)
        (sym f) (r (omega arith) (omega arith) h k)

has_its_colour : (o : Option ℕ) (k : ℕ) → o ≡ Some k → has_colour o k ≡ true
has_its_colour o k e = ap (λ o. has_colour o k) e ∙ same_test k k refl

own : (x a : ℕ) → precoloured.colour x ≡ Some a → (x ≡ a) × (is_register a ≡ true)
own x a e = by (tells (is_register x))
  where
    number : Some x ≡ Some a → x ≡ a
    number e = cc

    nothing : ◌≡◌ {A = Option ℕ} None (Some a) → ⊥
    nothing e = cc

    by : (is_register x ≡ true) ⊎ (is_register x ≡ false) → (x ≡ a) × (is_register a ≡ true)
    by (inl t) =
        let same = number (subst (λ b. (if b then Some x else None) ≡ Some a) t e) in
        (same, subst (λ w. is_register w ≡ true) same t)
    by (inr f) = absurd (nothing (subst (λ b. (if b then Some x else None) ≡ Some a) f e))

module _ (g : Problem) (s : RoundState) where
  module _ (c : Colouring) (x0 : ℕ) where
    first : Option ℕ
    first = find (is_free g s c x0) (range_with_len 0 colour_count)

    popped : (x : ℕ) → x ≡ x0 → (pop g s c x0).colour x ≡ first
    unfolding first
    popped x e = ap (λ t. if t then first else c.colour x) (same_test x x0 e)

    other : (x : ℕ) → x ≢ x0 → (pop g s c x0).colour x ≡ c.colour x
    unfolding first
    other x d = ap (λ t. if t then first else c.colour x) (never (λ q. d (same_node x x0 q)))

    -- the colour that was found is free, and one of the registers'
    found : (x a : ℕ) → x ≡ x0 → (pop g s c x0).colour x ≡ Some a → (is_free g s c x a ≡ true) × (is_register a ≡ true)
    unfolding first
    found x a e q =
        let f = finds_such (is_free g s c x0) 0 colour_count a (sym (popped x e) ∙ q) in
        (subst (λ w. is_free g s c w a ≡ true) (sym e) f.0, lt-ltb a colour_count f.1)

  -- what isn't popped keeps its colour
  kept : (c : Colouring) (xs : List ℕ) (r : ℕ) → list_any (λ y. y == r) xs ≡ false →
      (fold (pop g s) c xs).colour r ≡ c.colour r
  kept c [] r n = refl
  kept c (x ∷ xs) r n =
      let no = neither (x == r) (list_any (λ y. y == r) xs) n in
      kept (pop g s c x) xs r no.1 ∙ other c x r (λ e. clash (same_test x r (sym e)) no.0)

  -- each colour is a register's
  abbrev AreRegisters : Colouring → Type 0
  AreRegisters c = (x a : ℕ) → c.colour x ≡ Some a → is_register a ≡ true

  registers_all : (c : Colouring) (xs : List ℕ) → AreRegisters c → AreRegisters (fold (pop g s) c xs)
  registers_all c [] k = k
  registers_all c (x0 ∷ xs) k = registers_all (pop g s c x0) xs popped_too
    where
      popped_too : AreRegisters (pop g s c x0)
      popped_too x a e =
          ⊎_elim (λ t. (found c x0 x a t.1 e).1) (λ t. k x a (sym (other c x0 x t.1) ∙ e)) (eqb_tells x x0)

  -- two classes that interfere have two colours so far
  abbrev Differ : Colouring → Type 0
  Differ c =
      (x y a b : ℕ) → x < g.graph.nodes → y < g.graph.nodes → g.graph.pairs x y ≡ true →
      c.colour (s.alias x) ≡ Some a → c.colour (s.alias y) ≡ Some b → a ≢ b

  -- a free colour is none of those of the classes around
  apart : (c : Colouring) (x y a b : ℕ) → x < g.graph.nodes → y < g.graph.nodes → g.graph.pairs x y ≡ true →
      is_free g s c (s.alias x) a ≡ true → c.colour (s.alias y) ≡ Some b → a ≢ b
  apart c x y a b lx ly p free cb e =
      clash
      (any_of (sees g s c a) (λ y. s.alias y == s.alias x) 0 g.graph.nodes x (omega arith) (omega arith)
      (same_test (s.alias x) (s.alias x) refl)
      ((some_is (λ z. g.graph.pairs x z && has_colour (c.colour (s.alias z)) a) g.graph.nodes).1
      (y, ly, and_true p (has_its_colour (c.colour (s.alias y)) a (cb ∙ ap Some (sym e))))))
      (not_true free)

  module _ (h : Holds g s) (symmetric : (x y : ℕ) → g.graph.pairs x y ≡ g.graph.pairs y x) where
    pub two_classes : (x y : ℕ) → x < g.graph.nodes → y < g.graph.nodes → g.graph.pairs x y ≡ true → s.alias x ≢ s.alias y
    two_classes x y lx ly p e =
        clash (subst (λ w. s.pairs (s.alias x) w ≡ true) (sym e) (h.keeps x y lx ly p))
        (h.sound.irreflexive (s.alias x))

    differ_at_start : Differ precoloured
    differ_at_start x y a b lx ly p ca cb e =
        two_classes x y lx ly p ((own (s.alias x) a ca).0 ∙ (e ∙ sym (own (s.alias y) b cb).0))

    differ_popped : (c : Colouring) (x0 : ℕ) → Differ c → Differ (pop g s c x0)
    differ_popped c x0 k x y a b lx ly p ca cb = by (eqb_tells (s.alias x) x0) (eqb_tells (s.alias y) x0)
      where
        by : ((nat_eq (s.alias x) x0 ≡ true) × (s.alias x ≡ x0)) ⊎
            ((nat_eq (s.alias x) x0 ≡ false) × (s.alias x ≢ x0)) →
            ((nat_eq (s.alias y) x0 ≡ true) × (s.alias y ≡ x0)) ⊎ ((nat_eq (s.alias y) x0 ≡ false) × (s.alias y ≢ x0)) →
            a ≢ b
        by (inl e) (inl f) = absurd (two_classes x y lx ly p (e.1 ∙ sym f.1))
        by (inl e) (inr f) =
            apart c x y a b lx ly p (found c x0 (s.alias x) a e.1 ca).0 (sym (other c x0 (s.alias y) f.1) ∙ cb)
        by (inr e) (inl f) =
            λ q. apart c y x b a ly lx (symmetric y x ∙ p) (found c x0 (s.alias y) b f.1 cb).0
            (sym (other c x0 (s.alias x) e.1) ∙ ca) (sym q)
        by (inr e) (inr f) =
            k x y a b lx ly p (sym (other c x0 (s.alias x) e.1) ∙ ca) (sym (other c x0 (s.alias y) f.1) ∙ cb)

    differ_all : (c : Colouring) (xs : List ℕ) → Differ c → Differ (fold (pop g s) c xs)
    differ_all c [] k = k
    differ_all c (x ∷ xs) k = differ_all (pop g s c x) xs (differ_popped c x k)

pub colours_differ : ColoursDiffer
colours_differ g round graph nodes r x y a b lx ly p ca cb =
    differ_all g (end g round) holds graph.symmetric precoloured (end g round).stack
    (differ_at_start g (end g round) holds graph.symmetric) x y a b lx ly p (is_coloured g round r x a lx ca)
    (is_coloured g round r y b ly cb)
  where
    holds : Holds g (end g round)
    holds = holds_from_start g graph nodes round.steps r.steps

pub colours_are_registers : ColoursAreRegisters
colours_are_registers g round r x a l e =
    registers_all g (end g round) precoloured (end g round).stack (λ x a e. (own x a e).1) ((end g round).alias x) a
    (is_coloured g round r x a l e)

pub registers_are_coloured : RegistersAreColoured
registers_are_coloured g round graph nodes r x l t =
    answered g round r x l ∙ ap Some
    (ap (select g (end g round)).colour (holds.classes.remaining_is_own x l (holds.classes.register_remains x l t)) ∙
    (kept g (end g round) precoloured (end g round).stack x
    (never (λ q. clash t (holds.classes.stacked_is_temporary x q))) ∙
    ap (λ b. if b then Some x else None) t))
  where
    holds : Holds g (end g round)
    holds = holds_from_start g graph nodes round.steps r.steps
