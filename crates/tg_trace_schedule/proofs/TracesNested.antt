-- Loops that are nested: of blocks that are laid from the last of a body on, by numbers alone. A mark that is drawn has a place and a start, which
-- is its place but for the head of a loop, whose blocks are those from its start to its place. Known from outside are marks that were drawn before.
use Rattle.std.proofs.Common.{◌≡◌, ◌≤◌, ◌<◌, ℕ, suc, ◌⊎◌, inl, inr, ap, sym, ◌∙◌, arith}
use Rattle.std.proofs.lemmas.Bool.{cases_lt}

-- A mark is known from outside or drawn since; and none that control may still go to is inside a loop.
module _ (L P : ℕ) (Out : ℕ → Type 0) (n q : ℕ) (place start : ℕ → ℕ) where
  abbrev pub Known : (m : ℕ) → Type 0
  Known m = ((m < P) × Out m) ⊎ ((P ≤ m) × (m < q))

  abbrev pub IsFree : (m : ℕ) → Type 0
  IsFree m = (h : ℕ) → P ≤ h → h < q → start h ≤ place m → place m < place h → ⊥

  pub data Usable (m : ℕ) : Type 0 where
    outer : m < P → Out m → Usable m
    free : P ≤ m → m < q → IsFree m → Usable m

  -- of so many blocks and marks, and where blocks lead
  pub record Nested (Leads : ℕ → ℕ → Type 0) : Type 0 where
    pub laid : L ≤ n
    pub drawn : P ≤ q
    pub stands : (m : ℕ) → P ≤ m → m < q → (L ≤ start m) × (start m ≤ place m) × (place m < n)
    pub known : (i m : ℕ) → L ≤ i → i < n → Leads i m → Known m
    pub closed : (i k m : ℕ) → L ≤ i → i < n → Leads i k → P ≤ k → P ≤ m → m < q → start m ≤ place k → place k < place m → (start m ≤ i) × (i ≤ place m)
    pub back : (i m : ℕ) → L ≤ i → i < n → Leads i m → P ≤ m → i ≤ place m → start m ≤ i

  usable_known : (m : ℕ) → Usable m → Known m
  usable_known m (outer h o) = inl (h, o)
  usable_known m (free h k f) = inr (h, k)

-- Marks and blocks are added, which leave usable what was.
module _
    (L P : ℕ) (Out : ℕ → Type 0) (n q : ℕ) (place start : ℕ → ℕ) (Leads : ℕ → ℕ → Type 0) (nested : Nested L P Out n q place start Leads)
    (n' q' : ℕ) (place' start' : ℕ → ℕ) (more : q ≤ q') (same_place : (m : ℕ) → m < q → place' m ≡ place m) (same_start : (m : ℕ) → m < q → start' m ≡ start m)
    (new_start : (h : ℕ) → q ≤ h → h < q' → n ≤ start' h) where
  free_on : (m : ℕ) → P ≤ m → m < q → IsFree L P Out n q place start m → IsFree L P Out n' q' place' start' m
  free_on m pm mq f h ph hq a b =
      let e = same_place m mq in
      let s = nested.stands m pm mq in
      elim (cases_lt h q) [
        | inl lt ↦ let x = same_place h lt in let y = same_start h lt in f h ph lt (omega (arith, y, e, a)) (omega (arith, x, e, b))
        | inr ge ↦ let z = new_start h ge hq in absurd (omega (arith, z, a, e, s.2))
      ]

  pub usable_on : (m : ℕ) → Usable L P Out n q place start m → Usable L P Out n' q' place' start' m
  usable_on m (outer h o) = outer h o
  usable_on m (free pm mq f) = free pm (omega arith) (free_on m pm mq f)

-- one of so many, or the next
pub one_more : (i n : ℕ) → i < suc n → (i < n) ⊎ (i ≡ n)
one_more i n h = elim (cases_lt i n) [ inl lt ↦ inl lt | inr ge ↦ inr (omega arith) ]

drawn_since : (P q : ℕ) (Out : ℕ → Type 0) (m : ℕ) → P ≤ m → ((m < P) × Out m) ⊎ ((P ≤ m) × (m < q)) → m < q
drawn_since P q Out m h (inl k) = absurd (omega (arith, k.0))
drawn_since P q Out m h (inr k) = k.1

-- A block is laid that leads to usable marks, and a mark drawn that stands at it.
module _
    (L P : ℕ) (Out : ℕ → Type 0) (n q : ℕ) (place start : ℕ → ℕ) (Leads : ℕ → ℕ → Type 0) (nested : Nested L P Out n q place start Leads)
    (New : ℕ → Type 0) (news : (m : ℕ) → New m → Usable L P Out n q place start m)
    (place' start' : ℕ → ℕ) (Leads' : ℕ → ℕ → Type 0)
    (same_place : (m : ℕ) → m < q → place' m ≡ place m) (same_start : (m : ℕ) → m < q → start' m ≡ start m) (its_place : place' q ≡ n)
    (its_start : start' q ≡ n)
    (leads : (i m : ℕ) → i < suc n → Leads' i m → ((i < n) × Leads i m) ⊎ ((i ≡ n) × New m)) where
  -- the place of a mark to which a block leads
  abbrev Of : (i k : ℕ) → Type 0
  Of i k = ((i < n) × Leads i k) ⊎ ((i ≡ n) × New k)

  closed_by : (i k m : ℕ) → L ≤ i → Of i k → P ≤ k → P ≤ m → (m < q) ⊎ (m ≡ q) → start' m ≤ place' k → place' k < place' m → (start' m ≤ i) × (i ≤ place' m)
  closed_by i k m li o pk pm (inr e) a b =
      let x = ap place' e in
      let y = ap start' e in
      absurd (omega (arith, x, y, its_place, its_start, a, b))
  closed_by i k m li (inl (lt, l)) pk pm (inl mq) a b =
      let kq = drawn_since P q Out k pk (nested.known i k li lt l) in
      let x = same_place m mq in
      let y = same_start m mq in
      let z = same_place k kq in
      let c = nested.closed i k m li lt l pk pm mq (omega (arith, y, z, a)) (omega (arith, x, z, b)) in
      (omega (arith, y, c.0), omega (arith, x, c.1))
  closed_by i k m li (inr (e, new)) pk pm (inl mq) a b = absurd (by (news k new))
    where
      by : Usable L P Out n q place start k → ⊥
      by (outer h o) = omega (arith, h, pk)
      by (free h kq f) =
          let x = same_place m mq in
          let y = same_start m mq in
          let z = same_place k kq in
          f m pm mq (omega (arith, y, z, a)) (omega (arith, x, z, b))

  back_by : (i m : ℕ) → L ≤ i → Of i m → P ≤ m → i ≤ place' m → start' m ≤ i
  back_by i m li (inl (lt, l)) pm a =
      let mq = drawn_since P q Out m pm (nested.known i m li lt l) in
      let x = same_place m mq in
      let y = same_start m mq in
      let b = nested.back i m li lt l pm (omega (arith, x, a)) in
      omega (arith, y, b)
  back_by i m li (inr (e, new)) pm a = absurd (by (news m new))
    where
      by : Usable L P Out n q place start m → ⊥
      by (outer h o) = omega (arith, h, pm)
      by (free h mq f) = let x = same_place m mq in let s = nested.stands m pm mq in omega (arith, x, s.2, a, e)

  known_by : (i m : ℕ) → L ≤ i → Of i m → Known L P Out (suc n) (suc q) place' start' m
  known_by i m li (inl (lt, l)) = wider (nested.known i m li lt l)
    where
      wider : ((m < P) × Out m) ⊎ ((P ≤ m) × (m < q)) → ((m < P) × Out m) ⊎ ((P ≤ m) × (m < suc q))
      wider (inl k) = inl k
      wider (inr k) = inr (k.0, omega (arith, k.1))
  known_by i m li (inr (e, new)) = by (news m new)
    where
      by : Usable L P Out n q place start m → ((m < P) × Out m) ⊎ ((P ≤ m) × (m < suc q))
      by (outer h o) = inl (h, o)
      by (free h mq f) = inr (h, omega arith)

  stands_by : (m : ℕ) → P ≤ m → (m < q) ⊎ (m ≡ q) → (L ≤ start' m) × (start' m ≤ place' m) × (place' m < suc n)
  stands_by m pm (inl mq) =
      let x = same_place m mq in
      let y = same_start m mq in
      let s = nested.stands m pm mq in
      (omega (arith, y, s.0), omega (arith, x, y, s.1), omega (arith, x, s.2))
  stands_by m pm (inr e) =
      let x = ap place' e in
      let y = ap start' e in
      let l = nested.laid in
      (omega (arith, y, its_start, l), omega (arith, x, y, its_place, its_start), omega (arith, x, its_place))

  pub lay_nested : Nested L P Out (suc n) (suc q) place' start' Leads'
  lay_nested = record {
    laid = let l = nested.laid in omega (arith, l);
    drawn = let d = nested.drawn in omega (arith, d);
    stands = λ m pm mq. stands_by m pm (one_more m q mq);
    known = λ i m li ni l. known_by i m li (leads i m ni l);
    closed = λ i k m li ni l pk pm mq a b. closed_by i k m li (leads i k ni l) pk pm (one_more m q mq) a b;
    back = λ i m li ni l pm a. back_by i m li (leads i m ni l) pm a;
  }

  pub lay_usable : Usable L P Out (suc n) (suc q) place' start' q
  lay_usable = free nested.drawn (omega arith) (λ h ph hq a b. by h (one_more h q hq) ph b)
    where
      by : (h : ℕ) → (h < q) ⊎ (h ≡ q) → P ≤ h → place' q < place' h → ⊥
      by h (inl lt) ph b = let x = same_place h lt in let s = nested.stands h ph lt in omega (arith, x, s.2, b, its_place)
      by h (inr e) ph b = let x = ap place' e in omega (arith, x, b)

-- The blocks of a loop are laid after those that stood, from which their marks are known, as the head's is; and then the head.
module _
    (L P : ℕ) (Out : ℕ → Type 0) (n1 q1 : ℕ) (place1 start1 : ℕ → ℕ) (Leads1 : ℕ → ℕ → Type 0) (outside : Nested L P Out n1 q1 place1 start1 Leads1)
    (n3 q3 : ℕ) (place3 start3 : ℕ → ℕ) (Leads3 : ℕ → ℕ → Type 0)
    (within : Nested n1 (suc q1) (λ m. Usable L P Out n1 q1 place1 start1 m ⊎ (m ≡ q1)) n3 q3 place3 start3 Leads3)
    (New : ℕ → Type 0) (news : (m : ℕ) → New m → Usable n1 (suc q1) (λ k. Usable L P Out n1 q1 place1 start1 k ⊎ (k ≡ q1)) n3 q3 place3 start3 m)
    (place' start' : ℕ → ℕ) (Leads' : ℕ → ℕ → Type 0)
    (old_place : (m : ℕ) → m < q1 → place' m ≡ place1 m) (old_start : (m : ℕ) → m < q1 → start' m ≡ start1 m)
    (new_place : (m : ℕ) → q1 < m → m < q3 → place' m ≡ place3 m) (new_start : (m : ℕ) → q1 < m → m < q3 → start' m ≡ start3 m)
    (its_place : place' q1 ≡ n3) (its_start : start' q1 ≡ n1)
    (old_leads : (i m : ℕ) → i < n1 → Leads' i m → Leads1 i m)
    (new_leads : (i m : ℕ) → n1 ≤ i → i < suc n3 → Leads' i m → ((i < n3) × Leads3 i m) ⊎ ((i ≡ n3) × New m)) where
  -- where a block leads: from before the loop; or from a block of the loop out of it, to its head, or to a mark of the loop
  data Going (i m : ℕ) : Type 0 where
    before : i < n1 → Leads1 i m → Going i m
    out : n1 ≤ i → m < P → Out m → Going i m
    behind : n1 ≤ i → P ≤ m → m < q1 → IsFree L P Out n1 q1 place1 start1 m → Going i m
    again : n1 ≤ i → i ≤ n3 → m ≡ q1 → Going i m
    inside : n1 ≤ i → i < n3 → Leads3 i m → q1 < m → m < q3 → Going i m
    last : i ≡ n3 → q1 < m → m < q3 → IsFree n1 (suc q1) (λ k. Usable L P Out n1 q1 place1 start1 k ⊎ (k ≡ q1)) n3 q3 place3 start3 m → Going i m

  from_outside : (i m : ℕ) → n1 ≤ i → i ≤ n3 → Usable L P Out n1 q1 place1 start1 m ⊎ (m ≡ q1) → Going i m
  from_outside i m ni le (inl (outer h o)) = out ni h o
  from_outside i m ni le (inl (free h k f)) = behind ni h k f
  from_outside i m ni le (inr e) = again ni le e

  from_new : (i m : ℕ) → i ≡ n3 → Usable n1 (suc q1) (λ k. Usable L P Out n1 q1 place1 start1 k ⊎ (k ≡ q1)) n3 q3 place3 start3 m → Going i m
  from_new i m e (outer h o) = let l = within.laid in from_outside i m (omega (arith, l, e)) (omega (arith, e)) o
  from_new i m e (free h k f) = last e (omega arith) k f

  from_within : (i m : ℕ) → n1 ≤ i → i < n3 → Leads3 i m → Known n1 (suc q1) (λ k. Usable L P Out n1 q1 place1 start1 k ⊎ (k ≡ q1)) n3 q3 place3 start3 m →
      Going i m
  from_within i m ni lt l (inl k) = from_outside i m ni (omega arith) k.1
  from_within i m ni lt l (inr k) = inside ni lt l (omega (arith, k.0)) k.1

  goes : (i m : ℕ) → i < suc n3 → Leads' i m → Going i m
  goes i m h l =
      elim (cases_lt i n1) [
        | inl lt ↦ before lt (old_leads i m lt l)
        | inr ge ↦
            elim (new_leads i m ge h l) [
              | inl x ↦ from_within i m ge x.0 x.1 (within.known i m ge x.0 x.1)
              | inr x ↦ from_new i m x.0 (news m x.1)
            ]
      ]

  -- a mark that was drawn before the loop, its head's, or one of the loop
  pub data Drawn (m : ℕ) : Type 0 where
    old : m < q1 → Drawn m
    head : m ≡ q1 → Drawn m
    new : q1 < m → m < q3 → Drawn m

  drawn : (m : ℕ) → m < q3 → Drawn m
  drawn m h = elim (cases_lt m q1) [ inl lt ↦ old lt | inr ge ↦ elim (one_more q1 m (omega arith)) [ inl lt ↦ new lt h | inr e ↦ head (sym e) ] ]

  old_stands : (m : ℕ) → P ≤ m → m < q1 → (L ≤ start' m) × (start' m ≤ place' m) × (place' m < n1)
  old_stands m pm h =
      let s = outside.stands m pm h in
      let x = old_place m h in
      let y = old_start m h in
      (omega (arith, y, s.0), omega (arith, x, y, s.1), omega (arith, x, s.2))

  new_stands : (m : ℕ) → q1 < m → m < q3 → (n1 ≤ start' m) × (start' m ≤ place' m) × (place' m < n3)
  new_stands m h k =
      let s = within.stands m (omega arith) k in
      let x = new_place m h k in
      let y = new_start m h k in
      (omega (arith, y, s.0), omega (arith, x, y, s.1), omega (arith, x, s.2))

  head_stands : (m : ℕ) → m ≡ q1 → (start' m ≡ n1) × (place' m ≡ n3)
  head_stands m e = (ap start' e ∙ its_start, ap place' e ∙ its_place)

  stands_so : (m : ℕ) → P ≤ m → Drawn m → (L ≤ start' m) × (start' m ≤ place' m) × (place' m < suc n3)
  stands_so m pm (old h) = let s = old_stands m pm h in let l = within.laid in (s.0, s.1, omega (arith, s.2, l))
  stands_so m pm (head e) =
      let s = head_stands m e in
      let l = within.laid in
      let k = outside.laid in
      (omega (arith, s.0, k), omega (arith, s.0, s.1, l), omega (arith, s.1))
  stands_so m pm (new h k) =
      let s = new_stands m h k in
      let l = outside.laid in
      (omega (arith, s.0, l), s.1, omega (arith, s.2))

  known_so : (i m : ℕ) → L ≤ i → Going i m → Known L P Out (suc n3) q3 place' start' m
  known_so i m li (before lt l) = wider (outside.known i m li lt l)
    where
      wider : ((m < P) × Out m) ⊎ ((P ≤ m) × (m < q1)) → ((m < P) × Out m) ⊎ ((P ≤ m) × (m < q3))
      wider (inl k) = inl k
      wider (inr k) = let d = within.drawn in inr (k.0, omega (arith, k.1, d))
  known_so i m li (out ni h o) = inl (h, o)
  known_so i m li (behind ni h k f) = let d = within.drawn in inr (h, omega (arith, d))
  known_so i m li (again ni le e) = let d = within.drawn in let k = outside.drawn in inr (omega (arith, k, e), omega (arith, d, e))
  known_so i m li (inside ni lt l h k) = let d = outside.drawn in inr (omega (arith, d), k)
  known_so i m li (last e h k f) = let d = outside.drawn in inr (omega (arith, d), k)

  abbrev IsClosed : (i k m : ℕ) → Type 0
  IsClosed i k m = start' m ≤ place' k → place' k < place' m → (start' m ≤ i) × (i ≤ place' m)

  -- a loop of before, this one, and one within
  closed_old : (i k m : ℕ) → L ≤ i → P ≤ k → P ≤ m → m < q1 → Going i k → IsClosed i k m
  closed_old i k m li pk pm mq (before lt l) a b =
      let kq = drawn_since P q1 Out k pk (outside.known i k li lt l) in
      let x = old_place m mq in
      let y = old_start m mq in
      let z = old_place k kq in
      let c = outside.closed i k m li lt l pk pm mq (omega (arith, y, z, a)) (omega (arith, x, z, b)) in
      (omega (arith, y, c.0), omega (arith, x, c.1))
  closed_old i k m li pk pm mq (out ni h o) a b = absurd (omega arith)
  closed_old i k m li pk pm mq (behind ni h kq f) a b =
      let x = old_place m mq in
      let y = old_start m mq in
      let z = old_place k kq in
      absurd (f m pm mq (omega (arith, y, z, a)) (omega (arith, x, z, b)))
  closed_old i k m li pk pm mq (again ni le e) a b =
      let s = head_stands k e in
      let t = old_stands m pm mq in
      let l = within.laid in
      absurd (omega (arith, s.1, t.2, l, b))
  closed_old i k m li pk pm mq (inside ni lt l h kq) a b =
      let s = new_stands k h kq in
      let t = old_stands m pm mq in
      absurd (omega (arith, s.0, s.1, t.2, b))
  closed_old i k m li pk pm mq (last e h kq f) a b =
      let s = new_stands k h kq in
      let t = old_stands m pm mq in
      absurd (omega (arith, s.0, s.1, t.2, b))

  closed_head : (i k m : ℕ) → L ≤ i → P ≤ k → m ≡ q1 → Going i k → IsClosed i k m
  closed_head i k m li pk e (before lt l) a b =
      let s = old_stands k pk (drawn_since P q1 Out k pk (outside.known i k li lt l)) in
      let t = head_stands m e in
      absurd (omega (arith, s.2, t.0, a))
  closed_head i k m li pk e (out ni h o) a b = absurd (omega arith)
  closed_head i k m li pk e (behind ni h kq f) a b =
      let s = old_stands k pk kq in
      let t = head_stands m e in
      absurd (omega (arith, s.2, t.0, a))
  closed_head i k m li pk e (again ni le f) a b =
      let s = head_stands k f in
      let t = head_stands m e in
      absurd (omega (arith, s.1, t.1, b))
  closed_head i k m li pk e (inside ni lt l h kq) a b = let t = head_stands m e in (omega (arith, t.0), omega (arith, t.1))
  closed_head i k m li pk e (last f h kq g) a b =
      let t = head_stands m e in
      let l = within.laid in
      (omega (arith, t.0, l, f), omega (arith, t.1, f))

  closed_new : (i k m : ℕ) → L ≤ i → P ≤ k → q1 < m → m < q3 → Going i k → IsClosed i k m
  closed_new i k m li pk hm mq (before lt l) a b =
      let s = old_stands k pk (drawn_since P q1 Out k pk (outside.known i k li lt l)) in
      let t = new_stands m hm mq in
      absurd (omega (arith, s.2, t.0, a))
  closed_new i k m li pk hm mq (out ni h o) a b = absurd (omega arith)
  closed_new i k m li pk hm mq (behind ni h kq f) a b =
      let s = old_stands k pk kq in
      let t = new_stands m hm mq in
      absurd (omega (arith, s.2, t.0, a))
  closed_new i k m li pk hm mq (again ni le e) a b =
      let s = head_stands k e in
      let t = new_stands m hm mq in
      absurd (omega (arith, s.1, t.2, b))
  closed_new i k m li pk hm mq (inside ni lt l h kq) a b =
      let x = new_place m hm mq in
      let y = new_start m hm mq in
      let z = new_place k h kq in
      let c = within.closed i k m ni lt l (omega arith) (omega arith) mq (omega (arith, y, z, a)) (omega (arith, x, z, b)) in
      (omega (arith, y, c.0), omega (arith, x, c.1))
  closed_new i k m li pk hm mq (last e h kq f) a b =
      let x = new_place m hm mq in
      let y = new_start m hm mq in
      let z = new_place k h kq in
      absurd (f m (omega arith) mq (omega (arith, y, z, a)) (omega (arith, x, z, b)))

  closed_so : (i k m : ℕ) → L ≤ i → P ≤ k → P ≤ m → Drawn m → Going i k → IsClosed i k m
  closed_so i k m li pk pm (old h) g = closed_old i k m li pk pm h g
  closed_so i k m li pk pm (head e) g = closed_head i k m li pk e g
  closed_so i k m li pk pm (new h mq) g = closed_new i k m li pk h mq g

  back_so : (i m : ℕ) → L ≤ i → P ≤ m → Going i m → i ≤ place' m → start' m ≤ i
  back_so i m li pm (before lt l) a =
      let mq = drawn_since P q1 Out m pm (outside.known i m li lt l) in
      let x = old_place m mq in
      let y = old_start m mq in
      let b = outside.back i m li lt l pm (omega (arith, x, a)) in
      omega (arith, y, b)
  back_so i m li pm (out ni h o) a = absurd (omega arith)
  back_so i m li pm (behind ni h mq f) a = let s = old_stands m pm mq in absurd (omega (arith, s.2, a))
  back_so i m li pm (again ni le e) a = let s = head_stands m e in omega (arith, s.0)
  back_so i m li pm (inside ni lt l h mq) a =
      let x = new_place m h mq in
      let y = new_start m h mq in
      let b = within.back i m ni lt l (omega arith) (omega (arith, x, a)) in
      omega (arith, y, b)
  back_so i m li pm (last e h mq f) a = let s = new_stands m h mq in absurd (omega (arith, s.2, a, e))

  pub loop_nested : Nested L P Out (suc n3) q3 place' start' Leads'
  loop_nested = record {
    laid = let l = outside.laid in let k = within.laid in omega (arith, l, k);
    drawn = let d = outside.drawn in let k = within.drawn in omega (arith, d, k);
    stands = λ m pm mq. stands_so m pm (drawn m mq);
    known = λ i m li ni l. known_so i m li (goes i m ni l);
    closed = λ i k m li ni l pk pm mq a b. closed_so i k m li pk pm (drawn m mq) (goes i k ni l) a b;
    back = λ i m li ni l pm a. back_so i m li pm (goes i m ni l) a;
  }

  -- the head is entered from anywhere
  pub head_usable : Usable L P Out (suc n3) q3 place' start' q1
  head_usable =
      let d = within.drawn in
      free outside.drawn (omega (arith, d)) (λ h ph hq a b. let s = stands_so h ph (drawn h hq) in omega (arith, s.2, its_place, b))

  pub starts_since : (h : ℕ) → q1 ≤ h → h < q3 → n1 ≤ start' h
  starts_since h le lt =
      elim (one_more q1 h (omega arith)) [
        | inl k ↦ let s = new_stands h k lt in s.0
        | inr e ↦ let s = head_stands h (sym e) in omega (arith, s.0)
      ]
