-- What the search for the places of one operand keeps, and what it ends with.
use Rattle.std.proofs.Common.{◌≡◌, ◌<◌, ◌≤◌, ◌+◌, ◌-◌, ◌⊎◌, ℕ, zero, suc, Bool, true, false, not, nat_eq, ◌&&◌, ◌||◌, List, [], ◌∷◌, ◌++◌, length}
use Rattle.std.proofs.Common.{get_or, drop, refl, sym, ap, ◌∙◌, subst, arith, ⊎_elim, inl, inr, append-nil, append_assoc}
use Rattle.std.specs.List.{list_any}
use Rattle.std.proofs.lemmas.Bool.{cases_eq, cases_lt, cases_Bool, and_from, false≢true, or_left, or_right, or_cases, eq-eqb, eqb-true, ne_eqb, both_ways, not_from_false}
use Rattle.std.proofs.lemmas.List.{drop_more, drop_all, drop-append-le, length-append}
use Rattle.std.proofs.lemmas.List.Folds.{list_any-append}
use Rattle.tg_instr.specs.declared.instr.Instr.{Instr}
use Rattle.tg_instr.specs.declared.operands.Opnd.{Opnd}
use Rattle.tg_live.specs.Flow.{goes_on}
use Rattle.tg_live.specs.Live.{is_used, is_defined, IsLiveOut}
use Rattle.tg_live.specs.glue.Tables.{Table, IsBefore}
use Rattle.tg_live.specs.mirror.Search.{Found, found, stamp_at, has_stamp, has_stamp_before, has, one_unless, unmarked}
use Rattle.tg_live.specs.mirror.Search.{IsPassed, IsFound, IsClosed, AreEntered, IsSearched}
use Rattle.tg_live.proofs.Reach.{live_before, least}

-- Booleans.

none_of : (a b : Bool) → (a || b) ≡ false → (a ≡ false) × (b ≡ false)
none_of true b e = absurd (both_ways _ e refl)
none_of false b e = (refl, e)

off_by : (a b : Bool) → (a ≡ true → b ≡ true) → b ≡ false → a ≡ false
off_by true b i e = absurd (both_ways _ e (i refl))
off_by false b i e = refl

pub has_at : (ks : List ℕ) (k : ℕ) → k < length ks → has ks (get_or ks k 0) ≡ true
has_at [] k l = absurd (omega arith)
has_at (j ∷ ks) zero l = or_left (nat_eq j j) _ (eq-eqb j j refl)
has_at (j ∷ ks) (suc k) l = or_right (nat_eq (get_or ks k 0) j) _ (has_at ks k (omega arith))

has_left : (q : ℕ) (ks js : List ℕ) → has ks q ≡ true → has (ks ++ js) q ≡ true
has_left q ks js h = list_any-append (nat_eq q) ks js ∙ or_left (has ks q) (has js q) h

has_last : (q k : ℕ) (ks : List ℕ) → q ≡ k → has (ks ++ k ∷ []) q ≡ true
has_last q k ks e =
    list_any-append (nat_eq q) ks (k ∷ []) ∙ or_right (has ks q) _ (or_left (nat_eq q k) false (eq-eqb q k e))

-- one of a list with one more
has_push : (q k : ℕ) (ks : List ℕ) → has (ks ++ k ∷ []) q ≡ true → (has ks q ≡ true) ⊎ (q ≡ k)
has_push q k ks h =
    ⊎_elim (λ a. inl a)
    (λ b. ⊎_elim (λ e. inr (eqb-true q k e)) (λ n. absurd (false≢true n)) (or_cases (nat_eq q k) false b))
    (or_cases (has ks q) _ (sym (list_any-append (nat_eq q) ks (k ∷ [])) ∙ h))

-- How many places don't have the stamp.

unmarked_by : (a b : Bool) (m k : ℕ) → (a ≡ true → b ≡ true) → k ≤ m → one_unless b + k ≤ one_unless a + m
unmarked_by true true m k i l = omega (arith, l)
unmarked_by true false m k i l = absurd (false≢true (i refl))
unmarked_by false true m k i l = omega (arith, l)
unmarked_by false false m k i l = omega (arith, l)

unmarked_le : (n : ℕ) (ms ks : List ℕ) → length ks ≡ length ms →
    ((q : ℕ) → has_stamp n ms q ≡ true → has_stamp n ks q ≡ true) → unmarked n ks ≤ unmarked n ms
unmarked_le n [] [] e h = omega arith
unmarked_le n [] (k ∷ ks) e h = absurd (omega (arith, e))
unmarked_le n (m ∷ ms) [] e h = absurd (omega (arith, e))
unmarked_le n (m ∷ ms) (k ∷ ks) e h =
    unmarked_by (nat_eq n m) (nat_eq n k) (unmarked n ms) (unmarked n ks) (h 0)
    (unmarked_le n ms ks (omega (arith, e)) (λ q. h (suc q)))

less_by : (a b : Bool) (m k : ℕ) → (a ≡ true → b ≡ true) → k + 1 ≤ m → one_unless b + k + 1 ≤ one_unless a + m
less_by true true m k i l = omega (arith, l)
less_by true false m k i l = absurd (false≢true (i refl))
less_by false true m k i l = omega (arith, l)
less_by false false m k i l = omega (arith, l)

unmarked_less : (n : ℕ) (ms ks : List ℕ) (at : ℕ) → length ks ≡ length ms →
    ((q : ℕ) → has_stamp n ms q ≡ true → has_stamp n ks q ≡ true) → at < length ms → has_stamp n ms at ≡ false →
    has_stamp n ks at ≡ true → unmarked n ks + 1 ≤ unmarked n ms
unmarked_less n [] ks at e h l u m = absurd (omega (arith, l))
unmarked_less n (m ∷ ms) [] at e h l u t = absurd (omega (arith, e))
unmarked_less n (m ∷ ms) (k ∷ ks) zero e h l u t =
    let a = ap one_unless u in
    let b = ap one_unless t in
    let c = unmarked_le n ms ks (omega (arith, e)) (λ q. h (suc q)) in
    omega (arith, a, b, c)
unmarked_less n (m ∷ ms) (k ∷ ks) (suc at) e h l u t =
    less_by (nat_eq n m) (nat_eq n k) (unmarked n ms) (unmarked n ks) (h 0)
    (unmarked_less n ms ks at (omega (arith, e)) (λ q. h (suc q)) (omega arith) u t)

-- The place before.

before_suc : (n : ℕ) (ms : List ℕ) (q : ℕ) → 0 < q → has_stamp_before n ms q ≡ has_stamp n ms (q - 1)
before_suc n ms zero l = absurd (omega (arith, l))
before_suc n ms (suc q) l = let e : q ≡ suc q - 1 = omega arith in ap (has_stamp n ms) e

before_kept : (n : ℕ) (ms ks : List ℕ) → ((q : ℕ) → has_stamp n ms q ≡ true → has_stamp n ks q ≡ true) → (q : ℕ) →
    has_stamp_before n ms q ≡ true → has_stamp_before n ks q ≡ true
before_kept n ms ks h zero e = e
before_kept n ms ks h (suc q) e = h q e

-- a place is one of a run, or stands before or behind it
place_in : (first last q : ℕ) → ((first ≤ q) × (q ≤ last)) ⊎ ((q < first) ⊎ (last < q))
place_in first last q =
    ⊎_elim (λ l. inr (inl l)) (λ l. ⊎_elim (λ k. inr (inr k)) (λ k. inl (l, k)) (cases_lt last q)) (cases_lt q first)

module _ (all : List Instr) (x : Opnd) (n : ℕ) where
  abbrev marks : Found → ℕ → Bool
  marks f q = has_stamp n f.marks q

  pub entered_itself : (places : ℕ → Bool) (f : Found) → IsFound all x n f →
      ((q : ℕ) → places q ≡ true → marks f q ≡ true) → AreEntered all x n places f f
  entered_itself places f s w = record {
    is_found = s;
    size = refl;
    others = λ q. inr refl;
    kept = λ q m. m;
    marked = w;
    more = [];
    firsts = sym (append-nil f.firsts);
    closed = λ q m u h. absurd (both_ways _ u m);
    room = omega arith;
  }

  pub entered_both : (here there places : ℕ → Bool) (f g h : Found) → AreEntered all x n here f g →
      AreEntered all x n there g h → ((q : ℕ) → places q ≡ true → (here q || there q) ≡ true) →
      AreEntered all x n places f h
  entered_both here there places f g h a b w = record {
    is_found = b.is_found;
    size = b.size ∙ a.size;
    others = λ q. ⊎_elim (λ e. inl e) (λ e. ⊎_elim (λ d. inl (e ∙ d)) (λ d. inr (e ∙ d)) (a.others q)) (b.others q);
    kept = λ q m. b.kept q (a.kept q m);
    marked = λ q m. ⊎_elim (λ e. b.kept q (a.marked q e)) (λ e. b.marked q e) (or_cases (here q) (there q) (w q m));
    more = a.more ++ b.more;
    firsts = b.firsts ∙ (ap (λ ks. ks ++ b.more) a.firsts ∙ append_assoc f.firsts a.more b.more);
    closed = λ q m u e.
        let k = none_of (has a.more q) (has b.more q) (sym (list_any-append (nat_eq q) a.more b.more) ∙ e) in
        ⊎_elim (λ t. (λ d p go. b.kept p (a.closed q t u k.0 d p go))) (λ t. b.closed q m t k.1)
        (cases_Bool (marks g q));
    room = let l = length-append a.more b.more in omega (arith, l, a.room, b.room);
  }

  pub entered_as : (here places : ℕ → Bool) (f g : Found) → ((q : ℕ) → places q ≡ true → here q ≡ true) →
      AreEntered all x n here f g → AreEntered all x n places f g
  entered_as here places f g w e = record {
    is_found = e.is_found;
    size = e.size;
    others = e.others;
    kept = e.kept;
    marked = λ q p. e.marked q (w q p);
    more = e.more;
    firsts = e.firsts;
    closed = e.closed;
    room = e.room;
  }

  -- a new run
  module _ (before : Table) (is_before : IsBefore all before) (f g : Found) (first last : ℕ)
      (s : IsFound all x n f) (order : first ≤ last) (inside : last < length f.marks) (live_at : IsLiveOut all last x)
      (none : marks f last ≡ false)
      (passed : (q : ℕ) → first < q → q ≤ last → IsPassed all x before q)
      (size : length g.marks ≡ length f.marks)
      (inner : (q : ℕ) → first ≤ q → q ≤ last → stamp_at g.marks q ≡ n)
      (outer : (q : ℕ) → (q < first) ⊎ (last < q) → stamp_at g.marks q ≡ stamp_at f.marks q)
      (firsts : g.firsts ≡ f.firsts ++ first ∷ []) (lasts : g.lasts ≡ f.lasts ++ last ∷ []) where
    in_place : (q : ℕ) → first ≤ q → q ≤ last → marks g q ≡ true
    in_place q a b = eq-eqb n _ (sym (inner q a b))

    out_run : (q : ℕ) → (q < first) ⊎ (last < q) → marks g q ≡ marks f q
    out_run q w = ap (nat_eq n) (outer q w)

    kept : (q : ℕ) → marks f q ≡ true → marks g q ≡ true
    kept q m = ⊎_elim (λ w. in_place q w.0 w.1) (λ w. out_run q w ∙ m) (place_in first last q)

    goes_back : (q : ℕ) → first < q → q ≤ last → goes_on all (q - 1) q ≡ true
    goes_back q a b =
        sym (is_before (q - 1) q)
        ∙ (ap (list_any (nat_eq (q - 1))) (passed q a b).alone
        ∙ or_left (nat_eq (q - 1) (q - 1)) false (eq-eqb (q - 1) (q - 1) refl))

    alone : (q p : ℕ) → first < q → q ≤ last → goes_on all p q ≡ true → p ≡ q - 1
    alone q p a b go =
        ⊎_elim (λ e. eqb-true p (q - 1) e) (λ e. absurd (false≢true e))
        (or_cases (nat_eq p (q - 1)) false
        (sym (ap (list_any (nat_eq p)) (passed q a b).alone) ∙ (is_before p q ∙ go)))

    live_run : (k q : ℕ) → q + k ≡ last → first ≤ q → IsLiveOut all q x
    live_run zero q e a = let same : last ≡ q = omega (arith, e) in subst (λ (j : ℕ). IsLiveOut all j x) same live_at
    live_run (suc k) q e a =
        let l : first < suc q = omega (arith, a) in
        let u : suc q ≤ last = omega (arith, e) in
        let same : suc q - 1 ≡ q = omega arith in
        let go = subst (λ (j : ℕ). goes_on all j (suc q) ≡ true) same (goes_back (suc q) l u) in
        live_before all x q (suc q) go (passed (suc q) l u).undefined
        (live_run k (suc q) (omega (arith, e)) (omega (arith, a)))

    begins_in : (q : ℕ) → first ≤ q → q ≤ last → has_stamp_before n g.marks q ≡ false → has g.firsts q ≡ true
    begins_in q a b u =
        ⊎_elim (λ e. ap (λ ks. has ks q) firsts ∙ has_last q first f.firsts e)
        (λ ne.
        let l : first < q = omega (arith, a, ne) in
        absurd (both_ways _ u (before_suc n g.marks q (omega (arith, l))
        ∙ in_place (q - 1) (omega (arith, l)) (omega (arith, b))))) (cases_eq q first)

    begins_out : (q : ℕ) → marks f q ≡ true → has_stamp_before n g.marks q ≡ false → has g.firsts q ≡ true
    begins_out q m u =
        ap (λ ks. has ks q) firsts
        ∙ has_left q f.firsts _ (s.begins q m (off_by _ _ (before_kept n f.marks g.marks kept q) u))

    ends_in : (q : ℕ) → first ≤ q → q ≤ last → marks g (suc q) ≡ false → has g.lasts q ≡ true
    ends_in q a b u =
        ⊎_elim (λ e. ap (λ ks. has ks q) lasts ∙ has_last q last f.lasts e)
        (λ ne. absurd (both_ways _ u (in_place (suc q) (omega (arith, a)) (omega (arith, b, ne))))) (cases_eq q last)

    ends_out : (q : ℕ) → marks f q ≡ true → marks g (suc q) ≡ false → has g.lasts q ≡ true
    ends_out q m u =
        ap (λ ks. has ks q) lasts ∙ has_left q f.lasts _ (s.ends q m (off_by _ _ (kept (suc q)) u))

    found_new : IsFound all x n g
    found_new = record {
      live = λ q m.
          ⊎_elim
          (λ w. let p = w.1 in live_run (last - q) q (omega (arith, p)) w.0)
          (λ w. s.live q (sym (out_run q w) ∙ m)) (place_in first last q);
      first = λ q h.
          ⊎_elim (λ a. kept q (s.first q a)) (λ e. in_place q (omega (arith, e)) (omega (arith, e, order)))
          (has_push q first f.firsts (sym (ap (λ ks. has ks q) firsts) ∙ h));
      last = λ q h.
          ⊎_elim (λ a. kept q (s.last q a)) (λ e. in_place q (omega (arith, e, order)) (omega (arith, e)))
          (has_push q last f.lasts (sym (ap (λ ks. has ks q) lasts) ∙ h));
      begins = λ q m u.
          ⊎_elim (λ w. begins_in q w.0 w.1 u) (λ w. begins_out q (sym (out_run q w) ∙ m) u)
          (place_in first last q);
      ends = λ q m u.
          ⊎_elim (λ w. ends_in q w.0 w.1 u) (λ w. ends_out q (sym (out_run q w) ∙ m) u)
          (place_in first last q);
    }

    closed_in : (q : ℕ) → first ≤ q → q ≤ last → (q ≡ first → ⊥) → IsClosed all x n g q
    closed_in q a b ne = λ d p go.
        let l : first < q = omega (arith, a, ne) in
        let e = alone q p l b go in
        in_place p (omega (arith, e, l)) (omega (arith, e, b))

    pub entered_run : AreEntered all x n (λ q. nat_eq q last) f g
    entered_run = record {
      is_found = found_new;
      size = size;
      others = λ q.
          ⊎_elim (λ w. inl (inner q w.0 w.1)) (λ w. inr (outer q w)) (place_in first last q);
      kept = kept;
      marked = λ q e. let k = eqb-true q last e in in_place q (omega (arith, k, order)) (omega (arith, k));
      more = first ∷ [];
      firsts = firsts;
      closed = λ q m u h.
          ⊎_elim
          (λ w. closed_in q w.0 w.1 (λ e. both_ways _ h (or_left (nat_eq q first) false (eq-eqb q first e))))
          (λ w. absurd (both_ways _ u (sym (out_run q w) ∙ m))) (place_in first last q);
      room =
          let l = unmarked_less n f.marks g.marks last size kept inside none (in_place last order (omega arith)) in
          omega (arith, l);
    }

  -- between two places that are visited
  pub record IsSearching (old : List ℕ) (f : Found) (done : ℕ) : Type 0 where
    pub is_found : IsFound all x n f
    pub size : length f.marks ≡ length old
    pub others : (q : ℕ) → (stamp_at f.marks q ≡ n) ⊎ (stamp_at f.marks q ≡ stamp_at old q)
    pub uses : (p : ℕ) → is_used all x p ≡ true → (q : ℕ) → goes_on all q p ≡ true → marks f q ≡ true
    pub closed : (q : ℕ) → marks f q ≡ true → has (drop done f.firsts) q ≡ false → IsClosed all x n f q
    pub within : done ≤ length f.firsts

  abbrev pub room : Found → ℕ
  room f = unmarked n f.marks + length f.firsts

  module _ (old : List ℕ) where
    -- the stamps at the start, none of which is this one
    pub fresh : ((q : ℕ) → has_stamp n old q ≡ false) → IsFound all x n (found old [] [])
    fresh none = record {
      live = λ q m. absurd (both_ways _ (none q) m);
      first = λ q h. absurd (false≢true h);
      last = λ q h. absurd (false≢true h);
      begins = λ q m u. absurd (both_ways _ (none q) m);
      ends = λ q m u. absurd (both_ways _ (none q) m);
    }

    used_by : (sites : List ℕ) (p q : ℕ) → has sites p ≡ true → goes_on all q p ≡ true →
        list_any (goes_on all q) sites ≡ true
    used_by [] p q h go = absurd (false≢true h)
    used_by (k ∷ sites) p q h go =
        ⊎_elim (λ e. or_left (goes_on all q k) _ (let P : ℕ → Type 0 = λ j. goes_on all q j ≡ true in
        subst P (eqb-true p k e) go))
        (λ r. or_right (goes_on all q k) _ (used_by sites p q r go)) (or_cases (nat_eq p k) (has sites p) h)

    pub begins : (sites : List ℕ) (f : Found) → ((q : ℕ) → has_stamp n old q ≡ false) →
        ((p : ℕ) → has sites p ≡ is_used all x p) →
        AreEntered all x n (λ q. list_any (goes_on all q) sites) (found old [] []) f →
        IsSearching old f 0
    begins sites f none same e = record {
      is_found = e.is_found;
      size = e.size;
      others = e.others;
      uses = λ p u q go. e.marked q (used_by sites p q (same p ∙ u) go);
      closed = λ q m h. e.closed q m (none q) (ap (λ ks. has ks q) (sym e.firsts) ∙ h);
      within = omega arith;
    }

    pub goes_further : (f g : Found) (done : ℕ) → IsSearching old f done → done < length f.firsts →
        AreEntered all x n (λ q. not (is_defined all x (get_or f.firsts done 0)) && goes_on all q (get_or f.firsts done 0)) f g →
        IsSearching old g (done + 1)
    goes_further f g done s l e =
        let at = get_or f.firsts done 0 in
        let k : done + 1 ≤ length f.firsts = omega (arith, l) in
        let sized : length g.firsts ≡ length f.firsts + length e.more =
        ap length e.firsts ∙ length-append f.firsts e.more in
        let rest : drop (done + 1) g.firsts ≡ drop (done + 1) f.firsts ++ e.more =
        ap (drop (done + 1)) e.firsts ∙ drop-append-le (done + 1) f.firsts e.more k in
        record {
          is_found = e.is_found;
          size = e.size ∙ s.size;
          others = λ q. ⊎_elim (λ a. inl a) (λ a. ⊎_elim (λ b. inl (a ∙ b)) (λ b. inr (a ∙ b)) (s.others q)) (e.others q);
          uses = λ p u q go. e.kept q (s.uses p u q go);
          closed = λ q m h.
              let none = none_of (has (drop (done + 1) f.firsts) q) (has e.more q)
              (sym (ap (λ ks. has ks q) rest ∙ list_any-append (nat_eq q) (drop (done + 1) f.firsts) e.more) ∙ h) in
              let C : ℕ → Type 0 = λ j. IsClosed all x n g j in
              let here : C at = λ d p go. e.marked p (and_from _ _ (not_from_false _ d) go) in
              let old_ones : marks f q ≡ true → C q =
              λ t. ⊎_elim (λ same. subst C (sym same) here)
              (λ ne.
              let still : has (drop done f.firsts) q ≡ false =
              ap (λ ks. has ks q) (drop_more f.firsts done 0 l)
              ∙ (ap (λ b. b || has (drop (done + 1) f.firsts) q) (ne_eqb q at ne) ∙ none.0) in
              (λ d p go. e.kept p (s.closed q t still d p go))) (cases_eq q at) in
              ⊎_elim old_ones (λ u. e.closed q m u none.1) (cases_Bool (marks f q));
          within = omega (arith, sized, k);
        }

    pub comes_nearer : (f g : Found) (done : ℕ) (places : ℕ → Bool) → AreEntered all x n places f g → done < length f.firsts →
        room g - (done + 1) < room f - done
    comes_nearer f g done places e l =
        let sized : length g.firsts ≡ length f.firsts + length e.more =
        ap length e.firsts ∙ length-append f.firsts e.more in
        omega (arith, sized, e.room, l)

    pub ends : (f : Found) (done : ℕ) → IsSearching old f done → length f.firsts ≤ done → IsSearched all x n old f
    ends f done s l = record {
      size = s.size;
      is_found = s.is_found;
      live = λ q. (
        s.is_found.live q,
        λ live. least all x (marks f) (λ at next go u. s.uses next u at go)
            (λ at next go d m. s.closed next m (ap (λ ks. has ks next) (drop_all done f.firsts l)) d at go) q live,
      );
      others = s.others;
    }

-- the place that is visited next is one that the operand is live out of
pub place_live : (all : List Instr) (x : Opnd) (n : ℕ) (old : List ℕ) (f : Found) (done : ℕ) →
    IsSearching all x n old f done → done < length f.firsts → IsLiveOut all (get_or f.firsts done 0) x
place_live all x n old f done s l =
    s.is_found.live (get_or f.firsts done 0) (s.is_found.first (get_or f.firsts done 0) (has_at f.firsts done l))
