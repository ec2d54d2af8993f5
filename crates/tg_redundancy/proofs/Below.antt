-- Known code has the temporaries of the code: facts tell of no others.
use Rattle.std.proofs.Common.{ℕ, zero, suc, ◌≡◌, ◌==◌, ◌&&◌, not, Bool, true, false, List, [], ◌∷◌, ◌++◌, Option, Some, None, nat_lt}
use Rattle.std.proofs.Common.{refl, sym, ap, ◌∙◌, subst}
use Rattle.std.proofs.lemmas.Bool.{and_parts, and_from}
use Rattle.std.specs.Prelude.{if◌then◌else◌, take}
use Rattle.std.specs.List.{list_all, filter}
use Rattle.tg_tree.specs.declared.operators.Rel.{Rel}
use Rattle.tg_tree.specs.Operators.{opposite}
use Rattle.tg_instr.specs.declared.operands.Opnd.{Opnd}
use Rattle.tg_instr.specs.declared.operands.Opnd.TheVariants.{Temp, Reg}
use Rattle.tg_instr.specs.declared.instr.Instr.{Instr}
use Rattle.tg_instr.specs.declared.instr.Instr.TheVariants.{Move}
use Rattle.tg_instr.specs.Operands.{is_same}
use Rattle.tg_instr.specs.Shapes.{InstructionShape, Copy, Stores, ToSlot, Here, Goes, Tests, Calls, Asks, Fails, Returns, shape}
use Rattle.tg_instr.specs.Uses.{uses, defs, uses_of}
use Rattle.tg_instr.specs.Codes.{is_below, has_temps_below}
use Rattle.tg_redundancy.specs.declared.readings.Reading.{Reading}
use Rattle.tg_redundancy.specs.declared.readings.Reading.TheVariants.{Moved, Loaded, InSlot, Sum, Plus, ExactSum, ExactPlus, Shifted, Lower}
use Rattle.tg_redundancy.specs.mirror.Readings.{temp, reading_of, reread, read_by, same_reading}
use Rattle.tg_redundancy.proofs.ReadShapes.{shape_of}
use Rattle.tg_redundancy.specs.declared.facts.Fact.{Fact}
use Rattle.tg_redundancy.specs.declared.facts.Fact.TheVariants.{Has, Untrue}
use Rattle.tg_redundancy.specs.mirror.Facts.{Facts, stands, found, is_of, is_of_memory, names_one, forget, forget_each, forget_memory, noted}
use Rattle.tg_redundancy.specs.mirror.Known.{Claims, claimed, both, most_claimed, claim, comes_back, let_go, arrival, State, Step, known, gives, tested, moved}
use Rattle.tg_redundancy.specs.mirror.Known.{kept, copied, gotten, by_shape, by_reading, known_step, at_start, most_facts, most_moves}
use Rattle.tg_redundancy.specs.laws.Laws.{KnownIsCode}
use Rattle.tg_redundancy.proofs.Blocks.{pair}
use Rattle.tg_redundancy.proofs.ReadShapes.{reading_is}
use Rattle.tg_redundancy.proofs.Shaped.{Walked, marks_differ_still, leads_still, ends_still}

module _ (n : ℕ) where
  abbrev Told : Facts → Type 0
  Told [] = Unit {0}
  Told (Has t r ∷ f) = (nat_lt t n ≡ true) × Told f
  Told (Untrue rel x y ∷ f) = Told f

  rest_told : (fact : Fact) (f : Facts) → Told (fact ∷ f) → Told f
  rest_told (Has t r) f h = h.1
  rest_told (Untrue rel x y) f h = h

  more_told : (fact : Fact) (f g : Facts) → Told (fact ∷ f) → Told g → Told (fact ∷ g)
  more_told (Has t r) f g h i = (h.0, i)
  more_told (Untrue rel x y) f g h i = i

  filter_told : (test : Fact → Bool) (f : Facts) → Told f → Told (filter test f)
  filter_told test [] h = tt
  filter_told test (fact ∷ f) h = by (test fact) (filter_told test f (rest_told fact f h))
    where
      by : (b : Bool) → Told (filter test f) → Told (if b then fact ∷ filter test f else filter test f)
      by true i = more_told fact f (filter test f) h i
      by false i = i

  each_told : (ds : List Opnd) (f : Facts) → Told f → Told (forget_each ds f)
  each_told [] f h = h
  each_told (d ∷ ds) f h = each_told ds (forget d f) (filter_told (λ fact. not (is_of d fact)) f h)

  take_told : (k : ℕ) (f : Facts) → Told f → Told (take k f)
  take_told zero f h = tt
  take_told (suc k) [] h = tt
  take_told (suc k) (fact ∷ f) h = more_told fact f (take k f) h (take_told k f (rest_told fact f h))

  found_told : (t : ℕ) (r : Reading) (f : Facts) (u : ℕ) → found t r f ≡ Some u → Told f → nat_lt u n ≡ true
  found_told t r [] u e h = cc
  found_told t r (Untrue rel x y ∷ f) u e h = found_told t r f u e h
  found_told t r (Has v q ∷ f) u e h = by (same_reading q r && not (v == t)) e (λ i. found_told t r f u i h.1)
    where
      some_is : (x y : ℕ) → Some x ≡ Some y → x ≡ y
      some_is x y i = cc

      by : (b : Bool) → (if b then Some v else found t r f) ≡ Some u → (found t r f ≡ Some u → nat_lt u n ≡ true) → nat_lt u n ≡ true
      by true i later = subst (λ z. nat_lt z n ≡ true) (some_is v u i) h.0
      by false i later = later i

  -- of what comes, and of marks
  abbrev Comes : Option Facts → Type 0
  Comes None = Unit {0}
  Comes (Some f) = Told f

  abbrev Tells : State → Type 0
  Tells s = Comes s.comes × ((m : ℕ) → Comes (claimed m s.claims))

  known_told : (o : Option Facts) (claims : Claims) (room : ℕ) → Comes o → Told (known (record { comes = o; claims = claims; room = room }))
  known_told None claims room h = tt
  known_told (Some f) claims room h = h

  claim_told : (m : ℕ) (f : Facts) (claims : Claims) → Told f → ((j : ℕ) → Comes (claimed j claims)) → (j : ℕ) → Comes (claimed j (claim m f claims))
  claim_told m f claims h hs j = by (m == j)
    where
      by_both : (o : Option Facts) → Told (both (take most_claimed f) o)
      by_both None = take_told most_claimed f h
      by_both (Some g) = tt

      by : (b : Bool) → Comes (if b then Some (both (take most_claimed f) (claimed m claims)) else claimed j claims)
      by true = by_both (claimed m claims)
      by false = hs j

  let_go_told : (m : ℕ) (claims : Claims) → ((j : ℕ) → Comes (claimed j claims)) → (j : ℕ) → Comes (claimed j (let_go m claims))
  let_go_told m claims h j = by (m == j)
    where
      by : (b : Bool) → Comes (if b then None else claimed j claims)
      by true = tt
      by false = h j

  arrival_told : (b : Bool) (o met : Option Facts) → Comes o → Comes met → Told (arrival b o met)
  arrival_told true o met h i = tt
  arrival_told false None None h i = tt
  arrival_told false None (Some g) h i = i
  arrival_told false (Some f) None h i = h
  arrival_told false (Some f) (Some g) h i = tt

  -- what an instruction with temporaries below the number tells
  module _ (most : ℕ) where
    copied_told : (t : ℕ) (y : Opnd) (f : Facts) → nat_lt t n ≡ true → Told f → Told (copied most t y f)
    copied_told t y f l h = by (is_same (temp t) y)
      where
        after : Told (forget (temp t) f)
        after = filter_told (λ fact. not (is_of (temp t) fact)) f h

        by : (b : Bool) → Told (if b then forget (temp t) f else noted most (Has t (Moved y)) (forget (temp t) f))
        by true = after
        by false = take_told most (Has t (Moved y) ∷ forget (temp t) f) (l, after)

    gotten_told : (t : ℕ) (r : Reading) (f : Facts) → nat_lt t n ≡ true → Told f → Told (gotten most t r f)
    gotten_told t r f l h = by (names_one (temp t) (read_by r))
      where
        after : Told (forget (temp t) f)
        after = filter_told (λ fact. not (is_of (temp t) fact)) f h

        by : (b : Bool) → Told (if b then forget (temp t) f else noted most (Has t r) (forget (temp t) f))
        by true = after
        by false = take_told most (Has t r ∷ forget (temp t) f) (l, after)

    moved_told : (to from : Opnd) (f : Facts) → is_below n to ≡ true → Told f → Told (moved most to from f)
    moved_told (Temp t) (Temp u) f l h = copied_told t.0 (stands f (Temp u)) f l h
    moved_told (Temp t) (Reg r) f l h = filter_told (λ fact. not (is_of (Temp t) fact)) f h
    moved_told (Reg q) (Temp u) f l h = filter_told (λ fact. not (is_of (Reg q) fact)) f h
    moved_told (Reg q) (Reg r) f l h = filter_told (λ fact. not (is_of (Reg q) fact)) f h

    kept_told : (from : Opnd) (k : ℕ) (f : Facts) → is_below n from ≡ true → Told f → Told (kept most from k f)
    kept_told (Temp t) k f l h =
        take_told most (Has t.0 (InSlot k) ∷ forget_memory f) (l, filter_told (λ fact. not (is_of_memory fact)) f h)
    kept_told (Reg r) k f l h = filter_told (λ fact. not (is_of_memory fact)) f h

    -- a step: its block has temporaries below the number, and its state tells of no others
    abbrev Fits : Step → Type 0
    Fits step =
        ((l : List Instr) → list_all (has_temps_below n) l ≡ true → list_all (has_temps_below n) (step.block ++ l) ≡ true)
        × Comes step.state.comes × ((m : ℕ) → Comes (claimed m step.state.claims))

    module _ (rest : List Instr) (one : Instr) (below : has_temps_below n one ≡ true) (s : State) (h : Tells s) where
      itself_below : (l : List Instr) → list_all (has_temps_below n) l ≡ true → list_all (has_temps_below n) (one ∷ l) ≡ true
      itself_below l i = and_from (has_temps_below n one) _ below i

      facts : Told (known s)
      facts = known_told s.comes s.claims s.room h.0

      by_tests : (b b' : Bool) (rel : Rel) (x y : Opnd) (m : ℕ) → Fits (tested most b b' rel x y m one s)
      by_tests true b' rel x y m = (λ l i. i, facts, h.1)
      by_tests false true rel x y m = (λ l i. i, tt, claim_told m (known s) s.claims facts h.1)
      by_tests false false rel x y m = (
        itself_below,
        take_told most (Untrue rel x y ∷ known s) facts,
        claim_told m (noted most (Untrue (opposite rel) x y) (known s)) s.claims (take_told most (Untrue (opposite rel) x y ∷ known s) facts) h.1,
      )

      by_shapes : (q : InstructionShape) → shape one ≡ q → Fits (by_shape most q (comes_back rest (shape one)) one s)
      by_shapes (Copy to from) e = (itself_below, moved_told to from (known s) defined facts, h.1)
        where
          defined : is_below n to ≡ true
          defined =
              let p = and_parts (list_all (is_below n) (uses_of one)) _ below in
              (and_parts (is_below n to) true (sym (ap (λ q. list_all (is_below n) (defs q)) e) ∙ p.1)).0
      by_shapes (Stores from base k f) e = (itself_below, filter_told (λ fact. not (is_of_memory fact)) (known s) facts, h.1)
      by_shapes (ToSlot from k) e = (itself_below, kept_told from k (known s) used facts, h.1)
        where
          used : is_below n from ≡ true
          used =
              let p = and_parts (list_all (is_below n) (uses_of one)) _ below in
              (and_parts (is_below n from) true (sym (ap (λ q. list_all (is_below n) (uses q)) e) ∙ p.0)).0
      by_shapes (Here m) e =
          (itself_below, arrival_told (comes_back rest (shape one)) s.comes (claimed m s.claims) h.0 (h.1 m), let_go_told m s.claims h.1)
      by_shapes (Goes m) e = (itself_below, tt, claim_told m (known s) s.claims facts h.1)
      by_shapes (Tests rel x y m) e = by_tests _ _ rel _ _ m
      by_shapes (Calls l) e = (itself_below, tt, h.1)
      by_shapes Asks e = (itself_below, tt, h.1)
      by_shapes (Fails k) e = (itself_below, tt, h.1)
      by_shapes Returns e = (itself_below, tt, h.1)
      by_shapes q e = (itself_below, each_told (defs q) (known s) facts, h.1)

      gives_below : (t : ℕ) (r : Reading) → reading_of one ≡ Some (pair t r) → nat_lt t n ≡ true
      gives_below t r e =
          let p = and_parts (list_all (is_below n) (uses_of one)) _ below in
          (and_parts (nat_lt t n) true (sym (defines r) ∙ (sym (ap (λ q. list_all (is_below n) (defs q)) (reading_is one t r e)) ∙ p.1))).0
        where
          defines : (r : Reading) → list_all (is_below n) (defs (shape_of t r)) ≡ (nat_lt t n && true)
          defines (Moved x) = refl
          defines (Loaded k x) = refl
          defines (InSlot k) = refl
          defines (Sum x y) = refl
          defines (Plus x k) = refl
          defines (ExactSum x y) = refl
          defines (ExactPlus x k) = refl
          defines (Shifted x k) = refl
          defines (Lower x y) = refl

      by_gives : (t : ℕ) (r : Reading) → nat_lt t n ≡ true → (o : Option ℕ) → found t r (known s) ≡ o → (k : ℕ) → Fits (gives most t r o k one s)
      by_gives t r l (Some u) i (suc k) = (
        λ xs hs. and_from (has_temps_below n (Move (temp t) (temp u))) _
            (and_from (nat_lt u n && true) (nat_lt t n && true)
            (and_from (nat_lt u n) true (found_told t r (known s) u i facts) refl) (and_from (nat_lt t n) true l refl)) hs,
        copied_told t (temp u) (known s) l facts,
        h.1,
      )
      by_gives t r l (Some u) i zero = (itself_below, gotten_told t r (known s) l facts, h.1)
      by_gives t r l None i zero = (itself_below, gotten_told t r (known s) l facts, h.1)
      by_gives t r l None i (suc k) = (itself_below, gotten_told t r (known s) l facts, h.1)

      step_told : Fits (known_step most rest one s)
      step_told = by (reading_of one) refl
        where
          by : (o : Option (ℕ × Reading)) → reading_of one ≡ o → Fits (by_reading most o (comes_back rest (shape one)) one s)
          by None e = by_shapes (shape one) refl
          by (Some it) e =
              by_gives it.0 (reread (stands (known s)) it.1) (gives_below it.0 it.1 e) _ refl s.room

    walk_below : (code : List Instr) (s : State) → Tells s → list_all (has_temps_below n) code ≡ true →
        list_all (has_temps_below n) (Walked most code s) ≡ true
    walk_below [] s h i = refl
    walk_below (one ∷ rest) s h i =
        let p = and_parts (has_temps_below n one) _ i in
        let z = step_told rest one p.0 s h in
        z.0 (Walked most rest (known_step most rest one s).state) (walk_below rest (known_step most rest one s).state (z.1, z.2) p.1)

pub known_is_code : KnownIsCode
known_is_code temps list h = record {
  marks_differ = marks_differ_still most_facts list (at_start most_moves) ∙ h.marks_differ;
  marks_stand = leads_still most_facts list (at_start most_moves) h.marks_stand;
  temps_below = walk_below temps most_facts list (at_start most_moves) (tt, λ m. tt) h.temps_below;
  ends_well = ends_still most_facts list (at_start most_moves) h.ends_well;
}
