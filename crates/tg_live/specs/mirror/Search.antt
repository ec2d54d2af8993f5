-- The search backwards along the flow for the places that one operand is live out of: it is entered
-- at each place before a use, and at each place before one where it is entered and not defined. A
-- place where it is entered is marked with the operand's stamp, which no other operand has. Most
-- places have the one before them alone before them, so that a search goes through runs of places.
use Rattle.std.specs.Prelude.{◌≡◌, ◌≤◌, ◌+◌, ◌-◌, ◌↔◌, ◌⊎◌, ℕ, zero, suc, nat_eq, length, Bool}
use Rattle.std.specs.Prelude.{true, false, List, [], ◌∷◌, ◌++◌}
use Rattle.std.specs.Prelude.{slice_index_or, IsTrue}
use Rattle.std.specs.List.{list_any}
use Rattle.tg_instr.specs.declared.instr.Instr.{Instr}
use Rattle.tg_instr.specs.declared.operands.Opnd.{Opnd}
use Rattle.tg_live.specs.Flow.{goes_on}
use Rattle.tg_live.specs.Live.{is_defined, IsLiveOut}
use Rattle.tg_live.specs.glue.Tables.{Table, row}

-- a stamp for each place, and the first and the last place of each run in which the operand was
-- entered, as they were found
pub record Found : Type 0 where
  pub marks : List ℕ
  pub firsts : List ℕ
  pub lasts : List ℕ

abbrev pub found : (marks firsts lasts : List ℕ) → Found
found marks firsts lasts = record { marks = marks; firsts = firsts; lasts = lasts }

abbrev pub stamp_at : (marks : List ℕ) → (at : ℕ) → ℕ
stamp_at marks at = slice_index_or marks at 0

abbrev pub has_stamp : (stamp : ℕ) → (marks : List ℕ) → (at : ℕ) → Bool
has_stamp stamp marks at = nat_eq stamp (stamp_at marks at)

-- the place before this one is marked
abbrev pub has_stamp_before : (stamp : ℕ) → (marks : List ℕ) → (at : ℕ) → Bool
has_stamp_before stamp marks zero = false
has_stamp_before stamp marks (suc at) = has_stamp stamp marks at

abbrev pub has : List ℕ → ℕ → Bool
has places q = list_any (nat_eq q) places

-- the one place before this one is the one that stands before it, and the operand isn't defined here
pub record IsPassed (all : List Instr) (x : Opnd) (before : Table) (q : ℕ) : Type 0 where
  pub alone : row before q ≡ (q - 1) ∷ []
  pub undefined : is_defined all x q ≡ false

-- how many places don't have the stamp
abbrev pub one_unless : Bool → ℕ
one_unless true = 0
one_unless false = 1

abbrev pub unmarked : (stamp : ℕ) → (marks : List ℕ) → ℕ
unmarked stamp [] = 0
unmarked stamp (mark ∷ marks) = one_unless (nat_eq stamp mark) + unmarked stamp marks

-- what holds of what has been found: a run begins where the place before isn't marked
pub record IsFound (all : List Instr) (x : Opnd) (stamp : ℕ) (f : Found) : Type 0 where
  pub live : (q : ℕ) → has_stamp stamp f.marks q ≡ true → IsLiveOut all q x
  pub first : (q : ℕ) → has f.firsts q ≡ true → has_stamp stamp f.marks q ≡ true
  pub last : (q : ℕ) → has f.lasts q ≡ true → has_stamp stamp f.marks q ≡ true
  pub begins : (q : ℕ) → has_stamp stamp f.marks q ≡ true →
      has_stamp_before stamp f.marks q ≡ false → has f.firsts q ≡ true
  pub ends : (q : ℕ) → has_stamp stamp f.marks q ≡ true →
      has_stamp stamp f.marks (suc q) ≡ false → has f.lasts q ≡ true

-- each place before a place that doesn't define the operand is marked
abbrev pub IsClosed : List Instr → Opnd → (stamp : ℕ) → Found → (q : ℕ) → Type 0
IsClosed all x stamp f q =
    is_defined all x q ≡ false → (p : ℕ) → goes_on all p q ≡ true → has_stamp stamp f.marks p ≡ true

-- the operand is entered at these places, with new runs, whose first places are still to be visited
pub record AreEntered (all : List Instr) (x : Opnd) (stamp : ℕ) (places : ℕ → Bool)
    (f g : Found) : Type 0 where
  pub is_found : IsFound all x stamp g
  pub size : length g.marks ≡ length f.marks
  pub others : (q : ℕ) → (stamp_at g.marks q ≡ stamp) ⊎ (stamp_at g.marks q ≡ stamp_at f.marks q)
  pub kept : (q : ℕ) → has_stamp stamp f.marks q ≡ true → has_stamp stamp g.marks q ≡ true
  pub marked : (q : ℕ) → places q ≡ true → has_stamp stamp g.marks q ≡ true
  pub more : List ℕ
  pub firsts : g.firsts ≡ f.firsts ++ more
  pub closed : (q : ℕ) → has_stamp stamp g.marks q ≡ true → has_stamp stamp f.marks q ≡ false →
      has more q ≡ false → IsClosed all x stamp g q
  pub room : unmarked stamp g.marks + length more ≤ unmarked stamp f.marks

-- the places that the operand is live out of are marked, in runs
pub record IsSearched (all : List Instr) (x : Opnd) (stamp : ℕ) (old : List ℕ)
    (f : Found) : Type 0 where
  pub size : length f.marks ≡ length old
  pub is_found : IsFound all x stamp f
  pub live : (at : ℕ) → IsTrue (has_stamp stamp f.marks at) ↔ IsLiveOut all at x
  pub others : (at : ℕ) →
      (stamp_at f.marks at ≡ stamp) ⊎ (stamp_at f.marks at ≡ stamp_at old at)
