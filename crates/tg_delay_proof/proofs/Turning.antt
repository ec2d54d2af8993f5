-- Lines whose branches are turned round over jumps do what the lines do.
use Rattle.std.proofs.Common.{ℕ, zero, suc, ◌≡◌, ◌≢◌, ◌≤◌, ◌<◌, ◌+◌, ◌^◌, ◌==◌, List, [], ◌∷◌, ◌++◌, refl, ap, sym, ◌∙◌, subst}
use Rattle.std.proofs.Common.{arith, Bool, true, false, Option, Some, None}
use Rattle.std.specs.Prelude.{codes, if◌then◌else◌}
use Rattle.std.specs.Str.{bytes_eq}
use Rattle.std.specs.Fmt.{decimal}
use Rattle.std.proofs.lemmas.Fmt.{decimal_injective}
use Rattle.std.proofs.lemmas.Slice.Eq.{bytes_eq-Decides}
use Rattle.tg_base.specs.Words.{less}
use Rattle.tg_machine_state.specs.State.{MachineState, register, set_register, initial_machine, statics_base}
use Rattle.tg_machine_state.specs.Services as machine
use Rattle.tg_machine_state.specs.Services.{Step, answered}
use Rattle.tg_simulation.specs.Ran.{Ran, Ended, WantsFuel, Wrong, stops, writes, works}
use Rattle.tg_simulation.specs.Preserving.{DoesTheSame}
use Rattle.tg_isa.specs.declared.mips.Mips.{Mips}
use Rattle.tg_isa.specs.declared.mips.Mips.TheVariants as row
use Rattle.tg_isa.specs.Effects.{effect}
use Rattle.tg_isa.specs.ImageRuns.{first_byte, later_bytes}
use Rattle.tg_tree.specs.declared.fragments.Literal.{Literal}
use Rattle.tg_emit.specs.declared.assembly.Line.{Line}
use Rattle.tg_emit.specs.declared.assembly.Line.TheVariants.{Label, One, La, Statics}
use Rattle.tg_emit_proof.specs.LinesRun.{Place, left, at_zero, Returns, calls, behind, behind_call, place_of, address_from, statics_of}
use Rattle.tg_emit_proof.specs.LinesRun.{Leads, Untaken, way, Did, Goes, Ends, Reads, Writes, Strays}
use Rattle.tg_emit_proof.specs.LinesRun.{onward, goes_to, goes_halfway, row_does, lines_going, going_from}
use Rattle.tg_delay.specs.Filling.{opposite, branches, branches_in, around_name, turned, turned_round}
use Rattle.tg_delay_proof.specs.laws.Laws.{GivesNone, TurningKeepsRuns}
use Rattle.tg_delay_proof.proofs.Filled.{is_call, calls_is, behind_call_is, calls_past, behind_past}
use Rattle.tg_delay_proof.proofs.Fuel.{Same, same_at, wrong, along, one_one, one_two, two_two, writing}

-- a place with its branches turned round
abbrev pub turned_place : Place → Place
turned_place (left rest) = left (turned_round rest)
turned_place at_zero = at_zero

abbrev pub some_turned : Option Place → Option Place
some_turned (Some p) = Some (turned_place p)
some_turned None = None

apart_by_bytes : (a b : List ℕ) → a ≢ b → bytes_eq a b ≡ false
apart_by_bytes a b h = by (bytes_eq a b) refl
  where
    by : (c : Bool) → bytes_eq a b ≡ c → c ≡ false
    by true e = absurd (h ((bytes_eq-Decides a b).0 e))
    by false e = refl

-- a label that is no new one
abbrev pub IsOld : List ℕ → Type 0
IsOld name = (k : ℕ) → name ≢ around_name k

pub given_is_old : (name : List ℕ) (lines : List Line) (p : Place) → GivesNone lines → behind name lines ≡ Some p → IsOld name
given_is_old name [] p g h = cc
given_is_old name (Label other ∷ rest) p g h = by (bytes_eq name other) refl h (λ e. given_is_old name rest p g.1 e)
  where
    by : (b : Bool) → bytes_eq name other ≡ b → (if b then Some (left rest) else behind name rest) ≡ Some p →
        (behind name rest ≡ Some p → IsOld name) → IsOld name
    by true e k later = subst IsOld (sym ((bytes_eq-Decides name other).0 e)) g.0
    by false e k later = later k
given_is_old name (One one target ∷ rest) p g h = given_is_old name rest p g h
given_is_old name (La r other ∷ rest) p g h = given_is_old name rest p g h
given_is_old name (Statics bytes ∷ rest) p g h = given_is_old name rest p g h

-- lines behind a row that is turned round or stays
behind_turned_row : (name : List ℕ) (one : Mips) (target : List ℕ) (k : ℕ) (rest : List Line) → name ≢ around_name k →
    behind name (turned one target (around_name k) rest) ≡ behind name rest
behind_turned_row name one target k rest h = by (branches one)
  where
    by : (b : Bool) →
        behind name (if b then One (opposite one) (around_name k) ∷ One (row.J 0) target ∷ Label (around_name k) ∷ rest else
        One one target ∷ rest) ≡ behind name rest
    by true = ap (λ c. if c then Some (left rest) else behind name rest) (apart_by_bytes name (around_name k) h)
    by false = refl

pub behind_turned : (name : List ℕ) (lines : List Line) → IsOld name →
    behind name (turned_round lines) ≡ some_turned (behind name lines)
behind_turned name [] h = refl
behind_turned name (Label other ∷ rest) h = by (bytes_eq name other) (behind_turned name rest h)
  where
    by : (b : Bool) → behind name (turned_round rest) ≡ some_turned (behind name rest) →
        (if b then Some (left (turned_round rest)) else behind name (turned_round rest))
        ≡ some_turned (if b then Some (left rest) else behind name rest)
    by true e = refl
    by false e = e
behind_turned name (One one target ∷ rest) h =
    behind_turned_row name one target (branches_in rest) (turned_round rest) (h (branches_in rest))
    ∙ behind_turned name rest h
behind_turned name (La r other ∷ rest) h = behind_turned name rest h
behind_turned name (Statics bytes ∷ rest) h = behind_turned name rest h

-- calls
branch_no_call : (one : Mips) → branches one ≡ true → (is_call one ≡ false) × (is_call (opposite one) ≡ false)
branch_no_call (row.Beq rs rt n) h = (refl, refl)
branch_no_call (row.Bne rs rt n) h = (refl, refl)
branch_no_call (row.Blez rs n) h = (refl, refl)
branch_no_call (row.Bgtz rs n) h = (refl, refl)
branch_no_call (row.Bltz rs n) h = (refl, refl)
branch_no_call (row.Bgez rs n) h = (refl, refl)
branch_no_call one h = cc

pub calls_turned : (lines : List Line) → calls (turned_round lines) ≡ calls lines
calls_turned [] = refl
calls_turned (Label other ∷ rest) = calls_turned rest
calls_turned (One one target ∷ rest) = by (branches one) refl (calls_turned rest)
  where
    by : (b : Bool) → branches one ≡ b → calls (turned_round rest) ≡ calls rest →
        calls (if b then One (opposite one) (around_name (branches_in rest)) ∷ One (row.J 0) target
        ∷ Label (around_name (branches_in rest)) ∷ turned_round rest else One one target ∷ turned_round rest)
        ≡ calls (One one target ∷ rest)
    by true e h =
        let u = branch_no_call one e in
        calls_past (opposite one) (around_name (branches_in rest))
        (One (row.J 0) target ∷ Label (around_name (branches_in rest)) ∷ turned_round rest) u.1
        ∙ (h ∙ sym (calls_past one target rest u.0))
    by false e h =
        calls_is one target (turned_round rest)
        ∙ (ap (λ n. if is_call one then 1 + n else n) h ∙ sym (calls_is one target rest))
calls_turned (La r other ∷ rest) = calls_turned rest
calls_turned (Statics bytes ∷ rest) = calls_turned rest

module _ (returns : Returns) (v : ℕ) where
  call_turned : (lines : List Line) → behind_call returns v (turned_round lines) ≡ some_turned (behind_call returns v lines)
  call_turned [] = refl
  call_turned (Label other ∷ rest) = call_turned rest
  call_turned (One one target ∷ rest) = by (branches one) refl (call_turned rest)
    where
      row_by : (c d : Bool) → behind_call returns v (turned_round rest) ≡ some_turned (behind_call returns v rest) →
          (if c then (if d then Some (left (turned_round rest)) else behind_call returns v (turned_round rest)) else
          behind_call returns v (turned_round rest))
          ≡ some_turned (if c then (if d then Some (left rest) else behind_call returns v rest) else behind_call returns v rest)
      row_by true true h = refl
      row_by true false h = h
      row_by false d h = h

      by : (b : Bool) → branches one ≡ b → behind_call returns v (turned_round rest) ≡ some_turned (behind_call returns v rest) →
          behind_call returns v (if b then One (opposite one) (around_name (branches_in rest)) ∷ One (row.J 0) target
          ∷ Label (around_name (branches_in rest)) ∷ turned_round rest else One one target ∷ turned_round rest)
          ≡ some_turned (behind_call returns v (One one target ∷ rest))
      by true e h =
          let u = branch_no_call one e in
          behind_past returns v (opposite one) (around_name (branches_in rest))
          (One (row.J 0) target ∷ Label (around_name (branches_in rest)) ∷ turned_round rest) u.1
          ∙ (h ∙ ap some_turned (sym (behind_past returns v one target rest u.0)))
      by false e h =
          behind_call_is returns v one target (turned_round rest)
          ∙ (ap (λ n. if is_call one then
          (if returns n == v then Some (left (turned_round rest)) else behind_call returns v (turned_round rest)) else
          behind_call returns v (turned_round rest)) (calls_turned rest)
          ∙ (row_by (is_call one) (returns (calls rest) == v) h
          ∙ ap some_turned (sym (behind_call_is returns v one target rest))))
  call_turned (La r other ∷ rest) = call_turned rest
  call_turned (Statics bytes ∷ rest) = call_turned rest

  place_turned : (lines : List Line) → place_of returns v (turned_round lines) ≡ some_turned (place_of returns v lines)
  place_turned lines = by (v == 0)
    where
      by : (b : Bool) → (if b then Some at_zero else behind_call returns v (turned_round lines))
          ≡ some_turned (if b then Some at_zero else behind_call returns v lines)
      by true = refl
      by false = call_turned lines

-- what is left is a part of the lines in which each new label leads behind itself
module _ (lines : List Line) where
  abbrev AroundLeads : Mips → List Line → Type 0
  AroundLeads one rest =
      branches one ≡ true → behind (around_name (branches_in rest)) (turned_round lines) ≡ Some (left (turned_round rest))

  abbrev ArePart : List Line → Type 0
  ArePart [] = Unit {0}
  ArePart (One one target ∷ rest) = AroundLeads one rest × ArePart rest
  ArePart (Label name ∷ rest) = ArePart rest
  ArePart (La r name ∷ rest) = ArePart rest
  ArePart (Statics bytes ∷ rest) = ArePart rest

  abbrev IsPart : Place → Type 0
  IsPart (left rest) = ArePart rest
  IsPart at_zero = Unit {0}

  label_part : (name : List ℕ) (ls : List Line) (p : Place) → ArePart ls → behind name ls ≡ Some p → IsPart p
  label_part name [] p a h = cc
  label_part name (Label other ∷ rest) p a h = by (bytes_eq name other) h (label_part name rest p a)
    where
      by : (b : Bool) → (if b then Some (left rest) else behind name rest) ≡ Some p →
          (behind name rest ≡ Some p → IsPart p) → IsPart p
      by true e later = subst IsPart (same (left rest) p e) a
        where
          same : (q r : Place) → Some q ≡ Some r → q ≡ r
          same q r e = cc
      by false e later = later e
  label_part name (One one target ∷ rest) p a h = label_part name rest p a.1 h
  label_part name (La r other ∷ rest) p a h = label_part name rest p a h
  label_part name (Statics bytes ∷ rest) p a h = label_part name rest p a h

  call_part : (returns : Returns) (v : ℕ) (ls : List Line) (p : Place) → ArePart ls → behind_call returns v ls ≡ Some p → IsPart p
  call_part returns v [] p a h = cc
  call_part returns v (Label other ∷ rest) p a h = call_part returns v rest p a h
  call_part returns v (One one target ∷ rest) p a h =
      by (is_call one) (returns (calls rest) == v) (sym (behind_call_is returns v one target rest) ∙ h)
      (call_part returns v rest p a.1)
    where
      same : (q r : Place) → Some q ≡ Some r → q ≡ r
      same q r e = cc

      by : (b c : Bool) →
          (if b then (if c then Some (left rest) else behind_call returns v rest) else behind_call returns v rest) ≡ Some p →
          (behind_call returns v rest ≡ Some p → IsPart p) → IsPart p
      by true true e later = subst IsPart (same (left rest) p e) a.1
      by true false e later = later e
      by false c e later = later e
  call_part returns v (La r other ∷ rest) p a h = call_part returns v rest p a h
  call_part returns v (Statics bytes ∷ rest) p a h = call_part returns v rest p a h

  place_part : (returns : Returns) (v : ℕ) (p : Place) → ArePart lines → place_of returns v lines ≡ Some p → IsPart p
  place_part returns v p a h = by (v == 0) h
    where
      same : (q r : Place) → Some q ≡ Some r → q ≡ r
      same q r e = cc

      by : (b : Bool) → (if b then Some at_zero else behind_call returns v lines) ≡ Some p → IsPart p
      by true e = subst IsPart (same at_zero p e) tt
      by false e = call_part returns v lines p a e

  -- the label behind a branch is the first of its name
  around_differs : (j k : ℕ) → j < 2 ^ 64 → k < 2 ^ 64 → j ≢ k → around_name j ≢ around_name k
  around_differs j k l m h e = h (decimal_injective j k l m (tail e))
    where
      tail : codes "b" ++ decimal j ≡ codes "b" ++ decimal k → decimal j ≡ decimal k
      tail e = cc

  same_name : (name : List ℕ) → bytes_eq name name ≡ true
  same_name name = (bytes_eq-Decides name name).1 refl

  parts : (ls : List Line) → GivesNone ls → branches_in ls < 2 ^ 64 →
      ((k : ℕ) → k < branches_in ls → behind (around_name k) (turned_round lines) ≡ behind (around_name k) (turned_round ls)) →
      ArePart ls
  parts [] g n h = tt
  parts (Label other ∷ rest) g n h =
      parts rest g.1 n (λ k l. h k l ∙ ap (λ b. if b then Some (left (turned_round rest)) else behind (around_name k) (turned_round rest))
      (apart_by_bytes (around_name k) other (λ e. g.0 k (sym e))))
  parts (One one target ∷ rest) g n h = by (branches one) refl n h (parts rest g)
    where
      b0 : ℕ
      b0 = branches_in rest

      by : (b : Bool) → branches one ≡ b → (if b then 1 + b0 else b0) < 2 ^ 64 →
          ((k : ℕ) → k < (if b then 1 + b0 else b0) → behind (around_name k) (turned_round lines)
          ≡ behind (around_name k) (if b then One (opposite one) (around_name b0) ∷ One (row.J 0) target ∷ Label (around_name b0)
          ∷ turned_round rest else One one target ∷ turned_round rest)) →
          (b0 < 2 ^ 64 →
          ((k : ℕ) → k < b0 → behind (around_name k) (turned_round lines) ≡ behind (around_name k) (turned_round rest)) →
          ArePart rest) →
          AroundLeads one rest × ArePart rest
      by true e n h later = (
        λ t. h b0 (omega arith)
            ∙ ap (λ c. if c then Some (left (turned_round rest)) else behind (around_name b0) (turned_round rest))
            (same_name (around_name b0)),
        later (omega (arith, n)) (λ k l. h k (omega (arith, l))
            ∙ ap (λ c. if c then Some (left (turned_round rest)) else behind (around_name k) (turned_round rest))
            (apart_by_bytes (around_name k) (around_name b0)
            (around_differs k b0 (omega (arith, l, n)) (omega (arith, n)) (λ q. omega (arith, l, q))))),
      )
      by false e n h later = (λ t. absurd (no_true (sym e ∙ t)), later n h)
        where
          no_true : false ≡ true → ⊥
          no_true q = cc
  parts (La r other ∷ rest) g n h = parts rest g n h
  parts (Statics bytes ∷ rest) g n h = parts rest g n h

-- a branch, by its test
record IsTest (one : Mips) (s : MachineState) : Type 0 where
  taken : Bool
  leads : (returns : Returns) (ls : List Line) (target : List ℕ) (rest : List Line) →
      way returns ls one target rest s ≡ (if taken then Leads (behind target ls) s else Untaken)
  opposed : (returns : Returns) (ls : List Line) (target : List ℕ) (rest : List Line) →
      way returns ls (opposite one) target rest s ≡ (if taken then Untaken else Leads (behind target ls) s)

not_if : {A : Type 0} (b : Bool) (x y : A) → (if b then x else y) ≡ (if (if b then false else true) then y else x)
not_if true x y = refl
not_if false x y = refl

test_of : (one : Mips) (s : MachineState) → branches one ≡ true → IsTest one s
test_of (row.Beq rs rt n) s h = record {
  taken = register s rs == register s rt;
  leads = λ returns ls target rest. refl;
  opposed = λ returns ls target rest. refl;
}
test_of (row.Bne rs rt n) s h = record {
  taken = if register s rs == register s rt then false else true;
  leads = λ returns ls target rest. not_if (register s rs == register s rt) Untaken (Leads (behind target ls) s);
  opposed = λ returns ls target rest. not_if (register s rs == register s rt) (Leads (behind target ls) s) Untaken;
}
test_of (row.Blez rs n) s h = record {
  taken = if less 0 (register s rs) then false else true;
  leads = λ returns ls target rest. not_if (less 0 (register s rs)) Untaken (Leads (behind target ls) s);
  opposed = λ returns ls target rest. not_if (less 0 (register s rs)) (Leads (behind target ls) s) Untaken;
}
test_of (row.Bgtz rs n) s h = record {
  taken = less 0 (register s rs);
  leads = λ returns ls target rest. refl;
  opposed = λ returns ls target rest. refl;
}
test_of (row.Bltz rs n) s h = record {
  taken = less (register s rs) 0;
  leads = λ returns ls target rest. refl;
  opposed = λ returns ls target rest. refl;
}
test_of (row.Bgez rs n) s h = record {
  taken = if less (register s rs) 0 then false else true;
  leads = λ returns ls target rest. not_if (less (register s rs) 0) Untaken (Leads (behind target ls) s);
  opposed = λ returns ls target rest. not_if (less (register s rs) 0) (Leads (behind target ls) s) Untaken;
}
test_of one s h = cc

module _ (returns : Returns) (lines : List Line) (literals : List Literal) (gives : GivesNone lines)
    (whole : ArePart lines lines) where
  abbrev before : Place → MachineState → (input : List ℕ) → ℕ → Ran
  before p s input = lines_going returns lines literals p s input

  abbrev after : Place → MachineState → (input : List ℕ) → ℕ → Ran
  after p s input = lines_going returns (turned_round lines) literals p s input

  abbrev done : (ls : List Line) (input : List ℕ) → ℕ → Did → Ran
  done ls input n (Goes q t) = lines_going returns ls literals q t input n
  done ls input n (Ends e) = stops input (Ended e)
  done ls input n (Reads q t) = lines_going returns ls literals q (answered t (first_byte input)) (later_bytes input) n
  done ls input n (Writes bytes q t) = writes bytes (lines_going returns ls literals q t input n)
  done ls input n Strays = stops input Wrong

  abbrev Sims : ℕ → Type 0
  Sims i = (rest : List Line) → ArePart lines rest → (s : MachineState) (input : List ℕ) →
      Same i (before (left rest) s input i) (after (left (turned_round rest)) s input)

  places : (i : ℕ) → Sims i → (p : Place) → IsPart lines p → (s : MachineState) (input : List ℕ) →
      Same i (before p s input i) (after (turned_place p) s input)
  places i h (left rest) a s input = h rest a s input
  places zero h at_zero a s input = same_at zero (before at_zero s input zero) (after at_zero s input) zero (omega arith) refl
  places (suc i) h at_zero a s input =
      same_at (suc i) (before at_zero s input (suc i)) (after at_zero s input) (suc i) (omega arith) refl

  module _ (i : ℕ) (later : (k : ℕ) → k ≤ i → Sims k) where
    now : Sims i
    now = later i (omega arith)

    -- a row that leads somewhere in both
    leads_same : (o p : Option Place) (u : MachineState) (input : List ℕ) (d : ℕ → Ran) →
        ((q : Place) → o ≡ Some q → (p ≡ Some (turned_place q)) × IsPart lines q) →
        ((j : ℕ) → d (suc j) ≡ works 1 (done (turned_round lines) input j (goes_to p u))) →
        Same (suc i) (works 1 (done lines input i (goes_to o u))) d
    leads_same None p u input d t e = wrong (suc i) (works 1 (stops input Wrong)) d refl
    leads_same (Some q) p u input d t e =
        let x = t q refl in
        one_one i (before q u input i) d (after (turned_place q) u input)
        (λ j. e j ∙ ap (λ r. works 1 (done (turned_round lines) input j (goes_to r u))) x.0) (places i now q x.1 u input)

    labels : (target : List ℕ) (q : Place) → behind target lines ≡ Some q →
        (behind target (turned_round lines) ≡ Some (turned_place q)) × IsPart lines q
    labels target q e = (
      behind_turned target lines (given_is_old target lines q gives e) ∙ ap some_turned e,
      label_part lines target lines q whole e,
    )

    words : (v : ℕ) (q : Place) → place_of returns v lines ≡ Some q →
        (place_of returns v (turned_round lines) ≡ Some (turned_place q)) × IsPart lines q
    words v q e = (place_turned returns v lines ∙ ap some_turned e, place_part lines returns v q whole e)

    straight_same : (m : Step) (rest : List Line) → ArePart lines rest → (input : List ℕ) (d : ℕ → Ran) →
        ((j : ℕ) → d (suc j) ≡ works 1 (done (turned_round lines) input j (onward m (left (turned_round rest))))) →
        Same (suc i) (works 1 (done lines input i (onward m (left rest)))) d
    straight_same (machine.Goes t) rest a input d e =
        one_one i (before (left rest) t input i) d (after (left (turned_round rest)) t input) e (now rest a t input)
    straight_same (machine.Ends f) rest a input d e =
        same_at (suc i) (works 1 (stops input (Ended f))) d (suc i) (omega arith) (e i)
    straight_same (machine.Reads t) rest a input d e =
        let u = answered t (first_byte input) in
        one_one i (before (left rest) u (later_bytes input) i) d (after (left (turned_round rest)) u (later_bytes input)) e
        (now rest a u (later_bytes input))
    straight_same (machine.Writes bytes t) rest a input d e =
        one_one i (writes bytes (before (left rest) t input i)) d
        (λ j. writes bytes (after (left (turned_round rest)) t input j)) e
        (writing i bytes (before (left rest) t input i) (after (left (turned_round rest)) t input) (now rest a t input))

    -- a row that isn't turned round
    row_same : (one : Mips) (target : List ℕ) (rest : List Line) → branches one ≡ false → ArePart lines rest →
        (s : MachineState) (input : List ℕ) →
        Same (suc i) (works 1 (done lines input i (row_does (way returns lines one target rest s) one rest s)))
        (after (left (One one target ∷ turned_round rest)) s input)
    row_same (row.J n) target rest b a s input =
        leads_same (behind target lines) (behind target (turned_round lines)) s input
        (after (left (One (row.J n) target ∷ turned_round rest)) s input) (labels target) (λ j. refl)
    row_same (row.Jal n) target rest b a s input =
        leads_same (behind target lines) (behind target (turned_round lines)) (set_register s 31 (returns (calls rest))) input
        (after (left (One (row.Jal n) target ∷ turned_round rest)) s input) (labels target)
        (λ j. ap (λ k. works 1 (done (turned_round lines) input j
        (goes_to (behind target (turned_round lines)) (set_register s 31 (returns k))))) (calls_turned rest))
    row_same (row.Jr rs) target rest b a s input =
        leads_same (place_of returns (register s rs) lines) (place_of returns (register s rs) (turned_round lines)) s input
        (after (left (One (row.Jr rs) target ∷ turned_round rest)) s input) (words (register s rs)) (λ j. refl)
    row_same (row.Jalr rd rs) target rest b a s input =
        wrong (suc i) (works 1 (stops input Wrong)) (after (left (One (row.Jalr rd rs) target ∷ turned_round rest)) s input) refl
    row_same (row.Beq rs rt n) target rest b a s input = cc
    row_same (row.Bne rs rt n) target rest b a s input = cc
    row_same (row.Blez rs n) target rest b a s input = cc
    row_same (row.Bgtz rs n) target rest b a s input = cc
    row_same (row.Bltz rs n) target rest b a s input = cc
    row_same (row.Bgez rs n) target rest b a s input = cc
    row_same one target rest b a s input =
        straight_same (effect one s) rest a input (after (left (One one target ∷ turned_round rest)) s input) (λ j. refl)

    -- a branch
    branch_same : (one : Mips) (target : List ℕ) (rest : List Line) → branches one ≡ true → AroundLeads lines one rest →
        ArePart lines rest → (s : MachineState) (input : List ℕ) →
        Same (suc i) (works 1 (done lines input i (row_does (way returns lines one target rest s) one rest s)))
        (after (left (One (opposite one) (around_name (branches_in rest)) ∷ One (row.J 0) target
        ∷ Label (around_name (branches_in rest)) ∷ turned_round rest)) s input)
    branch_same one target rest b leads a s input =
        subst (λ w. Same (suc i) (works 1 (done lines input i (row_does w one rest s))) d) (sym (test.leads returns lines target rest))
        (by test.taken (λ j. ap (λ w. works 1 (done (turned_round lines) input j (row_does w (opposite one) more s)))
        (test.opposed returns (turned_round lines) around more)))
      where
        test : IsTest one s
        test = test_of one s b

        around : List ℕ
        around = around_name (branches_in rest)

        more : List Line
        more = One (row.J 0) target ∷ Label around ∷ turned_round rest

        d : ℕ → Ran
        d = after (left (One (opposite one) (around_name (branches_in rest)) ∷ One (row.J 0) target
            ∷ Label (around_name (branches_in rest)) ∷ turned_round rest)) s input

        taken : (o : Option Place) → behind target lines ≡ o →
            ((j : ℕ) → d (suc j) ≡ works 1 (after (left more) s input j)) →
            Same (suc i) (works 1 (done lines input i (goes_to o s))) d
        taken None k e = wrong (suc i) (works 1 (stops input Wrong)) d refl
        taken (Some q) k e =
            let x = labels target q k in
            one_two i (before q s input i) d (after (turned_place q) s input)
            (λ j. e (suc j) ∙ ap (λ r. works 1 (works 1 (done (turned_round lines) input j (goes_to r s)))) x.0)
            (places i now q x.1 s input)

        by : (t : Bool) →
            ((j : ℕ) → d (suc j) ≡ works 1 (done (turned_round lines) input j
            (row_does (if t then Untaken else Leads (behind around (turned_round lines)) s) (opposite one) more s))) →
            Same (suc i) (works 1 (done lines input i (row_does (if t then Leads (behind target lines) s else Untaken) one rest s))) d
        by true e = taken (behind target lines) refl e
        by false e =
            one_one i (before (left rest) s input i) d (after (left (turned_round rest)) s input)
            (λ j. e j ∙ ap (λ r. works 1 (done (turned_round lines) input j (goes_to r s))) (leads b)) (now rest a s input)

    address_same : (r : ℕ) (rest : List Line) → ArePart lines rest → (s : MachineState) (input : List ℕ) (d : ℕ → Ran) (o : Option ℕ) →
        ((j : ℕ) → d (suc j) ≡ works 1 (done (turned_round lines) input j (goes_halfway r o (turned_round rest) s))) →
        (k : ℕ) → ((m : ℕ) → m ≤ k → Sims m) →
        Same (suc k) (works 1 (done lines input k (goes_halfway r o rest s))) d
    address_same r rest a s input d None e k h = wrong (suc k) (works 1 (stops input Wrong)) d refl
    address_same r rest a s input d (Some n) e zero h = same_at 1 (works 1 (stops input WantsFuel)) d 1 (omega arith) (e 0)
    address_same r rest a s input d (Some n) e (suc k) h =
        two_two k (before (left rest) _ input k) d (λ j. after (left (turned_round rest)) _ input j) (λ j. e (suc j))
        (h k (omega arith) rest a _ input)

    sims_next : (rest : List Line) → ArePart lines rest → (s : MachineState) (input : List ℕ) →
        Same (suc i) (before (left rest) s input (suc i)) (after (left (turned_round rest)) s input)
    sims_next [] a s input = wrong (suc i) (before (left []) s input (suc i)) (after (left []) s input) refl
    sims_next (Label name ∷ rest) a s input =
        along (suc i) (before (left rest) s input (suc i)) (after (left (turned_round rest)) s input)
        (after (left (Label name ∷ turned_round rest)) s input) same (sims_next rest a s input)
      where
        same : (j : ℕ) → after (left (Label name ∷ turned_round rest)) s input j ≡ after (left (turned_round rest)) s input j
        same zero = refl
        same (suc j) = refl
    sims_next (One one target ∷ rest) a s input = by (branches one) refl
      where
        by : (b : Bool) → branches one ≡ b →
            Same (suc i) (works 1 (done lines input i (row_does (way returns lines one target rest s) one rest s)))
            (after (left (if b then One (opposite one) (around_name (branches_in rest)) ∷ One (row.J 0) target
            ∷ Label (around_name (branches_in rest)) ∷ turned_round rest else One one target ∷ turned_round rest)) s input)
        by true e = branch_same one target rest e a.0 a.1 s input
        by false e = row_same one target rest e a.1 s input
    sims_next (La r name ∷ rest) a s input =
        address_same r rest a s input (after (left (La r name ∷ turned_round rest)) s input)
        (address_from statics_base name literals) (λ j. refl) i later
    sims_next (Statics bytes ∷ rest) a s input =
        wrong (suc i) (before (left (Statics bytes ∷ rest)) s input (suc i))
        (after (left (Statics bytes ∷ turned_round rest)) s input) refl

  sims_below : (n i : ℕ) → i < n → Sims i
  sims_below zero i l rest a s input = absurd (omega (arith, l))
  sims_below (suc n) zero l rest a s input =
      same_at zero (before (left rest) s input zero) (after (left (turned_round rest)) s input) zero (omega arith) refl
  sims_below (suc n) (suc i) l rest a s input = sims_next i (λ k m. sims_below n k (omega (arith, l, m))) rest a s input

  sims : (i : ℕ) → Sims i
  sims i = sims_below (suc i) i (omega arith)

pub turning_keeps_runs : TurningKeepsRuns
turning_keeps_runs returns lines ls input heap stack gives few =
    record { there = λ n right. by n (behind (codes "main") lines) refl right }
  where
    s : MachineState
    s = initial_machine [] (statics_of ls) 0 heap stack

    whole : ArePart lines lines
    whole = parts lines lines gives few (λ k l. refl)

    by : (n : ℕ) (o : Option Place) → behind (codes "main") lines ≡ o →
        (going_from returns lines ls o s input n).stop ≢ Wrong →
        (m : ℕ) × (n ≤ m) × DoesTheSame 2 0 (going_from returns lines ls o s input n)
        (going_from returns (turned_round lines) ls (behind (codes "main") (turned_round lines)) s input m)
    by n None e right = absurd (right refl)
    by n (Some q) e right =
        let t = labels returns lines ls gives whole n (λ k l. sims returns lines ls gives whole k) (codes "main") q e in
        let x = places returns lines ls gives whole n (sims returns lines ls gives whole n) q t.1 s input right in (
          x.0,
          x.1,
          subst (λ r. DoesTheSame 2 0 (going_from returns lines ls (Some q) s input n)
              (going_from returns (turned_round lines) ls r s input x.0)) (sym t.0) x.2,
        )
