-- Known code keeps the meaning of a function.
use Rattle.std.proofs.Common.{ℕ, ◌≡◌, ◌==◌, Bool, true, false, List, [], ◌∷◌, ◌++◌, refl, sym, ap, ◌∙◌}
use Rattle.std.proofs.Common.{subst, Some, arith, length, ◌+◌, ◌≤◌}
use Rattle.std.specs.Prelude.{if◌then◌else◌}
use Rattle.tg_simulation.specs.Ran.{Ran}
use Rattle.tg_tree.specs.Memory.{Memory}
use Rattle.tg_tree.specs.Tree.{Function}
use Rattle.tg_tree.specs.Running.{function_of}
use Rattle.tg_instr.specs.declared.instr.Instr.{Instr}
use Rattle.tg_regalloc_proof.specs.Blocks.{Blocks, code_of, Charge, Covers}
use Rattle.tg_regalloc_proof.specs.Keeping.{Charged, charged_by, functions_of, units_of, Surroundings, run_of, seen_of}
use Rattle.tg_regalloc_proof.specs.Keeping.{DoesNoMore}
use Rattle.tg_regalloc_proof.proofs.Kept.{singles, code_of_singles, found_label}
use Rattle.tg_redundancy.specs.mirror.Known.{State, at_start, known_step, known_blocks, most_facts, most_moves}
use Rattle.tg_redundancy_proof.specs.laws.Laws.{with_known, KnownCodeKeeps}
use Rattle.tg_redundancy_proof.proofs.Programs.{IsKnown, known_programs, known_seen}
use Rattle.tg_redundancy_proof.proofs.Quiet.{code_stays}

F : Type 0
F = Function (List Instr)

covers_itself : (c c' : Charge) (l : List Instr) → ((left : ℕ) (x : Instr) → c' left x ≤ c left x) → Covers c l c' (singles l)
covers_itself c c' [] h = tt
covers_itself c c' (x ∷ l) h =
    let e : 0 + length (code_of (singles l)) ≡ length l = omega (arith, ap (λ r. length r) (code_of_singles l)) in
    let k : c' (0 + length (code_of (singles l))) x ≤ c (length l) x = subst (λ n. c' n x ≤ c (length l) x) (sym e) (h (length l) x) in
    (omega arith, covers_itself c c' l h)

abbrev blocks_in : (f g : Function (List Instr)) → IsKnown f g → Blocks
blocks_in f g it = known_blocks it.most f.body (at_start it.moves)

-- a function in its own place
abbrev itself : (f : Function (List Instr)) → IsKnown f f
itself f = record {
  most = 0;
  moves = 0;
  label = refl;
  out = refl;
  slots = refl;
  whole = ap code_of (code_stays f.body) ∙ code_of_singles f.body;
}

itself_covers : (c : Charge) (f : Function (List Instr)) → Covers c f.body c (blocks_in f f (itself f))
itself_covers c f =
    subst (λ b. Covers c f.body c b) (sym (code_stays f.body)) (covers_itself c c f.body (λ left x. omega arith))

some_function : (f g : Function (List Instr)) → Some f ≡ Some g → f ≡ g
some_function f g e = cc

-- What a label leads to in two programs.
abbrev Certified : (l : ℕ) (h : Function (List Instr)) (ps qs : List Charged) → Type 0
Certified l h ps qs =
    (k : Function (List Instr)) × (function_of l (functions_of qs) ≡ Some k) × (C : IsKnown h k) ×
    Covers (units_of ps l) h.body (units_of qs l) (blocks_in h k C)

certified_first : (l : ℕ) (p q : Charged) (h : Function (List Instr)) (ps qs : List Charged) (C : IsKnown p.function q.function) →
    Covers p.charge p.function.body q.charge (blocks_in p.function q.function C) →
    (function_of l (functions_of ps) ≡ Some h → Certified l h ps qs) →
    function_of l (functions_of (p ∷ ps)) ≡ Some h → Certified l h (p ∷ ps) (q ∷ qs)
certified_first l p q h ps qs C covered later =
    subst (λ n. function_of l (functions_of (p ∷ ps)) ≡ Some h →
    (k : Function (List Instr)) × ((if n == l then Some q.function else function_of l (functions_of qs)) ≡ Some k) ×
    (C : IsKnown h k) ×
    Covers (units_of (p ∷ ps) l) h.body (λ left one. if n == l then q.charge left one else units_of qs l left one) (blocks_in h k C))
    (sym C.label) (by (p.function.label == l))
  where
    by : (b : Bool) → (if b then Some p.function else function_of l (functions_of ps)) ≡ Some h →
        (k : Function (List Instr)) × ((if b then Some q.function else function_of l (functions_of qs)) ≡ Some k) ×
        (C : IsKnown h k) ×
        Covers (λ left one. if b then p.charge left one else units_of ps l left one) h.body
        (λ left one. if b then q.charge left one else units_of qs l left one) (blocks_in h k C)
    by true e =
        let z = subst (λ r. (C : IsKnown r q.function) × Covers p.charge r.body q.charge (blocks_in r q.function C))
        (some_function p.function h e) (C, covered) in
        (q.function, refl, z.0, z.1)
    by false e = later e

itself_certified : (l : ℕ) (h : Function (List Instr)) (ps : List Charged) → function_of l (functions_of ps) ≡ Some h →
    Certified l h ps ps
itself_certified l h [] e = cc
itself_certified l h (p ∷ ps) e =
    certified_first l p p h ps ps (itself p.function) (itself_covers p.charge p.function) (λ z. itself_certified l h ps z) e

one_certified : (f g : Charged) (C : IsKnown f.function g.function) → Covers f.charge f.function.body g.charge (blocks_in f.function g.function C) →
    (before after : List Charged) (l : ℕ) (h : Function (List Instr)) → function_of l (functions_of (before ++ f ∷ after)) ≡ Some h →
    Certified l h (before ++ f ∷ after) (before ++ g ∷ after)
one_certified f g C covered [] after l h e = certified_first l f g h after after C covered (λ z. itself_certified l h after z) e
one_certified f g C covered (p ∷ ps) after l h e =
    certified_first l p p h (ps ++ f ∷ after) (ps ++ g ∷ after) (itself p.function) (itself_covers p.charge p.function)
    (λ z. one_certified f g C covered ps after l h z) e

module _ (ps qs : List Charged) (e : Surroundings)
    (certified : (l : ℕ) (h : Function (List Instr)) → function_of l (functions_of ps) ≡ Some h → Certified l h ps qs) where
  cert : (l : ℕ) (h : Function (List Instr)) → function_of l (functions_of ps) ≡ Some h →
      (k : Function (List Instr)) × (function_of l (functions_of qs) ≡ Some k) × (C : IsKnown h k) ×
      Covers (units_of ps h.label) h.body (units_of qs k.label) (blocks_in h k C)
  cert l h is =
      let z = certified l h is in
      let label : h.label ≡ l = found_label l (functions_of ps) h is in (
        z.0,
        z.1,
        z.2,
        subst (λ n. Covers (units_of ps n) h.body (units_of qs z.0.label) (blocks_in h z.0 z.2)) (sym label)
            (subst (λ n. Covers (units_of ps l) h.body (units_of qs n) (blocks_in h z.0 z.2)) (sym (z.2.label ∙ label)) z.3),
      )

  certified_runs : DoesNoMore (run_of ps e) (run_of qs e)
  certified_runs = known_programs (functions_of ps) (functions_of qs) (units_of ps) (units_of qs) e cert

  certified_seen : (see : Memory → Ran) (turns : ℕ) → DoesNoMore (seen_of ps e see turns) (seen_of qs e see turns)
  certified_seen see turns = known_seen (functions_of ps) (functions_of qs) (units_of ps) (units_of qs) e cert see turns

as_many : (most : ℕ) (code : List Instr) (s : State) → length (known_blocks most code s) ≡ length code
as_many most [] s = refl
as_many most (one ∷ rest) s = let r = as_many most rest (known_step most rest one s).state in omega (arith, r)

pub known_code_keeps : KnownCodeKeeps
known_code_keeps f =
    record {
      each = as_many most_facts f.body (at_start most_moves);
      whole = refl;
      label = refl;
      out = refl;
      slots = omega arith;
      same = λ before after charge charge' e held covered.
          certified_runs (before ++ charged_by charge f ∷ after) (before ++ charged_by charge' (with_known f) ∷ after) e
          (one_certified (charged_by charge f) (charged_by charge' (with_known f)) known covered before after);
      memory = λ before after charge charge' e held covered see watches turns.
          certified_seen (before ++ charged_by charge f ∷ after) (before ++ charged_by charge' (with_known f) ∷ after) e
          (one_certified (charged_by charge f) (charged_by charge' (with_known f)) known covered before after) see turns;
    }
  where
    known : IsKnown f (with_known f)
    known = record { most = most_facts; moves = most_moves; label = refl; out = refl; slots = refl; whole = refl }
