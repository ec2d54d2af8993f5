-- A function in the place of which another stands by blocks keeps its meaning: `Keeps`.
use Rattle.std.proofs.Common.{ℕ, ◌≡◌, ◌==◌, Bool, true, false, List, [], ◌∷◌, ◌++◌, refl, sym, ap, ◌∙◌}
use Rattle.std.proofs.Common.{subst, Option, Some, None, arith, add-zero, length, ◌+◌, ◌≤◌}
use Rattle.std.proofs.lemmas.Bool.{eqb-true}
use Rattle.std.specs.Prelude.{map, if◌then◌else◌}
use Rattle.tg_simulation.specs.Ran.{Ran}
use Rattle.tg_tree.specs.Memory.{Memory}
use Rattle.tg_tree.specs.Tree.{Function}
use Rattle.tg_tree.specs.Running.{function_of}
use Rattle.tg_instr.specs.declared.operands.Opnd.{Opnd}
use Rattle.tg_instr.specs.declared.operands.Opnd.TheVariants.{Temp, Reg}
use Rattle.tg_instr.specs.declared.instr.Instr.{Instr}
use Rattle.tg_instr.specs.Shapes.{Operand, Hi, Lo, InstructionShape, From0, From1, From2, Halves, Copy, Loads, Stores}
use Rattle.tg_instr.specs.Shapes.{FromSlot, ToSlot, Base, AddressOf}
use Rattle.tg_instr.specs.Shapes.{Here, Goes, Tests, Calls, Asks, Fails, Returns, shape}
use Rattle.tg_regalloc_proof.specs.Blocks.{Blocks, code_of, Charge, Covers}
use Rattle.tg_regalloc_proof.specs.Named.{to_of, first_of, second_of, reshaped}
use Rattle.tg_regalloc_proof.specs.Places.{IsTemp, Place, In, At, IsPlainPlace, fetched_for, kept_for, through_for, NeedsFor, IsBlock, around}
use Rattle.tg_regalloc_proof.specs.Places.{Stands, nothing, a_block}
use Rattle.tg_regalloc_proof.specs.Keeping.{Charged, charged_by, functions_of, units_of, Holds, AreHeld, Surroundings, run_of, seen_of, IsWatcher}
use Rattle.tg_regalloc_proof.specs.Keeping.{DoesNoMore, Keeps}
use Rattle.tg_regalloc_proof.specs.laws.Replaced.{living, Replaced, ReplacedKeep}
use Rattle.tg_regalloc_proof.proofs.Living.{beside_differ}
use Rattle.tg_regalloc_proof.proofs.Replacing.{replaced_programs, replaced_seen}

-- A function in its own place: all operands count as live, and each has its own place.
abbrev own_place : Opnd → Place
own_place x = In x

own_plain : (t : Opnd) → IsTemp t → IsPlainPlace (own_place t)
own_plain (Temp t) h = tt
own_plain (Reg r) h = absurd h

in_not_at : (x : Opnd) (k : ℕ) → In x ≡ At k → ⊥
in_not_at x k e = cc

abbrev z0 : Opnd
z0 = Temp (record { 0 = 0 })

abbrev z1 : Opnd
z1 = Temp (record { 0 = 1 })

none_fetched : (z : Opnd) (op : Option Opnd) → fetched_for own_place z op ≡ []
none_fetched z None = refl
none_fetched z (Some o) = refl

none_kept : (z : Opnd) (op : Option Opnd) → kept_for own_place z op ≡ []
none_kept z None = refl
none_kept z (Some o) = refl

none_needed : (z : Opnd) (op : Option Opnd) (B : Opnd → Type 0) → NeedsFor own_place B z op
none_needed z None B = tt
none_needed z (Some o) B = tt

reshaped_itself : (q : InstructionShape) → q ≡ reshaped q (through_for own_place z0 (to_of q)) (through_for own_place z0
    (first_of q)) (through_for own_place z1 (second_of q))
reshaped_itself (From0 to k) = refl
reshaped_itself (From1 to (Operand o) f) = refl
reshaped_itself (From1 to Hi f) = refl
reshaped_itself (From1 to Lo f) = refl
reshaped_itself (From2 to l r f) = refl
reshaped_itself (Halves l r low high) = refl
reshaped_itself (Copy to o) = refl
reshaped_itself (Loads to o k f) = refl
reshaped_itself (Stores o b k f) = refl
reshaped_itself (FromSlot to k) = refl
reshaped_itself (ToSlot o k) = refl
reshaped_itself (Base to) = refl
reshaped_itself (AddressOf to label) = refl
reshaped_itself (Here m) = refl
reshaped_itself (Goes m) = refl
reshaped_itself (Tests rel l r m) = refl
reshaped_itself (Calls label) = refl
reshaped_itself Asks = refl
reshaped_itself (Fails k) = refl
reshaped_itself Returns = refl

own_block : (x : Instr) (B : Opnd → Type 0) → IsBlock own_place B x (x ∷ [])
own_block x B =
    subst (λ l. IsBlock own_place B x l)
    (ap (λ l. l ++ (fetched_for own_place z1 (second_of (shape x)) ++ (x ∷ kept_for own_place z0 (to_of
    (shape x))))) (none_fetched z0 (first_of (shape x)))
    ∙ (ap (λ l. l ++ (x ∷ kept_for own_place z0 (to_of (shape x)))) (none_fetched z1 (second_of (shape x)))
    ∙ ap (λ l. x ∷ l) (none_kept z0 (to_of (shape x)))))
    (around z0 z0 z1
    (record {
      to = none_needed z0 _ B;
      first = none_needed z0 _ B;
      second = none_needed z1 _ B;
      apart = λ o k h e.
          refl;
    }) x (reshaped_itself (shape x)))

-- each instruction by itself
abbrev pub singles : List Instr → Blocks
singles l = map (λ x. x ∷ []) l

pub code_of_singles : (l : List Instr) → code_of (singles l) ≡ l
code_of_singles [] = refl
code_of_singles (x ∷ l) = ap (λ r. x ∷ r) (code_of_singles l)

stands_itself : (Live : List Instr → Opnd → Type 0) (l : List Instr) → Stands own_place Live l (singles l)
stands_itself Live [] = nothing
stands_itself Live (x ∷ l) = a_block x (x ∷ []) l (singles l) (own_block x (Live (x ∷ l))) (stands_itself Live l)

pub covers_itself : (c c' : Charge) (l : List Instr) → ((left : ℕ) (x : Instr) → c' left x ≤ c left x) → Covers c l c' (singles l)
covers_itself c c' [] h = tt
covers_itself c c' (x ∷ l) h =
    let e : 0 + length (code_of (singles l)) ≡ length l = omega (arith, ap (λ r. length r) (code_of_singles l)) in
    let k : c' (0 + length (code_of (singles l))) x ≤ c (length l) x = subst (λ n. c' n x ≤ c (length l) x) (sym e) (h (length l) x) in
    (omega arith, covers_itself c c' l h)

pub unchanged : (f : Function (List Instr)) → Replaced f f
unchanged f =
    record {
      places = record { place = own_place; fixed = λ r. refl; plain = own_plain };
      more = 0;
      label = refl;
      out = refl;
      slots = sym (add-zero f.slots);
      added_slots = λ x k e. absurd (in_not_at x k e);
      blocks = singles f.body;
      whole = code_of_singles f.body;
      stands = stands_itself (living f.body) f.body;
      apart = λ d x b. beside_differ f.body d x b;
    }

-- where it is charged no more, its own charge covers it
pub unchanged_covers : (c c' : Charge) (f : Function (List Instr)) → ((left : ℕ) (x : Instr) → c' left x ≤ c left x) →
    Covers c f.body c' (unchanged f).blocks
unfolding unchanged
unchanged_covers c c' f h = covers_itself c c' f.body h

some_function : (f g : Function (List Instr)) → Some f ≡ Some g → f ≡ g
some_function f g e = cc

-- what a label leads to has the label
pub found_label : (l : ℕ) (fs : List (Function (List Instr))) (h : Function (List Instr)) → function_of l fs ≡ Some h → h.label ≡ l
found_label l [] h e = cc
found_label l (p ∷ ps) h e = by (p.label == l) refl e (found_label l ps h)
  where
    by : (b : Bool) → (p.label == l) ≡ b → (if b then Some p else function_of l ps) ≡ Some h →
        (function_of l ps ≡ Some h → h.label ≡ l) → h.label ≡ l
    by true t e r = ap (λ (f : Function (List Instr)). f.label) (sym (some_function p h e)) ∙ eqb-true p.label l t
    by false t e r = r e

-- What a label leads to in two programs of charged functions: the second may stand in the place of the first, and is covered.
abbrev pub Certified : (l : ℕ) (h : Function (List Instr)) (ps qs : List Charged) → Type 0
Certified l h ps qs =
    (k : Function (List Instr)) × (function_of l (functions_of qs) ≡ Some k) × (C : Replaced h k) ×
    Covers (units_of ps l) h.body (units_of qs l) C.blocks

-- the first that is asked for is it, or what is asked for stands after it
certified_first : (l : ℕ) (p q : Charged) (h : Function (List Instr)) (ps qs : List Charged) (C : Replaced p.function q.function) →
    Covers p.charge p.function.body q.charge C.blocks →
    (function_of l (functions_of ps) ≡ Some h → Certified l h ps qs) →
    function_of l (functions_of (p ∷ ps)) ≡ Some h → Certified l h (p ∷ ps) (q ∷ qs)
certified_first l p q h ps qs C covered later =
    subst (λ n. function_of l (functions_of (p ∷ ps)) ≡ Some h →
    (k : Function (List Instr)) × ((if n == l then Some q.function else function_of l (functions_of qs)) ≡ Some k) ×
    (C : Replaced h k) ×
    Covers (units_of (p ∷ ps) l) h.body (λ left one. if n == l then q.charge left one else units_of qs l left one) C.blocks)
    (sym C.label) (by (p.function.label == l))
  where
    by : (b : Bool) → (if b then Some p.function else function_of l (functions_of ps)) ≡ Some h →
        (k : Function (List Instr)) × ((if b then Some q.function else function_of l (functions_of qs)) ≡ Some k) ×
        (C : Replaced h k) ×
        Covers (λ left one. if b then p.charge left one else units_of ps l left one) h.body
        (λ left one. if b then q.charge left one else units_of qs l left one) C.blocks
    by true e =
        let z = subst (λ r. (C : Replaced r q.function) × Covers p.charge r.body q.charge C.blocks) (some_function p.function h e)
        (C, covered) in
        (q.function, refl, z.0, z.1)
    by false e = later e

-- a program stands in its own place, where it is charged no more
pub itself_certified : (l : ℕ) (h : Function (List Instr)) (ps : List Charged) → function_of l (functions_of ps) ≡ Some h →
    Certified l h ps ps
itself_certified l h [] e = cc
itself_certified l h (p ∷ ps) e =
    certified_first l p p h ps ps (unchanged p.function)
    (unchanged_covers p.charge p.charge p.function (λ left x. omega arith)) (λ z. itself_certified l h ps z) e

-- and with one function replaced
pub one_certified : (f g : Charged) (C : Replaced f.function g.function) → Covers f.charge f.function.body g.charge C.blocks →
    (before after : List Charged) (l : ℕ) (h : Function (List Instr)) → function_of l (functions_of (before ++ f ∷ after)) ≡ Some h →
    Certified l h (before ++ f ∷ after) (before ++ g ∷ after)
one_certified f g C covered [] after l h e = certified_first l f g h after after C covered (λ z. itself_certified l h after z) e
one_certified f g C covered (p ∷ ps) after l h e =
    certified_first l p p h (ps ++ f ∷ after) (ps ++ g ∷ after) (unchanged p.function)
    (unchanged_covers p.charge p.charge p.function (λ left x. omega arith))
    (λ z. one_certified f g C covered ps after l h z) e

-- as the law of programs asks it
module _ (ps qs : List Charged) (e : Surroundings) (held : AreHeld e.size (functions_of qs))
    (certified : (l : ℕ) (h : Function (List Instr)) → function_of l (functions_of ps) ≡ Some h → Certified l h ps qs) where
  pub cert : (l : ℕ) (h : Function (List Instr)) → function_of l (functions_of ps) ≡ Some h →
      (k : Function (List Instr)) × (function_of l (functions_of qs) ≡ Some k) × Holds e.size k × (C : Replaced h k) ×
      Covers (units_of ps h.label) h.body (units_of qs k.label) C.blocks
  cert l h is =
      let z = certified l h is in
      let label : h.label ≡ l = found_label l (functions_of ps) h is in (
        z.0,
        z.1,
        held l z.0 z.1,
        z.2,
        subst (λ n. Covers (units_of ps n) h.body (units_of qs z.0.label) z.2.blocks) (sym label)
            (subst (λ n. Covers (units_of ps l) h.body (units_of qs n) z.2.blocks) (sym (z.2.label ∙ label)) z.3),
      )

  pub certified_runs : DoesNoMore (run_of ps e) (run_of qs e)
  certified_runs = replaced_programs (functions_of ps) (functions_of qs) (units_of ps) (units_of qs) e cert

  pub certified_seen : (see : Memory → Ran) → IsWatcher see → (turns : ℕ) → DoesNoMore (seen_of ps e see turns) (seen_of qs e see turns)
  certified_seen see watches turns =
      replaced_seen (functions_of ps) (functions_of qs) (units_of ps) (units_of qs) e cert see watches turns

as_many : (place : Opnd → Place) (Live : List Instr → Opnd → Type 0) (l : List Instr) (blocks : Blocks) → Stands place Live l blocks →
    length blocks ≡ length l
as_many place Live _ _ nothing = refl
as_many place Live _ _ (a_block x block l blocks b st) = let r = as_many place Live l blocks st in omega arith

-- The generic law: where a block stands in the place of each instruction, the function keeps its meaning.
pub replaced_keeps : ReplacedKeep
replaced_keeps f g C =
    record {
      each = as_many C.places.place (living f.body) f.body C.blocks C.stands;
      whole = C.whole;
      label = C.label;
      out = C.out;
      slots = let e = C.slots in omega arith;
      same = λ before after charge charge' e held covered.
          certified_runs (before ++ charged_by charge f ∷ after) (before ++ charged_by charge' g ∷ after) e held
          (one_certified (charged_by charge f) (charged_by charge' g) C covered before after);
      memory = λ before after charge charge' e held covered.
          certified_seen (before ++ charged_by charge f ∷ after) (before ++ charged_by charge' g ∷ after) e held
          (one_certified (charged_by charge f) (charged_by charge' g) C covered before after);
    }

-- a function in its own place
pub unchanged_keeps : (f : Function (List Instr)) → Keeps (singles f.body) f f
unfolding unchanged
unchanged_keeps f = replaced_keeps f f (unchanged f)
