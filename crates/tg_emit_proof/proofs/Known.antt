-- What is known of a program that may be run.
use Rattle.std.proofs.Common.{ℕ, zero, suc, ◌≡◌, ◌<◌, ◌≤◌, ◌+◌, ◌*◌, ◌%◌, ◌^◌, ◌==◌, ◌||◌, not, List, [], ◌∷◌}
use Rattle.std.proofs.Common.{map, length, drop, decimal, max, refl, ap, sym, ◌∙◌, subst, arith, eqb-true, Bool, true}
use Rattle.std.proofs.Common.{false, Some}
use Rattle.std.proofs.lemmas.Bool.Decides.{nat_tests}
use Rattle.std.proofs.lemmas.Slice.Eq.{bytes_eq-Decides}
use Rattle.std.specs.Str.{bytes_eq}
use Rattle.std.specs.Prelude.{All, IsTrue, if◌then◌else◌, slice_index_or, nat_lt}
use Rattle.std.specs.List.{AllByRecursion, Contains, list_all}
use Rattle.std.proofs.lemmas.List.Elements.{recursion_from_All}
use Rattle.tg_machine_state.specs.State.{padded, statics_base}
use Rattle.tg_tree.specs.declared.fragments.Literal.{Literal}
use Rattle.tg_tree.specs.glue.Plain.{plain_literal}
use Rattle.tg_tree.specs.Memory.{literal_from}
use Rattle.tg_tree.specs.Running.{function_of}
use Rattle.tg_tree.specs.Tree.{Function}
use Rattle.tg_instr.specs.declared.instr.Instr.{Instr}
use Rattle.tg_instr.specs.declared.codes.Allocated.{Allocated}
use Rattle.tg_instr.proofs.Tests.{left_holds, right_holds, all_at}
use Rattle.tg_emit.specs.Conditions.{is_emittable, has_code}
use Rattle.tg_emit.specs.Ranges.{FunctionFits, InstructionFits, LiteralFits}
use Rattle.tg_emit.specs.mirror.Lines.{size_of, is_long}
use Rattle.tg_emit.specs.mirror.Names.{literal_name}
use Rattle.tg_emit_laws.proofs.Apart.{Differ}
use Rattle.tg_emit_laws.proofs.CodeLines.{given_in}
use Rattle.tg_emit_laws.proofs.NameTexts.{mark_tails}
use Rattle.tg_emit_laws.proofs.LabelsDiffer.{functions_differ}
use Rattle.tg_emit_laws.proofs.ProgramLines.{all_emitted}
use Rattle.tg_emit_laws.specs.Programs.{bytes_of, function_labels, is_among, labels_differ}
use Rattle.tg_instr.specs.Codes.{is_of_colours}
use Rattle.tg_emit_proof.specs.LinesRun.{Returns, address_from, calls}
use Rattle.tg_emit_proof.specs.laws.Laws.{AreReturns}
use Rattle.tg_emit_proof.specs.Setting.{Setting}
use Rattle.tg_emit_proof.specs.laws.Emission.{function_over, code_over, sizes_of, MayRun, FitRegions, lines_of}
use Rattle.tg_emit_proof.specs.glue.Standing.{FunctionStands}
use Rattle.tg_emit_proof.specs.glue.Situation.{HasSize, IsEmitted}
use Rattle.tg_emit_proof.proofs.Basics.{no_true, some_is}
use Rattle.tg_emit_proof.proofs.Backs.{calls_come_back}
use Rattle.tg_emit_proof.proofs.Placed.{function_stands, label_leads}

-- a function of the code is one over registers
pub record IsOver (fs : List Allocated) (f : Function (List Instr)) : Type 0 where
  pub it : Allocated
  pub index : ℕ
  pub short : index < length fs
  pub there : slice_index_or fs index it ≡ it
  pub is : f ≡ function_over it

pub over_map : (fs : List Allocated) (f : Function (List Instr)) → Contains (map function_over fs) f → IsOver fs f
over_map fs f c = by fs c.0 c.1 c.2
  where
    by : (fs : List Allocated) (k : ℕ) → k < length (map function_over fs) → slice_index_or (map function_over fs) k f
        ≡ f → IsOver fs f
    by [] k l e = absurd (omega (arith, l))
    by (g ∷ gs) zero l e = record { it = g; index = 0; short = omega arith; there = refl; is = sym e }
    by (g ∷ gs) (suc k) l e =
        let t = by gs k (omega (arith, l)) e in
        let s = t.short in
        record { it = t.it; index = suc t.index; short = omega (arith, s); there = t.there; is = t.is }

pub found_there : (label : ℕ) (fs : List (Function (List Instr))) (f : Function (List Instr)) → function_of label fs
    ≡ Some f → Contains fs f × (f.label ≡ label)
found_there label [] f h = cc
found_there label (g ∷ fs) f h = by (g.label == label) refl h (λ e. found_there label fs f e)
  where
    by : (b : Bool) → (g.label == label) ≡ b → (if b then Some g else function_of label fs) ≡ Some f →
        (function_of label fs ≡ Some f → Contains fs f × (f.label ≡ label)) → Contains (g ∷ fs) f × (f.label ≡ label)
    by true e h again =
        let s = some_is g f h in
        ((0, omega arith, s), subst (λ x. x.label ≡ label) s (eqb-true g.label label e))
    by false e h again = let t = again h in let l = t.0.1 in ((suc t.0.0, omega (arith, l), t.0.2), t.1)

size_of_some : (n : ℕ) → 8 ≤ max 8 (4 * n)
size_of_some n = omega arith

size_of_whole : (n : ℕ) → max 8 (4 * n) % 4 ≡ 0
size_of_whole n = omega arith

-- each function's size is found by its label
not_true : (b : Bool) → not b ≡ true → b ≡ false
not_true true h = cc
not_true false h = refl

apart : (a : ℕ) (gs : List Allocated) (f : Allocated) (k : ℕ) → is_among (function_labels gs) a ≡ false →
    k < length gs → slice_index_or gs k f ≡ f →
    (a == f.frame.label.0) ≡ false
apart a [] f k h l e = absurd (omega (arith, l))
apart a (g ∷ gs) f zero h l e =
    subst (λ (x : Allocated). (a == x.frame.label.0) ≡ false) e
    (left_false (a == g.frame.label.0) (is_among (function_labels gs) a) h)
  where
    left_false : (b c : Bool) → (b || c) ≡ false → b ≡ false
    left_false true c h = cc
    left_false false c h = refl
apart a (g ∷ gs) f (suc k) h l e =
    apart a gs f k (right_false (a == g.frame.label.0) (is_among (function_labels gs) a) h) (omega (arith, l)) e
  where
    right_false : (b c : Bool) → (b || c) ≡ false → c ≡ false
    right_false true c h = cc
    right_false false c h = h

pub sizes_there : (fs : List Allocated) → labels_differ (function_labels fs) ≡ true → (f : Allocated) (k : ℕ) →
    k < length fs → slice_index_or fs k f ≡ f →
    sizes_of fs f.frame.label.0 ≡ size_of f.frame
sizes_there [] d f k l e = absurd (omega (arith, l))
sizes_there (g ∷ gs) d f zero l e =
    subst (λ (x : Allocated). sizes_of (g ∷ gs) x.frame.label.0 ≡ size_of x.frame) e
    (let same : (g.frame.label.0 == g.frame.label.0) ≡ true = grind (arith, nat_tests) in
    ap (λ (b : Bool). if b then size_of g.frame else sizes_of gs g.frame.label.0) same)
sizes_there (g ∷ gs) d f (suc k) l e =
    let n = not_true (is_among (function_labels gs) g.frame.label.0)
    (left_holds (not (is_among (function_labels gs) g.frame.label.0)) (labels_differ (function_labels gs)) d) in
    let other = apart g.frame.label.0 gs f k n (omega (arith, l)) e in
    ap (λ (b : Bool). if b then size_of g.frame else sizes_of gs f.frame.label.0) other
    ∙ sizes_there gs (right_holds (not (is_among (function_labels gs) g.frame.label.0))
    (labels_differ (function_labels gs)) d) f k (omega (arith, l)) e

-- the labels of its lines differ
lines_differ : (fs : List Allocated) (ls : List Literal) → MayRun fs ls → Differ (given_in (lines_of fs))
lines_differ fs ls may =
    functions_differ (is_long fs) fs may.program.functions_differ
    (all_emitted fs may.program.emittable (recursion_from_All FunctionFits fs may.typed.functions))

-- a literal's address is that of its name
name_test : (a b : ℕ) → a < 2 ^ 32 → b < 2 ^ 32 → (t : Bool) → (b == a) ≡ t →
    bytes_eq (literal_name a) (literal_name b) ≡ t
name_test a b h k true e = (bytes_eq-Decides (literal_name a) (literal_name b)).1
    (ap literal_name (sym (eqb-true b a e)))
name_test a b h k false e = by (bytes_eq (literal_name a) (literal_name b)) refl
  where
    by : (t : Bool) → bytes_eq (literal_name a) (literal_name b) ≡ t → t ≡ false
    by false f = refl
    by true f =
        let s : literal_name a ≡ literal_name b = (bytes_eq-Decides (literal_name a) (literal_name b)).0 f in
        let d : 46 ∷ decimal a ≡ 46 ∷ decimal b = ap (λ (l : List ℕ). 46 ∷ drop 1 l) s in
        let x : a ≡ b = mark_tails a b (omega (arith, h)) (omega (arith, k)) d in
        let same : (b == a) ≡ true = grind (arith, nat_tests, x) in
        absurd (no_true (sym e ∙ same))

address_there : (label a at : ℕ) (ls : List Literal) → label < 2 ^ 32 → AllByRecursion LiteralFits ls →
    at + bytes_of ls < 2 ^ 32 →
    literal_from at label (map plain_literal ls) ≡ Some a → (address_from at (literal_name label) ls ≡ Some a)
    × (a < 2 ^ 32)
address_there label a at [] h fits short e = cc
address_there label a at (l ∷ ls) h fits short e =
    by (l.label.0 == label) (name_test label l.label.0 h fits.0.label (l.label.0 == label) refl) e
    (address_there label a (at + length (padded l.text)) ls h fits.1 (omega (arith, short)))
  where
    by : (t : Bool) → bytes_eq (literal_name label) (literal_name l.label.0) ≡ t →
        (if t then Some at else literal_from (at + length (padded l.text)) label (map plain_literal ls)) ≡ Some a →
        (literal_from (at + length (padded l.text)) label (map plain_literal ls) ≡ Some a →
        (address_from (at + length (padded l.text)) (literal_name label) ls ≡ Some a) × (a < 2 ^ 32)) →
        ((if bytes_eq (literal_name label) (literal_name l.label.0) then Some at else address_from
        (at + length (padded l.text)) (literal_name label) ls) ≡ Some a)
        × (a < 2 ^ 32)
    by true f e again =
        let s = some_is at a e in (
          ap (λ (b : Bool). if b then Some at else address_from (at + length (padded l.text)) (literal_name label) ls)
              f ∙ e,
          omega (arith, s, short),
        )
    by false f e again =
        let t = again e in (
          ap (λ (b : Bool). if b then Some at else address_from (at + length (padded l.text)) (literal_name label) ls)
              f ∙ t.0,
          t.1,
        )

-- the setting of a program that may be run
abbrev pub setting : List Allocated → List Literal → (heap stack : ℕ) → Returns → Setting
setting fs ls heap stack returns = record {
  program = code_over fs ls;
  size = sizes_of fs;
  lines = lines_of fs;
  literals = ls;
  turned = is_long fs;
  returns = returns;
  room = heap;
  stack = stack;
}

pub known : (fs : List Allocated) (ls : List Literal) (heap stack : ℕ) (returns : Returns) →
    MayRun fs ls → FitRegions heap stack → AreReturns (calls (lines_of fs)) returns →
    IsEmitted (setting fs ls heap stack returns)
known fs ls heap stack returns may sizes are = record {
  functions = λ f c.
      let o = over_map fs f c in
      subst (FunctionStands (setting fs ls heap stack returns)) (sym o.is)
      (function_stands (setting fs ls heap stack returns) fs refl o.it o.index o.short o.there
      (sizes_there fs may.program.functions_differ o.it o.index o.short o.there) (lines_differ fs ls may));
  frames = λ f c.
      let o = over_map fs f c in
      let e : sizes_of fs f.label ≡ size_of o.it.frame =
      ap (λ (g : Function (List Instr)). sizes_of fs g.label) o.is
      ∙ sizes_there fs may.program.functions_differ o.it o.index o.short o.there in
      let m : IsTrue (is_emittable o.it) =
      subst (λ x. IsTrue (is_emittable x)) o.there
      (all_at is_emittable fs o.index o.it o.short may.program.emittable) in
      let t : nat_lt (size_of o.it.frame) (2 ^ 29) ≡ true =
      left_holds (nat_lt (size_of o.it.frame) (2 ^ 29)) (list_all has_code o.it.code.list) m in
      let most : size_of o.it.frame < 2 ^ 29 = grind (arith, nat_tests, t) in
      subst (λ n. HasSize n f) (sym e)
      (subst (λ g. HasSize (size_of o.it.frame) g) (sym o.is)
      (record {
        some = size_of_some (o.it.frame.slots + o.it.frame.out);
        whole = size_of_whole (o.it.frame.slots + o.it.frame.out);
        most = most;
        holds = omega arith;
      }));
  names = λ f c.
      let o = over_map fs f c in
      subst (λ (g : Function (List Instr)). IsTrue (list_all is_of_colours g.body)) (sym o.is)
      (subst (λ (x : Allocated). IsTrue (list_all is_of_colours x.code.list)) o.there
      (all_at (λ (x : Allocated). list_all is_of_colours x.code.list) fs o.index o.it o.short may.registers));
  numbers = λ f c.
      let o = over_map fs f c in
      subst (λ (g : Function (List Instr)). All InstructionFits g.body) (sym o.is)
      (subst FunctionFits o.there (may.typed.functions o.index o.it o.short)).code;
  found = λ label f e. found_there label (code_over fs ls).functions f e;
  addresses = λ label a h e.
      let fit = may.program.statics_fit in
      address_there label a statics_base ls h (recursion_from_All LiteralFits ls may.typed.literals)
      (omega (arith, fit)) e;
  labels = λ front rest name e. label_leads (lines_of fs) front rest name e (lines_differ fs ls may);
  comes = calls_come_back (setting fs ls heap stack returns) are;
  room_most = sizes.heap_most;
  stack_most = sizes.stack_most;
  stack_words = sizes.stack_words;
}
