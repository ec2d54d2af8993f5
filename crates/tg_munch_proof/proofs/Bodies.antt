-- A body from its entry on: registers that are kept, parameters, and its elements, with fuel from less to more.
use Rattle.std.proofs.Common.{◌≡◌, ◌≤◌, ◌<◌, ℕ, zero, suc, ◌+◌, ◌-◌, ◌*◌, List, [], ◌∷◌, ◌++◌, append_assoc, length}
use Rattle.std.proofs.Common.{refl, sym, ap, ◌∙◌, arith}
use Rattle.std.specs.Prelude.{IsTrue, Option, Some, None}
use Rattle.std.specs.List.{AllByRecursion}
use Rattle.tg_simulation.specs.Ran.{works}
use Rattle.tg_simulation.proofs.Simulations.{simulates_along, simulates_less}
use Rattle.tg_tree.specs.Tree.{Linear, Function}
use Rattle.tg_tree.specs.FrameSizes.{IsSizeOf}
use Rattle.tg_tree.specs.Memory.{Memory, Closed, Unset, lay}
use Rattle.tg_tree.specs.Units.{parameter_units}
use Rattle.tg_tree.specs.Actions.{World, Activation, Back as TreeBack}
use Rattle.tg_tree.specs.Running.{with_slots, without_slots, no_temps}
use Rattle.tg_tree.proofs.FlatRuns.{flat_code_steps}
use Rattle.tg_instr.specs.declared.operands.Opnd.TheVariants.{Reg}
use Rattle.tg_instr.specs.Shapes.{Operand}
use Rattle.tg_instr.specs.Codes.{marks_differ}
use Rattle.tg_instr.specs.Contents.{Word, Contents, at_entry, handed}
use Rattle.tg_instr.specs.Meaning.{Back}
use Rattle.tg_instr.specs.Running.{with_frame}
use Rattle.tg_munch.specs.mirror.Choosing.{NumbersDrawn, ◌>>=◌}
use Rattle.tg_munch.specs.mirror.Munching.{kept_registers, elements}
use Rattle.tg_munch.specs.mirror.Bodies.{kept, parameters, munched, mark_above, outs}
use Rattle.tg_munch.specs.laws.Lengths.{kept_count}
use Rattle.tg_munch_proof.specs.glue.Places.{goes}
use Rattle.tg_munch_proof.proofs.Growing.{parameters_grow}
use Rattle.tg_munch_proof.specs.glue.Outlines.{Outline}
use Rattle.tg_munch_proof.specs.glue.Relating.{Program, ArePassed, BacksMatch, EntersMatch, BodyMatches, IsActivation}
use Rattle.tg_munch_proof.specs.glue.Relating.{going}
use Rattle.tg_munch_proof.specs.laws.Chosen.{MayBeChosen, HasRoom, chosen}
use Rattle.tg_munch_proof.proofs.Between.{ElementHasWords, Activated, MovesBelow, place, walks, around_it, flat_goes, Left, GoesOn}
use Rattle.tg_munch_proof.proofs.Between.{Fuelled, no_product, within, works_behind}
use Rattle.tg_munch_proof.proofs.Elements.{left_goes_on}
use Rattle.tg_munch_proof.proofs.Frames.{lay_other}
use Rattle.tg_munch_proof.proofs.Leaving.{leaves, enters, low_other}
use Rattle.tg_munch_proof.proofs.Outlines.{lay_there}
use Rattle.tg_munch_proof.proofs.Parameters.{parameters_match}
use Rattle.tg_munch_proof.proofs.Steps.{kept_in, kept_runs, are_kept}

-- With as much fuel as calls and the return have, and with less.
module _ (a : Activated) (r : ℕ) where
  abbrev Backs : ℕ → Type 0
  Backs n = BacksMatch a.program r n (within a) a.back a.back_behind

  backs_less : (m n : ℕ) → m ≤ n → Backs n → Backs m
  backs_less m n le h v w x word_v alike = simulates_less 1 r m n _ _ le (h v w x word_v alike)

  goes_on_below : (n : ℕ) → ((m : ℕ) → m ≤ n → EntersMatch a.program m) → Backs n → (k : ℕ) → k < n →
      (before : Option Linear) (rest : List Linear) (d : NumbersDrawn) → Left a before rest d → GoesOn a r k before rest d
  goes_on_below zero calls backs k lt = absurd (omega (arith, lt))
  goes_on_below (suc n) calls backs k lt =
      left_goes_on a r k
      (record {
        calls = λ m le. calls m (omega (arith, le, lt));
        backs = backs_less k (suc n) (omega (arith, lt)) backs;
        jumps = λ j less. goes_on_below n (λ m le. calls m (omega (arith, le))) (backs_less n (suc n) (omega arith) backs) j
            (omega (arith, less, lt));
      })

  pub fuelled : (n : ℕ) → ((m : ℕ) → m ≤ n → EntersMatch a.program m) → Backs n → Fuelled a r n
  fuelled n calls backs = record { calls = calls; backs = backs; jumps = goes_on_below n calls backs }

-- where the elements begin
abbrev pub first_drawn : Function (List Linear) → NumbersDrawn
first_drawn f = record { temp = f.temps; mark = mark_above f.body }

abbrev pub kept_drawn : Function (List Linear) → NumbersDrawn
kept_drawn f = (kept kept_registers (first_drawn f)).drawn

abbrev pub start_drawn : Function (List Linear) → NumbersDrawn
start_drawn f = (parameters 0 f.params (kept_drawn f)).drawn

body_is : (f : Function (List Linear)) →
    (munched f).code ≡ (kept kept_registers (first_drawn f)).code ++
    ((parameters 0 f.params (kept_drawn f)).code ++ (elements f.slots f.temps None f.body (start_drawn f)).code)
unfolding ◌>>=◌
body_is f = refl

nine_drawn : (f : Function (List Linear)) → f.temps + kept_count ≤ (kept_drawn f).temp
unfolding ◌>>=◌
nine_drawn f = omega arith

-- $a0 to $a3 at an entry
entry_argument : (i v : ℕ) (s : Contents) → i < 4 → s (Operand (Reg (4 + i))) ≡ Word v →
    at_entry s (Operand (Reg (4 + i))) ≡ Word v
entry_argument zero v s lt e = ap handed e
entry_argument (suc zero) v s lt e = ap handed e
entry_argument (suc (suc zero)) v s lt e = ap handed e
entry_argument (suc (suc (suc zero))) v s lt e = ap handed e
entry_argument (suc (suc (suc (suc i)))) v s lt e = absurd (omega (arith, lt))

unset_is_open : Unset ≡ Closed → ⊥
unset_is_open e = cc

module _ (program : Program) (f : Function (List Linear)) (may : MayBeChosen f) (room : HasRoom program.code program.size program.floor program.room)
    (sized : IsSizeOf (chosen f) (program.size f.label)) (differ : IsTrue (marks_differ (munched f).code))
    (words : AllByRecursion ElementHasWords f.body) (moves : AllByRecursion (MovesBelow f.temps) f.body) where
  module _ (act : Activation) (o : Outline) (active : IsActivation program f act o) (back : TreeBack) (back' : Back) where
    abbrev activated : Activated
    activated = record {
      program = program;
      function = f;
      activation = act;
      outline = o;
      back = λ v w. back v (without_slots f act.base w);
      back_behind = λ c x. back' c (with_frame (chosen f) act Closed x);
      start = start_drawn f;
      may = may;
      room = room;
      sized = sized;
      differ = differ;
      active = active;
      begins = (
        (kept kept_registers (first_drawn f)).code ++ (parameters 0 f.params (kept_drawn f)).code,
        body_is f ∙ sym (append_assoc (kept kept_registers (first_drawn f)).code (parameters 0 f.params (kept_drawn f)).code
            (elements f.slots f.temps None f.body (start_drawn f)).code),
      );
      drawn =
          let first = nine_drawn f in
          let more = (parameters_grow 0 f.params).temps (kept_drawn f) in
          omega (arith, first, more);
      words = words;
      moves = moves;
    }

  -- at the entry
  passed_in : (base : ℕ) (vs : List ℕ) (i : ℕ) (s s1 : Contents) (m m1 : Memory) →
      ((j v : ℕ) → j < 4 → s (Operand (Reg (4 + j))) ≡ Word v → s1 (Operand (Reg (4 + j))) ≡ Word v) →
      ((b : ℕ) → base ≤ b → m1.stack b ≡ m.stack b) → ArePassed base s m i vs → ArePassed base s1 m1 i vs
  passed_in base [] i s s1 m m1 regs words h = tt
  passed_in base (v ∷ vs) i s s1 m m1 regs words h = (
    record {
      low = λ lt. regs i v lt (h.0.low lt);
      high = λ le. words (base + 4 * (i - 4)) (omega arith) ∙ h.0.high le;
      word = h.0.word;
    },
    passed_in base vs (i + 1) s s1 m m1 regs words h.1,
  )

  -- what lies above a frame stays where it is laid
  above_frame : (act : Activation) (o : Outline) → IsActivation program f act o → (x : World) (b : ℕ) → act.base ≤ b →
      (with_frame (chosen f) act Unset x).memory.stack b ≡ x.memory.stack b
  above_frame act o active x b le =
      low_other (act.base - act.size) (outs f.body) Unset (lay act.base f.slots Unset x.memory) b
      (let i = fits in let j = inside in omega (arith, le, i, j)) ∙
      lay_other act.base f.slots Unset x.memory b (λ k lt e. let i = fits in let j = inside in omega (arith, le, lt, e, i, j))
    where
      fits : 4 * (f.slots + outs f.body) ≤ act.size
      fits = let is = active.frame in let holds = sized.holds in omega (arith, is, holds)

      inside : act.size ≤ act.base
      inside = let e = active.fits in omega (arith, e)

  no_temp : (t : ℕ) (v : ℕ) → no_temps t ≡ Some v → ⊥
  no_temp t v e = cc

  pub body_matches : BodyMatches program f
  body_matches n r vs s act o back back' w x w1 t1 calls active top passed alike backs placed =
      let a = activated act o active back back' in
      let x1 = with_frame (chosen f) act Unset x in
      let s1 = kept_in (place a) f.temps kept_registers (at_entry s) in
      let inner = fuelled a r n calls
      (λ v w2 x2 word_v q. backs v (without_slots f act.base w2) (with_frame (chosen f) act Closed x2) word_v
      (leaves program f act o active sized w2 x2 q)) in
      let tail = (elements f.slots f.temps None f.body (start_drawn f)).code in
      let below = top.below in
      simulates_along 1 (r + (kept_count + parameter_units * length vs)) n (flat_goes a f.body w1 t1)
      (going program (record { whole = f.body; rest = f.body; around = around_it a; world = w1; temps = t1 }))
      (λ i. works 9 (goes (place a) x1 ((parameters 0 f.params (kept_drawn f)).code ++ tail) s1 i)) _
      (λ i. flat_code_steps program.code program.size program.floor program.room
      (record { whole = f.body; rest = f.body; around = around_it a; world = w1; temps = t1 }) i)
      (λ i. (walks a).steps (record {
        function = chosen f;
        rest = (munched f).code;
        activation = act;
        back = (place a).back;
        world = x1;
        contents = at_entry s;
      }) i ∙
      ap (λ code. goes (place a) x1 code (at_entry s) i) (body_is f) ∙
      kept_runs (place a) kept_registers (first_drawn f) ((parameters 0 f.params (kept_drawn f)).code ++ tail) x1 (at_entry s) i
      (refl, (refl, (refl, (refl, (refl, (refl, (refl, (refl, (refl, tt))))))))))
      (works_behind (r + (kept_count + parameter_units * length vs)) n 9 (r + 6 * length vs) (flat_goes a f.body w1 t1) _
      (omega arith)
      (parameters_match a n 0 f.params vs (with_slots f act.base w) w1 no_temps t1 placed may.slots may.homes (kept_drawn f) tail
      (r + 6 * length vs) r (flat_goes a f.body w1 t1) x1 s1 (omega arith)
      (record {
        drawn = nine_drawn f;
        alike = enters program f act o active sized w x alike;
        temps = λ i v e. absurd (no_temp i v e);
        kept = are_kept (place a) kept_registers f.temps (at_entry s);
        opened = λ k lt closed. unset_is_open (sym (lay_there act.base f.slots k Unset w.memory lt) ∙ closed);
        passed = passed_in act.base vs 0 s s1 x.memory x1.memory (λ j v lt e. entry_argument j v s lt e)
            (λ b le. above_frame act o active x b le) passed;
        fits = omega (arith, below);
      })
      (λ x2 s2 p.
      left_goes_on a r n inner None f.body (start_drawn f)
      (record {
        remains = record { flat = may.flat; words = words; moves = moves; outs = omega arith };
        part = a.begins;
        drawn = a.drawn;
      }) w1 x2 t1 s2
      (record {
        alike = p.alike;
        temps = p.temps;
        kept = p.kept;
        hi = no_product a None w1.memory t1 s2 (λ u v. refl);
      }))
      ((kept kept_registers (first_drawn f)).code, body_is f)))
