-- The instructions of a compiled program: choosing them, with known words and tests, keeps what its flat code does.
use Rattle.std.proofs.Common.{ℕ, zero, suc, ◌≡◌, ◌<◌, ◌≤◌, ◌+◌, ◌-◌, List, [], ◌∷◌, map, length}
use Rattle.std.proofs.Common.{get_or, refl, sym, ap, ◌∙◌, subst, arith, Bool, true, false, Some}
use Rattle.std.specs.Prelude.{All, ◌==◌, if◌then◌else◌}
use Rattle.std.specs.List.{Contains}
use Rattle.tg_machine_state.specs.State.{stack_top, statics_base, heap_base, padded}
use Rattle.tg_simulation.specs.Runs.{Run}
use Rattle.tg_simulation.specs.Ran.{Ran}
use Rattle.tg_simulation.specs.Bytes.{AreBytes}
use Rattle.tg_simulation.specs.Preserving.{Preserves}
use Rattle.tg_simulation.proofs.Agreeing.{passes_compose}
use Rattle.tg_frame.specs.Homes.{slot_bound, temp_bound}
use Rattle.tg_tree.specs.declared.fragments.Literal.{Literal}
use Rattle.tg_tree.specs.Tree as tree
use Rattle.tg_tree.specs.Tree.{Ts, Linear, Function}
use Rattle.tg_tree.specs.Memory.{statics_of}
use Rattle.tg_tree.specs.glue.Plain.{plain_literal}
use Rattle.tg_tree.specs.Named.{named_ts, HasWords}
use Rattle.tg_tree.specs.FrameSizes.{IsSizeOf}
use Rattle.tg_tree.specs.Running.{function_of}
use Rattle.tg_canon.specs.laws.Meaning.{canonical}
use Rattle.tg_trace_schedule.specs.laws.Carried.{in_blocks}
use Rattle.tg_trace_schedule.specs.laws.Traced.{laid}
use Rattle.tg_canon_trace_proof.specs.Flattened.{flattened}
use Rattle.tg_emit.specs.Ranges.{LiteralFits}
use Rattle.tg_instr.specs.declared.instr.Instr.{Instr}
use Rattle.tg_instr.specs.Running.{code_run}
use Rattle.tg_munch_proof.specs.glue.Places.{each_one}
use Rattle.tg_munch_proof.specs.laws.Chosen.{chosen, added_work, MayBeChosen, HasRoom, MunchIsCorrect, CodeKeepsWords}
use Rattle.tg_regalloc_proof.specs.Keeping.{AreHeld, DoesNoMore, Holds, Surroundings}
use Rattle.tg_redundancy_proof.specs.laws.Laws.{KnownIsCorrect}
use Rattle.tg_correctness.specs.laws.Laws.{unit_words}
use Rattle.tg_compile_proof.specs.laws.Lowering.{MayBeLowered, FlatCodeMayBeChosen}
use Rattle.tg_emit_proof.specs.LinesRun as lines
use Rattle.tg_emit_proof.specs.laws.Emission.{FitRegions}
use Rattle.tg_emit_proof.proofs.Statics as emitted
use Rattle.tg_compile_proof.specs.Forms.{Compilation, IsCompiled, registers, flat_code, chosen_instructions, instructions, frames}
use Rattle.tg_compile_proof.specs.Forms.{flat_form, instruction_form}
use Rattle.tg_compile_proof.specs.laws.Laws.{KeepsChoice, ChoiceIsKept}
use Rattle.tg_compile_proof.proofs.Compiled.{PairAt, pair, sized, same_there, compiled_may_run}

-- the flat code of a function stands at its place
flat_at : (fs : List (Function Ts)) (k : ℕ) (f : Function Ts) → k < length fs → get_or fs k f ≡ f →
    get_or (map laid (map in_blocks (map canonical fs))) k (flattened f) ≡ flattened f
flat_at [] k f l e = absurd (omega (arith, l))
flat_at (g ∷ fs) zero f l e = ap flattened e
flat_at (g ∷ fs) (suc k) f l e = flat_at fs k f (omega (arith, l)) e

no_fewer : (fs : List (Function Ts)) → length (map laid (map in_blocks (map canonical fs))) ≡ length fs
no_fewer [] = refl
no_fewer (f ∷ fs) = ap suc (no_fewer fs)

-- a literal of the trees is one of the code, in bytes
bytes_at : (ls : List Literal) → All LiteralFits ls → (l : tree.Literal) → Contains (map plain_literal ls) l →
    AreBytes l.text
bytes_at [] h l c = let lt = c.1 in absurd (omega (arith, lt))
bytes_at (x ∷ ls) h l (zero, lt, e) =
    subst (λ (y : tree.Literal). AreBytes y.text) e (h 0 x (omega arith)).text
bytes_at (x ∷ ls) h l (suc k, lt, e) =
    bytes_at ls (λ i d m. h (suc i) d (omega (arith, m))) l (k, omega (arith, lt), e)

-- frames that have the sizes of functions hold their slots and the words for arguments
held : (size : ℕ → ℕ) (gs : List (Function (List Linear))) →
    ((g : Function (List Linear)) → Contains gs g → IsSizeOf (chosen g) (size g.label)) → AreHeld size (map chosen gs)
held size [] sized label f e = cc
held size (g ∷ gs) sized label f e =
    by (g.label == label) e (held size gs (λ h there. sized h (suc there.0, (let l = there.1 in omega (arith, l)), there.2)) label f)
  where
    same : Some (chosen g) ≡ Some f → chosen g ≡ f
    same i = cc

    by : (b : Bool) → (if b then Some (chosen g) else function_of label (map chosen gs)) ≡ Some f →
        (function_of label (map chosen gs) ≡ Some f → Holds size f) → Holds size f
    by true i later = subst (λ (h : Function (List Instr)). Holds size h) (same i) (sized g (zero, omega arith, refl)).holds
    by false i later = later i

-- what does no more with as much fuel is preserved
preserved : {before after : Run Ran} → DoesNoMore before after → Preserves 1 0 before after
preserved same = record { there = λ n right. (n, omega arith, same n right) }

module _ (may : FlatCodeMayBeChosen) (p : Compilation) (c : IsCompiled p)
    (words : HasWords (λ body. named_ts body []) p.trees) where
  -- Of a function without its parameters the laws of the passes say all but where these have their
  -- homes, which the frame of its allocation says.
  abbrev without : Function Ts → Function Ts
  without f = record f { params = [] }

  lowered : (f : Function Ts) → Contains p.trees.functions f → MayBeLowered (without f)
  lowered f there =
      let flat = c.may_be_flat f there in
      record {
        flattened = record { closed = flat.closed; temps = flat.temps };
        words = λ n at. words f n there at;
        homes = omega arith;
        slots = omega arith;
      }

  module _ (k : ℕ) (l : k < length p.trees.functions) where
    abbrev at : PairAt p.rule p.trees.functions p.allocations k
    at = pair p c k l

    there : Contains p.trees.functions at.function
    there = (k, l, at.there)

    may_be_chosen : MayBeChosen (flattened at.function)
    may_be_chosen =
        let m = may (without at.function) (lowered at.function there) in
        let i = at.is.chooses in
        let frame = at.is.frame in
        record {
          flat = m.flat;
          marked = m.marked;
          words = m.words;
          temps = m.temps;
          homes = subst (λ ps. temp_bound ps ≤ (flattened at.function).temps) i.params
              (subst (λ n. temp_bound frame.params ≤ n) i.drawn frame.temps_below);
          slots = subst (λ ps. slot_bound ps ≤ at.function.slots) i.params
              (subst (λ n. slot_bound frame.params ≤ n) i.slots frame.slots_below);
        }

    flat_is : (g : Function (List Linear)) → k < length (flat_code p).functions →
        get_or (flat_code p).functions k g ≡ g → flattened at.function ≡ g
    flat_is g m e =
        sym (flat_at p.trees.functions k at.function l at.there)
        ∙ (same_there (flat_code p).functions k (flattened at.function) g m ∙ e)

  -- each function of flat code is such
  index : (g : Function (List Linear)) (there : Contains (flat_code p).functions g) →
      there.0 < length p.trees.functions
  index g there = let n = no_fewer p.trees.functions in let m = there.1 in omega (arith, m, n)

  all_chosen : (g : Function (List Linear)) → Contains (flat_code p).functions g → MayBeChosen g
  all_chosen g there =
      subst MayBeChosen (flat_is there.0 (index g there) g there.1 there.2) (may_be_chosen there.0 (index g there))

  all_sized : (g : Function (List Linear)) → Contains (flat_code p).functions g →
      IsSizeOf (chosen g) (frames p g.label)
  all_sized g there =
      subst (λ h. IsSizeOf (chosen h) (frames p h.label)) (flat_is there.0 (index g there) g there.1 there.2)
      (sized p c there.0 (index g there))

  statics_end : statics_base + length (statics_of p.trees.literals) ≤ heap_base
  statics_end =
      let s = emitted.statics_are (registers p) p.literals (compiled_may_run p c) in
      let short = s.short in
      let n : length (statics_of p.trees.literals) ≡ length (padded (lines.statics_of p.literals)) =
      ap (λ ls. length (statics_of ls)) (sym c.literals) ∙ sym (ap (λ (b : List ℕ). length b) s.same) in
      omega (arith, short, n)

  has_room : (heap stack : ℕ) → FitRegions heap stack → HasRoom (flat_code p) (frames p) (stack_top - stack) heap
  has_room heap stack fit =
      let h = fit.heap_most in let s = fit.stack_most in
      record { sizes = all_sized; statics = statics_end; heap = omega (arith, h, s); stack = omega arith }

  module _ (input : List ℕ) (heap stack : ℕ) where
    -- the runs of instructions, each of which counts a unit
    abbrev chosen_form : Run Ran
    chosen_form = code_run each_one (chosen_instructions p) (frames p) (stack_top - stack) heap 32 input

    abbrev known_form : Run Ran
    known_form = code_run each_one (instructions p) (frames p) (stack_top - stack) heap 32 input

    chosen_kept : MunchIsCorrect → AreBytes input → FitRegions heap stack → Preserves 1 added_work (flat_form p input heap stack) chosen_form
    chosen_kept keep bytes fit =
        keep (flat_code p) (frames p) (stack_top - stack) heap 32 input all_chosen
        (λ l there. bytes_at p.literals c.typed.literals l (subst (λ ls. Contains ls l) (sym c.literals) there)) bytes
        (has_room heap stack fit)

    known_kept : KnownIsCorrect → Preserves 1 0 chosen_form known_form
    known_kept keep =
        preserved (keep (chosen_instructions p).functions surroundings (held (frames p) (flat_code p).functions all_sized))
      where
        surroundings : Surroundings
        surroundings = record {
          literals = p.trees.literals;
          size = frames p;
          floor = stack_top - stack;
          room = heap;
          body = 32;
          input = input;
        }

    kept : MunchIsCorrect → KnownIsCorrect → CodeKeepsWords → AreBytes input → FitRegions heap stack → KeepsChoice p input heap stack
    kept choice known words_kept bytes fit =
        passes_compose 1 added_work unit_words 0 (flat_form p input heap stack) chosen_form (instruction_form p input heap stack)
        (chosen_kept choice bytes fit)
        (passes_compose 1 0 unit_words 0 chosen_form known_form (instruction_form p input heap stack) (known_kept known)
        (words_kept (instructions p) (frames p) (stack_top - stack) heap 32 input))

pub choice_is_kept : FlatCodeMayBeChosen → MunchIsCorrect → KnownIsCorrect → CodeKeepsWords → ChoiceIsKept
choice_is_kept may choice known words_kept p c words input heap stack bytes fit =
    kept may p c words input heap stack choice known words_kept bytes fit
