-- Flat code that comes of trees is such as instructions may be chosen for, and so the passes compose.
use Rattle.std.proofs.Common.{◌<◌, ℕ, zero, suc, List, [], ◌∷◌, Bool, true, refl}
use Rattle.std.proofs.Common.{subst, arith}
use Rattle.std.proofs.lemmas.Bool.Decides.{nat_tests}
use Rattle.std.specs.Prelude.{IsTrue, nat_lt}
use Rattle.std.specs.List.{Contains}
use Rattle.tg_simulation.proofs.Agreeing.{passes_compose}
use Rattle.tg_tree.specs.Tree.{Ts, Linear, Function, Code}
use Rattle.tg_tree.specs.Named.{Named, function, literal, fault, temporary, constant, named_ts, named_stms}
use Rattle.tg_canon.specs.laws.Laws as canon
use Rattle.tg_canon.specs.laws.Laws.{GivesCanonical, GivesClosed, TempsGrow, TempsStay}
use Rattle.tg_canon.specs.mirror.Canon.{linearized}
use Rattle.tg_trace_schedule.specs.laws.Laws as trace
use Rattle.tg_trace_schedule.specs.laws.Laws.{BlocksAreFlat, BlocksAreWhole, CodeIsFlat, CodeIsWellMarked}
use Rattle.tg_trace_schedule.specs.mirror.Cutting.{blocks_of}
use Rattle.tg_canon_trace_proof.specs.Flattened.{flattened, flattened_code}
use Rattle.tg_canon_trace_proof.specs.laws.Laws.{FlattenIsCorrect}
use Rattle.tg_canon_trace_proof.specs.laws.Laws as flattening
use Rattle.tg_munch_proof.specs.laws.Chosen as choosing
use Rattle.tg_munch_proof.specs.laws.Chosen.{MunchIsCorrect, MunchKeepsWords, MayBeChosen}
use Rattle.tg_correctness.specs.laws.Laws.{unit_words, kept_words}
use Rattle.tg_compile_proof.specs.laws.Lowering.{MayBeLowered, MayRun, FlatCodeMayBeChosen, LoweringIsCorrect, LoweringKeepsWords}

-- tests of names: constants that are words, and temporaries below a number
abbrev has_word : Named → Bool
has_word (constant n) = nat_lt n 4294967296
has_word _ = true

abbrev is_drawn : ℕ → Named → Bool
is_drawn temps (temporary i) = nat_lt i temps
is_drawn temps _ = true

is_below : (n m : ℕ) → IsTrue (nat_lt n m) → n < m
is_below n m h = grind (arith, nat_tests)

tests_below : (n m : ℕ) → n < m → IsTrue (nat_lt n m)
tests_below n m h = grind (arith, nat_tests)

module _ (canonical : GivesCanonical) (closed : GivesClosed) (names : canon.NamesStay) (stay : TempsStay) (grow : TempsGrow)
    (flat_blocks : BlocksAreFlat) (whole : BlocksAreWhole) (flat : CodeIsFlat) (marked : CodeIsWellMarked)
    (flat_names : trace.NamesStay) where
  module _ (f : Function Ts) (may : MayBeLowered f) where
    words_named : (x : Named) → Contains (named_ts f.body []) x → IsTrue (has_word x)
    words_named (constant n) c = tests_below n 4294967296 (may.words n c)
    words_named (function l) c = refl
    words_named (literal l) c = refl
    words_named (fault n) c = refl
    words_named (temporary i) c = refl

    temps_named : (x : Named) → Contains (named_stms (linearized f.body f.temps).it []) x →
        IsTrue (is_drawn (linearized f.body f.temps).next x)
    temps_named (temporary i) c =
        tests_below i (linearized f.body f.temps).next (stay f.body f.temps may.flattened.temps i c)
    temps_named (constant n) c = refl
    temps_named (function l) c = refl
    temps_named (literal l) c = refl
    temps_named (fault n) c = refl

    lowered : MayBeChosen (flattened f)
    lowered = record {
      flat = flat (blocks_of (linearized f.body f.temps).it) (flat_blocks (linearized f.body f.temps).it (canonical f.body f.temps));
      marked = marked (blocks_of (linearized f.body f.temps).it)
          (whole (linearized f.body f.temps).it (closed f.body f.temps may.flattened.closed));
      words = λ n c. is_below n 4294967296
          (flat_names has_word (linearized f.body f.temps).it refl
          (names has_word f.body f.temps words_named (λ i first last. refl)) (constant n) c);
      temps = λ i c. is_below i (linearized f.body f.temps).next
          (flat_names (is_drawn (linearized f.body f.temps).next) (linearized f.body f.temps).it refl temps_named (temporary i) c);
      homes = let first = may.homes in let more = grow f.body f.temps in omega (arith, first, more);
      slots = may.slots;
    }

  pub may_be_chosen : FlatCodeMayBeChosen
  may_be_chosen f may = lowered f may

-- what holds of each function of trees holds of its flat code
each_flattened : (P : Function (List Linear) → Type 0) (fs : List (Function Ts)) (literals : _) →
    ((f : Function Ts) → Contains fs f → P (flattened f)) →
    (g : Function (List Linear)) → Contains (flattened_code (record { functions = fs; literals = literals })).functions g → P g
each_flattened P [] literals h g c = let lt = c.1 in absurd (omega (arith, lt))
each_flattened P (f ∷ fs) literals h g (zero, lt, e) = subst P e (h f (0, omega arith, refl))
each_flattened P (f ∷ fs) literals h g (suc k, lt, e) =
    each_flattened P fs literals (λ i c. h i (suc c.0, let l = c.1 in omega (arith, l), c.2)) g (k, omega (arith, lt), e)

module _ (may : FlatCodeMayBeChosen) (preserved : FlattenIsCorrect) where
  all_may : (code : Code Ts) (size : ℕ → ℕ) (floor room : ℕ) (input : List ℕ) → MayRun code size floor room input →
      (g : Function (List Linear)) → Contains (flattened_code code).functions g → MayBeChosen g
  all_may code size floor room input h =
      each_flattened MayBeChosen code.functions code.literals (λ f c. may f (h.functions f c))

  pub programs_follow : MunchIsCorrect → LoweringIsCorrect
  programs_follow keep code size floor room body input h =
      passes_compose 1 flattening.added_work 1 choosing.added_work _ _ _
      (preserved code size floor room body input (λ f c. (h.functions f c).flattened))
      (keep (flattened_code code) size floor room body input (all_may code size floor room input h) h.literals h.bytes h.fits)

  pub words_follow : MunchKeepsWords → LoweringKeepsWords
  words_follow keep code size floor room body input h =
      passes_compose 1 flattening.added_work unit_words kept_words _ _ _
      (preserved code size floor room body input (λ f c. (h.functions f c).flattened))
      (keep (flattened_code code) size floor room body input (all_may code size floor room input h) h.literals h.bytes h.fits)
