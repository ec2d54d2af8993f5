-- A call, where its arguments stand in $a0 to $a3 and in the low words of the caller's frame.
use Rattle.std.proofs.Common.{◌≡◌, ◌≤◌, ℕ, ◌+◌, ◌-◌, List, ◌∷◌, length, Bool, true, false, refl, arith}
use Rattle.std.proofs.lemmas.Bool.Decides.{nat_tests}
use Rattle.std.specs.Prelude.{◌&&◌, ◌||◌, not, nat_le, nat_lt}
use Rattle.tg_simulation.specs.laws.Simulating.{Simulates}
use Rattle.tg_simulation.proofs.Simulations.{simulates_working}
use Rattle.tg_tree.specs.Tree.{Linear, Function}
use Rattle.tg_tree.specs.Actions.{World, Activation, Back as TreeBack}
use Rattle.tg_tree.specs.FrameSizes.{IsSizeOf}
use Rattle.tg_instr.specs.declared.instr.Instr.{Instr}
use Rattle.tg_instr.specs.declared.instr.Instr.TheVariants.{Call}
use Rattle.tg_instr.specs.Contents.{Word, Contents, after_call}
use Rattle.tg_instr.specs.Meaning.{Back}
use Rattle.tg_instr.specs.Running.{run_code}
use Rattle.tg_munch.specs.mirror.Bodies.{outs}
use Rattle.tg_munch_proof.specs.glue.Places.{each_one}
use Rattle.tg_munch_proof.specs.Words.{IsWord}
use Rattle.tg_munch_proof.specs.laws.Chosen.{chosen}
use Rattle.tg_munch_proof.specs.glue.Outlines.{Outline, IsAbove, IsTop}
use Rattle.tg_munch_proof.specs.glue.Relating.{Program, outline_in, AreAlike, ArePassed, EntersMatch, IsActivation}
use Rattle.tg_munch_proof.specs.glue.Relating.{is_low, is_slot, enters, going_behind, code_behind}

-- what is told within a frame is told of addresses from its low end on
either : (b c : Bool) (P : Type 0) → (b || c) ≡ true → (b ≡ true → P) → (c ≡ true → P) → P
either true c P e h k = h refl
either false c P e h k = k e

first : (b c : Bool) → (b && c) ≡ true → b ≡ true
first true c e = refl
first false c e = e

at_least : (m n : ℕ) → nat_le m n ≡ true → m ≤ n
at_least m n e = grind (arith, nat_tests)

pub is_above : (f : Function (List Linear)) (act : Activation) (o : Outline) → IsAbove act.base o → IsAbove (act.base
    - act.size) (outline_in f act o)
is_above f act o h = record {
  shut = λ a e.
      either (nat_le (act.base - act.size) a && (nat_lt a act.base && not (is_slot act.base f.slots a))) (o.shut a)
      (act.base - act.size ≤ a) e
      (λ b. at_least (act.base - act.size) a (first (nat_le (act.base - act.size) a) _ b)) (λ b. let g = h.shut a b
      in omega (arith, g));
  for_arguments = λ a e.
      either (is_low (act.base - act.size) (outs f.body) a) (o.for_arguments a) (act.base - act.size ≤ a) e
      (λ b. at_least (act.base - act.size) a (first (nat_le (act.base - act.size) a) _ b)) (λ b. let g =
      h.for_arguments a b in omega (arith, g));
}

module _
    (program : Program) (f : Function (List Linear)) (act : Activation) (o : Outline)
    (active : IsActivation program f act o) (sized : IsSizeOf (chosen f) (program.size f.label)) (n r : ℕ)
    (calls : EntersMatch program n) where
  abbrev low : ℕ
  low = act.base - act.size

  may_begin : (k : ℕ) → k - 4 ≤ outs f.body → IsTop program.floor low k
  may_begin k few =
      let e = active.frame in
      let fits = active.fits in
      let words = active.words in
      let below = active.below in
      let by_four = sized.words in
      let holds = sized.holds in
      record {
        words = omega (arith, e, fits, words, by_four);
        above = omega (arith, fits);
        below = omega (arith, e, fits, below, holds, few);
      }

  -- Whatever comes next after the call and its instruction: the call has a unit for it.
  pub call_matches :
      (label : _) (vs : List ℕ) (go : TreeBack) (back : Back) (rest : List Instr) (w x : World) (s : Contents) →
      length vs - 4 ≤ outs f.body →
      ArePassed low s x.memory 0 vs →
      AreAlike program (outline_in f act o) w x →
      ((v : ℕ) (w1 x1 : World) → IsWord v → AreAlike program (outline_in f act o) w1 x1 →
      Simulates 1 r n (go v w1) (run_code each_one (code_behind program) program.size program.floor program.room
      (going_behind program) (chosen f) rest act back
      x1 (after_call (Word v) s))) →
      Simulates 1 (r + 1) n (enters program label vs low go w)
      (run_code each_one (code_behind program) program.size program.floor program.room
      (going_behind program) (chosen f) (Call (record {
        0 = label;
      }) ∷ rest) act back x s)
  call_matches label vs go back rest w x s few passed alike next =
      simulates_working 1 r n 1 _ _
      (calls label vs s (outline_in f act o) go
      (λ c x1. run_code each_one (code_behind program) program.size program.floor program.room
      (going_behind program) (chosen f) rest act back
      x1 (after_call c s))
      w x r (may_begin (length vs) few) (is_above f act o active.apart) passed alike next)
