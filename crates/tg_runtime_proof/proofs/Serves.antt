-- A call of the runtime serves by what its body comes to.
use Rattle.std.proofs.Common.{◌≡◌, ℕ, ◌+◌, ◌*◌, ◌≤◌, ◌<◌, List, [], ◌∷◌, length, Some, sym, ◌∙◌, arith, subst}
use Rattle.tg_machine_state.specs.declared.ends.RunEnd.TheVariants.{HeapFull}
use Rattle.tg_machine_state.specs.State.{heap_base}
use Rattle.tg_frame.specs.declared.accesses.Access.{Access}
use Rattle.tg_frame.specs.declared.accesses.Access.TheVariants.{InTemp}
use Rattle.tg_simulation.specs.Runs.{Run}
use Rattle.tg_simulation.specs.Ran.{Ran, Ended}
use Rattle.tg_simulation.specs.laws.Simulating.{Comes}
use Rattle.tg_tree.specs.Tree.{Ts, Function}
use Rattle.tg_tree.specs.Units.{marked_entry_units}
use Rattle.tg_tree.specs.Actions.{World, Temps, Around, Back, Next, wrong, over}
use Rattle.tg_tree.specs.Meaning.{Enter, Point}
use Rattle.tg_tree.specs.Running.{no_temps, outermost, function_of, body_point}
use Rattle.tg_runtime.specs.declared.routines.Routine.{Routine}
use Rattle.tg_runtime.specs.mirror.Labels.{label_of}
use Rattle.tg_runtime.specs.mirror.Routines.{runtime}
use Rattle.tg_runtime_proof.specs.Memories.{IsMemory}
use Rattle.tg_runtime_proof.specs.Settings.{Setting, does, Steps, Host, setting_of, HasRuntime, RunsBySteps}
use Rattle.tg_runtime_proof.specs.laws.Serving.{Serves, Makes, call_units, turn_units, with_block}
use Rattle.tg_runtime_proof.proofs.Coming.{comes_along, comes_within}
use Rattle.tg_runtime_proof.proofs.Calling.{call_comes, placed_world, placed_temps}

-- A call of the runtime.
pub record Situation : Type 0 where
  pub host : Host
  pub has : HasRuntime host.functions
  pub runs : RunsBySteps host
  pub world : World  -- that of the call
  pub memory : IsMemory host.room world.memory

-- A body of the runtime at work.
pub record Inside (host : Host) : Type 0 where
  pub calling : Enter
  pub goes : Point → Run Ran
  pub steps : Steps (setting_of host calling goes)
  pub around : Around

abbrev pub setting_in : (host : Host) → Inside host → Setting
setting_in host inside = setting_of host inside.calling inside.goes

-- what no body of the runtime comes to: its end without a return
abbrev pub off : Next
off w t = wrong w

-- a function of the runtime has no slot
abbrev pub function_with : Routine → List Access → ℕ → Ts → Function Ts
function_with one homes temps body = record {
  label = label_of one;
  params = homes;
  slots = 0;
  temps = temps;
  out = 0;
  body = body;
}

-- Parameters stand in the first temporaries.

abbrev pub one_home : List Access
one_home = InTemp (record { 0 = 0 }) ∷ []

abbrev pub two_homes : List Access
two_homes = InTemp (record { 0 = 0 }) ∷ InTemp (record { 0 = 1 }) ∷ []

abbrev pub three_homes : List Access
three_homes = InTemp (record { 0 = 0 }) ∷ InTemp (record { 0 = 1 }) ∷ InTemp (record { 0 = 2 }) ∷ []

-- A function of the runtime where it begins.
pub record Entry : Type 0 where
  pub one : Routine
  pub homes : List Access  -- of its parameters
  pub temps : ℕ
  pub body : Ts
  pub words : List ℕ  -- what it is called with
  pub begun : Temps  -- the temporaries that have these words
  pub found : function_of (label_of one) runtime.functions ≡ Some (function_with one homes temps body)
  pub many : length homes ≡ length words
  pub same : (top : ℕ) (w : World) → placed_world top homes words w ≡ w
  pub there : placed_temps homes words no_temps ≡ begun

module _ (call : Situation) (entry : Entry) where
  -- the body, in some setting, comes to this
  abbrev pub BodyComes : ℕ → (Back → Run Ran) → Type 0
  BodyComes k what =
      (inside : Inside call.host) →
      Comes k (does (setting_in call.host inside) entry.body inside.around off call.world entry.begun)
      (what inside.around.back)

  pub serves : (turns k : ℕ) (what : Back → Run Ran) →
      23 + 6 * length entry.words + k ≤ call_units + turn_units * turns →
      BodyComes k what →
      Serves call.host turns entry.one entry.words call.world what
  serves turns k what le comes top back fits =
      let host = call.host in
      let w = call.world in
      let f = function_with entry.one entry.homes entry.temps entry.body in
      let z : Around = outermost (record { base = top; size = host.size (label_of entry.one) }) back in
      let r = call.runs entry.body z w entry.begun in
      let inner : Comes k (host.runner entry.body z w entry.begun) (what back) =
      comes_along k (host.runner entry.body z w entry.begun)
      (does (setting_of host r.0 r.1) entry.body z off w entry.begun) (what back)
      (λ i. r.3 i ∙ r.2 (body_point entry.body z w entry.begun) i)
      (comes (record { calling = r.0; goes = r.1; steps = r.2; around = z })) in
      let placed : Comes k
      (host.runner entry.body z (placed_world top entry.homes entry.words w)
      (placed_temps entry.homes entry.words no_temps))
      (what back) =
      subst (λ u. Comes k (host.runner entry.body z u (placed_temps entry.homes entry.words no_temps)) (what back))
      (sym (entry.same top w))
      (subst (λ s. Comes k (host.runner entry.body z w s) (what back)) (sym entry.there) inner) in
      let units : marked_entry_units (length entry.words) ≡ 23 + 6 * length entry.words = omega arith in
      comes_within (marked_entry_units (length entry.words) + k) (call_units + turn_units * turns) _ (what back)
      (omega (arith, le, units))
      (call_comes marked_entry_units host.size host.floor host.runner host.functions (label_of entry.one) f entry.words
      top back w (what back) k (call.has f entry.found) fits entry.many placed)

  -- what makes a block ends by a full heap in so many units, or has made it in so many
  pub makes : (turns l k m : ℕ) (after : World) (block : List ℕ) →
      23 + 6 * length entry.words + l ≤ call_units →
      23 + 6 * length entry.words + k ≤ call_units + turn_units * turns →
      length block ≡ m →
      (call.host.room < length call.world.memory.heap + m → BodyComes l (λ back. over (Ended HeapFull) after)) →
      (length call.world.memory.heap + m ≤ call.host.room →
      BodyComes k (λ back. back (heap_base + length call.world.memory.heap) (with_block block after))) →
      Makes call.host turns entry.one entry.words call.world after block
  makes turns l k m after block ll lk long full made = record {
    full = λ much. serves 0 l (λ back. over (Ended HeapFull) after) (omega (arith, ll))
        (full (omega (arith, much, long)));
    made = λ fits.
        serves turns k (λ back. back (heap_base + length call.world.memory.heap) (with_block block after)) lk
        (made (omega (arith, fits, long)));
  }
