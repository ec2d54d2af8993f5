-- The homes that `for` draws for its variable and its upper bound, and how they are given back.
use Rattle.std.proofs.Common.{◌≡◌, ◌≢◌, ℕ, ◌+◌, ◌-◌, ◌*◌, ◌%◌, ◌^◌, ◌<◌, ◌≤◌, List, [], ◌∷◌, Bool, true, false, refl, sym, ap, ◌∙◌, arith, subst, inl, inr}
use Rattle.std.specs.Prelude.{length, if◌then◌else◌, ◌⊎◌}
use Rattle.tg_machine_state.specs.State.{stack_top, heap_base}
use Rattle.tg_base.specs.Words.{add, sub, less}
use Rattle.tg_syntax.specs.declared.tokens.Ident.{Ident}
use Rattle.tg_simulation.specs.Runs.{Run}
use Rattle.tg_simulation.specs.Ran.{works}
use Rattle.tg_simulation.specs.Agreement.{Source}
use Rattle.tg_semantics.specs.Values.{nothing, SourceWorld}
use Rattle.tg_typecheck.specs.Types.{Ty}
use Rattle.tg_typecheck.specs.Scopes.{at_of}
use Rattle.tg_frame.specs.declared.accesses.Access.{Access}
use Rattle.tg_frame.specs.Homes.{next_home}
use Rattle.tg_tree.specs.Tree as tree
use Rattle.tg_tree.specs.Tree.{Tx, Const, Temp}
use Rattle.tg_tree.specs.Memory.{slot}
use Rattle.tg_tree.specs.Actions.{World, Temps, with_word}
use Rattle.tg_tree.specs.Operators.{holds}
use Rattle.tg_translate.specs.declared.operands.Operand.{Operand}
use Rattle.tg_translate.specs.declared.operands.Operand.TheVariants.{Number, Kept}
use Rattle.tg_translate.specs.mirror.States.{TranslationState, drawn, one_temp, one_slot}
use Rattle.tg_translate.specs.mirror.Constructs.{first_minus_one, operand}
use Rattle.tg_translate_proof.specs.glue.Tables.{Later}
use Rattle.tg_translate_proof.specs.glue.Worlds.{Holdings, unknown, Key, cell, temporary, Content, nowhere, free, variable, kept, fixed, Places, IsOf}
use Rattle.tg_translate_proof.specs.glue.Worlds.{Invariant}
use Rattle.tg_translate_proof.specs.glue.Situations.{Program, Part, Setting, Holds, IsReady, with_temps, floor, key_of}
use Rattle.tg_translate_proof.specs.glue.Shown.{FollowsHere}
use Rattle.tg_translate_proof.proofs.state.TranslationStates.{behind_none, front_none}
use Rattle.tg_translate_proof.proofs.invariant.Cases.{worked}
use Rattle.tg_translate_proof.proofs.invariant.Parts.{more}
use Rattle.tg_translate_proof.proofs.state.Keys.{put_place, by_key, depth_of, index_of}
use Rattle.tg_translate_proof.proofs.state.HomeWrites.{is_nowhere_again, is_free_again, holds_open}
use Rattle.tg_translate_proof.proofs.program.VariableDeclaration.{heap_under}
use Rattle.tg_translate_proof.proofs.invariant.HeldOperands.{OperandIs}
use Rattle.tg_translate_proof.proofs.invariant.HeldLeft.{placed, LeftHeld, as_number, as_kept}
use Rattle.tg_translate_proof.proofs.expressions.ForVariable.{HomeAt, temp_home, slot_home, HasWord, CanStore}

-- a home that is drawn, and what it leaves of a state
abbrev pub access_of : Bool → TranslationState → Access
access_of b s = next_home b s.frame.slots s.frame.temps

abbrev pub home_state : Bool → Part → Ident → TranslationState → TranslationState
home_state b p x s = record s {
  homes = (at_of x, record { level = p.within.level; access = access_of b s }) ∷ s.homes;
  frame = if b then one_slot s.frame else one_temp s.frame;
}

abbrev pub key_at : Bool → Part → TranslationState → Key
key_at true p s = cell (slot p.scene.activation.base s.frame.slots)
key_at false p s = temporary p.scene.depth s.frame.temps

pub drawn_home : (b : Bool) (p : Part) (x : Ident) (s : TranslationState) → Later s (home_state b p x s)
drawn_home true p x s = record {
  temps = omega arith;
  slots = omega arith;
  homes = record { more = (at_of x, record { level = p.within.level; access = access_of true s }) ∷ []; whole_is = refl };
  callees = behind_none;
  literals = front_none;
  functions = front_none;
}
drawn_home false p x s = record {
  temps = omega arith;
  slots = omega arith;
  homes = record { more = (at_of x, record { level = p.within.level; access = access_of false s }) ∷ []; whole_is = refl };
  callees = behind_none;
  literals = front_none;
  functions = front_none;
}

-- a lower bound is held as a number, or else kept
pub number_or_kept : (x : Tx) → LeftHeld false x
number_or_kept (Const n) = as_number n
number_or_kept (Temp i) = as_kept (Temp i) (λ b s. refl)
number_or_kept (tree.Address l) = as_kept (tree.Address l) (λ b s. refl)
number_or_kept tree.FrameAddress = as_kept tree.FrameAddress (λ b s. refl)
number_or_kept (tree.Binary o x y) = as_kept (tree.Binary o x y) (λ b s. refl)
number_or_kept (tree.Load x) = as_kept (tree.Load x) (λ b s. refl)
number_or_kept (tree.LoadByte x) = as_kept (tree.LoadByte x) (λ b s. refl)
number_or_kept (tree.Call l xs) = as_kept (tree.Call l xs) (λ b s. refl)
number_or_kept (tree.Service n x) = as_kept (tree.Service n x) (λ b s. refl)
number_or_kept (tree.After y x) = as_kept (tree.After y x) (λ b s. refl)

-- nothing stands there
pub data IsIdle (places : Places) : Key → Type 0 where
  idle_temp : (d i : ℕ) → places (temporary d i) ≡ nowhere → IsIdle places (temporary d i)
  idle_slot : (a : ℕ) → places (cell a) ≡ free → IsIdle places (cell a)

pub idle_not_fixed : (places : Places) (key : Key) (u : ℕ) → IsIdle places key → places key ≢ fixed u
idle_not_fixed places _ u (idle_temp d i e) f = let g = sym e ∙ f in cc
idle_not_fixed places _ u (idle_slot a e) f = let g = sym e ∙ f in cc

pub idle_of_none : (places : Places) (key : Key) (l : ℕ) → IsIdle places key → IsOf l (places key) → ⊥
idle_of_none places _ l (idle_temp d i e) is = subst (λ c. IsOf l c) e is
idle_of_none places _ l (idle_slot a e) is = subst (λ c. IsOf l c) e is

pub idle_use : (places : Places) (key : Key) → IsIdle places key → places key ≢ nowhere ⊎ ((a : ℕ) → key ≢ cell a)
idle_use places _ (idle_temp d i e) = inr (λ a f. cc)
idle_use places _ (idle_slot a e) = inl (λ f. let g = sym e ∙ f in cc)

-- it is idle where another key is put
pub idle_on : (places : Places) (key k0 : Key) (c : Content) → key ≢ k0 → IsIdle places key → IsIdle (put_place k0 c places) key
idle_on places _ k0 c ne (idle_temp d i e) = idle_temp d i (by_key (temporary d i) k0 (λ o. o ≡ nowhere) c places (λ f. absurd (ne f)) e)
idle_on places _ k0 c ne (idle_slot a e) = idle_slot a (by_key (cell a) k0 (λ o. o ≡ free) c places (λ f. absurd (ne f)) e)

-- one less, and one more
pub less_more : (u : ℕ) → u < 2 ^ 32 → add (sub u 1) 1 ≡ u
less_more u lt = omega (arith, lt)

module _ (P : Program) (set : Setting P) where
  -- Where a home that was drawn stands.
  pub record Homed (p : Part) (σ τ : TranslationState) (access : Access) (key : Key) : Type 0 where
    pub home : HomeAt p access key
    pub key_is : key_of p.scene p.env.level access ≡ key
    pub idle : IsIdle p.places key
    pub above : (a : ℕ) → key ≡ cell a → (floor P ≤ a) × (a < stack_top) × (a % 4 ≡ 0)
    pub shallow : depth_of key ≤ p.scene.depth
    pub high : (a : ℕ) → key ≡ cell a → p.scene.activation.base - p.scene.activation.size ≤ a
    pub apart_slots : (k : ℕ) → σ.frame.slots ≤ k → k < τ.frame.slots → cell (slot p.scene.activation.base k) ≢ key
    pub apart_temps : (i : ℕ) → σ.frame.temps ≤ i → temporary p.scene.depth i ≢ key

  pub homed : (b : Bool) (p : Part) (x : Ident) (h : Holdings) (types : List Ty) (σ τ s4 : TranslationState) (s : SourceWorld) (w : World) (t : Temps) → IsReady P p types σ τ →
      Holds P p h types s w t → Later σ s4 → Later (home_state b p x s4) τ → Homed p (home_state b p x s4) τ (access_of b s4) (key_at b p s4)
  homed false p x h types σ τ s4 s w t ready hh l1 l2 =
      let i : ℕ = s4.frame.temps in
      let a = l1.temps in
      let b = l2.temps in
      record {
        home = temp_home i;
        key_is = refl;
        idle = idle_temp p.scene.depth i (ready.temps_free i (omega (arith, a)) (omega (arith, b)));
        above = λ a f. cc;
        shallow = omega arith;
        high = λ a f. cc;
        apart_slots = λ k a b f. cc;
        apart_temps = λ j lo f. let g : j ≡ i = ap index_of f in omega (arith, g, lo);
      }
  homed true p x h types σ τ s4 s w t ready hh l1 l2 =
      let j : ℕ = s4.frame.slots in
      let base : ℕ = p.scene.activation.base in
      let a : ℕ = slot base j in
      let lo1 = l1.slots in
      let up1 = l2.slots in
      let drawn_one : j < τ.frame.slots = omega (arith, up1) in
      let idle : p.places (cell a) ≡ free = ready.slots_free j (omega (arith, lo1)) drawn_one in
      let used : p.places (cell a) ≢ nowhere = λ f. let g = sym idle ∙ f in cc in
      let scene = ready.scene in
      let there = ready.slots_there in
      let within_slots : j < p.scene.slots = omega (arith, there, drawn_one) in
      let room_ = scene.within in
      let fits_ = scene.fits in
      let top = scene.high p.scene.level (omega arith) in
      let here = scene.here in
      let levels = ready.same_level in
      let low : 4 * (j + 1) ≤ base = omega (arith, room_, fits_, within_slots) in
      let up = hh.invariant.above a used in
      record {
        home = slot_home j low (omega (arith, top, here)) ready.activation;
        key_is = ap (λ o. cell (slot o j)) (ap p.scene.chain levels ∙ here);
        idle = idle_slot a idle;
        above = λ b f. subst (λ o. (floor P ≤ o) × (o < stack_top) × (o % 4 ≡ 0)) (ap index_of f) up;
        shallow = omega arith;
        high = λ b f. let g : a ≡ b = ap index_of f in omega (arith, g, fits_, within_slots);
        apart_slots = λ b lo hi f.
            let g : slot base b ≡ a = ap index_of f in
            omega (arith, g, lo, hi, there, fits_, room_, low);
        apart_temps = λ b lo f. cc;
      }

  -- a home is no part of the heap
  pub no_heap : (p : Part) (key : Key) (h : Holdings) (types : List Ty) (s : SourceWorld) (w : World) (t : Temps) → Holds P p h types s w t →
      ((a : ℕ) → key ≡ cell a → (floor P ≤ a) × (a < stack_top) × (a % 4 ≡ 0)) → (b : ℕ) → h.at b ≢ unknown → cell b ≢ key
  no_heap p key h types s w t hh above b known f =
      let up = above b (sym f) in
      let low = hh.invariant.known b known in
      let under = heap_under P set p h types s w t hh in
      omega (arith, up.0, low.1, under)

  -- a home that is open can be stored to
  pub can_store : (p : Part) (key : Key) (h : Holdings) (types : List Ty) (s : SourceWorld) (w : World) (t : Temps) → Holds P p h types s w t →
      ((a : ℕ) → key ≡ cell a → (floor P ≤ a) × (a < stack_top) × (a % 4 ≡ 0)) → p.places key ≢ nowhere ⊎ ((a : ℕ) → key ≢ cell a) → CanStore P w key
  can_store p key h types s w t hh above (inr none) a f = absurd (none a f)
  can_store p key h types s w t hh above (inl used) a f =
      let up = above a f in
      let under = heap_under P set p h types s w t hh in
      let high : heap_base + length w.memory.heap ≤ a = omega (arith, up.0, under) in
      let ts = with_temps p.scene.depth t p.others in (
        up.2,
        high,
        holds_open h types s w.memory ts a (p.places (cell a)) hh.invariant.memory.whole up.2 high (subst (λ o. p.places o ≢ nowhere) f used) (hh.invariant.holds (cell a)),
      )

  -- a home that was in use is idle again
  pub idle_again : (q : Places) (p : Part) (key : Key) (place : ℕ) (h : Holdings) (types : List Ty) (s : SourceWorld) (w : World) (t : Temps) →
      Holds P (placed p (put_place key (variable place) q)) h types s w t → IsIdle q key →
      ((a : ℕ) → key ≡ cell a → (floor P ≤ a) × (a < stack_top) × (a % 4 ≡ 0)) → Holds P (placed p q) h types s w t
  idle_again q p key place h types s w t hh idle above =
      record { invariant = by key idle above hh; weight = hh.weight; depth = hh.depth; statics = hh.statics; literals = hh.literals }
    where
      by : (key : Key) → IsIdle q key → ((a : ℕ) → key ≡ cell a → (floor P ≤ a) × (a < stack_top) × (a % 4 ≡ 0)) → Holds P (placed p (put_place key (variable place) q)) h types s w t →
          Invariant P.shapes P.heap (floor P) q h types s w (with_temps p.scene.depth t p.others)
      by _ (idle_temp d i e) above hh =
          is_nowhere_again P.shapes P.heap (floor P) (put_place (temporary d i) (variable place) q) h types s w (with_temps p.scene.depth t p.others) hh.invariant (temporary d i) q
          (variable place) refl e (λ b known f. cc)
      by _ (idle_slot a e) above hh =
          is_free_again P.shapes P.heap (floor P) q h types s w (with_temps p.scene.depth t p.others) a (variable place) hh.invariant (λ f. cc) e
          (heap_under P set (placed p (put_place (cell a) (variable place) q)) h types s w t hh)
          (no_heap (placed p (put_place (cell a) (variable place) q)) (cell a) h types s w t hh above)

  -- one less than an operand
  pub first_word : (p : Part) (l : Operand) (u n : ℕ) (c : Run Source) (w : World) (t : Temps) → OperandIs l u t → HasWord P p (first_minus_one l) (sub u 1) n c w t
  first_word p (Number k) u n c w t is go r f =
      worked P r (r + 12) 2 n c (go (sub k 1) w t) (omega arith) (subst (λ o. FollowsHere P r n c (go (sub o 1) w t)) (sym is) f)
  first_word p (Kept i) u n c w t is go r f =
      worked P (r + 2) (r + 12) 1 n c _ (omega arith)
      (worked P (r + 2) (r + 2) 0 n c (with_word (t i.0) w (λ u1. λ j. works 2 (go (sub u1 1) w t j))) (omega arith)
      (subst (λ o. FollowsHere P (r + 2) n c (with_word o w (λ u1. λ j. works 2 (go (sub u1 1) w t j)))) (sym is)
      (worked P r (r + 2) 2 n c (go (sub u 1) w t) (omega arith) f)))
