-- The frame of a function around is found through static links: the frame address so many levels outwards.
use Rattle.std.proofs.Common.{◌≡◌, ℕ, zero, suc, ◌+◌, ◌-◌, ◌*◌, ◌^◌, ◌<◌, ◌≤◌, List, Some, Bool, true, false, refl, sym, ap, ◌∙◌, arith, subst, eq-eqb}
use Rattle.std.specs.Prelude.{if◌then◌else◌}
use Rattle.tg_machine_state.specs.State.{stack_top}
use Rattle.tg_base.specs.Words.{sub}
use Rattle.tg_simulation.specs.Runs.{Run}
use Rattle.tg_simulation.specs.Ran.{Ran, works}
use Rattle.tg_simulation.specs.Agreement.{Source}
use Rattle.tg_simulation.proofs.Following.{follows_along}
use Rattle.tg_semantics.specs.Values.{SourceWorld}
use Rattle.tg_typecheck.specs.Types.{Ty}
use Rattle.tg_tree.specs.declared.operators.Bin.TheVariants.{Sub}
use Rattle.tg_tree.specs.Tree.{Tx, Temp, FrameAddress, Const, Literal}
use Rattle.tg_tree.specs.Units.{Trees}
use Rattle.tg_tree.specs.Shapes.{IsFlat}
use Rattle.tg_tree.specs.Sizes.{expression_length}
use Rattle.tg_tree.specs.Operators.{Given, word, operate}
use Rattle.tg_tree.specs.Memory.{Memory, load, slot}
use Rattle.tg_tree.specs.FlatValue.{flat_value, or_wrong, onward}
use Rattle.tg_tree.specs.Actions.{World, Temps, Go, charged, with_given}
use Rattle.tg_tree.proofs.FlatValues.{flat_runs, word_spends}
use Rattle.tg_translate.specs.mirror.Constructs.{link_of, own_link, frame_out}
use Rattle.tg_correctness.specs.laws.Laws.{tree_work}
use Rattle.tg_translate_proof.specs.glue.Covered.{LinksLead}
use Rattle.tg_translate_proof.specs.glue.Worlds.{Holdings, IsScene, HoldsAt, cell, temporary, fixed, AllTemps, word_of, Key}
use Rattle.tg_translate_proof.specs.glue.Situations.{Program, Part, Holds, with_temps, floor, value_runs, calling, heads, frames_at}
use Rattle.tg_translate_proof.specs.glue.Shown.{FollowsHere}
use Rattle.tg_translate_proof.proofs.invariant.Parts.{more}
use Rattle.tg_simulation.proofs.Following.{follows_working}

pub slot_word : (base k : ℕ) → 4 * (k + 1) ≤ base → base < 2 ^ 32 → sub base (4 * (k + 1)) ≡ slot base k
slot_word base k lo hi = omega (arith, lo, hi)

-- the temporaries of the activation at work
own_temps : (d : ℕ) (t : Temps) (others : AllTemps) → with_temps d t others d ≡ t
own_temps d t others = ap (λ b. if b then t else others d) (eq-eqb d d refl)

-- What memory and temporaries have of the frames around an activation, as far out as a level: its own link in its first
-- slot or its first temporary, and the links of those in between in slots.
pub record Links (m : Memory) (t : Temps) (base level to : ℕ) (kept : Bool) (chain : ℕ → ℕ) : Type 0 where
  pub here : chain level ≡ base
  pub word : (l : ℕ) → l ≤ level → chain l < 2 ^ 32
  pub room : (l : ℕ) → l ≤ level → 0 < l → 4 ≤ chain l
  pub in_slot : kept ≡ true → 0 < level → load m (slot base 0) ≡ Some (chain (level - 1))
  pub in_temp : kept ≡ false → 0 < level → t 0 ≡ Some (chain (level - 1))
  pub outer : (l : ℕ) → to ≤ l → l + 1 < level → load m (slot (chain (l + 1)) 0) ≡ Some (chain l)

module _ (ls : List Literal) (m : Memory) (t : Temps) (base level to : ℕ) (chain : ℕ → ℕ) where
  abbrev flat : Tx → Given
  flat x = flat_value ls base m t x

  link_is : (x : Tx) (c d : ℕ) → flat x ≡ word c → 4 ≤ c → c < 2 ^ 32 → load m (slot c 0) ≡ Some d → flat (link_of x) ≡ word d
  link_is x c d h lo hi k =
      ap (λ g. onward (onward g (λ u. onward (word 4) (λ v. operate Sub u v))) (λ u. or_wrong (load m u))) h ∙
      (ap (λ a. or_wrong (load m a)) (slot_word c 0 lo hi) ∙ ap or_wrong k)

  own_is : (kept : Bool) → Links m t base level to kept chain → 0 < level → flat (own_link kept) ≡ word (chain (level - 1))
  own_is true k lt =
      let lo = subst (λ c. 4 ≤ c) k.here (k.room level (omega arith) lt) in
      let hi = subst (λ c. c < 2 ^ 32) k.here (k.word level (omega arith)) in
      link_is FrameAddress base (chain (level - 1)) refl lo hi (k.in_slot refl lt)
  own_is false k lt = ap or_wrong (k.in_temp refl lt)

  pub frame_is : (kept : Bool) → Links m t base level to kept chain → (n : ℕ) → n ≤ level → to ≤ level - n →
      flat (frame_out kept n) ≡ word (chain (level - n))
  frame_is kept k zero le far = let e : level - 0 ≡ level = omega arith in ap word (sym (ap chain e ∙ k.here))
  frame_is kept k (suc zero) le far = own_is kept k (omega (arith, le))
  frame_is kept k (suc (suc n)) le far =
      let l = level - suc (suc n) in
      let up : level - suc n ≡ l + 1 = omega (arith, le) in
      link_is (frame_out kept (suc n)) (chain (l + 1)) (chain l)
      (frame_is kept k (suc n) (omega (arith, le)) (omega (arith, far)) ∙ ap (λ j. word (chain j)) up)
      (k.room (l + 1) (omega (arith, le)) (omega arith)) (k.word (l + 1) (omega (arith, le))) (k.outer l far (omega (arith, le)))

-- It is flat, and its length is in proportion to the levels.

pub frame_is_flat : (kept : Bool) (n : ℕ) → IsFlat (frame_out kept n)
frame_is_flat kept zero = tt
frame_is_flat true (suc zero) = (tt, tt)
frame_is_flat false (suc zero) = tt
frame_is_flat kept (suc (suc n)) = (frame_is_flat kept (suc n), tt)

pub frame_length : (kept : Bool) (n : ℕ) → expression_length Trees (frame_out kept n) ≤ 4 * n + 1
frame_length kept zero = omega arith
frame_length true (suc zero) = omega arith
frame_length false (suc zero) = omega arith
frame_length kept (suc (suc n)) = let h = frame_length kept (suc n) in omega (arith, h)

module _ (P : Program) where
  -- a flat expression that has a word comes to what comes next with it, in units of its length
  pub flat_follows : (p : Part) (x : Tx) (u r q n : ℕ) (go : Go ℕ) (w : World) (t : Temps) (c : Run Source) → IsFlat x →
      flat_value P.code.literals p.around.activation.base w.memory t x ≡ word u →
      r + expression_length Trees x ≤ q → FollowsHere P r n c (go u w t) →
      FollowsHere P q n c (value_runs P p x p.around go w t)
  flat_follows p x u r q n go w t c f_x is le f =
      let l = expression_length Trees x in
      more P (r + l) q n c (value_runs P p x p.around go w t) le
      (follows_along P.stack tree_work (r + l) n c c (charged l (go u w t)) (value_runs P p x p.around go w t) (λ i. refl)
      (λ i. flat_runs Trees P.heap P.code.literals (calling P (frames_at P p)) (heads P (frames_at P p)) x p.around go w t i f_x ∙
      (ap (λ k. works k (with_given (flat_value P.code.literals p.around.activation.base w.memory t x) w (λ v. go v w t) i))
      (word_spends Trees P.code.literals p.around.activation.base w.memory t x u f_x is) ∙
      ap (λ g. works l (with_given g w (λ v. go v w t) i)) is))
      (follows_working P.stack tree_work r n l c (go u w t) f))

  -- what a key that is fixed holds
  fixed_word : (p : Part) (h : Holdings) (types : List Ty) (s : SourceWorld) (w : World) (t : Temps) (k : Key) (u : ℕ) →
      Holds P p h types s w t → p.places k ≡ fixed u → word_of w.memory (with_temps p.scene.depth t p.others) k ≡ Some u
  fixed_word p h types s w t (cell a) u x e =
      subst (λ o. HoldsAt h types s w.memory (with_temps p.scene.depth t p.others) (cell a) o) e (x.invariant.holds (cell a))
  fixed_word p h types s w t (temporary d i) u x e =
      subst (λ o. HoldsAt h types s w.memory (with_temps p.scene.depth t p.others) (temporary d i) o) e
      (x.invariant.holds (temporary d i))

  -- links lead as far out as those in between keep theirs
  pub links_are : (p : Part) (h : Holdings) (types : List Ty) (s : SourceWorld) (w : World) (t : Temps) (to : ℕ) →
      IsScene (floor P) P.stack p.places p.scene → p.around.activation ≡ p.scene.activation → Holds P p h types s w t →
      LinksLead p.scene.keeps p.scene.level to →
      Links w.memory t p.around.activation.base p.scene.level to (p.scene.keeps p.scene.level) p.scene.chain
  links_are p h types s w t to scene same x leads =
      let base_is : p.scene.activation.base ≡ p.around.activation.base = sym (ap (λ o. o.base) same) in
      record {
        here = scene.here ∙ base_is;
        word = λ l le. let high = scene.high l le in omega (arith, high);
        room = λ l le lt. scene.room l lt le;
        in_slot = λ e lt.
            subst (λ b. load w.memory (slot b 0) ≡ Some (p.scene.chain (p.scene.level - 1))) base_is
            (fixed_word p h types s w t (cell (slot p.scene.activation.base 0)) (p.scene.chain (p.scene.level - 1)) x (scene.in_slot lt e));
        in_temp = λ e lt.
            sym (ap (λ (f : Temps). f 0) (own_temps p.scene.depth t p.others)) ∙
            fixed_word p h types s w t (temporary p.scene.depth 0) (p.scene.chain (p.scene.level - 1)) x (scene.in_temp lt e);
        outer = λ l le lt.
            let one : l + 1 ≡ suc l = omega arith in
            ap (λ j. load w.memory (slot (p.scene.chain j) 0)) one ∙
            fixed_word p h types s w t (cell (slot (p.scene.chain (suc l)) 0)) (p.scene.chain l) x
            (scene.links l (omega (arith, lt)) (leads (suc l) (omega (arith, le)) (omega (arith, lt))));
      }
