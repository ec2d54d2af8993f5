-- A code as blocks, and what stands after a mark in it.
use Rattle.std.proofs.Common.{ℕ, ◌≡◌, ◌==◌, Bool, true, false, List, [], ◌∷◌, ◌++◌, refl, sym, ap, ◌∙◌, subst, ◌⊎◌}
use Rattle.std.proofs.Common.{inl, inr, Option, Some, None}
use Rattle.std.specs.Prelude.{if◌then◌else◌}
use Rattle.tg_instr.specs.declared.operands.Opnd.{Opnd}
use Rattle.tg_instr.specs.declared.instr.Instr.{Instr}
use Rattle.tg_instr.specs.declared.instr.Instr.TheVariants.{Mark}
use Rattle.tg_instr.specs.Shapes.{InstructionShape, From0, From1, From2, Halves, Copy, Loads, Stores, FromSlot, ToSlot}
use Rattle.tg_instr.specs.Shapes.{Base, AddressOf}
use Rattle.tg_instr.specs.Shapes.{Here, Goes, Tests, Calls, Asks, Fails, Returns, shape}
use Rattle.tg_instr.specs.Running.{behind}
use Rattle.tg_regalloc_proof.specs.Blocks.{Blocks, code_of, Charge, Covers}
use Rattle.tg_regalloc_proof.specs.Named.{to_of, first_of, second_of, reshaped}
use Rattle.tg_regalloc_proof.specs.Places.{Place, In, At, fetched, kept, fetched_for, kept_for, through_for, IsBlock, around, falls_away}
use Rattle.tg_regalloc_proof.specs.Places.{load, store, both, Stands, nothing, a_block}
use Rattle.tg_regalloc_proof.proofs.Suffixes.{IsRest, next, some_is}

not_here : (q : InstructionShape) (z x y : Opnd) (m : ℕ) → Here m ≡ reshaped q z x y → Here m ≡ q
not_here (From0 to k) z x y m h = cc
not_here (From1 to o f) z x y m h = cc
not_here (From2 to l r f) z x y m h = cc
not_here (Halves l r low high) z x y m h = cc
not_here (Copy to o) z x y m h = cc
not_here (Loads to o k f) z x y m h = cc
not_here (Stores o b k f) z x y m h = cc
not_here (FromSlot to k) z x y m h = cc
not_here (ToSlot o k) z x y m h = cc
not_here (Base to) z x y m h = cc
not_here (AddressOf to label) z x y m h = cc
not_here (Here k) z x y m h = h
not_here (Goes k) z x y m h = h
not_here (Tests rel l r k) z x y m h = cc
not_here (Calls label) z x y m h = h
not_here Asks z x y m h = h
not_here (Fails k) z x y m h = h
not_here Returns z x y m h = h

here_is : (j k : ℕ) → Here j ≡ Here k → j ≡ k
here_is j k e = cc

here_copies : (k : ℕ) (d o : Opnd) → Here k ≡ Copy d o → ⊥
here_copies k d o e = cc

-- a mark, or what no search for a mark stops at
abbrev IsMark : Instr → Type 0
IsMark x = (k : ℕ) × (x ≡ Mark k)

abbrev IsNone : Instr → Type 0
IsNone x = ((m : ℕ) (l : List Instr) → behind m (x ∷ l) ≡ behind m l) × ((m : ℕ) → Here m ≡ shape x → ⊥)

tell_mark : (x : Instr) → IsMark x ⊎ IsNone x
tell_mark (Mark k) = inl (k, refl)
tell_mark _ = inr (λ m l. refl, λ m e. cc)

abbrev pub Passes : List Instr → Type 0
Passes block = (m : ℕ) (l : List Instr) → behind m (block ++ l) ≡ behind m l

module _ (place : Opnd → Place) where
  past_fetched : (z : Opnd) (p : Place) (rest l : List Instr) (m : ℕ) → behind m ((fetched z p ++ rest) ++ l)
      ≡ behind m (rest ++ l)
  past_fetched z (In y) rest l m = refl
  past_fetched z (At k) rest l m = refl

  past_fetched_for : (z : Opnd) (op : Option Opnd) (rest l : List Instr) (m : ℕ) → behind m
      ((fetched_for place z op ++ rest) ++ l) ≡ behind m (rest ++ l)
  past_fetched_for z None rest l m = refl
  past_fetched_for z (Some o) rest l m = past_fetched z (place o) rest l m

  past_kept : (z : Opnd) (p : Place) → Passes (kept z p)
  past_kept z (In y) m l = refl
  past_kept z (At k) m l = refl

  past_kept_for : (z : Opnd) (op : Option Opnd) → Passes (kept_for place z op)
  past_kept_for z None m l = refl
  past_kept_for z (Some o) m l = past_kept z (place o) m l

  -- the block of a mark is the mark, and no other has one
  abbrev Marks : Instr → List Instr → Type 0
  Marks x block = ((k : ℕ) × (x ≡ Mark k) × (block ≡ Mark k ∷ [])) ⊎ (((m : ℕ) (l : List Instr) → behind m (x
      ∷ l) ≡ behind m l) × Passes block)

  of_move : (x : Instr) (block : List Instr) (d o : Opnd) → shape x ≡ Copy d o → Passes block → Marks x block
  of_move x block d o e p = by (tell_mark x)
    where
      by : IsMark x ⊎ IsNone x → Marks x block
      by (inl h) = absurd (here_copies h.0 d o (ap shape (sym h.1) ∙ e))
      by (inr h) = inr (h.0, p)

  mark_alone : (k : ℕ) (z0 z1 z2 : Opnd) (y : Instr) → shape y ≡ Here k →
      (fetched_for place z1 (first_of (Here k)) ++ (fetched_for place z2 (second_of (Here k)) ++ (y
      ∷ kept_for place z0 (to_of (Here k))))) ≡ Mark k ∷ []
  mark_alone k z0 z1 z2 y e = by (tell_mark y)
    where
      by : IsMark y ⊎ IsNone y → (y ∷ []) ≡ Mark k ∷ []
      by (inl h) = let same : h.0 ≡ k = here_is h.0 k (ap shape (sym h.1) ∙ e) in ap (λ i. i ∷ []) (h.1 ∙ ap (λ i.
          Mark i) same)
      by (inr h) = absurd (h.1 k (sym e))

  pub marks : (B : Opnd → Type 0) (x : Instr) (block : List Instr) → IsBlock place B x block → Marks x block
  marks B x _ (around z0 z1 z2 C y e) = by (tell_mark x) (tell_mark y)
    where
      at_mark : (k : ℕ) (x : Instr) → x ≡ Mark k →
          shape y ≡ reshaped (shape x) (through_for place z0 (to_of (shape x))) (through_for place z1 (first_of
          (shape x))) (through_for place z2 (second_of (shape x))) →
          (fetched_for place z1 (first_of (shape x)) ++ (fetched_for place z2 (second_of (shape x)) ++ (y
          ∷ kept_for place z0 (to_of (shape x))))) ≡ Mark k ∷ []
      at_mark k x h =
          subst (λ i. shape y ≡ reshaped (shape i) (through_for place z0 (to_of (shape i))) (through_for place z1
          (first_of (shape i))) (through_for place z2 (second_of (shape i))) →
          (fetched_for place z1 (first_of (shape i)) ++ (fetched_for place z2 (second_of (shape i)) ++ (y
          ∷ kept_for place z0 (to_of (shape i))))) ≡ Mark k ∷ []) (sym h)
          (λ g. mark_alone k z0 z1 z2 y g)

      by : IsMark x ⊎ IsNone x → IsMark y ⊎ IsNone y →
          Marks x (fetched_for place z1 (first_of (shape x)) ++ (fetched_for place z2 (second_of (shape x)) ++ (y
          ∷ kept_for place z0 (to_of (shape x)))))
      by (inl h) g = inl (h.0, h.1, at_mark h.0 x h.1 e)
      by (inr h) (inl g) = absurd (h.1 g.0 (not_here (shape x) _ _ _ g.0 (ap shape (sym g.1) ∙ e)))
      by (inr h) (inr g) =
          inr (
            h.0,
            λ m l.
                past_fetched_for z1 (first_of (shape x)) (fetched_for place z2 (second_of (shape x)) ++ (y
                ∷ kept_for place z0 (to_of (shape x)))) l m
                ∙ (past_fetched_for z2 (second_of (shape x)) (y ∷ kept_for place z0 (to_of (shape x))) l m
                ∙ (g.0 m (kept_for place z0 (to_of (shape x)) ++ l) ∙ past_kept_for z0 (to_of (shape x)) m l)),
          )
  marks B x _ (falls_away d o e h) = of_move x [] d o e (λ m l. refl)
  marks B x _ (load d o y k e h g) = of_move x _ d o e (λ m l. refl)
  marks B x _ (store d o y k e h g) = of_move x _ d o e (λ m l. refl)
  marks B x _ (both d o z j k e p c h g) = of_move x _ d o e (λ m l. refl)

  -- What is live before each suffix of a code.
  module _ (Live : List Instr → Opnd → Type 0) where
    abbrev Standing : List Instr → Blocks → Type 0
    Standing = Stands place Live

    -- charges, which go on to cover what stands after a mark
    module _ (charge charge' : Charge) where
      abbrev pub FoundBehind : (m : ℕ) → (l : List Instr) → Blocks → (all r : List Instr) → Type 0
      FoundBehind m l blocks all r =
          (behind_it : Blocks) × (behind m (code_of blocks) ≡ Some (code_of behind_it)) × Standing r behind_it × IsRest all r ×
          (Covers charge l charge' blocks → Covers charge r charge' behind_it)

      at_the_mark : (m k : ℕ) (all l r : List Instr) (blocks : Blocks) → IsRest all l → Standing l blocks →
          (behind m l ≡ Some r → FoundBehind m l blocks all r) →
          behind m (Mark k ∷ l) ≡ Some r → FoundBehind m (Mark k ∷ l) ((Mark k ∷ []) ∷ blocks) all r
      at_the_mark m k all l r blocks i h f = by (k == m)
        where
          by : (b : Bool) → (if b then Some l else behind m l) ≡ Some r →
              (behind_it : Blocks) × ((if b then Some (code_of blocks) else behind m (code_of blocks)) ≡ Some (code_of behind_it)) ×
              Standing r behind_it × IsRest all r ×
              (Covers charge (Mark k ∷ l) charge' ((Mark k ∷ []) ∷ blocks) → Covers charge r charge' behind_it)
          by true e =
              let same = some_is l r e in (
                blocks,
                refl,
                subst (λ q. Standing q blocks) same h,
                subst (IsRest all) same i,
                λ c. subst (λ q. Covers charge q charge' blocks) same c.1,
              )
          by false e = let z = f e in (z.0, z.1, z.2, z.3, λ c. z.4 c.1)

      one_behind : (m : ℕ) (x : Instr) (block : List Instr) (all l r : List Instr) (blocks : Blocks) → Marks x block → IsRest all l →
          Standing l blocks → (behind m l ≡ Some r → FoundBehind m l blocks all r) → behind m (x ∷ l) ≡ Some r →
          FoundBehind m (x ∷ l) (block ∷ blocks) all r
      one_behind m x block all l r blocks (inl h) i st f e =
          subst (λ y. behind m (y ∷ l) ≡ Some r → FoundBehind m (y ∷ l) (block ∷ blocks) all r) (sym h.1)
          (subst (λ b. behind m (Mark h.0 ∷ l) ≡ Some r → FoundBehind m (Mark h.0 ∷ l) (b ∷ blocks) all r) (sym h.2)
          (at_the_mark m h.0 all l r blocks i st f)) e
      one_behind m x block all l r blocks (inr h) i st f e =
          let z = f (sym (h.0 m l) ∙ e) in (z.0, h.1 m (code_of blocks) ∙ z.1, z.2, z.3, λ c. z.4 c.1)

      pub stands_behind : (m : ℕ) (all l : List Instr) (blocks : Blocks) → Standing l blocks → IsRest all l → (r : List Instr) →
          behind m l ≡ Some r → FoundBehind m l blocks all r
      stands_behind m all _ _ nothing i r e = cc
      stands_behind m all _ _ (a_block x block l blocks b h) i r e =
          one_behind m x block all l r blocks (marks (Live (x ∷ l)) x block b) (next x l i) h
          (λ e1. stands_behind m all l blocks h (next x l i) r e1) e
