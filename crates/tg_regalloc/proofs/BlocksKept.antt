-- A round that gives slots to blocks leaves blocks.
use Rattle.std.proofs.Common.{lit≤}
use Rattle.std.proofs.Common.{ℕ, ◌≡◌, ◌≤◌, ◌<◌, ◌+◌, List, [], ◌∷◌, ◌++◌, Bool, true, false, cond, Option, Some, None, length, refl, ap, sym, subst}
use Rattle.std.proofs.Common.{◌∙◌, arith, ⊎_elim, append_assoc}
use Rattle.std.specs.Prelude.{IsTrue, IsFalse, nat_lt}
use Rattle.std.proofs.lemmas.Bool.{le-ltb}
use Rattle.std.proofs.lemmas.List.{length-append}
use Rattle.tg_instr.specs.declared.operands.Opnd.{Opnd}
use Rattle.tg_instr.specs.declared.operands.Opnd.TheVariants.{Temp, Reg}
use Rattle.tg_instr.specs.declared.instr.Instr.{Instr}
use Rattle.tg_instr.specs.declared.instr.Instr.TheVariants.{Move, FrameLoad, FrameStore}
use Rattle.tg_instr.specs.declared.renaming.Named.{Named}
use Rattle.tg_instr.specs.Renaming.{names, named, renamed}
use Rattle.tg_regalloc.specs.declared.placing.Placed.{Placed}
use Rattle.tg_regalloc.specs.laws.Growth.{steps, blocks_rewritten}
use Rattle.tg_regalloc.specs.Rewriting.{loads, stores, drawn_for, drawn, in_slot, placed, target, first_use, second_use, next_after}
use Rattle.tg_regalloc.specs.Rewriting.{instruction_rewritten, code_rewritten, temps_after}
use Rattle.tg_regalloc.proofs.Renamed.{temp, is_move, replaced, named_placed, words_renamed, steps_renamed, move_renamed, temps_append, temps_rise, code_append}
use Rattle.tg_regalloc.proofs.Blocks.{is_outer, Known, IsClosed, IsOpen, IsFinal, AreFinal, IsFit, IsFitNamed, operands, outer_in, outers, IsCore}
use Rattle.tg_regalloc.proofs.Blocks.{IsBlock, AreBlocks, code_of}
use Rattle.tg_regalloc.proofs.Blocks.{slot_at, IsSlotting, unless_slotted, if_outer, partner_between, partner_kept, partner_made, ArePartners, Follows}
use Rattle.tg_regalloc.proofs.Blocks.IsFinal.{load, store, between}
use Rattle.tg_regalloc.proofs.Blocks.IsFit.{outer, closed}
use Rattle.tg_regalloc.proofs.Blocks.IsBlock.{straight, whole, loaded, stored, final}
use Rattle.tg_regalloc.proofs.Blocks.AreBlocks.{none, also}

-- a block after a round, and the temporaries that it may still draw
pub record Goes (n : ℕ) (k : Known) (one : Instr) (block : List Instr) (next end left : ℕ) : Type 0 where
  pub still : ℕ
  pub is_block : IsBlock n k one block still
  pub budget : still + end ≤ left + next

-- How an access and a move are rewritten, by the slots of their operands.

abbrev move_by : (next : ℕ) → (x y : Opnd) → (s s' : Option ℕ) → List Instr
move_by next x y s s' =
    let to = in_slot next x s in
    let from = in_slot (next + drawn to) y s' in
    loads from.operand from.slot ++ (Move to.operand from.operand ∷ stores to.operand to.slot)

abbrev after_move : (next : ℕ) → (x y : Opnd) → (s s' : Option ℕ) → ℕ
after_move next x y s s' =
    let to = in_slot next x s in
    next + drawn to + drawn (in_slot (next + drawn to) y s') + drawn_for None

abbrev load_by : (next m slot : ℕ) → (s : Option ℕ) → List Instr
load_by next m slot s =
    let to = in_slot next (temp m) s in
    FrameLoad to.operand slot ∷ stores to.operand to.slot

abbrev after_load : (next m : ℕ) → (s : Option ℕ) → ℕ
after_load next m s = next + drawn (in_slot next (temp m) s) + drawn_for None + drawn_for None

abbrev store_by : (next m slot : ℕ) → (s : Option ℕ) → List Instr
store_by next m slot s =
    let from = in_slot (next + drawn_for None) (temp m) s in
    loads from.operand from.slot ++ (FrameStore from.operand slot ∷ [])

abbrev after_store : (next m : ℕ) → (s : Option ℕ) → ℕ
after_store next m s = next + drawn_for None + drawn (in_slot (next + drawn_for None) (temp m) s) + drawn_for None

no_slot : {j : ℕ} → ◌≡◌ {A = Option ℕ} None (Some j) → ⊥
no_slot e = cc

module _ (n : ℕ) (slot_of : ℕ → Option ℕ) (k k' : Known) (fits : IsSlotting n k slot_of) (follows : Follows n slot_of k k')
    (made : n ≤ k.bound) where
  -- What is known stays so.

  closed_on : (m : ℕ) → IsClosed n k m → IsClosed n k' m
  closed_on m h =
      let b = h.below in
      let g = follows.grows in
      record { made = h.made; below = omega arith; alone = follows.old m h.below ∙ ap (partner_kept n slot_of) h.alone }

  open_on : (m : ℕ) (a : Opnd) → slot_at slot_of a ≡ None → IsOpen n k m a → IsOpen n k' m a
  open_on m a e h =
      let b = h.below in
      let g = follows.grows in
      record {
        made = h.made;
        below = omega arith;
        beside = follows.old m h.below ∙ (ap (partner_kept n slot_of) h.beside ∙ ap (λ s. unless_slotted s a) e);
        outer = h.outer;
      }

  open_closed : (m : ℕ) (a : Opnd) (j : ℕ) → slot_at slot_of a ≡ Some j → IsOpen n k m a → IsClosed n k' m
  open_closed m a j e h =
      let b = h.below in
      let g = follows.grows in
      record {
        made = h.made;
        below = omega arith;
        alone = follows.old m h.below ∙ (ap (partner_kept n slot_of) h.beside ∙ ap (λ s. unless_slotted s a) e);
      }

  final_on : (one : Instr) → IsFinal n k one → IsFinal n k' one
  final_on _ (load m slot h) = load m slot (closed_on m h)
  final_on _ (store m slot h) = store m slot (closed_on m h)
  final_on _ (between to from h i) = between to from (closed_on to h) (closed_on from i)

  finals_on : (list : List Instr) → AreFinal n k list → AreFinal n k' list
  finals_on [] h = tt
  finals_on (one ∷ rest) h = (final_on one h.0, finals_on rest h.1)

  -- Final instructions stay.

  final_stays : (one : Instr) (next : ℕ) → IsFinal n k one → (instruction_rewritten slot_of one next ≡ one ∷ []) × (next_after slot_of one next ≡ next)
  final_stays _ next (load m slot h) =
      (ap (load_by next m slot) (fits.closed m h), ap (after_load next m) (fits.closed m h) ∙ omega arith)
  final_stays _ next (store m slot h) =
      (ap (store_by next m slot) (fits.closed m h), ap (after_store next m) (fits.closed m h) ∙ omega arith)
  final_stays _ next (between to from h i) = (
    ap (λ s. move_by next (temp to) (temp from) s (slot_of from)) (fits.closed to h) ∙
        ap (λ s. move_by next (temp to) (temp from) None s) (fits.closed from i),
    ap (λ s. after_move next (temp to) (temp from) s (slot_of from)) (fits.closed to h) ∙
        (ap (λ s. after_move next (temp to) (temp from) None s) (fits.closed from i) ∙ omega arith),
  )

  finals_stay : (list : List Instr) (next : ℕ) → AreFinal n k list → (code_rewritten slot_of list next ≡ list) × (temps_after slot_of list next ≡ next)
  finals_stay [] next h = (refl, refl)
  finals_stay (one ∷ rest) next h =
      let s = final_stays one next h.0 in
      let r = finals_stay rest next h.1 in (
        ap (λ l. l ++ code_rewritten slot_of rest (next_after slot_of one next)) s.0 ∙
            (ap (λ m. one ∷ code_rewritten slot_of rest m) s.1 ∙ ap (λ l. one ∷ l) r.0),
        ap (temps_after slot_of rest) s.1 ∙ r.1,
      )

  partners_behind : (xs ys : List Instr) (at : ℕ) → ArePartners n slot_of (xs ++ ys) at k'.partner →
      ArePartners n slot_of ys (temps_after slot_of xs at) k'.partner
  partners_behind [] ys at p = p
  partners_behind (x ∷ xs) ys at p = partners_behind xs ys (next_after slot_of x at) p.1

  partners_before : (xs ys : List Instr) (at : ℕ) → ArePartners n slot_of (xs ++ ys) at k'.partner → ArePartners n slot_of xs at k'.partner
  partners_before [] ys at p = tt
  partners_before (x ∷ xs) ys at p = (p.0, partners_before xs ys (next_after slot_of x at) p.1)

  -- One block.
  module _ (next : ℕ) (from_bound : k.bound ≤ next) where
    -- a temporary that was just made
    fresh : (e : ℕ) → next ≤ e → e < k'.bound → k'.partner e ≡ None → IsClosed n k' e
    fresh e l b h = record { made = omega (arith, made, from_bound, l); below = b; alone = h }

    fresh_open : (e : ℕ) (a : Opnd) → next ≤ e → e < k'.bound → IsTrue (is_outer n a) → k'.partner e ≡ if_outer n a → IsOpen n k' e a
    fresh_open e a l b o h =
        record {
          made = omega (arith, made, from_bound, l);
          below = b;
          beside = h ∙ ap (λ t. cond t (Some a) None) o;
          outer = o;
        }

    whole_by : (to from x y : Opnd) → IsTrue (is_outer n x) → IsTrue (is_outer n y) → (s s' : Option ℕ) →
        ((m : ℕ) → next ≤ m → m < after_move next x y s s' → k'.partner m ≡ partner_between n s s' x y) →
        after_move next x y s s' ≤ k'.bound →
        Goes n k' (Move to from) (move_by next x y s s' ++ []) next (after_move next x y s s') 4
    whole_by to from x y hx hy None None p l = record { still = 4; is_block = whole to from x y hx hy; budget = omega arith }
    whole_by to from x y hx hy (Some i) None p l =
        record {
          still = 3;
          is_block = stored to from y next i (fresh_open next y (omega arith) (omega arith) hy (p next (omega arith) (omega arith)));
          budget = omega arith;
        }
    whole_by to from x y hx hy None (Some j) p l =
        record {
          still = 3;
          is_block = loaded to from x (next + 0) j
              (fresh_open (next + 0) x (omega arith) (omega arith) hx (p (next + 0) (omega arith) (omega arith)));
          budget = omega arith;
        }
    whole_by to from x y hx hy (Some i) (Some j) p l =
        let a = fresh next (omega arith) (omega arith) (p next (omega arith) (omega arith)) in
        let b = fresh (next + 1) (omega arith) (omega arith) (p (next + 1) (omega arith) (omega arith)) in
        record {
          still = 0;
          is_block = final to from _ (load (next + 1) j b, (between next (next + 1) a b, (store next i a, tt))) (lit≤ tt) (lit≤ tt);
          budget = omega arith;
        }

    whole_goes : (to from x y : Opnd) → IsTrue (is_outer n x) → IsTrue (is_outer n y) →
        ArePartners n slot_of (Move x y ∷ []) next k'.partner → temps_after slot_of (Move x y ∷ []) next ≤ k'.bound →
        Goes n k' (Move to from) (code_rewritten slot_of (Move x y ∷ []) next) next (temps_after slot_of (Move x y ∷ []) next) 4
    whole_goes to from (Temp t) (Temp u) hx hy p l = whole_by to from (Temp t) (Temp u) hx hy (slot_of t.0) (slot_of u.0) p.0 l
    whole_goes to from (Temp t) (Reg r) hx hy p l = whole_by to from (Temp t) (Reg r) hx hy (slot_of t.0) None p.0 l
    whole_goes to from (Reg r) (Temp t) hx hy p l = whole_by to from (Reg r) (Temp t) hx hy None (slot_of t.0) p.0 l
    whole_goes to from (Reg r) (Reg q) hx hy p l = whole_by to from (Reg r) (Reg q) hx hy None None p.0 l

    -- a made temporary is none of those handed in
    not_outer : (m : ℕ) → n ≤ m → if_outer n (temp m) ≡ None
    not_outer m l = ap (λ t. cond t (Some (temp m)) None) (le-ltb m n l)

    loaded_by : (to from a : Opnd) (m slot : ℕ) → IsOpen n k m a → (s sa : Option ℕ) → slot_of m ≡ s → slot_at slot_of a ≡ sa →
        ((e : ℕ) → next ≤ e → e < after_load next m s → k'.partner e ≡ None) →
        ((e : ℕ) → after_load next m s ≤ e → e < after_move (after_load next m s) a (temp m) sa s → k'.partner e ≡ partner_between n sa s a (temp m)) →
        after_move (after_load next m s) a (temp m) sa s ≤ k'.bound →
        Goes n k' (Move to from) (load_by next m slot s ++ (move_by (after_load next m s) a (temp m) sa s ++ [])) next
        (after_move (after_load next m s) a (temp m) sa s) 3
    loaded_by to from a m slot h None None e ea p q l =
        record { still = 3; is_block = loaded to from a m slot (open_on m a ea h); budget = omega arith }
    loaded_by to from a m slot h None (Some j) e ea p q l =
        let c = open_closed m a j ea h in
        let d = fresh (next + 0 + 0 + 0) (omega arith) (omega arith) (q (next + 0 + 0 + 0) (omega arith) (omega arith) ∙ not_outer m h.made) in
        record {
          still = 0;
          is_block = final to from _ (load m slot c, (between (next + 0 + 0 + 0) m d c, (store (next + 0 + 0 + 0) j d, tt))) (lit≤ tt) (lit≤ tt);
          budget = omega arith;
        }
    loaded_by to from a m slot h (Some i) None e ea p q l =
        absurd (⊎_elim (λ t. no_slot (sym t ∙ e)) (λ t. no_slot (sym ea ∙ (sym t ∙ e))) (fits.beside m a h))
    loaded_by to from a m slot h (Some i) (Some j) e ea p q l =
        let c = fresh next (omega arith) (omega arith) (p next (omega arith) (omega arith)) in
        let d = fresh (next + 1 + 0 + 0) (omega arith) (omega arith) (q (next + 1 + 0 + 0) (omega arith) (omega arith)) in
        let d' = fresh (next + 1 + 0 + 0 + 1) (omega arith) (omega arith) (q (next + 1 + 0 + 0 + 1) (omega arith) (omega arith)) in
        record {
          still = 0;
          is_block = final to from _ (
            load next slot c,
            (
              store next i c,
              (
                load (next + 1 + 0 + 0 + 1) i d',
                (between (next + 1 + 0 + 0) (next + 1 + 0 + 0 + 1) d d', (store (next + 1 + 0 + 0) j d, tt)),
              ),
            ),
          ) (lit≤ tt) (lit≤ tt);
          budget = omega arith;
        }

    loaded_goes : (to from a : Opnd) (m slot : ℕ) → IsOpen n k m a →
        ArePartners n slot_of (FrameLoad (temp m) slot ∷ Move a (temp m) ∷ []) next k'.partner →
        temps_after slot_of (FrameLoad (temp m) slot ∷ Move a (temp m) ∷ []) next ≤ k'.bound →
        Goes n k' (Move to from) (code_rewritten slot_of (FrameLoad (temp m) slot ∷ Move a (temp m) ∷ []) next) next
        (temps_after slot_of (FrameLoad (temp m) slot ∷ Move a (temp m) ∷ []) next) 3
    loaded_goes to from (Temp t) m slot h p l =
        let q = partners_behind (FrameLoad (temp m) slot ∷ []) (Move (Temp t) (temp m) ∷ []) next p in
        loaded_by to from (Temp t) m slot h (slot_of m) (slot_of t.0) refl refl p.0 q.0 l
    loaded_goes to from (Reg r) m slot h p l =
        let q = partners_behind (FrameLoad (temp m) slot ∷ []) (Move (Reg r) (temp m) ∷ []) next p in
        loaded_by to from (Reg r) m slot h (slot_of m) None refl refl p.0 q.0 l

    stored_by : (to from a : Opnd) (m slot : ℕ) → IsOpen n k m a → (s sa : Option ℕ) → slot_of m ≡ s → slot_at slot_of a ≡ sa →
        ((e : ℕ) → next ≤ e → e < after_move next (temp m) a s sa → k'.partner e ≡ partner_between n s sa (temp m) a) →
        ((e : ℕ) → after_move next (temp m) a s sa ≤ e → e < after_store (after_move next (temp m) a s sa) m s → k'.partner e ≡ None) →
        after_store (after_move next (temp m) a s sa) m s ≤ k'.bound →
        Goes n k' (Move to from) (move_by next (temp m) a s sa ++ (store_by (after_move next (temp m) a s sa) m slot s ++ [])) next
        (after_store (after_move next (temp m) a s sa) m s) 3
    stored_by to from a m slot h None None e ea p q l =
        record { still = 3; is_block = stored to from a m slot (open_on m a ea h); budget = omega arith }
    stored_by to from a m slot h None (Some j) e ea p q l =
        let c = open_closed m a j ea h in
        let d = fresh (next + 0) (omega arith) (omega arith) (p (next + 0) (omega arith) (omega arith) ∙ not_outer m h.made) in
        record {
          still = 0;
          is_block = final to from _ (load (next + 0) j d, (between m (next + 0) c d, (store m slot c, tt))) (lit≤ tt) (lit≤ tt);
          budget = omega arith;
        }
    stored_by to from a m slot h (Some i) None e ea p q l =
        absurd (⊎_elim (λ t. no_slot (sym t ∙ e)) (λ t. no_slot (sym ea ∙ (sym t ∙ e))) (fits.beside m a h))
    stored_by to from a m slot h (Some i) (Some j) e ea p q l =
        let c = fresh next (omega arith) (omega arith) (p next (omega arith) (omega arith)) in
        let d = fresh (next + 1) (omega arith) (omega arith) (p (next + 1) (omega arith) (omega arith)) in
        let f = fresh (next + 1 + 1 + 0 + 0) (omega arith) (omega arith) (q (next + 1 + 1 + 0 + 0) (omega arith) (omega arith)) in
        record {
          still = 0;
          is_block = final to from _ (
            load (next + 1) j d,
            (
              between next (next + 1) c d,
              (
                store next i c,
                (load (next + 1 + 1 + 0 + 0) i f, (store (next + 1 + 1 + 0 + 0) slot f, tt)),
              ),
            ),
          ) (lit≤ tt) (lit≤ tt);
          budget = omega arith;
        }

    stored_goes : (to from a : Opnd) (m slot : ℕ) → IsOpen n k m a →
        ArePartners n slot_of (Move (temp m) a ∷ FrameStore (temp m) slot ∷ []) next k'.partner →
        temps_after slot_of (Move (temp m) a ∷ FrameStore (temp m) slot ∷ []) next ≤ k'.bound →
        Goes n k' (Move to from) (code_rewritten slot_of (Move (temp m) a ∷ FrameStore (temp m) slot ∷ []) next) next
        (temps_after slot_of (Move (temp m) a ∷ FrameStore (temp m) slot ∷ []) next) 3
    stored_goes to from (Temp t) m slot h p l =
        let q = partners_behind (Move (temp m) (Temp t) ∷ []) (FrameStore (temp m) slot ∷ []) next p in
        stored_by to from (Temp t) m slot h (slot_of m) (slot_of t.0) refl refl p.0 q.0 l
    stored_goes to from (Reg r) m slot h p l =
        let q = partners_behind (Move (temp m) (Reg r) ∷ []) (FrameStore (temp m) slot ∷ []) next p in
        stored_by to from (Reg r) m slot h (slot_of m) None refl refl p.0 q.0 l

    final_goes : (to from : Opnd) (list : List Instr) → AreFinal n k list → length list ≤ 5 → steps list ≤ 13 →
        Goes n k' (Move to from) (code_rewritten slot_of list next) next (temps_after slot_of list next) 0
    final_goes to from list h l w =
        let s = finals_stay list next h in
        let e = s.1 in
        record {
          still = 0;
          is_block = subst (λ xs. IsBlock n k' (Move to from) xs 0) (sym s.0) (final to from list (finals_on list h) l w);
          budget = omega arith;
        }

    -- An operand of an instruction that is no move.

    record Places (o : Option Opnd) (p : Placed) : Type 0 where
      fit : IsFitNamed n k' (replaced p.operand o)
      loads_final : AreFinal n k' (loads p.operand p.slot)
      stores_final : AreFinal n k' (stores p.operand p.slot)
      fewer : outer_in n (replaced p.operand o) + drawn p ≤ outer_in n o
      loads_drawn : length (loads p.operand p.slot) ≡ drawn p
      stores_drawn : length (stores p.operand p.slot) ≡ drawn p

    fit_on : (x : Opnd) → IsFit n k x → IsFit n k' x
    fit_on _ (outer x h) = outer x h
    fit_on _ (closed m h) = closed m (closed_on m h)

    stays_there : (x : Opnd) → IsFit n k x → Places (Some x) (in_slot next x None)
    stays_there x h = record {
      fit = fit_on x h;
      loads_final = tt;
      stores_final = tt;
      fewer = omega arith;
      loads_drawn = refl;
      stores_drawn = refl;
    }

    bit_true : (t : Bool) → t ≡ true → 1 ≤ cond t 1 0
    bit_true true e = omega arith
    bit_true false e = cc

    bit_false : (t : Bool) → t ≡ false → cond t 1 0 ≤ 0
    bit_false true e = cc
    bit_false false e = omega arith

    goes_to_slot : (t : ℕ) (e j : ℕ) → IsTrue (is_outer n (temp t)) → IsClosed n k' e → Places (Some (temp t)) (in_slot e (temp t) (Some j))
    goes_to_slot t e j h c =
        let a = bit_true (nat_lt t n) h in
        let b = bit_false (nat_lt e n) (le-ltb e n c.made) in
        record {
          fit = closed e c;
          loads_final = (load e j c, tt);
          stores_final = (store e j c, tt);
          fewer = omega (arith, a, b);
          loads_drawn = refl;
          stores_drawn = refl;
        }

    placed_by : (x : Opnd) (e : ℕ) → IsFit n k x → (s : Option ℕ) → slot_at slot_of x ≡ s → next ≤ e →
        ((m : ℕ) → e ≤ m → m < e + drawn (in_slot e x s) → k'.partner m ≡ None) → e + drawn (in_slot e x s) ≤ k'.bound →
        Places (Some x) (in_slot e x s)
    placed_by x e h None i l p b = stays_there x h
    placed_by _ e (outer (Temp t) h) (Some j) i l p b =
        goes_to_slot t.0 e j h (fresh e l (omega arith) (p e (omega arith) (omega arith)))
    placed_by _ e (outer (Reg r) h) (Some j) i l p b = absurd (no_slot i)
    placed_by _ e (closed m h) (Some j) i l p b = absurd (no_slot (sym (fits.closed m h) ∙ i))

    places : (o : Option Opnd) (e : ℕ) → IsFitNamed n k o → next ≤ e →
        ((m : ℕ) → e ≤ m → m < e + drawn (placed slot_of o e) → k'.partner m ≡ None) → e + drawn (placed slot_of o e) ≤ k'.bound →
        Places o (placed slot_of o e)
    places None e h l p b = record {
      fit = tt;
      loads_final = tt;
      stores_final = tt;
      fewer = omega arith;
      loads_drawn = refl;
      stores_drawn = refl;
    }
    places (Some (Temp t)) e h l p b = placed_by (Temp t) e h (slot_of t.0) refl l p b
    places (Some (Reg r)) e h l p b = placed_by (Reg r) e h None refl l p b

    both_final : (xs ys : List Instr) → AreFinal n k' xs → AreFinal n k' ys → AreFinal n k' (xs ++ ys)
    both_final [] ys h i = i
    both_final (x ∷ xs) ys h i = (h.0, both_final xs ys h.1 i)

    made_none : (one : Instr) → IsFalse (is_move one) → partner_made n slot_of one ≡ None
    made_none (Move to from) h = cc
    made_none _ h = refl

    core_goes : (one core : Instr) (before after : List Instr) → IsFalse (is_move one) → IsCore n k one core →
        AreFinal n k before → AreFinal n k after → length before + length after + outers n (named core) ≤ operands (named one) →
        ((m : ℕ) → next ≤ m → m < next_after slot_of core next → k'.partner m ≡ None) → next_after slot_of core next ≤ k'.bound →
        Goes n k' one (before ++ (instruction_rewritten slot_of core next ++ after)) next (next_after slot_of core next) (outers n (named core))
    core_goes one core before after calm h hb ha count p b =
        record {
          still = outers n (named y);
          is_block = subst (λ xs. IsBlock n k' one xs (outers n (named y))) same
              (straight one y (before ++ (l1 ++ l2)) (st ++ after) calm is_core
              (both_final before (l1 ++ l2) (finals_on before hb) (both_final l1 l2 c2.loads_final c3.loads_final))
              (both_final st after c1.stores_final (finals_on after ha)) fits_in);
          budget = let e = outers_are in let f1 = c1.fewer in let f2 = c2.fewer in let f3 = c3.fewer in omega arith;
        }
      where
        to : Placed
        to = target slot_of core next

        first : Placed
        first = first_use slot_of core next

        second : Placed
        second = second_use slot_of core next

        y : Instr
        y = renamed core (target slot_of core next).operand (first_use slot_of core next).operand (second_use slot_of core next).operand

        l1 : List Instr
        l1 = loads (first_use slot_of core next).operand (first_use slot_of core next).slot

        l2 : List Instr
        l2 = loads (second_use slot_of core next).operand (second_use slot_of core next).slot

        st : List Instr
        st = stores (target slot_of core next).operand (target slot_of core next).slot

        c1 : Places (named core).to (target slot_of core next)
        c1 = places (named core).to next h.to (omega arith) (λ m l u. p m l (omega arith)) (omega arith)

        c2 : Places (named core).first (first_use slot_of core next)
        c2 =
            places (named core).first (next + drawn (target slot_of core next)) h.first (omega arith)
            (λ m l u. p m (omega arith) (omega arith)) (omega arith)

        c3 : Places (named core).second (second_use slot_of core next)
        c3 =
            places (named core).second (next + drawn (target slot_of core next) + drawn (first_use slot_of core next)) h.second (omega arith)
            (λ m l u. p m (omega arith) (omega arith)) (omega arith)

        named_is : named y ≡ names (replaced (target slot_of core next).operand (named core).to)
            (replaced (first_use slot_of core next).operand (named core).first) (replaced (second_use slot_of core next).operand (named core).second)
        named_is = named_placed slot_of core next

        is_core : IsCore n k' one y
        is_core = record {
          no_move = move_renamed core _ _ _ ∙ h.no_move;
          words = words_renamed core _ _ _ ∙ h.words;
          steps = steps_renamed core _ _ _ ∙ h.steps;
          to = subst (λ (x : Named). IsFitNamed n k' x.to) (sym named_is) c1.fit;
          first = subst (λ (x : Named). IsFitNamed n k' x.first) (sym named_is) c2.fit;
          second = subst (λ (x : Named). IsFitNamed n k' x.second) (sym named_is) c3.fit;
        }

        outers_are : outers n (named y) ≡ outer_in n (replaced (target slot_of core next).operand (named core).to) +
            outer_in n (replaced (first_use slot_of core next).operand (named core).first) +
            outer_in n (replaced (second_use slot_of core next).operand (named core).second)
        outers_are = ap (outers n) named_is

        fits_in : length (before ++ (l1 ++ l2)) + length (st ++ after) + outers n (named y) ≤ operands (named one)
        fits_in =
            let a1 = length-append before (l1 ++ l2) in
            let a2 = length-append l1 l2 in
            let a3 = length-append st after in
            let d1 = c2.loads_drawn in
            let d2 = c3.loads_drawn in
            let d3 = c1.stores_drawn in
            let f1 = c1.fewer in
            let f2 = c2.fewer in
            let f3 = c3.fewer in
            let e = outers_are in
            omega (arith, a1, a2, a3, d1, d2, d3, f1, f2, f3, e, count)

        same : (before ++ (l1 ++ l2)) ++ (y ∷ (st ++ after)) ≡ before ++ (instruction_rewritten slot_of core next ++ after)
        same =
            append_assoc before (l1 ++ l2) (y ∷ (st ++ after)) ∙ ap (λ xs. before ++ xs)
            (append_assoc l1 l2 (y ∷ (st ++ after)) ∙
            sym (append_assoc l1 (l2 ++ (y ∷ st)) after ∙ ap (λ xs. l1 ++ xs) (append_assoc l2 (y ∷ st) after)))

    straight_goes : (one core : Instr) (before after : List Instr) → IsFalse (is_move one) → IsCore n k one core →
        AreFinal n k before → AreFinal n k after → length before + length after + outers n (named core) ≤ operands (named one) →
        ArePartners n slot_of (before ++ (core ∷ after)) next k'.partner → temps_after slot_of (before ++ (core ∷ after)) next ≤ k'.bound →
        Goes n k' one (code_rewritten slot_of (before ++ (core ∷ after)) next) next (temps_after slot_of (before ++ (core ∷ after)) next)
        (outers n (named core))
    straight_goes one core before after calm h hb ha count p b =
        subst (λ e. Goes n k' one (code_rewritten slot_of (before ++ (core ∷ after)) next) next e (outers n (named core))) (sym end)
        (subst (λ xs. Goes n k' one xs next (next_after slot_of core next) (outers n (named core))) (sym list)
        (core_goes one core before after calm h hb ha count partners (subst (λ e. e ≤ k'.bound) end b)))
      where
        kept : (code_rewritten slot_of before next ≡ before) × (temps_after slot_of before next ≡ next)
        kept = finals_stay before next hb

        behind : (code_rewritten slot_of after (next_after slot_of core next) ≡ after) ×
            (temps_after slot_of after (next_after slot_of core next) ≡ next_after slot_of core next)
        behind = finals_stay after (next_after slot_of core next) ha

        end : temps_after slot_of (before ++ (core ∷ after)) next ≡ next_after slot_of core next
        end = temps_append slot_of before (core ∷ after) next ∙ (ap (temps_after slot_of (core ∷ after)) kept.1 ∙ behind.1)

        list : code_rewritten slot_of (before ++ (core ∷ after)) next ≡ before ++ (instruction_rewritten slot_of core next ++ after)
        list =
            code_append slot_of before (core ∷ after) next ∙
            (ap (λ xs. xs ++ code_rewritten slot_of (core ∷ after) (temps_after slot_of before next)) kept.0 ∙
            (ap (λ e. before ++ code_rewritten slot_of (core ∷ after) e) kept.1 ∙
            ap (λ xs. before ++ (instruction_rewritten slot_of core next ++ xs)) behind.0))

        partners : (m : ℕ) → next ≤ m → m < next_after slot_of core next → k'.partner m ≡ None
        partners m l u =
            (subst (λ e. (m : ℕ) → e ≤ m → m < next_after slot_of core e → k'.partner m ≡ partner_made n slot_of core) kept.1
            (partners_behind before (core ∷ after) next p).0) m l u ∙ made_none core h.no_move

    pub block_goes : {one : Instr} {block : List Instr} {left : ℕ} → IsBlock n k one block left →
        ArePartners n slot_of block next k'.partner → temps_after slot_of block next ≤ k'.bound →
        Goes n k' one (code_rewritten slot_of block next) next (temps_after slot_of block next) left
    block_goes (straight one core before after calm h hb ha count) p b = straight_goes one core before after calm h hb ha count p b
    block_goes (whole to from x y hx hy) p b = whole_goes to from x y hx hy p b
    block_goes (loaded to from a m slot h) p b = loaded_goes to from a m slot h p b
    block_goes (stored to from a m slot h) p b = stored_goes to from a m slot h p b
    block_goes (final to from list h l w) p b = final_goes to from list h l w

  -- All blocks.

  pub record AllGo (originals : List Instr) (blocks : List (List Instr)) (next end left : ℕ) : Type 0 where
    pub still : ℕ
    pub are_blocks : AreBlocks n k' originals blocks still
    pub budget : still + end ≤ left + next

  pub blocks_go : {originals : List Instr} {blocks : List (List Instr)} {left : ℕ} → AreBlocks n k originals blocks left → (next : ℕ) →
      k.bound ≤ next → ArePartners n slot_of (code_of blocks) next k'.partner → temps_after slot_of (code_of blocks) next ≤ k'.bound →
      AllGo originals (blocks_rewritten slot_of blocks next) next (temps_after slot_of (code_of blocks) next) left
  blocks_go none next f p b = record { still = 0; are_blocks = none; budget = omega arith }
  blocks_go (also one block rest blocks left lefts h hs) next f p b =
      let e = temps_append slot_of block (code_of blocks) next in
      let middle = temps_after slot_of block next in
      let rises = temps_rise slot_of block next in
      let rises' = temps_rise slot_of (code_of blocks) middle in
      let here = block_goes next f h (partners_before block (code_of blocks) next p) (omega (arith, e, rises', b)) in
      let behind = blocks_go hs middle (omega (arith, rises, f)) (partners_behind block (code_of blocks) next p) (omega (arith, e, b)) in
      let budget1 = here.budget in
      let budget2 = behind.budget in
      record {
        still = here.still + behind.still;
        are_blocks = also one (code_rewritten slot_of block next) rest (blocks_rewritten slot_of blocks middle) here.still behind.still
            here.is_block behind.are_blocks;
        budget = omega (arith, e, budget1, budget2);
      }
