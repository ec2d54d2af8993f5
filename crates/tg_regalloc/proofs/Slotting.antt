-- A round gives slots so that blocks stay blocks: to no closed temporary, and to one with a partner
-- only together with that.
use Rattle.std.proofs.Common.{ℕ, ◌≡◌, ◌≢◌, ◌≤◌, ◌<◌, ◌+◌, ◌-◌, ◌&&◌, List, [], ◌∷◌, ◌++◌, Bool, true, false, Option, Some, None, length, refl, ap}
use Rattle.std.proofs.Common.{sym, subst, ◌∙◌, arith, ◌⊎◌, inl, inr}
use Rattle.std.specs.Prelude.{All, IsTrue, IsFalse, nat_eq, nat_le, is_none, filter, get_or, if◌then◌else◌}
use Rattle.std.specs.List.{AllByRecursion, position, cons_option}
use Rattle.std.specs.Option.{option_map}
use Rattle.std.proofs.lemmas.Bool.Decides.{nat_tests}
use Rattle.std.proofs.lemmas.Bool.{leb-true, le-leb, lt-ltb, ltb-true}
use Rattle.std.proofs.lemmas.List.Elements.{All-nil, All-cons, All-from_recursion, recursion_from_All}
use Rattle.std.proofs.lemmas.List.Quantifiers.{position-Some}
use Rattle.tg_instr.specs.declared.operands.Opnd.{Opnd}
use Rattle.tg_instr.specs.declared.operands.Opnd.TheVariants.{Temp, Reg}
use Rattle.tg_instr.specs.declared.instr.Instr.{Instr}
use Rattle.tg_instr.specs.declared.instr.Instr.TheVariants.{Move}
use Rattle.tg_instr.specs.Codes.{is_below}
use Rattle.tg_instr.specs.Shapes.{shape}
use Rattle.tg_irc_definition.specs.declared.moves.Move.{Move as MoveBetween}
use Rattle.tg_irc_definition.specs.declared.rounds.Round.{Round}
use Rattle.tg_irc_definition.specs.Policies.{Rule}
use Rattle.tg_irc_definition.specs.States.{Problem}
use Rattle.tg_irc_definition.specs.laws.Laws.{AreNodes, IsTemporary}
use Rattle.tg_irc_definition.specs.laws.Classes.{class_of, HasWholeMoves, IsTouchedFrom, IsAlone}
use Rattle.tg_irc_definition.proofs.Deciding.{both, and_true, same_node}
use Rattle.tg_irc_definition.proofs.AmongNodes.{rounds_are_of_nodes}
use Rattle.tg_irc_definition.proofs.Within.{classes_stay_within, one_neighbour_is_joined}
use Rattle.tg_irc_definition.proofs.Bare.{registers_stand_above}
use Rattle.tg_interference.specs.Nodes.{node_of}
use Rattle.tg_interference.specs.Moves.{between, move_of, moves_of}
use Rattle.tg_regalloc.specs.Rewriting.{is_original, slotted, slot_by, slot_after}
use Rattle.tg_regalloc.specs.Rounds.{BetweenRounds, IsRoundOf, slots_by}
use Rattle.tg_regalloc.specs.laws.Explained.{problem_of}
use Rattle.tg_regalloc.proofs.Sizes.{node_below}
use Rattle.tg_regalloc.proofs.Renamed.{temp, is_move}
use Rattle.tg_regalloc.proofs.Blocks.{is_outer, Known, IsClosed, IsOpen, IsFinal, AreFinal, IsBlock, AreBlocks, code_of, slot_at, IsSlotting}
use Rattle.tg_regalloc.proofs.Blocks.IsFinal.{load, store, between as closed_move}
use Rattle.tg_regalloc.proofs.Blocks.IsBlock.{straight, whole, loaded, stored, final}
use Rattle.tg_regalloc.proofs.Blocks.AreBlocks.{none, also}
use Rattle.tg_regalloc.proofs.OneRound.{HasTempsBelow, is_graph, are_nodes}

-- The nodes of operands, and the moves of a code.

number : Opnd → ℕ
number (Temp t) = t.0
number (Reg r) = 0

same_temp : (i j : ℕ) → temp i ≡ temp j → i ≡ j
unfolding number
same_temp i j e = ap number e

pub some_is : {A : Type 0} {x y : A} → Some x ≡ Some y → x ≡ y
some_is e = cc

nothing_is : {A : Type 0} {x : A} → None ≡ Some x → ⊥
nothing_is e = cc

pub node_of_temp : (t : ℕ) → node_of (temp t) ≡ Some (25 + t)
unfolding node_of
node_of_temp t = refl

-- no register stands at a temporary's node
pub is_temp : (x : Opnd) (m : ℕ) → node_of x ≡ Some (25 + m) → x ≡ temp m
is_temp (Temp t) m e =
    let i : 25 + t.0 ≡ 25 + m = some_is (sym (node_of_temp t.0) ∙ e) in
    let j : t.0 ≡ m = omega arith in
    ap temp j
is_temp (Reg r) m e = let l = node_below 0 (Reg r) refl (25 + m) e in absurd (omega arith)

pub ends_of : (a b : Option ℕ) (m : MoveBetween) → between a b ≡ Some m → (a ≡ Some m.to) × (b ≡ Some m.from)
ends_of (Some to) (Some from) m e = (ap (λ (m : MoveBetween). Some m.to) (some_is e), ap (λ (m : MoveBetween). Some m.from) (some_is e))
ends_of (Some to) None m e = cc
ends_of None b m e = cc

module _ (P : MoveBetween → Type 0) (Q : Instr → Type 0)
    (f : (to from : Opnd) (m : MoveBetween) → Q (Move to from) → between (node_of to) (node_of from) ≡ Some m → P m) where
  one_move : (one : Instr) (m : MoveBetween) → Q one → move_of (shape one) ≡ Some m → P m
  one_move (Move to from) m q e = f to from m q e
  one_move _ m q e = cc

  cons_all : (o : Option MoveBetween) (ms : List MoveBetween) → ((m : MoveBetween) → o ≡ Some m → P m) → All P ms → All P (cons_option o ms)
  cons_all None ms g a = a
  cons_all (Some m) ms g a = All-cons P m ms (g m refl) a

  pub all_moves : (list : List Instr) → AllByRecursion Q list → All P (moves_of list)
  all_moves [] h = All-nil P
  all_moves (x ∷ rest) h = cons_all (move_of (shape x)) (moves_of rest) (λ m e. one_move x m h.0 e) (all_moves rest h.1)

-- The ends of moves of blocks.

pub data HasEnds (n : ℕ) (k : Known) : Opnd → Opnd → Type 0 where
  outers : (x y : Opnd) → IsTrue (is_outer n x) → IsTrue (is_outer n y) → HasEnds n k x y
  into : (m : ℕ) (a : Opnd) → IsOpen n k m a → HasEnds n k a (temp m)
  out_of : (m : ℕ) (a : Opnd) → IsOpen n k m a → HasEnds n k (temp m) a
  inside : (to from : ℕ) → IsClosed n k to → IsClosed n k from → HasEnds n k (temp to) (temp from)

abbrev pub EndsFit : ℕ → Known → Instr → Type 0
EndsFit n k (Move x y) = HasEnds n k x y
EndsFit n k _ = Unit {0}

module _ (n : ℕ) (k : Known) where
  no_ends : (one : Instr) → IsFalse (is_move one) → EndsFit n k one
  no_ends (Move x y) h = cc
  no_ends _ h = tt

  final_ends : (one : Instr) → IsFinal n k one → EndsFit n k one
  final_ends _ (load m slot h) = tt
  final_ends _ (store m slot h) = tt
  final_ends _ (closed_move to from h i) = inside to from h i

  finals_ends : (list : List Instr) → AreFinal n k list → AllByRecursion (EndsFit n k) list
  finals_ends [] h = tt
  finals_ends (one ∷ rest) h = (final_ends one h.0, finals_ends rest h.1)

  both_ends : (xs ys : List Instr) → AllByRecursion (EndsFit n k) xs → AllByRecursion (EndsFit n k) ys → AllByRecursion (EndsFit n k) (xs ++ ys)
  both_ends [] ys h i = i
  both_ends (x ∷ xs) ys h i = (h.0, both_ends xs ys h.1 i)

  block_ends : {one : Instr} {block : List Instr} {left : ℕ} → IsBlock n k one block left → AllByRecursion (EndsFit n k) block
  block_ends (straight one core before after calm h hb ha count) =
      both_ends before (core ∷ after) (finals_ends before hb) (no_ends core h.no_move, finals_ends after ha)
  block_ends (whole to from x y hx hy) = (outers x y hx hy, tt)
  block_ends (loaded to from a m slot h) = (tt, (into m a h, tt))
  block_ends (stored to from a m slot h) = (out_of m a h, (tt, tt))
  block_ends (final to from list h l w) = finals_ends list h

  pub blocks_ends : {originals : List Instr} {blocks : List (List Instr)} {left : ℕ} → AreBlocks n k originals blocks left →
      AllByRecursion (EndsFit n k) (code_of blocks)
  blocks_ends none = tt
  blocks_ends (also one block rest blocks left lefts h hs) = both_ends block (code_of blocks) (block_ends h) (blocks_ends hs)

  -- an operand that was handed in is no made temporary
  not_made : (x : Opnd) (m : ℕ) → IsTrue (is_outer n x) → x ≡ temp m → n ≤ m → ⊥
  not_made x m h e l = let b : m < n = ltb-true m n (subst (λ y. IsTrue (is_below n y)) e h) in omega arith

  same_partner : (m i : ℕ) (a b : Opnd) → k.partner i ≡ Some b → k.partner m ≡ Some a → i ≡ m → b ≡ a
  same_partner m i a b p q e = some_is (sym p ∙ (ap k.partner e ∙ q))

  -- the other end of a move of a temporary with a partner
  ends_at : {x y : Opnd} → HasEnds n k x y → (m : ℕ) (a : Opnd) → IsOpen n k m a → (x ≡ temp m → y ≡ a) × (y ≡ temp m → x ≡ a)
  ends_at (outers x y hx hy) m a o = (λ e. absurd (not_made x m hx e o.made), λ e. absurd (not_made y m hy e o.made))
  ends_at (into i b p) m a o =
      (λ e. absurd (not_made b m p.outer e o.made), λ e. same_partner m i a b p.beside o.beside (same_temp i m e))
  ends_at (out_of i b p) m a o =
      (λ e. same_partner m i a b p.beside o.beside (same_temp i m e), λ e. absurd (not_made b m p.outer e o.made))
  ends_at (inside i j p q) m a o = (
    λ e. absurd (nothing_is (sym p.alone ∙ (ap k.partner (same_temp i m e) ∙ o.beside))),
    λ e. absurd (nothing_is (sym q.alone ∙ (ap k.partner (same_temp j m e) ∙ o.beside))),
  )

  -- the nodes of closed temporaries
  abbrev closed_nodes : ℕ → Bool
  closed_nodes x = nat_le (25 + n) x && is_none (k.partner (x - 25))

  and_none : (b : Bool) → (b && false) ≡ false
  and_none true = refl
  and_none false = refl

  outer_apart : (x : Opnd) (i : ℕ) → IsTrue (is_outer n x) → node_of x ≡ Some i → closed_nodes i ≡ false
  outer_apart x i h e =
      let l = node_below n x h i e in
      ap (λ b. b && is_none (k.partner (i - 25))) (below i l)
    where
      below : (i : ℕ) → i < 25 + n → nat_le (25 + n) i ≡ false
      below i l = grind (arith, nat_tests)

  at_node : (m i : ℕ) → node_of (temp m) ≡ Some i → i ≡ 25 + m
  at_node m i e = some_is (sym e ∙ node_of_temp m)

  partner_at : (m : ℕ) → k.partner ((25 + m) - 25) ≡ k.partner m
  partner_at m = let e : (25 + m) - 25 ≡ m = omega arith in ap k.partner e

  open_apart : (m i : ℕ) (a : Opnd) → IsOpen n k m a → node_of (temp m) ≡ Some i → closed_nodes i ≡ false
  open_apart m i a o e =
      ap closed_nodes (at_node m i e) ∙
      (ap (λ p. nat_le (25 + n) (25 + m) && is_none p) (partner_at m ∙ o.beside) ∙ and_none (nat_le (25 + n) (25 + m)))

  closed_in : (m : ℕ) → IsClosed n k m → closed_nodes (25 + m) ≡ true
  closed_in m h =
      let l = h.made in
      and_true (le-leb (25 + n) (25 + m) (omega arith)) (ap is_none (partner_at m ∙ h.alone))

  whole_ends : {x y : Opnd} → HasEnds n k x y → (i j : ℕ) → node_of x ≡ Some i → node_of y ≡ Some j → closed_nodes i ≡ closed_nodes j
  whole_ends (outers x y hx hy) i j e f = outer_apart x i hx e ∙ sym (outer_apart y j hy f)
  whole_ends (into m a o) i j e f = outer_apart a i o.outer e ∙ sym (open_apart m j a o f)
  whole_ends (out_of m a o) i j e f = open_apart m i a o e ∙ sym (outer_apart a j o.outer f)
  whole_ends (inside to from p q) i j e f =
      (ap closed_nodes (at_node to i e) ∙ closed_in to p) ∙ sym (ap closed_nodes (at_node from j f) ∙ closed_in from q)

-- Slots.

pub filtered : (P : ℕ → Type 0) (p : ℕ → Bool) (xs : List ℕ) → AllByRecursion P xs → AllByRecursion (λ x. P x × (p x ≡ true)) (filter p xs)
filtered P p [] h = tt
filtered P p (x ∷ xs) h = by (p x) refl (filtered P p xs h.1)
  where
    by : (b : Bool) → p x ≡ b → AllByRecursion (λ x. P x × (p x ≡ true)) (filter p xs) →
        AllByRecursion (λ x. P x × (p x ≡ true)) (if b then x ∷ filter p xs else filter p xs)
    by true e r = ((h.0, e), r)
    by false e r = r

module _ (classes : List ℕ) (base x : ℕ) (other : (i : ℕ) → i < length classes → get_or classes i 0 ≢ x) where
  pub slot_none : slot_by classes base x ≡ None
  slot_none = by (position (nat_eq x) classes) refl
    where
      by : (o : Option ℕ) → position (nat_eq x) classes ≡ o → option_map (λ k. base + k) o ≡ None
      by None e = refl
      by (Some i) e =
          let h = position-Some (nat_eq x) classes i 0 e in
          absurd (other i h.0 (sym (same_node x _ h.1)))

module _ (rule : Rule) (n : ℕ) (s : BetweenRounds) (round : Round) (r : IsRoundOf rule n s round) (below : HasTempsBelow s) (some : n ≤ s.temps)
    (partner : ℕ → Option Opnd) where
  abbrev k : Known
  k = record { bound = s.temps; partner = partner }

  abbrev g : Problem
  g = problem_of rule n s r.graph

  nodes : AreNodes g
  nodes = are_nodes rule n s r.graph r.exact below

  -- what is slotted are temporaries that were handed in
  slotted_are : AllByRecursion (λ x. IsTemporary g x × (is_original n x ≡ true)) (slotted n round)
  slotted_are =
      filtered (IsTemporary g) (is_original n) round.spilled
      (recursion_from_All (IsTemporary g) round.spilled (rounds_are_of_nodes g round nodes r.run).spilled)

  made_unslotted : (x : ℕ) → 25 + n ≤ x → slot_by (slotted n round) s.slots x ≡ None
  made_unslotted x l =
      slot_none (slotted n round) s.slots x (λ i u e.
      let h = All-from_recursion (λ x. IsTemporary g x × (is_original n x ≡ true)) (slotted n round) slotted_are i 0 u in
      let b = ltb-true (get_or (slotted n round) i 0) (25 + n) h.1 in
      omega (arith, b, e, l))

  register_unslotted : (x : ℕ) → x < 25 → slot_by (slotted n round) s.slots x ≡ None
  register_unslotted x l =
      slot_none (slotted n round) s.slots x (λ i u e.
      let h = All-from_recursion (λ x. IsTemporary g x × (is_original n x ≡ true)) (slotted n round) slotted_are i 0 u in
      let b = h.0.0 in
      omega (arith, b, e, l))

  is_node : (i : ℕ) → i < 25 + s.temps → i < r.graph.nodes
  is_node i l = subst (λ m. i < m) (sym r.exact.nodes) l

  module _ (ends : AllByRecursion (EndsFit n k) s.list) where
    whole_moves : HasWholeMoves g (closed_nodes n k)
    whole_moves =
        all_moves (λ m. closed_nodes n k m.to ≡ closed_nodes n k m.from)
        (EndsFit n k)
        (λ to from m q e. let b = ends_of (node_of to) (node_of from) m e in
        whole_ends n k q m.to m.from b.0 b.1) s.list ends

    closed_unslotted : (m : ℕ) → IsClosed n k m → slot_after n s.slots round m ≡ None
    closed_unslotted m h =
        let b = h.below in
        let e = classes_stay_within g round r.run (closed_nodes n k) whole_moves (25 + m)
        (is_node (25 + m) (omega arith)) ∙ closed_in n k m h in
        made_unslotted (class_of round (25 + m)) (leb-true (25 + n) (class_of round (25 + m)) (both (nat_le (25 + n) (class_of round (25 + m))) _ e).0)

    -- each move of a temporary with a partner leads to the partner's node
    touched : (m : ℕ) (a : Opnd) (i : ℕ) → IsOpen n k m a →
        ((j : ℕ) → node_of a ≡ Some j → j ≡ i) → IsTouchedFrom g (25 + m) i
    touched m a i o at =
        all_moves (λ (v : MoveBetween). (v.to ≡ 25 + m → v.from ≡ i) × (v.from ≡ 25 + m → v.to ≡ i))
        (EndsFit n k)
        (λ to from v q e. let b = ends_of (node_of to) (node_of from) v e in
        let h = ends_at n k q m a o in (
          λ p. at v.from (sym (ap node_of (h.0 (is_temp to m (b.0 ∙ ap Some p)))) ∙ b.1),
          λ p. at v.to (sym (ap node_of (h.1 (is_temp from m (b.1 ∙ ap Some p)))) ∙ b.0),
        )) s.list ends

    alone_unslotted : (m : ℕ) → n ≤ m → IsAlone g round (25 + m) → slot_after n s.slots round m ≡ None
    alone_unslotted m l h = let e = h.own in made_unslotted (class_of round (25 + m)) (omega (arith, l, e))

    with_register : (m i : ℕ) → n ≤ m → i < 25 → IsAlone g round (25 + m) ⊎ (class_of round (25 + m) ≡ class_of round i) →
        slot_after n s.slots round m ≡ None
    with_register m i l u (inl h) = alone_unslotted m l h
    with_register m i l u (inr e) =
        let own : class_of round i ≡ i = registers_stand_above g round (is_graph r.graph) nodes r.run i
        (is_node i (omega arith)) (lt-ltb i 25 u) in
        register_unslotted (class_of round (25 + m)) (omega (arith, e, own, u))

    beside_unslotted : (m : ℕ) (a : Opnd) → IsOpen n k m a →
        (slot_after n s.slots round m ≡ None) ⊎ (slot_after n s.slots round m ≡ slot_at (slot_after n s.slots round) a)
    beside_unslotted m (Temp t) o =
        let b = o.below in
        let u : t.0 < n = ltb-true t.0 n o.outer in
        by (one_neighbour_is_joined g round r.run (25 + m) (25 + t.0) (is_node (25 + m) (omega arith))
        (is_node (25 + t.0) (omega arith)) (touched m (Temp t) (25 + t.0) o (λ j e. some_is (sym e ∙ node_of_temp t.0))))
      where
        by : IsAlone g round (25 + m) ⊎ (class_of round (25 + m) ≡ class_of round (25 + t.0)) →
            (slot_after n s.slots round m ≡ None) ⊎ (slot_after n s.slots round m ≡ slot_after n s.slots round t.0)
        by (inl h) = inl (alone_unslotted m o.made h)
        by (inr e) = inr (ap (slot_by (slotted n round) s.slots) e)
    beside_unslotted m (Reg q) o = by (node_of (Reg q)) refl
      where
        joined : (i : ℕ) → i < 25 → ((j : ℕ) → node_of (Reg q) ≡ Some j → j ≡ i) → slot_after n s.slots round m ≡ None
        joined i u at =
            let b = o.below in
            with_register m i o.made u (one_neighbour_is_joined g round r.run (25 + m) i
            (is_node (25 + m) (omega arith)) (is_node i (omega arith)) (touched m (Reg q) i o at))

        by : (x : Option ℕ) → node_of (Reg q) ≡ x → (slot_after n s.slots round m ≡ None) ⊎ (slot_after n s.slots round m ≡ None)
        by None e = inl (joined 0 (omega arith) (λ j p. absurd (nothing_is (sym e ∙ p))))
        by (Some i) e = let l = node_below 0 (Reg q) refl i e in inl (joined i (omega arith) (λ j p. some_is (sym p ∙ e)))

    pub is_slotting : IsSlotting n (record { bound = s.temps; partner = partner }) (slots_by n s round)
    is_slotting = record { closed = closed_unslotted; beside = beside_unslotted }
