-- Nodes of a round and what it says of their operands: which interfere, whose slots differ, and whose registers do.
use Rattle.std.proofs.Common.{ℕ, zero, suc, ◌≡◌, ◌<◌, ◌≤◌, ◌+◌, ◌==◌, ◌&&◌, Bool, true, false, not, List, [], ◌∷◌, length, refl, sym, ap, ◌∙◌}
use Rattle.std.proofs.Common.{subst, ◌⊎◌, inl, inr, Option, Some, None, true≢false, arith}
use Rattle.std.specs.Prelude.{nat_eq, is_some, slice_get, get_or}
use Rattle.std.specs.List.{list_all, position}
use Rattle.std.specs.Option.{option_map}
use Rattle.std.proofs.lemmas.Bool.{eqb-true, lt-ltb, ltb-true, and_parts, cases_lt}
use Rattle.std.proofs.lemmas.List.{get_or_past}
use Rattle.std.proofs.lemmas.Option.{get_or_from_slice_get}
use Rattle.std.proofs.lemmas.List.Quantifiers.{position-Some}
use Rattle.tg_instr.specs.declared.operands.Opnd.{Opnd}
use Rattle.tg_instr.specs.declared.operands.Opnd.TheVariants.{Temp, Reg}
use Rattle.tg_instr.specs.declared.instr.Instr.{Instr}
use Rattle.tg_instr.specs.Operands.{is_same}
use Rattle.tg_instr.specs.Codes.{is_below, has_temps_below}
use Rattle.tg_instr.specs.Uses.{uses_of, defs_of}
use Rattle.tg_live.specs.Interference.{colours, is_node, defines_beside_at, IsDefinedBeside, Interferes}
use Rattle.tg_live.proofs.Numbers.{among_all}
use Rattle.tg_irc_definition.specs.declared.rounds.Round.{Round}
use Rattle.tg_irc_definition.specs.Graphs.{every}
use Rattle.tg_irc_definition.specs.Policies.{Rule}
use Rattle.tg_irc_definition.specs.States.{Problem}
use Rattle.tg_irc_definition.specs.laws.Laws.{AreNodes}
use Rattle.tg_irc_definition.specs.laws.Classes.{class_of}
use Rattle.tg_irc_definition.proofs.Deciding.{every_is}
use Rattle.tg_irc_definition.proofs.ProperColouring.{colours_differ, registers_are_coloured, colours_are_registers}
use Rattle.tg_irc_definition.proofs.AmongNodes.{rounds_are_of_nodes}
use Rattle.tg_irc_definition.proofs.Coloured.{each_is_coloured, classes_are_apart}
use Rattle.tg_interference.specs.Nodes.{operand_at, node_of}
use Rattle.tg_interference.specs.laws.Laws.{NoOtherStands, NodesExist}
use Rattle.tg_regalloc.specs.Rewriting.{slotted, slot_by}
use Rattle.tg_regalloc.specs.Painting.{colour_or_first, colour_of, register_of, painted}
use Rattle.tg_regalloc.specs.Rounds.{BetweenRounds, IsRoundOf, slots_by}
use Rattle.tg_regalloc.specs.laws.Explained.{problem_of}
use Rattle.tg_regalloc.proofs.OneRound.{HasTempsBelow, is_graph, are_nodes}
use Rattle.tg_regalloc.proofs.Sizes.{node_below}
use Rattle.tg_regalloc.proofs.Slotting.{node_of_temp}
use Rattle.tg_regalloc_proof.specs.Places.{IsPlain, In, are_one}
use Rattle.tg_regalloc_proof.proofs.Living.{beside_differ}
use Rattle.tg_regalloc_proof.proofs.Rewriting.{at_slot, slot_place}
use Rattle.tg_regalloc_proof.proofs.Painting.{colour_place}
use Rattle.tg_regalloc_proof.proofs.Used.{live_out_below}

-- Registers of colours.

-- the register of each colour has it, and is neither $zero nor $sp
abbrev is_node_at : Option ℕ → ℕ → Bool
is_node_at None n = false
is_node_at (Some k) n = k == n

abbrev is_own : ℕ → Bool
is_own c = is_node_at (position (nat_eq (register_of c)) colours) c

abbrev is_plain : ℕ → Bool
is_plain c = not (register_of c == 0) && not (register_of c == 29)

colours_are_own : every is_own 25 ≡ true
colours_are_own = refl

colours_are_plain : every is_plain 25 ≡ true
colours_are_plain = refl

node_at_is : (o : Option ℕ) (n : ℕ) → is_node_at o n ≡ true → o ≡ Some n
node_at_is None n e = absurd (true≢false (sym e))
node_at_is (Some k) n e = ap (λ i. Some i) (eqb-true k n e)

some_number : {i j : ℕ} → Some i ≡ Some j → i ≡ j
some_number e = cc

pub node_of_register : (c : ℕ) → c < 25 → node_of (Reg (register_of c)) ≡ Some c
unfolding node_of
node_of_register c l = node_at_is _ c ((every_is is_own 25).0 colours_are_own c l)

pub register_of_node : (q i : ℕ) → node_of (Reg q) ≡ Some i → (i < 25) × (register_of i ≡ q)
unfolding node_of
register_of_node q i e =
    let h = position-Some (nat_eq q) colours i 0 e in
    let same : q ≡ register_of i = eqb-true q (register_of i) h.1 in
    (h.0, sym same)

not_true : (b : Bool) → not b ≡ true → b ≡ false
not_true true e = absurd (true≢false (sym e))
not_true false e = refl

pub registers_are_plain : (c : ℕ) → c < 25 → IsPlain (Reg (register_of c))
registers_are_plain c l =
    let h = and_parts (not (register_of c == 0)) (not (register_of c == 29)) ((every_is is_plain 25).0 colours_are_plain c l) in
    (not_true _ h.0, not_true _ h.1)

differ_by : (i j : ℕ) → (i ≡ j → ⊥) → (i == j) ≡ false
differ_by i j f = by (i == j) refl
  where
    by : (b : Bool) → (i == j) ≡ b → b ≡ false
    by true e = absurd (f (eqb-true i j e))
    by false e = refl

-- what is defined is below the number of temporaries
defined_below : (n : ℕ) (all : List Instr) (at : ℕ) (d o : Opnd) → list_all (has_temps_below n) all ≡ true →
    defines_beside_at (slice_get all at) d o ≡ true → is_below n d ≡ true
defined_below n [] zero d o h k = absurd (true≢false (sym k))
defined_below n [] (suc at) d o h k = absurd (true≢false (sym k))
defined_below n (x ∷ rest) zero d o h k =
    among_all (is_below n) d (defs_of x) (and_parts (list_all (is_below n) (uses_of x)) _ (and_parts _ _ h).0).1 (and_parts _ _ k).0
defined_below n (x ∷ rest) (suc at) d o h k = defined_below n rest at d o (and_parts (has_temps_below n x) _ h).1 k

module _ (alone : NoOtherStands) (exist : NodesExist) (rule : Rule) (n : ℕ) (s : BetweenRounds) (round : Round) (r : IsRoundOf rule n s round)
    (below : HasTempsBelow s) where
  abbrev g : Problem
  g = problem_of rule n s r.graph

  nodes : AreNodes g
  nodes = are_nodes rule n s r.graph r.exact below

  is_node_below : (i : ℕ) → i < 25 + s.temps → i < r.graph.nodes
  is_node_below i l = subst (λ m. i < m) (sym r.exact.nodes) l

  -- both are below the number of temporaries, and differ
  record Beside (d o : Opnd) : Type 0 where
    defined : is_below s.temps d ≡ true
    live : is_below s.temps o ≡ true
    differ : is_same o d ≡ false

  beside : (d o : Opnd) → IsDefinedBeside s.list d o → Beside d o
  beside d o b = record {
    defined = defined_below s.temps s.list b.at d o below b.defines;
    live = live_out_below s.temps s.list below b.at o b.live;
    differ = beside_differ s.list d o b;
  }

  node_is_below : (x : Opnd) (i : ℕ) → is_below s.temps x ≡ true → node_of x ≡ Some i → i < r.graph.nodes
  node_is_below x i h e = is_node_below i (node_below s.temps x h i e)

  node_is : (x : Opnd) (i : ℕ) → node_of x ≡ Some i → is_node x ≡ true
  node_is x i e = sym (exist x) ∙ ap (λ (o : Option ℕ). is_some o) e

  -- their nodes interfere at the start of the round
  pairs : (d o : Opnd) (x y : ℕ) → IsDefinedBeside s.list d o → node_of d ≡ Some x → node_of o ≡ Some y → g.graph.pairs y x ≡ true
  pairs d o x y b ex ey =
      (r.exact.pairs y x).1
      (subst (λ z. Interferes s.list z (operand_at x)) (sym (alone o y ey))
      (subst (λ z. Interferes s.list o z) (sym (alone d x ex))
      (record { left = node_is o y ey; right = node_is d x ex; cause = inr (inr b) })))

  -- Slots.

  abbrev slot_of : ℕ → Option ℕ
  slot_of = slots_by n s round

  slot_is : (x k : ℕ) → slot_by (slotted n round) s.slots x ≡ Some k →
      (i : ℕ) × (i < length (slotted n round)) × (k ≡ s.slots + i) × (get_or (slotted n round) i 0 ≡ x)
  slot_is x k = by (position (nat_eq x) (slotted n round)) refl
    where
      by : (o : Option ℕ) → position (nat_eq x) (slotted n round) ≡ o → option_map (λ i. s.slots + i) o ≡ Some k →
          (i : ℕ) × (i < length (slotted n round)) × (k ≡ s.slots + i) × (get_or (slotted n round) i 0 ≡ x)
      by None e h = absurd (never h)
        where
          never : None ≡ Some k → ⊥
          never z = cc
      by (Some i) e h =
          let p = position-Some (nat_eq x) (slotted n round) i 0 e in
          (i, p.0, sym (some_number h), sym (eqb-true x (get_or (slotted n round) i 0) p.1))

  -- a round takes new slots
  pub slots_are_new : (t k : ℕ) → slot_of t ≡ Some k → (s.slots ≤ k) × (k < s.slots + length (slotted n round))
  slots_are_new t k e =
      let z = slot_is (class_of round (25 + t)) k e in
      let l = z.1 in
      let h = z.2 in
      (omega arith, omega arith)

  -- what is defined beside something live has another slot, or none
  pub slots_are_apart : (d o : Opnd) → IsDefinedBeside s.list d o → are_one (slot_place slot_of o) (slot_place slot_of d) ≡ false
  slots_are_apart d o b = by d o b (beside d o b)
    where
      two : (i j : ℕ) → IsDefinedBeside s.list (Temp (record { 0 = j })) (Temp (record { 0 = i })) → i < s.temps → j < s.temps →
          (k l : ℕ) → slot_of i ≡ Some k → slot_of j ≡ Some l → k ≡ l → ⊥
      two i j b li lj k l ek el same =
          let zk = slot_is (class_of round (25 + i)) k ek in
          let zl = slot_is (class_of round (25 + j)) l el in
          let a = zk.2 in
          let c = zl.2 in
          let one : zk.0 ≡ zl.0 = omega arith in
          classes_are_apart g round (is_graph r.graph) nodes r.run (25 + i) (25 + j) (is_node_below (25 + i) (omega arith))
          (is_node_below (25 + j) (omega arith))
          (pairs (Temp (record { 0 = j })) (Temp (record { 0 = i })) (25 + j) (25 + i) b (node_of_temp j) (node_of_temp i))
          (sym zk.3 ∙ (ap (λ m. get_or (slotted n round) m 0) one ∙ zl.3))

      by : (d o : Opnd) → IsDefinedBeside s.list d o → Beside d o → are_one (slot_place slot_of o) (slot_place slot_of d) ≡ false
      by (Reg q) (Reg p) b h = h.differ
      by (Temp j) (Reg p) b h = at (slot_of j.0)
        where
          at : (x : Option ℕ) → are_one (In (Reg p)) (at_slot slot_of (Temp j) x) ≡ false
          at None = refl
          at (Some k) = refl
      by (Reg q) (Temp i) b h = at (slot_of i.0)
        where
          at : (x : Option ℕ) → are_one (at_slot slot_of (Temp i) x) (In (Reg q)) ≡ false
          at None = refl
          at (Some k) = refl
      by (Temp j) (Temp i) b h = at (slot_of i.0) (slot_of j.0) refl refl
        where
          at : (x y : Option ℕ) → slot_of i.0 ≡ x → slot_of j.0 ≡ y →
              are_one (at_slot slot_of (Temp i) x) (at_slot slot_of (Temp j) y) ≡ false
          at None None ex ey = h.differ
          at None (Some l) ex ey = refl
          at (Some k) None ex ey = refl
          at (Some k) (Some l) ex ey =
              differ_by k l (two i.0 j.0 b (ltb-true i.0 s.temps h.live) (ltb-true j.0 s.temps h.defined) k l ex ey)

  -- Colours.
  module _ (nothing : round.spilled ≡ []) where
    -- the colour of a node, of which there are 25
    coloured : (x : ℕ) → x < r.graph.nodes → (a : ℕ) × (slice_get round.colours x ≡ Some (Some a)) × (a < 25)
    coloured x l =
        let c = each_is_coloured g round (is_graph r.graph) nodes r.run nothing x l in
        (c.0, c.1, ltb-true c.0 25 (colours_are_registers g round r.run x c.0 l c.1))

    -- the register in which an operand stands: that of its node's colour, or a register without a node
    data Stand (z : Opnd) : Type 0 where
      by_colour :
          (x a : ℕ) → node_of z ≡ Some x → x < r.graph.nodes → slice_get round.colours x ≡ Some (Some a) → a < 25 →
          painted (colour_of round) z ≡ Reg (register_of a) → Stand z
      itself : (q : ℕ) → z ≡ Reg q → node_of (Reg q) ≡ None → Stand z

    stands : (z : Opnd) → is_below s.temps z ≡ true → Stand z
    stands (Temp t) h =
        let l : t.0 < s.temps = ltb-true t.0 s.temps h in
        let inside : 25 + t.0 < r.graph.nodes = is_node_below (25 + t.0) (omega arith) in
        let c = coloured (25 + t.0) inside in
        by_colour (25 + t.0) c.0 (node_of_temp t.0) inside c.1 c.2
        (ap (λ o. Reg (register_of (colour_or_first o))) (get_or_from_slice_get round.colours (25 + t.0) (Some c.0) None c.1))
    stands (Reg q) h = by (node_of (Reg q)) refl
      where
        by : (o : Option ℕ) → node_of (Reg q) ≡ o → Stand (Reg q)
        by None e = itself q refl e
        by (Some i) e =
            let k = register_of_node q i e in
            let u = k.0 in
            let inside : i < r.graph.nodes = is_node_below i (omega arith) in
            by_colour i i e inside
            (registers_are_coloured g round (is_graph r.graph) nodes r.run i inside (lt-ltb i 25 k.0)) k.0 (ap (λ p. Reg p) (sym k.1))

    same_registers : (a b : ℕ) → a < 25 → b < 25 → register_of a ≡ register_of b → a ≡ b
    same_registers a b la lb e =
        some_number (sym (node_of_register a la) ∙ (ap (λ q. node_of (Reg q)) e ∙ node_of_register b lb))

    -- what is defined beside something live has another register
    pub colours_are_apart : (d o : Opnd) → IsDefinedBeside s.list d o →
        are_one (colour_place (colour_of round) o) (colour_place (colour_of round) d) ≡ false
    colours_are_apart d o b = by (stands o (beside d o b).live) (stands d (beside d o b).defined)
      where
        mixed : (a q : ℕ) → a < 25 → node_of (Reg q) ≡ None → register_of a ≡ q → ⊥
        mixed a q l none e = never (sym (node_of_register a l) ∙ (ap (λ p. node_of (Reg p)) e ∙ none))
          where
            never : Some a ≡ None → ⊥
            never z = cc

        by : Stand o → Stand d → is_same (painted (colour_of round) o) (painted (colour_of round) d) ≡ false
        by (by_colour y c ey ly hy lc py) (by_colour x a ex lx hx la px) =
            (λ i. is_same (py i) (px i)) ∙
            differ_by (register_of c) (register_of a) (λ e.
            colours_differ g round (is_graph r.graph) nodes r.run y x c a ly lx (pairs d o x y b ex ey) hy hx (same_registers c a lc la e))
        by (by_colour y c ey ly hy lc py) (itself q same none) =
            (λ i. is_same (py i) (painted (colour_of round) (same i))) ∙ differ_by (register_of c) q (mixed c q lc none)
        by (itself q same none) (by_colour x a ex lx hx la px) =
            (λ i. is_same (painted (colour_of round) (same i)) (px i)) ∙ differ_by q (register_of a) (λ e. mixed a q la none (sym e))
        by (itself q same none) (itself p same' none') =
            (λ i. is_same (painted (colour_of round) (same i)) (painted (colour_of round) (same' i))) ∙
            ((λ i. is_same (sym same i) (sym same' i)) ∙ (beside d o b).differ)

    -- the register of each colour is neither $zero nor $sp
    pub colours_are_proper : (t : ℕ) → IsPlain (Reg (register_of (colour_of round t)))
    colours_are_proper t = registers_are_plain (colour_of round t) (by (cases_lt t s.temps))
      where
        by : (t < s.temps) ⊎ (s.temps ≤ t) → colour_of round t < 25
        by (inl l) =
            let c = coloured (25 + t) (is_node_below (25 + t) (omega arith)) in
            subst (λ o. colour_or_first o < 25) (sym (get_or_from_slice_get round.colours (25 + t) (Some c.0) None c.1)) c.2
        by (inr l) =
            let size : length round.colours ≡ 25 + s.temps =
            (rounds_are_of_nodes g round nodes r.run).each_colour ∙ r.exact.nodes in
            subst (λ o. colour_or_first o < 25) (sym (get_or_past round.colours (25 + t) None (omega arith))) (omega arith)
