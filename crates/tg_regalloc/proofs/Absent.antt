-- A temporary that went to a slot occurs no more, and one that doesn't occur isn't spilled.
use Rattle.std.proofs.Common.{ℕ, zero, suc, ◌≡◌, ◌≢◌, ◌≤◌, ◌<◌, ◌+◌, ◌-◌, ◌&&◌, ◌||◌, List, [], ◌∷◌, ◌++◌, Bool, true, false, not, Option, Some, None}
use Rattle.std.proofs.Common.{refl, ap, sym, subst, ◌∙◌, arith, ◌⊎◌, inl, inr, ⊎_elim}
use Rattle.std.specs.Prelude.{All, ◌==◌, map, slice_index, slice_index_or, slice_get, if◌then◌else◌}
use Rattle.std.specs.List.{AllByRecursion, list_any}
use Rattle.std.proofs.lemmas.Bool.{le-ltb}
use Rattle.std.proofs.lemmas.List.Folds.{list_any-append}
use Rattle.tg_instr.specs.declared.operands.Opnd.{Opnd}
use Rattle.tg_instr.specs.declared.operands.Opnd.TheVariants.{Temp, Reg}
use Rattle.tg_instr.specs.declared.instr.Instr.{Instr}
use Rattle.tg_instr.specs.declared.renaming.Named.{Named}
use Rattle.tg_instr.specs.Operands.{is_same}
use Rattle.tg_instr.specs.Renaming.{named, renamed}
use Rattle.tg_instr.specs.Shapes.{shape}
use Rattle.tg_instr.specs.Uses.{uses_of, defs_of}
use Rattle.tg_graph.specs.Interference.{interferes}
use Rattle.tg_live.specs.Flow.{goes_on}
use Rattle.tg_live.specs.Live.{is_among, is_defined, leads_to_use}
use Rattle.tg_live.specs.Interference.{defines_beside_at, Interferes, moves, colours}
use Rattle.tg_irc_definition.specs.declared.moves.Move.{Move as MoveBetween}
use Rattle.tg_irc_definition.specs.declared.rounds.Round.{Round}
use Rattle.tg_irc_definition.specs.Policies.{Rule}
use Rattle.tg_irc_definition.specs.laws.Classes.{IsUntouched, class_of}
use Rattle.tg_irc_definition.proofs.Within.{untouched_stand_alone}
use Rattle.std.proofs.lemmas.List.Elements.{All-from_recursion, recursion_from_All}
use Rattle.std.specs.Prelude.{filter}
use Rattle.tg_irc_definition.proofs.Deciding.{clash, neither, or_false, never, same_node, same_test}
use Rattle.tg_irc_definition.proofs.Bare.{bare_are_first_coloured}
use Rattle.tg_interference.specs.Nodes.{operand_at, node_of, temp_at}
use Rattle.tg_regalloc.specs.declared.placing.Placed.{Placed}
use Rattle.tg_regalloc.specs.Rewriting.{loads, stores, drawn, in_slot, placed, target, first_use, second_use, next_after, instruction_rewritten, code_rewritten}
use Rattle.tg_regalloc.specs.Rewriting.{is_original, slotted, slot_after}
use Rattle.tg_regalloc.specs.Rounds.{BetweenRounds, IsRoundOf}
use Rattle.tg_regalloc.specs.laws.Explained.{problem_of}
use Rattle.tg_regalloc.proofs.Renamed.{temp, replaced, named_placed, here, uses_named, defs_named}
use Rattle.tg_regalloc.proofs.Slotting.{is_temp, ends_of, all_moves, slot_none}
use Rattle.tg_regalloc.proofs.OneRound.{HasTempsBelow, is_graph, are_nodes}

-- whether an operand is a temporary, and whether an instruction and a code name it
abbrev pub has_temp : ℕ → Option Opnd → Bool
has_temp t (Some x) = is_same (temp t) x
has_temp t None = false

abbrev pub names_temp : ℕ → Named → Bool
names_temp t x = has_temp t x.to || (has_temp t x.first || has_temp t x.second)

abbrev pub is_in : ℕ → Instr → Bool
is_in t one = names_temp t (named one)

abbrev pub occurs : List Instr → ℕ → Bool
occurs list t = list_any (is_in t) list

among_here : (t : ℕ) (o p : Option Opnd) → has_temp t o ≡ false → has_temp t p ≡ false → is_among (temp t) (here o ++ here p) ≡ false
among_here t (Some x) (Some y) h i = or_false h (or_false i refl)
among_here t (Some x) None h i = or_false h refl
among_here t None (Some y) h i = or_false i refl
among_here t None None h i = refl

among_one : (t : ℕ) (o : Option Opnd) → has_temp t o ≡ false → is_among (temp t) (here o) ≡ false
among_one t (Some x) h = or_false h refl
among_one t None h = refl

no_use : (t : ℕ) (one : Instr) → is_in t one ≡ false → is_among (temp t) (uses_of one) ≡ false
no_use t one h =
    let a = neither (has_temp t (named one).to) _ h in
    let b = neither (has_temp t (named one).first) _ a.1 in
    uses_named t one ∙ among_here t (named one).first (named one).second b.0 b.1

no_definition : (t : ℕ) (one : Instr) → is_in t one ≡ false → is_among (temp t) (defs_of one) ≡ false
no_definition t one h = defs_named t one ∙ among_one t (named one).to (neither (has_temp t (named one).to) _ h).0

-- What doesn't occur is not live, has no pair and no move.

nowhere_used : (t : ℕ) (list : List Instr) → occurs list t ≡ false → (at : ℕ) → is_among (temp t) (slice_index_or (map uses_of list) at []) ≡ false
nowhere_used t [] h at = refl
nowhere_used t (x ∷ rest) h zero = no_use t x (neither (is_in t x) _ h).0
nowhere_used t (x ∷ rest) h (suc at) = nowhere_used t rest (neither (is_in t x) _ h).1 at

and_never : (a b c : Bool) → c ≡ false → (a && (b && c)) ≡ false
and_never true true c h = h
and_never true false c h = refl
and_never false b c h = refl

no_path : (t : ℕ) (list : List Instr) → occurs list t ≡ false → (at : ℕ) (path : List ℕ) → leads_to_use list (temp t) at path ≡ false
no_path t list h at [] = nowhere_used t list h at
no_path t list h at (next ∷ path) =
    and_never (not (is_defined list (temp t) at)) (goes_on list at next) (leads_to_use list (temp t) next path) (no_path t list h next path)

no_defining : (t : ℕ) (y : Opnd) (list : List Instr) → occurs list t ≡ false → (at : ℕ) → defines_beside_at (slice_get list at) (temp t) y ≡ false
no_defining t y [] h at = refl
no_defining t y (x ∷ rest) h zero =
    ap (λ b. b && (not (is_same (temp t) y) && not (moves (shape x) (temp t) y))) (no_definition t x (neither (is_in t x) _ h).0)
no_defining t y (x ∷ rest) h (suc at) = no_defining t y rest (neither (is_in t x) _ h).1 at

no_interference : (t : ℕ) (y : Opnd) (list : List Instr) → occurs list t ≡ false → Interferes list (temp t) y → ⊥
no_interference t y list h i =
    ⊎_elim (λ e. clash e refl)
    (λ d. ⊎_elim (λ b. clash b.defines (no_defining t y list h b.at))
    (λ b. clash b.live.leads (no_path t list h b.live.next b.live.path)) d) i.cause

at_temp : (t : ℕ) → operand_at (25 + t) ≡ temp t
unfolding operand_at
at_temp t =
    ap (λ b. if b then Reg (slice_index colours (25 + t)) else temp_at (25 + t)) (le-ltb (25 + t) 25 (omega arith)) ∙
    (let e : (25 + t) - 25 ≡ t = omega arith in ap temp e)

pub filtered_too : (P : ℕ → Type 0) (p : ℕ → Bool) (xs : List ℕ) → AllByRecursion P xs → AllByRecursion P (filter p xs)
filtered_too P p [] h = tt
filtered_too P p (x ∷ xs) h = by (p x) (filtered_too P p xs h.1)
  where
    by : (b : Bool) → AllByRecursion P (filter p xs) → AllByRecursion P (if b then x ∷ filter p xs else filter p xs)
    by true r = (h.0, r)
    by false r = r

module _ (rule : Rule) (n : ℕ) (s : BetweenRounds) (round : Round) (r : IsRoundOf rule n s round) (below : HasTempsBelow s) (some : n ≤ s.temps) where
  no_pairs : (t : ℕ) → occurs s.list t ≡ false → (y : ℕ) → interferes r.graph (25 + t) y ≡ false
  no_pairs t h y =
      never (λ e. no_interference t (operand_at y) s.list h
      (subst (λ x. Interferes s.list x (operand_at y)) (at_temp t) ((r.exact.pairs (25 + t) y).0 e)))

  each_absent : (t : ℕ) (list : List Instr) → occurs list t ≡ false → AllByRecursion (λ one. is_in t one ≡ false) list
  each_absent t [] h = tt
  each_absent t (x ∷ rest) h = let a = neither (is_in t x) _ h in (a.0, each_absent t rest a.1)

  no_moves : (t : ℕ) → occurs s.list t ≡ false → IsUntouched (problem_of rule n s r.graph) (25 + t)
  no_moves t h =
      all_moves (λ (m : MoveBetween). (m.to ≢ 25 + t) × (m.from ≢ 25 + t)) (λ one. is_in t one ≡ false)
      (λ to from m q e. let b = ends_of (node_of to) (node_of from) m e in
      let a = neither (is_same (temp t) to) _ q in
      let a' = neither (is_same (temp t) from) _ a.1 in (
        λ p. clash (itself t to (is_temp to t (b.0 ∙ ap Some p))) a.0,
        λ p. clash (itself t from (is_temp from t (b.1 ∙ ap Some p))) a'.0,
      ))
      s.list (each_absent t s.list h)
    where
      itself : (t : ℕ) (x : Opnd) → x ≡ temp t → is_same (temp t) x ≡ true
      itself t x e = ap (is_same (temp t)) e ∙ same_test t t refl

  pub absent_unspilled : (t : ℕ) → t < n → occurs s.list t ≡ false → All (λ y. y ≢ 25 + t) round.spilled
  absent_unspilled t l h =
      (bare_are_first_coloured (problem_of rule n s r.graph) round (is_graph r.graph) (are_nodes rule n s r.graph r.exact below) r.run
      (25 + t) (omega arith, subst (λ m. 25 + t < m) (sym r.exact.nodes) (omega (arith, l, some))) (no_moves t h)
      (λ y k. no_pairs t h y)).not_spilled

  -- so it gets no slot
  pub absent_slotless : (t : ℕ) → t < n → occurs s.list t ≡ false → slot_after n s.slots round t ≡ None
  absent_slotless t l h =
      slot_none (slotted n round) s.slots (class_of round (25 + t)) (λ i u e.
      All-from_recursion (λ y. y ≢ 25 + t) (slotted n round) others i 0 u (e ∙ own))
    where
      inside : 25 + t < r.graph.nodes
      inside = subst (λ m. 25 + t < m) (sym r.exact.nodes) (omega (arith, l, some))

      own : class_of round (25 + t) ≡ 25 + t
      own = (untouched_stand_alone (problem_of rule n s r.graph) round r.run (25 + t) inside (no_moves t h)).own

      others : AllByRecursion (λ y. y ≢ 25 + t) (slotted n round)
      others = filtered_too (λ y. y ≢ 25 + t) (is_original n) round.spilled (recursion_from_All (λ y. y ≢ 25 + t) round.spilled (absent_unspilled t l h))

-- What is rewritten names no temporary that had a slot, nor one that wasn't named before.

module _ (slot_of : ℕ → Option ℕ) (t : ℕ) where
  -- the temporary has a slot
  abbrev HasSlot : Type 0
  HasSlot = (j : ℕ) × (slot_of t ≡ Some j)

  record Avoids (o : Option Opnd) (p : Placed) : Type 0 where
    operand_is_other : has_temp t (replaced p.operand o) ≡ false
    loads_other : occurs (loads p.operand p.slot) t ≡ false
    stores_other : occurs (stores p.operand p.slot) t ≡ false

  fresh_is_other : (e : ℕ) → t < e → (t == e) ≡ false
  fresh_is_other e l = never (λ h. let q = same_node t e h in omega (arith, l, q))

  avoids_in_slot : (u e : ℕ) (slot : Option ℕ) → slot_of u ≡ slot → t < e → ((t == u) ≡ false) ⊎ HasSlot →
      Avoids (Some (temp u)) (in_slot e (temp u) slot)
  avoids_in_slot u e None q l f =
      record {
        operand_is_other = ⊎_elim (λ h. h) (λ h. never (λ z. nothing (sym q ∙ (ap slot_of (sym (same_node t u z)) ∙ h.1)))) f;
        loads_other = refl;
        stores_other = refl;
      }
    where
      nothing : {j : ℕ} → ◌≡◌ {A = Option ℕ} None (Some j) → ⊥
      nothing z = cc
  avoids_in_slot u e (Some j) q l f =
      let d = fresh_is_other e l in
      record {
        operand_is_other = d;
        loads_other = or_false (or_false d refl) refl;
        stores_other = or_false (or_false d refl) refl;
      }

  avoids : (o : Option Opnd) (e : ℕ) → t < e → (has_temp t o ≡ false) ⊎ HasSlot → Avoids o (placed slot_of o e)
  avoids (Some (Temp u)) e l f = avoids_in_slot u.0 e (slot_of u.0) refl l f
  avoids (Some (Reg r)) e l f = record { operand_is_other = refl; loads_other = refl; stores_other = refl }
  avoids None e l f = record { operand_is_other = refl; loads_other = refl; stores_other = refl }

  none_in : (xs ys : List Instr) → occurs xs t ≡ false → occurs ys t ≡ false → occurs (xs ++ ys) t ≡ false
  none_in xs ys h i = list_any-append (is_in t) xs ys ∙ or_false h i

  instruction_avoids : (one : Instr) (next : ℕ) → t < next → (is_in t one ≡ false) ⊎ HasSlot → occurs (instruction_rewritten slot_of one next) t ≡ false
  instruction_avoids one next l f =
      none_in (loads (first_use slot_of one next).operand (first_use slot_of one next).slot)
      (loads (second_use slot_of one next).operand (second_use slot_of one next).slot ++
      (y ∷ stores (target slot_of one next).operand (target slot_of one next).slot))
      b.loads_other
      (none_in (loads (second_use slot_of one next).operand (second_use slot_of one next).slot)
      (y ∷ stores (target slot_of one next).operand (target slot_of one next).slot) c.loads_other
      (or_false here_none a.stores_other))
    where
      y : Instr
      y = renamed one (target slot_of one next).operand (first_use slot_of one next).operand (second_use slot_of one next).operand

      part : (o : Option Opnd) → (is_in t one ≡ false → has_temp t o ≡ false) → (has_temp t o ≡ false) ⊎ HasSlot
      part o g = ⊎_elim (λ h. inl (g h)) (λ h. inr h) f

      a : Avoids (named one).to (target slot_of one next)
      a = avoids (named one).to next l (part (named one).to (λ h. (neither (has_temp t (named one).to) _ h).0))

      b : Avoids (named one).first (first_use slot_of one next)
      b =
          avoids (named one).first (next + drawn (target slot_of one next)) (omega (arith, l))
          (part (named one).first (λ h. (neither (has_temp t (named one).first) _ (neither (has_temp t (named one).to) _ h).1).0))

      c : Avoids (named one).second (second_use slot_of one next)
      c =
          avoids (named one).second (next + drawn (target slot_of one next) + drawn (first_use slot_of one next)) (omega (arith, l))
          (part (named one).second (λ h. (neither (has_temp t (named one).first) _ (neither (has_temp t (named one).to) _ h).1).1))

      here_none : is_in t y ≡ false
      here_none =
          ap (names_temp t) (named_placed slot_of one next) ∙
          or_false a.operand_is_other (or_false b.operand_is_other c.operand_is_other)

  pub code_avoids : (list : List Instr) (next : ℕ) → t < next → (occurs list t ≡ false) ⊎ HasSlot → occurs (code_rewritten slot_of list next) t ≡ false
  code_avoids [] next l f = refl
  code_avoids (x ∷ rest) next l f =
      none_in (instruction_rewritten slot_of x next) (code_rewritten slot_of rest (next_after slot_of x next))
      (instruction_avoids x next l (⊎_elim (λ h. inl (neither (is_in t x) _ h).0) (λ h. inr h) f))
      (code_avoids rest (next_after slot_of x next) (omega (arith, l)) (⊎_elim (λ h. inl (neither (is_in t x) _ h).1) (λ h. inr h) f))
