-- Rounds in sequence, and the two cases of an allocation.
use Rattle.std.proofs.Common.{ℕ, ◌≡◌, ◌+◌, Bool, true, false, List, [], ◌∷◌, length, map, refl, sym, ap, ◌∙◌, subst, add-zero}
use Rattle.std.specs.Prelude.{if◌then◌else◌}
use Rattle.std.specs.List.{list_all}
use Rattle.tg_tree.specs.Tree.{Function}
use Rattle.tg_instr.specs.declared.instr.Instr.{Instr}
use Rattle.tg_instr.specs.Codes.{has_temps_below, names_registers}
use Rattle.tg_irc_definition.specs.declared.rounds.Round.{Round}
use Rattle.tg_irc_definition.specs.Policies.{Rule}
use Rattle.tg_interference.specs.laws.Laws.{NoOtherStands, NodesExist}
use Rattle.tg_regalloc_proof.specs.Blocks.{Blocks, regrouped}
use Rattle.tg_regalloc_proof.specs.Keeping.{Keeps}
use Rattle.tg_regalloc_proof.proofs.Kept.{singles, unchanged_keeps}
use Rattle.tg_regalloc_proof.proofs.Composing.{keeps_compose}
use Rattle.tg_regalloc.specs.Conditions.{is_fixed}
use Rattle.tg_regalloc.specs.Painting.{colour_of, code_painted}
use Rattle.tg_regalloc.specs.Rewriting.{slotted}
use Rattle.tg_regalloc.specs.Rounds.{BetweenRounds, stage_of, slots_by, next_stage, IsRoundOf, AreRounds, last_round}
use Rattle.tg_regalloc.specs.Rounds.AreRounds.{last, more}
use Rattle.tg_regalloc.specs.laws.Growth.{blocks_rewritten, blocks_behind}
use Rattle.tg_regalloc.specs.mirror.InFrame.{code_in_frame, instruction_in_frame}
use Rattle.tg_regalloc.proofs.OneRound.{HasTempsBelow}
use Rattle.tg_regalloc.proofs.RewrittenBelow.{temps_below}
use Rattle.tg_regalloc_proof.specs.laws.Laws.{AllocationsKeep, FramesKeep}
use Rattle.tg_regalloc_proof.proofs.Painting.{each_painted, painting_keeps}
use Rattle.tg_regalloc_proof.proofs.Rewriting.{each_rewritten, rewriting_keeps}
use Rattle.tg_regalloc_proof.proofs.InFrame.{in_frame_keeps}
use Rattle.tg_regalloc_proof.proofs.Used.{live_is_low, never_live, names_low}
use Rattle.tg_regalloc_proof.proofs.Nodes.{slots_are_new, slots_are_apart, colours_are_apart, colours_are_proper}
use Rattle.tg_regalloc_proof.proofs.Regrouped.{regrouped_rewritten, regrouped_painted}

abbrev F : Type 0
F = Function (List Instr)

-- the function with the code between rounds
abbrev at_stage : F → BetweenRounds → F
at_stage f s = record f { body = s.list; slots = s.slots }

module _ (alone : NoOtherStands) (exist : NodesExist) (rule : Rule) (n : ℕ) (f : Function (List Instr)) where
  -- the next code of a round stands in the place of the code before
  round_keeps : (s : BetweenRounds) (round : Round) (r : IsRoundOf rule n s round) → HasTempsBelow s →
      Keeps (each_rewritten (slots_by n s round) s.list s.temps) (at_stage f s) (at_stage f (next_stage n s round))
  round_keeps s round r below =
      rewriting_keeps (slots_by n s round) (at_stage f s) (at_stage f (next_stage n s round)) s.temps (length (slotted n round))
      (record { label = refl; out = refl; slots = refl }) refl (slots_are_new alone exist rule n s round r below)
      (λ l x h. live_is_low s.temps s.list below l x h) (slots_are_apart alone exist rule n s round r below)

  -- and the painted code of the last in the place of its
  last_keeps : (s : BetweenRounds) (round : Round) (r : IsRoundOf rule n s round) → HasTempsBelow s → round.spilled ≡ [] → (g : F) →
      g.label ≡ f.label → g.out ≡ f.out → g.slots ≡ s.slots → g.body ≡ code_painted (colour_of round) s.list →
      Keeps (each_painted (colour_of round) s.list) (at_stage f s) g
  last_keeps s round r below nothing g label out slots body =
      painting_keeps (colour_of round) (at_stage f s) g (record { label = label; out = out; slots = slots ∙ sym (add-zero s.slots) }) body
      (colours_are_proper alone exist rule n s round r below nothing) (colours_are_apart alone exist rule n s round r below nothing)

  -- a round that another follows
  goes_on : (s : BetweenRounds) {t u : BetweenRounds} {rounds : List Round} → AreRounds rule n u rounds t → (round : Round) (blocks : Blocks) →
      (last_round (round ∷ rounds) ≡ last_round rounds) ×
      (blocks_behind n s (round ∷ rounds) blocks ≡
      blocks_behind n (next_stage n s round) rounds (blocks_rewritten (slots_by n s round) blocks s.temps))
  goes_on s (last u first r e) round blocks = (refl, refl)
  goes_on s (more u t first rounds r ne rest) round blocks = (refl, refl)

  rounds_keep : {s t : BetweenRounds} {rounds : List Round} → AreRounds rule n s rounds t → HasTempsBelow s → (blocks : Blocks) →
      Keeps blocks f (at_stage f s) → (last_round rounds).spilled ≡ [] → (g : F) → g.label ≡ f.label → g.out ≡ f.out →
      g.slots ≡ t.slots → g.body ≡ code_painted (colour_of (last_round rounds)) t.list → Keeps (blocks_behind n s rounds blocks) f g
  rounds_keep (last s round r e) below blocks k nothing g label out slots body =
      subst (λ bs. Keeps bs f g)
      (ap (λ l. regrouped blocks (each_painted (colour_of round) l)) (sym k.whole) ∙ regrouped_painted (colour_of round) blocks)
      (keeps_compose f (at_stage f s) g blocks (each_painted (colour_of round) s.list) k
      (last_keeps s round r below nothing g label out slots body))
  rounds_keep (more s t round rounds r ne rest) below blocks k nothing g label out slots body =
      let slot_of = slots_by n s round in
      let e = goes_on s rest round blocks in
      let next : Keeps (blocks_rewritten slot_of blocks s.temps) f (at_stage f (next_stage n s round)) =
      subst (λ bs. Keeps bs f (at_stage f (next_stage n s round)))
      (ap (λ l. regrouped blocks (each_rewritten slot_of l s.temps)) (sym k.whole) ∙ regrouped_rewritten slot_of blocks s.temps)
      (keeps_compose f (at_stage f s) (at_stage f (next_stage n s round)) blocks (each_rewritten slot_of s.list s.temps) k
      (round_keeps s round r below)) in
      subst (λ bs. Keeps bs f g) (sym e.1)
      (rounds_keep rest (temps_below slot_of s.list s.temps below) (blocks_rewritten slot_of blocks s.temps) next
      (sym (ap (λ (o : Round). o.spilled) e.0) ∙ nothing) g label out slots
      (body ∙ ap (λ (o : Round). code_painted (colour_of o) t.list) e.0))

pub frames_keep : FramesKeep
frames_keep code frame f g fixed h i =
    subst (λ l. Keeps (map (instruction_in_frame frame.slots) l) f g) h.body
    (subst (λ m. Keeps (map (instruction_in_frame m) f.body) f g) h.slots
    (in_frame_keeps f g code.temps
    (record { label = i.label ∙ sym h.label; out = i.out ∙ sym h.out; slots = i.slots ∙ ap (λ m. m + code.temps) (sym h.slots) })
    (i.body ∙ (λ j. code_in_frame (sym h.slots j) (sym h.body j)))
    (names_low f.slots code.temps f.body (subst (λ l. list_all (has_temps_below code.temps) l ≡ true) (sym h.body) code.temps_below))
    (never_live 8 refl refl refl refl f.body registers) (never_live 9 refl refl refl refl f.body registers)))
  where
    registers : list_all (names_registers is_fixed) f.body ≡ true
    registers = ap (list_all (names_registers is_fixed)) h.body ∙ fixed

pub allocations_keep : NoOtherStands → NodesExist → AllocationsKeep
allocations_keep alone exist rule code frame a f g fixed h i j = by a.all_in_frame refl
  where
    first : at_stage f (stage_of code frame.slots) ≡ f
    first = λ k. record f { body = sym i.body k; slots = sym i.slots k }

    label : g.label ≡ f.label
    label = j.label ∙ (ap (λ l. l.0) h.has_frame.label ∙ sym i.label)

    out : g.out ≡ f.out
    out = j.out ∙ (h.has_frame.out ∙ sym i.out)

    singly : Keeps (map (λ one. one ∷ []) code.list) f (at_stage f (stage_of code frame.slots))
    singly =
        subst (λ k. Keeps (map (λ one. one ∷ []) code.list) f k) (sym first)
        (subst (λ l. Keeps (singles l) f f) i.body (unchanged_keeps f))

    by : (all : Bool) → a.all_in_frame ≡ all →
        Keeps (if all then map (instruction_in_frame frame.slots) code.list else
        blocks_behind code.temps (stage_of code frame.slots) a.rounds (map (λ one. one ∷ []) code.list)) f g
    by true e =
        let k = h.in_frame e in
        frames_keep code frame f g fixed i (record {
          label = label ∙ i.label;
          slots = j.slots ∙ (h.has_frame.slots ∙ ap (λ m. frame.slots + m) k.slots);
          out = out ∙ i.out;
          body = j.body ∙ k.list;
        })
    by false e =
        let k = h.coloured e in
        rounds_keep alone exist rule code.temps f h.rounds code.temps_below (map (λ one. one ∷ []) code.list) singly k.nothing_spilled g
        label out (j.slots ∙ (h.has_frame.slots ∙ sym k.slots)) (j.body ∙ k.list)
