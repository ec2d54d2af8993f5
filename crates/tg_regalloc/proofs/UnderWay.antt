-- How far an allocation has come between two rounds: whatever rounds follow, the whole is one.
use Rattle.std.proofs.Common.{ℕ, zero, suc, ◌≡◌, ◌≢◌, ◌<◌, ◌≤◌, ◌+◌, List, [], ◌∷◌, ◌++◌, Option, Some, None, length, map, replicate, refl, ap, sym}
use Rattle.std.proofs.Common.{subst, ◌∙◌, arith, append_assoc}
use Rattle.std.specs.Prelude.{IsTrue, IsFalse, IfOk, Bool, true, false, Result, Ok, Err}
use Rattle.std.specs.List.{range_with_len}
use Rattle.std.specs.Option.{option_or}
use Rattle.std.proofs.lemmas.List.{length-replicate}
use Rattle.tg_frame.specs.declared.frames.Frame.{Frame}
use Rattle.tg_instr.specs.declared.codes.Code.{Code}
use Rattle.tg_irc_definition.specs.declared.rounds.Round.{Round}
use Rattle.tg_irc_definition.specs.Policies.{Rule}
use Rattle.tg_regalloc.specs.declared.allocations.Allocation.{Allocation}
use Rattle.tg_regalloc.specs.declared.allocations.Location.{Location}
use Rattle.tg_regalloc.specs.declared.allocations.Location.TheVariants.{Colour, Slot}
use Rattle.tg_regalloc.specs.mirror.InFrame.{code_in_frame, locations_from}
use Rattle.tg_regalloc.specs.Painting.{code_painted, colour_of}
use Rattle.tg_regalloc.specs.Rewriting.{slotted, slot_after, slot_in, code_rewritten, temps_after}
use Rattle.tg_regalloc.specs.Rounds.{BetweenRounds, stage_of, IsRoundOf, AreRounds, last_round, location_in, location_by}
use Rattle.tg_regalloc.specs.Rounds.AreRounds.{last, more}
use Rattle.tg_regalloc.specs.Allocations.{HasFrame, IsAllocation}
use Rattle.tg_regalloc.proofs.RewrittenBelow.{temps_grow}
use Rattle.tg_regalloc.proofs.Unspilled.{has_none}

-- in the slot that is known, or else in this location
abbrev location_after : Option ℕ → Location → Location
location_after None h = h
location_after (Some k) h = Slot k

-- in the slot of an earlier round, or of this one, or else in this location
two_slots : (a b : Option ℕ) (h : Location) → location_after a (elim b [ None ↦ h | Some k ↦ Slot k ]) ≡ location_after (option_or a b) h
two_slots None None h = refl
two_slots None (Some k) h = refl
two_slots (Some k) b h = refl

in_colour : (a : Option ℕ) (c : ℕ) → location_after a (Colour c) ≡ location_in a c
in_colour None c = refl
in_colour (Some k) c = refl

same_stage : (s t : BetweenRounds) → s.list ≡ t.list → s.temps ≡ t.temps → s.slots ≡ t.slots → s ≡ t
same_stage s t l m n = λ i. record { list = l i; temps = m i; slots = n i }

last_is : (rounds : List Round) (round : Round) → last_round (rounds ++ round ∷ []) ≡ round
last_is [] round = refl
last_is (a ∷ []) round = refl
last_is (a ∷ b ∷ rounds) round = last_is (b ∷ rounds) round

same_map : {A : Type 0} (f g : ℕ → A) (a n : ℕ) → ((t : ℕ) → t < a + n → f t ≡ g t) → map f (range_with_len a n) ≡ map g (range_with_len a n)
same_map f g a zero h = refl
same_map f g a (suc n) h =
    ap (λ y. y ∷ map f (range_with_len (a + 1) n)) (h a (omega arith)) ∙ ap (λ ys. g a ∷ ys) (same_map f g (a + 1) n (λ t l. h t (omega arith)))

clash : {b : Bool} → b ≡ true → b ≡ false → ⊥
clash {b = true} e f = cc
clash {b = false} e f = cc

-- what a round that spills makes of a stage, and of the locations with so many originals
pub record Follows (originals : ℕ) (round : Round) (now next : BetweenRounds) (locations locations' : List (Option ℕ)) : Type 0 where
  pub list : next.list ≡ code_rewritten (slot_after originals now.slots round) now.list now.temps
  pub temps : next.temps ≡ temps_after (slot_after originals now.slots round) now.list now.temps
  pub slots : next.slots ≡ now.slots + length (slotted originals round)
  pub size : length locations' ≡ length locations
  pub stand : (t : ℕ) → t < originals → slot_in locations' t ≡ option_or (slot_in locations t) (slot_after originals now.slots round t)

-- by the same rule, whatever slots there are
pub again : (rule rule' : Rule) (originals slots : ℕ) (code : Code) (round : Round) → rule ≡ rule' → IsRoundOf rule originals (stage_of code 0) round →
    IsRoundOf rule' originals (stage_of code slots) round
again rule rule' originals slots code round e h =
    subst (λ (q : Rule). IsRoundOf q originals (stage_of code slots) round) e (record { graph = h.graph; exact = h.exact; run = h.run })

module _ (rule : Rule) (code : Code) (frame : Frame) where
  pub record IsUnderWay (now : BetweenRounds) (locations : List (Option ℕ)) (rounds : List Round) : Type 0 where
    pub size : length locations ≡ code.temps
    pub more_temps : code.temps ≤ now.temps
    pub more_slots : frame.slots ≤ now.slots
    pub whole : (later : List Round) (end : BetweenRounds) → AreRounds rule code.temps now later end →
        AreRounds rule code.temps (stage_of code frame.slots) (rounds ++ later) end
    pub stand : (t : ℕ) → t < code.temps → (round : Round) (later : List Round) →
        location_by code.temps frame.slots (rounds ++ round ∷ later) t ≡ location_after (slot_in locations t) (location_by code.temps now.slots (round ∷ later) t)

  pub begins : (now : BetweenRounds) (locations : List (Option ℕ)) → now.list ≡ code.list → now.temps ≡ code.temps → now.slots ≡ frame.slots →
      locations ≡ replicate code.temps None → IsUnderWay now locations []
  begins now locations l m n h = record {
    size = ap length h ∙ length-replicate {A = Option ℕ} code.temps None;
    more_temps = omega (arith, m);
    more_slots = omega (arith, n);
    whole = λ later end a. subst (λ s. AreRounds rule code.temps s later end) (same_stage now (stage_of code frame.slots) l m n) a;
    stand = λ t k round later.
        ap (λ s. location_by code.temps s (round ∷ later) t) (sym n)
        ∙ ap (λ o. location_after o (location_by code.temps now.slots (round ∷ later) t)) (sym (ap (λ hs. slot_in hs t) h
        ∙ ap (λ f. f t) (has_none code.temps)));
  }

  module _ (now : BetweenRounds) (locations : List (Option ℕ)) (rounds : List Round) (round : Round) (so_far : IsUnderWay now locations rounds)
      (is_round : IsRoundOf rule code.temps now round) where
    pub goes_on : (next : BetweenRounds) (locations' : List (Option ℕ)) → slotted code.temps round ≢ [] →
        Follows code.temps round now next locations locations' →
        IsUnderWay next locations' (rounds ++ round ∷ [])
    goes_on next locations' some f = record {
      size = f.size ∙ so_far.size;
      more_temps = let a = so_far.more_temps in let b = temps_grow (slot_after code.temps now.slots round) now.list now.temps in let c = f.temps in omega arith;
      more_slots = let a = so_far.more_slots in let b = f.slots in omega arith;
      whole = λ later end a.
          subst (λ rs. AreRounds rule code.temps (stage_of code frame.slots) rs end) (sym (append_assoc rounds (round ∷ []) later))
          (so_far.whole (round ∷ later) end
          (more now end round later is_round some (subst (λ s. AreRounds rule code.temps s later end) (same_stage next _ f.list f.temps f.slots) a)));
      stand = λ t l round' later.
          ap (λ rs. location_by code.temps frame.slots rs t) (append_assoc rounds (round ∷ []) (round' ∷ later))
          ∙ (so_far.stand t l round (round' ∷ later)
          ∙ (two_slots (slot_in locations t) (slot_after code.temps now.slots round t)
          (location_by code.temps (now.slots + length (slotted code.temps round)) (round' ∷ later) t)
          ∙ (ap (λ o. location_after o (location_by code.temps (now.slots + length (slotted code.temps round)) (round' ∷ later) t)) (sym (f.stand t l))
          ∙ ap (λ s. location_after (slot_in locations' t) (location_by code.temps s (round' ∷ later) t)) (sym f.slots))));
    }

    module _ (a : Allocation) (none : slotted code.temps round ≡ []) (has_frame : HasFrame frame a) (all : a.rounds ≡ rounds ++ round ∷ []) where
      the_last : last_round a.rounds ≡ round
      the_last = ap last_round all ∙ last_is rounds round

      are_rounds : AreRounds rule code.temps (stage_of code frame.slots) a.rounds now
      are_rounds =
          subst (λ rs. AreRounds rule code.temps (stage_of code frame.slots) rs now) (sym all) (so_far.whole (round ∷ []) now (last now round is_round none))

      pub ends_coloured : round.spilled ≡ [] → a.done.code.list ≡ code_painted (colour_of round) now.list →
          a.registers ≡ map (λ t. location_in (slot_in locations t) (colour_of round t)) (range_with_len 0 (length locations)) →
          now.slots ≡ frame.slots + a.slots →
          IsFalse a.all_in_frame → IsAllocation rule code frame a
      ends_coloured spilled list registers slots coloured = record {
        end = now;
        rounds = are_rounds;
        has_frame = has_frame;
        coloured = λ h. record {
          nothing_spilled = ap (λ (r : Round). r.spilled) the_last ∙ spilled;
          list = list ∙ ap (λ r. code_painted (colour_of r) now.list) (sym the_last);
          registers =
              registers
              ∙ (ap (λ n. map (λ t. location_in (slot_in locations t) (colour_of round t)) (range_with_len 0 n)) so_far.size
              ∙ (same_map (λ t. location_in (slot_in locations t) (colour_of round t)) (location_by code.temps frame.slots (rounds ++ round ∷ [])) 0 code.temps
              (λ t l. sym (so_far.stand t (omega arith) round [] ∙ in_colour (slot_in locations t) (colour_of round t)))
              ∙ ap (λ rs. map (location_by code.temps frame.slots rs) (range_with_len 0 code.temps)) (sym all)));
          slots = slots;
        };
        in_frame = λ h. absurd (clash h coloured);
      }

      pub ends_in_frame : round.spilled ≢ [] → a.done.code.list ≡ code_in_frame frame.slots code.list → a.registers ≡ locations_from frame.slots code.temps →
          a.slots ≡ code.temps → IsTrue a.all_in_frame → IsAllocation rule code frame a
      ends_in_frame spilled list registers slots in_frame = record {
        end = now;
        rounds = are_rounds;
        has_frame = has_frame;
        coloured = λ h. absurd (clash in_frame h);
        in_frame = λ h. record {
          something_spilled = λ e. spilled (sym (ap (λ (r : Round). r.spilled) the_last) ∙ e);
          list = list;
          registers = registers;
          slots = slots;
        };
      }

    -- the same of what is answered
    module _ {E : Type 0} (none : slotted code.temps round ≡ []) where
      pub coloured_if : (r : Result Allocation E) → round.spilled ≡ [] → IfOk r (λ a. HasFrame frame a) → IfOk r (λ a. a.rounds ≡ rounds ++ round ∷ []) →
          IfOk r (λ a. a.done.code.list ≡ code_painted (colour_of round) now.list) →
          IfOk r (λ a. a.registers ≡ map (λ t. location_in (slot_in locations t) (colour_of round t)) (range_with_len 0 (length locations))) →
          IfOk r (λ a. now.slots ≡ frame.slots + a.slots) → IfOk r (λ a. IsFalse a.all_in_frame) → IfOk r (λ a. IsAllocation rule code frame a)
      coloured_if (Ok a) spilled has_frame all list registers slots coloured = ends_coloured a none has_frame all spilled list registers slots coloured
      coloured_if (Err e) spilled has_frame all list registers slots coloured = tt

      pub in_frame_if : (r : Result Allocation E) → round.spilled ≢ [] → IfOk r (λ a. HasFrame frame a) → IfOk r (λ a. a.rounds ≡ rounds ++ round ∷ []) →
          IfOk r (λ a. a.done.code.list ≡ code_in_frame frame.slots code.list) → IfOk r (λ a. a.registers ≡ locations_from frame.slots code.temps) →
          IfOk r (λ a. a.slots ≡ code.temps) → IfOk r (λ a. IsTrue a.all_in_frame) → IfOk r (λ a. IsAllocation rule code frame a)
      in_frame_if (Ok a) spilled has_frame all list registers slots in_frame = ends_in_frame a none has_frame all spilled list registers slots in_frame
      in_frame_if (Err e) spilled has_frame all list registers slots in_frame = tt
