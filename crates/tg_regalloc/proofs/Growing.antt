-- How much of a code comes of each instruction: the blocks of the first code, those after each
-- round, and what painting leaves of the last.
use Rattle.std.proofs.Common.{lit≤}
use Rattle.std.proofs.Common.{ℕ, suc, ◌≡◌, ◌≤◌, ◌<◌, ◌+◌, ◌*◌, List, [], ◌∷◌, ◌++◌, Bool, true, false, cond, Option, Some, None, length, refl, ap}
use Rattle.std.proofs.Common.{sym, subst, ◌∙◌, arith, ◌⊎◌, inl, inr}
use Rattle.std.specs.Prelude.{IsTrue, IsFalse, nat_lt, not, filter, map, sum_by, if◌then◌else◌}
use Rattle.std.specs.List.{AllByRecursion, list_all}
use Rattle.std.proofs.lemmas.Bool.{lt-ltb, le-ltb}
use Rattle.std.proofs.lemmas.List.{length-append, map-append}
use Rattle.std.proofs.lemmas.List.Elements.{filter-append}
use Rattle.std.proofs.lemmas.List.Sums.{sum_by-append, sum_by-cons}
use Rattle.tg_instr.specs.declared.operands.Opnd.{Opnd}
use Rattle.tg_instr.specs.declared.operands.Opnd.TheVariants.{Temp, Reg}
use Rattle.tg_instr.specs.declared.instr.Instr.{Instr}
use Rattle.tg_instr.specs.declared.instr.Instr.TheVariants.{Move, Call}
use Rattle.tg_instr.specs.declared.renaming.Named.{Named}
use Rattle.tg_instr.specs.Codes.{has_temps_below}
use Rattle.tg_instr.specs.Lengths.{words_of, words, most_words}
use Rattle.tg_instr.specs.Renaming.{named}
use Rattle.tg_instr.proofs.Tests.{left_holds, right_holds}
use Rattle.tg_frame.specs.declared.frames.Frame.{Frame}
use Rattle.tg_instr.specs.declared.codes.Code.{Code}
use Rattle.tg_irc_definition.specs.declared.rounds.Round.{Round}
use Rattle.tg_irc_definition.specs.Policies.{Rule}
use Rattle.tg_regalloc.specs.declared.allocations.Allocation.{Allocation}
use Rattle.tg_regalloc.specs.glue.Below.{is_option_below}
use Rattle.tg_regalloc.specs.mirror.InFrame.{moved, instruction_in_frame, code_in_frame}
use Rattle.tg_regalloc.specs.Rewriting.{next_after, code_rewritten, temps_after}
use Rattle.tg_regalloc.specs.Painting.{is_idle, painted_named, instruction_painted, code_painted, colour_of}
use Rattle.tg_regalloc.specs.Rounds.{BetweenRounds, stage_of, AreRounds, slots_by, next_stage, last_round}
use Rattle.tg_regalloc.specs.Rounds.AreRounds.{last, more}
use Rattle.tg_regalloc.specs.laws.Growth.{most_steps, steps, blocks_rewritten, blocks_behind, blocks_of, BlockIsSmall, AreSmall, AllocationsGrowLittle}
use Rattle.tg_regalloc.specs.laws.Growth.AreSmall.{none, also}
use Rattle.tg_regalloc.proofs.Counts.{one_length, named_steps, through_steps}
use Rattle.tg_regalloc.proofs.Naming.{to_below, first_below, second_below}
use Rattle.tg_regalloc.proofs.RewrittenBelow.{temps_below}
use Rattle.tg_regalloc.proofs.Renamed.{is_move, words_renamed, steps_renamed, temps_rise, code_append}
use Rattle.tg_regalloc.proofs.Blocks.{Known, IsFinal, AreFinal, IsFitNamed, count_of, operands, outer_in, outers, IsBlock, AreBlocks, code_of}
use Rattle.tg_regalloc.proofs.Blocks.{partner_kept, partner_made, ArePartners, Follows}
use Rattle.tg_regalloc.proofs.Blocks.IsFinal.{load, store, between}
use Rattle.tg_regalloc.proofs.Blocks.IsFit.{outer}
use Rattle.tg_regalloc.proofs.Blocks.IsBlock.{straight, whole, loaded, stored, final}
use Rattle.tg_regalloc.proofs.Blocks.AreBlocks.{none as no_blocks, also as also_block}
use Rattle.tg_regalloc.proofs.BlocksKept.{blocks_go}
use Rattle.tg_regalloc.proofs.Slotting.{EndsFit, blocks_ends, is_slotting}
use Rattle.tg_regalloc.proofs.OneRound.{HasTempsBelow}

-- The blocks of the code that was handed in.

move_or_not : (one : Instr) → ((to : Opnd) × (from : Opnd) × (one ≡ Move to from)) ⊎ (IsFalse (is_move one))
move_or_not (Move to from) = inl (to, from, refl)
move_or_not _ = inr refl

outer_few : (n : ℕ) (o : Option Opnd) → outer_in n o ≤ count_of o
outer_few n (Some (Temp t)) = by (nat_lt t.0 n)
  where
    by : (b : Bool) → cond b 1 0 ≤ 1
    by true = lit≤ tt
    by false = lit≤ tt
outer_few n (Some (Reg r)) = lit≤ tt
outer_few n None = lit≤ tt

count_few : (o : Option Opnd) → count_of o ≤ 1
count_few (Some x) = lit≤ tt
count_few None = lit≤ tt

operands_few : (x : Named) → operands x ≤ 3
operands_few x = let a = count_few x.to in let b = count_few x.first in let c = count_few x.second in omega arith

module _ (n : ℕ) where
  abbrev first_known : Known
  first_known = record { bound = n; partner = λ m. None }

  fit_at_start : (o : Option Opnd) → IsTrue (is_option_below n o) → IsFitNamed n (record { bound = n; partner = λ m. None }) o
  fit_at_start (Some x) h = outer x h
  fit_at_start None h = tt

  -- the block of one instruction, for which at most four temporaries are made
  record Starts (one : Instr) : Type 0 where
    left : ℕ
    is_block : IsBlock n (record { bound = n; partner = λ m. None }) one (one ∷ []) left
    few_left : left ≤ 4

  one_starts : (one : Instr) → IsTrue (has_temps_below n one) → Starts one
  one_starts one h = by (move_or_not one)
    where
      by : ((to : Opnd) × (from : Opnd) × (one ≡ Move to from)) ⊎ (IsFalse (is_move one)) → Starts one
      by (inl e) =
          let h' = subst (λ (x : Instr). IsTrue (has_temps_below n x)) e.2 h in
          subst (λ (x : Instr). Starts x) (sym e.2) (record {
            left = 4;
            is_block = whole e.0 e.1 e.0 e.1 (to_below n (Move e.0 e.1) h') (first_below n (Move e.0 e.1) h');
            few_left = lit≤ tt;
          })
      by (inr calm) =
          let a = outer_few n (named one).to in
          let b = outer_few n (named one).first in
          let c = outer_few n (named one).second in
          let d = operands_few (named one) in
          record {
            left = outers n (named one);
            is_block = straight one one [] [] calm (record {
              no_move = calm;
              words = refl;
              steps = refl;
              to = fit_at_start (named one).to (to_below n one h);
              first = fit_at_start (named one).first (first_below n one h);
              second = fit_at_start (named one).second (second_below n one h);
            }) tt tt (omega (arith, a, b, c));
            few_left = omega (arith, a, b, c, d);
          }

  record AllStart (list : List Instr) : Type 0 where
    left : ℕ
    blocks : AreBlocks n (record { bound = n; partner = λ m. None }) list (map (λ one. one ∷ []) list) left
    few_left : left ≤ 4 * length list

  all_start : (list : List Instr) → IsTrue (list_all (has_temps_below n) list) → AllStart list
  all_start [] h = record { left = 0; blocks = no_blocks; few_left = omega arith }
  all_start (one ∷ rest) h =
      let a = one_starts one (left_holds _ _ h) in
      let b = all_start rest (right_holds (has_temps_below n one) _ h) in
      let a' = a.few_left in
      let b' = b.few_left in
      record {
        left = a.left + b.left;
        blocks = also_block one (one ∷ []) rest (map (λ one. one ∷ []) rest) a.left b.left a.is_block b.blocks;
        few_left = omega (arith, a', b');
      }

-- at the start the blocks are the code
code_of_singles : (list : List Instr) → code_of (map (λ one. one ∷ []) list) ≡ list
code_of_singles [] = refl
code_of_singles (one ∷ rest) = ap (λ l. one ∷ l) (code_of_singles rest)

-- Partners after a round.

module _ (n : ℕ) (slot_of : ℕ → Option ℕ) where
  abbrev partner_after : List Instr → (next : ℕ) → (ℕ → Option Opnd) → ℕ → Option Opnd
  partner_after [] next q = q
  partner_after (one ∷ rest) next q =
      partner_after rest (next_after slot_of one next) (λ m. if nat_lt m next then q m else partner_made n slot_of one)

  after_below : (list : List Instr) (next : ℕ) (q : ℕ → Option Opnd) (m : ℕ) → m < next → partner_after list next q m ≡ q m
  after_below [] next q m l = refl
  after_below (one ∷ rest) next q m l =
      after_below rest (next_after slot_of one next) (λ m. if nat_lt m next then q m else partner_made n slot_of one) m (omega arith) ∙
      ap (λ t. if t then q m else partner_made n slot_of one) (lt-ltb m next l)

  are_partners : (list : List Instr) (next : ℕ) (q : ℕ → Option Opnd) → ArePartners n slot_of list next (partner_after list next q)
  are_partners [] next q = tt
  are_partners (one ∷ rest) next q = (
    λ m l u. after_below rest (next_after slot_of one next) (λ m. if nat_lt m next then q m else partner_made n slot_of one) m u ∙
        ap (λ t. if t then q m else partner_made n slot_of one) (le-ltb m next l),
    are_partners rest (next_after slot_of one next) (λ m. if nat_lt m next then q m else partner_made n slot_of one),
  )

-- Sizes.

words_of_steps : (one : Instr) → words_of one ≤ most_steps one
words_of_steps (Call label) = lit≤ tt
words_of_steps _ = omega arith

-- words are steps too
words_are_steps : (list : List Instr) → words list ≤ steps list
words_are_steps [] = lit≤ tt
words_are_steps (one ∷ rest) =
    let a = words_of_steps one in
    let b = words_are_steps rest in
    let e = sum_by-cons words_of one rest in
    let f = sum_by-cons most_steps one rest in
    omega (arith, a, b, e, f)

module _ (n : ℕ) (k : Known) where
  final_steps : (one : Instr) → IsFinal n k one → most_steps one ≤ 3
  final_steps _ (load m slot h) = lit≤ tt
  final_steps _ (store m slot h) = lit≤ tt
  final_steps _ (between to from h i) = lit≤ tt

  finals_steps : (list : List Instr) → AreFinal n k list → steps list ≤ 3 * length list
  finals_steps [] h = lit≤ tt
  finals_steps (one ∷ rest) h =
      let a = final_steps one h.0 in
      let b = finals_steps rest h.1 in
      let e = sum_by-cons most_steps one rest in
      omega (arith, a, b, e)

  -- few instructions and steps are few words
  small : (one : Instr) (block : List Instr) → length block ≤ 5 → steps block ≤ most_words one → BlockIsSmall one block
  small one block l s = let w = words_are_steps block in record { few = l; short = omega (arith, w, s); quick = s }

  block_small : {one : Instr} {block : List Instr} {left : ℕ} → IsBlock n k one block left → BlockIsSmall one block
  block_small (straight one core before after calm h hb ha count) =
      let a = finals_steps before hb in
      let b = finals_steps after ha in
      let c = named_steps one in
      let d = operands_few (named one) in
      let w = h.steps in
      let l = length-append before (core ∷ after) in
      let s = sum_by-append most_steps before (core ∷ after) in
      let s' = sum_by-cons most_steps core after in
      small one (before ++ (core ∷ after)) (omega (arith, count, d, l)) (omega (arith, a, b, c, w, s, s', count))
  block_small (whole to from x y hx hy) = small (Move to from) _ (lit≤ tt) (lit≤ tt)
  block_small (loaded to from a m slot h) = small (Move to from) _ (lit≤ tt) (lit≤ tt)
  block_small (stored to from a m slot h) = small (Move to from) _ (lit≤ tt) (lit≤ tt)
  block_small (final to from list h l w) = small (Move to from) list l w

module _ (colour : ℕ → ℕ) where
  kept_length : (idle : Bool) (one : Instr) (rest : List Instr) → length (cond (not idle) (one ∷ rest) rest) ≤ suc (length rest)
  kept_length true one rest = omega arith
  kept_length false one rest = omega arith

  kept_steps : (idle : Bool) (one : Instr) (rest : List Instr) → steps (cond (not idle) (one ∷ rest) rest) ≤ most_steps one + steps rest
  kept_steps true one rest = omega arith
  kept_steps false one rest = let e = sum_by-cons most_steps one rest in omega (arith, e)

  kept_words : (idle : Bool) (one : Instr) (rest : List Instr) → words (cond (not idle) (one ∷ rest) rest) ≤ words_of one + words rest
  kept_words true one rest = omega arith
  kept_words false one rest = let e = sum_by-cons words_of one rest in omega (arith, e)

  painted_length : (list : List Instr) → length (code_painted colour list) ≤ length list
  painted_length [] = lit≤ tt
  painted_length (x ∷ rest) =
      let a = kept_length (is_idle (instruction_painted colour x)) (instruction_painted colour x) (code_painted colour rest) in
      let b = painted_length rest in
      omega (arith, a, b)

  painted_words : (list : List Instr) → words (code_painted colour list) ≤ words list
  painted_words [] = lit≤ tt
  painted_words (x ∷ rest) =
      let a = kept_words (is_idle (instruction_painted colour x)) (instruction_painted colour x) (code_painted colour rest) in
      let b = painted_words rest in
      let w = words_renamed x (painted_named colour (named x).to) (painted_named colour (named x).first) (painted_named colour (named x).second) in
      let e = sum_by-cons words_of x rest in
      omega (arith, a, b, w, e)

  painted_steps : (list : List Instr) → steps (code_painted colour list) ≤ steps list
  painted_steps [] = lit≤ tt
  painted_steps (x ∷ rest) =
      let a = kept_steps (is_idle (instruction_painted colour x)) (instruction_painted colour x) (code_painted colour rest) in
      let b = painted_steps rest in
      let w = steps_renamed x (painted_named colour (named x).to) (painted_named colour (named x).first) (painted_named colour (named x).second) in
      let e = sum_by-cons most_steps x rest in
      omega (arith, a, b, w, e)

  painted_append : (xs ys : List Instr) → code_painted colour (xs ++ ys) ≡ code_painted colour xs ++ code_painted colour ys
  painted_append xs ys =
      ap (filter (λ one. not (is_idle one))) (map-append (instruction_painted colour) xs ys) ∙
      filter-append (λ one. not (is_idle one)) (map (instruction_painted colour) xs) (map (instruction_painted colour) ys)

  painted_small : (one : Instr) (xs : List Instr) → BlockIsSmall one xs → BlockIsSmall one (code_painted colour xs)
  painted_small one xs h =
      let a = painted_length xs in
      let b = painted_words xs in
      let c = painted_steps xs in
      let l = h.few in
      let w = h.short in
      let q = h.quick in
      record { few = omega (arith, a, l); short = omega (arith, b, w); quick = omega (arith, c, q) }

  blocks_small : {n : ℕ} {k : Known} {originals : List Instr} {blocks : List (List Instr)} {left : ℕ} →
      AreBlocks n k originals blocks left → AreSmall originals (map (code_painted colour) blocks)
  blocks_small no_blocks = none
  blocks_small {n} {k} (also_block one block rest blocks left lefts h hs) =
      also one (code_painted colour block) rest (map (code_painted colour) blocks) (painted_small one block (block_small n k h)) (blocks_small hs)

  code_of_painted : (blocks : List (List Instr)) → code_of (map (code_painted colour) blocks) ≡ code_painted colour (code_of blocks)
  code_of_painted [] = refl
  code_of_painted (block ∷ blocks) =
      ap (λ l. code_painted colour block ++ l) (code_of_painted blocks) ∙ sym (painted_append block (code_of blocks))

-- All rounds.

-- after a round the blocks are the next code
code_of_rewritten : (slot_of : ℕ → Option ℕ) (blocks : List (List Instr)) (next : ℕ) →
    code_of (blocks_rewritten slot_of blocks next) ≡ code_rewritten slot_of (code_of blocks) next
code_of_rewritten slot_of [] next = refl
code_of_rewritten slot_of (block ∷ blocks) next =
    ap (λ l. code_rewritten slot_of block next ++ l) (code_of_rewritten slot_of blocks (temps_after slot_of block next)) ∙
    sym (code_append slot_of block (code_of blocks) next)

-- the blocks after the rounds
record Grown (n : ℕ) (originals : List Instr) (s t : BetweenRounds) (rounds : List Round) (blocks : List (List Instr)) (left : ℕ) : Type 0 where
  small : AreSmall originals (blocks_behind n s rounds blocks)
  whole : code_of (blocks_behind n s rounds blocks) ≡ code_painted (colour_of (last_round rounds)) t.list
  still : ℕ
  budget : still + t.temps ≤ left + s.temps

module _ (rule : Rule) (n : ℕ) (originals : List Instr) where
  -- a round that another follows
  goes_on : (s : BetweenRounds) {t u : BetweenRounds} {rounds : List Round} → AreRounds rule n u rounds t → (round : Round) (blocks : List (List Instr)) →
      (last_round (round ∷ rounds) ≡ last_round rounds) ×
      (blocks_behind n s (round ∷ rounds) blocks ≡
      blocks_behind n (next_stage n s round) rounds (blocks_rewritten (slots_by n s round) blocks s.temps))
  goes_on s (last u first r e) round blocks = (refl, refl)
  goes_on s (more u t first rounds r ne rest) round blocks = (refl, refl)

  rounds_grow : {s t : BetweenRounds} {rounds : List Round} → AreRounds rule n s rounds t → HasTempsBelow s → n ≤ s.temps →
      (partner : ℕ → Option Opnd) (left : ℕ) (blocks : List (List Instr)) → code_of blocks ≡ s.list →
      AreBlocks n (record { bound = s.temps; partner = partner }) originals blocks left →
      Grown n originals s t rounds blocks left
  rounds_grow (last s round r e) below some partner left blocks same h =
      record {
        small = blocks_small (colour_of round) h;
        whole = code_of_painted (colour_of round) blocks ∙ ap (code_painted (colour_of round)) same;
        still = left;
        budget = omega arith;
      }
  rounds_grow (more s t round rounds r ne rest) below some partner left blocks same h =
      let k : Known = record { bound = s.temps; partner = partner } in
      let slot_of = slots_by n s round in
      let list = code_of blocks in
      let after = partner_after n slot_of list s.temps (λ m. partner_kept n slot_of (partner m)) in
      let k' : Known = record { bound = temps_after slot_of list s.temps; partner = after } in
      let rises = temps_rise slot_of list s.temps in
      let follows : Follows n slot_of k k' = record {
        old = after_below n slot_of list s.temps (λ m. partner_kept n slot_of (partner m));
        grows = rises;
      } in
      let ends = subst (AllByRecursion (EndsFit n k)) same (blocks_ends n k h) in
      let go = blocks_go n slot_of k k' (is_slotting rule n s round r below some partner ends) follows some h s.temps (omega arith)
      (are_partners n slot_of list s.temps (λ m. partner_kept n slot_of (partner m))) (omega arith) in
      let b = go.budget in
      let temps : temps_after slot_of list s.temps ≡ temps_after slot_of s.list s.temps = ap (λ l. temps_after slot_of l s.temps) same in
      let behind = rounds_grow rest (temps_below slot_of s.list s.temps below) (omega (arith, some, rises, temps)) after go.still
      (blocks_rewritten slot_of blocks s.temps)
      (code_of_rewritten slot_of blocks s.temps ∙ ap (λ l. code_rewritten slot_of l s.temps) same)
      (subst (λ m. AreBlocks n (record { bound = m; partner = after }) originals (blocks_rewritten slot_of blocks s.temps) go.still)
      temps go.are_blocks) in
      let b' = behind.budget in
      let e = goes_on s rest round blocks in
      record {
        small = subst (AreSmall originals) (sym e.1) behind.small;
        whole = ap code_of e.1 ∙ (behind.whole ∙ ap (λ (last : Round). code_painted (colour_of last) t.list) (sym e.0));
        still = behind.still;
        budget = omega (arith, b, b', temps);
      }

-- Everything in the frame.

frame_steps : (base : ℕ) (one : Instr) → steps (instruction_in_frame base one) ≤ most_words one
frame_steps base (Move to from) = moved_steps to from
  where
    moved_steps : (to from : Opnd) → steps (moved base to from) ≤ 13
    moved_steps (Temp t) (Temp s) = lit≤ tt
    moved_steps (Temp t) (Reg q) = lit≤ tt
    moved_steps (Reg r) (Temp s) = lit≤ tt
    moved_steps (Reg r) (Reg q) = lit≤ tt
frame_steps base one = through_steps base one

in_frame_small : (base : ℕ) (list : List Instr) → AreSmall list (map (instruction_in_frame base) list)
in_frame_small base [] = none
in_frame_small base (one ∷ rest) =
    let l = one_length base one in
    let s = frame_steps base one in
    let w = words_are_steps (instruction_in_frame base one) in
    also one (instruction_in_frame base one) rest (map (instruction_in_frame base) rest)
    (record { few = omega (arith, l); short = omega (arith, w, s); quick = s }) (in_frame_small base rest)

code_of_in_frame : (base : ℕ) (list : List Instr) → code_of (map (instruction_in_frame base) list) ≡ code_in_frame base list
code_of_in_frame base [] = refl
code_of_in_frame base (one ∷ rest) = ap (λ l. instruction_in_frame base one ++ l) (code_of_in_frame base rest)

small_length : {list : List Instr} {blocks : List (List Instr)} → AreSmall list blocks → length (code_of blocks) ≤ 5 * length list
small_length none = lit≤ tt
small_length (also one xs rest blocks h hs) =
    let a = h.few in
    let b = small_length hs in
    let e = length-append xs (code_of blocks) in
    omega (arith, a, b, e)

small_words : {list : List Instr} {blocks : List (List Instr)} → AreSmall list blocks → words (code_of blocks) ≤ sum_by most_words list
small_words none = lit≤ tt
small_words (also one xs rest blocks h hs) =
    let a = h.short in
    let b = small_words hs in
    let e = sum_by-append words_of xs (code_of blocks) in
    let f = sum_by-cons most_words one rest in
    omega (arith, a, b, e, f)

-- the blocks of an allocation, by whether it put everything in the frame
abbrev blocks_by : Code → Frame → Allocation → Bool → List (List Instr)
blocks_by code frame a all =
    if all then map (instruction_in_frame frame.slots) code.list else
    blocks_behind code.temps (stage_of code frame.slots) a.rounds (map (λ one. one ∷ []) code.list)

pub regalloc_is_bounded : AllocationsGrowLittle
regalloc_is_bounded rule code frame a h =
    record {
      whole = whole;
      small = are_small;
      few = subst (λ l. length l ≤ 5 * length code.list) whole (small_length are_small);
      short = subst (λ l. words l ≤ sum_by most_words code.list) whole (small_words are_small);
      made = let b = grown.budget in let f = start.few_left in omega (arith, b, f);
    }
  where
    start : AllStart code.temps code.list
    start = all_start code.temps code.list code.temps_below

    grown : Grown code.temps code.list (stage_of code frame.slots) h.end a.rounds (map (λ one. one ∷ []) code.list)
        (all_start code.temps code.list code.temps_below).left
    grown =
        rounds_grow rule code.temps code.list h.rounds code.temps_below (omega arith) (λ m. None)
        (all_start code.temps code.list code.temps_below).left (map (λ one. one ∷ []) code.list) (code_of_singles code.list)
        (all_start code.temps code.list code.temps_below).blocks

    are_small : AreSmall code.list (blocks_of code frame a)
    are_small = by a.all_in_frame
      where
        by : (all : Bool) → AreSmall code.list (blocks_by code frame a all)
        by false = grown.small
        by true = in_frame_small frame.slots code.list

    whole : code_of (blocks_of code frame a) ≡ a.done.code.list
    whole = by a.all_in_frame refl
      where
        by : (all : Bool) → a.all_in_frame ≡ all → code_of (blocks_by code frame a all) ≡ a.done.code.list
        by false e = grown.whole ∙ sym (h.coloured e).list
        by true e = code_of_in_frame frame.slots code.list ∙ sym (h.in_frame e).list
