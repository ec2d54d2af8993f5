-- The code and the frame of a function that is allocated, by its tree and by its text.
use Rattle.std.proofs.Common.{◌+◌, ◌≡◌, ◌≢◌, ◌≤◌, List, [], ◌∷◌, sum_by, refl, ap, arith}
use Rattle.tg_tree.specs.Tree.{Tx, Call, Txs, no_txs, tx, Ts, Move, Do, Linear, Do', Function}
use Rattle.tg_tree.specs.Units.{Canonical}
use Rattle.tg_tree.specs.Sizes.{arguments_length, expression_length, statement_length, element_length, code_length, flat_length, flat_needs}
use Rattle.tg_canon_trace_proof.specs.Flattened.{flattened}
use Rattle.tg_canon_trace_proof.specs.laws.Laws as carried
use Rattle.tg_instr.specs.declared.operands.Opnd.{Opnd}
use Rattle.tg_instr.specs.declared.instr.Instr.{Instr}
use Rattle.tg_instr.specs.declared.instr.Instr.TheVariants as instr
use Rattle.tg_munch.specs.laws.Lengths.{InstructionsAreFew, CountsWords, WordsAreFew}
use Rattle.tg_munch.specs.mirror.Bodies.{count, out_of, out_of_statement, out_of_element, outs, munched}
use Rattle.tg_instr.specs.Lengths.{most_words}
use Rattle.tg_redundancy.specs.mirror.Known.{known_code}
use Rattle.tg_redundancy.specs.laws.Laws.{KnownIsShort}
use Rattle.tg_regalloc.specs.laws.Growth.{AllocationsAreShort, AllocationsGrowLittle}
use Rattle.tg_code_bounds.specs.laws.Laws.{LinesAreShort, CodeIsShort, FramesAreSmall, FunctionsArePaid}

-- the words for the arguments of a call are no more than its length
arguments_counted : (xs : Txs) → count xs ≤ arguments_length Canonical xs
arguments_counted no_txs = omega arith
arguments_counted (tx x rest) = let h = arguments_counted rest in omega (arith, h)

out_short : (x : Tx) → out_of x ≤ expression_length Canonical x
out_short (Call label xs) = let h = arguments_counted xs in omega (arith, h)
out_short _ = omega arith

statement_out_short : (s : Ts) → out_of_statement s ≤ statement_length Canonical s
statement_out_short (Move i x) = let h = out_short x in omega (arith, h)
statement_out_short (Do x) = let h = out_short x in omega (arith, h)
statement_out_short _ = omega arith

element_out_short : (e : Linear) → out_of_element e ≤ element_length e
element_out_short (Do' s) = let h = statement_out_short s in omega (arith, h)
element_out_short _ = omega arith

outs_short : (code : List Linear) → outs code ≤ code_length code
outs_short [] = omega arith
outs_short (e ∷ rest) = let h = element_out_short e in let k = outs_short rest in omega (arith, h, k)

-- the frame of a function's flat code, within its needs and its length
frame_in_needs : (g : Function (List Linear)) → g.slots + g.temps ≤ flat_needs g
frame_in_needs g = omega arith

outs_in_length : (g : Function (List Linear)) → outs g.body ≤ flat_length g
outs_in_length g = let h = outs_short g.body in omega (arith, h)

pub frames_are_small : carried.LengthStays → carried.NeedsStay → InstructionsAreFew → AllocationsAreShort → FramesAreSmall
frames_are_small length_stays needs_stay few short rule f a may h =
    let g = flattened f in
    let long = length_stays f may in
    let room = needs_stay f may in
    let drawn = (few g).temps in
    let spilled = (short rule h.code h.frame a h.allocation).slots in
    let slots = h.allocation.has_frame.slots in
    let out = h.allocation.has_frame.out in
    let same : g.slots ≡ f.slots = refl in
    omega (arith, long, room, drawn, spilled, slots, out, same, frame_in_needs g, outs_in_length g, h.chooses.slots, h.chooses.out, h.chooses.temps)

-- a move, and any other instruction, in an allocation
others_short : (one : Instr) → ((to from : Opnd) → one ≢ instr.Move to from) → most_words one ≤ 10
others_short (instr.Move to from) differs = absurd (differs to from refl)
others_short _ differs = omega arith

counts_words : CountsWords most_words
counts_words = record { moves = λ to from. omega arith; others = others_short }

pub code_is_short : LinesAreShort → carried.LengthStays → AllocationsGrowLittle → WordsAreFew → KnownIsShort → CodeIsShort
code_is_short lines length_stays grow words_few known_short rule f a may h turned =
    let long = length_stays f may in
    let written = lines turned a.done in
    let grown = (grow rule h.code h.frame a h.allocation).short in
    let same : sum_by most_words h.code.list ≡ sum_by most_words (known_code (munched (flattened f)).code) =
    ap (sum_by most_words) h.chooses.list in
    let known = (known_short (munched (flattened f)).code).short in
    let few = words_few most_words (flattened f) counts_words in
    omega (arith, long, written, grown, same, known, few)

pub functions_are_paid : CodeIsShort → FramesAreSmall → FunctionsArePaid
functions_are_paid code frames rule m f g a level within reduced may h =
    let long = within.short level in
    let room = within.small level in
    let no_longer = reduced.short in
    let no_larger = reduced.small in
    record {
      short = λ turned. let c = code rule g a may h turned in omega (arith, long, no_longer, c);
      small = let b = frames rule g a may h in omega (arith, long, room, no_longer, no_larger, b);
    }
