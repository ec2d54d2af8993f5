-- How long code in the frame is.
use Rattle.std.proofs.Common.{ℕ, ◌≡◌, ◌≤◌, ◌+◌, ◌*◌, suc, List, [], ◌∷◌, ◌++◌, Option, Some, None, length, refl, arith, length-append, lit≤}
use Rattle.std.proofs.lemmas.List.Sums.{sum_by-append, sum_by-cons}
use Rattle.tg_instr.specs.declared.operands.Opnd.{Opnd}
use Rattle.tg_instr.specs.declared.operands.Opnd.TheVariants.{Temp, Reg}
use Rattle.tg_instr.specs.declared.instr.Instr.{Instr}
use Rattle.tg_instr.specs.declared.instr.Instr.TheVariants.{Move, Mark, FrameLoad, FrameStore, FrameAddress, Address, Branch, Return}
use Rattle.tg_instr.specs.Lengths.{words_of, words, most_words}
use Rattle.tg_instr.specs.Renaming.{named, renamed}
use Rattle.tg_regalloc.specs.laws.Growth.{most_steps, steps}
use Rattle.tg_regalloc.proofs.Renamed.{steps_renamed}
use Rattle.tg_regalloc.proofs.Blocks.{count_of, operands}
use Rattle.tg_regalloc.specs.mirror.InFrame.{through_named, loaded, stored, moved, through_slots, instruction_in_frame, code_in_frame}

loaded_length : (base r : ℕ) (o : Option Opnd) → length (loaded base r o) ≤ 1
loaded_length base r (Some (Temp t)) = lit≤ tt
loaded_length base r (Some (Reg q)) = lit≤ tt
loaded_length base r None = lit≤ tt

stored_length : (base r : ℕ) (o : Option Opnd) → length (stored base r o) ≤ 1
stored_length base r (Some (Temp t)) = lit≤ tt
stored_length base r (Some (Reg q)) = lit≤ tt
stored_length base r None = lit≤ tt

moved_length : (base : ℕ) (to from : Opnd) → length (moved base to from) ≤ 4
moved_length base (Temp t) (Temp s) = lit≤ tt
moved_length base (Temp t) (Reg q) = lit≤ tt
moved_length base (Reg r) (Temp s) = lit≤ tt
moved_length base (Reg r) (Reg q) = lit≤ tt

through_length : (base : ℕ) (one : Instr) → length (through_slots base one (named one)) ≤ 4
through_length base one =
    let a = loaded base 8 (named one).first in
    let b = loaded base 9 (named one).second in
    let c = renamed one (through_named 8 (named one).to) (through_named 8 (named one).first) (through_named 9 (named one).second) ∷ stored base 8 (named one).to in
    let h = loaded_length base 8 (named one).first in
    let k = loaded_length base 9 (named one).second in
    let l = stored_length base 8 (named one).to in
    let e : length (a ++ (b ++ c)) ≡ length a + length (b ++ c) = length-append a (b ++ c) in
    let f : length (b ++ c) ≡ length b + length c = length-append b c in
    let g : length c ≡ suc (length (stored base 8 (named one).to)) = refl in
    omega arith

pub one_length : (base : ℕ) (one : Instr) → length (instruction_in_frame base one) ≤ 4
one_length base (Move to from) = moved_length base to from
one_length base one = through_length base one

pub few : (base : ℕ) (list : List Instr) → length (code_in_frame base list) ≤ 4 * length list
few base [] = lit≤ tt
few base (one ∷ rest) =
    let e : length (instruction_in_frame base one ++ code_in_frame base rest) ≡ length (instruction_in_frame base one) + length (code_in_frame base rest) = length-append (instruction_in_frame base one) (code_in_frame base rest) in
    let h = one_length base one in
    let k = few base rest in
    omega arith

-- words of code
loaded_words : (base r : ℕ) (o : Option Opnd) → words (loaded base r o) ≤ 3
loaded_words base r (Some (Temp t)) = lit≤ tt
loaded_words base r (Some (Reg q)) = lit≤ tt
loaded_words base r None = lit≤ tt

stored_words : (base r : ℕ) (o : Option Opnd) → words (stored base r o) ≤ 3
stored_words base r (Some (Temp t)) = lit≤ tt
stored_words base r (Some (Reg q)) = lit≤ tt
stored_words base r None = lit≤ tt

moved_words : (base : ℕ) (to from : Opnd) → words (moved base to from) ≤ 10
moved_words base (Temp t) (Temp s) = lit≤ tt
moved_words base (Temp t) (Reg q) = lit≤ tt
moved_words base (Reg r) (Temp s) = lit≤ tt
moved_words base (Reg r) (Reg q) = lit≤ tt

-- with so many words of the instruction, and at most so many before and after it
sum_words : (base : ℕ) (one : Instr) (x y z : Opnd) (a b c n : ℕ) → words (loaded base 8 (named one).first) ≤ a →
    words (loaded base 9 (named one).second) ≤ b → words (stored base 8 (named one).to) ≤ c → words_of (renamed one x y z) ≤ n →
    words (loaded base 8 (named one).first ++ (loaded base 9 (named one).second ++ (renamed one x y z ∷ stored base 8 (named one).to))) ≤ a + b + c + n
sum_words base one x y z a b c n ha hb hc hn =
    let p = loaded base 8 (named one).first in
    let q = loaded base 9 (named one).second in
    let r = renamed one x y z ∷ stored base 8 (named one).to in
    let e : words (p ++ (q ++ r)) ≡ words p + words (q ++ r) = sum_by-append words_of p (q ++ r) in
    let f : words (q ++ r) ≡ words q + words r = sum_by-append words_of q r in
    let g : words r ≡ 0 + words_of (renamed one x y z) + words (stored base 8 (named one).to) = sum_by-append words_of (renamed one x y z ∷ []) (stored base 8 (named one).to) in
    omega arith

through_words : (base : ℕ) (one : Instr) (x y z : Opnd) →
    words (loaded base 8 (named one).first ++ (loaded base 9 (named one).second ++ (renamed one x y z ∷ stored base 8 (named one).to))) ≤ 10
through_words base (FrameLoad to k) x y z =
    let h = sum_words base (FrameLoad to k) x y z 0 0 3 3 (lit≤ tt) (lit≤ tt) (stored_words base 8 (Some to)) (lit≤ tt) in omega arith
through_words base (FrameStore from k) x y z =
    let h = sum_words base (FrameStore from k) x y z 3 0 0 3 (loaded_words base 8 (Some from)) (lit≤ tt) (lit≤ tt) (lit≤ tt) in omega arith
through_words base (FrameAddress to) x y z =
    let h = sum_words base (FrameAddress to) x y z 0 0 3 3 (lit≤ tt) (lit≤ tt) (stored_words base 8 (Some to)) (lit≤ tt) in omega arith
through_words base (Address to label) x y z =
    let h = sum_words base (Address to label) x y z 0 0 3 2 (lit≤ tt) (lit≤ tt) (stored_words base 8 (Some to)) (lit≤ tt) in omega arith
through_words base (Branch test m) x y z =
    let h = sum_words base (Branch test m) x y z 3 3 0 2 (loaded_words base 8 (Some test.left)) (loaded_words base 9 (Some test.right)) (lit≤ tt) (lit≤ tt) in
    omega arith
through_words base Return x y z = lit≤ tt
through_words base one x y z =
    let h = sum_words base one x y z 3 3 3 1 (loaded_words base 8 (named one).first) (loaded_words base 9 (named one).second) (stored_words base 8 (named one).to) (lit≤ tt) in h

one_words : (base : ℕ) (one : Instr) → words (instruction_in_frame base one) ≤ 10
one_words base (Move to from) = moved_words base to from
one_words base one = through_words base one (through_named 8 (named one).to) (through_named 8 (named one).first) (through_named 9 (named one).second)

-- steps: those of the instruction, and three for each operand that it names
loaded_steps : (base r : ℕ) (o : Option Opnd) → steps (loaded base r o) ≤ 3 * count_of o
loaded_steps base r (Some (Temp t)) = lit≤ tt
loaded_steps base r (Some (Reg q)) = lit≤ tt
loaded_steps base r None = lit≤ tt

stored_steps : (base r : ℕ) (o : Option Opnd) → steps (stored base r o) ≤ 3 * count_of o
stored_steps base r (Some (Temp t)) = lit≤ tt
stored_steps base r (Some (Reg q)) = lit≤ tt
stored_steps base r None = lit≤ tt

pub named_steps : (one : Instr) → 3 * operands (named one) + most_steps one ≤ most_words one
named_steps (Mark m) = lit≤ tt
named_steps _ = lit≤ tt

pub through_steps : (base : ℕ) (one : Instr) → steps (through_slots base one (named one)) ≤ most_words one
through_steps base one =
    let x = through_named 8 (named one).to in
    let y = through_named 8 (named one).first in
    let z = through_named 9 (named one).second in
    let p = loaded base 8 (named one).first in
    let q = loaded base 9 (named one).second in
    let r = renamed one x y z ∷ stored base 8 (named one).to in
    let e : steps (p ++ (q ++ r)) ≡ steps p + steps (q ++ r) = sum_by-append most_steps p (q ++ r) in
    let f : steps (q ++ r) ≡ steps q + steps r = sum_by-append most_steps q r in
    let g : steps r ≡ most_steps (renamed one x y z) + steps (stored base 8 (named one).to) =
    sum_by-cons most_steps (renamed one x y z) (stored base 8 (named one).to) in
    let w = steps_renamed one x y z in
    let a = loaded_steps base 8 (named one).first in
    let b = loaded_steps base 9 (named one).second in
    let c = stored_steps base 8 (named one).to in
    let l = named_steps one in
    omega (arith, e, f, g, w, a, b, c, l)

pub few_words : (base : ℕ) (list : List Instr) → words (code_in_frame base list) ≤ 10 * length list
few_words base [] = lit≤ tt
few_words base (one ∷ rest) =
    let e : words (instruction_in_frame base one ++ code_in_frame base rest) ≡ words (instruction_in_frame base one) + words (code_in_frame base rest) = sum_by-append words_of (instruction_in_frame base one) (code_in_frame base rest) in
    let h = one_words base one in
    let k = few_words base rest in
    omega arith
