-- What is emitted has an image with its delay slots, however long its code is.
use Rattle.std.proofs.Common.{ℕ, ◌≡◌, ◌<◌, ◌≤◌, ◌+◌, ◌*◌, List, [], ◌∷◌, ◌++◌, refl, sym, ap, ◌∙◌, subst, arith, Bool, true, false}
use Rattle.std.specs.Prelude.{if◌then◌else◌, nat_lt, nat_le, IsTrue, ◌||◌}
use Rattle.std.proofs.lemmas.Bool.Decides.{nat_tests}
use Rattle.tg_machine_state.specs.State.{most_words}
use Rattle.tg_isa.specs.declared.mips.Mips.TheVariants as row
use Rattle.tg_tree.specs.declared.fragments.Literal.{Literal}
use Rattle.tg_instr.specs.declared.instr.Instr.{Instr}
use Rattle.tg_instr.specs.declared.instr.Instr.TheVariants.{FrameLoad, FrameStore, FrameAddress, Mark, Branch, Return}
use Rattle.tg_instr.specs.declared.codes.Allocated.{Allocated}
use Rattle.tg_instr.specs.Codes.{ends_well}
use Rattle.tg_emit.specs.declared.assembly.Line.{Line}
use Rattle.tg_emit.specs.declared.assembly.Line.TheVariants.{Label, One, La, Statics}
use Rattle.tg_emit.specs.mirror.Rows.{register_of}
use Rattle.tg_emit.specs.mirror.Lines.{alone, words, size_of, in_at, above_stack, lowered, entry, load_at, store_at, slot_offset}
use Rattle.tg_emit.specs.mirror.Lines.{instruction_lines, code_lines, function_lines, functions_lines, is_long}
use Rattle.tg_emit_laws.proofs.CodeLines.{words_append}
use Rattle.tg_emit_laws.proofs.FunctionLines.{end_of_code}
use Rattle.tg_emit_proof.specs.laws.Laws.{HasImage}
use Rattle.tg_delay.specs.Filling.{filled, near, delayed, turned_round}
use Rattle.tg_bare_proof.specs.laws.Laws.{DelayedHasImage}
use Rattle.tg_bare_proof.proofs.Images.{filled_words, filled_has_image}
use Rattle.tg_bare_proof.proofs.LongCode.{long_code_has_image}
use Rattle.tg_bare_proof.proofs.Emitted.{emitted_gives_none}
use Rattle.tg_bare_proof.proofs.TurnedImages.{HaveWords, turned_filled_image}

-- labels of what is emitted have a word behind them
have_append : (xs ys : List Line) → HaveWords xs → HaveWords ys → HaveWords (xs ++ ys)
have_append [] ys h k = k
have_append (Label name ∷ xs) ys h k = let w = words_append xs ys in let l = h.0 in (omega (arith, w, l), have_append xs ys h.1 k)
have_append (One one target ∷ xs) ys h k = have_append xs ys h k
have_append (La r name ∷ xs) ys h k = have_append xs ys h k
have_append (Statics bytes ∷ xs) ys h k = have_append xs ys h k

either : (b : Bool) (xs ys : List Line) → HaveWords xs → HaveWords ys → HaveWords (if b then xs else ys)
either true xs ys h k = h
either false xs ys h k = k

above_have : (r n : ℕ) → HaveWords (above_stack r n)
above_have r n = either (nat_lt n 32768) (alone (row.Addiu r 29 n) ∷ []) (in_at n ++ alone (row.Addu r 29 1) ∷ []) tt tt

lowered_have : (n : ℕ) → HaveWords (lowered n)
lowered_have n = either (nat_le n 32768) (alone (row.Addiu 29 29 _) ∷ []) (in_at n ++ alone (row.Subu 29 29 1) ∷ []) tt tt

load_have : (r n : ℕ) → HaveWords (load_at r n)
load_have r n = either (nat_lt n 32768) (alone (row.Lw r n 29) ∷ []) (alone (row.Lui 1 _) ∷ alone (row.Addu 1 1 29) ∷ alone (row.Lw r _ 1) ∷ []) tt tt

store_have : (r n : ℕ) → HaveWords (store_at r n)
store_have r n = either (nat_lt n 32768) (alone (row.Sw r n 29) ∷ []) (alone (row.Lui 1 _) ∷ alone (row.Addu 1 1 29) ∷ alone (row.Sw r _ 1) ∷ []) tt tt

-- an instruction in front of lines, which have a word where it is a mark
instruction_has : (label size place : ℕ) (one : Instr) (rest : List Line) → ((m : ℕ) → one ≡ Mark m → 1 ≤ words rest) → HaveWords rest →
    HaveWords (instruction_lines false label size place one ++ rest)
instruction_has label size place (FrameLoad to k) rest w h =
    have_append (load_at (register_of to) (slot_offset size k)) rest (load_have (register_of to) (slot_offset size k)) h
instruction_has label size place (FrameStore from k) rest w h =
    have_append (store_at (register_of from) (slot_offset size k)) rest (store_have (register_of from) (slot_offset size k)) h
instruction_has label size place (FrameAddress to) rest w h = have_append (above_stack (register_of to) size) rest (above_have (register_of to) size) h
instruction_has label size place (Mark m) rest w h = (w m refl, h)
instruction_has label size place Return rest w h =
    have_append (above_stack 29 size ++ alone (row.Jr 31) ∷ []) rest
    (have_append (above_stack 29 size) (alone (row.Jr 31) ∷ []) (above_have 29 size) tt) h
instruction_has label size place one rest w h = h

no_last_mark : (m : ℕ) (one : Instr) → IsTrue (ends_well (one ∷ [])) → one ≡ Mark m → 1 ≤ words []
no_last_mark m (Mark k) h e = cc
no_last_mark m one h e = cc

code_has : (label size place : ℕ) (list : List Instr) → IsTrue (ends_well list) → HaveWords (code_lines false label size place list)
code_has label size place [] h = tt
code_has label size place (one ∷ []) h = instruction_has label size place one [] (λ m e. no_last_mark m one h e) tt
code_has label size place (one ∷ two ∷ rest) h =
    instruction_has label size place one (code_lines false label size (place + 1) (two ∷ rest))
    (λ m e. end_of_code false label size (place + 1) (two ∷ rest) h) (code_has label size (place + 1) (two ∷ rest) h)

function_has : (f : Allocated) → HaveWords (function_lines false f)
function_has f =
    let size = size_of f.frame in
    let code = code_lines false f.frame.label.0 size 0 f.code.list in
    let opening = lowered size ++ alone (row.Lw 0 0 29) ∷ [] in
    let a = words_append (lowered size) (alone (row.Lw 0 0 29) ∷ []) in
    let b = words_append opening code in (
      omega (arith, a, b),
      have_append opening code (have_append (lowered size) (alone (row.Lw 0 0 29) ∷ []) (lowered_have size) tt)
          (code_has f.frame.label.0 size 0 f.code.list f.code.ends_well),
    )

functions_have : (fs : List Allocated) → HaveWords (functions_lines false fs)
functions_have [] = tt
functions_have (f ∷ fs) = have_append (function_lines false f) (functions_lines false fs) (function_has f) (functions_have fs)

-- turned branches are no fewer words
instruction_words : (label size place : ℕ) (one : Instr) →
    words (instruction_lines false label size place one) ≤ words (instruction_lines true label size place one)
instruction_words label size place (Branch test m) = omega arith
instruction_words label size place one = omega arith

code_words : (label size place : ℕ) (list : List Instr) → words (code_lines false label size place list) ≤ words (code_lines true label size place list)
code_words label size place [] = omega arith
code_words label size place (one ∷ rest) =
    let a = words_append (instruction_lines false label size place one) (code_lines false label size (place + 1) rest) in
    let b = words_append (instruction_lines true label size place one) (code_lines true label size (place + 1) rest) in
    let c = instruction_words label size place one in
    let d = code_words label size (place + 1) rest in
    omega (arith, a, b, c, d)

functions_words : (fs : List Allocated) → words (functions_lines false fs) ≤ words (functions_lines true fs)
functions_words [] = omega arith
functions_words (f ∷ fs) =
    let size = size_of f.frame in
    let front = entry f.frame.label.0 size in
    let code = λ (turned : Bool). code_lines turned f.frame.label.0 size 0 f.code.list in
    let a = words_append (function_lines false f) (functions_lines false fs) in
    let b = words_append (function_lines true f) (functions_lines true fs) in
    let c = words_append front (code false) in
    let d = words_append front (code true) in
    let e = code_words f.frame.label.0 size 0 f.code.list in
    let g = functions_words fs in
    omega (arith, a, b, c, d, e, g)

-- however long it is
near_or_not : (lines : List Line) (ls : List Literal) (b : Bool) → near lines ≡ b →
    (near lines ≡ true → HasImage (filled lines) ls) → (near lines ≡ false → HasImage (filled (turned_round lines)) ls) →
    HasImage (filled (if b then lines else turned_round lines)) ls
near_or_not lines ls true e h k = h e
near_or_not lines ls false e h k = k e

short_near : (n : ℕ) → n ≤ 32000 → (nat_le n 16000 || nat_lt 32000 n) ≡ true → n ≤ 16000
short_near n l h = grind (arith, nat_tests)

long_near : (n : ℕ) → 32000 < n → (nat_le n 16000 || nat_lt 32000 n) ≡ true
long_near n h = grind (arith, nat_tests)

not_above : (n : ℕ) → nat_lt 32000 n ≡ false → n ≤ 32000
not_above n h = grind (arith, nat_tests)

is_above : (n : ℕ) → nat_lt 32000 n ≡ true → 32000 < n
is_above n h = grind (arith, nat_tests)

never : {A : Type 0} → true ≡ false → A
never e = cc

pub delayed_has_image : DelayedHasImage
delayed_has_image fs ls has few = by (is_long fs) refl has few
  where
    by : (b : Bool) → is_long fs ≡ b → HasImage (functions_lines b fs) ls → words (delayed (functions_lines b fs)) < most_words →
        HasImage (delayed (functions_lines b fs)) ls
    by false e image fits =
        let lines = functions_lines false fs in
        let short = not_above (words lines) e in
        near_or_not lines ls (near lines) refl
        (λ n. filled_has_image lines ls image (let f = (filled_words lines).0 in let s = short_near (words lines) short n in omega (arith, f, s)))
        (λ n. turned_filled_image lines ls image (emitted_gives_none false fs) (functions_have fs) short)
    by true e image fits =
        let lines = functions_lines true fs in
        let more = functions_words fs in
        let long = is_above (words (functions_lines false fs)) e in
        let is_near = long_near (words lines) (omega (arith, more, long)) in
        let same : delayed lines ≡ filled lines = ap (λ b. filled (if b then lines else turned_round lines)) is_near in
        subst (λ ms. HasImage ms ls) (sym same)
        (long_code_has_image fs ls image (subst (λ ms. words ms < most_words) same fits))
