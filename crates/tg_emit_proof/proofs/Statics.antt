-- The statics of a program that may be run.
use Rattle.std.proofs.Common.{ℕ, ◌≡◌, ◌<◌, ◌≤◌, ◌+◌, ◌-◌, ◌%◌, List, [], ◌∷◌, ◌++◌, map, length, replicate, refl, ap}
use Rattle.std.proofs.Common.{◌∙◌, subst, arith}
use Rattle.std.proofs.lemmas.Grind.{common_steps}
use Rattle.std.proofs.lemmas.List.Elements.{All-append, All-replicate, recursion_from_All}
use Rattle.std.specs.Prelude.{All}
use Rattle.std.specs.List.{AllByRecursion}
use Rattle.tg_machine_state.specs.State.{padded, most_bytes}
use Rattle.tg_tree.specs.declared.fragments.Literal.{Literal}
use Rattle.tg_tree.specs.glue.Plain.{plain_literal}
use Rattle.tg_tree.specs.Memory as memory
use Rattle.tg_emit.specs.Ranges.{LiteralFits}
use Rattle.tg_emit_laws.specs.Programs.{bytes_of}
use Rattle.tg_instr.specs.declared.codes.Allocated.{Allocated}
use Rattle.tg_emit_proof.specs.LinesRun.{statics_of}
use Rattle.tg_emit_proof.specs.laws.Emission.{MayRun}
use Rattle.tg_emit_proof.specs.glue.Standing.{AreWhole}

same_statics : (ls : List Literal) → statics_of ls ≡ memory.statics_of (map plain_literal ls)
same_statics [] = refl
same_statics (l ∷ ls) = ap (λ b. padded l.text ++ b) (same_statics ls)

append_length : (xs ys : List ℕ) → length (xs ++ ys) ≡ length xs + length ys
append_length xs ys = grind (arith, common_steps)

zeros_length : (n : ℕ) → length {A = ℕ} (replicate n 0) ≡ n
zeros_length n = grind (arith, common_steps)

padded_whole : (xs : List ℕ) → length (padded xs) % 4 ≡ 0
padded_whole xs =
    let a = append_length xs (replicate ((4 - length xs % 4) % 4) 0) in
    let b = zeros_length ((4 - length xs % 4) % 4) in
    omega (arith, a, b)

padded_bytes : (xs : List ℕ) → All (λ b. b < 256) xs → All (λ b. b < 256) (padded xs)
padded_bytes xs h =
    All-append (λ b. b < 256) xs (replicate ((4 - length xs % 4) % 4) 0) h
    (All-replicate (λ b. b < 256) ((4 - length xs % 4) % 4) 0 (omega arith))

append_none : (xs : List ℕ) → xs ++ [] ≡ xs
append_none [] = refl
append_none (x ∷ xs) = ap (λ l. x ∷ l) (append_none xs)

padded_same : (xs : List ℕ) → length xs % 4 ≡ 0 → padded xs ≡ xs
padded_same xs h = let e : (4 - length xs % 4) % 4 ≡ 0 = omega (arith, h) in ap (λ n. xs ++ replicate n 0) e
    ∙ append_none xs

statics_whole : (ls : List Literal) → AllByRecursion LiteralFits ls → AreWhole (statics_of ls)
statics_whole [] h = ((λ i d l. absurd (omega (arith, l))), refl)
statics_whole (l ∷ ls) h =
    let t = statics_whole ls h.1 in
    let a = padded_whole l.text in
    let b = t.1 in
    let c = append_length (padded l.text) (statics_of ls) in (
      All-append (λ b. b < 256) (padded l.text) (statics_of ls) (padded_bytes l.text h.0.text) t.0,
      omega (arith, a, b, c),
    )

statics_length : (ls : List Literal) → length (statics_of ls) ≡ bytes_of ls
statics_length [] = refl
statics_length (l ∷ ls) = append_length (padded l.text) (statics_of ls)
    ∙ ap (λ n. length (padded l.text) + n) (statics_length ls)

-- they are the code's, in whole words, and fit
pub record HasStatics (ls : List Literal) : Type 0 where
  pub same : padded (statics_of ls) ≡ memory.statics_of (map plain_literal ls)
  pub whole : AreWhole (memory.statics_of (map plain_literal ls))
  pub short : length (padded (statics_of ls)) ≤ most_bytes

pub statics_are : (fs : List Allocated) (ls : List Literal) → MayRun fs ls → HasStatics ls
statics_are fs ls may =
    let w = statics_whole ls (recursion_from_All LiteralFits ls may.typed.literals) in
    let p = padded_same (statics_of ls) w.1 in
    let n = ap (λ (b : List ℕ). length b) p in
    let m = statics_length ls in
    let fit = may.program.statics_fit in
    record {
      same = p ∙ same_statics ls;
      whole = subst AreWhole (same_statics ls) w;
      short = omega (arith, n, m, fit);
    }
