-- Generated programs of at most 1000 functions are short.
use Rattle.std.proofs.Common.{ℕ, zero, suc, ◌+◌, ◌*◌, ◌≡◌, ◌≤◌, ◌<◌, ◌++◌, length, ap, ◌∙◌, arith}
use Rattle.std.specs.Fmt.{decimal}
use Rattle.std.proofs.lemmas.List.{length-append}
use Rattle.std.proofs.lemmas.Fmt.{length-decimal-le}
use Rattle.tg_program_generator.specs.Generated.{generated}
use Rattle.tg_program_generator_laws.proofs.Lexemes.{spelled, spelled-append}
use Rattle.tg_program_generator_laws.proofs.Lines.{first, later, line, lines, head, last, program, program_spelled}

digits_few : (n : ℕ) → n ≤ 1001 → length (decimal n) ≤ 4
digits_few n h = length-decimal-le 4 n (omega arith) (omega arith) (omega arith)

first_short : length (spelled first) ≤ 130
first_short = simp length-append (omega (arith, digits_few 1 (omega arith)))

later_short : (k : ℕ) → suc k < 1000 → length (spelled (later k)) ≤ 130
later_short k h = simp length-append (omega (arith, digits_few (suc (suc k)) (omega arith), digits_few (suc k) (omega arith)))

line_short : (n : ℕ) → n < 1000 → length (spelled (line n)) ≤ 130
line_short zero h = first_short
line_short (suc k) h = later_short k h

lines_short : (n : ℕ) → n ≤ 1000 → length (spelled (lines n)) ≤ 130 * n
lines_short zero h = omega arith
lines_short (suc n) h =
    omega (
      arith,
      ap length (spelled-append (lines n) (line n)),
      length-append (spelled (lines n)) (spelled (line n)),
      lines_short n (omega arith),
      line_short n (omega arith),
    )

last_short : (k : ℕ) → k < 1000 → length (spelled (last k)) ≤ 130
last_short k h = simp length-append (omega (arith, digits_few (suc k) (omega arith)))

pub short : (k : ℕ) → suc k ≤ 1000 → length (generated (suc k)) ≤ 262144
short k few =
    let n = suc k in
    let h : length (spelled head) ≤ 200 = omega arith in
    let whole : length (spelled (program k)) ≡ length (spelled head) + (length (spelled (lines n)) + length (spelled (last k))) =
    ap length (spelled-append head (lines n ++ last k)) ∙ length-append (spelled head) (spelled (lines n ++ last k))
    ∙ ap (λ m. length (spelled head) + m) (ap length (spelled-append (lines n) (last k)) ∙ length-append (spelled (lines n)) (spelled (last k))) in
    omega (arith, ap length (program_spelled k), lines_short n few, last_short k (omega arith), h, whole)
