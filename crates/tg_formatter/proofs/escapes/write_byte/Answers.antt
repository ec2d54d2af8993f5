use Rattle.std.proofs.Common.{ℕ, suc, ◌+◌, ◌≡◌, ◌≤◌, List, [], ◌∷◌, ◌++◌, length, take, drop, set, get_or, sym, ap, ◌∙◌, arith, rules, length-append}
use Rattle.std.proofs.Math.Seq.{take-append-add}
use Rattle.std.proofs.lemmas.List.{length-take, length-take-le, take-append-le}
use Rattle.std.proofs.lemmas.List.Edits.{sets-eq}
use Rattle.tg_formatter.specs.Canonical.{quoted_byte}
use Rattle.tg_formatter.proofs.escapes.write_byte.Goals as goal

-- four bytes side by side
four : (xs : List ℕ) (at a b c d : ℕ) → at + 4 ≤ length xs
    → set (set (set (set xs at a) (at + 1) b) (at + 2) c) (at + 3) d ≡ take at xs ++ (a ∷ b ∷ c ∷ d ∷ []) ++ drop (at + 4) xs
four xs at a b c d h =
    let one : at + 1 ≡ suc at = omega arith in
    let two : at + 2 ≡ suc (suc at) = omega arith in
    let three : at + 3 ≡ suc (suc (suc at)) = omega arith in
    rw (one, two, three) (sets-eq (a ∷ b ∷ c ∷ d ∷ []) xs at h)

-- what lies in front of the end of a piece in the middle
front : (xs e rest : List ℕ) (k : ℕ) → k ≤ length e → take (length xs + k) ((xs ++ e) ++ rest) ≡ xs ++ take k e
front xs e rest k h = take-append-le (length xs + k) (xs ++ e) rest (omega (arith, length-append xs e)) ∙ take-append-add xs e k

-- a prefix of four bytes has at most four
short : (e q : List ℕ) → length e ≡ 4 → take (length q) e ≡ q → length q ≤ 4
short e q four is = omega (arith, ap length is, length-take (length q) e)

-- a prefix of four bytes, written at a place
written : (xs e q : List ℕ) (at : ℕ) → length e ≡ 4 → take (length q) e ≡ q → at + 4 ≤ length xs
    → take (at + length q) (set (set (set (set xs at (get_or e 0 0)) (at + 1) (get_or e 1 0)) (at + 2) (get_or e 2 0)) (at + 3) (get_or e 3 0)) ≡ take at xs ++ q
written xs (a ∷ b ∷ c ∷ d ∷ []) q at long is h =
    let e = a ∷ b ∷ c ∷ d ∷ [] in
    ap (take (at + length q)) (four xs at a b c d h)
    ∙ (ap (λ (n : ℕ). take (n + length q) ((take at xs ++ e) ++ drop (at + 4) xs)) (sym (length-take-le at xs (omega arith)))
    ∙ (front (take at xs) e (drop (at + 4) xs) (length q) (short e q long is) ∙ ap (λ (l : List ℕ). take at xs ++ l) is))
written xs [] q at long is h = absurd (omega arith)
written xs (a ∷ []) q at long is h = absurd (omega arith)
written xs (a ∷ b ∷ []) q at long is h = absurd (omega arith)
written xs (a ∷ b ∷ c ∷ []) q at long is h = absurd (omega arith)
written xs (a ∷ b ∷ c ∷ d ∷ e ∷ rest) q at long is h = absurd (omega arith)

pub returns-clause-text : goal.returns-clause-text
returns-clause-text c =
    let long : length c.escape_of-escape.result ≡ 4 = search rules in
    rw c.escape_size.ensures
    (written c.args.written.now c.escape_of-escape.result (quoted_byte c.args.byte) c.args.at long c.escape_of-escape.ensures (omega arith))

pub returns-clause-most : goal.returns-clause-most
returns-clause-most c =
    let long : length c.escape_of-escape.result ≡ 4 = search rules in
    rw c.escape_size.ensures (short c.escape_of-escape.result (quoted_byte c.args.byte) long c.escape_of-escape.ensures)
