-- The last fetches, and a ring that holds them.
use Rattle.std.proofs.Common.{◌≡◌, ◌<◌, ◌≤◌, ◌+◌, ◌-◌, ◌%◌, ℕ, zero, suc, List, [], ◌∷◌, length, drop, Some}
use Rattle.std.proofs.Common.{arith, refl, sym, ap, ◌∙◌}
use Rattle.std.specs.Prelude.{slice_get, slice_index_or, option_map}
use Rattle.std.proofs.lemmas.List.{length-drop, length-map}
use Rattle.std.proofs.lemmas.Option.{slice_get-map, slice_get-get_or, get_or_from_slice_get}
use Rattle.tg_machine.specs.declared.fetches.Seen.{Seen}
use Rattle.tg_profiler.specs.Reports.{seen_line, trace_report}
use Rattle.tg_profiler.specs.glue.Standing.{Holds}

get-drop : {A : Type 0} (n : ℕ) (xs : List A) (i : ℕ) → slice_get (drop n xs) i ≡ slice_get xs (n + i)
get-drop zero xs i = ap (slice_get xs) (omega arith)
get-drop (suc n) [] i = refl
get-drop (suc n) (x ∷ xs) i =
    let e : suc n + i ≡ suc (n + i) = omega arith in
    get-drop n xs i ∙ sym (ap (slice_get (x ∷ xs)) e)

-- line `at` is that of the fetch at this place of the ring
pub line_at : (ring : List Seen) (count : ℕ) (s : List Seen) (code at i : ℕ) (d : Seen) → Holds ring count s code → at < count → at < 16 →
    i ≡ (count - 16 + at) % 16 → slice_get (trace_report s code) at ≡ Some (seen_line (slice_index_or ring i d))
line_at ring count s code at i d h lt few is =
    let n = length s - 16 in
    let k = count - 16 + at in
    let all = h.all in
    let number : n + at ≡ k = omega (arith, all) in
    let within : k < length s = omega (arith, all, lt, few) in
    let last : length s ≤ k + 16 = omega (arith, all) in
    let there : slice_get s k ≡ Some (slice_index_or s k d) = slice_get-get_or s k d within in
    let held : slice_index_or ring i d ≡ slice_index_or s k d =
    ap (λ m. slice_index_or ring m d) is ∙ get_or_from_slice_get ring (k % 16) (slice_index_or s k d) d (h.each k within last ∙ there) in
    slice_get-map seen_line (drop n s) at
    ∙ ap (option_map seen_line) (get-drop n s at ∙ ap (slice_get s) number ∙ there) ∙ ap (λ x. Some (seen_line x)) (sym held)

pub report_length : (s : List Seen) (code : ℕ) → length (trace_report s code) ≡ length s - (length s - 16)
report_length s code = length-map (drop (length s - 16) s) seen_line ∙ length-drop (length s - 16) s
