-- How much of a text the literals of its program take.
use Rattle.std.proofs.Common.{ℕ, ◌+◌, ◌-◌, ◌*◌, ◌%◌, ◌≡◌, ◌≤◌, List, [], ◌∷◌, length, sym, ap, ◌∙◌, arith, length-append, append-nil}
use Rattle.std.specs.List.{sum_by}
use Rattle.std.proofs.lemmas.List.{length-map, length-replicate}
use Rattle.std.proofs.lemmas.List.Sums.{sum_by-cons}
use Rattle.tg_machine_state.specs.State.{padded}
use Rattle.tg_syntax.specs.Tree.{Exp}
use Rattle.tg_tree.specs.Memory.{string_text}
use Rattle.tg_translate.specs.mirror.Scopes.{Findings}
use Rattle.tg_translate.specs.mirror.Translate.{translated}
use Rattle.tg_translate_laws.specs.Strings.{strings}
use Rattle.tg_translate_laws.specs.laws.Laws.{LiteralsAreStrings, LiteralsAreShort}
use Rattle.tg_translate_laws.proofs.Shaping.{sum_by-map, length_text}
use Rattle.tg_literal_bounds.specs.TokenStrings.{spaced_length}
use Rattle.tg_literal_bounds.specs.laws.Laws.{LiteralsAreFew, LiteralsFitText, StaticsFitText, StaticsFitSegment, statics_length}
use Rattle.tg_literal_bounds.proofs.Fitting.{each_more, strings_fit}

-- zeros up to a multiple of four bytes
length_padded : (bytes : List ℕ) → length (padded bytes) ≡ length bytes + (4 - length bytes % 4) % 4
length_padded bytes = length-append bytes _ ∙ ap (λ n. length bytes + n) (length-replicate ((4 - length bytes % 4) % 4) 0)

padding : (n : ℕ) → 4 + n + (4 - (4 + n) % 4) % 4 ≤ 2 * (3 + n)
padding n = omega arith

one_fits : (bytes : List ℕ) → length (padded (string_text bytes)) ≤ 2 * spaced_length bytes
one_fits bytes =
    let p = padding (length bytes) in
    let e = length_padded (string_text bytes) in
    let s : length (padded (string_text bytes)) ≡ 4 + length bytes + (4 - (4 + length bytes) % 4) % 4 = e ∙ ap (λ n. n + (4 - n % 4) % 4) (length_text bytes) in
    omega (arith, p, s)

all_fit : (xs : List (List ℕ)) → sum_by (λ bytes. length (padded (string_text bytes))) xs ≤ 2 * sum_by spaced_length xs
all_fit [] = omega arith
all_fit (x ∷ xs) =
    let one = one_fits x in
    let rest = all_fit xs in
    omega (arith, one, rest, sum_by-cons (λ bytes. length (padded (string_text bytes))) x xs, sum_by-cons spaced_length x xs)

module _ (are_strings : LiteralsAreStrings) (short : LiteralsAreShort) where
  -- what a sum over literals is over strings
  over_strings : (f : List ℕ → ℕ) (findings : Findings) (e : Exp) →
      sum_by (λ l. f l.text) (translated findings e).literals ≡ sum_by (λ bytes. f (string_text bytes)) (strings e)
  over_strings f findings e =
      sym (sum_by-map f (λ l. l.text) (translated findings e).literals)
      ∙ (ap (sum_by f) (are_strings findings e) ∙ sum_by-map f string_text (strings e))

  count : (findings : Findings) (e : Exp) → length (translated findings e).literals ≡ length (strings e)
  count findings e =
      sym (length-map (translated findings e).literals (λ l. l.text))
      ∙ (ap length (are_strings findings e) ∙ length-map (strings e) string_text)

  pub literals_are_few : LiteralsAreFew
  literals_are_few findings names text body t =
      let h = strings_fit names text body t in
      let q = each_more 3 (strings body) in
      let n = count findings body in
      omega (arith, h, q, n)

  pub literals_fit : LiteralsFitText
  literals_fit findings names text body t =
      let h = strings_fit names text body t in
      let q = each_more 3 (strings body) in
      let n = count findings body in
      let s = short findings body in
      let w = each_more 4 (strings body) in
      omega (arith, h, q, n, s, w)

  pub statics_fit : StaticsFitText
  statics_fit findings names text body t =
      let h = strings_fit names text body t in
      let a = all_fit (strings body) in
      let s = over_strings (λ bytes. length (padded bytes)) findings body in
      let none = ap statics_length (append-nil (translated findings body).literals) in
      omega (arith, h, a, s, none)

  pub statics_fit_segment : StaticsFitSegment
  statics_fit_segment findings names text body t short_text = let h = statics_fit findings names text body t in omega (arith, h)
