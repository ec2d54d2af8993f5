-- A text is split byte by byte.
use Rattle.std.proofs.Common.{◌≡◌, ◌<◌, ◌≤◌, ◌+◌, ℕ, suc, Bool, true, false, List, [], ◌∷◌, ◌++◌, length, take, drop, refl, sym, ap, ◌∙◌, arith}
use Rattle.std.proofs.Common.{append-nil, append_assoc, drop-cons, add-one}
use Rattle.std.specs.Prelude.{slice_index, ◌==◌}
use Rattle.std.proofs.Math.Seq.{take-suc}
use Rattle.std.proofs.lemmas.List.{drop_all}
use Rattle.tg_asm_text.specs.Lines.{front, back, lines, onto_first}

-- what the first `at` bytes, none of the class, leave of a split
pub record Split (class : ℕ → Bool) (text : List ℕ) (at : ℕ) : Type 0 where
  pub within : at ≤ length text
  pub front_is : front class text ≡ take at text ++ front class (drop at text)
  pub back_is : back class text ≡ back class (drop at text)

pub split_step : (class : ℕ → Bool) (text : List ℕ) (at : ℕ) → Split class text at → at < length text →
    class (slice_index text at) ≡ false → Split class text (at + 1)
split_step class text at s h e =
    let cons : drop at text ≡ slice_index text at ∷ drop (suc at) text = drop-cons text at 0 h in
    let more : take (suc at) text ≡ take at text ++ (slice_index text at ∷ []) = take-suc text at 0 h in
    record {
      within = omega (arith, h);
      front_is = rw (add-one, more, append_assoc) (s.front_is ∙ ap (λ l. take at text ++ front class l) cons ∙ rw e refl);
      back_is = rw add-one (s.back_is ∙ ap (back class) cons ∙ rw e refl);
    }

pub split_here : (class : ℕ → Bool) (text : List ℕ) (at : ℕ) → Split class text at → at < length text →
    class (slice_index text at) ≡ true → (take at text ≡ front class text) × (drop at text ≡ back class text)
split_here class text at s h e =
    let cons : drop at text ≡ slice_index text at ∷ drop (suc at) text = drop-cons text at 0 h in
    (sym (s.front_is ∙ ap (λ l. take at text ++ front class l) cons ∙ rw e (append-nil _)), cons ∙ sym (s.back_is ∙ ap (back class) cons ∙ rw e refl))

pub split_end : (class : ℕ → Bool) (text : List ℕ) (at : ℕ) → Split class text at → length text ≤ at →
    (take at text ≡ front class text) × (drop at text ≡ back class text)
split_end class text at s h =
    let none : drop at text ≡ [] = drop_all at text h in
    (sym (s.front_is ∙ ap (λ l. take at text ++ front class l) none ∙ append-nil _), none ∙ sym (s.back_is ∙ ap (back class) none))

-- lines are split at their newlines
abbrev pub is_newline : ℕ → Bool
is_newline c = c == 10

abbrev with_lines : (line rest : List ℕ) → List (List ℕ)
with_lines line [] = line ∷ []
with_lines line (c ∷ more) = line ∷ lines more

onto_with : (c : ℕ) (line rest : List ℕ) → onto_first c (with_lines line rest) ≡ with_lines (c ∷ line) rest
onto_with c line [] = refl
onto_with c line (d ∷ more) = refl

one_more : (c : ℕ) (text : List ℕ) (b : Bool) → (c == 10) ≡ b → lines text ≡ with_lines (front is_newline text) (back is_newline text) →
    lines (c ∷ text) ≡ with_lines (front is_newline (c ∷ text)) (back is_newline (c ∷ text))
one_more c text true e h = rw e refl
one_more c text false e h = rw (e, h) (onto_with c _ _)

pub lines_split : (text : List ℕ) → lines text ≡ with_lines (front is_newline text) (back is_newline text)
lines_split [] = refl
lines_split (c ∷ text) = one_more c text (c == 10) refl (lines_split text)

pub last_line : (text line rest : List ℕ) → line ≡ front is_newline text → rest ≡ back is_newline text → rest ≡ [] → lines text ≡ line ∷ []
last_line text line rest f b n = lines_split text ∙ ap (with_lines (front is_newline text)) (sym b ∙ n) ∙ ap (λ l. l ∷ []) (sym f)

pub first_line : (text line rest : List ℕ) (c : ℕ) (more : List ℕ) → line ≡ front is_newline text → rest ≡ back is_newline text →
    rest ≡ c ∷ more → lines text ≡ line ∷ lines more
first_line text line rest c more f b n = lines_split text ∙ ap (with_lines (front is_newline text)) (sym b ∙ n) ∙ ap (λ l. l ∷ lines more) (sym f)
