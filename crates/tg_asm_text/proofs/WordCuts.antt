-- Lines of words parted by commas are cut into those words.
use Rattle.std.proofs.Common.{◌≡◌, ◌<◌, ◌≤◌, ◌+◌, ℕ, zero, suc, Bool, true, false, not, List, [], ◌∷◌, ◌++◌, length, Option, Some, None, refl, ap}
use Rattle.std.proofs.Common.{◌∙◌, arith, length-append}
use Rattle.std.specs.Prelude.{◌&&◌, ◌||◌, ◌==◌}
use Rattle.tg_asm_text.specs.Lines.{lines, onto_first, front, back, skip, is_blank, is_end, begins_label, is_past_label, before_colon, label_at}
use Rattle.tg_asm_text.specs.Lines.{unlabelled, labelled, Operand, Plain, operand, before_operands, operands, operands_in, Gap, Over, Next, without_comma}
use Rattle.tg_asm_text.specs.Lines.{after_comma, gap, first_gap, cut_with, cut_item, cut}
use Rattle.tg_asm_text.specs.Writing.{further, joined}

pub and_true : (a b : Bool) → (a && b) ≡ true → (a ≡ true) × (b ≡ true)
and_true true b h = (refl, h)
and_true false b h = cc

pub or_false : (a b : Bool) → (a || b) ≡ false → (a ≡ false) × (b ≡ false)
or_false true b h = cc
or_false false b h = (refl, h)

pub not_true : (a : Bool) → not a ≡ true → a ≡ false
not_true true h = cc
not_true false h = refl

-- no byte of a class; the first byte, if any, is of it
abbrev pub none_of : (ℕ → Bool) → List ℕ → Bool
none_of class [] = true
none_of class (c ∷ o) = not (class c) && none_of class o

abbrev pub begins : (ℕ → Bool) → List ℕ → Bool
begins class [] = true
begins class (c ∷ o) = class c

abbrev pub is_some : List ℕ → Bool
is_some [] = false
is_some (c ∷ o) = true

abbrev pub is_newline : ℕ → Bool
is_newline c = c == 10

pub first_not : (class : ℕ → Bool) (c : ℕ) (o : List ℕ) → none_of class (c ∷ o) ≡ true → class c ≡ false
first_not class c o h = not_true (class c) (and_true (not (class c)) (none_of class o) h).0

pub rest_not : (class : ℕ → Bool) (c : ℕ) (o : List ℕ) → none_of class (c ∷ o) ≡ true → none_of class o ≡ true
rest_not class c o h = (and_true (not (class c)) (none_of class o) h).1

pub none_cons : (class : ℕ → Bool) (c : ℕ) (o : List ℕ) → class c ≡ false → none_of class o ≡ true → none_of class (c ∷ o) ≡ true
none_cons class c o h k = rw h k

pub none_append : (class : ℕ → Bool) (o t : List ℕ) → none_of class o ≡ true → none_of class t ≡ true → none_of class (o ++ t) ≡ true
none_append class [] t h k = k
none_append class (c ∷ o) t h k = none_cons class c (o ++ t) (first_not class c o h) (none_append class o t (rest_not class c o h) k)

pub front_until : (class : ℕ → Bool) (o t : List ℕ) → none_of class o ≡ true → begins class t ≡ true → front class (o ++ t) ≡ o
front_until class [] [] h e = refl
front_until class [] (c ∷ t) h e = rw e refl
front_until class (c ∷ o) t h e = rw (first_not class c o h) (ap (λ l. c ∷ l) (front_until class o t (rest_not class c o h) e))

pub back_until : (class : ℕ → Bool) (o t : List ℕ) → none_of class o ≡ true → begins class t ≡ true → back class (o ++ t) ≡ t
back_until class [] [] h e = refl
back_until class [] (c ∷ t) h e = rw e refl
back_until class (c ∷ o) t h e = rw (first_not class c o h) (back_until class o t (rest_not class c o h) e)

-- a line without a newline
pub lines_alone : (t : List ℕ) → none_of is_newline t ≡ true → lines t ≡ t ∷ []
lines_alone [] h = refl
lines_alone (c ∷ t) h = rw (first_not is_newline c t h) (ap (onto_first c) (lines_alone t (rest_not is_newline c t h)))

-- a word of bytes that end no word and no line
pub record IsWord (o : List ℕ) : Type 0 where
  pub ends : none_of is_end o ≡ true
  pub newlines : none_of is_newline o ≡ true
  pub some : is_some o ≡ true

abbrev pub AreWords : List (List ℕ) → Type 0
AreWords [] = Unit {0}
AreWords (o ∷ os) = IsWord o × AreWords os

pub record Visible (c : ℕ) : Type 0 where
  pub blank : is_blank c ≡ false
  pub comma : (c == 44) ≡ false
  pub quote : (c == 34) ≡ false
  pub hash : (c == 35) ≡ false

pub visible : (c : ℕ) → is_end c ≡ false → Visible c
visible c h =
    let a = or_false (is_blank c) (c == 44 || (c == 34 || c == 35)) h in
    let b = or_false (c == 44) (c == 34 || c == 35) a.1 in
    let d = or_false (c == 34) (c == 35) b.1 in
    record { blank = a.0; comma = b.0; quote = d.0; hash = d.1 }

pub skipped : (c : ℕ) (t : List ℕ) → is_blank c ≡ false → skip (c ∷ t) ≡ c ∷ t
skipped c t h = rw h refl

-- operands
abbrev found : List ℕ → List ℕ → Option (Operand × List ℕ)
found text rest = Some (Plain text, rest)

operand_word : (o t : List ℕ) → IsWord o → begins is_end t ≡ true → operand (o ++ t) ≡ found o t
operand_word [] t w e = let s = w.some in cc
operand_word (c ∷ o) t w e =
    let q = (visible c (first_not is_end c o w.ends)).quote in
    let f = front_until is_end o t (rest_not is_end c o w.ends) e in
    let b = back_until is_end o t (rest_not is_end c o w.ends) e in
    rw q (ap (λ p. found (c ∷ p) (back is_end (o ++ t))) f ∙ ap (found (c ∷ o)) b)

abbrev gap_next : List (List ℕ) → Gap
gap_next [] = Over
gap_next (o ∷ os) = Next (o ++ further os)

comma_passed : (c : ℕ) (t : List ℕ) → (c == 35) ≡ false → (c == 44) ≡ false → after_comma (c ∷ t) ≡ Next (c ∷ t)
comma_passed c t h k = rw (h, k) refl

blanks_passed : (c : ℕ) (t : List ℕ) → (c == 35) ≡ false → (c == 44) ≡ false → without_comma (c ∷ t) ≡ Next (c ∷ t)
blanks_passed c t h k = rw (h, k) refl

gap_further : (os : List (List ℕ)) → AreWords os → gap (further os) ≡ gap_next os
gap_further [] w = refl
gap_further ([] ∷ os) w = let s = w.0.some in cc
gap_further ((c ∷ o) ∷ os) w =
    let v = visible c (first_not is_end c o w.0.ends) in
    ap after_comma (skipped c (o ++ further os) v.blank) ∙ comma_passed c (o ++ further os) v.hash v.comma

gap_joined : (os : List (List ℕ)) → AreWords os → first_gap (joined os) ≡ gap_next os
gap_joined [] w = refl
gap_joined ([] ∷ os) w = let s = w.0.some in cc
gap_joined ((c ∷ o) ∷ os) w =
    let v = visible c (first_not is_end c o w.0.ends) in
    ap without_comma (skipped c (o ++ further os) v.blank) ∙ blanks_passed c (o ++ further os) v.hash v.comma

abbrev pub plains : List (List ℕ) → List Operand
plains [] = []
plains (o ∷ os) = Plain o ∷ plains os

begins_further : (os : List (List ℕ)) → begins is_end (further os) ≡ true
begins_further [] = refl
begins_further (o ∷ os) = refl

abbrev pub next_operands : ℕ → Option (Operand × List ℕ) → Option (List Operand)
next_operands n (Some o) = before_operands o.0 (operands n (gap o.1))
next_operands n None = None

one_more : (n : ℕ) (o t : List ℕ) (more : List Operand) → operand (o ++ t) ≡ found o t → operands n (gap t) ≡ Some more →
    operands (suc n) (Next (o ++ t)) ≡ Some (Plain o ∷ more)
one_more n o t more e k = ap (next_operands n) e ∙ ap (before_operands (Plain o)) k

operands_words : (n : ℕ) (os : List (List ℕ)) → AreWords os → length os < n → operands n (gap_next os) ≡ Some (plains os)
operands_words zero os w h = absurd (omega (arith, h))
operands_words (suc n) [] w h = refl
operands_words (suc n) (o ∷ os) w h =
    let k : length os < n = omega (arith, h) in
    let g : operands n (gap (further os)) ≡ Some (plains os) = ap (operands n) (gap_further os w.1) ∙ operands_words n os w.1 k in
    one_more n o (further os) (plains os) (operand_word o (further os) w.0 (begins_further os)) g

further_long : (os : List (List ℕ)) → length os ≤ length (further os)
further_long [] = omega arith
further_long (o ∷ os) =
    let h = further_long os in
    let n : length (o ++ further os) ≡ length o + length (further os) = length-append o (further os) in
    omega (arith, h, n)

joined_long : (os : List (List ℕ)) → length os ≤ length (joined os)
joined_long [] = omega arith
joined_long (o ∷ os) =
    let h = further_long os in
    let n : length (o ++ further os) ≡ length o + length (further os) = length-append o (further os) in
    omega (arith, h, n)

operands_cut : (os : List (List ℕ)) → AreWords os → operands_in (joined os) ≡ Some (plains os)
operands_cut os w =
    let h = joined_long os in
    ap (operands (suc (length (joined os)))) (gap_joined os w) ∙ operands_words (suc (length (joined os))) os w (omega (arith, h))

-- a line
no_label : (c : ℕ) (word : List ℕ) (os : List (List ℕ)) → begins_label c ≡ true → none_of is_past_label word ≡ true → label_at (c ∷ word ++ joined os) ≡ None
no_label c word [] h n = rw h (ap (λ t. before_colon (c ∷ front is_past_label (word ++ [])) t) (back_until is_past_label word [] n refl))
no_label c word (o ∷ os) h n = rw h (ap (λ t. before_colon (c ∷ front is_past_label (word ++ joined (o ∷ os))) t)
    (back_until is_past_label word (joined (o ∷ os)) n refl))

labels_none : (n : ℕ) (t : List ℕ) → label_at t ≡ None → labelled (suc n) t ≡ unlabelled t
labels_none n t e = rw (e, labelled) refl

not_over : (c : ℕ) (t : List ℕ) → (c == 35) ≡ false → cut_item (unlabelled (c ∷ t)) ≡ cut_with [] (front is_end (c ∷ t)) (operands_in (back is_end (c ∷ t)))
not_over c t h = rw h refl

begins_joined : (os : List (List ℕ)) → begins is_end (joined os) ≡ true
begins_joined [] = refl
begins_joined (o ∷ os) = refl

-- a line that begins with a word and no label
pub cut_unlabelled : (c : ℕ) (word : List ℕ) (os : List (List ℕ)) → label_at (c ∷ word ++ joined os) ≡ None →
    none_of is_end (c ∷ word) ≡ true → AreWords os → cut (c ∷ word ++ joined os) ≡ Some (record { labels = []; word = c ∷ word; operands = plains os })
cut_unlabelled c word os b e w =
    let v = visible c (first_not is_end c word e) in
    let t = c ∷ word ++ joined os in
    let l : labelled (length t) t ≡ unlabelled t = labels_none (length (word ++ joined os)) t b in
    let f : front is_end t ≡ c ∷ word = front_until is_end (c ∷ word) (joined os) e (begins_joined os) in
    let k : back is_end t ≡ joined os = back_until is_end (c ∷ word) (joined os) e (begins_joined os) in
    ap (λ s. cut_item (labelled (length t) s)) (skipped c (word ++ joined os) v.blank)
    ∙ ap cut_item l
    ∙ not_over c (word ++ joined os) v.hash
    ∙ ap (λ s. cut_with [] s (operands_in (back is_end t))) f
    ∙ ap (λ s. cut_with [] (c ∷ word) (operands_in s)) k
    ∙ ap (cut_with [] (c ∷ word)) (operands_cut os w)

pub cut_words : (c : ℕ) (word : List ℕ) (os : List (List ℕ)) → begins_label c ≡ true → none_of is_past_label word ≡ true →
    none_of is_end (c ∷ word) ≡ true → AreWords os → cut (c ∷ word ++ joined os) ≡ Some (record { labels = []; word = c ∷ word; operands = plains os })
cut_words c word os b n e w = cut_unlabelled c word os (no_label c word os b n) e w

newlines_further : (os : List (List ℕ)) → AreWords os → none_of is_newline (further os) ≡ true
newlines_further [] w = refl
newlines_further (o ∷ os) w = none_append is_newline o (further os) w.0.newlines (newlines_further os w.1)

pub newlines_joined : (os : List (List ℕ)) → AreWords os → none_of is_newline (joined os) ≡ true
newlines_joined [] w = refl
newlines_joined (o ∷ os) w = none_append is_newline o (further os) w.0.newlines (newlines_further os w.1)
