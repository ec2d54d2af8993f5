-- The lines of a text that is put together are read as those lines.
use Rattle.std.specs.Prelude.{codes, nat_le, if◌then◌else◌, ◌==◌, ◌||◌}
use Rattle.std.proofs.Common.{◌≡◌, ◌<◌, ◌≤◌, ◌^◌, ℕ, zero, suc, true, false, Bool, List, [], ◌∷◌, ◌++◌, length, map, Some, Ok, Err, refl, sym, ap}
use Rattle.std.proofs.Common.{subst, ◌∙◌, arith, append_assoc, le-leb, eqb-true, Result, Option, None}
use Rattle.std.specs.List.{All}
use Rattle.std.specs.Fmt.{decimal}
use Rattle.std.proofs.lemmas.List.{append-nil}
use Rattle.tg_machine_state.specs.State.{most_bytes}
use Rattle.tg_asm_text.specs.declared.keywords.Keyword.{Keyword}
use Rattle.tg_asm_text.specs.declared.keywords.Keyword.TheVariants as word
use Rattle.tg_asm_text.specs.declared.keywords.Segment.{Segment}
use Rattle.tg_asm_text.specs.declared.keywords.Segment.TheVariants.{Code, Statics}
use Rattle.tg_asm_text.specs.declared.keywords.AsmRule.{AsmRule}
use Rattle.tg_asm_text.specs.declared.keywords.AsmRule.TheVariants.{A7, A1}
use Rattle.tg_asm_text.specs.declared.keywords.Slot.TheVariants as slot
use Rattle.tg_isa.specs.Names.{register_name}
use Rattle.tg_asm_text.specs.Lines.{lines, is_blank, is_in_range, Next, cut, before_lines, onto_first, front, back, is_past_label, before_colon, label_at}
use Rattle.tg_asm_text.specs.Lines.{begins_label, unlabelled, before_labelled, labelled, Plain, Quoted, as_quoted, quoted, before_quoted, operands}
use Rattle.tg_asm_text.specs.Lines.{cut_with, cut_item, Labelled, is_over, is_end, operands_in, skip, Operand}
use Rattle.tg_asm_text.specs.Operands.{nothing, fill_all, is_label, plain, string, before_string, unfilled}
use Rattle.tg_asm_text.specs.Items as items
use Rattle.tg_asm_text.specs.Assembly.{Reading, reading, read_cut, with_labels, read_word, read_known}
use Rattle.tg_asm_text.specs.Placement.{Reads, segment_behind}
use Rattle.tg_asm_text.specs.Writing.{joined, line_of}
use Rattle.tg_asm_text.specs.Texts.{Line, Enter, Label, One, La, Align, Words, Bytes, Text, escaped, escaped_text, is_in_string, written_line, text_of}
use Rattle.tg_asm_text.specs.Texts.{unsigned, reading_of, readings_of, StandsIn, AreLines, Globl, Space, reads_item}
use Rattle.tg_asm_text.specs.laws.Laws.{LinesHaveImage}
use Rattle.tg_asm_text.proofs.PlacedTexts.{assembled_so}
use Rattle.tg_asm_text.proofs.WordCuts.{visible, skipped, and_true, none_of, is_newline, none_append, none_cons, front_until, back_until, lines_alone}
use Rattle.tg_asm_text.proofs.WordCuts.{AreWords, plains, next_operands, cut_unlabelled, newlines_joined}
use Rattle.tg_asm_text.proofs.OperandTexts.{register_named, name_word, decimal_text, label_word, none_past, label_end, letter_in}
use Rattle.tg_asm_text.proofs.ReadBack.{Ready, ready, words_read, words_line, reads, step, rt_in, label_in, fields}

-- a line and the text after its newline
abbrev is_some_line : List (List ℕ) → Bool
is_some_line [] = false
is_some_line (l ∷ ls) = true

onto-append : (c : ℕ) (xs ys : List (List ℕ)) → is_some_line xs ≡ true → onto_first c (xs ++ ys) ≡ onto_first c xs ++ ys
onto-append c [] ys h = cc
onto-append c (x ∷ xs) ys h = refl

before-append : (c : ℕ) (xs ys : List (List ℕ)) → is_some_line xs ≡ true → before_lines c (xs ++ ys) ≡ before_lines c xs ++ ys
before-append c xs ys h = by (c == 10) refl
  where
    by : (b : Bool) → (c == 10) ≡ b → before_lines c (xs ++ ys) ≡ before_lines c xs ++ ys
    by true e = rw e refl
    by false e = rw e (onto-append c xs ys h)

onto_some : (c : ℕ) (xs : List (List ℕ)) → is_some_line (onto_first c xs) ≡ true
onto_some c [] = refl
onto_some c (x ∷ xs) = refl

lines_some : (t : List ℕ) → is_some_line (lines t) ≡ true
lines_some [] = refl
lines_some (c ∷ t) = by (c == 10) refl
  where
    by : (b : Bool) → (c == 10) ≡ b → is_some_line (before_lines c (lines t)) ≡ true
    by true e = rw e refl
    by false e = rw e (onto_some c (lines t))

lines-append : (t rest : List ℕ) → lines (t ++ (10 ∷ rest)) ≡ lines t ++ lines rest
lines-append [] rest = refl
lines-append (c ∷ t) rest = ap (before_lines c) (lines-append t rest) ∙ before-append c (lines t) (lines rest) (lines_some t)

-- what a line has to be: one line, read so
record IsRead (segment : Segment) (text : List ℕ) (r : Reading) : Type 0 where
  line : lines text ≡ text ∷ []
  read : reading segment text ≡ Ok r

-- the line of a label
past_colon : (t : List ℕ) → none_of is_past_label t ≡ true → (front is_past_label (t ++ 58 ∷ []) ≡ t) × (back is_past_label (t ++ 58 ∷ []) ≡ 58 ∷ [])
past_colon t h = (front_until is_past_label t (58 ∷ []) h refl, back_until is_past_label t (58 ∷ []) h refl)

nothing_labelled : (n : ℕ) → labelled n [] ≡ unlabelled []
nothing_labelled zero = refl
nothing_labelled (suc n) = refl

letter_no_blank : (c : ℕ) → begins_label c ≡ true → is_blank c ≡ false
letter_no_blank c h = (visible c (label_end c (letter_in c h))).blank

label_there : (c : ℕ) (t : List ℕ) → begins_label c ≡ true → front is_past_label (t ++ 58 ∷ []) ≡ t →
    back is_past_label (t ++ 58 ∷ []) ≡ 58 ∷ [] → label_at (c ∷ (t ++ 58 ∷ [])) ≡ Some (c ∷ t, [])
label_there c t h f b = rw h (ap (λ x. before_colon (c ∷ x) (back is_past_label (t ++ 58 ∷ []))) f ∙ ap (before_colon (c ∷ t)) b)

labels_some : (n : ℕ) (text name : List ℕ) → label_at text ≡ Some (name, []) → labelled (suc n) text ≡ record { labels = name ∷ []; rest = [] }
labels_some n text name e = rw (e, labelled) (ap (before_labelled name) (nothing_labelled n))

labels_first : (n : ℕ) (t : List ℕ) (l : List ℕ × List ℕ) → label_at t ≡ Some l → labelled (suc n) t ≡ before_labelled l.0 (labelled n (skip l.1))
labels_first n t l e = rw (e, labelled) refl

label_read : (segment : Segment) (name : List ℕ) → is_label name ≡ true → reading segment (name ++ 58 ∷ []) ≡
    Ok (record { labels = name ∷ []; item = items.Nothing })
label_read segment [] h = cc
label_read segment (c ∷ t) h =
    let b = and_true (begins_label c) (length (back is_past_label t) == 0) h in
    let n = none_past is_past_label t b.1 in
    let p = past_colon t n in
    let text : List ℕ = c ∷ (t ++ 58 ∷ []) in
    let v : is_blank c ≡ false = letter_no_blank c b.0 in
    let at : label_at text ≡ Some (c ∷ t, []) = label_there c t b.0 p.0 p.1 in
    let l : labelled (length text) text ≡ record { labels = (c ∷ t) ∷ []; rest = [] } =
    labels_some (length (t ++ 58 ∷ [])) text (c ∷ t) at in
    ap (λ s. read_cut segment (cut_item (labelled (length text) s))) (skipped c (t ++ 58 ∷ []) v)
    ∙ ap (λ l. read_cut segment (cut_item l)) l

label_lines : (name : List ℕ) → is_label name ≡ true → lines (name ++ 58 ∷ []) ≡ (name ++ 58 ∷ []) ∷ []
label_lines name h = lines_alone (name ++ 58 ∷ []) (none_append is_newline name (58 ∷ []) (label_word name h).newlines refl)

-- the line of `la`
la_ready : Ready word.La 108 (97 ∷ [])
la_ready = ready refl (λ os. refl)

la_fills : (r : ℕ) (label : List ℕ) → r < 32 → is_label label ≡ true → fill_all (slot.Rt ∷ slot.Label ∷ [])
    (Plain (register_name r) ∷ Plain label ∷ []) unfilled ≡ Some (fields 31 0 r nothing label)
la_fills r label h k =
    step slot.Rt (slot.Label ∷ []) (Plain (register_name r)) (Plain label ∷ []) (fields 31 0 0 nothing []) (fields 31 0 r nothing [])
    (rt_in (register_name r) r (fields 31 0 0 nothing []) (register_named r h))
    ∙ step slot.Label [] (Plain label) [] (fields 31 0 r nothing []) (fields 31 0 r nothing label) (label_in label (fields 31 0 r nothing []) k)

la_words : (r : ℕ) (label : List ℕ) → r < 32 → is_label label ≡ true → AreWords (register_name r ∷ label ∷ [])
la_words r label h k = (name_word r h, (label_word label k, tt))

la_read : (r : ℕ) (label : List ℕ) → r < 32 → is_label label ≡ true →
    IsRead Code (codes "la" ++ joined (register_name r ∷ label ∷ [])) (reading_of (La r label))
la_read r label h k = record {
  line = words_line word.La 108 (97 ∷ []) (register_name r ∷ label ∷ []) la_ready (la_words r label h k);
  read = words_read word.La 108 (97 ∷ []) (register_name r ∷ label ∷ []) (fields 31 0 r nothing label) la_ready (la_words r label h k) (la_fills r label h k) refl;
}

-- directives of numbers
numbers_words : (ns : List ℕ) → All (λ n. n < 2 ^ 32) ns → AreWords (map decimal ns)
numbers_words [] h = tt
numbers_words (n ∷ ns) h = ((decimal_text n (h 0 n (omega arith))).word, numbers_words ns (λ k d lt. h (suc k) d (omega (arith, lt))))

directive_line : (c : ℕ) (word : List ℕ) (os : List (List ℕ)) → none_of is_newline (c ∷ word) ≡ true → AreWords os →
    lines ((c ∷ word) ++ joined os) ≡ ((c ∷ word) ++ joined os) ∷ []
directive_line c word os h w = lines_alone ((c ∷ word) ++ joined os) (none_append is_newline (c ∷ word) (joined os) h (newlines_joined os w))

align_read : (power : ℕ) → power ≤ 3 → IsRead Statics (codes ".align" ++ joined (decimal power ∷ [])) (reading_of (Align power))
align_read power h =
    let n = decimal_text power (omega (arith, h)) in
    let t : nat_le power 3 ≡ true = le-leb power 3 h in
    record {
      line = directive_line 46 (97 ∷ 108 ∷ 105 ∷ 103 ∷ 110 ∷ []) (decimal power ∷ []) refl (n.word, tt);
      read = ap (read_cut Statics) (cut_unlabelled 46 (97 ∷ 108 ∷ 105 ∷ 103 ∷ 110 ∷ []) (decimal power ∷ []) refl refl (n.word, tt))
          ∙ ap (λ o. with_labels [] (items.aligned (items.sized word.Align o))) n.read
          ∙ ap (λ b. with_labels [] (items.aligned (if b then Ok power else Err A7))) t;
    }

words_data : (ns : List ℕ) → All (λ n. n < 2 ^ 32) ns → items.all_data word.Word (plains (map decimal ns)) ≡ Some (map (λ n. items.Value (unsigned n)) ns)
words_data [] h = refl
words_data (n ∷ ns) h =
    ap (λ o. items.before_data (items.or_place o (decimal n)) (items.all_data word.Word (plains (map decimal ns)))) (decimal_text n (h 0 n (omega arith))).read
    ∙ ap (items.before_data (Some (items.Value (unsigned n)))) (words_data ns (λ k d lt. h (suc k) d (omega (arith, lt))))

words_fit : (ns : List ℕ) → All (λ n. n < 2 ^ 32) ns → items.data_fit word.Word (map (λ n. items.Value (unsigned n)) ns) ≡ true
words_fit [] h = refl
words_fit (n ∷ ns) h =
    let l : n < 2 ^ 32 = h 0 n (omega arith) in
    let t : nat_le n 4294967295 ≡ true = le-leb n 4294967295 (omega (arith, l)) in
    rw t (words_fit ns (λ k d lt. h (suc k) d (omega (arith, lt))))

bytes_data : (ns : List ℕ) → All (λ n. n < 2 ^ 8) ns → items.all_data word.Byte (plains (map decimal ns)) ≡ Some (map (λ n. items.Single (unsigned n)) ns)
bytes_data [] h = refl
bytes_data (n ∷ ns) h =
    let l : n < 2 ^ 8 = h 0 n (omega arith) in
    ap (λ o. items.before_data (items.as_single o) (items.all_data word.Byte (plains (map decimal ns)))) (decimal_text n (omega (arith, l))).read
    ∙ ap (items.before_data (Some (items.Single (unsigned n)))) (bytes_data ns (λ k d lt. h (suc k) d (omega (arith, lt))))

bytes_fit : (ns : List ℕ) → All (λ n. n < 2 ^ 8) ns → items.data_fit word.Byte (map (λ n. items.Single (unsigned n)) ns) ≡ true
bytes_fit [] h = refl
bytes_fit (n ∷ ns) h =
    let l : n < 2 ^ 8 = h 0 n (omega arith) in
    let t : nat_le n 255 ≡ true = le-leb n 255 (omega (arith, l)) in
    rw t (bytes_fit ns (λ k d lt. h (suc k) d (omega (arith, lt))))

fitting : (k : Keyword) (align : ℕ) (ds : List items.Datum) → items.data_fit k ds ≡ true → items.within_data k align (Some ds) ≡ Ok (items.Data' align ds)
fitting k align ds h = rw h refl

words_line_read : (ns : List ℕ) → 0 < length ns → All (λ n. n < 2 ^ 32) ns → IsRead Statics (codes ".word" ++ joined (map decimal ns)) (reading_of (Words ns))
words_line_read [] p h = absurd (omega (arith, p))
words_line_read (n ∷ ns) p h = record {
  line = directive_line 46 (119 ∷ 111 ∷ 114 ∷ 100 ∷ []) (map decimal (n ∷ ns)) refl (numbers_words (n ∷ ns) h);
  read = ap (read_cut Statics) (cut_unlabelled 46 (119 ∷ 111 ∷ 114 ∷ 100 ∷ []) (map decimal (n ∷ ns)) refl refl (numbers_words (n ∷ ns) h))
      ∙ ap (λ o. with_labels [] (items.within_data word.Word 4 o)) (words_data (n ∷ ns) h)
      ∙ ap (with_labels []) (fitting word.Word 4 (map (λ m. items.Value (unsigned m)) (n ∷ ns)) (words_fit (n ∷ ns) h));
}

small : (ns : List ℕ) → All (λ n. n < 2 ^ 8) ns → All (λ n. n < 2 ^ 32) ns
small ns h k d lt = let l = h k d lt in omega (arith, l)

bytes_read : (ns : List ℕ) → 0 < length ns → All (λ n. n < 2 ^ 8) ns → IsRead Statics (codes ".byte" ++ joined (map decimal ns)) (reading_of (Bytes ns))
bytes_read [] p h = absurd (omega (arith, p))
bytes_read (n ∷ ns) p h = record {
  line = directive_line 46 (98 ∷ 121 ∷ 116 ∷ 101 ∷ []) (map decimal (n ∷ ns)) refl (numbers_words (n ∷ ns) (small (n ∷ ns) h));
  read = ap (read_cut Statics) (cut_unlabelled 46 (98 ∷ 121 ∷ 116 ∷ 101 ∷ []) (map decimal (n ∷ ns)) refl refl (numbers_words (n ∷ ns) (small (n ∷ ns) h)))
      ∙ ap (λ o. with_labels [] (items.within_data word.Byte 1 o)) (bytes_data (n ∷ ns) h)
      ∙ ap (with_labels []) (fitting word.Byte 1 (map (λ m. items.Single (unsigned m)) (n ∷ ns)) (bytes_fit (n ∷ ns) h));
}

-- the bytes of a string, with their escapes
record Spelled (c : ℕ) : Type 0 where
  quotes : (rest q r : List ℕ) → quoted false rest ≡ Some (q, r) → quoted false (escaped c ++ rest) ≡ Some (escaped c ++ q, r)
  means : (rest bytes : List ℕ) → string false rest ≡ Some bytes → string false (escaped c ++ rest) ≡ Some (c ∷ bytes)
  newlines : none_of is_newline (escaped c) ≡ true

spelled_newline : Spelled 10
spelled_newline = record {
  quotes = λ rest q r h. ap (λ o. before_quoted 92 (before_quoted 110 o)) h;
  means =
      λ rest bytes h. ap (before_string (Some 10)) h;
  newlines = refl;
}

spelled_tab : Spelled 9
spelled_tab = record {
  quotes = λ rest q r h. ap (λ o. before_quoted 92 (before_quoted 116 o)) h;
  means =
      λ rest bytes h. ap (before_string (Some 9)) h;
  newlines = refl;
}

spelled_zero : Spelled 0
spelled_zero = record {
  quotes = λ rest q r h. ap (λ o. before_quoted 92 (before_quoted 48 o)) h;
  means =
      λ rest bytes h. ap (before_string (Some 0)) h;
  newlines = refl;
}

spelled_quote : Spelled 34
spelled_quote = record {
  quotes = λ rest q r h. ap (λ o. before_quoted 92 (before_quoted 34 o)) h;
  means =
      λ rest bytes h. ap (before_string (Some 34)) h;
  newlines = refl;
}

spelled_backslash : Spelled 92
spelled_backslash = record {
  quotes = λ rest q r h. ap (λ o. before_quoted 92 (before_quoted 92 o)) h;
  means =
      λ rest bytes h. ap (before_string (Some 92)) h;
  newlines = refl;
}

record IsOrdinary (c : ℕ) : Type 0 where
  newline : (c == 10) ≡ false
  tab : (c == 9) ≡ false
  zero' : (c == 0) ≡ false
  quote : (c == 34) ≡ false
  backslash : (c == 92) ≡ false

or_no_more : (a b : Bool) → (a || (b || false)) ≡ true → (a || b) ≡ true
or_no_more true b h = refl
or_no_more false true h = refl
or_no_more false false h = h

ordinary_plain : (c : ℕ) → IsOrdinary c → is_in_string c ≡ true → plain c ≡ Some c
ordinary_plain c o h =
    let k = or_no_more (is_in_range 32 126 c) (is_in_range 128 255 c) (rw (o.newline, o.tab, o.zero') at h) in
    rw k refl

ordinary_escaped : (c : ℕ) → IsOrdinary c → escaped c ≡ c ∷ []
ordinary_escaped c o = rw (o.newline, o.tab, o.zero', o.quote, o.backslash) refl

quoted_byte : (c : ℕ) (rest : List ℕ) → (c == 34) ≡ false → (c == 92) ≡ false → quoted false (c ∷ rest) ≡ before_quoted c (quoted false rest)
quoted_byte c rest q b = rw (q, quoted) (rw b refl)

string_byte : (c : ℕ) (rest : List ℕ) → (c == 92) ≡ false → string false (c ∷ rest) ≡ before_string (plain c) (string false rest)
string_byte c rest b = rw (b, string) refl

spelled_ordinary : (c : ℕ) → IsOrdinary c → is_in_string c ≡ true → Spelled c
spelled_ordinary c o h =
    let e = ordinary_escaped c o in
    record {
      quotes = λ rest q r k. subst (λ x. quoted false (x ++ rest) ≡ Some (x ++ q, r)) (sym e) (quoted_byte c rest o.quote o.backslash ∙ ap (before_quoted c) k);
      means = λ rest bytes k. subst (λ x. string false (x ++ rest) ≡ Some (c ∷ bytes)) (sym e) (string_byte c rest o.backslash
          ∙ ap (λ p. before_string p (string false rest)) (ordinary_plain c o h) ∙ ap (before_string (Some c)) k);
      newlines = subst (λ x. none_of is_newline x ≡ true) (sym e) (none_cons is_newline c [] o.newline refl);
    }

spelled : (c : ℕ) → is_in_string c ≡ true → Spelled c
spelled c h = by (c == 10) (c == 9) (c == 0) (c == 34) (c == 92) refl refl refl refl refl
  where
    by : (n t z q b : Bool) → (c == 10) ≡ n → (c == 9) ≡ t → (c == 0) ≡ z → (c == 34) ≡ q → (c == 92) ≡ b → Spelled c
    by true t z q b en et ez eq eb = subst Spelled (sym (eqb-true c 10 en)) spelled_newline
    by false true z q b en et ez eq eb = subst Spelled (sym (eqb-true c 9 et)) spelled_tab
    by false false true q b en et ez eq eb = subst Spelled (sym (eqb-true c 0 ez)) spelled_zero
    by false false false true b en et ez eq eb = subst Spelled (sym (eqb-true c 34 eq)) spelled_quote
    by false false false false true en et ez eq eb = subst Spelled (sym (eqb-true c 92 eb)) spelled_backslash
    by false false false false false en et ez eq eb = spelled_ordinary c (record { newline = en; tab = et; zero' = ez; quote = eq; backslash = eb }) h

abbrev AreSpelled : List ℕ → Type 0
AreSpelled bytes = All (λ c. is_in_string c ≡ true) bytes

rest_spelled : (c : ℕ) (bytes : List ℕ) → AreSpelled (c ∷ bytes) → AreSpelled bytes
rest_spelled c bytes h k d lt = h (suc k) d (omega (arith, lt))

quoted_text : (bytes rest : List ℕ) → AreSpelled bytes → quoted false (escaped_text bytes ++ (34 ∷ rest)) ≡ Some (escaped_text bytes, rest)
quoted_text [] rest h = refl
quoted_text (c ∷ bytes) rest h =
    ap (quoted false) (append_assoc (escaped c) (escaped_text bytes) (34 ∷ rest))
    ∙ (spelled c (h 0 c (omega arith))).quotes (escaped_text bytes ++ (34 ∷ rest)) (escaped_text bytes) rest (quoted_text bytes rest (rest_spelled c bytes h))

string_text : (bytes : List ℕ) → AreSpelled bytes → string false (escaped_text bytes) ≡ Some bytes
string_text [] h = refl
string_text (c ∷ bytes) h = (spelled c (h 0 c (omega arith))).means (escaped_text bytes) bytes (string_text bytes (rest_spelled c bytes h))

newlines_text : (bytes : List ℕ) → AreSpelled bytes → none_of is_newline (escaped_text bytes) ≡ true
newlines_text [] h = refl
newlines_text (c ∷ bytes) h = none_append is_newline (escaped c) (escaped_text bytes) (spelled c (h 0 c (omega arith))).newlines
    (newlines_text bytes (rest_spelled c bytes h))

-- the line of a string
quoted_operand : (n : ℕ) (text : List ℕ) → quoted false (text ++ (34 ∷ [])) ≡ Some (text, []) →
    operands (suc (suc n)) (Next (34 ∷ (text ++ (34 ∷ [])))) ≡ Some (Quoted text ∷ [])
quoted_operand n text e = ap (next_operands (suc n)) (ap as_quoted e)

text_cut : (text : List ℕ) → quoted false (text ++ (34 ∷ [])) ≡ Some (text, []) → cut (codes ".ascii \"" ++ (text ++ codes "\"")) ≡
    Some (record { labels = []; word = codes ".ascii"; operands = Quoted text ∷ [] })
text_cut text e = ap (cut_with [] (codes ".ascii")) (quoted_operand (length (34 ∷ (text ++ (34 ∷ [])))) text e)

text_read : (bytes : List ℕ) → AreSpelled bytes → IsRead Statics (codes ".ascii \"" ++ (escaped_text bytes ++ codes "\"")) (reading_of (Text bytes))
text_read bytes h = record {
  line = lines_alone (codes ".ascii \"" ++ (escaped_text bytes ++ codes "\""))
      (none_append is_newline
      (codes ".ascii \"") (escaped_text bytes ++ (34 ∷ [])) refl (none_append is_newline (escaped_text bytes) (34 ∷ []) (newlines_text bytes h) refl));
  read = ap (read_cut Statics) (text_cut (escaped_text bytes) (quoted_text bytes [] h))
      ∙ ap (λ o. with_labels [] (items.text_item [] o)) (string_text bytes h)
      ∙ ap (λ b. with_labels [] (Ok (items.Data' 1 (items.Bytes b ∷ [])))) (append-nil bytes);
}

-- the lines of a name for a loader, and of zeros
globl_read : (segment : Segment) (name : List ℕ) → is_label name ≡ true → IsRead segment (codes ".globl" ++ joined (name ∷ [])) (reads_item items.Nothing)
globl_read segment name h =
    let w = label_word name h in
    let directive : List ℕ = 103 ∷ 108 ∷ 111 ∷ 98 ∷ 108 ∷ [] in
    record {
      line = directive_line 46 directive (name ∷ []) refl (w, tt);
      read = ap (read_cut segment) (cut_unlabelled 46 directive (name ∷ []) refl refl (w, tt))
          ∙ (let t : is_label name ≡ true = h in rw t refl);
    }

space_read : (n : ℕ) → n ≤ most_bytes → IsRead Statics (codes ".space" ++ joined (decimal n ∷ [])) (reading_of (Space n))
space_read n h =
    let d = decimal_text n (omega (arith, h)) in
    let t : nat_le n most_bytes ≡ true = le-leb n most_bytes h in
    let directive : List ℕ = 115 ∷ 112 ∷ 97 ∷ 99 ∷ 101 ∷ [] in
    record {
      line = directive_line 46 directive (decimal n ∷ []) refl (d.word, tt);
      read = ap (read_cut Statics) (cut_unlabelled 46 directive (decimal n ∷ []) refl refl (d.word, tt))
          ∙ ap (λ o. with_labels [] (items.zeros (items.sized word.Space o))) d.read
          ∙ ap (λ b. with_labels [] (items.zeros (if b then Ok n else Err A7))) t;
    }

-- a tab in front of an item changes nothing
with_labels-labels : (labels : List (List ℕ)) (o : Result items.Item AsmRule) (r : Reading) → with_labels labels o ≡ Ok r → labels ≡ r.labels
with_labels-labels labels (Ok i) r h = cc
with_labels-labels labels (Err e) r h = cc

read_word-labels : (segment : Segment) (labels : List (List ℕ)) (os : List Operand) (word : List ℕ) (r : Reading) →
    read_word segment labels os word ≡ Ok r → labels ≡ r.labels
read_word-labels segment labels os [] r h = cc
read_word-labels segment labels os (c ∷ word) r h = by (items.keyword (c ∷ word)) h
  where
    stands : (k : Keyword) (b : Bool) → (if b then with_labels labels (items.item k os) else Err A1) ≡ Ok r → labels ≡ r.labels
    stands k true e = with_labels-labels labels (items.item k os) r e
    stands k false e = cc

    by : (o : Option Keyword) → read_known segment labels os o ≡ Ok r → labels ≡ r.labels
    by (Some k) e = stands k (items.may_stand_in k segment) e
    by None e = cc

cut_with-labels : (segment : Segment) (labels : List (List ℕ)) (word : List ℕ) (found : Option (List Operand)) (r : Reading) →
    read_cut segment (cut_with labels word found) ≡ Ok r → labels ≡ r.labels
cut_with-labels segment labels [] found r h = cc
cut_with-labels segment labels (c ∷ word) None r h = cc
cut_with-labels segment labels (c ∷ word) (Some os) r h = read_word-labels segment labels os (c ∷ word) r h

cut_item-labels : (segment : Segment) (l : Labelled) (r : Reading) → read_cut segment (cut_item l) ≡ Ok r → l.labels ≡ r.labels
cut_item-labels segment l r h = by (is_over l.rest) h
  where
    by : (b : Bool) → read_cut segment (if b then Some (record { labels = l.labels; word = []; operands = [] }) else
        cut_with l.labels (front is_end l.rest) (operands_in (back is_end l.rest))) ≡ Ok r → l.labels ≡ r.labels
    by true e = cc
    by false e = cut_with-labels segment l.labels (front is_end l.rest) (operands_in (back is_end l.rest)) r e

unlabelled_more : (n : ℕ) (t : List ℕ) → (labelled (suc n) t).labels ≡ [] → labelled (suc (suc n)) t ≡ labelled (suc n) t
unlabelled_more n t h = by (label_at t) refl
  where
    by : (o : Option (List ℕ × List ℕ)) → label_at t ≡ o → labelled (suc (suc n)) t ≡ labelled (suc n) t
    by None e = rw (e, labelled) refl
    by (Some l) e =
        let none : l.0 ∷ (labelled n (skip l.1)).labels ≡ [] = sym (ap (λ (x : Labelled). x.labels) (labels_first n t l e)) ∙ h in
        cc

indented : (segment : Segment) (t : List ℕ) (i : items.Item) → IsRead segment t (reads_item i) → IsRead segment (9 ∷ t) (reads_item i)
indented segment t i h = record { line = ap (before_lines 9) h.line; read = reads t h.read }
  where
    reads : (t : List ℕ) → reading segment t ≡ Ok (reads_item i) → reading segment (9 ∷ t) ≡ Ok (reads_item i)
    reads [] e = e
    reads (c ∷ rest) e =
        let none : (labelled (length (c ∷ rest)) (skip (c ∷ rest))).labels ≡ [] = cut_item-labels segment (labelled (length (c ∷ rest)) (skip (c ∷ rest))) (reads_item i) e in
        ap (λ l. read_cut segment (cut_item l)) (unlabelled_more (length rest) (skip (c ∷ rest)) none) ∙ e

-- a line that may stand in a segment is read so
line_read : (segment : Segment) (l : Line) → StandsIn segment l → IsRead segment (written_line l) (reading_of l)
line_read segment (Globl name) h = indented segment (codes ".globl" ++ joined (name ∷ [])) items.Nothing (globl_read segment name h)
line_read Code (Enter Code) h = record { line = refl; read = refl }
line_read Code (Enter Statics) h = record { line = refl; read = refl }
line_read Statics (Enter Code) h = record { line = refl; read = refl }
line_read Statics (Enter Statics) h = record { line = refl; read = refl }
line_read segment (Label name) h = record { line = label_lines name h; read = label_read segment name h }
line_read Code (One one target) h = let r = reads one target h.0 h.1 in indented Code (line_of one target) _ (record { line = r.line; read = r.read })
line_read Code (La r label) h = indented Code (codes "la" ++ joined (register_name r ∷ label ∷ [])) _ (la_read r label h.0 h.1)
line_read Statics (Align power) h = indented Statics (codes ".align" ++ joined (decimal power ∷ [])) _ (align_read power h)
line_read Statics (Space n) h = indented Statics (codes ".space" ++ joined (decimal n ∷ [])) _ (space_read n h)
line_read Statics (Words ns) h = indented Statics (codes ".word" ++ joined (map decimal ns)) _ (words_line_read ns h.0 h.1)
line_read Statics (Bytes ns) h = indented Statics (codes ".byte" ++ joined (map decimal ns)) _ (bytes_read ns h.0 h.1)
line_read Statics (Text bytes) h = indented Statics (codes ".ascii \"" ++ (escaped_text bytes ++ codes "\"")) _ (text_read bytes h)
line_read Code (Space n) h = absurd h
line_read Code (Align power) h = absurd h
line_read Code (Words ns) h = absurd h
line_read Code (Bytes ns) h = absurd h
line_read Code (Text bytes) h = absurd h
line_read Statics (One one target) h = absurd h
line_read Statics (La r label) h = absurd h

-- a text that is put together is read so
pub text_reads : (ls : List Line) (segment : Segment) → AreLines segment ls → Reads segment (lines (text_of ls)) (readings_of ls)
text_reads [] segment h = (refl, tt)
text_reads (l ∷ ls) segment h =
    let r = line_read segment l h.0 in
    let e : lines (text_of (l ∷ ls)) ≡ written_line l ∷ lines (text_of ls) =
    lines-append (written_line l) (text_of ls) ∙ ap (λ x. x ++ lines (text_of ls)) r.line in
    subst (λ x. Reads segment x (readings_of (l ∷ ls))) (sym e) (r.read, text_reads ls (segment_behind segment (reading_of l).item) h.1)

pub lines_have_image : LinesHaveImage
lines_have_image ls h s = assembled_so (text_of ls) (readings_of ls) (text_reads ls Code h) s
