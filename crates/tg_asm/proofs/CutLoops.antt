-- The parts of a line are found one after the other.
use Rattle.std.proofs.Common.{◌≡◌, ◌<◌, ◌≤◌, ◌+◌, ℕ, zero, suc, Bool, true, false, not, cond, List, [], ◌∷◌, ◌++◌, length, take, drop, map, Option}
use Rattle.std.proofs.Common.{Some, None, refl, sym, ap, ◌∙◌, arith, append-nil, append_assoc, drop-cons, add-one}
use Rattle.std.specs.Prelude.{slice_index, ◌==◌, ◌&&◌}
use Rattle.std.proofs.Math.Seq.{take-suc}
use Rattle.std.proofs.lemmas.List.{drop_all, map-append}
use Rattle.std.proofs.lemmas.Bool.{ne_eqb}
use Rattle.tg_asm_text.specs.Lines as lines
use Rattle.tg_asm_text.specs.Lines.{front, back, quoted, before_quoted, Labelled, before_labelled, unlabelled, labelled, label_at, before_colon, skip}
use Rattle.tg_asm_text.specs.Lines.{Over, Next, Misshapen, first_gap, gap, before_operands, begins_label, is_past_label, is_end, is_solid}
use Rattle.tg_asm.specs.declared.cuts.Operand.{Operand}
use Rattle.tg_asm.specs.glue.Cuts.{operand_of}

-- a split takes nothing more than the text
pub length-back : (class : ℕ → Bool) (text : List ℕ) → length (back class text) ≤ length text
length-back class [] = omega arith
length-back class (c ∷ text) = by (class c) refl (length-back class text)
  where
    by : (b : Bool) → class c ≡ b → length (back class text) ≤ length text → length (back class (c ∷ text)) ≤ suc (length text)
    by true e h = rw e (omega arith)
    by false e h = rw e (omega (arith, h))

-- strings
abbrev pub all_before_quoted : List ℕ → Option (List ℕ × List ℕ) → Option (List ℕ × List ℕ)
all_before_quoted inside (Some q) = Some (inside ++ q.0, q.1)
all_before_quoted inside None = None

pub record InQuotes (text : List ℕ) (escaped : Bool) (at : ℕ) : Type 0 where
  pub same : quoted false text ≡ all_before_quoted (take at text) (quoted escaped (drop at text))

all_before_more : (inside : List ℕ) (c : ℕ) (q : Option (List ℕ × List ℕ)) → all_before_quoted inside (before_quoted c q) ≡
    all_before_quoted (inside ++ c ∷ []) q
all_before_more inside c (Some q) = rw append_assoc refl
all_before_more inside c None = refl

all_before_none : (q : Option (List ℕ × List ℕ)) → q ≡ all_before_quoted [] q
all_before_none (Some q) = refl
all_before_none None = refl

pub quotes_begin : (text : List ℕ) → InQuotes text false 0
quotes_begin text = record { same = all_before_none _ }

goes_on : (escaped : Bool) (c : ℕ) (rest : List ℕ) → (not escaped && c == 34) ≡ false → quoted escaped (c ∷ rest) ≡
    before_quoted c (quoted (not escaped && c == 92) rest)
goes_on escaped c rest e = rw (e, quoted) refl

closes : (escaped : Bool) (c : ℕ) (rest : List ℕ) → (not escaped && c == 34) ≡ true → quoted escaped (c ∷ rest) ≡ Some ([], rest)
closes escaped c rest e = rw (e, quoted) refl

pub quotes_more : (text : List ℕ) (escaped : Bool) (at : ℕ) → InQuotes text escaped at → at < length text →
    (not escaped && slice_index text at == 34) ≡ false → InQuotes text (not escaped && slice_index text at == 92) (at + 1)
quotes_more text escaped at i h e =
    let cons : drop at text ≡ slice_index text at ∷ drop (suc at) text = drop-cons text at 0 h in
    let more : take (suc at) text ≡ take at text ++ (slice_index text at ∷ []) = take-suc text at 0 h in
    record {
      same = rw (add-one, more) (i.same ∙ ap (λ l. all_before_quoted (take at text) (quoted escaped l)) cons
          ∙ ap (all_before_quoted (take at text)) (goes_on escaped _ _ e) ∙ all_before_more _ _ _);
    }

pub quotes_close : (text : List ℕ) (escaped : Bool) (at : ℕ) → InQuotes text escaped at → at < length text →
    (not escaped && slice_index text at == 34) ≡ true → quoted false text ≡ Some (take at text, drop (at + 1) text)
quotes_close text escaped at i h e =
    let cons : drop at text ≡ slice_index text at ∷ drop (suc at) text = drop-cons text at 0 h in
    rw add-one (i.same ∙ ap (λ l. all_before_quoted (take at text) (quoted escaped l)) cons
    ∙ ap (all_before_quoted (take at text)) (closes escaped _ _ e) ∙ rw append-nil refl)

pub quotes_end : (text : List ℕ) (escaped : Bool) (at : ℕ) → InQuotes text escaped at → length text ≤ at → quoted false text ≡ None
quotes_end text escaped at i h = i.same ∙ ap (λ l. all_before_quoted (take at text) (quoted escaped l)) (drop_all at text h)

-- labels
pub record PastLabels (line rest : List ℕ) : Type 0 where
  pub fuel : ℕ
  pub enough : length rest ≤ fuel
  pub same : (labelled (length line) (skip line)).rest ≡ (labelled fuel rest).rest

pub labels_begin : (line rest : List ℕ) → rest ≡ skip line → PastLabels line rest
labels_begin line rest r = record { fuel = length line; enough = rw r (length-back is_solid line); same = rw r refl }

abbrev behind : Option (List ℕ × List ℕ) → List ℕ
behind (Some p) = p.1
behind None = []

-- a label is longer than nothing
pub label_shorter : (text name rest : List ℕ) → label_at text ≡ Some (name, rest) → length rest < length text
label_shorter [] name rest e = cc
label_shorter (c ∷ text) name rest e = by (begins_label c) refl (back is_past_label text) refl (length-back is_past_label text)
  where
    past : (b : List ℕ) → before_colon (c ∷ front is_past_label text) b ≡ Some (name, rest) → length rest < length b
    past [] h = cc
    past (d ∷ more) h = at_colon (d == 58) refl
      where
        at_colon : (b : Bool) → (d == 58) ≡ b → length rest < suc (length more)
        at_colon true k = let s = rw k at h in let r : more ≡ rest = ap behind s in rw (← r) (omega arith)
        at_colon false k = let s = rw k at h in cc

    by : (b : Bool) → begins_label c ≡ b → (p : List ℕ) → back is_past_label text ≡ p → length (back is_past_label text) ≤ length text →
        length rest < suc (length text)
    by true k p q h = let s = rw k at e in let t = past (back is_past_label text) s in omega (arith, t, h)
    by false k p q h = let s = rw k at e in cc

labelled_more : (fuel : ℕ) (text name rest : List ℕ) → label_at text ≡ Some (name, rest) → labelled (suc fuel) text ≡
    before_labelled name (labelled fuel (skip rest))
labelled_more fuel text name rest e = rw (e, labelled) refl

pub labelled_none : (fuel : ℕ) (text : List ℕ) → label_at text ≡ None → labelled fuel text ≡ unlabelled text
labelled_none zero text e = refl
labelled_none (suc fuel) text e = rw (e, labelled) refl

pub labels_shorter : (text name rest after : List ℕ) → label_at text ≡ Some (name, rest) → after ≡ skip rest → length after < length text
labels_shorter text name rest after e a =
    let h = label_shorter text name rest e in
    let s = length-back is_solid rest in
    rw a (omega (arith, h, s))

-- a label in front of a text is the first of its labels
pub record OneLess (fuel : ℕ) (text name rest : List ℕ) : Type 0 where
  pub left : ℕ
  pub enough : length (skip rest) ≤ left
  pub same : labelled fuel text ≡ before_labelled name (labelled left (skip rest))

pub label_taken : (fuel : ℕ) (text name rest : List ℕ) → length text ≤ fuel → label_at text ≡ Some (name, rest) → OneLess fuel text name rest
label_taken zero text name rest z e = let h = label_shorter text name rest e in absurd (let f : ⊥ = omega (arith, h, z) in f)
label_taken (suc fuel) text name rest z e =
    let h = label_shorter text name rest e in
    let s = length-back is_solid rest in
    record { left = fuel; enough = omega (arith, h, s, z); same = labelled_more fuel text name rest e }

pub labels_more : (line text name rest after : List ℕ) → PastLabels line text → label_at text ≡ Some (name, rest) → after ≡ skip rest → PastLabels line after
labels_more line text name rest after i e a =
    let t = label_taken i.fuel text name rest i.enough e in
    rw a (record { fuel = t.left; enough = t.enough; same = i.same ∙ ap (λ l. l.rest) t.same })

pub labels_end : (line text : List ℕ) → PastLabels line text → label_at text ≡ None → text ≡ (labelled (length line) (skip line)).rest
labels_end line text i e = sym (i.same ∙ ap (λ l. l.rest) (labelled_none i.fuel text e))

-- operands
abbrev pub room : lines.Gap → ℕ
room Over = 0
room (Next text) = length text
room Misshapen = 0

abbrev pub all_before_operands : List lines.Operand → Option (List lines.Operand) → Option (List lines.Operand)
all_before_operands list (Some more) = Some (list ++ more)
all_before_operands list None = None

pub record InOperands (text : List ℕ) (list : List lines.Operand) (before : lines.Gap) : Type 0 where
  pub fuel : ℕ
  pub enough : room before < fuel
  pub same : lines.operands_in text ≡ all_before_operands list (lines.operands fuel before)

all_before_no_operands : (o : Option (List lines.Operand)) → o ≡ all_before_operands [] o
all_before_no_operands (Some os) = refl
all_before_no_operands None = refl

room-without_comma : (text : List ℕ) → room (lines.without_comma text) ≤ length text
room-without_comma [] = omega arith
room-without_comma (c ∷ text) = by (c == 35) (c == 44)
  where
    by : (a b : Bool) → room (cond a Over (cond b Misshapen (Next (c ∷ text)))) ≤ suc (length text)
    by true b = omega arith
    by false true = omega arith
    by false false = omega arith

room-after_comma : (text : List ℕ) → room (lines.after_comma text) ≤ length text
room-after_comma [] = omega arith
room-after_comma (c ∷ text) = grind arith

room-after_blanks : (blanks : Bool) (text : List ℕ) → room (lines.after_blanks blanks text) ≤ length text
room-after_blanks blanks [] = omega arith
room-after_blanks blanks (c ∷ text) = by (c == 35) (c == 44) blanks
  where
    by : (a b d : Bool) → room (cond a Over (cond b (lines.after_comma (skip text)) (cond d (Next (c ∷ text)) Misshapen))) ≤ suc (length text)
    by true b d = omega arith
    by false true d = let h = room-after_comma (skip text) in let s = length-back is_solid text in omega (arith, h, s)
    by false false true = omega arith
    by false false false = omega arith

room-gap : (text : List ℕ) → room (gap text) ≤ length text
room-gap text =
    let h = room-after_blanks (lines.begins_blank text) (skip text) in
    let s = length-back is_solid text in
    omega (arith, h, s)

pub operands_begin : (text : List ℕ) (list : List lines.Operand) (before : lines.Gap) → list ≡ [] → before ≡ first_gap text → InOperands text list before
operands_begin text list before l b =
    let h = room-without_comma (skip text) in
    let s = length-back is_solid text in
    record {
      fuel = suc (length text);
      enough = rw b (omega (arith, h, s));
      same = rw (l, b) (all_before_no_operands _);
    }

-- an operand is longer than nothing
abbrev operand_behind : Option (lines.Operand × List ℕ) → List ℕ
operand_behind (Some p) = p.1
operand_behind None = []

quoted_shorter : (escaped : Bool) (text inside rest : List ℕ) → quoted escaped text ≡ Some (inside, rest) → length rest < length text
quoted_shorter escaped [] inside rest e = cc
quoted_shorter escaped (c ∷ text) inside rest e = by (not escaped && c == 34) refl (quoted (not escaped && c == 92) text)
    refl (quoted_shorter (not escaped && c == 92) text)
  where
    by : (b : Bool) → (not escaped && c == 34) ≡ b → (q : Option (List ℕ × List ℕ)) → quoted (not escaped && c == 92) text ≡ q →
        ((inside rest : List ℕ) → quoted (not escaped && c == 92) text ≡ Some (inside, rest) → length rest < length text) → length rest < suc (length text)
    by true k q h ih = let s = sym (closes escaped c text k) ∙ e in let r : text ≡ rest = ap behind s in rw (← r) (omega arith)
    by false k None h ih = let s : None ≡ Some (inside, rest) = ap (before_quoted c) (sym h) ∙ sym (goes_on escaped c text k) ∙ e in cc
    by false k (Some q) h ih =
        let s : Some (c ∷ q.0, q.1) ≡ Some (inside, rest) = ap (before_quoted c) (sym h) ∙ sym (goes_on escaped c text k) ∙ e in
        let r : q.1 ≡ rest = ap behind s in
        let l = ih q.0 q.1 h in
        rw (← r) (omega (arith, l))

as_quoted_shorter : (q : Option (List ℕ × List ℕ)) (text rest : List ℕ) (o : lines.Operand) → quoted false text ≡ q →
    lines.as_quoted q ≡ Some (o, rest) → length rest < length text
as_quoted_shorter None text rest o h e = cc
as_quoted_shorter (Some q) text rest o h e = let r : q.1 ≡ rest = ap operand_behind e in rw (← r) (quoted_shorter false text q.0 q.1 h)

pub operand_shorter : (text rest : List ℕ) (o : lines.Operand) → lines.operand text ≡ Some (o, rest) → length rest < length text
operand_shorter [] rest o e = cc
operand_shorter (c ∷ text) rest o e = by (c == 34) refl
  where
    by : (b : Bool) → (c == 34) ≡ b → length rest < suc (length text)
    by true k = let s = rw k at e in let l = as_quoted_shorter (quoted false text) text rest o refl s in omega (arith, l)
    by false k =
        let s = rw k at e in
        let r : back is_end text ≡ rest = ap operand_behind s in
        let l = length-back is_end text in
        rw (← r) (omega (arith, l))

operands_next : (fuel : ℕ) (text rest : List ℕ) (o : lines.Operand) → lines.operand text ≡ Some (o, rest) →
    lines.operands (suc fuel) (Next text) ≡ before_operands o (lines.operands fuel (gap rest))
operands_next fuel text rest o e = rw (e, lines.operands) refl

operands_misshapen : (fuel : ℕ) (text : List ℕ) → lines.operand text ≡ None → lines.operands fuel (Next text) ≡ None
operands_misshapen zero text e = refl
operands_misshapen (suc fuel) text e = rw (e, lines.operands) refl

all_before_operands_more : (list : List lines.Operand) (o : lines.Operand) (more : Option (List lines.Operand)) →
    all_before_operands list (before_operands o more) ≡ all_before_operands (list ++ o ∷ []) more
all_before_operands_more list o (Some more) = rw append_assoc refl
all_before_operands_more list o None = refl

pub operands_shorter : (text rest : List ℕ) (o : lines.Operand) (before after : lines.Gap) → before ≡ Next text →
    lines.operand text ≡ Some (o, rest) → after ≡ gap rest → room after < room before
operands_shorter text rest o before after b e a =
    let h = operand_shorter text rest o e in
    let s = room-gap rest in
    rw (a, b) (omega (arith, h, s))

pub operands_pushed : (whole : List ℕ) (list list' : List lines.Operand) (text rest : List ℕ) (o : lines.Operand) (before after : lines.Gap) →
    InOperands whole list before → before ≡ Next text → lines.operand text ≡ Some (o, rest) → list' ≡ list ++ o ∷ [] →
    after ≡ gap rest → InOperands whole list' after
operands_pushed whole list list' text rest o before after i b e l a = by i.fuel refl
  where
    by : (n : ℕ) → i.fuel ≡ n → InOperands whole list' after
    by zero k = let z : room before < 0 = rw k at i.enough in absurd (let f : ⊥ = omega (arith, z) in f)
    by (suc n) k =
        let h = operands_shorter text rest o before after b e a in
        let z : room before < suc n = rw k at i.enough in
        record {
          fuel = n;
          enough = omega (arith, h, z);
          same = rw (l, a) ((rw (k, b) at i.same) ∙ ap (all_before_operands list) (operands_next n text rest o e) ∙ all_before_operands_more list o _);
        }

pub operands_over : (whole : List ℕ) (list : List lines.Operand) (before : lines.Gap) → InOperands whole list before →
    before ≡ Over → lines.operands_in whole ≡ Some list
operands_over whole list before i b = by i.fuel refl
  where
    by : (n : ℕ) → i.fuel ≡ n → lines.operands_in whole ≡ Some list
    by zero k = let z : room before < 0 = rw k at i.enough in absurd (let f : ⊥ = omega (arith, z) in f)
    by (suc n) k = (rw (k, b) at i.same) ∙ rw append-nil refl

pub operands_bad : (whole : List ℕ) (list : List lines.Operand) (before : lines.Gap) → InOperands whole list before →
    before ≡ Misshapen → lines.operands_in whole ≡ None
operands_bad whole list before i b = by i.fuel refl
  where
    by : (n : ℕ) → i.fuel ≡ n → lines.operands_in whole ≡ None
    by zero k = (rw k at i.same)
    by (suc n) k = (rw (k, b) at i.same)

pub operands_open : (whole : List ℕ) (list : List lines.Operand) (before : lines.Gap) (text : List ℕ) →
    InOperands whole list before → before ≡ Next text → lines.operand text ≡ None → lines.operands_in whole ≡ None
operands_open whole list before text i b e = (rw b at i.same) ∙ ap (all_before_operands list) (operands_misshapen i.fuel text e)

-- the run of an operand from its first byte
pub run_taken : (c : ℕ) (text : List ℕ) → take (length (front is_end text) + 1) (c ∷ text) ≡ c ∷ front is_end text
run_taken c text = rw add-one (ap (λ l. c ∷ l) (front_taken text))
  where
    front_taken : (text : List ℕ) → take (length (front is_end text)) text ≡ front is_end text
    front_taken [] = refl
    front_taken (d ∷ text) = by (is_end d) refl (front_taken text)
      where
        by : (b : Bool) → is_end d ≡ b → take (length (front is_end text)) text ≡ front is_end text →
            take (length (front is_end (d ∷ text))) (d ∷ text) ≡ front is_end (d ∷ text)
        by true k h = rw k refl
        by false k h = rw k (ap (λ l. d ∷ l) h)

pub run_fits : (text more run : List ℕ) (c : ℕ) → text ≡ c ∷ more → run ≡ front is_end more → length run + 1 ≡ length (take (length run + 1) text)
run_fits text more run c t r =
    rw (t, r) (let l : length (take (length (front is_end more) + 1) (c ∷ more)) ≡ suc (length (front is_end more)) = ap length (run_taken c more) in
    omega (arith, l))

not_quote : (c : ℕ) → (c ≡ 34 → ⊥) → (c == 34) ≡ false
not_quote c h = ne_eqb c 34 h

pub plain_operand : (text more run rest : List ℕ) (c : ℕ) → text ≡ c ∷ more → (c ≡ 34 → ⊥) → run ≡ front is_end more →
    rest ≡ back is_end more → Some (lines.Plain (take (length run + 1) text), rest) ≡ lines.operand text
plain_operand text more run rest c t n r b = rw (t, r, b, not_quote c n, run_taken c more) refl

pub operand_pushed : (os os' : List Operand) (o : Operand) → os' ≡ os ++ o ∷ [] → map operand_of os' ≡ map operand_of os ++ operand_of o ∷ []
operand_pushed os os' o e = ap (map operand_of) e ∙ map-append operand_of os (o ∷ [])

pub behind_shorter : (class : ℕ → Bool) (text rest more : List ℕ) (c : ℕ) → rest ≡ back class text → rest ≡ c ∷ more → length more < length text
behind_shorter class text rest more c b e =
    let h = length-back class text in
    let l : length rest ≡ length (back class text) = ap length b in
    let m : length rest ≡ suc (length more) = ap length e in
    omega (arith, h, l, m)
