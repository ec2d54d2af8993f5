-- Assembly text as lines, and a line as labels, an item's word and its operands.
use Rattle.std.specs.Prelude.{ℕ, zero, suc, List, [], ◌∷◌, length, Bool, true, false, not, ◌==◌}
use Rattle.std.specs.Prelude.{◌&&◌, ◌||◌, nat_le, if◌then◌else◌, Option, Some, None}

-- A line ends at byte 10 or at the end of the text.
abbrev pub onto_first : ℕ → List (List ℕ) → List (List ℕ)
onto_first c [] = (c ∷ []) ∷ []
onto_first c (line ∷ more) = (c ∷ line) ∷ more

abbrev pub before_lines : ℕ → List (List ℕ) → List (List ℕ)
before_lines c more = if c == 10 then [] ∷ more else onto_first c more

abbrev pub lines : List ℕ → List (List ℕ)
lines [] = [] ∷ []
lines (c ∷ text) = before_lines c (lines text)

-- classes of bytes: blanks; what ends an item's word and an operand (a blank, `,`, `"`, `#`); what
-- labels are made of
abbrev pub is_in_range : ℕ → ℕ → ℕ → Bool
is_in_range low high c = nat_le low c && nat_le c high

abbrev pub is_blank : ℕ → Bool
is_blank c = c == 32 || (c == 9 || c == 13)

abbrev pub is_solid : ℕ → Bool
is_solid c = not (is_blank c)

abbrev pub is_end : ℕ → Bool
is_end c = is_blank c || (c == 44 || (c == 34 || c == 35))

abbrev pub begins_label : ℕ → Bool
begins_label c = is_in_range 65 90 c || (is_in_range 97 122 c || c == 95)

abbrev pub is_in_label : ℕ → Bool
is_in_label c = begins_label c || (is_in_range 48 57 c || c == 46)

abbrev pub is_past_label : ℕ → Bool
is_past_label c = not (is_in_label c)

-- the bytes before the first one of a class, and those from it on
abbrev pub front : (ℕ → Bool) → List ℕ → List ℕ
front class [] = []
front class (c ∷ text) = if class c then [] else c ∷ front class text

abbrev pub back : (ℕ → Bool) → List ℕ → List ℕ
back class [] = []
back class (c ∷ text) = if class c then c ∷ text else back class text

abbrev pub skip : List ℕ → List ℕ
skip text = back is_solid text

-- the line is over: its end, or a comment
abbrev pub is_over : List ℕ → Bool
is_over [] = true
is_over (c ∷ text) = c == 35

-- A label in front of a text, and what follows its colon.
abbrev pub before_colon : List ℕ → List ℕ → Option (List ℕ × List ℕ)
before_colon name [] = None
before_colon name (c ∷ text) = if c == 58 then Some (name, text) else None

abbrev pub label_at : List ℕ → Option (List ℕ × List ℕ)
label_at [] = None
label_at (c ∷ text) =
    if begins_label c
    then before_colon (c ∷ front is_past_label text) (back is_past_label text)
    else None

-- the labels in front of a text, at most so many, and what follows them and their blanks
pub record Labelled : Type 0 where
  pub labels : List (List ℕ)
  pub rest : List ℕ

abbrev pub unlabelled : List ℕ → Labelled
unlabelled text = record { labels = []; rest = text }

abbrev pub before_labelled : List ℕ → Labelled → Labelled
before_labelled name l = record { labels = name ∷ l.labels; rest = l.rest }

abbrev pub labelled : ℕ → List ℕ → Labelled
labelled zero text = unlabelled text
labelled (suc n) text =
    elim (label_at text) as (λ _. Labelled) [
      | Some l ↦ before_labelled l.0 (labelled n (skip l.1))
      | None ↦ unlabelled text
    ]

-- An operand is a run of bytes, or what stands between two quotes, with its escapes as they are
-- written.
pub data Operand : Type 0 where
  Plain : List ℕ → Operand
  Quoted : List ℕ → Operand

-- the bytes up to the closing quote, and those after it; a `\` takes the next byte along
abbrev pub before_quoted : ℕ → Option (List ℕ × List ℕ) → Option (List ℕ × List ℕ)
before_quoted c (Some q) = Some (c ∷ q.0, q.1)
before_quoted c None = None

abbrev pub quoted : (escaped : Bool) → List ℕ → Option (List ℕ × List ℕ)
quoted escaped [] = None
quoted escaped (c ∷ text) =
    elim (not escaped && c == 34) as (λ _. Option (List ℕ × List ℕ)) [
      | true ↦ Some ([], text)
      | false ↦ before_quoted c (quoted (not escaped && c == 92) text)
    ]

-- the operand in front of a text, and what follows it
abbrev pub as_quoted : Option (List ℕ × List ℕ) → Option (Operand × List ℕ)
as_quoted (Some q) = Some (Quoted q.0, q.1)
as_quoted None = None

abbrev pub operand : List ℕ → Option (Operand × List ℕ)
operand [] = None
operand (c ∷ text) =
    if c == 34 then as_quoted (quoted false text) else
    Some (Plain (c ∷ front is_end text), back is_end text)

-- What stands before the next operand: the line is over, or the operand follows, or the line has no
-- such shape.
pub data Gap : Type 0 where
  Over : Gap
  Next : List ℕ → Gap
  Misshapen : Gap

-- no comma stands here
abbrev pub without_comma : List ℕ → Gap
without_comma [] = Over
without_comma (c ∷ text) = if c == 35 then Over else if c == 44 then Misshapen else Next (c ∷ text)

-- an operand has to follow a comma
abbrev pub after_comma : List ℕ → Gap
after_comma [] = Misshapen
after_comma (c ∷ text) = if c == 35 || c == 44 then Misshapen else Next (c ∷ text)

-- after an operand and blanks, if any
abbrev pub after_blanks : (blanks : Bool) → List ℕ → Gap
after_blanks blanks [] = Over
after_blanks blanks (c ∷ text) =
    if c == 35 then Over else
    if c == 44 then after_comma (skip text) else
    if blanks then Next (c ∷ text) else Misshapen

-- before the first operand, and after an operand
abbrev pub first_gap : List ℕ → Gap
first_gap text = without_comma (skip text)

abbrev pub begins_blank : List ℕ → Bool
begins_blank [] = false
begins_blank (c ∷ text) = is_blank c

abbrev pub gap : List ℕ → Gap
gap text = after_blanks (begins_blank text) (skip text)

-- all operands from a gap on, at most so many, where the line has such a shape
abbrev pub before_operands : Operand → Option (List Operand) → Option (List Operand)
before_operands o (Some more) = Some (o ∷ more)
before_operands o None = None

abbrev pub operands : ℕ → Gap → Option (List Operand)
operands zero g = None
operands (suc n) Over = Some []
operands (suc n) Misshapen = None
operands (suc n) (Next text) =
    elim (operand text) as (λ _. Option (List Operand)) [
      | Some o ↦ before_operands o.0 (operands n (gap o.1))
      | None ↦ None
    ]

abbrev pub operands_in : List ℕ → Option (List Operand)
operands_in text = operands (suc (length text)) (first_gap text)

-- A line: its labels, its item's word (none where that is empty), and the item's operands.
pub record Cut : Type 0 where
  pub labels : List (List ℕ)
  pub word : List ℕ
  pub operands : List Operand

abbrev pub cut_with : List (List ℕ) → List ℕ → Option (List Operand) → Option Cut
cut_with labels [] found = None
cut_with labels (c ∷ word) None = None
cut_with labels (c ∷ word) (Some os) =
    Some (record { labels = labels; word = c ∷ word; operands = os })

abbrev pub cut_item : Labelled → Option Cut
cut_item l =
    if is_over l.rest then Some (record { labels = l.labels; word = []; operands = [] }) else
    cut_with l.labels (front is_end l.rest) (operands_in (back is_end l.rest))

abbrev pub cut : List ℕ → Option Cut
cut line = cut_item (labelled (length line) (skip line))
