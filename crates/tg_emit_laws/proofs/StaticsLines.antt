-- The lines of literals, and how the assembler reads them.
use Rattle.std.proofs.Common.{ℕ, ◌≡◌, ◌<◌, ◌+◌, ◌-◌, ◌%◌, ◌^◌, List, [], ◌∷◌, ◌++◌, length, map, replicate, refl, ap, ◌∙◌, arith}
use Rattle.std.specs.Prelude.{All}
use Rattle.std.specs.List.{AllByRecursion}
use Rattle.std.proofs.lemmas.List.Elements.{All-append, All-replicate}
use Rattle.tg_machine_state.specs.State.{padded}
use Rattle.tg_asm_text.specs.declared.keywords.Segment.{Segment}
use Rattle.tg_asm_text.specs.declared.keywords.Segment.TheVariants.{Code, Statics as InStatics}
use Rattle.tg_asm_text.specs.Items.{Datum, Single, widths}
use Rattle.tg_asm_text.specs.Assembly.{Reading, round_up}
use Rattle.tg_asm_text.specs.Placement.{Position, Positions, positions_from, next_position, segment_behind, item_words, byte_behind, labels_in, code_in}
use Rattle.tg_asm_text.specs.Placement.{last_byte, DataStand, ItemsStand}
use Rattle.tg_asm_text.specs.Texts as texts
use Rattle.tg_tree.specs.declared.fragments.Literal.{Literal}
use Rattle.tg_emit.specs.Ranges.{LiteralFits}
use Rattle.tg_emit.specs.mirror.Names.{literal_name}
use Rattle.tg_emit_laws.specs.Programs.{bytes_of}
use Rattle.tg_emit_laws.specs.Images.{bytes_line, literals_written, statics_written}
use Rattle.tg_emit_laws.proofs.NameTexts.{literal_label}
use Rattle.tg_emit_laws.proofs.Apart.{names_of, names_append}
use Rattle.tg_emit_laws.proofs.LabelsDiffer.{literal_names}

abbrev read_bytes : List ℕ → List Datum
read_bytes ns = map (λ n. Single (texts.unsigned n)) ns

bytes_width : (ns : List ℕ) → widths (read_bytes ns) ≡ length ns
bytes_width [] = refl
bytes_width (n ∷ ns) = let h = bytes_width ns in omega arith

bytes_stand : (ps : Positions) (ns : List ℕ) → DataStand ps (read_bytes ns)
bytes_stand ps [] = tt
bytes_stand ps (n ∷ ns) = (tt, bytes_stand ps ns)

no_padding : (b : ℕ) → round_up b 1 ≡ b
no_padding b = omega arith

-- a line of bytes, in front of others
line_stands : (bytes : List ℕ) (more : List texts.Line) → All (λ c. c < 2 ^ 8) bytes → texts.AreLines InStatics more →
    texts.AreLines InStatics (bytes_line bytes ∷ more)
line_stands [] more h k = (omega arith, k)
line_stands (b ∷ bytes) more h k = ((omega arith, h), k)

line_labels : (bytes : List ℕ) (more : List texts.Line) → labels_in (texts.readings_of (bytes_line bytes ∷ more)) ≡ labels_in (texts.readings_of more)
line_labels [] more = refl
line_labels (b ∷ bytes) more = refl

line_code : (bytes : List ℕ) (more : List texts.Line) → code_in (texts.readings_of (bytes_line bytes ∷ more)) ≡ code_in (texts.readings_of more)
line_code [] more = refl
line_code (b ∷ bytes) more = refl

line_bytes : (at : ℕ) (bytes : List ℕ) (more : List texts.Line) →
    last_byte at (texts.readings_of (bytes_line bytes ∷ more)) ≡ last_byte (at + length bytes) (texts.readings_of more)
line_bytes at [] more = let e : round_up at 1 + 0 ≡ at + 0 = omega arith in ap (λ n. last_byte n (texts.readings_of more)) e
line_bytes at (b ∷ bytes) more =
    let w = bytes_width (b ∷ bytes) in
    let z = no_padding at in
    let e : round_up at 1 + widths (read_bytes (b ∷ bytes)) ≡ at + length (b ∷ bytes) = omega arith in
    ap (λ n. last_byte n (texts.readings_of more)) e

line_items : (ps : Positions) (bytes : List ℕ) (more : List texts.Line) → ItemsStand ps (texts.readings_of more) →
    ItemsStand ps (texts.readings_of (bytes_line bytes ∷ more))
line_items ps [] more h = ((tt, tt), h)
line_items ps (b ∷ bytes) more h = (bytes_stand ps (b ∷ bytes), h)

padded_fits : (text : List ℕ) → All (λ c. c < 2 ^ 8) text → All (λ c. c < 2 ^ 8) (padded text)
padded_fits text h =
    All-append (λ c. c < 2 ^ 8) text (replicate ((4 - length text % 4) % 4) 0) h (All-replicate (λ c. c < 2 ^ 8) ((4 - length text % 4) % 4) 0 (omega arith))

literals_stand : (ls : List Literal) → AllByRecursion LiteralFits ls → texts.AreLines InStatics (literals_written ls)
literals_stand [] f = tt
literals_stand (l ∷ ls) f =
    let b = f.0.label in
    (literal_label l.label.0 (omega arith), line_stands (padded l.text) (literals_written ls) (padded_fits l.text f.0.text) (literals_stand ls f.1))

literals_labels : (ls : List Literal) → labels_in (texts.readings_of (literals_written ls)) ≡ literal_names ls
literals_labels [] = refl
literals_labels (l ∷ ls) = ap (λ n. literal_name l.label.0 ∷ n) (line_labels (padded l.text) (literals_written ls) ∙ literals_labels ls)

literals_code : (ls : List Literal) → code_in (texts.readings_of (literals_written ls)) ≡ []
literals_code [] = refl
literals_code (l ∷ ls) = line_code (padded l.text) (literals_written ls) ∙ literals_code ls

literals_bytes : (at : ℕ) (ls : List Literal) → last_byte at (texts.readings_of (literals_written ls)) ≡ at + bytes_of ls
literals_bytes at [] = omega arith
literals_bytes at (l ∷ ls) =
    let e : at + length (padded l.text) + bytes_of ls ≡ at + (length (padded l.text) + bytes_of ls) = omega arith in
    line_bytes at (padded l.text) (literals_written ls) ∙ literals_bytes (at + length (padded l.text)) ls ∙ e

literals_items : (ps : Positions) (ls : List Literal) → ItemsStand ps (texts.readings_of (literals_written ls))
literals_items ps [] = (tt, tt)
literals_items ps (l ∷ ls) = (tt, line_items ps (padded l.text) (literals_written ls) (literals_items ps ls))

-- the same of all statics
pub statics_stand : (ls : List Literal) → AllByRecursion LiteralFits ls → texts.AreLines Code (statics_written ls)
statics_stand [] f = tt
statics_stand (l ∷ ls) f = (tt, literals_stand (l ∷ ls) f)

pub statics_labels : (ls : List Literal) → labels_in (texts.readings_of (statics_written ls)) ≡ literal_names ls
statics_labels [] = refl
statics_labels (l ∷ ls) = literals_labels (l ∷ ls)

pub statics_code : (ls : List Literal) → code_in (texts.readings_of (statics_written ls)) ≡ []
statics_code [] = refl
statics_code (l ∷ ls) = literals_code (l ∷ ls)

pub statics_bytes : (ls : List Literal) → last_byte 0 (texts.readings_of (statics_written ls)) ≡ bytes_of ls
statics_bytes [] = refl
statics_bytes (l ∷ ls) = let e : 0 + bytes_of (l ∷ ls) ≡ bytes_of (l ∷ ls) = omega arith in literals_bytes 0 (l ∷ ls) ∙ e

pub statics_items : (ps : Positions) (ls : List Literal) → ItemsStand ps (texts.readings_of (statics_written ls))
statics_items ps [] = (tt, tt)
statics_items ps (l ∷ ls) = (tt, literals_items ps (l ∷ ls))

-- the names of positions are the labels
given_names : (p : Position) (ns : List (List ℕ)) → names_of (map (λ n. (n, p)) ns) ≡ ns
given_names p [] = refl
given_names p (n ∷ ns) = ap (λ l. n ∷ l) (given_names p ns)

joined : (xs ys us vs : List (List ℕ)) → xs ≡ us → ys ≡ vs → xs ++ ys ≡ us ++ vs
joined xs ys us vs h k = rw (h, k) refl

pub position_names : (segment : Segment) (w b : ℕ) (rs : List Reading) → names_of (positions_from segment w b rs) ≡ labels_in rs
position_names segment w b [] = refl
position_names segment w b (r ∷ rs) =
    let p = next_position segment w b (r ∷ rs) in
    let more = positions_from (segment_behind segment r.item) (w + length (item_words r.item)) (byte_behind b r.item) rs in
    names_append (map (λ n. (n, p)) r.labels) more
    ∙ joined _ _ _ _ (given_names p r.labels) (position_names (segment_behind segment r.item) (w + length (item_words r.item)) (byte_behind b r.item) rs)
