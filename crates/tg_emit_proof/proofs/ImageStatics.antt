-- The statics of an image are the bytes of its literals, and each literal's label stands where its bytes begin.
use Rattle.std.proofs.Common.{ℕ, ◌≡◌, ◌≢◌, ◌<◌, ◌≤◌, ◌+◌, ◌-◌, ◌%◌, ◌^◌, List, [], ◌∷◌, ◌++◌, length, map, replicate}
use Rattle.std.proofs.Common.{refl, ap, sym, ◌∙◌, subst, arith, length-append, suc, Bool, true, false, Some, inl, inr}
use Rattle.std.specs.Prelude.{if◌then◌else◌}
use Rattle.std.specs.List.{AllByRecursion}
use Rattle.std.specs.Str.{bytes_eq}
use Rattle.std.proofs.lemmas.Slice.Eq.{bytes_eq-Decides}
use Rattle.std.proofs.lemmas.List.Elements.{All-append, All-replicate, recursion_from_All}
use Rattle.std.specs.Prelude.{AllPairs}
use Rattle.tg_machine_state.specs.State.{padded, statics_base, most_bytes}
use Rattle.tg_asm_text.specs.declared.keywords.Segment.TheVariants.{Code, Statics as InStatics}
use Rattle.tg_asm_text.specs.Items.{Datum, Single, widths}
use Rattle.tg_asm_text.specs.Assembly.{round_up}
use Rattle.tg_asm_text.specs.Placement.{Positions, AtByte, positions, positions_from, placed_bytes, placed_data, last_byte}
use Rattle.tg_asm_text.specs.Placement.{found_address}
use Rattle.tg_asm_text.specs.Texts as texts
use Rattle.tg_tree.specs.declared.fragments.Literal.{Literal}
use Rattle.tg_emit.specs.declared.assembly.Line.{Line}
use Rattle.tg_emit.specs.declared.assembly.Line.TheVariants.{Label, One, La, Statics}
use Rattle.tg_emit.specs.mirror.Names.{literal_name}
use Rattle.tg_emit.specs.mirror.Lines.{words}
use Rattle.tg_emit.specs.Ranges.{LiteralFits}
use Rattle.tg_emit_laws.specs.Images.{written_line, bytes_line, literals_written, statics_written, AreCode}
use Rattle.tg_emit_laws.proofs.Apart.{Stands, stands_right, names_of, Differ, found}
use Rattle.tg_emit_laws.proofs.CodeLines.{labels_from, code_positions, code_bytes}
use Rattle.tg_emit_laws.proofs.StaticsLines.{position_names}
use Rattle.tg_emit_proof.specs.LinesRun.{address_from, statics_of}
use Rattle.tg_emit_proof.specs.laws.Laws.{written, HasImage}
use Rattle.tg_emit_proof.proofs.PlacedWords.{StaticsAre}

abbrev read_bytes : List ℕ → List Datum
read_bytes ns = map (λ n. Single (texts.unsigned n)) ns

bytes_width : (ns : List ℕ) → widths (read_bytes ns) ≡ length ns
bytes_width [] = refl
bytes_width (n ∷ ns) = let h = bytes_width ns in omega arith

no_padding : (b : ℕ) → round_up b 1 ≡ b
no_padding b = omega arith

bytes_are : (ps : Positions) (ns : List ℕ) → AllByRecursion (λ c. c < 2 ^ 8) ns → placed_data ps (read_bytes ns) ≡ ns
bytes_are ps [] h = refl
bytes_are ps (n ∷ ns) h =
    let l = h.0 in
    let e : n % 2 ^ 8 ≡ n = omega (arith, l) in
    ap (λ m. m ∷ placed_data ps (read_bytes ns)) e ∙ ap (λ m. n ∷ m) (bytes_are ps ns h.1)

unpadded : (b : ℕ) (ns : List ℕ) → replicate (round_up b 1 - b) 0 ++ ns ≡ ns
unpadded b ns = let e : round_up b 1 - b ≡ 0 = omega arith in ap (λ k. replicate k 0 ++ ns) e

-- a line of bytes, in front of others
line_placed : (ps : Positions) (at : ℕ) (bytes : List ℕ) (more : List texts.Line) →
    AllByRecursion (λ c. c < 2 ^ 8) bytes →
    placed_bytes ps at (texts.readings_of (bytes_line bytes ∷ more))
    ≡ bytes ++ placed_bytes ps (at + length bytes) (texts.readings_of more)
line_placed ps at [] more h =
    let e : round_up at 1 + 0 ≡ at + 0 = omega arith in
    ap (λ l. l ++ placed_bytes ps (round_up at 1 + 0) (texts.readings_of more)) (unpadded at [])
    ∙ ap (λ n. placed_bytes ps n (texts.readings_of more)) e
line_placed ps at (b ∷ bytes) more h =
    let w = bytes_width (b ∷ bytes) in
    let e : round_up at 1 + widths (read_bytes (b ∷ bytes)) ≡ at + length (b ∷ bytes) = omega arith in
    ap (λ l. l ++ placed_bytes ps (round_up at 1 + widths (read_bytes (b ∷ bytes))) (texts.readings_of more))
    (unpadded at (placed_data ps (read_bytes (b ∷ bytes))) ∙ bytes_are ps (b ∷ bytes) h)
    ∙ ap (λ n. (b ∷ bytes) ++ placed_bytes ps n (texts.readings_of more)) e

line_bytes : (at : ℕ) (bytes : List ℕ) (more : List texts.Line) →
    last_byte at (texts.readings_of (bytes_line bytes ∷ more))
    ≡ last_byte (at + length bytes) (texts.readings_of more)
line_bytes at [] more = let e : round_up at 1 + 0 ≡ at + 0 = omega arith in
    ap (λ n. last_byte n (texts.readings_of more)) e
line_bytes at (b ∷ bytes) more =
    let w = bytes_width (b ∷ bytes) in
    let e : round_up at 1 + widths (read_bytes (b ∷ bytes)) ≡ at + length (b ∷ bytes) = omega arith in
    ap (λ n. last_byte n (texts.readings_of more)) e

padded_fits : (l : Literal) → LiteralFits l → AllByRecursion (λ c. c < 2 ^ 8) (padded l.text)
padded_fits l h =
    recursion_from_All (λ c. c < 2 ^ 8) (padded l.text)
    (All-append (λ c. c < 2 ^ 8) l.text (replicate ((4 - length l.text % 4) % 4) 0) h.text
    (All-replicate (λ c. c < 2 ^ 8) ((4 - length l.text % 4) % 4) 0 (omega arith)))

literals_placed : (ps : Positions) (at : ℕ) (ls : List Literal) → AllByRecursion LiteralFits ls →
    placed_bytes ps at (texts.readings_of (literals_written ls)) ≡ statics_of ls
literals_placed ps at [] h = refl
literals_placed ps at (l ∷ ls) h =
    line_placed ps at (padded l.text) (literals_written ls) (padded_fits l h.0)
    ∙ ap (λ m. padded l.text ++ m) (literals_placed ps (at + length (padded l.text)) ls h.1)

statics_placed : (ps : Positions) (ls : List Literal) → AllByRecursion LiteralFits ls →
    placed_bytes ps 0 (texts.readings_of (statics_written ls)) ≡ statics_of ls
statics_placed ps [] h = refl
statics_placed ps (l ∷ ls) h = literals_placed ps 0 (l ∷ ls) h

code_placed : (ps : Positions) (b : ℕ) (ls : List Line) (more : List texts.Line) → AreCode ls →
    placed_bytes ps b (texts.readings_of (map written_line ls ++ more)) ≡ placed_bytes ps b (texts.readings_of more)
code_placed ps b [] more h = refl
code_placed ps b (Label name ∷ ls) more h = code_placed ps b ls more h.1
code_placed ps b (One one target ∷ ls) more h = code_placed ps b ls more h.1
code_placed ps b (La register target ∷ ls) more h = code_placed ps b ls more h.1
code_placed ps b (Statics bytes ∷ ls) more h = absurd h.0

-- Labels.

-- the lines of a literal's bytes end so many bytes on
line_after : (w at : ℕ) (bytes : List ℕ) (more : List texts.Line) →
    positions_from InStatics w at (texts.readings_of (bytes_line bytes ∷ more))
    ≡ positions_from InStatics (w + 0) (at + length bytes) (texts.readings_of more)
line_after w at [] more =
    let e : round_up at 1 + 0 ≡ at + 0 = omega arith in
    ap (λ n. positions_from InStatics (w + 0) n (texts.readings_of more)) e
line_after w at (b ∷ bytes) more =
    let x = bytes_width (b ∷ bytes) in
    let e : round_up at 1 + widths (read_bytes (b ∷ bytes)) ≡ at + length (b ∷ bytes) = omega arith in
    ap (λ n. positions_from InStatics (w + 0) n (texts.readings_of more)) e

label_at : (w at : ℕ) (l : Literal) (ls : List Literal) →
    positions_from InStatics w at (texts.readings_of (literals_written (l ∷ ls)))
    ≡ (literal_name l.label.0, AtByte at) ∷ positions_from InStatics (w + 0 + 0) (at + length (padded l.text))
    (texts.readings_of (literals_written ls))
label_at w at l ls = by (padded l.text)
  where
    by : (bytes : List ℕ) →
        positions_from InStatics w at (texts.readings_of
        (texts.Label (literal_name l.label.0) ∷ bytes_line bytes ∷ literals_written ls))
        ≡ (literal_name l.label.0, AtByte at) ∷ positions_from InStatics (w + 0 + 0) (at + length bytes)
        (texts.readings_of (literals_written ls))
    by [] =
        ap (λ n. (literal_name l.label.0, AtByte n) ∷ positions_from InStatics (w + 0) at
        (texts.readings_of (bytes_line [] ∷ literals_written ls))) (no_padding at)
        ∙ ap (λ qs. (literal_name l.label.0, AtByte at) ∷ qs) (line_after (w + 0) at [] (literals_written ls))
    by (b ∷ bytes) =
        ap (λ n. (literal_name l.label.0, AtByte n) ∷ positions_from InStatics (w + 0) at
        (texts.readings_of (bytes_line (b ∷ bytes) ∷ literals_written ls)))
        (no_padding at)
        ∙ ap (λ qs. (literal_name l.label.0, AtByte at) ∷ qs)
        (line_after (w + 0) at (b ∷ bytes) (literals_written ls))

-- a literal that has an address has its label there
record IsThere (qs : Positions) (at : ℕ) (name : List ℕ) (a : ℕ) : Type 0 where
  byte : ℕ
  stands : Stands qs name (AtByte byte)
  is : a ≡ statics_base + byte

base_first : (at n : ℕ) → statics_base + at + n ≡ statics_base + (at + n)
base_first at n = omega arith

same_or_none : (x a : ℕ) → Some x ≡ Some a → a ≡ x
same_or_none x a h = cc

literal_there : (w at : ℕ) (ls : List Literal) (name : List ℕ) (a : ℕ) → address_from (statics_base + at) name ls
    ≡ Some a →
    IsThere (positions_from InStatics w at (texts.readings_of (literals_written ls))) at name a
literal_there w at [] name a h = cc
literal_there w at (l ∷ ls) name a h =
    by (bytes_eq name (literal_name l.label.0)) refl h
    (λ k. literal_there (w + 0 + 0) (at + length (padded l.text)) ls name a
    (subst (λ n. address_from n name ls ≡ Some a) (base_first at (length (padded l.text))) k))
  where
    rest : Positions
    rest = positions_from InStatics (w + 0 + 0) (at + length (padded l.text))
        (texts.readings_of (literals_written ls))

    by :
        (b : Bool) → bytes_eq name (literal_name l.label.0) ≡ b →
        (if b then Some (statics_base + at) else address_from (statics_base + at + length (padded l.text)) name ls)
        ≡ Some a →
        (address_from (statics_base + at + length (padded l.text)) name ls ≡ Some a →
        IsThere (positions_from InStatics (w + 0 + 0) (at + length (padded l.text))
        (texts.readings_of (literals_written ls)))
        (at + length (padded l.text)) name a) →
        IsThere (positions_from InStatics w at (texts.readings_of (literals_written (l ∷ ls)))) at name a
    by true e k later = record {
      byte = at;
      stands = subst (λ qs. Stands qs name (AtByte at)) (sym (label_at w at l ls))
          (inl (ap (λ n. (n, AtByte at)) (sym ((bytes_eq-Decides name (literal_name l.label.0)).0 e))));
      is = same_or_none (statics_base + at) a k;
    }
    by false e k later =
        let t = later k in
        record {
          byte = t.byte;
          stands = subst (λ qs. Stands qs name (AtByte t.byte)) (sym (label_at w at l ls)) (inr t.stands);
          is = t.is;
        }

statics_there : (w : ℕ) (ls : List Literal) (name : List ℕ) (a : ℕ) → address_from statics_base name ls ≡ Some a →
    IsThere (positions_from Code w 0 (texts.readings_of (statics_written ls))) 0 name a
statics_there w [] name a h = cc
statics_there w (l ∷ ls) name a h = by (literal_there (w + 0) 0 (l ∷ ls) name a h)
  where
    by : IsThere (positions_from InStatics (w + 0) 0 (texts.readings_of (literals_written (l ∷ ls)))) 0 name a →
        IsThere (positions_from Code w 0 (texts.readings_of (statics_written (l ∷ ls)))) 0 name a
    by t = record { byte = t.byte; stands = t.stands; is = t.is }

-- an address is below the statics' end
literal_below : (at : ℕ) (ls : List Literal) (name : List ℕ) (a : ℕ) → address_from at name ls ≡ Some a →
    a ≤ at + length (statics_of ls)
literal_below at [] name a h = cc
literal_below at (l ∷ ls) name a h =
    by (bytes_eq name (literal_name l.label.0)) h (literal_below (at + length (padded l.text)) ls name a)
  where
    by :
        (b : Bool) → (if b then Some at else address_from (at + length (padded l.text)) name ls) ≡ Some a →
        (address_from (at + length (padded l.text)) name ls ≡ Some a →
        a ≤ at + length (padded l.text) + length (statics_of ls)) →
        a ≤ at + length (padded l.text ++ statics_of ls)
    by true k later = let e = same_or_none at a k in omega (arith, e)
    by false k later =
        let m = later k in
        let n : length (padded l.text ++ statics_of ls) ≡ length (padded l.text) + length (statics_of ls) =
        length-append (padded l.text) (statics_of ls) in
        omega (arith, m, n)

differ_from_pairs : (xs : List (List ℕ)) → AllPairs (λ a b. a ≢ b) xs → Differ xs
differ_from_pairs [] h = tt
differ_from_pairs (x ∷ xs) h = (
  recursion_from_All (λ y. x ≢ y) xs (λ j d l. h 0 (suc j) d (omega arith) (omega (arith, l))),
  differ_from_pairs xs (λ i j d l k. h (suc i) (suc j) d (omega (arith, l)) (omega (arith, k))),
)

statics_long : (at : ℕ) (ls : List Literal) → last_byte at (texts.readings_of (literals_written ls))
    ≡ at + length (statics_of ls)
statics_long at [] = omega arith
statics_long at (l ∷ ls) =
    let n : length (padded l.text ++ statics_of ls) ≡ length (padded l.text) + length (statics_of ls) =
    length-append (padded l.text) (statics_of ls) in
    let e : at + length (padded l.text) + length (statics_of ls) ≡ at + length (padded l.text ++ statics_of ls) =
    omega (arith, n) in
    line_bytes at (padded l.text) (literals_written ls) ∙ (statics_long (at + length (padded l.text)) ls ∙ e)

all_long : (ls : List Literal) → last_byte 0 (texts.readings_of (statics_written ls)) ≡ length (statics_of ls)
all_long [] = refl
all_long (l ∷ ls) = let e : 0 + length (statics_of (l ∷ ls)) ≡ length (statics_of (l ∷ ls)) = omega arith in
    statics_long 0 (l ∷ ls) ∙ e

pub statics_are : (lines : List Line) (ls : List Literal) → HasImage lines ls → StaticsAre lines ls
statics_are lines ls has =
    let rs = texts.readings_of (written lines ls) in
    let ps = positions rs in
    let differ : Differ (names_of ps) =
    subst Differ (sym (position_names Code 0 0 rs)) (differ_from_pairs _ has.sound.labels_differ) in
    let fit : length (statics_of ls) ≤ most_bytes =
    subst (λ n. n ≤ most_bytes) (code_bytes 0 lines (statics_written ls) has.code
    ∙ all_long ls) has.sound.statics_fit in
    let fits = recursion_from_All LiteralFits ls has.literals in
    record {
      bytes = code_placed ps 0 lines (statics_written ls) has.code ∙ statics_placed ps ls fits;
      addresses = λ name a h.
          let t = statics_there (0 + words lines) ls name a h in
          let below = literal_below statics_base ls name a h in
          let more = positions_from Code (0 + words lines) 0 (texts.readings_of (statics_written ls)) in
          let stands : Stands ps name (AtByte t.byte) =
          subst (λ qs. Stands qs name (AtByte t.byte)) (sym (code_positions 0 0 lines (statics_written ls) has.code))
          (stands_right (labels_from 0 lines) more name (AtByte t.byte) t.stands) in
          (ap found_address (found ps name (AtByte t.byte) differ stands) ∙ sym t.is, omega (arith, below, fit));
    }
