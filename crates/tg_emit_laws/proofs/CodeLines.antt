-- Lines of code: their words, the labels that they give, and how the assembler reads them.
use Rattle.std.proofs.Common.{ℕ, ◌≡◌, ◌<◌, ◌+◌, List, [], ◌∷◌, ◌++◌, length, map, refl, ap, ◌∙◌, arith, subst}
use Rattle.std.specs.Prelude.{IsTrue}
use Rattle.std.specs.List.{AllByRecursion}
use Rattle.tg_isa.specs.declared.mips.Mips.{Mips}
use Rattle.tg_isa.specs.declared.mips.Mips.TheVariants as row
use Rattle.tg_asm_text.specs.declared.keywords.Segment.TheVariants.{Code}
use Rattle.tg_isa.specs.Rows.{IsRow}
use Rattle.tg_asm_text.specs.Operands.{is_label}
use Rattle.tg_asm_text.specs.Writing.{takes_label, unlabelled_row, coded_row}
use Rattle.tg_asm_text.specs.Items.{Coded, Upper, Lower}
use Rattle.tg_asm_text.specs.Placement.{Positions, AtWord, positions_from, labels_in, code_in, last_byte, WordsReach, ItemsStand}
use Rattle.tg_asm_text.specs.Texts as texts
use Rattle.tg_emit.specs.declared.assembly.Line.{Line}
use Rattle.tg_emit.specs.declared.assembly.Line.TheVariants.{Label, One, La, Statics}
use Rattle.tg_emit.specs.mirror.Lines.{words}
use Rattle.tg_emit_laws.specs.Images.{written_line, IsCode, AreCode}
use Rattle.tg_emit_laws.proofs.Apart.{names_of}

abbrev pub coded_in : List Line → List Coded
coded_in [] = []
coded_in (Label name ∷ ls) = coded_in ls
coded_in (One one target ∷ ls) = coded_row one target ∷ coded_in ls
coded_in (La register target ∷ ls) = Upper register target ∷ Lower register target ∷ coded_in ls
coded_in (Statics bytes ∷ ls) = coded_in ls

-- where the labels of lines stand, the first of which is at a word
abbrev pub labels_from : ℕ → List Line → Positions
labels_from w [] = []
labels_from w (Label name ∷ ls) = (name, AtWord w) ∷ labels_from w ls
labels_from w (One one target ∷ ls) = labels_from (w + 1) ls
labels_from w (La register target ∷ ls) = labels_from (w + 2) ls
labels_from w (Statics bytes ∷ ls) = labels_from w ls

abbrev pub given_in : List Line → List (List ℕ)
given_in [] = []
given_in (Label name ∷ ls) = name ∷ given_in ls
given_in (One one target ∷ ls) = given_in ls
given_in (La register target ∷ ls) = given_in ls
given_in (Statics bytes ∷ ls) = given_in ls

pub given_append : (xs ys : List Line) → given_in (xs ++ ys) ≡ given_in xs ++ given_in ys
given_append [] ys = refl
given_append (Label name ∷ xs) ys = ap (λ l. name ∷ l) (given_append xs ys)
given_append (One one target ∷ xs) ys = given_append xs ys
given_append (La register target ∷ xs) ys = given_append xs ys
given_append (Statics bytes ∷ xs) ys = given_append xs ys

pub names_given : (w : ℕ) (ls : List Line) → names_of (labels_from w ls) ≡ given_in ls
names_given w [] = refl
names_given w (Label name ∷ ls) = ap (λ l. name ∷ l) (names_given w ls)
names_given w (One one target ∷ ls) = names_given (w + 1) ls
names_given w (La register target ∷ ls) = names_given (w + 2) ls
names_given w (Statics bytes ∷ ls) = names_given w ls

pub words_append : (xs ys : List Line) → words (xs ++ ys) ≡ words xs + words ys
words_append [] ys = omega arith
words_append (x ∷ xs) ys = let h = words_append xs ys in omega arith

pub coded_append : (xs ys : List Line) → coded_in (xs ++ ys) ≡ coded_in xs ++ coded_in ys
coded_append [] ys = refl
coded_append (Label name ∷ xs) ys = coded_append xs ys
coded_append (One one target ∷ xs) ys = ap (λ l. coded_row one target ∷ l) (coded_append xs ys)
coded_append (La register target ∷ xs) ys = ap (λ l. Upper register target ∷ Lower register target ∷ l) (coded_append xs ys)
coded_append (Statics bytes ∷ xs) ys = coded_append xs ys

pub coded_words : (ls : List Line) → length (coded_in ls) ≡ words ls
coded_words [] = refl
coded_words (Label name ∷ ls) = let h = coded_words ls in omega arith
coded_words (One one target ∷ ls) = let h = coded_words ls in omega arith
coded_words (La register target ∷ ls) = let h = coded_words ls in omega arith
coded_words (Statics bytes ∷ ls) = let h = coded_words ls in omega arith

pub labels_append : (w : ℕ) (xs ys : List Line) → labels_from w (xs ++ ys) ≡ labels_from w xs ++ labels_from (w + words xs) ys
labels_append w [] ys = let e : w ≡ w + 0 = omega arith in ap (λ n. labels_from n ys) e
labels_append w (Label name ∷ xs) ys =
    let e : w + words xs ≡ w + (0 + words xs) = omega arith in
    ap (λ l. (name, AtWord w) ∷ l) (labels_append w xs ys ∙ ap (λ n. labels_from w xs ++ labels_from n ys) e)
labels_append w (One one target ∷ xs) ys =
    let e : w + 1 + words xs ≡ w + (1 + words xs) = omega arith in
    labels_append (w + 1) xs ys ∙ ap (λ n. labels_from (w + 1) xs ++ labels_from n ys) e
labels_append w (La register target ∷ xs) ys =
    let e : w + 2 + words xs ≡ w + (2 + words xs) = omega arith in
    labels_append (w + 2) xs ys ∙ ap (λ n. labels_from (w + 2) xs ++ labels_from n ys) e
labels_append w (Statics bytes ∷ xs) ys =
    let e : w + words xs ≡ w + (0 + words xs) = omega arith in
    labels_append w xs ys ∙ ap (λ n. labels_from w xs ++ labels_from n ys) e

pub reach_append : (ps : Positions) (n at : ℕ) (xs ys : List Coded) → WordsReach ps n at xs → WordsReach ps n (at + length xs) ys →
    WordsReach ps n at (xs ++ ys)
reach_append ps n at [] ys h k = let e : at + 0 ≡ at = omega arith in subst (λ a. WordsReach ps n a ys) e k
reach_append ps n at (x ∷ xs) ys h k =
    let e : at + length (x ∷ xs) ≡ at + 1 + length xs = omega arith in
    (h.0, reach_append ps n (at + 1) xs ys h.1 (subst (λ a. WordsReach ps n a ys) e k))

-- the field of a label is 0
unlabelled_fits : (one : Mips) → IsRow one → IsRow (unlabelled_row one)
unlabelled_fits (row.J n) h = omega arith
unlabelled_fits (row.Jal n) h = omega arith
unlabelled_fits (row.Beq rs rt n) h = (h.0, h.1, omega arith)
unlabelled_fits (row.Bne rs rt n) h = (h.0, h.1, omega arith)
unlabelled_fits (row.Blez rs n) h = (h.0, omega arith)
unlabelled_fits (row.Bgtz rs n) h = (h.0, omega arith)
unlabelled_fits (row.Bltz rs n) h = (h.0, omega arith)
unlabelled_fits (row.Bgez rs n) h = (h.0, omega arith)
unlabelled_fits _ h = h

-- how lines of code are read, in front of others
abbrev in_front : List Line → List texts.Line → List texts.Line
in_front ls more = map written_line ls ++ more

pub code_stands : (ls : List Line) (more : List texts.Line) → AreCode ls → texts.AreLines Code more → texts.AreLines Code (in_front ls more)
code_stands [] more h k = k
code_stands (Label name ∷ ls) more h k = (h.0, code_stands ls more h.1 k)
code_stands (One one target ∷ ls) more h k = ((unlabelled_fits one h.0.0, h.0.1), code_stands ls more h.1 k)
code_stands (La register target ∷ ls) more h k = (h.0, code_stands ls more h.1 k)
code_stands (Statics bytes ∷ ls) more h k = absurd h.0

pub code_words : (ls : List Line) (more : List texts.Line) → AreCode ls →
    code_in (texts.readings_of (in_front ls more)) ≡ coded_in ls ++ code_in (texts.readings_of more)
code_words [] more h = refl
code_words (Label name ∷ ls) more h = code_words ls more h.1
code_words (One one target ∷ ls) more h = ap (λ l. coded_row one target ∷ l) (code_words ls more h.1)
code_words (La register target ∷ ls) more h = ap (λ l. Upper register target ∷ Lower register target ∷ l) (code_words ls more h.1)
code_words (Statics bytes ∷ ls) more h = absurd h.0

pub code_positions : (w b : ℕ) (ls : List Line) (more : List texts.Line) → AreCode ls →
    positions_from Code w b (texts.readings_of (in_front ls more)) ≡ labels_from w ls ++ positions_from Code (w + words ls) b (texts.readings_of more)
code_positions w b [] more h = let e : w ≡ w + 0 = omega arith in ap (λ n. positions_from Code n b (texts.readings_of more)) e
code_positions w b (Label name ∷ ls) more h =
    let e : w + 0 + words ls ≡ w + (0 + words ls) = omega arith in
    let z : w + 0 ≡ w = omega arith in
    ap (λ l. (name, AtWord w) ∷ l) (code_positions (w + 0) b ls more h.1 ∙ ap (λ n. labels_from (w + 0) ls ++ positions_from Code n b
    (texts.readings_of more)) e ∙ ap (λ n. labels_from n ls ++ positions_from Code (w + (0 + words ls)) b (texts.readings_of more)) z)
code_positions w b (One one target ∷ ls) more h =
    let e : w + 1 + words ls ≡ w + (1 + words ls) = omega arith in
    code_positions (w + 1) b ls more h.1 ∙ ap (λ n. labels_from (w + 1) ls ++ positions_from Code n b (texts.readings_of more)) e
code_positions w b (La register target ∷ ls) more h =
    let e : w + 2 + words ls ≡ w + (2 + words ls) = omega arith in
    code_positions (w + 2) b ls more h.1 ∙ ap (λ n. labels_from (w + 2) ls ++ positions_from Code n b (texts.readings_of more)) e
code_positions w b (Statics bytes ∷ ls) more h = absurd h.0

pub code_bytes : (b : ℕ) (ls : List Line) (more : List texts.Line) → AreCode ls →
    last_byte b (texts.readings_of (in_front ls more)) ≡ last_byte b (texts.readings_of more)
code_bytes b [] more h = refl
code_bytes b (Label name ∷ ls) more h = code_bytes b ls more h.1
code_bytes b (One one target ∷ ls) more h = code_bytes b ls more h.1
code_bytes b (La register target ∷ ls) more h = code_bytes b ls more h.1
code_bytes b (Statics bytes ∷ ls) more h = absurd h.0

pub code_items : (ps : Positions) (ls : List Line) (more : List texts.Line) → AreCode ls → ItemsStand ps (texts.readings_of more) →
    ItemsStand ps (texts.readings_of (in_front ls more))
code_items ps [] more h k = k
code_items ps (Label name ∷ ls) more h k = (tt, code_items ps ls more h.1 k)
code_items ps (One one target ∷ ls) more h k = (tt, code_items ps ls more h.1 k)
code_items ps (La register target ∷ ls) more h k = (tt, code_items ps ls more h.1 k)
code_items ps (Statics bytes ∷ ls) more h k = absurd h.0

pub code_labels : (ls : List Line) (more : List texts.Line) → AreCode ls →
    labels_in (texts.readings_of (in_front ls more)) ≡ given_in ls ++ labels_in (texts.readings_of more)
code_labels [] more h = refl
code_labels (Label name ∷ ls) more h = ap (λ l. name ∷ l) (code_labels ls more h.1)
code_labels (One one target ∷ ls) more h = code_labels ls more h.1
code_labels (La register target ∷ ls) more h = code_labels ls more h.1
code_labels (Statics bytes ∷ ls) more h = absurd h.0
