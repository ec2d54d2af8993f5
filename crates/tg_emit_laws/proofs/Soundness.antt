-- The readings of a program's lines are sound, and its text has their image.
use Rattle.std.proofs.Common.{ℕ, ◌≡◌, ◌≤◌, ◌+◌, List, [], ◌∷◌, ◌++◌, length, Bool, true, false, Some, refl, sym, ap, ◌∙◌, arith, subst, append-nil, ◌⊎◌, inl}
use Rattle.std.proofs.Common.{inr, eqb-true, ◌*◌}
use Rattle.std.specs.Prelude.{IsTrue, ◌==◌, codes, nat_lt, IsSome, if◌then◌else◌}
use Rattle.std.specs.List.{AllByRecursion}
use Rattle.std.specs.Str.{bytes_eq}
use Rattle.std.proofs.lemmas.Bool.Decides.{nat_tests}
use Rattle.std.proofs.lemmas.List.Elements.{recursion_from_All}
use Rattle.std.proofs.lemmas.Slice.Eq.{bytes_eq-Decides}
use Rattle.tg_machine_state.specs.State.{most_words, most_bytes, code_base}
use Rattle.tg_asm_text.specs.declared.keywords.Segment.TheVariants.{Code}
use Rattle.tg_asm_text.specs.Assembly.{Reading, assembled}
use Rattle.tg_asm_text.specs.Placement.{AtWord, found_address, Positions, positions, positions_from, position_of, labels_in, code_in, last_byte}
use Rattle.tg_asm_text.specs.Placement.{WordsReach, JumpReaches, IsSound}
use Rattle.tg_asm_text.specs.Texts as texts
use Rattle.tg_asm_text.proofs.TextLines.{lines_have_image}
use Rattle.tg_tree.specs.declared.fragments.Literal.{Literal}
use Rattle.tg_instr.specs.declared.codes.Allocated.{Allocated}
use Rattle.tg_emit.specs.declared.assembly.Line.{Line}
use Rattle.tg_emit.specs.mirror.Names.{function_name, literal_name}
use Rattle.tg_emit.specs.Ranges.{FunctionFits, LiteralFits}
use Rattle.tg_emit.specs.mirror.Lines.{function_lines, functions_lines, is_long, words}
use Rattle.tg_emit_laws.specs.Programs.{function_labels, literal_labels, is_among, bytes_of, IsWholeProgram, AreTyped}
use Rattle.tg_emit_laws.specs.Images.{statics_written, program_written, words_before, AreCode, ProgramIsCode, ProgramIsSound}
use Rattle.tg_emit_laws.specs.Images.{ProgramHasImage, ProgramEntersBody}
use Rattle.tg_emit_laws.proofs.Apart.{Differ, differ_append, pairs_differ, Stands, stands_left, stands_right, names_of, found}
use Rattle.tg_emit_laws.proofs.CodeLines.{coded_in, labels_from, labels_append, given_in, coded_words, code_stands, code_words, code_positions}
use Rattle.tg_emit_laws.proofs.CodeLines.{code_bytes, code_items}
use Rattle.tg_emit_laws.proofs.CodeLines.{code_labels}
use Rattle.tg_emit_laws.proofs.InstructionLines.{IsInCode, jump_there, Surrounds, Finds}
use Rattle.tg_emit_laws.proofs.FunctionLines.{IsEmitted, in_code, or_right}
use Rattle.tg_emit_laws.proofs.ProgramLines.{all_emitted, code_of_functions, label_given, reach_of_functions}
use Rattle.tg_emit_laws.proofs.LabelsDiffer.{functions_differ, literal_names, literals_differ, functions_and_literals}
use Rattle.tg_emit_laws.proofs.StaticsLines.{statics_stand, statics_labels, statics_code, statics_bytes, statics_items, position_names}
use Rattle.tg_emit_laws.proofs.WrittenTexts.{text_same}

-- a name that is among others is found
abbrev IsAmong : List (List ℕ) → List ℕ → Type 0
IsAmong [] name = ⊥
IsAmong (x ∷ xs) name = (name ≡ x) ⊎ IsAmong xs name

among_right : (xs ys : List (List ℕ)) (name : List ℕ) → IsAmong ys name → IsAmong (xs ++ ys) name
among_right [] ys name h = h
among_right (x ∷ xs) ys name h = inr (among_right xs ys name h)

is_found : (ps : Positions) (name : List ℕ) → IsAmong (names_of ps) name → IsSome (position_of ps name)
is_found [] name h = absurd h
is_found (p ∷ ps) name h = by (bytes_eq name p.0) refl h (λ k. is_found ps name k)
  where
    by : (b : Bool) → bytes_eq name p.0 ≡ b → (name ≡ p.0) ⊎ IsAmong (names_of ps) name → (IsAmong (names_of ps) name → IsSome (position_of ps name)) →
        IsSome (if b then Some p.1 else position_of ps name)
    by true e h later = refl
    by false e (inl s) later = let t = (bytes_eq-Decides name p.0).1 s in cc
    by false e (inr k) later = later k

literal_among : (label : ℕ) (ls : List Literal) → IsTrue (is_among (literal_labels ls) label) → IsAmong (literal_names ls) (literal_name label)
literal_among label [] h = cc
literal_among label (l ∷ ls) h = by (label == l.label.0) refl (λ more. literal_among label ls more)
  where
    by : (b : Bool) → (label == l.label.0) ≡ b → (IsTrue (is_among (literal_labels ls) label) → IsAmong (literal_names ls) (literal_name label)) →
        IsAmong (literal_names (l ∷ ls)) (literal_name label)
    by true e later = inl (ap literal_name (eqb-true label l.label.0 e))
    by false e later = inr (later (or_right (label == l.label.0) (is_among (literal_labels ls) label) e h))

not_above : (a b : ℕ) → nat_lt a b ≡ false → b ≤ a
not_above a b h = grind (arith, nat_tests)

-- what is known of a program
record Known (fs : List Allocated) (ls : List Literal) : Type 0 where
  program : IsWholeProgram fs ls
  emitted : AllByRecursion IsEmitted fs
  literals : AllByRecursion LiteralFits ls
  code : AreCode (functions_lines (is_long fs) fs)

known : (fs : List Allocated) (ls : List Literal) → IsWholeProgram fs ls → AreTyped fs ls → Known fs ls
known fs ls p t =
    let k = all_emitted fs p.emittable (recursion_from_All FunctionFits fs t.functions) in
    record { program = p; emitted = k; literals = recursion_from_All LiteralFits ls t.literals; code = code_of_functions (is_long fs) fs k }

abbrev read_so : List Allocated → List Literal → List Reading
read_so fs ls = texts.readings_of (program_written fs ls)

abbrev code_of : List Allocated → List Line
code_of fs = functions_lines (is_long fs) fs

labels_are : (fs : List Allocated) (ls : List Literal) → Known fs ls → labels_in (read_so fs ls) ≡ given_in (code_of fs) ++ literal_names ls
labels_are fs ls k = code_labels (code_of fs) (statics_written ls) k.code ∙ ap (λ n. given_in (code_of fs) ++ n) (statics_labels ls)

code_is : (fs : List Allocated) (ls : List Literal) → Known fs ls → code_in (read_so fs ls) ≡ coded_in (code_of fs)
code_is fs ls k = code_words (code_of fs) (statics_written ls) k.code ∙ ap (λ n. coded_in (code_of fs) ++ n) (statics_code ls) ∙ append-nil
    (coded_in (code_of fs))

differ_all : (fs : List Allocated) (ls : List Literal) → Known fs ls → Differ (labels_in (read_so fs ls))
differ_all fs ls k =
    subst Differ (sym (labels_are fs ls k))
    (differ_append (given_in (code_of fs)) (literal_names ls)
    (functions_differ (is_long fs) fs k.program.functions_differ k.emitted)
    (literals_differ ls k.program.literals_differ k.literals)
    (functions_and_literals (is_long fs) fs ls k.emitted))

positions_named : (fs : List Allocated) (ls : List Literal) → names_of (positions (read_so fs ls)) ≡ labels_in (read_so fs ls)
positions_named fs ls = position_names Code 0 0 (read_so fs ls)

finds_code : (fs : List Allocated) (ls : List Literal) → Known fs ls → Finds (positions (read_so fs ls)) (labels_from 0 (code_of fs))
finds_code fs ls k name p h =
    let more = positions_from Code (0 + words (code_of fs)) 0 (texts.readings_of (statics_written ls)) in
    let e : positions (read_so fs ls) ≡ labels_from 0 (code_of fs) ++ more = code_positions 0 0 (code_of fs) (statics_written ls) k.code in
    found (positions (read_so fs ls)) name p (subst Differ (sym (positions_named fs ls)) (differ_all fs ls k))
    (subst (λ ps. Stands ps name p) (sym e) (stands_left (labels_from 0 (code_of fs)) more name p h))

function_there : (fs : List Allocated) (ls : List Literal) → Known fs ls → (label : ℕ) → IsTrue (is_among (function_labels fs) label) →
    IsInCode (positions (read_so fs ls)) (words (code_of fs)) (function_name label)
function_there fs ls k label h = in_code (positions (read_so fs ls)) (words (code_of fs)) 0 (code_of fs) (function_name label) (omega arith)
    (finds_code fs ls k) (label_given (is_long fs) 0 label fs h)

literal_there : (fs : List Allocated) (ls : List Literal) → Known fs ls → (label : ℕ) → IsTrue (is_among (literal_labels ls) label) →
    IsSome (position_of (positions (read_so fs ls)) (literal_name label))
literal_there fs ls k label h =
    is_found (positions (read_so fs ls)) (literal_name label)
    (subst (λ ns. IsAmong ns (literal_name label)) (sym (positions_named fs ls ∙ labels_are fs ls k))
    (among_right (given_in (code_of fs)) (literal_names ls) (literal_name label) (literal_among label ls h)))

short_code : (fs : List Allocated) → is_long fs ≡ false → words (code_of fs) ≤ 32000
short_code fs e = subst (λ t. words (functions_lines t fs) ≤ 32000) (sym e) (not_above 32000 (words (functions_lines false fs)) e)

surrounds : (fs : List Allocated) (ls : List Literal) → Known fs ls →
    Surrounds (positions (read_so fs ls)) (words (code_of fs)) (is_long fs) (function_labels fs) (literal_labels ls)
surrounds fs ls k = record { near = short_code fs; calls = function_there fs ls k; addresses = literal_there fs ls k }

reaches : (fs : List Allocated) (ls : List Literal) → Known fs ls → WordsReach (positions (read_so fs ls)) (words (code_of fs)) 0 (coded_in (code_of fs))
reaches fs ls k = reach_of_functions (positions (read_so fs ls)) (words (code_of fs)) (is_long fs) (function_labels fs) (literal_labels ls) 0 fs
    (surrounds fs ls k) k.emitted k.program.names (omega arith) (finds_code fs ls k)

length_is : (fs : List Allocated) (ls : List Literal) → Known fs ls → length (code_in (read_so fs ls)) ≡ words (code_of fs)
length_is fs ls k = ap (λ c. length c) (code_is fs ls k) ∙ coded_words (code_of fs)

bytes_are : (fs : List Allocated) (ls : List Literal) → Known fs ls → last_byte 0 (read_so fs ls) ≡ bytes_of ls
bytes_are fs ls k = code_bytes 0 (code_of fs) (statics_written ls) k.code ∙ statics_bytes ls

is_sound : (fs : List Allocated) (ls : List Literal) → Known fs ls → IsSound (read_so fs ls)
is_sound fs ls k =
    let ps = positions (read_so fs ls) in
    let n = length_is fs ls k in
    let b = bytes_are fs ls k in
    let fits = k.program.code_fits in
    let bytes_fit = k.program.statics_fit in
    record {
      labels_differ = pairs_differ (labels_in (read_so fs ls)) (differ_all fs ls k);
      code_fits = subst (λ m. m ≤ most_words) (sym n) (let f : words (code_of fs) ≤ most_words = omega arith in f);
      statics_fit = subst (λ m. m ≤ most_bytes) (sym b) bytes_fit;
      words_reach = subst (λ m. WordsReach ps m 0 (code_in (read_so fs ls))) (sym n)
          (subst (WordsReach ps (words (code_of fs)) 0) (sym (code_is fs ls k)) (reaches fs ls k));
      items_stand = (tt, (tt, code_items ps (code_of fs) (statics_written ls) k.code (statics_items ps ls)));
      main_stands = subst (λ m. JumpReaches m (position_of ps (codes "main"))) (sym n)
          (jump_there ps (words (code_of fs)) (codes "main") (function_there fs ls k 32 k.program.has_body));
    }

written_stands : (fs : List Allocated) (ls : List Literal) → Known fs ls → texts.AreLines Code (program_written fs ls)
written_stands fs ls k = (tt, (refl, code_stands (code_of fs) (statics_written ls) k.code (statics_stand ls k.literals)))

pub program_is_code : ProgramIsCode
program_is_code fs ls p t = (known fs ls p t).code

pub program_is_sound : ProgramIsSound
program_is_sound fs ls p t = is_sound fs ls (known fs ls p t)

pub program_has_image : ProgramHasImage
program_has_image fs ls p t =
    let k = known fs ls p t in
    ap assembled (text_same fs ls k.code) ∙ lines_have_image (program_written fs ls) (written_stands fs ls k) (is_sound fs ls k)

-- the body stands after the words of the functions before it
label_stands :
    (turned : Bool) (w label : ℕ) (fs : List Allocated) → IsTrue (is_among (function_labels fs) label) →
    Stands (labels_from w (functions_lines turned fs)) (function_name label) (AtWord (w + words_before turned label fs))
label_stands turned w label [] h = cc
label_stands turned w label (f ∷ fs) h = by (label == f.frame.label.0) refl (λ more. label_stands turned (w + words here) label fs more)
  where
    here : List Line
    here = function_lines turned f

    rest : List Line
    rest = functions_lines turned fs

    by :
        (b : Bool) → (label == f.frame.label.0) ≡ b →
        (IsTrue (is_among (function_labels fs) label) → Stands (labels_from (w + words here) rest) (function_name label)
        (AtWord (w + words here + words_before turned label fs))) →
        Stands (labels_from w (here ++ rest)) (function_name label) (AtWord (w + (if b then 0 else words here + words_before turned label fs)))
    by true e later =
        let z : w ≡ w + 0 = omega arith in
        inl (ap (λ l. (function_name l, AtWord w)) (sym (eqb-true label f.frame.label.0 e)) ∙ ap (λ n. (function_name label, AtWord n)) z)
    by false e later =
        let n = words_before turned label fs in
        let z : w + words here + n ≡ w + (words here + n) = omega arith in
        let there = later (or_right (label == f.frame.label.0) (is_among (function_labels fs) label) e h) in
        subst (λ q. Stands q (function_name label) (AtWord (w + (words here + n)))) (sym (labels_append w here rest))
        (stands_right (labels_from w here) (labels_from (w + words here) rest) (function_name label) (AtWord (w + (words here + n)))
        (subst (λ m. Stands (labels_from (w + words here) rest) (function_name label) (AtWord m)) z there))

pub program_enters_body : ProgramEntersBody
program_enters_body fs ls p t =
    let k = known fs ls p t in
    let n = words_before (is_long fs) 32 fs in
    let z : code_base + 4 * (0 + n) ≡ code_base + 4 * n = omega arith in
    ap found_address (finds_code fs ls k (codes "main") (AtWord (0 + n)) (label_stands (is_long fs) 0 32 fs p.has_body)) ∙ z
