-- The lines of the code of a function: what stands in them, its marks, and that what they lead to is reached.
use Rattle.std.proofs.Common.{ℕ, ◌≡◌, ◌<◌, ◌≤◌, ◌+◌, ◌^◌, List, [], ◌∷◌, ◌++◌, length, map, Bool, true, false, refl, sym, ap, ◌∙◌, arith, subst, append-nil}
use Rattle.std.proofs.Common.{eqb-true, inl, inr}
use Rattle.std.specs.Prelude.{IsTrue, ◌||◌, nat_lt}
use Rattle.std.specs.List.{AllByRecursion, list_any, list_all}
use Rattle.std.proofs.lemmas.Bool.Decides.{nat_tests}
use Rattle.std.proofs.lemmas.List.{map-append}
use Rattle.std.proofs.lemmas.List.Elements.{recursion_from_All}
use Rattle.tg_isa.specs.declared.mips.Mips.TheVariants as row
use Rattle.tg_asm_text.specs.Placement.{AtWord, Positions, WordsReach}
use Rattle.tg_instr.specs.declared.instr.Instr.{Instr}
use Rattle.tg_instr.specs.declared.instr.Instr.TheVariants.{Mark}
use Rattle.tg_instr.specs.declared.codes.Allocated.{Allocated}
use Rattle.tg_instr.specs.Codes.{is_mark, leads_to_marks, is_end, ends_well}
use Rattle.tg_instr.proofs.Tests.{left_holds, right_holds}
use Rattle.tg_emit.specs.declared.assembly.Line.{Line}
use Rattle.tg_emit.specs.declared.assembly.Line.TheVariants.{Label}
use Rattle.tg_emit.specs.mirror.Names.{function_name, mark_name}
use Rattle.tg_emit.specs.Ranges.{InstructionFits, FunctionFits}
use Rattle.tg_emit.specs.Conditions.{has_code, is_emittable}
use Rattle.tg_emit.specs.mirror.Lines.{alone, lowered, size_of, instruction_lines, code_lines, function_lines, words}
use Rattle.tg_emit_laws.specs.Programs.{names_those, calls_those}
use Rattle.tg_emit_laws.proofs.NameTexts.{function_label}
use Rattle.tg_emit_laws.proofs.Apart.{Stands, stands_left, stands_right, each_append}
use Rattle.tg_emit_laws.specs.Images.{IsCode, AreCode}
use Rattle.tg_emit_laws.proofs.CodeLines.{coded_in, labels_from, given_in, given_append, words_append, coded_append, coded_words, labels_append}
use Rattle.tg_emit_laws.proofs.CodeLines.{reach_append}
use Rattle.tg_emit_laws.proofs.PlainLines.{IsPlain, ArePlain, plain_code, plain_given, plain_reach, lowered_plain}
use Rattle.tg_emit_laws.proofs.InstructionLines.{tail_of, code_of_instruction, given_of_instruction, reach_of_instruction, end_words, IsInCode, Surrounds}
use Rattle.tg_emit_laws.proofs.InstructionLines.{Finds}

pub code_of_code : (turned : Bool) (label size place : ℕ) (list : List Instr) → label < 2 ^ 32 → size < 2 ^ 29 → place + length list ≤ 2 ^ 64 →
    AllByRecursion InstructionFits list → IsTrue (list_all has_code list) → AreCode (code_lines turned label size place list)
code_of_code turned label size place [] l h p f c = tt
code_of_code turned label size place (one ∷ rest) l h p f c =
    each_append IsCode (instruction_lines turned label size place one) (code_lines turned label size (place + 1) rest)
    (code_of_instruction turned label size place one l h (omega arith) f.0 (left_holds _ _ c))
    (code_of_code turned label size (place + 1) rest l h (omega arith) f.1 (right_holds (has_code one) _ c))

abbrev pub tails : (turned : Bool) (place : ℕ) → List Instr → List (List ℕ)
tails turned place [] = []
tails turned place (one ∷ rest) = tail_of turned place one ++ tails turned (place + 1) rest

joined : (xs ys us vs : List (List ℕ)) → xs ≡ us → ys ≡ vs → xs ++ ys ≡ us ++ vs
joined xs ys us vs h k = rw (h, k) refl

pub given_of_code : (turned : Bool) (label size place : ℕ) (list : List Instr) → size < 2 ^ 29 → AllByRecursion InstructionFits list →
    IsTrue (list_all has_code list) → given_in (code_lines turned label size place list) ≡ map (λ t. function_name label ++ t) (tails turned place list)
given_of_code turned label size place [] h f c = refl
given_of_code turned label size place (one ∷ rest) h f c =
    given_append (instruction_lines turned label size place one) (code_lines turned label size (place + 1) rest)
    ∙ joined _ _ _ _ (given_of_instruction turned label size place one h f.0 (left_holds _ _ c))
    (given_of_code turned label size (place + 1) rest h f.1 (right_holds (has_code one) _ c))
    ∙ sym (map-append (λ t. function_name label ++ t) (tail_of turned place one) (tails turned (place + 1) rest))

-- code that ends well is a word at least
pub end_of_code : (turned : Bool) (label size place : ℕ) (list : List Instr) → IsTrue (ends_well list) → 1 ≤ words (code_lines turned label size place list)
end_of_code turned label size place [] h = cc
end_of_code turned label size place (one ∷ []) h =
    let e = words_append (instruction_lines turned label size place one) [] in
    let w = end_words turned label size place one h in
    omega arith
end_of_code turned label size place (one ∷ two ∷ rest) h =
    let e = words_append (instruction_lines turned label size place one) (code_lines turned label size (place + 1) (two ∷ rest)) in
    let w = end_of_code turned label size (place + 1) (two ∷ rest) h in
    omega arith

-- a name that stands in lines from a word on, not at their end
pub record IsGiven (w : ℕ) (lines : List Line) (name : List ℕ) : Type 0 where
  pub word : ℕ
  pub below : word < w + words lines
  pub stands : Stands (labels_from w lines) name (AtWord word)

-- and among the labels of two parts
given_there : (w : ℕ) (xs ys : List Line) (name : List ℕ) (word : ℕ) → word < w + words xs + words ys →
    Stands (labels_from w xs ++ labels_from (w + words xs) ys) name (AtWord word) → IsGiven w (xs ++ ys) name
given_there w xs ys name word l s =
    let e = words_append xs ys in
    record {
      word = word;
      below = omega arith;
      stands = subst (λ q. Stands q name (AtWord word)) (sym (labels_append w xs ys)) s;
    }

pub given_left : (w : ℕ) (xs ys : List Line) (name : List ℕ) → IsGiven w xs name → IsGiven w (xs ++ ys) name
given_left w xs ys name g =
    let b = g.below in
    given_there w xs ys name g.word (omega arith) (stands_left (labels_from w xs) (labels_from (w + words xs) ys) name (AtWord g.word) g.stands)

pub given_right : (w : ℕ) (xs ys : List Line) (name : List ℕ) → IsGiven (w + words xs) ys name → IsGiven w (xs ++ ys) name
given_right w xs ys name g =
    given_there w xs ys name g.word g.below (stands_right (labels_from w xs) (labels_from (w + words xs) ys) name (AtWord g.word) g.stands)

pub in_code : (ps : Positions) (n w : ℕ) (lines : List Line) (name : List ℕ) → w + words lines ≤ n → Finds ps (labels_from w lines) → IsGiven w lines name →
    IsInCode ps n name
in_code ps n w lines name fits finds g = let b = g.below in record { word = g.word; below = omega arith; at = finds name (AtWord g.word) g.stands }

mark_lines : (turned : Bool) (label size place m : ℕ) (one : Instr) → is_mark m one ≡ true →
    instruction_lines turned label size place one ≡ Label (mark_name label m) ∷ []
mark_lines turned label size place m (Mark k) h = ap (λ j. Label (mark_name label j) ∷ []) (sym (eqb-true m k h))
mark_lines turned label size place m one h = cc

mark_goes_on : (m : ℕ) (one : Instr) → is_mark m one ≡ true → is_end one ≡ false
mark_goes_on m (Mark k) h = refl
mark_goes_on m one h = cc

rest_ends : (one : Instr) (rest : List Instr) → IsTrue (ends_well (one ∷ rest)) → is_end one ≡ false → IsTrue (ends_well rest)
rest_ends one [] h e = cc
rest_ends one (two ∷ rest) h e = h

some_ends : (m : ℕ) (one : Instr) (rest : List Instr) → IsTrue (ends_well (one ∷ rest)) → IsTrue (list_any (is_mark m) rest) → IsTrue (ends_well rest)
some_ends m one [] h k = cc
some_ends m one (two ∷ rest) h k = h

pub or_right : (a b : Bool) → a ≡ false → IsTrue (a || b) → IsTrue b
or_right true b e h = cc
or_right false b e h = h

first_mark : (turned : Bool) (label size place w m : ℕ) (one : Instr) (rest : List Instr) → is_mark m one ≡ true → IsTrue (ends_well (one ∷ rest)) →
    IsGiven w (code_lines turned label size place (one ∷ rest)) (mark_name label m)
first_mark turned label size place w m one rest h e =
    let more = code_lines turned label size (place + 1) rest in
    let some : 1 ≤ words more = end_of_code turned label size (place + 1) rest (rest_ends one rest e (mark_goes_on m one h)) in
    let there : IsGiven w (Label (mark_name label m) ∷ more) (mark_name label m) = record { word = w; below = omega arith; stands = inl refl } in
    subst (λ lines. IsGiven w (lines ++ more) (mark_name label m)) (sym (mark_lines turned label size place m one h)) there

-- each mark of the code is given
pub mark_given : (turned : Bool) (label size place w m : ℕ) (list : List Instr) → IsTrue (list_any (is_mark m) list) → IsTrue (ends_well list) →
    IsGiven w (code_lines turned label size place list) (mark_name label m)
mark_given turned label size place w m [] h e = cc
mark_given turned label size place w m (one ∷ rest) h e =
    by (is_mark m one) refl (λ more. mark_given turned label size (place + 1) (w + words (instruction_lines turned label size place one)) m rest more
    (some_ends m one rest e more))
  where
    by : (b : Bool) → is_mark m one ≡ b →
        (IsTrue (list_any (is_mark m) rest) →
        IsGiven (w + words (instruction_lines turned label size place one)) (code_lines turned label size (place + 1) rest) (mark_name label m)) →
        IsGiven w (code_lines turned label size place (one ∷ rest)) (mark_name label m)
    by true t later = first_mark turned label size place w m one rest t e
    by false t later = given_right w (instruction_lines turned label size place one) (code_lines turned label size (place + 1) rest) (mark_name label m)
        (later (or_right (is_mark m one) (list_any (is_mark m) rest) t h))

pub finds_left : (ps : Positions) (w : ℕ) (xs ys : List Line) → Finds ps (labels_from w (xs ++ ys)) → Finds ps (labels_from w xs)
finds_left ps w xs ys f name p h = f name p (subst (λ q. Stands q name p) (sym (labels_append w xs ys))
    (stands_left (labels_from w xs) (labels_from (w + words xs) ys) name p h))

pub finds_right : (ps : Positions) (w : ℕ) (xs ys : List Line) → Finds ps (labels_from w (xs ++ ys)) → Finds ps (labels_from (w + words xs) ys)
finds_right ps w xs ys f name p h = f name p (subst (λ q. Stands q name p) (sym (labels_append w xs ys))
    (stands_right (labels_from w xs) (labels_from (w + words xs) ys) name p h))

-- lines after others
pub reach_lines : (ps : Positions) (n w : ℕ) (xs ys : List Line) → WordsReach ps n w (coded_in xs) → WordsReach ps n (w + words xs) (coded_in ys) →
    WordsReach ps n w (coded_in (xs ++ ys))
reach_lines ps n w xs ys h k =
    subst (WordsReach ps n w) (sym (coded_append xs ys)) (reach_append ps n w (coded_in xs) (coded_in ys) h
    (subst (λ m. WordsReach ps n (w + m) (coded_in ys)) (sym (coded_words xs)) k))

pub reach_of_code : (ps : Positions) (n : ℕ) (turned : Bool) (functions literals : List ℕ) (label size place w : ℕ) (all list : List Instr) →
    Surrounds ps n turned functions literals → ((m : ℕ) → IsTrue (list_any (is_mark m) all) → IsInCode ps n (mark_name label m)) → size < 2 ^ 29 →
    AllByRecursion InstructionFits list → IsTrue (list_all has_code list) → IsTrue (list_all (leads_to_marks all) list) →
    IsTrue (list_all (names_those functions literals) list) → w + words (code_lines turned label size place list) ≤ n →
    Finds ps (labels_from w (code_lines turned label size place list)) → WordsReach ps n w (coded_in (code_lines turned label size place list))
reach_of_code ps n turned functions literals label size place w all [] s marks h f c m names fits finds = tt
reach_of_code ps n turned functions literals label size place w all (one ∷ rest) s marks h f c m names fits finds =
    let here = instruction_lines turned label size place one in
    let more = code_lines turned label size (place + 1) rest in
    let e = words_append here more in
    reach_lines ps n w here more
    (reach_of_instruction ps n turned functions literals label size place w all one s marks h f.0 (left_holds _ _ c) (left_holds _ _ m)
    (left_holds _ _ names) (omega arith) (finds_left ps w here more finds))
    (reach_of_code ps n turned functions literals label size (place + 1) (w + words here) all rest s marks h f.1 (right_holds (has_code one) _ c)
    (right_holds (leads_to_marks all one) _ m) (right_holds (names_those functions literals one) _ names) (omega arith)
    (finds_right ps w here more finds))

-- A whole function.
abbrev pub opening : ℕ → List Line
opening size = lowered size ++ alone (row.Lw 0 0 29) ∷ []

opening_plain : (size : ℕ) → 0 < size → size < 2 ^ 29 → ArePlain (opening size)
opening_plain size z h = each_append IsPlain (lowered size) (alone (row.Lw 0 0 29) ∷ []) (lowered_plain size z h)
    (((omega arith, omega arith, omega arith), refl), tt)

opening_words : (size : ℕ) → 1 ≤ words (opening size)
opening_words size = let e = words_append (lowered size) (alone (row.Lw 0 0 29) ∷ []) in omega arith

-- what is known of a function that is emitted
pub record IsEmitted (f : Allocated) : Type 0 where
  pub label : f.frame.label.0 < 2 ^ 32
  pub some : 0 < size_of f.frame
  pub size : size_of f.frame < 2 ^ 29
  pub length : length f.code.list ≤ 2 ^ 64
  pub fits : AllByRecursion InstructionFits f.code.list
  pub codes : IsTrue (list_all has_code f.code.list)

below_test : (a b : ℕ) → IsTrue (nat_lt a b) → a < b
below_test a b h = grind (arith, nat_tests)

pub emitted : (f : Allocated) → IsTrue (is_emittable f) → FunctionFits f → IsEmitted f
emitted f h t =
    let l = t.length in
    record {
      label = t.label;
      some = omega arith;
      size = below_test (size_of f.frame) (2 ^ 29) (left_holds _ _ h);
      length = omega arith;
      fits = recursion_from_All InstructionFits f.code.list t.code;
      codes = right_holds (nat_lt (size_of f.frame) (2 ^ 29)) _ h;
    }

abbrev pub code_of : Bool → Allocated → List Line
code_of turned f = code_lines turned f.frame.label.0 (size_of f.frame) 0 f.code.list

pub code_of_function : (turned : Bool) (f : Allocated) → IsEmitted f → AreCode (function_lines turned f)
code_of_function turned f k =
    let size = size_of f.frame in
    let l = k.label in
    let n = k.length in (
      function_label f.frame.label.0 (omega arith),
      each_append IsCode (opening size) (code_of turned f)
          (plain_code (opening size) (opening_plain size k.some k.size)) (code_of_code turned f.frame.label.0 size 0 f.code.list k.label k.size (omega arith)
          k.fits k.codes),
    )

pub given_of_function : (turned : Bool) (f : Allocated) → IsEmitted f →
    given_in (function_lines turned f) ≡ map (λ t. function_name f.frame.label.0 ++ t) ([] ∷ tails turned 0 f.code.list)
given_of_function turned f k =
    let size = size_of f.frame in
    let name = function_name f.frame.label.0 in
    let rest : given_in (opening size ++ code_of turned f) ≡ map (λ t. name ++ t) (tails turned 0 f.code.list) =
    given_append (opening size) (code_of turned f)
    ∙ joined _ _ [] _ (plain_given (opening size) (opening_plain size k.some k.size))
    (given_of_code turned f.frame.label.0 size 0 f.code.list k.size k.fits k.codes) in
    ap (λ l. name ∷ l) rest ∙ ap (λ n. n ∷ map (λ t. name ++ t) (tails turned 0 f.code.list)) (sym (append-nil name))

pub function_given : (turned : Bool) (f : Allocated) (w : ℕ) → IsGiven w (function_lines turned f) (function_name f.frame.label.0)
function_given turned f w =
    let e = words_append (opening (size_of f.frame)) (code_of turned f) in
    let o = opening_words (size_of f.frame) in
    record { word = w; below = omega arith; stands = inl refl }

-- a mark of a function is given in its lines
pub mark_of_function : (turned : Bool) (f : Allocated) (w m : ℕ) → IsTrue (list_any (is_mark m) f.code.list) →
    IsGiven w (opening (size_of f.frame) ++ code_of turned f) (mark_name f.frame.label.0 m)
mark_of_function turned f w m h =
    given_right w (opening (size_of f.frame)) (code_of turned f) (mark_name f.frame.label.0 m)
    (mark_given turned f.frame.label.0 (size_of f.frame) 0 (w + words (opening (size_of f.frame))) m f.code.list h f.code.ends_well)

pub reach_of_function : (ps : Positions) (n : ℕ) (turned : Bool) (functions literals : List ℕ) (w : ℕ) (f : Allocated) →
    Surrounds ps n turned functions literals → IsEmitted f → IsTrue (calls_those functions literals f) → w + words (function_lines turned f) ≤ n →
    Finds ps (labels_from w (function_lines turned f)) → WordsReach ps n w (coded_in (function_lines turned f))
reach_of_function ps n turned functions literals w f s k names fits finds =
    let size = size_of f.frame in
    let body = opening size ++ code_of turned f in
    let inner : Finds ps (labels_from w body) = λ name p h. finds name p (inr h) in
    let e = words_append (opening size) (code_of turned f) in
    reach_lines ps n w (opening size) (code_of turned f)
    (plain_reach ps n w (opening size) (opening_plain size k.some k.size))
    (reach_of_code ps n turned functions literals f.frame.label.0 size 0 (w + words (opening size)) f.code.list f.code.list s
    (λ m h. in_code ps n w body (mark_name f.frame.label.0 m) (omega arith) inner (mark_of_function turned f w m h))
    k.size k.fits k.codes f.code.marks_stand names (omega arith) (finds_right ps w (opening size) (code_of turned f) inner))
