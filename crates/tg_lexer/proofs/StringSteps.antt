-- A string, byte by byte and escape by escape.
use Rattle.std.proofs.Common.{ℕ, ◌+◌, ◌≡◌, ◌≢◌, ◌≤◌, ◌<◌, List, [], ◌∷◌, ◌++◌, length, true, false, take, drop, get_or, sym, ap, subst, ◌∙◌, arith, append-nil}
use Rattle.std.proofs.lemmas.Bool.Decides.{nat_tests}
use Rattle.std.proofs.lemmas.List.{take-append-drop, length-take-le, drop_more, drop_all}
use Rattle.tg_syntax.specs.declared.faults.LexRule.{LexRule}
use Rattle.tg_syntax.specs.declared.faults.LexRule.TheVariants.{L3, L4, L6}
use Rattle.tg_syntax.specs.Spellings.{IsQuoted, nothing, plain, escaped, Escape, is_plain}
use Rattle.tg_syntax.specs.LexicalFaults.{FaultInString, end_in_string, line_in_string, control_byte, end_in_escape, line_in_escape, bad_escape}
use Rattle.tg_syntax.specs.LexicalFaults.{is_control, FaultAt, in_string}
use Rattle.tg_lexer.specs.glue.Lexemes.{IsString, IsCut, ended, line, IsBad, bad}
use Rattle.tg_lexer.proofs.Basics.{take_piece, within_piece}
use Rattle.tg_lexer.proofs.Quotings.{IsQuoted-append}

-- so far a text is what stands in a string
abbrev pub Quotes : List ℕ → ℕ → List ℕ → Type 0
Quotes text at meant = (at ≤ length text) × IsQuoted (take at text) meant

pub quotes_none : (text : List ℕ) → Quotes text 0 []
quotes_none text = (omega arith, nothing)

-- one more piece
quotes_piece : (text : List ℕ) (at : ℕ) (meant piece more rest : List ℕ) → Quotes text at meant → drop at text ≡ piece ++
    rest → IsQuoted piece more → Quotes text (at + length piece) (meant ++ more)
quotes_piece text at meant piece more rest h e k =
    (within_piece at text piece rest h.0 e, subst (λ l. IsQuoted l (meant ++ more)) (sym (take_piece at text piece rest e)) (IsQuoted-append h.1 k))

pub quotes_plain : (text : List ℕ) (at : ℕ) (meant : List ℕ) → Quotes text at meant → at < length text →
    is_plain (get_or text at 0) ≡ true → Quotes text (at + 1) (meant ++ get_or text at 0 ∷ [])
quotes_plain text at meant h lt p =
    quotes_piece text at meant (get_or text at 0 ∷ []) (get_or text at 0 ∷ []) (drop (at + 1) text) h (drop_more text at 0 lt)
    (plain (get_or text at 0) p nothing)

one_escape : {escape more : List ℕ} → Escape escape more → IsQuoted (92 ∷ escape) more
one_escape {escape = escape} {more = more} h =
    let k : IsQuoted (92 ∷ escape ++ []) (more ++ []) = escaped h nothing in
    subst (λ l. IsQuoted (92 ∷ l) more) (append-nil escape) (subst (λ m. IsQuoted (92 ∷ escape ++ []) m) (append-nil more) k)

backslash_at : (text : List ℕ) (at : ℕ) → at < length text → get_or text at 0 ≡ 92 → drop at text ≡ 92 ∷ drop (at + 1) text
backslash_at text at lt e = drop_more text at 0 lt ∙ ap (λ b. b ∷ drop (at + 1) text) e

pub quotes_escape : (text : List ℕ) (at size : ℕ) (meant more : List ℕ) → Quotes text at meant → at < length text →
    get_or text at 0 ≡ 92 → (size ≤ length (drop (at + 1) text)) × Escape (take size (drop (at + 1) text)) more → Quotes text (at + (1 + size)) (meant ++ more)
quotes_escape text at size meant more h lt e k =
    let behind = drop (at + 1) text in
    let piece : List ℕ = 92 ∷ take size behind in
    let w : drop at text ≡ piece ++ drop size behind = backslash_at text at lt e ∙ ap (λ l. 92 ∷ l) (sym (take-append-drop size behind)) in
    let n : length piece ≡ 1 + size = let m = length-take-le size behind k.0 in omega arith in
    subst (λ n. Quotes text (at + n) (meant ++ more)) n (quotes_piece text at meant piece more (drop size behind) h w (one_escape k.1))

pub quotes_gap : (text : List ℕ) (at size : ℕ) (meant : List ℕ) → Quotes text at meant → at < length text →
    get_or text at 0 ≡ 92 → (size ≤ length (drop (at + 1) text)) × Escape (take size (drop (at + 1) text)) [] → Quotes text (at + (1 + size)) meant
quotes_gap text at size meant h lt e k = subst (λ m. Quotes text (at + (1 + size)) m) (append-nil meant) (quotes_escape text at size meant [] h lt e k)

-- the closing quote
pub quotes_whole : (text : List ℕ) (at : ℕ) (meant : List ℕ) → Quotes text at meant → at < length text → get_or text at 0 ≡ 34 → IsString text meant (at + 1)
quotes_whole text at meant h lt e =
    record {
      inside = take at text;
      rest = drop (at + 1) text;
      whole = sym (take-append-drop at text) ∙ ap (λ l. take at text ++ l) (drop_more text at 0 lt ∙ ap (λ b. b ∷ drop (at + 1) text) e);
      size_is = ap (λ n. n + 1) (sym (length-take-le at text h.0));
      quoted = h.1;
    }

-- a fault
quotes_fault : (quote : ℕ) (text : List ℕ) (at : ℕ) (meant rest : List ℕ) (rule : LexRule) (place : ℕ) → Quotes text at meant →
    drop at text ≡ rest → FaultInString quote (quote + 1 + at) rest rule place → FaultAt quote (34 ∷ text) rule place
quotes_fault quote text at meant rest rule place h e f =
    let n : at ≡ length (take at text) = sym (length-take-le at text h.0) in
    let k : FaultInString quote (quote + 1 + length (take at text)) (drop at text) rule place = subst (λ l. FaultInString quote (quote + 1 + length (take at text)) l rule place) (sym e) (subst (λ n. FaultInString quote (quote + 1 + n) rest rule place) n f) in
    subst (λ l. FaultAt quote (34 ∷ l) rule place) (take-append-drop at text) (in_string (take at text) meant (drop at text) h.1 k)

pub quotes_end : (quote : ℕ) (text : List ℕ) (at : ℕ) (meant : List ℕ) → Quotes text at meant → length text ≤ at → FaultAt quote (34 ∷ text) L3 quote
quotes_end quote text at meant h le = quotes_fault quote text at meant [] L3 quote h (drop_all at text le) end_in_string

pub quotes_line : (quote : ℕ) (text : List ℕ) (at : ℕ) (meant : List ℕ) → Quotes text at meant → at < length text →
    get_or text at 0 ≡ 10 → FaultAt quote (34 ∷ text) L3 quote
quotes_line quote text at meant h lt e = quotes_fault quote text at meant (10 ∷ drop (at + 1) text) L3 quote h
    (drop_more text at 0 lt ∙ ap (λ b. b ∷ drop (at + 1) text) e) (line_in_string (drop (at + 1) text))

pub quotes_cut : (quote : ℕ) (text : List ℕ) (at : ℕ) (meant : List ℕ) → Quotes text at meant → at < length text →
    get_or text at 0 ≡ 92 → IsCut (drop (at + 1) text) → FaultAt quote (34 ∷ text) L3 quote
quotes_cut quote text at meant h lt e c = by (drop (at + 1) text) c (backslash_at text at lt e)
  where
    by : (behind : List ℕ) → IsCut behind → drop at text ≡ 92 ∷ behind → FaultAt quote (34 ∷ text) L3 quote
    by _ (ended begun b) e = quotes_fault quote text at meant (92 ∷ begun) L3 quote h e (end_in_escape begun b)
    by _ (line begun rest m) e = quotes_fault quote text at meant (92 ∷ begun ++ 10 ∷ rest) L3 quote h e (line_in_escape begun rest m)

pub quotes_bad : (quote : ℕ) (text : List ℕ) (at : ℕ) (meant : List ℕ) → Quotes text at meant → at < length text →
    get_or text at 0 ≡ 92 → IsBad (drop (at + 1) text) → FaultAt quote (34 ∷ text) L4 (quote + 1 + at)
quotes_bad quote text at meant h lt e c = by (drop (at + 1) text) c (backslash_at text at lt e)
  where
    by : (behind : List ℕ) → IsBad behind → drop at text ≡ 92 ∷ behind → FaultAt quote (34 ∷ text) L4 (quote + 1 + at)
    by _ (bad begun b rest m ne) e = quotes_fault quote text at meant (92 ∷ begun ++ b ∷ rest) L4 (quote + 1 + at) h e (bad_escape begun b rest m ne)

control_left : (b : ℕ) → b < 256 → is_plain b ≡ false → b ≢ 34 → b ≢ 92 → is_control b ≡ true
control_left b lt p q s = grind (arith, nat_tests)

pub quotes_control : (quote : ℕ) (text : List ℕ) (at : ℕ) (meant : List ℕ) → Quotes text at meant → at < length text →
    get_or text at 0 < 256 → is_plain (get_or text at 0) ≡ false → get_or text at 0 ≢ 34 → get_or text at 0 ≢ 10 →
    get_or text at 0 ≢ 92 → FaultAt quote (34 ∷ text) L6 (quote + 1 + at)
quotes_control quote text at meant h lt r p q n s =
    quotes_fault quote text at meant (get_or text at 0 ∷ drop (at + 1) text) L6 (quote + 1 + at) h (drop_more text at 0 lt)
    (control_byte (get_or text at 0) (drop (at + 1) text) (control_left (get_or text at 0) r p q s) n)
