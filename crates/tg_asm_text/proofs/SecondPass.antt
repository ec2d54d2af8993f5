-- The second pass makes of readings what stands at their places.
use Rattle.std.specs.Prelude.{◌-◌, ◌/◌, replicate, nat_lt, nat_le}
use Rattle.std.proofs.Common.{◌≡◌, ◌≤◌, ◌+◌, ◌^◌, ℕ, suc, true, false, Bool, List, [], ◌∷◌, ◌++◌, length, Option, Some, None, Result, Ok, Err, refl}
use Rattle.std.proofs.Common.{sym, ap, subst, ◌∙◌, arith, append_assoc, length-append, le-leb, lt-ltb, ltb-true, ltb-false}
use Rattle.std.proofs.lemmas.List.{append-nil, length-replicate}
use Rattle.tg_machine_state.specs.State.{code_base}
use Rattle.tg_isa.specs.declared.mips.Mips.{Mips}
use Rattle.tg_asm_text.specs.declared.keywords.Segment.{Segment}
use Rattle.tg_asm_text.specs.declared.keywords.AsmRule.{AsmRule}
use Rattle.tg_isa.specs.Table.{word_of}
use Rattle.tg_asm_text.specs.Items.{Item, Nothing, Section, Words, Data', Coded, Fixed, Branch, Jump, Upper, Lower, Datum, Value, AddressOfLabel, Single}
use Rattle.tg_asm_text.specs.Items.{Bytes, Zeros, width, widths}
use Rattle.tg_asm_text.specs.Assembly.{Reading, LabelTarget, InCode, InStatics, Layout, spot_of, with_offset, with_target, branch_word, branch_to, jump_to}
use Rattle.tg_asm_text.specs.Assembly.{upper, lower, word, place_bytes, datum_bytes, Made, make_words, make_data, pad, round_up, make_item, make_reading}
use Rattle.tg_asm_text.specs.Assembly.{make_line, make}
use Rattle.tg_asm_text.specs.Placement.{segment_behind, Reads, item_words, code_in, byte_behind, Positions, found_word, offset_to, placed_word}
use Rattle.tg_asm_text.specs.Placement.{placed_words, placed_datum, placed_data, placed_item, placed_bytes, BranchReaches, JumpReaches, WordReaches}
use Rattle.tg_asm_text.specs.Placement.{WordsReach, DatumStands, DataStand, ItemStands, ItemsStand}
use Rattle.tg_asm_text.proofs.FirstPass.{segment_end}
use Rattle.tg_asm_text.proofs.LabelTables.{found_so, Knows, address_known}

-- a branch and a jump within their reach
branch_near : (one : Mips) (at to : ℕ) → to ≤ at + 32768 → at + 1 ≤ to + 32768 → branch_word one at to ≡ Ok (word_of (with_offset one (offset_to at to)))
branch_near one at to h k = by (nat_lt at to) refl
  where
    by : (b : Bool) → nat_lt at to ≡ b → branch_word one at to ≡ Ok (word_of (with_offset one (offset_to at to)))
    by true e =
        let l = ltb-true at to e in
        let t : nat_le (to - (at + 1)) 32767 ≡ true = le-leb (to - (at + 1)) 32767 (omega (arith, l, h)) in
        let o : to - (at + 1) ≡ offset_to at to = omega (arith, l, h) in
        rw (e, t) (ap (λ n. Ok (word_of (with_offset one n))) o)
    by false e =
        let l = ltb-false at to e in
        let t : nat_le (at + 1 - to) 32768 ≡ true = le-leb (at + 1 - to) 32768 (omega (arith, l, k)) in
        let o : 2 ^ 16 - (at + 1 - to) ≡ offset_to at to = omega (arith, l, k) in
        rw (e, t) (ap (λ n. Ok (word_of (with_offset one n))) o)

branch_found : (one : Mips) (at : ℕ) (starts : List ℕ) (size : ℕ) (o : Option LabelTarget) → BranchReaches at (found_so starts size o) →
    branch_to one at o ≡ Ok (word_of (with_offset one (offset_to at (found_word (found_so starts size o)))))
branch_found one at starts size (Some (InCode to)) h = branch_near one at to h.0 h.1
branch_found one at starts size (Some (InStatics k)) h = absurd h
branch_found one at starts size None h = absurd h

jump_found : (l : Layout) (one : Mips) (starts : List ℕ) (size : ℕ) (o : Option LabelTarget) →
    JumpReaches l.words (found_so starts size o) → jump_to l one o ≡ Ok (word_of (with_target one (code_base / 4 + found_word (found_so starts size o))))
jump_found l one starts size (Some (InCode to)) h = let t : nat_lt to l.words ≡ true = lt-ltb to l.words h in rw t refl
jump_found l one starts size (Some (InStatics k)) h = absurd h
jump_found l one starts size None h = absurd h

-- words
word_made : (l : Layout) (ps : Positions) (at : ℕ) (c : Coded) → Knows l ps → WordReaches ps l.words at c → word l at c ≡ Ok (placed_word ps at c)
word_made l ps at (Fixed one) k h = refl
word_made l ps at (Branch one label) k h =
    let e = k.spots label in
    branch_found one at l.starts l.size (spot_of l label) (subst (BranchReaches at) e h)
    ∙ ap (λ o. Ok (word_of (with_offset one (offset_to at (found_word o))))) (sym e)
word_made l ps at (Jump one label) k h =
    let e = k.spots label in
    jump_found l one l.starts l.size (spot_of l label) (subst (JumpReaches l.words) e h)
    ∙ ap (λ o. Ok (word_of (with_target one (code_base / 4 + found_word o)))) (sym e)
word_made l ps at (Upper r label) k h = ap (upper r) (address_known l ps label k h)
word_made l ps at (Lower r label) k h = ap (lower r) (address_known l ps label k h)

abbrev made_with : Segment → List ℕ → List ℕ → Made
made_with segment code statics = record { segment = segment; code = code; statics = statics }

same_made : (segment : Segment) (c c' s s' : List ℕ) → c ≡ c' → s ≡ s' → made_with segment c s ≡ made_with segment c' s'
same_made segment c c' s s' a b = rw (a, b) refl

abbrev words_on : Layout → Made → List Coded → Result ℕ AsmRule → Result Made AsmRule
words_on l m more (Ok w) = make_words l (record m { code = m.code ++ w ∷ [] }) more
words_on l m more (Err e) = Err e

length-one : (xs : List ℕ) (x : ℕ) → length (xs ++ x ∷ []) ≡ length xs + 1
length-one xs x = length-append xs (x ∷ [])

words_made : (l : Layout) (ps : Positions) (cs : List Coded) (m : Made) → Knows l ps → WordsReach ps l.words (length m.code) cs →
    make_words l m cs ≡ Ok (record m { code = m.code ++ placed_words ps (length m.code) cs })
words_made l ps [] m k h = ap Ok (same_made m.segment m.code (m.code ++ []) m.statics m.statics (sym (append-nil m.code)) refl)
words_made l ps (c ∷ cs) m k h =
    let w = placed_word ps (length m.code) c in
    let n = length-one m.code w in
    let next : Made = made_with m.segment (m.code ++ w ∷ []) m.statics in
    let e : next.code ++ placed_words ps (length next.code) cs ≡ m.code ++ placed_words ps (length m.code) (c ∷ cs) =
    append_assoc m.code (w ∷ []) (placed_words ps (length next.code) cs) ∙ ap (λ j. m.code ++ w ∷ placed_words ps j cs) n in
    ap (words_on l m cs) (word_made l ps (length m.code) c k h.0)
    ∙ words_made l ps cs next k (subst (λ j. WordsReach ps l.words j cs) (sym n) h.1)
    ∙ ap Ok (same_made m.segment _ _ m.statics m.statics e refl)

-- data
datum_made : (l : Layout) (ps : Positions) (d : Datum) → Knows l ps → DatumStands ps d → datum_bytes l d ≡ Ok (placed_datum ps d)
datum_made l ps (Value n) k h = refl
datum_made l ps (AddressOfLabel label) k h = ap place_bytes (address_known l ps label k h)
datum_made l ps (Single n) k h = refl
datum_made l ps (Bytes bytes) k h = refl
datum_made l ps (Zeros n) k h = refl

length-placed_datum : (ps : Positions) (d : Datum) → length (placed_datum ps d) ≡ width d
length-placed_datum ps (Value n) = refl
length-placed_datum ps (AddressOfLabel label) = refl
length-placed_datum ps (Single n) = refl
length-placed_datum ps (Bytes bytes) = refl
length-placed_datum ps (Zeros n) = length-replicate n 0

length-placed_data : (ps : Positions) (ds : List Datum) → length (placed_data ps ds) ≡ widths ds
length-placed_data ps [] = refl
length-placed_data ps (d ∷ ds) =
    let a = length-append (placed_datum ps d) (placed_data ps ds) in
    let b = length-placed_datum ps d in
    let c = length-placed_data ps ds in
    omega (arith, a, b, c)

abbrev data_on : Layout → Made → List Datum → Result (List ℕ) AsmRule → Result Made AsmRule
data_on l m more (Ok bytes) = make_data l (record m { statics = m.statics ++ bytes }) more
data_on l m more (Err e) = Err e

data_made : (l : Layout) (ps : Positions) (ds : List Datum) (m : Made) → Knows l ps → DataStand ps ds → make_data l m ds ≡
    Ok (record m { statics = m.statics ++ placed_data ps ds })
data_made l ps [] m k h = ap Ok (same_made m.segment m.code m.code m.statics (m.statics ++ []) refl (sym (append-nil m.statics)))
data_made l ps (d ∷ ds) m k h =
    let bytes = placed_datum ps d in
    ap (data_on l m ds) (datum_made l ps d k h.0)
    ∙ data_made l ps ds (record m { statics = m.statics ++ bytes }) k h.1
    ∙ ap Ok (same_made m.segment m.code m.code _ _ refl (append_assoc m.statics bytes (placed_data ps ds)))

-- items
abbrev made_behind : Positions → Made → Item → Made
made_behind ps m i = made_with (segment_behind m.segment i) (m.code ++ placed_words ps (length m.code) (item_words i))
    (m.statics ++ placed_item ps (length m.statics) i)

item_made : (l : Layout) (ps : Positions) (i : Item) (m : Made) → Knows l ps → WordsReach ps l.words (length m.code) (item_words i) →
    ItemStands ps i → make_item l m i ≡ Ok (made_behind ps m i)
item_made l ps Nothing m k h d = ap Ok (same_made m.segment m.code (m.code ++ []) m.statics (m.statics ++ [])
    (sym (append-nil m.code)) (sym (append-nil m.statics)))
item_made l ps (Section s) m k h d = ap Ok (same_made s m.code (m.code ++ []) m.statics (m.statics ++ [])
    (sym (append-nil m.code)) (sym (append-nil m.statics)))
item_made l ps (Words ws) m k h d =
    words_made l ps ws m k h ∙ ap Ok (same_made m.segment _ (m.code ++ placed_words ps (length m.code) ws) m.statics
    (m.statics ++ []) refl (sym (append-nil m.statics)))
item_made l ps (Data' multiple ds) m k h d =
    data_made l ps ds (pad m multiple) k d
    ∙ ap Ok (same_made m.segment m.code (m.code ++ []) _ _ (sym (append-nil m.code))
    (append_assoc m.statics (replicate (round_up (length m.statics) multiple - length m.statics) 0) (placed_data ps ds)))

length-placed_words : (ps : Positions) (cs : List Coded) (at : ℕ) → length (placed_words ps at cs) ≡ length cs
length-placed_words ps [] at = refl
length-placed_words ps (c ∷ cs) at = ap suc (length-placed_words ps cs (at + 1))

placed_words-append : (ps : Positions) (xs ys : List Coded) (at : ℕ) → placed_words ps at (xs ++ ys) ≡ placed_words ps at xs ++
    placed_words ps (at + length xs) ys
placed_words-append ps [] ys at = let z : at ≡ at + 0 = omega arith in ap (λ j. placed_words ps j ys) z
placed_words-append ps (x ∷ xs) ys at =
    let z : at + 1 + length xs ≡ at + length (x ∷ xs) = omega arith in
    ap (λ l. placed_word ps at x ∷ l) (placed_words-append ps xs ys (at + 1) ∙ ap (λ j. placed_words ps (at + 1) xs ++ placed_words ps j ys) z)

WordsReach-front : (ps : Positions) (words : ℕ) (xs ys : List Coded) (at : ℕ) → WordsReach ps words at (xs ++ ys) → WordsReach ps words at xs
WordsReach-front ps words [] ys at h = tt
WordsReach-front ps words (x ∷ xs) ys at h = (h.0, WordsReach-front ps words xs ys (at + 1) h.1)

WordsReach-back : (ps : Positions) (words : ℕ) (xs ys : List Coded) (at : ℕ) → WordsReach ps words at (xs ++ ys) → WordsReach ps words (at + length xs) ys
WordsReach-back ps words [] ys at h = let z : at ≡ at + 0 = omega arith in subst (λ j. WordsReach ps words j ys) z h
WordsReach-back ps words (x ∷ xs) ys at h =
    let z : at + 1 + length xs ≡ at + length (x ∷ xs) = omega arith in
    subst (λ j. WordsReach ps words j ys) z (WordsReach-back ps words xs ys (at + 1) h.1)

length-placed_item : (ps : Positions) (i : Item) (b : ℕ) → b + length (placed_item ps b i) ≡ byte_behind b i
length-placed_item ps Nothing b = omega arith
length-placed_item ps (Section s) b = omega arith
length-placed_item ps (Words ws) b = omega arith
length-placed_item ps (Data' multiple ds) b =
    let zeros : List ℕ = replicate (round_up b multiple - b) 0 in
    let a = length-append zeros (placed_data ps ds) in
    let r : length zeros ≡ round_up b multiple - b = length-replicate (round_up b multiple - b) 0 in
    let c = length-placed_data ps ds in
    omega (arith, a, r, c)

-- all readings
line_made : (n : ℕ) (l : Layout) (m m' : Made) (line : List ℕ) (more : List (List ℕ)) → make_line l m line ≡ Ok m' →
    make n l m (line ∷ more) ≡ make (n + 1) l m' more
line_made n l m m' line more e = rw (e, make) refl

abbrev all_made : Positions → Made → List Reading → Made
all_made ps m rs = made_with (segment_end m.segment rs) (m.code ++ placed_words ps (length m.code) (code_in rs))
    (m.statics ++ placed_bytes ps (length m.statics) rs)

made_on : (ps : Positions) (m : Made) (r : Reading) (rs : List Reading) → all_made ps (made_behind ps m r.item) rs ≡ all_made ps m (r ∷ rs)
made_on ps m r rs =
    let at = length m.code in
    let b = length m.statics in
    let ws = placed_words ps at (item_words r.item) in
    let bs = placed_item ps b r.item in
    let n : length (m.code ++ ws) ≡ at + length (item_words r.item) = length-append m.code ws ∙ ap (λ j. at + j) (length-placed_words ps (item_words r.item) at) in
    let k : length (m.statics ++ bs) ≡ byte_behind b r.item = length-append m.statics bs ∙ length-placed_item ps r.item b in
    same_made (segment_end (segment_behind m.segment r.item) rs) _ _ _ _
    (append_assoc m.code ws (placed_words ps (length (m.code ++ ws)) (code_in rs))
    ∙ ap (λ j. m.code ++ (ws ++ placed_words ps j (code_in rs))) n
    ∙ ap (λ x. m.code ++ x) (sym (placed_words-append ps (item_words r.item) (code_in rs) at)))
    (append_assoc m.statics bs (placed_bytes ps (length (m.statics ++ bs)) rs)
    ∙ ap (λ j. m.statics ++ (bs ++ placed_bytes ps j rs)) k)

pub makes : (n : ℕ) (l : Layout) (ps : Positions) (ls : List (List ℕ)) (m : Made) (rs : List Reading) → Knows l ps →
    Reads m.segment ls rs → WordsReach ps l.words (length m.code) (code_in rs) → ItemsStand ps rs → make n l m ls ≡ Ok (all_made ps m rs)
makes n l ps [] m [] k h w d = ap Ok (same_made m.segment m.code (m.code ++ []) m.statics (m.statics ++ [])
    (sym (append-nil m.code)) (sym (append-nil m.statics)))
makes n l ps [] m (r ∷ rs) k h w d = absurd h
makes n l ps (line ∷ ls) m [] k h w d = absurd h
makes n l ps (line ∷ ls) m (r ∷ rs) k h w d =
    let at = length m.code in
    let next = made_behind ps m r.item in
    let ws = placed_words ps at (item_words r.item) in
    let j : at + length (item_words r.item) ≡ length (m.code ++ ws) = sym (length-append m.code ws ∙ ap (λ x. at + x) (length-placed_words ps (item_words r.item) at)) in
    let one : make_line l m line ≡ Ok next =
    ap (make_reading l m) h.0 ∙ item_made l ps r.item m k (WordsReach-front ps l.words (item_words r.item) (code_in rs) at w) d.0 in
    let w' : WordsReach ps l.words (length next.code) (code_in rs) =
    subst (λ x. WordsReach ps l.words x (code_in rs)) j (WordsReach-back ps l.words (item_words r.item) (code_in rs) at w) in
    line_made n l m next line ls one ∙ makes (n + 1) l ps ls next rs k h.1 w' d.1 ∙ ap Ok (made_on ps m r rs)
