-- The two passes over the same lines agree on what there is of code and statics.
use Rattle.std.proofs.Common.{◌≡◌, ◌+◌, ◌-◌, ℕ, suc, List, [], ◌∷◌, ◌++◌, length, replicate, Bool, true, false, Result, Ok, Err, Option, Some, None}
use Rattle.std.proofs.Common.{refl, sym, ap, ◌∙◌, arith, length-append}
use Rattle.std.specs.Prelude.{nat_le}
use Rattle.std.proofs.lemmas.List.{length-replicate}
use Rattle.tg_asm_text.specs.declared.keywords.AsmRule.{AsmRule}
use Rattle.tg_asm_text.specs.Lines.{lines}
use Rattle.tg_asm_text.specs.Items.{Item, Nothing, Section, Words, Data', Coded, Datum, Value, AddressOfLabel, Single, Bytes, Zeros, width, widths}
use Rattle.tg_machine_state.specs.State.{most_words, most_bytes}
use Rattle.tg_asm_text.specs.Assembly.{Layout, LabelTarget, Reading, Made, blank, unmade, spot_of, add_label, add_new, add_one, add_labels, add_words}
use Rattle.tg_asm_text.specs.Assembly.{add_data, add_item, add_reading, add_line, layout, round_up, word, make_words, label_address, datum_bytes, place_bytes}
use Rattle.tg_asm_text.specs.Assembly.{make_data, pad, make_item, make_reading, make_line, make, reading}

-- the segment is the same, and there are as many words and bytes
pub record Even (l : Layout) (m : Made) : Type 0 where
  pub segment : m.segment ≡ l.segment
  pub words : length m.code ≡ l.words
  pub size : length m.statics ≡ l.size

-- labels change none of that
pub record Alike (l k : Layout) : Type 0 where
  pub segment : l.segment ≡ k.segment
  pub words : l.words ≡ k.words
  pub size : l.size ≡ k.size

new_alike : (l k : Layout) (name : List ℕ) (s : Option LabelTarget) → add_new l name s ≡ Ok k → Alike l k
new_alike l k name (Some s) e = cc
new_alike l k name None e =
    let same : add_label l name ≡ k = cc in
    record { segment = ap (λ j. j.segment) same; words = ap (λ j. j.words) same; size = ap (λ j. j.size) same }

labels_alike : (names : List (List ℕ)) (l k : Layout) → add_labels l names ≡ Ok k → Alike l k
labels_alike [] l k e =
    let same : l ≡ k = cc in
    record { segment = ap (λ j. j.segment) same; words = ap (λ j. j.words) same; size = ap (λ j. j.size) same }
labels_alike (name ∷ names) l k e = by (add_one l name) refl (λ j. labels_alike names j k)
  where
    by : (r : Result Layout AsmRule) → add_one l name ≡ r → ((j : Layout) → add_labels j names ≡ Ok k → Alike j k) → Alike l k
    by (Ok j) h ih =
        let a = new_alike l j name (spot_of l name) h in
        let b = ih j (rw (h, add_labels) at e) in
        record { segment = a.segment ∙ b.segment; words = a.words ∙ b.words; size = a.size ∙ b.size }
    by (Err r) h ih = let o = rw (h, add_labels) at e in cc

-- words
pub record Coding (m k : Made) (n : ℕ) : Type 0 where
  pub segment : k.segment ≡ m.segment
  pub code : length k.code ≡ length m.code + n
  pub statics : k.statics ≡ m.statics

coding : (l : Layout) (ws : List Coded) (m k : Made) → make_words l m ws ≡ Ok k → Coding m k (length ws)
coding l [] m k e =
    let same : m ≡ k = cc in
    record { segment = sym (ap (λ j. j.segment) same); code = rw (← same) (omega arith); statics = sym (ap (λ j. j.statics) same) }
coding l (c ∷ cs) m k e = by (word l (length m.code) c) refl (λ j. coding l cs j k)
  where
    by : (w : Result ℕ AsmRule) → word l (length m.code) c ≡ w → ((j : Made) → make_words l j cs ≡ Ok k → Coding j k (length cs)) → Coding m k (suc (length cs))
    by (Ok w) h ih =
        let b = ih (record m { code = m.code ++ w ∷ [] }) (rw (h, make_words) at e) in
        let n : length (m.code ++ w ∷ []) ≡ length m.code + 1 = length-append m.code (w ∷ []) in
        let d = b.code in
        record { segment = b.segment; code = omega (arith, n, d); statics = b.statics }
    by (Err r) h ih = let o = rw (h, make_words) at e in cc

-- data
pub record Storing (m k : Made) (n : ℕ) : Type 0 where
  pub segment : k.segment ≡ m.segment
  pub code : k.code ≡ m.code
  pub statics : length k.statics ≡ length m.statics + n

abbrev bytes_in : Result (List ℕ) AsmRule → List ℕ
bytes_in (Ok b) = b
bytes_in (Err r) = []

same_bytes : (a b : List ℕ) → ◌≡◌ {A = Result (List ℕ) AsmRule} (Ok a) (Ok b) → length b ≡ length a
same_bytes a b e = ap length (sym (ap bytes_in e))

place_wide : (r : Result ℕ AsmRule) (b : List ℕ) → place_bytes r ≡ Ok b → length b ≡ 4
place_wide (Ok p) b e = same_bytes _ b e
place_wide (Err q) b e = cc

datum_wide : (l : Layout) (d : Datum) (b : List ℕ) → datum_bytes l d ≡ Ok b → length b ≡ width d
datum_wide l (Value n) b e = same_bytes _ b e
datum_wide l (AddressOfLabel label) b e = place_wide (label_address l (spot_of l label)) b e
datum_wide l (Single n) b e = same_bytes _ b e
datum_wide l (Bytes bytes) b e = same_bytes _ b e
datum_wide l (Zeros n) b e = same_bytes _ b e ∙ length-replicate n 0

storing : (l : Layout) (ds : List Datum) (m k : Made) → make_data l m ds ≡ Ok k → Storing m k (widths ds)
storing l [] m k e =
    let same : m ≡ k = cc in
    record { segment = sym (ap (λ j. j.segment) same); code = sym (ap (λ j. j.code) same); statics = rw (← same) (omega arith) }
storing l (d ∷ ds) m k e = by (datum_bytes l d) refl (λ j. storing l ds j k)
  where
    by : (b : Result (List ℕ) AsmRule) → datum_bytes l d ≡ b → ((j : Made) → make_data l j ds ≡ Ok k → Storing j k (widths ds)) →
        Storing m k (width d + widths ds)
    by (Ok b) h ih =
        let s = ih (record m { statics = m.statics ++ b }) (rw (h, make_data) at e) in
        let n : length (m.statics ++ b) ≡ length m.statics + length b = length-append m.statics b in
        let w = datum_wide l d b h in
        let t = s.statics in
        record { segment = s.segment; code = s.code; statics = omega (arith, n, w, t) }
    by (Err r) h ih = let o = rw (h, make_data) at e in cc

-- a layout that has grown by words or data
words_added : (l k : Layout) (n : ℕ) → add_words l n ≡ Ok k → record l { words = l.words + n } ≡ k
words_added l k n e = by (nat_le (l.words + n) most_words) refl
  where
    by : (b : Bool) → nat_le (l.words + n) most_words ≡ b → record l { words = l.words + n } ≡ k
    by true h = let o = rw h at e in cc
    by false h = let o = rw h at e in cc

data_added : (l k : Layout) (start size : ℕ) → add_data l start size ≡ Ok k → record l { starts = l.starts ++ start ∷ []; size = start + size } ≡ k
data_added l k start size e = by (nat_le (start + size) most_bytes) refl
  where
    by : (b : Bool) → nat_le (start + size) most_bytes ≡ b → record l { starts = l.starts ++ start ∷ []; size = start + size } ≡ k
    by true h = let o = rw h at e in cc
    by false h = let o = rw h at e in cc

padded : (m : Made) (multiple : ℕ) → length (pad m multiple).statics ≡ round_up (length m.statics) multiple
padded m multiple =
    let n : length (pad m multiple).statics ≡ length m.statics + length (replicate (round_up (length m.statics) multiple - length m.statics) 0) = length-append m.statics _ in
    let r = length-replicate {A = ℕ} (round_up (length m.statics) multiple - length m.statics) 0 in
    omega (arith, n, r)

-- an item
item_even : (i : Item) (l k c : Layout) (m j : Made) → Even l m → add_item i l ≡ Ok k → make_item c m i ≡ Ok j → Even k j
item_even Nothing l k c m j v a b =
    let e : l ≡ k = cc in
    let f : m ≡ j = cc in
    rw (← e) (rw (← f) v)
item_even (Section s) l k c m j v a b =
    let e : record l { segment = s } ≡ k = cc in
    let f : record m { segment = s } ≡ j = cc in
    rw (← e) (rw (← f) (record { segment = refl; words = v.words; size = v.size }))
item_even (Words ws) l k c m j v a b =
    let e = words_added l k (length ws) a in
    let f = coding c ws m j b in
    let g = f.code in
    let w = v.words in
    rw (← e) (record { segment = f.segment ∙ v.segment; words = omega (arith, g, w); size = ap length f.statics ∙ v.size })
item_even (Data' multiple ds) l k c m j v a b =
    let e = data_added l k (round_up l.size multiple) (widths ds) a in
    let f = storing c ds (pad m multiple) j b in
    let p : length (pad m multiple).statics ≡ round_up l.size multiple = padded m multiple ∙ ap (λ n. round_up n multiple) v.size in
    rw (← e) (record { segment = f.segment ∙ v.segment; words = ap length f.code ∙ v.words; size = f.statics ∙ ap (λ n. n + widths ds) p })

-- a line
reading_even : (r : Result Reading AsmRule) (l k c : Layout) (m j : Made) → Even l m → add_reading l r ≡ Ok k → make_reading c m r ≡ Ok j → Even k j
reading_even (Ok r) l k c m j v a b = by (add_labels l r.labels) refl
  where
    by : (w : Result Layout AsmRule) → add_labels l r.labels ≡ w → Even k j
    by (Ok i) h =
        let s = labels_alike r.labels l i h in
        item_even r.item i k c m j (record { segment = v.segment ∙ s.segment; words = v.words ∙ s.words; size = v.size ∙ s.size }) (rw h at a) b
    by (Err q) h = let o = rw h at a in cc
reading_even (Err q) l k c m j v a b = cc

line_even : (line : List ℕ) (l k c : Layout) (m j : Made) → Even l m → add_line l line ≡ Ok k → make_line c m line ≡ Ok j → Even k j
line_even line l k c m j v a b = reading_even (reading l.segment line) l k c m j v a (sym (ap (λ s. make_reading c m (reading s line)) v.segment) ∙ b)

-- all lines
lines_even : (ls : List (List ℕ)) (n : ℕ) (l k c : Layout) (m j : Made) → Even l m → layout n l ls ≡ Ok k → make n c m ls ≡ Ok j → Even k j
lines_even [] n l k c m j v a b =
    let e : l ≡ k = cc in
    let f : m ≡ j = cc in
    rw (← e) (rw (← f) v)
lines_even (line ∷ ls) n l k c m j v a b = by (add_line l line) (make_line c m line) refl refl (λ x y. lines_even ls (n + 1) x k c y j)
  where
    by : (p : Result Layout AsmRule) (q : Result Made AsmRule) → add_line l line ≡ p → make_line c m line ≡ q →
        ((x : Layout) (y : Made) → Even x y → layout (n + 1) x ls ≡ Ok k → make (n + 1) c y ls ≡ Ok j → Even k j) → Even k j
    by (Ok x) (Ok y) g h ih = ih x y (line_even line l x c m y v g h) (rw (g, layout) at a) (rw (h, make) at b)
    by (Err r) q g h ih = let o = rw (g, layout) at a in cc
    by (Ok x) (Err r) g h ih = let o = rw (h, make) at b in cc

pub made_even : (text : List ℕ) (l : Layout) (m : Made) → layout 1 blank (lines text) ≡ Ok l → make 1 l unmade (lines text) ≡ Ok m → Even l m
made_even text l m a b = lines_even (lines text) 1 blank l l unmade m (record { segment = refl; words = refl; size = refl }) a b
