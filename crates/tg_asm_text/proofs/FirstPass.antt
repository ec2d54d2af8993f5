-- The first pass lays readings out: what it knows of them after the last line.
use Rattle.std.specs.Prelude.{AllPairs, nat_le}
use Rattle.std.proofs.Common.{◌≡◌, ◌≢◌, ◌≤◌, ◌+◌, ℕ, true, false, Bool, List, [], ◌∷◌, ◌++◌, length, map, None, Result, Ok, Err, get_or, suc, le-leb}
use Rattle.std.proofs.Common.{refl, sym, ap, subst, ◌∙◌, arith, append_assoc, length-append}
use Rattle.std.specs.Str.{bytes_eq}
use Rattle.std.specs.List.{All}
use Rattle.std.proofs.lemmas.List.{append-nil, map-append, get_or_append_left}
use Rattle.std.proofs.Math.Seq.{get_or-append_seam}
use Rattle.std.proofs.lemmas.Slice.Eq.{bytes_eq-Decides}
use Rattle.tg_machine_state.specs.State.{most_words, most_bytes}
use Rattle.tg_asm_text.specs.declared.keywords.Segment.{Segment}
use Rattle.tg_asm_text.specs.declared.keywords.Segment.TheVariants.{Code, Statics}
use Rattle.tg_asm_text.specs.declared.keywords.AsmRule.{AsmRule}
use Rattle.tg_asm_text.specs.Items.{Item, Nothing, Section, Words, Data', widths}
use Rattle.tg_asm_text.specs.Assembly.{Reading, LabelTarget, InCode, InStatics, Layout, next_spot, spot_among, spot_of, add_label, add_labels, round_up}
use Rattle.tg_asm_text.specs.Assembly.{add_item, labelled_item, add_reading, add_line, Fault, layout}
use Rattle.tg_asm_text.specs.Placement.{segment_behind, Reads, item_words, code_in, byte_behind, last_byte, labels_in}

-- the items of the statics among readings: how many, and where each begins
abbrev pub item_starts : ℕ → Item → List ℕ
item_starts byte (Data' multiple ds) = round_up byte multiple ∷ []
item_starts byte i = []

abbrev pub starts_from : ℕ → List Reading → List ℕ
starts_from byte [] = []
starts_from byte (r ∷ rs) = item_starts byte r.item ++ starts_from (byte_behind byte r.item) rs

abbrev pub spot_next : Segment → (words items : ℕ) → LabelTarget
spot_next Code words items = InCode words
spot_next Statics words items = InStatics items

abbrev pub Entries : Type 0
Entries = List (List ℕ × LabelTarget)

abbrev pub named_so : LabelTarget → List (List ℕ) → Entries
named_so s names = map (λ name. (name, s)) names

abbrev pub spots_from : Segment → (words items : ℕ) → List Reading → Entries
spots_from segment words items [] = []
spots_from segment words items (r ∷ rs) =
    named_so (spot_next segment words items) r.labels
    ++ spots_from (segment_behind segment r.item) (words + length (item_words r.item)) (items + length (item_starts 0 r.item)) rs

abbrev pub segment_end : Segment → List Reading → Segment
segment_end segment [] = segment
segment_end segment (r ∷ rs) = segment_end (segment_behind segment r.item) rs

abbrev layout_with : Segment → ℕ → List ℕ → ℕ → Entries → Layout
layout_with segment words starts size labels = record { segment = segment; words = words; starts = starts; size = size; labels = labels }

abbrev pub laid : Layout → List Reading → Layout
laid l rs =
    layout_with (segment_end l.segment rs) (l.words + length (code_in rs)) (l.starts ++ starts_from l.size rs) (last_byte l.size rs)
    (l.labels ++ spots_from l.segment l.words (length l.starts) rs)

-- a layout after labels, and after an item
abbrev labelled_so : Layout → List (List ℕ) → Layout
labelled_so l names = record l { labels = l.labels ++ named_so (next_spot l l.segment) names }

abbrev behind : Layout → Item → Layout
behind l i =
    layout_with (segment_behind l.segment i) (l.words + length (item_words i)) (l.starts ++ item_starts l.size i) (byte_behind l.size i) l.labels

same_layout : (segment : Segment) (w w' : ℕ) (s s' : List ℕ) (z : ℕ) (e e' : Entries) → w ≡ w' → s ≡ s' → e ≡ e' →
    layout_with segment w s z e ≡ layout_with segment w' s' z e'
same_layout segment w w' s s' z e e' a b c = rw (a, b, c) refl

-- an item within the limits
item_added : (i : Item) (l : Layout) → l.words + length (item_words i) ≤ most_words → byte_behind l.size i ≤ most_bytes → add_item i l ≡ Ok (behind l i)
item_added Nothing l h k = ap Ok (same_layout l.segment l.words (l.words + 0) l.starts (l.starts ++ []) l.size l.labels
    l.labels (omega arith) (sym (append-nil l.starts)) refl)
item_added (Section s) l h k = ap Ok (same_layout s l.words (l.words + 0) l.starts (l.starts ++ []) l.size l.labels
    l.labels (omega arith) (sym (append-nil l.starts)) refl)
item_added (Words ws) l h k =
    let t : nat_le (l.words + length ws) most_words ≡ true = le-leb (l.words + length ws) most_words h in
    rw t (ap Ok (same_layout l.segment (l.words + length ws) (l.words + length ws) l.starts (l.starts ++ []) l.size
    l.labels l.labels refl (sym (append-nil l.starts)) refl))
item_added (Data' multiple ds) l h k =
    let t : nat_le (round_up l.size multiple + widths ds) most_bytes ≡ true = le-leb (round_up l.size multiple + widths ds) most_bytes k in
    rw t (ap Ok (same_layout l.segment l.words (l.words + 0) (l.starts ++ round_up l.size multiple ∷ [])
    (l.starts ++ round_up l.size multiple ∷ []) (round_up l.size multiple + widths ds) l.labels l.labels (omega arith) refl refl))

-- Labels that differ: none is found before it is given.
abbrev pub names_of : Entries → List (List ℕ)
names_of es = map (λ e. e.0) es

abbrev pub Differ : List (List ℕ) → Type 0
Differ names = AllPairs (λ a b. a ≢ b) names

other_name : (name other : List ℕ) → other ≢ name → bytes_eq name other ≡ false
other_name name other h = by (bytes_eq name other) refl
  where
    by : (b : Bool) → bytes_eq name other ≡ b → b ≡ false
    by true e = absurd (h (sym ((bytes_eq-Decides name other).0 e)))
    by false e = refl

not_found : (es : Entries) (name : List ℕ) → All (λ other. other ≢ name) (names_of es) → spot_among es name ≡ None
not_found [] name h = refl
not_found (e ∷ es) name h =
    rw (other_name name e.0 (h 0 name (omega arith))) (not_found es name (λ k d lt. h (suc k) d (omega (arith, lt))))

others_before : (front more : List (List ℕ)) (name : List ℕ) → Differ (front ++ name ∷ more) → All (λ other. other ≢ name) front
others_before front more name h k d lt =
    let n : length (front ++ name ∷ more) ≡ length front + length (name ∷ more) = length-append front (name ∷ more) in
    let p = h k (length front) d lt (omega (arith, n)) in
    let a = get_or_append_left front (name ∷ more) d k lt in
    let b = get_or-append_seam front name more d in
    subst (λ x. x ≢ name) a (subst (λ x. get_or (front ++ name ∷ more) k d ≢ x) b p)

-- labels that differ are all added
names-named_so : (s : LabelTarget) (names : List (List ℕ)) → names_of (named_so s names) ≡ names
names-named_so s [] = refl
names-named_so s (name ∷ names) = ap (λ l. name ∷ l) (names-named_so s names)

names-append : (es : Entries) (s : LabelTarget) (names : List (List ℕ)) → names_of (es ++ named_so s names) ≡ names_of es ++ names
names-append es s names = map-append (λ (e : List ℕ × LabelTarget). e.0) es (named_so s names) ∙ ap (λ l. names_of es ++ l) (names-named_so s names)

spot_same : (l : Layout) (es : Entries) (segment : Segment) → next_spot (record l { labels = es }) segment ≡ next_spot l segment
spot_same l es Code = refl
spot_same l es Statics = refl

added_new : (l : Layout) (name : List ℕ) (more : List (List ℕ)) → spot_of l name ≡ None → add_labels l (name ∷ more) ≡ add_labels (add_label l name) more
added_new l name more e = rw (e, add_labels) refl

with_entries : Layout → Entries → Result Layout AsmRule
with_entries l es = Ok (record l { labels = es })

labels_added : (names : List (List ℕ)) (l : Layout) (more : List (List ℕ)) → Differ (names_of l.labels ++ (names ++ more)) →
    add_labels l names ≡ Ok (labelled_so l names)
labels_added [] l more h = ap Ok (same_layout l.segment l.words l.words l.starts l.starts l.size l.labels (l.labels ++ [])
    refl refl (sym (append-nil l.labels)))
labels_added (name ∷ names) l more h =
    let s = next_spot l l.segment in
    let m = add_label l name in
    let d : Differ (names_of m.labels ++ (names ++ more)) =
    subst Differ (sym (ap (λ x. x ++ (names ++ more)) (names-append l.labels s (name ∷ [])) ∙ append_assoc (names_of l.labels) (name ∷ []) (names ++ more)))
    h in
    let e : m.labels ++ named_so (next_spot m m.segment) names ≡ l.labels ++ named_so s (name ∷ names) =
    ap (λ t. m.labels ++ named_so t names) (spot_same l m.labels l.segment) ∙ append_assoc l.labels ((name, s) ∷ []) (named_so s names) in
    added_new l name names (not_found l.labels name (others_before (names_of l.labels) (names ++ more) name h))
    ∙ labels_added names m more d
    ∙ ap Ok (same_layout l.segment l.words l.words l.starts l.starts l.size _ _ refl refl e)

-- the statics only grow
byte_grows : (i : Item) (b : ℕ) → b ≤ byte_behind b i
byte_grows Nothing b = omega arith
byte_grows (Section s) b = omega arith
byte_grows (Words ws) b = omega arith
byte_grows (Data' multiple ds) b = omega arith

pub bytes_grow : (rs : List Reading) (b : ℕ) → b ≤ last_byte b rs
bytes_grow [] b = omega arith
bytes_grow (r ∷ rs) b =
    let h = byte_grows r.item b in
    let k = bytes_grow rs (byte_behind b r.item) in
    omega (arith, h, k)

pub starts_alike : (i : Item) (b : ℕ) → length (item_starts b i) ≡ length (item_starts 0 i)
starts_alike Nothing b = refl
starts_alike (Section s) b = refl
starts_alike (Words ws) b = refl
starts_alike (Data' multiple ds) b = refl

spot_of_next : (l : Layout) (segment : Segment) → next_spot l segment ≡ spot_next segment l.words (length l.starts)
spot_of_next l Code = refl
spot_of_next l Statics = refl

-- one reading, and all of them
abbrev goes_on : ℕ → List (List ℕ) → Result Layout AsmRule → Result Layout Fault
goes_on n more (Ok l) = layout (n + 1) l more
goes_on n more (Err e) = Err (record { rule = e; line = n })

line_laid : (n : ℕ) (l m : Layout) (line : List ℕ) (more : List (List ℕ)) → add_line l line ≡ Ok m → layout n l (line ∷ more) ≡ layout (n + 1) m more
line_laid n l m line more e = rw (e, layout) refl

reading_laid : (l : Layout) (r : Reading) (more : List (List ℕ)) → Differ (names_of l.labels ++ (r.labels ++ more)) →
    l.words + length (item_words r.item) ≤ most_words → byte_behind l.size r.item ≤ most_bytes → add_reading l (Ok r) ≡
    Ok (behind (labelled_so l r.labels) r.item)
reading_laid l r more d h k =
    ap (labelled_item r.item) (labels_added r.labels l more d) ∙ item_added r.item (labelled_so l r.labels) h k

laid_on : (l : Layout) (r : Reading) (rs : List Reading) → laid (behind (labelled_so l r.labels) r.item) rs ≡ laid l (r ∷ rs)
laid_on l r rs =
    let s = segment_behind l.segment r.item in
    let w = l.words + length (item_words r.item) in
    let n : length (item_words r.item ++ code_in rs) ≡ length (item_words r.item) + length (code_in rs) = length-append (item_words r.item) (code_in rs) in
    let k : length (l.starts ++ item_starts l.size r.item) ≡ length l.starts + length (item_starts 0 r.item) =
    length-append l.starts (item_starts l.size r.item) ∙ ap (λ c. length l.starts + c) (starts_alike r.item l.size) in
    let front = named_so (next_spot l l.segment) r.labels in
    let e : (l.labels ++ front) ++ spots_from s w (length (l.starts ++ item_starts l.size r.item)) rs ≡ l.labels ++ spots_from l.segment l.words (length l.starts) (r ∷ rs) =
    append_assoc l.labels front (spots_from s w (length (l.starts ++ item_starts l.size r.item)) rs)
    ∙ ap (λ t. l.labels ++ (named_so t r.labels ++ spots_from s w (length (l.starts ++ item_starts l.size r.item)) rs)) (spot_of_next l l.segment)
    ∙ ap (λ t. l.labels ++ (named_so (spot_next l.segment l.words (length l.starts)) r.labels ++ spots_from s w t rs)) k in
    same_layout (segment_end s rs) (w + length (code_in rs)) (l.words + length (item_words r.item ++ code_in rs))
    ((l.starts ++ item_starts l.size r.item) ++ starts_from (byte_behind l.size r.item) rs) _ (last_byte (byte_behind l.size r.item) rs) _ _
    (omega (arith, n)) (append_assoc l.starts (item_starts l.size r.item) (starts_from (byte_behind l.size r.item) rs)) e

pub lays : (n : ℕ) (ls : List (List ℕ)) (l : Layout) (rs : List Reading) → Reads l.segment ls rs →
    Differ (names_of l.labels ++ labels_in rs) → l.words + length (code_in rs) ≤ most_words → last_byte l.size rs ≤ most_bytes → layout n l ls ≡ Ok (laid l rs)
lays n [] l [] h d w b = ap Ok (same_layout l.segment l.words (l.words + 0) l.starts (l.starts ++ []) l.size l.labels
    (l.labels ++ []) (omega arith) (sym (append-nil l.starts)) (sym (append-nil l.labels)))
lays n [] l (r ∷ rs) h d w b = absurd h
lays n (line ∷ ls) l [] h d w b = absurd h
lays n (line ∷ ls) l (r ∷ rs) h d w b =
    let m = behind (labelled_so l r.labels) r.item in
    let c : length (item_words r.item ++ code_in rs) ≡ length (item_words r.item) + length (code_in rs) = length-append (item_words r.item) (code_in rs) in
    let g = bytes_grow rs (byte_behind l.size r.item) in
    let one : add_line l line ≡ Ok m = ap (add_reading l) h.0 ∙ reading_laid l r (labels_in rs) d (omega (arith, c, w)) (omega (arith, g, b)) in
    let d' : Differ (names_of m.labels ++ labels_in rs) =
    subst Differ (sym (ap (λ x. x ++ labels_in rs) (names-append l.labels (next_spot l l.segment) r.labels)
    ∙ append_assoc (names_of l.labels) r.labels (labels_in rs))) d in
    line_laid n l m line ls one ∙ lays (n + 1) ls m rs h.1 d' (omega (arith, c, w)) b ∙ ap Ok (laid_on l r rs)
