-- What the passes find of a label is where it stands.
use Rattle.std.specs.Prelude.{IsSome, if◌then◌else◌}
use Rattle.std.proofs.Common.{◌≡◌, ◌≤◌, ◌+◌, ℕ, true, false, Bool, List, [], ◌∷◌, ◌++◌, length, map, Option, Some, None, Ok, get_or, refl, sym, ap}
use Rattle.std.proofs.Common.{subst, ◌∙◌, arith, append_assoc, length-append}
use Rattle.std.specs.Str.{bytes_eq}
use Rattle.std.proofs.lemmas.List.{map-append, get_or-append-add}
use Rattle.tg_machine_state.specs.State.{most_words, most_bytes}
use Rattle.tg_asm_text.specs.declared.keywords.Segment.{Segment}
use Rattle.tg_asm_text.specs.declared.keywords.Segment.TheVariants.{Code, Statics}
use Rattle.tg_asm_text.specs.Items.{Item, Nothing, Section, Words, Data', widths}
use Rattle.tg_asm_text.specs.Assembly.{Reading, LabelTarget, InCode, InStatics, Layout, spot_among, spot_of, target_address, label_address, round_up}
use Rattle.tg_asm_text.specs.Placement.{segment_behind, item_words, code_in, byte_behind, last_byte, begins_at, next_byte, Position, AtWord, AtByte}
use Rattle.tg_asm_text.specs.Placement.{address_at, next_position, Positions, positions_from, position_of, found_address}
use Rattle.tg_asm_text.proofs.FirstPass.{item_starts, starts_from, spot_next, Entries, named_so, spots_from, starts_alike, bytes_grow}

-- the position of a spot
abbrev pub resolved : (starts : List ℕ) (size : ℕ) → LabelTarget → Position
resolved starts size (InCode n) = AtWord n
resolved starts size (InStatics k) = AtByte (get_or starts k size)

abbrev pub resolved_all : (starts : List ℕ) (size : ℕ) → Entries → Positions
resolved_all starts size es = map (λ e. (e.0, resolved starts size e.1)) es

abbrev pub found_so : (starts : List ℕ) (size : ℕ) → Option LabelTarget → Option Position
found_so starts size (Some s) = Some (resolved starts size s)
found_so starts size None = None

pub found_resolved : (starts : List ℕ) (size : ℕ) (es : Entries) (name : List ℕ) → position_of (resolved_all starts size es) name ≡
    found_so starts size (spot_among es name)
found_resolved starts size [] name = refl
found_resolved starts size (e ∷ es) name = by (bytes_eq name e.0) refl (found_resolved starts size es name)
  where
    by : (b : Bool) → bytes_eq name e.0 ≡ b → position_of (resolved_all starts size es) name ≡ found_so starts size (spot_among es name) →
        position_of (resolved_all starts size (e ∷ es)) name ≡ found_so starts size (spot_among (e ∷ es) name)
    by true k h = rw k refl
    by false k h = rw k h

-- the first item of the statics begins at the next byte
first_start : (rs : List Reading) (b : ℕ) → get_or (starts_from b rs) 0 (last_byte b rs) ≡ next_byte b rs
first_start [] b = refl
first_start (r ∷ rs) b = by r.item (first_start rs b)
  where
    by : (i : Item) → get_or (starts_from b rs) 0 (last_byte b rs) ≡ next_byte b rs →
        get_or (item_starts b i ++ starts_from (byte_behind b i) rs) 0 (last_byte (byte_behind b i) rs) ≡ begins_at b i (next_byte b rs)
    by Nothing h = h
    by (Section s) h = h
    by (Words ws) h = h
    by (Data' multiple ds) h = refl

next_start : (front : List ℕ) (rs : List Reading) (b : ℕ) → get_or (front ++ starts_from b rs) (length front) (last_byte b rs) ≡ next_byte b rs
next_start front rs b =
    let z : length front ≡ length front + 0 = omega arith in
    ap (λ k. get_or (front ++ starts_from b rs) k (last_byte b rs)) z
    ∙ get_or-append-add front (starts_from b rs) 0 (last_byte b rs) ∙ first_start rs b

next_resolved : (segment : Segment) (w : ℕ) (front : List ℕ) (rs : List Reading) (b : ℕ) →
    resolved (front ++ starts_from b rs) (last_byte b rs) (spot_next segment w (length front)) ≡ next_position segment w b rs
next_resolved Code w front rs b = refl
next_resolved Statics w front rs b = ap AtByte (next_start front rs b)

named_resolved : (starts : List ℕ) (size : ℕ) (s : LabelTarget) (names : List (List ℕ)) →
    resolved_all starts size (named_so s names) ≡ map (λ name. (name, resolved starts size s)) names
named_resolved starts size s [] = refl
named_resolved starts size s (name ∷ names) = ap (λ l. (name, resolved starts size s) ∷ l) (named_resolved starts size s names)

appended : (a b c d : Positions) → a ≡ b → c ≡ d → a ++ c ≡ b ++ d
appended a b c d h k = rw (h, k) refl

pub resolves : (rs : List Reading) (segment : Segment) (w : ℕ) (front : List ℕ) (b : ℕ) →
    resolved_all (front ++ starts_from b rs) (last_byte b rs) (spots_from segment w (length front) rs) ≡ positions_from segment w b rs
resolves [] segment w front b = refl
resolves (r ∷ rs) segment w front b =
    let starts = front ++ starts_from b (r ∷ rs) in
    let size = last_byte b (r ∷ rs) in
    let s = segment_behind segment r.item in
    let w' = w + length (item_words r.item) in
    let b' = byte_behind b r.item in
    let front' = front ++ item_starts b r.item in
    let k : length front + length (item_starts 0 r.item) ≡ length front' =
    ap (λ n. length front + n) (sym (starts_alike r.item b)) ∙ sym (length-append front (item_starts b r.item)) in
    let same : starts ≡ front' ++ starts_from b' rs = sym (append_assoc front (item_starts b r.item) (starts_from b' rs)) in
    let here : resolved_all starts size (named_so (spot_next segment w (length front)) r.labels) ≡ map (λ name. (name, next_position segment w b (r ∷ rs))) r.labels =
    named_resolved starts size (spot_next segment w (length front)) r.labels
    ∙ ap (λ p. map (λ name. (name, p)) r.labels) (next_resolved segment w front (r ∷ rs) b) in
    let there : resolved_all starts size (spots_from s w' (length front + length (item_starts 0 r.item)) rs) ≡ positions_from s w' b' rs =
    ap (λ n. resolved_all starts size (spots_from s w' n rs)) k
    ∙ ap (λ t. resolved_all t size (spots_from s w' (length front') rs)) same
    ∙ resolves rs s w' front' b' in
    map-append (λ (e : List ℕ × LabelTarget). (e.0, resolved starts size e.1)) (named_so (spot_next segment w (length front)) r.labels)
    (spots_from s w' (length front + length (item_starts 0 r.item)) rs)
    ∙ appended _ _ _ _ here there

-- every position is within the segments
abbrev pub Within : (words bytes : ℕ) → Position → Type 0
Within words bytes (AtWord n) = n ≤ words
Within words bytes (AtByte n) = n ≤ bytes

abbrev FoundWithin : (words bytes : ℕ) → Option Position → Type 0
FoundWithin words bytes (Some p) = Within words bytes p
FoundWithin words bytes None = Unit {0}

next_grows : (rs : List Reading) (b : ℕ) → next_byte b rs ≤ last_byte b rs
next_grows [] b = omega arith
next_grows (r ∷ rs) b = by r.item (next_grows rs b)
  where
    by : (i : Item) → next_byte b rs ≤ last_byte b rs → begins_at b i (next_byte b rs) ≤ last_byte (byte_behind b i) rs
    by Nothing n = n
    by (Section s) n = n
    by (Words ws) n = n
    by (Data' multiple ds) n = let h = bytes_grow rs (round_up b multiple + widths ds) in omega (arith, h)

next_within : (segment : Segment) (w b words bytes : ℕ) (rs : List Reading) → w ≤ words → last_byte b rs ≤ bytes →
    Within words bytes (next_position segment w b rs)
next_within Code w b words bytes rs h k = h
next_within Statics w b words bytes rs h k = let g = next_grows rs b in omega (arith, g, k)

found_after : (words bytes : ℕ) (p : Position) (names : List (List ℕ)) (ps : Positions) (name : List ℕ) → Within words bytes p →
    FoundWithin words bytes (position_of ps name) → FoundWithin words bytes (position_of (map (λ n. (n, p)) names ++ ps) name)
found_after words bytes p [] ps name h k = k
found_after words bytes p (n ∷ names) ps name h k = by (bytes_eq name n) (found_after words bytes p names ps name h k)
  where
    by : (t : Bool) → FoundWithin words bytes (position_of (map (λ m. (m, p)) names ++ ps) name) →
        FoundWithin words bytes (if t then Some p else position_of (map (λ m. (m, p)) names ++ ps) name)
    by true ih = h
    by false ih = ih

found_within : (rs : List Reading) (segment : Segment) (w b words bytes : ℕ) (name : List ℕ) → w + length (code_in rs) ≤ words →
    last_byte b rs ≤ bytes → FoundWithin words bytes (position_of (positions_from segment w b rs) name)
found_within [] segment w b words bytes name h k = tt
found_within (r ∷ rs) segment w b words bytes name h k =
    let n : length (item_words r.item ++ code_in rs) ≡ length (item_words r.item) + length (code_in rs) = length-append (item_words r.item) (code_in rs) in
    found_after words bytes (next_position segment w b (r ∷ rs)) r.labels (positions_from (segment_behind segment r.item)
    (w + length (item_words r.item)) (byte_behind b r.item) rs) name
    (next_within segment w b words bytes (r ∷ rs) (omega (arith, h)) k)
    (found_within rs (segment_behind segment r.item) (w + length (item_words r.item)) (byte_behind b r.item) words bytes name (omega (arith, h, n)) k)

-- A layout knows of each label where it stands.
pub record Knows (l : Layout) (ps : Positions) : Type 0 where
  pub spots : (name : List ℕ) → position_of ps name ≡ found_so l.starts l.size (spot_of l name)
  pub within : (name : List ℕ) (p : Position) → position_of ps name ≡ Some p → Within most_words most_bytes p

pub is_within : (rs : List Reading) (name : List ℕ) (p : Position) → length (code_in rs) ≤ most_words →
    last_byte 0 rs ≤ most_bytes → position_of (positions_from Code 0 0 rs) name ≡ Some p → Within most_words most_bytes p
is_within rs name p h k e = subst (FoundWithin most_words most_bytes) e (found_within rs Code 0 0 most_words most_bytes name (omega (arith, h)) k)

address_same : (l : Layout) (s : LabelTarget) → Within most_words most_bytes (resolved l.starts l.size s) →
    target_address l s ≡ address_at (resolved l.starts l.size s)
address_same l (InCode n) h = omega (arith, h)
address_same l (InStatics k) h = omega (arith, h)

pub address_known : (l : Layout) (ps : Positions) (name : List ℕ) → Knows l ps → IsSome (position_of ps name) →
    label_address l (spot_of l name) ≡ Ok (found_address (position_of ps name))
address_known l ps name k h = by (spot_of l name) (k.spots name)
  where
    by : (o : Option LabelTarget) → position_of ps name ≡ found_so l.starts l.size o → label_address l o ≡ Ok (found_address (position_of ps name))
    by (Some s) e = ap Ok (address_same l s (k.within name (resolved l.starts l.size s) e)) ∙ ap (λ o. Ok (found_address o)) (sym e)
    by None e = let n = rw e at h in cc
