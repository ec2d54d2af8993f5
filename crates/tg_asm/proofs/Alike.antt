-- The second pass asks a layout only for places: of layouts that are alike it makes the same.
use Rattle.std.proofs.Common.{◌≡◌, ◌+◌, ℕ, List, [], ◌∷◌, ◌++◌, length, Option, Some, None, Result, Ok, Err, refl, ap, ◌∙◌}
use Rattle.std.specs.Prelude.{codes, slice_index_or}
use Rattle.tg_machine_state.specs.State.{statics_base}
use Rattle.tg_base.specs.Words.{add}
use Rattle.tg_isa.specs.declared.mips.Mips.{Mips}
use Rattle.tg_asm_text.specs.declared.keywords.AsmRule.{AsmRule}
use Rattle.tg_asm_text.specs.Items as items
use Rattle.tg_asm_text.specs.Assembly.{Layout, LabelTarget, InCode, InStatics, Reading, Made, target_address, label_address, spot_of, jump_to, branch_to, upper}
use Rattle.tg_asm_text.specs.Assembly.{lower, word, place_bytes, datum_bytes, make_words, make_data, pad, make_item, make_reading, make_line, make, reading}
use Rattle.tg_asm_text.specs.Assembly.{entry_point, entry_at}
use Rattle.tg_asm.specs.glue.Layouts.{IsAlike}

same_address : (m l : Layout) → IsAlike m l → (s : LabelTarget) → target_address m s ≡ target_address l s
same_address m l a (InCode i) = refl
same_address m l a (InStatics k) = ap (λ n. add statics_base (slice_index_or m.starts k n)) a.size ∙ ap (λ ns. add statics_base (slice_index_or ns k l.size)) a.starts

same_place : (m l : Layout) → IsAlike m l → (s : Option LabelTarget) → label_address m s ≡ label_address l s
same_place m l a (Some s) = ap Ok (same_address m l a s)
same_place m l a None = refl

place_alike : (m l : Layout) → IsAlike m l → (name : List ℕ) → label_address m (spot_of m name) ≡ label_address l (spot_of l name)
place_alike m l a name = same_place m l a (spot_of m name) ∙ ap (label_address l) (a.spots name)

same_jump : (m l : Layout) → IsAlike m l → (one : Mips) (s : Option LabelTarget) → jump_to m one s ≡ jump_to l one s
same_jump m l a one (Some (InCode to)) = let w = a.words in rw w refl
same_jump m l a one (Some (InStatics k)) = refl
same_jump m l a one None = refl

word_alike : (m l : Layout) → IsAlike m l → (at : ℕ) (c : items.Coded) → word m at c ≡ word l at c
word_alike m l a at (items.Fixed one) = refl
word_alike m l a at (items.Branch one label) = ap (branch_to one at) (a.spots label)
word_alike m l a at (items.Jump one label) = same_jump m l a one (spot_of m label) ∙ ap (jump_to l one) (a.spots label)
word_alike m l a at (items.Upper r label) = ap (upper r) (place_alike m l a label)
word_alike m l a at (items.Lower r label) = ap (lower r) (place_alike m l a label)

bytes_alike : (m l : Layout) → IsAlike m l → (d : items.Datum) → datum_bytes m d ≡ datum_bytes l d
bytes_alike m l a (items.Value n) = refl
bytes_alike m l a (items.AddressOfLabel label) = ap place_bytes (place_alike m l a label)
bytes_alike m l a (items.Single n) = refl
bytes_alike m l a (items.Bytes bytes) = refl
bytes_alike m l a (items.Zeros n) = refl

words_alike : (m l : Layout) → IsAlike m l → (cs : List items.Coded) (d : Made) → make_words m d cs ≡ make_words l d cs
words_alike m l a [] d = refl
words_alike m l a (c ∷ cs) d = by (word l (length d.code) c) refl (words_alike m l a cs)
  where
    by : (r : Result ℕ AsmRule) → word l (length d.code) c ≡ r → ((e : Made) → make_words m e cs ≡ make_words l e cs) → make_words m d (c ∷ cs) ≡ make_words l d (c ∷ cs)
    by (Ok w) e ih = let f = word_alike m l a (length d.code) c ∙ e in rw (f, e, make_words) (ih (record d { code = d.code ++ w ∷ [] }))
    by (Err r) e ih = let f = word_alike m l a (length d.code) c ∙ e in rw (f, e, make_words) refl

data_alike : (m l : Layout) → IsAlike m l → (ds : List items.Datum) (d : Made) → make_data m d ds ≡ make_data l d ds
data_alike m l a [] d = refl
data_alike m l a (x ∷ ds) d = by (datum_bytes l x) refl (data_alike m l a ds)
  where
    by : (r : Result (List ℕ) AsmRule) → datum_bytes l x ≡ r → ((e : Made) → make_data m e ds ≡ make_data l e ds) → make_data m d (x ∷ ds) ≡ make_data l d (x ∷ ds)
    by (Ok bytes) e ih = let f = bytes_alike m l a x ∙ e in rw (f, e, make_data) (ih (record d { statics = d.statics ++ bytes }))
    by (Err r) e ih = let f = bytes_alike m l a x ∙ e in rw (f, e, make_data) refl

item_alike : (m l : Layout) → IsAlike m l → (d : Made) (i : items.Item) → make_item m d i ≡ make_item l d i
item_alike m l a d items.Nothing = refl
item_alike m l a d (items.Section segment) = refl
item_alike m l a d (items.Words cs) = words_alike m l a cs d
item_alike m l a d (items.Data' multiple ds) = data_alike m l a ds (pad d multiple)

reading_alike : (m l : Layout) → IsAlike m l → (d : Made) (r : Result Reading AsmRule) → make_reading m d r ≡ make_reading l d r
reading_alike m l a d (Ok r) = item_alike m l a d r.item
reading_alike m l a d (Err e) = refl

pub make_alike : (m l : Layout) → IsAlike m l → (n : ℕ) (d : Made) (lines : List (List ℕ)) → make n m d lines ≡ make n l d lines
make_alike m l a n d [] = refl
make_alike m l a n d (line ∷ more) = by (make_line l d line) refl (λ e. make_alike m l a (n + 1) e more)
  where
    by : (r : Result Made AsmRule) → make_line l d line ≡ r → ((e : Made) → make (n + 1) m e more ≡ make (n + 1) l e more) →
        make n m d (line ∷ more) ≡ make n l d (line ∷ more)
    by (Ok k) e ih = let f = reading_alike m l a d (reading d.segment line) ∙ e in rw (f, e, make) (ih k)
    by (Err r) e ih = let f = reading_alike m l a d (reading d.segment line) ∙ e in rw (f, e, make) refl

same_entry : (m l : Layout) → IsAlike m l → (s : Option LabelTarget) → entry_at m s ≡ entry_at l s
same_entry m l a (Some (InCode i)) = let w = a.words in rw w refl
same_entry m l a (Some (InStatics k)) = refl
same_entry m l a None = refl

pub entry_alike : (m l : Layout) → IsAlike m l → entry_point m ≡ entry_point l
entry_alike m l a = same_entry m l a (spot_of m (codes "main")) ∙ ap (entry_at l) (a.spots (codes "main"))
