-- Words and data are made one by one.
use Rattle.std.proofs.Common.{◌≡◌, ◌<◌, ◌≤◌, ◌+◌, ◌-◌, ◌%◌, ℕ, suc, List, [], ◌∷◌, ◌++◌, length, map, drop, get_or, Result, Ok, Err, refl, ap, ◌∙◌}
use Rattle.std.proofs.Common.{arith, drop-cons, add-one}
use Rattle.std.proofs.lemmas.List.{drop_all}
use Rattle.tg_asm_text.specs.declared.keywords.AsmRule.{AsmRule}
use Rattle.tg_asm_text.specs.Items as items
use Rattle.tg_asm_text.specs.Assembly.{Layout, Made, make_words, make_data, word, datum_bytes, round_up}
use Rattle.tg_asm_text.specs.declared.keywords.Keyword.{Keyword}
use Rattle.tg_asm.specs.glue.Cuts.{operand_of}
use Rattle.tg_asm.specs.glue.Means.{Leaves, datum_stored}
use Rattle.tg_asm.specs.declared.faults.Refused.{Refused}
use Rattle.tg_asm.specs.declared.faults.Refused.TheVariants as refused
use Rattle.tg_asm.specs.declared.cuts.Operand.{Operand}

-- words after one word
pub word_made : (l : Layout) (m k : Made) (c : items.Coded) (cs : List items.Coded) → make_words l m (c ∷ []) ≡ Ok k →
    make_words l m (c ∷ cs) ≡ make_words l k cs
word_made l m k c cs e = by (word l (length m.code) c) refl
  where
    by : (w : Result ℕ AsmRule) → word l (length m.code) c ≡ w → make_words l m (c ∷ cs) ≡ make_words l k cs
    by (Ok w) h =
        let o = rw (h, make_words) at e in
        let same : record m { code = m.code ++ w ∷ [] } ≡ k = cc in
        rw (h, make_words) (ap (λ j. make_words l j cs) same)
    by (Err r) h = let o = rw (h, make_words) at e in cc

pub word_bad : (l : Layout) (m : Made) (c : items.Coded) (cs : List items.Coded) (r : AsmRule) → make_words l m (c ∷ []) ≡ Err r →
    make_words l m (c ∷ cs) ≡ Err r
word_bad l m c cs r e = by (word l (length m.code) c) refl
  where
    by : (w : Result ℕ AsmRule) → word l (length m.code) c ≡ w → make_words l m (c ∷ cs) ≡ Err r
    by (Ok w) h = let o = rw (h, make_words) at e in cc
    by (Err q) h = let o = rw (h, make_words) at e in rw (h, make_words) o

-- data after one datum
datum_made : (l : Layout) (m k : Made) (d : items.Datum) (ds : List items.Datum) → make_data l m (d ∷ []) ≡ Ok k → make_data l m (d ∷ ds) ≡ make_data l k ds
datum_made l m k d ds e = by (datum_bytes l d) refl
  where
    by : (b : Result (List ℕ) AsmRule) → datum_bytes l d ≡ b → make_data l m (d ∷ ds) ≡ make_data l k ds
    by (Ok b) h =
        let o = rw (h, make_data) at e in
        let same : record m { statics = m.statics ++ b } ≡ k = cc in
        rw (h, make_data) (ap (λ j. make_data l j ds) same)
    by (Err r) h = let o = rw (h, make_data) at e in cc

datum_bad : (l : Layout) (m : Made) (d : items.Datum) (ds : List items.Datum) (r : AsmRule) → make_data l m (d ∷ []) ≡ Err r → make_data l m (d ∷ ds) ≡ Err r
datum_bad l m d ds r e = by (datum_bytes l d) refl
  where
    by : (b : Result (List ℕ) AsmRule) → datum_bytes l d ≡ b → make_data l m (d ∷ ds) ≡ Err r
    by (Ok b) h = let o = rw (h, make_data) at e in cc
    by (Err q) h = let o = rw (h, make_data) at e in rw (h, make_data) o

pub record InMakingData (l : Layout) (first : Made) (k : Keyword) (os : List Operand) (m : Made) (at : ℕ) : Type 0 where
  pub same : make_data l first (map (datum_stored k) (map operand_of os)) ≡ make_data l m (map (datum_stored k) (map operand_of (drop at os)))

next_datum : (l : Layout) (first : Made) (k : Keyword) (os : List Operand) (m : Made) (at : ℕ) (z : Operand) → InMakingData l first k os m at →
    at < length os → make_data l first (map (datum_stored k) (map operand_of os)) ≡
    make_data l m (datum_stored k (operand_of (get_or os at z)) ∷ map (datum_stored k) (map operand_of (drop (suc at) os)))
next_datum l first k os m at z s h = s.same ∙ ap (λ o. make_data l m (map (datum_stored k) (map operand_of o))) (drop-cons os at z h)

pub data_made : (l : Layout) (first : Made) (k : Keyword) (os : List Operand) (m n : Made) (at : ℕ) (z : Operand) → InMakingData l first k os m at →
    at < length os → make_data l m (datum_stored k (operand_of (get_or os at z)) ∷ []) ≡ Ok n → InMakingData l first k os n (at + 1)
data_made l first k os m n at z s h e =
    record { same = rw add-one (next_datum l first k os m at z s h ∙ datum_made l m n _ (map (datum_stored k) (map operand_of (drop (suc at) os))) e) }

data_bad : (l : Layout) (first : Made) (k : Keyword) (os : List Operand) (m : Made) (at : ℕ) (z : Operand) (r : AsmRule) →
    InMakingData l first k os m at → at < length os → make_data l m (datum_stored k (operand_of (get_or os at z)) ∷ []) ≡ Err r →
    make_data l first (map (datum_stored k) (map operand_of os)) ≡ Err r
data_bad l first k os m at z r s h e =
    next_datum l first k os m at z s h ∙ datum_bad l m _ (map (datum_stored k) (map operand_of (drop (suc at) os))) r e

pub value_bad : (S : Type 0) (l : Layout) (first : Made) (k : Keyword) (os : List Operand) (m n : Made) (at : ℕ) (z : Operand) (e : Refused) →
    InMakingData l first k os m at → at < length os →
    Leaves {S = S} (make_data l m (datum_stored k (operand_of (get_or os at z)) ∷ [])) (Err e) n →
    Leaves {S = S} (make_data l first (map (datum_stored k) (map operand_of os))) (Err e) n
value_bad S l first k os m n at z (refused.Rule r) s h e = data_bad l first k os m at z r s h e
value_bad S l first k os m n at z refused.Memory s h e = tt

pub data_end : (l : Layout) (first : Made) (k : Keyword) (os : List Operand) (m : Made) (at : ℕ) → InMakingData l first k os m at →
    length os ≤ at → make_data l first (map (datum_stored k) (map operand_of os)) ≡ Ok m
data_end l first k os m at s h = s.same ∙ ap (λ o. make_data l m (map (datum_stored k) (map operand_of o))) (drop_all at os h)

-- padding
pub padding : (n multiple : ℕ) → round_up n multiple - n ≡ (multiple - n % multiple) % multiple
padding n multiple = omega arith
