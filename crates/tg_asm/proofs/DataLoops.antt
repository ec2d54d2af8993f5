-- Data and strings are read one by one.
use Rattle.std.proofs.Common.{◌≡◌, ◌<◌, ◌≤◌, ◌+◌, ℕ, suc, Bool, true, false, not, List, [], ◌∷◌, ◌++◌, length, map, drop, get_or, Option, Some, None, Ok, Err}
use Rattle.std.proofs.Common.{refl, sym, ap, ◌∙◌, arith, append-nil, append_assoc, drop-cons, add-one}
use Rattle.std.specs.Prelude.{slice_index, ◌&&◌, ◌==◌}
use Rattle.std.proofs.lemmas.List.{drop_all}
use Rattle.tg_asm_text.specs.declared.keywords.Keyword.{Keyword}
use Rattle.tg_asm_text.specs.declared.keywords.AsmRule.TheVariants.{A3, A7}
use Rattle.tg_asm_text.specs.Items as items
use Rattle.tg_asm_text.specs.Lines as lines
use Rattle.tg_asm_text.specs.Operands.{string, before_string}
use Rattle.tg_asm.specs.declared.cuts.Operand.{Operand}
use Rattle.tg_asm.specs.glue.Cuts.{operand_of}
use Rattle.tg_asm.specs.glue.Means.{all_values, datum_stored, is_value, meant_by}

-- operands that are of their kind
pub record AllValues (k : Keyword) (os : List Operand) (at : ℕ) : Type 0 where
  pub same : all_values k (map operand_of os) ≡ all_values k (map operand_of (drop at os))

next_value : (k : Keyword) (os : List Operand) (at : ℕ) (z : Operand) → AllValues k os at → at < length os →
    all_values k (map operand_of os) ≡ (is_value (items.datum k (operand_of (get_or os at z))) && all_values k (map operand_of (drop (suc at) os)))
next_value k os at z f h = f.same ∙ ap (λ o. all_values k (map operand_of o)) (drop-cons os at z h)

pub value_more : (k : Keyword) (os : List Operand) (at : ℕ) (z : Operand) (d : items.Datum) → AllValues k os at → at < length os →
    Some d ≡ items.datum k (operand_of (get_or os at z)) → AllValues k os (at + 1)
value_more k os at z d f h e = record { same = rw add-one (next_value k os at z f h ∙ rw (← e) refl) }

pub value_none : (k : Keyword) (os : List Operand) (at : ℕ) (z : Operand) → AllValues k os at → at < length os →
    None ≡ items.datum k (operand_of (get_or os at z)) → false ≡ all_values k (map operand_of os)
value_none k os at z f h e = sym (next_value k os at z f h ∙ rw (← e) refl)

pub values_end : (k : Keyword) (os : List Operand) (at : ℕ) → AllValues k os at → length os ≤ at → true ≡ all_values k (map operand_of os)
values_end k os at f h = sym (f.same ∙ ap (λ o. all_values k (map operand_of o)) (drop_all at os h))

-- what such operands put into the statics
all_stored : (k : Keyword) (os : List lines.Operand) → all_values k os ≡ true → items.all_data k os ≡ Some (map (datum_stored k) os)
all_stored k [] e = refl
all_stored k (o ∷ os) e = by (items.datum k o) refl (all_stored k os)
  where
    by : (d : Option items.Datum) → items.datum k o ≡ d → (all_values k os ≡ true → items.all_data k os ≡ Some (map (datum_stored k) os)) →
        items.all_data k (o ∷ os) ≡ Some (map (datum_stored k) (o ∷ os))
    by (Some d) h ih = rw (h, ih (rw h at e)) refl
    by None h ih = let s = rw h at e in cc

none_stored : (k : Keyword) (os : List lines.Operand) → all_values k os ≡ false → items.all_data k os ≡ None
none_stored k [] e = cc
none_stored k (o ∷ os) e = by (items.datum k o) refl (none_stored k os)
  where
    by : (d : Option items.Datum) → items.datum k o ≡ d → (all_values k os ≡ false → items.all_data k os ≡ None) → items.all_data k (o ∷ os) ≡ None
    by (Some d) h ih = rw (h, ih (rw h at e)) refl
    by None h ih = rw h refl

pub values_bad : (k : Keyword) (align : ℕ) (os : List lines.Operand) → false ≡ all_values k os → items.values k align os ≡ Err A3
values_bad k align [] e = cc
values_bad k align (o ∷ os) e = ap (items.within_data k align) (none_stored k (o ∷ os) (sym e))

pub values_unfit : (k : Keyword) (align : ℕ) (os : List lines.Operand) → true ≡ all_values k os → false ≡ items.data_fit k (map (datum_stored k) os) →
    items.values k align os ≡ Err A7
values_unfit k align [] e f = cc
values_unfit k align (o ∷ os) e f = ap (items.within_data k align) (all_stored k (o ∷ os) (sym e)) ∙ rw (← f) refl

pub values_made : (k : Keyword) (align : ℕ) (os : List Operand) → 0 < length os → true ≡ all_values k (map operand_of os) →
    true ≡ items.data_fit k (map (datum_stored k) (map operand_of os)) →
    items.values k align (map operand_of os) ≡ Ok (items.Data' align (map (datum_stored k) (map operand_of os)))
values_made k align [] l e f = absurd (let n : ⊥ = omega (arith, l) in n)
values_made k align (o ∷ os) l e f = ap (items.within_data k align) (all_stored k (map operand_of (o ∷ os)) (sym e)) ∙ rw (← f) refl

-- ranges of data
pub record Fits (k : Keyword) (os : List Operand) (at : ℕ) : Type 0 where
  pub same : items.data_fit k (map (datum_stored k) (map operand_of os)) ≡ items.data_fit k (map (datum_stored k) (map operand_of (drop at os)))

pub fits_more : (k : Keyword) (os : List Operand) (at : ℕ) (z : Operand) (d : items.Datum) → Fits k os at → at < length os →
    d ≡ datum_stored k (operand_of (get_or os at z)) → true ≡ items.datum_fits k d → Fits k os (at + 1)
fits_more k os at z d f h s e =
    let t : items.datum_fits k (datum_stored k (operand_of (get_or os at z))) ≡ true = ap (items.datum_fits k) (sym s) ∙ sym e in
    record { same = rw add-one (f.same ∙ ap (λ o. items.data_fit k (map (datum_stored k) (map operand_of o))) (drop-cons os at z h) ∙ rw t refl) }

pub fits_not : (k : Keyword) (os : List Operand) (at : ℕ) (z : Operand) (d : items.Datum) → Fits k os at → at < length os →
    d ≡ datum_stored k (operand_of (get_or os at z)) → false ≡ items.datum_fits k d → false ≡ items.data_fit k (map (datum_stored k) (map operand_of os))
fits_not k os at z d f h s e =
    let t : items.datum_fits k (datum_stored k (operand_of (get_or os at z))) ≡ false = ap (items.datum_fits k) (sym s) ∙ sym e in
    sym (f.same ∙ ap (λ o. items.data_fit k (map (datum_stored k) (map operand_of o))) (drop-cons os at z h) ∙ rw t refl)

pub fits_end : (k : Keyword) (os : List Operand) (at : ℕ) → Fits k os at → length os ≤ at → true ≡ items.data_fit k (map (datum_stored k) (map operand_of os))
fits_end k os at f h = sym (f.same ∙ ap (λ o. items.data_fit k (map (datum_stored k) (map operand_of o))) (drop_all at os h))

-- strings
abbrev pub all_before_string : List ℕ → Option (List ℕ) → Option (List ℕ)
all_before_string bytes (Some more) = Some (bytes ++ more)
all_before_string bytes None = None

pub record InString (text bytes : List ℕ) (escaped : Bool) (at : ℕ) : Type 0 where
  pub same : string false text ≡ all_before_string bytes (string escaped (drop at text))

all_before_no_string : (o : Option (List ℕ)) → o ≡ all_before_string [] o
all_before_no_string (Some os) = refl
all_before_no_string None = refl

pub string_begin : (text bytes : List ℕ) → bytes ≡ [] → InString text bytes false 0
string_begin text bytes e = record { same = rw e (all_before_no_string _) }

next_byte : (text bytes : List ℕ) (escaped : Bool) (at : ℕ) → InString text bytes escaped at → at < length text →
    string false text ≡ all_before_string bytes (string escaped (slice_index text at ∷ drop (suc at) text))
next_byte text bytes escaped at i h = i.same ∙ ap (λ o. all_before_string bytes (string escaped o)) (drop-cons text at 0 h)

opened : (escaped : Bool) (c : ℕ) (rest : List ℕ) → true ≡ (not escaped && c == 92) → string escaped (c ∷ rest) ≡ string true rest
opened true c rest e = cc
opened false c rest e = rw (← e, string) refl

taken : (escaped : Bool) (c : ℕ) (rest : List ℕ) → false ≡ (not escaped && c == 92) → string escaped (c ∷ rest) ≡
    before_string (meant_by escaped c) (string false rest)
taken true c rest e = refl
taken false c rest e = rw (← e, string) refl

all_before_byte : (bytes : List ℕ) (b : ℕ) (more : Option (List ℕ)) → all_before_string bytes (before_string (Some b) more) ≡
    all_before_string (bytes ++ b ∷ []) more
all_before_byte bytes b (Some more) = rw append_assoc refl
all_before_byte bytes b None = refl

pub string_opens : (text bytes : List ℕ) (escaped : Bool) (at : ℕ) → InString text bytes escaped at → at < length text →
    true ≡ (not escaped && slice_index text at == 92) → InString text bytes true (at + 1)
string_opens text bytes escaped at i h e =
    record { same = rw add-one (next_byte text bytes escaped at i h ∙ ap (all_before_string bytes) (opened escaped _ (drop (suc at) text) e)) }

pub string_more : (text bytes bytes' : List ℕ) (escaped : Bool) (at b : ℕ) → InString text bytes escaped at →
    at < length text → false ≡ (not escaped && slice_index text at == 92) → Some b ≡ meant_by escaped (slice_index text at) →
    bytes' ≡ bytes ++ b ∷ [] → InString text bytes' false (at + 1)
string_more text bytes bytes' escaped at b i h e m l =
    record {
      same = rw (add-one, l) (next_byte text bytes escaped at i h
          ∙ ap (all_before_string bytes) (taken escaped _ (drop (suc at) text) e ∙ ap (λ o. before_string o (string false (drop (suc at) text))) (sym m))
          ∙ all_before_byte _ _ (string false (drop (suc at) text)));
    }

pub string_bad : (text bytes : List ℕ) (escaped : Bool) (at : ℕ) → InString text bytes escaped at → at < length text →
    false ≡ (not escaped && slice_index text at == 92) → None ≡ meant_by escaped (slice_index text at) → string false text ≡ None
string_bad text bytes escaped at i h e m = next_byte text bytes escaped at i h
    ∙ ap (all_before_string bytes) (taken escaped _ (drop (suc at) text) e ∙ ap (λ o. before_string o (string false (drop (suc at) text))) (sym m))

pub string_cut : (text bytes : List ℕ) (at : ℕ) → InString text bytes true at → length text ≤ at → string false text ≡ None
string_cut text bytes at i h = i.same ∙ ap (λ o. all_before_string bytes (string true o)) (drop_all at text h)

pub string_end : (text bytes : List ℕ) (at : ℕ) → InString text bytes false at → length text ≤ at → string false text ≡ Some bytes
string_end text bytes at i h = i.same ∙ ap (λ o. all_before_string bytes (string false o)) (drop_all at text h) ∙ ap Some (append-nil _)
