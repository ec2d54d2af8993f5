-- Numbers are read digit by digit.
use Rattle.std.proofs.Common.{◌≡◌, ◌<◌, ◌≤◌, ◌+◌, ◌*◌, ◌^◌, ℕ, suc, List, ◌∷◌, length, drop, Some, None, refl, ap, ◌∙◌, arith, drop-cons, add-one}
use Rattle.std.specs.Prelude.{slice_index}
use Rattle.std.proofs.lemmas.List.{drop_all}
use Rattle.tg_asm_text.specs.Operands.{digit, digits, capped}

pub record Read (base : ℕ) (text : List ℕ) (value at : ℕ) : Type 0 where
  pub same : digits base 0 text ≡ digits base value (drop at text)
  pub small : value ≤ 2 ^ 33

pub read_more : (base : ℕ) (text : List ℕ) (value at d : ℕ) → Read base text value at → at < length text →
    digit base (slice_index text at) ≡ Some d → Read base text (capped (base * value + d)) (at + 1)
read_more base text value at d r h e =
    let cons : drop at text ≡ slice_index text at ∷ drop (suc at) text = drop-cons text at 0 h in
    record {
      same = rw add-one (r.same ∙ ap (digits base value) cons ∙ rw (e, digits) refl);
      small = omega arith;
    }

pub read_other : (base : ℕ) (text : List ℕ) (value at : ℕ) → Read base text value at → at < length text →
    digit base (slice_index text at) ≡ None → digits base 0 text ≡ None
read_other base text value at r h e =
    let cons : drop at text ≡ slice_index text at ∷ drop (suc at) text = drop-cons text at 0 h in
    r.same ∙ ap (digits base value) cons ∙ rw (e, digits) refl

pub read_all : (base : ℕ) (text : List ℕ) (value at : ℕ) → Read base text value at → length text ≤ at → digits base 0 text ≡ Some value
read_all base text value at r h = r.same ∙ ap (digits base value) (drop_all at text h)
