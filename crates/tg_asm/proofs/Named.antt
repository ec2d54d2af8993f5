-- A register is looked for among the names.
use Rattle.std.proofs.Common.{◌≡◌, ◌<◌, ◌+◌, ℕ, suc, true, false, List, [], ◌∷◌, drop, Some, refl, sym, ap, ◌∙◌, drop-cons, add-one}
use Rattle.std.specs.Str.{bytes_eq}
use Rattle.tg_isa.specs.Names.{names, register_name}
use Rattle.tg_asm_text.specs.Operands.{named_register, named_from}

-- none of the first names is the text
pub record NotYet (text : List ℕ) (at : ℕ) : Type 0 where
  pub same : named_register text ≡ named_from at (drop at names) text

from_here : (text : List ℕ) (at : ℕ) → at < 32 → named_from at (drop at names) text ≡ named_from at (register_name at ∷ drop (suc at) names) text
from_here text at h = ap (λ ns. named_from at ns text) (drop-cons names at [] h)

pub named_here : (text name : List ℕ) (at : ℕ) → NotYet text at → at < 32 → name ≡ register_name at → true ≡ bytes_eq name text → Some at ≡ named_register text
named_here text name at n h e t = sym (n.same ∙ from_here text at h ∙ rw (← e) (rw (← t) refl))

pub named_later : (text name : List ℕ) (at : ℕ) → NotYet text at → at < 32 → name ≡ register_name at → false ≡ bytes_eq name text → NotYet text (at + 1)
named_later text name at n h e t = record { same = n.same ∙ from_here text at h ∙ rw (← e) (rw (← t) (rw add-one refl)) }
