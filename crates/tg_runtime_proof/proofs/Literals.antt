-- Literals in the statics are strings in memory.
use Rattle.std.proofs.Common.{◌≡◌, ℕ, ◌+◌, ◌-◌, ◌*◌, ◌%◌, ◌<◌, ◌≤◌, List, [], ◌∷◌, ◌++◌, length, Option, Some, None}
use Rattle.std.proofs.Common.{true, false, refl, sym, ap, ◌∙◌, arith, subst, inl, inr, eq-eqb, ne_eqb}
use Rattle.std.specs.Prelude.{if◌then◌else◌, ◌==◌, All, replicate}
use Rattle.std.specs.Int.{to_le_bytes, w32}
use Rattle.std.proofs.lemmas.Bool.{cases_eq}
use Rattle.std.proofs.lemmas.List.{length-append, length-replicate}
use Rattle.tg_machine_state.specs.State.{word_at, padded, statics_base, most_bytes}
use Rattle.tg_tree.specs.Tree.{Literal}
use Rattle.tg_tree.specs.Memory.{Memory, in_statics, statics_of, literal_from, literal_address, begin, string_block}
use Rattle.tg_runtime_proof.specs.Memories.{IsWhole, IsStringAt}
use Rattle.tg_runtime_proof.proofs.Bytes.{word_in_front, word_past}
use Rattle.tg_runtime_proof.proofs.Memories.{load_by, spot_static}
use Rattle.tg_runtime_proof.proofs.Strings.{block_length}

-- the bytes of the first literal with a label
abbrev pub text_of : ℕ → List Literal → Option (List ℕ)
text_of label [] = None
text_of label (l ∷ ls) = if l.label == label then Some l.text else text_of label ls

padded_length : (xs : List ℕ) → length (padded xs) % 4 ≡ 0
padded_length xs =
    let l = length-append xs (replicate ((4 - length xs % 4) % 4) 0) in
    let p = length-replicate {A = ℕ} ((4 - length xs % 4) % 4) 0 in
    omega (arith, l, p)

pub statics_even : (ls : List Literal) → length (statics_of ls) % 4 ≡ 0
statics_even [] = refl
statics_even (l ∷ ls) =
    let e = length-append (padded l.text) (statics_of ls) in
    let h = statics_even ls in
    let p = padded_length l.text in
    omega (arith, e, h, p)

record IsPlaced (ls : List Literal) (at a : ℕ) (text : List ℕ) : Type 0 where
  pub place : ℕ
  pub is : a ≡ at + place
  pub even : place % 4 ≡ 0
  pub within : place + length (padded text) ≤ length (statics_of ls)
  pub words : (j : ℕ) → j + 4 ≤ length (padded text) → word_at (statics_of ls) (place + j) ≡ word_at (padded text) j

same_number : (u v : ℕ) → Some u ≡ Some v → u ≡ v
same_number u v e = cc

same_text : (u v : List ℕ) → Some u ≡ Some v → u ≡ v
same_text u v e = cc

placed : (ls : List Literal) (at label a : ℕ) (text : List ℕ) → literal_from at label ls ≡ Some a →
    text_of label ls ≡ Some text → IsPlaced ls at a text
placed [] at label a text e f = cc
placed (l ∷ ls) at label a text e f =
    let front = padded l.text in
    let long = length-append front (statics_of ls) in
    let even = padded_length l.text in
    elim (cases_eq l.label label) [
      | inl eq ↦
          let yes : (l.label == label) ≡ true = eq-eqb l.label label eq in
          let here : at ≡ a = same_number at a (sym
          (ap (λ b. if b then Some at else literal_from (at + length front) label ls) yes) ∙ e) in
          let its : l.text ≡ text = same_text l.text text
          (sym (ap (λ b. if b then Some l.text else text_of label ls) yes) ∙ f) in
          subst (λ t. IsPlaced (l ∷ ls) at a t) its (record {
            place = 0;
            is = omega (arith, here);
            even = refl;
            within = omega (arith, long);
            words = λ j le. let z : 0 + j ≡ j = omega arith in ap (λ k. word_at (front ++ statics_of ls) k) z ∙
                word_in_front front (statics_of ls) j le;
          })
      | inr ne ↦
          let no_label : (l.label == label) ≡ false = ne_eqb l.label label ne in
          let r = placed ls (at + length front) label a text
          (sym (ap (λ b. if b then Some at else literal_from (at + length front) label ls) no_label) ∙ e)
          (sym (ap (λ b. if b then Some l.text else text_of label ls) no_label) ∙ f) in
          let is = r.is in
          let within = r.within in
          let place_even = r.even in
          record {
            place = length front + r.place;
            is = omega (arith, is);
            even = omega (arith, place_even, even);
            within = omega (arith, within, long);
            words = λ j le.
                let z : length front + r.place + j ≡ length front + (r.place + j) = omega arith in
                ap (λ k. word_at (front ++ statics_of ls) k) z ∙
                (word_past front (statics_of ls) (length front) (r.place + j) refl ∙ r.words j le);
          }
    ]

-- with any heap and stack
pub literal_is_string : (ls : List Literal) (m : Memory) (label a : ℕ) (x : List ℕ) → m.statics ≡ statics_of ls →
    length m.statics ≤ most_bytes → All (λ b. b < 256) x →
    literal_address ls label ≡ Some a → text_of label ls ≡ Some (to_le_bytes w32 (length x) ++ x) → IsStringAt m a x
literal_is_string ls m label a x same few small e f =
    let p = placed ls statics_base label a (to_le_bytes w32 (length x) ++ x) e f in
    let b = block_length x in
    let is = p.is in
    let even = p.even in
    let within = p.within in
    let long : length m.statics ≡ length (statics_of ls) = ap length same in
    record {
      aligned = omega (arith, is, even);
      below = omega (arith, is, within, long, few);
      each = small;
      words = λ k lt.
          let four : 4 * k + 4 ≤ length (string_block x) = omega (arith, lt, b) in
          load_by m (a + 4 * k) (in_statics (p.place + 4 * k)) (omega (arith, is, even))
          (spot_static m (p.place + 4 * k) (a + 4 * k) (omega (arith, is)) (omega (arith, within, four, long))) ∙
          ap Some (ap (λ l. word_at l (p.place + 4 * k)) same ∙ p.words (4 * k) four);
    }

-- memory at the begin of a program is whole, where the literals are bytes and not too many
pub begin_is_whole : (ls : List Literal) → length (statics_of ls) ≤ most_bytes → All (λ b. b < 256) (statics_of ls) →
    IsWhole (begin ls)
begin_is_whole ls few small = record {
  statics = few;
  static_words = statics_even ls;
  static_bytes = small;
  heap = omega arith;
  heap_words = refl;
  heap_bytes = λ k d lt. absurd (omega (arith, lt));
}
