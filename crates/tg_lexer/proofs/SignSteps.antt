-- The longest sign with which a text begins.
use Rattle.std.proofs.Common.{ℕ, ◌≡◌, ◌≢◌, List, [], ◌∷◌, ◌++◌, length, Bool, true, false, Some, None, drop, refl, sym, ap, subst, ◌∙◌}
use Rattle.std.specs.Prelude.{slice_get}
use Rattle.tg_syntax.specs.declared.tokens.Sign.{Sign}
use Rattle.tg_syntax.specs.declared.tokens.Sign.TheVariants.{Comma, Colon, Less, Greater, NotEqual, LessEqual, GreaterEqual, Assign}
use Rattle.tg_syntax.specs.Spellings.{sign_text}
use Rattle.tg_syntax.specs.Lexing.{IsLongest}
use Rattle.tg_syntax.proofs.Longest.{begins, is_mark, form_of_mark}
use Rattle.tg_lexer.specs.glue.Lexemes.{IsSign, IsSignPrefix}
use Rattle.tg_lexer.proofs.Basics.{head_is, not_cons, clash}
use Rattle.tg_lexer.proofs.EscapeSteps.{first_byte, two_first, alone}

pub sign_mark : (s : Sign) → begins is_mark (sign_text s) ≡ true
sign_mark Comma = refl
sign_mark _ = refl

-- no sign has three bytes
abbrev is_short : List ℕ → Bool
is_short (a ∷ b ∷ c ∷ bytes) = false
is_short _ = true

sign_short : (s : Sign) → is_short (sign_text s) ≡ true
sign_short Comma = refl
sign_short _ = refl

-- the first byte of a sign is one
abbrev first_sign : Sign → Sign
first_sign NotEqual = Less
first_sign LessEqual = Less
first_sign GreaterEqual = Greater
first_sign Assign = Colon
first_sign s = s

abbrev first_of : List ℕ → List ℕ
first_of [] = []
first_of (b ∷ bytes) = b ∷ []

first_sign-text : (s : Sign) → sign_text (first_sign s) ≡ first_of (sign_text s)
first_sign-text Comma = refl
first_sign-text _ = refl

pub no_sign : (text : List ℕ) (a : ℕ) → Some a ≡ slice_get text 0 → IsSign (a ∷ []) None → (b : ℕ) (rest : List ℕ) →
    text ≡ b ∷ rest → (s : Sign) (more : List ℕ) → sign_text s ≢ b ∷ more
no_sign text a f none b rest w s more e =
    let same : a ≡ b = head_is (sym (first_byte text a (sym f)) ∙ w) in
    none (first_sign s) (ap (λ x. x ∷ []) same ∙ sym (first_sign-text s ∙ ap first_of e))

-- no byte makes a longer sign
pub record Ends (text : List ℕ) (a : ℕ) : Type 0 where
  pub ends : (b : ℕ) (after : List ℕ) → drop 1 text ≡ b ∷ after → (s : Sign) → a ∷ b ∷ [] ≢ sign_text s

pub ends_alone : (text : List ℕ) (a : ℕ) → Some a ≡ slice_get text 0 → None ≡ slice_get text 1 → Ends text a
ends_alone text a f g = record { ends = λ b after e s k. not_cons (ap (drop 1) (sym (alone text a (sym f) g)) ∙ e) }

pub ends_pair : (text : List ℕ) (a b : ℕ) → Some a ≡ slice_get text 0 → Some b ≡ slice_get text 1 → IsSign (a ∷ b ∷ []) None → Ends text a
ends_pair text a b f g none =
    record {
      ends = λ c after e s k.
          let same : b ≡ c = head_is (ap (drop 1) (sym (two_first text a b (sym f) g)) ∙ e) in
          none s (ap (λ x. a ∷ x ∷ []) same ∙ k);
    }

pub one_sign : (text : List ℕ) (a : ℕ) (s : Sign) → Some a ≡ slice_get text 0 → a ∷ [] ≡ sign_text s → Ends text a → IsSignPrefix text s 1
one_sign text a s f e h =
    record {
      whole = first_byte text a (sym f) ∙ ap (λ l. l ++ drop 1 text) e;
      size_is = ap length e;
      longest = subst (λ l. IsLongest l (drop 1 text)) e longest;
    }
  where
    mark : is_mark a ≡ true
    mark = ap (begins is_mark) e ∙ sign_mark s

    longest : IsLongest (a ∷ []) (drop 1 text)
    longest [] after w ne form = ne refl
    longest (b ∷ []) after w ne form = let k = form_of_mark form a (b ∷ []) refl mark in h.ends b after w k.0 (sym k.1)
    longest (b ∷ c ∷ more) after w ne form =
        let k = form_of_mark form a (b ∷ c ∷ more) refl mark in
        clash (ap is_short k.1) (sign_short k.0)

pub two_sign : (text : List ℕ) (a b : ℕ) (s : Sign) → Some a ≡ slice_get text 0 → Some b ≡ slice_get text 1 → a ∷ b ∷ [] ≡ sign_text s → IsSignPrefix text s 2
two_sign text a b s f g e =
    record {
      whole = two_first text a b (sym f) g ∙ ap (λ l. l ++ drop 2 text) e;
      size_is = ap length e;
      longest = subst (λ l. IsLongest l (drop 2 text)) e longest;
    }
  where
    mark : is_mark a ≡ true
    mark = ap (begins is_mark) e ∙ sign_mark s

    longest : IsLongest (a ∷ b ∷ []) (drop 2 text)
    longest [] after w ne form = ne refl
    longest (c ∷ more) after w ne form =
        let k = form_of_mark form a (b ∷ c ∷ more) refl mark in
        clash (ap is_short k.1) (sign_short k.0)
