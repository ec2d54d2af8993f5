-- The names of a text's tree are spelled where they stand.
use Rattle.std.proofs.Common.{◌≡◌, ℕ, ◌+◌, ◌-◌, List, [], ◌∷◌, ◌++◌, length, take, drop, length-append, append_assoc, Some, refl, sym, ap, ◌∙◌, arith, subst}
use Rattle.std.proofs.Math.Seq.{drop-append_seam, take-append_seam}
use Rattle.tg_syntax.specs.declared.tokens.Token.{Token}
use Rattle.tg_syntax.specs.declared.tokens.Token.TheVariants as token
use Rattle.tg_syntax.specs.declared.tokens.Spanned.{Spanned}
use Rattle.tg_syntax.specs.declared.tokens.Ident.{Ident}
use Rattle.tg_syntax.specs.Tree.{Exp}
use Rattle.tg_syntax.specs.Spellings.{Spells}
use Rattle.tg_syntax.specs.Lexing.{Lexes, ends, blank, comment, token as one_token, spanned}
use Rattle.tg_syntax.specs.Grammar.{IsProgram}
use Rattle.tg_syntax.specs.Throughout.{Throughout}
use Rattle.tg_syntax.specs.NamesWithin.{AnyByte}
use Rattle.tg_syntax_laws.proofs.ThroughProgram.{Gives, AllGive, through_program}
use Rattle.tg_explain_typing.specs.Lookups.{spelled}
use Rattle.tg_explain_laws.proofs.Agreeing.{Spelled}

-- the bytes of a part of a text
part_is : (text before bytes after : List ℕ) (at : ℕ) → at ≡ length before → text ≡ before ++ (bytes ++ after) →
    spelled text (record { from = at; to = at + length bytes }) ≡ bytes
part_is text before bytes after at e is =
    let many : at + length bytes - at ≡ length bytes = omega arith in
    let onward : drop at text ≡ bytes ++ after = ap (λ k. drop k text) e ∙ (ap (λ t. drop (length before) t) is ∙ drop-append_seam before (bytes ++ after)) in
    ap (λ k. take k (drop at text)) many ∙ (ap (λ t. take (length bytes) t) onward ∙ take-append_seam bytes after)

module _ (names : List (List ℕ)) (text : List ℕ) where
  no_end : (at to : ℕ) → Gives (Spelled names text) AnyByte (spanned token.End at to)
  no_end at to = ((λ x i. absurd (differs x i.name)), tt)
    where
      differs : (x : Ident) → token.End ≡ token.Ident x.name → ⊥
      differs x e = cc

  one_gives : (bytes : List ℕ) (one : Token) (at to : ℕ) → Spells names bytes one → spelled text (record { from = at; to = to }) ≡ bytes →
      Gives (Spelled names text) AnyByte (spanned one at to)
  one_gives bytes one at to s e = (
    (λ x i.
        let named : Spells names bytes (token.Ident x.name) = subst (λ k. Spells names bytes k) i.name s in
        named.2 ∙ ap (λ w. Some w) (sym (ap (λ p. spelled text p) (sym i.span) ∙ e))),
    tt,
  )

  all_give : {at : ℕ} {behind : List ℕ} {tokens : List Spanned} → Lexes names at behind tokens → (before : List ℕ) → at ≡ length before →
      text ≡ before ++ behind → AllGive (Spelled names text) AnyByte tokens
  all_give (ends at) before e t = (no_end at at, tt)
  all_give {at} (blank b {rest} w r) before e t =
      all_give r (before ++ b ∷ []) (ap (λ k. k + 1) e ∙ sym (length-append before (b ∷ []))) (t ∙ sym (append_assoc before (b ∷ []) rest))
  all_give {at} (comment inside {rest} c r) before e t =
      all_give r (before ++ 47 ∷ 42 ∷ inside) (omega (arith, e, length-append before (47 ∷ 42 ∷ inside)))
      (t ∙ sym (append_assoc before (47 ∷ 42 ∷ inside) rest))
  all_give {at} (one_token bytes one {rest} s long not_comment r) before e t = (
    one_gives bytes one at (at + length bytes) s (part_is text before bytes rest at e t),
    all_give r (before ++ bytes) (ap (λ k. k + length bytes) e ∙ sym (length-append before bytes)) (t ∙ sym (append_assoc before bytes rest)),
  )

pub spelled_throughout : (names : List (List ℕ)) (text : List ℕ) (tokens : List Spanned) (body : Exp) → Lexes names 0 text tokens →
    IsProgram tokens body → Throughout (Spelled names text) AnyByte body
spelled_throughout names text tokens body l p = through_program (Spelled names text) AnyByte p (all_give names text l [] refl refl)
