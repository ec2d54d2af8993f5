-- The answer for a whole program is exact.
use Rattle.std.proofs.Common.{◌≡◌, List, [], ◌∷◌, ◌++◌, sym, ap, subst, ◌∙◌, append_assoc, append-nil}
use Rattle.tg_syntax.specs.declared.tokens.Token.TheVariants.{End}
use Rattle.tg_syntax.specs.declared.tokens.Spanned.{Spanned}
use Rattle.tg_syntax.specs.Tree.{Exp}
use Rattle.tg_syntax.specs.Grammar.{IsProgram, program}
use Rattle.tg_syntax.specs.SyntaxFaults.{BeginsProgram, HasNoEnd, EndsOnce}
use Rattle.tg_syntax_laws.specs.mirror.Steps.{Got, Bad, Out, Whole_program}
use Rattle.tg_syntax_laws.specs.mirror.Reading.{whole_program, Does}
use Rattle.tg_syntax_laws.specs.laws.Laws.{IsUnexpected}
use Rattle.tg_syntax_laws.proofs.Runs.{does_one, got_bad}
use Rattle.tg_syntax_laws.proofs.Complete.{complete_program}
use Rattle.tg_syntax_laws.proofs.Sound.{Fine, fine_got, fine_bad, fine_out, fine}
use Rattle.tg_syntax_laws.proofs.ValidJobs.{all_valid, valid}

head_is : {t r : Spanned} {a b : List Spanned} → t ∷ a ≡ r ∷ b → t ≡ r
head_is h = cc

rest_is : {t r : Spanned} {a b : List Spanned} → t ∷ a ≡ r ∷ b → a ≡ b
rest_is h = cc

no_rest : {C : Type 0} (a : List Spanned) (t : Spanned) (s : List Spanned) → a ++ t ∷ s ≡ [] → C
no_rest [] t s h = cc
no_rest (x ∷ a) t s h = cc

pub end_alone : (a b : List Spanned) (t e : Spanned) (s : List Spanned) → t.token ≡ End → HasNoEnd b → a ++ t ∷ s ≡ b ++ e ∷ [] → s ≡ []
end_alone [] [] t e s q k h = rest_is h
end_alone [] (x ∷ b) t e s q k h = absurd (k.0 (ap (λ w. w.token) (sym (head_is h)) ∙ q))
end_alone (x ∷ a) [] t e s q k h = no_rest a t s (rest_is h)
end_alone (x ∷ a) (y ∷ b) t e s q k h = end_alone a b t e s q k.1 (rest_is h)

whole_list : (ts u rest : List Spanned) (e : Exp) → EndsOnce ts → ts ≡ u ++ rest → IsProgram u e → IsProgram ts e
whole_list ts u rest e o d (program {a = a} t h q) =
    let r : rest ≡ [] = end_alone a o.body t o.end rest q o.once (sym (append_assoc a (t ∷ []) rest) ∙ sym d ∙ o.whole) in
    subst (λ z. IsProgram z e) (sym (d ∙ ap (λ w. (a ++ t ∷ []) ++ w) r ∙ append-nil (a ++ t ∷ []))) (program t h q)

got_at : (ts : List Spanned) (e : Exp) (rest : List Spanned) → EndsOnce ts → Fine Whole_program IsProgram whole_program ts (Got e rest) → IsProgram ts e
got_at ts e rest o (fine_got u d l c) = whole_list ts u rest e o d l

-- what is read is the program's tree
pub got_is : (ts : List Spanned) (e : Exp) (rest : List Spanned) → EndsOnce ts → Does Whole_program whole_program ts (Got e rest) → IsProgram ts e
got_is ts e rest o h = got_at ts e rest o (fine all_valid h IsProgram (valid Whole_program))

bad_at : (ts : List Spanned) (t : Spanned) (us : List Spanned) → Fine Whole_program IsProgram whole_program ts (Bad t us) → IsUnexpected ts t us
bad_at ts t us (fine_bad u d l c) =
    record {
      front = u;
      whole = d;
      could = record { rest = l.rest; tree = l.tree; is = l.is };
      cannot = λ b. got_bad
          (does_one (complete_program (u ++ t ∷ b.rest) b.tree (subst (λ w. IsProgram w b.tree) (append_assoc u (t ∷ []) b.rest) b.is))
          (Bad t b.rest) (c b.rest));
    }

-- what is refused is the first token with which no program can go on
pub bad_is : (ts : List Spanned) (t : Spanned) (us : List Spanned) → Does Whole_program whole_program ts (Bad t us) → IsUnexpected ts t us
bad_is ts t us h = bad_at ts t us (fine all_valid h IsProgram (valid Whole_program))

out_at : (ts : List Spanned) → Fine Whole_program IsProgram whole_program ts Out → BeginsProgram ts
out_at ts (fine_out l) = record { rest = l.rest; tree = l.tree; is = l.is }

-- where more is wanted a program begins so
pub out_is : (ts : List Spanned) → Does Whole_program whole_program ts Out → BeginsProgram ts
out_is ts h = out_at ts (fine all_valid h IsProgram (valid Whole_program))
