-- Generated programs of at most 1000 functions are accepted.
use Rattle.std.proofs.Common.{ℕ, zero, suc, ◌≡◌, ◌≤◌, List, [], ◌∷◌, ◌++◌, refl, sym, ap, subst, ◌∙◌, arith, append-nil}
use Rattle.tg_syntax.specs.declared.tokens.Token.TheVariants as token
use Rattle.tg_syntax.specs.declared.tokens.Spanned.{Spanned}
use Rattle.tg_syntax.specs.Tree.{Exp}
use Rattle.tg_syntax.specs.Lexing.{Lexes, spanned}
use Rattle.tg_syntax.specs.Grammar.{IsProgram}
use Rattle.tg_syntax.specs.SyntaxFaults.{IsShallow}
use Rattle.tg_lexer.specs.Numbering.{all_named, idents}
use Rattle.tg_typecheck.specs.declared.notes.Note.{Note}
use Rattle.tg_typecheck.specs.Checks.{Noted}
use Rattle.tg_typecheck.specs.Accepted.{finding, finding_of, within_limits, accepted}
use Rattle.tg_program_generator.specs.Generated.{generated}
use Rattle.tg_correctness.specs.Sources.{IsSource}
use Rattle.tg_program_generator_laws.specs.laws.Laws.{GeneratedIsAccepted}
use Rattle.tg_program_generator_laws.proofs.Lexemes.{spelled, past, tokens_at, lexes, names_in, idents_are}
use Rattle.tg_program_generator_laws.proofs.Lines.{program, program_spelled}
use Rattle.tg_program_generator_laws.proofs.Names.{names_of, program_fit, program_named}
use Rattle.tg_program_generator_laws.proofs.Trees.{tree}
use Rattle.tg_program_generator_laws.proofs.Parsed.{parsed}
use Rattle.tg_program_generator_laws.proofs.Tokens.{spans_of, tokens_are}
use Rattle.tg_program_generator_laws.proofs.Nesting.{shallow}
use Rattle.tg_program_generator_laws.proofs.Typed.{well_typed}
use Rattle.tg_program_generator_laws.proofs.Limits as limits
use Rattle.tg_program_generator_laws.proofs.Lengths.{short}

-- the tokens of the program of one function more than a number
abbrev end_of : ℕ → Spanned
end_of k = let at = past 0 (program k) in spanned token.End at at

abbrev tokens_of : ℕ → List Spanned
tokens_of k = tokens_at 0 (program k) ++ end_of k ∷ []

lexed : (k : ℕ) → suc k ≤ 1000 → Lexes (names_of (suc k)) 0 (generated (suc k)) (tokens_of k)
lexed k few =
    let names = names_of (suc k) in
    let fit = program_fit k few in
    subst (λ text. Lexes names 0 text (tokens_of k)) (append-nil (spelled (program k)) ∙ program_spelled k)
    (lexes names 0 (program k) [] (end_of k ∷ []) fit.are fit.stop (Lexes.ends (past 0 (program k))))

named : (k : ℕ) → suc k ≤ 1000 → names_of (suc k) ≡ all_named [] (idents (generated (suc k)) (tokens_of k))
named k few =
    let text = generated (suc k) in
    let whole : text ≡ spelled (program k) ++ [] = sym (append-nil (spelled (program k)) ∙ program_spelled k) in
    sym (ap (all_named []) (idents_are text [] 0 (program k) [] (end_of k ∷ []) whole refl ∙ append-nil (names_in (program k))) ∙ program_named k few)

is_program : (k : ℕ) → IsProgram (tokens_of k) (tree (spans_of k) k)
is_program k =
    subst (λ ts. IsProgram (ts ++ end_of k ∷ []) (tree (spans_of k) k)) (sym (tokens_are k)) (parsed (spans_of k) k (end_of k) refl)

is_shallow : (k : ℕ) → IsShallow (tokens_of k)
is_shallow k = shallow k (end_of k) refl

record IsTyped (names : List (List ℕ)) (body : Exp) : Type 0 where
  pub notes : List Note
  pub found : finding names body ≡ accepted notes

is_typed : (k : ℕ) → suc k ≤ 1000 → IsTyped (names_of (suc k)) (tree (spans_of k) k)
is_typed k few =
    let t = tree (spans_of k) k in
    let start : Noted = record { shapes = []; notes = [] } in
    let h = well_typed (spans_of k) (suc k) k in
    let notes = (h.after start).notes in
    record {
      notes = notes;
      found = ap (finding_of t) (h.is start) ∙ ap (within_limits notes) (limits.within_limits (spans_of k) k few);
    }

is_source : (k : ℕ) → suc k ≤ 1000 → IsSource (generated (suc k))
is_source k few =
    let typed = is_typed k few in
    record {
      names = names_of (suc k);
      tokens = tokens_of k;
      program = tree (spans_of k) k;
      source = record {
        tree = record {
          has_tokens = record { short = short k few; names_are = named k few; lexed = lexed k few };
          parsed = is_program k;
          shallow = is_shallow k;
        };
        notes = typed.notes;
        well_typed = typed.found;
      };
    }

pub generated_is_accepted : GeneratedIsAccepted
generated_is_accepted zero one few = absurd (omega arith)
generated_is_accepted (suc k) one few = is_source k few
