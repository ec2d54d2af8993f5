-- What is explained of a text is its first fault.
use Rattle.std.proofs.Common.{ℕ, ◌≡◌, ◌≤◌, List, [], length, refl}
use Rattle.tg_syntax.specs.declared.faults.LexRule.{LexRule}
use Rattle.tg_syntax.specs.declared.faults.LexRule.TheVariants.{L7}
use Rattle.tg_syntax.specs.declared.tokens.Spanned.{Spanned}
use Rattle.tg_syntax.specs.Tree.{Exp}
use Rattle.tg_syntax.specs.NamesWithin.{NamesWithin}
use Rattle.tg_syntax.specs.Beginnings.{BeginsApart, beginnings}
use Rattle.tg_syntax.specs.LexicalFaults.{HasLexicalFault, too_long, met}
use Rattle.tg_syntax_laws.proofs.NamesKnown.{all_named}
use Rattle.tg_syntax_laws.proofs.Standing.{tokens_stand}
use Rattle.tg_syntax_laws.proofs.Orders.{apart}
use Rattle.tg_syntax_laws.proofs.Begun.{in_order}
use Rattle.tg_typecheck.specs.declared.notes.Note.{Note}
use Rattle.tg_typecheck.specs.Accepted.{Finding, finding, accepted, at_fault}
use Rattle.tg_typecheck.specs.Answered.{Accepts}
use Rattle.tg_correctness.specs.Sources.{HasTree, IsSource}

-- a text that isn't too long
pub short_enough : (text : List ℕ) (rule : LexRule) (at : ℕ) → (rule ≡ L7 → ⊥) → HasLexicalFault text rule at → length text ≤ 262144
short_enough text rule at other (too_long long) = absurd (other refl)
short_enough text rule at other (met short leads fault) = short

-- a text's tree is typed under the conditions that the check asks for
pub names_within : (text : List ℕ) (names : List (List ℕ)) (tokens : List Spanned) (program : Exp) →
    HasTree text names tokens program → NamesWithin (length names) program
names_within text names tokens program t = all_named names text tokens program t.has_tokens.lexed t.parsed

pub begins_apart : (text : List ℕ) (names : List (List ℕ)) (tokens : List Spanned) (program : Exp) →
    HasTree text names tokens program → BeginsApart program
begins_apart text names tokens program t =
    apart (beginnings program []) (in_order tokens program (tokens_stand t.has_tokens.lexed) t.parsed)

-- a tree that was accepted is a source
pub is_source : (text : List ℕ) (names : List (List ℕ)) (tokens : List Spanned) (program : Exp) (sorted : List Note) →
    HasTree text names tokens program → Accepts (finding names program) sorted → IsSource text
is_source text names tokens program sorted t h = by (finding names program) refl h
  where
    by : (f : Finding) → finding names program ≡ f → Accepts f sorted → IsSource text
    by (accepted notes) e h = record {
      names = names;
      tokens = tokens;
      program = program;
      source = record { tree = t; notes = notes; well_typed = e };
    }
    by (at_fault rule at) e h = absurd h
