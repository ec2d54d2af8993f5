-- The byte of a fault lies within its text, or at its end.
use Rattle.std.proofs.Common.{ℕ, ◌+◌, ◌≡◌, ◌≤◌, ◌<◌, ◌^◌, List, [], ◌∷◌, ◌++◌, length, refl, subst, arith, length-append}
use Rattle.tg_syntax.specs.declared.faults.LexRule.{LexRule}
use Rattle.tg_syntax.specs.declared.tokens.Spanned.{Spanned}
use Rattle.tg_syntax.specs.LexicalFaults.{LeadsTo, FaultInString, FaultAt, HasLexicalFault}
use Rattle.tg_syntax.specs.LexicalFaults as fault
use Rattle.tg_syntax.specs.SyntaxFaults.{IsAt}
use Rattle.tg_parser.specs.declared.faults.SyntaxRule.{SyntaxRule}
use Rattle.tg_parser.specs.declared.faults.SyntaxRule.TheVariants.{S1, S2}
use Rattle.tg_driver.specs.declared.faults.Rule.TheVariants.{Lexical, Syntactic, Typed}
use Rattle.tg_parser.specs.Answers.{HasSyntaxFault}
use Rattle.tg_syntax.specs.Tree.{Exp}
use Rattle.tg_typecheck.specs.declared.faults.TypeRule.{TypeRule}
use Rattle.tg_typecheck.specs.Accepted.{finding, at_fault}
use Rattle.tg_driver.specs.declared.faults.Rule.{Rule}
use Rattle.tg_correctness.specs.Sources.{HasTokens, HasTree}
use Rattle.tg_driver.specs.Faults.{HasFault, lexical, syntactic, ill_typed}
use Rattle.tg_driver.specs.glue.Readings.{HasBadTokens, HasBadTypes}
use Rattle.tg_driver.proofs.ProgramsWithin.{AreWithin, tokens_within, type_fault_within, type_fault_small}

-- what was read and what is left are the whole
leads_length : {at to : ℕ} {text rest : List ℕ} → LeadsTo at text to rest → to + length rest ≡ at + length text
leads_length fault.here = refl
leads_length (fault.blank b is l) = let h = leads_length l in omega (arith, h)
leads_length (fault.comment inside {text = text} c l) =
    let h = leads_length l in
    let e = length-append inside text in
    omega (arith, h, e)
leads_length (fault.token names bytes one {text = text} s longest o l) =
    let h = leads_length l in
    let e = length-append bytes text in
    omega (arith, h, e)

in_string_within : {quote at place : ℕ} {rest : List ℕ} {rule : LexRule} → FaultInString quote at rest rule place → quote ≤ at → place ≤ at + length rest
in_string_within fault.end_in_string le = omega arith
in_string_within (fault.line_in_string rest) le = omega arith
in_string_within (fault.control_byte b rest is ne) le = omega arith
in_string_within (fault.end_in_escape begun is) le = omega arith
in_string_within (fault.line_in_escape begun rest m) le = omega arith
in_string_within (fault.bad_escape begun b rest m ne) le = omega arith

fault_within : {at place : ℕ} {rest : List ℕ} {rule : LexRule} → FaultAt at rest rule place → place ≤ at + length rest
fault_within (fault.illegal_byte b rest is none) = omega arith
fault_within (fault.comment_not_closed behind never) = omega arith
fault_within {at = at} (fault.in_string quoted meant rest q f) =
    let h = in_string_within f (omega arith) in
    let e = length-append quoted rest in
    omega (arith, h, e)
fault_within (fault.large_int bytes rest d longest lt) = omega arith

-- the byte of a fault of a text
pub record IsWithin (text : List ℕ) (at : ℕ) : Type 0 where
  pub within : at ≤ length text
  pub small : at < 2 ^ 31

lexical_within : (text : List ℕ) (rule : LexRule) (at : ℕ) → HasLexicalFault text rule at → IsWithin text at
lexical_within text rule at (fault.too_long long) = record { within = omega arith; small = omega arith }
lexical_within text rule at (fault.met short l f) =
    let h = leads_length l in
    let w = fault_within f in
    record { within = omega (arith, h, w, short); small = omega (arith, h, w, short) }

one_within : (end : ℕ) (front : List Spanned) (one : Spanned) (after : List Spanned) → AreWithin end (front ++ one ∷ after) → one.span.from ≤ end
one_within end [] one after h = h.0
one_within end (t ∷ front) one after h = one_within end front one after h.1

at_within : (text : List ℕ) (names : List (List ℕ)) (tokens front : List Spanned) (one : Spanned) (at : ℕ) →
    HasTokens text names tokens → IsAt tokens front one at → IsWithin text at
at_within text names tokens front one at has is =
    let P : List Spanned → Type 0 = λ ts. AreWithin (0 + length text) ts in
    let w = one_within (0 + length text) front one is.after (subst P is.whole (tokens_within has.lexed)) in
    let e = is.place in
    let short = has.short in
    record { within = omega (arith, w, e); small = omega (arith, w, e, short) }

syntactic_within : (text : List ℕ) (names : List (List ℕ)) (tokens : List Spanned) (rule : SyntaxRule) (at : ℕ) →
    HasTokens text names tokens → HasSyntaxFault tokens rule at → IsWithin text at
syntactic_within text names tokens S1 at has f = at_within text names tokens f.front f.one at has f.is_at
syntactic_within text names tokens S2 at has f = at_within text names tokens f.front f.one at has f.is_at

typed_within : (text : List ℕ) (names : List (List ℕ)) (tokens : List Spanned) (program : Exp) (rule : TypeRule) (at : ℕ) →
    HasTree text names tokens program → finding names program ≡ at_fault rule at → IsWithin text at
typed_within text names tokens program rule at tree f =
    record {
      within = type_fault_within text names tokens program rule at tree.has_tokens tree.parsed f;
      small =
          type_fault_small text names tokens program rule at tree.has_tokens tree.parsed f;
    }

pub within_text : (text : List ℕ) (rule : Rule) (at : ℕ) → HasFault text rule at → IsWithin text at
within_text text rule at (lexical {rule = r} f) = lexical_within text r at f
within_text text rule at (syntactic {names = names} {tokens = tokens} {rule = r} has f) = syntactic_within text names tokens r at has f
within_text text rule at (ill_typed {names = names} {tokens = tokens} {program = program} {rule = r} tree f) =
    typed_within text names tokens program r at tree f

-- the fault of the lexer, that of the parser, and that of the checker
pub lexer_fault : (text : List ℕ) (rule : LexRule) (at : ℕ) → HasLexicalFault text rule at → HasFault text (Lexical rule) at
lexer_fault text rule at f = lexical f

pub parser_fault : (text : List ℕ) (rule : SyntaxRule) (at : ℕ) → HasBadTokens text rule at → HasFault text (Syntactic rule) at
parser_fault text rule at h = syntactic h.has_tokens h.fault

pub checker_fault : (text : List ℕ) (rule : TypeRule) (at : ℕ) → HasBadTypes text rule at → HasFault text (Typed rule) at
checker_fault text rule at h = ill_typed h.tree h.fault
