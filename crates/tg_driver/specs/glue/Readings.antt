-- What reading a text answers.
use Rattle.std.specs.Prelude.{ℕ, ◌≡◌, List, Result, Ok, Err}
use Rattle.tg_base.specs.FirstFaults.{OnFault}
use Rattle.tg_base.specs.declared.faulty.Faulty.{Faulty}
use Rattle.tg_syntax.specs.declared.faults.LexRule.{LexRule}
use Rattle.tg_syntax.specs.declared.tokens.Spanned.{Spanned}
use Rattle.tg_syntax.specs.declared.trees.Program.{Program}
use Rattle.tg_syntax.specs.glue.Plain.{plain}
use Rattle.tg_syntax.specs.LexicalFaults.{HasLexicalFault}
use Rattle.tg_syntax.specs.Tree.{Exp}
use Rattle.tg_irc_definition.specs.Policies.{Rule as SpillRule}
use Rattle.tg_parser.specs.Answers.{HasSyntaxFault}
use Rattle.tg_parser.specs.declared.faults.SyntaxRule.{SyntaxRule}
use Rattle.tg_typecheck.specs.declared.faults.TypeRule.{TypeRule}
use Rattle.tg_typecheck.specs.Accepted.{finding, at_fault}
use Rattle.tg_driver.specs.declared.reading.NamedProgram.{NamedProgram}
use Rattle.tg_driver.specs.declared.reading.NamedTokens.{NamedTokens}
use Rattle.tg_driver.specs.declared.faults.Rule.{Rule}
use Rattle.tg_compile.specs.declared.compiled.Compiled.{Compiled}
use Rattle.tg_compile.specs.declared.passes.Passes.{Passes}
use Rattle.tg_correctness.specs.Sources.{HasTokens, HasTree}
use Rattle.tg_driver.specs.Faults.{HasFault, IsUntyped}
use Rattle.tg_compile_proof.specs.Builds.{CompilesTo}

-- the text's lexical fault
abbrev pub IsLexFaultOf : List ℕ → Faulty LexRule ℕ → Type 0
IsLexFaultOf text fault = OnFault fault (λ rule at. HasLexicalFault text rule at)

-- the text is tokens, which have this fault of syntax
pub record HasBadTokens (text : List ℕ) (rule : SyntaxRule) (at : ℕ) : Type 0 where
  pub names : List (List ℕ)
  pub tokens : List Spanned
  pub has_tokens : HasTokens text names tokens
  pub fault : HasSyntaxFault tokens rule at

abbrev pub IsSyntaxFaultOf : List ℕ → Faulty SyntaxRule ℕ → Type 0
IsSyntaxFaultOf text fault = OnFault fault (λ rule at. HasBadTokens text rule at)

-- the text is a tree, which has this fault of types
pub record HasBadTypes (text : List ℕ) (rule : TypeRule) (at : ℕ) : Type 0 where
  pub names : List (List ℕ)
  pub tokens : List Spanned
  pub program : Exp
  pub tree : HasTree text names tokens program
  pub fault : finding names program ≡ at_fault rule at

abbrev pub IsTypeFaultOf : List ℕ → Faulty TypeRule ℕ → Type 0
IsTypeFaultOf text fault = OnFault fault (λ rule at. HasBadTypes text rule at)

-- the text's first fault
abbrev pub IsRefusalOf : List ℕ → Faulty Rule ℕ → Type 0
IsRefusalOf text why = OnFault why (λ rule at. HasFault text rule at)

-- the text is this tree, by some tokens and these names
pub record HasNamedTree (text : List ℕ) (names : List (List ℕ)) (program : Exp) : Type 0 where
  pub tokens : List Spanned
  pub tree : HasTree text names tokens program

-- the text's first fault, which isn't one of types
pub record IsUntypedRefusalOf (text : List ℕ) (why : Faulty Rule ℕ) : Type 0 where
  pub is_of : IsRefusalOf text why
  pub is_untyped : OnFault why (λ rule at. IsUntyped rule)

abbrev pub IsLexed : List ℕ → Result NamedTokens (Faulty Rule ℕ) → Type 0
IsLexed text (Ok s) = HasTokens text s.names s.tokens.items
IsLexed text (Err why) = IsUntypedRefusalOf text why

-- what parsing the tokens of a text answers
abbrev pub IsParsedFrom : List ℕ → NamedTokens → Result Program (Faulty Rule ℕ) → Type 0
IsParsedFrom text s (Ok p) = HasTree text s.names s.tokens.items (plain p.body)
IsParsedFrom text s (Err why) = IsUntypedRefusalOf text why

abbrev pub IsParsed : List ℕ → Result NamedProgram (Faulty Rule ℕ) → Type 0
IsParsed text (Ok s) = HasNamedTree text s.names (plain s.program.body)
IsParsed text (Err why) = IsRefusalOf text why

-- what compiling a text with some passes by the rule of a policy answers: what it is compiled to, or
-- its first fault
abbrev pub IsCompiled :
    Passes → SpillRule → List ℕ → Result Compiled (Faulty Rule ℕ) → Type 0
IsCompiled passes rule text (Ok c) =
    CompilesTo passes rule text c.allocations.items c.text.items
IsCompiled passes rule text (Err why) = IsRefusalOf text why
