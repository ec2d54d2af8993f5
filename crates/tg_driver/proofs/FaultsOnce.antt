-- A text has at most one first fault, and none where it is a program; and it is at most one program.
use Rattle.std.proofs.Common.{ℕ, ◌≡◌, List, sym, ap, subst, ◌∙◌}
use Rattle.tg_base.specs.Lines.{place_of}
use Rattle.tg_syntax.specs.declared.tokens.Spanned.{Spanned}
use Rattle.tg_syntax.specs.Tree.{Exp}
use Rattle.tg_syntax.specs.Grammar.{IsProgram}
use Rattle.tg_lexer.proofs.Excludes.{fault_excludes, fault_once}
use Rattle.tg_syntax_laws.proofs.Complete.{one_tree}
use Rattle.tg_parser.specs.declared.faults.SyntaxRule.{SyntaxRule}
use Rattle.tg_parser.specs.Answers.{HasSyntaxFault}
use Rattle.tg_parser.proofs.OneFault.{faults_once, fault_excludes_program}
use Rattle.tg_typecheck.specs.declared.faults.TypeRule.{TypeRule}
use Rattle.tg_typecheck.specs.declared.notes.Note.{Note}
use Rattle.tg_typecheck.specs.Accepted.{Finding, finding, accepted, at_fault}
use Rattle.tg_driver.specs.declared.faults.Rule.{Rule}
use Rattle.tg_driver.specs.declared.faults.Rule.TheVariants.{Lexical, Syntactic, Typed}
use Rattle.tg_driver.specs.declared.faults.Fault.{Fault}
use Rattle.tg_correctness.specs.Sources.{HasTokens, HasTree, IsSource, IsSourceOf}
use Rattle.tg_driver.specs.Faults.{HasFault, lexical, syntactic, ill_typed, IsFaultOf}
use Rattle.tg_driver.proofs.TokensOnce.{tokens_once, AreOne}

-- one rule at one byte
pub record SameFault {R : Type 0} (r s : R) (at to : ℕ) : Type 0 where
  pub rule_is : r ≡ s
  pub place_is : at ≡ to

-- a text is one tree, by one list of names
pub tree_once : (text : List ℕ) (n m : List (List ℕ)) (a b : List Spanned) (p q : Exp) → HasTree text n a p → HasTree text m b q → AreOne n m p q
tree_once text n m a b p q s r =
    let one = tokens_once text n m a b s.has_tokens r.has_tokens in
    let P : List Spanned → Type 0 = λ ts. IsProgram ts p in
    record { names = one.names; same = one_tree b p q (subst P one.same s.parsed) r.parsed }

-- its finding is one
finding_once : (text : List ℕ) (n m : List (List ℕ)) (a b : List Spanned) (p q : Exp) → HasTree text n a p → HasTree text m b q → finding n p ≡ finding m q
finding_once text n m a b p q s r =
    let one = tree_once text n m a b p q s r in
    ap (λ x. finding x p) one.names ∙ ap (λ x. finding m x) one.same

-- a fault of syntax in a text that is a tree
pub no_tree : (text : List ℕ) (n m : List (List ℕ)) (a b : List Spanned) (p : SyntaxRule) (at : ℕ) (program : Exp) →
    HasTokens text n a → HasSyntaxFault a p at → HasTree text m b program → ⊥
no_tree text n m a b p at program h f t =
    let one = tokens_once text n m a b h t.has_tokens in
    let P : List Spanned → Type 0 = λ ts. HasSyntaxFault ts p at in
    fault_excludes_program b p at (subst P one.same f) program t.parsed t.shallow

-- the rule and the byte of a finding that is a fault
rule_in : Finding → TypeRule → TypeRule
rule_in (accepted notes) otherwise = otherwise
rule_in (at_fault rule at) otherwise = rule

byte_in : Finding → ℕ → ℕ
byte_in (accepted notes) otherwise = otherwise
byte_in (at_fault rule at) otherwise = at

same_rule : (f : Finding) (r s : TypeRule) (at to : ℕ) → f ≡ at_fault r at → f ≡ at_fault s to → r ≡ s
unfolding rule_in
same_rule f r s at to p q = ap (λ x. rule_in x r) (sym p ∙ q)

same_byte : (f : Finding) (r s : TypeRule) (at to : ℕ) → f ≡ at_fault r at → f ≡ at_fault s to → at ≡ to
unfolding byte_in
same_byte f r s at to p q = ap (λ x. byte_in x at) (sym p ∙ q)

not_accepted : (f : Finding) (notes : List Note) (r : TypeRule) (at : ℕ) → f ≡ accepted notes → f ≡ at_fault r at → ⊥
not_accepted f notes r at p q = let e : accepted notes ≡ at_fault r at = sym p ∙ q in cc

-- a text's first fault
pub one_fault : (text : List ℕ) (r s : Rule) (at to : ℕ) → HasFault text r at → HasFault text s to → SameFault r s at to
one_fault text r s at to (lexical f) (lexical g) = let h = fault_once f g in record { rule_is = ap Lexical h.rule_is; place_is = h.place_is }
one_fault text r s at to (lexical f) (syntactic {names = n} {tokens = t} h g) = absurd (fault_excludes f h.short n t h.lexed)
one_fault text r s at to (lexical f) (ill_typed {names = n} {tokens = t} h g) = absurd (fault_excludes f h.has_tokens.short n t h.has_tokens.lexed)
one_fault text r s at to (syntactic {names = n} {tokens = t} h g) (lexical f) = absurd (fault_excludes f h.short n t h.lexed)
one_fault text r s at to (syntactic {names = n} {tokens = a} {rule = p} h f) (syntactic {names = m} {tokens = b} {rule = q} k g) =
    let one = tokens_once text n m a b h k in
    let P : List Spanned → Type 0 = λ ts. HasSyntaxFault ts p at in
    let same = faults_once b p q at to (subst P one.same f) g in
    record { rule_is = ap Syntactic same.0; place_is = same.1 }
one_fault text r s at to (syntactic {names = n} {tokens = a} {rule = p} h f) (ill_typed {names = m} {tokens = b} {program = x} k g) =
    absurd (no_tree text n m a b p at x h f k)
one_fault text r s at to (ill_typed {names = n} {tokens = t} h g) (lexical f) = absurd (fault_excludes f h.has_tokens.short n t h.has_tokens.lexed)
one_fault text r s at to (ill_typed {names = m} {tokens = b} {program = x} k g) (syntactic {names = n} {tokens = a} {rule = p} h f) =
    absurd (no_tree text n m a b p to x h f k)
one_fault text r s at to (ill_typed {names = n} {tokens = a} {program = x} {rule = p} h f) (ill_typed {names = m} {tokens = b} {program = y} {rule = q} k g) =
    let e = finding_once text n m a b x y h k in
    record { rule_is = ap Typed (same_rule _ p q at to f (e ∙ g)); place_is = same_byte _ p q at to f (e ∙ g) }

pub fault_once_told : (text : List ℕ) (f g : Fault) → IsFaultOf text f → IsFaultOf text g → f ≡ g
fault_once_told text f g p q =
    let same = one_fault text f.rule g.rule p.at q.at p.has q.has in
    let rules : f.rule ≡ g.rule = same.rule_is in
    let places : f.place ≡ g.place = p.place ∙ ap (λ n. place_of text n) same.place_is ∙ sym q.place in
    λ i. record { rule = rules i; place = places i }

-- a text with a fault is no source
pub source_excludes : (text : List ℕ) (rule : Rule) (at : ℕ) (names : List (List ℕ)) (tokens : List Spanned) (program : Exp) →
    HasFault text rule at → IsSourceOf text names tokens program → ⊥
source_excludes text rule at names tokens program (lexical f) s = fault_excludes f s.tree.has_tokens.short names tokens s.tree.has_tokens.lexed
source_excludes text rule at names tokens program (syntactic {names = n} {tokens = a} {rule = p} h f) s = no_tree text n names a tokens p at program h f s.tree
source_excludes text rule at names tokens program (ill_typed {names = n} {tokens = a} {program = x} {rule = p} h f) s =
    not_accepted _ s.notes p at (finding_once text n names a tokens x program h s.tree ∙ s.well_typed) f

pub never_refused : (text : List ℕ) (rule : Rule) (at : ℕ) → IsSource text → HasFault text rule at → ⊥
never_refused text rule at s f = source_excludes text rule at s.names s.tokens s.program f s.source

-- a source is one program, by one list of names
pub source_once : (text : List ℕ) (n m : List (List ℕ)) (a b : List Spanned) (p q : Exp) → IsSourceOf text n a p → IsSourceOf text m b q → AreOne n m p q
source_once text n m a b p q s r = tree_once text n m a b p q s.tree r.tree
