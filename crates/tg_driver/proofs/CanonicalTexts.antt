-- A text is a tree or has a fault that isn't one of types; and it has one canonical text.
use Rattle.std.proofs.Common.{ℕ, ◌≡◌, ◌⊎◌, inl, inr, List, refl, sym, ap, subst, ◌∙◌}
use Rattle.std.specs.Prelude.{Err}
use Rattle.tg_base.specs.FirstFaults.{OnBad}
use Rattle.tg_base.specs.declared.faulty.Faulty.{Faulty as Refused}
use Rattle.tg_base.specs.declared.faulty.Faulty.TheVariants.{Bad, Memory}
use Rattle.tg_syntax.specs.declared.tokens.Spanned.{Spanned}
use Rattle.tg_syntax.specs.declared.trees.Program.{Program}
use Rattle.tg_syntax.specs.Tree.{Exp}
use Rattle.tg_lexer.proofs.Excludes.{fault_excludes}
use Rattle.tg_parser.specs.declared.faults.SyntaxRule.{SyntaxRule}
use Rattle.tg_parser.specs.Answers.{HasSyntaxFault}
use Rattle.tg_correctness.specs.Sources.{HasTokens, HasTree}
use Rattle.tg_formatter.specs.Canonical.{canonical, tokens_of}
use Rattle.tg_driver.specs.declared.answers.Answer.{Answer}
use Rattle.tg_driver.specs.declared.answers.Answer.TheVariants.{Faulty, OutOfMemory, Written, Unwritten}
use Rattle.tg_driver.specs.declared.faults.Rule.{Rule}
use Rattle.tg_driver.specs.declared.faults.Fault.{Fault}
use Rattle.tg_driver.specs.Calls.{Stream, Stays, HasFailed, Takes, nothing, all, part}
use Rattle.tg_driver.specs.Faults.{HasFault, IsUntyped, lexical, syntactic, ill_typed}
use Rattle.tg_driver.specs.glue.Found.{IsRefused}
use Rattle.tg_driver.specs.glue.PrivateCalls.{OrMemory, HasStarted, StaysBeforeStart}
use Rattle.tg_driver.specs.glue.Readings.{IsSyntaxFaultOf, IsUntypedRefusalOf}
use Rattle.tg_driver.specs.Writing.{TakesText}
use Rattle.tg_driver.specs.FormatMode.{Formats, IsUntypedFault, IsFormatted}
use Rattle.tg_driver.specs.glue.PrivateCalls.{IsRefusedUntyped}
use Rattle.tg_driver.specs.laws.OfTexts.{IsFormattable, IsFaultyOrFormatted, IsTree, TakeOneText}
use Rattle.tg_driver.proofs.TokensOnce.{tokens_once}
use Rattle.tg_driver.proofs.FaultsOnce.{one_fault, fault_once_told, no_tree}

-- a text that is a tree has no other fault than of types
tree_excludes : (text : List ℕ) (rule : Rule) (at : ℕ) → IsUntyped rule → HasFault text rule at → IsTree text → ⊥
tree_excludes text rule at untyped (lexical f) t = fault_excludes f t.tree.has_tokens.short t.names t.tokens t.tree.has_tokens.lexed
tree_excludes text rule at untyped (syntactic {names = n} {tokens = a} {rule = p} h f) t = no_tree text n t.names a t.tokens p at t.program h f t.tree
tree_excludes text rule at untyped (ill_typed h f) t = untyped

no_untyped_fault : (text : List ℕ) (f : Fault) → IsUntypedFault text f → IsTree text → ⊥
no_untyped_fault text f h t = tree_excludes text f.rule h.is_fault.at h.is_untyped h.is_fault.has t

pub formattable_alike : (text : List ℕ) (a b : Answer) → IsFormattable text a → IsFormattable text b → (a ≡ b) ⊎ (HasStarted a × HasStarted b)
formattable_alike text (Faulty f) (Faulty g) p q = inl (ap Faulty (fault_once_told text f g p.is_fault q.is_fault))
formattable_alike text (Faulty f) Written p q = absurd (no_untyped_fault text f p q)
formattable_alike text (Faulty f) Unwritten p q = absurd (no_untyped_fault text f p q)
formattable_alike text (Faulty f) _ p q = absurd q
formattable_alike text Written (Faulty f) p q = absurd (no_untyped_fault text f q p)
formattable_alike text Written Written p q = inr (tt, tt)
formattable_alike text Written Unwritten p q = inr (tt, tt)
formattable_alike text Written _ p q = absurd q
formattable_alike text Unwritten (Faulty f) p q = absurd (no_untyped_fault text f q p)
formattable_alike text Unwritten Written p q = inr (tt, tt)
formattable_alike text Unwritten Unwritten p q = inr (tt, tt)
formattable_alike text Unwritten _ p q = absurd q
formattable_alike text _ b p q = absurd p

-- where no write failed
pub of_formatted : {O : Type 0} (out : Stream O) (source : List ℕ) (answer : Answer) → (HasFailed out → ⊥) → IsFormatted out source answer →
    IsFaultyOrFormatted source answer
of_formatted out source (Faulty f) kept h = h
of_formatted out source Written kept h =
    record { names = h.is_of.names; tokens = h.is_of.tokens; program = h.is_of.program; tree = h.is_of.tree }
of_formatted out source Unwritten kept h = failed h.takes
  where
    failed : {text : List ℕ} → Takes out text Written Unwritten Unwritten → ⊥
    failed (nothing none same stays) = absurd (cc)
    failed (all some same a) = absurd (cc)
    failed (part same some f front) = kept f
of_formatted out source _ kept h = absurd h

-- a source that is refused by a rule
rule_is_untyped : (text : List ℕ) (why : Refused Rule ℕ) (r : Rule) (at : ℕ) → IsUntypedRefusalOf text why → (why ≡ Memory → ⊥) →
    HasFault text r at → IsUntyped r
rule_is_untyped text (Bad rule to) r at h other f = subst IsUntyped (one_fault text rule r to at h.is_of f).rule_is h.is_untyped
rule_is_untyped text Memory r at h other f = absurd (other refl)

pub refused_untyped : (text : List ℕ) (why : Refused Rule ℕ) (answer : Answer) → IsUntypedRefusalOf text why → (why ≡ Memory → ⊥) →
    IsRefused text answer → IsRefusedUntyped text answer
refused_untyped text why (Faulty f) h other r = record { is_fault = r; is_untyped = rule_is_untyped text why f.rule r.at h other r.has }
refused_untyped text why OutOfMemory h other r = tt
refused_untyped text why _ h other r = absurd r

pub formatted_of_refused : {O : Type 0} (out : Stream O) (text : List ℕ) (answer : Answer) → IsRefusedUntyped text answer →
    OrMemory (Unit {0}) (IsFormatted out text) answer
formatted_of_refused out text (Faulty f) r = r
formatted_of_refused out text OutOfMemory r = tt
formatted_of_refused out text _ r = absurd r

pub untyped_stays : {O : Type 0} (out : Stream O) (text : List ℕ) (answer : Answer) → IsRefusedUntyped text answer → Stays out → StaysBeforeStart out answer
untyped_stays out text (Faulty f) r h = h
untyped_stays out text OutOfMemory r h = h
untyped_stays out text _ r h = absurd r

-- the canonical text that a sink took
formatted : {O : Type 0} (out : Stream O) (source text : List ℕ) (answer : Answer) → Formats source text → TakesText out text answer →
    IsFormatted out source answer
formatted out source text answer f (nothing none is stays) =
    let P : Answer → Type 0 = λ x. IsFormatted out source x in
    subst P (sym is) (record { written = text; is_of = f; takes = nothing none refl stays })
formatted out source text answer f (all some is a) =
    let P : Answer → Type 0 = λ x. IsFormatted out source x in
    subst P (sym is) (record { written = text; is_of = f; takes = all some refl a })
formatted out source text answer f (part is p g t) =
    let P : Answer → Type 0 = λ x. IsFormatted out source x in
    subst P (sym is) (record { written = text; is_of = f; takes = part refl p g t })

pub formats_text : {O : Type 0} (out : Stream O) (source text : List ℕ) (answer : Answer) → Formats source text → TakesText out text answer →
    OrMemory (Unit {0}) (IsFormatted out source) answer
formats_text out source text OutOfMemory f t = tt
formats_text out source text answer f t = formatted out source text answer f t

-- one canonical text
pub formats_once : (source one other : List ℕ) → Formats source one → Formats source other → one ≡ other
formats_once source one other f g =
    let same = tokens_once source f.names g.names f.tokens g.tokens f.tree.has_tokens g.tree.has_tokens in
    f.written_is ∙ (ap (λ ns. canonical ns (tokens_of f.tokens)) same.names ∙ (ap (λ ts. canonical g.names (tokens_of ts)) same.same ∙ sym g.written_is))

pub take_one_text : {O P : Type 0} (out : Stream O) (other : Stream P) (source : List ℕ) → IsFormatted out source Written →
    IsFormatted other source Written → TakeOneText out other
take_one_text out other source f g =
    let T : List ℕ → Type 0 = λ t. TakesText other t Written in
    record { written = f.written; takes = f.takes; takes_too = subst T (formats_once source g.written f.written g.is_of f.is_of) g.takes }

-- tokens that are no program
pub bad_tokens : (text : List ℕ) (names : List (List ℕ)) (tokens : List Spanned) (fault : Refused SyntaxRule ℕ) → HasTokens text names tokens →
    OnBad {T = Program} (Err fault) (λ rule at. HasSyntaxFault tokens rule at) → IsSyntaxFaultOf text fault
bad_tokens text names tokens (Bad rule at) h k = record { names = names; tokens = tokens; has_tokens = h; fault = k }
bad_tokens text names tokens Memory h k = tt

-- a tree of these tokens, and their canonical text
pub formats_of : (text : List ℕ) (names : List (List ℕ)) (tokens : List Spanned) (program : Exp) (written : List ℕ) → HasTree text names tokens program →
    written ≡ canonical names (tokens_of tokens) → Formats text written
formats_of text names tokens program written t e = record { names = names; tokens = tokens; program = program; tree = t; written_is = e }
