-- A tree begins where its tokens do, and so a fault of its types stands within the text.
use Rattle.std.proofs.Common.{ℕ, ◌+◌, ◌≡◌, ◌≤◌, ◌<◌, ◌^◌, List, [], ◌∷◌, length, Bool, subst, arith, length-append}
use Rattle.std.specs.Prelude.{IsTrue, nat_le}
use Rattle.std.proofs.lemmas.Bool.{le-leb, leb-true}
use Rattle.tg_syntax.specs.declared.tokens.Spanned.{Spanned}
use Rattle.tg_syntax.specs.Spans.{span_of}
use Rattle.tg_syntax.specs.Tree.{Exp}
use Rattle.tg_syntax.specs.Lexing.{Lexes, ends, blank, comment, token}
use Rattle.tg_syntax.specs.Grammar.{IsProgram}
use Rattle.tg_syntax_laws.proofs.ThroughProgram.{AllGive, at_start, through_program}
use Rattle.tg_typecheck.specs.declared.faults.TypeRule.{TypeRule}
use Rattle.tg_typecheck.specs.Accepted.{finding, at_fault}
use Rattle.tg_typecheck.specs.BeginWithin.{IdentBegins, IsHere, BeginsWithin}
use Rattle.tg_typecheck.proofs.FaultBytes.{faults_stand_within}
use Rattle.tg_correctness.specs.Sources.{HasTokens}

-- each token begins at this byte or before it
abbrev pub AreWithin : (end : ℕ) → List Spanned → Type 0
AreWithin end [] = Unit {0}
AreWithin end (t ∷ tokens) = (t.span.from ≤ end) × AreWithin end tokens

AreWithin-as : (m n : ℕ) (tokens : List Spanned) → m ≡ n → AreWithin m tokens → AreWithin n tokens
AreWithin-as m n tokens e h = let P : ℕ → Type 0 = λ k. AreWithin k tokens in subst P e h

-- those of a text begin within it
pub tokens_within : {names : List (List ℕ)} {at : ℕ} {text : List ℕ} {tokens : List Spanned} → Lexes names at text tokens →
    AreWithin (at + length text) tokens
tokens_within (ends at) = (omega arith, tt)
tokens_within {tokens = tokens} (blank b is l) = AreWithin-as _ _ tokens (omega arith) (tokens_within l)
tokens_within {tokens = tokens} (comment inside {rest = rest} c l) =
    let e = length-append inside rest in
    AreWithin-as _ _ tokens (omega (arith, e)) (tokens_within l)
tokens_within (token bytes one {rest = rest} {tokens = tokens} s longest o l) =
    let e = length-append bytes rest in
    (omega arith, AreWithin-as _ _ tokens (omega (arith, e)) (tokens_within l))

-- so what they are the program of begins within it
abbrev up_to : (end : ℕ) → ℕ → Bool
up_to end at = nat_le at end

each_gives : (end : ℕ) (tokens : List Spanned) → AreWithin end tokens → AllGive (IdentBegins (up_to end)) (IsHere (up_to end)) tokens
each_gives end [] h = tt
each_gives end (t ∷ tokens) h =
    let begins : IsTrue (up_to end t.span.from) = le-leb t.span.from end h.0 in
    (((λ x i. subst (λ s. IsTrue (up_to end s.from)) i.span begins), begins), each_gives end tokens h.1)

of_program : (end : ℕ) {tokens : List Spanned} {e : Exp} → IsProgram tokens e → AreWithin end tokens → BeginsWithin (up_to end) e
of_program end {tokens} is h = through_program (IdentBegins (up_to end)) (IsHere (up_to end)) is (each_gives end tokens h)

-- so the program of a text begins within it
pub program_within : (text : List ℕ) (names : List (List ℕ)) (tokens : List Spanned) (body : Exp) → HasTokens text names tokens →
    IsProgram tokens body → (span_of body).from ≤ length text
program_within text names tokens body has is =
    let end : ℕ = 0 + length text in
    let begins : BeginsWithin (up_to end) body = of_program end is (tokens_within has.lexed) in
    let w = leb-true (span_of body).from end (at_start (IdentBegins (up_to end)) (IsHere (up_to end)) body begins) in
    omega (arith, w)

-- where the program's tokens are those of a text, a fault of its types stands within the text
pub type_fault_within : (text : List ℕ) (names : List (List ℕ)) (tokens : List Spanned) (body : Exp) (rule : TypeRule) (at : ℕ) →
    HasTokens text names tokens → IsProgram tokens body → finding names body ≡ at_fault rule at → at ≤ length text
type_fault_within text names tokens body rule at has is found =
    let end : ℕ = 0 + length text in
    let w = leb-true at end (faults_stand_within (up_to end) names body rule at (of_program end is (tokens_within has.lexed)) found) in
    omega (arith, w)

pub type_fault_small : (text : List ℕ) (names : List (List ℕ)) (tokens : List Spanned) (body : Exp) (rule : TypeRule) (at : ℕ) → HasTokens text names tokens →
    IsProgram tokens body → finding names body ≡ at_fault rule at → at < 2 ^ 31
type_fault_small text names tokens body rule at has is found =
    let w = type_fault_within text names tokens body rule at has is found in
    let short = has.short in
    omega (arith, w, short)
