-- The tokens of generated programs, with their spans.
use Rattle.std.proofs.Common.{ℕ, zero, suc, ◌≡◌, List, ◌++◌, refl, sym, ap, ◌∙◌, append_assoc, get_or}
use Rattle.tg_base.specs.declared.ids.Span.{Span}
use Rattle.tg_syntax.specs.declared.tokens.Token.TheVariants as token
use Rattle.tg_syntax.specs.Lexing.{spanned}
use Rattle.tg_program_generator_laws.proofs.Lexemes.{Lexeme, tokens_at, marked, past, tokens-append}
use Rattle.tg_program_generator_laws.proofs.Lines.{head, line, lines, last, program}
use Rattle.tg_program_generator_laws.proofs.Trees.{Spans}
use Rattle.tg_program_generator_laws.proofs.Parsed.{lines_tokens, all_tokens}

-- the spans of the tokens of lexemes that begin at a byte
abbrev pub spans_at : ℕ → List Lexeme → ℕ → Span
spans_at at ls j = (get_or (tokens_at at ls) j (spanned token.End 0 0)).span

abbrev pub behind_head : ℕ
behind_head = past 0 head

abbrev pub spans_of : ℕ → Spans
spans_of k = record {
  head = spans_at 0 head;
  lines = λ n. spans_at (past behind_head (lines n)) (line n);
  last = spans_at (past behind_head (lines (suc k))) (last k);
}

head_is : (at : ℕ) → tokens_at at head ≡ marked (spans_at at head) 0 head
head_is at = refl

line_is : (n at : ℕ) → tokens_at at (line n) ≡ marked (spans_at at (line n)) 0 (line n)
line_is zero at = refl
line_is (suc k) at = refl

last_is : (k at : ℕ) → tokens_at at (last k) ≡ marked (spans_at at (last k)) 0 (last k)
last_is k at = refl

lines_are : (k n : ℕ) → tokens_at behind_head (lines n) ≡ lines_tokens (spans_of k) n
lines_are k zero = refl
lines_are k (suc n) =
    tokens-append behind_head (lines n) (line n) ∙ (λ i. lines_are k n i ++ line_is n (past behind_head (lines n)) i)

pub tokens_are : (k : ℕ) → tokens_at 0 (program k) ≡ all_tokens (spans_of k) k
tokens_are k =
    let n = suc k in
    let s = spans_of k in
    let first = marked s.head 0 head in
    let end = marked s.last 0 (last k) in
    tokens-append 0 head (lines n ++ last k) ∙ ap (λ ts. ts ++ tokens_at behind_head (lines n ++ last k)) (head_is 0)
    ∙ ap (λ ts. first ++ ts) (tokens-append behind_head (lines n) (last k) ∙ (λ i. lines_are k n i ++ last_is k (past behind_head (lines n)) i))
    ∙ sym (append_assoc first (lines_tokens s n) end)
