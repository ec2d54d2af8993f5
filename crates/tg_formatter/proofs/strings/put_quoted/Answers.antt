use Rattle.std.proofs.Common.{ℕ, ◌≡◌, List, ◌++◌, sym, ap, ◌∙◌, arith, append_assoc}
use Rattle.std.specs.Slice.Iter.{chunks_rest}
use Rattle.tg_formatter.specs.Canonical.{quoted_text}
use Rattle.tg_formatter.proofs.Steps.{quoted_append}
use Rattle.tg_formatter.proofs.strings.put_quoted.Goals as goal

pub loop-stretch-preserved : goal.loop-stretch-preserved
loop-stretch-preserved c =
    let text = c.loop-stretch.text.items in
    let stretch = c.in-Some.stretch.now in
    let rest = chunks_rest c.next.new.self in
    let steps = c.in-Some.ensures.steps in
    let put : c.extend_from_slice.new.self.items ≡ text ++ quoted_text stretch =
    c.in_ok-extend_from_slice.ensures.items ∙ ap (λ (l : List ℕ). text ++ l) c.write_stretch-count.ensures.text in
    record {
      goes_on = omega (arith, steps.0, c.loop-stretch.invariant.size);
      ends = tt;
      size = steps.0 ∙ c.loop-stretch.invariant.size;
      text =
          c.loop-stretch.invariant.text
          ∙ (ap (λ (l : List ℕ). text ++ quoted_text l) steps.1.0
          ∙ (ap (λ (l : List ℕ). text ++ l) (quoted_append stretch rest)
          ∙ (sym (append_assoc text (quoted_text stretch) (quoted_text rest)) ∙ ap (λ (l : List ℕ). l ++ quoted_text rest) (sym put))));
    }
