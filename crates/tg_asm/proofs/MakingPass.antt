-- Lines make words and bytes one by one.
use Rattle.std.proofs.Common.{◌≡◌, ◌<◌, ◌≤◌, ◌+◌, ℕ, List, [], ◌∷◌, length, Ok, Err, refl, ap, ◌∙◌, arith}
use Rattle.tg_asm_text.specs.declared.keywords.AsmRule.{AsmRule}
use Rattle.tg_asm_text.specs.Lines.{lines}
use Rattle.tg_asm_text.specs.Assembly.{Layout, Made, unmade, make_line, make}

pub record InMaking (text rest : List ℕ) (l : Layout) (m : Made) (n : ℕ) : Type 0 where
  pub same : make 1 l unmade (lines text) ≡ make n l m (lines rest)
  pub count : n + length rest ≤ length text + 1

pub made_first : (text : List ℕ) (l : Layout) (m : Made) → m ≡ unmade → InMaking text text l m 1
made_first text l m e = rw e (record { same = refl; count = omega arith })

line_made : (n : ℕ) (l : Layout) (m k : Made) (line : List ℕ) (more : List (List ℕ)) → make_line l m line ≡ Ok k →
    make n l m (line ∷ more) ≡ make (n + 1) l k more
line_made n l m k line more e = rw (e, make) refl

line_bad : (n : ℕ) (l : Layout) (m : Made) (line : List ℕ) (more : List (List ℕ)) (r : AsmRule) → make_line l m line ≡ Err r →
    make n l m (line ∷ more) ≡ Err (record { rule = r; line = n })
line_bad n l m line more r e = rw (e, make) refl

pub made_more : (text rest more line : List ℕ) (l : Layout) (m k : Made) (n : ℕ) → InMaking text rest l m n →
    lines rest ≡ line ∷ lines more → length more < length rest → make_line l m line ≡ Ok k → InMaking text more l k (n + 1)
made_more text rest more line l m k n i s h e =
    let c = i.count in
    record { same = i.same ∙ ap (make n l m) s ∙ line_made n l m k line (lines more) e; count = omega (arith, c, h) }

pub made_last : (text rest line : List ℕ) (l : Layout) (m k : Made) (n : ℕ) → InMaking text rest l m n → lines rest ≡ line ∷ [] →
    make_line l m line ≡ Ok k → make 1 l unmade (lines text) ≡ Ok k
made_last text rest line l m k n i s e = i.same ∙ ap (make n l m) s ∙ line_made n l m k line [] e

pub made_bad : (text rest line : List ℕ) (more : List (List ℕ)) (l : Layout) (m : Made) (n : ℕ) (r : AsmRule) →
    InMaking text rest l m n → lines rest ≡ line ∷ more → make_line l m line ≡ Err r → make 1 l unmade (lines text) ≡ Err (record { rule = r; line = n })
made_bad text rest line more l m n r i s e = i.same ∙ ap (make n l m) s ∙ line_bad n l m line more r e
