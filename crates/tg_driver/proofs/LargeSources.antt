-- A source whose program is too large for `bare` has no fault of its own, and isn't small; so `bare` tells one fault at most.
use Rattle.std.proofs.Common.{ℕ, ◌≡◌, ◌⊎◌, inl, inr, List, sym, ap, subst, ◌∙◌, arith}
use Rattle.tg_base.specs.Lines.{place_of}
use Rattle.tg_syntax.specs.Spans.{span_of}
use Rattle.tg_syntax.specs.Tree.{Exp}
use Rattle.tg_irc_definition.specs.Policies.{Rule as SpillRule}
use Rattle.tg_compile.specs.declared.passes.Passes.{Passes}
use Rattle.tg_correctness.specs.Sources.{IsSource}
use Rattle.tg_bare_compile_proof.specs.Builds.{BuildsDelayed}
use Rattle.tg_bare_compile_proof.specs.laws.TextLaws.{BareBuildIsCorrect}
use Rattle.tg_driver.specs.declared.answers.Answer.{Answer}
use Rattle.tg_driver.specs.declared.answers.Answer.TheVariants.{Faulty, Written, Unwritten}
use Rattle.tg_driver.specs.declared.faults.Fault.{Fault}
use Rattle.tg_driver.specs.BareMode.{IsMeantForBare}
use Rattle.tg_driver.specs.LargePrograms.{IsSmall, IsTooLargeAt, IsTooLarge, IsBareFaultOf, IsSmallSource}
use Rattle.tg_driver.specs.glue.PrivateCalls.{HasStarted}
use Rattle.tg_driver.specs.laws.OfTexts.{IsBareWritable}
use Rattle.tg_driver.proofs.FaultsOnce.{fault_once_told, source_once}
use Rattle.tg_driver.proofs.SourcesOnce.{no_fault}

large_source : (text : List ℕ) (at : ℕ) → IsTooLargeAt text at → IsSource text
large_source text at l = record { names = l.names; tokens = l.tokens; program = l.program; source = l.source }

small_source : (text : List ℕ) → IsSmallSource text → IsSource text
small_source text s = record { names = s.names; tokens = s.tokens; program = s.program; source = s.source }

not_small : (text : List ℕ) (at : ℕ) → IsTooLargeAt text at → IsSmallSource text → ⊥
not_small text at l s =
    let one = source_once text l.names s.names l.tokens s.tokens l.program s.program l.source s.source in
    let small : IsSmall l.program = subst IsSmall (sym one.same) s.small in
    let large = l.large in
    absurd (omega (arith, small, large))

-- a fault that `bare` tells, and a source that is small
no_bare_fault : (text : List ℕ) (f : Fault) → IsBareFaultOf text f → IsSmallSource text → ⊥
no_bare_fault text f (inl h) s = no_fault text f h (small_source text s)
no_bare_fault text f (inr h) s = not_small text h.at h.large s

same_byte : (text : List ℕ) (a b : ℕ) → IsTooLargeAt text a → IsTooLargeAt text b → a ≡ b
same_byte text a b l m =
    let one = source_once text l.names m.names l.tokens m.tokens l.program m.program l.source m.source in
    l.at_is ∙ ap (λ (e : Exp). (span_of e).from) one.same ∙ sym m.at_is

large_once : (text : List ℕ) (f g : Fault) → IsTooLarge text f → IsTooLarge text g → f ≡ g
large_once text f g p q =
    let rules : f.rule ≡ g.rule = p.rule ∙ sym q.rule in
    let places : f.place ≡ g.place = p.place ∙ ap (λ n. place_of text n) (same_byte text p.at q.at p.large q.large) ∙ sym q.place in
    λ i. record { rule = rules i; place = places i }

bare_fault_once : (text : List ℕ) (f g : Fault) → IsBareFaultOf text f → IsBareFaultOf text g → f ≡ g
bare_fault_once text f g (inl p) (inl q) = fault_once_told text f g p q
bare_fault_once text f g (inl p) (inr q) = absurd (no_fault text f p (large_source text q.at q.large))
bare_fault_once text f g (inr p) (inl q) = absurd (no_fault text g q (large_source text p.at p.large))
bare_fault_once text f g (inr p) (inr q) = large_once text f g p q

-- in `bare` two answers are one, or the output was touched
pub bare_alike : (text : List ℕ) (a b : Answer) → IsBareWritable text a → IsBareWritable text b → (a ≡ b) ⊎ (HasStarted a × HasStarted b)
bare_alike text (Faulty f) (Faulty g) p q = inl (ap Faulty (bare_fault_once text f g p q))
bare_alike text (Faulty f) Written p q = absurd (no_bare_fault text f p q)
bare_alike text (Faulty f) Unwritten p q = absurd (no_bare_fault text f p q)
bare_alike text (Faulty f) _ p q = absurd q
bare_alike text Written (Faulty f) p q = absurd (no_bare_fault text f q p)
bare_alike text Written Written p q = inr (tt, tt)
bare_alike text Written Unwritten p q = inr (tt, tt)
bare_alike text Written _ p q = absurd q
bare_alike text Unwritten (Faulty f) p q = absurd (no_bare_fault text f q p)
bare_alike text Unwritten Written p q = inr (tt, tt)
bare_alike text Unwritten Unwritten p q = inr (tt, tt)
bare_alike text Unwritten _ p q = absurd q
bare_alike text _ b p q = absurd p

-- what does what a small source means there is of one
pub meant_small : (text assembly : List ℕ) → IsMeantForBare text assembly → IsSmallSource text
meant_small text assembly m = record {
  names = m.meant.names;
  tokens = m.meant.tokens;
  program = m.meant.program;
  source = m.meant.source;
  small = m.small;
}

-- and what such a source is built to does so
pub meant_for_bare : BareBuildIsCorrect → (passes : Passes) (rule : SpillRule) (text assembly : List ℕ) → BuildsDelayed passes rule text assembly →
    IsMeantForBare text assembly
meant_for_bare correct passes rule text assembly b =
    let m = correct passes rule text assembly b in
    let one = source_once text b.compiles.names m.names b.compiles.tokens m.tokens b.compiles.program m.program b.compiles.source m.source in
    record { meant = m; small = subst IsSmall one.same b.few }
