-- The walks over lines, from a place on: what the line there makes of them.
use Rattle.std.proofs.Common.{ℕ, ◌≡◌, ◌+◌, ◌<◌, ◌≤◌, List, [], ◌∷◌, ◌++◌, length, get_or, drop, Bool, true, false, refl, sym, ap, ◌∙◌, append_assoc, arith}
use Rattle.std.specs.Prelude.{if◌then◌else◌}
use Rattle.std.proofs.lemmas.List.{at_drop_more, drop-drop}
use Rattle.tg_isa.specs.declared.mips.Mips.TheVariants.{J}
use Rattle.tg_emit.specs.declared.assembly.Line.{Line}
use Rattle.tg_emit.specs.declared.assembly.Line.TheVariants.{Label, One, La, Statics}
use Rattle.tg_emit.specs.mirror.Lines.{words_of, words}
use Rattle.tg_delay.specs.Filling.{around_name, branches, branches_in, filled, movable, nop, opposite, slotted, turned_round}
use Rattle.tg_delay.specs.mirror.Walks.{branches_of, is_moved, takes_slot, turned_line}

-- lines that were put at the end
pub one_put : (old new : List Line) (a : Line) (rest : List Line) → new ≡ old ++ a ∷ [] → new ++ rest ≡ old ++ a ∷ rest
one_put old new a rest e = ap (λ l. l ++ rest) e ∙ append_assoc old (a ∷ []) rest

pub two_put : (old mid new : List Line) (a b : Line) (rest : List Line) → mid ≡ old ++ a ∷ [] → new ≡ mid ++ b ∷ [] → new ++ rest ≡ old ++ a ∷ b ∷ rest
two_put old mid new a b rest e f = one_put mid new b rest f ∙ one_put old mid a (b ∷ rest) e

-- the first of some lines: in the slot of the next one, with a slot of its own, or without
pub moved_is : (first : Line) (rest : List Line) → is_moved first rest ≡ true →
    (0 < length rest) × ((next : Line) → next ≡ get_or rest 0 next → filled (first ∷ rest) ≡ next ∷ first ∷ filled (drop 1 rest))
moved_is (One one target) (One other there ∷ rest) e = (omega arith, λ next is. by (movable one other) e ∙ ap (λ l. l ∷ One one target ∷ filled rest) (sym is))
  where
    by : (b : Bool) → b ≡ true → (if b then One other there ∷ One one target ∷ filled rest else slotted one target (filled (One other there ∷ rest)))
        ≡ One other there ∷ One one target ∷ filled rest
    by true e = refl
    by false e = cc
moved_is _ _ e = cc

slot_is : (first : Line) (rest : List Line) → is_moved first rest ≡ false →
    filled (first ∷ rest) ≡ (if takes_slot first then first ∷ nop ∷ filled rest else first ∷ filled rest)
slot_is (One one target) (One other there ∷ rest) e = by (movable one other) e
  where
    by : (b : Bool) → b ≡ false → (if b then One other there ∷ One one target ∷ filled rest else slotted one target (filled (One other there ∷ rest)))
        ≡ slotted one target (filled (One other there ∷ rest))
    by true e = cc
    by false e = refl
slot_is _ _ e = refl

pub with_slot : (first : Line) (rest : List Line) → is_moved first rest ≡ false → takes_slot first ≡ true →
    filled (first ∷ rest) ≡ first ∷ nop ∷ filled rest
with_slot first rest e f = slot_is first rest e ∙ ap (λ b. if b then first ∷ nop ∷ filled rest else first ∷ filled rest) f

pub without_slot : (first : Line) (rest : List Line) → is_moved first rest ≡ false → takes_slot first ≡ false →
    filled (first ∷ rest) ≡ first ∷ filled rest
without_slot first rest e f = slot_is first rest e ∙ ap (λ b. if b then first ∷ nop ∷ filled rest else first ∷ filled rest) f

-- so many lines further on
pub filled_more : (lines : List Line) (at n : ℕ) (first : Line) (before after : List Line) → at < length lines → first ≡ get_or lines at first →
    after ++ filled (drop n (drop (at + 1) lines)) ≡ before ++ filled (first ∷ drop (at + 1) lines) →
    after ++ filled (drop (at + (1 + n)) lines) ≡ before ++ filled (drop at lines)
filled_more lines at n first before after below is step =
    let next : at + (1 + n) ≡ at + 1 + n = omega arith in
    ap (λ k. after ++ filled (drop k lines)) next
    ∙ (ap (λ l. after ++ filled l) (sym (drop-drop n (at + 1) lines))
    ∙ (step
    ∙ (ap (λ l. before ++ filled (l ∷ drop (at + 1) lines)) is
    ∙ sym (at_drop_more (λ l. before ++ filled l) lines at first below))))

-- branches
branches_first : (line : Line) (rest : List Line) → branches_in (line ∷ rest) ≡ branches_of line + branches_in rest
branches_first (One one target) rest = by (branches one)
  where
    by : (b : Bool) → (if b then 1 + branches_in rest else branches_in rest) ≡ (if b then 1 else 0) + branches_in rest
    by true = refl
    by false = omega arith
branches_first (Label name) rest = omega arith
branches_first (La r name) rest = omega arith
branches_first (Statics bytes) rest = omega arith

pub branches_more : (lines : List Line) (at : ℕ) (line : Line) → at < length lines → line ≡ get_or lines at line →
    branches_in (drop at lines) ≡ branches_of line + branches_in (drop (at + 1) lines)
branches_more lines at line below is =
    at_drop_more branches_in lines at line below
    ∙ (ap (λ l. branches_in (l ∷ drop (at + 1) lines)) (sym is) ∙ branches_first line (drop (at + 1) lines))

branch_most : (line : Line) → branches_of line ≤ 1
branch_most (One one target) = by (branches one)
  where
    by : (b : Bool) → (if b then 1 else 0) ≤ 1
    by true = omega arith
    by false = omega arith
branch_most _ = omega arith

pub branches_most : (lines : List Line) → branches_in lines ≤ length lines
branches_most [] = omega arith
branches_most (line ∷ rest) = let a = branches_first line rest in let b = branch_most line in let c = branches_most rest in omega arith

turned_first : (line : Line) (rest : List Line) → turned_round (line ∷ rest) ≡ turned_line (branches_in rest) line ++ turned_round rest
turned_first (One one target) rest = by (branches one)
  where
    around : List ℕ
    around = around_name (branches_in rest)

    by : (b : Bool) →
        (if b then One (opposite one) around ∷ One (J 0) target ∷ Label around ∷ turned_round rest else One one target ∷ turned_round rest)
        ≡ (if b then One (opposite one) around ∷ One (J 0) target ∷ Label around ∷ [] else One one target ∷ []) ++ turned_round rest
    by true = refl
    by false = refl
turned_first (Label name) rest = refl
turned_first (La r name) rest = refl
turned_first (Statics bytes) rest = refl

pub turned_more : (lines : List Line) (at : ℕ) (line : Line) (behind : ℕ) (old new : List Line) → at < length lines → line ≡ get_or lines at line →
    behind ≡ branches_in (drop (at + 1) lines) → new ≡ old ++ turned_line behind line →
    new ++ turned_round (drop (at + 1) lines) ≡ old ++ turned_round (drop at lines)
turned_more lines at line behind old new below is count put =
    let rest : List Line = drop (at + 1) lines in
    ap (λ l. l ++ turned_round rest) put
    ∙ (append_assoc old (turned_line behind line) (turned_round rest)
    ∙ (ap (λ k. old ++ (turned_line k line ++ turned_round rest)) count
    ∙ (ap (λ l. old ++ l) (sym (turned_first line rest))
    ∙ (ap (λ l. old ++ turned_round (l ∷ rest)) is
    ∙ sym (at_drop_more (λ l. old ++ turned_round l) lines at line below)))))

-- words
pub words_more : (lines : List Line) (at : ℕ) (line : Line) → at < length lines → line ≡ get_or lines at line →
    words (drop at lines) ≡ words_of line + words (drop (at + 1) lines)
words_more lines at line below is = at_drop_more words lines at line below ∙ ap (λ l. words_of l + words (drop (at + 1) lines)) (sym is)
