-- Statements that are cut from the last that is come to.
use Rattle.std.proofs.Common.{◌≡◌, ◌≤◌, ◌<◌, ℕ, suc, ◌+◌, List, [], ◌∷◌, ◌++◌, length, take, drop, get_or, Bool, true, false, refl, ap, sym, ◌∙◌}
use Rattle.std.proofs.Common.{subst, arith, length-append, add-one, drop-cons}
use Rattle.std.specs.Prelude.{if◌then◌else◌}
use Rattle.std.proofs.lemmas.List.{take-append-le}
use Rattle.tg_trace_schedule.proofs.Rests.{take_all, none_there}
use Rattle.std.proofs.Math.Seq.{drop-length}
use Rattle.tg_tree.specs.declared.trees.Ts.{Ts as CodeTs}
use Rattle.tg_tree.specs.glue.Plain.{plain_ts}
use Rattle.tg_tree.specs.glue.Lists.{stms_of}
use Rattle.tg_trace_schedule.specs.glue.Plains.{come_to}
use Rattle.tg_trace_schedule.specs.mirror.Cutting.{CutBlocks, cut, cut_all, leaves}

abbrev pub back : (exits : List ℕ) → List CodeTs → CutBlocks → CutBlocks
back exits [] c = c
back exits (s ∷ ss) c = cut exits (plain_ts s) (back exits ss c)

leaving : (b : Bool) (exits : List ℕ) (s : CodeTs) (ss : List CodeTs) (c : CutBlocks) → cut_all exits (stms_of ss) c ≡
    back exits (take (come_to ss) ss) c → cut exits (plain_ts s) (if b then c else cut_all exits (stms_of ss) c) ≡
    back exits (take (if b then 1 else suc (come_to ss)) (s ∷ ss)) c
leaving true exits s ss c h = refl
leaving false exits s ss c h = ap (cut exits (plain_ts s)) h

pub cut_all_is : (exits : List ℕ) (ss : List CodeTs) (c : CutBlocks) → cut_all exits (stms_of ss) c ≡ back exits (take (come_to ss) ss) c
cut_all_is exits [] c = refl
cut_all_is exits (s ∷ ss) c = leaving (leaves (plain_ts s)) exits s ss c (cut_all_is exits ss c)

pub back_last : (exits : List ℕ) (ss : List CodeTs) (s : CodeTs) (c : CutBlocks) → back exits (ss ++ s ∷ []) c ≡ back exits ss (cut exits (plain_ts s) c)
back_last exits [] s c = refl
back_last exits (first ∷ ss) s c = ap (cut exits (plain_ts first)) (back_last exits ss s c)

-- the last statement, which is come to, and one that isn't
pub back_in : (exits : List ℕ) (n : ℕ) (ss all : List CodeTs) (s : CodeTs) (c : CutBlocks) → all ≡ ss ++ s ∷ [] → length ss < n →
    back exits (take n ss) (cut exits (plain_ts s) c) ≡ back exits (take n all) c
back_in exits n ss all s c e h =
    let k : length (ss ++ s ∷ []) ≤ n = omega (arith, length-append ss (s ∷ [])) in
    let k' : length ss ≤ n = omega arith in
    ap (λ xs. back exits xs (cut exits (plain_ts s) c)) (take_all n ss k')
    ∙ (sym (back_last exits ss s c) ∙ ap (λ xs. back exits xs c) (sym (take_all n (ss ++ s ∷ []) k) ∙ ap (take n) (sym e)))

pub back_out : (exits : List ℕ) (n : ℕ) (ss all : List CodeTs) (s : CodeTs) (c : CutBlocks) → all ≡ ss ++ s ∷ [] → n ≤ length ss →
    back exits (take n ss) c ≡ back exits (take n all) c
back_out exits n ss all s c e h = ap (λ xs. back exits xs c) (sym (take-append-le n ss (s ∷ []) h) ∙ ap (take n) (sym e))

-- how many are come to, counted from a place on
pub count_begins : (all : List CodeTs) → come_to all ≡ 0 + come_to (drop 0 all)
count_begins all = omega arith

pub count_goes_on : (all : List CodeTs) (i : ℕ) (d : CodeTs) → i < length all → leaves (plain_ts (get_or all i d)) ≡ false →
    come_to all ≡ i + come_to (drop i all) → come_to all ≡ (i + 1) + come_to (drop (i + 1) all)
count_goes_on all i d h b e =
    let rest : ℕ = come_to (drop (suc i) all) in
    let step : come_to (drop i all) ≡ suc rest = ap come_to (drop-cons all i d h) ∙ ap (λ v. if v then 1 else suc rest) b in
    let one : drop (i + 1) all ≡ drop (suc i) all = rw add-one refl in
    let last : come_to (drop (i + 1) all) ≡ rest = ap come_to one in
    omega arith

pub count_leaves : (all : List CodeTs) (i : ℕ) (d : CodeTs) → i < length all → leaves (plain_ts (get_or all i d)) ≡ true →
    come_to all ≡ i + come_to (drop i all) → i + 1 ≡ come_to all
count_leaves all i d h b e =
    let rest : ℕ = come_to (drop (suc i) all) in
    let step : come_to (drop i all) ≡ 1 = ap come_to (drop-cons all i d h) ∙ ap (λ v. if v then 1 else suc rest) b in
    omega arith

pub count_ends : (all : List CodeTs) → come_to all ≡ length all + come_to (drop (length all) all) → length all ≡ come_to all
count_ends all e =
    let last : come_to (drop (length all) all) ≡ 0 = ap come_to (drop-length all) in
    omega arith

-- none is left
take_nothing : (n : ℕ) (none : List CodeTs) → none ≡ [] → take n none ≡ none
take_nothing n none e =
    let h : length none ≤ n = subst (λ (xs : List CodeTs). length xs ≤ n) (sym e) (omega arith) in
    take_all n none h

pub back_none : (exits : List ℕ) (n : ℕ) (ss : List CodeTs) (c whole : CutBlocks) → length ss ≤ 0 → back exits (take n ss) c ≡ whole → c ≡ whole
back_none exits n ss c whole h e =
    let none : ss ≡ [] = none_there ss h in
    sym (ap (λ xs. back exits xs c) (take_nothing n ss none ∙ none)) ∙ e
