-- The places of the marks of a code, found from its end.
use Rattle.std.proofs.Common.{◌≡◌, ◌<◌, ◌≤◌, ◌+◌, ℕ, suc, Bool, true, false, nat_eq, ◌||◌, cond, List, ◌∷◌, Option, Some, None, length, get_or, drop}
use Rattle.std.proofs.Common.{refl, sym, ap, ◌∙◌, arith, ⊎_elim}
use Rattle.std.specs.List.{list_any}
use Rattle.std.proofs.lemmas.Bool.{cases_eq, eq-eqb, ne_eqb}
use Rattle.std.proofs.lemmas.List.{drop_more, drop_all}
use Rattle.tg_instr.specs.declared.instr.Instr.{Instr}
use Rattle.tg_instr.specs.declared.instr.Instr.TheVariants.{Mark}
use Rattle.tg_instr.specs.Codes.{is_mark}
use Rattle.tg_live.specs.Flow.{place_of}

-- the place of a mark that stands at this place or after it
abbrev pub place_from : (at : ℕ) → List Instr → (mark : ℕ) → Option ℕ
place_from at rest m = cond (list_any (is_mark m) rest) (Some (at + place_of m rest)) None

pub none_from_end : (at : ℕ) (list : List Instr) (m : ℕ) → length list ≤ at → place_from at (drop at list) m ≡ None
none_from_end at list m l = ap (λ rest. place_from at rest m) (drop_all at list l)

pub place_from_all : (list : List Instr) (m : ℕ) → list_any (is_mark m) list ≡ true →
    place_from 0 (drop 0 list) m ≡ Some (place_of m list)
place_from_all list m h =
    let e : 0 + place_of m list ≡ place_of m list = omega arith in
    ap (λ b. cond b (Some (0 + place_of m list)) None) h ∙ ap Some e

place_behind : (at : ℕ) (b : Bool) (rest : List Instr) (m : ℕ) → b ≡ false →
    place_from (at + 1) rest m ≡ cond (b || list_any (is_mark m) rest) (Some
    (at + cond b 0 (suc (place_of m rest)))) None
place_behind at b rest m e =
    let n : at + suc (place_of m rest) ≡ at + 1 + place_of m rest = omega arith in
    sym (ap (λ c. cond (c || list_any (is_mark m) rest) (Some (at + cond c 0 (suc (place_of m rest)))) None) e
    ∙ ap (λ k. cond (list_any (is_mark m) rest) (Some k) None) n)

mark_by : (at : ℕ) (b : Bool) (rest : List Instr) (m : ℕ) →
    cond (b || list_any (is_mark m) rest) (Some (at + cond b 0 (suc (place_of m rest)))) None ≡ cond b (Some
    at) (place_from (at + 1) rest m)
mark_by at true rest m = let e : at + 0 ≡ at = omega arith in ap Some e
mark_by at false rest m = sym (place_behind at false rest m refl)

same_turned : (j k : ℕ) → nat_eq j k ≡ nat_eq k j
same_turned j k = ⊎_elim (λ e. eq-eqb j k e ∙ sym (eq-eqb k j (sym e))) (λ ne. ne_eqb j k ne
    ∙ sym (ne_eqb k j (λ e. ne (sym e)))) (cases_eq j k)

pub place_at_mark : (at : ℕ) (list : List Instr) (one : Instr) (k m : ℕ) → at < length list →
    one ≡ get_or list at one → one ≡ Mark k →
    cond (nat_eq k m) (Some at) (place_from (at + 1) (drop (at + 1) list) m) ≡ place_from at (drop at list) m
place_at_mark at list one k m l is e =
    sym (ap (λ u. place_from at u m) (drop_more list at one l ∙ ap (λ i. i ∷ drop (at + 1) list) (sym is ∙ e))
    ∙ (mark_by at (nat_eq m k) (drop (at + 1) list) m
    ∙ ap (λ b. cond b (Some at) (place_from (at + 1) (drop (at + 1) list) m)) (same_turned m k)))

no_mark : (one : Instr) → ((k : ℕ) → one ≡ Mark k → ⊥) → (m : ℕ) → is_mark m one ≡ false
no_mark (Mark k) h m = absurd (h k refl)
no_mark _ h m = refl

pub place_at_other : (at : ℕ) (list : List Instr) (one : Instr) (m : ℕ) → at < length list →
    one ≡ get_or list at one → ((k : ℕ) → one ≡ Mark k → ⊥) →
    place_from (at + 1) (drop (at + 1) list) m ≡ place_from at (drop at list) m
place_at_other at list one m l is h =
    place_behind at (is_mark m one) (drop (at + 1) list) m (no_mark one h m)
    ∙ sym (ap (λ u. place_from at u m) (drop_more list at one l ∙ ap (λ i. i ∷ drop (at + 1) list) (sym is)))
