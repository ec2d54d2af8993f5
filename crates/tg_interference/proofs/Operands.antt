-- Lists of operands, and of other items.
use Rattle.std.proofs.Common.{◌≡◌, ◌<◌, ◌≤◌, ℕ, zero, suc, Bool, true, List, [], ◌∷◌, length, get_or, refl, ap, ◌∙◌, arith}
use Rattle.std.specs.List.{list_all}
use Rattle.std.proofs.lemmas.Bool.{lt-ltb, ltb-true, and_parts, and_from, or_left, or_right}
use Rattle.tg_instr.specs.declared.operands.Opnd.{Opnd}
use Rattle.tg_instr.specs.declared.operands.Opnd.TheVariants.{Temp as TempOf, Reg}
use Rattle.tg_instr.specs.Operands.{is_same}
use Rattle.tg_instr.proofs.Same.{same_itself}
use Rattle.tg_instr.specs.declared.instr.Instr.{Instr}
use Rattle.tg_instr.specs.Uses.{uses_of, defs_of}
use Rattle.tg_instr.specs.Codes.{is_below, has_temps_below}
use Rattle.tg_live.specs.Live.{is_among}

-- what holds of all that is among a list holds of the list
pub all_among : (p : Opnd → Bool) (list : List Opnd) → ((x : Opnd) → is_among x list ≡ true → p x ≡ true) →
    list_all p list ≡ true
all_among p [] h = refl
all_among p (y ∷ list) h =
    and_from _ _ (h y (or_left (is_same y y) (is_among y list) (same_itself y)))
    (all_among p list (λ x a. h x (or_right (is_same x y) (is_among x list) a)))

pub all_at : {A : Type 0} (p : A → Bool) (list : List A) (k : ℕ) (d : A) → k < length list → list_all p list ≡ true →
    p (get_or list k d) ≡ true
all_at p [] k d l h = absurd (omega arith)
all_at p (y ∷ list) zero d l h = (and_parts (p y) (list_all p list) h).0
all_at p (y ∷ list) (suc k) d l h = all_at p list k d (omega arith) (and_parts (p y) (list_all p list) h).1

pub below_more : (m n : ℕ) (x : Opnd) → m ≤ n → is_below m x ≡ true → is_below n x ≡ true
below_more m n (Reg r) l b = refl
below_more m n (TempOf t) l b = let k : t.0 < m = ltb-true t.0 m b in lt-ltb t.0 n (omega arith)

pub all_below_more : (m n : ℕ) (list : List Opnd) → m ≤ n → list_all (is_below m) list ≡ true →
    list_all (is_below n) list ≡ true
all_below_more m n [] l b = refl
all_below_more m n (x ∷ list) l b =
    let k = and_parts (is_below m x) (list_all (is_below m) list) b in
    and_from _ _ (below_more m n x l k.0) (all_below_more m n list l k.1)

pub temps_below_more : (m n : ℕ) (one : Instr) → m ≤ n → has_temps_below m one ≡ true → has_temps_below n one ≡ true
temps_below_more m n one l b =
    let k = and_parts (list_all (is_below m) (uses_of one)) (list_all (is_below m) (defs_of one)) b in
    and_from _ _ (all_below_more m n (uses_of one) l k.0) (all_below_more m n (defs_of one) l k.1)

-- what holds of a list holds of the item that a loop reads
pub all_read : {A : Type 0} (p : A → Bool) (list : List A) (k : ℕ) (x : A) → k < length list → x ≡ get_or list k x →
    list_all p list ≡ true → p x ≡ true
all_read p list k x l e h = ap p e ∙ all_at p list k x l h
