-- Each shape of instruction changes its definitions alone, and reads its uses alone.
use Rattle.std.proofs.Common.{◌≡◌, ℕ, ◌-◌, ◌==◌, ◌&&◌, ◌||◌, Bool, true, false, List, [], ◌∷◌, ◌++◌, map, nat_lt, if◌then◌else◌, refl, ap}
use Rattle.std.proofs.lemmas.Bool.{eqb-true}
use Rattle.tg_tree.specs.Actions.{World, Activation, wrong, with_word, with_given, with_memory, service}
use Rattle.tg_tree.specs.Operators.{holds}
use Rattle.tg_tree.specs.Memory.{slot, literal_address}
use Rattle.tg_base.specs.Words.{add}
use Rattle.tg_instr.specs.declared.operands.Opnd.{Opnd}
use Rattle.tg_instr.specs.declared.operands.Opnd.TheVariants.{Temp, Reg}
use Rattle.tg_instr.specs.Operands.{is_same, registers}
use Rattle.tg_instr.specs.Shapes.{Holder, Operand, Hi, Lo, From0, From1, From2, Halves, Copy, Loads, Stores, FromSlot, ToSlot, Base, AddressOf, Here}
use Rattle.tg_instr.specs.Shapes.{Goes, Tests, Calls, Asks, Fails, Returns}
use Rattle.tg_instr.specs.Uses.{arguments, given_back}
use Rattle.tg_instr.specs.Contents.{Content, Nothing, Word, Contents, is_holder, set, held, handed, is_in, is_among, at_entry, left_unset, after_call}
use Rattle.tg_instr.specs.Contents.{is_found, gives_back, content_of}
use Rattle.tg_instr.specs.Meaning.{Next, Around, with_content_word, with_content, put_in, put_slot, jump, skip}
use Rattle.tg_instr.specs.laws.Laws as law
use Rattle.tg_instr.specs.laws.Laws.{within, only, Agree, changes, reads}

-- Changes.

set_within_by : (b : Bool) (c d : Content) → (if b then c else d) ≡ (if b || false then (if b then c else d) else d)
set_within_by true c d = refl
set_within_by false c d = refl

set_within : (x : Holder) (c : Content) (s : Contents) → set x c s ≡ within (x ∷ []) (set x c s) s
set_within x c s = λ i y. set_within_by (is_holder y x) c (s y) i

put_within : (x : Opnd) (c : Content) (e : Around) (next : Next) (w : World) (s : Contents) →
    put_in x c e next w s ≡ put_in x c e (λ w1 s1. next w1 (within (Operand x ∷ []) s1 s)) w s
put_within x c e next w s = λ i. if is_same x (Reg 29) then wrong w else next w (set_within (Operand x) c s i)

halves_within : (h l : Content) (s : Contents) → set Lo l (set Hi h s) ≡ within (Hi ∷ Lo ∷ []) (set Lo l (set Hi h s)) s
halves_within h l s = λ i y. at y i
  where
    at : (y : Holder) → set Lo l (set Hi h s) y ≡ within (Hi ∷ Lo ∷ []) (set Lo l (set Hi h s)) s y
    at (Operand x) = refl
    at Hi = refl
    at Lo = refl

call_within_by : (b a : Bool) (c d : Content) →
    (if b then c else if b || a then Nothing else d) ≡ (if b || a then (if b then c else if b || a then Nothing else d) else d)
call_within_by true a c d = refl
call_within_by false true c d = refl
call_within_by false false c d = refl

-- what a call leaves unset after $v0
others : List Holder
others =
    map (λ x. Operand x) (registers (3 ∷ 4 ∷ 5 ∷ 6 ∷ 7 ∷ 8 ∷ 9 ∷ 10 ∷ 11 ∷ 12 ∷ 13 ∷ 14 ∷ 15 ∷ 24 ∷ 25 ∷ 31 ∷ [])) ++ (Hi ∷ Lo ∷ [])

call_within : (c : Content) (s : Contents) → after_call c s ≡ within left_unset (after_call c s) s
unfolding others
call_within c s = λ i y. call_within_by (is_holder y (Operand (Reg 2))) (is_among y others) c (s y) i

test_within : (b : Bool) (m : ℕ) (e : Around) (next : Next) (w : World) (s : Contents) →
    (if b then jump m else skip) e next w s ≡ (if b then jump m else skip) e (λ w1 s1. next w1 (within [] s1 s)) w s
test_within true m e next w s = refl
test_within false m e next w s = refl

pub changes_definitions : law.ChangesDefinitions
changes_definitions room literals enter (From0 to n) e next w s = put_within to (Word n) e next w s
changes_definitions room literals enter (From1 to from f) e next w s =
    λ i. with_content_word (held e.activation s from) w (λ u. with_given (f u) w (λ r. put_within to (Word r) e next w s i))
changes_definitions room literals enter (From2 to left right f) e next w s =
    λ i. with_content_word (held e.activation s (Operand left)) w (λ u. with_content_word (held e.activation s (Operand right)) w (λ v.
    with_given (f u v) w (λ r. put_within to (Word r) e next w s i)))
changes_definitions room literals enter (Halves left right low high) e next w s =
    λ i. with_content_word (held e.activation s (Operand left)) w (λ u. with_content_word (held e.activation s (Operand right)) w (λ v.
    with_given (low u v) w (λ l. with_given (high u v) w (λ h. next w (halves_within (Word h) (Word l) s i)))))
changes_definitions room literals enter (Copy to from) e next w s =
    λ i. with_content (held e.activation s (Operand from)) w (λ c. put_within to c e next w s i)
changes_definitions room literals enter (Loads to base n f) e next w s =
    λ i. with_content_word (held e.activation s (Operand base)) w (λ a. with_word (f w.memory (add a n)) w (λ v. put_within to (Word v) e next w s i))
changes_definitions room literals enter (Stores from base n f) e next w s = refl
changes_definitions room literals enter (FromSlot to k) e next w s =
    λ i. if nat_lt k e.slots then with_content (content_of (w.memory.stack (slot e.activation.base k))) w (λ c. put_within to c e next w s i) else wrong w
changes_definitions room literals enter (ToSlot from k) e next w s = refl
changes_definitions room literals enter (Base to) e next w s = put_within to (Word e.activation.base) e next w s
changes_definitions room literals enter (AddressOf to label) e next w s =
    λ i. with_word (literal_address literals label) w (λ v. put_within to (Word v) e next w s i)
changes_definitions room literals enter (Here m) e next w s = refl
changes_definitions room literals enter (Goes m) e next w s = refl
changes_definitions room literals enter (Tests rel left right m) e next w s =
    λ i. with_content_word (held e.activation s (Operand left)) w (λ u. with_content_word (held e.activation s (Operand right)) w (λ v.
    test_within (holds rel u v) m e next w s i))
changes_definitions room literals enter (Calls label) e next w s =
    λ i. enter label (at_entry s) (e.activation.base - e.activation.size) (λ c w1. next w1 (call_within c s i)) w
changes_definitions room literals enter Asks e next w s =
    λ i. with_content_word (held e.activation s (Operand (Reg 2))) w (λ n. with_content_word (held e.activation s (Operand (Reg 4))) w (λ u.
    service room n u w (λ v w1. next w1 (set_within (Operand (Reg 2)) (Word v) s i))))
changes_definitions room literals enter (Fails n) e next w s = refl
changes_definitions room literals enter Returns e next w s = refl

-- Reads.

held_same : (a : Activation) (x : Holder) (s t : Contents) → s x ≡ t x → held a s x ≡ held a t x
held_same a (Operand (Reg r)) s t h = ap (λ c. if r == 0 then Word 0 else if r == 29 then Word (a.base - a.size) else c) h
held_same a (Operand (Temp i)) s t h = h
held_same a Hi s t h = h
held_same a Lo s t h = h

only_set_by : (b : Bool) (c d d' : Content) →
    (if b || false then (if b then c else d) else Nothing) ≡ (if b || false then (if b then c else d') else Nothing)
only_set_by true c d d' = refl
only_set_by false c d d' = refl

only_set : (x : Holder) (c : Content) (s t : Contents) → only (x ∷ []) (set x c s) ≡ only (x ∷ []) (set x c t)
only_set x c s t = λ i y. only_set_by (is_holder y x) c (s y) (t y) i

put_only : (x : Opnd) (c : Content) (e : Around) (next : Next) (w : World) (s t : Contents) →
    put_in x c e (λ w1 s1. next w1 (only (Operand x ∷ []) s1)) w s ≡ put_in x c e (λ w1 s1. next w1 (only (Operand x ∷ []) s1)) w t
put_only x c e next w s t = λ i. if is_same x (Reg 29) then wrong w else next w (only_set (Operand x) c s t i)

only_halves : (h l : Content) (s t : Contents) → only (Hi ∷ Lo ∷ []) (set Lo l (set Hi h s)) ≡ only (Hi ∷ Lo ∷ []) (set Lo l (set Hi h t))
only_halves h l s t = λ i y. at y i
  where
    at : (y : Holder) → only (Hi ∷ Lo ∷ []) (set Lo l (set Hi h s)) y ≡ only (Hi ∷ Lo ∷ []) (set Lo l (set Hi h t)) y
    at (Operand x) = refl
    at Hi = refl
    at Lo = refl

only_call_by : (b a : Bool) (c d d' : Content) →
    (if b || a then (if b then c else if b || a then Nothing else d) else Nothing)
    ≡ (if b || a then (if b then c else if b || a then Nothing else d') else Nothing)
only_call_by true a c d d' = refl
only_call_by false true c d d' = refl
only_call_by false false c d d' = refl

only_call : (c : Content) (s t : Contents) → only left_unset (after_call c s) ≡ only left_unset (after_call c t)
unfolding others
only_call c s t = λ i y. only_call_by (is_holder y (Operand (Reg 2))) (is_among y others) c (s y) (t y) i

gives_same : (rs : List ℕ) (s t : Contents) → Agree (map (λ x. Operand x) (registers rs)) s t → gives_back rs s ≡ gives_back rs t
gives_same [] s t h = refl
gives_same (r ∷ rs) s t h = λ i. is_found r (h.0 i) && gives_same rs s t h.1 i

handed_at : (b : Bool) (r n : ℕ) (rs : List ℕ) (s t : Contents) (d : Content) → (r == n) ≡ b →
    s (Operand (Reg n)) ≡ t (Operand (Reg n)) →
    (if is_in r rs then handed (s (Operand (Reg r))) else d) ≡ (if is_in r rs then handed (t (Operand (Reg r))) else d) →
    (if r == n || is_in r rs then handed (s (Operand (Reg r))) else d) ≡ (if r == n || is_in r rs then handed (t (Operand (Reg r))) else d)
handed_at true r n rs s t d is h rest =
    let same : r ≡ n = eqb-true r n is in
    rw (is, same) (ap (λ c. handed c) h)
handed_at false r n rs s t d is h rest = rw (is) rest

handed_same : (rs : List ℕ) (s t : Contents) (r : ℕ) (d : Content) → Agree (map (λ x. Operand x) (registers rs)) s t →
    (if is_in r rs then handed (s (Operand (Reg r))) else d) ≡ (if is_in r rs then handed (t (Operand (Reg r))) else d)
handed_same [] s t r d h = refl
handed_same (n ∷ rs) s t r d h = handed_at (r == n) r n rs s t d refl h.0 (handed_same rs s t r d h.1)

entry_same : (s t : Contents) → Agree (map (λ x. Operand x) (registers arguments)) s t → at_entry s ≡ at_entry t
entry_same s t h = λ i y. at y i
  where
    at : (y : Holder) → at_entry s y ≡ at_entry t y
    at (Operand (Reg r)) = handed_same arguments s t r _ h
    at (Operand (Temp j)) = refl
    at Hi = refl
    at Lo = refl

test_reads : (b : Bool) (m : ℕ) (e : Around) (next : Next) (w : World) (s t : Contents) →
    ((k : ℕ) (w1 : World) → e.jumps k w1 s ≡ e.jumps k w1 t) →
    (if b then jump m else skip) e (λ w1 s1. next w1 (only [] s1)) w s
    ≡ (if b then jump m else skip) e (λ w1 s1. next w1 (only [] s1)) w t
test_reads true m e next w s t j = j m w
test_reads false m e next w s t j = refl

pub reads_uses : law.ReadsUses
reads_uses room literals enter (From0 to n) e next w s t h j = put_only to (Word n) e next w s t
reads_uses room literals enter (From1 to (Operand x) f) e next w s t h j =
    λ i. with_content_word (held_same e.activation (Operand x) s t h.0 i) w (λ u. with_given (f u) w (λ r. put_only to (Word r) e next w s t i))
reads_uses room literals enter (From1 to Hi f) e next w s t h j =
    λ i. with_content_word (h.0 i) w (λ u. with_given (f u) w (λ r. put_only to (Word r) e next w s t i))
reads_uses room literals enter (From1 to Lo f) e next w s t h j =
    λ i. with_content_word (h.0 i) w (λ u. with_given (f u) w (λ r. put_only to (Word r) e next w s t i))
reads_uses room literals enter (From2 to left right f) e next w s t h j =
    λ i. with_content_word (held_same e.activation (Operand left) s t h.0 i) w (λ u.
    with_content_word (held_same e.activation (Operand right) s t h.1.0 i) w (λ v.
    with_given (f u v) w (λ r. put_only to (Word r) e next w s t i)))
reads_uses room literals enter (Halves left right low high) e next w s t h j =
    λ i. with_content_word (held_same e.activation (Operand left) s t h.0 i) w (λ u.
    with_content_word (held_same e.activation (Operand right) s t h.1.0 i) w (λ v.
    with_given (low u v) w (λ l. with_given (high u v) w (λ g. next w (only_halves (Word g) (Word l) s t i)))))
reads_uses room literals enter (Copy to from) e next w s t h j =
    λ i. with_content (held_same e.activation (Operand from) s t h.0 i) w (λ c. put_only to c e next w s t i)
reads_uses room literals enter (Loads to base n f) e next w s t h j =
    λ i. with_content_word (held_same e.activation (Operand base) s t h.0 i) w (λ a.
    with_word (f w.memory (add a n)) w (λ v. put_only to (Word v) e next w s t i))
reads_uses room literals enter (Stores from base n f) e next w s t h j =
    λ i. with_content_word (held_same e.activation (Operand base) s t h.1.0 i) w (λ a.
    with_content_word (held_same e.activation (Operand from) s t h.0 i) w (λ v.
    with_memory (f w.memory (add a n) v) w (λ w1. next w1 (λ x. Nothing))))
reads_uses room literals enter (FromSlot to k) e next w s t h j =
    λ i. if nat_lt k e.slots then with_content (content_of (w.memory.stack (slot e.activation.base k))) w (λ c. put_only to c e next w s t i) else wrong w
reads_uses room literals enter (ToSlot from k) e next w s t h j =
    λ i. with_content (held_same e.activation (Operand from) s t h.0 i) w (λ c. put_slot k c e next w (λ x. Nothing))
reads_uses room literals enter (Base to) e next w s t h j = put_only to (Word e.activation.base) e next w s t
reads_uses room literals enter (AddressOf to label) e next w s t h j =
    λ i. with_word (literal_address literals label) w (λ v. put_only to (Word v) e next w s t i)
reads_uses room literals enter (Here m) e next w s t h j = refl
reads_uses room literals enter (Goes m) e next w s t h j = j m w
reads_uses room literals enter (Tests rel left right m) e next w s t h j =
    λ i. with_content_word (held_same e.activation (Operand left) s t h.0 i) w (λ u.
    with_content_word (held_same e.activation (Operand right) s t h.1.0 i) w (λ v.
    test_reads (holds rel u v) m e next w s t j i))
reads_uses room literals enter (Calls label) e next w s t h j =
    λ i. enter label (entry_same s t h i) (e.activation.base - e.activation.size) (λ c w1. next w1 (only_call c s t i)) w
reads_uses room literals enter Asks e next w s t h j =
    λ i. with_content_word (h.0 i) w (λ n. with_content_word (h.1.0 i) w (λ u.
    service room n u w (λ v w1. next w1 (only_set (Operand (Reg 2)) (Word v) s t i))))
reads_uses room literals enter (Fails n) e next w s t h j = refl
reads_uses room literals enter Returns e next w s t h j =
    λ i. if gives_same given_back s t h.1 i then e.back (handed (h.0 i)) w else wrong w
