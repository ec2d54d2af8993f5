-- The tests of spelling are exact.
use Rattle.std.proofs.Common.{ℕ, suc, ◌+◌, ◌≡◌, ◌≤◌, List, [], ◌∷◌, Bool, true, false, drop, refl, sym, ap, subst, ◌∙◌, arith}
use Rattle.std.specs.Prelude.{◌==◌, ◌||◌, if◌then◌else◌}
use Rattle.std.specs.List.{common_prefix_len}
use Rattle.std.specs.Str.{bytes_eq}
use Rattle.std.proofs.lemmas.Bool.Decides.{nat_tests}
use Rattle.std.proofs.lemmas.Slice.Eq.{bytes_eq-Decides}
use Rattle.tg_explain_types.specs.Edits.{Edits, done, kept, left_out, put_in, replaced, AreWithin}
use Rattle.tg_explain_types.specs.Spelling.{edited, is_one_edit}
use Rattle.tg_explain_types.specs.laws.Distances.{TestsOneEdit, TestsTwoEdits}

more : {k : ℕ} {one other : List ℕ} → AreWithin k one other → AreWithin (suc k) one other
more h = let few = h.few in record { count = h.count; few = omega arith; edits = h.edits }

without : {k : ℕ} {one other : List ℕ} (b : ℕ) → AreWithin k one other → AreWithin (suc k) (b ∷ one) other
without b h = let few = h.few in record { count = suc h.count; few = omega arith; edits = left_out b h.edits }

with_one : {k : ℕ} {one other : List ℕ} (b : ℕ) → AreWithin k one other → AreWithin (suc k) one (b ∷ other)
with_one b h = let few = h.few in record { count = suc h.count; few = omega arith; edits = put_in b h.edits }

other_one : {k : ℕ} {one other : List ℕ} (a b : ℕ) → AreWithin k one other → AreWithin (suc k) (a ∷ one) (b ∷ other)
other_one a b h = let few = h.few in record { count = suc h.count; few = omega arith; edits = replaced a b h.edits }

same_one : {k : ℕ} {one other : List ℕ} (b : ℕ) → AreWithin k one other → AreWithin k (b ∷ one) (b ∷ other)
same_one b h = record { count = h.count; few = h.few; edits = kept b h.edits }

here : {n : ℕ} {one other : List ℕ} → Edits n one other → AreWithin n one other
here {n} h = record { count = n; few = omega arith; edits = h }

head_is : {a b : ℕ} {xs ys : List ℕ} → a ∷ xs ≡ b ∷ ys → a ≡ b
head_is h = cc

rest_is : {a b : ℕ} {xs ys : List ℕ} → a ∷ xs ≡ b ∷ ys → xs ≡ ys
rest_is h = cc

none_is : {C : Type 0} {b : ℕ} {bs : List ℕ} → [] ≡ b ∷ bs → C
none_is h = cc

-- without its first byte a text is one edit further at most
right_rest : {n : ℕ} {one all : List ℕ} → Edits n one all → (b : ℕ) (other : List ℕ) → all ≡ b ∷ other → AreWithin (suc n) one other
right_rest done b other p = none_is p
right_rest (kept {n} {one} c h) b other p = without c (here (subst (λ w. Edits n one w) (rest_is p) h))
right_rest (left_out c h) b other p = without c (right_rest h b other p)
right_rest (put_in {n} {one} c h) b other p = more (more (here (subst (λ w. Edits n one w) (rest_is p) h)))
right_rest (replaced {n} {one} a c h) b other p = more (without a (here (subst (λ w. Edits n one w) (rest_is p) h)))

left_rest : {n : ℕ} {all other : List ℕ} → Edits n all other → (b : ℕ) (one : List ℕ) → all ≡ b ∷ one → AreWithin (suc n) one other
left_rest done b one p = none_is p
left_rest (kept {n} {other} c h) b one p = with_one c (here (subst (λ w. Edits n w other) (rest_is p) h))
left_rest (left_out {n} {other} c h) b one p = more (more (here (subst (λ w. Edits n w other) (rest_is p) h)))
left_rest (put_in c h) b one p = with_one c (left_rest h b one p)
left_rest (replaced {n} {other} a c h) b one p = more (with_one c (here (subst (λ w. Edits n w other) (rest_is p) h)))

-- a first byte that both have needs no edit
cancelled : {n : ℕ} {all whole : List ℕ} → Edits n all whole → (b : ℕ) (one other : List ℕ) → all ≡ b ∷ one → whole ≡ b ∷ other → AreWithin n one other
cancelled done b one other p q = none_is p
cancelled (kept {n} {one = xs} c h) b one other p q = here (subst (λ w. Edits n w other) (rest_is p) (subst (λ w. Edits n xs w) (rest_is q) h))
cancelled (left_out {n} {other = whole} c h) b one other p q = right_rest (subst (λ w. Edits n w whole) (rest_is p) h) b other q
cancelled (put_in {n} {one = all} c h) b one other p q = left_rest (subst (λ w. Edits n all w) (rest_is q) h) b one p
cancelled (replaced {n} {one = xs} a c h) b one other p q = more (here (subst (λ w. Edits n w other) (rest_is p) (subst (λ w. Edits n xs w) (rest_is q) h)))

cancel : {k : ℕ} (b : ℕ) (one other : List ℕ) → AreWithin k (b ∷ one) (b ∷ other) → AreWithin k one other
cancel b one other h =
    let c = cancelled h.edits b one other refl refl in
    let few = h.few in let less = c.few in record { count = c.count; few = omega arith; edits = c.edits }

-- the test of one more edit, behind so many bytes
abbrev behind : (test : List ℕ → List ℕ → Bool) (one other : List ℕ) → ℕ → Bool
behind test one other n =
    test (drop 1 (drop n one)) (drop n other) || test (drop n one) (drop 1 (drop n other)) || test (drop 1 (drop n one)) (drop 1 (drop n other))

abbrev alike : List ℕ → List ℕ → ℕ
alike one other = common_prefix_len (λ a b. a == b) one other

-- behind a first byte that both have it is that of the rests
behind_same : (test : List ℕ → List ℕ → Bool) (a b : ℕ) (one other : List ℕ) → (a == b) ≡ true →
    edited test (a ∷ one) (b ∷ other) ≡ edited test one other
behind_same test a b one other e =
    ap (behind test (a ∷ one) (b ∷ other)) (ap (λ w. if w then 1 + alike one other else 0) e ∙ one_more)
  where
    one_more : 1 + alike one other ≡ suc (alike one other)
    one_more = omega arith

-- and where the first bytes differ it is that of the whole texts
behind_none : (test : List ℕ → List ℕ → Bool) (a b : ℕ) (one other : List ℕ) → (a == b) ≡ false →
    edited test (a ∷ one) (b ∷ other) ≡ (test one (b ∷ other) || test (a ∷ one) other || test one other)
behind_none test a b one other e = ap (behind test (a ∷ one) (b ∷ other)) (ap (λ w. if w then 1 + alike one other else 0) e)

by_three : {C : Type 0} (x y z : Bool) → (x || y || z) ≡ true → (x ≡ true → C) → (y ≡ true → C) → (z ≡ true → C) → C
by_three true y z h f g k = f refl
by_three false true z h f g k = g refl
by_three false false true h f g k = k refl
by_three false false false h f g k = cc

first_of : (x y z : Bool) → x ≡ true → (x || y || z) ≡ true
first_of true y z h = refl
first_of false y z h = cc

second_of : (x y z : Bool) → y ≡ true → (x || y || z) ≡ true
second_of true y z h = refl
second_of false true z h = refl
second_of false false z h = cc

third_of : (x y z : Bool) → z ≡ true → (x || y || z) ≡ true
third_of true y z h = refl
third_of false true z h = refl
third_of false false z h = h

is_same : (a b : ℕ) → (a == b) ≡ true → a ≡ b
is_same a b e = grind (arith, nat_tests, e)

is_other : (a b : ℕ) → (a == b) ≡ false → a ≡ b → ⊥
is_other a b e h = grind (arith, nat_tests, e)

-- a step of what follows
sound_step : (k : ℕ) (test : List ℕ → List ℕ → Bool) → ((one other : List ℕ) → test one other ≡ true → AreWithin k one other) →
    (a b : ℕ) (one other : List ℕ) → (edited test one other ≡ true → AreWithin (suc k) one other) → edited test (a ∷ one) (b ∷ other) ≡ true →
    (x : Bool) → (a == b) ≡ x → AreWithin (suc k) (a ∷ one) (b ∷ other)
sound_step k test h a b one other rest e true q =
    subst (λ w. AreWithin (suc k) (a ∷ one) (w ∷ other)) (is_same a b q) (same_one a (rest (sym (behind_same test a b one other q) ∙ e)))
sound_step k test h a b one other rest e false q =
    by_three (test one (b ∷ other)) (test (a ∷ one) other) (test one other) (sym (behind_none test a b one other q) ∙ e)
    (λ r. without a (h one (b ∷ other) r)) (λ r. with_one b (h (a ∷ one) other r)) (λ r. other_one a b (h one other r))

-- the test of one more edit is sound
sound : (k : ℕ) (test : List ℕ → List ℕ → Bool) → ((one other : List ℕ) → test one other ≡ true → AreWithin k one other) →
    (one other : List ℕ) → edited test one other ≡ true → AreWithin (suc k) one other
sound k test h [] [] e =
    by_three (test [] []) (test [] []) (test [] []) e (λ q. more (h [] [] q)) (λ q. more (h [] [] q)) (λ q. more (h [] [] q))
sound k test h [] (b ∷ other) e =
    by_three (test [] (b ∷ other)) (test [] other) (test [] other) e (λ q. more (h [] (b ∷ other) q)) (λ q. with_one b (h [] other q))
    (λ q. with_one b (h [] other q))
sound k test h (a ∷ one) [] e =
    by_three (test one []) (test (a ∷ one) []) (test one []) e (λ q. without a (h one [] q)) (λ q. more (h (a ∷ one) [] q)) (λ q. without a (h one [] q))
sound k test h (a ∷ one) (b ∷ other) e = sound_step k test h a b one other (sound k test h one other) e (a == b) refl

-- what edits may come first where the first bytes differ
data FirstEdit (k : ℕ) (a b : ℕ) (one other : List ℕ) : Type 0 where
  leaves : AreWithin k one (b ∷ other) → FirstEdit k a b one other
  puts : AreWithin k (a ∷ one) other → FirstEdit k a b one other
  replaces : AreWithin k one other → FirstEdit k a b one other

first_edit : {n : ℕ} {all whole : List ℕ} → Edits n all whole → (k a b : ℕ) (one other : List ℕ) → n ≤ suc k → all ≡ a ∷ one → whole ≡ b ∷ other →
    (a ≡ b → ⊥) → FirstEdit k a b one other
first_edit done k a b one other l p q n = none_is p
first_edit (kept c h) k a b one other l p q n = absurd (n (sym (head_is p) ∙ head_is q))
first_edit (left_out {n = m} {one = rest} {other = whole} c h) k a b one other l p q n =
    leaves (record { count = m; few = omega arith; edits = subst (λ w. Edits m w (b ∷ other)) (rest_is p) (subst (λ w. Edits m rest w) q h) })
first_edit (put_in {n = m} {one = all} {other = rest} c h) k a b one other l p q n =
    puts (record { count = m; few = omega arith; edits = subst (λ w. Edits m w other) p (subst (λ w. Edits m all w) (rest_is q) h) })
first_edit (replaced {n = m} {one = all} {other = rest} c d h) k a b one other l p q n =
    replaces (record { count = m; few = omega arith; edits = subst (λ w. Edits m w other) (rest_is p) (subst (λ w. Edits m all w) (rest_is q) h) })

-- of an empty text and another, the first byte of that is put in
puts_first : {n : ℕ} {all whole : List ℕ} → Edits n all whole → (k b : ℕ) (other : List ℕ) → n ≤ suc k → all ≡ [] → whole ≡ b ∷ other →
    AreWithin k [] other
puts_first done k b other l p q = none_is q
puts_first (kept c h) k b other l p q = none_is (sym p)
puts_first (left_out c h) k b other l p q = none_is (sym p)
puts_first (put_in {n = m} {one = all} {other = rest} c h) k b other l p q =
    record { count = m; few = omega arith; edits = subst (λ w. Edits m w other) p (subst (λ w. Edits m all w) (rest_is q) h) }
puts_first (replaced c d h) k b other l p q = none_is (sym p)

leaves_first : {n : ℕ} {all whole : List ℕ} → Edits n all whole → (k a : ℕ) (one : List ℕ) → n ≤ suc k → all ≡ a ∷ one → whole ≡ [] →
    AreWithin k one []
leaves_first done k a one l p q = none_is p
leaves_first (kept c h) k a one l p q = none_is (sym q)
leaves_first (left_out {n = m} {one = rest} {other = whole} c h) k a one l p q =
    record { count = m; few = omega arith; edits = subst (λ w. Edits m w []) (rest_is p) (subst (λ w. Edits m rest w) q h) }
leaves_first (put_in c h) k a one l p q = none_is (sym q)
leaves_first (replaced c d h) k a one l p q = none_is (sym q)

by_first : (k : ℕ) (test : List ℕ → List ℕ → Bool) → ((one other : List ℕ) → AreWithin k one other → test one other ≡ true) →
    (a b : ℕ) (one other : List ℕ) → FirstEdit k a b one other → (test one (b ∷ other) || test (a ∷ one) other || test one other) ≡ true
by_first k test h a b one other (leaves r) = first_of (test one (b ∷ other)) (test (a ∷ one) other) (test one other) (h one (b ∷ other) r)
by_first k test h a b one other (puts r) = second_of (test one (b ∷ other)) (test (a ∷ one) other) (test one other) (h (a ∷ one) other r)
by_first k test h a b one other (replaces r) = third_of (test one (b ∷ other)) (test (a ∷ one) other) (test one other) (h one other r)

complete_step : (k : ℕ) (test : List ℕ → List ℕ → Bool) → ((one other : List ℕ) → AreWithin k one other → test one other ≡ true) →
    (a b : ℕ) (one other : List ℕ) → (AreWithin (suc k) one other → edited test one other ≡ true) → AreWithin (suc k) (a ∷ one) (b ∷ other) →
    (x : Bool) → (a == b) ≡ x → edited test (a ∷ one) (b ∷ other) ≡ true
complete_step k test h a b one other rest w true q =
    behind_same test a b one other q ∙ rest (cancel a one other (subst (λ v. AreWithin (suc k) (a ∷ one) (v ∷ other)) (sym (is_same a b q)) w))
complete_step k test h a b one other rest w false q =
    behind_none test a b one other q ∙ by_first k test h a b one other (first_edit w.edits k a b one other w.few refl refl (is_other a b q))

-- and complete
complete : (k : ℕ) (test : List ℕ → List ℕ → Bool) → ((one other : List ℕ) → AreWithin k one other → test one other ≡ true) →
    (one other : List ℕ) → AreWithin (suc k) one other → edited test one other ≡ true
complete k test h [] [] w =
    first_of (test [] []) (test [] []) (test [] []) (h [] [] (record { count = 0; few = omega arith; edits = done }))
complete k test h [] (b ∷ other) w =
    second_of (test [] (b ∷ other)) (test [] other) (test [] other) (h [] other (puts_first w.edits k b other w.few refl refl))
complete k test h (a ∷ one) [] w =
    first_of (test one []) (test (a ∷ one) []) (test one []) (h one [] (leaves_first w.edits k a one w.few refl refl))
complete k test h (a ∷ one) (b ∷ other) w = complete_step k test h a b one other (complete k test h one other) w (a == b) refl

-- no edit at all
itself : (one : List ℕ) → AreWithin 0 one one
itself [] = record { count = 0; few = omega arith; edits = done }
itself (b ∷ one) = same_one b (itself one)

equal_sound : (one other : List ℕ) → bytes_eq one other ≡ true → AreWithin 0 one other
equal_sound one other e = subst (λ w. AreWithin 0 one w) ((bytes_eq-Decides one other).0 e) (itself one)

none_same : {n : ℕ} {one other : List ℕ} → Edits n one other → n ≤ 0 → one ≡ other
none_same done l = refl
none_same (kept b h) l = ap (λ w. b ∷ w) (none_same h l)
none_same (left_out b h) l = absurd (omega arith)
none_same (put_in b h) l = absurd (omega arith)
none_same (replaced a b h) l = absurd (omega arith)

equal_complete : (one other : List ℕ) → AreWithin 0 one other → bytes_eq one other ≡ true
equal_complete one other w = (bytes_eq-Decides one other).1 (none_same w.edits w.few)

pub one_edit : TestsOneEdit
one_edit one other =
    (sound 0 bytes_eq equal_sound one other, complete 0 bytes_eq equal_complete one other)

pub two_edits : TestsTwoEdits
two_edits one other =
    (sound 1 is_one_edit (sound 0 bytes_eq equal_sound) one other, complete 1 is_one_edit (complete 0 bytes_eq equal_complete) one other)
