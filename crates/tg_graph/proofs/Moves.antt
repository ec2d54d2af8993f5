-- Worklists, when a node is moved and when they begin.
use Rattle.std.specs.Prelude.{◌==◌, if◌then◌else◌}
use Rattle.std.proofs.Common.{◌≡◌, ◌≢◌, ℕ, ◌+◌, ◌-◌, ◌<◌, ◌≤◌, Bool, true, false, List, [], ◌∷◌, ◌++◌, length, get_or, set, replicate, slice_index}
use Rattle.std.proofs.Common.{refl, sym, ap, ◌∙◌, subst, ⊎_elim, arith}
use Rattle.std.specs.List.{range_with_len}
use Rattle.std.proofs.lemmas.Bool.{cases_eq, cases_lt, eq-eqb, ne_eqb}
use Rattle.std.proofs.lemmas.List.{get_or-set_same, get_or-set_other, length-set, length-append, length-replicate, get_or_append_left}
use Rattle.std.proofs.lemmas.List.{get_or-append_right, get_or-replicate, append-nil}
use Rattle.std.proofs.lemmas.List.FromFn.{length-range_with_len, get_or-range_with_len}
use Rattle.tg_graph.specs.declared.worklists.Worklist.{Worklist}
use Rattle.tg_graph.specs.declared.worklists.Worklist.TheVariants.{Fixed, Simplify, Freeze, Spill, Stacked, Merged}
use Rattle.tg_graph.specs.Interference.{colours, most_nodes, is_among}
use Rattle.tg_graph.specs.Lists.{lists_by, nodes_in, number, without, started_in}
use Rattle.tg_graph.specs.glue.Chains.{AreInverse, LeadsAlong, Relinks, joined_to}
use Rattle.tg_graph.specs.glue.Linking.{AreLinked, list_from, total}
use Rattle.tg_graph.proofs.Runs.{follows}
use Rattle.tg_graph.proofs.Members.{bit, among_without_same, among_without_other, length_without, among_added_same, among_added_other, among_below}
use Rattle.tg_graph.proofs.Members.{among_above, among_within}

pub nodes_by : (n : ℕ) (f : Worklist → List ℕ) (w : Worklist) → nodes_in (lists_by n f) w ≡ f w
nodes_by n f Fixed = refl
nodes_by n f Simplify = refl
nodes_by n f Freeze = refl
nodes_by n f Spill = refl
nodes_by n f Stacked = refl
nodes_by n f Merged = refl

pub number_fits : (w : Worklist) → number w < 6
number_fits Fixed = omega arith
number_fits Simplify = omega arith
number_fits Freeze = omega arith
number_fits Spill = omega arith
number_fits Stacked = omega arith
number_fits Merged = omega arith

one_fits : (n : ℕ) (f : Worklist → List ℕ) (w : Worklist) → length (f w) ≤ total (lists_by n f)
one_fits n f Fixed = omega arith
one_fits n f Simplify = omega arith
one_fits n f Freeze = omega arith
one_fits n f Spill = omega arith
one_fits n f Stacked = omega arith
one_fits n f Merged = omega arith

-- the lists that the chains make are those that they are known to be
pub settled : (n : ℕ) (next prev : List ℕ) (places : List Worklist) (f : Worklist → List ℕ) →
    AreLinked n next prev places f → list_from n next ≡ f
settled n next prev places f k =
    let same : (w : Worklist) → list_from n next w ≡ f w =
    λ w. let size : length (f w) ≤ n = omega (arith, one_fits n f w, k.fit) in
    follows (slice_index next) n (n + number w) (omega arith) (f w) n (slice_index next (n + number w)) size
    (k.runs w) in
    λ i w. same w i

pub settled_linked : (n : ℕ) (next prev : List ℕ) (places : List Worklist) (f : Worklist → List ℕ) →
    AreLinked n next prev places f →
    AreLinked n next prev places (list_from n next)
settled_linked n next prev places f k =
    subst (λ (g : Worklist → List ℕ). AreLinked n next prev places g) (sym (settled n next prev places f k)) k

-- the same chains and places
pub linked_at : (n : ℕ) (xs ys us vs : List ℕ) (ps qs : List Worklist) → xs ≡ ys → us ≡ vs → ps ≡ qs →
    AreLinked n xs us ps (list_from n xs) →
    AreLinked n ys vs qs (list_from n ys)
linked_at n xs ys us vs ps qs p q r k =
    subst (λ (zs : List Worklist). AreLinked n ys vs zs (list_from n ys)) r
    (subst (λ (zs : List ℕ). AreLinked n ys zs ps (list_from n ys)) q
    (subst (λ (zs : List ℕ). AreLinked n zs us ps (list_from n zs)) p k))

-- Ends by their numbers.

same_number : (n i j : ℕ) → (n + i == n + j) ≡ (i == j)
same_number n i j =
    ⊎_elim (λ (p : i ≡ j). eq-eqb (n + i) (n + j) (ap (λ k. n + k) p) ∙ sym (eq-eqb i j p))
    (λ (p : i ≢ j). ne_eqb (n + i) (n + j) (λ e. p (omega (arith, e))) ∙ sym (ne_eqb i j p))
    (cases_eq i j)

joined_by_number : (n i j : ℕ) (added xs : List ℕ) →
    joined_to (n + i) added xs (n + j) ≡ xs ++ (if j == i then added else [])
joined_by_number n i j added xs = ap (λ b. xs ++ (if b then added else [])) (same_number n j i)

run_of : (next : ℕ → ℕ) (n y end : ℕ) (xs ys : List ℕ) → xs ≡ ys → LeadsAlong next n y xs end → LeadsAlong next n y ys end
run_of next n y end xs ys p r = subst (λ (zs : List ℕ). LeadsAlong next n y zs end) p r

-- A node moved.

abbrev pub moved_by : (Worklist → List ℕ) → ℕ → Worklist → Worklist → List ℕ
moved_by f x l w = without x (f w) ++ (if number w == number l then x ∷ [] else [])

-- each list has a number of its own
ones : (l : Worklist) →
    bit (0 == number l) + bit (1 == number l) + bit (2 == number l) + bit (3 == number l) + bit (4 == number l) + bit
    (5 == number l) ≡ 1
ones Fixed = refl
ones Simplify = refl
ones Freeze = refl
ones Spill = refl
ones Stacked = refl
ones Merged = refl

length_if : (b : Bool) (x : ℕ) → length (if b then x ∷ [] else []) ≡ bit b
length_if true x = refl
length_if false x = refl

-- how long a list is then, where it is known whether the node was there
length_moved : (f : Worklist → List ℕ) (x : ℕ) (l : Worklist) (p w : Worklist) →
    is_among x (f w) ≡ (number w == number p) →
    length (moved_by f x l w) + bit (number w == number p) ≤ length (f w) + bit (number w == number l)
length_moved f x l p w e =
    let less = length_without x (f w) in
    let was : bit (is_among x (f w)) ≡ bit (number w == number p) = ap bit e in
    let more = length-append (without x (f w)) (if number w == number l then x ∷ [] else []) in
    let one = length_if (number w == number l) x in
    omega (arith, less, was, more, one)

fits_moved : (n : ℕ) (f : Worklist → List ℕ) (x : ℕ) (l p : Worklist) →
    ((w : Worklist) → is_among x (f w) ≡ (number w == number p)) →
    total (lists_by n f) ≤ n → total (lists_by n (moved_by f x l)) ≤ n
fits_moved n f x l p e h =
    let sum : (a b c d i j a' b' c' d' i' j' q0 q1 q2 q3 q4 q5 r0 r1 r2 r3 r4 r5 : ℕ) →
    a' + q0 ≤ a + r0 → b' + q1 ≤ b + r1 → c' + q2 ≤ c + r2 → d' + q3 ≤ d + r3 → i' + q4 ≤ i + r4 → j' + q5 ≤ j + r5 →
    q0 + q1 + q2 + q3 + q4 + q5 ≡ 1 → r0 + r1 + r2 + r3 + r4 + r5 ≡ 1 → a + b + c + d + i + j ≤ n →
    a' + b' + c' + d' + i' + j' ≤ n =
    λ a b c d i j a' b' c' d' i' j' q0 q1 q2 q3 q4 q5 r0 r1 r2 r3 r4 r5 h0 h1 h2 h3 h4 h5 s t u.
    omega (arith, h0, h1, h2, h3, h4, h5, s, t, u) in
    sum _ _ _ _ _ _ _ _ _ _ _ _ _ _ _ _ _ _ _ _ _ _ _ _
    (length_moved f x l p Fixed (e Fixed)) (length_moved f x l p Simplify (e Simplify))
    (length_moved f x l p Freeze (e Freeze))
    (length_moved f x l p Spill (e Spill)) (length_moved f x l p Stacked (e Stacked))
    (length_moved f x l p Merged (e Merged)) (ones p) (ones l) h

told_moved : (f : Worklist → List ℕ) (places : List Worklist) (x y : ℕ) (l w : Worklist) → x < length places →
    is_among y (f w) ≡ (number w == number (get_or places y Fixed)) →
    is_among y (moved_by f x l w) ≡ (number w == number (get_or (set places x l) y Fixed))
told_moved f places x y l w h e =
    ⊎_elim
    (λ (p : y ≡ x).
    let place : get_or (set places x l) y Fixed ≡ l = ap (λ i. get_or (set places x l) i Fixed) p
    ∙ get_or-set_same places x l Fixed h in
    ap (λ i. is_among i (moved_by f x l w)) p
    ∙ (among_added_same x (without x (f w)) (number w == number l) (among_without_same x (f w))
    ∙ ap (λ v. number w == number v) (sym place)))
    (λ (p : y ≢ x).
    among_added_other x y (without x (f w)) (number w == number l) p
    ∙ (among_without_other x y (f w) p
    ∙ (e ∙ ap (λ v. number w == number v) (sym (get_or-set_other places x y l Fixed p)))))
    (cases_eq y x)

pub after_move : (n x : ℕ) (next middle last prev lastprev : List ℕ) (places : List Worklist) (f : Worklist → List ℕ)
    (l : Worklist) →
    AreLinked n next prev places f → x < n → length middle ≡ length next → length last ≡ length next →
    Relinks next middle n (λ xs _. without x xs) → Relinks middle last n (joined_to (n + number l) (x ∷ [])) →
    AreInverse last lastprev →
    AreLinked n last lastprev (set places x l) (moved_by f x l)
after_move n x next middle last prev lastprev places f l k h s t first second i = record {
  some = k.some;
  few = k.few;
  sized = t ∙ k.sized;
  placed = length-set places x l ∙ k.placed;
  inverse = i;
  runs = λ w.
      let within : n + number w < length next = omega (arith, number_fits w, k.sized) in
      run_of (slice_index last) n (slice_index last (n + number w)) (n + number w) _ _
      (joined_by_number n (number l) (number w) (x ∷ []) (without x (f w)))
      (second (n + number w) (without x (f w)) (omega arith) (omega (arith, within, s))
      (first (n + number w) (f w) (omega arith) within (k.runs w)));
  told = λ w y m. told_moved f places x y l w (omega (arith, k.placed, h)) (k.told w y m);
  fit = fits_moved n f x l (get_or places x Fixed) (λ w. k.told w x h) k.fit;
}

-- The beginning.

pub itself : (m y : ℕ) → y < m → get_or (range_with_len 0 m) y 0 ≡ y
itself m y h = get_or-range_with_len 0 m y 0 h ∙ omega arith

pub identity_inverse : (m : ℕ) → AreInverse (range_with_len 0 m) (range_with_len 0 m)
identity_inverse m =
    let size = length-range_with_len 0 m in
    let is : (y : ℕ) → y < length (range_with_len 0 m) →
    get_or (range_with_len 0 m) y 0 ≡ y = λ y h. itself m y (omega (arith, h, size)) in
    let each : (y : ℕ) → y < length (range_with_len 0 m) →
    (slice_index (range_with_len 0 m) y < length (range_with_len 0 m)) ×
    (slice_index (range_with_len 0 m) (slice_index (range_with_len 0 m) y) ≡ y) =
    λ y h. (omega (arith, is y h, h), ap (λ i. get_or (range_with_len 0 m) i 0) (is y h) ∙ is y h) in
    record { sized = refl; ahead = each; back = each }

abbrev pub start_places : ℕ → List Worklist
start_places n = replicate {A = Worklist} 25 Fixed ++ replicate {A = Worklist} (n - 25) Spill

place_fixed : (n x : ℕ) → x < 25 → get_or (start_places n) x Fixed ≡ Fixed
place_fixed n x h =
    get_or_append_left (replicate {A = Worklist} 25 Fixed) (replicate {A = Worklist} (n - 25) Spill) Fixed x
    (omega (arith, h, length-replicate {A = Worklist} 25 Fixed))
    ∙ get_or-replicate {A = Worklist} 25 x Fixed Fixed h

place_spill : (n x : ℕ) → 25 ≤ x → x < n → get_or (start_places n) x Fixed ≡ Spill
place_spill n x h k =
    get_or-append_right (replicate {A = Worklist} 25 Fixed) (replicate {A = Worklist} (n - 25) Spill) 25 x Fixed
    (length-replicate {A = Worklist} 25 Fixed) h
    ∙ get_or-replicate {A = Worklist} (n - 25) (x - 25) Spill Fixed (omega (arith, h, k))

pub told_fixed : (n : ℕ) (w : Worklist) (x : ℕ) → x < 25 → is_among x (started_in n w) ≡ (number w == 0)
told_fixed n Fixed x h = among_within x 0 25 (omega arith) (omega (arith, h))
told_fixed n Simplify x h = refl
told_fixed n Freeze x h = refl
told_fixed n Spill x h = among_below x 25 (n - 25) h
told_fixed n Stacked x h = refl
told_fixed n Merged x h = refl

pub told_spill : (n : ℕ) (w : Worklist) (x : ℕ) → 25 ≤ x → x < n → is_among x (started_in n w) ≡ (number w == 3)
told_spill n Fixed x h k = among_above x 0 25 (omega (arith, h))
told_spill n Simplify x h k = refl
told_spill n Freeze x h k = refl
told_spill n Spill x h k = among_within x 25 (n - 25) h (omega (arith, h, k))
told_spill n Stacked x h k = refl
told_spill n Merged x h k = refl

-- the lists after nodes were put last in two of them, by their numbers
lists_started : (n : ℕ) (w : Worklist) →
    ([] ++ (if number w == 0 then range_with_len 0 25 else [])) ++
    (if number w == 3 then range_with_len 25 (n - 25) else []) ≡ started_in n w
lists_started n Fixed = append-nil (range_with_len 0 25)
lists_started n Simplify = refl
lists_started n Freeze = refl
lists_started n Spill = refl
lists_started n Stacked = refl
lists_started n Merged = refl

pub start_linked : (n : ℕ) (second third prev : List ℕ) → colours ≤ n → n ≤ most_nodes → length second ≡ n + 6 →
    length third ≡ n + 6 →
    Relinks (range_with_len 0 (n + 6)) second n (joined_to (n + 0) (range_with_len 0 25)) →
    Relinks second third n (joined_to (n + 3) (range_with_len 25 (n - 25))) → AreInverse third prev →
    AreLinked n third prev (start_places n) (started_in n)
start_linked n second third prev h k s t first next i = record {
  some = h;
  few = k;
  sized = t;
  placed = length-append (replicate {A = Worklist} 25 Fixed) (replicate {A = Worklist} (n - 25) Spill)
      ∙ (ap (λ m. m + length (replicate {A = Worklist} (n - 25) Spill)) (length-replicate {A = Worklist} 25 Fixed)
      ∙ (ap (λ m. 25 + m) (length-replicate {A = Worklist} (n - 25) Spill) ∙ omega (arith, h)));
  inverse = i;
  runs = λ w.
      let within : n + number w < n + 6 = omega (arith, number_fits w) in
      let size = length-range_with_len 0 (n + 6) in
      let empty : LeadsAlong (slice_index (range_with_len 0 (n + 6))) n
      (slice_index (range_with_len 0 (n + 6)) (n + number w)) [] (n + number w) =
      itself (n + 6) (n + number w) within in
      let one = run_of (slice_index second) n (slice_index second (n + number w)) (n + number w) _ _
      (joined_by_number n 0 (number w) (range_with_len 0 25) [])
      (first (n + number w) [] (omega arith) (omega (arith, within, size)) empty) in
      run_of (slice_index third) n (slice_index third (n + number w)) (n + number w) _ _
      (joined_by_number n 3 (number w) (range_with_len 25 (n - 25))
      ([] ++ (if number w == 0 then range_with_len 0 25 else [])) ∙ lists_started n w)
      (next (n + number w) ([] ++ (if number w == 0 then range_with_len 0 25 else [])) (omega arith)
      (omega (arith, within, s)) one);
  told = λ w x m.
      ⊎_elim (λ (l : x < 25). told_fixed n w x l ∙ ap (λ v. number w == number v) (sym (place_fixed n x l)))
      (λ (l : 25 ≤ x). told_spill n w x l m ∙ ap (λ v. number w == number v) (sym (place_spill n x l m)))
      (cases_lt x 25);
  fit = omega (arith, h, length-range_with_len 0 25, length-range_with_len 25 (n - 25));
}
