-- The places of pairs in tiles, and bits of words and of tiles.
use Rattle.std.specs.Prelude.{◌==◌}
use Rattle.std.proofs.Common.{take, ◌≡◌, ◌≢◌, ℕ, zero, suc, ◌+◌, ◌-◌, ◌*◌, ◌/◌, ◌%◌, ◌^◌, ◌<◌, ◌≤◌, ◌||◌, false, List, [], ◌++◌, length, min, max}
use Rattle.std.proofs.Common.{get_or, set, replicate, bit_or, refl, sym, ap, ◌∙◌, subst, ⊎_elim, arith}
use Rattle.std.proofs.lemmas.Bool.{cases_eq, cases_lt, cases_order, eq-eqb, ne_eqb}
use Rattle.std.proofs.lemmas.List.{get_or-set_same, get_or-set_other, get_or-replicate, get_or_past, get_or_append_left, take_all}
use Rattle.std.proofs.lemmas.List.{get_or-append_right, length-replicate}
use Rattle.std.proofs.lemmas.Nat.Bits.{bit_at_set_same, bit_at_set_other, bit_at-zero}
use Rattle.std.specs.Int.{bit_at, w32}
use Rattle.tg_graph.specs.glue.Bits.{bit, matrix_bit, pair_place, tile_of, tiles_for, triangle}

-- Triangles, by their step.

triangle_more : (n : ℕ) → triangle (suc n) ≡ triangle n + n
triangle_more zero = refl
triangle_more (suc n) =
    let first : suc (suc n) - 1 ≡ suc n = omega arith in
    let second : suc n - 1 ≡ n = omega arith in
    let product : suc (suc n) * suc n ≡ suc n * n + 2 * suc n = omega arith in
    ap (λ v. suc (suc n) * v / 2) first
    ∙ (ap (λ v. v / 2) product ∙ (omega arith ∙ ap (λ v. suc n * v / 2 + suc n) (sym second)))

grows : (T : ℕ → ℕ) → ((n : ℕ) → T (suc n) ≡ T n + n) → (k y : ℕ) → T y ≤ T (k + y)
grows T more zero y = let e : 0 + y ≡ y = omega arith in omega (arith, ap T e)
grows T more (suc k) y =
    let e : suc k + y ≡ suc (k + y) = omega arith in
    omega (arith, ap T e, more (k + y), grows T more k y)

place_below : (T : ℕ → ℕ) → ((n : ℕ) → T (suc n) ≡ T n + n) → (x y n : ℕ) → x < y → y < n → T y + x < T n
place_below T more x y n h k =
    let e : n - suc y + suc y ≡ n = omega arith in
    omega (arith, h, more y, grows T more (n - suc y) (suc y), ap T e)

same_places : (T : ℕ → ℕ) → ((n : ℕ) → T (suc n) ≡ T n + n) → (x y u v : ℕ) → x < y → u < v → T y + x ≡ T v + u →
    (x ≡ u) × (y ≡ v)
same_places T more x y u v h k e =
    ⊎_elim (λ (p : y ≡ v). (omega (arith, e, ap T p), p))
    (λ o. ⊎_elim (λ (p : y < v). absurd (omega (arith, e, place_below T more x y v h p)))
    (λ (p : v < y). absurd (omega (arith, e, place_below T more u v y k p))) o)
    (cases_order y v)

-- Places of pairs.

pub same_pairs : (x y u v : ℕ) → x < y → u < v → pair_place x y ≡ pair_place u v → (x ≡ u) × (y ≡ v)
same_pairs x y u v h k e =
    let parts = split (triangle (y / 128 + 1) + x / 128) (triangle (v / 128 + 1) + u / 128) (y % 128) (x % 128) (v % 128)
    (u % 128) (omega arith) (omega arith) (omega arith) (omega arith) e in
    let tiles = same_places triangle triangle_more (x / 128) (y / 128 + 1) (u / 128) (v / 128 + 1)
    (omega (arith, h)) (omega (arith, k)) parts.0 in
    (joins x u tiles.0 parts.1.1, joins y v (omega (arith, tiles.1)) parts.1.0)
  where
    split : (s t p q i j : ℕ) → p < 128 → q < 128 → i < 128 → j < 128 →
        s * 16384 + (p * 128 + q) ≡ t * 16384 + (i * 128 + j) → (s ≡ t) × ((p ≡ i) × (q ≡ j))
    split s t p q i j a b c d f =
        (omega (arith, a, b, c, d, f), (omega (arith, a, b, c, d, f), omega (arith, a, b, c, d, f)))

    joins : (p q : ℕ) → p / 128 ≡ q / 128 → p % 128 ≡ q % 128 → p ≡ q
    joins p q a b = omega (arith, a, b)

-- the tile of a pair is there
pub tile_within : (x y n place : ℕ) → x < y → y < n → place ≡ pair_place x y → place / 16384 < tiles_for n
tile_within x y n place h k e =
    within (triangle (y / 128 + 1) + x / 128) (tiles_for n) (y % 128) (x % 128) (omega arith) (omega arith)
    (place_below triangle triangle_more (x / 128) (y / 128 + 1) (n / 128 + 2) (omega (arith, h)) (omega (arith, k))) e
  where
    within : (s t p q : ℕ) → p < 128 → q < 128 → s < t → place ≡ s * 16384 + (p * 128 + q) → place / 16384 < t
    within s t p q a b c f = omega (arith, a, b, c, f)

-- the place of two nodes, by what was called to find it
pub place_at : (a b low high place : ℕ) → place ≡ pair_place low high → low ≡ min a b → high ≡ max a b →
    place ≡ pair_place (min a b) (max a b)
place_at a b low high place p f g =
    p ∙ (ap (λ z. pair_place z high) f ∙ ap (λ z. pair_place (min a b) z) g)

-- Bits.

abbrev written : List ℕ → ℕ → List ℕ
written words at = set words (at / 32) (bit_or (get_or words (at / 32) 0) (1 * 2 ^ (at % 32) % 4294967296))

pub bit_written : (words : List ℕ) (at k : ℕ) → at / 32 < length words →
    bit (written words at) k ≡ ((k == at) || bit words k)
bit_written words at k l =
    let w = get_or words (at / 32) 0 in
    let v = bit_or w (1 * 2 ^ (at % 32) % 4294967296) in
    let small : at % 32 < 32 = omega arith in
    ⊎_elim
    (λ (p : k / 32 ≡ at / 32).
    let here : get_or (written words at) (k / 32) 0 ≡ v = ap (λ i. get_or (written words at) i 0) p
    ∙ get_or-set_same words (at / 32) v 0 l in
    let there : get_or words (k / 32) 0 ≡ w = ap (λ i. get_or words i 0) p in
    ⊎_elim
    (λ (q : k % 32 ≡ at % 32).
    let is : k ≡ at = omega (arith, p, q) in
    ap (λ i. bit_at i (k % 32) == 1) here
    ∙ (ap (λ i. bit_at v i == 1) q ∙ (ap (λ i. i == 1) (bit_at_set_same w32 w (at % 32) small)
    ∙ sym (ap (λ b. b || bit words k) (eq-eqb k at is)))))
    (λ (q : k % 32 ≢ at % 32).
    let isnt : k ≢ at = λ e. q (ap (λ i. i % 32) e) in
    ap (λ i. bit_at i (k % 32) == 1) here ∙ (ap (λ i. i == 1) (bit_at_set_other w32 w (at % 32) small (k % 32) q)
    ∙ (ap (λ i. bit_at i (k % 32) == 1) (sym there) ∙ sym (ap (λ b. b || bit words k) (ne_eqb k at isnt)))))
    (cases_eq (k % 32) (at % 32)))
    (λ (p : k / 32 ≢ at / 32).
    let isnt : k ≢ at = λ e. p (ap (λ i. i / 32) e) in
    ap (λ i. bit_at i (k % 32) == 1) (get_or-set_other words (at / 32) (k / 32) v 0 p)
    ∙ sym (ap (λ b. b || bit words k) (ne_eqb k at isnt)))
    (cases_eq (k / 32) (at / 32))

pub read_replicate : {X : Type 0} (n i : ℕ) (d : X) → get_or (replicate n d) i d ≡ d
read_replicate n i d =
    ⊎_elim (λ (h : i < n). get_or-replicate n i d d h)
    (λ (h : n ≤ i). get_or_past (replicate n d) i d (subst (λ (m : ℕ). m ≤ i) (sym (length-replicate n d)) h))
    (cases_lt i n)

-- beyond the words each bit is 0
pub bit_past : (words : List ℕ) (at : ℕ) → length words ≤ at / 32 → bit words at ≡ false
bit_past words at h =
    ap (λ w. bit_at w (at % 32) == 1) (get_or_past words (at / 32) 0 h) ∙ ap (λ i. i == 1) (bit_at-zero (at % 32))

-- words of 0 change no bit
bit_padded : (words : List ℕ) (more at : ℕ) → bit (words ++ replicate more 0) at ≡ bit words at
bit_padded words more at =
    ap (λ w. bit_at w (at % 32) == 1)
    (⊎_elim (λ (h : at / 32 < length words). get_or_append_left words (replicate more 0) 0 (at / 32) h)
    (λ (h : length words ≤ at / 32).
    get_or-append_right words (replicate more 0) (length words) (at / 32) 0 refl h
    ∙ (read_replicate more (at / 32 - length words) 0 ∙ sym (get_or_past words (at / 32) 0 h)))
    (cases_lt (at / 32) (length words)))

pub bit_filled : (words new : List ℕ) (n more : ℕ) → length words ≤ n → new ≡ take n words ++ replicate more 0 →
    (at : ℕ) → bit new at ≡ bit words at
bit_filled words new n more h e at =
    ap (λ (ws : List ℕ). bit ws at) (e ∙ ap (λ (ws : List ℕ). ws ++ replicate more 0) (take_all n words h))
    ∙ bit_padded words more at

-- Tiles.

pub matrix_unset : (count place : ℕ) → matrix_bit (replicate count []) place ≡ false
matrix_unset count place =
    ap (λ (words : List ℕ). bit words (place % 16384)) (read_replicate count (place / 16384) [])
    ∙ bit_past [] (place % 16384) (omega arith)

set_here : (tiles : List (List ℕ)) (i : ℕ) (words : List ℕ) (k : ℕ) → i < length tiles → k / 16384 ≡ i →
    matrix_bit (set tiles i words) k ≡ bit words (k % 16384)
set_here tiles i words k h p =
    ap (λ (ws : List ℕ). bit ws (k % 16384))
    (ap (λ j. get_or (set tiles i words) j []) p ∙ get_or-set_same tiles i words [] h)

set_elsewhere : (tiles : List (List ℕ)) (i : ℕ) (words : List ℕ) (k : ℕ) → k / 16384 ≢ i →
    matrix_bit (set tiles i words) k ≡ matrix_bit tiles k
set_elsewhere tiles i words k p =
    ap (λ (ws : List ℕ). bit ws (k % 16384)) (get_or-set_other tiles i (k / 16384) words [] p)

-- a tile that has the same bits
pub matrix_same : (tiles : List (List ℕ)) (i : ℕ) (words : List ℕ) → i < length tiles →
    ((k : ℕ) → bit words k ≡ bit (get_or tiles i []) k) → (k : ℕ) →
    matrix_bit (set tiles i words) k ≡ matrix_bit tiles k
matrix_same tiles i words h w k =
    ⊎_elim
    (λ (p : k / 16384 ≡ i).
    set_here tiles i words k h p
    ∙ (w (k % 16384) ∙ ap (λ j. bit (get_or tiles j []) (k % 16384)) (sym p)))
    (λ (p : k / 16384 ≢ i). set_elsewhere tiles i words k p)
    (cases_eq (k / 16384) i)

-- a tile that has one bit more
pub matrix_written : (tiles : List (List ℕ)) (place : ℕ) (words : List ℕ) → place / 16384 < length tiles →
    ((k : ℕ) → bit words k ≡ ((k == place % 16384) || bit (tile_of tiles place) k)) → (k : ℕ) →
    matrix_bit (set tiles (place / 16384) words) k ≡ ((k == place) || matrix_bit tiles k)
matrix_written tiles place words h w k =
    ⊎_elim
    (λ (p : k / 16384 ≡ place / 16384).
    set_here tiles (place / 16384) words k h p
    ∙ (w (k % 16384)
    ∙ (ap (λ o. o || bit (tile_of tiles place) (k % 16384)) (same_test p)
    ∙ ap (λ j. (k == place) || bit (get_or tiles j []) (k % 16384)) (sym p))))
    (λ (p : k / 16384 ≢ place / 16384).
    set_elsewhere tiles (place / 16384) words k p
    ∙ sym (ap (λ o. o || matrix_bit tiles k) (ne_eqb k place (λ e. p (ap (λ i. i / 16384) e)))))
    (cases_eq (k / 16384) (place / 16384))
  where
    same_test : k / 16384 ≡ place / 16384 → (k % 16384 == place % 16384) ≡ (k == place)
    same_test p =
        ⊎_elim
        (λ (q : k ≡ place).
        eq-eqb (k % 16384) (place % 16384) (ap (λ i. i % 16384) q) ∙ sym (eq-eqb k place q))
        (λ (q : k ≢ place).
        ne_eqb (k % 16384) (place % 16384) (λ r. q (omega (arith, p, r))) ∙ sym (ne_eqb k place q))
        (cases_eq k place)
