-- Vectors of lists, where a function tells the list of each, and what a call gives by its result.
use Rattle.std.specs.Prelude.{◌==◌}
use Rattle.std.proofs.Common.{◌≡◌, ℕ, ◌-◌, ◌/◌, ◌%◌, ◌<◌, ◌||◌, ◌≤◌, true, false, List, [], ◌∷◌, ◌++◌, length, map, take, get_or, set, Vec, Result, Ok}
use Rattle.std.proofs.Common.{Err, OnErr, is_err, refl, sym, ap, ◌∙◌, arith}
use Rattle.std.specs.declared.alloc.Global.{Global}
use Rattle.std.proofs.lemmas.List.{map-set, get_or-map, get_or-set_same, set-get_or, set-set, length-map, length_push, take_at}
use Rattle.tg_graph.specs.Interference.{colours, with_neighbour}
use Rattle.tg_graph.specs.glue.Bits.{bit, matrix_bit}
use Rattle.tg_graph.specs.glue.Keeping.{lists_of}
use Rattle.tg_graph.proofs.Places.{matrix_same, matrix_written}
use Rattle.tg_graph.proofs.Changes.{with_temporary, list_same, length_with}

abbrev pub items_of : Vec ℕ Global → List ℕ
items_of v = v.items

pub at_err : {T E P : Type 0} (r : Result T E) → true ≡ is_err r → OnErr r P → P
at_err (Ok x) e h = absurd (no e)
  where
    no : true ≡ false → ⊥
    no p = cc
at_err (Err x) e h = h

-- the list at a place, by what was read there
pub list_read : {V : Type 0} (f : V → List ℕ) (vs : List V) (i : ℕ) (w : V) → i < length vs → w ≡ get_or vs i w →
    get_or (map f vs) i [] ≡ f w
list_read f vs i w l e = get_or-map f vs i w [] l ∙ ap f (sym e)

pub lists_sized : {V : Type 0} (f : V → List ℕ) (vs : List V) (n : ℕ) → length (map f vs) ≡ n → length vs ≡ n
lists_sized f vs n e = sym (length-map vs f) ∙ e

pub same_size : (vs ws : List (Vec ℕ Global)) → length vs ≡ length ws → length (lists_of vs) ≡ length (lists_of ws)
same_size vs ws e = length-map vs (λ v. v.items) ∙ (e ∙ sym (length-map ws (λ v. v.items)))

pub lists_set : {V : Type 0} (f : V → List ℕ) (vs : List V) (i : ℕ) (v : V) → map f (set vs i v) ≡ set (map f vs) i (f v)
lists_set f vs i v = map-set f vs i v

-- the tile that was set, and the matrix with it
pub tile_set : (vs : List (Vec ℕ Global)) (i : ℕ) (v : Vec ℕ Global) → i < length vs →
    get_or (lists_of (set vs i v)) i [] ≡ v.items
tile_set vs i v l =
    ap (λ (ts : List (List ℕ)). get_or ts i []) (lists_set items_of vs i v)
    ∙ get_or-set_same (lists_of vs) i v.items [] (omega (arith, l, length-map vs (λ (u : Vec ℕ Global). u.items)))

pub matrix_kept : (vs : List (Vec ℕ Global)) (i : ℕ) (v w : Vec ℕ Global) → i < length vs → w ≡ get_or vs i w →
    ((k : ℕ) → bit v.items k ≡ bit w.items k) → (k : ℕ) →
    matrix_bit (lists_of (set vs i v)) k ≡ matrix_bit (lists_of vs) k
matrix_kept vs i v w l e h k =
    ap (λ (ts : List (List ℕ)). matrix_bit ts k) (lists_set items_of vs i v)
    ∙ matrix_same (lists_of vs) i v.items (omega (arith, l, length-map vs (λ (u : Vec ℕ Global). u.items)))
    (λ j. h j ∙ ap (λ (ws : List ℕ). bit ws j) (sym (list_read items_of vs i w l e))) k

pub matrix_set : (vs : List (Vec ℕ Global)) (place : ℕ) (v w : Vec ℕ Global) → place / 16384 < length vs →
    w ≡ get_or vs (place / 16384) w →
    ((k : ℕ) → bit v.items k ≡ ((k == place % 16384) || bit w.items k)) → (k : ℕ) →
    matrix_bit (lists_of (set vs (place / 16384) v)) k ≡ ((k == place) || matrix_bit (lists_of vs) k)
matrix_set vs place v w l e h k =
    ap (λ (ts : List (List ℕ)). matrix_bit ts k) (lists_set items_of vs (place / 16384) v)
    ∙ matrix_written (lists_of vs) place v.items (omega (arith, l, length-map vs (λ (u : Vec ℕ Global). u.items)))
    (λ j. h j ∙ ap (λ (ws : List ℕ). (j == place % 16384) || bit ws j) (sym (list_read items_of vs (place / 16384) w l e))) k

-- one with the same items in its place
pub lists_same : {V : Type 0} (f : V → List ℕ) (vs : List V) (i : ℕ) (v w : V) → i < length vs → w ≡ get_or vs i w →
    f v ≡ f w →
    map f (set vs i v) ≡ map f vs
lists_same f vs i v w l e same =
    lists_set f vs i v ∙ (ap (λ xs. set (map f vs) i xs) (same ∙ sym (list_read f vs i w l e))
    ∙ set-get_or (map f vs) i [])

-- one with more items
pub lists_more : {V : Type 0} (f : V → List ℕ) (vs : List V) (i : ℕ) (v w : V) (more : List ℕ) → i < length vs →
    w ≡ get_or vs i w → f v ≡ f w ++ more →
    map f (set vs i v) ≡ set (map f vs) i (get_or (map f vs) i [] ++ more)
lists_more f vs i v w more l e longer =
    lists_set f vs i v
    ∙ ap (λ xs. set (map f vs) i xs) (longer ∙ ap (λ xs. xs ++ more) (sym (list_read f vs i w l e)))

-- one put back as it was
pub lists_back : {V : Type 0} (f : V → List ℕ) (before : List (List ℕ)) (vs : List V) (i : ℕ) (v : V) (left : List ℕ) →
    map f vs ≡ set before i left → f v ≡ get_or before i [] →
    map f (set vs i v) ≡ before
lists_back f before vs i v left e was =
    lists_set f vs i v
    ∙ (ap (λ ls. set ls i (f v)) e
    ∙ (set-set before i left (f v)
    ∙ (ap (λ xs. set before i xs) was ∙ set-get_or before i [])))

pub lists_pushed : (vs : List (Vec ℕ Global)) (x y : ℕ) (v w : Vec ℕ Global) → colours ≤ x → x - 25 < length vs →
    w ≡ get_or vs (x - 25) w →
    v.items ≡ w.items ++ y ∷ [] → lists_of (set vs (x - 25) v) ≡ with_neighbour x y (lists_of vs)
lists_pushed vs x y v w h l e f =
    lists_more items_of vs (x - 25) v w (y ∷ []) l e f ∙ sym (with_temporary x y (lists_of vs) h)

pub lists_popped : (vs : List (Vec ℕ Global)) (x y : ℕ) (v w : Vec ℕ Global) (before : List (List ℕ)) → colours ≤ x →
    x - 25 < length vs →
    w ≡ get_or vs (x - 25) w → v.items ≡ take (w.len - 1) w.items → lists_of vs ≡ with_neighbour x y before →
    lists_of (set vs (x - 25) v) ≡ before
lists_popped vs x y v w before h l e f q =
    let size : length before ≡ length vs = sym (length_with x y before)
    ∙ (sym (ap length q) ∙ length-map vs (λ (u : Vec ℕ Global). u.items)) in
    let now : w.items ≡ get_or before (x - 25) [] ++ y ∷ [] =
    sym (list_read items_of vs (x - 25) w l e)
    ∙ (ap (λ ls. get_or ls (x - 25) []) q ∙ list_same x y (x - 25) before h (omega (arith, size, l, h)) refl) in
    let many : length (get_or before (x - 25) []) ≡ w.len - 1 =
    omega (arith, w.ok.0, ap length now, length_push (get_or before (x - 25) []) y) in
    let left : v.items ≡ get_or before (x - 25) [] =
    f ∙ (ap (λ xs. take (w.len - 1) xs) now ∙ take_at (get_or before (x - 25) []) (y ∷ []) (w.len - 1) many) in
    lists_back items_of before vs (x - 25) v (get_or before (x - 25) [] ++ y ∷ []) (q ∙ with_temporary x y before h) left
