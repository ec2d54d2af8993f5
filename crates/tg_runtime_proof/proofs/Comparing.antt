-- The comparison of strings.
use Rattle.std.proofs.Common.{◌≡◌, ◌≢◌, ℕ, ◌+◌, ◌*◌, ◌<◌, ◌≤◌, List, [], ◌∷◌, length, Some, false, refl, sym, ap, ◌∙◌}
use Rattle.std.proofs.Common.{arith, subst, inl, inr, eq-eqb, ne_eqb}
use Rattle.std.specs.Prelude.{if◌then◌else◌, nat_lt, not, ◌||◌, ◌&&◌, drop, slice_index, min}
use Rattle.std.specs.Str.{bytes_eq}
use Rattle.std.proofs.lemmas.Bool.{cases_lt, cases_eq, cases_order, lt-ltb, le-ltb}
use Rattle.std.proofs.lemmas.List.{drop_more, drop_all}
use Rattle.tg_base.specs.Words.{add, less}
use Rattle.tg_simulation.specs.Runs.{Run}
use Rattle.tg_simulation.specs.Ran.{Ran}
use Rattle.tg_simulation.specs.laws.Simulating.{Comes}
use Rattle.tg_simulation.proofs.Simulations.{comes_itself}
use Rattle.tg_semantics.specs.Operators.{string_less}
use Rattle.tg_tree.specs.declared.operators.Bin.TheVariants.{Add}
use Rattle.tg_tree.specs.declared.operators.Rel.TheVariants.{Equal, NotEqual, Less}
use Rattle.tg_tree.specs.Tree.{Const, Temp, Binary, Load, LoadByte, Compare, Ts, Move, If, Return}
use Rattle.tg_tree.specs.Forms.{stms, nothing}
use Rattle.tg_tree.specs.Operators.{word}
use Rattle.tg_tree.specs.Memory.{load, load_byte}
use Rattle.tg_tree.specs.FlatValue.{or_wrong}
use Rattle.tg_tree.specs.Actions.{World, Temps, set_temp, Around, Next, leaving}
use Rattle.tg_tree.specs.Running.{no_temps}
use Rattle.tg_runtime.specs.declared.routines.Routine.TheVariants as routine
use Rattle.tg_runtime.specs.mirror.Routines.{compare, compare_bytes, common_end, minus_one, advance, bytes_of}
use Rattle.tg_runtime_proof.specs.Memories.{IsStringAt}
use Rattle.tg_runtime_proof.specs.Settings.{Setting, does}
use Rattle.tg_runtime_proof.specs.laws.Serving.{Serves, order_of}
use Rattle.tg_runtime_proof.proofs.Coming.{return_comes, move_comes, advance_comes, loaded, loaded_byte, summed}
use Rattle.tg_runtime_proof.proofs.Coming.{comes_within, is_word}
use Rattle.tg_runtime_proof.proofs.Acting.{after, behind, rest, sequence_of, chosen_comes, other_comes, passed_comes}
use Rattle.tg_runtime_proof.proofs.Walking.{Walk, walk_comes}
use Rattle.tg_runtime_proof.proofs.Strings.{string_length, string_byte, string_ends}
use Rattle.tg_runtime_proof.proofs.Signs.{less_small}
use Rattle.tg_runtime_proof.proofs.Serves.{Situation, Inside, setting_in, Entry, two_homes, serves, off}

-- The order by first bytes.

order_same : (u : ℕ) (x y : List ℕ) → order_of (u ∷ x) (u ∷ y) ≡ order_of x y
order_same u x y =
    ap (λ b. if b && bytes_eq x y then 0 else if nat_lt u u || (b && string_less x y) then minus_one else 1)
    (eq-eqb u u refl) ∙
    ap (λ b. if bytes_eq x y then 0 else if b || string_less x y then minus_one else 1) (le-ltb u u (omega arith))

-- bytes that differ
order_differs : (u v : ℕ) (x y : List ℕ) → u ≢ v →
    order_of (u ∷ x) (v ∷ y) ≡ (if nat_lt u v || false then minus_one else 1)
order_differs u v x y ne =
    ap (λ b. if b && bytes_eq x y then 0 else if nat_lt u v || (b && string_less x y) then minus_one else 1)
    (ne_eqb u v ne)

order_below : (u v : ℕ) (x y : List ℕ) → u < v → order_of (u ∷ x) (v ∷ y) ≡ minus_one
order_below u v x y lt =
    order_differs u v x y (λ e. omega (arith, e, lt)) ∙ ap (λ b. if b || false then minus_one else 1) (lt-ltb u v lt)

order_above : (u v : ℕ) (x y : List ℕ) → v < u → order_of (u ∷ x) (v ∷ y) ≡ 1
order_above u v x y lt =
    order_differs u v x y (λ e. omega (arith, e, lt)) ∙
    ap (λ b. if b || false then minus_one else 1) (le-ltb u v (omega (arith, lt)))

abbrev body : Ts
body = compare 0 1 2 3 4 5 6

abbrev begun : (a b : ℕ) → Temps
begun a b = set_temp 1 b (set_temp 0 a no_temps)

abbrev turn : List Ts
turn = Move 5 (LoadByte (Temp 2)) ∷ Move 6 (LoadByte (Temp 3)) ∷ compare_bytes 5 6 ∷ advance 2 1 ∷ advance 3 1 ∷ []

-- what bytes that differ come to
abbrev returns_order : Ts
returns_order = If (Compare Less (Temp 5) (Temp 6)) (Return (Const minus_one)) (Return (Const 1))

abbrev entry : (a b : ℕ) → Entry
entry a b = record {
  one = routine.Compare;
  homes = two_homes;
  temps = 7;
  body = body;
  words = a ∷ b ∷ [];
  begun = begun a b;
  found = refl;
  many = refl;
  same = λ top w. refl;
  there = refl;
}

-- of a string x at the address a and a string y at the address b
module _ (call : Situation) (a b : ℕ) (x y : List ℕ)
    (s : IsStringAt call.world.memory a x) (r : IsStringAt call.world.memory b y) where
  abbrev w : World
  w = call.world

  abbrev n : ℕ
  n = min (length x) (length y)

  record IsAlike (i : ℕ) (w1 : World) (t : Temps) : Type 0 where
    pub world : w1 ≡ w
    pub left : t 0 ≡ Some a
    pub right : t 1 ≡ Some b
    pub at : t 2 ≡ Some (a + 4 + i)
    pub other : t 3 ≡ Some (b + 4 + i)
    pub end : t 4 ≡ Some (a + 4 + n)
    pub order : order_of (drop i x) (drop i y) ≡ order_of x y

  module _ (inside : Inside call.host) where
    abbrev here : Setting
    here = setting_in call.host inside

    abbrev z : Around
    z = inside.around

    abbrev e : Run Ran
    e = z.back (order_of x y) w

    -- a return of the order, from the world of the call
    gives : (q : ℕ) (z1 : Around) (next : Next) (w1 : World) (t : Temps) → z1.back ≡ z.back → w1 ≡ w →
        order_of x y ≡ q →
        Comes 18 (does here (Return (Const q)) z1 next w1 t) e
    gives q z1 next w1 t around same is =
        return_comes here 0 q (Const q) z1 next w1 t e tt refl
        (subst (λ (g : ℕ → World → Run Ran). Comes 0 (g q w1) e) (sym around)
        (subst (λ p. Comes 0 (z.back p w1) e) is
        (subst (λ (w2 : World). Comes 0 (z.back (order_of x y) w2) e) (sym same) (comes_itself e))))

    -- A turn, in the loop.
    module _ (z1 : Around) (around : z1.back ≡ z.back) (i : ℕ) (lt : i < n) (w1 : World) (t : Temps)
        (h : IsAlike i w1 t)
        (go : Next) where
      abbrev u : ℕ
      u = slice_index x i

      abbrev v : ℕ
      v = slice_index y i

      abbrev t2 : Temps
      t2 = set_temp 6 v (set_temp 5 u t)

      abbrev later : ℕ → Next
      later j = after here (behind j (stms turn)) z1 go

      -- the order is that of the bytes that are left
      both : order_of x y ≡ order_of (u ∷ drop (i + 1) x) (v ∷ drop (i + 1) y)
      both =
          sym h.order ∙ (ap (λ l. order_of l (drop i y)) (drop_more x i 0 (omega (arith, lt))) ∙
          ap (λ l. order_of (u ∷ drop (i + 1) x) l) (drop_more y i 0 (omega (arith, lt))))

      differs : u ≢ v → Comes 34 (does here (compare_bytes 5 6) z1 (later 3) w1 t2) e
      differs ne =
          let bu = s.each i 0 (omega (arith, lt)) in
          let bv = r.each i 0 (omega (arith, lt)) in
          let small : less u v ≡ nat_lt u v = less_small u v (omega (arith, bu)) (omega (arith, bv)) in
          chosen_comes here 26 u v NotEqual (Temp 5) (Temp 6) returns_order nothing z1 (later 3) w1 t2 e tt tt refl refl
          (ap not (ne_eqb u v ne))
          (elim (cases_lt u v) [
            | inl below ↦
                chosen_comes here 18 u v Less (Temp 5) (Temp 6) (Return (Const minus_one)) (Return (Const 1)) z1
                (later 3) w1 t2 e
                tt tt refl refl (small ∙ lt-ltb u v below)
                (gives minus_one z1 (later 3) w1 t2 around h.world (both ∙
                order_below u v (drop (i + 1) x) (drop (i + 1) y) below))
            | inr above ↦
                other_comes here 18 u v Less (Temp 5) (Temp 6) (Return (Const minus_one)) (Return (Const 1)) z1
                (later 3) w1 t2 e
                tt tt refl refl (small ∙ le-ltb u v above)
                (gives 1 z1 (later 3) w1 t2 around h.world
                (both ∙ order_above u v (drop (i + 1) x) (drop (i + 1) y) (omega (arith, above, ne))))
          ])

      same_bytes : (k : ℕ) → u ≡ v →
          ((w2 : World) (t3 : Temps) → IsAlike (i + 1) w2 t3 → Comes k (go w2 t3) e) →
          Comes (18 + k) (does here (compare_bytes 5 6) z1 (later 3) w1 t2) e
      same_bytes k eq c =
          let lx = string_ends w.memory a x call.memory.whole s in
          let ly = string_ends w.memory b y call.memory.whole r in
          let t3 = set_temp 2 (a + 4 + (i + 1)) t2 in
          let sum : add (a + 4 + i) 1 ≡ a + 4 + (i + 1) = omega (arith, lt, lx) in
          let sum2 : add (b + 4 + i) 1 ≡ b + 4 + (i + 1) = omega (arith, lt, ly) in
          let order : order_of x y ≡ order_of (drop (i + 1) x) (drop (i + 1) y) =
          both ∙ (ap (λ p. order_of (p ∷ drop (i + 1) x) (v ∷ drop (i + 1) y)) eq ∙
          order_same v (drop (i + 1) x) (drop (i + 1) y)) in
          comes_within _ (18 + k) _ e (omega arith)
          (passed_comes here (5 + (5 + k)) u v NotEqual (Temp 5) (Temp 6) returns_order z1
          (later 3) w1 t2 e tt tt refl refl
          (ap not (eq-eqb u v eq))
          (advance_comes here (5 + k) 2 1 (a + 4 + i) (a + 4 + (i + 1)) z1 (later 4) w1 t2 e h.at sum
          (advance_comes here k 3 1 (b + 4 + i) (b + 4 + (i + 1)) z1 go w1 t3 e h.other sum2
          (c w1 (set_temp 3 (b + 4 + (i + 1)) t3) (record {
            world = h.world;
            left = h.left;
            right = h.right;
            at = refl;
            other = refl;
            end = h.end;
            order = sym order;
          })))))

      turned : (k : ℕ) → 38 ≤ k → ((w2 : World) (t3 : Temps) → IsAlike (i + 1) w2 t3 → Comes k (go w2 t3) e) →
          Comes (24 + k) (after here (stms turn) z1 go w1 t) e
      turned k le c =
          let first : load_byte w1.memory (a + 4 + i) ≡ Some u =
          ap (λ (w2 : World). load_byte w2.memory (a + 4 + i)) h.world ∙
          string_byte w.memory a i x call.memory.whole s (omega (arith, lt)) in
          let second : load_byte w1.memory (b + 4 + i) ≡ Some v =
          ap (λ (w2 : World). load_byte w2.memory (b + 4 + i)) h.world ∙
          string_byte w.memory b i y call.memory.whole r (omega (arith, lt)) in
          let compared : Comes (18 + k) (does here (compare_bytes 5 6) z1 (later 3) w1 t2) e =
          elim (cases_eq u v) [
            | inl eq ↦ same_bytes k eq c
            | inr ne ↦ comes_within 34 (18 + k) _ e (omega (arith, le)) (differs ne)
          ] in
          comes_within _ (24 + k) _ e (omega arith)
          (move_comes here _ 5 u (LoadByte (Temp 2)) z1 (later 1) w1 t e tt
          (loaded_byte here 2 (a + 4 + i) u z1 w1 t h.at first)
          (move_comes here _ 6 v (LoadByte (Temp 3)) z1 (later 2) w1 (set_temp 5 u t) e tt
          (loaded_byte here 3 (b + 4 + i) v z1 w1 (set_temp 5 u t) h.other second) compared))

    abbrev next : ℕ → Next
    next j = rest here j body z off

    -- after the common bytes the lengths tell
    ends : (w1 : World) (t : Temps) → IsAlike n w1 t → Comes 38 (next 4 w1 t) e
    ends w1 t h =
        let lx = string_ends w.memory a x call.memory.whole s in
        let ly = string_ends w.memory b y call.memory.whole r in
        let first : is_word here z w1 t (Load (Temp 0)) (length x) =
        loaded here 0 a (length x) z w1 t h.left
        (ap (λ (w2 : World). load w2.memory a) h.world ∙ string_length w.memory a x call.memory.whole s) in
        let second : is_word here z w1 t (Load (Temp 1)) (length y) =
        loaded here 1 b (length y) z w1 t h.right
        (ap (λ (w2 : World). load w2.memory b) h.world ∙ string_length w.memory b y call.memory.whole r) in
        let small : less (length x) (length y) ≡ nat_lt (length x) (length y) =
        less_small (length x) (length y) (omega (arith, lx)) (omega (arith, ly)) in
        let order : (p q : List ℕ) → drop n x ≡ p → drop n y ≡ q → order_of x y ≡ order_of p q = λ p q ep eq.
        sym h.order ∙ (ap (λ l. order_of l (drop n y)) ep ∙ ap (λ l. order_of p l) eq) in
        elim (cases_order (length x) (length y)) [
          | inl eq ↦
              comes_within _ 38 _ e (omega arith)
              (chosen_comes here 18 (length x) (length y) Equal (Load (Temp 0)) (Load (Temp 1))
              (Return (Const 0)) nothing z
              (next 5) w1 t e tt tt first second (eq-eqb (length x) (length y) eq)
              (gives 0 z (next 5) w1 t refl h.world
              (order [] [] (drop_all n x (omega (arith, eq))) (drop_all n y (omega (arith, eq))))))
          | inr (inl lt) ↦
              comes_within _ 38 _ e (omega arith)
              (passed_comes here _ (length x) (length y) Equal (Load (Temp 0)) (Load (Temp 1)) (Return (Const 0)) z
              (next 5) w1 t e tt tt first second (ne_eqb (length x) (length y) (λ eq. omega (arith, eq, lt)))
              (chosen_comes here 18 (length x) (length y) Less (Load (Temp 0)) (Load (Temp 1))
              (Return (Const minus_one)) nothing z
              (next 6) w1 t e tt tt first second (small ∙ lt-ltb (length x) (length y) lt)
              (gives minus_one z (next 6) w1 t refl h.world
              (order [] (slice_index y n ∷ drop (n + 1) y) (drop_all n x (omega (arith, lt)))
              (drop_more y n 0 (omega (arith, lt)))))))
          | inr (inr gt) ↦
              comes_within _ 38 _ e (omega arith)
              (passed_comes here _ (length x) (length y) Equal (Load (Temp 0)) (Load (Temp 1)) (Return (Const 0)) z
              (next 5) w1 t e tt tt first second (ne_eqb (length x) (length y) (λ eq. omega (arith, eq, gt)))
              (passed_comes here _ (length x) (length y) Less (Load (Temp 0)) (Load (Temp 1))
              (Return (Const minus_one)) z
              (next 6) w1 t e tt tt first second (small ∙ le-ltb (length x) (length y) (omega (arith, gt)))
              (gives 1 z (next 7) w1 t refl h.world
              (order (slice_index x n ∷ drop (n + 1) x) [] (drop_more x n 0 (omega (arith, gt)))
              (drop_all n y (omega (arith, gt)))))))
        ]

    abbrev compares_all : Walk here z (next 4) IsAlike
    compares_all = record {
      at = 2;
      end = 4;
      turn = turn;
      turns = n;
      spent = 24;
      left = 38;
      address = λ i. a + 4 + i;
      gives = λ i. e;
      apart = λ i lt same. omega (arith, lt, same);
      at_is = λ i w1 t h. h.at;
      end_is = λ i w1 t h. h.end;
      turned = λ i lt w1 t h go k le c. turned (record z { out = leaving (next 4) z.out }) refl i lt w1 t h go k le c;
      rest = ends;
    }

    -- the end of the common bytes
    finds_end : (k : ℕ) (t : Temps) → t 0 ≡ Some a → t 1 ≡ Some b → t 2 ≡ Some (a + 4) →
        Comes k (next 3 w (set_temp 4 (a + 4 + n) t)) e →
        Comes (14 + k) (does here (common_end 0 1 2 4) z (next 3) w t) e
    finds_end k t left right at c =
        let lx = string_ends w.memory a x call.memory.whole s in
        let ly = string_ends w.memory b y call.memory.whole r in
        let first : is_word here z w t (Load (Temp 0)) (length x) =
        loaded here 0 a (length x) z w t left (string_length w.memory a x call.memory.whole s) in
        let second : is_word here z w t (Load (Temp 1)) (length y) =
        loaded here 1 b (length y) z w t right (string_length w.memory b y call.memory.whole r) in
        let small : less (length x) (length y) ≡ nat_lt (length x) (length y) =
        less_small (length x) (length y) (omega (arith, lx)) (omega (arith, ly)) in
        let this = Move 4 (Binary Add (Temp 2) (Load (Temp 0))) in
        let other = Move 4 (Binary Add (Temp 2) (Load (Temp 1))) in
        elim (cases_lt (length x) (length y)) [
          | inl lt ↦
              let sum : add (a + 4) (length x) ≡ a + 4 + n = omega (arith, lx, lt) in
              comes_within _ (14 + k) _ e (omega arith)
              (chosen_comes here _ (length x) (length y) Less (Load (Temp 0)) (Load (Temp 1)) this other z
              (next 3) w t e
              tt tt first second (small ∙ lt-ltb (length x) (length y) lt)
              (move_comes here k 4 (a + 4 + n) (Binary Add (Temp 2) (Load (Temp 0))) z (next 3) w t e (tt, tt)
              (summed here (Temp 2) (Load (Temp 0)) (a + 4) (length x) (a + 4 + n) z w t (ap or_wrong at) first sum) c))
          | inr le ↦
              let sum : add (a + 4) (length y) ≡ a + 4 + n = omega (arith, lx, le) in
              comes_within _ (14 + k) _ e (omega arith)
              (other_comes here _ (length x) (length y) Less (Load (Temp 0)) (Load (Temp 1)) this other z (next 3) w t e
              tt tt first second (small ∙ le-ltb (length x) (length y) le)
              (move_comes here k 4 (a + 4 + n) (Binary Add (Temp 2) (Load (Temp 1))) z (next 3) w t e (tt, tt)
              (summed here (Temp 2) (Load (Temp 1)) (a + 4) (length y) (a + 4 + n) z w t (ap or_wrong at) second sum)
              c))
        ]

    compare_body : Comes (36 * n + 73) (does here body z off w (begun a b)) e
    compare_body =
        let lx = string_ends w.memory a x call.memory.whole s in
        let ly = string_ends w.memory b y call.memory.whole r in
        let t1 = set_temp 2 (a + 4) (begun a b) in
        let t2 = set_temp 3 (b + 4) t1 in
        let sum : add a 4 ≡ a + 4 = omega (arith, lx) in
        let sum2 : add b 4 ≡ b + 4 = omega (arith, ly) in
        let start : a + 4 ≡ a + 4 + 0 = omega arith in
        let start2 : b + 4 ≡ b + 4 + 0 = omega arith in
        let walks : Comes ((12 + 24) * n + 11 + 38) (next 3 w (set_temp 4 (a + 4 + n) t2)) e =
        walk_comes here inside.steps z (next 4) IsAlike compares_all w (set_temp 4 (a + 4 + n) t2) (record {
          world = refl;
          left = refl;
          right = refl;
          at = ap (λ (k : ℕ). Some k) start;
          other = ap (λ (k : ℕ). Some k) start2;
          end = refl;
          order = refl;
        }) in
        comes_within _ (36 * n + 73) _ e (omega arith)
        (sequence_of here _ body z off w (begun a b) e refl
        (move_comes here _ 2 (a + 4) (bytes_of 0) z (next 1) w (begun a b) e (tt, tt) (ap word sum)
        (move_comes here _ 3 (b + 4) (bytes_of 1) z (next 2) w t1 e (tt, tt) (ap word sum2)
        (finds_end _ t2 refl refl refl walks))))

  pub compares :
      Serves call.host (length x + length y) routine.Compare (a ∷ b ∷ []) w (λ back. back (order_of x y) w)
  compares =
      serves call (entry a b) (length x + length y) (36 * n + 73) (λ back. back (order_of x y) w)
      (omega arith) compare_body
