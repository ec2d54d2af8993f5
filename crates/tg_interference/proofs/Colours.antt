-- Nodes and their operands: the colours differ, and each node is that of its operand.
use Rattle.std.proofs.Common.{◌≡◌, ◌<◌, ◌≤◌, ◌+◌, ◌-◌, ◌==◌, ℕ, zero, suc, Bool, true, false, not, nat_eq, ◌&&◌, cond, List, [], ◌∷◌, length, Option}
use Rattle.std.proofs.Common.{Some, None, get_or, refl, sym, ap, ◌∙◌, arith, ⊎_elim}
use Rattle.std.specs.List.{list_any, list_all, position, range_with_len}
use Rattle.std.proofs.lemmas.Bool.{eqb-true, eq-eqb, ne_eqb, cases_eq, cases_lt, lt-ltb, le-ltb, ltb-true, and_parts, or_cases, false_from_ne_true, false≢true}
use Rattle.std.specs.Prelude.{is_some}
use Rattle.std.proofs.lemmas.List.Folds.{list_any_at}
use Rattle.std.proofs.lemmas.List.Quantifiers.{position-Some}
use Rattle.tg_instr.specs.declared.operands.Opnd.{Opnd}
use Rattle.tg_instr.specs.declared.operands.Opnd.TheVariants.{Temp as TempOf, Reg}
use Rattle.tg_instr.specs.Operands.{is_same}
use Rattle.tg_instr.specs.Codes.{is_below}
use Rattle.tg_graph.specs.Interference.{is_register}
use Rattle.tg_live.specs.Interference.{colours, is_colour, is_node, are_two_colours}
use Rattle.tg_instr.proofs.Same.{same_is}
use Rattle.tg_interference.specs.Nodes.{temp_at, operand_at, node_of}

-- a node is the one given
abbrev pub is_at : Option ℕ → ℕ → Bool
is_at None n = false
is_at (Some m) n = n == m

at_some : (o : Option ℕ) (n : ℕ) → is_at o n ≡ true → o ≡ Some n
at_some None n e = absurd (false≢true e)
at_some (Some m) n e = ap Some (sym (eqb-true n m e))

abbrev is_nowhere : Option ℕ → Bool
is_nowhere None = true
is_nowhere (Some m) = false

nowhere_none : (o : Option ℕ) → is_nowhere o ≡ true → o ≡ None
nowhere_none None e = refl
nowhere_none (Some m) e = absurd (false≢true e)

-- a row of a table
row_at : (p : ℕ → Bool) (k a n : ℕ) → list_all p (range_with_len a k) ≡ true → a ≤ n → n < a + k → p n ≡ true
row_at p zero a n h l m = absurd (omega arith)
row_at p (suc k) a n h l m =
    let parts = and_parts (p a) (list_all p (range_with_len (a + 1) k)) h in
    ⊎_elim (λ e. ap p e ∙ parts.0) (λ ne. row_at p k (a + 1) n parts.1 (omega arith) (omega arith)) (cases_eq n a)

abbrev place : ℕ → Option ℕ
place r = position (nat_eq r) colours

abbrev colour : ℕ → ℕ
colour n = get_or colours n 0

colours_differ : list_all (λ n. is_at (place (colour n)) n) (range_with_len 0 25) ≡ true
colours_differ = refl

colour_place : (n : ℕ) → n < 25 → place (colour n) ≡ Some n
colour_place n l =
    let z : 0 ≤ n = omega arith in
    at_some (place (colour n)) n (row_at (λ k. is_at (place (colour k)) k) 25 0 n colours_differ z l)

-- The rows of the code.

low_rows : list_all (λ r. is_at (place r) (r - 2)) (range_with_len 2 14) ≡ true
low_rows = refl

saved_rows : list_all (λ r. is_at (place r) r) (range_with_len 16 8) ≡ true
saved_rows = refl

high_rows : list_all (λ r. is_at (place r) (r - 10)) (range_with_len 24 2) ≡ true
high_rows = refl

other_rows : list_all (λ r. is_nowhere (place r)) (range_with_len 0 2) ≡ true
other_rows = refl

last_rows : list_all (λ r. is_nowhere (place r)) (range_with_len 26 5) ≡ true
last_rows = refl

pub low_colour : (r : ℕ) → 2 ≤ r → r ≤ 15 → Some (r - 2) ≡ node_of (Reg r)
unfolding node_of
low_colour r l m = sym (at_some (place r) _ (row_at (λ k. is_at (place k) (k - 2)) 14 2 r low_rows l (omega arith)))

pub saved_colour : (r : ℕ) → 16 ≤ r → r ≤ 23 → Some r ≡ node_of (Reg r)
unfolding node_of
saved_colour r l m = sym (at_some (place r) _ (row_at (λ k. is_at (place k) k) 8 16 r saved_rows l (omega arith)))

pub high_colour : (r : ℕ) → 24 ≤ r → r ≤ 25 → Some (r - 10) ≡ node_of (Reg r)
unfolding node_of
high_colour r l m = sym (at_some (place r) _ (row_at (λ k. is_at (place k) (k - 10)) 2 24 r high_rows l (omega arith)))

pub last_colour : Some 24 ≡ node_of (Reg 31)
unfolding node_of
last_colour = refl

pub no_colour : (r : ℕ) → (2 ≤ r → r < 26 → ⊥) → (26 ≤ r → r < 31) → None ≡ node_of (Reg r)
unfolding node_of
no_colour r h k =
    sym (⊎_elim first (λ l. ⊎_elim (λ m. absurd (h l m)) (λ m. second (m, k m)) (cases_lt r 26)) (cases_lt r 2))
  where
    first : r < 2 → place r ≡ None
    first l = nowhere_none (place r) (row_at (λ k. is_nowhere (place k)) 2 0 r other_rows (omega arith) l)

    second : (26 ≤ r) × (r < 31) → place r ≡ None
    second l = nowhere_none (place r) (row_at (λ k. is_nowhere (place k)) 5 26 r last_rows l.0 (omega arith))

pub node_of_temp : (t : ℕ) → Some (25 + t) ≡ node_of (TempOf (record { 0 = t }))
unfolding node_of
node_of_temp t = refl

-- The operands of nodes.

operand_low : (n : ℕ) → n < 25 → operand_at n ≡ Reg (colour n)
unfolding operand_at
operand_low n l = ap (λ b. cond b (Reg (colour n)) (temp_at n)) (lt-ltb n 25 l)

pub operand_high : (n : ℕ) → 25 ≤ n → operand_at n ≡ temp_at n
unfolding operand_at
operand_high n l = ap (λ b. cond b (Reg (colour n)) (temp_at n)) (le-ltb n 25 l)

placed : (r n : ℕ) → place r ≡ Some n → (n < 25) × (colour n ≡ r)
placed r n e =
    let h = position-Some (nat_eq r) colours n 0 e in
    (h.0, sym (eqb-true r (colour n) h.1))

-- an operand is that of a node exactly where the node is its own
pub same_at : (n : ℕ) (x : Opnd) → is_same (operand_at n) x ≡ is_at (node_of x) n
unfolding node_of
same_at n x = ⊎_elim (λ l. ap (λ o. is_same o x) (operand_low n l) ∙ low l x) (λ l. ap (λ o. is_same o
    x) (operand_high n l) ∙ high l x) (cases_lt n 25)
  where
    at_colour : n < 25 → (r : ℕ) → (colour n == r) ≡ is_at (place r) n
    at_colour l r = ⊎_elim same other (cases_eq (colour n) r)
      where
        same : colour n ≡ r → (colour n == r) ≡ is_at (place r) n
        same e =
            eq-eqb (colour n) r e
            ∙ sym (ap (λ q. is_at (place q) n) (sym e) ∙ (ap (λ o. is_at o n) (colour_place n l) ∙ eq-eqb n n refl))

        other : (colour n ≡ r → ⊥) → (colour n == r) ≡ is_at (place r) n
        other ne =
            ne_eqb (colour n) r ne
            ∙ sym (false_from_ne_true _ (λ s. ne (placed r n (at_some (place r) n s)).1))

    low : n < 25 → (x : Opnd) → is_same (Reg (colour n)) x ≡ is_at (node_of x) n
    low l (TempOf t) = sym (ne_eqb n (25 + t.0) (λ e. omega arith))
    low l (Reg r) = at_colour l r

    high : 25 ≤ n → (x : Opnd) → is_same (temp_at n) x ≡ is_at (node_of x) n
    high l (TempOf t) = ⊎_elim (λ e. let k : n ≡ 25 + t.0 = omega arith in eq-eqb (n - 25) t.0 e
        ∙ sym (eq-eqb n (25 + t.0) k)) (λ ne. ne_eqb (n - 25) t.0 ne
        ∙ sym (ne_eqb n (25 + t.0) (λ k. ne (omega arith)))) (cases_eq (n - 25) t.0)
    high l (Reg r) =
        sym (false_from_ne_true _ (λ s. let k = placed r n (at_some (place r) n s) in absurd (omega arith)))

pub node_operand : (n : ℕ) → node_of (operand_at n) ≡ Some n
unfolding node_of
node_operand n = ⊎_elim low high (cases_lt n 25)
  where
    low : n < 25 → node_of (operand_at n) ≡ Some n
    low l = ap node_of (operand_low n l) ∙ colour_place n l

    high : 25 ≤ n → node_of (operand_at n) ≡ Some n
    high l = let e : 25 + (n - 25) ≡ n = omega arith in ap node_of (operand_high n l) ∙ ap Some e

pub same_nodes : (x y : ℕ) → is_same (operand_at x) (operand_at y) ≡ (x == y)
same_nodes x y = same_at x (operand_at y) ∙ ap (λ o. is_at o x) (node_operand y)

-- a node of an operand below is among the nodes
pub node_below : (n : ℕ) (x : Opnd) (m : ℕ) → is_below n x ≡ true → node_of x ≡ Some m → m < 25 + n
unfolding node_of
node_below n (Reg r) m b e = let k = (placed r m e).0 in omega arith
node_below n (TempOf t) m b e =
    let k : t.0 < n = ltb-true t.0 n b in let s : 25 + t.0 ≡ m = cc in omega arith

-- The colours among the nodes.

colours_are_colours : list_all (λ n. is_colour (Reg (colour n))) (range_with_len 0 25) ≡ true
colours_are_colours = refl

colour_at : (n : ℕ) → is_colour (operand_at n) ≡ is_register n
colour_at n = ⊎_elim low high (cases_lt n 25)
  where
    low : n < 25 → is_colour (operand_at n) ≡ is_register n
    low l =
        ap is_colour (operand_low n l)
        ∙ (row_at (λ k. is_colour (Reg (colour k))) 25 0 n colours_are_colours (omega arith) l ∙ sym (lt-ltb n 25 l))

    high : 25 ≤ n → is_colour (operand_at n) ≡ is_register n
    high l = ap is_colour (operand_high n l) ∙ sym (le-ltb n 25 l)

pub node_at : (n : ℕ) → is_node (operand_at n) ≡ true
node_at n = ⊎_elim low high (cases_lt n 25)
  where
    low : n < 25 → is_node (operand_at n) ≡ true
    low l =
        ap is_node (operand_low n l)
        ∙ row_at (λ k. is_colour (Reg (colour k))) 25 0 n colours_are_colours (omega arith) l

    high : 25 ≤ n → is_node (operand_at n) ≡ true
    high l = ap is_node (operand_high n l)

pub two_colours : (x y : ℕ) → are_two_colours (operand_at x) (operand_at y)
    ≡ (is_register x && (is_register y && not (x == y)))
two_colours x y =
    ap (λ b. b && (is_colour (operand_at y) && not (is_same (operand_at x) (operand_at y)))) (colour_at x)
    ∙ (ap (λ b. is_register x && (b && not (is_same (operand_at x) (operand_at y)))) (colour_at y)
    ∙ ap (λ b. is_register x && (is_register y && not b)) (same_nodes x y))

-- Laws.

pub no_other : (x : Opnd) (n : ℕ) → node_of x ≡ Some n → operand_at n ≡ x
no_other x n e = same_is (operand_at n) x (same_at n x ∙ (ap (λ o. is_at o n) e ∙ eq-eqb n n refl))

found_at : (p : ℕ → Bool) (xs : List ℕ) → list_any p xs ≡ true → (k : ℕ) × (k < length xs) × (p (get_or xs k 0) ≡ true)
found_at p [] h = absurd (false≢true h)
found_at p (x ∷ xs) h =
    ⊎_elim (λ e. (0, omega arith, e)) (λ r. let f = found_at p xs r in (suc f.0, omega arith, f.2))
    (or_cases (p x) (list_any p xs) h)

both : (s t : Bool) → (s ≡ true → t ≡ true) → (t ≡ true → s ≡ true) → s ≡ t
both true t f g = sym (f refl)
both false true f g = g refl
both false false f g = refl

place_exists : (r : ℕ) → is_some (place r) ≡ list_any (nat_eq r) colours
place_exists r = both (is_some (place r)) (list_any (nat_eq r) colours) there back
  where
    at : (o : Option ℕ) → place r ≡ o → is_some o ≡ true → list_any (nat_eq r) colours ≡ true
    at None e h = absurd (false≢true h)
    at (Some n) e h =
        let k = placed r n e in
        list_any_at (nat_eq r) colours n 0 k.0 (eq-eqb r (colour n) (sym k.1))

    there : is_some (place r) ≡ true → list_any (nat_eq r) colours ≡ true
    there h = at (place r) refl h

    back : list_any (nat_eq r) colours ≡ true → is_some (place r) ≡ true
    back h =
        let f = found_at (nat_eq r) colours h in
        ap (λ q. is_some (place q)) (eqb-true r (colour f.0) f.2)
        ∙ ap (λ (o : Option ℕ). is_some o) (colour_place f.0 f.1)

pub node_exists : (x : Opnd) → is_some (node_of x) ≡ is_node x
unfolding node_of
node_exists (TempOf t) = refl
node_exists (Reg r) = place_exists r
