-- The numbers of uses and of moves of a code, and the nodes that its moves end in.
use Rattle.std.proofs.Common.{ℕ, zero, suc, ◌≡◌, ◌<◌, ◌≤◌, ◌+◌, ◌-◌, ◌*◌, List, [], ◌∷◌, Bool, true, false, Option, Some, None, cond, length, map}
use Rattle.std.proofs.Common.{count_by, refl, subst, arith, zero-add}
use Rattle.std.specs.Prelude.{All, IsTrue, nat_le, nat_lt}
use Rattle.std.specs.List.{list_all, sum_by, range_with_len, cons_option}
use Rattle.std.proofs.lemmas.Bool.{ltb-true}
use Rattle.std.proofs.lemmas.Bool.Decides.{nat_tests}
use Rattle.std.proofs.lemmas.List.FromFn.{sum_by-map-range_with_len_more}
use Rattle.std.proofs.lemmas.List.Sums.{sum_by-cons, sum_by-le, count_by-le-length}
use Rattle.std.proofs.lemmas.List.Elements.{All-nil, All-cons}
use Rattle.tg_instr.specs.declared.operands.Opnd.{Opnd}
use Rattle.tg_instr.specs.declared.operands.Opnd.TheVariants.{Temp, Reg}
use Rattle.tg_instr.specs.declared.instr.Instr.{Instr}
use Rattle.tg_instr.specs.Codes.{is_below, has_temps_below}
use Rattle.tg_instr.specs.Operands.{is_same}
use Rattle.tg_instr.specs.Shapes.{Holder, Operand, InstructionShape, From1, Copy, shape}
use Rattle.tg_instr.specs.Uses.{operand_of, uses, defs, uses_of, defs_of}
use Rattle.tg_instr.proofs.Tests.{left_holds, right_holds}
use Rattle.tg_graph.specs.Interference.{is_register}
use Rattle.tg_irc_definition.specs.declared.moves.Move.{Move}
use Rattle.tg_irc_definition.specs.declared.candidates.NodeFacts.{NodeFacts}
use Rattle.tg_interference.specs.Nodes.{node_of}
use Rattle.tg_interference.specs.Moves.{between, move_of, moves_of}
use Rattle.tg_interference.specs.Facts.{temp, occurrences_in, occurrences, facts_of, facts_of_nodes}

-- Uses: those of temporaries with nodes below a number, which grow with the number by those of one.

abbrev is_below_node : ℕ → Opnd → Bool
is_below_node n (Temp t) = nat_lt (25 + t.0) n
is_below_node n (Reg r) = false

abbrev total : ℕ → Instr → ℕ
total n one = count_by (is_below_node n) (uses_of one) + count_by (is_below_node n) (defs_of one)

both_sum : (a b c d e f : ℕ) → a ≡ b + c → d ≡ e + f → a + d ≡ (b + e) + (c + f)
both_sum a b c d e f g h = omega arith

operand_more : (n : ℕ) (x : Opnd) → 25 ≤ n → cond (is_below_node (n + 1) x) 1 0 ≡ cond (is_below_node n x) 1 0 + cond (is_same (temp (n - 25)) x) 1 0
operand_more n (Temp t) h = grind (arith, nat_tests)
operand_more n (Reg r) h = refl

sum_splits : {X : Type 0} (f g h : X → ℕ) → ((x : X) → f x ≡ g x + h x) → (xs : List X) → sum_by f xs ≡ sum_by g xs + sum_by h xs
sum_splits f g h e [] = refl
sum_splits f g h e (x ∷ xs) =
    let rest = sum_splits f g h e xs in
    let here = e x in
    omega (arith, sum_by-cons f x xs, sum_by-cons g x xs, sum_by-cons h x xs, rest, here)

count_more : (n : ℕ) (xs : List Opnd) → 25 ≤ n → count_by (is_below_node (n + 1)) xs ≡ count_by (is_below_node n) xs + count_by (is_same (temp (n - 25))) xs
count_more n xs h =
    sum_splits (λ x. cond (is_below_node (n + 1) x) 1 0) (λ x. cond (is_below_node n x) 1 0) (λ x. cond (is_same (temp (n - 25)) x) 1 0)
    (λ x. operand_more n x h) xs

total_more : (n : ℕ) (list : List Instr) → 25 ≤ n → sum_by (total (n + 1)) list ≡ sum_by (total n) list + occurrences (temp (n - 25)) list
total_more n list h =
    sum_splits (total (n + 1)) (total n) (occurrences_in (temp (n - 25)))
    (λ one. both_sum _ _ _ _ _ _ (count_more n (uses_of one) h) (count_more n (defs_of one) h)) list

facts_uses : (list : List Instr) (originals n : ℕ) → (facts_of list originals n).uses ≤ occurrences (temp (n - 25)) list
facts_uses list originals n = by (is_register n)
  where
    by : (b : Bool) →
        (cond {A = NodeFacts} b (record { uses = 0; made = false }) (record { uses = occurrences (temp (n - 25)) list; made = nat_le originals (n - 25) })).uses ≤
        occurrences (temp (n - 25)) list
    by true = omega arith
    by false = omega arith

few_in : (list : List Instr) (originals n : ℕ) →
    sum_by (λ (m : NodeFacts). m.uses) (map (facts_of list originals) (range_with_len 0 (25 + n))) ≤ sum_by (total (25 + n)) list
few_in list originals zero = let z : sum_by (λ (m : NodeFacts). m.uses) (map (facts_of list originals) (range_with_len 0 25)) ≡ 0 = refl in omega arith
few_in list originals (suc n) =
    let e : (25 + n) + 1 ≡ 25 + suc n = omega arith in
    let more = sum_by-map-range_with_len_more (λ (m : NodeFacts). m.uses) (facts_of list originals) 0 (25 + n) (25 + n) (zero-add (25 + n)) in
    let mark = facts_uses list originals (25 + n) in
    let all = total_more (25 + n) list (omega arith) in
    let before = few_in list originals n in
    subst (λ k. sum_by (λ (m : NodeFacts). m.uses) (map (facts_of list originals) (range_with_len 0 k)) ≤ sum_by (total k) list)
    e (omega (arith, more, mark, all, before))

holder_few : (h : Holder) → length (operand_of h) ≤ 1
holder_few (Operand x) = omega arith
holder_few _ = omega arith

shape_few : (s : InstructionShape) → length (uses s) + length (defs s) ≤ 48
shape_few (From1 to from f) = let h = holder_few from in omega arith
shape_few _ = omega arith

total_few : (n : ℕ) (one : Instr) → total n one ≤ 48
total_few n one =
    let u = count_by-le-length (is_below_node n) (uses_of one) in
    let d = count_by-le-length (is_below_node n) (defs_of one) in
    let few = shape_few (shape one) in
    omega (arith, u, d, few)

-- the uses of all nodes sum to at most 48 for each instruction
pub uses_few : (list : List Instr) (temps originals : ℕ) → sum_by (λ (m : NodeFacts). m.uses) (facts_of_nodes list temps originals) ≤ length list * 48
uses_few list temps originals =
    let a = few_in list originals temps in
    let b = sum_by-le (total (25 + temps)) 48 list (λ k one l. total_few (25 + temps) _) in
    omega (arith, a, b)

-- Moves.

cons_few : (o : Option Move) (ms : List Move) (n : ℕ) → length ms ≤ n → length (cons_option o ms) ≤ suc n
cons_few None ms n h = omega arith
cons_few (Some m) ms n h = omega arith

pub moves_few : (list : List Instr) → length (moves_of list) ≤ length list
moves_few [] = omega arith
moves_few (x ∷ rest) = cons_few (move_of (shape x)) (moves_of rest) (length rest) (moves_few rest)

abbrev pub AreEnds : ℕ → Move → Type 0
AreEnds n m = (m.to < n) × (m.from < n)

some_is : {A : Type 0} {x y : A} → Some x ≡ Some y → x ≡ y
some_is e = cc

position_below : (b : Bool) (p n k : ℕ) → nat_lt p n ≡ b → cond b (Some p) None ≡ Some k → k < n
position_below true p n k h e = subst (λ j. j < n) (some_is e) (ltb-true p n h)
position_below false p n k h e = cc

pub node_below : (temps : ℕ) (x : Opnd) → IsTrue (is_below temps x) → (k : ℕ) → node_of x ≡ Some k → k < 25 + temps
unfolding node_of
node_below temps (Temp t) h k e = let i : 25 + t.0 ≡ k = some_is e in let l = ltb-true t.0 temps h in omega arith
node_below temps (Reg r) h k e = let l : k < 25 = position_below _ _ 25 k refl e in omega arith

between_below : (n : ℕ) (a b : Option ℕ) → ((k : ℕ) → a ≡ Some k → k < n) → ((k : ℕ) → b ≡ Some k → k < n) → (m : Move) → between a b ≡ Some m → AreEnds n m
between_below n (Some to) (Some from) f g m e = subst (AreEnds n) (some_is e) (f to refl, g from refl)
between_below n (Some to) None f g m e = cc
between_below n None b f g m e = cc

shape_below : (temps : ℕ) (s : InstructionShape) → IsTrue (list_all (is_below temps) (uses s)) → IsTrue (list_all (is_below temps) (defs s)) → (m : Move) →
    move_of s ≡ Some m → AreEnds (25 + temps) m
shape_below temps (Copy to from) u d m e = between_below (25 + temps) (node_of to) (node_of from)
    (node_below temps to (left_holds _ _ d)) (node_below temps from (left_holds _ _ u)) m e
shape_below temps _ u d m e = cc

cons_below : (n : ℕ) (o : Option Move) (ms : List Move) → ((m : Move) → o ≡ Some m → AreEnds n m) → All (AreEnds n) ms → All (AreEnds n) (cons_option o ms)
cons_below n None ms f a = a
cons_below n (Some m) ms f a = All-cons (AreEnds n) m ms (f m refl) a

-- the moves end in nodes
pub moves_below : (temps : ℕ) (list : List Instr) → IsTrue (list_all (has_temps_below temps) list) → All (AreEnds (25 + temps)) (moves_of list)
moves_below temps [] h = All-nil (AreEnds (25 + temps))
moves_below temps (x ∷ rest) h =
    let here : IsTrue (has_temps_below temps x) = left_holds _ _ h in
    cons_below (25 + temps) (move_of (shape x)) (moves_of rest)
    (shape_below temps (shape x) (left_holds _ _ here) (right_holds (list_all (is_below temps) (uses_of x)) _ here))
    (moves_below temps rest (right_holds (has_temps_below temps x) _ h))
