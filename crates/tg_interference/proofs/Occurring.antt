-- Moves in a loop, and how often operands occur.
use Rattle.std.proofs.Common.{◌≡◌, ◌<◌, ◌≤◌, ◌+◌, ◌-◌, ◌*◌, ◌^◌, ℕ, Bool, false, cond, List, [], ◌∷◌, ◌++◌, Some, None, length, get_or, take, map}
use Rattle.std.proofs.Common.{count_by, refl, sym, ap, ◌∙◌, arith, ⊎_elim}
use Rattle.std.specs.Prelude.{All, nat_le, slice_index}
use Rattle.std.specs.List.{cons_option, range_with_len}
use Rattle.std.proofs.lemmas.List.FromFn.{map-range_with_len_more}
use Rattle.std.proofs.lemmas.Bool.{cases_lt, lt-ltb}
use Rattle.std.proofs.lemmas.List.{take_more}
use Rattle.std.proofs.lemmas.List.Elements.{filter_map-append}
use Rattle.std.proofs.lemmas.List.Sums.{sum_by_more, sum_by_more_le_part, sum_by-le, count_by-le-length}
use Rattle.tg_instr.specs.declared.instr.Instr.{Instr}
use Rattle.tg_instr.specs.declared.operands.Opnd.{Opnd}
use Rattle.tg_instr.specs.Operands.{is_same}
use Rattle.tg_instr.specs.Shapes.{Holder, Operand, Hi, Lo, InstructionShape, From1, Calls, shape}
use Rattle.tg_instr.specs.Uses.{operand_of, uses, defs, uses_of, defs_of}
use Rattle.tg_graph.specs.Interference.{is_register}
use Rattle.tg_irc_definition.specs.declared.moves.Move.{Move}
use Rattle.tg_irc_definition.specs.declared.candidates.NodeFacts.{NodeFacts}
use Rattle.tg_interference.specs.Moves.{move_of, moves_of}
use Rattle.tg_interference.specs.Facts.{temp, occurrences_in, occurrences, facts_by, facts_of, AreCounts}

-- One more instruction.

pub moves_more : (list : List Instr) (i : ℕ) (one : Instr) → i < length list → one ≡ get_or list i one →
    moves_of (take (i + 1) list) ≡ moves_of (take i list) ++ moves_of (one ∷ [])
moves_more list i one l e =
    ap (λ xs. moves_of xs) (take_more list i one l)
    ∙ (filter_map-append (λ x. move_of (shape x)) (take i list) (get_or list i one ∷ [])
    ∙ ap (λ x. moves_of (take i list) ++ moves_of (x ∷ [])) (sym e))

pub one_move : (one : Instr) (m : Move) → Some m ≡ move_of (shape one) → moves_of (one ∷ []) ≡ m ∷ []
one_move one m e = sym (ap (λ o. cons_option o []) e)

pub no_move : (one : Instr) → None ≡ move_of (shape one) → moves_of (one ∷ []) ≡ []
no_move one e = sym (ap (λ o. cons_option o []) e)

pub no_more : (moves : List Move) (one : Instr) → None ≡ move_of (shape one) → moves ≡ moves ++ moves_of (one ∷ [])
no_more moves one e = sym (ap (λ xs. moves ++ xs) (no_move one e) ∙ add_nothing moves)
  where
    add_nothing : (xs : List Move) → xs ++ [] ≡ xs
    add_nothing [] = refl
    add_nothing (x ∷ xs) = ap (λ ys. x ∷ ys) (add_nothing xs)

-- Counts.

pub count_more : {X : Type 0} (p : X → Bool) (list : List X) (i : ℕ) (x : X) → i < length list → x ≡ get_or list i x →
    count_by p (take (i + 1) list) ≡ count_by p (take i list) + count_by p (x ∷ [])
count_more p list i x l e =
    let more : count_by p (take (i + 1) list) ≡ count_by p (take i list) + cond (p x) 1 0 =
    sum_by_more (λ z. cond (p z) 1 0) list i x l
    ∙ ap (λ z. count_by p (take i list) + cond (p z) 1 0) (sym e) in
    let single : count_by p (x ∷ []) ≡ cond (p x) 1 0 = omega arith in
    more ∙ ap (λ n. count_by p (take i list) + n) (sym single)

pub occurrences_more : (x : Opnd) (list : List Instr) (i : ℕ) (one : Instr) → i < length list →
    one ≡ get_or list i one → occurrences x (take (i + 1) list) ≡ occurrences x (take i list) + occurrences_in x one
occurrences_more x list i one l e =
    sum_by_more (occurrences_in x) list i one l
    ∙ ap (λ z. occurrences x (take i list) + occurrences_in x z) (sym e)

-- an instruction uses and defines few operands

operand_few : (h : Holder) → length (operand_of h) ≤ 24
operand_few (Operand x) = omega arith
operand_few Hi = omega arith
operand_few Lo = omega arith

pub few_uses : (s : InstructionShape) → length (uses s) ≤ 24
few_uses (From1 to from f) = operand_few from
few_uses _ = omega arith

pub few_defs : (s : InstructionShape) → length (defs s) ≤ 24
few_defs (Calls label) = omega arith
few_defs _ = omega arith

few_occurrences : (x : Opnd) (one : Instr) → occurrences_in x one ≤ 48
few_occurrences x one =
    let u = count_by-le-length (is_same x) (uses_of one) in
    let d = count_by-le-length (is_same x) (defs_of one) in
    let few = few_uses (shape one) in
    let few_more = few_defs (shape one) in
    omega (arith, u, d, few, few_more)

each_few : (list : List Instr) → All (λ one. 48 ≤ 48) list
each_few list = λ k one l. omega arith

-- there is room for one more instruction
pub room_for : (x : Opnd) (list : List Instr) (i : ℕ) (one : Instr) → i < length list → length list * 48 < 2 ^ 32 →
    occurrences x (take i list) + 48 < 2 ^ 32
room_for x list i one l short =
    let part = sum_by_more_le_part (occurrences_in x) (λ one. 48) list i one l (few_occurrences x) in
    let whole = sum_by-le (λ (one : Instr). 48) 48 list (each_few list) in
    omega (arith, part, whole)

-- the facts of a node by the counts
pub facts_same : (all : List Instr) (temps originals : ℕ) (counts : List ℕ) (n : ℕ) → AreCounts all temps counts →
    n < 25 + temps → facts_by (slice_index counts) originals n ≡ facts_of all originals n
facts_same all temps originals counts n c l = ⊎_elim low high (cases_lt n 25)
  where
    low : n < 25 → facts_by (slice_index counts) originals n ≡ facts_of all originals n
    low m =
        ap (λ b. cond b (record { uses = 0; made = false }) (record {
          uses = slice_index counts (n - 25);
          made = nat_le
              originals (n - 25);
        })) (lt-ltb n 25 m)
        ∙ sym (ap (λ b. cond b (record { uses = 0; made = false }) (record {
          uses = occurrences (temp (n - 25)) all;
          made = nat_le
              originals (n - 25);
        })) (lt-ltb n 25 m))

    high : 25 ≤ n → facts_by (slice_index counts) originals n ≡ facts_of all originals n
    high m = ap (λ u. cond (is_register n) (record { uses = 0; made = false }) (record {
      uses = u;
      made = nat_le
          originals (n - 25);
    })) (c.each (n - 25) (omega arith))

-- a list of facts goes on with the next node's
pub with_facts : (all : List Instr) (originals node : ℕ) (facts more : List NodeFacts) (one : NodeFacts) →
    more ≡ facts ++ one ∷ [] → facts ≡ map (facts_of all originals) (range_with_len 0 node) →
    one ≡ facts_of all originals node → more ≡ map (facts_of all originals) (range_with_len 0 (node + 1))
with_facts all originals node facts more one n h e =
    n
    ∙ (ap (λ xs. xs ++ one ∷ []) h
    ∙ (ap (λ m. map (facts_of all originals) (range_with_len 0 node) ++ m ∷ []) e
    ∙ sym (map-range_with_len_more (facts_of all originals) 0 node node (omega arith))))
