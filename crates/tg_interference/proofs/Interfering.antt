-- What all instructions join interferes, and nothing else does.
use Rattle.std.proofs.Common.{◌≡◌, ◌⊎◌, ◌+◌, ◌<◌, ◌==◌, ℕ, zero, suc, Bool, true, false, not, ◌&&◌, ◌||◌, List, [], ◌∷◌, Option, Some, None, length}
use Rattle.std.proofs.Common.{get_or, slice_get, refl, sym, ap, ◌∙◌, inl, inr, arith, ⊎_elim}
use Rattle.std.proofs.lemmas.Bool.{and_parts, and_from, or_cases, or_left, or_right, false≢true, cases_eq}
use Rattle.tg_instr.specs.declared.instr.Instr.{Instr}
use Rattle.tg_instr.specs.declared.operands.Opnd.{Opnd}
use Rattle.tg_instr.specs.Operands.{is_same}
use Rattle.tg_instr.specs.Shapes.{InstructionShape, Copy, shape}
use Rattle.tg_instr.specs.Uses.{defs, defs_of}
use Rattle.tg_graph.specs.Interference.{Interference, interferes, is_register}
use Rattle.tg_live.specs.Live.{Sets, set_at, is_among, AreLiveSets}
use Rattle.tg_live.specs.Interference.{moves, defines_beside_at, are_two_colours, IsDefinedBeside, Interferes}
use Rattle.tg_interference.specs.Nodes.{operand_at, node_of}
use Rattle.tg_interference.specs.Moves.{between, move_of}
use Rattle.tg_interference.specs.Pairs.{IsInterference, has, is_move, is_apart, joins, joins_both}
use Rattle.tg_interference.proofs.Colours.{is_at, same_at, same_nodes, node_at, two_colours}

abbrev pub are_registers : ℕ → ℕ → Bool
are_registers x y = (is_register x && is_register y) && not (x == y)

-- what an instruction joins, in one order and in both
abbrev joins_of : Option Instr → List Opnd → ℕ → ℕ → Bool
joins_of None live x y = false
joins_of (Some one) live x y = joins (move_of (shape one)) (has (defs_of one)) (has live) x y

abbrev pub joined_of : Option Instr → List Opnd → ℕ → ℕ → Bool
joined_of o live x y = joins_of o live x y || joins_of o live y x

-- what the first instructions join
abbrev pub joined_below : List Instr → Sets → (count : ℕ) → ℕ → ℕ → Bool
joined_below all sets zero x y = false
joined_below all sets (suc n) x y =
    joined_below all sets n x y || joined_of (slice_get all n) (set_at sets n) x y

got : (all : List Instr) (at : ℕ) (one : Instr) → at < length all → one ≡ get_or all at one →
    slice_get all at ≡ Some one
got [] at one l e = absurd (omega arith)
got (y ∷ all) zero one l e = ap Some (sym e)
got (y ∷ all) (suc at) one l e = got all at one (omega arith) e

pub joined_step : (all : List Instr) (sets : Sets) (at : ℕ) (one : Instr) (live : List Opnd) (x y : ℕ) →
    at < length all → one ≡ get_or all at one → live ≡ set_at sets at →
    joined_below all sets (at + 1) x y
    ≡ (joined_below all sets at x y || joins_both (move_of (shape one)) (has (defs_of one)) (has live) x y)
joined_step all sets at one live x y l e v =
    let next : at + 1 ≡ suc at = omega arith in
    ap (λ n. joined_below all sets n x y) next
    ∙ (ap (λ o. joined_below all sets at x y || joined_of o (set_at sets at) x y) (got all at one l e)
    ∙ ap (λ list. joined_below all sets at x y || joined_of (Some one) list x y) (sym v))

-- Moves between nodes are those of the shape.

never : (b : Bool) → false ≡ (b && false)
never true = refl
never false = refl

between_is : (a b : Option ℕ) (x y : ℕ) → is_move (between a b) x y ≡ (is_at a x && is_at b y)
between_is None b x y = refl
between_is (Some t) None x y = never (x == t)
between_is (Some t) (Some f) x y = refl

moves_is : (s : InstructionShape) (x y : ℕ) → is_move (move_of s) x y ≡ moves s (operand_at x) (operand_at y)
moves_is (Copy to from) x y =
    between_is (node_of to) (node_of from) x y
    ∙ (ap (λ b. b && is_at (node_of from) y) (sym (same_at x to))
    ∙ ap (λ b. is_same (operand_at x) to && b) (sym (same_at y from)))
moves_is _ x y = refl

regroup : (a b c : Bool) → (a && (b && c)) ≡ ((a && b) && c)
regroup true b c = refl
regroup false b c = refl

joins_is : (o : Option Instr) (live : List Opnd) (x y : ℕ) →
    joins_of o live x y ≡ (defines_beside_at o (operand_at x) (operand_at y) && is_among (operand_at y) live)
joins_is None live x y = refl
joins_is (Some one) live x y =
    let s = shape one in
    let defined = is_among (operand_at x) (defs s) in
    let lives = is_among (operand_at y) live in
    regroup defined (is_apart (move_of s) x y) lives
    ∙ (ap (λ b. (defined && (not b && not (is_move (move_of s) x y))) && lives) (sym (same_nodes x y))
    ∙ ap (λ b. (defined && (not (is_same (operand_at x) (operand_at y)) && not b)) && lives) (moves_is s x y))

within : (all : List Instr) (at : ℕ) (d x : Opnd) → defines_beside_at (slice_get all at) d x ≡ true → at < length all
within [] at d x h = absurd (false≢true h)
within (one ∷ all) zero d x h = omega arith
within (one ∷ all) (suc at) d x h = let l = within all at d x h in omega arith

module _ (all : List Instr) (sets : Sets) (lives : AreLiveSets all sets) where
  at_some_place : (n x y : ℕ) → joined_below all sets n x y ≡ true →
      (at : ℕ) × (joined_of (slice_get all at) (set_at sets at) x y ≡ true)
  at_some_place zero x y h = absurd (false≢true h)
  at_some_place (suc n) x y h =
      ⊎_elim (λ k. at_some_place n x y k) (λ k. (n, k))
      (or_cases (joined_below all sets n x y) (joined_of (slice_get all n) (set_at sets n) x y) h)

  from_place : (n at x y : ℕ) → at < n → joined_of (slice_get all at) (set_at sets at) x y ≡ true →
      joined_below all sets n x y ≡ true
  from_place zero at x y l h = absurd (omega arith)
  from_place (suc n) at x y l h =
      ⊎_elim (λ e. or_right (joined_below all sets n x y) (joined_of (slice_get all n) (set_at sets n) x y)
      (ap (λ k. joined_of (slice_get all k) (set_at sets k) x y) (sym e) ∙ h)) (λ ne. or_left (joined_below all sets n x
      y) (joined_of (slice_get all n) (set_at sets n) x y) (from_place n at x y (omega arith) h)) (cases_eq at n)

  beside : (at x y : ℕ) → joins_of (slice_get all at) (set_at sets at) x y ≡ true →
      IsDefinedBeside all (operand_at x) (operand_at y)
  beside at x y h =
      let o = slice_get all at in
      let k = and_parts (defines_beside_at o (operand_at x) (operand_at y)) (is_among (operand_at y) (set_at sets
      at)) (sym (joins_is o (set_at sets at) x y) ∙ h) in
      record { at = at; defines = k.0; live = (lives.live at (operand_at y)).0 k.1 }

  joined : (x y : ℕ) (b : IsDefinedBeside all (operand_at x) (operand_at y)) →
      joins_of (slice_get all b.at) (set_at sets b.at) x y ≡ true
  joined x y b =
      joins_is (slice_get all b.at) (set_at sets b.at) x y
      ∙ and_from _ _ b.defines ((lives.live b.at (operand_at y)).1 b.live)

  pub interference_of : (temps : ℕ) (graph : Interference) → graph.nodes ≡ 25 + temps →
      ((x y : ℕ) → interferes graph x y ≡ (joined_below all sets (length all) x y || are_registers x y)) →
      IsInterference all temps graph
  interference_of temps graph n h = record { nodes = n; pairs = λ x y. (caused x y, joins_them x y) }
    where
      registers : (x y : ℕ) → are_two_colours (operand_at x) (operand_at y) ≡ are_registers x y
      registers x y = two_colours x y ∙ regroup (is_register x) (is_register y) (not (x == y))

      cause : (x y : ℕ) → (joined_below all sets (length all) x y ≡ true) ⊎ (are_registers x y ≡ true) →
          (are_two_colours (operand_at x) (operand_at y) ≡ true)
          ⊎ (IsDefinedBeside all (operand_at x) (operand_at y) ⊎ IsDefinedBeside all (operand_at y) (operand_at x))
      cause x y c =
          ⊎_elim
          (λ j. let p = at_some_place (length all) x y j in
          let one = joins_of (slice_get all p.0) (set_at sets p.0) x y in
          let other = joins_of (slice_get all p.0) (set_at sets p.0) y x in
          inr (⊎_elim (λ k. inl (beside p.0 x y k)) (λ k. inr (beside p.0 y x k)) (or_cases one other p.1)))
          (λ r. inl (registers x y ∙ r)) c

      caused : (x y : ℕ) → interferes graph x y ≡ true → Interferes all (operand_at x) (operand_at y)
      caused x y i = record {
        left = node_at x;
        right = node_at y;
        cause = cause x y (or_cases (joined_below all sets (length all) x y) (are_registers x y) (sym (h x y) ∙ i));
      }

      by_first : (x y : ℕ) → IsDefinedBeside all (operand_at x) (operand_at y) →
          joined_below all sets (length all) x y ≡ true
      by_first x y b = from_place (length all) b.at x y (within all b.at (operand_at x) (operand_at y) b.defines)
          (or_left (joins_of (slice_get all b.at) (set_at sets b.at) x y) _ (joined x y b))

      by_second : (x y : ℕ) → IsDefinedBeside all (operand_at y) (operand_at x) →
          joined_below all sets (length all) x y ≡ true
      by_second x y b = from_place (length all) b.at x y (within all b.at (operand_at y) (operand_at x) b.defines)
          (or_right (joins_of (slice_get all b.at) (set_at sets b.at) x y) _ (joined y x b))

      joins_them : (x y : ℕ) → Interferes all (operand_at x) (operand_at y) → interferes graph x y ≡ true
      joins_them x y i = h x y ∙ ⊎_elim (λ r. or_right (joined_below all sets (length all) x y) (are_registers x y) (sym
          (registers x y) ∙ r)) (λ b. or_left (joined_below all sets (length all) x y) (are_registers x y)
          (⊎_elim (by_first x y) (by_second x y) b)) i.cause
