-- The allocation of a function has rounds from the code that is chosen for it on, and those of a program are of its functions.
use Rattle.std.proofs.Common.{ℕ, zero, suc, ◌<◌, ◌≡◌, Bool, true, false, List, [], ◌∷◌, length, get_or, sym, ap, subst, refl, ◌∙◌, arith}
use Rattle.std.specs.Prelude.{map, if◌then◌else◌}
use Rattle.std.specs.List.{AllZip}
use Rattle.std.proofs.lemmas.List.{get_or-map, length-map}
use Rattle.tg_tree.specs.Tree.{Ts, Function, Code}
use Rattle.tg_tree.specs.declared.fragments.Fragment.{Fragment}
use Rattle.tg_tree.specs.declared.fragments.Literal.{Literal}
use Rattle.tg_tree.specs.glue.Plain.{plain_fragment}
use Rattle.tg_fold.specs.laws.Laws.{folded_function}
use Rattle.tg_fold.specs.laws.Meaning.{folded_code}
use Rattle.tg_canon_trace_proof.specs.Flattened.{flattened}
use Rattle.tg_regalloc.specs.declared.allocations.Allocation.{Allocation}
use Rattle.tg_regalloc.specs.Rounds.{BetweenRounds, stage_of, AreRounds}
use Rattle.tg_code_bounds.specs.Allocating.{IsAllocationOf}
use Rattle.tg_compile.specs.declared.passes.Passes.{Passes}
use Rattle.tg_compile.specs.Prepared.{prepared, prepared_function}
use Rattle.tg_compile.proofs.Chain.{tree_of}
use Rattle.tg_stages.specs.Shown.{first_code}
use Rattle.tg_stages.specs.glue.Allocating.{HasRounds, HasAllocation, HaveAllocations}

pub has_rounds : (f : Function Ts) (a : Allocation) → HasAllocation f a → HasRounds (first_code (flattened f)).temps (first_code (flattened f)) a.rounds
has_rounds f a h =
    let is = h.is_allocation in
    let list = is.chooses.list in
    let temps = is.chooses.temps in
    let slots = is.chooses.slots in
    let same : stage_of is.code is.frame.slots ≡ first_code (flattened f) = λ i. record { list = list i; temps = temps i; slots = slots i } in
    let P : BetweenRounds → Type 0 = λ s. AreRounds h.rule s.temps s a.rounds is.allocation.end in
    record { rule = h.rule; end = is.allocation.end; are_rounds = subst P same is.allocation.rounds }

zip_at : {A B : Type 0} (R : A → B → Type 0) (xs : List A) (ys : List B) (at : ℕ) (d : A) (e : B) → AllZip R xs ys → at < length xs →
    R (get_or xs at d) (get_or ys at e)
zip_at R [] ys at d e h inside = absurd (omega arith)
zip_at R (x ∷ xs) [] at d e h inside = absurd h
zip_at R (x ∷ xs) (y ∷ ys) zero d e h inside = h.0
zip_at R (x ∷ xs) (y ∷ ys) (suc at) d e h inside = zip_at R xs ys at d e h.1 (omega arith)

prepared_at : (passes : Passes) (whole : Code Ts) (at : ℕ) (f : Function Ts) → at < length whole.functions → f ≡ get_or whole.functions at f →
    (get_or (prepared passes whole).functions at (prepared_function passes f) ≡ prepared_function passes f) × (at < length (prepared passes whole).functions)
prepared_at passes whole at f inside is = by passes.fold
  where
    by : (b : Bool) → (get_or (if b then folded_code whole else whole).functions at (if b then folded_function f else f) ≡ (if b then folded_function f else f))
        × (at < length (if b then folded_code whole else whole).functions)
    by true = (
      get_or-map folded_function whole.functions at f (folded_function f) inside ∙ ap folded_function (sym is),
      omega (arith, inside, length-map whole.functions folded_function),
    )
    by false = (sym is, inside)

-- of the function at a place
pub allocation_at : (passes : Passes) (fs : List Fragment) (ls : List Literal) (whole : Code Ts) (all : List Allocation) (at : ℕ) (f : Fragment) (a : Allocation) →
    tree_of fs ls ≡ whole → HaveAllocations (prepared passes whole).functions all → at < length fs → f ≡ get_or fs at f → a ≡ get_or all at a →
    HasAllocation (prepared_function passes (plain_fragment f)) a
allocation_at passes fs ls whole all at f a is h inside there it =
    let g = plain_fragment f in
    let functions : map plain_fragment fs ≡ whole.functions = ap (λ (c : Code Ts). c.functions) is in
    let here : at < length whole.functions = omega (arith, inside, length-map fs plain_fragment, ap (λ (gs : List (Function Ts)). length gs) functions) in
    let found : g ≡ get_or whole.functions at g =
    sym (ap (λ gs. get_or gs at g) (sym functions) ∙ get_or-map plain_fragment fs at f g inside ∙ ap plain_fragment (sym there)) in
    let of_it = prepared_at passes whole at g here found in
    let R = IsAllocationOf h.rule in
    let both = zip_at R (prepared passes whole).functions all at (prepared_function passes g) a h.are_allocations of_it.1 in
    record { rule = h.rule; is_allocation = subst (R (prepared_function passes g)) (sym it) (subst (λ k. R k (get_or all at a)) of_it.0 both) }
