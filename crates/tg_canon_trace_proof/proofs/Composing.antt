-- The passes one after the other, over whole programs, and their sizes.
use Rattle.std.proofs.Common.{List, [], ◌∷◌, map, refl, arith}
use Rattle.std.specs.List.{Contains, AllByRecursion}
use Rattle.std.proofs.lemmas.List.Elements.{Contains-append_right}
use Rattle.tg_simulation.proofs.Agreeing.{passes_compose}
use Rattle.tg_tree.specs.Tree.{Function}
use Rattle.tg_canon.specs.laws.Laws.{GivesCanonical, GivesClosed}
use Rattle.tg_canon.specs.laws.Meaning as canon
use Rattle.tg_canon.specs.laws.Meaning.{canonical, canonical_code}
use Rattle.tg_canon.specs.mirror.Canon.{linearized}
use Rattle.tg_trace_schedule.specs.Block.{Block}
use Rattle.tg_trace_schedule.specs.laws.Laws as trace
use Rattle.tg_trace_schedule.specs.laws.Laws.{BlocksAreWhole}
use Rattle.tg_trace_schedule.specs.laws.Heads.{BlocksAreEntered}
use Rattle.tg_trace_schedule.specs.laws.Carried.{in_blocks, code_in_blocks, IsCanonicalFunction, BlocksAreCorrect}
use Rattle.tg_trace_schedule.specs.laws.Traced.{MayBeLaid, TracesAreCorrect}
use Rattle.tg_canon_trace_proof.specs.Flattened.{MayBeFlattened}
use Rattle.tg_canon_trace_proof.specs.laws.Laws.{FlattenIsCorrect, LengthStays, NeedsStay}

-- what holds of each function, and of what it becomes
all_of : {A : Type 0} (P : A → Type 0) (xs : List A) → ((x : A) → Contains xs x → P x) → AllByRecursion P xs
all_of P [] h = tt
all_of P (x ∷ xs) h = (h x (0, omega arith, refl), all_of P xs (λ y c. h y (Contains-append_right (x ∷ []) xs y c)))

all_become : {A B : Type 0} (P : A → Type 0) (Q : B → Type 0) (f : A → B) (gives : (x : A) → P x → Q (f x)) (xs : List A) → AllByRecursion P xs →
    AllByRecursion Q (map f xs)
all_become P Q f gives [] h = tt
all_become P Q f gives (x ∷ xs) h = (gives x h.0, all_become P Q f gives xs h.1)

abbrev HasLayableBlocks : Function (List Block) → Type 0
HasLayableBlocks f = MayBeLaid f.body

pub trees_preserved :
    canon.CanonIsCorrect → GivesCanonical → GivesClosed → BlocksAreCorrect → BlocksAreWhole → BlocksAreEntered → TracesAreCorrect → FlattenIsCorrect
trees_preserved linearize gives_canonical gives_closed cut whole entered lay code size floor room body input may =
    let statements = canonical_code code in
    let blocks = code_in_blocks statements in
    let taken = all_of MayBeFlattened code.functions may in
    let cuttable : AllByRecursion IsCanonicalFunction statements.functions =
    all_become MayBeFlattened IsCanonicalFunction canonical (λ f m.
    (gives_canonical f.body f.temps, gives_closed f.body f.temps m.closed)) code.functions taken in
    let layable : AllByRecursion HasLayableBlocks blocks.functions =
    all_become IsCanonicalFunction HasLayableBlocks in_blocks
    (λ f c. record { whole = whole f.body c.1; entered = entered f.body c.1 }) statements.functions cuttable in
    passes_compose 1 1 1 0 _ _ _
    (passes_compose 1 0 1 1 _ _ _ (linearize code size floor room body input (λ f c. (may f c).temps)) (cut statements size floor room body input cuttable))
    (lay blocks size floor room body input layable)

pub lengths_stay : canon.LengthStays → trace.LengthStays → LengthStays
lengths_stay linearize lay f may =
    let h = linearize f may.temps in
    let k = lay (linearized f.body f.temps).it in
    omega (arith, h, k)

pub needs_stay : canon.NeedsStay → trace.NeedsStay → NeedsStay
needs_stay linearize lay f may =
    let h = linearize f may.temps in
    let k = lay (linearized f.body f.temps).it in
    omega (arith, h, k)
