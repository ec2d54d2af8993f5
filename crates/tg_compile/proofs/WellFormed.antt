-- Functions are well formed, and their flat code is well marked.
use Rattle.std.proofs.Common.{◌≡◌, ◌<◌, ℕ, zero, suc, Bool, true, List, [], ◌∷◌, refl, sym, ap, ◌∙◌, subst, arith, get_or, length}
use Rattle.std.specs.Prelude.{nat_lt, IsTrue, All, map}
use Rattle.std.specs.List.{Contains, list_all}
use Rattle.std.specs.FinSet.{from_list}
use Rattle.std.proofs.lemmas.List.{get_or-map, length-map}
use Rattle.std.proofs.lemmas.Bool.{lt-ltb, ltb-true, and_parts}
use Rattle.std.proofs.lemmas.List.Elements.{All-append, All-weaker, All-contains, All-contains_itself}
use Rattle.std.proofs.lemmas.List.Sums.{AllPass-from_list_all}
use Rattle.tg_typecheck.specs.Programs.{CheckedProgram, IsAccepted}
use Rattle.tg_escape.specs.Escaping.{escapes_of}
use Rattle.tg_escape.specs.Links.{links_of}
use Rattle.tg_tree.specs.declared.fragments.Fragment.{Fragment}
use Rattle.tg_tree.specs.glue.Plain.{plain_fragment}
use Rattle.tg_tree.specs.Tree.{Ts, Function}
use Rattle.tg_tree.specs.Named.{Named, function, literal, fault, temporary, constant, named_stms, named_flat, HasItsTemps}
use Rattle.tg_tree.specs.Shapes.{IsClosed, IsWellMarked}
use Rattle.tg_translate.specs.mirror.Translate.{translated}
use Rattle.tg_runtime.specs.laws.Laws.{AreRoutines, is_own, AllAreRoutines}
use Rattle.tg_runtime.specs.mirror.Routines.{runtime}
use Rattle.tg_translate_laws.specs.laws.Laws.{names, CheckedBodiesAreClosed, CheckedTemporariesAreDrawn, CheckedFramesAreSmall}
use Rattle.tg_canon.specs.laws.Laws.{GivesClosed, AreTempsBelow, TempsStay}
use Rattle.tg_canon.specs.mirror.Canon.{linearized}
use Rattle.tg_trace_schedule.specs.laws.Laws as trace
use Rattle.tg_trace_schedule.specs.mirror.Cutting.{blocks_of}
use Rattle.tg_canon_trace_proof.specs.Flattened.{flattened}
use Rattle.tg_compile.specs.Compiling.{findings_of, fragments_of}
use Rattle.tg_compile.specs.glue.Passes.{IsWellFormed, FlatCodeIsWellMarked}

-- a function of the runtime, which has no slot
abbrev has_few : Function Ts → Bool
has_few f = nat_lt f.slots 16777216

routine_is : (fs : List (Function Ts)) → AreRoutines fs → list_all has_few fs ≡ true → (f : Function Ts) →
    Contains fs f → IsWellFormed f
routine_is [] h few f c = absurd (omega (arith, c.1))
routine_is (g ∷ gs) h few f (zero, l, e) =
    let own = AllPass-from_list_all (is_own g.temps) (names g.body) h.0.own in
    subst IsWellFormed e (record {
      closed = h.0.closed;
      drawn = λ i c. ltb-true i g.temps (All-contains (λ x. is_own g.temps x ≡ true) (names g.body) (temporary i) own c);
      few = ltb-true g.slots 16777216 (and_parts (has_few g) (list_all has_few gs) few).0;
    })
routine_is (g ∷ gs) h few f (suc n, l, e) =
    routine_is gs h.1 (and_parts (has_few g) (list_all has_few gs) few).1 f (n, omega arith, e)

each_is : (fs : List (Function Ts)) → ((f : Function Ts) → Contains fs f → IsWellFormed f) → All IsWellFormed fs
each_is fs h = All-weaker (Contains fs) IsWellFormed h fs (All-contains_itself fs)

-- the functions of an accepted program, and after them the runtime's
pub functions_are : (p : CheckedProgram) → IsAccepted p → CheckedBodiesAreClosed → CheckedTemporariesAreDrawn →
    CheckedFramesAreSmall → AllAreRoutines →
    All IsWellFormed (fragments_of p.notes p.body).functions
functions_are p accepted closed drawn small routines =
    let body = p.body in
    let escapes = from_list (escapes_of body) in
    let links = from_list (links_of body) in
    let own = (translated (findings_of p.notes body) body).functions in
    All-append IsWellFormed own runtime.functions
    (each_is own (λ f c. record {
      closed = closed p escapes links f accepted c;
      drawn = drawn p links f accepted c;
      few = let s = (small p escapes links f accepted c).slots in omega (arith, s);
    }))
    (each_is runtime.functions (routine_is runtime.functions routines refl))

-- one of the functions that a list of bodies shows
pub one_is : (bodies : List Fragment) (at : ℕ) (one : Fragment) → All IsWellFormed (map plain_fragment bodies) →
    at < length bodies → one ≡ get_or bodies at one → IsWellFormed (plain_fragment one)
one_is bodies at one all inside is =
    let there : get_or (map plain_fragment bodies) at (plain_fragment one) ≡ plain_fragment one =
    get_or-map plain_fragment bodies at one (plain_fragment one) inside ∙ ap plain_fragment (sym is) in
    subst IsWellFormed there (all at (plain_fragment one) (omega (arith, inside, length-map bodies plain_fragment)))

-- a temporary is below a number
abbrev is_below : (n : ℕ) → Named → Bool
is_below n (function label) = true
is_below n (literal label) = true
is_below n (fault k) = true
is_below n (temporary i) = nat_lt i n
is_below n (constant k) = true

all_below : (n : ℕ) (xs : List Named) → AreTempsBelow n xs → (x : Named) → Contains xs x → IsTrue (is_below n x)
all_below n xs h (function label) c = refl
all_below n xs h (literal label) c = refl
all_below n xs h (fault k) c = refl
all_below n xs h (temporary i) c = lt-ltb i n (h i c)
all_below n xs h (constant k) c = refl

flat_marked : GivesClosed → trace.BlocksAreWhole → trace.CodeIsWellMarked → (f : Function Ts) → IsClosed f.body →
    IsWellMarked (flattened f).body
flat_marked closed whole marked f h =
    let hoisted = linearized f.body f.temps in
    marked (blocks_of hoisted.it) (whole hoisted.it (closed f.body f.temps h))

flat_drawn : TempsStay → trace.NamesStay → (f : Function Ts) → HasItsTemps names f →
    HasItsTemps (λ e. named_flat e []) (flattened f)
flat_drawn stay kept f h i c =
    let hoisted = linearized f.body f.temps in
    let below = all_below hoisted.next (named_stms hoisted.it []) (stay f.body f.temps h) in
    ltb-true i hoisted.next (kept (is_below hoisted.next) hoisted.it refl below (temporary i) c)

pub flat_code : GivesClosed → TempsStay → trace.BlocksAreWhole → trace.CodeIsWellMarked → trace.NamesStay →
    FlatCodeIsWellMarked
flat_code closed stay whole marked kept f h =
    record { marked = flat_marked closed whole marked f h.closed; drawn = flat_drawn stay kept f h.drawn }
