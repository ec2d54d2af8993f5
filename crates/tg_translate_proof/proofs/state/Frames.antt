-- The frames around an activation as a list, the homes of a function's parameters with its link, and what their words leave as it was.
use Rattle.std.proofs.Common.{[], ◌≡◌, ℕ, zero, suc, ◌+◌, ◌≤◌, ◌==◌, List, ◌∷◌, Option, Some, Bool, true, false, refl, sym, ap, ◌∙◌, arith}
use Rattle.std.proofs.Common.{eq-eqb, eqb-true}
use Rattle.std.specs.Prelude.{if◌then◌else◌, ◌-◌, length, drop}
use Rattle.tg_frame.specs.declared.accesses.Access.{Access}
use Rattle.tg_frame.specs.declared.accesses.Access.TheVariants.{InTemp, InFrame}
use Rattle.tg_frame.specs.Homes.{homes_of, homes_from, slots_of, temps_of}
use Rattle.tg_syntax.specs.declared.trees.Param.{Param}
use Rattle.tg_semantics.specs.Values.{Value}
use Rattle.tg_typecheck.specs.Types.{Ty}
use Rattle.tg_typecheck.specs.Scopes.{Scope}
use Rattle.tg_typecheck.specs.Groups.{with_params}
use Rattle.tg_tree.specs.Tree.{Function}
use Rattle.tg_tree.specs.Memory.{Memory, Has, lay, put, slot}
use Rattle.tg_tree.specs.Actions.{World}
use Rattle.tg_tree.specs.Running.{function_of}
use Rattle.tg_tree.specs.Links.{first_is}
use Rattle.tg_runtime_proof.proofs.Calling.{placed_world}
use Rattle.tg_translate.specs.mirror.Functions.{own_homes}
use Rattle.tg_translate_proof.specs.glue.Worlds.{Holdings}
use Rattle.tg_translate_proof.specs.glue.Situations.{frames_of}
use Rattle.tg_translate_proof.proofs.program.FunctionEntry.{IsGiven, none_given, one_given}

-- Lists of frames.

pub length_frames : (chain : ℕ → ℕ) (l : ℕ) → length (frames_of chain l) ≡ suc l
length_frames chain zero = refl
length_frames chain (suc l) = ap suc (length_frames chain l)

pub frames_alike : (chain chain1 : ℕ → ℕ) (l : ℕ) → ((k : ℕ) → k ≤ l → chain1 k ≡ chain k) → frames_of chain1 l ≡ frames_of chain l
frames_alike chain chain1 zero h = ap (λ o. o ∷ []) (h zero (omega arith))
frames_alike chain chain1 (suc l) h =
    ap (λ o. o ∷ frames_of chain1 l) (h (suc l) (omega arith)) ∙
    ap (λ o. chain (suc l) ∷ o) (frames_alike chain chain1 l (λ k le. h k (omega (arith, le))))

-- those around a function, of those that its caller sees
pub around_is : (chain : ℕ → ℕ) (level l m : ℕ) → l ≤ level → m ≡ length (frames_of chain level) - suc l →
    drop m (frames_of chain level) ≡ frames_of chain l
around_is chain level l zero le e =
    let same : level ≡ l = let n = length_frames chain level in omega (arith, e, n, le) in ap (frames_of chain) same
around_is chain zero l (suc m) le e = let n = length_frames chain zero in absurd (omega (arith, e, n, le))
around_is chain (suc level) l (suc m) le e =
    let n = length_frames chain (suc level) in
    let k = length_frames chain level in
    around_is chain level l m (omega (arith, e, n, le)) (omega (arith, e, n, k, le))

pub first_frame : (chain : ℕ → ℕ) (l : ℕ) (us : List ℕ) → first_is (chain l ∷ us) (frames_of chain l) ≡ true
first_frame chain zero us = eq-eqb (chain zero) (chain zero) refl
first_frame chain (suc l) us = eq-eqb (chain (suc l)) (chain (suc l)) refl

some_same : {A : Type 0} (x y : A) → Some x ≡ Some y → x ≡ y
some_same x y q = cc

first_found : {Body : Type 0} (label : ℕ) (g f : Function Body) (b : Bool) (o : Option (Function Body)) → (g.label == label) ≡ b →
    (o ≡ Some f → f.label ≡ label) →
    (if b then Some g else o) ≡ Some f → f.label ≡ label
first_found label g f true o is h found = sym (ap (λ x. x.label) (some_same g f found)) ∙ eqb-true g.label label is
first_found label g f false o is h found = h found

pub label_found : {Body : Type 0} (label : ℕ) (fs : List (Function Body)) (f : Function Body) → function_of label fs ≡ Some f → f.label ≡ label
label_found label [] f e = cc
label_found label (g ∷ gs) f e = first_found label g f (g.label == label) (function_of label gs) refl (label_found label gs f) e

-- The link's home is the first: a slot where the link is kept in one, else a temporary.

abbrev pub link_slots : Bool → ℕ
link_slots true = 1
link_slots false = 0

abbrev pub link_temps : Bool → ℕ
link_temps true = 0
link_temps false = 1

pub own_is : (b : Bool) (bs : List Bool) → own_homes (homes_of (b ∷ bs)) ≡ homes_from (link_slots b) (link_temps b) bs
own_is true bs = refl
own_is false bs = refl

pub slots_are : (b : Bool) (bs : List Bool) → slots_of (b ∷ bs) ≡ link_slots b + slots_of bs
slots_are true bs = omega arith
slots_are false bs = omega arith

pub temps_are : (b : Bool) (bs : List Bool) → temps_of (b ∷ bs) ≡ link_temps b + temps_of bs
temps_are true bs = omega arith
temps_are false bs = omega arith

pub homes_many : (a b : ℕ) (bs : List Bool) → length (homes_from a b bs) ≡ length bs
homes_many a b [] = refl
homes_many a b (true ∷ bs) = ap suc (homes_many (a + 1) b bs)
homes_many a b (false ∷ bs) = ap suc (homes_many a (b + 1) bs)

pub given_many : (h : Holdings) (ps : List Param) (bs : List Bool) (tys : List Ty) (vs : List Value) (us : List ℕ) → IsGiven h ps bs tys vs us →
    length bs ≡ length us
given_many h _ _ _ _ _ none_given = refl
given_many h _ _ _ _ _ (one_given p b ty v u ps bs tys vs us val st rest) = ap suc (given_many h ps bs tys vs us rest)

pub params_loop : (ps : List Param) (tys : List Ty) (scope : Scope) → (with_params ps tys scope).in_loop ≡ scope.in_loop
params_loop [] tys scope = refl
params_loop (p ∷ ps) [] scope = refl
params_loop (p ∷ ps) (t ∷ tys) scope = params_loop ps tys _

-- statics stay where parameters are put into the stack
pub placed_statics : (base : ℕ) (homes : List Access) (us : List ℕ) (w : World) → (placed_world base homes us w).memory.statics ≡ w.memory.statics
placed_statics base [] us w = refl
placed_statics base (InTemp i ∷ homes) [] w = refl
placed_statics base (InTemp i ∷ homes) (u ∷ us) w = placed_statics base homes us w
placed_statics base (InFrame k ∷ homes) [] w = refl
placed_statics base (InFrame k ∷ homes) (u ∷ us) w = placed_statics base homes us (record w { memory = put (slot base k) (Has u) w.memory })

pub placed_input : (base : ℕ) (homes : List Access) (us : List ℕ) (w : World) → (placed_world base homes us w).input ≡ w.input
placed_input base [] us w = refl
placed_input base (InTemp i ∷ homes) [] w = refl
placed_input base (InTemp i ∷ homes) (u ∷ us) w = placed_input base homes us w
placed_input base (InFrame k ∷ homes) [] w = refl
placed_input base (InFrame k ∷ homes) (u ∷ us) w = placed_input base homes us (record w { memory = put (slot base k) (Has u) w.memory })

pub lay_statics : (top n : ℕ) (c : _) (m : Memory) → (lay top n c m).statics ≡ m.statics
lay_statics top zero c m = refl
lay_statics top (suc n) c m = lay_statics top n c m
