-- Words ask for one thing at most, and then are no usage fault.
use Rattle.std.specs.Prelude.{◌==◌, if◌then◌else◌, Result, Ok, Err, IfErr}
use Rattle.std.proofs.Common.{◌≡◌, ◌∙◌, ℕ, List, [], ◌∷◌, Option, Some, None, true, false, refl, sym, ap, subst}
use Rattle.std.specs.Option.{unwrap_or}
use Rattle.tg_command.specs.Counts.{GivesCount, GivesNumber}
use Rattle.tg_command.specs.declared.counts.Limits.{Limits}
use Rattle.tg_command.specs.Flagged.{flags_fit}
use Rattle.tg_command.specs.Modes.{mode_name}
use Rattle.tg_command.specs.declared.CommandFault.{CommandFault}
use Rattle.tg_command.specs.declared.CommandFault.TheVariants.{Usage, Memory}
use Rattle.tg_command.specs.Commands.{Ask, Asked, Blames, IsUsageFault, flags, heap, mode, number, refused, sizes, stack, steps}
use Rattle.tg_command.specs.Sizes.{given_sizes_fit}
use Rattle.tg_command.specs.declared.flags.Flags.{Flags}
use Rattle.tg_command.specs.declared.modes.Mode.{Mode}
use Rattle.tg_command.specs.declared.modes.Mode.TheVariants.{Check, Build, Run, Exec, Alloc, Show, Gen, Format, Bare}

given_once : (limits : Limits) (o : Option (List ℕ)) (m n : ℕ) → GivesCount limits o m → GivesCount limits o n → m ≡ n
given_once limits None m n p q = p ∙ sym q
given_once limits (Some text) m n p q = p.value ∙ sym q.value

number_same : (m : Mode) (file : List ℕ) (a b : ℕ) → GivesNumber m file a → GivesNumber m file b → a ≡ b
number_same Check file a b p q = p ∙ sym q
number_same Build file a b p q = p ∙ sym q
number_same Run file a b p q = p ∙ sym q
number_same Exec file a b p q = p ∙ sym q
number_same Alloc file a b p q = p ∙ sym q
number_same Show file a b p q = p ∙ sym q
number_same Gen file a b p q = p.value ∙ sym q.value
number_same Format file a b p q = p ∙ sym q
number_same Bare file a b p q = p ∙ sym q

number_once : (m n : Mode) (f g : List ℕ) (a b : ℕ) → m ≡ n → f ≡ g → GivesNumber m f a → GivesNumber n g b → a ≡ b
number_once m n f g a b same_mode same_file p q =
    let P : List ℕ → Type 0 = λ file. GivesNumber m file b in
    let Q : Mode → Type 0 = λ one. GivesNumber one g b in
    number_same m f a b p (subst P (sym same_file) (subst Q (sym same_mode) q))

-- the mode of a name, by its first byte; of two that begin alike by the second
build_or_bare : List ℕ → Mode
build_or_bare [] = Build
build_or_bare (second ∷ rest) = if second == 97 then Bare else Build

mode_named : List ℕ → Mode
mode_named [] = Check
mode_named (first ∷ rest) =
    if first == 99 then Check else if first == 98 then build_or_bare rest else if first == 114 then Run else if first == 101 then Exec
    else if first == 97 then Alloc else if first == 115 then Show else if first == 102 then Format else Gen

mode_named-name_of : (m : Mode) → mode_named (mode_name m) ≡ m
unfolding mode_named build_or_bare
mode_named-name_of Check = refl
mode_named-name_of Build = refl
mode_named-name_of Run = refl
mode_named-name_of Exec = refl
mode_named-name_of Alloc = refl
mode_named-name_of Show = refl
mode_named-name_of Gen = refl
mode_named-name_of Format = refl
mode_named-name_of Bare = refl

pub name_once : (a b : Mode) → mode_name a ≡ mode_name b → a ≡ b
name_once a b e = sym (mode_named-name_of a) ∙ ap mode_named e ∙ mode_named-name_of b

some_once : {X : Type 0} (x y : X) → Some x ≡ Some y → x ≡ y
some_once {X} x y e = ap (λ (o : Option X). unwrap_or o x) e

pub asked_once : (words : List (List ℕ)) (a b : Asked) → Ask words a → Ask words b → a ≡ b
asked_once words a b p q =
    let modes = name_once a.mode b.mode (some_once _ _ (sym p.mode ∙ q.mode)) in
    let files = some_once a.file b.file (sym p.file ∙ q.file) in
    let numbers = number_once a.mode b.mode a.file b.file a.number b.number modes files p.number q.number in
    let heaps = given_once _ _ a.heap b.heap p.heap q.heap in
    let stacks = given_once _ _ a.stack b.stack p.stack q.stack in
    let steps = given_once _ _ a.steps b.steps p.steps q.steps in
    let flags = p.flags.given ∙ sym q.flags.given in
    λ i. record { mode = modes i; file = files i; number = numbers i; heap = heaps i; stack = stacks i; steps = steps i; flags = flags i }

no_truth : false ≡ true → ⊥
no_truth h = cc

pub asked_no_fault : (words : List (List ℕ)) (a : Asked) → Ask words a → IsUsageFault words → ⊥
asked_no_fault words a p (refused h) = h p.taken
asked_no_fault words a p (mode h) = h a.mode p.mode
asked_no_fault words a p (number m file named given h) =
    let P : List ℕ → Type 0 = λ f. GivesNumber m f a.number in
    let Q : Mode → Type 0 = λ one. GivesNumber one a.file a.number in
    let modes = name_once a.mode m (some_once _ _ (sym p.mode ∙ named)) in
    let files = some_once a.file file (sym p.file ∙ given) in
    h a.number (subst P files (subst Q modes p.number))
asked_no_fault words a p (heap h) = h a.heap p.heap
asked_no_fault words a p (stack h) = h a.stack p.stack
asked_no_fault words a p (steps h) = h a.steps p.steps
asked_no_fault words a p (sizes m named misfit) =
    let modes = name_once a.mode m (some_once _ _ (sym p.mode ∙ named)) in
    let fit = subst (λ (one : Mode). given_sizes_fit one words ≡ true) modes p.sizes in
    no_truth (sym misfit ∙ fit)
asked_no_fault words a p (flags m named misfit) =
    let modes = name_once a.mode m (some_once _ _ (sym p.mode ∙ named)) in
    let fit = subst (λ (one : Mode). flags_fit one a.flags ≡ true) modes p.flags.fit in
    let same = subst (λ (f : Flags). flags_fit m f ≡ true) p.flags.given fit in
    no_truth (sym misfit ∙ same)

-- words that have a usage fault are blamed by every error
pub all_blamed : {T : Type 0} (r : Result T CommandFault) (words : List (List ℕ)) → IsUsageFault words → IfErr r (λ fault. Blames fault words)
all_blamed (Ok t) words h = tt
all_blamed (Err Usage) words h = h
all_blamed (Err Memory) words h = tt
