-- Names and constants of a folded body.
use Rattle.std.proofs.Common.{◌<◌, ◌^◌, List, [], arith}
use Rattle.std.specs.List.{Contains}
use Rattle.tg_tree.specs.Tree.{Ts, Function}
use Rattle.tg_tree.specs.Named.{Named, function, literal, fault, temporary, constant, named_ts, HasItsTemps}
use Rattle.tg_fold.specs.laws.Laws.{folded_function, IsNoConstant, AreWords}
use Rattle.tg_fold.specs.mirror.Folding.{folded}
use Rattle.tg_tree.proofs.OperatorWords.{operate_word}
use Rattle.tg_tree.proofs.NamesPassing.{body_passes, body_names}
use Rattle.tg_fold.proofs.Naming.{folded_passes}

-- a name that is no constant and that the body has
abbrev Had : Ts → Named → Type 0
Had body (constant n) = Unit {0}
Had body (function n) = Contains (named_ts body []) (function n)
Had body (literal n) = Contains (named_ts body []) (literal n)
Had body (fault n) = Contains (named_ts body []) (fault n)
Had body (temporary n) = Contains (named_ts body []) (temporary n)

had : (body : Ts) (name : Named) → Contains (named_ts body []) name → Had body name
had body (constant n) h = tt
had body (function n) h = h
had body (literal n) h = h
had body (fault n) h = h
had body (temporary n) h = h

contains : (body : Ts) (name : Named) → IsNoConstant name → Had body name → Contains (named_ts body []) name
contains body (constant n) e h = absurd e
contains body (function n) e h = h
contains body (literal n) e h = h
contains body (fault n) e h = h
contains body (temporary n) e h = h

pub names_stay : (body : Ts) (name : Named) → IsNoConstant name → Contains (named_ts (folded body) []) name → Contains (named_ts body []) name
names_stay body name e c =
    contains body name e
    (body_names (Had body) (folded body) (folded_passes (Had body) (λ op a b n h k q. tt) tt body (body_passes (Had body) body (had body))) name c)

pub temps_stay : (f : Function Ts) → HasItsTemps (λ body. named_ts body []) f → HasItsTemps (λ body. named_ts body []) (folded_function f)
temps_stay f h i c = h i (names_stay f.body (temporary i) tt c)

abbrev IsWordThere : Named → Type 0
IsWordThere (constant n) = n < 2 ^ 32
IsWordThere (function n) = Unit {0}
IsWordThere (literal n) = Unit {0}
IsWordThere (fault n) = Unit {0}
IsWordThere (temporary n) = Unit {0}

there : (names : List Named) → AreWords names → (x : Named) → Contains names x → IsWordThere x
there names h (constant n) c = h n c
there names h (function n) c = tt
there names h (literal n) c = tt
there names h (fault n) c = tt
there names h (temporary n) c = tt

pub words_stay : (body : Ts) → AreWords (named_ts body []) → AreWords (named_ts (folded body) [])
words_stay body h n c =
    body_names IsWordThere (folded body)
    (folded_passes IsWordThere (λ op a b r p q e. operate_word op a b r p q e) (omega arith) body
    (body_passes IsWordThere body (there (named_ts body []) h))) (constant n) c
