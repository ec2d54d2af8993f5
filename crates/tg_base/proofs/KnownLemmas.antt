-- Known bytes that grow, piece by piece.
use Rattle.std.proofs.Common.{◌≡◌, ◌≤◌, ◌+◌, ◌-◌, take, drop, length, arith, ℕ, List, ◌++◌, Option, Some, None, sym, ap, ◌∙◌, append_assoc}
use Rattle.std.proofs.lemmas.Grind.{common_steps}
use Rattle.std.proofs.Math.Seq.{take-add}
use Rattle.std.specs.Io.KnownBytes.{Appends, Keeps}

pub appends_then : (x y z : Option (List ℕ)) (a b : List ℕ) → Appends x y a → Appends y z b → Appends x z (a ++ b)
appends_then None y z a b h k = tt
appends_then (Some xs) None z a b h k = absurd h
appends_then (Some xs) (Some ys) None a b h k = absurd k
appends_then (Some xs) (Some ys) (Some zs) a b h k = k ∙ ap (λ v. v ++ b) h ∙ append_assoc xs a b

pub appends_kept : (x y z : Option (List ℕ)) (a : List ℕ) → Appends x y a → Keeps y z → Appends x z a
appends_kept None y z a h k = tt
appends_kept (Some xs) None z a h k = absurd h
appends_kept (Some xs) (Some ys) None a h k = absurd k
appends_kept (Some xs) (Some ys) (Some zs) a h k = k ∙ h

pub appends_as : (x y : Option (List ℕ)) (a b : List ℕ) → a ≡ b → Appends x y a → Appends x y b
appends_as x y a b e h = rw (sym e) h

-- a write of the next bytes of a piece
pub appends_more : (x y z : Option (List ℕ)) (piece : List ℕ) (done n : ℕ) → done + n ≤ length piece →
    Appends x y (take done piece) → Appends y z (take n (take (length piece - done) (drop done piece))) → Appends x z (take (done + n) piece)
appends_more x y z piece done n le h k =
    let e : take n (take (length piece - done) (drop done piece)) ≡ take n (drop done piece) = grind (arith, common_steps) in
    appends_as x z _ _ (sym (take-add done n piece)) (appends_then x y z _ _ h (appends_as y z _ _ e k))
