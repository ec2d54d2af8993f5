-- The line of a fault by its pieces.
use Rattle.std.proofs.Common.{◌≡◌, ◌++◌, ℕ, List, append_assoc, codes}
use Rattle.tg_driver.specs.Endings.{ended}

pub pieces : (a b c : List ℕ) → codes "tiger: " ++ (a ++ (codes ":" ++ (b ++ (codes ": " ++ (c ++ codes "\n"))))) ≡
    ended (a ++ (codes ":" ++ (b ++ (codes ": " ++ c))))
pieces a b c = simp append_assoc

pub line_pieces : (a b : List ℕ) → codes "tiger: line " ++ (a ++ (codes ": " ++ (b ++ codes "\n"))) ≡ ended (codes "line " ++ (a ++ (codes ": " ++ b)))
line_pieces a b = simp append_assoc
