-- What is live in a code is used in it, so it is a register or one of the code's temporaries.
use Rattle.std.proofs.Common.{◌≡◌, ℕ, zero, suc, true, List, [], ◌∷◌, refl}
use Rattle.std.specs.List.{list_all}
use Rattle.std.proofs.lemmas.Bool.{and_parts}
use Rattle.tg_instr.specs.declared.instr.Instr.{Instr}
use Rattle.tg_instr.specs.declared.operands.Opnd.{Opnd}
use Rattle.tg_instr.specs.Uses.{uses_of, defs_of}
use Rattle.tg_instr.specs.Codes.{is_below, has_temps_below}
use Rattle.tg_live.specs.Live.{Sets, set_at, is_among, uses_at, AreLiveSets}
use Rattle.tg_live.proofs.Reach.{used_along}
use Rattle.tg_live.proofs.Numbers.{among_all}
use Rattle.tg_interference.proofs.Operands.{all_among}

uses_below : (n : ℕ) (all : List Instr) (at : ℕ) → list_all (has_temps_below n) all ≡ true →
    list_all (is_below n) (uses_at all at) ≡ true
uses_below n [] at h = refl
uses_below n (one ∷ all) zero h =
    let k = and_parts (has_temps_below n one) (list_all (has_temps_below n) all) h in
    (and_parts (list_all (is_below n) (uses_of one)) (list_all (is_below n) (defs_of one)) k.0).0
uses_below n (one ∷ all) (suc at) h =
    uses_below n all at (and_parts (has_temps_below n one) (list_all (has_temps_below n) all) h).1

pub live_below : (n : ℕ) (all : List Instr) (sets : Sets) → AreLiveSets all sets →
    list_all (has_temps_below n) all ≡ true → (at : ℕ) → list_all (is_below n) (set_at sets at) ≡ true
live_below n all sets s h at = all_among (is_below n) (set_at sets at) below
  where
    below : (x : Opnd) → is_among x (set_at sets at) ≡ true → is_below n x ≡ true
    below x a =
        let l = (s.live at x).0 a in
        let u = used_along all x l.path l.next l.leads in
        among_all (is_below n) x (uses_at all u.0) (uses_below n all u.0 h) u.1
