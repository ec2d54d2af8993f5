-- What isn't a sum is held unless it commutes.
use Rattle.std.proofs.Common.{◌≡◌, ℕ, refl, Box, Global, ap, ◌∙◌}
use Rattle.tg_tree.specs.declared.operators.Bin.{Bin}
use Rattle.tg_tree.specs.declared.trees.Tx.{Tx as CodeTx, Const, Address, Temp, FrameAddress, Binary, Binary', Load', LoadByte', Call', Service', After'}
use Rattle.tg_tree.specs.glue.Plain.{plain_tx}
use Rattle.tg_canon.specs.mirror.Drawing.{Draws, DrawsFrom}
use Rattle.tg_canon.specs.mirror.Canon.{Part, Hoisted, commutes, hold_unless, hold_for}

other_held : (p : Part) (x : CodeTx) → ((op : Bin) (a b : Box CodeTx Global) → x ≡ Binary op a b → ⊥) →
    hold_for p (plain_tx x) ≡ hold_unless (commutes p (plain_tx x)) (plain_tx x)
other_held p (Const _) h = refl
other_held p (Address _) h = refl
other_held p (Temp _) h = refl
other_held p FrameAddress h = refl
other_held p (Binary' op s a t b) h =
    absurd (h op (record { ptr = s.ptr; alloc = s.alloc; value = a }) (record { ptr = t.ptr; alloc = t.alloc; value = b }) refl)
other_held p (Load' _ _) h = refl
other_held p (LoadByte' _ _) h = refl
other_held p (Call' _ _ _) h = refl
other_held p (Service' _ _ _) h = refl
other_held p (After' _ _ _ _) h = refl

pub other_gives :
    (p : Part) (x : CodeTx) {k l : ℕ} {a : Hoisted} → ((op : Bin) (a b : Box CodeTx Global) → x ≡ Binary op a b → ⊥) →
    DrawsFrom (hold_unless (commutes p (plain_tx x)) (plain_tx x)) k a l → DrawsFrom (hold_for p (plain_tx x)) k a l
other_gives p x {k = k} h g = record { is = ap (λ (m : Draws Hoisted). m k) (other_held p x h) ∙ g.is }
