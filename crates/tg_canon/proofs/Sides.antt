-- Right sides, and which of them are flat words.
use Rattle.std.proofs.Common.{◌≡◌, false}
use Rattle.tg_tree.specs.Tree.{Tx, Const, Address, Temp, FrameAddress, Binary, Load, LoadByte, Call, Service, After}
use Rattle.tg_tree.specs.Shapes.{IsFlat, IsFlatOrEffect}
use Rattle.tg_canon.specs.mirror.Canon.{is_effect}

pub flat_or_effect : (x : Tx) → IsFlat x → IsFlatOrEffect x
flat_or_effect (Const _) h = h
flat_or_effect (Address _) h = h
flat_or_effect (Temp _) h = h
flat_or_effect FrameAddress h = h
flat_or_effect (Binary _ _ _) h = h
flat_or_effect (Load _) h = h
flat_or_effect (LoadByte _) h = h
flat_or_effect (Call _ _) h = absurd h
flat_or_effect (Service _ _) h = absurd h
flat_or_effect (After _ _) h = absurd h

-- a side that isn't a call or service
pub flat_without_effect : (x : Tx) → is_effect x ≡ false → IsFlatOrEffect x → IsFlat x
flat_without_effect (Const _) e h = h
flat_without_effect (Address _) e h = h
flat_without_effect (Temp _) e h = h
flat_without_effect FrameAddress e h = h
flat_without_effect (Binary _ _ _) e h = h
flat_without_effect (Load _) e h = h
flat_without_effect (LoadByte _) e h = h
flat_without_effect (Call _ _) e h = cc
flat_without_effect (Service _ _) e h = cc
flat_without_effect (After _ _) e h = h
