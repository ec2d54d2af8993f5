-- What the names of flat code tell of its parts: constants are words, and moves go to temporaries that are drawn.
use Rattle.std.proofs.Common.{◌<◌, ℕ, suc, List, [], ◌∷◌, refl, arith}
use Rattle.std.specs.List.{AllByRecursion, Contains}
use Rattle.tg_tree.specs.Tree as tree
use Rattle.tg_tree.specs.Tree.{Tx, Txs, no_txs, tx, Ts, Linear}
use Rattle.tg_tree.specs.Shapes.{IsFlat, AreFlat, IsFlatOrEffect, IsFlatStatement, IsFlatCode}
use Rattle.tg_tree.specs.Named.{Named, temporary, constant, named_tx, named_txs, named_ts, named_flat}
use Rattle.tg_munch_proof.specs.Words.{IsWord, HasWords, HaveWords}
use Rattle.tg_munch_proof.proofs.Between.{ElementHasWords, MovesBelow}

-- what holds of each element of a list holds along it
pub all_of : {A : Type 0} (P : A → Type 0) (xs : List A) → ((x : A) → Contains xs x → P x) → AllByRecursion P xs
all_of P [] h = tt
all_of P (x ∷ xs) h = (h x (0, omega arith, refl), all_of P xs (λ y c. h y (suc c.0, let lt = c.1 in omega (arith, lt), c.2)))

module _ (temps : ℕ) where
  abbrev pub IsAllowed : Named → Type 0
  IsAllowed (temporary i) = i < temps
  IsAllowed (constant n) = IsWord n
  IsAllowed _ = Unit {0}

  abbrev AreAllowed : List Named → Type 0
  AreAllowed names = AllByRecursion IsAllowed names

  flat_words : (x : Tx) (after : List Named) → IsFlat x → AreAllowed (named_tx x after) → HasWords x × AreAllowed after
  flat_words (tree.Const n) after f h = (h.0, h.1)
  flat_words (tree.Address l) after f h = (tt, h.1)
  flat_words (tree.Temp i) after f h = (tt, h.1)
  flat_words tree.FrameAddress after f h = (tt, h)
  flat_words (tree.Binary op x y) after f h =
      let first = flat_words x (named_tx y after) f.0 h in
      let second = flat_words y after f.1 first.1 in
      ((first.0, second.0), second.1)
  flat_words (tree.Load x) after f h = flat_words x after f h
  flat_words (tree.LoadByte x) after f h = flat_words x after f h
  flat_words (tree.Call l xs) after f h = absurd f
  flat_words (tree.Service k x) after f h = absurd f
  flat_words (tree.After s x) after f h = absurd f

  arguments_words : (xs : Txs) (after : List Named) → AreFlat xs → AreAllowed (named_txs xs after) → HaveWords xs × AreAllowed after
  arguments_words no_txs after f h = (tt, h)
  arguments_words (tx x xs) after f h =
      let first = flat_words x (named_txs xs after) f.0 h in
      let second = arguments_words xs after f.1 first.1 in
      ((first.0, second.0), second.1)

  side_words : (x : Tx) (after : List Named) → IsFlatOrEffect x → AreAllowed (named_tx x after) → HasWords x × AreAllowed after
  side_words (tree.Call l xs) after f h = arguments_words xs after f h.1
  side_words (tree.Service k x) after f h = let first = flat_words x after f h.1 in ((h.0, first.0), first.1)
  side_words (tree.Const n) after f h = flat_words (tree.Const n) after f h
  side_words (tree.Address l) after f h = flat_words (tree.Address l) after f h
  side_words (tree.Temp i) after f h = flat_words (tree.Temp i) after f h
  side_words tree.FrameAddress after f h = flat_words tree.FrameAddress after f h
  side_words (tree.Binary op x y) after f h = flat_words (tree.Binary op x y) after f h
  side_words (tree.Load x) after f h = flat_words (tree.Load x) after f h
  side_words (tree.LoadByte x) after f h = flat_words (tree.LoadByte x) after f h
  side_words (tree.After s x) after f h = absurd f

  -- an element: what it has, and what is named after it
  abbrev Element : Linear → List Named → Type 0
  Element e after = (ElementHasWords e × MovesBelow temps e) × AreAllowed after

  statement_words : (s : Ts) (after : List Named) → IsFlatStatement s → AreAllowed (named_ts s after) → Element (tree.Do' s) after
  statement_words (tree.Move i x) after f h = let first = side_words x after f h.1 in ((first.0, h.0), first.1)
  statement_words (tree.Store x y) after f h =
      let first = flat_words x (named_tx y after) f.0 h in
      let second = flat_words y after f.1 first.1 in
      (((first.0, second.0), tt), second.1)
  statement_words (tree.StoreByte x y) after f h =
      let first = flat_words x (named_tx y after) f.0 h in
      let second = flat_words y after f.1 first.1 in
      (((first.0, second.0), tt), second.1)
  statement_words (tree.Do x) after f h = let first = side_words x after f h in ((first.0, tt), first.1)
  statement_words _ after f h = absurd f

  pub code_words : (es : List Linear) → IsFlatCode es → AreAllowed (named_flat es []) →
      AllByRecursion ElementHasWords es × AllByRecursion (MovesBelow temps) es
  code_words [] f h = (tt, tt)
  code_words (tree.Mark m ∷ es) f h = let rest = code_words es f h in ((tt, rest.0), (tt, rest.1))
  code_words (tree.Do' s ∷ es) f h =
      let first = statement_words s (named_flat es []) f.0 h in
      let rest = code_words es f.1 first.1 in
      ((first.0.0, rest.0), (first.0.1, rest.1))
  code_words (tree.Jump m ∷ es) f h = let rest = code_words es f h in ((tt, rest.0), (tt, rest.1))
  code_words (tree.Branch r x y m ∷ es) f h =
      let first = flat_words x (named_tx y (named_flat es [])) f.0 h in
      let second = flat_words y (named_flat es []) f.1 first.1 in
      let rest = code_words es f.2 second.1 in
      (((first.0, second.0), rest.0), (tt, rest.1))
  code_words (tree.Fault' k ∷ es) f h = let rest = code_words es f h.1 in ((tt, rest.0), (tt, rest.1))
  code_words (tree.Return' x ∷ es) f h =
      let first = flat_words x (named_flat es []) f.0 h in
      let rest = code_words es f.1 first.1 in
      ((first.0, rest.0), (tt, rest.1))
