-- Where an operand that an instruction names isn't set, it goes wrong.
use Rattle.std.proofs.Common.{ℕ, ◌≡◌, List, refl, ap, ◌∙◌}
use Rattle.std.proofs.Common.{Some}
use Rattle.tg_simulation.specs.Runs.{Run}
use Rattle.tg_simulation.specs.Ran.{Ran, Wrong}
use Rattle.tg_tree.specs.Tree.{Literal}
use Rattle.tg_tree.specs.Actions.{World}
use Rattle.tg_instr.specs.declared.operands.Opnd.{Opnd}
use Rattle.tg_instr.specs.Shapes.{Operand, Hi, Lo, InstructionShape, From0, From1, From2, Halves, Copy, Loads, Stores}
use Rattle.tg_instr.specs.Shapes.{FromSlot, ToSlot, Base, AddressOf}
use Rattle.tg_instr.specs.Shapes.{Here, Goes, Tests, Calls, Asks, Fails, Returns}
use Rattle.tg_instr.specs.Contents.{Content, Nothing, Word, Found, Contents, held}
use Rattle.tg_regalloc_proof.specs.Named.{first_of, second_of}
use Rattle.tg_instr.specs.Meaning.{Next, Enter, Around, act, with_content_word, with_content}

module _ (e : Around) (room : ℕ) (literals : List Literal) (enter : Enter) (next : Next) (w : World) (s : Contents) (n : ℕ) where
  abbrev GoesWrong : InstructionShape → Type 0
  GoesWrong q = (act room literals enter q e next w s n).stop ≡ Wrong

  no_word : (c : Content) (go : ℕ → Run Ran) → c ≡ Nothing → (with_content_word c w go n).stop ≡ Wrong
  no_word c go h = ap (λ d. (with_content_word d w go n).stop) h

  no_content : (c : Content) (go : Content → Run Ran) → c ≡ Nothing → (with_content c w go n).stop ≡ Wrong
  no_content c go h = ap (λ d. (with_content d w go n).stop) h

  both_wrong : (c d : Content) (go : ℕ → ℕ → Run Ran) → d ≡ Nothing → (with_content_word c w (λ u.
      with_content_word d w (λ v. go u v)) n).stop ≡ Wrong
  both_wrong Nothing d go h = refl
  both_wrong (Word u) d go h = ap (λ q. (with_content_word q w (λ v. go u v) n).stop) h
  both_wrong (Found r) d go h = refl

  same_operand : (x o : Opnd) → Some x ≡ Some o → held e.activation s (Operand o) ≡ Nothing → held e.activation s (Operand x) ≡ Nothing
  same_operand x o h u = let same : x ≡ o = cc in ap (λ z. held e.activation s (Operand z)) same ∙ u

  -- an operand that is named and isn't set goes wrong
  pub unset_first : (q : InstructionShape) (o : Opnd) → first_of q ≡ Some o → held e.activation s (Operand o) ≡ Nothing → GoesWrong q
  unset_first (From0 to k) o h u = cc
  unset_first (From1 to (Operand x) f) o h u = no_word _ _ (same_operand x o h u)
  unset_first (From1 to Hi f) o h u = cc
  unset_first (From1 to Lo f) o h u = cc
  unset_first (From2 to x y f) o h u = no_word _ _ (same_operand x o h u)
  unset_first (Halves x y low high) o h u = no_word _ _ (same_operand x o h u)
  unset_first (Copy to x) o h u = no_content _ _ (same_operand x o h u)
  unset_first (Loads to x k f) o h u = no_word _ _ (same_operand x o h u)
  unset_first (Stores x y k f) o h u = both_wrong (held e.activation s (Operand y)) (held e.activation s (Operand x)) _
      (same_operand x o h u)
  unset_first (FromSlot to k) o h u = cc
  unset_first (ToSlot x k) o h u = no_content _ _ (same_operand x o h u)
  unset_first (Base to) o h u = cc
  unset_first (AddressOf to label) o h u = cc
  unset_first (Here m) o h u = cc
  unset_first (Goes m) o h u = cc
  unset_first (Tests rel x y m) o h u = no_word _ _ (same_operand x o h u)
  unset_first (Calls label) o h u = cc
  unset_first Asks o h u = cc
  unset_first (Fails k) o h u = cc
  unset_first Returns o h u = cc

  pub unset_second : (q : InstructionShape) (o : Opnd) → second_of q ≡ Some o → held e.activation s (Operand o) ≡ Nothing → GoesWrong q
  unset_second (From0 to k) o h u = cc
  unset_second (From1 to x f) o h u = cc
  unset_second (From2 to x y f) o h u = both_wrong (held e.activation s (Operand x)) (held e.activation s (Operand y)) _
      (same_operand y o h u)
  unset_second (Halves x y low high) o h u = both_wrong (held e.activation s (Operand x)) (held e.activation s (Operand y)) _
      (same_operand y o h u)
  unset_second (Copy to x) o h u = cc
  unset_second (Loads to x k f) o h u = cc
  unset_second (Stores x y k f) o h u = no_word _ _ (same_operand y o h u)
  unset_second (FromSlot to k) o h u = cc
  unset_second (ToSlot x k) o h u = cc
  unset_second (Base to) o h u = cc
  unset_second (AddressOf to label) o h u = cc
  unset_second (Here m) o h u = cc
  unset_second (Goes m) o h u = cc
  unset_second (Tests rel x y m) o h u = both_wrong (held e.activation s (Operand x)) (held e.activation s (Operand y)) _
      (same_operand y o h u)
  unset_second (Calls label) o h u = cc
  unset_second Asks o h u = cc
  unset_second (Fails k) o h u = cc
  unset_second Returns o h u = cc
