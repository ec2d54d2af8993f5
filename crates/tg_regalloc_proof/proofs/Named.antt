-- The operands that an instruction's text names are those of its shape, and with others in their places it has the shape with these.
use Rattle.std.proofs.Common.{ℕ, ◌≡◌, ◌<◌, ◌==◌, Bool, true, false, refl, sym, ap, Some, true≢false, arith}
use Rattle.std.proofs.lemmas.Bool.{eqb-true}
use Rattle.tg_tree.specs.declared.operators.Rel.{Rel}
use Rattle.tg_tree.specs.declared.operators.Rel.TheVariants.{Equal, NotEqual, Below, NotBelow}
use Rattle.tg_instr.specs.declared.operands.Opnd.{Opnd}
use Rattle.tg_instr.specs.declared.operands.Opnd.TheVariants.{Temp, Reg}
use Rattle.tg_instr.specs.declared.instr.Instr.{Instr}
use Rattle.tg_instr.specs.declared.instr.Test.{Test}
use Rattle.tg_instr.specs.declared.instr.Instr.TheVariants.{Branch}
use Rattle.tg_instr.specs.Operands.{is_one_row, is_zero}
use Rattle.tg_instr.specs.Renaming.{named, renamed, tested, stays_one_row}
use Rattle.tg_instr.specs.Shapes.{Operand, Hi, Lo, InstructionShape, From0, From1, From2, Halves, Copy, Loads, Stores}
use Rattle.tg_instr.specs.Shapes.{FromSlot, ToSlot, Base, AddressOf}
use Rattle.tg_instr.specs.Shapes.{Here, Goes, Tests, Calls, Asks, Fails, Returns, shape}
use Rattle.tg_regalloc_proof.specs.Named.{to_of, first_of, second_of, reshaped}

-- The operands that a text names are those of its shape, and with others in their places it has the shape with these.
pub named_to : (x : Instr) → (named x).to ≡ to_of (shape x)
named_to (Branch test m) = refl
named_to _ = refl

pub named_first : (x : Instr) → (named x).first ≡ first_of (shape x)
named_first (Branch test m) = refl
named_first _ = refl

pub named_second : (x : Instr) → (named x).second ≡ second_of (shape x)
named_second (Branch test m) = refl
named_second _ = refl

pub tested_shape : (rel : Rel) (left right : Opnd) (b : Bool) (e : is_one_row rel left right ≡ b) (test : Test)
    (m : ℕ) → b ≡ true →
    shape (Branch (tested rel left right b e test) m) ≡ Tests rel left right m
tested_shape rel left right true e test m h = refl
tested_shape rel left right false e test m h = absurd (true≢false (sym h))

pub renamed_shape : (x : Instr) (z a b : Opnd) → stays_one_row x a b ≡ true → shape (renamed x z a b) ≡ reshaped
    (shape x) z a b
renamed_shape (Branch test m) z a b h = tested_shape test.rel a b _ refl test m h
renamed_shape _ z a b h = refl

-- what no text names doesn't matter
pub reshaped_same : (q : InstructionShape) (z z' a a' b b' : Opnd) → ((d : Opnd) → to_of q ≡ Some d → z ≡ z') → ((o : Opnd) →
    first_of q ≡ Some o → a ≡ a') →
    ((o : Opnd) → second_of q ≡ Some o → b ≡ b') → reshaped q z a b ≡ reshaped q z' a' b'
reshaped_same (From0 to k) z z' a a' b b' f g h = ap (λ i. From0 i k) (f to refl)
reshaped_same (From1 to (Operand o) k) z z' a a' b b' f g h = λ i. From1 (f to refl i) (Operand (g o refl i)) k
reshaped_same (From1 to Hi k) z z' a a' b b' f g h = λ i. From1 (f to refl i) Hi k
reshaped_same (From1 to Lo k) z z' a a' b b' f g h = λ i. From1 (f to refl i) Lo k
reshaped_same (From2 to l r k) z z' a a' b b' f g h = λ i. From2 (f to refl i) (g l refl i) (h r refl i) k
reshaped_same (Halves l r low high) z z' a a' b b' f g h = λ i. Halves (g l refl i) (h r refl i) low high
reshaped_same (Copy to o) z z' a a' b b' f g h = λ i. Copy (f to refl i) (g o refl i)
reshaped_same (Loads to o n k) z z' a a' b b' f g h = λ i. Loads (f to refl i) (g o refl i) n k
reshaped_same (Stores o p n k) z z' a a' b b' f g h = λ i. Stores (g o refl i) (h p refl i) n k
reshaped_same (FromSlot to k) z z' a a' b b' f g h = λ i. FromSlot (f to refl i) k
reshaped_same (ToSlot o k) z z' a a' b b' f g h = λ i. ToSlot (g o refl i) k
reshaped_same (Base to) z z' a a' b b' f g h = λ i. Base (f to refl i)
reshaped_same (AddressOf to label) z z' a a' b b' f g h = λ i. AddressOf (f to refl i) label
reshaped_same (Here m) z z' a a' b b' f g h = refl
reshaped_same (Goes m) z z' a a' b b' f g h = refl
reshaped_same (Tests rel l r m) z z' a a' b b' f g h = λ i. Tests rel (g l refl i) (h r refl i) m
reshaped_same (Calls label) z z' a a' b b' f g h = refl
reshaped_same Asks z z' a a' b b' f g h = refl
reshaped_same (Fails k) z z' a a' b b' f g h = refl
reshaped_same Returns z z' a a' b b' f g h = refl

-- a test stays one row where $zero stays
pub row_stays : (rel : Rel) (left right l r : Opnd) → is_one_row rel left right ≡ true → (is_zero right ≡ true →
    is_zero r ≡ true) → is_one_row rel l r ≡ true
row_stays Equal left right l r h f = refl
row_stays NotEqual left right l r h f = refl
row_stays Below left right l r h f = absurd (true≢false (sym h))
row_stays NotBelow left right l r h f = absurd (true≢false (sym h))
row_stays _ left right l r h f = f h

pub not_equal : (m n : ℕ) → m < n → (m == n) ≡ false
not_equal m n lt = by (m == n) refl
  where
    by : (b : Bool) → (m == n) ≡ b → b ≡ false
    by true e = let same : m ≡ n = eqb-true m n e in absurd (omega arith)
    by false e = refl

-- What is below `temps` is an operand of the code; made temporaries are numbered from there on.
abbrev pub IsLow : (temps : ℕ) → Opnd → Type 0
IsLow temps (Temp t) = t.0 < temps
IsLow temps (Reg r) = Unit {0}
