-- An instruction with its own operands again is itself.
use Rattle.std.proofs.Common.{◌≡◌, Bool, true, false, refl, ap}
use Rattle.std.specs.Prelude.{IsTrue}
use Rattle.std.proofs.Math.Bool.{Bool-set}
use Rattle.tg_tree.specs.declared.operators.Rel.{Rel}
use Rattle.tg_instr.specs.declared.operands.Opnd.{Opnd}
use Rattle.tg_instr.specs.declared.instr.Test.{Test}
use Rattle.tg_instr.specs.declared.instr.Instr.{Instr}
use Rattle.tg_instr.specs.declared.renaming.Named.{Named}
use Rattle.tg_instr.specs.declared.instr.Instr.TheVariants.{Branch}
use Rattle.tg_instr.specs.Operands.{is_one_row}
use Rattle.tg_instr.specs.Renaming.{named, renamed, tested, stays_one_row}
use Rattle.tg_redundancy.specs.glue.Walks.{or_zero}

test_itself : (rel : Rel) (left right : Opnd) (is_row : IsTrue (is_one_row rel left right)) (fits : Bool) (e : is_one_row rel left right ≡ fits) →
    tested rel left right fits e
    (record { rel = rel; left = left; right = right; is_one_row = is_row }) ≡ record { rel = rel; left = left; right = right; is_one_row = is_row }
test_itself rel left right is_row true e =
    ap {A = is_one_row rel left right ≡ true} {B = Test} (λ row. record { rel = rel; left = left; right = right; is_one_row = row }) (Bool-set _ _ e is_row)
test_itself rel left right is_row false e = refl

pub itself : (one : Instr) → renamed one (or_zero (named one).to) (or_zero (named one).first) (or_zero (named one).second) ≡ one
itself (Branch test mark) =
    ap (λ t. Branch t mark) (test_itself test.rel test.left test.right test.is_one_row (is_one_row test.rel test.left test.right) refl)
itself _ = refl

pub stays_row : (one : Instr) → IsTrue (stays_one_row one (or_zero (named one).first) (or_zero (named one).second))
stays_row (Branch test mark) = test.is_one_row
stays_row _ = refl

pub row_of : (one : Instr) (names : Named) (first second : Opnd) → names ≡ named one → first ≡ or_zero names.first → second ≡ or_zero names.second →
    IsTrue (stays_one_row one first second)
row_of one names first second n f s = rw (f, s, n) (stays_row one)

pub same_of : (one again : Instr) (names : Named) (to first second : Opnd) → names ≡ named one →
    to ≡ or_zero names.to → first ≡ or_zero names.first → second ≡ or_zero names.second → again ≡ renamed one to first second → again ≡ one
same_of one again names to first second n t f s r = rw (r, t, f, s, n) (itself one)
