-- A choice after another, as a draft has them.
use mathlib.Core.Bool.{Bool-set}
use Rattle.std.proofs.Common.{ℕ, true, ◌≡◌, ◌++◌, refl, sym, ap, ◌∙◌, append_assoc, append-nil}
use Rattle.std.specs.Prelude.{IsTrue}
use Rattle.tg_tree.specs.declared.operators.Rel.{Rel}
use Rattle.tg_instr.specs.Operands.{is_one_row}
use Rattle.tg_instr.specs.declared.operands.Opnd.{Opnd}
use Rattle.tg_instr.specs.declared.instr.Instr.TheVariants.{Branch}
use Rattle.tg_munch.specs.declared.drafts.Draft.{Draft}
use Rattle.tg_munch.specs.glue.Drafts.{Writes, drawn_in}
use Rattle.tg_munch.specs.mirror.Choosing.{Choice, ◌>>=◌, give}

-- nothing is written
pub writes_none : {A : Type 0} (a : Draft) (x : A) → Writes (give x) a a x
writes_none a x = record { list = sym (append-nil a.list.items); drawn = refl; given = refl }

pub writes_then : {A B : Type 0} {first : Choice A} (onward : A → Choice B) {a b c : Draft} {x : A} {y : B} → Writes first a b x → Writes (onward x) b c y →
    Writes (first >>= onward) a c y
unfolding ◌>>=◌
writes_then {first = first} onward {a = a} {b = b} {c = c} {x = x} {y = y} h k =
    let one = first (drawn_in a) in
    let same : onward x (drawn_in b) ≡ onward one.value one.drawn = ap (λ v. onward v (drawn_in b)) h.given ∙ ap (onward one.value) h.drawn in
    let two = onward one.value one.drawn in
    record {
      list = k.list ∙ (ap (λ l. l ++ (onward x (drawn_in b)).code) h.list
          ∙ (append_assoc a.list.items one.code _ ∙ ap (λ r. a.list.items ++ (one.code ++ r.code)) same));
      drawn = k.drawn ∙ ap (λ r. r.drawn) same;
      given = k.given ∙ ap (λ r. r.value) same;
    }

-- the proof in a test is one
pub same_branch : (rel : Rel) (x y : Opnd) (p q : IsTrue (is_one_row rel x y)) (m : ℕ) →
    Branch (record { rel = rel; left = x; right = y; is_one_row = p }) m ≡ Branch (record { rel = rel; left = x; right = y; is_one_row = q }) m
same_branch rel x y p q m = ap (λ r. Branch (record { rel = rel; left = x; right = y; is_one_row = r }) m) (Bool-set (is_one_row rel x y) true p q)
