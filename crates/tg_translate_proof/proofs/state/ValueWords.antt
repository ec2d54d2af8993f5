-- Words that stand for values: they stand while holdings grow, and where another type is expected.
use Rattle.std.proofs.Common.{◌≡◌, ◌≢◌, ℕ, ◌+◌, ◌*◌, ◌^◌, ◌<◌, List, Some, Bool, true, false, refl, sym, ap, ◌∙◌, arith, subst}
use Rattle.std.proofs.Math.Dec.{eqb-suc-zero}
use Rattle.std.specs.Prelude.{if◌then◌else◌, not, suc, length}
use Rattle.tg_machine_state.specs.State.{word_at}
use Rattle.tg_semantics.specs.Values.{Value, int, string, nil, reference, nothing}
use Rattle.tg_semantics.specs.Operators.{truth}
use Rattle.tg_typecheck.specs.Types.{Ty, int_type, string_type, nil_type, none_type, record_type, array_type}
use Rattle.tg_typecheck.specs.Has as has
use Rattle.tg_typecheck.specs.Has.{Fits, HasValues}
use Rattle.tg_tree.specs.Memory.{string_block}
use Rattle.tg_translate.specs.declared.wants.Want.{Want}
use Rattle.tg_translate.specs.declared.wants.Want.TheVariants as want
use Rattle.tg_translate_proof.specs.glue.Worlds.{Holdings, GrowsTo, IsText, Stands, an_int, a_string, a_nil, a_nil_record, a_record, an_array, no_value}
use Rattle.tg_translate_proof.specs.glue.Worlds.{unknown, word}
use Rattle.tg_translate_proof.specs.glue.Worlds as worlds
use Rattle.tg_translate_proof.specs.glue.Shown.{IsWanted, IsTold, is_set}

is_known : (n : ℕ) → worlds.word n ≢ unknown
is_known n e = cc

pub text_grows : (h g : Holdings) (a : ℕ) (bytes : List ℕ) → GrowsTo h g → IsText h a bytes → IsText g a bytes
text_grows h g a bytes grow t = record {
  aligned = t.aligned;
  each = t.each;
  words = λ k lt. grow.at (a + 4 * k) (λ e. is_known (word_at (string_block bytes) (4 * k)) (sym (t.words k lt) ∙ e)) ∙ t.words k lt;
}

pub stands_grows : (h g : Holdings) (v : Value) (t : Ty) (u : ℕ) → GrowsTo h g → Stands h v t u → Stands g v t u
stands_grows h g _ _ _ grow (an_int n lt) = an_int n lt
stands_grows h g _ _ _ grow (a_string bytes a text) = a_string bytes a (text_grows h g a bytes grow text)
stands_grows h g _ _ _ grow a_nil = a_nil
stands_grows h g _ _ _ grow (a_nil_record at) = a_nil_record at
stands_grows h g _ _ _ grow (a_record r at a e) = a_record r at a (grow.objects r _ e)
stands_grows h g _ _ _ grow (an_array r at count a e) = an_array r at count a (grow.objects r _ e)
stands_grows h g _ _ _ grow (no_value v) = no_value v

-- what stands for an int, and for a string
pub stands_int : (g : Holdings) (v : Value) (u : ℕ) → Stands g v int_type u → (v ≡ int u) × (u < 2 ^ 32)
stands_int g _ _ (an_int n lt) = (refl, lt)

pub stands_string : (g : Holdings) (v : Value) (u : ℕ) → Stands g v string_type u → (bytes : List ℕ) × (v ≡ string bytes) × IsText g u bytes
stands_string g _ _ (a_string bytes a text) = (bytes, refl, text)

pub stands_nothing : (g : Holdings) (v : Value) (u : ℕ) → Stands g v none_type u → v ≡ nothing
stands_nothing g _ _ (no_value v) = refl

-- where a value of another type is expected, which it fits
pub stands_fit : (g : Holdings) (v : Value) (t r : Ty) (u : ℕ) → Fits t r → Stands g v t u → Stands g v r u
stands_fit g v t _ u has.the_same st = st
stands_fit g _ _ _ _ (has.nil_for {at = at}) a_nil = a_nil_record at

pub int_has_values : int_type ≢ none_type
int_has_values e = cc

pub string_has_values : string_type ≢ none_type
string_has_values e = cc

pub nil_has_values : nil_type ≢ none_type
nil_has_values e = cc

pub fits_has_values : (t r : Ty) → Fits t r → HasValues r → HasValues t
fits_has_values t _ has.the_same ne = ne
fits_has_values _ _ has.nil_for ne = nil_has_values

-- a test's value is an int of that truth
pub test_int : (g : Holdings) (v : Value) (u : ℕ) → IsWanted g want.Test v int_type u → (k : ℕ) × (v ≡ int k) × (is_set u ≡ is_set k)
test_int g (int k) u e = (k, refl, e)
test_int g (string bytes) u st = let e = (stands_int g (string bytes) u st).0 in cc
test_int g nil u st = let e = (stands_int g nil u st).0 in cc
test_int g (reference o) u st = let e = (stands_int g (reference o) u st).0 in cc
test_int g nothing u st = let e = (stands_int g nothing u st).0 in cc

pub set_suc : (k : ℕ) → is_set (suc k) ≡ true
set_suc k = ap not (eqb-suc-zero k)

-- a comparison's truth, as it is told
pub told_truth : (w : Want) (ty : Ty) (b : Bool) → ty ≡ int_type → is_set (if b then 1 else 0) ≡ b → IsTold w (truth b) ty b
told_truth want.Value ty b e f = (refl, e)
told_truth (want.Into i) ty b e f = (refl, e)
told_truth want.Dropped ty b e f = (refl, e)
told_truth want.Test ty b e f = sym f
