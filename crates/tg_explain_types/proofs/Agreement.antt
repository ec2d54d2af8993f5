-- The types that explanations tell are those of typing, case by case.
use Rattle.std.proofs.Common.{false, refl}
use Rattle.std.specs.Prelude.{◌==◌, ◌||◌}
use Rattle.std.proofs.Math.Bool.{or-false}
use Rattle.tg_semantics.specs.declared.standards.Standard.{Standard}
use Rattle.tg_semantics.specs.declared.standards.Standard.TheVariants.{Print, Flush, Getchar, Ord, Chr, Size, Substring, Concat, Not, Exit}
use Rattle.tg_typecheck.specs.Types.{Ty, int_type, string_type, nil_type, none_type, record_type, array_type}
use Rattle.tg_explain_types.specs.laws.Types.{TestsAgree, StandardAgrees}

pub tests_agree : (one other : Ty) → TestsAgree one other
tests_agree int_type int_type = record { fits = refl; alike = refl; joined = refl; order = refl }
tests_agree int_type string_type = record { fits = refl; alike = refl; joined = refl; order = refl }
tests_agree int_type nil_type = record { fits = refl; alike = refl; joined = refl; order = refl }
tests_agree int_type none_type = record { fits = refl; alike = refl; joined = refl; order = refl }
tests_agree int_type (record_type b) = record { fits = refl; alike = refl; joined = refl; order = refl }
tests_agree int_type (array_type b) = record { fits = refl; alike = refl; joined = refl; order = refl }
tests_agree string_type int_type = record { fits = refl; alike = refl; joined = refl; order = refl }
tests_agree string_type string_type = record { fits = refl; alike = refl; joined = refl; order = refl }
tests_agree string_type nil_type = record { fits = refl; alike = refl; joined = refl; order = refl }
tests_agree string_type none_type = record { fits = refl; alike = refl; joined = refl; order = refl }
tests_agree string_type (record_type b) = record { fits = refl; alike = refl; joined = refl; order = refl }
tests_agree string_type (array_type b) = record { fits = refl; alike = refl; joined = refl; order = refl }
tests_agree nil_type int_type = record { fits = refl; alike = refl; joined = refl; order = refl }
tests_agree nil_type string_type = record { fits = refl; alike = refl; joined = refl; order = refl }
tests_agree nil_type nil_type = record { fits = refl; alike = refl; joined = refl; order = refl }
tests_agree nil_type none_type = record { fits = refl; alike = refl; joined = refl; order = refl }
tests_agree nil_type (record_type b) = record { fits = refl; alike = refl; joined = refl; order = refl }
tests_agree nil_type (array_type b) = record { fits = refl; alike = refl; joined = refl; order = refl }
tests_agree none_type int_type = record { fits = refl; alike = refl; joined = refl; order = refl }
tests_agree none_type string_type = record { fits = refl; alike = refl; joined = refl; order = refl }
tests_agree none_type nil_type = record { fits = refl; alike = refl; joined = refl; order = refl }
tests_agree none_type none_type = record { fits = refl; alike = refl; joined = refl; order = refl }
tests_agree none_type (record_type b) = record { fits = refl; alike = refl; joined = refl; order = refl }
tests_agree none_type (array_type b) = record { fits = refl; alike = refl; joined = refl; order = refl }
tests_agree (record_type a) int_type = record { fits = refl; alike = refl; joined = refl; order = refl }
tests_agree (record_type a) string_type = record { fits = refl; alike = refl; joined = refl; order = refl }
tests_agree (record_type a) nil_type = record { fits = refl; alike = refl; joined = refl; order = refl }
tests_agree (record_type a) none_type = record { fits = refl; alike = refl; joined = refl; order = refl }
tests_agree (record_type a) (record_type b) = record { fits = refl; alike = or-false ((a == b) || false); joined = refl; order = refl }
tests_agree (record_type a) (array_type b) = record { fits = refl; alike = refl; joined = refl; order = refl }
tests_agree (array_type a) int_type = record { fits = refl; alike = refl; joined = refl; order = refl }
tests_agree (array_type a) string_type = record { fits = refl; alike = refl; joined = refl; order = refl }
tests_agree (array_type a) nil_type = record { fits = refl; alike = refl; joined = refl; order = refl }
tests_agree (array_type a) none_type = record { fits = refl; alike = refl; joined = refl; order = refl }
tests_agree (array_type a) (record_type b) = record { fits = refl; alike = refl; joined = refl; order = refl }
tests_agree (array_type a) (array_type b) = record { fits = refl; alike = or-false ((a == b) || false); joined = refl; order = refl }

pub standard_agrees : (f : Standard) → StandardAgrees f
standard_agrees Print = record { result = refl; params = refl }
standard_agrees Flush = record { result = refl; params = refl }
standard_agrees Getchar = record { result = refl; params = refl }
standard_agrees Ord = record { result = refl; params = refl }
standard_agrees Chr = record { result = refl; params = refl }
standard_agrees Size = record { result = refl; params = refl }
standard_agrees Substring = record { result = refl; params = refl }
standard_agrees Concat = record { result = refl; params = refl }
standard_agrees Not = record { result = refl; params = refl }
standard_agrees Exit = record { result = refl; params = refl }
