-- The lines of all functions: what stands in them, and that what they lead to is reached.
use Rattle.std.proofs.Common.{ℕ, ◌≡◌, ◌≤◌, ◌+◌, List, [], ◌∷◌, Bool, true, false, refl, sym, arith, subst, eqb-true}
use Rattle.std.specs.Prelude.{IsTrue, ◌==◌}
use Rattle.std.specs.List.{AllByRecursion, list_all}
use Rattle.tg_asm_text.specs.Placement.{Positions, WordsReach}
use Rattle.tg_instr.specs.declared.codes.Allocated.{Allocated}
use Rattle.tg_instr.proofs.Tests.{left_holds, right_holds}
use Rattle.tg_emit.specs.mirror.Names.{function_name}
use Rattle.tg_emit.specs.Ranges.{FunctionFits}
use Rattle.tg_emit.specs.Conditions.{is_emittable}
use Rattle.tg_emit.specs.mirror.Lines.{function_lines, functions_lines, words}
use Rattle.tg_emit_laws.specs.Programs.{function_labels, is_among, calls_those}
use Rattle.tg_emit_laws.proofs.Apart.{each_append}
use Rattle.tg_emit_laws.specs.Images.{IsCode, AreCode}
use Rattle.tg_emit_laws.proofs.CodeLines.{coded_in, labels_from, words_append}
use Rattle.tg_emit_laws.proofs.InstructionLines.{Surrounds, Finds}
use Rattle.tg_emit_laws.proofs.FunctionLines.{IsEmitted, emitted, code_of_function, function_given, reach_of_function, IsGiven, given_left, given_right}
use Rattle.tg_emit_laws.proofs.FunctionLines.{finds_left, finds_right, reach_lines, or_right}

pub all_emitted : (fs : List Allocated) → IsTrue (list_all is_emittable fs) → AllByRecursion FunctionFits fs → AllByRecursion IsEmitted fs
all_emitted [] h t = tt
all_emitted (f ∷ fs) h t = (emitted f (left_holds _ _ h) t.0, all_emitted fs (right_holds (is_emittable f) _ h) t.1)

pub code_of_functions : (turned : Bool) (fs : List Allocated) → AllByRecursion IsEmitted fs → AreCode (functions_lines turned fs)
code_of_functions turned [] k = tt
code_of_functions turned (f ∷ fs) k = each_append IsCode (function_lines turned f) (functions_lines turned fs) (code_of_function turned f k.0)
    (code_of_functions turned fs k.1)

-- each label of a function is given
pub label_given : (turned : Bool) (w label : ℕ) (fs : List Allocated) → IsTrue (is_among (function_labels fs) label) →
    IsGiven w (functions_lines turned fs) (function_name label)
label_given turned w label [] h = cc
label_given turned w label (f ∷ fs) h = by (label == f.frame.label.0) refl (λ more. label_given turned (w + words (function_lines turned f)) label fs more)
  where
    by : (b : Bool) → (label == f.frame.label.0) ≡ b →
        (IsTrue (is_among (function_labels fs) label) → IsGiven (w + words (function_lines turned f)) (functions_lines turned fs) (function_name label)) →
        IsGiven w (functions_lines turned (f ∷ fs)) (function_name label)
    by true e later = given_left w (function_lines turned f) (functions_lines turned fs) (function_name label)
        (subst (λ l. IsGiven w (function_lines turned f) (function_name l)) (sym (eqb-true label f.frame.label.0 e)) (function_given turned f w))
    by false e later = given_right w (function_lines turned f) (functions_lines turned fs) (function_name label)
        (later (or_right (label == f.frame.label.0) (is_among (function_labels fs) label) e h))

pub reach_of_functions : (ps : Positions) (n : ℕ) (turned : Bool) (functions literals : List ℕ) (w : ℕ) (fs : List Allocated) →
    Surrounds ps n turned functions literals → AllByRecursion IsEmitted fs → IsTrue (list_all (calls_those functions literals) fs) →
    w + words (functions_lines turned fs) ≤ n → Finds ps (labels_from w (functions_lines turned fs)) →
    WordsReach ps n w (coded_in (functions_lines turned fs))
reach_of_functions ps n turned functions literals w [] s k names fits finds = tt
reach_of_functions ps n turned functions literals w (f ∷ fs) s k names fits finds =
    let here = function_lines turned f in
    let more = functions_lines turned fs in
    let e = words_append here more in
    reach_lines ps n w here more
    (reach_of_function ps n turned functions literals w f s k.0 (left_holds _ _ names) (omega arith) (finds_left ps w here more finds))
    (reach_of_functions ps n turned functions literals (w + words here) fs s k.1 (right_holds (calls_those functions literals f) _ names) (omega arith)
    (finds_right ps w here more finds))
