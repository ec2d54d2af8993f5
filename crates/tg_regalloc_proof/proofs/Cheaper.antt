-- A program that is charged less does no more.
use Rattle.std.proofs.Common.{ℕ, ◌≡◌, ◌≤◌, ◌==◌, Bool, true, false, List, [], ◌∷◌, map, Some, refl, sym, ap, subst, arith}
use Rattle.std.specs.Prelude.{if◌then◌else◌}
use Rattle.tg_simulation.specs.Runs.{Run}
use Rattle.tg_simulation.specs.Ran.{Ran}
use Rattle.tg_tree.specs.Tree.{Function}
use Rattle.tg_tree.specs.Running.{function_of}
use Rattle.tg_instr.specs.declared.instr.Instr.{Instr}
use Rattle.tg_instr.specs.Running.{Units, code_run}
use Rattle.tg_regalloc_proof.specs.Blocks.{Charge}
use Rattle.tg_regalloc_proof.specs.Keeping.{charged_by, functions_of, units_of, program, AreHeld, Surroundings, run_of, DoesNoMore, ChargedLessDoesNoMore}
use Rattle.tg_regalloc_proof.proofs.Replacing.{replaced_programs}
use Rattle.tg_regalloc_proof.proofs.Kept.{unchanged, unchanged_covers, found_label}

abbrev F : Type 0
F = Function (List Instr)

module _ (fs : List (Function (List Instr))) (e : Surroundings) (held : AreHeld e.size fs) where
  abbrev run_by : Units → Run Ran
  run_by units = code_run units (program fs e.literals) e.size e.floor e.room e.body e.input

  pub cheaper : (units units' : Units) →
      ((l : ℕ) (f : F) → function_of l fs ≡ Some f → (left : ℕ) (one : Instr) → units' l left one ≤ units l left one) →
      DoesNoMore (run_by units) (run_by units')
  cheaper units units' less =
      replaced_programs fs fs units units' e (λ l f is. (
        f,
        is,
        held l f is,
        unchanged f,
        unchanged_covers (units f.label) (units' f.label) f
            (subst (λ n. (left : ℕ) (one : Instr) → units' n left one ≤ units n left one) (sym (found_label l fs f is)) (less l f is)),
      ))

pub charged_less_does_no_more : ChargedLessDoesNoMore
charged_less_does_no_more fs e units units' held less = cheaper fs e held units units' less

-- All functions charged alike.

pub functions_charged : (c : Charge) (fs : List (Function (List Instr))) → functions_of (map (charged_by c) fs) ≡ fs
functions_charged c [] = refl
functions_charged c (f ∷ fs) = ap (λ l. f ∷ l) (functions_charged c fs)

units_found : (c : Charge) (fs : List (Function (List Instr))) (l : ℕ) (f : F) → function_of l fs ≡ Some f → (left : ℕ) (one : Instr) →
    units_of (map (charged_by c) fs) l left one ≡ c left one
units_found c [] l f e left one = cc
units_found c (p ∷ ps) l f e left one = by (p.label == l) e (λ h. units_found c ps l f h left one)
  where
    by : (b : Bool) → (if b then Some p else function_of l ps) ≡ Some f →
        (function_of l ps ≡ Some f → units_of (map (charged_by c) ps) l left one ≡ c left one) →
        (if b then c left one else units_of (map (charged_by c) ps) l left one) ≡ c left one
    by true h later = refl
    by false h later = later h

module _ (c : Charge) (fs : List (Function (List Instr))) (e : Surroundings) (held : AreHeld e.size fs) where
  abbrev all_alike : Units
  all_alike label left one = c left one

  pub to_charged : DoesNoMore (code_run all_alike (program fs e.literals) e.size e.floor e.room e.body e.input) (run_of (map (charged_by c) fs) e)
  to_charged =
      subst (λ gs. DoesNoMore (code_run all_alike (program fs e.literals) e.size e.floor e.room e.body e.input)
      (code_run (units_of (map (charged_by c) fs)) (program gs e.literals) e.size e.floor e.room e.body e.input)) (sym (functions_charged c fs))
      (cheaper fs e held all_alike (units_of (map (charged_by c) fs))
      (λ l f is left one. let same = units_found c fs l f is left one in omega arith))

  pub from_charged : DoesNoMore (run_of (map (charged_by c) fs) e) (code_run all_alike (program fs e.literals) e.size e.floor e.room e.body e.input)
  from_charged =
      subst (λ gs. DoesNoMore (code_run (units_of (map (charged_by c) fs)) (program gs e.literals) e.size e.floor e.room e.body e.input)
      (code_run all_alike (program fs e.literals) e.size e.floor e.room e.body e.input)) (sym (functions_charged c fs))
      (cheaper fs e held (units_of (map (charged_by c) fs)) all_alike
      (λ l f is left one. let same = units_found c fs l f is left one in omega arith))
