-- The theorem of translation, from what is shown of expressions.
use Rattle.std.proofs.Common.{◌≡◌, ◌≤◌, ◌+◌, ℕ, suc, Some, List, [], ◌++◌, map, refl, sym, ap, ◌∙◌, arith, subst, append-nil}
use Rattle.std.specs.Prelude.{if◌then◌else◌}
use Rattle.std.specs.List.{Contains}
use Rattle.std.proofs.lemmas.Bool.{eq-eqb}
use Rattle.std.proofs.lemmas.List.Elements.{Contains-append_left}
use Rattle.tg_syntax.specs.Functions.{measures, declared, program_functions}
use Rattle.tg_syntax.specs.Spans.{span_of}
use Rattle.tg_semantics.specs.Levels.{program_weight}
use Rattle.tg_typecheck.specs.Programs.{CheckedProgram}
use Rattle.tg_typecheck.specs.Derivations.{Derivation}
use Rattle.tg_typecheck.proofs.Derivations.{checked_has_type}
use Rattle.tg_tree.specs.Tree.{Ts, Function, Literal}
use Rattle.tg_tree.specs.Running.{function_of}
use Rattle.tg_runtime.specs.mirror.Routines.{runtime}
use Rattle.tg_translate_laws.specs.Strings.{strings}
use Rattle.tg_translate_laws.proofs.Counts.{times}
use Rattle.tg_translate_laws.proofs.Measured as measured
use Rattle.tg_translate.specs.declared.wants.Want.TheVariants as want
use Rattle.tg_translate.specs.mirror.Functions as functions
use Rattle.tg_translate_proof.specs.glue.Tables.{IsMoment}
use Rattle.tg_translate_proof.specs.Bounds.{bound_by, measures_of}
use Rattle.tg_translate_proof.specs.glue.Situations.{Program}
use Rattle.tg_translate_proof.specs.glue.Shown.{ExpressionFollows}
use Rattle.tg_translate_proof.specs.laws.Laws.{findings_of, own_trees, trees_of, bound_in, MayRun, LinkedTreesFollow, TranslateIsCorrect}
use Rattle.tg_translate_proof.proofs.state.TranslationStates.{behind_none}
use Rattle.tg_translate_proof.proofs.program.Program.{IsBegun, first_state, program_follows}
use Rattle.tg_translate_proof.proofs.state.StatesGrow.{expression_grows, FrameStays}
use Rattle.tg_translate_proof.proofs.program.Accepted.{body_drawn, last, last_table, program_covers}
use Rattle.tg_translate_proof.proofs.program.Checked.{simulated, simulated_setting, made, first_function, functions_are}
use Rattle.tg_translate_proof.proofs.program.Checked.{literals_are, labels_once, label_high, function_there, functions_few, drawn_is}
use Rattle.tg_translate_proof.proofs.state.Statics.{AllBytes, strings_are_bytes, texts_are_bytes, string_bytes, statics_are_bytes, literal_once}
use Rattle.tg_translate_proof.proofs.program.Composing.{kept_by_simulation}

module _ (p : CheckedProgram) (size : ℕ → ℕ) (heap stack : ℕ) (input : List ℕ) (may : MayRun p size heap stack input) where
  abbrev typed : Derivation p.names p.body p.notes
  typed = checked_has_type p may.accepted

  abbrev own : List Literal
  own = (own_trees p).literals

  -- the literals are those of the program's own text
  abbrev all : List Literal
  all = (trees_of p).literals

  all_is : all ≡ own
  all_is = append-nil own

  texts : AllBytes (map (λ l. l.text) own)
  texts = subst (λ l. AllBytes l) (sym (measured.literals_are (findings_of p) p.body)) (texts_are_bytes (strings p.body) (strings_are_bytes p.body may.words))

  all_texts : AllBytes (map (λ l. l.text) all)
  all_texts = subst (λ l. AllBytes (map (λ o. o.text) l)) (sym all_is) texts

  all_few : (n : ℕ) → times (λ l. l.label) n all ≤ 1
  all_few n = let h = labels_once p size heap stack input may n in let e = ap (λ l. times (λ o. o.label) n l) all_is in omega (arith, h, e)

  abbrev first : Function Ts
  first = first_function p size heap stack input may

  stays : FrameStays first_state (last p may.accepted)
  stays = (expression_grows (findings_of p) p.body want.Dropped functions.outermost first_state).frame

  first_there : Contains (own_trees p).functions first
  first_there = subst (λ l. Contains l first) (sym (functions_are p size heap stack input may)) (0, omega arith, refl)

  found_there : (f : Function Ts) → Contains (own_trees p).functions f → function_of f.label (trees_of p).functions ≡ Some f
  found_there f c = function_there (own_trees p).functions runtime.functions f c (functions_few p size heap stack input may f.label)

  inner_there : (f : Function Ts) → Contains (last p may.accepted).functions f → Contains (own_trees p).functions f
  inner_there f (k, l, e) = subst (λ l. Contains l f) (sym (functions_are p size heap stack input may)) (suc k, omega (arith, l), e)

  moment : IsMoment (last_table p may.accepted) (trees_of p) (last p may.accepted)
  moment = record {
    homes = behind_none;
    callees = behind_none;
    literals = record { more = runtime.literals; whole = ap (λ l. l ++ runtime.literals) (literals_are p size heap stack input may) };
    functions = λ f c. found_there f (inner_there f c);
  }

  body_bound : bound_in p 32 ≡ program_weight p.body
  body_bound =
      ap (λ l. bound_by (measures_of 32 (program_functions p.body) l)) (functions_are p size heap stack input may) ∙
      ap (λ t. bound_by (if t then Some (measures (span_of p.body).from 0 [] [] p.body) else measures_of 32 (declared 0 [] p.body)
      (last p may.accepted).functions)) (eq-eqb first.label 32 stays.label)

  begun : IsBegun (simulated p size heap stack input may) p.names p.body
  begun = record {
    ty = typed.type;
    typed = typed.has;
    words = may.words;
    covers = program_covers p may.accepted;
    made = made p size heap stack input may;
    last = last p may.accepted;
    is_made = drawn_is (body_drawn p may.accepted);
    moment = moment;
    there = ap (λ l. function_of l (trees_of p).functions) (sym stays.label) ∙ found_there first first_there;
    light =
        subst (λ b. size 32 ≤ b) body_bound
        (subst (λ l. size l ≤ bound_in p l) stays.label
        (may.sizes.source first (Contains-append_left (own_trees p).functions runtime.functions first first_there)
        (label_high p size heap stack input may first first_there)));
    static_bytes = statics_are_bytes all all_texts;
    each_bytes = λ label bytes c. string_bytes all label bytes all_texts c;
    once = λ label text c. literal_once all (record { label = label; text = text }) c (all_few label);
  }

-- where each expression does, programs do
pub trees_follow : ((P : Program) (n : ℕ) → ExpressionFollows P n) → LinkedTreesFollow
trees_follow follow p size heap stack input may n =
    program_follows (simulated p size heap stack input may) (simulated_setting p size heap stack input may) p.names p.body
    (begun p size heap stack input may) input may.bytes n
    (follow (simulated p size heap stack input may) n)

pub translate_is_correct : ((P : Program) (n : ℕ) → ExpressionFollows P n) → TranslateIsCorrect
translate_is_correct follow = kept_by_simulation (trees_follow follow)
