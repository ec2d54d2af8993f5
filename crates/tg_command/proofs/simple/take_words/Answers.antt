use Rattle.std.proofs.Common.{◌≡◌, ◌∙◌, List, [], Bool, false, sym, ap, subst, codes, map, option_map, string_bytes, Option, inl, inr, Err}
use Rattle.std.specs.Prelude.{Result}
use Rattle.std.specs.Option.{option_map_or}
use Rattle.std.specs.Str.{bytes_eq}
use Rattle.std.specs.Borrow.{Bor}
use Rattle.clap.specs.Words.{Text, app_of, first_of, first_value, found_of, is_simple, is_simple_and_free, fault_of, matches_of, rows_of, HasKind, Kinds}
use Rattle.clap.proofs.WalkLemmas.{first_value-rows}
use Rattle.tg_command.specs.Simple.{IsTaken, simple_command, value_of}
use Rattle.tg_command.specs.declared.CommandFault.{CommandFault}
use Rattle.tg_command.specs.declared.CommandFault.TheVariants.{Usage}
use Rattle.tg_command.specs.declared.simple.Values.{Values}
use Rattle.tg_command.proofs.simple.take_words.Goals as goal

pub returns-clause-ok : goal.returns-clause-ok
returns-clause-ok c =
    let words : List Text = map string_bytes c.args.words.now in
    let matches = c.in-Ok.matches in
    let app = c.in_ok-command.ensures.app in
    let taken : IsTaken words = sym (ap (λ a. fault_of a words) app) ∙ c.in-Ok.ensures.kinds (ap is_simple_and_free app) in
    let rows : rows_of (found_of matches) ≡ matches_of simple_command words = (c.in-Ok.ensures.matches (ap is_simple app)).0 ∙ ap (λ a. matches_of a words) app in
    let given : (name : Text) → first_value (found_of matches) name ≡ value_of name words = λ name. first_value-rows (found_of matches) name ∙ ap (first_of name) rows in
    let set : Option Text → Bool = λ value. option_map_or (λ t. bytes_eq t (codes "true")) value false in
    let texts : Option (Bor Text) → Option Text = option_map (λ t. t.now) in
    record {
      taken = taken;
      mode = sym (given (codes "mode")) ∙ (sym c.get_str.ensures ∙ ap texts c.unwrap.ensures);
      file = sym (given (codes "file")) ∙ (sym c.get_str-2.ensures ∙ ap texts c.unwrap-2.ensures);
      heap = sym (given (codes "heap")) ∙ sym c.get_str-3.ensures;
      stack = sym (given (codes "stack")) ∙ sym c.get_str-4.ensures;
      steps = sym (given (codes "steps")) ∙ sym c.get_str-5.ensures;
      flags =
          let watch = c.has_flag.ensures ∙ ap set (given (codes "watch")) in
          let fold = c.has_flag-2.ensures ∙ ap set (given (codes "fold")) in
          let bare = c.has_flag-3.ensures ∙ ap set (given (codes "bare")) in
          let explain = c.has_flag-4.ensures ∙ ap set (given (codes "explain")) in
          λ i. record { watch = watch i; fold = fold i; bare = bare i; explain = explain i };
    }

usage_is : (fault : CommandFault) → ◌≡◌ {A = Result Values CommandFault} (Err fault) (Err Usage) → fault ≡ Usage
usage_is fault e = cc

pub returns-in-Err-clause-refused : goal.returns-in-Err-clause-refused
returns-in-Err-clause-refused c = λ refused taken.
    let words : List Text = map string_bytes c.args.words.now in
    let app = c.in_ok-command.ensures.app in
    let none : fault_of (app_of c.in_ok-command.command) words ≡ [] = ap (λ a. fault_of a words) app ∙ taken in
    let P : Kinds → Type 0 = λ kinds. HasKind kinds c.in-Err.error in
    elim (subst P none (c.in-Err.ensures.kinds (ap is_simple_and_free app))) [
      | inl memory ↦ c.fault_of.ensures (usage_is c.fault_of.result refused) memory
      | inr among ↦ absurd among
    ]
