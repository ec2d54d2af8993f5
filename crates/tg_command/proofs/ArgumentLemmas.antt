-- The required arguments of the simple command have values.
use Rattle.std.proofs.Common.{◌≡◌, ◌∙◌, ◌<◌, ℕ, zero, suc, List, [], ◌∷◌, true, false, refl, sym, ap, subst, arith, codes, length, inl, inr}
use Rattle.std.specs.List.{All, slice_index_or, position_or_len}
use Rattle.std.specs.Str.{bytes_eq}
use Rattle.std.proofs.lemmas.Slice.Eq.{bytes_eq-Decides}
use Rattle.clap.specs.Words.{AddsArg, AddsInTurn, IsParsedFrom, Rule, Text, args_of, groups_of}
use Rattle.clap.specs.Built.{FitsChain, HasDistinctIds, TakesValue}
use Rattle.clap.specs.declared.builder.arg.Arg.{Arg}
use Rattle.clap.specs.declared.builder.command.Command.{Command}
use Rattle.clap.specs.declared.builder.command.Command.TheViews.{out-Command as fields_of}
use Rattle.clap.specs.declared.parser.matches.ArgMatches.{ArgMatches}
use Rattle.clap.proofs.CallerLemmas.{required_in_chain}
use Rattle.tg_command.specs.Simple.{flag_rule, option, positional}
use Rattle.tg_command.specs.Arguments.{IsArgument, IsGiven, IsValued}

-- the names of the arguments
abbrev names : List Text
names = codes "mode" ∷ codes "file" ∷ codes "heap" ∷ codes "stack" ∷ codes "steps" ∷ codes "watch" ∷ codes "fold" ∷ codes "bare" ∷ codes "explain" ∷ []

place : Text → ℕ
place name = position_or_len (λ x. bytes_eq x name) names

id_is : (rule : Rule) (a : Arg) → IsArgument rule a → a.id.now ≡ rule.id
id_is rule a h = ap (λ (r : Rule). r.id) h.rule_is

no_truth : false ≡ true → ⊥
no_truth h = cc

other_name : (s t : Text) → bytes_eq s t ≡ false → s ≡ t → ⊥
other_name s t differ same = no_truth (sym differ ∙ (bytes_eq-Decides s t).1 same)

-- an argument fits a chain where its name is neither that of the help flag nor that of the version flag
fits : (rule : Rule) (a : Arg) → IsArgument rule a →
    bytes_eq rule.id [] ≡ false → bytes_eq rule.id (codes "help") ≡ false → bytes_eq rule.id (codes "version") ≡ false → FitsChain a
fits rule a h named no_help no_version =
    let same = id_is rule a h in (
      h.plain,
      h.local,
      (λ empty. other_name rule.id [] named (sym same ∙ empty)),
      (λ auto. elim auto [
        | inl e ↦ other_name rule.id (codes "help") no_help (sym same ∙ e)
        | inr e ↦ other_name rule.id (codes "version") no_version (sym same ∙ e)
      ]),
    )

module _ (a b d e f w o r p : Arg) (is_a : IsArgument (positional (codes "mode")) a) (is_b : IsArgument (positional (codes "file")) b)
    (is_d : IsArgument (option (codes "heap")) d) (is_e : IsArgument (option (codes "stack")) e) (is_f : IsArgument (option (codes "steps")) f)
    (is_w : IsArgument (flag_rule (codes "watch")) w) (is_o : IsArgument (flag_rule (codes "fold")) o)
    (is_r : IsArgument (flag_rule (codes "bare")) r) (is_p : IsArgument (flag_rule (codes "explain")) p) where
  abbrev pub chain : List Arg
  chain = a ∷ b ∷ d ∷ e ∷ f ∷ w ∷ o ∷ r ∷ p ∷ []

  all_fit : All FitsChain chain
  all_fit zero x lt = fits _ a is_a refl refl refl
  all_fit (suc zero) x lt = fits _ b is_b refl refl refl
  all_fit (suc (suc zero)) x lt = fits _ d is_d refl refl refl
  all_fit (suc (suc (suc zero))) x lt = fits _ e is_e refl refl refl
  all_fit (suc (suc (suc (suc zero)))) x lt = fits _ f is_f refl refl refl
  all_fit (suc (suc (suc (suc (suc zero))))) x lt = fits _ w is_w refl refl refl
  all_fit (suc (suc (suc (suc (suc (suc zero)))))) x lt = fits _ o is_o refl refl refl
  all_fit (suc (suc (suc (suc (suc (suc (suc zero))))))) x lt = fits _ r is_r refl refl refl
  all_fit (suc (suc (suc (suc (suc (suc (suc (suc zero)))))))) x lt = fits _ p is_p refl refl refl
  all_fit (suc (suc (suc (suc (suc (suc (suc (suc (suc k))))))))) x lt = absurd (omega arith)

  -- each argument stands in the place of its name
  stands : (k : ℕ) (x : Arg) → k < length chain → place (slice_index_or chain k x).id.now ≡ k
  unfolding place
  stands zero x lt = rw (id_is _ a is_a) refl
  stands (suc zero) x lt = rw (id_is _ b is_b) refl
  stands (suc (suc zero)) x lt = rw (id_is _ d is_d) refl
  stands (suc (suc (suc zero))) x lt = rw (id_is _ e is_e) refl
  stands (suc (suc (suc (suc zero)))) x lt = rw (id_is _ f is_f) refl
  stands (suc (suc (suc (suc (suc zero))))) x lt = rw (id_is _ w is_w) refl
  stands (suc (suc (suc (suc (suc (suc zero)))))) x lt = rw (id_is _ o is_o) refl
  stands (suc (suc (suc (suc (suc (suc (suc zero))))))) x lt = rw (id_is _ r is_r) refl
  stands (suc (suc (suc (suc (suc (suc (suc (suc zero)))))))) x lt = rw (id_is _ p is_p) refl
  stands (suc (suc (suc (suc (suc (suc (suc (suc (suc k))))))))) x lt = absurd (omega arith)

  distinct : HasDistinctIds chain
  distinct j k y x low_j low_k same =
      sym (stands j x low_j) ∙ (ap place ((bytes_eq-Decides (slice_index_or chain j x).id.now (slice_index_or chain k y).id.now).0 same) ∙ stands k y low_k)

  module _ (start cmd : Command) (m : ArgMatches) (adds : AddsInTurn AddsArg start chain cmd) (args : args_of start ≡ []) (groups : groups_of start ≡ [])
      (globals : (fields_of start).has_globals ≡ false) (negates : (fields_of start).subcommand_negates_reqs ≡ false) (parsed : IsParsedFrom cmd m) where
    takes : (name : Text) (x : Arg) → IsArgument (positional name) x → IsValued x → TakesValue x
    takes name x h v = (ap (λ (r : Rule). r.required) h.rule_is, ap (λ (r : Rule). r.action) h.rule_is, v.undivided, v.filled)

    given : (k : ℕ) (name : Text) (x : Arg) → k < length chain → slice_index_or chain k x ≡ x → IsArgument (positional name) x → IsValued x → IsGiven name m
    given k name x low at is values = subst (λ t. IsGiven t m) (ap (λ (y : Arg). y.id.now) at ∙ id_is _ x is)
        (required_in_chain start cmd chain k x m adds args groups globals negates all_fit distinct low (subst TakesValue (sym at) (takes name x is values)) parsed)

    pub required_given : IsValued a → IsValued b → IsGiven (codes "mode") m × IsGiven (codes "file") m
    required_given of_a of_b = (given 0 (codes "mode") a (omega arith) refl is_a of_a, given 1 (codes "file") b (omega arith) refl is_b of_b)
