-- Parameters that follow others, one after another.
use Rattle.std.specs.Prelude.{IsTrue, ◌↔◌}
use Rattle.std.proofs.Common.{Bool, true, ◌≡◌, List, [], ◌∷◌, ◌++◌, subst}
use Rattle.tg_syntax.specs.declared.tokens.Sign.TheVariants.{Comma}
use Rattle.tg_syntax.specs.declared.tokens.Spanned.{Spanned}
use Rattle.tg_syntax.specs.declared.trees.Param.{Param}
use Rattle.tg_syntax_laws.specs.declared.marks.Mark.TheVariants.{OfSign}
use Rattle.tg_syntax_laws.specs.mirror.Steps.{token_of, Answer, Got, Bad, Out, OneParam, MoreParams}
use Rattle.tg_syntax_laws.specs.mirror.Reading.{Does, last, one_param, more_params, give_got, call_got, call_bad, call_out}
use Rattle.tg_parser.specs.declared.faults.Stop.{Stop}
use Rattle.tg_parser.specs.glue.Given.{Refuses, refuses, wants, no_memory}
use Rattle.tg_parser.proofs.Chains.{split_on}

-- reading on after these parameters is reading on after the first ones
pub record Onward (first : List Param) (tokens : List Spanned) (params : List Param) (rest : List Spanned) : Type 0 where
  pub reaches : (r : Answer (List Param)) → Does (MoreParams params) (more_params params) rest r → Does (MoreParams first) (more_params first) tokens r

pub onward_none : (first : List Param) (tokens : List Spanned) → Onward first tokens first tokens
onward_none first tokens = record { reaches = λ r d. d }

last_params : (first params : List Param) (tokens : List Spanned) (r : Answer (List Param)) →
    Does (MoreParams params) (more_params params) tokens r → Does (MoreParams first) (last (MoreParams params)) tokens r
last_params first params tokens (Got x rest) d = call_got (MoreParams first) (MoreParams params) d (give_got (MoreParams first))
last_params first params tokens (Bad t rest) d = call_bad (MoreParams first) (MoreParams params) d
last_params first params tokens Out d = call_out (MoreParams first) (MoreParams params) d

pub onward_more : {first params new : List Param} {tokens rest after behind : List Spanned} {t : Spanned} {b : Bool} {p : Param} →
    Onward first tokens params rest → rest ≡ t ∷ after → IsTrue b ↔ (t.token ≡ token_of (OfSign Comma)) → b ≡ true →
    Does OneParam one_param after (Got p behind) → new ≡ params ++ p ∷ [] → Onward first tokens new behind
onward_more {first} {params} {new} {tokens} {rest} {after} {behind} {t} {b} {p} h e i k d n = record {
  reaches = λ r w. h.reaches r
      (split_on (MoreParams params) e i k
      (call_got (MoreParams params) OneParam d (last_params params (params ++ p ∷ []) behind r (subst (λ x. Does (MoreParams x) (more_params x) behind r) n w))));
}

pub onward_stops : {first params : List Param} {tokens rest : List Spanned} {e : Stop} → Onward first tokens params rest →
    Refuses e (MoreParams params) (more_params params) rest → Refuses e (MoreParams first) (more_params first) tokens
onward_stops h (refuses {after = after} one d) = refuses one (h.reaches (Bad one after) d)
onward_stops h (wants d) = wants (h.reaches Out d)
onward_stops h (no_memory _) = no_memory (MoreParams _)
