-- What is read by unary expressions alone is read so at looser levels, where no operator of theirs follows.
use Rattle.std.proofs.Common.{ℕ, ◌≡◌, ◌<◌, List, ◌∷◌, None, true, false, refl, sym, subst, arith}
use Rattle.tg_syntax.specs.declared.tokens.Spanned.{Spanned}
use Rattle.tg_syntax.specs.declared.trees.Op.{Op}
use Rattle.tg_syntax.specs.Tree.{Exp}
use Rattle.tg_syntax.specs.Tails.{ends_tail}
use Rattle.tg_syntax.specs.Grammar.{Level}
use Rattle.tg_syntax.specs.Grammar as level
use Rattle.tg_parser.specs.declared.faults.Stop.{Stop}
use Rattle.tg_parser.specs.declared.ranks.Rank.{Rank}
use Rattle.tg_parser.specs.declared.ranks.Rank.TheVariants.{Disjunction, Conjunction, Comparison, Sum, Term, Unary}
use Rattle.tg_parser.specs.glue.Ranks.{level_of, NoneWithin, at_unary, looser}
use Rattle.tg_parser.specs.glue.Given.{Refuses}
use Rattle.tg_parser.specs.glue.Opens.{Leads, Passes}
use Rattle.tg_parser.proofs.Chains.{call_stops}
use Rattle.tg_parser.proofs.Leading.{then, gives, test_is, test_not, oper_not}
use Rattle.tg_parser.proofs.Descents.{level_does}
use Rattle.tg_syntax_laws.specs.mirror.Steps.{op_of, Job, Of, At, After, Steps, oper, test}
use Rattle.tg_syntax_laws.specs.mirror.Reading.{give_got, call_got, below, job}

-- no operator of a level follows
record Quiet (k : Level) (l : Exp) (ts : List Spanned) : Type 0 where
  leads : (j : Job) (f : Op → ℕ → Steps (Of j)) (z : Steps (Of j)) → Leads j (test (ends_tail l) z (oper k f z)) ts z ts

quiet_tail : (k : Level) {l : Exp} {ts : List Spanned} → ends_tail l ≡ true → Quiet k l ts
quiet_tail k h = record { leads = λ j f z. test_is j h }

quiet_token : (k : Level) {l : Exp} {t : Spanned} {ts rest : List Spanned} → ends_tail l ≡ false → ts ≡ t ∷ rest → None ≡ op_of k t.token → Quiet k l ts
quiet_token k h e n = record { leads = λ j f z. then (test_not j h) (oper_not j e n) }

step_up : (k : Rank) {b : Level} {l : Exp} {ts : List Spanned} → b ≡ below (level_of k) → Quiet (level_of k) l ts → Passes b l ts → Passes (level_of k) l ts
step_up Disjunction {l = l} {ts = ts} e q p =
    record {
      goes = λ start d. call_got (At level.Disjunction) (At level.Conjunction) (level_does e (p.goes start d))
          (call_got (At level.Disjunction) (After level.Disjunction l) (gives (q.leads (After level.Disjunction l) _ _)) (give_got (At level.Disjunction)));
    }
step_up Conjunction {l = l} {ts = ts} e q p =
    record {
      goes = λ start d. call_got (At level.Conjunction) (At level.Comparison) (level_does e (p.goes start d))
          (call_got (At level.Conjunction) (After level.Conjunction l) (gives (q.leads (After level.Conjunction l) _ _)) (give_got (At level.Conjunction)));
    }
step_up Comparison {l = l} {ts = ts} e q p = record {
  goes = λ start d. call_got (At level.Comparison) (At level.Sum)
      (level_does e (p.goes start d)) (gives (q.leads (At level.Comparison) _ _));
}
step_up Sum {l = l} {ts = ts} e q p =
    record {
      goes = λ start d. call_got (At level.Sum) (At level.Term) (level_does e (p.goes start d))
          (call_got (At level.Sum) (After level.Sum l) (gives (q.leads (After level.Sum l) _ _)) (give_got (At level.Sum)));
    }
step_up Term {l = l} {ts = ts} e q p = record {
  goes = λ start d. call_got (At level.Term) (At level.Unary)
      (level_does e (p.goes start d)) (call_got (At level.Term) (After level.Term l) (gives (q.leads (After level.Term l) _ _)) (give_got (At level.Term)));
}
step_up Unary e q p = record { goes = λ start d. level_does e (p.goes start d) }

here : {l : Exp} {ts : List Spanned} → Passes level.Unary l ts
here = record { goes = λ start d. d }

tail_term : {l : Exp} {ts : List Spanned} → ends_tail l ≡ true → Passes level.Term l ts
tail_term h = step_up Term refl (quiet_tail level.Term h) here

tail_sum : {l : Exp} {ts : List Spanned} → ends_tail l ≡ true → Passes level.Sum l ts
tail_sum h = step_up Sum refl (quiet_tail level.Sum h) (tail_term h)

tail_comparison : {l : Exp} {ts : List Spanned} → ends_tail l ≡ true → Passes level.Comparison l ts
tail_comparison h = step_up Comparison refl (quiet_tail level.Comparison h) (tail_sum h)

tail_conjunction : {l : Exp} {ts : List Spanned} → ends_tail l ≡ true → Passes level.Conjunction l ts
tail_conjunction h = step_up Conjunction refl (quiet_tail level.Conjunction h) (tail_comparison h)

pub tail_passes : (k : Rank) {l : Exp} {ts : List Spanned} → ends_tail l ≡ true → Passes (level_of k) l ts
tail_passes Unary h = here
tail_passes Term h = tail_term h
tail_passes Sum h = tail_sum h
tail_passes Comparison h = tail_comparison h
tail_passes Conjunction h = tail_conjunction h
tail_passes Disjunction h = step_up Disjunction refl (quiet_tail level.Disjunction h) (tail_conjunction h)

pub none_passes : {k : Rank} {t : Spanned} {l : Exp} {ts rest : List Spanned} → ends_tail l ≡ false → ts ≡ t ∷ rest →
    NoneWithin k t.token → Passes (level_of k) l ts
none_passes h e (at_unary _) = here
none_passes h e (looser {k = k} {b = b} p n w) = step_up k p (quiet_token (level_of k) h e n) (none_passes h e w)

-- where the first unary expression is refused, so is all
at_term : {e : Stop} {ts : List Spanned} → Refuses e (At level.Unary) (job (At level.Unary)) ts → Refuses e (At level.Term) (job (At level.Term)) ts
at_term h = call_stops (At level.Term) (At level.Unary) h

at_sum : {e : Stop} {ts : List Spanned} → Refuses e (At level.Unary) (job (At level.Unary)) ts → Refuses e (At level.Sum) (job (At level.Sum)) ts
at_sum h = call_stops (At level.Sum) (At level.Term) (at_term h)

at_comparison : {e : Stop} {ts : List Spanned} → Refuses e (At level.Unary) (job (At level.Unary)) ts →
    Refuses e (At level.Comparison) (job (At level.Comparison)) ts
at_comparison h = call_stops (At level.Comparison) (At level.Sum) (at_sum h)

at_conjunction : {e : Stop} {ts : List Spanned} → Refuses e (At level.Unary) (job (At level.Unary)) ts →
    Refuses e (At level.Conjunction) (job (At level.Conjunction)) ts
at_conjunction h = call_stops (At level.Conjunction) (At level.Comparison) (at_comparison h)

pub unary_refuses : (k : Rank) {e : Stop} {ts : List Spanned} → Refuses e (At level.Unary) (job (At level.Unary)) ts →
    Refuses e (At (level_of k)) (job (At (level_of k))) ts
unary_refuses Unary h = h
unary_refuses Term h = at_term h
unary_refuses Sum h = at_sum h
unary_refuses Comparison h = at_comparison h
unary_refuses Conjunction h = at_conjunction h
unary_refuses Disjunction h = call_stops (At level.Disjunction) (At level.Conjunction) (at_conjunction h)

-- how far a level is from that of unary expressions
abbrev pub looseness : Level → ℕ
looseness level.Term = 1
looseness level.Sum = 2
looseness level.Comparison = 3
looseness level.Conjunction = 4
looseness level.Disjunction = 5
looseness _ = 0

pub tighter : (k b : Rank) → level_of b ≡ below (level_of k) → (k ≡ Unary → ⊥) → looseness (level_of b) < looseness (level_of k)
tighter Disjunction b e n = subst (λ x. looseness x < 5) (sym e) (omega arith)
tighter Conjunction b e n = subst (λ x. looseness x < 4) (sym e) (omega arith)
tighter Comparison b e n = subst (λ x. looseness x < 3) (sym e) (omega arith)
tighter Sum b e n = subst (λ x. looseness x < 2) (sym e) (omega arith)
tighter Term b e n = subst (λ x. looseness x < 1) (sym e) (omega arith)
tighter Unary b e n = absurd (n refl)
