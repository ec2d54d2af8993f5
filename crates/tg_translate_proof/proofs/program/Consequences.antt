-- What the theorem says of the static links of calls, and of runs with other sizes of frames.
use Rattle.std.proofs.Common.{◌≡◌, ◌≢◌, ◌⊎◌, inl, inr, ℕ, List, refl, sym, ap, ◌∙◌, subst}
use Rattle.tg_machine_state.specs.declared.ends.RunEnd.{RunEnd}
use Rattle.tg_machine_state.specs.declared.ends.RunEnd.TheVariants.{StackFull}
use Rattle.tg_simulation.specs.Bytes.{IsPrefix}
use Rattle.tg_simulation.specs.Ran.{Ran, Ended, WantsFuel}
use Rattle.tg_simulation.specs.Outcomes.{End, ended, out_of_fuel, stuck}
use Rattle.tg_typecheck.specs.Programs.{CheckedProgram}
use Rattle.tg_translate_proof.specs.laws.Laws.{MayRun, TranslateIsCorrect, source_run, trees_run, EndsAlike, IsFullBefore, LinksOfCallsAreRight}
use Rattle.tg_translate_proof.specs.laws.Laws.{SizesTellNothing, GoOnAlike, RunsGoOnAlike}
use Rattle.tg_translate_proof.proofs.program.Composing.{unstuck}

pub links_are_right : TranslateIsCorrect → LinksOfCallsAreRight
links_are_right kept p size heap stack input may = (kept p size heap stack input may).links

-- one run ends as the program does, and so does the other
pub sizes_tell_nothing : TranslateIsCorrect → SizesTellNothing
sizes_tell_nothing kept p one other heap stack input may may_other m e stops ne =
    let first = (kept p one heap stack input may).agrees.ends_only m e stops ne in
    let then_ = (kept p other heap stack input may_other).agrees.ends m e first.meets in (
      then_.0,
      elim then_.1 [
        | inl same ↦ inl (record {
          stops = same.stops ∙ sym stops;
          output = same.output ∙ sym first.output;
          input = same.input ∙ sym first.input;
        })
        | inr cut ↦ inr (record {
          full = cut.full;
          front = subst (λ l. IsPrefix (trees_run p other heap stack input then_.0).output l) (sym first.output) cut.front;
        })
      ],
    )

ended_wants_none : (e : RunEnd) → Ended e ≡ WantsFuel → ⊥
ended_wants_none e h = cc

-- one run goes on as the program does, and so does the other
pub go_on_alike : TranslateIsCorrect → RunsGoOnAlike
go_on_alike kept p one other heap stack input may may_other on n = by (source_run p heap stack input n).end refl
  where
    by : (e : End RunEnd) → (source_run p heap stack input n).end ≡ e →
        GoOnAlike n (trees_run p one heap stack input) (trees_run p other heap stack input)
    by (ended e) h =
        let x = (kept p one heap stack input may).agrees.ends n e h in
        elim x.1 [
          | inl same ↦ absurd (ended_wants_none e (sym same.stops ∙ on x.0))
          | inr cut ↦ absurd (ended_wants_none StackFull (sym cut.full ∙ on x.0))
        ]
    by out_of_fuel h =
        let x = (kept p one heap stack input may).agrees.goes_on n h in
        let y = (kept p other heap stack input may_other).agrees.goes_on n h in
        elim x.2 [
          | inl same ↦ (
            x.0,
            x.1,
            y.0,
            elim y.2 [
              | inl too ↦ inl (record {
                stops = too.stops ∙ sym same.stops;
                output = too.output ∙ sym same.output;
                input = too.input ∙ sym same.input;
              })
              | inr cut ↦ inr (record {
                full = cut.full;
                front = subst (λ l. IsPrefix (trees_run p other heap stack input y.0).output l) (sym same.output) cut.front;
              })
            ],
          )
          | inr cut ↦ absurd (ended_wants_none StackFull (sym cut.full ∙ on x.0))
        ]
    by stuck h = absurd (unstuck p one heap stack input may n h)
