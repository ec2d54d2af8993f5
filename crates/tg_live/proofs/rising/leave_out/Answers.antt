use Rattle.std.proofs.Common.{◌≡◌, ◌<◌, ◌≤◌, true, false, length, sym, ap, ◌∙◌, arith}
use Rattle.std.specs.List.{remove}
use Rattle.std.proofs.lemmas.Bool.{eq-eqb, ne_eqb}
use Rattle.tg_live.specs.Live.{number_of}
use Rattle.tg_live.specs.glue.LiveChanges.{lower_count}
use Rattle.tg_live.proofs.Changing.{stands, stands_at, stands_nowhere, without_none, without_there}
use Rattle.tg_live.proofs.rising.leave_out.Goals as goal
use Rattle.tg_live.proofs.rising.leave_out.Goals.{else-at-len-via-then-at-len+else-number_of, else-at-len-via-else-at-len}

pub returns-then-number_of : goal.returns-then-number_of
returns-then-number_of c =
    let set = c.args.set.now.items in
    let x = c.args.one.now in
    let y = c.index.result.now in
    let place : c.lower_count-at.result ≡ lower_count x set =
    c.lower_count-at.ensures.value ∙ ap (lower_count x) c.as_slice.ensures.value in
    let l : c.lower_count-at.result < length set = omega (arith, c.if-at-len.true, c.len.ensures) in
    let e : number_of y ≡ number_of x =
    omega (arith, c.number_of.ensures.number, c.number_of-then-at-len.ensures.number, c.if-number_of.true) in
    let there : stands x set ≡ true =
    stands_at x set c.lower_count-at.result y place l c.index.ensures
    ∙ eq-eqb (number_of y) (number_of x) e in
    c.remove.ensures.items
    ∙ (ap (λ k. remove set k) place ∙ without_there x set there)

pub returns-else-at-len : goal.returns-else-at-len
returns-else-at-len c =
    let set = c.args.set.now.items in
    let x = c.args.one.now in
    let place : c.lower_count-at.result ≡ lower_count x set =
    c.lower_count-at.ensures.value ∙ ap (lower_count x) c.as_slice.ensures.value in
    let none : stands x set ≡ false = elim c.else-at-len.branch [
      | else-at-len-via-then-at-len+else-number_of w ↦
          let y = w.index.result.now in
          let l : c.lower_count-at.result < length set = omega (arith, w.if-at-len.true, c.len.ensures) in
          stands_at x set c.lower_count-at.result y place l w.index.ensures
          ∙ ne_eqb (number_of y) (number_of x)
          (λ e. absurd (omega (
            arith,
            e,
            w.number_of.ensures.number,
            w.number_of-then-at-len.ensures.number,
            w.if-number_of.false,
          )))
      | else-at-len-via-else-at-len w ↦
          let l : length set ≤ c.lower_count-at.result = omega (arith, w.if-at-len.false, c.len.ensures) in
          stands_nowhere x set c.lower_count-at.result place l
    ] in
    sym (without_none x set none)
