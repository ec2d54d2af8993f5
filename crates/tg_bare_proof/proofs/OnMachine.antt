-- The run of delayed lines on the machine with delayed branches.
use Rattle.std.proofs.Common.{ℕ, ◌≡◌, ◌≢◌, ◌+◌, List, [], refl, ap, ◌∙◌, arith, Option, Some, None}
use Rattle.std.specs.Prelude.{codes, false}
use Rattle.tg_base.specs.Words.{add}
use Rattle.tg_machine_state.specs.State.{initial_machine}
use Rattle.tg_simulation.specs.Ran.{Wrong}
use Rattle.tg_asm_text.specs.Placement.{found_address}
use Rattle.tg_tree.specs.declared.fragments.Literal.{Literal}
use Rattle.tg_emit.specs.declared.assembly.Line.{Line}
use Rattle.tg_emit_proof.specs.LinesRun.{Place, behind, statics_of}
use Rattle.tg_emit_proof.specs.laws.Laws.{returns_in, HasImage}
use Rattle.tg_emit_proof.proofs.Fetching.{place_at}
use Rattle.tg_emit_proof.proofs.PlacedWords.{image, labels, lines_stand, all_stands}
use Rattle.tg_emit_proof.proofs.ImageStatics.{statics_are}
use Rattle.tg_bare.specs.Delayed.{initial_bare}
use Rattle.tg_bare.specs.BareRuns.{bare_run}
use Rattle.tg_delay_proof.specs.DelayedRun.{at, going_from}
use Rattle.tg_delay_proof.specs.laws.Laws.{returns_behind_slots}
use Rattle.tg_bare_proof.specs.laws.Laws.{DelayedRunOnTheMachine}
use Rattle.tg_bare_proof.proofs.Machine.{standing, label_leads, runs}

pub delayed_run_on_the_machine : DelayedRunOnTheMachine
delayed_run_on_the_machine lines ls input heap stack n has without right =
    ap (λ bytes. bare_run (initial_bare (image lines ls has).code bytes (image lines ls has).entry heap stack) input n)
    (statics_are lines ls has).bytes
    ∙ by (behind (codes "main") lines) refl right
  where
    by : (o : Option Place) → behind (codes "main") lines ≡ o →
        (going_from (returns_behind_slots lines) lines ls o (initial_machine [] (statics_of ls) 0 heap stack) input n).stop ≢ Wrong →
        bare_run (initial_bare (image lines ls has).code (statics_of ls) (image lines ls has).entry heap stack) input n
        ≡ going_from (returns_behind_slots lines) lines ls o (initial_machine [] (statics_of ls) 0 heap stack) input n
    by None e r = absurd (r refl)
    by (Some p) e r =
        let all = all_stands lines ls has (statics_are lines ls has) in
        let l = label_leads (image lines ls has).code (labels lines ls has) (returns_in lines) lines ls all
        (lines_stand lines ls has) without (codes "main") p e in
        ap (λ place. bare_run (standing (image lines ls has).code (labels lines ls has) (returns_in lines) place (add place 4)
        false (initial_machine [] (statics_of ls) 0 heap stack)) input n) (ap found_address l.1)
        ∙ runs (image lines ls has).code (labels lines ls has) (returns_in lines) lines ls all (lines_stand lines ls has)
        without n (at p) (place_at l.0) (add (place_at l.0) 4) false (initial_machine [] (statics_of ls) 0 heap stack) input
        (l.2, (refl, refl)) r
