-- How steps without a service go on, and what they leave of a call.
use Rattle.std.proofs.Common.{◌≡◌, ◌+◌, ℕ, zero, suc, List, Option, Bool, arith, sym, subst}
use Rattle.tg_bare.specs.Delayed.{Bare, Goes, bare_step}
use Rattle.tg_bare.specs.glue.Pauses.{BareRunsTo}
use Rattle.tg_bare.proofs.Reached.{Reached, reached_goes}

-- one step more
pub runs_more : (n : ℕ) (b mid c : Bare) → BareRunsTo n b mid → bare_step mid ≡ Goes c → BareRunsTo (n + 1) b c
runs_more n b mid c r h =
    let e : n + 1 ≡ suc n = omega arith in
    subst (λ m. BareRunsTo m b c) (sym e) (mid, r, h)

-- after so many steps, and then so many without a service
pub reached_runs : {I O : Type 0} (left : I → Option (List ℕ)) (read_faults : I → ℕ) (taken : O → Option (List ℕ)) (write_faults : O → ℕ)
    (n k : ℕ) (old mid new : Bare) (first input : I) (start out : O) (before written : ℕ) (e f : Bool) →
    Reached left read_faults taken write_faults n old mid first input start out before written e f → BareRunsTo k mid new →
    Reached left read_faults taken write_faults (n + k) old new first input start out before written e f
reached_runs left read_faults taken write_faults n zero old mid new first input start out before written e f r runs =
    let same : n + zero ≡ n = omega arith in
    rw (same, runs) r
reached_runs left read_faults taken write_faults n (suc k) old mid new first input start out before written e f r runs =
    let same : n + suc k ≡ n + k + 1 = omega arith in
    rw same (reached_goes left read_faults taken write_faults (n + k) old runs.0 new first input start out before written e f
    (reached_runs left read_faults taken write_faults n k old mid runs.0 first input start out before written e f r runs.1) runs.2)
