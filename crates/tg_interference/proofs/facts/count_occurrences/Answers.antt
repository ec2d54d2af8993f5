use Rattle.std.proofs.Common.{rules, ◌≡◌, ◌<◌, ◌+◌, ◌*◌, ◌^◌, ℕ, List, ◌++◌, length, take, drop, replicate, sym, ap, ◌∙◌, arith}
use Rattle.std.proofs.lemmas.List.{length-replicate, get_or-replicate, take_all, take_at}
use Rattle.std.specs.Prelude.{slice_index}
use Rattle.std.specs.List.{list_all}
use Rattle.tg_instr.specs.declared.instr.Instr.{Instr}
use Rattle.tg_instr.specs.Codes.{has_temps_below}
use Rattle.tg_interference.specs.Facts.{temp, occurrences, occurrences_in}
use Rattle.tg_interference.proofs.Operands.{all_read}
use Rattle.tg_interference.proofs.Occurring.{occurrences_more, room_for}
use Rattle.tg_interference.proofs.facts.count_occurrences.Goals as goal

pub count_instr-requires-clause-temps : goal.count_instr-requires-clause-temps
count_instr-requires-clause-temps c =
    let code = c.args.code.now in
    let size : length c.as_mut_slice.result.now ≡ code.temps =
    ap (λ (xs : List ℕ). length xs) c.as_mut_slice.ensures.value ∙ c.loop-one.invariant.size in
    ap (λ n. has_temps_below n c.one-item.result) size
    ∙ all_read (has_temps_below code.temps) c.as_slice-list.result.now c.loop-one.one-index c.one-item.result
    c.loop-one-test.true c.one-item.is
    (ap (list_all (has_temps_below code.temps)) c.as_slice-list.ensures ∙ code.temps_below)

pub count_instr-requires-clause-room : goal.count_instr-requires-clause-room
count_instr-requires-clause-room c = λ t l.
    let list = c.as_slice-list.result.now in
    let i = c.loop-one.one-index in
    let size : length c.as_mut_slice.result.now ≡ c.args.code.now.temps =
    ap (λ (xs : List ℕ). length xs) c.as_mut_slice.ensures.value ∙ c.loop-one.invariant.size in
    let same : slice_index c.as_mut_slice.result.now t ≡ occurrences (temp t) (take i list) =
    ap (λ (xs : List ℕ). slice_index xs t) c.as_mut_slice.ensures.value ∙ c.loop-one.invariant.each t (omega arith) in
    let long : length list ≡ length c.args.code.now.list =
    ap (λ (xs : List Instr). length xs) c.as_slice-list.ensures in
    let short : length list * 48 < 2 ^ 32 = omega (arith, c.requires) in
    let room = room_for (temp t) list i c.one-item.result c.loop-one-test.true short in
    omega (arith, room, same)

pub loop-one-init : goal.loop-one-init
loop-one-init c =
    let n = c.args.code.now.temps in
    let none : c.in_ok-counts.counts.items ≡ replicate n 0 =
    c.in_ok-counts.ensures.items_if_clones_equal (λ y h. search rules) in
    record {
      size = ap (λ (counts : List ℕ). length counts) none ∙ length-replicate n 0;
      each = λ t l. ap (λ (counts : List ℕ). slice_index counts t) none ∙ get_or-replicate n t 0 0 l;
    }

pub loop-one-preserved : goal.loop-one-preserved
loop-one-preserved c =
    let list = c.as_slice-list.result.now in
    let i = c.loop-one.one-index in
    let old : List ℕ = c.loop-one.counts.items in
    let new : List ℕ = c.count_instr.new.counts in
    let was : length old ≡ c.args.code.now.temps = c.loop-one.invariant.size in
    let same : length new ≡ length old = c.count_instr.auto.counts ∙ ap (λ (xs : List ℕ). length xs) c.as_mut_slice.ensures.value in
    let written : take c.loop-one.counts.len (new ++ drop (length new) old) ≡ new =
    take_at new (drop (length new) old) c.loop-one.counts.len (same ∙ sym c.loop-one.counts.ok.0) in
    record {
      size = ap (λ (xs : List ℕ). length xs) written ∙ (same ∙ was);
      each = λ t l.
          let within : t < length c.as_mut_slice.result.now =
          omega (arith, l, was, ap (λ (xs : List ℕ). length xs) c.as_mut_slice.ensures.value) in
          ap (λ (xs : List ℕ). slice_index xs t) written
          ∙ (c.count_instr.ensures t within
          ∙ (ap (λ (xs : List ℕ). slice_index xs t + occurrences_in (temp t) c.one-item.result) c.as_mut_slice.ensures.value
          ∙ (ap (λ n. n + occurrences_in (temp t) c.one-item.result) (c.loop-one.invariant.each t l)
          ∙ sym (occurrences_more (temp t) list i c.one-item.result c.loop-one-test.true c.one-item.is))));
    }

pub returns : goal.returns
returns c =
    let all = take_all c.loop-one.one-index c.as_slice-list.result.now c.loop-one-test.false ∙ c.as_slice-list.ensures in
    record {
      size = c.loop-one.invariant.size;
      each = λ t l. c.loop-one.invariant.each t l ∙ ap (occurrences (temp t)) all;
    }
