-- The creation of a record whose fields' words are known: the heap is asked for its bytes, and its fields are stored; or there
-- is no room on either side.
use Rattle.std.proofs.Common.{◌≡◌, ℕ, zero, suc, ◌+◌, ◌-◌, ◌*◌, ◌%◌, ◌<◌, ◌≤◌, List, [], ◌∷◌, ◌++◌, length, Some, Bool, true, false, refl, sym, ap, ◌∙◌, arith, subst, inl, inr}
use Rattle.std.specs.Prelude.{if◌then◌else◌, nat_lt, replicate, max}
use Rattle.std.proofs.lemmas.Bool.{cases_lt, lt-ltb, le-ltb}
use Rattle.tg_machine_state.specs.declared.ends.RunEnd.TheVariants.{HeapFull}
use Rattle.tg_machine_state.specs.State.{heap_base}
use Rattle.tg_machine_state.specs.Services.{whole_words}
use Rattle.tg_symbols.specs.Tables.{looked_up}
use Rattle.tg_simulation.specs.Runs.{Run}
use Rattle.tg_simulation.specs.Ran.{Ran, Ended}
use Rattle.tg_simulation.specs.Outcomes.{ended}
use Rattle.tg_simulation.specs.Changes.{passes_limit}
use Rattle.tg_simulation.specs.Agreement.{Source}
use Rattle.tg_simulation.proofs.Following.{follows_passing, follows_along}
use Rattle.tg_semantics.specs.Values.{Value, reference, fields, SourceWorld, add_weight, drop_weight, add_heap, add_object, by_heap}
use Rattle.tg_semantics.specs.Evaluation as E
use Rattle.tg_semantics.specs.Levels.{runtime_weight}
use Rattle.tg_semantics.specs.Operators.{record_bytes}
use Rattle.tg_semantics.specs.MachineRuns.{rest_run}
use Rattle.tg_semantics.specs.Passing.{Rest, Passing, passing, ends}
use Rattle.tg_typecheck.specs.Types.{Ty, record_type, record_shape}
use Rattle.tg_tree.specs.Tree.{Tx, Stms, no_stms, stm, Move}
use Rattle.tg_tree.specs.Actions.{World, Temps, set_temp, Next, over}
use Rattle.tg_translate.specs.declared.operands.Operand.{Operand}
use Rattle.tg_translate.specs.mirror.Constructs.{space_for_record}
use Rattle.tg_runtime_proof.specs.laws.Serving.{with_block}
use Rattle.tg_correctness.specs.laws.Laws.{tree_work}
use Rattle.tg_translate_proof.specs.glue.Worlds.{Holdings, Stands, GrowsTo, a_record, record_of, temporary, nowhere}
use Rattle.tg_translate_proof.specs.glue.Situations.{Program, Part, Setting, Holds, statements_run}
use Rattle.tg_translate_proof.specs.glue.Shown.{FollowsHere}
use Rattle.tg_translate_proof.proofs.state.HeapBlocks.{AreOwned}
use Rattle.tg_translate_proof.proofs.state.NewRecords.{FieldsStand, fields_many, record_block, record_length, record_added}
use Rattle.tg_translate_proof.proofs.expressions.MakeFields.{own_stores, OperandsHave, stores_follow}
use Rattle.tg_translate_proof.proofs.invariant.Cases.{worked, set_here, holds_with_temp}
use Rattle.tg_translate_proof.proofs.invariant.Parts.{more, stop_follows}
use Rattle.tg_translate_proof.proofs.expressions.RuntimeCalls.{weighed_is}
use Rattle.tg_translate_proof.proofs.expressions.StandardFunctions.{holds_weight}

-- the bytes of a record: its words, or one word of zeros
record Bytes (n : ℕ) : Type 0 where
  pub zeros : ℕ
  pub are : record_bytes n ≡ 4 * n + zeros
  pub words : zeros % 4 ≡ 0
  pub some : 0 < n + zeros

bytes_of : (n : ℕ) → Bytes n
bytes_of zero = record { zeros = 4; are = refl; words = refl; some = omega arith }
bytes_of (suc n) = record { zeros = 0; are = omega arith; words = refl; some = omega arith }

module _ (P : Program) (set : Setting P) (p : Part) (q n : ℕ) (go : Value → Rest) (out : Rest) (next : Next)
    (h : Holdings) (types : List Ty) (s : SourceWorld) (w : World) (t : Temps) (x : Holds P p h types s w t)
    (own : AreOwned h (length w.memory.heap)) (at : ℕ) (fs : List (ℕ × Ty)) (shape : looked_up at P.shapes ≡ Some (record_shape fs))
    (parts : List (ℕ × Value)) (us : List ℕ) (xs : List Operand) (stand : FieldsStand h parts fs us) (i : ℕ)
    (idle : p.places (temporary p.scene.depth i) ≡ nowhere)
    (many : length xs ≡ length parts)
    (have : OperandsHave xs us (set_temp i (heap_base + length w.memory.heap) t)) where
  abbrev a : ℕ
  a = heap_base + length w.memory.heap

  abbrev B : ℕ
  B = record_bytes (length parts)

  abbrev s1 : SourceWorld
  s1 = add_weight runtime_weight s

  -- what is made of the test of the room
  abbrev tested : Bool → Rest
  tested b s2 =
      if b then ends (ended by_heap) s2 else
      go (reference (length s2.objects)) (drop_weight runtime_weight (add_object (fields parts) (add_heap B s2)))

  abbrev making : Rest
  making s2 = tested (nat_lt P.heap (s2.heap + B)) s2

  abbrev source : Run Source
  source = rest_run (E.make_record Passing (passing P.heap P.stack) parts go out) s

  abbrev statements : Stms
  statements = stm (Move i (space_for_record (length xs))) (own_stores i 0 xs)

  abbrev stores : Next
  stores w1 t1 = statements_run P p (own_stores i 0 xs) p.around next w1 t1

  abbrev with_space : ℕ → World
  with_space k = record w { memory = record w.memory { heap = w.memory.heap ++ replicate k 0 } }

  abbrev space : Bool → ℕ → Run Ran
  space b k = if b then over (Ended HeapFull) w else stores (with_space k) (set_temp i a t)

  -- what comes next, where the record stands
  abbrev pub RecordOnward : Type 0
  RecordOnward =
      (g : Holdings) (s3 : SourceWorld) (w3 : World) → GrowsTo h g → Holds P p g types s3 w3 (set_temp i a t) →
      (v : Value) → Stands g v (record_type at) a → FollowsHere P q n (rest_run (go v) s3) (next w3 (set_temp i a t))

  made_follows : RecordOnward → FollowsHere P (q + 12 * length us) n (rest_run making s1)
      (space (nat_lt P.heap (length w.memory.heap + whole_words (record_bytes (length xs)))) (whole_words (record_bytes (length xs))))
  made_follows onward =
      let b = bytes_of (length parts) in
      let count = fields_many h parts fs us stand in
      let c0 = count.0 in
      let c1 = count.1 in
      let are = b.are in
      let words = b.words in
      let some = b.some in
      let heap = x.invariant.heap in
      let taken = x.invariant.memory.taken in
      let most = x.invariant.memory.most in
      let block = record_block us b.zeros in
      let long = record_length us b.zeros in
      let whole_ : whole_words B ≡ B = omega (arith, are, words) in
      let same : whole_words (record_bytes (length xs)) ≡ B = ap (λ j. whole_words (record_bytes j)) many ∙ whole_ in
      subst (λ (k : ℕ). FollowsHere P (q + 12 * length us) n (rest_run making s1) (space (nat_lt P.heap (length w.memory.heap + k)) k)) (sym same)
      (elim (cases_lt P.heap (length w.memory.heap + B)) [
        | inl much ↦
            subst (λ c. FollowsHere P (q + 12 * length us) n (rest_run (tested c) s1) (space (nat_lt P.heap (length w.memory.heap + B)) B))
            (sym (lt-ltb P.heap (s1.heap + B) (omega (arith, much, heap))))
            (subst (λ c. FollowsHere P (q + 12 * length us) n (rest_run (tested true) s1) (space c B))
            (sym (lt-ltb P.heap (length w.memory.heap + B) much))
            (stop_follows P (q + 12 * length us) n by_heap s1 w x.invariant.input))
        | inr fits ↦
            let added = record_added P set p h types s w t x own at fs shape parts us b.zeros stand b.words (omega (arith, some, c0, c1))
            (omega (arith, long, fits, are, c0, c1)) in
            let is = x.weight in
            let weight : ℕ = s.weight + runtime_weight - runtime_weight in
            let w3 : World = with_block block w in
            let object = fields parts in
            let s3 : SourceWorld = drop_weight runtime_weight (add_object object (add_heap B s1)) in
            let size : length block ≡ B = omega (arith, long, are, c0, c1) in
            let holds3 : Holds P p added.g types s3 w3 t =
            subst (λ j. Holds P p added.g types (record (add_object object s) { heap = s.heap + j; weight = weight }) w3 t) size
            (holds_weight P p added.g types (add_object object (add_heap (length block) s)) w3 t weight (omega (arith, is)) added.holds) in
            let value_is : Value = reference (length s.objects) in
            let c : Run Source = rest_run (go value_is) s3 in
            let at_end : B ≡ 4 * length us + b.zeros = omega (arith, are, c0, c1) in
            subst (λ f. FollowsHere P (q + 12 * length us) n (rest_run (tested f) s1) (space (nat_lt P.heap (length w.memory.heap + B)) B))
            (sym (le-ltb P.heap (s1.heap + B) (omega (arith, fits, heap))))
            (subst (λ f. FollowsHere P (q + 12 * length us) n c (space f B))
            (sym (le-ltb P.heap (length w.memory.heap + B) fits))
            (subst (λ (j : ℕ). FollowsHere P (q + 12 * length us) n c (stores (with_space j) (set_temp i a t))) (sym at_end)
            (stores_follow P p n c w.memory x.invariant.memory.whole.statics x.invariant.memory.whole.heap_words i w (set_temp i a t)
            (set_here i a t) next q b.zeros xs us [] 0 refl have (omega (arith, at_end, fits, most))
            (onward added.g s3 w3 added.grown (holds_with_temp P p added.g types s3 w3 t i a idle holds3) value_is
            (a_record (length s.objects) at a added.there)))))
      ])

  pub record_follows : RecordOnward →
      FollowsHere P (q + 12 * length us + 16) n source (statements_run P p statements p.around next w t)
  record_follows onward =
      let k : ℕ = record_bytes (length xs) in
      let d : Run Ran = space (nat_lt P.heap (length w.memory.heap + whole_words k)) (whole_words k) in
      let above = nat_lt P.stack (s.weight + runtime_weight) in
      let Q : ℕ = q + 12 * length us in
      let after : FollowsHere P Q n source d =
      follows_along P.stack tree_work Q n (λ j. passes_limit above (rest_run making s1 j)) source d d
      (λ j. weighed_is P set making s j) (λ j. refl)
      (follows_passing P.stack tree_work Q n above (rest_run making s1) d (made_follows onward)) in
      worked P (Q + 9) (Q + 16) 2 n source _ (omega arith)
      (worked P (Q + 2) (Q + 9) 7 n source _ (omega arith) (worked P Q (Q + 2) 2 n source d (omega arith) after))
