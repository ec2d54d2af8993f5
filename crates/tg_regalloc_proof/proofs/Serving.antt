-- Services in worlds that differ in added words alone.
use Rattle.std.proofs.Common.{ℕ, zero, suc, ◌≡◌, ◌+◌, ◌%◌, ◌^◌, ◌==◌, Bool, true, false, List, [], ◌∷◌, ◌++◌}
use Rattle.std.proofs.Common.{length, replicate, nat_lt, refl, sym, ap, ◌∙◌, subst, Option, Some, None, pos}
use Rattle.std.specs.Prelude.{if◌then◌else◌}
use Rattle.std.specs.Fmt.{signed_decimal}
use Rattle.tg_machine_state.specs.declared.ends.RunEnd.TheVariants.{Exit, HeapFull, BadService}
use Rattle.tg_base.specs.Words.{signed}
use Rattle.tg_machine_state.specs.State.{heap_base}
use Rattle.tg_machine_state.specs.Services.{whole_words}
use Rattle.tg_simulation.specs.Runs.{Run}
use Rattle.tg_simulation.specs.Ran.{Ran, Stop, Ended, stops}
use Rattle.tg_tree.specs.Memory.{Cell, Memory, load_byte}
use Rattle.tg_tree.specs.Actions.{World, over, written, before, text_from, with_text, take_heap, read_byte}
use Rattle.tg_tree.specs.Actions.{service}
use Rattle.tg_regalloc_proof.proofs.Simulating.{Simulates, same_run, by_test, by_writing}
use Rattle.tg_regalloc_proof.proofs.Worlds.{Beside, load_byte_too}

abbrev text_step : Option ℕ → Option (List ℕ) → Option (List ℕ)
text_step o rest =
    elim o as (λ _. Option (List ℕ)) [
      | Some b ↦ elim (b == 0) as (λ _. Option (List ℕ)) [ true ↦ Some [] | false ↦ before b rest ]
      | None ↦ None
    ]

no_some : {A : Type 0} (x : A) → None ≡ Some x → ⊥
no_some x e = cc

before_too : (b : ℕ) (r r' : Option (List ℕ)) (bytes : List ℕ) → ((l : List ℕ) → r ≡ Some l → r' ≡ Some l) →
    before b r ≡ Some bytes → before b r' ≡ Some bytes
before_too b None r' bytes f h = absurd (no_some bytes h)
before_too b (Some l) r' bytes f h = ap (λ z. before b z) (f l refl) ∙ h

end_too : (q : Bool) (b : ℕ) (r r' : Option (List ℕ)) (bytes : List ℕ) → ((l : List ℕ) → r ≡ Some l → r' ≡ Some l) →
    elim q as (λ _. Option (List ℕ)) [ true ↦ Some [] | false ↦ before b r ] ≡ Some bytes →
    elim q as (λ _. Option (List ℕ)) [ true ↦ Some [] | false ↦ before b r' ] ≡ Some bytes
end_too true b r r' bytes f h = h
end_too false b r r' bytes f h = before_too b r r' bytes f h

step_too : (o o' : Option ℕ) (r r' : Option (List ℕ)) (bytes : List ℕ) → ((b : ℕ) → o ≡ Some b → o' ≡ Some b) →
    ((l : List ℕ) → r ≡ Some l → r' ≡ Some l) →
    text_step o r ≡ Some bytes → text_step o' r' ≡ Some bytes
step_too None o' r r' bytes f g h = absurd (no_some bytes h)
step_too (Some b) o' r r' bytes f g h = ap (λ z. text_step z r') (f b refl) ∙ end_too (b == 0) b r r' bytes g h

by_text : (o o' : Option (List ℕ)) (w v : World) (c d : Run Ran) → ((bytes : List ℕ) → o ≡ Some bytes → o'
    ≡ Some bytes) → Simulates c d → Simulates (with_text o w c) (with_text o' v d)
by_text None o' w v c d f h = λ n k. absurd (k refl)
by_text (Some bytes) o' w v c d f h = subst (λ z. Simulates (written bytes c) (with_text z v d)) (sym (f bytes refl)) (by_writing bytes c d h)

module _ (added : ℕ → Bool) (cells : ℕ → Cell) where
  pub record Worlds (w v : World) : Type 0 where
    pub input : v.input ≡ w.input
    pub memory : Beside added cells w.memory v.memory

  text_too : (f : ℕ) (m k : Memory) → Beside added cells m k → (x : ℕ) (bytes : List ℕ) → text_from f m x
      ≡ Some bytes → text_from f k x ≡ Some bytes
  text_too zero m k b x bytes h = absurd (no_some bytes h)
  text_too (suc f) m k b x bytes h =
      step_too (load_byte m x) (load_byte k x) (text_from f m (x + 1)) (text_from f k (x + 1)) bytes (λ v e.
      load_byte_too added cells m k b x v e)
      (λ l e. text_too f m k b (x + 1) l e) h

  pub by_end : (stop : Stop) (w v : World) → Worlds w v → Simulates (over stop w) (over stop v)
  by_end stop w v r = λ n k. same_run _ _ (ap (λ l. stops l stop) r.input)

  module _ (go go' : ℕ → World → Run Ran) (onward : (x : ℕ) (w v : World) → Worlds w v → Simulates (go x w) (go' x v)) where
    by_reading : (l : List ℕ) (w v : World) → w.input ≡ l → Worlds w v → Simulates (read_byte l w go) (read_byte l v go')
    by_reading [] w v e r = onward 4294967295 w v r
    by_reading (b ∷ rest) w v e r = onward b (record w { input = rest }) (record v { input = rest })
        (record { input = refl; memory = r.memory })

    by_heap : (room n : ℕ) (w v : World) → Worlds w v → Simulates (take_heap room n w go) (take_heap room n v go')
    by_heap room n w v r =
        subst (λ z. Simulates (take_heap room n w go) z) (λ i. at (sym r.memory.heap i))
        (by_test (nat_lt room (length w.memory.heap + n)) _ _ _ _ (by_end (Ended HeapFull) w v r)
        (onward (heap_base + length w.memory.heap) _ _
        (record {
          input = r.input;
          memory = record {
            statics = b.statics;
            heap = refl;
            other = b.other;
            closed =
                b.closed;
            kept = b.kept;
          };
        })))
      where
        b : Beside added cells w.memory v.memory
        b = r.memory

        at : List ℕ → Run Ran
        at l =
            if nat_lt room (length l + n) then over (Ended HeapFull) v else
            go' (heap_base + length l) (record v { memory = record v.memory { heap = l ++ replicate n 0 } })

    pub serves : (room asked u : ℕ) (w v : World) → Worlds w v → Simulates (service room asked u w go)
        (service room asked u v go')
    serves room asked u w v r =
        by_test (asked == 1) _ _ _ _ (by_writing (signed_decimal (signed u)) _ _ (onward asked w v r))
        (by_test (asked == 4) _ _ _ _ (by_text _ _ w v _ _ (λ bytes e. text_too
        (2 ^ 32) w.memory v.memory r.memory u bytes e) (onward asked w v r))
        (by_test (asked == 9) _ _ _ _ (by_heap room (whole_words u) w v r)
        (by_test (asked == 10) _ _ _ _ (by_end (Ended (Exit (pos 0))) w v r)
        (by_test (asked == 11) _ _ _ _ (by_writing (u % 256 ∷ []) _ _ (onward asked w v r))
        (by_test (asked == 12) _ _ _ _
        (subst (λ l. Simulates (read_byte w.input w go) (read_byte l v go')) (sym r.input) (by_reading w.input w v refl r))
        (by_test (asked == 17) _ _ _ _ (by_end (Ended (Exit (signed u))) w v r) (by_end (Ended
        (BadService asked)) w v r)))))))
