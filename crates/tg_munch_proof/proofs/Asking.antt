-- Services in worlds that are alike: they do the same in both, and what they give is a word.
use Rattle.std.proofs.Common.{◌≡◌, ◌≤◌, ◌<◌, ℕ, zero, suc, ◌+◌, ◌%◌, ◌^◌, List, [], ◌∷◌, ◌++◌, length, replicate, Bool}
use Rattle.std.proofs.Common.{true, false, Option, Some, None, refl, sym, ap, ◌∙◌, subst, arith}
use Rattle.std.proofs.lemmas.Bool.Decides.{nat_tests}
use Rattle.std.proofs.lemmas.List.{length-append, length-replicate}
use Rattle.std.proofs.lemmas.List.Elements.{All-append, All-replicate}
use Rattle.std.specs.Prelude.{◌==◌, nat_lt, pos, if◌then◌else◌}
use Rattle.std.specs.Fmt.{signed_decimal}
use Rattle.tg_machine_state.specs.declared.ends.RunEnd.{RunEnd}
use Rattle.tg_machine_state.specs.declared.ends.RunEnd.TheVariants.{Exit, HeapFull, BadService}
use Rattle.tg_machine_state.specs.State.{heap_base, stack_top}
use Rattle.tg_base.specs.Words.{signed}
use Rattle.tg_machine_state.specs.Services.{whole_words}
use Rattle.tg_simulation.specs.Runs.{Run}
use Rattle.tg_simulation.specs.Ran.{Ran, Ended, Wrong, stops}
use Rattle.tg_simulation.specs.laws.Simulating.{Simulates}
use Rattle.tg_simulation.proofs.Simulations.{simulates_stopping, simulates_writing, simulates_wrong}
use Rattle.tg_tree.specs.Memory.{Memory, Cell, load_byte}
use Rattle.tg_tree.specs.Actions.{World, over, before, text_from, with_text, take_heap, read_byte, service}
use Rattle.tg_tree.specs.Holding.{WorldHoldsAtLeast, in_stack}
use Rattle.tg_munch_proof.specs.Words.{IsWord}
use Rattle.tg_munch_proof.specs.glue.Outlines.{Outline, Alike}

abbrev world : (statics heap input : List ℕ) → (ℕ → Cell) → World
world statics heap input cells =
    record { memory = record { statics = statics; heap = heap; stack = cells }; input = input }

none_is : {A : Type 0} (a : A) → None ≡ Some a → ⊥
none_is a e = cc

pub same_input : (w x : World) → WorldHoldsAtLeast w x → w.input ≡ x.input
same_input w x (in_stack statics heap input cells cells' more) = refl

pub ends_alike : (a r n : ℕ) (w x : World) (end : RunEnd) → WorldHoldsAtLeast w x →
    Simulates a r n (over (Ended end) w) (over (Ended end) x)
ends_alike a r n w x end holds =
    subst (λ input. Simulates a r n (over (Ended end) w) (λ j. stops input (Ended end))) (same_input w x holds)
    (simulates_stopping a r n w.input (Ended end))

-- a text of flat code is one of its instructions
module _ (m q : Memory) (seen : (a v : ℕ) → load_byte m a ≡ Some v → load_byte q a ≡ Some v) where
  abbrev text_step : Option ℕ → Option (List ℕ) → Option (List ℕ)
  text_step o rest =
      elim o as (λ _. Option (List ℕ)) [
        | Some b ↦ elim (b == 0) as (λ _. Option (List ℕ)) [ true ↦ Some [] | false ↦ before b rest ]
        | None ↦ None
      ]

  before_seen : (b : ℕ) (o p : Option (List ℕ)) (bytes : List ℕ) →
      ((bs : List ℕ) → o ≡ Some bs → p ≡ Some bs) → before b o ≡ Some bytes → before b p ≡ Some bytes
  before_seen b (Some bs) p bytes h e = ap (before b) (h bs refl) ∙ e
  before_seen b None p bytes h e = absurd (none_is bytes e)

  step_seen : (o p : Option ℕ) (r s : Option (List ℕ)) (bytes : List ℕ) → ((v : ℕ) → o ≡ Some v → p ≡ Some v) →
      ((bs : List ℕ) → r ≡ Some bs → s ≡ Some bs) → text_step o r ≡ Some bytes → text_step p s ≡ Some bytes
  step_seen (Some b) p r s bytes h k e = ap (λ i. text_step i s) (h b refl) ∙ by (b == 0) e
    where
      by : (z : Bool) → (elim z as (λ _. Option (List ℕ)) [ true ↦ Some [] | false ↦ before b r ]) ≡ Some bytes →
          (elim z as (λ _. Option (List ℕ)) [ true ↦ Some [] | false ↦ before b s ]) ≡ Some bytes
      by true q = q
      by false q = before_seen b r s bytes k q
  step_seen None p r s bytes h k e = absurd (none_is bytes e)

  pub text_seen : (k a : ℕ) (bytes : List ℕ) → text_from k m a ≡ Some bytes → text_from k q a ≡ Some bytes
  text_seen zero a bytes e = absurd (none_is bytes e)
  text_seen (suc k) a bytes e =
      step_seen (load_byte m a) (load_byte q a) (text_from k m (a + 1)) (text_from k q (a + 1)) bytes
      (λ v h. seen a v h) (λ bs h. text_seen k (a + 1) bs h) e

module _ (statics room : ℕ) (o : Outline) (fits : heap_base + room ≤ stack_top) (a r n : ℕ) (go go' : ℕ → World → Run Ran)
    (next : (v : ℕ) (w x : World) → IsWord v → Alike statics room o w x → Simulates a r n (go v w) (go' v x)) where
  either : (b : Bool) (c d c' d' : Run Ran) → Simulates a r n c c' → Simulates a r n d d' →
      Simulates a r n (if b then c else d) (if b then c' else d')
  either true c d c' d' h k = h
  either false c d c' d' h k = k

  texts : (k asked u : ℕ) (w x : World) → IsWord asked → Alike statics room o w x →
      ((i v : ℕ) → load_byte w.memory i ≡ Some v → load_byte x.memory i ≡ Some v) →
      Simulates a r n (with_text (text_from k w.memory u) w (go asked w)) (with_text (text_from k x.memory u) x (go' asked x))
  texts k asked u w x small h seen = by (text_from k w.memory u) refl
    where
      by : (t : Option (List ℕ)) → text_from k w.memory u ≡ t →
          Simulates a r n (with_text t w (go asked w)) (with_text (text_from k x.memory u) x (go' asked x))
      by (Some bytes) e =
          subst (λ t. Simulates a r n (with_text (Some bytes) w (go asked w)) (with_text t x (go' asked x)))
          (sym (text_seen w.memory x.memory seen k u bytes e))
          (simulates_writing a r n bytes (go asked w) (go' asked x) (next asked w x small h))
      by None e = simulates_wrong a r n (over Wrong w) _ (λ i. refl)

  takes : (k : ℕ) (w x : World) → WorldHoldsAtLeast w x → Alike statics room o w x →
      Simulates a r n (take_heap room k w go) (take_heap room k x go')
  takes k w x (in_stack st heap input cells cells' more) h =
      by (nat_lt room (length heap + k)) refl
    where
      not_above : nat_lt room (length heap + k) ≡ false → length heap + k ≤ room
      not_above e = grind (arith, nat_tests)

      long : length (heap ++ replicate k 0) ≡ length heap + k
      long = length-append heap (replicate k 0) ∙ ap (λ j. length heap + j) (length-replicate k 0)

      by : (b : Bool) → nat_lt room (length heap + k) ≡ b →
          Simulates a r n
          (if b then over (Ended HeapFull) (world st heap input cells) else
          go (heap_base + length heap) (world st (heap ++ replicate k 0) input cells))
          (if b then over (Ended HeapFull) (world st heap input cells') else
          go' (heap_base + length heap) (world st (heap ++ replicate k 0) input cells'))
      by true e = ends_alike a r n _ _ HeapFull (in_stack st heap input cells cells' more)
      by false e =
          let le = not_above e in
          next (heap_base + length heap) _ _ (omega (arith, le, fits))
          (record {
            holds = in_stack st (heap ++ replicate k 0) input cells cells' more;
            closed = h.closed;
            shut = h.shut;
            for_arguments = h.for_arguments;
            words = record {
              statics = h.words.statics;
              heap = All-append (λ b. b < 256) heap (replicate k 0) h.words.heap
                  (All-replicate (λ b. b < 256) k 0 (omega arith));
              stack = h.words.stack;
            };
            input = h.input;
            statics = h.statics;
            heap = omega (arith, long, le);
          })

  reads : (w x : World) → WorldHoldsAtLeast w x → Alike statics room o w x →
      Simulates a r n (read_byte w.input w go) (read_byte x.input x go')
  reads w x (in_stack st heap [] cells cells' more) h =
      next 4294967295 _ _ (omega arith) h
  reads w x (in_stack st heap (b ∷ rest) cells cells' more) h =
      next b _ _ (let lt = h.input 0 0 (omega arith) in omega (arith, lt))
      (record {
        holds = in_stack st heap rest cells cells' more;
        closed = h.closed;
        shut = h.shut;
        for_arguments = h.for_arguments;
        words = h.words;
        input = λ k d lt. h.input (suc k) d (omega (arith, lt));
        statics = h.statics;
        heap = h.heap;
      })

  pub service_simulates : (asked u : ℕ) (w x : World) → IsWord asked → Alike statics room o w x →
      ((i v : ℕ) → load_byte w.memory i ≡ Some v → load_byte x.memory i ≡ Some v) →
      Simulates a r n (service room asked u w go) (service room asked u x go')
  service_simulates asked u w x small h seen =
      either (asked == 1) _ _ _ _
      (simulates_writing a r n (signed_decimal (signed u)) (go asked w) (go' asked x) (next asked w x small h))
      (either (asked == 4) _ _ _ _ (texts (2 ^ 32) asked u w x small h seen)
      (either (asked == 9) _ _ _ _ (takes (whole_words u) w x h.holds h)
      (either (asked == 10) _ _ _ _ (ends_alike a r n w x (Exit (pos 0)) h.holds)
      (either (asked == 11) _ _ _ _
      (simulates_writing a r n (u % 256 ∷ []) (go asked w) (go' asked x) (next asked w x small h))
      (either (asked == 12) _ _ _ _ (reads w x h.holds h)
      (either (asked == 17) _ _ _ _ (ends_alike a r n w x (Exit (signed u)) h.holds)
      (ends_alike a r n w x (BadService asked) h.holds)))))))
