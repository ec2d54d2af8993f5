-- Passes compose, and what agrees with a program goes on to agree.
use Rattle.std.proofs.Common.{◌≡◌, ◌≢◌, ℕ, ◌+◌, ◌*◌, ◌<◌, ◌≤◌, ◌⊎◌, inl, inr, refl, sym, ap, ◌∙◌, arith, subst}
use Rattle.std.proofs.Math.Nat.{mul-add, mul-le-mul_left, mul_assoc}
use Rattle.tg_machine_state.specs.declared.ends.RunEnd.{RunEnd}
use Rattle.tg_machine_state.specs.declared.ends.RunEnd.TheVariants.{StackFull}
use Rattle.tg_simulation.specs.Runs.{Run}
use Rattle.tg_simulation.specs.Ran.{Ran, Stop, Ended, WantsFuel, Wrong, IsOver, StaysOver}
use Rattle.tg_simulation.specs.Preserving.{DoesTheSame, Preserves}
use Rattle.tg_simulation.specs.Outcomes.{End, ended, out_of_fuel, stuck}
use Rattle.tg_simulation.specs.Bytes.{IsPrefix, least_frame}
use Rattle.tg_simulation.specs.Agreement.{Source, Fits, Matches, same, cut, unsaid, Follows, IsCut, IsSame, Ends, Agrees, FillsStack}
use Rattle.tg_simulation.specs.laws.Laws.{NeverEndsFull, NeverStuck}

spread : (k a b x : ℕ) → k * (a * x + b) ≡ k * a * x + k * b
spread k a b x = mul-add k (a * x) b ∙ ap (λ y. y + k * b) (sym (mul_assoc k a x))

grown : (k l a b x y z : ℕ) → y ≤ a * x + b → z ≤ k * y + l → z ≤ k * a * x + (k * b + l)
grown k l a b x y z le lz = let h = mul-le-mul_left k le in let e = spread k a b x in omega arith

pub passes_compose : (a b k l : ℕ) (c d e : Run Ran) → Preserves a b c d → Preserves k l d e → Preserves (k * a) (k * b + l) c e
passes_compose a b k l c d e f g =
    record {
      there = λ n s.
          let x = f.there n s in
          let y = g.there x.0 (λ w. s (sym x.2.stop ∙ w)) in (
            y.0,
            omega (arith, x.1, y.1),
            record {
              output = y.2.output ∙ x.2.output;
              input = y.2.input ∙ x.2.input;
              stop = y.2.stop ∙ x.2.stop;
              work = grown k l a b (c n).work (d x.0).work (e y.0).work x.2.work y.2.work;
            },
          );
    }

-- what a match says of code that has stopped so
module _ (stack a b : ℕ) where
  fits_end : (o : Source) (p : Ran) (e : RunEnd) → p.stop ≡ Ended e → Fits (o.end) p.stop → o.end ≡ ended e
  fits_end o p e s f = by (o.end) (subst (λ q. Fits (o.end) q) s f)
    where
      by : (m : End RunEnd) → Fits m (Ended e) → m ≡ ended e
      by (ended g) f = ap ended (sym f)
      by out_of_fuel f = absurd f
      by stuck f = absurd f

  met_end : (o : Source) (p : Ran) (e : RunEnd) → o.end ≢ stuck → p.stop ≡ Ended e → e ≢ StackFull → Matches stack a b o p → Ends o p e
  met_end o p e n s l (same w i f q k) = record { meets = fits_end o p e s f; output = w; input = i }
  met_end o p e n s l (cut past w f g h k) = absurd (l (end_is (sym s ∙ h)))
    where
      end_is : {x y : RunEnd} → Ended x ≡ Ended y → x ≡ y
      end_is e = cc
  met_end o p e n s l (unsaid h) = absurd (n h)

  met_full : (o : Source) (p : Ran) → o.end ≢ ended StackFull → o.end ≢ stuck → p.stop ≡ Ended StackFull → Matches stack a b o p → IsCut a b o p
  met_full o p never n s (same w i f q k) = absurd (never (fits_end o p StackFull s f))
  met_full o p never n s (cut past w f g h k) = record { full = h; past = (past, w, f); front = g; work = k }
  met_full o p never n s (unsaid h) = absurd (n h)

  met_wrong : (o : Source) (p : Ran) → o.end ≢ stuck → p.stop ≡ Wrong → Matches stack a b o p → ⊥
  met_wrong o p n s (same w i f q k) = by (o.end) (subst (λ q. Fits (o.end) q) s f)
    where
      by : (m : End RunEnd) → Fits m Wrong → ⊥
      by (ended g) f = f
      by out_of_fuel f = f
      by stuck f = f
  met_wrong o p n s (cut past w f g h k) = by (sym s ∙ h)
    where
      by : Wrong ≡ Ended StackFull → ⊥
      by e = cc
  met_wrong o p n s (unsaid h) = n h

  ended_so : (o : Source) (p : Ran) (e : RunEnd) → o.end ≢ stuck → o.end ≡ ended e → Matches stack a b o p → IsSame a b o p (Ended e) ⊎ IsCut a b o p
  ended_so o p e n m (same w i f q k) = inl (record { stops = by p.stop (subst (λ q. Fits q p.stop) m f); output = w; input = i; work = k })
    where
      by : (q : Stop) → Fits (ended e) q → q ≡ Ended e
      by (Ended g) f = ap Ended f
      by WantsFuel f = absurd f
      by Wrong f = absurd f
  ended_so o p e n m (cut past w f g h k) = inr (record { full = h; past = (past, w, f); front = g; work = k })
  ended_so o p e n m (unsaid h) = absurd (n h)

  wants_so : (o : Source) (p : Ran) → o.end ≢ stuck → o.end ≡ out_of_fuel → Matches stack a b o p → IsSame a b o p WantsFuel ⊎ IsCut a b o p
  wants_so o p n m (same w i f q k) = inl (record { stops = by p.stop (subst (λ q. Fits q p.stop) m f); output = w; input = i; work = k })
    where
      by : (q : Stop) → Fits out_of_fuel q → q ≡ WantsFuel
      by (Ended g) f = absurd f
      by WantsFuel f = refl
      by Wrong f = absurd f
  wants_so o p n m (cut past w f g h k) = inr (record { full = h; past = (past, w, f); front = g; work = k })
  wants_so o p n m (unsaid h) = absurd (n h)

  full_so : (o : Source) (p : Ran) → o.end ≢ stuck → stack < least_frame * o.deepest → Matches stack a b o p → p.stop ≡ Ended StackFull
  full_so o p n lt (same w i f q k) = absurd (omega arith)
  full_so o p n lt (cut past w f g h k) = h
  full_so o p n lt (unsaid h) = absurd (n h)

  pub following_fills : (c : Run Source) (d : Run Ran) → NeverStuck c → ((n : ℕ) → Follows stack a b n c d) → FillsStack stack c d
  following_fills c d unstuck h = record { fills = λ n lt. let x = h n n (omega arith) in (x.0, full_so (c n) (d x.0) (unstuck n) lt x.2) }

  module _ (c : Run Source) (d : Run Ran) (never : NeverEndsFull c) (unstuck : NeverStuck c) (stays : StaysOver d) (h : (n : ℕ) → Follows stack a b n c d) where
    -- the program's run with as much fuel as code that is over
    over_match : (m : ℕ) → IsOver (d m).stop → Matches stack a b (c m) (d m)
    over_match m o = let x = h m m (omega arith) in subst (λ p. Matches stack a b (c m) p) (stays m x.0 x.1 o) x.2

    over_when : (m : ℕ) (stop : Stop) → (d m).stop ≡ stop → IsOver stop → Matches stack a b (c m) (d m)
    over_when m stop s o = over_match m (subst IsOver (sym s) o)

    pub following_agrees : Agrees a b c d
    following_agrees =
        record {
          ends = λ n e m. let x = h n n (omega arith) in (x.0, ended_so (c n) (d x.0) e (unstuck n) m x.2);
          goes_on = λ n m. let x = h n n (omega arith) in (x.0, x.1, wants_so (c n) (d x.0) (unstuck n) m x.2);
          ends_only = λ m e s l. met_end (c m) (d m) e (unstuck m) s l (over_when m (Ended e) s tt);
          full_only = λ m s. met_full (c m) (d m) (never m) (unstuck m) s (over_when m (Ended StackFull) s tt);
          never_wrong = λ m s. met_wrong (c m) (d m) (unstuck m) s (over_when m Wrong s tt);
        }

-- a pass after it
module _ (a b k l : ℕ) (c : Run Source) (d e : Run Ran) (agrees : Agrees a b c d) (keeps : Preserves k l d e) (stays : StaysOver e) where
  after_cut : (o : Source) (p q : Ran) → DoesTheSame k l p q → IsCut a b o p → IsCut (k * a) (k * b + l) o q
  after_cut o p q s h =
      record {
        full = s.stop ∙ h.full;
        past = (h.past.0, h.past.1, subst (IsPrefix h.past.0) (sym s.output) h.past.2);
        front = subst (λ x. IsPrefix x o.output) (sym s.output) h.front;
        work = grown k l a b o.cost p.work q.work h.work s.work;
      }

  after_same : (o : Source) (p q : Ran) (stop : Stop) → DoesTheSame k l p q → IsSame a b o p stop → IsSame (k * a) (k * b + l) o q stop
  after_same o p q stop s h =
      record {
        stops = s.stop ∙ h.stops;
        output = s.output ∙ h.output;
        input = s.input ∙ h.input;
        work = grown k l a b o.cost p.work q.work h.work s.work;
      }

  after_both : (n m : ℕ) (stop : Stop) → IsSame a b (c n) (d m) stop ⊎ IsCut a b (c n) (d m) →
      (j : ℕ) × (m ≤ j) × (IsSame (k * a) (k * b + l) (c n) (e j) stop ⊎ IsCut (k * a) (k * b + l) (c n) (e j))
  after_both n m stop h = let x = keeps.there m (agrees.never_wrong m) in (x.0, x.1, by x.0 x.2 h)
    where
      by : (j : ℕ) → DoesTheSame k l (d m) (e j) → IsSame a b (c n) (d m) stop ⊎ IsCut a b (c n) (d m) →
          IsSame (k * a) (k * b + l) (c n) (e j) stop ⊎ IsCut (k * a) (k * b + l) (c n) (e j)
      by j s (inl g) = inl (after_same (c n) (d m) (e j) stop s g)
      by j s (inr g) = inr (after_cut (c n) (d m) (e j) s g)

  -- what is over after the pass does what was before it
  over_same : (m : ℕ) (stop : Stop) → (e m).stop ≡ stop → IsOver stop → DoesTheSame k l (d m) (e m)
  over_same m stop s o =
      let x = keeps.there m (agrees.never_wrong m) in
      subst (λ q. DoesTheSame k l (d m) q) (stays m x.0 x.1 (subst IsOver (sym s) o)) x.2

  pub agreement_goes_on : Agrees (k * a) (k * b + l) c e
  agreement_goes_on =
      record {
        ends = λ n f m. let h = agrees.ends n f m in let x = after_both n h.0 (Ended f) h.1 in (x.0, x.2);
        goes_on = λ n m. let h = agrees.goes_on n m in let x = after_both n h.0 WantsFuel h.2 in (x.0, omega (arith, h.1, x.1), x.2);
        ends_only = λ m f s n.
            let g = over_same m (Ended f) s tt in
            let h = agrees.ends_only m f (sym g.stop ∙ s) n in
            record { meets = h.meets; output = g.output ∙ h.output; input = g.input ∙ h.input };
        full_only = λ m s.
            let g = over_same m (Ended StackFull) s tt in
            after_cut (c m) (d m) (e m) g (agrees.full_only m (sym g.stop ∙ s));
        never_wrong = λ m s. let g = over_same m Wrong s tt in agrees.never_wrong m (sym g.stop ∙ s);
      }

pub full_stack_goes_on : (stack k l : ℕ) (c : Run Source) (d e : Run Ran) → FillsStack stack c d → Preserves k l d e → FillsStack stack c e
full_stack_goes_on stack k l c d e h keeps =
    record {
      fills = λ n lt.
          let x = h.fills n lt in
          let y = keeps.there x.0 (λ w. not_wrong (sym x.1 ∙ w)) in
          (y.0, y.2.stop ∙ x.1);
    }
  where
    not_wrong : Ended StackFull ≡ Wrong → ⊥
    not_wrong e = cc
