-- The blocks of a closed body may be laid: they lead to one another, and their loops are entered at their heads alone.
use Rattle.std.proofs.Common.{◌≡◌, ◌≤◌, ◌<◌, ℕ, suc, ◌+◌, ◌-◌, ◌⊎◌, inl, inr, List, [], ◌∷◌, ◌++◌, length, take, refl, ap, sym, ◌∙◌, subst, arith}
use Rattle.std.specs.Prelude.{Option, Some, None, reverse, slice_index}
use Rattle.std.proofs.Math.ListN.{get_or-eq_default}
use Rattle.std.proofs.lemmas.Bool.{cases_lt}
use Rattle.std.proofs.lemmas.List.{length-map, length-reverse, length-take, get_or-reverse, get_or-take, get_or-map}
use Rattle.tg_tree.specs.Tree.{Stms}
use Rattle.tg_tree.specs.Shapes.{AreClosed}
use Rattle.tg_trace_schedule.specs.Block.{BlockEnd, Jump, Branch, Fault, Return, Block}
use Rattle.tg_trace_schedule.specs.mirror.Laying.{no_block, block_at}
use Rattle.tg_trace_schedule.specs.laws.Heads.{LeadsTo, PassesBy, begins, goes_on, AreEnteredAtHeads}
use Rattle.tg_trace_schedule.specs.laws.Traced.{MayBeLaid}
use Rattle.tg_trace_schedule.specs.mirror.Cutting.{CutBlocks, leads, cut_all, start, entered_by, place_of, placed_end, placed, placed_all, blocks_of}
use Rattle.tg_trace_schedule.proofs.Wholes.{blocks_are_whole}
use Rattle.tg_trace_schedule.proofs.TracesNested.{outer, free, Known}
use Rattle.tg_trace_schedule.proofs.TracesLoops.{UsableIn, CutState, LeadsOf, laid_leads, one_laid, leads_there}
use Rattle.tg_trace_schedule.proofs.TracesEntered.{all_step}

-- Of blocks as they were laid: where they lead there are blocks, and each way back is one of a loop that is entered at its head.
pub record Loops (all : List Block) (place start : ℕ → ℕ) : Type 0 where
  pub within : (i m : ℕ) → i < length all → LeadsTo (block_at all i).end m → place m < length all
  pub closed :
      (i k j m : ℕ) → i < length all → LeadsTo (block_at all i).end k → j < length all → LeadsTo (block_at all j).end m → start m ≤ place k →
      place k < place m →
      (start m ≤ i) × (i ≤ place m)
  pub back : (i m : ℕ) → i < length all → LeadsTo (block_at all i).end m → i ≤ place m → start m ≤ i

-- an end by places, and by marks
led_by : (places : List ℕ) (last : ℕ) (e : BlockEnd) (r : ℕ) → LeadsTo (placed_end places last e) r → (m : ℕ) × LeadsTo e m × (r ≡ place_of places last m)
led_by places last (Jump m) r h = (m, refl, sym h)
led_by places last (Branch rel x y m k) r h = elim h [ inl e ↦ (m, inl refl, sym e) | inr e ↦ (k, inr refl, sym e) ]
led_by places last (Fault n) r h = absurd h
led_by places last (Return x) r h = absurd h

module _ (places : List ℕ) (all : List Block) where
  abbrev bs : List Block
  bs = placed_all places all

  count : length bs ≡ length all
  count = length-map (reverse all) (placed places (length all - 1)) ∙ length-reverse all

  nowhere : (p r : ℕ) → length all ≤ p → LeadsTo (block_at bs p).end r → ⊥
  nowhere p r h l = subst (λ (b : Block). LeadsTo b.end r) (get_or-eq_default bs no_block (omega (arith, h, count))) l

  at_place : (p : ℕ) → p < length all → block_at bs p ≡ placed places (length all - 1) (block_at all (length all - 1 - p))
  at_place p h =
      get_or-map (placed places (length all - 1)) (reverse all) p no_block no_block (omega (arith, h, length-reverse all)) ∙
      ap (placed places (length all - 1)) (get_or-reverse all p no_block h)

  -- where control goes from a place, by the marks of the block there
  from_place : (p r : ℕ) → LeadsTo (block_at bs p).end r → (p < length all) ×
      ((m : ℕ) × LeadsTo (block_at all (length all - 1 - p)).end m × (r ≡ place_of places (length all - 1) m))
  from_place p r l =
      elim (cases_lt p (length all)) [
        | inl lt ↦ (
          lt,
          led_by places (length all - 1) (block_at all (length all - 1 - p)).end r (subst (λ (b : Block). LeadsTo b.end r) (at_place p lt) l),
        )
        | inr ge ↦ absurd (nowhere p r ge l)
      ]

  module _ (start' : ℕ → ℕ) (loops : Loops all (λ m. slice_index places m) start') where
    -- no path comes into a loop but through its head
    stays_out :
        (head j m : ℕ) → j < length all → LeadsTo (block_at all j).end m → head ≡ place_of places (length all - 1) m → (from : ℕ) → from < head →
        (x : ℕ) → PassesBy bs head from x → head ≤ x → x + start' m ≤ length all - 1 → ⊥
    stays_out head j m lj l e from lt x (begins p n) le h = omega arith
    stays_out head j m lj l e from lt x (goes_on p q r path to n) le h =
        let f = from_place q r to in
        let k = f.1.0 in
        let own = loops.within j m lj l in
        let i : ℕ = length all - 1 - q in
        let iq : i < length all = omega (arith, f.0) in
        let there = loops.within i k iq f.1.1 in
        let below : slice_index places k < slice_index places m = omega (arith, f.1.2, e, own, there, le, n) in
        let c = loops.closed i k j m iq f.1.1 lj l (omega (arith, f.1.2, there, h)) below in
        stays_out head j m lj l e from lt q path (omega (arith, c.1, e, own, f.0)) (omega (arith, c.0, f.0))

    pub entered_at_heads : AreEnteredAtHeads bs
    entered_at_heads from p head l le lt path =
        let f = from_place p head l in
        let m = f.1.0 in
        let j : ℕ = length all - 1 - p in
        let jp : j < length all = omega (arith, f.0) in
        let own = loops.within j m jp f.1.1 in
        let b = loops.back j m jp f.1.1 (omega (arith, f.1.2, own, le, f.0)) in
        stays_out head j m jp f.1.1 f.1.2 from lt p path le (omega (arith, b, f.0))

-- nothing is known from outside of a body
abbrev Nothing : ℕ → Type 0
Nothing m = ⊥

module _ (c : CutBlocks) (starts : List ℕ) (state : CutState 0 0 Nothing starts c) where
  abbrev IsDrawn : ℕ → Type 0
  IsDrawn m = (m < length c.places) × (slice_index c.places m < length c.laid)

  known_drawn : (m : ℕ) → Known 0 0 Nothing (length c.laid) (length c.places) (λ k. slice_index c.places k) (λ k. slice_index starts k) m → IsDrawn m
  known_drawn m (inl k) = absurd k.1
  known_drawn m (inr k) = (k.1, (state.nested.stands m (omega arith) k.1).2)

  usable_drawn : (m : ℕ) → UsableIn 0 0 Nothing starts c m → IsDrawn m
  usable_drawn m (outer h o) = absurd o
  usable_drawn m (free h k f) = (k, (state.nested.stands m (omega arith) k).2)

  laid_drawn : (i m : ℕ) → i < length c.laid → LeadsOf c i m → IsDrawn m
  laid_drawn i m h l = known_drawn m (state.nested.known i m (omega arith) h l)

  -- a usable mark isn't inside a loop
  outside : (m h : ℕ) → UsableIn 0 0 Nothing starts c m → h < length c.places → slice_index starts h ≤ slice_index c.places m →
      slice_index c.places m < slice_index c.places h → ⊥
  outside m h (outer g o) hq a b = o
  outside m h (free g k f) hq a b = f h (omega arith) hq a b

  -- the open block is the first
  abbrev all_blocks : List Block
  all_blocks = c.laid ++ record { body = c.body; end = c.end } ∷ []

  one : suc (length c.laid) ≡ length all_blocks
  one = one_laid 0 0 Nothing starts c state

  abbrev From : (i m : ℕ) → Type 0
  From i m = ((i < length c.laid) × LeadsOf c i m) ⊎ ((i ≡ length c.laid) × LeadsTo c.end m)

  from_block : (i m : ℕ) → i < length all_blocks → LeadsTo (block_at all_blocks i).end m → From i m
  from_block i m h l = laid_leads 0 0 Nothing starts c state i m (omega (arith, h, one)) l

  from_drawn : (i m : ℕ) → From i m → IsDrawn m
  from_drawn i m (inl x) = laid_drawn i m x.0 x.1
  from_drawn i m (inr x) = usable_drawn m (state.end' m x.1)

  from_closed : (i k m : ℕ) → From i k → m < length c.places → slice_index starts m ≤ slice_index c.places k →
      slice_index c.places k < slice_index c.places m → (slice_index starts m ≤ i) × (i ≤ slice_index c.places m)
  from_closed i k m (inl x) mq a b = state.nested.closed i k m (omega arith) x.0 x.1 (omega arith) (omega arith) mq a b
  from_closed i k m (inr x) mq a b = absurd (outside k m (state.end' k x.1) mq a b)

  from_back : (i m : ℕ) → From i m → i ≤ slice_index c.places m → slice_index starts m ≤ i
  from_back i m (inl x) le = state.nested.back i m (omega arith) x.0 x.1 (omega arith) le
  from_back i m (inr x) le = let d = usable_drawn m (state.end' m x.1) in absurd (omega (arith, x.0, d.1, le))

  open_loops : Loops all_blocks (λ m. slice_index c.places m) (λ m. slice_index starts m)
  open_loops = record {
    within = λ i m h l. let d = from_drawn i m (from_block i m h l) in omega (arith, d.1, one);
    closed = λ i k j m h l g n a b. from_closed i k m (from_block i k h l) (from_drawn j m (from_block j m g n)).0 a b;
    back = λ i m h l le. from_back i m (from_block i m h l) le;
  }

  -- or the first is the one to which it leads
  module _ (mark : ℕ) (usable : UsableIn 0 0 Nothing starts c mark) where
    abbrev first : ℕ
    first = slice_index c.places mark

    abbrev some_blocks : List Block
    some_blocks = take (first + 1) c.laid

    so_many : length some_blocks ≡ first + 1
    so_many = let d = usable_drawn mark usable in omega (arith, length-take (first + 1) c.laid, d.1)

    in_laid : (i : ℕ) → i < length some_blocks → i < length c.laid
    in_laid i h = let d = usable_drawn mark usable in omega (arith, h, so_many, d.1)

    as_laid : (i m : ℕ) → i < length some_blocks → LeadsTo (block_at some_blocks i).end m → LeadsOf c i m
    as_laid i m h l = subst (λ (b : Block). LeadsTo b.end m) (get_or-take (first + 1) c.laid i no_block (omega (arith, h, so_many))) l

    no_further : (i m : ℕ) → i < length some_blocks → LeadsOf c i m → slice_index c.places m < length some_blocks
    no_further i m h l =
        elim (cases_lt (slice_index c.places m) (length some_blocks)) [
          | inl lt ↦ lt
          | inr ge ↦
              let d = laid_drawn i m (in_laid i h) l in
              let b = state.nested.back i m (omega arith) (in_laid i h) l (omega arith) (omega (arith, h, ge)) in
              absurd (outside mark m usable d.0 (omega (arith, b, h, so_many)) (omega (arith, ge, so_many)))
        ]

    first_loops : Loops some_blocks (λ m. slice_index c.places m) (λ m. slice_index starts m)
    first_loops = record {
      within = λ i m h l. no_further i m h (as_laid i m h l);
      closed = λ i k j m h l g n a b.
          state.nested.closed i k m (omega arith) (in_laid i h) (as_laid i k h l) (omega arith) (omega arith)
          (laid_drawn j m (in_laid j g) (as_laid j m g n)).0 a b;
      back = λ i m h l le. state.nested.back i m (omega arith) (in_laid i h) (as_laid i m h l) (omega arith) le;
    }

  either_entered : (o : Option ℕ) → leads c.body c.end ≡ o → AreEnteredAtHeads (placed_all c.places (entered_by o c))
  either_entered None e = entered_at_heads c.places all_blocks (λ m. slice_index starts m) open_loops
  either_entered (Some mark) e = entered_at_heads c.places (take (slice_index c.places mark + 1) c.laid) (λ m. slice_index starts m)
      (first_loops mark (state.end' mark (leads_there 0 0 Nothing c.body c.end mark e)))

start_state : CutState 0 0 Nothing [] start
start_state = record {
  count = refl;
  nested = record {
    laid = omega arith;
    drawn = omega arith;
    stands = λ m pm mq. absurd (omega (arith, mq));
    known = λ i m li ni l. absurd (omega (arith, ni));
    closed = λ i k m li ni l pk pm mq a b. absurd (omega (arith, ni));
    back = λ i m li ni l pm a. absurd (omega (arith, ni));
  };
  end' = λ m e. absurd e;
}

pub blocks_are_entered : (ss : Stms) → AreClosed ss → AreEnteredAtHeads (blocks_of ss)
blocks_are_entered ss closed =
    let s = all_step ss 0 0 Nothing [] [] start start_state (λ k h. absurd (omega (arith, h))) closed.breaks in
    let c = cut_all [] ss start in
    either_entered c s.starts' s.state (leads c.body c.end) refl

pub blocks_may_be_laid : (ss : Stms) → AreClosed ss → MayBeLaid (blocks_of ss)
blocks_may_be_laid ss closed = record { whole = blocks_are_whole ss closed; entered = blocks_are_entered ss closed }
