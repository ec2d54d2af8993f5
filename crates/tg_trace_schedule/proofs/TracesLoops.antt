-- As statements are cut, loops are nested, and each mark that control may still go to is usable.
use Rattle.std.proofs.Common.{◌≡◌, ◌≤◌, ◌<◌, ℕ, zero, suc, ◌⊎◌, inl, inr, List, [], ◌∷◌, ◌++◌, length, refl, ap, sym, ◌∙◌, subst, arith, length-append}
use Rattle.std.specs.Prelude.{Option, Some, None, slice_get, slice_set, slice_index, slice_index_or}
use Rattle.std.proofs.Math.ListN.{length-set}
use Rattle.std.proofs.lemmas.Bool.{cases_lt}
use Rattle.std.proofs.lemmas.Option.{get_or_from_slice_get}
use Rattle.tg_tree.specs.Tree.{Ts, Stms, no_stms, stm}
use Rattle.tg_trace_schedule.specs.Block.{BlockEnd, Jump, Branch, Fault, Return, Block}
use Rattle.tg_trace_schedule.specs.mirror.Laying.{no_block, block_at}
use Rattle.tg_trace_schedule.specs.laws.Heads.{LeadsTo}
use Rattle.tg_trace_schedule.specs.mirror.Cutting.{CutBlocks, open_at, in_front, draw, lay, leads, mark_by, seal_by, head}
use Rattle.tg_trace_schedule.proofs.BlocksKept.{get_front, get_seam, set_own, set_other, Keeps, keeps_itself, keeps_on, opened_keeps, front_keeps, draw_keeps}
use Rattle.tg_trace_schedule.proofs.BlocksKept.{seal_by_keeps, head_keeps}
use Rattle.tg_trace_schedule.proofs.TracesNested.{Usable, outer, free, Nested, usable_on, one_more, lay_nested, lay_usable, loop_nested, head_usable}
use Rattle.tg_trace_schedule.proofs.TracesNested.{starts_since}

-- what is at a place of two lists
pub same_index : {A : Type 0} (xs ys : List A) (i : ℕ) (d : A) → slice_get xs i ≡ slice_get ys i → slice_index_or xs i d ≡ slice_index_or ys i d
same_index [] [] i d e = refl
same_index [] (y ∷ ys) zero d e = cc
same_index [] (y ∷ ys) (suc i) d e = same_index [] ys i d e
same_index (x ∷ xs) [] zero d e = cc
same_index (x ∷ xs) [] (suc i) d e = same_index xs [] i d e
same_index (x ∷ xs) (y ∷ ys) zero d e = cc
same_index (x ∷ xs) (y ∷ ys) (suc i) d e = same_index xs ys i d e

abbrev pub LeadsOf : CutBlocks → ℕ → ℕ → Type 0
LeadsOf c i m = LeadsTo (block_at c.laid i).end m

same_leads : (c d : CutBlocks) (i m : ℕ) → slice_get d.laid i ≡ slice_get c.laid i → LeadsOf d i m → LeadsOf c i m
same_leads c d i m e l = subst (λ (b : Block). LeadsTo b.end m) (same_index d.laid c.laid i no_block e) l

module _ (L P : ℕ) (Out : ℕ → Type 0) where
  abbrev pub UsableIn : (starts : List ℕ) (c : CutBlocks) (m : ℕ) → Type 0
  UsableIn starts c m = Usable L P Out (length c.laid) (length c.places) (λ k. slice_index c.places k) (λ k. slice_index starts k) m

  abbrev NestedIn : (starts : List ℕ) (c : CutBlocks) → Type 0
  NestedIn starts c = Nested L P Out (length c.laid) (length c.places) (λ k. slice_index c.places k) (λ k. slice_index starts k) (LeadsOf c)

  -- with the starts of the marks that are drawn
  pub record CutState (starts : List ℕ) (c : CutBlocks) : Type 0 where
    pub count : length starts ≡ length c.places
    pub nested : NestedIn starts c
    pub end' : (m : ℕ) → LeadsTo c.end m → UsableIn starts c m

  -- from one cut to another
  pub record Step (starts : List ℕ) (c d : CutBlocks) : Type 0 where
    pub starts' : List ℕ
    pub state : CutState starts' d
    pub keeps : Keeps c d
    pub same_start : (m : ℕ) → m < length c.places → slice_get starts' m ≡ slice_get starts m
    pub new_start : (h : ℕ) → length c.places ≤ h → h < length d.places → length c.laid ≤ slice_index starts' h

  pub step_usable : (starts : List ℕ) (c d : CutBlocks) → CutState starts c → (s : Step starts c d) → (m : ℕ) → UsableIn starts c m → UsableIn s.starts' d m
  step_usable starts c d state s =
      usable_on L P Out (length c.laid) (length c.places) _ _ (LeadsOf c) state.nested (length d.laid) (length d.places) _ _ s.keeps.drawn
      (λ m h. same_index d.places c.places m 0 (s.keeps.marks m h)) (λ m h. same_index s.starts' starts m 0 (s.same_start m h)) s.new_start

  abbrev pub step_on : (starts : List ℕ) (c d e : CutBlocks) → (s : Step starts c d) → Step s.starts' d e → Step starts c e
  step_on starts c d e s t = record {
    starts' = t.starts';
    state = t.state;
    keeps = keeps_on c d e s.keeps t.keeps;
    same_start = λ m h. t.same_start m (omega (arith, h, s.keeps.drawn)) ∙ s.same_start m h;
    new_start = λ h le lt. later h le lt (cases_lt h (length d.places));
  }
    where
      later : (h : ℕ) → length c.places ≤ h → h < length e.places → (h < length d.places) ⊎ (length d.places ≤ h) → length c.laid ≤ slice_index t.starts' h
      later h le lt (inl k) =
          let same = same_index t.starts' s.starts' h 0 (t.same_start h k) in
          let n = s.new_start h le k in
          omega (arith, same, n)
      later h le lt (inr k) = let n = t.new_start h k lt in omega (arith, n, s.keeps.laid)

  abbrev pub stays : (starts : List ℕ) (c : CutBlocks) → CutState starts c → Step starts c c
  stays starts c state = record {
    starts' = starts;
    state = state;
    keeps = keeps_itself c;
    same_start = λ m h. refl;
    new_start = λ h le lt. absurd (omega arith);
  }

  abbrev pub opens : (starts : List ℕ) (e : BlockEnd) (c : CutBlocks) → CutState starts c → ((m : ℕ) → LeadsTo e m → UsableIn starts c m) → Step starts c (open_at e c)
  opens starts e c state h = record {
    starts' = starts;
    state = record { count = state.count; nested = state.nested; end' = h };
    keeps = opened_keeps e c c (keeps_itself c);
    same_start = λ m h. refl;
    new_start = λ h le lt. absurd (omega arith);
  }

  abbrev pub fronts : (starts : List ℕ) (s : Ts) (c : CutBlocks) → CutState starts c → Step starts c (in_front s c)
  fronts starts s c state = record {
    starts' = starts;
    state = record { count = state.count; nested = state.nested; end' = state.end' };
    keeps = front_keeps s c;
    same_start = λ m h. refl;
    new_start = λ h le lt. absurd (omega arith);
  }

  -- What comes next has a mark that is usable.
  pub record Sealed (starts : List ℕ) (c d : CutBlocks) (mark : ℕ) : Type 0 where
    pub step : Step starts c d
    pub usable : UsableIn step.starts' d mark

  pub leads_there : (body : Stms) (e : BlockEnd) (mark : ℕ) → leads body e ≡ Some mark → LeadsTo e mark
  leads_there no_stms (Jump m) mark h = cc
  leads_there no_stms (Branch rel x y m k) mark h = cc
  leads_there no_stms (Fault n) mark h = cc
  leads_there no_stms (Return x) mark h = cc
  leads_there (stm s ss) e mark h = cc

  -- the same numbers of blocks and of marks
  pub usable_of : (n n' q q' : ℕ) (place start : ℕ → ℕ) (m : ℕ) → n ≡ n' → q ≡ q' → Usable L P Out n q place start m → Usable L P Out n' q' place start m
  usable_of n n' q q' place start m e f u = subst (λ k. Usable L P Out k q' place start m) e (subst (λ k. Usable L P Out n k place start m) f u)

  pub nested_of : (n n' q q' : ℕ) (place start : ℕ → ℕ) (Leads : ℕ → ℕ → Type 0) → n ≡ n' → q ≡ q' → Nested L P Out n q place start Leads →
      Nested L P Out n' q' place start Leads
  nested_of n n' q q' place start Leads e f h = subst (λ k. Nested L P Out k q' place start Leads) e (subst (λ k. Nested L P Out n k place start Leads) f h)

  -- The open block is laid, and its mark drawn.
  module _ (starts : List ℕ) (c : CutBlocks) (state : CutState starts c) where
    abbrev pub laid_cut : CutBlocks
    laid_cut = lay (length c.places) (draw (length c.laid) c)

    abbrev its_block : Block
    its_block = record { body = c.body; end = c.end }

    abbrev more_starts : List ℕ
    more_starts = starts ++ length c.laid ∷ []

    pub one_laid : suc (length c.laid) ≡ length laid_cut.laid
    one_laid = omega (arith, length-append c.laid (its_block ∷ []))

    one_drawn : suc (length c.places) ≡ length laid_cut.places
    one_drawn = omega (arith, length-append c.places (length c.laid ∷ []))

    pub laid_leads : (i m : ℕ) → i < suc (length c.laid) → LeadsOf laid_cut i m → ((i < length c.laid) × LeadsOf c i m) ⊎
        ((i ≡ length c.laid) × LeadsTo c.end m)
    laid_leads i m h l =
        elim (one_more i (length c.laid) h) [
          | inl lt ↦ inl (lt, same_leads c laid_cut i m (get_front c.laid (its_block ∷ []) i lt) l)
          | inr e ↦
              inr (
                e,
                subst (λ (b : Block). LeadsTo b.end m) (get_or_from_slice_get laid_cut.laid i its_block no_block
                    (ap (slice_get laid_cut.laid) e ∙ get_seam c.laid its_block)) l,
              )
        ]

    starts_keep : (m : ℕ) → m < length c.places → slice_get more_starts m ≡ slice_get starts m
    starts_keep m h = get_front starts (length c.laid ∷ []) m (omega (arith, h, state.count))

    start_of_it : slice_index more_starts (length c.places) ≡ length c.laid
    start_of_it = get_or_from_slice_get more_starts (length c.places) (length c.laid) 0
        (ap (slice_get more_starts) (sym state.count) ∙ get_seam starts (length c.laid))

    place_of_it : slice_index laid_cut.places (length c.places) ≡ length c.laid
    place_of_it = get_or_from_slice_get laid_cut.places (length c.places) (length c.laid) 0 (get_seam c.places (length c.laid))

    old_place : (m : ℕ) → m < length c.places → slice_index laid_cut.places m ≡ slice_index c.places m
    old_place m h = same_index laid_cut.places c.places m 0 (get_front c.places (length c.laid ∷ []) m h)

    old_start : (m : ℕ) → m < length c.places → slice_index more_starts m ≡ slice_index starts m
    old_start m h = same_index more_starts starts m 0 (starts_keep m h)

    laid_usable : UsableIn more_starts laid_cut (length c.places)
    laid_usable =
        usable_of (suc (length c.laid)) (length laid_cut.laid) (suc (length c.places)) (length laid_cut.places)
        (λ k. slice_index laid_cut.places k) (λ k. slice_index more_starts k) (length c.places) one_laid one_drawn
        (lay_usable L P Out (length c.laid) (length c.places) _ _ (LeadsOf c) state.nested (LeadsTo c.end) state.end' _ _
        (LeadsOf laid_cut) old_place old_start place_of_it start_of_it laid_leads)

    laid_nested : NestedIn more_starts laid_cut
    laid_nested =
        nested_of (suc (length c.laid)) (length laid_cut.laid) (suc (length c.places)) (length laid_cut.places)
        (λ k. slice_index laid_cut.places k) (λ k. slice_index more_starts k) (LeadsOf laid_cut) one_laid one_drawn
        (lay_nested L P Out (length c.laid) (length c.places) _ _ (LeadsOf c) state.nested (LeadsTo c.end) state.end' _ _
        (LeadsOf laid_cut) old_place old_start place_of_it start_of_it laid_leads)

    lays : Sealed starts c laid_cut (length c.places)
    lays = record {
      step = record {
        starts' = more_starts;
        state = record {
          count = omega (arith, length-append starts (length c.laid ∷ []), one_drawn, state.count);
          nested = laid_nested;
          end' = λ m e. subst (UsableIn more_starts laid_cut) e laid_usable;
        };
        keeps = seal_by_keeps None c;
        same_start = starts_keep;
        new_start = λ h le lt.
            let e : h ≡ length c.places = omega (arith, le, lt, one_drawn) in
            let s = ap (slice_index more_starts) e in
            omega (arith, s, start_of_it);
      };
      usable = laid_usable;
    }

    pub seals : (o : Option ℕ) → leads c.body c.end ≡ o → Sealed starts c (seal_by o c) (mark_by o c)
    seals (Some mark) e = record { step = stays starts c state; usable = state.end' mark (leads_there c.body c.end mark e) }
    seals None e = lays

-- A loop's turn begins with the mark of its head, and what was usable is known from outside.
module _ (L P : ℕ) (Out : ℕ → Type 0) (starts : List ℕ) (c : CutBlocks) (state : CutState L P Out starts c) where
  abbrev mark : ℕ
  mark = length c.places

  abbrev pub begun : CutBlocks
  begun = open_at (Jump mark) (draw 0 c)

  abbrev pub begun_starts : List ℕ
  begun_starts = starts ++ 0 ∷ []

  abbrev pub FromOutside : ℕ → Type 0
  FromOutside m = UsableIn L P Out starts c m ⊎ (m ≡ mark)

  one_begun : suc mark ≡ length begun.places
  one_begun = omega (arith, length-append c.places (0 ∷ []))

  pub begun_state : CutState (length c.laid) (suc mark) FromOutside begun_starts begun
  begun_state = record {
    count = omega (arith, length-append starts (0 ∷ []), one_begun, state.count);
    nested = record {
      laid = omega arith;
      drawn = omega (arith, one_begun);
      stands = λ m pm mq. absurd (omega (arith, pm, mq, one_begun));
      known = λ i m li ni l. absurd (omega (arith, li, ni));
      closed = λ i k m li ni l pk pm mq a b. absurd (omega (arith, li, ni));
      back = λ i m li ni l pm a. absurd (omega (arith, li, ni));
    };
    end' = λ m e. outer (omega (arith, e)) (inr (sym e));
  }

  pub from_outside : (m : ℕ) → UsableIn L P Out starts c m → UsableIn (length c.laid) (suc mark) FromOutside begun_starts begun m
  from_outside m (outer h o) = let d = state.nested.drawn in outer (omega (arith, d)) (inl (outer h o))
  from_outside m (free h k f) = outer (omega arith) (inl (free h k f))

  module _ (d : CutBlocks) (turn : Step (length c.laid) (suc mark) FromOutside begun_starts begun d) where
    abbrev turned : CutBlocks
    turned = head mark d

    abbrev its_starts : List ℕ
    its_starts = slice_set turn.starts' mark (length c.laid)

    abbrev head_block : Block
    head_block = record { body = d.body; end = d.end }

    kept : Keeps c turned
    kept = head_keeps mark c d (omega arith) (keeps_on c begun d (opened_keeps (Jump mark) c (draw 0 c) (draw_keeps 0 c)) turn.keeps)

    marked : mark < length d.places
    marked = omega (arith, one_begun, turn.keeps.drawn)

    all_laid : suc (length d.laid) ≡ length turned.laid
    all_laid = omega (arith, length-append d.laid (head_block ∷ []))

    all_drawn : length d.places ≡ length turned.places
    all_drawn = sym (length-set d.places mark (length d.laid))

    starts_keep' : (m : ℕ) → m < mark → slice_get its_starts m ≡ slice_get starts m
    starts_keep' m h =
        set_other turn.starts' mark m (length c.laid) (λ e. omega (arith, e, h)) ∙
        (turn.same_start m (omega (arith, h, one_begun)) ∙ get_front starts (0 ∷ []) m (omega (arith, h, state.count)))

    new_leads : (i m : ℕ) → length c.laid ≤ i → i < suc (length d.laid) → LeadsOf turned i m → ((i < length d.laid) × LeadsOf d i m) ⊎
        ((i ≡ length d.laid) × LeadsTo d.end m)
    new_leads i m ge h l =
        elim (one_more i (length d.laid) h) [
          | inl lt ↦ inl (lt, same_leads d turned i m (get_front d.laid (head_block ∷ []) i lt) l)
          | inr e ↦
              inr (
                e,
                subst (λ (b : Block). LeadsTo b.end m) (get_or_from_slice_get turned.laid i head_block no_block
                    (ap (slice_get turned.laid) e ∙ get_seam d.laid head_block)) l,
              )
        ]

    place_of_head : slice_index turned.places mark ≡ length d.laid
    place_of_head = get_or_from_slice_get turned.places mark (length d.laid) 0 (set_own d.places mark (length d.laid) marked)

    start_of_head : slice_index its_starts mark ≡ length c.laid
    start_of_head = get_or_from_slice_get its_starts mark (length c.laid) 0
        (set_own turn.starts' mark (length c.laid) (omega (arith, marked, turn.state.count)))

    places_before : (m : ℕ) → m < mark → slice_index turned.places m ≡ slice_index c.places m
    places_before m h = same_index turned.places c.places m 0 (kept.marks m h)

    starts_before : (m : ℕ) → m < mark → slice_index its_starts m ≡ slice_index starts m
    starts_before m h = same_index its_starts starts m 0 (starts_keep' m h)

    places_within : (m : ℕ) → mark < m → m < length d.places → slice_index turned.places m ≡ slice_index d.places m
    places_within m h k = same_index turned.places d.places m 0 (set_other d.places mark m (length d.laid) (λ e. omega (arith, e, h)))

    starts_within : (m : ℕ) → mark < m → m < length d.places → slice_index its_starts m ≡ slice_index turn.starts' m
    starts_within m h k = same_index its_starts turn.starts' m 0 (set_other turn.starts' mark m (length c.laid) (λ e. omega (arith, e, h)))

    turned_nested : Nested L P Out (suc (length d.laid)) (length d.places) (λ k. slice_index turned.places k) (λ k. slice_index its_starts k) (LeadsOf turned)
    turned_nested =
        loop_nested L P Out (length c.laid) mark _ _ (LeadsOf c) state.nested (length d.laid) (length d.places) _ _ (LeadsOf d) turn.state.nested
        (LeadsTo d.end) turn.state.end'
        _ _ (LeadsOf turned) places_before starts_before places_within starts_within place_of_head start_of_head
        (λ i m h l. same_leads c turned i m (kept.blocks i h) l) new_leads

    turned_usable : Usable L P Out (suc (length d.laid)) (length d.places) (λ k. slice_index turned.places k) (λ k. slice_index its_starts k) mark
    turned_usable =
        head_usable L P Out (length c.laid) mark _ _ (LeadsOf c) state.nested (length d.laid) (length d.places) _ _ (LeadsOf d) turn.state.nested
        (LeadsTo d.end) turn.state.end'
        _ _ (LeadsOf turned) places_before starts_before places_within starts_within place_of_head start_of_head
        (λ i m h l. same_leads c turned i m (kept.blocks i h) l) new_leads

    pub turns : Step L P Out starts c turned
    turns = record {
      starts' = its_starts;
      state = record {
        count = length-set turn.starts' mark (length c.laid) ∙ (turn.state.count ∙ all_drawn);
        nested = nested_of L P Out (suc (length d.laid)) (length turned.laid) (length d.places) (length turned.places) _ _
            (LeadsOf turned) all_laid all_drawn turned_nested;
        end' = λ m e. subst (UsableIn L P Out its_starts turned) e
            (usable_of L P Out (suc (length d.laid)) (length turned.laid) (length d.places) (length turned.places) _ _ mark all_laid all_drawn turned_usable);
      };
      keeps = kept;
      same_start = starts_keep';
      new_start = λ h le lt.
          starts_since L P Out (length c.laid) mark _ _ (LeadsOf c) state.nested (length d.laid) (length d.places) _ _ (LeadsOf d) turn.state.nested
          (LeadsTo d.end) turn.state.end'
          _ _ (LeadsOf turned) places_before starts_before places_within starts_within place_of_head start_of_head
          (λ i m j l. same_leads c turned i m (kept.blocks i j) l) new_leads
          h le (omega (arith, lt, all_drawn));
    }
