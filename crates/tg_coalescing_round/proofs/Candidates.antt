-- The candidates are temporaries that are left.
use Rattle.std.proofs.Common.{◌≡◌, ℕ, suc, ◌+◌, ◌-◌, ◌<◌, ◌≤◌, Bool, true, false, List, []}
use Rattle.std.proofs.Common.{◌∷◌, ◌++◌, length, get_or, map, cond, refl, sym, ap, ◌∙◌, subst, arith}
use Rattle.std.specs.Prelude.{All, filter}
use Rattle.std.specs.List.{range_with_len}
use Rattle.std.proofs.lemmas.List.{append-nil, get_or-map, get_or_read, length-map, map-append}
use Rattle.std.proofs.lemmas.List.Elements.{All-filter, All-from_get_or, All-get_or, filter-append, filter_passes}
use Rattle.std.proofs.lemmas.List.FromFn.{get_or-range_with_len, length-range_with_len}
use Rattle.tg_graph.specs.Interference.{colours}
use Rattle.tg_graph.proofs.Runs.{range_more}
use Rattle.tg_irc_definition.specs.declared.candidates.Candidate.{Candidate}
use Rattle.tg_irc_definition.specs.Policies.{candidate_at}
use Rattle.tg_coalescing_round.specs.glue.Works.{Work, is_left}
use Rattle.tg_coalescing_round.specs.mirror.Steps.{candidate, candidates}

within_range : (a n : ℕ) → All (λ x. (a ≤ x) × (x < a + n)) (range_with_len a n)
within_range a n =
    All-from_get_or (λ x. (a ≤ x) × (x < a + n)) (range_with_len a n) 0
    (λ i l.
    let k : i < n = omega (arith, l, length-range_with_len a n) in
    let at = get_or-range_with_len a n i 0 k in
    (omega (arith, at), omega (arith, at, k)))

abbrev nodes_left : Work → List ℕ
nodes_left w = filter (is_left w.lists) (range_with_len 25 (w.graph.nodes - 25))

-- the node of the candidate at a place
pub record IsCandidate (w : Work) (x : ℕ) : Type 0 where
  pub temporary : colours ≤ x
  pub node : x < w.graph.nodes
  pub left : is_left w.lists x ≡ true

candidate_here : (w : Work) (place : ℕ) → place < length (candidates w) →
    IsCandidate w ((candidate_at (candidates w) place).temp + 25)
candidate_here w place l =
    let xs = nodes_left w in
    let within : place < length xs = omega (arith, l, length-map xs (candidate w)) in
    let x = get_or xs place 0 in
    let read : candidate_at (candidates w) place ≡ candidate w x = get_or-map (candidate w) xs place 0 _ within in
    let between = All-get_or (λ y. (25 ≤ y) × (y < 25 + (w.graph.nodes - 25))) xs place 0 within
    (All-filter (is_left w.lists) (λ y. (25 ≤ y) × (y < 25 + (w.graph.nodes - 25)))
    (range_with_len 25 (w.graph.nodes - 25)) (within_range 25 (w.graph.nodes - 25))) in
    let passes = All-get_or (λ y. is_left w.lists y ≡ true) xs place 0 within
    (filter_passes (is_left w.lists) (range_with_len 25 (w.graph.nodes - 25))) in
    let node : (candidate_at (candidates w) place).temp + 25 ≡ x =
    ap (λ (c : Candidate). c.temp + 25) read ∙ omega (arith, between) in
    subst (IsCandidate w) (sym node)
    (record { temporary = between.0; node = omega (arith, between); left = passes })

-- one that was read there
pub candidate_read : (w : Work) (cs : List Candidate) (place : ℕ) (c : Candidate) → cs ≡ candidates w →
    place < length cs → c ≡ get_or cs place c →
    IsCandidate w (c.temp + 25)
candidate_read w cs place c e l there =
    let read : c ≡ candidate_at (candidates w) place =
    get_or_read cs place c l there _ ∙ ap (λ (ds : List Candidate). candidate_at ds place) e in
    subst (λ (d : Candidate). IsCandidate w (d.temp + 25)) (sym read)
    (candidate_here w place (omega (arith, ap length e, l)))

-- the candidates among so many temporaries
abbrev pub candidates_to : Work → ℕ → List Candidate
candidates_to w n = map (candidate w) (filter (is_left w.lists) (range_with_len 25 n))

candidates_more : (w : Work) (n : ℕ) →
    candidates_to w (n + 1) ≡ candidates_to w n ++ map (candidate w) (filter (is_left w.lists) ((25 + n) ∷ []))
candidates_more w n =
    let e : n + 1 ≡ suc n = omega arith in
    ap (λ xs. map (candidate w) (filter (is_left w.lists) xs)) (ap (range_with_len 25) e ∙ range_more 25 n)
    ∙ (ap (map (candidate w)) (filter-append (is_left w.lists) (range_with_len 25 n) ((25 + n) ∷ []))
    ∙ map-append (candidate w) (filter (is_left w.lists) (range_with_len 25 n)) (filter (is_left w.lists) ((25 + n) ∷ [])))

-- one more, where it is left
module _ (w : Work) (x : ℕ) (h : colours ≤ x) where
  place_of : 25 + (x - 25) ≡ x
  place_of = omega (arith, h)

  last : (b : Bool) → is_left w.lists (25 + (x - 25)) ≡ b →
      map (candidate w) (filter (is_left w.lists) ((25 + (x - 25)) ∷ [])) ≡ cond b (candidate w x ∷ []) []
  last b e = ap (λ t. map (candidate w) (cond t ((25 + (x - 25)) ∷ []) [])) e ∙ by b
    where
      by : (t : Bool) → map (candidate w) (cond t ((25 + (x - 25)) ∷ []) []) ≡ cond t (candidate w x ∷ []) []
      by true = ap (λ y. candidate w y ∷ []) place_of
      by false = refl

  next : candidates_to w (x + 1 - 25) ≡ candidates_to w (x - 25 + 1)
  next = let e : x + 1 - 25 ≡ x - 25 + 1 = omega (arith, h) in ap (candidates_to w) e

  pub candidate_left : is_left w.lists x ≡ true →
      candidates_to w (x + 1 - 25) ≡ candidates_to w (x - 25) ++ candidate w x ∷ []
  candidate_left e =
      next
      ∙ (candidates_more w (x - 25)
      ∙ ap (λ cs. candidates_to w (x - 25) ++ cs) (last true (ap (is_left w.lists) place_of ∙ e)))

  pub candidate_gone : is_left w.lists x ≡ false → candidates_to w (x + 1 - 25) ≡ candidates_to w (x - 25)
  candidate_gone e =
      next
      ∙ (candidates_more w (x - 25)
      ∙ (ap (λ cs. candidates_to w (x - 25) ++ cs) (last false (ap (is_left w.lists) place_of ∙ e))
      ∙ append-nil (candidates_to w (x - 25))))
