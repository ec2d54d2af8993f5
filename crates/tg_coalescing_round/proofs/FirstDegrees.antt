-- The degrees that are counted at the start.
use Rattle.std.proofs.Common.{◌≡◌, ℕ, ◌+◌, ◌-◌, ◌<◌, ◌≤◌, List, [], ◌∷◌, ◌++◌, length, get_or, map, replicate, sym, ap, ◌∙◌, arith}
use Rattle.std.specs.List.{range_with_len}
use Rattle.std.proofs.lemmas.List.{append_assoc, length-append, length-replicate, get_or_append_left, get_or-append_right, get_or-replicate}
use Rattle.std.proofs.lemmas.List.FromFn.{map-range_with_len_more, length-map-range_with_len, get_or-map-range_with_len}
use Rattle.tg_graph.specs.Interference.{Interference, colours, degree}
use Rattle.tg_coalescing_round.specs.glue.Works.{first_degrees}

-- those of the nodes below one more
pub degrees_more : (g : Interference) (n d : ℕ) (list : List ℕ) → colours ≤ n →
    list ≡ replicate colours 0 ++ map (degree g) (range_with_len colours (n - colours)) → d ≡ degree g n →
    list ++ d ∷ [] ≡ replicate colours 0 ++ map (degree g) (range_with_len colours (n + 1 - colours))
degrees_more g n d list low e f =
    let at : colours + (n - colours) ≡ n = omega (arith, low) in
    let one : n - colours + 1 ≡ n + 1 - colours = omega (arith, low) in
    ap (λ (l : List ℕ). l ++ d ∷ []) e
    ∙ (append_assoc (replicate colours 0) (map (degree g) (range_with_len colours (n - colours))) (d ∷ [])
    ∙ ap (λ (l : List ℕ). replicate colours 0 ++ l)
    (ap (λ (x : ℕ). map (degree g) (range_with_len colours (n - colours)) ++ x ∷ []) f
    ∙ (sym (map-range_with_len_more (degree g) colours (n - colours) n at)
    ∙ ap (λ (k : ℕ). map (degree g) (range_with_len colours k)) one)))

module _ (g : Interference) (some : colours ≤ g.nodes) where
  pub length_first : length (first_degrees g) ≡ g.nodes
  length_first =
      let whole = length-append (replicate colours 0) (map (degree g) (range_with_len colours (g.nodes - colours))) in
      let head = length-replicate {A = ℕ} colours 0 in
      let rest = length-map-range_with_len (degree g) colours (g.nodes - colours) in
      omega (arith, whole, head, rest, some)

  -- registers have none
  pub first_register : (x : ℕ) → x < colours → get_or (first_degrees g) x 0 ≡ 0
  first_register x l =
      get_or_append_left (replicate colours 0) (map (degree g) (range_with_len colours (g.nodes - colours))) 0 x
      (omega (arith, l, length-replicate {A = ℕ} colours 0))
      ∙ get_or-replicate {A = ℕ} colours x 0 0 l

  pub first_temporary : (x : ℕ) → colours ≤ x → x < g.nodes → get_or (first_degrees g) x 0 ≡ degree g x
  first_temporary x low l =
      get_or-append_right (replicate colours 0) (map (degree g) (range_with_len colours (g.nodes - colours))) colours x 0
      (length-replicate {A = ℕ} colours 0) low
      ∙ get_or-map-range_with_len (degree g) colours (g.nodes - colours) (x - colours) x 0 (omega (arith, low, l))
      (omega (arith, low))
