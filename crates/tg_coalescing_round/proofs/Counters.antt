-- Counters of degrees that are not 0.
use Rattle.std.proofs.Common.{◌≡◌, ℕ, ◌<◌, ◌≤◌, Bool, true, not, ◌&&◌, get_or, sym, ap, ◌∙◌, subst, arith}
use Rattle.std.specs.Prelude.{nat_lt}
use Rattle.std.proofs.lemmas.Bool.{and_from, and_parts, lt-ltb}
use Rattle.tg_graph.specs.Interference.{IsGraph, colours, interferes, is_among, is_register, neighbours}
use Rattle.tg_graph.proofs.Joining.{stays_below}
use Rattle.tg_irc_definition.proofs.Counting.{count_out}
use Rattle.tg_coalescing_round.specs.glue.Works.{Work, degree_at, is_left, is_open}
use Rattle.tg_coalescing_round.specs.mirror.Steps.{CanLose}
use Rattle.tg_coalescing_round.specs.glue.Standing.{HasDegrees}
use Rattle.tg_coalescing_round.proofs.Edges.{interferes_either_way}

all_true : (a b c : Bool) → a ≡ true → b ≡ true → c ≡ true → (a && (a && b) && c) ≡ true
all_true a b c p q r = rw (p, q, r)

-- a temporary that remains has a neighbour where it is next to a node that is left
pub has_neighbour : (w : Work) (x z : ℕ) → IsGraph w.graph → HasDegrees w → colours ≤ x → x < w.graph.nodes →
    is_left w.lists x ≡ true → is_among z (neighbours w.graph x) ≡ true → is_open w z ≡ true →
    0 < degree_at w z
has_neighbour w x z n d t h left among remains =
    let parts = and_parts (not (is_register z)) (is_left w.lists z) remains in
    let near : interferes w.graph x z ≡ true = sym (n.exact x z t) ∙ among in
    let node : z < w.graph.nodes = stays_below w.graph x z n t h near in
    let all = all_true (nat_lt z w.graph.nodes) (is_left w.lists z) (not (is_register z))
    (lt-ltb z w.graph.nodes node) parts.1 parts.0 in
    let pair : interferes w.graph z x ≡ true = interferes_either_way w.graph z x ∙ near in
    let there : ((nat_lt x w.graph.nodes && is_left w.lists x) && interferes w.graph z x) ≡ true =
    and_from (nat_lt x w.graph.nodes && is_left w.lists x) (interferes w.graph z x)
    (and_from (nat_lt x w.graph.nodes) (is_left w.lists x) (lt-ltb x w.graph.nodes h) left) pair in
    omega (
      arith,
      d.exact z all,
      count_out (λ y. (nat_lt y w.graph.nodes && is_left w.lists y) && interferes w.graph z y) x w.graph.nodes h there,
    )

-- and so it has in work with the same graph and counters, in which the same nodes are left
pub loses_alike : (x : ℕ) (w v : Work) → v.graph ≡ w.graph → v.degrees ≡ w.degrees →
    ((z : ℕ) → is_left v.lists z ≡ is_left w.lists z) → CanLose w x →
    CanLose v x
loses_alike x w v g d l c = λ z among o.
    subst (λ ds. 0 < get_or ds z 0) (sym d)
    (c z (sym (ap (λ h. is_among z (neighbours h x)) g) ∙ among) (sym (ap (λ b. not (is_register z) && b) (l z)) ∙ o))
