-- Two classes become one.
use Rattle.std.proofs.Common.{◌≡◌, ◌≢◌, ℕ, ◌^◌, ◌<◌, ◌≤◌, Bool, true, false, ◌&&◌, ◌||◌, List, [], ◌∷◌}
use Rattle.std.proofs.Common.{length, get_or, set, All, refl, sym, ap, subst, ◌∙◌, ⊎_elim}
use Rattle.std.specs.Prelude.{◌==◌, nat_eq, nat_lt, if◌then◌else◌}
use Rattle.std.specs.List.{IsDistinct}
use Rattle.std.proofs.lemmas.Bool.{cases_eq, cases_lt, lt-ltb, le-ltb}
use Rattle.std.proofs.lemmas.List.{length-set}
use Rattle.std.proofs.lemmas.List.Elements.{All-append, All-nil, All-set}
use Rattle.std.proofs.lemmas.List.Folds.{list_any-append}
use Rattle.tg_irc_definition.proofs.Deciding.{both, never, same_node, same_test}
use Rattle.tg_graph.specs.Interference.{is_among}
use Rattle.tg_coalescing_round.specs.glue.Lists.{list_at, set_at_all}
use Rattle.tg_coalescing_round.specs.glue.Groupings.{Grouping, IsGrouping}
use Rattle.tg_coalescing_round.specs.glue.Groupings as groupings
use Rattle.tg_coalescing_round.specs.glue.Works.{Work, alias_of}
use Rattle.tg_coalescing_round.specs.glue.Standing.{IsOrderly, HasMembers}
use Rattle.tg_coalescing_round.proofs.AdvancingJoining.{distinct_joined, poured_kept, poured_gone, poured_other}
use Rattle.tg_coalescing_round.proofs.AdvancingJoining.{length_poured, sum_same, length_moved, length_all, set_all}

all_set : (P : ℕ → Type 0) (number : ℕ) (places list : List ℕ) → P number → All P list →
    All P (set_at_all number places list)
all_set P number [] list p h = h
all_set P number (x ∷ places) list p h = all_set P number places (set list x number) p (All-set P list x number p h)

distinct_nothing : IsDistinct nat_eq []
unfolding IsDistinct
distinct_nothing = tt

-- a class named anew
abbrev pub renamed : (kept gone class : ℕ) → ℕ
renamed kept gone c = if c == gone then kept else c

module _ (w : Work) (h : IsOrderly w) (kept gone : ℕ) (l : kept < w.graph.nodes) (m : gone < w.graph.nodes)
    (d : kept ≢ gone) where
  abbrev pub classes_after : Grouping
  classes_after = groupings.joined kept gone w.classes

  abbrev n : ℕ
  n = w.graph.nodes

  members_length : length w.classes.members ≡ n
  members_length = h.grouping.members_sized ∙ h.sized.classes

  kept_inside : kept < length w.classes.members
  kept_inside = subst (λ k. kept < k) (sym members_length) l

  gone_inside : gone < length w.classes.members
  gone_inside = subst (λ k. gone < k) (sym members_length) m

  pub aliases_length : length classes_after.aliases ≡ length w.classes.aliases
  aliases_length = length_all kept (list_at w.classes.members gone) w.classes.aliases

  member_gone : (z : ℕ) → z < n → is_among z (list_at w.classes.members gone) ≡ (alias_of w z == gone)
  member_gone z k = h.members.exact gone z m ∙ ap (λ b. b && (alias_of w z == gone)) (lt-ltb z n k)

  pub alias_after : (z e : ℕ) → z < n →
      get_or classes_after.aliases z e ≡
      (if alias_of w z == gone then kept else get_or w.classes.aliases z e)
  alias_after z e k =
      set_all kept (list_at w.classes.members gone) w.classes.aliases z e (subst (λ j. z < j) (sym h.sized.classes) k)
      ∙ ap (λ b. if b then kept else get_or w.classes.aliases z e) (member_gone z k)

  uses_inside : (z : ℕ) → z < n → z < length w.classes.uses
  uses_inside z k = subst (λ j. z < j) (sym (h.grouping.uses_sized ∙ h.sized.classes)) k

  pub grouping_after : IsGrouping classes_after
  grouping_after = record {
    members_sized = length_poured w.classes.members kept gone ∙ (h.grouping.members_sized ∙ sym aliases_length);
    uses_sized = length_moved w.classes.uses kept gone ∙ (h.grouping.uses_sized ∙ sym aliases_length);
    made_sized = length-set w.classes.made kept _ ∙ (h.grouping.made_sized ∙ sym aliases_length);
    aliases_below = subst (λ k. All (λ x. x < k) classes_after.aliases) (sym aliases_length)
        (all_set (λ x. x < length w.classes.aliases) kept (list_at w.classes.members gone) w.classes.aliases
        (subst (λ k. kept < k) (sym h.sized.classes) l) h.grouping.aliases_below);
    members_below = λ x. subst (λ k. All (λ y. y < k) (list_at classes_after.members x)) (sym aliases_length) (below x);
    few = subst (λ k. k < 2 ^ 32)
        (sym (sum_same w.classes.uses kept gone (uses_inside kept l) (uses_inside gone m) d)) h.grouping.few;
  }
    where
      below : (x : ℕ) → All (λ y. y < length w.classes.aliases) (list_at classes_after.members x)
      below x =
          ⊎_elim
          (λ (p : x ≡ kept).
          subst (λ xs. All (λ y. y < length w.classes.aliases) xs)
          (sym (ap (list_at classes_after.members) p
          ∙ poured_kept w.classes.members kept gone kept_inside gone_inside d))
          (All-append (λ y. y < length w.classes.aliases) (list_at w.classes.members kept)
          (list_at w.classes.members gone) (h.grouping.members_below kept) (h.grouping.members_below gone)))
          (λ (e : x ≢ kept).
          ⊎_elim
          (λ (p : x ≡ gone).
          subst (λ xs. All (λ y. y < length w.classes.aliases) xs)
          (sym (ap (list_at classes_after.members) p
          ∙ poured_gone w.classes.members kept gone kept_inside gone_inside d))
          (All-nil (λ y. y < length w.classes.aliases)))
          (λ (f : x ≢ gone).
          subst (λ xs. All (λ y. y < length w.classes.aliases) xs)
          (sym (poured_other w.classes.members kept gone kept_inside gone_inside d x e f))
          (h.grouping.members_below x))
          (cases_eq x gone))
          (cases_eq x kept)

  -- whether a class is a given one by its new name
  pub named_kept : (c : ℕ) → ((c == kept) || (c == gone)) ≡ (renamed kept gone c == kept)
  named_kept c = by (c == gone) refl
    where
      by : (b : Bool) → (c == gone) ≡ b → ((c == kept) || b) ≡ ((if b then kept else c) == kept)
      by true e = or_true (c == kept) ∙ sym (same_test kept kept refl)
        where
          or_true : (a : Bool) → (a || true) ≡ true
          or_true true = refl
          or_true false = refl
      by false e = or_false (c == kept)
        where
          or_false : (a : Bool) → (a || false) ≡ a
          or_false true = refl
          or_false false = refl

  pub named_gone : (c : ℕ) → (renamed kept gone c == gone) ≡ false
  named_gone c = by (c == gone) refl
    where
      by : (b : Bool) → (c == gone) ≡ b → ((if b then kept else c) == gone) ≡ false
      by true e = never (λ q. d (same_node kept gone q))
      by false e = e

  pub named_other : (c x : ℕ) → x ≢ kept → x ≢ gone → (c == x) ≡ (renamed kept gone c == x)
  named_other c x e f = by (c == gone) refl
    where
      by : (b : Bool) → (c == gone) ≡ b → (c == x) ≡ ((if b then kept else c) == x)
      by true q =
          never (λ r. f (sym (same_node c x r) ∙ same_node c gone q)) ∙ sym (never (λ r. e (sym (same_node kept x r))))
      by false q = refl

  members_exact : (x y : ℕ) → x < n → is_among y (list_at classes_after.members x) ≡
      (nat_lt y n && (get_or classes_after.aliases y 0 == x))
  members_exact x y k = ⊎_elim inside outside (cases_lt y n)
    where
      listed : (b : Bool) → nat_lt y n ≡ b → (z : ℕ) → z < n →
          is_among y (list_at w.classes.members z) ≡ (b && (alias_of w y == z))
      listed b e z o = h.members.exact z y o ∙ ap (λ c. c && (alias_of w y == z)) e

      whole : (b : Bool) → nat_lt y n ≡ b → is_among y (list_at classes_after.members x) ≡
          (b && (renamed kept gone (alias_of w y) == x))
      whole b e =
          ⊎_elim
          (λ (p : x ≡ kept).
          ap (λ z. is_among y (list_at classes_after.members z)) p
          ∙ (ap (is_among y) (poured_kept w.classes.members kept gone kept_inside gone_inside d)
          ∙ (list_any-append (nat_eq y) (list_at w.classes.members kept) (list_at w.classes.members gone)
          ∙ (ap (λ a. a || is_among y (list_at w.classes.members gone)) (listed b e kept l)
          ∙ (ap (λ a. (b && (alias_of w y == kept)) || a) (listed b e gone m)
          ∙ (together b (alias_of w y == kept) (alias_of w y == gone)
          ∙ (ap (λ a. b && a) (named_kept (alias_of w y))
          ∙ ap (λ z. b && (renamed kept gone (alias_of w y) == z)) (sym p))))))))
          (λ (q : x ≢ kept).
          ⊎_elim
          (λ (p : x ≡ gone).
          ap (λ z. is_among y (list_at classes_after.members z)) p
          ∙ (ap (is_among y) (poured_gone w.classes.members kept gone kept_inside gone_inside d)
          ∙ sym (ap (λ z. b && (renamed kept gone (alias_of w y) == z)) p
          ∙ (ap (λ a. b && a) (named_gone (alias_of w y)) ∙ nothing b))))
          (λ (f : x ≢ gone).
          ap (is_among y) (poured_other w.classes.members kept gone kept_inside gone_inside d x q f)
          ∙ (listed b e x k ∙ ap (λ a. b && a) (named_other (alias_of w y) x q f)))
          (cases_eq x gone))
          (cases_eq x kept)
        where
          together : (b p q : Bool) → ((b && p) || (b && q)) ≡ (b && (p || q))
          together true p q = refl
          together false p q = refl

          nothing : (b : Bool) → (b && false) ≡ false
          nothing true = refl
          nothing false = refl

      inside : y < n → is_among y (list_at classes_after.members x) ≡
          (nat_lt y n && (get_or classes_after.aliases y 0 == x))
      inside o =
          whole (nat_lt y n) refl ∙ ap (λ z. nat_lt y n && (z == x)) (sym (alias_after y 0 o))

      outside : n ≤ y → is_among y (list_at classes_after.members x) ≡
          (nat_lt y n && (get_or classes_after.aliases y 0 == x))
      outside o =
          whole false (le-ltb y n o)
          ∙ sym (ap (λ b. b && (get_or classes_after.aliases y 0 == x)) (le-ltb y n o))

  apart_members : (y : ℕ) → is_among y (list_at w.classes.members kept) ≡ true →
      is_among y (list_at w.classes.members gone) ≡ false
  apart_members y e =
      never (λ f.
      let a = both (nat_lt y n) (alias_of w y == kept) (sym (h.members.exact kept y l) ∙ e) in
      let b = both (nat_lt y n) (alias_of w y == gone) (sym (h.members.exact gone y m) ∙ f) in
      d (sym (same_node (alias_of w y) kept a.1) ∙ same_node (alias_of w y) gone b.1))

  members_distinct : (x : ℕ) → IsDistinct nat_eq (list_at classes_after.members x)
  members_distinct x =
      ⊎_elim
      (λ (p : x ≡ kept).
      subst (λ xs. IsDistinct nat_eq xs)
      (sym (ap (list_at classes_after.members) p ∙ poured_kept w.classes.members kept gone kept_inside gone_inside d))
      (distinct_joined (list_at w.classes.members kept) (list_at w.classes.members gone) (h.members.distinct kept)
      (h.members.distinct gone) apart_members))
      (λ (e : x ≢ kept).
      ⊎_elim
      (λ (p : x ≡ gone).
      subst (λ xs. IsDistinct nat_eq xs)
      (sym (ap (list_at classes_after.members) p ∙ poured_gone w.classes.members kept gone kept_inside gone_inside d))
      distinct_nothing)
      (λ (f : x ≢ gone).
      subst (λ xs. IsDistinct nat_eq xs)
      (sym (poured_other w.classes.members kept gone kept_inside gone_inside d x e f)) (h.members.distinct x))
      (cases_eq x gone))
      (cases_eq x kept)

  pub members_after : (v : Work) → v.graph.nodes ≡ n → v.classes ≡ classes_after → HasMembers v
  members_after v size classes = record {
    exact = λ x y k.
        subst (λ (c : Grouping). is_among y (list_at c.members x) ≡ (nat_lt y v.graph.nodes && (get_or c.aliases y 0 == x)))
        (sym classes)
        (subst (λ j. is_among y (list_at classes_after.members x) ≡
        (nat_lt y j && (get_or classes_after.aliases y 0 == x))) (sym size)
        (members_exact x y (subst (λ j. x < j) size k)));
    distinct = λ x. subst (λ (c : Grouping). IsDistinct nat_eq (list_at c.members x)) (sym classes) (members_distinct x);
  }
