-- The slots of temporaries after a round.
use Rattle.std.proofs.Common.{ℕ, ◌≡◌, ◌<◌, ◌+◌, ◌-◌, List, Option, Some, None, length, map, take, drop, ◌++◌, get_or, refl, ap, subst, sym, ◌∙◌}
use Rattle.std.proofs.Common.{arith, length-drop}
use Rattle.std.specs.Prelude.{All, nat_eq}
use Rattle.std.specs.List.{position}
use Rattle.std.specs.Option.{option_map}
use Rattle.std.proofs.lemmas.List.{get_or-map, get_or-drop, get_or-take, get_or_append_left, take_all}
use Rattle.std.proofs.lemmas.List.Elements.{All-filter, All-take, All-drop}
use Rattle.std.proofs.lemmas.List.Quantifiers.{position-Some}
use Rattle.tg_irc_definition.specs.declared.rounds.Round.{Round}
use Rattle.tg_regalloc.specs.Rewriting.{is_original, slot_by, slot_in, slot_after, slotted}
use Rattle.tg_regalloc.specs.Rounds.{IsOfTemps}
use Rattle.tg_regalloc.proofs.Alike.{AreAlike}
use Rattle.tg_regalloc.proofs.RewrittenBelow.{AreSlotsBelow}

-- by the nodes under which the temporaries' classes stand
pub by_aliases : (classes aliases : List ℕ) (base n t : ℕ) → length aliases ≡ 25 + n → t < n →
    slot_in (map (slot_by classes base) (drop 25 aliases)) t ≡ slot_by classes base (get_or aliases (25 + t) 0)
by_aliases classes aliases base n t size l =
    get_or-map (slot_by classes base) (drop 25 aliases) t 0 None (omega (arith, size, l, length-drop 25 aliases))
    ∙ ap (slot_by classes base) (get_or-drop 25 aliases t 0)

shifted_below : (base n : ℕ) (o : Option ℕ) → ((i : ℕ) → o ≡ Some i → i < n) → AreSlotsBelow (base + n) (option_map (λ k. base + k) o)
shifted_below base n (Some i) h k e = let l = h i refl in let s : base + i ≡ k = some_is e in omega arith
  where
    some_is : {x y : ℕ} → Some x ≡ Some y → x ≡ y
    some_is e = cc
shifted_below base n None h k e = cc

-- they are those that the classes take
pub slots_taken : (originals base : ℕ) (round : Round) (t : ℕ) → AreSlotsBelow (base + length (slotted originals round)) (slot_after originals base round t)
slots_taken originals base round t =
    let classes = slotted originals round in
    let x = get_or round.aliases (25 + t) 0 in
    shifted_below base (length classes) (position (nat_eq x) classes) (λ i e. (position-Some (nat_eq x) classes i 0 e).0)

-- the rest after the registers, as the code takes it
pub behind_registers : {A : Type 0} (xs : List A) → take (length xs - 25) (drop 25 xs) ≡ drop 25 xs
behind_registers xs = take_all (length xs - 25) (drop 25 xs) (omega (arith, length-drop 25 xs))

module _ (round : Round) (n : ℕ) (nodes : IsOfTemps n round) (all : List ℕ) (same : all ≡ round.aliases) where
  size : length all ≡ 25 + n
  size = ap length same ∙ nodes.each_alias

  pub aliases_below : All (λ x. x < length all) (take (length all - 25) (drop 25 all))
  aliases_below =
      All-take (λ x. x < length all) (length all - 25) (drop 25 all)
      (All-drop (λ x. x < length all) 25 all
      (subst (λ (m : ℕ). All (λ x. x < m) all) (sym size) (subst (λ (xs : List ℕ). All (λ x. x < 25 + n) xs) (sym same) nodes.aliases)))

  pub classes_below : (originals : ℕ) (classes : List ℕ) → classes ≡ slotted originals round → All (λ x. x < length all) classes
  classes_below originals classes e =
      subst (λ (m : ℕ). All (λ x. x < m) classes) (sym size)
      (subst (λ (xs : List ℕ). All (λ x. x < 25 + n) xs) (sym e) (All-filter (is_original originals) (λ x. x < 25 + n) round.spilled nodes.spilled))

  -- a table of the slots by the classes' nodes
  pub alike : (originals base : ℕ) (classes : List ℕ) (table : List (Option ℕ)) → classes ≡ slotted originals round →
      table ≡ map (slot_by classes base) (take (length all - 25) (drop 25 all)) → AreAlike n (slot_in table) (slot_after originals base round)
  alike originals base classes table e f t l =
      ap (λ ts. slot_in ts t) (f ∙ ap (map (slot_by classes base)) (behind_registers all))
      ∙ (by_aliases classes all base n t size l
      ∙ (ap (λ xs. slot_by classes base (get_or xs (25 + t) 0)) same
      ∙ ap (λ cs. slot_by cs base (get_or round.aliases (25 + t) 0)) e))

-- what is filled in from a slice's start, to its end
pub filled : (len : ℕ) (new old : List (Option ℕ)) (t : ℕ) → len ≡ length old → length new ≡ length old → t < length old →
    slot_in (take len (new ++ drop (length new) old)) t ≡ slot_in new t
filled len new old t e f l =
    get_or-take len (new ++ drop (length new) old) t None (omega (arith, e, l))
    ∙ get_or_append_left new (drop (length new) old) None t (omega (arith, f, l))
