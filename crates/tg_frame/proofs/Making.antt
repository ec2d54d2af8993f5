-- Homes that were made one after another.
use Rattle.std.proofs.Common.{ℕ, ◌≡◌, ◌<◌, ◌≤◌, ◌+◌, List, [], ◌∷◌, ◌++◌, length, map, Bool, true, false, refl, sym, ap, ◌∙◌, arith, take, get_or}
use Rattle.std.specs.Prelude.{IsTrue, not, ◌&&◌}
use Rattle.std.specs.List.{list_any}
use Rattle.std.proofs.lemmas.Bool.Decides.{nat_tests}
use Rattle.std.proofs.lemmas.List.{take_more}
use Rattle.std.proofs.lemmas.List.Folds.{list_any-append}
use Rattle.tg_base.specs.declared.ids.Temp.{Temp}
use Rattle.tg_frame.specs.declared.accesses.Access.{Access}
use Rattle.tg_frame.specs.declared.accesses.Access.TheVariants.{InTemp, InFrame}
use Rattle.tg_frame.specs.Homes.{is_slot, homes_from, homes_of, next_home, slots_of, temps_of, slot_bound, temp_bound, is_same_home, differ}

-- homes for what was asked, with as many slots and temporaries
pub record Made (asked : List Bool) (homes : List Access) (slots temps : ℕ) : Type 0 where
  pub exact : homes ≡ homes_of asked
  pub are : map is_slot homes ≡ asked
  pub slots_are : slots ≡ slots_of asked
  pub temps_are : temps ≡ temps_of asked
  pub drawn : slots + temps ≡ length asked
  pub slots_below : slot_bound homes ≤ slots
  pub temps_below : temp_bound homes ≤ temps
  pub distinct : IsTrue (differ homes)

pub made_none : Made [] [] 0 0
made_none = record {
  exact = refl;
  are = refl;
  slots_are = refl;
  temps_are = refl;
  drawn = refl;
  slots_below = omega arith;
  temps_below = omega arith;
  distinct = refl;
}

map_push : (homes : List Access) (a : Access) → map is_slot (homes ++ a ∷ []) ≡ map is_slot homes ++ is_slot a ∷ []
map_push [] a = refl
map_push (x ∷ homes) a = ap (λ l. is_slot x ∷ l) (map_push homes a)

slots_push : (asked : List Bool) → slots_of (asked ++ true ∷ []) ≡ slots_of asked + 1
slots_push [] = refl
slots_push (true ∷ asked) = ap (λ n. n + 1) (slots_push asked)
slots_push (false ∷ asked) = slots_push asked

slots_keep : (asked : List Bool) → slots_of (asked ++ false ∷ []) ≡ slots_of asked
slots_keep [] = refl
slots_keep (true ∷ asked) = ap (λ n. n + 1) (slots_keep asked)
slots_keep (false ∷ asked) = slots_keep asked

temps_push : (asked : List Bool) → temps_of (asked ++ false ∷ []) ≡ temps_of asked + 1
temps_push [] = refl
temps_push (true ∷ asked) = temps_push asked
temps_push (false ∷ asked) = ap (λ n. n + 1) (temps_push asked)

temps_keep : (asked : List Bool) → temps_of (asked ++ true ∷ []) ≡ temps_of asked
temps_keep [] = refl
temps_keep (true ∷ asked) = temps_keep asked
temps_keep (false ∷ asked) = ap (λ n. n + 1) (temps_keep asked)

-- the homes that are asked for, and one more
homes_push : (asked : List Bool) (b : Bool) (s t : ℕ) → homes_from s t (asked ++ b ∷ []) ≡ homes_from s t asked ++
    next_home b (s + slots_of asked) (t + temps_of asked) ∷ []
homes_push [] true s t = let e : s ≡ s + 0 = omega arith in ap (λ n. InFrame n ∷ []) e
homes_push [] false s t = let e : t ≡ t + 0 = omega arith in ap (λ n. InTemp (record { 0 = n }) ∷ []) e
homes_push (true ∷ asked) b s t =
    let e : s + 1 + slots_of asked ≡ s + (slots_of asked + 1) = omega arith in
    ap (λ l. InFrame s ∷ l) (homes_push asked b (s + 1) t ∙ ap (λ n. homes_from (s + 1) t asked ++ next_home b n (t + temps_of asked) ∷ []) e)
homes_push (false ∷ asked) b s t =
    let e : t + 1 + temps_of asked ≡ t + (temps_of asked + 1) = omega arith in
    ap (λ l. InTemp (record { 0 = t }) ∷ l) (homes_push asked b s (t + 1) ∙ ap (λ n. homes_from s (t + 1) asked ++ next_home b (s + slots_of asked) n ∷ []) e)

exact_push : (asked : List Bool) (b : Bool) (homes : List Access) (slots temps : ℕ) → homes ≡ homes_of asked →
    slots ≡ slots_of asked → temps ≡ temps_of asked → homes ++ next_home b slots temps ∷ [] ≡ homes_of (asked ++ b ∷ [])
exact_push asked b homes slots temps e f g =
    let zs : slots ≡ 0 + slots_of asked = omega (arith, f) in
    let zt : temps ≡ 0 + temps_of asked = omega (arith, g) in
    ap (λ l. l ++ next_home b slots temps ∷ []) e ∙ (ap (λ n. homes_of asked ++ next_home b n temps ∷ []) zs
    ∙ (ap (λ n. homes_of asked ++ next_home b (0 + slots_of asked) n ∷ []) zt ∙ sym (homes_push asked b 0 0)))

length_push : (asked : List Bool) (b : Bool) → length (asked ++ b ∷ []) ≡ length asked + 1
length_push [] b = refl
length_push (x ∷ asked) b = let e = length_push asked b in omega arith

-- the bounds after one home more
slot_grows : (homes : List Access) (s : ℕ) → slot_bound homes ≤ s → slot_bound (homes ++ InFrame s ∷ []) ≤ s + 1
slot_grows [] s le = omega arith
slot_grows (InTemp t ∷ homes) s le = slot_grows homes s le
slot_grows (InFrame r ∷ homes) s le = let k = slot_grows homes s (omega arith) in omega arith

slot_keeps : (homes : List Access) (t : Temp) (s : ℕ) → slot_bound homes ≤ s → slot_bound (homes ++ InTemp t ∷ []) ≤ s
slot_keeps [] t s le = omega arith
slot_keeps (InTemp u ∷ homes) t s le = slot_keeps homes t s le
slot_keeps (InFrame r ∷ homes) t s le = let k = slot_keeps homes t s (omega arith) in omega arith

temp_grows : (homes : List Access) (t : ℕ) → temp_bound homes ≤ t → temp_bound (homes ++ InTemp (record { 0 = t }) ∷ []) ≤ t + 1
temp_grows [] t le = omega arith
temp_grows (InFrame r ∷ homes) t le = temp_grows homes t le
temp_grows (InTemp u ∷ homes) t le = let k = temp_grows homes t (omega arith) in omega arith

temp_keeps : (homes : List Access) (s t : ℕ) → temp_bound homes ≤ t → temp_bound (homes ++ InFrame s ∷ []) ≤ t
temp_keeps [] s t le = omega arith
temp_keeps (InFrame r ∷ homes) s t le = temp_keeps homes s t le
temp_keeps (InTemp u ∷ homes) s t le = let k = temp_keeps homes s t (omega arith) in omega arith

-- a home that none of the others is keeps them distinct
pub both : (x y : Bool) → (not x && y) ≡ true → (x ≡ false) × (y ≡ true)
both true y e = cc
both false y e = (refl, e)

joins : (x y : Bool) → x ≡ false → y ≡ true → (not x && y) ≡ true
joins x y e f = rw (e, f) refl

none_push : (a b : Access) (homes : List Access) → list_any (is_same_home a) homes ≡ false → is_same_home a b ≡ false →
    list_any (is_same_home a) (homes ++ b ∷ []) ≡ false
none_push a b homes e f = list_any-append (is_same_home a) homes (b ∷ []) ∙ rw (e, f) refl

slot_apart : (a : Access) (homes : List Access) (s : ℕ) → slot_bound (a ∷ homes) ≤ s → is_same_home a (InFrame s) ≡ false
slot_apart (InTemp t) homes s le = refl
slot_apart (InFrame r) homes s le = let lt : r < s = omega arith in grind (arith, nat_tests)

slot_rest : (a : Access) (homes : List Access) (s : ℕ) → slot_bound (a ∷ homes) ≤ s → slot_bound homes ≤ s
slot_rest (InTemp t) homes s le = le
slot_rest (InFrame r) homes s le = omega arith

temp_apart : (a : Access) (homes : List Access) (t : ℕ) → temp_bound (a ∷ homes) ≤ t → is_same_home a (InTemp (record { 0 = t })) ≡ false
temp_apart (InTemp u) homes t le = let lt : u.0 < t = omega arith in grind (arith, nat_tests)
temp_apart (InFrame r) homes t le = refl

temp_rest : (a : Access) (homes : List Access) (t : ℕ) → temp_bound (a ∷ homes) ≤ t → temp_bound homes ≤ t
temp_rest (InTemp u) homes t le = omega arith
temp_rest (InFrame r) homes t le = le

slot_differs : (homes : List Access) (s : ℕ) → IsTrue (differ homes) → slot_bound homes ≤ s → IsTrue (differ (homes ++ InFrame s ∷ []))
slot_differs [] s d le = refl
slot_differs (a ∷ homes) s d le =
    let h = both (list_any (is_same_home a) homes) (differ homes) d in
    joins (list_any (is_same_home a) (homes ++ InFrame s ∷ [])) (differ (homes ++ InFrame s ∷ []))
    (none_push a (InFrame s) homes h.0 (slot_apart a homes s le))
    (slot_differs homes s h.1 (slot_rest a homes s le))

temp_differs : (homes : List Access) (t : ℕ) → IsTrue (differ homes) → temp_bound homes ≤ t → IsTrue (differ (homes ++ InTemp (record { 0 = t }) ∷ []))
temp_differs [] t d le = refl
temp_differs (a ∷ homes) t d le =
    let h = both (list_any (is_same_home a) homes) (differ homes) d in
    joins (list_any (is_same_home a) (homes ++ InTemp (record { 0 = t }) ∷ [])) (differ (homes ++ InTemp (record { 0 = t }) ∷ []))
    (none_push a (InTemp (record { 0 = t })) homes h.0 (temp_apart a homes t le))
    (temp_differs homes t h.1 (temp_rest a homes t le))

-- one home more
pub made_slot : (asked : List Bool) (homes : List Access) (slots temps : ℕ) → Made asked homes slots temps →
    Made (asked ++ true ∷ []) (homes ++ InFrame slots ∷ []) (slots + 1) temps
made_slot asked homes slots temps m =
    record {
      exact = exact_push asked true homes slots temps m.exact m.slots_are m.temps_are;
      are = map_push homes (InFrame slots) ∙ ap (λ l. l ++ true ∷ []) m.are;
      slots_are = ap (λ n. n + 1) m.slots_are ∙ sym (slots_push asked);
      temps_are = m.temps_are ∙ sym (temps_keep asked);
      drawn = let e = length_push asked true in let d = m.drawn in omega arith;
      slots_below = slot_grows homes slots m.slots_below;
      temps_below = temp_keeps homes slots temps m.temps_below;
      distinct = slot_differs homes slots m.distinct m.slots_below;
    }

pub made_temp : (asked : List Bool) (homes : List Access) (slots temps : ℕ) → Made asked homes slots temps →
    Made (asked ++ false ∷ []) (homes ++ InTemp (record { 0 = temps }) ∷ []) slots (temps + 1)
made_temp asked homes slots temps m =
    record {
      exact = exact_push asked false homes slots temps m.exact m.slots_are m.temps_are;
      are = map_push homes (InTemp (record { 0 = temps })) ∙ ap (λ l. l ++ false ∷ []) m.are;
      slots_are = m.slots_are ∙ sym (slots_keep asked);
      temps_are = ap (λ n. n + 1) m.temps_are ∙ sym (temps_push asked);
      drawn = let e = length_push asked false in let d = m.drawn in omega arith;
      slots_below = slot_keeps homes (record { 0 = temps }) slots m.slots_below;
      temps_below = temp_grows homes temps m.temps_below;
      distinct = temp_differs homes temps m.distinct m.temps_below;
    }

-- the next one of what is asked
pub made_slot_at : (asked : List Bool) (i : ℕ) (d : Bool) (homes more : List Access) (s t s' t' : ℕ) → i < length asked →
    get_or asked i d ≡ true → Made (take i asked) homes s t → more ≡ homes ++ InFrame s ∷ [] → s' ≡ s + 1 → t' ≡ t → Made (take (i + 1) asked) more s' t'
made_slot_at asked i d homes more s t s' t' lt e m f g h =
    let w : take (i + 1) asked ≡ take i asked ++ true ∷ [] = take_more asked i d lt ∙ ap (λ b. take i asked ++ b ∷ []) e in
    rw (w, f, g, h) (made_slot (take i asked) homes s t m)

pub made_temp_at : (asked : List Bool) (i : ℕ) (d : Bool) (homes more : List Access) (s t s' t' : ℕ) → i < length asked →
    get_or asked i d ≡ false → Made (take i asked) homes s t → more ≡ homes ++ InTemp (record { 0 = t }) ∷ [] → s' ≡ s →
    t' ≡ t + 1 → Made (take (i + 1) asked) more s' t'
made_temp_at asked i d homes more s t s' t' lt e m f g h =
    let w : take (i + 1) asked ≡ take i asked ++ false ∷ [] = take_more asked i d lt ∙ ap (λ b. take i asked ++ b ∷ []) e in
    rw (w, f, g, h) (made_temp (take i asked) homes s t m)
