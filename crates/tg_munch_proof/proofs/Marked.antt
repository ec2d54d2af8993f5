-- Where a mark of flat code stands among the instructions, with what is chosen for the elements after it.
use Rattle.std.proofs.Common.{◌≡◌, ◌≤◌, ℕ, List, [], ◌∷◌, ◌++◌, append_assoc, Bool, true, false, refl, sym, ap, ◌∙◌, subst}
use Rattle.std.proofs.Common.{arith}
use Rattle.std.proofs.lemmas.Bool.Decides.{nat_tests}
use Rattle.std.proofs.lemmas.Bool.{eqb-true}
use Rattle.std.specs.Prelude.{◌==◌, ◌&&◌, ◌||◌, not, IsTrue, Option, Some, None, if◌then◌else◌}
use Rattle.std.specs.List.{list_any}
use Rattle.tg_tree.specs.Tree as tree
use Rattle.tg_tree.specs.Tree.{Linear}
use Rattle.tg_tree.specs.Flat as flat
use Rattle.tg_instr.specs.declared.instr.Instr.{Instr}
use Rattle.tg_instr.specs.declared.instr.Instr.TheVariants.{Mark}
use Rattle.tg_instr.specs.Codes.{is_mark, marks_differ}
use Rattle.tg_instr.specs.Running.{behind}
use Rattle.tg_munch.specs.mirror.Choosing.{NumbersDrawn, ◌>>=◌}
use Rattle.tg_munch.specs.mirror.Munching.{element, elements}
use Rattle.tg_munch_proof.proofs.Growing.{element_grows}

some_is : {X : Type 0} (x y : X) → Some x ≡ Some y → x ≡ y
some_is x y e = cc

none_is : {X : Type 0} (x : X) → None ≡ Some x → ⊥
none_is x e = cc

module _ (slots keeps : ℕ) where
  -- the instructions of elements, with a mark and what is after it
  pub record Found (m : ℕ) (before : Option Linear) (es rest : List Linear) (d : NumbersDrawn) : Type 0 where
    pub drawn : NumbersDrawn
    pub front : List Instr
    pub grows : d.temp ≤ drawn.temp
    pub is : (elements slots keeps before es d).code ≡ front ++ (Mark m ∷ (elements slots keeps (Some (tree.Mark m))
        rest drawn).code)

  pub further : (m : ℕ) (before : Option Linear) (e : Linear) (es rest : List Linear) (d : NumbersDrawn) →
      Found m (Some e) es rest (element slots keeps before e d).drawn → Found m before (e ∷ es) rest d
  unfolding ◌>>=◌
  further m before e es rest d f = record {
    drawn = f.drawn;
    front = (element slots keeps before e d).code ++ f.front;
    grows =
        let one = (element_grows slots keeps before e).temps d in
        let two = f.grows in
        omega (arith, one, two);
    is = ap (λ xs. (element slots keeps before e d).code ++ xs) f.is ∙
        sym (append_assoc (element slots keeps before e d).code f.front (Mark m ∷ (elements slots keeps (Some
        (tree.Mark m)) rest f.drawn).code));
  }

  here : (m : ℕ) (before : Option Linear) (es rest : List Linear) (d : NumbersDrawn) → es ≡ rest → Found m before (tree.Mark
      m ∷ es) rest d
  unfolding ◌>>=◌
  here m before es rest d e = record {
    drawn = d;
    front = [];
    grows = omega arith;
    is = ap (λ xs. Mark m ∷ (elements slots keeps (Some (tree.Mark m)) xs d).code) e;
  }

  at_mark : (m k : ℕ) (before : Option Linear) (es rest : List Linear) (d : NumbersDrawn) (b : Bool) → (k == m) ≡ b →
      (if b then Some es else flat.behind m es) ≡ Some rest →
      (flat.behind m es ≡ Some rest → Found m (Some (tree.Mark k)) es rest (element slots keeps before (tree.Mark k)
      d).drawn) →
      Found m before (tree.Mark k ∷ es) rest d
  at_mark m k before es rest d true e h next =
      subst (λ j. Found m before (tree.Mark j ∷ es) rest d) (sym (eqb-true k m e)) (here m before es rest d (some_is
      es rest h))
  at_mark m k before es rest d false e h next = further m before (tree.Mark k) es rest d (next h)

  pub found : (m : ℕ) (before : Option Linear) (es rest : List Linear) (d : NumbersDrawn) → flat.behind m es ≡ Some rest →
      Found m before es rest d
  found m before [] rest d h = absurd (none_is rest h)
  found m before (tree.Mark k ∷ es) rest d h = at_mark m k before es rest d (k == m) refl h (λ g. found m (Some
      (tree.Mark k)) es rest _ g)
  found m before (e ∷ es) rest d h = further m before e es rest d (found m (Some e) es rest _ h)

-- in code whose marks differ what is after a mark is what stands after it
none_before : (m : ℕ) (front rest : List Instr) → list_any (is_mark m) (front ++ (Mark m ∷ rest)) ≡ true
none_before m [] rest = ap (λ (b : Bool). b || list_any (is_mark m) rest) (itself m)
  where
    itself : (i : ℕ) → (i == i) ≡ true
    itself i = grind (arith, nat_tests)
none_before m (x ∷ front) rest = or_true (is_mark m x) (list_any (is_mark m) (front ++ (Mark m ∷ rest))) (none_before
    m front rest)
  where
    or_true : (a b : Bool) → b ≡ true → (a || b) ≡ true
    or_true true b e = refl
    or_true false b e = e

pub behind_is : (m : ℕ) (front rest : List Instr) → IsTrue (marks_differ (front ++ (Mark m ∷ rest))) → behind m
    (front ++ (Mark m ∷ rest)) ≡ Some rest
behind_is m [] rest h = ap (λ (b : Bool). if b then Some rest else behind m rest) (itself m)
  where
    itself : (i : ℕ) → (i == i) ≡ true
    itself i = grind (arith, nat_tests)
behind_is m (Mark k ∷ front) rest h = by (k == m) refl h (λ g. behind_is m front rest g)
  where
    no : false ≡ true → ⊥
    no e = cc

    parts : (a b : Bool) → IsTrue (not a && b) → (a ≡ true → ⊥) × IsTrue b
    parts true b h = absurd (no h)
    parts false b h = (λ e. cc, h)

    by : (b : Bool) → (k == m) ≡ b → IsTrue (not (list_any (is_mark k) (front ++ (Mark m ∷ rest))) && marks_differ
        (front ++ (Mark m ∷ rest))) →
        (IsTrue (marks_differ (front ++ (Mark m ∷ rest))) → behind m (front ++ (Mark m ∷ rest)) ≡ Some rest) →
        (if (k == m) then Some (front ++ (Mark m ∷ rest)) else behind m (front ++ (Mark m ∷ rest))) ≡ Some rest
    by true e h next =
        let same : k ≡ m = eqb-true k m e in
        absurd ((parts (list_any (is_mark k) (front ++ (Mark m ∷ rest))) _ h).0 (ap (λ j. list_any (is_mark j) (front
        ++ (Mark m ∷ rest))) same ∙ none_before m front rest))
    by false e h next =
        ap (λ (b : Bool). if b then Some (front ++ (Mark m ∷ rest)) else behind m (front ++ (Mark m ∷ rest))) e ∙
        next (parts (list_any (is_mark k) (front ++ (Mark m ∷ rest))) _ h).1
behind_is m (x ∷ front) rest h = behind_is m front rest h
