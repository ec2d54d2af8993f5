-- What stays of flat code: moves between temporaries, and its end.
use Rattle.std.proofs.Common.{ℕ, Option, zero, suc, ◌≡◌, ◌⊎◌, inl, inr, List, [], ◌∷◌, ◌++◌, Some, None, refl, sym, subst, arith, append-nil}
use Rattle.std.specs.Prelude.{IsTrue}
use Rattle.std.specs.List.{Contains}
use Rattle.std.proofs.lemmas.List.Elements.{Contains-append_left, Contains-append_right, Contains-append_cases}
use Rattle.tg_tree.specs.Shapes.{EndsCode}
use Rattle.tg_tree.specs.Tree as tree
use Rattle.tg_tree.specs.Tree.{Linear, Function}
use Rattle.tg_instr.specs.Codes.{ends_well}
use Rattle.tg_instr.specs.declared.operands.Opnd.TheVariants.{Reg}
use Rattle.tg_instr.specs.declared.instr.Instr.{Instr}
use Rattle.tg_instr.specs.declared.instr.Instr.TheVariants.{Move, Return}
use Rattle.tg_munch.specs.mirror.Choosing.{NumbersDrawn, ◌>>=◌}
use Rattle.tg_munch.specs.mirror.Munching.{temp, expression, kept_registers, given_back, element, elements}
use Rattle.tg_munch.specs.mirror.Bodies.{kept, parameters, mark_above, munched}

one_only : {X : Type 0} (e x : X) → Contains (e ∷ []) x → e ≡ x
one_only e x (zero, h, i) = i
one_only e x (suc k, h, i) = let no : ⊥ = omega arith in absurd no

in_one : (one : Instr) → Contains (one ∷ []) one
in_one one = (0, omega arith, refl)

in_either : (first rest : List Instr) (one : Instr) {P Q : Type 0} → P ⊎ Q → (P → Contains first one) → (Q → Contains rest one) → Contains (first ++ rest) one
in_either first rest one (inl p) f g = Contains-append_left first rest one (f p)
in_either first rest one (inr q) f g = Contains-append_right first rest one (g q)

elements_have : (slots keeps : ℕ) (before : Option Linear) (code : List Linear) (e : Linear) (one : Instr) →
    ((before : Option Linear) (d : NumbersDrawn) → Contains (element slots keeps before e d).code one) → Contains code e →
    (d : NumbersDrawn) → Contains (elements slots keeps before code d).code one
unfolding ◌>>=◌
elements_have slots keeps before [] e one h c d = let no : ⊥ = omega (arith, c.1) in absurd no
elements_have slots keeps before (x ∷ rest) e one h c d =
    let first = element slots keeps before x d in
    in_either first.code (elements slots keeps (Some x) rest first.drawn).code one (Contains-append_cases (x ∷ []) rest e c)
    (λ p. subst (λ y. Contains (element slots keeps before y d).code one) (sym (one_only x e p)) (h before d))
    (λ q. elements_have slots keeps (Some x) rest e one h q first.drawn)

pub moves_stay : (f : Function (List Linear)) (t s : ℕ) → Contains f.body (tree.Do' (tree.Move t (tree.Temp s))) →
    Contains (munched f).code (Move (temp t) (temp s))
unfolding ◌>>=◌
moves_stay f t s h =
    let one = kept kept_registers (record { temp = f.temps; mark = mark_above f.body }) in
    let two = parameters 0 f.params one.drawn in
    let move = Move (temp t) (temp s) in
    Contains-append_right one.code _ _ (Contains-append_right two.code _ _
    (elements_have f.slots f.temps None f.body (tree.Do' (tree.Move t (tree.Temp s))) move (λ before d. in_one move) h two.drawn))

-- the end
ends_behind : (xs ys : List Instr) → IsTrue (ends_well ys) → IsTrue (ends_well (xs ++ ys))
ends_behind [] ys h = h
ends_behind (x ∷ []) [] h = cc
ends_behind (x ∷ []) (y ∷ ys) h = h
ends_behind (x ∷ z ∷ xs) ys h = ends_behind (z ∷ xs) ys h

end_element : (slots keeps : ℕ) (before : Option Linear) (e : Linear) → EndsCode (e ∷ []) → (d : NumbersDrawn) →
    IsTrue (ends_well (element slots keeps before e d).code)
unfolding ◌>>=◌
end_element slots keeps before (tree.Jump m) h d = refl
end_element slots keeps before (tree.Fault' n) h d = refl
end_element slots keeps before (tree.Return' x) h d =
    let one = expression slots x (Some (Reg 2)) d in
    let back = (given_back keeps kept_registers one.drawn).code in
    ends_behind one.code (back ++ Return ∷ []) (ends_behind back (Return ∷ []) refl)
end_element slots keeps before _ h d = absurd h

ends_tail : (e y : Linear) (rest : List Linear) → EndsCode (e ∷ y ∷ rest) → EndsCode (y ∷ rest)
ends_tail _ y rest h = h

elements_end : (slots keeps : ℕ) (before : Option Linear) (code : List Linear) → EndsCode code → (d : NumbersDrawn) →
    IsTrue (ends_well (elements slots keeps before code d).code)
unfolding ◌>>=◌
elements_end slots keeps before [] h d = absurd h
elements_end slots keeps before (e ∷ []) h d =
    subst (λ (l : List Instr). IsTrue (ends_well l)) (sym (append-nil (element slots keeps before e d).code)) (end_element slots keeps before e h d)
elements_end slots keeps before (e ∷ y ∷ rest) h d =
    let one = element slots keeps before e d in
    ends_behind one.code (elements slots keeps (Some e) (y ∷ rest) one.drawn).code
    (elements_end slots keeps (Some e) (y ∷ rest) (ends_tail e y rest h) one.drawn)

pub code_ends : (f : Function (List Linear)) → EndsCode f.body → IsTrue (ends_well (munched f).code)
unfolding ◌>>=◌
code_ends f h =
    let one = kept kept_registers (record { temp = f.temps; mark = mark_above f.body }) in
    let two = parameters 0 f.params one.drawn in
    let rest = (elements f.slots f.temps None f.body two.drawn).code in
    ends_behind one.code (two.code ++ rest) (ends_behind two.code rest (elements_end f.slots f.temps None f.body h two.drawn))
