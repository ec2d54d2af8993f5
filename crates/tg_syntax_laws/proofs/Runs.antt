-- What a program does is determined.
use Rattle.std.proofs.Common.{◌≡◌, ℕ, Bool, true, false, List, [], ◌∷◌, Option, Some, None, refl, sym, ap, subst, ◌∙◌}
use Rattle.tg_base.specs.declared.ids.Span.{Span}
use Rattle.tg_base.specs.declared.ids.Name.{Name}
use Rattle.tg_syntax.specs.declared.tokens.Token.TheVariants as token
use Rattle.tg_syntax.specs.declared.tokens.Token.{Token}
use Rattle.tg_syntax.specs.declared.tokens.Spanned.{Spanned}
use Rattle.tg_syntax.specs.declared.tokens.Ident.{Ident}
use Rattle.tg_syntax.specs.declared.trees.Op.{Op}
use Rattle.tg_syntax.specs.Grammar.{Level, IsIdent}
use Rattle.tg_syntax_laws.specs.declared.marks.Mark.{Mark}
use Rattle.tg_syntax_laws.specs.mirror.Steps.{token_of, op_of, Answer, Got, Bad, Out, Job, Of, Steps, give, refuse, want, name, split, oper, leaf, look, test}
use Rattle.tg_syntax_laws.specs.mirror.Steps.{call}
use Rattle.tg_syntax_laws.specs.mirror.Reading.{job, Does, give_got, refuse_bad, refuse_out, want_got, want_bad, want_out, name_got, name_bad, name_out}
use Rattle.tg_syntax_laws.specs.mirror.Reading.{split_yes, split_no, split_out, oper_yes, oper_no, oper_out, leaf_yes, leaf_no, leaf_out, look_at, look_out}
use Rattle.tg_syntax_laws.specs.mirror.Reading.{test_yes, test_no, call_got, call_bad, call_out}

by_fields : (x y : Ident) → x.name ≡ y.name → x.span ≡ y.span → x ≡ y
by_fields x y e s =
    (let p : x ≡ record { name = y.name; span = x.span } = ap (λ n. let r : Ident = record { name = n; span = x.span } in r) e in p)
    ∙ (let p : record { name = y.name; span = x.span } ≡ y = ap (λ n. let r : Ident = record { name = y.name; span = n } in r) s in p)

ident_same : (a b : Name) → token.Ident a ≡ token.Ident b → a ≡ b
ident_same a b h = cc

same_name : (t : Spanned) (x y : Ident) → IsIdent t x → IsIdent t y → x ≡ y
same_name t x y h k = by_fields x y (ident_same x.name y.name (sym h.name ∙ k.name)) (sym h.span ∙ k.span)

some_is : {A : Type 0} {x y : A} {o : Option A} → o ≡ Some x → o ≡ Some y → x ≡ y
some_is h k = cc

some_none : {A C : Type 0} {x : A} {o : Option A} → o ≡ Some x → o ≡ None → C
some_none h k = cc

pub true_false : {C : Type 0} {b : Bool} → b ≡ true → b ≡ false → C
true_false h k = cc

pub got_value : {A : Type 0} {x y : A} {r s : List Spanned} → Got x r ≡ Got y s → x ≡ y
got_value h = cc

pub got_rest : {A : Type 0} {x y : A} {r s : List Spanned} → Got x r ≡ Got y s → r ≡ s
got_rest h = cc

pub got_bad : {A C : Type 0} {x : A} {t : Spanned} {r s : List Spanned} → Got x r ≡ Bad t s → C
got_bad h = cc

pub got_out : {A C : Type 0} {x : A} {r : List Spanned} → Got x r ≡ Out → C
got_out h = cc

bad_out : {A C : Type 0} {t : Spanned} {r : List Spanned} → (let a : Answer A = Bad t r in a) ≡ Out → C
bad_out h = cc

bad_as : {A B : Type 0} (t u : Spanned) (r s : List Spanned) → (let a : Answer A = Bad t r in a) ≡ Bad u s → (let a : Answer B = Bad t r in a) ≡ Bad u s
bad_as t u r s h = let e : t ≡ u = cc in let d : r ≡ s = cc in cc

give_is : {j : Job} {x : Of j} {ts : List Spanned} {z : Answer (Of j)} → Does j (give x) ts z → Got x ts ≡ z
give_is (give_got _) = refl

refuse_is : {j : Job} {t : Spanned} {ts : List Spanned} {z : Answer (Of j)} → Does j refuse (t ∷ ts) z → Bad t ts ≡ z
refuse_is (refuse_bad _) = refl

refuse_none : {j : Job} {z : Answer (Of j)} → Does j refuse [] z → Out ≡ z
refuse_none (refuse_out _) = refl

want_yes : {j : Job} {m : Mark} {f : Span → Steps (Of j)} {t : Spanned} {ts : List Spanned} {z : Answer (Of j)} →
    Does j (want m f) (t ∷ ts) z → t.token ≡ token_of m → Does j (f t.span) ts z
want_yes (want_got _ d k) e = k
want_yes (want_bad _ d) e = absurd (d e)

want_no : {j : Job} {m : Mark} {f : Span → Steps (Of j)} {t : Spanned} {ts : List Spanned} {z : Answer (Of j)} →
    Does j (want m f) (t ∷ ts) z → (t.token ≡ token_of m → ⊥) → Bad t ts ≡ z
want_no (want_got _ d k) e = absurd (e d)
want_no (want_bad _ d) e = refl

want_none : {j : Job} {m : Mark} {f : Span → Steps (Of j)} {z : Answer (Of j)} → Does j (want m f) [] z → Out ≡ z
want_none (want_out _) = refl

name_yes : {j : Job} {f : Ident → Steps (Of j)} {t : Spanned} {ts : List Spanned} {z : Answer (Of j)} (x : Ident) →
    Does j (name f) (t ∷ ts) z → IsIdent t x → Does j (f x) ts z
name_yes {j = j} {f = f} {t = t} {ts = ts} {z = z} x (name_got _ {x = y} d k) e = subst (λ w. Does j (f w) ts z) (same_name t y x d e) k
name_yes x (name_bad _ d) e = absurd (d x e)

name_no : {j : Job} {f : Ident → Steps (Of j)} {t : Spanned} {ts : List Spanned} {z : Answer (Of j)} → Does j (name f) (t ∷ ts) z →
    ((x : Ident) → IsIdent t x → ⊥) → Bad t ts ≡ z
name_no (name_got _ {x = y} d k) e = absurd (e y d)
name_no (name_bad _ d) e = refl

name_none : {j : Job} {f : Ident → Steps (Of j)} {z : Answer (Of j)} → Does j (name f) [] z → Out ≡ z
name_none (name_out _) = refl

split_is : {j : Job} {m : Mark} {f : Span → Steps (Of j)} {s : Steps (Of j)} {t : Spanned} {ts : List Spanned} {z : Answer (Of j)} →
    Does j (split m f s) (t ∷ ts) z → t.token ≡ token_of m → Does j (f t.span) ts z
split_is (split_yes _ d k) e = k
split_is (split_no _ d k) e = absurd (d e)

split_not : {j : Job} {m : Mark} {f : Span → Steps (Of j)} {s : Steps (Of j)} {t : Spanned} {ts : List Spanned} {z : Answer (Of j)} →
    Does j (split m f s) (t ∷ ts) z → (t.token ≡ token_of m → ⊥) → Does j s (t ∷ ts) z
split_not (split_yes _ d k) e = absurd (e d)
split_not (split_no _ d k) e = k

split_none : {j : Job} {m : Mark} {f : Span → Steps (Of j)} {s : Steps (Of j)} {z : Answer (Of j)} → Does j (split m f s) [] z → Out ≡ z
split_none (split_out _) = refl

oper_is : {j : Job} {k : Level} {f : Op → ℕ → Steps (Of j)} {s : Steps (Of j)} {t : Spanned} {ts : List Spanned} {z : Answer (Of j)} (o : Op) →
    Does j (oper k f s) (t ∷ ts) z → op_of k t.token ≡ Some o → Does j (f o t.span.from) ts z
oper_is {j = j} {f = f} {t = t} {ts = ts} {z = z} o (oper_yes _ p d h) e = subst (λ w. Does j (f w t.span.from) ts z) (some_is d e) h
oper_is o (oper_no _ d h) e = some_none e d

oper_not : {j : Job} {k : Level} {f : Op → ℕ → Steps (Of j)} {s : Steps (Of j)} {t : Spanned} {ts : List Spanned} {z : Answer (Of j)} →
    Does j (oper k f s) (t ∷ ts) z → op_of k t.token ≡ None → Does j s (t ∷ ts) z
oper_not (oper_yes _ p d h) e = some_none d e
oper_not (oper_no _ d h) e = h

oper_none : {j : Job} {k : Level} {f : Op → ℕ → Steps (Of j)} {s : Steps (Of j)} {z : Answer (Of j)} → Does j (oper k f s) [] z → Out ≡ z
oper_none (oper_out _) = refl

leaf_is : {j : Job} {g : Spanned → Option (Of j)} {s : Steps (Of j)} {t : Spanned} {ts : List Spanned} {z : Answer (Of j)} (x : Of j) →
    Does j (leaf g s) (t ∷ ts) z → g t ≡ Some x → Got x ts ≡ z
leaf_is {ts = ts} x (leaf_yes _ d) e = ap (λ w. Got w ts) (some_is e d)
leaf_is x (leaf_no _ d h) e = some_none e d

leaf_not : {j : Job} {g : Spanned → Option (Of j)} {s : Steps (Of j)} {t : Spanned} {ts : List Spanned} {z : Answer (Of j)} →
    Does j (leaf g s) (t ∷ ts) z → g t ≡ None → Does j s (t ∷ ts) z
leaf_not (leaf_yes _ d) e = some_none d e
leaf_not (leaf_no _ d h) e = h

leaf_none : {j : Job} {g : Spanned → Option (Of j)} {s : Steps (Of j)} {z : Answer (Of j)} → Does j (leaf g s) [] z → Out ≡ z
leaf_none (leaf_out _) = refl

look_is : {j : Job} {f : Token → Steps (Of j)} {t : Spanned} {ts : List Spanned} {z : Answer (Of j)} → Does j (look f) (t ∷ ts) z →
    Does j (f t.token) (t ∷ ts) z
look_is (look_at _ h) = h

look_none : {j : Job} {f : Token → Steps (Of j)} {z : Answer (Of j)} → Does j (look f) [] z → Out ≡ z
look_none (look_out _) = refl

test_is : {j : Job} {b : Bool} {s x : Steps (Of j)} {ts : List Spanned} {z : Answer (Of j)} → Does j (test b s x) ts z → b ≡ true → Does j s ts z
test_is (test_yes _ d h) e = h
test_is (test_no _ d h) e = true_false e d

test_not : {j : Job} {b : Bool} {s x : Steps (Of j)} {ts : List Spanned} {z : Answer (Of j)} → Does j (test b s x) ts z → b ≡ false → Does j x ts z
test_not (test_yes _ d h) e = true_false d e
test_not (test_no _ d h) e = h

-- what came of a job that was called
pub data Called (j i : Job) (f : Of i → Steps (Of j)) (ts : List Spanned) (z : Answer (Of j)) : Type 0 where
  came : (x : Of i) (rest : List Spanned) → Does i (job i) ts (Got x rest) → Does j (f x) rest z → Called j i f ts z
  failed : (t : Spanned) (rest : List Spanned) → Does i (job i) ts (Bad t rest) → Bad t rest ≡ z → Called j i f ts z
  ended : Does i (job i) ts Out → Out ≡ z → Called j i f ts z

call_is : {j i : Job} {f : Of i → Steps (Of j)} {ts : List Spanned} {z : Answer (Of j)} → Does j (call i f) ts z → Called j i f ts z
call_is (call_got _ _ {rest = rest} {x = x} a h) = came x rest a h
call_is (call_bad _ _ {rest = rest} {t = t} a) = failed t rest a refl
call_is (call_out _ _ a) = ended a refl

got_case : {j i : Job} {f : Of i → Steps (Of j)} {ts rest : List Spanned} {x : Of i} {r z : Answer (Of j)} →
    ((y : Answer (Of i)) → Does i (job i) ts y → Got x rest ≡ y) → ((y : Answer (Of j)) → Does j (f x) rest y → r ≡ y) → Called j i f ts z → r ≡ z
got_case {j = j} {f = f} {rest = rest} {x = x} {z = z} one next (came y s b k) =
    let e = one (Got y s) b in
    let v : x ≡ y = got_value e in
    let q : rest ≡ s = got_rest e in
    next z (subst (λ w. Does j (f w) rest z) (sym v) (subst (λ w. Does j (f y) w z) (sym q) k))
got_case one next (failed t s b e) = got_bad (one (Bad t s) b)
got_case one next (ended b e) = got_out (one Out b)

bad_case : {j i : Job} {f : Of i → Steps (Of j)} {ts rest : List Spanned} {t : Spanned} {z : Answer (Of j)} →
    ((y : Answer (Of i)) → Does i (job i) ts y → Bad t rest ≡ y) → Called j i f ts z → Bad t rest ≡ z
bad_case one (came y s b k) = got_bad (sym (one (Got y s) b))
bad_case {rest = rest} {t = t} one (failed u s b e) = bad_as t u rest s (one (Bad u s) b) ∙ e
bad_case one (ended b e) = bad_out (one Out b)

out_case : {j i : Job} {f : Of i → Steps (Of j)} {ts : List Spanned} {z : Answer (Of j)} →
    ((y : Answer (Of i)) → Does i (job i) ts y → Out ≡ y) → Called j i f ts z → Out ≡ z
out_case one (came y s b k) = got_out (sym (one (Got y s) b))
out_case one (failed u s b e) = bad_out (sym (one (Bad u s) b))
out_case one (ended b e) = e

-- a program has one answer
pub does_one : {j : Job} {s : Steps (Of j)} {ts : List Spanned} {r : Answer (Of j)} → Does j s ts r → (z : Answer (Of j)) → Does j s ts z → r ≡ z
does_one (give_got _) z k = give_is k
does_one (refuse_bad _) z k = refuse_is k
does_one (refuse_out _) z k = refuse_none k
does_one (want_got _ e h) z k = does_one h z (want_yes k e)
does_one (want_bad _ e) z k = want_no k e
does_one (want_out _) z k = want_none k
does_one (name_got _ {x = x} e h) z k = does_one h z (name_yes x k e)
does_one (name_bad _ e) z k = name_no k e
does_one (name_out _) z k = name_none k
does_one (split_yes _ e h) z k = does_one h z (split_is k e)
does_one (split_no _ e h) z k = does_one h z (split_not k e)
does_one (split_out _) z k = split_none k
does_one (oper_yes _ o e h) z k = does_one h z (oper_is o k e)
does_one (oper_no _ e h) z k = does_one h z (oper_not k e)
does_one (oper_out _) z k = oper_none k
does_one (leaf_yes _ {x = x} e) z k = leaf_is x k e
does_one (leaf_no _ e h) z k = does_one h z (leaf_not k e)
does_one (leaf_out _) z k = leaf_none k
does_one (look_at _ h) z k = does_one h z (look_is k)
does_one (look_out _) z k = look_none k
does_one (test_yes _ e h) z k = does_one h z (test_is k e)
does_one (test_no _ e h) z k = does_one h z (test_not k e)
does_one (call_got _ _ a h) z k = got_case (λ y b. does_one a y b) (λ y b. does_one h y b) (call_is k)
does_one (call_bad _ _ a) z k = bad_case (λ y b. does_one a y b) (call_is k)
does_one (call_out _ _ a) z k = out_case (λ y b. does_one a y b) (call_is k)
