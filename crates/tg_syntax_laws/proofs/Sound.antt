-- What an answer says: what was read is in the language of its job, or the list can go on, and no more than the next token was
-- looked at.
use Rattle.std.proofs.Common.{◌≡◌, true, false, List, [], ◌∷◌, ◌++◌, Option, Some, None, refl, sym, ap, subst, ◌∙◌, append_assoc}
use Rattle.tg_base.specs.declared.ids.Span.{Span}
use Rattle.tg_syntax.specs.declared.tokens.Word.TheVariants.{WType, WVar, WFunction}
use Rattle.tg_syntax.specs.declared.tokens.Sign.{Sign}
use Rattle.tg_syntax.specs.declared.tokens.Sign.TheVariants.{Colon, RightBrace, Equal}
use Rattle.tg_syntax.specs.declared.tokens.Token.{Token}
use Rattle.tg_syntax.specs.declared.tokens.Token.TheVariants as token
use Rattle.tg_syntax.specs.declared.tokens.Spanned.{Spanned}
use Rattle.tg_syntax.specs.declared.tokens.Ident.{Ident}
use Rattle.tg_syntax.specs.declared.trees.Param.{Param}
use Rattle.tg_syntax.specs.declared.trees.Op.{Op}
use Rattle.tg_syntax.specs.Tree.{Exp, Exps, Inits}
use Rattle.tg_syntax.specs.Grammar.{Whole, IsIdent, IsSign, IsWord, AreFields, AreAnyFields, IsForm, IsAnnotation, Reads, IsPlace, AreMany, AreAny}
use Rattle.tg_syntax.specs.Grammar.{AreInits, AreAnyInits, IsDec, AreDecs, IsProgram}
use Rattle.tg_syntax_laws.specs.declared.marks.Mark.{Mark}
use Rattle.tg_syntax_laws.specs.mirror.Steps.{token_of, op_of, Answer, Got, Bad, Out, Job, OneSpan, OneName, At, After, Suffix, Listed, Items, OneInit}
use Rattle.tg_syntax_laws.specs.mirror.Steps.{ListedInits, MoreInits, OneParam, ListedParams, MoreParams, OneForm, Annotation, TypeDec, VarDec, FunDec}
use Rattle.tg_syntax_laws.specs.mirror.Steps.{MoreDecs, Whole_program, Of, Steps, give, refuse, want, name, split, oper, leaf, look, test, call}
use Rattle.tg_syntax_laws.specs.mirror.Reading.{job, Does, give_got, refuse_bad, refuse_out, want_got, want_bad, want_out, name_got, name_bad, name_out}
use Rattle.tg_syntax_laws.specs.mirror.Reading.{split_yes, split_no, split_out, oper_yes, oper_no, oper_out, leaf_yes, leaf_no, leaf_out, look_at, look_out}
use Rattle.tg_syntax_laws.specs.mirror.Reading.{test_yes, test_no, call_got, call_bad, call_out}
use Rattle.tg_syntax_laws.proofs.Complete.{read_at, IsChain}

abbrev pub Lang : Type 0 → Type 1
Lang A = List Spanned → A → Type 0

pub record Viable {A : Type 0} (L : Lang A) : Type 0 where
  pub rest : List Spanned
  pub tree : A
  pub is : L rest tree

-- parts that jobs read
pub data IsListed (m : Sign) (c : Mark) : List Spanned → Exps × Span → Type 0 where
  listed_is : {a : List Spanned} {es : Exps} (r : Spanned) → AreAny m a es → r.token ≡ token_of c → IsListed m c (a ++ r ∷ []) (es, r.span)

pub data IsInit : List Spanned → Ident × Exp → Type 0 where
  init_is : {a : List Spanned} {e : Exp} (t q : Spanned) {x : Ident} → IsIdent t x → IsSign q Equal → Reads Whole a e → IsInit (t ∷ q ∷ a) (x, e)

pub data AreListedInits : List Spanned → Inits × Span → Type 0 where
  inits_are : {a : List Spanned} {is : Inits} (r : Spanned) → AreAnyInits a is → IsSign r RightBrace → AreListedInits (a ++ r ∷ []) (is, r.span)

pub data IsParam : List Spanned → Param → Type 0 where
  param_is : (t c u : Spanned) {x k : Ident} → IsIdent t x → IsSign c Colon → IsIdent u k → IsParam (t ∷ c ∷ u ∷ []) (record { name = x; kind = k })

pub data AreListedParams (c : Mark) : List Spanned → List Param → Type 0 where
  params_are : {a : List Spanned} {ps : List Param} (r : Spanned) → AreAnyFields a ps → r.token ≡ token_of c → AreListedParams c (a ++ r ∷ []) ps

-- the language of each job
abbrev pub Lang_of : (j : Job) → Lang (Of j)
Lang_of OneSpan u s = Unit {0}
Lang_of OneName u x = Unit {0}
Lang_of (At k) u e = Reads (read_at k) u e
Lang_of (After k l) u e = (a : List Spanned) → IsChain k → Reads k a l → Reads k (a ++ u) e
Lang_of (Suffix s v) u p = (a : List Spanned) → IsPlace a s v → IsPlace (a ++ u) p.0 p.1
Lang_of (Listed m c) u y = IsListed m c u y
Lang_of (Items m es) u y = (a : List Spanned) → AreMany m a es → AreMany m (a ++ u) y
Lang_of OneInit u i = IsInit u i
Lang_of ListedInits u y = AreListedInits u y
Lang_of (MoreInits is) u y = (a : List Spanned) → AreInits a is → AreInits (a ++ u) y
Lang_of OneParam u p = IsParam u p
Lang_of (ListedParams c) u y = AreListedParams c u y
Lang_of (MoreParams ps) u y = (a : List Spanned) → AreFields a ps → AreFields (a ++ u) y
Lang_of OneForm u f = IsForm u f
Lang_of Annotation u k = IsAnnotation u k
Lang_of TypeDec u d = (t : Spanned) → IsWord t WType → IsDec (t ∷ u) d
Lang_of VarDec u d = (t : Spanned) → IsWord t WVar → IsDec (t ∷ u) d
Lang_of FunDec u d = (t : Spanned) → IsWord t WFunction → IsDec (t ∷ u) d
Lang_of (MoreDecs ds) u y = (a : List Spanned) → AreDecs a ds → AreDecs (a ++ u) y
Lang_of Whole_program u e = IsProgram u e

-- a program stays in a language
abbrev pub Valid : {A : Type 0} → Steps A → Lang A → Type 0
Valid (give x) L = L [] x
Valid refuse L = Viable L
Valid (want m f) L = (t : Spanned) → t.token ≡ token_of m → Valid (f t.span) (λ v y. L (t ∷ v) y)
Valid (name f) L = (t : Spanned) (x : Ident) → IsIdent t x → Valid (f x) (λ v y. L (t ∷ v) y)
Valid (split m f s) L = ((t : Spanned) → t.token ≡ token_of m → Valid (f t.span) (λ v y. L (t ∷ v) y)) × Valid s L
Valid (oper k f s) L = ((t : Spanned) (o : Op) → op_of k t.token ≡ Some o → Valid (f o t.span.from) (λ v y. L (t ∷ v) y)) × Valid s L
Valid (leaf g s) L = ((t : Spanned) (x : _) → g t ≡ Some x → L (t ∷ []) x) × Valid s L
Valid (look f) L = (w : Token) → Valid (f w) L
Valid (test b s z) L = (b ≡ true → Valid s L) × (b ≡ false → Valid z L)
Valid (call i f) L = (u : List Spanned) (x : Of i) → Lang_of i u x → Valid (f x) (λ v y. L (u ++ v) y)

abbrev pub nowhere : Span
nowhere = record { from = 0; to = 0 }

abbrev pub sample : Token → Spanned
sample w = record { token = w; span = nowhere }

abbrev pub some_ident : Ident
some_ident = record { name = record { 0 = 0 }; span = nowhere }

pub record Inhabited : Type 0 where
  pub at : (i : Job) → Viable (Lang_of i)

viable_at : {A : Type 0} (L : Lang A) (u : List Spanned) → Viable (λ v y. L (u ++ v) y) → Viable L
viable_at L u h = record { rest = u ++ h.rest; tree = h.tree; is = h.is }

-- what stays in a language can be completed
viable_of : Inhabited → {A : Type 0} (s : Steps A) (L : Lang A) → Valid s L → Viable L
viable_of n (give x) L h = record { rest = []; tree = x; is = h }
viable_of n refuse L h = h
viable_of n (want m f) L h = viable_at L (sample (token_of m) ∷ [])
    (viable_of n (f nowhere) (λ v y. L (sample (token_of m) ∷ v) y) (h (sample (token_of m)) refl))
viable_of n (name f) L h =
    let t : Spanned = sample (token.Ident (record { 0 = 0 })) in
    viable_at L (t ∷ []) (viable_of n (f some_ident) (λ v y. L (t ∷ v) y) (h t some_ident (record { name = refl; span = refl })))
viable_of n (split m f s) L h = viable_of n s L h.1
viable_of n (oper k f s) L h = viable_of n s L h.1
viable_of n (leaf g s) L h = viable_of n s L h.1
viable_of n (look f) L h = viable_of n (f token.End) L (h token.End)
viable_of n (test true s z) L h = viable_of n s L (h.0 refl)
viable_of n (test false s z) L h = viable_of n z L (h.1 refl)
viable_of n (call i f) L h = let w = n.at i in viable_at L w.rest (viable_of n (f w.tree) (λ v y. L (w.rest ++ v) y) (h w.rest w.tree w.is))

abbrev pub first : List Spanned → Option Spanned
first [] = None
first (t ∷ ts) = Some t

pub data Fine (j : Job) (L : Lang (Of j)) (s : Steps (Of j)) (ts : List Spanned) : Answer (Of j) → Type 0 where
  fine_got : {x : Of j} {rest : List Spanned} (u : List Spanned) → ts ≡ u ++ rest → L u x →
      ((z : List Spanned) → first z ≡ first rest → Does j s (u ++ z) (Got x z)) → Fine j L s ts (Got x rest)
  fine_bad : {t : Spanned} {us : List Spanned} (u : List Spanned) → ts ≡ u ++ t ∷ us → Viable (λ v y. L (u ++ v) y) →
      ((z : List Spanned) → Does j s (u ++ t ∷ z) (Bad t z)) → Fine j L s ts (Bad t us)
  fine_out : Viable (λ v y. L (ts ++ v) y) → Fine j L s ts Out

-- a token is taken
took : {j : Job} {L : Lang (Of j)} {s p : Steps (Of j)} {ts : List Spanned} {r : Answer (Of j)} (t : Spanned) →
    ((z : List Spanned) (x : Answer (Of j)) → Does j s z x → Does j p (t ∷ z) x) → Fine j (λ v y. L (t ∷ v) y) s ts r → Fine j L p (t ∷ ts) r
took t f (fine_got u d l c) = fine_got (t ∷ u) (ap (λ w. t ∷ w) d) l (λ z h. f (u ++ z) _ (c z h))
took t f (fine_bad u d l c) = fine_bad (t ∷ u) (ap (λ w. t ∷ w) d) (record { rest = l.rest; tree = l.tree; is = l.is }) (λ z. f (u ++ _) _ (c z))
took t f (fine_out l) = fine_out (record { rest = l.rest; tree = l.tree; is = l.is })

begun : (s : List Spanned) (t : Spanned) → first s ≡ Some t → (us : List Spanned) × (s ≡ t ∷ us)
begun [] t h = cc
begun (x ∷ us) t h = (us, cc)

first_append : (v s t : List Spanned) → first s ≡ first t → first (v ++ s) ≡ first (v ++ t)
first_append [] s t h = h
first_append (x ∷ v) s t h = refl

-- another program from the same token on
stayed : {j : Job} {L : Lang (Of j)} {s p : Steps (Of j)} {ts : List Spanned} {r : Answer (Of j)} (t : Spanned) →
    ((z : List Spanned) (x : Answer (Of j)) → Does j s (t ∷ z) x → Does j p (t ∷ z) x) → Fine j L s (t ∷ ts) r → Fine j L p (t ∷ ts) r
stayed {j = j} {s = s} {p = p} t f (fine_got {x = x} {rest = rest} u d l c) =
    fine_got u d l (λ z h. by (u ++ z) (first_append u z rest h ∙ ap first (sym d)) (Got x z) (c z h))
  where
    by : (w : List Spanned) → first w ≡ Some t → (r : Answer (Of j)) → Does j s w r → Does j p w r
    by w e r h = let b = begun w t e in subst (λ w. Does j p w r) (sym b.1) (f b.0 r (subst (λ w. Does j s w r) b.1 h))
stayed {j = j} {s = s} {p = p} t f (fine_bad {t = q} {us = us} u d l c) =
    fine_bad u d l (λ z. by (u ++ q ∷ z) (first_append u (q ∷ z) (q ∷ us) refl ∙ ap first (sym d)) (Bad q z) (c z))
  where
    by : (w : List Spanned) → first w ≡ Some t → (r : Answer (Of j)) → Does j s w r → Does j p w r
    by w e r h = let b = begun w t e in subst (λ w. Does j p w r) (sym b.1) (f b.0 r (subst (λ w. Does j s w r) b.1 h))
stayed t f (fine_out l) = fine_out l

same : {j : Job} {L : Lang (Of j)} {s p : Steps (Of j)} {ts : List Spanned} {r : Answer (Of j)} →
    ((z : List Spanned) (x : Answer (Of j)) → Does j s z x → Does j p z x) → Fine j L s ts r → Fine j L p ts r
same f (fine_got u d l c) = fine_got u d l (λ z h. f _ _ (c z h))
same f (fine_bad u d l c) = fine_bad u d l (λ z. f _ _ (c z))
same f (fine_out l) = fine_out l

-- a job first
did : {j : Job} {L : Lang (Of j)} (i : Job) (f : Of i → Steps (Of j)) (ts u rest : List Spanned) (x : Of i) {r : Answer (Of j)} →
    ts ≡ u ++ rest → ((z : List Spanned) → first z ≡ first rest → Does i (job i) (u ++ z) (Got x z)) →
    Fine j (λ v y. L (u ++ v) y) (f x) rest r → Fine j L (call i f) ts r
did {j = j} {L = L} i f ts u rest x e c (fine_got {x = y} {rest = after} v d l k) =
    fine_got (u ++ v) (e ∙ ap (λ w. u ++ w) d ∙ sym (append_assoc u v after)) l
    (λ z h. subst (λ w. Does j (call i f) w (Got y z)) (sym (append_assoc u v z))
    (call_got j i (c (v ++ z) (first_append v z after h ∙ ap first (sym d))) (k z h)))
did {j = j} {L = L} i f ts u rest x e c (fine_bad {t = t} {us = us} v d l k) =
    fine_bad (u ++ v) (e ∙ ap (λ w. u ++ w) d ∙ sym (append_assoc u v (t ∷ us)))
    (record { rest = l.rest; tree = l.tree; is = subst (λ w. L w l.tree) (sym (append_assoc u v l.rest)) l.is })
    (λ z. subst (λ w. Does j (call i f) w (Bad t z)) (sym (append_assoc u v (t ∷ z)))
    (call_got j i (c (v ++ t ∷ z) (first_append v (t ∷ z) (t ∷ us) refl ∙ ap first (sym d))) (k z)))
did {L = L} i f ts u rest x e c (fine_out l) =
    fine_out (record { rest = l.rest; tree = l.tree; is = subst (λ w. L w l.tree) (sym (append_assoc u rest l.rest) ∙ ap (λ w. w ++ l.rest) (sym e)) l.is })

-- a part of a job is completed, then the rest
through : Inhabited → {A : Type 0} (L : Lang A) (i : Job) (f : Of i → Steps A) (u : List Spanned) → Valid (call i f) L →
    Viable (λ v y. Lang_of i (u ++ v) y) → Viable (λ v y. L (u ++ v) y)
through n L i f u v h =
    let k = viable_of n (f h.tree) (λ w y. L ((u ++ h.rest) ++ w) y) (v (u ++ h.rest) h.tree h.is) in
    record { rest = h.rest ++ k.rest; tree = k.tree; is = subst (λ w. L w k.tree) (append_assoc u h.rest k.rest) k.is }

pub record AllValid : Type 0 where
  pub jobs : (i : Job) → Valid (job i) (Lang_of i)
  pub inhabited : Inhabited

bad_job : AllValid → {j : Job} (L : Lang (Of j)) (i : Job) (f : Of i → Steps (Of j)) (ts : List Spanned) (t : Spanned) (us : List Spanned) →
    Valid (call i f) L → Fine i (Lang_of i) (job i) ts (Bad t us) → Fine j L (call i f) ts (Bad t us)
bad_job n {j = j} L i f ts t us v (fine_bad u d l c) = fine_bad u d (through n.inhabited L i f u v l) (λ z. call_bad j i (c z))

out_job : AllValid → {j : Job} (L : Lang (Of j)) (i : Job) (f : Of i → Steps (Of j)) (ts : List Spanned) → Valid (call i f) L →
    Fine i (Lang_of i) (job i) ts Out → Fine j L (call i f) ts Out
out_job n {j = j} L i f ts v (fine_out l) = fine_out (through n.inhabited L i f ts v l)

got_job : {i : Job} {ts rest : List Spanned} {x : Of i} (C : Type 0) → Fine i (Lang_of i) (job i) ts (Got x rest) →
    ((u : List Spanned) → ts ≡ u ++ rest → Lang_of i u x → ((z : List Spanned) → first z ≡ first rest → Does i (job i) (u ++ z) (Got x z)) → C) → C
got_job C (fine_got u d l c) k = k u d l c

pub fine : AllValid → {j : Job} {s : Steps (Of j)} {ts : List Spanned} {r : Answer (Of j)} → Does j s ts r → (L : Lang (Of j)) → Valid s L → Fine j L s ts r
fine n (give_got j) L v = fine_got [] refl v (λ z h. give_got j)
fine n (refuse_bad j) L v = fine_bad [] refl v (λ z. refuse_bad j)
fine n (refuse_out j) L v = fine_out v
fine n (want_got j {t = t} e h) L v = took t (λ z x d. want_got j e d) (fine n h (λ w y. L (t ∷ w) y) (v t e))
fine n (want_bad j {m = m} {f = f} e) L v = fine_bad [] refl (viable_of n.inhabited (want m f) L v) (λ z. want_bad j e)
fine n (want_out j {m = m} {f = f}) L v = fine_out (viable_of n.inhabited (want m f) L v)
fine n (name_got j {t = t} {x = x} e h) L v = took t (λ z r d. name_got j e d) (fine n h (λ w y. L (t ∷ w) y) (v t x e))
fine n (name_bad j {f = f} e) L v = fine_bad [] refl (viable_of n.inhabited (name f) L v) (λ z. name_bad j e)
fine n (name_out j {f = f}) L v = fine_out (viable_of n.inhabited (name f) L v)
fine n (split_yes j {t = t} e h) L v = took t (λ z r d. split_yes j e d) (fine n h (λ w y. L (t ∷ w) y) (v.0 t e))
fine n (split_no j {t = t} e h) L v = stayed t (λ z r d. split_no j e d) (fine n h L v.1)
fine n (split_out j {m = m} {f = f} {s = s}) L v = fine_out (viable_of n.inhabited s L v.1)
fine n (oper_yes j {t = t} o e h) L v = took t (λ z r d. oper_yes j o e d) (fine n h (λ w y. L (t ∷ w) y) (v.0 t o e))
fine n (oper_no j {t = t} e h) L v = stayed t (λ z r d. oper_no j e d) (fine n h L v.1)
fine n (oper_out j {s = s}) L v = fine_out (viable_of n.inhabited s L v.1)
fine n (leaf_yes j {t = t} {x = x} e) L v = fine_got (t ∷ []) refl (v.0 t x e) (λ z h. leaf_yes j e)
fine n (leaf_no j {t = t} e h) L v = stayed t (λ z r d. leaf_no j e d) (fine n h L v.1)
fine n (leaf_out j {s = s}) L v = fine_out (viable_of n.inhabited s L v.1)
fine n (look_at j {t = t} h) L v = stayed t (λ z r d. look_at j d) (fine n h L (v t.token))
fine n (look_out j {f = f}) L v = fine_out (viable_of n.inhabited (f token.End) L (v token.End))
fine n (test_yes j e h) L v = same (λ z r d. test_yes j e d) (fine n h L (v.0 e))
fine n (test_no j e h) L v = same (λ z r d. test_no j e d) (fine n h L (v.1 e))
fine n (call_got j i {f = f} {ts = ts} {rest = rest} {x = x} {r = r} a h) L v =
    got_job (Fine j L (call i f) ts r) (fine n a (Lang_of i) (n.jobs i)) (λ u d l c. did i f ts u rest x d c (fine n h (λ w y. L (u ++ w) y) (v u x l)))
fine n (call_bad j i {f = f} {ts = ts} {rest = rest} {t = t} a) L v = bad_job n L i f ts t rest v (fine n a (Lang_of i) (n.jobs i))
fine n (call_out j i {f = f} {ts = ts} a) L v = out_job n L i f ts v (fine n a (Lang_of i) (n.jobs i))
