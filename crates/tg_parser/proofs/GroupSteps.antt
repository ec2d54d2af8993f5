-- The plain list of declarations with one more after them.
use Rattle.std.proofs.Common.{◌≡◌, Vec, Global, List, [], ◌∷◌, ◌++◌, Option, map, append_assoc, refl, sym, ap, ◌∙◌}
use Rattle.tg_syntax.specs.declared.tokens.Ident.{Ident}
use Rattle.tg_syntax.specs.declared.trees.Exp.{Exp}
use Rattle.tg_syntax.specs.declared.trees.Dec.{Dec, Types, Variable, Variable', Functions}
use Rattle.tg_syntax.specs.declared.trees.TypeDec.{TypeDec}
use Rattle.tg_syntax.specs.declared.trees.FunDec.{FunDec}
use Rattle.tg_syntax.specs.declared.trees.FunDecs.{FunDecs, out-FunDecs, roll-FunDecs}
use Rattle.tg_syntax.specs.Tree.{Decs, no_decs, types, functions, function}
use Rattle.tg_syntax.specs.Groups.{Dec as PlainDec, one_type, one_variable, one_function, snoc_dec, snoc_function}
use Rattle.tg_syntax.specs.glue.Plain.{plain, plain_type, plain_dec}
use Rattle.tg_syntax.specs.glue.Lists.{decs_of, functions_of}
use Rattle.tg_syntax.proofs.ListLaws.{plain_functions-items, plain_functions-made}

-- one more goes after what follows
behind_first : (x y : Dec) (rest : Decs) (d : PlainDec) → snoc_dec (plain_dec x (plain_dec y rest)) d ≡ plain_dec x (snoc_dec (plain_dec y rest) d)
behind_first (Variable' n t s e) y rest d = refl
behind_first (Types ts) (Types us) rest d = refl
behind_first (Types ts) (Variable' n t s e) rest d = refl
behind_first (Types ts) (Functions fs) rest d = refl
behind_first (Functions fs) (Types us) rest d = refl
behind_first (Functions fs) (Variable' n t s e) rest d = refl
behind_first (Functions fs) (Functions gs) rest d = refl

-- what stands for the last group and one more does so after others too
pub behind_others : (front : List Dec) (last : Dec) (new : List Dec) (d : PlainDec) → decs_of new ≡ snoc_dec (decs_of (last ∷ [])) d →
    decs_of (front ++ new) ≡ snoc_dec (decs_of (front ++ last ∷ [])) d
behind_others [] last new d h = h
behind_others (x ∷ []) last new d h = ap (plain_dec x) h ∙ sym (behind_first x last no_decs d)
behind_others (x ∷ y ∷ front) last new d h = ap (plain_dec x) (behind_others (y ∷ front) last new d h) ∙ sym (behind_first x y (decs_of (front ++ last ∷ [])) d)

map_end : (ts : List TypeDec) (t : TypeDec) → map plain_type (ts ++ t ∷ []) ≡ map plain_type ts ++ plain_type t ∷ []
map_end [] t = refl
map_end (u ∷ ts) t = ap (λ us. plain_type u ∷ us) (map_end ts t)

pub in_types : (ts : List TypeDec) (t : TypeDec) → decs_of (Types (ts ++ t ∷ []) ∷ []) ≡ snoc_dec (decs_of (Types ts ∷ [])) (one_type (plain_type t))
in_types ts t = ap (λ us. types us no_decs) (map_end ts t)

pub behind_no_types : (last one : Dec) (t : TypeDec) → ((ts : List TypeDec) → last ≡ Types ts → ⊥) → decs_of (one ∷ []) ≡
    snoc_dec (decs_of []) (one_type (plain_type t)) → decs_of (last ∷ one ∷ []) ≡ snoc_dec (decs_of (last ∷ [])) (one_type (plain_type t))
behind_no_types (Types ts) one t not h = absurd (not ts refl)
behind_no_types (Variable' n k s e) one t not h = ap (plain_dec (Variable' n k s e)) h
behind_no_types (Functions fs) one t not h = ap (plain_dec (Functions fs)) h

functions_end : (fs : List FunDec) (f : FunDec) → functions_of (fs ++ f ∷ []) ≡ snoc_function (functions_of fs) f.name f.params f.result (plain f.body)
functions_end [] f = refl
functions_end (g ∷ fs) f = ap (function g.name g.params g.result (plain g.body)) (functions_end fs f)

pub in_functions : (fs : FunDecs) (f : FunDec) (items : Vec FunDec Global) → items.items ≡ (out-FunDecs fs).items.items ++
    f ∷ [] → decs_of (Functions (roll-FunDecs (record { items = items })) ∷ []) ≡ snoc_dec (decs_of (Functions fs ∷ []))
    (one_function f.name f.params f.result (plain f.body))
in_functions fs f items h =
    ap (λ gs. functions gs no_decs)
    (plain_functions-made items ∙ ap functions_of h ∙ functions_end (out-FunDecs fs).items.items f
    ∙ ap (λ gs. snoc_function gs f.name f.params f.result (plain f.body)) (sym (plain_functions-items fs)))

pub behind_no_functions : (last one : Dec) (f : FunDec) → ((fs : FunDecs) → last ≡ Functions fs → ⊥) → decs_of (one ∷ []) ≡
    snoc_dec (decs_of []) (one_function f.name f.params f.result (plain f.body)) → decs_of (last ∷ one ∷ []) ≡
    snoc_dec (decs_of (last ∷ [])) (one_function f.name f.params f.result (plain f.body))
behind_no_functions (Types ts) one f not h = ap (plain_dec (Types ts)) h
behind_no_functions (Variable' n k s e) one f not h = ap (plain_dec (Variable' n k s e)) h
behind_no_functions (Functions fs) one f not h = absurd (not fs refl)

pub function_alone : (f : FunDec) (items : Vec FunDec Global) → items.items ≡ f ∷ [] →
    decs_of (Functions (roll-FunDecs (record { items = items })) ∷ []) ≡ snoc_dec (decs_of []) (one_function f.name f.params f.result (plain f.body))
function_alone f items h = ap (λ gs. functions gs no_decs) (plain_functions-made items ∙ ap functions_of h)

-- a variable begins a group always
pub variable_end : (ds : List Dec) (n : Ident) (k : Option Ident) (e : Exp) → decs_of (ds ++ Variable n k e ∷ []) ≡
    snoc_dec (decs_of ds) (one_variable n k (plain e))
variable_end [] n k e = refl
variable_end (Types ts ∷ []) n k e = refl
variable_end (Variable' m l s x ∷ []) n k e = refl
variable_end (Functions fs ∷ []) n k e = refl
variable_end (x ∷ y ∷ ds) n k e = ap (plain_dec x) (variable_end (y ∷ ds) n k e) ∙ sym (behind_first x y (decs_of ds) (one_variable n k (plain e)))

-- the list after a call: its last group taken off, and others put in its place
pub grown : (old front tail new : List Dec) (last : Dec) (d : PlainDec) → old ≡ front ++ last ∷ [] → new ≡ front ++ tail →
    decs_of tail ≡ snoc_dec (decs_of (last ∷ [])) d → decs_of new ≡ snoc_dec (decs_of old) d
grown old front tail new last d o n h = ap decs_of n ∙ behind_others front last tail d h ∙ ap (λ ds. snoc_dec (decs_of ds) d) (sym o)

pub types_grown : (old front new : List Dec) (last : Dec) (ts us : List TypeDec) (t : TypeDec) → old ≡ front ++ last ∷ [] →
    last ≡ Types ts → us ≡ ts ++ t ∷ [] → new ≡ front ++ Types us ∷ [] → decs_of new ≡ snoc_dec (decs_of old) (one_type (plain_type t))
types_grown old front new last ts us t o l u n =
    grown old front (Types us ∷ []) new last (one_type (plain_type t)) o n
    (ap (λ w. decs_of (Types w ∷ [])) u ∙ in_types ts t ∙ ap (λ x. snoc_dec (decs_of (x ∷ [])) (one_type (plain_type t))) (sym l))

pub functions_grown : (old front new : List Dec) (last : Dec) (fs : FunDecs) (items : Vec FunDec Global) (f : FunDec) →
    old ≡ front ++ last ∷ [] → last ≡ Functions fs → items.items ≡ (out-FunDecs fs).items.items ++ f ∷ [] → new ≡ front ++
    Functions (roll-FunDecs (record { items = items })) ∷ [] → decs_of new ≡ snoc_dec (decs_of old) (one_function f.name f.params f.result (plain f.body))
functions_grown old front new last fs items f o l u n =
    grown old front (Functions (roll-FunDecs (record { items = items })) ∷ []) new last (one_function f.name f.params f.result (plain f.body)) o n
    (in_functions fs f items u ∙ ap (λ x. snoc_dec (decs_of (x ∷ [])) (one_function f.name f.params f.result (plain f.body))) (sym l))

pub put_behind : (old front back new : List Dec) (last one : Dec) (d : PlainDec) → old ≡ front ++ last ∷ [] →
    back ≡ front ++ last ∷ [] → new ≡ back ++ one ∷ [] → decs_of (last ∷ one ∷ []) ≡ snoc_dec (decs_of (last ∷ [])) d → decs_of new ≡ snoc_dec (decs_of old) d
put_behind old front back new last one d o b n h =
    grown old front (last ∷ one ∷ []) new last d o (n ∙ ap (λ ds. ds ++ one ∷ []) b ∙ append_assoc front (last ∷ []) (one ∷ [])) h
