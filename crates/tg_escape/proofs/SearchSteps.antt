-- Walks over a tree, one part after another.
use Rattle.std.proofs.Common.{◌≡◌, ℕ, ◌+◌, ◌<◌, ◌≤◌, List, [], ◌∷◌, ◌++◌, true, false, Option, Some, None, IsSome, ◌↔◌, option_to_list, length, drop}
use Rattle.std.proofs.Common.{get_or, refl, sym, ap, ◌∙◌, subst, arith, append_assoc, length-append}
use Rattle.std.proofs.Math.Seq.{drop-length}
use Rattle.std.proofs.lemmas.List.{drop_more, get_or_default, same_from_push}
use Rattle.tg_syntax.specs.declared.trees.Exp.{Exp as CodeExp}
use Rattle.tg_syntax.specs.declared.trees.Init.{Init as CodeInit}
use Rattle.tg_syntax.specs.declared.trees.Dec.{Dec as CodeDec, Types, Variable', Functions}
use Rattle.tg_syntax.specs.declared.trees.FunDec.{FunDec as CodeFunDec}
use Rattle.tg_syntax.specs.declared.trees.Exps.{Exps as CodeExps, out-Exps}
use Rattle.tg_syntax.specs.declared.trees.Inits.{Inits as CodeInits, out-Inits}
use Rattle.tg_syntax.specs.declared.trees.FunDecs.{FunDecs as CodeFunDecs, out-FunDecs}
use Rattle.tg_syntax.specs.declared.tokens.Ident.{Ident}
use Rattle.tg_syntax.specs.declared.trees.Param.{Param}
use Rattle.tg_syntax.specs.Tree.{Exp, Decs, no_decs, types, variable, functions, FunDecs, no_functions, function}
use Rattle.tg_syntax.specs.glue.Plain.{plain, plain_exps, plain_inits, plain_functions, plain_dec}
use Rattle.tg_syntax.specs.glue.Lists.{exps_of, inits_of, decs_of, functions_of}
use Rattle.tg_syntax.proofs.ListLaws.{plain_exps-items, plain_inits-items, plain_functions-items}
use Rattle.tg_escape.specs.declared.searches.Search.{Search}
use Rattle.tg_escape.specs.Uses.{Seen, Use, a_function, declare, declare_variable, declare_params, declare_functions, declare_all, uses, exps_uses}
use Rattle.tg_escape.specs.Uses.{inits_uses, decs_uses, functions_uses, function_uses, uses_of}
use Rattle.tg_escape.specs.glue.Searches.{Finds, FindsUses, FindsDeclared, Declares, with_uses}

-- nothing is used, and nothing is declared
pub nothing : {s : Search} → Finds s s s.table (λ after. after)
nothing = record { table = refl; within = refl; found = λ after. refl }

-- names are declared, and no use is found
pub declares : {a b : Search} {seen : Seen} → b.table ≡ seen → b.within.items ≡ a.within.items → b.found ≡ a.found → Finds a b seen (λ after. after)
declares t w f = record { table = t; within = w; found = λ after. ap (λ s. with_uses after s) (sym f) }

-- one text after another, which sees what is declared then
pub behind : {a b c : Search} {seen : Seen} {first : List Use → List Use} (later : List ℕ → Seen → Seen) (next : List ℕ → Seen → List Use → List Use) →
    Finds a b seen first → Finds b c (later b.within.items b.table) (next b.within.items b.table) →
    Finds a c (later a.within.items seen) (λ after. first (next a.within.items seen after))
behind {a = a} {b = b} {c = c} {seen = seen} later next m n =
    let o : Finds b c (later b.within.items seen) (next b.within.items seen) = subst (λ s. Finds b c (later b.within.items s) (next b.within.items s)) m.table n in
    let p : Finds b c (later a.within.items seen) (next a.within.items seen) = subst (λ w. Finds b c (later w seen) (next w seen)) m.within o in
    record { table = p.table; within = p.within ∙ m.within; found = λ after. m.found (next a.within.items seen after) ∙ p.found after }

-- a scope's end
pub closed : {a b c : Search} {seen : Seen} {inner : List Use → List Use} {len : ℕ} (front : Seen) → Finds a b seen inner → seen ≡ front ++ a.table →
    ((more back : Seen) → b.table ≡ more ++ back → length back ≡ len → c.table ≡ back) → len ≡ length a.table → c.within ≡ b.within → c.found ≡ b.found →
    Finds a c a.table inner
closed {a = a} front f e cut l w s =
    record {
      table = cut front a.table (f.table ∙ e) (sym l);
      within = ap (λ v. v.items) w ∙ f.within;
      found = λ after. f.found after ∙ ap (λ x. with_uses after x) (sym s);
    }

-- one more of a list
from_here : {A : Type 0} (xs : List A) (k : ℕ) (x : A) → k < length xs → x ≡ get_or xs k x → drop k xs ≡ x ∷ drop (k + 1) xs
from_here xs k x l i = drop_more xs k x l ∙ ap (λ y. y ∷ drop (k + 1) xs) (sym i)

none_left : {A : Type 0} (xs : List A) (k : ℕ) → k ≡ length xs → drop k xs ≡ []
none_left xs k e = ap (λ j. drop j xs) e ∙ drop-length xs

-- the uses in a list's parts, one after another
abbrev pub in_order : {X : Type 0} → (X → List Use → List Use) → List X → List Use → List Use
in_order f [] after = after
in_order f (x ∷ xs) after = f x (in_order f xs after)

-- a walk over a list, up to a part of it
pub record WalkedTo {X : Type 0} (first now : Search) (part : X → List Use → List Use) (xs : List X) (k : ℕ) : Type 0 where
  pub table : now.table ≡ first.table
  pub within : now.within.items ≡ first.within.items
  pub found : (after : List Use) → with_uses (in_order part xs after) first.found ≡ with_uses (in_order part (drop k xs) after) now.found

pub walk_begins : {X : Type 0} {s : Search} {part : X → List Use → List Use} {xs : List X} → WalkedTo s s part xs 0
walk_begins = record { table = refl; within = refl; found = λ after. refl }

pub walk_on : {X : Type 0} {a b c : Search} {xs : List X} {k : ℕ} (part : List ℕ → Seen → X → List Use → List Use) (x : X) →
    WalkedTo a b (part a.within.items a.table) xs k → k < length xs → x ≡ get_or xs k x → FindsUses b c (λ within seen. part within seen x) →
    WalkedTo a c (part a.within.items a.table) xs (k + 1)
walk_on {a = a} {b = b} {c = c} {xs = xs} {k = k} part x w l i f =
    let g : Finds b c a.table (part b.within.items a.table x) = subst (λ s. Finds b c s (part b.within.items s x)) w.table f in
    let h : Finds b c a.table (part a.within.items a.table x) = subst (λ v. Finds b c a.table (part v a.table x)) w.within g in
    record {
      table = h.table;
      within = h.within ∙ w.within;
      found =
          λ after. w.found after ∙ (ap (λ ys. with_uses (in_order (part a.within.items a.table) ys after) b.found) (from_here xs k x l i) ∙ h.found
          (in_order (part a.within.items a.table) (drop (k + 1) xs) after));
    }

pub walk_ends : {X : Type 0} {a b : Search} {xs : List X} {k : ℕ} {part : X → List Use → List Use} → WalkedTo a b part xs k → k ≡ length xs →
    Finds a b a.table (in_order part xs)
walk_ends {b = b} {xs = xs} {k = k} {part = part} w e = record {
  table = w.table;
  within = w.within;
  found = λ after. w.found after ∙ ap (λ ys. with_uses (in_order part ys after) b.found) (none_left xs k e);
}

-- another way to say what is used
pub uses_are : {a b : Search} {seen : Seen} {these others : List Use → List Use} → ((after : List Use) → others after ≡ these after) →
    Finds a b seen these → Finds a b seen others
uses_are {a = a} e f = record { table = f.table; within = f.within; found = λ after. ap (λ l. with_uses l a.found) (e after) ∙ f.found after }

-- the lists of a tree
abbrev pub uses_in_exp : (within : List ℕ) → Seen → CodeExp → List Use → List Use
uses_in_exp within seen e = uses (plain e) within seen

abbrev pub uses_in_init : (within : List ℕ) → Seen → CodeInit → List Use → List Use
uses_in_init within seen i = uses (plain i.value) within seen

abbrev pub uses_in_function : (within : List ℕ) → Seen → CodeFunDec → List Use → List Use
uses_in_function within seen f = function_uses f.name f.params (plain f.body) within seen

exps_in : (within : List ℕ) (seen : Seen) (es : List CodeExp) (after : List Use) →
    exps_uses (exps_of es) within seen after ≡ in_order (uses_in_exp within seen) es after
exps_in within seen [] after = refl
exps_in within seen (e ∷ es) after = ap (λ l. uses (plain e) within seen l) (exps_in within seen es after)

pub exps_are : (within : List ℕ) (seen : Seen) (es : CodeExps) (after : List Use) →
    exps_uses (plain_exps es) within seen after ≡ in_order (uses_in_exp within seen) (out-Exps es).items.items after
exps_are within seen es after = ap (λ x. exps_uses x within seen after) (plain_exps-items es) ∙ exps_in within seen (out-Exps es).items.items after

inits_in : (within : List ℕ) (seen : Seen) (is : List CodeInit) (after : List Use) →
    inits_uses (inits_of is) within seen after ≡ in_order (uses_in_init within seen) is after
inits_in within seen [] after = refl
inits_in within seen (i ∷ is) after = ap (λ l. uses (plain i.value) within seen l) (inits_in within seen is after)

pub inits_are : (within : List ℕ) (seen : Seen) (is : CodeInits) (after : List Use) →
    inits_uses (plain_inits is) within seen after ≡ in_order (uses_in_init within seen) (out-Inits is).items.items after
inits_are within seen is after = ap (λ x. inits_uses x within seen after) (plain_inits-items is) ∙ inits_in within seen (out-Inits is).items.items after

functions_in : (within : List ℕ) (seen : Seen) (fs : List CodeFunDec) (after : List Use) →
    functions_uses (functions_of fs) within seen after ≡ in_order (uses_in_function within seen) fs after
functions_in within seen [] after = refl
functions_in within seen (f ∷ fs) after = ap (λ l. uses_in_function within seen f l) (functions_in within seen fs after)

pub functions_are : (within : List ℕ) (seen : Seen) (fs : CodeFunDecs) (after : List Use) →
    functions_uses (plain_functions fs) within seen after ≡ in_order (uses_in_function within seen) (out-FunDecs fs).items.items after
functions_are within seen fs after =
    ap (λ x. functions_uses x within seen after) (plain_functions-items fs) ∙ functions_in within seen (out-FunDecs fs).items.items after

-- declarations, each of which the later ones see
pub record DeclaredTo (first now : Search) (around : List ℕ) (ds : List CodeDec) (k : ℕ) : Type 0 where
  pub within : now.within.items ≡ around
  pub table : declare_all (length around) (decs_of ds) first.table ≡ declare_all (length around) (decs_of (drop k ds)) now.table
  pub found : (after : List Use) → with_uses (decs_uses (decs_of ds) around first.table after) first.found ≡ with_uses
      (decs_uses (decs_of (drop k ds)) around now.table after) now.found

pub decs_begin : {s : Search} {ds : List CodeDec} → DeclaredTo s s s.within.items ds 0
decs_begin = record { within = refl; table = refl; found = λ after. refl }

abbrev Opened : (old new : Seen) → Type 0
Opened old new = (front : Seen) × (new ≡ front ++ old)

opened_both : {a b c : Seen} → Opened a b → Opened b c → Opened a c
opened_both {a = a} m n = (n.0 ++ m.0, n.1 ∙ (ap (λ x. n.0 ++ x) m.1 ∙ sym (append_assoc n.0 m.0 a)))

pub params_open : (level : ℕ) (ps : List Param) (seen : Seen) → (front : Seen) × (declare_params level ps seen ≡ front ++ seen)
params_open level [] seen = ([], refl)
params_open level (p ∷ ps) seen = opened_both (_ ∷ [], refl) (params_open level ps (declare_variable level p.name seen))

functions_open : (level : ℕ) (fs : FunDecs) (seen : Seen) → Opened seen (declare_functions level fs seen)
functions_open level no_functions seen = ([], refl)
functions_open level (function f _ _ _ rest) seen = opened_both (_ ∷ [], refl) (functions_open level rest (declare f (a_function level) seen))

pub decs_open : (level : ℕ) (ds : Decs) (seen : Seen) → (front : Seen) × (declare_all level ds seen ≡ front ++ seen)
decs_open level no_decs seen = ([], refl)
decs_open level (types _ rest) seen = decs_open level rest seen
decs_open level (variable x _ _ rest) seen = opened_both (_ ∷ [], refl) (decs_open level rest (declare_variable level x seen))
decs_open level (functions fs rest) seen = opened_both (functions_open level fs seen) (decs_open level rest (declare_functions level fs seen))

dec_table : (level : ℕ) (d : CodeDec) (rest : Decs) (seen : Seen) →
    declare_all level (plain_dec d rest) seen ≡ declare_all level rest (declare_all level (plain_dec d no_decs) seen)
dec_table level (Types ds) rest seen = refl
dec_table level (Variable' x t s e) rest seen = refl
dec_table level (Functions fs) rest seen = refl

dec_uses : (within : List ℕ) (d : CodeDec) (rest : Decs) (seen : Seen) (after : List Use) →
    decs_uses (plain_dec d rest) within seen after ≡ decs_uses (plain_dec d no_decs) within seen
    (decs_uses rest within (declare_all (length within) (plain_dec d no_decs) seen) after)
dec_uses within (Types ds) rest seen after = refl
dec_uses within (Variable' x t s e) rest seen after = refl
dec_uses within (Functions fs) rest seen after = refl

pub dec_more : {a b c : Search} {within : List ℕ} {ds : List CodeDec} {k : ℕ} (d : CodeDec) → DeclaredTo a b within ds k → k < length ds →
    d ≡ get_or ds k d → FindsDeclared b c (plain_dec d no_decs) → DeclaredTo a c within ds (k + 1)
dec_more {a = a} {b = b} {c = c} {within = within} {ds = ds} {k = k} d w l i f =
    let rest : Decs = decs_of (drop (k + 1) ds) in
    let g : Finds b c (declare_all (length within) (plain_dec d no_decs) b.table) (decs_uses (plain_dec d no_decs) within b.table) =
    subst (λ v. Finds b c (declare_all (length v) (plain_dec d no_decs) b.table) (decs_uses (plain_dec d no_decs) v b.table)) w.within f in
    record {
      within = g.within ∙ w.within;
      table =
          w.table ∙ (ap (λ x. declare_all (length within) (decs_of x) b.table) (from_here ds k d l i)
          ∙ (dec_table (length within) d rest b.table ∙ ap (λ s. declare_all (length within) rest s) (sym g.table)));
      found =
          λ after. w.found after ∙ (ap (λ x. with_uses (decs_uses (decs_of x) within b.table after) b.found) (from_here ds k d l i)
          ∙ (ap (λ x. with_uses x b.found) (dec_uses within d rest b.table after)
          ∙ (g.found _ ∙ ap (λ s. with_uses (decs_uses rest within s after) c.found) (sym g.table))));
    }

pub decs_end : {a b : Search} {ds : List CodeDec} {k : ℕ} → DeclaredTo a b a.within.items ds k → k ≡ length ds → FindsDeclared a b (decs_of ds)
decs_end {a = a} {b = b} {ds = ds} {k = k} w e = record {
  table = sym (w.table ∙ ap (λ x. declare_all (length a.within.items) (decs_of x) b.table) (none_left ds k e));
  within = w.within;
  found = λ after. w.found after ∙ ap (λ x. with_uses (decs_uses (decs_of x) a.within.items b.table after) b.found) (none_left ds k e);
}

-- names that are declared one after another
pub record NamedTo {X : Type 0} (first now : Search) (all : List X → Seen → Seen) (xs : List X) (k : ℕ) : Type 0 where
  pub table : all xs first.table ≡ all (drop k xs) now.table
  pub within : now.within.items ≡ first.within.items
  pub found : now.found ≡ first.found

pub names_begin : {X : Type 0} {s : Search} {all : List X → Seen → Seen} {xs : List X} → NamedTo s s all xs 0
names_begin = record { table = refl; within = refl; found = refl }

abbrev pub all_functions : (level : ℕ) → List CodeFunDec → Seen → Seen
all_functions level fs seen = declare_functions level (functions_of fs) seen

abbrev no_name : Ident
no_name = record { name = record { 0 = 0 }; span = record { from = 0; to = 0 } }

abbrev param_at : List Param → ℕ → Param
param_at ps k = get_or ps k (record { name = no_name; kind = no_name })

pub one_param : {a b c : Search} {k : ℕ} {ps : List Param} → NamedTo a b (declare_params (length a.within.items)) ps k → k < length ps →
    Declares b c (λ level. declare_variable level (param_at ps k).name) → NamedTo a c (declare_params (length a.within.items)) ps (k + 1)
one_param {a = a} {b = b} {c = c} {k = k} {ps = ps} w l f =
    let g : Finds b c (declare_variable (length a.within.items) (param_at ps k).name b.table) (λ after. after) =
    subst (λ v. Finds b c (declare_variable (length v) (param_at ps k).name b.table) (λ after. after)) w.within f in
    record {
      table =
          w.table ∙ (ap (λ xs. declare_params (length a.within.items) xs b.table) (from_here ps k (param_at ps k) l (get_or_default ps k _ _ l)) ∙ ap
          (λ s. declare_params (length a.within.items) (drop (k + 1) ps) s) (sym g.table));
      within = g.within ∙ w.within;
      found = sym (g.found []) ∙ w.found;
    }

pub one_function : {a b c : Search} {level k : ℕ} {fs : List CodeFunDec} (f : CodeFunDec) → NamedTo a b (all_functions level) fs k → k < length fs →
    f ≡ get_or fs k f → c.table ≡ declare f.name (a_function level) b.table → c.within ≡ b.within → c.found ≡ b.found →
    NamedTo a c (all_functions level) fs (k + 1)
one_function {b = b} {level = level} {k = k} {fs = fs} f w l i t v e = record {
  table = w.table ∙ (ap (λ xs. all_functions level xs b.table) (from_here fs k f l i) ∙ ap (λ s. all_functions level (drop (k + 1) fs) s) (sym t));
  within = ap (λ v. v.items) v ∙ w.within;
  found = e ∙ w.found;
}

pub params_end : {a b : Search} {level k : ℕ} {ps : List Param} → NamedTo a b (declare_params level) ps k → k ≡ length ps →
    Finds a b (declare_params level ps a.table) (λ after. after)
params_end {b = b} {level = level} {k = k} {ps = ps} w e =
    declares (sym (w.table ∙ ap (λ xs. declare_params level xs b.table) (none_left ps k e))) w.within w.found

pub functions_end : {a b : Search} {level k : ℕ} (fs : CodeFunDecs) {items : List CodeFunDec} → items ≡ (out-FunDecs fs).items.items →
    NamedTo a b (all_functions level) items k → k ≡ length items → Finds a b (declare_functions level (plain_functions fs) a.table) (λ after. after)
functions_end {a = a} {b = b} {level = level} {k = k} fs {items = items} d w e =
    declares (sym (ap (λ x. declare_functions level x a.table) (plain_functions-items fs ∙ ap functions_of (sym d))
    ∙ (w.table ∙ ap (λ xs. all_functions level xs b.table) (none_left items k e)))) w.within w.found

-- a function's body: with its byte around it, and then its scope's end
pub body_closed : {a o b c d : Search} {len : ℕ} (f : Ident) (ps : List Param) (body : Exp) → o.table ≡ a.table →
    o.within.items ≡ a.within.items ++ f.span.from ∷ [] → o.found ≡ a.found → Declares o b (λ level. declare_params level ps) →
    FindsUses b c (uses body) → ((more back : Seen) → c.table ≡ more ++ back → length back ≡ len → d.table ≡ back) → len ≡ length a.table →
    (c.within.items ≡ a.within.items ++ f.span.from ∷ [] → d.within.items ≡ a.within.items) → d.found ≡ c.found →
    FindsUses a d (function_uses f ps body)
body_closed {a = a} {o = o} {b = b} {c = c} {d = d} f ps body t w s m n cut l left e =
    let inner = a.within.items ++ f.span.from ∷ [] in
    let both : Finds o c (declare_params (length o.within.items) ps o.table)
    (λ after. uses body o.within.items (declare_params (length o.within.items) ps o.table) after) =
    behind (λ within seen. seen) (uses body) m n in
    let front = params_open (length o.within.items) ps o.table in
    record {
      table = cut front.0 a.table (both.table ∙ (front.1 ∙ ap (λ x. front.0 ++ x) t)) (sym l);
      within = left (both.within ∙ w);
      found =
          λ after. ap (λ x. with_uses (uses body inner (declare_params (length inner) ps x) after) a.found) (sym t)
          ∙ (ap (λ v. with_uses (uses body v (declare_params (length v) ps o.table) after) a.found) (sym w)
          ∙ (ap (λ x. with_uses (uses body o.within.items (declare_params (length o.within.items) ps o.table) after) x) (sym s)
          ∙ (both.found after ∙ ap (λ x. with_uses after x) (sym e))));
    }

-- of a whole text, which sees nothing and lies in no function
pub found_in : {a b : Search} (e : Exp) → a.table ≡ [] → a.within.items ≡ [] → FindsUses a b (uses e) → b.found ≡ with_uses (uses_of e) a.found
found_in {a = a} e t w f =
    sym (f.found []) ∙ (ap (λ v. with_uses (uses e v a.table []) a.found) w ∙ ap (λ s. with_uses (uses e [] s []) a.found) t)

-- what stood in a table still stands in it
pub still_open : {a b : Search} {seen : Seen} {inner : List Use → List Use} {len : ℕ} (front : Seen) → Finds a b seen inner → seen ≡ front ++ a.table →
    len ≡ length a.table → len ≤ length b.table
still_open {a = a} front f e l = omega (arith, l, ap length (f.table ∙ e), length-append front a.table)

no_value : {A : Type 0} → false ≡ true → A
no_value e = absurd (cc)

-- a vector whose last item is taken away
pub left_of : (old new xs : List ℕ) (x n : ℕ) (r : Option ℕ) → old ≡ new ++ option_to_list r → n ≡ length old → IsSome r ↔ (0 < n) →
    old ≡ xs ++ x ∷ [] → new ≡ xs
left_of old new xs x n None i l v e =
    no_value (v.1 (omega (arith, ap length e, length-append xs (x ∷ []))))
left_of old new xs x n (Some y) i l v e = (same_from_push new xs y x (sym i ∙ e)).0
