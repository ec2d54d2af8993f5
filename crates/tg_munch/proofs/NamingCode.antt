-- What the instructions of branches, elements and a whole function name, and their marks.
use Rattle.std.proofs.Common.{ℕ, ◌≡◌, ◌<◌, ◌≤◌, ◌+◌, ◌-◌, ◌*◌, List, [], ◌∷◌, ◌++◌, Option, Some, None, Bool, true, false, length, nat_lt, refl, sym, ◌∙◌}
use Rattle.std.proofs.Common.{subst, arith, zero-add}
use Rattle.std.proofs.lemmas.Bool.Decides.{nat_tests}
use Rattle.std.specs.Prelude.{IsTrue, nat_le, nat_eq, if◌then◌else◌}
use Rattle.std.specs.List.{list_all}
use Rattle.tg_frame.specs.declared.accesses.Access.{Access}
use Rattle.tg_frame.specs.declared.accesses.Access.TheVariants.{InTemp, InFrame}
use Rattle.tg_tree.specs.declared.operators.Rel.{Rel}
use Rattle.tg_tree.specs.declared.operators.Rel.TheVariants.{Equal, NotEqual, Less, LessEqual, Greater, GreaterEqual, Below, NotBelow}
use Rattle.tg_tree.specs.Tree as tree
use Rattle.tg_tree.specs.Tree.{Tx, Linear}
use Rattle.tg_tree.specs.Named.{fault, temporary}
use Rattle.tg_instr.proofs.Tests.{left_holds, right_holds, both_hold, all_append}
use Rattle.tg_instr.specs.declared.operands.Opnd.{Opnd}
use Rattle.tg_instr.specs.declared.operands.Opnd.TheVariants.{Reg}
use Rattle.tg_munch.specs.declared.orders.Order.{Order}
use Rattle.tg_munch.specs.declared.orders.Short.{Short}
use Rattle.tg_munch.specs.declared.orders.Short.TheVariants.{Zero, Field}
use Rattle.tg_munch.specs.mirror.Choosing.{NumbersDrawn, Choice, ◌>>=◌, ◌>>◌, give}
use Rattle.tg_munch.specs.mirror.Comparing.{on_flag, flag, field_flag, on_less, on_less_field, branch_on, against_zero, against, short_side, is_turned, turned}
use Rattle.tg_munch.specs.mirror.Comparing.{order}
use Rattle.tg_munch.specs.mirror.Munching.{temp, kept_registers, expression, given_back, compared, branch, compared_in_hi, branch_behind, returned}
use Rattle.tg_munch.specs.mirror.Munching.{element, elements}
use Rattle.tg_munch.specs.mirror.Products.{is_in_hi}
use Rattle.tg_munch.specs.mirror.Bodies.{kept_register, kept, from_register, load_above, from_word, from_words, by_frame_address, parameters}
use Rattle.tg_munch.specs.Naming.{is_written, is_read}
use Rattle.tg_munch.proofs.Scopes.{Scope, Grows, grows_on, is_readable, may_name, may_put, Readable, Writable, or_left, or_right, readable_on}
use Rattle.tg_munch.proofs.Scopes.{writable_on, readable, all_on, counted, occurs, spanned, occurs_append, span_join}
use Rattle.tg_munch.proofs.Drawing.{Fits, anything, fits_then, fits_give, fits_put, fits_fresh, fits_if, fits_constant, one_named, two_named, three_named}
use Rattle.tg_munch.proofs.Naming.{Passes, StatementPasses, temp_writable, fits_expression, fits_statement}

-- branches to a mark that may be led to
flag_named : (w : Scope) (holds : Bool) (x : Opnd) (m : ℕ) (d : NumbersDrawn) → Readable w d x → IsTrue (w.is_target m) →
    IsTrue (may_put w d (on_flag holds x m))
flag_named w true x m d h t = both_hold _ _ h (or_left (w.is_target m) _ t)
flag_named w false x m d h t = both_hold _ _ h (or_left (w.is_target m) _ t)

less_named : (w : Scope) (signed : Bool) (t x y : Opnd) (d : NumbersDrawn) → Writable w d t → Readable w d x → Readable w d y →
    IsTrue (may_put w d (flag signed t x y))
less_named w true t x y d h k l = three_named _ _ _ h k l
less_named w false t x y d h k l = three_named _ _ _ h k l

field_named : (w : Scope) (signed : Bool) (t x : Opnd) (k : ℕ) (d : NumbersDrawn) → Writable w d t → Readable w d x →
    IsTrue (may_put w d (field_flag signed t x k))
field_named w true t x k d h l = two_named _ _ h l
field_named w false t x k d h l = two_named _ _ h l

fits_on_less : (w : Scope) (o : Order) (x y : Opnd) (m : ℕ) (d : NumbersDrawn) → Readable w d x → Readable w d y →
    IsTrue (w.is_target m) → Fits anything w (on_less o x y m) d
fits_on_less w o x y m d h k l =
    fits_then _ (fits_fresh w d) (λ e t a b.
    fits_then _ (fits_put w _ e (less_named w o.signed t x y e b (readable_on w a x h) (readable_on w a y k)))
    (λ f u a' b'.
    fits_put w _ f (flag_named w o.holds t m f (readable w f t (writable_on w a' t b)) l)))

fits_on_less_field : (w : Scope) (o : Order) (n : ℕ) (x : Opnd) (m : ℕ) (d : NumbersDrawn) → Readable w d x →
    IsTrue (w.is_target m) → Fits anything w (on_less_field o n x m) d
fits_on_less_field w o n x m d h l =
    fits_then _ (fits_fresh w d) (λ e t a b.
    fits_then _ (fits_put w _ e (field_named w o.signed t x n e b (readable_on w a x h))) (λ f u a' b'.
    fits_put w _ f (flag_named w o.holds t m f (readable w f t (writable_on w a' t b)) l)))

fits_branch_on : (w : Scope) (rel : Rel) (x y : Opnd) (m : ℕ) (d : NumbersDrawn) → Readable w d x → Readable w d y →
    IsTrue (w.is_target m) → Fits anything w (branch_on rel x y m) d
fits_branch_on w Equal x y m d h k l = fits_put w _ d (both_hold _ _ h (both_hold _ _ k (or_left (w.is_target m) _ l)))
fits_branch_on w NotEqual x y m d h k l =
    fits_put w _ d (both_hold _ _ h (both_hold _ _ k (or_left (w.is_target m) _ l)))
fits_branch_on w Less x y m d h k l = fits_on_less w (order true true) x y m d h k l
fits_branch_on w GreaterEqual x y m d h k l = fits_on_less w (order true false) x y m d h k l
fits_branch_on w Greater x y m d h k l = fits_on_less w (order true true) y x m d k h l
fits_branch_on w LessEqual x y m d h k l = fits_on_less w (order true false) y x m d k h l
fits_branch_on w Below x y m d h k l = fits_on_less w (order false true) x y m d h k l
fits_branch_on w NotBelow x y m d h k l = fits_on_less w (order false false) x y m d h k l

fits_against_zero : (w : Scope) (rel : Rel) (x : Opnd) (m : ℕ) (d : NumbersDrawn) → Readable w d x → IsTrue (w.is_target m) →
    Fits anything w (against_zero rel x m) d
fits_against_zero w Below x m d h l = fits_give anything w tt d refl
fits_against_zero w NotBelow x m d h l = fits_put w _ d (or_left (w.is_target m) _ l)
fits_against_zero w _ x m d h l = fits_put w _ d (both_hold _ _ h (or_left (w.is_target m) _ l))

fits_against : (w : Scope) (rel : Rel) (short : Option Short) (x : Opnd) (right : Choice Opnd) (m : ℕ) (d : NumbersDrawn) →
    Readable w d x → IsTrue (w.is_target m) →
    Fits (is_readable w) w right d → Fits anything w (against rel short x right m) d
fits_against w rel (Some Zero) x right m d h l r = fits_against_zero w rel x m d h l
fits_against w rel (Some (Field o n)) x right m d h l r = fits_on_less_field w o n x m d h l
fits_against w rel None x right m d h l r =
    fits_then _ r (λ e y a b. fits_branch_on w rel x y m e (readable_on w a x h) b l)

fits_compared : (w : Scope) (rel : Rel) (x y : Tx) (m : ℕ) → Passes w x → Passes w y → IsTrue (w.is_target m) →
    (d : NumbersDrawn) →
    Fits anything w (compared w.slots rel x y m) d
fits_compared w rel x y m p q l d =
    fits_then _ (fits_expression w x p None d refl) (λ e v a b.
    fits_against w rel (short_side rel y) v (expression w.slots y None) m e b l (fits_expression w y q None e refl))

fits_branch : (w : Scope) (rel : Rel) (x y : Tx) (m : ℕ) → Passes w x → Passes w y → IsTrue (w.is_target m) →
    (d : NumbersDrawn) →
    Fits anything w (branch w.slots rel x y m) d
fits_branch w rel x y m p q l d =
    fits_if (is_turned rel x y) (fits_compared w (turned rel) y x m q p l d) (fits_compared w rel x y m p q l d)

fits_compared_in_hi : (w : Scope) (rel : Rel) (y : Tx) (m : ℕ) → Passes w y → IsTrue (w.is_target m) → (d : NumbersDrawn) →
    Fits anything w (compared_in_hi w.slots rel y m) d
fits_compared_in_hi w rel y m q l d =
    fits_then _ (fits_fresh w d) (λ e t a b.
    fits_then _ (fits_put w _ e (one_named _ b)) (λ f u a' b'.
    fits_against w rel (short_side rel y) t (expression w.slots y None) m f (readable w f t (writable_on w a' t b)) l
    (fits_expression w y q None f refl)))

fits_branch_behind : (w : Scope) (before : Option Linear) (rel : Rel) (x y : Tx) (m : ℕ) → Passes w x → Passes w y → IsTrue (w.is_target m) →
    (d : NumbersDrawn) → Fits anything w (branch_behind w.slots before rel x y m) d
fits_branch_behind w before rel x y m p q l d =
    fits_if (is_in_hi before x) (fits_compared_in_hi w rel y m q l d) (fits_branch w rel x y m p q l d)

-- the registers that are given back
drawn_temp : (w : Scope) (d : NumbersDrawn) (t : ℕ) → t < d.temp → Readable w d (temp t)
drawn_temp w d t h = or_right (w.is_name (temporary t)) (nat_lt t d.temp) (below t d.temp h)
  where
    below : (t n : ℕ) → t < n → IsTrue (nat_lt t n)
    below t n h = grind (arith, nat_tests)

fits_given_back : (w : Scope) (t : ℕ) (rs : List ℕ) → IsTrue (list_all is_written rs) → (d : NumbersDrawn) →
    t + length rs ≤ d.temp → Fits anything w (given_back t rs) d
fits_given_back w t [] h d le = fits_give anything w tt d refl
fits_given_back w t (r ∷ rs) h d le =
    fits_then _ (fits_put w _ d (two_named _ _ (left_holds (is_written r) _ h) (drawn_temp w d t (omega arith))))
    (λ e u a b.
    let g : d.temp ≤ e.temp = a.temp in
    fits_given_back w (t + 1) rs (right_holds (is_written r) _ h) e (omega arith))

fits_returned : (w : Scope) (keeps : ℕ) (x : Tx) → Passes w x → (d : NumbersDrawn) → keeps + 9 ≤ d.temp →
    Fits anything w (returned w.slots keeps x) d
fits_returned w keeps x p d le =
    fits_then _ (fits_expression w x p (Some (Reg 2)) d refl) (λ e v a b.
    fits_then _ (fits_given_back w keeps kept_registers refl e (let g : d.temp ≤ e.temp = a.temp in omega arith))
    (λ f u a' b'. fits_put w _ f refl))

-- Elements: how often a mark stands among them, and code that has their marks and those that it draws.
abbrev pub standing : ℕ → Linear → ℕ
standing m (tree.Mark n) = counted (nat_eq m n)
standing m _ = 0

abbrev pub stands : ℕ → List Linear → ℕ
stands m [] = 0
stands m (e ∷ rest) = standing m e + stands m rest

abbrev pub ElementPasses : Scope → Linear → Type 0
ElementPasses w (tree.Mark m) = Unit {0}
ElementPasses w (tree.Do' s) = StatementPasses w s
ElementPasses w (tree.Jump m) = IsTrue (w.is_target m)
ElementPasses w (tree.Branch rel x y m) = Passes w x × Passes w y × IsTrue (w.is_target m)
ElementPasses w (tree.Fault' n) = IsTrue (w.is_name (fault n))
ElementPasses w (tree.Return' x) = Passes w x

abbrev pub CodePasses : Scope → List Linear → Type 0
CodePasses w [] = Unit {0}
CodePasses w (e ∷ rest) = ElementPasses w e × CodePasses w rest

pub record Lays (w : Scope) (marks : ℕ) (choice : Choice (Unit {0})) (d : NumbersDrawn) : Type 0 where
  pub grows : Grows d (choice d).drawn
  pub code : w.first_mark ≤ d.mark → IsTrue (list_all (may_name w (choice d).drawn) (choice d).code)
  pub marks_stand : occurs w.mark (choice d).code ≡ marks + spanned d.mark (choice d).drawn.mark w.mark

lays_alone : (w : Scope) {good : NumbersDrawn → Unit {0} → Bool} (choice : Choice (Unit {0})) (d : NumbersDrawn) → Fits good w choice d → Lays w 0 choice d
lays_alone w choice d h = record {
  grows = h.grows;
  code = h.code;
  marks_stand =
      h.marks ∙ sym (zero-add (spanned d.mark (choice d).drawn.mark w.mark));
}

joined : (a b c s t u m n : ℕ) → a ≡ b + c → b ≡ m + s → c ≡ n + t → s + t ≡ u → a ≡ (m + n) + u
joined a b c s t u m n h k l i = omega arith

lays_on : (w : Scope) {m n : ℕ} {first onward : Choice (Unit {0})} {d : NumbersDrawn} → Lays w m first d → Lays w n onward (first d).drawn →
    Lays w (m + n) (first >> onward) d
unfolding ◌>>=◌
lays_on w {m} {n} {first} {onward} {d} h two =
    let one = first d in
    let rest = onward one.drawn in
    let start = h.grows.mark in
    record {
      grows = grows_on h.grows two.grows;
      code = λ l. all_append (may_name w rest.drawn) one.code rest.code (all_on w two.grows one.code (h.code l))
          (two.code (omega (arith, l, start)));
      marks_stand = joined (occurs w.mark (one.code ++ rest.code)) (occurs w.mark one.code) (occurs w.mark rest.code)
          (spanned d.mark one.drawn.mark w.mark) (spanned one.drawn.mark rest.drawn.mark w.mark)
          (spanned d.mark rest.drawn.mark w.mark) m n
          (occurs_append w.mark one.code rest.code) h.marks_stand two.marks_stand
          (span_join d.mark one.drawn.mark rest.drawn.mark w.mark h.grows.mark two.grows.mark);
    }

lays_then : (w : Scope) {m n : ℕ} {first onward : Choice (Unit {0})} {d : NumbersDrawn} → Lays w m first d →
    ((e : NumbersDrawn) → Grows d e → Lays w n onward e) →
    Lays w (m + n) (first >> onward) d
lays_then w {first = first} {d = d} h k = lays_on w h (k (first d).drawn h.grows)

lays_behind : (w : Scope) {good : NumbersDrawn → Unit {0} → Bool} {n : ℕ} {first onward : Choice (Unit {0})} {d : NumbersDrawn} →
    Fits good w first d →
    ((e : NumbersDrawn) (x : Unit {0}) → Grows d e → IsTrue (good e x) → Lays w n onward e) → Lays w n (first >> onward) d
lays_behind w {n = n} {first = first} {onward = onward} {d = d} h k =
    subst (λ m. Lays w m (first >> onward) d) (zero-add n)
    (lays_on w (lays_alone w first d h) (k (first d).drawn (first d).value h.grows h.given))

lays_mark : (w : Scope) (n : ℕ) (d : NumbersDrawn) → Lays w (counted (nat_eq w.mark n)) (element w.slots 0 None (tree.Mark n)) d
lays_mark w n d = record {
  grows = record { temp = omega arith; mark = omega arith };
  code = λ l. refl;
  marks_stand = none (counted (nat_eq w.mark n)) d.mark w.mark;
}
  where
    none : (a k m : ℕ) → a + 0 ≡ a + spanned k k m
    none a k m = grind (arith, nat_tests)

lays_element : (w : Scope) (keeps : ℕ) (before : Option Linear) (e : Linear) → ElementPasses w e → (d : NumbersDrawn) → keeps + 9 ≤ d.temp →
    Lays w (standing w.mark e) (element w.slots keeps before e) d
lays_element w keeps before (tree.Mark n) p d le = lays_mark w n d
lays_element w keeps before (tree.Do' s) p d le = lays_alone w _ d (fits_statement w s p d)
lays_element w keeps before (tree.Jump m) p d le = lays_alone w _ d (fits_put w _ d (or_left (w.is_target m) _ p))
lays_element w keeps before (tree.Branch rel x y m) p d le = lays_alone w _ d (fits_branch_behind w before rel x y m p.0 p.1 p.2 d)
lays_element w keeps before (tree.Fault' n) p d le = lays_alone w _ d (fits_put w _ d p)
lays_element w keeps before (tree.Return' x) p d le = lays_alone w _ d (fits_returned w keeps x p d le)

lays_nothing : (w : Scope) (d : NumbersDrawn) → Lays w 0 (give tt) d
lays_nothing w d = lays_alone w _ d (fits_give anything w tt d refl)

lays_elements : (w : Scope) (keeps : ℕ) (before : Option Linear) (code : List Linear) → CodePasses w code → (d : NumbersDrawn) → keeps + 9 ≤ d.temp →
    Lays w (stands w.mark code) (elements w.slots keeps before code) d
lays_elements w keeps before [] p d le = lays_nothing w d
lays_elements w keeps before (e ∷ rest) p d le =
    lays_then w (lays_element w keeps before e p.0 d le) (λ f g.
    let h : d.temp ≤ f.temp = g.temp in
    lays_elements w keeps (Some e) rest p.1 f (omega arith))

-- a function's entry
fits_kept_register : (w : Scope) (r : ℕ) → IsTrue (is_read r) → (d : NumbersDrawn) → Fits anything w (kept_register r) d
fits_kept_register w r h d = fits_then _ (fits_fresh w d) (λ e t a b. fits_put w _ e (two_named _ _ b h))

fits_kept : (w : Scope) (rs : List ℕ) → IsTrue (list_all is_read rs) → (d : NumbersDrawn) → Fits anything w (kept rs) d
fits_kept w [] h d = fits_give anything w tt d refl
fits_kept w (r ∷ rs) h d =
    fits_then _ (fits_kept_register w r (left_holds (is_read r) _ h) d)
    (λ e u a b. fits_kept w rs (right_holds (is_read r) _ h) e)

abbrev have_kept : ℕ → NumbersDrawn → Unit {0} → Bool
have_kept keeps e x = nat_le (keeps + 9) e.temp

pub at_least : (m n : ℕ) → m ≤ n → IsTrue (nat_le m n)
at_least m n h = grind (arith, nat_tests)

at_most : (m n : ℕ) → IsTrue (nat_le m n) → m ≤ n
at_most m n h = grind (arith, nat_tests)

kept_drawn : (d : NumbersDrawn) → d.temp + 9 ≤ (kept kept_registers d).drawn.temp
unfolding ◌>>=◌
kept_drawn d = omega arith

fits_all_kept : (w : Scope) (d : NumbersDrawn) → Fits (have_kept d.temp) w (kept kept_registers) d
fits_all_kept w d =
    let h = fits_kept w kept_registers refl d in
    record {
      grows = h.grows;
      code = h.code;
      given =
          at_least (d.temp + 9) (kept kept_registers d).drawn.temp (kept_drawn d);
      marks = h.marks;
    }

-- parameters go to their homes
abbrev pub HomePasses : Scope → Access → Type 0
HomePasses w (InTemp t) = IsTrue (w.is_name (temporary t.0))
HomePasses w (InFrame k) = IsTrue (w.is_slot k)

abbrev pub HomesPass : Scope → List Access → Type 0
HomesPass w [] = Unit {0}
HomesPass w (home ∷ homes) = HomePasses w home × HomesPass w homes

argument_read : (i : ℕ) → nat_lt i 4 ≡ true → IsTrue (is_read (4 + i))
argument_read i e = grind (arith, nat_tests)

fits_from_register : (w : Scope) (i : ℕ) (home : Access) → HomePasses w home → nat_lt i 4 ≡ true → (d : NumbersDrawn) →
    Fits anything w (from_register i home) d
fits_from_register w i (InTemp t) p e d = fits_put w _ d (two_named _ _ (temp_writable w d t.0 p) (argument_read i e))
fits_from_register w i (InFrame k) p e d = fits_put w _ d (both_hold _ _ (argument_read i e) p)

fits_load_above : (w : Scope) (above : Opnd) (n : ℕ) (to : Opnd) (d : NumbersDrawn) → Readable w d above → Writable w d to →
    Fits anything w (load_above above n to) d
fits_load_above w above n to d h k =
    fits_if (nat_lt n 32768) (fits_put w _ d (two_named _ _ k h))
    (fits_then _ (fits_constant w to n d k) (λ e u a b.
    fits_then _ (fits_put w _ e (three_named _ _ _ (writable_on w a to k) (readable w e to (writable_on w a to k)) (readable_on w a above h)))
    (λ f v a' b'.
    let l = writable_on w (grows_on a a') to k in
    fits_put w _ f (two_named _ _ l (readable w f to l)))))

fits_from_word : (w : Scope) (above : Opnd) (i : ℕ) (home : Access) → HomePasses w home → (d : NumbersDrawn) → Readable w d above →
    Fits anything w (from_word above i home) d
fits_from_word w above i (InTemp t) p d h = fits_load_above w above (4 * (i - 4)) (temp t.0) d h (temp_writable w d t.0 p)
fits_from_word w above i (InFrame k) p d h =
    fits_then _ (fits_fresh w d) (λ e v a b.
    fits_then _ (fits_load_above w above (4 * (i - 4)) v e (readable_on w a above h) b) (λ f u a' b'.
    fits_put w _ f (both_hold _ _ (readable w f v (writable_on w a' v b)) p)))

fits_from_words : (w : Scope) (above : Opnd) (i : ℕ) (homes : List Access) → HomesPass w homes → (d : NumbersDrawn) → Readable w d above →
    Fits anything w (from_words above i homes) d
fits_from_words w above i [] p d h = fits_give anything w tt d refl
fits_from_words w above i (home ∷ homes) p d h =
    fits_then _ (fits_from_word w above i home p.0 d h) (λ e u a b. fits_from_words w above (i + 1) homes p.1 e (readable_on w a above h))

fits_by_frame_address : (w : Scope) (i : ℕ) (homes : List Access) → HomesPass w homes → (d : NumbersDrawn) →
    Fits anything w (by_frame_address i homes) d
fits_by_frame_address w i homes p d =
    fits_then _ (fits_fresh w d) (λ e above a b.
    fits_then _ (fits_put w _ e (one_named _ b)) (λ f u a' b'.
    fits_from_words w above i homes p f (readable w f above (writable_on w a' above b))))

fits_parameters : (w : Scope) (i : ℕ) (homes : List Access) → HomesPass w homes → (d : NumbersDrawn) →
    Fits anything w (parameters i homes) d
fits_parameters w i [] p d = fits_give anything w tt d refl
fits_parameters w i (home ∷ homes) p d =
    by_place (nat_lt i 4) refl (λ e. fits_parameters w (i + 1) homes p.1 e)
  where
    by_place : (b : Bool) → nat_lt i 4 ≡ b → ((e : NumbersDrawn) → Fits anything w (parameters (i + 1) homes) e) →
        Fits anything w (if b then (from_register i home >> parameters (i + 1) homes) else by_frame_address i (home ∷ homes)) d
    by_place true e rest = fits_then _ (fits_from_register w i home p.0 e d) (λ f u a b. rest f)
    by_place false e rest = fits_by_frame_address w i (home ∷ homes) p d

-- a whole function
pub lays_body : (w : Scope) (homes : List Access) (code : List Linear) → HomesPass w homes → CodePasses w code →
    (d : NumbersDrawn) →
    Lays w (stands w.mark code) (kept kept_registers >> (parameters 0 homes >> elements w.slots d.temp None code)) d
lays_body w homes code p q d =
    lays_behind w (fits_all_kept w d) (λ e u a b. lays_behind w (fits_parameters w 0 homes p e) (λ f v g t.
    let h : d.temp + 9 ≤ e.temp = at_most (d.temp + 9) e.temp b in
    let k : e.temp ≤ f.temp = g.temp in
    lays_elements w d.temp None code q f (omega arith)))
