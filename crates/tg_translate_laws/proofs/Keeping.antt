-- What each action of the translation keeps of the state, and what is fine in the state that it gives.
use Rattle.std.proofs.Common.{◌≡◌, ◌<◌, ◌≤◌, ◌+◌, ℕ, Bool, true, false, Some, List, [], ◌∷◌, map, refl, ◌∙◌, inl, inr, arith}
use Rattle.std.specs.Prelude.{◌⊎◌, IsTrue}
use Rattle.std.specs.List.{Contains}
use Rattle.tg_symbols.specs.Tables.{looked_up}
use Rattle.tg_frame.specs.declared.accesses.Access.{Access}
use Rattle.tg_frame.specs.declared.accesses.Access.TheVariants.{InTemp, InFrame}
use Rattle.tg_frame.specs.Homes.{is_slot}
use Rattle.tg_tree.specs.Tree.{Tx, Txs, Cond, Ts, Stms, Function}
use Rattle.tg_tree.specs.Named.{Named, function, literal, fault, temporary, constant}
use Rattle.tg_tree.specs.Shapes.{EndsFunction}
use Rattle.tg_translate.specs.declared.homes.Home.{Home}
use Rattle.tg_translate.specs.declared.homes.Within.{Within}
use Rattle.tg_translate.specs.declared.wants.Want.{Want}
use Rattle.tg_translate.specs.declared.wants.Want.TheVariants as want
use Rattle.tg_translate.specs.declared.operands.Operand.{Operand}
use Rattle.tg_translate.specs.declared.operands.Operand.TheVariants.{Number, Kept}
use Rattle.tg_translate.specs.mirror.States.{TranslationState, Frame, Translates, Translated, drawn, after, give, with_frame, fresh, one_temp}
use Rattle.tg_translate.specs.mirror.Wants.{Made, value, done, test}
use Rattle.tg_translate.specs.mirror.Constructs.{Storage, in_temp, at_address, HeldAll}
use Rattle.tg_translate_laws.proofs.Fine.{Each, FineTs, FineStms, FineTx, FineTxs, FineCond, widen_ts, widen_stms, widen_tx, widen_txs, widen_cond}
use Rattle.tg_translate_laws.proofs.Actions.{answer, left}
use Rattle.tg_translate_laws.proofs.Counts.{times, below}
use Rattle.tg_translate.specs.mirror.Scopes.{Findings}

-- what is asked about of a program: whether its breaks are looked at, and its temporaries; and what was found of it
pub record Asks : Type 1 where
  pub breaks : Type 0
  pub temps : Type 0
  pub findings : Findings

abbrev pub about : (breaks temps : Type 0) → Findings → Asks
about breaks temps findings = record { breaks = breaks; temps = temps; findings = findings }

-- a part of a text: the loops around it, whether one of them is open for a break, the variables of its function, and
-- those of the functions around
pub record Where : Type 0 where
  pub within : Within
  pub loops : ℕ
  pub in_loop : Bool
  pub own : List ℕ
  pub kept : List ℕ

abbrev pub callee_labels : TranslationState → List ℕ
callee_labels s = map (λ e. e.1.label.0) s.callees

abbrev pub literal_labels : TranslationState → List ℕ
literal_labels s = map (λ l. l.label) s.literals

-- how often a label is one of a function or a literal that is there
abbrev pub stands : ℕ → TranslationState → ℕ
stands n s = times (λ f. f.label) n s.functions + times (λ l. l.label) n s.literals

-- breaks are looked at where asks.breaks is asked, and temporaries where asks.temps is
module _ (asks : Asks) where
  abbrev pub Knows : (callees literals : List ℕ) → (temps : ℕ) → Named → Type 0
  Knows cs ls n (function l) = (l < 13) ⊎ Contains cs l
  Knows cs ls n (literal l) = Contains ls l
  Knows cs ls n (fault k) = k < 1048576
  Knows cs ls n (temporary i) = asks.temps → i < n
  Knows cs ls n (constant k) = Unit {0}

  abbrev pub KnowsAt : TranslationState → Named → Type 0
  KnowsAt s = Knows (callee_labels s) (literal_labels s) s.frame.temps

  pub record FineFunction (cs ls : List ℕ) (f : Function Ts) : Type 0 where
    pub body : FineTs asks.breaks (Knows cs ls f.temps) 0 f.body
    pub last : EndsFunction f.body

  abbrev pub IsDrawn : (temps : ℕ) → Access → Type 0
  IsDrawn n (InTemp t) = t.0 < n
  IsDrawn n (InFrame k) = Unit {0}

  -- from one state to a later one, with the homes of these variables kept
  pub record Grows (kept : List ℕ) (s t : TranslationState) : Type 0 where
    pub label : s.label ≤ t.label
    pub temps : s.frame.temps ≤ t.frame.temps
    pub name : t.frame.label ≡ s.frame.label
    pub callees : (l : ℕ) → Contains (callee_labels s) l → Contains (callee_labels t) l
    pub literals : (l : ℕ) → Contains (literal_labels s) l → Contains (literal_labels t) l
    pub homes : asks.temps → (at : ℕ) → Contains kept at → looked_up at t.homes ≡ looked_up at s.homes

  -- where each label that was drawn between stands once more
  pub record Step (kept : List ℕ) (s t : TranslationState) : Type 0 where
    pub grows : Grows kept s t
    pub balance : (n : ℕ) → stands n t + below n s.label ≡ stands n s + below n t.label

  pub record Ready (c : Where) (s : TranslationState) : Type 0 where
    pub from : 33 ≤ s.label
    pub callees :
        (l : ℕ) → Contains (callee_labels s) l → (33 ≤ l) × (l < s.label) × (times (λ k. k.label) l s.literals ≡ 0)
    pub unused : (l : ℕ) → s.label ≤ l → times (λ k. k.label) l s.literals ≡ 0
    pub functions : Each (FineFunction (callee_labels s) (literal_labels s)) s.functions
    pub owned :
        asks.temps → (at : ℕ) (home : Home) → Contains c.own at → looked_up at s.homes ≡ Some home → IsDrawn s.frame.temps
        home.access
    pub slots :
        asks.temps → (at : ℕ) (home : Home) → asks.findings.escapes at ≡ true → looked_up at s.homes ≡ Some home → IsTrue (is_slot home.access)
    pub link : asks.temps → 0 < c.within.level → c.within.link_in_slot ≡ false → 0 < s.frame.temps
    pub loops : asks.breaks → c.in_loop ≡ true → c.within.leave < c.loops

  -- an action takes a step, from where a part may go on, and what it gives is fine there
  pub record Yields {A : Type 0} (c : Where) (s : TranslationState) (V : TranslationState → A → Type 0) (d : Translated A) : Type 0 where
    pub step : Step c.kept s (left d)
    pub ready : Ready c (left d)
    pub value : V (left d) (answer d)

  -- What is fine stays fine.

  know_more : (cs ls ds ms : List ℕ) (n m : ℕ) → ((l : ℕ) → Contains cs l → Contains ds l) →
      ((l : ℕ) → Contains ls l → Contains ms l) → n ≤ m →
      (x : Named) → Knows cs ls n x → Knows ds ms m x
  know_more cs ls ds ms n m f g h (function l) k = elim k [ inl e ↦ inl e | inr e ↦ inr (f l e) ]
  know_more cs ls ds ms n m f g h (literal l) k = g l k
  know_more cs ls ds ms n m f g h (fault j) k = k
  know_more cs ls ds ms n m f g h (temporary i) k = λ t. let j = k t in omega (arith, j, h)
  know_more cs ls ds ms n m f g h (constant j) k = tt

  pub knows_on : (kept : List ℕ) (s t : TranslationState) → Step kept s t → (x : Named) → KnowsAt s x → KnowsAt t x
  knows_on kept s t h x k =
      know_more (callee_labels s) (literal_labels s) (callee_labels t) (literal_labels t) s.frame.temps t.frame.temps
      h.grows.callees h.grows.literals h.grows.temps x k

  pub functions_on : (cs ls ds ms : List ℕ) → ((l : ℕ) → Contains cs l → Contains ds l) →
      ((l : ℕ) → Contains ls l → Contains ms l) →
      (fs : List (Function Ts)) → Each (FineFunction cs ls) fs → Each (FineFunction ds ms) fs
  functions_on cs ls ds ms f g [] h = tt
  functions_on cs ls ds ms f g (one ∷ fs) h = (
    record {
      body =
          widen_ts asks.breaks (Knows cs ls one.temps) (Knows ds ms one.temps)
          (know_more cs ls ds ms one.temps one.temps f g (omega arith)) 0 one.body h.0.body;
      last = h.0.last;
    },
    functions_on cs ls ds ms f g fs h.1,
  )

  abbrev pub GoodTx : ℕ → TranslationState → Tx → Type 0
  GoodTx n s x = FineTx asks.breaks (KnowsAt s) n x

  abbrev pub GoodTxs : ℕ → TranslationState → Txs → Type 0
  GoodTxs n s xs = FineTxs asks.breaks (KnowsAt s) n xs

  abbrev pub GoodTs : ℕ → TranslationState → Ts → Type 0
  GoodTs n s x = FineTs asks.breaks (KnowsAt s) n x

  abbrev pub GoodStms : ℕ → TranslationState → Stms → Type 0
  GoodStms n s ss = FineStms asks.breaks (KnowsAt s) n ss

  abbrev pub GoodCond : ℕ → TranslationState → Cond → Type 0
  GoodCond n s c = FineCond asks.breaks (KnowsAt s) n c

  abbrev pub GoodMade : ℕ → TranslationState → Made → Type 0
  GoodMade n s (value x) = FineTx asks.breaks (KnowsAt s) n x
  GoodMade n s (done x) = FineTs asks.breaks (KnowsAt s) n x
  GoodMade n s (test c) = FineCond asks.breaks (KnowsAt s) n c

  abbrev pub GoodPlace : ℕ → TranslationState → Storage → Type 0
  GoodPlace n s (in_temp i) = asks.temps → i < s.frame.temps
  GoodPlace n s (at_address ss x) = FineStms asks.breaks (KnowsAt s) n ss × FineTx asks.breaks (KnowsAt s) n x

  abbrev pub GoodOperand : TranslationState → Operand → Type 0
  GoodOperand s (Number n) = Unit {0}
  GoodOperand s (Kept t) = asks.temps → t.0 < s.frame.temps

  abbrev pub GoodOperands : TranslationState → List Operand → Type 0
  GoodOperands s [] = Unit {0}
  GoodOperands s (x ∷ xs) = GoodOperand s x × GoodOperands s xs

  abbrev pub GoodHeld : ℕ → TranslationState → HeldAll → Type 0
  GoodHeld n s all = FineStms asks.breaks (KnowsAt s) n all.before × GoodOperands s all.operands

  abbrev pub GoodWant : TranslationState → Want → Type 0
  GoodWant s (want.Into t) = asks.temps → t.0 < s.frame.temps
  GoodWant s _ = Unit {0}

  abbrev pub GoodAccess : TranslationState → Access → Type 0
  GoodAccess s (InTemp t) = asks.temps → t.0 < s.frame.temps
  GoodAccess s (InFrame k) = Unit {0}

  -- A frame may draw.

  pub drawn_on : (n m : ℕ) (a : Access) → n ≤ m → IsDrawn n a → IsDrawn m a
  drawn_on n m (InTemp t) h k = omega (arith, h, k)
  drawn_on n m (InFrame j) h k = tt

  -- and have other homes, but for those that are kept
  pub rehomed : (kept : List ℕ) (s : TranslationState) (f : Frame) (homes : List (ℕ × Home)) → f.label ≡ s.frame.label → s.frame.temps ≤ f.temps →
      (asks.temps → (at : ℕ) → Contains kept at → looked_up at homes ≡ looked_up at s.homes) → Step kept s (record s { frame = f; homes = homes })
  rehomed kept s f homes e h same = record {
    grows = record { label = omega arith; temps = h; name = e; callees = λ l k. k; literals = λ l k. k; homes = same };
    balance = λ n. refl;
  }

  pub framed : (kept : List ℕ) (s : TranslationState) (f : Frame) → f.label ≡ s.frame.label → s.frame.temps ≤ f.temps → Step kept s
      (with_frame f s)
  framed kept s f e h = rehomed kept s f s.homes e h (λ t at k. refl)

  pub ready_framed : (c : Where) (s : TranslationState) (f : Frame) → s.frame.temps ≤ f.temps → Ready c s → Ready c
      (with_frame f s)
  ready_framed c s f h r = record {
    from = r.from;
    callees = r.callees;
    unused = r.unused;
    functions = r.functions;
    owned = λ t at home k e. drawn_on s.frame.temps f.temps home.access h (r.owned t at home k e);
    slots = r.slots;
    link = λ t l e. let k = r.link t l e in omega (arith, k, h);
    loops = r.loops;
  }

-- Whatever is asked about.
module _ {asks : Asks} where
  -- Steps follow one another.

  pub grows_none : {kept : List ℕ} {s : TranslationState} → Grows asks kept s s
  grows_none = record {
    label = omega arith;
    temps = omega arith;
    name = refl;
    callees = λ l h. h;
    literals = λ l h. h;
    homes = λ t at h. refl;
  }

  pub grows_on : {kept : List ℕ} {s t u : TranslationState} → Grows asks kept s t → Grows asks kept t u → Grows asks kept s u
  grows_on h k = record {
    label = omega (arith, h.label, k.label);
    temps = omega (arith, h.temps, k.temps);
    name = k.name ∙ h.name;
    callees = λ l c. k.callees l (h.callees l c);
    literals = λ l c. k.literals l (h.literals l c);
    homes = λ t at c. k.homes t at c ∙ h.homes t at c;
  }

  pub grows_for : {kept more : List ℕ} {s t : TranslationState} → ((at : ℕ) → Contains kept at → Contains more at) → Grows asks more s t → Grows asks kept s t
  grows_for f h = record {
    label = h.label;
    temps = h.temps;
    name = h.name;
    callees = h.callees;
    literals = h.literals;
    homes = λ t at c. h.homes t at (f at c);
  }

  pub stay : {kept : List ℕ} {s : TranslationState} → Step asks kept s s
  stay = record { grows = grows_none; balance = λ n. refl }

  pub onward : {kept : List ℕ} {s t u : TranslationState} → Step asks kept s t → Step asks kept t u → Step asks kept s u
  onward h k = record {
    grows = grows_on h.grows k.grows;
    balance = λ n. let p = h.balance n in let q = k.balance n in omega (arith, p, q);
  }

  pub bind : {A C : Type 0} {c : Where} {s : TranslationState} {V : TranslationState → A → Type 0} {W : TranslationState →
      C → Type 0} {d : Translated A} {next : A → Translates C} →
      Yields asks c s V d → ((a : A) (t : TranslationState) → Step asks c.kept s t → Ready asks c t → V t a → Yields asks c t W (next a t)) →
      Yields asks c s W (after d next)
  bind {d = drawn a t} h k =
      let g = k a t h.step h.ready h.value in record { step = onward h.step g.step; ready = g.ready; value = g.value }

  pub given : {A : Type 0} {c : Where} {s : TranslationState} {V : TranslationState → A → Type 0} (a : A) → Ready asks c s →
      V s a → Yields asks c s V (give a s)
  given a r v = record { step = stay; ready = r; value = v }

  pub draws_temp : {c : Where} {s : TranslationState} → Ready asks c s → Yields asks c s (λ t i. asks.temps → i < t.frame.temps) (fresh s)
  draws_temp {c} {s} r = record {
    step = framed asks c.kept s (one_temp s.frame) refl (omega arith);
    ready = ready_framed asks c s (one_temp s.frame) (omega arith) r;
    value = λ t. omega arith;
  }

  -- What is fine is so in a later state.

  module _ {kept : List ℕ} {s t : TranslationState} (h : Step asks kept s t) where
    pub tx_on : (n : ℕ) (x : Tx) → GoodTx asks n s x → GoodTx asks n t x
    tx_on n x k = widen_tx asks.breaks (KnowsAt asks s) (KnowsAt asks t) (knows_on asks kept s t h) n x k

    pub txs_on : (n : ℕ) (xs : Txs) → GoodTxs asks n s xs → GoodTxs asks n t xs
    txs_on n x k = widen_txs asks.breaks (KnowsAt asks s) (KnowsAt asks t) (knows_on asks kept s t h) n x k

    pub ts_on : (n : ℕ) (x : Ts) → GoodTs asks n s x → GoodTs asks n t x
    ts_on n x k = widen_ts asks.breaks (KnowsAt asks s) (KnowsAt asks t) (knows_on asks kept s t h) n x k

    pub stms_on : (n : ℕ) (ss : Stms) → GoodStms asks n s ss → GoodStms asks n t ss
    stms_on n x k = widen_stms asks.breaks (KnowsAt asks s) (KnowsAt asks t) (knows_on asks kept s t h) n x k

    pub cond_on : (n : ℕ) (c : Cond) → GoodCond asks n s c → GoodCond asks n t c
    cond_on n x k = widen_cond asks.breaks (KnowsAt asks s) (KnowsAt asks t) (knows_on asks kept s t h) n x k

    pub made_on : (n : ℕ) (m : Made) → GoodMade asks n s m → GoodMade asks n t m
    made_on n (value x) k = tx_on n x k
    made_on n (done x) k = ts_on n x k
    made_on n (test c) k = cond_on n c k

    pub temp_on : (i : ℕ) → (asks.temps → i < s.frame.temps) → asks.temps → i < t.frame.temps
    temp_on i k asked = let j = k asked in omega (arith, j, h.grows.temps)

    pub place_on : (n : ℕ) (p : Storage) → GoodPlace asks n s p → GoodPlace asks n t p
    place_on n (in_temp i) k = temp_on i k
    place_on n (at_address ss x) k = (stms_on n ss k.0, tx_on n x k.1)

    pub operand_on : (x : Operand) → GoodOperand asks s x → GoodOperand asks t x
    operand_on (Number n) k = tt
    operand_on (Kept i) k = temp_on i.0 k

    pub operands_on : (xs : List Operand) → GoodOperands asks s xs → GoodOperands asks t xs
    operands_on [] k = tt
    operands_on (x ∷ xs) k = (operand_on x k.0, operands_on xs k.1)

    pub held_on : (n : ℕ) (all : HeldAll) → GoodHeld asks n s all → GoodHeld asks n t all
    held_on n all k = (stms_on n all.before k.0, operands_on all.operands k.1)

    pub want_on : (w : Want) → GoodWant asks s w → GoodWant asks t w
    want_on want.Value k = tt
    want_on (want.Into i) k = temp_on i.0 k
    want_on want.Dropped k = tt
    want_on want.Test k = tt

    pub access_on : (a : Access) → GoodAccess asks s a → GoodAccess asks t a
    access_on (InTemp i) k = temp_on i.0 k
    access_on (InFrame j) k = tt
