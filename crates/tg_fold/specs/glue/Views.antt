-- What the code knows of tests and copies, without boxes.
use Rattle.std.specs.Prelude.{ℕ, Bool, Option, Some, None}
use Rattle.tg_tree.specs.declared.trees.Cond.{Cond as CodeCond}
use Rattle.tg_tree.specs.declared.trees.Ts.{Ts as CodeTs}
use Rattle.tg_tree.specs.glue.Plain.{plain_cond, plain_ts}
use Rattle.tg_tree.specs.Tree.{Cond, Ts}
use Rattle.tg_fold.specs.declared.tests.Joined.{Joined}
use Rattle.tg_fold.specs.declared.tests.Joined.TheVariants as code
use Rattle.tg_fold.specs.declared.reading.CopyOf.{CopyOf}
use Rattle.tg_fold.specs.mirror.Folding.{Tested, Known, Open}

-- what is known of a condition, and the condition
abbrev pub plain_tested : Option Bool → CodeCond → Tested
plain_tested None test = Open (plain_cond test)
plain_tested (Some b) test = Known b

-- what has become of two conditions, which made up the whole
abbrev pub plain_joined : Joined → (whole : Cond) → Tested
plain_joined (code.Known b) whole = Known b
plain_joined (code.One c) whole = Open (plain_cond c)
plain_joined code.Two whole = Open whole

-- the statement that is chosen, or else the whole
abbrev pub plain_chosen : Option CodeTs → (whole : Ts) → Ts
plain_chosen None whole = whole
plain_chosen (Some s) whole = plain_ts s

abbrev pub plain_copy : Option CopyOf → Option (ℕ × ℕ)
plain_copy None = None
plain_copy (Some one) = Some (one.to.0, one.from.0)
