use Rattle.std.proofs.Common.{sym}
use Rattle.tg_base.proofs.NameLemmas.{interned_there, interned_new}
use Rattle.tg_base.proofs.numbering.Names.intern.Goals as goal

pub returns-in-Some-clause-ok : goal.returns-in-Some-clause-ok
returns-in-Some-clause-ok c =
    rw (← c.self.view_is) (interned_there c.self.inside.texts.keys c.args.text.now c.in-Some.at (sym c.in-Some.ensures.found) (sym c.in-Some.ensures.index))

pub returns-clause-ok : goal.returns-clause-ok
returns-clause-ok c =
    rw (← c.self.view_is) (interned_new c.self.inside.texts.keys c.insert_full.new.self.keys c.in_ok-owned.owned
    c.args.text.now c.in_ok-at.at c.in_ok-owned.ensures.ok (sym c.in_default.ensures.found) c.in_ok-at.ensures.keys c.in_ok-at.ensures.index)
