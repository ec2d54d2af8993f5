use Rattle.std.proofs.Common.{sym, ap, ◌∙◌}
use Rattle.std.proofs.lemmas.Result.{on_ok_weaker}
use Rattle.tg_redundancy.specs.mirror.Readings.{reread}
use Rattle.tg_redundancy.specs.mirror.Facts.{stands, found}
use Rattle.tg_redundancy.specs.glue.Walks.{state_of, if_room}
use Rattle.tg_redundancy.proofs.Walking.{room_left, gives_by_move, gives_by_reading}
use Rattle.tg_redundancy.proofs.walks.Walk.give.Goals as goal

pub move_word-requires : goal.move_word-requires
move_word-requires c = room_left c.take_known-facts.new.self.room _ c.in-Some.holder (sym c.in-Some.is ∙ c.holder-held.ensures)

pub returns-in-Some : goal.returns-in-Some
returns-in-Some c =
    let left = c.take_known-facts.new.self in
    on_ok_weaker c.move_word.result
    (gives_by_move c.move_word.new.self c.args.list.now.items c.move_word.new.list.items c.args.to c.args.reading c.reread-stood.result
    c.args.one.now (state_of c.args.self.now) (state_of left) c.take_known-facts.result.items c.in-Some.holder
    c.take_known-facts.ensures.facts c.take_known-facts.ensures.left
    (c.reread-stood.ensures ∙ ap (λ l. reread (stands l) c.args.reading) c.deref.ensures.value)
    ((sym c.in-Some.is ∙ c.holder-held.ensures) ∙ ap (λ l. if_room left.room (found c.args.to c.reread-stood.result l)) c.deref-2.ensures.value))
    c.move_word.ensures

pub returns-in-None : goal.returns-in-None
returns-in-None c =
    let left = c.take_known-facts.new.self in
    on_ok_weaker c.read_word.result
    (gives_by_reading c.read_word.new.self c.args.list.now.items c.read_word.new.list.items c.args.to c.args.reading c.reread-stood.result
    c.args.one.now (state_of c.args.self.now) (state_of left) c.take_known-facts.result.items
    c.take_known-facts.ensures.facts c.take_known-facts.ensures.left
    (c.reread-stood.ensures ∙ ap (λ l. reread (stands l) c.args.reading) c.deref.ensures.value)
    ((sym c.in-None.is ∙ c.holder-held.ensures) ∙ ap (λ l. if_room left.room (found c.args.to c.reread-stood.result l)) c.deref-2.ensures.value))
    c.read_word.ensures
