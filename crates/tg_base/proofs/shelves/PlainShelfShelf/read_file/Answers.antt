use Rattle.std.proofs.Common.{arith}
use Rattle.std.proofs.lemmas.Grind.{common_steps}
use Rattle.tg_base.proofs.FileLemmas.{file_of_named, front_of_file}
use Rattle.tg_base.proofs.shelves.PlainShelfShelf.read_file.Goals as goal

pub returns-in-Some-clause-front : goal.returns-in-Some-clause-front
returns-in-Some-clause-front c =
    front_of_file c.front.result c.args.self.now.held c.args.name.now c.args.most c.deref.result.now
    (grind (arith, common_steps, file_of_named)) c.front.ensures.ok
