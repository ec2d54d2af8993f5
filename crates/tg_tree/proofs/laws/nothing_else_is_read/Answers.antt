use Rattle.tg_tree.proofs.TreeRuns.{trees_read_no_more}
use Rattle.tg_tree.proofs.FlatRuns.{flat_code_reads_no_more}
use Rattle.tg_tree.proofs.laws.nothing_else_is_read.Goals as goal

pub returns-clause-trees : goal.returns-clause-trees
returns-clause-trees c = λ stage code size floor room p x u h l hw ht. trees_read_no_more stage code size floor room p x u h l hw ht

pub returns-clause-flat : goal.returns-clause-flat
returns-clause-flat c = λ code size floor room p x u h hw ht. flat_code_reads_no_more code size floor room p x u h hw ht
