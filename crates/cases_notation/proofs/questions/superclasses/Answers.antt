use Rattle.std.proofs.Common.{sym, ◌∙◌}
use Rattle.class_tree.specs.Headers.{headers_of}
use Rattle.cases_notation.proofs.Found.{is_there}
use Rattle.cases_notation.proofs.questions.superclasses.Goals as goal

pub chain-requires : goal.chain-requires
chain-requires c = is_there (headers_of c.args.tree.now) c.args.name.now _ (sym c.place.ensures ∙ c.in-Some.is)
