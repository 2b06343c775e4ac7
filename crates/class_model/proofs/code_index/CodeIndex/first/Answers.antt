use Rattle.std.proofs.Common.{ap, ◌∙◌}
use Rattle.std.specs.Option.{option_copied}
use Rattle.class_model.specs.Inner.FirstPlaced.{first_placed}
use Rattle.class_model.proofs.FirstAtOffset.{none_placed, one_placed}
use Rattle.class_model.proofs.code_index.CodeIndex.first.Goals as goal

pub returns-in_err-find : goal.returns-in_err-find
returns-in_err-find c =
    let own = c.self.inside in
    ap option_copied c.from_residual.ensures ∙ none_placed own.code.now own.index c.self.invariant c.args.at c.in_err-find.ensures ∙ ap (λ code. first_placed code c.args.at) c.self.view_is

pub returns : goal.returns
returns c =
    let own = c.self.inside in
    one_placed own.code.now own.index c.self.invariant c.args.at c.in_ok-find.field-0 _ c.in_ok-find.ensures c.get.ensures ∙ ap (λ code. first_placed code c.args.at) c.self.view_is
