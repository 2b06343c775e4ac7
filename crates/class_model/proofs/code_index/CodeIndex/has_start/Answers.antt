use Rattle.std.proofs.Common.{◌≡◌, ap, ◌∙◌, rules}
use Rattle.std.specs.Option.{is_some}
use Rattle.class_model.specs.Instructions.{is_start}
use Rattle.class_model.specs.OffsetIndexes.{number_in}
use Rattle.class_model.proofs.FirstAtOffset.{start_told}
use Rattle.class_model.proofs.code_index.CodeIndex.has_start.Goals as goal

pub returns : goal.returns
returns c =
    let own = c.self.inside in
    let told : c.is_some.result ≡ is_some (number_in own.index c.args.at) = search rules in
    told ∙ start_told own.code.now own.index c.self.invariant c.args.at ∙ ap (λ code. is_start code c.args.at) c.self.view_is
