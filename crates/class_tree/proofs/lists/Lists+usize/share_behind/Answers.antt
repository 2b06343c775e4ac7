use Rattle.std.proofs.Common.{arith, rules}
use Rattle.class_tree.proofs.Parts.{share_behind}
use Rattle.class_tree.proofs.lists.Lists+usize.share_behind.Goals as goal

pub returns-clause-done : goal.returns-clause-done
returns-clause-done c = λ yes.
    share_behind c.self.inside.items.items c.self.inside.parts.items c.args.self.now c.args.number c.args.first c.args.of c.args.guess c.index.result.now c.index-behind.result.now c.self.view_is c.requires.of c.index-behind.ensures
    (omega (arith, c.if-guess-len.false, c.len.ensures, c.self.inside.items.ok.0)) c.index.ensures (search rules) (omega (arith, c.if-behind-guess.false))
