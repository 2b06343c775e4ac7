use Rattle.std.proofs.Common.{[], ◌++◌, sym, subst}
use Rattle.code_drafts.specs.Drafts.{AreDrafted}
use Rattle.code_emit.proofs.drafts.Drafts.new.Goals as goal
use Rattle.pool_edit.specs.Edits.{grown}

pub returns : goal.returns
returns c = λ s constructor edit. record {
  items = λ more. c.new.ensures s constructor (grown edit ++ more);
  drafted = λ few. subst (AreDrafted []) (sym c.new-2.ensures.items) tt;
}
