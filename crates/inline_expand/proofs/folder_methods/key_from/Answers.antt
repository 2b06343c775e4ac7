use Rattle.std.proofs.Common.{sym, ap, ◌∙◌, arith}
use Rattle.std.proofs.lemmas.List.{drop_more, drop_all}
use Rattle.inline_expand.specs.Inner.FolderMethods.{key}
use Rattle.inline_expand.proofs.folder_methods.key_from.Goals as goal

pub loop-byte-preserved : goal.loop-byte-preserved
loop-byte-preserved c = (
  sym (ap (key c.loop-byte.key) (drop_more c.args.bytes.now c.loop-byte.byte-index 0 c.loop-byte-test.true)) ∙ c.loop-byte.invariant.0,
  omega arith,
)

pub returns-clause-same : goal.returns-clause-same
returns-clause-same c = sym (ap (key c.loop-byte.key) (drop_all c.loop-byte.byte-index c.args.bytes.now c.loop-byte-test.false)) ∙ c.loop-byte.invariant.0
