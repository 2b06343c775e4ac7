use Rattle.std.proofs.Common.{◌∙◌}
use Rattle.inline_expand.proofs.SettingParts.{host-handlers}
use Rattle.inline_expand.proofs.expanded.settings.Setting.caught.Goals as goal

pub moved-requires : goal.moved-requires
moved-requires c = λ at least below.
    host-handlers c.args.self.now c.numbers.result at c.in-None.is c.numbers.ensures.host c.numbers.ensures.numbers ∙ c.requires at least below
