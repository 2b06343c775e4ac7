use Rattle.std.proofs.Common.{◌≡◌, take}
use Rattle.pea_top.proofs.sharing.SharedTexts.texts.Given as goal

abbrev pub invariant-loop-text : goal.invariant-loop-text
invariant-loop-text l = l.shared.items ≡ take l.text-index l.texts
