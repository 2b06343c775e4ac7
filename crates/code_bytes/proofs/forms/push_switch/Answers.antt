use Rattle.std.proofs.Common.{rules, append_assoc}
use Rattle.std.proofs.lemmas.Result.{IfOk-equal}
use Rattle.code_bytes.proofs.Pads.{taken_pad}
use Rattle.code_bytes.proofs.forms.push_switch.Goals as goal

pub returns : goal.returns
returns c = search (rules, IfOk-equal, append_assoc, taken_pad)
