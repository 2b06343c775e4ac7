use Rattle.std.proofs.Common.{◌≡◌, [], take, if◌then◌else◌}
use Rattle.std.specs.List.{flat_map}
use Rattle.class_model.specs.declared.class_file.Handler.{Handler}
use Rattle.inline_expand.specs.Inner.Numbers.{handler_for}
use Rattle.inline_expand.proofs.handlers.handlers_at.Given as goal
use Rattle.member_link.specs.Machine.Codes.{covers}

abbrev pub invariant-loop-handler : goal.invariant-loop-handler
invariant-loop-handler l =
    l.list ≡ flat_map (λ (handler : Handler). if covers handler l.at then handler_for l.numbers handler else []) (take l.handler-index l.handler-items)
