-- All words behind the name are seen, and no option awaits its value.
use Rattle.std.proofs.Common.{map}
use Rattle.std.specs.Prelude.{string_bytes}
use Rattle.pea_top.specs.Seen.{AreBehindName}
use Rattle.pea_top.proofs.WordsSeen.{ended, unended}
use Rattle.pea_top.proofs.words.arguments_in.Goals as goal

pub returns-in-Some-clause-none : goal.returns-in-Some-clause-none
returns-in-Some-clause-none c =
    unended (AreBehindName (map string_bytes c.args.words.now)) c.in_ok-seen.seen c.in-Some.field-0 c.in-Some.is c.in_ok-seen.ensures.some

pub returns-in-None-clause-some : goal.returns-in-None-clause-some
returns-in-None-clause-some c =
    ended (AreBehindName (map string_bytes c.args.words.now)) c.in_ok-seen.seen c.in-None.is c.in_ok-seen.ensures.some
