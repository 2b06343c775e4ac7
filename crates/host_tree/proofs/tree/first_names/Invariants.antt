use Rattle.std.proofs.Common.{◌≡◌, ◌+◌, ◌++◌, map, length, string_bytes}
use Rattle.std.specs.BTreeMap.{keys}
use Rattle.host_tree.proofs.tree.first_names.Given as goal

abbrev pub invariant-loop-name : goal.invariant-loop-name
invariant-loop-name l =
    record {
      split : l.names ++ map string_bytes l.name-iterator ≡ map string_bytes (keys l.files);
      counted : length l.names + l.left ≡ l.most;
    }
