use Rattle.std.proofs.Common.{◌≡◌, take}
use Rattle.std.specs.List.{flat_map}
use Rattle.class_tree.specs.Headers.{headers_of}
use Rattle.pea_top.specs.Lines.{report_line}
use Rattle.pea_top.proofs.lines.report_text.Given as goal

abbrev pub invariant-loop-line : goal.invariant-loop-line
invariant-loop-line l = l.text.items ≡ flat_map (report_line (headers_of l.tree)) (take l.line-index l.report)
