use Rattle.std.proofs.Common.{◌+◌, false, drop}
use Rattle.class_model.specs.Code.{inners_checks}
use Rattle.class_bytes.specs.Inner.CodeParts.{inners_len, setting_of_code, entry_frame_of}
use Rattle.class_bytes.specs.Inner.Cut.{inners_of}
use Rattle.class_bytes.proofs.Inners.{InnersChecked}
use Rattle.class_bytes.proofs.frames.check_inners.Given as goal

abbrev pub invariant-loop-attr : goal.invariant-loop-attr
invariant-loop-attr l =
    let attrs = l.code.part.now.attrs in
    InnersChecked (setting_of_code l.code) (entry_frame_of l.code) (inners_checks (setting_of_code l.code) (entry_frame_of l.code) false l.at (inners_of attrs)) (l.at + inners_len (inners_of attrs)) l.has_table l.place (drop l.attr-index l.attr-items)
