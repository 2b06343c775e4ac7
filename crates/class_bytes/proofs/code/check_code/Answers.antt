use Rattle.std.proofs.Common.{arith, sym, ap, ◌∙◌}
use Rattle.std.specs.Option.{option_map}
use Rattle.class_bytes.specs.Inner.Cut.{part_of}
use Rattle.class_bytes.proofs.PartLengths.{part_fills}
use Rattle.class_bytes.proofs.code.check_code.Goals as goal

pub check_part-requires-clause-fits : goal.check_part-requires-clause-fits
check_part-requires-clause-fits c =
    let fills = part_fills c.args.content.now (part_of c.in-Some.part) (sym c.in_ok-part.ensures ∙ ap (option_map part_of) c.in-Some.is) in
    omega (arith, fills, c.requires.fits)
