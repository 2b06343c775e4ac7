use Rattle.std.proofs.Common.{sym}
use Rattle.class_tree.proofs.LibraryNames.{library_decides, none_in_library}
use Rattle.class_tree.proofs.base.is_in_library.Goals as goal

pub returns-in-Some : goal.returns-in-Some
returns-in-Some c =
    rw c.is_outside.ensures (library_decides c.args.headers.now c.requires c.args.name.now c.in-Some.number (sym c.in-Some.ensures))

pub returns-in-None : goal.returns-in-None
returns-in-None c = none_in_library c.args.headers.now c.args.name.now (sym c.in-None.ensures)
