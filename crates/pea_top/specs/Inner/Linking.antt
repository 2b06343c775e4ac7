-- What the step that links answers.
use Rattle.std.specs.Prelude.{List, Result, Ok, Err}
use Rattle.class_model.specs.declared.class_file.ClassFile.{ClassFile}
use Rattle.class_model.specs.declared.header.Header.{Header}
use Rattle.class_tree.specs.Headers.{Classes}
use Rattle.class_tree.specs.Trees.{IsArranged, IsTree}
use Rattle.class_tree.specs.declared.fault.LinkFault.{LinkFault}
use Rattle.class_tree.specs.declared.fault.LinkFault.TheVariants as faults
use Rattle.member_link.specs.Linked.{IsLinked}
use Rattle.pea_top.specs.Linking.{IsLinkProblem}
use Rattle.pea_top.specs.declared.linking.LinkStop.{LinkStop}
use Rattle.pea_top.specs.declared.status.Status.{Status}
use Rattle.pea_top.specs.declared.status.Status.TheVariants as statuses

-- why linking stops: the first problem, or memory ran out
abbrev pub IsLinkFault : List ClassFile → List Header → LinkFault → Type 0
IsLinkFault folder library (faults.Unlinked class member rule) =
    IsLinkProblem folder library (record { class = class; member = member; rule = rule })
IsLinkFault folder library faults.NoMemory = Unit {0}

-- the hierarchy, which is linked, or the first problem
abbrev pub IsLinkedOrWhy : List ClassFile → List Header → Result Classes LinkStop → Type 0
IsLinkedOrWhy folder library (Ok classes) =
    IsArranged folder library classes × IsTree classes × IsLinked classes
IsLinkedOrWhy folder library (Err stop) = IsLinkFault folder library stop.fault

-- the status of a command whose class files are not linked
abbrev pub link_status : LinkFault → Status
link_status (faults.Unlinked class member rule) = statuses.Unlinked class member rule
link_status faults.NoMemory = statuses.NoMemory
