-- What linking answers.
use Rattle.std.proofs.Common.{List, Err}
use Rattle.class_model.specs.declared.class_file.ClassFile.{ClassFile}
use Rattle.class_model.specs.declared.header.Header.{Header}
use Rattle.class_tree.specs.Answers.{Answers}
use Rattle.class_tree.specs.Headers.{Classes}
use Rattle.class_tree.specs.Trees.{IsArranged, IsTree}
use Rattle.class_tree.specs.declared.fault.LinkFault.{LinkFault}
use Rattle.class_tree.specs.declared.fault.LinkFault.TheVariants.{Unlinked, NoMemory}
use Rattle.member_link.specs.Linked.{link_checks}
use Rattle.pea_top.specs.Linking.{of_links}
use Rattle.pea_top.specs.Inner.Linking.{IsLinkFault}

-- a hierarchy whose links do not hold
pub unlinked : (X : Type 0) (folder : List ClassFile) (library : List Header) (classes : Classes) → IsArranged folder library classes × IsTree classes
    → (fault : LinkFault) → Answers {X = X} (link_checks classes) (Err fault) → IsLinkFault folder library fault
unlinked X folder library classes tree (Unlinked class member rule) first = of_links classes tree.0 tree.1 first
unlinked X folder library classes tree NoMemory first = tt
