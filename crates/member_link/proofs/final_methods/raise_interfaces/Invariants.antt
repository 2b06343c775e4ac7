use Rattle.std.proofs.Common.{◌≡◌, ◌<◌, ℕ, Some, IsTrue}
use Rattle.std.specs.List.{All}
use Rattle.class_model.specs.declared.header.Header.{Header}
use Rattle.class_tree.specs.Headers.{headers_of}
use Rattle.class_tree.specs.Names.{is_interface}
use Rattle.class_tree.specs.Order.{header_at}
use Rattle.class_tree.specs.declared.place.Place.TheVariants.{Folder}
use Rattle.member_link.specs.Inner.FinalEnds.{IsRaised}
use Rattle.member_link.proofs.final_methods.raise_interfaces.Given as goal

abbrev pub invariant-loop-index : goal.invariant-loop-index
invariant-loop-index l = (index : ℕ) → index < l.index → (header : Header) → header_at (headers_of l.tree) (Folder index) ≡ Some header → IsTrue (is_interface header) → All (IsRaised l.ends.entries l.end) header.methods
