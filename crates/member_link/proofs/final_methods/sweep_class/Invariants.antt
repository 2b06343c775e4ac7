use Rattle.std.proofs.Common.{◌≡◌, ◌<◌, ◌≤◌, ℕ, slice_get, Some, IsTrue}
use Rattle.class_model.specs.declared.header.Member.{Member}
use Rattle.member_link.specs.DeclaredMembers.{is_inherited}
use Rattle.member_link.specs.Inner.FinalEnds.{package_key, Grows, IsFree, IsSweptFrom}
use Rattle.member_link.proofs.final_methods.sweep_class.Given as goal

abbrev pub invariant-loop-index : goal.invariant-loop-index
invariant-loop-index l =
    let home = package_key l.header.name in
    Grows l.fn.ends.entries l.ends.entries
    × (l.known ≤ l.index)
    × ((index : ℕ) (member : Member) → slice_get l.header.methods index ≡ Some member → index < l.known → IsTrue (is_inherited member) → IsFree l.fn.ends.entries home l.span member)
    × ((index : ℕ) → index < l.index → (member : Member) → slice_get l.header.methods index ≡ Some member → IsSweptFrom l.fn.ends.entries l.ends.entries home l.span member)
