use Rattle.std.proofs.Common.{◌++◌, ℕ, List, take}
use Rattle.class_tree.specs.Headers.{Name, headers_of}
use Rattle.field_constructors.specs.Inner.ConstructorWords.{AreHandled, handled_of_pool}
use Rattle.field_constructors.proofs.handles.add_pool.Given as goal

abbrev pub invariant-loop-index : goal.invariant-loop-index
invariant-loop-index l =
    (of : Name → List (List ℕ))
    → AreHandled (headers_of l.tree) l.fn.lists.items of
    → AreHandled (headers_of l.tree) l.lists.items (λ class. of class ++ handled_of_pool class l.pool (take l.index l.pool))
