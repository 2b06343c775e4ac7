use Rattle.std.proofs.Common.{◌++◌, ℕ, List, take}
use Rattle.class_tree.specs.Headers.{Name, headers_of}
use Rattle.field_constructors.specs.Inner.ConstructorWords.{AreHandled, handled_of}
use Rattle.field_constructors.proofs.handles.add_folder.Given as goal

abbrev pub invariant-loop-class : goal.invariant-loop-class
invariant-loop-class l =
    (of : Name → List (List ℕ))
    → AreHandled (headers_of l.tree) l.fn.lists.items of
    → AreHandled (headers_of l.tree) l.lists.items (λ class. of class ++ handled_of class (take l.class-index l.class-items))
