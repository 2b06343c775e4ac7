use Rattle.std.proofs.Common.{◌≡◌, IsSome, sym, subst}
use Rattle.class_tree.specs.Headers.{headers_of}
use Rattle.class_tree.specs.Inner.Nodes.{place_at}
use Rattle.class_tree.specs.Order.{header_at}
use Rattle.class_tree.specs.declared.place.Place.TheVariants.{Folder}
use Rattle.class_tree.proofs.Superclasses.{place_of_itself}
use Rattle.class_tree.proofs.tree.Tree.number.Goals as goal

pub returns-in-Folder : goal.returns-in-Folder
returns-in-Folder c =
    let headers = headers_of c.args.self.now in
    let there = subst (λ place. IsSome (header_at headers place)) c.in-Folder.is c.requires in
    subst (λ place. place_at headers c.in-Folder.place ≡ place) (sym c.in-Folder.is) (place_of_itself headers (Folder c.in-Folder.place) there)
