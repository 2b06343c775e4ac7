-- Places that are the same.
use Rattle.std.proofs.Common.{◌≡◌, ap}
use Rattle.std.specs.Bool.{Decides}
use Rattle.std.proofs.lemmas.Bool.{false≢true, eqb-true, eq-eqb}
use Rattle.class_tree.specs.contracts.place.PlacePartialEq.TheImpl.{ghosts}
use Rattle.class_tree.specs.declared.place.Place.{Place}
use Rattle.class_tree.specs.declared.place.Place.TheVariants.{Folder, Library}

pub same_place : (one other : Place) → Decides (ghosts.eq one other) (one ≡ other)
same_place (Folder one) (Folder other) = (λ same. ap Folder (eqb-true one other same), λ same. eq-eqb one other cc)
same_place (Library one) (Library other) = (λ same. ap Library (eqb-true one other same), λ same. eq-eqb one other cc)
same_place (Folder one) (Library other) = (λ same. absurd (false≢true same), λ same. absurd cc)
same_place (Library one) (Folder other) = (λ same. absurd (false≢true same), λ same. absurd cc)
