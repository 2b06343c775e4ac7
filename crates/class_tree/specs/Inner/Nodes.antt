-- How a hierarchy is kept: each class has a number, those of the folder first, and knows the numbers of the classes that
-- it names.
use Rattle.std.specs.Prelude.{◌≡◌, ◌-◌, ℕ, List, map, length, nat_lt, filter_map, bytes_eq, slice_get, Option, Some, option_and_then, Result, Ok, Err, if◌then◌else◌}
use Rattle.class_model.specs.Header.{header_of}
use Rattle.class_model.specs.declared.header.Header.{Header}
use Rattle.class_model.specs.declared.header.Member.{Member}
use Rattle.class_tree.specs.Inner.Graphs.{Graph}
use Rattle.class_tree.specs.Headers.{Name, Classes, Headers, headers_of, all_headers}
use Rattle.class_tree.specs.Interfaces.{AreSuperinterfaces}
use Rattle.class_tree.specs.Inner.MemberIndex.{IsMemberIndex}
use Rattle.class_tree.specs.Order.{first_place, members_of, place_of}
use Rattle.class_tree.specs.Steps.{supers}
use Rattle.class_tree.specs.Trees.{IsTree, IsProblemOf}
use Rattle.class_tree.specs.declared.fault.LinkFault.{LinkFault}
use Rattle.class_tree.specs.declared.fault.LinkFault.TheVariants.{Unlinked, NoMemory}
use Rattle.class_tree.specs.declared.links.Links.{Links}
use Rattle.class_tree.specs.declared.members.MemberKind.{MemberKind}
use Rattle.class_tree.specs.declared.members.MemberKind.TheVariants.{Field, Method}
use Rattle.class_tree.specs.declared.place.Place.{Place}
use Rattle.class_tree.specs.declared.place.Place.TheVariants.{Folder, Library}

-- the number of the class of a name
abbrev pub number_of : Headers → Name → Option ℕ
number_of headers name = first_place (λ header. bytes_eq name header.name) (all_headers headers)

-- the place of the class of a number
abbrev pub place_at : Headers → ℕ → Place
place_at headers number =
    if nat_lt number (length headers.folder) then Folder number
    else Library (number - length headers.folder)

-- Each class with those of its superclass and interfaces that are there.
abbrev pub graph_of : Headers → Graph
graph_of headers =
    map (λ header. filter_map (number_of headers) (supers header)) (all_headers headers)

-- the place of the superclass of a class
abbrev pub super_place : Headers → Header → Option Place
super_place headers header = option_and_then (place_of headers) header.super_name

-- the superinterfaces of each class, as places
pub record AreInterfaceLists (headers : Headers) (lists : List (List Place)) : Type 0 where
  pub len : length lists ≡ length (all_headers headers)
  pub each : (number : ℕ) (header : Header) (places : List Place)
      → slice_get (all_headers headers) number ≡ Some header
      → slice_get lists number ≡ Some places
      → (names : List Name)
      × AreSuperinterfaces headers header.name names
      × (map (place_of headers) names ≡ map Some places)

-- an index of the members of each class
pub record AreMemberIndexes (members : Header → List Member) (headers : Headers)
    (indexes : List (List ℕ)) : Type 0 where
  pub len : length indexes ≡ length (all_headers headers)
  pub each : (number : ℕ) (header : Header) (index : List ℕ)
      → slice_get (all_headers headers) number ≡ Some header
      → slice_get indexes number ≡ Some index
      → IsMemberIndex (members header) index

-- the indexes of the fields or of the methods that a hierarchy keeps
abbrev pub indexes_of : MemberKind → Links → List (List ℕ)
indexes_of Field links = links.fields
indexes_of Method links = links.methods

-- what a hierarchy keeps beside its classes
pub record AreLinks (classes : Classes) (of_folder : List Header) (links : Links) : Type 0 where
  pub tree : IsTree classes
  pub headers : of_folder ≡ map header_of classes.folder
  pub superclasses : links.superclasses.items
      ≡ map (super_place (headers_of classes)) (all_headers (headers_of classes))
  pub interfaces : AreInterfaceLists (headers_of classes) links.interfaces
  pub members : (kind : MemberKind)
      → AreMemberIndexes (members_of kind) (headers_of classes) (indexes_of kind links)

-- what linking classes in byte order of names answers
abbrev pub IsLinksOf : Classes → List Header → Result Links LinkFault → Type 0
IsLinksOf classes of_folder (Ok links) = AreLinks classes of_folder links
IsLinksOf classes of_folder (Err (Unlinked class member rule)) =
    IsProblemOf classes (record { class = class; member = member; rule = rule })
IsLinksOf classes of_folder (Err NoMemory) = Unit {0}
