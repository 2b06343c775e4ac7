-- A method of a folder that has flat code, in the program of the folder.
use Rattle.std.proofs.Common.{◌≡◌, Option, Some, None, option_map, IsSome, refl, sym, ap, subst, ◌∙◌}
use Rattle.std.proofs.lemmas.Option.{slice_get-map}
use Rattle.class_model.specs.ClassOf.{entered}
use Rattle.class_model.specs.Code.{entry_frame}
use Rattle.class_model.specs.Descriptors.{parameters_of}
use Rattle.class_model.specs.Header.{header_of, method_member}
use Rattle.class_model.specs.Laws.ClassFiles.{parts_hold}
use Rattle.class_model.specs.Laws.Lists.{at_index}
use Rattle.class_model.specs.PoolChecks.{class_at, text_or_empty, utf8_at}
use Rattle.class_model.specs.declared.class_file.ClassFile.{ClassFile}
use Rattle.class_model.specs.declared.class_file.MethodAt.{MethodAt}
use Rattle.class_tree.specs.Headers.{Name, Classes, IsClassFile, class_named, headers_of}
use Rattle.class_tree.specs.Hierarchy.{IsHierarchy}
use Rattle.class_tree.specs.Trees.{IsTree}
use Rattle.class_tree.specs.declared.place.Place.TheVariants as places
use Rattle.flow_code.specs.FlatCode.{FlatCode}
use Rattle.member_link.specs.Machine.Classes.{program_of}
use Rattle.member_link.specs.Machine.Programs.{Links, name_of_class}
use Rattle.member_link.specs.Scope.{Scope}
use Rattle.same_runs.specs.FlatBodies.{flat_entry}
use Rattle.same_runs.specs.Flats.{flat_code}
use Rattle.member_link.specs.Laws.Scopes.{IsScopeAt}
use Rattle.same_runs.specs.Laws.Scopes.{class_there}
use Rattle.typed_runs.specs.TypedPrograms.{entry}

-- ---- the method in the program

module _ (classes : Classes) (links : Links) (at : MethodAt) (s : Scope) (is : IsScopeAt classes at s) where
  pub own_name : (header_of s.class).name ≡ name_of_class (program_of classes links) at.class
  own_name = sym (rw (class_there classes links at s is) refl)

  pub own_class : IsHierarchy (headers_of classes) → class_named (headers_of classes) (header_of s.class).name ≡ Some (header_of s.class)
  own_class hierarchy =
      (hierarchy.of_place (places.Folder at.class) (header_of s.class)
      (slice_get-map header_of classes.folder at.class ∙ ap (option_map header_of) is.of_folder)).found

  -- the class of a class file that was read is named
  named_in : (file : ClassFile) → file ≡ s.class → (o : Option Name) → class_at file.pool file.this_class ≡ o → IsSome o
      → (name : Name) × (class_at s.class.pool s.class.this_class ≡ Some name)
  named_in file e None d there = cc
  named_in file e (Some name) d there = (name, subst (λ (g : ClassFile). class_at g.pool g.this_class ≡ Some name) e d)

  class_is_named : IsTree classes → (name : Name) × (class_at s.class.pool s.class.this_class ≡ Some name)
  class_is_named tree =
      let read : IsClassFile s.class = at_index IsClassFile classes.folder at.class s.class tree.folder is.of_folder in
      named_in (entered read.cut) (sym read.is) (class_at read.cut.pool read.cut.this_class) refl (parts_hold read.cut read.holds).this_class.0

  -- it begins with the frame that a flat code is typed from
  pub entry_is : IsTree classes → (flat : FlatCode)
      → flat_entry s flat
      ≡ entry (program_of classes links) at (method_member s.class.pool s.method) (flat_code classes links s flat)
  entry_is tree flat =
      let named = class_is_named tree in
      ap (λ (n : Option Name). entry_frame s.method.flags (text_or_empty (utf8_at s.class.pool s.method.name)) n
      (parameters_of (text_or_empty (utf8_at s.class.pool s.method.desc))) flat.locals)
      (named.1 ∙ ap Some (sym (ap text_or_empty named.1) ∙ own_name))
