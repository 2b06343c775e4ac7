-- A typed folder in which no flat code takes the place of a method's own.
use Rattle.same_runs.specs.ClearedFields.{ReplacesByFlats}
use Rattle.std.proofs.Common.{◌≡◌, Some, None, refl}
use Rattle.class_model.specs.Members.{has}
use Rattle.class_tree.specs.Headers.{Classes, headers_of}
use Rattle.class_tree.specs.Hierarchy.{IsHierarchy}
use Rattle.class_tree.specs.Trees.{IsTree}
use Rattle.expanded_runs.proofs.Runs.Setup.{IsSetup, Setup, before}
use Rattle.flow_code.specs.FlatCode.{FlatCode}
use Rattle.flow_code.specs.TypedFrames.{FolderFrames}
use Rattle.member_link.specs.Machine.Links.{AreLinksOf}
use Rattle.member_link.specs.Machine.Programs.{Links}
use Rattle.same_runs.specs.Flats.{Flats, flats_for_codes}
use Rattle.type_rules.specs.Verified.{TypesFolder}
use Rattle.typed_runs.specs.FolderTypings.{HasTypings}
use Rattle.typed_runs.specs.TypedPrograms.{IsTypedProgram, Typings}

abbrev no_flats : Flats
no_flats at = None

abbrev pub own_setup : Classes → FolderFrames → Links → Typings → Setup
own_setup classes typed links typings = record {
  classes = classes;
  typed = typed;
  links = links;
  flats = no_flats;
  r = flats_for_codes classes links no_flats;
  typings = typings;
}

none_replaced : (classes : Classes) (links : Links) → ReplacesByFlats classes links no_flats (flats_for_codes classes links no_flats)
none_replaced classes links = record {
  bodies = λ at. refl;
  finals = λ class number. (
    λ cleared. absurd cc,
    λ clears. absurd (none clears.is_flat),
  );
  privates = λ class number. (
    λ cleared. absurd cc,
    λ opens. absurd (none opens.is_flat),
  );
  none_added = λ class. refl;
} where
  none : {flat : FlatCode} → None ≡ Some flat → ⊥
  none is = cc

pub is_own_setup : {classes : Classes} {typed : FolderFrames} {links : Links} {typings : Typings}
    → IsTree classes
    → IsHierarchy (headers_of classes)
    → TypesFolder classes typed
    → AreLinksOf (headers_of classes) links
    → IsTypedProgram (before (own_setup classes typed links typings)) typings
    → HasTypings typed typings
    → IsSetup (own_setup classes typed links typings)
is_own_setup {classes} {typed} {links} {typings} tree hierarchy types linked program has = record {
  tree = tree;
  hierarchy = hierarchy;
  linked = linked;
  types = types;
  expanded = λ at flat is. absurd cc;
  replaces = none_replaced classes links;
  program = program;
  typings = has;
}
