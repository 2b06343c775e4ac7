-- How the program is typed in which methods run flat code: these methods by their typed points, as they are read, and the others as they were.
-- It is this project's profile.
use Rattle.std.specs.Prelude.{◌≡◌, ℕ, map, Option, Some}
use Rattle.class_model.specs.declared.class_file.MethodAt.{MethodAt}
use Rattle.class_tree.specs.Headers.{Name, Classes}
use Rattle.flow_code.specs.FlatCode.{FlatCode}
use Rattle.flow_code.specs.ReadTypes.{class_of_site, read_frame}
use Rattle.member_link.specs.Scope.{Scope, scope_at}
use Rattle.same_runs.specs.Flats.{Flats, class_of_flat_new, host_scope}
use Rattle.same_runs.specs.ReadyCode.{IsReadyCode}
use Rattle.typed_runs.specs.TypedPoints.{Typing}
use Rattle.typed_runs.specs.TypedPrograms.{Typings}

-- ---- typings

-- the frames of a flat code are those of its typed points, read
abbrev pub flat_typing : Classes → Scope → FlatCode → Typing
flat_typing classes s flat = record {
  scope = host_scope classes s flat;
  frames = map (λ point. read_frame flat point.typed) flat.points;
}

abbrev pub flat_typings : Classes → Flats → Typings → Typings
flat_typings classes flats typings at = of_flat (flats at) (scope_at classes at) where
  of_flat : Option FlatCode → Option Scope → Typing
  of_flat (Some flat) (Some s) = flat_typing classes s flat
  of_flat flat s = typings at

-- ---- what is asked of flat codes

-- at each site stands a new of its class
abbrev pub SitesAreNews : Classes → FlatCode → Type 0
SitesAreNews classes flat =
    (at : ℕ) (class : Name)
    → class_of_site flat.sites at ≡ Some class
    → class_of_flat_new classes flat at ≡ Some class

-- a flat code of the method at its numbers, of which code can be written, and whose sites are news
pub record IsReadyFlat (classes : Classes) (at : MethodAt) (flat : FlatCode) : Type 0 where
  pub scope : Scope
  pub is_scope : scope_at classes at ≡ Some scope
  pub ready : IsReadyCode classes scope flat
  pub sites : SitesAreNews classes flat

abbrev pub AreReady : Classes → Flats → Type 0
AreReady classes flats =
    (at : MethodAt) (flat : FlatCode) → flats at ≡ Some flat → IsReadyFlat classes at flat
