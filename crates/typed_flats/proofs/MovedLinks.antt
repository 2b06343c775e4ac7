-- The links of a program, and what its constants name, where codes are replaced and flags cleared.
use Rattle.std.proofs.Common.{◌≡◌, ℕ, [], ap, ◌∙◌}
use Rattle.class_model.specs.Members.{STATIC, has}
use Rattle.class_model.specs.declared.frame.Frame.{Frame}
use Rattle.class_tree.specs.Hierarchy.{IsHierarchy}
use Rattle.class_tree.specs.Laws.Alike.{alike_shapes, shapes}
use Rattle.member_link.specs.DeclaredMembers.{Declared}
use Rattle.member_link.specs.Forms.{IsInstanceForm, IsStaticForm}
use Rattle.member_link.specs.Machine.Links.{AreLinksOf}
use Rattle.member_link.specs.Machine.Programs.{Program, headers_in}
use Rattle.member_link.specs.Machine.Replaced.{Replacement, replaced}
use Rattle.member_link.specs.References.{Reference}
use Rattle.member_link.specs.Rows.FrameAssignability.{IsFrameAssignable}
use Rattle.same_runs.specs.Laws.ReplacedPrograms.{static_stays}
use Rattle.type_rules.specs.Grown.{AreGrownHeaders, IsSameFound}
use Rattle.typed_flats.proofs.GrownLaws.{GrownLaws}
use Rattle.typed_runs.specs.TypedPoints.{HasField, HasMethod}
use Rattle.typed_runs.specs.TypedPrograms.{IsTypedProgram, Typings}

static_same : {old new : Declared} → IsSameFound old new → has new.member.flags STATIC ≡ has old.member.flags STATIC
static_same {old = old} same =
    ap (λ (flags : ℕ). has flags STATIC) same.opened.flags ∙ static_stays old.member.flags same.opened.cleared

module _ {P : Program} {T : Typings} (typed : IsTypedProgram P T) (r : Replacement) (none : (class : ℕ) → r.added class ≡ []) (laws : GrownLaws) where
  grown : AreGrownHeaders (headers_in P) (headers_in (replaced P r))
  grown = laws.grown P r none

  pub same_shapes : shapes (headers_in P) ≡ shapes (headers_in (replaced P r))
  same_shapes =
      alike_shapes (headers_in P) (headers_in (replaced P r)) (laws.alike (headers_in P) (headers_in (replaced P r)) (laws.grown P r none))

  pub moved_hierarchy : IsHierarchy (headers_in (replaced P r))
  moved_hierarchy =
      (laws.hierarchy (headers_in P) (headers_in (replaced P r)) (laws.alike (headers_in P) (headers_in (replaced P r)) (laws.grown P r none))).0
      typed.hierarchy

  pub moved_links : AreLinksOf (headers_in (replaced P r)) P.links
  moved_links = (laws.links (headers_in P) (headers_in (replaced P r)) P.links grown).0 typed.links

  pub moved_static_field : (named : Reference) → HasField (headers_in P) IsStaticForm named → HasField (headers_in (replaced P r)) IsStaticForm named
  moved_static_field named has_field =
      let there = laws.fields (headers_in P) (headers_in (replaced P r)) named.class named.name named.desc has_field.field grown has_field.finds in
      record { field = there.0; finds = there.1; form = static_same there.2 ∙ has_field.form }

  pub moved_instance_field : (named : Reference) → HasField (headers_in P) IsInstanceForm named
      → HasField (headers_in (replaced P r)) IsInstanceForm named
  moved_instance_field named has_field =
      let there = laws.fields (headers_in P) (headers_in (replaced P r)) named.class named.name named.desc has_field.field grown has_field.finds in
      record { field = there.0; finds = there.1; form = static_same there.2 ∙ has_field.form }

  pub moved_method : (Form : Declared → Type 0) (named : Reference) → HasMethod (headers_in P) Form named
      → HasMethod (headers_in (replaced P r)) Form named
  moved_method Form named has_method = record {
    method = has_method.method;
    finds = laws.methods (headers_in P) (headers_in (replaced P r)) named.class named.name named.desc has_method.method grown has_method.finds;
    form = has_method.form;
    no_clinit = has_method.no_clinit;
  }

  pub moved_frame : (from to : Frame) → IsFrameAssignable (headers_in P) from to → IsFrameAssignable (headers_in (replaced P r)) from to
  moved_frame from to is = (laws.frames (headers_in P) (headers_in (replaced P r)) from to grown).0 is
