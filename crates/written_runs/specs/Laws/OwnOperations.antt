-- The operations of methods that are not rewritten are in both programs.
use Rattle.std.proofs.Common.{◌≡◌, ℕ, List, slice_get, Option, Some, None, option_map, IsTrue, refl, sym, ap, subst, ◌∙◌}
use Rattle.std.specs.Prelude.{bytes_eq, option_and_then}
use Rattle.std.specs.List.{list_any}
use Rattle.std.proofs.lemmas.Option.{none-some, same_Some}
use Rattle.class_model.specs.Laws.Lists.{at_index}
use Rattle.class_model.specs.Members.{FINAL, has}
use Rattle.class_model.specs.declared.class_file.MethodAt.{MethodAt}
use Rattle.class_model.specs.declared.instr.Instr.{Instr}
use Rattle.class_model.specs.declared.instr.Placed.{Placed}
use Rattle.class_tree.specs.Headers.{Classes, Headers, headers_of}
use Rattle.class_tree.specs.Hierarchy.{IsHierarchy}
use Rattle.class_tree.specs.Layouts.{chain}
use Rattle.expanded_code.specs.CandidateSites.{IsSite}
use Rattle.expanded_code.specs.Candidates.{IsCandidate, StoresInto}
use Rattle.flow_code.specs.FlatCode.{FlatCode}
use Rattle.flow_code.specs.declared.point.Site.{Site}
use Rattle.member_link.specs.DeclaredMembers.{Declared}
use Rattle.member_link.specs.Fields.{FindsField}
use Rattle.member_link.specs.Forms.{IsInstanceForm, IsStaticForm}
use Rattle.member_link.specs.Machine.Codes.{call_op, code_points, initialises, instr_op, number_at, or_meaningless, special_start}
use Rattle.member_link.specs.Machine.Links.{AreLinksOf}
use Rattle.member_link.specs.Machine.Ops.{call_special, put_static}
use Rattle.member_link.specs.Machine.Programs.{Code, Point, RunMethod, code_at, code_run, headers_in, point_at, run_method}
use Rattle.member_link.specs.References.{Reference}
use Rattle.member_link.specs.Scope.{Scope, instructions, is_clinit, row_scope, scope_at}
use Rattle.plan_flow.specs.Written.WrittenPrograms.{WrittenMethod}
use Rattle.same_runs.specs.Laws.FoundMembers.{FieldLaws, initialiser_there, static_in_both}
use Rattle.same_runs.specs.Laws.InstrOps.{DeclaresInitialisers, OwnBars, folder_op_in_both, own_point, own_points_are}
use Rattle.same_runs.specs.Laws.KeptFinals.{ClearsKept, KeepsField, StoresStatics, own_bars}
use Rattle.same_runs.specs.Laws.MethodPoints.{code_of_point, method_of_code}
use Rattle.same_runs.specs.Laws.Operations.{WorksOnOperands}
use Rattle.member_link.specs.Laws.Scopes.{scope_is_at}
use Rattle.same_runs.specs.Laws.Scopes.{code_is_own, program_headers}
use Rattle.same_runs.specs.SamePrograms.{SameOp, same_op}
use Rattle.typed_runs.specs.TypedPoints.{HasField, HasMethod, IsLinkedOp}
use Rattle.written_runs.specs.Inner.Setup.{IsSetup, Setup, first, second}
use Rattle.written_runs.specs.Laws.OwnCodes.{runs_own}
use Rattle.written_runs.specs.Laws.SameBoth.{own, own_same}

-- ---- flags that are cleared

-- a final field of the chain of a candidate is kept by methods' own codes
kept_by_candidate : (classes : Classes) (class : List ℕ) (field : Declared)
    → IsCandidate classes class
    → IsTrue (list_any (bytes_eq field.class) (chain (headers_of classes) class))
    → IsTrue (has field.member.flags FINAL)
    → KeepsField classes field
kept_by_candidate classes class field candidate of_chain final = record {
  stores = λ at s number placed index reference scope is stores names finds.
      let headers_are = (scope_is_at classes at s scope).headers in
      let into : StoresInto s placed.instr field = record {
        index = index;
        stores = stores;
        reference = reference;
        names = names;
        finds = subst (λ (all : Headers). FindsField all reference.class reference.name reference.desc (Some field)) (sym headers_are) finds;
      } in
      let within = candidate.finals at s number placed field scope is into of_chain final in
      (within.is_init, within.own);
}

module _ {u : Setup} (is : IsSetup u) where
  -- the class of a site of a method that is rewritten is a candidate
  pub site_is_candidate : (at : MethodAt) (one : WrittenMethod) (of : ℕ) (site : Site)
      → u.written at ≡ Some one
      → slice_get one.flat.sites of ≡ Some site
      → IsCandidate u.classes site.class
  site_is_candidate at one of site written there =
      (at_index (IsSite u.classes one.flat) one.flat.sites of site (is.ready at one written).sites.sites there).candidate

  -- a flat code is that of a method that is rewritten
  pub of_flat : (at : MethodAt) (flat : FlatCode) → u.flats at ≡ Some flat → (one : WrittenMethod) × (u.written at ≡ Some one) × (one.flat ≡ flat)
  of_flat at flat there = by (u.written at) refl where
    by : (written : Option WrittenMethod) → u.written at ≡ written → (one : WrittenMethod) × (u.written at ≡ Some one) × (one.flat ≡ flat)
    by None e = absurd (none-some flat (sym (is.flats.each at ∙ rw (e) refl) ∙ there))
    by (Some one) e = (one, e, same_Some one.flat flat (sym (is.flats.each at ∙ rw (e) refl) ∙ there))

  pub clears_kept : ClearsKept u.classes u.r
  clears_kept = record {
    each = λ class number cleared.
        let c = (is.replaces.finals class number).0 cleared in
        let one = of_flat c.at c.flat c.is_flat in
        let candidate = site_is_candidate c.at one.0 c.of c.site one.1 (ap (λ (flat : FlatCode). slice_get flat.sites c.of) one.2 ∙ c.is_site) in
        record { field = c.field; is_field = c.is_field; keeps = kept_by_candidate u.classes c.site.class c.field candidate c.of_chain c.final };
  }

  pub clears_kept_also : ClearsKept u.classes u.s
  clears_kept_also = record {
    each = λ class number cleared.
        let c = (is.replaces_also.finals class number).0 cleared in
        let field : Declared = record { class = c.is_field.header.name; member = c.member } in
        let candidate = site_is_candidate c.at c.one c.of c.site c.is_written c.is_site in
        let of_chain = subst (λ (name : List ℕ). IsTrue (list_any (bytes_eq name) (chain (headers_of u.classes) c.site.class)))
        (ap (λ (r : Reference). r.class) c.is_field.named) c.of_chain in
        record {
          field = field;
          is_field = record {
            header = c.is_field.header;
            of_folder = c.is_field.of_folder;
            declared = c.is_field.declared;
            of_class = refl;
            instance = c.is_field.instance;
          };
          keeps = kept_by_candidate u.classes c.site.class field candidate of_chain c.final;
        };
  }

  -- ---- what typing says of a method's own instructions

  module _ (laws : FieldLaws) (hierarchy : IsHierarchy (headers_of u.classes)) (at : MethodAt) (none : u.written at ≡ None) (code : Code)
      (runs : code_at (first u) at ≡ Some code) where
    method : (method : RunMethod) × (run_method (first u) at ≡ Some method) × (code_run method ≡ Some code)
    method = method_of_code (first u) at code runs

    runs_folder : code_at (own u) at ≡ Some code
    runs_folder = ap (option_and_then code_run) (runs_own is at none method.0 method.1) ∙ method.2

    -- the operation of an instruction is linked
    linked_op : (s : Scope) (number : ℕ) (placed : Placed)
        → scope_at u.classes at ≡ Some s
        → slice_get (instructions s) number ≡ Some placed
        → (place : ℕ) × IsLinkedOp (first u) (u.typings at).scope place (instr_op u.links (number_at (code_points s)) (row_scope s) placed.instr)
    linked_op s number placed scope there =
        let own_code = code_is_own u.classes u.links at s (scope_is_at u.classes at s scope) code runs_folder in
        let point : slice_get code.points number ≡ Some (own_point u.links s placed) =
        ap (λ (c : Code). slice_get c.points number) own_code ∙ own_points_are u.links s number ∙ ap (option_map (own_point u.links s)) there in
        let typed = (is.program.methods at method.0 code method.1 method.2).points number (own_point u.links s placed) point in
        (typed.place, typed.linked)

    -- a field that it stores into as a static one is static
    stores_statics : StoresStatics u.classes at
    stores_statics = record {
      each = λ s number placed index reference field scope there stores names finds.
          let linked = linked_op s number placed scope there in
          let has_field : HasField (headers_in (first u)) IsStaticForm reference =
          subst (λ (r : Option Reference). IsLinkedOp (first u) (u.typings at).scope linked.0 (or_meaningless
          (option_map (λ (r : Reference). put_static r (initialises (is_clinit s) (row_scope s).own)) r))) names
          (subst (λ (i : Instr). IsLinkedOp (first u) (u.typings at).scope linked.0 (instr_op u.links (number_at (code_points s)) (row_scope s) i))
          stores linked.1) in
          let own_headers = sym (program_headers u.classes u.links) in
          sym (static_in_both laws {P = own u} {Q = first u} (own_same is) (subst IsHierarchy own_headers hierarchy)
          (subst (λ (headers : Headers). AreLinksOf headers u.links) own_headers is.linked) is.program.hierarchy is.program.links reference field
          has_field.field (subst (λ (all : Headers). FindsField all reference.class reference.name reference.desc (Some field)) own_headers finds)
          has_field.finds)
          ∙ has_field.form;
    }

    -- an instance initialiser that it calls is declared
    declares_initialisers : DeclaresInitialisers u.classes (first u) at
    declares_initialisers = record {
      each = λ s number placed opcode index count r scope there instr special names name.
          let linked = linked_op s number placed scope there in
          let op : instr_op u.links (number_at (code_points s)) (row_scope s) placed.instr ≡ call_special r (special_start u.links (row_scope s) r.class) =
          ap (instr_op u.links (number_at (code_points s)) (row_scope s)) instr
          ∙ ap (λ (found : Option Reference). or_meaningless (option_map (call_op u.links (row_scope s) opcode) found)) names
          ∙ ap (λ (n : ℕ). call_op u.links (row_scope s) n r) special in
          let has_method : HasMethod (headers_in (first u)) IsInstanceForm r =
          subst (IsLinkedOp (first u) (u.typings at).scope linked.0) op linked.1 in
          initialiser_there (first u) r has_method.method name has_method.finds;
    }

    -- its stores are barred in both programs, or in none
    bars : OwnBars u.classes (first u) (second u) at
    bars = record {
      fields = λ s number placed index r scope there stores names field links.
          folder_also.fields s number placed index r scope there stores names field links
          ∙ sym (folder.fields s number placed index r scope there stores names field links);
      statics = λ s number placed index r scope there stores names field links.
          folder_also.statics s number placed index r scope there stores names field links
          ∙ sym (folder.statics s number placed index r scope there stores names field links);
    } where
      folder : OwnBars u.classes (own u) (first u) at
      folder = own_bars u.classes u.links laws hierarchy is.linked u.r clears_kept at stores_statics

      folder_also : OwnBars u.classes (own u) (second u) at
      folder_also = own_bars u.classes u.links laws hierarchy is.linked u.s clears_kept_also at stores_statics

  -- An operation on operands of a method that is not rewritten does the same in both.
  pub own_operations : FieldLaws → IsHierarchy (headers_of u.classes)
      → (at : MethodAt) (place : ℕ) (point : Point)
      → u.written at ≡ None
      → point_at (first u) at place ≡ Some point
      → WorksOnOperands point.op
      → SameOp (first u) (second u) point.op point.op
  own_operations laws hierarchy at place point none there work =
      let code = code_of_point (first u) at place point there in
      let here : point_at (own u) at place ≡ Some point =
      ap (option_and_then (λ (c : Code). slice_get c.points place)) (runs_folder laws hierarchy at none code.0 code.1) ∙ code.2 in
      same_op (folder_op_in_both u.links at (bars laws hierarchy at none code.0 code.1) (declares_initialisers laws hierarchy at none code.0 code.1) place point
      here)
