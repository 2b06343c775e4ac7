-- The operations on operands of flat code that is written as it is are in both programs: its stores into fields are barred in both or in none, since the
-- same final flags of fields that it stores into are cleared.
use Rattle.std.proofs.Common.{◌≡◌, ◌+◌, ◌&&◌, ℕ, Bool, true, false, List, bytes_eq, slice_get, Option, Some, None, option_map, IsTrue, IsFalse, refl, sym, ap, subst, ◌∙◌, inl, inr, if◌then◌else◌}
use Rattle.std.specs.Prelude.{option_and_then}
use Rattle.std.specs.List.{list_any}
use Rattle.std.proofs.lemmas.Option.{none-some, same_Some, slice_get-map, slice_get_within}
use Rattle.class_model.specs.Header.{header_of}
use Rattle.class_model.specs.Laws.Lists.{at_index}
use Rattle.class_model.specs.Members.{FINAL, STATIC, has}
use Rattle.class_model.specs.Pool.{Constants, constant_at}
use Rattle.class_model.specs.declared.class_file.MethodAt.{MethodAt}
use Rattle.class_model.specs.declared.header.Header.{Header}
use Rattle.class_model.specs.declared.header.Member.{Member}
use Rattle.class_model.specs.declared.instr.Instr.{Instr}
use Rattle.class_model.specs.declared.instr.Instr.TheVariants.{Invoke, PutField, PutStatic}
use Rattle.class_model.specs.declared.opcodes.TheConstants.{INVOKESPECIAL}
use Rattle.class_tree.specs.Headers.{Headers, Name, headers_of}
use Rattle.class_tree.specs.Hierarchy.{IsHierarchy}
use Rattle.class_tree.specs.Layouts.{chain}
use Rattle.expanded_code.specs.CandidateSites.{StoresFinal}
use Rattle.expanded_code.specs.Candidates.{IsCandidate}
use Rattle.expanded_code.specs.ExpandAnswers.{IsNoHost, is_initialiser}
use Rattle.flow_code.specs.FlatCode.{FlatCode}
use Rattle.flow_code.specs.declared.point.FlatInstr.{FlatInstr}
use Rattle.flow_code.specs.declared.point.FlatInstr.TheVariants.{Of}
use Rattle.flow_code.specs.declared.point.Point.{Point}
use Rattle.flow_code.specs.declared.point.Site.{Site}
use Rattle.making_code.specs.Items.{WItem, carried}
use Rattle.member_link.specs.DeclaredMembers.{Declared}
use Rattle.member_link.specs.Fields.{FindsField}
use Rattle.member_link.specs.Forms.{IsInstanceForm, IsStaticForm}
use Rattle.member_link.specs.Machine.Codes.{call_op, initialises, instr_op, item_op, number_at, or_meaningless, run_point, special_start}
use Rattle.member_link.specs.Machine.FieldSteps.{is_barred, static_number}
use Rattle.member_link.specs.Machine.Links.{AreLinksOf}
use Rattle.member_link.specs.Machine.Ops.{call_special, put_field, put_static}
use Rattle.member_link.specs.Machine.Programs.{Program, field_of, folder_number, has_flag, headers_in}
use Rattle.member_link.specs.Machine.Replaced.{Replacement, replaced, without_flags}
use Rattle.member_link.specs.References.{Reference}
use Rattle.member_link.specs.RowScope.{RowScope}
use Rattle.member_link.specs.Scope.{Scope, is_clinit, is_init, scope_at}
use Rattle.member_link.specs.Signatures.{reference_of}
use Rattle.plan_flow.specs.Laws.WrittenBlocks.{block_finished, first_item, own_number, own_of}
use Rattle.plan_flow.specs.Written.Blocks.{blocks_of, instruction_block}
use Rattle.plan_flow.specs.Written.Routes.{Route}
use Rattle.plan_flow.specs.Written.WrittenCode.{block_items}
use Rattle.plan_flow.specs.Written.WrittenPrograms.{StoresField, WrittenMethod, items_of, stores}
use Rattle.same_runs.specs.Flats.{flat_code, flat_item, flat_point, flat_points, host_scope, instr_scope, pool_of}
use Rattle.same_runs.specs.Laws.ClearedFlags.{IsCleared, field_as_it_was, field_less_flags, field_of_none, field_replaced, final_as_before}
use Rattle.same_runs.specs.Laws.FoundMembers.{FieldLaws, initialiser_there, static_in_both}
use Rattle.same_runs.specs.Laws.InstrOps.{Asks, op_in_both}
use Rattle.same_runs.specs.Laws.KeptFinals.{FieldFound, StandsAtNumbers, field_found, stands_at_numbers, static_final}
use Rattle.same_runs.specs.Laws.MethodPoints.{method_of_code}
use Rattle.same_runs.specs.Laws.Numbered.{slice_numbered}
use Rattle.same_runs.specs.Laws.ReplacedPrograms.{final_gone, final_stays}
use Rattle.same_runs.specs.Laws.Scopes.{program_headers}
use Rattle.same_runs.specs.ReadyCode.{IsReadyInstr, IsReadyItem}
use Rattle.same_runs.specs.SamePrograms.{IsInBoth}
use Rattle.typed_runs.specs.TypedPoints.{HasField, HasMethod, IsLinkedOp}
use Rattle.written_runs.specs.Inner.PlannedFrames.{IsCarried, IsReached, blocks_in, scope_in}
use Rattle.written_runs.specs.Inner.Setup.{IsSetup, Setup, first, second}
use Rattle.written_runs.specs.Inner.Waiting.{IsNoJump}
use Rattle.written_runs.specs.Laws.Carried.Points.{alone, carried_item, same_pool}
use Rattle.written_runs.specs.Laws.Carried.Standing.{own_finished}
use Rattle.written_runs.specs.Laws.MadeItems.{items_of_block}
use Rattle.written_runs.specs.Laws.OwnOperations.{clears_kept, clears_kept_also, of_flat, site_is_candidate}
use Rattle.written_runs.specs.Laws.SameBoth.{own, own_same}
use Rattle.written_runs.specs.Laws.WrittenCodes.{flat_code_at}
use Rattle.written_runs.specs.WrittenRuns.{IsReadyMethod}

-- ---- final flags

final_left : (flags cleared : ℕ) → has (without_flags flags cleared) FINAL ≡ (if has cleared FINAL then false else has flags FINAL)
final_left flags cleared = by (has cleared FINAL) refl where
  by : (b : Bool) → has cleared FINAL ≡ b → has (without_flags flags cleared) FINAL ≡ (if b then false else has flags FINAL)
  by true e = final_gone flags cleared e
  by false e = final_stays flags cleared e

neither : (b : Bool) → false ≡ (if b then false else false)
neither true = refl
neither false = refl

both_true : (b c : Bool) → (IsTrue b → IsTrue c) → (IsTrue c → IsTrue b) → b ≡ c
both_true true c there back = sym (there refl)
both_true false true there back = back refl
both_true false false there back = refl

module _ (P : Program) (field : Reference) where
  -- a field of the folder is final where it was and its flag is not cleared
  final_at : (r : Replacement) (class number : ℕ)
      → folder_number P field.class ≡ Some class
      → static_number P class field ≡ Some number
      → has_flag (field_of (replaced P r) field) FINAL
      ≡ (if has (r.cleared class number) FINAL then false else has_flag (field_of P field) FINAL)
  final_at r class number is_class is_number = by (field_of P field) (field_of (replaced P r) field) (field_replaced P r field) where
    by : (one other : Option Member) → IsCleared P r field one other
        → has_flag other FINAL ≡ (if has (r.cleared class number) FINAL then false else has_flag one FINAL)
    by one other (field_as_it_was outside) = absurd (none-some class (sym outside ∙ is_class))
    by one other field_of_none = neither (has (r.cleared class number) FINAL)
    by one other (field_less_flags {member = member} here place is_here is_place) =
        let same_class : here ≡ class = same_Some here class (sym is_here ∙ is_class) in
        let same_number : place ≡ number =
        same_Some place number (sym is_place ∙ ap (λ (c : ℕ). static_number P c field) same_class ∙ is_number) in
        final_left member.flags (r.cleared here place)
        ∙ ap (λ (cleared : ℕ). if has cleared FINAL then false else has member.flags FINAL)
        (ap (λ (c : ℕ). r.cleared c place) same_class ∙ ap (r.cleared class) same_number)

  -- where both clear its flag or none does, it is final in both or in none
  final_alike : (r s : Replacement)
      → ((class number : ℕ)
      → folder_number P field.class ≡ Some class
      → static_number P class field ≡ Some number
      → has (s.cleared class number) FINAL ≡ has (r.cleared class number) FINAL)
      → has_flag (field_of (replaced P s) field) FINAL ≡ has_flag (field_of (replaced P r) field) FINAL
  final_alike r s same = by (folder_number P field.class) refl where
    kept : ((class number : ℕ) → folder_number P field.class ≡ Some class → static_number P class field ≡ Some number → ⊥)
        → has_flag (field_of (replaced P s) field) FINAL ≡ has_flag (field_of (replaced P r) field) FINAL
    kept never =
        final_as_before P s field (λ class number is_class is_number. absurd (never class number is_class is_number))
        ∙ sym (final_as_before P r field (λ class number is_class is_number. absurd (never class number is_class is_number)))

    in_class : (class : ℕ) → folder_number P field.class ≡ Some class → (number : Option ℕ) → static_number P class field ≡ number
        → has_flag (field_of (replaced P s) field) FINAL ≡ has_flag (field_of (replaced P r) field) FINAL
    in_class class is_class None none =
        kept (λ here place is_here is_place.
        none-some place (sym none ∙ ap (λ (c : ℕ). static_number P c field) (same_Some class here (sym is_class ∙ is_here)) ∙ is_place))
    in_class class is_class (Some number) is_number =
        final_at s class number is_class is_number
        ∙ ap (λ (b : Bool). if b then false else has_flag (field_of P field) FINAL) (same class number is_class is_number)
        ∙ sym (final_at r class number is_class is_number)

    by : (class : Option ℕ) → folder_number P field.class ≡ class
        → has_flag (field_of (replaced P s) field) FINAL ≡ has_flag (field_of (replaced P r) field) FINAL
    by None none = kept (λ class number is_class is_number. none-some class (sym none ∙ is_class))
    by (Some class) is_class = in_class class is_class (static_number P class field) refl

not_initialising : (is : Bool) (own_header : Header) → ¬ IsTrue is → initialises is own_header ≡ None
not_initialising true own_header other = absurd (other refl)
not_initialising false own_header other = refl

module _ {u : Setup} (is : IsSetup u) (laws : FieldLaws) (hierarchy : IsHierarchy (headers_of u.classes)) where
  -- ---- flags that are cleared

  -- a final field of the chain of a candidate
  record OfCandidate (found : Declared) : Type 0 where
    candidate : Name
    is_candidate : IsCandidate u.classes candidate
    of_chain : IsTrue (list_any (bytes_eq found.class) (chain (headers_of u.classes) candidate))
    final : IsTrue (has found.member.flags FINAL)

  -- the field of these numbers is that one
  at_numbers : {found : Declared} {class number : ℕ} → StandsAtNumbers u.classes found class number
      → (header : Header) (member : Member)
      → slice_get (headers_of u.classes).folder class ≡ Some header
      → slice_get header.fields number ≡ Some member
      → (header.name ≡ found.class) × (member ≡ found.member)
  at_numbers {found = found} stands header member of_folder declared =
      let same : header ≡ stands.header = same_Some header stands.header (sym of_folder ∙ stands.of_folder) in
      let here = subst (λ (h : Header). slice_get h.fields _ ≡ Some member) same declared in
      (ap (λ (h : Header). h.name) same ∙ sym stands.of_class, same_Some member found.member (sym here ∙ stands.declares))

  of_first : {found : Declared} {class number : ℕ} → StandsAtNumbers u.classes found class number
      → IsTrue (has (u.r.cleared class number) FINAL)
      → OfCandidate found
  of_first {class = class} {number = number} stands cleared =
      let c = (is.replaces.finals class number).0 cleared in
      let one = of_flat is c.at c.flat c.is_flat in
      let same = at_numbers stands c.is_field.header c.field.member c.is_field.of_folder c.is_field.declared in
      record {
        candidate = c.site.class;
        is_candidate =
            site_is_candidate is c.at one.0 c.of c.site one.1 (ap (λ (flat : FlatCode). slice_get flat.sites c.of) one.2 ∙ c.is_site);
        of_chain =
            subst (λ (name : List ℕ). IsTrue (list_any (bytes_eq name) (chain (headers_of u.classes) c.site.class)))
            (c.is_field.of_class ∙ same.0) c.of_chain;
        final = subst (λ (m : Member). IsTrue (has m.flags FINAL)) same.1 c.final;
      }

  of_second : {found : Declared} {class number : ℕ} → StandsAtNumbers u.classes found class number
      → IsTrue (has (u.s.cleared class number) FINAL)
      → OfCandidate found
  of_second {class = class} {number = number} stands cleared =
      let c = (is.replaces_also.finals class number).0 cleared in
      let same = at_numbers stands c.is_field.header c.member c.is_field.of_folder c.is_field.declared in
      record {
        candidate = c.site.class;
        is_candidate = site_is_candidate is c.at c.one c.of c.site c.is_written c.is_site;
        of_chain =
            subst (λ (name : List ℕ). IsTrue (list_any (bytes_eq name) (chain (headers_of u.classes) c.site.class)))
            (ap (λ (r : Reference). r.class) c.is_field.named ∙ same.0) c.of_chain;
        final = subst (λ (m : Member). IsTrue (has m.flags FINAL)) same.1 c.final;
      }

  -- ---- fields that are found

  found_field : (reference field : Reference) → (first u).links.field reference ≡ Some field → FieldFound u.classes reference field
  found_field reference field links = field_found u.classes u.links laws hierarchy is.linked reference field links

  -- it is static as the first program has it
  static_there : (reference : Reference) (found field : Declared)
      → FindsField (headers_of u.classes) reference.class reference.name reference.desc (Some found)
      → FindsField (headers_in (first u)) reference.class reference.name reference.desc (Some field)
      → has found.member.flags STATIC ≡ has field.member.flags STATIC
  static_there reference found field finds finds_also =
      let own_headers = sym (program_headers u.classes u.links) in
      sym (static_in_both laws {P = own u} {Q = first u} (own_same is) (subst IsHierarchy own_headers hierarchy)
      (subst (λ (headers : Headers). AreLinksOf headers u.links) own_headers is.linked) is.program.hierarchy is.program.links reference found field
      (subst (λ (all : Headers). FindsField all reference.class reference.name reference.desc (Some found)) own_headers finds) finds_also)

  module _ (at : MethodAt) (w : WrittenMethod) (host : Scope) (place : ℕ) (point : Point) (route : Route)
      (written : u.written at ≡ Some w)
      (is_host : scope_at u.classes at ≡ Some host)
      (reached : IsReached w place point route)
      (carried_so : IsCarried u w place point route) where
    ready : IsReadyMethod u.classes u.links at w
    ready = is.ready at w written

    no_host : ¬ IsNoHost u.classes at
    no_host = subst (λ (a : MethodAt). ¬ IsNoHost u.classes a) ready.host ready.sites.host

    abbrev numbers : ℕ → ℕ
    numbers = number_at (flat_points u.classes host w.flat)

    abbrev reads : RowScope
    reads = record (host_scope u.classes host w.flat) { pool = pool_of u.classes carried_so.class }

    no_init : initialises reads.is_init reads.own ≡ None
    no_init = not_initialising (is_init host) (header_of host.class) (λ init. no_host (is_initialiser host is_host (inl init)))

    no_clinit : initialises reads.is_clinit reads.own ≡ None
    no_clinit = not_initialising (is_clinit host) (header_of host.class) (λ clinit. no_host (is_initialiser host is_host (inr clinit)))

    -- ---- what typing says of it

    linked : (number : ℕ) × IsLinkedOp (first u) (u.typings at).scope number (instr_op u.links numbers reads carried_so.instr)
    linked =
        let code = flat_code u.classes u.links host w.flat in
        let method = method_of_code (first u) at code (flat_code_at u is at w host written is_host) in
        let there : slice_get code.points place ≡ Some (run_point u.links numbers (flat_point u.classes host w.flat (0 + place) point)) =
        slice_get-map (run_point u.links numbers) (flat_points u.classes host w.flat) place
        ∙ ap (option_map (run_point u.links numbers))
        (slice_numbered (flat_point u.classes host w.flat) 0 w.flat.points place
        ∙ ap (option_map (flat_point u.classes host w.flat (0 + place))) reached.is_point) in
        let typed = (is.program.methods at method.0 code method.1 method.2).points place
        (run_point u.links numbers (flat_point u.classes host w.flat (0 + place) point)) there in (
          typed.place,
          subst (λ (i : FlatInstr). IsLinkedOp (first u) (u.typings at).scope typed.place
              (item_op u.links numbers (instr_scope u.classes host w.flat i) (flat_item i))) carried_so.is_instr typed.linked,
        )

    module _ (index : ℕ) (r : Reference) (names : reference_of reads.pool (constant_at reads.pool index) ≡ Some r) where
      static_linked : carried_so.instr ≡ PutStatic index → HasField (headers_in (first u)) IsStaticForm r
      static_linked is_put =
          subst (λ (found : Option Reference). IsLinkedOp (first u) (u.typings at).scope linked.0 (or_meaningless
          (option_map (λ (r : Reference). put_static r (initialises reads.is_clinit reads.own)) found))) names
          (subst (λ (i : Instr). IsLinkedOp (first u) (u.typings at).scope linked.0 (instr_op u.links numbers reads i)) is_put linked.1)

      field_linked : carried_so.instr ≡ PutField index → HasField (headers_in (first u)) IsInstanceForm r
      field_linked is_put =
          subst (λ (found : Option Reference). IsLinkedOp (first u) (u.typings at).scope linked.0 (or_meaningless
          (option_map (λ (r : Reference). put_field r (initialises reads.is_init reads.own)) found))) names
          (subst (λ (i : Instr). IsLinkedOp (first u) (u.typings at).scope linked.0 (instr_op u.links numbers reads i)) is_put linked.1)

      -- an instance initialiser that it calls
      call_linked : (opcode count : ℕ) → carried_so.instr ≡ Invoke opcode index count → opcode ≡ INVOKESPECIAL
          → HasMethod (headers_in (first u)) IsInstanceForm r
      call_linked opcode count is_call special =
          let op : instr_op u.links numbers reads carried_so.instr ≡ call_special r (special_start u.links reads r.class) =
          ap (instr_op u.links numbers reads) is_call
          ∙ ap (λ (found : Option Reference). or_meaningless (option_map (call_op u.links reads opcode) found)) names
          ∙ ap (λ (n : ℕ). call_op u.links reads n r) special in
          subst (IsLinkedOp (first u) (u.typings at).scope linked.0) op linked.1

    -- ---- its stores

    module _ (index : ℕ) (is_put : carried_so.instr ≡ PutField index) (r field : Reference)
        (names : reference_of reads.pool (constant_at reads.pool index) ≡ Some r)
        (links : (first u).links.field r ≡ Some field) where
      f : FieldFound u.classes r field
      f = found_field r field links

      instance : IsFalse (has f.found.member.flags STATIC)
      instance =
          let has_field = field_linked index r names is_put in
          static_there r f.found has_field.field f.finds has_field.finds ∙ has_field.form

      puts : point.instr ≡ Of carried_so.class (PutField index)
      puts = carried_so.is_instr ∙ ap (Of carried_so.class) is_put

      ready_instr : IsReadyInstr u.classes w.flat.locals carried_so.class carried_so.instr
      ready_instr =
          subst (IsReadyItem u.classes w.flat.locals) carried_so.is_instr
          (at_index (λ (p : Point). IsReadyItem u.classes w.flat.locals p.instr) w.flat.points place point ready.code.points reached.is_point)

      of_file : pool_of u.classes carried_so.class ≡ ready_instr.file.pool
      of_file = rw (ready_instr.there) refl

      -- a site of the flat code has the field in its chain
      site_there : OfCandidate f.found
          → (of : ℕ) × (site : Site)
          × (slice_get w.flat.sites of ≡ Some site)
          × IsTrue (list_any (bytes_eq f.found.class) (chain (headers_of u.classes) site.class))
      site_there c = ready.sites.finals f.found c.candidate stored c.is_candidate c.of_chain where
        stored : StoresFinal u.classes w.flat f.found
        stored = record {
          number = place;
          point = point;
          there = reached.is_point;
          class = carried_so.class;
          index = index;
          is_put = puts;
          file = ready_instr.file;
          of_class = ready_instr.there;
          reference = r;
          names = subst (λ (pool : Constants). reference_of pool (constant_at pool index) ≡ Some r) of_file names;
          finds = f.finds;
          final = c.final;
        }

      to_first : {class number : ℕ} → StandsAtNumbers u.classes f.found class number → OfCandidate f.found
          → IsTrue (has (u.r.cleared class number) FINAL)
      to_first {class = class} {number = number} stands c =
          let there = site_there c in
          (is.replaces.finals class number).1 (record {
            field = f.found;
            is_field = record {
              header = stands.header;
              of_folder = stands.of_folder;
              declared = stands.declares;
              of_class = stands.of_class;
              instance = instance;
            };
            final = c.final;
            at = at;
            flat = w.flat;
            is_flat = is.flats.each at ∙ ap (option_map (λ (one : WrittenMethod). one.flat)) written;
            of = there.0;
            site = there.1;
            is_site = there.2;
            of_chain = there.3;
            stored = record {
              number = place;
              point = point;
              is = reached.is_point;
              class = carried_so.class;
              index = index;
              stores = puts;
              finds = record { reference = r; names = names; finds = f.finds };
            };
          })

      abbrev its_item : WItem
      its_item = carried_item place point route carried_so.class carried_so.instr

      item_there : slice_get (items_of u.classes u.links w) (first_item w.form (blocks_in u w) (own_number (scope_in u w) w.routes place route) + 0)
          ≡ Some its_item
      item_there =
          let number = own_number (scope_in u w) w.routes place route in
          let here : slice_get (block_items w.form (own_finished u w place point route)) 0 ≡ Some its_item =
          ap (λ (items : List WItem). slice_get items 0) (alone u w place point route reached carried_so (subst IsNoJump (sym is_put) tt)) in
          items_of_block w.form (blocks_in u w) number 0 (own_finished u w place point route)
          (block_finished w.flat (blocks_of (scope_in u w) w.routes) number (instruction_block (scope_in u w) place point route)
          (own_of (scope_in u w) w.routes place point route reached.is_point reached.is_route))
          (slice_get_within (block_items w.form (own_finished u w place point route)) 0 its_item here)
          ∙ here

      stored_there : StoresField (scope_in u w) field (carried carried_so.class carried_so.instr)
      stored_there =
          subst (λ (i : Instr). StoresField (scope_in u w) field (carried carried_so.class i)) (sym is_put)
          (stores carried_so.class index
          (ap (λ (pool : Constants). option_and_then u.links.field (reference_of pool (constant_at pool index)))
          (sym (same_pool (scope_in u w) carried_so.class))
          ∙ ap (option_and_then u.links.field) names
          ∙ links))

      to_second : {class number : ℕ} → StandsAtNumbers u.classes f.found class number → OfCandidate f.found
          → IsTrue (has (u.s.cleared class number) FINAL)
      to_second {class = class} {number = number} stands c =
          let there = site_there c in
          (is.replaces_also.finals class number).1 (record {
            field = field;
            member = f.found.member;
            is_field = record {
              header = stands.header;
              of_folder = stands.of_folder;
              declared = stands.declares;
              named =
                  sym f.same
                  ∙ ap (λ (name : Name). let one : Reference = record { class = name; name = f.found.member.name; desc = f.found.member.desc } in one)
                  stands.of_class;
              instance = instance;
            };
            final = c.final;
            at = at;
            one = w;
            is_written = written;
            of = there.0;
            site = there.1;
            is_site = there.2;
            of_chain =
                subst (λ (d : Reference). IsTrue (list_any (bytes_eq d.class) (chain (headers_of u.classes) there.1.class))) f.same there.3;
            place = first_item w.form (blocks_in u w) (own_number (scope_in u w) w.routes place route) + 0;
            item = its_item;
            is_item = item_there;
            stored = stored_there;
          })

      -- the field is final in both programs, or in none
      field_alike : has_flag (field_of (second u) field) FINAL ≡ has_flag (field_of (first u) field) FINAL
      field_alike =
          final_alike (own u) field u.r u.s (λ class number is_class is_number.
          let stands = stands_at_numbers u.classes u.links laws hierarchy is.linked f class number is_class is_number in
          both_true (has (u.s.cleared class number) FINAL) (has (u.r.cleared class number) FINAL)
          (λ cleared. to_first stands (of_second stands cleared))
          (λ cleared. to_second stands (of_first stands cleared)))

    static_alike : (index : ℕ) (r field : Reference)
        → carried_so.instr ≡ PutStatic index
        → reference_of reads.pool (constant_at reads.pool index) ≡ Some r
        → (first u).links.field r ≡ Some field
        → has_flag (field_of (second u) field) FINAL ≡ has_flag (field_of (first u) field) FINAL
    static_alike index r field is_put names links =
        let f = found_field r field links in
        let has_field = static_linked index r names is_put in
        let static = static_there r f.found has_field.field f.finds has_field.finds ∙ has_field.form in
        static_final u.classes u.links laws hierarchy is.linked u.s (clears_kept_also is) f static
        ∙ sym (static_final u.classes u.links laws hierarchy is.linked u.r (clears_kept is) f static)

    -- ---- the whole

    asks : (instr : Instr) → carried_so.instr ≡ instr → Asks (first u) (second u) u.links numbers reads instr
    asks (PutStatic index) i =
        λ r names field links.
        ap (is_barred (second u) field) no_clinit
        ∙ ap (λ (final : Bool). final && true) (static_alike index r field i names links)
        ∙ sym (ap (is_barred (first u) field) no_clinit)
    asks (PutField index) i =
        λ r names field links.
        ap (is_barred (second u) field) no_init
        ∙ ap (λ (final : Bool). final && true) (field_alike index i r field names links)
        ∙ sym (ap (is_barred (first u) field) no_init)
    asks (Invoke opcode index count) i =
        λ special r names name.
        let has_method = call_linked index r names opcode count i special in
        initialiser_there (first u) r has_method.method name has_method.finds
    asks instr i = tt

    -- An operation of flat code that is written as it is does the same in both.
    pub flat_in_both : IsInBoth (first u) (second u) (item_op u.links numbers (instr_scope u.classes host w.flat point.instr) (flat_item point.instr))
    flat_in_both =
        subst (λ (i : FlatInstr). IsInBoth (first u) (second u) (item_op u.links numbers (instr_scope u.classes host w.flat i) (flat_item i)))
        (sym carried_so.is_instr)
        (op_in_both (first u) (second u) u.links numbers reads carried_so.instr (asks carried_so.instr refl))
