-- A store into a final field is barred in both programs, or in none.
use Rattle.class_tree.specs.Layouts.{chain as chain_of}
use Rattle.same_runs.specs.ClearedFields.{ClearsFinal}
use Rattle.std.proofs.Common.{◌≡◌, ◌<◌, ◌+◌, ◌&&◌, not, ℕ, Bool, true, false, List, [], bytes_eq, get_or, length, slice_get, Option, Some, None, IsTrue, IsFalse, refl, sym, ap, subst, ◌∙◌, arith, inl, inr}
use Rattle.std.specs.List.{list_any}
use Rattle.std.proofs.lemmas.Bool.{false≢true}
use Rattle.std.proofs.lemmas.Option.{same_Some, slice_get-get_or, slice_get_within}
use Rattle.class_model.specs.Header.{header_of}
use Rattle.class_model.specs.Members.{FINAL, STATIC, has}
use Rattle.class_model.specs.Pool.{Constants, constant_at}
use Rattle.class_model.specs.declared.class_file.MethodAt.{MethodAt}
use Rattle.class_model.specs.declared.frame.Frame.{Frame}
use Rattle.class_model.specs.declared.header.Header.{Header}
use Rattle.class_model.specs.declared.header.Member.{Member}
use Rattle.class_model.specs.declared.instr.Instr.TheVariants.{PutField, PutStatic}
use Rattle.class_model.specs.declared.instr.Placed.{Placed}
use Rattle.class_tree.specs.Headers.{Headers, Name, headers_of}
use Rattle.expanded_code.specs.Candidates.{IsCandidate, StoresInto}
use Rattle.expanded_code.specs.ExpandAnswers.{is_initialiser}
use Rattle.expanded_code.specs.Expanded.{Setting, expanded, instr_points, point_in, set_frame}
use Rattle.expanded_code.specs.Expansions.{Coded, Expands, Expansion}
use Rattle.expanded_code.specs.Sites.{HasFrames}
use Rattle.expanded_runs.proofs.AloneProgram.{EachTyped, OneEach, pool-of-scope}
use Rattle.expanded_runs.proofs.Runs.FlatOpLaws.{Bars}
use Rattle.expanded_runs.proofs.Runs.FlatSites.{HasSite, has_site, site_at, site_is_candidate}
use Rattle.expanded_runs.proofs.Runs.LinkedInstrs.{EachInstrTyped, put_field_linked, put_static_linked}
use Rattle.expanded_runs.proofs.Runs.PositionLaws.{length_fits, part_stands, points_at}
use Rattle.expanded_runs.proofs.Runs.Positions.{Becomes, StandsFrom, Standing, becomes, block_of, frames_of, instrs_of, remains, scope_of, start_of}
use Rattle.expanded_runs.proofs.Runs.Setup.{IsSetup, Setup, after, before}
use Rattle.expanded_runs.proofs.Runs.SiteInitialisers.{OfSite, ThisInInit, initialiser_of_site, no_clinit_stands, own_class_numbered}
use Rattle.expanded_runs.proofs.Runs.StandingLaws.{stands_so}
use Rattle.expanded_runs.proofs.Runs.Standings.{IsStanding, Stands}
use Rattle.flow_code.specs.FlatCode.{FlatCode}
use Rattle.flow_code.specs.declared.point.FlatInstr.TheVariants.{Of}
use Rattle.flow_code.specs.declared.point.Point.{Point}
use Rattle.member_link.specs.DeclaredMembers.{Declared, declared}
use Rattle.member_link.specs.Fields.{FindsField}
use Rattle.member_link.specs.Forms.{IsStaticForm}
use Rattle.member_link.specs.Machine.Codes.{initialises}
use Rattle.member_link.specs.Machine.FieldSteps.{is_barred, static_number}
use Rattle.member_link.specs.Machine.Programs.{field_of, folder_number, has_flag, headers_in}
use Rattle.member_link.specs.Machine.Replaced.{without_flags}
use Rattle.member_link.specs.References.{Reference}
use Rattle.member_link.specs.Scope.{Scope, instructions, is_clinit, is_init}
use Rattle.member_link.specs.Signatures.{reference_of}
use Rattle.same_runs.specs.Laws.ClearedFlags.{IsCleared, field_as_it_was, field_less_flags, field_of_none, field_replaced}
use Rattle.same_runs.specs.Laws.InstrOps.{OwnBars}
use Rattle.same_runs.specs.Laws.FoundMembers.{FieldLaws}
use Rattle.same_runs.specs.Laws.KeptFinals.{ClearsKept, FieldFound, StandsAtNumbers, barred, field_found, field_is, final_kept, inside, inside_is, never, own_bars, stands_at_numbers, static_final}
use Rattle.same_runs.specs.Laws.ReplacedPrograms.{final_gone, final_stays}
use Rattle.member_link.specs.Laws.Scopes.{scope_is_at}
use Rattle.same_runs.specs.Laws.Scopes.{program_headers}
use Rattle.same_runs.specs.SamePrograms.{SameBar}
use Rattle.typed_runs.specs.TypedPoints.{HasField}

-- ---- what the laws of other crates say

pub record BarLaws : Type 0 where
  pub each_method : EachTyped
  pub one_each : OneEach
  pub each_instr : EachInstrTyped
  pub fields : FieldLaws

-- ---- the code is that of an initialiser, or of another method

not_initialising : (is : Bool) (own : Header) → ¬ IsTrue is → initialises is own ≡ None
not_initialising true own other = absurd (other refl)
not_initialising false own other = refl

always : (b : Bool) → (b && true) ≡ b
always true = refl
always false = refl

-- the point of a store, which is no return
store_point : (t : Setting) (placed : Placed) (frame : Frame) (index : ℕ) → placed.instr ≡ PutField index
    → slice_get (instr_points t placed frame) 0 ≡ Some (point_in t placed.at (set_frame t frame) (PutField index))
store_point t placed frame index is = by t.behind refl where
  by : (behind : Option ℕ) → t.behind ≡ behind
      → slice_get (instr_points t placed frame) 0 ≡ Some (point_in t placed.at (set_frame t frame) (PutField index))
  by None e = rw (e, is) refl
  by (Some behind) e = rw (e, is) refl

-- ---- flags that are cleared

module _ (u : Setup) (is_setup : IsSetup u) (laws : BarLaws) where
  abbrev headers : Headers
  headers = headers_of u.classes

  -- the class of a site of flat code is a candidate
  cleared_of_candidate : {class number : ℕ} → (c : ClearsFinal u.classes u.flats class number) → IsCandidate u.classes c.site.class
  cleared_of_candidate c =
      let expanded_is = (is_setup.expanded c.at c.flat c.is_flat).1 in
      let expands = subst (λ (at : MethodAt). Expands u.classes u.typed at [] at (instructions expanded_is.host.scope) expanded_is.expansion)
      (sym expanded_is.own) expanded_is.expands in
      site_is_candidate u.classes u.typed expanded_is.host expanded_is.expansion c.site.class expands
      (subst (λ (flat : FlatCode). HasSite c.site.class flat.sites) expanded_is.is (has_site c.flat.sites c.of c.site c.is_site))

  -- so methods' own code stores into its final fields in initialisers of the field's class alone
  clears_kept : ClearsKept u.classes u.r
  clears_kept = record {
    each = λ class cleared is_cleared.
        let c = (is_setup.replaces.finals class cleared).0 is_cleared in
        record {
          field = c.field;
          is_field = c.is_field;
          keeps = record {
            stores = λ at s number placed index reference scope is stores names finds.
                let headers_are = (scope_is_at u.classes at s scope).headers in
                let into : StoresInto s placed.instr c.field = record {
                  index = index;
                  stores = stores;
                  reference = reference;
                  names = names;
                  finds =
                      subst (λ (all : Headers). FindsField all reference.class reference.name reference.desc (Some c.field)) (sym headers_are) finds;
                } in
                let within = (cleared_of_candidate c).finals at s number placed c.field scope is into c.of_chain c.final in
                (within.is_init, within.own);
          };
        };
  }

  -- a field that is linked is that one
  one_found : {Form : Declared → Type 0} {reference : Reference} {found : Declared} (linked : HasField (headers_in (before u)) Form reference)
      → FindsField headers reference.class reference.name reference.desc (Some found)
      → linked.field ≡ found
  one_found {reference = reference} {found = found} linked finds =
      let also = subst (λ (all : Headers). FindsField all reference.class reference.name reference.desc (Some linked.field))
      (program_headers u.classes u.links) linked.finds in
      same_Some linked.field found
      (laws.fields.one headers reference.class reference.name reference.desc (Some linked.field) (Some found) also finds)

  static_found : {reference : Reference} {found : Declared} → HasField (headers_in (before u)) IsStaticForm reference
      → FindsField headers reference.class reference.name reference.desc (Some found)
      → IsTrue (has found.member.flags STATIC)
  static_found linked finds = subst (λ (d : Declared). IsTrue (has d.member.flags STATIC)) (one_found linked finds) linked.form

  -- What a method's own code stores is barred in both programs, or in none.
  pub own_stores : (at : MethodAt) → OwnBars u.classes (before u) (after u) at
  own_stores at = own_bars u.classes u.links laws.fields is_setup.hierarchy is_setup.linked u.r clears_kept at (record {
    each = λ s number placed index reference field scope is stores names finds.
        static_found (put_static_linked u is_setup at s scope number placed is index reference names stores) finds;
  })

  -- the field that a store finds
  found_field : (reference field : Reference) → (before u).links.field reference ≡ Some field → FieldFound u.classes reference field
  found_field reference field is = field_found u.classes u.links laws.fields is_setup.hierarchy is_setup.linked reference field is

  kept_static : {reference field : Reference} (f : FieldFound u.classes reference field) → HasField (headers_in (before u)) IsStaticForm reference
      → has_flag (field_of (after u) field) FINAL ≡ has_flag (field_of (before u) field) FINAL
  kept_static f linked =
      static_final u.classes u.links laws.fields is_setup.hierarchy is_setup.linked u.r clears_kept f (static_found linked f.finds)

  -- ---- flat code

  module _ (host : Coded) (e : Expansion)
      (is_flat : u.flats host.at ≡ Some (expanded host e))
      (host_has : HasFrames u.classes u.typed host.at host.scope host.frames)
      (expands : Expands u.classes u.typed host.at [] host.at (instructions host.scope) e) where
    no_host_init : ¬ IsTrue (is_init host.scope)
    no_host_init init = (is_setup.expanded host.at (expanded host e) is_flat).0 (is_initialiser host.scope host_has.is_scope (inl init))

    no_host_clinit : ¬ IsTrue (is_clinit host.scope)
    no_host_clinit clinit = (is_setup.expanded host.at (expanded host e) is_flat).0 (is_initialiser host.scope host_has.is_scope (inr clinit))

    stands_here : {chain : List MethodAt} {p : Standing} → IsStanding host e chain p → Stands u.classes u.typed host e chain p
    stands_here standing = stands_so laws.each_method laws.one_each u.classes u.typed is_setup.types host e host_has expands standing

    -- a static store, which no class initialiser does
    pub flat_static_bar : {chain : List MethodAt} {p : Standing} → IsStanding host e chain p
        → (k : ℕ) (placed : Placed) (index : ℕ) (reference : Reference)
        → slice_get (instrs_of p) k ≡ Some placed
        → becomes p.expansion k ≡ remains
        → placed.instr ≡ PutStatic index
        → reference_of (scope_of p).class.pool (constant_at (scope_of p).class.pool index) ≡ Some reference
        → SameBar (before u) (after u) reference
        (initialises (is_clinit (scope_of p)) (header_of (scope_of p).class))
        (initialises (is_clinit host.scope) (header_of host.scope.class))
    flat_static_bar {p = p} standing k placed index reference is becomes_is stores names field links =
        let s = scope_of p in
        let scope = (stands_here standing).has.is_scope in
        let none = not_initialising (is_clinit s) (header_of s.class)
        (no_clinit_stands u is_setup laws.each_method laws.one_each host e host_has expands no_host_clinit standing) in
        let none_also = not_initialising (is_clinit host.scope) (header_of host.scope.class) no_host_clinit in
        let linked = put_static_linked u is_setup p.setting.coded.at s scope k placed is index reference names stores in
        let final = kept_static (found_field reference field links) linked in
        ap (is_barred (after u) field) none_also
        ∙ ap (λ (final : Bool). final && true) final
        ∙ sym (ap (is_barred (before u) field) none)

    module _ (this_in_init : ThisInInit u.classes u.typed) {chain : List MethodAt} {p : Standing} (standing : IsStanding host e chain p)
        (k : ℕ) (placed : Placed) (index : ℕ) (reference : Reference)
        (is : slice_get (instrs_of p) k ≡ Some placed)
        (becomes_is : becomes p.expansion k ≡ remains)
        (stores : placed.instr ≡ PutField index)
        (names : reference_of (scope_of p).class.pool (constant_at (scope_of p).class.pool index) ≡ Some reference) where
      abbrev s : Scope
      s = scope_of p

      abbrev from : MethodAt
      from = p.setting.coded.at

      stands : Stands u.classes u.typed host e chain p
      stands = stands_here standing

      -- the point of the store stands in the flat code
      record StoreStands : Type 0 where
        point : Point
        is_point : slice_get (expanded host e).points (start_of p k) ≡ Some point
        is_store : point.instr ≡ Of from.class (PutField index)

      store_stands : StoreStands
      store_stands =
          let t = p.setting in
          let blank : Frame = record { locals = []; stack = [] } in
          let many : k < length (frames_of p) = subst (λ (n : ℕ). k < n) (sym (length_fits stands.fits)) (slice_get_within (instrs_of p) k placed is) in
          let frame = get_or (frames_of p) k blank in
          let has_frame : slice_get (frames_of p) k ≡ Some frame = slice_get-get_or (frames_of p) k blank many in
          let parts = part_stands (expanded host e).points t p.first p.block stands.fits k placed frame is has_frame stands.points in
          let own = subst (λ (b : Becomes). StandsFrom (expanded host e).points (start_of p k) (points_at t (start_of p k) (block_of p k) placed frame b))
          becomes_is parts in
          let there = own 0 (point_in t placed.at (set_frame t frame) (PutField index)) (store_point t placed frame index stores) in
          let here : start_of p k + 0 ≡ start_of p k = omega arith in
          record {
            point = point_in t placed.at (set_frame t frame) (PutField index);
            is_point =
                subst (λ (n : ℕ). slice_get (expanded host e).points n ≡ Some (point_in t placed.at (set_frame t frame) (PutField index))) here there;
            is_store = refl;
          }

      -- so the final flag of a field of a site's chain is cleared
      clears : {field : Reference} (f : FieldFound u.classes reference field) {class number : ℕ} → StandsAtNumbers u.classes f.found class number
          → OfSite headers host e f.found.class
          → IsTrue (has f.found.member.flags FINAL)
          → ClearsFinal u.classes u.flats class number
      clears f {class = class} {number = number} numbers of_site final =
          let linked = put_field_linked u is_setup from s stands.has.is_scope k placed is index reference names stores in
          let site = site_at of_site.of (expanded host e).sites of_site.has in
          let pool = sym (pool-of-scope u.classes from s stands.has.is_scope) in
          record {
            field = f.found;
            is_field = record {
              header = numbers.header;
              of_folder = numbers.of_folder;
              declared = numbers.declares;
              of_class = numbers.of_class;
              instance = subst (λ (d : Declared). IsFalse (has d.member.flags STATIC)) (one_found linked f.finds) linked.form;
            };
            final = final;
            at = host.at;
            flat = expanded host e;
            is_flat = is_flat;
            of = site.of;
            site = site.there;
            is_site = site.is;
            of_chain = subst (λ (name : Name). IsTrue (list_any (bytes_eq f.found.class) (chain_of headers name))) (sym site.of_class) of_site.of_chain;
            stored = record {
              number = start_of p k;
              point = store_stands.point;
              is = store_stands.is_point;
              class = from.class;
              index = index;
              stores = store_stands.is_store;
              finds = record {
                reference = reference;
                names = subst (λ (pool : Constants). reference_of pool (constant_at pool index) ≡ Some reference) pool names;
                finds = f.finds;
              };
            };
          }

      -- the field of an initialiser that stands in flat code is not final there
      not_final : {field : Reference} → FieldFound u.classes reference field → IsTrue (is_init s) → (header_of s.class).name ≡ field.class
          → has_flag (field_of (after u) field) FINAL ≡ false
      not_final {field} f init own = by (field_of (before u) field) (field_of (after u) field) refl (field_replaced (before u) u.r field) where
        of_site : OfSite headers host e f.found.class
        of_site =
            subst (OfSite headers host e) (own ∙ ap (λ (r : Reference). r.class) (sym f.same))
            (initialiser_of_site u is_setup laws.each_method laws.one_each host e host_has expands laws.each_instr this_in_init no_host_init standing init)

        gone : (class number : ℕ) → folder_number (before u) field.class ≡ Some class → static_number (before u) class field ≡ Some number
            → (cleared final : Bool) → has (u.r.cleared class number) FINAL ≡ cleared → has f.found.member.flags FINAL ≡ final
            → has (without_flags f.found.member.flags (u.r.cleared class number)) FINAL ≡ false
        gone class number is_class is_number true final is_cleared is_final =
            final_gone f.found.member.flags (u.r.cleared class number) is_cleared
        gone class number is_class is_number false false is_cleared is_final =
            final_stays f.found.member.flags (u.r.cleared class number) is_cleared ∙ is_final
        gone class number is_class is_number false true is_cleared is_final =
            let c = clears f
            (stands_at_numbers u.classes u.links laws.fields is_setup.hierarchy is_setup.linked f class number is_class is_number) of_site is_final in
            absurd (false≢true (sym is_cleared ∙ (is_setup.replaces.finals class number).1 c))

        by : (one other : Option Member) → field_of (before u) field ≡ one → IsCleared (before u) u.r field one other → has_flag other FINAL ≡ false
        by one other field_there (field_as_it_was outside) =
            absurd (own_class_numbered u is_setup from s stands.has.is_scope
            (ap (folder_number (before u)) own ∙ outside))
        by one other field_there field_of_none = refl
        by one other field_there (field_less_flags {member = member} class number is_class is_number) =
            let same = same_Some f.found.member member (sym (field_is u.classes u.links laws.fields is_setup.hierarchy is_setup.linked f) ∙ field_there) in
            subst (λ (m : Member). has (without_flags m.flags (u.r.cleared class number)) FINAL ≡ false) same
            (gone class number is_class is_number (has (u.r.cleared class number) FINAL) (has f.found.member.flags FINAL) refl refl)

      -- a store of a method that stands in flat code
      pub flat_bar : SameBar (before u) (after u) reference
          (initialises (is_init (scope_of p)) (header_of (scope_of p).class))
          (initialises (is_init host.scope) (header_of host.scope.class))
      flat_bar field links =
          ap (is_barred (after u) field) (not_initialising (is_init host.scope) (header_of host.scope.class) no_host_init)
          ∙ always (has_flag (field_of (after u) field) FINAL)
          ∙ by (inside field one) refl
          ∙ sym (barred (before u) field one) where
            one : Option Name
            one = initialises (is_init s) (header_of s.class)

            f : FieldFound u.classes reference field
            f = found_field reference field links

            by : (within : Bool) → inside field one ≡ within
                → has_flag (field_of (after u) field) FINAL ≡ (has_flag (field_of (before u) field) FINAL && not (inside field one))
            by true e =
                let inner = inside_is (is_init s) (header_of s.class) field e in
                rw (e) (not_final f inner.0 inner.1 ∙ sym (never (has_flag (field_of (before u) field) FINAL)))
            by false e =
                rw (e)
                (final_kept u.classes u.links laws.fields is_setup.hierarchy is_setup.linked u.r clears_kept f from s k placed index stands.has.is_scope is stores
                names e
                ∙ sym (always (has_flag (field_of (before u) field) FINAL)))

    -- each store of a method that stands in flat code
    pub bars_alike : ThisInInit u.classes u.typed → Bars u host e
    bars_alike this_in_init = record {
      fields = λ chain p standing k placed index reference. flat_bar this_in_init standing k placed index reference;
      statics = λ chain p standing k placed index reference. flat_static_bar standing k placed index reference;
    }
