-- The first point: no uninitialised object is in the frame that a host begins with, and no virtual object in the state.
use Rattle.std.proofs.Common.{◌≡◌, ◌-◌, ℕ, zero, suc, Bool, true, false, List, [], ◌∷◌, ◌++◌, length, map, replicate, Option, Some, None, option_and_then, option_map, refl, sym, ap, subst, ◌∙◌, slice_get}
use Rattle.std.specs.List.{AllByRecursion}
use Rattle.std.proofs.lemmas.List.{map-append}
use Rattle.std.proofs.lemmas.Option.{none-some, same_Some}
use Rattle.class_model.specs.Code.{entry_frame, verification_type}
use Rattle.class_model.specs.Descriptors.{parameters_of}
use Rattle.class_model.specs.Frames.{filled, units, units_of_entries}
use Rattle.class_model.specs.Members.{STATIC, has, is_text}
use Rattle.class_model.specs.MethodCode.{code_of}
use Rattle.class_model.specs.Methods.{home_of}
use Rattle.class_model.specs.Names.{init}
use Rattle.class_model.specs.PoolChecks.{text_or_empty, utf8_at}
use Rattle.class_model.specs.declared.class_file.ClassFile.{ClassFile}
use Rattle.class_model.specs.declared.class_file.CodePart.{CodePart}
use Rattle.class_model.specs.declared.class_file.Method.{Method}
use Rattle.class_model.specs.declared.class_file.MethodAt.{MethodAt}
use Rattle.class_model.specs.declared.descriptor.FieldType.{FieldType}
use Rattle.class_model.specs.declared.frame.VType.{VType}
use Rattle.class_model.specs.declared.frame.VType.TheVariants as types
use Rattle.class_tree.specs.Headers.{Classes, Headers, headers_of}
use Rattle.flow_code.specs.FlatCode.{point_at}
use Rattle.flow_code.specs.ReadTypes.{read_frame, read_type}
use Rattle.flow_code.specs.declared.point.Point.{Point}
use Rattle.member_link.specs.Rows.FrameAssignability.{IsFrameAssignable}
use Rattle.member_link.specs.Scope.{Scope, is_init, scope_at, scope_of}
use Rattle.plan_flow.specs.PlanScope.{PlanScope, stack_types}
use Rattle.plan_flow.specs.PlanSlots.{fit_locals, fit_stack}
use Rattle.plan_flow.specs.Plans.{state_without_sites}
use Rattle.same_runs.specs.FlatBodies.{flat_entry}
use Rattle.same_runs.specs.TypedFlats.{MayGoToPoint}
use Rattle.virtual_state.specs.States.{is_unusable}
use Rattle.written_types.proofs.Arrivals.{FitsPoint, fits_types, news_assigned, types_there}
use Rattle.written_types.proofs.OperandRows.{new_of_type}
use Rattle.written_types.proofs.SlotTypes.{joined, no_locals, no_stack, unusable_locals, usable_stack}
use Rattle.written_types.proofs.Standing.{all_joined}
use Rattle.written_types.proofs.TwoUnits.{assigned_pairs, filled_paired}
use Rattle.written_types.specs.FitsTypes.{FitsTypes, HasItsNew, HavePairs, HaveTypes}

-- ---- the scope of a host

scope_of_class : (headers : Headers) (class : ClassFile) (method : Method) (s : Scope) (found : Option CodePart)
    → option_map (λ (part : CodePart). record { headers = headers; class = class; method = method; part = part }) found ≡ Some s
    → s.headers ≡ headers
scope_of_class headers class method s None is = absurd (none-some s is)
scope_of_class headers class method s (Some part) is =
    ap (λ (one : Scope). one.headers) (sym (same_Some (record { headers = headers; class = class; method = method; part = part }) s is))

-- a scope has the headers of its classes
pub scope_headers : (classes : Classes) (at : MethodAt) (s : Scope) → scope_at classes at ≡ Some s → s.headers ≡ headers_of classes
scope_headers classes at s is = of_folder (slice_get classes.folder at.class) is where
  of_class : (class : ClassFile) (found : Option Method) → option_and_then (scope_of (headers_of classes) class) found ≡ Some s
      → s.headers ≡ headers_of classes
  of_class class None is = absurd (none-some s is)
  of_class class (Some method) is = scope_of_class (headers_of classes) class method s (code_of method.attrs) is

  of_folder : (found : Option ClassFile)
      → option_and_then (λ (class : ClassFile). option_and_then (scope_of (headers_of classes) class) (slice_get class.methods at.method)) found ≡ Some s
      → s.headers ≡ headers_of classes
  of_folder None is = absurd (none-some s is)
  of_folder (Some class) is = of_class class (slice_get class.methods at.method) is

-- ---- the frame that it begins with

module _ (s : PlanScope) (reached : ℕ → Bool) where
  abbrev New : VType → Type 0
  New = HasItsNew s reached

  abbrev News : List VType → Type 0
  News all = AllByRecursion (HasItsNew s reached) all

  units_new : (type : VType) → HasItsNew s reached type → News (units type)
  units_new types.Long new = (tt, (tt, tt))
  units_new types.Double new = (tt, (tt, tt))
  units_new other new = (new, tt)

  tops_new : (count : ℕ) → News (replicate count types.Top)
  tops_new zero = tt
  tops_new (suc count) = (tt, tops_new count)

  entries_new : (entries : List VType) → News entries → News (units_of_entries entries)
  entries_new [] all = tt
  entries_new (type ∷ entries) all =
      all_joined (HasItsNew s reached) (units type) (units_of_entries entries) (units_new type all.0) (entries_new entries all.1)

  filled_new : (room : ℕ) (entries : List VType) → News entries → News (filled room entries)
  filled_new room entries all =
      all_joined (HasItsNew s reached) (units_of_entries entries) (replicate (room - length (units_of_entries entries)) types.Top)
      (entries_new entries all) (tops_new (room - length (units_of_entries entries)))

  parameters_new : (params : List FieldType) → News (map verification_type params)
  parameters_new [] = tt
  parameters_new (param ∷ params) = (new_of_type s reached param, parameters_new params)

  entry_new : (flags : ℕ) (name : List ℕ) (class : Option (List ℕ)) (params : List FieldType) (room : ℕ) → is_text init (Some name) ≡ false
      → News (entry_frame flags name class params room).locals
  entry_new flags name class params room other = by (has flags STATIC) refl where
    this_new : (this : VType) → HasItsNew s reached this → News (filled room (this ∷ map verification_type params))
    this_new this new = filled_new room (this ∷ map verification_type params) (new, parameters_new params)

    of_class : (found : Option (List ℕ)) → class ≡ found → has flags STATIC ≡ false → News (entry_frame flags name class params room).locals
    of_class (Some named) is static = rw (static, other, is) (this_new (types.Object named) tt)
    of_class None is static = rw (static, other, is) (this_new types.Top tt)

    by : (static : Bool) → has flags STATIC ≡ static → News (entry_frame flags name class params room).locals
    by true is = rw is (filled_new room (map verification_type params) (parameters_new params))
    by false is = of_class class refl is

  no_init_text : (found : Option (List ℕ)) → is_text init found ≡ false → is_text init (Some (text_or_empty found)) ≡ false
  no_init_text None other = refl
  no_init_text (Some text) other = other

  pub host_new : (scope : Scope) → is_init scope ≡ false → News (flat_entry scope s.flat).locals
  host_new scope other =
      entry_new scope.method.flags (text_or_empty (utf8_at scope.class.pool scope.method.name)) (home_of scope.class).name
      (parameters_of (text_or_empty (utf8_at scope.class.pool scope.method.desc))) s.flat.locals
      (no_init_text (utf8_at scope.class.pool scope.method.name) other)

  host_pairs : (scope : Scope) → HavePairs (flat_entry scope s.flat).locals
  host_pairs scope = filled_paired s.flat.locals _

  -- ---- the first point

  at_first : (scope : Scope) (point : Point) → point_at s.flat 0 ≡ Some point → is_init scope ≡ false
      → IsFrameAssignable scope.headers (flat_entry scope s.flat) (read_frame s.flat point.typed)
      → FitsPoint s reached 0 point (record {
        slots = fit_locals point.typed.locals [] ++ fit_stack point.typed.stack [];
        objects = [];
      })
  at_first scope point there other goes = record {
    there = there;
    slots = subst (λ (all : List VType). HaveTypes s all (fit_locals point.typed.locals [] ++ fit_stack point.typed.stack []))
        (sym (map-append (read_type s.flat) point.typed.locals point.typed.stack))
        (joined s _ _ _ _ (no_locals s point.typed.locals) (no_stack s point.typed.stack));
    unusable =
        map-append is_unusable (fit_locals point.typed.locals []) (fit_stack point.typed.stack [])
        ∙ (λ i. unusable_locals s point.typed.locals [] tt i ++ usable_stack s point.typed.stack [] tt i);
    objects = λ number object found. absurd (none-some object found);
    locals = news_assigned s reached scope.headers _ _ goes.locals (host_new scope other);
    stack = news_assigned s reached scope.headers [] _ goes.stack tt;
    pairs = assigned_pairs scope.headers s.flat _ point.typed.locals goes.locals (host_pairs scope);
  }

  pub start_fits : (scope : Scope) → is_init scope ≡ false → MayGoToPoint s.classes scope s.flat (Some (flat_entry scope s.flat)) 0
      → FitsTypes s reached 0 (state_without_sites s 0)
  start_fits scope other may = by (point_at s.flat 0) refl where
    by : (found : Option Point) → point_at s.flat 0 ≡ found → FitsTypes s reached 0 (state_without_sites s 0)
    by None none = absurd (rw none at may)
    by (Some point) there =
        let types = types_there s 0 point there in
        subst (λ (all : List VType). FitsTypes s reached 0 (record {
          slots = fit_locals all [] ++ fit_stack (stack_types s.flat 0) [];
          objects = [];
        })) (sym types.0)
        (subst (λ (all : List VType). FitsTypes s reached 0 (record {
          slots = fit_locals point.typed.locals [] ++ fit_stack all [];
          objects = [];
        })) (sym types.1)
        (fits_types (at_first scope point there other (rw there at may))))
