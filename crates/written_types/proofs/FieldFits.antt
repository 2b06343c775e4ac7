-- Frames whose field units may stand for what comes along an edge, but need not agree with it.
use Rattle.std.proofs.Common.{◌≡◌, ◌≢◌, ℕ, zero, suc, Bool, true, false, List, [], ◌∷◌, ◌++◌, length, map, replicate, Some, refl, sym, ap, subst, ◌∙◌, arith}
use Rattle.std.specs.List.{AllByRecursion, flat_map}
use Rattle.std.proofs.lemmas.List.{length-append, map-append}
use Rattle.class_model.specs.declared.descriptor.FieldType.{FieldType}
use Rattle.class_model.specs.declared.descriptor.FieldType.TheVariants as field_types
use Rattle.class_model.specs.declared.frame.Frame.{Frame}
use Rattle.class_model.specs.declared.frame.VType.{VType}
use Rattle.class_model.specs.declared.frame.VType.TheVariants as types
use Rattle.class_model.specs.Descriptors.{parameter_units}
use Rattle.class_tree.specs.Headers.{Headers}
use Rattle.flow_code.specs.FlatCode.{FlatCode}
use Rattle.flow_code.specs.ReadTypes.{read_frame}
use Rattle.flow_code.specs.WrittenUnits.{greatest_depth}
use Rattle.flow_code.specs.declared.point.Site.{Site}
use Rattle.making_code.specs.StateFrames.{field_types as types_of_fields, site_types_from}
use Rattle.member_link.specs.Rows.FrameAssignability.{AreAssignable}
use Rattle.plan_flow.specs.Written.Routes.{RouteEdge, edge_by}
use Rattle.plan_flow.specs.declared.edge.EdgeKind.TheVariants as edges
use Rattle.virtual_state.specs.States.{is_present}
use Rattle.virtual_state.specs.declared.slot.VObject.{VObject}
use Rattle.written_types.proofs.AgreeingFrames.{agrees_with_itself, keeps_no_this}
use Rattle.written_types.proofs.FieldUnits.{bare, units_for}
use Rattle.written_types.proofs.Given.{EdgeTarget, EdgesFit, EndsCarry, FitsState, Given, frame_at_state, locals_in}
use Rattle.written_types.proofs.ItemSteps.{frame_of}
use Rattle.written_types.proofs.SlotFrames.{agree_both, state_is, units_behind}
use Rattle.written_types.proofs.Standing.{all_joined}
use Rattle.written_types.proofs.TemplateEnds.{along_fits}
use Rattle.written_types.proofs.Templates.{Before, By, along, moved_slots, objects_behind, plan_row, row}
use Rattle.written_types.proofs.UnitTemplates.{AssignedParts, assigned_both, assigned_parts, by_units, less_assigned, units_less, sites_long}
use Rattle.written_types.specs.FitsTypes.{FitsTypes, is_reached}
use Rattle.written_types.specs.Inner.CarriedFrames.{AgreeIn}
use Rattle.written_types.specs.Writing.{Writing, scope_in}

-- ---- what all field units have

module _ (P : VType → Type 0) (of_top : P types.Top) (of_type : (type : FieldType) → AllByRecursion P (units_for type)) where
  all_fields : (fields : List FieldType) → AllByRecursion P (flat_map units_for fields)
  all_fields [] = tt
  all_fields (type ∷ fields) = all_joined P (units_for type) (flat_map units_for fields) (of_type type) (all_fields fields)

  all_tops : (count : ℕ) → AllByRecursion P (replicate count types.Top)
  all_tops zero = tt
  all_tops (suc count) = (of_top, all_tops count)

  all_site : (b : Bool) (fields : List FieldType) → AllByRecursion P (types_of_fields b fields)
  all_site true fields = all_fields fields
  all_site false fields = all_tops (parameter_units fields)

  all_sites : (objects : List VObject) (number : ℕ) (sites : List Site) → AllByRecursion P (site_types_from (bare objects) number sites)
  all_sites objects number [] = tt
  all_sites objects number (site ∷ sites) =
      all_joined P (types_of_fields (is_present objects number) site.fields) _ (all_site (is_present objects number) site.fields)
      (all_sites objects (suc number) sites)

  pub all_units : (flat : FlatCode) (objects : List VObject) → AllByRecursion P (units_behind flat objects)
  all_units flat objects =
      all_joined P _ (replicate (greatest_depth flat.points) types.Top)
      (all_joined P (site_types_from (bare objects) 0 flat.sites) (replicate (length flat.sites) types.Top) (all_sites objects 0 flat.sites)
      (all_tops (length flat.sites))) (all_tops (greatest_depth flat.points))

abbrev pub NotThis : VType → Type 0
NotThis type = type ≢ types.UninitThis

top_not_this : NotThis types.Top
top_not_this is = absurd cc

declared_not_this : (type : FieldType) → AllByRecursion NotThis (units_for type)
declared_not_this field_types.Byte = (λ is. absurd cc, tt)
declared_not_this field_types.Char = (λ is. absurd cc, tt)
declared_not_this field_types.Short = (λ is. absurd cc, tt)
declared_not_this field_types.Bool = (λ is. absurd cc, tt)
declared_not_this field_types.Int = (λ is. absurd cc, tt)
declared_not_this field_types.Long = (λ is. absurd cc, (λ is. absurd cc, tt))
declared_not_this field_types.Float = (λ is. absurd cc, tt)
declared_not_this field_types.Double = (λ is. absurd cc, (λ is. absurd cc, tt))
declared_not_this (field_types.Named name) = (λ is. absurd cc, tt)

pub units_not_this : (flat : FlatCode) (objects : List VObject) → AllByRecursion NotThis (units_behind flat objects)
units_not_this flat objects = all_units NotThis top_not_this declared_not_this flat objects

pub all_left : {A : Type 0} (P : A → Type 0) (ones others : List A) → AllByRecursion P (ones ++ others) → AllByRecursion P ones
all_left P [] others all = tt
all_left P (one ∷ ones) others all = (all.0, all_left P ones others all.1)

pub all_right : {A : Type 0} (P : A → Type 0) (ones others : List A) → AllByRecursion P (ones ++ others) → AllByRecursion P others
all_right P [] others all = all
all_right P (one ∷ ones) others all = all_right P ones others all.1

pub assigned_long : (headers : Headers) (ones others : List VType) → AreAssignable headers ones others → length ones ≡ length others
assigned_long headers [] [] are = refl
assigned_long headers [] (other ∷ others) are = absurd are
assigned_long headers (one ∷ ones) [] are = absurd are
assigned_long headers (one ∷ ones) (other ∷ others) are = ap suc (assigned_long headers ones others are.1)

units_as_long : (flat : FlatCode) (ones others : List VObject) → length (units_behind flat ones) ≡ length (units_behind flat others)
units_as_long flat ones others =
    let objects : List VType = replicate (length flat.sites) types.Top in
    let scratch : List VType = replicate (greatest_depth flat.points) types.Top in
    let one = length-append (site_types_from (bare ones) 0 flat.sites ++ objects) scratch in
    let one_more = length-append (site_types_from (bare ones) 0 flat.sites) objects in
    let other = length-append (site_types_from (bare others) 0 flat.sites ++ objects) scratch in
    let other_more = length-append (site_types_from (bare others) 0 flat.sites) objects in
    let same = sites_long ones others 0 flat.sites in
    omega (arith, one, one_more, other, other_more, same)

-- ---- along an edge to the next point

module _ (w : Writing) (given : Given w) (b : Before w given) (fit : EdgesFit w given) (ends : EndsCarry w given) where
  abbrev headers : Headers
  headers = (scope_in w).headers

  abbrev fields_along : List VType
  fields_along = units_behind w.s.flat (objects_behind w given b)

  abbrev own_along : List VType
  own_along = locals_in (row w given b).locals (moved_slots w given b (plan_row w given b).locals)

  -- Units of the method that agree, field units that may stand for those that come along, and a stack that agrees.
  pub fits_by_units : (own fields stack : List VType) (edge : RouteEdge) → edge_by b.route edges.Next ≡ Some edge
      → AgreeIn own (map (By w given b) own_along)
      → AreAssignable headers fields fields_along
      → AgreeIn stack (map (By w given b) (along w given b).stack)
      → AllByRecursion NotThis (own ++ fields)
      → FitsState w (frame_of (own ++ fields) stack) edge.to edge.state
  fits_by_units own fields stack edge found own_agree assigned stack_agree not_this = record {
    assignable = record {
      locals =
          subst (AreAssignable headers (own ++ fields)) (sym there_locals)
          (assigned_both headers own (map (By w given b) there_own) fields there_fields parts.own
          (less_assigned headers fields fields_along there_fields assigned
          (units_less headers w.s.flat (objects_behind w given b) edge.state.objects parts.rest)));
      stack = exact.assignable.stack;
      keeps_this = keeps_no_this (own ++ fields) _ not_this;
    };
    no_this = not_this;
  } where
    exact : FitsState w (frame_of (own ++ fields_along) stack) edge.to edge.state
    exact =
        along_fits w given b fit ends (frame_of (own ++ fields_along) stack) edge found
        (record {
          locals =
              subst (AgreeIn (own ++ fields_along)) (sym (map-append (By w given b) own_along fields_along))
              (agree_both own fields_along (map (By w given b) own_along) (map (By w given b) fields_along) own_agree
              (subst (AgreeIn fields_along) (sym (by_units w.form w.blocks w.s.flat (objects_behind w given b))) (agrees_with_itself fields_along)));
          stack = stack_agree;
          no_this = all_joined NotThis own fields_along (all_left NotThis own fields not_this) (units_not_this w.s.flat (objects_behind w given b));
        })

    target : EdgeTarget w given edge
    target = fit.target b.at b.point b.route edges.Next edge b.here.there b.here.is_route found

    there : FitsTypes w.s (is_reached given.setting.routes) edge.to target.target.state
    there = given.fits.before edge.to target.target target.is_route

    there_own : List VType
    there_own = locals_in (read_frame w.s.flat there.point.typed).locals edge.state.slots

    there_fields : List VType
    there_fields = units_behind w.s.flat edge.state.objects

    there_locals : (frame_at_state w edge.to edge.state).locals ≡ map (By w given b) there_own ++ there_fields
    there_locals =
        ap (λ (f : Frame). map (By w given b) f.locals) (state_is w.s.flat edge.to there.point edge.state there.there)
        ∙ map-append (By w given b) there_own there_fields
        ∙ ap (λ (rest : List VType). map (By w given b) there_own ++ rest) (by_units w.form w.blocks w.s.flat edge.state.objects)

    exact_locals : AreAssignable headers (own ++ fields_along) (map (By w given b) there_own ++ there_fields)
    exact_locals = subst (AreAssignable headers (own ++ fields_along)) there_locals exact.assignable.locals

    own_long : length own ≡ length (map (By w given b) there_own)
    own_long =
        let all = assigned_long headers (own ++ fields_along) (map (By w given b) there_own ++ there_fields) exact_locals in
        let one = length-append own fields_along in
        let other = length-append (map (By w given b) there_own) there_fields in
        let same = units_as_long w.s.flat (objects_behind w given b) edge.state.objects in
        omega (arith, all, one, other, same)

    parts : AssignedParts headers own fields_along (map (By w given b) there_own) there_fields
    parts = assigned_parts headers own fields_along (map (By w given b) there_own) there_fields own_long exact_locals
