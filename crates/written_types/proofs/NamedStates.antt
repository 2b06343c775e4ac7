-- The frames that written code states name what the typed frames, the sites and the fields of the flat code name.
use Rattle.std.proofs.Common.{◌≡◌, ◌==◌, ℕ, zero, suc, Bool, true, false, List, [], ◌∷◌, ◌++◌, length, map, replicate, slice_get, Option, Some, None, if◌then◌else◌, refl, sym, subst, ◌∙◌}
use Rattle.std.specs.List.{AllByRecursion, flat_map}
use Rattle.std.proofs.lemmas.Option.{none-some, same_Some}
use Rattle.class_model.specs.Code.{verification_type}
use Rattle.class_model.specs.Descriptors.{parameter_units}
use Rattle.class_model.specs.Frames.{units}
use Rattle.class_model.specs.declared.descriptor.FieldType.{FieldType}
use Rattle.class_model.specs.declared.frame.Frame.{Frame}
use Rattle.class_model.specs.declared.frame.VType.{VType}
use Rattle.class_model.specs.declared.frame.VType.TheVariants as types
use Rattle.class_tree.specs.Headers.{Name, headers_of}
use Rattle.expanded_runs.specs.Laws.KeptNames.{units_named}
use Rattle.expanded_runs.specs.NamedFrames.{FrameHas, HasFramedNames, IsFramedName, TypeHas, TypesHave}
use Rattle.flow_code.specs.ReadTypes.{class_of_site, read_type}
use Rattle.flow_code.specs.WrittenUnits.{greatest_depth}
use Rattle.flow_code.specs.declared.point.Site.{Site}
use Rattle.making_code.specs.StateFrames.{field_types, site_types_from}
use Rattle.plan_flow.specs.Written.FramedCode.{IsFramed, flow_into, frame_of_item, is_led_to, type_by_item}
use Rattle.virtual_state.specs.States.{State, is_present}
use Rattle.written_types.proofs.Given.{EdgesFit, Given}
use Rattle.written_types.proofs.SlotFrames.{units_behind}
use Rattle.written_types.proofs.StatedAt.{all_types, block_stated, low}
use Rattle.written_types.specs.Writing.{Writing, body_in, items_in}

module _ (Has : Name → Type 0) (w : Writing) where
  abbrev By : VType → VType
  By = type_by_item w.form w.blocks

  abbrev ByHas : VType → Type 0
  ByHas type = TypeHas Has (type_by_item w.form w.blocks type)

  by_item_has : (type : VType) → TypeHas Has type → ByHas type
  by_item_has (types.Uninit at) has = tt
  by_item_has types.Top has = tt
  by_item_has types.Int has = tt
  by_item_has types.Float has = tt
  by_item_has types.Long has = tt
  by_item_has types.Double has = tt
  by_item_has types.Null has = tt
  by_item_has types.UninitThis has = tt
  by_item_has (types.Object name) has = has

  all_by_item_have : (all : List VType) → TypesHave Has all → AllByRecursion ByHas all
  all_by_item_have [] have = tt
  all_by_item_have (type ∷ all) have = (by_item_has type have.0, all_by_item_have all have.1)

  -- ---- types as they are read

  abbrev SiteHas : Site → Type 0
  SiteHas site = Has site.class

  class_has : (sites : List Site) (at : ℕ) (class : Name) → AllByRecursion SiteHas sites → class_of_site sites at ≡ Some class → Has class
  class_has [] at class have is = absurd (none-some class is)
  class_has (first ∷ sites) at class have is = by (first.at == at) is (class_has sites at class have.1) where
    by : (here : Bool) → (if here then Some first.class else class_of_site sites at) ≡ Some class → (class_of_site sites at ≡ Some class → Has class)
        → Has class
    by true same below = subst Has (same_Some first.class class same) have.0
    by false rest below = below rest

  read_has : AllByRecursion SiteHas w.s.flat.sites → (type : VType) → TypeHas Has type → ByHas (read_type w.s.flat type)
  read_has sites (types.Uninit at) has = by (class_of_site w.s.flat.sites at) refl where
    by : (found : Option Name) → class_of_site w.s.flat.sites at ≡ found → ByHas (read_type w.s.flat (types.Uninit at))
    by None none = rw none tt
    by (Some class) some = rw some (class_has w.s.flat.sites at class sites some)
  read_has sites types.Top has = tt
  read_has sites types.Int has = tt
  read_has sites types.Float has = tt
  read_has sites types.Long has = tt
  read_has sites types.Double has = tt
  read_has sites types.Null has = tt
  read_has sites types.UninitThis has = tt
  read_has sites (types.Object name) has = has

  all_read_have : AllByRecursion SiteHas w.s.flat.sites → (all : List VType) → TypesHave Has all
      → AllByRecursion ByHas (map (read_type w.s.flat) all)
  all_read_have sites [] have = tt
  all_read_have sites (type ∷ all) have = (read_has sites type have.0, all_read_have sites all have.1)

  -- ---- units of fields

  abbrev FieldsHave : Site → Type 0
  FieldsHave site = AllByRecursion (λ type. TypeHas Has (verification_type type)) site.fields

  joined : (ones others : List VType) → TypesHave Has ones → TypesHave Has others → TypesHave Has (ones ++ others)
  joined [] others one other = other
  joined (type ∷ ones) others one other = (one.0, joined ones others one.1 other)

  tops_have : (count : ℕ) → TypesHave Has (replicate count types.Top)
  tops_have zero = tt
  tops_have (suc count) = (tt, tops_have count)

  units_have : (all : List FieldType) → AllByRecursion (λ type. TypeHas Has (verification_type type)) all
      → TypesHave Has (flat_map (λ type. units (verification_type type)) all)
  units_have [] have = tt
  units_have (type ∷ all) have =
      joined (units (verification_type type)) (flat_map (λ one. units (verification_type one)) all) (units_named Has (verification_type type) have.0)
      (units_have all have.1)

  site_has : (present : Bool) (all : List FieldType) → AllByRecursion (λ type. TypeHas Has (verification_type type)) all
      → TypesHave Has (field_types present all)
  site_has true all have = units_have all have
  site_has false all have = tops_have (parameter_units all)

  sites_have : (state : State) (number : ℕ) (sites : List Site) → AllByRecursion FieldsHave sites → TypesHave Has (site_types_from state number sites)
  sites_have state number [] have = tt
  sites_have state number (site ∷ sites) have =
      joined (field_types (is_present state.objects number) site.fields) (site_types_from state (suc number) sites)
      (site_has (is_present state.objects number) site.fields have.0) (sites_have state (suc number) sites have.1)

each : {A : Type 0} (P : A → Type 0) (items : List A) → ((number : ℕ) (item : A) → slice_get items number ≡ Some item → P item) → AllByRecursion P items
each P [] all = tt
each P (item ∷ items) all = (all 0 item refl, each P items (λ number other is. all (suc number) other is))

module _ (w : Writing) (given : Given w) (fit : EdgesFit w given) (named : HasFramedNames w.s.classes w.host w.s.flat) where
  abbrev Framed : Name → Type 0
  Framed name = IsFramedName (headers_of w.s.classes) name

  -- the frame of a block
  pub block_named : (number : ℕ) (frame : Frame) → frame_of_item w.s.flat w.form w.blocks number ≡ Some frame → FrameHas Framed frame
  block_named number frame is = record { locals = all.0; stack = all.1 } where
    classes : AllByRecursion (SiteHas Framed w) w.s.flat.sites
    classes = each (SiteHas Framed w) w.s.flat.sites (λ n site there. (named.sites n site there).class)

    fields : AllByRecursion (FieldsHave Framed w) w.s.flat.sites
    fields = each (FieldsHave Framed w) w.s.flat.sites (λ n site there. (named.sites n site there).fields)

    all : TypesHave Framed frame.locals × TypesHave Framed frame.stack
    all =
        let block = low w given fit number frame is in
        let typed = named.points block.at block.fits.point block.fits.there in
        all_types w given fit number frame is (TypeHas Framed) tt (all_read_have Framed w classes block.fits.point.typed.locals typed.locals)
        (all_read_have Framed w classes block.fits.point.typed.stack typed.stack)
        (all_by_item_have Framed w (units_behind w.s.flat block.state.objects)
        (joined Framed w _ (replicate (greatest_depth w.s.flat.points) types.Top)
        (joined Framed w (site_types_from (record { slots = []; objects = block.state.objects }) 0 w.s.flat.sites) (replicate (length w.s.flat.sites) types.Top)
        (sites_have Framed w (record { slots = []; objects = block.state.objects }) 0 w.s.flat.sites fields)
        (tops_have Framed w (length w.s.flat.sites))) (tops_have Framed w (greatest_depth w.s.flat.points))))

  -- Each frame that is stated.
  pub stated_named : (state : ℕ → Option Frame) (frames : List Frame)
      → IsFramed w.s.flat w.form w.blocks (items_in w) (body_in w state) frames
      → (number : ℕ) (frame : Frame) → state number ≡ Some frame
      → FrameHas Framed frame
  stated_named state frames framed number frame is =
      block_named number frame
      (block_stated (is_led_to (items_in w) number) (flow_into (body_in w state) frames number) (frame_of_item w.s.flat w.form w.blocks number) frame
      (sym (framed.stated number) ∙ is))
