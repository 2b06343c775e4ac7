-- Copies of the objects that are made: to the local units that name them, and to the fields of objects that stay virtual.
use Rattle.std.proofs.Common.{◌≡◌, ◌≢◌, ◌⊎◌, ◌+◌, ◌<◌, ◌≤◌, ℕ, suc, Bool, true, false, List, [], ◌∷◌, ◌++◌, length, map, slice_get, Some, refl, sym, ap, subst, ◌∙◌, inl, inr, arith}
use Rattle.std.specs.Prelude.{is_some}
use Rattle.std.specs.List.{AllByRecursion, flat_map}
use Rattle.std.proofs.lemmas.Bool.{false≢true}
use Rattle.std.proofs.lemmas.Option.{same_Some, slice_get_within}
use Rattle.class_model.specs.Code.{verification_type}
use Rattle.class_model.specs.Frames.{is_top, is_wide}
use Rattle.class_model.specs.declared.descriptor.FieldType.{FieldType}
use Rattle.class_model.specs.declared.descriptor.FieldType.TheVariants as field_types
use Rattle.class_model.specs.declared.descriptor.Kind.TheVariants as kinds
use Rattle.class_model.specs.declared.frame.VType.{VType}
use Rattle.class_model.specs.declared.frame.VType.TheVariants as types
use Rattle.class_tree.specs.Headers.{Headers, headers_of}
use Rattle.flow_code.specs.ReadTypes.{read_type}
use Rattle.flow_code.specs.declared.point.Point.{Point}
use Rattle.flow_code.specs.declared.point.Site.{Site}
use Rattle.making_code.specs.Items.{WInstr, item, load, store}
use Rattle.making_code.specs.MakeCode.{copy_field, copy_fields_from, copy_local, copy_locals_from, copy_object}
use Rattle.making_code.specs.StateFrames.{type_of_slot}
use Rattle.making_code.specs.Units.{field_unit, first_object_unit, object_unit, own, unit_number}
use Rattle.member_link.specs.Assignability.{IsAssignable, to_top}
use Rattle.member_link.specs.Rows.LocalRows.{HasRoom, stored}
use Rattle.plan_flow.specs.Written.FramedCode.{type_by_item}
use Rattle.virtual_state.specs.Sites.{has}
use Rattle.virtual_state.specs.States.{State, is_present, is_unusable, object_of}
use Rattle.virtual_state.specs.declared.slot.Slot.{Slot}
use Rattle.virtual_state.specs.declared.slot.Slot.TheVariants.{Plain, Virt, Unusable}
use Rattle.virtual_state.specs.declared.slot.VObject.{VObject}
use Rattle.written_types.proofs.MakingLocals.{Kept, decided, kept_by_store}
use Rattle.written_types.proofs.MakingObjects.{and_carries, then_carries}
use Rattle.written_types.proofs.MakingSteps.{load_carries, store_carries}
use Rattle.written_types.proofs.SlotTypes.{item_before, read_wide}
use Rattle.written_types.proofs.Standing.{item_at}
use Rattle.written_types.proofs.StoredLocals.{stored_is}
use Rattle.written_types.proofs.UnitTypes.{UnitTypes, field_region, item_wide, own_region, paired_at}
use Rattle.written_types.specs.FitsTypes.{HasFieldTypes, HasType, HaveTypes, HavePairs}
use Rattle.written_types.specs.Inner.CarriedFrames.{Carries, carries_none}
use Rattle.written_types.specs.Writing.{Writing}

-- no field's type is Top
field_no_top : (type : FieldType) → verification_type type ≢ types.Top
field_no_top (field_types.Named name) e = absurd cc
field_no_top field_types.Bool e = absurd cc
field_no_top field_types.Byte e = absurd cc
field_no_top field_types.Char e = absurd cc
field_no_top field_types.Short e = absurd cc
field_no_top field_types.Int e = absurd cc
field_no_top field_types.Long e = absurd cc
field_no_top field_types.Float e = absurd cc
field_no_top field_types.Double e = absurd cc

wide_slot : (w : Writing) (type : VType) (slot : Slot) → is_wide (type_of_slot w.s.flat type slot) ≡ true → is_wide type ≡ true
wide_slot w type Plain wide = sym (read_wide w.s.flat type) ∙ wide
wide_slot w type (Virt site) wide = absurd (false≢true wide)
wide_slot w type Unusable wide = absurd (false≢true wide)

module _ (w : Writing) (at : ℕ) (point : Point) (state : State) (sites : List ℕ) (ut : UnitTypes w at point state)
    (headers_same : w.host.headers ≡ headers_of w.s.classes)
    (widths : length point.typed.locals ≡ w.s.flat.locals)
    (pairs : HavePairs point.typed.locals)
    (tops : (unit : ℕ) (type : VType) (slot : Slot) → slice_get point.typed.locals unit ≡ Some type → slice_get state.slots unit ≡ Some slot
    → is_unusable slot ≡ is_top type)
    (slots_there : (unit : ℕ) (type : VType) → slice_get point.typed.locals unit ≡ Some type
    → (slot : Slot) × (slice_get state.slots unit ≡ Some slot) × HasType w.s (read_type w.s.flat type) slot)
    (done : ℕ → Bool) (all_done : (site : ℕ) → has sites site ≡ true → done site ≡ true) (saves : List (ℕ × VType)) where
  abbrev region : List VType
  region = own_region w point state ++ field_region w state

  abbrev KeptIn : List VType → ℕ → Type 0
  KeptIn locals copies = Kept w at point state sites ut locals done saves copies

  pub record Copied (number : ℕ) (instrs : List WInstr) (locals stack : List VType) (copies : ℕ) : Type 0 where
    pub after : List VType
    pub carries : Carries w number (map item instrs) (record { locals = locals; stack = stack }) (Some (record { locals = after; stack = stack }))
    pub kept : KeptIn after copies

  type_there : (unit : ℕ) → unit < w.s.flat.locals → (type : VType) × (slice_get point.typed.locals unit ≡ Some type)
  type_there unit low = item_at point.typed.locals unit (omega (arith, low, widths))

  region_own : (unit : ℕ) (type : VType) (slot : Slot) → slice_get point.typed.locals unit ≡ Some type → slice_get state.slots unit ≡ Some slot
      → slice_get region unit ≡ Some (type_by_item w.form w.blocks (type_of_slot w.s.flat type slot))
  region_own unit type slot is has_slot = item_before (own_region w point state) (field_region w state) unit _ (ut.own unit type slot is has_slot)

  -- ---- local units

  -- the unit before one that names an object is no first one of two
  own_narrow : (unit site : ℕ) → unit < w.s.flat.locals → slice_get state.slots unit ≡ Some (Virt site)
      → (before : ℕ) (one : VType) → suc before ≡ unit → slice_get region before ≡ Some one → is_wide one ≡ false
  own_narrow unit site low named before one next is = by (is_wide one) refl where
    earlier : (type : VType) × (slice_get point.typed.locals before ≡ Some type)
    earlier = type_there before (omega (arith, low, next))

    slot : (slot : Slot) × (slice_get state.slots before ≡ Some slot) × HasType w.s (read_type w.s.flat earlier.0) slot
    slot = slots_there before earlier.0 earlier.1

    by : (b : Bool) → is_wide one ≡ b → is_wide one ≡ false
    by false narrow = narrow
    by true wide =
        let one_is = same_Some _ one (sym (region_own before earlier.0 slot.0 earlier.1 slot.1) ∙ is) in
        let type_wide : is_wide earlier.0 ≡ true =
        wide_slot w earlier.0 slot.0 (sym (item_wide w.form w.blocks (type_of_slot w.s.flat earlier.0 slot.0)) ∙ ap is_wide one_is ∙ wide) in
        let top_next : slice_get point.typed.locals (suc before) ≡ Some types.Top =
        paired_at point.typed.locals before earlier.0 pairs earlier.1 type_wide in
        let unusable : is_unusable (Virt site) ≡ true =
        tops (suc before) types.Top (Virt site) top_next (ap (slice_get state.slots) next ∙ named) in
        absurd (false≢true unusable)

  more_copies : (unit : ℕ) (locals : List VType)
      → ((site : ℕ) → slice_get state.slots unit ≡ Some (Virt site) → has sites site ≡ true → ⊥)
      → KeptIn locals unit
      → KeptIn locals (suc unit)
  more_copies unit locals none kept = record {
    long = kept.long;
    no_this = kept.no_this;
    has_region = kept.has_region;
    made = kept.made;
    saved = kept.saved;
    copied = λ other site one less own_unit named taken is_site.
        by other site one own_unit named taken is_site less (decided other unit);
  } where
    by : (other site : ℕ) (one : Site) → other < w.s.flat.locals → slice_get state.slots other ≡ Some (Virt site) → has sites site ≡ true
        → slice_get w.s.flat.sites site ≡ Some one
        → other < suc unit
        → (other ≡ unit) ⊎ (other ≢ unit)
        → slice_get locals other ≡ Some (types.Object one.class)
    by other site one own_unit named taken is_site less (inl same) =
        absurd (none site (ap (slice_get state.slots) (sym same) ∙ named) taken)
    by other site one own_unit named taken is_site less (inr apart) =
        kept.copied other site one (omega (arith, less, apart)) own_unit named taken is_site

  copy_to : (number unit site : ℕ) (one : Site) (locals stack : List VType)
      → unit < w.s.flat.locals
      → slice_get state.slots unit ≡ Some (Virt site)
      → has sites site ≡ true
      → slice_get w.s.flat.sites site ≡ Some one
      → KeptIn locals unit
      → Copied number (load kinds.Ref (object_unit site) ∷ store kinds.Ref (own unit) ∷ []) locals stack (suc unit)
  copy_to number unit site one locals stack low named taken is_site kept = record {
    after = after;
    carries =
        and_carries w number (load kinds.Ref (object_unit site)) (store kinds.Ref (own unit) ∷ []) (record { locals = locals; stack = stack })
        (record { locals = locals; stack = stack ++ (object ∷ []) }) (record { locals = after; stack = stack })
        (load_carries w number kinds.Ref (object_unit site) locals stack object (kept.made site one (all_done site taken) is_site) tt)
        (store_carries w (suc number) kinds.Ref (own unit) locals stack object tt room);
    kept =
        kept_by_store w at point state sites ut unit object locals after done done saves unit (suc unit) kept (stored_is unit object locals room) refl
        (λ e. absurd cc) (omega (arith, low))
        (λ type there. subst (IsAssignable w.host.headers object) (top_there type there) (to_top object))
        (own_narrow unit site low named)
        (λ other found now there here. absurd (omega (arith, here, low)))
        (λ other now apart. now)
        (λ other of found less other_named other_taken other_site own_unit same. same_class other of found other_named other_site same)
        (λ other of less other_named other_taken apart. omega (arith, less, apart));
  } where
    object : VType
    object = types.Object one.class

    after : List VType
    after = stored unit object locals

    room : HasRoom kinds.Ref locals unit
    room = let long = kept.long in omega (arith, long, low)

    top_there : (type : VType) → slice_get region unit ≡ Some type → types.Top ≡ type
    top_there type there =
        let own_type = type_there unit low in
        same_Some types.Top type (sym (region_own unit own_type.0 (Virt site) own_type.1 named) ∙ there)

    same_class : (other of : ℕ) (found : Site) → slice_get state.slots other ≡ Some (Virt of) → slice_get w.s.flat.sites of ≡ Some found
        → other ≡ unit
        → object ≡ types.Object found.class
    same_class other of found other_named other_site same =
        let slots_same : Virt site ≡ Virt of =
        same_Some (Virt site) (Virt of) (sym named ∙ ap (slice_get state.slots) (sym same) ∙ other_named) in
        let sites_same : site ≡ of = cc in
        ap (λ (x : Site). types.Object x.class) (same_Some one found (sym is_site ∙ ap (slice_get w.s.flat.sites) sites_same ∙ other_site))

  pub copy_all : (number unit : ℕ) (slots : List Slot) (locals stack : List VType)
      → unit + length slots ≤ w.s.flat.locals
      → ((n : ℕ) (slot : Slot) → slice_get slots n ≡ Some slot → slice_get state.slots (unit + n) ≡ Some slot)
      → KeptIn locals unit
      → Copied number (copy_locals_from sites unit slots) locals stack (unit + length slots)
  copy_all number unit [] locals stack few there kept = record {
    after = locals;
    carries = carries_none number (record { locals = locals; stack = stack });
    kept = subst (KeptIn locals) (the_same unit (unit + 0) (omega arith)) kept;
  } where
    the_same : (a b : ℕ) → a ≡ b → a ≡ b
    the_same a b e = e
  copy_all number unit (slot ∷ slots) locals stack few there kept =
      by slot here
      (λ n after kept_more. copy_all n (suc unit) slots after stack (omega (arith, few))
      (λ m found is. ap (slice_get state.slots) (the_same (suc unit + m) (unit + suc m) (omega arith)) ∙ there (suc m) found is) kept_more) where
        the_same : (a b : ℕ) → a ≡ b → a ≡ b
        the_same a b e = e

        rest : List WInstr
        rest = copy_locals_from sites (suc unit) slots

        low : unit < w.s.flat.locals
        low = omega (arith, few)

        here : slice_get state.slots unit ≡ Some slot
        here = ap (slice_get state.slots) (the_same unit (unit + 0) (omega arith)) ∙ there 0 slot refl

        More : Type 0
        More =
            (n : ℕ) (after : List VType) → KeptIn after (suc unit) → Copied n rest after stack (suc unit + length slots)

        longer : (n : ℕ) (instrs : List WInstr) → Copied n instrs locals stack (suc unit + length slots) → Copied n instrs locals stack (unit + suc (length slots))
        longer n instrs copied =
            subst (Copied n instrs locals stack) (the_same (suc unit + length slots) (unit + suc (length slots)) (omega arith)) copied

        skip : (first : List WInstr) → first ≡ []
            → ((site : ℕ) → slice_get state.slots unit ≡ Some (Virt site) → has sites site ≡ true → ⊥)
            → More
            → Copied number (first ++ rest) locals stack (unit + suc (length slots))
        skip first none apart more =
            subst (λ (instrs : List WInstr). Copied number (instrs ++ rest) locals stack (unit + suc (length slots))) (sym none)
            (longer number rest (more number locals (more_copies unit locals apart kept)))

        by : (found : Slot) → slice_get state.slots unit ≡ Some found → More
            → Copied number (copy_local sites unit found ++ rest) locals stack (unit + suc (length slots))
        by Plain is more = skip [] refl (λ site named taken. plain_none site (same_Some Plain (Virt site) (sym is ∙ named))) more where
          plain_none : (site : ℕ) → Plain ≡ Virt site → ⊥
          plain_none site e = absurd cc
        by Unusable is more = skip [] refl (λ site named taken. unusable_none site (same_Some Unusable (Virt site) (sym is ∙ named))) more where
          unusable_none : (site : ℕ) → Unusable ≡ Virt site → ⊥
          unusable_none site e = absurd cc
        by (Virt site) is more = of (has sites site) refl where
          same_site : (other : ℕ) → Virt site ≡ Virt other → site ≡ other
          same_site other e = cc

          of : (b : Bool) → has sites site ≡ b → Copied number (copy_local sites unit (Virt site) ++ rest) locals stack (unit + suc (length slots))
          of false apart =
              skip (copy_local sites unit (Virt site)) (rw (apart) refl)
              (λ other named taken. absurd (false≢true (sym apart
              ∙ ap (has sites) (same_site other (same_Some (Virt site) (Virt other) (sym is ∙ named))) ∙ taken))) more
          of true taken =
              let own_type = type_there unit low in
              let typed = slots_there unit own_type.0 own_type.1 in
              let type_of : HasType w.s (read_type w.s.flat own_type.0) (Virt site) =
              subst (HasType w.s (read_type w.s.flat own_type.0)) (same_Some typed.0 (Virt site) (sym typed.1 ∙ is)) typed.2 in
              let one = copy_to number unit site type_of.site locals stack low is taken type_of.there kept in
              let further = more (suc (suc number)) one.after one.kept in
              let code : copy_local sites unit (Virt site) ≡ load kinds.Ref (object_unit site) ∷ store kinds.Ref (own unit) ∷ [] = rw (taken) refl in
              record {
                after = further.after;
                carries = subst (λ (instrs : List WInstr). Carries w number (map item (instrs ++ rest)) (record { locals = locals; stack = stack })
                    (Some (record { locals = further.after; stack = stack }))) (sym code)
                    (then_carries w number (load kinds.Ref (object_unit site) ∷ store kinds.Ref (own unit) ∷ []) rest
                    (record { locals = locals; stack = stack }) (record { locals = one.after; stack = stack })
                    (record { locals = further.after; stack = stack }) one.carries
                    (subst (λ (n : ℕ). Carries w n (map item rest) (record { locals = one.after; stack = stack })
                    (Some (record { locals = further.after; stack = stack }))) (the_same (suc (suc number)) (number + 2) (omega arith)) further.carries));
                kept = subst (KeptIn further.after) (the_same (suc unit + length slots) (unit + suc (length slots)) (omega arith)) further.kept;
              }

  -- ---- fields

  field_narrow : (unit : ℕ) (type : VType) → type ≢ types.Top → slice_get region unit ≡ Some type
      → (before : ℕ) (one : VType) → suc before ≡ unit → slice_get region before ≡ Some one → is_wide one ≡ false
  field_narrow unit type no_top there before one next is = by (is_wide one) refl where
    by : (b : Bool) → is_wide one ≡ b → is_wide one ≡ false
    by false narrow = narrow
    by true wide =
        absurd (no_top (same_Some type types.Top
        (sym there ∙ ap (slice_get region) (sym next) ∙ paired_at region before one ut.pairs is wide)))

  copy_to_field : (number of at_field site : ℕ) (one holder : Site) (type : FieldType) (locals stack : List VType)
      → slice_get w.s.flat.sites of ≡ Some holder
      → is_present state.objects of ≡ true
      → slice_get holder.fields at_field ≡ Some type
      → has sites site ≡ true
      → slice_get w.s.flat.sites site ≡ Some one
      → IsAssignable w.host.headers (types.Object one.class) (verification_type type)
      → KeptIn locals w.s.flat.locals
      → Copied number (load kinds.Ref (object_unit site) ∷ store kinds.Ref (field_unit of at_field) ∷ []) locals stack w.s.flat.locals
  copy_to_field number of at_field site one holder type locals stack of_site present is_type taken is_site fits kept = record {
    after = after;
    carries =
        and_carries w number (load kinds.Ref (object_unit site)) (store kinds.Ref (field_unit of at_field) ∷ []) (record { locals = locals; stack = stack })
        (record { locals = locals; stack = stack ++ (object ∷ []) }) (record { locals = after; stack = stack })
        (load_carries w number kinds.Ref (object_unit site) locals stack object (kept.made site one (all_done site taken) is_site) tt)
        (store_carries w (suc number) kinds.Ref (field_unit of at_field) locals stack object tt room);
    kept =
        kept_by_store w at point state sites ut unit object locals after done done saves w.s.flat.locals w.s.flat.locals kept
        (stored_is unit object locals room) refl (λ e. absurd cc) (omega (arith, inside))
        (λ found there. subst (IsAssignable w.host.headers object) (same_Some (verification_type type) found (sym here ∙ there)) fits)
        (field_narrow unit (verification_type type) (field_no_top type) here)
        (λ other found now there same. absurd (omega (arith, same, inside)))
        (λ other now apart. now)
        (λ other from found less named other_taken other_site own_unit same. absurd (omega (arith, same, own_unit, behind)))
        (λ other from less named other_taken apart. less);
  } where
    object : VType
    object = types.Object one.class

    unit : ℕ
    unit = unit_number w.s.flat (field_unit of at_field)

    here : slice_get region unit ≡ Some (verification_type type)
    here = ut.field of at_field holder type of_site present is_type

    inside : unit < first_object_unit w.s.flat
    inside = let within = slice_get_within region unit (verification_type type) here in let long = ut.long in omega (arith, within, long)

    behind : w.s.flat.locals ≤ unit
    behind = omega arith

    room : HasRoom kinds.Ref locals unit
    room = let long = kept.long in omega (arith, long, inside)

    after : List VType
    after = stored unit object locals

  copy_fields : (number of from : ℕ) (holder : Site) (all : List FieldType) (slots : List Slot) (locals stack : List VType)
      → slice_get w.s.flat.sites of ≡ Some holder
      → is_present state.objects of ≡ true
      → ((n : ℕ) (type : FieldType) → slice_get all n ≡ Some type → slice_get holder.fields (from + n) ≡ Some type)
      → HaveTypes w.s (map verification_type all) slots
      → KeptIn locals w.s.flat.locals
      → Copied number (copy_fields_from sites of from slots) locals stack w.s.flat.locals
  copy_fields number of from holder all [] locals stack of_site present parts have kept =
      record { after = locals; carries = carries_none number (record { locals = locals; stack = stack }); kept = kept }
  copy_fields number of from holder [] (slot ∷ slots) locals stack of_site present parts have kept = absurd have
  copy_fields number of from holder (type ∷ all) (slot ∷ slots) locals stack of_site present parts have kept =
      by slot have.0
      (λ n after kept_more. copy_fields n of (suc from) holder all slots after stack of_site present
      (λ m found is. ap (slice_get holder.fields) (the_same (suc from + m) (from + suc m) (omega arith)) ∙ parts (suc m) found is) have.1 kept_more) where
        the_same : (a b : ℕ) → a ≡ b → a ≡ b
        the_same a b e = e

        rest : List WInstr
        rest = copy_fields_from sites of (suc from) slots

        More : Type 0
        More = (n : ℕ) (after : List VType) → KeptIn after w.s.flat.locals → Copied n rest after stack w.s.flat.locals

        skip : (first : List WInstr) → first ≡ [] → More → Copied number (first ++ rest) locals stack w.s.flat.locals
        skip first none more =
            subst (λ (instrs : List WInstr). Copied number (instrs ++ rest) locals stack w.s.flat.locals) (sym none) (more number locals kept)

        is_type : slice_get holder.fields from ≡ Some type
        is_type = ap (slice_get holder.fields) (the_same from (from + 0) (omega arith)) ∙ parts 0 type refl

        by : (found : Slot) → HasType w.s (verification_type type) found → More
            → Copied number (copy_field sites of from found ++ rest) locals stack w.s.flat.locals
        by Plain typed more = skip [] refl more
        by Unusable typed more = skip [] refl more
        by (Virt site) typed more = of_taken (has sites site) refl where
          of_taken : (b : Bool) → has sites site ≡ b → Copied number (copy_field sites of from (Virt site) ++ rest) locals stack w.s.flat.locals
          of_taken false apart = skip (copy_field sites of from (Virt site)) (rw (apart) refl) more
          of_taken true taken =
              let one = copy_to_field number of from site typed.site holder type locals stack of_site present is_type taken typed.there
              (subst (λ (h : Headers). IsAssignable h (types.Object typed.site.class) (verification_type type)) (sym headers_same) typed.assignable) kept in
              let further = more (suc (suc number)) one.after one.kept in
              let code : copy_field sites of from (Virt site) ≡ load kinds.Ref (object_unit site) ∷ store kinds.Ref (field_unit of from) ∷ [] = rw (taken) refl in
              record {
                after = further.after;
                carries = subst (λ (instrs : List WInstr). Carries w number (map item (instrs ++ rest)) (record { locals = locals; stack = stack })
                    (Some (record { locals = further.after; stack = stack }))) (sym code)
                    (then_carries w number (load kinds.Ref (object_unit site) ∷ store kinds.Ref (field_unit of from) ∷ []) rest
                    (record { locals = locals; stack = stack }) (record { locals = one.after; stack = stack })
                    (record { locals = further.after; stack = stack }) one.carries
                    (subst (λ (n : ℕ). Carries w n (map item rest) (record { locals = one.after; stack = stack })
                    (Some (record { locals = further.after; stack = stack }))) (the_same (suc (suc number)) (number + 2) (omega arith)) further.carries));
                kept = further.kept;
              }

  pub copy_objects : (number : ℕ) (objects : List VObject) (locals stack : List VType)
      → AllByRecursion (λ object. object_of state.objects object.site ≡ Some object) objects
      → ((site : ℕ) (object : VObject) → object_of state.objects site ≡ Some object → HasFieldTypes w.s site object)
      → KeptIn locals w.s.flat.locals
      → Copied number (flat_map (copy_object sites) objects) locals stack w.s.flat.locals
  copy_objects number [] locals stack found typed kept =
      record { after = locals; carries = carries_none number (record { locals = locals; stack = stack }); kept = kept }
  copy_objects number (object ∷ objects) locals stack found typed kept =
      by (has sites object.site) refl (λ n after kept_more. copy_objects n objects after stack found.1 typed kept_more) where
        rest : List WInstr
        rest = flat_map (copy_object sites) objects

        More : Type 0
        More = (n : ℕ) (after : List VType) → KeptIn after w.s.flat.locals → Copied n rest after stack w.s.flat.locals

        the_same : (a b : ℕ) → a ≡ b → a ≡ b
        the_same a b e = e

        by : (b : Bool) → has sites object.site ≡ b → More → Copied number (copy_object sites object ++ rest) locals stack w.s.flat.locals
        by true taken more =
            let code : copy_object sites object ≡ [] = rw (taken) refl in
            subst (λ (instrs : List WInstr). Copied number (instrs ++ rest) locals stack w.s.flat.locals) (sym code) (more number locals kept)
        by false stays more =
            let known = typed object.site object found.0 in
            let code : copy_object sites object ≡ copy_fields_from sites object.site 0 object.fields = rw (stays) refl in
            let one = copy_fields number object.site 0 known.site known.site.fields object.fields locals stack known.there (ap is_some found.0)
            (λ n type is. ap (slice_get known.site.fields) (the_same (0 + n) n (omega arith)) ∙ is) known.fields kept in
            let further = more (number + length (copy_fields_from sites object.site 0 object.fields)) one.after one.kept in
            record {
              after = further.after;
              carries = subst (λ (instrs : List WInstr). Carries w number (map item (instrs ++ rest)) (record { locals = locals; stack = stack })
                  (Some (record { locals = further.after; stack = stack }))) (sym code)
                  (then_carries w number (copy_fields_from sites object.site 0 object.fields) rest
                  (record { locals = locals; stack = stack }) (record { locals = one.after; stack = stack })
                  (record { locals = further.after; stack = stack }) one.carries further.carries);
              kept = further.kept;
            }
