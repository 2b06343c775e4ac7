-- The instructions of make code and of templates have their forms, and do not jump.
use Rattle.std.proofs.Common.{◌≡◌, ℕ, zero, suc, List, [], ◌∷◌, ◌++◌, length, map, Option, Some, None, slice_get, flat_map, inl, refl, ap}
use Rattle.std.specs.List.{AllByRecursion}
use Rattle.class_model.specs.Instructions.{targets}
use Rattle.class_model.specs.Pool.{Constants}
use Rattle.class_model.specs.declared.descriptor.Kind.{Kind}
use Rattle.class_model.specs.declared.descriptor.Kind.TheVariants as kinds
use Rattle.class_model.specs.declared.frame.Frame.{Frame}
use Rattle.class_model.specs.declared.instr.Imm.TheVariants as imms
use Rattle.class_model.specs.declared.instr.Instr.{Instr}
use Rattle.class_model.specs.declared.instr.Instr.TheVariants.{Const, Shuffle, Pure, Enter}
use Rattle.class_model.specs.declared.opcodes.TheConstants.{DUP}
use Rattle.class_tree.specs.Headers.{Name}
use Rattle.code_drafts.specs.Laws.Forms.{carried_form, carried_targets}
use Rattle.code_drafts.specs.Laws.SimpleParts.{HoldsOfSimple, OptionHolds, copied_locals_hold, copied_object_holds, loaded_entry_holds, loaded_fields_hold, saves_hold, template_holds}
use Rattle.flow_code.specs.FlatCode.{FlatCode, point_at}
use Rattle.flow_code.specs.declared.point.Site.{Site}
use Rattle.making_code.specs.Items.{WInstr, carried, constructs, load, makes, plain, store}
use Rattle.making_code.specs.MakeCode.{copy_locals_from, copy_object, enters, entries_at, from_lowest, load_entry, load_fields_from, local_slots_in, make_code, make_one, save, saved}
use Rattle.making_code.specs.Units.{WUnit, object_unit}
use Rattle.member_link.specs.Targets.{HasForm}
use Rattle.plan_flow.specs.Laws.WrittenBlocks.{holds_of_both}
use Rattle.plan_flow.specs.PlanScope.{PlanScope}
use Rattle.plan_flow.specs.Written.Routes.{Route, RouteEdge, edge_by}
use Rattle.plan_flow.specs.Written.Templates.{made_on_jump, template}
use Rattle.plan_flow.specs.Written.WrittenConstants.{indexed_instr}
use Rattle.plan_flow.specs.declared.edge.EdgeKind.TheVariants as edges
use Rattle.virtual_state.specs.States.{State, object_of}
use Rattle.virtual_state.specs.declared.slot.VObject.{VObject}

-- ---- an instruction

-- Whatever its constants are, it has a form and so many targets.
pub record Fits (s : PlanScope) (count : ℕ) (instr : WInstr) : Type 0 where
  pub form : (constructor : Name → List ℕ) (pool : Constants) → HasForm (indexed_instr s constructor pool instr)
  pub many : (constructor : Name → List ℕ) (pool : Constants) → length (targets (indexed_instr s constructor pool instr)) ≡ count

module _ (s : PlanScope) where
  abbrev pub AllFit : List WInstr → Type 0
  AllFit instrs = AllByRecursion (Fits s 0) instrs

  pub fits_carried : (class : ℕ) (instr : Instr) → HasForm instr → Fits s (length (targets instr)) (carried class instr)
  fits_carried class instr form = record {
    form = λ constructor pool. carried_form s pool class instr form;
    many = λ constructor pool. ap length (carried_targets s pool class instr);
  }

  pub fits_plain : (instr : Instr) (count : ℕ) → HasForm instr → length (targets instr) ≡ count → Fits s count (plain instr)
  fits_plain instr count form many = record { form = λ constructor pool. form; many = λ constructor pool. many }

  fits_load : (kind : Kind) (unit : WUnit) → Fits s 0 (load kind unit)
  fits_load kind unit = record { form = λ constructor pool. tt; many = λ constructor pool. refl }

  fits_store : (kind : Kind) (unit : WUnit) → Fits s 0 (store kind unit)
  fits_store kind unit = record { form = λ constructor pool. tt; many = λ constructor pool. refl }

  fits_makes : (class : Name) → Fits s 0 (makes class)
  fits_makes class = record { form = λ constructor pool. tt; many = λ constructor pool. refl }

  fits_constructs : (class : Name) → Fits s 0 (constructs class)
  fits_constructs class = record { form = λ constructor pool. inl (refl, refl); many = λ constructor pool. refl }

  both_fit : (left right : List WInstr) → AllFit left → AllFit right → AllFit (left ++ right)
  both_fit left right one other = holds_of_both (Fits s 0) left right one other

  each_fit : {A : Type 0} (of : A → List WInstr) (items : List A) → ((one : A) → AllFit (of one)) → AllFit (flat_map of items)
  each_fit of [] each = tt
  each_fit of (one ∷ items) each = both_fit (of one) (flat_map of items) (each one) (each_fit of items each)

  fits_null : Fits s 0 (plain (Const imms.Null))
  fits_null = fits_plain (Const imms.Null) 0 tt refl

  pub simple_fit : HoldsOfSimple (Fits s 0)
  simple_fit = record {
    loads = fits_load;
    stores = fits_store;
    consts = λ value form. fits_plain (Const value) 0 form refl;
    pures = λ opcode form. fits_plain (Pure opcode) 0 form refl;
    shuffles = λ opcode form. fits_plain (Shuffle opcode) 0 form refl;
  }

  -- ---- make code

  enters_fit : (site depth : ℕ) → AllFit (enters site depth)
  enters_fit site zero = tt
  enters_fit site (suc depth) = (fits_load _ _, (fits_plain Enter 0 tt refl, enters_fit site depth))

  object_fits : (flat : FlatCode) (state : State) (site : ℕ) → AllFit (make_one flat state site)
  object_fits flat state site = by (object_of state.objects site) refl (slice_get flat.sites site) refl where
    by : (object : Option VObject) → object_of state.objects site ≡ object → (one : Option Site) → slice_get flat.sites site ≡ one
        → AllFit (make_one flat state site)
    by None none one is = rw (none) tt
    by (Some object) some None none = rw (some, none) tt
    by (Some object) some (Some one) is =
        rw (some, is) (
          fits_makes one.class,
          (
            fits_plain (Shuffle DUP) 0 refl refl,
            both_fit (load_fields_from object.site 0 one.fields object.fields)
                (plain (Const imms.Null) ∷ constructs one.class ∷ store kinds.Ref (object_unit object.site) ∷ enters object.site object.depth)
                (loaded_fields_hold (Fits s 0) simple_fit object.site 0 one.fields object.fields)
                (fits_null, (fits_constructs one.class, (fits_store _ _, enters_fit object.site object.depth))),
          ),
        )

  pub make_code_fits : (flat : FlatCode) (at : ℕ) (state : State) (sites order : List ℕ) → AllFit (make_code flat at state sites order)
  make_code_fits flat at state sites order =
      both_fit (((map save (saved sites (entries_at flat at state)) ++ flat_map (make_one flat state) order)
      ++ copy_locals_from sites 0 (local_slots_in (point_at flat at) state)) ++ flat_map (copy_object sites) state.objects)
      (flat_map (load_entry sites) (from_lowest sites (entries_at flat at state)))
      (both_fit ((map save (saved sites (entries_at flat at state)) ++ flat_map (make_one flat state) order)
      ++ copy_locals_from sites 0 (local_slots_in (point_at flat at) state)) (flat_map (copy_object sites) state.objects)
      (both_fit (map save (saved sites (entries_at flat at state)) ++ flat_map (make_one flat state) order)
      (copy_locals_from sites 0 (local_slots_in (point_at flat at) state))
      (both_fit (map save (saved sites (entries_at flat at state))) (flat_map (make_one flat state) order)
      (saves_hold (Fits s 0) simple_fit (saved sites (entries_at flat at state))) (each_fit (make_one flat state) order (object_fits flat state)))
      (copied_locals_hold (Fits s 0) simple_fit sites 0 (local_slots_in (point_at flat at) state)))
      (each_fit (copy_object sites) state.objects (copied_object_holds (Fits s 0) simple_fit sites)))
      (each_fit (load_entry sites) (from_lowest sites (entries_at flat at state)) (loaded_entry_holds (Fits s 0) simple_fit sites))

  -- ---- templates

  made_fits : (route : Route) → AllFit (made_on_jump s route)
  made_fits route = by (edge_by route (edges.Jump 0)) refl where
    by : (edge : Option RouteEdge) → edge_by route (edges.Jump 0) ≡ edge → AllFit (made_on_jump s route)
    by None is = rw (is) tt
    by (Some edge) is = rw (is) (make_code_fits s.flat edge.to edge.state edge.made edge.order)

  abbrev pub OptionFits : Option (List WInstr) → Type 0
  OptionFits found = OptionHolds (Fits s 0) simple_fit found

  pub template_fits : (at : ℕ) (f : Frame) (state : State) (route : Route) (class : ℕ) (instr : Instr)
      → OptionFits (template s at f state route class instr)
  template_fits at f state route class instr = template_holds (Fits s 0) simple_fit s at f state route class instr (λ told. made_fits route)
