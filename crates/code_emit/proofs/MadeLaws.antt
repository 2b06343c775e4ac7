-- Make code as items: its instructions are of no class of the folder, and there is none without a site.
use Rattle.std.proofs.Common.{◌≡◌, ◌++◌, ℕ, zero, suc, List, [], ◌∷◌, map, slice_get, Option, Some, None, refl, sym, ap, subst, ◌∙◌, append-nil}
use Rattle.std.specs.List.{AllByRecursion, flat_map}
use Rattle.std.proofs.lemmas.Bool.{false≢true}
use Rattle.class_model.specs.Pool.{Constants}
use Rattle.class_model.specs.declared.descriptor.Kind.TheVariants as kinds
use Rattle.class_model.specs.declared.instr.Imm.TheVariants as imms
use Rattle.class_model.specs.declared.instr.Instr.{Instr}
use Rattle.class_model.specs.declared.instr.Instr.TheVariants.{Const, Enter, Shuffle}
use Rattle.class_model.specs.declared.opcodes.TheConstants.{DUP}
use Rattle.class_tree.specs.Headers.{Name}
use Rattle.code_drafts.specs.Drafts.{Meant, meant}
use Rattle.code_drafts.specs.Emits.{Kept, Writing}
use Rattle.code_drafts.specs.Laws.EmittedParts.{kept_later}
use Rattle.code_drafts.specs.Laws.SimpleParts.{HoldsOfSimple, copied_locals_hold, copied_object_holds, each_holds, loaded_entry_holds, loaded_fields_hold, saves_hold}
use Rattle.code_drafts.specs.Writable.{scope}
use Rattle.code_emit.specs.Inner.MadeItems.{EmitsMaking, IsFullMaking, PutsInstrs, alone}
use Rattle.flow_code.specs.FlatCode.{FlatCode, point_at}
use Rattle.flow_code.specs.declared.point.Site.{Site}
use Rattle.flow_code.specs.declared.reason.Reason.{Reason}
use Rattle.making_code.specs.Constants.{Need}
use Rattle.making_code.specs.IndexedMaking.{all_making_needs, made_instr, making_needs}
use Rattle.making_code.specs.Items.{WInstr, constructs, item, makes, plain, store}
use Rattle.making_code.specs.MakeCode.{Entry, copy_fields_from, copy_locals_from, copy_object, enters, entries_at, from_lowest, load_entry, load_fields_from, local_slots_in, make_code, make_one, save, saved}
use Rattle.making_code.specs.MakeOrder.{IsMakeOrder, all_made, one_next}
use Rattle.making_code.specs.Units.{object_unit}
use Rattle.materialise.specs.Growing.{Grows, IsFull}
use Rattle.materialise.specs.MadeCode.{DescribesConstructors, IsMakeCode}
use Rattle.plan_flow.specs.Laws.WrittenBlocks.{holds_of_both}
use Rattle.plan_flow.specs.PlanScope.{PlanScope}
use Rattle.plan_flow.specs.Written.Blocks.{making}
use Rattle.plan_flow.specs.Written.WrittenConstants.{code_needs, indexed_instr, instr_needs}
use Rattle.pool_edit.specs.Edits.{Continues, Edit, grown}
use Rattle.virtual_state.specs.States.{State, object_of}
use Rattle.virtual_state.specs.declared.slot.Slot.{Slot}
use Rattle.virtual_state.specs.declared.slot.Slot.TheVariants.{Plain, Virt, Unusable}
use Rattle.virtual_state.specs.declared.slot.VObject.{VObject}

-- ---- instructions of no class of the folder

pub record IsOfNone (s : PlanScope) (instr : WInstr) : Type 0 where
  pub same : (constructor : Name → List ℕ) (pool : Constants)
      → indexed_instr s constructor pool instr ≡ made_instr s.flat constructor pool instr
  pub needs : (constructor : Name → List ℕ)
      → instr_needs s constructor instr ≡ making_needs constructor instr

module _ (s : PlanScope) where
  abbrev AreOfNone : List WInstr → Type 0
  AreOfNone instrs = AllByRecursion (IsOfNone s) instrs

  simple_of_none : HoldsOfSimple (IsOfNone s)
  simple_of_none = record {
    loads = λ kind unit. record { same = λ constructor pool. refl; needs = λ constructor. refl };
    stores = λ kind unit. record { same = λ constructor pool. refl; needs = λ constructor. refl };
    consts = λ value form. record { same = λ constructor pool. refl; needs = λ constructor. refl };
    pures = λ opcode form. record { same = λ constructor pool. refl; needs = λ constructor. refl };
    shuffles = λ opcode form. record { same = λ constructor pool. refl; needs = λ constructor. refl };
  }

  plain_of_none : (instr : Instr) → IsOfNone s (plain instr)
  plain_of_none instr = record { same = λ constructor pool. refl; needs = λ constructor. refl }

  makes_of_none : (class : Name) → IsOfNone s (makes class)
  makes_of_none class = record { same = λ constructor pool. refl; needs = λ constructor. refl }

  constructs_of_none : (class : Name) → IsOfNone s (constructs class)
  constructs_of_none class = record { same = λ constructor pool. refl; needs = λ constructor. refl }

  both_of_none : (left right : List WInstr) → AreOfNone left → AreOfNone right → AreOfNone (left ++ right)
  both_of_none left right one other = holds_of_both (IsOfNone s) left right one other

  enters_of_none : (site depth : ℕ) → AreOfNone (enters site depth)
  enters_of_none site zero = tt
  enters_of_none site (suc depth) = (simple_of_none.loads _ _, (plain_of_none Enter, enters_of_none site depth))

  object_of_none : (flat : FlatCode) (state : State) (site : ℕ) → AreOfNone (make_one flat state site)
  object_of_none flat state site = by (object_of state.objects site) refl (slice_get flat.sites site) refl where
    by : (object : Option VObject) → object_of state.objects site ≡ object → (one : Option Site) → slice_get flat.sites site ≡ one
        → AreOfNone (make_one flat state site)
    by None none one is = rw (none) tt
    by (Some object) some None none = rw (some, none) tt
    by (Some object) some (Some one) is =
        rw (some, is) (
          makes_of_none one.class,
          (
            plain_of_none (Shuffle DUP),
            both_of_none (load_fields_from object.site 0 one.fields object.fields)
                (plain (Const imms.Null) ∷ constructs one.class ∷ store kinds.Ref (object_unit object.site) ∷ enters object.site object.depth)
                (loaded_fields_hold (IsOfNone s) simple_of_none object.site 0 one.fields object.fields)
                (plain_of_none (Const imms.Null), (constructs_of_none one.class, (simple_of_none.stores _ _, enters_of_none object.site object.depth))),
          ),
        )

  objects_of_none : (flat : FlatCode) (state : State) (order : List ℕ) → AreOfNone (flat_map (make_one flat state) order)
  objects_of_none flat state order = each_holds (IsOfNone s) simple_of_none (make_one flat state) order (object_of_none flat state)

  code_of_none : (flat : FlatCode) (at : ℕ) (state : State) (sites order : List ℕ) → AreOfNone (make_code flat at state sites order)
  code_of_none flat at state sites order =
      both_of_none (((map save (saved sites (entries_at flat at state)) ++ flat_map (make_one flat state) order)
      ++ copy_locals_from sites 0 (local_slots_in (point_at flat at) state)) ++ flat_map (copy_object sites) state.objects)
      (flat_map (load_entry sites) (from_lowest sites (entries_at flat at state)))
      (both_of_none ((map save (saved sites (entries_at flat at state)) ++ flat_map (make_one flat state) order)
      ++ copy_locals_from sites 0 (local_slots_in (point_at flat at) state)) (flat_map (copy_object sites) state.objects)
      (both_of_none (map save (saved sites (entries_at flat at state)) ++ flat_map (make_one flat state) order)
      (copy_locals_from sites 0 (local_slots_in (point_at flat at) state))
      (both_of_none (map save (saved sites (entries_at flat at state))) (flat_map (make_one flat state) order)
      (saves_hold (IsOfNone s) simple_of_none (saved sites (entries_at flat at state))) (objects_of_none flat state order))
      (copied_locals_hold (IsOfNone s) simple_of_none sites 0 (local_slots_in (point_at flat at) state)))
      (each_holds (IsOfNone s) simple_of_none (copy_object sites) state.objects (copied_object_holds (IsOfNone s) simple_of_none sites)))
      (each_holds (IsOfNone s) simple_of_none (load_entry sites) (from_lowest sites (entries_at flat at state)) (loaded_entry_holds (IsOfNone s) simple_of_none sites))

  -- ---- what they need, and what they mean

  needs_of_none : (constructor : Name → List ℕ) (instrs : List WInstr) → AreOfNone instrs
      → code_needs s constructor (map item instrs) ≡ all_making_needs constructor instrs
  needs_of_none constructor [] all = refl
  needs_of_none constructor (instr ∷ instrs) all =
      ap (λ (needs : List Need). needs ++ code_needs s constructor (map item instrs)) (append-nil (instr_needs s constructor instr) ∙ all.0.needs constructor)
      ∙ ap (λ (needs : List Need). making_needs constructor instr ++ needs) (needs_of_none constructor instrs all.1)

  meant_of_none : (constructor : Name → List ℕ) (pool : Constants) (instrs : List WInstr) → AreOfNone instrs
      → map alone (map (made_instr s.flat constructor pool) instrs) ≡ map (meant s constructor pool) (map item instrs)
  meant_of_none constructor pool [] all = refl
  meant_of_none constructor pool (instr ∷ instrs) all =
      ap (λ (one : Instr). alone one ∷ map alone (map (made_instr s.flat constructor pool) instrs)) (sym (all.0.same constructor pool))
      ∙ ap (λ (list : List Meant). alone (indexed_instr s constructor pool instr) ∷ list) (meant_of_none constructor pool instrs all.1)

  pub making_needs_are : (constructor : Name → List ℕ) (at : ℕ) (state : State) (sites order : List ℕ)
      → code_needs s constructor (making s at state sites order) ≡ all_making_needs constructor (make_code s.flat at state sites order)
  making_needs_are constructor at state sites order =
      needs_of_none constructor (make_code s.flat at state sites order) (code_of_none s.flat at state sites order)

  pub making_means : (constructor : Name → List ℕ) (pool : Constants) (at : ℕ) (state : State) (sites order : List ℕ)
      → map alone (map (made_instr s.flat constructor pool) (make_code s.flat at state sites order)) ≡ map (meant s constructor pool) (making s at state sites order)
  making_means constructor pool at state sites order =
      meant_of_none constructor pool (make_code s.flat at state sites order) (code_of_none s.flat at state sites order)

-- ---- make code that was written

pub made_emits : (w : Writing) (at : ℕ) (state : State) (made : List ℕ) (old new : Edit) (instrs : List Instr) (before after : Kept)
    → IsMakeCode w.classes w.flat at state made old new instrs
    → Continues old new
    → PutsInstrs instrs before after
    → EmitsMaking w at state made old new before after
made_emits w at state made old new instrs before after is so_far puts = record {
  each = λ links constructor order meant is_order.
      let s = scope w links in record {
        grows =
            subst (λ (needs : List Need). Grows old needs new) (sym (making_needs_are s constructor at state made order))
            (is.grows constructor order meant.describes is_order);
        keeps = λ front kept more.
            puts.each s constructor (grown new ++ more) front (making s at state made order)
            (ap (map alone) (is.instrs_are constructor order meant.describes is_order more) ∙ making_means s constructor (grown new ++ more) at state made order)
            (kept_later s constructor old new front before.is_long before.items so_far kept more);
      };
}

pub made_full : (w : Writing) (at : ℕ) (state : State) (made : List ℕ) (edit : Edit) (reason : Reason)
    → ((constructor : Name → List ℕ) (order : List ℕ)
    → DescribesConstructors w.classes constructor
    → IsMakeOrder state.objects made order
    → IsFull edit (all_making_needs constructor (make_code w.flat at state made order)) reason)
    → IsFullMaking w at state made edit reason
made_full w at state made edit reason full = record {
  each = λ links constructor order meant is_order.
      subst (λ (needs : List Need). IsFull edit needs reason) (sym (making_needs_are (scope w links) constructor at state made order))
      (full constructor order meant.describes is_order);
}

-- ---- no site

no_order : (objects : List VObject) (order : List ℕ) → IsMakeOrder objects [] order → order ≡ []
no_order objects _ all_made = refl
no_order objects _ (one_next _ order site next rest) = absurd (false≢true next.left_over)

lowest_none : (entries : List Entry) → from_lowest [] entries ≡ []
lowest_none [] = refl
lowest_none (entry ∷ entries) = by entry.slot refl (lowest_none entries) where
  by : (slot : Slot) → entry.slot ≡ slot → from_lowest [] entries ≡ [] → from_lowest [] (entry ∷ entries) ≡ []
  by Plain is rest = rw is rest
  by (Virt site) is rest = rw is rest
  by Unusable is rest = rw is rest

locals_none : (unit : ℕ) (slots : List Slot) → copy_locals_from [] unit slots ≡ []
locals_none unit [] = refl
locals_none unit (Plain ∷ slots) = locals_none (suc unit) slots
locals_none unit (Virt site ∷ slots) = locals_none (suc unit) slots
locals_none unit (Unusable ∷ slots) = locals_none (suc unit) slots

fields_none : (of number : ℕ) (slots : List Slot) → copy_fields_from [] of number slots ≡ []
fields_none of number [] = refl
fields_none of number (Plain ∷ slots) = fields_none of (suc number) slots
fields_none of number (Virt site ∷ slots) = fields_none of (suc number) slots
fields_none of number (Unusable ∷ slots) = fields_none of (suc number) slots

objects_none : (objects : List VObject) → flat_map (copy_object []) objects ≡ []
objects_none [] = refl
objects_none (object ∷ objects) = ap (λ (list : List WInstr). list ++ flat_map (copy_object []) objects) (fields_none object.site 0 object.fields) ∙ objects_none objects

no_code : (flat : FlatCode) (at : ℕ) (state : State) → make_code flat at state [] [] ≡ []
no_code flat at state =
    rw (lowest_none (entries_at flat at state), locals_none 0 (local_slots_in (point_at flat at) state), objects_none state.objects) refl

-- without a site there is no make code
pub no_making : (s : PlanScope) (at : ℕ) (state : State) (order : List ℕ) → IsMakeOrder state.objects [] order → making s at state [] order ≡ []
no_making s at state order is =
    ap (λ (list : List ℕ). map item (make_code s.flat at state [] list)) (no_order state.objects order is) ∙ ap (map item) (no_code s.flat at state)
