-- The instructions of make code among the written items: none of them is one of a class, so that both forms have them alike, and there is one at least.
use Rattle.std.proofs.Common.{◌≡◌, ◌+◌, ◌<◌, ℕ, zero, suc, Bool, true, false, List, [], ◌∷◌, ◌++◌, length, map, take, slice_get, Option, Some, None, option_map, IsTrue, refl, sym, ap, subst, ◌∙◌, arith}
use Rattle.std.specs.List.{AllByRecursion, flat_map}
use Rattle.std.proofs.lemmas.Grind.{flat_map-append}
use Rattle.std.proofs.lemmas.List.{length-append}
use Rattle.std.proofs.lemmas.Option.{none-some, same_Some}
use Rattle.class_model.specs.declared.descriptor.FieldType.{FieldType}
use Rattle.class_model.specs.declared.descriptor.Kind.TheVariants as kinds
use Rattle.class_model.specs.declared.instr.Imm.TheVariants as imms
use Rattle.class_model.specs.declared.instr.Instr.TheVariants.{Const, Shuffle}
use Rattle.class_model.specs.declared.opcodes.TheConstants.{DUP}
use Rattle.flow_code.specs.FlatCode.{FlatCode, point_at}
use Rattle.flow_code.specs.declared.point.Site.{Site}
use Rattle.making_code.specs.Items.{WInstr, WItem, carried, constructs, item, load, makes, plain, store}
use Rattle.making_code.specs.MakeCode.{Entry, copy_fields_from, copy_field, copy_local, copy_locals_from, copy_object, enters, entries_at, from_lowest, load_entry, load_fields_from, local_slots_in, make_code, make_object, make_one, save, saved}
use Rattle.making_code.specs.Units.{object_unit}
use Rattle.making_code.specs.MakeOrder.{IsMakeOrder, one_next}
use Rattle.plan_flow.specs.Laws.WrittenBlocks.{first_item, holds_of_both}
use Rattle.plan_flow.specs.Written.Finish.{Finished, is_empty}
use Rattle.plan_flow.specs.Written.WrittenCode.{Form, block_items, in_form, short, wide, widened, written_items}
use Rattle.virtual_state.specs.Sites.{has}
use Rattle.virtual_state.specs.States.{State, object_of}
use Rattle.virtual_state.specs.declared.slot.Slot.{Slot}
use Rattle.virtual_state.specs.declared.slot.Slot.TheVariants.{Plain, Virt, Unusable}
use Rattle.virtual_state.specs.declared.slot.VObject.{VObject}

-- ---- none is of a class

abbrev pub IsOwn : WInstr → Type 0
IsOwn (carried class instr) = ⊥
IsOwn instr = Unit {0}

abbrev pub AreOwn : List WInstr → Type 0
AreOwn instrs = AllByRecursion IsOwn instrs

own_both : (left right : List WInstr) → AreOwn left → AreOwn right → AreOwn (left ++ right)
own_both left right one other = holds_of_both IsOwn left right one other

own_each : {A : Type 0} (of : A → List WInstr) (items : List A) → ((one : A) → AreOwn (of one)) → AreOwn (flat_map of items)
own_each of [] each = tt
own_each of (one ∷ items) each = own_both (of one) (flat_map of items) (each one) (own_each of items each)

own_saves : (entries : List Entry) → AreOwn (map save entries)
own_saves [] = tt
own_saves (entry ∷ entries) = (tt, own_saves entries)

own_fields : (site number : ℕ) (types : List FieldType) (slots : List Slot) → AreOwn (load_fields_from site number types slots)
own_fields site number [] slots = tt
own_fields site number (type ∷ types) [] = tt
own_fields site number (type ∷ types) (Plain ∷ slots) = (tt, own_fields site (suc number) types slots)
own_fields site number (type ∷ types) (Virt named ∷ slots) = (tt, own_fields site (suc number) types slots)
own_fields site number (type ∷ types) (Unusable ∷ slots) = (tt, own_fields site (suc number) types slots)

own_enters : (site depth : ℕ) → AreOwn (enters site depth)
own_enters site zero = tt
own_enters site (suc depth) = (tt, (tt, own_enters site depth))

own_object : (flat : FlatCode) (state : State) (site : ℕ) → AreOwn (make_one flat state site)
own_object flat state site = by (object_of state.objects site) refl (slice_get flat.sites site) refl where
  by : (object : Option VObject) → object_of state.objects site ≡ object → (one : Option Site) → slice_get flat.sites site ≡ one → AreOwn (make_one flat state site)
  by None none one is = rw (none) tt
  by (Some object) some None none = rw (some, none) tt
  by (Some object) some (Some one) is =
      rw (some, is) (
        tt,
        (
          tt,
          own_both (load_fields_from object.site 0 one.fields object.fields)
              (plain (Const imms.Null) ∷ constructs one.class ∷ store kinds.Ref (object_unit object.site) ∷ enters object.site object.depth)
              (own_fields object.site 0 one.fields object.fields) (tt, (tt, (tt, own_enters object.site object.depth))),
        ),
      )

own_local : (sites : List ℕ) (unit : ℕ) (slots : List Slot) → AreOwn (copy_locals_from sites unit slots)
own_local sites unit [] = tt
own_local sites unit (Plain ∷ slots) = own_local sites (suc unit) slots
own_local sites unit (Unusable ∷ slots) = own_local sites (suc unit) slots
own_local sites unit (Virt site ∷ slots) =
    own_both (copy_local sites unit (Virt site)) (copy_locals_from sites (suc unit) slots) (by (has sites site) refl) (own_local sites (suc unit) slots) where
      by : (is : Bool) → has sites site ≡ is → AreOwn (copy_local sites unit (Virt site))
      by true is = rw (is) (tt, (tt, tt))
      by false is = rw (is) tt

own_copies : (sites : List ℕ) (of number : ℕ) (slots : List Slot) → AreOwn (copy_fields_from sites of number slots)
own_copies sites of number [] = tt
own_copies sites of number (Plain ∷ slots) = own_copies sites of (suc number) slots
own_copies sites of number (Unusable ∷ slots) = own_copies sites of (suc number) slots
own_copies sites of number (Virt site ∷ slots) =
    own_both (copy_field sites of number (Virt site)) (copy_fields_from sites of (suc number) slots) (by (has sites site) refl)
    (own_copies sites of (suc number) slots) where
      by : (is : Bool) → has sites site ≡ is → AreOwn (copy_field sites of number (Virt site))
      by true is = rw (is) (tt, (tt, tt))
      by false is = rw (is) tt

own_copy : (sites : List ℕ) (object : VObject) → AreOwn (copy_object sites object)
own_copy sites object = by (has sites object.site) refl where
  by : (is : Bool) → has sites object.site ≡ is → AreOwn (copy_object sites object)
  by true is = rw (is) tt
  by false is = rw (is) (own_copies sites object.site 0 object.fields)

own_loaded : (sites : List ℕ) (entry : Entry) → AreOwn (load_entry sites entry)
own_loaded sites entry = of_slot entry.slot refl where
  of_slot : (slot : Slot) → entry.slot ≡ slot → AreOwn (load_entry sites entry)
  of_slot Plain is = rw (is) (tt, tt)
  of_slot Unusable is = rw (is) tt
  of_slot (Virt site) is = by (has sites site) refl where
    by : (among : Bool) → has sites site ≡ among → AreOwn (load_entry sites entry)
    by true among = rw (is, among) (tt, tt)
    by false among = rw (is, among) tt

pub own_make_code : (flat : FlatCode) (at : ℕ) (state : State) (sites order : List ℕ) → AreOwn (make_code flat at state sites order)
own_make_code flat at state sites order =
    own_both (((map save (saved sites (entries_at flat at state)) ++ flat_map (make_one flat state) order)
    ++ copy_locals_from sites 0 (local_slots_in (point_at flat at) state)) ++ flat_map (copy_object sites) state.objects)
    (flat_map (load_entry sites) (from_lowest sites (entries_at flat at state)))
    (own_both ((map save (saved sites (entries_at flat at state)) ++ flat_map (make_one flat state) order)
    ++ copy_locals_from sites 0 (local_slots_in (point_at flat at) state)) (flat_map (copy_object sites) state.objects)
    (own_both (map save (saved sites (entries_at flat at state)) ++ flat_map (make_one flat state) order)
    (copy_locals_from sites 0 (local_slots_in (point_at flat at) state))
    (own_both (map save (saved sites (entries_at flat at state))) (flat_map (make_one flat state) order)
    (own_saves (saved sites (entries_at flat at state))) (own_each (make_one flat state) order (own_object flat state)))
    (own_local sites 0 (local_slots_in (point_at flat at) state)))
    (own_each (copy_object sites) state.objects (own_copy sites)))
    (own_each (load_entry sites) (from_lowest sites (entries_at flat at state)) (own_loaded sites))

-- ---- both forms have them alike

same_widened : (instrs : List WInstr) → AreOwn instrs → flat_map widened (map item instrs) ≡ map item instrs
same_widened [] own = refl
same_widened (carried class instr ∷ instrs) own = absurd own.0
same_widened (plain instr ∷ instrs) own = ap (λ (items : List WItem). item (plain instr) ∷ items) (same_widened instrs own.1)
same_widened (load kind unit ∷ instrs) own = ap (λ (items : List WItem). item (load kind unit) ∷ items) (same_widened instrs own.1)
same_widened (store kind unit ∷ instrs) own = ap (λ (items : List WItem). item (store kind unit) ∷ items) (same_widened instrs own.1)
same_widened (makes class ∷ instrs) own = ap (λ (items : List WItem). item (makes class) ∷ items) (same_widened instrs own.1)
same_widened (constructs class ∷ instrs) own = ap (λ (items : List WItem). item (constructs class) ∷ items) (same_widened instrs own.1)

pub same_in_form : (form : Form) (instrs : List WInstr) → AreOwn instrs → in_form form (map item instrs) ≡ map item instrs
same_in_form short instrs own = refl
same_in_form wide instrs own = same_widened instrs own

-- ---- there is one

make_one_some : (flat : FlatCode) (state : State) (site : ℕ) (object : VObject) (one : Site)
    → object_of state.objects site ≡ Some object
    → slice_get flat.sites site ≡ Some one
    → make_one flat state site ≡ make_object flat object one
make_one_some flat state site object one is is_site = rw (is, is_site) refl

-- a list with something in it
pub data HasSome : List WInstr → Type 0 where
  has_first : (instr : WInstr) (instrs : List WInstr) → HasSome (instr ∷ instrs)

some_left : (left right : List WInstr) → HasSome left → HasSome (left ++ right)
some_left [] right some = elim some [ ]
some_left (instr ∷ left) right some = has_first instr (left ++ right)

some_right : (left right : List WInstr) → HasSome right → HasSome (left ++ right)
some_right [] right some = some
some_right (instr ∷ left) right some = has_first instr (left ++ right)

pub make_code_some : (flat : FlatCode) (at : ℕ) (state : State) {site : ℕ} {sites order : List ℕ}
    → IsMakeOrder state.objects (site ∷ sites) order
    → ((one : ℕ) → IsTrue (has (site ∷ sites) one) → (object : VObject) × (found : Site) × (object_of state.objects one ≡ Some object) × (slice_get flat.sites one ≡ Some found))
    → HasSome (make_code flat at state (site ∷ sites) order)
make_code_some flat at state {site = site} {sites = sites} (one_next left order first next rest) there =
    some_left _ (flat_map (load_entry (site ∷ sites)) (from_lowest (site ∷ sites) (entries_at flat at state)))
    (some_left _ (flat_map (copy_object (site ∷ sites)) state.objects)
    (some_left _ (copy_locals_from (site ∷ sites) 0 (local_slots_in (point_at flat at) state))
    (some_right (map save (saved (site ∷ sites) (entries_at flat at state))) (flat_map (make_one flat state) (first ∷ order))
    (some_left (make_one flat state first) (flat_map (make_one flat state) order) made)))) where
      found : (object : VObject) × (found : Site) × (object_of state.objects first ≡ Some object) × (slice_get flat.sites first ≡ Some found)
      found = there first next.left_over

      made : HasSome (make_one flat state first)
      made =
          subst HasSome (sym (make_one_some flat state first found.0 found.1 found.2 found.3))
          (of_object found.0 found.1) where
            of_object : (object : VObject) (one : Site) → HasSome (make_object flat object one)
            of_object object one =
                some_left (makes one.class ∷ plain (Shuffle DUP) ∷ load_fields_from object.site 0 one.fields object.fields)
                (plain (Const imms.Null) ∷ constructs one.class ∷ store kinds.Ref (object_unit object.site) ∷ enters object.site object.depth)
                (has_first (makes one.class) (plain (Shuffle DUP) ∷ load_fields_from object.site 0 one.fields object.fields))

-- ---- where they stand

-- an item of a block stands as many items behind the block's first one
pub items_of_block : (form : Form) (blocks : List Finished) (number more : ℕ) (one : Finished)
    → slice_get blocks number ≡ Some one
    → more < length (block_items form one)
    → slice_get (written_items form blocks) (first_item form blocks number + more) ≡ slice_get (block_items form one) more
items_of_block form [] number more one is low = absurd (none-some one is)
items_of_block form (first ∷ blocks) zero more one is low =
    ap (slice_get (block_items form first ++ written_items form blocks)) zeroth
    ∙ in_left (block_items form first) (written_items form blocks) more (subst (λ (found : Finished). more < length (block_items form found)) (sym same) low)
    ∙ ap (λ (found : Finished). slice_get (block_items form found) more) same where
      zeroth : 0 + more ≡ more
      zeroth = omega arith

      same : first ≡ one
      same = same_Some first one is

      in_left : (left right : List WItem) (place : ℕ) → place < length left → slice_get (left ++ right) place ≡ slice_get left place
      in_left [] right place within = absurd (omega (arith, within))
      in_left (head ∷ left) right zero within = refl
      in_left (head ∷ left) right (suc place) within = in_left left right place (omega (arith, within))
items_of_block form (first ∷ blocks) (suc number) more one is low =
    ap (slice_get (block_items form first ++ written_items form blocks)) further
    ∙ behind (block_items form first) (written_items form blocks) (first_item form blocks number + more)
    ∙ items_of_block form blocks number more one is low where
      head : length (block_items form first ++ written_items form (take number blocks))
          ≡ length (block_items form first) + length (written_items form (take number blocks))
      head = length-append (block_items form first) (written_items form (take number blocks))

      further : length (block_items form first ++ written_items form (take number blocks)) + more
          ≡ length (block_items form first) + (first_item form blocks number + more)
      further = omega (arith, head)

      behind : (left right : List WItem) (place : ℕ) → slice_get (left ++ right) (length left + place) ≡ slice_get right place
      behind [] right place =
          let zeroth : 0 + place ≡ place = omega arith in
          ap (slice_get right) zeroth
      behind (one ∷ left) right place =
          let next : suc (length left) + place ≡ suc (length left + place) = omega arith in
          ap (slice_get (one ∷ left ++ right)) next ∙ behind left right place

-- ---- a block of make code

-- make code and what stands behind it, which is the same in both forms
pub made_in_form : (form : Form) (instrs : List WInstr) (tail : List WItem) → AreOwn instrs
    → in_form form tail ≡ tail
    → in_form form (map item instrs ++ tail) ≡ map item instrs ++ tail
made_in_form short instrs tail own same = refl
made_in_form wide instrs tail own same =
    flat_map-append widened (map item instrs) tail ∙ ap (λ (items : List WItem). items ++ flat_map widened tail) (same_widened instrs own)
    ∙ ap (λ (items : List WItem). map item instrs ++ items) same

made_item : (instrs : List WInstr) (tail : List WItem) (more : ℕ) → more < length instrs
    → slice_get (map item instrs ++ tail) more ≡ option_map item (slice_get instrs more)
made_item [] tail more low = absurd (omega (arith, low))
made_item (instr ∷ instrs) tail zero low = refl
made_item (instr ∷ instrs) tail (suc more) low = made_item instrs tail more (omega (arith, low))

pub length_made : (instrs : List WInstr) (tail : List WItem) → length (map item instrs ++ tail) ≡ length instrs + length tail
length_made [] tail = omega arith
length_made (instr ∷ instrs) tail = let rest = length_made instrs tail in omega (arith, rest)

-- the instructions of a block that begins with make code
pub made_at : (form : Form) (blocks : List Finished) (number : ℕ) (one : Finished) (instrs : List WInstr) (tail : List WItem) (more : ℕ)
    → slice_get blocks number ≡ Some one
    → block_items form one ≡ map item instrs ++ tail
    → more < length instrs
    → slice_get (written_items form blocks) (first_item form blocks number + more) ≡ option_map item (slice_get instrs more)
made_at form blocks number one instrs tail more is items low =
    items_of_block form blocks number more one is within
    ∙ ap (λ (found : List WItem). slice_get found more) items
    ∙ made_item instrs tail more low where
      within : more < length (block_items form one)
      within = omega (arith, low, ap length items, length_made instrs tail)

-- and the item behind them
pub behind_made : (form : Form) (blocks : List Finished) (number : ℕ) (one : Finished) (instrs : List WInstr) (last : WItem) (tail : List WItem)
    → slice_get blocks number ≡ Some one
    → block_items form one ≡ map item instrs ++ (last ∷ tail)
    → slice_get (written_items form blocks) (first_item form blocks number + length instrs) ≡ Some last
behind_made form blocks number one instrs last tail is items =
    items_of_block form blocks number (length instrs) one is within
    ∙ ap (λ (found : List WItem). slice_get found (length instrs)) items
    ∙ at_end instrs where
      within : length instrs < length (block_items form one)
      within = omega (arith, ap length items, length_made instrs (last ∷ tail))

      at_end : (list : List WInstr) → slice_get (map item list ++ (last ∷ tail)) (length list) ≡ Some last
      at_end [] = refl
      at_end (instr ∷ list) = at_end list

-- make code is not empty
pub made_some : (instrs : List WInstr) → HasSome instrs → is_empty (map item instrs) ≡ false
made_some [] some = elim some [ ]
made_some (instr ∷ instrs) some = refl
