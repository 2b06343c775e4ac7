-- The instructions that make one object.
use Rattle.std.proofs.Common.{◌≡◌, ◌+◌, ◌++◌, ℕ, List, [], ◌∷◌, drop, map, slice_get, take, Some, None, refl, sym, ap, subst, ◌∙◌, append_assoc, append-nil}
use Rattle.std.specs.List.{flat_map}
use Rattle.std.proofs.lemmas.Grind.{flat_map-append}
use Rattle.std.proofs.lemmas.List.{map-append, take-append-drop}
use Rattle.class_model.specs.Laws.Lists.{take_item}
use Rattle.class_model.specs.Pool.{Constants, entries_of}
use Rattle.class_model.specs.declared.descriptor.Kind.TheVariants as kinds
use Rattle.class_model.specs.declared.instr.Imm.TheVariants as imms
use Rattle.class_model.specs.declared.instr.Instr.{Instr}
use Rattle.class_model.specs.declared.instr.Instr.TheVariants.{Const, Invoke, New, Shuffle, Store}
use Rattle.class_model.specs.declared.opcodes.TheConstants.{DUP, INVOKESPECIAL}
use Rattle.class_tree.specs.Headers.{Name}
use Rattle.flow_code.specs.FlatCode.{FlatCode}
use Rattle.flow_code.specs.declared.point.Site.{Site}
use Rattle.flow_code.specs.declared.reason.Reason.{Reason}
use Rattle.making_code.specs.Constants.{Need, constructor_needs, index_in, needs_class}
use Rattle.making_code.specs.IndexedMaking.{all_making_needs, index_of_last, making_needs}
use Rattle.making_code.specs.Items.{WInstr, constructs, makes, plain, store}
use Rattle.making_code.specs.MakeCode.{enters, load_fields_from, make_object, make_one}
use Rattle.making_code.specs.Units.{object_unit}
use Rattle.materialise.proofs.BareLaws.{object_needs}
use Rattle.materialise.specs.Laws.GrownEdits.{full_first, full_then, grown_more, grows_both, grows_none}
use Rattle.materialise.specs.Growing.{Grows, IsFull}
use Rattle.materialise.specs.Inner.CodeWords.{Makes, Writes, WritesObject, coded, kept_instr}
use Rattle.materialise.specs.Inner.ConstantWords.{AreIndices, made_needs}
use Rattle.materialise.specs.Inner.UnitWords.{kept_unit}
use Rattle.pool_edit.specs.Edits.{Continues, Edit, grown}
use Rattle.virtual_state.specs.States.{State, object_of}
use Rattle.virtual_state.specs.declared.slot.VObject.{VObject}

pub object_written : (flat : FlatCode) (before : List Instr) (object : VObject) (one : Site) (class constructor unit : ℕ)
    (i1 i2 i3 i4 i5 i6 i7 : List Instr)
    → i1 ≡ before ++ New class ∷ []
    → i2 ≡ i1 ++ Shuffle DUP ∷ []
    → Writes flat i2 (load_fields_from object.site 0 one.fields object.fields) i3
    → i4 ≡ i3 ++ Const imms.Null ∷ []
    → i5 ≡ i4 ++ Invoke INVOKESPECIAL constructor 0 ∷ []
    → i6 ≡ i5 ++ Store kinds.Ref unit ∷ []
    → kept_unit flat (object_unit object.site) ≡ unit
    → Writes flat i6 (enters object.site object.depth) i7
    → WritesObject flat before object one class constructor i7
object_written flat before object one class constructor unit i1 i2 i3 i4 i5 i6 i7 e1 e2 loads e4 e5 e6 same enters_are = record {
  writes = λ class_of constructor_of is_class is_constructor.
      let code = coded flat class_of constructor_of in
      let fields = load_fields_from object.site 0 one.fields object.fields in
      let monitors = enters object.site object.depth in
      let first : i2 ≡ before ++ map code (makes one.class ∷ plain (Shuffle DUP) ∷ []) =
      e2 ∙ ap (λ (list : List Instr). list ++ Shuffle DUP ∷ []) e1 ∙ append_assoc before (New class ∷ []) (Shuffle DUP ∷ [])
      ∙ ap (λ (n : ℕ). before ++ New n ∷ Shuffle DUP ∷ []) (sym is_class) in
      let last : i6 ≡ i3 ++ map code (plain (Const imms.Null) ∷ constructs one.class ∷ store kinds.Ref (object_unit object.site) ∷ []) =
      e6 ∙ ap (λ (list : List Instr). list ++ Store kinds.Ref unit ∷ []) (e5 ∙ ap (λ (list : List Instr). list ++ Invoke INVOKESPECIAL constructor 0 ∷ []) e4 ∙ append_assoc i3 (Const imms.Null ∷ []) (Invoke INVOKESPECIAL constructor 0 ∷ []))
      ∙ append_assoc i3 (Const imms.Null ∷ Invoke INVOKESPECIAL constructor 0 ∷ []) (Store kinds.Ref unit ∷ [])
      ∙ ap (λ (n : ℕ). i3 ++ Const imms.Null ∷ Invoke INVOKESPECIAL n 0 ∷ Store kinds.Ref unit ∷ []) (sym is_constructor)
      ∙ ap (λ (n : ℕ). i3 ++ Const imms.Null ∷ Invoke INVOKESPECIAL (constructor_of one.class) 0 ∷ Store kinds.Ref n ∷ []) (sym same) in
      let head = makes one.class ∷ plain (Shuffle DUP) ∷ [] in
      let tail = plain (Const imms.Null) ∷ constructs one.class ∷ store kinds.Ref (object_unit object.site) ∷ [] in
      enters_are.writes class_of constructor_of
      ∙ ap (λ (list : List Instr). list ++ map code monitors)
      (last ∙ ap (λ (list : List Instr). list ++ map code tail)
      (loads.writes class_of constructor_of ∙ ap (λ (list : List Instr). list ++ map code fields) first))
      ∙ joined before (map code head) (map code fields) (map code tail) (map code monitors)
      ∙ ap (λ (list : List Instr). before ++ (map code head ++ list)) (sym (map-append code fields (tail ++ monitors)));
} where
  joined : (a b c d e : List Instr) → (((a ++ b) ++ c) ++ d) ++ e ≡ a ++ (b ++ (c ++ (d ++ e)))
  joined a b c d e =
      append_assoc ((a ++ b) ++ c) d e ∙ append_assoc (a ++ b) c (d ++ e) ∙ append_assoc a b (c ++ (d ++ e))

-- ---- the code of a site

pub no_object : (flat : FlatCode) (state : State) (site : ℕ) → object_of state.objects site ≡ None → make_one flat state site ≡ []
no_object flat state site is = rw is refl

pub no_site : (flat : FlatCode) (state : State) (site : ℕ) (object : VObject) → object_of state.objects site ≡ Some object → slice_get flat.sites site ≡ None → make_one flat state site ≡ []
no_site flat state site object is none = rw (is, none) refl

pub made_one : (flat : FlatCode) (state : State) (site : ℕ) (object : VObject) (one : Site)
    → object_of state.objects site ≡ Some object
    → slice_get flat.sites site ≡ Some one
    → make_one flat state site ≡ make_object flat object one
made_one flat state site object one is there = rw (is, there) refl

pub one_needs : (constructor : Name → List ℕ) (flat : FlatCode) (state : State) (site : ℕ) (object : VObject) (one : Site)
    → object_of state.objects site ≡ Some object
    → slice_get flat.sites site ≡ Some one
    → made_needs one.class (constructor one.class) ≡ all_making_needs constructor (make_one flat state site)
one_needs constructor flat state site object one is there =
    sym (ap (all_making_needs constructor) (made_one flat state site object one is there) ∙ object_needs constructor flat object one)

pub one_made : (constructor : Name → List ℕ) (flat : FlatCode) (state : State) (site : ℕ) (object : VObject) (one : Site) (old new : Edit) (before after : List Instr) (class construct : ℕ)
    → object_of state.objects site ≡ Some object
    → slice_get flat.sites site ≡ Some one
    → Grows old (made_needs one.class (constructor one.class)) new
    → AreIndices new one.class (constructor one.class) class construct
    → WritesObject flat before object one class construct after
    → Makes flat constructor old before (make_one flat state site) new after
one_made constructor flat state site object one old new before after class construct is there grows indices written = record {
  grows = subst (λ (needs : List Need). Grows old needs new) (one_needs constructor flat state site object one is there) grows;
  writes = λ more.
      written.writes (λ name. index_in (grown new ++ more) (needs_class name)) (λ name. index_of_last (grown new ++ more) (constructor_needs name (constructor name)))
      (indices.class_is.is more) (indices.constructor_is.is more)
      ∙ ap (λ (instrs : List WInstr). before ++ map (kept_instr flat constructor (grown new ++ more)) instrs) (sym (made_one flat state site object one is there));
}

-- ---- one after the other

pub makes_none : (constructor : Name → List ℕ) (flat : FlatCode) (edit : Edit) (before : List Instr) → Makes flat constructor edit before [] edit before
makes_none constructor flat edit before = record { grows = grows_none edit; writes = λ more. sym (append-nil before) }

pub makes_both : (constructor : Name → List ℕ) (flat : FlatCode) (old middle new : Edit) (before between after : List Instr) (front back : List WInstr)
    → Makes flat constructor old before front middle between
    → Makes flat constructor middle between back new after
    → Continues middle new
    → Makes flat constructor old before (front ++ back) new after
makes_both constructor flat old middle new before between after front back one other so_far = record {
  grows =
      subst (λ (needs : List Need). Grows old needs new) (sym (flat_map-append (making_needs constructor) front back))
      (grows_both old middle new (all_making_needs constructor front) (all_making_needs constructor back) one.grows other.grows);
  writes = λ more.
      let pool = grown new ++ more in
      let kept = kept_instr flat constructor pool in
      let same : grown middle ++ (flat_map entries_of so_far.more ++ more) ≡ pool =
      sym (append_assoc (grown middle) (flat_map entries_of so_far.more) more) ∙ ap (λ (all : Constants). all ++ more) (sym (grown_more middle new so_far)) in
      other.writes more
      ∙ ap (λ (instrs : List Instr). instrs ++ map kept back)
      (one.writes (flat_map entries_of so_far.more ++ more) ∙ ap (λ (all : Constants). before ++ map (kept_instr flat constructor all) front) same)
      ∙ append_assoc before (map kept front) (map kept back)
      ∙ ap (λ (instrs : List Instr). before ++ instrs) (sym (map-append kept front back));
}

-- the code of the first so many sites, and of one more
pub sites_more : (of : ℕ → List WInstr) (order : List ℕ) (at site : ℕ) → slice_get order at ≡ Some site
    → flat_map of (take at order) ++ of site ≡ flat_map of (take (at + 1) order)
sites_more of order at site is =
    sym (ap (flat_map of) (take_item order at site is) ∙ flat_map-append of (take at order) (site ∷ []) ∙ ap (λ (instrs : List WInstr). flat_map of (take at order) ++ instrs) (append-nil (of site)))

pub sites_split : (of : ℕ → List WInstr) (order : List ℕ) (at site : ℕ) → slice_get order at ≡ Some site
    → (flat_map of (take at order) ++ of site) ++ flat_map of (drop (at + 1) order) ≡ flat_map of order
sites_split of order at site is =
    ap (λ (instrs : List WInstr). instrs ++ flat_map of (drop (at + 1) order)) (sites_more of order at site is)
    ∙ sym (flat_map-append of (take (at + 1) order) (drop (at + 1) order))
    ∙ ap (flat_map of) (take-append-drop (at + 1) order)

-- where one does not fit, neither do all
pub full_at : (constructor : Name → List ℕ) (flat : FlatCode) (of : ℕ → List WInstr) (order : List ℕ) (at site : ℕ) (old middle : Edit) (before between : List Instr) (reason : Reason)
    → slice_get order at ≡ Some site
    → Makes flat constructor old before (flat_map of (take at order)) middle between
    → IsFull middle (all_making_needs constructor (of site)) reason
    → IsFull old (all_making_needs constructor (flat_map of order)) reason
full_at constructor flat of order at site old middle before between reason is so_far full =
    let front = flat_map of (take at order) in
    let rest = flat_map of (drop (at + 1) order) in
    subst (λ (instrs : List WInstr). IsFull old (all_making_needs constructor instrs) reason) (sites_split of order at site is)
    (subst (λ (needs : List Need). IsFull old needs reason)
    (sym (flat_map-append (making_needs constructor) (front ++ of site) rest ∙ ap (λ (needs : List Need). needs ++ all_making_needs constructor rest) (flat_map-append (making_needs constructor) front (of site))))
    (full_first old (all_making_needs constructor front ++ all_making_needs constructor (of site)) (all_making_needs constructor rest) reason
    (full_then old middle (all_making_needs constructor front) (all_making_needs constructor (of site)) reason so_far.grows full)))
