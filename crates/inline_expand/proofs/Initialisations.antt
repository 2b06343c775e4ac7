-- Calls of instance initialisers, as they are found.
use Rattle.std.proofs.Common.{◌≡◌, ◌≢◌, ◌⊎◌, ℕ, List, Option, Some, None, IsTrue, refl, sym, ap, subst, ◌∙◌, inl, inr}
use Rattle.std.proofs.lemmas.Bool.{cases_eq}
use Rattle.std.proofs.lemmas.Option.{none-some, same_Some}
use Rattle.class_model.specs.Names.{init}
use Rattle.class_model.specs.declared.frame.Frame.{Frame}
use Rattle.class_model.specs.declared.frame.VType.{VType}
use Rattle.class_model.specs.declared.frame.VType.TheVariants.{Uninit, UninitThis}
use Rattle.class_model.specs.declared.opcodes.TheConstants.{INVOKESPECIAL}
use Rattle.class_tree.specs.Laws.Decided.{same_bytes}
use Rattle.expanded_code.specs.Callees.{InitialisesAt, IsCall, frame_before}
use Rattle.inline_expand.proofs.CalledMethods.{call_stands, read_call}
use Rattle.inline_expand.specs.Inner.Calls.{Called, call_at, called_as}
use Rattle.inline_expand.specs.Inner.Initialised.{Initialises, IsInitialisation, IsOtherOnThis, object_of, type_of_object, type_or_top}
use Rattle.inline_expand.specs.Inner.Ready.{CallsOnThis}
use Rattle.inline_expand.specs.declared.initialised.Initialisation.{Initialisation}
use Rattle.inline_expand.specs.declared.initialised.Object.{Object}
use Rattle.inline_expand.specs.declared.initialised.Object.TheVariants.{New, This}
use Rattle.member_link.specs.References.{Reference}
use Rattle.member_link.specs.Rows.MemberRows.{receiver}
use Rattle.member_link.specs.Scope.{Scope, is_init}

-- ---- types of objects

pub object_has_type : (type : VType) (object : Object) → object_of (Some type) ≡ Some object → type ≡ type_of_object object
object_has_type (Uninit at) object is = ap type_of_object (same_Some (New at) object is)
object_has_type UninitThis object is = ap type_of_object (same_Some This object is)
object_has_type other object is = absurd (none-some object is)

pub type_has_object : (object : Object) → object_of (Some (type_of_object object)) ≡ Some object
type_has_object (New at) = refl
type_has_object This = refl

pub top_is_none : (type : Option VType) → object_of type ≡ object_of (Some (type_or_top type))
top_is_none None = refl
top_is_none (Some type) = refl

module _ (s : Scope) (frames : List Frame) (at : ℕ) where
  -- ---- one call is one initialisation

  is_read : {object : VType} {reference : Reference} (call : Called) → call_at s at ≡ Some call → InitialisesAt s frames at object reference → called_as INVOKESPECIAL reference ≡ call
  is_read {object} {reference} call read is = same_Some (called_as INVOKESPECIAL reference) call (sym (read_call s at is.is_call) ∙ read)

  pub one_reference : (object type : VType) (reference other : Reference) → InitialisesAt s frames at object reference → InitialisesAt s frames at type other → reference ≡ other
  one_reference object type reference other is also =
      ap (λ (c : Called). c.reference) (is_read (called_as INVOKESPECIAL other) (read_call s at also.is_call) is)

  pub one_object : (object type : VType) (reference other : Reference) → InitialisesAt s frames at object reference → InitialisesAt s frames at type other → object ≡ type
  one_object object type reference other is also =
      let same : reference ≡ other = one_reference object type reference other is also in
      let frame : is.frame ≡ also.frame = same_Some is.frame also.frame (sym is.before ∙ also.before) in
      sym is.on ∙ ap (λ (f : Frame). receiver f reference.desc) frame ∙ ap (λ (r : Reference). receiver also.frame r.desc) same ∙ also.on

  -- ---- where there is none

  pub without_call : call_at s at ≡ None → IsInitialisation s frames at None
  without_call none = λ object reference is. none-some (called_as INVOKESPECIAL reference) (sym none ∙ read_call s at is.is_call)

  module _ (call : Called) (read : call_at s at ≡ Some call) where
    pub without_opcode : call.opcode ≢ INVOKESPECIAL → IsInitialisation s frames at None
    without_opcode other = λ object reference is. other (sym (ap (λ (c : Called). c.opcode) (is_read call read is)))

    pub without_name : call.reference.name ≢ init → IsInitialisation s frames at None
    without_name other = λ object reference is. other (sym (ap (λ (c : Called). c.reference.name) (is_read call read is)) ∙ is.of_init)

    pub without_frame : frame_before s frames at ≡ None → IsInitialisation s frames at None
    without_frame none = λ object reference is. none-some is.frame (sym none ∙ is.before)

    pub without_object : (frame : Frame) → frame_before s frames at ≡ Some frame → object_of (Some (receiver frame call.reference.desc)) ≡ None → IsInitialisation s frames at None
    without_object frame before none = λ object reference is.
        let same : is.frame ≡ frame = same_Some is.frame frame (sym is.before ∙ before) in
        let desc : reference.desc ≡ call.reference.desc = ap (λ (c : Called). c.reference.desc) (is_read call read is) in
        let on : receiver frame call.reference.desc ≡ type_of_object object = sym (ap (λ (f : Frame). receiver f call.reference.desc) same) ∙ sym (ap (receiver is.frame) desc) ∙ is.on in
        none-some object (sym none ∙ ap (λ (t : VType). object_of (Some t)) on ∙ type_has_object object)

    -- ---- where there is one

    pub with_object : (frame : Frame) (object : Object) → call.opcode ≡ INVOKESPECIAL → call.reference.name ≡ init → frame_before s frames at ≡ Some frame → object_of (Some (receiver frame call.reference.desc)) ≡ Some object
        → InitialisesAt s frames at (type_of_object object) call.reference
    with_object frame object is_special is_init before is = record {
      is_call = subst (λ (opcode : ℕ). IsCall s at opcode call.reference) is_special (call_stands s at call read);
      of_init = is_init;
      frame = frame;
      before = before;
      on = object_has_type (receiver frame call.reference.desc) object is;
    }

  -- ---- there is one, or none

  pub record Found : Type 0 where
    pub object : Object
    pub reference : Reference
    pub is : InitialisesAt s frames at (type_of_object object) reference

  of_object : (call : Called) → call_at s at ≡ Some call → call.opcode ≡ INVOKESPECIAL → call.reference.name ≡ init → (frame : Frame) → frame_before s frames at ≡ Some frame
      → (object : Option Object) → object_of (Some (receiver frame call.reference.desc)) ≡ object → Found ⊎ IsInitialisation s frames at None
  of_object call read special named frame before None is = inr (without_object call read frame before is)
  of_object call read special named frame before (Some object) is = inl (record { object = object; reference = call.reference; is = with_object call read frame object special named before is })

  of_frame : (call : Called) → call_at s at ≡ Some call → call.opcode ≡ INVOKESPECIAL → call.reference.name ≡ init → (frame : Option Frame) → frame_before s frames at ≡ frame
      → Found ⊎ IsInitialisation s frames at None
  of_frame call read special named None before = inr (without_frame call read before)
  of_frame call read special named (Some frame) before = of_object call read special named frame before (object_of (Some (receiver frame call.reference.desc))) refl

  of_call : (call : Option Called) → call_at s at ≡ call → Found ⊎ IsInitialisation s frames at None
  of_call None read = inr (without_call read)
  of_call (Some call) read = by (cases_eq call.opcode INVOKESPECIAL) (same_bytes call.reference.name init) where
    by : (call.opcode ≡ INVOKESPECIAL) ⊎ (call.opcode ≢ INVOKESPECIAL) → (call.reference.name ≡ init) ⊎ (call.reference.name ≢ init) → Found ⊎ IsInitialisation s frames at None
    by (inr other) named = inr (without_opcode call read other)
    by (inl special) (inr other) = inr (without_name call read other)
    by (inl special) (inl named) = of_frame call read special named (frame_before s frames at) refl

  pub found_or_not : Found ⊎ IsInitialisation s frames at None
  found_or_not = of_call (call_at s at) refl

pub new_is_not_this : (new : ℕ) → ¬ (Uninit new ≡ UninitThis)
new_is_not_this new e = absurd cc

-- ---- calls on the method's own object

this_of_type : (found : Object) → type_of_object found ≡ UninitThis → found ≡ This
this_of_type This e = refl
this_of_type (New at) e = absurd (new_is_not_this at e)

module _ (s : Scope) (frames : List Frame) (at : ℕ) (call : Initialisation) (is : Initialises s frames at call) where
  pub is_on_this : IsTrue (is_init s) → IsOtherOnThis call → CallsOnThis s frames at
  is_on_this own on = record {
    own = own;
    reference = is.reference;
    is = subst (λ (o : Object). InitialisesAt s frames at (type_of_object o) is.reference) on.0 is.is;
    other = λ e. on.1 (sym is.class ∙ e);
  }

  pub on_this_is : CallsOnThis s frames at → IsOtherOnThis call
  on_this_is on =
      let type = one_object s frames at (type_of_object call.object) UninitThis is.reference on.reference is.is on.is in
      let reference = one_reference s frames at (type_of_object call.object) UninitThis is.reference on.reference is.is on.is in
      (this_of_type call.object type, λ e. on.other (sym (ap (λ (r : Reference). r.class) reference) ∙ is.class ∙ e))
