use Rattle.std.specs.Prelude.{◌≡◌, ◌≢◌, ◌⊎◌, ◌&&◌, ◌+◌, not, refl, ℕ, Bool, true, false, List, [], ◌∷◌, length, bytes_eq, Option, Some, None}
use Rattle.std.proofs.Common.{inl, inr, ap, sym, ◌∙◌, subst}
use Rattle.std.proofs.lemmas.Slice.Eq.{bytes_eq-Decides}
use Rattle.class_model.specs.Descriptors.{parameters_of}
use Rattle.class_model.specs.Names.{init}
use Rattle.class_model.specs.declared.frame.Frame.{Frame}
use Rattle.class_model.specs.declared.frame.VType.{VType}
use Rattle.class_model.specs.declared.frame.VType.TheVariants as types
use Rattle.class_model.specs.declared.header.Header.{Header}
use Rattle.class_tree.specs.Headers.{Name, class_named}
use Rattle.class_tree.specs.Names.{object, is_interface}
use Rattle.class_tree.specs.Subtype.{superclass, directly}
use Rattle.machine_values.specs.Frames.{MethodState}
use Rattle.machine_values.specs.Heaps.{Heap, object_at}
use Rattle.machine_values.specs.declared.frame.RunFrame.{RunFrame}
use Rattle.machine_values.specs.declared.object.Object.{Object}
use Rattle.machine_values.specs.declared.value.Value.{Value}
use Rattle.machine_values.specs.declared.value.Value.TheVariants as values
use Rattle.member_link.specs.Assignability.{IsAssignable, to_class_above}
use Rattle.member_link.specs.Forms.{IsInstanceForm}
use Rattle.member_link.specs.Machine.CallSteps.{on_receiver, if_conforms, is_object_init, found_special, special_choice, special_on, call_found_special}
use Rattle.member_link.specs.Machine.Codes.{special_start}
use Rattle.member_link.specs.Machine.Links.{reference_to}
use Rattle.member_link.specs.Machine.Ops.{call_special}
use Rattle.member_link.specs.Machine.Programs.{Program, Links, headers_in}
use Rattle.member_link.specs.Machine.Stepping.{op_step}
use Rattle.member_link.specs.Machine.Worlds.{World}
use Rattle.member_link.specs.References.{Reference, IsNamedThere}
use Rattle.member_link.specs.RowScope.{RowScope}
use Rattle.member_link.specs.Rows.MemberRows.{argument_needs, receiver, special_row}
use Rattle.member_link.specs.Rows.Operands.{Need, assignable_to, topmost}
use Rattle.member_link.specs.Rows.Row.{access_aside}
use Rattle.member_link.specs.declared.selection.CallForm.TheVariants.{Special}
use Rattle.typed_runs.proofs.ArgumentsHere.{stack_under, with_receiver_needs, ObjectOf, object_value}
use Rattle.typed_runs.proofs.Assigned.{assigned, shape_assigned}
use Rattle.typed_runs.proofs.Basics.{some_of, and_false}
use Rattle.typed_runs.proofs.Calling.{StaysAfter}
use Rattle.typed_runs.proofs.Here.{Here}
use Rattle.typed_runs.proofs.InstanceCalls.{of_object, receiver_cases, selected_goes, conforming_goes, call_operands, call_worked}
use Rattle.typed_runs.proofs.LookedUp.{LookUps, looked_up, linked_to, no_initialiser}
use Rattle.typed_runs.proofs.HereMethods.{headers_here}
use Rattle.typed_runs.proofs.Stacks.{lowest_is}
use Rattle.typed_runs.specs.Conforming.{ShapeConforms}
use Rattle.typed_runs.specs.TypedPrograms.{Typings, IsTypedProgram}
use Rattle.typed_runs.specs.TypedWorlds.{StaysTyped}

-- ---- where the selection starts

abbrev pub start_super : Name → Option Name → Name
start_super named None = named
start_super named (Some name) = name

abbrev pub start_by : Name → Option Name → Bool → Name
start_by named super true = start_super named super
start_by named super false = named

-- at the named class, or at the superclass of the current one
pub starts_at : (links : Links) (s : RowScope) (named : Name)
    → (special_start links s named ≡ named) ⊎ (s.own.super_name ≡ Some (special_start links s named))
starts_at links s named = by (class_named s.headers named) refl where
  of_super : (o : Option Name) → s.own.super_name ≡ o
      → (start_by named s.own.super_name true ≡ named) ⊎ (s.own.super_name ≡ Some (start_by named s.own.super_name true))
  of_super None e = inl (rw e refl)
  of_super (Some name) e = inr (e ∙ ap (λ o. Some (start_by named o true)) (sym e))

  of_class : (b : Bool) → (start_by named s.own.super_name b ≡ named) ⊎ (s.own.super_name ≡ Some (start_by named s.own.super_name b))
  of_class false = inl refl
  of_class true = of_super s.own.super_name refl

  by : (o : Option Header) → class_named s.headers named ≡ o
      → (special_start links s named ≡ named) ⊎ (s.own.super_name ≡ Some (special_start links s named))
  by None e = inl (rw e refl)
  by (Some header) e = rw e (of_class (not (is_interface header) && (links.below s.own.name named && not (bytes_eq s.own.name named))))

-- an object conforms to the class where the selection starts, if it conforms to the named class and to the current one
pub conforms_to_start : (P : Program) (T : Typings) → IsTypedProgram P T → (s : RowScope) (named : Name) (o : Object)
    → class_named (headers_in P) s.own.name ≡ Some s.own → ShapeConforms P o.shape named → ShapeConforms P o.shape s.own.name
    → ShapeConforms P o.shape (special_start P.links s named)
conforms_to_start P T program s named o own c d = by (starts_at P.links s named) where
  by : (special_start P.links s named ≡ named) ⊎ (s.own.super_name ≡ Some (special_start P.links s named))
      → ShapeConforms P o.shape (special_start P.links s named)
  by (inl e) = subst (λ n. ShapeConforms P o.shape n) (sym e) c
  by (inr e) = shape_assigned P T program s.own.name (special_start P.links s named)
      (to_class_above s.own.name (special_start P.links s named) (directly s.own.name _ (superclass s.own.name _ s.own own e))) d

-- ---- the receiver

-- two types of one object
pub both_types : {P : Program} {h : Heap} {one other : Name} {v : Value} (o : ObjectOf P h one v)
    → (v ≡ values.Null) ⊎ ObjectOf P h other v → ShapeConforms P o.object.shape other
both_types o (inl e) = let no : values.Ref o.reference ≡ values.Null = sym o.is ∙ e in cc
both_types {P = P} {h = h} {other = other} o (inr p) =
    let r : p.reference ≡ o.reference = reference_of (sym p.is ∙ o.is) in
    let same : p.object ≡ o.object = some_of (sym p.is_there ∙ subst (λ n. object_at h n ≡ Some o.object) (sym r) o.is_there) in
    subst (λ (x : Object). ShapeConforms P x.shape other) same p.conforms where
      reference_of : values.Ref p.reference ≡ values.Ref o.reference → p.reference ≡ o.reference
      reference_of e = cc

-- the lowest operand is the receiver
pub lowest_receiver : (need : Need) (frame : Frame) (desc : List ℕ) (t : VType) (ts : List VType)
    → topmost (length (need ∷ argument_needs desc)) frame.stack ≡ t ∷ ts → receiver frame desc ≡ t
lowest_receiver need frame desc t ts is = lowest_is (length (parameters_of desc) + 1) frame.stack t ts
    (subst (λ n. topmost n frame.stack ≡ t ∷ ts) (sym (with_receiver_needs need desc)) is)

pub not_named_init : (name : List ℕ) → name ≢ init → bytes_eq name init ≡ false
not_named_init name other = by (bytes_eq name init) refl where
  by : (b : Bool) → bytes_eq name init ≡ b → bytes_eq name init ≡ false
  by true e = absurd (other ((bytes_eq-Decides name init).0 e))
  by false e = e

module _ {P : Program} {T : Typings} {w : World} {f : MethodState} {rest : List RunFrame} {s : RowScope} {frame : Frame} {place : ℕ}
    {numbered : ℕ → ℕ} (laws : LookUps) where
  pub special_stays : (r : Reference) → r.name ≢ init → IsNamedThere (headers_in P) r.class
      → class_named (headers_in P) s.own.name ≡ Some s.own
      → Here P T w f rest s frame place numbered (access_aside (special_row s frame r))
      (call_special r (special_start P.links s r.class)) true []
      → StaysTyped P T w (op_step P w f rest (call_special r (special_start P.links s r.class)))
  special_stays r other there own h =
      let l = looked_up P T h.typed.program laws IsInstanceForm r h.linked in
      let c = call_operands r _ h in
      let from : Name = special_start P.links s r.class in
      let stack : List Value = stack_under (assignable_to (types.Object r.class)) r f in
      let vs : List Value = c.taken.receiver ∷ c.taken.args in
      let found : found_special P r ≡ Some (reference_to l.method) =
      rw (not_named_init r.name other) (linked_to h.typed.program laws l other) in
      let plain : bytes_eq l.method.member.name init ≡ false =
      not_named_init l.method.member.name (no_initialiser h.typed.program laws l other) in
      let not_object : is_object_init (reference_to l.method) ≡ false =
      and_false (bytes_eq l.method.class object) (bytes_eq l.method.member.name init) plain in
      let choice : special_choice P (special_start P.links s r.class) (reference_to l.method) ≡ P.links.select
      (special_start P.links s r.class) (reference_to l.method) Special = rw plain refl in
      let low : receiver frame r.desc ≡ c.taken.type =
      lowest_receiver (assignable_to (types.Object r.class)) frame r.desc c.taken.type c.taken.others c.taken.are_types in
      let current : IsAssignable (headers_in P) c.taken.type (types.Object s.own.name) =
      subst (λ hs. IsAssignable hs c.taken.type (types.Object s.own.name)) (headers_here h)
      (subst (λ t. IsAssignable s.headers t (types.Object s.own.name)) low h.holds.further.1) in
      let of_current = object_value (assigned P T h.typed.program current c.taken.conforms) in
      call_worked r _ h c refl
      (subst (λ o. StaysAfter P T w f rest (stack_under (assignable_to (types.Object r.class)) r f)
      (call_found_special P w.memory r (special_start P.links s r.class) o (c.taken.receiver ∷ c.taken.args)))
      (sym found)
      (rw (of_object P l.method l.is.declares l.form)
      (receiver_cases h stack r.desc (if_conforms P r
      (special_on P w.memory r from (reference_to l.method) vs)) c.taken.receiver c.taken.args c.object c.kinds
      (λ o. conforming_goes h stack r (special_on P w.memory r from (reference_to l.method) vs) o there
      (rw not_object
      (subst (λ x. StaysAfter P T w f rest (stack_under (assignable_to (types.Object r.class)) r f)
      (on_receiver P o.object.shape r (reference_to l.method) x (c.taken.receiver ∷ c.taken.args))) (sym choice)
      (selected_goes h stack laws r l c.taken.args o (c.leaves refl) c.taken.arguments other (λ m is. is) from Special
      (conforms_to_start P T h.typed.program s r.class o.object own o.conforms (both_types o of_current)))))))))
