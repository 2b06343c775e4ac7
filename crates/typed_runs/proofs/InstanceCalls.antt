use Rattle.std.specs.Prelude.{◌≡◌, ◌≢◌, ◌⊎◌, ◌+◌, refl, ℕ, Bool, true, false, List, [], ◌∷◌, length, take, reverse, if◌then◌else◌}
use Rattle.std.specs.List.{AllByRecursion}
use Rattle.std.proofs.Common.{inl, inr, ap, sym, ◌∙◌, subst}
use Rattle.class_model.specs.Descriptors.{parameters_of}
use Rattle.class_model.specs.Members.{STATIC}
use Rattle.class_model.specs.Names.{init}
use Rattle.class_model.specs.declared.frame.Frame.{Frame}
use Rattle.class_model.specs.declared.frame.VType.TheVariants as types
use Rattle.class_model.specs.declared.header.Member.{Member}
use Rattle.class_tree.specs.Headers.{Name}
use Rattle.class_tree.specs.Subtype.{itself}
use Rattle.machine_values.specs.Frames.{MethodState}
use Rattle.machine_values.specs.Values.{have_kinds}
use Rattle.machine_values.specs.declared.frame.RunFrame.{RunFrame}
use Rattle.machine_values.specs.declared.object.Shape.{Shape}
use Rattle.machine_values.specs.declared.value.Value.{Value}
use Rattle.machine_values.specs.declared.value.Value.TheVariants as values
use Rattle.member_link.specs.Assignability.{IsAssignable}
use Rattle.member_link.specs.DeclaredMembers.{Declared, IsMethod}
use Rattle.member_link.specs.Forms.{IsInstanceForm}
use Rattle.member_link.specs.Machine.CallSteps.{run_call, on_receiver, is_polymorphic, with_receiver, virtual_on, if_conforms, call_virtual_work, interface_on, call_interface_work}
use Rattle.member_link.specs.Machine.Completions.{Completion, raises}
use Rattle.member_link.specs.Machine.Links.{reference_to}
use Rattle.member_link.specs.Machine.Ops.{Op, call_virtual, call_interface}
use Rattle.member_link.specs.Machine.Programs.{Program, chosen, headers_in, method_of, has_flag}
use Rattle.member_link.specs.Machine.Shapes.{class_of_shape, is_external, is_instance}
use Rattle.member_link.specs.Machine.Stepping.{work_step, op_step}
use Rattle.member_link.specs.Machine.Throwables.{null_pointer, incompatible_change}
use Rattle.member_link.specs.Machine.Work.{arity, work}
use Rattle.member_link.specs.Machine.Worlds.{World}
use Rattle.member_link.specs.References.{Reference, IsNamedThere}
use Rattle.member_link.specs.RowScope.{RowScope}
use Rattle.member_link.specs.Rows.MemberRows.{argument_needs, instance_row}
use Rattle.member_link.specs.Rows.Operands.{assignable_to, topmost}
use Rattle.member_link.specs.Rows.Row.{Row}
use Rattle.member_link.specs.declared.selection.CallForm.{CallForm}
use Rattle.member_link.specs.declared.selection.CallForm.TheVariants.{Virtual, Interface}
use Rattle.typed_runs.proofs.Arguments.{AreArguments, arguments_kinds, BeginsWith, begins_instance}
use Rattle.typed_runs.proofs.ArgumentsHere.{stack_under, with_receiver_needs, Received, received, ObjectOf, shape_of, object_value}
use Rattle.typed_runs.proofs.Assigned.{assigned, all_in_heap}
use Rattle.typed_runs.proofs.Callees.{method_is}
use Rattle.typed_runs.proofs.Calling.{StaysAfter, Leaves, runs_goes, receiver_goes}
use Rattle.typed_runs.proofs.Here.{Here, operands_here, worked}
use Rattle.typed_runs.proofs.LookedUp.{LookUps, LookedUp, looked_up, linked_to, no_initialiser, same_desc}
use Rattle.typed_runs.proofs.HereMethods.{headers_here}
use Rattle.typed_runs.proofs.Performing.{raises_goes}
use Rattle.typed_runs.proofs.Raising.{raises_null, raises_change}
use Rattle.typed_runs.proofs.ReceiverTests.{shape_conforms_is}
use Rattle.typed_runs.proofs.ThisTypes.{this_conforms}
use Rattle.typed_runs.proofs.Selected.{selection}
use Rattle.typed_runs.specs.Conforming.{IsValueInHeap, ShapeConforms, by_class, to_below}
use Rattle.typed_runs.specs.TypedFrames.{FitsCall, ShowsEvent}
use Rattle.typed_runs.specs.TypedPrograms.{Typings, IsTypedProgram}
use Rattle.typed_runs.specs.TypedWorlds.{StaysTyped}

-- ---- the receiver

-- an object conforms to its own class
pub own_class : (P : Program) (T : Typings) → IsTypedProgram P T → (shape : Shape) → ShapeConforms P shape (class_of_shape P shape)
own_class P T program shape = by_class (to_below
    ((program.links.below (class_of_shape P shape) (class_of_shape P shape)).1 (itself (class_of_shape P shape))))

-- a method that is found is none that is static
pub of_object : (P : Program) (m : Declared) → IsMethod (headers_in P) m → IsInstanceForm m
    → has_flag (method_of P (reference_to m)) STATIC ≡ false
of_object P m declares form = ap (λ member. has_flag member STATIC) (method_is P m declares) ∙ form

module _ {P : Program} {T : Typings} {w : World} {f : MethodState} {rest : List RunFrame} {s : RowScope} {frame : Frame} {place : ℕ}
    {numbered : ℕ → ℕ} {row : Row} {op : Op} {falls : Bool} {places : List ℕ}
    (h : Here P T w f rest s frame place numbered row op falls places) (stack : List Value) where
  pub object_goes : {name : Name} (desc : List ℕ) (of_shape : Shape → Completion) (v : Value) (args : List Value)
      (o : ObjectOf P w.memory.heap name v) → have_kinds (parameters_of desc) args ≡ true
      → StaysAfter P T w f rest stack (of_shape o.object.shape)
      → StaysAfter P T w f rest stack (with_receiver P w.memory desc of_shape (v ∷ args))
  object_goes desc of_shape v args o kinds proved = rw o.is (rw kinds (rw o.is_there proved))

  -- null raises, and an object is looked at
  pub receiver_cases : {name : Name} (desc : List ℕ) (of_shape : Shape → Completion) (v : Value) (args : List Value)
      → (v ≡ values.Null) ⊎ ObjectOf P w.memory.heap name v → have_kinds (parameters_of desc) args ≡ true
      → ((o : ObjectOf P w.memory.heap name v) → StaysAfter P T w f rest stack (of_shape o.object.shape))
      → StaysAfter P T w f rest stack (with_receiver P w.memory desc of_shape (v ∷ args))
  receiver_cases desc of_shape v args (inl e) kinds proved =
      rw e (rw kinds (raises_goes h null_pointer stack (raises_null P T h.typed.program)))
  receiver_cases desc of_shape v args (inr o) kinds proved = object_goes desc of_shape v args o kinds (proved o)

  -- the method that a selection from a class chooses, to which the object conforms
  pub selected_goes : (laws : LookUps) (r : Reference) (l : LookedUp P IsInstanceForm r) {v : Value} (args : List Value)
      (o : ObjectOf P w.memory.heap r.class v) → Leaves P T w f frame row op stack (v ∷ args) → AreArguments P w.memory.heap r.desc args
      → r.name ≢ init → ((m : Member) → m.desc ≡ r.desc → FitsCall m op) → (start : Name) (form : CallForm)
      → ShapeConforms P o.object.shape start
      → StaysAfter P T w f rest stack (on_receiver P o.object.shape r (reference_to l.method)
      (P.links.select start (reference_to l.method) form) (v ∷ args))
  selected_goes laws r l {v = v} args o leaves are other call start form conforms =
      receiver_goes h stack (v ∷ args) leaves o.object.shape r (reference_to l.method)
      (P.links.select start (reference_to l.method) form) by where
        by : is_external o.object.shape ≡ false → is_polymorphic P r ≡ false → (x : Reference)
            → P.links.select start (reference_to l.method) form ≡ chosen x → StaysAfter P T w f rest stack (run_call P x (v ∷ args))
        by folder single x e =
            let desc : l.method.member.desc ≡ r.desc = same_desc h.typed.program laws l single in
            let plain : l.method.member.name ≢ init = no_initialiser h.typed.program laws l other in
            let c = selection P T h.typed.program start l.method form l.is.declares l.form plain x e in
            let has_desc : c.method.member.desc ≡ r.desc = c.is.same_desc ∙ desc in
            let begins : BeginsWith P w.memory.heap c.method (values.Ref o.reference ∷ args) =
            begins_instance P w.memory.heap c.method o.reference o.object.shape args c.is.of_object (λ n. plain (sym c.is.same_name ∙ n))
            (shape_of o)
            (this_conforms P T h.typed.program r.class start l.method c.method o.conforms l.is.above l.is.declares conforms c.is)
            (subst (λ d. AreArguments P w.memory.heap d args) (sym has_desc) are) in
            subst (λ y. StaysAfter P T w f rest stack (run_call P y (v ∷ args))) (sym c.reference)
            (runs_goes h stack (v ∷ args) leaves c.method (record {
              declares = c.is.declares;
              no_clinit = λ n. l.no_clinit (sym c.is.same_name ∙ n);
              call = call c.method.member has_desc;
              begins = subst (λ x. BeginsWith P w.memory.heap c.method (x ∷ args)) (sym o.is) begins;
            }))

  -- the object passes the test of the named class
  pub conforming_goes : (r : Reference) (of_shape : Shape → Completion) {v : Value} (o : ObjectOf P w.memory.heap r.class v)
      → IsNamedThere (headers_in P) r.class → StaysAfter P T w f rest stack (of_shape o.object.shape)
      → StaysAfter P T w f rest stack (if_conforms P r of_shape o.object.shape)
  conforming_goes r of_shape o there proved =
      rw (shape_conforms_is P T h.typed.program w.memory.heap o.object.shape o.object.values r.class
      (h.typed.memory.objects o.reference o.object o.is_there) there o.conforms) proved

-- ---- calls of a method of the named class or interface

-- what such a call takes, and what it leaves
pub record CallOperands (P : Program) (T : Typings) (w : World) (f : MethodState) (s : RowScope) (frame : Frame) (op : Op) (r : Reference)
    (Further : Type 0) : Type 0 where
  pub taken : Received P (T f.at).scope w.memory.heap s (assignable_to (types.Object r.class)) r.desc
      (topmost (length (assignable_to (types.Object r.class) ∷ argument_needs r.desc)) frame.stack)
      (reverse (take (length (assignable_to (types.Object r.class) ∷ argument_needs r.desc)) f.stack))
  pub object : (taken.receiver ≡ values.Null) ⊎ ObjectOf P w.memory.heap r.class taken.receiver
  pub kinds : have_kinds (parameters_of r.desc) taken.args ≡ true
  pub leaves : ShowsEvent op → Leaves P T w f frame (instance_row frame r Further (Unit {0})) op
      (stack_under (assignable_to (types.Object r.class)) r f) (taken.receiver ∷ taken.args)

module _ {P : Program} {T : Typings} {w : World} {f : MethodState} {rest : List RunFrame} {s : RowScope} {frame : Frame} {place : ℕ}
    {numbered : ℕ → ℕ} {op : Op} where
  pub call_operands : (r : Reference) (Further : Type 0)
      → Here P T w f rest s frame place numbered (instance_row frame r Further (Unit {0})) op true []
      → CallOperands P T w f s frame op r Further
  call_operands r Further h =
      let o = operands_here h in
      let taken = received P T h.typed.program s (headers_here h) (assignable_to (types.Object r.class)) r.desc
      (topmost (length (assignable_to (types.Object r.class) ∷ argument_needs r.desc)) frame.stack) h.holds.operands o.values in
      record {
        taken = taken;
        object = object_value (assigned P T h.typed.program
            (subst (λ hs. IsAssignable hs taken.type (types.Object r.class)) (headers_here h) taken.fits) taken.conforms);
        kinds = arguments_kinds (parameters_of r.desc) (taken.arguments s);
        leaves = λ shows. record {
          locals = h.locals;
          under = o.rest;
          shows = shows;
          in_heap =
              subst (λ vs. AllByRecursion (IsValueInHeap w.memory.heap) vs) taken.are (all_in_heap o.values);
        };
      }

  -- the work of a call on its receiver and arguments
  pub call_worked : (r : Reference) (Further : Type 0)
      → Here P T w f rest s frame place numbered (instance_row frame r Further (Unit {0})) op true []
      → (c : CallOperands P T w f s frame op r Further)
      → arity op ≡ length (parameters_of r.desc) + 1
      → StaysAfter P T w f rest (stack_under (assignable_to (types.Object r.class)) r f)
      (work P w.memory op (c.taken.receiver ∷ c.taken.args))
      → StaysTyped P T w (work_step P w f rest op)
  call_worked r Further h c many proved =
      worked h (length (assignable_to (types.Object r.class) ∷ argument_needs r.desc))
      (many ∙ with_receiver_needs (assignable_to (types.Object r.class)) r.desc) (operands_here h).enough
      (subst (λ vs. StaysAfter P T w f rest (stack_under (assignable_to (types.Object r.class)) r f) (work P w.memory op vs))
      (sym c.taken.are) proved)

module _ {P : Program} {T : Typings} {w : World} {f : MethodState} {rest : List RunFrame} {s : RowScope} {frame : Frame} {place : ℕ}
    {numbered : ℕ → ℕ} (laws : LookUps) where
  pub virtual_stays : (r : Reference) → IsNamedThere (headers_in P) r.class
      → Here P T w f rest s frame place numbered (instance_row frame r (Unit {0}) (Unit {0})) (call_virtual r) true []
      → StaysTyped P T w (op_step P w f rest (call_virtual r))
  virtual_stays r there h =
      let l = looked_up P T h.typed.program laws IsInstanceForm r h.linked.0 in
      let c = call_operands r (Unit {0}) h in
      let stack : List Value = stack_under (assignable_to (types.Object r.class)) r f in
      let vs : List Value = c.taken.receiver ∷ c.taken.args in
      call_worked r (Unit {0}) h c refl
      (subst (λ found. StaysAfter P T w f rest (stack_under (assignable_to (types.Object r.class)) r f)
      (call_virtual_work P w.memory r found (c.taken.receiver ∷ c.taken.args)))
      (sym (linked_to h.typed.program laws l h.linked.1))
      (rw (of_object P l.method l.is.declares l.form)
      (receiver_cases h stack r.desc (if_conforms P r
      (virtual_on P r (reference_to l.method) vs)) c.taken.receiver c.taken.args c.object c.kinds
      (λ o. conforming_goes h stack r (virtual_on P r (reference_to l.method) vs) o there
      (selected_goes h stack laws r l c.taken.args o (c.leaves refl) c.taken.arguments h.linked.1 (λ m is. is)
      (class_of_shape P o.object.shape) Virtual (own_class P T h.typed.program o.object.shape))))))

  pub interface_stays : (r : Reference) → Here P T w f rest s frame place numbered (instance_row frame r (Unit {0}) (Unit {0}))
      (call_interface r) true [] → StaysTyped P T w (op_step P w f rest (call_interface r))
  interface_stays r h =
      let l = looked_up P T h.typed.program laws IsInstanceForm r h.linked.0 in
      let c = call_operands r (Unit {0}) h in
      let stack : List Value = stack_under (assignable_to (types.Object r.class)) r f in
      let vs : List Value = c.taken.receiver ∷ c.taken.args in
      call_worked r (Unit {0}) h c refl
      (subst (λ found. StaysAfter P T w f rest (stack_under (assignable_to (types.Object r.class)) r f)
      (call_interface_work P w.memory r found (c.taken.receiver ∷ c.taken.args)))
      (sym (linked_to h.typed.program laws l h.linked.1))
      (rw (of_object P l.method l.is.declares l.form)
      (receiver_cases h stack r.desc (interface_on P r (reference_to l.method) vs) c.taken.receiver c.taken.args c.object c.kinds
      (λ o. by stack vs (is_instance P o.object.shape r.class)
      (on_receiver P o.object.shape r (reference_to l.method)
      (P.links.select (class_of_shape P o.object.shape) (reference_to l.method) Interface) vs)
      (selected_goes h stack laws r l c.taken.args o (c.leaves refl) c.taken.arguments h.linked.1 (λ m is. is)
      (class_of_shape P o.object.shape) Interface (own_class P T h.typed.program o.object.shape)))))) where
        by : (stack vs : List Value) (b : Bool) (goes : Completion) → StaysAfter P T w f rest stack goes
            → StaysAfter P T w f rest stack (if b then goes else raises incompatible_change)
        by stack vs true goes proved = proved
        by stack vs false goes proved = raises_goes h incompatible_change stack (raises_change P T h.typed.program)
