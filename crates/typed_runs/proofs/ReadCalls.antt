-- A call of java/lang/Object.<init> on a reference that counts as initialised.
use Rattle.std.specs.Prelude.{◌≡◌, ◌⊎◌, refl, ℕ, true, false, List, [], ◌∷◌, length}
use Rattle.std.proofs.Common.{inl, inr, ap, sym, ◌∙◌, subst}
use Rattle.class_model.specs.Descriptors.{parameters_of}
use Rattle.class_model.specs.Members.{STATIC}
use Rattle.class_model.specs.Names.{init}
use Rattle.class_model.specs.declared.frame.Frame.{Frame}
use Rattle.class_model.specs.declared.frame.VType.{VType}
use Rattle.class_tree.specs.Headers.{Name}
use Rattle.class_tree.specs.Names.{object}
use Rattle.machine_values.specs.Frames.{MethodState}
use Rattle.machine_values.specs.Heaps.{Heap}
use Rattle.machine_values.specs.declared.frame.RunFrame.{RunFrame}
use Rattle.machine_values.specs.declared.value.Value.{Value}
use Rattle.machine_values.specs.declared.value.Value.TheVariants as values
use Rattle.member_link.specs.Forms.{IsInstanceForm}
use Rattle.member_link.specs.Machine.CallSteps.{if_conforms, is_object_init, special_on, call_found_special, call_special_work}
use Rattle.member_link.specs.Machine.Ops.{call_special}
use Rattle.member_link.specs.Machine.Programs.{Program, headers_in, method_of, has_flag}
use Rattle.member_link.specs.Machine.Stepping.{op_step}
use Rattle.member_link.specs.Machine.Worlds.{World}
use Rattle.member_link.specs.References.{Reference, IsNamedThere}
use Rattle.member_link.specs.RowScope.{RowScope}
use Rattle.member_link.specs.Rows.MemberRows.{argument_needs, receiver}
use Rattle.member_link.specs.Rows.Operands.{IsInitialised, single, topmost}
use Rattle.member_link.specs.Rows.Row.{plain}
use Rattle.typed_runs.proofs.Arguments.{arguments_kinds}
use Rattle.typed_runs.proofs.ArgumentsHere.{stack_under, with_receiver_needs, received, ObjectOf}
use Rattle.typed_runs.proofs.Calling.{StaysAfter}
use Rattle.typed_runs.proofs.Here.{Here, operands_here, worked, gives_same}
use Rattle.typed_runs.proofs.HereMethods.{headers_here}
use Rattle.typed_runs.proofs.InitialiserCalls.{found_itself, own_initialiser}
use Rattle.typed_runs.proofs.InstanceCalls.{receiver_cases, conforming_goes}
use Rattle.typed_runs.proofs.LookedUp.{LookUps, looked_up}
use Rattle.typed_runs.proofs.ReadOps.{object_init_class, object_init_name}
use Rattle.typed_runs.proofs.SpecialCalls.{lowest_receiver}
use Rattle.typed_runs.specs.Conforming.{Conforms, to_top, an_int, a_long, a_float, a_double, only_null, null_object, an_object, of_new, of_this, by_class, no_values, to_object}
use Rattle.typed_runs.specs.TypedPrograms.{Typings}
use Rattle.typed_runs.specs.TypedWorlds.{StaysTyped}

-- null, or an object
pub initialised_value : {P : Program} {s : RowScope} {h : Heap} {type : VType} {v : Value} → Conforms P s h type v → IsInitialised type
    → (v ≡ values.Null) ⊎ ObjectOf P h object v
initialised_value only_null is = inl refl
initialised_value null_object is = inl refl
initialised_value (an_object {reference = r} has c) is =
    inr (record { reference = r; is = refl; object = has.object; is_there = has.is_there; conforms = by_class to_object })
initialised_value (to_top x) is = absurd is
initialised_value an_int is = absurd is
initialised_value a_long is = absurd is
initialised_value a_float is = absurd is
initialised_value a_double is = absurd is
initialised_value (of_new new has class) is = absurd is
initialised_value (of_this has up) is = absurd is

module _ {P : Program} {T : Typings} {w : World} {f : MethodState} {rest : List RunFrame} {s : RowScope} {frame : Frame} {place : ℕ}
    {numbered : ℕ → ℕ} (laws : LookUps) where
  -- null raises, and on an object nothing is done
  pub object_init_stays : (r : Reference) (from : Name) → is_object_init r ≡ true → IsInitialised (receiver frame r.desc)
      → IsNamedThere (headers_in P) r.class
      → Here P T w f rest s frame place numbered (plain frame (single ∷ argument_needs r.desc) []) (call_special r from) true []
      → StaysTyped P T w (op_step P w f rest (call_special r from))
  object_init_stays r from nothing initialised there h =
      let named : r.name ≡ init = object_init_name r nothing in
      let l = looked_up P T h.typed.program laws IsInstanceForm r h.linked in
      let own = own_initialiser P T h.typed.program laws r named l in
      let o = operands_here h in
      let c = received P T h.typed.program s (headers_here h) single r.desc
      (topmost (length (single ∷ argument_needs r.desc)) frame.stack) h.holds.operands o.values in
      let low : receiver frame r.desc ≡ c.type = lowest_receiver single frame r.desc c.type c.others c.are_types in
      let receives : (c.receiver ≡ values.Null) ⊎ ObjectOf P w.memory.heap r.class c.receiver =
      subst (λ (n : Name). (c.receiver ≡ values.Null) ⊎ ObjectOf P w.memory.heap n c.receiver) (sym (object_init_class r nothing))
      (initialised_value c.conforms (subst IsInitialised low initialised)) in
      let static : has_flag (method_of P r) STATIC ≡ false = ap (λ m. has_flag m STATIC) own.method ∙ l.form in
      let stack : List Value = stack_under single r f in
      worked h (length (single ∷ argument_needs r.desc)) (with_receiver_needs single r.desc) o.enough
      (subst (λ vs. StaysAfter P T w f rest (stack_under single r f) (call_special_work P w.memory r from vs)) (sym c.are)
      (subst (λ found. StaysAfter P T w f rest (stack_under single r f)
      (call_found_special P w.memory r from found (c.receiver ∷ c.args))) (sym (found_itself P r l.method named own.method))
      (rw static
      (receiver_cases h stack r.desc (if_conforms P r (special_on P w.memory r from r (c.receiver ∷ c.args))) c.receiver c.args receives
      (arguments_kinds (parameters_of r.desc) (c.arguments s))
      (λ seen. conforming_goes h stack r (special_on P w.memory r from r (c.receiver ∷ c.args)) seen there
      (rw nothing (gives_same h [] no_values)))))))
