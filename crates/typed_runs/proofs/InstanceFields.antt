use Rattle.std.specs.Prelude.{◌≡◌, ◌⊎◌, ◌-◌, refl, ℕ, zero, suc, Bool, true, false, List, [], ◌∷◌, length, take, drop, reverse, Option, Some, None}
use Rattle.std.proofs.Common.{arith, inl, inr, ap, sym, ◌∙◌, subst}
use Rattle.class_model.specs.Descriptors.{type_of}
use Rattle.class_model.specs.declared.frame.Frame.{Frame}
use Rattle.class_model.specs.declared.frame.VType.{VType}
use Rattle.class_model.specs.declared.frame.VType.TheVariants as types
use Rattle.class_tree.specs.Headers.{Name}
use Rattle.machine_values.specs.Frames.{MethodState}
use Rattle.machine_values.specs.Heaps.{Heap}
use Rattle.machine_values.specs.Values.{narrowed}
use Rattle.machine_values.specs.declared.frame.RunFrame.{RunFrame}
use Rattle.machine_values.specs.declared.object.Shape.{Shape}
use Rattle.machine_values.specs.declared.value.Value.{Value}
use Rattle.machine_values.specs.declared.value.Value.TheVariants as values
use Rattle.member_link.specs.Assignability.{IsAssignable}
use Rattle.member_link.specs.Machine.Completions.{asks_get, asks_put}
use Rattle.member_link.specs.Machine.FieldSteps.{is_barred, get_from, put_into, put_field_in, put_field_tested, get_field_work, put_field_work}
use Rattle.member_link.specs.Machine.Ops.{get_field, put_field}
use Rattle.member_link.specs.Machine.Programs.{Program, folder_number, name_of_class}
use Rattle.member_link.specs.Machine.Shapes.{reference_conforms}
use Rattle.member_link.specs.Machine.Stepping.{op_step}
use Rattle.member_link.specs.Machine.Throwables.{illegal_access, null_pointer}
use Rattle.member_link.specs.Machine.Worlds.{World, Memory, with_heap}
use Rattle.member_link.specs.References.{Reference}
use Rattle.member_link.specs.RowScope.{RowScope}
use Rattle.member_link.specs.Rows.MemberRows.{put_field_row, MayPut, IsOwnField, NoUninitThis}
use Rattle.member_link.specs.Rows.Operands.{assignable_to, assignable_or_this, topmost, lowest_of}
use Rattle.member_link.specs.Rows.Row.{access_aside, plain}
use Rattle.member_link.specs.Signatures.{field_type}
use Rattle.typed_runs.proofs.ClassesTaken.{no_array_there, receiver_passes}
use Rattle.typed_runs.proofs.FieldValues.{of_field, to_field, field_kind, field_narrowed, field_in_heap}
use Rattle.typed_runs.proofs.Here.{Here, operands_here, worked, gives_same, gives_goes}
use Rattle.typed_runs.proofs.HereMethods.{CompletesTyped, assigned_here}
use Rattle.typed_runs.proofs.Kept.{there, units_kept, all_kept}
use Rattle.typed_runs.proofs.LinkedFields.{FieldLaws, FieldLinked, field_linked, flag_is}
use Rattle.typed_runs.proofs.Performing.{raises_goes, asks_goes}
use Rattle.typed_runs.proofs.Raising.{raises_access, raises_null}
use Rattle.typed_runs.proofs.Receivers.{IsReceiver, no_receiver, a_receiver, receiver_of}
use Rattle.typed_runs.proofs.Stacks.{Operands, lowest_is}
use Rattle.typed_runs.proofs.Taken.{one_of, two_of}
use Rattle.typed_runs.specs.Conforming.{HasShape, to_below, ShapeConforms, by_class, Conforms, of_this, no_values, and_value, FieldConforms, IsTypedMemory}
use Rattle.typed_runs.specs.TypedPrograms.{Typings, IsTypedProgram}
use Rattle.typed_runs.specs.TypedWorlds.{StaysTyped}
use Rattle.typed_runs.proofs.FieldPlaces.{field_place, got_is, put_is}

-- a receiver passes the test of the named class
passes : (P : Program) (T : Typings) (program : IsTypedProgram P T) (m : Memory) → IsTypedMemory P m → (r : Reference) → FieldLinked P r false
    → (reference : ℕ) (shape : Shape) → HasShape m.heap reference shape → ShapeConforms P shape r.class
    → reference_conforms P m.heap reference r.class ≡ true
passes P T program m memory r l reference shape has is =
    receiver_passes P T program m.heap reference shape r.class memory.objects (no_array_there P T program r.class l.named_there) has is

-- an uninitialised this is a receiver of its own class
this_receiver : {P : Program} {c : RowScope} {h : Heap} {v : Value} (r : Reference) → c.own.name ≡ r.class → Conforms P c h types.UninitThis v
    → IsReceiver P h r.class v
this_receiver {P = P} r same (of_this {class = class} has below) =
    a_receiver has (by_class (to_below (subst (λ (n : Name). P.links.below (name_of_class P class) n ≡ true) same below)))

no_this_under : (k : ℕ) (ts us : List VType) → NoUninitThis ts → drop k ts ≡ types.UninitThis ∷ us → ⊥
no_this_under zero [] us all is = nil_cons is where
  nil_cons : [] ≡ types.UninitThis ∷ us → ⊥
  nil_cons e = cc
no_this_under zero (t ∷ ts) us all is = let same : t ≡ types.UninitThis = cc in all.0 same
no_this_under (suc k) [] us all is = nil_cons is where
  nil_cons : [] ≡ types.UninitThis ∷ us → ⊥
  nil_cons e = cc
no_this_under (suc k) (t ∷ ts) us all is = no_this_under k ts us all.1 is

-- ---- getfield

module _ {P : Program} {T : Typings} {w : World} {f : MethodState} {rest : List RunFrame} {s : RowScope} {frame : Frame} {place : ℕ}
    {numbered : ℕ → ℕ} (laws : FieldLaws) where
  pub get_field_stays : (r : Reference)
      → Here P T w f rest s frame place numbered (plain frame (assignable_to (types.Object r.class) ∷ []) (field_type r.desc ∷ [])) (get_field r) true []
      → StaysTyped P T w (op_step P w f rest (get_field r))
  get_field_stays r h =
      let l = field_linked P T h.typed.program laws r false h.linked in
      worked h 1 refl (operands_here h).enough (rw l.link (by l f.stack refl (operands_here h))) where
        got : (l : FieldLinked P r false) (reference : ℕ) (shape : Shape) → HasShape w.memory.heap reference shape → ShapeConforms P shape r.class
            → (class : Option ℕ) → folder_number P l.field.class ≡ class
            → CompletesTyped P T w f rest 1 (get_from P w.memory l.field reference class)
        got l reference shape has is None e =
            asks_goes h (asks_get l.field (Some (values.Ref reference))) (drop 1 f.stack) h.locals (operands_here h).rest refl (there has)
        got l reference shape has is (Some class) e =
            let p = field_place P T h.typed.program r l class e w.memory reference shape h.typed.memory has is in
            let v = got_is P T h.typed.program r l class e w.memory reference p in
            subst (λ c. CompletesTyped P T w f rest 1 c) (sym v.1) (gives_same h (v.0 ∷ []) (and_value (of_field (type_of r.desc) v.0 v.2) no_values))

        on : (l : FieldLinked P r false) (v : Value) → IsReceiver P w.memory.heap r.class v
            → CompletesTyped P T w f rest 1 (get_field_work P w.memory r.class (Some l.field) (v ∷ []))
        on l _ no_receiver = rw (flag_is l) (raises_goes h null_pointer (drop 1 f.stack) (raises_null P T h.typed.program))
        on l _ (a_receiver {reference = reference} {shape = shape} has is) =
            rw (flag_is l) (rw (passes P T h.typed.program w.memory h.typed.memory r l reference shape has is) (got l reference shape has is (folder_number P l.field.class) refl))

        by : (l : FieldLinked P r false) (stack : List Value) → f.stack ≡ stack → Operands P (T f.at).scope w.memory.heap frame.stack stack 1
            → CompletesTyped P T w f rest 1 (get_field_work P w.memory r.class (Some l.field) (reverse (take 1 stack)))
        by l [] e o = absurd (omega (arith, o.enough))
        by l (v ∷ others) e o =
            let one = one_of s (assignable_to (types.Object r.class)) (topmost 1 frame.stack) h.holds.operands o.values in
            on l v (receiver_of (assigned_here h one.fits one.conforms))

  -- ---- putfield

  pub put_field_stays : (r : Reference) (initialises : Option Name)
      → Here P T w f rest s frame place numbered (access_aside (put_field_row s frame (Some r))) (put_field r initialises) true []
      → StaysTyped P T w (op_step P w f rest (put_field r initialises))
  put_field_stays r initialises h =
      let l = field_linked P T h.typed.program laws r false h.linked in
      worked h 2 refl (operands_here h).enough (rw l.link (by l f.stack refl (operands_here h))) where
        put : (l : FieldLinked P r false) (reference : ℕ) (shape : Shape) (v : Value) → HasShape w.memory.heap reference shape
            → ShapeConforms P shape r.class → FieldConforms P w.memory.heap (type_of l.field.desc) v
            → (class : Option ℕ) → folder_number P l.field.class ≡ class
            → CompletesTyped P T w f rest 2 (put_into P w.memory l.field reference v class)
        put l reference shape v has is fits None e =
            asks_goes h (asks_put l.field (Some (values.Ref reference)) v) (drop 2 f.stack) h.locals (operands_here h).rest refl
            (there has, field_in_heap P w.memory.heap (type_of l.field.desc) v fits)
        put l reference shape v has is fits (Some class) e =
            let p = field_place P T h.typed.program r l class e w.memory reference shape h.typed.memory has is in
            let n = put_is P T h.typed.program r l class e w.memory reference v h.typed.memory p fits in
            subst (λ c. CompletesTyped P T w f rest 2 c) (sym n.is_put)
            (gives_goes h 2 (with_heap w.memory n.heap) n.keep n.typed [] h.next (units_kept n.keep h.locals) (all_kept n.keep (operands_here h).rest) no_values)

        into : (l : FieldLinked P r false) (receiver v : Value) → IsReceiver P w.memory.heap r.class receiver
            → FieldConforms P w.memory.heap (type_of l.field.desc) v
            → CompletesTyped P T w f rest 2 (put_field_in P w.memory r.class l.field receiver v)
        into l _ v no_receiver fits = raises_goes h null_pointer (drop 2 f.stack) (raises_null P T h.typed.program)
        into l _ v (a_receiver {reference = reference} {shape = shape} has is) fits =
            rw (passes P T h.typed.program w.memory h.typed.memory r l reference shape has is)
            (put l reference shape (narrowed (type_of l.field.desc) v) has is (field_narrowed P w.memory.heap (type_of l.field.desc) v fits) (folder_number P l.field.class) refl)

        tested : (l : FieldLinked P r false) (receiver v : Value) → IsReceiver P w.memory.heap r.class receiver
            → FieldConforms P w.memory.heap (type_of l.field.desc) v
            → (b : Bool) → is_barred P l.field initialises ≡ b
            → CompletesTyped P T w f rest 2 (put_field_tested P w.memory r.class l.field initialises receiver v)
        tested l receiver v is fits true e = rw e (raises_goes h illegal_access (drop 2 f.stack) (raises_access P T h.typed.program))
        tested l receiver v is fits false e = rw e (into l receiver v is fits)

        on : (l : FieldLinked P r false) (receiver v : Value) → IsReceiver P w.memory.heap r.class receiver
            → FieldConforms P w.memory.heap (type_of r.desc) v
            → CompletesTyped P T w f rest 2 (put_field_work P w.memory r.class (Some l.field) initialises (receiver ∷ v ∷ []))
        on l receiver v is fits =
            let own : FieldConforms P w.memory.heap (type_of l.field.desc) v =
            subst (λ (desc : List ℕ). FieldConforms P w.memory.heap (type_of desc) v) (sym l.same_desc) fits in
            rw (flag_is l) (rw (field_kind P w.memory.heap (type_of l.field.desc) v own) (tested l receiver v is own (is_barred P l.field initialises) refl))

        -- the current class of the method is the one that is named
        own_class : (us : List VType) → topmost 2 frame.stack ≡ types.UninitThis ∷ us → (T f.at).scope.own.name ≡ r.class
        own_class us is = of_scope h.reads.own where
          may : MayPut s r (lowest_of 2 frame.stack) → s.own.name ≡ r.class
          may put = let own : IsOwnField s r = subst (MayPut s r) (lowest_is 2 frame.stack types.UninitThis us is) put in sym own.0

          of_scope : (s.own.name ≡ (T f.at).scope.own.name) ⊎ (NoUninitThis frame.locals × NoUninitThis frame.stack)
              → (T f.at).scope.own.name ≡ r.class
          of_scope (inl same) = sym same ∙ may h.holds.further
          of_scope (inr none) = absurd (no_this_under (length frame.stack - 2) frame.stack us none.1 is)

        receives : (t : VType) (us : List VType) (v : Value) → topmost 2 frame.stack ≡ t ∷ us
            → IsAssignable s.headers t (types.Object r.class) ⊎ (t ≡ types.UninitThis)
            → Conforms P (T f.at).scope w.memory.heap t v → IsReceiver P w.memory.heap r.class v
        receives t us v are (inl assignable) is = receiver_of (assigned_here h assignable is)
        receives t us v are (inr this) is =
            this_receiver r (own_class us (are ∙ ap (λ x. x ∷ us) this)) (subst (λ x. Conforms P (T f.at).scope w.memory.heap x v) this is)

        by : (l : FieldLinked P r false) (stack : List Value) → f.stack ≡ stack → Operands P (T f.at).scope w.memory.heap frame.stack stack 2
            → CompletesTyped P T w f rest 2 (put_field_work P w.memory r.class (Some l.field) initialises (reverse (take 2 stack)))
        by l [] e o = absurd (omega (arith, o.enough))
        by l (v ∷ []) e o = absurd (omega (arith, o.enough))
        by l (v ∷ receiver ∷ others) e o =
            let two =
            two_of s (assignable_or_this (types.Object r.class)) (assignable_to (field_type r.desc)) (topmost 2 frame.stack) h.holds.operands o.values in
            on l receiver v (receives two.first_type (two.second_type ∷ []) receiver two.are_types two.first_fits two.first_conforms)
            (to_field (type_of r.desc) (assigned_here h two.second_fits two.second_conforms))
