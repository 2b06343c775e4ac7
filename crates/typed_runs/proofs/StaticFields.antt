use Rattle.std.specs.Prelude.{◌≡◌, ◌==◌, refl, ℕ, Bool, true, false, List, [], ◌∷◌, take, drop, reverse, Option, Some, None}
use Rattle.std.specs.List.{AllByRecursion}
use Rattle.std.proofs.Common.{arith, sym, ◌∙◌, subst}
use Rattle.class_model.specs.Descriptors.{type_of}
use Rattle.class_model.specs.declared.frame.Frame.{Frame}
use Rattle.class_tree.specs.Headers.{Name}
use Rattle.machine_values.specs.Frames.{MethodState}
use Rattle.machine_values.specs.Heaps.{Heap}
use Rattle.machine_values.specs.Values.{narrowed}
use Rattle.machine_values.specs.declared.frame.RunFrame.{RunFrame}
use Rattle.machine_values.specs.declared.value.Value.{Value}
use Rattle.member_link.specs.Machine.Completions.{Completion, asks_get, asks_put}
use Rattle.member_link.specs.Machine.FieldSteps.{is_barred, got_static, put_static_value, put_static_begun, put_static_work}
use Rattle.member_link.specs.Machine.Ops.{Op, get_static, put_static}
use Rattle.member_link.specs.Machine.Programs.{Program, folder_number}
use Rattle.member_link.specs.Machine.Stepping.{op_step}
use Rattle.member_link.specs.Machine.Throwables.{illegal_access}
use Rattle.member_link.specs.Machine.Worlds.{World, Memory, StaticValue, written_static, static_value, is_static_of, field_desc, with_static}
use Rattle.member_link.specs.References.{Reference}
use Rattle.member_link.specs.RowScope.{RowScope}
use Rattle.member_link.specs.Rows.Operands.{assignable_to, topmost}
use Rattle.member_link.specs.Rows.Row.{plain}
use Rattle.member_link.specs.Signatures.{field_type}
use Rattle.typed_runs.proofs.Basics.{and_first, and_second, same_number, some_of}
use Rattle.typed_runs.proofs.FieldValues.{of_field, to_field, field_kind, field_narrowed, field_in_heap, blank_conforms}
use Rattle.typed_runs.proofs.Here.{Here, operands_here, worked, gives_same, gives_values}
use Rattle.typed_runs.proofs.HereMethods.{CompletesTyped, assigned_here}
use Rattle.typed_runs.proofs.BegunFirst.{begun_first_goes}
use Rattle.typed_runs.proofs.Kept.{keeps_same}
use Rattle.typed_runs.proofs.LinkedFields.{FieldLaws, FieldLinked, field_linked, flag_is, number_is}
use Rattle.typed_runs.proofs.Performing.{raises_goes, asks_goes}
use Rattle.typed_runs.proofs.Raising.{raises_access}
use Rattle.typed_runs.proofs.Stacks.{Operands}
use Rattle.typed_runs.proofs.Starting.{static_typed}
use Rattle.typed_runs.proofs.Taken.{one_of}
use Rattle.typed_runs.specs.Conforming.{no_values, and_value, FieldConforms, FitsDescriptor, IsTypedStatic, IsTypedMemory}
use Rattle.typed_runs.specs.TypedFrames.{Does}
use Rattle.typed_runs.specs.TypedPrograms.{Typings}
use Rattle.typed_runs.specs.TypedWorlds.{StaysTyped}

-- ---- what static fields hold

written_fits : (P : Program) (h : Heap) (ss : List StaticValue) (class field : ℕ) (v : Value) → AllByRecursion (IsTypedStatic P h) ss
    → written_static ss class field ≡ Some v
    → FitsDescriptor P h (field_desc P class field) v
written_fits P h [] class field v all is = cc
written_fits P h (s ∷ ss) class field v all is = by (is_static_of class field s) refl (λ e. written_fits P h ss class field v all.1 e) where
  by : (b : Bool) → is_static_of class field s ≡ b → (written_static ss class field ≡ Some v → FitsDescriptor P h (field_desc P class field) v)
      → FitsDescriptor P h (field_desc P class field) v
  by true e others =
      let c : s.class ≡ class = same_number s.class class (and_first (s.class == class) (s.field == field) e) in
      let d : s.field ≡ field = same_number s.field field (and_second (s.class == class) (s.field == field) e) in
      let same : s.value ≡ v = some_of (rw e at is) in
      subst (λ x. FitsDescriptor P h (field_desc P class field) x) same
      (subst (λ n. FitsDescriptor P h (field_desc P n field) s.value) c (subst (λ n. FitsDescriptor P h (field_desc P s.class n) s.value) d all.0))
  by false e others = others (rw e at is)

pub static_fits : (P : Program) (m : Memory) (class field : ℕ) → IsTypedMemory P m
    → FitsDescriptor P m.heap (field_desc P class field) (static_value P m class field)
static_fits P m class field typed = by (written_static m.statics class field) refl where
  by : (o : Option Value) → written_static m.statics class field ≡ o
      → FitsDescriptor P m.heap (field_desc P class field) (static_value P m class field)
  by None e = rw e (blank_conforms P m.heap (type_of (field_desc P class field)))
  by (Some v) e = rw e (written_fits P m.heap m.statics class field v typed.statics e)

-- ---- getstatic

module _ {P : Program} {T : Typings} {w : World} {f : MethodState} {rest : List RunFrame} {s : RowScope} {frame : Frame} {place : ℕ}
    {numbered : ℕ → ℕ} (laws : FieldLaws) (d : Does P T w.memory.heap f) where
  pub get_static_stays : (r : Reference) → Here P T w f rest s frame place numbered (plain frame [] (field_type r.desc ∷ [])) (get_static r) true []
      → StaysTyped P T w (op_step P w f rest (get_static r))
  get_static_stays r h =
      let l = field_linked P T h.typed.program laws r true h.linked in
      worked h 0 refl (operands_here h).enough
      (rw l.link (rw (flag_is l) (begun_first_goes h d (record f { stack = drop 0 f.stack }) l.field.class (got_static P w.memory l.field (folder_number P l.field.class))
      (by l (folder_number P l.field.class) refl)))) where
        by : (l : FieldLinked P r true) (class : Option ℕ) → folder_number P l.field.class ≡ class
            → CompletesTyped P T w f rest 0 (got_static P w.memory l.field class)
        by l None is = asks_goes h (asks_get l.field None) (drop 0 f.stack) h.locals (operands_here h).rest refl tt
        by l (Some class) is =
            let n = number_is l class is in
            let v : Value = static_value P w.memory class n.0 in
            let fits : FitsDescriptor P w.memory.heap r.desc v =
            subst (λ desc. FitsDescriptor P w.memory.heap desc v) n.2 (static_fits P w.memory class n.0 h.typed.memory) in
            rw n.1 (gives_same h (v ∷ []) (and_value (of_field (type_of r.desc) v fits) no_values))

  -- ---- putstatic

  -- the one value that is taken
  value_taken : (r : Reference) (op : Op) (work : List Value → Completion)
      → (h : Here P T w f rest s frame place numbered (plain frame (assignable_to (field_type r.desc) ∷ []) []) op true [])
      → ((v : Value) → FieldConforms P w.memory.heap (type_of r.desc) v → CompletesTyped P T w f rest 1 (work (v ∷ [])))
      → CompletesTyped P T w f rest 1 (work (reverse (take 1 f.stack)))
  value_taken r op work h proved = by f.stack refl (operands_here h) where
    by : (stack : List Value) → f.stack ≡ stack → Operands P (T f.at).scope w.memory.heap frame.stack stack 1
        → CompletesTyped P T w f rest 1 (work (reverse (take 1 stack)))
    by [] e o = absurd (omega (arith, o.enough))
    by (v ∷ others) e o =
        let one = one_of s (assignable_to (field_type r.desc)) (topmost 1 frame.stack) h.holds.operands o.values in
        proved v (to_field (type_of r.desc) (assigned_here h one.fits one.conforms))

  pub put_static_stays : (r : Reference) (initialises : Option Name)
      → Here P T w f rest s frame place numbered (plain frame (assignable_to (field_type r.desc) ∷ []) []) (put_static r initialises) true []
      → StaysTyped P T w (op_step P w f rest (put_static r initialises))
  put_static_stays r initialises h =
      let l = field_linked P T h.typed.program laws r true h.linked in
      worked h 1 refl (operands_here h).enough
      (rw l.link (value_taken r (put_static r initialises) (put_static_work P w.memory (Some l.field) initialises) h (by_value l))) where
        put : (l : FieldLinked P r true) (v : Value) → FieldConforms P w.memory.heap (type_of l.field.desc) v → (class : Option ℕ)
            → folder_number P l.field.class ≡ class
            → CompletesTyped P T w f rest 1 (put_static_value P w.memory l.field v class)
        put l v fits None is =
            asks_goes h (asks_put l.field None v) (drop 1 f.stack) h.locals (operands_here h).rest refl (tt, field_in_heap P w.memory.heap (type_of l.field.desc) v fits)
        put l v fits (Some class) is =
            let n = number_is l class is in
            let own : FitsDescriptor P w.memory.heap (field_desc P class n.0) v =
            subst (λ desc. FitsDescriptor P w.memory.heap desc v) (l.same_desc ∙ sym n.2) fits in
            rw n.1 (gives_values h (with_static w.memory class n.0 v) (keeps_same w.memory.heap) (static_typed P w.memory class n.0 v h.typed.memory own) [] no_values)

        tested : (l : FieldLinked P r true) (v : Value) → FieldConforms P w.memory.heap (type_of l.field.desc) v → (b : Bool)
            → is_barred P l.field initialises ≡ b
            → CompletesTyped P T w f rest 1 (put_static_begun P w.memory l.field initialises v)
        tested l v fits true e = rw e (raises_goes h illegal_access (drop 1 f.stack) (raises_access P T h.typed.program))
        tested l v fits false e =
            rw e (put l (narrowed (type_of l.field.desc) v) (field_narrowed P w.memory.heap (type_of l.field.desc) v fits) (folder_number P l.field.class) refl)

        by_value : (l : FieldLinked P r true) (v : Value) → FieldConforms P w.memory.heap (type_of r.desc) v
            → CompletesTyped P T w f rest 1 (put_static_work P w.memory (Some l.field) initialises (v ∷ []))
        by_value l v fits =
            let own : FieldConforms P w.memory.heap (type_of l.field.desc) v =
            subst (λ (desc : List ℕ). FieldConforms P w.memory.heap (type_of desc) v) (sym l.same_desc) fits in
            rw (flag_is l) (rw (field_kind P w.memory.heap (type_of l.field.desc) v own)
            (begun_first_goes h d (record f { stack = drop 1 f.stack }) l.field.class (put_static_begun P w.memory l.field initialises v) (tested l v own (is_barred P l.field initialises) refl)))
