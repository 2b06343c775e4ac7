use Rattle.std.specs.Prelude.{◌≡◌, refl, ℕ, Bool, true, false, List, [], ◌∷◌, Option, Some, None, IfSome, if◌then◌else◌}
use Rattle.std.proofs.Common.{arith, ap, sym, ◌∙◌, subst}
use Rattle.class_model.specs.Code.{verification_type}
use Rattle.class_model.specs.Descriptors.{kind_of}
use Rattle.class_model.specs.declared.descriptor.FieldType.{FieldType}
use Rattle.class_model.specs.declared.descriptor.FieldType.TheVariants as field_types
use Rattle.class_model.specs.declared.descriptor.Kind.{Kind}
use Rattle.class_model.specs.declared.descriptor.Kind.TheVariants as kinds
use Rattle.class_model.specs.declared.frame.Frame.{Frame}
use Rattle.class_model.specs.declared.frame.VType.{VType}
use Rattle.class_model.specs.declared.header.Member.{Member}
use Rattle.class_model.specs.declared.instr.Instr.TheVariants as instrs
use Rattle.machine_values.specs.Frames.{MethodState}
use Rattle.machine_values.specs.Heaps.{Heap}
use Rattle.machine_values.specs.Values.{narrowed}
use Rattle.machine_values.specs.declared.frame.RunFrame.{RunFrame}
use Rattle.machine_values.specs.declared.frame.RunFrame.TheVariants as frames
use Rattle.machine_values.specs.declared.value.Value.{Value}
use Rattle.member_link.specs.Assignability.{IsAssignable}
use Rattle.member_link.specs.Bodies.{item_instr}
use Rattle.member_link.specs.Machine.Codes.{item_op, return_op, same_kind}
use Rattle.member_link.specs.Machine.Ops.{Op, meaningless, return_nothing, return_value}
use Rattle.member_link.specs.Machine.Performing.{unlocked, resumed, value_in, result_seen, returned_to, returned_by, returned, is_initialiser}
use Rattle.member_link.specs.Machine.Programs.{Program}
use Rattle.member_link.specs.Machine.Stepping.{op_step, return_step, step}
use Rattle.member_link.specs.Machine.Worlds.{World, Memory}
use Rattle.member_link.specs.RowScope.{RowScope}
use Rattle.member_link.specs.Rows.MemberRows.{MayReturnValue, return_row, result_types}
use Rattle.member_link.specs.Rows.Operands.{IsOfKind, of_kind, topmost, lowest_of}
use Rattle.member_link.specs.Rows.Row.{Row, access_aside}
use Rattle.member_link.specs.Signatures.{result_of}
use Rattle.typed_runs.proofs.Assigned.{conforms_in_heap}
use Rattle.typed_runs.proofs.Basics.{some_of}
use Rattle.typed_runs.proofs.FamilySteps.{EachStays, as_it_is, family_step}
use Rattle.typed_runs.proofs.FieldValues.{of_field, to_field, field_kind, field_narrowed}
use Rattle.typed_runs.proofs.Here.{Here, stays, operands_here}
use Rattle.typed_runs.proofs.HereMethods.{MethodOf, method_here, assigned_here}
use Rattle.typed_runs.proofs.Kept.{Keeps, in_heap_kept, all_kept, known_kept, waits_kept, frames_kept}
use Rattle.typed_runs.proofs.Memories.{unlocked_typed}
use Rattle.typed_runs.proofs.OpSorts.{of_returns, sort_of_op, not_of_family}
use Rattle.typed_runs.proofs.Resumed.{resumes}
use Rattle.typed_runs.proofs.Shown.{IsOptionInHeap, option_known, showing_stays}
use Rattle.typed_runs.proofs.Stacks.{Operands, lowest_is}
use Rattle.typed_runs.proofs.Taken.{one_of}
use Rattle.typed_runs.proofs.Units.{kind_conforms}
use Rattle.typed_runs.specs.Conforming.{IsInHeap, Conforms, AllConform, no_values, and_value, FieldConforms, IsTypedMemory}
use Rattle.typed_runs.specs.Families.{NextIs, EndsMethod}
use Rattle.typed_runs.specs.TypedFrames.{nothing_awaited, called_method, above_method, FramesConform, lowest, upon}
use Rattle.typed_runs.specs.TypedPrograms.{Typings}
use Rattle.typed_runs.specs.TypedWorlds.{TypedWorld, StaysTyped}

-- ---- to the frame below

value_seen : {P : Program} {s : RowScope} {h : Heap} {ts : List VType} {vs : List Value} → AllConform P s h ts vs → IsOptionInHeap h (value_in vs)
value_seen no_values = tt
value_seen (and_value one others) = conforms_in_heap one

module _ (P : Program) (T : Typings) (w : World) (typed : TypedWorld P T w) (held : Option ℕ) (member : Member) (vs : List Value)
    (given : (s : RowScope) → AllConform P s w.memory.heap (result_types (result_of member.desc)) vs) where
  is_left : (Keeps w.memory.heap (unlocked w.memory held).heap) × IsTypedMemory P (unlocked w.memory held)
  is_left = unlocked_typed P w.memory held typed.memory

  seen : (s : RowScope) (made : Option ℕ) → IfSome made (IsInHeap w.memory.heap) → IsOptionInHeap (unlocked w.memory held).heap (result_seen made vs)
  seen s None is = value_seen (all_kept is_left.0 (given s))
  seen s (Some r) is = in_heap_kept is_left.0 r is

  -- the library sees the result, or what it constructed
  to_library : (s : RowScope) (made : Option ℕ) (others : List RunFrame) → IfSome made (IsInHeap w.memory.heap)
      → FramesConform P T (unlocked w.memory held).heap nothing_awaited (frames.Library None ∷ others)
      → StaysTyped P T w (returned_to P w held vs (frames.Library made ∷ others))
  to_library s made others is conform =
      let k : Memory = unlocked w.memory held in
      let next = stays P T w k (frames.Library None ∷ others) typed is_left.0 is_left.1 conform in
      record {
        typed = showing_stays P T (record w { memory = k; frames = frames.Library None ∷ others }) _ next.typed
            (option_known P k.heap k.heap w.known (result_seen made vs) (known_kept is_left.0 w.known typed.known) (seen s made is));
        not_stuck = λ no. no;
      }

  to_frames : (s : RowScope) (fs : List RunFrame) → FramesConform P T w.memory.heap (called_method member) fs
      → StaysTyped P T w (returned_to P w held vs fs)
  to_frames s _ (lowest {made = made} is) = to_library s made [] is (lowest tt)
  to_frames s (frames.Library made ∷ others) (upon is below) = to_library s made others is (upon tt (frames_kept is_left.0 below))
  to_frames s (frames.Beginning class ∷ others) (upon is below) = let no = is.free in cc
  to_frames s (frames.Method g ∷ others) (upon is below) =
      let k : Memory = unlocked w.memory held in
      stays P T w k (frames.Method (resumed g vs) ∷ others) typed is_left.0 is_left.1
      (upon (resumes P T k typed.program is_left.1 g member (waits_kept is_left.0 is) vs (λ c. all_kept is_left.0 (given c))) (frames_kept is_left.0 below))

-- ---- a returned value

-- it is of the declared type
returned_fits : (P : Program) {s : RowScope} (h : Heap) (kind : Kind) (result : FieldType) (t : VType) (v : Value) → kind_of result ≡ kind
    → IsOfKind kind t
    → (kind ≡ kinds.Ref → Conforms P s h (verification_type result) v) → Conforms P s h t v → FieldConforms P h result v
returned_fits P h kind (field_types.Named name) t v same is named c = to_field (field_types.Named name) (named (sym same))
returned_fits P h kind field_types.Byte t v same is named c = kind_conforms kinds.Int (subst (λ k. IsOfKind k t) (sym same) is) c
returned_fits P h kind field_types.Char t v same is named c = kind_conforms kinds.Int (subst (λ k. IsOfKind k t) (sym same) is) c
returned_fits P h kind field_types.Short t v same is named c = kind_conforms kinds.Int (subst (λ k. IsOfKind k t) (sym same) is) c
returned_fits P h kind field_types.Bool t v same is named c = kind_conforms kinds.Int (subst (λ k. IsOfKind k t) (sym same) is) c
returned_fits P h kind field_types.Int t v same is named c = kind_conforms kinds.Int (subst (λ k. IsOfKind k t) (sym same) is) c
returned_fits P h kind field_types.Long t v same is named c = kind_conforms kinds.Long (subst (λ k. IsOfKind k t) (sym same) is) c
returned_fits P h kind field_types.Float t v same is named c = kind_conforms kinds.Float (subst (λ k. IsOfKind k t) (sym same) is) c
returned_fits P h kind field_types.Double t v same is named c = kind_conforms kinds.Double (subst (λ k. IsOfKind k t) (sym same) is) c

module _ {P : Program} {T : Typings} {w : World} {f : MethodState} {rest : List RunFrame} {s : RowScope} {frame : Frame} {place : ℕ}
    {numbered : ℕ → ℕ} {falls : Bool} {places : List ℕ} where
  -- a class initialiser's end, or a value for the frame below
  returns_goes : {row : Row} {op : Op} (h : Here P T w f rest s frame place numbered row op falls places) (vs : List Value) (result : Option FieldType)
      → (T f.at).scope.result ≡ result
      → ((c : RowScope) → AllConform P c w.memory.heap (result_types result) vs) → StaysTyped P T w (returned P w f rest vs)
  returns_goes h vs result is given =
      let m = method_here h in
      let given_there : (c : RowScope) → AllConform P c w.memory.heap (result_types (result_of m.method.member.desc)) vs =
      λ c. subst (λ o. AllConform P c w.memory.heap (result_types o) vs) (sym is ∙ m.typed.result) (given c) in
      subst (λ o. StaysTyped P T w (returned_by P w f.held rest vs o)) (sym m.run)
      (by m given_there (is_initialiser m.method) (subst (λ o. FramesConform P T w.memory.heap (above_method o) rest) m.run h.below)) where
        by : (m : MethodOf P T f) → ((c : RowScope) → AllConform P c w.memory.heap (result_types (result_of m.method.member.desc)) vs)
            → (b : Bool) → FramesConform P T w.memory.heap (if b then nothing_awaited else called_method m.method.member) rest
            → StaysTyped P T w (if b then record w { memory = unlocked w.memory f.held; frames = rest } else returned_to P w f.held vs rest)
        by m there true below =
            let l = unlocked_typed P w.memory f.held h.typed.memory in stays P T w (unlocked w.memory f.held) rest h.typed l.0 l.1 (frames_kept l.0 below)
        by m there false below = to_frames P T w h.typed f.held m.method.member vs there s rest below

  pub return_nothing_stays : Here P T w f rest s frame place numbered (access_aside (return_row s frame None)) return_nothing falls places
      → StaysTyped P T w (op_step P w f rest return_nothing)
  return_nothing_stays h = returns_goes h [] None h.linked (λ c. no_values)

  pub return_value_stays : (result : FieldType) (kind : Kind) → s.result ≡ Some result
      → Here P T w f rest s frame place numbered (access_aside (return_row s frame (Some kind))) (return_value result) falls places
      → StaysTyped P T w (op_step P w f rest (return_value result))
  return_value_stays result kind is h = by f.stack refl (operands_here h) where
    reference : (may : MayReturnValue s kind (lowest_of 1 frame.stack)) → may.type ≡ result → (t : VType) (v : Value) → topmost 1 frame.stack ≡ t ∷ []
        → kind ≡ kinds.Ref
        → Conforms P (T f.at).scope w.memory.heap t v → Conforms P (T f.at).scope w.memory.heap (verification_type result) v
    reference may same t v taken e c =
        let lowest_fits =
        subst (λ x. IsAssignable s.headers x (verification_type may.type)) (lowest_is 1 frame.stack t [] taken) (may.assignable e) in
        assigned_here h (subst (λ x. IsAssignable s.headers t (verification_type x)) same lowest_fits) c

    fits : (t : VType) (v : Value) → topmost 1 frame.stack ≡ t ∷ [] → IsOfKind kind t → Conforms P (T f.at).scope w.memory.heap t v
        → FieldConforms P w.memory.heap result v
    fits t v taken of c =
        let may = h.holds.further in
        let same : may.type ≡ result = some_of (sym may.is_result ∙ is) in
        returned_fits P w.memory.heap kind result t v (ap kind_of (sym same) ∙ may.same_kind) of (λ e. reference may same t v taken e c) c

    by : (stack : List Value) → f.stack ≡ stack → Operands P (T f.at).scope w.memory.heap frame.stack stack 1
        → StaysTyped P T w (return_step P w f rest result stack)
    by [] e o = absurd (omega (arith, o.enough))
    by (v ∷ others) e o =
        let one = one_of s (of_kind kind) (topmost 1 frame.stack) h.holds.operands o.values in
        let own = fits one.type v one.is_type one.fits one.conforms in
        rw (field_kind P w.memory.heap result v own)
        (returns_goes h (narrowed result v ∷ []) (Some result) h.linked
        (λ c. and_value (of_field result (narrowed result v) (field_narrowed P w.memory.heap result v own)) no_values))

  by_result : (o : Option FieldType) (kind : Option Kind) → s.result ≡ o
      → Here P T w f rest s frame place numbered (access_aside (return_row s frame kind)) (return_op o kind) falls places
      → StaysTyped P T w (op_step P w f rest (return_op o kind))
  by_result None None is h = return_nothing_stays h
  by_result None (Some kind) is h = absurd h.linked
  by_result (Some result) None is h = absurd h.linked
  by_result (Some result) (Some kind) is h = by (same_kind (kind_of result) kind) h where
    by : (b : Bool)
        → Here P T w f rest s frame place numbered (access_aside (return_row s frame (Some kind))) (if b then return_value result else meaningless) falls places
        → StaysTyped P T w (op_step P w f rest (if b then return_value result else meaningless))
    by true k = return_value_stays result kind is k
    by false k = absurd k.linked

-- ---- the family

ends_method : (op : Op) → EndsMethod op → sort_of_op op ≡ of_returns
ends_method return_nothing is = refl
ends_method (return_value type) is = refl
ends_method op is = absurd is

pub each_return : (P : Program) (T : Typings) → EachStays P T EndsMethod
each_return P T w f rest s frame place numbered (item_instr (instrs.Return kind)) is d h = by_result s.result kind refl h
each_return P T w f rest s frame place numbered item is d h =
    absurd (not_of_family P.links numbered s item of_returns (ends_method (item_op P.links numbered s item) is) (λ e. cc) (λ e. cc))

pub returns_typed : (P : Program) (T : Typings) (w : World) → TypedWorld P T w → NextIs EndsMethod P w.frames → StaysTyped P T w (step P w)
returns_typed P T w typed next =
    family_step P T EndsMethod (as_it_is P T EndsMethod (record { no_new = λ name no. no; no_special = λ r from no. no }) (each_return P T)) w typed next
