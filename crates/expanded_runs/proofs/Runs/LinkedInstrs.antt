-- Instructions of a folder's methods by their offsets, and what linking and typing say of them.
use Rattle.std.proofs.Common.{◌≡◌, ◌++◌, ℕ, Bool, true, List, bytes_eq, slice_get, Option, Some, None, option_map, refl, ap, subst, ◌∙◌}
use Rattle.std.proofs.lemmas.Option.{none-some, same_Some, slice_get-map}
use Rattle.std.proofs.lemmas.Slice.Eq.{bytes_eq-Decides}
use Rattle.class_model.specs.Checks.{AllHold}
use Rattle.class_model.specs.Laws.Checks.{first_holds, others_hold}
use Rattle.class_model.specs.Names.{init}
use Rattle.class_model.specs.Pool.{constant_at}
use Rattle.class_model.specs.declared.class_file.MethodAt.{MethodAt}
use Rattle.class_model.specs.declared.frame.Frame.{Frame}
use Rattle.class_model.specs.declared.instr.Instr.{Instr}
use Rattle.class_model.specs.declared.instr.Instr.TheVariants.{Invoke, PutField, PutStatic}
use Rattle.class_model.specs.declared.instr.Placed.{Placed}
use Rattle.class_model.specs.declared.opcodes.TheConstants.{INVOKESPECIAL}
use Rattle.class_tree.specs.Headers.{Classes}
use Rattle.expanded_code.specs.Alone.{number_at, number_in}
use Rattle.expanded_code.specs.Callees.{IsCall, instr_at}
use Rattle.expanded_code.specs.Laws.Instructions.{first_there}
use Rattle.expanded_code.specs.Sites.{HasFrames}
use Rattle.expanded_runs.proofs.AloneProgram.{EachTyped}
use Rattle.expanded_runs.proofs.Runs.CalleeLaws.{typed_here}
use Rattle.expanded_runs.proofs.Runs.FlatCodes.{own_point, point_before}
use Rattle.expanded_runs.proofs.Runs.Setup.{IsSetup, Setup, before}
use Rattle.flow_code.specs.TypedFrames.{FolderFrames, typed_frames_at}
use Rattle.member_link.specs.Bodies.{Body, BodyPoint, frame_behind, item_targets, point_row}
use Rattle.member_link.specs.CodedMethods.{placed_at}
use Rattle.member_link.specs.Forms.{IsInstanceForm, IsStaticForm}
use Rattle.member_link.specs.Machine.Codes.{call_op, initialises, instr_op, or_meaningless}
use Rattle.member_link.specs.Machine.Ops.{put_field, put_static}
use Rattle.member_link.specs.Machine.Programs.{headers_in}
use Rattle.member_link.specs.References.{Reference}
use Rattle.member_link.specs.RowScope.{RowScope}
use Rattle.member_link.specs.Rows.MemberRows.{MayInitialise, call_row, init_row, receiver, special_row}
use Rattle.member_link.specs.Rows.Row.{either}
use Rattle.member_link.specs.Rows.Table.{row_of}
use Rattle.member_link.specs.Scope.{Scope, instructions, is_clinit, is_init, row_scope, scope_at}
use Rattle.member_link.specs.Signatures.{reference_of}
use Rattle.type_rules.specs.Checks.{IsTypedAt, handler_checks, instr_checks, target_checks}
use Rattle.type_rules.specs.MethodBodies.{body_of, point_of}
use Rattle.type_rules.specs.Rule.{row_checks}
use Rattle.type_rules.specs.Typed.{TypesBody, flows_into}
use Rattle.type_rules.specs.Verified.{TypesFolder, TypesMethod}
use Rattle.typed_runs.specs.TypedPoints.{HasField, IsLinkedOp}

-- ---- instructions by their offsets

-- an instruction of an offset, by its number
pub record InstrThere (s : Scope) (at : ℕ) (instr : Instr) : Type 0 where
  pub placed : Placed
  pub is_first : placed_at (instructions s) at ≡ Some placed
  pub is : slice_get (instructions s) (number_at s at) ≡ Some placed
  pub same : placed.instr ≡ instr

pub instr_there : (s : Scope) (at : ℕ) (instr : Instr) → instr_at s at ≡ Some instr → InstrThere s at instr
instr_there s at instr is = by (placed_at (instructions s) at) refl is where
  by : (found : Option Placed) → placed_at (instructions s) at ≡ found
      → option_map (λ (placed : Placed). placed.instr) found ≡ Some instr
      → InstrThere s at instr
  by None found is = absurd (none-some instr is)
  by (Some placed) found is =
      let there = first_there (instructions s) at placed found in
      let number : number_at s at ≡ there.number = rw (there.first) refl in
      record {
        placed = placed;
        is_first = found;
        is = ap (slice_get (instructions s)) number ∙ there.is;
        same = same_Some placed.instr instr is;
      }

-- ---- what linking says

module _ (u : Setup) (is_setup : IsSetup u) (at : MethodAt) (s : Scope) (scope : scope_at u.classes at ≡ Some s) where
  -- the operation of an instruction is linked; the place is that of a new
  pub record IsLinkedInstr (instr : Instr) : Type 0 where
    pub reads : RowScope
    pub place : ℕ
    pub linked : IsLinkedOp (before u) reads place (instr_op u.links (number_in (instructions s)) (row_scope s) instr)

  pub linked_instr : (number : ℕ) (placed : Placed) → slice_get (instructions s) number ≡ Some placed → IsLinkedInstr placed.instr
  linked_instr number placed is =
      let typed = typed_here u is_setup at s scope number (own_point u.links s placed)
      (point_before u is_setup at s scope number ∙ ap (option_map (own_point u.links s)) is) in
      record { reads = (u.typings at).scope; place = typed.place; linked = typed.linked }

  module _ (number : ℕ) (placed : Placed) (is : slice_get (instructions s) number ≡ Some placed) (index : ℕ) (reference : Reference)
      (names : reference_of s.class.pool (constant_at s.class.pool index) ≡ Some reference) where
    -- a store into an instance field finds one
    pub put_field_linked : placed.instr ≡ PutField index → HasField (headers_in (before u)) IsInstanceForm reference
    put_field_linked stores =
        let linked = linked_instr number placed is in
        subst (λ (r : Option Reference). IsLinkedOp (before u) linked.reads linked.place (or_meaningless
        (option_map (λ (r : Reference). put_field r (initialises (is_init s) (row_scope s).own)) r))) names
        (subst (λ (i : Instr). IsLinkedOp (before u) linked.reads linked.place (instr_op u.links (number_in (instructions s)) (row_scope s) i))
        stores linked.linked)

    -- one into a static field finds one
    pub put_static_linked : placed.instr ≡ PutStatic index → HasField (headers_in (before u)) IsStaticForm reference
    put_static_linked stores =
        let linked = linked_instr number placed is in
        subst (λ (r : Option Reference). IsLinkedOp (before u) linked.reads linked.place (or_meaningless
        (option_map (λ (r : Reference). put_static r (initialises (is_clinit s) (row_scope s).own)) r))) names
        (subst (λ (i : Instr). IsLinkedOp (before u) linked.reads linked.place (instr_op u.links (number_in (instructions s)) (row_scope s) i))
        stores linked.linked)

  -- a call at an offset
  pub record IsLinkedCallAt (opcode : ℕ) (reference : Reference) : Type 0 where
    pub reads : RowScope
    pub place : ℕ
    pub linked : IsLinkedOp (before u) reads place (call_op u.links (row_scope s) opcode reference)

  pub call_linked : {offset opcode : ℕ} {reference : Reference} → IsCall s offset opcode reference → IsLinkedCallAt opcode reference
  call_linked {offset} {opcode} {reference} call =
      let there = instr_there s offset (Invoke opcode call.index call.count) call.is in
      let linked = linked_instr (number_at s offset) there.placed there.is in
      record {
        reads = linked.reads;
        place = linked.place;
        linked = subst (λ (r : Option Reference). IsLinkedOp (before u) linked.reads linked.place (or_meaningless
            (option_map (call_op u.links (row_scope s) opcode) r))) call.names
            (subst (λ (i : Instr). IsLinkedOp (before u) linked.reads linked.place
            (instr_op u.links (number_in (instructions s)) (row_scope s) i)) there.same linked.linked);
      }

-- ---- what typing says of a call of an initialiser

-- each instruction of a typed body is typed
abbrev pub EachInstrTyped : Type 0
EachInstrTyped = (b : Body) (frames : List Frame) → TypesBody b frames → (number : ℕ) (point : BodyPoint) → slice_get b.points number ≡ Some point
    → (frame : Frame) × (slice_get frames number ≡ Some frame) × IsTypedAt b (flows_into b frames number) point frame

further_holds : (b : Body) (flows : Option Frame) (point : BodyPoint) (frame : Frame) → AllHold (instr_checks b flows point frame)
    → (point_row point frame).further
further_holds b flows point frame hold =
    let row = point_row point frame in
    let handlers = handler_checks b frame point.catches in
    let checks = row_checks point.scope frame row in
    let targets = target_checks b (frame_behind point frame) (item_targets point.item) in
    let own = others_hold handlers checks (first_holds (handlers ++ checks) targets hold.1) in
    own.1.1.1.0.0

-- what a call of an initialiser is on: an uninitialised object
pub record IsOn (s : Scope) (frames : List Frame) (at : ℕ) (reference : Reference) : Type 0 where
  pub frame : Frame
  pub before : slice_get frames (number_at s at) ≡ Some frame
  pub may : MayInitialise (row_scope s) reference (receiver frame reference.desc)

module _ (each : EachTyped) (each_instr : EachInstrTyped) (classes : Classes) (typed : FolderFrames) (types : TypesFolder classes typed) where
  pub initialiser_on : {at : MethodAt} {s : Scope} {frames : List Frame} {offset : ℕ} {reference : Reference}
      → HasFrames classes typed at s frames
      → IsCall s offset INVOKESPECIAL reference
      → reference.name ≡ init
      → IsOn s frames offset reference
  initialiser_on {at} {s} {frames} {offset} {reference} has call named =
      let method = each classes typed types at in
      let of_scope = subst (λ (found : Option Scope). TypesMethod found (typed_frames_at typed at)) has.is_scope method in
      let body = subst (λ (found : Option (List Frame)). TypesMethod (Some s) found) has.are_frames of_scope in
      let there = instr_there s offset (Invoke INVOKESPECIAL call.index call.count) call.is in
      let number = number_at s offset in
      let here : slice_get (body_of s).points number ≡ Some (point_of s there.placed) =
      slice_get-map (point_of s) (instructions s) number ∙ ap (option_map (point_of s)) there.is in
      let found = each_instr (body_of s) frames body number (point_of s there.placed) here in
      let frame = found.0 in
      let further = further_holds (body_of s) (flows_into (body_of s) frames number) (point_of s there.placed) frame found.2.holds in
      let of_call = subst (λ (i : Instr). (row_of (row_scope s) frame there.placed.at i).further) there.same further in
      let of_reference = subst (λ (r : Option Reference). (call_row (row_scope s) frame INVOKESPECIAL r).further) call.names of_call in
      let is_init : bytes_eq reference.name init ≡ true = (bytes_eq-Decides reference.name init).1 named in
      record {
        frame = frame;
        before = found.1;
        may = subst (λ (b : Bool). (either b (init_row (row_scope s) frame reference) (special_row (row_scope s) frame reference)).further)
            is_init of_reference;
      }
