use Rattle.std.specs.Prelude.{◌≡◌, refl, ℕ, Bool, true, false, List, [], ◌∷◌, length, take, drop, reverse, Option, Some, None, if◌then◌else◌}
use Rattle.std.proofs.Common.{ap, sym, ◌∙◌, subst}
use Rattle.class_model.specs.Descriptors.{parameters_of}
use Rattle.class_model.specs.Members.{STATIC}
use Rattle.class_model.specs.declared.frame.Frame.{Frame}
use Rattle.class_tree.specs.Headers.{Name}
use Rattle.machine_values.specs.Frames.{MethodState}
use Rattle.machine_values.specs.declared.frame.RunFrame.{RunFrame}
use Rattle.machine_values.specs.declared.frame.RunFrame.TheVariants as frames
use Rattle.machine_values.specs.declared.value.Value.{Value}
use Rattle.member_link.specs.Forms.{IsStaticForm}
use Rattle.member_link.specs.Machine.CallSteps.{run_call, as_asked, is_polymorphic, call_static_work}
use Rattle.member_link.specs.Machine.Completions.{Completion, begins}
use Rattle.member_link.specs.Machine.FieldSteps.{begun_first}
use Rattle.member_link.specs.Machine.Links.{reference_to}
use Rattle.member_link.specs.Machine.Ops.{call_static}
use Rattle.member_link.specs.Machine.Performing.{perform}
use Rattle.member_link.specs.Machine.Programs.{Program, folder_number, method_of, has_flag}
use Rattle.member_link.specs.Machine.Stepping.{op_step}
use Rattle.member_link.specs.Machine.Worlds.{World, is_begun}
use Rattle.member_link.specs.References.{Reference}
use Rattle.member_link.specs.RowScope.{RowScope}
use Rattle.member_link.specs.Rows.MemberRows.{static_row, argument_needs}
use Rattle.member_link.specs.Rows.Operands.{topmost}
use Rattle.typed_runs.proofs.Arguments.{AreArguments, arguments, arguments_kinds, begins_static}
use Rattle.typed_runs.proofs.ArgumentsHere.{as_many_needs}
use Rattle.typed_runs.proofs.Assigned.{all_in_heap}
use Rattle.typed_runs.proofs.BeginningSteps.{class_there, begun_on_stays}
use Rattle.typed_runs.proofs.Callees.{method_is}
use Rattle.typed_runs.proofs.Calling.{StaysAfter, Leaves, asks_call_goes, runs_goes}
use Rattle.typed_runs.proofs.Here.{Here, operands_here, worked}
use Rattle.typed_runs.proofs.LookedUp.{LookUps, LookedUp, looked_up, linked_to, same_desc}
use Rattle.typed_runs.proofs.HereMethods.{headers_here}
use Rattle.typed_runs.proofs.LibraryClasses.{polymorphic_outside}
use Rattle.typed_runs.specs.TypedFrames.{Does, upon}
use Rattle.typed_runs.specs.TypedPrograms.{Typings}
use Rattle.typed_runs.specs.TypedWorlds.{StaysTyped}

module _ {P : Program} {T : Typings} {w : World} {f : MethodState} {rest : List RunFrame} {s : RowScope} {frame : Frame} {place : ℕ}
    {numbered : ℕ → ℕ} (laws : LookUps) (does : Does P T w.memory.heap f) where
  -- a class of the folder is begun first
  pub begun_first_goes : (r : Reference) (row_does : Here P T w f rest s frame place numbered (static_row frame r)
      (call_static r) true []) (class : Name) (taken : MethodState) (c : Completion)
      → StaysTyped P T w (perform P w f taken rest c) → StaysTyped P T w (perform P w f taken rest (begun_first P w.memory class c))
  begun_first_goes r h class taken c proved = by (folder_number P class) refl where
    of_begun : (n : ℕ) (b : Bool) → folder_number P class ≡ Some n
        → StaysTyped P T w (perform P w f taken rest (if b then c else begins n))
    of_begun n true e = proved
    of_begun n false e = let k = class_there P class n e in
        begun_on_stays P T w n k.0 (frames.Method f ∷ rest) h.typed k.1 (upon does h.below)

    by : (o : Option ℕ) → folder_number P class ≡ o → StaysTyped P T w (perform P w f taken rest (begun_first P w.memory class c))
    by None e = rw e proved
    by (Some n) e = rw e (of_begun n (is_begun w.memory n) e)

  -- the method that is found has a frame, or the library is asked
  pub found_static_goes : (r : Reference) (h : Here P T w f rest s frame place numbered (static_row frame r) (call_static r) true [])
      (l : LookedUp P IsStaticForm r) (stack vs : List Value)
      → Leaves P T w f frame (static_row frame r) (call_static r) stack vs → AreArguments P w.memory.heap r.desc vs
      → StaysAfter P T w f rest stack (run_call P (as_asked P r (reference_to l.method)) vs)
  found_static_goes r h l stack vs leaves are = by (is_polymorphic P r) refl where
    by : (b : Bool) → is_polymorphic P r ≡ b → StaysAfter P T w f rest stack
        (run_call P (if b then record (reference_to l.method) { desc = r.desc } else reference_to l.method) vs)
    by true e = rw (polymorphic_outside P T h.typed.program r l.method e l.is.above r.desc)
        (asks_call_goes h stack vs leaves (record (reference_to l.method) { desc = r.desc }))
    by false e =
        let desc : l.method.member.desc ≡ r.desc = same_desc h.typed.program laws l e in
        runs_goes h stack vs leaves l.method (record {
          declares = l.is.declares;
          no_clinit = l.no_clinit;
          call = desc;
          begins = begins_static P w.memory.heap l.method vs l.form (subst (λ d. AreArguments P w.memory.heap d vs) (sym desc) are);
        })

  pub static_stays : (r : Reference) → Here P T w f rest s frame place numbered (static_row frame r) (call_static r) true []
      → StaysTyped P T w (op_step P w f rest (call_static r))
  static_stays r h =
      let l = looked_up P T h.typed.program laws IsStaticForm r h.linked.0 in
      let o = operands_here h in
      let vs : List Value = reverse (take (length (argument_needs r.desc)) f.stack) in
      let are : AreArguments P w.memory.heap r.desc vs =
      arguments P T h.typed.program s (headers_here h) r.desc
      (topmost (length (argument_needs r.desc)) frame.stack) h.holds.operands o.values in
      let leaves : Leaves P T w f frame (static_row frame r) (call_static r) (drop (length (argument_needs r.desc)) f.stack) vs =
      record { locals = h.locals; under = o.rest; shows = refl; in_heap = all_in_heap o.values } in
      let static : has_flag (method_of P (reference_to l.method)) STATIC ≡ true =
      ap (λ m. has_flag m STATIC) (method_is P l.method l.is.declares) ∙ l.form in
      worked h (length (argument_needs r.desc)) (as_many_needs r.desc) o.enough
      (subst (λ found. StaysAfter P T w f rest (drop (length (argument_needs r.desc)) f.stack)
      (call_static_work P w.memory r found (reverse (take (length (argument_needs r.desc)) f.stack))))
      (sym (linked_to h.typed.program laws l h.linked.1))
      (rw static (rw (arguments_kinds (parameters_of r.desc) (are s))
      (begun_first_goes r h l.method.class (record f { stack = drop (length (argument_needs r.desc)) f.stack })
      (run_call P (as_asked P r (reference_to l.method)) vs)
      (found_static_goes r h l (drop (length (argument_needs r.desc)) f.stack) vs leaves are)))))
