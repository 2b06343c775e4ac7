-- Typed points, codes and methods among classes whose flags are cleared.
use Rattle.std.proofs.Common.{◌≡◌, ◌+◌, ℕ, [], Option, Some, None, option_map, IfSome, if◌then◌else◌, refl, sym, ap, subst, ◌∙◌}
use Rattle.std.specs.List.{AllByRecursion}
use Rattle.std.proofs.lemmas.Option.{none-some, same_Some}
use Rattle.class_model.specs.Code.{entry_frame}
use Rattle.class_model.specs.Descriptors.{parameters_of}
use Rattle.class_model.specs.Laws.Lists.{AllByRecursion-weaker}
use Rattle.class_model.specs.declared.class_file.MethodAt.{MethodAt}
use Rattle.class_model.specs.declared.frame.Frame.{Frame}
use Rattle.class_model.specs.declared.header.Member.{Member}
use Rattle.class_tree.specs.Headers.{Name}
use Rattle.member_link.specs.Bodies.{item_falls_through, item_targets}
use Rattle.member_link.specs.Machine.Programs.{Code, Point, Program, RunMethod, code_run, headers_in, run_method}
use Rattle.member_link.specs.Machine.Replaced.{Replacement, replaced, with_body}
use Rattle.member_link.specs.Rows.FrameAssignability.{IsFrameAssignable}
use Rattle.member_link.specs.Rows.Row.{row_frame}
use Rattle.same_runs.specs.Laws.Numbered.{replaced_run}
use Rattle.same_runs.specs.Laws.Programs.{same_name}
use Rattle.same_runs.specs.Laws.ReplacedPrograms.{body_member}
use Rattle.typed_flats.proofs.MovedClasses.{if_weaker, moved_base, moved_classes}
use Rattle.typed_flats.proofs.GrownLaws.{GrownLaws}
use Rattle.typed_flats.proofs.GrownScopes.{scope_grown, scope_in}
use Rattle.typed_flats.proofs.MovedLinks.{moved_frame, moved_hierarchy, moved_links}
use Rattle.typed_flats.proofs.MovedOps.{moved_call, moved_op, same_op}
use Rattle.typed_flats.proofs.ReplacedClasses.{same_program}
use Rattle.typed_flats.specs.TypedReplacements.{TypesCodes, all_typed_in, typed_in}
use Rattle.typed_runs.specs.TypedPoints.{LeadsTo, LeadsToHandler, TypedPoint, Typing, row_at}
use Rattle.typed_runs.specs.TypedPrograms.{IsTypedMethod, IsTypedProgram, Typings, entry}

module _ {P : Program} {T : Typings} (typed : IsTypedProgram P T) (r : Replacement) (none : (class : ℕ) → r.added class ≡ []) (laws : GrownLaws) where
  -- ---- a code

  module _ (t : Typing) (are : t.scope.headers ≡ headers_in P) where
    moved_leads : (number : ℕ) (from : Frame) → LeadsTo t number from → LeadsTo (typed_in (replaced P r) t) number from
    moved_leads number from leads = record {
      to = leads.to;
      is_frame = leads.is_frame;
      assignable = moved_frame typed r none laws from leads.to (subst (λ hs. IsFrameAssignable hs from leads.to) are leads.assignable);
    }

    pub moved_point : (number : ℕ) (point : Point) → TypedPoint P t number point
        → TypedPoint (replaced P r) (typed_in (replaced P r) t) number point
    moved_point number point p =
        let headers : p.scope.headers ≡ headers_in P = p.reads.headers ∙ are in
        let grown = scope_grown P r (laws.grown P r none) p.scope headers in
        let behind = laws.left p.scope (scope_in P r p.scope) p.frame p.place p.item p.reading grown in
        record {
          frame = p.frame;
          is_frame = p.is_frame;
          scope = scope_in P r p.scope;
          place = p.place;
          item = p.item;
          numbered = p.numbered;
          is_op = p.is_op ∙ sym (same_op typed r none laws p.scope headers P.links p.numbered p.item);
          reads = record { headers = refl; news = p.reads.news; own = p.reads.own };
          reading = p.reading;
          read = p.read;
          row = laws.rows p.scope (scope_in P r p.scope) p.frame p.place p.item p.reading grown p.row;
          linked = moved_op typed r none laws t.scope p.place point.op p.linked;
          call = moved_call typed r none laws p.scope point.op p.call;
          next =
              subst (λ (after : Option Frame). IfSome (if item_falls_through p.item then after else None) (LeadsTo (typed_in (replaced P r) t) (number + 1)))
              (sym behind) (if_weaker (if item_falls_through p.item then row_frame p.frame (row_at p) else None) (moved_leads (number + 1)) p.next);
          targets =
              subst (λ (after : Option Frame). AllByRecursion (λ target. IfSome after (LeadsTo (typed_in (replaced P r) t) (p.numbered target))) (item_targets p.item))
              (sym behind)
              (AllByRecursion-weaker (λ (target : ℕ). IfSome (row_frame p.frame (row_at p)) (LeadsTo t (p.numbered target)))
              (λ (target : ℕ). IfSome (row_frame p.frame (row_at p)) (LeadsTo (typed_in (replaced P r) t) (p.numbered target)))
              (λ target leads. if_weaker (row_frame p.frame (row_at p)) (moved_leads (p.numbered target)) leads) (item_targets p.item) p.targets);
          handlers =
              AllByRecursion-weaker (LeadsToHandler t p.frame) (LeadsToHandler (typed_in (replaced P r) t) p.frame)
              (λ catch leads. moved_leads catch.to _ leads) point.catches p.handlers;
        }

  -- ---- a method

  entry_same : (at : MethodAt) (member : Member) (code : Code) → entry P at member code ≡ entry (replaced P r) at member code
  entry_same at member code =
      ap (λ (class : Name). entry_frame member.flags member.name (Some class) (parameters_of member.desc) code.locals)
      (sym (same_name (same_program typed r none) at.class))

  pub moved_method_typed : (at : MethodAt) (member : Member) (code : Code) (t : Typing) → IsTypedMethod P at member code t
      → IsTypedMethod (replaced P r) at member code (typed_in (replaced P r) t)
  moved_method_typed at member code t is = record {
    headers = refl;
    own = is.own ∙ sym (same_name (same_program typed r none) at.class);
    result = is.result;
    one_each = is.one_each;
    entry_leads = subst (LeadsTo (typed_in (replaced P r) t) 0) (entry_same at member code) (moved_leads t is.headers 0 (entry P at member code) is.entry_leads);
    points = λ number point there. moved_point t is.headers number point (is.points number point there);
  }

  -- ---- the program

  module _ (others : Typings) (codes : TypesCodes P r others) where
    methods_typed : (at : MethodAt) (method : RunMethod) (code : Code) → run_method (replaced P r) at ≡ Some method → code_run method ≡ Some code
        → IsTypedMethod (replaced P r) at method.member code (typed_in (replaced P r) (others at))
    methods_typed at method code is runs = by (run_method P at) refl (sym (replaced_run P r none at) ∙ is) where
      by : (found : Option RunMethod) → run_method P at ≡ found
          → option_map (λ (one : RunMethod). with_body one (r.body at)) found ≡ Some method
          → IsTypedMethod (replaced P r) at method.member code (typed_in (replaced P r) (others at))
      by None e same = absurd (none-some method same)
      by (Some one) e same =
          let now : with_body one (r.body at) ≡ method = same_Some (with_body one (r.body at)) method same in
          let own = codes.codes at one code e (ap code_run now ∙ runs) in
          subst (λ (member : Member). IsTypedMethod (replaced P r) at member code (typed_in (replaced P r) (others at)))
          (sym (body_member one (r.body at)) ∙ ap (λ (m : RunMethod). m.member) now)
          (moved_method_typed at one.member code (others at) own)

    pub replaced_typed : IsTypedProgram (replaced P r) (all_typed_in (replaced P r) others)
    replaced_typed = record {
      hierarchy = moved_hierarchy typed r none laws;
      links = moved_links typed r none laws;
      base = moved_base typed r none laws;
      classes = moved_classes typed r none laws;
      methods = methods_typed;
    }
