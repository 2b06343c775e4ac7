use Rattle.std.proofs.Common.{◌≡◌, rules, Option, Some, None, refl, sym, subst}
use Rattle.std.specs.Option.{option_copied}
use Rattle.class_tree.specs.Headers.{Name, headers_of}
use Rattle.member_link.specs.Found.{IsField}
use Rattle.member_link.specs.References.{Reference}
use Rattle.member_link.specs.declared.found.Found.{Found}
use Rattle.machine_code.specs.Inner.Resolved.{IsTargetOf}
use Rattle.member_link.specs.RunOps.{IsFieldFound}
use Rattle.member_link.specs.declared.run_op.FieldOp.{FieldOp}
use Rattle.member_link.specs.declared.run_op.FieldTarget.{FieldTarget}
use Rattle.machine_code.proofs.FieldTargets.{no_link, resolved}
use Rattle.machine_code.proofs.resolving.fields.resolve_field.Goals as goal
use Rattle.machine_code.proofs.resolving.fields.resolve_field.Goals.{in-Some+in_ok-field_target-in-Some, in-None}

pub returns-clause-resolved : goal.returns-clause-resolved
returns-clause-resolved c = λ P is.
    let headers = headers_of c.args.tree.now in
    let found = subst (λ (r : Reference). IsField headers r.class r.name r.desc c.find_field.result) c.named.view_is c.find_field.ensures in
    elim c.match-find_field.branch [
      | in-Some+in_ok-field_target-in-Some w ↦
          let target = w.in_ok-field_target-in-Some.field-0 in
          let copied : option_copied w.as_ref.result ≡ c.args.initialises = search rules in
          let op : FieldOp = record { named = c.args.named; initialises = c.args.initialises; found = Some target } in
          subst (λ (f : Option FieldTarget). let op : FieldOp = record { named = c.args.named; initialises = c.args.initialises; found = f } in IsFieldFound P op f) (sym w.found-is)
          (resolved c.args.tree.now P is c.a_tree_is_a_hierarchy.ensures (record { one = c.a_look_up_finds_one_field.ensures }) c.args.named op w.in-Some.found target refl
          (subst (IsField headers c.args.named.class c.args.named.name c.args.named.desc) w.in-Some.is found)
          (λ field at. subst (λ (initialises : Option Name). IsTargetOf field w.in-Some.found initialises target) copied (w.in_ok-field_target-in-Some.ensures field at)))
      | in-None w ↦
          subst (λ (f : Option FieldTarget). let op : FieldOp = record { named = c.args.named; initialises = c.args.initialises; found = f } in IsFieldFound P op f) (sym w.found-is)
          (no_link c.args.tree.now P is c.a_tree_is_a_hierarchy.ensures (record { one = c.a_look_up_finds_one_field.ensures }) c.args.named
          (subst (IsField headers c.args.named.class c.args.named.name c.args.named.desc) w.in-None.is found))
    ]
