use Rattle.std.proofs.Common.{◌≡◌, ◌∙◌, Some, sym, ap}
use Rattle.class_model.specs.declared.class_file.MethodAt.{MethodAt}
use Rattle.class_rewrite.proofs.written_method.written_of.Goals as goal
use Rattle.class_tree.specs.Headers.{Classes}
use Rattle.flow_code.specs.FlatCode.{FlatCode}
use Rattle.member_link.specs.Scope.{scope_at}

pub written_at-written-requires : goal.written_at-written-requires
written_at-written-requires c =
    let of = c.args.setting.now in
    let ready = c.what_is_meant_can_be_written.ensures of c.requires.m c.requires.meant in
    record {
      known = c.requires;
      is_host =
          sym
          (c.in-Some.ensures ∙ ap (λ (classes : Classes). scope_at classes c.host.result) c.tree.ensures
          ∙ ap (λ (at : MethodAt). scope_at of.classes at) (c.host.ensures ∙ ap (λ (flat : FlatCode). flat.host) c.flat.ensures ∙ ready.own));
    }
