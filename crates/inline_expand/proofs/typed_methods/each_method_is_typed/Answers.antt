use Rattle.inline_expand.proofs.TypedMethods.{typed-method}
use Rattle.inline_expand.proofs.typed_methods.each_method_is_typed.Goals as goal

pub returns : goal.returns
returns c =
    let classes = c.args.tree.now in
    let typed = c.args.typed.now in
    λ at s frames has. typed-method classes typed (record {
      files = c.folder-folder.ensures.tree.folder;
      types = c.a_typed_folder_types_each_method.ensures classes typed c.requires;
      count = c.a_typed_method_types_each_instruction.ensures.count;
      in_order = c.a_method_stands_in_order.ensures.order;
      states = c.a_method_stands_in_order.ensures.stated;
      edges = c.a_typed_body_goes_to_stated_frames.ensures.edges;
      methods = c.a_class_file_has_read_methods.ensures.methods;
      operands = c.a_class_file_has_read_methods.ensures.operands;
    }) at s frames has
