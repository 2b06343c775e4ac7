use Rattle.std.proofs.Common.{◌∙◌, sym, ap}
use Rattle.class_model.specs.Code.{verification_type}
use Rattle.class_tree.specs.Headers.{headers_of}
use Rattle.type_rules.proofs.TypeAssignability.{int_types, is_same}
use Rattle.type_rules.proofs.assignability.is_value_of.Goals as goal

pub returns-in-Long-matches : goal.returns-in-Long-matches
returns-in-Long-matches c = is_same (headers_of c.args.tree.now) c.args.from.now (verification_type c.args.to.now) (c.in-Long-matches.is ∙ sym (ap verification_type c.in-Long.is))

pub returns-in-Float-matches : goal.returns-in-Float-matches
returns-in-Float-matches c = is_same (headers_of c.args.tree.now) c.args.from.now (verification_type c.args.to.now) (c.in-Float-matches.is ∙ sym (ap verification_type c.in-Float.is))

pub returns-in-Double-matches : goal.returns-in-Double-matches
returns-in-Double-matches c = is_same (headers_of c.args.tree.now) c.args.from.now (verification_type c.args.to.now) (c.in-Double-matches.is ∙ sym (ap verification_type c.in-Double.is))

pub returns-in-Int : goal.returns-in-Int
returns-in-Int c = is_same (headers_of c.args.tree.now) c.args.from.now (verification_type c.args.to.now) (c.in-Int.is ∙ sym (int_types c.args.to.now c.in-Byte.is))
