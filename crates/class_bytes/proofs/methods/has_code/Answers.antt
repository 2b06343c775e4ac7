use Rattle.std.proofs.Common.{◌∙◌, rules, tests}
use Rattle.std.proofs.lemmas.Iterator.{YieldsList-from_slice}
use Rattle.std.proofs.lemmas.Iterator.Search.{any_from_yields_List}
use Rattle.class_model.specs.Members.{is_named}
use Rattle.class_model.specs.Methods.{code}
use Rattle.class_bytes.specs.Inner.Cut.{attr_of}
use Rattle.class_bytes.proofs.Attributes.{any_seen}
use Rattle.class_bytes.proofs.methods.has_code.Goals as goal

pub returns : goal.returns
returns c =
    let attrs = c.args.method.now.attrs in
    let found = any_from_yields_List (λ attr. is_named c.args.pool.now code (attr_of attr)) _ _ c.any.result c.any.ensures.ran (YieldsList-from_slice attrs cc) (λ x b q k. search (rules, tests)) in
    found ∙ any_seen attr_of (is_named c.args.pool.now code) attrs
