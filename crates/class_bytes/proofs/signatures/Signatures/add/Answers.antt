use Rattle.std.proofs.Common.{subst}
use Rattle.class_bytes.specs.Inner.TextNumbers.{IsNumber}
use Rattle.class_bytes.proofs.Kept.{without_name, without_desc, with_numbers}
use Rattle.class_bytes.proofs.signatures.Signatures.add.Goals as goal

pub returns-in_default : goal.returns-in_default
returns-in_default c = λ pool before knows.
    let none = subst (IsNumber c.number-2.new.self c.args.desc) c.in_default.is-1 c.in_ok-desc.ensures.number in
    let added = without_desc pool (record { name = c.args.name; desc = c.args.desc }) before _ _ _ _ c.in_ok-name.ensures.grows c.in_ok-desc.ensures.grows knows.pairs none in
    (added.0, record { pairs = added.1 })

pub returns-in_default-2 : goal.returns-in_default-2
returns-in_default-2 c = λ pool before knows.
    let none = subst (IsNumber c.number.new.self c.args.name) c.in_default.is-0 c.in_ok-name.ensures.number in
    let added = without_name pool (record { name = c.args.name; desc = c.args.desc }) before _ _ _ _ c.in_ok-name.ensures.grows c.in_ok-desc.ensures.grows knows.pairs none in
    (added.0, record { pairs = added.1 })

pub returns : goal.returns
returns c = λ pool before knows.
    let name = subst (IsNumber c.number.new.self c.args.name) c.in-Some-Some.is-0 c.in_ok-name.ensures.number in
    let desc = subst (IsNumber c.number-2.new.self c.args.desc) c.in-Some-Some.is-1 c.in_ok-desc.ensures.number in
    let added =
    with_numbers pool (record { name = c.args.name; desc = c.args.desc }) before _ _ _ c.args.self.now.pairs.keys c.in_ok-name.ensures.grows c.in_ok-desc.ensures.grows knows.pairs c.in-Some-Some.name c.in-Some-Some.desc name desc c.insert.new.self.keys c.in_ok-is_new.is_new c.in_ok-is_new.ensures.added
    (record { others = c.in_ok-is_new.ensures.updates.0 }) in
    (added.0, record { pairs = added.1 })
