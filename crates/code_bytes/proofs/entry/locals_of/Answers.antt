use Rattle.std.proofs.Common.{rules, ◌≡◌, ◌≤◌, ◌++◌, ℕ, List, length, map, take, ap, ◌∙◌}
use Rattle.std.proofs.lemmas.List.{take_all}
use Rattle.std.specs.Option.{option_copied}
use Rattle.class_model.specs.Code.{verification_type}
use Rattle.class_model.specs.Frames.{units_of_entries}
use Rattle.class_model.specs.PoolChecks.{utf8_at}
use Rattle.class_model.specs.declared.descriptor.FieldType.{FieldType}
use Rattle.class_model.specs.declared.frame.VType.{VType}
use Rattle.code_bytes.specs.Entry.{this_entries}
use Rattle.code_bytes.proofs.ParameterUnits.{room_before}
use Rattle.code_bytes.proofs.entry.locals_of.Goals as goal

-- the parameters before an index, and no more
all_params : (this locals : List VType) (params : List FieldType) (index : ℕ) → length params ≤ index → locals ≡ this ++ units_of_entries (map verification_type (take index params))
    → locals ≡ this ++ units_of_entries (map verification_type params)
all_params this locals params index past are = are ∙ ap (λ (some : List FieldType). this ++ units_of_entries (map verification_type some)) (take_all index params past)

pub push_units-requires : goal.push_units-requires
push_units-requires c =
    room_before c.args.flags (utf8_at c.args.pool.now c.args.name) (option_copied c.args.class) c.args.params.now c.loop-param.param-index c.loop-param.locals
    (search rules) (search rules) c.loop-param.invariant

pub returns : goal.returns
returns c =
    let this = this_entries c.args.flags (utf8_at c.args.pool.now c.args.name) (option_copied c.args.class) in
    all_params this _ _ _ c.loop-param-test.false c.loop-param.invariant
