-- One constant of a pool that is cut out of bytes.
use Rattle.std.specs.Prelude.{◌==◌, ◌&&◌, ◌||◌, nat_le, ℕ, Bool, Ok, Err, if◌then◌else◌}
use Rattle.class_model.specs.Checks.{fault, ◌>>=◌}
use Rattle.class_model.specs.Cutting.{Rest, Cut, u1_at, may_stand, fields_at}
use Rattle.class_model.specs.declared.constant_tags.TheConstants.{INTEGER_TAG, LONG_TAG, DOUBLE_TAG, STRING_TAG, METHOD_HANDLE_TAG, METHOD_TYPE_TAG}
use Rattle.class_model.specs.declared.fault.FileRule.TheVariants as rules
use Rattle.class_model.specs.declared.pool.Const.{Const}

-- how many indices a constant of a tag takes
abbrev pub indices_of : ℕ → ℕ
indices_of tag = if (tag == LONG_TAG) || (tag == DOUBLE_TAG) then 2 else 1

-- the tags of constants of one number, and of a method handle
abbrev pub is_number_tag : ℕ → Bool
is_number_tag tag =
    (nat_le INTEGER_TAG tag && nat_le tag STRING_TAG)
    || (nat_le METHOD_HANDLE_TAG tag && nat_le tag METHOD_TYPE_TAG)

-- the constant at an index of a pool of this count
unfoldable pub entry_at : ℕ → ℕ → ℕ → Rest → Cut Const
entry_at major index count rest = do
  tag ← u1_at rest
  known ← if may_stand major index count tag.0 then Ok tag.1 else Err (fault rest.at rules.Tag)
  fields_at tag.0 known
