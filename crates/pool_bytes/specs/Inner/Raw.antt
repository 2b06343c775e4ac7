-- A constant as it stands in bytes, before its text is checked.
use Rattle.std.specs.Prelude.{◌≤◌, length}
use Rattle.class_model.specs.declared.pool.Const.{Const}
use Rattle.class_model.specs.declared.pool.Const.TheVariants.{Utf8}
use Rattle.pool_bytes.specs.declared.raw.RawForm.{RawForm}
use Rattle.pool_bytes.specs.declared.raw.RawForm.TheVariants.{Text, Constant}

-- the constant that it stands for
abbrev pub constant_of : RawForm → Const
constant_of (Text bytes) = Utf8 bytes.now
constant_of (Constant constant) = constant

-- a text is no longer than its count may say
abbrev pub IsCounted : RawForm → Type 0
IsCounted (Text bytes) = length bytes.now ≤ 65535
IsCounted (Constant constant) = Unit {0}
