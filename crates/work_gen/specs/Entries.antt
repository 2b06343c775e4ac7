-- Constants of pools as tables.
use Rattle.std.specs.Prelude.{Bool, true, Option, Some}
use Rattle.class_model.specs.ModifiedUtf8.{is_plain_text}
use Rattle.class_model.specs.declared.pool.Const.{Const}
use Rattle.class_model.specs.declared.pool.Const.TheVariants as consts
use Rattle.work_gen.specs.declared.entries.Entry.{Entry}
use Rattle.work_gen.specs.declared.entries.Entry.TheVariants.{Utf8, Class, NameAndType, Fieldref, Methodref}

abbrev pub constant_of : Entry → Const
constant_of (Utf8 text) = consts.Utf8 text.now
constant_of (Class name) = consts.Class name
constant_of (NameAndType name desc) = consts.NameAndType name desc
constant_of (Fieldref class member) = consts.Fieldref class member
constant_of (Methodref class member) = consts.Methodref class member

abbrev pub entry_of : Entry → Option Const
entry_of entry = Some (constant_of entry)

-- its text, if it has one, is plain
abbrev pub is_plain : Entry → Bool
is_plain (Utf8 text) = is_plain_text text.now
is_plain entry = true
