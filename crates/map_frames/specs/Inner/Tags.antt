-- The tags of verification types (JVM Specification SE 8, 4.7.4).
use Rattle.std.specs.Prelude.{ℕ}
use Rattle.class_model.specs.declared.frame_tags.TheConstants.{ITEM_TOP, ITEM_INTEGER, ITEM_FLOAT, ITEM_DOUBLE, ITEM_LONG, ITEM_NULL, ITEM_UNINITIALIZED_THIS, ITEM_OBJECT, ITEM_UNINITIALIZED}
use Rattle.class_model.specs.declared.frame.VType.{VType}
use Rattle.class_model.specs.declared.frame.VType.TheVariants.{Top, Int, Float, Long, Double, Null, UninitThis, Object, Uninit}

abbrev pub tag_of : VType → ℕ
tag_of Top = ITEM_TOP
tag_of Int = ITEM_INTEGER
tag_of Float = ITEM_FLOAT
tag_of Double = ITEM_DOUBLE
tag_of Long = ITEM_LONG
tag_of Null = ITEM_NULL
tag_of UninitThis = ITEM_UNINITIALIZED_THIS
tag_of (Object name) = ITEM_OBJECT
tag_of (Uninit at) = ITEM_UNINITIALIZED
