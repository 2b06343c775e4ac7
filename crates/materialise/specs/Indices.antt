-- The indices of what is needed, in a constant pool and in whatever it grows to.
use Rattle.std.specs.Prelude.{◌≡◌, ◌++◌, ℕ, List}
use Rattle.class_model.specs.Pool.{Constants}
use Rattle.class_model.specs.declared.pool.Const.TheVariants.{Utf8}
use Rattle.making_code.specs.Constants.{MemberKind, Need, index_in, needs_itself, of_field, of_interface_method, of_method}
use Rattle.making_code.specs.IndexedMaking.{index_of_last}
use Rattle.materialise.specs.declared.constants.Reference.{Reference}
use Rattle.materialise.specs.declared.constants.Reference.TheVariants.{Field, InterfaceMethod, Method}
use Rattle.pool_edit.specs.Edits.{Edit, grown}

-- the index of what is needed
pub record IsIndex (edit : Edit) (need : Need) (index : ℕ) : Type 0 where
  pub is : (more : Constants) → index_in (grown edit ++ more) need ≡ index

-- the index of the last of what is needed, or 0 where nothing is
pub record IsIndexOfLast (edit : Edit) (needs : List Need) (index : ℕ) : Type 0 where
  pub is : (more : Constants) → index_of_last (grown edit ++ more) needs ≡ index

abbrev pub need_of_text : List ℕ → Need
need_of_text text = needs_itself (Utf8 text)

abbrev pub kind_needed : Reference → MemberKind
kind_needed Field = of_field
kind_needed Method = of_method
kind_needed InterfaceMethod = of_interface_method
