-- What is known of a class of a folder, its header, its methods and their code.
use Rattle.std.proofs.Common.{◌≡◌, ℕ, slice_get, Some, option_map, sym, ap, ◌∙◌}
use Rattle.std.specs.List.{AllByRecursion}
use Rattle.std.proofs.lemmas.Option.{slice_get-map, same_Some}
use Rattle.class_model.specs.Header.{header_of}
use Rattle.class_model.specs.Laws.Lists.{at_index}
use Rattle.class_model.specs.declared.class_file.ClassFile.{ClassFile}
use Rattle.class_model.specs.declared.class_file.Method.{Method}
use Rattle.class_model.specs.declared.class_file.MethodAt.{MethodAt}
use Rattle.class_model.specs.declared.header.Header.{Header}
use Rattle.class_tree.specs.Headers.{Classes, headers_of}
use Rattle.class_tree.specs.Order.{header_at}
use Rattle.class_tree.specs.declared.place.Place.TheVariants.{Folder}
use Rattle.code_bytes.specs.Codes.{HasOperands, HasReadMethods, HasReadOperands, IsReadMethod}

-- the header of a class at its place
pub header_of_class : (classes : Classes) (at : MethodAt) (class : ClassFile) (header : Header) → slice_get classes.folder at.class ≡ Some class → header_at (headers_of classes) (Folder at.class) ≡ Some header → header ≡ header_of class
header_of_class classes at class header is stands = same_Some header (header_of class) (sym stands ∙ slice_get-map header_of classes.folder at.class ∙ ap (option_map header_of) is)

-- a method of a class file
pub method_is_read : (class : ClassFile) (number : ℕ) (method : Method) → HasReadMethods class → slice_get class.methods number ≡ Some method → IsReadMethod class.pool method
method_is_read class number method read found = at_index (IsReadMethod class.pool) class.methods number method read found

pub method_has_operands : (class : ClassFile) (number : ℕ) (method : Method) → HasReadOperands class → slice_get class.methods number ≡ Some method → AllByRecursion (HasOperands class.pool class.major) method.attrs
method_has_operands class number method read found = at_index (λ (m : Method). AllByRecursion (HasOperands class.pool class.major) m.attrs) class.methods number method read found
