-- What is asked of the folder's classes so that the constants of a field constructor are well formed. It is this project's profile.
use Rattle.std.specs.Prelude.{◌≡◌, ◌≢◌, ℕ, not, List, filter, Some}
use Rattle.class_model.specs.Header.{header_of}
use Rattle.class_model.specs.Members.{STATIC, has}
use Rattle.class_model.specs.ModifiedUtf8.{IsModifiedUtf8}
use Rattle.class_model.specs.PoolChecks.{ReturnsVoid}
use Rattle.class_model.specs.declared.class_file.ClassFile.{ClassFile}
use Rattle.class_tree.specs.Headers.{Headers, IsClassFile, Name}
use Rattle.class_tree.specs.Layouts.{own_fields}
use Rattle.class_tree.specs.Names.{object}
use Rattle.making_code.specs.FieldConstructor.{superclass_of}

-- By the headers of the folder, the superclass and the own fields of a class are those of its file; its constructor's descriptor is a text, and
-- the one of the superclass, where that has a field constructor too, is a text and a method's without result.
pub record HasSoundTexts (headers : Headers) (constructor : Name → List ℕ) (file : ClassFile) : Type 0 where
  pub is_class_file : IsClassFile file
  pub above : Name
  pub superclass : (header_of file).super_name ≡ Some above
  pub is_above : superclass_of headers (header_of file).name ≡ Some above
  pub own : own_fields headers (header_of file).name
      ≡ filter (λ field. not (has field.flags STATIC)) (header_of file).fields
  pub text : IsModifiedUtf8 (constructor (header_of file).name)
  pub text_above : above ≢ object → IsModifiedUtf8 (constructor above)
  pub void_above : above ≢ object → ReturnsVoid (constructor above)
