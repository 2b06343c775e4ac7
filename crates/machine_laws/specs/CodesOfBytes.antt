-- Class files whose codes are lists of bytes, as those that are read from files are.
use Rattle.std.specs.Prelude.{All, IfSome}
use Rattle.class_model.specs.Cutting.{IsBytes}
use Rattle.class_model.specs.MethodCode.{code_of}
use Rattle.class_model.specs.declared.class_file.ClassFile.{ClassFile}
use Rattle.class_model.specs.declared.class_file.Method.{Method}
use Rattle.class_tree.specs.Headers.{Classes}

abbrev pub HasCodeOfBytes : Method → Type 0
HasCodeOfBytes method = IfSome (code_of method.attrs) (λ part. IsBytes part.code)

abbrev pub HasCodesOfBytes : ClassFile → Type 0
HasCodesOfBytes class = All HasCodeOfBytes class.methods

abbrev pub HaveCodesOfBytes : Classes → Type 0
HaveCodesOfBytes classes = All HasCodesOfBytes classes.folder
