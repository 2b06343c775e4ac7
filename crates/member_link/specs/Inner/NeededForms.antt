-- The forms that instructions and loaded constants need of members, as the code tells them apart.
use Rattle.std.specs.Prelude.{Option}
use Rattle.class_model.specs.declared.pool.Const.{Const}
use Rattle.class_tree.specs.Headers.{Headers}
use Rattle.member_link.specs.DeclaredMembers.{Declared}
use Rattle.member_link.specs.Forms.{IsStaticForm, IsInstanceForm, FitsCall}
use Rattle.member_link.specs.References.{Reference}
use Rattle.member_link.specs.Uses.{HasAnyForm}
use Rattle.member_link.specs.declared.forms.FieldForm.{FieldForm}
use Rattle.member_link.specs.declared.forms.FieldForm.TheVariants as field_forms
use Rattle.member_link.specs.declared.forms.MethodForm.{MethodForm}
use Rattle.member_link.specs.declared.forms.MethodForm.TheVariants as method_forms

abbrev pub IsFieldForm : FieldForm → Declared → Type 0
IsFieldForm field_forms.Any = HasAnyForm
IsFieldForm field_forms.Static = IsStaticForm
IsFieldForm field_forms.Instance = IsInstanceForm

abbrev pub IsMethodForm : Headers → MethodForm → Option Const → Reference → Declared → Type 0
IsMethodForm headers method_forms.Any constant = λ reference. HasAnyForm
IsMethodForm headers (method_forms.Call opcode) constant = FitsCall headers opcode constant
