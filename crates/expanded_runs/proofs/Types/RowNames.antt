-- That names of classes are there is kept by rows: the component of an array is there, and arrays of primitive types are.
use Rattle.std.proofs.Common.{◌≡◌, ◌==◌, ℕ, Option, Some, None, subst}
use Rattle.class_model.specs.declared.array_codes.TheConstants.{T_BOOLEAN, T_CHAR, T_FLOAT, T_DOUBLE, T_BYTE, T_SHORT, T_INT, T_LONG}
use Rattle.class_model.specs.declared.instr.Instr.{Instr}
use Rattle.class_tree.specs.Headers.{Headers, Name, class_named}
use Rattle.class_tree.specs.Subtype.{IsArray}
use Rattle.expanded_runs.proofs.Types.NamedTypes.{component_there}
use Rattle.expanded_runs.specs.Laws.KeptNames.{either_has}
use Rattle.expanded_runs.specs.NamedFrames.{IsKeptName, PoolHas}
use Rattle.member_link.specs.References.{IsNamedThere}
use Rattle.member_link.specs.RowScope.{RowScope}
use Rattle.member_link.specs.Rows.ArrayRows.{primitive_array}

-- What the constants of an instruction give: types that name classes that are there.
abbrev pub PoolNamed : RowScope → Instr → Type 0
PoolNamed s instr = PoolHas (IsNamedThere s.headers) s instr

module _ (headers : Headers) where
  abbrev HasNamedArray : Option Name → Type 0
  HasNamedArray None = Unit {0}
  HasNamedArray (Some name) = IsNamedThere headers name

  primitive_named : (code : ℕ) → HasNamedArray (primitive_array code)
  primitive_named code =
      either_has HasNamedArray (code == T_BOOLEAN) _ _ tt
      (either_has HasNamedArray (code == T_CHAR) _ _ tt
      (either_has HasNamedArray (code == T_FLOAT) _ _ tt
      (either_has HasNamedArray (code == T_DOUBLE) _ _ tt
      (either_has HasNamedArray (code == T_BYTE) _ _ tt
      (either_has HasNamedArray (code == T_SHORT) _ _ tt
      (either_has HasNamedArray (code == T_INT) _ _ tt
      (either_has HasNamedArray (code == T_LONG) _ _ tt tt)))))))

  pub there_kept : ((name : Name) → IsArray name → class_named headers name ≡ None) → IsKeptName (IsNamedThere headers)
  there_kept no_array = record {
    component = component_there headers no_array;
    primitive = λ code name is. subst HasNamedArray is (primitive_named code);
  }
