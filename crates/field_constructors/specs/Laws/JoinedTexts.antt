-- Modified UTF-8 that stands one behind the other.
use Rattle.std.proofs.Common.{◌≡◌, ℕ, List, [], ◌∷◌, ◌++◌, append_assoc, refl, sym, ap, ◌∙◌}
use Rattle.std.specs.List.{AllByRecursion, flat_map}
use Rattle.class_model.specs.ModifiedUtf8.{IsCodeUnit, IsModifiedUtf8, unit_bytes}

joined_units : (units others : List ℕ) → flat_map unit_bytes (units ++ others) ≡ flat_map unit_bytes units ++ flat_map unit_bytes others
joined_units [] others = refl
joined_units (unit ∷ units) others = ap (λ (rest : List ℕ). unit_bytes unit ++ rest) (joined_units units others) ∙ sym (append_assoc (unit_bytes unit) (flat_map unit_bytes units) (flat_map unit_bytes others))

each_unit : (units others : List ℕ) → AllByRecursion IsCodeUnit units → AllByRecursion IsCodeUnit others → AllByRecursion IsCodeUnit (units ++ others)
each_unit [] others all also = also
each_unit (unit ∷ units) others all also = (all.0, each_unit units others all.1 also)

pub joined : (one other : List ℕ) → IsModifiedUtf8 one → IsModifiedUtf8 other → IsModifiedUtf8 (one ++ other)
joined one other is also = record {
  units = is.units ++ also.units;
  each = each_unit is.units also.units is.each also.each;
  spelled = (λ i. is.spelled i ++ also.spelled i) ∙ sym (joined_units is.units also.units);
}
