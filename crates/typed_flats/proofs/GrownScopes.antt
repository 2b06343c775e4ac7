-- What rows read, where flags are cleared.
use Rattle.std.proofs.Common.{arith, bit_and, ◌≡◌, ◌+◌, ℕ, zero, suc, List, [], ◌∷◌, Option, Some, None, refl, sym, subst}
use Rattle.std.proofs.lemmas.List.{append-nil}
use Rattle.std.specs.Int.Bits.{and_zero_r}
use Rattle.class_model.specs.Members.{FINAL, PRIVATE}
use Rattle.class_model.specs.declared.header.Header.{Header}
use Rattle.class_model.specs.declared.header.Member.{Member}
use Rattle.class_tree.specs.Alike.{AreFieldsAlike}
use Rattle.class_tree.specs.Headers.{Headers}
use Rattle.member_link.specs.Machine.Programs.{Program, folder_number, headers_in}
use Rattle.member_link.specs.Machine.Replaced.{Replacement, field_cleared, map_numbered, replaced, without_flags}
use Rattle.member_link.specs.RowScope.{RowScope}
use Rattle.type_rules.specs.Grown.{AreGrownHeaders, AreOpened, IsGrownHeader, IsGrownScope}
use Rattle.typed_flats.proofs.ReplacedClasses.{fields_in}

-- a class of a program where flags are cleared
abbrev pub header_in : Program → Replacement → Header → Header
header_in P r header = record header { fields = fields_in r 0 (folder_number P header.name) header.fields }

-- what a row reads there
abbrev pub scope_in : Program → Replacement → RowScope → RowScope
scope_in P r s = record s { headers = headers_in (replaced P r); own = header_in P r s.own }

-- ---- the current class has grown

itself_alike : (fields : List Member) → AreFieldsAlike fields fields
itself_alike [] = tt
itself_alike (field ∷ fields) = (record { same_name = refl; same_desc = refl }, itself_alike fields)

cleared_alike : (r : Replacement) (class number : ℕ) (fields : List Member) → AreFieldsAlike fields (map_numbered (field_cleared r class) number fields)
cleared_alike r class number [] = tt
cleared_alike r class number (field ∷ fields) = (record { same_name = refl; same_desc = refl }, cleared_alike r class (suc number) fields)

opened : (r : Replacement) (class number : ℕ) (fields : List Member) → AreOpened fields (map_numbered (field_cleared r class) number fields)
opened r class number [] = tt
opened r class number (field ∷ fields) = (record { cleared = r.cleared class number; flags = refl }, opened r class (suc number) fields)

nothing_cleared : (flags : ℕ) → flags ≡ without_flags flags 0
nothing_cleared flags = let none : bit_and flags (bit_and 0 (PRIVATE + FINAL)) ≡ 0 = and_zero_r flags in rw none (omega arith)

unopened : (fields : List Member) → AreOpened fields fields
unopened [] = tt
unopened (field ∷ fields) = (record { cleared = 0; flags = nothing_cleared field.flags }, unopened fields)

with_fields : (header : Header) (fields : List Member) → AreFieldsAlike header.fields fields → AreOpened header.fields fields
    → IsGrownHeader header (record header { fields = fields })
with_fields header fields alike are = record {
  alike = record {
    same_name = refl;
    same_flags = refl;
    same_super = refl;
    same_interfaces = refl;
    fields = alike;
    added = [];
    methods = sym (append-nil header.methods);
    initialisers = tt;
  };
  opened = are;
  initialisers = tt;
}

own_grown : (r : Replacement) (number : Option ℕ) (header : Header) → IsGrownHeader header (record header { fields = fields_in r 0 number header.fields })
own_grown r None header = with_fields header header.fields (itself_alike header.fields) (unopened header.fields)
own_grown r (Some number) header =
    with_fields header (map_numbered (field_cleared r (0 + number)) zero header.fields) (cleared_alike r (0 + number) zero header.fields)
    (opened r (0 + number) zero header.fields)

pub scope_grown : (P : Program) (r : Replacement) → AreGrownHeaders (headers_in P) (headers_in (replaced P r)) → (s : RowScope) → s.headers ≡ headers_in P
    → IsGrownScope s (scope_in P r s)
scope_grown P r grown s are = record {
  headers = subst (λ (hs : Headers). AreGrownHeaders hs (headers_in (replaced P r))) (sym are) grown;
  own = own_grown r (folder_number P s.own.name) s.own;
  rest = refl;
}
