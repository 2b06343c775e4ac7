-- A program in which some methods with code run other code, private and final flags of some fields are cleared, and instance initialisers
-- are added at the end of some classes. Its links are the same, since they say nothing of instance initialisers.
use Rattle.std.specs.Prelude.{◌≡◌, ◌+◌, ◌-◌, All, ℕ, zero, suc, List, [], ◌∷◌, ◌++◌, map, bit_and, Option, Some, None, option_map}
use Rattle.class_model.specs.Members.{PRIVATE, FINAL}
use Rattle.class_model.specs.Names.{init}
use Rattle.class_model.specs.declared.class_file.MethodAt.{MethodAt}
use Rattle.class_model.specs.declared.header.Member.{Member}
use Rattle.member_link.specs.Machine.Programs.{Program, RunClass, RunMethod, Code}

-- What takes the place: the code of a method, if it is another one; the flags that are cleared of a field, of private and final, by the
-- numbers of its class and its own; and the methods that are added to a class.
pub record Replacement : Type 0 where
  pub body : MethodAt → Option Code
  pub cleared : ℕ → ℕ → ℕ
  pub added : ℕ → List RunMethod

-- flags less those of private and final that are cleared
abbrev pub without_flags : ℕ → ℕ → ℕ
without_flags flags cleared = flags - bit_and flags (bit_and cleared (PRIVATE + FINAL))

-- each item of a list by its number, from the number of the first on
abbrev pub map_numbered : {A B : Type 0} → (ℕ → A → B) → ℕ → List A → List B
map_numbered change number [] = []
map_numbered change number (item ∷ items) =
    change number item ∷ map_numbered change (suc number) items

-- a field less the flags that are cleared
abbrev pub field_cleared : Replacement → ℕ → ℕ → Member → Member
field_cleared r class field member =
    record member { flags = without_flags member.flags (r.cleared class field) }

abbrev pub with_body : RunMethod → Option Code → RunMethod
with_body method None = method
with_body method (Some code) = record method { code = option_map (λ old. code) method.code }

-- a method with the code that takes the place of its own, if one does
abbrev pub method_replaced : Replacement → ℕ → ℕ → RunMethod → RunMethod
method_replaced r class number method =
    with_body method (r.body (record { class = class; method = number }))

abbrev pub replaced_class : Replacement → ℕ → RunClass → RunClass
replaced_class r number class = record class {
  header = record class.header {
    fields = map_numbered (field_cleared r number) zero class.header.fields;
    methods = class.header.methods ++ map (λ method. method.member) (r.added number);
  };
  methods = map_numbered (method_replaced r number) zero class.methods ++ r.added number;
}

-- each method that is added is an instance initialiser
abbrev pub AddsInitialisers : Replacement → Type 0
AddsInitialisers r =
    (class : ℕ) → All (λ (method : RunMethod). method.member.name ≡ init) (r.added class)

abbrev pub replaced : Program → Replacement → Program
replaced P r = record P { classes = map_numbered (replaced_class r) zero P.classes }
