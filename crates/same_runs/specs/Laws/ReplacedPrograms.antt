-- A program in which some methods run other code, flags of fields are cleared, and instance initialisers are added is the same but for
-- these.
use Rattle.std.proofs.Common.{arith, ◌≡◌, ◌+◌, ◌*◌, ◌≤◌, ◌<◌, ◌%◌, ◌^◌, ◌==◌, not, ℕ, zero, suc, Bool, true, false, List, [], ◌∷◌, ◌++◌, map, slice_get, bit_and, is_some, Option, Some, None, option_map, if◌then◌else◌, IsTrue, refl, sym, ap, subst, ◌∙◌}
use Rattle.std.specs.Int.{bit_at}
use Rattle.std.specs.Int.Bits.{and_self, bit_xor, xor_add_and}
use Rattle.std.specs.List.{AllByRecursion}
use Rattle.std.proofs.lemmas.Bool.{eqb-true, false≢true}
use Rattle.std.proofs.lemmas.List.{map-append}
use Rattle.std.proofs.lemmas.Nat.{and_assoc, and_le_l}
use Rattle.std.proofs.lemmas.Option.{none-some, same_Some}
use Rattle.std.proofs.lemmas.Nat.Bits.{and_pow, bit_at-lt, bit_at_and, bit_at_xor}
use Rattle.class_model.specs.Members.{FINAL, NATIVE, PRIVATE, STATIC, has}
use Rattle.class_model.specs.declared.header.Member.{Member}
use Rattle.class_tree.specs.Names.{is_interface}
use Rattle.member_link.specs.Machine.Programs.{Code, Program, RunClass, RunMethod, code_run}
use Rattle.member_link.specs.Machine.Replaced.{Replacement, field_cleared, map_numbered, method_replaced, replaced, replaced_class, with_body, without_flags}
use Rattle.same_runs.specs.SamePrograms.{IsAdded, IsPlainStart, LinksNoInit, SameClass, SameClasses, SameFields, SameMethods, SamePrograms}

-- ---- flags

-- what is left of a flag, by its bit: what is cleared of it was set
abbrev taken : ℕ → ℕ → ℕ
taken flags cleared = bit_and flags (bit_and cleared (PRIVATE + FINAL))

flag_left : (flags cleared k : ℕ) → bit_at (without_flags flags cleared) k ≡ (bit_at flags k + bit_at (taken flags cleared) k) % 2
flag_left flags cleared k = ap (λ (n : ℕ). bit_at n k) (sym differ) ∙ bit_at_xor flags (taken flags cleared) k where
  within : bit_and flags (taken flags cleared) ≡ taken flags cleared
  within =
      sym (and_assoc (bit_and cleared (PRIVATE + FINAL)) flags flags)
      ∙ ap (λ (n : ℕ). bit_and n (bit_and cleared (PRIVATE + FINAL))) (and_self flags)

  differ : bit_xor flags (taken flags cleared) ≡ without_flags flags cleared
  differ =
      let less : taken flags cleared ≤ flags = and_le_l flags (bit_and cleared (PRIVATE + FINAL)) in
      omega (arith, xor_add_and flags (taken flags cleared), within, less)

-- a flag that is not cleared, or is neither private nor final, stays, by its bit
pub flag_stays : (flags cleared k : ℕ) → bit_at (bit_and cleared (PRIVATE + FINAL)) k ≡ 0
    → bit_at (without_flags flags cleared) k ≡ bit_at flags k
flag_stays flags cleared k other = flag_left flags cleared k ∙ stays where
  untaken : bit_at (taken flags cleared) k ≡ 0
  untaken =
      let both = bit_at_and flags (bit_and cleared (PRIVATE + FINAL)) k in
      omega (arith, both, other)

  stays : (bit_at flags k + bit_at (taken flags cleared) k) % 2 ≡ bit_at flags k
  stays = omega (arith, untaken, bit_at-lt flags k)

-- a flag of a place is there where its bit is
has_bit : (flags other k : ℕ) → bit_at other k ≡ bit_at flags k → has other (2 ^ k) ≡ has flags (2 ^ k)
has_bit flags other k same =
    ap (λ (n : ℕ). not (n == 0)) (and_pow other k ∙ ap (λ (n : ℕ). n * 2 ^ k) same ∙ sym (and_pow flags k))

pub static_stays : (flags cleared : ℕ) → has (without_flags flags cleared) STATIC ≡ has flags STATIC
static_stays flags cleared =
    has_bit flags (without_flags flags cleared) 3
    (flag_stays flags cleared 3 (omega (arith, bit_at_and cleared (PRIVATE + FINAL) 3, other))) where
      other : bit_at (PRIVATE + FINAL) 3 ≡ 0
      other = refl

-- the final flag stays where it is not cleared
pub final_stays : (flags cleared : ℕ) → has cleared FINAL ≡ false → has (without_flags flags cleared) FINAL ≡ has flags FINAL
final_stays flags cleared kept =
    has_bit flags (without_flags flags cleared) 4
    (flag_stays flags cleared 4 (omega (arith, bit_at_and cleared (PRIVATE + FINAL) 4, uncleared))) where
      nothing : bit_and cleared (2 ^ 4) ≡ 0
      nothing = by (bit_and cleared (2 ^ 4) == 0) refl where
        by : (b : Bool) → (bit_and cleared (2 ^ 4) == 0) ≡ b → bit_and cleared (2 ^ 4) ≡ 0
        by true e = eqb-true (bit_and cleared (2 ^ 4)) 0 e
        by false e = absurd (false≢true (sym kept ∙ rw (e) refl))

      uncleared : bit_at cleared 4 ≡ 0
      uncleared = omega (arith, and_pow cleared 4, nothing)

-- a flag of a place is not there where its bit is 0
no_bit : (flags k : ℕ) → bit_at flags k ≡ 0 → has flags (2 ^ k) ≡ false
no_bit flags k none =
    let nothing : 0 * 2 ^ k ≡ 0 = omega arith in
    ap (λ (n : ℕ). not (n == 0)) (and_pow flags k ∙ ap (λ (n : ℕ). n * 2 ^ k) none ∙ nothing)

one_bit : (flags k : ℕ) → has flags (2 ^ k) ≡ true → bit_at flags k ≡ 1
one_bit flags k is = by (bit_at flags k) refl (bit_at-lt flags k) where
  by : (bit : ℕ) → bit_at flags k ≡ bit → bit < 2 → bit ≡ 1
  by zero e less = absurd (false≢true (sym (no_bit flags k e) ∙ is))
  by (suc bit) e less = omega (arith, less)

-- a final flag that is cleared is not left
pub final_gone : (flags cleared : ℕ) → has cleared FINAL ≡ true → has (without_flags flags cleared) FINAL ≡ false
final_gone flags cleared is =
    let own = bit_at_and flags (bit_and cleared (PRIVATE + FINAL)) 4 in
    let both = bit_at_and cleared (PRIVATE + FINAL) 4 in
    let final : bit_at (PRIVATE + FINAL) 4 ≡ 1 = refl in
    no_bit (without_flags flags cleared) 4
    (flag_left flags cleared 4 ∙ omega (arith, own, both, final, one_bit cleared 4 is, bit_at-lt flags 4))

-- ---- members

fields_same : (r : Replacement) (class number : ℕ) (fields : List Member)
    → SameFields fields (map_numbered (field_cleared r class) number fields)
fields_same r class number [] = tt
fields_same r class number (field ∷ fields) =
    (refl, refl, static_stays field.flags (r.cleared class number), fields_same r class (suc number) fields)

-- a method runs other code only where it has code
pub body_member : (method : RunMethod) (body : Option Code) → (with_body method body).member ≡ method.member
body_member method None = refl
body_member method (Some code) = refl

pub body_code : (method : RunMethod) (body : Option Code) → is_some (code_run (with_body method body)) ≡ is_some (code_run method)
body_code method None = refl
body_code method (Some code) = by (has method.member.flags NATIVE) refl method.code refl where
  by : (native : Bool) → has method.member.flags NATIVE ≡ native → (old : Option Code) → method.code ≡ old
      → is_some (code_run (with_body method (Some code))) ≡ is_some (code_run method)
  by true is old has_code = rw (is) refl
  by false is None has_code = rw (is, has_code) refl
  by false is (Some old) has_code = rw (is, has_code) refl

-- the code of a method is another one where it has code
pub body_is : (method : RunMethod) (body code : Code) → code_run (with_body method (Some body)) ≡ Some code → code ≡ body
body_is method body code runs = by (has method.member.flags NATIVE) method.code runs where
  by : (native : Bool) (own : Option Code) → (if native then None else option_map (λ (old : Code). body) own) ≡ Some code → code ≡ body
  by true own e = absurd (none-some code e)
  by false None e = absurd (none-some code e)
  by false (Some old) e = sym (same_Some body code e)

methods_same : (r : Replacement) (class number : ℕ) (methods : List RunMethod)
    → SameMethods methods (map_numbered (method_replaced r class) number methods)
methods_same r class number [] = tt
methods_same r class number (method ∷ methods) =
    let body = r.body (record { class = class; method = number }) in
    (body_member method body, body_code method body, methods_same r class (suc number) methods)

pub members_same : (r : Replacement) (class number : ℕ) (methods : List RunMethod)
    → map (λ (method : RunMethod). method.member) (map_numbered (method_replaced r class) number methods)
    ≡ map (λ (method : RunMethod). method.member) methods
members_same r class number [] = refl
members_same r class number (method ∷ methods) =
    rw (body_member method (r.body (record { class = class; method = number })), members_same r class (suc number) methods) refl

-- ---- programs

-- What a replacement has to be for a program that it leaves the same: the program's own classes list their methods in the order of their
-- headers and begin with plain values, and what is added are instance initialisers of classes. Which codes take the place of others, and
-- which flags are cleared, doesn't matter.
pub record ReplacesAlike (P : Program) (r : Replacement) : Type 0 where
  pub no_init : LinksNoInit P.links
  pub members : (number : ℕ) (class : RunClass)
      → slice_get P.classes number ≡ Some class
      → map (λ method. method.member) class.methods ≡ class.header.methods
  pub plain_starts : (number : ℕ) (class : RunClass)
      → slice_get P.classes number ≡ Some class
      → AllByRecursion IsPlainStart class.starts
  pub are_added : (number : ℕ) (class : RunClass)
      → slice_get P.classes number ≡ Some class
      → AllByRecursion (IsAdded P class) (r.added number)
  pub of_interface : (number : ℕ) (class : RunClass)
      → slice_get P.classes number ≡ Some class
      → IsTrue (is_interface class.header)
      → r.added number ≡ []

module _ {P : Program} {r : Replacement} (alike : ReplacesAlike P r) where
  class_same : (number : ℕ) (class : RunClass) → slice_get P.classes number ≡ Some class → SameClass P class (replaced_class r number class)
  class_same number class is = record {
    name = refl;
    flags = refl;
    superclass = refl;
    interfaces = refl;
    fields = fields_same r number zero class.header.fields;
    starts = refl;
    plain_starts = alike.plain_starts number class is;
    handles = refl;
    members = alike.members number class is;
    same = map_numbered (method_replaced r number) zero class.methods;
    added = r.added number;
    methods = refl;
    header_methods =
        sym (map-append (λ (method : RunMethod). method.member) (map_numbered (method_replaced r number) zero class.methods)
        (r.added number)
        ∙ ap (λ (members : List Member). members ++ map (λ (method : RunMethod). method.member) (r.added number))
        (members_same r number zero class.methods ∙ alike.members number class is));
    are_same = methods_same r number zero class.methods;
    are_added = alike.are_added number class is;
    of_interface = alike.of_interface number class is;
  }

  classes_same : (number : ℕ) (classes : List RunClass)
      → ((later : ℕ) (class : RunClass)
      → slice_get classes later ≡ Some class
      → SameClass P class (replaced_class r (number + later) class))
      → SameClasses P classes (map_numbered (replaced_class r) number classes)
  classes_same number [] each = tt
  classes_same number (class ∷ classes) each = (
    subst (λ (n : ℕ). SameClass P class (replaced_class r n class)) (omega arith) (each zero class refl),
    classes_same (suc number) classes (λ later found is.
        subst (λ (n : ℕ). SameClass P found (replaced_class r n found)) (omega arith) (each (suc later) found is)),
  )

  -- A program in which codes are replaced, flags cleared and instance initialisers added is the same but for these.
  pub replaced_same : SamePrograms P (replaced P r)
  replaced_same = record {
    classes =
        classes_same zero P.classes (λ later class is.
        subst (λ (n : ℕ). SameClass P class (replaced_class r n class)) (omega arith) (class_same later class is));
    library = refl;
    links = refl;
    no_init = alike.no_init;
  }
