-- The instructions of a field constructor are short: each has a spelling of at most four bytes wherever it stands.
use Rattle.std.proofs.Common.{◌≡◌, ◌+◌, ◌*◌, ◌++◌, ◌≤◌, ℕ, Bool, true, false, List, [], ◌∷◌, bytes_eq, cond, length, map, drop, nat_lt, slice_get, Option, Some, None, refl, sym, ap, ◌∙◌, append_assoc, append-nil, inl, arith}
use Rattle.std.specs.List.{AllByRecursion}
use Rattle.std.proofs.lemmas.List.{drop_all, length-append}
use Rattle.class_model.specs.Descriptors.{kind_of, type_of}
use Rattle.class_model.specs.Laws.Lists.{drop_item}
use Rattle.class_model.specs.Pool.{Constants}
use Rattle.class_model.specs.Spelling.{u2}
use Rattle.class_model.specs.declared.descriptor.Kind.{Kind}
use Rattle.class_model.specs.declared.descriptor.Kind.TheVariants as kinds
use Rattle.class_model.specs.declared.header.Member.{Member}
use Rattle.class_model.specs.declared.instr.Imm.TheVariants as imms
use Rattle.class_model.specs.declared.instr.Instr.{Instr}
use Rattle.class_model.specs.declared.instr.Instr.TheVariants.{Const, Invoke, Load, PutField, Return}
use Rattle.class_model.specs.declared.opcodes.TheConstants.{ILOAD, ILOAD_0, INVOKESPECIAL, WIDE}
use Rattle.class_tree.specs.Headers.{Headers, Name}
use Rattle.class_tree.specs.Layouts.{instance_fields, own_fields}
use Rattle.class_tree.specs.Names.{object}
use Rattle.code_bytes.specs.Forms.{instr_bytes, kind_index}
use Rattle.making_code.specs.ConstructorCode.{bytes_from, indexed_instr}
use Rattle.making_code.specs.FieldConstructor.{CInstr, call_above, calls_constructor, calls_object, constructor_items, fields_above, loads_from, puts_from, simple, super_call, superclass_of, units_of_fields}
use Rattle.constructor_methods.specs.Inner.ConstructorWords.{IsShortForm, units_of_desc}

-- ---- one instruction

of_tests : (one other : Bool) (xs ys zs : List ℕ) → length xs ≤ 4 → length ys ≤ 4 → length zs ≤ 4
    → length (cond one xs (cond other ys zs)) ≤ 4
of_tests true other xs ys zs first second third = first
of_tests false true xs ys zs first second third = second
of_tests false false xs ys zs first second third = third

short_load : (kind : Kind) (unit : ℕ) → IsShortForm (Load kind unit)
unfolding instr_bytes
short_load kind unit = record {
  no_targets = tt;
  form = λ at. tt;
  short = λ at. of_tests (nat_lt unit 4) (nat_lt unit 256) ((ILOAD_0 + 4 * kind_index kind + unit) ∷ [])
      ((ILOAD + kind_index kind) ∷ unit ∷ []) (WIDE ∷ (ILOAD + kind_index kind) ∷ u2 unit)
      (omega arith) (omega arith) (omega arith);
}

short_null : IsShortForm (Const imms.Null)
unfolding instr_bytes
short_null = record { no_targets = tt; form = λ at. tt; short = λ at. omega arith }

short_return : IsShortForm (Return None)
unfolding instr_bytes
short_return = record { no_targets = tt; form = λ at. tt; short = λ at. omega arith }

short_put : (index : ℕ) → IsShortForm (PutField index)
unfolding instr_bytes
short_put index = record { no_targets = tt; form = λ at. tt; short = λ at. omega arith }

short_call : (index : ℕ) → IsShortForm (Invoke INVOKESPECIAL index 0)
unfolding instr_bytes
short_call index = record { no_targets = tt; form = λ at. inl (refl, refl); short = λ at. omega arith }

-- ---- all of them

module _ (pool : Constants) (constructor : Name → List ℕ) where
  abbrev AreShort : List CInstr → Type 0
  AreShort items = AllByRecursion IsShortForm (map (indexed_instr pool constructor) items)

  both_short : (front back : List CInstr) → AreShort front → AreShort back → AreShort (front ++ back)
  both_short [] back one other = other
  both_short (item ∷ front) back one other = (one.0, both_short front back one.1 other)

  loads_short : (unit : ℕ) (fields : List Member) → AreShort (loads_from unit fields)
  loads_short unit [] = tt
  loads_short unit (field ∷ fields) = (short_load (kind_of (type_of field.desc)) unit, loads_short (unit + units_of_desc field.desc) fields)

  puts_short : (class : Name) (unit : ℕ) (fields : List Member) → AreShort (puts_from class unit fields)
  puts_short class unit [] = tt
  puts_short class unit (field ∷ fields) =
      (short_load kinds.Ref 0, (short_load (kind_of (type_of field.desc)) unit, (short_put _, puts_short class (unit + units_of_desc field.desc) fields)))

  call_short : (headers : Headers) (super : Name) → AreShort (super_call headers super)
  call_short headers super = by (bytes_eq super object) where
    by : (test : Bool) → AreShort (cond test (simple (Load kinds.Ref 0) ∷ calls_object ∷ [])
        (((simple (Load kinds.Ref 0) ∷ []) ++ loads_from 1 (instance_fields headers super)) ++ (simple (Const imms.Null) ∷ calls_constructor super ∷ [])))
    by true = (short_load kinds.Ref 0, (short_call _, tt))
    by false =
        both_short ((simple (Load kinds.Ref 0) ∷ []) ++ loads_from 1 (instance_fields headers super)) (simple (Const imms.Null) ∷ calls_constructor super ∷ [])
        (both_short (simple (Load kinds.Ref 0) ∷ []) (loads_from 1 (instance_fields headers super)) (short_load kinds.Ref 0, tt) (loads_short 1 (instance_fields headers super)))
        (short_null, (short_call _, tt))

  above_short : (headers : Headers) (super : Option Name) → AreShort (call_above headers super)
  above_short headers None = tt
  above_short headers (Some super) = call_short headers super

  pub all_short : (headers : Headers) (class : Name) → AreShort (constructor_items headers class)
  all_short headers class =
      let call = call_above headers (superclass_of headers class) in
      let puts = puts_from class (1 + units_of_fields (fields_above headers (superclass_of headers class))) (own_fields headers class) in
      both_short (call ++ puts) (simple (Return None) ∷ [])
      (both_short call puts (above_short headers (superclass_of headers class))
      (puts_short class (1 + units_of_fields (fields_above headers (superclass_of headers class))) (own_fields headers class)))
      (short_return, tt)

-- ---- bytes

-- what is spelled and the rest are all
pub record BytesRest (all : List Instr) (bytes : List ℕ) (rest : List Instr) : Type 0 where
  pub goes_on : bytes ++ bytes_from (length bytes) rest ≡ bytes_from 0 all

pub bytes_step : (all : List Instr) (bytes more : List ℕ) (at : ℕ) (instr : Instr) → slice_get all at ≡ Some instr
    → more ≡ bytes ++ instr_bytes (length bytes) instr
    → BytesRest all bytes (drop at all)
    → BytesRest all more (drop (at + 1) all)
bytes_step all bytes more at instr there is so_far = record {
  goes_on =
      let one = instr_bytes (length bytes) instr in
      let rest = drop (at + 1) all in
      let count : length more ≡ length bytes + length one = ap (λ (l : List ℕ). length l) is ∙ length-append bytes one in
      ap (λ (l : List ℕ). l ++ bytes_from (length more) rest) is
      ∙ ap (λ (n : ℕ). (bytes ++ one) ++ bytes_from n rest) count
      ∙ append_assoc bytes one (bytes_from (length bytes + length one) rest)
      ∙ ap (λ (l : List Instr). bytes ++ bytes_from (length bytes) l) (sym (drop_item all at instr there))
      ∙ so_far.goes_on;
}

pub bytes_done : (all : List Instr) (bytes : List ℕ) (at : ℕ) → length all ≤ at → BytesRest all bytes (drop at all) → bytes ≡ bytes_from 0 all
bytes_done all bytes at end so_far =
    sym (append-nil bytes)
    ∙ ap (λ (l : List Instr). bytes ++ bytes_from (length bytes) l) (sym (drop_all at all end))
    ∙ so_far.goes_on
