-- A program of a folder whose methods run flat code is the program of the folder but for these codes.
use Rattle.std.proofs.Common.{◌≡◌, ℕ, suc, Bool, true, false, List, [], ◌∷◌, map, slice_get, Option, Some, None, option_map, IsTrue, refl, sym, subst, ◌∙◌}
use Rattle.std.specs.List.{AllByRecursion}
use Rattle.std.proofs.lemmas.Option.{none-some, same_Some, slice_get-map}
use Rattle.class_model.specs.Header.{method_member}
use Rattle.class_model.specs.Members.{has, STATIC}
use Rattle.class_model.specs.Pool.{Constants}
use Rattle.class_model.specs.PoolChecks.{utf8_at}
use Rattle.class_model.specs.declared.class_file.ClassFile.{ClassFile}
use Rattle.class_model.specs.declared.class_file.Field.{Field}
use Rattle.class_model.specs.declared.class_file.Method.{Method}
use Rattle.class_model.specs.declared.pool.Const.{Const}
use Rattle.class_model.specs.declared.pool.Const.TheVariants as consts
use Rattle.class_tree.specs.Headers.{Classes, Headers, Name, headers_of}
use Rattle.class_tree.specs.Names.{is_interface}
use Rattle.member_link.specs.Machine.Classes.{constant_of, program_of, run_class_of, run_method_of, start_of, starts_from}
use Rattle.member_link.specs.Machine.Links.{AreLinksOf}
use Rattle.member_link.specs.Machine.Programs.{Links, RunClass, RunMethod, StartValue, start_string}
use Rattle.member_link.specs.Machine.Replaced.{Replacement}
use Rattle.member_link.specs.References.{Reference}
use Rattle.same_runs.specs.Flats.{Flats, flat_program, flats_for_codes}
use Rattle.same_runs.specs.SamePrograms.{IsAdded, IsPlainStart, SameBar, SamePrograms}
use Rattle.same_runs.specs.Laws.ClearedFlags.{bar_as_before}
use Rattle.same_runs.specs.Laws.NoInitLinks.{links_no_init}
use Rattle.same_runs.specs.Laws.ReplacedPrograms.{ReplacesAlike, replaced_same}

-- ---- static fields begin with plain values

abbrev IsPlainValue : Option StartValue → Type 0
IsPlainValue value = (number : ℕ) (start : StartValue) → value ≡ Some start → IsPlainStart (record { field = number; value = start })

no_start : IsPlainValue None
no_start number start is = absurd (none-some start is)

plain : (value : StartValue) → ((number : ℕ) → IsPlainStart (record { field = number; value = value })) → IsPlainValue (Some value)
plain value holds number start is =
    subst (λ (v : StartValue). IsPlainStart (record { field = number; value = v })) (same_Some value start is) (holds number)

string_plain : (text : Option (List ℕ)) → IsPlainValue (option_map start_string text)
string_plain None = no_start
string_plain (Some text) = plain (start_string text) (λ number. tt)

start_plain : (pool : Constants) (constant : Option Const) → IsPlainValue (start_of pool constant)
start_plain pool None = no_start
start_plain pool (Some (consts.Utf8 text)) = no_start
start_plain pool (Some (consts.Integer number)) = plain _ (λ at. tt)
start_plain pool (Some (consts.Float bits)) = plain _ (λ at. tt)
start_plain pool (Some (consts.Long number)) = plain _ (λ at. tt)
start_plain pool (Some (consts.Double bits)) = plain _ (λ at. tt)
start_plain pool (Some (consts.Class name)) = no_start
start_plain pool (Some (consts.String text)) = string_plain (utf8_at pool text)
start_plain pool (Some (consts.Fieldref class member)) = no_start
start_plain pool (Some (consts.Methodref class member)) = no_start
start_plain pool (Some (consts.InterfaceMethodref class member)) = no_start
start_plain pool (Some (consts.NameAndType name desc)) = no_start
start_plain pool (Some (consts.MethodHandle kind reference)) = no_start
start_plain pool (Some (consts.MethodType desc)) = no_start
start_plain pool (Some (consts.InvokeDynamic bootstrap member)) = no_start

pub starts_plain : (pool : Constants) (number : ℕ) (fields : List Field) → AllByRecursion IsPlainStart (starts_from pool number fields)
starts_plain pool number [] = tt
starts_plain pool number (field ∷ fields) =
    by (has field.flags STATIC) refl (start_of pool (constant_of pool field.attrs)) refl (start_plain pool (constant_of pool field.attrs))
    (starts_plain pool (suc number) fields) where
      by : (static : Bool) → has field.flags STATIC ≡ static → (value : Option StartValue)
          → start_of pool (constant_of pool field.attrs) ≡ value → IsPlainValue value
          → AllByRecursion IsPlainStart (starts_from pool (suc number) fields)
          → AllByRecursion IsPlainStart (starts_from pool number (field ∷ fields))
      by false is value starts holds rest = rw (is) rest
      by true is None starts holds rest = rw (is, starts) rest
      by true is (Some value) starts holds rest = rw (is, starts) (holds number value refl, rest)

-- ---- methods stand in the order of the header

pub members_of_class : (links : Links) (headers : Headers) (class : ClassFile) (methods : List Method)
    → map (λ (method : RunMethod). method.member) (map (run_method_of links headers class) methods) ≡ map (method_member class.pool) methods
members_of_class links headers class [] = refl
members_of_class links headers class (method ∷ methods) = rw (members_of_class links headers class methods) refl

-- ---- the program of a folder

-- each class of the program is that of a class file
pub class_of_file : (classes : Classes) (links : Links) (number : ℕ) (class : RunClass)
    → slice_get (program_of classes links).classes number ≡ Some class
    → (file : ClassFile) × (run_class_of links (headers_of classes) file ≡ class) × (slice_get classes.folder number ≡ Some file)
class_of_file classes links number class is = by (slice_get classes.folder number) refl
    (sym (slice_get-map (run_class_of links (headers_of classes)) classes.folder number) ∙ is) where
      by : (file : Option ClassFile) → slice_get classes.folder number ≡ file → option_map (run_class_of links (headers_of classes)) file ≡ Some class
          → (file : ClassFile) × (run_class_of links (headers_of classes) file ≡ class) × (slice_get classes.folder number ≡ Some file)
      by None there is = absurd (none-some class is)
      by (Some file) there is = (file, same_Some (run_class_of links (headers_of classes) file) class is, there)

-- ---- what takes the place

-- A folder's program in which initialisers are added to classes, whatever codes and flags are replaced.
pub added_alike : (classes : Classes) (links : Links) → AreLinksOf (headers_of classes) links
    → (r : Replacement)
    → ((number : ℕ) (class : RunClass)
    → slice_get (program_of classes links).classes number ≡ Some class
    → AllByRecursion (IsAdded (program_of classes links) class) (r.added number))
    → ((number : ℕ) (class : RunClass)
    → slice_get (program_of classes links).classes number ≡ Some class
    → IsTrue (is_interface class.header)
    → r.added number ≡ [])
    → ReplacesAlike (program_of classes links) r
added_alike classes links linked r are_added of_interface =
    record {
      no_init = links_no_init (headers_of classes) links linked;
      members = λ number class is.
          let file = class_of_file classes links number class is in
          subst (λ (c : RunClass). map (λ (method : RunMethod). method.member) c.methods ≡ c.header.methods) file.1
          (members_of_class links (headers_of classes) file.0 file.0.methods);
      plain_starts = λ number class is.
          let file = class_of_file classes links number class is in
          subst (λ (c : RunClass). AllByRecursion IsPlainStart c.starts) file.1 (starts_plain file.0.pool 0 file.0.fields);
      are_added = are_added;
      of_interface = of_interface;
    }

-- one to which nothing is added
pub none_added_alike : (classes : Classes) (links : Links) → AreLinksOf (headers_of classes) links
    → (r : Replacement)
    → ((number : ℕ) → r.added number ≡ [])
    → ReplacesAlike (program_of classes links) r
none_added_alike classes links linked r none =
    added_alike classes links linked r
    (λ number class there.
    subst (AllByRecursion (IsAdded (program_of classes links) class)) (sym (none number)) tt)
    (λ number class there interface. none number)

-- Flat codes of any methods of a folder leave its program the same but for these codes.
pub flats_alike : (classes : Classes) (links : Links) (flats : Flats) → AreLinksOf (headers_of classes) links
    → ReplacesAlike (program_of classes links) (flats_for_codes classes links flats)
flats_alike classes links flats linked = none_added_alike classes links linked (flats_for_codes classes links flats) (λ number. refl)

pub flat_program_same : (classes : Classes) (links : Links) (flats : Flats) → AreLinksOf (headers_of classes) links
    → SamePrograms (program_of classes links) (flat_program classes links flats)
flat_program_same classes links flats are = replaced_same (flats_alike classes links flats are)

-- a store is barred in both or in none
pub flat_bar_same : (classes : Classes) (links : Links) (flats : Flats) (r : Reference) (initialises : Option Name)
    → SameBar (program_of classes links) (flat_program classes links flats) r initialises initialises
flat_bar_same classes links flats r initialises =
    bar_as_before (program_of classes links) (flats_for_codes classes links flats) r initialises (λ class number. refl)
