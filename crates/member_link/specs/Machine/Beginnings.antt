-- Initialisation of classes (JVM Specification SE 8, 5.5): a class is begun, those above it that are to come first are begun in their
-- turn, and then its class initialiser runs. Classes of the library count as begun.
use Rattle.std.specs.Prelude.{◌&&◌, ◌-◌, not, ℕ, zero, suc, Bool, false, List, [], ◌∷◌, ◌++◌, length, slice_get, codes, replicate, filter, Option, Some, None, option_and_then, is_some, if◌then◌else◌}
use Rattle.std.specs.List.{list_any, flat_map}
use Rattle.class_model.specs.Descriptors.{type_of}
use Rattle.class_model.specs.Members.{has, STATIC, ABSTRACT}
use Rattle.class_model.specs.Names.{clinit}
use Rattle.class_model.specs.declared.class_file.MethodAt.{MethodAt}
use Rattle.class_model.specs.declared.header.Header.{Header}
use Rattle.class_model.specs.declared.header.Member.{Member}
use Rattle.class_tree.specs.Headers.{Name, all_headers}
use Rattle.class_tree.specs.Names.{is_interface}
use Rattle.machine_values.specs.Frames.{MethodState}
use Rattle.machine_values.specs.declared.frame.RunFrame.{RunFrame}
use Rattle.machine_values.specs.declared.frame.RunFrame.TheVariants.{Beginning, Method}
use Rattle.machine_values.specs.declared.object.Constant.TheVariants.{Str}
use Rattle.machine_values.specs.declared.value.Value.{Value}
use Rattle.machine_values.specs.declared.value.Value.TheVariants.{Ref}
use Rattle.machine_values.specs.Heaps.{Made, constant_made}
use Rattle.member_link.specs.Machine.Programs.{Program, RunClass, Code, StartValue, start_value, start_string, StaticStart, headers_in, header_named, folder_number, place_of_method, code_at, name_of_class}
use Rattle.machine_values.specs.Values.{narrowed}
use Rattle.member_link.specs.Machine.Worlds.{Memory, World, with_heap, with_static, is_begun, field_desc, stuck}

-- ---- the static fields of a class that begins (4.7.2)

abbrev pub with_start : Program → ℕ → Memory → StaticStart → Memory
with_start P class memory start = of_value start.value where
  keep : Memory → Value → Memory
  keep memory value =
      with_static memory class start.field
      (narrowed (type_of (field_desc P class start.field)) value)

  of_made : Made → Memory
  of_made made = keep (with_heap memory made.heap) (Ref made.reference)

  of_value : StartValue → Memory
  of_value (start_value value) = keep memory value
  of_value (start_string text) = of_made (constant_made memory.heap (Str text))

abbrev pub with_starts : Program → ℕ → Memory → List StaticStart → Memory
with_starts P class memory [] = memory
with_starts P class memory (start ∷ starts) =
    with_starts P class (with_start P class memory start) starts

abbrev pub starts_of : Program → ℕ → List StaticStart
starts_of P class = of_class (slice_get P.classes class) where
  of_class : Option RunClass → List StaticStart
  of_class None = []
  of_class (Some found) = found.starts

-- a class is marked as begun, and its static fields have their constant values
abbrev pub begun_memory : Program → ℕ → Memory → Memory
begun_memory P class memory =
    with_starts P class (record memory { begun = memory.begun ++ class ∷ [] }) (starts_of P class)

-- and its beginning is on top of these frames
abbrev pub begun_on : Program → ℕ → World → List RunFrame → World
begun_on P class w frames =
    record w { memory = begun_memory P class w.memory; frames = Beginning class ∷ frames }

-- ---- the classes that come first

-- a method that is neither abstract nor static
abbrev pub is_default : Member → Bool
is_default method = not (has method.flags ABSTRACT) && not (has method.flags STATIC)

abbrev pub has_defaults : Option Header → Bool
has_defaults None = false
has_defaults (Some header) = list_any is_default header.methods

-- Interfaces in order, each behind its own superinterfaces; followed at most as many times as there are classes.
abbrev pub interfaces_up : Program → ℕ → List Name → List Name
interfaces_up P zero names = []
interfaces_up P (suc left) names =
    flat_map (λ name. of_header (interfaces_up P left) name (header_named P name)) names where
      of_header : (List Name → List Name) → Name → Option Header → List Name
      of_header above name None = []
      of_header above name (Some header) = above header.interfaces ++ name ∷ []

-- the superclass, and then the superinterfaces with such a method; for an interface none
abbrev pub come_first : Program → Header → List Name
come_first P header =
    if is_interface header
    then []
    else supers header.super_name
    ++ filter (λ name. has_defaults (header_named P name))
    (interfaces_up P (length (all_headers (headers_in P))) header.interfaces) where
      supers : Option Name → List Name
      supers None = []
      supers (Some name) = name ∷ []

-- the first class of the folder among these that is not begun
abbrev pub first_unbegun : Program → Memory → List Name → Option ℕ
first_unbegun P memory [] = None
first_unbegun P memory (name ∷ names) =
    of_number (folder_number P name) (first_unbegun P memory names) where
      of_number : Option ℕ → Option ℕ → Option ℕ
      of_number None others = others
      of_number (Some number) others = if is_begun memory number then others else Some number

-- ---- the class initialiser

-- the class initialiser of a class, if it has one with code
abbrev pub initialiser_of : Program → ℕ → Option MethodAt
initialiser_of P class =
    option_and_then if_code
    (place_of_method P
    (record { class = name_of_class P class; name = clinit; desc = codes "()V" })) where
      if_code : MethodAt → Option MethodAt
      if_code at = if is_some (code_at P at) then Some at else None

-- the frame of a method that begins with these local units
abbrev pub frame_with : Program → MethodAt → List (Option Value) → Option ℕ → MethodState
frame_with P at units held =
    record { at = at; place = 0; locals = padded (code_at P at); stack = []; held = held } where
      padded : Option Code → List (Option Value)
      padded None = units
      padded (Some code) = units ++ replicate (code.locals - length units) None

-- the class initialiser takes the place of the beginning; without one the beginning is over
abbrev pub past_beginning : Program → World → List RunFrame → Option MethodAt → World
past_beginning P w rest None = record w { frames = rest }
past_beginning P w rest (Some at) = record w { frames = Method (frame_with P at [] None) ∷ rest }

-- the first class that comes before it is begun, and where none is left its class initialiser runs
abbrev pub begun_next : Program → ℕ → World → List RunFrame → Option ℕ → World
begun_next P class w rest (Some first) = begun_on P first w (Beginning class ∷ rest)
begun_next P class w rest None = past_beginning P w rest (initialiser_of P class)

abbrev pub beginning_of : Program → ℕ → World → List RunFrame → Option RunClass → World
beginning_of P class w rest None = record w { halt = stuck }
beginning_of P class w rest (Some found) =
    begun_next P class w rest (first_unbegun P w.memory (come_first P found.header))

-- one step of a beginning
abbrev pub beginning_step : Program → ℕ → World → List RunFrame → World
beginning_step P class w rest = beginning_of P class w rest (slice_get P.classes class)
