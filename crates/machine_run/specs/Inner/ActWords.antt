-- Words of the library's actions.
use Rattle.std.specs.Prelude.{◌≡◌, ◌==◌, ◌&&◌, ◌||◌, not, Bool, true, false, ℕ, List, ◌∷◌, Vec, bytes_eq, Option, Some, None, is_some}
use Rattle.std.specs.List.{list_any}
use Rattle.std.specs.declared.alloc.Global.{Global}
use Rattle.class_model.specs.Descriptors.{parameters_of}
use Rattle.class_model.specs.Members.{has, ABSTRACT}
use Rattle.class_model.specs.Names.{init}
use Rattle.class_model.specs.Pool.{Constants, constant_at}
use Rattle.class_model.specs.declared.class_file.ClassFile.{ClassFile}
use Rattle.class_model.specs.declared.class_file.MethodAt.{MethodAt}
use Rattle.class_model.specs.declared.pool.Const.{Const}
use Rattle.class_model.specs.declared.pool.Const.TheVariants.{MethodHandle}
use Rattle.class_model.specs.declared.header.Header.{Header}
use Rattle.class_tree.specs.Headers.{Name}
use Rattle.class_tree.specs.Names.{is_interface}
use Rattle.machine_values.specs.declared.value.Value.{Value}
use Rattle.machine_values.specs.declared.value.Value.TheVariants.{Null, Ref}
use Rattle.member_link.specs.Machine.Acting.{NEW_INVOKE_SPECIAL, all_conform, beginning_if, is_concrete, is_handled, with_made}
use Rattle.member_link.specs.Machine.ObjectSteps.{blank_object}
use Rattle.member_link.specs.Machine.Performing.{called}
use Rattle.member_link.specs.Machine.Programs.{Program, code_at, header_named}
use Rattle.member_link.specs.Machine.Worlds.{Memory, World, with_heap}
use Rattle.member_link.specs.References.{Reference}
use Rattle.member_link.specs.Signatures.{reference_of}

-- the list that a vector holds
abbrev pub items_of : Vec Value Global → List Value
items_of values = values.items

-- a value is null
abbrev pub is_null : Value → Bool
is_null Null = true
is_null value = false

-- ---- handles of instance initialisers

-- a text that may be there is this one
abbrev pub is_text : List ℕ → Option (List ℕ) → Bool
is_text text None = false
is_text text (Some found) = bytes_eq text found

-- a member that may be there is the instance initialiser of a class
abbrev pub is_initialiser : Name → List ℕ → Option Reference → Bool
is_initialiser class desc None = false
is_initialiser class desc (Some found) =
    bytes_eq class found.class && (bytes_eq init found.name && bytes_eq desc found.desc)

-- an entry of a pool is a handle that makes an object by it
abbrev pub makes_object : Constants → Name → List ℕ → Option Const → Bool
makes_object pool class desc (Some (MethodHandle kind reference)) =
    NEW_INVOKE_SPECIAL == kind
    && is_initialiser class desc (reference_of pool (constant_at pool reference))
makes_object pool class desc entry = false

-- a class file has such a handle
abbrev pub has_maker : Name → List ℕ → ClassFile → Bool
has_maker class desc file = list_any (makes_object file.pool class desc) file.pool

-- ---- constructions

-- a class is neither abstract nor an interface
abbrev pub is_concrete_header : Header → Bool
is_concrete_header header = not (has header.flags ABSTRACT || is_interface header)

-- the library may call the instance initialiser at a place with these values
abbrev pub may_construct : Program → World → Name → List ℕ → MethodAt → List Value → Bool
may_construct P w class desc at values =
    is_some (code_at P at)
    && (is_concrete (header_named P class)
    && (is_handled P class desc && all_conform P w (parameters_of desc) values))

-- An object with blank fields was made of the class of this number, whose reference it is, or none where there is no such class.
abbrev pub IsMade : Program → Memory → Memory → Option ℕ → Option ℕ → Type 0
IsMade P before after (Some number) (Some reference) =
    (after ≡ with_heap before (blank_object P before.heap number).heap)
    × (reference ≡ (blank_object P before.heap number).reference)
IsMade P before after None None = after ≡ before
IsMade P before after number reference = ⊥

-- an instance initialiser is called on a new object
abbrev pub initialised : Program → World → Name → MethodAt → ℕ → List Value → World
initialised P w class at reference values =
    beginning_if P class (called P w at (Ref reference ∷ values) (with_made reference w.frames))
