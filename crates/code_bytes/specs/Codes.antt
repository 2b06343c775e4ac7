-- What is known of the methods of a class file that was read: what reading asked of them (JVM Specification SE 8, 4.9.1).
use Rattle.std.specs.Prelude.{◌≡◌, ℕ, List, Result, Ok, Err, IfSome, IsSome, IsTrue}
use Rattle.std.specs.List.{AllByRecursion}
use Rattle.class_model.specs.Checks.{AllHold, Fault}
use Rattle.class_model.specs.Code.{OperandFits, inner_is_named, stack_map_table}
use Rattle.class_model.specs.Instructions.{decoded}
use Rattle.class_model.specs.Methods.{Home, IsDescriptorOf, home_of}
use Rattle.class_model.specs.Pool.{Constants}
use Rattle.class_model.specs.PoolChecks.{utf8_at}
use Rattle.class_model.specs.Stated.{stated_frames}
use Rattle.class_model.specs.declared.class_file.Attr.{Attr}
use Rattle.class_model.specs.declared.class_file.Attr.TheVariants.{Raw, Code}
use Rattle.class_model.specs.declared.class_file.ClassFile.{ClassFile}
use Rattle.class_model.specs.declared.class_file.Method.{Method}
use Rattle.class_model.specs.declared.frame.PlacedFrame.{PlacedFrame}
use Rattle.class_model.specs.declared.instr.Placed.{Placed}
use Rattle.code_bytes.specs.Decoding.{decoding_checks}

-- a code has instructions, and their targets are instructions
abbrev pub HasInstrs : Attr → Type 0
HasInstrs (Code name part) = AllHold (decoding_checks part.code)
HasInstrs (Raw name bytes) = Unit {0}

-- A method of a class with this pool: its descriptor is there and is one of its flags, and its code has instructions.
pub record IsReadMethod (pool : Constants) (method : Method) : Type 0 where
  pub there : IsSome (utf8_at pool method.desc)
  pub descriptor : IfSome (utf8_at pool method.desc) (IsDescriptorOf method.flags)
  pub codes : AllByRecursion HasInstrs method.attrs

abbrev pub HasReadMethods : ClassFile → Type 0
HasReadMethods class = AllByRecursion (IsReadMethod class.pool) class.methods

-- the constants that instructions name are of the kinds that they may name
abbrev pub HaveOperands : Constants → ℕ → ℕ → Result (List Placed) Fault → Type 0
HaveOperands pool major max_locals (Ok instrs) =
    AllByRecursion (λ placed. OperandFits pool major max_locals placed.instr) instrs
HaveOperands pool major max_locals (Err fault) = Unit {0}

abbrev pub HasOperands : Constants → ℕ → Attr → Type 0
HasOperands pool major (Code name part) =
    HaveOperands pool major part.max_locals (decoded part.code)
HasOperands pool major (Raw name bytes) = Unit {0}

-- those of each code of a class file
abbrev pub HasReadOperands : ClassFile → Type 0
HasReadOperands class =
    AllByRecursion (λ method. AllByRecursion
    (HasOperands class.pool class.major) method.attrs) class.methods

-- each StackMapTable of a code can be read
abbrev pub HaveFrames : Home → Method → Attr → Type 0
HaveFrames home method (Code name part) =
    AllByRecursion (λ attr. IsTrue (inner_is_named home.pool stack_map_table attr) →
    ((frames : List PlacedFrame) ×
    (stated_frames home method part (decoded part.code) attr ≡ Ok frames))) part.attrs
HaveFrames home method (Raw name bytes) = Unit {0}

abbrev pub HasReadFrames : ClassFile → Type 0
HasReadFrames class =
    AllByRecursion (λ method. AllByRecursion
    (HaveFrames (home_of class) method) method.attrs) class.methods
