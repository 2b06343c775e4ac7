-- What is asked of a written folder so that each of its classes is a class file (JVM Specification SE 8, 4.1 to 4.9). It is this project's profile.
use Rattle.std.specs.Prelude.{◌≡◌, ◌^◌, ◌<◌, ◌≤◌, ℕ, List, length, slice_get, Some, IsFalse}
use Rattle.std.specs.List.{AllByRecursion}
use Rattle.class_model.specs.Code.{FitsLocal}
use Rattle.class_model.specs.Descriptors.{SpellsDescriptor}
use Rattle.class_model.specs.Header.{header_of}
use Rattle.class_model.specs.Members.{INTERFACE, has}
use Rattle.class_model.specs.Spelling.{code_part_bytes}
use Rattle.class_model.specs.declared.class_file.ClassFile.{ClassFile}
use Rattle.class_model.specs.declared.class_file.MethodAt.{MethodAt}
use Rattle.class_model.specs.declared.descriptor.Descriptor.{Descriptor}
use Rattle.class_model.specs.declared.frame.PlacedFrame.{PlacedFrame}
use Rattle.class_model.specs.declared.instr.Instr.{Instr}
use Rattle.class_model.specs.declared.instr.Instr.TheVariants.{Load, Store}
use Rattle.class_rewrite.specs.Rewriting.Folders.{IsFolderWritten, IsMade, IsRewrittenAt}
use Rattle.class_rewrite.specs.Rewriting.Methods.{Rewriting, Rewritten, short_items}
use Rattle.class_rewrite.specs.Rewriting.Verifying.{IsWrittenIn}
use Rattle.class_tree.specs.Headers.{Name, headers_of}
use Rattle.code_layout.specs.Emitting.{IsEmitted}
use Rattle.code_layout.specs.Layout.{start_in}
use Rattle.expanded_runs.specs.VersionsKept.{AreOfVersion}
use Rattle.flow_code.specs.WrittenUnits.{written_units}
use Rattle.making_code.specs.Items.{WCatch, WInstr, WItem, constructs, makes}
use Rattle.member_link.specs.Scope.{Scope}
use Rattle.plan_flow.specs.Written.FramedCode.{greatest_of}
use Rattle.stackmap_emit.specs.FrameConstants.{table_needs}
use Rattle.stackmap_emit.specs.PlacedFrames.{placed_frames}
use Rattle.type_rules.specs.Stated.{stated}
use Rattle.written_files.specs.GrownPools.{AreSound}
use Rattle.written_files.specs.ShortNeeds.{AreFitting, HasShortTexts, IsShort, IsShortCatch}
use Rattle.written_files.specs.SoundCode.{IsSoundCall, IsSoundCatch, IsSoundName}
use Rattle.written_files.specs.SoundConstructors.{HasSoundTexts}

-- ---- constants

-- the classes that make code names, and the descriptors of their field constructors, are texts that constants may have
abbrev pub HasSoundMaking : (Name → List ℕ) → WInstr → Type 0
HasSoundMaking constructor (makes class) = IsSoundName class × IsShort class
HasSoundMaking constructor (constructs class) =
    IsSoundCall constructor class × IsShort class × IsShort (constructor class)
HasSoundMaking constructor instr = Unit {0}

abbrev pub CatchesSound : WCatch → Type 0
CatchesSound catch = IsSoundCatch catch.class × IsShortCatch catch.class

-- The classes that the frames of a method that is rewritten have are texts that constants may have.
pub record HasSoundTables (v : Rewritten) : Type 0 where
  pub frames : AreSound (table_needs v.stated)
  pub short_frames : AreFitting (table_needs v.stated)

-- So are those that it makes, and those that it catches.
pub record HasSoundNeeds (r : Rewriting) (v : Rewritten) : Type 0 where
  pub making : AllByRecursion (λ (one : WItem). HasSoundMaking r.constructor one.instr)
      (short_items r v.one)
  pub catches : AllByRecursion (λ (one : WItem). AllByRecursion CatchesSound one.catches)
      (short_items r v.one)
  pub tables : HasSoundTables v

-- ---- codes

-- the local units that an instruction loads or stores are of so many
abbrev pub UnitFits : ℕ → Instr → Type 0
UnitFits locals (Load kind local) = FitsLocal locals kind local
UnitFits locals (Store kind local) = FitsLocal locals kind local
UnitFits locals instr = Unit {0}

-- the frames that are stated, by offsets
abbrev pub frames_placed : Rewritten → List PlacedFrame
frames_placed v = placed_frames (start_in v.laid.starts) 0 v.stated

-- Its items are emitted code, its stack is at most 65,535 units deep, and its Code has fewer than 2 ^ 32 bytes.
pub record HasFittingItems (v : Rewritten) : Type 0 where
  pub emitted : IsEmitted v.items
  pub deep : greatest_of v.body.points v.frames ≤ 65535
  pub short : length (code_part_bytes v.part) < 2 ^ 32

-- And its local units are those of written code, its instructions of other classes come from classes of the host's version, and it states its frames in
-- the class that is written.
pub record HasFittingCode (r : Rewriting) (v : Rewritten) (host now : Scope) : Type 0 where
  pub items : HasFittingItems v
  pub units : AllByRecursion (λ item. UnitFits (written_units v.one.flat) item.instr) v.items
  pub version : AreOfVersion r.classes host.class.major v.one.flat
  pub states : stated now ≡ frames_placed v

-- ---- the folder

-- The texts of a field constructor that is added are those that constants may have, its descriptor is a method's, and there is room for the method in the
-- class, which is no interface.
pub record HasFittingConstructor (r : Rewriting) (file : ClassFile) : Type 0 where
  pub descriptor : Descriptor
  pub spells : SpellsDescriptor (r.constructor (header_of file).name) descriptor
  pub no_interface : IsFalse (has file.flags INTERFACE)
  pub texts : HasSoundTexts (headers_of r.classes) r.constructor file
  pub short : HasShortTexts (headers_of r.classes) r.constructor (header_of file).name
  pub few : length file.methods ≤ 65534

-- what is asked of the methods that are rewritten
abbrev pub HasFittingMethods : Rewriting → Type 0
HasFittingMethods r =
    (at : MethodAt) (v : Rewritten) → IsRewrittenAt r at v → HasFittingItems v

-- and what is known of all that is added
pub record IsFittedFolder (r : Rewriting) (files : List ClassFile) (w : IsFolderWritten r files)
    : Type 0 where
  pub needs : (at : MethodAt) (v : Rewritten) → IsRewrittenAt r at v → HasSoundNeeds r v
  pub codes : (at : MethodAt) (v : Rewritten) (host now : Scope)
      → IsWrittenIn r files w at v host now
      → HasFittingCode r v host now
  pub constructors : (class : ℕ) (file : ClassFile)
      → slice_get r.classes.folder class ≡ Some file
      → IsMade r w.written (header_of file).name
      → HasFittingConstructor r file
