-- Laws of the crates below by which written classes are class files.
use Rattle.std.proofs.Common.{◌≡◌, ◌≤◌, ℕ, List, length, Some, Ok}
use Rattle.std.specs.List.{AllByRecursion}
use Rattle.class_model.specs.Checks.{AllHold}
use Rattle.class_model.specs.Code.{OperandFits}
use Rattle.class_model.specs.Header.{header_of}
use Rattle.class_model.specs.Instructions.{decoded}
use Rattle.class_model.specs.Members.{Signature}
use Rattle.class_model.specs.Methods.{home_of, method_checks}
use Rattle.class_model.specs.Pool.{Constants}
use Rattle.class_model.specs.declared.class_file.ClassFile.{ClassFile}
use Rattle.class_model.specs.declared.instr.Instr.{Instr}
use Rattle.class_model.specs.declared.instr.Placed.{Placed}
use Rattle.class_tree.specs.Headers.{Headers, IsClassFile, Name}
use Rattle.code_bytes.specs.Consecutive.{AreConsecutive}
use Rattle.making_code.specs.Constants.{Need, grow}
use Rattle.making_code.specs.FieldConstructor.{constructor_method_needs}
use Rattle.making_code.specs.Items.{WItem}
use Rattle.making_code.specs.Laws.AddedConstants.{Compares}
use Rattle.member_link.specs.Scope.{Scope}
use Rattle.plan_flow.specs.PlanScope.{PlanScope}
use Rattle.plan_flow.specs.Written.WrittenConstants.{code_needs}
use Rattle.type_rules.specs.Grown.{IsGrownClass}
use Rattle.written_files.specs.CheckedConstructors.{IsNewMethod}
use Rattle.written_files.specs.FieldConstructors.{IsConstructorIn}
use Rattle.written_files.specs.GrownPools.{AreSound}
use Rattle.written_files.specs.ShortNeeds.{AreFitting, HasShortTexts, IsFittingPool, IsShortItem}
use Rattle.written_files.specs.SoundCode.{IsSoundItem}
use Rattle.written_files.specs.SoundConstructors.{HasSoundTexts}
use Rattle.written_files.specs.WrittenClasses.{AreAddedConstants, IsFitting, IsWrittenClass}

pub record FileLaws : Type 0 where
  pub compares : Compares
  -- class files
  pub fits : (file : ClassFile) → IsClassFile file → IsFitting file
  pub is_file : (file also : ClassFile) → IsClassFile file → IsWrittenClass file also → IsClassFile also
  -- constants
  pub added : (major limit : ℕ) (pool grown : Constants) (needs : List Need) → limit ≤ 65535 → AreSound needs → AreFitting needs → IsFittingPool major pool
      → grow limit pool needs ≡ Some grown
      → AreAddedConstants major pool grown
  pub none : (major : ℕ) (pool : Constants) → IsFittingPool major pool → AreAddedConstants major pool pool
  pub both : (major : ℕ) (pool middle grown : Constants) → IsFittingPool major pool → AreAddedConstants major pool middle → AreAddedConstants major middle grown
      → AreAddedConstants major pool grown
  pub pool : (major : ℕ) (pool grown : Constants) → IsFittingPool major pool → AreAddedConstants major pool grown → IsFittingPool major grown
  pub code_sound : (s : PlanScope) (constructor : Name → List ℕ) (items : List WItem) → AllByRecursion (IsSoundItem s constructor) items
      → AreSound (code_needs s constructor items)
  pub code_fits : (s : PlanScope) (constructor : Name → List ℕ) (items : List WItem) → AllByRecursion (IsShortItem s constructor) items
      → AreFitting (code_needs s constructor items)
  pub constructor_sound : (headers : Headers) (constructor : Name → List ℕ) (file : ClassFile) → HasSoundTexts headers constructor file
      → AreSound (constructor_method_needs headers constructor (header_of file).name)
  pub constructor_fits : (headers : Headers) (constructor : Name → List ℕ) (class : Name) → HasShortTexts headers constructor class
      → AreFitting (constructor_method_needs headers constructor class)
  -- codes
  pub operands : (old new : ClassFile) (max_locals : ℕ) (instr : Instr) → IsClassFile old → IsGrownClass old new → OperandFits old.pool old.major max_locals instr
      → OperandFits new.pool new.major max_locals instr
  pub consecutive : (code : List ℕ) (instrs : List Placed) → decoded code ≡ Ok instrs → AreConsecutive 0 instrs (length code)
  pub constructor_passes : (headers : Headers) (constructor : Name → List ℕ) (file : ClassFile) (s : Scope) (before : List Signature) (at : ℕ)
      → IsConstructorIn headers constructor file s
      → IsNewMethod (constructor (header_of file).name) s before
      → AllHold (method_checks (home_of s.class) before at s.method)
