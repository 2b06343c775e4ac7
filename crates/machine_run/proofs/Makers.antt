-- Which handles of a folder make an object.
use Rattle.std.proofs.Common.{◌≡◌, ◌==◌, ◌&&◌, ◌||◌, ◌<◌, ◌+◌, ℕ, zero, suc, Bool, true, false, List, [], ◌∷◌, drop, length, map, Option, Some, None, refl, ap, ◌∙◌, arith}
use Rattle.std.specs.List.{list_any}
use Rattle.class_model.specs.Names.{init}
use Rattle.class_model.specs.Pool.{Constants, constant_at}
use Rattle.class_model.specs.declared.class_file.ClassFile.{ClassFile}
use Rattle.class_model.specs.declared.pool.Const.{Const}
use Rattle.class_model.specs.declared.pool.Const.TheVariants as consts
use Rattle.class_tree.specs.Headers.{Name, Classes, headers_of}
use Rattle.machine_values.specs.declared.object.Constant.{Constant}
use Rattle.machine_values.specs.declared.object.Constant.TheVariants.{Handle}
use Rattle.machine_values.specs.Heaps.{same_constant}
use Rattle.member_link.specs.Machine.Acting.{NEW_INVOKE_SPECIAL, is_handled}
use Rattle.member_link.specs.Machine.Classes.{handles_in, run_class_of}
use Rattle.member_link.specs.Machine.Programs.{Program, RunClass}
use Rattle.member_link.specs.References.{Reference}
use Rattle.member_link.specs.Signatures.{reference_of}
use Rattle.member_link.specs.TreePrograms.{IsProgram}
use Rattle.machine_run.specs.Inner.ActWords.{has_maker, is_initialiser, makes_object}

none_of : (b rest : Bool) → rest ≡ ((b && false) || rest)
none_of true rest = refl
none_of false rest = refl

-- the entry at an index comes first of those from it on
entry_from :
    (f : Option Const → Bool) (pool : Constants) (index : ℕ)
    → index < length pool
    → list_any f (drop index pool) ≡ (f (constant_at pool index) || list_any f (drop (suc index) pool))
entry_from f [] index inside = absurd (omega arith)
entry_from f (entry ∷ pool) zero inside = refl
entry_from f (entry ∷ pool) (suc index) inside = entry_from f pool index (omega arith)

pub entry_at :
    (f : Option Const → Bool) (pool : Constants) (index : ℕ)
    → index < length pool
    → list_any f (drop index pool) ≡ (f (constant_at pool index) || list_any f (drop (index + 1) pool))
entry_at f pool index inside =
    let next : suc index ≡ index + 1 = omega arith in
    entry_from f pool index inside ∙ ap (λ (n : ℕ). f (constant_at pool index) || list_any f (drop n pool)) next

module _ (class : Name) (desc : List ℕ) where
  abbrev is_one : Constant → Bool
  is_one = same_constant (Handle NEW_INVOKE_SPECIAL class init desc)

  pool_makes :
      (pool : Constants) (entries : List (Option Const))
      → list_any is_one (handles_in pool entries) ≡ list_any (makes_object pool class desc) entries
  pool_makes pool [] = refl
  pool_makes pool (None ∷ entries) = pool_makes pool entries
  pool_makes pool (Some (consts.Utf8 text) ∷ entries) = pool_makes pool entries
  pool_makes pool (Some (consts.Integer number) ∷ entries) = pool_makes pool entries
  pool_makes pool (Some (consts.Float bits) ∷ entries) = pool_makes pool entries
  pool_makes pool (Some (consts.Long number) ∷ entries) = pool_makes pool entries
  pool_makes pool (Some (consts.Double bits) ∷ entries) = pool_makes pool entries
  pool_makes pool (Some (consts.Class name) ∷ entries) = pool_makes pool entries
  pool_makes pool (Some (consts.String text) ∷ entries) = pool_makes pool entries
  pool_makes pool (Some (consts.Fieldref one other) ∷ entries) = pool_makes pool entries
  pool_makes pool (Some (consts.Methodref one other) ∷ entries) = pool_makes pool entries
  pool_makes pool (Some (consts.InterfaceMethodref one other) ∷ entries) = pool_makes pool entries
  pool_makes pool (Some (consts.NameAndType one other) ∷ entries) = pool_makes pool entries
  pool_makes pool (Some (consts.MethodType of) ∷ entries) = pool_makes pool entries
  pool_makes pool (Some (consts.InvokeDynamic one other) ∷ entries) = pool_makes pool entries
  pool_makes pool (Some (consts.MethodHandle kind index) ∷ entries) =
      by (pool_makes pool entries) (reference_of pool (constant_at pool index)) refl
    where
      by :
          list_any is_one (handles_in pool entries) ≡ list_any (makes_object pool class desc) entries
          → (found : Option Reference)
          → reference_of pool (constant_at pool index) ≡ found
          → list_any is_one (handles_in pool (Some (consts.MethodHandle kind index) ∷ entries))
          ≡ list_any (makes_object pool class desc) (Some (consts.MethodHandle kind index) ∷ entries)
      by others None is =
          rw is (others ∙ none_of (NEW_INVOKE_SPECIAL == kind) (list_any (makes_object pool class desc) entries))
      by others (Some found) is =
          rw is
          (ap (λ (rest : Bool). (NEW_INVOKE_SPECIAL == kind && is_initialiser class desc (Some found)) || rest) others)

  pub handled_is :
      (classes : Classes) (P : Program)
      → IsProgram classes P
      → is_handled P class desc ≡ list_any (has_maker class desc) classes.folder
  handled_is classes P is = ap (λ (p : Program). is_handled p class desc) is.same ∙ by classes.folder where
    by :
        (files : List ClassFile)
        → list_any (λ (found : RunClass). list_any is_one found.handles) (map (run_class_of is.links (headers_of classes)) files)
        ≡ list_any (has_maker class desc) files
    by [] = refl
    by (file ∷ files) =
        ap (λ (b : Bool). b || list_any (λ (found : RunClass). list_any is_one found.handles) (map (run_class_of is.links (headers_of classes)) files))
        (pool_makes file.pool file.pool)
        ∙ ap (λ (b : Bool). list_any (makes_object file.pool class desc) file.pool || b) (by files)
