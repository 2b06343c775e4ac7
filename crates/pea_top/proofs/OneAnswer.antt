-- Words and told files have one answer.
use Rattle.std.proofs.Common.{◌≡◌, ◌⊎◌, inl, inr, ℕ, List, [], Option, None, Some, refl, sym, ap, ◌∙◌, subst}
use Rattle.class_model.specs.Checks.{Fault, fault}
use Rattle.class_model.specs.ClassOf.{ClassOf}
use Rattle.class_model.specs.Cutting.{Version}
use Rattle.class_model.specs.declared.class_file.ClassFile.{ClassFile}
use Rattle.class_model.specs.declared.header.Header.{Header}
use Rattle.class_model.specs.declared.header.Member.{Member}
use Rattle.class_tree.specs.Headers.{Name}
use Rattle.class_tree.specs.Problems.{Problem}
use Rattle.class_tree.specs.declared.fault.LinkRule.{LinkRule}
use Rattle.type_rules.specs.declared.fault.TypeRule.{TypeRule}
use Rattle.verify_folder.specs.Verifying.{Failure}
use Rattle.host_tree.specs.Host.{Bytes, Folder, Files}
use Rattle.pea_top.specs.Answer.{Refusal, broken, other_version, IsRefusedClass, IsRefusedHeader, IsFirstOf, of_input, of_library, AreRead, script_of, HasNamed, HasScript, CanDoTask, LacksScript, HasBadScript, CannotLink, CannotVerify, IsTaskAnswer, IsClassThere, IsRefusedThere, IsAbsentThere, IsFileAnswer, IsCommandAnswer, HasAnswer, IsAnswer}
use Rattle.pea_top.specs.Linking.{IsLinkProblem}
use Rattle.pea_top.specs.Verifying.{IsTypeFailure}
use Rattle.script_text.specs.Scripts.{lines_of, IsFirstOutside}
use Rattle.pea_top.specs.Words.{Word, Task, Command, OnFolder, Listing, Generated, IsUsage}
use Rattle.pea_top.specs.declared.status.Status.{Status}
use Rattle.pea_top.specs.declared.status.Status.TheVariants as statuses
use Rattle.pea_top.proofs.BytesLaws.{ClassLaws, HeaderLaws, one_class, one_class_refusal, class_not_refused, one_header, one_header_refusal, header_not_refused}
use Rattle.pea_top.proofs.FirstRefused.{one_first_of}
use Rattle.pea_top.proofs.FolderValues.{one_list_of_values, none_refused}
use Rattle.pea_top.proofs.OneLinkProblem.{TreeLaws, one_link_problem, linked_no_problem}
use Rattle.pea_top.proofs.OneTypeFailure.{TypeLaws, one_type_failure, verified_no_failure}
use Rattle.pea_top.proofs.OneScript.{ScriptLaws}
use Rattle.pea_top.proofs.WordGrammar.{same_command}

abbrev version : ℕ → ℕ → Version
version major minor = record { minor = minor; major = major }

abbrev problem_of : Name → Member → LinkRule → Problem
problem_of class member rule = record { class = class; member = member; rule = rule }

abbrev failure_of : Name → Member → ℕ → TypeRule → Failure
failure_of class method offset rule = record { class = class; method = method; offset = offset; rule = rule }

-- the laws of the crates below
pub record Laws : Type 0 where
  pub classes : ClassLaws
  pub headers : HeaderLaws
  pub trees : TreeLaws
  pub types : TypeLaws
  pub scripts : ScriptLaws

module _ (laws : Laws) where
  -- what is read has no refused file
  read_none_first : {input library : Folder} {classes : List ClassFile} {headers : List Header} {name : Bytes} {why : Refusal} → AreRead input library classes headers → ¬ IsFirstOf input library name why
  read_none_first {name = name} {why = why} read (of_input first) = none_refused IsRefusedClass (class_not_refused laws.classes) read.classes_read name why first.refused
  read_none_first {name = name} {why = why} read (of_library _ first) = none_refused IsRefusedHeader (header_not_refused laws.headers) read.headers_read name why first.refused

  module _ (input library : Word) (task : Task) (files : Files) where
    abbrev MustRefuse : Bytes → Refusal → Type 0
    MustRefuse name why = IsFirstOf (files input) (files library) name why

    one_must : (name other_name : Bytes) (why other_why : Refusal) → MustRefuse name why → MustRefuse other_name other_why → (name ≡ other_name) × (why ≡ other_why)
    one_must name other_name why other_why h i = one_first_of (one_class_refusal laws.classes) (one_header_refusal laws.headers) (files input) (files library) name other_name why other_why h i

    -- what holds of all that is read holds of what is read
    at_read : (P : List ClassFile → List Header → Type 0) (classes others : List ClassFile) (headers other_headers : List Header)
        → AreRead (files input) (files library) classes headers → AreRead (files input) (files library) others other_headers → P others other_headers → P classes headers
    at_read P classes others headers other_headers read other_read holds =
        let same_classes = one_list_of_values (one_class laws.classes) other_read.classes_read read.classes_read in
        let same_headers = one_list_of_values (one_header laws.headers) other_read.headers_read read.headers_read in
        subst (λ (list : List Header). P classes list) same_headers (subst (λ (list : List ClassFile). P list other_headers) same_classes holds)

    -- a problem of linking what is read
    problem_at : (classes : List ClassFile) (headers : List Header) (problem : Problem) → AreRead (files input) (files library) classes headers → CannotLink input library task files problem → IsLinkProblem classes headers problem
    problem_at classes headers problem read i = at_read (λ list library. IsLinkProblem list library problem) classes i.classes headers i.headers read i.read i.first

    -- a failure of what is read
    failure_at : (classes : List ClassFile) (headers : List Header) (failure : Failure) → AreRead (files input) (files library) classes headers → CannotVerify input library task files failure → IsTypeFailure classes headers failure
    failure_at classes headers failure read i = at_read (λ list library. IsTypeFailure list library failure) classes i.classes headers i.headers read i.read i.first

    one_problem : (one other : Problem) → CannotLink input library task files one → CannotLink input library task files other → one ≡ other
    one_problem one other h i = one_link_problem laws.trees h.classes h.headers one other h.first (problem_at h.classes h.headers other h.read i)

    one_failure : (one other : Failure) → CannotVerify input library task files one → CannotVerify input library task files other → one ≡ other
    one_failure one other h i = one_type_failure laws.trees laws.types h.classes h.headers one other h.first (failure_at h.classes h.headers other h.read i)

    no_problem : (problem : Problem) → CanDoTask input library task files → ¬ CannotLink input library task files problem
    no_problem problem h i =
        linked_no_problem laws.trees h.classes h.headers h.verified.classes problem h.verified.arranged h.verified.verified.tree h.verified.verified.linked (problem_at h.classes h.headers problem h.read i)

    no_failure : (failure : Failure) → CanDoTask input library task files → ¬ CannotVerify input library task files failure
    no_failure failure h i = verified_no_failure laws.trees laws.types h.classes h.headers failure h.verified (failure_at h.classes h.headers failure h.read i)

    -- what fails is linked
    fails_linked : (failure : Failure) (problem : Problem) → CannotVerify input library task files failure → ¬ CannotLink input library task files problem
    fails_linked failure problem h i =
        linked_no_problem laws.trees h.classes h.headers h.first.classes problem h.first.arranged h.first.tree h.first.linked (problem_at h.classes h.headers problem h.read i)

    -- ---- scripts

    -- the script of a name that a task has is there
    script_at : (script : Word) → script_of task ≡ Some script → HasScript task files → HasNamed (Some script) files
    script_at script named there = subst (λ (at : Option Word). HasNamed at files) named there

    -- a script that is there is no bad one, and is not absent
    not_bad : (line : ℕ) → HasScript task files → ¬ HasBadScript input library task files line
    not_bad line has h =
        let has_named = script_at h.script h.named has in
        let there = has_named.1 in
        let same : there.bytes ≡ h.bytes = cc (there.there, h.there) in
        laws.scripts.none there.bytes has_named.0 line there.is_script (subst (λ (bytes : Bytes). IsFirstOutside (lines_of bytes) line) (sym same) h.outside)

    not_absent : (name : Bytes) → HasScript task files → ¬ LacksScript input library task files name
    not_absent name has h =
        let there = (script_at name h.named has).1 in
        cc (there.there, h.absent)

    one_absent : (name other : Bytes) → LacksScript input library task files name → LacksScript input library task files other → name ≡ other
    one_absent name other h i = cc (h.named, i.named)

    absent_not_bad : (name : Bytes) (line : ℕ) → LacksScript input library task files name → ¬ HasBadScript input library task files line
    absent_not_bad name line h i =
        let same : name ≡ i.script = cc (h.named, i.named) in
        let none = subst (λ (script : Bytes). files [] script ≡ None) same h.absent in
        cc (none, i.there)

    one_bad : (line other : ℕ) → HasBadScript input library task files line → HasBadScript input library task files other → line ≡ other
    one_bad line other h i =
        let script : i.script ≡ h.script = cc (h.named, i.named) in
        let there = subst (λ (name : Bytes). files [] name ≡ Some i.bytes) script i.there in
        let same : i.bytes ≡ h.bytes = cc (there, h.there) in
        laws.scripts.one h.bytes line other h.outside (subst (λ (bytes : Bytes). IsFirstOutside (lines_of bytes) other) same i.outside)

    one_task_answer : (one other : Status) → IsTaskAnswer input library task files one → IsTaskAnswer input library task files other → one ≡ other
    one_task_answer statuses.Done statuses.Done h i = refl
    one_task_answer statuses.Done (statuses.Malformed name at rule) h i = absurd (read_none_first h.read i)
    one_task_answer statuses.Done (statuses.Version file major minor) h i = absurd (read_none_first h.read i)
    one_task_answer statuses.Done (statuses.Unlinked class member broken_rule) h i = absurd (no_problem (problem_of class member broken_rule) h i)
    one_task_answer statuses.Done (statuses.Unverified at_class method offset failed) h i = absurd (no_failure (failure_of at_class method offset failed) h i)
    one_task_answer statuses.Done (statuses.BadScript line) h i = absurd (not_bad line h.script i)
    one_task_answer statuses.Done (statuses.Absent missing) h i = absurd (not_absent missing h.script i)
    one_task_answer statuses.Done statuses.Usage h i = absurd i
    one_task_answer statuses.Done (statuses.HostFault call) h i = absurd i
    one_task_answer statuses.Done statuses.NoMemory h i = absurd i
    one_task_answer (statuses.Malformed name at rule) statuses.Done h i = absurd (read_none_first i.read h)
    one_task_answer (statuses.Malformed name at rule) (statuses.Malformed other_name other_at other_rule) h i =
        let same = one_must name other_name (broken (fault at rule)) (broken (fault other_at other_rule)) h i in
        let faults : fault at rule ≡ fault other_at other_rule = cc (same.1) in
        cc (same.0, ap (λ (f : Fault). f.at) faults, ap (λ (f : Fault). f.rule) faults)
    one_task_answer (statuses.Malformed name at rule) (statuses.Version file major minor) h i =
        let same = one_must name file (broken (fault at rule)) (other_version (version major minor)) h i in
        cc (same.1)
    one_task_answer (statuses.Malformed name at rule) (statuses.Unlinked class member broken_rule) h i = absurd (read_none_first i.read h)
    one_task_answer (statuses.Malformed name at rule) (statuses.Unverified at_class method offset failed) h i = absurd (read_none_first i.read h)
    one_task_answer (statuses.Malformed name at rule) (statuses.BadScript line) h i = absurd (read_none_first i.read h)
    one_task_answer (statuses.Malformed name at rule) (statuses.Absent missing) h i = absurd (read_none_first i.read h)
    one_task_answer (statuses.Malformed name at rule) statuses.Usage h i = absurd i
    one_task_answer (statuses.Malformed name at rule) (statuses.HostFault call) h i = absurd i
    one_task_answer (statuses.Malformed name at rule) statuses.NoMemory h i = absurd i
    one_task_answer (statuses.Version file major minor) statuses.Done h i = absurd (read_none_first i.read h)
    one_task_answer (statuses.Version file major minor) (statuses.Malformed name at rule) h i =
        let same = one_must file name (other_version (version major minor)) (broken (fault at rule)) h i in
        cc (same.1)
    one_task_answer (statuses.Version name major minor) (statuses.Version other_name other_major other_minor) h i =
        let same = one_must name other_name (other_version (version major minor)) (other_version (version other_major other_minor)) h i in
        let versions : version major minor ≡ version other_major other_minor = cc (same.1) in
        cc (same.0, ap (λ (v : Version). v.major) versions, ap (λ (v : Version). v.minor) versions)
    one_task_answer (statuses.Version file major minor) (statuses.Unlinked class member broken_rule) h i = absurd (read_none_first i.read h)
    one_task_answer (statuses.Version file major minor) (statuses.Unverified at_class method offset failed) h i = absurd (read_none_first i.read h)
    one_task_answer (statuses.Version file major minor) (statuses.BadScript line) h i = absurd (read_none_first i.read h)
    one_task_answer (statuses.Version file major minor) (statuses.Absent missing) h i = absurd (read_none_first i.read h)
    one_task_answer (statuses.Version file major minor) statuses.Usage h i = absurd i
    one_task_answer (statuses.Version file major minor) (statuses.HostFault call) h i = absurd i
    one_task_answer (statuses.Version file major minor) statuses.NoMemory h i = absurd i
    one_task_answer (statuses.Unlinked class member broken_rule) statuses.Done h i = absurd (no_problem (problem_of class member broken_rule) i h)
    one_task_answer (statuses.Unlinked class member broken_rule) (statuses.Malformed name at rule) h i = absurd (read_none_first h.read i)
    one_task_answer (statuses.Unlinked class member broken_rule) (statuses.Version file major minor) h i = absurd (read_none_first h.read i)
    one_task_answer (statuses.Unlinked class member rule) (statuses.Unlinked other_class other_member other_rule) h i =
        let same = one_problem (problem_of class member rule) (problem_of other_class other_member other_rule) h i in
        cc (ap (λ (p : Problem). p.class) same, ap (λ (p : Problem). p.member) same, ap (λ (p : Problem). p.rule) same)
    one_task_answer (statuses.Unlinked class member broken_rule) (statuses.Unverified at_class method offset failed) h i = absurd (fails_linked (failure_of at_class method offset failed) (problem_of class member broken_rule) i h)
    one_task_answer (statuses.Unlinked class member broken_rule) (statuses.BadScript line) h i = absurd (not_bad line h.script i)
    one_task_answer (statuses.Unlinked class member broken_rule) (statuses.Absent missing) h i = absurd (not_absent missing h.script i)
    one_task_answer (statuses.Unlinked class member broken_rule) statuses.Usage h i = absurd i
    one_task_answer (statuses.Unlinked class member broken_rule) (statuses.HostFault call) h i = absurd i
    one_task_answer (statuses.Unlinked class member broken_rule) statuses.NoMemory h i = absurd i
    one_task_answer (statuses.Unverified at_class method offset failed) statuses.Done h i = absurd (no_failure (failure_of at_class method offset failed) i h)
    one_task_answer (statuses.Unverified at_class method offset failed) (statuses.Malformed name at rule) h i = absurd (read_none_first h.read i)
    one_task_answer (statuses.Unverified at_class method offset failed) (statuses.Version file major minor) h i = absurd (read_none_first h.read i)
    one_task_answer (statuses.Unverified at_class method offset failed) (statuses.Unlinked class member broken_rule) h i = absurd (fails_linked (failure_of at_class method offset failed) (problem_of class member broken_rule) h i)
    one_task_answer (statuses.Unverified class method offset failed) (statuses.Unverified other_class other_method other_offset other_failed) h i =
        let same = one_failure (failure_of class method offset failed) (failure_of other_class other_method other_offset other_failed) h i in
        cc (ap (λ (f : Failure). f.class) same, ap (λ (f : Failure). f.method) same, ap (λ (f : Failure). f.offset) same, ap (λ (f : Failure). f.rule) same)
    one_task_answer (statuses.Unverified at_class method offset failed) (statuses.BadScript line) h i = absurd (not_bad line h.script i)
    one_task_answer (statuses.Unverified at_class method offset failed) (statuses.Absent missing) h i = absurd (not_absent missing h.script i)
    one_task_answer (statuses.Unverified at_class method offset failed) statuses.Usage h i = absurd i
    one_task_answer (statuses.Unverified at_class method offset failed) (statuses.HostFault call) h i = absurd i
    one_task_answer (statuses.Unverified at_class method offset failed) statuses.NoMemory h i = absurd i
    one_task_answer (statuses.BadScript line) statuses.Done h i = absurd (not_bad line i.script h)
    one_task_answer (statuses.BadScript line) (statuses.Malformed name at rule) h i = absurd (read_none_first h.read i)
    one_task_answer (statuses.BadScript line) (statuses.Version file major minor) h i = absurd (read_none_first h.read i)
    one_task_answer (statuses.BadScript line) (statuses.Unlinked class member broken_rule) h i = absurd (not_bad line i.script h)
    one_task_answer (statuses.BadScript line) (statuses.Unverified at_class method offset failed) h i = absurd (not_bad line i.script h)
    one_task_answer (statuses.BadScript line) (statuses.BadScript other) h i = cc (one_bad line other h i)
    one_task_answer (statuses.BadScript line) (statuses.Absent missing) h i = absurd (absent_not_bad missing line i h)
    one_task_answer (statuses.BadScript line) statuses.Usage h i = absurd i
    one_task_answer (statuses.BadScript line) (statuses.HostFault call) h i = absurd i
    one_task_answer (statuses.BadScript line) statuses.NoMemory h i = absurd i
    one_task_answer (statuses.Absent missing) statuses.Done h i = absurd (not_absent missing i.script h)
    one_task_answer (statuses.Absent missing) (statuses.Malformed name at rule) h i = absurd (read_none_first h.read i)
    one_task_answer (statuses.Absent missing) (statuses.Version file major minor) h i = absurd (read_none_first h.read i)
    one_task_answer (statuses.Absent missing) (statuses.Unlinked class member broken_rule) h i = absurd (not_absent missing i.script h)
    one_task_answer (statuses.Absent missing) (statuses.Unverified at_class method offset failed) h i = absurd (not_absent missing i.script h)
    one_task_answer (statuses.Absent missing) (statuses.BadScript line) h i = absurd (absent_not_bad missing line h i)
    one_task_answer (statuses.Absent name) (statuses.Absent other) h i = cc (one_absent name other h i)
    one_task_answer (statuses.Absent missing) statuses.Usage h i = absurd i
    one_task_answer (statuses.Absent missing) (statuses.HostFault call) h i = absurd i
    one_task_answer (statuses.Absent missing) statuses.NoMemory h i = absurd i
    one_task_answer statuses.Usage other h i = absurd h
    one_task_answer (statuses.HostFault call) other h i = absurd h
    one_task_answer statuses.NoMemory other h i = absurd h

  -- ---- one file

  module _ (folder : Folder) (name : Bytes) where
    -- what is read is not refused
    there_not_refused : (told : Bytes) (why : Refusal) → IsClassThere folder name → ¬ IsRefusedThere folder name told why
    there_not_refused told why h i =
        let same : h.bytes ≡ i.bytes = cc (h.there, i.there) in
        class_not_refused laws.classes i.bytes h.class why (subst (λ (bytes : Bytes). ClassOf bytes h.class) same h.is_class) i.refused

    there_not_absent : (told : Bytes) → IsClassThere folder name → ¬ IsAbsentThere folder name told
    there_not_absent told h i = cc (h.there, i.absent)

    refused_not_absent : (told other : Bytes) (why : Refusal) → IsRefusedThere folder name told why → ¬ IsAbsentThere folder name other
    refused_not_absent told other why h i = cc (h.there, i.absent)

    one_refused : (told other : Bytes) (why other_why : Refusal) → IsRefusedThere folder name told why → IsRefusedThere folder name other other_why → (told ≡ other) × (why ≡ other_why)
    one_refused told other why other_why h i =
        let same : i.bytes ≡ h.bytes = cc (h.there, i.there) in
        (h.same ∙ sym i.same, (one_class_refusal laws.classes).one h.bytes why other_why h.refused (subst (λ (bytes : Bytes). IsRefusedClass bytes other_why) same i.refused))

    one_file_answer : (one other : Status) → IsFileAnswer folder name one → IsFileAnswer folder name other → one ≡ other
    one_file_answer statuses.Done statuses.Done h i = refl
    one_file_answer statuses.Done (statuses.Malformed told at rule) h i = absurd (there_not_refused told (broken (fault at rule)) h i)
    one_file_answer statuses.Done (statuses.Version told major minor) h i = absurd (there_not_refused told (other_version (version major minor)) h i)
    one_file_answer statuses.Done (statuses.Absent told) h i = absurd (there_not_absent told h i)
    one_file_answer (statuses.Malformed told at rule) statuses.Done h i = absurd (there_not_refused told (broken (fault at rule)) i h)
    one_file_answer (statuses.Malformed told at rule) (statuses.Malformed other other_at other_rule) h i =
        let same = one_refused told other (broken (fault at rule)) (broken (fault other_at other_rule)) h i in
        let faults : fault at rule ≡ fault other_at other_rule = cc (same.1) in
        cc (same.0, ap (λ (f : Fault). f.at) faults, ap (λ (f : Fault). f.rule) faults)
    one_file_answer (statuses.Malformed told at rule) (statuses.Version other major minor) h i =
        let same = one_refused told other (broken (fault at rule)) (other_version (version major minor)) h i in
        cc (same.1)
    one_file_answer (statuses.Malformed told at rule) (statuses.Absent other) h i = absurd (refused_not_absent told other (broken (fault at rule)) h i)
    one_file_answer (statuses.Version told major minor) statuses.Done h i = absurd (there_not_refused told (other_version (version major minor)) i h)
    one_file_answer (statuses.Version told major minor) (statuses.Malformed other at rule) h i =
        let same = one_refused told other (other_version (version major minor)) (broken (fault at rule)) h i in
        cc (same.1)
    one_file_answer (statuses.Version told major minor) (statuses.Version other other_major other_minor) h i =
        let same = one_refused told other (other_version (version major minor)) (other_version (version other_major other_minor)) h i in
        let versions : version major minor ≡ version other_major other_minor = cc (same.1) in
        cc (same.0, ap (λ (v : Version). v.major) versions, ap (λ (v : Version). v.minor) versions)
    one_file_answer (statuses.Version told major minor) (statuses.Absent other) h i = absurd (refused_not_absent told other (other_version (version major minor)) h i)
    one_file_answer (statuses.Absent told) statuses.Done h i = absurd (there_not_absent told i h)
    one_file_answer (statuses.Absent told) (statuses.Malformed other at rule) h i = absurd (refused_not_absent other told (broken (fault at rule)) i h)
    one_file_answer (statuses.Absent told) (statuses.Version other major minor) h i = absurd (refused_not_absent other told (other_version (version major minor)) i h)
    one_file_answer (statuses.Absent told) (statuses.Absent other) h i = cc (h.same, i.same)
    one_file_answer statuses.Done statuses.Usage h i = absurd i
    one_file_answer statuses.Done (statuses.Unlinked class member wrong) h i = absurd i
    one_file_answer statuses.Done (statuses.Unverified at_class method offset failed) h i = absurd i
    one_file_answer statuses.Done (statuses.BadScript line) h i = absurd i
    one_file_answer statuses.Done (statuses.HostFault call) h i = absurd i
    one_file_answer statuses.Done statuses.NoMemory h i = absurd i
    one_file_answer (statuses.Malformed told at rule) statuses.Usage h i = absurd i
    one_file_answer (statuses.Malformed told at rule) (statuses.Unlinked class member wrong) h i = absurd i
    one_file_answer (statuses.Malformed told at rule) (statuses.Unverified at_class method offset failed) h i = absurd i
    one_file_answer (statuses.Malformed told at rule) (statuses.BadScript line) h i = absurd i
    one_file_answer (statuses.Malformed told at rule) (statuses.HostFault call) h i = absurd i
    one_file_answer (statuses.Malformed told at rule) statuses.NoMemory h i = absurd i
    one_file_answer (statuses.Version file major minor) statuses.Usage h i = absurd i
    one_file_answer (statuses.Version file major minor) (statuses.Unlinked class member wrong) h i = absurd i
    one_file_answer (statuses.Version file major minor) (statuses.Unverified at_class method offset failed) h i = absurd i
    one_file_answer (statuses.Version file major minor) (statuses.BadScript line) h i = absurd i
    one_file_answer (statuses.Version file major minor) (statuses.HostFault call) h i = absurd i
    one_file_answer (statuses.Version file major minor) statuses.NoMemory h i = absurd i
    one_file_answer (statuses.Absent missing) statuses.Usage h i = absurd i
    one_file_answer (statuses.Absent missing) (statuses.Unlinked class member wrong) h i = absurd i
    one_file_answer (statuses.Absent missing) (statuses.Unverified at_class method offset failed) h i = absurd i
    one_file_answer (statuses.Absent missing) (statuses.BadScript line) h i = absurd i
    one_file_answer (statuses.Absent missing) (statuses.HostFault call) h i = absurd i
    one_file_answer (statuses.Absent missing) statuses.NoMemory h i = absurd i
    one_file_answer statuses.Usage other h i = absurd h
    one_file_answer (statuses.Unlinked class member broken_rule) other h i = absurd h
    one_file_answer (statuses.Unverified at_class method offset failed) other h i = absurd h
    one_file_answer (statuses.BadScript line) other h i = absurd h
    one_file_answer (statuses.HostFault call) other h i = absurd h
    one_file_answer statuses.NoMemory other h i = absurd h

  -- ---- words

  one_of_command : (command : Command) (files : Files) (one other : Status) → IsCommandAnswer command files one → IsCommandAnswer command files other → one ≡ other
  one_of_command (OnFolder input library task) files one other h i = one_task_answer input library task files one other h i
  one_of_command (Listing input name) files one other h i = one_file_answer (files input) name one other h i
  one_of_command (Generated number size) files one other h i = h ∙ sym i

  module _ (words : List Word) (files : Files) where
    -- the words are outside the grammar, or spell a command with this answer
    usage_or : (status : Status) → IsAnswer words files status → ((status ≡ statuses.Usage) × IsUsage words) ⊎ HasAnswer words files status
    usage_or statuses.Usage is = inl (refl, is)
    usage_or statuses.Done is = inr is
    usage_or (statuses.Malformed name at rule) is = inr is
    usage_or (statuses.Version name major minor) is = inr is
    usage_or (statuses.Unlinked class member rule) is = inr is
    usage_or (statuses.Unverified class method offset rule) is = inr is
    usage_or (statuses.BadScript line) is = inr is
    usage_or (statuses.Absent name) is = inr is
    usage_or (statuses.HostFault call) is = inr is
    usage_or statuses.NoMemory is = inr is

    one_has : (one other : Status) → HasAnswer words files one → HasAnswer words files other → one ≡ other
    one_has one other h i =
        let same : i.command ≡ h.command = same_command words i.command h.command i.spelled h.spelled in
        one_of_command h.command files one other h.is (subst (λ (command : Command). IsCommandAnswer command files other) same i.is)

    pub one_answer : (one other : Status) → IsAnswer words files one → IsAnswer words files other → one ≡ other
    one_answer one other h i = by (usage_or one h) (usage_or other i)
      where
        by : ((one ≡ statuses.Usage) × IsUsage words) ⊎ HasAnswer words files one → ((other ≡ statuses.Usage) × IsUsage words) ⊎ HasAnswer words files other → one ≡ other
        by (inl usage) (inl also) = usage.0 ∙ sym also.0
        by (inl usage) (inr has) = absurd (usage.1 has.command has.spelled)
        by (inr has) (inl usage) = absurd (usage.1 has.command has.spelled)
        by (inr has) (inr also) = one_has one other has also
