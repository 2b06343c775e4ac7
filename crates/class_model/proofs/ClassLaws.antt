-- Bytes are one class file or have one first fault, or neither; and so of a library's, by its header.
use Rattle.std.proofs.Common.{◌≡◌, ◌⊎◌, inl, inr, ℕ, List, Result, Ok, Err, sym, ap, subst, ◌∙◌}
use Rattle.class_model.specs.Checks.{Check, Fault, AllHold, IsFirstFault, asked_of}
use Rattle.class_model.specs.ClassOf.{checks_behind, class_file_checks, entered, IsReadVersion, ClassOf, IsOtherVersion, FirstFault}
use Rattle.class_model.specs.ClassOf.FirstFault.{in_head, behind}
use Rattle.class_model.specs.Cutting.{Rest, Cut, Version, version_at, class_file_at, uncut}
use Rattle.class_model.specs.Header.{FirstHeaderFault, HeaderOf, IsLibraryVersion, IsNoLibraryVersion, header_checks, header_of, library_file_checks}
use Rattle.class_model.specs.Header.FirstHeaderFault.{in_head as header_head, behind as header_behind}
use Rattle.class_model.specs.Laws.Checks.{one_fault, all_or_fault}
use Rattle.class_model.specs.declared.class_file.ClassFile.{ClassFile}
use Rattle.class_model.specs.declared.header.Header.{Header}

-- ---- the head is read once

one_pair : (r : Cut Version) (x y : Version × Rest) → r ≡ Ok x → r ≡ Ok y → x ≡ y
one_pair r x y e d = cc

one_head : (r : Cut Version) (version other : Version) (rest after : Rest) → r ≡ Ok (version, rest) → r ≡ Ok (other, after) → (version ≡ other) × (rest ≡ after)
one_head r version other rest after e d =
    let same = one_pair r (version, rest) (other, after) e d in
    (ap (λ (x : Version × Rest). x.0) same, ap (λ (x : Version × Rest). x.1) same)

head_or_fault : (r : Cut Version) (x : Version × Rest) (f : Fault) → r ≡ Ok x → r ≡ Err f → ⊥
head_or_fault r x f e d = absurd cc

one_error : (r : Cut Version) (f g : Fault) → r ≡ Err f → r ≡ Err g → f ≡ g
one_error r f g e d = cc

one_cut : (r : Result ClassFile Fault) (a b : ClassFile) → r ≡ Ok a → r ≡ Ok b → a ≡ b
one_cut r a b e d = cc

-- ---- a head, and checks behind a version that is read

-- A version that is read, and the first fault behind it.
record Behind (IsRead : Version → Type 0) (checks : Version → Rest → List (Check Fault)) (bytes : List ℕ) (f : Fault) : Type 0 where
  pub version : Version
  pub rest : Rest
  pub head : version_at (uncut bytes) ≡ Ok (version, rest)
  pub is_read : IsRead version
  pub first : IsFirstFault (checks version rest) f

-- a fault in the head or behind it
abbrev Told : (IsRead : Version → Type 0) (checks : Version → Rest → List (Check Fault)) → List ℕ → Fault → Type 0
Told IsRead checks bytes f = (version_at (uncut bytes) ≡ Err f) ⊎ Behind IsRead checks bytes f

one_behind : {IsRead : Version → Type 0} {checks : Version → Rest → List (Check Fault)} (bytes : List ℕ) (one other : Fault) → Behind IsRead checks bytes one → Behind IsRead checks bytes other → one ≡ other
one_behind {checks = checks} bytes one other a b =
    let same = one_head (version_at (uncut bytes)) a.version b.version a.rest b.rest a.head b.head in
    one_fault (checks a.version a.rest) one other a.first (rw (same.0, same.1) b.first)

one_told : {IsRead : Version → Type 0} {checks : Version → Rest → List (Check Fault)} (bytes : List ℕ) (one other : Fault) → Told IsRead checks bytes one → Told IsRead checks bytes other → one ≡ other
one_told bytes one other (inl a) (inl b) = one_error (version_at (uncut bytes)) one other a b
one_told bytes one other (inl a) (inr b) = absurd (head_or_fault (version_at (uncut bytes)) (b.version, b.rest) one b.head a)
one_told bytes one other (inr a) (inl b) = absurd (head_or_fault (version_at (uncut bytes)) (a.version, a.rest) other a.head b)
one_told bytes one other (inr a) (inr b) = one_behind bytes one other a b

-- no fault, where the head is read and none is behind it
none_told : {IsRead : Version → Type 0} {checks : Version → Rest → List (Check Fault)} (bytes : List ℕ) (version : Version) (rest : Rest) (f : Fault) → version_at (uncut bytes) ≡ Ok (version, rest) → ¬ Behind IsRead checks bytes f → ¬ Told IsRead checks bytes f
none_told bytes version rest f head none (inl a) = head_or_fault (version_at (uncut bytes)) (version, rest) f head a
none_told bytes version rest f head none (inr b) = none b

-- a version that is not read is none that is
not_read : (IsRead : Version → Type 0) (bytes : List ℕ) (version read : Version) (rest after : Rest) → version_at (uncut bytes) ≡ Ok (version, rest) → ¬ IsRead version → version_at (uncut bytes) ≡ Ok (read, after) → ¬ IsRead read
not_read IsRead bytes version read rest after head other read_head is_read =
    let same = one_head (version_at (uncut bytes)) version read rest after head read_head in
    other (rw same.0 is_read)

-- no fault, where the whole was cut and its checks hold
none_behind : (IsRead : Version → Type 0) (asks : ClassFile → List (Check Fault)) (bytes : List ℕ) (version : Version) (rest : Rest) (cut : ClassFile) (f : Fault)
    → version_at (uncut bytes) ≡ Ok (version, rest) → class_file_at version rest ≡ Ok cut → AllHold (asks cut) → ¬ Behind IsRead (λ version rest. asked_of (class_file_at version rest) asks) bytes f
none_behind IsRead asks bytes version rest cut f head is_cut holds b =
    let same = one_head (version_at (uncut bytes)) version b.version rest b.rest head b.head in
    let first : IsFirstFault (asked_of (class_file_at version rest) asks) f = rw (same.0, same.1) b.first in
    all_or_fault (asks cut) f holds (subst (λ (r : Result ClassFile Fault). IsFirstFault (asked_of r asks) f) is_cut first)

-- the whole is cut once
same_cut : (bytes : List ℕ) (version other : Version) (rest after : Rest) (one two : ClassFile)
    → version_at (uncut bytes) ≡ Ok (version, rest) → version_at (uncut bytes) ≡ Ok (other, after) → class_file_at version rest ≡ Ok one → class_file_at other after ≡ Ok two → one ≡ two
same_cut bytes version other rest after one two head other_head is_cut other_cut =
    let same = one_head (version_at (uncut bytes)) version other rest after head other_head in
    one_cut (class_file_at version rest) one two is_cut (rw (same.0, same.1) other_cut)

-- ---- class files

told : (bytes : List ℕ) (f : Fault) → FirstFault bytes f → Told IsReadVersion checks_behind bytes f
told bytes _ (in_head f e) = inl e
told bytes _ (behind version rest f head is_read first) = inr (record { version = version; rest = rest; head = head; is_read = is_read; first = first })

pub one_first_fault : (bytes : List ℕ) (one other : Fault) → FirstFault bytes one → FirstFault bytes other → one ≡ other
one_first_fault bytes one other p q = one_told bytes one other (told bytes one p) (told bytes other q)

pub no_fault : (bytes : List ℕ) (class : ClassFile) (f : Fault) → ClassOf bytes class → ¬ FirstFault bytes f
no_fault bytes class f c p = none_told bytes c.version c.rest f c.head (none_behind IsReadVersion class_file_checks bytes c.version c.rest c.cut f c.head c.is_cut c.holds) (told bytes f p)

pub other_version : (bytes : List ℕ) (version : Version) → IsOtherVersion bytes version → ((class : ClassFile) → ¬ ClassOf bytes class) × ((f : Fault) → ¬ FirstFault bytes f)
other_version bytes version o = (
  λ class c. not_read IsReadVersion bytes version c.version o.rest c.rest o.head o.other c.head c.is_read,
  λ f p. none_told bytes version o.rest f o.head (λ b. not_read IsReadVersion bytes version b.version o.rest b.rest o.head o.other b.head b.is_read) (told bytes f p),
)

pub one_class_file : (bytes : List ℕ) (one other : ClassFile) → ClassOf bytes one → ClassOf bytes other → one ≡ other
one_class_file bytes one other a b = a.is ∙ ap entered (same_cut bytes a.version b.version a.rest b.rest a.cut b.cut a.head b.head a.is_cut b.is_cut) ∙ sym b.is

-- ---- headers of a library's class files

header_told : (bytes : List ℕ) (f : Fault) → FirstHeaderFault bytes f → Told IsLibraryVersion library_file_checks bytes f
header_told bytes _ (header_head f e) = inl e
header_told bytes _ (header_behind version rest f head is_read first) = inr (record { version = version; rest = rest; head = head; is_read = is_read; first = first })

pub one_header_fault : (bytes : List ℕ) (one other : Fault) → FirstHeaderFault bytes one → FirstHeaderFault bytes other → one ≡ other
one_header_fault bytes one other p q = one_told bytes one other (header_told bytes one p) (header_told bytes other q)

pub no_header_fault : (bytes : List ℕ) (header : Header) (f : Fault) → HeaderOf bytes header → ¬ FirstHeaderFault bytes f
no_header_fault bytes header f h p = none_told bytes h.version h.rest f h.head (none_behind IsLibraryVersion header_checks bytes h.version h.rest h.cut f h.head h.is_cut h.holds) (header_told bytes f p)

pub no_fault_of_other : (bytes : List ℕ) (version : Version) (f : Fault) → IsNoLibraryVersion bytes version → ¬ FirstHeaderFault bytes f
no_fault_of_other bytes version f o p = none_told bytes version o.rest f o.head (λ b. not_read IsLibraryVersion bytes version b.version o.rest b.rest o.head o.other b.head b.is_read) (header_told bytes f p)

pub no_header_of_other : (bytes : List ℕ) (header : Header) (version : Version) → HeaderOf bytes header → ¬ IsNoLibraryVersion bytes version
no_header_of_other bytes header version h o = not_read IsLibraryVersion bytes version h.version o.rest h.rest o.head o.other h.head h.is_read

pub one_version : (bytes : List ℕ) (one other : Version) → IsNoLibraryVersion bytes one → IsNoLibraryVersion bytes other → one ≡ other
one_version bytes one other a b = (one_head (version_at (uncut bytes)) one other a.rest b.rest a.head b.head).0

pub one_header : (bytes : List ℕ) (one other : Header) → HeaderOf bytes one → HeaderOf bytes other → one ≡ other
one_header bytes one other a b = a.is ∙ ap header_of (same_cut bytes a.version b.version a.rest b.rest a.cut b.cut a.head b.head a.is_cut b.is_cut) ∙ sym b.is
