-- A symbolic reference as code has it, borrowed from a constant pool.
use Rattle.member_link.specs.References.{Reference}
use Rattle.member_link.specs.declared.reference.MemberRef.{MemberRef}

-- the member that it names
abbrev pub reference_meant : MemberRef → Reference
reference_meant reference =
    record { class = reference.class.now; name = reference.name.now; desc = reference.desc.now }
