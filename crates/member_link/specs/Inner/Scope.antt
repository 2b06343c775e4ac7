-- Words for private functions, beside the definitions of the file of the same name in specs/.
use Rattle.class_model.specs.Header.{header_of}
use Rattle.class_tree.specs.Headers.{Name}
use Rattle.member_link.specs.Scope.{Scope}

-- the name of the current class
abbrev pub current : Scope → Name
current s = (header_of s.class).name
