-- What a tree of files in memory holds.
use Rattle.std.specs.Prelude.{Option, Some, None, String}
use Rattle.std.specs.BTreeMap.{BTreeMap, get_by_text}
use Rattle.host_tree.specs.Host.{Bytes, Folder, Files}
use Rattle.host_tree.specs.declared.tree.FileTree.{FileTree}

-- the folder at a root, where a root that is not there has no files
abbrev pub opened : {Y : Type 0} → Option (BTreeMap (String Y) Bytes) → Folder
opened (Some files) name = get_by_text files name
opened None name = None

-- the bytes under each name of a root
abbrev pub tree_files : FileTree → Files
tree_files tree root name = opened (get_by_text tree.roots root) name
