pub mod PlainFolders
pub mod FolderTypings
