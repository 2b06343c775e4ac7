pub mod GeneratedActions
