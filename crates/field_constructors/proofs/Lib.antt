mod AnsweredLaws
mod ConstructorLaws
mod ConstructorTexts
mod FieldTextLaws
mod FreeConstructors
mod HandledLists
